-- What an engine thinks of an empty board. (The standard's topic final_score leaves to the engine how it counts. So a
-- score is an opinion, and an engine may come to another one each time. What follows from the topic komi is a
-- difference: two scores of one board with two komis differ as the komis do, where the engine's opinion of the board
-- stays.) That it stays is taken from three scores in a row that are the same. An engine that draws estimates by chance
-- says the same three times where it keeps one for each komi. Nothing tells it from an engine that uses komi wrongly, so
-- it is found wrong at another komi.
use Rattle.std.specs.Prelude.{ℕ, ◌==◌, ◌&&◌, nat_le, max, Bool, true, ℤ, pos, ◌+ℤ◌, ◌-ℤ◌, ◌*ℤ◌, unsigned_abs}
use Rattle.std.specs.Prelude.{Option, None, Some, if◌then◌else◌}
use Rattle.gtp_check_judge.specs.declared.scores.SaidScore.{SaidScore}
use Rattle.gtp_check_judge.specs.declared.scores.SaidScore.TheVariants.{Number, Long}
use Rattle.gtp_check_judge.specs.declared.opinions.View.{View}
use Rattle.gtp_check_judge.specs.declared.opinions.Opinion.{Opinion}
use Rattle.gtp_check_judge.specs.declared.opinions.Opinion.TheVariants.{Unheard, Once, Twice, Thrice}
use Rattle.gtp_check_judge.specs.Komis.{is_near_komi}

-- What a score of an empty board of this size says of the board alone, where it is compared at all: it isn't where it
-- has too many digits, nor where komi is beyond a thousand points, either way. Black leads on the board alone by the
-- score and komi.
abbrev pub view_of : ℕ → ℤ → SaidScore → Option View
view_of size komi Long = None
view_of size komi (Number score) =
    if is_near_komi komi
    then Some (record {
      size = size;
      komi = komi;
      lead = score.millionths +ℤ (pos 500000 *ℤ komi);
      unit = score.unit;
    })
    else None

-- how far apart two numbers are
abbrev pub distance : ℤ → ℤ → ℕ
distance m n = unsigned_abs (m -ℤ n)

-- the same score of the same board: the size, komi and the number are the same
abbrev pub is_same : View → View → Bool
is_same old new =
    old.size == new.size && (distance old.komi new.komi == 0 && distance old.lead new.lead == 0)

-- By so many millionths of a point two scores may be apart, however many digits are written: a hundredth of a point. (The
-- standard's topic float: floats have 32 bits. At 1,000 points each sum is off by up to 31 or 61 millionths, and an engine
-- may add up hundreds. Komis differ by half points, so nothing that counts is missed.)
abbrev pub least_allowed : ℕ
least_allowed = 10000

-- how far two scores may be apart, where one of the last digit that is written is this in the one and that in the other
abbrev pub allowed : ℕ → ℕ → ℕ
allowed m n = max (max m n) least_allowed

-- Two scores differ as their komis do, within one of the last digit that is written, the coarser of the two, or within a
-- hundredth of a point.
abbrev pub differ_as_komis : View → View → Bool
differ_as_komis old new = nat_le (distance old.lead new.lead) (allowed old.unit new.unit)

-- The score is right by the opinion so far. It is compared only with one that was heard three times of the same
-- size.
abbrev pub agrees : Opinion → View → Bool
agrees Unheard new = true
agrees (Once old) new = true
agrees (Twice old) new = true
agrees (Thrice old) new = if old.size == new.size then differ_as_komis old new else true

-- The opinion after it. A score that comes out as the one before it was heard once more. Where it was heard three times
-- it stands until one of another size is heard. Any other was heard once.
abbrev pub opinion_with : Opinion → View → Opinion
opinion_with Unheard new = Once new
opinion_with (Once old) new = if is_same old new then Twice old else Once new
opinion_with (Twice old) new = if is_same old new then Thrice old else Once new
opinion_with (Thrice old) new = if old.size == new.size then Thrice old else Once new

-- the same where nothing is compared: then each score is right, and the opinion stays
abbrev pub agrees_with : Opinion → Option View → Bool
agrees_with opinion None = true
agrees_with opinion (Some new) = agrees opinion new

abbrev pub opinion_said : Opinion → Option View → Opinion
opinion_said opinion None = opinion
opinion_said opinion (Some new) = opinion_with opinion new
