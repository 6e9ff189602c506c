-- An engine that scores an empty board by komi alone agrees with itself.
use Rattle.std.proofs.Common.{◌≡◌, ℕ, ◌≤◌, Bool, true, false, List, [], ◌∷◌, Option, Some, None, refl, sym, ◌∙◌}
use Rattle.std.proofs.Common.{ap, subst, arith, suc}
use Rattle.std.specs.Prelude.{ℤ, pos, negsuc, neg_ℤ, ◌+ℤ◌, ◌*ℤ◌, ◌==◌, nat_le, if◌then◌else◌}
use Rattle.std.proofs.lemmas.Bool.{and_parts}
use Rattle.std.proofs.lemmas.Bool.Decides.{nat_tests}
use Rattle.std.proofs.lemmas.Int.{ints}
use Rattle.go_base.specs.Komi.{IsKomi}
use Rattle.go_base.specs.HalfPoints.{score_text}
use Rattle.go_base.specs.declared.moves.Move.{Move}
use Rattle.go_board.specs.Game.{GameRecord}
use Rattle.go_board.specs.Area.{score}
use Rattle.gtp_check_judge.specs.declared.opinions.Opinion.{Opinion}
use Rattle.gtp_check_judge.specs.declared.opinions.Opinion.TheVariants.{Unheard, Once, Twice, Thrice}
use Rattle.gtp_check_judge.specs.declared.opinions.View.{View}
use Rattle.gtp_check_judge.specs.declared.scores.SaidScore.{SaidScore}
use Rattle.gtp_check_judge.specs.declared.scores.SaidScore.TheVariants.{Number, Long}
use Rattle.gtp_check_judge.specs.Komis.{is_near_komi}
use Rattle.gtp_check_judge.specs.Scores.{score_of_text}
use Rattle.gtp_check_judge.specs.Opinions.{agrees, agrees_with, allowed, distance, differ_as_komis, is_same, opinion_said}
use Rattle.gtp_check_judge.specs.Opinions.{opinion_with, view_of}
use Rattle.gtp_check_judge.specs.RightEngine.{RightEngine, is_empty, none_made, view_in, view_read}
use Rattle.gtp_check_judge.specs.Dues.{IsFresh}
use Rattle.gtp_check_judge.specs.Laws.{SaysScore}
use Rattle.gtp_check_judge.proofs.answers.Numbers.{IsViewOf, view_is}
use Rattle.gtp_check_judge.proofs.scoring.ReadBack.{IsRead, fresh_score_reads, halves}

-- by such an opinion nobody leads on the board alone
abbrev pub IsEven : Opinion → Type 0
IsEven Unheard = Unit {0}
IsEven (Once view) = view.lead ≡ pos 0
IsEven (Twice view) = view.lead ≡ pos 0
IsEven (Thrice view) = view.lead ≡ pos 0

pub even_with : (opinion : Opinion) (new : View) → IsEven opinion → new.lead ≡ pos 0
    → IsEven (opinion_with opinion new)
even_with Unheard new h e = e
even_with (Once old) new h e = by (is_same old new)
  where
    by : (b : Bool) → IsEven (if b then Twice old else Once new)
    by true = h
    by false = e
even_with (Twice old) new h e = by (is_same old new)
  where
    by : (b : Bool) → IsEven (if b then Thrice old else Once new)
    by true = h
    by false = e
even_with (Thrice old) new h e = by (old.size == new.size)
  where
    by : (b : Bool) → IsEven (if b then Thrice old else Once new)
    by true = h
    by false = e

never_less : (n : ℕ) → nat_le 0 n ≡ true
never_less n = grind (arith, nat_tests)

even_agrees : (opinion : Opinion) (new : View) → IsEven opinion → new.lead ≡ pos 0 → agrees opinion new ≡ true
even_agrees Unheard new h e = refl
even_agrees (Once old) new h e = refl
even_agrees (Twice old) new h e = refl
even_agrees (Thrice old) new h e = by (old.size == new.size)
  where
    near : differ_as_komis old new ≡ true
    near =
        ap (λ (z : ℤ). nat_le (distance z new.lead) (allowed old.unit new.unit)) h
        ∙ ap (λ (z : ℤ). nat_le (distance (pos 0) z) (allowed old.unit new.unit)) e
        ∙ never_less (allowed old.unit new.unit)

    by : (b : Bool) → (if b then differ_as_komis old new else true) ≡ true
    by true = near
    by false = refl

-- ---- what is said of an empty board

moves_none : (moves : List Move) → none_made moves ≡ true → moves ≡ []
moves_none [] e = refl
moves_none (move ∷ later) e = absurd (cc e)

number_none : (n : ℕ) → (n == 0) ≡ true → n ≡ 0
number_none n e = grind (arith, nat_tests)

fresh_of : (game : GameRecord) → is_empty game ≡ true → IsFresh game
fresh_of game e =
    let both = and_parts (none_made game.moves) (game.handicap == 0) e in
    record { no_moves = moves_none game.moves both.0; no_handicap = number_none game.handicap both.1 }

few_near : (n : ℕ) → nat_le n 2000 ≡ true → n ≤ 2000
few_near n e = grind (arith, nat_tests)

near_komi : (komi : ℤ) → is_near_komi komi ≡ true → IsKomi komi
near_komi (pos n) e =
    let few = few_near n e in record { least = omega (arith, ints); most = omega (arith, ints, few) }
near_komi (negsuc n) e =
    let few = few_near (suc n) e in record { least = omega (arith, ints, few); most = omega (arith, ints) }

-- the parts of what is compared
record IsCompared (game : GameRecord) (o : Option SaidScore) (new : View) : Type 0 where
  said : SaidScore
  is_said : o ≡ Some said
  empty : is_empty game ≡ true
  view : IsViewOf game.size game.komi said new

compared : (game : GameRecord) (o : Option SaidScore) (new : View) → view_read game o ≡ Some new
    → IsCompared game o new
compared game None new e = absurd (cc e)
compared game (Some said) new e = by (is_empty game) refl e
  where
    by : (b : Bool) → is_empty game ≡ b → (if b then view_of game.size game.komi said else None) ≡ Some new
        → IsCompared game (Some said) new
    by false empty e = absurd (cc e)
    by true empty e =
        record { said = said; is_said = refl; empty = empty; view = view_is game.size game.komi said new e }

abbrev millionths_of : SaidScore → ℤ
millionths_of (Number one) = one.millionths
millionths_of Long = pos 0

lead_none : (komi : ℤ) → (pos 500000 *ℤ neg_ℤ komi) +ℤ (pos 500000 *ℤ komi) ≡ pos 0
lead_none komi = omega (arith, ints)

-- what an engine says that scores by komi alone
pub even_said : (game : GameRecord) (new : View) → view_read game (score_of_text (score_text (score game))) ≡ Some new
    → new.lead ≡ pos 0
even_said game new e =
    let c : IsCompared game (score_of_text (score_text (score game))) new =
    compared game (score_of_text (score_text (score game))) new e in
    let fresh : IsFresh game = fresh_of game c.empty in
    let read : IsRead (score_text (score game)) (neg_ℤ game.komi) =
    fresh_score_reads game fresh (near_komi game.komi c.view.near) in
    let same : Some c.said ≡ Some (halves (neg_ℤ game.komi) read.unit) = sym c.is_said ∙ read.read in
    let said : c.said ≡ halves (neg_ℤ game.komi) read.unit = cc same in
    ap (λ (w : View). w.lead) c.view.new_is
    ∙ ap (λ (z : ℤ). z +ℤ (pos 500000 *ℤ game.komi)) (ap millionths_of (sym c.view.said_is ∙ said))
    ∙ lead_none game.komi

pub even_says : (engine : RightEngine) → IsEven engine.opinion → IsFresh engine.game → IsKomi engine.game.komi
    → SaysScore engine (score_of_text (score_text (score engine.game)))
even_says engine even fresh komi =
    let read : IsRead (score_text (score engine.game)) (neg_ℤ engine.game.komi) =
    fresh_score_reads engine.game fresh komi in
    let said : SaidScore = halves (neg_ℤ engine.game.komi) read.unit in
    subst (SaysScore engine) (sym read.read) (by said read.read (view_in engine.game said) refl)
  where
    by : (said : SaidScore) → score_of_text (score_text (score engine.game)) ≡ Some said → (o : Option View)
        → view_in engine.game said ≡ o → agrees_with engine.opinion o ≡ true
    by said is None e = refl
    by said is (Some new) e =
        even_agrees engine.opinion new even (even_said engine.game new (ap (view_read engine.game) is ∙ e))

pub even_then : (opinion : Opinion) (o : Option View) → IsEven opinion
    → ((new : View) → o ≡ Some new → new.lead ≡ pos 0) → IsEven (opinion_said opinion o)
even_then opinion None even lead = even
even_then opinion (Some new) even lead = even_with opinion new even (lead new refl)
