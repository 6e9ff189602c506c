-- A piece, byte after byte.
use Rattle.std.proofs.Common.{◌≡◌, ℕ, ◌+◌, ◌<◌, ◌≤◌, List, [], ◌∷◌, ◌++◌, length, take, drop, get_or, Option, Some}
use Rattle.std.proofs.Common.{None, refl, sym, ◌∙◌, ap, arith, append_assoc, append-nil, below_more}
use Rattle.std.proofs.lemmas.List.{take_more, take_all, take-append-drop}
use Rattle.std.specs.Option.{option_to_list}
use Rattle.gtp_wire.specs.declared.lines.Line.{Line}
use Rattle.gtp_wire.specs.Lines.{lines, head_of, EndsLine, Finds, ReadsLine}
use Rattle.gtp_wire.proofs.line_reading.LinesOfTexts.{lines_open}

-- the first i bytes of the input after u gave no line, and v reads on as they do
pub record ReadsSoFar (u input : List ℕ) (i : ℕ) (v : List ℕ) : Type 0 where
  pub same : (z : List ℕ) → lines (u ++ (take i input ++ z)) ≡ lines (v ++ z)
  pub before : (k : ℕ) → k < i → lines (u ++ take k input) ≡ []
  pub no_line : lines v ≡ []

pub so_far_none : (u input : List ℕ) → lines u ≡ [] → ReadsSoFar u input 0 u
so_far_none u input none = record { same = λ z. refl; before = λ k h. absurd (omega arith); no_line = none }

-- a byte more
pub one_more : (u input : List ℕ) (i : ℕ) (v w : List ℕ) (o : Option Line) → ReadsSoFar u input i v → i < length input
    → ((z : List ℕ) → lines (v ++ get_or input i 0 ∷ z) ≡ option_to_list o ++ lines (w ++ z))
    → (z : List ℕ) → lines (u ++ (take (i + 1) input ++ z)) ≡ option_to_list o ++ lines (w ++ z)
one_more u input i v w o so_far inside step z =
    rw (take_more input i 0 inside)
    (rw (append_assoc (take i input) (get_or input i 0 ∷ []) z) (so_far.same (get_or input i 0 ∷ z) ∙ step z))

-- a newline more, which ends what is held
pub newline_more : (u input : List ℕ) (i : ℕ) (v w : List ℕ) (o : Option Line) → ReadsSoFar u input i v
    → i < length input → get_or input i 0 ≡ 10
    → ((z : List ℕ) → lines (v ++ 10 ∷ z) ≡ option_to_list o ++ lines z) → w ≡ []
    → (z : List ℕ) → lines (u ++ (take (i + 1) input ++ z)) ≡ option_to_list o ++ lines (w ++ z)
newline_more u input i v w o so_far inside newline step empty =
    one_more u input i v w o so_far inside (λ z. rw (newline, empty) (step z))

-- nothing is no whole line
pub nothing_open : (w : List ℕ) → w ≡ [] → lines w ≡ []
nothing_open w empty = rw empty (lines_open [] tt tt)

-- no whole line so far
none_here : (u input : List ℕ) (i : ℕ) (v : List ℕ) → ReadsSoFar u input i v → lines (u ++ take i input) ≡ []
none_here u input i v so_far =
    ap (λ t. lines (u ++ t)) (sym (append-nil (take i input))) ∙ so_far.same [] ∙ ap lines (append-nil v)
    ∙ so_far.no_line

pub none_before : (u input : List ℕ) (i : ℕ) (v : List ℕ) → ReadsSoFar u input i v → (k : ℕ) → k < i + 1
    → lines (u ++ take k input) ≡ []
none_before u input i v so_far =
    below_more (λ k. lines (u ++ take k input) ≡ []) i so_far.before (none_here u input i v so_far)

-- a newline ends the line
pub ends_line : (u input : List ℕ) (i : ℕ) (v : List ℕ) → ReadsSoFar u input i v → i < length input
    → get_or input i 0 ≡ 10
    → EndsLine u (take (i + 1) input)
ends_line u input i v so_far inside newline = record {
  front = take i input;
  newline = take_more input i 0 inside ∙ ap (λ b. take i input ++ b ∷ []) newline;
  before = none_here u input i v so_far;
}

pub so_far_more : (u input : List ℕ) (i : ℕ) (v w : List ℕ) → ReadsSoFar u input i v → i < length input
    → ((z : List ℕ) → lines (v ++ get_or input i 0 ∷ z) ≡ lines (w ++ z)) → lines w ≡ []
    → ReadsSoFar u input (i + 1) w
so_far_more u input i v w so_far inside step none = record {
  same = one_more u input i v w None so_far inside step;
  before = none_before u input i v so_far;
  no_line = none;
}

pub so_far_newline : (u input : List ℕ) (i : ℕ) (v w : List ℕ) → ReadsSoFar u input i v → i < length input
    → get_or input i 0 ≡ 10
    → ((z : List ℕ) → lines (v ++ 10 ∷ z) ≡ lines z) → w ≡ [] → ReadsSoFar u input (i + 1) w
so_far_newline u input i v w so_far inside newline step empty = record {
  same = newline_more u input i v w None so_far inside newline step empty;
  before = none_before u input i v so_far;
  no_line = nothing_open w empty;
}

-- the line is all that came
pub one_line : (u input : List ℕ) (n : ℕ) (w : List ℕ) (l : Line)
    → ((z : List ℕ) → lines (u ++ (take n input ++ z)) ≡ l ∷ lines (w ++ z)) → lines w ≡ []
    → lines (u ++ take n input) ≡ l ∷ []
one_line u input n w l rest none =
    ap (λ t. lines (u ++ t)) (sym (append-nil (take n input))) ∙ rest []
    ∙ ap (λ t. l ∷ t) (ap lines (append-nil w) ∙ none)

pub first_line : (u input : List ℕ) (n : ℕ) (w : List ℕ) (l : Line)
    → ((z : List ℕ) → lines (u ++ (take n input ++ z)) ≡ l ∷ lines (w ++ z))
    → Some l ≡ head_of (lines (u ++ input))
first_line u input n w l rest =
    sym (ap (λ t. head_of (lines (u ++ t))) (sym (take-append-drop n input)) ∙ ap head_of (rest (drop n input)))

pub all_read : (u input : List ℕ) (i : ℕ) (v : List ℕ) → ReadsSoFar u input i v → length input ≤ i
    → lines (u ++ input) ≡ []
all_read u input i v so_far past =
    ap (λ t. lines (u ++ t)) (sym (take_all i input past)) ∙ none_here u input i v so_far

-- no line is found in it
pub all_found : (u input : List ℕ) (i : ℕ) (v : List ℕ) → ReadsSoFar u input i v → length input ≤ i
    → (n : ℕ) → n ≡ length input → Finds u (take n input) [] v
all_found u input i v so_far past n all = record {
  rest =
      λ z. ap (λ t. lines (u ++ (t ++ z))) (take_all n input (omega (arith, all)) ∙ sym (take_all i input past))
      ∙ so_far.same z;
  no_line = so_far.no_line;
}

-- a newline ends a line, which is found
pub line_read : (u input : List ℕ) (i : ℕ) (v w : List ℕ) (l : Line) → lines u ≡ [] → ReadsSoFar u input i v
    → i < length input → get_or input i 0 ≡ 10
    → ((z : List ℕ) → lines (v ++ 10 ∷ z) ≡ l ∷ lines z) → w ≡ []
    → ReadsLine u input (i + 1) (Some l) w
line_read u input i v w l none so_far inside newline step empty =
    let rest = newline_more u input i v w (Some l) so_far inside newline step empty in
    record {
      held = none;
      first = first_line u input (i + 1) w l rest;
      within = omega (arith, inside);
      whole = one_line u input (i + 1) w l rest (nothing_open w empty);
      newline = ends_line u input i v so_far inside newline;
      before = none_before u input i v so_far;
      none = tt;
      finds = record { rest = rest; no_line = nothing_open w empty };
      progress = λ some. omega arith;
    }

-- the piece ends, and none is found
pub none_read : (u input : List ℕ) (i : ℕ) (v : List ℕ) → lines u ≡ [] → ReadsSoFar u input i v
    → i ≡ length input → ReadsLine u input (length input) None v
none_read u input i v none so_far all = record {
  held = none;
  first = sym (ap head_of (all_read u input i v so_far (omega (arith, all))));
  within = omega arith;
  whole = tt;
  newline = tt;
  before = λ k below. so_far.before k (omega (arith, all, below));
  none = refl;
  finds = all_found u input i v so_far (omega (arith, all)) _ refl;
  progress = λ some. some;
}
