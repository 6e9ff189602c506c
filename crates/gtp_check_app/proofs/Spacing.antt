-- Commands with `name` between them are added one after the other.
use Rattle.std.proofs.Common.{◌≡◌, ◌∙◌, ◌++◌, ◌∷◌, ◌+◌, ◌-◌, ◌<◌, ◌≤◌, ℕ, Bool, List, ap, arith, sym, append_assoc}
use Rattle.std.proofs.Common.{length, drop, get_or}
use Rattle.std.specs.Prelude.{if◌then◌else◌}
use Rattle.std.proofs.lemmas.Bool.{le-ltb, lt-ltb}
use Rattle.std.proofs.lemmas.List.{append-nil, at_drop_all, at_drop_more}
use Rattle.gtp_check_judge.specs.declared.asking.CheckCommand.{CheckCommand}
use Rattle.gtp_check_app.specs.Trials.{left_after, own_spaced, spaced, with_names_before}

-- one more command is added to those so far
one_more : (all next : List CheckCommand) (command : CheckCommand) (later : List CheckCommand) (left after : ℕ)
    → next ≡ all ++ with_names_before command left → after ≡ left_after command left
    → next ++ spaced after later ≡ all ++ spaced left (command ∷ later)
unfolding spaced
one_more all next command later left after is after-is =
    ap (λ (l : List CheckCommand). l ++ spaced after later) is
    ∙ append_assoc all (with_names_before command left) (spaced after later)
    ∙ ap (λ (n : ℕ). all ++ (with_names_before command left ++ spaced n later)) after-is

-- the others are those after it
pub spaced_more : (commands : List CheckCommand) (k left : ℕ) (command : CheckCommand)
    (whole all next : List CheckCommand) (after : ℕ) → k < length commands → command ≡ get_or commands k command
    → next ≡ all ++ with_names_before command left → after ≡ left_after command left
    → all ++ spaced left (drop k commands) ≡ whole
    → next ++ spaced after (drop (k + 1) commands) ≡ whole
spaced_more commands k left command whole all next after within here is after-is so_far =
    one_more all next command (drop (k + 1) commands) left after is after-is
    ∙ ap (λ (one : CheckCommand). all ++ spaced left (one ∷ drop (k + 1) commands)) here
    ∙ sym (at_drop_more (λ (l : List CheckCommand). all ++ spaced left l) commands k command within)
    ∙ so_far

-- no others are left
pub all_spaced : (commands : List CheckCommand) (k left : ℕ) (whole all : List CheckCommand) → length commands ≤ k
    → all ++ spaced left (drop k commands) ≡ whole → all ≡ whole
unfolding spaced
all_spaced commands k left whole all past so_far =
    sym (append-nil all) ∙ sym (at_drop_all (λ (l : List CheckCommand). all ++ spaced left l) commands k past)
    ∙ so_far

-- ---- commands of the conversation among those that are asked

-- how many are asked with a command
abbrev with_it : CheckCommand → ℕ → ℕ
with_it command left = length (with_names_before command left)

abbrev own_if : Bool → ℕ → ℕ
own_if less more = if less then 0 else more + 1

-- where the first command is among them, it is one, and the others are those after it
own_next : (command : CheckCommand) (later : List CheckCommand) (left count : ℕ) → with_it command left ≤ count
    → own_spaced left (command ∷ later) count
    ≡ own_spaced (left_after command left) later (count - with_it command left) + 1
unfolding own_spaced
own_next command later left count there =
    ap (λ (less : Bool). own_if less (own_spaced (left_after command left) later (count - with_it command left)))
    (le-ltb count (with_it command left) there)

-- where it isn't, none is
own_none : (command : CheckCommand) (later : List CheckCommand) (left count : ℕ) → count < with_it command left
    → own_spaced left (command ∷ later) count ≡ 0
unfolding own_spaced
own_none command later left count few =
    ap (λ (less : Bool). own_if less (own_spaced (left_after command left) later (count - with_it command left)))
    (lt-ltb count (with_it command left) few)

module _ (commands : List CheckCommand) (k left rest asked total : ℕ) (command : CheckCommand)
    (within : k < length commands) (here : command ≡ get_or commands k command)
    (count : asked ≡ with_it command left) (so_far : k + own_spaced left (drop k commands) rest ≡ total) where
  -- the commands from here on are this one and those after it
  from_here : own_spaced left (drop k commands) rest ≡ own_spaced left (command ∷ drop (k + 1) commands) rest
  from_here =
      at_drop_more (λ (l : List CheckCommand). own_spaced left l rest) commands k command within
      ∙ ap (λ (one : CheckCommand). own_spaced left (one ∷ drop (k + 1) commands) rest) (sym here)

  -- one more of them is among those that are asked
  pub own_more : (after fewer : ℕ) → asked ≤ rest → after ≡ left_after command left → fewer ≡ rest - asked
      → k + 1 + own_spaced after (drop (k + 1) commands) fewer ≡ total
  own_more after fewer there after-is fewer-is =
      let one = own_next command (drop (k + 1) commands) left rest (omega (arith, there, count)) in
      let others = ap (λ (n : ℕ). own_spaced n (drop (k + 1) commands) fewer) after-is
      ∙ ap (λ (n : ℕ). own_spaced (left_after command left) (drop (k + 1) commands) n) fewer-is
      ∙ ap (λ (n : ℕ). own_spaced (left_after command left) (drop (k + 1) commands) (rest - n)) count in
      omega (arith, so_far, from_here, one, others)

  -- and no other
  pub own_ends : rest < asked → k ≡ total
  own_ends few =
      let none = own_none command (drop (k + 1) commands) left rest (omega (arith, few, count)) in
      omega (arith, so_far, from_here, none)

-- all of them are
pub all_own : (commands : List CheckCommand) (k left rest total : ℕ) → length commands ≤ k
    → k + own_spaced left (drop k commands) rest ≡ total → k ≡ total
unfolding own_spaced
all_own commands k left rest total past so_far =
    let none = at_drop_all (λ (l : List CheckCommand). own_spaced left l rest) commands k past in
    omega (arith, so_far, none)
