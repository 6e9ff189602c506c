-- Parts of a text, and what a writer took of it.
use Rattle.std.proofs.Common.{◌≡◌, ◌∙◌, ℕ, ◌+◌, ◌-◌, ◌≤◌, List, ◌++◌, length, take, drop, Option}
use Rattle.std.proofs.Common.{append_assoc, arith, ap, sym}
use Rattle.std.proofs.Math.Seq.{take-add}
use Rattle.std.proofs.lemmas.List.{take-append-drop, take_all, length-drop}
use Rattle.std.proofs.KnownBytes.{Appends-trans, Appends-kept}
use Rattle.std.specs.Io.KnownBytes.{Appends, Keeps}
use Rattle.byte_streams.specs.Parts.{TakesPart}

-- `&text[done..]`
abbrev pub tail : List ℕ → ℕ → List ℕ
tail text done = take (length text - done) (drop done text)

pub tail-drop : (text : List ℕ) (done : ℕ) → tail text done ≡ drop done text
tail-drop text done = take_all (length text - done) (drop done text) (omega (arith, length-drop done text))

pub tail-within : (text : List ℕ) (done more : ℕ) → done ≤ length text → more ≤ length (tail text done)
    → done + more ≤ length text
tail-within text done more within p =
    let q = rw (tail-drop text done) at p in
    omega (arith, length-drop done text)

-- what comes first in a text and then in its tail
pub take-tail : (text : List ℕ) (done more : ℕ) → take (done + more) text ≡ take done text ++ take more (tail text done)
take-tail text done more = rw (tail-drop text done) (take-add done more text)

-- a text is what comes first, what is used of its tail, and what is left
pub split-at : (text : List ℕ) (done used : ℕ)
    → text ≡ take done text ++ (take used (tail text done) ++ drop (done + used) text)
split-at text done used =
    sym (take-append-drop (done + used) text) ∙ ap (λ (t : List ℕ). t ++ drop (done + used) text)
    (take-tail text done used)
    ∙ append_assoc (take done text) (take used (tail text done)) (drop (done + used) text)

-- more of a text was taken
pub Appends-take : (a b c : Option (List ℕ)) (text : List ℕ) (done more : ℕ) → Appends a b (take done text)
    → Appends b c (take more (tail text done)) → Appends a c (take (done + more) text)
Appends-take a b c text done more p q = rw (take-tail text done more) (Appends-trans a b c _ _ p q)

-- a part was taken, and then nothing
pub TakesPart-kept : (a b c : Option (List ℕ)) (text : List ℕ) (done : ℕ) → Appends a b (take done text) → Keeps b c
    → TakesPart text a c
TakesPart-kept a b c text done p q =
    record {
      part = take done text;
      left = drop done text;
      cut = sym (take-append-drop done text);
      taken = Appends-kept a b c _ p q;
    }
