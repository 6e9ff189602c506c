-- What was taken of a text that is written in pieces.
use Rattle.std.proofs.Common.{ℕ, ◌+◌, ◌<◌, List, length, take, drop, Option, sym, arith}
use Rattle.std.proofs.lemmas.List.{take-append-drop, length-drop}
use Rattle.std.specs.Io.KnownBytes.{Appends}
use Rattle.byte_streams.specs.Parts.{TakesPart}
use Rattle.byte_streams.proofs.Parts.{tail, tail-drop, Appends-take}

-- the tail of what isn't all done has a byte
pub tail-some : (text : List ℕ) (done : ℕ) → done < length text → 0 < length (tail text done)
tail-some text done more = rw (tail-drop text done) (omega (arith, length-drop done text, more))

-- a part was taken, and then more of what was left
pub TakesPart-more : (a b c : Option (List ℕ)) (text : List ℕ) (done more : ℕ) → Appends a b (take done text)
    → Appends b c (take more (tail text done)) → TakesPart text a c
TakesPart-more a b c text done more p q =
    record {
      part = take (done + more) text;
      left = drop (done + more) text;
      cut = sym (take-append-drop (done + more) text);
      taken = Appends-take a b c text done more p q;
    }
