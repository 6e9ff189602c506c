-- Texts that are written whole, and lines of them.
use Rattle.std.proofs.Common.{◌≡◌, ◌∙◌, ℕ, ◌+◌, ◌≤◌, ◌<◌, List, [], ◌∷◌, ◌++◌, length, take, drop, Option, None, Some}
use Rattle.std.proofs.Common.{sym}
use Rattle.std.proofs.Common.{arith, inl, inr, subst, Result, Ok, Err, OnOk, OnErr}
use Rattle.std.proofs.lemmas.List.{take-append-drop, take_all, length-drop, drop-drop, drop_all, append-nil}
use Rattle.std.proofs.KnownBytes.{Appends-kept}
use Rattle.std.specs.Io.KnownBytes.{Appends, Keeps}
use Rattle.byte_streams.specs.declared.calls.CallFault.{CallFault}
use Rattle.byte_streams.specs.declared.calls.WriteOnce.{Ghosts}
use Rattle.byte_streams.specs.Calls.{Writes, Flushes, FlushBreaks}
use Rattle.byte_streams.specs.Writing.{BreaksAt, IsFlushed, LinesBreak, AreFlushed, WritesLeave, CallBreaks}
use Rattle.byte_streams.specs.Writing.{at_line, later, line_flushed, no_line, one_more, at_write, at_flush}
use Rattle.byte_streams.proofs.Parts.{tail, tail-drop}

module _ {W : Type 0} (known : Ghosts W) where
  -- one more write in a row, of the tail of a text
  pub leave_more : (text : List ℕ) (done count : ℕ) (before mid after : W)
      → WritesLeave known text before (drop done text) mid → 0 < count → count ≤ length (tail text done)
      → known.calls mid (Writes (tail text done) (Ok count)) after
      → WritesLeave known text before (drop (done + count) text) after
  leave_more text done count before mid after leave some within call =
      let p = rw (tail-drop text done) at within in
      let q = rw (tail-drop text done) at call in
      let P : List ℕ → Type 0 = λ left. WritesLeave known text before left after in
      subst P (drop-drop count done text) (one_more leave some p q)

  -- a write of the tail failed
  pub tail_fails : (text : List ℕ) (done : ℕ) (before after : W) (fault : CallFault) → done < length text
      → known.calls before (Writes (tail text done) (Err fault)) after
      → CallBreaks known (drop done text) before after
  tail_fails text done before after fault some call =
      let q = rw (tail-drop text done) at call in
      at_write (omega (arith, length-drop done text, some)) (inl (fault, q))

  -- a write of the tail took none of it
  pub tail_stops : (text : List ℕ) (done : ℕ) (before after : W) → done < length text
      → known.calls before (Writes (tail text done) (Ok 0)) after → CallBreaks known (drop done text) before after
  tail_stops text done before after some call =
      let p : 0 < length (drop done text) = omega (arith, length-drop done text, some) in
      let q = rw (tail-drop text done) at call in
      at_write p (inr (p, q))

  -- the flush of a text that was taken whole broke
  pub flush_breaks : (text : List ℕ) (done : ℕ) (before after : W) → length text ≤ done
      → FlushBreaks known.calls before after → CallBreaks known (drop done text) before after
  flush_breaks text done before after over breaks = at_flush (drop_all done text over) breaks

  -- a writer broke at a text where one call broke, and nothing more was taken
  pub breaks_at : (text : List ℕ) (done : ℕ) (before mid after : W)
      → Appends (known.holds before) (known.holds mid) (take done text) → Keeps (known.holds mid) (known.holds after)
      → WritesLeave known text before (drop done text) mid → CallBreaks known (drop done text) mid after
      → BreaksAt known text before after
  breaks_at text done before mid after taken kept leave failed =
      record {
        part = record {
          part = take done text;
          left = drop done text;
          cut = sym (take-append-drop done text);
          taken = Appends-kept _ _ _ _ taken kept;
        };
        mid = mid;
        writes = leave;
        failed = failed;
      }

  -- a text that was taken whole is flushed, where the flush succeeded
  pub is_flushed : (text : List ℕ) (done : ℕ) (before mid after : W) → length text ≤ done
      → Appends (known.holds before) (known.holds mid) (take done text) → Keeps (known.holds mid) (known.holds after)
      → WritesLeave known text before (drop done text) mid → known.calls mid (Flushes (Ok tt)) after
      → IsFlushed known text before after
  is_flushed text done before mid after over taken kept leave flushed =
      let P : List ℕ → Type 0 = λ t. Appends (known.holds before) (known.holds after) t in
      let Q : List ℕ → Type 0 = λ left. WritesLeave known text before left mid in
      record {
        whole = subst P (take_all done text over) (Appends-kept _ _ _ _ taken kept);
        mid = mid;
        writes = subst Q (drop_all done text over) leave;
        flushed = flushed;
      }

-- to take no byte keeps what was held
pub Appends-none : (a b : Option (List ℕ)) (text : List ℕ) (count : ℕ) → count ≡ 0 → Appends a b (take count text)
    → Keeps a b
Appends-none None b text count is taken = tt
Appends-none (Some xs) None text count is taken = taken
Appends-none (Some xs) (Some ys) text count is taken =
    let P : ℕ → Type 0 = λ n. ys ≡ xs ++ take n text in
    subst P is taken ∙ append-nil xs

-- ---- lines, one after another

module _ {W : Type 0} (known : Ghosts W) where
  -- lines that were flushed, and then more of them
  pub lines_then : (first more : List (List ℕ)) (before mid after : W) → AreFlushed known first before mid
      → AreFlushed known more mid after → AreFlushed known (first ++ more) before after
  lines_then _ more before _ after no_line rest = rest
  lines_then _ more before mid after (line_flushed {lines = lines} {mid = between} out lines_flushed) rest =
      line_flushed out (lines_then lines more between mid after lines_flushed rest)

  -- lines that were flushed, and then some at which the writer broke
  pub breaks_later : (first more : List (List ℕ)) (before mid after : W) → AreFlushed known first before mid
      → LinesBreak known more mid after → LinesBreak known (first ++ more) before after
  breaks_later _ more before _ after no_line breaks = breaks
  breaks_later _ more before mid after (line_flushed {lines = lines} {mid = between} out lines_flushed) breaks =
      later out (breaks_later lines more between mid after lines_flushed breaks)

  -- the writer broke at the first of them
  pub breaks_first : (first more : List (List ℕ)) (before after : W) → LinesBreak known first before after
      → LinesBreak known (first ++ more) before after
  breaks_first _ more before after (at_line breaks) = at_line breaks
  breaks_first _ more before after (later {lines = lines} {mid = between} out breaks) =
      later out (breaks_first lines more between after breaks)

  -- the same of a last call, whatever it returns: one line by itself
  pub one_out : {T F : Type 0} (result : Result T F) (line : List ℕ) (before after : W)
      → OnOk result (IsFlushed known line before after) → OnOk result (AreFlushed known (line ∷ []) before after)
  one_out (Ok x) line before after out = line_flushed out no_line
  one_out (Err e) line before after out = tt

  pub one_breaks : {T F : Type 0} (result : Result T F) (line : List ℕ) (before after : W)
      → OnErr result (BreaksAt known line before after) → OnErr result (LinesBreak known (line ∷ []) before after)
  one_breaks (Ok x) line before after breaks = tt
  one_breaks (Err e) line before after breaks = at_line breaks

  -- and lines after those that were flushed
  pub more_out : {T F : Type 0} (result : Result T F) (first more : List (List ℕ)) (before mid after : W)
      → AreFlushed known first before mid → OnOk result (AreFlushed known more mid after)
      → OnOk result (AreFlushed known (first ++ more) before after)
  more_out (Ok x) first more before mid after out rest = lines_then first more before mid after out rest
  more_out (Err e) first more before mid after out rest = tt

  pub more_breaks : {T F : Type 0} (result : Result T F) (first more : List (List ℕ)) (before mid after : W)
      → AreFlushed known first before mid → OnErr result (LinesBreak known more mid after)
      → OnErr result (LinesBreak known (first ++ more) before after)
  more_breaks (Ok x) first more before mid after out breaks = tt
  more_breaks (Err e) first more before mid after out breaks = breaks_later first more before mid after out breaks
