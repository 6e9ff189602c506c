-- Texts that are written whole, by the calls that wrote them. (Own.)
use Rattle.std.specs.Prelude.{◌≡◌, ◌<◌, ◌≤◌, ◌⊎◌, ℕ, List, [], ◌∷◌, length, drop, Ok}
use Rattle.std.specs.Io.KnownBytes.{Appends}
use Rattle.byte_streams.specs.declared.calls.WriteOnce.{Ghosts}
use Rattle.byte_streams.specs.Calls.{Writes, Flushes, WriteBreaks, FlushBreaks}
use Rattle.byte_streams.specs.Parts.{TakesPart}

-- Writes in a row left this end of a text: each was of all that was left before it, and took at least a byte of that.
pub data WritesLeave {W : Type 0} (known : Ghosts W) (text : List ℕ) (before : W) : List ℕ → W → Type 0 where
  no_write : WritesLeave known text before text before
  one_more : {left : List ℕ} {mid after : W} {count : ℕ} → WritesLeave known text before left mid
      → 0 < count → count ≤ length left → known.calls mid (Writes left (Ok count)) after
      → WritesLeave known text before (drop count left) after

-- A text was written whole and flushed: writes in a row took all of it, and then one flush succeeded.
pub record IsFlushed {W : Type 0} (known : Ghosts W) (text : List ℕ) (before after : W) : Type 0 where
  pub whole : Appends (known.holds before) (known.holds after) text
  pub mid : W
  pub writes : WritesLeave known text before [] mid
  pub flushed : known.calls mid (Flushes (Ok tt)) after

-- A call broke at what was left of a text: where a byte was left it was a write, and else the flush.
pub data CallBreaks {W : Type 0} (known : Ghosts W) (left : List ℕ) (before after : W) : Type 0 where
  at_write : 0 < length left → WriteBreaks known.calls left before after → CallBreaks known left before after
  at_flush : left ≡ [] → FlushBreaks known.calls before after → CallBreaks known left before after

-- A writer broke at a text: it took a beginning of it by writes in a row, and then one call broke, which was the last.
pub record BreaksAt {W : Type 0} (known : Ghosts W) (text : List ℕ) (before after : W) : Type 0 where
  pub part : TakesPart text (known.holds before) (known.holds after)
  pub mid : W
  pub writes : WritesLeave known text before part.left mid
  pub failed : CallBreaks known part.left mid after

-- a text was written whole and flushed, or the writer broke at it
abbrev pub WritesOrBreaks : {W : Type 0} → Ghosts W → List ℕ → W → W → Type 0
WritesOrBreaks known text before after = IsFlushed known text before after ⊎ BreaksAt known text before after

-- Lines were written whole and flushed, each before the next was begun. Where there is none nothing was written.
pub data AreFlushed {W : Type 0} (known : Ghosts W) : List (List ℕ) → W → W → Type 0 where
  no_line : {before : W} → AreFlushed known [] before before
  line_flushed : {line : List ℕ} {lines : List (List ℕ)} {before mid after : W} → IsFlushed known line before mid
      → AreFlushed known lines mid after → AreFlushed known (line ∷ lines) before after

-- A writer broke at lines: the first ones were flushed, and it broke at the next. Of any line after that it took
-- nothing.
pub data LinesBreak {W : Type 0} (known : Ghosts W) : List (List ℕ) → W → W → Type 0 where
  at_line : {line : List ℕ} {lines : List (List ℕ)} {before after : W} → BreaksAt known line before after
      → LinesBreak known (line ∷ lines) before after
  later : {line : List ℕ} {lines : List (List ℕ)} {before mid after : W} → IsFlushed known line before mid
      → LinesBreak known lines mid after → LinesBreak known (line ∷ lines) before after
