-- Bytes as they are shown.
use Rattle.std.proofs.Common.{◌≡◌, ℕ, ◌+◌, ◌*◌, ◌<◌, ◌≤◌, length, take, get_or, arith, List, [], ◌∷◌, ◌++◌, sym}
use Rattle.std.proofs.Common.{◌∙◌, ap, append_assoc}
use Rattle.std.proofs.lemmas.List.{append-nil, take_more}
use Rattle.gtp_process.specs.Shown.{shown_byte, shown_bytes}

-- several texts after another, one after the other or together
pub joined-3 : (l a b d : List ℕ) → ((l ++ a) ++ b) ++ d ≡ l ++ (a ++ (b ++ d))
joined-3 l a b d = append_assoc (l ++ a) b d ∙ append_assoc l a (b ++ d)

pub joined-4 : (l a b d e : List ℕ) → (((l ++ a) ++ b) ++ d) ++ e ≡ l ++ (a ++ (b ++ (d ++ e)))
joined-4 l a b d e = append_assoc ((l ++ a) ++ b) d e ∙ joined-3 l a b (d ++ e)

pub joined-5 : (l a b d e f : List ℕ) → ((((l ++ a) ++ b) ++ d) ++ e) ++ f ≡ l ++ (a ++ (b ++ (d ++ (e ++ f))))
joined-5 l a b d e f = append_assoc (((l ++ a) ++ b) ++ d) e f ∙ joined-4 l a b d (e ++ f)

-- one byte more
shown_bytes-push : (bytes : List ℕ) (last : ℕ) → shown_bytes (bytes ++ last ∷ []) ≡ shown_bytes bytes ++ shown_byte last
shown_bytes-push [] last = append-nil (shown_byte last)
shown_bytes-push (b ∷ bytes) last =
    ap (λ (t : List ℕ). shown_byte b ++ t) (shown_bytes-push bytes last)
    ∙ sym (append_assoc (shown_byte b) (shown_bytes bytes) (shown_byte last))

-- `count` bytes are shown after a line
pub record AreShown (bytes : List ℕ) (count : ℕ) (line text : List ℕ) : Type 0 where
  pub shown : text ≡ line ++ shown_bytes (take count bytes)
  pub short : length text ≤ length line + 4 * count

-- one more is shown
pub AreShown-push : (bytes : List ℕ) (count : ℕ) (line text new : List ℕ) (last other : ℕ)
    → AreShown bytes count line text → count < length bytes → last ≡ get_or bytes count other
    → length new ≤ length text + 4 → new ≡ text ++ shown_byte last → AreShown bytes (count + 1) line new
AreShown-push bytes count line text new last other so_far inside is longer appended =
    record {
      short = omega (arith, longer, so_far.short);
      shown =
          appended ∙ ap (λ (t : List ℕ). t ++ shown_byte last) so_far.shown
          ∙ append_assoc line (shown_bytes (take count bytes)) (shown_byte last)
          ∙ ap (λ (t : List ℕ). line ++ t) (sym (shown_bytes-push (take count bytes) last)
          ∙ ap (λ (b : ℕ). shown_bytes (take count bytes ++ b ∷ [])) is
          ∙ ap (λ (t : List ℕ). shown_bytes t) (sym (take_more bytes count other inside)));
    }
