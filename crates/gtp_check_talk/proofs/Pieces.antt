-- Pieces that a process was sent.
use Rattle.std.proofs.Common.{◌≡◌, ◌∙◌, ◌<◌, ◌-◌, ap, subst, ℕ, Bool, true, false, List, [], ◌∷◌, length, take, drop}
use Rattle.std.proofs.Common.{refl, arith}
use Rattle.gtp_process.specs.declared.starter.Process.{Ghosts}
use Rattle.gtp_check_talk.specs.Dialogues.{PiecesAreSent, IsSent, IsWrittenWhole, IsWrittenInPart, later_bytes, no_piece, part}
use Rattle.gtp_check_talk.specs.Dialogues.{two_pieces, whole}

-- one piece, which the process took whole or in part
pub one_piece : {P : Type 0} (known : Ghosts P) (piece : List ℕ) (before after : P) (is_whole : Bool)
    → (is_whole ≡ true → IsWrittenWhole known piece before after)
    → (is_whole ≡ false → IsWrittenInPart known piece before after)
    → PiecesAreSent known (piece ∷ []) before after
one_piece known piece before after true taken cut = whole piece (taken refl) no_piece
one_piece known piece before after false taken cut = part piece (cut refl)

-- lines that are there are sent at once, or in two pieces
pub lines_sent : {P : Type 0} (known : Ghosts P) (in_pieces : Bool) (lines : List ℕ) (before after : P)
    → 0 < length lines → (in_pieces ≡ false → PiecesAreSent known (lines ∷ []) before after)
    → (in_pieces ≡ true → PiecesAreSent known (two_pieces lines) before after)
    → IsSent known in_pieces lines before after
lines_sent known in_pieces [] before after some at_once in_two = absurd (omega (arith, some))
lines_sent known true (byte ∷ more) before after some at_once in_two = in_two refl
lines_sent known false (byte ∷ more) before after some at_once in_two = at_once refl

-- where there is no line, nothing is sent
pub none_sent : {P : Type 0} (known : Ghosts P) (in_pieces : Bool) (lines : List ℕ) (before : P) → length lines ≡ 0
    → IsSent known in_pieces lines before before
none_sent known in_pieces [] before none = no_piece
none_sent known in_pieces (byte ∷ more) before none = absurd (omega (arith, none))

module _ {P : Type 0} (known : Ghosts P) (lines first second : List ℕ) (at : ℕ) (is-at : at ≡ length lines - later_bytes)
    (is-first : first ≡ take at lines) where
  -- the first piece was taken in part
  pub cut_in_first : (before after : P) → IsWrittenInPart known first before after
      → PiecesAreSent known (two_pieces lines) before after
  cut_in_first before after cut =
      subst (λ (one : List ℕ). PiecesAreSent known (one ∷ drop (length lines - later_bytes) lines ∷ []) before after)
      (is-first ∙ ap (λ (n : ℕ). take n lines) is-at) (part first cut)

  -- the first piece was taken whole, and the second sent
  pub both_sent : (before mid after : P) → second ≡ drop at lines → IsWrittenWhole known first before mid
      → PiecesAreSent known (second ∷ []) mid after → PiecesAreSent known (two_pieces lines) before after
  both_sent before mid after is-second taken more =
      subst (λ (one : List ℕ). PiecesAreSent known (one ∷ drop (length lines - later_bytes) lines ∷ []) before after)
      (is-first ∙ ap (λ (n : ℕ). take n lines) is-at)
      (whole first taken
      (subst (λ (two : List ℕ). PiecesAreSent known (two ∷ []) mid after)
      (is-second ∙ ap (λ (n : ℕ). drop n lines) is-at) more))
