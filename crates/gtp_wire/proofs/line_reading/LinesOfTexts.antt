-- How the lines of a text come from its front.
use Rattle.go_base.proofs.general.Lists.{AllByRecursion-append, split_parts}
use Rattle.std.proofs.lemmas.Bool.{cases_Bool}
use Rattle.std.proofs.Common.{◌≡◌, ℕ, List, [], ◌∷◌, ◌++◌, Option, Some, None, Bool, true, false, refl, sym, ◌∙◌, ap}
use Rattle.std.proofs.Common.{inl, inr, append_assoc, append-nil, filter}
use Rattle.std.proofs.lemmas.List.Elements.{filter-append, All-from_recursion}
use Rattle.std.proofs.lemmas.List.Splits.{slice_split_at, slice_split_none}
use Rattle.std.specs.List.{slice_split, filter_map, cons_option, AllByRecursion}
use Rattle.std.specs.Option.{option_to_list}
use Rattle.gtp_wire.specs.declared.lines.Line.{Line}
use Rattle.gtp_wire.specs.Bytes.{is_kept, is_newline}
use Rattle.gtp_wire.specs.Lines.{lines, line_of, but_last}

-- a text without a newline
abbrev pub NoNewline : List ℕ → Type 0
NoNewline u = AllByRecursion (λ b. is_newline b ≡ false) u

-- the lines of a text without the bytes that are removed
unfoldable pub cut_lines : List ℕ → List Line
cut_lines text = filter_map line_of (but_last (slice_split is_newline text))

-- the first part ends at the first element that passes
pub split_at : {X : Type 0} (p : X → Bool) (u : List X) (y : X) (s : List X) → AllByRecursion (λ b. p b ≡ false) u
    → p y ≡ true
    → slice_split p (u ++ y ∷ s) ≡ u ∷ slice_split p s
split_at p u y s none e = slice_split_at p u y s (All-from_recursion _ u none) e

pub split_none : {X : Type 0} (p : X → Bool) (u : List X) → AllByRecursion (λ b. p b ≡ false) u
    → slice_split p u ≡ u ∷ []
split_none p u none = slice_split_none p u (All-from_recursion _ u none)

lines_of_parts : (u : List ℕ) (parts : List (List ℕ)) (w : List ℕ) (ws : List (List ℕ)) → parts ≡ w ∷ ws
    → filter_map line_of (but_last (u ∷ parts)) ≡ cons_option (line_of u) (filter_map line_of (but_last parts))
lines_of_parts u [] w ws e = absurd (cc)
lines_of_parts u (x ∷ xs) w ws e = refl

-- a newline ends the first line
pub cut_lines_newline : (u : List ℕ) (b : ℕ) (s : List ℕ) → NoNewline u → is_newline b ≡ true
    → cut_lines (u ++ b ∷ s) ≡ cons_option (line_of u) (cut_lines s)
unfolding cut_lines
cut_lines_newline u b s none e =
    let parts = split_parts is_newline s in
    ap (λ ps. filter_map line_of (but_last ps)) (split_at is_newline u b s none e)
    ∙ lines_of_parts u (slice_split is_newline s) parts.0 parts.1 parts.2

-- no line ends without a newline
pub cut_lines_open : (u : List ℕ) → NoNewline u → cut_lines u ≡ []
unfolding cut_lines
cut_lines_open u none = ap (λ ps. filter_map line_of (but_last ps)) (split_none is_newline u none)

-- Texts that read as one line alike, whatever ends it, begin the same lines.
pub cut_lines_same : (u v s : List ℕ) → NoNewline u → NoNewline v
    → ((l : List ℕ) → line_of (u ++ l) ≡ line_of (v ++ l)) → cut_lines (u ++ s) ≡ cut_lines (v ++ s)
cut_lines_same u v [] nu nv same =
    rw (append-nil u, append-nil v) (cut_lines_open u nu ∙ sym (cut_lines_open v nv))
cut_lines_same u v (b ∷ s) nu nv same =
    let at_end : line_of u ≡ line_of v = ap line_of (sym (append-nil u)) ∙ same [] ∙ ap line_of (append-nil v) in
    elim (cases_Bool (is_newline b)) [
      | inl e ↦ cut_lines_newline u b s nu e ∙ ap (λ o. cons_option o (cut_lines s)) at_end
          ∙ sym (cut_lines_newline v b s nv e)
      | inr e ↦
          ap cut_lines (sym (append_assoc u (b ∷ []) s))
          ∙ cut_lines_same (u ++ b ∷ []) (v ++ b ∷ []) s
          (AllByRecursion-append _ u (b ∷ []) nu (e, tt)) (AllByRecursion-append _ v (b ∷ []) nv (e, tt))
          (λ l. rw (append_assoc u (b ∷ []) l, append_assoc v (b ∷ []) l) (same (b ∷ l)))
          ∙ ap cut_lines (append_assoc v (b ∷ []) s)
    ]

filter_kept : (u : List ℕ) → AllByRecursion (λ b. is_kept b ≡ true) u → filter is_kept u ≡ u
filter_kept [] kept = refl
filter_kept (b ∷ u) kept = rw kept.0 (ap (λ w. b ∷ w) (filter_kept u kept.1))

filter_removed : (b : ℕ) (z : List ℕ) → is_kept b ≡ false → filter is_kept (b ∷ z) ≡ filter is_kept z
filter_removed b z e = rw e refl

joined_option : {X : Type 0} (o : Option X) (xs : List X) → cons_option o xs ≡ option_to_list o ++ xs
joined_option None xs = refl
joined_option (Some x) xs = refl

-- the lines of a text, when what is removed is removed
pub lines_cut : (text : List ℕ) → lines text ≡ cut_lines (filter is_kept text)
unfolding lines cut_lines
lines_cut text = refl

-- a text of kept bytes in front
pub lines_front : (u z : List ℕ) → AllByRecursion (λ b. is_kept b ≡ true) u
    → lines (u ++ z) ≡ cut_lines (u ++ filter is_kept z)
lines_front u z kept =
    lines_cut (u ++ z)
    ∙ ap cut_lines (filter-append is_kept u z ∙ ap (λ w. w ++ filter is_kept z) (filter_kept u kept))

-- a byte that is removed changes nothing
pub lines_removed : (u : List ℕ) (b : ℕ) (z : List ℕ) → is_kept b ≡ false → lines (u ++ b ∷ z) ≡ lines (u ++ z)
lines_removed u b z e =
    lines_cut (u ++ b ∷ z)
    ∙ ap cut_lines
    (filter-append is_kept u (b ∷ z) ∙ ap (λ w. filter is_kept u ++ w) (filter_removed b z e)
    ∙ sym (filter-append is_kept u z))
    ∙ sym (lines_cut (u ++ z))

-- what is fed so far may be in place of another text with the same future
pub lines_same : (u v : List ℕ) (b : ℕ) (z : List ℕ) → AllByRecursion (λ b. is_kept b ≡ true) u
    → AllByRecursion (λ b. is_kept b ≡ true) v → NoNewline u → NoNewline v
    → is_kept b ≡ true → is_newline b ≡ false → ((l : List ℕ) → line_of (u ++ b ∷ l) ≡ line_of (v ++ l))
    → lines (u ++ b ∷ z) ≡ lines (v ++ z)
lines_same u v b z ku kv nu nv kb nb same =
    ap lines (sym (append_assoc u (b ∷ []) z))
    ∙ lines_front (u ++ b ∷ []) z (AllByRecursion-append _ u (b ∷ []) ku (kb, tt))
    ∙ cut_lines_same (u ++ b ∷ []) v (filter is_kept z) (AllByRecursion-append _ u (b ∷ []) nu (nb, tt)) nv
    (λ l. rw (append_assoc u (b ∷ []) l) (same l))
    ∙ sym (lines_front v z kv)

-- a newline ends the line that is held
pub lines_newline : (u z : List ℕ) → AllByRecursion (λ b. is_kept b ≡ true) u → NoNewline u
    → lines (u ++ 10 ∷ z) ≡ option_to_list (line_of u) ++ lines z
lines_newline u z ku nu =
    lines_front u (10 ∷ z) ku ∙ cut_lines_newline u 10 (filter is_kept z) nu refl
    ∙ joined_option (line_of u) (cut_lines (filter is_kept z))
    ∙ ap (λ w. option_to_list (line_of u) ++ w) (sym (lines_cut z))

-- what is held is no whole line
pub lines_open : (u : List ℕ) → AllByRecursion (λ b. is_kept b ≡ true) u → NoNewline u → lines u ≡ []
lines_open u ku nu = lines_cut u ∙ ap cut_lines (filter_kept u ku) ∙ cut_lines_open u nu

-- no bytes are no line
pub lines_nothing : lines [] ≡ []
lines_nothing = lines_open [] tt tt
