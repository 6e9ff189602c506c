-- Texts that are read one after the other.
use Rattle.go_base.proofs.general.Lists.{AllByRecursion-append}
use Rattle.std.proofs.Common.{◌≡◌, ℕ, List, [], ◌∷◌, ◌++◌, Option, true, false, refl, sym, ◌∙◌, ap, subst, cond, inl}
use Rattle.std.proofs.Common.{inr, append_assoc, append-nil, filter}
use Rattle.std.proofs.lemmas.Bool.{cases_Bool}
use Rattle.std.proofs.lemmas.List.{take-append-drop}
use Rattle.std.proofs.lemmas.List.Elements.{filter-append}
use Rattle.std.specs.List.{cons_option, concat, AllByRecursion}
use Rattle.gtp_wire.specs.declared.lines.Line.{Line}
use Rattle.gtp_wire.specs.Bytes.{is_kept, is_newline}
use Rattle.gtp_wire.specs.Lines.{lines, line_of, Finds}
use Rattle.gtp_wire.specs.Laws.{IsFed, AreFed}
use Rattle.gtp_wire.specs.Laws.IsFed.{used_up, used}
use Rattle.gtp_wire.specs.Laws.AreFed.{all_fed, fed}
use Rattle.gtp_wire.proofs.line_reading.LinesOfTexts.{NoNewline, cut_lines, cut_lines_newline, cut_lines_open}
use Rattle.gtp_wire.proofs.line_reading.LinesOfTexts.{lines_cut, lines_front}

-- what is after the last newline, with a text without one before it
tail_from : List ℕ → List ℕ → List ℕ
tail_from held [] = held
tail_from held (b ∷ t) = cond (is_newline b) (tail_from [] t) (tail_from (held ++ b ∷ []) t)

abbrev pub AllKept : List ℕ → Type 0
AllKept t = AllByRecursion (λ b. is_kept b ≡ true) t

tail_kept : (held t : List ℕ) → AllKept held → AllKept t → AllKept (tail_from held t)
unfolding tail_from
tail_kept held [] kh kt = kh
tail_kept held (b ∷ t) kh kt =
    elim (is_newline b) as (λ n. AllKept (cond n (tail_from [] t) (tail_from (held ++ b ∷ []) t))) [
      | true ↦ tail_kept [] t tt kt.1
      | false ↦ tail_kept (held ++ b ∷ []) t (AllByRecursion-append _ held (b ∷ []) kh (kt.0, tt)) kt.1
    ]

cons_option-append : {X : Type 0} (o : Option X) (xs ys : List X) → cons_option o (xs ++ ys) ≡ cons_option o xs ++ ys
cons_option-append Option.None xs ys = refl
cons_option-append (Option.Some x) xs ys = refl

-- the lines of two texts, the second after what the first leaves unfinished
cut_lines_more : (held t u : List ℕ) → NoNewline held
    → cut_lines (held ++ (t ++ u)) ≡ cut_lines (held ++ t) ++ cut_lines (tail_from held t ++ u)
unfolding tail_from
cut_lines_more held [] u nh =
    sym (ap (λ ls. ls ++ cut_lines (held ++ u)) (ap cut_lines (append-nil held) ∙ cut_lines_open held nh))
cut_lines_more held (b ∷ t) u nh = elim (cases_Bool (is_newline b)) [
  | inl e ↦ rw e (
      cut_lines_newline held b (t ++ u) nh e
      ∙ ap (cons_option (line_of held)) (cut_lines_more [] t u tt)
      ∙ cons_option-append (line_of held) (cut_lines t) (cut_lines (tail_from [] t ++ u))
      ∙ ap (λ ls. ls ++ cut_lines (tail_from [] t ++ u)) (sym (cut_lines_newline held b t nh e)))
  | inr e ↦ rw e (
      ap cut_lines (sym (append_assoc held (b ∷ []) (t ++ u)))
      ∙ cut_lines_more (held ++ b ∷ []) t u (AllByRecursion-append _ held (b ∷ []) nh (e, tt))
      ∙ ap (λ l. cut_lines l ++ cut_lines (tail_from (held ++ b ∷ []) t ++ u)) (append_assoc held (b ∷ []) t))
]

-- what is held when a text was read
pub tail_of : List ℕ → List ℕ
tail_of text = tail_from [] (filter is_kept text)

all_kept : (t : List ℕ) → AllKept (filter is_kept t)
all_kept [] = tt
all_kept (b ∷ t) = elim (cases_Bool (is_kept b)) [ inl e ↦ rw e (e, all_kept t) | inr e ↦ rw e (all_kept t) ]

-- the lines of a longer text are those of its front, and those of the rest after what the front leaves unfinished
pub lines_more : (text later : List ℕ) → lines (text ++ later) ≡ lines text ++ lines (tail_of text ++ later)
unfolding tail_of
lines_more text later =
    lines_cut (text ++ later)
    ∙ ap cut_lines (filter-append is_kept text later)
    ∙ cut_lines_more [] (filter is_kept text) (filter is_kept later) tt
    ∙ ap (λ ls. ls ++ cut_lines (tail_of text ++ filter is_kept later)) (sym (lines_cut text))
    ∙ ap (λ ls. lines text ++ ls)
    (sym (lines_front (tail_of text) later (tail_kept [] (filter is_kept text) tt (all_kept text))))

-- what is found is the lines
pub Finds-lines : {old text : List ℕ} {found : List Line} {new : List ℕ} → Finds old text found new
    → found ≡ lines (old ++ text)
Finds-lines {old} {text} {found} {new} finds =
    sym (append-nil found) ∙ ap (λ ls. found ++ ls) (sym finds.no_line ∙ ap lines (sym (append-nil new)))
    ∙ sym (finds.rest []) ∙ ap (λ t. lines (old ++ t)) (append-nil text)

-- texts one after the other
pub Finds-join : {old first : List ℕ} {found : List Line} {mid second : List ℕ} {more : List Line} {new : List ℕ}
    → Finds old first found mid → Finds mid second more new → Finds old (first ++ second) (found ++ more) new
Finds-join {old} {first} {found} {mid} {second} {more} {new} finds finds_more = record {
  rest = λ later.
      ap (λ t. lines (old ++ t)) (append_assoc first second later) ∙ finds.rest (second ++ later)
      ∙ ap (λ ls. found ++ ls) (finds_more.rest later) ∙ sym (append_assoc found more (lines (new ++ later)));
  no_line = finds_more.no_line;
}

-- nothing was read
pub Finds-nothing : (old : List ℕ) → lines old ≡ [] → Finds old [] [] old
Finds-nothing old none = record { rest = λ later. refl; no_line = none }

-- a piece that was fed until it was used up
pub Finds-piece : {old piece : List ℕ} {found : List Line} {new : List ℕ} → lines old ≡ [] → IsFed old piece found new
    → Finds old piece found new
Finds-piece {old} none used_up = Finds-nothing old none
Finds-piece {old} {piece} {found} {new} none (used n line finds more) =
    let P : List ℕ → Type 0 = λ t. Finds old t found new in
    subst P (take-append-drop n piece) (Finds-join finds (Finds-piece finds.no_line more))

-- pieces one after the other
pub Finds-pieces : {old : List ℕ} {pieces : List (List ℕ)} {found : List Line} {new : List ℕ} → lines old ≡ []
    → AreFed old pieces found new → Finds old (concat pieces) found new
Finds-pieces {old} none all_fed = Finds-nothing old none
Finds-pieces none (fed piece more) =
    let finds = Finds-piece none piece in
    Finds-join finds (Finds-pieces finds.no_line more)

tail_newline : (held t : List ℕ) → tail_from held (t ++ 10 ∷ []) ≡ []
unfolding tail_from
tail_newline held [] = refl
tail_newline held (b ∷ t) = elim (cases_Bool (is_newline b)) [
  | inl e ↦ rw e (tail_newline [] t)
  | inr e ↦ rw e (tail_newline (held ++ b ∷ []) t)
]

tail_of_newline : (text : List ℕ) → tail_of (text ++ 10 ∷ []) ≡ []
unfolding tail_of
tail_of_newline text = ap (tail_from []) (filter-append is_kept text (10 ∷ [])) ∙ tail_newline [] (filter is_kept text)

-- what follows a newline is read by itself
pub lines_anew : (text later : List ℕ) → lines (text ++ 10 ∷ later) ≡ lines (text ++ 10 ∷ []) ++ lines later
lines_anew text later =
    ap lines (sym (append_assoc text (10 ∷ []) later)) ∙ lines_more (text ++ 10 ∷ []) later
    ∙ ap (λ (t : List ℕ). lines (text ++ 10 ∷ []) ++ lines (t ++ later)) (tail_of_newline text)
