-- What each byte does to the line that a reader holds.
use Rattle.go_base.proofs.general.Lists.{AllByRecursion-append, split_between}
use Rattle.std.proofs.Common.{◌≡◌, ℕ, ◌<◌, ◌≤◌, List, [], ◌∷◌, ◌++◌, length, Some, true, false, refl, sym, ◌∙◌, ap}
use Rattle.std.proofs.Common.{arith, eqb, ◌⊎◌, inl, inr, append_assoc, append-nil, length-append, lit<}
use Rattle.std.proofs.lemmas.Bool.{le-ltb}
use Rattle.std.proofs.lemmas.List.{nil_from_length}
use Rattle.std.specs.List.{slice_split, AllByRecursion, join_with_byte}
use Rattle.std.specs.Option.{option_to_list}
use Rattle.gtp_wire.specs.declared.lines.Line.TheVariants.{Command, TooLong}
use Rattle.gtp_wire.specs.declared.lines.Stage.{Stage}
use Rattle.gtp_wire.specs.declared.lines.Stage.TheVariants.{Word, Gap, Comment}
use Rattle.gtp_wire.specs.Bytes.{is_kept, is_newline, is_space, space_for_tab}
use Rattle.gtp_wire.specs.Words.{words, command_of}
use Rattle.gtp_wire.specs.Lines.{lines, line_of, line_of_words}
use Rattle.gtp_wire.specs.private.LineReading.{is_plain, HoldsWords, HoldsLine, IsKind, ending}
use Rattle.gtp_wire.specs.declared.lines.Kind.TheVariants.{Space}
use Rattle.gtp_wire.proofs.line_reading.LinesOfTexts.{NoNewline, lines_same, lines_newline, lines_open}
use Rattle.gtp_wire.proofs.line_reading.WordsOfLines.{cleaned, cleaned_plain, plain_byte, words_space}
use Rattle.gtp_wire.proofs.line_reading.WordsOfLines.{words_two_spaces, join_words}
use Rattle.gtp_wire.proofs.line_reading.WordsOfLines.{some_word, too_long_line, too_long_words, split_push, push_last}
use Rattle.gtp_wire.proofs.line_reading.WordsOfLines.{weight_joined}

-- what a reader is seen as
abbrev pub view : List ℕ → Stage → List ℕ
view held stage = held ++ ending stage

pub plain_kept : (held : List ℕ) → AllByRecursion (λ b. is_plain b ≡ true) held
    → AllByRecursion (λ b. is_kept b ≡ true) held
plain_kept [] plain = tt
plain_kept (b ∷ held) plain = ((plain_byte b plain.0).0, plain_kept held plain.1)

pub plain_no_newline : (held : List ℕ) → AllByRecursion (λ b. is_plain b ≡ true) held → NoNewline held
plain_no_newline [] plain = tt
plain_no_newline (b ∷ held) plain = ((plain_byte b plain.0).2, plain_no_newline held plain.1)

ending_kept : (stage : Stage) → AllByRecursion (λ b. is_kept b ≡ true) (ending stage)
ending_kept Word = tt
ending_kept Gap = (refl, tt)
ending_kept Comment = (refl, tt)

ending_no_newline : (stage : Stage) → NoNewline (ending stage)
ending_no_newline Word = tt
ending_no_newline Gap = (refl, tt)
ending_no_newline Comment = (refl, tt)

pub view_kept : (held : List ℕ) (stage : Stage) → HoldsWords held
    → AllByRecursion (λ b. is_kept b ≡ true) (view held stage)
view_kept held stage joined =
    AllByRecursion-append _ held (ending stage) (plain_kept held joined.plain) (ending_kept stage)

pub view_no_newline : (held : List ℕ) (stage : Stage) → HoldsWords held → NoNewline (view held stage)
view_no_newline held stage joined =
    AllByRecursion-append _ held (ending stage) (plain_no_newline held joined.plain) (ending_no_newline stage)

-- what is held is no whole line
pub view_open : (held : List ℕ) (stage : Stage) → HoldsWords held → lines (view held stage) ≡ []
view_open held stage joined =
    lines_open (view held stage) (view_kept held stage joined) (view_no_newline held stage joined)

-- a byte that leaves another view with the same future
pub view_same : (held : List ℕ) (stage : Stage) (held' : List ℕ) (stage' : Stage) (b : ℕ) → HoldsWords held
    → HoldsWords held' → is_kept b ≡ true → is_newline b ≡ false
    → ((l : List ℕ) → line_of (view held stage ++ b ∷ l) ≡ line_of (view held' stage' ++ l)) → (z : List ℕ)
    → lines (view held stage ++ b ∷ z) ≡ lines (view held' stage' ++ z)
view_same held stage held' stage' b joined joined' kept other same z =
    lines_same (view held stage) (view held' stage') b z (view_kept held stage joined)
    (view_kept held' stage' joined')
    (view_no_newline held stage joined) (view_no_newline held' stage' joined') kept other same

-- lines by their cleaned texts
line_of_cleaned : (l : List ℕ) → line_of l ≡ line_of_words (words (cleaned l))
unfolding line_of
line_of_cleaned l = refl

-- a comment's bytes are nothing
comment_line : (held l : List ℕ) → HoldsWords held → line_of (held ++ 35 ∷ l) ≡ line_of_words (words held)
comment_line held l joined =
    line_of_cleaned (held ++ 35 ∷ l)
    ∙ ap (λ t. line_of_words (words t)) (cleaned_plain held (35 ∷ l) joined.plain ∙ append-nil held)

-- a line that is only words so far, and more
word_line : (held l : List ℕ) → HoldsWords held → line_of (held ++ l) ≡ line_of_words (words (held ++ cleaned l))
word_line held l joined =
    line_of_cleaned (held ++ l) ∙ ap (λ t. line_of_words (words t)) (cleaned_plain held l joined.plain)

-- the line that a newline ends
pub view_line : (held : List ℕ) (stage : Stage) → HoldsWords held
    → line_of (view held stage) ≡ line_of_words (words held)
view_line held Word joined = word_line held [] joined ∙ ap (λ t. line_of_words (words t)) (append-nil held)
view_line held Gap joined = word_line held (32 ∷ []) joined ∙ ap line_of_words (words_space held)
view_line held Comment joined = comment_line held [] joined

-- a reader whose words are too long skips all but a newline
pub long_skips : (held : List ℕ) (stage : Stage) (b : ℕ) → HoldsWords held → 1000 < length held → (l : List ℕ)
    → line_of (view held stage ++ b ∷ l) ≡ line_of (view held stage ++ l)
long_skips held stage b joined long l =
    ap line_of (append_assoc held (ending stage) (b ∷ l)) ∙ too_long_line held (ending stage ++ b ∷ l) joined long
    ∙ sym (ap line_of (append_assoc held (ending stage) l) ∙ too_long_line held (ending stage ++ l) joined long)

-- in a comment all but a newline is skipped
pub comment_skips : (held : List ℕ) (b : ℕ) → HoldsWords held → (l : List ℕ)
    → line_of (view held Comment ++ b ∷ l) ≡ line_of (view held Comment ++ l)
comment_skips held b joined l =
    ap line_of (append_assoc held (35 ∷ []) (b ∷ l)) ∙ comment_line held (b ∷ l) joined
    ∙ sym (ap line_of (append_assoc held (35 ∷ []) l) ∙ comment_line held l joined)

-- a second space is skipped, and one in front of all words
pub gap_skips : (held : List ℕ) (b : ℕ) → HoldsWords held → space_for_tab b ≡ 32 → eqb b 35 ≡ false → (l : List ℕ)
    → line_of (view held Gap ++ b ∷ l) ≡ line_of (view held Gap ++ l)
gap_skips held b joined space other l =
    let front : cleaned (32 ∷ b ∷ l) ≡ 32 ∷ 32 ∷ cleaned l = rw other (rw space refl) in
    ap line_of (append_assoc held (32 ∷ []) (b ∷ l)) ∙ word_line held (32 ∷ b ∷ l) joined
    ∙ ap (λ t. line_of_words (words (held ++ t))) front ∙ ap line_of_words (words_two_spaces held (cleaned l))
    ∙ sym (ap line_of (append_assoc held (32 ∷ []) l) ∙ word_line held (32 ∷ l) joined)

pub front_skips : (b : ℕ) → space_for_tab b ≡ 32 → eqb b 35 ≡ false → (l : List ℕ) → line_of (b ∷ l) ≡ line_of l
front_skips b space other l =
    let front : cleaned (b ∷ l) ≡ 32 ∷ cleaned l = rw other (rw space refl) in
    line_of_cleaned (b ∷ l) ∙ ap (λ t. line_of_words (words t)) front ∙ sym (line_of_cleaned l)

-- a space after words is kept as one
pub space_held : (held : List ℕ) (b : ℕ) → HoldsWords held → space_for_tab b ≡ 32 → eqb b 35 ≡ false → (l : List ℕ)
    → line_of (view held Word ++ b ∷ l) ≡ line_of (view held Gap ++ l)
space_held held b joined space other l =
    let front : cleaned (b ∷ l) ≡ 32 ∷ cleaned l = rw other (rw space refl) in
    ap line_of (append_assoc held [] (b ∷ l)) ∙ word_line held (b ∷ l) joined
    ∙ ap (λ t. line_of_words (words (held ++ t))) front
    ∙ sym (ap line_of (append_assoc held (32 ∷ []) l) ∙ word_line held (32 ∷ l) joined)

-- `#` begins a comment
pub hash_held : (held : List ℕ) (stage : Stage) → HoldsWords held → (l : List ℕ)
    → line_of (view held stage ++ 35 ∷ l) ≡ line_of (view held Comment ++ l)
hash_held held Word joined l = ap line_of (append_assoc held [] (35 ∷ l) ∙ sym (append_assoc held (35 ∷ []) l))
hash_held held Gap joined l =
    ap line_of (append_assoc held (32 ∷ []) (35 ∷ l)) ∙ word_line held (32 ∷ 35 ∷ l) joined
    ∙ ap line_of_words (words_space held)
    ∙ sym (ap line_of (append_assoc held (35 ∷ []) l) ∙ comment_line held l joined)
hash_held held Comment joined l = comment_skips held 35 joined l

-- a newline ends what is held
pub end_view : (held : List ℕ) (stage : Stage) (z : List ℕ) → HoldsWords held
    → lines (view held stage ++ 10 ∷ z) ≡ option_to_list (line_of_words (words held)) ++ lines z
end_view held stage z joined =
    lines_newline (view held stage) z (view_kept held stage joined) (view_no_newline held stage joined)
    ∙ ap (λ o. option_to_list o ++ lines z) (view_line held stage joined)

pub end_empty : (held : List ℕ) (stage : Stage) (z : List ℕ) → HoldsWords held → length held ≡ 0
    → lines (view held stage ++ 10 ∷ z) ≡ lines z
unfolding line_of_words
end_empty held stage z joined none =
    end_view held stage z joined
    ∙ ap (λ h. option_to_list (line_of_words (words h)) ++ lines z) (nil_from_length held none)

pub end_long : (held : List ℕ) (stage : Stage) (z : List ℕ) → HoldsWords held → 1000 < length held
    → lines (view held stage ++ 10 ∷ z) ≡ TooLong ∷ lines z
end_long held stage z joined long =
    end_view held stage z joined
    ∙ ap (λ o. option_to_list o ++ lines z)
    (too_long_words (words held) (omega (arith, weight_joined held joined (omega arith))))

short_line : (ws : List (List ℕ)) (v : List ℕ) (vs : List (List ℕ)) → ws ≡ v ∷ vs
    → length (join_with_byte 32 ws) ≤ 1000 → line_of_words ws ≡ Some (Command (command_of ws))
unfolding line_of_words
short_line [] v vs e h = absurd (cc)
short_line (w ∷ ws) v vs e h = rw (le-ltb _ _ h) refl

pub end_command : (held : List ℕ) (stage : Stage) (z : List ℕ) → HoldsWords held → 0 < length held → length held ≤ 1000
    → lines (view held stage ++ 10 ∷ z) ≡ Command (command_of (words held)) ∷ lines z
end_command held stage z joined some short =
    let word = some_word held joined some in
    let fits : length (join_with_byte 32 (words held)) ≤ 1000 =
    omega (arith, ap length (join_words held joined some)) in
    end_view held stage z joined
    ∙ ap (λ o. option_to_list o ++ lines z) (short_line (words held) word.0 word.1 word.2 fits)

-- a space or HT
pub record IsSpaceByte (b : ℕ) : Type 0 where
  pub kept : is_kept b ≡ true
  pub inside : is_newline b ≡ false
  pub space : space_for_tab b ≡ 32
  pub other : eqb b 35 ≡ false

pub space_byte : (b : ℕ) → IsKind b Space → IsSpaceByte b
space_byte b kind = elim kind [
  | inl e ↦ rw e (record { kept = refl; inside = refl; space = refl; other = refl })
  | inr e ↦ rw e (record { kept = refl; inside = refl; space = refl; other = refl })
]

-- what each byte leaves: nothing changes
pub step_long : (held : List ℕ) (stage : Stage) (b : ℕ) (z : List ℕ) → HoldsWords held → 1000 < length held
    → is_kept b ≡ true → is_newline b ≡ false
    → lines (view held stage ++ b ∷ z) ≡ lines (view held stage ++ z)
step_long held stage b z joined long kept inside =
    view_same held stage held stage b joined joined kept inside (λ l. long_skips held stage b joined long l) z

pub step_comment : (held : List ℕ) (stage : Stage) (b : ℕ) (z : List ℕ) → HoldsWords held → stage ≡ Comment
    → is_kept b ≡ true → is_newline b ≡ false
    → lines (view held stage ++ b ∷ z) ≡ lines (view held stage ++ z)
step_comment held stage b z joined is kept inside =
    rw is (view_same held Comment held Comment b joined joined kept inside (λ l. comment_skips held b joined l) z)

pub step_gap : (held : List ℕ) (stage : Stage) (b : ℕ) (z : List ℕ) → HoldsWords held → stage ≡ Gap → IsSpaceByte b
    → lines (view held stage ++ b ∷ z) ≡ lines (view held stage ++ z)
step_gap held stage b z joined is space =
    rw is
    (view_same held Gap held Gap b joined joined space.kept space.inside
    (λ l. gap_skips held b joined space.space space.other l) z)

pub step_front : (held : List ℕ) (stage : Stage) (b : ℕ) (z : List ℕ) → HoldsLine held stage → length held ≡ 0
    → IsSpaceByte b
    → lines (view held stage ++ b ∷ z) ≡ lines (view held stage ++ z)
step_front held Word b z holds none space =
    rw (nil_from_length held none)
    (view_same [] Word [] Word b nothing nothing space.kept space.inside
    (λ l. front_skips b space.space space.other l) z)
  where
    nothing : HoldsWords []
    nothing = record { plain = tt; single = λ h. absurd (omega arith) }
step_front held Gap b z holds none space = absurd (omega (arith, holds.gap refl))
step_front held Comment b z holds none space = step_comment held Comment b z holds.joined refl space.kept space.inside

-- a space ends a word
pub step_space : (held : List ℕ) (stage : Stage) (b : ℕ) (z : List ℕ) → HoldsWords held → stage ≡ Word → IsSpaceByte b
    → lines (view held stage ++ b ∷ z) ≡ lines (view held Gap ++ z)
step_space held stage b z joined is space =
    rw is
    (view_same held Word held Gap b joined joined space.kept space.inside
    (λ l. space_held held b joined space.space space.other l) z)

-- `#` begins a comment
-- a byte that is kept after a word
pub step_pushed : (held new : List ℕ) (stage : Stage) (b : ℕ) → stage ≡ Word → new ≡ held ++ b ∷ [] → (z : List ℕ)
    → lines (view held stage ++ b ∷ z) ≡ lines (view new stage ++ z)
step_pushed held new stage b is e z =
    rw (is, e)
    (ap (λ t. lines (t ++ b ∷ z)) (append-nil held)
    ∙ sym (ap (λ t. lines (t ++ z)) (append-nil (held ++ b ∷ [])) ∙ ap lines (append_assoc held (b ∷ []) z)))

-- a byte that is kept after a space
pub step_pushed_gap : (held mid new : List ℕ) (stage : Stage) (b : ℕ) → stage ≡ Gap → mid ≡ held ++ 32 ∷ []
    → new ≡ mid ++ b ∷ [] → (z : List ℕ) → lines (view held stage ++ b ∷ z) ≡ lines (view new Word ++ z)
step_pushed_gap held mid new stage b is e f z =
    rw (is, f, e)
    (sym (ap (λ t. lines (t ++ z)) (append-nil ((held ++ 32 ∷ []) ++ b ∷ []))
    ∙ ap lines (append_assoc (held ++ 32 ∷ []) (b ∷ []) z)))

pub step_hash : (held : List ℕ) (stage : Stage) (z : List ℕ) → HoldsWords held
    → lines (view held stage ++ 35 ∷ z) ≡ lines (view held Comment ++ z)
step_hash held stage z joined =
    view_same held stage held Comment 35 joined joined refl refl (λ l. hash_held held stage joined l) z

-- a byte of a word keeps what is held joined
all_push_last : (ps : List (List ℕ)) (c : ℕ) → AllByRecursion (λ part. 0 < length part) ps
    → AllByRecursion (λ part. 0 < length part) (push_last ps c)
all_push_last [] c all = (lit< tt, tt)
all_push_last (w ∷ []) c all = (omega (arith, length-append w (c ∷ [])), tt)
all_push_last (w ∷ v ∷ more) c all = (all.0, all_push_last (v ∷ more) c all.1)

joined_parts : (held : List ℕ) (b : ℕ) → HoldsWords held → is_space b ≡ false
    → AllByRecursion (λ part. 0 < length part) (slice_split is_space (held ++ b ∷ []))
joined_parts [] b joined other = rw (split_push [] b other) (lit< tt, tt)
joined_parts (x ∷ held) b joined other =
    rw (split_push (x ∷ held) b other)
    (all_push_last (slice_split is_space (x ∷ held)) b (joined.single (omega arith)))

pub joined_push : (held : List ℕ) (b : ℕ) → HoldsWords held → is_plain b ≡ true → is_space b ≡ false
    → HoldsWords (held ++ b ∷ [])
joined_push held b joined plain other = record {
  plain = AllByRecursion-append _ held (b ∷ []) joined.plain (plain, tt);
  single = λ h. joined_parts held b joined other;
}

pub joined_push_gap : (held : List ℕ) (b : ℕ) → HoldsWords held → 0 < length held → is_plain b ≡ true
    → is_space b ≡ false → HoldsWords ((held ++ 32 ∷ []) ++ b ∷ [])
joined_push_gap held b joined some plain other = rw (append_assoc held (32 ∷ []) (b ∷ [])) (record {
  plain = AllByRecursion-append _ held (32 ∷ b ∷ []) joined.plain (refl, (plain, tt));
  single =
      λ h. rw (split_between is_space held (b ∷ []) 32 refl, split_push [] b other)
      (AllByRecursion-append _ (slice_split is_space held) ((b ∷ []) ∷ []) (joined.single some) (lit< tt, tt));
})

pub holds_word : {held : List ℕ} → HoldsWords held → HoldsLine held Word
holds_word joined = record { joined = joined; gap = λ e. absurd (cc) }

pub holds_word_of : {held : List ℕ} (stage : Stage) → HoldsWords held → stage ≡ Word → HoldsLine held stage
holds_word_of stage joined is = rw is (holds_word joined)

pub step_skipped : (held : List ℕ) (stage : Stage) (b : ℕ) (z : List ℕ) → HoldsWords held
    → (stage ≡ Gap) ⊎ (stage ≡ Comment) → IsSpaceByte b
    → lines (view held stage ++ b ∷ z) ≡ lines (view held stage ++ z)
step_skipped held stage b z joined is space =
    elim is [
      | inl e ↦ step_gap held stage b z joined e space
      | inr e ↦
          step_comment held stage b z joined e space.kept space.inside
    ]
