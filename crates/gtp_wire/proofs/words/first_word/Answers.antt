use Rattle.std.proofs.Common.{◌≡◌, ◌∙◌, ◌<◌, length, take, drop, arith, ap}
use Rattle.std.proofs.lemmas.Bool.Decides.{nat_tests}
use Rattle.std.proofs.lemmas.List.{nil_from_length, length-drop}
use Rattle.go_base.proofs.general.Fronts.{take_prefix_len, drop_prefix_len}
use Rattle.gtp_wire.specs.Bytes.{is_inside}
use Rattle.gtp_wire.proofs.reply_bytes.FirstWord.{no_word, word_first, some_word_bytes}
use Rattle.gtp_wire.proofs.words.first_word.Goals as goal

pub returns-then-is_empty-clause-words : goal.returns-then-is_empty-clause-words
returns-then-is_empty-clause-words c =
    let none : length c.skip_blanks-text.result.now ≡ 0 = grind (arith, nat_tests) in
    no_word c.args.text.now _ c.skip_blanks-text.ensures.text (nil_from_length _ none)

pub returns-clause-words : goal.returns-clause-words
returns-clause-words c =
    let left = c.skip_blanks-text.result.now in
    let some : 0 < length left = grind (arith, nat_tests) in
    word_first c.args.text.now left _ _ c.skip_blanks-text.ensures.text some
    (c.split_at.ensures.front ∙ ap (λ n. take n left) c.word_len.ensures.value ∙ take_prefix_len is_inside left)
    (c.split_at.ensures.back ∙ ap (λ n. drop n left) c.word_len.ensures.value ∙ drop_prefix_len is_inside left)

pub returns-clause-shorter : goal.returns-clause-shorter
returns-clause-shorter c =
    let left = c.skip_blanks-text.result.now in
    let some : 0 < length left = grind (arith, nat_tests) in
    omega (
      arith,
      ap length c.split_at.ensures.back,
      length-drop c.word_len.result left,
      c.word_len.ensures.value,
      some_word_bytes c.args.text.now left c.skip_blanks-text.ensures.text some,
      c.skip_blanks-text.ensures.short,
    )
