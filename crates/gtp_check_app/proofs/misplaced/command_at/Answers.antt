use Rattle.std.proofs.Common.{◌≡◌, ◌∙◌, ◌-◌, ◌<◌, ap, arith, length, get_or, map, sym, [], List, ℕ, Bool, true, false}
use Rattle.std.proofs.lemmas.List.{get_or-map, length-map}
use Rattle.clap.specs.Words.{Text}
use Rattle.gtp_check_app.specs.Misplaced.{command_at, is_before_command}
use Rattle.gtp_check_app.proofs.CommandPlace.{all_before, at_end, few_words, it_is, more_before}
use Rattle.gtp_check_app.proofs.misplaced.command_at.Goals as goal

-- whether the words that the list has at two places are before the command
before_at : {A : Type 0} (text_of : A → Text) (words : List A) (one two : A) (k : ℕ) (last word : Text) (b : Bool)
    → k < length words → one ≡ get_or words (k - 1) one → two ≡ get_or words k two → last ≡ text_of one
    → word ≡ text_of two → is_before_command last word ≡ b
    → is_before_command (get_or (map text_of words) (k - 1) []) (get_or (map text_of words) k []) ≡ b
before_at text_of words one two k last word b within one-is two-is last-is word-is is =
    ap (λ (t : Text). is_before_command t (get_or (map text_of words) k []))
    (get_or-map text_of words (k - 1) one [] (omega (arith, within)) ∙ ap text_of (sym one-is) ∙ sym last-is)
    ∙ ap (λ (t : Text). is_before_command last t)
    (get_or-map text_of words k two [] within ∙ ap text_of (sym two-is) ∙ sym word-is)
    ∙ is

pub loop-index-init : goal.loop-index-init
loop-index-init g c = omega arith

pub returns-then-not-is_before_command-clause-at : goal.returns-then-not-is_before_command-clause-at
returns-then-not-is_before_command-clause-at g c =
    let words = map g.A.AsStr.text c.args.words.now in
    it_is words c.loop-index.index (command_at words) c.loop-index.invariant
    (omega (arith, c.loop-index-test.true, length-map c.args.words.now g.A.AsStr.text))
    (before_at g.A.AsStr.text c.args.words.now c.index-words-index.result c.index-words-index-in-loop-index.result
    c.loop-index.index c.as_str.result.now c.as_str-in-loop-index.result.now false c.loop-index-test.true
    c.index-words-index.is c.index-words-index-in-loop-index.is c.as_str.ensures c.as_str-in-loop-index.ensures
    (sym c.is_before_command.ensures ∙ c.if-not-is_before_command.true))

pub loop-index-preserved : goal.loop-index-preserved
loop-index-preserved g c =
    let words = map g.A.AsStr.text c.args.words.now in
    more_before words c.loop-index.index (command_at words) c.loop-index.invariant
    (omega (arith, c.loop-index-test.true, length-map c.args.words.now g.A.AsStr.text))
    (before_at g.A.AsStr.text c.args.words.now c.index-words-index.result c.index-words-index-in-loop-index.result
    c.loop-index.index c.as_str.result.now c.as_str-in-loop-index.result.now true c.loop-index-test.true
    c.index-words-index.is c.index-words-index-in-loop-index.is c.as_str.ensures c.as_str-in-loop-index.ensures
    (sym c.is_before_command.ensures ∙ c.if-not-is_before_command.false))

pub returns-clause-at : goal.returns-clause-at
returns-clause-at g c =
    let words = map g.A.AsStr.text c.args.words.now in
    let same = length-map c.args.words.now g.A.AsStr.text in
    at_end (length c.args.words.now) c.loop-index.index (command_at words) c.max.result c.max.ensures
    c.loop-index-test.false c.loop-index.auto.index-end
    (all_before words c.loop-index.index (command_at words) c.loop-index.invariant
    (omega (arith, same, c.loop-index-test.false)))
    (λ few. few_words words (omega (arith, same, few)))
