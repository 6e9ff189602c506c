use Rattle.std.proofs.Common.{◌∙◌, ◌++◌, ◌+◌, ◌<◌, List, ap, arith, length, map}
use Rattle.std.specs.Prelude.{codes}
use Rattle.std.proofs.lemmas.Bool.{ltb-true}
use Rattle.std.proofs.lemmas.List.{length-map, take_rest}
use Rattle.gtp_check_app.specs.Misplaced.{spaced}
use Rattle.gtp_check_app.proofs.CommandPlace.{whole_line}
use Rattle.gtp_check_app.proofs.misplaced.misplaced_line.Goals as goal

pub returns : goal.returns
returns g c =
    let at-is = c.command_at-at.ensures.at in
    let within : c.command_at-at.result < length c.args.words.now =
    omega (arith, ltb-true _ _ c.requires, at-is, length-map c.args.words.now g.A.AsStr.text) in
    rw at-is at
    (whole_line g.A.AsStr.text c.args.words.now c.command_at-at.result c.index-words-at.result
    c.new-line.result.items c.extend_from_slice.new.self.items
    (codes "gtp_check: options stand before the engine's command: gtp_check")
    c.add_words.new.line.items c.add_words-2.new.line.items c.extend_from_slice-2.new.self.items
    c.extend_from_slice-3.new.self.items c.extend_from_slice-4.new.self.items c.as_bytes.result.now (codes " '")
    (codes "'\n") within c.new-line.ensures.items c.in_ok-extend_from_slice.ensures.items c.in_ok-add_words.ensures
    (c.in_ok-add_words-2.ensures
    ∙ ap (λ (l : List g.row.A.Denot). c.add_words.new.line.items ++ spaced (map g.A.AsStr.text l))
    (take_rest c.args.words.now (c.command_at-at.result + 1)))
    c.in_ok-extend_from_slice-2.ensures.items
    c.in_ok-extend_from_slice-3.ensures.items c.in_ok-extend_from_slice-4.ensures.items
    (c.as_bytes.ensures.value ∙ c.as_str.ensures ∙ ap g.A.AsStr.text c.index-words-at.is))
