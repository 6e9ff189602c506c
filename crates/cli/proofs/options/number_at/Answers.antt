use Rattle.std.proofs.Common.{◌∙◌, ap}
use Rattle.std.specs.Prelude.{unwrap_or}
use Rattle.std.specs.Str.Parse.{ParsesUnsigned, ExplainsUnsignedError, HasUnsignedDigitsIfOk}
use Rattle.clap.specs.Words.{found_of}
use Rattle.clap.proofs.WalkLemmas.{one_text-rows}
use Rattle.cli.proofs.CommandLine.{ReadsOne-spells}
use Rattle.cli.proofs.options.number_at.Goals as goal

pub returns : goal.returns
returns c = record {
  spelled = λ text is. rw c.unwrap_or.ensures (ReadsOne-spells _
      (λ bs r. ParsesUnsigned 32 10 bs r × ExplainsUnsignedError 10 bs r × HasUnsignedDigitsIfOk bs r)
      text c.get_one.result 0
      (c.get_one.ensures.value text (one_text-rows (found_of c.args.matches.now) c.args.name.now ∙ is))
      (λ x gives. gives.0));
  missing = λ is. c.unwrap_or.ensures
      ∙ ap (λ read. unwrap_or read 0)
      (c.get_one.ensures.none (one_text-rows (found_of c.args.matches.now) c.args.name.now ∙ is));
}
