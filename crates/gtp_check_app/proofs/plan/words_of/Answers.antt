use Rattle.std.proofs.Common.{◌∙◌, length, lit<, rules, tests}
use Rattle.std.specs.Prelude.{nat_lt}
use Rattle.std.proofs.lemmas.Iterator.Consumers.{YieldsList-at, YieldsList-from_filter, map_from_collect}
use Rattle.std.proofs.lemmas.Iterator.Splits.{YieldsList-from_str_split}
use Rattle.gtp_check_app.proofs.CommandWords.{not-empty}
use Rattle.gtp_check_app.proofs.plan.words_of.Goals as goal

pub returns : goal.returns
returns c = map_from_collect _ c.collect.ensures.ran
    (YieldsList-from_filter _ (λ part. nat_lt 0 (length part))
    (YieldsList-at c.filter.ensures.source
    (YieldsList-from_str_split 32 c.args.command.now (lit< tt) c.split.ensures.text c.split.ensures.has_more
    c.split.ensures.pattern))
    c.filter.ensures.closure (λ x b q called. (search rules, search (rules, tests) ∙ not-empty (length x.now))))
