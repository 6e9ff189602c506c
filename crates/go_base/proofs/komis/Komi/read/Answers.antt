use Rattle.std.proofs.Common.{sym, ap, ◌∙◌, rules}
use Rattle.go_base.specs.Komi.{unsigned_half_points_of}
use Rattle.go_base.proofs.spellings.Readers.{IfNone-always}
use Rattle.go_base.proofs.numbers.Komis.{no_komi, spells_komi_of}
use Rattle.go_base.proofs.komis.Komi.read.Goals as goal

pub returns-in_err-magnitude-clause-unread : goal.returns-in_err-magnitude-clause-unread
returns-in_err-magnitude-clause-unread c =
    IfNone-always c.from_residual.result
    (no_komi c.args.text.now
    (c.in_err-magnitude.ensures.value ∙ ap unsigned_half_points_of c.split_sign-is_negative.ensures.unsigned))

pub returns-clause-value : goal.returns-clause-value
returns-clause-value c = search rules

pub returns-clause-read : goal.returns-clause-read
returns-clause-read c = spells_komi_of _ c.args.text.now (sym (returns-clause-value c))
