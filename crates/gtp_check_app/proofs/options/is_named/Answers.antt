use Rattle.std.proofs.Common.{◌∙◌, ap, ℕ, List, map}
use Rattle.std.specs.List.{list_any}
use Rattle.std.specs.Str.{bytes_eq}
use Rattle.clap.proofs.WalkLemmas.{list_any-map}
use Rattle.gtp_check_app.proofs.options.is_named.Goals as goal

pub returns : goal.returns
returns c =
    c.contains.ensures
    ∙ list_any-map (λ (text : List ℕ). bytes_eq text c.name.result.now) (λ name. name.now) c.args.names.now
    ∙ ap (λ (wanted : List ℕ). list_any (λ (text : List ℕ). bytes_eq text wanted)
    (map (λ name. name.now) c.args.names.now))
    c.name.ensures
