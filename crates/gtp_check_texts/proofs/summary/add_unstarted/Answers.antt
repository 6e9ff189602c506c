use Rattle.std.proofs.Common.{◌≡◌, ◌∙◌, ◌++◌, ◌∷◌, [], ℕ, List, codes, subst}
use Rattle.std.specs.List.{concat}
use Rattle.std.specs.Prelude.{OnOk}
use Rattle.gtp_check_texts.proofs.summary.add_unstarted.Goals as goal

pub returns : goal.returns
returns c = subst
    (λ (shown : List ℕ). OnOk c.add_all.result (c.add_all.new.text.items
    ≡ c.args.text.now.items ++ concat (codes "check: the engine was " ∷ shown ∷ codes "\n" ∷ [])))
    (c.deref.ensures.0 ∙ c.unstarted_text.ensures) c.add_all.ensures
