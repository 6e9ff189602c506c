use Rattle.std.proofs.Common.{◌≡◌, ◌∙◌, ap, arith, length, option_map, refl, sym, List, Option, None, Some}
use Rattle.std.specs.Borrow.{Bor}
use Rattle.std.specs.Option.{option_copied, unwrap_or}
use Rattle.std.proofs.lemmas.Result.{err_from_is_err_and}
use Rattle.gtp_process.specs.Starts.{program_line}
use Rattle.gtp_check_judge.specs.declared.asking.CheckCommand.{CheckCommand}
use Rattle.gtp_check_talk.specs.declared.trial.Tried.{Tried}
use Rattle.gtp_check_talk.specs.Dialogues.{Wrong, none, wrong_of}
use Rattle.gtp_check_shortening.specs.Reduction.{begun, next}
use Rattle.gtp_check_shortening.specs.declared.limits.Limits.{Limits}
use Rattle.gtp_check_app.specs.Trials.{limits_of}
use Rattle.gtp_check_app.specs.Turns.{IsReduced, Reduces}
use Rattle.gtp_check_app.proofs.Shortening.{reduces_asks, then_more}
use Rattle.gtp_check_app.proofs.check.Check.reduced.Goals as goal
use Rattle.gtp_check_app.proofs.check.Check.reduced.Goals.{in-None, in-Some-2}

pub returns-in_err-reduction-clause-refused : goal.returns-in_err-reduction-clause-refused
returns-in_err-reduction-clause-refused g c =
    let exit = c.from_residual in
    let failed = err_from_is_err_and exit.result exit.ensures.1 in
    rw failed.1 (failed.2, none)

-- the last games that ended like what was found, if any did, or what was found
longer_is : (ended : Option (Bor Tried)) (games : Option Tried) (found : Bor Tried) → option_copied ended ≡ games
    → wrong_of (unwrap_or ended found).now ≡ unwrap_or (option_map wrong_of games) (wrong_of found.now)
longer_is None games found is = rw (← is) refl
longer_is (Some one) games found is = rw (← is) refl

pub loop-best-init : goal.loop-best-init
loop-best-init g c =
    let plan = c.args.plan.now in
    let tried = c.args.games.now.tried in
    let longer = c.unwrap_or-longer.result.now in
    let is : wrong_of longer ≡ unwrap_or (option_map wrong_of c.args.games.now.ended) (wrong_of c.args.found.now) =
    ap (λ (one : Bor Tried). wrong_of one.now) c.unwrap_or-longer.ensures
    ∙ longer_is c.as_ref.result c.args.games.now.ended c.args.found c.as_ref.ensures.value in
    let left = c.as_slice.result.now in
    let begins = c.in_ok-reduction.ensures
    ∙ ap (λ (limits : Limits). begun left limits) c.limits_of-limits.ensures
    ∙ ap (λ (wrong : Wrong). begun left (limits_of plan (wrong_of c.args.found.now) wrong tried)) is
    ∙ ap (λ (all : List CheckCommand). begun all
    (limits_of plan (wrong_of c.args.found.now)
    (unwrap_or (option_map wrong_of c.args.games.now.ended) (wrong_of c.args.found.now)) tried))
    c.as_slice.ensures.value in
    record { reduces = rw begins Reduces.begins; engine = refl }

pub returns-in_err-commands-clause-refused : goal.returns-in_err-commands-clause-refused
returns-in_err-commands-clause-refused g c =
    let exit = c.from_residual-in_err-commands in
    let failed = err_from_is_err_and exit.result exit.ensures.1 in
    rw failed.1 (
      failed.2,
      reduces_asks g.S.Process.Process c.args.plan.now (wrong_of c.args.found.now) _ _ c.loop-best.invariant.reduces,
    )

pub returns-in_err-try_one-clause-refused : goal.returns-in_err-try_one-clause-refused
returns-in_err-try_one-clause-refused g c =
    let exit = c.from_residual-in_err-try_one in
    let failed = err_from_is_err_and exit.result exit.ensures.1 in
    let refused = c.in_err-try_one.ensures.refused in
    rw (failed.1, failed.2) (
      refused.0,
      then_more (program_line c.args.plan.now.words.items) _ _
          (reduces_asks g.S.Process.Process c.args.plan.now (wrong_of c.args.found.now) _ _
          c.loop-best.invariant.reduces)
          refused.1,
    )

pub loop-best-preserved : goal.loop-best-preserved
loop-best-preserved g c =
    let is_next : next c.loop-best.reduction ≡ Some c.in-Some.commands.items =
    sym c.in_ok-commands.ensures ∙ ap (λ one. option_map (λ commands. commands.items) one) c.in-Some.is in
    let count : c.len-asked.result ≡ length c.in-Some.commands.items = omega (arith, c.len-asked.ensures) in
    let same = c.in_ok-try_one.ensures.engine ∙ c.loop-best.invariant.engine in
    elim c.match-branch-5.branch [
      | in-None w ↦ record {
        reduces = rw (w.reduction-is, w.best-is, w.failed.ensures, count)
            (Reduces.failed c.in-Some.commands.items c.loop-best.invariant.reduces is_next
            (rw (c.as_slice-in-Some.ensures.value, w.in-None.is) at c.in_ok-try_one.ensures.tries));
        engine = same;
      }
      | in-Some-2 w ↦ record {
        reduces = rw (
          w.reduction-is,
          w.best-is,
          w.succeeded.ensures,
          count,
          w.own_of-own.ensures,
          w.as_slice-in-Some-2.ensures.value,
        )
            (Reduces.succeeded {tried = wrong_of w.in-Some-2.tried} c.in-Some.commands.items
            c.loop-best.invariant.reduces is_next
            (rw (c.as_slice-in-Some.ensures.value, w.in-Some-2.is) at c.in_ok-try_one.ensures.tries));
        engine = same;
      }
    ]

pub returns-clause-reduced : goal.returns-clause-reduced
returns-clause-reduced g c =
    let none_left : next c.loop-best.reduction ≡ None =
    sym c.in_ok-commands.ensures ∙ ap (λ one. option_map (λ commands. commands.items) one) c.in_default.is in
    IsReduced.reduced c.loop-best.invariant.reduces none_left
