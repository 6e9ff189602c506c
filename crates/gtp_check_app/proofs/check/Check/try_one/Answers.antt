use Rattle.std.proofs.Common.{◌≡◌, true}
use Rattle.std.proofs.lemmas.Result.{err_from_is_err_and}
use Rattle.gtp_check_talk.specs.Dialogues.{none, wrong_of}
use Rattle.gtp_check_app.specs.Turns.{IsTried, TriesOne}
use Rattle.gtp_check_app.proofs.check.Check.try_one.Goals as goal

pub returns-then-not-may_start-clause-tries : goal.returns-then-not-may_start-clause-tries
returns-then-not-may_start-clause-tries g c =
    TriesOne.no_start (λ few. let yes : c.may_start.result ≡ true = c.may_start.ensures.only few in
    let no = c.if-not-may_start.true in cc)

pub returns-in_err-asked-clause-refused : goal.returns-in_err-asked-clause-refused
returns-in_err-asked-clause-refused g c =
    let exit = c.from_residual in
    let failed = err_from_is_err_and exit.result exit.ensures.1 in
    rw failed.1 (failed.2, none)

pub returns-in_default-clause-tries : goal.returns-in_default-clause-tries
returns-in_default-clause-tries g c =
    TriesOne.right (c.may_start.ensures.may c.if-not-may_start.false)
    (IsTried.by_trial
    (rw (
      c.as_slice.ensures.value,
      c.as_slice-commands.ensures.value,
      c.in_ok-asked.ensures,
      c.purpose.ensures,
      c.in_default.is,
    ) at c.in_ok-tried.ensures.tried))

pub returns-then-ends_like-clause-tries : goal.returns-then-ends_like-clause-tries
returns-then-ends_like-clause-tries g c =
    TriesOne.alike (c.may_start.ensures.may c.if-not-may_start.false)
    (IsTried.by_trial (rw (
      c.as_slice.ensures.value,
      c.as_slice-commands.ensures.value,
      c.in_ok-asked.ensures,
      c.purpose.ensures,
      c.in-Some.is,
    ) at c.in_ok-tried.ensures.tried))
    (c.ends_like.ensures.0 c.if-ends_like.true)

pub returns-clause-tries : goal.returns-clause-tries
returns-clause-tries g c =
    TriesOne.other {tried = wrong_of c.in-Some.tried} (c.may_start.ensures.may c.if-not-may_start.false)
    (IsTried.by_trial (rw (
      c.as_slice.ensures.value,
      c.as_slice-commands.ensures.value,
      c.in_ok-asked.ensures,
      c.purpose.ensures,
      c.in-Some.is,
    ) at c.in_ok-tried.ensures.tried))
    (λ same. let yes : c.ends_like.result ≡ true = c.ends_like.ensures.1 same in let no = c.if-ends_like.false in cc)
