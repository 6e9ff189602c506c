use Rattle.std.proofs.Common.{◌≡◌, ap, Bool, Option, None, Some, refl, true, false}
use Rattle.std.specs.Prelude.{IsSome}
use Rattle.std.proofs.lemmas.Result.{err_from_is_err_and}
use Rattle.gtp_check_app.specs.Sequence.{known_of, point}
use Rattle.gtp_check_app.specs.Turns.{State, moment, nothing, passed_over, state_of}
use Rattle.gtp_check_app.proofs.Settling.{complains_down, complaint_stops, first_stops, not-false, settles_quietly}
use Rattle.gtp_check_app.proofs.Settling.{settles_so}
use Rattle.gtp_check_app.proofs.Gathering.{where_failed, where_ok}
use Rattle.gtp_check_app.proofs.check.Check.settle.Goals as goal

-- an engine that is down need not be there
paired_down : {A : Type 0} (up : Bool) (engine : Option A) → up ≡ false → up ≡ true → IsSome engine
paired_down up engine down is = absurd (cc (down, is))

pub returns-in_err-write_first-clause-stops : goal.returns-in_err-write_first-clause-stops
returns-in_err-write_first-clause-stops g c =
    let exit = c.from_residual in
    let failed = err_from_is_err_and exit.result exit.ensures.1 in
    rw (failed.1, failed.2)
    (first_stops (known_of g.S.Process.Process g.O.WriteOnce g.E.WriteOnce) c.args.plan.now
    (point _ (g.S.Starter.asked c.args.starter.now) c.args.streams.now) c.args.fault (state_of c.write_first.new.self)
    c.write_first.new.streams _ (rw c.is_blamed-is_wrong.ensures at c.in_err-write_first.ensures.stops))

pub complain-requires-clause-judged : goal.complain-requires-clause-judged
complain-requires-clause-judged g c = rw (c.is_blamed-is_wrong.ensures, c.in-Some.is) at c.if-not-is_wrong.false

pub returns-then-not-is_wrong-clause-flushed : goal.returns-then-not-is_wrong-clause-flushed
returns-then-not-is_wrong-clause-flushed g c =
    let first = rw (c.is_blamed-is_wrong.ensures, c.in-Some.is) at c.in_ok-write_first.ensures.flushed in
    let so = rw (c.is_blamed-is_wrong.ensures, c.in-Some.is) at c.if-not-is_wrong.true in
    rw c.in-Some.is
    (settles_quietly (known_of g.S.Process.Process g.O.WriteOnce g.E.WriteOnce) c.args.plan.now
    (point _ (g.S.Starter.asked c.args.starter.now) c.args.streams.now) (Some c.in-Some.fault)
    (state_of c.write_first.new.self) c.write_first.new.streams (state_of c.pass_over.new.self) first
    (passed_over (not-false _ so) c.pass_over.ensures.passes))

pub returns-then-not-is_wrong-clause-paired : goal.returns-then-not-is_wrong-clause-paired
returns-then-not-is_wrong-clause-paired g c =
    paired_down _ _ (ap {A = State _} (λ now. now.check.exam.up) c.pass_over.ensures.passes.leads)

pub returns-clause-flushed : goal.returns-clause-flushed
returns-clause-flushed g c =
    let first = rw (c.is_blamed-is_wrong.ensures, c.in-Some.is) at c.in_ok-write_first.ensures.flushed in
    rw c.in-Some.is
    (where_ok c.complain.result c.complain.ensures.flushed
    (settles_so (known_of g.S.Process.Process g.O.WriteOnce g.E.WriteOnce) c.args.plan.now
    (point _ (g.S.Starter.asked c.args.starter.now) c.args.streams.now) c.in-Some.fault
    (state_of c.write_first.new.self) c.write_first.new.streams
    (point (state_of c.complain.new.self) (g.S.Starter.asked c.complain.new.starter) c.complain.new.streams) first))

pub returns-clause-stops : goal.returns-clause-stops
returns-clause-stops g c =
    let first = rw (c.is_blamed-is_wrong.ensures, c.in-Some.is) at c.in_ok-write_first.ensures.flushed in
    let so = rw (c.is_blamed-is_wrong.ensures, c.in-Some.is) at c.if-not-is_wrong.false in
    rw c.in-Some.is
    (where_failed c.complain.result c.complain.ensures.stops (λ why stops.
    complaint_stops (known_of g.S.Process.Process g.O.WriteOnce g.E.WriteOnce) c.args.plan.now
    (point _ (g.S.Starter.asked c.args.starter.now) c.args.streams.now) c.in-Some.fault
    (state_of c.write_first.new.self) c.write_first.new.streams
    (point (state_of c.complain.new.self) (g.S.Starter.asked c.complain.new.starter) c.complain.new.streams) why so
    first stops))

pub returns-clause-paired : goal.returns-clause-paired
returns-clause-paired g c =
    where_ok c.complain.result c.complain.ensures.flushed (λ out.
    paired_down _ _ (complains_down g.S.Process.Process c.args.plan.now
    (moment _ (g.S.Starter.asked c.args.starter.now)) c.in-Some.fault (Some c.in-Some.fault) refl out.complains))

pub returns-in_default-clause-flushed : goal.returns-in_default-clause-flushed
returns-in_default-clause-flushed g c =
    let first = rw (c.is_blamed-is_wrong.ensures, c.in_default.is) at c.in_ok-write_first.ensures.flushed in
    rw c.in_default.is
    (settles_quietly (known_of g.S.Process.Process g.O.WriteOnce g.E.WriteOnce) c.args.plan.now
    (point _ (g.S.Starter.asked c.args.starter.now) c.args.streams.now) None (state_of c.write_first.new.self)
    c.write_first.new.streams (state_of c.write_first.new.self) first nothing)
