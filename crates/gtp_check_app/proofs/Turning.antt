-- How a turn begins and ends.
use Rattle.std.proofs.Common.{◌≡◌, ◌⊎◌, [], Option, None, Some, refl, subst}
use Rattle.std.specs.Prelude.{length, false}
use Rattle.byte_streams.specs.Writing.{no_line}
use Rattle.gtp_process.specs.Endings.{IsEnded}
use Rattle.gtp_process.specs.Quitting.{QuitsIfAny}
use Rattle.gtp_check_judge.specs.Check.{after_loss}
use Rattle.gtp_check_course.specs.declared.actions.Action.TheVariants.{Done, Kill, Restart, Start}
use Rattle.cli.specs.declared.failure.Failure.{Failure}
use Rattle.gtp_check_course.specs.declared.plan.Plan.{Plan}
use Rattle.gtp_check_texts.specs.declared.summary.Over.{Over}
use Rattle.gtp_check_texts.specs.declared.summary.Over.TheVariants as over
use Rattle.gtp_check_app.specs.Sequence.{Known, Point, StopsIn, no_memory_to_start, point}
use Rattle.gtp_check_app.specs.Turns.{Moment, State, done, kills, moment, process_of, restarts, starts}
use Rattle.gtp_check_app.specs.private.Steps.{Begins, EndsTurn, Goes, IsRefused, begins, is_over}
use Rattle.gtp_check_app.proofs.Progressing.{none_shown}

module _ {P O E : Type 0} (known : Known P O E) (plan : Plan) (before : Point P O E) where
  -- an engine was started, or the check is over
  pub begun_turn : (mid : State P) (after : Moment P) (why : Option Over) → Goes plan.singly before.now.state Start mid
      → Begins known.processes plan (moment mid before.now.asked) why after
      → EndsTurn known plan before why (record before { now = after })
  begun_turn mid after why goes begins_so =
      began goes after why
      (subst (λ (now : State P). Begins known.processes plan (moment now before.now.asked) why after) goes.leads
      begins_so)
    where
      began : (goes : Goes plan.singly before.now.state Start mid) (after : Moment P) (why : Option Over)
          → Begins known.processes plan (moment (record goes.mid { course = goes.course }) before.now.asked) why after
          → EndsTurn known plan before why (record before { now = after })
      began goes after why (begins process fruitful may tries quits fresh) = (
        [],
        [],
        starts process goes.asks goes.next fruitful may tries quits fresh,
        no_line,
        none_shown known.errs plan.shows_progress before.streams.errors,
      )
      began goes after why (is_over by) = (
        record {
          mid = goes.mid;
          asks = goes.asks;
          action = Start;
          course = goes.course;
          next = goes.next;
          over = by;
          leads = refl;
        },
        refl,
      )

  -- memory was refused for the start
  pub refused_turn : (mid : State P) (after : Moment P) (why : Failure) → Goes plan.singly before.now.state Start mid
      → IsRefused plan (moment mid before.now.asked) why after
      → StopsIn known plan before (process_of after.state.engine) after.asked before.streams why
  refused_turn mid after why goes refused =
      rw (refused.failed, refused.same, goes.leads) (no_memory_to_start goes.asks goes.next refused.asked)

  -- the engine was ended
  pub ended_turn : (mid after : State P) → Goes plan.singly before.now.state Restart mid
      → QuitsIfAny known.processes (process_of mid.engine)
      → after ≡ record mid { check = after_loss mid.check; engine = None }
      → EndsTurn known plan before None (point after before.now.asked before.streams)
  ended_turn mid after goes quits is =
      rw (is, goes.leads) (
        [],
        [],
        restarts goes.asks goes.next (rw goes.leads at quits),
        no_line,
        none_shown known.errs plan.shows_progress before.streams.errors,
      )

  -- the engine was ended without `quit`
  pub killed_turn : (mid after : State P) → Goes plan.singly before.now.state Kill mid
      → IsEnded known.processes (process_of mid.engine)
      → after ≡ record mid { check = after_loss mid.check; engine = None }
      → EndsTurn known plan before None (point after before.now.asked before.streams)
  killed_turn mid after goes ended is =
      rw (is, goes.leads) (
        [],
        [],
        kills goes.asks goes.next (rw goes.leads at ended),
        no_line,
        none_shown known.errs plan.shows_progress before.streams.errors,
      )

  -- each lesson was asked
  pub over_turn : (mid : State P) → Goes plan.singly before.now.state Done mid
      → (mid.check.exam.up ≡ false) ⊎ (length mid.check.exam.unanswered ≡ 0)
      → EndsTurn known plan before (Some over.Done) (point mid before.now.asked before.streams)
  over_turn mid goes rests = (
    record {
      mid = goes.mid;
      asks = goes.asks;
      action = Done;
      course = goes.course;
      next = goes.next;
      over = done rests;
      leads = goes.leads;
    },
    refl,
  )
