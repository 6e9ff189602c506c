use Rattle.std.proofs.Common.{◌∙◌, sym}
use Rattle.gtp_check_talk.specs.Dialogues.{dialogue}
use Rattle.gtp_check_app.specs.Progress.{no_text}
use Rattle.gtp_check_app.proofs.Progressing.{none_shown, placed_cut, waits_for, waits_for_none, waits_not}
use Rattle.gtp_check_app.proofs.check.Check.show_waiting.Goals as goal

pub returns-then-not-plan : goal.returns-then-not-plan
returns-then-not-plan g c = rw c.if-not-plan.true no_text

pub returns-in_default : goal.returns-in_default
returns-in_default g c = rw c.in_default.is (none_shown g.E.WriteOnce c.args.plan.now.shows_progress c.args.errors.now)

pub returns-then-not-is_read_next : goal.returns-then-not-is_read_next
returns-then-not-is_read_next g c =
    rw (
      c.in-Some.is,
      waits_not c.args.plan.now.lessons.items c.args.self.now.examiner.starts
          (dialogue c.in-Some.engine c.args.self.now.examiner.exam c.args.self.now.notes)
          (sym c.is_read_next.ensures ∙ c.if-not-is_read_next.true),
    )
    (none_shown g.E.WriteOnce c.args.plan.now.shows_progress c.args.errors.now)

pub returns-in_default-said_at : goal.returns-in_default-said_at
returns-in_default-said_at g c =
    rw (
      c.in-Some.is,
      waits_for_none c.args.plan.now.lessons.items c.args.self.now.examiner.starts
          (dialogue c.in-Some.engine c.args.self.now.examiner.exam c.args.self.now.notes)
          (sym c.is_read_next.ensures ∙ c.if-not-is_read_next.false)
          (sym (rw (c.as_slice.ensures.value, c.answered-number.ensures) at c.said_at.ensures)
          ∙ c.in_default-said_at.is),
    )
    (none_shown g.E.WriteOnce c.args.plan.now.shows_progress c.args.errors.now)

pub returns : goal.returns
returns g c =
    rw (
      c.in-Some.is,
      waits_for c.args.plan.now.lessons.items c.args.self.now.examiner.starts
          (dialogue c.in-Some.engine c.args.self.now.examiner.exam c.args.self.now.notes) c.in-Some-said_at.said
          (sym c.is_read_next.ensures ∙ c.if-not-is_read_next.false)
          (sym (rw (c.as_slice.ensures.value, c.answered-number.ensures) at c.said_at.ensures)
          ∙ c.in-Some-said_at.is),
    )
    (rw (
      c.as_slice-4.ensures.value,
      c.waiting_text-text.ensures,
      placed_cut,
      c.line_at-line.ensures,
      c.as_slice-2.ensures.value,
      c.as_slice-3.ensures.value,
      c.answered-number.ensures,
      c.starts.ensures.starts,
    ) at c.show.ensures)
