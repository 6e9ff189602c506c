use Rattle.std.proofs.Common.{◌≡◌, ◌∙◌, ap, refl, inl, inr, subst, [], ◌∷◌}
use Rattle.std.proofs.lemmas.Result.{err_from_is_err_and}
use Rattle.byte_streams.specs.Writing.{line_flushed, no_line}
use Rattle.go_board.specs.declared.rules.KoRule.{KoRule}
use Rattle.gtp_check_texts.specs.Complaints.{complaint_lines}
use Rattle.gtp_check_texts.specs.declared.complaint.Complaint.{Complaint}
use Rattle.gtp_check_talk.specs.Dialogues.{Wrong, wrong_of}
use Rattle.gtp_check_app.specs.declared.complaining.Caption.{Caption}
use Rattle.gtp_check_app.specs.Progress.{cleared, looking_line}
use Rattle.gtp_check_app.specs.Sequence.{known_of}
use Rattle.gtp_check_app.specs.Turns.{IsComplaint, caption_of, moment}
use Rattle.gtp_check_app.specs.private.Steps.{complaint_broke, complaint_refused}
use Rattle.gtp_check_app.proofs.Progressing.{both_shown}
use Rattle.gtp_check_app.proofs.Settling.{complained, is_hidden}
use Rattle.gtp_check_app.proofs.Gathering.{where_err, where_ok}
use Rattle.gtp_check_app.proofs.Shortening.{shortened_asks}
use Rattle.gtp_check_app.proofs.check.Check.complain.Goals as goal

-- a complaint has the caption that is the same
captioned : (rule : KoRule) (one other : Caption) (wrong : Wrong) (complaint : Complaint) → one ≡ other
    → IsComplaint rule one wrong complaint → IsComplaint rule other wrong complaint
captioned rule one other wrong complaint same about =
    subst (λ (caption : Caption). IsComplaint rule caption wrong complaint) same about

pub returns-then-not-find-clause-flushed : goal.returns-then-not-find-clause-flushed
returns-then-not-find-clause-flushed g c =
    is_hidden (known_of g.S.Process.Process g.O.WriteOnce g.E.WriteOnce) c.args.plan.now
    (moment _ (g.S.Starter.asked c.args.starter.now)) _ c.args.fault (wrong_of c.in-Some.found)
    c.purpose-lesson.result c.find.new.self c.in-Some.ensures.closes c.requires.judged c.purpose-lesson.ensures
    c.find.ensures.found c.find.result c.find.ensures.shown c.if-not-find.true c.args.streams.now

pub returns-in_err-shorter-clause-stops : goal.returns-in_err-shorter-clause-stops
returns-in_err-shorter-clause-stops g c =
    let exit = c.from_residual in
    let failed = err_from_is_err_and exit.result exit.ensures.1 in
    let refused = c.in_err-shorter.ensures.refused in
    rw (failed.1, failed.2, refused.0)
    (complaint_refused c.in-Some.ensures.closes refused.1 refl c.show_looking.ensures
    (c.shorter.ensures.engine ∙ c.close.ensures.gone))

pub returns-in-Some-2-clause-flushed : goal.returns-in-Some-2-clause-flushed
returns-in-Some-2-clause-flushed g c =
    rw c.write.ensures.same
    (where_ok c.write.result c.write.ensures.flushed (λ out. record {
      said = complaint_lines out.0 ∷ [];
      complains = complained (known_of g.S.Process.Process g.O.WriteOnce g.E.WriteOnce) c.args.plan.now
          (moment _ (g.S.Starter.asked c.args.starter.now)) _ c.args.fault (wrong_of c.in-Some.found)
          c.purpose-lesson.result c.find.new.self c.in-Some.ensures.closes c.requires.judged c.purpose-lesson.ensures
          c.find.ensures.found c.find.result c.find.ensures.shown c.if-not-find.false
          (rw c.in-Some-2.is at c.in_ok-shorter.ensures.shortens) out.0
          (captioned c.args.plan.now.rule _ _ (wrong_of c.in-Some-2.shorter) out.0 c.caption_of-caption.ensures out.1);
      flushed = line_flushed out.2 no_line;
      shown = both_shown g.E.WriteOnce c.args.plan.now.shows_progress (looking_line ∷ []) (cleared ∷ []) _ _ _
          c.show_looking.ensures out.3;
    }))

pub returns-in-Some-2-clause-stops : goal.returns-in-Some-2-clause-stops
returns-in-Some-2-clause-stops g c =
    let gone = c.shorter.ensures.engine ∙ c.close.ensures.gone in
    let shortens = rw c.in-Some-2.is at c.in_ok-shorter.ensures.shortens in
    rw c.write.ensures.same
    (where_err c.write.result c.write.ensures.refused c.write.ensures.broke (λ why refused broke. elim refused [
      | inl is ↦ rw is
          (complaint_broke
          (complained (known_of g.S.Process.Process g.O.WriteOnce g.E.WriteOnce) c.args.plan.now
          (moment _ (g.S.Starter.asked c.args.starter.now)) _ c.args.fault (wrong_of c.in-Some.found)
          c.purpose-lesson.result c.find.new.self c.in-Some.ensures.closes c.requires.judged c.purpose-lesson.ensures
          c.find.ensures.found c.find.result c.find.ensures.shown c.if-not-find.false
          shortens (broke is).0
          (captioned c.args.plan.now.rule _ _ (wrong_of c.in-Some-2.shorter) (broke is).0 c.caption_of-caption.ensures
          (broke is).1))
          (broke is).2
          (both_shown g.E.WriteOnce c.args.plan.now.shows_progress (looking_line ∷ []) (cleared ∷ []) _ _ _
          c.show_looking.ensures (broke is).3)
          gone)
      | inr kept ↦ rw (kept.0, kept.1)
          (complaint_refused c.in-Some.ensures.closes
          (shortened_asks g.S.Process.Process c.args.plan.now (wrong_of c.in-Some.found) _ shortens) refl
          c.show_looking.ensures gone)
    ]))

pub returns-clause-flushed : goal.returns-clause-flushed
returns-clause-flushed g c =
    rw c.write-in-None.ensures.same
    (where_ok c.write-in-None.result c.write-in-None.ensures.flushed (λ out. record {
      said = complaint_lines out.0 ∷ [];
      complains = complained (known_of g.S.Process.Process g.O.WriteOnce g.E.WriteOnce) c.args.plan.now
          (moment _ (g.S.Starter.asked c.args.starter.now)) _ c.args.fault (wrong_of c.in-Some.found)
          c.purpose-lesson.result c.find.new.self c.in-Some.ensures.closes c.requires.judged c.purpose-lesson.ensures
          c.find.ensures.found c.find.result c.find.ensures.shown c.if-not-find.false
          (rw c.in-None.is at c.in_ok-shorter.ensures.shortens) out.0
          (captioned c.args.plan.now.rule _ _ (wrong_of c.in-Some.found) out.0
          (c.caption_of-caption-in-None.ensures ∙ ap (caption_of _ _) c.shown_unshortened.ensures) out.1);
      flushed = line_flushed out.2 no_line;
      shown = both_shown g.E.WriteOnce c.args.plan.now.shows_progress (looking_line ∷ []) (cleared ∷ []) _ _ _
          c.show_looking.ensures out.3;
    }))

pub returns-clause-stops : goal.returns-clause-stops
returns-clause-stops g c =
    let gone = c.shorter.ensures.engine ∙ c.close.ensures.gone in
    let shortens = rw c.in-None.is at c.in_ok-shorter.ensures.shortens in
    rw c.write-in-None.ensures.same
    (where_err c.write-in-None.result c.write-in-None.ensures.refused c.write-in-None.ensures.broke
    (λ why refused broke. elim refused [
      | inl is ↦ rw is
          (complaint_broke
          (complained (known_of g.S.Process.Process g.O.WriteOnce g.E.WriteOnce) c.args.plan.now
          (moment _ (g.S.Starter.asked c.args.starter.now)) _ c.args.fault (wrong_of c.in-Some.found)
          c.purpose-lesson.result c.find.new.self c.in-Some.ensures.closes c.requires.judged c.purpose-lesson.ensures
          c.find.ensures.found c.find.result c.find.ensures.shown c.if-not-find.false
          shortens (broke is).0
          (captioned c.args.plan.now.rule _ _ (wrong_of c.in-Some.found) (broke is).0
          (c.caption_of-caption-in-None.ensures ∙ ap (caption_of _ _) c.shown_unshortened.ensures) (broke is).1))
          (broke is).2
          (both_shown g.E.WriteOnce c.args.plan.now.shows_progress (looking_line ∷ []) (cleared ∷ []) _ _ _
          c.show_looking.ensures (broke is).3)
          gone)
      | inr kept ↦ rw (kept.0, kept.1)
          (complaint_refused c.in-Some.ensures.closes
          (shortened_asks g.S.Process.Process c.args.plan.now (wrong_of c.in-Some.found) _ shortens) refl
          c.show_looking.ensures gone)
    ]))
