use Rattle.gtp_check_app.proofs.run.report_unstarted.Goals as goal

pub returns : goal.returns
returns g c =
    rw (
      c.as_slice.ensures.value,
      c.push-2.ensures.bytes,
      c.push_unstarted.ensures.bytes,
      c.push.ensures.bytes,
      c.new-line.ensures,
    ) at c.write_or_break.ensures
