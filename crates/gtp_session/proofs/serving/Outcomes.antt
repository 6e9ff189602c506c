-- What calls of `serve_within` come to together, one read each.
use Rattle.std.proofs.Common.{◌≡◌, ◌≢◌, ℕ, ◌+◌, ◌≤◌, false, List, Option, Result, Ok, Err, refl, ap, ◌∙◌, arith}
use Rattle.gtp_session.specs.declared.fault.Fault.TheVariants.{Off}
use Rattle.gtp_session.specs.declared.serve.Served.{Served}
use Rattle.gtp_session.specs.declared.serve.Served.TheVariants.{Stopped}
use Rattle.gtp_session.specs.declared.serve.ServeFault.{ServeFault}
use Rattle.gtp_session.specs.declared.serve.ServeFault.TheVariants.{TooManyReads}
use Rattle.byte_streams.specs.Counts.{raised}
use Rattle.byte_streams.specs.Streams.{Source, Sink}
use Rattle.byte_streams.proofs.CallCounts.{raised-then}
use Rattle.gtp_session.specs.Policy.{May}
use Rattle.gtp_session.specs.Engine.{Engine}
use Rattle.gtp_session.specs.Conversation.{Conversation, GivesAtLeast}
use Rattle.gtp_session.specs.Faults.{FaultyConversation}
use Rattle.gtp_session.specs.Serving.{CameOut, ReadWell, WentWell}
use Rattle.gtp_session.proofs.serving.Conversation.{GivesAtLeast-both, Conversation-both, BrokenConversation-after}
use Rattle.gtp_session.proofs.serving.Conversation.{ReadWhileOpen-after}
use Rattle.gtp_session.proofs.faults.UnderFaults.{Conversation-off, BrokenConversation-off, off-Conversation}
use Rattle.gtp_session.proofs.faults.UnderFaults.{off-BrokenConversation, off_never_stops}

-- one read more
pub read_more : {made : ℕ} {a b c : Source} → ReadWell made a b → c.reads ≡ raised b.reads 1 → c.ends ≡ b.ends
    → c.failures ≡ b.failures → ReadWell (made + 1) a c
read_more p reads ends failures =
    record { reads = rw (reads, p.reads) (raised-then _ _ _); ends = ends ∙ p.ends; failures = failures ∙ p.failures }

read_then : {made more : ℕ} {a b c : Source} → ReadWell made a b → ReadWell more b c → ReadWell (made + more) a c
read_then p q = record {
  reads = rw (q.reads, p.reads) (raised-then _ _ _);
  ends = q.ends ∙ p.ends;
  failures = q.failures ∙ p.failures;
}

pub well_then : {a b c : Sink} → WentWell a b → WentWell b c → WentWell a c
well_then p q = record { held = q.held ∙ p.held; flushed = λ h. q.flushed (p.flushed h) }

-- Calls made so many reads together, each of which gave bytes, and a further call goes on.
pub record WentOn {P : Type 0} (may : May P) (made : ℕ) (old new : Engine P) (reader reader_now : Source)
    (writer writer_now : Sink) : Type 0 where
  pub conversation : Conversation may old new reader.gives reader_now.gives writer.holds writer_now.holds
  pub is_open : new.ended ≡ false
  pub read : ReadWell made reader reader_now
  pub gave : GivesAtLeast reader.gives reader_now.gives made
  pub well : WentWell writer writer_now

pub never_stopped : {P : Type 0} (may : May P) {most : ℕ} {old new : Engine P} {reader reader_now : Source}
    {writer writer_now : Sink}
    → CameOut may Off most old new reader reader_now writer writer_now (Ok Stopped) → ⊥
never_stopped may (CameOut.stopped made within read well stopped is_open) = off_never_stops may stopped

-- the conversation of these calls, and then of one more
both : {P : Type 0} (may : May P) {made genmoves : ℕ} {old mid new : Engine P} {reader reader_mid : Source}
    {writer writer_mid : Sink} {gives holds : Option (List ℕ)}
    → WentOn may made old mid reader reader_mid writer writer_mid
    → FaultyConversation may Off mid new genmoves reader_mid.gives gives writer_mid.holds holds
    → (all : ℕ) × FaultyConversation may Off old new all reader.gives gives writer.holds holds
both may p q = off-Conversation may (Conversation-both may p.conversation (Conversation-off may q))

module _ {P : Type 0} (may : May P) {old mid new : Engine P} {reader reader_mid reader_now : Source}
    {writer writer_mid writer_now : Sink} where
  -- a call more, after which a further one goes on
  pub WentOn-more : {made : ℕ} → WentOn may made old mid reader reader_mid writer writer_mid
      → CameOut may Off 1 mid new reader_mid reader_now writer_mid writer_now (Err TooManyReads)
      → WentOn may (made + 1) old new reader reader_now writer writer_now
  WentOn-more p (CameOut.too_many_reads genmoves read well conversation is_open gave) = record {
    conversation = Conversation-both may p.conversation (Conversation-off may conversation);
    is_open = is_open;
    read = read_then p.read read;
    gave = GivesAtLeast-both p.gave gave;
    well = well_then p.well well;
  }

  -- the last call, after which none goes on
  pub came_out_after : {made most : ℕ} {served : Result Served ServeFault}
      → WentOn may made old mid reader reader_mid writer writer_mid → made + 1 ≤ most
      → CameOut may Off 1 mid new reader_mid reader_now writer_mid writer_now served → served ≢ Err TooManyReads
      → CameOut may Off most old new reader reader_now writer writer_now served
  came_out_after {made} p few (CameOut.quit more genmoves within read well conversation ended last) not =
      let all = both may p conversation in
      CameOut.quit (made + more) all.0 (omega arith) (read_then p.read read) (well_then p.well well) all.1 ended
      (λ was_open. ReadWhileOpen-after may p.conversation (last p.is_open))
  came_out_after {made} p few (CameOut.end_of_input before genmoves within read well conversation is_open gave) not =
      let all = both may p conversation in
      CameOut.end_of_input (made + before) all.0 (omega arith)
      (record {
        reads = rw (read.reads, p.read.reads) (raised-then _ _ _ ∙ ap (raised _) (omega arith));
        ends = read.ends ∙ ap (λ n. raised n 1) p.read.ends;
        failures = read.failures ∙ p.read.failures;
        last = read.last;
        at_end = read.at_end;
      }) (well_then p.well well) all.1 is_open (GivesAtLeast-both p.gave gave)
  came_out_after p few (CameOut.stopped made within read well stopped is_open) not =
      absurd (off_never_stops may stopped)
  came_out_after {made} p few (CameOut.read more genmoves within read well conversation is_open) not =
      let all = both may p conversation in
      CameOut.read (made + more) all.0 (omega arith)
      (record {
        reads = rw (read.reads, p.read.reads) (raised-then _ _ _);
        ends = read.ends ∙ p.read.ends;
        failures = read.failures ∙ ap (λ n. raised n 1) p.read.failures;
        last = read.last;
      }) (well_then p.well well) all.1 is_open
  came_out_after {made} p few (CameOut.write more within read failed broken) not =
      CameOut.write (made + more) (omega arith) (read_then p.read read)
      (record { failed = failed.failed ∙ ap (λ n. raised n 1) p.well.held; last = failed.last })
      (off-BrokenConversation may (BrokenConversation-after may p.conversation (BrokenConversation-off may broken)))
  came_out_after p few (CameOut.too_many_reads genmoves read well conversation is_open gave) not = absurd (not refl)

-- no call goes on
pub came_out_all : {P : Type 0} (may : May P) {made most : ℕ} {old new : Engine P} {reader reader_now : Source}
    {writer writer_now : Sink} → made ≡ most → WentOn may made old new reader reader_now writer writer_now
    → CameOut may Off most old new reader reader_now writer writer_now (Err TooManyReads)
came_out_all may all p =
    let whole = off-Conversation may p.conversation in
    CameOut.too_many_reads whole.0 (rw (← all) p.read) p.well whole.1 p.is_open (rw (← all) p.gave)
