-- Laws of the faults that an engine makes on request.
use Rattle.std.proofs.Common.{◌≡◌, ℕ, ◌+◌, ◌-◌, ◌<◌, ◌≤◌, min, Bool, true, false, List, [], ◌∷◌, ◌++◌, length, take}
use Rattle.std.proofs.Common.{Option, Some, None, refl, sym, ap, ◌∙◌, append_assoc, arith, replicate, subst}
use Rattle.std.proofs.lemmas.Bool.Decides.{nat_tests}
use Rattle.std.specs.Prelude.{◌&&◌, ◌==◌, codes, if◌then◌else◌, Result, Ok, Err, OnOk, OnErr}
use Rattle.std.proofs.lemmas.List.{append-nil, take-replicate, length-append, length-replicate, length-take}
use Rattle.std.proofs.lemmas.List.{replicate-append-replicate}
use Rattle.std.proofs.lemmas.List.Sums.{sum_by-cons}
use Rattle.std.proofs.KnownBytes.{Appends-nil, Appends-trans, Appends-kept, Consumes-nil, Consumes-trans}
use Rattle.std.specs.Io.KnownBytes.{Appends, Keeps, Consumes}
use Rattle.gtp_wire.specs.declared.lines.Line.{Line}
use Rattle.gtp_wire.specs.declared.lines.Line.TheVariants as line
use Rattle.gtp_wire.specs.Lines.{lines}
use Rattle.gtp_session.specs.declared.fault.Fault.{Fault}
use Rattle.gtp_session.specs.declared.fault.Fault.TheVariants.{Off, Stop, Cut, Junk, Flood}
use Rattle.gtp_session.specs.declared.commands.CommandName.{CommandName}
use Rattle.gtp_session.specs.declared.commands.CommandName.TheVariants.{Genmove}
use Rattle.gtp_session.specs.Policy.{May}
use Rattle.byte_streams.specs.Counts.{raised, failures_after, moved_by_flush, waiting_after_flush}
use Rattle.byte_streams.specs.Streams.{Sink, TookWhole, TookPart}
use Rattle.gtp_session.specs.Commands.{answer, ends, has_name, is_genmove_line, named_command}
use Rattle.gtp_session.proofs.table.Names.{is_genmove}
use Rattle.std.proofs.lemmas.Bool.{and_parts}
use Rattle.gtp_session.specs.Engine.{Engine, State, WrittenReply, Step, Answers, Replies, StopsAtLine, output_of}
use Rattle.gtp_session.specs.Engine.Answers.{none, over, more}
use Rattle.byte_streams.specs.Parts.{TakesPart}
use Rattle.gtp_session.specs.Conversation.{Conversation, BrokenConversation, ReadWhileOpen, GaveLine}
use Rattle.gtp_session.proofs.serving.Conversation.{GivesBytes}
use Rattle.gtp_session.specs.Faults.{number_of, stops, flood_length, in_place_of, genmoves, meets, faulty_text}
use Rattle.gtp_session.specs.Faults.{faulty_output}
use Rattle.gtp_session.specs.Faults.{NotYet, FaultyDelivered, FaultyUpTo, Stops, FaultyBreaks, FaultyConversation}
use Rattle.gtp_session.specs.Faults.{StoppedConversation, BrokenFaultyConversation, count_genmoves, PutsThere}
use Rattle.gtp_session.specs.Faults.{ChangesThere}
use Rattle.gtp_session.specs.Faults.{ChangesNothingBefore, ChangesNoEarlier, OffChangesNothing}
use Rattle.gtp_session.proofs.engines.Replying.{Replies-nothing, Replies-then}

-- ---- the flood

-- the newlines of which a flood is written
abbrev pub newlines : ℕ → List ℕ
newlines n = replicate n 10

length-newlines : (n : ℕ) → length (newlines n) ≡ n
length-newlines n = length-replicate n 10

-- what is written of a piece of newlines is newlines
pub piece_of : (most taken : ℕ) → most ≤ 64 → taken ≤ length (take most (newlines 64))
    → take taken (take most (newlines 64)) ≡ newlines taken
piece_of most taken few within =
    let whole : take most (newlines 64) ≡ newlines most = take-replicate most 64 10 few in
    let fits : taken ≤ length (newlines most) = rw whole at within in
    rw whole (take-replicate taken most 10 (omega (arith, length-newlines most, fits)))

few_enough : (done most : ℕ) → most ≡ min (flood_length - done) 64 → most ≤ 64
few_enough done most e = omega (arith, e)

pub Appends-flood : (a b c : Option (List ℕ)) (done most taken : ℕ) → most ≡ min (flood_length - done) 64
    → taken ≤ length (take most (newlines 64))
    → Appends a b (newlines done) → Appends b c (take taken (take most (newlines 64)))
    → Appends a c (newlines (done + taken))
Appends-flood a b c done most taken e within p q =
    let more : Appends b c (newlines taken) = rw (piece_of most taken (few_enough done most e) within) at q in
    subst (Appends a c) (replicate-append-replicate done taken 10) (Appends-trans a b c _ _ p more)

pub flood-within : (done most taken : ℕ) → done < flood_length → most ≡ min (flood_length - done) 64
    → taken ≤ length (take most (newlines 64)) → done + taken ≤ flood_length
flood-within done most taken under e within =
    let whole : take most (newlines 64) ≡ newlines most = take-replicate most 64 10 (few_enough done most e) in
    let fits : taken ≤ length (newlines most) = rw whole at within in
    omega (arith, length-newlines most, fits, e)

rest_of_flood : (done : ℕ) → done ≤ flood_length
    → newlines flood_length ≡ newlines done ++ newlines (flood_length - done)
rest_of_flood done within =
    let all : done + (flood_length - done) ≡ flood_length = omega arith in
    sym (replicate-append-replicate done (flood_length - done) 10 ∙ ap newlines all)

pub TakesPart-flood : (a b c : Option (List ℕ)) (done : ℕ) → done ≤ flood_length → Appends a b (newlines done)
    → Keeps b c → TakesPart (newlines flood_length) a c
TakesPart-flood a b c done within p q =
    record {
      part = newlines done;
      left = newlines (flood_length - done);
      cut = rest_of_flood done within;
      taken = Appends-kept a b c _ p q;
    }

-- the flush after a flood that was taken whole
pub flood-sent : {T E : Type 0} (r : Result T E) (a b c : Sink) (done : ℕ) → done ≤ flood_length
    → flood_length ≤ done → Appends a.holds b.holds (newlines done) → b.failures ≡ a.failures
    → Keeps b.holds c.holds → c.failures ≡ failures_after b.failures r → c.waiting ≡ waiting_after_flush b.waiting r
    → OnOk r (TookWhole (newlines flood_length) a c)
flood-sent (Ok x) a b c done m n p held q failures waiting =
    let all : done ≡ flood_length = omega arith in
    record {
      whole = subst (λ k. Appends a.holds c.holds (newlines k)) all (Appends-kept a.holds b.holds c.holds _ p q);
      held = failures ∙ held;
      flushed = waiting;
    }
flood-sent (Err e) a b c done m n p held q failures waiting = tt

pub flood-broke : {T E : Type 0} (r : Result T E) (a b c : Sink) (done : ℕ) → done ≤ flood_length
    → Appends a.holds b.holds (newlines done) → b.failures ≡ a.failures
    → Keeps b.holds c.holds → c.failures ≡ failures_after b.failures r → c.last ≡ moved_by_flush r
    → OnErr r (TookPart (newlines flood_length) a c)
flood-broke (Ok x) a b c done m p held q failures last = tt
flood-broke (Err e) a b c done m p held q failures last =
    record {
      part = TakesPart-flood a.holds b.holds c.holds done m p q;
      failed = failures ∙ ap (λ n. raised n 1) held;
      last = last;
    }

-- ---- the output under a fault

pub genmoves-append : (rs ss : List WrittenReply) → genmoves (rs ++ ss) ≡ genmoves rs + genmoves ss
genmoves-append [] ss = omega arith
genmoves-append (r ∷ rs) ss = omega (arith, genmoves-append rs ss)

pub faulty_output-append : (fault : Fault) (before : ℕ) (rs ss : List WrittenReply)
    → faulty_output fault before (rs ++ ss)
    ≡ faulty_output fault before rs ++ faulty_output fault (before + genmoves rs) ss
faulty_output-append fault before [] ss = ap (λ n. faulty_output fault n ss) (omega arith)
faulty_output-append fault before (r ∷ rs) ss =
    let count : (before + genmoves (r ∷ [])) + genmoves rs ≡ before + genmoves (r ∷ rs) = omega arith in
    ap (λ t. faulty_text fault before r ++ t) (faulty_output-append fault (before + genmoves (r ∷ [])) rs ss
    ∙ ap (λ n. faulty_output fault (before + genmoves (r ∷ [])) rs ++ faulty_output fault n ss) count)
    ∙ sym (append_assoc (faulty_text fault before r) (faulty_output fault (before + genmoves (r ∷ [])) rs)
    (faulty_output fault (before + genmoves (r ∷ rs)) ss))

same_either_way : (b : Bool) (text : List ℕ) → (if b then text else text) ≡ text
same_either_way true text = refl
same_either_way false text = refl

pub faulty_text-off : (before : ℕ) (r : WrittenReply) → faulty_text Off before r ≡ r.text
faulty_text-off before r = same_either_way (meets Off before r) r.text

pub faulty_output-off : (before : ℕ) (rs : List WrittenReply) → faulty_output Off before rs ≡ output_of rs
faulty_output-off before [] = refl
faulty_output-off before (r ∷ rs) =
    rw (faulty_text-off before r, faulty_output-off (before + genmoves (r ∷ [])) rs) refl

-- a number is not another one
not_equal : (m n : ℕ) → n + 1 < m → (m == n + 1) ≡ false
not_equal m n h = grind (arith, nat_tests)

not_equal_past : (m n : ℕ) → m ≤ n → (m == n + 1) ≡ false
not_equal_past m n h = grind (arith, nat_tests)

-- before the genmove that the fault meets, the replies are written as they are
before_it : (fault : Fault) (n : ℕ) (r : WrittenReply) (genmove : Bool) → r.genmove ≡ genmove
    → n + (if genmove then 1 else 0) < number_of fault → meets fault n r ≡ false
before_it fault n r false e h = rw e refl
before_it fault n r true e h = rw (e, not_equal (number_of fault) n h) refl

past_it : (fault : Fault) (n : ℕ) (r : WrittenReply) (genmove : Bool) → r.genmove ≡ genmove → number_of fault ≤ n
    → meets fault n r ≡ false
past_it fault n r false e h = rw e refl
past_it fault n r true e h = rw (e, not_equal_past (number_of fault) n h) refl

pub faulty_output-before : (fault : Fault) (n : ℕ) (rs : List WrittenReply) → n + genmoves rs < number_of fault
    → faulty_output fault n rs ≡ output_of rs
faulty_output-before fault n [] h = refl
faulty_output-before fault n (r ∷ rs) h =
    let first : meets fault n r ≡ false = before_it fault n r r.genmove refl (omega arith) in
    let later : faulty_output fault (n + genmoves (r ∷ [])) rs ≡ output_of rs =
    faulty_output-before fault (n + genmoves (r ∷ [])) rs
    (omega arith) in
    rw (first, later) refl

pub faulty_output-past : (fault : Fault) (n : ℕ) (rs : List WrittenReply) → number_of fault ≤ n
    → faulty_output fault n rs ≡ output_of rs
faulty_output-past fault n [] h = refl
faulty_output-past fault n (r ∷ rs) h =
    let first : meets fault n r ≡ false = past_it fault n r r.genmove refl h in
    let later : faulty_output fault (n + genmoves (r ∷ [])) rs ≡ output_of rs =
    faulty_output-past fault (n + genmoves (r ∷ [])) rs
    (omega arith) in
    rw (first, later) refl

equal : (m n : ℕ) → n + 1 ≡ m → (m == n + 1) ≡ true
equal m n h = grind (arith, nat_tests)

pub genmoves_counted : (replies : List WrittenReply) → genmoves replies ≡ count_genmoves replies
genmoves_counted [] = refl
genmoves_counted (r ∷ rs) =
    ap (λ n. (if r.genmove then 1 else 0) + n) (genmoves_counted rs)
    ∙ sym (sum_by-cons (λ (reply : WrittenReply). if reply.genmove then 1 else 0) r rs)

puts_there : (fault : Fault) → PutsThere fault (number_of fault) (in_place_of fault)
puts_there fault front back it g counted =
    let e : genmoves front + 1 ≡ number_of fault = ap (λ n. n + 1) (genmoves_counted front) ∙ counted in
    let met : meets fault (genmoves front) it ≡ true = rw (g, equal (number_of fault) (genmoves front) e) refl in
    let one : genmoves (it ∷ []) ≡ 1 = rw g refl in
    let zero_more : 0 + genmoves front ≡ genmoves front = omega arith in
    faulty_output-append fault 0 front (it ∷ back)
    ∙ ap (λ t. t ++ faulty_output fault (0 + genmoves front) (it ∷ back))
    (faulty_output-before fault 0 front (omega arith))
    ∙ ap (λ n. output_of front ++ faulty_output fault n (it ∷ back)) zero_more
    ∙ ap (λ t. output_of front ++ (t ++ faulty_output fault (genmoves front + genmoves (it ∷ [])) back)) (rw met refl)
    ∙ ap (λ t. output_of front ++ (in_place_of fault it.text ++ t))
    (faulty_output-past fault (genmoves front + genmoves (it ∷ [])) back (omega arith))

pub changes_there : (fault : Fault) → ChangesThere fault
changes_there Off = tt
changes_there (Stop number) = puts_there (Stop number)
changes_there (Cut number kept) = puts_there (Cut number kept)
changes_there (Junk number) = puts_there (Junk number)
changes_there (Flood number) = puts_there (Flood number)

changes_nothing_before : (fault : Fault) → ChangesNothingBefore fault (number_of fault)
changes_nothing_before fault replies h =
    faulty_output-before fault 0 replies (omega (arith, h, genmoves_counted replies))

pub changes_no_earlier : (fault : Fault) → ChangesNoEarlier fault
changes_no_earlier Off = tt
changes_no_earlier (Stop number) = changes_nothing_before (Stop number)
changes_no_earlier (Cut number kept) = changes_nothing_before (Cut number kept)
changes_no_earlier (Junk number) = changes_nothing_before (Junk number)
changes_no_earlier (Flood number) = changes_nothing_before (Flood number)

-- ---- whether the fault has come

both_false : (a b : Bool) → (a && b) ≡ false → b ≡ true → a ≡ false
both_false true true e f = cc
both_false true false e f = cc
both_false false b e f = refl

pub both_true : (a b : Bool) → (a && b) ≡ true → (a ≡ true) × (b ≡ true)
both_true true true e = (refl, refl)
both_true true false e = cc
both_true false b e = cc

one_less : (m n : ℕ) → (m == n + 1) ≡ false → n < m → n + 1 < m
one_less m n e h = grind (arith, nat_tests)

not_reached : (number count : ℕ) (genmove : Bool) → (genmove && (number == count + 1)) ≡ false → count < number
    → count + ((if genmove then 1 else 0) + 0) < number
not_reached number count true e h = let less : count + 1 < number = one_less number count e h in omega arith
not_reached number count false e h = omega arith

-- a reply at which the engine doesn't stop leaves the fault to come
pub NotYet-reply : (fault : Fault) (count after : ℕ) (reply : WrittenReply)
    → (meets fault count reply && stops fault) ≡ false → after ≡ count + genmoves (reply ∷ [])
    → NotYet fault count after
NotYet-reply fault count after reply e a = λ s h. rw a
    (not_reached (number_of fault) count reply.genmove (both_false (meets fault count reply) (stops fault) e s) h)

pub counted : (count : ℕ) (reply : WrittenReply) → reply.genmove ≡ true → count + 1 ≡ count + genmoves (reply ∷ [])
counted count reply e = rw e refl

pub uncounted : (count : ℕ) (reply : WrittenReply) → reply.genmove ≡ false → count ≡ count + genmoves (reply ∷ [])
uncounted count reply e = rw e (omega arith)

-- ---- the session goes on after a genmove that succeeded

no_quit : (command : Option CommandName) (b : Bool) → (has_name (codes "genmove") command && b) ≡ true
    → has_name (codes "quit") command ≡ false
no_quit None b e = refl
no_quit (Some command) b e =
    let same : command ≡ Genmove = is_genmove command (and_parts _ b e).0 in
    rw same refl

no_end : (line : Line) (b : Bool) → (is_genmove_line line && b) ≡ true → ends line ≡ false
no_end line.TooLong b e = refl
no_end (line.Command command_line) b e = no_quit (named_command command_line.words) b e

module _ {P : Type 0} (may : May P) where
  step_goes_on : {old new : State P} {line : Line} {reply : WrittenReply} → Step may old line reply new
      → reply.genmove ≡ true → new.ended ≡ false
  step_goes_on {old} {new} {line} step g = step.ended
      ∙ no_end line (answer old.game line step.choice).ok (sym step.genmove ∙ g)

  answers_go_on : {old new : State P} {ls : List Line} {reply : WrittenReply} → Answers may old ls (reply ∷ []) new
      → reply.genmove ≡ true → new.ended ≡ false
  answers_go_on (more e step none) g = step_goes_on step g
  answers_go_on (more e step (over f)) g = step_goes_on step g

  pub Replies-go_on : {a b : Engine P} {text : List ℕ} {reply : WrittenReply} → Replies may a text b (reply ∷ [])
      → reply.genmove ≡ true → b.ended ≡ false
  Replies-go_on p g = answers_go_on p.answered g

  -- a line that was answered has at least one byte
  pub StopsAtLine-some : {a : Engine P} (used : ℕ) (text : List ℕ) → StopsAtLine may a (take used text) → 1 ≤ used
  StopsAtLine-some used text stop =
      let same : length (take used text) ≡ length (stop.front ++ 10 ∷ []) = ap length stop.ends in
      omega (arith, same, length-append stop.front (10 ∷ []), length-take used text)

  -- ---- conversations under a fault

  -- nothing is read, and nothing is written
  pub FaultyDelivered-nothing : (fault : Fault) (before : ℕ) (a : Engine P) (held : Option (List ℕ)) → lines a.rest ≡ []
      → FaultyDelivered may fault before before a [] a held held
  FaultyDelivered-nothing fault before a held e =
      record {
        replies = [];
        engine = Replies-nothing may a e;
        taken = Appends-nil held;
        count = omega arith;
        not_yet = λ _ h. h;
      }

  -- both were delivered
  pub FaultyDelivered-both : {fault : Fault} {before count after : ℕ} {a b c : Engine P} {text next : List ℕ}
      {held mid holds : Option (List ℕ)}
      → FaultyDelivered may fault before count a text b held mid
      → FaultyDelivered may fault count after b next c mid holds
      → FaultyDelivered may fault before after a (text ++ next) c held holds
  FaultyDelivered-both {fault} {before} {count} {after} {held = held} {mid = mid} {holds = holds} p q =
      record {
        replies = p.replies ++ q.replies;
        engine = Replies-then may p.engine q.engine;
        taken = rw (faulty_output-append fault before p.replies q.replies, sym p.count)
            (Appends-trans held mid holds _ _ p.taken q.taken);
        count = omega (arith, p.count, q.count, genmoves-append p.replies q.replies);
        not_yet = λ s h. q.not_yet s (p.not_yet s h);
      }

  -- more is read, with no reply
  pub FaultyDelivered-quiet : {fault : Fault} {before count : ℕ} {a b c : Engine P} {text next : List ℕ}
      {held holds : Option (List ℕ)}
      → FaultyDelivered may fault before count a text b held holds → Replies may b next c []
      → FaultyDelivered may fault before count a (text ++ next) c held holds
  FaultyDelivered-quiet {count = count} {holds = holds} p q =
      FaultyDelivered-both p (record {
        replies = [];
        engine = q;
        taken = Appends-nil holds;
        count = omega arith;
        not_yet = λ _ h. h;
      })

  -- what stands for one more reply is written, and the engine doesn't stop at it
  pub FaultyDelivered-reply : {fault : Fault} {before count after : ℕ} {a b c : Engine P} {text next : List ℕ}
      {reply : WrittenReply} {held mid holds : Option (List ℕ)}
      → FaultyDelivered may fault before count a text b held mid → Replies may b next c (reply ∷ [])
      → Appends mid holds (faulty_text fault count reply)
      → after ≡ count + genmoves (reply ∷ []) → NotYet fault count after
      → FaultyDelivered may fault before after a (text ++ next) c held holds
  FaultyDelivered-reply {fault} {count = count} {reply = reply} p q taken e yet =
      FaultyDelivered-both p (record {
        replies = reply ∷ [];
        engine = q;
        taken = rw (append-nil (faulty_text fault count reply)) taken;
        count = e;
        not_yet = yet;
      })

  -- the line that the next text ends is answered, and this is taken of its reply
  pub FaultyUpTo-reply : {fault : Fault} {before count : ℕ} {a b c : Engine P} {text next : List ℕ}
      {reply : WrittenReply} (more_text part : List ℕ) {held mid holds : Option (List ℕ)}
      → FaultyDelivered may fault before count a text b held mid → Replies may b next c (reply ∷ [])
      → StopsAtLine may b next → Appends mid holds part
      → FaultyUpTo may fault before a (text ++ (next ++ more_text)) c held holds
  FaultyUpTo-reply {fault} {before} {count} {a} {b} {c} {text} {next} {reply} more_text part {held} {mid} {holds} p q
      at_line taken =
      let split : text ++ next ≡ (text ++ at_line.front) ++ 10 ∷ [] = ap (λ (t : List ℕ). text ++ t) at_line.ends
      ∙ sym (append_assoc text at_line.front (10 ∷ [])) in
      record {
        front = text ++ at_line.front;
        unread = more_text;
        upto = sym (append_assoc text next more_text) ∙ ap (λ (t : List ℕ). t ++ more_text) split
            ∙ append_assoc (text ++ at_line.front) (10 ∷ []) more_text;
        between = at_line.between;
        replies = p.replies;
        before_it = rw (append-nil p.replies) at (Replies-then may p.engine at_line.before);
        not_yet = rw (sym p.count) p.not_yet;
        last = reply;
        engine = rw (← split) (Replies-then may p.engine q);
        part = part;
        taken = Appends-trans held mid holds _ _ p.taken taken;
      }

  pub Stops-reply : {fault : Fault} {before count : ℕ} {a b c : Engine P} {text next : List ℕ} {reply : WrittenReply}
      (more_text : List ℕ) {held mid holds : Option (List ℕ)}
      → FaultyDelivered may fault before count a text b held mid → Replies may b next c (reply ∷ [])
      → StopsAtLine may b next → Appends mid holds (faulty_text fault count reply)
      → stops fault ≡ true → meets fault count reply ≡ true
      → Stops may fault before a (text ++ (next ++ more_text)) c held holds
  unfolding FaultyUpTo-reply
  Stops-reply {fault} {count = count} {reply = reply} more_text p q at_line taken stop met =
      record {
        upto = FaultyUpTo-reply more_text (in_place_of fault reply.text) p q at_line (rw met at taken);
        stops_it = stop;
        met = rw (sym p.count) met;
        whole = refl;
      }

  pub FaultyBreaks-reply : {fault : Fault} {before count : ℕ} {a b c : Engine P} {text next : List ℕ}
      {reply : WrittenReply} (more_text : List ℕ) {held mid holds : Option (List ℕ)}
      → FaultyDelivered may fault before count a text b held mid → Replies may b next c (reply ∷ [])
      → StopsAtLine may b next → TakesPart (faulty_text fault count reply) mid holds
      → FaultyBreaks may fault before a (text ++ (next ++ more_text)) c held holds
  unfolding FaultyUpTo-reply
  FaultyBreaks-reply more_text p q at_line cut =
      record {
        upto = FaultyUpTo-reply more_text cut.part p q at_line cut.taken;
        left = cut.left;
        cut = rw (sym p.count) cut.cut;
      }

  -- how many genmoves succeeded before the later replies, and in them
  count_both : {fault : Fault} {before count : ℕ} {a b : Engine P} {text : List ℕ} {held mid : Option (List ℕ)}
      (p : FaultyDelivered may fault before count a text b held mid) (rs : List WrittenReply)
      → before + genmoves (p.replies ++ rs) ≡ count + genmoves rs
  count_both p rs = omega (arith, p.count, genmoves-append p.replies rs)

  -- all was delivered of one text, and then this
  pub FaultyUpTo-after : {fault : Fault} {before count : ℕ} {a b c : Engine P} {text next : List ℕ}
      {held mid holds : Option (List ℕ)}
      → FaultyDelivered may fault before count a text b held mid → FaultyUpTo may fault count b next c mid holds
      → FaultyUpTo may fault before a (text ++ next) c held holds
  FaultyUpTo-after {fault} {before} {count} {a} {b} {c} {text} {next} {held} {mid} {holds} p q =
      record {
        front = text ++ q.front;
        unread = q.unread;
        upto = ap (λ (t : List ℕ). text ++ t) q.upto ∙ sym (append_assoc text q.front (10 ∷ q.unread));
        between = q.between;
        replies = p.replies ++ q.replies;
        before_it = Replies-then may p.engine q.before_it;
        not_yet = λ s h. rw (count_both p q.replies) (q.not_yet s (p.not_yet s h));
        last = q.last;
        engine = rw (append_assoc text q.front (10 ∷ []), append_assoc p.replies q.replies (q.last ∷ []))
            (Replies-then may p.engine q.engine);
        part = q.part;
        taken = rw (
          faulty_output-append fault before p.replies q.replies,
          sym p.count,
          append_assoc
              (faulty_output fault before p.replies) (faulty_output fault count q.replies) q.part,
        )
            (Appends-trans held mid holds _ _ p.taken q.taken);
      }

  pub Stops-after : {fault : Fault} {before count : ℕ} {a b c : Engine P} {text next : List ℕ}
      {held mid holds : Option (List ℕ)}
      → FaultyDelivered may fault before count a text b held mid → Stops may fault count b next c mid holds
      → Stops may fault before a (text ++ next) c held holds
  unfolding FaultyUpTo-after
  Stops-after p q =
      record {
        upto = FaultyUpTo-after p q.upto;
        stops_it = q.stops_it;
        met = rw (count_both p q.upto.replies) q.met;
        whole = q.whole;
      }

  pub FaultyBreaks-after : {fault : Fault} {before count : ℕ} {a b c : Engine P} {text next : List ℕ}
      {held mid holds : Option (List ℕ)}
      → FaultyDelivered may fault before count a text b held mid → FaultyBreaks may fault count b next c mid holds
      → FaultyBreaks may fault before a (text ++ next) c held holds
  unfolding FaultyUpTo-after
  FaultyBreaks-after p q =
      record {
        upto = FaultyUpTo-after p q.upto;
        left = q.left;
        cut = rw (count_both p q.upto.replies) q.cut;
      }

  -- nothing was read
  pub FaultyConversation-nothing : (fault : Fault) (a : Engine P) (gives held : Option (List ℕ)) → lines a.rest ≡ []
      → FaultyConversation may fault a a 0 gives gives held held
  FaultyConversation-nothing fault a gives held e =
      record { input = []; given = Consumes-nil gives; delivered = FaultyDelivered-nothing fault 0 a held e }

  -- one more read was answered
  pub FaultyConversation-read : {fault : Fault} {count after : ℕ} {a b c : Engine P}
      {g0 g1 g2 h0 h1 h2 : Option (List ℕ)} {next : List ℕ}
      → FaultyConversation may fault a b count g0 g1 h0 h1 → Consumes g1 g2 next
      → FaultyDelivered may fault count after b next c h1 h2 → FaultyConversation may fault a c after g0 g2 h0 h2
  FaultyConversation-read {g0 = g0} {g1 = g1} {g2 = g2} {next = next} p given q =
      record {
        input = p.input ++ next;
        given = Consumes-trans g0 g1 g2 _ _ p.given given;
        delivered = FaultyDelivered-both p.delivered q;
      }

  -- of the last read the LF is read, and less comes after it
  gave_line : {last : Option ℕ} (next front unread : List ℕ) (count : ℕ) → next ≡ front ++ 10 ∷ unread
      → length next ≡ count → last ≡ Some count → GaveLine last unread
  gave_line next front unread count e same last =
      let all : length next ≡ length (front ++ 10 ∷ unread) = ap length e in
      (count, last, omega (arith, all, length-append front (10 ∷ unread)))

  -- as many bytes were given as the read returns
  gave_count : {g1 g2 : Option (List ℕ)} (count : ℕ) (buffer : List ℕ) → GivesBytes g1 g2 count buffer
      → length (take count buffer) ≡ count
  gave_count count buffer piece = omega (arith, length-take count buffer, piece.within)

  pub StoppedConversation-read : {fault : Fault} {before : ℕ} {a b c : Engine P}
      {g0 g1 g2 h0 h1 h2 : Option (List ℕ)} {last : Option ℕ} (count : ℕ) (buffer : List ℕ)
      → FaultyConversation may fault a b before g0 g1 h0 h1 → GivesBytes g1 g2 count buffer → last ≡ Some count
      → Stops may fault before b (take count buffer) c h1 h2 → StoppedConversation may fault a c g0 g2 last h0 h2
  unfolding Stops-after FaultyUpTo-after
  StoppedConversation-read {g0 = g0} {g1 = g1} {g2 = g2} count buffer p piece last q =
      record {
        input = p.input ++ take count buffer;
        given = Consumes-trans g0 g1 g2 _ _ p.given piece.given;
        stopped = Stops-after p.delivered q;
        in_last = gave_line (take count buffer) q.upto.front q.upto.unread count q.upto.upto
            (gave_count count buffer piece) last;
      }

  pub BrokenFaultyConversation-read : {fault : Fault} {before : ℕ} {a b c : Engine P}
      {g0 g1 g2 h0 h1 h2 : Option (List ℕ)} {last : Option ℕ} (count : ℕ) (buffer : List ℕ)
      → FaultyConversation may fault a b before g0 g1 h0 h1 → GivesBytes g1 g2 count buffer → last ≡ Some count
      → FaultyBreaks may fault before b (take count buffer) c h1 h2
      → BrokenFaultyConversation may fault a c g0 g2 last h0 h2
  unfolding FaultyBreaks-after FaultyUpTo-after
  BrokenFaultyConversation-read {g0 = g0} {g1 = g1} {g2 = g2} count buffer p piece last q =
      record {
        input = p.input ++ take count buffer;
        given = Consumes-trans g0 g1 g2 _ _ p.given piece.given;
        breaks = FaultyBreaks-after p.delivered q;
        in_last = gave_line (take count buffer) q.upto.front q.upto.unread count q.upto.upto
            (gave_count count buffer piece) last;
      }

  -- the session was open before the last read
  pub ReadWhileOpen-read : {fault : Fault} {before : ℕ} {a b : Engine P} {g0 g1 g2 h0 h1 : Option (List ℕ)}
      {last : Option ℕ} (count : ℕ) (buffer : List ℕ) → FaultyConversation may fault a b before g0 g1 h0 h1
      → b.ended ≡ false → GivesBytes g1 g2 count buffer → last ≡ Some count → ReadWhileOpen may a g0 g2 last
  ReadWhileOpen-read {b = b} {g0 = g0} {g1 = g1} {g2 = g2} count buffer p is_open piece last =
      record {
        before = p.input;
        piece = take count buffer;
        given = Consumes-trans g0 g1 g2 _ _ p.given piece.given;
        last_is = last ∙ ap (λ (n : ℕ). Some n) (sym (gave_count count buffer piece));
        between = b;
        replies = p.delivered.replies;
        engine = p.delivered.engine;
        is_open = is_open;
      }

  -- without a fault the output is that of the replies
  pub Conversation-off : {a b : Engine P} {count : ℕ} {g0 g1 h0 h1 : Option (List ℕ)}
      → FaultyConversation may Off a b count g0 g1 h0 h1 → Conversation may a b g0 g1 h0 h1
  Conversation-off p =
      record {
        input = p.input;
        given = p.given;
        delivered = record {
          replies = p.delivered.replies;
          engine = p.delivered.engine;
          taken = rw (faulty_output-off 0 p.delivered.replies) at p.delivered.taken;
        };
      }

  pub BrokenConversation-off : {a b : Engine P} {g0 g1 h0 h1 : Option (List ℕ)} {last : Option ℕ}
      → BrokenFaultyConversation may Off a b g0 g1 last h0 h1 → BrokenConversation may a b g0 g1 last h0 h1
  BrokenConversation-off p =
      let upto = p.breaks.upto in
      record {
        input = p.input;
        given = p.given;
        breaks = record {
          front = upto.front;
          unread = upto.unread;
          upto = upto.upto;
          between = upto.between;
          replies = upto.replies;
          before = upto.before_it;
          last = upto.last;
          engine = upto.engine;
          part = upto.part;
          left = p.breaks.left;
          cut = sym (faulty_text-off (0 + genmoves upto.replies) upto.last) ∙ p.breaks.cut;
          taken = rw (faulty_output-off 0 upto.replies) at upto.taken;
        };
        in_last = p.in_last;
      }

  -- without a fault the engine never stops
  pub off_never_stops : {a b : Engine P} {g0 g1 h0 h1 : Option (List ℕ)} {last : Option ℕ}
      → StoppedConversation may Off a b g0 g1 last h0 h1 → ⊥
  off_never_stops p = let e : false ≡ true = p.stopped.stops_it in cc

  -- a conversation is one without a fault
  pub off-Conversation : {a b : Engine P} {g0 g1 h0 h1 : Option (List ℕ)} → Conversation may a b g0 g1 h0 h1
      → (count : ℕ) × FaultyConversation may Off a b count g0 g1 h0 h1
  off-Conversation p = (
    genmoves p.delivered.replies,
    record {
      input = p.input;
      given = p.given;
      delivered = record {
        replies = p.delivered.replies;
        engine = p.delivered.engine;
        taken = rw (faulty_output-off 0 p.delivered.replies) p.delivered.taken;
        count = omega arith;
        not_yet = λ s h. let e : false ≡ true = s in cc;
      };
    },
  )

  pub off-BrokenConversation : {a b : Engine P} {g0 g1 h0 h1 : Option (List ℕ)} {last : Option ℕ}
      → BrokenConversation may a b g0 g1 last h0 h1 → BrokenFaultyConversation may Off a b g0 g1 last h0 h1
  off-BrokenConversation p =
      let it = p.breaks in
      record {
        input = p.input;
        given = p.given;
        breaks = record {
          upto = record {
            front = it.front;
            unread = it.unread;
            upto = it.upto;
            between = it.between;
            replies = it.replies;
            before_it = it.before;
            not_yet = λ s h. let e : false ≡ true = s in cc;
            last = it.last;
            engine = it.engine;
            part = it.part;
            taken = rw (faulty_output-off 0 it.replies) it.taken;
          };
          left = it.left;
          cut = faulty_text-off (0 + genmoves it.replies) it.last ∙ it.cut;
        };
        in_last = p.in_last;
      }

  pub off_changes_nothing : OffChangesNothing may
  off_changes_nothing = λ old new gives gives_now last held holds. (
    (off-Conversation, λ p. Conversation-off p.1),
    (off-BrokenConversation, BrokenConversation-off),
  )
