-- Bytes that the controller hears keep what joins it to the engines.
use Rattle.std.proofs.Common.{◌≡◌, ℕ, ◌+◌, List, [], ◌∷◌, ◌++◌, length, drop}
use Rattle.std.proofs.Common.{Option, Some, inr}
use Rattle.std.proofs.Common.{None, Result, Ok, Err, refl, ap, sym, ◌∙◌, subst, arith, append_assoc, length-append, inl}
use Rattle.std.specs.Prelude.{◌⊎◌}
use Rattle.go_base.specs.Colour.{other}
use Rattle.go_base.specs.declared.colours.Colour.{Colour}
use Rattle.go_board.specs.Game.{GameRecord}
use Rattle.gtp_wire.specs.declared.replies.Reply.{Reply}
use Rattle.gtp_wire.specs.declared.replies.ReplyFault.{ReplyFault}
use Rattle.gtp_wire.specs.Replies.{IsFirst, GivesNoAnswer}
use Rattle.gtp_wire.proofs.first_answers.OneAnswer.{one_first}
use Rattle.gtp_session.specs.Commands.{answer}
use Rattle.gtp_match.specs.declared.unanswered.SentCommand.{SentCommand}
use Rattle.gtp_match.specs.declared.sides.EngineRun.{EngineRun}
use Rattle.gtp_match.specs.declared.verdicts.SideFault.{SideFault}
use Rattle.gtp_match.specs.declared.verdicts.Verdict.{Verdict}
use Rattle.gtp_match.specs.declared.controller.Controller.{Controller}
use Rattle.gtp_match.specs.Unanswered.{oldest}
use Rattle.gtp_match.specs.Sides.{side_of, with_engine, heard_reply}
use Rattle.gtp_match.specs.Controller.{with_side_up}
use Rattle.gtp_match.specs.ReplyTable.{outcome, after_outcome, fault_of}
use Rattle.gtp_match.specs.Hearing.{MayKeep, HearsUp, HearsWhere, Hears, HearsAllBy, HearsAll}
use Rattle.gtp_match.specs.Sound.{IsIdle, IsSound}
use Rattle.gtp_match.proofs.soundness.Calls.{one_idle}
use Rattle.gtp_match.proofs.soundness.Heard.{quiet_sound}
use Rattle.gtp_world.proofs.exchange.ScriptLemmas.{place}
use Rattle.gtp_world.proofs.exchange.ExchangeLemmas.{owes_replies}
use Rattle.gtp_world.proofs.joined.JoinedLemmas.{joint_put}
use Rattle.gtp_world.proofs.one_side.SideLemmas.{live_any, judged_any, Brings, arrives, quiet_or_first}
use Rattle.gtp_world.specs.Exchange.{reply_bytes, replayed, Owes}
use Rattle.gtp_world.specs.Joined.{Rules, rule_of, ruled, IsPlayable, EngineBody, BareLane}
use Rattle.gtp_world.specs.Joined.{IsJoinedInPlay}
use Rattle.gtp_world.specs.Joined.{IsJoinedAtEnd, IsJoinedSide, AreJoined, bare_empty}
use Rattle.std.proofs.Math.Seq.{drop-length}
use Rattle.gtp_world.proofs.one_side.OutcomeLemmas.{kept_longer}
use Rattle.gtp_world.proofs.one_side.KeptByReply.{replied_keeps}

-- bytes that are no whole reply yet
part_keeps : (game : GameRecord) (u : EngineRun) (e : Option EngineBody) (te x y kept : List ℕ)
    → (h : IsJoinedInPlay game u (record { engine = e; to_engine = te; to_controller = x ++ y }))
    → GivesNoAnswer (h.begun ++ x) → MayKeep kept (u.reader ++ x)
    → IsJoinedInPlay game (record u { reader = kept }) (record { engine = e; to_engine = te; to_controller = y })
part_keeps game u e te x y kept h quiet keeps = record {
  few = h.few;
  replies = h.replies;
  waiting = h.waiting;
  ahead = h.ahead;
  owes = h.owes;
  fit = h.fit;
  may = h.may;
  begun = h.begun ++ x;
  cut = h.cut;
  begun_quiet = quiet;
  kept = kept_longer kept u.reader h.begun x keeps h.kept;
  arriving = ap (λ (w : List ℕ). w ++ h.cut) (append_assoc h.begun x y) ∙ h.arriving;
  runs = h.runs;
  uncut = h.uncut;
}

heard_settled : (game : GameRecord) (u : EngineRun) (e : Option EngineBody) (te x y : List ℕ) (used : ℕ)
    → used ≡ length x
    → IsJoinedAtEnd game u (record { engine = e; to_engine = te; to_controller = x ++ y })
    → IsJoinedAtEnd game u (record { engine = e; to_engine = te; to_controller = drop used x ++ y })
heard_settled game u e te x y used is h = record {
  few = h.few;
  replies = h.replies;
  waiting = h.waiting;
  ahead = h.ahead;
  owes = h.owes;
  fit = h.fit;
  may = h.may;
  runs = h.runs;
  room = rw (is, drop-length x) (omega (arith, h.room, length-append x y));
}

-- one call on a side that is up, before any verdict
module _ (rules : Rules) (c : Controller) (s : Colour) (u : EngineRun) (e : Option EngineBody) (te : List ℕ) (b : ℕ)
    (x y : List ℕ) (lo : BareLane) (sound : IsSound c) (none : c.verdict ≡ None)
    (up : (side_of c.sides s).up ≡ Some u) (mine : IsJoinedInPlay (ruled (rule_of rules s) c.game) u
    (record { engine = e; to_engine = te; to_controller = (b ∷ x) ++ y }))
    (playable : IsPlayable (rule_of rules s) c.game s (Some u))
    (theirs : IsJoinedSide (ruled (rule_of rules (other s)) c.game) None (side_of c.sides (other s)).up lo)
    (their_playable : IsPlayable (rule_of rules (other s)) c.game (other s) (side_of c.sides (other s)).up) where
  -- the game as the side's engine has it
  abbrev own : GameRecord
  own = ruled (rule_of rules s) c.game

  -- what is left to show
  abbrev Keeps : ℕ → Option SideFault → Controller → Type 0
  Keeps used fault c2 =
      (fault ≡ None)
      × AreJoined rules c2 s (record { engine = e; to_engine = te; to_controller = drop used (b ∷ x) ++ y }) lo

  -- what the bytes heard so far give, by what the reader's text gives
  as_begun : (place : ℕ) (answer : Result Reply ReplyFault) → IsFirst (u.reader ++ b ∷ x) place answer
      → IsFirst (mine.begun ++ b ∷ x) place answer
  as_begun place answer first =
      let F : List ℕ → Type 0 = λ t. IsFirst t place answer in
      (mine.kept.1 (b ∷ x) place answer).0 first

  as_reader : (place : ℕ) (answer : Result Reply ReplyFault) → IsFirst (mine.begun ++ b ∷ x) place answer
      → IsFirst (u.reader ++ b ∷ x) place answer
  as_reader place answer first = (mine.kept.1 (b ∷ x) place answer).1 first

  -- no reply ends within the bytes
  quiet_keeps : (kept : List ℕ) → GivesNoAnswer (mine.begun ++ b ∷ x) → MayKeep kept (u.reader ++ b ∷ x)
      → Keeps (length (b ∷ x)) None (with_side_up c s (record u { reader = kept }))
  quiet_keeps kept quiet keeps =
      let next : EngineRun = record u { reader = kept } in
      let longer : MayKeep kept (mine.begun ++ b ∷ x) = kept_longer kept u.reader mine.begun (b ∷ x) keeps mine.kept in
      let next_sound : IsSound (with_side_up c s next) =
      quiet_sound c s u (mine.begun ++ b ∷ x) kept sound none up quiet longer in
      let live : IsJoinedInPlay own next (record { engine = e; to_engine = te; to_controller = y }) =
      part_keeps own u e te (b ∷ x) y kept mine quiet keeps in
      let done : AreJoined rules (with_side_up c s next) s (record { engine = e; to_engine = te; to_controller = y })
      lo =
      joint_put rules c s (with_engine next (side_of c.sides s)) c.game c.verdict c.pending c.retakes
      (record { engine = e; to_engine = te; to_controller = y }) lo next_sound (rw none tt)
      (record {
        joined = live_any own c.verdict next (record { engine = e; to_engine = te; to_controller = y }) live;
        playable = record { earlier = playable.earlier; last = playable.last };
      })
      (record {
        joined = judged_any (ruled (rule_of rules (other s)) c.game) c.verdict (side_of c.sides (other s)).up lo theirs;
        playable = their_playable;
      })
      in
      let all : y ≡ drop (length (b ∷ x)) (b ∷ x) ++ y = rw (drop-length (b ∷ x)) refl in (
        refl,
        subst (λ (t : List ℕ). AreJoined rules (with_side_up c s next) s
            (record { engine = e; to_engine = te; to_controller = t }) lo) all done,
      )

  -- a reply ends within the bytes
  whole_keeps : (used : ℕ) → (k : Brings mine.begun (b ∷ x) y mine.cut mine.replies) → used ≡ k.used
      → Keeps used (fault_of (outcome c.game s (oldest u.unanswered) k.reply))
      (after_outcome c s (heard_reply u) (outcome c.game s (oldest u.unanswered) k.reply))
  whole_keeps used k is =
      let owes : Owes (replayed own u.confirmed) u.unanswered (k.reply ∷ k.more) mine.waiting mine.ahead =
      rw (k.replies) at mine.owes in
      let idle : IsIdle (side_of c.sides (other s)).up = other_idle (one_idle c s sound) owes in
      let r =
      replied_keeps rules c s u e te
      (drop k.used
      (b ∷ x) ++ y) lo sound none up idle playable theirs their_playable k.reply k.more mine.waiting mine.ahead
      mine.cut mine.few owes mine.fit
      mine.may k.left mine.runs mine.uncut in
      subst (λ (n : ℕ). Keeps n (fault_of (outcome c.game s (oldest u.unanswered) k.reply))
      (after_outcome c s (heard_reply u) (outcome c.game s (oldest u.unanswered) k.reply))) (sym is) r
    where
      other_idle : IsIdle (side_of c.sides s).up ⊎ IsIdle (side_of c.sides (other s)).up
          → Owes (replayed own u.confirmed) u.unanswered (k.reply ∷ k.more) mine.waiting mine.ahead
          → IsIdle (side_of c.sides (other s)).up
      other_idle (inl i) owes =
          let none_left : u.unanswered ≡ [] =
          subst IsIdle up i in absurd (subst (λ (os : List SentCommand). Owes (replayed own u.confirmed) os
          (k.reply ∷ k.more) mine.waiting mine.ahead) none_left owes)
      other_idle (inr i) owes = i

  up_keeps : (used : ℕ) (fault : Option SideFault) (c2 : Controller) → HearsUp MayKeep c s u (b ∷ x) used fault c2
      → Keeps used fault c2
  up_keeps used fault c2 h =
      by_bytes used fault c2 (arrives mine.begun b x y mine.cut mine.replies
      (owes_replies
      (replayed own u.confirmed) u.unanswered mine.replies mine.waiting mine.ahead mine.owes)
      mine.begun_quiet mine.arriving) h
    where
      by_bytes : (used : ℕ) (fault : Option SideFault) (c2 : Controller)
          → GivesNoAnswer (mine.begun ++ b ∷ x) ⊎ Brings mine.begun (b ∷ x) y mine.cut mine.replies
          → HearsUp MayKeep c s u (b ∷ x) used fault c2 → Keeps used fault c2
      by_bytes used fault c2 (inl quiet) (HearsUp.nothing_yet {kept = kept} reads keeps) = quiet_keeps kept quiet keeps
      by_bytes used fault c2 (inl quiet) (HearsUp.replied {value = value} first) =
          absurd (quiet_or_first _ _ _ quiet (as_begun (length u.reader + used) (Ok value) first))
      by_bytes used fault c2 (inl quiet) (HearsUp.faulted {shown = shown} first) =
          absurd (quiet_or_first _ _ _ quiet (as_begun (length u.reader + used) (Err shown) first))
      by_bytes used fault c2 (inr k) (HearsUp.nothing_yet {kept = kept} reads keeps) =
          absurd (quiet_or_first _ _ _ reads (as_reader (length (reply_bytes k.reply)) (Ok k.reply) k.first))
      by_bytes used fault c2 (inr k) (HearsUp.faulted {shown = shown} first) =
          absurd (let same = one_first (mine.begun ++ b ∷ x) (length u.reader + used) (length (reply_bytes k.reply))
          (Err shown) (Ok k.reply) (as_begun (length u.reader + used) (Err shown) first) k.first in
          let bad : Err shown ≡ Ok k.reply = same.1 in cc bad)
      by_bytes used fault c2 (inr k) (HearsUp.replied {value = value} first) =
          let same =
          one_first (mine.begun ++ b ∷ x) (length u.reader + used) (length (reply_bytes k.reply)) (Ok value)
          (Ok k.reply)
          (as_begun (length u.reader + used) (Ok value) first) k.first in
          let value_is : value ≡ k.reply = let both : Ok value ≡ Ok k.reply = same.1 in cc both in
          let used_is : used ≡ k.used = omega (arith, same.0, k.place, mine.kept.0) in
          subst (λ (r : Reply). Keeps used (fault_of (outcome c.game s (oldest u.unanswered) r))
          (after_outcome c s (heard_reply u) (outcome c.game s (oldest u.unanswered) r))) (sym value_is)
          (whole_keeps used k used_is)

-- one call that hears bytes: no fault comes, and what joins them is kept, with the used bytes gone
pub heard_keeps : (rules : Rules) (c : Controller) (s : Colour) (e : Option EngineBody) (te : List ℕ) (b : ℕ)
    (x y : List ℕ)
    (lo : BareLane) (used : ℕ) (fault : Option SideFault) (c2 : Controller)
    → AreJoined rules c s (record { engine = e; to_engine = te; to_controller = (b ∷ x) ++ y }) lo
    → Hears c s (b ∷ x) used fault c2
    → (fault ≡ None)
    × AreJoined rules c2 s (record { engine = e; to_engine = te; to_controller = drop used (b ∷ x) ++ y }) lo
heard_keeps rules c s e te b x y lo used fault c2 j h =
    by_state c.verdict (side_of c.sides s).up refl refl j.mine.joined j.mine.playable j.theirs.joined h
  where
    l : BareLane
    l = record { engine = e; to_engine = te; to_controller = (b ∷ x) ++ y }

    by_state : (v : Option Verdict) (up : Option EngineRun) → c.verdict ≡ v → (side_of c.sides s).up ≡ up
        → IsJoinedSide (ruled (rule_of rules s) c.game) v up
        (record { engine = e; to_engine = te; to_controller = (b ∷ x) ++ y })
        → IsPlayable (rule_of rules s) c.game s up
        → IsJoinedSide (ruled (rule_of rules (other s)) c.game) v (side_of c.sides (other s)).up lo
        → HearsWhere MayKeep c s (b ∷ x) v up used fault c2
        → (fault ≡ None)
        × AreJoined rules c2 s (record { engine = e; to_engine = te; to_controller = drop used (b ∷ x) ++ y }) lo
    by_state v None v_is up_is mine playable theirs h =
        absurd (let bad : (b ∷ x) ++ y ≡ [] = ap (λ (k : BareLane). k.to_controller) (still_of v mine) in cc bad)
      where
        still_of : (w : Option Verdict) → IsJoinedSide (ruled (rule_of rules s) c.game) w None
            (record { engine = e; to_engine = te; to_controller = (b ∷ x) ++ y })
            → record { engine = e; to_engine = te; to_controller = (b ∷ x) ++ y } ≡ bare_empty
        still_of None m = m
        still_of (Some w) m = m
    by_state (Some v) (Some u) v_is up_is mine playable theirs h =
        let J : Controller → Type 0 =
        λ d. AreJoined rules d s (record { engine = e; to_engine = te; to_controller = drop used (b ∷ x) ++ y }) lo in
        let settled : IsJoinedAtEnd (ruled (rule_of rules s) c.game) u (record {
          engine = e;
          to_engine = te;
          to_controller = drop used
              (b ∷ x) ++ y;
        }) =
        heard_settled (ruled (rule_of rules s) c.game) u e te (b ∷ x) y used h.all mine in (
          h.no_fault,
          subst J (sym h.same) (record {
            sound = j.sound;
            fair = j.fair;
            mine = record { joined = rw (v_is, up_is) settled; playable = j.mine.playable };
            theirs = j.theirs;
          }),
        )
    by_state None (Some u) v_is up_is mine playable theirs h =
        up_keeps rules c s u e te b x y lo j.sound v_is up_is mine playable theirs j.theirs.playable used fault c2 h

-- all bytes of a delivery
pub hears_keep : (rules : Rules) (s : Colour) (e : Option EngineBody) (te y : List ℕ) (lo : BareLane)
    (c c2 : Controller) (x : List ℕ)
    (fault : Option SideFault) → HearsAll s c x fault c2
    → AreJoined rules c s (record { engine = e; to_engine = te; to_controller = x ++ y }) lo
    → (fault ≡ None) × AreJoined rules c2 s (record { engine = e; to_engine = te; to_controller = y }) lo
hears_keep rules s e te y lo c c2 x fault HearsAllBy.used_up j = (refl, j)
hears_keep rules s e te y lo c c2 [] fault (HearsAllBy.faulty used some h) j = absurd (omega (arith, some))
hears_keep rules s e te y lo c c2 [] fault (HearsAllBy.goes_on used some h more) j = absurd (omega (arith, some))
hears_keep rules s e te y lo c c2 (b ∷ xs) fault (HearsAllBy.faulty {shown = f} used some h) j =
    absurd (let bad : Some f ≡ None = (heard_keeps rules c s e te b xs y lo used (Some f) c2 j h).0 in cc bad)
hears_keep rules s e te y lo c c2 (b ∷ xs) fault (HearsAllBy.goes_on {mid = mid} used some h more) j =
    hears_keep rules s e te y lo mid c2 (drop used (b ∷ xs)) fault more
    (heard_keeps rules c s e te b xs y lo used None mid j h).1
