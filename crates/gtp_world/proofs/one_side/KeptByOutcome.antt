-- Each outcome of a reply keeps what joins the controller to the engines.
use Rattle.std.proofs.Common.{◌≡◌, ◌≢◌, ℕ, ◌+◌, ◌-◌, ◌<◌, ◌≤◌, Bool, true, false, List, length, drop}
use Rattle.std.proofs.Common.{Option, Some, inr}
use Rattle.std.proofs.Common.{None, refl, sym, ◌∙◌, subst, arith, inl}
use Rattle.std.specs.Prelude.{◌==◌, ◌&&◌, nat_lt, IfSome}
use Rattle.std.proofs.lemmas.Option.{slice_get_within}
use Rattle.std.proofs.lemmas.Bool.Decides.{nat_tests}
use Rattle.go_base.specs.Colour.{other}
use Rattle.go_base.specs.declared.colours.Colour.{Colour}
use Rattle.go_base.specs.declared.vertices.Vertex.{Vertex}
use Rattle.go_board.specs.Game.{GameRecord, IsGame, IsLegal, with_move, without_last}
use Rattle.go_board.specs.declared.rules.KoRule.{KoRule}
use Rattle.go_board.specs.declared.rules.KoRule.TheVariants.{Simple, Positional}
use Rattle.gtp_wire.specs.declared.replies.Reply.{Reply}
use Rattle.gtp_match.specs.declared.sides.EngineRun.{EngineRun}
use Rattle.gtp_match.specs.declared.reply_table.Outcome.{Outcome}
use Rattle.gtp_match.specs.declared.reply_table.Outcome.TheVariants.{Confirms, Resigns, Moves, Refuses, TakesBack}
use Rattle.gtp_match.specs.declared.verdicts.Verdict.{Verdict}
use Rattle.gtp_match.specs.declared.verdicts.Verdict.TheVariants.{Resign, Forfeit}
use Rattle.gtp_match.specs.declared.verdicts.ForfeitCause.TheVariants.{RefusedPlay}
use Rattle.gtp_match.specs.declared.controller.Controller.{Controller}
use Rattle.gtp_match.specs.Unanswered.{oldest}
use Rattle.gtp_match.specs.Script.{script}
use Rattle.gtp_match.specs.Sides.{side_of, with_side, with_engine, heard_reply, confirmed, answered, taken_back}
use Rattle.gtp_match.specs.Controller.{to_move}
use Rattle.gtp_match.specs.Retakes.{most_retakes, retakes_of, with_retake}
use Rattle.gtp_match.specs.Taking.{moved_last, has_all, owes_last, may_retake}
use Rattle.gtp_match.specs.ReplyTable.{outcome, after_outcome, verdict_after, ended}
use Rattle.gtp_match.specs.ReplyTable.{refused, retaken_at}
use Rattle.gtp_match.specs.Sound.{LacksLast, IsSoundEngine}
use Rattle.gtp_match.specs.Sound.{IsIdle, IsSound, all_retakes}
use Rattle.gtp_match.proofs.soundness.Calls.{changed, their_side, idle_plan, taken_at}
use Rattle.gtp_match.proofs.scripts.WithoutLast.{script_shorter}
use Rattle.gtp_match.proofs.soundness.Replies.{reply_sound}
use Rattle.gtp_world.proofs.exchange.ScriptLemmas.{replayed_shorter}
use Rattle.gtp_world.proofs.exchange.ScriptLemmas.{EndsWith}
use Rattle.gtp_world.proofs.joined.JoinedLemmas.{IsPut, joint_put, simple_game, playable_shorter}
use Rattle.gtp_world.proofs.one_side.SideLemmas.{live_any, live_at, judged_any}
use Rattle.gtp_world.specs.Joined.{Rules, rule_of, ruled, IsPlayable, IsRefusal, EngineBody, BareLane}
use Rattle.gtp_world.specs.Joined.{IsJoinedInPlay}
use Rattle.gtp_world.specs.Joined.{IsJoinedAtEnd, IsJoinedSide, AreJoined}
use Rattle.gtp_world.proofs.one_side.OutcomeLemmas.{without_with, this_or_other, made_by, has_all_is}
use Rattle.gtp_world.proofs.one_side.OutcomeLemmas.{has_all_if, theirs_moved, theirs_shorter, theirs_longer, fair_ended}
use Rattle.gtp_world.proofs.one_side.OutcomeLemmas.{Replied, Left, left_live}

module _ (rules : Rules) (c : Controller) (s : Colour) (u : EngineRun) (e : Option EngineBody) (te tc : List ℕ)
    (lo : BareLane) (sound : IsSound c) (none : c.verdict ≡ None)
    (up : (side_of c.sides s).up ≡ Some u) (idle : IsIdle (side_of c.sides (other s)).up)
    (playable : IsPlayable (rule_of rules s) c.game s (Some u))
    (theirs : IsJoinedSide (ruled (rule_of rules (other s)) c.game) None (side_of c.sides (other s)).up lo)
    (their_playable : IsPlayable (rule_of rules (other s)) c.game (other s) (side_of c.sides (other s)).up) where
  abbrev here : BareLane
  here = record { engine = e; to_engine = te; to_controller = tc }

  abbrev rule : KoRule
  rule = rule_of rules s

  abbrev their_rule : KoRule
  their_rule = rule_of rules (other s)

  -- the game as the side's engine has it
  abbrev g : GameRecord
  g = ruled rule c.game

  -- the outcome's controller is sound
  outcome_sound : (r : Reply) (o : Outcome) → outcome c.game s (oldest u.unanswered) r ≡ o
      → IsSound (after_outcome c s (heard_reply u) o)
  outcome_sound r o is =
      subst (λ (x : Outcome). IsSound (after_outcome c s (heard_reply u) x)) is (reply_sound c s u r sound none up)

  -- the other side stays, whatever verdict comes
  abbrev TheirsAt : Option Verdict → Type 0
  TheirsAt v = IsPut their_rule c.game v (other s) (side_of c.sides (other s)).up lo

  theirs_at : (v : Option Verdict) → TheirsAt v
  theirs_at v = record {
    joined = judged_any (ruled their_rule c.game) v (side_of c.sides (other s)).up lo theirs;
    playable = their_playable;
  }

  -- an idle side that is up confirmed no more than the script has
  theirs_within : IfSome (side_of c.sides (other s)).up (λ x. x.confirmed ≤ length (script c.game))
  theirs_within = by_up (side_of c.sides (other s)).up (their_side c s sound).engine idle
    where
      by_up : (x : Option EngineRun) → IfSome x (IsSoundEngine c (other s)) → IsIdle x
          → IfSome x (λ y. y.confirmed ≤ length (script c.game))
      by_up None engine free = tt
      by_up (Some y) engine free =
          idle_plan c.game c.pending (all_retakes c) (other s) y (engine.under_way none) free

  pub confirms : (r : Reply) → outcome c.game s (oldest u.unanswered) r ≡ Confirms
      → Left g (u.confirmed + 1) (drop 1 u.unanswered) e te tc
      → (u.confirmed + 1 ≡ length (script c.game) → IsGame g)
      → Replied rules c s u here lo (outcome c.game s (oldest u.unanswered) r)
  confirms r is left whole =
      let next : EngineRun = confirmed (heard_reply u) in
      let mine : IsJoinedInPlay g next here =
      left_live g (u.confirmed + 1) u.sent (drop 1 u.unanswered) e te tc left in
      let done : Replied rules c s u here lo Confirms = (
        refl,
        joint_put rules c s (with_engine next (side_of c.sides s)) c.game c.verdict c.pending c.retakes here lo
            (outcome_sound r Confirms is) (rw none tt)
            (record {
              joined = live_any g c.verdict next here mine;
              playable = record {
                earlier = playable.earlier;
                last = λ h. elim h [
                  | inl made ↦ playable.last (inl made)
                  | inr all ↦ whole (has_all_is (u.confirmed + 1) (length (script c.game)) all)
                ];
              };
            })
            (theirs_at c.verdict),
      )
      in
      subst (Replied rules c s u here lo) (sym is) done

  pub resigns : (r : Reply) → outcome c.game s (oldest u.unanswered) r ≡ Resigns
      → Left g u.confirmed (drop 1 u.unanswered) e te tc
      → Replied rules c s u here lo (outcome c.game s (oldest u.unanswered) r)
  resigns r is left =
      let next : EngineRun = answered (heard_reply u) in
      let mine : IsJoinedInPlay g next here =
      left_live g u.confirmed u.sent (drop 1 u.unanswered) e te tc left in
      let done : Replied rules c s u here lo Resigns = (
        refl,
        joint_put rules c s (with_engine next (side_of c.sides s)) c.game (Some (Resign s)) c.pending c.retakes here lo
            (outcome_sound r Resigns is) tt
            (record {
              joined = live_any g (Some (Resign s)) next here mine;
              playable = record { earlier = playable.earlier; last = playable.last };
            })
            (theirs_at (Some (Resign s))),
      )
      in
      subst (Replied rules c s u here lo) (sym is) done

  pub moves : (r : Reply) (v : Vertex) → outcome c.game s (oldest u.unanswered) r ≡ Moves v
      → to_move c.game ≡ s → IsGame g → IsGame (with_move g s v)
      → Left (with_move g s v) (u.confirmed + 1) (drop 1 u.unanswered) e te tc
      → Replied rules c s u here lo (outcome c.game s (oldest u.unanswered) r)
  moves r v is turn is_game longer left =
      let game : GameRecord = with_move c.game s v in
      let verdict : Option Verdict = verdict_after c.setup game in
      let next : EngineRun = confirmed (heard_reply u) in
      let mine : IsJoinedInPlay (ruled rule game) next here =
      left_live (ruled rule game) (u.confirmed + 1) u.sent (drop 1 u.unanswered) e te tc left in
      let done : Replied rules c s u here lo (Moves v) = (
        refl,
        joint_put rules c s (with_engine next (side_of c.sides s)) game verdict c.pending c.retakes here lo
            (outcome_sound r (Moves v) is)
            (fair_ended rules (changed c game verdict (with_side s (with_engine next (side_of c.sides s)) c.sides)
            c.pending c.retakes) c.setup game)
            (record {
              joined = live_any (ruled rule game) verdict next here mine;
              playable = record {
                earlier = subst IsGame (sym (without_with g s v)) is_game;
                last = λ _. longer;
              };
            })
            (record {
              joined = theirs_moved their_rule c (other s) s v verdict (side_of c.sides (other s)).up lo none
                  (their_side c s sound).engine theirs idle;
              playable = theirs_longer their_rule c s v (side_of c.sides (other s)).up sound turn theirs_within
                  their_playable;
            }),
      )
      in
      subst (Replied rules c s u here lo) (sym is) done

  -- a refused last move that may be retaken: it is to be taken back at its maker, or leaves the record
  retakes : (b : Bool) → has_all c.game (side_of c.sides (other s)).up ≡ b
      → IsSound (retaken_at c s (heard_reply u) b) → 0 < length c.game.moves
      → u.confirmed + 1 ≡ length (script c.game)
      → Left g u.confirmed (drop 1 u.unanswered) e te tc
      → AreJoined rules (retaken_at c s (heard_reply u) b) s here lo
  retakes true all is_sound some lacks left =
      let next : EngineRun = answered (heard_reply u) in
      let mine : IsJoinedInPlay g next here =
      left_live g u.confirmed u.sent (drop 1 u.unanswered) e te tc left in
      joint_put rules c s (with_engine next (side_of c.sides s)) c.game c.verdict (Some (other s))
      (with_retake (length c.game.moves) c.retakes) here lo is_sound (rw none tt)
      (record {
        joined = live_any g c.verdict next here mine;
        playable = record { earlier = playable.earlier; last = playable.last };
      })
      (theirs_at c.verdict)
  retakes false not_all is_sound some lacks left =
      let next : EngineRun = answered (heard_reply u) in
      let shorter : GameRecord = without_last c.game in
      let within : u.confirmed ≤ length (script shorter) = omega (arith, lacks, script_shorter c.game some) in
      let mine : IsJoinedInPlay (ruled rule shorter) next here =
      live_at g (ruled rule shorter) next here (sym (replayed_shorter g u.confirmed within))
      (left_live g u.confirmed u.sent (drop 1 u.unanswered) e te tc left) in
      joint_put rules c s (with_engine next (side_of c.sides s)) shorter c.verdict c.pending
      (with_retake (length c.game.moves) c.retakes) here lo is_sound (rw none tt)
      (record {
        joined = live_any (ruled rule shorter) c.verdict next here mine;
        playable = playable_shorter rule c.game s (Some u) (Some next) playable;
      })
      (record {
        joined = theirs_shorter their_rule c.game c.verdict (side_of c.sides (other s)).up lo theirs
            (less (side_of c.sides (other s)).up not_all theirs_within);
        playable = playable_shorter their_rule c.game (other s) (side_of c.sides (other s)).up
            (side_of c.sides (other s)).up their_playable;
      })
    where
      less : (x : Option EngineRun) → has_all c.game x ≡ false → IfSome x (λ y. y.confirmed ≤ length (script c.game))
          → IfSome x (λ y. y.confirmed ≤ length (script (without_last c.game)))
      less None lacking within = tt
      less (Some y) lacking within =
          omega (
            arith,
            within,
            unequal y.confirmed (length (script c.game)) lacking,
            script_shorter c.game some,
          )
        where
          unequal : (m n : ℕ) → (m == n) ≡ false → m ≢ n
          unequal m n e = grind (arith, nat_tests)

  -- the verdict names a refusal that may not be retaken
  forfeits : IsSound (ended c s (heard_reply u) (Forfeit s RefusedPlay)) → IsRefusal rules c s
      → IsJoinedAtEnd g (heard_reply u) here
      → AreJoined rules (ended c s (heard_reply u) (Forfeit s RefusedPlay)) s here lo
  forfeits is_sound refusal mine =
      joint_put rules c s (with_engine (heard_reply u) (side_of c.sides s)) c.game (Some (Forfeit s RefusedPlay))
      c.pending c.retakes here lo is_sound (record {
        positional = refusal.positional;
        simple = refusal.simple;
        by_other = refusal.by_other;
        repeats = refusal.repeats;
        often = refusal.often;
        nothing = refusal.nothing;
      })
      (record {
        joined = mine;
        playable = record { earlier = playable.earlier; last = playable.last };
      })
      (theirs_at (Some (Forfeit s RefusedPlay)))

  -- a refused last move
  pub refuses : (r : Reply) (end : EndsWith c.game) → c.pending ≡ None → outcome c.game s (oldest u.unanswered) r ≡ Refuses
      → u.confirmed + 1 ≡ length (script c.game)
      → ¬ IsLegal (without_last g) end.move.colour end.move.vertex
      → Left g u.confirmed (drop 1 u.unanswered) e te tc
      → IsJoinedAtEnd g (heard_reply u) here
      → Replied rules c s u here lo (outcome c.game s (oldest u.unanswered) r)
  refuses r end free is lacks illegal left at_end =
      subst (Replied rules c s u here lo) (sym is) (
        refl,
        by_retake (may_retake c s (heard_reply u)) refl (outcome_sound r Refuses is),
      )
    where
      some : 0 < length c.game.moves
      some = let within = slice_get_within c.game.moves (length c.game.moves - 1) end.move end.there in omega
          (arith, within)

      -- no game of this rule has the move
      no_game : IsGame g → ⊥
      no_game is_game = illegal (is_game.legal (length c.game.moves - 1) end.move end.there)

      by_other : moved_last c.game (other s) ≡ true
      by_other =
          elim (this_or_other end.move.colour s) [
            | inl own ↦ absurd (no_game (playable.last (inl (made_by c.game end s own))))
            | inr theirs ↦ made_by c.game end (other s) theirs
          ]

      positional : (k : KoRule) → rule_of rules s ≡ k → rule_of rules s ≡ Positional
      positional Positional is = is
      positional Simple is =
          absurd (no_game (subst (λ (k : KoRule). IsGame (ruled k c.game)) (sym is) (simple_game c sound)))

      -- the maker's own rule allows the move
      simple : (k : KoRule) → rule_of rules (other s) ≡ k → rule_of rules (other s) ≡ Simple
      simple Simple is = is
      simple Positional is =
          let same : rule_of rules (other s) ≡ rule_of rules s = is ∙ sym (positional (rule_of rules s) refl) in
          absurd (no_game (subst (λ (k : KoRule). IsGame (ruled k c.game)) same (their_playable.last (inl by_other))))

      often : may_retake c s (heard_reply u) ≡ false
          → retakes_of c.retakes (length c.game.moves) ≡ most_retakes
      often no_retake =
          let few : retakes_of c.retakes (length c.game.moves) ≤ most_retakes =
          sound.retakes.few (length c.game.moves) in
          let owes : owes_last c.game (heard_reply u) ≡ true =
          has_all_if (u.confirmed + 1) (length (script c.game)) lacks in
          let left : nat_lt (retakes_of c.retakes (length c.game.moves)) most_retakes ≡ false =
          last_test (owes_last c.game (heard_reply u)) (moved_last c.game (other s))
          (nat_lt (retakes_of c.retakes (length c.game.moves)) most_retakes) owes by_other no_retake in
          at_most (retakes_of c.retakes (length c.game.moves)) few left
        where
          last_test : (x y z : Bool) → x ≡ true → y ≡ true → (x && (y && z)) ≡ false → z ≡ false
          last_test true true z p q h = h
          last_test false y z p q h = absurd (cc p)
          last_test true false z p q h = absurd (cc q)

          at_most : (n : ℕ) → n ≤ most_retakes → nat_lt n most_retakes ≡ false → n ≡ most_retakes
          at_most n few h = grind (arith, nat_tests)

      by_retake : (b : Bool) → may_retake c s (heard_reply u) ≡ b
          → IsSound (refused c s (heard_reply u) (may_retake c s (heard_reply u)))
          → AreJoined rules (refused c s (heard_reply u) (may_retake c s (heard_reply u))) s here lo
      by_retake true may is_sound =
          let R : Bool → Type 0 = λ b. AreJoined rules (refused c s (heard_reply u) b) s here lo in
          let S : Bool → Type 0 = λ b. IsSound (refused c s (heard_reply u) b) in
          let T : Bool → Type 0 = λ b. IsSound (retaken_at c s (heard_reply u) b) in
          let U : Bool → Type 0 = λ b. AreJoined rules (retaken_at c s (heard_reply u) b) s here lo in
          subst R (sym may)
          (retakes (has_all c.game (side_of c.sides (other s)).up) refl (subst S may is_sound) some lacks left)
      by_retake false may is_sound =
          let R : Bool → Type 0 = λ b. AreJoined rules (refused c s (heard_reply u) b) s here lo in
          let S : Bool → Type 0 = λ b. IsSound (refused c s (heard_reply u) b) in
          subst R (sym may) (forfeits (subst S may is_sound) (record {
            positional = positional (rule_of rules s) refl;
            simple = simple (rule_of rules (other s)) refl;
            by_other = by_other;
            repeats = λ is_game. no_game (subst (λ (k : KoRule). IsGame (ruled k c.game))
                (sym (positional (rule_of rules s) refl)) is_game);
            often = often may;
            nothing = free;
          }) at_end)

  -- the last move is taken back
  pub takes_back : (r : Reply) → outcome c.game s (oldest u.unanswered) r ≡ TakesBack → c.pending ≡ Some s
      → Left (without_last g) (u.confirmed - 1) (drop 1 u.unanswered) e te tc
      → Replied rules c s u here lo (outcome c.game s (oldest u.unanswered) r)
  takes_back r is pending left =
      let next : EngineRun = taken_back (heard_reply u) in
      let shorter : GameRecord = without_last c.game in
      let t = taken_at c s sound none pending in
      let mine : IsJoinedInPlay (ruled rule shorter) next here =
      left_live (ruled rule shorter) (u.confirmed - 1) u.sent (drop 1 u.unanswered) e te tc left in
      let done : Replied rules c s u here lo TakesBack = (
        refl,
        joint_put rules c s (with_engine next (side_of c.sides s)) shorter c.verdict None c.retakes here lo
            (outcome_sound r TakesBack is) (rw none tt)
            (record {
              joined = live_any (ruled rule shorter) c.verdict next here mine;
              playable = playable_shorter rule c.game s (Some u) (Some next) playable;
            })
            (record {
              joined = theirs_shorter their_rule c.game c.verdict (side_of c.sides (other s)).up lo theirs
                  (less t.some (side_of c.sides (other s)).up t.lacks);
              playable = playable_shorter their_rule c.game (other s) (side_of c.sides (other s)).up
                  (side_of c.sides (other s)).up their_playable;
            }),
      )
      in
      subst (Replied rules c s u here lo) (sym is) done
    where
      less : 0 < length c.game.moves → (x : Option EngineRun) → IfSome x (LacksLast c.game)
          → IfSome x (λ y. y.confirmed ≤ length (script (without_last c.game)))
      less some None lacks = tt
      less some (Some y) lacks = omega (arith, lacks.lacks, script_shorter c.game some)
