-- Each command that a match sends is in its limits.
use Rattle.std.proofs.Common.{◌≡◌, ℕ, suc, ◌≤◌, List, [], ◌∷◌, map, Option, Some, None, Bool, true, false, refl, arith}
use Rattle.std.proofs.Common.{cond, inl, inr, ◌+◌, length}
use Rattle.std.specs.Prelude.{slice_get, ◌⊎◌, nat_le}
use Rattle.std.specs.List.{AllByRecursion}
use Rattle.go_base.specs.Handicap.{AllowsHandicap}
use Rattle.go_base.specs.Int.{most_int}
use Rattle.go_base.specs.Point.{IsOn}
use Rattle.go_base.specs.Vertex.{IsVertex}
use Rattle.go_base.specs.declared.colours.Colour.{Colour}
use Rattle.go_base.specs.declared.moves.Move.{Move}
use Rattle.go_base.specs.declared.vertices.Vertex.{Vertex}
use Rattle.go_base.specs.declared.vertices.Vertex.TheVariants.{Pass, At}
use Rattle.go_board.specs.Game.{GameRecord, IsGame, IsLegal, first_moves}
use Rattle.gtp_wire.specs.declared.commands.Command.{Command}
use Rattle.gtp_wire.specs.declared.commands.Command.TheVariants.{Play, FixedHandicap}
use Rattle.gtp_wire.specs.Commands.{words_of, IsWritable, IsInLimits}
use Rattle.gtp_wire.specs.Lines.{lines}
use Rattle.gtp_wire.specs.declared.lines.Line.TheVariants as line
use Rattle.go_base.proofs.general.Lists.{AllByRecursion-append}
use Rattle.gtp_match.specs.declared.sides.EngineRun.{EngineRun}
use Rattle.gtp_match.specs.declared.controller.Controller.{Controller}
use Rattle.gtp_match.specs.Controller.{next_command, next_text, script_or_genmove, undo_or_else}
use Rattle.gtp_match.specs.Script.{script, handicap_commands}
use Rattle.gtp_match.specs.Sound.{IsSound}
use Rattle.gtp_match.specs.declared.verdicts.Action.TheVariants.{Send}
use Rattle.gtp_match.specs.Next.{next}
use Rattle.gtp_match.specs.Sides.{side_of}
use Rattle.gtp_wire.proofs.written.CommandWords.{command_is_read, command_short}
use Rattle.gtp_match.proofs.soundness.Calls.{my_engine}
use Rattle.gtp_match.proofs.scripts.Scripts.{at_number}

-- the command can be written, and its values are in their limits
pub record MayBeWritten (k : Command) : Type 0 where
  pub writable : IsWritable k
  pub limits : IsInLimits k

vertex_on : (game : GameRecord) (c : Colour) (v : Vertex) → game.size ≤ 25 → IsLegal game c v → IsVertex v
vertex_on game c Pass few legal = tt
vertex_on game c (At p) few legal =
    let on : IsOn game.size p = legal.on_board in
    record { left = on.left; right = omega (arith, on.right); bottom = on.bottom; top = omega (arith, on.top) }

plays_written : (moves : List Move) → ((k : ℕ) (m : Move) → slice_get moves k ≡ Some m → IsVertex m.vertex)
    → AllByRecursion MayBeWritten (map Play moves)
plays_written [] all = tt
plays_written (m ∷ moves) all =
    (record { writable = tt; limits = all 0 m refl }, plays_written moves (λ k x e. all (suc k) x e))

handicap_written : (game : GameRecord) → (game.handicap ≡ 0) ⊎ AllowsHandicap game.size game.handicap
    → AllByRecursion MayBeWritten (handicap_commands game.handicap)
handicap_written game fits = by_test (nat_le 2 game.handicap) (few fits)
  where
    few : (game.handicap ≡ 0) ⊎ AllowsHandicap game.size game.handicap → game.handicap ≤ 9
    few (inl none) = omega (arith, none)
    few (inr (inl h)) = h.3
    few (inr (inr (inl h))) = omega (arith, h.2)
    few (inr (inr (inr h))) = omega (arith, h.3)

    by_test : (b : Bool) → game.handicap ≤ 9
        → AllByRecursion MayBeWritten (cond b (FixedHandicap game.handicap ∷ []) [])
    by_test true few = (record { writable = omega (arith, few); limits = tt }, tt)
    by_test false few = tt

script_written : (game : GameRecord) → IsGame game → AllByRecursion MayBeWritten (script game)
script_written game g = (
  record { writable = tt; limits = g.size },
  (
    record { writable = tt; limits = g.komi },
    (
      record { writable = tt; limits = tt },
      AllByRecursion-append MayBeWritten (handicap_commands game.handicap) (map Play game.moves)
          (handicap_written game g.handicap)
          (plays_written game.moves (λ k m e. vertex_on (first_moves k game) m.colour m.vertex
          g.size.most (g.legal k m e))),
    ),
  ),
)

-- what a sound match sends next
pub next_written : (c : Controller) (s : Colour) (engine : EngineRun) → IsSound c
    → MayBeWritten (next_command c s engine)
next_written c s engine h = by_pending c.pending
  where
    by_script : (k : Option Command) → slice_get (script c.game) (engine.confirmed + length engine.unanswered) ≡ k
        → MayBeWritten (script_or_genmove s k)
    by_script None e = record { writable = tt; limits = tt }
    by_script (Some k) e = at_number MayBeWritten (script c.game) (engine.confirmed + length engine.unanswered) k
        (script_written c.game h.game) e

    by_pending : (p : Option Colour) → MayBeWritten (undo_or_else p
        (script_or_genmove s (slice_get (script c.game) (engine.confirmed + length engine.unanswered))))
    by_pending (Some maker) = record { writable = tt; limits = tt }
    by_pending None = by_script (slice_get (script c.game) (engine.confirmed + length engine.unanswered)) refl

-- the bytes are one line, of this id and of the command's words, and at most 64
pub record IsOneLine (bytes : List ℕ) (id : ℕ) (words : List (List ℕ)) : Type 0 where
  pub line : lines bytes ≡ line.Command (record { id = Some id; words = words }) ∷ []
  pub short : length bytes ≤ 64

-- its line
pub sent_line : (c : Controller) (s : Colour) (engine : EngineRun) → IsSound c → next c ≡ Send s
    → (side_of c.sides s).up ≡ Some engine
    → IsOneLine (next_text c s engine) (engine.sent + 1) (words_of (next_command c s engine))
sent_line c s engine h e up =
    let w = next_written c s engine h in
    let id : engine.sent + 1 ≤ most_int = omega (arith, (my_engine c s engine h up).sent, h.setup.moves.1) in
    let short = command_short (Some (engine.sent + 1)) (next_command c s engine) id w.writable w.limits in
    record {
      line = command_is_read (Some (engine.sent + 1)) (next_command c s engine) id w.writable w.limits short;
      short = short;
    }
