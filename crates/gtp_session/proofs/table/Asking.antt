-- What is answered to a line that asks a policy, and to one that asks none.
use Rattle.std.proofs.Common.{◌≡◌, ℕ, List, true, Option, Some, None, refl, inl, inr, ap, ◌∙◌}
use Rattle.std.specs.Prelude.{◌⊎◌, codes}
use Rattle.go_base.specs.Vertex.{written_vertex}
use Rattle.go_base.specs.declared.colours.Colour.{Colour}
use Rattle.go_base.specs.declared.vertices.Vertex.{Vertex}
use Rattle.go_board.specs.Game.{GameRecord, IsLegal, with_move}
use Rattle.gtp_wire.specs.Replies.{written_reply}
use Rattle.gtp_wire.specs.declared.lines.Line.{Line}
use Rattle.gtp_wire.specs.declared.lines.Line.TheVariants as line
use Rattle.gtp_session.specs.Policy.{May, IsLawful}
use Rattle.go_base.specs.declared.choices.Choice.{Choice}
use Rattle.go_base.specs.declared.choices.Choice.TheVariants as choice
use Rattle.gtp_session.specs.declared.commands.CommandName.{CommandName}
use Rattle.gtp_session.specs.Commands.{Answer, answer, asked, id_of, named_command, answer_choice, answer_to_named}
use Rattle.gtp_session.specs.Commands.{asked_by_named, row_of}
use Rattle.gtp_session.specs.Engine.{State, WrittenReply, Step}
use Rattle.gtp_session.proofs.choosing.Policies.{AllowsLawful}
use Rattle.gtp_session.proofs.table.Rows.{row_same, row_asked}

named_same : (game : GameRecord) (named : Option CommandName) (words : List (List ℕ)) (a b : Choice)
    → asked_by_named game named words ≡ None → answer_to_named game named words a ≡ answer_to_named game named words b
named_same game None words a b e = refl
named_same game (Some c) words a b e = row_same (row_of c) game ((row_of c).read words) a b e

pub answer-same : (game : GameRecord) (l : Line) (a b : Choice) → asked game l ≡ None
    → answer game l a ≡ answer game l b
answer-same game line.TooLong a b e = refl
answer-same game (line.Command cl) a b e = named_same game (named_command cl.words) cl.words a b e

named_asked : (game : GameRecord) (named : Option CommandName) (words : List (List ℕ)) (ch : Choice) (colour : Colour)
    → asked_by_named game named words ≡ Some colour
    → answer_to_named game named words ch ≡ answer_choice game colour ch
named_asked game None words ch colour e = absurd (cc e)
named_asked game (Some c) words ch colour e = row_asked (row_of c) game ((row_of c).read words) ch colour e

pub answer-asked : (game : GameRecord) (l : Line) (ch : Choice) (colour : Colour) → asked game l ≡ Some colour
    → answer game l ch ≡ answer_choice game colour ch
answer-asked game line.TooLong ch colour e = absurd (cc e)
answer-asked game (line.Command cl) ch colour e = named_asked game (named_command cl.words) cl.words ch colour e

by_choice : (game new_game : GameRecord) (text : List ℕ) (id : Option ℕ) (colour : Colour) (choice : Choice)
    → IsLawful game colour choice
    → new_game ≡ (answer_choice game colour choice).game
    → text ≡ written_reply (answer_choice game colour choice).ok id (answer_choice game colour choice).text
    → ((new_game ≡ game) × (text ≡ written_reply true id (codes "resign")))
    ⊎ ((vertex : Vertex) × IsLegal game colour vertex × (new_game ≡ with_move game colour vertex)
    × (text ≡ written_reply true id (written_vertex vertex)))
by_choice game new_game text id colour choice.Resign lawful g t = inl (g, t)
by_choice game new_game text id colour (choice.Play vertex) lawful g t = inr (vertex, lawful, g, t)

module _ {P : Type 0} (may : May P) where
  pub genmove-lawful : AllowsLawful may → {old new : State P} {l : Line} {reply : WrittenReply} {colour : Colour}
      → Step may old l reply new → asked old.game l ≡ Some colour
      → ((new.game ≡ old.game) × (reply.text ≡ written_reply true (id_of l) (codes "resign")))
      ⊎ ((vertex : Vertex) × IsLegal old.game colour vertex × (new.game ≡ with_move old.game colour vertex)
      × (reply.text ≡ written_reply true (id_of l) (written_vertex vertex)))
  genmove-lawful lawful {old} {new} {l} {reply} {colour} step e =
      let given = answer-asked old.game l step.choice colour e in
      let allowed = rw e at step.policy in
      by_choice old.game new.game reply.text (id_of l) colour step.choice
      (lawful old.policy old.game colour step.choice new.policy allowed)
      (step.game ∙ ap (λ (a : Answer). a.game) given)
      (step.text ∙ ap (λ (a : Answer). written_reply a.ok (id_of l) a.text) given)
