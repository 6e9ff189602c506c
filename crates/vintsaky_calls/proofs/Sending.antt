-- A command that counts as sent was written.
use Rattle.std.proofs.Common.{◌≡◌, ℕ, ◌<◌, ◌≤◌, List, [], ◌∷◌, ◌++◌, length, take, Option, Some, None, refl, sym, ap}
use Rattle.std.proofs.Common.{◌∙◌, ◌⊎◌, inl, inr, arith, append_assoc}
use Rattle.std.proofs.lemmas.List.{take-append-le, take_all}
use Rattle.std.specs.Prelude.{MatchOption, Ok, Err}
use Rattle.go_base.specs.declared.colours.Colour.{Colour}
use Rattle.go_base.specs.declared.colours.Colour.TheVariants.{Black, White}
use Rattle.gtp_wire.proofs.line_reading.OneAfterOther.{lines_anew}
use Rattle.gtp_wire.specs.Lines.{lines}
use Rattle.gtp_wire.specs.declared.lines.Line.{Line}
use Rattle.gtp_match.specs.Controller.{sent, next_text}
use Rattle.gtp_match.specs.Next as going
use Rattle.gtp_match.specs.Sides.{side_of}
use Rattle.gtp_match.specs.Sound.{IsSound}
use Rattle.gtp_match.specs.declared.controller.Controller.{Controller}
use Rattle.gtp_match.specs.declared.sides.EngineRun.{EngineRun}
use Rattle.gtp_match.specs.declared.sides.SideState.{SideState}
use Rattle.gtp_match.specs.declared.unanswered.SentCommand.{SentCommand}
use Rattle.gtp_match.specs.declared.verdicts.Action.{Action}
use Rattle.gtp_match.specs.declared.verdicts.Action.TheVariants as action
use Rattle.gtp_match.proofs.hearing.LeftAlone.{send_leaves, sent_is_owed}
use Rattle.gtp_match.proofs.scripts.Lines.{sent_line}
use Rattle.gtp_match.specs.referee.Refereed.{Refereed, next_where}
use Rattle.gtp_match.specs.declared.referee.rulings.Ruled.{Ruled}
use Rattle.vintsaky_calls.specs.Laws.{unanswered_by, unanswered_of, WroteOneMore, SentWereWritten, WrittenWereSent}
use Rattle.vintsaky_calls.specs.Matches.{most_command, Sends}
use Rattle.vintsaky_calls.specs.Texts.{Puts}

-- a text that was put is what the buffer begins with
begins : (text before after : List ℕ) (count : ℕ) → Puts text before after → length text < length before
    → count ≡ length text → take count after ≡ text
begins text before after count puts room counted =
    ap (λ (n : ℕ). take n after) counted ∙ ap (λ (t : List ℕ). take (length text) t) (puts.written room)
    ∙ take-append-le (length text) text _ (omega arith) ∙ take_all (length text) text (omega arith)

-- where a text that ends in a newline is one line, this line comes first, whatever follows
first_line : (text : List ℕ) (line : Line) (later : List ℕ) → lines (text ++ 10 ∷ []) ≡ line ∷ []
    → lines ((text ++ 10 ∷ []) ++ later) ≡ line ∷ lines later
first_line text line later one =
    ap lines (append_assoc text (10 ∷ []) later) ∙ lines_anew text later
    ∙ ap (λ (first : List Line). first ++ lines later) one

-- what a side of the match itself has unanswered
abbrev unanswered_in : Controller → Colour → List SentCommand
unanswered_in c side = unanswered_by (side_of c.sides side).up

-- the side that is sent the command
at_side : (c : Controller) (s : Colour) (up : Option EngineRun) (text before after : List ℕ) (count : ℕ)
    → (side_of c.sides s).up ≡ up → IsSound c → going.next c ≡ action.Send s
    → MatchOption up ⊥ (λ engine. text ≡ next_text c s engine) → Puts text before after
    → most_command < length before → count ≡ length text
    → WroteOneMore (unanswered_in c s) (unanswered_in (sent c s) s) after count
at_side c s None text before after count up sound due is puts room counted = absurd is
at_side c s (Some engine) text before after count up sound due is puts room counted =
    let owes = sent_is_owed c s engine sound due up in
    let short : length text ≤ 64 = rw is (sent_line c s engine sound due up).short in
    record {
      entry = owes.entry;
      more = ap unanswered_by owes.up ∙ owes.last
          ∙ ap (λ (before : List SentCommand). before ++ owes.entry ∷ []) (sym (ap unanswered_by up));
      line = λ later.
          ap (λ (text : List ℕ). lines (text ++ later))
          (begins text before after count puts (omega (arith, short, room)) counted ∙ is)
          ∙ first_line _ _ later owes.line;
    }

-- either side
abbrev Leaves : Controller → Colour → Colour → List ℕ → ℕ → Type 0
Leaves c s side after count =
    (unanswered_in (sent c s) side ≡ unanswered_in c side)
    ⊎ WroteOneMore (unanswered_in c side) (unanswered_in (sent c s) side) after count

by_side : (c : Controller) (s side : Colour) (after : List ℕ) (count : ℕ)
    → WroteOneMore (unanswered_in c s) (unanswered_in (sent c s) s) after count → Leaves c s side after count
by_side c Black Black after count wrote = inr wrote
by_side c White White after count wrote = inr wrote
by_side c Black White after count wrote = inl (ap (λ (side : SideState). unanswered_by side.up) (send_leaves c Black))
by_side c White Black after count wrote = inl (ap (λ (side : SideState). unanswered_by side.up) (send_leaves c White))

-- what is due to a match with a referee is due to the match in it: there is no ruling
due_in_match : (c : Controller) (ruled : Option Ruled) (due : Action) → next_where c ruled ≡ Some due
    → going.next c ≡ due
due_in_match c None due e = cc
due_in_match c (Some given) due e = cc

wrote_more : (old new : Refereed) (number : ℕ) (before after : List ℕ) (count : ℕ) → IsSound old.controller
    → (sends : Sends old number before after count new)
    → WroteOneMore (unanswered_of old sends.side) (unanswered_in (sent old.controller sends.side) sends.side) after
    count
wrote_more old new number before after count sound sends =
    at_side old.controller sends.side _ sends.text before after count refl sound
    (due_in_match old.controller old.ruled (action.Send sends.side) sends.due) sends.is sends.puts sends.room
    sends.count_is

where_sent : (old new : Refereed) (number : ℕ) (before after : List ℕ) (count : ℕ) (side : Colour)
    → IsSound old.controller → Sends old number before after count new
    → (unanswered_of new side ≡ unanswered_of old side)
    ⊎ WroteOneMore (unanswered_of old side) (unanswered_of new side) after count
where_sent old new number before after count side sound sends =
    rw sends.new_is
    (by_side old.controller sends.side side after count (wrote_more old new number before after count sound sends))

pub were_sent : WrittenWereSent
were_sent number old new text_old text_new count_old count_new sound did =
    let sends = did.sent in (
      sends.side,
      sends.number_is,
      rw sends.new_is (wrote_more old new number text_old text_new count_new sound sends),
    )

pub were_written : SentWereWritten
were_written number old new text_old text_new count_old count_new (Ok done) side sound did =
    where_sent old new number text_old text_new count_new side sound did.sent
were_written number old new text_old text_new count_old count_new (Err why) side sound did =
    inl (ap (λ (r : Refereed). unanswered_of r side) did.kept.0)
