-- What an engine answers says what it has to.
use Rattle.std.proofs.Common.{◌≡◌, ℕ, ◌≤◌, Bool, true, false, List, Option, Some}
use Rattle.std.proofs.Common.{None, refl, sym, ◌∙◌, ap, subst, arith, inl, inr}
use Rattle.std.specs.Prelude.{IfSome, All}
use Rattle.go_base.specs.Handicap.{AllowsHandicap, handicap_points}
use Rattle.go_base.specs.Point.{IsOn}
use Rattle.go_base.proofs.board_points.HandicapPoints.{handicap_sound}
use Rattle.gtp_wire.specs.Words.{reply_words}
use Rattle.go_base.specs.Size.{IsSize, most_size}
use Rattle.go_base.specs.declared.colours.Colour.{Colour}
use Rattle.go_base.specs.declared.choices.Choice.{Choice}
use Rattle.go_board.specs.Game.{GameRecord}
use Rattle.gtp_wire.specs.declared.commands.Command.{Command}
use Rattle.gtp_check_judge.specs.declared.asking.CheckCommand.{CheckCommand}
use Rattle.gtp_check_judge.specs.declared.asking.CheckCommand.TheVariants.{Match, FinalScore, Name, Version}
use Rattle.gtp_check_judge.specs.declared.asking.CheckCommand.TheVariants.{KnownCommand, PlayInFull, GenmoveInFull, ListCommands}
use Rattle.gtp_check_judge.specs.declared.asking.CheckCommand.TheVariants.{Faulty, Required}
use Rattle.gtp_check_judge.specs.declared.asking.FaultyCommand.TheVariants as faulty
use Rattle.gtp_check_judge.specs.declared.asking.RequiredCommand.TheVariants as required
use Rattle.gtp_wire.specs.declared.commands.Command.TheVariants.{Boardsize, Komi, ClearBoard, FixedHandicap, Play}
use Rattle.gtp_wire.specs.declared.commands.Command.TheVariants.{Genmove, Undo, Quit}
use Rattle.gtp_wire.specs.declared.replies.Reply.{Reply}
use Rattle.gtp_wire.specs.Commands.{IsWritable, IsInLimits}
use Rattle.gtp_check_judge.specs.Asking.{line_of_check, IsCheckWritable, IsCheckInLimits}
use Rattle.gtp_session.specs.Policy.{IsLawful}
use Rattle.go_base.specs.Vertex.{written_vertices}
use Rattle.gtp_session.specs.Commands.{Answer, answer, asked, answer_choice}
use Rattle.gtp_session.specs.CommandAnswers.{line_of_command}
use Rattle.gtp_session.specs.Spoken.{IsLawfulAt, reply_of_answer}
use Rattle.gtp_session.proofs.table.Asking.{answer-same, answer-asked}
use Rattle.gtp_session.proofs.engines.Sent.{well_answer, genmove_answer, genmove_asks, undo_answer, vertex_of_legal}
use Rattle.gtp_check_judge.specs.declared.dues.Due.{Due}
use Rattle.gtp_check_judge.specs.declared.dues.Due.TheVariants.{Succeeds, Fails, Places, Resizes, Scores, Chooses}
use Rattle.gtp_check_judge.specs.declared.unanswered.Asked.{Asked}
use Rattle.gtp_wire.specs.ReplyWords.{choice_of_text, names_points}
use Rattle.gtp_check_judge.specs.RightEngine.{RightEngine, opinion_after, view_read}
use Rattle.gtp_check_judge.specs.Dues.{IsDue, IsDueTo}
use Rattle.gtp_check_judge.specs.Laws.{line_of_asked, Says, SaysTo, MayRefuse, IsByTable, IsRight}
use Rattle.gtp_check_judge.specs.Opinions.{opinion_said}
use Rattle.gtp_check_judge.specs.Scores.{score_of_text}
use Rattle.go_base.specs.HalfPoints.{score_text}
use Rattle.go_board.specs.Area.{score}
use Rattle.std.specs.Prelude.{if◌then◌else◌}
use Rattle.gtp_wire.proofs.texts.ReadBack.{vertex_is_read, resign_is_read, points_are_named}
use Rattle.go_base.specs.declared.choices.Choice.TheVariants as choice
use Rattle.gtp_check_judge.specs.declared.dues.Due.TheVariants as due
use Rattle.gtp_check_judge.specs.Asking.{IsGenmoveOf}
use Rattle.go_base.specs.declared.colours.Colour.TheVariants.{Black, White}
use Rattle.gtp_check_judge.proofs.answers.Table.{match_answered}
use Rattle.gtp_check_judge.proofs.commands.InFull.{genmove_said}
use Rattle.gtp_check_judge.proofs.engines.ListOfCommands.{all_listed}
use Rattle.gtp_check_judge.proofs.scoring.Even.{IsEven, even_said, even_says, even_then}

on_largest : (size : ℕ) (points : List ℕ) → size ≤ most_size → All (IsOn size) points → All (IsOn most_size) points
on_largest size points most on = λ k d less.
    let here = on k d less in
    record { left = here.left; right = omega (arith, here.right); bottom = here.bottom; top = omega (arith, here.top) }

handicap_is_named : (size stones : ℕ) → IsSize size → AllowsHandicap size stones
    → names_points (handicap_points size stones) (reply_words (written_vertices (handicap_points size stones))) ≡ true
handicap_is_named size stones is allowed =
    points_are_named (handicap_points size stones)
    (on_largest size (handicap_points size stones) is.most (handicap_sound size stones is allowed).on_board)

choice_is_read : (game : GameRecord) (colour : Colour) (ch : Choice) → game.size ≤ most_size → IsLawful game colour ch
    → choice_of_text (answer_choice game colour ch).text ≡ Some ch
choice_is_read game colour choice.Resign most lawful = resign_is_read
choice_is_read game colour (choice.Play v) most lawful = vertex_is_read v (vertex_of_legal game colour v lawful most)

pub choice_succeeds : (game : GameRecord) (colour : Colour) (ch : Choice) → (answer_choice game colour ch).ok ≡ true
choice_succeeds game colour choice.Resign = refl
choice_succeeds game colour (choice.Play v) = refl

says_choice : (game : GameRecord) (colour : Colour) (ch : Choice) → game.size ≤ most_size → IsLawful game colour ch
    → SaysTo game (Genmove colour) ch (answer_choice game colour ch).ok (answer_choice game colour ch).text
says_choice game colour ch most lawful =
    subst (λ (b : Bool). SaysTo game (Genmove colour) ch b (answer_choice game colour ch).text)
    (sym (choice_succeeds game colour ch)) (choice_is_read game colour ch most lawful)

-- the colour that is asked for is the one of a `genmove`
pub asked_genmove : (game : GameRecord) (id : ℕ) (command : CheckCommand) (colour : Colour)
    → asked game (line_of_check id command) ≡ Some colour → (c : Colour) × IsGenmoveOf c command
asked_genmove game id FinalScore colour e = absurd (cc e)
asked_genmove game id Name colour e = absurd (cc e)
asked_genmove game id Version colour e = absurd (cc e)
asked_genmove game id (KnownCommand k) colour e = absurd (cc e)
asked_genmove game id (Match (Boardsize size)) colour e = absurd (cc e)
asked_genmove game id (Match (Komi komi)) colour e = absurd (cc e)
asked_genmove game id (Match ClearBoard) colour e = absurd (cc e)
asked_genmove game id (Match (FixedHandicap stones)) colour e = absurd (cc e)
asked_genmove game id (Match (Play move)) colour e = absurd (cc e)
asked_genmove game id (Match (Genmove c)) colour e = (c, inl refl)
asked_genmove game id (Match Undo) colour e = absurd (cc e)
asked_genmove game id (Match Quit) colour e = absurd (cc e)
asked_genmove game id ListCommands colour e = absurd (cc e)
asked_genmove game id (Faulty faulty.Unknown) colour e = absurd (cc e)
asked_genmove game id (Faulty faulty.UnknownWithArguments) colour e = absurd (cc e)
asked_genmove game id (Faulty faulty.Boardsize) colour e = absurd (cc e)
asked_genmove game id (Faulty faulty.Komi) colour e = absurd (cc e)
asked_genmove game id (Faulty faulty.PlayNowhere) colour e = absurd (cc e)
asked_genmove game id (Faulty faulty.PlayOutside) colour e = absurd (cc e)
asked_genmove game id (Faulty faulty.Genmove) colour e = absurd (cc e)
asked_genmove game id (Required required.ProtocolVersion) colour e = absurd (cc e)
asked_genmove game id (Required required.Name) colour e = absurd (cc e)
asked_genmove game id (Required required.Version) colour e = absurd (cc e)
asked_genmove game id (Required required.KnownCommand) colour e = absurd (cc e)
asked_genmove game id (PlayInFull move) colour e = absurd (cc e)
asked_genmove game id (GenmoveInFull c) colour e = (c, inr refl)

-- an answer by the table that an engine gave leaves the engine's game
tabled_after : (before : RightEngine) (entry : Asked) (reply : Reply) (after : RightEngine) (ch : Choice)
    → IsSize before.game.size
    → IsLawfulAt before.game (line_of_asked entry) ch → IsByTable before entry reply after
    → reply ≡ reply_of_answer (Some entry.id) (answer before.game (line_of_asked entry) ch)
    → after.game ≡ (answer before.game (line_of_asked entry) ch).game
tabled_after before entry reply after ch size lawful right is = by (asked before.game (line_of_asked entry)) refl
  where
    by : (o : Option Colour) → asked before.game (line_of_asked entry) ≡ o
        → after.game ≡ (answer before.game (line_of_asked entry) ch).game
    by None e =
        ap (λ (e : RightEngine). e.game) right.leaves ∙ ap (λ (a : Answer). a.game) (answer-same before.game
        (line_of_asked entry) right.choice ch e)
    by (Some colour) e =
        let command = asked_genmove before.game entry.id entry.command colour e in
        let given : answer before.game (line_of_asked entry) ch ≡ answer_choice before.game colour ch =
        answer-asked before.game (line_of_asked entry) ch colour e in
        let fair : IsLawful before.game colour ch =
        subst (λ (o : Option Colour). IfSome o (λ c. IsLawful before.game c ch)) e lawful in
        let text : reply.text.items ≡ (answer_choice before.game colour ch).text =
        ap (λ (r : Reply). r.text.items) is ∙ ap (λ (a : Answer). a.text) given in
        let ok : reply.ok ≡ true =
        ap (λ (r : Reply). r.ok) is ∙ ap (λ (a : Answer). a.ok) given ∙ choice_succeeds before.game colour ch in
        let said : choice_of_text reply.text.items ≡ Some right.choice =
        genmove_said before entry.command command.0 right.choice reply.text.items command.1
        (subst (λ (b : Bool). Says before entry.command right.choice b reply.text.items) ok right.says) in
        let both : Some right.choice ≡ Some ch =
        sym said ∙ ap choice_of_text text ∙ choice_is_read before.game colour ch size.most fair in
        let same : right.choice ≡ ch = cc both in
        ap (λ (e : RightEngine). e.game) right.leaves ∙ ap (λ (c : Choice). (answer before.game
        (line_of_asked entry) c).game) same

-- the table refuses none of what may be refused
pub never_refused : (engine : RightEngine) (id : ℕ) (command : CheckCommand) (ch : Choice) → MayRefuse engine command
    → IsCheckInLimits command → (answer engine.game (line_of_check id command) ch).ok ≡ true
never_refused engine id (Match (Boardsize s)) ch may limits =
    ap (λ (a : Answer). a.ok) (well_answer engine.game (Some id) (Boardsize s) ch limits)
never_refused engine id (Match (Komi komi)) ch may limits =
    ap (λ (a : Answer). a.ok) (well_answer engine.game (Some id) (Komi komi) ch limits)
never_refused engine id (Match ClearBoard) ch may limits = absurd may
never_refused engine id (Match (FixedHandicap stones)) ch may limits = absurd may
never_refused engine id (Match (Play move)) ch may limits = absurd may
never_refused engine id (Match (Genmove colour)) ch may limits = absurd may
never_refused engine id (Match Undo) ch may limits =
    ap (λ (a : Answer). a.ok) (undo_answer engine.game (Some id) ch may.moves)
never_refused engine id (Match Quit) ch may limits = absurd may
never_refused engine id FinalScore ch may limits = refl
never_refused engine id Name ch may limits = refl
never_refused engine id Version ch may limits = refl
never_refused engine id (KnownCommand k) ch may limits = refl
never_refused engine id ListCommands ch may limits = absurd may
never_refused engine id (Faulty command) ch may limits = absurd may
never_refused engine id (Required command) ch may limits = absurd may
never_refused engine id (PlayInFull move) ch may limits = absurd may
never_refused engine id (GenmoveInFull colour) ch may limits = absurd may

-- a right answer that an engine gave leaves the engine's game
pub one_after : (before : RightEngine) (entry : Asked) (reply : Reply) (after : RightEngine) (ch : Choice)
    → IsSize before.game.size
    → IsCheckInLimits entry.command → IsLawfulAt before.game (line_of_asked entry) ch → IsRight before entry reply after
    → reply ≡ reply_of_answer (Some entry.id) (answer before.game (line_of_asked entry) ch)
    → after.game ≡ (answer before.game (line_of_asked entry) ch).game
one_after before entry reply after ch size limits lawful (IsRight.by_table right) is =
    tabled_after before entry reply after ch size lawful right is
one_after before entry reply after ch size limits lawful (IsRight.by_refusal refuses) is =
    absurd (let e : false ≡ true =
    sym refuses.status ∙ ap (λ (r : Reply). r.ok) is
    ∙ never_refused before entry.id entry.command ch refuses.may limits in cc e)

-- the same, where the game is known by another name
pub one_after_at : (before : RightEngine) (game : GameRecord) (entry : Asked) (reply : Reply) (after : RightEngine)
    (ch : Choice) → before.game ≡ game → IsSize game.size
    → IsCheckInLimits entry.command → IsLawfulAt game (line_of_asked entry) ch → IsRight before entry reply after
    → reply ≡ reply_of_answer (Some entry.id) (answer game (line_of_asked entry) ch)
    → after.game ≡ (answer game (line_of_asked entry) ch).game
one_after_at before game entry reply after ch same size limits lawful right is =
    subst (λ (g : GameRecord). IsSize g.size → IsLawfulAt g (line_of_asked entry) ch
    → reply ≡ reply_of_answer (Some entry.id) (answer g (line_of_asked entry) ch)
    → after.game ≡ (answer g (line_of_asked entry) ch).game) same
    (λ size lawful is. one_after before entry reply after ch size limits lawful right is) size lawful is

-- ---- what such an engine thinks of an empty board

-- what is left by an answer by the table
tabled_even : (before : RightEngine) (entry : Asked) (reply : Reply) (ch : Choice) (command : CheckCommand)
    → entry.command ≡ command → reply ≡ reply_of_answer (Some entry.id) (answer before.game (line_of_asked entry) ch)
    → IsEven before.opinion → IsEven (opinion_after before command reply)
tabled_even before entry reply ch (Match command) e is even = even
tabled_even before entry reply ch Name e is even = even
tabled_even before entry reply ch Version e is even = even
tabled_even before entry reply ch (KnownCommand k) e is even = even
tabled_even before entry reply ch ListCommands e is even = even
tabled_even before entry reply ch (Faulty command) e is even = even
tabled_even before entry reply ch (Required command) e is even = even
tabled_even before entry reply ch (PlayInFull move) e is even = even
tabled_even before entry reply ch (GenmoveInFull colour) e is even = even
tabled_even before entry reply ch FinalScore e is even = by reply.ok
  where
    text : reply.text.items ≡ score_text (score before.game)
    text =
        ap (λ (r : Reply). r.text.items) is
        ∙ ap (λ (c : CheckCommand). (answer before.game (line_of_check entry.id c) ch).text) e

    by : (b : Bool)
        → IsEven (if b then opinion_said before.opinion (view_read before.game (score_of_text reply.text.items))
        else before.opinion)
    by false = even
    by true =
        even_then before.opinion (view_read before.game (score_of_text reply.text.items)) even
        (λ new h. even_said before.game new
        (ap (λ (t : List ℕ). view_read before.game (score_of_text t)) (sym text) ∙ h))

pub even_after : (before : RightEngine) (entry : Asked) (reply : Reply) (after : RightEngine) (ch : Choice)
    → IsCheckInLimits entry.command → IsRight before entry reply after
    → reply ≡ reply_of_answer (Some entry.id) (answer before.game (line_of_asked entry) ch)
    → IsEven before.opinion → IsEven after.opinion
even_after before entry reply after ch limits (IsRight.by_table right) is even =
    subst IsEven (sym (ap (λ (e : RightEngine). e.opinion) right.leaves))
    (tabled_even before entry reply ch entry.command refl is even)
even_after before entry reply after ch limits (IsRight.by_refusal refuses) is even =
    absurd (let e : false ≡ true =
    sym refuses.status ∙ ap (λ (r : Reply). r.ok) is
    ∙ never_refused before entry.id entry.command ch refuses.may limits in cc e)

-- the same, where the game is known by another name
pub even_after_at : (before : RightEngine) (game : GameRecord) (entry : Asked) (reply : Reply) (after : RightEngine)
    (ch : Choice) → before.game ≡ game → IsCheckInLimits entry.command → IsRight before entry reply after
    → reply ≡ reply_of_answer (Some entry.id) (answer game (line_of_asked entry) ch)
    → IsEven before.opinion → IsEven after.opinion
even_after_at before game entry reply after ch same limits right is even =
    subst (λ (g : GameRecord). reply ≡ reply_of_answer (Some entry.id) (answer g (line_of_asked entry) ch)
    → IsEven after.opinion) same
    (λ is. even_after before entry reply after ch limits right is even) is

-- an engine's answer to what was asked says what it has to
match_says : (engine : RightEngine) (id : Option ℕ) (command : Command) (due : Due) (ch : Choice)
    → IsSize engine.game.size
    → IsWritable command → IsInLimits command → IsDueTo engine command due → IsLawfulAt engine.game
    (line_of_command id command) ch
    → SaysTo engine.game command ch (answer engine.game (line_of_command id command) ch).ok
    (answer engine.game (line_of_command id command) ch).text
match_says engine id (Boardsize size) due ch is w l h lawful = tt
match_says engine id (Komi komi) due ch is w l h lawful = tt
match_says engine id ClearBoard due ch is w l h lawful = tt
match_says engine id (FixedHandicap stones) (Places size count) ch is w l h lawful =
    subst (λ (a : Answer). SaysTo engine.game (FixedHandicap stones) ch a.ok a.text)
    (sym (well_answer engine.game id (FixedHandicap stones) ch (h.2, (h.3, is))))
    (handicap_is_named engine.game.size stones is h.3)
match_says engine id (FixedHandicap stones) (Fails cause) ch is w l h lawful =
    subst (λ (b : Bool). SaysTo engine.game (FixedHandicap stones) ch b
    (answer engine.game (line_of_command id (FixedHandicap stones)) ch).text)
    (sym (match_answered engine id (FixedHandicap stones) (Fails cause) ch is w l h).0) tt
match_says engine id (FixedHandicap stones) Succeeds ch is w l h lawful = absurd h
match_says engine id (FixedHandicap stones) (Resizes s) ch is w l h lawful = absurd h
match_says engine id (FixedHandicap stones) (Scores s k) ch is w l h lawful = absurd h
match_says engine id (FixedHandicap stones) due.AnyReply ch is w l h lawful = absurd h
match_says engine id (FixedHandicap stones) (Chooses c) ch is w l h lawful = absurd h
match_says engine id (FixedHandicap stones) due.MayUndo ch is w l h lawful = absurd h
match_says engine id (FixedHandicap stones) due.Lists ch is w l h lawful = absurd h
match_says engine id (Play move) due ch is w l h lawful = tt
match_says engine id (Genmove colour) due ch is w l h lawful =
    by (asked engine.game (line_of_command id (Genmove colour))) refl
  where
    by : (o : Option Colour) → asked engine.game (line_of_command id (Genmove colour)) ≡ o
        → SaysTo engine.game (Genmove colour) ch (answer engine.game (line_of_command id (Genmove colour)) ch).ok
        (answer engine.game (line_of_command id (Genmove colour)) ch).text
    by None e = absurd (let e2 : Some colour ≡ None = sym (genmove_asks engine.game id colour h.1) ∙ e in cc e2)
    by (Some c) e =
        subst (λ (a : Answer). SaysTo engine.game (Genmove colour) ch a.ok a.text)
        (sym (genmove_answer engine.game id colour ch h.1))
        (says_choice engine.game colour ch is.most
        (subst (λ (o : Option Colour). IfSome o (λ d. IsLawful engine.game d ch))
        (genmove_asks engine.game id colour h.1) lawful))
match_says engine id Undo due ch is w l h lawful = tt
match_says engine id Quit due ch is w l h lawful = absurd h

pub engine_says : (engine : RightEngine) (id : ℕ) (command : CheckCommand) (due : Due) (ch : Choice)
    → IsSize engine.game.size
    → IsCheckWritable command → IsCheckInLimits command → IsDue engine command due
    → IsLawfulAt engine.game (line_of_check id command) ch → IsEven engine.opinion
    → Says engine command ch (answer engine.game (line_of_check id command) ch).ok
    (answer engine.game (line_of_check id command) ch).text
engine_says engine id (Match command) due ch is w l h lawful even =
    match_says engine (Some id) command due ch is w l h lawful
engine_says engine id FinalScore due ch is w l h lawful even = even_says engine even h.1 h.2
engine_says engine id Name due ch is w l h lawful even = tt
engine_says engine id Version due ch is w l h lawful even = tt
engine_says engine id (KnownCommand k) due ch is w l h lawful even = tt
engine_says engine id ListCommands due ch is w l h lawful even = all_listed
engine_says engine id (Faulty command) due ch is w l h lawful even = tt
engine_says engine id (Required command) due ch is w l h lawful even = tt
engine_says engine id (PlayInFull move) due ch is w l h lawful even = tt
engine_says engine id (GenmoveInFull Black) due ch is w l h lawful even =
    match_says engine (Some id) (Genmove Black) due ch is w l h lawful
engine_says engine id (GenmoveInFull White) due ch is w l h lawful even =
    match_says engine (Some id) (Genmove White) due ch is w l h lawful
