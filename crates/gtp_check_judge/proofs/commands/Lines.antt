-- A command that is asked is one line.
use Rattle.std.proofs.Common.{◌≡◌, ℕ, ◌≤◌, List, [], ◌∷◌, ◌++◌, length, None, Some, refl, ap, ◌∙◌, arith}
use Rattle.std.proofs.Common.{append_assoc, length-append, ◌+◌, sym, subst}
use Rattle.std.specs.Prelude.{codes}
use Rattle.std.specs.List.{join_with_byte}
use Rattle.std.proofs.lemmas.Fmt.{length-decimal-le}
use Rattle.go_base.specs.Int.{most_int, int_of, written_int}
use Rattle.go_base.specs.Point.{row_of}
use Rattle.go_base.specs.Vertex.{IsVertex, written_vertex}
use Rattle.go_base.specs.declared.colours.Colour.{Colour}
use Rattle.go_base.specs.declared.colours.Colour.TheVariants.{Black, White}
use Rattle.go_base.specs.declared.vertices.Vertex.{Vertex}
use Rattle.go_base.specs.declared.vertices.Vertex.TheVariants.{Pass, At}
use Rattle.gtp_wire.specs.declared.lines.Line.{Line}
use Rattle.gtp_wire.specs.Words.{id_words}
use Rattle.gtp_wire.specs.Lines.{lines}
use Rattle.gtp_wire.proofs.written.OneLine.{AreWords, IsWord, one_word, words_are_read}
use Rattle.gtp_wire.proofs.written.CommandWords.{commands_are_lines, vertex_word}
use Rattle.gtp_wire.proofs.line_reading.OneAfterOther.{lines_anew}
use Rattle.gtp_check_judge.specs.declared.asking.Known.{Known}
use Rattle.gtp_check_judge.specs.declared.asking.CheckCommand.{CheckCommand}
use Rattle.gtp_check_judge.specs.declared.asking.CheckCommand.TheVariants.{Match, FinalScore, Name, Version}
use Rattle.gtp_check_judge.specs.declared.asking.CheckCommand.TheVariants.{KnownCommand, PlayInFull, GenmoveInFull, ListCommands}
use Rattle.gtp_check_judge.specs.declared.asking.CheckCommand.TheVariants.{Faulty, Required}
use Rattle.gtp_check_judge.specs.declared.asking.FaultyCommand.TheVariants as faulty
use Rattle.gtp_check_judge.specs.declared.asking.RequiredCommand.TheVariants as required
use Rattle.gtp_check_judge.specs.Asking.{colour_in_full, known_name, no_command, written_check, line_of_check}
use Rattle.gtp_check_judge.specs.Asking.{IsCheckWritable, IsCheckInLimits}
use Rattle.gtp_check_judge.specs.declared.exam.Exam.{Exam}
use Rattle.gtp_check_judge.specs.Exam.{Asks}
use Rattle.gtp_check_judge.specs.Exam.{HasRoomFor}
use Rattle.gtp_check_judge.specs.declared.asking.Known.TheVariants as known

int_short : (n : ℕ) → n ≤ most_int → length (written_int n) ≤ 10
int_short n fits = length-decimal-le 10 n (omega arith) (omega arith) (omega arith)

-- a name with arguments, after its id
words_are_lines : (id : ℕ) (name : List ℕ) (arguments : List (List ℕ)) (later : List ℕ) → id ≤ most_int
    → int_of name ≡ None → AreWords (name ∷ arguments) → length (join_with_byte 32 (name ∷ arguments)) ≤ 40
    → lines ((join_with_byte 32 (id_words (Some id) ++ name ∷ arguments) ++ 10 ∷ []) ++ later)
    ≡ Line.Command (record { id = Some id; words = name ∷ arguments }) ∷ lines later
words_are_lines id name arguments later fits no_int all short =
    let text : List ℕ = join_with_byte 32 (id_words (Some id) ++ name ∷ arguments) in
    ap lines (append_assoc text (10 ∷ []) later) ∙ lines_anew text later
    ∙ ap (λ (ls : List Line). ls ++ lines later)
    (words_are_read (Some id) name arguments fits no_int all
    (omega (
      arith,
      short,
      int_short id fits,
      length-append (written_int id) (32 ∷ join_with_byte 32
          (name ∷ arguments)),
    )))

known_words : (k : Known) → AreWords (codes "known_command" ∷ known_name k ∷ [])
known_words known.FixedHandicap = (one_word (codes "known_command") refl, (one_word (codes "fixed_handicap") refl, tt))
known_words known.Undo = (one_word (codes "known_command") refl, (one_word (codes "undo") refl, tt))
known_words known.FinalScore = (one_word (codes "known_command") refl, (one_word (codes "final_score") refl, tt))

known_short : (k : Known) → length (join_with_byte 32 (codes "known_command" ∷ known_name k ∷ [])) ≤ 40
known_short known.FixedHandicap = omega arith
known_short known.Undo = omega arith
known_short known.FinalScore = omega arith

full_word : (c : Colour) → IsWord (colour_in_full c)
full_word Black = one_word (codes "black") refl
full_word White = one_word (codes "white") refl

vertex_short : (v : Vertex) → IsVertex v → length (written_vertex v) ≤ 20
vertex_short Pass on = omega arith
vertex_short (At p) on =
    omega (arith, length-decimal-le 2 (row_of p) (omega arith) (omega (arith, on.top)) (omega (arith, on.top)))

play_short : (c : Colour) (v : Vertex) → IsVertex v
    → length (join_with_byte 32 (codes "play" ∷ colour_in_full c ∷ written_vertex v ∷ [])) ≤ 40
play_short Black v on = omega (arith, vertex_short v on)
play_short White v on = omega (arith, vertex_short v on)

genmove_short : (c : Colour) → length (join_with_byte 32 (codes "genmove" ∷ colour_in_full c ∷ [])) ≤ 40
genmove_short Black = omega arith
genmove_short White = omega arith

pub checks_are_lines : (id : ℕ) (command : CheckCommand) (later : List ℕ) → id ≤ most_int → IsCheckWritable command
    → IsCheckInLimits command → lines (written_check id command ++ later) ≡ line_of_check id command ∷ lines later
checks_are_lines id (Match command) later fits w l = commands_are_lines (Some id) command later fits w l
checks_are_lines id FinalScore later fits w l =
    words_are_lines id (codes "final_score") [] later fits refl (one_word (codes "final_score") refl, tt) (omega arith)
checks_are_lines id Name later fits w l =
    words_are_lines id (codes "name") [] later fits refl (one_word (codes "name") refl, tt) (omega arith)
checks_are_lines id Version later fits w l =
    words_are_lines id (codes "version") [] later fits refl (one_word (codes "version") refl, tt) (omega arith)
checks_are_lines id (KnownCommand k) later fits w l =
    words_are_lines id (codes "known_command") (known_name k ∷ []) later fits refl (known_words k) (known_short k)
checks_are_lines id ListCommands later fits w l =
    words_are_lines id (codes "list_commands") [] later fits refl (one_word (codes "list_commands") refl, tt) (omega arith)
checks_are_lines id (Faulty faulty.Unknown) later fits w l =
    words_are_lines id no_command ([]) later fits refl
    (one_word no_command refl, tt) (omega arith)
checks_are_lines id (Faulty faulty.UnknownWithArguments) later fits w l =
    words_are_lines id no_command (codes "b" ∷ codes "D4" ∷ []) later fits refl
    (one_word no_command refl, (one_word (codes "b") refl, (one_word (codes "D4") refl, tt))) (omega arith)
checks_are_lines id (Faulty faulty.Boardsize) later fits w l =
    words_are_lines id (codes "boardsize") (codes "x" ∷ []) later fits refl
    (one_word (codes "boardsize") refl, (one_word (codes "x") refl, tt)) (omega arith)
checks_are_lines id (Faulty faulty.Komi) later fits w l =
    words_are_lines id (codes "komi") (codes "x" ∷ []) later fits refl
    (one_word (codes "komi") refl, (one_word (codes "x") refl, tt)) (omega arith)
checks_are_lines id (Faulty faulty.PlayNowhere) later fits w l =
    words_are_lines id (codes "play") (codes "b" ∷ []) later fits refl
    (one_word (codes "play") refl, (one_word (codes "b") refl, tt)) (omega arith)
checks_are_lines id (Faulty faulty.PlayOutside) later fits w l =
    words_are_lines id (codes "play") (codes "b" ∷ codes "Z99" ∷ []) later fits refl
    (one_word (codes "play") refl, (one_word (codes "b") refl, (one_word (codes "Z99") refl, tt))) (omega arith)
checks_are_lines id (Faulty faulty.Genmove) later fits w l =
    words_are_lines id (codes "genmove") (codes "x" ∷ []) later fits refl
    (one_word (codes "genmove") refl, (one_word (codes "x") refl, tt)) (omega arith)
checks_are_lines id (Required required.ProtocolVersion) later fits w l =
    words_are_lines id (codes "protocol_version") ([]) later fits refl
    (one_word (codes "protocol_version") refl, tt) (omega arith)
checks_are_lines id (Required required.Name) later fits w l =
    words_are_lines id (codes "name") ([]) later fits refl
    (one_word (codes "name") refl, tt) (omega arith)
checks_are_lines id (Required required.Version) later fits w l =
    words_are_lines id (codes "version") ([]) later fits refl
    (one_word (codes "version") refl, tt) (omega arith)
checks_are_lines id (Required required.KnownCommand) later fits w l =
    words_are_lines id (codes "known_command") (no_command ∷ []) later fits refl
    (one_word (codes "known_command") refl, (one_word no_command refl, tt)) (omega arith)
checks_are_lines id (PlayInFull move) later fits w l =
    words_are_lines id (codes "play") (colour_in_full move.colour ∷ written_vertex move.vertex ∷ []) later fits refl
    (one_word (codes "play") refl, (full_word move.colour, (vertex_word move.vertex l, tt)))
    (play_short move.colour move.vertex l)
checks_are_lines id (GenmoveInFull colour) later fits w l =
    words_are_lines id (codes "genmove") (colour_in_full colour ∷ []) later fits refl
    (one_word (codes "genmove") refl, (full_word colour, tt)) (genmove_short colour)

pub asked_line : (old new : Exam) (command : CheckCommand) (later : List ℕ) → HasRoomFor old command
    → Asks old command new
    → lines (written_check new.sent command ++ later) ≡ line_of_check new.sent command ∷ lines later
asked_line old new command later room a =
    subst (λ (e : Exam). lines (written_check e.sent command ++ later) ≡ line_of_check e.sent command ∷ lines later)
    (sym a.new_is)
    (checks_are_lines (old.sent + 1) command later (omega (arith, room.id)) a.writable a.limits)
