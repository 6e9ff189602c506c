-- The lines of a conversation that a complaint shows: of its last game alone, or all. (Own.)
use Rattle.std.specs.Prelude.{ℕ, ◌+◌, ◌==◌, Bool, true, false, if◌then◌else◌, List, [], ◌∷◌, ◌++◌, codes, filter, slice_get}
use Rattle.std.specs.Prelude.{take, Option, None, Some}
use Rattle.std.specs.Borrow.{Bor}
use Rattle.std.specs.Fmt.{decimal}
use Rattle.std.specs.List.{concat, flat_map, range_with_len}
use Rattle.go_base.specs.Vertex.{written_vertex}
use Rattle.go_base.specs.declared.moves.Move.{Move}
use Rattle.gtp_wire.specs.declared.commands.Command.TheVariants.{Genmove}
use Rattle.gtp_check_judge.specs.declared.asking.CheckCommand.{CheckCommand}
use Rattle.gtp_check_judge.specs.declared.asking.CheckCommand.TheVariants.{GenmoveInFull, Match}
use Rattle.gtp_check_shortening.specs.LastGame.{last_game, left_out, made_by, shows}
use Rattle.gtp_check_shortening.specs.declared.last_game.LastGame.{LastGame}
use Rattle.gtp_check_talk.specs.declared.said.Said.{Said}
use Rattle.gtp_check_texts.specs.Conversation.{line_of}
use Rattle.gtp_check_texts.specs.declared.complaint.Complaint.{Complaint}

-- ---- what an engine chose

-- whether an engine is asked for a move
abbrev pub is_genmove : CheckCommand → Bool
is_genmove (Match (Genmove colour)) = true
is_genmove (GenmoveInFull colour) = true
is_genmove _ = false

-- the vertex of the move that it made, or that it made none
abbrev pub chosen_line : Option Move → List ℕ
chosen_line None = codes "# = resign\n"
chosen_line (Some move) = concat (codes "# = " ∷ written_vertex move.vertex ∷ codes "\n" ∷ [])

-- what it chose at a `genmove`, where this was asked next
abbrev pub choice_line : Said → Said → List ℕ
choice_line said next = if is_genmove said.command then chosen_line (made_by said next) else []

abbrev pub choice_at : Option Said → Option Said → List ℕ
choice_at (Some said) (Some next) = choice_line said next
choice_at _ _ = []

-- ---- the game

-- the line of the command with this number as it was sent, and what the engine chose
abbrev pub answered_lines : Complaint → ℕ → List ℕ
answered_lines complaint number =
    line_of complaint number
    ++ choice_at (slice_get complaint.talk.now number) (slice_get complaint.talk.now (number + 1))

-- how many lines are left out, where any are
abbrev pub left_out_line : ℕ → List ℕ
left_out_line count =
    if count == 0 then [] else concat (
    codes "# earlier lines left out: " ∷ decimal count ∷
    codes " (--trials 0 shows them); this block alone may not show the mistake\n" ∷ [])

-- the lines before the faulty command whose number is one of these
abbrev pub lines_where : (ℕ → Bool) → Complaint → List ℕ
lines_where is_shown complaint =
    flat_map (answered_lines complaint) (filter is_shown (range_with_len 0 complaint.answered))

-- all of them
abbrev pub whole_lines : Complaint → List ℕ
whole_lines complaint = lines_where (λ number. true) complaint

-- which of them are shown: those of a last game, or all
abbrev pub shows_in : Option (Bor LastGame) → ℕ → Bool
shows_in None = λ number. true
shows_in (Some game) = shows game.now

-- the last game of what was asked up to the faulty command
abbrev pub game_of : Complaint → LastGame
game_of complaint = last_game (take (complaint.answered + 1) complaint.talk.now)

-- its lines before that command
abbrev pub last_game_lines : Complaint → List ℕ
last_game_lines complaint =
    left_out_line (left_out (game_of complaint)) ++ lines_where (shows (game_of complaint)) complaint
