-- The hash of the board after a play that takes nothing, by what a game keeps.
use Rattle.std.proofs.Common.{◌≡◌, ℕ, ◌+◌, ◌-◌, ◌%◌, ◌^◌, List, length, sym, ◌∙◌, ap, subst}
use Rattle.std.specs.Prelude.{slice_index}
use Rattle.go_base.specs.Colour.{other}
use Rattle.go_base.specs.declared.colours.Colour.{Colour}
use Rattle.go_board.specs.declared.board.Cell.{Cell}
use Rattle.go_board.specs.declared.board.Cell.TheVariants.{Empty}
use Rattle.go_board.specs.declared.game.Game.TheInside.{Inside}
use Rattle.go_board.specs.declared.rules.KoRule.TheVariants.{Positional}
use Rattle.go_board.specs.Board.{at}
use Rattle.go_board.specs.Game.{GameRecord, board_of}
use Rattle.go_board.specs.Hash.{hash_of, stone_key}
use Rattle.go_board.specs.Play.{play}
use Rattle.go_board.specs.private.Kept.{record_of, IsKept}
use Rattle.go_board.specs.private.Legal.{TakesAny}
use Rattle.go_board.proofs.KeptHashes.{hash-alone}
use Rattle.go_board.proofs.records.EveryGame.{IsOrderly-game, framed-game}
use Rattle.go_board.proofs.records.PastHashes.{IsLastHash, last-hash}

-- the last hash that a game keeps
pub kept-last : (f : Inside) (game : GameRecord) → IsKept f → record_of f ≡ game → game.rule ≡ Positional
    → IsLastHash (record_of f) f.hashes
kept-last f game kept same is =
    last-hash (record_of f) f.rule f.hashes (ap (λ (g : GameRecord). g.rule) same ∙ is) kept.hashes_are

pub alone-after : (f : Inside) (game : GameRecord) (c d : Colour) (place point last key : ℕ) → IsKept f
    → record_of f ≡ game → game.rule ≡ Positional → at (board_of game) point ≡ Empty → place ≡ point → d ≡ other c
    → ¬ TakesAny f.chains d place → last ≡ slice_index f.hashes (length f.hashes - 1) → key ≡ stone_key c place
    → (last + key) % 2 ^ 64 ≡ hash_of game.size (play (board_of game) c point)
alone-after f game c d place point last key kept same rule empty here other_is none last_is key_is =
    let mine : GameRecord = record_of f in
    let still : at (board_of mine) place ≡ Empty =
    ap (λ (g : GameRecord). at (board_of g) place) same ∙ ap (λ (q : ℕ). at (board_of game) q) here ∙ empty in
    let takes_none : ¬ TakesAny (board_of mine) (other c) place =
    subst (λ (cells : List Cell). ¬ TakesAny cells (other c) place) kept.board_is
    (subst (λ (e : Colour). ¬ TakesAny f.chains e place) other_is none) in
    ap (λ (n : ℕ). (n + key) % 2 ^ 64) (last_is ∙ (kept-last f game kept same rule).last)
    ∙ ap (λ (n : ℕ). (hash_of mine.size (board_of mine) + n) % 2 ^ 64) key_is
    ∙ sym (hash-alone mine.size (board_of mine) c place (framed-game mine kept.game) still
    (IsOrderly-game mine kept.game).free takes_none)
    ∙ ap (λ (g : GameRecord). hash_of g.size (play (board_of g) c place)) same
    ∙ ap (λ (q : ℕ). hash_of game.size (play (board_of game) c q)) here
