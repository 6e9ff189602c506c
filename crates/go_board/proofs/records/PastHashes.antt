-- The hashes of a game's boards: at its beginning, by a move, by an undo, and of a board that comes back.
use Rattle.std.proofs.Common.{◌≡◌, ℕ, ◌-◌, ◌<◌, ◌≤◌, List, [], ◌∷◌, ◌++◌, length, take, refl, sym, ◌∙◌, ap}
use Rattle.std.proofs.Common.{subst, arith, inl, inr, length-append}
use Rattle.std.specs.Prelude.{slice_index}
use Rattle.std.proofs.lemmas.List.{length-take-le, length_push, take_all, get_or-take}
use Rattle.std.proofs.Math.ListN.{get_or-append}
use Rattle.std.proofs.Math.Seq.{get_or-append_seam}
use Rattle.go_base.specs.declared.colours.Colour.{Colour}
use Rattle.go_base.specs.declared.moves.Move.{Move}
use Rattle.go_base.specs.declared.vertices.Vertex.{Vertex}
use Rattle.go_board.specs.declared.board.Cell.{Cell}
use Rattle.go_board.specs.declared.rules.KoRule.{KoRule}
use Rattle.go_board.specs.declared.rules.KoRule.TheVariants.{Simple, Positional}
use Rattle.go_board.specs.Game.{GameRecord, start, board_of, first_moves, with_move}
use Rattle.go_board.specs.Hash.{hash_of}
use Rattle.go_board.specs.private.PastHashes.{AreHashesBy, added}
use Rattle.go_board.proofs.General.{earlier_or_last}
use Rattle.go_board.proofs.records.EveryGame.{board-start}
use Rattle.go_board.proofs.records.Moves.{first_moves-with_move}

-- the hash of the board after the game's first moves
hash_after : GameRecord → ℕ → ℕ
hash_after game k = hash_of game.size (board_of (first_moves k game))

pub hashes-start : (game : GameRecord) (rule : KoRule) (board : List Cell) → game.moves ≡ []
    → board ≡ start game.size game.handicap
    → AreHashesBy rule game (added rule [] (hash_of game.size board))
hashes-start game Simple board none is = refl
hashes-start game Positional board none is =
    let long = ap length none in
    record {
      long = omega (arith, long);
      each = λ k within.
          let first : k ≡ 0 = omega (arith, within, long) in
          subst (λ (j : ℕ). slice_index (hash_of game.size board ∷ []) j
          ≡ hash_of game.size (board_of (first_moves j game))) (sym first)
          (ap (λ (cells : List Cell). hash_of game.size cells) (is ∙ sym (board-start (first_moves 0 game) refl)));
    }

-- all moves of a game
all_moves : (game : GameRecord) (k : ℕ) → k ≡ length game.moves → first_moves k game ≡ game
all_moves game k is =
    ap (λ (ms : List Move). let g : GameRecord = record game { moves = ms } in g)
    (take_all k game.moves (omega (arith, is)))

pub hashes-more : (game : GameRecord) (rule : KoRule) (c : Colour) (v : Vertex) (hashes : List ℕ) (board : List Cell)
    → AreHashesBy rule game hashes → board ≡ board_of (with_move game c v)
    → AreHashesBy rule (with_move game c v) (added rule hashes (hash_of game.size board))
hashes-more game Simple c v hashes board are is = are
hashes-more game Positional c v hashes board are is =
    let next = with_move game c v in
    let hash : ℕ = hash_of game.size board in
    let longer = length_push game.moves (record { colour = c; vertex = v }) in
    let more = length-append hashes (hash ∷ []) in
    let long = are.long in
    record {
      long = omega (arith, longer, more, long);
      each = λ k within. elim (earlier_or_last k (length hashes) (omega (arith, within, longer, long))) [
        | inl earlier ↦
            get_or-append hashes (hash ∷ []) 0 k earlier
            ∙ are.each k (omega (arith, earlier, long))
            ∙ ap (λ (g : GameRecord). hash_of g.size (board_of g))
            (sym (first_moves-with_move game c v k (omega (arith, earlier, long))))
        | inr last ↦
            ap (λ (j : ℕ). slice_index (hashes ++ hash ∷ []) j) last
            ∙ get_or-append_seam hashes hash [] 0
            ∙ ap (λ (cells : List Cell). hash_of game.size cells) is
            ∙ ap (λ (g : GameRecord). hash_of g.size (board_of g))
            (sym (all_moves next k (omega (arith, last, long, longer))))
      ];
    }

pub hashes-less : (game : GameRecord) (rule : KoRule) (c : Colour) (v : Vertex) (hashes : List ℕ)
    → AreHashesBy rule (with_move game c v) hashes
    → AreHashesBy rule game (take (length hashes - 1) hashes)
hashes-less game Simple c v hashes are = ap (λ (hs : List ℕ). take (length hs - 1) hs) are
hashes-less game Positional c v hashes are =
    let longer = length_push game.moves (record { colour = c; vertex = v }) in
    let long = are.long in
    let few : length hashes - 1 ≤ length hashes = omega arith in
    let shorter = length-take-le (length hashes - 1) hashes few in
    record {
      long = omega (arith, shorter, long, longer);
      each = λ k within.
          get_or-take (length hashes - 1) hashes k 0 (omega (arith, within, long, longer))
          ∙ are.each k (omega (arith, within, longer))
          ∙ ap (λ (g : GameRecord). hash_of g.size (board_of g)) (first_moves-with_move game c v k within);
    }

-- the last one
pub record IsLastHash (game : GameRecord) (hashes : List ℕ) : Type 0 where
  pub some : 0 < length hashes
  pub last : slice_index hashes (length hashes - 1) ≡ hash_of game.size (board_of game)

pub last-hash : (game : GameRecord) (rule : KoRule) (hashes : List ℕ) → rule ≡ Positional
    → AreHashesBy rule game hashes → IsLastHash game hashes
last-hash game Simple hashes is are = cc
last-hash game Positional hashes is are =
    let long = are.long in
    let end : length hashes - 1 ≡ length game.moves = omega (arith, long) in
    record {
      some = omega (arith, long);
      last =
          are.each (length hashes - 1) (omega (arith, end))
          ∙ ap (λ (g : GameRecord). hash_of g.size (board_of g)) (all_moves game (length hashes - 1) end);
    }
