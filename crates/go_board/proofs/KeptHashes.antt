-- The hash of a board after a play, from that of the board before it.
use Rattle.std.proofs.Common.{◌≡◌, ℕ, ◌+◌, ◌%◌, ◌^◌, List, [], refl, sym, ◌∙◌, ap, subst, arith}
use Rattle.std.specs.List.{sum_by}
use Rattle.std.proofs.Math.Nat.{mod-add-mod}
use Rattle.go_base.specs.Colour.{other}
use Rattle.go_base.specs.declared.colours.Colour.{Colour}
use Rattle.go_base.specs.declared.colours.Colour.TheVariants as colour
use Rattle.go_base.specs.declared.vertices.Vertex.TheVariants.{At}
use Rattle.go_board.specs.declared.board.Cell.{Cell}
use Rattle.go_board.specs.declared.board.Cell.TheVariants.{Empty}
use Rattle.go_board.specs.private.ChainId.{AreFree}
use Rattle.go_board.specs.private.Frame.{IsFramed}
use Rattle.go_board.specs.private.Legal.{TakesAny}
use Rattle.go_board.specs.Board.{at, stone, IsStone}
use Rattle.go_board.specs.Game.{GameRecord, IsGame, IsLegal, board_of, with_move, without_last}
use Rattle.go_board.specs.Hash.{stone_key, key_of, size_key, hash_of}
use Rattle.go_board.specs.LastTaken.{AreTakenByLast}
use Rattle.go_board.specs.Play.{play}
use Rattle.go_board.proofs.liberties.PseudoLiberties.{captured-beside, captured-other}
use Rattle.go_board.proofs.StoneWeights.{AreTakenBy, play-weighs, weight}
use Rattle.go_board.proofs.Sums.{total}
use Rattle.go_board.specs.KeptHash.{HashesFollowPlays}
use Rattle.go_board.proofs.records.EveryGame.{board-with_move, framed-game}
use Rattle.go_board.proofs.records.Moves.{without_last-with_move}
use Rattle.go_board.proofs.undo.LastTaken.{captured-gone, gone-captured}

stone-keys : (c : Colour) (q : ℕ) → key_of (stone c) q ≡ stone_key c q
stone-keys colour.Black q = refl
stone-keys colour.White q = refl

keys-listed : (c : Colour) (qs : List ℕ) → sum_by (key_of (stone c)) qs ≡ sum_by (stone_key c) qs
keys-listed colour.Black qs = refl
keys-listed colour.White qs = refl

-- the keys of all stones are their weight
pub hash-weight : (size : ℕ) (board : List Cell) → hash_of size board ≡ (size_key size + weight key_of board) % 2 ^ 64
unfolding hash_of total
hash-weight size board = refl

-- what was taken by the last move is what the play takes
pub taken-by_play : (game : GameRecord) (c : Colour) (p : ℕ) (taken : List ℕ) → IsGame game → IsLegal game c (At p)
    → AreTakenByLast (with_move game c (At p)) taken → AreTakenBy (board_of game) c p taken
taken-by_play game c p taken g legal a =
    let board = board_of game in
    let new : board_of (with_move game c (At p)) ≡ play board c p = board-with_move game c (At p) in
    let back : without_last (with_move game c (At p)) ≡ game = without_last-with_move game c (At p) in
    record {
      rising = a.in_order;
      each = λ q found.
          let t = (a.each q).0 found in
          gone-captured board c p q legal.empty (record {
            stood = subst (λ (before : GameRecord). IsStone (at (board_of before) q)) back t.stood;
            gone = ap (λ (cells : List Cell). at cells q) (sym new) ∙ t.gone;
          });
      all = λ q captured.
          let t = captured-gone board c p q legal.empty captured in
          (a.each q).1 (record {
            stood = subst (λ (before : GameRecord). IsStone (at (board_of before) q)) (sym back) t.stood;
            gone = ap (λ (cells : List Cell). at cells q) new ∙ t.gone;
          });
    }

-- the law
pub hashes-follow : HashesFollowPlays
hashes-follow game c p taken g legal a =
    let board = board_of game in
    let new : board_of (with_move game c (At p)) ≡ play board c p = board-with_move game c (At p) in
    let removed : ℕ = sum_by (stone_key (other c)) taken in
    let sums = play-weighs key_of board c p taken (λ q. refl) (framed-game game g).length_is legal.empty
    (taken-by_play game c p taken g legal a) in
    let all : size_key game.size + weight key_of (play board c p) + removed
    ≡ size_key game.size + weight key_of board + stone_key c p =
    omega (arith, sums, keys-listed (other c) taken, stone-keys c p) in
    ap (λ (hash : ℕ). (hash + removed) % 2 ^ 64) (ap (hash_of game.size) new ∙ hash-weight game.size (play board c p))
    ∙ mod-add-mod (size_key game.size + weight key_of (play board c p)) (2 ^ 64) removed
    ∙ ap (λ (sum : ℕ). sum % 2 ^ 64) all
    ∙ sym (mod-add-mod (size_key game.size + weight key_of board) (2 ^ 64) (stone_key c p))
    ∙ ap (λ (hash : ℕ). (hash + stone_key c p) % 2 ^ 64) (sym (hash-weight game.size board))

-- a play that takes nothing adds the key of its stone
pub hash-alone : (size : ℕ) (board : List Cell) (c : Colour) (p : ℕ) → IsFramed board → at board p ≡ Empty
    → AreFree board → ¬ TakesAny board (other c) p
    → hash_of size (play board c p) ≡ (hash_of size board + stone_key c p) % 2 ^ 64
hash-alone size board c p framed empty are_free none =
    let are : AreTakenBy board c p [] = record {
      rising = λ i j d _ below. absurd (omega (arith, below));
      each = λ q found. let below = found.1 in absurd (omega (arith, below));
      all = λ q taken.
          let found = captured-beside board c p q empty are_free taken in
          absurd (none (record {
            place = found.place;
            neighbours = found.neighbours;
            in_atari = (captured-other board c p found.place empty).0 found.captured;
          }));
    } in
    let sums = play-weighs key_of board c p [] (λ q. refl) framed.length_is empty are in
    let all : size_key size + weight key_of (play board c p) ≡ size_key size + weight key_of board + stone_key c p =
    omega (arith, sums, stone-keys c p) in
    hash-weight size (play board c p)
    ∙ ap (λ (sum : ℕ). sum % 2 ^ 64) all
    ∙ sym (mod-add-mod (size_key size + weight key_of board) (2 ^ 64) (stone_key c p))
    ∙ ap (λ (hash : ℕ). (hash + stone_key c p) % 2 ^ 64) (sym (hash-weight size board))
