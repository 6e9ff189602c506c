-- What the fields of a game keep when it begins, by a move, and by an undo.
use Rattle.std.proofs.Common.{◌≡◌, ℕ, ◌+◌, ◌-◌, ◌<◌, ◌≤◌, List, [], ◌∷◌, ◌++◌, length, refl, sym, ◌∙◌, ap, subst, arith}
use Rattle.std.proofs.Common.{length-append, take}
use Rattle.std.specs.Prelude.{ℤ, ◌⊎◌, ◌↔◌, Bool, IsTrue, Option, Some, None, if◌then◌else◌, slice_get}
use Rattle.arrayvec.specs.ArrayVec.{ArrayVec}
use Rattle.go_base.specs.Handicap.{AllowsHandicap}
use Rattle.go_base.specs.Komi.{IsKomi}
use Rattle.go_base.specs.Size.{IsSize}
use Rattle.go_base.specs.declared.colours.Colour.{Colour}
use Rattle.go_base.specs.declared.colours.Colour.TheVariants as colour
use Rattle.go_base.specs.declared.moves.Move.{Move}
use Rattle.go_base.specs.declared.vertices.Vertex.{Vertex}
use Rattle.go_board.specs.Board.{at}
use Rattle.go_board.specs.declared.board.Cell.TheVariants.{Empty}
use Rattle.go_board.specs.private.Frame.{HasSize}
use Rattle.go_board.specs.Game.{GameRecord, start, board_of, with_move, after_vertex, IsGame, IsLegal, RepeatsLast}
use Rattle.go_board.specs.private.Kept.{record_of, IsKept}
use Rattle.go_board.specs.private.Ko.{IsKo, IsKoAfter, TakesOnly}
use Rattle.go_board.specs.private.ChainId.{AreFree}
use Rattle.go_board.specs.private.PastHashes.{AreHashes, AreHashesBy, added}
use Rattle.go_board.specs.Hash.{hash_of}
use Rattle.go_board.specs.Play.{play}
use Rattle.go_board.specs.private.TakenStack.{stack_of, taken_places, taken_at, IsAfterMove, IsUnmade}
use Rattle.go_board.specs.Taken.{same_colour, taken, captures_of_vertex, taken_from}
use Rattle.go_board.specs.declared.board.Cell.{Cell}
use Rattle.go_board.specs.declared.game.Game.TheInside.{Inside}
use Rattle.go_board.specs.declared.ko.Ko.{Ko}
use Rattle.go_board.specs.declared.taken_stack.TakenStone.{TakenStone}
use Rattle.go_board.specs.declared.rules.KoRule.{KoRule}
use Rattle.go_board.specs.declared.rules.KoRule.TheVariants as rule
use Rattle.go_board.proofs.records.Moves.{IsGame-with_move, IsGame-komi, with-last, IsBeforeMove-from}
use Rattle.go_board.proofs.ko_rules.KoPoints.{IsKo-start}
use Rattle.go_board.proofs.records.EveryGame.{IsOrderly-game, framed-game, board-start, stack-start, board-with_move}
use Rattle.go_board.proofs.records.EveryGame.{legal-open, stack-few}
use Rattle.go_board.proofs.records.TakenStack.{stack_of-with_move, length-taken}
use Rattle.go_board.proofs.records.TakenCounts.{taken-with_move, taken-without_move, taken-enough, taken-few}
use Rattle.go_board.proofs.records.TakenCounts.{captures-places}
use Rattle.go_board.proofs.records.PastHashes.{hashes-start, hashes-more, hashes-less}

-- size and freedom of the board follow from the game
kept-from : (f : Inside) → IsGame (record_of f) → f.chains ≡ board_of (record_of f)
    → IsKo (record_of f) f.ko
    → f.stack ≡ stack_of (record_of f) → f.taken_by_black ≡ taken (record_of f) colour.Black
    → f.taken_by_white ≡ taken (record_of f) colour.White → AreHashes (record_of f) f.hashes → IsKept f
kept-from f g board_is ko stack black white hashes =
    let o = IsOrderly-game (record_of f) g in
    record {
      game = g;
      board_is = board_is;
      has_size = subst (HasSize f.size) (sym board_is) o.has_size;
      free = subst AreFree (sym board_is) o.free;
      ko_is = ko;
      stack_is = stack;
      black_is = black;
      white_is = white;
      hashes_are = hashes;
    }

-- ---- a game without moves

slice_get-nil : {A : Type 0} (X : Type 0) (k : ℕ) (x : A) → slice_get [] k ≡ Some x → X
slice_get-nil X k x e = cc

none-taken : (game : GameRecord) (d : Colour) → game.moves ≡ [] → 0 ≡ taken game d
unfolding taken
none-taken game d none = sym (ap (λ (ms : List Move). taken_from (start game.size game.handicap) d ms) none)

pub IsKept-start : (size : ℕ) (komi : ℤ) (rule : KoRule) (handicap : ℕ) (chains : List Cell) (stack : List TakenStone)
    (moves : ArrayVec Move) (hashes : List ℕ)
    → IsSize size → IsKomi komi
    → (handicap ≡ 0) ⊎ AllowsHandicap size handicap → chains ≡ start size handicap
    → stack ≡ [] → moves.items ≡ [] → hashes ≡ added rule [] (hash_of size chains)
    → IsKept (record {
      size = size;
      komi = komi;
      rule = rule;
      handicap = handicap;
      moves = moves;
      chains = chains;
      ko = None;
      stack = stack;
      taken_by_black = 0;
      taken_by_white = 0;
      hashes = hashes;
    })
IsKept-start size komi rule handicap chains stack moves hashes is_size is_komi allowed board_is gone none begun =
    let game : GameRecord =
    record { size = size; komi = komi; rule = rule; handicap = handicap; moves = moves.items } in
    let g : IsGame game = record {
      size = is_size;
      komi = is_komi;
      handicap = allowed;
      few = let long = ap length none in omega (arith, long);
      legal = λ k move e. slice_get-nil _ k move (ap (λ (ms : List Move). slice_get ms k) (sym none) ∙ e);
    } in
    kept-from _ g (board_is ∙ sym (board-start game none)) (IsKo-start game none) (gone ∙ sym (stack-start game none))
    (none-taken game colour.Black none) (none-taken game colour.White none)
    (subst (λ (hs : List ℕ). AreHashes game hs) (sym begun) (hashes-start game rule chains none board_is))

-- ---- another komi

-- no board changes
hashes-komi : (rule : KoRule) (game : GameRecord) (komi : ℤ) (hashes : List ℕ) → AreHashesBy rule game hashes
    → AreHashesBy rule (record game { komi = komi }) hashes
hashes-komi rule.Simple game komi hashes are = are
hashes-komi rule.Positional game komi hashes are = record { long = are.long; each = are.each }

pub IsKept-komi : (f : Inside) (komi : ℤ) → IsKomi komi → IsKept f → IsKept (record f { komi = komi })
unfolding taken stack_of
IsKept-komi f komi is kept = record {
  game = IsGame-komi (record_of f) komi is kept.game;
  board_is = kept.board_is;
  has_size = kept.has_size;
  free = kept.free;
  ko_is = λ c p empty. (
    (λ r. (kept.ko_is c p empty).0 (record { moved = r.moved; same = r.same })),
    (λ h. let r = (kept.ko_is c p empty).1 h in record { moved = r.moved; same = r.same }),
  );
  stack_is = kept.stack_is;
  black_is = kept.black_is;
  white_is = kept.white_is;
  hashes_are = hashes-komi f.rule (record_of f) komi f.hashes kept.hashes_are;
}

-- ---- a move

-- there is room on the stack for what a move takes
pub room-for_move : (f : Inside) (c : Colour) (v : Vertex) → IsKept f → length f.moves.items < 2000
    → IsLegal (record_of f) c v
    → length f.stack + captures_of_vertex f.chains c v ≤ 2009
room-for_move f c v kept room legal =
    let game = record_of f in
    let h : IsGame (with_move game c v) = IsGame-with_move game c v kept.game room legal in
    let few = stack-few (with_move game c v) h in
    let more = grown game c v in
    subst (λ (b : List Cell). length f.stack + captures_of_vertex b c v ≤ 2009) (sym kept.board_is)
    (subst (λ (ts : List TakenStone). length ts + captures_of_vertex (board_of game) c v ≤ 2009) (sym kept.stack_is)
    (omega (arith, few, more)))
  where
    grown : (game : GameRecord) (c : Colour) (v : Vertex)
        → length (stack_of (with_move game c v)) ≡ length (stack_of game) + captures_of_vertex (board_of game) c v
    grown game c v =
        let places = taken_places (board_of game) c v in
        let long =
        ap length (stack_of-with_move game c v)
        ∙ length-append (stack_of game) (taken_at (length game.moves) places) in
        let same = length-taken (length game.moves) places in
        let is = captures-places (board_of game) c v in
        omega (arith, long, same, is)

pub taken-most : (f : Inside) (d : Colour) (t : ℕ) → IsKept f → t ≡ taken (record_of f) d → t ≤ 2009
taken-most f d t kept is = let few = taken-few (record_of f) d in
    let most = stack-few (record_of f) kept.game in
    omega (arith, few, most, is)

pub IsKept-play : (f : Inside) (c : Colour) (v : Vertex) (chains : List Cell) (ko : Option Ko) (stack : List TakenStone)
    (now black white : ℕ) (moves : ArrayVec Move) (hashes : List ℕ) → IsKept f → length f.moves.items < 2000
    → IsLegal (record_of f) c v → moves.items ≡ f.moves.items ++ record { colour = c; vertex = v } ∷ []
    → chains ≡ after_vertex f.chains c v
    → stack ≡ f.stack ++ taken_at (length f.moves.items) (taken_places f.chains c v)
    → now ≡ captures_of_vertex f.chains c v
    → black ≡ f.taken_by_black + (if same_colour c colour.Black then now else 0)
    → white ≡ f.taken_by_white + (if same_colour c colour.White then now else 0) → IsKoAfter moves.items stack ko
    → hashes ≡ added f.rule f.hashes (hash_of f.size chains)
    → IsKept (record f {
      moves = moves;
      chains = chains;
      ko = ko;
      stack = stack;
      taken_by_black = black;
      taken_by_white = white;
      hashes = hashes;
    })
IsKept-play f c v chains ko stack now black white moves hashes kept room legal items board_is stack_is now_is black_is
    white_is ko_is more =
    let game = record_of f in
    let next : GameRecord = record game { moves = moves.items } in
    let same : with_move game c v ≡ next =
    ap (λ (ms : List Move). let g : GameRecord = record game { moves = ms } in g) (sym items) in
    let g : IsGame next = subst IsGame same (IsGame-with_move game c v kept.game room legal) in
    let board : chains ≡ board_of next =
    board_is ∙ ap (λ (b : List Cell). after_vertex b c v) kept.board_is ∙ sym (board-with_move game c v)
    ∙ ap board_of same in
    let stones : stack ≡ stack_of next =
    stack_is ∙ ap (λ (ts : List TakenStone). ts ++ taken_at (length f.moves.items) (taken_places f.chains c v))
    kept.stack_is
    ∙ ap (λ (b : List Cell). stack_of game ++ taken_at (length f.moves.items) (taken_places b c v)) kept.board_is
    ∙ sym (stack_of-with_move game c v) ∙ ap stack_of same in
    let took : now ≡ captures_of_vertex (board_of game) c v =
    now_is ∙ ap (λ (b : List Cell). captures_of_vertex b c v) kept.board_is in
    kept-from _ g board (ko_is next g refl stones) stones
    (taken-with_move game c v colour.Black f.taken_by_black now black kept.black_is took black_is
    ∙ ap (λ (h : GameRecord). taken h colour.Black) same)
    (taken-with_move game c v colour.White f.taken_by_white now white kept.white_is took white_is
    ∙ ap (λ (h : GameRecord). taken h colour.White) same)
    (subst (λ (h : GameRecord). AreHashes h hashes) same (subst (λ (hs : List ℕ). AreHashes (with_move game c v) hs)
    (sym more) (hashes-more game f.rule c v f.hashes chains kept.hashes_are (board ∙ ap board_of (sym same)))))

-- ---- an undo

pub after-last : (f : Inside) (ms : List Move) (c : Colour) (v : Vertex) → IsKept f
    → f.moves.items ≡ ms ++ record { colour = c; vertex = v } ∷ []
    → IsAfterMove f.chains f.stack (record { colour = c; vertex = v }) (length ms)
after-last f ms c v kept ends =
    let game = record_of f in
    let shorter : GameRecord =
    record { size = f.size; komi = f.komi; rule = f.rule; handicap = f.handicap; moves = ms } in
    let same : with_move shorter c v ≡ game = with-last game ms (record { colour = c; vertex = v }) ends in
    let b = IsBeforeMove-from shorter c v (subst IsGame (sym same) kept.game) in
    let o = IsOrderly-game shorter b.game_is in
    record {
      before = board_of shorter;
      earlier = stack_of shorter;
      framed = framed-game shorter b.game_is;
      empty = legal-open shorter c v b.legal;
      board_is = kept.board_is ∙ ap board_of (sym same) ∙ board-with_move shorter c v;
      stones_are = kept.stack_is ∙ ap stack_of (sym same) ∙ stack_of-with_move shorter c v;
      numbers = o.numbers;
    }

-- what the move took is known
were-before : (f : Inside) (ms : List Move) (c : Colour) (v : Vertex) (chains : List Cell) (stack : List TakenStone)
    (now : ℕ) (kept : IsKept f)
    → f.moves.items ≡ ms ++ record { colour = c; vertex = v } ∷ []
    → IsUnmade f.chains f.stack (record { colour = c; vertex = v }) (length ms) chains stack now
    → (chains
    ≡ board_of (record { size = f.size; komi = f.komi; rule = f.rule; handicap = f.handicap; moves = ms }))
    × (stack ≡ stack_of (record { size = f.size; komi = f.komi; rule = f.rule; handicap = f.handicap; moves = ms }))
    × (now ≡ captures_of_vertex
    (board_of (record { size = f.size; komi = f.komi; rule = f.rule; handicap = f.handicap; moves = ms })) c v)
unfolding after-last
were-before f ms c v chains stack now kept ends back = back (after-last f ms c v kept ends)

pub enough-taken : (f : Inside) (ms : List Move) (c : Colour) (v : Vertex) (chains : List Cell)
    (stack : List TakenStone)
    (now t : ℕ) (d : Colour) → IsKept f
    → f.moves.items ≡ ms ++ record { colour = c; vertex = v } ∷ []
    → IsUnmade f.chains f.stack (record { colour = c; vertex = v }) (length ms) chains stack now
    → t ≡ taken (record_of f) d
    → (if same_colour c d then now else 0) ≤ t
enough-taken f ms c v chains stack now t d kept ends back is =
    let shorter : GameRecord =
    record { size = f.size; komi = f.komi; rule = f.rule; handicap = f.handicap; moves = ms } in
    let same : with_move shorter c v ≡ record_of f =
    with-last (record_of f) ms (record { colour = c; vertex = v }) ends in
    let were = were-before f ms c v chains stack now kept ends back in
    taken-enough shorter c v d t now (is ∙ ap (λ (h : GameRecord). taken h d) (sym same)) were.2

pub IsKept-undo : (f : Inside) (c : Colour) (v : Vertex) (chains : List Cell) (ko : Option Ko) (stack : List TakenStone)
    (now black white : ℕ) (moves : ArrayVec Move) (hashes : List ℕ) → IsKept f
    → f.moves.items ≡ moves.items ++ record { colour = c; vertex = v } ∷ []
    → IsUnmade f.chains f.stack (record { colour = c; vertex = v })
    (length moves.items) chains stack now
    → black ≡ f.taken_by_black - (if same_colour c colour.Black then now else 0)
    → white ≡ f.taken_by_white - (if same_colour c colour.White then now else 0) → IsKoAfter moves.items stack ko
    → hashes ≡ take (length f.hashes - 1) f.hashes
    → IsKept (record f {
      moves = moves;
      chains = chains;
      ko = ko;
      stack = stack;
      taken_by_black = black;
      taken_by_white = white;
      hashes = hashes;
    })
IsKept-undo f c v chains ko stack now black white moves hashes kept ends back black_is white_is ko_is less =
    let shorter : GameRecord =
    record { size = f.size; komi = f.komi; rule = f.rule; handicap = f.handicap; moves = moves.items } in
    let same : with_move shorter c v ≡ record_of f =
    with-last (record_of f) moves.items (record { colour = c; vertex = v }) ends in
    let b = IsBeforeMove-from shorter c v (subst IsGame (sym same) kept.game) in
    let were = were-before f moves.items c v chains stack now kept ends back in
    kept-from _ b.game_is were.0 (ko_is shorter b.game_is refl were.1) were.1
    (taken-without_move shorter c v colour.Black f.taken_by_black now black
    (kept.black_is ∙ ap (λ (h : GameRecord). taken h colour.Black) (sym same)) were.2 black_is)
    (taken-without_move shorter c v colour.White f.taken_by_white now white
    (kept.white_is ∙ ap (λ (h : GameRecord). taken h colour.White) (sym same)) were.2 white_is)
    (subst (λ (hs : List ℕ). AreHashes shorter hs) (sym less) (hashes-less shorter f.rule c v f.hashes
    (subst (λ (h : GameRecord). AreHashesBy f.rule h f.hashes) (sym same) kept.hashes_are)))

-- ---- the ko

-- at the ko point a play repeats the board where it takes only the stone that captured there
pub repeats-from : (game : GameRecord) (board : List Cell) (kept : Option Ko) (ko : Ko) (c : Colour) (p stone : ℕ)
    (b : Bool) → kept ≡ Some ko → IsKo game kept → board ≡ board_of game
    → at (board_of game) p ≡ Empty → p ≡ ko.point → stone ≡ ko.stone → IsTrue b ↔ TakesOnly board c p stone
    → IsTrue b ↔ RepeatsLast game (play (board_of game) c p)
repeats-from game board kept ko c p stone b same ko_is board_is empty here stone_is takes_any =
    let is = (subst (λ (k : Option Ko). IsKo game k) same ko_is) c p empty in (
      (λ yes. is.1 (
        here,
        subst (λ (cs : List Cell). TakesOnly cs c p ko.stone) board_is
            (subst (λ (s : ℕ). TakesOnly board c p s) stone_is (takes_any.0 yes)),
      )),
      (λ r. takes_any.1 (subst (λ (s : ℕ). TakesOnly board c p s) (sym stone_is)
          (subst (λ (cs : List Cell). TakesOnly cs c p ko.stone) (sym board_is) (is.0 r).1))),
    )
