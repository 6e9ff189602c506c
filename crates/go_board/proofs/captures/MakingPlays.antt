-- A play on a board with chains.
use Rattle.std.proofs.Common.{◌≡◌, ℕ, zero, suc, add-one, ◌+◌, ◌<◌, List, [], ◌∷◌, ◌++◌, length, refl, sym, ◌∙◌, ap, subst}
use Rattle.std.proofs.Common.{arith, inl, inr, Bool, false, cond}
use Rattle.std.specs.Prelude.{◌⊎◌, ◌↔◌, filter, count_by, IsTrue, nat_eq}
use Rattle.std.specs.List.{range_with_len}
use Rattle.std.proofs.lemmas.Bool.{false≢true}
use Rattle.std.proofs.lemmas.Bool.Decides.{nat_tests}
use Rattle.std.proofs.lemmas.List.{ext_get_or, append-nil}
use Rattle.std.proofs.lemmas.List.FromFn.{length-map-range_with_len}
use Rattle.std.proofs.Math.ListN.{set}
use Rattle.go_base.specs.Colour.{other}
use Rattle.go_base.specs.declared.colours.Colour.{Colour}
use Rattle.go_board.specs.Board.{at, stone}
use Rattle.go_board.specs.Chain.{Joined, IsCaptured}
use Rattle.go_board.specs.decisions.Chain.{captured?}
use Rattle.go_board.specs.Play.{is_captured, left_at, without_captured, captured_count, play, captures}
use Rattle.go_board.specs.private.ChainId.{id_of, AreChains, AreFree, pseudo_liberties}
use Rattle.go_board.specs.private.NamedIds.{TouchesCaptured}
use Rattle.go_board.specs.private.TakenStack.{captured_places, AreNoneCaptured}
use Rattle.go_board.specs.declared.board.Cell.{Cell}
use Rattle.go_board.specs.declared.board.Cell.TheVariants.{Edge, Empty}
use Rattle.go_board.proofs.captures.CapturedStones.{holds-no, count_by-more, places-more, at-without_captured}
use Rattle.go_board.proofs.ids.Paths.{Joined-then, Joined-same}
use Rattle.go_board.proofs.liberties.PseudoLiberties.{free-count, captured-beside}

-- ---- stones without a liberty

-- a whole chain is captured
pub captured-joined : (board : List Cell) (c : Colour) (p q : ℕ) → Joined board p q → IsCaptured board c p
    → IsCaptured board c q
captured-joined board c p q path h = (
  Joined-same path ∙ h.0,
  λ free. h.1 (record { point = free.point; joined = Joined-then path free.joined; beside = free.beside }),
)

-- the code's test of a chain without a liberty
pub captured-test : (board : List Cell) (ids : List ℕ) (c : Colour) (p id counted : ℕ)
    → AreChains board ids → at board p ≡ stone c → id ≡ id_of ids p
    → counted ≡ pseudo_liberties board ids id → (counted ≡ 0) ↔ IsCaptured board c p
captured-test board ids c p id counted chains held is e =
    let known = free-count board ids p chains.framed chains.ids (c, held) in
    let same : counted ≡ pseudo_liberties board ids (id_of ids p) =
    e ∙ ap (pseudo_liberties board ids) is in (
      (λ none. (held, λ free. let more = known.0 free in absurd (omega (arith, none, same, more)))),
      (λ h. zero_or (pseudo_liberties board ids (id_of ids p)) same (λ more. h.1 (known.1 more))),
    )
  where
    zero_or : {m : ℕ} (n : ℕ) → m ≡ n → ((0 < n) → ⊥) → m ≡ 0
    zero_or n e h = elim (two n) [ inl z ↦ e ∙ z | inr more ↦ absurd (h more) ]
      where
        two : (n : ℕ) → (n ≡ 0) ⊎ (0 < n)
        two n = grind arith

pub is_captured-code : (board : List Cell) (ids : List ℕ) (c : Colour) (p id counted : ℕ)
    → AreChains board ids → at board p ≡ stone c → id ≡ id_of ids p
    → counted ≡ pseudo_liberties board ids id → IsTrue (nat_eq counted 0) ↔ IsCaptured board c p
is_captured-code board ids c p id counted chains held is e =
    let known = captured-test board ids c p id counted chains held is e in
    (λ h. known.0 (zero-from counted h), λ h. zero-to counted (known.1 h))
  where
    zero-from : (n : ℕ) → IsTrue (nat_eq n 0) → n ≡ 0
    zero-from n h = grind (arith, nat_tests)

    zero-to : (n : ℕ) → n ≡ 0 → IsTrue (nat_eq n 0)
    zero-to n h = grind (arith, nat_tests)

-- ---- where nothing is taken

pub none-captured : (board : List Cell) (c : Colour) (p : ℕ) → at board p ≡ Empty → AreFree board
    → AreNoneCaptured (set board p (stone c)) (other c) p → (q : ℕ) → ¬ IsCaptured (set board p (stone c)) (other c) q
none-captured board c p empty free no_captured q h =
    let taken = captured-beside board c p q empty free h in
    no_captured taken.place taken.neighbours taken.captured

without-none : (board : List Cell) (c : Colour) → ((q : ℕ) → ¬ IsCaptured board c q) → without_captured board c ≡ board
unfolding without_captured
without-none board c free =
    ext_get_or Edge (without_captured board c) board (length-map-range_with_len (left_at board c) 0 (length board))
    (λ q _. at-without_captured board c q
    ∙ ap (λ (b : Bool). cond b Empty (at board q)) (holds-no (captured? board c q) (free q)))

places-none : (p : ℕ → Bool) (n : ℕ) → ((k : ℕ) → p k ≡ false) → filter p (range_with_len 0 n) ≡ []
places-none p zero h = refl
places-none p (suc n) h =
    rw add-one at (places-more p n) ∙ ap (λ (b : Bool). filter p (range_with_len 0 n) ++ cond b (n ∷ []) []) (h n)
    ∙ append-nil (filter p (range_with_len 0 n)) ∙ places-none p n h

count-none : (p : ℕ → Bool) (n : ℕ) → ((k : ℕ) → p k ≡ false) → count_by p (range_with_len 0 n) ≡ 0
count-none p zero h = refl
count-none p (suc n) h =
    let more : count_by p (range_with_len 0 (suc n)) ≡ count_by p (range_with_len 0 n) + cond (p n) 1 0 =
    rw add-one at (count_by-more p n) in
    let rest = count-none p n h in
    let here = no_one (p n) (h n) in
    omega (arith, more, rest, here)
  where
    no_one : (b : Bool) → b ≡ false → cond {A = ℕ} b 1 0 ≡ 0
    no_one b e = ap (λ (b : Bool). cond b 1 0) e

pub play-none : (board : List Cell) (c : Colour) (p : ℕ) → at board p ≡ Empty → AreFree board
    → AreNoneCaptured (set board p (stone c)) (other c) p → play board c p ≡ set board p (stone c)
unfolding play
play-none board c p empty free no_captured =
    without-none (set board p (stone c)) (other c) (none-captured board c p empty free no_captured)

pub captures-none : (board : List Cell) (c : Colour) (p : ℕ) → at board p ≡ Empty → AreFree board
    → AreNoneCaptured (set board p (stone c)) (other c) p → captures board c p ≡ 0
unfolding captures captured_count
captures-none board c p empty free no_captured =
    count-none (is_captured (set board p (stone c)) (other c)) (length (set board p (stone c)))
    (λ q. holds-no (captured? (set board p (stone c)) (other c) q) (none-captured board c p empty free no_captured q))

pub places-empty : (board : List Cell) (c : Colour) (p : ℕ) → at board p ≡ Empty → AreFree board
    → AreNoneCaptured (set board p (stone c)) (other c) p
    → captured_places (set board p (stone c)) (other c) ≡ []
places-empty board c p empty free no_captured =
    places-none (is_captured (set board p (stone c)) (other c)) (length (set board p (stone c)))
    (λ q. holds-no (captured? (set board p (stone c)) (other c) q) (none-captured board c p empty free no_captured q))

-- a fact of them
pub from_code : (board cells : List Cell) (c theirs : Colour) (p : ℕ) → cells ≡ set board p (stone c) → theirs ≡ other c
    → (P : List Cell → Colour → Type 0) → P cells theirs → P (set board p (stone c)) (other c)
from_code board cells c theirs p e f P h =
    subst (λ (t : Colour). P (set board p (stone c)) t) f (subst (λ (b : List Cell). P b theirs) e h)

pub to_code : (board cells : List Cell) (c theirs : Colour) (p : ℕ) → cells ≡ set board p (stone c) → theirs ≡ other c
    → (P : List Cell → Colour → Type 0) → P (set board p (stone c)) (other c) → P cells theirs
to_code board cells c theirs p e f P h =
    subst (λ (t : Colour). P cells t) (sym f) (subst (λ (b : List Cell). P b (other c)) (sym e) h)

pub play-code : (board cells : List Cell) (c theirs : Colour) (p : ℕ) → cells ≡ set board p (stone c)
    → theirs ≡ other c → without_captured cells theirs ≡ play board c p
unfolding play
play-code board cells c theirs p e f =
    ap (λ (b : List Cell). without_captured b theirs) e ∙ ap (without_captured (set board p (stone c))) f

pub captures-code : (board cells : List Cell) (c theirs : Colour) (p : ℕ) → cells ≡ set board p (stone c)
    → theirs ≡ other c → captured_count cells theirs ≡ captures board c p
unfolding captures
captures-code board cells c theirs p e f =
    ap (λ (b : List Cell). captured_count b theirs) e ∙ ap (captured_count (set board p (stone c))) f

pub places-code : (board cells : List Cell) (c theirs : Colour) (p : ℕ) → cells ≡ set board p (stone c)
    → theirs ≡ other c → captured_places cells theirs ≡ captured_places (set board p (stone c)) (other c)
places-code board cells c theirs p e f =
    ap (λ (b : List Cell). captured_places b theirs) e ∙ ap (captured_places (set board p (stone c))) f

-- the code's test failed
pub none_beside : (board cells : List Cell) (c theirs : Colour) (p : ℕ) (test : Bool) → cells ≡ set board p (stone c)
    → theirs ≡ other c → IsTrue test ↔ TouchesCaptured cells theirs p → test ≡ false
    → AreNoneCaptured (set board p (stone c)) (other c) p
none_beside board cells c theirs p test e f told failed =
    from_code board cells c theirs p e f (λ b t. AreNoneCaptured b t p)
    (λ q n h. false≢true (sym failed ∙ told.1 (record { place = q; neighbours = n; captured = h })))
