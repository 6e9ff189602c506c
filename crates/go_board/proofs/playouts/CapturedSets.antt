-- The stones without a liberty, found by a flood and removed.
use Rattle.std.proofs.Common.{◌≡◌, ℕ, ◌+◌, ◌-◌, ◌<◌, ◌≤◌, List, [], ◌∷◌, length, All, Contains, sym, ◌∙◌, ap}
use Rattle.std.proofs.Common.{subst, arith, inl, inr, Bool, cond, refl, get_or-set_other, get_or-set_same}
use Rattle.std.specs.Prelude.{◌≢◌, slice_index}
use Rattle.std.specs.List.{AllPairs}
use Rattle.std.proofs.lemmas.Bool.{cases_eq}
use Rattle.std.proofs.lemmas.List.{ext_get_or}
use Rattle.std.proofs.lemmas.List.FromFn.{length-map-range_with_len}
use Rattle.std.proofs.lemmas.List.Elements.{All-push, All-contains, All-nil, Contains-append_left}
use Rattle.std.proofs.lemmas.List.Elements.{Contains-get_or}
use Rattle.std.proofs.Math.ListN.{set, length-set}
use Rattle.go_base.specs.Point.{Neighbours}
use Rattle.go_base.specs.declared.colours.Colour.{Colour}
use Rattle.go_board.specs.Board.{at, stone, IsStone}
use Rattle.go_board.specs.Play.{left_at, without_captured}
use Rattle.go_board.specs.Chain.{Joined, itself, by_way_of, IsCaptured}
use Rattle.go_board.specs.decisions.Chain.{captured?}
use Rattle.go_board.specs.private.Frame.{IsFramed}
use Rattle.go_board.specs.private.Flood.{AreSpread}
use Rattle.go_board.specs.private.ChainId.{BoardWithIds, id_of, AreChains}
use Rattle.go_board.specs.private.NamedIds.{IsSeed, AreCapturedBeside, AreCapturedStones, AreRemoved}
use Rattle.go_board.specs.declared.board.Cell.{Cell}
use Rattle.go_board.specs.declared.board.Cell.TheVariants.{Edge, Empty}
use Rattle.go_board.proofs.General.{by_dec, earlier_or_last}
use Rattle.go_board.proofs.boards.Cells.{stone-point, stone-filled}
use Rattle.go_board.proofs.boards.Neighbours.{all_beside, IsOn-inside, IsInside}
use Rattle.go_board.proofs.captures.CapturedStones.{holds-yes, holds-no, at-without_captured, IsFramed-without_captured}
use Rattle.go_board.proofs.captures.CapturedStones.{in_list}
use Rattle.go_board.proofs.captures.MakingPlays.{captured-joined}
use Rattle.go_board.proofs.floods.Regions.{AreSpread-grows, AreSpread-sound, spread_more, index_of}
use Rattle.go_board.proofs.ids.Paths.{Joined-back, IsStone-point, AreLocalIds-of, AreLocalIds-less, IsLess}
use Rattle.go_board.proofs.ids.Paths.{AreChainIds-steps}
use Rattle.go_board.proofs.ids.Paths.{AreChainIds-same}

-- ---- the flood

-- All found are captured, those beside the point are found, and so are the neighbours of the first `next` that hold
-- such stones.
pub record IsTakingAll (board : List Cell) (c : Colour) (p next : ℕ) (found : List ℕ) : Type 0 where
  pub sound : All (IsCaptured board c) found
  pub seeds : (q : ℕ) → Neighbours p q → IsCaptured board c q → Contains found q
  pub reached : next ≤ length found
  pub spread : (k r : ℕ) → k < next → Neighbours (slice_index found k) r → at board r ≡ stone c → Contains found r

seed-keeps : (board : List Cell) (c : Colour) (q r : ℕ) (old new : List ℕ) → IsSeed board c q old new
    → Contains old r → Contains new r
seed-keeps board c q r old new s h = elim s.was [
  | inl more ↦ subst (λ (xs : List ℕ). Contains xs r) (sym more.1) (Contains-append_left old (q ∷ []) r h)
  | inr same ↦ subst (λ (xs : List ℕ). Contains xs r) (sym same) h
]

seed-sound : (board : List Cell) (c : Colour) (q : ℕ) (old new : List ℕ) → IsSeed board c q old new
    → All (IsCaptured board c) old → All (IsCaptured board c) new
seed-sound board c q old new s all = elim s.was [
  | inl more ↦ subst (λ (xs : List ℕ). All (IsCaptured board c) xs) (sym more.1)
      (All-push (IsCaptured board c) old q all more.0)
  | inr same ↦ subst (λ (xs : List ℕ). All (IsCaptured board c) xs) (sym same) all
]

pub IsTakingAll-start : (board : List Cell) (c : Colour) (p : ℕ) (x0 x1 x2 x3 x4 : List ℕ) → x0 ≡ []
    → IsSeed board c (p + 1) x0 x1 → IsSeed board c (p - 1) x1 x2 → IsSeed board c (p + 26) x2 x3
    → IsSeed board c (p - 26) x3 x4 → IsTakingAll board c p 0 x4
IsTakingAll-start board c p x0 x1 x2 x3 x4 clear s1 s2 s3 s4 = record {
  sound =
      seed-sound board c _ x3 x4 s4 (seed-sound board c _ x2 x3 s3 (seed-sound board c _ x1 x2 s2
      (seed-sound board c _ x0 x1 s1
      (subst (λ (xs : List ℕ). All (IsCaptured board c) xs) (sym clear) (All-nil (IsCaptured board c))))));
  seeds =
      all_beside (λ q. IsCaptured board c q → Contains x4 q) p
      (λ h. seed-keeps board c _ _ x3 x4 s4 (seed-keeps board c _ _ x2 x3 s3 (seed-keeps board c _ _ x1 x2 s2
      (s1.has h))))
      (λ h. seed-keeps board c _ _ x3 x4 s4 (seed-keeps board c _ _ x2 x3 s3 (s2.has h)))
      (λ h. seed-keeps board c _ _ x3 x4 s4 (s3.has h)) (λ h. s4.has h);
  reached = omega arith;
  spread = λ k r less. absurd (omega (arith, less));
}

-- a captured stone is on the board
pub captured-inside : (board : List Cell) (c : Colour) (q : ℕ) → IsFramed board → IsCaptured board c q → IsInside q
captured-inside board c q framed h = IsOn-inside q (framed.inside q (λ e. stone-point c (sym h.0 ∙ e)))

-- so is what the flood comes to next
pub taking-inside : (board : List Cell) (c : Colour) (p next : ℕ) (found : List ℕ) → IsFramed board
    → IsTakingAll board c p next found → next < length found → IsInside (slice_index found next)
taking-inside board c p next found framed f below = captured-inside board c _ framed (f.sound next 0 below)

-- a neighbour with a stone of the colour is of the chain
captured-beside_it : (board : List Cell) (c : Colour) (q r : ℕ) → IsCaptured board c q → Neighbours q r
    → at board r ≡ stone c → IsCaptured board c r
captured-beside_it board c q r h beside held =
    captured-joined board c q r
    (by_way_of r (λ e. stone-point c (sym h.0 ∙ e)) beside (held ∙ sym h.0)
    (itself (λ e. stone-point c (sym held ∙ e)))) h

pub IsTakingAll-more : (board : List Cell) (c : Colour) (p next : ℕ) (a e : List ℕ) → next < length a
    → IsTakingAll board c p next a → AreSpread board (stone c) (slice_index a next) a e
    → IsTakingAll board c p (next + 1) e
IsTakingAll-more board c p next a e in_range f spread =
    let here : IsCaptured board c (slice_index a next) = f.sound next 0 in_range in
    let ae = AreSpread-grows board (stone c) (slice_index a next) a e spread in
    let longer = ae.longer in
    record {
      sound = AreSpread-sound board (stone c) (IsCaptured board c) (slice_index a next) a e
          (λ r. captured-beside_it board c (slice_index a next) r here) spread f.sound;
      seeds = λ q beside h. ae.keeps q (f.seeds q beside h);
      reached = omega (arith, longer, in_range);
      spread =
          λ k r h beside holds. spread_more board (stone c) a e next k r ae in_range h (λ old. f.spread k r old)
          (spread.all r) beside holds;
    }

complete : (board : List Cell) (c : Colour) (o next : ℕ) (found : List ℕ) → IsTakingAll board c o next found
    → length found ≤ next → {p q : ℕ} → Joined board p q → at board p ≡ stone c → Contains found p → Contains found q
complete board c o next found f done (itself point) held there = there
complete board c o next found f done (by_way_of {p} {q} r point next_to same rest) held there =
    let known : there.0 < next = omega arith in
    complete board c o next found f done rest (same ∙ held)
    (f.spread there.0 r known (subst (λ (k : ℕ). Neighbours k r) (sym (index_of found p there)) next_to) (same ∙ held))

pub IsTakingAll-done : (board : List Cell) (c : Colour) (p next : ℕ) (found : List ℕ) → AreCapturedBeside board c p
    → IsTakingAll board c p next found → length found ≤ next → AreCapturedStones board c found
IsTakingAll-done board c p next found beside f done q = (
  (λ h. All-contains (IsCaptured board c) found q f.sound h),
  (λ h.
      let b = beside q h in
      complete board c p next found f done (Joined-back b.joined) b.captured.0
      (f.seeds b.place b.neighbours b.captured)),
)

-- ---- removing what was found

-- the stones on the first n places were removed
pub record IsRemovingAll (old : BoardWithIds) (places : List ℕ) (n : ℕ) (now : BoardWithIds) : Type 0 where
  pub board_length : length now.board ≡ length old.board
  pub ids_length : length now.ids ≡ length old.ids
  pub gone : (k : ℕ) → k < n → at now.board (slice_index places k) ≡ Empty
  pub left : (p : ℕ) → ((k : ℕ) → k < n → slice_index places k ≢ p) → at now.board p ≡ at old.board p
  pub ids_left : (p : ℕ) → ((k : ℕ) → k < n → slice_index places k ≢ p) → id_of now.ids p ≡ id_of old.ids p

pub IsRemovingAll-none : (old : BoardWithIds) (places : List ℕ) → IsRemovingAll old places 0 old
IsRemovingAll-none old places = record {
  board_length = refl;
  ids_length = refl;
  gone = λ k h. absurd (omega (arith, h));
  left = λ p _. refl;
  ids_left = λ p _. refl;
}

-- the next one still stands
pub next-stone : (old now : BoardWithIds) (places : List ℕ) (n : ℕ) → AllPairs (λ p q. p ≢ q) places
    → n < length places → ((p : ℕ) → Contains places p → IsStone (at old.board p)) → IsRemovingAll old places n now
    → IsStone (at now.board (slice_index places n))
next-stone old now places n once below stones r =
    subst IsStone (sym (r.left (slice_index places n) (λ k h. once k n 0 h below)))
    (stones (slice_index places n) (Contains-get_or places n 0 below))

pub IsRemovingAll-more : (old now new : BoardWithIds) (places : List ℕ) (n : ℕ)
    → IsStone (at now.board (slice_index places n))
    → new ≡ record { board = set now.board (slice_index places n) Empty; ids = set now.ids (slice_index places n) 0 }
    → IsRemovingAll old places n now → IsRemovingAll old places (n + 1) new
IsRemovingAll-more old now new places n s made r =
    subst (IsRemovingAll old places (n + 1)) (sym made) (record {
      board_length = length-set now.board place Empty ∙ r.board_length;
      ids_length = length-set now.ids place 0 ∙ r.ids_length;
      gone = λ k h. elim (earlier_or_last k n h) [
        | inl before ↦ elim (cases_eq (slice_index places k) place) [
          | inl e ↦ ap (at (set now.board place Empty)) e ∙ cleared
          | inr o ↦ get_or-set_other now.board place (slice_index places k) Empty Edge o ∙ r.gone k before
        ]
        | inr last ↦ ap (λ (i : ℕ). at (set now.board place Empty) (slice_index places i)) last ∙ cleared
      ];
      left = λ p away. get_or-set_other now.board place p Empty Edge (λ e. away n (omega arith) (sym e))
          ∙ r.left p (λ k h. away k (omega (arith, h)));
      ids_left = λ p away. get_or-set_other now.ids place p 0 0 (λ e. away n (omega arith) (sym e))
          ∙ r.ids_left p (λ k h. away k (omega (arith, h)));
    })
  where
    place : ℕ
    place = slice_index places n

    cleared : at (set now.board (slice_index places n) Empty) (slice_index places n) ≡ Empty
    cleared =
        get_or-set_same now.board (slice_index places n) Empty Edge
        (in_list now.board (slice_index places n) (IsStone-point (at now.board (slice_index places n)) s))

pub IsRemovingAll-done : (old new : BoardWithIds) (places : List ℕ) (n : ℕ) → length places ≤ n → n ≤ length places
    → IsRemovingAll old places n new → AreRemoved old new places
IsRemovingAll-done old new places n all few r = record {
  board_length = r.board_length;
  ids_length = r.ids_length;
  gone = λ p h. ap (at new.board) (sym (index_of places p h))
      ∙ r.gone h.0 (let below = h.1 in omega (arith, below, all));
  left = λ p away. r.left p (λ k h e. away (there p k (omega (arith, h, few)) e));
  ids_left = λ p away. r.ids_left p (λ k h e. away (there p k (omega (arith, h, few)) e));
}
  where
    there : (p k : ℕ) → k < length places → slice_index places k ≡ p → Contains places p
    there p k below e = subst (λ (q : ℕ). Contains places q) e (Contains-get_or places k 0 below)

-- ---- what is left

pub without-removed : (old new : BoardWithIds) (c : Colour) (places : List ℕ) → AreCapturedStones old.board c places
    → AreRemoved old new places → new.board ≡ without_captured old.board c
unfolding without_captured
without-removed old new c places are r =
    ext_get_or Edge new.board (without_captured old.board c)
    (r.board_length ∙ sym (length-map-range_with_len (left_at old.board c) 0 (length old.board)))
    (λ q _. by_dec (captured? old.board c q)
    (λ h. r.gone q ((are q).1 h)
    ∙ sym (at-without_captured old.board c q
    ∙ ap (λ (b : Bool). cond b Empty (at old.board q)) (holds-yes (captured? old.board c q) h)))
    (λ k. r.left q (λ h. k ((are q).0 h))
    ∙ sym (at-without_captured old.board c q
    ∙ ap (λ (b : Bool). cond b Empty (at old.board q)) (holds-no (captured? old.board c q) k))))

-- what is left wasn't captured
left-stone : (board : List Cell) (c : Colour) (q : ℕ) → IsStone (at (without_captured board c) q)
    → (¬ IsCaptured board c q) × (at (without_captured board c) q ≡ at board q)
left-stone board c q s = by_dec (captured? board c q)
    (λ h. absurd (stone-filled s.0
    (sym s.1 ∙ at-without_captured board c q
    ∙ ap (λ (b : Bool). cond b Empty (at board q)) (holds-yes (captured? board c q) h))))
    (λ k. (
      k,
      at-without_captured board c q ∙ ap (λ (b : Bool). cond b Empty (at board q)) (holds-no (captured? board c q) k),
    ))

without-less : (board : List Cell) (c : Colour) → IsLess board (without_captured board c)
without-less board c = record {
  kept = λ q s. (left-stone board c q s).1;
  whole = λ q r s path. at-without_captured board c r
      ∙ ap (λ (b : Bool). cond b Empty (at board r))
      (holds-no (captured? board c r)
      (λ h. (left-stone board c q s).0 (captured-joined board c r q (Joined-back path) h)));
}

pub AreChains-removed : (old new : BoardWithIds) (c : Colour) (places : List ℕ)
    → AreCapturedStones old.board c places → AreRemoved old new places → AreChains old.board old.ids
    → AreChains new.board new.ids
AreChains-removed old new c places are r chains =
    subst (λ (b : List Cell). AreChains b new.ids) (sym (without-removed old new c places are r)) (record {
      framed = IsFramed-without_captured old.board c chains.framed;
      ids =
          AreChainIds-same (without_captured old.board c) old.ids new.ids (r.ids_length ∙ chains.ids.length_is)
          (λ q s. r.ids_left q (λ h. (left-stone old.board c q s).0 ((are q).0 h)))
          (AreChainIds-steps (without_captured old.board c) old.ids chains.ids.length_is
          (AreLocalIds-less old.board (without_captured old.board c) old.ids (without-less old.board c)
          (AreLocalIds-of old.board old.ids chains.ids)));
    })
