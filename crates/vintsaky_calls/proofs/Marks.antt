-- Values for each point of a board: where these are as they should be, so are the values that are made of them.
use Rattle.std.proofs.Common.{◌≡◌, ℕ, Bool, true, false, Option, Some, None, List, [], ◌∷◌, ◌++◌, length, map}
use Rattle.std.proofs.Common.{refl, sym, ap, ◌∙◌, subst, arith}
use Rattle.std.proofs.Math.ListN.{set}
use Rattle.std.proofs.lemmas.Bool.{false≢true}
use Rattle.std.proofs.lemmas.List.{length-map, set_at}
use Rattle.std.proofs.lemmas.Option.{slice_get-map, same_Some, none-some}
use Rattle.std.specs.Option.{option_map}
use Rattle.std.specs.Prelude.{IsTrue, ◌↔◌, slice_get}
use Rattle.go_base.specs.declared.colours.Colour.{Colour}
use Rattle.go_base.specs.declared.colours.Colour.TheVariants.{Black, White}
use Rattle.go_base.specs.declared.vertices.Vertex.TheVariants.{At}
use Rattle.go_board.specs.Game.{GameRecord, IsLegal}
use Rattle.go_board.specs.Index.{IsTable, AreStones, AreLegalMarks}
use Rattle.vintsaky_calls.specs.Batches.{IsMark, IsPlane}
use Rattle.vintsaky_calls.specs.private.Marks.{stone_mark, bool_mark}

-- what a value was made of
record Source {A B : Type 0} (f : A → B) (from : Option A) (value : B) : Type 0 where
  pub of : A
  pub is : from ≡ Some of
  pub made : f of ≡ value

source : {A B : Type 0} (f : A → B) (from : Option A) (value : B) → option_map f from ≡ Some value
    → Source f from value
source f None value e = absurd (none-some value e)
source f (Some x) value e = record { of = x; is = refl; made = same_Some (f x) value e }

pub table_map : {A B : Type 0} {P : ℕ → A → Type 0} {Q : ℕ → B → Type 0} {size : ℕ} {xs : List A} (f : A → B)
    → IsTable P size xs → ((p : ℕ) (x : A) → P p x → Q p (f x)) → IsTable Q size (map f xs)
table_map {Q = Q} {xs = xs} f table each = record {
  long = length-map xs f ∙ table.long;
  each = λ p index value is_index at.
      let found = source f (slice_get xs index) value (sym (slice_get-map f xs index) ∙ at) in
      subst (λ y. Q p y) found.made (each p found.of (table.each p index found.of is_index found.is));
}

own_mark : {A : Type 0} (zero one : A) (c : Colour) → stone_mark zero one c (Some c) ≡ one
own_mark zero one Black = refl
own_mark zero one White = refl

other_mark : {A : Type 0} (zero one : A) (c : Colour) (stone : Option Colour) → ¬ (stone ≡ Some c)
    → stone_mark zero one c stone ≡ zero
other_mark zero one Black None other = refl
other_mark zero one White None other = refl
other_mark zero one Black (Some Black) other = absurd (other refl)
other_mark zero one Black (Some White) other = refl
other_mark zero one White (Some Black) other = refl
other_mark zero one White (Some White) other = absurd (other refl)

-- a stone's mark
pub stone_is_mark : {A : Type 0} (zero one : A) (c : Colour) (stone there : Option Colour) → stone ≡ there
    → IsMark zero one (there ≡ Some c) (stone_mark zero one c stone)
stone_is_mark zero one c stone there is = record {
  yes = λ own. ap (stone_mark zero one c) (is ∙ own) ∙ own_mark zero one c;
  no = λ other. other_mark zero one c stone (λ e. other (sym is ∙ e));
}

-- a plane is there, where the marks of the stones are
pub plane_of : {A : Type 0} (zero one : A) (game : GameRecord) (c of : Colour) (stones shown : List (Option Colour))
    (values : List A) → AreStones game stones → of ≡ c → shown ≡ stones → values ≡ map (stone_mark zero one of) shown
    → IsPlane zero one game c values
plane_of zero one game c of stones shown values are same_colour same are_marks =
    let marks : values ≡ map (stone_mark zero one c) stones =
    are_marks ∙ ap (λ l. map (stone_mark zero one of) l) same
    ∙ ap (λ (d : Colour). map (stone_mark zero one d) stones) same_colour in
    subst (λ l. IsPlane zero one game c l) (sym marks)
    (table_map (stone_mark zero one c) are (λ p stone is. stone_is_mark zero one c stone _ is))

-- a mark's value
pub bool_is_mark : {A : Type 0} (zero one : A) (Holds : Type 0) (mark : Bool) → IsTrue mark ↔ Holds
    → IsMark zero one Holds (bool_mark zero one mark)
bool_is_mark zero one Holds true are = record { yes = λ h. refl; no = λ not. absurd (not (are.0 refl)) }
bool_is_mark zero one Holds false are = record { yes = λ h. absurd (false≢true (are.1 h)); no = λ not. refl }

-- the points of a mask are there, where the marks of the legal points are
pub mask_of : {A : Type 0} (zero one : A) (game : GameRecord) (c : Colour) (marks shown : List Bool) (values : List A)
    → AreLegalMarks game c marks → shown ≡ marks → values ≡ map (bool_mark zero one) shown
    → IsTable (λ p. IsMark zero one (IsLegal game c (At p))) game.size values
mask_of zero one game c marks shown values are same are_marks =
    subst (λ l. IsTable (λ p. IsMark zero one (IsLegal game c (At p))) game.size l)
    (sym (are_marks ∙ ap (λ l. map (bool_mark zero one) l) same))
    (table_map (bool_mark zero one) are (λ p mark is. bool_is_mark zero one _ mark is))

-- the last value is written
pub put_last : {A : Type 0} (front rest : List A) (place : ℕ) (x : A) → length front ≡ place → length rest ≡ 1
    → set (front ++ rest) place x ≡ front ++ x ∷ []
put_last front [] place x long one = absurd (omega (arith, one))
put_last front (y ∷ []) place x long one = set_at front y [] x place long
put_last front (y ∷ z ∷ rest) place x long one = absurd (omega (arith, one))
