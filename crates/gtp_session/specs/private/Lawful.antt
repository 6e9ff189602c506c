-- What each policy may choose is lawful, in every game.
use Rattle.std.proofs.Common.{◌≡◌, ℕ, ◌%◌, List, [], ◌∷◌, zero, suc, length, Bool, true, false, cond, Option, Some}
use Rattle.std.proofs.Common.{None, refl, subst, sym}
use Rattle.std.specs.Prelude.{slice_get}
use Rattle.std.specs.List.{filter}
use Rattle.go_base.specs.declared.colours.Colour.{Colour}
use Rattle.go_base.specs.declared.vertices.Vertex.{Vertex}
use Rattle.go_base.specs.declared.vertices.Vertex.TheVariants.{Pass}
use Rattle.go_board.specs.Game.{GameRecord, IsLegal}
use Rattle.go_board.specs.decisions.Game.{legal?}
use Rattle.rand_pcg.specs.Lcg.{Lcg}
use Rattle.rand_pcg.specs.Pcg.{pcg64}
use Rattle.go_base.specs.declared.choices.Choice.{Choice}
use Rattle.go_base.specs.declared.choices.Choice.TheVariants as choice
use Rattle.gtp_session.specs.declared.book.Entry.{Entry}
use Rattle.gtp_session.specs.declared.book.Entry.TheVariants.{Empty, Resign, Play}
use Rattle.gtp_session.specs.Policy.{IsLawful}
use Rattle.go_base.specs.Decide.{holds}
use Rattle.gtp_session.specs.Candidate.{IsCandidate}
use Rattle.gtp_session.specs.Candidates.{points_of, candidates, play_or_pass}
use Rattle.gtp_session.specs.decisions.Candidate.{candidate?}
use Rattle.gtp_session.specs.Random.{MayDraw}
use Rattle.gtp_session.specs.Book.{choice_at}

fact : {A : Type 0} (d : Dec A) → holds d ≡ true → A
fact (yes a) e = a
fact (no k) e = cc

-- each element of a filtered list passes the test
passes : {X : Type 0} (test : X → Bool) (xs : List X) (k : ℕ) (x : X)
    → slice_get (filter test xs) k ≡ Some x → test x ≡ true
passes test [] k x e = cc
passes test (y ∷ ys) k x e = step (test y) refl k e (λ j f. passes test ys j x f)
  where
    step : (b : Bool) → test y ≡ b → (k : ℕ) → slice_get (cond b (y ∷ filter test ys) (filter test ys)) k ≡ Some x
        → ((j : ℕ) → slice_get (filter test ys) j ≡ Some x → test x ≡ true) → test x ≡ true
    step true t zero e rest = let same : y ≡ x = cc in subst (λ z. test z ≡ true) same t
    step true t (suc k) e rest = rest k e
    step false t k e rest = rest k e

-- the candidates are candidates, and so they are legal
candidates-are : (game : GameRecord) (colour : Colour) (k p : ℕ)
    → slice_get (candidates game colour) k ≡ Some p → IsCandidate game colour p
unfolding candidates
candidates-are game colour k p e =
    fact (candidate? game colour p) (passes (λ p. holds (candidate? game colour p)) (points_of game.size) k p e)

-- a candidate of any number, or a pass
play_or_pass-lawful : (game : GameRecord) (colour : Colour) (k : ℕ) (point : Option ℕ)
    → slice_get (candidates game colour) k ≡ point → IsLawful game colour (play_or_pass point)
play_or_pass-lawful game colour k None e = tt
play_or_pass-lawful game colour k (Some p) e = (candidates-are game colour k p e).legal

pub lawful_candidate : (game : GameRecord) (colour : Colour) (k : ℕ) (choice : Choice)
    → choice ≡ play_or_pass (slice_get (candidates game colour) k) → IsLawful game colour choice
lawful_candidate game colour k choice e =
    subst (λ (c : Choice). IsLawful game colour c) (sym e)
    (play_or_pass-lawful game colour k (slice_get (candidates game colour) k) refl)

pub lawful_draw : (game : GameRecord) (colour : Colour) (old : Lcg) (choice : Choice) (new : Lcg)
    → MayDraw (candidates game colour) old choice new → IsLawful game colour choice
lawful_draw game colour old choice new = by_list (candidates game colour) refl
  where
    by_list : (all : List ℕ) → all ≡ candidates game colour → MayDraw all old choice new → IsLawful game colour choice
    by_list [] e m = subst (λ (c : Choice). IsLawful game colour c) (sym m.0) tt
    by_list (p ∷ ps) e m =
        let word = (pcg64 old).0 in
        lawful_candidate game colour (word % length (p ∷ ps)) choice
        (subst (λ (l : List ℕ). choice ≡ play_or_pass (slice_get l (word % length (p ∷ ps)))) e m.0)

legal_or_pass : (game : GameRecord) (colour : Colour) (vertex : Vertex) (d : Dec (IsLegal game colour vertex))
    → IsLawful game colour (elim d [ yes _ ↦ choice.Play vertex | no _ ↦ choice.Play Pass ])
legal_or_pass game colour vertex (yes l) = l
legal_or_pass game colour vertex (no k) = tt

choice_at-lawful : (game : GameRecord) (colour : Colour) (entry : Option Entry)
    → IsLawful game colour (choice_at game colour entry)
choice_at-lawful game colour None = tt
choice_at-lawful game colour (Some Empty) = tt
choice_at-lawful game colour (Some Resign) = tt
choice_at-lawful game colour (Some (Play vertex)) = legal_or_pass game colour vertex (legal? game colour vertex)

pub lawful_entry : (game : GameRecord) (colour : Colour) (entry : Option Entry) (choice : Choice)
    → choice ≡ choice_at game colour entry → IsLawful game colour choice
lawful_entry game colour entry choice e =
    subst (λ (c : Choice). IsLawful game colour c) (sym e) (choice_at-lawful game colour entry)
