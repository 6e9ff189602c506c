-- How engines of a kind are like engines of the definition; and sessions, which are like themselves.
use Rattle.std.proofs.Common.{◌≡◌, ◌≢◌, ℕ, ◌≤◌, false, List, [], ◌∷◌, ◌++◌, length, take, drop, Some}
use Rattle.std.proofs.Common.{refl, sym, ◌∙◌, subst}
use Rattle.std.specs.List.{AllByRecursion}
use Rattle.std.proofs.lemmas.List.{drop_all}
use Rattle.go_base.specs.declared.colours.Colour.{Colour}
use Rattle.gtp_wire.specs.declared.lines.Line.{Line}
use Rattle.gtp_wire.specs.Lines.{lines}
use Rattle.gtp_session.specs.Commands.{asked}
use Rattle.gtp_session.specs.declared.events.Wait.TheVariants as wait
use Rattle.gtp_session.proofs.engines.Replying.{Replies-nothing}
use Rattle.gtp_session.specs.Policy.{May}
use Rattle.gtp_session.specs.Engine.{Engine, Replies, Engages, fresh_under}
use Rattle.gtp_session.specs.StepsRuns.{IsTablesLine}
use Rattle.gtp_world.specs.Lane.{SidePolicies, Does}
use Rattle.gtp_world.specs.Kinds.{Call, Kind, NothingComes, sessions}
use Rattle.gtp_world.proofs.settling.RoundLemmas.{IsOneLine}

-- ---- what an engine of the definition has, where a controller sends it its commands

pub record IsFollowing {P : Type 0} (x : Engine P) (coming : List ℕ) : Type 0 where
  pub going : x.ended ≡ false
  pub unread : lines x.rest ≡ []
  pub tables : AllByRecursion IsTablesLine (lines (x.rest ++ coming))

-- It reads some of what is on its way, and writes this; then it is one of these engines, and what that one has still to
-- read before what is left is the rest of what was on its way.
abbrev pub Moves : {P S : Type 0} → May P → Engine P → List ℕ → (S → Engine P) → (S → List ℕ) → List ℕ → List ℕ
    → Type 0
Moves {P} {S} may x coming engine held left written =
    (n : ℕ) × (sh : S) × Engages may x (take n coming) (engine sh) written × (held sh ++ left ≡ drop n coming)

-- nothing is read or written
pub still : {P S : Type 0} (may : May P) (x : Engine P) (coming : List ℕ) (engine : S → Engine P) (held : S → List ℕ)
    (sh : S) (left written : List ℕ) → lines x.rest ≡ [] → engine sh ≡ x → held sh ++ left ≡ coming → written ≡ []
    → Moves may x coming engine held left written
still may x coming engine held sh left written unread e h w =
    (0, sh, ([], subst (λ (y : Engine _). Replies may x [] y []) (sym e) (Replies-nothing may x unread), w), h)

-- whatever comes of engines of a kind, the engines that they are like come there too
abbrev pub AllMove : {E P : Type 0} {Like : E → Type 0} → May P → ((e : E) → Like e → Engine P)
    → ((e : E) → Like e → List ℕ) → Does E → Type 0
AllMove {E} {P} {Like} may engine held does =
    (e : E) (sh : Like e) (coming : List ℕ) (e2 : E) (left written : List ℕ)
    → IsFollowing (engine e sh) (held e sh ++ coming) → does e coming e2 left written
    → Moves may (engine e sh) (held e sh ++ coming) (engine e2) (held e2) left written

-- How engines of a kind are like engines of the definition: `engine` is the one that it is like, and `held` the text
-- that this engine has read and that one has not.
pub record Likeness {E P : Type 0} (kind : Kind E) (policies : SidePolicies P) : Type 1 where
  pub Like : E → Type 0
  pub engine : (e : E) → Like e → Engine P
  pub held : (e : E) → Like e → List ℕ
  pub rule : kind.rule ≡ policies.rule
  pub game : (e : E) (sh : Like e) → (engine e sh).game ≡ kind.game e
  pub begins : (e : E) → kind.begins e
      → (sh : Like e) × (p : P) × policies.made p × (engine e sh ≡ fresh_under policies.rule p) × (held e sh ≡ [])
  pub reads : (count : ℕ) → AllMove policies.may engine held (kind.reads count)
  pub calls : (call : Call) → AllMove policies.may engine held (kind.calls call)
  -- of one line on its way, which asks for no choice, nothing is left, and nothing is waited for
  pub takes : (e : E) (sh : Like e) (count : ℕ) (coming : List ℕ) (e2 : E) (left written : List ℕ)
      → IsFollowing (engine e sh) (held e sh ++ coming) → IsOneLine (engine e sh) (held e sh ++ coming)
      → length (held e sh ++ coming) ≤ count → kind.reads count e coming e2 left written
      → (left ≡ []) × (kind.wait e2 ≡ wait.Nothing)
  pub idle : (e : E) (sh : Like e) → lines (engine e sh).rest ≡ [] → held e sh ≡ [] → kind.wait e ≡ wait.Nothing
  pub none_held : (e : E) (sh : Like e) → kind.wait e ≡ wait.Nothing → held e sh ≡ []
  -- where it waits, the first line that the other engine comes to is the one that waits, and no other is held; else
  -- both hold the same text
  pub own_unread : (e : E) (sh : Like e) → lines (engine e sh).rest ≡ [] → lines (kind.rest e) ≡ []
  pub found : (e : E) (sh : Like e) → kind.wait e ≢ wait.Nothing → (later : List ℕ)
      → lines ((engine e sh).rest ++ (held e sh ++ later)) ≡ kind.line e ∷ lines (kind.rest e ++ later)
  pub same_rest : (e : E) (sh : Like e) → kind.wait e ≡ wait.Nothing → (engine e sh).rest ≡ kind.rest e
  -- what is asked for is asked by the first line that the other engine comes to
  pub asks : (e : E) (sh : Like e) (colour : Colour) → kind.wait e ≡ wait.Choice colour → (coming : List ℕ)
      → (line : Line) × (ls : List Line) × (lines ((engine e sh).rest ++ (held e sh ++ coming)) ≡ line ∷ ls)
      × (asked (engine e sh).game line ≡ Some colour)
  pub not_other : (e : E) (sh : Like e) → kind.wait e ≢ wait.Answer

-- ---- a session is like itself

pub session_stays : {P : Type 0} (may : May P) (e : Engine P) (coming : List ℕ) (e2 : Engine P) (left written : List ℕ)
    → IsFollowing e coming → NothingComes e e2 written × (left ≡ coming)
    → Moves {S = Unit {0}} may e coming (λ sh. e2) (λ sh. []) left written
session_stays may e coming e2 left written r h =
    still may e coming (λ sh. e2) (λ sh. []) tt left written r.unread h.0.0 h.1 h.0.1

unfoldable pub sessions_like : {P : Type 0} (policies : SidePolicies P) → Likeness (sessions policies) policies
sessions_like policies = record {
  Like = λ e. Unit {0};
  engine = λ e sh. e;
  held = λ e sh. [];
  rule = refl;
  game = λ e sh. refl;
  begins = λ e b. (tt, b.policy, b.made, b.engine_is, refl);
  reads = λ count e sh coming e2 left written r h. (count, tt, h.engages, h.left_is);
  calls = λ call e sh coming e2 left written r h. session_stays policies.may e coming e2 left written r h;
  takes = λ e sh count coming e2 left written r one short h. (h.left_is ∙ drop_all count coming short, refl);
  idle = λ e sh unread empty. refl;
  none_held = λ e sh waits. refl;
  own_unread = λ e sh unread. unread;
  found = λ e sh waits later. absurd (waits refl);
  same_rest = λ e sh waits. refl;
  asks = λ e sh colour waits coming. absurd (cc waits);
  not_other = λ e sh waits. cc;
}
