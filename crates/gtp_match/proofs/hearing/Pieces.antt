-- Bytes that are heard in two pieces are heard as in one.
use Rattle.std.proofs.Common.{◌≡◌, ℕ, ◌+◌, ◌<◌, ◌≤◌, List, [], ◌∷◌, ◌++◌, length, drop, Option, Some, None, Result, Ok}
use Rattle.std.proofs.Common.{Err, refl, sym, ◌∙◌, ap, subst, arith, inl, inr, append-nil, append_assoc, length-append}
use Rattle.std.specs.Prelude.{◌⊎◌, IsSome}
use Rattle.std.proofs.Math.Seq.{drop-length, drop-append-add}
use Rattle.std.proofs.lemmas.List.{drop-append-le}
use Rattle.go_base.specs.declared.colours.Colour.{Colour}
use Rattle.go_base.specs.declared.colours.Colour.TheVariants.{Black, White}
use Rattle.gtp_wire.specs.declared.replies.Reply.{Reply}
use Rattle.gtp_wire.specs.declared.replies.ReplyFault.{ReplyFault}
use Rattle.gtp_wire.specs.Replies.{GivesNoAnswer, IsFirst}
use Rattle.gtp_wire.proofs.first_answers.OneAnswer.{one_first}
use Rattle.gtp_wire.proofs.first_answers.OneByteMore.{first_more}
use Rattle.gtp_match.specs.declared.sides.EngineRun.{EngineRun}
use Rattle.gtp_match.specs.declared.reply_table.Outcome.{Outcome}
use Rattle.gtp_match.specs.declared.reply_table.Outcome.TheVariants.{Down, Unfit, Forfeits, Confirms, Resigns, Moves}
use Rattle.gtp_match.specs.declared.reply_table.Outcome.TheVariants.{Refuses, TakesBack, Keeps}
use Rattle.gtp_match.specs.declared.verdicts.SideFault.{SideFault}
use Rattle.gtp_match.specs.declared.verdicts.Verdict.{Verdict}
use Rattle.gtp_match.specs.declared.controller.Controller.{Controller}
use Rattle.gtp_match.specs.Unanswered.{oldest}
use Rattle.gtp_match.specs.Sides.{side_of, heard_reply}
use Rattle.gtp_match.specs.Controller.{started, sent, lost, with_side_up, downed}
use Rattle.gtp_match.specs.ReplyTable.{outcome, after_outcome, fault_of}
use Rattle.gtp_match.specs.Hearing.{side_fault, KeepsAll, HearsUp, IsIgnored, HearsWhere, HearsExactly, HearsAllBy}
use Rattle.gtp_match.specs.Hearing.{HearsAllExactly}
use Rattle.gtp_match.specs.Calls.{Call, starts, sends, hears, hears_all, loses, CallsBy, CallsExactly}
use Rattle.gtp_match.specs.Joining.{first_fault, AreAsOne}
use Rattle.gtp_match.proofs.hearing.Reading.{hears_up, up_twice, down_after_up, outcome_after_up, up_of}

-- ---- what is heard is one thing

pub record AreSame (used used' : ℕ) (fault fault' : Option SideFault) (new new' : Controller) : Type 0 where
  pub used_is : used ≡ used'
  pub fault_is : fault ≡ fault'
  pub new_is : new ≡ new'

one_up : (c : Controller) (s : Colour) (engine : EngineRun) (bytes : List ℕ) (u v : ℕ)
    (f g : Option SideFault) (m n : Controller)
    → HearsUp KeepsAll c s engine bytes u f m → HearsUp KeepsAll c s engine bytes v g n → AreSame u v f g m n
one_up c s engine bytes u v f g m n (HearsUp.replied {value = x} p) (HearsUp.replied {value = y} q) =
    let e =
    one_first (engine.reader ++ bytes) (length engine.reader + u) (length engine.reader + v) (Ok x) (Ok y) p q in
    let same : x ≡ y = cc in
    record {
      used_is = omega (arith, e.0);
      fault_is = ap (λ (r : Reply). fault_of (outcome c.game s (oldest engine.unanswered) r)) same;
      new_is = ap (λ (r : Reply). after_outcome c s (heard_reply engine)
          (outcome c.game s (oldest engine.unanswered) r)) same;
    }
one_up c s engine bytes u v f g m n (HearsUp.replied {value = x} p) (HearsUp.faulted {shown = y} q) =
    let e = one_first (engine.reader ++ bytes) (length engine.reader + u) (length engine.reader + v) (Ok x)
    (Err y) p q in absurd (cc)
one_up c s engine bytes u v f g m n (HearsUp.replied {value = x} p) (HearsUp.nothing_yet nothing is) =
    absurd (nothing (length engine.reader + u) (Ok x) p.inside p.is_given)
one_up c s engine bytes u v f g m n (HearsUp.faulted {shown = x} p) (HearsUp.replied {value = y} q) =
    let e =
    one_first (engine.reader ++ bytes) (length engine.reader + u) (length engine.reader + v) (Err x) (Ok y) p q in
    absurd (cc)
one_up c s engine bytes u v f g m n (HearsUp.faulted {shown = x} p) (HearsUp.faulted {shown = y} q) =
    let e =
    one_first (engine.reader ++ bytes) (length engine.reader + u) (length engine.reader + v) (Err x) (Err y) p q in
    let same : x ≡ y = cc in
    record { used_is = omega (arith, e.0); fault_is = ap (λ (r : ReplyFault). Some (side_fault r)) same; new_is = refl }
one_up c s engine bytes u v f g m n (HearsUp.faulted {shown = x} p) (HearsUp.nothing_yet nothing is) =
    absurd (nothing (length engine.reader + u) (Err x) p.inside p.is_given)
one_up c s engine bytes u v f g m n (HearsUp.nothing_yet nothing is) (HearsUp.replied {value = y} q) =
    absurd (nothing (length engine.reader + v) (Ok y) q.inside q.is_given)
one_up c s engine bytes u v f g m n (HearsUp.nothing_yet nothing is) (HearsUp.faulted {shown = y} q) =
    absurd (nothing (length engine.reader + v) (Err y) q.inside q.is_given)
one_up c s engine bytes u v f g m n (HearsUp.nothing_yet {kept = k} nothing is)
    (HearsUp.nothing_yet {kept = l} nothing2 is2) =
    record {
      used_is = refl;
      fault_is = refl;
      new_is = ap (λ (t : List ℕ). let e : EngineRun = record engine { reader = t } in
          with_side_up c s e) (is ∙ sym is2);
    }

one_deaf : (c : Controller) (bytes : List ℕ) (u v : ℕ) (f g : Option SideFault) (m n : Controller)
    → IsIgnored KeepsAll c bytes u f m → IsIgnored KeepsAll c bytes v g n → AreSame u v f g m n
one_deaf c bytes u v f g m n p q =
    record { used_is = p.all ∙ sym q.all; fault_is = p.no_fault ∙ sym q.no_fault; new_is = p.same ∙ sym q.same }

pub one_heard : (c : Controller) (s : Colour) (bytes : List ℕ) (u v : ℕ) (f g : Option SideFault) (m n : Controller)
    → HearsExactly c s bytes u f m → HearsExactly c s bytes v g n → AreSame u v f g m n
one_heard c s bytes u v f g m n p q = by_state c.verdict (side_of c.sides s).up p q
  where
    by_state : (x : Option Verdict) (up : Option EngineRun) → HearsWhere KeepsAll c s bytes x up u f m
        → HearsWhere KeepsAll c s bytes x up v g n
        → AreSame u v f g m n
    by_state (Some x) up a b = one_deaf c bytes u v f g m n a b
    by_state None None a b = one_deaf c bytes u v f g m n a b
    by_state None (Some engine) a b = one_up c s engine bytes u v f g m n a b

pub one_all : (s : Colour) (c : Controller) (bytes : List ℕ) (f g : Option SideFault) (m n : Controller)
    → HearsAllExactly s c bytes f m → HearsAllExactly s c bytes g n → (f ≡ g) × (m ≡ n)
one_all s c bytes f g m n HearsAllBy.used_up HearsAllBy.used_up = (refl, refl)
one_all s c bytes f g m n HearsAllBy.used_up (HearsAllBy.faulty v some q) = absurd (omega (arith, some))
one_all s c bytes f g m n HearsAllBy.used_up (HearsAllBy.goes_on v some q more) = absurd (omega (arith, some))
one_all s c bytes f g m n (HearsAllBy.faulty u some p) HearsAllBy.used_up = absurd (omega (arith, some))
one_all s c bytes f g m n (HearsAllBy.faulty u some p) (HearsAllBy.faulty v some2 q) =
    let e = one_heard c s bytes u v f g m n p q in (e.fault_is, e.new_is)
one_all s c bytes f g m n (HearsAllBy.faulty {shown = x} u some p) (HearsAllBy.goes_on {mid = j} v some2 q more) =
    let e = one_heard c s bytes u v (Some x) None m j p q in let clash : Some x ≡ None = e.fault_is in absurd (cc)
one_all s c bytes f g m n (HearsAllBy.goes_on u some p more) HearsAllBy.used_up = absurd (omega (arith, some))
one_all s c bytes f g m n (HearsAllBy.goes_on {mid = i} u some p more) (HearsAllBy.faulty {shown = y} v some2 q) =
    let e = one_heard c s bytes u v None (Some y) i n p q in let clash : None ≡ Some y = e.fault_is in absurd (cc)
one_all s c bytes f g m n (HearsAllBy.goes_on {mid = i} u some p more) (HearsAllBy.goes_on {mid = j} v some2 q more2) =
    let e = one_heard c s bytes u v None None i j p q in
    let A : ℕ → Controller → Type 0 = λ k x. HearsAllExactly s x (drop k bytes) g n in
    let there : HearsAllExactly s i (drop u bytes) g n =
    subst (λ k. A k i) (sym e.used_is) (subst (A v) (sym e.new_is) more2) in
    one_all s i (drop u bytes) f g m n more there

-- ---- a side that is down, or after a verdict, hears nothing

-- whatever is heard shows no fault and changes nothing
abbrev HearsNothing : Controller → Colour → Type 0
HearsNothing c s = (bytes : List ℕ) (used : ℕ) (fault : Option SideFault) (new : Controller)
    → HearsExactly c s bytes used fault new → (fault ≡ None) × (new ≡ c)

down_hears : (c : Controller) (s : Colour) → (side_of c.sides s).up ≡ None → HearsNothing c s
down_hears c s down bytes used fault new h =
    by_verdict c.verdict (subst (λ (u : Option EngineRun). HearsWhere KeepsAll c s bytes c.verdict u used fault new)
    down h)
  where
    by_verdict : (v : Option Verdict) → HearsWhere KeepsAll c s bytes v None used fault new → (fault ≡ None) × (new ≡ c)
    by_verdict None x = (x.no_fault, x.same)
    by_verdict (Some v) x = (x.no_fault, x.same)

nothing_heard : (s : Colour) (c new : Controller) (bytes : List ℕ) (fault : Option SideFault) → HearsNothing c s
    → HearsAllExactly s c bytes fault new
    → (fault ≡ None) × (new ≡ c)
nothing_heard s c new bytes fault ignored HearsAllBy.used_up = (refl, refl)
nothing_heard s c new bytes fault ignored (HearsAllBy.faulty {shown = x} used some h) =
    let e = ignored bytes used (Some x) new h in let clash : Some x ≡ None = e.0 in absurd (cc)
nothing_heard s c new bytes fault ignored (HearsAllBy.goes_on {mid = mid} used some h more) =
    let same : mid ≡ c = (ignored bytes used None mid h).1 in
    let still : HearsNothing mid s = subst (λ (x : Controller). HearsNothing x s) (sym same) ignored in
    let rest = nothing_heard s mid new (drop used bytes) fault still more in
    (rest.0, rest.1 ∙ same)

down_at : (c : Controller) (s : Colour) → (side_of (downed c s).sides s).up ≡ None
down_at c Black = refl
down_at c White = refl

-- a fault puts the side down
down_of_outcome : (c : Controller) (s : Colour) (engine : EngineRun) (o : Outcome)
    (x : SideFault) → fault_of o ≡ Some x
    → (side_of (after_outcome c s engine o).sides s).up ≡ None
down_of_outcome c s engine (Down fault) x e = down_at c s
down_of_outcome c s engine Unfit x e = absurd (cc)
down_of_outcome c s engine (Forfeits cause) x e = absurd (cc)
down_of_outcome c s engine Confirms x e = absurd (cc)
down_of_outcome c s engine Resigns x e = absurd (cc)
down_of_outcome c s engine (Moves v) x e = absurd (cc)
down_of_outcome c s engine Refuses x e = absurd (cc)
down_of_outcome c s engine TakesBack x e = absurd (cc)
down_of_outcome c s engine Keeps x e = absurd (cc)

down_of_up : (c : Controller) (s : Colour) (engine : EngineRun) (bytes : List ℕ) (used : ℕ) (fault : Option SideFault)
    (x : SideFault) (new : Controller)
    → fault ≡ Some x → HearsUp KeepsAll c s engine bytes used fault new → (side_of new.sides s).up ≡ None
down_of_up c s engine bytes used fault x new e (HearsUp.replied {value = v} p) =
    down_of_outcome c s (heard_reply engine) (outcome c.game s (oldest engine.unanswered) v) x e
down_of_up c s engine bytes used fault x new e (HearsUp.faulted p) = down_at c s
down_of_up c s engine bytes used fault x new e (HearsUp.nothing_yet nothing is) = absurd (cc)

down_of_fault : (c : Controller) (s : Colour) (bytes : List ℕ) (used : ℕ) (x : SideFault) (new : Controller)
    → HearsExactly c s bytes used (Some x) new
    → (side_of new.sides s).up ≡ None
down_of_fault c s bytes used x new h = by_state c.verdict (side_of c.sides s).up h
  where
    by_state : (v : Option Verdict) (up : Option EngineRun) → HearsWhere KeepsAll c s bytes v up used (Some x) new
        → (side_of new.sides s).up ≡ None
    by_state (Some v) up a = let clash : Some x ≡ None = a.no_fault in absurd (cc)
    by_state None None a = let clash : Some x ≡ None = a.no_fault in absurd (cc)
    by_state None (Some engine) a = down_of_up c s engine bytes used (Some x) x new refl a

-- ---- a piece, with another after it

-- what was answered first stays so
first_in_both : (rest a b : List ℕ) (place : ℕ) (answer : Result Reply ReplyFault) → IsFirst (rest ++ a) place answer
    → IsFirst (rest ++ (a ++ b)) place answer
first_in_both rest a b place answer first =
    subst (λ (t : List ℕ). IsFirst t place answer) (append_assoc rest a b) (first_more (rest ++ a) b place answer first)

-- the same uses of the piece show the same with another piece after it
abbrev Takes : Controller → Colour → List ℕ → ℕ → Option SideFault → Controller → Type 0
Takes c s a used fault new = (used ≤ length a) × ((b : List ℕ) → HearsExactly c s (a ++ b) used fault new)

-- the whole piece is used, and what is heard next is what is heard of both
abbrev TakesIn : Controller → Colour → List ℕ → ℕ → Controller → Type 0
TakesIn c s a used mid =
    (used ≡ length a) × ((b : List ℕ) (u : ℕ) (f : Option SideFault) (new : Controller) → HearsExactly mid s b u f new
    → HearsExactly c s (a ++ b) (length a + u) f new)

-- one of the two
abbrev Taken : Controller → Colour → List ℕ → ℕ → Option SideFault → Controller → Type 0
Taken c s a used fault mid = Takes c s a used fault mid ⊎ (fault ≡ None) × TakesIn c s a used mid

inside_piece : (rest a : List ℕ) (used : ℕ) → length rest + used ≤ length (rest ++ a) → used ≤ length a
inside_piece rest a used h = omega (arith, h, length-append rest a)

-- the first answer of a piece after another
moved_first : (rest kept a b : List ℕ) (u : ℕ) (answer : Result Reply ReplyFault) → kept ≡ rest ++ a
    → IsFirst (kept ++ b) (length kept + u) answer
    → IsFirst (rest ++ (a ++ b)) (length rest + (length a + u)) answer
moved_first rest kept a b u answer is first =
    let text : kept ++ b ≡ rest ++ (a ++ b) = ap (λ (t : List ℕ). t ++ b) is ∙ append_assoc rest a b in
    let place : length kept + u ≡ length rest + (length a + u) = omega (arith, ap length is, length-append rest a) in
    subst (λ (n : ℕ). IsFirst (rest ++ (a ++ b)) n answer) place
    (subst (λ (t : List ℕ). IsFirst t (length kept + u) answer) text first)

-- an engine that took a piece in, and what it is then
absorbed : (c : Controller) (s : Colour) (engine : EngineRun) (kept a b : List ℕ) (u : ℕ)
    (f : Option SideFault) (new : Controller)
    → kept ≡ engine.reader ++ a
    → HearsUp KeepsAll (with_side_up c s (record engine { reader = kept })) s (record engine { reader = kept })
    b u f new
    → HearsUp KeepsAll c s engine (a ++ b) (length a + u) f new
absorbed c s engine kept a b u f new is (HearsUp.replied {value = v} p) =
    let o = outcome c.game s (oldest engine.unanswered) v in
    let first = moved_first (engine.reader) kept a b u (Ok v) is p in
    let H : Controller → Type 0 = λ x. HearsUp KeepsAll c s engine (a ++ b) (length a + u) (fault_of o) x in
    subst H (sym (outcome_after_up c s (record engine { reader = kept }) (heard_reply engine) o))
    (HearsUp.replied first)
absorbed c s engine kept a b u f new is (HearsUp.faulted {shown = x} p) =
    let first = moved_first (engine.reader) kept a b u (Err x) is p in
    let H : Controller → Type 0 = λ y. HearsUp KeepsAll c s engine (a ++ b) (length a + u) (Some (side_fault x)) y in
    subst H (sym (down_after_up c s (record engine { reader = kept }))) (HearsUp.faulted first)
absorbed c s engine kept a b u f new is (HearsUp.nothing_yet {kept = k} nothing same) =
    let text : kept ++ b ≡ engine.reader ++ (a ++ b) =
    ap (λ (t : List ℕ). t ++ b) is ∙ append_assoc engine.reader a b in
    let used : length (a ++ b) ≡ length a + length b = length-append a b in
    let H : ℕ → Controller → Type 0 = λ n x. HearsUp KeepsAll c s engine (a ++ b) n None x in
    let quiet : GivesNoAnswer (engine.reader ++ (a ++ b)) = subst GivesNoAnswer text nothing in
    subst (λ (n : ℕ). H n new) used
    (subst (H (length (a ++ b))) (sym (up_twice c s (record engine { reader = kept }) (record engine { reader = k })))
    (HearsUp.nothing_yet quiet (same ∙ text)))

-- what is heard of a side that is up, and back
heard_up : (c : Controller) (s : Colour) (engine : EngineRun) (bytes : List ℕ) (used : ℕ)
    (fault : Option SideFault) (new : Controller)
    → c.verdict ≡ None → (side_of c.sides s).up ≡ Some engine → HearsExactly c s bytes used fault new
    → HearsUp KeepsAll c s engine bytes used fault new
heard_up c s engine bytes used fault new none up h =
    let P : Option EngineRun → Type 0 = λ u. HearsWhere KeepsAll c s bytes None u used fault new in
    let Q : Option Verdict → Type 0 = λ v. HearsWhere KeepsAll c s bytes v (side_of c.sides s).up used fault new in
    subst P up (subst Q none h)

-- without a fault a piece is used up to the end of a reply, or taken in
taken_up : (c : Controller) (s : Colour) (engine : EngineRun) (a : List ℕ) (used : ℕ) (fault : Option SideFault)
    (mid : Controller) → c.verdict ≡ None
    → (side_of c.sides s).up ≡ Some engine → HearsUp KeepsAll c s engine a used fault mid → Taken c s a used fault mid
taken_up c s engine a used fault mid none up (HearsUp.replied {value = v} p) =
    inl (
      inside_piece engine.reader a used p.inside,
      λ b.
          hears_up c s engine (a ++ b) used _ _ none up
          (HearsUp.replied (first_in_both engine.reader a b (length engine.reader + used) (Ok v) p)),
    )
taken_up c s engine a used fault mid none up (HearsUp.faulted {shown = x} p) =
    inl (
      inside_piece engine.reader a used p.inside,
      λ b.
          hears_up c s engine (a ++ b) used _ _ none up
          (HearsUp.faulted (first_in_both engine.reader a b (length engine.reader + used) (Err x) p)),
    )
taken_up c s engine a used fault mid none up (HearsUp.nothing_yet {kept = kept} nothing is) =
    inr (
      refl,
      (
        refl,
        λ b u f new h.
            hears_up c s engine (a ++ b) (length a + u) f new none up
            (absorbed c s engine kept a b u f new is
            (heard_up (with_side_up c s (record engine { reader = kept })) s (record engine { reader = kept }) b u f new
            none (up_of c.sides s (record engine { reader = kept })) h)),
      ),
    )

ignored_in : (c : Controller) (s : Colour) (a : List ℕ) (used : ℕ) (fault : Option SideFault) (mid : Controller)
    → ((bytes : List ℕ) (u : ℕ) (f : Option SideFault) (new : Controller) → HearsExactly c s bytes u f new
    → IsIgnored KeepsAll c bytes u f new)
    → ((bytes : List ℕ) (u : ℕ) (f : Option SideFault) (new : Controller) → IsIgnored KeepsAll c bytes u f new
    → HearsExactly c s bytes u f new)
    → IsIgnored KeepsAll c a used fault mid → (fault ≡ None) × TakesIn c s a used mid
ignored_in c s a used fault mid open_it close_it d = (
  d.no_fault,
  (
    d.all,
    λ b u f new h.
        let there : HearsExactly c s b u f new = subst (λ (x : Controller). HearsExactly x s b u f new) d.same h in
        let e = open_it b u f new there in
        close_it (a ++ b) (length a + u) f new
        (record { all = omega (arith, e.all, length-append a b); no_fault = e.no_fault; same = e.same }),
  ),
)

taken : (c : Controller) (s : Colour) (a : List ℕ) (used : ℕ) (fault : Option SideFault) (mid : Controller)
    → HearsExactly c s a used fault mid
    → Taken c s a used fault mid
taken c s a used fault mid h = by_state c.verdict (side_of c.sides s).up refl refl h
  where
    by_state : (v : Option Verdict) (up : Option EngineRun) → c.verdict ≡ v → (side_of c.sides s).up ≡ up
        → HearsWhere KeepsAll c s a v up used fault mid
        → Taken c s a used fault mid
    by_state (Some v) up e f x =
        let Q : List ℕ → ℕ → Option SideFault → Controller → Option Verdict → Type 0 =
        λ bytes u g new w. HearsWhere KeepsAll c s bytes w (side_of c.sides s).up u g new in
        inr (ignored_in c s a used fault mid (λ bytes u g new y. subst (Q bytes u g new) e y)
        (λ bytes u g new y. subst (Q bytes u g new) (sym e) y) x)
    by_state None None e f x =
        let Q : List ℕ → ℕ → Option SideFault → Controller → Option Verdict → Type 0 =
        λ bytes u g new w. HearsWhere KeepsAll c s bytes w (side_of c.sides s).up u g new in
        let P : List ℕ → ℕ → Option SideFault → Controller → Option EngineRun → Type 0 =
        λ bytes u g new w. HearsWhere KeepsAll c s bytes None w u g new in
        inr (ignored_in c s a used fault mid
        (λ bytes u g new y. subst (P bytes u g new) f (subst (Q bytes u g new) e y))
        (λ bytes u g new y. subst (Q bytes u g new) (sym e) (subst (P bytes u g new) (sym f) y)) x)
    by_state None (Some engine) e f x = taken_up c s engine a used fault mid e f x

some_more : (a b : List ℕ) → 0 < length a → 0 < length (a ++ b)
some_more a b some = omega (arith, some, length-append a b)

-- ---- two pieces

-- a piece that was taken in, and all of the next
absorb_all : (s : Colour) (c mid new : Controller) (a b : List ℕ) (fault : Option SideFault) → 0 < length a
    → HearsExactly c s a (length a) None mid
    → TakesIn c s a (length a) mid → HearsAllExactly s mid b fault new → HearsAllExactly s c (a ++ b) fault new
absorb_all s c mid new a b fault some h in_it HearsAllBy.used_up =
    let all : HearsAllExactly s c a None mid =
    HearsAllBy.goes_on (length a) some h
    (subst (λ (t : List ℕ). HearsAllExactly s mid t None mid) (sym (drop-length a)) HearsAllBy.used_up) in
    subst (λ (t : List ℕ). HearsAllExactly s c t None mid) (sym (append-nil a)) all
absorb_all s c mid new a b fault some h in_it (HearsAllBy.faulty {shown = x} u some2 q) =
    HearsAllBy.faulty (length a + u) (some_more a b some) (in_it.1 b u (Some x) new q)
absorb_all s c mid new a b fault some h in_it (HearsAllBy.goes_on {mid = j} u some2 q more) =
    HearsAllBy.goes_on (length a + u) (some_more a b some) (in_it.1 b u None j q)
    (subst (λ (t : List ℕ). HearsAllExactly s j t fault new) (sym (drop-append-add a b u)) more)

-- a piece of which some was used without a fault, and all of what is left with the next
step : (s : Colour) (c mid new : Controller) (a b : List ℕ) (used : ℕ) (fault : Option SideFault) → 0 < length a
    → HearsExactly c s a used None mid
    → Taken c s a used None mid → HearsAllExactly s mid (drop used a ++ b) fault new
    → HearsAllExactly s c (a ++ b) fault new
step s c mid new a b used fault some h (inl takes) more =
    HearsAllBy.goes_on used (some_more a b some) (takes.1 b)
    (subst (λ (t : List ℕ). HearsAllExactly s mid t fault new) (sym (drop-append-le used a b takes.0)) more)
step s c mid new a b used fault some h (inr in_it) more =
    let all : used ≡ length a = in_it.1.0 in
    let none : drop used a ++ b ≡ b = ap (λ (n : ℕ). drop n a ++ b) all ∙ ap (λ (t : List ℕ). t ++ b) (drop-length a) in
    absorb_all s c mid new a b fault some (subst (λ (n : ℕ). HearsExactly c s a n None mid) all h) (refl, in_it.1.1)
    (subst (λ (t : List ℕ). HearsAllExactly s mid t fault new) none more)

-- a piece that shows a fault, and another
step_fault : (s : Colour) (c mid new : Controller) (a b : List ℕ) (used : ℕ) (x : SideFault) → 0 < length a
    → HearsExactly c s a used (Some x) mid
    → Taken c s a used (Some x) mid → new ≡ mid → HearsAllExactly s c (a ++ b) (Some x) new
step_fault s c mid new a b used x some h (inl takes) same =
    subst (λ (y : Controller). HearsAllExactly s c (a ++ b) (Some x) y) (sym same)
    (HearsAllBy.faulty used (some_more a b some) (takes.1 b))
step_fault s c mid new a b used x some h (inr in_it) same = let clash : Some x ≡ None = in_it.0 in absurd (cc)

pub joined : (s : Colour) (c mid two : Controller) (a b : List ℕ) (f g : Option SideFault) → HearsAllExactly s c a f mid
    → HearsAllExactly s mid b g two
    → HearsAllExactly s c (a ++ b) (first_fault f g) two
joined s c mid two a b f g HearsAllBy.used_up second = second
joined s c mid two a b f g (HearsAllBy.faulty {shown = x} used some h) second =
    step_fault s c mid two a b used x some h (taken c s a used (Some x) mid h)
    (nothing_heard s mid two b g (down_hears mid s (down_of_fault c s a used x mid h)) second).1
joined s c mid two a b f g (HearsAllBy.goes_on {mid = j} used some h more) second =
    step s c j two a b used (first_fault f g) some h (taken c s a used None j h)
    (joined s j mid two (drop used a) b f g more second)

-- after a fault the side is down
all_down : (s : Colour) (c mid : Controller) (a : List ℕ) (f : Option SideFault) → IsSome f
    → HearsAllExactly s c a f mid → (side_of mid.sides s).up ≡ None
all_down s c mid a f shows HearsAllBy.used_up = absurd (cc)
all_down s c mid a f shows (HearsAllBy.faulty {shown = x} used some h) = down_of_fault c s a used x mid h
all_down s c mid a f shows (HearsAllBy.goes_on {mid = j} used some h more) = all_down s j mid (drop used a) f shows more

-- ---- equal calls

pub one_calls : (calls : List Call) (c x y : Controller) → CallsExactly c calls x → CallsExactly c calls y → x ≡ y
one_calls [] c x y CallsBy.none CallsBy.none = refl
one_calls (starts s ∷ calls) c x y (CallsBy.start e more) (CallsBy.start e2 more2) =
    one_calls calls (started c s) x y more more2
one_calls (sends s ∷ calls) c x y (CallsBy.send e more) (CallsBy.send e2 more2) =
    one_calls calls (sent c s) x y more more2
one_calls (hears s bytes ∷ calls) c x y (CallsBy.hear {mid = i} u f h more) (CallsBy.hear {mid = j} v g h2 more2) =
    let e = one_heard c s bytes u v f g i j h h2 in
    one_calls calls i x y more (subst (λ (m : Controller). CallsExactly m calls y) (sym e.new_is) more2)
one_calls (hears_all s bytes ∷ calls) c x y (CallsBy.hear_all {mid = i} f h more)
    (CallsBy.hear_all {mid = j} g h2 more2) =
    let e = one_all s c bytes f g i j h h2 in
    one_calls calls i x y more (subst (λ (m : Controller). CallsExactly m calls y) (sym e.1) more2)
one_calls (loses s ∷ calls) c x y (CallsBy.lose more) (CallsBy.lose more2) = one_calls calls (lost c s) x y more more2

-- ---- the law

pub as_one : (s : Colour) (c mid two one : Controller) (a b : List ℕ) (first second both : Option SideFault)
    → HearsAllExactly s c a first mid
    → HearsAllExactly s mid b second two → HearsAllExactly s c (a ++ b) both one
    → AreAsOne mid two one first second both
as_one s c mid two one a b first second both in_a in_b in_both =
    let e = one_all s c (a ++ b) both (first_fault first second) one two in_both
    (joined s c mid two a b first second in_a in_b) in
    record {
      fault = e.0;
      same = e.1;
      unheard = λ shows. nothing_heard s mid two b second (down_hears mid s (all_down s c mid a first shows in_a)) in_b;
      later = λ calls x y p q. one_calls calls two x y (subst (λ (m : Controller). CallsExactly m calls x) e.1 p) q;
    }
