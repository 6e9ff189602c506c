-- Nothing is found of whoever answers rightly.
use Rattle.std.proofs.Common.{◌≡◌, ℕ, ◌+◌, List, [], ◌∷◌, ◌++◌, length, map, Option, Some}
use Rattle.std.proofs.Common.{None, refl, sym, ◌∙◌, ap, subst, arith, append_assoc, length-append, take, zero, suc}
use Rattle.std.specs.Prelude.{Result, Ok, Err, drop}
use Rattle.std.specs.List.{AllByRecursion}
use Rattle.std.proofs.Math.Seq.{drop-append_seam}
use Rattle.go_board.specs.declared.rules.KoRule.{KoRule}
use Rattle.gtp_wire.specs.declared.replies.Reply.{Reply}
use Rattle.gtp_wire.specs.declared.replies.ReplyFault.{ReplyFault}
use Rattle.gtp_wire.specs.declared.replies.ReplyFault.TheVariants.{NoStatus, Overlong}
use Rattle.gtp_wire.specs.Replies.{IsFirst, GivesAnswer, GivesNoAnswer, past_blanks}
use Rattle.gtp_wire.proofs.first_answers.OneAnswer.{one_first, reply_is_first}
use Rattle.gtp_wire.proofs.first_answers.OneByteMore.{first_more}
use Rattle.gtp_check_judge.specs.declared.unanswered.Asked.{Asked}
use Rattle.gtp_check_judge.specs.declared.exam.Exam.{Exam}
use Rattle.gtp_check_judge.specs.declared.exam.Finding.{Finding}
use Rattle.gtp_check_judge.specs.RightEngine.{RightEngine, fresh_engine}
use Rattle.gtp_check_judge.specs.Judging.{oldest}
use Rattle.gtp_check_judge.specs.Exam.{Hears, hearing}
use Rattle.gtp_check_judge.specs.Laws.{IsRight}
use Rattle.gtp_check_judge.specs.Laws.{AnswersRightly, commands_of, Exchange, AllRight, Talks}
use Rattle.gtp_check_judge.proofs.engines.OneGame.{RightsFrom, one_right, rights_from}
use Rattle.gtp_check_judge.proofs.engines.Wire.{IsSent, RawsOf, Wire, entry_of, wire}
use Rattle.gtp_check_judge.proofs.talks.Findings.{unblamed}

-- two texts with the same front have the same rest
pub same_rest : (a b c d : List ℕ) → a ++ b ≡ c ++ d → length a ≡ length c → b ≡ d
same_rest a b c d e len =
    sym (drop-append_seam a b) ∙ ap (drop (length a)) e ∙ ap (λ (n : ℕ). drop n (c ++ d)) len ∙ drop-append_seam c d

-- no bytes give no answer
pub nothing_given : (said : Result Reply ReplyFault) → GivesAnswer [] said → ⊥
unfolding past_blanks
nothing_given (Ok value) read =
    omega (arith, ap length read.whole.last, length-append read.whole.front (10 ∷ []))
nothing_given (Err NoStatus) read = cc (read.shape)
nothing_given (Err Overlong) read = omega (arith, read)

pub none_taken : (n : ℕ) → take {A = ℕ} n [] ≡ []
none_taken zero = refl
none_taken (suc n) = refl

pub nothing_first : (n : ℕ) (read : Result Reply ReplyFault) → IsFirst [] n read → ⊥
nothing_first n read first =
    nothing_given read (subst (λ (t : List ℕ). GivesAnswer t read) (none_taken n) first.is_given)

-- where no front is an answer none comes first
none_first : (text all : List ℕ) (n : ℕ) (read : Result Reply ReplyFault) → GivesNoAnswer text → text ≡ all
    → IsFirst all n read → ⊥
none_first text all n read none is first =
    let here : IsFirst text n read = subst (λ (t : List ℕ). IsFirst t n read) (sym is) first in
    none n read here.inside here.is_given

pub entries_are : (said : List Exchange) → commands_of said ≡ map entry_of said
entries_are [] = refl
entries_are (x ∷ xs) = ap (λ (l : List Asked). x.entry ∷ l) (entries_are xs)

-- what is written after the answers that were heard
record Remains (engine : RightEngine) (said : List Exchange) (unanswered : List Asked) (rest : List ℕ) : Type 0 where
  here : RightEngine
  rightly : AnswersRightly here unanswered rest
  here_is : (after : RightEngine) → RightsFrom engine said after → after ≡ here

remains : (said : List Exchange) (unanswered : List Asked) (raw rest out : List ℕ) (engine : RightEngine)
    (all : List Asked) → AnswersRightly engine all out → all ≡ map entry_of said ++ unanswered
    → AllByRecursion IsSent (map entry_of said ++ unanswered)
    → RawsOf said raw → out ≡ raw ++ rest → Remains engine said unanswered rest
remains [] unanswered raw rest out engine all rightly e sent raws is = record {
  here = engine;
  rightly =
      subst (λ (t : List ℕ). AnswersRightly engine unanswered t) (is ∙ ap (λ (t : List ℕ). t ++ rest) raws)
      (subst (λ (l : List Asked). AnswersRightly engine l out) e rightly);
  here_is = λ after h. h;
}
remains (x ∷ xs) unanswered raw rest out engine all (AnswersRightly.no_more g l last none) e sent raws is =
    let texts : out ≡ raws.0 ++ (raws.1 ++ rest) =
    is ∙ ap (λ (t : List ℕ). t ++ rest) raws.2 ∙ append_assoc raws.0 raws.1 rest in
    absurd (none_first out (raws.0 ++ (raws.1 ++ rest)) (length raws.0) (Ok x.reply) none texts
    (reply_is_first raws.0 (raws.1 ++ rest) x.reply raws.3))
remains (x ∷ xs) unanswered raw rest out engine all
    (AnswersRightly.answers {after = after} {unread = unread} {out = more} entry reply text read right later)
    e sent raws is =
    let same : entry ≡ x.entry = cc e in
    let left : unread ≡ map entry_of xs ++ unanswered = cc e in
    let texts : text ++ more ≡ raws.0 ++ (raws.1 ++ rest) =
    is ∙ ap (λ (t : List ℕ). t ++ rest) raws.2 ∙ append_assoc raws.0 raws.1 rest in
    let both = one_first (raws.0 ++ (raws.1 ++ rest)) (length text) (length raws.0) (Ok reply) (Ok x.reply)
    (subst (λ (t : List ℕ). IsFirst t (length text) (Ok reply)) texts (reply_is_first text more reply read))
    (reply_is_first raws.0 (raws.1 ++ rest) x.reply raws.3) in
    let oks : Ok reply ≡ Ok x.reply = both.1 in
    let reply_is : reply ≡ x.reply = cc oks in
    let here : IsRight engine x.entry x.reply after =
    subst (λ (r : Reply). IsRight engine x.entry r after) reply_is
    (subst (λ (a : Asked). IsRight engine a reply after) same right) in
    let b : Remains after xs unanswered rest =
    remains xs unanswered raws.1 rest more after unread later left sent.1 raws.4
    (same_rest text more raws.0 (raws.1 ++ rest) texts both.0) in
    record {
      here = b.here;
      rightly = b.rightly;
      here_is = λ last h.
          b.here_is last (subst (λ (g : RightEngine). RightsFrom g xs last)
          (one_right engine x.entry x.reply h.0 after sent.0.limits h.1 here) h.2);
    }

-- what is read next is a right answer to the oldest command
record NextRight (engine : RightEngine) (unanswered : List Asked) (said : Result Reply ReplyFault) : Type 0 where
  entry : Asked
  reply : Reply
  after : RightEngine
  oldest_is : oldest unanswered ≡ Some entry
  read : said ≡ Ok reply
  right : IsRight engine entry reply after

next_right : (engine : RightEngine) (unanswered : List Asked) (out text : List ℕ) (n : ℕ)
    (read : Result Reply ReplyFault) → AnswersRightly engine unanswered out → out ≡ text → IsFirst text n read
    → NextRight engine unanswered read
next_right engine unanswered out text n read (AnswersRightly.no_more g l last none) is first =
    absurd (none_first out text n read none is first)
next_right engine unanswered out text n read
    (AnswersRightly.answers {after = after} {unread = unread} {out = more} entry reply bytes reads right later)
    is first =
    let both = one_first text (length bytes) n (Ok reply) read
    (subst (λ (t : List ℕ). IsFirst t (length bytes) (Ok reply)) is (reply_is_first bytes more reply reads)) first in
    record { entry = entry; reply = reply; after = after; oldest_is = refl; read = sym both.1; right = right }

pub rightly_unblamed : (rule : KoRule) (out sent came : List ℕ) (said : List Exchange) (old new : Exam)
    (bytes later : List ℕ) (used : ℕ) (read : Option (Result Reply ReplyFault)) (finding : Option Finding)
    → Talks rule sent came said old → Hears old bytes (hearing used read finding) new
    → AnswersRightly (fresh_engine rule) (commands_of said ++ old.unanswered) out
    → out ≡ came ++ (bytes ++ later)
    → finding ≡ None
rightly_unblamed rule out sent came said old new bytes later used None finding talk h rightly front = h.2.0
rightly_unblamed rule out sent came said old new bytes later used (Some read) finding talk h rightly front =
    let w : Wire sent came said old = wire rule sent came said old talk in
    let rest : List ℕ = old.reader ++ (bytes ++ later) in
    let b : Remains (fresh_engine rule) said old.unanswered rest =
    remains said old.unanswered w.raw rest out (fresh_engine rule) (commands_of said ++ old.unanswered) rightly
    (ap (λ (l : List Asked). l ++ old.unanswered) (entries_are said)) w.all w.raws
    (front ∙ ap (λ (t : List ℕ). t ++ (bytes ++ later)) w.came_is ∙ append_assoc w.raw old.reader (bytes ++ later)) in
    let first : IsFirst rest (length old.reader + used) read =
    subst (λ (t : List ℕ). IsFirst t (length old.reader + used) read) (append_assoc old.reader bytes later)
    (first_more (old.reader ++ bytes) later (length old.reader + used) read h.1.first) in
    let next : NextRight b.here old.unanswered read =
    next_right b.here old.unanswered rest rest (length old.reader + used) read b.rightly refl first in
    unblamed rule sent came said old new bytes used next.reply finding next.entry talk
    (subst (λ (r : Result Reply ReplyFault). Hears old bytes (hearing used (Some r) finding) new) next.read h)
    next.oldest_is
    (λ before all. (
      next.after,
      subst (λ (g : RightEngine). IsRight g next.entry next.reply next.after)
          (sym (b.here_is before (rights_from (fresh_engine rule) said before all))) next.right,
    ))

-- ---- one engine

all_front : (xs ys : List Asked) → AllByRecursion IsSent (xs ++ ys) → AllByRecursion IsSent xs
all_front [] ys all = tt
all_front (x ∷ xs) ys all = (all.0, all_front xs ys all.1)

one_engine : (engine : RightEngine) (xs : List Exchange) (a b : RightEngine) → AllByRecursion IsSent (map entry_of xs)
    → RightsFrom engine xs a → RightsFrom engine xs b → a ≡ b
one_engine engine [] a b all h k = h ∙ sym k
one_engine engine (x ∷ xs) a b all h k =
    one_engine h.0 xs a b all.1 h.2 (subst (λ (g : RightEngine). RightsFrom g xs b)
    (one_right engine x.entry x.reply k.0 h.0 all.0.limits k.1 h.1) k.2)

pub one_left : (rule : KoRule) (sent came : List ℕ) (said : List Exchange) (exam : Exam) (one other : RightEngine)
    → Talks rule sent came said exam → AllRight (fresh_engine rule) said one
    → AllRight (fresh_engine rule) said other → one ≡ other
one_left rule sent came said exam one other talk a b =
    let w : Wire sent came said exam = wire rule sent came said exam talk in
    one_engine (fresh_engine rule) said one other (all_front (map entry_of said) exam.unanswered w.all)
    (rights_from (fresh_engine rule) said one a) (rights_from (fresh_engine rule) said other b)
