-- Which commands an engine was asked in a trial.
use Rattle.std.proofs.Common.{◌≡◌, ◌∙◌, ap, sym, ℕ, suc, ◌+◌, ◌≤◌, List, [], ◌∷◌, ◌++◌, length, take, drop, refl}
use Rattle.std.proofs.Common.{◌⊎◌, inl, inr, append_assoc, arith, slice_get, subst, zero-add}
use Rattle.std.specs.Prelude.{Option, Some, None, IfSome}
use Rattle.std.proofs.lemmas.List.{length-append, length-map, length-take, map-append}
use Rattle.std.proofs.lemmas.List.{take-append-drop}
use Rattle.std.proofs.lemmas.List.Elements.{All-append, All-cons, All-nil}
use Rattle.std.proofs.Math.Seq.{take-append_seam}
use Rattle.gtp_process.specs.declared.starter.Process.{Ghosts}
use Rattle.gtp_check_judge.specs.declared.asking.CheckCommand.{CheckCommand}
use Rattle.gtp_check_judge.specs.declared.exam.Exam.{Exam}
use Rattle.gtp_check_course.specs.declared.unasked.Unasked.{Unasked}
use Rattle.gtp_check_talk.specs.declared.engine.Engine.{Engine}
use Rattle.gtp_check_talk.specs.declared.fault.Fault.{Fault}
use Rattle.gtp_check_talk.specs.declared.notes.Notes.{Notes}
use Rattle.gtp_check_talk.specs.declared.said.Purpose.{Purpose}
use Rattle.gtp_check_talk.specs.declared.said.Said.{Said}
use Rattle.gtp_check_talk.specs.Dialogues.{AreFor, AreHeard, Dialogue, IsAsked, IsExchanged, IsRead, begun_with}
use Rattle.gtp_check_talk.specs.Dialogues.{IsFull, IsHeldBack, dialogue}
use Rattle.gtp_check_talk.specs.Said.{commands_of}

-- an engine that was just started was asked nothing
pub asked_nothing : {P : Type 0} (engine : Engine P) (exam : Exam) (notes : Notes) (process : P)
    → dialogue engine exam notes ≡ begun_with exam process notes → engine.talk.items ≡ []
asked_nothing {P} engine exam notes process is = ap {A = Dialogue P} (λ one. one.talk) is

-- one command more was asked
pub asked_more : {P : Type 0} (purpose : Purpose) (before : Dialogue P) (command : CheckCommand)
    (after : Dialogue P) → IsAsked purpose before command after
    → commands_of after.talk ≡ commands_of before.talk ++ command ∷ []
asked_more {P} purpose before command after asked =
    ap {A = Dialogue P} (λ one. commands_of one.talk) asked.joins
    ∙ map-append (λ (said : Said). said.command) before.talk _

-- for the purpose of those before
pub asked_for : {P : Type 0} (purpose : Purpose) (before : Dialogue P) (command : CheckCommand)
    (after : Dialogue P) → IsAsked purpose before command after
    → AreFor purpose before.talk → AreFor purpose after.talk
asked_for {P} purpose before command after asked all =
    let joined = ap {A = Dialogue P} (λ one. one.talk) asked.joins in
    subst (AreFor purpose) (sym joined)
    (All-append (λ (said : Said). said.purpose ≡ purpose) before.talk _ all
    (All-cons (λ (said : Said). said.purpose ≡ purpose) _ [] refl (All-nil (λ (said : Said). said.purpose ≡ purpose))))

heard_talk : {P : Type 0} (bytes : List ℕ) (before : Dialogue P) (fault : Option Fault) (after : Dialogue P)
    → AreHeard bytes before fault after → after.talk ≡ before.talk
heard_talk {P} bytes before None after heard = ap {A = Dialogue P} (λ one. one.talk) heard.leads
heard_talk {P} bytes before (Some fault) after heard = ap {A = Dialogue P} (λ one. one.talk) heard.leads

read_talk : {P : Type 0} (known : Ghosts P) (before : Dialogue P) → {fault : Option Fault} {after : Dialogue P}
    → IsRead known before fault after → after.talk ≡ before.talk
read_talk known before
    (IsRead.gives {fault = fault} {after = after} bytes process some gave whole kept heard) =
    heard_talk bytes (record before { process = process }) fault after heard
read_talk known before (IsRead.ends process ended gave took) = refl
read_talk known before (IsRead.breaks process cut gave took) = refl

-- in an exchange none is asked
pub exchanged_talk : {P : Type 0} (known : Ghosts P) (before : Dialogue P)
    → {fault : Option Fault} {after : Dialogue P} → IsExchanged known before fault after → after.talk ≡ before.talk
exchanged_talk known before (IsExchanged.owes_nothing process none sent) = refl
exchanged_talk known before (IsExchanged.held {fault = fault} {after = after} owes some heard) =
    heard_talk before.held (record before { held = [] }) fault after heard
exchanged_talk known before (IsExchanged.reads process owes none sent read) =
    read_talk known (record before { process = process; waiting = [] }) read

-- what was asked is a front of the commands
pub asks_first : (commands rest : List CheckCommand) (talk : List Said) → commands_of talk ++ rest ≡ commands
    → commands_of talk ≡ take (length talk) commands
asks_first commands rest talk is =
    sym (take-append_seam (commands_of talk) rest)
    ∙ ap (λ (n : ℕ). take n (commands_of talk ++ rest)) (length-map talk (λ (said : Said). said.command))
    ∙ ap (take (length talk)) is

-- some commands more
pub some_more_of : (mid new rest left commands : List CheckCommand) (count : ℕ) → mid ++ rest ≡ commands
    → new ≡ mid ++ take count rest → left ≡ drop count rest → new ++ left ≡ commands
some_more_of mid new rest left commands count is more left-is =
    let one = append_assoc mid (take count rest) (drop count rest) in
    let both = take-append-drop count rest in
    cc

-- what comes next in two lists is what comes next in the second
pub at_back : {A : Type 0} (xs ys : List A) (k : ℕ) → slice_get (xs ++ ys) (length xs + k) ≡ slice_get ys k
at_back [] ys k = ap (slice_get ys) (zero-add k)
at_back (x ∷ xs) ys k =
    let one : suc (length xs) + k ≡ suc (length xs + k) = omega arith in
    ap (λ (n : ℕ). slice_get (x ∷ (xs ++ ys)) n) one ∙ at_back xs ys k

-- which command comes next, after some more of the rest of them were asked
pub next_of : (old rest commands : List CheckCommand) (talk : List Said) (count : ℕ) → old ++ rest ≡ commands
    → commands_of talk ≡ old ++ take count rest → count ≤ length rest
    → slice_get commands (length talk) ≡ slice_get rest count
next_of old rest commands talk count is more few =
    let mapped : length (commands_of talk) ≡ length talk = length-map talk (λ (said : Said). said.command) in
    let long : length talk ≡ length old + count =
    omega (
      arith,
      mapped,
      ap (λ (list : List CheckCommand). length list) more,
      length-append old (take count rest),
      length-take count rest,
    ) in
    ap (λ (list : List CheckCommand). slice_get list (length talk)) (sym is)
    ∙ ap (λ (n : ℕ). slice_get (old ++ rest) n) long ∙ at_back old rest count

-- where nothing waits, the next one is held back
pub next_may_not : (unasked : Unasked) (exam : Exam) (talk : List Said) (waiting : List ℕ)
    (next : Option CheckCommand) → waiting ≡ []
    → IfSome next (λ command. IsFull talk waiting ⊎ IsHeldBack unasked exam command)
    → IfSome next (IsHeldBack unasked exam)
next_may_not unasked exam talk waiting None none h = h
next_may_not unasked exam talk waiting (Some command) none h =
    let empty : length waiting ≡ 0 = ap (λ (lines : List ℕ). length lines) none in
    elim h as (λ _. IsHeldBack unasked exam command) [
      | inl full ↦ elim full as (λ _. IsHeldBack unasked exam command) [
        | inl long ↦ absurd (omega (arith, long))
        | inr pieces ↦ absurd (omega (arith, pieces.1))
      ]
      | inr held ↦ held
    ]
