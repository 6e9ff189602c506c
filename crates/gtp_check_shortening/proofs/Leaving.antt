-- Commands are left out in place: those after them move up, and the end is cut off.
use Rattle.std.proofs.Common.{◌≡◌, ◌≤◌, ◌+◌, ◌-◌, ℕ, List, ◌++◌, length, take, drop, sym, ap, ◌∙◌, arith, length-drop}
use Rattle.std.proofs.Math.Seq.{take-length}
use Rattle.std.specs.List.{copy_within, remove_range}
use Rattle.std.proofs.lemmas.List.Edits.{take-paste}
use Rattle.gtp_check_judge.specs.declared.asking.CheckCommand.{CheckCommand}

pub take_moved : (xs : List CheckCommand) (from to : ℕ) → from ≤ length xs
    → take (from + (length xs - to)) (copy_within xs to (length xs) from) ≡ remove_range xs from to
take_moved xs from to le =
    let count : length (drop to xs) ≡ length xs - to = length-drop to xs in
    let fits : length xs - to ≤ length (drop to xs) = omega arith in
    let all : take (length xs - to) (drop to xs) ≡ drop to xs =
    ap (λ n. take n (drop to xs)) (sym count) ∙ take-length (drop to xs) in
    take-paste xs from (drop to xs) (length xs - to) le fits ∙ ap (λ rest. take from xs ++ rest) all
