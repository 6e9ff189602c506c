use Rattle.std.proofs.Common.{inl, inr, refl, arith}
use Rattle.go_board.proofs.rollout.Rollout.ends.Goals as goal

pub returns-then-left-eq0 : goal.returns-then-left-eq0
returns-then-left-eq0 c game mover kept = ((λ e. inr (inl c.if-left-eq0.true)), (λ e. refl))

pub returns-then-moves-ge-MOST_MOVES : goal.returns-then-moves-ge-MOST_MOVES
returns-then-moves-ge-MOST_MOVES c game mover kept =
    let many = kept.moves_is in
    let past = c.if-moves-ge-MOST_MOVES.true in (
      (λ e. inr (inr (λ room. omega (arith, many, past, room)))),
      (λ e. refl),
    )

pub returns : goal.returns
returns c game mover kept =
    let many = kept.moves_is in
    let below = c.if-moves-ge-MOST_MOVES.false in
    let some = c.if-left-eq0.false in (
      (λ e. inl (kept.finished_is.0 e)),
      (λ h. elim h [
        | inl over ↦ kept.finished_is.1 over
        | inr (inl none) ↦ absurd (some none)
        | inr (inr full) ↦ absurd (full (omega (arith, many, below)))
      ]),
    )
