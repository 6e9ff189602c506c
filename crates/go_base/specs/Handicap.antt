-- The points of fixed handicap stones. The standard describes such points and leaves their order open; the table, its
-- order and the sizes that it serves are own. (The standard's topic: fixed handicap placement.)
use Rattle.std.specs.Prelude.{◌≡◌, ◌==◌, ℕ, ◌+◌, ◌-◌, ◌/◌, ◌%◌, ◌≤◌, ◌⊎◌, nat_lt, if◌then◌else◌, List, [], ◌∷◌, ◌++◌}
use Rattle.go_base.specs.Point.{point}

-- the line near the lower and the left edge: the third on sizes below 13, the fourth from 13 up
abbrev pub low_line : ℕ → ℕ
low_line size = if nat_lt size 13 then 3 else 4

-- the line as far from the upper and the right edge
abbrev pub high_line : ℕ → ℕ
high_line size = size + 1 - low_line size

-- on odd sizes the line in the middle
abbrev pub middle_line : ℕ → ℕ
middle_line size = (size + 1) / 2

-- The points of the stones by their number, in order. A point is given by its column and its row.
unfoldable pub handicap_points : ℕ → ℕ → List ℕ
handicap_points size stones =
    let l = low_line size in
    let m = middle_line size in
    let h = high_line size in
    let two = point l l ∷ point h h ∷ [] in
    let three = two ++ point l h ∷ [] in
    let four = three ++ point h l ∷ [] in
    let six = four ++ point l m ∷ point h m ∷ [] in
    let eight = six ++ point m l ∷ point m h ∷ [] in
    let middle = point m m ∷ [] in
    if stones == 2 then two
    else (if stones == 3 then three
    else (if stones == 4 then four
    else (if stones == 5 then four ++ middle
    else (if stones == 6 then six
    else (if stones == 7 then six ++ middle
    else (if stones == 8 then eight
    else (if stones == 9 then eight ++ middle
    else [])))))))

-- The numbers of stones that a size allows: 2 to 9 on odd sizes from 9 up; 2 to 4 on size 7 and on even sizes from 8
-- up.
abbrev pub AllowsHandicap : ℕ → ℕ → Type 0
AllowsHandicap size stones =
    ((size % 2 ≡ 1) × (9 ≤ size) × (2 ≤ stones) × (stones ≤ 9))
    ⊎ ((size ≡ 7) × (2 ≤ stones) × (stones ≤ 4))
    ⊎ ((size % 2 ≡ 0) × (8 ≤ size) × (2 ≤ stones) × (stones ≤ 4))
