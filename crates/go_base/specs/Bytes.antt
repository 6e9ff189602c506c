-- Single bytes that definitions name.
use Rattle.std.specs.Prelude.{ℕ}

-- HT
abbrev pub tab : ℕ
tab = 9

-- LF, which ends a line
abbrev pub newline : ℕ
newline = 10

abbrev pub space : ℕ
space = 32

-- `#`
abbrev pub hash : ℕ
hash = 35

abbrev pub plus_sign : ℕ
plus_sign = 43

abbrev pub minus_sign : ℕ
minus_sign = 45

-- `.`, before the digits of a fraction
abbrev pub decimal_point : ℕ
decimal_point = 46

abbrev pub digit_0 : ℕ
digit_0 = 48

abbrev pub digit_5 : ℕ
digit_5 = 53

-- `A` and `H`, `J` and `Z`: the capital letters of columns run from A to H, and from J to Z
abbrev pub capital_a : ℕ
capital_a = 65

abbrev pub capital_h : ℕ
capital_h = 72

abbrev pub capital_j : ℕ
capital_j = 74

abbrev pub capital_z : ℕ
capital_z = 90
