use Rattle.std.proofs.Common.{◌≡◌, ◌≤◌, take}
use Rattle.std.specs.Str.Parse.{AllDigits, digits_value}
use Rattle.go_base.proofs.ints.read_int.Given as goal

-- the front that was read is digits, of this value, which is an int
abbrev pub invariant-loop-byte : goal.invariant-loop-byte
invariant-loop-byte l = record {
  digits : AllDigits 10 (take l.byte-index l.text);
  value : digits_value 10 (take l.byte-index l.text) ≡ l.value;
  limit : l.value ≤ 2147483647;
}
