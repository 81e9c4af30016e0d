use Rattle.std.proofs.Common.{◌≡◌, ℕ, ◌+◌, ◌^◌, ◌<◌, true, take}
use Rattle.std.specs.Char.{is_ascii_digit}
use Rattle.std.specs.List.{list_all}
use Rattle.std.specs.Str.Parse.{digits_value_after}
use Rattle.fx_amounts.proofs.numeral.with_digits.Given as goal

abbrev pub invariant-loop-byte : goal.invariant-loop-byte
invariant-loop-byte l = record {
  value : l.value ≡ digits_value_after 10 l.front (take l.byte-index l.text);
  digits : list_all is_ascii_digit (take l.byte-index l.text) ≡ true;
  below : (digits : ℕ) → l.front < 10 ^ digits → l.value < 10 ^ (digits + l.byte-index);
}
