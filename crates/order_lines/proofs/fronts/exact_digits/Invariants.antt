use Rattle.std.proofs.Common.{◌≡◌, ℕ, ◌+◌, ◌^◌, ◌<◌, true, take}
use Rattle.std.specs.Char.{is_ascii_digit}
use Rattle.std.specs.List.{list_all}
use Rattle.std.specs.Str.Parse.{digits_value_after}
use Rattle.order_lines.proofs.fronts.exact_digits.Given as goal

-- the number that the digits so far make
abbrev pub invariant-loop-at : goal.invariant-loop-at
invariant-loop-at g l = record {
  value : l.value ≡ digits_value_after 10 l.front (take l.at l.text);
  digits : list_all is_ascii_digit (take l.at l.text) ≡ true;
  below : (digits : ℕ) → l.front < 10 ^ digits → l.value < 10 ^ (digits + l.at);
}
