-- The shorter of two beginnings of one list begins the other.
use Rattle.std.proofs.Common.{ℕ, ◌≡◌, Bool, true, false, leb, List, length, MatchBool, arith}
use Rattle.std.proofs.lemmas.Bool.{leb-true, leb-false}
use mathlib.Core.List.{IsPrefix}
use Rattle.fx_chronicle.proofs.Prefixes.{prefix_shorter}
use Rattle.fx_rules.specs.declared.outcome.Entry.{Entry}

pub compared : (b : Bool) (xs ys zs : List Entry) (m n : ℕ) → leb m n ≡ b → m ≡ length xs → n ≡ length ys → IsPrefix xs zs → IsPrefix ys zs → MatchBool b (IsPrefix xs ys) (IsPrefix ys xs)
compared true xs ys zs m n is mx ny p q = prefix_shorter xs ys zs p q (omega (arith, leb-true m n is, mx, ny))
compared false xs ys zs m n is mx ny p q = prefix_shorter ys xs zs q p (omega (arith, leb-false m n is, mx, ny))
