-- No rank of a ladder's window is kept apart from it.
use Rattle.std.proofs.Common.{ℕ, ◌≡◌, ◌+◌, ◌≤◌, ◌<◌, false, List, length, None, inl, inr, arith}
use Rattle.std.proofs.lemmas.Bool.{and_from, both_ways, cases_lt, le-leb, lt-ltb}
use Rattle.price_levels.specs.declared.level.Level.{Level}
use Rattle.price_levels.specs.Rungs.{covers, kept_at}
use Rattle.price_levels.specs.Ticks.{Covers, Ticks}
use Rattle.price_levels.specs.inside.Far.{AreApart, IsNextKept}

-- the first rank that is kept apart from one of the window's on lies behind the window, and none before it is kept apart
pub apart_before : (near : Ticks) (far : List (ℕ × Level)) (from found : ℕ) (level : Level) → near.base ≤ from
    → ((rank : ℕ) → Covers near rank → rank < from → kept_at far rank ≡ None) → IsNextKept far from found level → covers near found ≡ false → AreApart near far
apart_before near far from found level start passed next out = record {
  apart = λ rank in_it. elim (cases_lt rank from) [
    | inl early ↦ passed rank in_it early
    | inr late ↦ next.first rank late (omega (arith, in_it.within, behind))
  ];
}
  where
    behind : near.base + length near.levels ≤ found
    behind =
        elim (cases_lt found (near.base + length near.levels)) [
          | inl within ↦ absurd (both_ways (covers near found) out (and_from _ _ (le-leb near.base found (omega (arith, start, next.from_on))) (lt-ltb found (near.base + length near.levels) within)))
          | inr past ↦ past
        ]
