-- What is read off the dues: sums over the banks.
use Rattle.std.proofs.Common.{ℕ, zero, suc, ◌≡◌, ◌+◌, ◌*◌, ◌^◌, ◌≤◌, ◌<◌, length, inl, inr, ap, sym, ◌∙◌, arith}
use Rattle.std.proofs.lemmas.Bool.{cases_order}
use Rattle.fx_rules.specs.Lists.{total, below}
use Rattle.day_report.specs.Table.{place}
use Rattle.day_report.proofs.Sums.{total_push}
use Rattle.fx_rules.proofs.Below.{below_more}
use Rattle.day_report.proofs.FlowSums.{place-within}
use Rattle.net_settle.specs.declared.dues.Dues.{Dues}
use Rattle.net_settle.specs.inside.Dues.{HasPlaces}
use Rattle.net_settle.proofs.Adding.{row-within}

pub due-within : (dues : Dues) (a b column r : ℕ) → HasPlaces dues → a < dues.banks → b < dues.banks → column < length dues.currencies.codes.items → r ≡ place dues.banks a b → place dues.sums.columns r column < length dues.sums.cells.items
due-within dues a b column r places p q within is =
    place-within (dues.banks * dues.banks) (length dues.currencies.codes.items) dues.sums r column places.shape (omega (arith, is, row-within dues.banks a b p q)) within

-- a sum over the numbers below one, one number more
pub next-total : (f : ℕ → ℕ) (k sum more : ℕ) → sum ≡ total f (below k) → more ≡ f k → sum + more ≡ total f (below (k + 1))
next-total f k sum more so_far here =
    ap (λ n. n + more) so_far ∙ ap (λ n. total f (below k) + n) here ∙ sym (total_push f (below k) k) ∙ ap (total f) (sym (below_more k))

to_whole : (f : ℕ → ℕ) (k n : ℕ) → k < n → total f (below k) + f k ≤ total f (below n)
to_whole f k zero within = absurd (omega arith)
to_whole f k (suc n) within =
    let push : total f (below (suc n)) ≡ total f (below n) + f n = total_push f (below n) n in
    elim (cases_order k n) [
      | inl same ↦ omega (arith, ap f same, ap (λ i. total f (below i)) same)
      | inr other ↦ elim other [
        | inl before ↦ omega (arith, to_whole f k n before)
        | inr past ↦ absurd (omega arith)
      ]
    ]

pub room-total : (f : ℕ → ℕ) (k n sum more : ℕ) → k < n → sum ≡ total f (below k) → more ≡ f k → total f (below n) < 2 ^ 128 → sum + more < 2 ^ 128
room-total f k n sum more within so_far here fits = omega (arith, to_whole f k n within)
