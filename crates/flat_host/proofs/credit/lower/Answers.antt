-- The order that was found is lowered in its place, or taken out.
use Rattle.std.proofs.Common.{ℕ, ◌≡◌, ◌≤◌, ◌^◌, true, false, List, arith, sym, subst, refl, inl, inr, get_or, ◌∙◌}
use Rattle.std.proofs.lemmas.Bool.{false≢true, cases_lt}
use Rattle.fx_rules.specs.declared.orders.ActiveOrder.{ActiveOrder}
use Rattle.fx_rules.specs.Sweep.{is_order}
use Rattle.flat_host.specs.inside.Parts.{StandsAt}
use Rattle.flat_host.proofs.Lowered.{lowered-set, lowered-removed, lowered-none}
use Rattle.flat_host.proofs.credit.lower.Goals as goal

-- a number of lots that is none is 0, below the most
no_lots : (n : ℕ) → ((1 ≤ n) × (n ≤ 10 ^ 6) → false ≡ true) → n ≤ 10 ^ 6 → n ≡ 0
no_lots n none most = elim (cases_lt 0 n) [ inl some ↦ absurd (false≢true (none (some, most))) | inr zero' ↦ omega arith ]

abbrev IsOther : ℕ → ℕ → List ActiveOrder → ℕ → ActiveOrder → Type 0
IsOther bank number orders k a = is_order bank number (get_or orders k a).order ≡ false

here : (bank number : ℕ) (read orders : List ActiveOrder) (i : ℕ) (x : ActiveOrder) → read ≡ orders → StandsAt bank number read i x → StandsAt bank number orders i x
here bank number read orders i x same at' = subst (λ os. StandsAt bank number os i x) same at'

pub returns-in_default-clause-orders : goal.returns-in_default-clause-orders
returns-in_default-clause-orders c =
    sym (lowered-none c.args.bank c.args.number c.args.lots c.args.orders.now.items
    (λ k a below. subst (λ os. IsOther c.args.bank c.args.number os k a) c.deref.ensures.value
    (c.in_default.ensures.none k a (omega (arith, c.deref.ensures.len, below)))))

pub returns-in-Some-new-clause-orders : goal.returns-in-Some-new-clause-orders
returns-in-Some-new-clause-orders c =
    lowered-set c.args.bank c.args.number c.args.lots c.args.orders.now.items c.in-Some.at c.in-Some-new.left c.index.result.now
    c.index.ensures
    (here c.args.bank c.args.number c.deref.result.now c.args.orders.now.items c.in-Some.at c.index.result.now c.deref.ensures.value (c.in-Some.ensures.found c.index.result.now))
    (omega (arith, c.in-Some-new.ensures.value, c.saturating_sub.ensures, c.count.ensures.value, c.count-2.ensures.value))
    (omega (arith, (c.in-Some-new.ensures.valid.0 refl).0, c.in-Some-new.ensures.value))

pub returns-in-None-clause-orders : goal.returns-in-None-clause-orders
returns-in-None-clause-orders c =
    let none : c.saturating_sub.result ≡ 0 = no_lots c.saturating_sub.result c.in-None.ensures.valid.1 (omega (arith, c.saturating_sub.ensures, c.count.ensures.most)) in
    c.remove.ensures.items
    ∙ lowered-removed c.args.bank c.args.number c.args.lots c.args.orders.now.items c.in-Some.at c.index.result.now
    c.index.ensures
    (here c.args.bank c.args.number c.deref.result.now c.args.orders.now.items c.in-Some.at c.index.result.now c.deref.ensures.value (c.in-Some.ensures.found c.index.result.now))
    (omega (arith, c.saturating_sub.ensures, c.count.ensures.value, c.count-2.ensures.value))
