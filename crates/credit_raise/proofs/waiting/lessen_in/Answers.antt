-- The order that was found is lowered in its place, or taken out.
use Rattle.std.proofs.Common.{ℕ, ◌≡◌, ◌≤◌, ◌^◌, true, false, List, arith, sym, subst, refl, inl, inr, get_or, ◌∙◌}
use Rattle.std.proofs.lemmas.Bool.{false≢true, cases_lt}
use Rattle.fx_rules.specs.declared.orders.Resting.{Resting}
use Rattle.fx_rules.specs.Sweep.{is_order}
use Rattle.credit_raise.specs.inside.Waiting.{StandsAt}
use Rattle.credit_raise.proofs.Listed.{lessened-set, lessened-removed, lessened-none}
use Rattle.credit_raise.proofs.waiting.lessen_in.Goals as goal

-- a number of lots that is none is 0, below the most
no_lots : (n : ℕ) → ((1 ≤ n) × (n ≤ 10 ^ 6) → false ≡ true) → n ≤ 10 ^ 6 → n ≡ 0
no_lots n none most = elim (cases_lt 0 n) [ inl some ↦ absurd (false≢true (none (some, most))) | inr zero' ↦ omega arith ]

abbrev IsOther : ℕ → ℕ → List Resting → ℕ → Resting → Type 0
IsOther bank number orders k a = is_order bank number (get_or orders k a) ≡ false

here : (bank number : ℕ) (read orders : List Resting) (i : ℕ) (x : Resting) → read ≡ orders → StandsAt bank number read i x → StandsAt bank number orders i x
here bank number read orders i x same at' = subst (λ os. StandsAt bank number os i x) same at'

pub returns-in_default : goal.returns-in_default
returns-in_default c =
    sym (lessened-none c.args.bank c.args.number c.args.lots c.args.orders.now.items
    (λ k a below. subst (λ os. IsOther c.args.bank c.args.number os k a) c.deref.ensures.value
    (c.in_default.ensures.none k a (omega (arith, c.deref.ensures.len, below)))))

pub returns-in-Some-new : goal.returns-in-Some-new
returns-in-Some-new c =
    lessened-set c.args.bank c.args.number c.args.lots c.args.orders.now.items c.in-Some.at c.in-Some-new.left c.index-order.result.now
    c.index-order.ensures
    (here c.args.bank c.args.number c.deref.result.now c.args.orders.now.items c.in-Some.at c.index-order.result.now c.deref.ensures.value (c.in-Some.ensures.found c.index-order.result.now))
    (omega (arith, c.in-Some-new.ensures.value, c.saturating_sub.ensures, c.count.ensures.value, c.count-2.ensures.value))
    (omega (arith, (c.in-Some-new.ensures.valid.0 refl).0, c.in-Some-new.ensures.value))

pub returns-in-None : goal.returns-in-None
returns-in-None c =
    let none : c.saturating_sub.result ≡ 0 = no_lots c.saturating_sub.result c.in-None.ensures.valid.1 (omega (arith, c.saturating_sub.ensures, c.count.ensures.most)) in
    c.remove.ensures.items
    ∙ lessened-removed c.args.bank c.args.number c.args.lots c.args.orders.now.items c.in-Some.at c.index-order.result.now
    c.index-order.ensures
    (here c.args.bank c.args.number c.deref.result.now c.args.orders.now.items c.in-Some.at c.index-order.result.now c.deref.ensures.value (c.in-Some.ensures.found c.index-order.result.now))
    (omega (arith, c.saturating_sub.ensures, c.count.ensures.value, c.count-2.ensures.value))
