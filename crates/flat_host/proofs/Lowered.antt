-- Lowering an order, by the place where it stands.
use Rattle.std.proofs.Common.{ℕ, zero, suc, ◌≡◌, ◌-◌, ◌≤◌, ◌<◌, true, false, cond, ltb, List, [], ◌∷◌, refl, ap, sym, subst, ◌∙◌, arith, length, get_or}
use Rattle.std.proofs.Math.ListN.{set}
use Rattle.std.proofs.lemmas.Bool.{cond-true, cond-false, lt-ltb, le-ltb}
use Rattle.std.specs.List.{remove}
use Rattle.fx_rules.specs.declared.orders.ActiveOrder.{ActiveOrder}
use Rattle.flat_host.specs.inside.Parts.{StandsAt}
use Rattle.fx_rules.specs.Sweep.{lowered, is_order, with_left}

tail_at : (bank number : ℕ) (b : ActiveOrder) (rest : List ActiveOrder) (i : ℕ) (a : ActiveOrder) → StandsAt bank number (b ∷ rest) (suc i) a → StandsAt bank number rest i a
tail_at bank number b rest i a at' = record {
  within = omega (arith, at'.within);
  is = at'.is;
  first = λ k below. at'.first (suc k) (omega (arith, below));
}

pub lowered_here : (bank number lots : ℕ) (b : ActiveOrder) (rest : List ActiveOrder) → is_order bank number b.order ≡ true → lowered bank number lots (b ∷ rest) ≡ cond (ltb lots b.order.left) (with_left b (b.order.left - lots) ∷ rest) rest
lowered_here bank number lots b rest is =
    cond-true (is_order bank number b.order) (cond (ltb lots b.order.left) (with_left b (b.order.left - lots) ∷ rest) rest) (b ∷ lowered bank number lots rest) is

pub lowered_later : (bank number lots : ℕ) (b : ActiveOrder) (rest : List ActiveOrder) → is_order bank number b.order ≡ false → lowered bank number lots (b ∷ rest) ≡ b ∷ lowered bank number lots rest
lowered_later bank number lots b rest is =
    cond-false (is_order bank number b.order) (cond (ltb lots b.order.left) (with_left b (b.order.left - lots) ∷ rest) rest) (b ∷ lowered bank number lots rest) is

pub lowered-more : (bank number lots : ℕ) (orders : List ActiveOrder) (i : ℕ) (a : ActiveOrder) → StandsAt bank number orders i a → lots < (get_or orders i a).order.left → lowered bank number lots orders ≡ set orders i (with_left (get_or orders i a) ((get_or orders i a).order.left - lots))
lowered-more bank number lots [] i a at' more = absurd (omega (arith, at'.within))
lowered-more bank number lots (b ∷ rest) zero a at' more =
    lowered_here bank number lots b rest at'.is
    ∙ cond-true (ltb lots b.order.left) (with_left b (b.order.left - lots) ∷ rest) rest (lt-ltb lots b.order.left more)
lowered-more bank number lots (b ∷ rest) (suc i) a at' more =
    lowered_later bank number lots b rest (at'.first 0 (omega arith))
    ∙ ap (λ (os : List ActiveOrder). b ∷ os) (lowered-more bank number lots rest i a (tail_at bank number b rest i a at') more)

pub lowered-gone : (bank number lots : ℕ) (orders : List ActiveOrder) (i : ℕ) (a : ActiveOrder) → StandsAt bank number orders i a → (get_or orders i a).order.left ≤ lots → lowered bank number lots orders ≡ remove orders i
lowered-gone bank number lots [] i a at' gone = absurd (omega (arith, at'.within))
lowered-gone bank number lots (b ∷ rest) zero a at' gone =
    lowered_here bank number lots b rest at'.is
    ∙ cond-false (ltb lots b.order.left) (with_left b (b.order.left - lots) ∷ rest) rest (le-ltb lots b.order.left gone)
lowered-gone bank number lots (b ∷ rest) (suc i) a at' gone =
    lowered_later bank number lots b rest (at'.first 0 (omega arith))
    ∙ ap (λ (os : List ActiveOrder). b ∷ os) (lowered-gone bank number lots rest i a (tail_at bank number b rest i a at') gone)

pub lowered-none : (bank number lots : ℕ) (orders : List ActiveOrder) → ((k : ℕ) (d : ActiveOrder) → k < length orders → is_order bank number (get_or orders k d).order ≡ false) → lowered bank number lots orders ≡ orders
lowered-none bank number lots [] none = refl
lowered-none bank number lots (b ∷ rest) none =
    lowered_later bank number lots b rest (none 0 b (omega arith))
    ∙ ap (λ (os : List ActiveOrder). b ∷ os) (lowered-none bank number lots rest (λ k d below. none (suc k) d (omega (arith, below))))

-- the same of the order that was read there
pub lowered-set : (bank number lots : ℕ) (orders : List ActiveOrder) (i left : ℕ) (x : ActiveOrder) → x ≡ get_or orders i x → StandsAt bank number orders i x → left ≡ x.order.left - lots → 1 ≤ left → set orders i (with_left x left) ≡ lowered bank number lots orders
lowered-set bank number lots orders i left x read at' left_is some =
    ap (λ (n : ℕ). set orders i (with_left x n)) left_is
    ∙ ap (λ (y : ActiveOrder). set orders i (with_left y (y.order.left - lots))) read
    ∙ sym (lowered-more bank number lots orders i x at' (subst (λ (y : ActiveOrder). lots < y.order.left) read (omega arith)))

pub lowered-removed : (bank number lots : ℕ) (orders : List ActiveOrder) (i : ℕ) (x : ActiveOrder) → x ≡ get_or orders i x → StandsAt bank number orders i x → x.order.left ≤ lots → remove orders i ≡ lowered bank number lots orders
lowered-removed bank number lots orders i x read at' gone =
    sym (lowered-gone bank number lots orders i x at' (subst (λ (y : ActiveOrder). y.order.left ≤ lots) read gone))
