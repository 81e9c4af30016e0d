-- The last level is taken off, and put back with the fill's lots or before a new one.
use Rattle.std.proofs.Common.{ℕ, ◌≡◌, ◌+◌, ◌<◌, ◌^◌, true, false, eqb, List, [], ◌∷◌, ◌++◌, ◌≤◌, length, length-append, vec_capacity, Result, Ok, Err, OnErr, arith, refl, sym, ap, ◌∙◌}
use Rattle.std.proofs.lemmas.Grind.{common_steps}
use Rattle.fx_rules.specs.declared.orders.Fill.{Fill}
use Rattle.fx_rules.specs.declared.orders.Level.{Level}
use Rattle.fx_rules.specs.Lists.{total}
use Rattle.fx_rules.proofs.ListLemmas.{total-append}
use Rattle.fx_rules.specs.Depth.{fill_added}
use Rattle.fx_rules.proofs.Levelling.{level, last_more, last_other}
use Rattle.fx_rules.proofs.depth.add_fill.Goals as goal

last_fits : (levels rest : List Level) (last : Level) (lots most : ℕ) → levels ≡ rest ++ last ∷ [] → total (λ (l : Level). l.lots) levels + lots < most → last.lots + lots < most
last_fits levels rest last lots most is fits =
    let sum : total (λ (l : Level). l.lots) levels ≡ total (λ (l : Level). l.lots) rest + (last.lots + 0) = ap (total (λ (l : Level). l.lots)) is ∙ total-append (λ (l : Level). l.lots) rest (last ∷ []) in
    omega arith

more_is : (levels rest new : List Level) (last : Level) (fill : Fill) (price lots : ℕ) → levels ≡ rest ++ last ∷ [] → eqb last.price fill.price ≡ true → price ≡ fill.price → lots ≡ fill.lots → new ≡ rest ++ level price (last.lots + lots) ∷ [] → new ≡ fill_added levels fill
more_is levels rest new last fill price lots is same p l made =
    made ∙ ap (λ n. rest ++ level n (last.lots + lots) ∷ []) p ∙ ap (λ n. rest ++ level fill.price (last.lots + n) ∷ []) l
    ∙ sym (last_more rest last fill same) ∙ ap (λ (ls : List Level). fill_added ls fill) (sym is)

other_is : (levels rest back new : List Level) (last : Level) (fill : Fill) (price lots : ℕ) → levels ≡ rest ++ last ∷ [] → eqb last.price fill.price ≡ false → price ≡ fill.price → lots ≡ fill.lots → back ≡ rest ++ last ∷ [] → new ≡ back ++ level price lots ∷ [] → new ≡ fill_added levels fill
other_is levels rest back new last fill price lots is differ p l put made =
    made ∙ ap (λ (ls : List Level). ls ++ level price lots ∷ []) put
    ∙ ap (λ n. (rest ++ last ∷ []) ++ level n lots ∷ []) p ∙ ap (λ n. (rest ++ last ∷ []) ++ level fill.price n ∷ []) l
    ∙ sym (last_other rest last fill differ) ∙ ap (λ (ls : List Level). fill_added ls fill) (sym is)

pub overflow_add-last : goal.overflow_add-last
overflow_add-last c =
    let fits : c.in-Some.last.lots + c.args.fill.now.lots < 2 ^ 64 = last_fits c.args.levels.now.items c.pop.new.self.items c.in-Some.last c.args.fill.now.lots (2 ^ 64) c.in-Some.ensures.items c.requires.lots in
    omega (arith, c.from-lots.ensures, c.count.ensures.value)

on_err_always : {T E P : Type 0} (r : Result T E) → P → OnErr r P
on_err_always (Ok x) p = _
on_err_always (Err e) p = p

full_is : (levels rest : List Level) (last : Level) (fill : Fill) (room : ℕ) → levels ≡ rest ++ last ∷ [] → eqb last.price fill.price ≡ false → room ≤ length levels → room < length (fill_added levels fill)
full_is levels rest last fill room is differ full =
    let added : length (fill_added levels fill) ≡ length ((rest ++ last ∷ []) ++ level fill.price fill.lots ∷ []) = ap (λ (ls : List Level). length (fill_added ls fill)) is ∙ ap length (last_other rest last fill differ) in
    omega (arith, added, ap length is, length-append (rest ++ last ∷ []) (level fill.price fill.lots ∷ []))

pub returns-in-Some-clause-levels : goal.returns-in-Some-clause-levels
returns-in-Some-clause-levels c =
    more_is c.args.levels.now.items c.pop.new.self.items c.push_reserved.new.self.items c.in-Some.last c.args.fill.now c.args.fill.now.price c.from-lots.result
    c.in-Some.ensures.items (sym c.eq.ensures ∙ c.if-eq.true) refl (c.from-lots.ensures ∙ c.count.ensures.value) c.push_reserved.ensures.items

pub returns-in_ok-push-in-Some-2-clause-levels : goal.returns-in_ok-push-in-Some-2-clause-levels
returns-in_ok-push-in-Some-2-clause-levels c =
    other_is c.args.levels.now.items c.pop.new.self.items c.push_reserved-in-Some-2.new.self.items c.push.new.self.items c.in-Some.last c.args.fill.now c.args.fill.now.price c.from-lots.result
    c.in-Some.ensures.items (sym c.eq.ensures ∙ c.if-eq.false) refl (c.from-lots.ensures ∙ c.count.ensures.value) c.push_reserved-in-Some-2.ensures.items c.in_ok-push-in-Some-2.ensures.items

pub returns-in_err-push-in-Some-2-clause-wanted : goal.returns-in_err-push-in-Some-2-clause-wanted
returns-in_err-push-in-Some-2-clause-wanted c =
    on_err_always c.from_residual.result
    (full_is c.args.levels.now.items c.pop.new.self.items c.in-Some.last c.args.fill.now (vec_capacity c.args.levels.now)
    c.in-Some.ensures.items (sym c.eq.ensures ∙ c.if-eq.false) (grind (arith, common_steps)))
