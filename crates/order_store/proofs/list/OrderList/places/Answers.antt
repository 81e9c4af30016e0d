use Rattle.std.proofs.Common.{ℕ, suc, zero, ◌≡◌, ◌≤◌, List, [], ◌∷◌, get_or, length, map, ap, arith, subst, sym, ◌∙◌}
use Rattle.order_store.specs.Orders.{Orders, room_for}
use Rattle.order_store.specs.inside.Rows.{Row, room_with}
use Rattle.order_store.proofs.Keeping.{kept-listed, slots-length}
use Rattle.order_store.proofs.list.OrderList.places.Goals as goal

pub returns-clause-count : goal.returns-clause-count
returns-clause-count c = c.len.ensures.count ∙ sym (slots-length c.self.inside.nodes.nodes) ∙ ap (λ (o : Orders). length o.slots) c.self.view_is

-- a bank with room has places in the list
some_places : (places : ℕ) (rows : List Row) (bank : ℕ) → 1 ≤ get_or (map (room_with places) rows) bank 0 → 1 ≤ places
some_places places [] bank some = absurd (omega (arith, some))
some_places places (row ∷ rows) zero some = omega (arith, some)
some_places places (row ∷ rows) (suc bank) some = some_places places rows bank some

pub returns-clause-few : goal.returns-clause-few
returns-clause-few c = λ bank some.
    let places = some_places c.self.inside.nodes.room c.self.inside.rows.items bank (subst (λ (o : Orders). 1 ≤ room_for o bank) (sym c.self.view_is) some) in
    let count : length c.self.inside.nodes.nodes ≡ length c.args.self.now.slots = sym (slots-length c.self.inside.nodes.nodes) ∙ ap (λ (o : Orders). length o.slots) c.self.view_is in
    omega (arith, places, count, c.len.ensures.room)

pub returns-clause-valid : goal.returns-clause-valid
returns-clause-valid c = kept-listed c.self.inside.nodes.nodes c.self.inside.count c.self.inside.rows.items _ c.args.self.now c.self.view_is c.self.invariant
