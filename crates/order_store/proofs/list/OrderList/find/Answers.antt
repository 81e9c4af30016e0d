use Rattle.std.proofs.Common.{◌≤◌, length, ap, sym, ◌∙◌, arith}
use Rattle.order_store.specs.inside.Rows.{Row, key_in}
use Rattle.order_store.proofs.Keeping.{kept-listed}
use Rattle.order_store.proofs.Rooms.{read_row}
use Rattle.order_store.proofs.Naming.{lacks_without_row, lacks_unnamed, lacks_stale}
use Rattle.order_store.proofs.list.OrderList.find.Goals as goal

pub returns-in_err-row-clause-none : goal.returns-in_err-row-clause-none
returns-in_err-row-clause-none c _ =
    let past : length c.deref.result.now ≤ c.index.result = c.in_err-row.ensures.lookup.3 in
    lacks_without_row _ _ c.self.inside.rows.items c.args.self.now c.args.bank c.args.number c.self.view_is c.self.invariant.named
    c.index.result c.index.ensures.value (omega (arith, past, ap length c.deref.ensures.value))

pub returns-in_err-place-clause-none : goal.returns-in_err-place-clause-none
returns-in_err-place-clause-none c _ =
    let lookup = c.in_ok-row.ensures.lookup in
    let row_is = read_row c.self.inside.rows.items c.deref.result.now c.index.result c.args.bank c.in_ok-row.row.now c.deref.ensures.value c.index.ensures.value lookup.3.0 lookup.1 in
    lacks_unnamed _ _ c.self.inside.rows.items c.args.self.now c.args.bank c.args.number c.self.view_is c.self.invariant.named
    (sym (ap (λ (r : Row). key_in r.entries c.args.number) row_is) ∙ sym c.in_err-place.ensures.key)

pub returns-else-is_under-clause-none : goal.returns-else-is_under-clause-none
returns-else-is_under-clause-none c _ =
    let lookup = c.in_ok-row.ensures.lookup in
    let row_is = read_row c.self.inside.rows.items c.deref.result.now c.index.result c.args.bank c.in_ok-row.row.now c.deref.ensures.value c.index.ensures.value lookup.3.0 lookup.1 in
    lacks_stale _ _ c.self.inside.rows.items c.args.self.now c.args.bank c.args.number c.self.view_is c.self.invariant.named
    c.in_ok-place.place (sym (ap (λ (r : Row). key_in r.entries c.args.number) row_is) ∙ sym c.in_ok-place.ensures.key) (sym c.is_under.ensures ∙ c.if-is_under.false)

pub returns-in_err-row-clause-valid : goal.returns-in_err-row-clause-valid
returns-in_err-row-clause-valid c = kept-listed c.self.inside.nodes.nodes c.self.inside.count c.self.inside.rows.items _ c.args.self.now c.self.view_is c.self.invariant

pub returns-in_err-place-clause-valid : goal.returns-in_err-place-clause-valid
returns-in_err-place-clause-valid c = kept-listed c.self.inside.nodes.nodes c.self.inside.count c.self.inside.rows.items _ c.args.self.now c.self.view_is c.self.invariant

pub returns-then-is_under-clause-valid : goal.returns-then-is_under-clause-valid
returns-then-is_under-clause-valid c = kept-listed c.self.inside.nodes.nodes c.self.inside.count c.self.inside.rows.items _ c.args.self.now c.self.view_is c.self.invariant

pub returns-else-is_under-clause-valid : goal.returns-else-is_under-clause-valid
returns-else-is_under-clause-valid c = kept-listed c.self.inside.nodes.nodes c.self.inside.count c.self.inside.rows.items _ c.args.self.now c.self.view_is c.self.invariant
