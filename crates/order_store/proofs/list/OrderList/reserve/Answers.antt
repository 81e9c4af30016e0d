use Rattle.std.proofs.Common.{◌<◌, ◌≤◌, length, refl, ap, arith}
use Rattle.std.proofs.Math.ListN.{set}
use Rattle.order_store.specs.Orders.{Orders}
use Rattle.order_store.specs.inside.Rows.{Row}
use Rattle.order_store.proofs.Keeping.{kept-listed, kept-reserved, kept-same}
use Rattle.order_store.proofs.Rooms.{keeps_room, gives_room, seen_banks, written-at, written_most, on_ok_then}
use Rattle.order_store.proofs.list.OrderList.reserve.Goals as goal

pub returns-in_err-reserve-clause-room : goal.returns-in_err-reserve-clause-room
returns-in_err-reserve-clause-room c =
    keeps_room c.self.inside.nodes.room c.reserve.new.self.room c.self.inside.rows.items c.self.inside.rows.items c.args.self.now _ (ap (λ (o : Orders). o.room) c.self.view_is) refl
    refl c.reserve.ensures.kept_room (λ bank. omega arith)

pub returns-in_err-reserve-clause-valid : goal.returns-in_err-reserve-clause-valid
returns-in_err-reserve-clause-valid c = kept-listed c.reserve.new.self.nodes c.self.inside.count c.self.inside.rows.items _ _ refl
    (kept-same c.self.inside.nodes.nodes c.reserve.new.self.nodes c.self.inside.count c.self.inside.rows.items c.self.invariant c.reserve.ensures.nodes)

pub returns-clause-has_room : goal.returns-clause-has_room
returns-clause-has_room c =
    let within : c.index.result < length c.self.inside.rows.items =
    omega (arith, c.requires.bank, c.index.ensures.value, seen_banks c.self.inside.nodes.room c.self.inside.rows.items c.args.self.now (ap (λ (o : Orders). o.room) c.self.view_is)) in
    let written = written-at c.self.inside.rows.items c.index.result c.args.bank c.index_mut-row.result.now c.widen.new.self c.index.ensures.value within c.index_mut-row.ensures.value in
    on_ok_then (1 ≤ c.widen.new.self.room) _ c.widen.result
    (λ room. gives_room c.reserve.new.self.room (set c.self.inside.rows.items c.index.result c.widen.new.self) c.args.bank c.in_ok-reserve.ensures.room (omega (arith, room, ap (λ (r : Row). r.room) written.is))) c.widen.ensures.room

pub returns-clause-room : goal.returns-clause-room
returns-clause-room c =
    let within : c.index.result < length c.self.inside.rows.items =
    omega (arith, c.requires.bank, c.index.ensures.value, seen_banks c.self.inside.nodes.room c.self.inside.rows.items c.args.self.now (ap (λ (o : Orders). o.room) c.self.view_is)) in
    let written = written-at c.self.inside.rows.items c.index.result c.args.bank c.index_mut-row.result.now c.widen.new.self c.index.ensures.value within c.index_mut-row.ensures.value in
    keeps_room c.self.inside.nodes.room c.reserve.new.self.room c.self.inside.rows.items _ c.args.self.now _ (ap (λ (o : Orders). o.room) c.self.view_is) refl
    written.count c.reserve.ensures.kept_room
    (λ bank. let it = written_most 0 c.self.inside.rows.items _ c.args.bank c.index_mut-row.result.now c.widen.new.self written (omega (arith, c.widen.ensures.kept_room)) bank in omega arith)

pub returns-clause-valid : goal.returns-clause-valid
returns-clause-valid c =
    let within : c.index.result < length c.self.inside.rows.items =
    omega (arith, c.requires.bank, c.index.ensures.value, seen_banks c.self.inside.nodes.room c.self.inside.rows.items c.args.self.now (ap (λ (o : Orders). o.room) c.self.view_is)) in
    kept-listed c.reserve.new.self.nodes c.self.inside.count _ _ _ refl
    (kept-reserved c.self.inside.nodes.nodes c.reserve.new.self.nodes c.self.inside.count c.self.inside.rows.items _ c.args.bank c.index_mut-row.result.now c.widen.new.self c.self.invariant c.reserve.ensures.nodes
    (written-at c.self.inside.rows.items c.index.result c.args.bank c.index_mut-row.result.now c.widen.new.self c.index.ensures.value within c.index_mut-row.ensures.value) c.widen.ensures.entries)
