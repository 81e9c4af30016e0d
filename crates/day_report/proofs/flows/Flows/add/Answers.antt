use Rattle.std.proofs.Common.{◌∙◌}
use Rattle.day_report.proofs.Bounds.{last-trade}
use Rattle.day_report.proofs.FlowSums.{place-within, shape-added, flowing, room-first, room-second, flows-add}
use Rattle.day_report.proofs.flows.Flows.add.Goals as goal

pub add-requires-clause-within : goal.add-requires-clause-within
add-requires-clause-within c =
    let go = flowing c.args.session.now c.args.fill.now c.args.self.now c.of_pair-columns.result c.index-buyer.result c.index-seller.result c.args.amounts.now.base c.args.amounts.now.quote c.requires.can c.of_pair-columns.ensures.value (c.index-buyer.ensures.value ∙ c.buyer.ensures.value) (c.index-seller.ensures.value ∙ c.seller.ensures.value) c.requires.base c.requires.quote in
    place-within _ _ _ _ _ go.got.shape go.buys go.base_in

pub add-requires-clause-room : goal.add-requires-clause-room
add-requires-clause-room c =
    let go = flowing c.args.session.now c.args.fill.now c.args.self.now c.of_pair-columns.result c.index-buyer.result c.index-seller.result c.args.amounts.now.base c.args.amounts.now.quote c.requires.can c.of_pair-columns.ensures.value (c.index-buyer.ensures.value ∙ c.buyer.ensures.value) (c.index-seller.ensures.value ∙ c.seller.ensures.value) c.requires.base c.requires.quote in
    room-first _ _ _ _ _ _ _ go.got go.got_most go.buys go.base_in go.base_most

pub add-requires-2-clause-within : goal.add-requires-2-clause-within
add-requires-2-clause-within c =
    let go = flowing c.args.session.now c.args.fill.now c.args.self.now c.of_pair-columns.result c.index-buyer.result c.index-seller.result c.args.amounts.now.base c.args.amounts.now.quote c.requires.can c.of_pair-columns.ensures.value (c.index-buyer.ensures.value ∙ c.buyer.ensures.value) (c.index-seller.ensures.value ∙ c.seller.ensures.value) c.requires.base c.requires.quote in
    place-within _ _ c.add.new.self _ _ (shape-added _ _ c.args.self.now.received c.add.new.self c.index-buyer.result c.of_pair-columns.result.base c.args.amounts.now.base go.got.shape (record { columns = c.add.ensures.columns; cells = c.add.ensures.cells })) go.sells go.quote_in

pub add-requires-2-clause-room : goal.add-requires-2-clause-room
add-requires-2-clause-room c =
    let go = flowing c.args.session.now c.args.fill.now c.args.self.now c.of_pair-columns.result c.index-buyer.result c.index-seller.result c.args.amounts.now.base c.args.amounts.now.quote c.requires.can c.of_pair-columns.ensures.value (c.index-buyer.ensures.value ∙ c.buyer.ensures.value) (c.index-seller.ensures.value ∙ c.seller.ensures.value) c.requires.base c.requires.quote in
    room-second _ _ _ c.args.self.now.received c.add.new.self c.index-buyer.result c.of_pair-columns.result.base c.args.amounts.now.base _ _ _ go.got go.got_most go.buys go.base_in go.base_most go.sells go.quote_in go.quote_most (record { columns = c.add.ensures.columns; cells = c.add.ensures.cells })

pub add-requires-3-clause-within : goal.add-requires-3-clause-within
add-requires-3-clause-within c =
    let go = flowing c.args.session.now c.args.fill.now c.args.self.now c.of_pair-columns.result c.index-buyer.result c.index-seller.result c.args.amounts.now.base c.args.amounts.now.quote c.requires.can c.of_pair-columns.ensures.value (c.index-buyer.ensures.value ∙ c.buyer.ensures.value) (c.index-seller.ensures.value ∙ c.seller.ensures.value) c.requires.base c.requires.quote in
    place-within _ _ _ _ _ go.gave.shape go.buys go.quote_in

pub add-requires-3-clause-room : goal.add-requires-3-clause-room
add-requires-3-clause-room c =
    let go = flowing c.args.session.now c.args.fill.now c.args.self.now c.of_pair-columns.result c.index-buyer.result c.index-seller.result c.args.amounts.now.base c.args.amounts.now.quote c.requires.can c.of_pair-columns.ensures.value (c.index-buyer.ensures.value ∙ c.buyer.ensures.value) (c.index-seller.ensures.value ∙ c.seller.ensures.value) c.requires.base c.requires.quote in
    room-first _ _ _ _ _ _ _ go.gave go.gave_most go.buys go.quote_in go.quote_most

pub add-requires-4-clause-within : goal.add-requires-4-clause-within
add-requires-4-clause-within c =
    let go = flowing c.args.session.now c.args.fill.now c.args.self.now c.of_pair-columns.result c.index-buyer.result c.index-seller.result c.args.amounts.now.base c.args.amounts.now.quote c.requires.can c.of_pair-columns.ensures.value (c.index-buyer.ensures.value ∙ c.buyer.ensures.value) (c.index-seller.ensures.value ∙ c.seller.ensures.value) c.requires.base c.requires.quote in
    place-within _ _ c.add-3.new.self _ _ (shape-added _ _ c.args.self.now.paid c.add-3.new.self c.index-buyer.result c.of_pair-columns.result.quote c.args.amounts.now.quote go.gave.shape (record { columns = c.add-3.ensures.columns; cells = c.add-3.ensures.cells })) go.sells go.base_in

pub add-requires-4-clause-room : goal.add-requires-4-clause-room
add-requires-4-clause-room c =
    let go = flowing c.args.session.now c.args.fill.now c.args.self.now c.of_pair-columns.result c.index-buyer.result c.index-seller.result c.args.amounts.now.base c.args.amounts.now.quote c.requires.can c.of_pair-columns.ensures.value (c.index-buyer.ensures.value ∙ c.buyer.ensures.value) (c.index-seller.ensures.value ∙ c.seller.ensures.value) c.requires.base c.requires.quote in
    room-second _ _ _ c.args.self.now.paid c.add-3.new.self c.index-buyer.result c.of_pair-columns.result.quote c.args.amounts.now.quote _ _ _ go.gave go.gave_most go.buys go.quote_in go.quote_most go.sells go.base_in go.base_most (record { columns = c.add-3.ensures.columns; cells = c.add-3.ensures.cells })

pub returns : goal.returns
returns c = record {
  adds = λ fills are.
      flows-add c.args.session.now fills c.args.fill.now c.args.self.now c.of_pair-columns.result c.index-buyer.result c.index-seller.result c.args.amounts.now.base c.args.amounts.now.quote c.add.new.self c.add-2.new.self c.add-3.new.self c.add-4.new.self (last-trade c.args.session.now c.requires.can.0 c.args.fill.now c.requires.can.2.each)
      c.of_pair-columns.ensures.value (c.index-buyer.ensures.value ∙ c.buyer.ensures.value) (c.index-seller.ensures.value ∙ c.seller.ensures.value) c.requires.base c.requires.quote
      (record { columns = c.add.ensures.columns; cells = c.add.ensures.cells }) (record { columns = c.add-2.ensures.columns; cells = c.add-2.ensures.cells })
      (record { columns = c.add-3.ensures.columns; cells = c.add-3.ensures.cells }) (record { columns = c.add-4.ensures.columns; cells = c.add-4.ensures.cells }) are;
}
