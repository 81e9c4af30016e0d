use Rattle.std.proofs.Common.{◌∙◌}
use Rattle.day_report.proofs.Bounds.{last-trade}
use Rattle.net_settle.proofs.Adding.{going, within, first-within, room-first, second-within, room-second, dues-added}
use Rattle.net_settle.proofs.dues.Dues.add.Goals as goal

pub add-requires-clause-within : goal.add-requires-clause-within
add-requires-clause-within c =
    let go = going c.args.session.now c.args.fill.now c.args.self.now c.of_pair-columns.result c.index-buyer.result c.index-seller.result c.amounts_of-amounts.result.base c.amounts_of-amounts.result.quote c.requires c.of_pair-columns.ensures.value (c.index-buyer.ensures.value ∙ c.buyer.ensures.value) (c.index-seller.ensures.value ∙ c.seller.ensures.value) c.amounts_of-amounts.ensures.base c.amounts_of-amounts.ensures.quote in
    first-within c.args.session.now c.args.fill.now c.args.self.now c.of_pair-columns.result c.index-buyer.result c.index-seller.result c.amounts_of-amounts.result.base c.amounts_of-amounts.result.quote c.row_of.result go c.row_of.ensures.value

pub add-requires-clause-room : goal.add-requires-clause-room
add-requires-clause-room c =
    let go = going c.args.session.now c.args.fill.now c.args.self.now c.of_pair-columns.result c.index-buyer.result c.index-seller.result c.amounts_of-amounts.result.base c.amounts_of-amounts.result.quote c.requires c.of_pair-columns.ensures.value (c.index-buyer.ensures.value ∙ c.buyer.ensures.value) (c.index-seller.ensures.value ∙ c.seller.ensures.value) c.amounts_of-amounts.ensures.base c.amounts_of-amounts.ensures.quote in
    room-first c.args.session.now c.args.fill.now c.args.self.now c.of_pair-columns.result c.index-buyer.result c.index-seller.result c.amounts_of-amounts.result.base c.amounts_of-amounts.result.quote c.row_of.result go c.row_of.ensures.value

pub row_of-requires-2-clause-a : goal.row_of-requires-2-clause-a
row_of-requires-2-clause-a c =
    let go = going c.args.session.now c.args.fill.now c.args.self.now c.of_pair-columns.result c.index-buyer.result c.index-seller.result c.amounts_of-amounts.result.base c.amounts_of-amounts.result.quote c.requires c.of_pair-columns.ensures.value (c.index-buyer.ensures.value ∙ c.buyer.ensures.value) (c.index-seller.ensures.value ∙ c.seller.ensures.value) c.amounts_of-amounts.ensures.base c.amounts_of-amounts.ensures.quote in
    (within c.args.session.now c.args.fill.now c.args.self.now c.of_pair-columns.result c.index-buyer.result c.index-seller.result c.amounts_of-amounts.result.base c.amounts_of-amounts.result.quote go).seller_in

pub row_of-requires-2-clause-b : goal.row_of-requires-2-clause-b
row_of-requires-2-clause-b c =
    let go = going c.args.session.now c.args.fill.now c.args.self.now c.of_pair-columns.result c.index-buyer.result c.index-seller.result c.amounts_of-amounts.result.base c.amounts_of-amounts.result.quote c.requires c.of_pair-columns.ensures.value (c.index-buyer.ensures.value ∙ c.buyer.ensures.value) (c.index-seller.ensures.value ∙ c.seller.ensures.value) c.amounts_of-amounts.ensures.base c.amounts_of-amounts.ensures.quote in
    (within c.args.session.now c.args.fill.now c.args.self.now c.of_pair-columns.result c.index-buyer.result c.index-seller.result c.amounts_of-amounts.result.base c.amounts_of-amounts.result.quote go).buyer_in

pub add-requires-2-clause-within : goal.add-requires-2-clause-within
add-requires-2-clause-within c =
    let go = going c.args.session.now c.args.fill.now c.args.self.now c.of_pair-columns.result c.index-buyer.result c.index-seller.result c.amounts_of-amounts.result.base c.amounts_of-amounts.result.quote c.requires c.of_pair-columns.ensures.value (c.index-buyer.ensures.value ∙ c.buyer.ensures.value) (c.index-seller.ensures.value ∙ c.seller.ensures.value) c.amounts_of-amounts.ensures.base c.amounts_of-amounts.ensures.quote in
    second-within c.args.session.now c.args.fill.now c.args.self.now c.of_pair-columns.result c.index-buyer.result c.index-seller.result c.amounts_of-amounts.result.base c.amounts_of-amounts.result.quote c.row_of.result c.row_of-2.result c.add.new.self go c.row_of.ensures.value c.row_of-2.ensures.value
    (record { columns = c.add.ensures.columns; cells = c.add.ensures.cells })

pub add-requires-2-clause-room : goal.add-requires-2-clause-room
add-requires-2-clause-room c =
    let go = going c.args.session.now c.args.fill.now c.args.self.now c.of_pair-columns.result c.index-buyer.result c.index-seller.result c.amounts_of-amounts.result.base c.amounts_of-amounts.result.quote c.requires c.of_pair-columns.ensures.value (c.index-buyer.ensures.value ∙ c.buyer.ensures.value) (c.index-seller.ensures.value ∙ c.seller.ensures.value) c.amounts_of-amounts.ensures.base c.amounts_of-amounts.ensures.quote in
    room-second c.args.session.now c.args.fill.now c.args.self.now c.of_pair-columns.result c.index-buyer.result c.index-seller.result c.amounts_of-amounts.result.base c.amounts_of-amounts.result.quote c.row_of.result c.row_of-2.result c.add.new.self go c.row_of.ensures.value c.row_of-2.ensures.value
    (record { columns = c.add.ensures.columns; cells = c.add.ensures.cells })

pub returns : goal.returns
returns c = record {
  adds = λ fills are.
      dues-added c.args.session.now c.args.fill.now fills c.args.self.now c.of_pair-columns.result c.index-buyer.result c.index-seller.result c.amounts_of-amounts.result.base c.amounts_of-amounts.result.quote c.row_of.result c.row_of-2.result c.add.new.self c.add-2.new.self
      (last-trade c.args.session.now c.requires.0 c.args.fill.now c.requires.2.each)
      c.of_pair-columns.ensures.value (c.index-buyer.ensures.value ∙ c.buyer.ensures.value) (c.index-seller.ensures.value ∙ c.seller.ensures.value) c.amounts_of-amounts.ensures.base c.amounts_of-amounts.ensures.quote
      c.row_of.ensures.value c.row_of-2.ensures.value (record { columns = c.add.ensures.columns; cells = c.add.ensures.cells }) (record { columns = c.add-2.ensures.columns; cells = c.add-2.ensures.cells }) are;
}
