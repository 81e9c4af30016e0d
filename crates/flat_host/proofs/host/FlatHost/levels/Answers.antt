-- The order that is swept is one that takes any price and wants all there is.
use Rattle.std.proofs.Common.{ℕ, ◌≡◌, ◌+◌, ◌-◌, ◌/◌, ◌≤◌, ◌<◌, arith, List, Result, Ok, Err, IfOk, Option, None, slice_index, length, ap, sym, subst, ◌∙◌}
use Rattle.std.specs.List.{filter}
use Rattle.std.specs.Option.{option_map}
use Rattle.std.proofs.lemmas.Grind.{get_or_default_zero}
use Rattle.fx_amounts.specs.declared.memory.Memory.{Memory}
use Rattle.fx_amounts.specs.declared.side.Side.{Side}
use Rattle.fx_rules.specs.declared.orders.ActiveOrder.{ActiveOrder}
use Rattle.fx_rules.specs.declared.orders.Level.{Level}
use Rattle.fx_rules.specs.Lists.{total}
use Rattle.fx_rules.specs.State.{orders_in}
use Rattle.fx_rules.specs.Sweep.{Taker, is_opposite}
use Rattle.fx_rules.specs.Plan.{Planned}
use Rattle.fx_rules.specs.Depth.{any_price}
use Rattle.flat_host.specs.FlatState.{FlatState, room_in, line_in}
use Rattle.flat_host.specs.Parts.{affordable}
use Rattle.flat_host.specs.inside.Levels.{unlimited_in, ProbedIn}
use Rattle.flat_host.specs.Walks.{IsLevelled}
use Rattle.flat_host.proofs.Within.{most_within}
use Rattle.flat_host.proofs.host.FlatHost.levels.Goals as goal

abbrev made : ℕ → ℕ → Side → ℕ → ℕ → ℕ → Taker
made bank pair side price left arrival = record {
  bank = bank;
  number = 0;
  pair = pair;
  side = side;
  price = price;
  left = left;
  arrival = arrival;
}

abbrev against : ℕ → Side → List ActiveOrder → ℕ
against pair side orders = total (λ order. order.left) (filter (λ order. is_opposite side order.side) (orders_in pair orders))

made_is : (l : FlatState) (bank pair : ℕ) (side : Side) (price left arrival : ℕ) → price ≡ any_price side → left ≡ against pair side l.orders → arrival ≡ total (λ count. count) l.counts → made bank pair side price left arrival ≡ unlimited_in l bank pair side
made_is l bank pair side price left arrival p n a =
    ap (λ q. made bank pair side q left arrival) p ∙ ap (λ m. made bank pair side (any_price side) m arrival) n
    ∙ ap (made bank pair side (any_price side) (against pair side l.orders)) a

sum_of : (all some rest : ℕ) → some ≤ all → (all + rest - some) + some ≡ all + rest
sum_of all some rest less = omega arith

probed : (l : FlatState) (bank pair : ℕ) (side : Side) (t lesser : Taker) (room : Option ℕ) (lines : List ℕ) (weight : ℕ) (orders : List ActiveOrder) (r : Result (List Level) Memory) → t ≡ unlimited_in l bank pair side → lesser ≡ affordable room weight t → room ≡ room_in l.credit bank → weight ≡ slice_index l.weights pair → orders ≡ l.orders → ((other : ℕ) → other < 65 → slice_index lines other ≡ line_in l.credit bank other) → IfOk r (IsLevelled weight lines orders lesser) → IfOk r (ProbedIn l bank pair side)
probed l bank pair side t lesser room lines weight orders (Err e) taker lesser_is room_is weight_is orders_are lines_are is = tt
probed l bank pair side t lesser room lines weight orders (Ok levels) taker lesser_is room_is weight_is orders_are lines_are is =
    let whole : Taker = unlimited_in l bank pair side in
    let its : ℕ → Taker = λ w. affordable (room_in l.credit bank) w whole in
    let own : ℕ = slice_index l.weights pair in
    let same : lesser ≡ its weight = lesser_is ∙ ap (affordable room weight) taker ∙ ap (λ (o : Option ℕ). affordable o weight whole) room_is in (
      is.0,
      whole.left + is.1 - (its own).left,
      record {
        lines = slice_index lines;
        lines_are = lines_are;
        rest = is.1;
        sum = sum_of whole.left (its own).left is.1 (most_within (option_map (λ units. units / own) (room_in l.credit bank)) whole.left);
        planned = subst (λ (w : ℕ). Planned w (slice_index lines) (orders_in pair l.orders) (its w) None is.0 is.1) weight_is
            (subst (λ (os : List ActiveOrder). Planned weight (slice_index lines) (orders_in pair os) (its weight) None is.0 is.1) orders_are
            (subst (λ (u : Taker). Planned weight (slice_index lines) (orders_in u.pair orders) u None is.0 is.1) same is.2));
      },
      is.3,
    )

pub returns : goal.returns
returns c = record {
  levels = probed c.args.self.now c.args.bank c.args.pair c.args.side _ c.affordable-lesser.result c.room.result c.lines_of-lines.result c.index-weight.result.now c.deref-2.result.now c.first_levels.result
      (made_is c.args.self.now c.args.bank c.args.pair c.args.side c.any_price.result c.lots_against.result c.self.inside.arrivals c.any_price.ensures.value
      (c.lots_against.ensures.value ∙ ap (against c.args.pair c.args.side) (c.deref.ensures.value ∙ ap (λ (l : FlatState). l.orders) c.self.view_is))
      (c.self.invariant.arrivals ∙ ap (λ (l : FlatState). total (λ count. count) l.counts) c.self.view_is))
      c.affordable-lesser.ensures.value
      (c.room.ensures.value ∙ ap (λ (l : FlatState). room_in l.credit c.args.bank) c.self.view_is)
      (c.index-weight.ensures
      ∙ get_or_default_zero c.self.inside.weights.items c.index.result c.index-weight.result.now
      (subst (λ n. n < length c.self.inside.weights.items) (sym c.index.ensures.value) (subst (λ (l : FlatState). c.args.pair < length l.weights) (sym c.self.view_is) c.requires.pair))
      ∙ ap (slice_index c.self.inside.weights.items) c.index.ensures.value ∙ ap (λ (l : FlatState). slice_index l.weights c.args.pair) c.self.view_is)
      (c.deref-2.ensures.value ∙ ap (λ (l : FlatState). l.orders) c.self.view_is)
      (λ other within. c.lines_of-lines.ensures.lines other within ∙ ap (λ (l : FlatState). line_in l.credit c.args.bank other) c.self.view_is)
      c.first_levels.ensures.levels;
}
