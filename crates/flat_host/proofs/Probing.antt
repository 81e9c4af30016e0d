-- The sweep of an order that wants all there is, and the local book.
use Rattle.std.proofs.Common.{ℕ, ◌≡◌, ◌+◌, ◌*◌, ◌<◌, List, [], ◌∷◌, refl, ap, sym, subst, ◌∙◌, map, get_or, None, Some, Option, take}
use Rattle.std.specs.List.{filter}
use Rattle.fx_amounts.specs.declared.side.Side.{Side}
use Rattle.fx_rules.specs.declared.orders.ActiveOrder.{ActiveOrder}
use Rattle.fx_rules.specs.declared.orders.Resting.{Resting}
use Rattle.fx_rules.specs.declared.orders.Fill.{Fill}
use Rattle.fx_rules.specs.declared.orders.Level.{Level}
use Rattle.fx_rules.specs.Lists.{total}
use Rattle.fx_rules.specs.Session.{Header, IsSession, bank_count, pair_count}
use Rattle.fx_rules.specs.State.{State, orders_in, count_of}
use Rattle.fx_rules.specs.Sweep.{Taker, less, is_opposite}
use Rattle.fx_rules.specs.Plan.{Planned, spend}
use Rattle.fx_rules.specs.Depth.{any_price, unlimited, with_fill, levels_of, Shows}
use Rattle.fx_rules.specs.Sound.{IsSound}
use Rattle.flat_host.specs.FlatState.{FlatState, room_in, StandsFor}
use Rattle.flat_host.specs.Parts.{PlannedBy, affordable}
use Rattle.flat_host.specs.inside.Levels.{unlimited_in, ProbedIn}
use Rattle.flat_host.proofs.Tables.{tables_of}
use Rattle.flat_host.proofs.Market.{swept-planned}

-- a taker of another number sweeps alike
abbrev renumbered : ℕ → Fill → Fill
renumbered number fill = record fill { taker_number = number }

planned-renumbered : (number weight : ℕ) (lines : ℕ → ℕ) (book : List Resting) (t : Taker) (last : Option Resting) (fills : List Fill) (left : ℕ) → Planned weight lines book t last fills left → Planned weight lines book (record t { number = number }) last (map (renumbered number) fills) left
planned-renumbered number weight lines book t last [] left planned = planned
planned-renumbered number weight lines book t last (f ∷ fills) left planned = (
  planned.0,
  planned.1,
  planned.2,
  ap (renumbered number) planned.3,
  planned-renumbered number weight (spend lines planned.0.bank (f.lots * weight)) book (less t f.lots) (Some planned.0) fills left planned.4,
)

with_fill-renumbered : (number : ℕ) (f : Fill) (levels : List Level) → with_fill (renumbered number f) levels ≡ with_fill f levels
with_fill-renumbered number f [] = refl
with_fill-renumbered number f (l ∷ levels) = refl

levels_of-renumbered : (number : ℕ) (fills : List Fill) → levels_of (map (renumbered number) fills) ≡ levels_of fills
levels_of-renumbered number [] = refl
levels_of-renumbered number (f ∷ fills) =
    with_fill-renumbered number f (levels_of (map (renumbered number) fills)) ∙ ap (with_fill f) (levels_of-renumbered number fills)

-- such an order, over some orders and counts
abbrev over : ℕ → ℕ → Side → List ActiveOrder → List ℕ → Taker
over bank pair side orders counts = record {
  bank = bank;
  number = 0;
  pair = pair;
  side = side;
  price = any_price side;
  left = total (λ order. order.left) (filter (λ order. is_opposite side order.side) (orders_in pair orders));
  arrival = total (λ count. count) counts;
}

-- what is shown over the flat state is shown of each state that it stands for
pub shows-probed : (h : Header) (S : State) (l : FlatState) (bank pair : ℕ) (side : Side) (levels : List Level) → IsSession h → IsSound h S → StandsFor h S l → bank < bank_count h → pair < pair_count h → ProbedIn l bank pair side levels → Shows h S bank pair side levels
shows-probed h S l bank pair side levels session sound stands bank_in pair_in probed =
    let number : ℕ = count_of S bank + 1 in
    let fills : List Fill = probed.0 in
    let left : ℕ = probed.1 in
    let taker : unlimited_in l bank pair side ≡ over bank pair side S.orders S.counts =
    ap (λ (os : List ActiveOrder). over bank pair side os l.counts) stands.orders ∙ ap (over bank pair side S.orders) stands.counts in
    let here : PlannedBy (get_or l.weights pair 0) l.credit (orders_in pair S.orders) (over bank pair side S.orders S.counts) fills left =
    subst (λ (t : Taker). PlannedBy (get_or l.weights pair 0) l.credit (orders_in pair S.orders) t fills left) taker
    (subst (λ (os : List ActiveOrder). PlannedBy (get_or l.weights pair 0) l.credit (orders_in pair os) (unlimited_in l bank pair side) fills left) stands.orders probed.2) in
    let planned : PlannedBy (get_or l.weights pair 0) l.credit (orders_in pair S.orders) (unlimited S bank pair side) (map (renumbered number) fills) left = record {
      lines = here.lines;
      lines_are = here.lines_are;
      rest = here.rest;
      sum = here.sum;
      planned = planned-renumbered number (get_or l.weights pair 0) here.lines (orders_in pair S.orders)
          (affordable (room_in l.credit bank) (get_or l.weights pair 0) (over bank pair side S.orders S.counts)) None fills here.rest here.planned;
    } in (
      map (renumbered number) fills,
      left,
      swept-planned h S l.weights l.credit (unlimited S bank pair side) (map (renumbered number) fills) left session sound (tables_of h S l stands) bank_in pair_in planned,
      probed.3 ∙ ap (take 10) (sym (levels_of-renumbered number fills)),
    )
