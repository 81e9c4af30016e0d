use Rattle.std.proofs.Common.{ℕ, ◌≡◌, ◌+◌, ◌-◌, ◌*◌, ◌≤◌, ◌<◌, List, [], ◌∷◌, Some, inr, refl, ap, sym, subst, ◌∙◌, arith}
use Rattle.fx_rules.specs.declared.orders.Fill.{Fill}
use Rattle.fx_rules.specs.declared.orders.Resting.{Resting}
use Rattle.fx_rules.specs.Sweep.{IsBest}
use Rattle.global_book.specs.Heads.{Heads, head_in}
use Rattle.match_sweep.specs.inside.Walks.{GoesBehind, HasCome, IsWalk, LeadsOn, StepsOn, Takes, left_with, open_from}
use Rattle.match_sweep.specs.declared.walk.Walk.{Walk}
use Rattle.match_sweep.proofs.Stepping.{cost-fits, from-along, goes-on, head-small, open-along, orders-behind, taken-come, walk-behind, walk-taken}
use Rattle.match_sweep.proofs.walk.Walk.next_fill.Goals as goal
use Rattle.match_sweep.proofs.walk.Walk.next_fill.Goals.{then-self-gt0, else-self-gt0}

pub returns-in_err-maker-clause-steps : goal.returns-in_err-maker-clause-steps
returns-in_err-maker-clause-steps g c = λ last ready.
    let old : Walk g.row.N g.row.G = c.args.self.now in
    let new : Walk g.row.N g.row.G = c.next_open.new.self in
    let none : open_from c.args.lines.now new last ≡ [] = c.in_err-maker.ensures.comes last (ready (omega (arith, c.if-self-eq0.false))) in
    subst (StepsOn c.args.lines.now old new last) (sym c.from_residual.ensures) (
      ap (λ (w : Walk g.row.N g.row.G). w.order) c.next_open.ensures.same,
      (refl, inr (sym (open-along c.args.lines.now old new last c.next_open.ensures.same c.next_open.ensures.along.orders) ∙ none)),
    )

pub take-fill-requires : goal.take-fill-requires
take-fill-requires g c =
    let walk : Walk g.row.N g.row.G = c.next_open.new.self in
    let is = c.next_open.ensures.walk in
    let found = c.in_ok-maker.ensures.found in (
      omega arith,
      (
        omega (arith, c.if-self-eq0.false, ap (λ (w : Walk g.row.N g.row.G). w.order.left) c.next_open.ensures.same),
        (
          is.weight,
          (
            head-small c.args.lines.now walk is c.in_ok-maker.maker.bank c.in_ok-maker.maker found.may.is,
            (omega (arith, found.line, found.may.line), omega (arith, found.most, is.used c.in_ok-maker.maker.bank)),
          ),
        ),
      ),
    )

-- what the order costs, of the line that is found
costs : {n g : ℕ} (line : ℕ) (walk new : Walk n g) (maker : Resting) (fill : Fill) → Takes line walk new maker fill → fill.lots * new.weight ≤ line
costs {n = n} {g = g} line walk new maker fill takes =
    omega (arith, cost-fits line walk new maker fill takes, ap (λ (w : Walk n g). fill.lots * w.weight) takes.now)

pub overflow_sub-still : goal.overflow_sub-still
overflow_sub-still g c =
    omega (arith, costs c.in_ok-maker.line c.next_open.new.self c.take-fill.new.self c.in_ok-maker.maker c.take-fill.result c.take-fill.ensures.taken, c.get.ensures.value, c.cost.ensures)

-- the walk once the order is taken, with the line as it is told
module _ {n g : ℕ} (line : ℕ) (walk new : Walk n g) (maker : Resting) (fill : Fill) (takes : Takes line walk new maker fill) where
  head_kept : head_in walk.heads maker.bank ≡ Some maker → head_in new.heads maker.bank ≡ Some maker
  head_kept is = ap (λ (w : Walk n g). head_in w.heads maker.bank) takes.now ∙ is

  goes_behind : (still : ℕ) (heads : Heads) → GoesBehind new.weight still new.heads heads maker.bank → GoesBehind walk.weight still walk.heads heads maker.bank
  goes_behind still heads behind = subst (λ (w : Walk n g). GoesBehind w.weight still w.heads heads maker.bank) takes.now behind

pub returns-clause-walk : goal.returns-clause-walk
returns-clause-walk g c =
    let lines = c.args.lines.now in
    let walk : Walk g.row.N g.row.G = c.next_open.new.self in
    let is = c.next_open.ensures.walk in
    let maker : Resting = c.in_ok-maker.maker in
    let new : Walk g.row.N g.row.G = c.take-fill.new.self in
    let found = c.in_ok-maker.ensures.found in
    let fill : Fill = c.take-fill.result in
    let takes : Takes (left_with lines walk maker.bank) walk new maker fill = subst (λ (n : ℕ). Takes n walk new maker fill) found.line c.take-fill.ensures.taken in
    let taken : IsWalk lines new = walk-taken lines walk is maker found.may fill new takes in
    elim c.if-self-gt0.branch [
      | then-self-gt0 w ↦
          let next : Walk g.row.N g.row.G = w.go_behind.new.self in
          let still : ℕ = c.in_ok-maker.line - c.get.result in
          subst (IsWalk lines) (sym (w.self-is ∙ w.go_behind.ensures.same))
          (walk-behind lines new taken still next.heads maker (head-small lines walk is maker.bank maker found.may.is)
          (head_kept (left_with lines walk maker.bank) walk new maker fill takes found.may.is) w.go_behind.ensures.behind)
      | else-self-gt0 w ↦ subst (IsWalk lines) (sym w.self-is) taken
    ]

pub returns-clause-along : goal.returns-clause-along
returns-clause-along g c =
    let walk : Walk g.row.N g.row.G = c.next_open.new.self in
    let new : Walk g.row.N g.row.G = c.take-fill.new.self in
    let along = c.next_open.ensures.along in
    let now = c.take-fill.ensures.taken.now in
    let orders : new.heads.orders ≡ c.args.self.now.heads.orders = ap (λ (v : Walk g.row.N g.row.G). v.heads.orders) now ∙ along.orders in
    let arrival : new.order.arrival ≡ c.args.self.now.order.arrival = ap (λ (v : Walk g.row.N g.row.G). v.order.arrival) now ∙ along.arrival in
    elim c.if-self-gt0.branch [
      | then-self-gt0 w ↦
          let next : Walk g.row.N g.row.G = w.go_behind.new.self in
          let still : ℕ = c.in_ok-maker.line - c.get.result in
          record {
            orders = ap (λ (v : Walk g.row.N g.row.G). v.heads.orders) w.self-is ∙ orders-behind new.weight still new.heads next.heads c.in_ok-maker.maker.bank w.go_behind.ensures.behind ∙ orders;
            arrival = ap (λ (v : Walk g.row.N g.row.G). v.order.arrival) (w.self-is ∙ w.go_behind.ensures.same) ∙ arrival;
          }
      | else-self-gt0 w ↦
          record {
            orders = ap (λ (v : Walk g.row.N g.row.G). v.heads.orders) w.self-is ∙ orders;
            arrival = ap (λ (v : Walk g.row.N g.row.G). v.order.arrival) w.self-is ∙ arrival;
          }
    ]

pub returns-clause-counted : goal.returns-clause-counted
returns-clause-counted g c = λ came.
    elim c.if-self-gt0.branch [
      | then-self-gt0 w ↦ omega (arith, w.steps-is, w.go_behind.ensures.step, c.in_ok-maker.ensures.counted came)
      | else-self-gt0 w ↦ omega (arith, w.steps-is, c.in_ok-maker.ensures.counted came)
    ]

pub returns-clause-steps : goal.returns-clause-steps
returns-clause-steps g c = λ last ready.
    let lines = c.args.lines.now in
    let old : Walk g.row.N g.row.G = c.args.self.now in
    let walk : Walk g.row.N g.row.G = c.next_open.new.self in
    let is = c.next_open.ensures.walk in
    let maker : Resting = c.in_ok-maker.maker in
    let new : Walk g.row.N g.row.G = c.take-fill.new.self in
    let fill : Fill = c.take-fill.result in
    let found = c.in_ok-maker.ensures.found in
    let takes : Takes (left_with lines walk maker.bank) walk new maker fill = subst (λ (n : ℕ). Takes n walk new maker fill) found.line c.take-fill.ensures.taken in
    let kept : new.heads ≡ walk.heads = ap (λ (v : Walk g.row.N g.row.G). v.heads) takes.now in
    let some : 1 ≤ old.order.left = omega (arith, c.if-self-eq0.false) in
    let here : 1 ≤ walk.order.left = omega (arith, some, ap (λ (v : Walk g.row.N g.row.G). v.order.left) c.next_open.ensures.same) in
    let comes : HasCome lines walk last × IsBest walk.order.side (open_from lines walk last) maker = c.in_ok-maker.ensures.comes last (ready some) in
    let less : new.order.left < old.order.left =
    omega (arith, ap (λ (v : Walk g.row.N g.row.G). v.order.left) takes.now, takes.some, here, ap (λ (v : Walk g.row.N g.row.G). v.order.left) c.next_open.ensures.same) in
    let back = λ (more : List Fill) (left : ℕ). from-along lines old walk last (fill ∷ more) left c.next_open.ensures.same c.next_open.ensures.along.orders in
    elim c.if-self-gt0.branch [
      | then-self-gt0 w ↦
          let next : Walk g.row.N g.row.G = w.go_behind.new.self in
          let still : ℕ = c.in_ok-maker.line - c.get.result in
          let behind : GoesBehind walk.weight still walk.heads next.heads maker.bank = goes_behind (left_with lines walk maker.bank) walk new maker fill takes still next.heads w.go_behind.ensures.behind in
          let paid : still + fill.lots * walk.weight ≡ left_with lines walk maker.bank =
          omega (arith, found.line, cost-fits (left_with lines walk maker.bank) walk new maker fill takes, c.get.ensures.value, c.cost.ensures, ap (λ (v : Walk g.row.N g.row.G). fill.lots * v.weight) takes.now) in
          subst (λ (v : Walk g.row.N g.row.G). LeadsOn lines old v last fill) (sym (w.self-is ∙ w.go_behind.ensures.same)) (record {
            maker = maker;
            has_come = λ _. taken-come lines walk is maker found.may fill new takes last still next.heads comes.0 (head-small lines walk is maker.bank maker found.may.is) paid behind;
            goes_on = λ more left from.
                back more left (goes-on lines walk is maker found.may fill new takes last next.heads (orders-behind walk.weight still walk.heads next.heads maker.bank behind) here comes.1 more left from);
            wants = less;
          })
      | else-self-gt0 w ↦
          subst (λ (v : Walk g.row.N g.row.G). LeadsOn lines old v last fill) (sym w.self-is) (record {
            maker = maker;
            has_come = λ more. absurd (omega (arith, more, w.if-self-gt0.false));
            goes_on = λ more left from. back more left (goes-on lines walk is maker found.may fill new takes last new.heads (ap (λ (h : Heads). h.orders) kept) here comes.1 more left from);
            wants = less;
          })
    ]
