-- The fills of the walk are the sweep.
use Rattle.std.proofs.Common.{ℕ, List, [], ◌∷◌, ap, sym, subst, arith, length, length-append}
use Rattle.fx_amounts.specs.Side.{opposite}
use Rattle.fx_amounts.specs.declared.side.Side.{Side}
use Rattle.fx_rules.specs.declared.orders.Fill.{Fill}
use Rattle.fx_rules.specs.declared.orders.Resting.{Resting}
use Rattle.global_book.specs.Heads.{IsBegun}
use Rattle.match_sweep.specs.inside.Heads.{CameBefore}
use Rattle.match_sweep.proofs.Walking.{Gone, first_walk, gone-begins, gone-on, gone-whole}
use Rattle.match_sweep.proofs.sweeping.walk_along.Goals as goal

pub loop-fill-init : goal.loop-fill-init
loop-fill-init g c =
    let begun : IsBegun c.args.book.now (opposite c.args.order.now.side) c.args.order.now.price g.row.N c.heads.result =
    subst (λ (s : Side). IsBegun c.args.book.now s c.args.order.now.price g.row.N c.heads.result) c.opposite.ensures c.heads.ensures.begun in
    record {
      gone = subst (λ (fills : List Fill). Gone c.args.book.now c.args.lines.now c.args.weight c.args.order.now (first_walk {n = g.row.N} {g = g.row.G} c.args.book.now c.args.lines.now c.args.weight c.args.order.now c.heads.result c.heads.ensures.valid c.requires.banks begun) fills) (sym c.new-fills.ensures.items)
          (gone-begins {n = g.row.N} {g = g.row.G} c.args.book.now c.args.lines.now c.args.weight c.args.order.now c.heads.result c.heads.ensures.valid c.requires.banks begun c.requires.bank c.requires.weight c.requires.few);
      steps = λ _. omega arith;
    }

pub loop-fill-smaller : goal.loop-fill-smaller
loop-fill-smaller g c = omega (arith, (c.in-Some.ensures.steps c.loop-fill.invariant.gone.last c.loop-fill.invariant.gone.come).wants)

pub loop-fill-preserved : goal.loop-fill-preserved
loop-fill-preserved g c =
    let was = c.loop-fill.invariant in
    let items = c.in_ok-push.ensures.items in
    record {
      gone = gone-on c.args.book.now c.args.lines.now c.args.weight c.args.order.now c.loop-fill.walk c.next_fill.new.self c.loop-fill.fills.items c.push.new.self.items was.gone
          c.in-Some.fill items c.in-Some.ensures.steps c.next_fill.ensures.walk c.next_fill.ensures.along;
      steps = λ came.
          let before : CameBefore c.loop-fill.walk.heads.orders c.loop-fill.walk.order.arrival =
          subst (λ (os : List Resting). CameBefore os c.loop-fill.walk.order.arrival) (sym was.gone.orders)
          (subst (λ (n : ℕ). CameBefore c.args.book.now.orders n) (sym was.gone.arrival) came) in
          omega (arith, was.steps came, c.in-Some.ensures.counted before, ap length items, length-append c.loop-fill.fills.items (c.in-Some.fill ∷ []));
    }

pub returns-clause-sweep : goal.returns-clause-sweep
returns-clause-sweep g c =
    gone-whole c.args.book.now c.args.lines.now c.args.weight c.args.order.now c.loop-fill.walk c.next_fill.new.self c.loop-fill.fills.items c.from_vec.result c.loop-fill.invariant.gone
    c.in_default.ensures.steps c.from_vec.ensures.items
