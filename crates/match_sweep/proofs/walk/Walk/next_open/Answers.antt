use Rattle.std.proofs.Common.{◌≡◌, ◌<◌, Some, None, ap, sym, subst, ◌∙◌, arith}
use Rattle.fx_rules.specs.declared.orders.Resting.{Resting}
use Rattle.fx_rules.specs.Lists.{Among}
use Rattle.fx_rules.proofs.ListLemmas.{Each-among}
use Rattle.global_book.specs.Heads.{Heads, head_in}
use Rattle.match_sweep.specs.inside.Walks.{HasCome, IsWalk, MayTake}
use Rattle.match_sweep.specs.declared.walk.Walk.{Walk}
use Rattle.match_sweep.proofs.Stepping.{best-open, found-least, head-of, late-come, least-bank, least-crosses, least-may, least-some, none-open, pays-other, shut-by, shut-come, walk-passed, walk-set}
use Rattle.match_sweep.proofs.walk.Walk.next_open.Goals as goal

pub line_with-line-requires : goal.line_with-line-requires
line_with-line-requires g c =
    let walk = c.loop-bank.invariant.walk in (
      omega arith,
      (
        walk.bank,
        (
          least-bank c.args.lines.now c.loop-bank.self walk c.in-Some.bank c.in-Some.ensures.least,
          (omega (arith, c.in-Some.ensures.least.within, c.least.ensures.count), walk.used c.in-Some.bank),
        ),
      ),
    )

pub head-maker-requires : goal.head-maker-requires
head-maker-requires g c = (
  omega arith,
  (
    omega (arith, c.in-Some.ensures.least.within, c.least.ensures.count),
    least-some c.args.lines.now c.loop-bank.self c.loop-bank.invariant.walk c.in-Some.bank c.in-Some.ensures.least,
  ),
)

pub loop-bank-preserved-then-line-from : goal.loop-bank-preserved-then-line-from
loop-bank-preserved-then-line-from g c =
    let was = c.loop-bank.invariant in
    let walk : Walk g.row.N g.row.G = c.loop-bank.self in
    let small : c.in-Some.bank < g.row.N = omega (arith, c.in-Some.ensures.least.within, c.least.ensures.count) in
    record {
      same = ap (λ (w : Walk g.row.N g.row.G). record w { heads = c.shut.new.self }) was.same;
      orders = ap (λ (h : Heads). h.orders) c.shut.ensures.shut ∙ was.orders;
      walk = subst (λ (h : Heads). IsWalk c.args.lines.now (record walk { heads = h })) (sym c.shut.ensures.shut) (walk-set c.args.lines.now walk was.walk c.in-Some.bank None small tt);
      come = λ last from.
          subst (λ (h : Heads). HasCome c.args.lines.now (record walk { heads = h }) last) (sym c.shut.ensures.shut)
          (shut-come c.args.lines.now walk was.walk c.in-Some.bank last small
          (shut-by c.args.lines.now walk c.in-Some.bank c.line_with-line.result c.line_with-line.ensures.value (omega (arith, c.if-line-from.true, c.from.ensures))) (was.come last from));
      steps = was.steps;
    }

pub returns-then-maker-self-clause-found : goal.returns-then-maker-self-clause-found
returns-then-maker-self-clause-found g c =
    let was = c.loop-bank.invariant in
    let walk : Walk g.row.N g.row.G = c.loop-bank.self in
    let maker : Resting = c.head-maker.result in
    let other = pays-other walk c.in-Some.bank c.line_with-line.result was.walk.weight c.line_with-line.ensures.own (omega (arith, c.if-line-from.false, c.from.ensures)) in
    found-least c.args.lines.now walk was.walk c.in-Some.bank c.line_with-line.result maker c.in-Some.ensures.least c.head-maker.ensures.head other (c.line_with-line.ensures.value other) (omega (arith, c.if-line-from.false, c.from.ensures)) (c.line_with-line.ensures.most other)

pub returns-then-maker-self-clause-comes : goal.returns-then-maker-self-clause-comes
returns-then-maker-self-clause-comes g c = λ last from.
    let was = c.loop-bank.invariant in
    let walk : Walk g.row.N g.row.G = c.loop-bank.self in
    let maker : Resting = c.head-maker.result in
    let at : Some maker ≡ head_in walk.heads c.in-Some.bank = sym c.head-maker.ensures.head in
    let other = pays-other walk c.in-Some.bank c.line_with-line.result was.walk.weight c.line_with-line.ensures.own (omega (arith, c.if-line-from.false, c.from.ensures)) in
    let may : MayTake c.args.lines.now walk maker =
    least-may c.args.lines.now walk was.walk c.in-Some.bank maker c.in-Some.ensures.least at other (omega (arith, c.if-line-from.false, c.from.ensures, c.line_with-line.ensures.value other)) in (
      was.come last from,
      best-open c.args.lines.now walk was.walk last (was.come last from) maker may (least-crosses c.args.lines.now walk was.walk c.in-Some.bank maker c.in-Some.ensures.least at) c.if-maker-self.true,
    )

pub loop-bank-preserved : goal.loop-bank-preserved
loop-bank-preserved g c =
    let was = c.loop-bank.invariant in
    let walk : Walk g.row.N g.row.G = c.loop-bank.self in
    let maker : Resting = c.head-maker.result in
    let small : c.in-Some.bank < g.row.N = omega (arith, c.in-Some.ensures.least.within, c.least.ensures.count) in
    let at : head_in walk.heads c.in-Some.bank ≡ Some maker = c.head-maker.ensures.head in
    record {
      same = ap (λ (w : Walk g.row.N g.row.G). record w { heads = c.pass.new.self }) was.same;
      orders = ap (λ (h : Heads). h.orders) c.pass.ensures.passed.is ∙ was.orders;
      walk = walk-passed c.args.lines.now walk was.walk c.in-Some.bank maker c.pass.new.self small at c.pass.ensures.passed;
      come = λ last from. late-come c.args.lines.now walk was.walk c.in-Some.bank maker c.pass.new.self small at c.pass.ensures.passed last c.if-maker-self.false (was.come last from);
      steps = λ came.
          let there : Among maker c.args.self.now.heads.orders = subst (Among maker) was.orders (head-of c.args.lines.now walk was.walk c.in-Some.bank maker at).there in
          absurd (omega (
            arith,
            Each-among (λ (o : Resting). o.arrival < c.args.self.now.order.arrival) c.args.self.now.heads.orders maker came there,
            c.if-maker-self.false,
            ap (λ (w : Walk g.row.N g.row.G). w.order.arrival) was.same,
          ));
    }

pub returns-clause-comes : goal.returns-clause-comes
returns-clause-comes g c = λ last from.
    let was = c.loop-bank.invariant in
    none-open c.args.lines.now c.loop-bank.self was.walk last (was.come last from) (c.least.ensures.none c.in_default.is)
