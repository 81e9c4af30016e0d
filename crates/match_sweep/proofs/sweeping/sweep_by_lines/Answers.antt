-- Where the walk begins or none is needed, and how many steps it takes in all.
use Rattle.std.proofs.Common.{ℕ, Result, Ok, Err, List, ◌≡◌, ◌≤◌, ◌<◌, ◌+◌, ◌*◌, ◌∙◌, sym, subst, arith, length}
use Rattle.std.specs.Result.{IfOk}
use Rattle.fx_rules.specs.declared.orders.Fill.{Fill}
use Rattle.fx_rules.specs.Sweep.{Taker}
use Rattle.global_book.specs.Book.{Book, IsBook}
use Rattle.credit_lines.specs.Credit.{Credit}
use Rattle.match_sweep.specs.Sweeps.{AddsUp}
use Rattle.match_sweep.specs.declared.sweeping.SweepPlan.{SweepPlan}
use Rattle.match_sweep.specs.inside.Walks.{IsByLines}
use Rattle.match_sweep.proofs.Walking.{bounded, dear-sweep, sum-whole}
use Rattle.match_sweep.proofs.sweeping.sweep_by_lines.Goals as goal

pub returns-then-not-has_within-clause-sweep : goal.returns-then-not-has_within-clause-sweep
returns-then-not-has_within-clause-sweep g c =
    subst (λ (fills : List Fill). IsByLines c.args.book.now c.args.lines.now c.args.weight c.args.order.now fills c.args.order.now.left) (sym (c.from_vec.ensures.items ∙ c.new.ensures.items))
    (dear-sweep c.args.book.now c.args.lines.now c.args.weight c.args.order.now c.opposite.result c.opposite.ensures (c.has_within.ensures.none c.if-not-has_within.true))

if_both : {T E : Type 0} (P Q R : T → Type 0) (r : Result T E) → ((x : T) → P x → Q x → R x) → IfOk r P → IfOk r Q → IfOk r R
if_both P Q R (Ok x) both first second = both x first second
if_both P Q R (Err e) both first second = tt

-- what a walk's result comes to, and its steps with the one for all words
module _ {E : Type 0} (book : Book) (credit : Credit) (weight : ℕ) (t : Taker) (result : Result SweepPlan E) (planned : IfOk result (λ sweep. IsByLines book credit weight t sweep.fills sweep.left)) where
  abbrev by-lines : SweepPlan → Type 0
  by-lines sweep = IsByLines book credit weight t sweep.fills sweep.left

  sums : IfOk result (AddsUp t)
  sums = if_both by-lines by-lines (AddsUp t) result (λ sweep is _. sum-whole book credit weight t sweep.fills sweep.left is) planned planned

  counts : (first seen last : ℕ) → seen ≡ first + 1 → IsBook book → t.bank < book.banks → IfOk result (λ sweep. last ≤ seen + 2 * length sweep.fills)
      → IfOk result (λ sweep. last ≤ first + (length sweep.fills + 1) * book.banks)
  counts first seen last one valid bank steps =
      if_both by-lines (λ (sweep : SweepPlan). last ≤ seen + 2 * length sweep.fills) (λ (sweep : SweepPlan). last ≤ first + (length sweep.fills + 1) * book.banks) result
      (λ sweep is upto. omega (arith, upto, one, bounded book credit weight t sweep.fills sweep.left valid bank is)) planned steps

pub returns-then-banks-le-FEW_BANKS-clause-sum : goal.returns-then-banks-le-FEW_BANKS-clause-sum
returns-then-banks-le-FEW_BANKS-clause-sum g c = sums c.args.book.now c.args.lines.now c.args.weight c.args.order.now c.walk_along.result c.walk_along.ensures.sweep

pub returns-then-banks-le-FEW_BANKS-clause-steps : goal.returns-then-banks-le-FEW_BANKS-clause-steps
returns-then-banks-le-FEW_BANKS-clause-steps g c = λ came.
    counts c.args.book.now c.args.lines.now c.args.weight c.args.order.now c.walk_along.result c.walk_along.ensures.sweep c.args.steps.now c.has_within.new.steps c.walk_along.new.steps c.has_within.ensures.step
    c.has_within.ensures.valid (omega (arith, c.requires.bank, c.requires.banks)) (c.walk_along.ensures.steps came)

pub returns-else-banks-le-FEW_BANKS-clause-sum : goal.returns-else-banks-le-FEW_BANKS-clause-sum
returns-else-banks-le-FEW_BANKS-clause-sum g c = sums c.args.book.now c.args.lines.now c.args.weight c.args.order.now c.walk_along-else-banks-le-FEW_BANKS.result c.walk_along-else-banks-le-FEW_BANKS.ensures.sweep

pub returns-else-banks-le-FEW_BANKS-clause-steps : goal.returns-else-banks-le-FEW_BANKS-clause-steps
returns-else-banks-le-FEW_BANKS-clause-steps g c = λ came.
    counts c.args.book.now c.args.lines.now c.args.weight c.args.order.now c.walk_along-else-banks-le-FEW_BANKS.result c.walk_along-else-banks-le-FEW_BANKS.ensures.sweep c.args.steps.now c.has_within.new.steps c.walk_along-else-banks-le-FEW_BANKS.new.steps c.has_within.ensures.step
    c.has_within.ensures.valid (omega (arith, c.requires.bank, c.requires.banks)) (c.walk_along-else-banks-le-FEW_BANKS.ensures.steps came)
