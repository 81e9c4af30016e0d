-- The fills of a walk so far, and what they come to at its end.
use Rattle.std.proofs.Common.{ℕ, ◌≡◌, ◌≤◌, ◌<◌, ◌+◌, List, [], ◌∷◌, ◌++◌, None, slice_index, take, length, ap, sym, subst, ◌∙◌, arith, append_assoc, append-nil}
use Rattle.fx_rules.specs.declared.orders.ActiveOrder.{ActiveOrder}
use Rattle.fx_rules.specs.declared.orders.Fill.{Fill}
use Rattle.fx_rules.specs.declared.orders.Level.{Level}
use Rattle.fx_rules.specs.Lists.{total}
use Rattle.fx_rules.specs.State.{orders_in}
use Rattle.fx_rules.specs.Sweep.{Taker}
use Rattle.fx_rules.specs.Plan.{Planned}
use Rattle.fx_rules.specs.Depth.{levels_of, fill_added}
use Rattle.fx_rules.proofs.ListLemmas.{total-append}
use Rattle.fx_rules.proofs.Levelling.{levels_of-push, total-levels}
use Rattle.fx_rules.proofs.Levels.{first_levels-stay}
use Rattle.flat_host.specs.declared.sweep.Walk.{Walk}
use Rattle.flat_host.specs.Walks.{FromHere, LeadsOn, IsLevelled}
use Rattle.fx_rules.proofs.Existing.{planned-exists}

-- A walk that began with a taker and its lines made these fills so far: whatever it makes from here it made, behind them, from
-- its beginning, and their lots were paid for by the lines.
pub record Went (weight : ℕ) (orders : List ActiveOrder) (lines : List ℕ) (taker : Taker) (now : Walk) (fills : List Fill) : Type 0 where
  pub goes_on : (more : List Fill) (left : ℕ) → FromHere weight orders now more left →
      Planned weight (slice_index lines) (orders_in taker.pair orders) taker None (fills ++ more) left
  pub paid : total (λ fill. fill.lots) fills + total (λ line. line) now.lines ≤ total (λ line. line) lines
  pub wants : now.taker.left ≤ taker.left

walk : Taker → List ℕ → Walk
walk taker lines = record { taker = taker; lines = lines; last = None }

pub went-on : (weight : ℕ) (orders : List ActiveOrder) (lines : List ℕ) (taker : Taker) (now next : Walk) (fills : List Fill) (fill : Fill) → Went weight orders lines taker now fills → LeadsOn weight orders now next fill → Went weight orders lines taker next (fills ++ fill ∷ [])
went-on weight orders lines taker now next fills fill went leads = record {
  goes_on = λ more left from.
      subst (λ (fs : List Fill). Planned weight (slice_index lines) (orders_in taker.pair orders) taker None fs left) (sym (append_assoc fills (fill ∷ []) more))
      (went.goes_on (fill ∷ more) left (leads.goes_on more left from));
  paid = omega (arith, total-append (λ (f : Fill). f.lots) fills (fill ∷ []), went.paid, leads.paid);
  wants = omega (arith, went.wants, leads.wants);
}

-- at its end the fills are the whole sweep
pub went-whole : (weight : ℕ) (orders : List ActiveOrder) (lines : List ℕ) (taker : Taker) (now : Walk) (fills : List Fill) (left : ℕ) → Went weight orders lines taker now fills → FromHere weight orders now [] left → Planned weight (slice_index lines) (orders_in taker.pair orders) taker None fills left
went-whole weight orders lines taker now fills left went from =
    subst (λ (fs : List Fill). Planned weight (slice_index lines) (orders_in taker.pair orders) taker None fs left) (append-nil fills) (went.goes_on [] left from)

-- the levels of the fills so far
pub record WentBy (weight : ℕ) (orders : List ActiveOrder) (lines : List ℕ) (taker : Taker) (now : Walk) (levels : List Level) : Type 0 where
  pub fills : List Fill
  pub went : Went weight orders lines taker now fills
  pub levels_are : levels ≡ levels_of fills

pub by-on : (weight : ℕ) (orders : List ActiveOrder) (lines : List ℕ) (taker : Taker) (now next : Walk) (levels more : List Level) (fill : Fill) → WentBy weight orders lines taker now levels → LeadsOn weight orders now next fill → more ≡ fill_added levels fill → WentBy weight orders lines taker next more
by-on weight orders lines taker now next levels more fill by leads added = record {
  fills = by.fills ++ fill ∷ [];
  went = went-on weight orders lines taker now next by.fills fill by.went leads;
  levels_are = added ∙ ap (λ (ls : List Level). fill_added ls fill) by.levels_are ∙ sym (levels_of-push by.fills fill);
}

-- the lots of the levels and of the next fill are what the lines pay for
pub by-lots : (weight : ℕ) (orders : List ActiveOrder) (lines : List ℕ) (taker : Taker) (now next : Walk) (levels : List Level) (fill : Fill) (most : ℕ) → WentBy weight orders lines taker now levels → LeadsOn weight orders now next fill → total (λ (n : ℕ). n) lines < most → total (λ (l : Level). l.lots) levels + fill.lots < most
by-lots weight orders lines taker now next levels fill most by leads few =
    omega (arith, by.went.paid, leads.paid, ap (total (λ (l : Level). l.lots)) by.levels_are, total-levels by.fills)

-- at the end of the walk the levels are those of the whole sweep
pub levelled-whole : (weight : ℕ) (orders : List ActiveOrder) (lines : List ℕ) (taker : Taker) (now : Walk) (levels first : List Level) (left : ℕ) → WentBy weight orders lines taker now levels → FromHere weight orders now [] left → first ≡ take 10 levels → IsLevelled weight lines orders taker first
levelled-whole weight orders lines taker now levels first left by from is = (
  by.fills,
  left,
  went-whole weight orders lines taker now by.fills left by.went from,
  is ∙ ap (take 10) by.levels_are,
)

-- where there are more than ten the first ten are those of the whole sweep
pub levelled-full : (weight : ℕ) (orders : List ActiveOrder) (lines : List ℕ) (taker : Taker) (now : Walk) (levels first : List Level) → WentBy weight orders lines taker now levels → 10 < length levels → first ≡ take 10 levels → IsLevelled weight lines orders taker first
levelled-full weight orders lines taker now levels first by many is =
    let rest = planned-exists weight (slice_index now.lines) (orders_in now.taker.pair orders) now.taker now.last in (
      by.fills ++ rest.0,
      rest.1,
      by.went.goes_on rest.0 rest.1 rest.2,
      is ∙ ap (take 10) by.levels_are ∙ sym (first_levels-stay 10 by.fills rest.0 (omega (arith, many, ap (λ (ls : List Level). length ls) by.levels_are))),
    )
