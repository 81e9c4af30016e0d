use Rattle.std.proofs.Common.{◌≡◌, ◌≤◌, ◌+◌, ◌++◌, true, List, drop, length}
use Rattle.fx_rules.specs.declared.orders.Fill.{Fill}
use Rattle.fx_rules.specs.Lists.{Each}
use Rattle.fx_rules.specs.Sound.{ArrivesBefore}
use Rattle.credit_raise.specs.inside.Playing.{AreTurns, Played}
use Rattle.credit_raise.proofs.raise.play.Given as goal

-- whatever fills the turns from here make, make, behind those so far, the fills of all turns; what waits came before them; one step for each that had its turn, and one
-- for each fill
abbrev pub invariant-loop-order : goal.invariant-loop-order
invariant-loop-order g l = record {
  goes_on : (more : List Fill) →
      Played l.fn.pair l.weight l.i l.j l.replay.line l.replay.waiting.orders (drop l.order-index l.turns) more →
      Played l.fn.pair l.weight l.i l.j l.fn.eff l.fn.waiting.orders l.turns (l.replay.fills.items ++ more);
  weight : l.replay.weight ≡ l.weight;
  banks : l.replay.waiting.banks ≡ l.fn.waiting.banks;
  listed : l.replay.waiting.listed ≡ l.fn.waiting.listed;
  unlooked : l.fn.waiting.listed ≡ true → l.steps ≡ l.fn.steps;
  pair : l.replay.pair ≡ l.fn.pair;
  are_turns : AreTurns l.i l.j (drop l.order-index l.turns);
  steps : l.steps + length (drop l.order-index l.turns) ≤ l.fn.steps + length l.turns + length l.replay.fills.items;
  before : Each (λ waiting. Each (ArrivesBefore waiting) (drop l.order-index l.turns)) l.replay.waiting.orders;
}
