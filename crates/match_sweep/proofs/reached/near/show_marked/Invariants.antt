use Rattle.std.proofs.Common.{ℕ, List, ◌≡◌, ◌≤◌, ◌<◌, ◌-◌, length}
use Rattle.std.specs.Int.{bit_at}
use Rattle.std.specs.Prelude.{vec_capacity}
use Rattle.fx_amounts.specs.Side.{opposite}
use Rattle.fx_rules.specs.declared.orders.Level.{Level}
use Rattle.global_book.specs.Book.{Book}
use Rattle.credit_lines.specs.Credit.{Credit}
use Rattle.match_sweep.specs.declared.reached.LevelWalk.{LevelWalk}
use Rattle.match_sweep.specs.inside.Near.{IsNear}
use Rattle.match_sweep.specs.inside.Reaches.{BeginsAt}
use Rattle.match_sweep.proofs.Cutting.{AreCut}
use Rattle.match_sweep.proofs.Nearing.{NearWay}
use Rattle.match_sweep.proofs.reached.near.show_marked.Given as goal

-- the marks from a place on are left, and the levels so far are those of the marks before it
abbrev pub invariant-loop-side : goal.invariant-loop-side
invariant-loop-side l = record {
  at : ℕ;
  passed : (k : ℕ) → k < at → bit_at l.left k ≡ 0;
  to_come : (k : ℕ) → at ≤ k → k < 64 → bit_at l.left k ≡ bit_at l.all k;
  whole : List Level;
  room : 10 ≤ vec_capacity l.levels;
  cut : AreCut l.total l.most whole l.levels.items;
  way : (book : Book) (walk : LevelWalk) (banks : List ℕ) → l.side ≡ opposite walk.taker → IsNear book walk banks l.from l.last l.all l.lots → (credit : Credit) (bank : ℕ)
      → (begins : BeginsAt book credit walk.weight bank walk.taker walk) → NearWay book begins.valid walk banks l.from bank at whole;
}

abbrev pub decreases-loop-side : goal.decreases-loop-side
decreases-loop-side l = 10 - length l.levels.items
