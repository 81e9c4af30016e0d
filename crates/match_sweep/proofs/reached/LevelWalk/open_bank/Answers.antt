-- The line and the rank that was found are written down.
use Rattle.std.proofs.Common.{ℕ, ◌≡◌, ◌≤◌, ◌/◌, ◌^◌, ap, length, subst, ◌∙◌, arith, slice_index}
use Rattle.std.proofs.Math.ListN.{length-set}
use Rattle.credit_lines.specs.Credit.{line_in}
use Rattle.match_sweep.specs.declared.reached.LevelWalk.{LevelWalk}
use Rattle.match_sweep.specs.inside.Reaches.{Puts}
use Rattle.match_sweep.proofs.Reaching.{put_line, put_others, put_rank, put_same}
use Rattle.match_sweep.proofs.Stepping.{paid_for}
use Rattle.match_sweep.proofs.reached.LevelWalk.open_bank.Goals as goal

pub returns-clause-opens : goal.returns-clause-opens
returns-clause-opens c =
    let old : LevelWalk = c.args.self.now in
    let new : LevelWalk = c.put.new.self in
    let line : ℕ = c.get-line.result in
    let other : ℕ = c.args.other in
    let rank : ℕ = c.args.word / 2 ^ 34 in
    let line_is : line ≡ line_in c.args.lines.now c.args.bank other = c.get-line.ensures.value ∙ c.eff.ensures.value in
    let puts : Puts old new other line rank = subst (λ (at : ℕ). Puts old new at line rank) c.index.ensures.value c.put.ensures.puts in
    let there : slice_index new.lines other ≡ line = put_line old new other line rank (omega (arith, c.index.ensures.value, c.index.ensures.most)) puts in
    record {
      keeps = record {
        same = put_same old new other line rank puts;
        long = ap (λ (w : LevelWalk). length w.lines) puts.is ∙ length-set old.lines other line;
      };
      line = there ∙ line_is;
      most = omega (arith, line_is, c.get-line.ensures.most);
      has = λ reach. put_rank old new other line rank (omega (arith, c.index.ensures.value, c.index.ensures.most))
          (paid_for line old.weight c.requires.weight (subst (λ (n : ℕ). 1 ≤ n / old.weight) there reach)) puts;
      others = λ third differ. put_others old new other line rank third differ puts;
    }
