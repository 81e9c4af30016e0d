use Rattle.std.proofs.Common.{refl, arith}
use Rattle.match_sweep.proofs.reached.LevelWalk.show_near.Goals as goal

pub returns-clause-shown : goal.returns-clause-shown
returns-clause-shown g c = λ shown.
    c.show_marked.ensures.shown shown c.args.book.now c.args.self.now c.args.banks.now c.opposite.ensures (record {
      weight = c.requires.weight;
      ranks = omega arith;
      reached = c.requires.reached;
      lowest = c.requires.lowest;
      words = c.read_marks.new.marks;
      seen = c.in-Some.ensures.seen;
      paid = c.if-not-read_lots.ensures.paid refl;
    })
