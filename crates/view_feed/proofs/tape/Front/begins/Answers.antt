use Rattle.std.proofs.Common.{ap, subst, refl, List}
use mathlib.Core.List.{IsPrefix}
use Rattle.fx_rules.specs.declared.outcome.Entry.{Entry}
use Rattle.view_feed.proofs.Comparing.{compared}
use Rattle.view_feed.proofs.tape.Front.begins.Goals as goal

pub returns : goal.returns
returns c =
    let both = c.learn.new.self.log in
    let own : IsPrefix c.self.inside.seen.log both = subst (λ (l : List Entry). IsPrefix l both) (ap (λ s. s.log) c.again-both.ensures) c.learn.ensures.2 in
    record { begins = rw (← c.self.view_is, ← c.other.view_is) (compared _ c.self.inside.seen.log c.other.inside.seen.log both c.self.inside.count c.other.inside.count refl c.self.invariant c.other.invariant own c.learn.ensures.3) }
