use Rattle.std.proofs.Common.{None, ap, subst, sym, ◌∙◌}
use Rattle.global_book.specs.Heads.{Heads, with_head}
use Rattle.global_book.specs.inside.Heads.{TellHeads, limit_told}
use Rattle.global_book.proofs.Heading.{fewer-passed, head-set, heads_told, told-set}
use Rattle.global_book.proofs.side_heads.SideHeads.shut.Goals as goal

pub invariant_of-self : goal.invariant_of-self
invariant_of-self g c = (
  subst (TellHeads g.row.N c.self.inside.linked.now c.self.inside.side) (sym c.set.ensures)
      (told-set g.row.N c.self.inside.linked.now c.self.inside.side (limit_told c.self.inside.side c.self.inside.beyond) c.self.inside.heads c.self.invariant.0 c.args.bank None c.requires.bank tt),
  c.self.invariant.1,
)

pub returns-clause-shut : goal.returns-clause-shut
returns-clause-shut g c =
    ap (heads_told c.self.inside.linked.now c.self.inside.side (limit_told c.self.inside.side c.self.inside.beyond)) c.set.ensures
    ∙ head-set g.row.N c.self.inside.linked.now c.self.inside.side (limit_told c.self.inside.side c.self.inside.beyond) c.self.inside.heads c.self.invariant.0 c.args.bank None
    ∙ ap (λ (h : Heads). with_head h c.args.bank None) c.self.view_is

pub returns-clause-fewer : goal.returns-clause-fewer
returns-clause-fewer g c =
    fewer-passed g.row.N c.self.inside.linked.now c.self.inside.side (limit_told c.self.inside.side c.self.inside.beyond) c.self.inside.heads c.self.invariant.0 c.args.bank c.requires.bank None c.args.self.now c.self.view_is
    c.set.new.self c.set.ensures (λ head is. tt)
