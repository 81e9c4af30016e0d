use Rattle.std.proofs.Common.{Option, Some, subst, sym, ◌∙◌}
use Rattle.std.specs.Option.{IfSome}
use Rattle.fx_rules.specs.declared.orders.Resting.{Resting}
use Rattle.access_index.specs.declared.words.Head.{Head}
use Rattle.global_book.specs.Heads.{IsNext, head_in}
use Rattle.global_book.specs.inside.Heads.{TellHeads, TellsOrder, limit_told, order_told}
use Rattle.global_book.specs.inside.Linked.{orders_in}
use Rattle.global_book.proofs.Heading.{fewer-passed, heads_told, is-behind, none-told, passes-next, told-behind, told-set}
use Rattle.global_book.proofs.side_heads.SideHeads.pass.Goals as goal
use Rattle.global_book.proofs.side_heads.SideHeads.pass.Goals.{in-Some, in-None}

-- what the next head tells, and that it is the one behind the head that is passed
next_is : (g : _) (c : goal.After-set g) → IfSome c.match-of.next (TellsOrder c.self.inside.linked.now.orders.slots c.self.inside.side c.args.bank)
    × IfSome (head_in (heads_told c.self.inside.linked.now c.self.inside.side (limit_told c.self.inside.side c.self.inside.beyond) c.self.inside.heads) c.args.bank)
    (λ (passed : Resting). IsNext c.self.inside.side c.args.bank (Some passed) (orders_in c.self.inside.linked.now) (order_told c.self.inside.linked.now.orders.slots c.match-of.next))
next_is g c = elim c.match-of.branch [
  | in-Some w ↦
      let it = told-behind g.row.N c.self.inside.linked.now c.self.inside.side (limit_told c.self.inside.side c.self.inside.beyond) c.self.inside.heads c.self.invariant.0 c.args.bank w.in-Some.head (sym c.of.ensures.head ∙ w.in-Some.is) w.head_behind-next.result
      w.head_behind-next.ensures.behind w.head_behind-next.ensures.rank w.head_behind-next.ensures.fits in
      subst (λ (next : Option Head). IfSome next (TellsOrder c.self.inside.linked.now.orders.slots c.self.inside.side c.args.bank)
      × IfSome (head_in (heads_told c.self.inside.linked.now c.self.inside.side (limit_told c.self.inside.side c.self.inside.beyond) c.self.inside.heads) c.args.bank)
      (λ (passed : Resting). IsNext c.self.inside.side c.args.bank (Some passed) (orders_in c.self.inside.linked.now) (order_told c.self.inside.linked.now.orders.slots next))) (sym w.next-is) it
  | in-None w ↦
      subst (λ (next : Option Head). IfSome next (TellsOrder c.self.inside.linked.now.orders.slots c.self.inside.side c.args.bank)
      × IfSome (head_in (heads_told c.self.inside.linked.now c.self.inside.side (limit_told c.self.inside.side c.self.inside.beyond) c.self.inside.heads) c.args.bank)
      (λ (passed : Resting). IsNext c.self.inside.side c.args.bank (Some passed) (orders_in c.self.inside.linked.now) (order_told c.self.inside.linked.now.orders.slots next))) (sym w.next-is)
      (tt, none-told g.row.N c.self.inside.linked.now c.self.inside.side (limit_told c.self.inside.side c.self.inside.beyond) c.self.inside.heads c.self.invariant.0 c.args.bank (sym c.of.ensures.head ∙ w.in-None.is) _)
]

pub invariant_of-self : goal.invariant_of-self
invariant_of-self g c = (
  subst (TellHeads g.row.N c.self.inside.linked.now c.self.inside.side) (sym c.set.ensures)
      (told-set g.row.N c.self.inside.linked.now c.self.inside.side (limit_told c.self.inside.side c.self.inside.beyond) c.self.inside.heads c.self.invariant.0 c.args.bank c.match-of.next c.requires.bank (next_is g c).0),
  c.self.invariant.1,
)

pub returns-clause-passed : goal.returns-clause-passed
returns-clause-passed g c =
    passes-next g.row.N c.self.inside.linked.now c.self.inside.side (limit_told c.self.inside.side c.self.inside.beyond) c.self.inside.heads c.self.invariant.0 c.args.bank c.match-of.next c.args.self.now c.self.view_is c.set.new.self c.set.ensures (next_is g c).1

pub returns-clause-fewer : goal.returns-clause-fewer
returns-clause-fewer g c =
    fewer-passed g.row.N c.self.inside.linked.now c.self.inside.side (limit_told c.self.inside.side c.self.inside.beyond) c.self.inside.heads c.self.invariant.0 c.args.bank c.requires.bank c.match-of.next c.args.self.now c.self.view_is
    c.set.new.self c.set.ensures (λ head is. is-behind c.self.inside.side c.args.bank (orders_in c.self.inside.linked.now) head (order_told c.self.inside.linked.now.orders.slots c.match-of.next)
    (subst (λ (f : Option Resting). IfSome f (λ (passed : Resting). IsNext c.self.inside.side c.args.bank (Some passed) (orders_in c.self.inside.linked.now) (order_told c.self.inside.linked.now.orders.slots c.match-of.next))) is (next_is g c).1))
