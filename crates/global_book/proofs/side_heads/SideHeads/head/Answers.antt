use Rattle.std.proofs.Common.{rules, ℕ, ◌≡◌, Option, Some, None, get_or, refl, ap, subst, sym, ◌∙◌}
use Rattle.std.specs.Option.{IfSome, IsSome}
use Rattle.access_index.specs.declared.words.Head.{Head}
use Rattle.fx_rules.specs.declared.orders.Resting.{Resting}
use Rattle.global_book.specs.Heads.{Heads, head_in}
use Rattle.global_book.specs.inside.Heads.{limit_told, order_told}
use Rattle.global_book.proofs.Heading.{has-head, told, told-at}
use Rattle.global_book.proofs.side_heads.SideHeads.head.Goals.{After-place, After-self}
use Rattle.global_book.proofs.side_heads.SideHeads.head.Goals as goal

-- the head as its word tells it
has : (g : _) (c : After-self g) → (one : Head) × (get_or c.self.inside.heads c.args.bank None ≡ Some one)
has g c =
    has-head g.row.N c.self.inside.linked.now c.self.inside.side (limit_told c.self.inside.side c.self.inside.beyond) c.self.inside.heads c.self.invariant.0 c.args.bank
    c.args.self.now c.self.view_is c.requires.head

pub place-requires : goal.place-requires
place-requires g c = (search rules, (c.requires.bank, subst (λ (h : Option Head). IsSome h) (sym (has g (goal.at.place-requires g c).After-self).1) refl))

place-is : (g : _) (c : After-place g) (one : Head) → get_or c.self.inside.heads c.args.bank None ≡ Some one → c.place.result ≡ one.place
place-is g c one is = subst (λ (h : Option Head). IfSome h (λ (head : Head). c.place.result ≡ head.place)) is c.place.ensures.place

pub order-requires : goal.order-requires
order-requires g c =
    let one = has g (goal.at.order-requires g c).After-self in
    let at = told g.row.N c.self.inside.linked.now c.self.inside.side (limit_told c.self.inside.side c.self.inside.beyond) c.self.inside.heads c.self.invariant.0 c.args.bank one.0 one.1 in
    record {
      live = subst (λ (order : Option Resting). IsSome order)
          (sym (ap (λ (place : ℕ). get_or c.self.inside.linked.now.orders.slots place None) (place-is g (goal.at.order-requires g c).After-place one.0 one.1) ∙ at.is)) refl;
    }

pub returns-clause-head : goal.returns-clause-head
returns-clause-head g c =
    let one = has g (goal.at.returns-clause-head g c).After-self in
    ap (λ (h : Heads). head_in h c.args.bank) (sym c.self.view_is)
    ∙ told-at c.self.inside.linked.now.orders.slots c.self.inside.heads c.args.bank
    ∙ ap (order_told c.self.inside.linked.now.orders.slots) one.1
    ∙ ap (λ (place : ℕ). get_or c.self.inside.linked.now.orders.slots place None) (sym (place-is g (goal.at.returns-clause-head g c).After-place one.0 one.1))
    ∙ c.order.ensures.value
