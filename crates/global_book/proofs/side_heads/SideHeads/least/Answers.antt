use Rattle.std.proofs.Common.{ℕ, ◌≡◌, false, subst}
use Rattle.std.specs.Option.{IfSome}
use Rattle.fx_amounts.specs.Price.{crosses}
use Rattle.fx_amounts.specs.Side.{opposite}
use Rattle.fx_rules.specs.declared.orders.Resting.{Resting}
use Rattle.global_book.specs.Heads.{Heads, IsLeast, head_in}
use Rattle.global_book.specs.Room.{rank_of}
use Rattle.global_book.specs.inside.Heads.{limit_told}
use Rattle.global_book.proofs.Heading.{least-dear, least-found}
use Rattle.global_book.proofs.side_heads.SideHeads.least.Goals as goal

pub returns-clause-least : goal.returns-clause-least
returns-clause-least g c =
    let limit : ℕ = limit_told c.self.inside.side c.self.inside.beyond in
    subst (λ (h : Heads). IfSome c.best_below.result (IsLeast h)) c.self.view_is
    (least-found g.row.N c.self.inside.linked.now c.self.inside.side limit c.self.inside.heads c.self.invariant.0 c.best_below.result c.self.invariant.1.most
    (c.best_below.ensures.best (rank_of c.self.inside.side limit) c.self.invariant.1.is))

pub returns-clause-none : goal.returns-clause-none
returns-clause-none g c = λ none.
    let limit : ℕ = limit_told c.self.inside.side c.self.inside.beyond in
    subst (λ (h : Heads). (bank : ℕ) → IfSome (head_in h bank) (λ (o : Resting). crosses (opposite h.side) h.limit o.price ≡ false)) c.self.view_is
    (least-dear g.row.N c.self.inside.linked.now c.self.inside.side limit c.self.inside.heads c.self.invariant.0 c.self.invariant.1.most
    (c.best_below.ensures.none none (rank_of c.self.inside.side limit) c.self.invariant.1.is))
