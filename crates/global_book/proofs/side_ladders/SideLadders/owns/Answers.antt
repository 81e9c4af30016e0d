use Rattle.std.proofs.Common.{◌≡◌, true, false, Bool, Option, None, is_some, ap, subst, sym, ◌∙◌}
use Rattle.fx_amounts.specs.declared.side.Side.TheVariants.{Buy, Sell}
use Rattle.access_index.specs.Ranked.{bank_level}
use Rattle.access_index.specs.declared.words.Head.{Head}
use Rattle.global_book.specs.Room.{Ladders, ladders_of}
use Rattle.global_book.proofs.Owned.{head-some}
use Rattle.global_book.proofs.side_ladders.SideLadders.owns.Goals as goal

not-none : (found : Option Head) (has : Bool) → has ≡ is_some found → has ≡ true → found ≡ None → ⊥
not-none found has is yes' none = let it : false ≡ true = sym (is ∙ ap (λ (f : Option Head). is_some f) none) ∙ yes' in cc

pub returns-then-is_some-clause-yes : goal.returns-then-is_some-clause-yes
returns-then-is_some-clause-yes c = λ yes'.
    let it = head-some (bank_level c.self.inside.bids c.args.bank) c.head.result c.head.ensures (not-none c.head.result c.is_some.result c.is_some.ensures yes') in
    (Buy, it.0, subst (λ (l : Ladders). (bank_level (ladders_of l Buy) c.args.bank it.0).lots ≡ 0 → ⊥) c.self.view_is it.1)

pub returns-else-is_some-clause-yes : goal.returns-else-is_some-clause-yes
returns-else-is_some-clause-yes c = λ yes'.
    let it = head-some (bank_level c.self.inside.asks c.args.bank) c.head-else-is_some.result c.head-else-is_some.ensures (not-none c.head-else-is_some.result c.is_some-else-is_some.result c.is_some-else-is_some.ensures yes') in
    (Sell, it.0, subst (λ (l : Ladders). (bank_level (ladders_of l Sell) c.args.bank it.0).lots ≡ 0 → ⊥) c.self.view_is it.1)
