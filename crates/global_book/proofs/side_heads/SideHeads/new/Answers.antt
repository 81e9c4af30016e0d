use Rattle.std.proofs.Common.{List, Option, None, get_or, ap, subst, sym, ◌∙◌}
use Rattle.access_index.specs.declared.words.Head.{Head}
use Rattle.access_index.specs.Heads.{word_beyond}
use Rattle.global_book.specs.Heads.{IsNext}
use Rattle.global_book.specs.inside.Heads.{TellHeads, limit_told, order_told}
use Rattle.global_book.specs.inside.Linked.{orders_in}
use Rattle.global_book.proofs.Heading.{heads-tell, limit-is, next-first, tells-limit, told-at, told-first}
use Rattle.global_book.proofs.side_heads.SideHeads.new.Goals as goal

pub invariant_of-result : goal.invariant_of-result
invariant_of-result g c = (
  subst (TellHeads g.row.N c.args.linked.now c.args.side) (sym c.first.ensures.first)
      (told-first c.args.linked.now c.args.side c.heads.result.now g.row.N c.requires.most
      (heads-tell c.requires.kept.0 c.args.linked.now c.args.side c.requires.kept.2 c.heads.ensures.linked c.heads.result.now c.first.ensures.count c.heads.ensures.heads)),
  tells-limit c.args.side c.args.limit c.word_beyond.result c.rank_of.ensures.price (c.word_beyond.ensures ∙ ap word_beyond c.rank_of.ensures.rank),
)

pub returns-clause-limit : goal.returns-clause-limit
returns-clause-limit g c = ap (limit_told c.args.side) (c.word_beyond.ensures ∙ ap word_beyond c.rank_of.ensures.rank) ∙ limit-is c.args.side c.args.limit c.rank_of.ensures.price

pub returns-clause-best : goal.returns-clause-best
returns-clause-best g c = λ bank.
    subst (IsNext c.args.side bank None (orders_in c.args.linked.now)) (sym (told-at c.args.linked.now.orders.slots c.first.result bank))
    (subst (λ (hs : List (Option Head)). IsNext c.args.side bank None (orders_in c.args.linked.now) (order_told c.args.linked.now.orders.slots (get_or hs bank None))) (sym c.first.ensures.first)
    (next-first c.requires.kept.0 c.args.linked.now c.args.side c.requires.kept.2 c.heads.ensures.linked c.heads.result.now g.row.N c.first.ensures.count c.requires.most c.requires.kept.1 c.heads.ensures.heads bank))
