-- What is kept is every other bank.
use Rattle.std.proofs.Common.{rules}
use Rattle.std.proofs.lemmas.Fn.{filter_same}
use Rattle.global_book.proofs.owner_list.unlist.Goals as goal

pub returns-clause-banks : goal.returns-clause-banks
returns-clause-banks c = filter_same _ _ _ (λ x b f' k. search rules) _ _ c.retain.ensures.filtered
