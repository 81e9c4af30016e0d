use Rattle.std.proofs.Common.{◌≡◌, length, ap, sym, ◌∙◌, arith}
use Rattle.net_settle.specs.inside.Dues.{owes_in}
use Rattle.net_settle.proofs.Amounts.{sum}
use Rattle.net_settle.proofs.Columns.{count-owes, balances-same}
use Rattle.net_settle.proofs.netting.net_column.Goals as goal

pub walk-requires-clause-most : goal.walk-requires-clause-most
walk-requires-clause-most c =
    let owes : c.deref_mut.result.now ≡ owes_in c.args.dues.now c.args.column = c.deref_mut.ensures.value ∙ c.in_ok-balances.ensures.owes in
    omega (arith, ap length owes, count-owes c.args.dues.now c.args.column, c.requires.places.banks_most)

pub walk-requires-clause-sums : goal.walk-requires-clause-sums
walk-requires-clause-sums c =
    ap sum (c.deref_mut.ensures.value ∙ c.in_ok-balances.ensures.owes) ∙ balances-same c.args.dues.now c.args.column
    ∙ ap sum (sym (c.deref_mut-2.ensures.value ∙ c.in_ok-balances.ensures.owed))
