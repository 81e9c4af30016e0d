use Rattle.std.proofs.Common.{arith, length, ap}
use Rattle.session_head.specs.Draft.{Draft}
use Rattle.session_head.proofs.draft.Draft.set_limit.Goals as goal

-- a bank that is declared has a row of 64: the operator's number has none
pub index_mut-requires : goal.index_mut-requires
index_mut-requires c = omega (
  arith,
  c.index.ensures.value,
  c.index-2.ensures.value,
  c.requires.row,
  c.requires.column,
  ap (λ (d : Draft). length d.banks) c.self.view_is,
  c.self.invariant.banks.most,
  c.self.invariant.limits.full,
)
