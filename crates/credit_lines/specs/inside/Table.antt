-- What private functions and proofs alone say of it, beside `specs/Table.antt`.
use Rattle.std.specs.Prelude.{◌≡◌, ◌<◌, ◌^◌, length}
use Rattle.fx_rules.specs.Lists.{Each}
use Rattle.fx_rules.specs.Session.{IsSession, bank_count, sender_places}
use Rattle.credit_lines.specs.Table.{Table}

-- the tables are of one valid session, and numbers fit
pub record IsTable (table : Table) : Type 0 where
  pub session : IsSession table.session
  pub banks : table.lines.banks ≡ bank_count table.session
  pub senders : length table.counts ≡ sender_places table.session
  pub counts : Each (λ count. count < 2 ^ 32) table.counts
