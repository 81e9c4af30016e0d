-- What lies under the lock.
use Rattle.std.specs.Prelude.{◌≡◌, []}
use Rattle.fx_rules.specs.declared.outcome.Entry.{Entry}
use Rattle.fx_rules.specs.Session.{Header}
use Rattle.fx_rules.specs.History.{IsLegal, state}
use Rattle.fx_chronicle.specs.Faces.{Chronicle}
use Rattle.flat_host.specs.FlatState.{FlatState, StandsFor}

-- the entries are a legal history of the session, the host stands for the state after it, and every key has signed; the keys
-- are those of banks alone
pub record IsFloor (h : Header) (host : FlatState) (writer : Chronicle Entry) : Type 0 where
  pub legal : IsLegal h writer.entries
  pub stands : StandsFor h (state h writer.entries) host
  pub signed : writer.pending ≡ []
  pub keys : writer.keys ≡ 65
