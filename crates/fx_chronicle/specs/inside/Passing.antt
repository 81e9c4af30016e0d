-- What a bank holds at a desk.
use Rattle.std.specs.Prelude.{ℕ, ◌≡◌, ◌<◌}
use Rattle.fx_rules.specs.declared.outcome.Entry.{Entry}
use Rattle.fx_rules.specs.Session.{Header, sender_places}
use Rattle.fx_rules.specs.Keyed.{bank_key}
use Rattle.fx_rules.specs.History.{IsLegal}
use Rattle.fx_chronicle.specs.Faces.{Witness}

-- a front is a pass of a bank: it has the key of a sender of the session, and what it has seen is a legal history
pub record IsPass (h : Header) (bank : ℕ) (front : Witness Entry) : Type 0 where
  pub key : front.key ≡ bank_key bank
  pub sender : bank < sender_places h
  pub legal : IsLegal h front.seen
