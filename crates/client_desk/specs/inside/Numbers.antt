-- The numbers of commands that were sent.
use Rattle.std.specs.Prelude.{ℕ, ◌≤◌, ◌<◌, List, slice_index}
use Rattle.fx_rules.specs.Session.{Header, sender_places}

-- a number that was given by then: from 1 to its sender's count
pub record IsKnown (h : Header) (counts : List ℕ) (bank number : ℕ) : Type 0 where
  pub sender : bank < sender_places h
  pub least : 1 ≤ number
  pub most : number ≤ slice_index counts bank
