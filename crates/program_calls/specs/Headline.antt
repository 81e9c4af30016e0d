-- What a run of a session's commands is to be.
use Rattle.std.specs.Prelude.{◌≡◌, List, map}
use Rattle.fx_rules.specs.declared.command.Sent.{Sent}
use Rattle.fx_rules.specs.declared.outcome.Entry.{Entry}
use Rattle.fx_rules.specs.Session.{Header}
use Rattle.fx_rules.specs.History.{IsLegal}
use Rattle.fx_rules.specs.Sending.{sent_by}
use Rattle.fx_chronicle.specs.Along.{IsOrderly}
use Rattle.fx_chronicle.specs.Streams.{HasStreams}

-- The headline: a history of these commands.
pub record IsHeadline (h : Header) (sent : List Sent) (entries : List Entry) : Type 0 where
  -- it is one legal history: each reply is that of the market on one thread; each fill takes the best price among the
  -- earlier orders that the taker can reach, the earliest first
  pub one_legal_history : IsLegal h entries
  -- it has each sender's commands once and in its order
  pub each_bank_in_order : HasStreams sent entries
  -- along it no line and no total is exceeded, each falls by its fills and rises by what is given back, and no orders that can
  -- reach each other rest crossed
  pub orderly : IsOrderly h entries

-- and here the commands went in the order of the lines
pub record IsSerial (h : Header) (sent : List Sent) (entries : List Entry) : Type 0 where
  pub headline : IsHeadline h sent entries
  pub in_order : map sent_by entries ≡ sent
