use Rattle.std.proofs.Common.{List, ◌++◌, take, drop}
use Rattle.fx_rules.specs.Lists.{Each}
use Rattle.session_script.specs.Heard.{IsHeardOf}
use Rattle.session_script.specs.Heard.{Heard}
use Rattle.client_day.specs.Days.{IsDayOf}
use Rattle.client_day.proofs.day.ClientDay.take_all.Given as goal

-- what was heard so far is served
abbrev pub invariant-loop-place : goal.invariant-loop-place
invariant-loop-place l = record {
  taken : (before : List Heard) → IsDayOf l.session before l.initial.self → IsDayOf l.session (before ++ take l.place l.heard) l.self;
  valid : Each (IsHeardOf l.session) (drop l.place l.heard);
}
