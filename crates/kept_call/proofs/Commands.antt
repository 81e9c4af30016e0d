-- The commands of a legal history's entries may be sent.
use Rattle.std.proofs.Common.{List, [], ◌∷◌, ◌++◌}
use Rattle.fx_rules.specs.declared.outcome.Entry.{Entry}
use Rattle.fx_rules.specs.Lists.{Each}
use Rattle.fx_rules.specs.Session.{Header}
use Rattle.fx_rules.specs.State.{State, opening}
use Rattle.fx_rules.specs.Step.{IsCommand}
use Rattle.fx_rules.specs.History.{IsLegal, Steps, after_entry}

commands-here : (h : Header) (S : State) (entries : List Entry) → Steps h S entries → Each (λ (e : Entry). IsCommand h e.bank e.command) entries
commands-here h S [] steps = tt
commands-here h S (e ∷ es) steps = (steps.0.command, commands-here h (after_entry S e) es steps.1)

commands-behind : (h : Header) (S : State) (before entries : List Entry) → Steps h S (before ++ entries) → Each (λ (e : Entry). IsCommand h e.bank e.command) entries
commands-behind h S [] entries steps = commands-here h S entries steps
commands-behind h S (e ∷ before) entries steps = commands-behind h (after_entry S e) before entries steps.1

pub commands-of : (h : Header) (before entries : List Entry) → IsLegal h (before ++ entries) → Each (λ (e : Entry). IsCommand h e.bank e.command) entries
commands-of h before entries legal = commands-behind h (opening h) before entries legal.steps
