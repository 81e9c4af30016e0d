-- What private functions and proofs alone say of it, beside `specs/Desks.antt`.
use Rattle.std.specs.Prelude.{ℕ, ◌==◌, if◌then◌else◌, List, [], ◌∷◌, flat_map}
use Rattle.fx_rules.specs.declared.outcome.Entry.{Entry}
use Rattle.fx_rules.specs.Lists.{below}
use Rattle.fx_rules.specs.Session.{Header, bank_count, host}
use Rattle.reply_lines.specs.Notices.{desk_text}

-- the desks of the banks
abbrev pub bank_desks : Header → List Entry → List ℕ
bank_desks h entries = flat_map (desk_text h entries) (below (bank_count h))

-- and the operator's behind them, which version 2 alone has
abbrev pub host_desk : Header → List Entry → List ℕ
host_desk h entries = flat_map (desk_text h entries) (if h.version == 2 then host ∷ [] else [])
