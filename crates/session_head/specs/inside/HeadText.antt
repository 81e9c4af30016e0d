-- What private functions and proofs alone say of it, beside `specs/HeadText.antt`.
use Rattle.std.specs.Prelude.{ℕ, ◌<◌, List, flat_map}
use Rattle.fx_rules.specs.Lists.{below}
use Rattle.fx_rules.specs.Session.{Header}
use Rattle.session_head.specs.HeadText.{limit_statement}
use Rattle.session_head.specs.declared.statement.Statement.{Statement}
use Rattle.session_head.specs.declared.statement.Statement.TheVariants as statements

-- the limits above 0 that a bank sets on the first so many banks
abbrev pub limits_of : Header → ℕ → ℕ → List Statement
limits_of h from count = flat_map (limit_statement h from) (below count)

-- the banks that a statement names by their places are among so many
abbrev pub AreNamed : ℕ → Statement → Type 0
AreNamed count (statements.Line from to limit) = (from < count) × (to < count)
AreNamed count (statements.Total bank limit) = bank < count
AreNamed count _ = Unit {0}
