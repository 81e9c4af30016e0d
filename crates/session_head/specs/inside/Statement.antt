-- What private functions and proofs alone say of it, beside `specs/Statement.antt`.
use Rattle.std.specs.Prelude.{◌≡◌, ◌≢◌, ◌<◌, ◌≤◌, IsTrue, length, All}
use Rattle.fx_rules.specs.Names.{is_name}
use Rattle.fx_rules.specs.Session.{IsPairRule, AreSamePair}
use Rattle.session_head.specs.Draft.{Draft}
use Rattle.session_head.specs.declared.statement.Statement.{Statement}
use Rattle.session_head.specs.declared.statement.Statement.TheVariants as statements

-- a statement can be made of a draft
abbrev pub CanState : Draft → Statement → Type 0
CanState draft (statements.Bank name) =
    (length draft.banks < 64) × IsTrue (is_name name) × All (λ standing. standing ≢ name) draft.banks
CanState draft (statements.Pair rule) = (length draft.pairs < 32) × IsPairRule rule × All (λ standing. ¬ (AreSamePair standing rule)) draft.pairs
CanState draft (statements.Line from to limit) =
    (from < length draft.banks) × (to < length draft.banks) × (from ≢ to) × (limit ≤ 1000000000000000)
CanState draft (statements.Total bank limit) = (draft.version ≡ 2) × (bank < length draft.banks) × (limit ≤ 1000000000000000)
CanState draft statements.Start = (2 ≤ length draft.banks) × (1 ≤ length draft.pairs)
