-- The commands of a legal history determine it.
use Rattle.std.proofs.Common.{ℕ, ◌≡◌, ◌≤◌, ◌∙◌, List, length, map, Ok, ap, sym, subst, arith}
use Rattle.std.proofs.lemmas.List.{length-map}
use Rattle.fx_rules.specs.declared.outcome.Entry.{Entry}
use Rattle.fx_rules.specs.declared.command.Sent.{Sent}
use Rattle.fx_rules.specs.Session.{Header}
use Rattle.fx_rules.specs.History.{IsLegal}
use Rattle.fx_rules.specs.Sending.{sent_by}
use Rattle.fx_rules.proofs.Continuing.{histories_agree}
use Rattle.kept_history.specs.Blocks.{kept_in}
use Rattle.kept_history.specs.Found.{most_commands, IsWhole}

-- the entries of a run of the commands that blocks hold
pub whole_by : (bodies : List (List ℕ)) (h : Header) (sent : List Sent) (ran entries : List Entry) → entries ≡ ran → kept_in bodies ≡ Ok (record { session = h; commands = sent }) → IsLegal h ran → map sent_by ran ≡ sent
    → length sent ≤ most_commands → IsWhole bodies h entries
whole_by bodies h sent ran entries same holds legal in_order few =
    let it : IsWhole bodies h ran = record {
      legal = legal;
      holds = holds ∙ ap (λ (s : List Sent). Ok (record { session = h; commands = s })) (sym in_order);
      few = omega (arith, few, ap length in_order, length-map ran sent_by);
      only = λ others other_legal other_same. histories_agree h others ran other_legal legal other_same;
    } in
    subst (IsWhole bodies h) (sym same) it
