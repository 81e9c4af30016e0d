-- The rows of a state's report name the session's pairs and banks.
use Rattle.std.proofs.Common.{ℕ, zero, suc, ◌≡◌, ◌<◌, ltb, List, [], ◌∷◌, map, ap, sym, subst, ◌∙◌, arith}
use Rattle.std.specs.List.{flat_map}
use Rattle.fx_rules.specs.Lists.{Each}
use Rattle.fx_rules.specs.Session.{Header, bank_count, pair_count}
use Rattle.fx_rules.specs.State.{State}
use Rattle.fx_rules.specs.History.{state}
use Rattle.fx_rules.specs.declared.outcome.Entry.{Entry}
use Rattle.fx_rules.specs.Lists.{below}
use Rattle.fx_rules.proofs.ListLemmas.{Each-append, Each-filter, Each-map, Each-of, Each-weaker}
use Rattle.day_report.specs.Report.{volume_of, volumes_of, use_of, uses_of, banks_behind, net_of, nets_of, currencies}
use Rattle.day_report.specs.declared.rows.Volume.{Volume}
use Rattle.day_report.specs.declared.rows.Use.{Use}
use Rattle.day_report.specs.declared.rows.Net.{Net}
use Rattle.day_report.specs.declared.rows.Report.{Report}
use Rattle.reply_lines.specs.Report.{report_of, report_text}
use Rattle.reply_lines.specs.inside.Report.{AreUsesOf, IsReportOf}
use Rattle.reply_lines.specs.inside.Day.{IsReportAt}

each_below : (n : ℕ) → Each (λ k. k < n) (below n)
each_below zero = tt
each_below (suc n) =
    Each-append (λ k. k < suc n) (below n) (n ∷ []) (Each-weaker (λ k. k < n) (λ k. k < suc n) (λ k less. omega arith) (below n) (each_below n)) (omega arith, tt)

each_flat_map : {X Y : Type 0} (P : Y → Type 0) (f : X → List Y) (xs : List X) → Each (λ x. Each P (f x)) xs → Each P (flat_map f xs)
each_flat_map P f [] all = tt
each_flat_map P f (x ∷ xs) all = Each-append P (f x) (flat_map f xs) all.0 (each_flat_map P f xs all.1)

volumes_name : (h : Header) (S : State) → Each (λ volume. volume.pair < pair_count h) (volumes_of h S)
volumes_name h S = Each-map (λ volume. volume.pair < pair_count h) (volume_of h S) (below (pair_count h)) (each_below (pair_count h))

uses_name : (h : Header) (S : State) → AreUsesOf h (uses_of h S)
uses_name h S =
    each_flat_map (λ credit. (credit.a < bank_count h) × (credit.b < bank_count h)) (λ i. map (use_of h S i) (banks_behind h i)) (below (bank_count h))
    (Each-weaker (λ i. i < bank_count h) (λ i. Each (λ credit. (credit.a < bank_count h) × (credit.b < bank_count h)) (map (use_of h S i) (banks_behind h i)))
    (λ i first. Each-map (λ (credit : Use). (credit.a < bank_count h) × (credit.b < bank_count h)) (use_of h S i) (banks_behind h i)
    (Each-weaker (λ j. j < bank_count h) (λ j. (i < bank_count h) × (j < bank_count h)) (λ j second. (first, second)) (banks_behind h i)
    (Each-filter (λ j. j < bank_count h) (ltb i) (below (bank_count h)) (each_below (bank_count h)))))
    (below (bank_count h)) (each_below (bank_count h)))

nets_name : (h : Header) (S : State) → Each (λ net. net.bank < bank_count h) (nets_of h S)
nets_name h S =
    each_flat_map (λ net. net.bank < bank_count h) (λ bank. map (net_of h S bank) (currencies h)) (below (bank_count h))
    (Each-weaker (λ bank. bank < bank_count h) (λ bank. Each (λ net. net.bank < bank_count h) (map (net_of h S bank) (currencies h)))
    (λ bank within. Each-map (λ (net : Net). net.bank < bank_count h) (net_of h S bank) (currencies h) (Each-of (λ code. bank < bank_count h) (currencies h) (λ code there. within)))
    (below (bank_count h)) (each_below (bank_count h)))

report-of : (h : Header) (S : State) (report : Report) → report.volumes ≡ volumes_of h S → report.uses ≡ uses_of h S → report.nets ≡ nets_of h S → IsReportOf h report
report-of h S report volumes uses nets = record {
  pairs = subst (Each (λ (volume : Volume). volume.pair < pair_count h)) (sym volumes) (volumes_name h S);
  banks = subst (AreUsesOf h) (sym uses) (uses_name h S);
  owners = subst (Each (λ (net : Net). net.bank < bank_count h)) (sym nets) (nets_name h S);
}

-- a report with the rows of a state's report is printed as that
pub reported : (h : Header) (S : State) (volumes : List Volume) (uses : List Use) (nets : List Net) → volumes ≡ volumes_of h S → uses ≡ uses_of h S → nets ≡ nets_of h S → report_of h volumes uses nets ≡ report_text h S
reported h S volumes uses nets a b c =
    ap (λ vs. report_of h vs uses nets) a ∙ ap (λ us. report_of h (volumes_of h S) us nets) b ∙ ap (λ ns. report_of h (volumes_of h S) (uses_of h S) ns) c

pub report-at : (h : Header) (entries : List Entry) (report : Report) → report.volumes ≡ volumes_of h (state h entries) → report.uses ≡ uses_of h (state h entries) → report.nets ≡ nets_of h (state h entries) → IsReportAt h entries report
report-at h entries report volumes uses nets = record { names = report-of h (state h entries) report volumes uses nets; volumes = volumes; uses = uses; nets = nets }
