use Rattle.std.proofs.Common.{ℕ, List, length, ap, sym, subst, ◌∙◌}
use Rattle.fx_rules.specs.History.{state}
use Rattle.day_report.specs.inside.Lists.{nets_in, HaveNets}
use Rattle.day_report.proofs.Listing.{volumes-listed, uses-listed, nets-listed, flows-small}
use Rattle.day_report.proofs.Trading.{legal-fits}
use Rattle.day_report.proofs.day_sums.DaySums.into_report.Goals as goal

pub nets-requires-clause-fit : goal.nets-requires-clause-fit
nets-requires-clause-fit c =
    subst (λ (names : List (List ℕ)). HaveNets (length names) c.args.self.flows) (sym c.banks-banks.ensures.value)
    (flows-small c.args.session.now (state c.args.session.now c.requires.sums.0).fills c.args.self.flows (legal-fits c.args.session.now c.requires.sums.0 c.requires.sums.1) c.requires.sums.2.flows_are)

pub returns : goal.returns
returns c =
    let h = c.args.session.now in
    record {
      reports = λ S is. record {
        volumes_are = c.from_vec.ensures.items ∙ volumes-listed h S c.args.self.volumes.items is.volumes_are;
        uses_are = c.from_vec-2.ensures.items ∙ c.in_ok-uses.ensures.value ∙ uses-listed h S c.args.self.lines is.lines_are;
        nets_are = c.from_vec-3.ensures.items ∙ c.in_ok-nets.ensures.value
            ∙ ap (λ (names : List (List ℕ)). nets_in c.args.self.flows (length names)) c.banks-banks.ensures.value ∙ nets-listed h S c.args.self.flows is.flows_are;
      };
    }
