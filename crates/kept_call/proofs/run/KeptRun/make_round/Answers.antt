-- The entries that are gathered go on behind those before, and make the round.
use Rattle.std.proofs.Common.{List, ◌++◌, sym, subst}
use Rattle.fx_rules.specs.declared.outcome.Entry.{Entry}
use Rattle.fx_rules.specs.Session.{Header}
use Rattle.fx_rules.specs.History.{IsLegal}
use Rattle.reply_lines.specs.Telling.{HasCounted}
use Rattle.gateway_workers.specs.Gathering.{HaveGatheredAll}
use Rattle.kept_call.proofs.RoundKeeping.{is-round}
use Rattle.kept_call.proofs.Results.{if_ok_when, of_if_ok, of_ok}
use Rattle.kept_call.proofs.run.KeptRun.make_round.Goals as goal

pub round_of-requires : goal.round_of-requires
round_of-requires g c =
    let its = c.requires.stands in
    let all = c.in_ok-entries.ensures.gathered (its.0 ++ c.args.sent.now) its.1 (c.in_ok-serve_round.ensures.served its.0 its.2.has_gathered.served) (c.serve_round.ensures.gathered its.1 its.2.has_gathered.gathered) in
    record {
      next = (
        its.1,
        subst (λ (h : Header). IsLegal h (its.1 ++ c.as_slice.result.now)) (sym c.requires.session) (subst (λ (es : List Entry). IsLegal g.N.Naming.session (its.1 ++ es)) (sym c.as_slice.ensures.items) all.legal),
        subst (λ (h : Header). HasCounted h its.1 c.args.self.now.telling.counts.items) (sym c.requires.session) its.2.counted,
      );
    }

pub returns-clause-made : goal.returns-clause-made
returns-clause-made g c =
    let r = c.round_of.result in
    let slice : List Entry = c.as_slice.result.now in
    if_ok_when r
    (λ round is. (
      slice,
      λ so_far entries stands.
          let all = c.in_ok-entries.ensures.gathered (so_far ++ c.args.sent.now) entries (c.in_ok-serve_round.ensures.served so_far stands.has_gathered.served) (c.serve_round.ensures.gathered entries stands.has_gathered.gathered) in
          let counted : HasCounted c.args.session.now entries c.args.self.now.telling.counts.items = subst (λ (h : Header). HasCounted h entries c.args.self.now.telling.counts.items) (sym c.requires.session) stands.counted in (
            is-round c.args.session.now g.N.Naming.session entries slice round c.requires.session (of_if_ok _ r round is c.round_of.ensures.body) (of_if_ok _ r round is c.round_of.ensures.text entries counted),
            record {
              has_gathered = subst (λ (es : List Entry). HaveGatheredAll g.N.Naming.session (so_far ++ c.args.sent.now) (entries ++ es) c.gather.new.self.gathered c.gather.new.self.lanes.items) (sym c.as_slice.ensures.items) all;
              counted = subst (λ (h : Header). HasCounted h (entries ++ slice) c.round_of.new.telling.counts.items) c.requires.session (of_ok r round is c.round_of.ensures.counted entries counted);
            },
          ),
    ))
