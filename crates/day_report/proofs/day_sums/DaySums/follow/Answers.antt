use Rattle.fx_rules.specs.History.{state}
use Rattle.credit_lines.proofs.Paying.{next_of-legal}
use Rattle.day_report.proofs.Following.{entry-fits, sums-followed}
use Rattle.day_report.proofs.day_sums.DaySums.follow.Goals as goal

pub follow-requires : goal.follow-requires
follow-requires c = record { next = next_of-legal c.args.session.now c.requires.next.0 c.args.entry.now c.args.self.now.lines c.requires.next.1 c.requires.next.2.lines_are }

pub add_all-requires : goal.add_all-requires
add_all-requires c = (
  (state c.args.session.now c.requires.next.0).fills,
  record { volumes_are = c.requires.next.2.volumes_are; flows_are = c.requires.next.2.flows_are },
  entry-fits c.args.session.now c.requires.next.0 c.args.entry.now c.fills.result.now c.requires.next.1 c.fills.ensures.fills,
)

pub returns : goal.returns
returns c = record {
  follows = λ entries legal is.
      sums-followed c.args.session.now entries c.args.entry.now c.fills.result.now c.args.self.now c.add_all.new.self _ legal is c.follow.ensures.valid c.follow.ensures.follows c.fills.ensures.fills c.add_all.ensures.lines
      (c.add_all.ensures.adds (state c.args.session.now entries).fills (record { volumes_are = is.volumes_are; flows_are = is.flows_are }));
}
