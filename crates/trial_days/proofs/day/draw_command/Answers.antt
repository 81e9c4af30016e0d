use Rattle.trial_days.proofs.day.draw_command.Goals as goal

-- an order at a pair of the session, of one of its banks
pub returns-in_default : goal.returns-in_default
returns-in_default c = record {
  command = c.draw_order.ensures c.args.session.now c.args.sender c.requires.sender c.draw_pair-pair.ensures.within;
}
