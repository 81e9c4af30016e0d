use Rattle.output_trials.proofs.told.told_output.Goals as goal

pub write-requires : goal.write-requires
write-requires c = record { told = (c.args.entries.now, c.requires.legal, c.in_ok-day.ensures.told, c.in_ok-market.ensures.replays) }
