use Rattle.output_trials.proofs.client_days.send.Goals as goal

pub asked-requires-clause-client : goal.asked-requires-clause-client
asked-requires-clause-client g c k is = (c.requires.client k is).0
