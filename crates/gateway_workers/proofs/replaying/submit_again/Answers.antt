use Rattle.std.proofs.Common.{[]}
use Rattle.gateway_workers.proofs.Replayed.{resubmitted-none, resubmitted-next, next-command, next-counted, next-few}
use Rattle.gateway_workers.proofs.Gathered.{some-lane}
use Rattle.gateway_workers.proofs.replaying.submit_again.Goals as goal

pub loop-entry-init : goal.loop-entry-init
loop-entry-init g c =
    resubmitted-none g.N.Naming.session c.note-note.result c.args.lanes.now c.index-lanes-0.result c.note-note.new.self c.requires.served c.requires.gathered c.note-note.ensures.same c.note-note.ensures.note

pub bounds-lanes-0 : goal.bounds-lanes-0
bounds-lanes-0 g c = some-lane g.N.Naming.session [] c.args.lanes.now c.requires.served

pub place_among-place-requires : goal.place_among-place-requires
place_among-place-requires g c = record { some = some-lane g.N.Naming.session _ c.loop-entry.lanes c.loop-entry.invariant.served }

pub submit_behind-requires-clause-command : goal.submit_behind-requires-clause-command
submit_behind-requires-clause-command g c κs within =
    next-command g.N.Naming.session c.args.entries.now c.loop-entry.note c.loop-entry.entry-index c.entry-item.result c.loop-entry.lanes c.requires.legal c.loop-entry-test.true c.entry-item.is c.loop-entry.invariant
    c.place_among-place.result c.index-lanes-place.result c.place_among-place.ensures.place c.place_among-place.ensures.within

pub submit_behind-requires-clause-counted : goal.submit_behind-requires-clause-counted
submit_behind-requires-clause-counted g c κs within =
    next-counted g.N.Naming.session c.args.entries.now c.loop-entry.note c.loop-entry.entry-index c.entry-item.result c.loop-entry.lanes c.requires.legal c.loop-entry-test.true c.entry-item.is c.loop-entry.invariant
    c.place_among-place.result c.index-lanes-place.result c.place_among-place.ensures.place c.place_among-place.ensures.within

pub submit_behind-requires-clause-few : goal.submit_behind-requires-clause-few
submit_behind-requires-clause-few g c κs within =
    next-few g.N.Naming.session c.args.entries.now c.loop-entry.note c.loop-entry.entry-index c.entry-item.result c.loop-entry.lanes c.requires.legal c.loop-entry-test.true c.entry-item.is c.loop-entry.invariant
    c.place_among-place.result c.index-lanes-place.result c.place_among-place.ensures.place c.place_among-place.ensures.within c.requires.few

pub loop-entry-preserved : goal.loop-entry-preserved
loop-entry-preserved g c =
    resubmitted-next g.N.Naming.session c.args.entries.now c.loop-entry.note c.in_ok-note.note c.loop-entry.entry-index c.place_among-place.result c.entry-item.result c.loop-entry.lanes c.index-lanes-place.result c.submit_behind.new.lane
    c.requires.legal c.loop-entry-test.true c.entry-item.is c.loop-entry.invariant c.place_among-place.ensures.place c.place_among-place.ensures.within c.in_ok-note.ensures.submitted c.in_ok-note.ensures.note
