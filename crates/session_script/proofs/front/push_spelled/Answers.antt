use Rattle.session_script.proofs.Fronts.{AddsLines-none, AddsLines-line}
use Rattle.session_script.proofs.front.push_spelled.Goals as goal

pub loop-next-init : goal.loop-next-init
loop-next-init c = AddsLines-none c.args.session.now c.args.sent.now.items c.args.text.now

pub loop-next-preserved : goal.loop-next-preserved
loop-next-preserved c =
    let found = c.in-Some.ensures in
    AddsLines-line c.args.session.now c.args.sent.now.items c.loop-next.sent.items c.push.new.self.items c.args.text.now c.loop-next.rest.now c.in-Some.behind.now _ c.in-Some.next
    c.loop-next.invariant found.line found.shorter found.spelled found.reads found.valid c.in_ok-push.ensures.items
