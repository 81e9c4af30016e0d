use Rattle.std.proofs.Common.{◌≡◌, ◌∙◌, rules, ap, sym}
use Rattle.fx_disk.specs.Model.{Tape, state_now}
use Rattle.fx_disk.proofs.Moments.{reads_written, Added-from}
use Rattle.fx_disk.proofs.tape.CallTape.write.Goals as goal

pub invariant_of-self-2 : goal.invariant_of-self-2
invariant_of-self-2 c =
    let same : c.in_ok-kept.kept.items ≡ c.args.piece.now = search rules in
    let reads = c.bytes.ensures ∙ ap (λ (tape : Tape). (state_now tape).reads) (sym c.self.view_is) in
    reads_written c.self.inside.first.items c.self.inside.calls.items _ c.args.at c.in_ok-kept.kept c.args.piece.now _ _ c.in_ok-push.ensures.items same reads c.in_ok-whole.ensures

pub returns-clause-wrote : goal.returns-clause-wrote
returns-clause-wrote c =
    let same : c.in_ok-kept.kept.items ≡ c.args.piece.now = search rules in
    (c.in_ok-kept.kept, same, Added-from c.args.self.now c.self.inside.first.items c.self.inside.calls.items _ _ (sym c.self.view_is) c.in_ok-push.ensures.items)
