use Rattle.std.proofs.Common.{◌≡◌, ◌∙◌, ap, subst, arith}
use Rattle.fx_disk.specs.declared.call.Call.TheVariants.{Synced}
use Rattle.fx_disk.specs.InMemory.{FailingDisk}
use Rattle.fx_disk.specs.Model.{Tape}
use Rattle.fx_disk.specs.inside.Model.{Added}
use Rattle.fx_disk.proofs.Moments.{synced_reads, synced_only, synced_leaves, synced_no_more, Called-added}
use Rattle.fx_disk.proofs.memory_disk.MemoryDiskDisk.sync.Goals as goal

pub returns-clause-bytes : goal.returns-clause-bytes
returns-clause-bytes c =
    let was : c.self.inside.tape ≡ c.args.self.now.tape = ap (λ (d : FailingDisk). d.tape) c.self.view_is ∙ ap (λ (d : FailingDisk). d.tape) c.in_ok-count.ensures.done in
    synced_reads c.args.self.now.tape _ (subst (λ (t : Tape). Added t Synced c.note_sync.new.self) was c.in_ok-note_sync.ensures.noted)

pub returns-clause-durable : goal.returns-clause-durable
returns-clause-durable c =
    let was : c.self.inside.tape ≡ c.args.self.now.tape = ap (λ (d : FailingDisk). d.tape) c.self.view_is ∙ ap (λ (d : FailingDisk). d.tape) c.in_ok-count.ensures.done in
    let added = subst (λ (t : Tape). Added t Synced c.note_sync.new.self) was c.in_ok-note_sync.ensures.noted in
    λ image. (synced_only c.args.self.now.tape _ added image, synced_leaves c.args.self.now.tape _ added image)

pub returns-clause-images : goal.returns-clause-images
returns-clause-images c =
    let was : c.self.inside.tape ≡ c.args.self.now.tape = ap (λ (d : FailingDisk). d.tape) c.self.view_is ∙ ap (λ (d : FailingDisk). d.tape) c.in_ok-count.ensures.done in
    synced_no_more c.args.self.now.tape _ (subst (λ (t : Tape). Added t Synced c.note_sync.new.self) was c.in_ok-note_sync.ensures.noted)

pub returns-clause-called : goal.returns-clause-called
returns-clause-called c =
    let was : c.self.inside.tape ≡ c.args.self.now.tape = ap (λ (d : FailingDisk). d.tape) c.self.view_is ∙ ap (λ (d : FailingDisk). d.tape) c.in_ok-count.ensures.done in
    let counted = ap (λ (d : FailingDisk). d.faults) c.self.view_is in
    Called-added (λ (d : FailingDisk). d.tape) (λ (d : FailingDisk). d.faults) c.args.self.now _ _ Synced
    (subst (λ (t : Tape). Added t Synced c.note_sync.new.self) was c.in_ok-note_sync.ensures.noted)
    (omega (arith, counted, c.in_ok-count.ensures.count)) (λ failed. absurd (cc))
    (λ _. counted ∙ ap (λ (d : FailingDisk). d.faults) c.in_ok-count.ensures.done) (λ memory. absurd (cc))
