use Rattle.std.proofs.Common.{◌≡◌, ◌∙◌, length, ap, refl, subst, arith}
use Rattle.fx_disk.specs.declared.call.Call.TheVariants.{Broke}
use Rattle.fx_disk.specs.InMemory.{FailingDisk}
use Rattle.fx_disk.specs.Model.{Tape}
use Rattle.fx_disk.specs.inside.Model.{Added, AddedWrite}
use Rattle.fx_disk.specs.declared.call.Call.TheVariants.{Wrote}
use Rattle.fx_disk.proofs.Moments.{written_reads, written_torn, written_torn_by, broken_reads, broken_torn, broken_torn_by, Called-added}
use Rattle.fx_disk.proofs.memory_disk.MemoryDiskDisk.write_at.Goals as goal

pub returns-then-begin-clause-failed : goal.returns-then-begin-clause-failed
returns-then-begin-clause-failed c =
    let was : c.self.inside.tape ≡ c.args.self.now.tape = ap (λ (d : FailingDisk). d.tape) c.self.view_is ∙ ap (λ (d : FailingDisk). d.tape) c.begin.ensures.made in
    λ _. broken_reads c.args.self.now.tape _ c.args.at (length c.args.piece.now)
    (subst (λ (t : Tape). Added t (Broke c.args.at (length c.args.piece.now)) c.note_broken.new.self) was c.in_ok-note_broken.ensures.noted)

pub returns-then-begin-clause-torn : goal.returns-then-begin-clause-torn
returns-then-begin-clause-torn c =
    let was : c.self.inside.tape ≡ c.args.self.now.tape = ap (λ (d : FailingDisk). d.tape) c.self.view_is ∙ ap (λ (d : FailingDisk). d.tape) c.begin.ensures.made in
    λ old image not_memory. broken_torn c.args.self.now.tape _ c.args.at (length c.args.piece.now)
    (subst (λ (t : Tape). Added t (Broke c.args.at (length c.args.piece.now)) c.note_broken.new.self) was c.in_ok-note_broken.ensures.noted)
    old image

pub returns-then-begin-clause-images : goal.returns-then-begin-clause-images
returns-then-begin-clause-images c =
    let was : c.self.inside.tape ≡ c.args.self.now.tape = ap (λ (d : FailingDisk). d.tape) c.self.view_is ∙ ap (λ (d : FailingDisk). d.tape) c.begin.ensures.made in
    broken_torn_by c.args.self.now.tape _ c.args.at (length c.args.piece.now)
    (subst (λ (t : Tape). Added t (Broke c.args.at (length c.args.piece.now)) c.note_broken.new.self) was c.in_ok-note_broken.ensures.noted)
    c.requires

pub returns-then-begin-clause-called : goal.returns-then-begin-clause-called
returns-then-begin-clause-called c =
    let was : c.self.inside.tape ≡ c.args.self.now.tape = ap (λ (d : FailingDisk). d.tape) c.self.view_is ∙ ap (λ (d : FailingDisk). d.tape) c.begin.ensures.made in
    let same : c.self.inside.faults ≡ c.args.self.now.faults = ap (λ (d : FailingDisk). d.faults) c.self.view_is ∙ ap (λ (d : FailingDisk). d.faults) c.begin.ensures.made in
    Called-added (λ (d : FailingDisk). d.tape) (λ (d : FailingDisk). d.faults) c.args.self.now _ _ (Broke c.args.at (length c.args.piece.now))
    (subst (λ (t : Tape). Added t (Broke c.args.at (length c.args.piece.now)) c.note_broken.new.self) was c.in_ok-note_broken.ensures.noted)
    (omega (arith, same, c.saturating_add-self-inside.ensures)) (λ failed. omega (arith, same, c.saturating_add-self-inside.ensures)) (λ not_failed. absurd (not_failed refl)) (λ memory. absurd (cc))

pub returns-clause-bytes : goal.returns-clause-bytes
returns-clause-bytes c =
    let was : c.self.inside.tape ≡ c.args.self.now.tape = ap (λ (d : FailingDisk). d.tape) c.self.view_is ∙ ap (λ (d : FailingDisk). d.tape) c.begin.ensures.made in
    written_reads c.args.self.now.tape _ _ _ (subst (λ (t : Tape). AddedWrite t c.args.at c.args.piece.now c.write.new.self) was c.in_ok-write.ensures.wrote)

pub returns-clause-torn : goal.returns-clause-torn
returns-clause-torn c =
    let was : c.self.inside.tape ≡ c.args.self.now.tape = ap (λ (d : FailingDisk). d.tape) c.self.view_is ∙ ap (λ (d : FailingDisk). d.tape) c.begin.ensures.made in
    λ old image not_memory. written_torn c.args.self.now.tape _ _ _ (subst (λ (t : Tape). AddedWrite t c.args.at c.args.piece.now c.write.new.self) was c.in_ok-write.ensures.wrote) old image

pub returns-clause-images : goal.returns-clause-images
returns-clause-images c =
    let was : c.self.inside.tape ≡ c.args.self.now.tape = ap (λ (d : FailingDisk). d.tape) c.self.view_is ∙ ap (λ (d : FailingDisk). d.tape) c.begin.ensures.made in
    written_torn_by c.args.self.now.tape _ _ _ (subst (λ (t : Tape). AddedWrite t c.args.at c.args.piece.now c.write.new.self) was c.in_ok-write.ensures.wrote) c.requires

pub returns-clause-called : goal.returns-clause-called
returns-clause-called c =
    let was : c.self.inside.tape ≡ c.args.self.now.tape = ap (λ (d : FailingDisk). d.tape) c.self.view_is ∙ ap (λ (d : FailingDisk). d.tape) c.begin.ensures.made in
    let same : c.self.inside.faults ≡ c.args.self.now.faults = ap (λ (d : FailingDisk). d.faults) c.self.view_is ∙ ap (λ (d : FailingDisk). d.faults) c.begin.ensures.made in
    let wrote = subst (λ (t : Tape). AddedWrite t c.args.at c.args.piece.now c.write.new.self) was c.in_ok-write.ensures.wrote in
    Called-added (λ (d : FailingDisk). d.tape) (λ (d : FailingDisk). d.faults) c.args.self.now _ _ (Wrote c.args.at wrote.0) wrote.2
    (omega (arith, same)) (λ failed. absurd (cc)) (λ _. same) (λ memory. absurd (cc))
