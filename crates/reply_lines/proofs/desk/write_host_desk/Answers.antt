-- In version 2 the operator has a desk behind those of the banks.
use Rattle.std.proofs.Common.{◌≡◌, ◌∙◌, ℕ, eqb, inr, refl, sym, arith}
use Rattle.std.proofs.lemmas.Bool.{cond-true, eq-eqb}
use Rattle.fx_edges.proofs.Gathering.{Gathered-from_Kept, Kept-nil}
use Rattle.fx_rules.specs.Session.{bank_count, sender_places}
use Rattle.reply_lines.proofs.Gathering.{host_desk-first, host_desk-second}
use Rattle.reply_lines.proofs.Outputs.{of_text}
use Rattle.reply_lines.proofs.desk.write_host_desk.Goals as goal

pub write_sender-requires : goal.write_sender-requires
write_sender-requires g c =
    let h = c.args.session.now in
    let second : h.version ≡ 2 = sym c.version.ensures.value ∙ c.if-version-eq2.true in
    let places : sender_places h ≡ 65 = cond-true {A = ℕ} (eqb h.version 2) 65 (bank_count h) (eq-eqb h.version 2 second) in
    record { sender = inr (second, refl); place = omega (arith, places, c.requires.desks) }

pub returns-then-version-eq2 : goal.returns-then-version-eq2
returns-then-version-eq2 g c =
    let second : c.args.session.now.version ≡ 2 = sym c.version.ensures.value ∙ c.if-version-eq2.true in
    record { wrote = λ entries are. of_text (host_desk-second c.args.session.now entries second) (c.write_sender.ensures.wrote entries are) }

pub returns-else-version-eq2 : goal.returns-else-version-eq2
returns-else-version-eq2 g c = record {
  wrote = λ entries are. of_text (host_desk-first c.args.session.now entries (λ second. c.if-version-eq2.false (c.version.ensures.value ∙ second)))
      (Gathered-from_Kept tt (Kept-nil g.K.Sink.written g.K.Sink.faults c.args.pieces.now c.args.out.now));
}
