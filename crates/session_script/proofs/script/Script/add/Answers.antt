use Rattle.std.proofs.Common.{true, false, refl, sym, subst, append-nil}
use Rattle.fx_text.specs.Lines.{line_seen}
use Rattle.session_script.specs.inside.Stage.{Adds}
use Rattle.session_script.proofs.script.Script.add.Goals as goal

pub returns-in-End-clause-adds : goal.returns-in-End-clause-adds
returns-in-End-clause-adds c = subst (λ said. Adds c.args.self.now c.args.self.now (line_seen c.args.line.now) said true) c.in-End.ensures.reads
    (record { session = refl; sent = sym (append-nil c.args.self.now.sent.items); strays = refl; ended = refl; valid = tt; keeps = refl; journal = λ on. sym (append-nil c.args.self.now.journal.items); heard = λ on. sym (append-nil c.args.self.now.heard) })

pub returns-in-Passed-clause-adds : goal.returns-in-Passed-clause-adds
returns-in-Passed-clause-adds c = subst (λ said. Adds c.args.self.now c.args.self.now (line_seen c.args.line.now) said false) c.in-Passed.ensures.reads
    (record { session = refl; sent = sym (append-nil c.args.self.now.sent.items); strays = refl; ended = refl; valid = tt; keeps = refl; journal = λ on. sym (append-nil c.args.self.now.journal.items); heard = λ on. sym (append-nil c.args.self.now.heard) })

pub returns-in_ok-add_stray-in-Stray-clause-adds : goal.returns-in_ok-add_stray-in-Stray-clause-adds
returns-in_ok-add_stray-in-Stray-clause-adds c = subst (λ said. Adds c.args.self.now c.add_stray.new.self (line_seen c.args.line.now) said false) c.in-Stray.ensures.reads c.in_ok-add_stray-in-Stray.ensures.adds
