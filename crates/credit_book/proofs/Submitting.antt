-- A command that was served is one that was submitted at a desk.
use Rattle.std.proofs.Common.{◌≡◌, eqb, List, [], ◌∷◌, ◌++◌, eq-eqb, refl, ap, sym, subst, ◌∙◌}
use Rattle.fx_rules.specs.declared.command.Command.{Command}
use Rattle.fx_rules.specs.declared.outcome.Outcome.{Outcome}
use Rattle.fx_rules.specs.declared.outcome.Entry.{Entry}
use Rattle.fx_rules.specs.Session.{Header}
use Rattle.fx_rules.specs.History.{IsLegal, own}
use Rattle.fx_rules.proofs.ListLemmas.{filter_cons_true}
use Rattle.fx_chronicle.specs.Faces.{Witness}
use Rattle.fx_chronicle.specs.Submitting.{next_own, Submitted}
use Rattle.fx_chronicle.proofs.Owning.{own-append}
use Rattle.fx_chronicle.proofs.Submits.{submits}
use Rattle.credit_book.specs.Serving.{IsServed}

-- of its bank the history has one command more
pub mine_grew : (h : Header) (before : List Entry) (pass : Witness Entry) (command : Command) (after : List Entry) (pass' : Witness Entry) (outcome : Outcome) → IsServed h before pass command after pass' outcome
    → own pass'.key pass'.met ≡ own pass.key pass.met ++ next_own pass.key (own pass.key pass.met) command outcome ∷ []
mine_grew h before pass command after pass' outcome served =
    let e : Entry = next_own pass.key (own pass.key pass.met) command outcome in
    ap (λ (w : Witness Entry). own w.key w.met) served.meets
    ∙ ap (own pass.key) served.ends ∙ own-append pass.key before (e ∷ []) ∙ ap (λ (es : List Entry). es ++ own pass.key (e ∷ [])) served.owns
    ∙ ap (λ (es : List Entry). own pass.key pass.met ++ es) (filter_cons_true (λ (d : Entry). eqb d.bank pass.key) e [] (eq-eqb pass.key pass.key refl))

pub submitted : (h : Header) (before : List Entry) (pass : Witness Entry) (command : Command) (after : List Entry) (pass' : Witness Entry) (outcome : Outcome) → IsServed h before pass command after pass' outcome
    → Submitted h pass.key pass.seen (own pass.key pass.met) command pass'.seen (own pass'.key pass'.met) outcome
submitted h before pass command after pass' outcome served =
    let seen_is : pass'.seen ≡ after = ap (λ (w : Witness Entry). w.seen) served.meets in
    let mine_is : own pass'.key pass'.met ≡ own pass.key after = ap (λ (w : Witness Entry). own w.key w.met) served.meets in
    submits h pass.key pass.seen (own pass.key pass.met) command pass'.seen (own pass'.key pass'.met) outcome before
    served.begins (seen_is ∙ served.ends) (subst (IsLegal h) (sym seen_is) served.legal) (mine_grew h before pass command after pass' outcome served) (ap (own pass.key) seen_is ∙ sym mine_is)
