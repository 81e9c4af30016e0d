use Rattle.std.proofs.Common.{Bool, true, false, ◌≡◌, if◌then◌else◌, Option, Some, None, get_or, ap, sym, ◌∙◌}
use Rattle.std.proofs.Math.ListN.{set}
use Rattle.std.proofs.lemmas.List.{set-get_or}
use Rattle.access_index.specs.declared.words.Head.{Head}
use Rattle.access_index.specs.inside.Words.{leads}
use Rattle.access_index.proofs.words.HeadWords.add.Goals as goal

pub returns-then-leads-clause-added : goal.returns-then-leads-clause-added
returns-then-leads-clause-added c =
    let it : leads (get_or c.args.self.now c.args.bank None) c.args.head.rank ≡ true = sym (c.leads.ensures ∙ ap (λ (o : Option Head). leads o c.args.head.rank) c.of.ensures.head) ∙ c.if-leads.true in
    c.set.ensures ∙ ap (λ (b : Bool). set c.args.self.now c.args.bank (if b then Some c.args.head else get_or c.args.self.now c.args.bank None)) (sym it)

pub returns-else-leads-clause-added : goal.returns-else-leads-clause-added
returns-else-leads-clause-added c =
    let it : leads (get_or c.args.self.now c.args.bank None) c.args.head.rank ≡ false = sym (c.leads.ensures ∙ ap (λ (o : Option Head). leads o c.args.head.rank) c.of.ensures.head) ∙ c.if-leads.false in
    sym (set-get_or c.args.self.now c.args.bank None) ∙ ap (λ (b : Bool). set c.args.self.now c.args.bank (if b then Some c.args.head else get_or c.args.self.now c.args.bank None)) (sym it)
