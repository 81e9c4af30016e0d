use Rattle.std.proofs.Common.{ℕ, ◌<◌, Bool, cond, length, ap, sym, subst, ◌∙◌, arith}
use Rattle.client_desk.specs.declared.ask.Ask.TheVariants.{Pass, Barred}
use Rattle.client_desk.specs.Clients.{ask_of, bank_of_client}
use Rattle.client_desk.specs.Standing.{Book}
use Rattle.client_desk.proofs.Reading.{rests-is}
use Rattle.client_desk.proofs.book.ClientBook.ask.Goals as goal

pub returns-in-Cancel : goal.returns-in-Cancel
returns-in-Cancel c = record {
  answers = λ h tagged stands.
      let row : bank_of_client c.args.self.now.clients c.args.client < length c.args.self.now.rows =
      subst (λ (b : Book). (k : ℕ) → k < length b.clients → bank_of_client b.clients k < length b.rows) c.self.view_is c.self.invariant.banks c.args.client c.requires.client in
      c.ask_own.ensures.answers
      ∙ ap (λ (t : Bool). cond t Pass Barred) (rests-is h tagged c.args.self.now c.args.client c.in-Cancel.pair c.in-Cancel.number stands (omega (arith, stands.stands.senders)))
      ∙ ap (ask_of h c.args.self.now.clients tagged c.args.client) (sym c.in-Cancel.is);
}

pub returns-in-Reduce : goal.returns-in-Reduce
returns-in-Reduce c = record {
  answers = λ h tagged stands.
      let row : bank_of_client c.args.self.now.clients c.args.client < length c.args.self.now.rows =
      subst (λ (b : Book). (k : ℕ) → k < length b.clients → bank_of_client b.clients k < length b.rows) c.self.view_is c.self.invariant.banks c.args.client c.requires.client in
      c.ask_own-in-Reduce.ensures.answers
      ∙ ap (λ (t : Bool). cond t Pass Barred) (rests-is h tagged c.args.self.now c.args.client c.in-Reduce.pair c.in-Reduce.number stands (omega (arith, stands.stands.senders)))
      ∙ ap (ask_of h c.args.self.now.clients tagged c.args.client) (sym c.in-Reduce.is);
}
