use Rattle.std.proofs.Common.{◌∙◌}
use Rattle.client_desk.proofs.Reading.{owner-is}
use Rattle.client_desk.proofs.book.ClientBook.owner.Goals as goal

pub returns : goal.returns
returns c = record {
  owner = λ h tagged stands. c.owner_at.ensures.value ∙ owner-is h tagged c.args.self.now c.args.bank c.args.number stands;
}
