use Rattle.session_head.proofs.DraftLemmas.{bank_added, pair_added}
use Rattle.session_head.proofs.draft.Draft.add.Goals as goal

pub invariant_of-self : goal.invariant_of-self
invariant_of-self c = bank_added _ c.args.self.now c.args.statement c.in-Bank.name c.push.new.self.items c.self.invariant c.self.view_is c.in-Bank.is c.requires c.in_ok-push-in-Bank.ensures.items

pub invariant_of-self-in-Continue-branch-2 : goal.invariant_of-self-in-Continue-branch-2
invariant_of-self-in-Continue-branch-2 c = pair_added _ c.args.self.now c.args.statement c.in-Pair.rule c.push-in-Pair.new.self.items c.self-in-Pair.invariant c.self-in-Pair.view_is c.in-Pair.is c.requires c.in_ok-push-in-Pair.ensures.items
