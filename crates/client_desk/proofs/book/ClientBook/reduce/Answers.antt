use Rattle.std.proofs.Common.{◌≡◌, ◌-◌, ap, sym, subst, ◌∙◌, arith}
use Rattle.fx_rules.specs.Step.{reduced}
use Rattle.client_desk.specs.Standing.{Book}
use Rattle.client_desk.specs.inside.Changes.{kept_left}
use Rattle.client_desk.specs.inside.UnderWay.{IsUnderWay}
use Rattle.client_desk.proofs.UnderWay.{weighs-pair}
use Rattle.client_desk.proofs.Ways.{can-reduce, reduce-way}
use Rattle.client_desk.proofs.book.ClientBook.reduce.Goals as goal

pub left-lots-requires : goal.left-lots-requires
left-lots-requires c = record { sender = omega (arith, c.requires.rests.6.sender, c.requires.rests.5.stands.senders) }

pub release-requires : goal.release-requires
release-requires c =
    let kept : c.saturating_sub.result ≡ kept_left c.args.self.now c.args.pair c.args.bank c.args.number - c.args.left = c.saturating_sub.ensures ∙ ap (λ n. n - c.args.left) c.left-lots.ensures.value in
    record {
      gives = can-reduce c.requires.rests.0 c.requires.rests.1 c.requires.rests.2 c.requires.rests.3 c.requires.rests.4 c.args.self.now c.args.pair c.args.bank c.args.number c.args.left c.saturating_sub.result c.requires.rests.5 c.requires.rests.6 c.requires.rests.7
          (weighs-pair c.requires.rests.0 _ _ c.requires.rests.3 _ c.args.self.now c.args.pair c.requires.rests.5.stands c.requires.rests.7) c.left-lots.ensures.full c.requires.rests.8 kept;
    }

pub returns : goal.returns
returns c =
    let kept : c.saturating_sub.result ≡ kept_left c.args.self.now c.args.pair c.args.bank c.args.number - c.args.left = c.saturating_sub.ensures ∙ ap (λ n. n - c.args.left) c.left-lots.ensures.value in
    record {
      clients = ap (λ (b : Book). b.clients) c.release.ensures.value;
      reduced = λ h tagged t orders fills way known above.
          subst (IsUnderWay h tagged t (reduced c.args.bank c.args.number c.args.left orders) fills) (sym c.release.ensures.value)
          (reduce-way h tagged t orders fills c.args.self.now c.args.pair c.args.bank c.args.number c.args.left c.saturating_sub.result way known c.left-lots.ensures.full above kept);
    }
