use Rattle.std.proofs.Common.{◌∙◌, ◌++◌, ◌∷◌, [], ap, sym, subst, List}
use Rattle.fx_rules.specs.Lists.{EachPair}
use Rattle.client_desk.specs.Clients.{Differ}
use Rattle.client_desk.specs.declared.client.Client.{Client}
use Rattle.client_desk.proofs.Finding.{differ-more, one-more}
use Rattle.client_desk.proofs.clients.Clients.of.Goals as goal

pub push-requires : goal.push-requires
push-requires c = record {
  differ = subst (λ (all : List Client). EachPair Differ (all ++ c.client-item.result ∷ [])) (sym c.loop-client.invariant)
      (differ-more c.args.all.now c.loop-client.client-index c.client-item.result c.requires.differ c.loop-client-test.true c.client-item.is);
}

pub loop-client-preserved : goal.loop-client-preserved
loop-client-preserved c =
    c.in_ok-push.ensures.pushed
    ∙ ap (λ (all : List Client). all ++ c.client-item.result ∷ []) c.loop-client.invariant
    ∙ sym (one-more c.args.all.now c.loop-client.client-index c.client-item.result c.loop-client-test.true c.client-item.is)
