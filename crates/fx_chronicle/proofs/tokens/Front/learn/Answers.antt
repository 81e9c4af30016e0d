use Rattle.std.proofs.Common.{◌≡◌, length, max, ap, ap₂, sym, ◌∙◌, rules, subst}
use mathlib.Core.List.{IsPrefix}
use Rattle.fx_chronicle.specs.Faces.{longer}
use Rattle.fx_chronicle.specs.inside.Views.{seen_of, met_of}
use Rattle.fx_chronicle.proofs.Prefixes.{length-longer, prefix_trans}
use Rattle.fx_chronicle.proofs.tokens.Front.learn.Goals as goal

pub invariant_of-self : goal.invariant_of-self
invariant_of-self g c =
    let own = c.into_seat-seat.result.me.0 in
    let told = c.into_seat.result.me.0 in
    let views = ap (λ b. b.views) (sym c.replace.ensures.value) ∙ c.into_seat-seat.ensures.2 in
    let now : seen_of c.into_badge.result.views ≡ longer own.seen told.seen = ap seen_of c.into_badge.ensures.2 ∙ ap (λ me. me.0.seen) c.learn.ensures.front in
    let met : met_of c.into_badge.result.views ≡ own.met = ap met_of c.into_badge.ensures.2 ∙ ap (λ me. me.0.met) c.learn.ensures.front in
    let before : IsPrefix own.met own.seen = subst (λ vs. IsPrefix (met_of vs) (seen_of vs)) views c.self.invariant.met in
    let counts : max c.self.inside.seen c.slip.inside.seen ≡ max (length own.seen) (length told.seen) =
    ap₂ max (c.self.invariant.count ∙ ap (λ vs. length (seen_of vs)) views) (c.slip.invariant.count ∙ ap (λ vs. length (seen_of vs)) c.into_seat.ensures.2) in
    record {
      table = search rules;
      views = search rules;
      count = c.max-self-inside.ensures ∙ counts ∙ length-longer own.seen told.seen ∙ ap length (sym now);
      met = rw (now, met) (prefix_trans own.met own.seen (longer own.seen told.seen) before c.learn.ensures.own);
    }
