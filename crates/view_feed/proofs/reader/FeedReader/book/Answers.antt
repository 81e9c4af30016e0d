use Rattle.std.proofs.Common.{◌≡◌, List, ap, sym, subst, ◌∙◌}
use mathlib.Core.List.{IsPrefix}
use Rattle.left_right.specs.Sides.{view}
use Rattle.logbook.specs.Pages.{Book}
use Rattle.fx_rules.specs.declared.outcome.Entry.{Entry}
use Rattle.fx_chronicle.proofs.Prefixes.{prefix_self, prefix_trans}
use Rattle.view_feed.specs.declared.rule.View.{View}
use Rattle.view_feed.specs.Feeds.{Reading, Stretch}
use Rattle.view_feed.specs.inside.Rule.{knower}
use Rattle.view_feed.proofs.reader.FeedReader.book.Goals as goal

pub invariant_of-self-2 : goal.invariant_of-self-2
invariant_of-self-2 c =
    let old = view c.self.inside.place.place in
    let new = view c.replace_with.new.dest.place in
    let front = c.in_ok-front.front in
    let stays : new ≡ old = c.in_ok-front.ensures.0 in
    let tape : front.tape ≡ c.self.inside.known.tape = c.in_ok-front.ensures.1.0 ∙ ap (λ (s : Stretch). s.tape) c.again.ensures.same in
    record {
      knows = stays ∙ c.self.invariant.knows ∙ ap (λ (v : View). knower v.session c.self.inside.known.tape) (sym stays) ∙ ap (λ (b : Book). knower new.session b) (sym tape);
      same = ap (λ (s : Stretch). s.tape) c.again-2.ensures.same;
      begins = subst (λ (s : Stretch). IsPrefix s.entries front.entries) (sym c.again-2.ensures.same) (prefix_self front.entries);
    }

pub returns-clause-goes_on : goal.returns-clause-goes_on
returns-clause-goes_on c =
    let now = c.args.self.now in
    let front = c.in_ok-front.front in
    let known : IsPrefix now.known front.entries = subst (λ (es : List Entry). IsPrefix es front.entries) (ap (λ (s : Stretch). s.entries) c.again.ensures.same ∙ ap (λ (r : Reading). r.known) c.self.view_is) c.in_ok-front.ensures.1.1.1.0 in
    let begins : IsPrefix now.seen now.known = subst (λ (r : Reading). IsPrefix r.seen r.known) c.self.view_is c.self.invariant.begins in
    subst (λ (s : Stretch). IsPrefix now.seen s.entries × IsPrefix now.known s.entries) (sym c.again-2.ensures.same)
    (prefix_trans now.seen now.known front.entries begins known, known)
