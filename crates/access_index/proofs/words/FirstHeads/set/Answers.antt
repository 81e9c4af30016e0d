use Rattle.std.proofs.Common.{List, ℕ, Option, ◌/◌, ◌%◌, ap, subst, sym, ◌∙◌, refl, arith}
use Rattle.std.proofs.Math.ListN.{set}
use Rattle.std.proofs.lemmas.List.{map-set}
use Rattle.std.specs.Prelude.{IfSome}
use Rattle.access_index.specs.declared.words.Head.{Head}
use Rattle.access_index.specs.Heads.{IsHead}
use Rattle.access_index.specs.inside.Words.{head_of}
use Rattle.access_index.proofs.Wording.{head_of-word, none_of, own_word, words_set}
use Rattle.access_index.proofs.words.FirstHeads.set.Goals as goal
use Rattle.access_index.proofs.words.FirstHeads.set.Goals.{in-Some, in-None}

pub returns : goal.returns
returns g c =
    map-set head_of c.self.inside.words c.index-at.result c.match-head.self
    ∙ ap (λ (hs : List (Option Head)). set hs c.index-at.result (head_of c.match-head.self)) c.self.view_is
    ∙ ap (λ (k : ℕ). set c.args.self.now k (head_of c.match-head.self)) c.index-at.ensures.value
    ∙ ap (set c.args.self.now c.args.bank) (elim c.match-head.branch [
      | in-Some w ↦
          ap head_of (w.self-is ∙ w.word_of.ensures.word) ∙ head_of-word w.in-Some.head c.args.bank (subst (λ (o : Option Head). IfSome o IsHead) w.in-Some.is c.requires.head) (omega (arith, c.requires.bank, c.self.invariant.few)) ∙ sym w.in-Some.is
      | in-None w ↦ ap head_of w.self-is ∙ none_of _ refl ∙ sym w.in-None.is
    ])

pub invariant_of-self : goal.invariant_of-self
invariant_of-self g c =
    words_set g.row.N g.row.G c.self.inside.words c.self.inside.groups c.index-at.result c.args.bank c.match-head.self (c.index-at.result / 8) c.least_of.result c.index-at.ensures.value c.requires.bank c.self.invariant
    (elim c.match-head.branch [
      | in-Some w ↦ λ _. ap (λ (n : ℕ). n % 64) (w.self-is ∙ w.word_of.ensures.word) ∙ own_word w.in-Some.head c.args.bank (omega (arith, c.requires.bank, c.self.invariant.few))
      | in-None w ↦ λ some. absurd (some w.self-is)
    ])
    (elim c.match-head.branch [
      | in-Some w ↦ omega (arith, w.self-is, w.word_of.ensures.some)
      | in-None w ↦ omega (arith, w.self-is)
    ])
    refl c.least_of.ensures
