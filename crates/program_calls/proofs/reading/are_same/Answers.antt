use Rattle.std.proofs.Common.{◌<◌, ◌∙◌, length, string_bytes, sym, arith, List, ℕ, Bor, true≢false}
use Rattle.program_calls.proofs.SameWords.{more_read, read_at, texts_differ, texts_agree}
use Rattle.program_calls.proofs.reading.are_same.Goals as goal

pub returns-then-ne : goal.returns-then-ne
returns-then-ne c =
    let there : c.loop-at.at < length c.args.others.now = omega (arith, c.if-words-others.false, c.loop-at-test.true) in (
      λ is. absurd (true≢false (sym is)),
      λ same. absurd (texts_differ c.as_str.result.now _ c.ne.result c.ne.ensures c.if-ne.true
          (c.as_str.ensures.value ∙ read_at string_bytes (λ (word : Bor (List ℕ)). word.now) c.args.words.now c.args.others.now c.loop-at.at c.index-words-at.result _ c.loop-at-test.true there c.index-words-at.is same)),
    )

pub loop-at-preserved : goal.loop-at-preserved
loop-at-preserved c =
    let there : c.loop-at.at < length c.args.others.now = omega (arith, c.if-words-others.false, c.loop-at-test.true) in
    more_read string_bytes (λ (word : Bor (List ℕ)). word.now) c.args.words.now c.args.others.now c.loop-at.at c.index-words-at.result _ c.loop-at-test.true there c.index-words-at.is c.loop-at.invariant
    (sym c.as_str.ensures.value ∙ texts_agree c.as_str.result.now _ c.ne.result c.ne.ensures c.if-ne.false)
