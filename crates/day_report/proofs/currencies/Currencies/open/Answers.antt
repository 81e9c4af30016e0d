use Rattle.std.proofs.Common.{◌≡◌, ◌<◌, ◌+◌, length, get_or, ap, ◌∙◌, arith}
use Rattle.std.proofs.lemmas.List.{length_push}
use Rattle.day_report.specs.Report.{base_code, quote_code}
use Rattle.day_report.specs.inside.Parts.{with_code}
use Rattle.day_report.specs.Sums.{StandsAt}
use Rattle.day_report.specs.declared.currencies.Columns.{Columns}
use Rattle.day_report.proofs.Codes.{firsts_more, stand-more, stands_then, base_read, quote_read}
use Rattle.day_report.proofs.currencies.Currencies.open.Goals as goal

pub loop-rule-preserved : goal.loop-rule-preserved
loop-rule-preserved c =
    let h = c.args.session.now in
    let rule = c.rule-item.result in
    let codes = c.loop-rule.codes.items in
    let middle = c.column_of.new.codes.items in
    let new = c.column_of-in-loop-rule.new.codes.items in
    let pairs : c.pairs-rule-items.result.now ≡ h.pairs = c.pairs-rule-items.ensures.value in
    let within : c.loop-rule.rule-index < length h.pairs = omega (arith, ap length pairs, c.loop-rule-test.true) in
    let read : rule ≡ get_or h.pairs c.loop-rule.rule-index rule = c.rule-item.is ∙ ap (λ rs. get_or rs c.loop-rule.rule-index rule) pairs in
    let first : middle ≡ with_code codes rule.base = c.in_ok-base.ensures.codes in
    let second : new ≡ with_code middle rule.quote = c.in_ok-quote.ensures.codes in
    let base : StandsAt new rule.base c.in_ok-base.base = stands_then middle new rule.quote rule.base c.in_ok-base.base second c.in_ok-base.ensures.column in
    let quote : StandsAt new rule.quote c.in_ok-quote.quote = c.in_ok-quote.ensures.column in
    record {
      codes_are = second ∙ firsts_more h.pairs c.loop-rule.rule-index rule codes middle within read c.loop-rule.invariant.codes_are first;
      count = ap length c.in_ok-push.ensures.items ∙ length_push c.loop-rule.columns.items _ ∙ ap (λ n. n + 1) c.loop-rule.invariant.count;
      bases = stand-more (base_code h) (λ (at : Columns). at.base) codes middle new c.loop-rule.columns.items c.push.new.self.items c.loop-rule.rule-index _ rule.base rule.quote rule.base
          c.loop-rule.invariant.count first second c.in_ok-push.ensures.items base (base_read h c.loop-rule.rule-index rule within read) c.loop-rule.invariant.bases;
      quotes = stand-more (quote_code h) (λ (at : Columns). at.quote) codes middle new c.loop-rule.columns.items c.push.new.self.items c.loop-rule.rule-index _ rule.base rule.quote rule.quote
          c.loop-rule.invariant.count first second c.in_ok-push.ensures.items quote (quote_read h c.loop-rule.rule-index rule within read) c.loop-rule.invariant.quotes;
    }
