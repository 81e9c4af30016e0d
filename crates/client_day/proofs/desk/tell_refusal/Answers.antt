-- The line of the refusal is added.
use Rattle.std.proofs.Common.{◌+◌, ◌++◌, ◌∷◌, [], List, ℕ, ap, sym, ◌∙◌, codes}
use Rattle.fx_amounts.specs.Numeral.{numeral}
use Rattle.client_desk.specs.declared.ask.Ask.{Ask}
use Rattle.reply_lines.specs.Desks.{desk_with}
use Rattle.reply_lines.specs.Rows.{row}
use Rattle.reply_lines.proofs.Outputs.{on_ok}
use Rattle.client_day.specs.Desks.{with_notes}
use Rattle.client_day.specs.Notes.{refusal_notes}
use Rattle.client_day.proofs.desk.tell_refusal.Goals as goal

pub returns-in-Pass : goal.returns-in-Pass
returns-in-Pass c = record { ok = λ h. ap (λ (a : Ask). with_notes h c.args.desk.now (refusal_notes a)) (sym c.in-Pass.is) }

pub returns-in-Short : goal.returns-in-Short
returns-in-Short c = record {
  ok = on_ok c.push.result (λ given h.
      given
      ∙ ap (λ (line : List ℕ). desk_with (c.args.desk.now.count + 1) (c.args.desk.now.lines ++ line)) (c.make_short.ensures.made ∙ ap (λ n. row (numeral n) (codes "SHORT" ∷ numeral c.in-Short.free ∷ [])) c.next_number.ensures)
      ∙ ap (λ (a : Ask). with_notes h c.args.desk.now (refusal_notes a)) (sym c.in-Short.is)) c.push.ensures.ok;
}

pub returns-in-Barred : goal.returns-in-Barred
returns-in-Barred c = record {
  ok = on_ok c.push-in-Barred.result (λ given h.
      given
      ∙ ap (λ (line : List ℕ). desk_with (c.args.desk.now.count + 1) (c.args.desk.now.lines ++ line)) (c.make_barred.ensures.made ∙ ap (λ n. row (numeral n) (codes "BARRED" ∷ [])) c.next_number-in-Barred.ensures)
      ∙ ap (λ (a : Ask). with_notes h c.args.desk.now (refusal_notes a)) (sym c.in-Barred.is)) c.push-in-Barred.ensures.ok;
}
