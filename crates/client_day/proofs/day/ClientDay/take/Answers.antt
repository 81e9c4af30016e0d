-- A command is served; a stray is read as a line of clients.
use Rattle.std.proofs.Common.{◌++◌, ◌∷◌, [], List, None, take, ap, sym, subst, arith}
use Rattle.reply_lines.proofs.Items.{at-place}
use Rattle.reply_lines.proofs.Outputs.{on_ok}
use Rattle.session_script.specs.Heard.{Heard, IsHeardOf, heard_seen}
use Rattle.session_script.specs.declared.heard.HeardView.{HeardView}
use Rattle.client_day.specs.Days.{IsDayOf}
use Rattle.client_day.specs.Script.{asked_for, client_script, with_heard}
use Rattle.client_day.proofs.Days.{day-asked, events-few}
use Rattle.client_day.proofs.Serving.{one-more}
use Rattle.client_day.proofs.day.ClientDay.take.Goals as goal

pub take_command-requires : goal.take_command-requires
take_command-requires c =
    let next = c.requires.next in
    let heard = c.args.heard.now in
    record {
      next = (next.1.events, next.1.behind, omega (arith, next.2, events-few c.args.session.now next.0 c.args.self.now next.1));
      sent = subst (λ (view : HeardView). IsHeardOf c.args.session.now (heard_seen view)) c.in-Command.is
          (at-place (IsHeardOf c.args.session.now) heard c.args.place (heard_seen c.at.result) c.requires.place c.at.ensures.value c.requires.valid).0;
    }

pub take_line-requires : goal.take_line-requires
take_line-requires c = record { next = c.requires.next }

pub returns-in-Command : goal.returns-in-Command
returns-in-Command c = record {
  taken = on_ok c.take_command.result (λ takes before is.
      let h = c.args.session.now in
      let so_far : List Heard = before ++ take c.args.place c.args.heard.now in
      subst (λ (heard : List Heard). IsDayOf h heard c.take_command.new.self) (one-more before c.args.heard.now c.args.place (heard_seen c.at.result) c.requires.place c.at.ensures.value)
      (day-asked h so_far (heard_seen c.at.result) c.args.self.now c.take_command.new.self (asked_for None c.in-Command.sent.bank c.in-Command.sent.command) is takes
      (ap (λ (view : HeardView). with_heard h (client_script h so_far) (heard_seen view)) c.in-Command.is)))
      c.take_command.ensures.taken;
}

pub returns-in-Stray : goal.returns-in-Stray
returns-in-Stray c = record {
  taken = on_ok c.take_line.result (λ taken before is.
      let h = c.args.session.now in
      let so_far : List Heard = before ++ take c.args.place c.args.heard.now in
      subst (λ (heard : List Heard). IsDayOf h heard c.take_line.new.self) (one-more before c.args.heard.now c.args.place (heard_seen c.at.result) c.requires.place c.at.ensures.value)
      (subst (λ (view : HeardView). IsDayOf h (so_far ++ heard_seen view ∷ []) c.take_line.new.self) (sym c.in-Stray.is) (taken so_far is)))
      c.take_line.ensures.taken;
}
