-- An output, and what the clients have and were told behind it, are written.
use Rattle.std.proofs.Common.{ℕ, ◌≡◌, List, [], ◌++◌, Option, Result, Ok, Err, sym, ap, subst, ◌∙◌}
use Rattle.std.specs.Prelude.{IsErrAnd}
use Rattle.fx_edges.specs.Writing.{Wrote}
use Rattle.fx_edges.specs.declared.sink.SinkFault.{SinkFault}
use Rattle.fx_edges.proofs.Writing.{AppendedPart-longer, IsPrefixOf-append, Wrote-after}
use Rattle.fx_rules.specs.Session.{Header}
use Rattle.client_desk.specs.Clients.{IsTagged, entries_of}
use Rattle.client_desk.specs.declared.client.Client.{Client}
use Rattle.reply_lines.specs.Faults.{WroteOutput, fault_of}
use Rattle.reply_lines.specs.Output.{IsOutput}
use Rattle.reply_lines.specs.declared.output.Ending.{Ending}
use Rattle.reply_lines.specs.declared.output.OutFault.{OutFault}
use Rattle.reply_lines.proofs.Outputs.{wrote_whole, wrote_part}
use Rattle.session_script.specs.Heard.{Heard}
use Rattle.client_day.specs.Days.{IsDayOf}
use Rattle.client_day.specs.inside.Days.{AreToldOf}
use Rattle.client_day.specs.Events.{AreAnswered, tagged_in}
use Rattle.client_day.specs.Text.{IsClientsText, clients_text}
use Rattle.client_day.specs.declared.day.ClientDay.{ClientDay}

module _ (h : Header) (heard : List Heard) (day : ClientDay) where
  -- what is to be written of each client
  pub told-of : (is : IsDayOf h heard day) → AreToldOf h is.events day.book day.desks.items
  told-of is = record {
    count = is.behind.desks;
    each = λ c within. record { known = is.behind.known; clients = is.clients; noted = is.behind.noted c within };
  }

  module _ (ending : Ending) (is : IsDayOf h heard day) where
    abbrev part : List ℕ
    part = clients_text h day.book.clients is.events

    abbrev IsAll : List ℕ → Type 0
    IsAll = IsClientsText h heard ending

    abbrev IsFirst : List ℕ → Type 0
    IsFirst = IsOutput h (entries_of (tagged_in is.events)) day.strays ending

    both : (text : List ℕ) → IsFirst text → IsAll (text ++ part)
    both text first = record {
      events = is.events;
      in_order = sym is.asked_are;
      answered = subst (λ (clients : List Client). AreAnswered h clients [] is.events) (sym is.clients_are) is.behind.answered;
      tagged = subst (λ (clients : List Client). IsTagged h clients (tagged_in is.events)) (sym is.clients_are) is.behind.known.tagged_is;
      output = text;
      is_output = subst (λ (n : ℕ). IsOutput h (entries_of (tagged_in is.events)) n ending text) (sym is.strays_are) first;
      exactly = ap (λ (clients : List Client). text ++ clients_text h clients is.events) (sym is.clients_are);
    }

    module _ {K : Type 0} (written : K → Option (List ℕ)) (faults : K → ℕ) (before mid now : K) where
      -- a fault of the output
      pub wrote_short : {T U : Type 0} (result : Result U OutFault) (e : OutFault) → IsErrAnd result (λ fault. fault ≡ e) → WroteOutput {T = T} written faults before mid IsFirst (Err e) → WroteOutput {T = U} written faults before mid IsAll result
      wrote_short (Ok done) e same wrote = absurd same
      wrote_short (Err fault) e same wrote = record {
        text = wrote.text ++ part;
        is_text = both wrote.text wrote.is_text;
        ok = tt;
        fault = AppendedPart-longer wrote.fault (IsPrefixOf-append wrote.text part);
        cause = λ failed. wrote.cause (sym same ∙ failed);
      }

      pub wrote_both : WroteOutput {T = Unit {0}} written faults before mid IsFirst (Ok tt) → Wrote {T = Unit {0}} written faults mid now part (Ok tt) → WroteOutput {T = Unit {0}} written faults before now IsAll (Ok tt)
      wrote_both first then = wrote_whole IsAll (first.text ++ part) (both first.text first.is_text) (Wrote-after (Ok tt) first.ok then)

      pub wrote_cut : (fault : SinkFault) (told : OutFault) → told ≡ fault_of fault → WroteOutput {T = Unit {0}} written faults before mid IsFirst (Ok tt) → Wrote {T = Unit {0}} written faults mid now part (Err fault)
          → WroteOutput {T = Unit {0}} written faults before now IsAll (Err told)
      wrote_cut fault told tells first then = wrote_part IsAll (first.text ++ part) fault told tells (both first.text first.is_text) (Wrote-after (Err fault) first.ok then)
