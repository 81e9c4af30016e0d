-- An output, and what was seen behind it, are written.
use Rattle.std.proofs.Common.{ℕ, ◌≡◌, List, [], ◌∷◌, ◌++◌, Option, Result, Ok, Err, refl, sym, ◌∙◌, subst, codes}
use Rattle.std.specs.Prelude.{IsErrAnd}
use Rattle.fx_amounts.specs.Numeral.{numeral}
use Rattle.fx_edges.specs.Writing.{Wrote}
use Rattle.fx_edges.specs.declared.sink.SinkFault.{SinkFault}
use Rattle.fx_edges.proofs.Writing.{AppendedPart-longer, IsPrefixOf-append, Wrote-after}
use Rattle.fx_rules.specs.declared.command.Sent.{Sent}
use Rattle.fx_rules.specs.declared.outcome.Entry.{Entry}
use Rattle.fx_rules.specs.Session.{Header}
use Rattle.reply_lines.specs.Faults.{WroteOutput, fault_of}
use Rattle.reply_lines.specs.Output.{IsOutput}
use Rattle.reply_lines.specs.Rows.{row}
use Rattle.reply_lines.specs.declared.output.Ending.{Ending}
use Rattle.reply_lines.specs.declared.output.OutFault.{OutFault}
use Rattle.reply_lines.proofs.Outputs.{wrote_whole, wrote_part}
use Rattle.watched_run.specs.Watched.{HasWatched, IsWatchedOutput, look_count}

module _ (h : Header) (sent : List Sent) (history entries : List Entry) (strays : ℕ) (ending : Ending) (rounds : ℕ) (items lines : List ℕ) (same_entries : entries ≡ history) (same_lines : lines ≡ items) (watched : HasWatched h sent history rounds items) where
  abbrev seen : List ℕ
  seen = row (codes "WATCHED") (numeral (look_count h rounds) ∷ []) ++ lines

  abbrev IsBoth : List ℕ → Type 0
  IsBoth = IsWatchedOutput h sent history strays ending

  both : (text : List ℕ) → IsOutput h entries strays ending text → IsBoth (text ++ seen)
  both text is = record {
    output = text;
    is_output = subst (λ (es : List Entry). IsOutput h es strays ending text) same_entries is;
    seen = seen;
    is_seen = record { rounds = rounds; lines = lines; watched = subst (HasWatched h sent history rounds) (sym same_lines) watched; exactly = refl };
    exactly = refl;
  }

  module _ {K : Type 0} (written : K → Option (List ℕ)) (faults : K → ℕ) (before mid now : K) where
    -- a fault of the output
    pub wrote_short : {T U : Type 0} (result : Result U OutFault) (e : OutFault) → IsErrAnd result (λ fault. fault ≡ e) → WroteOutput {T = T} written faults before mid (IsOutput h entries strays ending) (Err e) → WroteOutput {T = U} written faults before mid IsBoth result
    wrote_short (Ok done) e is wrote = absurd is
    wrote_short (Err fault) e is wrote = record {
      text = wrote.text ++ seen;
      is_text = both wrote.text wrote.is_text;
      ok = tt;
      fault = AppendedPart-longer wrote.fault (IsPrefixOf-append wrote.text seen);
      cause = λ failed. wrote.cause (sym is ∙ failed);
    }

    pub wrote_both : WroteOutput {T = Unit {0}} written faults before mid (IsOutput h entries strays ending) (Ok tt) → Wrote {T = Unit {0}} written faults mid now seen (Ok tt) → WroteOutput {T = Unit {0}} written faults before now IsBoth (Ok tt)
    wrote_both first then = wrote_whole IsBoth (first.text ++ seen) (both first.text first.is_text) (Wrote-after (Ok tt) first.ok then)

    pub wrote_cut : (fault : SinkFault) (told : OutFault) → told ≡ fault_of fault → WroteOutput {T = Unit {0}} written faults before mid (IsOutput h entries strays ending) (Ok tt) → Wrote {T = Unit {0}} written faults mid now seen (Err fault)
        → WroteOutput {T = Unit {0}} written faults before now IsBoth (Err told)
    wrote_cut fault told tells first then = wrote_part IsBoth (first.text ++ seen) fault told tells (both first.text first.is_text) (Wrote-after (Err fault) first.ok then)
