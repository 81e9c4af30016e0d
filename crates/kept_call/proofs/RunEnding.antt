-- Out of memory before the end of an output is written.
use Rattle.std.proofs.Common.{ℕ, List, [], ◌++◌, Option, Err, refl, sym, arith}
use Rattle.fx_amounts.specs.declared.memory.Memory.{Memory as AmountsMemory}
use Rattle.fx_edges.proofs.Writing.{IsPrefixOf-nil, append_known-nil}
use Rattle.fx_rules.specs.declared.outcome.Entry.{Entry}
use Rattle.fx_rules.specs.Session.{Header}
use Rattle.fx_rules.specs.History.{IsLegal, state}
use Rattle.reply_lines.specs.Books.{books_text}
use Rattle.reply_lines.specs.Report.{report_text}
use Rattle.reply_lines.specs.Output.{IsRestOfOutput, last_text}
use Rattle.reply_lines.specs.Faults.{WroteOutput}
use Rattle.reply_lines.specs.declared.output.Ending.{Ending}
use Rattle.reply_lines.specs.declared.output.OutFault.TheVariants.{Memory}
use Rattle.reply_lines.proofs.Outputs.{day-books}

pub unwritten : {K T : Type 0} (written : K → Option (List ℕ)) (faults : K → ℕ) (out : K) (h : Header) (entries : List Entry) (strays : ℕ) (ending : Ending) (memory : AmountsMemory) → IsLegal h entries
    → WroteOutput {T = T} written faults out out (IsRestOfOutput h entries strays ending) (Err (Memory memory))
unwritten written faults out h entries strays ending memory legal =
    let books = day-books h entries legal in
    let text : List ℕ = (books_text h books.0 ++ report_text h (state h entries)) ++ last_text strays ending in
    record {
      text = text;
      is_text = record { books = books.0; at_the_end = books.1; exactly = refl };
      ok = tt;
      fault = record { part = []; prefix = IsPrefixOf-nil text; holds = sym (append_known-nil (written out)); count = omega arith };
      cause = λ is. absurd cc;
    }
