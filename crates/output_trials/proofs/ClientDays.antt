-- A day of clients goes on by an entry.
use Rattle.std.proofs.Common.{ℕ, ◌≡◌, ◌+◌, List, [], ◌∷◌, ◌++◌, ap, sym, subst, ◌∙◌, Option, Some}
use Rattle.fx_rules.specs.declared.command.Command.{Command}
use Rattle.fx_rules.specs.declared.outcome.Outcome.{Outcome}
use Rattle.fx_rules.specs.declared.outcome.Entry.{Entry}
use Rattle.fx_rules.specs.Session.{Header}
use Rattle.fx_rules.specs.State.{State}
use Rattle.fx_rules.specs.History.{IsLegal, state}
use Rattle.fx_rules.specs.Market.{GoesOn, HasSent, InEach, next_entry}
use Rattle.client_desk.specs.declared.ask.Ask.TheVariants.{Pass}
use Rattle.client_desk.specs.Clients.{IsTagged, ask_of, entries_of, state_of, tag}
use Rattle.client_desk.specs.Standing.{Book}
use Rattle.client_desk.proofs.Owners.{entries-push}
use Rattle.client_desk.proofs.Within.{tagged-push}
use Rattle.output_trials.specs.inside.ClientDays.{IsClientDay, IsClientOf}

-- the entry of a command behind so many of its sender
abbrev pub entry_behind : ℕ → ℕ → Command → Outcome → Entry
entry_behind bank before command outcome = record { bank = bank; number = before + 1; command = command; outcome = outcome }

module _ {M : Type 0} (stands : M → Header → State → Type 0) (h : Header) (was : M) (book : Book) (day : IsClientDay stands h was book) (now : M) (who : Option ℕ) (bank before : ℕ) (command : Command) (outcome : Outcome) (sent : InEach (stands was) (HasSent bank before)) (goes_on : GoesOn (stands was) (stands now) bank command outcome) where
  longer : entries_of day.tagged ++ next_entry (state_of h day.tagged) bank command outcome ∷ [] ≡ entries_of (day.tagged ++ tag who (entry_behind bank before command outcome) ∷ [])
  longer =
      ap (λ n. entries_of day.tagged ++ entry_behind bank n command outcome ∷ []) (sent h (entries_of day.tagged) day.known.tagged_is.legal day.stood)
      ∙ sym (entries-push day.tagged (tag who (entry_behind bank before command outcome)))

  pub stands-on : stands now h (state_of h (day.tagged ++ tag who (entry_behind bank before command outcome) ∷ []))
  stands-on = subst (λ (entries : List Entry). stands now h (state h entries)) longer (goes_on h (entries_of day.tagged) day.known.tagged_is.legal day.stood).1

  pub tagged-on : IsClientOf book who bank → ((c : ℕ) → who ≡ Some c → ask_of h book.clients day.tagged c command ≡ Pass) → IsTagged h book.clients (day.tagged ++ tag who (entry_behind bank before command outcome) ∷ [])
  tagged-on client passed =
      tagged-push h book.clients day.tagged (tag who (entry_behind bank before command outcome)) day.known.tagged_is
      (subst (IsLegal h) longer (goes_on h (entries_of day.tagged) day.known.tagged_is.legal day.stood).0) client passed
