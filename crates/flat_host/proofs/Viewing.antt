-- What the host answers is the market's, so what the laws say of the market's answers they say of the host's.
use Rattle.std.proofs.Common.{ℕ, ◌<◌, arith, length}
use Rattle.fx_rules.specs.declared.command.Command.{Command}
use Rattle.fx_rules.specs.declared.command.Command.TheVariants.{Line, Total}
use Rattle.fx_rules.specs.declared.outcome.Outcome.{Outcome}
use Rattle.fx_rules.specs.declared.outcome.Outcome.TheVariants.{LineSet, TotalSet, Depth}
use Rattle.fx_rules.proofs.ViewCommands.{views-told, books-alike}
use Rattle.fx_rules.proofs.ViewRaise.{views-fill, views-fill-total}
use Rattle.fx_rules.proofs.Truth.{books-truthful}
use Rattle.flat_host.specs.FlatState.{FlatState}
use Rattle.flat_host.specs.Steps.{IsCommandOf, AnswersEach, ShowsEach}
use Rattle.flat_host.proofs.Sendable.{sendable, pairs_of}
use Rattle.flat_host.specs.Views.{TellsByView, FillsByView, ShowsByView, ShowsTruly}

pub tells-by_view : (l : FlatState) (bank : ℕ) (command : Command) (outcome : Outcome) → IsCommandOf l bank command → AnswersEach l bank command outcome → TellsByView l bank command outcome
tells-by_view l bank command outcome valid answers h S T other session sound sound' sender stands alike is =
    views-told h S T bank command outcome other session sound sound' sender
    (sendable h S l bank command session sound stands valid) alike (answers h S session sound stands) is

pub fills-by_view : (l : FlatState) (bank : ℕ) (command : Command) (outcome : Outcome) → IsCommandOf l bank command → AnswersEach l bank command outcome → FillsByView l bank command outcome
fills-by_view l bank (Line other asked) (LineSet limit fills) valid answers = λ h S T others session sound sound' quiet quiet' stands alike is.
    views-fill h S T bank other asked limit fills others session sound sound' quiet quiet'
    (sendable h S l bank (Line other asked) session sound stands valid) alike (answers h S session sound stands) is
fills-by_view l bank (Total asked) (TotalSet most fills) valid answers = λ h S T others session sound sound' quiet quiet' stands alike is.
    views-fill-total h S T bank asked most fills others session sound sound' quiet quiet'
    (sendable h S l bank (Total asked) session sound stands valid) alike (answers h S session sound stands) is
fills-by_view l bank command outcome valid answers = tt

pub shows-by_view : (l : FlatState) (bank pair : ℕ) (outcome : Outcome) → bank < l.credit.banks → pair < length l.weights → ShowsEach l bank pair outcome → ShowsByView l bank pair outcome
shows-by_view l bank pair (Depth bids asks) sender within shows = λ h S T others offers session sound sound' stands alike is.
    books-alike h S T bank pair bids asks others offers session sound sound' (omega (arith, sender, stands.banks))
    (omega (arith, within, pairs_of h l stands.weights)) alike (shows h S session sound stands) is
shows-by_view l bank pair outcome sender within shows = tt

pub shows-truly : (l : FlatState) (bank pair : ℕ) (outcome : Outcome) → bank < l.credit.banks → pair < length l.weights → ShowsEach l bank pair outcome → ShowsTruly l bank pair outcome
shows-truly l bank pair (Depth bids asks) sender within shows = λ h S session sound stands.
    books-truthful h S bank pair bids asks session sound (omega (arith, sender, stands.banks))
    (omega (arith, within, pairs_of h l stands.weights)) (shows h S session sound stands)
shows-truly l bank pair outcome sender within shows = tt
