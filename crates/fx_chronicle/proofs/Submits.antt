-- What a submit owes, from the history that it made.
use Rattle.std.proofs.Common.{ℕ, ◌≡◌, ◌+◌, List, [], ◌∷◌, ◌++◌, length, Result, Ok, Err, OnErr, ap, subst, ◌∙◌}
use mathlib.Core.List.{IsPrefix}
use Rattle.fx_rules.specs.declared.command.Command.{Command}
use Rattle.fx_rules.specs.declared.command.Command.TheVariants.{Line, Total, Book}
use Rattle.fx_rules.specs.declared.outcome.Outcome.{Outcome}
use Rattle.fx_rules.specs.declared.outcome.Outcome.TheVariants.{LineSet, TotalSet, Depth}
use Rattle.fx_rules.specs.declared.outcome.Entry.{Entry}
use Rattle.fx_rules.specs.Session.{Header}
use Rattle.fx_rules.specs.History.{IsStep, IsLegal, state, own}
use Rattle.fx_rules.proofs.Soundness.{legal-sound}
use Rattle.fx_rules.proofs.Uncrossed.{legal-uncrossed}
use Rattle.fx_rules.proofs.Continuing.{legal-last}
use Rattle.fx_rules.proofs.ViewCommands.{views-told, books-alike}
use Rattle.fx_rules.proofs.ViewRaise.{views-fill, views-fill-total}
use Rattle.fx_rules.proofs.Truth.{books-truthful}
use Rattle.fx_chronicle.specs.Submitting.{next_own, IsToldByView, IsShownByView, IsFilledByView, IsTruthfulBook, Submitted, Refused}
use Rattle.fx_chronicle.proofs.Orderly.{legal-orderly}

module _ (h : Header) (before : List Entry) (bank number : ℕ) where
  entry : Command → Outcome → Entry
  entry command outcome = record { bank = bank; number = number; command = command; outcome = outcome }

  abbrev Steps_on : Command → Outcome → Type 0
  Steps_on command outcome = IsLegal h before × IsStep h (state h before) (record { bank = bank; number = number; command = command; outcome = outcome })

  told-by_view : (command : Command) (outcome : Outcome) → Steps_on command outcome → IsToldByView h before bank command outcome
  told-by_view command outcome on others other legal same bank_is is =
      views-told h (state h before) (state h others) bank command outcome other on.0.session
      (legal-sound h before on.0) (legal-sound h others legal) bank_is on.1.command same on.1.outcome is

  shown-by_view : IsLegal h before → IsShownByView h before bank
  shown-by_view legal others pair bids asks bids' asks' other same bank_is pair_is one two =
      books-alike h (state h before) (state h others) bank pair bids asks bids' asks' legal.session
      (legal-sound h before legal) (legal-sound h others other) bank_is pair_is same one two

  filled-by_view : (command : Command) (outcome : Outcome) → Steps_on command outcome → IsFilledByView h before bank command outcome
  filled-by_view (Line other asked) (LineSet limit fills) on = λ others theirs legal same is.
      views-fill h (state h before) (state h others) bank other asked limit fills theirs on.0.session
      (legal-sound h before on.0) (legal-sound h others legal) (legal-uncrossed h before on.0) (legal-uncrossed h others legal)
      on.1.command same on.1.outcome is
  filled-by_view (Total asked) (TotalSet most fills) on = λ others theirs legal same is.
      views-fill-total h (state h before) (state h others) bank asked most fills theirs on.0.session
      (legal-sound h before on.0) (legal-sound h others legal) (legal-uncrossed h before on.0) (legal-uncrossed h others legal)
      on.1.command same on.1.outcome is
  filled-by_view _ _ on = tt

  truthful-book : (command : Command) (outcome : Outcome) → Steps_on command outcome → IsTruthfulBook h before bank command outcome
  truthful-book (Book pair) (Depth bids asks) on =
      books-truthful h (state h before) bank pair bids asks on.0.session (legal-sound h before on.0) on.1.command.sends on.1.command.values on.1.outcome
  truthful-book _ _ on = tt

pub submits : (h : Header) (bank : ℕ) (seen mine : List Entry) (command : Command) (seen' mine' : List Entry) (outcome : Outcome) (before : List Entry)
    → IsPrefix seen before → seen' ≡ before ++ next_own bank mine command outcome ∷ [] → IsLegal h seen'
    → mine' ≡ mine ++ next_own bank mine command outcome ∷ [] → own bank seen' ≡ mine'
    → Submitted h bank seen mine command seen' mine' outcome
submits h bank seen mine command seen' mine' outcome before begins ends legal grew owns =
    let on = legal-last h before (next_own bank mine command outcome) (subst (IsLegal h) ends legal) in
    record {
      before = before;
      begins = begins;
      ends = ends;
      legal = legal;
      mine_grew = grew;
      own_are_mine = owns;
      orderly = legal-orderly h seen' legal;
      told_by_view = told-by_view h before bank (length mine + 1) command outcome on;
      shown_by_view = shown-by_view h before bank (length mine + 1) on.0;
      filled_by_view = filled-by_view h before bank (length mine + 1) command outcome on;
      truthful = truthful-book h before bank (length mine + 1) command outcome on;
    }

-- where a pass stays, the history has nothing of the call
pub refused : (h : Header) (bank : ℕ) (seen mine seen' mine' : List Entry) → seen' ≡ seen → mine' ≡ mine → Refused h bank seen mine seen' mine'
refused h bank seen mine seen' mine' nothing_seen nothing_sent = record {
  nothing_seen = nothing_seen;
  nothing_sent = nothing_sent;
  not_before_next = λ command seen'' mine'' outcome next.
      next.own_are_mine ∙ next.mine_grew ∙ ap (λ (es : List Entry). es ++ next_own bank es command outcome ∷ []) nothing_sent;
  not_at_close = λ history whole. whole.own_are_mine ∙ nothing_sent;
}

-- so of any desk whose pass stays where its answer is an error
pub refuses : {P T E : Type 0} (h : Header) (bank : P → ℕ) (seen mine : P → List Entry) (pass pass' : P) (r : Result T E) → OnErr r (pass' ≡ pass)
    → OnErr r (Refused h (bank pass) (seen pass) (mine pass) (seen pass') (mine pass'))
refuses h bank seen mine pass pass' (Ok answer) stays = tt
refuses h bank seen mine pass pass' (Err fault) stays = refused h (bank pass) (seen pass) (mine pass) (seen pass') (mine pass') (ap seen stays) (ap mine stays)
