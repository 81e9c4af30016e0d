-- Lines of looks: one more, and the same of a history that goes on.
use Rattle.std.proofs.Common.{ℕ, ◌≡◌, ◌+◌, ◌≤◌, ◌<◌, List, [], ◌∷◌, ◌++◌, length, take, refl, ap, ap₂, sym, ◌∙◌, subst, arith, append_assoc, append-nil, length-append}
use Rattle.std.specs.List.{flat_map}
use Rattle.std.specs.Prelude.{◌%◌}
use Rattle.std.proofs.lemmas.List.{map-append, take_all, take-append-le}
use Rattle.std.proofs.lemmas.List.Concat.{flat_map-append}
use mathlib.Core.List.{IsPrefix}
use Rattle.fx_rules.specs.declared.command.Sent.{Sent}
use Rattle.fx_rules.specs.declared.outcome.Entry.{Entry}
use Rattle.fx_rules.specs.declared.outcome.Outcome.{Outcome}
use Rattle.fx_rules.specs.declared.outcome.Outcome.TheVariants.{Depth}
use Rattle.fx_rules.specs.Depth.{IsDepth}
use Rattle.fx_rules.specs.History.{state}
use Rattle.fx_rules.specs.Lists.{Each}
use Rattle.fx_rules.specs.Market.{IsDepthOf}
use Rattle.fx_rules.specs.Session.{Header, pair_count}
use Rattle.fx_rules.specs.State.{State}
use Rattle.fx_rules.proofs.ListLemmas.{Each-append, Each-weaker, EachPair-push}
use Rattle.fx_chronicle.proofs.Prefixes.{prefix_length}
use Rattle.view_feed.specs.Feeds.{Reading}
use Rattle.watched_run.specs.Looks.{Due, Look, IsLookAt, Shows, look_line, due_at, pair_due, rounds_due}
use Rattle.watched_run.specs.Watched.{AreRounds}
use Rattle.watched_run.specs.inside.Watching.{HasSeen, book_of}

-- a beginning of a history is one of all that goes on from it
take-longer : (count : ℕ) (history more : List Entry) → IsPrefix history more → count ≤ length history → take count history ≡ take count more
take-longer count history more begins within = sym (take-append-le count history begins.0 within) ∙ ap (take count) begins.1

at-longer : (h : Header) (history more : List Entry) → IsPrefix history more → (look : Look) → IsLookAt h history look → IsLookAt h more look
at-longer h history more begins look is =
    let longer : length history ≤ length more = prefix_length history more begins in
    record {
      known = is.known;
      within = omega (arith, is.within, longer);
      book = subst (λ (es : List Entry). IsDepth h (state h es) look.due.bank look.due.pair look.book.bids look.book.asks) (take-longer look.count history more begins is.within) is.book;
    }

-- the same lines show looks at a history that goes on
pub shows-longer : (h : Header) (dues : List Due) (history more : List Entry) (lines : List ℕ) → IsPrefix history more → Shows h dues history lines → Shows h dues more lines
shows-longer h dues history more lines begins shows = record {
  looks = shows.looks;
  in_order = shows.in_order;
  each = Each-weaker (IsLookAt h history) (IsLookAt h more) (at-longer h history more begins) shows.looks shows.each;
  never_back = shows.never_back;
  exactly = shows.exactly;
}

pub shows-none : (h : Header) (history : List Entry) → Shows h [] history []
shows-none h history = record { looks = []; in_order = refl; each = tt; never_back = tt; exactly = refl }

-- one look more, behind the whole history
pub shows-push : (h : Header) (dues : List Due) (history : List Entry) (lines : List ℕ) (look : Look) → Shows h dues history lines → IsLookAt h history look → look.count ≡ length history
    → Shows h (dues ++ look.due ∷ []) history (lines ++ look_line h look)
shows-push h dues history lines look shows is whole = record {
  looks = shows.looks ++ look ∷ [];
  in_order = map-append (λ (l : Look). l.due) shows.looks (look ∷ []) ∙ ap (λ (ds : List Due). ds ++ look.due ∷ []) shows.in_order;
  each = Each-append (IsLookAt h history) shows.looks (look ∷ []) shows.each (is, tt);
  never_back =
      EachPair-push (λ (one later : Look). one.count ≤ later.count) shows.looks look shows.never_back
      (Each-weaker (IsLookAt h history) (λ (l : Look). l.count ≤ look.count) (λ l at. let within : l.count ≤ length history = at.within in omega arith) shows.looks shows.each);
  exactly =
      ap (λ (t : List ℕ). t ++ look_line h look) shows.exactly
      ∙ sym (flat_map-append (look_line h) shows.looks (look ∷ []) ∙ ap (λ (t : List ℕ). flat_map (look_line h) shows.looks ++ t) (append-nil (look_line h look)));
}

depth_of : (bank pair : ℕ) (book : Outcome) (h : Header) (S : State) → IsDepthOf bank pair book h S → IsDepth h S bank pair (book_of book).bids (book_of book).asks
depth_of bank pair (Depth bids asks) h S is = is
depth_of bank pair _ h S is = absurd is

-- a reader saw a book, and its line is there
pub shows-seen : (h : Header) (bank pair count : ℕ) (book : Outcome) (was now : Reading) (lines lines' : List ℕ) → HasSeen bank pair was now count book → now.session ≡ h
    → lines' ≡ lines ++ look_line h (record { due = due_at 0 pair bank; count = count; book = book_of book }) → (dues : List Due) (known : ℕ) → known ≤ length was.known → Shows h dues was.seen lines → Shows h (dues ++ due_at known pair bank ∷ []) now.seen lines'
shows-seen h bank pair count book was now lines lines' seen same line dues known least shows =
    let look : Look = record { due = due_at known pair bank; count = count; book = book_of book } in
    let longer : length was.known ≤ length now.seen = prefix_length was.known now.seen seen.from_known in
    let found : IsDepth h (state h now.seen) bank pair (book_of book).bids (book_of book).asks =
    subst (λ (g : Header). IsDepth g (state g now.seen) bank pair (book_of book).bids (book_of book).asks) same (depth_of bank pair book now.session (state now.session now.seen) seen.depth) in
    let all : take count now.seen ≡ now.seen = take_all count now.seen (omega (arith, seen.counted)) in
    let is : IsLookAt h now.seen look = record {
      known = omega (arith, seen.counted);
      within = omega (arith, seen.counted);
      book = subst (λ (es : List Entry). IsDepth h (state h es) bank pair (book_of book).bids (book_of book).asks) (sym all) found;
    } in
    subst (Shows h (dues ++ due_at known pair bank ∷ []) now.seen) (sym line) (shows-push h dues now.seen lines look (shows-longer h dues was.seen now.seen lines seen.from_seen shows) is seen.counted)

-- ---- rounds

-- the commands of rounds, and how many these are
abbrev pub commands : List (List Sent) → List Sent
commands rounds = flat_map (λ round. round) rounds

-- where the reader is to look after one round more
pub rounds_due-more : (h : Header) (number before : ℕ) (rounds : List (List Sent)) (round : List Sent)
    → rounds_due h number before (rounds ++ round ∷ []) ≡ rounds_due h number before rounds ++ pair_due h (before + length (commands rounds)) ((number + length rounds) % pair_count h)
rounds_due-more h number before [] round =
    append-nil (pair_due h before (number % pair_count h))
    ∙ ap₂ (λ (k n : ℕ). pair_due h k (n % pair_count h)) (omega arith) (omega arith)
rounds_due-more h number before (first ∷ rounds) round =
    let front : List Due = pair_due h before (number % pair_count h) in
    let rest : List Due = rounds_due h (number + 1) (before + length first) rounds in
    ap (λ (ds : List Due). front ++ ds)
    (rounds_due-more h (number + 1) (before + length first) rounds round
    ∙ ap₂ (λ (k n : ℕ). rest ++ pair_due h k (n % pair_count h)) (omega (arith, length-append first (commands rounds))) (omega arith))
    ∙ sym (append_assoc front rest _)

pub are-rounds-more : (sent round : List Sent) (rounds : List (List Sent)) → AreRounds sent rounds → 0 < length round → AreRounds (sent ++ round) (rounds ++ round ∷ [])
are-rounds-more sent round rounds are some = record {
  joined =
      ap (λ (ss : List Sent). ss ++ round) are.joined
      ∙ sym (flat_map-append (λ (r : List Sent). r) rounds (round ∷ []) ∙ ap (λ (ss : List Sent). commands rounds ++ ss) (append-nil round));
  some = Each-append (λ (r : List Sent). 0 < length r) rounds (round ∷ []) are.some (some, tt);
}

few-here : (rounds : List (List Sent)) → Each (λ (r : List Sent). 0 < length r) rounds → length rounds ≤ length (commands rounds)
few-here [] some = omega arith
few-here (first ∷ rounds) some =
    let less : length rounds ≤ length (commands rounds) = few-here rounds some.1 in
    omega (arith, some.0, length-append first (commands rounds))

-- there are no more rounds than commands
pub few-rounds : (sent : List Sent) (rounds : List (List Sent)) → AreRounds sent rounds → length rounds ≤ length sent
few-rounds sent rounds are = omega (arith, few-here rounds are.some, ap (λ (ss : List Sent). length ss) are.joined)
