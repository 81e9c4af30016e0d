-- What a screen shows, as its reader looks at one local book after another.
use Rattle.std.proofs.Common.{ℕ, ◌≡◌, ◌≤◌, List, [], ◌∷◌, ◌++◌, length, ap, sym, ◌∙◌, subst, arith, append_assoc, append-nil, length-append}
use mathlib.Core.List.{IsPrefix}
use Rattle.fx_rules.specs.declared.outcome.Entry.{Entry}
use Rattle.fx_rules.specs.declared.outcome.Outcome.{Outcome}
use Rattle.fx_rules.specs.Session.{Header}
use Rattle.fx_chronicle.proofs.Prefixes.{prefix_self, prefix_trans, prefix_length}
use Rattle.view_feed.specs.Feeds.{Reading}
use Rattle.watched_run.specs.Looks.{Due, Shows, look_line, due_at}
use Rattle.watched_run.specs.inside.Watching.{HasSeen, ShowsMore, ShowsWhole, SeesWhole, IsOfFeed, book_of}
use Rattle.watched_run.specs.declared.screen.Screen.{Screen}
use Rattle.watched_run.proofs.Looks.{shows-seen}

-- a beginning as long as the whole is the whole
prefix_same : (xs ys : List Entry) → IsPrefix xs ys → length ys ≤ length xs → xs ≡ ys
prefix_same xs ys ([], is) le = sym (append-nil xs) ∙ is
prefix_same xs ys (x ∷ rest, is) le = absurd (omega (arith, ap length is, length-append xs (x ∷ rest)))

pub of_feed-then : (was mid now : Reading) → IsOfFeed was mid → IsOfFeed mid now → IsOfFeed was now
of_feed-then was mid now first then = record { session = then.session ∙ first.session; tape = then.tape ∙ first.tape }

module _ (h : Header) where
  -- one part of what is shown, and then more
  pub more-then : (f g all : ℕ → List Due) (was mid now : Screen) → ((known : ℕ) → all known ≡ f known ++ g known) → ShowsMore h f was mid → ShowsMore h g mid now → ShowsMore h all was now
  more-then f g all was mid now joined first then = record {
    known = prefix_trans was.reader.known mid.reader.known now.reader.known first.known then.known;
    shows = λ dues known least shows.
        let longer : length was.reader.known ≤ length mid.reader.known = prefix_length was.reader.known mid.reader.known first.known in
        subst (λ (ds : List Due). Shows h ds now.reader.seen now.lines.items) (append_assoc dues (f known) (g known) ∙ ap (λ (ds : List Due). dues ++ ds) (sym (joined known)))
        (then.shows (dues ++ f known) known (omega arith) (first.shows dues known least shows));
  }

  pub whole-then : (all : ℕ) (f g both : List Due) (was mid now : Screen) → both ≡ f ++ g → ShowsWhole h all f was mid → ShowsWhole h all g mid now → ShowsWhole h all both was now
  whole-then all f g both was mid now joined first then = record {
    known = prefix_trans was.reader.known mid.reader.known now.reader.known first.known then.known;
    shows = λ dues history long begins shows.
        subst (λ (ds : List Due). Shows h ds now.reader.seen now.lines.items) (append_assoc dues f g ∙ ap (λ (ds : List Due). dues ++ ds) (sym joined))
        (then.shows (dues ++ f) history long (prefix_trans history was.reader.known mid.reader.known begins first.known) (first.shows dues history long begins shows));
  }

-- ---- looks

-- what a reader knew before another look, it knows then
pub known-behind : (bank pair count : ℕ) (book : Outcome) (first was now : Reading) → IsPrefix first.known was.known → HasSeen bank pair was now count book → IsPrefix first.known now.known
known-behind bank pair count book first was now known has =
    subst (λ (es : List Entry). IsPrefix first.known es) (sym has.knows) (prefix_trans first.known was.known now.seen known has.from_known)

module _ (h : Header) (bank pair count : ℕ) (book : Outcome) (was now : Screen) (has : HasSeen bank pair was.reader now.reader count book) (session : now.reader.session ≡ h)
    (line : now.lines.items ≡ was.lines.items ++ look_line h (record { due = due_at 0 pair bank; count = count; book = book_of book })) where
  -- a look, and its line
  pub more-seen : ShowsMore h (λ known. due_at known pair bank ∷ []) was now
  more-seen = record {
    known = known-behind bank pair count book was.reader was.reader now.reader (prefix_self was.reader.known) has;
    shows = λ dues known least shows. shows-seen h bank pair count book was.reader now.reader was.lines.items now.lines.items has session line dues known least shows;
  }

  -- one behind the whole history
  pub whole-sees : SeesWhole count was now
  whole-sees history long begins =
      sym (prefix_same history now.reader.seen (prefix_trans history was.reader.known now.reader.seen begins has.from_known) (omega (arith, has.counted, long)))

  pub whole-seen : ShowsWhole h count (due_at count pair bank ∷ []) was now
  whole-seen = record {
    known = more-seen.known;
    shows = λ dues history long begins shows.
        more-seen.shows dues count (omega (arith, prefix_length history was.reader.known begins)) shows;
  }

-- a look behind the whole history, after others
pub sees-then : (h : Header) (all : ℕ) (more : List Due) (was mid now : Screen) → ShowsWhole h all more was mid → SeesWhole all mid now → SeesWhole all was now
sees-then h all more was mid now first then history long begins = then history long (prefix_trans history was.reader.known mid.reader.known begins first.known)
