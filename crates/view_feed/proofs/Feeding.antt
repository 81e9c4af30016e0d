-- What the feed's calls do to its parts.
use Rattle.std.proofs.Common.{ℕ, ◌≡◌, ◌+◌, ◌<◌, ◌^◌, List, [], ◌∷◌, ◌++◌, length, map, fold, Global, refl, ap, sym, subst, ◌∙◌, arith, append_assoc, append-nil, length-append}
use Rattle.std.specs.Prelude.{IfOk, OnErr}
use Rattle.std.specs.declared.result.Result.{Result}
use Rattle.std.specs.declared.result.Result.TheVariants.{Ok, Err}
use Rattle.std.specs.Arc.{arc_value}
use Rattle.std.specs.declared.sync.Arc.{Arc}
use Rattle.std.proofs.lemmas.List.{map-append}
use Rattle.fx_rules.specs.declared.outcome.Entry.{Entry}
use Rattle.fx_rules.specs.Session.{Header, IsSession}
use Rattle.fx_rules.specs.History.{IsLegal}
use Rattle.view_feed.specs.declared.operation.Operation.{Operation}
use Rattle.view_feed.specs.declared.operation.Operation.TheVariants.{Add, Mark}
use Rattle.view_feed.specs.declared.rule.View.{View}
use Rattle.view_feed.specs.Feeds.{Stretch, Feeding}
use Rattle.view_feed.specs.inside.Shown.{Exhibit, IsOf, with_operation, added}
use Rattle.view_feed.specs.inside.Faces.{IsFeed}
use Rattle.view_feed.specs.inside.Rule.{knower}
use Rattle.view_feed.proofs.Counts.{few_entries}
use Rattle.logbook.specs.Pages.{Book}

pub added-append : (xs ys : List Operation) → added (xs ++ ys) ≡ added xs ++ added ys
added-append [] ys = refl
added-append (Add e ∷ xs) ys = ap (λ es. arc_value e ∷ es) (added-append xs ys)
added-append (Mark front ∷ xs) ys = added-append xs ys

-- what operations with a mark at their end make of a market that is shown
pub marked_at_end : (x : Exhibit) (operations : List Operation) (front : Stretch) → fold with_operation x (operations ++ Mark front ∷ []) ≡ record { session = x.session; entries = x.entries ++ added operations; tape = front.tape; marked = front.entries }
marked_at_end x [] front = ap (λ es. record { session = x.session; entries = es; tape = front.tape; marked = front.entries }) (sym (append-nil x.entries))
marked_at_end x (Add e ∷ operations) front =
    marked_at_end (with_operation x (Add e)) operations front
    ∙ ap (λ es. record { session = x.session; entries = es; tape = front.tape; marked = front.entries }) (append_assoc x.entries (arc_value e ∷ []) (added operations))
marked_at_end x (Mark f ∷ operations) front = marked_at_end (with_operation x (Mark f)) operations front

-- ---- the feed's invariant

-- an entry is appended
pub appended : (x y : Exhibit) (v w : View) (pending more waiting longer : List Entry) (tape : Stretch) (e : Entry) → IsFeed x v pending tape waiting → IsLegal x.session (x.entries ++ pending ++ e ∷ [])
    → y ≡ x → w ≡ v → more ≡ pending ++ e ∷ [] → longer ≡ waiting ++ e ∷ [] → IsFeed y w more tape longer
appended x y v w pending more waiting longer tape e is legal y_is w_is more_is longer_is =
    let grown : IsFeed x v (pending ++ e ∷ []) tape (waiting ++ e ∷ []) = record {
      shows = is.shows;
      knows = is.knows;
      legal = subst (IsLegal x.session) (append_assoc x.entries pending (e ∷ [])) legal;
      told = sym (append_assoc tape.entries waiting (e ∷ [])) ∙ ap (λ es. es ++ e ∷ []) is.told ∙ append_assoc x.entries pending (e ∷ []);
    } in
    subst (λ (z : Exhibit). IsFeed z w more tape longer) (sym y_is)
    (subst (λ (u : View). IsFeed x u more tape longer) (sym w_is)
    (subst (λ (es : List Entry). IsFeed x v es tape longer) (sym more_is)
    (subst (λ (es : List Entry). IsFeed x v (pending ++ e ∷ []) tape es) (sym longer_is) grown)))

-- an entry that waits for the copies
pub added_one : (operations : List Operation) (entry : Arc Entry Global) (e : Entry) → arc_value entry ≡ e → added (operations ++ Add entry ∷ []) ≡ added operations ++ e ∷ []
added_one operations entry e is = added-append operations (Add entry ∷ []) ∙ ap (λ (d : Entry). added operations ++ d ∷ []) is

-- and one that waits for the tape
pub waits_one : (waiting : List (Arc Entry Global)) (entry : Arc Entry Global) (e : Entry) → arc_value entry ≡ e → map arc_value (waiting ++ entry ∷ []) ≡ map arc_value waiting ++ e ∷ []
waits_one waiting entry e is = map-append arc_value waiting (entry ∷ []) ∙ ap (λ (d : Entry). map arc_value waiting ++ d ∷ []) is

-- there are numbers for all entries
pub room : (x : Exhibit) (v : View) (pending waiting : List Entry) (tape : Stretch) → IsFeed x v pending tape waiting → length tape.entries + length waiting < 2 ^ 64
room x v pending waiting tape is =
    omega (arith, few_entries x.session (x.entries ++ pending) is.legal, ap (λ es. length es) is.told, length-append tape.entries waiting)

-- the tape has all that was appended
abbrev pub all_of : Stretch → List Entry → Stretch
all_of tape waiting = record { tape = tape.tape; entries = tape.entries ++ waiting }

pub caught_up : (x : Exhibit) (v : View) (pending waiting : List Entry) (tape : Stretch) → IsFeed x v pending tape waiting → IsFeed x v pending (all_of tape waiting) []
caught_up x v pending waiting tape is = record {
  shows = is.shows;
  knows = is.knows;
  legal = is.legal;
  told = append-nil (tape.entries ++ waiting) ∙ is.told;
}

-- what is shown then, with the mark of all of it
pub ready : (x : Exhibit) (v : View) (operations more : List Operation) (all : Stretch) → IsFeed x v (added operations) all [] → more ≡ operations ++ Mark all ∷ [] → IsOf x.session x.tape (fold with_operation x more)
ready x v operations more all is more_is = subst (IsOf x.session x.tape) (sym (ap (fold with_operation x) more_is ∙ marked_at_end x operations all)) (record {
  session = refl;
  tape = sym is.shows.tape;
  marked = sym (append-nil all.entries) ∙ is.told;
  legal = is.legal;
})

pub is_marked : (x y : Exhibit) (operations more : List Operation) (all : Stretch) → more ≡ operations ++ Mark all ∷ [] → y ≡ fold with_operation x more → y ≡ record { session = x.session; entries = x.entries ++ added operations; tape = all.tape; marked = all.entries }
is_marked x y operations more all more_is y_is = y_is ∙ ap (fold with_operation x) more_is ∙ marked_at_end x operations all

pub published : (x y : Exhibit) (v w : View) (operations : List Operation) (all : Stretch) → IsFeed x v (added operations) all [] → y ≡ record { session = x.session; entries = x.entries ++ added operations; tape = all.tape; marked = all.entries } → w ≡ knower x.session x.tape → IsFeed y w [] all []
published x y v w operations all is y_is w_is =
    let its : IsFeed (record { session = x.session; entries = x.entries ++ added operations; tape = all.tape; marked = all.entries }) w [] all [] = record {
      shows = record { session = refl; tape = refl; marked = sym (append-nil all.entries) ∙ is.told; legal = is.legal };
      knows = w_is ∙ ap (λ (b : Book). knower x.session b) is.shows.tape;
      legal = subst (IsLegal x.session) (sym (append-nil (x.entries ++ added operations))) is.legal;
      told = is.told ∙ sym (append-nil (x.entries ++ added operations));
    } in
    subst (λ (z : Exhibit). IsFeed z w [] all []) (sym y_is) its

-- a mark alone adds nothing
pub marked : (operations more : List Operation) (all : Stretch) → more ≡ operations ++ Mark all ∷ [] → added more ≡ added operations
marked operations more all more_is = ap added more_is ∙ added-append operations (Mark all ∷ []) ∙ append-nil (added operations)

pub unmarked : (x y : Exhibit) (v w : View) (pending more : List Entry) (all : Stretch) → IsFeed x v pending all [] → y ≡ x → w ≡ v → more ≡ pending → IsFeed y w more all []
unmarked x y v w pending more all is y_is w_is more_is =
    subst (λ (z : Exhibit). IsFeed z w more all []) (sym y_is)
    (subst (λ (u : View). IsFeed x u more all []) (sym w_is)
    (subst (λ (es : List Entry). IsFeed x v es all []) (sym more_is) is))

-- ---- what contracts see of it

abbrev pub feeding : Exhibit → Book → ℕ → List Entry → Feeding
feeding x tape readers pending = record { session = x.session; tape = tape; readers = readers; published = x.entries; pending = pending }

pub same_feeding : (x y : Exhibit) (tape : Book) (readers : ℕ) (pending more : List Entry) → y ≡ x → more ≡ pending → feeding y tape readers more ≡ feeding x tape readers pending
same_feeding x y tape readers pending more x_is more_is = cc (x_is, more_is)

pub on_err : {T E : Type 0} (r : Result T E) (X : Type 0) → X → OnErr r X
on_err (Ok _) X it = tt
on_err (Err _) X it = it

-- what holds at `Ok`
pub at_ok : {T E : Type 0} (r : Result T E) (value : T) (P : T → Type 0) → r ≡ Ok value → IfOk r P → P value
at_ok r value P is holds = subst (λ q. IfOk q P) is holds

-- ---- a feed as it opens

pub opened_feed : (h : Header) (tape : Stretch) (x y : Exhibit) (v : View) (pending waiting : List Entry) → IsSession h → tape.entries ≡ []
    → x ≡ record { session = h; entries = []; tape = tape.tape; marked = tape.entries } → y ≡ x → pending ≡ [] → waiting ≡ [] → v ≡ knower x.session tape.tape → IsFeed y v pending tape waiting
opened_feed h tape x y v pending waiting session empty x_is y_is none none_waits knows =
    let z : Exhibit = record { session = h; entries = []; tape = tape.tape; marked = tape.entries } in
    let opens : IsFeed z (knower h tape.tape) [] tape [] = record {
      shows = record { session = refl; tape = refl; marked = empty; legal = record { session = session; steps = tt } };
      knows = refl;
      legal = record { session = session; steps = tt };
      told = ap (λ (es : List Entry). es ++ []) empty;
    } in
    subst (λ (q : Exhibit). IsFeed q v pending tape waiting) (sym (y_is ∙ x_is))
    (subst (λ (u : View). IsFeed z u pending tape waiting) (sym (knows ∙ ap (λ (q : Exhibit). knower q.session tape.tape) x_is))
    (subst (λ (es : List Entry). IsFeed z (knower h tape.tape) es tape waiting) (sym none)
    (subst (λ (es : List Entry). IsFeed z (knower h tape.tape) [] tape es) (sym none_waits) opens)))
