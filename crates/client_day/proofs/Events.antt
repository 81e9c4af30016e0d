-- What comes of what is asked for, as there is more of it.
use Rattle.std.proofs.Common.{ℕ, suc, ◌≡◌, ◌+◌, ◌≤◌, ◌<◌, ◌&&◌, eqb, Bool, true, false, List, [], ◌∷◌, ◌++◌, length, refl, ap, sym, subst, ◌∙◌, arith, append_assoc, append-nil, length-append, Some, None, inl, inr}
use Rattle.std.proofs.lemmas.Bool.{cases_Bool, cond-true, cond-false}
use Rattle.fx_rules.specs.Lists.{Each}
use Rattle.fx_rules.specs.Session.{Header}
use Rattle.client_desk.specs.Clients.{Tagged, IsTagOf, bank_of_client, entries_of, owner_in}
use Rattle.client_desk.specs.declared.client.Client.{Client}
use Rattle.client_desk.specs.declared.line.ClientLine.{ClientLine}
use Rattle.client_desk.specs.declared.line.ClientLine.TheVariants.{Declares, Of, Plain}
use Rattle.client_desk.specs.Lines.{client_line_of}
use Rattle.session_script.specs.Heard.{Heard}
use Rattle.session_script.specs.Heard.Heard.{Command as HeardCommand, Stray as HeardStray}
use Rattle.client_day.specs.Events.{Event, AreAnswered, IsAnswered, tagged_in}
use Rattle.client_day.specs.Events.Event.{Refused, Entered}
use Rattle.client_day.specs.Notes.{event_notes, notes_behind}
use Rattle.client_day.specs.Script.{ClientScript, asked_for, client_script, declared_while, has_asked, no_script, script_behind, with_heard, with_line}

-- ---- the script

pub script-push : (h : Header) (script : ClientScript) (heard : List Heard) (next : Heard) → script_behind h script (heard ++ next ∷ []) ≡ with_heard h (script_behind h script heard) next
script-push h script [] next = refl
script-push h script (x ∷ heard) next = script-push h (with_heard h script x) heard next

declared-few : (b : Bool) (script : ClientScript) (client : Client) → length (declared_while b script client).asked + (declared_while b script client).strays ≤ length script.asked + script.strays + 1
declared-few true script client = omega arith
declared-few false script client = omega arith

line-few : (script : ClientScript) (line : ClientLine) → length (with_line script line).asked + (with_line script line).strays ≤ length script.asked + script.strays + 1
line-few script (Declares client) = declared-few (has_asked script.asked) script client
line-few script (Of c command) = omega (arith, length-append script.asked (asked_for (Some c) (bank_of_client script.clients c) command ∷ []))
line-few script (Plain said) = omega arith

heard-few : (h : Header) (script : ClientScript) (heard : Heard) → length (with_heard h script heard).asked + (with_heard h script heard).strays ≤ length script.asked + script.strays + 1
heard-few h script (HeardCommand sent) = omega (arith, length-append script.asked (asked_for None sent.bank sent.command ∷ []))
heard-few h script (HeardStray line) = line-few script (client_line_of h script.clients line)

script-few : (h : Header) (script : ClientScript) (heard : List Heard) → length (script_behind h script heard).asked + (script_behind h script heard).strays ≤ length script.asked + script.strays + length heard
script-few h script [] = omega arith
script-few h script (x ∷ heard) = omega (arith, script-few h (with_heard h script x) heard, heard-few h script x)

-- no more is asked for than is heard, and there are no more strays
pub client_script-few : (h : Header) (heard : List Heard) → length (client_script h heard).asked + (client_script h heard).strays ≤ length heard
client_script-few h heard = omega (arith, script-few h no_script heard)

-- ---- events

one-tagged : (event : Event) (events : List Event) → tagged_in (event ∷ events) ≡ tagged_in (event ∷ []) ++ tagged_in events
one-tagged (Refused c asks answer) events = refl
one-tagged (Entered t) events = refl

pub tagged-append : (xs ys : List Event) → tagged_in (xs ++ ys) ≡ tagged_in xs ++ tagged_in ys
tagged-append [] ys = refl
tagged-append (x ∷ xs) ys =
    one-tagged x (xs ++ ys) ∙ ap (λ ts. tagged_in (x ∷ []) ++ ts) (tagged-append xs ys) ∙ sym (append_assoc (tagged_in (x ∷ [])) (tagged_in xs) (tagged_in ys)) ∙ ap (λ ts. ts ++ tagged_in ys) (sym (one-tagged x xs))

tagged-few : (events : List Event) → length (tagged_in events) ≤ length events
tagged-few [] = omega arith
tagged-few (Refused c asks answer ∷ events) = omega (arith, tagged-few events)
tagged-few (Entered t ∷ events) = omega (arith, tagged-few events)

length-entries : (tagged : List Tagged) → length (entries_of tagged) ≡ length tagged
length-entries [] = refl
length-entries (t ∷ tagged) = ap suc (length-entries tagged)

-- the history has no more entries than there are events
pub entries-few : (events : List Event) → length (entries_of (tagged_in events)) ≤ length events
entries-few events = omega (arith, length-entries (tagged_in events), tagged-few events)

pub entries-push : (tagged : List Tagged) (t : Tagged) → entries_of (tagged ++ t ∷ []) ≡ entries_of tagged ++ t.entry ∷ []
entries-push [] t = refl
entries-push (x ∷ tagged) t = ap (λ es. x.entry ∷ es) (entries-push tagged t)

-- what is behind those of an event and some more
behind-two : (before : List Tagged) (event : Event) (events : List Event) → (before ++ tagged_in (event ∷ [])) ++ tagged_in events ≡ before ++ tagged_in (event ∷ events)
behind-two before event events = append_assoc before (tagged_in (event ∷ [])) (tagged_in events) ∙ ap (λ ts. before ++ ts) (sym (one-tagged event events))

pub answered-push : (h : Header) (clients : List Client) (before : List Tagged) (events : List Event) (event : Event) → AreAnswered h clients before events → IsAnswered h clients (before ++ tagged_in events) event → AreAnswered h clients before (events ++ event ∷ [])
answered-push h clients before [] event are is = (subst (λ ts. IsAnswered h clients ts event) (append-nil before) is, tt)
answered-push h clients before (x ∷ events) event are is =
    (are.0, answered-push h clients (before ++ tagged_in (x ∷ [])) events event are.1 (subst (λ ts. IsAnswered h clients ts event) (sym (behind-two before x events)) is))

pub notes-push : (before : List Tagged) (c : ℕ) (events : List Event) (event : Event) → notes_behind before c (events ++ event ∷ []) ≡ notes_behind before c events ++ event_notes (before ++ tagged_in events) c event
notes-push before c [] event = append-nil (event_notes before c event) ∙ ap (λ ts. event_notes ts c event) (sym (append-nil before))
notes-push before c (x ∷ events) event =
    ap (λ ns. event_notes before c x ++ ns) (notes-push (before ++ tagged_in (x ∷ [])) c events event)
    ∙ sym (append_assoc (event_notes before c x) (notes_behind (before ++ tagged_in (x ∷ [])) c events) (event_notes ((before ++ tagged_in (x ∷ [])) ++ tagged_in events) c event))
    ∙ ap (λ ts. (event_notes before c x ++ notes_behind (before ++ tagged_in (x ∷ [])) c events) ++ event_notes ts c event) (behind-two before x events)

-- ---- owners

-- an entry has this bank and number
abbrev is_named : Tagged → ℕ → ℕ → Bool
is_named t bank number = eqb t.entry.bank bank && eqb t.entry.number number

-- an owner is one of the clients
pub owner-within : (clients : List Client) (tagged : List Tagged) (bank number c : ℕ) → Each (IsTagOf clients) tagged → owner_in tagged bank number ≡ Some c → c < length clients
owner-within clients [] bank number c tags is = absurd cc
owner-within clients (t ∷ tagged) bank number c tags is = elim (cases_Bool (is_named t bank number)) [
  | inl here ↦ (tags.0 c (sym (cond-true (is_named t bank number) t.who (owner_in tagged bank number) here) ∙ is)).0
  | inr there ↦ owner-within clients tagged bank number c tags.1 (sym (cond-false (is_named t bank number) t.who (owner_in tagged bank number) there) ∙ is)
]
