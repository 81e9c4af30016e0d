-- A market that is shown goes on by an entry, or stays where no legal history goes on by it.
use Rattle.std.proofs.Common.{ℕ, ◌≡◌, ◌<◌, ◌+◌, ◌^◌, List, [], ◌∷◌, ◌++◌, ap, refl, sym, subst, ◌∙◌, arith}
use Rattle.fx_rules.specs.declared.outcome.Entry.{Entry}
use Rattle.fx_rules.specs.declared.outcome.Outcome.{Outcome}
use Rattle.fx_rules.specs.Session.{Header, IsSession, bank_count, pair_count}
use Rattle.fx_rules.specs.State.{opening, count_of}
use Rattle.fx_rules.specs.Step.{IsCommand}
use Rattle.fx_rules.specs.History.{IsLegal, state}
use Rattle.fx_rules.specs.Market.{InSome, MayAsk, MaySend, InEach, HasSent, GoesOn, next_entry}
use Rattle.fx_rules.proofs.Continuing.{legal-last, next-same}
use Rattle.pair_host.specs.Standing.{HostState, StandsFor, stands}
use Rattle.view_feed.specs.inside.Shown.{IsShown}

-- a host as a session opens
pub opens : (h : Header) (host : HostState) → IsSession h → StandsFor h (opening h) host → IsShown host.table.session [] host
opens h host session stood = subst (λ (k : Header). IsShown k [] host) (sym stood.credit.session)
    (record { history = []; legal = record { session = session; steps = tt }; stood = stood; whole = λ _. refl })

pub may_send : (h : Header) (entries : List Entry) (e : Entry) (host : HostState) (count : ℕ) → IsShown h entries host → IsCommand h e.bank e.command → InEach (stands host) (HasSent e.bank count) → count + 1 < 2 ^ 32 → InSome (stands host) (MaySend e.bank e.command)
may_send h entries e host count shown command counted few =
    let is : count_of (state h shown.history) e.bank ≡ count = counted h shown.history shown.legal shown.stood in
    let number : count_of (state h shown.history) e.bank + 1 < 2 ^ 32 = subst (λ (n : ℕ). n + 1 < 2 ^ 32) (sym is) few in
    (h, shown.history, shown.legal, shown.stood, record { allowed = command; number = number })

pub may_ask : (h : Header) (entries : List Entry) (host : HostState) (bank pair : ℕ) → IsShown h entries host → bank < bank_count h → pair < pair_count h → InSome (stands host) (MayAsk bank pair)
may_ask h entries host bank pair shown viewer within = (h, shown.history, shown.legal, shown.stood, record { viewer = viewer; within = within })

pub taken : (h : Header) (entries : List Entry) (e : Entry) (host new : HostState) (outcome : Outcome) → IsShown h entries host → GoesOn (stands host) (stands new) e.bank e.command outcome → IsShown h (entries ++ e ∷ []) new
taken h entries e host new outcome shown goes =
    let next = goes h shown.history shown.legal shown.stood in
    let made : Entry = next_entry (state h shown.history) e.bank e.command outcome in
    record {
      history = shown.history ++ made ∷ [];
      legal = next.0;
      stood = next.1;
      whole = λ legal.
          let is : shown.history ≡ entries = shown.whole (legal-last h entries e legal).0 in
          let same : made ≡ e = next-same h entries made e (subst (λ es. IsLegal h (es ++ made ∷ [])) is next.0) legal refl refl in
          ap (λ es. es ++ made ∷ []) is ∙ ap (λ d. entries ++ d ∷ []) same;
    }

pub stays : (h : Header) (entries : List Entry) (e : Entry) (host : HostState) → IsShown h entries host → ¬ (IsLegal h (entries ++ e ∷ [])) → IsShown h (entries ++ e ∷ []) host
stays h entries e host shown none = record { history = shown.history; legal = shown.legal; stood = shown.stood; whole = λ legal. absurd (none legal) }

pub not_taken : (h : Header) (entries : List Entry) (e : Entry) → ¬ (IsCommand h e.bank e.command) → ¬ (IsLegal h (entries ++ e ∷ []))
not_taken h entries e refused legal = refused (legal-last h entries e legal).1.command

pub too_many : (h : Header) (entries : List Entry) (e : Entry) (host : HostState) (count : ℕ) → IsShown h entries host → InEach (stands host) (HasSent e.bank count) → count ≡ 4294967295 → ¬ (IsLegal h (entries ++ e ∷ []))
too_many h entries e host count shown counted most legal =
    let both = legal-last h entries e legal in
    let is : shown.history ≡ entries = shown.whole both.0 in
    let counts : count_of (state h entries) e.bank ≡ count = ap (λ es. count_of (state h es) e.bank) (sym is) ∙ counted h shown.history shown.legal shown.stood in
    let number : e.number ≡ count_of (state h entries) e.bank + 1 = both.1.number in
    let below : e.number < 2 ^ 32 = both.1.number_most in
    omega (arith, counts, most, number, below)
