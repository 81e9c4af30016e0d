-- The sums of a day follow the market, entry by entry.
use Rattle.std.proofs.Common.{ℕ, ◌<◌, ◌≤◌, ◌+◌, ◌≡◌, List, [], ◌∷◌, ◌++◌, ap, sym, subst, ◌∙◌, arith, take, drop, length, get_or, append_assoc}
use Rattle.std.proofs.lemmas.List.{take_more, take_all, take-append-drop}
use Rattle.fx_rules.specs.declared.outcome.Entry.{Entry}
use Rattle.fx_rules.specs.declared.orders.Fill.{Fill}
use Rattle.fx_rules.specs.Lists.{Each}
use Rattle.fx_rules.specs.Session.{Header}
use Rattle.fx_rules.specs.State.{State, opening}
use Rattle.fx_rules.specs.Step.{fills_of}
use Rattle.fx_rules.specs.History.{IsLegal, state}
use Rattle.fx_rules.specs.inside.Trade.{IsTrade}
use Rattle.fx_rules.proofs.ListLemmas.{Each-first, total-append}
use Rattle.fx_rules.proofs.Soundness.{legal-sound, after_all-push}
use Rattle.fx_rules.proofs.Continuing.{legal-last}
use Rattle.fx_rules.proofs.Trading.{step-fills}
use Rattle.credit_lines.specs.Credit.{Credit, IsCredit}
use Rattle.credit_lines.specs.Market.{StandsFor, FollowsOn}
use Rattle.day_report.specs.declared.day_sums.DaySums.{DaySums}
use Rattle.day_report.specs.Trades.{lots_in}
use Rattle.day_report.specs.inside.Trades.{AreTrades}
use Rattle.day_report.specs.Sums.{AreVolumes, AreFlows, AreSumsOf}
use Rattle.day_report.specs.inside.Parts.{HasFills}
use Rattle.day_report.proofs.Trading.{legal-fits}

-- the fills before a place, the one there, and those behind
fills_at : (fills : List Fill) (k : ℕ) (f : Fill) → k < length fills → f ≡ get_or fills k f → fills ≡ (take k fills ++ f ∷ []) ++ drop (k + 1) fills
fills_at fills k f within is =
    sym (take-append-drop (k + 1) fills)
    ∙ ap (λ front. front ++ drop (k + 1) fills) (take_more fills k f within ∙ ap (λ (g : Fill). take k fills ++ g ∷ []) (sym is))

-- fills that fit, up to one of them
pub trades-at : (h : Header) (before fills : List Fill) (k : ℕ) (f : Fill) → AreTrades h (before ++ fills) → k < length fills → f ≡ get_or fills k f → AreTrades h ((before ++ take k fills) ++ f ∷ [])
trades-at h before fills k f all within is =
    let front : List Fill = (before ++ take k fills) ++ f ∷ [] in
    let rest : List Fill = drop (k + 1) fills in
    let parts : before ++ fills ≡ front ++ rest =
    ap (λ (fs : List Fill). before ++ fs) (fills_at fills k f within is)
    ∙ sym (append_assoc before (take k fills ++ f ∷ []) rest)
    ∙ ap (λ (fs : List Fill). fs ++ rest) (sym (append_assoc before (take k fills) (f ∷ []))) in
    let lots : lots_in (before ++ fills) ≡ lots_in front + lots_in rest = ap lots_in parts ∙ total-append (λ (g : Fill). g.lots) front rest in
    record {
      session = all.session;
      each = Each-first (IsTrade h) front rest (subst (Each (IsTrade h)) parts all.each);
      lots = omega (arith, all.lots, lots);
    }

-- so many fills and one more
pub one-more : (before fills : List Fill) (k : ℕ) (f : Fill) → k < length fills → f ≡ get_or fills k f → (before ++ take k fills) ++ f ∷ [] ≡ before ++ take (k + 1) fills
one-more before fills k f within is =
    append_assoc before (take k fills) (f ∷ [])
    ∙ ap (λ (fs : List Fill). before ++ fs) (ap (λ (g : Fill). take k fills ++ g ∷ []) is ∙ sym (take_more fills k f within))

pub state-fills : (h : Header) (entries : List Entry) (e : Entry) → IsLegal h (entries ++ e ∷ []) → (state h (entries ++ e ∷ [])).fills ≡ (state h entries).fills ++ fills_of e.outcome
state-fills h entries e legal = ap (λ (T : State). T.fills) (after_all-push (opening h) entries e) ∙ step-fills h (state h entries) e (legal-last h entries e legal).1

-- the fills of an entry that the sums can follow fit
pub entry-fits : (h : Header) (entries : List Entry) (e : Entry) (fills : List Fill) → IsLegal h (entries ++ e ∷ []) → fills ≡ fills_of e.outcome → AreTrades h ((state h entries).fills ++ fills)
entry-fits h entries e fills legal are =
    subst (AreTrades h) (state-fills h entries e legal ∙ ap (λ (fs : List Fill). (state h entries).fills ++ fs) (sym are)) (legal-fits h (entries ++ e ∷ []) legal)

-- the sums have followed an entry: its lines, and its fills
pub sums-followed : (h : Header) (entries : List Entry) (e : Entry) (fills : List Fill) (old new : DaySums) (lines : Credit) → IsLegal h (entries ++ e ∷ []) → AreSumsOf h (state h entries) old → IsCredit lines → FollowsOn h old.lines lines e → fills ≡ fills_of e.outcome → new.lines ≡ lines
    → HasFills h ((state h entries).fills ++ fills) new → AreSumsOf h (state h (entries ++ e ∷ [])) new
sums-followed h entries e fills old new lines legal is valid follows are same has =
    let last = legal-last h entries e legal in
    let stands : StandsFor h (state h (entries ++ e ∷ [])) lines =
    subst (λ (T : State). StandsFor h T lines) (sym (after_all-push (opening h) entries e)) (follows (state h entries) (legal-sound h entries last.0) is.lines_are last.1) in
    let all : (state h entries).fills ++ fills ≡ (state h (entries ++ e ∷ [])).fills = ap (λ (fs : List Fill). (state h entries).fills ++ fs) are ∙ sym (state-fills h entries e legal) in
    record {
      credit_is = subst IsCredit (sym same) valid;
      lines_are = subst (StandsFor h (state h (entries ++ e ∷ []))) (sym same) stands;
      volumes_are = subst (λ (fs : List Fill). AreVolumes h fs new.volumes.items) all has.volumes_are;
      flows_are = subst (λ (fs : List Fill). AreFlows h fs new.flows) all has.flows_are;
    }

-- the sums of all entries
pub whole-sums : (h : Header) (entries : List Entry) (at : ℕ) (sums : DaySums) → length entries ≤ at → AreSumsOf h (state h (take at entries)) sums → AreSumsOf h (state h entries) sums
whole-sums h entries at sums past is = subst (λ (es : List Entry). AreSumsOf h (state h es) sums) (take_all at entries past) is
