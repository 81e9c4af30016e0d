-- A legal history has fewer than 2^64 entries.
use Rattle.std.proofs.Common.{ℕ, zero, suc, ◌≡◌, ◌+◌, ◌<◌, ◌^◌, List, [], ◌∷◌, length, get_or, replicate, refl, ap, subst, sym, arith}
use Rattle.fx_rules.specs.declared.outcome.Entry.{Entry}
use Rattle.fx_rules.specs.Lists.{total}
use Rattle.fx_rules.specs.Session.{Header, IsSession, sender_places}
use Rattle.fx_rules.specs.State.{State, opening, arrivals}
use Rattle.fx_rules.specs.Step.{changed}
use Rattle.fx_rules.specs.Sound.{IsSound}
use Rattle.fx_rules.specs.History.{IsStep, Steps, IsLegal, after_entry, after_all}
use Rattle.fx_rules.proofs.Counting.{arrivals-few}
use Rattle.fx_rules.proofs.ListLemmas.{total-set}
use Rattle.fx_rules.proofs.Senders.{command-place}
use Rattle.fx_rules.proofs.Soundness.{after-sound, opening-sound}
use Rattle.fx_rules.proofs.Staying.{changed-counts}

-- an entry is one arrival more
arrives : (h : Header) (S : State) (e : Entry) → IsSession h → IsSound h S → IsStep h S e → arrivals (after_entry S e) ≡ arrivals S + 1
arrives h S e session sound step =
    let T : State = changed S e.bank e.command e.outcome in
    let counts : T.counts ≡ S.counts = changed-counts S e.bank e.command e.outcome in
    let within : e.bank < length T.counts = subst (λ (cs : List ℕ). e.bank < length cs) (sym counts) (omega (arith, command-place h e.bank e.command session step.command, sound.counts)) in
    omega (arith, total-set (λ (count : ℕ). count) T.counts e.bank (get_or T.counts e.bank 0 + 1) 0 within, ap (total (λ (count : ℕ). count)) counts)

arrive : (h : Header) (S : State) (entries : List Entry) → IsSession h → IsSound h S → Steps h S entries → arrivals (after_all S entries) ≡ arrivals S + length entries
arrive h S [] session sound steps = omega arith
arrive h S (e ∷ es) session sound steps =
    let next : IsSound h (after_entry S e) = after-sound h S e.bank e.command e.outcome session sound steps.0.command steps.0.outcome in
    omega (arith, arrives h S e session sound steps.0, arrive h (after_entry S e) es session next steps.1)

none_sent : (n : ℕ) → total (λ (count : ℕ). count) (replicate n 0) ≡ 0
none_sent zero = refl
none_sent (suc n) = omega (arith, none_sent n)

pub few_entries : (h : Header) (entries : List Entry) → IsLegal h entries → length entries < 2 ^ 64
few_entries h entries legal =
    omega (arith, arrivals-few h entries legal, arrive h (opening h) entries legal.session (opening-sound h legal.session) legal.steps, none_sent (sender_places h))
