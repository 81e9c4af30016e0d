-- What is heard round by round is served.
use Rattle.std.proofs.Common.{ℕ, suc, drop, ◌≡◌, ◌+◌, ◌^◌, ◌<◌, List, [], ◌∷◌, ◌++◌, length, take, get_or, Option, Some, Result, Ok, Err, ap, sym, subst, ◌∙◌, arith, append_assoc, length-append}
use Rattle.std.proofs.Math.Seq.{drop-cons}
use Rattle.std.proofs.lemmas.Grind.{take_at_read}
use Rattle.std.specs.Prelude.{IsErrAnd}
use Rattle.fx_amounts.specs.declared.memory.Memory.{Memory}
use Rattle.fx_rules.specs.Lists.{Each}
use Rattle.fx_rules.specs.Session.{Header}
use Rattle.fx_text.specs.declared.line.Line.TheVariants.{Whole}
use Rattle.session_script.specs.Heard.{IsHeardOf}
use Rattle.session_script.specs.Heard.Heard.{Stray as HeardStray}
use Rattle.session_script.specs.Rounds.{HasHeard}
use Rattle.session_script.specs.Stage.{heard_at, sent_at, session_at}
use Rattle.session_script.specs.Heard.{Heard}
use Rattle.session_script.specs.declared.reading.Reading.{Reading}
use Rattle.session_script.proofs.RoundLaws.{same_session}
use Rattle.client_day.specs.Days.{IsDayOf}
use Rattle.client_day.specs.inside.Rounds.{IsServing}
use Rattle.client_day.specs.declared.day.ClientDay.{ClientDay}

-- out of memory
pub for_memory : {T : Type 0} (result : Result T Memory) (why : Memory → Type 0) (P : Result T Memory → Type 0) → IsErrAnd result why → ((memory : Memory) → P (Err memory)) → P result
for_memory (Ok end) why P is then = absurd is
for_memory (Err memory) why P is then = then memory

Each-back : {X : Type 0} (P : X → Type 0) (xs ys : List X) → Each P (xs ++ ys) → Each P ys
Each-back P [] ys each = each
Each-back P (x ∷ xs) ys each = Each-back P xs ys each.1

-- those behind the line at a place
pub Each-next : (P : Heard → Type 0) (heard : List Heard) (i : ℕ) → i < length heard → Each P (drop i heard) → Each P (drop (i + 1) heard)
Each-next P heard i within all =
    let next : suc i ≡ i + 1 = omega arith in
    subst (λ n. Each P (drop n heard)) next (subst (Each P) (drop-cons heard i (HeardStray (Whole [])) within) all).1

-- one line more
pub one-more : (before heard : List Heard) (i : ℕ) (x : Heard) → i < length heard → x ≡ get_or heard i x → (before ++ take i heard) ++ x ∷ [] ≡ before ++ take (i + 1) heard
one-more before heard i x within is =
    append_assoc before (take i heard) (x ∷ []) ∙ ap (λ (all : List Heard). before ++ all) (sym ((take_at_read heard i x within).1 ∙ ap (λ (h : Heard). take i heard ++ h ∷ []) (sym is)))

module _ {S : Type 0} {left : S → Option (List ℕ)} {faults : S → ℕ} {a b : S} {reading : Reading} {h : Header} {day : ClientDay} where
  -- what a round heard can be served
  pub next-day : (session : Header) (heard : List Heard) → IsServing left faults a b reading h day → session_at reading.intake.stage ≡ Some session → heard ≡ heard_at reading.intake.stage
      → (before : List Heard) × IsDayOf session before day × (length before + length heard < 2 ^ 32)
  next-day session heard serving session_is is =
      let same : session ≡ h = same_session session serving.has_heard.has_read session_is in (
        serving.heard,
        subst (λ (g : Header). IsDayOf g serving.heard day) (sym same) serving.served,
        omega (arith, serving.has_heard.few, serving.has_heard.has_read.within, length-append serving.heard (heard_at reading.intake.stage), ap length is),
      )

  pub next-valid : (session : Header) (heard : List Heard) → IsServing left faults a b reading h day → session_at reading.intake.stage ≡ Some session → heard ≡ heard_at reading.intake.stage → Each (IsHeardOf session) heard
  next-valid session heard serving session_is is =
      subst (λ (g : Header). Each (IsHeardOf g) heard) (sym (same_session session serving.has_heard.has_read session_is))
      (subst (Each (IsHeardOf h)) (sym is) (Each-back (IsHeardOf h) serving.heard (heard_at reading.intake.stage) serving.has_heard.valid))

  -- and then it is
  pub round-served : (session : Header) (heard : List Heard) (now : ClientDay) (serving : IsServing left faults a b reading h day) → session_at reading.intake.stage ≡ Some session → heard ≡ heard_at reading.intake.stage
      → ((before : List Heard) → IsDayOf session before day → IsDayOf session (before ++ heard) now) → IsDayOf h (serving.heard ++ heard_at reading.intake.stage) now
  round-served session heard now serving session_is is took =
      let same : session ≡ h = same_session session serving.has_heard.has_read session_is in
      subst (λ (lines : List Heard). IsDayOf h (serving.heard ++ lines) now) is
      (subst (λ (g : Header). IsDayOf g (serving.heard ++ heard) now) same (took serving.heard (subst (λ (g : Header). IsDayOf g serving.heard day) (sym same) serving.served)))

-- before the first round is served
pub serving-open : {S : Type 0} {left : S → Option (List ℕ)} {faults : S → ℕ} {a b : S} {reading : Reading} {h : Header} {day : ClientDay} (session : Header) → HasHeard left faults a b reading h (sent_at reading.intake.stage) (heard_at reading.intake.stage)
    → session_at reading.intake.stage ≡ Some session → IsDayOf session [] day → IsServing left faults a b reading h day
serving-open {day = day} session has session_is opens = record {
  sent = [];
  heard = [];
  has_heard = has;
  served = subst (λ (g : Header). IsDayOf g [] day) (same_session session has.has_read session_is) opens;
}
