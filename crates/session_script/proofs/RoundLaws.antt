-- What was read round by round: it can be served, and there is less to read each time.
use Rattle.std.proofs.Common.{◌≡◌, ℕ, suc, ◌+◌, ◌-◌, ◌^◌, ◌<◌, ◌≤◌, List, [], ◌∷◌, ◌++◌, length, Option, Some, None, refl, sym, ◌∙◌, subst, arith, length-append}
use Rattle.fx_rules.specs.declared.command.Sent.{Sent}
use Rattle.fx_rules.specs.Lists.{Each}
use Rattle.fx_rules.specs.Session.{Header}
use Rattle.fx_rules.specs.Sending.{IsSentOf}
use Rattle.session_script.specs.Input.{input_limit}
use Rattle.session_script.specs.Stage.{session_at}
use Rattle.session_script.specs.Rounds.{HasReadBehind, TookPromptlyBehind}
use Rattle.session_script.specs.declared.ends.TextEnd.{TextEnd}
use Rattle.session_script.specs.declared.reading.Reading.{Reading}

Each-back : {X : Type 0} (P : X → Type 0) (xs ys : List X) → Each P (xs ++ ys) → Each P ys
Each-back P [] ys each = each
Each-back P (x ∷ xs) ys each = Each-back P xs ys each.1

-- the commands of a round may be sent, and are few
pub round_valid : (h : Header) (served sent : List Sent) → Each (IsSentOf h) (served ++ sent) → Each (IsSentOf h) sent
round_valid h served sent each = Each-back (IsSentOf h) served sent each

pub round_few : {front : List ℕ} {S : Type 0} {left : S → Option (List ℕ)} {faults : S → ℕ} {a b : S} {reading : Reading} {h : Header} (served sent : List Sent) → HasReadBehind front left faults a b reading h (served ++ sent) → length served + length sent < 2 ^ 32
round_few served sent has = omega (arith, has.says.few, has.within, length-append served sent)

pub promptly : {front : List ℕ} {S : Type 0} {left : S → Option (List ℕ)} {faults : S → ℕ} {a b : S} {reading : Reading} {h : Header} {all : List Sent} → HasReadBehind front left faults a b reading h all → TookPromptlyBehind front left faults a b
promptly has = record { input = has.input; took = has.took; within = has.within; prompt = has.prompt }

some_header : (g h : Header) → Some g ≡ Some h → g ≡ h
some_header g h same = cc

-- the session of a reading
pub same_session : {front : List ℕ} {S : Type 0} {left : S → Option (List ℕ)} {faults : S → ℕ} {a b : S} {reading : Reading} {h : Header} {all : List Sent} (g : Header) → HasReadBehind front left faults a b reading h all → session_at reading.intake.stage ≡ Some g → g ≡ h
same_session {h = h} g has is = some_header g h (sym is ∙ has.session)

-- the session of a reading, or one without banks where it has none yet
abbrev pub header_or_none : Option Header → Header
header_or_none None = record { version = 1; banks = []; pairs = []; limits = []; totals = [] }
header_or_none (Some h) = h

pub header_same : (session : Option Header) (h : Header) → session ≡ Some h → h ≡ header_or_none session
header_same None h is = absurd cc
header_same (Some g) h is = some_header h g (sym is)

-- what was read, by the session that the reading has
pub read_here : {front : List ℕ} {S : Type 0} {left : S → Option (List ℕ)} {faults : S → ℕ} {a b : S} {reading : Reading} {h : Header} {all : List Sent} → HasReadBehind front left faults a b reading h all
    → HasReadBehind front left faults a b reading (header_or_none (session_at reading.intake.stage)) all
read_here {front = front} {left = left} {faults = faults} {a = a} {b = b} {reading = reading} {h = h} {all = all} has =
    subst (λ (g : Header). HasReadBehind front left faults a b reading g all) (header_same (session_at reading.intake.stage) h has.session) has

-- how many rounds there may be still
abbrev pub to_read : Option TextEnd → ℕ → ℕ
to_read None taken = suc (input_limit - taken)
to_read (Some end) taken = 0

pub less_to_read : (end end' : Option TextEnd) (was now : ℕ) → end ≡ None → (end' ≡ None → was < now) → now ≤ input_limit → to_read end' now < to_read end was
less_to_read None None was now goes_on further within = omega (arith, further refl, within)
less_to_read None (Some later) was now goes_on further within = omega arith
less_to_read (Some end) end' was now goes_on further within = absurd cc

pub taken_within : {front : List ℕ} {S : Type 0} {left : S → Option (List ℕ)} {faults : S → ℕ} {a b : S} {reading : Reading} {h : Header} {all : List Sent} → HasReadBehind front left faults a b reading h all → reading.intake.taken ≤ input_limit
taken_within has = omega (arith, has.taken, has.within)
