-- What an entry does to the table.
use Rattle.std.proofs.Common.{ℕ, zero, suc, ◌≡◌, ◌+◌, ◌-◌, ◌*◌, ◌<◌, ◌≤◌, ◌^◌, ◌≢◌, List, [], ◌∷◌, length, get_or, set, replicate, Option, refl, ap, sym, subst, ◌∙◌, arith}
use Rattle.std.proofs.lemmas.List.{length-set, length-replicate}
use Rattle.fx_rules.specs.declared.command.Command.{Command}
use Rattle.fx_rules.specs.declared.command.Command.TheVariants.{Show}
use Rattle.fx_rules.specs.declared.outcome.Entry.{Entry}
use Rattle.fx_rules.specs.declared.outcome.Outcome.TheVariants.{Shown}
use Rattle.fx_rules.specs.Lists.{Each, total}
use Rattle.fx_rules.specs.Session.{Header, IsSession, bank_count, sender_places}
use Rattle.fx_rules.specs.History.{after_entry}
use Rattle.fx_rules.specs.State.{opening, used}
use Rattle.fx_rules.specs.Step.{IsCommand, IsOutcome}
use Rattle.fx_rules.proofs.Plain.{first_or_second, first-totals}
use Rattle.fx_rules.proofs.Staying.{changed-counts}
use Rattle.credit_lines.specs.Credit.{Credit, limit_in, used_in, line_in, opened}
use Rattle.credit_lines.specs.Market as lines
use Rattle.credit_lines.proofs.MarketLemmas.{StandsFor-opened, line_in-line}
use Rattle.credit_lines.specs.Table.{Table, Stands, AnswersEach, IsNextOf, FollowsOn}
use Rattle.credit_lines.specs.inside.Table.{IsTable}

-- it is the next of the lines
pub lines_next : (table : Table) (entry : Entry) → IsSession table.session → IsNextOf table entry → lines.IsNextOf table.session table.lines entry
lines_next table entry session next =
    subst (λ (h : Header). lines.IsNextOf h table.lines entry) (sym next.stands.session) (record {
      session = subst IsSession next.stands.session session;
      before = next.before;
      sound = next.sound;
      stands = next.stands.lines;
      step = next.step;
    })

-- the table with the lines that an entry leaves and one more command of its bank
pub follows : (old inside new : Table) (entry : Entry) (credit : Credit) → inside ≡ old → new ≡ record { session = inside.session; lines = credit; counts = set inside.counts entry.bank (get_or inside.counts entry.bank 0 + 1) } → lines.FollowsOn inside.session inside.lines credit entry → FollowsOn old new entry
follows old inside new entry credit old_is new_is go_on h S sound stood step =
    let stands : Stands h S inside = subst (Stands h S) (sym old_is) stood in
    let at : lines.FollowsOn h inside.lines credit entry = subst (λ (k : Header). lines.FollowsOn k inside.lines credit entry) stands.session go_on in
    subst (Stands h (after_entry S entry)) (sym new_is) (record {
      session = stands.session;
      lines = at S sound stands.lines step;
      counts = ap (λ (counts : List ℕ). set counts entry.bank (get_or counts entry.bank 0 + 1)) (stands.counts ∙ sym (changed-counts S entry.bank entry.command entry.outcome));
    })

-- ---- one more command counted

pub total-bounded : (counts : List ℕ) → Each (λ count. count < 2 ^ 32) counts → total (λ count. count) counts ≤ length counts * 2 ^ 32
total-bounded [] all = omega arith
total-bounded (c ∷ counts) all = omega (arith, all.0, total-bounded counts all.1)

each-set : (counts : List ℕ) (i n : ℕ) → n < 2 ^ 32 → Each (λ count. count < 2 ^ 32) counts → Each (λ count. count < 2 ^ 32) (set counts i n)
each-set [] i n below all = tt
each-set (c ∷ counts) zero n below all = (below, all.1)
each-set (c ∷ counts) (suc i) n below all = (all.0, each-set counts i n below all.1)

pub counted-table : (table : Table) (bank : ℕ) → IsTable table → get_or table.counts bank 0 < 2 ^ 32 - 1 → IsTable (record table { counts = set table.counts bank (get_or table.counts bank 0 + 1) })
counted-table table bank is few = record {
  session = is.session;
  banks = is.banks;
  senders = length-set table.counts bank (get_or table.counts bank 0 + 1) ∙ is.senders;
  counts = each-set table.counts bank (get_or table.counts bank 0 + 1) (omega (arith, few)) is.counts;
}

-- ---- the table as a day opens

-- a header of version 1 with the banks, the pairs and the limits of another one that is not of version 2 is the other
pub first_header : (h copy : Header) → IsSession h → h.version ≢ 2 → copy ≡ record { version = 1; banks = h.banks; pairs = h.pairs; limits = h.limits; totals = [] } → copy ≡ h
first_header h copy session other is =
    let first : h.version ≡ 1 = first_or_second h.version session.version_least session.version_most other in
    is
    ∙ ap (λ (version : ℕ). record h { version = version; totals = [] }) (sym first)
    ∙ ap (λ (totals : List (Option ℕ)). record h { totals = totals }) (sym (first-totals h session first))

total-none : (n : ℕ) → total (λ count. count) (replicate n 0) ≡ 0
total-none zero = refl
total-none (suc n) = omega (arith, total-none n)

each-none : (n : ℕ) → Each (λ count. count < 2 ^ 32) (replicate n 0)
each-none zero = tt
each-none (suc n) = (omega arith, each-none n)

pub opens : (h session : Header) (credit : Credit) (counts : List ℕ) (places : ℕ) → IsSession h → session ≡ h → credit ≡ opened h → counts ≡ replicate places 0 → places ≡ sender_places h → IsTable (record { session = session; lines = credit; counts = counts })
opens h session credit counts places valid session_is credit_is counts_are places_are =
    subst (λ (k : Header). IsTable (record { session = k; lines = credit; counts = counts })) (sym session_is) (record {
      session = valid;
      banks = ap (λ (c : Credit). c.banks) credit_is;
      senders = ap length counts_are ∙ length-replicate places 0 ∙ places_are;
      counts = subst (Each (λ count. count < 2 ^ 32)) (sym counts_are) (each-none places);
    })

pub none_sent : (counts : List ℕ) (places : ℕ) → counts ≡ replicate places 0 → 0 ≡ total (λ count. count) counts
none_sent counts places counts_are = sym (ap (total (λ count. count)) counts_are ∙ total-none places)

pub opening_stands : (h : Header) (table : Table) (places : ℕ) → table.session ≡ h → table.lines ≡ opened h → table.counts ≡ replicate places 0 → places ≡ sender_places h → Stands h (opening h) table
opening_stands h table places session_is lines_are counts_are places_are = record {
  session = session_is;
  lines = subst (lines.StandsFor h (opening h)) (sym lines_are) (StandsFor-opened h);
  counts = counts_are ∙ ap (λ n. replicate n 0) places_are;
}

-- what a show command tells, as it is read off the lines, is the market's answer
pub shown-answers : (table now : Table) (bank other : ℕ) (command : Command) (limit uses eff : ℕ) → table ≡ now → command ≡ Show other → IsCommand now.session bank command
    → limit ≡ limit_in table.lines bank other → uses ≡ used_in table.lines bank other → eff ≡ line_in table.lines bank other → AnswersEach now bank command (Shown limit uses eff)
shown-answers table now bank other command limit uses eff same is valid limit_is uses_is eff_is h S stands =
    let shows : IsCommand h bank (Show other) = subst (λ (k : Header). IsCommand k bank (Show other)) stands.session (subst (IsCommand now.session bank) is valid) in
    let p : bank < bank_count h = shows.sends in
    let q : other < bank_count h = shows.values.0 in
    let differ : bank ≢ other = λ own. shows.values.1 (sym own) in
    let its : lines.StandsFor h S table.lines = subst (λ (t : Table). lines.StandsFor h S t.lines) (sym same) stands.lines in
    subst (λ (c : Command). IsOutcome h S bank c (Shown limit uses eff)) (sym is)
    (ap (λ l. Shown l uses eff) (limit_is ∙ its.limits bank other p q differ)
    ∙ ap (λ u. Shown (S.limits bank other) u eff) (uses_is ∙ its.uses bank other p q differ)
    ∙ ap (Shown (S.limits bank other) (used h S bank other)) (eff_is ∙ line_in-line h S table.lines bank other its p q differ))
