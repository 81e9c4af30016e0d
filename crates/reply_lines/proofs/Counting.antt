-- What the counts of a telling stand for, and how far they reach.
use Rattle.std.proofs.Common.{ℕ, zero, suc, ◌≡◌, ◌≢◌, ◌+◌, ◌*◌, ◌≤◌, ◌<◌, ◌^◌, eqb, List, [], ◌∷◌, ◌++◌, inl, inr, length, take, drop, get_or, refl, ap, ap₂, sym, subst, ◌∙◌, arith, append_assoc, append-nil, add-one, length-append, flat_map, Result, Ok, Err, OnOk, OnErr}
use Rattle.std.proofs.Math.Seq.{drop-cons}
use Rattle.std.proofs.lemmas.Bool.{cases_eq, eq-eqb, ne_eqb}
use Rattle.std.proofs.lemmas.List.{get_or-set_same, get_or-set_other, length-set}
use Rattle.fx_edges.specs.Writing.{IsPrefixOf}
use Rattle.fx_edges.proofs.Writing.{IsPrefixOf-trans}
use Rattle.fx_rules.specs.declared.orders.Fill.{Fill}
use Rattle.fx_rules.specs.declared.outcome.Entry.{Entry}
use Rattle.fx_rules.specs.History.{IsLegal, IsStep, Steps, after_all, after_entry, own, state}
use Rattle.fx_rules.specs.Lists.{Each, total}
use Rattle.fx_rules.specs.Session.{Header, IsSession, bank_count, sender_places}
use Rattle.fx_rules.specs.Sound.{IsSound}
use Rattle.fx_rules.specs.State.{State, opening}
use Rattle.fx_rules.specs.Step.{fills_of}
use Rattle.fx_rules.proofs.Counting.{arrivals-few, counts-own}
use Rattle.fx_rules.proofs.Senders.{command-place}
use Rattle.fx_rules.proofs.ListLemmas.{Each-append, Each-first, filter_cons_true, filter_cons_false}
use Rattle.fx_rules.proofs.Soundness.{after-sound, opening-sound}
use Rattle.fx_rules.proofs.Trading.{step-fills}
use Rattle.day_report.proofs.Bounds.{all-fit}
use Rattle.day_report.proofs.Trading.{legal-fits}
use Rattle.order_lines.specs.Words.{sender_name}
use Rattle.reply_lines.specs.Notices.{notice_line}
use Rattle.reply_lines.specs.Notices.Notice.{Replied, Took, Gave}
use Rattle.reply_lines.specs.Prints.{IsFillOf}
use Rattle.reply_lines.specs.Telling.{Addressed, HasCounted, addressed, addressed_in, addressed_to, count_to, fill_addressed, numbered, told_line}
use Rattle.reply_lines.specs.inside.Prints.{IsEntryOf}
use Rattle.reply_lines.specs.declared.notices.FillPart.{FillPart}
use Rattle.reply_lines.specs.declared.notices.FillPart.TheVariants.{Taker, Maker}
use Rattle.reply_lines.specs.inside.Telling.{bank_of, CanCount, HasTold, counts_behind, lines_behind, next_of, with_one}
use Rattle.reply_lines.proofs.Items.{flat_more}
use Rattle.reply_lines.proofs.Printable.{step-prints}
use Rattle.reply_lines.proofs.Placing.{banks-placed}
use Rattle.reply_lines.proofs.ToldTexts.{addressed-append, count_to-append, count-elsewhere, count-here, count-notices}

-- each notice is to a sender that has a count
abbrev HaveCounts : List Addressed → List ℕ → Type 0
HaveCounts more counts = Each (λ (a : Addressed). a.sender < length counts) more

-- ---- one notice more

length-one : (counts : List ℕ) (sender : ℕ) → length (with_one counts sender) ≡ length counts
length-one counts sender = length-set counts sender (next_of counts sender)

one-same : (counts : List ℕ) (sender : ℕ) → sender < length counts → get_or (with_one counts sender) sender 0 ≡ get_or counts sender 0 + 1
one-same counts sender within = get_or-set_same counts sender (next_of counts sender) 0 within

one-other : (counts : List ℕ) (sender other : ℕ) → other ≢ sender → get_or (with_one counts sender) other 0 ≡ get_or counts other 0
one-other counts sender other differ = get_or-set_other counts sender other (next_of counts sender) 0 differ

-- by a notice its sender's count rises by one, and no other
one-count : (counts : List ℕ) (a : Addressed) (sender : ℕ) → a.sender < length counts → get_or (with_one counts a.sender) sender 0 ≡ get_or counts sender 0 + count_to sender (a ∷ [])
one-count counts a sender within =
    elim (cases_eq sender a.sender) [
      | inl same ↦ subst (λ s. get_or (with_one counts a.sender) s 0 ≡ get_or counts s 0 + count_to s (a ∷ [])) (sym same)
          (one-same counts a.sender within ∙ ap (λ n. get_or counts a.sender 0 + n) (sym (count-here a)))
      | inr differ ↦ omega (arith, one-other counts a.sender sender differ, count-elsewhere sender a (λ same. differ (sym same)))
    ]

have-more : (counts : List ℕ) (sender : ℕ) (more : List Addressed) → HaveCounts more counts → HaveCounts more (with_one counts sender)
have-more counts sender more have = subst (λ n. Each (λ (a : Addressed). a.sender < n) more) (sym (length-one counts sender)) have

-- ---- further notices

pub length-behind : (counts : List ℕ) (more : List Addressed) → length (counts_behind counts more) ≡ length counts
length-behind counts [] = refl
length-behind counts (a ∷ more) = length-behind (with_one counts a.sender) more ∙ length-one counts a.sender

behind-append : (counts : List ℕ) (xs ys : List Addressed) → counts_behind counts (xs ++ ys) ≡ counts_behind (counts_behind counts xs) ys
behind-append counts [] ys = refl
behind-append counts (a ∷ xs) ys = behind-append (with_one counts a.sender) xs ys

lines-append : (h : Header) (counts : List ℕ) (xs ys : List Addressed) → lines_behind h counts (xs ++ ys) ≡ lines_behind h counts xs ++ lines_behind h (counts_behind counts xs) ys
lines-append h counts [] ys = refl
lines-append h counts (a ∷ xs) ys =
    let line : List ℕ = told_line h (record { sender = a.sender; number = next_of counts a.sender; notice = a.notice }) in
    ap (λ (rest : List ℕ). line ++ rest) (lines-append h (with_one counts a.sender) xs ys)
    ∙ sym (append_assoc line (lines_behind h (with_one counts a.sender) xs) (lines_behind h (counts_behind (with_one counts a.sender) xs) ys))

-- ---- there is room for them

-- the sender of the next notice has a count, which can rise
pub can-next : {counts : List ℕ} {more : List Addressed} (a : Addressed) → CanCount (a ∷ more) counts → (a.sender < length counts) × (next_of counts a.sender < 2 ^ 128)
can-next {counts} {more} a can =
    (can.senders.0, omega (arith, can.few a.sender can.senders.0, count_to-append a.sender (a ∷ []) more, count-here a))

pub can-behind_one : {counts : List ℕ} (a : Addressed) (more : List Addressed) → CanCount (a ∷ more) counts → CanCount more (with_one counts a.sender)
can-behind_one {counts} a more can = record {
  senders = have-more counts a.sender more can.senders.1;
  few = λ sender within.
      let before : sender < length counts = omega (arith, within, length-one counts a.sender) in
      omega (arith, can.few sender before, one-count counts a sender can.senders.0, count_to-append sender (a ∷ []) more);
}

pub can-first : {counts : List ℕ} (xs ys : List Addressed) → CanCount (xs ++ ys) counts → CanCount xs counts
can-first {counts} xs ys can = record {
  senders = Each-first (λ (a : Addressed). a.sender < length counts) xs ys can.senders;
  few = λ sender within. omega (arith, can.few sender within, count_to-append sender xs ys);
}

pub can-behind : {counts : List ℕ} (xs ys : List Addressed) → CanCount (xs ++ ys) counts → CanCount ys (counts_behind counts xs)
can-behind {counts = counts} [] ys can = can
can-behind {counts = counts} (a ∷ xs) ys can = can-behind {counts = with_one counts a.sender} xs ys (can-behind_one a (xs ++ ys) can)

-- ---- the steps of the code

-- nothing is told yet
pub told-none : (h : Header) (counts text : List ℕ) → HasTold h [] counts counts text text
told-none h counts text = record { counted = refl; lines = sym (append-nil text) }

-- one notice is told: behind a text its sender's name and a space, and then its line
pub told-one : (h : Header) (a : Addressed) {counts counts' : List ℕ} (number : ℕ) {text name named text' : List ℕ} → number ≡ next_of counts a.sender → counts' ≡ with_one counts a.sender → name ≡ sender_name h a.sender
    → named ≡ text ++ (name ++ 32 ∷ []) → text' ≡ named ++ notice_line h number a.notice → HasTold h (a ∷ []) counts counts' text text'
told-one h a {counts} number {text} {name} {named} numbers counted is begun put = record {
  counted = counted;
  lines = put ∙ ap₂ (λ (front : List ℕ) (n : ℕ). front ++ notice_line h n a.notice) (begun ∙ ap (λ (its : List ℕ). text ++ (its ++ 32 ∷ [])) is) numbers
      ∙ append_assoc text (sender_name h a.sender ++ 32 ∷ []) (notice_line h (next_of counts a.sender) a.notice)
      ∙ ap (λ (all : List ℕ). text ++ all) (append_assoc (sender_name h a.sender) (32 ∷ []) (notice_line h (next_of counts a.sender) a.notice) ∙ sym (append-nil _));
}

-- a fill's two banks are the session's
pub part-within : (h : Header) (part : FillPart) (fill : Fill) → IsFillOf h fill → bank_of part fill < bank_count h
part-within h Taker fill is = is.taker
part-within h Maker fill is = is.maker

-- some are told, and then others
pub told-then : (h : Header) (xs ys : List Addressed) {c0 c1 c2 t0 t1 t2 : List ℕ} → HasTold h xs c0 c1 t0 t1 → HasTold h ys c1 c2 t1 t2 → HasTold h (xs ++ ys) c0 c2 t0 t2
told-then h xs ys {c0 = c0} {t0 = t0} one other = record {
  counted = other.counted ∙ ap (λ (cs : List ℕ). counts_behind cs ys) one.counted ∙ sym (behind-append c0 xs ys);
  lines = other.lines
      ∙ ap₂ (λ (text cs : List ℕ). text ++ lines_behind h cs ys) one.lines one.counted
      ∙ append_assoc t0 (lines_behind h c0 xs) (lines_behind h (counts_behind c0 xs) ys)
      ∙ ap (λ (all : List ℕ). t0 ++ all) (sym (lines-append h c0 xs ys));
}

-- what is told was put behind the text
pub told-begins : {h : Header} {more : List Addressed} {counts counts' text text' : List ℕ} → HasTold h more counts counts' text text' → IsPrefixOf text text'
told-begins {h = h} {more = more} {counts = counts} has = record { rest = lines_behind h counts more; joined = has.lines }

-- a text that something was put behind, or nothing, begins as it did
pub begins-put : {T E : Type 0} (result : Result T E) (line : List ℕ) {first before after : List ℕ} → OnOk result (after ≡ before ++ line) → OnErr result (after ≡ before) → IsPrefixOf first before → IsPrefixOf first after
begins-put (Ok value) line put kept begins = IsPrefixOf-trans begins (record { rest = line; joined = put })
begins-put (Err e) line {first = first} put kept begins = subst (λ (text : List ℕ). IsPrefixOf first text) (sym kept) begins

-- ---- a loop's turns

module _ {X : Type 0} (f : X → List Addressed) (xs : List X) (i : ℕ) (x : X) (within : i < length xs) (is : x ≡ get_or xs i x) where
  -- what is left, and the next of it
  left : flat_map f (drop i xs) ≡ f x ++ flat_map f (drop (i + 1) xs)
  left =
      ap (flat_map f) (drop-cons xs i x within)
      ∙ ap (λ (y : X). f y ++ flat_map f (drop (suc i) xs)) (sym is)
      ∙ ap (λ n. f x ++ flat_map f (drop n xs)) (sym (add-one i))

  pub can-turn : {counts : List ℕ} → CanCount (flat_map f (drop i xs)) counts → CanCount (f x) counts
  can-turn {counts} can = can-first (f x) (flat_map f (drop (i + 1) xs)) (subst (λ (all : List Addressed). CanCount all counts) left can)

  pub can-more : {counts counts' : List ℕ} → counts' ≡ counts_behind counts (f x) → CanCount (flat_map f (drop i xs)) counts → CanCount (flat_map f (drop (i + 1) xs)) counts'
  can-more {counts} counted can =
      subst (λ (cs : List ℕ). CanCount (flat_map f (drop (i + 1) xs)) cs) (sym counted)
      (can-behind (f x) (flat_map f (drop (i + 1) xs)) (subst (λ (all : List Addressed). CanCount all counts) left can))

  pub counted-more : (first counts counts' : List ℕ) → counts ≡ counts_behind first (flat_map f (take i xs)) → counts' ≡ counts_behind counts (f x) → counts' ≡ counts_behind first (flat_map f (take (i + 1) xs))
  counted-more first counts counts' before counted =
      counted ∙ ap (λ (cs : List ℕ). counts_behind cs (f x)) before ∙ sym (behind-append first (flat_map f (take i xs)) (f x))
      ∙ ap (counts_behind first) (sym (flat_more f xs i x within is))

  pub told-more : (h : Header) {c0 c1 c2 t0 t1 t2 : List ℕ} → HasTold h (flat_map f (take i xs)) c0 c1 t0 t1 → HasTold h (f x) c1 c2 t1 t2 → HasTold h (flat_map f (take (i + 1) xs)) c0 c2 t0 t2
  told-more h {c0} {c1} {c2} {t0} {t1} {t2} before one =
      subst (λ (all : List Addressed). HasTold h all c0 c2 t0 t2) (sym (flat_more f xs i x within is)) (told-then h (flat_map f (take i xs)) (f x) before one)

-- ---- what the counts stand for

-- each count is the number of the notices that its sender got
record AreCounts (all : List Addressed) (counts : List ℕ) : Type 0 where
  each : (sender : ℕ) → sender < length counts → get_or counts sender 0 ≡ count_to sender all

counts-one : (all : List Addressed) (counts : List ℕ) (a : Addressed) → a.sender < length counts → AreCounts all counts → AreCounts (all ++ a ∷ []) (with_one counts a.sender)
counts-one all counts a place are = record {
  each = λ sender within.
      let before : sender < length counts = omega (arith, within, length-one counts a.sender) in
      omega (arith, one-count counts a sender place, are.each sender before, count_to-append sender all (a ∷ []));
}

counts-more : (all : List Addressed) (counts : List ℕ) (more : List Addressed) → HaveCounts more counts → AreCounts all counts → AreCounts (all ++ more) (counts_behind counts more)
counts-more all counts [] have are = subst (λ (xs : List Addressed). AreCounts xs counts) (sym (append-nil all)) are
counts-more all counts (a ∷ more) have are =
    subst (λ (xs : List Addressed). AreCounts xs (counts_behind counts (a ∷ more))) (append_assoc all (a ∷ []) more)
    (counts-more (all ++ a ∷ []) (with_one counts a.sender) more (have-more counts a.sender more have.1) (counts-one all counts a have.0 are))

lines-told : (h : Header) (all : List Addressed) (counts : List ℕ) (more : List Addressed) → HaveCounts more counts → AreCounts all counts → lines_behind h counts more ≡ flat_map (told_line h) (numbered all more)
lines-told h all counts [] have are = refl
lines-told h all counts (a ∷ more) have are =
    ap₂ (λ (n : ℕ) (rest : List ℕ). told_line h (record { sender = a.sender; number = n + 1; notice = a.notice }) ++ rest) (are.each a.sender have.0)
    (lines-told h (all ++ a ∷ []) (with_one counts a.sender) more (have-more counts a.sender more have.1) (counts-one all counts a have.0 are))

counts-of : {h : Header} (entries : List Entry) {counts : List ℕ} → HasCounted h entries counts → AreCounts (addressed entries) counts
counts-of entries has = record { each = λ sender within. has.each sender (omega (arith, within, has.places)) ∙ sym (count-notices sender entries) }

pub counted-behind : (h : Header) (before more : List Entry) (counts counts' : List ℕ) → HaveCounts (addressed more) counts → counts' ≡ counts_behind counts (addressed more) → HasCounted h before counts → HasCounted h (before ++ more) counts'
counted-behind h before more counts counts' have is has =
    let long : length counts' ≡ length counts = ap length is ∙ length-behind counts (addressed more) in
    let are : AreCounts (addressed before ++ addressed more) (counts_behind counts (addressed more)) = counts-more (addressed before) counts (addressed more) have (counts-of before has) in
    record {
      places = long ∙ has.places;
      each = λ sender within.
          ap (λ (cs : List ℕ). get_or cs sender 0) is
          ∙ are.each sender (omega (arith, within, has.places, length-behind counts (addressed more)))
          ∙ ap (count_to sender) (sym (addressed-append before more)) ∙ count-notices sender (before ++ more);
    }

-- the lines that were told are those of the entries
pub lines-behind : (h : Header) (before more : List Entry) (counts : List ℕ) → HaveCounts (addressed more) counts → HasCounted h before counts → lines_behind h counts (addressed more) ≡ flat_map (told_line h) (numbered (addressed before) (addressed more))
lines-behind h before more counts have has = lines-told h (addressed before) counts (addressed more) have (counts-of before has)

-- ---- the entries of a legal history

steps-print : (h : Header) (S : State) (entries : List Entry) → IsSession h → IsSound h S → Steps h S entries → Each (IsEntryOf h) entries
steps-print h S [] session sound steps = tt
steps-print h S (e ∷ entries) session sound steps =
    let step : IsStep h S e = steps.0 in (
      step-prints h S e session sound step,
      steps-print h (after_entry S e) entries session (after-sound h S e.bank e.command e.outcome session sound step.command step.outcome) steps.1,
    )

Each-last : {X : Type 0} (P : X → Type 0) (xs ys : List X) → Each P (xs ++ ys) → Each P ys
Each-last P [] ys all = all
Each-last P (x ∷ xs) ys all = Each-last P xs ys all.1

-- each of a legal history's next entries can be printed
pub next-print : (h : Header) (before more : List Entry) → IsLegal h (before ++ more) → Each (IsEntryOf h) more
next-print h before more legal =
    Each-last (IsEntryOf h) before more (steps-print h (opening h) (before ++ more) legal.session (opening-sound h legal.session) legal.steps)

fills-have : (h : Header) (counts : List ℕ) (fills : List Fill) → bank_count h ≤ length counts → Each (IsFillOf h) fills → HaveCounts (flat_map fill_addressed fills) counts
fills-have h counts [] banks are = tt
fills-have h counts (fill ∷ fills) banks are =
    let taker : fill.taker < length counts = omega (arith, banks, are.0.taker) in
    let maker : fill.maker < length counts = omega (arith, banks, are.0.maker) in
    (taker, (maker, fills-have h counts fills banks are.1))

entries-have : (h : Header) (counts : List ℕ) (entries : List Entry) → IsSession h → length counts ≡ sender_places h → Each (IsEntryOf h) entries → HaveCounts (addressed entries) counts
entries-have h counts [] session places are = tt
entries-have h counts (e ∷ entries) session places are =
    let sender : e.bank < length counts = omega (arith, places, command-place h e.bank e.command session are.0.command) in
    let banks : bank_count h ≤ length counts = omega (arith, places, banks-placed h session) in
    Each-append (λ (a : Addressed). a.sender < length counts) (addressed_in e) (addressed entries) (sender, fills-have h counts (fills_of e.outcome) banks are.0.fills)
    (entries-have h counts entries session places are.1)

-- ---- how many notices there are

-- a notice is one for its sender at most
count-most : (sender : ℕ) (a : Addressed) → count_to sender (a ∷ []) ≤ 1
count-most sender a =
    elim (cases_eq a.sender sender) [
      | inl same ↦ omega (arith, subst (λ s. count_to s (a ∷ []) ≡ 1) same (count-here a))
      | inr differ ↦ omega (arith, count-elsewhere sender a differ)
    ]

-- a sender gets two of a fill at most
count-fills : (sender : ℕ) (fills : List Fill) → count_to sender (flat_map fill_addressed fills) ≤ 2 * length fills
count-fills sender [] = omega arith
count-fills sender (fill ∷ fills) =
    omega (
      arith,
      count_to-append sender (addressed_to fill.taker (Took fill) ∷ []) (addressed_to fill.maker (Gave fill) ∷ flat_map fill_addressed fills),
      count_to-append sender (addressed_to fill.maker (Gave fill) ∷ []) (flat_map fill_addressed fills),
      count-most sender (addressed_to fill.taker (Took fill)),
      count-most sender (addressed_to fill.maker (Gave fill)),
      count-fills sender fills,
    )

-- and one of each entry of its own
count-steps : (h : Header) (S : State) (entries : List Entry) (sender : ℕ) → Steps h S entries
    → count_to sender (addressed entries) + 2 * length S.fills ≤ length (own sender entries) + 2 * length (after_all S entries).fills
count-steps h S [] sender steps = omega arith
count-steps h S (e ∷ entries) sender steps =
    let fills = fills_of e.outcome in
    let reply = addressed_to e.bank (Replied e) in
    let made : length (after_entry S e).fills ≡ length S.fills + length fills = ap length (step-fills h S e steps.0) ∙ length-append S.fills fills in
    let first : count_to sender (addressed_in e) ≡ count_to sender (reply ∷ []) + count_to sender (flat_map fill_addressed fills) = count_to-append sender (reply ∷ []) (flat_map fill_addressed fills) in
    let both : count_to sender (addressed (e ∷ entries)) ≡ count_to sender (addressed_in e) + count_to sender (addressed entries) = count_to-append sender (addressed_in e) (addressed entries) in
    let rest = count-steps h (after_entry S e) entries sender steps.1 in
    elim (cases_eq e.bank sender) [
      | inl same ↦
          let own_more : own sender (e ∷ entries) ≡ e ∷ own sender entries = filter_cons_true (λ (x : Entry). eqb x.bank sender) e entries (eq-eqb e.bank sender same) in
          omega (arith, made, first, both, rest, ap length own_more, count-fills sender fills, count-most sender reply)
      | inr differ ↦
          let own_same : own sender (e ∷ entries) ≡ own sender entries = filter_cons_false (λ (x : Entry). eqb x.bank sender) e entries (ne_eqb e.bank sender differ) in
          omega (arith, made, first, both, rest, ap length own_same, count-fills sender fills, count-elsewhere sender reply differ)
    ]

get_or-total : (counts : List ℕ) (i : ℕ) → get_or counts i 0 ≤ total (λ count. count) counts
get_or-total [] i = omega arith
get_or-total (c ∷ counts) zero = omega arith
get_or-total (c ∷ counts) (suc i) = omega (arith, get_or-total counts i)

-- far below what a count can be
told-few : (h : Header) (entries : List Entry) (sender : ℕ) → IsLegal h entries → count_to sender (addressed entries) < 2 ^ 128
told-few h entries sender legal =
    omega (
      arith,
      count-steps h (opening h) entries sender legal.steps,
      counts-own h entries sender legal,
      get_or-total (state h entries).counts sender,
      arrivals-few h entries legal,
      all-fit h (state h entries).fills (legal-fits h entries legal),
    )

-- the notices of a legal history's next entries can be counted
pub can-count : (h : Header) (before more : List Entry) (counts : List ℕ) → IsLegal h (before ++ more) → HasCounted h before counts → CanCount (addressed more) counts
can-count h before more counts legal has = record {
  senders = entries-have h counts more legal.session has.places (next-print h before more legal);
  few = λ sender within.
      omega (
        arith,
        has.each sender (omega (arith, within, has.places)),
        count-notices sender before,
        ap (count_to sender) (addressed-append before more),
        count_to-append sender (addressed before) (addressed more),
        told-few h (before ++ more) sender legal,
      );
}
