-- Which answers a text may have, by what each answer tells of it.
use Rattle.std.proofs.Common.{◌≡◌, ℕ, ◌≤◌, List, [], ◌∷◌, ◌++◌, length, Option, Some, None, Result, Ok, Err, refl, sym, ap, ◌∙◌, subst, arith, ◌⊎◌, inl, inr, append-nil}
use Rattle.std.specs.Prelude.{IfSome}
use Rattle.fx_amounts.specs.OutOfMemory.{refused}
use Rattle.fx_edges.specs.Faults.{Rose}
use Rattle.fx_edges.specs.Reading.{Took}
use Rattle.fx_rules.specs.Lists.{Among}
use Rattle.session_head.specs.Head as heads
use Rattle.session_head.specs.declared.reason.HeadReason.{HeadReason}
use Rattle.session_script.specs.Input.{input_limit}
use Rattle.session_script.specs.Reading.{HasNoFault, HasStarted, IsPromptBehind, EndedEarlyBehind}
use Rattle.session_script.specs.Script.{HasFault}
use Rattle.session_script.specs.declared.ends.EarlyEnd.{EarlyEnd}
use Rattle.session_script.specs.declared.ends.EarlyEnd.TheVariants.{Cut, ReadFault, TooMuch}
use Rattle.session_script.specs.declared.ends.TextEnd.{TextEnd}
use Rattle.session_script.specs.declared.ends.TextEnd.TheVariants as ends
use Rattle.session_script.proofs.ScriptLaws.{HasSession-no_fault}
use Rattle.kept_call.specs.Call.{EndsIn, ReadSo, TookText, Completes}
use Rattle.kept_call.specs.Fault.{HasCauses}
use Rattle.kept_call.specs.Text.{IsSessionTextBehind}
use Rattle.kept_call.specs.declared.fault.KeptFault.{KeptFault}
use Rattle.kept_call.specs.declared.fault.KeptFault.TheVariants.{Header, Early, Kept, Empty, Damaged, Full, Disk, Write, Memory}
use Rattle.kept_call.proofs.Ends.{told_bytes, early_faultless, cut_early, much_early, ended_cut, ended_much, served_early, served_faultless}

abbrev Answer : Type 0
Answer = Result TextEnd KeptFault

-- a text has one fault at most in its header
header_of : ℕ → HeadReason → Answer
header_of line reason = Err (Header line reason)

same_fault : (line other : ℕ) (reason why : HeadReason) → heads.Faulted line reason ≡ heads.Faulted other why → header_of other why ≡ header_of line reason
same_fault line other reason why is = cc

faults_agree : (text : List ℕ) (line other : ℕ) (reason why : HeadReason) → HasFault text line reason → HasFault text other why → header_of other why ≡ header_of line reason
unfolding HasFault
faults_agree text line other reason why fault again = same_fault line other reason why (sym fault ∙ again)

started_faultless : (text : List ℕ) (line : ℕ) (reason : HeadReason) → HasStarted text → HasFault text line reason → ⊥
started_faultless text line reason started fault = HasSession-no_fault text started.0 line reason started.1 fault

-- what was read before the text has no fault
unread_faultless : (front input : List ℕ) (line : ℕ) (reason : HeadReason) → HasNoFault front → input ≡ [] → HasFault (front ++ input) line reason → ⊥
unread_faultless front input line reason none unread fault =
    none line reason (subst (λ (text : List ℕ). HasFault text line reason) (ap (λ (xs : List ℕ). front ++ xs) unread ∙ append-nil front) fault)

module _ (front input : List ℕ) where
  pub header_among : (known : Option (List ℕ)) (result : Answer) → HasNoFault front → ReadSo front known input result → (line : ℕ) (reason : HeadReason) → HasFault (front ++ input) line reason
      → Among result (Err (Header line reason) ∷ Err (Memory refused) ∷ [])
  unfolding header_of
  header_among known (Ok end) none read line reason fault = absurd (started_faultless (front ++ input) line reason read.0 fault)
  header_among known (Err (Header other why)) none read line reason fault = inl (faults_agree (front ++ input) line other reason why fault read)
  header_among known (Err (Early end)) none read line reason fault = absurd (early_faultless front input known end read.1 line reason fault)
  header_among known (Err Kept) none read line reason fault = absurd (unread_faultless front input line reason none read fault)
  header_among known (Err Empty) none read line reason fault = absurd read
  header_among known (Err (Damaged block)) none read line reason fault = absurd read
  header_among known (Err Full) none read line reason fault = absurd read
  header_among known (Err Disk) none (inl unread) line reason fault = absurd (unread_faultless front input line reason none unread fault)
  header_among known (Err Disk) none (inr started) line reason fault = absurd (started_faultless (front ++ input) line reason started fault)
  header_among known (Err Write) none read line reason fault = absurd (started_faultless (front ++ input) line reason read fault)
  header_among known (Err (Memory memory)) none read line reason fault = inr (inl refl)

  ok_early : EarlyEnd → Answer
  ok_early end = Ok (ends.Early end)

  err_early : EarlyEnd → Answer
  err_early end = Err (Early end)

  module _ (rest : List ℕ) where
    -- the answer of an early end, where the text ended because its source did
    abbrev CutAmong : List Answer → Answer → Type 0
    CutAmong first result = Among result (EndsIn Cut (EndsIn ReadFault (Err Write ∷ Err Disk ∷ Err (Memory refused) ∷ first)))

    ok_cut : (first : List Answer) (end : EarlyEnd) → (end ≡ Cut) ⊎ (end ≡ ReadFault) → CutAmong first (Ok (ends.Early end))
    unfolding ok_early
    ok_cut first end (inl is) = inl (ap ok_early is)
    ok_cut first end (inr is) = inr (inr (inl (ap ok_early is)))

    err_cut : (first : List Answer) (end : EarlyEnd) → (end ≡ Cut) ⊎ (end ≡ ReadFault) → CutAmong first (Err (Early end))
    unfolding err_early
    err_cut first end (inl is) = inr (inl (ap err_early is))
    err_cut first end (inr is) = inr (inr (inr (inl (ap err_early is))))

    pub cut_among : (first : List Answer) (result : Answer) → ReadSo front (Some rest) input result → (result ≡ Err Kept → Among result first) → EndedEarlyBehind front (Some rest) input Cut → CutAmong first result
    cut_among first (Ok ends.EndLine) read kept cut = absurd (ended_cut front input rest read.1 cut)
    cut_among first (Ok (ends.Early end)) read kept cut = ok_cut first end (cut_early front input rest end read.1 cut)
    cut_among first (Err (Header line reason)) read kept cut = absurd (cut.1 line reason read)
    cut_among first (Err (Early end)) read kept cut = err_cut first end (cut_early front input rest end read.1 cut)
    cut_among first (Err Kept) read kept cut = inr (inr (inr (inr (inr (inr (inr (kept refl)))))))
    cut_among first (Err Empty) read kept cut = absurd read
    cut_among first (Err (Damaged block)) read kept cut = absurd read
    cut_among first (Err Full) read kept cut = absurd read
    cut_among first (Err Disk) read kept cut = inr (inr (inr (inr (inr (inl refl)))))
    cut_among first (Err Write) read kept cut = inr (inr (inr (inr (inl refl))))
    cut_among first (Err (Memory memory)) read kept cut = inr (inr (inr (inr (inr (inr (inl refl))))))

    pub much_among : (result : Answer) → ReadSo front (Some rest) input result → EndedEarlyBehind front (Some rest) input TooMuch → Among result (EndsIn TooMuch (Err Write ∷ Err Disk ∷ Err (Memory refused) ∷ []))
    unfolding ok_early err_early
    much_among (Ok ends.EndLine) read much = absurd (ended_much front input rest read.1 much)
    much_among (Ok (ends.Early end)) read much = inl (ap ok_early (much_early front input rest end read.1 much))
    much_among (Err (Header line reason)) read much = absurd (much.1 line reason read)
    much_among (Err (Early end)) read much = inr (inl (ap err_early (much_early front input rest end read.1 much)))
    much_among (Err Kept) read much = absurd (omega (arith, much.0, ap (λ (xs : List ℕ). length xs) read))
    much_among (Err Empty) read much = absurd read
    much_among (Err (Damaged block)) read much = absurd read
    much_among (Err Full) read much = absurd read
    much_among (Err Disk) read much = inr (inr (inr (inl refl)))
    much_among (Err Write) read much = inr (inr (inl refl))
    much_among (Err (Memory memory)) read much = inr (inr (inr (inr (inl refl))))

    -- the whole text of a session, where no fault came
    served_whole : (result : Answer) → ReadSo front (Some rest) input result → length input ≤ input_limit → IsSessionTextBehind front (input ++ rest) → (result ≡ Err Kept → ⊥) → (result ≡ Err Disk → ⊥) → (result ≡ Err Write → ⊥)
        → ((result ≡ Ok (ends.Early ReadFault)) ⊎ (result ≡ Err (Early ReadFault)) → ⊥) → Among result (Ok ends.EndLine ∷ Err (Memory refused) ∷ [])
    unfolding ok_early err_early
    served_whole (Ok ends.EndLine) read within is kept disk writes reads = inl refl
    served_whole (Ok (ends.Early end)) read within is kept disk writes reads = absurd (reads (inl (ap ok_early (served_early front input rest end read.1 within is))))
    served_whole (Err (Header line reason)) read within is kept disk writes reads = absurd (served_faultless front input rest is line reason read)
    served_whole (Err (Early end)) read within is kept disk writes reads = absurd (reads (inr (ap err_early (served_early front input rest end read.1 within is))))
    served_whole (Err Kept) read within is kept disk writes reads = absurd (kept refl)
    served_whole (Err Empty) read within is kept disk writes reads = absurd read
    served_whole (Err (Damaged block)) read within is kept disk writes reads = absurd read
    served_whole (Err Full) read within is kept disk writes reads = absurd read
    served_whole (Err Disk) read within is kept disk writes reads = absurd (disk refl)
    served_whole (Err Write) read within is kept disk writes reads = absurd (writes refl)
    served_whole (Err (Memory memory)) read within is kept disk writes reads = inr (inl refl)

-- what was taken of a text, with the answers that it may have
abbrev pub took-text : (first : List Answer) (front : List ℕ) {S : Type 0} (left : S → Option (List ℕ)) (failed : S → ℕ) (s s' : S) (result : Answer) (input : List ℕ) → Took left failed s s' input → length input ≤ input_limit → IsPromptBehind front input → HasNoFault front
    → (result ≡ Err Kept → Among result first) → ReadSo front (left s') input result → ((result ≡ Ok (ends.Early ReadFault)) ⊎ (result ≡ Err (Early ReadFault)) → Rose (failed s) (failed s')) → TookText first front left failed s s' result
took-text first front left failed s s' result input took within prompt none kept read fault = record {
  input = input;
  took = took;
  within = within;
  prompt = prompt;
  read = read;
  read_fault = fault;
  header = header_among front input (left s') result none read;
  cut = λ rest told cut. cut_among front input rest first result (subst (λ (known : Option (List ℕ)). ReadSo front known input result) told read) kept cut;
  too_much = λ rest told much. much_among front input rest result (subst (λ (known : Option (List ℕ)). ReadSo front known input result) told read) much;
}

if_some : {A : Type 0} (known : Option A) (P : A → Type 0) → ((a : A) → known ≡ Some a → P a) → IfSome known P
if_some None P holds = tt
if_some (Some a) P holds = holds a refl

-- a whole text is served to its end, where no fault came
pub completes : {D K S : Type 0} (bytes : D → Option (List ℕ)) (may_leave : D → List ℕ → Type 0) (moment : D → ℕ) (left_since : D → ℕ → List ℕ → Type 0) (disk_faults : D → ℕ) (written : K → Option (List ℕ)) (faults : K → ℕ) (left : S → Option (List ℕ)) (failed : S → ℕ)
    (d d' : D) (k k' : K) (s s' : S) (result : Answer) (first : List Answer) (front : List ℕ) → TookText first front left failed s s' result → HasCauses disk_faults faults d d' k k' result → (result ≡ Err Kept → ⊥)
    → Completes bytes may_leave moment left_since disk_faults written faults left failed d d' k k' s s' result front
completes bytes may_leave moment left_since disk_faults written faults left failed d d' k k' s s' result first front took causes kept =
    if_some (left s) _ (λ text told is disk source sink.
    let now = told_bytes text took.input (left s') (sym told ∙ took.took.moved) in
    served_whole front took.input now.0 result (subst (λ (known : Option (List ℕ)). ReadSo front known took.input result) now.1 took.read) took.within (subst (IsSessionTextBehind front) now.2 is)
    kept (λ fault. disk (causes.disk fault)) (λ fault. sink (causes.sink fault)) (λ fault. source (took.read_fault fault)))

-- and where the call did not come to read it, that was for want of memory
pub completes-refused : {D K S : Type 0} (bytes : D → Option (List ℕ)) (may_leave : D → List ℕ → Type 0) (moment : D → ℕ) (left_since : D → ℕ → List ℕ → Type 0) (disk_faults : D → ℕ) (written : K → Option (List ℕ)) (faults : K → ℕ) (left : S → Option (List ℕ)) (failed : S → ℕ)
    (d d' : D) (k k' : K) (s s' : S) (result : Answer) (front : List ℕ) → HasCauses disk_faults faults d d' k k' result → Among result (Err Disk ∷ Err (Memory refused) ∷ [])
    → Completes bytes may_leave moment left_since disk_faults written faults left failed d d' k k' s s' result front
completes-refused bytes may_leave moment left_since disk_faults written faults left failed d d' k k' s s' result front causes (inl is) = if_some (left s) _ (λ text told whole disk source sink. absurd (disk (causes.disk is)))
completes-refused bytes may_leave moment left_since disk_faults written faults left failed d d' k k' s s' result front causes (inr (inl is)) = if_some (left s) _ (λ text told whole disk source sink. inr (inl is))
completes-refused bytes may_leave moment left_since disk_faults written faults left failed d d' k k' s s' result front causes (inr (inr none)) = absurd none
