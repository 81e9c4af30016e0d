-- What the words `check` and `payments` do, from what their parts do.
use Rattle.std.proofs.Common.{ℕ, ◌≡◌, ◌<◌, ◌⊎◌, List, [], ◌∷◌, ◌++◌, inl, inr, refl, sym, ap, subst, ◌∙◌, arith, length, Option, Some, None, IfSome, Result, Ok, Err, length-append}
use Rattle.std.specs.declared.alloc.Global.{Global}
use Rattle.std.specs.declared.vec.Vec.{Vec}
use Rattle.std.specs.Io.KnownBytes.{IsAtEnd}
use Rattle.fx_amounts.specs.OutOfMemory.{refused}
use Rattle.fx_edges.specs.Faults.{Rose}
use Rattle.fx_edges.specs.Writing.{Appended}
use Rattle.fx_edges.specs.Reading.{Took}
use Rattle.fx_edges.proofs.Reading.{Took-nil}
use Rattle.fx_edges.proofs.Writing.{Appended-nil, AppendedPart-whole}
use Rattle.fx_rules.specs.Lists.{Among}
use Rattle.journal_check.specs.Verdict.{yes, IsSomeOutput}
use Rattle.journal_check.specs.declared.check.Verdict.{Verdict}
use Rattle.journal_check.specs.declared.check.Verdict.TheVariants.{No}
use Rattle.program_calls.specs.Check.{KindOfAnswer, output_limit, halted, HasTaken, Halted, WroteVerdict, WrotePartOf, ToldVerdict, ThenTold, Checked}
use Rattle.program_calls.specs.CheckCall.{DidCheck}
use Rattle.program_calls.specs.TopCall.{GotNothing, WritesNothing}
use Rattle.program_calls.specs.declared.checking.Halt.{Halt}
use Rattle.program_calls.specs.declared.checking.Halt.TheVariants as halts
use Rattle.program_calls.specs.declared.status.Status.{Status}
use Rattle.program_calls.specs.declared.status.Status.TheVariants.{Done, ReadFault, WriteFault, Memory, TooMuch, Differs}
use Rattle.program_calls.proofs.TopCallLaws.{Took-is}
use Rattle.kept_call.proofs.Ends.{told_bytes}

failed : Halt → Result (Vec ℕ Global) Halt
failed halt = Err halt

-- the statuses of both
abbrev Answers : Status → Type 0
Answers status = Among status (Done ∷ Differs ∷ ReadFault ∷ WriteFault ∷ TooMuch ∷ Memory refused ∷ [])

module _ (IsAnswer : KindOfAnswer) {K : Type 0} (written : K → Option (List ℕ)) (faults : K → ℕ) (out out' : K) where
  -- what was done at the status that was told; out of memory may have taken a status' place
  abbrev AfterCheck : Result (Vec ℕ Global) Halt → Status → Type 0
  AfterCheck (Ok all) status = ToldVerdict IsAnswer written faults out out' all.items status
  AfterCheck (Err halt) status = Among status (halted halt ∷ Memory refused ∷ []) × (out' ≡ out)

  whole : (bytes : List ℕ) (verdict : Verdict) → WroteVerdict IsAnswer written faults out out' bytes verdict → WrotePartOf IsAnswer written faults out out' bytes
  whole bytes verdict wrote = record {
    verdict = verdict;
    is_verdict = wrote.is_verdict;
    text = wrote.text;
    is_text = wrote.is_text;
    part = AppendedPart-whole wrote.all;
  }

  for_memory : (bytes : List ℕ) (status : Status) → ToldVerdict IsAnswer written faults out out' bytes status → ToldVerdict IsAnswer written faults out out' bytes (Memory refused)
  for_memory bytes Done did = inr (whole bytes yes did.1)
  for_memory bytes Differs did = inr (whole bytes (No did.1.0) did.1.1)
  for_memory bytes WriteFault did = inr did.0
  for_memory bytes (Memory memory) did = did
  for_memory bytes status did = absurd did

  after_told : (read : Result (Vec ℕ Global) Halt) (status result : Status) → ThenTold IsAnswer written faults out out' read status → Among result (status ∷ Memory refused ∷ []) → AfterCheck read result
  after_told (Ok all) status result did (inl same) = subst (λ (s : Status). ToldVerdict IsAnswer written faults out out' all.items s) (sym same) did
  after_told (Ok all) status result did (inr (inl same)) = subst (λ (s : Status). ToldVerdict IsAnswer written faults out out' all.items s) (sym same) (for_memory all.items status did)
  after_told (Ok all) status result did (inr (inr none)) = absurd none
  after_told (Err halt) status result did is = (subst (λ (s : Status). Among result (s ∷ Memory refused ∷ [])) did.0 is, did.1)

  -- statuses

  is_halt : (result status : Status) (halt : Halt) → Among result (halted halt ∷ Memory refused ∷ []) → result ≡ status → Among status (ReadFault ∷ TooMuch ∷ Memory refused ∷ [])
  is_halt result status halts.ReadFault (inl one) is = inl (sym is ∙ one)
  is_halt result status halts.TooMuch (inl one) is = inr (inl (sym is ∙ one))
  is_halt result status (halts.Memory memory) (inl one) is = inr (inr (inl (sym is ∙ one)))
  is_halt result status halt (inr (inl one)) is = inr (inr (inl (sym is ∙ one)))
  is_halt result status halt (inr (inr none)) is = absurd none

  told_answers : (bytes : List ℕ) (status : Status) → ToldVerdict IsAnswer written faults out out' bytes status → Answers status
  told_answers bytes Done did = inl refl
  told_answers bytes Differs did = inr (inl refl)
  told_answers bytes WriteFault did = inr (inr (inr (inl refl)))
  told_answers bytes (Memory memory) did = inr (inr (inr (inr (inr (inl refl)))))
  told_answers bytes status did = absurd did

  halt_answers : (status : Status) → Among status (ReadFault ∷ TooMuch ∷ Memory refused ∷ []) → Answers status
  halt_answers status (inl one) = inr (inr (inl one))
  halt_answers status (inr (inl one)) = inr (inr (inr (inr (inl one))))
  halt_answers status (inr (inr (inl one))) = inr (inr (inr (inr (inr (inl one)))))
  halt_answers status (inr (inr (inr none))) = absurd none

  after_answers : (read : Result (Vec ℕ Global) Halt) (result : Status) → AfterCheck read result → Answers result
  after_answers (Ok all) result did = told_answers all.items result did
  after_answers (Err halt) result did = halt_answers result (is_halt result result halt did.0 refl)

  -- a status of the verdict comes of a source that was read to its end
  verdict_of : (known : Option (List ℕ)) (bytes : List ℕ) (read : Result (Vec ℕ Global) Halt) (result status : Status) → (Among status (ReadFault ∷ TooMuch ∷ Memory refused ∷ []) → ⊥) → AfterCheck read result → Halted known bytes read → result ≡ status
      → ToldVerdict IsAnswer written faults out out' bytes status × IsAtEnd known × (length bytes < output_limit)
  verdict_of known bytes (Ok all) result status unlike did ended is =
      (subst (λ (bs : List ℕ). ToldVerdict IsAnswer written faults out out' bs status) ended.0 (subst (λ (s : Status). ToldVerdict IsAnswer written faults out out' all.items s) is did), ended.1, ended.2)
  verdict_of known bytes (Err halt) result status unlike did ended is = absurd (unlike (is_halt result status halt did.0 is))

  -- a status of the reading
  much_only : (known : Option (List ℕ)) (bytes : List ℕ) (read : Result (Vec ℕ Global) Halt) (result : Status) → AfterCheck read result → Halted known bytes read → result ≡ TooMuch → length bytes ≡ output_limit
  much_only known bytes (Ok all) result did ended is = absurd (subst (λ (s : Status). ToldVerdict IsAnswer written faults out out' all.items s) is did)
  much_only known bytes (Err halts.ReadFault) result (inl one, same) ended is = let no : ReadFault ≡ TooMuch = sym one ∙ is in absurd cc
  much_only known bytes (Err halts.TooMuch) result did ended is = ended
  much_only known bytes (Err (halts.Memory memory)) result (inl one, same) ended is = let no : Memory refused ≡ TooMuch = sym one ∙ is in absurd cc
  much_only known bytes (Err halt) result (inr (inl one), same) ended is = let no : Memory refused ≡ TooMuch = sym one ∙ is in absurd cc
  much_only known bytes (Err halt) result (inr (inr none), same) ended is = absurd none

  much_always : (known : Option (List ℕ)) (bytes : List ℕ) (read : Result (Vec ℕ Global) Halt) (result : Status) → AfterCheck read result → Halted known bytes read → length bytes ≡ output_limit → Among result (TooMuch ∷ Memory refused ∷ [])
  much_always known bytes (Ok all) result did ended full = absurd (omega (arith, ended.2, full))
  much_always known bytes (Err halts.ReadFault) result did ended full = absurd (omega (arith, ended, full))
  much_always known bytes (Err halts.TooMuch) result did ended full = did.0
  much_always known bytes (Err (halts.Memory memory)) result (inl one, same) ended full = inr (inl one)
  much_always known bytes (Err (halts.Memory memory)) result (inr rest, same) ended full = inr rest

  read_failed : (read : Result (Vec ℕ Global) Halt) (result : Status) → AfterCheck read result → result ≡ ReadFault → read ≡ Err halts.ReadFault
  read_failed (Ok all) result did is = absurd (subst (λ (s : Status). ToldVerdict IsAnswer written faults out out' all.items s) is did)
  read_failed (Err halts.ReadFault) result did is = refl
  read_failed (Err halts.TooMuch) result (inl one, same) is = let no : TooMuch ≡ ReadFault = sym one ∙ is in absurd cc
  read_failed (Err (halts.Memory memory)) result (inl one, same) is = let no : Memory refused ≡ ReadFault = sym one ∙ is in absurd cc
  read_failed (Err halt) result (inr (inl one), same) is = let no : Memory refused ≡ ReadFault = sym one ∙ is in absurd cc
  read_failed (Err halt) result (inr (inr none), same) is = absurd none

  -- an input that is no output
  differs_told : (bytes : List ℕ) (status : Status) → ToldVerdict IsAnswer written faults out out' bytes status → ¬ (IsSomeOutput bytes) → Among status (Differs ∷ Memory refused ∷ ReadFault ∷ WriteFault ∷ [])
  differs_told bytes Done did other = absurd (other did.0)
  differs_told bytes Differs did other = inl refl
  differs_told bytes WriteFault did other = inr (inr (inr (inl refl)))
  differs_told bytes (Memory memory) did other = inr (inl refl)
  differs_told bytes status did other = absurd did

  differs_always : (known : Option (List ℕ)) (bytes : List ℕ) (read : Result (Vec ℕ Global) Halt) (result : Status) → AfterCheck read result → Halted known bytes read → length bytes < output_limit → ¬ (IsSomeOutput bytes)
      → Among result (Differs ∷ Memory refused ∷ ReadFault ∷ WriteFault ∷ [])
  differs_always known bytes (Ok all) result did ended short other =
      differs_told bytes result (subst (λ (bs : List ℕ). ToldVerdict IsAnswer written faults out out' bs result) ended.0 did) other
  differs_always known bytes (Err halts.ReadFault) result (inl one, same) ended short other = inr (inr (inl one))
  differs_always known bytes (Err halts.TooMuch) result did ended short other = absurd (omega (arith, ended, short))
  differs_always known bytes (Err (halts.Memory memory)) result (inl one, same) ended short other = inr (inl one)
  differs_always known bytes (Err halt) result (inr (inl one), same) ended short other = inr (inl one)
  differs_always known bytes (Err halt) result (inr (inr none), same) ended short other = absurd none

  -- standard output

  unwritten : out' ≡ out → GotNothing written faults out out'
  unwritten same = subst (λ (k : K). Appended written faults out k []) (sym same) (Appended-nil written faults out)

  memory_told : (bytes : List ℕ) → ToldVerdict IsAnswer written faults out out' bytes (Memory refused) → GotNothing written faults out out' ⊎ WrotePartOf IsAnswer written faults out out' bytes
  memory_told bytes (inl none) = inl (unwritten none)
  memory_told bytes (inr part) = inr part

  memory_after : (known : Option (List ℕ)) (bytes : List ℕ) (read : Result (Vec ℕ Global) Halt) (result : Status) → AfterCheck read result → Halted known bytes read → result ≡ Memory refused → GotNothing written faults out out' ⊎ WrotePartOf IsAnswer written faults out out' bytes
  memory_after known bytes (Ok all) result did ended is =
      memory_told bytes (subst (λ (bs : List ℕ). ToldVerdict IsAnswer written faults out out' bs (Memory refused)) ended.0 (subst (λ (s : Status). ToldVerdict IsAnswer written faults out out' all.items s) is did))
  memory_after known bytes (Err halt) result did ended is = inl (unwritten did.1)

  nothing_told : (bytes : List ℕ) (status : Status) → ToldVerdict IsAnswer written faults out out' bytes status → WritesNothing status → GotNothing written faults out out'
  nothing_told bytes Done did none = absurd none
  nothing_told bytes Differs did none = absurd none
  nothing_told bytes WriteFault did none = absurd none
  nothing_told bytes (Memory memory) did none = absurd none
  nothing_told bytes status did none = absurd did

  nothing_after : (read : Result (Vec ℕ Global) Halt) (result : Status) → AfterCheck read result → WritesNothing result → GotNothing written faults out out'
  nothing_after (Ok all) result did none = nothing_told all.items result did none
  nothing_after (Err halt) result did none = unwritten did.1

  -- completeness

  served_told : (bytes : List ℕ) (status : Status) → ToldVerdict IsAnswer written faults out out' bytes status → ¬ (Rose (faults out) (faults out')) → Among status (Done ∷ Differs ∷ Memory refused ∷ [])
  served_told bytes Done did writes = inl refl
  served_told bytes Differs did writes = inr (inl refl)
  served_told bytes WriteFault did writes = absurd (writes did.1)
  served_told bytes (Memory memory) did writes = inr (inr (inl refl))
  served_told bytes status did writes = absurd did

  served_check : (known : Option (List ℕ)) (bytes : List ℕ) (read : Result (Vec ℕ Global) Halt) (result : Status) → AfterCheck read result → Halted known bytes read → length bytes < output_limit → (read ≡ Err halts.ReadFault → ⊥) → ¬ (Rose (faults out) (faults out'))
      → Among result (Done ∷ Differs ∷ Memory refused ∷ [])
  served_check known bytes (Ok all) result did ended short reads writes = served_told all.items result did writes
  served_check known bytes (Err halts.ReadFault) result did ended short reads writes = absurd (reads refl)
  served_check known bytes (Err halts.TooMuch) result did ended short reads writes = absurd (omega (arith, ended, short))
  served_check known bytes (Err (halts.Memory memory)) result (inl one, same) ended short reads writes = inr (inr (inl one))
  served_check known bytes (Err (halts.Memory memory)) result (inr (inl one), same) ended short reads writes = inr (inr (inl one))
  served_check known bytes (Err (halts.Memory memory)) result (inr (inr none), same) ended short reads writes = absurd none

no_halt : (status : Status) → (status ≡ ReadFault → ⊥) → (status ≡ TooMuch → ⊥) → (status ≡ Memory refused → ⊥) → Among status (ReadFault ∷ TooMuch ∷ Memory refused ∷ []) → ⊥
no_halt status a b c (inl one) = a one
no_halt status a b c (inr (inl one)) = b one
no_halt status a b c (inr (inr (inl one))) = c one
no_halt status a b c (inr (inr (inr none))) = none

module _ (IsAnswer : KindOfAnswer) {S K : Type 0} (left : S → Option (List ℕ)) (taken : S → ℕ) (written : K → Option (List ℕ)) (faults : K → ℕ) (source source' : S) (out out' : K) where
  halted_at : (read : Result (Vec ℕ Global) Halt) (input rest : List ℕ) → HasTaken left taken source source' read → left source ≡ Some (input ++ rest) → left source' ≡ Some rest → Halted (Some rest) input read
  halted_at read input rest has had now =
      subst (λ (known : Option (List ℕ)). Halted known input read) now
      (subst (λ (bytes : List ℕ). Halted (left source') bytes read) (Took-is left taken source source' has.bytes input rest has.took had now) has.ended)

  complete_some : (read : Result (Vec ℕ Global) Halt) (result : Status) (bytes : List ℕ) → HasTaken left taken source source' read → AfterCheck IsAnswer written faults out out' read result → left source ≡ Some bytes → length bytes < output_limit → ¬ (Rose (taken source) (taken source')) → ¬ (Rose (faults out) (faults out'))
      → Among result (Done ∷ Differs ∷ Memory refused ∷ [])
  complete_some read result bytes has did had short reads writes =
      let split = told_bytes bytes has.bytes (left source') (sym had ∙ has.took.moved) in
      served_check IsAnswer written faults out out' (left source') has.bytes read result did has.ended
      (omega (arith, short, ap length split.2, length-append has.bytes split.0)) (λ failed. reads (has.cause failed)) writes

  complete_at : (read : Result (Vec ℕ Global) Halt) (result : Status) (known : Option (List ℕ)) → HasTaken left taken source source' read → AfterCheck IsAnswer written faults out out' read result → left source ≡ known
      → IfSome known (λ bytes. length bytes < output_limit → ¬ (Rose (taken source) (taken source')) → ¬ (Rose (faults out) (faults out')) → Among result (Done ∷ Differs ∷ Memory refused ∷ []))
  complete_at read result None has did had = tt
  complete_at read result (Some bytes) has did had = complete_some read result bytes has did had

  pub check_did : (status result : Status) → Checked IsAnswer left taken written faults source source' out out' status → Among result (status ∷ Memory refused ∷ []) → DidCheck IsAnswer left taken written faults source source' out out' result
  check_did status result ran tells =
      let read : Result (Vec ℕ Global) Halt = ran.read in
      let has : HasTaken left taken source source' read = ran.has_taken in
      let did : AfterCheck IsAnswer written faults out out' read result = after_told IsAnswer written faults out out' read status result ran.told tells in
      let no_read_halt : Among Done (ReadFault ∷ TooMuch ∷ Memory refused ∷ []) → ⊥ = no_halt Done (λ same. cc) (λ same. cc) (λ same. cc) in
      let no_other_halt : Among Differs (ReadFault ∷ TooMuch ∷ Memory refused ∷ []) → ⊥ = no_halt Differs (λ same. cc) (λ same. cc) (λ same. cc) in
      let no_write_halt : Among WriteFault (ReadFault ∷ TooMuch ∷ Memory refused ∷ []) → ⊥ = no_halt WriteFault (λ same. cc) (λ same. cc) (λ same. cc) in
      record {
        taken = record { bytes = has.bytes; took = has.took; within = has.within };
        too_much = λ input rest had now. record {
          only = much_only IsAnswer written faults out out' (Some rest) input read result did (halted_at read input rest has had now);
          always = much_always IsAnswer written faults out out' (Some rest) input read result did (halted_at read input rest has had now);
        };
        read_fault = λ is. has.cause (read_failed IsAnswer written faults out out' read result did is);
        done = λ is input rest had now.
            let so = verdict_of IsAnswer written faults out out' (Some rest) input read result Done no_read_halt did (halted_at read input rest has had now) is in
            (so.1, so.0.0, so.0.1);
        differs = λ input rest had now. record {
          only = λ is.
              let so = verdict_of IsAnswer written faults out out' (Some rest) input read result Differs no_other_halt did (halted_at read input rest has had now) is in
              record { whole = so.1; short = so.2; other = so.0.0 };
          always = λ cause. differs_always IsAnswer written faults out out' (Some rest) input read result did (halted_at read input rest has had now) cause.short cause.other;
        };
        offset = λ is input rest had now. (verdict_of IsAnswer written faults out out' (Some rest) input read result Differs no_other_halt did (halted_at read input rest has had now) is).0.1;
        write_fault = λ is. (verdict_of IsAnswer written faults out out' (left source') has.bytes read result WriteFault no_write_halt did has.ended is).0.1;
        part = λ is input rest had now. (verdict_of IsAnswer written faults out out' (Some rest) input read result WriteFault no_write_halt did (halted_at read input rest has had now) is).0.0;
        memory = λ is input rest had now. memory_after IsAnswer written faults out out' (Some rest) input read result did (halted_at read input rest has had now) is;
        nothing = λ none. nothing_after IsAnswer written faults out out' read result did none;
        answers = after_answers IsAnswer written faults out out' read result did;
        complete = complete_at read result (left source) has did refl;
      }

  -- a check that did not begin, out of memory
  pub check_not_begun : source' ≡ source → out' ≡ out → Checked IsAnswer left taken written faults source source' out out' (Memory refused)
  unfolding failed
  check_not_begun unread unwritten = record {
    read = Err (halts.Memory refused);
    has_taken = record {
      bytes = [];
      took = subst (λ (s : S). Took left taken source s []) (sym unread) (Took-nil left taken source);
      within = omega arith;
      ended = tt;
      cause = λ is. absurd (memory_no_fault is);
    };
    told = (refl, unwritten);
  }
    where
      memory_no_fault : failed (halts.Memory refused) ≡ failed halts.ReadFault → ⊥
      memory_no_fault is = cc
