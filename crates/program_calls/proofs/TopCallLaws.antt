-- What a run that ended with a status says of that status, of the bytes taken and of the bytes written.
use Rattle.std.proofs.Common.{◌≡◌, ℕ, ◌≤◌, List, [], ◌∷◌, ◌++◌, length, Option, Some, None, Result, Ok, Err, refl, sym, ap, ◌∙◌, subst, arith, ◌⊎◌, inl, inr}
use Rattle.std.specs.Prelude.{IfSome}
use Rattle.std.specs.Io.KnownBytes.{prepend_known}
use Rattle.std.proofs.lemmas.List.{append_cancel_right}
use Rattle.fx_amounts.specs.OutOfMemory.{refused}
use Rattle.fx_rules.specs.Lists.{Among}
use Rattle.fx_edges.specs.Faults.{Rose}
use Rattle.fx_edges.specs.Reading.{Took}
use Rattle.fx_edges.specs.Writing.{Appended}
use Rattle.fx_edges.proofs.Reading.{Took-nil}
use Rattle.fx_edges.proofs.Writing.{Appended-nil, AppendedPart-whole}
use Rattle.session_head.specs.Head as heads
use Rattle.session_head.specs.declared.reason.HeadReason.{HeadReason}
use Rattle.session_script.specs.Input.{input_limit}
use Rattle.session_script.specs.Reading.{HasNoFault, IsPrompt, EndedEarly, TextEnded, Stopped}
use Rattle.session_script.specs.Script.{HasFault, HasEnd}
use Rattle.session_script.specs.declared.ends.EarlyEnd.{EarlyEnd}
use Rattle.session_script.specs.declared.ends.EarlyEnd.TheVariants as early
use Rattle.session_script.specs.declared.ends.TextEnd.{TextEnd}
use Rattle.session_script.specs.declared.ends.TextEnd.TheVariants.{EndLine, Early}
use Rattle.session_script.specs.declared.ends.Stop.{Stop}
use Rattle.session_script.specs.declared.ends.Stop.TheVariants as stops
use Rattle.program_calls.specs.Run.{GotPartOf, RanText, ReadCame, status_read, Followed, Ran}
use Rattle.program_calls.specs.SessionCall.{SourceCauses, GotText, IsHeader, DidSession}
use Rattle.program_calls.specs.Status.{status_at, status_of}
use Rattle.program_calls.specs.TopCall.{KindOfText, EndsExactly, GotWhole, GotPart, GotSoFar, GotNothing, IsSessionText}
use Rattle.program_calls.specs.declared.status.Status.{Status}
use Rattle.program_calls.specs.declared.status.Status.TheVariants.{Done, Usage, Header as HeadFault, Cut, ReadFault, WriteFault, Memory, TooMuch}
use Rattle.session_script.proofs.ScriptReading.{GoesOn-nil, prompt_here}
use Rattle.session_script.proofs.ScriptLaws.{HasSession-no_fault}
use Rattle.kept_call.proofs.Ends.{some_list, told_bytes, early_faultless, cut_early, much_early, ended_cut, ended_much, served_early, served_faultless}

-- Bytes taken

-- the bytes that a source gave are those that it told
pub Took-is : {S : Type 0} (left : S → Option (List ℕ)) (faults : S → ℕ) (before now : S) (bytes taken rest : List ℕ) → Took left faults before now bytes → left before ≡ Some (taken ++ rest) → left now ≡ Some rest → bytes ≡ taken
Took-is left faults before now bytes taken rest took had has =
    let known : Some (bytes ++ rest) ≡ Some (taken ++ rest) = ap (prepend_known bytes) (sym has) ∙ sym took.moved ∙ had in
    append_cancel_right bytes taken rest (some_list (bytes ++ rest) (taken ++ rest) known)

-- Headers

-- a text has one fault at most in its header
faults_agree : (text : List ℕ) (line other : ℕ) (reason why : HeadReason) → HasFault text line reason → HasFault text other why → HeadFault other why ≡ HeadFault line reason
unfolding HasFault
faults_agree text line other reason why fault again = let same : heads.Faulted line reason ≡ heads.Faulted other why = sym fault ∙ again in cc

-- The statuses of what a reading came to

end_of : Status → Option TextEnd
end_of Done = Some EndLine
end_of Cut = Some (Early early.Cut)
end_of ReadFault = Some (Early early.ReadFault)
end_of TooMuch = Some (Early early.TooMuch)
end_of _ = None

end_is : (end : TextEnd) → end_of (status_at end) ≡ Some end
unfolding end_of
end_is EndLine = refl
end_is (Early early.Cut) = refl
end_is (Early early.ReadFault) = refl
end_is (Early early.TooMuch) = refl

some_end : (a b : TextEnd) → Some a ≡ Some b → a ≡ b
some_end a b e = cc

same_end : (end other : TextEnd) → status_at end ≡ status_at other → end ≡ other
same_end end other same = some_end end other (sym (end_is end) ∙ ap end_of same ∙ end_is other)

-- a status that no end of a text has
abbrev IsNoEnd : Status → Type 0
IsNoEnd status = end_of status ≡ None

header_no_end : (line : ℕ) (reason : HeadReason) → IsNoEnd (HeadFault line reason)
unfolding end_of
header_no_end line reason = refl

write_no_end : IsNoEnd WriteFault
unfolding end_of
write_no_end = refl

memory_no_end : IsNoEnd (Memory refused)
unfolding end_of
memory_no_end = refl

no_end : (end : TextEnd) (status : Status) → IsNoEnd status → status_at end ≡ status → ⊥
no_end end status none is = let e : Some end ≡ None = sym (end_is end) ∙ ap end_of is ∙ none in cc

-- what stopped a reading before START, by a status
stop_of : Status → Option Stop
stop_of (HeadFault line reason) = Some (stops.Header line reason)
stop_of Cut = Some (stops.Early early.Cut)
stop_of ReadFault = Some (stops.Early early.ReadFault)
stop_of TooMuch = Some (stops.Early early.TooMuch)
stop_of (Memory memory) = Some (stops.Memory memory)
stop_of _ = None

stop_is : (stop : Stop) → stop_of (status_of stop) ≡ Some stop
unfolding stop_of
stop_is (stops.Header line reason) = refl
stop_is (stops.Early early.Cut) = refl
stop_is (stops.Early early.ReadFault) = refl
stop_is (stops.Early early.TooMuch) = refl
stop_is (stops.Memory memory) = refl

abbrev IsNoStop : Status → Type 0
IsNoStop status = stop_of status ≡ None

done_no_stop : IsNoStop Done
unfolding stop_of
done_no_stop = refl

write_no_stop : IsNoStop WriteFault
unfolding stop_of
write_no_stop = refl

some_stop : (a b : Stop) → Some a ≡ Some b → a ≡ b
some_stop a b e = cc

same_stop : (stop other : Stop) → status_of stop ≡ status_of other → stop ≡ other
same_stop stop other same = some_stop stop other (sym (stop_is stop) ∙ ap stop_of same ∙ stop_is other)

-- the statuses that a session's run ends with
abbrev Answers : Status → Type 0
Answers status = IsHeader status ⊎ Among status (Done ∷ Cut ∷ ReadFault ∷ WriteFault ∷ Memory refused ∷ TooMuch ∷ [])

end_answers : (end : TextEnd) → Answers (status_at end)
end_answers EndLine = inr (inl refl)
end_answers (Early early.Cut) = inr (inr (inl refl))
end_answers (Early early.ReadFault) = inr (inr (inr (inl refl)))
end_answers (Early early.TooMuch) = inr (inr (inr (inr (inr (inr (inl refl))))))

stop_answers : (stop : Stop) → Answers (status_of stop)
stop_answers (stops.Header line reason) = inl (line, reason, refl)
stop_answers (stops.Early end) = end_answers (Early end)
stop_answers (stops.Memory memory) = inr (inr (inr (inr (inr (inl refl)))))

stop_told : (stop other : Stop) (result : Status) → (other ≡ stops.Memory refused → ⊥) → Among result (status_of stop ∷ Memory refused ∷ []) → result ≡ status_of other → stop ≡ other
stop_told stop other result differ (inl one) is = same_stop stop other (sym one ∙ is)
stop_told stop other result differ (inr (inl one)) is = absurd (differ (same_stop other (stops.Memory refused) (sym is ∙ one)))
stop_told stop other result differ (inr (inr none)) is = absurd none

no_stop : (stop : Stop) (result status : Status) → IsNoStop status → Among result (status_of stop ∷ Memory refused ∷ []) → result ≡ status → ⊥
unfolding stop_of
no_stop stop result status other (inl one) is = let same : Some stop ≡ None = sym (stop_is stop) ∙ ap stop_of (sym one ∙ is) ∙ other in cc
no_stop stop result status other (inr (inl one)) is = let same : Some (stops.Memory refused) ≡ None = ap stop_of (sym one ∙ is) ∙ other in cc
no_stop stop result status other (inr (inr none)) is = none

among_stop : (result status other : Status) (earlier : List Status) → Among result (status ∷ Memory refused ∷ []) → Among status (other ∷ Memory refused ∷ earlier) → Among result (other ∷ Memory refused ∷ earlier)
among_stop result status other earlier (inl same) there = subst (λ (s : Status). Among s (other ∷ Memory refused ∷ earlier)) (sym same) there
among_stop result status other earlier (inr (inl same)) there = inr (inl same)
among_stop result status other earlier (inr (inr none)) there = absurd none

-- How an input ended, where the source has `rest` left

header_stop : (input rest : List ℕ) (line : ℕ) (reason : HeadReason) (stop : Stop) → Stopped (Some rest) input stop → HasFault input line reason → Among (status_of stop) (HeadFault line reason ∷ Memory refused ∷ [])
header_stop input rest line reason (stops.Header other why) stopped fault = inl (faults_agree input line other reason why fault stopped)
header_stop input rest line reason (stops.Early end) stopped fault = absurd (early_faultless [] input (Some rest) end stopped.1 line reason fault)
header_stop input rest line reason (stops.Memory memory) stopped fault = inr (inl refl)

cut_among : (end : EarlyEnd) → (end ≡ early.Cut) ⊎ (end ≡ early.ReadFault) → Among (status_at (Early end)) (Cut ∷ Memory refused ∷ ReadFault ∷ WriteFault ∷ [])
cut_among end (inl cut) = inl (ap (λ (e : EarlyEnd). status_at (Early e)) cut)
cut_among end (inr fault) = inr (inr (inl (ap (λ (e : EarlyEnd). status_at (Early e)) fault)))

cut_text : (input rest : List ℕ) (end : TextEnd) → TextEnded (Some rest) input end → EndedEarly (Some rest) input early.Cut → Among (status_at end) (Cut ∷ Memory refused ∷ ReadFault ∷ WriteFault ∷ [])
cut_text input rest EndLine ended cut = absurd (ended_cut [] input rest ended cut)
cut_text input rest (Early end) ended cut = cut_among end (cut_early [] input rest end ended cut)

much_text : (input rest : List ℕ) (end : TextEnd) → TextEnded (Some rest) input end → EndedEarly (Some rest) input early.TooMuch → Among (status_at end) (TooMuch ∷ Memory refused ∷ WriteFault ∷ [])
much_text input rest EndLine ended much = absurd (ended_much [] input rest ended much)
much_text input rest (Early end) ended much = inl (ap (λ (e : EarlyEnd). status_at (Early e)) (much_early [] input rest end ended much))

cut_stop : (input rest : List ℕ) (stop : Stop) → Stopped (Some rest) input stop → EndedEarly (Some rest) input early.Cut → Among (status_of stop) (Cut ∷ Memory refused ∷ ReadFault ∷ WriteFault ∷ [])
cut_stop input rest (stops.Header other why) stopped cut = absurd (cut.1 other why stopped)
cut_stop input rest (stops.Early end) stopped cut = cut_among end (cut_early [] input rest end stopped.1 cut)
cut_stop input rest (stops.Memory memory) stopped cut = inr (inl refl)

much_stop : (input rest : List ℕ) (stop : Stop) → Stopped (Some rest) input stop → EndedEarly (Some rest) input early.TooMuch → Among (status_of stop) (TooMuch ∷ Memory refused ∷ WriteFault ∷ [])
much_stop input rest (stops.Header other why) stopped much = absurd (much.1 other why stopped)
much_stop input rest (stops.Early end) stopped much = inl (ap (λ (e : EarlyEnd). status_at (Early e)) (much_early [] input rest end stopped.1 much))
much_stop input rest (stops.Memory memory) stopped much = inr (inl refl)

-- The reading of a whole text stops for no other reason

served_stop : (stop : Stop) (input rest : List ℕ) → Stopped (Some rest) input stop → length input ≤ input_limit → IsSessionText (input ++ rest) → (status_of stop ≡ ReadFault → ⊥) → status_of stop ≡ Memory refused
served_stop (stops.Header line reason) input rest fault within is reads =
    absurd (served_faultless [] input rest is line reason fault)
served_stop (stops.Early end) input rest stopped within is reads = absurd (reads (ap (λ (e : EarlyEnd). status_at (Early e)) (served_early [] input rest end stopped.1 within is)))
served_stop (stops.Memory memory) input rest stopped within is reads = refl

served_end : (end : TextEnd) (input rest : List ℕ) → TextEnded (Some rest) input end → length input ≤ input_limit → IsSessionText (input ++ rest) → (status_at end ≡ ReadFault → ⊥) → status_at end ≡ Done
served_end EndLine input rest ended within is reads = refl
served_end (Early end) input rest ended within is reads = absurd (reads (ap (λ (e : EarlyEnd). status_at (Early e)) (served_early [] input rest end ended within is)))

memory_alone : (result : Status) (stop : Stop) → Among result (status_of stop ∷ Memory refused ∷ []) → status_of stop ≡ Memory refused → Among result (Done ∷ Memory refused ∷ [])
memory_alone result stop (inl one) is = inr (inl (one ∙ is))
memory_alone result stop (inr (inl one)) is = inr (inl one)
memory_alone result stop (inr (inr none)) is = absurd none

module _ (IsTextOf : KindOfText) {K : Type 0} (written : K → Option (List ℕ)) (faults : K → ℕ) (out out' : K) where
  abbrev Whole : TextEnd → List ℕ → Option (List ℕ) → Type 0
  Whole end input left = GotWhole IsTextOf written faults out out' end input left

  abbrev Part : TextEnd → List ℕ → Option (List ℕ) → Type 0
  Part end input left = GotPartOf IsTextOf written faults out out' end input left

  abbrev Text : TextEnd → List ℕ → Option (List ℕ) → Status → Type 0
  Text end input left status = RanText IsTextOf written faults out out' end input left status

  -- what was done at the status that was told; out of memory may have taken a status' place
  abbrev pub After : List ℕ → Option (List ℕ) → Result TextEnd Stop → Status → Type 0
  After input left (Ok end) status = RanText IsTextOf written faults out out' end input left status
  After input left (Err stop) status = Among status (status_of stop ∷ Memory refused ∷ []) × (out' ≡ out)

  whole_part : (end : TextEnd) (input : List ℕ) (left : Option (List ℕ)) → Whole end input left → Part end input left
  whole_part end input left (text, is, all) = (text, is, AppendedPart-whole all)

  text_memory : (end : TextEnd) (input : List ℕ) (left : Option (List ℕ)) (status : Status) → Text end input left status → Text end input left (Memory refused)
  text_memory end input left status (inl (is, all)) = inr (inr (refl, inr (whole_part end input left all)))
  text_memory end input left status (inr (inl (is, part, rose))) = inr (inr (refl, inr part))
  text_memory end input left status (inr (inr (is, some))) = inr (inr (refl, some))

  pub After-told : (input : List ℕ) (left : Option (List ℕ)) (read : Result TextEnd Stop) (status result : Status) → Followed IsTextOf written faults out out' input left read status → Among result (status ∷ Memory refused ∷ []) → After input left read result
  After-told input left (Ok end) status result ran (inl same) = subst (λ (s : Status). Text end input left s) (sym same) ran
  After-told input left (Ok end) status result ran (inr (inl same)) = subst (λ (s : Status). Text end input left s) (sym same) (text_memory end input left status ran)
  After-told input left (Ok end) status result ran (inr (inr none)) = absurd none
  After-told input left (Err stop) status result ran is = (subst (λ (s : Status). Among result (s ∷ Memory refused ∷ [])) ran.0 is, ran.1)

  -- a status of an end of the text is that of its own end
  text_end : (end other : TextEnd) (input : List ℕ) (left : Option (List ℕ)) (result : Status) → Text end input left result → result ≡ status_at other → (end ≡ other) × Whole end input left
  text_end end other input left result (inl (is, all)) same = (same_end end other (sym is ∙ same), all)
  text_end end other input left result (inr (inl (is, part, rose))) same = absurd (no_end other WriteFault write_no_end (sym same ∙ is))
  text_end end other input left result (inr (inr (is, some))) same = absurd (no_end other (Memory refused) memory_no_end (sym same ∙ is))

  -- another is out of memory or a fault of writing
  text_other : (end : TextEnd) (input : List ℕ) (left : Option (List ℕ)) (result status : Status) → IsNoEnd status → Text end input left result → result ≡ status → (status ≡ WriteFault) ⊎ (status ≡ Memory refused)
  text_other end input left result status none (inl (is, all)) same = absurd (no_end end status none (sym is ∙ same))
  text_other end input left result status none (inr (inl (is, part, rose))) same = inl (sym same ∙ is)
  text_other end input left result status none (inr (inr (is, more))) same = inr (sym same ∙ is)

  text_among : (end : TextEnd) (input : List ℕ) (left : Option (List ℕ)) (result other : Status) (earlier : List Status) → Text end input left result → Among (status_at end) (other ∷ Memory refused ∷ earlier) → Among WriteFault (other ∷ Memory refused ∷ earlier) → Among result (other ∷ Memory refused ∷ earlier)
  text_among end input left result other earlier (inl (is, all)) there faulted = subst (λ (s : Status). Among s (other ∷ Memory refused ∷ earlier)) (sym is) there
  text_among end input left result other earlier (inr (inl (is, part, rose))) there faulted = subst (λ (s : Status). Among s (other ∷ Memory refused ∷ earlier)) (sym is) faulted
  text_among end input left result other earlier (inr (inr (is, more))) there faulted = inr (inl is)

  pub header_exactly : (read : Result TextEnd Stop) (result : Status) (input rest : List ℕ) (line : ℕ) (reason : HeadReason) → After input (Some rest) read result → ReadCame (Some rest) input read → EndsExactly result (HeadFault line reason) [] (HasFault input line reason)
  header_exactly (Ok end) result input rest line reason ran came = record {
    only = λ is. absurd (header_never (text_other end input (Some rest) result (HeadFault line reason) (header_no_end line reason) ran is));
    always = λ fault. absurd (HasSession-no_fault input came.0.0 line reason came.0.1 fault);
  }
    where
      header_never : (HeadFault line reason ≡ WriteFault) ⊎ (HeadFault line reason ≡ Memory refused) → ⊥
      header_never (inl is) = cc
      header_never (inr is) = cc
  header_exactly (Err stop) result input rest line reason ran came = record {
    only = λ is. subst (Stopped (Some rest) input) (stop_told stop (stops.Header line reason) result (λ same. cc) ran.0 is) came;
    always = λ fault. among_stop result (status_of stop) (HeadFault line reason) [] ran.0 (header_stop input rest line reason stop came fault);
  }

  -- an early end that was told
  pub early_told : (read : Result TextEnd Stop) (result : Status) (input rest : List ℕ) (end : EarlyEnd) → After input (Some rest) read result → ReadCame (Some rest) input read → result ≡ status_at (Early end)
      → EndedEarly (Some rest) input end × GotSoFar IsTextOf written faults out out' end input (Some rest)
  early_told (Ok found) result input rest end ran came is =
      let told = text_end found (Early end) input (Some rest) result ran is in (
        subst (TextEnded (Some rest) input) told.0 came.1,
        inl (came.0, subst (λ (e : TextEnd). Whole e input (Some rest)) told.0 told.1),
      )
  early_told (Err stop) result input rest end ran came is =
      let stopped : Stopped (Some rest) input (stops.Early end) = subst (Stopped (Some rest) input) (stop_told stop (stops.Early end) result (λ same. cc) ran.0 is) came in
      (stopped.1, inr (stopped.0, nothing_of ran.1))
    where
      nothing_of : out' ≡ out → GotNothing written faults out out'
      nothing_of same = subst (λ (k : K). Appended written faults out k []) (sym same) (Appended-nil written faults out)

  pub cut_exactly : (read : Result TextEnd Stop) (result : Status) (input rest : List ℕ) → After input (Some rest) read result → ReadCame (Some rest) input read → EndsExactly result Cut (ReadFault ∷ WriteFault ∷ []) (EndedEarly (Some rest) input early.Cut)
  cut_exactly (Ok end) result input rest ran came = record {
    only = λ is. (early_told (Ok end) result input rest early.Cut ran came is).0;
    always = λ cut. text_among end input (Some rest) result Cut (ReadFault ∷ WriteFault ∷ []) ran (cut_text input rest end came.1 cut) (inr (inr (inr (inl refl))));
  }
  cut_exactly (Err stop) result input rest ran came = record {
    only = λ is. (early_told (Err stop) result input rest early.Cut ran came is).0;
    always = λ cut. among_stop result (status_of stop) Cut (ReadFault ∷ WriteFault ∷ []) ran.0 (cut_stop input rest stop came cut);
  }

  pub much_exactly : (read : Result TextEnd Stop) (result : Status) (input rest : List ℕ) → After input (Some rest) read result → ReadCame (Some rest) input read → EndsExactly result TooMuch (WriteFault ∷ []) (EndedEarly (Some rest) input early.TooMuch)
  much_exactly (Ok end) result input rest ran came = record {
    only = λ is. (early_told (Ok end) result input rest early.TooMuch ran came is).0;
    always = λ much. text_among end input (Some rest) result TooMuch (WriteFault ∷ []) ran (much_text input rest end came.1 much) (inr (inr (inl refl)));
  }
  much_exactly (Err stop) result input rest ran came = record {
    only = λ is. (early_told (Err stop) result input rest early.TooMuch ran came is).0;
    always = λ much. among_stop result (status_of stop) TooMuch (WriteFault ∷ []) ran.0 (much_stop input rest stop came much);
  }

  pub done_whole : (read : Result TextEnd Stop) (result : Status) (input rest : List ℕ) → After input (Some rest) read result → result ≡ Done → GotWhole IsTextOf written faults out out' EndLine input (Some rest)
  done_whole (Ok end) result input rest ran is =
      let told = text_end end EndLine input (Some rest) result ran is in subst (λ (e : TextEnd). Whole e input (Some rest)) told.0 told.1
  done_whole (Err stop) result input rest ran is = absurd (no_stop stop result Done done_no_stop ran.0 is)

  text_fault : (end : TextEnd) (input : List ℕ) (left : Option (List ℕ)) (result : Status) → Text end input left result → result ≡ WriteFault → Part end input left × Rose (faults out) (faults out')
  text_fault end input left result (inl (is, all)) same = absurd (no_end end WriteFault write_no_end (sym is ∙ same))
  text_fault end input left result (inr (inl (is, part, rose))) same = (part, rose)
  text_fault end input left result (inr (inr (is, some))) same = absurd (let e : Memory refused ≡ WriteFault = sym is ∙ same in cc)

  pub fault_rose : (input : List ℕ) (left : Option (List ℕ)) (read : Result TextEnd Stop) (result : Status) → After input left read result → result ≡ WriteFault → Rose (faults out) (faults out')
  fault_rose input left (Ok end) result ran is = (text_fault end input left result ran is).1
  fault_rose input left (Err stop) result ran is = absurd (no_stop stop result WriteFault write_no_stop ran.0 is)

  some_text : (end : TextEnd) (input : List ℕ) (left : Option (List ℕ)) → Part end input left → GotPart IsTextOf written faults out out' input left
  some_text end input left part = (end, part.0, part.1, part.2)

  pub fault_part : (read : Result TextEnd Stop) (result : Status) (input rest : List ℕ) → After input (Some rest) read result → result ≡ WriteFault → GotPart IsTextOf written faults out out' input (Some rest)
  fault_part (Ok end) result input rest ran is = some_text end input (Some rest) (text_fault end input (Some rest) result ran is).0
  fault_part (Err stop) result input rest ran is = absurd (no_stop stop result WriteFault write_no_stop ran.0 is)

  nothing_so : out' ≡ out → GotNothing written faults out out'
  nothing_so same = subst (λ (k : K). Appended written faults out k []) (sym same) (Appended-nil written faults out)

  some_part : (end : TextEnd) (input : List ℕ) (left : Option (List ℕ)) → (out' ≡ out) ⊎ Part end input left → GotNothing written faults out out' ⊎ GotPart IsTextOf written faults out out' input left
  some_part end input left (inl none) = inl (nothing_so none)
  some_part end input left (inr part) = inr (some_text end input left part)

  text_part : (end : TextEnd) (input : List ℕ) (left : Option (List ℕ)) (result : Status) → Text end input left result → result ≡ Memory refused → GotNothing written faults out out' ⊎ GotPart IsTextOf written faults out out' input left
  text_part end input left result (inl (is, all)) same = inr (some_text end input left (whole_part end input left all))
  text_part end input left result (inr (inl (is, part, rose))) same = inr (some_text end input left part)
  text_part end input left result (inr (inr (is, some))) same = some_part end input left some

  pub memory_part : (read : Result TextEnd Stop) (result : Status) (input rest : List ℕ) → After input (Some rest) read result → result ≡ Memory refused → GotNothing written faults out out' ⊎ GotPart IsTextOf written faults out out' input (Some rest)
  memory_part (Ok end) result input rest ran is = text_part end input (Some rest) result ran is
  memory_part (Err stop) result input rest ran is = inl (nothing_so ran.1)

  pub header_nothing : (input : List ℕ) (left : Option (List ℕ)) (read : Result TextEnd Stop) (result : Status) (line : ℕ) (reason : HeadReason) → After input left read result → result ≡ HeadFault line reason → GotNothing written faults out out'
  header_nothing input left (Ok end) result line reason ran is = absurd (header_never (text_other end input left result (HeadFault line reason) (header_no_end line reason) ran is))
    where
      header_never : (HeadFault line reason ≡ WriteFault) ⊎ (HeadFault line reason ≡ Memory refused) → ⊥
      header_never (inl is) = cc
      header_never (inr is) = cc
  header_nothing input left (Err stop) result line reason ran is = nothing_so ran.1

  -- a read fault that was told is the reading's
  pub read_told : (input : List ℕ) (left : Option (List ℕ)) (read : Result TextEnd Stop) (result : Status) → After input left read result → result ≡ ReadFault → status_read read ≡ ReadFault
  read_told input left (Ok end) result ran is = ap status_at (text_end end (Early early.ReadFault) input left result ran is).0
  read_told input left (Err stop) result ran is = ap status_of (stop_told stop (stops.Early early.ReadFault) result (λ same. cc) ran.0 is)

  -- no other status is told
  pub after_answers : (input : List ℕ) (left : Option (List ℕ)) (read : Result TextEnd Stop) (result : Status) → After input left read result → Answers result
  after_answers input left (Ok end) result (inl (is, all)) = subst Answers (sym is) (end_answers end)
  after_answers input left (Ok end) result (inr (inl (is, part, rose))) = inr (inr (inr (inr (inl is))))
  after_answers input left (Ok end) result (inr (inr (is, some))) = inr (inr (inr (inr (inr (inl is)))))
  after_answers input left (Err stop) result (inl is, same) = subst Answers (sym is) (stop_answers stop)
  after_answers input left (Err stop) result (inr (inl is), same) = inr (inr (inr (inr (inr (inl is)))))
  after_answers input left (Err stop) result (inr (inr none), same) = absurd none

  -- Completeness

  served_text : (end : TextEnd) (input : List ℕ) (left : Option (List ℕ)) (result : Status) → Text end input left result → status_at end ≡ Done → ¬ (Rose (faults out) (faults out')) → Among result (Done ∷ Memory refused ∷ [])
  served_text end input left result (inl (is, all)) done writes = inl (is ∙ done)
  served_text end input left result (inr (inl (is, part, rose))) done writes = absurd (writes rose)
  served_text end input left result (inr (inr (is, some))) done writes = inr (inl is)

  pub served : (read : Result TextEnd Stop) (result : Status) (input rest : List ℕ) → After input (Some rest) read result → ReadCame (Some rest) input read → length input ≤ input_limit → IsSessionText (input ++ rest)
      → (status_read read ≡ ReadFault → ⊥) → ¬ (Rose (faults out) (faults out')) → Among result (Done ∷ Memory refused ∷ [])
  served (Ok end) result input rest ran came within is reads writes =
      served_text end input (Some rest) result ran (served_end end input rest came.1 within is reads) writes
  served (Err stop) result input rest ran came within is reads writes =
      memory_alone result stop ran.0 (served_stop stop input rest came within is reads)

-- What was done with a word that runs a session

module _ (IsTextOf : KindOfText) {S K : Type 0} (left : S → Option (List ℕ)) (failed : S → ℕ) (written : K → Option (List ℕ)) (faults : K → ℕ) (source source' : S) (out out' : K) where
  abbrev TheRun : Status → Type 0
  TheRun status = Ran IsTextOf left failed written faults source source' out out' status

  after_told : (status result : Status) (ran : TheRun status) → Among result (status ∷ Memory refused ∷ []) → After IsTextOf written faults out out' ran.input (left source') ran.read result
  after_told status result ran tells = After-told IsTextOf written faults out out' ran.input (left source') ran.read status result ran.followed tells

  -- where the source tells its bytes
  after_at : (status result : Status) (ran : TheRun status) (input rest : List ℕ) → Among result (status ∷ Memory refused ∷ []) → left source ≡ Some (input ++ rest) → left source' ≡ Some rest → After IsTextOf written faults out out' input (Some rest) ran.read result
  after_at status result ran input rest tells had now =
      subst (λ (bytes : List ℕ). After IsTextOf written faults out out' bytes (Some rest) ran.read result) (Took-is left failed source source' ran.input input rest ran.took had now)
      (subst (λ (known : Option (List ℕ)). After IsTextOf written faults out out' ran.input known ran.read result) now (after_told status result ran tells))

  came_at : (status : Status) (ran : TheRun status) (input rest : List ℕ) → left source ≡ Some (input ++ rest) → left source' ≡ Some rest → ReadCame (Some rest) input ran.read
  came_at status ran input rest had now =
      subst (λ (bytes : List ℕ). ReadCame (Some rest) bytes ran.read) (Took-is left failed source source' ran.input input rest ran.took had now)
      (subst (λ (known : Option (List ℕ)). ReadCame known ran.input ran.read) now ran.came)

  complete_ran : (status result : Status) (bytes : List ℕ) (ran : TheRun status) → Among result (status ∷ Memory refused ∷ []) → left source ≡ Some bytes → IsSessionText bytes → ¬ (Rose (failed source) (failed source')) → ¬ (Rose (faults out) (faults out')) → Among result (Done ∷ Memory refused ∷ [])
  complete_ran status result bytes ran tells had is reads writes =
      let split = told_bytes bytes ran.input (left source') (sym had ∙ ran.took.moved) in
      let had' : left source ≡ Some (ran.input ++ split.0) = had ∙ ap (λ (text : List ℕ). Some text) split.2 in
      served IsTextOf written faults out out' ran.read result ran.input split.0 (after_at status result ran ran.input split.0 tells had' split.1) (came_at status ran ran.input split.0 had' split.1) ran.within
      (subst (λ (text : List ℕ). IsSessionText text) split.2 is) (λ fault. reads (ran.cause fault)) writes

  complete_known : (status result : Status) (known : Option (List ℕ)) (ran : TheRun status) → Among result (status ∷ Memory refused ∷ []) → left source ≡ known
      → IfSome known (λ bytes. IsSessionText bytes → ¬ (Rose (failed source) (failed source')) → ¬ (Rose (faults out) (faults out')) → Among result (Done ∷ Memory refused ∷ []))
  complete_known status result None ran tells had = tt
  complete_known status result (Some bytes) ran tells had = complete_ran status result bytes ran tells had

  before_fault : (input rest : List ℕ) → EndedEarly (Some rest) input early.ReadFault → HasNoFault input × ¬ (HasEnd input)
  before_fault input rest ended = (ended.1, ended.2)

  -- the run, and the status that was told of it
  source_causes : (status result : Status) → TheRun status → Among result (status ∷ Memory refused ∷ []) → SourceCauses [] left failed source source' result
  source_causes status result ran tells = record {
    taken = record { bytes = ran.input; took = ran.took; within = ran.within };
    prompt = λ input rest had now. subst (λ (bytes : List ℕ). IsPrompt bytes) (Took-is left failed source source' ran.input input rest ran.took had now) ran.prompt;
    header = λ input rest had now line reason. header_exactly IsTextOf written faults out out' ran.read result input rest line reason (after_at status result ran input rest tells had now) (came_at status ran input rest had now);
    cut = λ input rest had now. cut_exactly IsTextOf written faults out out' ran.read result input rest (after_at status result ran input rest tells had now) (came_at status ran input rest had now);
    too_much = λ input rest had now. much_exactly IsTextOf written faults out out' ran.read result input rest (after_at status result ran input rest tells had now) (came_at status ran input rest had now);
    read_fault = λ is. ran.cause (read_told IsTextOf written faults out out' ran.input (left source') ran.read result (after_told status result ran tells) is);
    read_before = λ is input rest had now.
        before_fault input rest (early_told IsTextOf written faults out out' ran.read result input rest early.ReadFault (after_at status result ran input rest tells had now) (came_at status ran input rest had now) is).0;
  }

  got_text : (status result : Status) → TheRun status → Among result (status ∷ Memory refused ∷ []) → GotText IsTextOf left written faults source source' out out' result
  got_text status result ran tells = record {
    done = λ is input rest had now. done_whole IsTextOf written faults out out' ran.read result input rest (after_at status result ran input rest tells had now) is;
    so_far = λ end is input rest had now. (early_told IsTextOf written faults out out' ran.read result input rest end (after_at status result ran input rest tells had now) (came_at status ran input rest had now) is).1;
    write_fault = λ is. fault_rose IsTextOf written faults out out' ran.input (left source') ran.read result (after_told status result ran tells) is;
    part = λ is input rest had now. fault_part IsTextOf written faults out out' ran.read result input rest (after_at status result ran input rest tells had now) is;
    memory = λ is input rest had now. memory_part IsTextOf written faults out out' ran.read result input rest (after_at status result ran input rest tells had now) is;
    nothing = λ line reason is. header_nothing IsTextOf written faults out out' ran.input (left source') ran.read result line reason (after_told status result ran tells) is;
  }

  pub session_did : (status result : Status) → TheRun status → Among result (status ∷ Memory refused ∷ []) → DidSession IsTextOf left failed written faults source source' out out' result
  session_did status result ran tells = record {
    causes = source_causes status result ran tells;
    got = got_text status result ran tells;
    answers = after_answers IsTextOf written faults out out' ran.input (left source') ran.read result (after_told status result ran tells);
    complete = complete_known status result (left source) ran tells refl;
  }

  -- a run that did not begin, out of memory
  pub not_begun : source' ≡ source → out' ≡ out → TheRun (Memory refused)
  not_begun unread unwritten = record {
    input = [];
    took = subst (λ (s : S). Took left failed source s []) (sym unread) (Took-nil left failed source);
    within = omega arith;
    prompt = prompt_here [] [] GoesOn-nil;
    read = Err (stops.Memory refused);
    came = tt;
    cause = λ is. absurd cc;
    followed = (refl, unwritten);
  }

-- the refusal of words, told
pub told_usage : (status result : Status) {other : Type 0} → Among result (status ∷ Memory refused ∷ []) → (status ≡ Usage → other) → (other → Among status (Usage ∷ Memory refused ∷ [])) → EndsExactly result Usage [] other
told_usage status result (inl same) only always = record {
  only = λ is. only (sym same ∙ is);
  always = λ cause. subst (λ (s : Status). Among s (Usage ∷ Memory refused ∷ [])) (sym same) (always cause);
}
told_usage status result (inr (inl memory)) only always = record { only = λ is. let no : Usage ≡ Memory refused = sym is ∙ memory in absurd cc; always = λ cause. inr (inl memory) }
told_usage status result (inr (inr none)) only always = absurd none
