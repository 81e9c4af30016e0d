-- What `keep` and `restart` did, by how far they came.
use Rattle.std.proofs.Common.{ℕ, ◌≡◌, ◌⊎◌, ◌<◌, ◌≤◌, List, [], ◌∷◌, ◌++◌, length, map, Option, Result, Ok, Err, refl, ap, sym, ◌∙◌, subst, arith, inl, inr}
use Rattle.std.specs.Prelude.{is_some, IsErrAnd}
use Rattle.std.proofs.lemmas.List.{length-map}
use Rattle.fx_amounts.specs.OutOfMemory.{refused}
use Rattle.fx_amounts.specs.declared.memory.Memory.{Memory as AmountsMemory}
use Rattle.fx_edges.proofs.Reading.{Took-nil}
use Rattle.fx_edges.proofs.Writing.{Appended-nil}
use Rattle.fx_rules.specs.declared.outcome.Entry.{Entry}
use Rattle.fx_rules.specs.Lists.{Among}
use Rattle.fx_rules.specs.Session.{Header as SessionHeader}
use Rattle.fx_rules.specs.History.{IsLegal}
use Rattle.fx_rules.specs.Sending.{sent_by}
use Rattle.fx_disk.specs.Disk.{WhereTold, Only, LeavesOnly}
use Rattle.keep_disk.specs.Blocks.{whole_blocks}
use Rattle.keep_disk.specs.Keeping.{HasCause}
use Rattle.keep_disk.specs.declared.rounds.Round.{Round}
use Rattle.fx_disk.specs.declared.disk.DiskStop.{DiskStop}
use Rattle.fx_disk.specs.declared.disk.DiskStop.TheVariants as disks
use Rattle.kept_history.specs.Blocks.{Listed, kept_in}
use Rattle.kept_history.specs.Found.{IsWhole, IsFull}
use Rattle.kept_call.specs.Running.{new_session}
use Rattle.session_head.specs.HeadText.{head_text_of}
use Rattle.session_script.specs.Rounds.{HasStopped}
use Rattle.session_script.specs.declared.ends.EarlyEnd.TheVariants.{ReadFault}
use Rattle.session_script.specs.declared.ends.TextEnd.{TextEnd}
use Rattle.session_script.specs.declared.ends.TextEnd.TheVariants as ends
use Rattle.session_script.specs.declared.ends.Stop.{Stop}
use Rattle.session_script.specs.declared.ends.Stop.TheVariants as stops
use Rattle.session_script.proofs.ScriptReading.{GoesOn-nil, prompt_here}
use Rattle.session_script.specs.Reading.{HasNoFault, TextEndedBehind}
use Rattle.session_script.specs.Script.{HasSession}
use Rattle.session_script.proofs.ScriptLaws.{HasSession-no_fault, HasFault-more}
use Rattle.session_script.specs.declared.ends.EarlyEnd.{EarlyEnd}
use Rattle.kept_call.specs.Call.{StopsANewSession, StopsARestart, ReadSo, TookText, Completes, KeptSession, KeptNew, DidKeep, DidRestart}
use Rattle.kept_call.specs.Fault.{of_keeper, of_stop, Exactly, HasCauses}
use Rattle.kept_call.specs.Kept.{StopsASession, EndedSo, KeptNothing, KeptBehind}
use Rattle.kept_call.specs.inside.Served.{Served, gone_on, IsRefusal}
use Rattle.kept_call.specs.declared.fault.KeptFault.{KeptFault}
use Rattle.kept_call.specs.declared.fault.KeptFault.TheVariants.{Header, Early, Kept, Empty, Damaged, Full, Disk, Write, Memory}
use Rattle.kept_call.proofs.Exactly.{took-text, completes, completes-refused}
use Rattle.kept_call.proofs.Faults.{for_err, causes-steady, causes-of_keeper}
use Rattle.kept_call.proofs.Opening.{opened-short, opened-kept, opened-moments, opened-at_return}
use Rattle.kept_call.proofs.ReadingBack.{read_back-behind, read_back-new}

abbrev Answer : Type 0
Answer = Result TextEnd KeptFault

abbrev err_of : KeptFault → Answer
err_of fault = Err fault

err_to : (e f : KeptFault) → err_of e ≡ err_of f → e ≡ f
err_to e f is = cc

-- Faults

session_stops_new : (fault : KeptFault) → StopsASession fault → StopsANewSession fault
session_stops_new (Header line reason) stops = absurd stops
session_stops_new (Early end) stops = absurd stops
session_stops_new Kept stops = absurd stops
session_stops_new Empty stops = absurd stops
session_stops_new (Damaged block) stops = absurd stops
session_stops_new Full stops = absurd stops
session_stops_new Disk stops = tt
session_stops_new Write stops = tt
session_stops_new (Memory memory) stops = tt

-- an answer that is one of these faults, or none
abbrev Stops : Answer → Type 0
Stops (Ok end) = Unit {0}
Stops (Err fault) = StopsASession fault

never : (result : Answer) (fault : KeptFault) → Stops result → (StopsASession fault → ⊥) → result ≡ Err fault → ⊥
never result fault stops not is = not (subst Stops is stops)

pub none_of : (blocks : List (List ℕ)) → length blocks ≤ 0 → blocks ≡ []
none_of [] le = refl
none_of (block ∷ blocks) le = absurd (omega (arith, le))

none_longer : (blocks : List (List ℕ)) → blocks ≡ [] → 0 < length blocks → ⊥
none_longer blocks none some = omega (arith, ap (λ (bs : List (List ℕ)). length bs) none, some)

-- The faults of a file that could not be opened

keeper_read : (fault : DiskStop) (known : Option (List ℕ)) → ReadSo [] known [] (Err (of_keeper fault))
keeper_read disks.Failed known = inl refl
keeper_read (disks.Memory memory) known = tt

keeper_is_none : (fault : DiskStop) (other : KeptFault) → (Disk ≡ other → ⊥) → ((memory : AmountsMemory) → Memory memory ≡ other → ⊥) → of_keeper fault ≡ other → ⊥
keeper_is_none disks.Failed other no_disk no_memory is = no_disk is
keeper_is_none (disks.Memory memory) other no_disk no_memory is = no_memory memory is

keeper_among : (fault : DiskStop) (other : KeptFault) → Among (err_of (of_keeper fault)) (Err other ∷ Err Disk ∷ Err (Memory refused) ∷ [])
keeper_among disks.Failed other = inr (inl refl)
keeper_among (disks.Memory memory) other = inr (inr (inl refl))

keeper_unopened : (f : DiskStop) → Among (err_of (of_keeper f)) (Err Disk ∷ Err (Memory refused) ∷ [])
keeper_unopened disks.Failed = inl refl
keeper_unopened (disks.Memory memory) = inr (inl refl)

-- Texts that were served

module _ {K : Type 0} (written : K → Option (List ℕ)) (faults : K → ℕ) (out out' : K) (h : SessionHeader) (kept : List Entry) (head : List (List ℕ)) (front input : List ℕ) (known : Option (List ℕ)) where
  abbrev Told : Answer → List Round → ℕ → Type 0
  Told result rounds count = KeptNothing written faults out out' StopsASession result rounds ⊎ KeptBehind written faults out out' h kept head front input known result rounds count

  told_stops : (result : Answer) (rounds : List Round) (count : ℕ) → Told result rounds count → Stops result
  told_stops (Ok end) rounds count told = tt
  told_stops (Err fault) rounds count (inl nothing) = let same : fault ≡ nothing.fault = err_to fault nothing.fault nothing.answers in subst StopsASession (sym same) nothing.among
  told_stops (Err fault) rounds count (inr behind) = behind.answered

  -- a text that ended so, and was served
  told_ended : (end : TextEnd) (rounds : List Round) (count : ℕ) → Told (Ok end) rounds count → TextEndedBehind front known input end
  told_ended end rounds count (inl nothing) = absurd (let is : Ok end ≡ Err nothing.fault = nothing.answers in cc)
  told_ended end rounds count (inr behind) =
      (subst (λ (e : Option TextEnd). EndedSo written faults out out' h kept head front input known behind.entries rounds count behind.rest e) behind.answered.0 behind.ended_so).at_its_end

  read_served : (result : Answer) (rounds : List Round) (count : ℕ) → HasSession (front ++ input) h → Told result rounds count → ReadSo front known input result
  read_served (Ok end) rounds count session told = ((h, session), told_ended end rounds count told)
  read_served (Err (Header line reason)) rounds count session told = absurd (told_stops (Err (Header line reason)) rounds count told)
  read_served (Err (Early end)) rounds count session told = absurd (told_stops (Err (Early end)) rounds count told)
  read_served (Err Kept) rounds count session told = absurd (told_stops (Err Kept) rounds count told)
  read_served (Err Empty) rounds count session told = absurd (told_stops (Err Empty) rounds count told)
  read_served (Err (Damaged block)) rounds count session told = absurd (told_stops (Err (Damaged block)) rounds count told)
  read_served (Err Full) rounds count session told = absurd (told_stops (Err Full) rounds count told)
  read_served (Err Disk) rounds count session told = inr (h, session)
  read_served (Err Write) rounds count session told = (h, session)
  read_served (Err (Memory memory)) rounds count session told = tt

early_never : (result : Answer) → Stops result → result ≡ Err (Early ReadFault) → ⊥
early_never result stops is = subst Stops is stops

either_fault : (result : Answer) {P : Type 0} → Stops result → (result ≡ Ok (ends.Early ReadFault) → P) → (result ≡ Ok (ends.Early ReadFault)) ⊎ (result ≡ Err (Early ReadFault)) → P
either_fault result stops rose (inl is) = rose is
either_fault result stops rose (inr is) = absurd (early_never result stops is)

-- Readings that stopped before START

stopped_read : {S : Type 0} (left : S → Option (List ℕ)) (failed : S → ℕ) (before now : S) (stop : Stop) (has : HasStopped left failed before now stop) → ReadSo [] (left now) has.input (Err (of_stop stop))
stopped_read left failed before now (stops.Header line reason) has = has.stopped
stopped_read left failed before now (stops.Early end) has = has.stopped
stopped_read left failed before now (stops.Memory memory) has = tt

stopped_fault : (stop : Stop) → of_stop stop ≡ Early ReadFault → stop ≡ stops.Early ReadFault
stopped_fault (stops.Header line reason) is = absurd cc
stopped_fault (stops.Early end) is = let same : end ≡ ReadFault = cc in ap (λ (e : EarlyEnd). stops.Early e) same
stopped_fault (stops.Memory memory) is = absurd cc

stopped_is_none : (stop : Stop) → of_stop stop ≡ Kept → ⊥
stopped_is_none (stops.Header line reason) is = cc
stopped_is_none (stops.Early end) is = cc
stopped_is_none (stops.Memory memory) is = cc

stopped_among : (stop : Stop) → StopsANewSession (of_stop stop)
stopped_among (stops.Header line reason) = tt
stopped_among (stops.Early end) = tt
stopped_among (stops.Memory memory) = tt

-- What blocks hold

abbrev listed_of : Listed → Result Listed ℕ
listed_of kept = Ok kept

abbrev damaged_of : ℕ → Result Listed ℕ
damaged_of block = Err block

listed_to : (a b : Listed) → listed_of a ≡ listed_of b → a ≡ b
listed_to a b is = cc

block_to : (a b : ℕ) → damaged_of a ≡ damaged_of b → a ≡ b
block_to a b is = cc

no_blocks : (block : ℕ) (kept : Listed) (bodies : List (List ℕ)) → kept_in bodies ≡ Ok kept → kept_in bodies ≡ Err block → ⊥
no_blocks block kept bodies ok err = let both : listed_of kept ≡ damaged_of block = sym ok ∙ err in cc

whole_some : (bodies : List (List ℕ)) {h : SessionHeader} {entries : List Entry} → IsWhole bodies h entries → bodies ≡ [] → ⊥
whole_some bodies {h} {entries} whole none = no_blocks 0 (record { session = h; commands = map sent_by entries }) bodies whole.holds (ap kept_in none)

whole_undamaged : (bodies : List (List ℕ)) {h : SessionHeader} {entries : List Entry} → IsWhole bodies h entries → (block : ℕ) → kept_in bodies ≡ Err block → ⊥
whole_undamaged bodies {h} {entries} whole block damaged = no_blocks block (record { session = h; commands = map sent_by entries }) bodies whole.holds damaged

whole_few : (bodies : List (List ℕ)) {h : SessionHeader} {entries : List Entry} → IsWhole bodies h entries → (commands : ℕ) → IsFull bodies commands → ⊥
whole_few bodies {h} {entries} whole commands full =
    let same : full.kept ≡ record { session = h; commands = map sent_by entries } = listed_to full.kept (record { session = h; commands = map sent_by entries }) (sym full.holds ∙ whole.holds) in
    omega (arith, full.many, full.told, whole.few, ap (λ (kept : Listed). length kept.commands) same, length-map entries sent_by)

whole_same : (bodies : List (List ℕ)) {h g : SessionHeader} {entries others : List Entry} → IsWhole bodies h entries → IsWhole bodies g others → h ≡ g
whole_same bodies {h} {g} {entries} {others} one other =
    ap (λ (kept : Listed). kept.session) (listed_to (record { session = h; commands = map sent_by entries }) (record { session = g; commands = map sent_by others }) (sym one.holds ∙ other.holds))

refused_empty : (bodies : List (List ℕ)) (fault : KeptFault) → IsRefusal bodies fault → Exactly (err_of fault) Empty (bodies ≡ [])
refused_empty bodies Empty refusal = record { only = λ is. refusal; always = λ cause. inl refl }
refused_empty bodies (Damaged block) refusal = record { only = λ is. absurd cc; always = λ none. absurd (none_longer bodies none refusal.0) }
refused_empty bodies Full refusal = record { only = λ is. absurd cc; always = λ none. absurd (none_longer bodies none refusal.1) }
refused_empty bodies (Memory memory) refusal = record { only = λ is. absurd cc; always = λ cause. inr (inr (inl refl)) }
refused_empty bodies (Header line reason) refusal = absurd refusal
refused_empty bodies (Early end) refusal = absurd refusal
refused_empty bodies Kept refusal = absurd refusal
refused_empty bodies Disk refusal = absurd refusal
refused_empty bodies Write refusal = absurd refusal

err_block : (bodies : List (List ℕ)) (a b : ℕ) → kept_in bodies ≡ Err a → kept_in bodies ≡ Err b → a ≡ b
err_block bodies a b first second = block_to a b (sym first ∙ second)

refused_damaged : (bodies : List (List ℕ)) (fault : KeptFault) → IsRefusal bodies fault → (block : ℕ) → Exactly (err_of fault) (Damaged block) ((0 < length bodies) × (kept_in bodies ≡ Err block))
refused_damaged bodies Empty refusal block = record { only = λ is. absurd cc; always = λ cause. absurd (none_longer bodies refusal cause.0) }
refused_damaged bodies (Damaged other) refusal block = record {
  only = λ is. let same : Damaged other ≡ Damaged block = err_to (Damaged other) (Damaged block) is in let equal : other ≡ block = cc in (refusal.0, refusal.1 ∙ ap (λ (b : ℕ). Err b) equal);
  always = λ cause. inl (ap (λ (b : ℕ). err_of (Damaged b)) (err_block bodies other block refusal.1 cause.1));
}
refused_damaged bodies Full refusal block = record { only = λ is. absurd cc; always = λ cause. absurd (no_blocks block refusal.2.kept bodies refusal.2.holds cause.1) }
refused_damaged bodies (Memory memory) refusal block = record { only = λ is. absurd cc; always = λ cause. inr (inr (inl refl)) }
refused_damaged bodies (Header line reason) refusal block = absurd refusal
refused_damaged bodies (Early end) refusal block = absurd refusal
refused_damaged bodies Kept refusal block = absurd refusal
refused_damaged bodies Disk refusal block = absurd refusal
refused_damaged bodies Write refusal block = absurd refusal

refused_full : (bodies : List (List ℕ)) (fault : KeptFault) → IsRefusal bodies fault → Exactly (err_of fault) Full ((commands : ℕ) × (0 < length bodies) × IsFull bodies commands)
refused_full bodies Empty refusal = record { only = λ is. absurd cc; always = λ cause. absurd (none_longer bodies refusal cause.1) }
refused_full bodies (Damaged block) refusal = record { only = λ is. absurd cc; always = λ cause. absurd (no_blocks block cause.2.kept bodies cause.2.holds refusal.1) }
refused_full bodies Full refusal = record { only = λ is. refusal; always = λ cause. inl refl }
refused_full bodies (Memory memory) refusal = record { only = λ is. absurd cc; always = λ cause. inr (inr (inl refl)) }
refused_full bodies (Header line reason) refusal = absurd refusal
refused_full bodies (Early end) refusal = absurd refusal
refused_full bodies Kept refusal = absurd refusal
refused_full bodies Disk refusal = absurd refusal
refused_full bodies Write refusal = absurd refusal

-- whole blocks are refused for want of memory alone
refused_whole : (bodies : List (List ℕ)) (fault : KeptFault) {h : SessionHeader} {entries : List Entry} → IsRefusal bodies fault → IsWhole bodies h entries → Among (err_of fault) (Err Disk ∷ Err (Memory refused) ∷ [])
refused_whole bodies Empty refusal whole = absurd (whole_some bodies whole refusal)
refused_whole bodies (Damaged block) refusal whole = absurd (whole_undamaged bodies whole block refusal.1)
refused_whole bodies Full refusal whole = absurd (whole_few bodies whole refusal.0 refusal.2)
refused_whole bodies (Memory memory) refusal whole = inr (inl refl)
refused_whole bodies (Header line reason) refusal whole = absurd refusal
refused_whole bodies (Early end) refusal whole = absurd refusal
refused_whole bodies Kept refusal whole = absurd refusal
refused_whole bodies Disk refusal whole = absurd refusal
refused_whole bodies Write refusal whole = absurd refusal

refused_disk : (bodies : List (List ℕ)) (fault : KeptFault) → IsRefusal bodies fault → fault ≡ Disk → ⊥
refused_disk bodies fault refusal is = subst (IsRefusal bodies) is refusal

refused_write : (bodies : List (List ℕ)) (fault : KeptFault) → IsRefusal bodies fault → fault ≡ Write → ⊥
refused_write bodies fault refusal is = subst (IsRefusal bodies) is refusal

refused_among : (bodies : List (List ℕ)) (fault : KeptFault) → IsRefusal bodies fault → StopsARestart fault
refused_among bodies Empty refusal = tt
refused_among bodies (Damaged block) refusal = tt
refused_among bodies Full refusal = tt
refused_among bodies (Memory memory) refusal = tt
refused_among bodies (Header line reason) refusal = absurd refusal
refused_among bodies (Early end) refusal = absurd refusal
refused_among bodies Kept refusal = absurd refusal
refused_among bodies Disk refusal = absurd refusal
refused_among bodies Write refusal = absurd refusal

module _ {D K S : Type 0} (bytes : D → Option (List ℕ)) (may_leave : D → List ℕ → Type 0) (moment : D → ℕ) (left_since : D → ℕ → List ℕ → Type 0) (disk_faults : D → ℕ)
    (written : K → Option (List ℕ)) (faults : K → ℕ) (left : S → Option (List ℕ)) (failed : S → ℕ) where
  abbrev Kept-did : D → D → K → K → S → S → Answer → Type 0
  Kept-did d d' k k' s s' result = DidKeep bytes may_leave moment left_since disk_faults written faults left failed d d' k k' s s' result

  abbrev Gone-did : D → D → K → K → S → S → Answer → Type 0
  Gone-did d d' k k' s s' result = DidRestart bytes may_leave moment left_since disk_faults written faults left failed d d' k k' s s' result

  abbrev Opens : D → D → Type 0
  Opens d0 d = WhereTold (bytes d0) (λ file. Only file (may_leave d0) → LeavesOnly moment left_since d0 d (λ image. whole_blocks image ≡ whole_blocks file))

  abbrev Causes : D → D → K → K → Answer → Type 0
  Causes d d' k k' result = HasCauses disk_faults faults d d' k k' result

  abbrev Served-whole : D → D → K → K → S → S → Answer → List ℕ → Type 0
  Served-whole d d' k k' s s' result front = Completes bytes may_leave moment left_since disk_faults written faults left failed d d' k k' s s' result front

  -- what was taken of a new session's text
  abbrev Took-new : S → S → Answer → Type 0
  Took-new s s' result = TookText (Err Kept ∷ []) [] left failed s s' result

  keep-complete : (d d' : D) (k k' : K) (s s' : S) (result : Answer) → Took-new s s' result → WhereTold (bytes d) (λ file. Exactly result Kept (0 < length (whole_blocks file))) → Causes d d' k k' result
      → WhereTold (bytes d) (λ file. whole_blocks file ≡ [] → Served-whole d d' k k' s s' result [])
  keep-complete d d' k k' s s' result took kept causes = λ file told fresh.
      completes bytes may_leave moment left_since disk_faults written faults left failed d d' k k' s s' result (Err Kept ∷ []) [] took causes (λ is. none_longer (whole_blocks file) fresh ((kept file told).only is))

  -- the file could not be opened
  unopened-new : (d0 d : D) (k : K) (s : S) (fault : DiskStop) → Opens d0 d → Causes d0 d k k (Err (of_keeper fault)) → Kept-did d0 d k k s s (Err (of_keeper fault))
  unopened-new d0 d k s fault opens causes = record {
    took = taken;
    kept = kept;
    unread = λ is. refl;
    causes = causes;
    complete = keep-complete d0 d k k s s (Err (of_keeper fault)) taken kept causes;
    on_disk = record { rounds = []; count = 0; every_moment = opened-short bytes may_leave moment left_since d0 d [] opens; at_return = inl (record { fault = keeper_unopened fault; none = refl; unwritten = refl }) };
    told = inl (record { none = refl; unwritten = Appended-nil written faults k; fault = of_keeper fault; answers = refl; among = stops_new fault });
  }
    where
      not_kept_fault : err_of (of_keeper fault) ≡ Err Kept → ⊥
      not_kept_fault is = keeper_is_none fault Kept (λ e. cc) (λ m e. cc) (err_to (of_keeper fault) Kept is)

      kept : WhereTold (bytes d0) (λ file. Exactly (err_of (of_keeper fault)) Kept (0 < length (whole_blocks file)))
      kept = λ file told. record { only = λ is. absurd (not_kept_fault is); always = λ cause. keeper_among fault Kept }

      no_read_fault : (err_of (of_keeper fault) ≡ Ok (ends.Early ReadFault)) ⊎ (err_of (of_keeper fault) ≡ Err (Early ReadFault)) → ⊥
      no_read_fault (inl is) = cc
      no_read_fault (inr is) = keeper_is_none fault (Early ReadFault) (λ e. cc) (λ m e. cc) (err_to (of_keeper fault) (Early ReadFault) is)

      taken : Took-new s s (Err (of_keeper fault))
      taken =
          took-text (Err Kept ∷ []) [] left failed s s (Err (of_keeper fault)) [] (Took-nil left failed s) (omega arith) (prompt_here [] [] GoesOn-nil) GoesOn-nil.0
          (λ is. absurd (not_kept_fault is)) (keeper_read fault (left s)) (λ is. absurd (no_read_fault is))

      stops_new : (f : DiskStop) → StopsANewSession (of_keeper f)
      stops_new disks.Failed = tt
      stops_new (disks.Memory memory) = tt

  -- and answered that
  pub keep-unopened : {T : Type 0} (d0 d : D) (k : K) (s : S) (fault : DiskStop) (opened : Result T DiskStop) → opened ≡ Err fault → HasCause disk_faults d0 d opened → Opens d0 d → (result : Answer) → IsErrAnd result (λ (f : KeptFault). f ≡ of_keeper fault)
      → Kept-did d0 d k k s s result
  keep-unopened d0 d k s fault opened was cause opens result is =
      for_err result (of_keeper fault) (λ (r : Answer). Kept-did d0 d k k s s r) is
      (unopened-new d0 d k s fault opens (causes-of_keeper disk_faults faults d0 d k fault opened (Err (of_keeper fault)) was refl cause))

  -- it has a whole block already
  pub keep-kept : (d0 d : D) (k : K) (s : S) → Opens d0 d → WhereTold (bytes d0) (λ file. (image : List ℕ) → may_leave d image → whole_blocks image ≡ whole_blocks file) → WhereTold (bytes d0) (λ file. 0 < length (whole_blocks file))
      → disk_faults d ≡ disk_faults d0 → Kept-did d0 d k k s s (Err Kept)
  keep-kept d0 d k s opens same some steady = record {
    took = taken;
    kept = kept;
    unread = λ is. refl;
    causes = causes;
    complete = keep-complete d0 d k k s s (Err Kept) taken kept causes;
    on_disk = record { rounds = []; count = 0; every_moment = opened-short bytes may_leave moment left_since d0 d [] opens; at_return = inr (opened-kept bytes may_leave moment left_since d0 d opens same []) };
    told = inl (record { none = refl; unwritten = Appended-nil written faults k; fault = Kept; answers = refl; among = tt });
  }
    where
      no_read_fault : (err_of Kept ≡ Ok (ends.Early ReadFault)) ⊎ (err_of Kept ≡ Err (Early ReadFault)) → ⊥
      no_read_fault (inl is) = cc
      no_read_fault (inr is) = cc

      taken : Took-new s s (Err Kept)
      taken =
          took-text (Err Kept ∷ []) [] left failed s s (Err Kept) [] (Took-nil left failed s) (omega arith) (prompt_here [] [] GoesOn-nil) GoesOn-nil.0 (λ is. inl refl) refl (λ is. absurd (no_read_fault is))

      kept : WhereTold (bytes d0) (λ file. Exactly (err_of Kept) Kept (0 < length (whole_blocks file)))
      kept = λ file told. record { only = λ is. some file told; always = λ cause. inl refl }

      causes : Causes d0 d k k (Err Kept)
      causes = causes-steady disk_faults faults d0 d k k (Err Kept) steady (omega arith) (λ is. cc) (λ is. cc)

  -- the text stopped before START
  stopped-new : (d0 d : D) (k : K) (s s' : S) (stop : Stop) → Opens d0 d → WhereTold (bytes d0) (λ file. (image : List ℕ) → may_leave d image → whole_blocks image ≡ whole_blocks file) → WhereTold (bytes d0) (λ file. whole_blocks file ≡ [])
      → disk_faults d ≡ disk_faults d0 → HasStopped left failed s s' stop → Kept-did d0 d k k s s' (Err (of_stop stop))
  stopped-new d0 d k s s' stop opens same fresh steady has = record {
    took = taken;
    kept = kept;
    unread = λ is. absurd (not_kept_stop is);
    causes = causes;
    complete = keep-complete d0 d k k s s' (Err (of_stop stop)) taken kept causes;
    on_disk = record { rounds = []; count = 0; every_moment = opened-short bytes may_leave moment left_since d0 d [] opens; at_return = inr (opened-kept bytes may_leave moment left_since d0 d opens same []) };
    told = inl (record { none = refl; unwritten = Appended-nil written faults k; fault = of_stop stop; answers = refl; among = stopped_among stop });
  }
    where
      read_fault : (err_of (of_stop stop) ≡ Ok (ends.Early ReadFault)) ⊎ (err_of (of_stop stop) ≡ Err (Early ReadFault)) → stop ≡ stops.Early ReadFault
      read_fault (inl is) = absurd cc
      read_fault (inr is) = stopped_fault stop (err_to (of_stop stop) (Early ReadFault) is)

      no_disk : (t : Stop) → of_stop t ≡ Disk → ⊥
      no_disk (stops.Header line reason) is = cc
      no_disk (stops.Early end) is = cc
      no_disk (stops.Memory memory) is = cc

      no_write : (t : Stop) → of_stop t ≡ Write → ⊥
      no_write (stops.Header line reason) is = cc
      no_write (stops.Early end) is = cc
      no_write (stops.Memory memory) is = cc

      not_kept_stop : err_of (of_stop stop) ≡ Err Kept → ⊥
      not_kept_stop is = stopped_is_none stop (err_to (of_stop stop) Kept is)

      taken : Took-new s s' (Err (of_stop stop))
      taken =
          took-text (Err Kept ∷ []) [] left failed s s' (Err (of_stop stop)) has.input has.took has.within has.prompt GoesOn-nil.0
          (λ is. absurd (not_kept_stop is)) (stopped_read left failed s s' stop has) (λ is. has.cause (read_fault is))

      kept : WhereTold (bytes d0) (λ file. Exactly (err_of (of_stop stop)) Kept (0 < length (whole_blocks file)))
      kept = λ file told. record { only = λ is. absurd (not_kept_stop is); always = λ some. absurd (none_longer (whole_blocks file) (fresh file told) some) }

      causes : Causes d0 d k k (Err (of_stop stop))
      causes = causes-steady disk_faults faults d0 d k k (Err (of_stop stop)) steady (omega arith) (λ is. no_disk stop (err_to (of_stop stop) Disk is)) (λ is. no_write stop (err_to (of_stop stop) Write is))

  pub keep-stopped : (d0 d : D) (k : K) (s s' : S) (stop : Stop) → Opens d0 d → WhereTold (bytes d0) (λ file. (image : List ℕ) → may_leave d image → whole_blocks image ≡ whole_blocks file) → WhereTold (bytes d0) (λ file. whole_blocks file ≡ [])
      → disk_faults d ≡ disk_faults d0 → HasStopped left failed s s' stop → (result : Answer) → IsErrAnd result (λ (f : KeptFault). f ≡ of_stop stop) → Kept-did d0 d k k s s' result
  keep-stopped d0 d k s s' stop opens same fresh steady has result is =
      for_err result (of_stop stop) (λ (r : Answer). Kept-did d0 d k k s s' r) is (stopped-new d0 d k s s' stop opens same fresh steady has)

  -- the session was served, from the disk on which the file is open
  module _ (reads : (disk : D) → WhereTold (bytes disk) (λ file. may_leave disk file)) (d0 d d' : D) (k k' : K) (s s' : S) (opens : Opens d0 d) (same : WhereTold (bytes d0) (λ file. (image : List ℕ) → may_leave d image → whole_blocks image ≡ whole_blocks file))
      (tells : is_some (bytes d) ≡ is_some (bytes d0)) (h : SessionHeader) (result : Answer) where
    pub keep-served : WhereTold (bytes d0) (λ file. whole_blocks file ≡ []) → Served bytes may_leave moment left_since written faults left failed [] s (new_session h d k) d' k' h s' result → Causes d0 d' k k' result → Kept-did d0 d' k k' s s' result
    keep-served fresh served causes =
        let stops : Stops result = told_stops written faults k k' h [] (head_text_of h ∷ []) [] served.took.input (left s') result served.rounds served.count served.told in
        let kept : WhereTold (bytes d0) (λ file. Exactly result Kept (0 < length (whole_blocks file))) =
        λ file told. record { only = λ is. absurd (never result Kept stops (λ no. no) is); always = λ some. absurd (none_longer (whole_blocks file) (fresh file told) some) } in
        let took =
        took-text (Err Kept ∷ []) [] left failed s s' result served.took.input served.took.took served.took.within served.took.prompt GoesOn-nil.0 (λ is. absurd (never result Kept stops (λ no. no) is))
        (read_served written faults k k' h [] (head_text_of h ∷ []) [] served.took.input (left s') result served.rounds served.count served.session served.told) (either_fault result stops served.read_fault) in
        record {
          took = took;
          kept = kept;
          unread = λ is. absurd (never result Kept stops (λ no. no) is);
          causes = causes;
          complete = keep-complete d0 d' k k' s s' result took kept causes;
          on_disk = record {
            rounds = served.rounds;
            count = served.count;
            every_moment = opened-moments bytes may_leave moment left_since d0 d opens same tells reads d' served.rounds served.moments;
            at_return = inr (opened-at_return bytes may_leave moment left_since d0 d opens same tells reads d' served.rounds served.count served.at_return);
          };
          told = new_told served.told;
        }
      where
        new_told : Told written faults k k' h [] (head_text_of h ∷ []) [] served.took.input (left s') result served.rounds served.count
            → KeptNothing written faults k k' StopsANewSession result served.rounds ⊎ KeptNew bytes may_leave moment left_since disk_faults written faults left failed d0 d' k k' s s' result served.took.input served.rounds served.count
        new_told (inl nothing) = inl (record { none = nothing.none; unwritten = nothing.unwritten; fault = nothing.fault; answers = nothing.answers; among = session_stops_new nothing.fault nothing.among })
        new_told (inr behind) = inr (record {
          session = h;
          fresh = fresh;
          kept = record {
            behind = behind;
            read_back = λ file told image first.
                read_back-new h behind.parts served.rounds (whole_blocks file) (whole_blocks image) first.count (subst (IsLegal h) behind.joined behind.legal) behind.are_rounds (fresh file told) first.blocks;
          };
        })

    pub restart-served : (history : List Entry) → WhereTold (bytes d0) (λ file. IsWhole (whole_blocks file) h history) → Served bytes may_leave moment left_since written faults left failed (head_text_of h) s (gone_on history d k) d' k' h s' result → Causes d0 d' k k' result
        → Gone-did d0 d' k k' s s' result
    restart-served history whole served causes =
        let stops : Stops result = told_stops written faults k k' h history [] (head_text_of h) served.took.input (left s') result served.rounds served.count served.told in
        let none : HasNoFault (head_text_of h) =
        λ line reason fault. HasSession-no_fault (head_text_of h ++ served.took.input) h line reason served.session (HasFault-more (head_text_of h) served.took.input line reason fault) in
        let took =
        took-text [] (head_text_of h) left failed s s' result served.took.input served.took.took served.took.within served.took.prompt none (λ is. absurd (never result Kept stops (λ no. no) is))
        (read_served written faults k k' h history [] (head_text_of h) served.took.input (left s') result served.rounds served.count served.session served.told) (either_fault result stops served.read_fault) in
        record {
          empty = λ file told. record { only = λ is. absurd (never result Empty stops (λ no. no) is); always = λ none. absurd (whole_some (whole_blocks file) (whole file told) none) };
          damaged = λ file told block. record { only = λ is. absurd (never result (Damaged block) stops (λ no. no) is); always = λ cause. absurd (whole_undamaged (whole_blocks file) (whole file told) block cause.1) };
          full = λ file told. record { only = λ is. absurd (never result Full stops (λ no. no) is); always = λ cause. absurd (whole_few (whole_blocks file) (whole file told) cause.0 cause.2) };
          causes = causes;
          complete = λ file told other entries its.
              subst (λ (g : SessionHeader). Served-whole d0 d' k k' s s' result (head_text_of g)) (whole_same (whole_blocks file) (whole file told) its)
              (completes bytes may_leave moment left_since disk_faults written faults left failed d0 d' k k' s s' result [] (head_text_of h) took causes (never result Kept stops (λ no. no)));
          on_disk = record {
            rounds = served.rounds;
            count = served.count;
            every_moment = opened-moments bytes may_leave moment left_since d0 d opens same tells reads d' served.rounds served.moments;
            at_return = inr (opened-at_return bytes may_leave moment left_since d0 d opens same tells reads d' served.rounds served.count served.at_return);
          };
          told = inr (record { session = h; history = history; whole = whole; took = took; told = went_told served.told });
        }
      where
        went_told : Told written faults k k' h history [] (head_text_of h) served.took.input (left s') result served.rounds served.count
            → KeptNothing written faults k k' StopsASession result served.rounds ⊎ KeptSession bytes may_leave moment left_since disk_faults written faults left failed d0 d' k k' s s' result h history [] (head_text_of h) served.took.input served.rounds served.count
        went_told (inl nothing) = inl nothing
        went_told (inr behind) = inr (record {
          behind = behind;
          read_back = λ file told image first.
              read_back-behind h history behind.parts served.rounds (whole_blocks file) (whole_blocks image) first.count
              (subst (λ (es : List Entry). IsLegal h (history ++ es)) behind.joined behind.legal) behind.are_rounds (whole file told) first.blocks;
        })

  -- out of memory once the history was read back
  short-again : (d0 d : D) (k : K) (s : S) (memory : AmountsMemory) → Opens d0 d → WhereTold (bytes d0) (λ file. (image : List ℕ) → may_leave d image → whole_blocks image ≡ whole_blocks file) → disk_faults d ≡ disk_faults d0
      → Gone-did d0 d k k s s (Err (Memory memory))
  short-again d0 d k s memory opens same steady = record {
    empty = λ file told. record { only = λ is. absurd cc; always = λ cause. inr (inr (inl refl)) };
    damaged = λ file told block. record { only = λ is. absurd cc; always = λ cause. inr (inr (inl refl)) };
    full = λ file told. record { only = λ is. absurd cc; always = λ cause. inr (inr (inl refl)) };
    causes = causes;
    complete = λ file told h history whole. completes-refused bytes may_leave moment left_since disk_faults written faults left failed d0 d k k s s (Err (Memory memory)) (head_text_of h) causes (inr (inl refl));
    on_disk = record { rounds = []; count = 0; every_moment = opened-short bytes may_leave moment left_since d0 d [] opens; at_return = inr (opened-kept bytes may_leave moment left_since d0 d opens same []) };
    told = inl (record { none = refl; unwritten = Appended-nil written faults k; fault = Memory memory; answers = refl; among = tt }, refl);
  }
    where
      causes : Causes d0 d k k (Err (Memory memory))
      causes = causes-steady disk_faults faults d0 d k k (Err (Memory memory)) steady (omega arith) (λ is. cc) (λ is. cc)

  pub restart-short : (d0 d : D) (k : K) (s : S) (memory : AmountsMemory) → Opens d0 d → WhereTold (bytes d0) (λ file. (image : List ℕ) → may_leave d image → whole_blocks image ≡ whole_blocks file) → disk_faults d ≡ disk_faults d0
      → (result : Answer) → IsErrAnd result (λ (f : KeptFault). f ≡ Memory memory) → Gone-did d0 d k k s s result
  restart-short d0 d k s memory opens same steady result is =
      for_err result (Memory memory) (λ (r : Answer). Gone-did d0 d k k s s r) is (short-again d0 d k s memory opens same steady)

  -- the blocks are none to go on from
  refused-again : (d0 d : D) (k : K) (s : S) (fault : KeptFault) → Opens d0 d → WhereTold (bytes d0) (λ file. (image : List ℕ) → may_leave d image → whole_blocks image ≡ whole_blocks file) → disk_faults d ≡ disk_faults d0
      → (bodies : List (List ℕ)) → WhereTold (bytes d0) (λ file. bodies ≡ whole_blocks file) → IsRefusal bodies fault → Gone-did d0 d k k s s (Err fault)
  refused-again d0 d k s fault opens same steady bodies are refusal = record {
    empty = λ file told. subst (λ (bs : List (List ℕ)). Exactly (err_of fault) Empty (bs ≡ [])) (are file told) (refused_empty bodies fault refusal);
    damaged = λ file told block. subst (λ (bs : List (List ℕ)). Exactly (err_of fault) (Damaged block) ((0 < length bs) × (kept_in bs ≡ Err block))) (are file told) (refused_damaged bodies fault refusal block);
    full = λ file told. subst (λ (bs : List (List ℕ)). Exactly (err_of fault) Full ((commands : ℕ) × (0 < length bs) × IsFull bs commands)) (are file told) (refused_full bodies fault refusal);
    causes = causes;
    complete = λ file told h history whole.
        completes-refused bytes may_leave moment left_since disk_faults written faults left failed d0 d k k s s (Err fault) (head_text_of h) causes
        (refused_whole bodies fault refusal (subst (λ (bs : List (List ℕ)). IsWhole bs h history) (sym (are file told)) whole));
    on_disk = record { rounds = []; count = 0; every_moment = opened-short bytes may_leave moment left_since d0 d [] opens; at_return = inr (opened-kept bytes may_leave moment left_since d0 d opens same []) };
    told = inl (record { none = refl; unwritten = Appended-nil written faults k; fault = fault; answers = refl; among = refused_among bodies fault refusal }, refl);
  }
    where
      causes : Causes d0 d k k (Err fault)
      causes = causes-steady disk_faults faults d0 d k k (Err fault) steady (omega arith) (λ is. refused_disk bodies fault refusal (err_to fault Disk is)) (λ is. refused_write bodies fault refusal (err_to fault Write is))

  pub restart-refused : (d0 d : D) (k : K) (s : S) (fault : KeptFault) → Opens d0 d → WhereTold (bytes d0) (λ file. (image : List ℕ) → may_leave d image → whole_blocks image ≡ whole_blocks file) → disk_faults d ≡ disk_faults d0
      → (bodies : List (List ℕ)) → WhereTold (bytes d0) (λ file. bodies ≡ whole_blocks file) → IsRefusal bodies fault → (result : Answer) → IsErrAnd result (λ (f : KeptFault). f ≡ fault) → Gone-did d0 d k k s s result
  restart-refused d0 d k s fault opens same steady bodies are refusal result is =
      for_err result fault (λ (r : Answer). Gone-did d0 d k k s s r) is (refused-again d0 d k s fault opens same steady bodies are refusal)

  -- the file could not be opened
  unopened-again : (d0 d : D) (k : K) (s : S) (fault : DiskStop) → Opens d0 d → Causes d0 d k k (Err (of_keeper fault)) → Gone-did d0 d k k s s (Err (of_keeper fault))
  unopened-again d0 d k s fault opens causes = record {
    empty = λ file told. record { only = λ is. absurd (keeper_is_none fault Empty (λ e. cc) (λ m e. cc) (err_to (of_keeper fault) Empty is)); always = λ cause. keeper_among fault Empty };
    damaged = λ file told block. record { only = λ is. absurd (keeper_is_none fault (Damaged block) (λ e. cc) (λ m e. cc) (err_to (of_keeper fault) (Damaged block) is)); always = λ cause. keeper_among fault (Damaged block) };
    full = λ file told. record { only = λ is. absurd (keeper_is_none fault Full (λ e. cc) (λ m e. cc) (err_to (of_keeper fault) Full is)); always = λ cause. keeper_among fault Full };
    causes = causes;
    complete = λ file told h history whole. completes-refused bytes may_leave moment left_since disk_faults written faults left failed d0 d k k s s (Err (of_keeper fault)) (head_text_of h) causes (keeper_unopened fault);
    on_disk = record { rounds = []; count = 0; every_moment = opened-short bytes may_leave moment left_since d0 d [] opens; at_return = inl (record { fault = keeper_unopened fault; none = refl; unwritten = refl }) };
    told = inl (record { none = refl; unwritten = Appended-nil written faults k; fault = of_keeper fault; answers = refl; among = keeper_stops fault }, refl);
  }
    where
      keeper_stops : (f : DiskStop) → StopsARestart (of_keeper f)
      keeper_stops disks.Failed = tt
      keeper_stops (disks.Memory memory) = tt

  pub restart-unopened : {T : Type 0} (d0 d : D) (k : K) (s : S) (fault : DiskStop) (opened : Result T DiskStop) → opened ≡ Err fault → HasCause disk_faults d0 d opened → Opens d0 d → (result : Answer) → IsErrAnd result (λ (f : KeptFault). f ≡ of_keeper fault)
      → Gone-did d0 d k k s s result
  restart-unopened d0 d k s fault opened was cause opens result is =
      for_err result (of_keeper fault) (λ (r : Answer). Gone-did d0 d k k s s r) is
      (unopened-again d0 d k s fault opens (causes-of_keeper disk_faults faults d0 d k fault opened (Err (of_keeper fault)) was refl cause))
