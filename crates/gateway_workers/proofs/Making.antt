-- The lanes as they are made.
use Rattle.std.proofs.Common.{ℕ, zero, suc, ◌≡◌, ◌≢◌, ◌+◌, ◌<◌, ◌≤◌, eqb, Bool, List, [], ◌∷◌, ◌++◌, length, map, take, get_or, set, length-set, option_map, refl, ap, sym, subst, ◌∙◌, arith, inl, inr, append-nil, eq-eqb, ne_eqb}
use Rattle.std.specs.Prelude.{Some, None}
use Rattle.std.specs.List.{slice_get, filter}
use Rattle.std.specs.declared.alloc.Global.{Global}
use Rattle.std.specs.declared.vec.Vec.{Vec}
use Rattle.std.proofs.Math.Seq.{take-suc}
use Rattle.std.proofs.lemmas.Bool.{cases_eq}
use Rattle.std.proofs.lemmas.List.{get_or-set_same, length-map, map-append}
use Rattle.std.proofs.lemmas.List.Elements.{filter-append}
use Rattle.std.proofs.lemmas.Option.{slice_get_within, slice_get_read, slice_get-map, slice_get-get_or, get_or_from_slice_get}
use Rattle.fx_rules.specs.declared.command.Command.{Command}
use Rattle.fx_rules.specs.declared.command.Sent.{Sent}
use Rattle.fx_rules.specs.declared.outcome.Entry.{Entry}
use Rattle.fx_rules.specs.Lists.{Each}
use Rattle.fx_rules.specs.Session.{Header, IsSession, senders}
use Rattle.fx_rules.specs.Sending.{IsSentOf}
use Rattle.fx_rules.proofs.ListLemmas.{filter_cons_true, filter_cons_false}
use Rattle.fx_rules.proofs.Senders.{suits-sender}
use Rattle.fx_chronicle.specs.Faces.{Witness, witness}
use Rattle.fx_chronicle.specs.Passes.{new_passes, sender_at, place_among}
use Rattle.fx_chronicle.specs.Streams.{stream_of}
use Rattle.fx_chronicle.proofs.Places.{sender-there, place-within, place-back}
use Rattle.fx_chronicle.proofs.Sending.{new_pass, pass-at}
use Rattle.gateway_workers.specs.declared.lane.Lane.{Lane}
use Rattle.gateway_workers.specs.SenderLanes.{HaveServed, IsLaneOf}
use Rattle.gateway_workers.specs.Gathering.{HasSeen, HaveGathered}
use Rattle.gateway_workers.specs.inside.SenderLanes.{AreStreams, AreFilled, IsFresh, next_lane}

-- one more command of a bank, and of another
pushed : (bank : ℕ) (sent : List Sent) (s : Sent) → stream_of bank (sent ++ s ∷ []) ≡ stream_of bank sent ++ stream_of bank (s ∷ [])
pushed bank sent s =
    let test : Sent → Bool = λ (t : Sent). eqb t.bank bank in
    ap (map (λ (t : Sent). t.command)) (filter-append test sent (s ∷ [])) ∙ map-append (λ (t : Sent). t.command) (filter test sent) (filter test (s ∷ []))

pub own_pushed : (bank : ℕ) (sent : List Sent) (s : Sent) → s.bank ≡ bank → stream_of bank (sent ++ s ∷ []) ≡ stream_of bank sent ++ s.command ∷ []
own_pushed bank sent s is =
    pushed bank sent s
    ∙ ap (λ (ss : List Sent). stream_of bank sent ++ map (λ (t : Sent). t.command) ss) (filter_cons_true (λ (t : Sent). eqb t.bank bank) s [] (eq-eqb s.bank bank is))

pub other_pushed : (bank : ℕ) (sent : List Sent) (s : Sent) → s.bank ≢ bank → stream_of bank (sent ++ s ∷ []) ≡ stream_of bank sent
other_pushed bank sent s other =
    pushed bank sent s
    ∙ ap (λ (ss : List Sent). stream_of bank sent ++ map (λ (t : Sent). t.command) ss) (filter_cons_false (λ (t : Sent). eqb t.bank bank) s [] (ne_eqb s.bank bank other))
    ∙ append-nil (stream_of bank sent)

-- an item of a list of which one was set
pub set_here : {X : Type 0} (xs : List X) (i : ℕ) (new x : X) → slice_get (set xs i new) i ≡ Some x → x ≡ new
set_here xs i new x is =
    sym (get_or_from_slice_get (set xs i new) i x new is)
    ∙ get_or-set_same xs i new new (omega (arith, slice_get_within (set xs i new) i x is, length-set xs i new))

pub set_there : {X : Type 0} (xs : List X) (i k : ℕ) (new : X) → k ≢ i → slice_get (set xs i new) k ≡ slice_get xs k
set_there [] i k new other = refl
set_there (x ∷ xs) zero zero new other = absurd (other refl)
set_there (x ∷ xs) zero (suc k) new other = refl
set_there (x ∷ xs) (suc i) zero new other = refl
set_there (x ∷ xs) (suc i) (suc k) new other = set_there xs i k new (λ same. other (ap suc same))

pub some_is : {X : Type 0} (a b : X) → Some a ≡ Some b → a ≡ b
some_is a b e = cc

-- what holds of each item holds of the one at a place
pub Each-at : {X : Type 0} (P : X → Type 0) (xs : List X) (k : ℕ) (x : X) → Each P xs → slice_get xs k ≡ Some x → P x
Each-at P [] k x each is = absurd (cc is)
Each-at P (y ∷ xs) zero x each is = subst P (some_is y x is) each.0
Each-at P (y ∷ xs) (suc k) x each is = Each-at P xs k x each.1 is

-- the next command goes to its sender's stream
pub stream_pushed : (h : Header) (count i place : ℕ) (sent : List Sent) (s : Sent) (streams : List (Vec Command Global)) (stream new : Vec Command Global) → IsSession h → count ≡ length (senders h)
    → AreStreams h count (take i sent) streams → i < length sent → s ≡ get_or sent i s → place ≡ place_among count s.bank → Each (IsSentOf h) sent → stream ≡ get_or streams place stream → new.items ≡ stream.items ++ s.command ∷ [] → AreStreams h count (take (i + 1) sent) (set streams place new)
stream_pushed h count i place sent s streams stream new session count_is are within s_is place_is valid stream_is new_is = record {
  all = omega (arith, are.all, length-set streams place new);
  each = λ k found is.
      elim (cases_eq k place) [
        | inl same ↦
            ap (λ (v : Vec Command Global). v.items) (set_here streams place new found (subst (λ (n : ℕ). slice_get (set streams place new) n ≡ Some found) same is))
            ∙ new_is
            ∙ ap (λ (cs : List Command). cs ++ s.command ∷ []) (are.each k stream (subst (λ (n : ℕ). slice_get streams n ≡ Some stream) (sym same) (slice_get_read streams (length streams) place stream refl there stream_is)))
            ∙ sym (own_pushed (sender_at h k) (take i sent) s (sym here ∙ ap (sender_at h) (sym same)))
        | inr apart ↦
            are.each k found (sym (set_there streams place k new apart) ∙ is)
            ∙ sym (other_pushed (sender_at h k) (take i sent) s (λ also. apart (sym (place-back h k session (below k found is)) ∙ ap (place_among (length (senders h))) (sym also) ∙ sym its_place)))
      ]
      ∙ ap (stream_of (sender_at h k)) (sym more);
}
  where
    its_place : place ≡ place_among (length (senders h)) s.bank
    its_place = place_is ∙ ap (λ n. place_among n s.bank) count_is

    -- it is its sender's
    here : sender_at h place ≡ s.bank
    here =
        let its : IsSentOf h s = Each-at (IsSentOf h) sent i s valid (slice_get_read sent (length sent) i s refl within s_is) in
        ap (sender_at h) its_place ∙ sender-there h s.bank session (suits-sender h s.bank s.command its.command.sends)

    there : place < length streams
    there = omega (arith, its_place, are.all, count_is, place-within h s.bank session)

    below : (k : ℕ) (found : Vec Command Global) → slice_get (set streams place new) k ≡ Some found → k < length (senders h)
    below k found is = omega (arith, slice_get_within (set streams place new) k found is, length-set streams place new, are.all, count_is)

    one_more : i + 1 ≡ suc i
    one_more = omega arith

    more : take (i + 1) sent ≡ take i sent ++ s ∷ []
    more = ap (λ n. take n sent) one_more ∙ take-suc sent i s within ∙ ap (λ (t : Sent). take i sent ++ t ∷ []) (sym s_is)

-- a lane of a new pass has served nothing
fresh_lane : (bank : ℕ) (lane : Lane (Witness Entry)) → IsFresh lane → lane.pass ≡ witness bank [] → IsLaneOf bank [] lane
fresh_lane bank lane fresh pass_is =
    let lane_is : lane ≡ record { pass = witness bank []; bank = bank; sent = 0; stream = lane.stream; done = 0; stopped = None } =
    fresh ∙ ap (λ (pass : Witness Entry). record { pass = pass; bank = pass.key; sent = 0; stream = lane.stream; done = 0; stopped = None }) pass_is in
    subst (IsLaneOf bank []) (sym lane_is) (record { bank_is = refl; key_is = refl; counted = refl; commands = refl })

-- the pass of the lane at a place is new, and of the sender there
fresh-pass : (h : Header) (passes : List (Witness Entry)) (lanes : List (Lane (Witness Entry))) (k : ℕ) (lane : Lane (Witness Entry)) → passes ≡ new_passes h → map (λ (lane : Lane (Witness Entry)). lane.pass) lanes ≡ passes → slice_get lanes k ≡ Some lane
    → lane.pass ≡ witness (sender_at h k) []
fresh-pass h passes lanes k lane new passes_are is =
    let pass_at : slice_get (new_passes h) k ≡ Some lane.pass =
    subst (λ (ps : List (Witness Entry)). slice_get ps k ≡ Some lane.pass) (passes_are ∙ new)
    (slice_get-map (λ (lane : Lane (Witness Entry)). lane.pass) lanes k ∙ ap (option_map (λ (lane : Lane (Witness Entry)). lane.pass)) is) in
    some_is lane.pass (witness (sender_at h k) []) (sym pass_at ∙ pass-at h k (omega (arith, slice_get_within (new_passes h) k lane.pass pass_at, length-map (senders h) new_pass)))

-- the lanes of new passes
pub lanes_open : (h : Header) (passes : List (Witness Entry)) (lanes : List (Lane (Witness Entry))) → IsSession h → passes ≡ new_passes h → map (λ (lane : Lane (Witness Entry)). lane.pass) lanes ≡ passes → Each IsFresh lanes → HaveServed h [] lanes
lanes_open h passes lanes valid new passes_are fresh = record {
  session = valid;
  valid = tt;
  all = sym (length-map lanes (λ (lane : Lane (Witness Entry)). lane.pass)) ∙ ap (λ (ps : List (Witness Entry)). length ps) (passes_are ∙ new) ∙ length-map (senders h) new_pass;
  each = λ k lane is. fresh_lane (sender_at h k) lane (Each-at IsFresh lanes k lane fresh is) (fresh-pass h passes lanes k lane new passes_are is);
}

-- nothing of them is gathered, and their passes have seen nothing
pub none-gathered : (h : Header) (passes : List (Witness Entry)) (lanes : List (Lane (Witness Entry))) → passes ≡ new_passes h → map (λ (lane : Lane (Witness Entry)). lane.pass) lanes ≡ passes → HaveGathered [] 0 lanes
none-gathered h passes lanes new passes_are = record {
  counted = refl;
  each = λ k lane is. subst (HasSeen []) (sym (fresh-pass h passes lanes k lane new passes_are is)) (record { begins = ([], refl); own_are_mine = refl });
}

-- the first so many lanes are in the next round, and the others as they were
pub record AreFilledTo (h : Header) (more : List Sent) (was now : List (Lane (Witness Entry))) (n : ℕ) : Type 0 where
  pub long : length now ≡ length was
  pub so_far : (place : ℕ) (lane : Lane (Witness Entry)) → place < n → slice_get was place ≡ Some lane → slice_get now place ≡ Some (next_lane lane (stream_of (sender_at h place) more))
  pub to_come : (place : ℕ) (lane : Lane (Witness Entry)) → n ≤ place → slice_get was place ≡ Some lane → slice_get now place ≡ Some lane

pub all_filled : (h : Header) (more : List Sent) (was now : List (Lane (Witness Entry))) (n : ℕ) → AreFilledTo h more was now n → length now ≤ n → AreFilled h more was now
all_filled h more was now n filled all = record {
  long = filled.long;
  each = λ place lane is. filled.so_far place lane (omega (arith, filled.long, all, slice_get_within was place lane is)) is;
}

-- the next one is filled too
pub one_filled : (h : Header) (more : List Sent) (was now : List (Lane (Witness Entry))) (n : ℕ) (d new : Lane (Witness Entry)) → AreFilledTo h more was now n → n < length now
    → new ≡ next_lane (get_or now n d) (stream_of (sender_at h n) more) → AreFilledTo h more was (set now n new) (n + 1)
one_filled h more was now n d new filled within new_is = record {
  long = length-set now n new ∙ filled.long;
  so_far = λ place lane below is.
      elim (cases_eq place n) [
        | inl same ↦
            let here : slice_get was n ≡ Some lane = subst (λ (k : ℕ). slice_get was k ≡ Some lane) same is in
            let item_at : slice_get now n ≡ Some (get_or now n d) = slice_get-get_or now n d within in
            let lane_is : get_or now n d ≡ lane = some_is (get_or now n d) lane (sym item_at ∙ filled.to_come n lane (omega arith) here) in
            let new' : new ≡ next_lane lane (stream_of (sender_at h n) more) = new_is ∙ ap (λ (l : Lane (Witness Entry)). next_lane l (stream_of (sender_at h n) more)) lane_is in
            let there : slice_get (set now n new) n ≡ Some (next_lane lane (stream_of (sender_at h n) more)) =
            slice_get-get_or (set now n new) n new (omega (arith, within, length-set now n new)) ∙ ap (λ (l : Lane (Witness Entry)). Some l) (get_or-set_same now n new new within ∙ new') in
            subst (λ (k : ℕ). slice_get (set now n new) k ≡ Some (next_lane lane (stream_of (sender_at h k) more))) (sym same) there
        | inr apart ↦ set_there now n place new apart ∙ filled.so_far place lane (omega (arith, below, apart)) is
      ];
  to_come = λ place lane past is. set_there now n place new (λ same. absurd (omega (arith, same, past))) ∙ filled.to_come place lane (omega (arith, past)) is;
}

-- the streams that are left are those of the senders from a place on, who are so many
pub record AreLeft (h : Header) (count place : ℕ) (more : List Sent) (streams : List (Vec Command Global)) : Type 0 where
  pub many : place + length streams ≡ count
  pub each : (k : ℕ) (stream : Vec Command Global) → slice_get streams k ≡ Some stream → stream.items ≡ stream_of (sender_at h (place + k)) more

pub first_left : (h : Header) (count place : ℕ) (more : List Sent) (stream : Vec Command Global) (streams : List (Vec Command Global)) → AreLeft h count place more (stream ∷ streams)
    → (stream.items ≡ stream_of (sender_at h place) more) × AreLeft h count (place + 1) more streams
first_left h count place more stream streams left = (
  subst (λ (k : ℕ). stream.items ≡ stream_of (sender_at h k) more) (omega arith) (left.each 0 stream refl),
  record {
    many = omega (arith, left.many);
    each = λ k next is. subst (λ (j : ℕ). next.items ≡ stream_of (sender_at h j) more) (omega arith) (left.each (suc k) next is);
  },
)
