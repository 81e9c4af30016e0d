-- What a history at its close has of the banks whose lanes are done.
use Rattle.std.proofs.Common.{ℕ, zero, suc, ◌≡◌, ◌+◌, ◌<◌, ◌≤◌, ◌^◌, eqb, Bool, List, [], ◌∷◌, ◌++◌, length, map, take, drop, append-nil, get_or, All, refl, ap, ap₂, sym, subst, ◌∙◌, arith, inl, inr}
use Rattle.std.specs.List.{AllZip, slice_get, filter}
use Rattle.std.specs.Prelude.{Some, None, Result, Ok, Err, OnOk, OnErr, IfOk}
use Rattle.std.proofs.Math.ListN.{drop_of_length-le}
use Rattle.std.proofs.Math.Seq.{take-length}
use Rattle.std.proofs.lemmas.List.{take_all, length-map, map-append, length-append, length-take-le}
use Rattle.std.proofs.lemmas.Bool.{cases_Bool, eqb-true}
use Rattle.std.proofs.lemmas.List.Elements.{AllZip-get_or, All-get_or, length_all_zip, filter-append}
use Rattle.std.proofs.lemmas.Option.{slice_get-get_or, slice_get_within, get_or_from_slice_get}
use Rattle.fx_rules.specs.declared.command.Command.{Command}
use Rattle.fx_rules.specs.declared.command.Sent.{Sent}
use Rattle.fx_rules.specs.declared.outcome.Entry.{Entry}
use Rattle.fx_rules.specs.Lists.{Among, Each}
use Rattle.fx_rules.specs.Session.{Header, IsSender, senders}
use Rattle.fx_rules.specs.Sending.{IsSentOf}
use Rattle.fx_rules.specs.State.{State, opening}
use Rattle.fx_rules.specs.Step.{IsCommand}
use Rattle.fx_rules.specs.History.{Steps, IsLegal, after_entry, own}
use Rattle.fx_rules.proofs.Senders.{suits-sender}
use Rattle.fx_rules.proofs.ListLemmas.{Each-append, filter_cons_true, filter_cons_false}
use Rattle.fx_chronicle.specs.Faces.{Witness, witness}
use Rattle.fx_chronicle.specs.Submitting.{IsWholeOf}
use Rattle.fx_chronicle.specs.Passes.{sender_at, place_among}
use Rattle.fx_chronicle.specs.Streams.{stream_of, HasStreams}
use Rattle.fx_chronicle.proofs.Places.{some-senders, sender-or-not, sender-there, place-within}
use Rattle.gateway_workers.specs.declared.lane.Lane.{Lane}
use Rattle.gateway_workers.specs.Lanes.{IsReadyLane, LaneRan, IsDone}
use Rattle.gateway_workers.proofs.Making.{AreFilledTo}
use Rattle.gateway_workers.specs.SenderLanes.{CanServe, HaveServed, HaveServedPart, IsLaneOf, IsPartOf}
use Rattle.gateway_workers.specs.inside.SenderLanes.{AreFilled, next_lane}

among_at : {X : Type 0} (xs : List X) (k : ℕ) (d : X) → k < length xs → Among (get_or xs k d) xs
among_at [] k d within = absurd (omega arith)
among_at (x ∷ xs) zero d within = inl refl
among_at (x ∷ xs) (suc k) d within = inr (among_at xs k d (omega arith))

among_mapped : {X Y : Type 0} (f : X → Y) (xs : List X) (x : X) → Among x xs → Among (f x) (map f xs)
among_mapped f [] x among = absurd among
among_mapped f (y ∷ xs) x (inl is) = inl (ap f is)
among_mapped f (y ∷ xs) x (inr later) = inr (among_mapped f xs x later)

-- nobody's lane
pub no_lane : Lane (Witness Entry)
no_lane = record { pass = witness 0 []; bank = 0; sent = 0; stream = []; done = 0; stopped = None }

-- who is no sender of the session has no entry, and sends nothing
own_none : (h : Header) (S : State) (bank : ℕ) (entries : List Entry) → (IsSender h bank → ⊥) → Steps h S entries → own bank entries ≡ []
own_none h S bank [] none steps = refl
own_none h S bank (e ∷ es) none steps =
    elim (cases_Bool (eqb e.bank bank)) [
      | inl is ↦ absurd (none (subst (IsSender h) (eqb-true e.bank bank is) (suits-sender h e.bank e.command steps.0.command.sends)))
      | inr other ↦ filter_cons_false (λ (d : Entry). eqb d.bank bank) e es other ∙ own_none h (after_entry S e) bank es none steps.1
    ]

stream_none : (h : Header) (bank : ℕ) (sent : List Sent) → (IsSender h bank → ⊥) → Each (IsSentOf h) sent → stream_of bank sent ≡ []
stream_none h bank [] none valid = refl
stream_none h bank (s ∷ sent) none valid =
    elim (cases_Bool (eqb s.bank bank)) [
      | inl is ↦ absurd (none (subst (IsSender h) (eqb-true s.bank bank is) (suits-sender h s.bank s.command valid.0.command.sends)))
      | inr other ↦ ap (map (λ (t : Sent). t.command)) (filter_cons_false (λ (t : Sent). eqb t.bank bank) s sent other) ∙ stream_none h bank sent none valid.1
    ]

abbrev pub key_of : Witness Entry → ℕ
key_of pass = pass.key

abbrev pub seen_by : Witness Entry → List Entry
seen_by pass = pass.seen

abbrev pub mine_of : Witness Entry → List Entry
mine_of pass = own pass.key pass.met

-- what a history has of a bank is what its lane was to send
own_stream : (bank : ℕ) (sent : List Sent) (lane : Lane (Witness Entry)) (history : List Entry) → IsLaneOf bank sent lane → IsWholeOf lane.pass.key lane.pass.seen (mine_of lane.pass) history
    → map (λ (e : Entry). e.command) (own bank history) ≡ stream_of bank sent
own_stream bank sent lane history is whole =
    ap (λ b. map (λ (e : Entry). e.command) (own b history)) (sym is.key_is)
    ∙ ap (map (λ (e : Entry). e.command)) whole.own_are_mine
    ∙ is.commands

-- so the history has each bank's commands once and in its order
pub streams-of : (h : Header) (sent : List Sent) (lanes : List (Lane (Witness Entry))) (history : List Entry) → IsLegal h history → HaveServed h sent lanes
    → ((place : ℕ) (lane : Lane (Witness Entry)) → slice_get lanes place ≡ Some lane → IsWholeOf lane.pass.key lane.pass.seen (mine_of lane.pass) history) → HasStreams sent history
streams-of h sent lanes history legal served whole = λ bank.
    elim (sender-or-not h bank) [
      | inl sends ↦
          let place : ℕ = place_among (length (senders h)) bank in
          let lane : Lane (Witness Entry) = get_or lanes place no_lane in
          let here : slice_get lanes place ≡ Some lane = slice_get-get_or lanes place no_lane (omega (arith, place-within h bank served.session, served.all)) in
          let its : IsLaneOf bank sent lane = subst (λ (b : ℕ). IsLaneOf b sent lane) (sender-there h bank served.session sends) (served.each place lane here) in
          own_stream bank sent lane history its (whole place lane here)
      | inr none ↦
          ap (map (λ (e : Entry). e.command)) (own_none h (opening h) bank history none legal.steps)
          ∙ sym (stream_none h bank sent none served.valid)
    ]

-- what holds of the passes of lanes holds of each
pub each-lane : (P : Witness Entry → Type 0) (lanes : List (Lane (Witness Entry))) (passes : List (Witness Entry)) → passes ≡ map (λ (lane : Lane (Witness Entry)). lane.pass) lanes → ((pass : Witness Entry) → Among pass passes → P pass)
    → (place : ℕ) (lane : Lane (Witness Entry)) → slice_get lanes place ≡ Some lane → P lane.pass
each-lane P lanes passes passes_are holds place lane is =
    let within : place < length lanes = slice_get_within lanes place lane is in
    let lane_is : get_or lanes place lane ≡ lane = get_or_from_slice_get lanes place lane lane is in
    let among : Among lane lanes = subst (λ (l : Lane (Witness Entry)). Among l lanes) lane_is (among_at lanes place lane within) in
    holds lane.pass (subst (Among lane.pass) (sym passes_are) (among_mapped (λ (l : Lane (Witness Entry)). l.pass) lanes lane among))

-- ---- the lanes of a round as they begin

may_send : (h : Header) (bank : ℕ) (sent : List Sent) → Each (IsSentOf h) sent → Each (IsCommand h bank) (stream_of bank sent)
may_send h bank [] valid = tt
may_send h bank (s ∷ sent) valid =
    elim (cases_Bool (eqb s.bank bank)) [
      | inl is ↦
          subst (Each (IsCommand h bank)) (sym (ap (map (λ (t : Sent). t.command)) (filter_cons_true (λ (t : Sent). eqb t.bank bank) s sent is)))
          (subst (λ b. IsCommand h b s.command) (eqb-true s.bank bank is) valid.0.command, may_send h bank sent valid.1)
      | inr other ↦
          subst (Each (IsCommand h bank)) (sym (ap (map (λ (t : Sent). t.command)) (filter_cons_false (λ (t : Sent). eqb t.bank bank) s sent other)))
          (may_send h bank sent valid.1)
    ]

pub stream_shorter : (bank : ℕ) (sent : List Sent) → length (stream_of bank sent) ≤ length sent
stream_shorter bank [] = omega arith
stream_shorter bank (s ∷ sent) =
    elim (cases_Bool (eqb s.bank bank)) [
      | inl is ↦ omega (arith, stream_shorter bank sent, ap (λ (ss : List Sent). length (map (λ (t : Sent). t.command) ss)) (filter_cons_true (λ (t : Sent). eqb t.bank bank) s sent is))
      | inr other ↦ omega (arith, stream_shorter bank sent, ap (λ (ss : List Sent). length (map (λ (t : Sent). t.command) ss)) (filter_cons_false (λ (t : Sent). eqb t.bank bank) s sent other))
    ]

ready_lane : (h : Header) (bank : ℕ) (sent more : List Sent) (lane : Lane (Witness Entry)) → IsLaneOf bank sent lane → Each (IsSentOf h) more → length sent + length more < 2 ^ 32
    → IsReadyLane h key_of mine_of (next_lane lane (stream_of bank more))
ready_lane h bank sent more lane is valid few =
    let as_many : length (mine_of lane.pass) ≡ length (stream_of bank sent) = sym (length-map (mine_of lane.pass) (λ (e : Entry). e.command)) ∙ ap (λ (cs : List Command). length cs) is.commands in
    record {
      bank_of_pass = is.bank_is ∙ sym is.key_is;
      sent_by_pass = is.counted;
      none_done = refl;
      not_stopped = refl;
      may_send = subst (λ b. Each (IsCommand h b) (stream_of bank more)) (sym is.bank_is) (may_send h bank more valid);
      numbers = omega (arith, few, is.counted, as_many, stream_shorter bank sent, stream_shorter bank more);
    }

pub ready-lanes : (h : Header) (more : List Sent) (was now : List (Lane (Witness Entry))) → CanServe h was more → AreFilled h more was now → All (IsReadyLane h key_of mine_of) now
ready-lanes h more was now can filled = λ k d within.
    let within' : k < length was = omega (arith, within, filled.long) in
    let lane : Lane (Witness Entry) = get_or was k d in
    let there : slice_get was k ≡ Some lane = slice_get-get_or was k d within' in
    let next : slice_get now k ≡ Some (next_lane lane (stream_of (sender_at h k) more)) = filled.each k lane there in
    subst (IsReadyLane h key_of mine_of) (sym (get_or_from_slice_get now k (next_lane lane (stream_of (sender_at h k) more)) d next))
    (ready_lane h (sender_at h k) can.sent more lane (can.served.each k lane there) can.valid can.few)

-- the numbers of a lane's round fit
pub next-numbers : (h : Header) (more : List Sent) (was now : List (Lane (Witness Entry))) (n : ℕ) (d : Lane (Witness Entry)) → CanServe h was more → AreFilledTo h more was now n → n < length now
    → (get_or now n d).sent + (get_or now n d).done < 2 ^ 32
next-numbers h more was now n d can filled within =
    let lane : Lane (Witness Entry) = get_or was n d in
    let there : slice_get was n ≡ Some lane = slice_get-get_or was n d (omega (arith, within, filled.long)) in
    let lane_is : get_or now n d ≡ lane = get_or_from_slice_get now n lane d (filled.to_come n lane (omega arith) there) in
    let its = can.served.each n lane there in
    let as_many : length (mine_of lane.pass) ≡ length (stream_of (sender_at h n) can.sent) = sym (length-map (mine_of lane.pass) (λ (e : Entry). e.command)) ∙ ap (λ (cs : List Command). length cs) its.commands in
    subst (λ (l : Lane (Witness Entry)). l.sent + l.done < 2 ^ 32) (sym lane_is) (omega (arith, its.counted, as_many, stream_shorter (sender_at h n) can.sent, can.few))

pub some-lanes : (h : Header) (more : List Sent) (was now : List (Lane (Witness Entry))) → CanServe h was more → AreFilled h more was now → 0 < length now
some-lanes h more was now can filled = omega (arith, filled.long, can.served.all, some-senders h can.served.session)

-- ---- the lanes of a round that is done

stream_joined : (bank : ℕ) (sent more : List Sent) → stream_of bank (sent ++ more) ≡ stream_of bank sent ++ stream_of bank more
stream_joined bank sent more =
    let test : Sent → Bool = λ (t : Sent). eqb t.bank bank in
    ap (map (λ (t : Sent). t.command)) (filter-append test sent more) ∙ map-append (λ (t : Sent). t.command) (filter test sent) (filter test more)

ran_lane : (h : Header) (bank : ℕ) (sent more : List Sent) (lane now : Lane (Witness Entry)) → IsLaneOf bank sent lane → LaneRan h key_of seen_by mine_of (next_lane lane (stream_of bank more)) now → IsDone now
    → IsLaneOf bank (sent ++ more) now
ran_lane h bank sent more lane now is ran done =
    let stream_is : now.stream ≡ stream_of bank more = ap (λ (l : Lane (Witness Entry)). l.stream) ran.same_lane in
    let all : now.done ≡ length (stream_of bank more) = done ∙ ap (λ (cs : List Command). length cs) stream_is in
    let new : map (λ (e : Entry). e.command) ran.entries ≡ stream_of bank more = ran.in_order ∙ ap (λ n. take n (stream_of bank more)) all ∙ take-length (stream_of bank more) in
    let as_many : length ran.entries ≡ length (stream_of bank more) = sym (length-map ran.entries (λ (e : Entry). e.command)) ∙ ap (λ (cs : List Command). length cs) new in
    let sent_is : now.sent ≡ lane.sent + lane.done = ap (λ (l : Lane (Witness Entry)). l.sent) ran.same_lane in
    let grown : length (mine_of now.pass) ≡ length (mine_of lane.pass) + length ran.entries = ap (λ (es : List Entry). length es) ran.mine_grew ∙ length-append (mine_of lane.pass) ran.entries in
    record {
      bank_is = ap (λ (l : Lane (Witness Entry)). l.bank) ran.same_lane ∙ is.bank_is;
      key_is = ran.same_bank ∙ is.key_is;
      counted = omega (arith, sent_is, all, as_many, grown, is.counted);
      commands = ap (map (λ (e : Entry). e.command)) ran.mine_grew ∙ map-append (λ (e : Entry). e.command) (mine_of lane.pass) ran.entries
          ∙ ap₂ (λ (front back : List Command). front ++ back) is.commands new ∙ sym (stream_joined bank sent more);
    }

pub served-on : (h : Header) (so_far more : List Sent) (was mid now : List (Lane (Witness Entry))) → HaveServed h so_far was → Each (IsSentOf h) more → AreFilled h more was mid → AllZip (LaneRan h key_of seen_by mine_of) mid now → All IsDone now
    → HaveServed h (so_far ++ more) now
served-on h so_far more was mid now served valid filled ran done =
    let long : length mid ≡ length now = length_all_zip (LaneRan h key_of seen_by mine_of) mid now ran in
    record {
      session = served.session;
      valid = Each-append (IsSentOf h) so_far more served.valid valid;
      all = omega (arith, long, filled.long, served.all);
      each = λ k lane is.
          let within : k < length now = slice_get_within now k lane is in
          let within' : k < length was = omega (arith, within, long, filled.long) in
          let old : Lane (Witness Entry) = get_or was k lane in
          let there : slice_get was k ≡ Some old = slice_get-get_or was k lane within' in
          let next : get_or mid k lane ≡ next_lane old (stream_of (sender_at h k) more) = get_or_from_slice_get mid k (next_lane old (stream_of (sender_at h k) more)) lane (filled.each k old there) in
          let here : get_or now k lane ≡ lane = get_or_from_slice_get now k lane lane is in
          let its = AllZip-get_or (LaneRan h key_of seen_by mine_of) mid now k lane lane ran (omega (arith, within, long)) in
          ran_lane h (sender_at h k) so_far more old lane (served.each k old there)
          (subst (λ (l : Lane (Witness Entry)). LaneRan h key_of seen_by mine_of l lane) next (subst (λ (l : Lane (Witness Entry)). LaneRan h key_of seen_by mine_of (get_or mid k lane) l) here its))
          (subst IsDone here (All-get_or IsDone now k lane within done));
    }

-- a row of lanes that were all handed out and came back is what came back
pub came_back : {X : Type 0} (n : ℕ) (was now : List X) → n ≡ length was → length was ≡ length now → take n (now ++ drop (length now) was) ≡ now
came_back n was now all same =
    ap (λ (rest : List _). take n (now ++ rest)) (drop_of_length-le was (omega (arith, same)))
    ∙ ap (take n) (append-nil now) ∙ take_all n now (omega (arith, all, same))

pub served_back : (h : Header) (so_far more : List Sent) (n : ℕ) (was now : List (Lane (Witness Entry))) → n ≡ length was → HaveServed h so_far was → HaveServed h (so_far ++ more) now
    → HaveServed h (so_far ++ more) (take n (now ++ drop (length now) was))
served_back h so_far more n was now all before served =
    subst (λ (lanes : List (Lane (Witness Entry))). HaveServed h (so_far ++ more) lanes) (sym (came_back n was now all (omega (arith, before.all, served.all)))) served

-- ---- the lanes of a round that came to no end

ran_part : (h : Header) (bank : ℕ) (sent more : List Sent) (lane now : Lane (Witness Entry)) → IsLaneOf bank sent lane → LaneRan h key_of seen_by mine_of (next_lane lane (stream_of bank more)) now
    → IsPartOf bank sent more now
ran_part h bank sent more lane now is ran =
    let as_many : length ran.entries ≡ now.done =
    sym (length-map ran.entries (λ (e : Entry). e.command)) ∙ ap (λ (cs : List Command). length cs) ran.in_order ∙ length-take-le now.done (stream_of bank more) ran.within in
    let sent_is : now.sent ≡ lane.sent + lane.done = ap (λ (l : Lane (Witness Entry)). l.sent) ran.same_lane in
    let grown : length (mine_of now.pass) ≡ length (mine_of lane.pass) + length ran.entries = ap (λ (es : List Entry). length es) ran.mine_grew ∙ length-append (mine_of lane.pass) ran.entries in
    record {
      bank_is = ap (λ (l : Lane (Witness Entry)). l.bank) ran.same_lane ∙ is.bank_is;
      key_is = ran.same_bank ∙ is.key_is;
      counted = omega (arith, sent_is, as_many, grown, is.counted);
      count = now.done;
      commands = ap (map (λ (e : Entry). e.command)) ran.mine_grew ∙ map-append (λ (e : Entry). e.command) (mine_of lane.pass) ran.entries
          ∙ ap₂ (λ (front back : List Command). front ++ back) is.commands ran.in_order;
    }

pub served-part : (h : Header) (so_far more : List Sent) (was mid now : List (Lane (Witness Entry))) → HaveServed h so_far was → AreFilled h more was mid → AllZip (LaneRan h key_of seen_by mine_of) mid now
    → HaveServedPart h so_far more now
served-part h so_far more was mid now served filled ran =
    let long : length mid ≡ length now = length_all_zip (LaneRan h key_of seen_by mine_of) mid now ran in
    record {
      all = omega (arith, long, filled.long, served.all);
      each = λ k lane is.
          let within : k < length now = slice_get_within now k lane is in
          let old : Lane (Witness Entry) = get_or was k lane in
          let there : slice_get was k ≡ Some old = slice_get-get_or was k lane (omega (arith, within, long, filled.long)) in
          let next : get_or mid k lane ≡ next_lane old (stream_of (sender_at h k) more) = get_or_from_slice_get mid k (next_lane old (stream_of (sender_at h k) more)) lane (filled.each k old there) in
          let here : get_or now k lane ≡ lane = get_or_from_slice_get now k lane lane is in
          let its = AllZip-get_or (LaneRan h key_of seen_by mine_of) mid now k lane lane ran (omega (arith, within, long)) in
          ran_part h (sender_at h k) so_far more old lane (served.each k old there)
          (subst (λ (l : Lane (Witness Entry)). LaneRan h key_of seen_by mine_of l lane) next (subst (λ (l : Lane (Witness Entry)). LaneRan h key_of seen_by mine_of (get_or mid k lane) l) here its));
    }

-- where the round did not begin, none of it is served
pub none-part : (h : Header) (so_far more : List Sent) (was now : List (Lane (Witness Entry))) → HaveServed h so_far was → now ≡ was → HaveServedPart h so_far more now
none-part h so_far more was now served same = subst (HaveServedPart h so_far more) (sym same) (record {
  all = served.all;
  each = λ k lane is.
      let its = served.each k lane is in
      record {
        bank_is = its.bank_is;
        key_is = its.key_is;
        counted = its.counted;
        count = 0;
        commands = its.commands ∙ sym (append-nil (stream_of (sender_at h k) so_far));
      };
})

pub part_back : (h : Header) (so_far more : List Sent) (n : ℕ) (was now : List (Lane (Witness Entry))) → n ≡ length was → HaveServed h so_far was → HaveServedPart h so_far more now
    → HaveServedPart h so_far more (take n (now ++ drop (length now) was))
part_back h so_far more n was now all before part =
    subst (λ (lanes : List (Lane (Witness Entry))). HaveServedPart h so_far more lanes) (sym (came_back n was now all (omega (arith, before.all, part.all)))) part

-- what follows from what an answer that is Err has told
pub err_then : {T E P Q : Type 0} (r : Result T E) → (P → Q) → OnErr r P → OnErr r Q
err_then (Ok x) leads told = tt
err_then (Err e) leads told = leads told

pub err_always : {T E P : Type 0} (r : Result T E) → P → OnErr r P
err_always (Ok x) p = tt
err_always (Err e) p = p

-- what follows from what an answer that is Ok has told
pub ok_then : {T E P Q : Type 0} (r : Result T E) → (P → Q) → OnOk r P → OnOk r Q
ok_then (Ok x) leads told = leads told
ok_then (Err e) leads told = tt

pub if_ok_then : {T E : Type 0} {P Q : T → Type 0} (r : Result T E) → ((x : T) → P x → Q x) → IfOk r P → IfOk r Q
if_ok_then (Ok x) leads told = leads x told
if_ok_then (Err e) leads told = tt
