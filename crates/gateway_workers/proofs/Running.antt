-- A lane runs on by one command, and lanes that ran on are under way.
use Rattle.std.proofs.Common.{ℕ, zero, suc, ◌≡◌, ◌+◌, ◌<◌, ◌≤◌, ◌≢◌, List, [], ◌∷◌, ◌++◌, refl, ap, sym, subst, ◌∙◌, arith, length, get_or, set, take, inl, inr, append_assoc, append-nil, length-append, true≢false}
use Rattle.std.specs.Prelude.{All, Any, is_some, IsSome, Option, Some, None, ◌⊎◌}
use Rattle.std.specs.Option.{option_or}
use Rattle.std.specs.List.{AllZip}
use Rattle.std.proofs.lemmas.Bool.{cases_lt}
use Rattle.std.proofs.lemmas.List.{length-map, length-take, length-set, take_more, map-append, get_or_default, get_or-set_same, get_or-set_other}
use Rattle.fx_amounts.specs.declared.memory.Memory.{Memory}
use Rattle.fx_rules.specs.declared.command.Command.{Command}
use Rattle.fx_rules.specs.declared.outcome.Outcome.{Outcome}
use Rattle.fx_rules.specs.declared.outcome.Entry.{Entry}
use Rattle.fx_rules.specs.Session.{Header}
use Rattle.fx_rules.specs.History.{own}
use Rattle.fx_chronicle.proofs.Prefixes.{prefix_self, prefix_trans}
use Rattle.fx_chronicle.specs.Submitting.{next_own, Submitted}
use Rattle.gateway_workers.specs.declared.lane.Lane.{Lane}
use Rattle.gateway_workers.specs.Lanes.{IsReadyLane, AreNumbered, LaneRan, IsDone, IsBehind, StoppedWhereBehind, first_stop}
use Rattle.gateway_workers.specs.inside.Serving.{IsUnderWay, HasTurned, RunsOn, AllRunOn, AllLanesRan}

numbered-push : (bank before : ℕ) (entries : List Entry) (e : Entry) → AreNumbered bank before entries → e.bank ≡ bank → e.number ≡ before + length entries + 1 → AreNumbered bank before (entries ++ e ∷ [])
numbered-push bank before [] e numbered its number = (its, omega (arith, number), tt)
numbered-push bank before (x ∷ xs) e numbered its number = (numbered.0, numbered.1, numbered-push bank (before + 1) xs e numbered.2 its (omega (arith, number)))

-- ---- what stopped a lane

some_or_none : {T : Type 0} (o : Option T) → IsSome o ⊎ (o ≡ None)
some_or_none None = inr refl
some_or_none (Some x) = inl refl

not_some : {T : Type 0} (o : Option T) → o ≡ None → IsSome o → ⊥
not_some o none some = true≢false (sym some ∙ ap is_some none)

both_none : {T : Type 0} (o p : Option T) → option_or o p ≡ None → (o ≡ None) × (p ≡ None)
both_none None p none = (refl, none)
both_none (Some x) p none = absurd (cc none)

either_some : {T : Type 0} (o p : Option T) (x : T) → option_or o p ≡ Some x → IsSome o ⊎ (p ≡ Some x)
either_some None p x is = inr is
either_some (Some y) p x is = inl refl

module _ {P : Type 0} where
  -- where one stopped for which commands are left, commands are left
  pub first-behind : (lanes : List (Lane P)) (memory : Memory) → All StoppedWhereBehind lanes → first_stop lanes ≡ Some memory → Any IsBehind lanes
  first-behind [] memory all is = absurd (cc is)
  first-behind (lane ∷ lanes) memory all is =
      elim (either_some lane.stopped (first_stop lanes) memory is) [
        | inl some ↦ (0, lane, omega arith, refl, (all 0 lane (omega arith)).0 some)
        | inr later ↦
            let rest : Any IsBehind lanes = first-behind lanes memory (λ k d within. all (suc k) d (omega (arith, within))) later in
            let within : rest.0 < length lanes = rest.2 in
            (suc rest.0, rest.1, omega (arith, within), rest.3, rest.4)
      ]

  -- where none stopped, no commands are left
  none-stopped : (lanes : List (Lane P)) (k : ℕ) (d : Lane P) → k < length lanes → first_stop lanes ≡ None → (get_or lanes k d).stopped ≡ None
  none-stopped [] k d within none = absurd (omega (arith, within))
  none-stopped (lane ∷ lanes) zero d within none = (both_none lane.stopped (first_stop lanes) none).0
  none-stopped (lane ∷ lanes) (suc k) d within none = none-stopped lanes k d (omega (arith, within)) (both_none lane.stopped (first_stop lanes) none).1

-- ---- turns

-- once there were as many turns as it has commands, a lane has stopped exactly where some are left
turned-out : {P : Type 0} (turn : ℕ) (lane : Lane P) → HasTurned turn lane → length lane.stream ≤ turn → StoppedWhereBehind lane
turned-out turn lane turned all = (
  turned.stops,
  λ behind.
      elim (some_or_none lane.stopped) [
        | inl some ↦ some
        | inr none ↦ absurd (omega (arith, turned.goes_on none, all, behind))
      ],
)

module _ {P : Type 0} (h : Header) (bank : P → ℕ) (seen mine : P → List Entry) where
  pub ready-ran : (lane : Lane P) → IsReadyLane h bank mine lane → LaneRan h bank seen mine lane lane
  ready-ran lane ready = record {
    same_lane = refl;
    same_bank = refl;
    within = omega (arith, ready.none_done);
    entries = [];
    mine_grew = sym (append-nil (mine lane.pass));
    in_order = ap (λ n. take n lane.stream) (sym ready.none_done);
    numbered = tt;
    begins = prefix_self (seen lane.pass);
    idle = λ _. refl;
    legal = λ some. absurd (omega (arith, some, ready.none_done));
    own_are_mine = λ some. absurd (omega (arith, some, ready.none_done));
  }

  pub ready-turned : (lane : Lane P) → IsReadyLane h bank mine lane → HasTurned 0 lane
  ready-turned lane ready = record {
    goes_on = λ _. omega (arith, ready.none_done);
    stops = λ some. absurd (not_some lane.stopped ready.not_stopped some);
  }

  -- the entries of the commands done are as many as these
  length-entries : (begun was : Lane P) (ran : LaneRan h bank seen mine begun was) → length ran.entries ≡ was.done
  length-entries begun was ran =
      let same : length ran.entries ≡ length (take was.done begun.stream) = sym (length-map ran.entries (λ (e : Entry). e.command)) ∙ ap length ran.in_order in
      omega (arith, same, length-take was.done begun.stream, ran.within)

  pub one-more : (begun was : Lane P) (pass : P) (command : Command) (outcome : Outcome) → was.done < length was.stream → command ≡ get_or was.stream was.done command
      → bank pass ≡ bank was.pass → Submitted h (bank was.pass) (seen was.pass) (mine was.pass) command (seen pass) (mine pass) outcome
      → IsReadyLane h bank mine begun → LaneRan h bank seen mine begun was → LaneRan h bank seen mine begun (record was { pass = pass; done = was.done + 1 })
  one-more begun was pass command outcome within is its submitted ready ran =
      let e : Entry = next_own (bank was.pass) (mine was.pass) command outcome in
      let stream : was.stream ≡ begun.stream = ap (λ (l : Lane P). l.stream) ran.same_lane in
      let within' : was.done < length begun.stream = subst (λ (s : List Command). was.done < length s) stream within in
      let is' : command ≡ get_or begun.stream was.done command = subst (λ (s : List Command). command ≡ get_or s was.done command) stream is in
      let bank' : bank was.pass ≡ begun.bank = ran.same_bank ∙ sym ready.bank_of_pass in
      let grown : length (mine was.pass) ≡ length (mine begun.pass) + length ran.entries = ap length ran.mine_grew ∙ length-append (mine begun.pass) ran.entries in
      record {
        same_lane = ap (λ (l : Lane P). record l { pass = pass; done = was.done + 1 }) ran.same_lane;
        same_bank = its ∙ ran.same_bank;
        within = omega (arith, within');
        entries = ran.entries ++ e ∷ [];
        mine_grew = submitted.mine_grew ∙ ap (λ (es : List Entry). es ++ e ∷ []) ran.mine_grew ∙ append_assoc (mine begun.pass) ran.entries (e ∷ []);
        in_order = map-append (λ (x : Entry). x.command) ran.entries (e ∷ []) ∙ ap (λ (cs : List Command). cs ++ command ∷ []) ran.in_order
            ∙ ap (λ (c : Command). take was.done begun.stream ++ c ∷ []) is' ∙ sym (take_more begun.stream was.done command within');
        numbered = numbered-push begun.bank begun.sent ran.entries e ran.numbered bank' (omega (arith, grown, ready.sent_by_pass));
        begins = prefix_trans (seen begun.pass) (seen was.pass) (seen pass) ran.begins
            (prefix_trans (seen was.pass) submitted.before (seen pass) submitted.begins (e ∷ [], sym submitted.ends));
        idle = λ none. absurd (omega (arith, none));
        legal = λ _. submitted.legal;
        own_are_mine = λ _. subst (λ b. own b (seen pass) ≡ mine pass) bank' submitted.own_are_mine;
      }

  -- a lane that stops has run as far as it did, since its pass stays
  pub one-stopped : (begun was : Lane P) (pass : P) (memory : Memory) → pass ≡ was.pass → LaneRan h bank seen mine begun was → LaneRan h bank seen mine begun (record was { pass = pass; stopped = Some memory })
  one-stopped begun was pass memory stays ran =
      subst (λ (p : P). LaneRan h bank seen mine begun (record was { pass = p; stopped = Some memory })) (sym stays) (record {
        same_lane = ap (λ (l : Lane P). record l { stopped = Some memory }) ran.same_lane;
        same_bank = ran.same_bank;
        within = ran.within;
        entries = ran.entries;
        mine_grew = ran.mine_grew;
        in_order = ran.in_order;
        numbered = ran.numbered;
        begins = ran.begins;
        idle = ran.idle;
        legal = ran.legal;
        own_are_mine = ran.own_are_mine;
      })

  -- lanes of which the first so many have run on, by a turn more, and the others are as they were
  pub record HaveTurned (turn : ℕ) (was mid : List (Lane P)) (n : ℕ) : Type 0 where
    pub long : length mid ≡ length was
    pub so_far : (i : ℕ) (d : Lane P) → i < n → RunsOn h bank seen mine (get_or was i d) (get_or mid i d)
    pub turned : (i : ℕ) (d : Lane P) → i < n → HasTurned (turn + 1) (get_or mid i d)
    pub to_come : (i : ℕ) (d : Lane P) → n ≤ i → get_or mid i d ≡ get_or was i d

  -- so the next one is as it was
  pub next-kept : (Q : Lane P → Type 0) (turn : ℕ) (was mid : List (Lane P)) (n : ℕ) (d : Lane P) → HaveTurned turn was mid n → n < length was → All Q was → Q (get_or mid n d)
  next-kept Q turn was mid n d turned within all = subst Q (sym (turned.to_come n d (omega arith))) (all n d within)

  -- the lane at the place has run on too
  turned-at : (turn : ℕ) (was mid : List (Lane P)) (n : ℕ) (item lane : Lane P) → HaveTurned turn was mid n → n < length was → RunsOn h bank seen mine (get_or mid n item) lane
      → (d : Lane P) → RunsOn h bank seen mine (get_or was n d) (get_or (set mid n lane) n d)
  turned-at turn was mid n item lane turned within on d =
      let within' : n < length mid = omega (arith, turned.long, within) in
      let old : get_or mid n item ≡ get_or was n d = get_or_default mid n item d within' ∙ turned.to_come n d (omega arith) in
      let new : lane ≡ get_or (set mid n lane) n d = sym (get_or-set_same mid n lane d within') in
      subst (λ (now : Lane P). RunsOn h bank seen mine (get_or was n d) now) new (subst (λ (before : Lane P). RunsOn h bank seen mine before lane) old on)

  turned-so_far : (turn : ℕ) (was mid : List (Lane P)) (n : ℕ) (item lane : Lane P) → HaveTurned turn was mid n → n < length was → RunsOn h bank seen mine (get_or mid n item) lane
      → (i : ℕ) (d : Lane P) → i < n + 1 → RunsOn h bank seen mine (get_or was i d) (get_or (set mid n lane) i d)
  turned-so_far turn was mid n item lane turned within on i d low =
      elim (cases_lt i n) [
        | inl before ↦
            let other : i ≢ n = λ same. absurd (omega (arith, same, before)) in
            subst (λ (now : Lane P). RunsOn h bank seen mine (get_or was i d) now) (sym (get_or-set_other mid n i lane d other)) (turned.so_far i d before)
        | inr past ↦
            let same : n ≡ i = omega (arith, past, low) in
            subst (λ (j : ℕ). RunsOn h bank seen mine (get_or was j d) (get_or (set mid n lane) j d)) same (turned-at turn was mid n item lane turned within on d)
      ]

  turned-more : (turn : ℕ) (was mid : List (Lane P)) (n : ℕ) (lane : Lane P) → HaveTurned turn was mid n → n < length was → HasTurned (turn + 1) lane
      → (i : ℕ) (d : Lane P) → i < n + 1 → HasTurned (turn + 1) (get_or (set mid n lane) i d)
  turned-more turn was mid n lane turned within next i d low =
      elim (cases_lt i n) [
        | inl before ↦
            let other : i ≢ n = λ same. absurd (omega (arith, same, before)) in
            subst (HasTurned (turn + 1)) (sym (get_or-set_other mid n i lane d other)) (turned.turned i d before)
        | inr past ↦
            let same : n ≡ i = omega (arith, past, low) in
            let within' : n < length mid = omega (arith, turned.long, within) in
            subst (λ (j : ℕ). HasTurned (turn + 1) (get_or (set mid n lane) j d)) same (subst (HasTurned (turn + 1)) (sym (get_or-set_same mid n lane d within')) next)
      ]

  pub turned-next : (turn : ℕ) (was mid : List (Lane P)) (n : ℕ) (item lane : Lane P) → HaveTurned turn was mid n → n < length was → RunsOn h bank seen mine (get_or mid n item) lane → HasTurned (turn + 1) lane
      → HaveTurned turn was (set mid n lane) (n + 1)
  turned-next turn was mid n item lane turned within on next = record {
    long = length-set mid n lane ∙ turned.long;
    so_far = turned-so_far turn was mid n item lane turned within on;
    turned = turned-more turn was mid n lane turned within next;
    to_come = λ i d past. get_or-set_other mid n i lane d (λ same. absurd (omega (arith, same, past))) ∙ turned.to_come i d (omega (arith, past));
  }

  -- lanes that have run from ready ones are under way, and have run still where they run on
  pub run-under_way : (was now : List (Lane P)) → length now ≡ length was → All (IsReadyLane h bank mine) was → AllLanesRan h bank seen mine was now → All (IsUnderWay h bank seen mine) now
  run-under_way was now long ready ran k d within =
      let within' : k < length was = omega (arith, long, within) in
      record { begun = get_or was k d; ready = ready k d within'; so_far = ran k d within' }

  pub run-further : (was mid now : List (Lane P)) → length mid ≡ length was → All (IsReadyLane h bank mine) was → AllLanesRan h bank seen mine was mid → AllRunOn h bank seen mine mid now → AllLanesRan h bank seen mine was now
  run-further was mid now long ready ran on i d within = on i d (omega (arith, long, within)) (get_or was i d) (ready i d within) (ran i d within)

  pub run-none : (was : List (Lane P)) → All (IsReadyLane h bank mine) was → AllLanesRan h bank seen mine was was
  run-none was ready i d within = ready-ran (get_or was i d) (ready i d within)

  pub run-zip : (was now : List (Lane P)) → length now ≡ length was → AllLanesRan h bank seen mine was now → AllZip (LaneRan h bank seen mine) was now
  run-zip [] [] long ran = tt
  run-zip [] (y ∷ ys) long ran = absurd (omega (arith, long))
  run-zip (x ∷ xs) [] long ran = absurd (omega (arith, long))
  run-zip (x ∷ xs) (y ∷ ys) long ran = (ran 0 x (omega arith), run-zip xs ys (omega (arith, long)) (λ i d within. ran (suc i) d (omega (arith, within))))

  -- where none stopped, all are done
  pub run-done : (was now : List (Lane P)) → length now ≡ length was → AllLanesRan h bank seen mine was now → All StoppedWhereBehind now → first_stop now ≡ None → All IsDone now
  run-done was now long ran stopped none k d within =
      let its = ran k d (omega (arith, long, within)) in
      let lane = get_or now k d in
      let stream : length lane.stream ≡ length (get_or was k d).stream = ap (λ (l : Lane P). length l.stream) its.same_lane in
      elim (cases_lt lane.done (length lane.stream)) [
        | inl behind ↦ absurd (not_some lane.stopped (none-stopped now k d within none) ((stopped k d within).1 behind))
        | inr past ↦ omega (arith, past, stream, its.within)
      ]

  -- where each had as many turns as any of them has commands, each has stopped exactly where some are left
  pub run-out : (was now : List (Lane P)) (turns most : ℕ) → length now ≡ length was → AllLanesRan h bank seen mine was now → All (HasTurned turns) now → All (λ (lane : Lane P). length lane.stream ≤ most) was → most ≤ turns → All StoppedWhereBehind now
  run-out was now turns most long ran turned longest all k d within =
      let within' : k < length was = omega (arith, long, within) in
      let lane = get_or now k d in
      let stream : length lane.stream ≡ length (get_or was k d).stream = ap (λ (l : Lane P). length l.stream) (ran k d within').same_lane in
      turned-out turns lane (turned k d within) (omega (arith, stream, longest k d within', all))
