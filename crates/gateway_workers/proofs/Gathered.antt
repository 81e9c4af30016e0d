-- What a gathering makes of a run's lanes.
use Rattle.std.proofs.Common.{ℕ, zero, suc, ◌≡◌, ◌+◌, ◌<◌, ◌≤◌, List, [], ◌∷◌, ◌++◌, length, map, take, drop, set, length-set, append-nil, length-append, get_or, refl, ap, sym, subst, ◌∙◌, arith, inl, inr}
use Rattle.std.specs.Prelude.{Some}
use Rattle.std.specs.List.{AllZip, slice_get}
use Rattle.std.proofs.lemmas.Bool.{cases_lt, cases_eq}
use Rattle.std.proofs.lemmas.List.{drop_at, nil_from_length, take_more, take_all}
use Rattle.std.proofs.lemmas.List.Elements.{AllZip-get_or, length_all_zip}
use Rattle.std.proofs.lemmas.Option.{slice_get-get_or, slice_get_within, get_or_from_slice_get}
use lib.Seq.{set-get_or}
use mathlib.Core.List.{IsPrefix}
use Rattle.fx_rules.specs.declared.command.Sent.{Sent}
use Rattle.fx_rules.specs.declared.outcome.Entry.{Entry}
use Rattle.fx_rules.specs.Lists.{Each}
use Rattle.fx_rules.specs.Session.{Header}
use Rattle.fx_rules.specs.History.{IsLegal, own}
use Rattle.fx_rules.proofs.ListLemmas.{Each-append, Each-weaker}
use Rattle.fx_chronicle.specs.Faces.{Witness}
use Rattle.fx_chronicle.proofs.Prefixes.{prefix_self, prefix_trans}
use Rattle.fx_chronicle.specs.Submitting.{IsWholeOf}
use Rattle.fx_chronicle.specs.Passes.{sender_at}
use Rattle.fx_chronicle.specs.Streams.{stream_of, HasStreams}
use Rattle.fx_chronicle.proofs.Owning.{own-append}
use Rattle.fx_chronicle.proofs.Places.{some-senders}
use Rattle.fx_chronicle.proofs.Streams.{streams-length}
use Rattle.gateway_workers.specs.declared.lane.Lane.{Lane}
use Rattle.gateway_workers.specs.Lanes.{LaneRan}
use Rattle.gateway_workers.proofs.Making.{some_is, set_here, set_there, Each-at}
use Rattle.gateway_workers.proofs.Closing.{no_lane, came_back, key_of, seen_by, mine_of, streams-of}
use Rattle.gateway_workers.specs.SenderLanes.{HaveServed, IsLaneOf}
use Rattle.gateway_workers.specs.Gathering.{HasSeen, HaveGathered, HaveGatheredAll}
use Rattle.gateway_workers.specs.inside.SenderLanes.{AreFilled, next_lane}
use Rattle.gateway_workers.specs.inside.Gathering.{AreEach, AreGathered, IsGathered, IsStill, IsTold}

-- ---- beginnings of lists

-- a beginning that is no shorter is the whole
pub prefix-whole : {X : Type 0} (xs ys : List X) → IsPrefix xs ys → length ys ≤ length xs → ys ≡ xs
prefix-whole xs ys p le =
    let none : length p.0 ≡ 0 = omega (arith, ap (λ (zs : List _). length zs) p.1, length-append xs p.0, le) in
    sym p.1 ∙ ap (λ (rest : List _). xs ++ rest) (nil_from_length p.0 none) ∙ append-nil xs

-- a beginning, and what is behind it
prefix_rest : {X : Type 0} (xs ys : List X) (n : ℕ) → IsPrefix xs ys → n ≡ length xs → xs ++ drop n ys ≡ ys
prefix_rest xs ys n p n_is =
    ap (λ (k : ℕ). xs ++ drop k ys) n_is
    ∙ ap (λ (zs : List _). xs ++ drop (length xs) zs) (sym p.1)
    ∙ ap (λ (zs : List _). xs ++ zs) (drop_at xs p.0 (length xs) refl)
    ∙ p.1

-- between two histories with the same entries of a bank each has them
own_between : (bank : ℕ) (xs ys zs : List Entry) → IsPrefix xs ys → IsPrefix ys zs → own bank xs ≡ own bank zs → own bank ys ≡ own bank xs
own_between bank xs ys zs p q same =
    let front : own bank ys ≡ own bank xs ++ own bank p.0 = ap (own bank) (sym p.1) ∙ own-append bank xs p.0 in
    let whole : own bank zs ≡ own bank ys ++ own bank q.0 = ap (own bank) (sym q.1) ∙ own-append bank ys q.0 in
    let count : List Entry → ℕ = λ (es : List Entry). length es in
    let none : length (own bank p.0) ≡ 0 = omega (arith, ap count front, length-append (own bank xs) (own bank p.0), ap count whole, length-append (own bank ys) (own bank q.0), ap count same) in
    front ∙ ap (λ (es : List Entry). own bank xs ++ es) (nil_from_length (own bank p.0) none) ∙ append-nil (own bank xs)

-- ---- what is made of each item of a list

module _ {X : Type 0} (P : X → X → Type 0) where
  -- what an item was made of
  pub each-made : (was now : List X) (place : ℕ) (y : X) → AreEach P was now → slice_get now place ≡ Some y → (x : X) × (slice_get was place ≡ Some x) × P x y
  each-made was now place y each is =
      let there : slice_get was place ≡ Some (get_or was place y) = slice_get-get_or was place y (omega (arith, each.long, slice_get_within now place y is)) in
      (get_or was place y, there, each.each place (get_or was place y) y there is)

  pub each-cons : (x y : X) (xs ys : List X) → P x y → AreEach P xs ys → AreEach P (x ∷ xs) (y ∷ ys)
  each-cons x y xs ys here each = record { long = ap suc each.long; each = at }
    where
      at : (place : ℕ) (x' y' : X) → slice_get (x ∷ xs) place ≡ Some x' → slice_get (y ∷ ys) place ≡ Some y' → P x' y'
      at zero x' y' is_x is_y = subst (λ (b : X). P x' b) (some_is y y' is_y) (subst (λ (a : X). P a y) (some_is x x' is_x) here)
      at (suc place) x' y' is_x is_y = each.each place x' y' is_x is_y

  pub each-weaker : (Q : X → X → Type 0) (was now : List X) → ((x y : X) → P x y → Q x y) → AreEach P was now → AreEach Q was now
  each-weaker Q was now weaker each = record { long = each.long; each = λ place x y is_x is_y. weaker x y (each.each place x y is_x is_y) }

  -- it is made of the first so many, and the others are as they were
  pub record AreEachTo (was now : List X) (n : ℕ) : Type 0 where
    pub long : length now ≡ length was
    pub so_far : (place : ℕ) (x y : X) → place < n → slice_get was place ≡ Some x → slice_get now place ≡ Some y → P x y
    pub to_come : (place : ℕ) (x : X) → n ≤ place → slice_get was place ≡ Some x → slice_get now place ≡ Some x

  pub each-none : (was : List X) → AreEachTo was was 0
  each-none was = record { long = refl; so_far = λ place x y below is_x is_y. absurd (omega (arith, below)); to_come = λ place x past is. is }

  pub each-all : (was now : List X) (n : ℕ) → AreEachTo was now n → length now ≤ n → AreEach P was now
  each-all was now n to all = record {
    long = to.long;
    each = λ place x y is_x is_y. to.so_far place x y (omega (arith, all, slice_get_within now place y is_y)) is_x is_y;
  }

  pub each-next : (was now : List X) (n : ℕ) (d new : X) → AreEachTo was now n → n < length now → P (get_or now n d) new → AreEachTo was (set now n new) (n + 1)
  each-next was now n d new to within here = record {
    long = length-set now n new ∙ to.long;
    so_far = λ place x y below is_x is_y.
        elim (cases_eq place n) [
          | inl same ↦
              let was_here : slice_get was n ≡ Some x = subst (λ (k : ℕ). slice_get was k ≡ Some x) same is_x in
              let now_here : slice_get (set now n new) n ≡ Some y = subst (λ (k : ℕ). slice_get (set now n new) k ≡ Some y) same is_y in
              let item_at : slice_get now n ≡ Some (get_or now n d) = slice_get-get_or now n d within in
              let x_is : get_or now n d ≡ x = some_is (get_or now n d) x (sym item_at ∙ to.to_come n x (omega arith) was_here) in
              subst (λ (b : X). P x b) (sym (set_here now n new y now_here)) (subst (λ (a : X). P a new) x_is here)
          | inr apart ↦ to.so_far place x y (omega (arith, below, apart)) is_x (sym (set_there now n place new apart) ∙ is_y)
        ];
    to_come = λ place x past is. set_there now n place new (λ same. absurd (omega (arith, same, past))) ∙ to.to_come place x (omega (arith, past)) is;
  }

-- what holds of the first so many, and of the next
pub each-first : {X : Type 0} (P : X → Type 0) (xs : List X) (n : ℕ) (d : X) → Each P (take n xs) → n < length xs → P (get_or xs n d) → Each P (take (n + 1) xs)
each-first P xs n d each within here =
    subst (Each P) (sym (take_more xs n d within)) (Each-append P (take n xs) (get_or xs n d ∷ []) each (here, tt))

-- ---- a pass that hears what others have seen

-- the pass was told what the first so many lanes have seen, and those are as they were
pub record HasHeard (first pass : Witness Entry) (was now : List (Lane (Witness Entry))) (n : ℕ) : Type 0 where
  pub same : now ≡ was
  pub pass_is : pass ≡ record first { seen = pass.seen }
  pub begins : IsPrefix first.seen pass.seen
  pub told : Each (λ (lane : Lane (Witness Entry)). IsPrefix lane.pass.seen pass.seen) (take n was)

pub heard-none : (first : Witness Entry) (lanes : List (Lane (Witness Entry))) → HasHeard first first lanes lanes 0
heard-none first lanes = record { same = refl; pass_is = refl; begins = prefix_self first.seen; told = tt }

pub heard-all : (first pass : Witness Entry) (was now : List (Lane (Witness Entry))) (n : ℕ) → HasHeard first pass was now n → length was ≤ n → Each (λ (lane : Lane (Witness Entry)). IsPrefix lane.pass.seen pass.seen) was
heard-all first pass was now n heard all =
    let whole : take n was ≡ was = take_all n was (omega (arith, all)) in
    subst (Each (λ (lane : Lane (Witness Entry)). IsPrefix lane.pass.seen pass.seen)) whole heard.told

heard_more : (first pass new : Witness Entry) (seen : List Entry) → pass ≡ record first { seen = pass.seen } → new ≡ record pass { seen = seen } → new ≡ record first { seen = new.seen }
heard_more first pass new seen pass_is new_is =
    new_is ∙ ap (λ (p : Witness Entry). record p { seen = seen }) pass_is ∙ ap (λ (es : List Entry). record first { seen = es }) (sym (ap (λ (p : Witness Entry). p.seen) new_is))

pub heard-next : (first pass new after : Witness Entry) (note seen : List Entry) (was now : List (Lane (Witness Entry))) (n : ℕ) (d : Lane (Witness Entry)) → HasHeard first pass was now n → n < length was
    → after ≡ (get_or now n d).pass → note ≡ (get_or now n d).pass.seen → new ≡ record pass { seen = seen } → IsPrefix pass.seen new.seen → IsPrefix note new.seen
    → HasHeard first new was (set now n (record (get_or now n d) { pass = after })) (n + 1)
heard-next first pass new after note seen was now n d heard within after_is note_is new_is own told = record {
  same =
      ap (λ (p : Witness Entry). set now n (record (get_or now n d) { pass = p })) after_is ∙ set-get_or now n d ∙ heard.same;
  pass_is = heard_more first pass new seen heard.pass_is new_is;
  begins = prefix_trans first.seen pass.seen new.seen heard.begins own;
  told =
      let lane : Lane (Witness Entry) = get_or was n d in
      let lane_is : get_or now n d ≡ lane = ap (λ (ls : List (Lane (Witness Entry))). get_or ls n d) heard.same in
      each-first (λ (l : Lane (Witness Entry)). IsPrefix l.pass.seen new.seen) was n d
      (Each-weaker (λ (l : Lane (Witness Entry)). IsPrefix l.pass.seen pass.seen) (λ (l : Lane (Witness Entry)). IsPrefix l.pass.seen new.seen) (λ l p. prefix_trans l.pass.seen pass.seen new.seen p own) (take n was) heard.told)
      within
      (subst (λ (es : List Entry). IsPrefix es new.seen) (note_is ∙ ap (λ (l : Lane (Witness Entry)). l.pass.seen) lane_is) told);
}

-- ---- lanes that have served the same

still_lane : (bank : ℕ) (sent : List Sent) (was now : Lane (Witness Entry)) → IsLaneOf bank sent was → IsStill was now → IsLaneOf bank sent now
still_lane bank sent was now is still =
    let sent_is : now.sent ≡ was.sent = ap (λ (l : Lane (Witness Entry)). l.sent) still.same_lane in
    let done_is : now.done ≡ was.done = ap (λ (l : Lane (Witness Entry)). l.done) still.same_lane in
    record {
      bank_is = ap (λ (l : Lane (Witness Entry)). l.bank) still.same_lane ∙ is.bank_is;
      key_is = still.bank ∙ is.key_is;
      counted = omega (arith, sent_is, done_is, is.counted, ap (λ (es : List Entry). length es) still.mine);
      commands = ap (map (λ (e : Entry). e.command)) still.mine ∙ is.commands;
    }

pub still-served : (h : Header) (sent : List Sent) (was now : List (Lane (Witness Entry))) → HaveServed h sent was → AreEach IsStill was now → HaveServed h sent now
still-served h sent was now served each = record {
  session = served.session;
  valid = served.valid;
  all = each.long ∙ served.all;
  each = λ place lane is. let old = each-made IsStill was now place lane each is in still_lane (sender_at h place) sent old.0 lane (served.each place old.0 old.1) old.2;
}

-- ---- all is gathered

-- what a pass submitted is in what was gathered
gathered_whole : (history : List Entry) (was now : Lane (Witness Entry)) → own was.pass.key was.pass.seen ≡ mine_of was.pass → IsGathered history was now → IsWholeOf was.pass.key was.pass.seen (mine_of was.pass) history
gathered_whole history was now mine gathered =
    let key = was.pass.key in
    let last : own key now.pass.seen ≡ mine_of was.pass = ap (λ (k : ℕ). own k now.pass.seen) (sym gathered.told.still.bank) ∙ gathered.told.own_are_mine in
    record {
      begins = gathered.begun;
      own_are_mine = own_between key was.pass.seen history now.pass.seen gathered.begun gathered.told.seen (mine ∙ sym last) ∙ mine;
    }

told_still : (history : List Entry) (was now : Lane (Witness Entry)) → IsGathered history was now → IsStill was now
told_still history was now gathered = gathered.told.still

pub gathered-served : (h : Header) (sent : List Sent) (history : List Entry) (was now : List (Lane (Witness Entry))) → HaveServed h sent was → AreGathered h history was now → HaveServed h sent now
gathered-served h sent history was now served gathered = still-served h sent was now served (each-weaker (IsGathered history) IsStill was now (told_still history) gathered.lanes)

-- the first lane is one
pub some-lane : (h : Header) (sent : List Sent) (lanes : List (Lane (Witness Entry))) → HaveServed h sent lanes → 0 < length lanes
some-lane h sent lanes served = omega (arith, served.all, some-senders h served.session)

pub gathered-all : (h : Header) (sent : List Sent) (so_far history : List Entry) (count : ℕ) (was now : List (Lane (Witness Entry))) → HaveServed h sent was → HaveGathered so_far count was → AreGathered h history was now
    → (so_far ++ drop count history ≡ history) × HaveGatheredAll h sent history (length history) now
gathered-all h sent so_far history count was now served before gathered = (
  prefix_rest so_far history count begun before.counted,
  record {
    served = gathered-served h sent history was now served gathered;
    gathered = record { counted = refl; each = seen };
    legal = gathered.legal;
    streams = streams-of h sent was history gathered.legal served whole;
  },
)
  where
    lanes : AreEach (IsGathered history) was now
    lanes = gathered.lanes

    now_at : (place : ℕ) (lane : Lane (Witness Entry)) → slice_get was place ≡ Some lane → slice_get now place ≡ Some (get_or now place lane)
    now_at place lane is = slice_get-get_or now place lane (omega (arith, lanes.long, slice_get_within was place lane is))

    whole : (place : ℕ) (lane : Lane (Witness Entry)) → slice_get was place ≡ Some lane → IsWholeOf lane.pass.key lane.pass.seen (mine_of lane.pass) history
    whole place lane is =
        gathered_whole history lane (get_or now place lane) (before.each place lane is).own_are_mine (lanes.each place lane (get_or now place lane) is (now_at place lane is))

    seen : (place : ℕ) (lane : Lane (Witness Entry)) → slice_get now place ≡ Some lane → HasSeen history lane.pass
    seen place lane is =
        let old = each-made (IsGathered history) was now place lane lanes is in
        let told : IsTold history old.0 lane = old.2.told in
        record { begins = told.seen; own_are_mine = told.own_are_mine ∙ sym told.still.mine }

    begun : IsPrefix so_far history
    begun =
        let none = no_lane in
        let first = get_or was 0 none in
        let here : slice_get was 0 ≡ Some first = slice_get-get_or was 0 none (some-lane h sent was served) in
        prefix_trans so_far first.pass.seen history (before.each 0 first here).begins (whole 0 first here).begins

-- at the close what was gathered last is the history
pub closed-gathered : (h : Header) (sent : List Sent) (entries history : List Entry) (count : ℕ) (lanes : List (Lane (Witness Entry))) → HaveGatheredAll h sent entries count lanes → HasStreams sent history
    → ((place : ℕ) (lane : Lane (Witness Entry)) → slice_get lanes place ≡ Some lane → IsPrefix lane.pass.seen history) → history ≡ entries
closed-gathered h sent entries history count lanes all streams begins =
    let none = no_lane in
    let first = get_or lanes 0 none in
    let here : slice_get lanes 0 ≡ Some first = slice_get-get_or lanes 0 none (some-lane h sent lanes all.served) in
    prefix-whole entries history (prefix_trans entries first.pass.seen history (all.gathered.each 0 first here).begins (begins 0 first here))
    (omega (arith, streams-length sent history streams, streams-length sent entries all.streams))

-- ---- what a round leaves of what was gathered

ran_seen : (h : Header) (so_far : List Entry) (was mid now : Lane (Witness Entry)) → HasSeen so_far was.pass → was.bank ≡ was.pass.key → mid.pass ≡ was.pass → mid.bank ≡ was.bank → LaneRan h key_of seen_by mine_of mid now
    → HasSeen so_far now.pass
ran_seen h so_far was mid now seen bank pass_is bank_is ran = record {
  begins = prefix_trans so_far was.pass.seen now.pass.seen seen.begins (subst (λ (p : Witness Entry). IsPrefix p.seen now.pass.seen) pass_is ran.begins);
  own_are_mine = elim (cases_lt 0 now.done) [
    | inl some ↦
        let key_is : mid.bank ≡ now.pass.key = bank_is ∙ bank ∙ sym (ran.same_bank ∙ ap (λ (p : Witness Entry). p.key) pass_is) in
        ap (λ (k : ℕ). own k now.pass.seen) (sym key_is) ∙ ran.own_are_mine some
    | inr none ↦
        let idle : now.pass ≡ was.pass = ran.idle (omega (arith, none)) ∙ pass_is in
        subst (λ (p : Witness Entry). own p.key p.seen ≡ own p.key p.met) (sym idle) seen.own_are_mine
  ];
}

pub gathered-ran : (h : Header) (sent more : List Sent) (so_far : List Entry) (count : ℕ) (was mid now : List (Lane (Witness Entry))) → HaveServed h sent was → HaveGathered so_far count was → AreFilled h more was mid → AllZip (LaneRan h key_of seen_by mine_of) mid now
    → HaveGathered so_far count now
gathered-ran h sent more so_far count was mid now served gathered filled ran =
    let long : length mid ≡ length now = length_all_zip (LaneRan h key_of seen_by mine_of) mid now ran in
    record {
      counted = gathered.counted;
      each = λ k lane is.
          let within : k < length now = slice_get_within now k lane is in
          let old : Lane (Witness Entry) = get_or was k lane in
          let there : slice_get was k ≡ Some old = slice_get-get_or was k lane (omega (arith, within, long, filled.long)) in
          let next : get_or mid k lane ≡ next_lane old (stream_of (sender_at h k) more) = get_or_from_slice_get mid k (next_lane old (stream_of (sender_at h k) more)) lane (filled.each k old there) in
          let here : get_or now k lane ≡ lane = get_or_from_slice_get now k lane lane is in
          let its = AllZip-get_or (LaneRan h key_of seen_by mine_of) mid now k lane lane ran (omega (arith, within, long)) in
          let lane_is = served.each k old there in
          ran_seen h so_far old (get_or mid k lane) lane (gathered.each k old there) (lane_is.bank_is ∙ sym lane_is.key_is) (ap (λ (l : Lane (Witness Entry)). l.pass) next) (ap (λ (l : Lane (Witness Entry)). l.bank) next)
          (subst (λ (l : Lane (Witness Entry)). LaneRan h key_of seen_by mine_of (get_or mid k lane) l) here its);
    }

-- ---- one gathering

-- the first lane, whose pass has heard the others and then met the history
first_gathered : (was now : Lane (Witness Entry)) (heard : Witness Entry) → heard ≡ record was.pass { seen = heard.seen } → IsPrefix was.pass.seen heard.seen → now ≡ record was { pass = now.pass } → now.pass.key ≡ heard.key
    → own now.pass.key now.pass.met ≡ own heard.key heard.met → own now.pass.key now.pass.seen ≡ own heard.key heard.met → IsPrefix heard.seen now.pass.seen → IsGathered now.pass.seen was now
first_gathered was now heard heard_is begun same key mine owns begins =
    let key_is : heard.key ≡ was.pass.key = ap (λ (p : Witness Entry). p.key) heard_is in
    let met_is : own heard.key heard.met ≡ own was.pass.key was.pass.met = ap (λ (p : Witness Entry). own p.key p.met) heard_is in
    record {
      begun = prefix_trans was.pass.seen heard.seen now.pass.seen begun begins;
      told = record {
        still = record { same_lane = same; bank = key ∙ key_is; mine = mine ∙ met_is };
        seen = prefix_self now.pass.seen;
        own_are_mine = owns ∙ met_is;
      };
    }

others_gathered : (known history : List Entry) (was now : List (Lane (Witness Entry))) → Each (λ (lane : Lane (Witness Entry)). IsPrefix lane.pass.seen known) was → IsPrefix known history → AreEach (IsTold history) was now → AreEach (IsGathered history) was now
others_gathered known history was now heard begins told = record {
  long = told.long;
  each = λ place x y is_x is_y. record {
    begun = prefix_trans x.pass.seen known history (Each-at (λ (lane : Lane (Witness Entry)). IsPrefix lane.pass.seen known) was place x heard is_x) begins;
    told = told.each place x y is_x is_y;
  };
}

pub are-gathered : (h : Header) (was now : Lane (Witness Entry)) (heard : Witness Entry) (others after : List (Lane (Witness Entry))) → IsLegal h now.pass.seen → heard ≡ record was.pass { seen = heard.seen } → IsPrefix was.pass.seen heard.seen
    → now ≡ record was { pass = now.pass } → now.pass.key ≡ heard.key → own now.pass.key now.pass.met ≡ own heard.key heard.met → own now.pass.key now.pass.seen ≡ own heard.key heard.met → IsPrefix heard.seen now.pass.seen
    → Each (λ (lane : Lane (Witness Entry)). IsPrefix lane.pass.seen heard.seen) others → AreEach (IsTold now.pass.seen) others after → AreGathered h now.pass.seen (was ∷ others) (now ∷ after)
are-gathered h was now heard others after legal heard_is begun same key mine owns begins heard_others told = record {
  legal = legal;
  lanes = each-cons (IsGathered now.pass.seen) was now others after (first_gathered was now heard heard_is begun same key mine owns begins) (others_gathered heard.seen now.pass.seen others after heard_others begins told);
}

-- another lane, once its pass was told and has met the history
pub told-lane : (entries : List Entry) (was now : Lane (Witness Entry)) (heard : Witness Entry) → heard.key ≡ was.pass.key → heard.met ≡ was.pass.met → IsPrefix entries heard.seen → now ≡ record was { pass = now.pass } → now.pass.key ≡ heard.key
    → own now.pass.key now.pass.met ≡ own heard.key heard.met → own now.pass.key now.pass.seen ≡ own heard.key heard.met → IsPrefix heard.seen now.pass.seen → IsTold entries was now
told-lane entries was now heard key_is met_is known same key mine owns begins =
    let met : own heard.key heard.met ≡ own was.pass.key was.pass.met = ap (λ (k : ℕ). own k heard.met) key_is ∙ ap (own was.pass.key) met_is in
    record {
      still = record { same_lane = same; bank = key ∙ key_is; mine = mine ∙ met };
      seen = prefix_trans entries heard.seen now.pass.seen known begins;
      own_are_mine = owns ∙ met;
    }

pub gathered-same : (so_far : List Entry) (count : ℕ) (was now : List (Lane (Witness Entry))) → HaveGathered so_far count was → now ≡ was → HaveGathered so_far count now
gathered-same so_far count was now gathered same = subst (HaveGathered so_far count) (sym same) gathered

-- ---- the lanes of a run, handed out and come back

pub gathered-back : (so_far : List Entry) (count n : ℕ) (was now : List (Lane (Witness Entry))) → n ≡ length was → length was ≡ length now → HaveGathered so_far count now → HaveGathered so_far count (take n (now ++ drop (length now) was))
gathered-back so_far count n was now all same gathered = subst (HaveGathered so_far count) (sym (came_back n was now all same)) gathered

pub still-back : (h : Header) (sent : List Sent) (n : ℕ) (was now : List (Lane (Witness Entry))) → n ≡ length was → AreEach IsStill was now → HaveServed h sent was → HaveServed h sent (take n (now ++ drop (length now) was))
still-back h sent n was now all each served = subst (HaveServed h sent) (sym (came_back n was now all (sym each.long))) (still-served h sent was now served each)

-- what a run's gathering makes of it
pub all-back : (h : Header) (sent : List Sent) (so_far more history : List Entry) (start count n : ℕ) (was now : List (Lane (Witness Entry))) → n ≡ length was → more ≡ drop start history → count ≡ length history → AreGathered h history was now → HaveServed h sent was → HaveGathered so_far start was
    → HaveGatheredAll h sent (so_far ++ more) count (take n (now ++ drop (length now) was))
all-back h sent so_far more history start count n was now all more_is count_is gathered served before =
    let both = gathered-all h sent so_far history start was now served before gathered in
    let entries_are : so_far ++ more ≡ history = ap (λ (es : List Entry). so_far ++ es) more_is ∙ both.0 in
    subst (λ (ls : List (Lane (Witness Entry))). HaveGatheredAll h sent (so_far ++ more) count ls) (sym (came_back n was now all (sym gathered.lanes.long)))
    (subst (λ (k : ℕ). HaveGatheredAll h sent (so_far ++ more) k now) (sym count_is)
    (subst (λ (es : List Entry). HaveGatheredAll h sent es (length history) now) (sym entries_are) both.1))
