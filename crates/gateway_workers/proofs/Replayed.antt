-- What submitting entries again makes of a run's lanes.
use Rattle.std.proofs.Common.{ℕ, ◌≡◌, ◌+◌, ◌-◌, ◌^◌, ◌<◌, ◌≤◌, List, [], ◌∷◌, ◌++◌, length, map, take, drop, set, length-set, length-append, get_or, get_or-set_same, refl, ap, sym, subst, ◌∙◌, arith, inl, inr}
use Rattle.std.specs.Prelude.{Some}
use Rattle.std.specs.List.{slice_get}
use Rattle.std.proofs.lemmas.Bool.{cases_eq}
use Rattle.std.proofs.lemmas.List.{length-map, length-take, map-append, nil_from_length, take_more}
use Rattle.std.proofs.lemmas.Option.{slice_get-get_or, slice_get_within, slice_get_read, get_or_from_slice_get}
use lib.Seq.{set-get_or}
use mathlib.Core.List.{IsPrefix}
use Rattle.fx_rules.specs.declared.command.Command.{Command}
use Rattle.fx_rules.specs.declared.command.Sent.{Sent}
use Rattle.fx_rules.specs.declared.outcome.Entry.{Entry}
use Rattle.fx_rules.specs.declared.outcome.Outcome.{Outcome}
use Rattle.fx_rules.specs.Lists.{Each}
use Rattle.fx_rules.specs.Session.{Header, senders}
use Rattle.fx_rules.specs.Sending.{IsSentOf, sent_by}
use Rattle.fx_rules.specs.State.{State, opening}
use Rattle.fx_rules.specs.Step.{IsCommand}
use Rattle.fx_rules.specs.History.{Steps, IsLegal, after_entry, own}
use Rattle.fx_rules.proofs.Continuing.{histories_agree}
use Rattle.fx_rules.proofs.ListLemmas.{Each-append}
use Rattle.fx_rules.proofs.Senders.{suits-sender}
use Rattle.fx_chronicle.specs.Faces.{Witness}
use Rattle.fx_chronicle.proofs.Prefixes.{prefix_length, prefix_trans}
use Rattle.fx_chronicle.specs.Submitting.{Submitted, next_own}
use Rattle.fx_chronicle.specs.Passes.{sender_at, place_among}
use Rattle.fx_chronicle.specs.Streams.{stream_of}
use Rattle.fx_chronicle.proofs.Places.{sender-there, place-back}
use Rattle.fx_chronicle.proofs.Streams.{streams-length}
use Rattle.gateway_workers.specs.declared.lane.Lane.{Lane}
use Rattle.gateway_workers.proofs.Making.{Each-at, own_pushed, other_pushed, set_here, set_there}
use Rattle.gateway_workers.proofs.Closing.{stream_shorter, came_back}
use Rattle.gateway_workers.proofs.Gathered.{prefix-whole, gathered-all, some-lane}
use Rattle.gateway_workers.specs.SenderLanes.{HaveServed, IsLaneOf}
use Rattle.gateway_workers.specs.Gathering.{HasSeen, HaveGathered, HaveGatheredAll}
use Rattle.gateway_workers.specs.inside.Gathering.{AreGathered, AreResubmitted, HasSubmitted}

-- who may send them sends the entries of a legal history
steps_sent : (h : Header) (S : State) (entries : List Entry) → Steps h S entries → Each (λ (e : Entry). IsCommand h e.bank e.command) entries
steps_sent h S [] steps = tt
steps_sent h S (e ∷ es) steps = (steps.0.command, steps_sent h (after_entry S e) es steps.1)

-- who may send it sends the next
pub next-may : (h : Header) (entries : List Entry) (n : ℕ) (e : Entry) → IsLegal h entries → n < length entries → e ≡ get_or entries n e → IsCommand h e.bank e.command
next-may h entries n e legal within e_is =
    Each-at (λ (d : Entry). IsCommand h d.bank d.command) entries n e (steps_sent h (opening h) entries legal.steps) (slice_get_read entries (length entries) n e refl within e_is)

-- before the first
pub resubmitted-none : (h : Header) (note : List Entry) (lanes : List (Lane (Witness Entry))) (d : Lane (Witness Entry)) (after : Witness Entry) → HaveServed h [] lanes → HaveGathered [] 0 lanes → after ≡ (get_or lanes 0 d).pass → note ≡ (get_or lanes 0 d).pass.seen
    → AreResubmitted h [] note (set lanes 0 (record (get_or lanes 0 d) { pass = after }))
resubmitted-none h note lanes d after served gathered after_is note_is =
    let lane : Lane (Witness Entry) = get_or lanes 0 d in
    let same : set lanes 0 (record lane { pass = after }) ≡ lanes = ap (λ (p : Witness Entry). set lanes 0 (record lane { pass = p })) after_is ∙ set-get_or lanes 0 d in
    subst (AreResubmitted h [] note) (sym same) (record {
      served = served;
      gathered = gathered;
      place = 0;
      lane = lane;
      there = slice_get-get_or lanes 0 d (some-lane h [] lanes served);
      told = sym note_is;
      enough = omega arith;
      exact = λ none. ap (map sent_by) (nil_from_length note (omega (arith, none)));
    })

-- the lane of a sender that has submitted one command more
next_lane_of : (sender : ℕ) (sent : List Sent) (s : Sent) (note : List Entry) (was now : Lane (Witness Entry)) → s.bank ≡ sender → IsLaneOf sender sent was → HasSubmitted note s.command was now → IsLaneOf sender (sent ++ s ∷ []) now
next_lane_of sender sent s note was now its is submitted =
    let sent_is : now.sent ≡ was.sent = ap (λ (l : Lane (Witness Entry)). l.sent) submitted.same_lane in
    let done_is : now.done ≡ was.done + 1 = ap (λ (l : Lane (Witness Entry)). l.done) submitted.same_lane in
    let mine : List Entry = own was.pass.key was.pass.met in
    let one : List Entry = submitted.entry ∷ [] in
    record {
      bank_is = ap (λ (l : Lane (Witness Entry)). l.bank) submitted.same_lane ∙ is.bank_is;
      key_is = submitted.bank ∙ is.key_is;
      counted = omega (arith, sent_is, done_is, is.counted, ap (λ (es : List Entry). length es) submitted.mine, length-append mine one);
      commands = ap (map (λ (e : Entry). e.command)) submitted.mine
          ∙ map-append (λ (e : Entry). e.command) mine one
          ∙ ap (λ (cs : List Command). cs ++ submitted.entry.command ∷ []) is.commands
          ∙ ap (λ (c : Command). stream_of sender sent ++ c ∷ []) submitted.command_is
          ∙ sym (own_pushed sender sent s its);
    }

other_lane_of : (sender : ℕ) (sent : List Sent) (s : Sent) (lane : Lane (Witness Entry)) → (s.bank ≡ sender → ⊥) → IsLaneOf sender sent lane → IsLaneOf sender (sent ++ s ∷ []) lane
other_lane_of sender sent s lane other is = record {
  bank_is = is.bank_is;
  key_is = is.key_is;
  counted = is.counted;
  commands = is.commands ∙ sym (other_pushed sender sent s other);
}

sent_same : (a b : Entry) → a.bank ≡ b.bank → a.command ≡ b.command → sent_by a ≡ sent_by b
sent_same a b bank command = cc

module _ (h : Header) (before note : List Entry) (e : Entry) (lanes : List (Lane (Witness Entry))) (place : ℕ) (lane new : Lane (Witness Entry))
    (re : AreResubmitted h before note lanes) (may : IsCommand h e.bank e.command) (place_is : place ≡ place_among (length lanes) e.bank) (within : place < length lanes) (lane_is : lane ≡ get_or lanes place lane) (submitted : HasSubmitted note e.command lane new) where
  here : slice_get lanes place ≡ Some lane
  here = slice_get_read lanes (length lanes) place lane refl within lane_is

  abbrev after : List (Lane (Witness Entry))
  after = set lanes place new

  abbrev sent : List Sent
  sent = map sent_by before

  its : IsLaneOf (sender_at h place) sent lane
  its = re.served.each place lane here

  its_place : place ≡ place_among (length (senders h)) e.bank
  its_place = place_is ∙ ap (λ n. place_among n e.bank) re.served.all

  sender : sender_at h place ≡ e.bank
  sender = ap (sender_at h) its_place ∙ sender-there h e.bank re.served.session (suits-sender h e.bank e.command may.sends)

  -- a lane is the one that submitted, or another
  at_each : (P : ℕ → Lane (Witness Entry) → Type 0) → P place new → ((k : ℕ) (other : Lane (Witness Entry)) → (k ≡ place → ⊥) → slice_get lanes k ≡ Some other → P k other)
      → (k : ℕ) (found : Lane (Witness Entry)) → slice_get after k ≡ Some found → P k found
  at_each P mine others k found is = elim (cases_eq k place) [
    | inl same ↦
        let found_is : found ≡ new = set_here lanes place new found (subst (λ (n : ℕ). slice_get (set lanes place new) n ≡ Some found) same is) in
        subst (λ (n : ℕ). P n found) (sym same) (subst (P place) (sym found_is) mine)
    | inr apart ↦ others k found apart (sym (set_there lanes place k new apart) ∙ is)
  ]

  served_next : HaveServed h (sent ++ sent_by e ∷ []) after
  served_next = record {
    session = re.served.session;
    valid = Each-append (IsSentOf h) sent (sent_by e ∷ []) re.served.valid (record { command = may }, tt);
    all = length-set lanes place new ∙ re.served.all;
    each = at_each (λ (k : ℕ) (l : Lane (Witness Entry)). IsLaneOf (sender_at h k) (sent ++ sent_by e ∷ []) l)
        (next_lane_of (sender_at h place) sent (sent_by e) note lane new (sym sender) its submitted)
        (λ k other apart is.
        let below : k < length (senders h) = omega (arith, slice_get_within lanes k other is, re.served.all) in
        other_lane_of (sender_at h k) sent (sent_by e) other
        (λ also. apart (sym (place-back h k re.served.session below) ∙ ap (place_among (length (senders h))) (sym also) ∙ sym its_place))
        (re.served.each k other is));
  }

  gathered_next : HaveGathered [] 0 after
  gathered_next = record {
    counted = refl;
    each = at_each (λ (k : ℕ) (l : Lane (Witness Entry)). HasSeen [] l.pass)
        (record { begins = (new.pass.seen, refl); own_are_mine = submitted.own_are_mine })
        (λ k other apart is. re.gathered.each k other is);
  }

  there_next : slice_get after place ≡ Some new
  there_next = slice_get-get_or after place new (omega (arith, within, length-set lanes place new)) ∙ ap (λ (l : Lane (Witness Entry)). Some l) (get_or-set_same lanes place new new within)

  abbrev seen : List Entry
  seen = submitted.before ++ submitted.entry ∷ []

  seen_long : length new.pass.seen ≡ length submitted.before + 1
  seen_long = ap (λ (es : List Entry). length es) submitted.ends ∙ length-append submitted.before (submitted.entry ∷ [])

  -- where it has seen no more than there are, it saw just what the note tells before
  exact_next : length new.pass.seen ≤ length before + 1 → map sent_by new.pass.seen ≡ sent ++ sent_by e ∷ []
  exact_next le =
      let same : submitted.before ≡ note = prefix-whole note submitted.before submitted.begins (omega (arith, le, seen_long, re.enough)) in
      let short : length note ≤ length before = omega (arith, le, seen_long, ap (λ (es : List Entry). length es) same) in
      ap (map sent_by) submitted.ends
      ∙ map-append sent_by submitted.before (submitted.entry ∷ [])
      ∙ ap (λ (es : List Entry). map sent_by es ++ sent_by submitted.entry ∷ []) same
      ∙ ap (λ (ss : List Sent). ss ++ sent_by submitted.entry ∷ []) (re.exact short)
      ∙ ap (λ (s : Sent). sent ++ s ∷ []) (sent_same submitted.entry e (submitted.sender ∙ its.key_is ∙ sender) submitted.command_is)

  pub resubmitted-one : AreResubmitted h (before ++ e ∷ []) new.pass.seen after
  resubmitted-one =
      let more : map sent_by (before ++ e ∷ []) ≡ sent ++ sent_by e ∷ [] = map-append sent_by before (e ∷ []) in
      let long : length (before ++ e ∷ []) ≡ length before + 1 = length-append before (e ∷ []) in
      record {
        served = subst (λ (ss : List Sent). HaveServed h ss after) (sym more) served_next;
        gathered = gathered_next;
        place = place;
        lane = new;
        there = there_next;
        told = refl;
        enough = omega (arith, long, seen_long, re.enough, prefix_length note submitted.before submitted.begins);
        exact = λ le. exact_next (omega (arith, le, long)) ∙ sym more;
      }

-- the next entry of a legal history is submitted
pub resubmitted-next : (h : Header) (entries note told : List Entry) (n place : ℕ) (e : Entry) (lanes : List (Lane (Witness Entry))) (d new : Lane (Witness Entry)) → IsLegal h entries → n < length entries → e ≡ get_or entries n e
    → AreResubmitted h (take n entries) note lanes → place ≡ place_among (length lanes) e.bank → place < length lanes → HasSubmitted note e.command (get_or lanes place d) new → told ≡ new.pass.seen → AreResubmitted h (take (n + 1) entries) told (set lanes place new)
resubmitted-next h entries note told n place e lanes d new legal within e_is re place_is place_within submitted told_is =
    let lane : Lane (Witness Entry) = get_or lanes place d in
    let lane_is : lane ≡ get_or lanes place lane = sym (get_or_from_slice_get lanes place lane lane (slice_get-get_or lanes place d place_within)) in
    let may : IsCommand h e.bank e.command = next-may h entries n e legal within e_is in
    subst (λ (es : List Entry). AreResubmitted h es told (set lanes place new)) (sym (take_more entries n e within ∙ ap (λ (d : Entry). take n entries ++ d ∷ []) (sym e_is)))
    (subst (λ (es : List Entry). AreResubmitted h (take n entries ++ e ∷ []) es (set lanes place new)) (sym told_is)
    (resubmitted-one h (take n entries) note e lanes place lane new re may place_is place_within lane_is submitted))

-- ---- what the next submit asks for

module _ (h : Header) (entries note : List Entry) (n : ℕ) (e : Entry) (lanes : List (Lane (Witness Entry))) (legal : IsLegal h entries) (within : n < length entries) (e_is : e ≡ get_or entries n e) (re : AreResubmitted h (take n entries) note lanes) where
  module _ (place : ℕ) (d : Lane (Witness Entry)) (place_is : place ≡ place_among (length lanes) e.bank) (there : place < length lanes) where
    abbrev lane : Lane (Witness Entry)
    lane = get_or lanes place d

    may : IsCommand h e.bank e.command
    may = next-may h entries n e legal within e_is

    sender_is : sender_at h place ≡ e.bank
    sender_is =
        ap (sender_at h) (place_is ∙ ap (λ count. place_among count e.bank) re.served.all)
        ∙ sender-there h e.bank re.served.session (suits-sender h e.bank e.command may.sends)

    lane_of : IsLaneOf (sender_at h place) (map sent_by (take n entries)) lane
    lane_of = re.served.each place lane (slice_get-get_or lanes place d there)

    pub next-command : IsCommand h lane.pass.key e.command
    next-command = subst (λ (k : ℕ). IsCommand h k e.command) (sym (lane_of.key_is ∙ sender_is)) may

    pub next-counted : lane.sent + lane.done ≡ length (own lane.pass.key lane.pass.met)
    next-counted = lane_of.counted

    pub next-few : length entries < 2 ^ 32 → length (own lane.pass.key lane.pass.met) < 2 ^ 32 - 1
    next-few few =
        let as_many = sym (length-map (own lane.pass.key lane.pass.met) (λ (x : Entry). x.command)) ∙ ap (λ (cs : List Command). length cs) lane_of.commands in
        omega (arith, few, within, as_many, stream_shorter (sender_at h place) (map sent_by (take n entries)), length-map (take n entries) sent_by, length-take n entries)

-- a lane whose pass was told, and then submitted
pub submitted-lane : (h : Header) (note : List Entry) (command : Command) (was now : Lane (Witness Entry)) (heard : Witness Entry) (outcome : Outcome) → heard.key ≡ was.pass.key → heard.met ≡ was.pass.met → IsPrefix note heard.seen
    → now ≡ record was { pass = now.pass; done = was.done + 1 } → now.pass.key ≡ heard.key → Submitted h heard.key heard.seen (own heard.key heard.met) command now.pass.seen (own now.pass.key now.pass.met) outcome → HasSubmitted note command was now
submitted-lane h note command was now heard outcome key_is met_is told same key submitted =
    let entry : Entry = next_own heard.key (own heard.key heard.met) command outcome in
    let met : own heard.key heard.met ≡ own was.pass.key was.pass.met = ap (λ (k : ℕ). own k heard.met) key_is ∙ ap (own was.pass.key) met_is in
    record {
      same_lane = same;
      bank = key ∙ key_is;
      before = submitted.before;
      entry = entry;
      sender = key_is;
      command_is = refl;
      begins = prefix_trans note heard.seen submitted.before told submitted.begins;
      ends = submitted.ends;
      mine = submitted.mine_grew ∙ ap (λ (es : List Entry). es ++ entry ∷ []) met;
      own_are_mine = ap (λ (k : ℕ). own k now.pass.seen) key ∙ submitted.own_are_mine;
    }

-- so a history that all passes have then seen is the one that was submitted
pub replayed : (h : Header) (entries note history : List Entry) (count : ℕ) (mid now : List (Lane (Witness Entry))) → IsLegal h entries → AreResubmitted h entries note mid → AreGathered h history mid now → count ≡ length history
    → HaveGatheredAll h (map sent_by entries) entries count now
replayed h entries note history count mid now legal re gathered count_is =
    subst (λ (k : ℕ). HaveGatheredAll h (map sent_by entries) entries k now) (sym count_is)
    (subst (λ (es : List Entry). HaveGatheredAll h (map sent_by entries) es (length history) now) same all)
  where
    all : HaveGatheredAll h (map sent_by entries) history (length history) now
    all = (gathered-all h (map sent_by entries) [] history 0 mid now re.served re.gathered gathered).1

    long : length history ≡ length entries
    long = streams-length (map sent_by entries) history all.streams ∙ length-map entries sent_by

    begun : IsPrefix note history
    begun =
        let now_at = slice_get-get_or now re.place re.lane (omega (arith, gathered.lanes.long, slice_get_within mid re.place re.lane re.there)) in
        subst (λ (es : List Entry). IsPrefix es history) re.told (gathered.lanes.each re.place re.lane (get_or now re.place re.lane) re.there now_at).begun

    whole : history ≡ note
    whole = prefix-whole note history begun (omega (arith, long, re.enough))

    same : history ≡ entries
    same = histories_agree h history entries all.legal legal (ap (map sent_by) whole ∙ re.exact (omega (arith, long, prefix_length note history begun)))

-- the lanes of a run, handed out twice and come back
pub replayed-back : (h : Header) (entries note history : List Entry) (count n : ℕ) (was mid lent now : List (Lane (Witness Entry))) → IsLegal h entries → n ≡ length was → length was ≡ length mid → AreResubmitted h entries note mid
    → lent ≡ take n (mid ++ drop (length mid) was) → AreGathered h history lent now → count ≡ length history → HaveGatheredAll h (map sent_by entries) entries count (take n (now ++ drop (length now) (take n (mid ++ drop (length mid) was))))
replayed-back h entries note history count n was mid lent now legal all same re lent_is gathered count_is =
    let back : List (Lane (Witness Entry)) = take n (mid ++ drop (length mid) was) in
    let mid_is : back ≡ mid = came_back n was mid all same in
    let met : AreGathered h history mid now = subst (λ (ls : List (Lane (Witness Entry))). AreGathered h history ls now) (lent_is ∙ mid_is) gathered in
    let long : length back ≡ length mid = ap (λ (ls : List (Lane (Witness Entry))). length ls) mid_is in
    subst (λ (ls : List (Lane (Witness Entry))). HaveGatheredAll h (map sent_by entries) entries count ls) (sym (came_back n back now (omega (arith, all, same, long)) (omega (arith, long, met.lanes.long))))
    (replayed h entries note history count mid now legal re met count_is)
