-- Of two banks' orders those that can take or be taken: their turns alone are the turns of all.
use Rattle.std.proofs.Common.{ℕ, ◌≡◌, ◌-◌, ◌*◌, ◌/◌, Bool, true, false, ◌&&◌, ltb, List, [], ◌∷◌, ◌++◌, ◌⊎◌, inl, inr, refl, ap, sym, subst, ◌∙◌, append-nil}
use Rattle.std.proofs.lemmas.Bool.{cases_Bool, cond-true, cond-false, both_ways, false_from_ne_true}
use Rattle.std.proofs.lemmas.List.Elements.{filter-append}
use Rattle.std.specs.List.{filter}
use Rattle.fx_rules.specs.declared.orders.Resting.{Resting}
use Rattle.fx_rules.specs.declared.orders.Fill.{Fill}
use Rattle.fx_rules.specs.Lists.{Among, Each, EachPair}
use Rattle.fx_rules.specs.Sound.{ArrivesBefore}
use Rattle.fx_rules.specs.Sweep.{Taker, is_open, is_order, open_in, IsBest, less}
use Rattle.fx_rules.specs.Raise.{taker_of_resting}
use Rattle.fx_rules.proofs.ListLemmas.{Each-among, Each-weaker, Among-filter, filter_agree_on, filter_filter, filter_cons_true, filter_cons_false}
use Rattle.fx_rules.proofs.Lowering.{is_order-says}
use Rattle.fx_rules.proofs.Preference.{command_same}
use Rattle.credit_raise.specs.inside.Playing.{only, other_of, lessened, lessened_all, joined, paid, SweptAmong, Played}
use Rattle.credit_raise.proofs.Lessening.{Each-lessened, Each-lessened_all, filter-lessened}
use Rattle.credit_raise.proofs.Walking.{Each-joined}

-- an order of a list, whatever it has left
pub record IsLike (orders : List Resting) (o : Resting) : Type 0 where
  pub was : Resting
  pub rests : Among was orders
  pub same : o ≡ record was { left = o.left }

-- A test that each order passes which can take one of the other bank, or can be taken by one, whatever it has left.
pub record Spots (p : Resting → Bool) (pair i j : ℕ) (orders : List Resting) : Type 0 where
  pub whatever : (o : Resting) (left : ℕ) → p (record o { left = left }) ≡ p o
  pub takes : (o w : Resting) (lots : ℕ) → Among o orders → Among w orders → (o.bank ≡ i) ⊎ (o.bank ≡ j) → is_open (taker_of_resting pair o) (only (other_of i j o.bank) lots w.bank) w ≡ true → (p o ≡ true) × (p w ≡ true)

like_itself : (orders : List Resting) (o : Resting) → Among o orders → IsLike orders o
like_itself orders o there = record { was = o; rests = there; same = refl }

like_left : (orders : List Resting) (o : Resting) (left : ℕ) → IsLike orders o → IsLike orders (record o { left = left })
like_left orders o left like = record {
  was = like.was;
  rests = like.rests;
  same = ap (λ (q : Resting). record q { left = left }) like.same;
}

and_holds : (a b : Bool) → (a ≡ true → b ≡ true) → (a && b) ≡ a
and_holds false b holds = refl
and_holds true b holds = holds refl

pub none_kept : (test : Resting → Bool) (xs : List Resting) → Each (λ x. test x ≡ false) xs → filter test xs ≡ []
none_kept test [] all = refl
none_kept test (x ∷ xs) all = filter_cons_false test x xs all.0 ∙ none_kept test xs all.1

-- what waits after a turn, so far as it passes
joined-kept : (p : Resting → Bool) (o : Resting) (left : ℕ) (waiting : List Resting) → p (record o { left = left }) ≡ true → filter p (joined o left waiting) ≡ joined o left (filter p waiting)
joined-kept p o left waiting passes =
    let now : Resting = record o { left = left } in
    elim (cases_Bool (ltb 0 left)) [
      | inl some ↦
          ap (filter p) (cond-true (ltb 0 left) (waiting ++ now ∷ []) waiting some)
          ∙ filter-append p waiting (now ∷ [])
          ∙ ap (λ (os : List Resting). filter p waiting ++ os) (filter_cons_true p now [] passes)
          ∙ sym (cond-true (ltb 0 left) (filter p waiting ++ now ∷ []) (filter p waiting) some)
      | inr none ↦
          ap (filter p) (cond-false (ltb 0 left) (waiting ++ now ∷ []) waiting none)
          ∙ sym (cond-false (ltb 0 left) (filter p waiting ++ now ∷ []) (filter p waiting) none)
    ]

joined-dropped : (p : Resting → Bool) (o : Resting) (left : ℕ) (waiting : List Resting) → p (record o { left = left }) ≡ false → filter p (joined o left waiting) ≡ filter p waiting
joined-dropped p o left waiting fails =
    let now : Resting = record o { left = left } in
    elim (cases_Bool (ltb 0 left)) [
      | inl some ↦
          ap (filter p) (cond-true (ltb 0 left) (waiting ++ now ∷ []) waiting some)
          ∙ filter-append p waiting (now ∷ [])
          ∙ ap (λ (os : List Resting). filter p waiting ++ os) (filter_cons_false p now [] fails)
          ∙ append-nil (filter p waiting)
      | inr none ↦ ap (filter p) (cond-false (ltb 0 left) (waiting ++ now ∷ []) waiting none)
    ]

module _ (p : Resting → Bool) (pair i j weight : ℕ) (orders : List Resting) (spots : Spots p pair i j orders) (rising : EachPair ArrivesBefore orders) where
  like-passes : (o : Resting) (like : IsLike orders o) → p o ≡ p like.was
  like-passes o like = ap p like.same ∙ spots.whatever like.was o.left

  -- two of one command
  alike : (a b : Resting) → IsLike orders a → IsLike orders b → a.bank ≡ b.bank → a.number ≡ b.number → p a ≡ p b
  alike a b one other bank number =
      let same : one.was ≡ other.was = command_same orders one.was other.was rising one.rests other.rests
      (sym (ap (λ (q : Resting). q.bank) one.same) ∙ bank ∙ ap (λ (q : Resting). q.bank) other.same)
      (sym (ap (λ (q : Resting). q.number) one.same) ∙ number ∙ ap (λ (q : Resting). q.number) other.same) in
      like-passes a one ∙ ap p same ∙ sym (like-passes b other)

  -- who takes and who is taken pass
  both-pass : (o w : Resting) (lots : ℕ) → Among o orders → (o.bank ≡ i) ⊎ (o.bank ≡ j) → IsLike orders w → is_open (taker_of_resting pair o) (only (other_of i j o.bank) lots w.bank) w ≡ true → (p o ≡ true) × (p w ≡ true)
  both-pass o w lots there owner like opens =
      let found = spots.takes o like.was lots there like.rests owner
      (subst (λ (q : Resting). is_open (taker_of_resting pair o) (only (other_of i j o.bank) lots q.bank) q ≡ true) like.same opens) in
      (found.0, like-passes w like ∙ found.1)

  open-kept : (o : Resting) (lots : ℕ) (waiting : List Resting) → Among o orders → (o.bank ≡ i) ⊎ (o.bank ≡ j) → Each (IsLike orders) waiting → open_in (only (other_of i j o.bank) lots) (taker_of_resting pair o) (filter p waiting) ≡ open_in (only (other_of i j o.bank) lots) (taker_of_resting pair o) waiting
  open-kept o lots waiting there owner likes =
      let opens : Resting → Bool = λ (w : Resting). is_open (taker_of_resting pair o) (only (other_of i j o.bank) lots w.bank) w in
      filter_filter opens p waiting
      ∙ filter_agree_on (λ (w : Resting). opens w && p w) opens waiting
      (λ w here. and_holds (opens w) (p w) (λ is. (both-pass o w lots there owner (Each-among (IsLike orders) waiting w likes here) is).1))

  -- a sweep among those that pass is a sweep among all
  swept-all : (line : ℕ) (waiting : List Resting) (o : Resting) (left : ℕ) (own : List Fill) (end : ℕ) → Among o orders → (o.bank ≡ i) ⊎ (o.bank ≡ j) → Each (IsLike orders) waiting
      → SweptAmong weight (other_of i j o.bank) line (filter p waiting) (taker_of_resting pair (record o { left = left })) own end
      → SweptAmong weight (other_of i j o.bank) line waiting (taker_of_resting pair (record o { left = left })) own end × (filter p (lessened_all waiting own) ≡ lessened_all (filter p waiting) own)
  swept-all line waiting o left [] end there owner likes swept = (
    (
      swept.0,
      elim swept.1 [
        | inl none ↦ inl none
        | inr closed ↦ inr (sym (open-kept o (line / weight) waiting there owner likes) ∙ closed)
      ],
    ),
    refl,
  )
  swept-all line waiting o left (f ∷ own) end there owner likes swept =
      let other : ℕ = other_of i j o.bank in
      let t : Taker = taker_of_resting pair (record o { left = left }) in
      let best : Resting = swept.0 in
      let opens : open_in (only other (line / weight)) t (filter p waiting) ≡ open_in (only other (line / weight)) t waiting = open-kept o (line / weight) waiting there owner likes in
      let found = Among-filter (λ (w : Resting). is_open t (only other (line / weight) w.bank) w) (filter p waiting) best swept.2.there in
      let picked = Among-filter p waiting best found.0 in
      let maker : f.maker ≡ best.bank = ap (λ (g : Fill). g.maker) swept.3 in
      let maker_number : f.maker_number ≡ best.number = ap (λ (g : Fill). g.maker_number) swept.3 in
      let passes : Each (λ (x : Resting). is_order f.maker f.maker_number x ≡ true → p x ≡ true) waiting =
      Each-weaker (IsLike orders) (λ (x : Resting). is_order f.maker f.maker_number x ≡ true → p x ≡ true)
      (λ x like is.
      let says = is_order-says f.maker f.maker_number x is in
      alike x best like (Each-among (IsLike orders) waiting best likes picked.0) (says.0 ∙ maker) (says.1 ∙ maker_number) ∙ picked.1) waiting likes in
      let later : List Resting = lessened f.maker f.maker_number f.lots waiting in
      let low : filter p later ≡ lessened f.maker f.maker_number f.lots (filter p waiting) = filter-lessened p f.maker f.maker_number f.lots waiting passes spots.whatever in
      let rest = swept-all (line - f.lots * weight) later o (left - f.lots) own end there owner
      (Each-lessened (IsLike orders) (like_left orders) f.maker f.maker_number f.lots waiting likes)
      (subst (λ (ws : List Resting). SweptAmong weight other (line - f.lots * weight) ws (less t f.lots) own end) (sym low) swept.4) in (
        (best, swept.1, subst (λ (os : List Resting). IsBest t.side os best) opens swept.2, swept.3, rest.0),
        rest.1 ∙ ap (λ (ws : List Resting). lessened_all ws own) low,
      )

  -- what waits is still the list's
  like-joined : (waiting : List Resting) (o : Resting) (left : ℕ) (own : List Fill) → Among o orders → Each (IsLike orders) waiting → Each (IsLike orders) (joined o left (lessened_all waiting own))
  like-joined waiting o left own there likes =
      Each-joined (IsLike orders) o left (lessened_all waiting own)
      (Each-lessened_all (IsLike orders) (like_left orders) waiting own likes)
      (like_left orders o left (like_itself orders o there))

  pub played-all : (line : ℕ) (waiting coming : List Resting) (fills : List Fill) → Each (λ o. Among o orders) coming → Each (λ (o : Resting). (o.bank ≡ i) ⊎ (o.bank ≡ j)) coming → Each (IsLike orders) waiting → Played pair weight i j line (filter p waiting) (filter p coming) fills → Played pair weight i j line waiting coming fills
  played-all line waiting [] fills come owners likes played = played
  played-all line waiting (o ∷ coming) fills come owners likes played =
      elim (cases_Bool (p o)) [
        | inl passes ↦
            let turn : Played pair weight i j line (filter p waiting) (o ∷ filter p coming) fills =
            subst (λ (os : List Resting). Played pair weight i j line (filter p waiting) os fills) (filter_cons_true p o coming passes) played in
            let own : List Fill = turn.0 in
            let more : List Fill = turn.1 in
            let left : ℕ = turn.2 in
            let swept = swept-all line waiting o o.left own left come.0 owners.0 likes turn.3 in
            let waits : filter p (joined o left (lessened_all waiting own)) ≡ joined o left (lessened_all (filter p waiting) own) =
            joined-kept p o left (lessened_all waiting own) (spots.whatever o left ∙ passes) ∙ ap (joined o left) swept.1 in (
              own,
              more,
              left,
              swept.0,
              turn.4,
              played-all (paid weight line own) (joined o left (lessened_all waiting own)) coming more come.1 owners.1
                  (like-joined waiting o left own come.0 likes)
                  (subst (λ (ws : List Resting). Played pair weight i j (paid weight line own) ws (filter p coming) more) (sym waits) turn.5),
            )
        | inr fails ↦
            let rest : Played pair weight i j line (filter p waiting) (filter p coming) fills =
            subst (λ (os : List Resting). Played pair weight i j line (filter p waiting) os fills) (filter_cons_false p o coming fails) played in
            let closed : open_in (only (other_of i j o.bank) (line / weight)) (taker_of_resting pair o) waiting ≡ [] =
            none_kept (λ (w : Resting). is_open (taker_of_resting pair o) (only (other_of i j o.bank) (line / weight) w.bank) w) waiting
            (Each-weaker (IsLike orders) (λ (w : Resting). is_open (taker_of_resting pair o) (only (other_of i j o.bank) (line / weight) w.bank) w ≡ false)
            (λ w like. false_from_ne_true (is_open (taker_of_resting pair o) (only (other_of i j o.bank) (line / weight) w.bank) w)
            (λ opens. both_ways (p o) fails (both-pass o w (line / weight) come.0 owners.0 like opens).0)) waiting likes) in (
              [],
              fills,
              o.left,
              (refl, inr closed),
              refl,
              played-all line (joined o o.left waiting) coming fills come.1 owners.1
                  (like-joined waiting o o.left [] come.0 likes)
                  (subst (λ (ws : List Resting). Played pair weight i j line ws (filter p coming) fills) (sym (joined-dropped p o o.left waiting fails)) rest),
            )
      ]
