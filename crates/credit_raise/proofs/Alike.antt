-- The order in which orders wait makes no difference.
use Rattle.std.proofs.Common.{ℕ, ◌≡◌, ◌-◌, ◌*◌, ◌/◌, Bool, true, false, ltb, List, [], ◌∷◌, ◌++◌, ◌⊎◌, inl, inr, refl, ap, sym, subst, ◌∙◌}
use Rattle.std.proofs.lemmas.Bool.{cases_Bool, cond_both, cond-true, cond-false, both_ways}
use Rattle.std.specs.List.{filter}
use Rattle.fx_amounts.specs.declared.side.Side.{Side}
use Rattle.fx_rules.specs.declared.orders.Resting.{Resting}
use Rattle.fx_rules.specs.declared.orders.Fill.{Fill}
use Rattle.fx_rules.specs.Lists.{Among, Each, EachPair}
use Rattle.fx_rules.specs.Sweep.{Taker, is_order, is_open, is_preferred, IsBest, less}
use Rattle.fx_rules.specs.Raise.{taker_of_resting}
use Rattle.fx_rules.proofs.ListLemmas.{Each-among, Each-of, Each-weaker, EachPair-push, Among-filter, among_filter}
use Rattle.fx_rules.proofs.Lowering.{is_order-says}
use Rattle.credit_raise.specs.inside.Playing.{only, other_of, lessened, lessened_all, joined, paid, SweptAmong, Played}
use Rattle.credit_raise.proofs.Apart.{none_in}
use Rattle.credit_raise.proofs.Meeting.{among_front}
use Rattle.credit_raise.proofs.Lessening.{cut, lessened_here, lessened_later, Each-lessened, Each-lessened_all}
use Rattle.credit_raise.proofs.Walking.{Each-joined}

-- two orders of two commands
abbrev pub IsApart : Resting → Resting → Type 0
IsApart a b = is_order a.bank a.number b ≡ false

-- two lists have the same orders
pub record IsAlike (xs ys : List Resting) : Type 0 where
  pub there : (o : Resting) → Among o xs → Among o ys
  pub back : (o : Resting) → Among o ys → Among o xs

-- ---- an order with lots less

-- an order of some that have one of theirs lessened: it is another's, as it was, or this one's, with what is left of it
abbrev IsOfLessened : ℕ → ℕ → ℕ → List Resting → Resting → Type 0
IsOfLessened bank number lots orders o =
    (Among o orders × (is_order bank number o ≡ false))
    ⊎ ((was : Resting) × Among was orders × (is_order bank number was ≡ true) × (ltb lots was.left ≡ true) × (o ≡ record was { left = was.left - lots }))

of_later : (bank number lots : ℕ) (x : Resting) (orders : List Resting) (o : Resting) → IsOfLessened bank number lots orders o → IsOfLessened bank number lots (x ∷ orders) o
of_later bank number lots x orders o (inl other) = inl (inr other.0, other.1)
of_later bank number lots x orders o (inr is) = inr (is.0, inr is.1, is.2, is.3, is.4)

-- what is apart from an order is not of its command
other_one : (bank number : ℕ) (x o : Resting) → is_order bank number x ≡ true → IsApart x o → is_order bank number o ≡ false
other_one bank number x o is apart =
    let says = is_order-says bank number x is in
    subst (λ (b : ℕ). is_order b number o ≡ false) says.0 (subst (λ (n : ℕ). is_order x.bank n o ≡ false) says.1 apart)

lessened-says : (bank number lots : ℕ) (orders : List Resting) (o : Resting) → EachPair IsApart orders → Among o (lessened bank number lots orders) → IsOfLessened bank number lots orders o
lessened-says bank number lots [] o apart there = absurd there
lessened-says bank number lots (x ∷ orders) o apart there =
    elim (cases_Bool (is_order bank number x)) [
      | inl is ↦
          let later : Among o orders → IsOfLessened bank number lots (x ∷ orders) o
          = λ here. inl (inr here, other_one bank number x o is (Each-among (IsApart x) orders o apart.0 here)) in
          let found : Among o (cut lots x orders) = subst (Among o) (lessened_here bank number lots x orders is) there in
          elim (cases_Bool (ltb lots x.left)) [
            | inl more ↦ elim (subst (Among o) (cond-true (ltb lots x.left) (record x { left = x.left - lots } ∷ orders) orders more) found) [
              | inl same ↦ inr (x, inl refl, is, more, same)
              | inr here ↦ later here
            ]
            | inr gone ↦ later (subst (Among o) (cond-false (ltb lots x.left) (record x { left = x.left - lots } ∷ orders) orders gone) found)
          ]
      | inr is_not ↦ elim (subst (Among o) (lessened_later bank number lots x orders is_not) there) [
        | inl same ↦ inl (inl same, ap (is_order bank number) same ∙ is_not)
        | inr here ↦ of_later bank number lots x orders o (lessened-says bank number lots orders o apart.1 here)
      ]
    ]

-- it stands behind the order itself, which may be gone
among_cut : (lots : ℕ) (x : Resting) (orders : List Resting) (o : Resting) → Among o orders → Among o (cut lots x orders)
among_cut lots x orders o there =
    cond_both (ltb lots x.left) (record x { left = x.left - lots } ∷ orders) orders (Among o) (λ _. inr there) (λ _. there)

lessened-has : (bank number lots : ℕ) (orders : List Resting) (o : Resting) → EachPair IsApart orders → IsOfLessened bank number lots orders o → Among o (lessened bank number lots orders)
lessened-has bank number lots [] o apart (inl other) = absurd other.0
lessened-has bank number lots [] o apart (inr is) = absurd is.1
lessened-has bank number lots (x ∷ orders) o apart (inl other) =
    elim (cases_Bool (is_order bank number x)) [
      | inl is ↦
          let later : Among o orders = elim other.0 [
            | inl same ↦ absurd (both_ways (is_order bank number x) (ap (is_order bank number) (sym same) ∙ other.1) is)
            | inr here ↦ here
          ] in
          subst (Among o) (sym (lessened_here bank number lots x orders is)) (among_cut lots x orders o later)
      | inr is_not ↦
          let found : Among o (x ∷ lessened bank number lots orders) = elim other.0 [
            | inl same ↦ inl same
            | inr here ↦ inr (lessened-has bank number lots orders o apart.1 (inl (here, other.1)))
          ] in
          subst (Among o) (sym (lessened_later bank number lots x orders is_not)) found
    ]
lessened-has bank number lots (x ∷ orders) o apart (inr its) =
    let was : Resting = its.0 in
    elim (cases_Bool (is_order bank number x)) [
      | inl is ↦
          let first : was ≡ x = elim its.1 [
            | inl same ↦ same
            | inr here ↦ absurd (both_ways (is_order bank number was) (other_one bank number x was is (Each-among (IsApart x) orders was apart.0 here)) its.2)
          ] in
          let more : ltb lots x.left ≡ true = ap (λ (q : Resting). ltb lots q.left) (sym first) ∙ its.3 in
          subst (Among o) (sym (lessened_here bank number lots x orders is))
          (subst (Among o) (sym (cond-true (ltb lots x.left) (record x { left = x.left - lots } ∷ orders) orders more))
          (inl (its.4 ∙ ap (λ (q : Resting). record q { left = q.left - lots }) first)))
      | inr is_not ↦
          let later : Among was orders = elim its.1 [
            | inl same ↦ absurd (both_ways (is_order bank number x) is_not (ap (is_order bank number) (sym same) ∙ its.2))
            | inr here ↦ here
          ] in
          subst (Among o) (sym (lessened_later bank number lots x orders is_not))
          (inr (lessened-has bank number lots orders o apart.1 (inr (was, later, its.2, its.3, its.4))))
    ]

lessened-within : (bank number lots : ℕ) (xs ys : List Resting) → EachPair IsApart xs → EachPair IsApart ys → ((o : Resting) → Among o xs → Among o ys)
    → (o : Resting) → Among o (lessened bank number lots xs) → Among o (lessened bank number lots ys)
lessened-within bank number lots xs ys xs_apart ys_apart within o there =
    lessened-has bank number lots ys o ys_apart (elim (lessened-says bank number lots xs o xs_apart there) [
      | inl other ↦ inl (within o other.0, other.1)
      | inr is ↦ inr (is.0, within is.0 is.1, is.2, is.3, is.4)
    ])

lessened-alike : (bank number lots : ℕ) (xs ys : List Resting) → EachPair IsApart xs → EachPair IsApart ys → IsAlike xs ys → IsAlike (lessened bank number lots xs) (lessened bank number lots ys)
lessened-alike bank number lots xs ys xs_apart ys_apart alike = record {
  there = lessened-within bank number lots xs ys xs_apart ys_apart alike.there;
  back = lessened-within bank number lots ys xs ys_apart xs_apart alike.back;
}

lessened-apart : (bank number lots : ℕ) (orders : List Resting) → EachPair IsApart orders → EachPair IsApart (lessened bank number lots orders)
lessened-apart bank number lots [] apart = tt
lessened-apart bank number lots (x ∷ orders) apart =
    cond_both (is_order bank number x) (cut lots x orders) (x ∷ lessened bank number lots orders) (EachPair IsApart)
    (λ _. cond_both (ltb lots x.left) (record x { left = x.left - lots } ∷ orders) orders (EachPair IsApart) (λ _. (apart.0, apart.1)) (λ _. apart.1))
    (λ _. (Each-lessened (IsApart x) (λ o left is. is) bank number lots orders apart.0, lessened-apart bank number lots orders apart.1))

-- ---- an order behind them

among_parts : (xs ys : List Resting) (o : Resting) → Among o (xs ++ ys) → Among o xs ⊎ Among o ys
among_parts [] ys o there = inr there
among_parts (x ∷ xs) ys o (inl is) = inl (inl is)
among_parts (x ∷ xs) ys o (inr there) =
    elim (among_parts xs ys o there) [
      | inl front ↦ inl (inr front)
      | inr behind ↦ inr behind
    ]

pub among_end : (xs ys : List Resting) (o : Resting) → Among o ys → Among o (xs ++ ys)
among_end [] ys o there = there
among_end (x ∷ xs) ys o there = inr (among_end xs ys o there)

append-within : (xs ys zs : List Resting) → ((o : Resting) → Among o xs → Among o ys) → (o : Resting) → Among o (xs ++ zs) → Among o (ys ++ zs)
append-within xs ys zs within o there =
    elim (among_parts xs zs o there) [
      | inl front ↦ among_front ys zs o (within o front)
      | inr behind ↦ among_end ys zs o behind
    ]

joined-within : (order : Resting) (left : ℕ) (xs ys : List Resting) → ((o : Resting) → Among o xs → Among o ys) → (o : Resting) → Among o (joined order left xs) → Among o (joined order left ys)
joined-within order left xs ys within o there =
    let now : Resting = record order { left = left } in
    elim (cases_Bool (ltb 0 left)) [
      | inl some ↦
          subst (Among o) (sym (cond-true (ltb 0 left) (ys ++ now ∷ []) ys some))
          (append-within xs ys (now ∷ []) within o (subst (Among o) (cond-true (ltb 0 left) (xs ++ now ∷ []) xs some) there))
      | inr none ↦
          subst (Among o) (sym (cond-false (ltb 0 left) (ys ++ now ∷ []) ys none))
          (within o (subst (Among o) (cond-false (ltb 0 left) (xs ++ now ∷ []) xs none) there))
    ]

joined-alike : (order : Resting) (left : ℕ) (xs ys : List Resting) → IsAlike xs ys → IsAlike (joined order left xs) (joined order left ys)
joined-alike order left xs ys alike = record {
  there = joined-within order left xs ys alike.there;
  back = joined-within order left ys xs alike.back;
}

joined-apart : (order : Resting) (left : ℕ) (orders : List Resting) → EachPair IsApart orders → Each (λ w. IsApart w order) orders → EachPair IsApart (joined order left orders)
joined-apart order left orders apart others =
    cond_both (ltb 0 left) (orders ++ record order { left = left } ∷ []) orders (EachPair IsApart)
    (λ _. EachPair-push IsApart orders (record order { left = left }) apart others) (λ _. apart)

-- ---- what is open of them

filter-within : (test : Resting → Bool) (xs ys : List Resting) → ((o : Resting) → Among o xs → Among o ys) → (o : Resting) → Among o (filter test xs) → Among o (filter test ys)
filter-within test xs ys within o there =
    let found = Among-filter test xs o there in
    among_filter test ys o (within o found.0) found.1

filter-alike : (test : Resting → Bool) (xs ys : List Resting) → IsAlike xs ys → IsAlike (filter test xs) (filter test ys)
filter-alike test xs ys alike = record {
  there = filter-within test xs ys alike.there;
  back = filter-within test ys xs alike.back;
}

none-alike : (xs ys : List Resting) → IsAlike xs ys → xs ≡ [] → ys ≡ []
none-alike xs ys alike none = none_in ys (λ o there. subst (Among o) none (alike.back o there))

best-alike : (side : Side) (xs ys : List Resting) (best : Resting) → IsAlike xs ys → IsBest side xs best → IsBest side ys best
best-alike side xs ys best alike is = record {
  there = alike.there best is.there;
  first = Each-of (λ (o : Resting). is_preferred side o best ≡ false) ys
      (λ o there. Each-among (λ (o : Resting). is_preferred side o best ≡ false) xs o is.first (alike.back o there));
}

-- ---- sweeps and turns

-- what is left of two lists once they are swept
record AreLeft (xs ys : List Resting) : Type 0 where
  xs_apart : EachPair IsApart xs
  ys_apart : EachPair IsApart ys
  alike : IsAlike xs ys

lessened-left : (bank number lots : ℕ) (xs ys : List Resting) → AreLeft xs ys → AreLeft (lessened bank number lots xs) (lessened bank number lots ys)
lessened-left bank number lots xs ys are = record {
  xs_apart = lessened-apart bank number lots xs are.xs_apart;
  ys_apart = lessened-apart bank number lots ys are.ys_apart;
  alike = lessened-alike bank number lots xs ys are.xs_apart are.ys_apart are.alike;
}

-- a sweep among the one is a sweep among the other
swept-alike : (weight other line : ℕ) (xs ys : List Resting) (t : Taker) (own : List Fill) (left : ℕ) → AreLeft xs ys
    → SweptAmong weight other line xs t own left → SweptAmong weight other line ys t own left × AreLeft (lessened_all xs own) (lessened_all ys own)
swept-alike weight other line xs ys t [] left are swept =
    let opens : Resting → Bool = λ (o : Resting). is_open t (only other (line / weight) o.bank) o in (
      (
        swept.0,
        elim swept.1 [
          | inl none ↦ inl none
          | inr closed ↦ inr (none-alike (filter opens xs) (filter opens ys) (filter-alike opens xs ys are.alike) closed)
        ],
      ),
      are,
    )
swept-alike weight other line xs ys t (f ∷ own) left are swept =
    let opens : Resting → Bool = λ (o : Resting). is_open t (only other (line / weight) o.bank) o in
    let best : Resting = swept.0 in
    let rest = swept-alike weight other (line - f.lots * weight) (lessened f.maker f.maker_number f.lots xs) (lessened f.maker f.maker_number f.lots ys) (less t f.lots) own left
    (lessened-left f.maker f.maker_number f.lots xs ys are) swept.4 in (
      (best, swept.1, best-alike t.side (filter opens xs) (filter opens ys) best (filter-alike opens xs ys are.alike) swept.2, swept.3, rest.0),
      rest.1,
    )

-- The turns play the same among orders that wait in one order and in another: no two of these, and of the turns, are of one command.
pub played-alike : (pair weight i j line : ℕ) (listed waiting turns : List Resting) (fills : List Fill) → IsAlike listed waiting
    → EachPair IsApart listed → EachPair IsApart waiting → Each (λ w. Each (IsApart w) turns) waiting → EachPair IsApart turns
    → Played pair weight i j line listed turns fills → Played pair weight i j line waiting turns fills
played-alike pair weight i j line listed waiting [] fills alike listed_apart waiting_apart across turns_apart played = played
played-alike pair weight i j line listed waiting (order ∷ turns) fills alike listed_apart waiting_apart across turns_apart played =
    let own : List Fill = played.0 in
    let more : List Fill = played.1 in
    let left : ℕ = played.2 in
    let Other : Resting → Type 0 = λ (w : Resting). Each (IsApart w) (order ∷ turns) in
    let Later : Resting → Type 0 = λ (w : Resting). Each (IsApart w) turns in
    let Apart : Resting → Type 0 = λ (w : Resting). IsApart w order in
    let swept = swept-alike weight (other_of i j order.bank) line listed waiting (taker_of_resting pair order) own left
    (record { xs_apart = listed_apart; ys_apart = waiting_apart; alike = alike }) played.3 in
    let listed_across : Each Other listed = Each-of Other listed (λ o there. Each-among Other waiting o across (alike.there o there)) in
    let listed_left : Each Other (lessened_all listed own) = Each-lessened_all Other (λ o rest is. is) listed own listed_across in
    let waiting_left : Each Other (lessened_all waiting own) = Each-lessened_all Other (λ o rest is. is) waiting own across in (
      own,
      more,
      left,
      swept.0,
      played.4,
      played-alike pair weight i j (paid weight line own) (joined order left (lessened_all listed own)) (joined order left (lessened_all waiting own)) turns more
          (joined-alike order left (lessened_all listed own) (lessened_all waiting own) swept.1.alike)
          (joined-apart order left (lessened_all listed own) swept.1.xs_apart (Each-weaker Other Apart (λ w is. is.0) (lessened_all listed own) listed_left))
          (joined-apart order left (lessened_all waiting own) swept.1.ys_apart (Each-weaker Other Apart (λ w is. is.0) (lessened_all waiting own) waiting_left))
          (Each-joined Later order left (lessened_all waiting own) (Each-weaker Other Later (λ w is. is.1) (lessened_all waiting own) waiting_left) turns_apart.0)
          turns_apart.1 played.5,
    )
