-- The links of a list's orders as one comes, goes or is lowered.
use Rattle.std.proofs.Common.{ℕ, ◌≡◌, ◌≢◌, ◌+◌, ◌≤◌, ◌<◌, ◌⊎◌, Option, Some, None, inl, inr, refl, ap, sym, subst, ◌∙◌, arith}
use Rattle.std.proofs.lemmas.Bool.{cases_eq, cases_lt}
use Rattle.fx_rules.specs.declared.orders.Resting.{Resting}
use Rattle.order_store.specs.Linked.{AreRising, IsAlike, IsFirst, IsFirstFrom, IsInLevel, IsLast, IsLastBelow}
use Rattle.order_store.specs.inside.Chains.{AreChained}

alike_sym : (a b : Resting) → IsAlike a b → IsAlike b a
alike_sym a b is = record { bank = sym is.bank; side = sym is.side; price = sym is.price }

alike_trans : (a b c : Resting) → IsAlike a b → IsAlike b c → IsAlike a c
alike_trans a b c is then' = record { bank = is.bank ∙ then'.bank; side = is.side ∙ then'.side; price = is.price ∙ then'.price }

alike_self : (a : Resting) → IsAlike a a
alike_self a = record { bank = refl; side = refl; price = refl }

some_is : (a b : Resting) → Some a ≡ Some b → a ≡ b
some_is a b same = cc

-- the same level, said of another of its orders
of_level : (there : ℕ → Option Resting) (a b : Resting) (place : ℕ) → IsAlike a b → IsInLevel there a place → IsInLevel there b place
of_level there a b place is in_a = record { order = in_a.order; is = in_a.is; alike = alike_trans b a in_a.order (alike_sym a b is) in_a.alike }

-- two orders of a place are one
one_order : (there : ℕ → Option Resting) (a b : Resting) (place : ℕ) → there place ≡ Some a → IsInLevel there b place → IsAlike b a
one_order there a b place is in_b = let same : in_b.order ≡ a = some_is in_b.order a (sym in_b.is ∙ is) in subst (IsAlike b) same in_b.alike

-- an order is at a place that another list of orders has too
same_level : (there there' : ℕ → Option Resting) (like : Resting) (place : ℕ) → there' place ≡ there place → IsInLevel there like place → IsInLevel there' like place
same_level there there' like place same in' = record { order = in'.order; is = same ∙ in'.is; alike = in'.alike }

-- a link is that of a place, or not
cases_link : (link : Option ℕ) (place : ℕ) → (link ≡ Some place) ⊎ (link ≢ Some place)
cases_link None place = inr (λ same. let it : None ≡ Some place = same in cc)
cases_link (Some other) place =
    elim (cases_eq other place) [
      | inl same ↦ inl (ap Some same)
      | inr differ ↦ inr (λ same. let it : Some other ≡ Some place = same in differ (let is : other ≡ place = cc in is))
    ]

-- An order comes to the end, behind the last one of its level.
module _ (there there' : ℕ → Option Resting) (before before' behind behind' : ℕ → Option ℕ) (end : ℕ) (order : Resting)
    (past : (place : ℕ) → end ≤ place → there place ≡ None) (new : there' end ≡ Some order) (others : (place : ℕ) → place ≢ end → there' place ≡ there place) where
  -- what was there stands before the end
  within_end : (like : Resting) (place : ℕ) → IsInLevel there like place → place < end
  within_end like place in' =
      elim (cases_lt place end) [
        | inl within ↦ within
        | inr beyond ↦ let it : Some in'.order ≡ None = sym in'.is ∙ past place beyond in cc
      ]

  there_now : (like : Resting) (place : ℕ) → IsInLevel there like place → IsInLevel there' like place
  there_now like place in' = let within : place < end = within_end like place in' in same_level there there' like place (others place (λ same. omega arith)) in'

  there_before : (like : Resting) (place : ℕ) → place ≢ end → IsInLevel there' like place → IsInLevel there like place
  there_before like place differ in' = same_level there' there like place (sym (others place differ)) in'

  -- one that has a level is of the level of the order that comes, where that stands there
  of_new : (like : Resting) (place : ℕ) → place ≡ end → IsInLevel there' like place → IsAlike like order
  of_new like place same in' = one_order there' order like end new (subst (IsInLevel there' like) same in')

  before_kept : (like : Resting) (place : ℕ) (link : Option ℕ) → place ≤ end → IsLastBelow (IsInLevel there like) place link → IsLastBelow (IsInLevel there' like) place link
  before_kept like place None upto none = λ other below in'. none other below (there_before like other (λ same. omega (arith, same, below, upto)) in')
  before_kept like place (Some at) upto last = record {
    below = last.below;
    is = there_now like at last.is;
    last = λ other above below in'. last.last other above below (there_before like other (λ same. omega (arith, same, below, upto)) in');
  }

  -- behind an order of another level, or one that is not the last of its own, nothing changes
  behind_kept : (like : Resting) (place : ℕ) (last link : Option ℕ) → IsInLevel there like place → IsLastBelow (IsInLevel there order) end last → last ≢ Some place
      → IsFirstFrom (IsInLevel there like) (place + 1) link → IsFirstFrom (IsInLevel there' like) (place + 1) link
  behind_kept like place last (Some at) here is differ first = record {
    from_on = first.from_on;
    is = there_now like at first.is;
    first = λ other from below in'.
        let within : at < end = within_end like at first.is in
        first.first other from below (there_before like other (λ same. omega (arith, same, below, within)) in');
  }
  behind_kept like place last None here is differ none = λ other from in'.
      elim (cases_eq other end) [
        | inr old ↦ none other from (there_before like other old in')
        | inl same ↦ no_last last (of_level there like order place (of_new like other same in') here) is differ
            (λ next from' in_next. none next from' (of_level there order like next (alike_sym like order (of_new like other same in')) in_next))
      ]
    where
      no_last : (last : Option ℕ) → IsInLevel there order place → IsLastBelow (IsInLevel there order) end last → last ≢ Some place
          → ((next : ℕ) → place + 1 ≤ next → IsInLevel there order next → ⊥) → ⊥
      no_last None in_own is differ none = is place (within_end order place in_own) in_own
      no_last (Some at) in_own is differ none =
          elim (cases_lt at place) [
            | inl early ↦ is.last place early (within_end order place in_own) in_own
            | inr late ↦ elim (cases_eq at place) [
              | inl same ↦ differ (ap Some same)
              | inr apart ↦ none at (omega (arith, late, apart)) is.is
            ]
          ]

  -- behind the last one of its level the new order stands
  behind_last : (like : Resting) (place : ℕ) → there place ≡ Some like → IsLast (IsInLevel there order) end place → IsFirst (IsInLevel there' like) (place + 1) end
  behind_last like place here last =
      let alike : IsAlike order like = one_order there like order place here last.is in
      let below : place < end = last.below in
      record {
        from_on = omega arith;
        is = record { order = order; is = new; alike = alike_sym order like alike };
        first = λ other from within in'. last.last other (omega (arith, from)) within
            (of_level there like order other (alike_sym order like alike) (there_before like other (λ same. omega (arith, same, within)) in'));
      }

  pub chained-pushed : (last : Option ℕ) → IsLastBelow (IsInLevel there order) end last → AreChained there before behind
      → before' end ≡ last → ((place : ℕ) → place ≢ end → before' place ≡ before place)
      → behind' end ≡ None → ((place : ℕ) → place ≢ end → last ≡ Some place → behind' place ≡ Some end) → ((place : ℕ) → place ≢ end → last ≢ Some place → behind' place ≡ behind place)
      → AreChained there' before' behind'
  chained-pushed last last_is are before_new before_others behind_new behind_at behind_others = record {
    behind_is = λ place o is. elim (cases_eq place end) [
      | inl same ↦ subst (IsFirstFrom (IsInLevel there' o) (place + 1)) (sym (ap behind' same ∙ behind_new))
          (λ other from in'. let it : there other ≡ None = past other (omega (arith, from, same)) in
          let in_old = there_before o other (λ at_end. omega (arith, at_end, from, same)) in' in
          let both : Some in_old.order ≡ None = sym in_old.is ∙ it in cc)
      | inr differ ↦
          let here : there place ≡ Some o = sym (others place differ) ∙ is in
          elim (cases_link last place) [
            | inl at ↦ subst (IsFirstFrom (IsInLevel there' o) (place + 1)) (sym (behind_at place differ at))
                (behind_last o place here (subst (IsLastBelow (IsInLevel there order) end) at last_is))
            | inr apart ↦ subst (IsFirstFrom (IsInLevel there' o) (place + 1)) (sym (behind_others place differ apart))
                (behind_kept o place last (behind place) (record { order = o; is = here; alike = alike_self o }) last_is apart (are.behind_is place o here))
          ]
    ];
    before_is = λ place o is. elim (cases_eq place end) [
      | inl same ↦
          let it : o ≡ order = some_is o order (sym is ∙ ap there' same ∙ new) in
          subst (λ (l : Resting). IsLastBelow (IsInLevel there' l) place (before' place)) (sym it)
          (subst (λ (p : ℕ). IsLastBelow (IsInLevel there' order) p (before' p)) (sym same)
          (subst (IsLastBelow (IsInLevel there' order) end) (sym before_new) (before_kept order end last (omega arith) last_is)))
      | inr differ ↦
          let here : there place ≡ Some o = sym (others place differ) ∙ is in
          let within : place < end = within_end o place (record { order = o; is = here; alike = alike_self o }) in
          subst (IsLastBelow (IsInLevel there' o) place) (sym (before_others place differ)) (before_kept o place (before place) (omega arith) (are.before_is place o here))
    ];
  }

  pub rising-pushed : AreRising there → ((place : ℕ) (other : Resting) → there place ≡ Some other → other.arrival < order.arrival) → AreRising there'
  rising-pushed are later place other o l is_o is_l below =
      elim (cases_eq other end) [
        | inl same ↦
            let it : order ≡ l = some_is order l (sym new ∙ ap there' (sym same) ∙ is_l) in
            let was : there place ≡ Some o = sym (others place (λ at. omega (arith, at, below, same))) ∙ is_o in
            subst (λ (r : Resting). o.arrival < r.arrival) it (later place o was)
        | inr differ ↦
            let was_l : there other ≡ Some l = sym (others other differ) ∙ is_l in
            let within : other < end = within_end l other (record { order = l; is = was_l; alike = alike_self l }) in
            are place other o l (sym (others place (λ at. omega (arith, at, below, within))) ∙ is_o) was_l below
      ]

-- An order goes, and its neighbours are linked with each other.
module _ (there there' : ℕ → Option Resting) (before before' behind behind' : ℕ → Option ℕ) (gone : ℕ) (order : Resting)
    (was : there gone ≡ Some order) (new : there' gone ≡ None) (others : (place : ℕ) → place ≢ gone → there' place ≡ there place) where
  not_gone : (like : Resting) (place : ℕ) → IsInLevel there' like place → place ≢ gone
  not_gone like place in' same = let it : None ≡ Some in'.order = sym (ap there' same ∙ new) ∙ in'.is in cc

  still_there : (like : Resting) (place : ℕ) → place ≢ gone → IsInLevel there like place → IsInLevel there' like place
  still_there like place differ in' = same_level there there' like place (others place differ) in'

  was_there : (like : Resting) (place : ℕ) → IsInLevel there' like place → IsInLevel there like place
  was_there like place in' = same_level there' there like place (sym (others place (not_gone like place in'))) in'

  -- an order of the level that stays stood on one side of the one that goes; what neither side allows is not so
  aside : (like : Resting) (place : ℕ) → IsAlike order like → IsInLevel there' like place → (place < gone → IsInLevel there order place → ⊥) → (gone + 1 ≤ place → IsInLevel there order place → ⊥) → ⊥
  aside like place alike in' early late =
      let in_own : IsInLevel there order place = of_level there like order place (alike_sym order like alike) (was_there like place in') in
      elim (cases_lt place gone) [
        | inl below ↦ early below in_own
        | inr above ↦ late (let differ = not_gone like place in' in omega (arith, above, differ)) in_own
      ]

  -- behind an order that was not before the one that goes, nothing changes
  behind_stays : (like : Resting) (place : ℕ) (link own : Option ℕ) → IsInLevel there like place → IsLastBelow (IsInLevel there order) gone own → own ≢ Some place
      → IsFirstFrom (IsInLevel there like) (place + 1) link → IsFirstFrom (IsInLevel there' like) (place + 1) link
  behind_stays like place None own here own_is apart none = λ other from in'. none other from (was_there like other in')
  behind_stays like place (Some at) own here own_is apart first = record {
    from_on = first.from_on;
    is = still_there like at (λ same. not_own own own_is apart same) first.is;
    first = λ other from below in'. first.first other from below (was_there like other in');
  }
    where
      not_own : (own : Option ℕ) → IsLastBelow (IsInLevel there order) gone own → own ≢ Some place → at ≡ gone → ⊥
      not_own own own_is apart same =
          let alike : IsAlike like order = one_order there order like gone was (subst (IsInLevel there like) same first.is) in
          let below : place < gone = omega (arith, first.from_on, same) in
          let in_own : IsInLevel there order place = of_level there like order place alike here in
          not_last own own_is apart below in_own (λ next from within in_next. first.first next from (omega (arith, within, same)) (of_level there order like next (alike_sym like order alike) in_next))
        where
          not_last : (own : Option ℕ) → IsLastBelow (IsInLevel there order) gone own → own ≢ Some place → place < gone → IsInLevel there order place
              → ((next : ℕ) → place + 1 ≤ next → next < gone → IsInLevel there order next → ⊥) → ⊥
          not_last None none apart below in_own between = none place below in_own
          not_last (Some l) last apart below in_own between =
              elim (cases_lt l place) [
                | inl early ↦ last.last place early below in_own
                | inr late ↦ elim (cases_eq l place) [
                  | inl same ↦ apart (ap Some same)
                  | inr differ ↦ between l (omega (arith, late, differ)) last.below last.is
                ]
              ]

  -- behind the order before it, the one behind it comes to stand
  behind_passed : (like : Resting) (place : ℕ) (link : Option ℕ) → there place ≡ Some like → IsLast (IsInLevel there order) gone place
      → IsFirstFrom (IsInLevel there order) (gone + 1) link → IsFirstFrom (IsInLevel there' like) (place + 1) link
  behind_passed like place None here last none = λ other from in'.
      aside like other (one_order there like order place here last.is) in' (λ early in_own. last.last other (omega (arith, from)) early in_own) (none other)
  behind_passed like place (Some at) here last first =
      let alike : IsAlike order like = one_order there like order place here last.is in
      let below : place < gone = last.below in
      let from_on : gone + 1 ≤ at = first.from_on in
      record {
        from_on = omega arith;
        is = still_there like at (λ same. omega arith) (of_level there order like at alike first.is);
        first = λ other from within in'. aside like other alike in' (λ early in_own. last.last other (omega (arith, from)) early in_own) (λ late in_own. first.first other late within in_own);
      }

  -- before an order that was not behind the one that goes, nothing changes
  before_stays : (like : Resting) (place : ℕ) (link own : Option ℕ) → IsInLevel there like place → IsFirstFrom (IsInLevel there order) (gone + 1) own → own ≢ Some place
      → IsLastBelow (IsInLevel there like) place link → IsLastBelow (IsInLevel there' like) place link
  before_stays like place None own here own_is apart none = λ other below in'. none other below (was_there like other in')
  before_stays like place (Some at) own here own_is apart last = record {
    below = last.below;
    is = still_there like at (λ same. not_own own own_is apart same) last.is;
    last = λ other above below in'. last.last other above below (was_there like other in');
  }
    where
      not_own : (own : Option ℕ) → IsFirstFrom (IsInLevel there order) (gone + 1) own → own ≢ Some place → at ≡ gone → ⊥
      not_own own own_is apart same =
          let alike : IsAlike like order = one_order there order like gone was (subst (IsInLevel there like) same last.is) in
          let below : gone < place = omega (arith, last.below, same) in
          let in_own : IsInLevel there order place = of_level there like order place alike here in
          not_first own own_is apart below in_own (λ next above within in_next. last.last next (omega (arith, above, same)) within (of_level there order like next (alike_sym like order alike) in_next))
        where
          not_first : (own : Option ℕ) → IsFirstFrom (IsInLevel there order) (gone + 1) own → own ≢ Some place → gone < place → IsInLevel there order place
              → ((next : ℕ) → gone < next → next < place → IsInLevel there order next → ⊥) → ⊥
          not_first None none apart below in_own between = none place (omega (arith, below)) in_own
          not_first (Some f) first apart below in_own between =
              elim (cases_lt place f) [
                | inl early ↦ first.first place (omega (arith, below)) early in_own
                | inr late ↦ elim (cases_eq f place) [
                  | inl same ↦ apart (ap Some same)
                  | inr differ ↦ between f (omega (arith, first.from_on)) (omega (arith, late, differ)) first.is
                ]
              ]

  -- before the order behind it, the one before it comes to stand
  before_passed : (like : Resting) (place : ℕ) (link : Option ℕ) → there place ≡ Some like → IsFirst (IsInLevel there order) (gone + 1) place
      → IsLastBelow (IsInLevel there order) gone link → IsLastBelow (IsInLevel there' like) place link
  before_passed like place None here first none = λ other below in'.
      aside like other (one_order there like order place here first.is) in' (none other) (λ late in_own. first.first other late below in_own)
  before_passed like place (Some at) here first last =
      let alike : IsAlike order like = one_order there like order place here first.is in
      let below : at < gone = last.below in
      let from_on : gone + 1 ≤ place = first.from_on in
      record {
        below = omega arith;
        is = still_there like at (λ same. omega arith) (of_level there order like at alike last.is);
        last = λ other above within in'. aside like other alike in' (λ early in_own. last.last other above early in_own) (λ late in_own. first.first other late within in_own);
      }

  pub chained-removed : AreChained there before behind
      → ((place : ℕ) → place ≢ gone → before gone ≡ Some place → behind' place ≡ behind gone) → ((place : ℕ) → place ≢ gone → before gone ≢ Some place → behind' place ≡ behind place)
      → ((place : ℕ) → place ≢ gone → behind gone ≡ Some place → before' place ≡ before gone) → ((place : ℕ) → place ≢ gone → behind gone ≢ Some place → before' place ≡ before place)
      → AreChained there' before' behind'
  chained-removed are behind_at behind_others before_at before_others = record {
    behind_is = λ place o is.
        let differ : place ≢ gone = λ same. let it : None ≡ Some o = sym (ap there' same ∙ new) ∙ is in cc in
        let here : there place ≡ Some o = sym (others place differ) ∙ is in
        elim (cases_link (before gone) place) [
          | inl at ↦ subst (IsFirstFrom (IsInLevel there' o) (place + 1)) (sym (behind_at place differ at))
              (behind_passed o place (behind gone) here (subst (IsLastBelow (IsInLevel there order) gone) at (are.before_is gone order was)) (are.behind_is gone order was))
          | inr apart ↦ subst (IsFirstFrom (IsInLevel there' o) (place + 1)) (sym (behind_others place differ apart))
              (behind_stays o place (behind place) (before gone) (record { order = o; is = here; alike = alike_self o }) (are.before_is gone order was) apart (are.behind_is place o here))
        ];
    before_is = λ place o is.
        let differ : place ≢ gone = λ same. let it : None ≡ Some o = sym (ap there' same ∙ new) ∙ is in cc in
        let here : there place ≡ Some o = sym (others place differ) ∙ is in
        elim (cases_link (behind gone) place) [
          | inl at ↦ subst (IsLastBelow (IsInLevel there' o) place) (sym (before_at place differ at))
              (before_passed o place (before gone) here (subst (IsFirstFrom (IsInLevel there order) (gone + 1)) at (are.behind_is gone order was)) (are.before_is gone order was))
          | inr apart ↦ subst (IsLastBelow (IsInLevel there' o) place) (sym (before_others place differ apart))
              (before_stays o place (before place) (behind gone) (record { order = o; is = here; alike = alike_self o }) (are.behind_is gone order was) apart (are.before_is place o here))
        ];
  }

  pub rising-removed : AreRising there → AreRising there'
  rising-removed are place other o l is_o is_l below =
      let here : (at : ℕ) (r : Resting) → there' at ≡ Some r → there at ≡ Some r = λ at r is. sym (others at (λ same. let it : None ≡ Some r = sym (ap there' same ∙ new) ∙ is in cc)) ∙ is in
      are place other o l (here place o is_o) (here other l is_l) below

-- An order is lowered: it stays in its level.
module _ (there there' : ℕ → Option Resting) (before before' behind behind' : ℕ → Option ℕ) (at : ℕ) (order lower : Resting)
    (was : there at ≡ Some order) (new : there' at ≡ Some lower) (alike : IsAlike order lower) (others : (place : ℕ) → place ≢ at → there' place ≡ there place) where
  level_now : (like : Resting) (place : ℕ) → IsInLevel there like place → IsInLevel there' like place
  level_now like place in' =
      elim (cases_eq place at) [
        | inl same ↦ record { order = lower; is = ap there' same ∙ new; alike = alike_trans like order lower (one_order there order like at was (subst (IsInLevel there like) same in')) alike }
        | inr differ ↦ same_level there there' like place (others place differ) in'
      ]

  level_was : (like : Resting) (place : ℕ) → IsInLevel there' like place → IsInLevel there like place
  level_was like place in' =
      elim (cases_eq place at) [
        | inl same ↦ record {
          order = order;
          is = ap there same ∙ was;
          alike = alike_trans like lower order (one_order there' lower like at new (subst (IsInLevel there' like) same in')) (alike_sym order lower alike);
        }
        | inr differ ↦ same_level there' there like place (sym (others place differ)) in'
      ]

  -- an order of the list was there before, at its place and of its level
  same_place : (place : ℕ) (o : Resting) → there' place ≡ Some o → (old : Resting) × (there place ≡ Some old) × IsAlike old o
  same_place place o is =
      elim (cases_eq place at) [
        | inl same ↦ (order, ap there same ∙ was, subst (IsAlike order) (some_is lower o (sym new ∙ ap there' (sym same) ∙ is)) alike)
        | inr differ ↦ (o, sym (others place differ) ∙ is, alike_self o)
      ]

  first_kept : (like other : Resting) (from : ℕ) (link : Option ℕ) → IsAlike like other → IsFirstFrom (IsInLevel there like) from link → IsFirstFrom (IsInLevel there' other) from link
  first_kept like other from None is none = λ next on in'. none next on (level_was like next (of_level there' other like next (alike_sym like other is) in'))
  first_kept like other from (Some place) is first = record {
    from_on = first.from_on;
    is = level_now other place (of_level there like other place is first.is);
    first = λ next on below in'. first.first next on below (level_was like next (of_level there' other like next (alike_sym like other is) in'));
  }

  last_kept : (like other : Resting) (end : ℕ) (link : Option ℕ) → IsAlike like other → IsLastBelow (IsInLevel there like) end link → IsLastBelow (IsInLevel there' other) end link
  last_kept like other end None is none = λ next below in'. none next below (level_was like next (of_level there' other like next (alike_sym like other is) in'))
  last_kept like other end (Some place) is last = record {
    below = last.below;
    is = level_now other place (of_level there like other place is last.is);
    last = λ next above below in'. last.last next above below (level_was like next (of_level there' other like next (alike_sym like other is) in'));
  }

  pub chained-lowered : AreChained there before behind → ((place : ℕ) → before' place ≡ before place) → ((place : ℕ) → behind' place ≡ behind place) → AreChained there' before' behind'
  chained-lowered are before_same behind_same = record {
    behind_is = λ place o is.
        let old = same_place place o is in
        subst (IsFirstFrom (IsInLevel there' o) (place + 1)) (sym (behind_same place)) (first_kept old.0 o (place + 1) (behind place) old.2 (are.behind_is place old.0 old.1));
    before_is = λ place o is.
        let old = same_place place o is in
        subst (IsLastBelow (IsInLevel there' o) place) (sym (before_same place)) (last_kept old.0 o place (before place) old.2 (are.before_is place old.0 old.1));
  }

  pub rising-lowered : order.arrival ≡ lower.arrival → AreRising there → AreRising there'
  rising-lowered same are place other o l is_o is_l below =
      let first : (p : ℕ) (r : Resting) → there' p ≡ Some r → (old : Resting) × (there p ≡ Some old) × (old.arrival ≡ r.arrival) = λ p r is. elim (cases_eq p at) [
        | inl here ↦ (order, ap there here ∙ was, same ∙ ap (λ (q : Resting). q.arrival) (some_is lower r (sym new ∙ ap there' (sym here) ∙ is)))
        | inr differ ↦ (r, sym (others p differ) ∙ is, refl)
      ] in
      let one = first place o is_o in
      let two = first other l is_l in
      let less : one.0.arrival < two.0.arrival = are place other one.0 two.0 one.1 two.1 below in
      omega (arith, less, one.2, two.2)
