-- The lists of a report, as they are read off the tables, are those of the state.
use Rattle.std.proofs.Common.{ℕ, zero, suc, ◌≡◌, ◌≢◌, ◌+◌, ◌*◌, ◌^◌, ◌≤◌, ◌<◌, Bool, true, nat_lt, ℤ, pos, ◌-ℤ◌, List, [], ◌∷◌, ◌++◌, map, length, get_or, inl, inr, refl, ap, sym, subst, ◌∙◌, arith}
use Rattle.std.proofs.lemmas.Bool.{cases_Bool, ltb-true, lt-ltb, le-ltb}
use Rattle.std.proofs.lemmas.List.{same_lists, length-map, get_or-map, map_push, append-nil, append_assoc}
use Rattle.std.proofs.lemmas.List.Elements.{filter-append}
use Rattle.std.specs.List.{filter, flat_map}
use Rattle.fx_rules.specs.declared.orders.Fill.{Fill}
use Rattle.fx_rules.specs.Lists.{Each}
use Rattle.fx_rules.specs.Session.{Header, bank_count, pair_count}
use Rattle.fx_rules.specs.State.{State}
use Rattle.fx_rules.specs.Lists.{below}
use Rattle.fx_rules.proofs.Below.{below_more, map-more, length_below, get_or_below}
use Rattle.fx_rules.proofs.ListLemmas.{filter_cons_true, filter_cons_false, Each-append}
use Rattle.credit_lines.specs.Credit.{Credit, limit_in, used_in, line_in}
use Rattle.credit_lines.specs.Market.{StandsFor}
use Rattle.credit_lines.proofs.MarketLemmas.{line_in-line}
use Rattle.day_report.specs.declared.rows.Volume.{Volume}
use Rattle.day_report.specs.declared.rows.Use.{Use}
use Rattle.day_report.specs.declared.rows.Net.{Net}
use Rattle.day_report.specs.declared.flows.Flows.{Flows}
use Rattle.day_report.specs.declared.table.Table.{Table}
use Rattle.day_report.specs.Report.{volume_of, volumes_of, use_of, uses_of, banks_behind, currencies, net_of, nets_of}
use Rattle.day_report.specs.inside.Trades.{AreTrades}
use Rattle.day_report.specs.Table.{sum_at, IsTable}
use Rattle.day_report.specs.inside.Table.{IsSmall}
use Rattle.day_report.specs.Sums.{AreVolumes, code_at, got_by, given_by, AreFlows}
use Rattle.day_report.specs.inside.Lists.{use_in, uses_in, net_in, nets_at, nets_in, HaveNets}
use Rattle.day_report.proofs.Bounds.{received-fit, paid-fit}

-- a list whose items are known by their places
pub listed : {X : Type 0} (f : ℕ → X) (xs : List X) (n : ℕ) → length xs ≡ n → ((k : ℕ) (d : X) → k < n → get_or xs k d ≡ f k) → xs ≡ map f (below n)
listed f xs n count each =
    same_lists xs (map f (below n)) (count ∙ sym (length-map (below n) f ∙ length_below n))
    (λ k d within. let p : k < n = omega arith in each k d p ∙ sym (get_or_below f n k d p))

pub each-below : (P : ℕ → Type 0) (n : ℕ) → ((k : ℕ) → k < n → P k) → Each P (below n)
each-below P zero all = tt
each-below P (suc n) all = Each-append P (below n) (n ∷ []) (each-below P n (λ k within. all k (omega arith))) (all n (omega arith), tt)

pub each-kept : (P : ℕ → Type 0) (test : ℕ → Bool) (xs : List ℕ) → Each P xs → Each (λ x. P x × (test x ≡ true)) (filter test xs)
each-kept P test [] all = tt
each-kept P test (x ∷ xs) all =
    elim (cases_Bool (test x)) [
      | inl is ↦ subst (Each (λ y. P y × (test y ≡ true))) (sym (filter_cons_true test x xs is)) ((all.0, is), each-kept P test xs all.1)
      | inr is ↦ subst (Each (λ y. P y × (test y ≡ true))) (sym (filter_cons_false test x xs is)) (each-kept P test xs all.1)
    ]

pub map-agree : {X : Type 0} (P : ℕ → Type 0) (f g : ℕ → X) (xs : List ℕ) → ((x : ℕ) → P x → f x ≡ g x) → Each P xs → map f xs ≡ map g xs
map-agree P f g [] agree all = refl
map-agree P f g (x ∷ xs) agree all = ap (λ y. y ∷ map f xs) (agree x all.0) ∙ ap (λ ys. g x ∷ ys) (map-agree P f g xs agree all.1)

pub flat_map-agree : {X : Type 0} (P : ℕ → Type 0) (f g : ℕ → List X) (xs : List ℕ) → ((x : ℕ) → P x → f x ≡ g x) → Each P xs → flat_map f xs ≡ flat_map g xs
flat_map-agree P f g [] agree all = refl
flat_map-agree P f g (x ∷ xs) agree all = ap (λ ys. ys ++ flat_map f xs) (agree x all.0) ∙ ap (λ ys. g x ++ ys) (flat_map-agree P f g xs agree all.1)

-- Volumes.

pub volumes-listed : (h : Header) (S : State) (volumes : List Volume) → AreVolumes h S.fills volumes → volumes ≡ volumes_of h S
volumes-listed h S volumes are = listed (volume_of h S) volumes (pair_count h) are.count (λ pair d within. are.each pair d within)

-- Uses.

-- behind a bank there is none of those up to it
pub behind-none : (i n : ℕ) → n ≤ i + 1 → filter (nat_lt i) (below n) ≡ []
behind-none i zero within = refl
behind-none i (suc n) within =
    filter-append (nat_lt i) (below n) (n ∷ [])
    ∙ ap (λ ns. filter (nat_lt i) (below n) ++ ns) (filter_cons_false (nat_lt i) n [] (le-ltb i n (omega arith)))
    ∙ append-nil (filter (nat_lt i) (below n)) ∙ behind-none i n (omega arith)

pub uses-none : (credit : Credit) (i : ℕ) → map (use_in credit i) (filter (nat_lt i) (below (i + 1))) ≡ []
uses-none credit i = ap (map (use_in credit i)) (behind-none i (i + 1) (omega arith))

pub behind-more : (i n : ℕ) → i < n → filter (nat_lt i) (below (n + 1)) ≡ filter (nat_lt i) (below n) ++ n ∷ []
behind-more i n within =
    ap (filter (nat_lt i)) (below_more n) ∙ filter-append (nat_lt i) (below n) (n ∷ [])
    ∙ ap (λ ns. filter (nat_lt i) (below n) ++ ns) (filter_cons_true (nat_lt i) n [] (lt-ltb i n within))

pub uses-more : (credit : Credit) (i n : ℕ) → i < n → map (use_in credit i) (filter (nat_lt i) (below (n + 1))) ≡ map (use_in credit i) (filter (nat_lt i) (below n)) ++ use_in credit i n ∷ []
uses-more credit i n within =
    ap (map (use_in credit i)) (behind-more i n within) ∙ map_push (use_in credit i) (filter (nat_lt i) (below n)) n

pub use-made : (credit : Credit) (i j a b ab ba used eff : ℕ) → a ≡ i → b ≡ j → ab ≡ limit_in credit i j → ba ≡ limit_in credit j i → used ≡ used_in credit i j → eff ≡ line_in credit i j
    → (let value : Use = record { a = a; b = b; limit_ab = ab; limit_ba = ba; used = used; eff = eff } in value) ≡ use_in credit i j
use-made credit i j a b ab ba u e p q r s t v =
    let Of : ℕ → ℕ → ℕ → ℕ → ℕ → ℕ → Use = λ a b ab ba u e. record { a = a; b = b; limit_ab = ab; limit_ba = ba; used = u; eff = e } in
    ap (λ x. Of x b ab ba u e) p ∙ ap (λ x. Of i x ab ba u e) q ∙ ap (λ x. Of i j x ba u e) r ∙ ap (λ x. Of i j (limit_in credit i j) x u e) s
    ∙ ap (λ x. Of i j (limit_in credit i j) (limit_in credit j i) x e) t ∙ ap (Of i j (limit_in credit i j) (limit_in credit j i) (used_in credit i j)) v

use-stands : (h : Header) (S : State) (credit : Credit) (i j : ℕ) → StandsFor h S credit → i < bank_count h → j < bank_count h → i ≢ j → use_in credit i j ≡ use_of h S i j
use-stands h S credit i j stands p q differ =
    let Of : ℕ → ℕ → ℕ → ℕ → Use = λ ab ba u e. record { a = i; b = j; limit_ab = ab; limit_ba = ba; used = u; eff = e } in
    ap (λ x. Of x (limit_in credit j i) (used_in credit i j) (line_in credit i j)) (stands.limits i j p q differ)
    ∙ ap (λ x. Of (S.limits i j) x (used_in credit i j) (line_in credit i j)) (stands.limits j i q p (λ same. differ (sym same)))
    ∙ ap (λ x. Of (S.limits i j) (S.limits j i) x (line_in credit i j)) (stands.uses i j p q differ)
    ∙ ap (Of (S.limits i j) (S.limits j i) _) (line_in-line h S credit i j stands p q differ)

pub uses-listed : (h : Header) (S : State) (credit : Credit) → StandsFor h S credit → uses_in credit ≡ uses_of h S
uses-listed h S credit stands =
    let all : ℕ → List Use = λ banks. flat_map (λ i. map (use_in credit i) (filter (nat_lt i) (below banks))) (below banks) in
    ap all stands.banks
    ∙ flat_map-agree (λ i. i < bank_count h) (λ i. map (use_in credit i) (banks_behind h i)) (λ i. map (use_of h S i) (banks_behind h i)) (below (bank_count h))
    (λ i p. map-agree (λ j. (j < bank_count h) × (nat_lt i j ≡ true)) (use_in credit i) (use_of h S i) (banks_behind h i)
    (λ j both. use-stands h S credit i j stands p both.0 (λ same. absurd (omega (arith, ltb-true i j both.1))))
    (each-kept (λ j. j < bank_count h) (nat_lt i) (below (bank_count h)) (each-below (λ j. j < bank_count h) (bank_count h) (λ k within. within))))
    (each-below (λ i. i < bank_count h) (bank_count h) (λ k within. within))

-- Nets.

pub net-made : (flows : Flows) (bank column : ℕ) (its_bank : ℕ) (code : List ℕ) (amount : ℤ) → its_bank ≡ bank → code ≡ code_at flows.currencies.codes.items column → amount ≡ pos (sum_at flows.received bank column) -ℤ pos (sum_at flows.paid bank column)
    → (let net : Net = record { bank = its_bank; currency = code; amount = amount } in net) ≡ net_in flows bank column
net-made flows bank column its_bank code amount p q r =
    let Of : ℕ → List ℕ → ℤ → Net = λ b c a. record { bank = b; currency = c; amount = a } in
    ap (λ b. Of b code amount) p ∙ ap (λ c. Of bank c amount) q ∙ ap (Of bank (code_at flows.currencies.codes.items column)) r

net-stands : (h : Header) (S : State) (flows : Flows) (bank column : ℕ) → AreFlows h S.fills flows → bank < bank_count h → column < length (currencies h) → net_in flows bank column ≡ net_of h S bank (code_at (currencies h) column)
net-stands h S flows bank column are p q =
    let Of : List ℕ → ℕ → ℕ → Net = λ c got gave. record { bank = bank; currency = c; amount = pos got -ℤ pos gave } in
    ap (λ codes. Of (code_at codes column) (sum_at flows.received bank column) (sum_at flows.paid bank column)) are.currencies_are.codes_are
    ∙ ap (λ got. Of (code_at (currencies h) column) got (sum_at flows.paid bank column)) (are.got.each bank column p q)
    ∙ ap (Of (code_at (currencies h) column) (got_by h S.fills bank column)) (are.gave.each bank column p q)

pub by_columns : {X : Type 0} (f : List ℕ → X) (codes : List (List ℕ)) → map f codes ≡ map (λ column. f (code_at codes column)) (below (length codes))
by_columns f codes =
    listed (λ column. f (code_at codes column)) (map f codes) (length codes) (length-map codes f)
    (λ k d within. get_or-map f codes k [] d within)

bank-nets : (h : Header) (S : State) (flows : Flows) (bank : ℕ) → AreFlows h S.fills flows → bank < bank_count h → nets_at flows bank ≡ map (net_of h S bank) (currencies h)
bank-nets h S flows bank are p =
    ap (λ (codes : List (List ℕ)). map (net_in flows bank) (below (length codes))) are.currencies_are.codes_are
    ∙ map-agree (λ column. column < length (currencies h)) (net_in flows bank) (λ column. net_of h S bank (code_at (currencies h) column)) (below (length (currencies h)))
    (λ column q. net-stands h S flows bank column are p q) (each-below (λ column. column < length (currencies h)) (length (currencies h)) (λ k within. within))
    ∙ sym (by_columns (net_of h S bank) (currencies h))

pub nets-listed : (h : Header) (S : State) (flows : Flows) → AreFlows h S.fills flows → nets_in flows (bank_count h) ≡ nets_of h S
nets-listed h S flows are =
    flat_map-agree (λ bank. bank < bank_count h) (nets_at flows) (λ bank. map (net_of h S bank) (currencies h)) (below (bank_count h))
    (λ bank p. bank-nets h S flows bank are p) (each-below (λ bank. bank < bank_count h) (bank_count h) (λ k within. within))

small-sum : (n : ℕ) → n ≤ 4096000000000000000 * 2000000000000000000 → n < 2 ^ 127
small-sum n most = omega arith

small : (rows columns : ℕ) (sums : ℕ → ℕ → ℕ) (table : Table) → IsTable rows columns sums table → ((i j : ℕ) → sums i j ≤ 4096000000000000000 * 2000000000000000000) → IsSmall rows columns table
small rows columns sums table is most = record {
  shape = is.shape;
  most = λ i j p q. small-sum (sum_at table i j) (omega (arith, is.each i j p q, most i j));
}

pub flows-small : (h : Header) (fills : List Fill) (flows : Flows) → AreTrades h fills → AreFlows h fills flows → HaveNets (bank_count h) flows
flows-small h fills flows trades are =
    let Nets : ℕ → Type 0 = λ columns. IsSmall (bank_count h) columns flows.received × IsSmall (bank_count h) columns flows.paid in
    let both : Nets (length (currencies h)) = (
      small (bank_count h) (length (currencies h)) (got_by h fills) flows.received are.got (λ i j. received-fit h i (code_at (currencies h) j) fills trades),
      small (bank_count h) (length (currencies h)) (given_by h fills) flows.paid are.gave (λ i j. paid-fit h i (code_at (currencies h) j) fills trades),
    ) in
    let here : Nets (length flows.currencies.codes.items) = subst Nets (sym (ap length are.currencies_are.codes_are)) both in
    record { got = here.0; gave = here.1 }

-- The steps of the loops.

pub map-step : {X : Type 0} (f : ℕ → X) (n : ℕ) (old before after : List X) (x : X) → before ≡ old ++ map f (below n) → after ≡ before ++ x ∷ [] → x ≡ f n → after ≡ old ++ map f (below (n + 1))
map-step f n old before after x so_far pushed is =
    pushed ∙ ap (λ xs. xs ++ x ∷ []) so_far ∙ append_assoc old (map f (below n)) (x ∷ [])
    ∙ ap (λ y. old ++ (map f (below n) ++ y ∷ [])) is ∙ ap (λ xs. old ++ xs) (sym (map-more f n))

pub uses-step : (credit : Credit) (i n : ℕ) (old before after : List Use) (x : Use) → i < n → before ≡ old ++ map (use_in credit i) (filter (nat_lt i) (below n)) → after ≡ before ++ x ∷ [] → x ≡ use_in credit i n
    → after ≡ old ++ map (use_in credit i) (filter (nat_lt i) (below (n + 1)))
uses-step credit i n old before after x within so_far pushed is =
    pushed ∙ ap (λ xs. xs ++ x ∷ []) so_far ∙ append_assoc old (map (use_in credit i) (filter (nat_lt i) (below n))) (x ∷ [])
    ∙ ap (λ y. old ++ (map (use_in credit i) (filter (nat_lt i) (below n)) ++ y ∷ [])) is ∙ ap (λ xs. old ++ xs) (sym (uses-more credit i n within))
