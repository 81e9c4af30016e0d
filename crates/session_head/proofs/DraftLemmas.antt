-- Each statement that can be made of a draft leaves a draft, and START makes a session of it.
use Rattle.std.proofs.Common.{◌≡◌, ◌≢◌, ℕ, ◌+◌, ◌*◌, ◌/◌, ◌%◌, ◌<◌, ◌≤◌, List, [], ◌∷◌, ◌++◌, map, length, replicate, slice_index, slice_set, take, cond, eqb, length-take-le, refl, sym, ap, ◌∙◌, subst, arith, IsTrue, inl, inr, Option, Some, None, SomeIff, IsSome}
use Rattle.std.specs.List.{All, AllPairs}
use Rattle.std.proofs.lemmas.Bool.{cases_lt, cases_Bool, cond-false, ne_eqb}
use Rattle.std.proofs.lemmas.List.{get_or-replicate, length-replicate, length-set, get_or-set_other, length_push, get_or_past}
use Rattle.std.proofs.lemmas.List.Elements.{All-push, All-set, All-nil, All-replicate, All-take, All-get_or}
use Rattle.std.proofs.lemmas.List.Quantifiers.{all_pairs_push}
use Rattle.std.proofs.lemmas.Nat.{mul-add-lt, mod-mul-add, div-mul-add}
use Rattle.fx_rules.specs.Lists.{below}
use Rattle.fx_rules.specs.Names.{is_name}
use Rattle.fx_rules.specs.Session.{Header, IsSession, IsPairRule, AreSamePair, newest}
use Rattle.fx_rules.specs.declared.session.PairRule.{PairRule}
use Rattle.std.specs.Prelude.{IfSome}
use Rattle.fx_rules.proofs.Below.{map-more, length-map_below, get_or_below, all-below}
use Rattle.session_head.specs.Draft.{Draft, limit_place, no_limits, no_totals, square, totals_kept, header_of}
use Rattle.session_head.specs.inside.Draft.{IsDraft, IsVersion, AreLimits, AreTotals}
use Rattle.session_head.specs.inside.Statement.{CanState}
use Rattle.session_head.specs.declared.statement.Statement.{Statement}
use Rattle.session_head.specs.declared.statement.Statement.TheVariants as statements

no_pairs : {X : Type 0} (R : X → X → Type 0) → AllPairs R []
no_pairs R i j d less within = absurd (omega arith)

-- a total in its range, where there is one
abbrev IsMost : Option ℕ → Type 0
IsMost most = IfSome most (λ units. units ≤ 1000000000000000)

-- nothing is declared
declares_nothing : (version : ℕ) (banks : List (List ℕ)) (pairs : List PairRule) (limits : List ℕ) (totals : List (Option ℕ)) → IsVersion version → banks ≡ [] → pairs ≡ [] → AreLimits limits → AreTotals totals
    → IsDraft (record { version = version; banks = banks; pairs = pairs; limits = limits; totals = totals })
declares_nothing version banks pairs limits totals versioned no_banks none limited totalled = record {
  version = versioned;
  banks = rw no_banks (record { most = omega arith; names = All-nil (λ name. IsTrue (is_name name)); differ = no_pairs (λ a b. a ≢ b) });
  pairs = rw none (record { most = omega arith; rules = All-nil IsPairRule; differ = no_pairs (λ a b. ¬ (AreSamePair a b)) });
  limits = limited;
  totals = totalled;
}

zeros_own : (n : ℕ) → 4096 ≤ n → (i : ℕ) → i < 64 → slice_index (replicate n 0) (limit_place i i) ≡ 0
zeros_own n room i within = get_or-replicate n (64 * i + i) 0 0 (omega arith)

pub IsDraft-empty : (version : ℕ) (banks : List (List ℕ)) (pairs : List PairRule) (limits : List ℕ) (totals : List (Option ℕ)) → 1 ≤ version → version ≤ newest → banks ≡ [] → pairs ≡ [] → limits ≡ no_limits → totals ≡ no_totals
    → IsDraft (record { version = version; banks = banks; pairs = pairs; limits = limits; totals = totals })
unfolding no_limits no_totals
IsDraft-empty version banks pairs limits totals least most no_banks none zeros nones =
    declares_nothing version banks pairs limits totals (record { least = least; most = most }) no_banks none
    (record {
      full = ap (λ (xs : List ℕ). length xs) zeros ∙ length-replicate {A = ℕ} 4096 0;
      most = subst (λ (xs : List ℕ). All (λ limit. limit ≤ 1000000000000000) xs) (sym zeros) (All-replicate (λ limit. limit ≤ 1000000000000000) 4096 0 (omega arith));
      own = λ i within. ap (λ (xs : List ℕ). slice_index xs (limit_place i i)) zeros ∙ zeros_own 4096 (omega arith) i within;
    })
    (record {
      full = ap (λ (xs : List (Option ℕ)). length xs) nones ∙ length-replicate {A = Option ℕ} 64 None;
      most = subst (λ (xs : List (Option ℕ)). All IsMost xs) (sym nones) (All-replicate IsMost 64 None tt);
    })

-- a bank more
pub IsDraft-bank : (d : Draft) (name : List ℕ) → IsDraft d → CanState d (statements.Bank name) → IsDraft (record d { banks = d.banks ++ name ∷ [] })
IsDraft-bank d name valid can = record {
  version = valid.version;
  banks = record {
    most = omega (arith, can.0, length_push d.banks name);
    names = All-push (λ text. IsTrue (is_name text)) d.banks name valid.banks.names can.1;
    differ = all_pairs_push (λ a b. a ≢ b) d.banks name valid.banks.differ (λ k other within. All-get_or (λ standing. standing ≢ name) d.banks k other within can.2);
  };
  pairs = valid.pairs;
  limits = valid.limits;
  totals = valid.totals;
}

-- the same of a draft that is another's fields, by a statement that is this one
pub bank_added : (before d : Draft) (statement : Statement) (name : List ℕ) (banks : List (List ℕ)) → IsDraft before → before ≡ d → statement ≡ statements.Bank name
    → CanState d statement → banks ≡ before.banks ++ name ∷ [] → IsDraft (record before { banks = banks })
bank_added before d statement name banks valid same is can added =
    let here : CanState d (statements.Bank name) = subst (λ (s : Statement). CanState d s) is can in
    let there : CanState before (statements.Bank name) = subst (λ (x : Draft). CanState x (statements.Bank name)) (sym same) here in
    rw added (IsDraft-bank before name valid there)

-- a pair more
pub IsDraft-pair : (d : Draft) (rule : PairRule) → IsDraft d → CanState d (statements.Pair rule) → IsDraft (record d { pairs = d.pairs ++ rule ∷ [] })
IsDraft-pair d rule valid can = record {
  version = valid.version;
  banks = valid.banks;
  pairs = record {
    most = omega (arith, can.0, length_push d.pairs rule);
    rules = All-push IsPairRule d.pairs rule valid.pairs.rules can.1;
    differ = all_pairs_push (λ a b. ¬ (AreSamePair a b)) d.pairs rule valid.pairs.differ (λ k other within. All-get_or (λ standing. ¬ (AreSamePair standing rule)) d.pairs k other within can.2);
  };
  limits = valid.limits;
  totals = valid.totals;
}

pub pair_added : (before d : Draft) (statement : Statement) (rule : PairRule) (pairs : List PairRule) → IsDraft before → before ≡ d → statement ≡ statements.Pair rule
    → CanState d statement → pairs ≡ before.pairs ++ rule ∷ [] → IsDraft (record before { pairs = pairs })
pair_added before d statement rule pairs valid same is can added =
    let here : CanState d (statements.Pair rule) = subst (λ (s : Statement). CanState d s) is can in
    let there : CanState before (statements.Pair rule) = subst (λ (x : Draft). CanState x (statements.Pair rule)) (sym same) here in
    rw added (IsDraft-pair before rule valid there)

-- a limit set
pub IsDraft-limit : (d : Draft) (from to limit : ℕ) → IsDraft d → from < 64 → to < 64 → from ≢ to → limit ≤ 1000000000000000 → IsDraft (record d { limits = slice_set d.limits (limit_place from to) limit })
IsDraft-limit d from to limit valid from_within to_within apart most = record {
  version = valid.version;
  banks = valid.banks;
  pairs = valid.pairs;
  limits = record {
    full = length-set d.limits (limit_place from to) limit ∙ valid.limits.full;
    most = All-set (λ l. l ≤ 1000000000000000) d.limits (limit_place from to) limit most valid.limits.most;
    own = λ i within. get_or-set_other d.limits (limit_place from to) (limit_place i i) limit 0 (λ same. apart (omega arith)) ∙ valid.limits.own i within;
  };
  totals = valid.totals;
}

-- a total set
pub IsDraft-total : (d : Draft) (bank limit : ℕ) → IsDraft d → limit ≤ 1000000000000000 → IsDraft (record d { totals = slice_set d.totals bank (Some limit) })
IsDraft-total d bank limit valid most = record {
  version = valid.version;
  banks = valid.banks;
  pairs = valid.pairs;
  limits = valid.limits;
  totals = record {
    full = length-set d.totals bank (Some limit) ∙ valid.totals.full;
    most = All-set IsMost d.totals bank (Some limit) most valid.totals.most;
  };
}

-- one place more
pub map_more : {X : Type 0} (f : ℕ → X) (n : ℕ) → map f (below (n + 1)) ≡ map f (below n) ++ f n ∷ []
map_more f n = map-more f n

-- the limit of two banks in the rows of a square
pub square-at : (banks : ℕ) (limits : List ℕ) (i j : ℕ) → i < banks → j < banks → slice_index (square banks limits) (i * banks + j) ≡ slice_index limits (limit_place i j)
square-at banks limits i j i_within j_within =
    get_or_below (λ at. slice_index limits (limit_place (at / banks) (at % banks))) (banks * banks) (i * banks + j) 0 (mul-add-lt i banks j banks i_within j_within)
    ∙ ap (λ row. slice_index limits (limit_place row ((i * banks + j) % banks))) (div-mul-add i banks j j_within)
    ∙ ap (λ column. slice_index limits (limit_place i column)) (mod-mul-add i banks j j_within)

any_at_most : (limits : List ℕ) → All (λ limit. limit ≤ 1000000000000000) limits → (at : ℕ) → slice_index limits at ≤ 1000000000000000
any_at_most limits most at = elim (cases_lt at (length limits)) [
  | inl within ↦ All-get_or (λ limit. limit ≤ 1000000000000000) limits at 0 within most
  | inr past ↦ subst (λ limit. limit ≤ 1000000000000000) (sym (get_or_past limits at 0 past)) (omega arith)
]

-- the totals that are kept are one for each bank in version 2
kept_full : (version banks : ℕ) (totals : List (Option ℕ)) → banks ≤ length totals → length (totals_kept version banks totals) ≡ cond (eqb version 2) banks 0
kept_full version banks totals within = elim (cases_Bool (eqb version 2)) [
  | inl second ↦ rw second (length-take-le banks totals within)
  | inr other ↦ rw other refl
]

kept_most : (version banks : ℕ) (totals : List (Option ℕ)) → All IsMost totals → All IsMost (totals_kept version banks totals)
kept_most version banks totals most = elim (cases_Bool (eqb version 2)) [
  | inl second ↦ rw second (All-take IsMost banks totals most)
  | inr other ↦ rw other (All-nil IsMost)
]

-- a draft with two banks and a pair is a session
pub IsSession-header_of : (d : Draft) → IsDraft d → 2 ≤ length d.banks → 1 ≤ length d.pairs → IsSession (header_of d)
IsSession-header_of d valid two one = record {
  banks_least = two;
  banks_most = valid.banks.most;
  names = valid.banks.names;
  names_differ = valid.banks.differ;
  pairs_least = one;
  pairs_most = valid.pairs.most;
  rules = valid.pairs.rules;
  pairs_differ = valid.pairs.differ;
  limits_full = length-map_below (λ at. slice_index d.limits (limit_place (at / length d.banks) (at % length d.banks))) (length d.banks * length d.banks);
  limits_most = all-below (λ limit. limit ≤ 1000000000000000) (λ at. slice_index d.limits (limit_place (at / length d.banks) (at % length d.banks))) (length d.banks * length d.banks) (λ at within. any_at_most d.limits valid.limits.most _);
  own_limits = λ i within. square-at (length d.banks) d.limits i i within within ∙ valid.limits.own i (omega (arith, valid.banks.most));
  version_least = valid.version.least;
  version_most = valid.version.most;
  totals_full = kept_full d.version (length d.banks) d.totals (omega (arith, valid.banks.most, valid.totals.full));
  totals_most = kept_most d.version (length d.banks) d.totals valid.totals.most;
}

-- the session that is built of a draft's parts
pub session_built : (d inside : Draft) (version : ℕ) (banks : List (List ℕ)) (pairs : List PairRule) (limits : List ℕ) (totals : List (Option ℕ)) → IsDraft inside → inside ≡ d → 2 ≤ length d.banks → 1 ≤ length d.pairs
    → version ≡ inside.version → banks ≡ inside.banks → pairs ≡ inside.pairs → limits ≡ square (length inside.banks) inside.limits → totals ≡ totals_kept inside.version (length inside.banks) inside.totals
    → IsSession (record { version = version; banks = banks; pairs = pairs; limits = limits; totals = totals })
session_built d inside version banks pairs limits totals valid same two one version_is banks_are pairs_are limits_are totals_are =
    rw (version_is, banks_are, pairs_are, limits_are, totals_are)
    (IsSession-header_of inside valid (subst (λ (x : Draft). 2 ≤ length x.banks) (sym same) two) (subst (λ (x : Draft). 1 ≤ length x.pairs) (sym same) one))

-- of version 1, in which no total is kept
pub first_kept : (version banks : ℕ) (totals : List (Option ℕ)) → version ≢ 2 → totals_kept version banks totals ≡ []
first_kept version banks totals other = cond-false (eqb version 2) (take banks totals) [] (ne_eqb version 2 other)

pub is_built : (made : Option Header) (fact : Type 0) (header : Header) → SomeIff made fact header → fact → IsSome made
is_built None fact header none holds = absurd (none holds)
is_built (Some made) fact header some holds = refl
