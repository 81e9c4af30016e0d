-- Which keys have still to sign: what an entry touches, and what is left once a key has signed.
use Rattle.std.proofs.Common.{◌≡◌, ◌≢◌, ℕ, zero, suc, ◌≤◌, ◌<◌, ◌==◌, ◌||◌, not, if◌then◌else◌, Bool, true, false, List, [], ◌∷◌, ◌++◌, refl, ap, sym, subst, ◌∙◌, arith, append_assoc, append-nil, eq-eqb, ne_eqb, eqb-true, true≢false}
use mathlib.Core.Logic.{dite}
use native.Mathlib.Decide.{ℕ_discrete, dec_lt}
use Rattle.fx_rules.specs.Lists.{Each}
use Rattle.fx_chronicle.specs.Touching.{Untouched, touched, pends, without, but_last}

pub pends-append : (xs ys : List ℕ) (key : ℕ) → pends (xs ++ ys) key ≡ (pends xs key || pends ys key)
pends-append [] ys key = refl
pends-append (x ∷ xs) ys key = at (x == key) (pends-append xs ys key)
  where
    at : (b : Bool) → pends (xs ++ ys) key ≡ (pends xs key || pends ys key) → (b || pends (xs ++ ys) key) ≡ ((b || pends xs key) || pends ys key)
    at true e = refl
    at false e = e

-- a key that has signed has not to sign any more
pub pends-without_same : (key : ℕ) (keys : List ℕ) → pends (without key keys) key ≡ false
pends-without_same key [] = refl
pends-without_same key (k ∷ keys) = at (k == key) refl (pends-without_same key keys)
  where
    at : (b : Bool) → (k == key) ≡ b → pends (without key keys) key ≡ false → pends (if not b then k ∷ without key keys else without key keys) key ≡ false
    at true is rest = rest
    at false is rest = rw is rest

-- and the others are as before
pub pends-without : (key other : ℕ) (keys : List ℕ) → other ≢ key → pends (without key keys) other ≡ pends keys other
pends-without key other [] apart = refl
pends-without key other (k ∷ keys) apart = at (k == key) refl (pends-without key other keys apart)
  where
    at : (b : Bool) → (k == key) ≡ b → pends (without key keys) other ≡ pends keys other → pends (if not b then k ∷ without key keys else without key keys) other ≡ pends (k ∷ keys) other
    at true is kept =
        let same : k ≡ key = eqb-true k key is in
        let differ : (k == other) ≡ false = ne_eqb k other (λ e. apart (sym e ∙ same)) in
        kept ∙ sym (ap (λ b. b || pends keys other) differ)
    at false is kept = ap (λ b. (k == other) || b) kept

-- where no key pends, none is in the list
pub nothing_pends : (keys : List ℕ) → ((key : ℕ) → pends keys key ≡ false) → keys ≡ []
nothing_pends [] none = refl
nothing_pends (k ∷ keys) none =
    let here : pends (k ∷ keys) k ≡ true = ap (λ b. b || pends keys k) (eq-eqb k k refl) in
    absurd (true≢false (sym here ∙ none k))

module _ {E : Type 0} (touches : E → ℕ → Bool) where
  pends-last : (e : E) (bound key : ℕ) → bound ≢ key → pends (if touches e bound then bound ∷ [] else []) key ≡ false
  pends-last e bound key apart = at (touches e bound)
    where
      at : (b : Bool) → pends (if b then bound ∷ [] else []) key ≡ false
      at true = ap (λ c. c || false) (ne_eqb bound key apart)
      at false = refl

  pends-last_same : (e : E) (key : ℕ) → pends (if touches e key then key ∷ [] else []) key ≡ touches e key
  pends-last_same e key = at (touches e key)
    where
      at : (b : Bool) → pends (if b then key ∷ [] else []) key ≡ b
      at true = ap (λ c. c || false) (eq-eqb key key refl)
      at false = refl

  -- a key that was not dealt has not to sign
  pub pends-touched_above : (e : E) (bound key : ℕ) → bound ≤ key → pends (touched touches e bound) key ≡ false
  unfolding touched
  pends-touched_above e zero key le = refl
  pends-touched_above e (suc bound) key le =
      pends-append (touched touches e bound) _ key
      ∙ ap (λ b. b || pends (if touches e bound then bound ∷ [] else []) key) (pends-touched_above e bound key (omega arith))
      ∙ pends-last e bound key (λ same. omega arith)

  -- after a commit just the keys that the entry touches have to sign
  pub pends-touched : (e : E) (bound key : ℕ) → key < bound → pends (touched touches e bound) key ≡ touches e key
  unfolding touched
  pends-touched e zero key lt = absurd (omega arith)
  pends-touched e (suc bound) key lt =
      pends-append (touched touches e bound) _ key
      ∙ dite (ℕ_discrete bound key)
      (λ same. subst (λ k. (pends (touched touches e k) key || pends (if touches e k then k ∷ [] else []) key) ≡ touches e key) (sym same)
      (ap (λ b. b || pends (if touches e key then key ∷ [] else []) key) (pends-touched_above e key key (omega arith)) ∙ pends-last_same e key))
      (λ apart. ap (λ b. pends (touched touches e bound) key || b) (pends-last e bound key apart) ∙ or-false _ ∙ pends-touched e bound key (omega arith))
    where
      or-false : (b : Bool) → (b || false) ≡ b
      or-false true = refl
      or-false false = refl

  pub each_push : (key : ℕ) (es : List E) (e : E) → Each (λ d. touches d key ≡ false) es → touches e key ≡ false → Each (λ d. touches d key ≡ false) (es ++ e ∷ [])
  each_push key [] e all last = (last, tt)
  each_push key (d ∷ es) e all last = (all.0, each_push key es e all.1 last)

  pub untouched_all : (key : ℕ) (entries : List E) → Untouched touches key entries entries
  untouched_all key entries = ([], append-nil entries, tt)

  pub untouched_push : (key : ℕ) (met entries : List E) (e : E) → Untouched touches key met entries → touches e key ≡ false → Untouched touches key met (entries ++ e ∷ [])
  untouched_push key met entries e u last =
      (u.0 ++ e ∷ [], sym (append_assoc met u.0 (e ∷ [])) ∙ ap (λ w. w ++ e ∷ []) u.1, each_push key u.0 e u.2 last)

pub but_last-push : {E : Type 0} (es : List E) (e : E) → but_last (es ++ e ∷ []) ≡ es
but_last-push [] e = refl
but_last-push (d ∷ []) e = refl
but_last-push (d ∷ c ∷ es) e = ap (λ w. d ∷ w) (but_last-push (c ∷ es) e)

module _ {E : Type 0} (touches : E → ℕ → Bool) where
  -- where an entry touches no other key than these, nobody has still to sign once they have
  pub signed_by_one : (e : E) (bound a : ℕ) → ((key : ℕ) → key < bound → key ≢ a → touches e key ≡ false) → without a (touched touches e bound) ≡ []
  signed_by_one e bound a others = nothing_pends _ (λ key. at key (ℕ_discrete key a) (dec_lt key bound))
    where
      at : (key : ℕ) → Dec (key ≡ a) → Dec (key < bound) → pends (without a (touched touches e bound)) key ≡ false
      at key (yes same) d = subst (λ k. pends (without a (touched touches e bound)) k ≡ false) (sym same) (pends-without_same a (touched touches e bound))
      at key (no apart) (yes lt) = pends-without a key (touched touches e bound) apart ∙ pends-touched touches e bound key lt ∙ others key lt apart
      at key (no apart) (no above) = pends-without a key (touched touches e bound) apart ∙ pends-touched_above touches e bound key (omega arith)

  pub signed_by_two : (e : E) (bound a b : ℕ) → ((key : ℕ) → key < bound → key ≢ a → key ≢ b → touches e key ≡ false) → without b (without a (touched touches e bound)) ≡ []
  signed_by_two e bound a b others = nothing_pends _ (λ key. at key (ℕ_discrete key b) (ℕ_discrete key a) (dec_lt key bound))
    where
      at : (key : ℕ) → Dec (key ≡ b) → Dec (key ≡ a) → Dec (key < bound) → pends (without b (without a (touched touches e bound))) key ≡ false
      at key (yes same) e' d = subst (λ k. pends (without b (without a (touched touches e bound))) k ≡ false) (sym same) (pends-without_same b (without a (touched touches e bound)))
      at key (no apart) (yes same) d = pends-without b key (without a (touched touches e bound)) apart
          ∙ subst (λ k. pends (without a (touched touches e bound)) k ≡ false) (sym same) (pends-without_same a (touched touches e bound))
      at key (no apart) (no other) (yes lt) = pends-without b key (without a (touched touches e bound)) apart ∙ pends-without a key (touched touches e bound) other ∙ pends-touched touches e bound key lt ∙ others key lt other apart
      at key (no apart) (no other) (no above) = pends-without b key (without a (touched touches e bound)) apart ∙ pends-without a key (touched touches e bound) other ∙ pends-touched_above touches e bound key (omega arith)
