-- What a key has to know of a history. `touches` says which entries touch which keys.
use Rattle.std.specs.Prelude.{ℕ, zero, suc, ◌≡◌, ◌==◌, ◌||◌, if◌then◌else◌, not, Bool, false, List, [], ◌∷◌, ◌++◌, filter}
use Rattle.fx_rules.specs.Lists.{Each}

module _ {E : Type 0} (touches : E → ℕ → Bool) where
  -- the entries begin with `met`, and none behind it touches the key
  abbrev pub Untouched : ℕ → List E → List E → Type 0
  Untouched key met entries = (rest : List E) × (met ++ rest ≡ entries) × Each (λ e. touches e key ≡ false) rest

  -- the keys below a bound that an entry touches, in rising order
  unfoldable pub touched : E → ℕ → List ℕ
  touched e zero = []
  touched e (suc bound) = touched e bound ++ (if touches e bound then bound ∷ [] else [])

-- the key is one of those that have still to sign
abbrev pub pends : List ℕ → ℕ → Bool
pends [] key = false
pends (k ∷ keys) key = (k == key) || pends keys key

-- those that have still to sign once the key has signed
abbrev pub without : ℕ → List ℕ → List ℕ
without key keys = filter (λ k. not (k == key)) keys

-- the entries before the last one
abbrev pub but_last : {E : Type 0} → List E → List E
but_last [] = []
but_last (e ∷ []) = []
but_last (e ∷ d ∷ es) = e ∷ but_last (d ∷ es)
