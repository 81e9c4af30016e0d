-- What answers say: all clauses of one that is Ok, taken together.
use Rattle.std.proofs.Common.{◌≡◌, Result, Ok, Err, refl, subst}
use Rattle.std.specs.Prelude.{OnOk, IfOk}

pub ok_when : {T E P : Type 0} (r : Result T E) → ((value : T) → r ≡ Ok value → P) → OnOk r P
ok_when (Ok value) holds = holds value refl
ok_when (Err e) holds = tt

pub if_ok_when : {T E : Type 0} {P : T → Type 0} (r : Result T E) → ((value : T) → r ≡ Ok value → P value) → IfOk r P
if_ok_when (Ok value) holds = holds value refl
if_ok_when (Err e) holds = tt

no_err : {T E : Type 0} (e : E) (value : T) → Err e ≡ Ok value → ⊥
no_err e value is = cc

pub of_ok : {T E P : Type 0} (r : Result T E) (value : T) → r ≡ Ok value → OnOk r P → P
of_ok (Ok one) value is told = told
of_ok (Err e) value is told = absurd (no_err e value is)

pub of_if_ok : {T E : Type 0} (P : T → Type 0) (r : Result T E) (value : T) → r ≡ Ok value → IfOk r P → P value
of_if_ok P r value is told = subst (λ (s : Result _ _). IfOk s P) is told
