-- The digits of a number, as they are formatted.
use Rattle.std.proofs.Common.{◌≡◌, ℕ, suc, ◌^◌, ◌<◌, ◌≤◌, ◌∙◌, List, ap, length, arith, decimal}
use Rattle.fx_amounts.specs.Numeral.{numeral}
use Rattle.fx_text.proofs.FieldTexts.{length-numeral}
use Rattle.fx_text.proofs.NumberLemmas.{decimal_wide}

pub is-formatted : {bytes text : List ℕ} (value : ℕ) → bytes ≡ text → text ≡ decimal value → value < 2 ^ 128 → bytes ≡ numeral value
is-formatted value same is fits = same ∙ is ∙ decimal_wide value fits

pub length-formatted : {bytes text : List ℕ} (digits value : ℕ) → bytes ≡ text → text ≡ decimal value → value < 2 ^ 128 → value < 10 ^ suc digits → length bytes ≤ suc digits
length-formatted digits value same is fits small = omega (arith, ap (λ (text : List ℕ). length text) (is-formatted value same is fits), length-numeral digits value small)
