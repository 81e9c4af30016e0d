-- A field that is cut from the front of a text and read is the spelling of what was read.
use Rattle.std.proofs.Common.{◌≡◌, ◌≢◌, ℕ, ◌<◌, List, ◌∷◌, ◌++◌, sym, ap, ap₂, ◌∙◌, Some, Result, Ok, Err}
use Rattle.std.specs.Result.{result_ok}
use Rattle.fx_amounts.specs.Numeral.{numeral}
use Rattle.fx_amounts.specs.Price.{IsPrice}
use Rattle.fx_amounts.specs.PriceText.{price_text}
use Rattle.fx_rules.specs.Session.{Header, bank_count, bank_name, decimals_of}
use Rattle.fx_rules.specs.declared.command.Reject.{Reject}
use Rattle.order_lines.specs.Reading.{other_said}
use Rattle.order_lines.specs.inside.Printing.{price_spelled}
use Rattle.order_lines.proofs.SaidFields.{other_said-ok}

-- the field is the spelling
pub field_says : (text field spelling behind : List ℕ) (end : ℕ) → text ≡ field ++ end ∷ behind → field ≡ spelling → text ≡ spelling ++ end ∷ behind
field_says text field spelling behind end is says = is ∙ ap (λ (first : List ℕ). first ++ end ∷ behind) says

said-ok : {A : Type 0} (read said : Result A Reject) (x : A) → Some x ≡ result_ok read → read ≡ said → said ≡ Ok x
said-ok (Ok y) said x found is = let same : x ≡ y = cc in sym is ∙ ap Ok (sym same)
said-ok (Err fault) said x found is = absurd (cc)

-- A text begins with a field, a byte that ends it, and this behind; the field was read, and this came of it.
module _ (text field behind : List ℕ) (end : ℕ) (cut : text ≡ field ++ end ∷ behind) where
  pub spelled_other : (h : Header) (sender : ℕ) (read : Result ℕ Reject) (other : ℕ) → Some other ≡ result_ok read → read ≡ other_said h sender field
      → (other < bank_count h) × (other ≢ sender) × (text ≡ bank_name h other ++ end ∷ behind)
  spelled_other h sender read other found is =
      let said = other_said-ok h sender field other (said-ok read (other_said h sender field) other found is) in
      (said.0, said.1, field_says text field (bank_name h other) behind end cut said.2)

-- A text begins with a number or a price, which was read from its front; it is in range, and of the type that a command has it in.
module _ (text behind : List ℕ) (end : ℕ) where
  pub front_count : (P : ℕ → Type 0) (value count : ℕ) → P value × (value ≡ count) → text ≡ numeral count ++ end ∷ behind → P value × (text ≡ numeral value ++ end ∷ behind)
  front_count P value count in_range is = (in_range.0, is ∙ ap (λ (n : ℕ). numeral n ++ end ∷ behind) (sym in_range.1))

  pub front_price : (h : Header) (pair price places ticks : ℕ) → IsPrice price × (price ≡ ticks) → places ≡ decimals_of h pair → text ≡ price_text places ticks ++ end ∷ behind → IsPrice price × (text ≡ price_spelled h pair price ++ end ∷ behind)
  front_price h pair price places ticks in_range decimals is =
      (in_range.0, is ∙ ap₂ (λ (d n : ℕ). price_text d n ++ end ∷ behind) decimals (sym in_range.1))
