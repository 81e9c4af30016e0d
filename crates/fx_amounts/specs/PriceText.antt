-- The text of a price.
use Rattle.std.specs.Prelude.{◌≡◌, ℕ, zero, suc, ◌+◌, ◌-◌, ◌/◌, ◌%◌, ◌^◌, Bool, ◌&&◌, ◌==◌, nat_le, if◌then◌else◌, List, [], ◌∷◌, ◌++◌, length, take, drop, slice_index, filter, Result, Ok, Err}
use Rattle.std.specs.Char.{is_ascii_digit}
use Rattle.std.specs.List.{list_all}
use Rattle.std.specs.Str.Parse.{digits_value}
use Rattle.fx_amounts.specs.Numeral.{numeral, is_numeral}
use Rattle.fx_amounts.specs.declared.price_text.PriceFault.{PriceFault}
use Rattle.fx_amounts.specs.declared.price_text.PriceFault.TheVariants.{Form, Range}

-- the number of each fault
abbrev pub fault_code : PriceFault → ℕ
fault_code Form = 1
fault_code Range = 2

-- the last `count` digits of a number
abbrev pub last_digits : ℕ → ℕ → List ℕ
last_digits zero n = []
last_digits (suc count) n = last_digits count (n / 10) ++ (48 + n % 10) ∷ []

-- the one spelling of a price of so many ticks, where a tick is the last of so many decimals
unfoldable pub price_text : ℕ → ℕ → List ℕ
price_text zero ticks = numeral ticks
price_text (suc more) ticks = numeral (ticks / 10 ^ suc more) ++ 46 ∷ last_digits (suc more) ticks

-- where the point of a price stands in its text
abbrev pub point_at : ℕ → List ℕ → ℕ
point_at decimals text = length text - suc decimals

-- whether the text is in the form of a price with so many decimals
abbrev pub is_price_text : ℕ → List ℕ → Bool
is_price_text zero text = is_numeral text
is_price_text (suc more) text = is_numeral (take (point_at (suc more) text) text) && (slice_index text (point_at (suc more) text) == 46)
    && list_all is_ascii_digit (drop (suc (point_at (suc more) text)) text)

-- the number that the digits of the text make
abbrev pub ticks_of : List ℕ → ℕ
ticks_of text = digits_value 10 (filter is_ascii_digit text)

-- the price of so many ticks
abbrev pub price_of_ticks : ℕ → Result ℕ PriceFault
price_of_ticks ticks = if nat_le 1 ticks && nat_le ticks (10 ^ 9) then Ok ticks else Err Range

-- the price that a text says
unfoldable pub price_of : ℕ → List ℕ → Result ℕ PriceFault
price_of decimals text = if is_price_text decimals text then price_of_ticks (ticks_of text) else Err Form

-- the text is the spelling of a price of some number of ticks, in range or not
abbrev pub IsPriceText : ℕ → List ℕ → Type 0
IsPriceText decimals text = (ticks : ℕ) × (text ≡ price_text decimals ticks)
