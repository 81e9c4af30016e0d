pub mod AmountLemmas
pub mod DigitLemmas
pub mod NumeralLemmas
pub mod PriceTextLemmas
pub mod Preference
