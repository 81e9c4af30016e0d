pub mod CutFields
pub mod DigitTexts
pub mod FieldLemmas
pub mod FieldTexts
pub mod FirstLines
mod Formatted
pub mod JoinedFields
pub mod LineTexts
pub mod LinesLemmas
pub mod NumberLemmas
pub mod PartsLemmas
pub mod PlacesLemmas
