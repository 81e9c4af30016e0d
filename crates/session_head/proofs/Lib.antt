pub mod DraftLemmas
pub mod HeadLemmas
pub mod StatementLemmas
pub mod TextLemmas
pub mod AgainLemmas
pub mod LineTexts
pub mod SpellingLemmas
pub mod RoundLemmas
