mod Sums
pub mod CreditLemmas
pub mod OpeningLemmas
pub mod MarketLemmas
pub mod Paying
mod Steps
pub mod TableFollowing
pub mod NoPair
