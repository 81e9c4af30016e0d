pub mod Listed
pub mod SessionLemmas
pub mod CommandLemmas
pub mod TotalsLemmas
pub mod Examples
