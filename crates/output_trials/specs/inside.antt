pub mod ClientDays
