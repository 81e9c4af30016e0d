mod Examples
pub mod FieldTexts
pub mod FrontNumbers
pub mod Printed
pub mod SaidCommands
pub mod SaidFaults
pub mod SaidFields
pub mod SaidLines
pub mod SenderNames
pub mod SpelledFields
pub mod SpelledLines
pub mod WrittenCommands
