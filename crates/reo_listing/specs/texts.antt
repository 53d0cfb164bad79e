pub mod TableTexts
pub mod TablesText
pub mod Refusals
