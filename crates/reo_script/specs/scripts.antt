pub mod ScriptForms
pub mod Alike
pub mod Table
pub mod Faults
pub mod ScriptRules
pub mod ScriptAnswers
pub mod Events
