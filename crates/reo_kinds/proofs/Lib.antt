pub mod RuleLemmas
pub mod RuleLaws
