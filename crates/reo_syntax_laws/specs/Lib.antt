pub mod trees_laws
pub mod syntax_two_laws
pub mod trees_two_laws
