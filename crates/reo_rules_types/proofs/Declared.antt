-- The types behind declarations, and the names of what is typed.
pub use Rattle.reo_rules.proofs.Declared.{names_of-nodes, names_of-parameters, names_of-types, type_named-append, types_after-append}
