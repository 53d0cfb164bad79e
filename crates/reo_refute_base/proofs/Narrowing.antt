-- What narrowing keeps.
pub use Rattle.reo_joint_values.proofs.Narrowing.{at_cases, same_value, value_same}
