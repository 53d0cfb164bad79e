-- What holds of each item of a list.
pub use Rattle.reo_flat.proofs.flatten_laws.Each.{all_to, both, by_recursion, each_of}
