-- What holds of everything that the forms of circuits derive.
pub use Rattle.reo_syntax.proofs.Seen.{See, World, see-both, see-chain, see-either, see-lined, see-made, see-nothing, see-rule, see-then, see-token, see-word, see-word-as}
