-- How what is printed is put together.
pub use Rattle.reo_syntax.proofs.Again.{Out, even-alike, out-behind, out-both, out-first, out-gap, out-left, out-lined, out-made, out-more, out-name, out-nothing, out-right, out-rule, out-text, out-token, out-weaker, out-word, out-word-as}
