-- Tokens by the byte that follows them.
pub use Rattle.reo_lexer.proofs.Cut.{cut-token, is_cut}
