-- Numbers at the front of a text are told by their digits.
pub use Rattle.reo_values.proofs.decimals.Digits.{colon_no_digit, decimal_first, decimal_no_other, decimal_same, decimal_unique, dot_no_digit, feed_no_digit, number_front, small_unique, space_no_digit}
