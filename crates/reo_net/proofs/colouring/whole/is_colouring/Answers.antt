use Rattle.std.proofs.Common.{arith}
use Rattle.reo_net.proofs.colouring.whole.is_colouring.Goals as goal

pub returns-then-all_match : goal.returns-then-all_match
returns-then-all_match g c = (
  λ h. record {
    rows_fit = record { in_tables = c.are_rows.ensures.0 c.if-not-are_rows.false; matched = c.all_match.ensures.0 c.if-all_match.true };
    one_each = omega arith;
    items_fit = c.all_fit.ensures.0 h;
  },
  λ col. c.all_fit.ensures.1 col.items_fit,
)
