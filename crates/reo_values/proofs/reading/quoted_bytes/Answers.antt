use Rattle.std.proofs.Common.{◌∙◌, drop, ap, sym}
use Rattle.reo_values.proofs.Faults.{passed_on}
use Rattle.reo_values.proofs.Quotes.{quoted_none, quoted_end}
use Rattle.reo_values.proofs.reading.quoted_bytes.Goals as goal

pub returns-in_err-byte-clause-none : goal.returns-in_err-byte-clause-none
returns-in_err-byte-clause-none c failed bytes rest same =
    let fault = passed_on c.from_residual-in_err-byte.result c.in_err-byte.field-0.0 _ c.from_residual-in_err-byte.ensures failed in
    let left = sym c.loop-made.invariant ∙ ap (λ l. drop 1 l) (sym c.in_ok-expect.ensures.found ∙ same ∙ quoted_end bytes rest) in
    quoted_none c.loop-made.made bytes c.loop-made.reader rest left (c.in_err-byte.ensures.end fault) (c.in_err-byte.ensures.none fault)
