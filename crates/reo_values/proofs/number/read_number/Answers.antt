use Rattle.std.proofs.Common.{◌≡◌, ◌∙◌, ap, sym, arith}
use Rattle.std.proofs.lemmas.Int.{ints}
use Rattle.std.specs.Fmt.{signed_decimal}
use Rattle.std.specs.Prelude.{FitsSigned}
use Rattle.std.specs.Int.{w64}
use Rattle.std.proofs.lemmas.Int.{to_z-of_z}
use Rattle.std.proofs.lemmas.Slice.Eq.{slice_eq-Decides}
use Rattle.std.proofs.lemmas.Bool.Decides.{Decides-eqb}
use Rattle.reo_values.proofs.Numbers.{fits_between, text_is_utf8, parses_back}
use Rattle.reo_values.proofs.number.read_number.Goals as goal
use Rattle.reo_values.proofs.number.read_number.Goals.{then-number-low-via-then-number-low, then-number-low-via-else-number-low+then-high-number}

pub returns-in_default-clause-none : goal.returns-in_default-clause-none
returns-in_default-clause-none c _ z low high e =
    let fits = fits_between _ _ _ c.ranges.low c.ranges.high low high in
    c.in_default.ensures.cases.0 (text_is_utf8 z _ fits e)

pub returns-in_default-parse-clause-none : goal.returns-in_default-parse-clause-none
returns-in_default-parse-clause-none c _ z low high e =
    let fits = fits_between _ _ _ c.ranges.low c.ranges.high low high in
    c.in_default-parse.not-Ok z (parses_back z _ _ fits (c.in-Ok.ensures.cases.0 ∙ e) c.parse.ensures.value.0)

pub returns-then-number-low-clause-none : goal.returns-then-number-low-clause-none
returns-then-number-low-clause-none c _ z low high e =
    let fits = fits_between _ _ _ c.ranges.low c.ranges.high low high in
    let parsed = parses_back z _ _ fits (c.in-Ok.ensures.cases.0 ∙ e) c.parse.ensures.value.0 in
    let same : c.in-Ok-parse.number ≡ z = cc (parsed, c.in-Ok-parse.is) in
    elim c.then-number-low.branch [
      | then-number-low-via-then-number-low w ↦ omega (arith, ints)
      | then-number-low-via-else-number-low+then-high-number w ↦ omega (arith, ints)
    ]

pub returns-clause-none : goal.returns-clause-none
returns-clause-none c _ z low high e =
    let fits = fits_between _ _ _ c.ranges.low c.ranges.high low high in
    let parsed = parses_back z _ _ fits (c.in-Ok.ensures.cases.0 ∙ e) c.parse.ensures.value.0 in
    let same : c.in-Ok-parse.number ≡ z = cc (parsed, c.in-Ok-parse.is) in
    let fits_number : FitsSigned w64 c.in-Ok-parse.number = rw same fits in
    let made = simp to_z-of_z at c.in_ok-again.ensures in
    let text_is : c.as_slice.result.now ≡ c.args.text.now = c.as_slice.ensures ∙ made ∙ ap signed_decimal same ∙ sym e in
    let yes = (slice_eq-Decides Decides-eqb _ _ _ c.eq.ensures).1 text_is in
    cc (yes, c.if-eq.false)
