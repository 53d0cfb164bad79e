use Rattle.std.proofs.Common.{◌≡◌, eqb, replicate, subst, ap, ◌∙◌, w8}
use Rattle.std.proofs.lemmas.Simd.{tops_compared}
use lib.Bits.{bit_and}
use lib.Lanes.{zip2, sel_l}
use Rattle.reo_lanes.specs.Rows.{kept_row}
use Rattle.reo_lanes.proofs.RowLemmas.{selected}
use Rattle.reo_lanes.proofs.rows.kept_lanes.Goals as goal

pub returns : goal.returns
returns c =
    let cells = c.args.cells in
    let allowed = c.args.allowed in
    let rows = c.args.rows in
    ap (λ ms. sel_l ms (replicate 32 0) rows) (tops_compared w8 eqb (zip2 bit_and cells (replicate 32 allowed)) (replicate 32 0))
    ∙ subst (λ n. sel_l (zip2 eqb (zip2 bit_and cells (replicate n allowed)) (replicate n 0)) (replicate n 0) rows ≡ zip2 (kept_row allowed) cells rows)
    c.fits-cells.0 (selected allowed cells rows)
