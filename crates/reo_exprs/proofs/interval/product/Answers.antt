use Rattle.std.proofs.Common.{◌∙◌, ◌≡◌, ◌*ℤ◌, Some, true, false, sym, subst, rules, to_z, of_z}
use Rattle.std.specs.Prelude.{FitsSigned}
use Rattle.std.specs.Int.{w64}
use Rattle.std.proofs.lemmas.Int.{to_z-of_z}
use Rattle.reo_exprs.specs.Interval.{is_near, least, greatest}
use Rattle.reo_exprs.proofs.Near.{BoundsFit, kept, near_bounds, near_fits, some_test, all_near, least_told, greatest_told}
use Rattle.reo_exprs.proofs.Corners.{product_far}
use Rattle.reo_exprs.proofs.interval.product.Goals as goal

pub returns-in_err-a : goal.returns-in_err-a
returns-in_err-a c =
    let x : BoundsFit c.args.x = search rules in
    let y : BoundsFit c.args.y = search rules in
    c.from_residual.ensures ∙ sym (product_far c.args.x c.args.y false false (simp kept at c.in_err-a.ensures))

pub returns-in_err-b : goal.returns-in_err-b
returns-in_err-b c =
    let x : BoundsFit c.args.x = search rules in
    let y : BoundsFit c.args.y = search rules in
    c.from_residual-in_err-b.ensures ∙ sym (product_far c.args.x c.args.y false true (simp kept at c.in_err-b.ensures))

pub returns-in_err-c : goal.returns-in_err-c
returns-in_err-c c =
    let x : BoundsFit c.args.x = search rules in
    let y : BoundsFit c.args.y = search rules in
    c.from_residual-in_err-c.ensures ∙ sym (product_far c.args.x c.args.y true false (simp kept at c.in_err-c.ensures))

pub returns-in_err-d : goal.returns-in_err-d
returns-in_err-d c =
    let x : BoundsFit c.args.x = search rules in
    let y : BoundsFit c.args.y = search rules in
    c.from_residual-in_err-d.ensures ∙ sym (product_far c.args.x c.args.y true true (simp kept at c.in_err-d.ensures))

pub returns : goal.returns
returns c =
    let x : BoundsFit c.args.x = search rules in
    let y : BoundsFit c.args.y = search rules in
    let pa = some_test (c.args.x.low *ℤ c.args.y.low) c.in_ok-a.a (sym (simp kept at c.in_ok-a.ensures)) in
    let ba = near_bounds c.in_ok-a.a (subst (λ z. is_near z ≡ true) pa.1 pa.0) in
    let pb = some_test (c.args.x.low *ℤ c.args.y.high) c.in_ok-b.b (sym (simp kept at c.in_ok-b.ensures)) in
    let bb = near_bounds c.in_ok-b.b (subst (λ z. is_near z ≡ true) pb.1 pb.0) in
    let pc = some_test (c.args.x.high *ℤ c.args.y.low) c.in_ok-c.c (sym (simp kept at c.in_ok-c.ensures)) in
    let bc = near_bounds c.in_ok-c.c (subst (λ z. is_near z ≡ true) pc.1 pc.0) in
    let pd = some_test (c.args.x.high *ℤ c.args.y.high) c.in_ok-d.d (sym (simp kept at c.in_ok-d.ensures)) in
    let bd = near_bounds c.in_ok-d.d (subst (λ z. is_near z ≡ true) pd.1 pd.0) in
    let fa : FitsSigned w64 c.in_ok-a.a = near_fits c.in_ok-a.a ba.0 ba.1 in
    let fb : FitsSigned w64 c.in_ok-b.b = near_fits c.in_ok-b.b bb.0 bb.1 in
    let fc : FitsSigned w64 c.in_ok-c.c = near_fits c.in_ok-c.c bc.0 bc.1 in
    let fd : FitsSigned w64 c.in_ok-d.d = near_fits c.in_ok-d.d bd.0 bd.1 in
    let min = simp to_z-of_z at c.min.ensures.value in
    let min2 = simp to_z-of_z at c.min-2.ensures.value in
    let max = simp to_z-of_z at c.max.ensures.value in
    let max2 = simp to_z-of_z at c.max-2.ensures.value in
    let low : to_z w64 (of_z w64 c.min-3.result) ≡ least c.in_ok-a.a c.in_ok-b.b c.in_ok-c.c c.in_ok-d.d = least_told c.in_ok-a.a c.in_ok-b.b c.in_ok-c.c c.in_ok-d.d c.min.result c.min-2.result c.min-3.result fa fb fc fd min min2 c.min-3.ensures.value in
    let high : to_z w64 (of_z w64 c.max-3.result) ≡ greatest c.in_ok-a.a c.in_ok-b.b c.in_ok-c.c c.in_ok-d.d = greatest_told c.in_ok-a.a c.in_ok-b.b c.in_ok-c.c c.in_ok-d.d c.max.result c.max-2.result c.max-3.result fa fb fc fd max max2 c.max-3.ensures.value in
    (λ i. Some (record { low = low i; high = high i }))
    ∙ (λ i. Some (record { low = least (sym pa.1 i) (sym pb.1 i) (sym pc.1 i) (sym pd.1 i); high = greatest (sym pa.1 i) (sym pb.1 i) (sym pc.1 i) (sym pd.1 i) }))
    ∙ sym (all_near (c.args.x.low *ℤ c.args.y.low) (c.args.x.low *ℤ c.args.y.high) (c.args.x.high *ℤ c.args.y.low) (c.args.x.high *ℤ c.args.y.high) pa.0 pb.0 pc.0 pd.0)
