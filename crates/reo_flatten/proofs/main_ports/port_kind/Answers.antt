-- Writers with no offer differ by their types alone.
use Rattle.std.proofs.Common.{◌≡◌, ap, ◌∙◌, refl, sym, Some, None, Option, true}
use Rattle.std.proofs.Math.Bool.{Bool-set}
use Rattle.reo_values.specs.declared.value.Value.{Value}
use Rattle.reo_values.specs.declared.kindred.Kindred.{Kindred}
use Rattle.reo_kinds.specs.declared.kind.WriterPort.{WriterPort}
use Rattle.reo_kinds.specs.declared.kind.Kind.TheVariants.{Writer}
use Rattle.reo_kinds.specs.Items.{offer_fits}
use Rattle.reo_flat.specs.Flat.{port_kind}
use Rattle.reo_flatten.proofs.main_ports.port_kind.Goals as goal

abbrev free_with : (k : Kindred) → true ≡ true → WriterPort
free_with k fitting = record { kindred = k; offer = None; fitting = fitting }

is_free : (k : Kindred) (o : Option Value) (h : offer_fits o k ≡ true) → o ≡ None → ◌≡◌ {A = WriterPort} (record { kindred = k; offer = o; fitting = h }) (free_with k refl)
is_free k None h e = ap (free_with k) (Bool-set true true h refl)
is_free k (Some item) h e = absurd (cc)

writer_is : (w : WriterPort) (k : Kindred) → w.kindred ≡ k → w.offer ≡ None → w ≡ free_with k refl
writer_is w k e f = is_free w.kindred w.offer w.fitting f ∙ ap (λ j. free_with j refl) e

pub returns-in_ok-kindred-in-In : goal.returns-in_ok-kindred-in-In
returns-in_ok-kindred-in-In c =
    ap Writer (writer_is c.new.result c.args.port.now.kindred (c.new.ensures.kindred ∙ c.in_ok-kindred-in-In.ensures) c.new.ensures.offer)
    ∙ ap (λ w. port_kind w c.args.port.now.kindred) (sym c.in-In.is)
