use Rattle.std.proofs.Common.{rules, ◌∙◌, ap, ◌++◌}
use Rattle.reo_listing.specs.texts.TableTexts.{port_name}
use Rattle.reo_trace.proofs.Rows.{spaced-more}
use Rattle.reo_listing.proofs.texts.table.append_names.Goals as goal

pub loop-place-preserved : goal.loop-place-preserved
loop-place-preserved c =
    spaced-more (port_name c.args.ports.now) c.args.numbers.now c.loop-place.place _ _ _ _ _ (search rules)
    c.loop-place.invariant c.in_ok-append_gap.ensures (c.in_ok-append.ensures.ok ∙ ap (λ bytes. c.append_gap.new.text ++ bytes) c.port_name.ensures)
