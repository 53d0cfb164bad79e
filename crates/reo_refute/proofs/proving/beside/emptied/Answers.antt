use Rattle.std.proofs.Common.{◌≡◌, true, false, sym, ◌∙◌}
use Rattle.reo_values.proofs.Sequences.{nil_of}
use Rattle.reo_refute_base.specs.Live.{live_at}
use Rattle.reo_refute_live.specs.support.Families.{family_of}
use Rattle.reo_refute.proofs.proving.beside.emptied.Goals as goal

pub returns-then-not-has_live : goal.returns-then-not-has_live
returns-then-not-has_live c =
    (c.if-joint-lists.true, nil_of (live_at c.args.lists.now (family_of c.args.live.now.table) c.in-Some.joint) (λ some. let wrong : false ≡ true = sym c.if-not-has_live.true ∙ c.has_live.ensures.1 some in cc))
