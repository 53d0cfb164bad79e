-- The set has the bytes of its vectors as names.
use Rattle.std.proofs.Common.{◌≡◌, ◌∙◌, ap, sym, map, not, Bool, true, false, refl}
use Rattle.std.specs.Str.{bytes_eq}
use Rattle.reo_rules.specs.Lists.{has_name}
use Rattle.reo_rules.specs.Names.{with_name}
use Rattle.reo_rules.proofs.Mapped.{with_name-map, list_any-map}
use Rattle.reo_rules.proofs.names.Names.note.Goals as goal

not-not : (b : Bool) → not (not b) ≡ b
not-not true = refl
not-not false = refl

pub returns-clause-there : goal.returns-clause-there
returns-clause-there c =
    ap not c.in-Ok-insert_full.ensures.added ∙ not-not _
    ∙ sym (list_any-map (λ v. v.items) (bytes_eq c.in-Ok.name.items) c.self.inside.set.keys)
    ∙ (λ i. has_name (c.self.view_is i) (c.in-Ok.ensures.items i))

pub returns-clause-names : goal.returns-clause-names
returns-clause-names c =
    ap (map (λ v. v.items)) c.in-Ok-insert_full.ensures.keys ∙ with_name-map (λ v. v.items) c.self.inside.set.keys c.in-Ok.name
    ∙ (λ i. with_name (c.self.view_is i) (c.in-Ok.ensures.items i))
