-- The new name stands behind the others.
use Rattle.std.proofs.Common.{◌≡◌, ◌∙◌, [], ◌∷◌, ◌++◌, Some, None, Option, false, map, sym, ap, bytes_eq, OnOk, subst, refl}
use Rattle.std.specs.Prelude.{is_some}
use Rattle.std.specs.Map.{lookup, keys_of}
use Rattle.std.proofs.lemmas.List.{map-append}
use Rattle.std.proofs.lemmas.Map.Made.{is_some-lookup}
use Rattle.indexmap.proofs.CallerLemmas.{insert_entry-new}
use Rattle.reo_rules.specs.Lists.{has_name}
use Rattle.reo_rules_types.proofs.Scoped.{lookup-map}
use Rattle.reo_rules_types.proofs.scope.Scope.add.Goals as goal
use Rattle.reo_rules_types.proofs.scope.Scope.add.Goals.{in-Ok-insert, in-Err}

none_from : {X : Type 0} (o : Option X) → is_some o ≡ false → o ≡ None
none_from None is = refl
none_from (Some x) is = absurd (cc)

pub returns : goal.returns
returns c =
    let es = c.self.inside.numbers.entries in
    let name = c.in-Ok.name in
    let new : is_some (lookup (λ k. bytes_eq name.items k.items) es) ≡ false =
    ap is_some (sym (lookup-map (λ v. v.items) (bytes_eq name.items) es)) ∙ is_some-lookup (bytes_eq name.items) _
    ∙ (λ i. has_name (keys_of (c.self.view_is i)) (c.in-Ok.ensures.items i)) ∙ c.requires in
    elim c.match-insert.branch [
      | in-Ok-insert w ↦
          let is = w.in-Ok-insert.ensures.entries ∙ insert_entry-new (λ v k. bytes_eq v.items k.items) c.self.inside.numbers name c.args.number (none_from _ new) in
          let shown = ap (map (λ e. (e.0.items, e.1))) is ∙ map-append (λ e. (e.0.items, e.1)) es ((name, c.args.number) ∷ [])
          ∙ (λ i. c.self.view_is i ++ (c.in-Ok.ensures.items i, c.args.number) ∷ []) in
          subst (λ r. OnOk r (map (λ e. (e.0.items, e.1)) c.insert.new.self.entries ≡ c.args.self.now ++ (c.args.name.now, c.args.number) ∷ [])) (sym w.result-is) shown
      | in-Err w ↦ subst (λ r. OnOk r (map (λ e. (e.0.items, e.1)) c.insert.new.self.entries ≡ c.args.self.now ++ (c.args.name.now, c.args.number) ∷ [])) (sym w.result-is) tt
    ]
