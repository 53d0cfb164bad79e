use Rattle.std.proofs.Common.{◌≡◌, ◌≢◌, ◌↔◌, ◌∙◌, ℕ, Bool, true, false, List, [], get_or, ap, sym, subst}
use Rattle.std.specs.Prelude.{IsTrue}
use Rattle.std.proofs.lemmas.List.{get_or_default}
use Rattle.reo_refute_base.specs.Live.{live_at}
use Rattle.reo_refute_live.specs.declared.support.live.LiveAt.{LiveAt}
use Rattle.reo_refute_live.specs.support.Families.{family_of, none_gone}
use Rattle.reo_refute_live.proofs.ValueLemmas.{any, some_live}
use Rattle.reo_refute_live.proofs.values.has_live.Goals as goal

pub returns : goal.returns
returns c = λ lists are.
    let at : LiveAt = get_or c.args.table.now c.args.joint none_gone in
    let is : c.at-live.result.now ≡ at = c.at-live.ensures ∙ get_or_default c.args.table.now c.args.joint c.at-live.result.now none_gone c.requires in
    let flow : IsTrue c.has_set.result ↔ ((n : ℕ) × (get_or at.flows n false ≡ true)) =
    subst (λ (l : List Bool). IsTrue c.has_set.result ↔ ((n : ℕ) × (get_or l n false ≡ true))) (c.as_slice.ensures ∙ ap (λ (e : LiveAt). e.flows) is) c.has_set.ensures in
    subst (λ (b : Bool). IsTrue b ↔ (live_at lists (family_of c.args.table.now) c.args.joint ≢ [])) (sym (c.has_any.ensures ∙ ap (λ (e : LiveAt). any e c.has_set.result) is))
    (some_live lists c.args.table.now are c.args.joint c.has_set.result flow)
