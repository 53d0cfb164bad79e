-- The parts of a flat circuit, by what a program unfolds to.
use Rattle.std.proofs.Common.{arith, ◌≡◌, ◌∙◌, ℕ, ◌<◌, ◌≤◌, ◌^◌, List, [], ◌∷◌, ◌++◌, length, map, Result, Ok, Err, IsErr, IsErrAnd, MatchResult, refl, sym, ap, subst}
use Rattle.std.specs.List.{All, flat_map}
use Rattle.std.proofs.lemmas.List.{length-map}
use Rattle.reo_flatten.proofs.Sequences.{both_none}
use Rattle.reo_kinds.specs.declared.kind.Kind.{Kind}
use Rattle.reo_trees.specs.declared.programs.Declaration.{Declaration}
use Rattle.reo_trees.specs.declared.programs.Program.{Program}
use Rattle.reo_rules.specs.declared.fault.FlatFault.{FlatFault}
use Rattle.reo_rules.specs.Rules.{rule_breaks}
use Rattle.reo_flat.specs.Unfolding.{Placed}
use Rattle.reo_flat.specs.Flat.{own_kinds, placed_of, nodes_of, primitives_of, joints_in}
use Rattle.reo_flat.specs.Sizes.{no_main, too_many}
use Rattle.reo_flat.specs.Refusals.{breaks, IsAccepted, IsRefused}
use Rattle.reo_flat.specs.flatten_laws.Nodes.{IsServed}
use Rattle.reo_flatten.specs.declared.ends.NodeEnds.{NodeEnds}
use Rattle.reo_flatten.specs.declared.last.Flat.{Flat}
use Rattle.reo_flatten.specs.declared.unfolded.UnfoldedMain.{UnfoldedMain}
use Rattle.reo_flatten.specs.NodeEnds.{placed_with, AreEnds}
use Rattle.reo_flatten.specs.Parts.{IsBegun}
use Rattle.reo_flatten.proofs.CountLemmas.{nodes_within, placed_within}

placed_with-maps : (ps : List Placed) → placed_with (map (λ (p : Placed). p.kind) ps) (map (λ (p : Placed). p.nodes) ps) ≡ ps
placed_with-maps [] = refl
placed_with-maps (p ∷ ps) = ap (λ qs. p ∷ qs) (placed_with-maps ps)

module _ (ds : List Declaration) (b : UnfoldedMain) (is : IsBegun ds b) where
  placed_is : placed_with b.made.kinds b.made.ends ≡ placed_of ds
  placed_is = (λ i. placed_with (is.kinds i) (is.ends i)) ∙ placed_with-maps (placed_of ds)

  pub as_many : length b.made.ends ≡ length b.made.kinds
  as_many = ap length is.ends ∙ length-map (placed_of ds) (λ (p : Placed). p.nodes) ∙ sym (ap length is.kinds ∙ length-map (placed_of ds) (λ (p : Placed). p.kind))

  pub ends_are : (ends : NodeEnds) → AreEnds b.made.nodes (placed_with b.made.kinds b.made.ends) ends → AreEnds (nodes_of ds) (placed_of ds) ends
  ends_are ends are = subst (λ ns. AreEnds ns (placed_of ds) ends) is.nodes (subst (λ ps. AreEnds b.made.nodes ps ends) placed_is are)

  pub kinds_are : (new : List Kind) → new ≡ b.made.kinds ++ flat_map (own_kinds (placed_of ds)) (nodes_of ds) → new ≡ primitives_of ds
  kinds_are new added = added ∙ ap (λ ks. ks ++ flat_map (own_kinds (placed_of ds)) (nodes_of ds)) is.kinds

  pub first_is : (first : ℕ) → first ≡ length b.made.kinds → first ≡ length (placed_of ds)
  first_is first at = at ∙ ap length is.kinds ∙ length-map (placed_of ds) (λ (p : Placed). p.kind)

  pub first_low : (first : ℕ) → first ≡ length b.made.kinds → length (primitives_of ds) ≤ 4096 → first < 2 ^ 32
  first_low first at few =
      let same = first_is first at in
      let within = placed_within ds in
      omega arith

-- No rule is broken.
pub no_breaks : (ds : List Declaration) → rule_breaks ds ≡ [] → no_main ds ≡ [] → too_many ds ≡ [] → breaks ds ≡ []
no_breaks ds rules main many = both_none (rule_breaks ds) _ rules (both_none (no_main ds) (too_many ds) main many)

-- There are few nodes.
pub few_nodes : (ds : List Declaration) (ends : NodeEnds) → AreEnds (nodes_of ds) (placed_of ds) ends → All (IsServed (placed_of ds)) (nodes_of ds) → length (joints_in ds) ≤ 16384 → length ends.ins < 2 ^ 32
few_nodes ds ends are served few =
    let within = nodes_within (placed_of ds) (nodes_of ds) (length (placed_of ds)) (λ k d inside. ((served k d inside).incoming_some, (served k d inside).outgoing_some)) in
    let many = are.many_ins in
    omega arith

-- A fault that was passed on is the refusal.
pub refused_err : (p : Program) (r : Result Flat FlatFault) (d : FlatFault) → IsErr r × IsErrAnd r (λ y. y ≡ d) → IsRefused p d → MatchResult r (λ flat. IsAccepted p) (IsRefused p)
refused_err p (Ok v) d h is = absurd (cc)
refused_err p (Err e) d h is = subst (IsRefused p) (sym h.1) is
