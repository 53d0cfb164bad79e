-- One declaration more, from the last to the first.
use Rattle.std.proofs.Common.{arith, ◌≡◌, ◌∙◌, ◌<◌, ◌+◌, ◌++◌, ◌∷◌, [], ℕ, suc, Bool, Ok, List, take, drop, length, get_or, ap, sym, subst, append_assoc}
use Rattle.std.specs.Prelude.{◌||◌, reverse}
use Rattle.std.specs.List.{flat_map}
use Rattle.std.proofs.Math.Seq.{drop-cons}
use Rattle.std.proofs.lemmas.List.{append-nil, reverse-append, take-append-drop}
use Rattle.reo_rules.specs.Lists.{has_name}
use Rattle.reo_trees.specs.declared.programs.Declaration.{Declaration}
use Rattle.reo_trees.specs.declared.programs_two.ConnectorTwo.{ConnectorTwo}
use Rattle.reo_trees.specs.declared.programs_two.DeclarationTwo.{DeclarationTwo}
use Rattle.reo_expand.specs.declared.base.fault.ExpandFault.{ExpandFault}
use Rattle.reo_expand.specs.base.Expansion.{expanded, connectors_of, has_use, declared_by}
use Rattle.reo_expand.specs.base.Steps.{walked, steps_from, declaration_steps, two_in}
use Rattle.reo_expand.proofs.base.Turning.{next_of}
use Rattle.reo_expand.proofs.base.Walking.{walked-then, stop-or-memory, then-or-memory}
use Rattle.reo_expand.proofs.walk.TurnSteps.{IsStop}
use Rattle.reo_expand.specs.programs.Noted.{declared_noted, steps_noted}
use Rattle.reo_expand.proofs.programs.Uses.{or-swap, has_use-append, connectors-append}
use Rattle.reo_expand.proofs.programs.Later.{declared_known, steps_known}

-- What stops behind a front stops the whole.
stopped_behind : (before : List ConnectorTwo) (front behind : List DeclarationTwo) (f : ExpandFault)
    → IsStop 0 (steps_from (before ++ flat_map two_in front) behind) f → IsStop 0 (steps_from before (front ++ behind)) f
stopped_behind before [] behind f h = subst (λ b. IsStop 0 (steps_from b behind) f) (append-nil before) h
stopped_behind before (d ∷ front) behind f h =
    stop-or-memory 0 (steps_from (before ++ two_in d) (front ++ behind)) (declaration_steps before (front ++ behind) d) f
    (stopped_behind (before ++ two_in d) front behind f
    (subst (λ b. IsStop 0 (steps_from b behind) f) (sym (append_assoc before (two_in d) (flat_map two_in front))) h))

abbrev front_of : List DeclarationTwo → ℕ → List ConnectorTwo
front_of ds p = flat_map two_in (take p ds)

pub stopped_at : (ds : List DeclarationTwo) (p : ℕ) (f : ExpandFault) → IsStop 0 (steps_from (front_of ds p) (drop p ds)) f → IsStop 0 (steps_from [] ds) f
stopped_at ds p f h = subst (λ l. IsStop 0 (steps_from [] l) f) (take-append-drop p ds) (stopped_behind [] (take p ds) (drop p ds) f h)

module _ (ds : List DeclarationTwo) (p : ℕ) (d : DeclarationTwo) (lt : p < length ds) (is : d ≡ get_or ds p d) where
  abbrev rest : List DeclarationTwo
  rest = drop (p + 1) ds

  here : drop p ds ≡ d ∷ rest
  here =
      let e : suc p ≡ p + 1 = omega arith in
      drop-cons ds p d lt ∙ ap (λ q. get_or ds p d ∷ drop q ds) e ∙ ap (λ x. x ∷ rest) (sym is)

  steps_here : steps_from (front_of ds p) (drop p ds) ≡ steps_from (front_of ds (p + 1)) rest ++ declaration_steps (front_of ds p) rest d
  steps_here =
      ap (steps_from (front_of ds p)) here
      ∙ ap (λ b. steps_from b rest ++ declaration_steps (front_of ds p) rest d) (sym (next_of two_in ds p d lt is))

  expanded_here : expanded (drop p ds) ≡ declared_by (connectors_of (expanded rest)) d ++ expanded rest
  expanded_here = ap expanded here

  module _ (names : List (List ℕ)) (m : ℕ) (known : (n : List ℕ) → has_name names n ≡ has_use (connectors_of (expanded rest)) n)
      (at : walked 0 (steps_from (front_of ds (p + 1)) rest) ≡ Ok m) where
    -- The walk goes on, or stops.
    pub walked_more : (k : ℕ) → walked m (steps_noted (front_of ds p) names d) ≡ Ok k → walked 0 (steps_from (front_of ds p) (drop p ds)) ≡ Ok k
    walked_more k go =
        ap (walked 0) steps_here
        ∙ walked-then 0 m (steps_from (front_of ds (p + 1)) rest) (declaration_steps (front_of ds p) rest d) at
        ∙ ap (walked m) (sym (steps_known names rest known (front_of ds p) d))
        ∙ go

    pub stopped_more : (f : ExpandFault) → IsStop m (steps_noted (front_of ds p) names d) f → IsStop 0 (steps_from [] ds) f
    stopped_more f stop =
        stopped_at ds p f
        (subst (λ s. IsStop 0 s f) (sym steps_here)
        (then-or-memory 0 m (steps_from (front_of ds (p + 1)) rest) (declaration_steps (front_of ds p) rest d) f at
        (subst (λ s. IsStop m s f) (steps_known names rest known (front_of ds p) d) stop)))

    -- What is made, and what it uses.
    pub expanded_more : (next : List Declaration) → next ≡ declared_noted names d → expanded (drop p ds) ≡ next ++ expanded rest
    expanded_more next made = expanded_here ∙ ap (λ l. l ++ expanded rest) (sym (made ∙ declared_known names (connectors_of (expanded rest)) known d))

    pub made_more : (next old new : List Declaration) → next ≡ declared_noted names d → old ≡ reverse (expanded rest) → new ≡ old ++ reverse next → new ≡ reverse (expanded (drop p ds))
    made_more next old new made e grown =
        grown
        ∙ ap (λ l. l ++ reverse next) e
        ∙ sym (reverse-append next (expanded rest))
        ∙ ap reverse (sym (expanded_more next made))

    pub uses_more : (next : List Declaration) (n : List ℕ) (b : Bool) → next ≡ declared_noted names d → b ≡ (has_name names n || has_use (connectors_of next) n)
        → b ≡ has_use (connectors_of (expanded (drop p ds))) n
    uses_more next n b made noted =
        noted
        ∙ ap (λ u. u || has_use (connectors_of next) n) (known n)
        ∙ or-swap (has_use (connectors_of (expanded rest)) n) (has_use (connectors_of next) n)
        ∙ sym (has_use-append (connectors_of next) (connectors_of (expanded rest)) n)
        ∙ ap (λ cs. has_use cs n) (sym (connectors-append next (expanded rest)))
        ∙ ap (λ l. has_use (connectors_of l) n) (sym (expanded_more next made))
