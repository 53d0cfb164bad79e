-- Lists of breaks that are empty.
use Rattle.std.proofs.Common.{◌≡◌, ◌∙◌, List, [], ◌∷◌, ◌++◌, Bool, true, false, not, refl, sym, ap}
use Rattle.std.proofs.lemmas.List.{append-nil, append_assoc}
use Rattle.reo_trees.specs.declared.programs.Declaration.{Declaration}
use Rattle.reo_rules.specs.declared.fault.FlatFault.{FlatFault}
use Rattle.reo_rules.specs.Lists.{each_after, where_true}
use Rattle.reo_rules.specs.Scopes.{connectors_in, connectors_of}
use Rattle.reo_rules.specs.Twice.{twice}
use Rattle.reo_rules.specs.Unknown.{unknown}
use Rattle.reo_rules.specs.Mistyped.{mistyped}
use Rattle.reo_rules.specs.Ranges.{out_of_range}
use Rattle.reo_rules.specs.Arity.{arity}
use Rattle.reo_rules.specs.Direction.{direction}
use Rattle.reo_rules.specs.Rules.{rule_breaks, KeepsRules}
use Rattle.reo_flat.specs.Sizes.{no_main, too_many}
use Rattle.reo_flat.specs.Refusals.{breaks}
pub use Rattle.reo_rules.proofs.AfterLemmas.{right_none}
pub use Rattle.std.proofs.lemmas.Grind.{flat_map-append}
pub use Rattle.reo_values.proofs.Sequences.{left_none}

-- Or that it holds, where the break stands for its opposite.
pub holds : (b : Bool) (f : FlatFault) → where_true (not b) f ≡ [] → b ≡ true
holds true f is = refl
holds false f is = absurd (cc)

-- The connectors behind one more declaration.
pub one_more : (before : List Declaration) (d : Declaration) → connectors_of (before ++ d ∷ []) ≡ connectors_of before ++ connectors_in d
one_more before d = flat_map-append connectors_in before (d ∷ []) ∙ ap (λ cs. connectors_of before ++ cs) (append-nil (connectors_in d))

-- No rule is broken, that on cycles aside.
pub record IsUnbroken (ds : List Declaration) : Type 0 where
  pub rules : KeepsRules ds
  pub a_main : no_main ds ≡ []
  pub few : too_many ds ≡ []

pub unbroken : (ds : List Declaration) → breaks ds ≡ [] → IsUnbroken ds
unbroken ds none =
    let b1 = left_none (rule_breaks ds) _ none in
    let sizes = right_none (rule_breaks ds) _ none in
    let b2 = right_none (twice ds) _ b1 in
    let b3 = right_none (unknown ds) _ b2 in
    let b4 = right_none (mistyped ds) _ b3 in
    let b5 = right_none (out_of_range ds) _ b4 in
    let b6 = right_none (arity ds) _ b5 in
    record {
      rules = record {
        types = record {
          names = record { no_twice = left_none (twice ds) _ b1; no_unknown = left_none (unknown ds) _ b2 };
          no_mistyped = left_none (mistyped ds) _ b3;
        };
        no_range = left_none (out_of_range ds) _ b4;
        no_arity = left_none (arity ds) _ b5;
        no_direction = left_none (direction ds) _ b6;
        no_dangling = right_none (direction ds) _ b6;
      };
      a_main = left_none (no_main ds) _ sizes;
      few = right_none (no_main ds) _ sizes;
    }

-- Where a list has no break, none is at an item of it.
pub after_at : {X Y : Type 0} (f : List X → X → List Y) (b xs : List X) (x : X) (ys : List X) → each_after f b (xs ++ x ∷ ys) ≡ [] → f (b ++ xs) x ≡ []
after_at f b [] x ys none = ap (λ c. f c x) (append-nil b) ∙ left_none (f b x) _ none
after_at f b (z ∷ zs) x ys none = ap (λ c. f c x) (sym (append_assoc b (z ∷ []) zs)) ∙ after_at f (b ++ z ∷ []) zs x ys (right_none (f b z) _ none)
