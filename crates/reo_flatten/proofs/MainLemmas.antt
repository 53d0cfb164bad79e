-- The connector that is unfolded.
use Rattle.std.proofs.Common.{arith, ◌≡◌, ◌∙◌, ℕ, ◌-◌, ◌<◌, List, [], ◌∷◌, ◌++◌, Bool, length, take, drop, suc, get_or, Option, Some, None, is_none, position, bytes_eq, codes, sym, ap}
use Rattle.std.specs.Prelude.{slice_get, unwrap_or}
use Rattle.std.specs.Option.{option_map_or}
use Rattle.std.proofs.lemmas.Option.{unwrap_or-slice_get}
use Rattle.reo_trees.specs.declared.programs.Connector.{Connector}
use Rattle.reo_trees.specs.declared.programs.Declaration.{Declaration}
use Rattle.reo_trees.specs.declared.programs.Declaration.TheVariants as declarations
use Rattle.reo_rules.specs.Scopes.{connectors_in, connectors_of, connector_names}
use Rattle.reo_rules.proofs.AfterLemmas.{flat_map-append}
use Rattle.reo_rules.proofs.Mapped.{position-map}
use Rattle.reo_flat.specs.Unfolding.{Meaning, no_meaning, meaning_named, meanings_of}
use Rattle.reo_rules.specs.declared.fault.FlatFault.TheVariants as faults
use Rattle.reo_rules.specs.Lists.{where_true}
use Rattle.reo_flat.specs.Flat.{main_of, main_parameters}
use Rattle.reo_flat.specs.Sizes.{no_main}
use Rattle.reo_unfold.specs.declared.ground.Stand.{Stand}
use Rattle.reo_unfold.specs.Ground.{IsStand, IsGround}
use Rattle.reo_unfold.specs.declared.ground.Ground.{Ground}
use Rattle.std.proofs.lemmas.List.{length-map}
use Rattle.reo_flatten.proofs.Sequences.{cut_at}
use Rattle.reo_unfold.proofs.ListLemmas.{slice_get-right}
use Rattle.reo_unfold.proofs.Positions.{found_at, found_within, found_nowhere}
use Rattle.reo_unfold.proofs.GroundLemmas.{names_of-meanings}

-- It has a stand.
pub main_within : (ds : List Declaration) (g : Ground) (number : ℕ) → IsGround ds g → position (bytes_eq (codes "main")) g.connectors ≡ Some number → number < length g.stands
main_within ds g number is at =
    let found = found_within (bytes_eq (codes "main")) g.connectors number at in
    let names = ap length is.names in
    let many = length-map (connectors_of ds) (λ (k : Connector). k.name) in
    let even = is.one_each in
    omega arith

module _ (ds : List Declaration) (number : ℕ) (at : position (bytes_eq (codes "main")) (connector_names ds) ≡ Some number) where
  -- What it means.
  pub main_meaning : meaning_named (meanings_of ds) (codes "main") ≡ get_or (meanings_of ds) number no_meaning
  main_meaning =
      let p : Meaning → Bool = λ m. bytes_eq (codes "main") m.name in
      let place : position p (meanings_of ds) ≡ Some number = sym (position-map (λ (m : Meaning). m.name) (bytes_eq (codes "main")) (meanings_of ds)) ∙ ap (position (bytes_eq (codes "main"))) (names_of-meanings ds) ∙ at in
      ap (λ found. unwrap_or found no_meaning) (found_at p (meanings_of ds) number place) ∙ unwrap_or-slice_get (meanings_of ds) number no_meaning

  main_found : main_of ds ≡ slice_get (connectors_of ds) number
  main_found =
      let p : Connector → Bool = λ c. bytes_eq (codes "main") c.name in
      let place : position p (connectors_of ds) ≡ Some number = sym (position-map (λ (c : Connector). c.name) (bytes_eq (codes "main")) (connectors_of ds)) ∙ at in
      found_at p (connectors_of ds) number place

  -- The connector that stands there.
  pub main_is : (c : Connector) (s : Stand) → IsStand ds number c s → main_of ds ≡ Some c
  main_is c s stand =
      let front = take s.place ds in
      let rest = drop (suc s.place) ds in
      let all : connectors_of ds ≡ connectors_of front ++ (c ∷ connectors_of rest) = ap connectors_of (cut_at ds s.place (declarations.Made c) stand.there) ∙ flat_map-append connectors_in front (declarations.Made c ∷ rest) in
      let count = stand.before in
      let none : number - length (connectors_of front) ≡ 0 = omega arith in
      main_found ∙ ap (λ cs. slice_get cs number) all ∙ slice_get-right (connectors_of front) (c ∷ connectors_of rest) number (omega arith) ∙ ap (slice_get (c ∷ connectors_of rest)) none

  pub main_parameters_are : (c : Connector) (s : Stand) → IsStand ds number c s → main_parameters ds ≡ c.parameters
  main_parameters_are c s stand = ap (λ (found : Option Connector). option_map_or (λ (c : Connector). c.parameters) found []) (main_is c s stand)

-- There is none, where no connector has the name.
pub main_nowhere : (ds : List Declaration) → position (bytes_eq (codes "main")) (connector_names ds) ≡ None → main_of ds ≡ None
main_nowhere ds none =
    let p : Connector → Bool = λ c. bytes_eq (codes "main") c.name in
    found_nowhere p (connectors_of ds) (sym (position-map (λ (c : Connector). c.name) (bytes_eq (codes "main")) (connectors_of ds)) ∙ none)

pub main_there : (ds : List Declaration) (g : Ground) (number : ℕ) → IsGround ds g → position (bytes_eq (codes "main")) g.connectors ≡ Some number → no_main ds ≡ []
main_there ds g number is at =
    let none : Stand = record { place = 0; types = 0 } in
    let stand = is.stands number none (main_within ds g number is at) in
    ap (λ found. where_true (is_none found) faults.NoMain) (main_is ds number (ap (position (bytes_eq (codes "main"))) (sym is.names) ∙ at) stand.connector _ stand.is)

pub main_missing : (ds : List Declaration) (g : Ground) → IsGround ds g → position (bytes_eq (codes "main")) g.connectors ≡ None → no_main ds ≡ faults.NoMain ∷ []
main_missing ds g is none =
    ap (λ found. where_true (is_none found) faults.NoMain) (main_nowhere ds (ap (position (bytes_eq (codes "main"))) (sym is.names) ∙ none))
