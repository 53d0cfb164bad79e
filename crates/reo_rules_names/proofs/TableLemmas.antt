-- What tables by name say of connectors and of types.
use Rattle.std.proofs.Common.{◌≡◌, ◌∙◌, ℕ, ◌+◌, List, [], ◌∷◌, ◌++◌, map, Bool, true, false, cond, Some, find, refl, sym, ap, bytes_eq, length}
use Rattle.std.specs.Prelude.{unwrap_or}
use Rattle.std.specs.Option.{option_map, option_map_or}
use Rattle.std.proofs.lemmas.List.{length-append}
use Rattle.reo_values.specs.declared.kindred.Kindred.TheVariants as kinds
use Rattle.reo_trees.specs.declared.programs.Parameter.{Parameter}
use Rattle.reo_trees.specs.declared.programs.Connector.{Connector}
use Rattle.reo_rules.specs.Scopes.{connector_named, parameters_named}
use Rattle.reo_rules.specs.Types.{Typed, type_named, names_of}
use Rattle.reo_rules.specs.Lists.{has_name}
use Rattle.reo_rules.specs.Names.{with_name}
use Rattle.reo_rules_names.specs.declared.connectors.Connectors.{Connectors}
use Rattle.reo_rules_names.specs.Values.{value_at}
use Rattle.reo_rules_names.specs.Connectors.{AreConnectors}
use Rattle.reo_rules_names.proofs.ValueLemmas.{named_pushed, named_there, names_grown}

-- The parameters of the first connector of a name stand beside it.
pub parameters_named-is : (known : List Connector) (name : List ℕ) → parameters_named known name ≡ value_at [] (map (λ (c : Connector). c.name) known) (map (λ (c : Connector). c.parameters) known) name
parameters_named-is [] name = refl
parameters_named-is (c ∷ cs) name =
    elim (bytes_eq name c.name) as (λ b. option_map_or (λ (x : Connector). x.parameters) (cond b (Some c) (connector_named cs name)) [] ≡ cond b c.parameters (value_at [] (map (λ (x : Connector). x.name) cs) (map (λ (x : Connector). x.parameters) cs) name))
    [ true ↦ refl | false ↦ parameters_named-is cs name ]

-- So does the type of the first of a name.
pub type_named-is : (known : List Typed) (name : List ℕ) → type_named known name ≡ value_at kinds.Unit (names_of known) (map (λ (e : Typed). e.kindred) known) name
type_named-is [] name = refl
type_named-is (t ∷ ts) name =
    elim (bytes_eq name t.name) as (λ b. unwrap_or (option_map (λ (x : Typed). x.kindred) (cond b (Some t) (find (λ (x : Typed). bytes_eq name x.name) ts))) kinds.Unit ≡ cond b t.kindred (value_at kinds.Unit (names_of ts) (map (λ (x : Typed). x.kindred) ts) name))
    [ true ↦ refl | false ↦ type_named-is ts name ]

abbrev called : Connector → List ℕ
called c = c.name

abbrev takes : Connector → List Parameter
takes c = c.parameters

abbrev pub ways : List Parameter → List Bool
ways ps = map (λ (p : Parameter). p.inward) ps

abbrev HasWays : List Bool → List Parameter → Type 0
HasWays found ps = found ≡ ways ps

module _ (known : List Connector) (c : Connector) (t : Connectors) (are : AreConnectors known t) where
  before : (n : List ℕ) → HasWays (value_at [] t.names t.ways n) (value_at [] (map called known) (map takes known) n)
  before n = are.ways n ∙ ap ways (parameters_named-is known n)

  after : (n : List ℕ) → ways (value_at [] (map called (known ++ c ∷ [])) (map takes (known ++ c ∷ [])) n) ≡ ways (parameters_named (known ++ c ∷ []) n)
  after n = ap ways (sym (parameters_named-is (known ++ c ∷ []) n))

  -- A connector whose name is there already changes nothing.
  pub connector_there : (names : List (List ℕ)) → names ≡ with_name t.names c.name → has_name t.names c.name ≡ true → AreConnectors (known ++ c ∷ []) (record { names = names; ways = t.ways })
  connector_there names is there =
      let kept : names ≡ t.names = is ∙ ap (λ b. cond b t.names (t.names ++ c.name ∷ [])) there in
      record {
        names = λ n. ap (λ xs. has_name xs n) is ∙ names_grown called known c t.names are.names n;
        paired = ap length kept ∙ are.paired;
        ways = λ n. ap (λ xs. value_at [] xs t.ways n) kept ∙ named_there called takes [] [] HasWays refl known c t.names t.ways are.names there before n ∙ after n;
      }

  -- Another one stands at the end.
  pub connector_pushed : (names : List (List ℕ)) (more : List (List Bool)) → names ≡ with_name t.names c.name → has_name t.names c.name ≡ false → more ≡ t.ways ++ ways c.parameters ∷ [] → AreConnectors (known ++ c ∷ []) (record { names = names; ways = more })
  connector_pushed names more is other pushed =
      let put : names ≡ t.names ++ c.name ∷ [] = is ∙ ap (λ b. cond b t.names (t.names ++ c.name ∷ [])) other in
      record {
        names = λ n. ap (λ xs. has_name xs n) is ∙ names_grown called known c t.names are.names n;
        paired = ap length put ∙ length-append t.names (c.name ∷ []) ∙ ap (λ k. k + 1) are.paired ∙ sym (length-append t.ways (ways c.parameters ∷ [])) ∙ sym (ap length pushed);
        ways = λ n. (λ i. value_at [] (put i) (pushed i) n) ∙ named_pushed called takes [] [] HasWays refl known c t.names t.ways (ways c.parameters) are.paired are.names before refl n ∙ after n;
      }
