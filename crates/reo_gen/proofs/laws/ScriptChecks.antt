-- A made script breaks no rule on the ports of its circuit.
use Rattle.std.proofs.Common.{◌≡◌, ℕ, zero, suc, ◌+◌, ◌≤◌, ◌<◌, Bool, true, false, ◌&&◌, not, cond, Some, None, pos, List, [], ◌∷◌, ◌++◌, length, map, refl, ◌∙◌, ap, subst, append-nil, arith, nat_le, nat_lt, codes, inl, inr}
use Rattle.std.specs.Prelude.{bytes_eq, slice_get, option_and_then, is_none}
use Rattle.std.specs.Option.{option_map_or}
use Rattle.std.specs.List.{flat_map, range_with_len, prefix_len}
use Rattle.std.specs.Int.Signed.{le_z}
use Rattle.std.proofs.lemmas.Bool.Decides.{nat_tests}
use Rattle.std.proofs.lemmas.Grind.{flat_map-append}
use Rattle.std.proofs.lemmas.List.{map-append}
use denote.Hole.Carrier.{hidden}
use Rattle.reo_values.specs.declared.kindred.Kindred.{Kindred}
use Rattle.reo_values.specs.declared.kindred.Kindred.TheVariants as kinds
use Rattle.reo_net_base.specs.declared.port.Port.{Port}
use Rattle.reo_net_base.specs.declared.port.Way.TheVariants.{In, Out}
use Rattle.reo_values.specs.declared.value.Value.TheVariants as values
use Rattle.reo_rules.specs.literals.Items.{item_of}
use Rattle.reo_trees.specs.declared.literals.Constant.TheVariants as constants
use Rattle.reo_rules.specs.Lists.{where_true, has_name}
use Rattle.reo_flat.specs.Flat.{ports_of}
use Rattle.reo_script.specs.declared.scripts.fault.ScriptFault.{ScriptFault}
use Rattle.reo_script.specs.declared.scripts.fault.ScriptFault.TheVariants as faults
use Rattle.reo_script.specs.declared.scripts.forms.ActionForm.TheBlock.{hidden-the_row-ActionForm-0}
use Rattle.reo_script.specs.declared.scripts.forms.ComponentForm.{ComponentForm}
use Rattle.reo_script.specs.scripts.ScriptRules.{Naming, namings, namings_in, port_named, no_port, wrong_way, outside, shared, shared_in, ports_in, same, goes_in, breaks}
use Rattle.reo_gen.specs.Names.{output}
use Rattle.reo_gen.proofs.laws.Written.{Lines, made_by}
use Rattle.reo_gen.proofs.laws.Trees.{output_by, Places, declarations_of}
use Rattle.reo_gen.proofs.laws.NameTests.{other-outputs, or-neither, has-neither, has-none}
use Rattle.reo_gen.proofs.laws.Passes.{both-none, pass-none, after-none, made-map, made-flat}
use Rattle.reo_gen.proofs.laws.ScriptTexts.{write_by, writer_by, taker_by, components_by}
use Rattle.std.proofs.Math.Nat.{eq-or-lt_of_le}
use Rattle.reo_values.proofs.Sequences.{bytes_same}

abbrev pub item_type : Kindred
item_type = kinds.Int (pos 0) (pos 999)

-- The ports of a made circuit.
abbrev pub in_port : Port
in_port = record { name = codes "i"; way = In; kindred = item_type }

abbrev pub out_port : ℕ → Port
out_port j = record { name = output j; way = Out; kindred = item_type }

abbrev pub made_ports : ℕ → List Port
made_ports n = in_port ∷ map out_port (range_with_len 0 (n + 1))

pub ports-are : (n : ℕ) (at : Places) → ports_of (declarations_of n at) ≡ made_ports n
ports-are n at = ap (λ l. in_port ∷ l) (made-map _ output_by out_port 0 (n + 1) (λ j. at.main_parameters (suc j)) (λ j l. refl))

-- The port of a name: the first, or one of the others.
port-first : (p : Port) (ps : List Port) (name : List ℕ) → bytes_eq name p.name ≡ true → port_named (p ∷ ps) name ≡ Some p
port-first p ps name h = step (bytes_eq name p.name) (prefix_len (λ x. not (bytes_eq name x)) (map (λ (q : Port). q.name) ps)) h
  where
    step : (b : Bool) (l : ℕ) → b ≡ true → option_and_then (slice_get (p ∷ ps)) (cond (nat_lt (cond (not b) (1 + l) 0) (suc (length (map (λ (q : Port). q.name) ps)))) (Some (cond (not b) (1 + l) 0)) None) ≡ Some p
    step true l h = let z : nat_lt 0 (suc (length (map (λ (q : Port). q.name) ps))) ≡ true = grind (arith, nat_tests) in ap (λ t. option_and_then (slice_get (p ∷ ps)) (cond t (Some 0) None)) z
    step false l h = absurd (cc)

port-other : (p : Port) (ps : List Port) (name : List ℕ) → bytes_eq name p.name ≡ false → port_named (p ∷ ps) name ≡ port_named ps name
port-other p ps name h = step (bytes_eq name p.name) (prefix_len (λ x. not (bytes_eq name x)) (map (λ (q : Port). q.name) ps)) (length (map (λ (q : Port). q.name) ps)) h
  where
    less : (l m : ℕ) → nat_lt (1 + l) (suc m) ≡ nat_lt l m
    less l m = grind (arith, nat_tests)

    step : (b : Bool) (l m : ℕ) → b ≡ false → option_and_then (slice_get (p ∷ ps)) (cond (nat_lt (cond (not b) (1 + l) 0) (suc m)) (Some (cond (not b) (1 + l) 0)) None) ≡ option_and_then (slice_get ps) (cond (nat_lt l m) (Some l) None)
    step true l m h = absurd (cc)
    step false l m h = ap (λ t. option_and_then (slice_get (p ∷ ps)) (cond t (Some (1 + l)) None)) (less l m) ∙ last (nat_lt l m)
      where
        last : (t : Bool) → option_and_then (slice_get (p ∷ ps)) (cond t (Some (1 + l)) None) ≡ option_and_then (slice_get ps) (cond t (Some l) None)
        last true = let one : 1 + l ≡ suc l = omega arith in ap (λ k. slice_get (p ∷ ps) k) one
        last false = refl

in-named : (n : ℕ) → port_named (made_ports n) (codes "i") ≡ Some in_port
in-named n = port-first in_port (map out_port (range_with_len 0 (n + 1))) (codes "i") refl

out-among : (a n j : ℕ) → a + n ≤ 300 → a ≤ j → j < a + n → port_named (map out_port (range_with_len a n)) (output j) ≡ Some (out_port j)
out-among a zero j few l u = absurd (omega arith)
out-among a (suc n) j few l u =
    elim (eq-or-lt_of_le l) [
      | inl e ↦ subst (λ k. port_named (map out_port (range_with_len a (suc n))) (output k) ≡ Some (out_port k)) e (port-first (out_port a) (map out_port (range_with_len (a + 1) n)) (output a) (bytes_same (output a)))
      | inr k ↦ port-other (out_port a) (map out_port (range_with_len (a + 1) n)) (output j) (other-outputs j a (omega arith) (omega arith) (λ e. omega arith)) ∙ out-among (a + 1) n j (omega arith) (omega arith) (omega arith)
    ]

out-named : (n j : ℕ) → n ≤ 256 → j < n + 1 → port_named (made_ports n) (output j) ≡ Some (out_port j)
out-named n j few u = port-other in_port (map out_port (range_with_len 0 (n + 1))) (output j) refl ∙ out-among 0 (n + 1) j (omega arith) (omega arith) (omega arith)

-- The one place in a component that takes.
taker-naming : (j : ℕ) (l : Lines) → namings_in (taker_by j l) ≡ record { line = l.0; port = output j; literal = None } ∷ []
unfolding hidden-the_row-ActionForm-0 hidden
taker-naming j l = refl

flat-flat : {X Y Z : Type 0} (f : Y → List Z) (g : X → List Y) (xs : List X) → flat_map f (flat_map g xs) ≡ flat_map (λ x. flat_map f (g x)) xs
flat-flat f g [] = refl
flat-flat f g (x ∷ xs) = flat_map-append f (g x) (flat_map g xs) ∙ ap (λ l. flat_map f (g x) ++ l) (flat-flat f g xs)

map-flat : {X Y Z : Type 0} (f : Y → Z) (g : X → List Y) (xs : List X) → map f (flat_map g xs) ≡ flat_map (λ x. map f (g x)) xs
map-flat f g [] = refl
map-flat f g (x ∷ xs) = map-append f (g x) (flat_map g xs) ∙ ap (λ l. map f (g x) ++ l) (map-flat f g xs)

abbrev write-naming : ℕ → Lines → Naming
write-naming k l = record { line = l.0; port = codes "i"; literal = Some (record { line = l.1; constant = constants.Int (pos k) }) }

abbrev take-naming : ℕ → Lines → Naming
take-naming j l = record { line = l.0; port = output j; literal = None }

-- What breaks at none of the places breaks nowhere.
all-none : (n : ℕ) (at below : ℕ → Lines) (f : Naming → List ScriptFault) → ((k : ℕ) (l : Lines) → k < 20 → f (write-naming k l) ≡ []) → ((j : ℕ) (l : Lines) → j < n + 1 → f (take-naming j l) ≡ [])
    → flat_map f (flat_map namings_in (components_by n at below)) ≡ []
all-none n at below f h k =
    let writes = made_by (map write_by (range_with_len 0 20)) at in
    let takers = made_by (map taker_by (range_with_len 0 (n + 1))) below in
    flat-flat f namings_in (components_by n at below)
    ∙ both-none (flat_map f (namings_in (writer_by at))) (flat_map (λ c. flat_map f (namings_in c)) takers)
    (flat-flat f namings writes ∙ pass-none (λ a. flat_map f (namings a)) write_by 0 20 at (λ j l i u. ap (λ t. t ++ []) (h j l u)))
    (pass-none (λ c. flat_map f (namings_in c)) taker_by 0 (n + 1) below (λ j l i u. ap (flat_map f) (taker-naming j l) ∙ ap (λ t. t ++ []) (k j l (omega arith))))

ports-known : (n : ℕ) (at below : ℕ → Lines) → n ≤ 256 → flat_map (no_port (made_ports n)) (flat_map namings_in (components_by n at below)) ≡ []
ports-known n at below few =
    all-none n at below (no_port (made_ports n)) (λ k l u i. where_true (is_none (in-named n i)) (faults.NoPort l.0 (codes "i"))) (λ j l u i. where_true (is_none (out-named n j few u i)) (faults.NoPort l.0 (output j)))

ways-right : (n : ℕ) (at below : ℕ → Lines) → n ≤ 256 → flat_map (wrong_way (made_ports n)) (flat_map namings_in (components_by n at below)) ≡ []
ways-right n at below few =
    all-none n at below (wrong_way (made_ports n)) (λ k l u i. where_true (option_map_or (λ (p : Port). not (same (goes_in p.way) true)) (in-named n i) false) (faults.WrongWay l.0 (codes "i")))
    (λ j l u i. where_true (option_map_or (λ (p : Port). not (same (goes_in p.way) false)) (out-named n j few u i) false) (faults.WrongWay l.0 (output j)))

within-type : (k : ℕ) → k < 20 → (le_z (pos 0) (pos k) && le_z (pos k) (pos 999)) ≡ true
within-type k h = let a : nat_le 0 k ≡ true = grind (arith, nat_tests) in let b : nat_le k 999 ≡ true = grind (arith, nat_tests) in λ i. a i && b i

items-inside : (n : ℕ) (at below : ℕ → Lines) → flat_map (outside (made_ports n)) (flat_map namings_in (components_by n at below)) ≡ []
items-inside n at below =
    all-none n at below (outside (made_ports n))
    (λ k l u. (λ i. where_true (is_none (option_and_then (λ (p : Port). item_of p.kindred (record { line = l.1; constant = constants.Int (pos k) })) (in-named n i))) (faults.ItemOutside l.0))
    ∙ (λ i. where_true (is_none (cond (within-type k u i) (Some (values.Int (pos k))) None)) (faults.ItemOutside l.0)))
    (λ j l u. refl)

-- No output is named before its own component.
NamesNone : ℕ → List ComponentForm → Type 0
NamesNone j cs = (k : ℕ) → j ≤ k → k ≤ 300 → has_name (ports_in cs) (output k) ≡ false

writer-none : (at : ℕ → Lines) → NamesNone 0 (writer_by at ∷ [])
unfolding NamesNone
writer-none at k l u =
    let writes = made_by (map write_by (range_with_len 0 20)) at in
    ap (λ ns. has_name ns (output k))
    (ap (map (λ (m : Naming). m.port)) (append-nil (flat_map namings writes)) ∙ map-flat (λ (m : Naming). m.port) namings writes
    ∙ made-flat (λ a. map (λ (m : Naming). m.port) (namings a)) write_by (λ j. codes "i") 0 20 at (λ j l. refl))
    ∙ has-none (λ j. codes "i") 0 20 (output k) (λ j i v. refl)

taker-none : (j : ℕ) (b : List ComponentForm) (l : Lines) → NamesNone j b → NamesNone (j + 1) (b ++ taker_by j l ∷ [])
unfolding NamesNone
taker-none j b l h k i u =
    ap (λ ns. has_name ns (output k))
    (ap (map (λ (m : Naming). m.port)) (flat_map-append namings_in b (taker_by j l ∷ []) ∙ ap (λ t. flat_map namings_in b ++ (t ++ [])) (taker-naming j l))
    ∙ map-append (λ (m : Naming). m.port) (flat_map namings_in b) (take-naming j l ∷ []))
    ∙ has-neither (ports_in b) (output j ∷ []) (output k) (h k (omega arith) u) (or-neither _ _ (other-outputs k j (omega arith) (omega arith) (λ e. omega arith)) refl)

none-shared : (n : ℕ) (at below : ℕ → Lines) → n ≤ 256 → shared (components_by n at below) ≡ []
unfolding NamesNone
none-shared n at below few =
    let writes = made_by (map write_by (range_with_len 0 20)) at in
    both-none (flat_map (shared_in []) (namings_in (writer_by at))) _
    (flat-flat (shared_in []) namings writes ∙ pass-none (λ a. flat_map (shared_in []) (namings a)) write_by 0 20 at (λ j l i u. refl))
    (after-none (λ before c. flat_map (shared_in (ports_in before)) (namings_in c)) taker_by NamesNone 0 (n + 1) below (writer_by at ∷ []) (writer-none at)
    (λ j b l i u q. ap (flat_map (shared_in (ports_in b))) (taker-naming j l) ∙ (λ t. where_true (q j (omega arith) (omega arith) t) (faults.Shared l.0 (output j)) ++ []))
    (λ j b l i u q. taker-none j b l q))

pub script-holds : (n : ℕ) (at below : ℕ → Lines) → n ≤ 256 → breaks (made_ports n) (components_by n at below) ≡ []
script-holds n at below few = both-none _ _ (ports-known n at below few) (both-none _ _ (ways-right n at below few) (both-none _ _ (items-inside n at below) (none-shared n at below few)))
