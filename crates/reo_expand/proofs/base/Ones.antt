-- The steps of lifted programs: one for each item.
use Rattle.std.proofs.Common.{arith, ◌≡◌, ◌∙◌, ℕ, zero, suc, ◌+◌, ◌≤◌, Bool, true, false, cond, ◌&&◌, nat_lt, Option, None, is_some, Result, Ok, Err, List, [], ◌∷◌, ◌++◌, map, length, length-append, refl, ap, sym}
use Rattle.std.proofs.lemmas.Bool.Decides.{nat_tests}
use Rattle.std.specs.Prelude.{flat_map, bytes_eq}
use Rattle.std.specs.List.{list_all}
use Rattle.reo_trees.specs.declared.items.Item.{Item}
use Rattle.reo_trees.specs.declared.items.ItemForm.{ItemForm}
use Rattle.reo_trees.specs.declared.items.ItemForm.TheVariants as plain
use Rattle.reo_trees.specs.declared.programs.Connector.{Connector}
use Rattle.reo_trees.specs.declared.programs.Declaration.{Declaration}
use Rattle.reo_trees.specs.declared.programs.Declaration.TheVariants as declarations
use Rattle.reo_trees.specs.declared.programs_two.ConnectorTwo.{ConnectorTwo}
use Rattle.reo_expand.specs.declared.base.fault.ExpandFault.{ExpandFault}
use Rattle.reo_expand.specs.declared.base.fault.ExpandFault.TheVariants as faults
use Rattle.reo_expand.specs.base.Expansion.{connectors_of}
use Rattle.reo_expand.specs.base.Steps.{Step, steps_of, steps_in, steps_from, ref_steps, of_name, none_fits, two_in, walked, refused_where}
use Rattle.reo_expand.specs.base.Steps.Step.{counted}
use Rattle.reo_expand.specs.base.Lifted.{lifted_ref, lifted_form, lifted_item, lifted_connector, lifted_declaration}

-- So many steps, each of which counts one.
abbrev pub ones : ℕ → List Step
ones zero = []
ones (suc n) = counted 1 ∷ ones n

ones-add : (a b : ℕ) → ones a ++ ones b ≡ ones (a + b)
ones-add zero b = let e : b ≡ 0 + b = omega arith in ap ones e
ones-add (suc a) b = let e : suc (a + b) ≡ suc a + b = omega arith in ap (λ l. counted 1 ∷ l) (ones-add a b) ∙ ap ones e

-- No connector has a number.
abbrev pub ArePlain : List ConnectorTwo → Type 0
ArePlain [] = Unit {0}
ArePlain (c ∷ cs) = (c.number ≡ None) × ArePlain cs

plain-more : (cs : List ConnectorTwo) (d : Declaration) → ArePlain cs → ArePlain (cs ++ two_in (lifted_declaration d))
plain-more [] (declarations.Named line name term) h = tt
plain-more [] (declarations.Made c) h = (refl, tt)
plain-more (x ∷ cs) d h = (h.0, plain-more cs d h.1)

-- So a use without one fits.
abbrev named-by : List ℕ → ConnectorTwo → Bool
named-by name c = bytes_eq name c.name

plain-kept : (cs : List ConnectorTwo) (name : List ℕ) → ArePlain cs → ArePlain (of_name cs name)
plain-kept [] name h = tt
plain-kept (c ∷ cs) name h = elim (named-by name c) as (λ b. ArePlain (cond b (c ∷ of_name cs name) (of_name cs name))) [
  | true ↦ (h.0, plain-kept cs name h.1)
  | false ↦ plain-kept cs name h.1
]

fits-plain : (cs : List ConnectorTwo) → ArePlain cs → none_fits None cs ≡ false
fits-plain [] h = refl
fits-plain (c ∷ cs) h = ap (λ (o : Option (List ℕ)). is_some o && list_all (λ (x : ConnectorTwo). is_some x.number) cs) h.0

no-refs : (line : ℕ) (names : List (List ℕ)) → flat_map (ref_steps [] line) (map lifted_ref names) ≡ []
no-refs line [] = refl
no-refs line (n ∷ ns) = no-refs line ns

form-steps : (before : List ConnectorTwo) (line : ℕ) (f : ItemForm) → ArePlain before → steps_of before [] line (lifted_form f) ≡ ones 1
form-steps before line (plain.Node name term) h = refl
form-steps before line (plain.Joined channel first second) h = refl
form-steps before line (plain.Used name arguments) h =
    ap (λ l. l ++ (refused_where (none_fits None (of_name before name)) (faults.Number line) ++ ones 1)) (no-refs line arguments)
    ∙ ap (λ b. refused_where b (faults.Number line) ++ ones 1) (fits-plain (of_name before name) (plain-kept before name h))

item-steps : (before : List ConnectorTwo) (items : List Item) → ArePlain before → steps_in before [] (map lifted_item items) ≡ ones (length items)
item-steps before [] h = refl
item-steps before (i ∷ is) h =
    ap (λ l. l ++ steps_in before [] (map lifted_item is)) (form-steps before i.line i.form h) ∙ ap (λ l. counted 1 ∷ l) (item-steps before is h)

append-none : {A : Type 0} (xs : List A) → xs ++ [] ≡ xs
append-none [] = refl
append-none (x ∷ xs) = ap (λ l. x ∷ l) (append-none xs)

abbrev count-in : List Declaration → ℕ
count-in ds = length (flat_map (λ (c : Connector). c.items) (connectors_of ds))

pub steps-lifted : (before : List ConnectorTwo) (ds : List Declaration) → ArePlain before → steps_from before (map lifted_declaration ds) ≡ ones (count-in ds)
steps-lifted before [] h = refl
steps-lifted before (declarations.Named line name term ∷ ds) h =
    append-none (steps_from (before ++ []) (map lifted_declaration ds)) ∙ steps-lifted (before ++ []) ds (plain-more before (declarations.Named line name term) h)
steps-lifted before (declarations.Made c ∷ ds) h =
    ap (λ l. l ++ (steps_in before [] (map lifted_item c.items) ++ [])) (steps-lifted (before ++ lifted_connector c ∷ []) ds (plain-more before (declarations.Made c) h))
    ∙ ap (λ l. ones (count-in ds) ++ l) (append-none (steps_in before [] (map lifted_item c.items)) ∙ item-steps before c.items h)
    ∙ ones-add (count-in ds) (length c.items) ∙ (let e : count-in ds + length c.items ≡ length (c.items ++ flat_map (λ (c : Connector). c.items) (connectors_of ds)) = omega (arith, length-append c.items (flat_map (λ (c : Connector). c.items) (connectors_of ds))) in ap ones e)

abbrev pub ended : ℕ → Result ℕ ExpandFault
ended n = cond (nat_lt 65536 n) (Err faults.TooMany) (Ok n)

stop-at : (b : Bool) (n k : ℕ) → nat_lt 65536 (n + 1) ≡ b → ((n + 1 ≤ 65536) → walked (n + 1) (ones k) ≡ ended ((n + 1) + k)) → cond b (Err faults.TooMany) (walked (n + 1) (ones k)) ≡ ended (n + suc k)
stop-at true n k h i = let e : nat_lt 65536 (n + suc k) ≡ true = grind (arith, nat_tests) in ap (λ b. cond b (Err faults.TooMany) (Ok (n + suc k))) (sym e)
stop-at false n k h i = let e : (n + 1) + k ≡ n + suc k = omega arith in i (grind (arith, nat_tests)) ∙ ap ended e

pub walked-ones : (n k : ℕ) → n ≤ 65536 → walked n (ones k) ≡ ended (n + k)
walked-ones n zero h =
    let e : nat_lt 65536 (n + 0) ≡ false = grind (arith, nat_tests) in
    let z : n ≡ n + 0 = omega arith in
    ap Ok z ∙ ap (λ b. cond b (Err faults.TooMany) (Ok (n + 0))) (sym e)
walked-ones n (suc k) h = stop-at (nat_lt 65536 (n + 1)) n k refl (λ m. walked-ones (n + 1) k m)
