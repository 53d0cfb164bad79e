-- Programs that unfold to too much.
use Rattle.std.proofs.Common.{arith, ◌≡◌, ◌∙◌, ℕ, suc, ◌+◌, ◌<◌, ◌≤◌, ◌||◌, List, [], ◌∷◌, ◌++◌, Bool, true, false, cond, length, map, nat_lt, get_or, position, bytes_eq, codes, Some, inr, refl, sym, ap, subst}
use Rattle.std.specs.List.{flat_map}
use Rattle.std.proofs.lemmas.List.{length-append, length-map}
use Rattle.std.proofs.lemmas.Bool.{lt-ltb, le-ltb}
use Rattle.reo_net_base.specs.declared.joint.End.{End}
use Rattle.reo_trees.specs.declared.programs.Declaration.{Declaration}
use Rattle.reo_rules.specs.declared.fault.FlatFault.TheVariants as faults
use Rattle.reo_rules.specs.declared.fault.FlatFault.{FlatFault}
use Rattle.reo_rules.specs.Lists.{where_true, first_of}
use Rattle.reo_rules.specs.Judged.{IsFirst}
use Rattle.reo_rules.specs.Scopes.{connector_names, parameter_names}
use Rattle.reo_rules.specs.Types.{types_of}
use Rattle.reo_flat.specs.Counts.{IsSizesOf, AreSizes}
use Rattle.reo_unfold.proofs.Positions.{found_within}
use Rattle.reo_flatten.proofs.MainLemmas.{main_meaning}
use Rattle.reo_flat.specs.declared.sizes.Sizes.{Sizes}
use Rattle.reo_flat.specs.Unfolding.{Placed, Meaning, no_meaning, meaning_named, meanings_of}
use Rattle.reo_flat.specs.Joints.{is_many, end_range, pairs, givers, takers, joints_between, joints_of, many}
use Rattle.reo_flat.specs.Ends.{incoming, outgoing}
use Rattle.reo_flat.specs.Flat.{port_of, port_placed, ports_of, main_parameters, placed_of, primitives_of, own_kinds, nodes_of, joints_at}
use Rattle.reo_flat.specs.Sizes.{is_too_many, too_many}

by_first : (a b c : Bool) → a ≡ true → (a || b) || c ≡ true
by_first true b c is = refl
by_first false b c is = absurd (cc)

by_second : (a b c : Bool) → b ≡ true → (a || b) || c ≡ true
by_second true b c is = refl
by_second false true c is = refl
by_second false false c is = absurd (cc)

by_third : (a b c : Bool) → c ≡ true → (a || b) || c ≡ true
by_third true b c is = refl
by_third false true c is = refl
by_third false false c is = is

by_none : (a b c : Bool) → a ≡ false → b ≡ false → c ≡ false → (a || b) || c ≡ false
by_none a b c first second third = λ i. (first i || second i) || third i

module _ (ds : List Declaration) (m : Meaning) where
  pub many_uses : 65536 < m.uses → is_too_many ds m ≡ true
  many_uses h = by_second (nat_lt 4096 (length (primitives_of ds))) (nat_lt 65536 m.uses) (nat_lt 64 m.depth) (lt-ltb 65536 m.uses h)

  pub many_deep : 64 < m.depth → is_too_many ds m ≡ true
  many_deep h = by_third (nat_lt 4096 (length (primitives_of ds))) (nat_lt 65536 m.uses) (nat_lt 64 m.depth) (lt-ltb 64 m.depth h)

  pub many_primitives : 4096 < length (primitives_of ds) → is_too_many ds m ≡ true
  many_primitives h = by_first (nat_lt 4096 (length (primitives_of ds))) (nat_lt 65536 m.uses) (nat_lt 64 m.depth) (lt-ltb 4096 (length (primitives_of ds)) h)

  pub few_enough : length (primitives_of ds) ≤ 4096 → m.uses ≤ 65536 → m.depth ≤ 64 → is_too_many ds m ≡ false
  few_enough primitives uses depth =
      by_none (nat_lt 4096 (length (primitives_of ds))) (nat_lt 65536 m.uses) (nat_lt 64 m.depth) (le-ltb 4096 (length (primitives_of ds)) primitives) (le-ltb 65536 m.uses uses) (le-ltb 64 m.depth depth)

-- What is placed is among the primitives.
pub placed_within : (ds : List Declaration) → length (placed_of ds) ≤ length (primitives_of ds)
placed_within ds =
    let all = length-append (map (λ (p : Placed). p.kind) (placed_of ds)) (flat_map (own_kinds (placed_of ds)) (nodes_of ds)) in
    let same = length-map (placed_of ds) (λ (p : Placed). p.kind) in
    omega arith

pub placed_count : (ds : List Declaration) → ((path : List ℕ) (arguments : List (List ℕ)) → length ((meaning_named (meanings_of ds) (codes "main")).channels path arguments) ≡ (meaning_named (meanings_of ds) (codes "main")).placed) → length (placed_of ds) ≡ length (main_parameters ds) + (meaning_named (meanings_of ds) (codes "main")).placed
placed_count ds counts =
    let all = length-append (map port_placed (ports_of ds)) ((meaning_named (meanings_of ds) (codes "main")).channels [] (parameter_names (main_parameters ds))) in
    let ports = length-map (ports_of ds) port_placed in
    let parameters = length-map (main_parameters ds) (port_of (types_of ds)) in
    let channels = counts [] (parameter_names (main_parameters ds)) in
    omega arith

pub too_many_is : (ds : List Declaration) → is_too_many ds (meaning_named (meanings_of ds) (codes "main")) ≡ true → too_many ds ≡ faults.TooMany ∷ []
too_many_is ds is = ap (λ b. where_true b faults.TooMany) is

pub too_many_none : (ds : List Declaration) → is_too_many ds (meaning_named (meanings_of ds) (codes "main")) ≡ false → too_many ds ≡ []
too_many_none ds is = ap (λ b. where_true b faults.TooMany) is

pub first_too_many : (fs : List FlatFault) → fs ≡ faults.TooMany ∷ [] → IsFirst fs faults.TooMany
first_too_many fs is = inr (ap first_of is)

-- A node that has ends on both sides has a joint, so that there are no more nodes than joints.
pairs_some : (gs ts : List End) → 0 < length gs → 0 < length ts → 0 < length (pairs gs ts)
pairs_some [] ts g t = absurd (omega arith)
pairs_some (x ∷ gs) [] g t = absurd (omega arith)
pairs_some (x ∷ gs) (y ∷ ts) g t = omega arith

one_side : (b : Bool) (e : End) (es : List End) → 0 < length es → 0 < length (cond b (e ∷ []) es)
one_side true e es some = omega arith
one_side false e es some = some

middle : (ins outs : List End) (merger replicator : ℕ) → 0 < length ins → 0 < length outs → 0 < length (joints_between ins outs merger replicator)
middle ins outs merger replicator some_in some_out =
    let first = cond (is_many ins) (pairs ins (end_range merger 0 (length ins))) [] in
    let second = pairs (givers ins merger) (takers outs replicator) in
    let third = cond (is_many outs) (pairs (end_range replicator 1 (length outs)) outs) [] in
    let some = pairs_some (givers ins merger) (takers outs replicator) (one_side (is_many ins) _ ins some_in) (one_side (is_many outs) _ outs some_out) in
    let behind = length-append second third in
    let all = length-append first (second ++ third) in
    omega arith

pub nodes_within : (placed : List Placed) (names : List (List ℕ)) (at : ℕ) → ((k : ℕ) (d : List ℕ) → k < length names → (0 < length (incoming placed (get_or names k d))) × (0 < length (outgoing placed (get_or names k d)))) → length names ≤ length (joints_at placed at names)
nodes_within placed [] at served = omega arith
nodes_within placed (n ∷ ns) at served =
    let here = served 0 n (omega arith) in
    let some = middle (incoming placed n) (outgoing placed n) at (at + many (incoming placed n)) here.0 here.1 in
    let next = at + (many (incoming placed n) + many (outgoing placed n)) in
    let more = nodes_within placed ns next (λ k d within. served (suc k) d (omega arith)) in
    let all = length-append (joints_of (incoming placed n) (outgoing placed n) at) (joints_at placed next ns) in
    omega arith

-- The sizes of `main`.
pub main_sizes : (ds : List Declaration) (number : ℕ) (table : List Sizes) (names : List (List ℕ)) (s : Sizes) → AreSizes (meanings_of ds) names table → names ≡ connector_names ds → position (bytes_eq (codes "main")) names ≡ Some number → s ≡ get_or table number s → IsSizesOf (meaning_named (meanings_of ds) (codes "main")) s
main_sizes ds number table names s are names_are at is =
    let found = found_within (bytes_eq (codes "main")) names number at in
    let same = ap length are.names_are in
    let many = length-map (meanings_of ds) (λ (m : Meaning). m.name) in
    let within : number < length (meanings_of ds) = omega arith in
    subst (λ m. IsSizesOf m s) (sym (main_meaning ds number (ap (position (bytes_eq (codes "main"))) (sym names_are) ∙ at)))
    (subst (IsSizesOf (get_or (meanings_of ds) number no_meaning)) (sym is) (are.sizes number within no_meaning s))
