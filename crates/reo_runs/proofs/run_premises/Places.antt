-- Places that break no rule on ports.
use Rattle.std.proofs.Common.{◌≡◌, ◌∙◌, ℕ, Bool, true, false, not, cond, Option, Some, None, List, [], ◌∷◌, refl, sym, ap}
use Rattle.std.specs.Prelude.{is_none, is_some, slice_get, option_and_then}
use Rattle.std.specs.Option.{option_map_or}
use Rattle.std.specs.List.{AllByRecursion, flat_map}
use Rattle.reo_values.specs.declared.value.Value.{Value}
use Rattle.reo_values.specs.declared.kindred.Kindred.{Kindred}
use Rattle.reo_values.specs.Kind.{is_item}
use Rattle.reo_values.proofs.Sequences.{left_none}
use Rattle.reo_exprs.proofs.Options.{some_same, from_and_then}
use Rattle.reo_net_base.specs.declared.port.Port.{Port}
use Rattle.reo_net_base.specs.declared.port.Way.{Way}
use Rattle.reo_net_base.specs.declared.port.Way.TheVariants.{In, Out}
use Rattle.reo_trees.specs.declared.literals.Literal.{Literal}
use Rattle.reo_rules.specs.literals.Items.{item_of, value_of}
use Rattle.reo_rules.proofs.AfterLemmas.{right_none, where_false}
use Rattle.reo_flat.proofs.flatten_laws.RightKinds.{some_of}
use Rattle.reo_script.specs.scripts.ScriptRules.{Naming, same, goes_in, port_number, port_named, item_at, no_port, wrong_way, outside, goes_wrong, the_number, the_item}
use Rattle.reo_players.specs.Written.Task.{writes, takes}
use Rattle.reo_runs.specs.run_premises.Fitting.{FitsPorts}

-- The place breaks no rule on ports.
pub record IsKept (ports : List Port) (n : Naming) : Type 0 where
  pub known : no_port ports n ≡ []
  pub way : wrong_way ports n ≡ []
  pub item : outside ports n ≡ []

-- So it is with each, where there is no break at all.
pub all_kept : (ports : List Port) (ns : List Naming) → flat_map (no_port ports) ns ≡ [] → flat_map (wrong_way ports) ns ≡ [] → flat_map (outside ports) ns ≡ [] → AllByRecursion (IsKept ports) ns
all_kept ports [] known ways items = tt
all_kept ports (n ∷ ns) known ways items = (
  record { known = left_none (no_port ports n) _ known; way = left_none (wrong_way ports n) _ ways; item = left_none (outside ports n) _ items },
  all_kept ports ns (right_none (no_port ports n) _ known) (right_none (wrong_way ports n) _ ways) (right_none (outside ports n) _ items),
)

-- The port of a name, by its number.
pub record HasPort (ports : List Port) (name : List ℕ) : Type 0 where
  pub number : ℕ
  pub port : Port
  pub numbered : port_number ports name ≡ Some number
  pub at : slice_get ports number ≡ Some port
  pub named : port_named ports name ≡ Some port

pub has_port : (ports : List Port) (n : Naming) → IsKept ports n → HasPort ports n.port
has_port ports n kept =
    let there = some_of (port_named ports n.port) (where_false _ _ kept.known) in
    let found = from_and_then (slice_get ports) (port_number ports n.port) there.0 there.1 in
    record { number = found.0; port = there.0; numbered = found.1; at = found.2; named = there.1 }

-- The port at the number that is scripted.
port_at : (ports : List Port) (name : List ℕ) (has : HasPort ports name) → slice_get ports (the_number ports (port_number ports name)) ≡ Some has.port
port_at ports name has = ap (λ o. slice_get ports (the_number ports o)) has.numbered ∙ has.at

way_at : (ports : List Port) (n : Naming) (has : HasPort ports n.port) → wrong_way ports n ≡ [] → not (same (goes_in has.port.way) (is_some n.literal)) ≡ false
way_at ports n has none =
    ap (λ o. option_map_or (λ (p : Port). not (same (goes_in p.way) (is_some n.literal))) o false) (sym has.named) ∙ where_false (goes_wrong ports n) _ none

goes_inward : (w : Way) → not (same (goes_in w) true) ≡ false → w ≡ In
goes_inward In right = refl
goes_inward Out right = absurd (cc)

goes_outward : (w : Way) → not (same (goes_in w) false) ≡ false → w ≡ Out
goes_outward In right = absurd (cc)
goes_outward Out right = refl

tested : (b : Bool) (x y : Value) → cond b (Some x) None ≡ Some y → (b ≡ true) × (x ≡ y)
tested true x y is = (refl, some_same x y is)
tested false x y is = absurd (cc)

-- The item that a literal is at a type is an item of it.
of_its_type : (k : Kindred) (l : Literal) (v : Value) → item_of k l ≡ Some v → is_item v k ≡ true
of_its_type k l v is =
    let found = from_and_then (λ w. cond (is_item w k) (Some w) None) (value_of l.constant k) v is in
    let test = tested (is_item found.0 k) found.0 v found.2 in
    ap (λ w. is_item w k) (sym test.1) ∙ test.0

item_fits : (ports : List Port) (name : List ℕ) (l : Literal) (has : HasPort ports name) → is_none (item_at ports name l) ≡ false → is_item (the_item (item_at ports name l)) has.port.kindred ≡ true
item_fits ports name l has some =
    let found = some_of (item_at ports name l) some in
    let same_item = ap (option_and_then (λ (p : Port). item_of p.kindred l)) (sym has.named) ∙ found.1 in
    ap (λ o. is_item (the_item o) has.port.kindred) found.1 ∙ of_its_type has.port.kindred l found.0 same_item

-- What is scripted of such a place fits the ports.
pub fits_write : (ports : List Port) (line : ℕ) (name : List ℕ) (l : Literal) (within : Option ℕ) → IsKept ports (record { line = line; port = name; literal = Some l })
    → FitsPorts ports (writes (the_number ports (port_number ports name)) (the_item (item_at ports name l)) within)
fits_write ports line name l within kept =
    let n : Naming = record { line = line; port = name; literal = Some l } in
    let has = has_port ports n kept in
    (has.port, port_at ports name has, goes_inward has.port.way (way_at ports n has kept.way), item_fits ports name l has (where_false _ _ kept.item))

pub fits_take : (ports : List Port) (line : ℕ) (name : List ℕ) (within : Option ℕ) → IsKept ports (record { line = line; port = name; literal = None })
    → FitsPorts ports (takes (the_number ports (port_number ports name)) within)
fits_take ports line name within kept =
    let n : Naming = record { line = line; port = name; literal = None } in
    let has = has_port ports n kept in
    (has.port, port_at ports name has, goes_outward has.port.way (way_at ports n has kept.way))
