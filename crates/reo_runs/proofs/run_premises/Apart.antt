-- A port that is named in a written-out list is named in its component.
use Rattle.std.proofs.Common.{◌≡◌, ◌∙◌, ℕ, zero, suc, Bool, true, false, ◌||◌, ◌==◌, Option, Some, None, List, [], ◌∷◌, get_or, map, bytes_eq, refl, sym, ap}
use Rattle.std.specs.Option.{option_map_or}
use Rattle.std.specs.List.{AllByRecursion, flat_map, list_any}
use Rattle.std.proofs.lemmas.Bool.{eqb-true}
use Rattle.std.proofs.lemmas.List.Quantifiers.{position-Some}
use Rattle.std.proofs.lemmas.Slice.Eq.{bytes_eq-Decides}
use Rattle.reo_net_base.specs.declared.port.Port.{Port}
use Rattle.reo_rules.specs.Lists.{has_name}
use Rattle.reo_script.specs.declared.scripts.forms.ComponentForm.{ComponentForm}
use Rattle.reo_script.specs.scripts.ScriptRules.{Naming, namings_in, port_number, the_number, component_for}
use Rattle.reo_players.specs.Written.{Task, written_out}
use Rattle.reo_players.specs.Players.{port_of}
use Rattle.reo_runs.specs.run_premises.Fitting.{names, names_in}
use Rattle.reo_runs.proofs.run_premises.Each.{left, right}
use Rattle.reo_runs.proofs.run_premises.Places.{IsKept, has_port}
use Rattle.reo_runs.proofs.run_premises.WrittenOut.{of_component}
use Rattle.reo_runs.proofs.run_premises.Sharing.{in_second, named_by, names_at}

-- Names of one number are one name.
pub same_name : (ports : List Port) (one other : List ℕ) (k : ℕ) → port_number ports one ≡ Some k → port_number ports other ≡ Some k → one ≡ other
same_name ports one other k first second =
    let all = map (λ (p : Port). p.name) ports in
    let here = position-Some (bytes_eq one) all k [] first in
    let there = position-Some (bytes_eq other) all k [] second in
    (bytes_eq-Decides one (get_or all k [])).0 here.1 ∙ sym ((bytes_eq-Decides other (get_or all k [])).0 there.1)

-- One of these names has the number.
pub record IsNamed (ports : List Port) (among : List (List ℕ)) (k : ℕ) : Type 0 where
  pub name : List ℕ
  pub there : has_name among name ≡ true
  pub numbered : port_number ports name ≡ Some k

-- The place breaks no rule, and its port is one of these.
record IsPlace (ports : List Port) (among : List (List ℕ)) (n : Naming) : Type 0 where
  kept : IsKept ports n
  there : has_name among n.port ≡ true

-- The port of a task has one of these names.
abbrev NamesOne : List Port → List (List ℕ) → Task → Type 0
NamesOne ports among t = (k : ℕ) → port_of t ≡ Some k → IsNamed ports among k

of_place : (ports : List Port) (among : List (List ℕ)) (n : Naming) → IsPlace ports among n → (k : ℕ) → Some (the_number ports (port_number ports n.port)) ≡ Some k → IsNamed ports among k
of_place ports among n place k is =
    let has = has_port ports n place.kept in
    let number = ap (λ o. option_map_or (λ m. m) o 0) is in
    record { name = n.port; there = place.there; numbered = has.numbered ∙ ap (λ m. Some m) (sym (ap (the_number ports) has.numbered) ∙ number) }

weaker : (ports : List Port) (x : List ℕ) (among : List (List ℕ)) (ns : List Naming) → AllByRecursion (IsPlace ports among) ns → AllByRecursion (IsPlace ports (x ∷ among)) ns
weaker ports x among [] all = tt
weaker ports x among (n ∷ ns) all = (record { kept = all.0.kept; there = in_second (bytes_eq n.port x) _ all.0.there }, weaker ports x among ns all.1)

-- The places of a component, among the names that it names.
places : (ports : List Port) (ns : List Naming) → AllByRecursion (IsKept ports) ns → AllByRecursion (IsPlace ports (map (λ (n : Naming). n.port) ns)) ns
places ports [] all = tt
places ports (n ∷ ns) all = (
  record { kept = all.0; there = ap (λ a. a || has_name (map (λ (m : Naming). m.port) ns) n.port) ((bytes_eq-Decides n.port n.port).1 refl) },
  weaker ports n.port (map (λ (m : Naming). m.port) ns) ns (places ports ns all.1),
)

-- A test that names a port is true only of its number.
its_number : (k : ℕ) (o : Option ℕ) → option_map_or (λ n. n == k) o false ≡ true → o ≡ Some k
its_number k None is = absurd (cc)
its_number k (Some n) is = ap (λ m. Some m) (eqb-true n k is)

-- A list with a task that names the number.
someone : (ports : List Port) (among : List (List ℕ)) (k : ℕ) (ts : List Task) → AllByRecursion (NamesOne ports among) ts → list_any (names k) ts ≡ true → IsNamed ports among k
someone ports among k [] all is = absurd (cc)
someone ports among k (t ∷ ts) all is = step (names k t) refl is (someone ports among k ts all.1) where
  step : (b : Bool) → names k t ≡ b → (b || list_any (names k) ts) ≡ true → (list_any (names k) ts ≡ true → IsNamed ports among k) → IsNamed ports among k
  step true here any later = all.0 k (its_number k (port_of t) here)
  step false here any later = later any

-- The written-out list of a component names ports by its names.
of_one : (ports : List Port) (c : ComponentForm) → AllByRecursion (IsKept ports) (namings_in c) → AllByRecursion (NamesOne ports (named_by c)) (written_out (component_for ports c))
of_one ports c kept =
    of_component ports (IsPlace ports (named_by c)) (NamesOne ports (named_by c))
    (λ line name l within place. of_place ports (named_by c) (record { line = line; port = name; literal = Some l }) place)
    (λ line name within place. of_place ports (named_by c) (record { line = line; port = name; literal = None }) place) (λ rounds k is. absurd (cc)) c
    (places ports (namings_in c) kept)

-- A port that the written-out list of a number names is named in the component of this number.
pub named_in : (ports : List Port) (cs : List ComponentForm) → AllByRecursion (IsKept ports) (flat_map namings_in cs) → (k i : ℕ) → names_in (map written_out (map (component_for ports) cs)) k i ≡ true → IsNamed ports (names_at cs i) k
named_in ports [] kept k i is = absurd (cc)
named_in ports (c ∷ cs) kept k zero is = someone ports (named_by c) k (written_out (component_for ports c)) (of_one ports c (left (IsKept ports) (namings_in c) (flat_map namings_in cs) kept)) is
named_in ports (c ∷ cs) kept k (suc i) is = named_in ports cs (right (IsKept ports) (namings_in c) (flat_map namings_in cs) kept) k i is
