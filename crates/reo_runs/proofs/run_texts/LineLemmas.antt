-- What the line of a round may say: its entries and its moves.
use Rattle.std.proofs.Common.{◌≡◌, ◌∙◌, ◌==◌, ◌^◌, ◌≤◌, inl, inr, ℕ, zero, suc, ◌+◌, ◌<◌, Bool, true, false, cond, List, [], ◌∷◌, ◌++◌, refl, ap, subst, length, map, get_or, arith}
use Rattle.std.specs.Prelude.{Option, Some, None, slice_get, if◌then◌else◌}
use Rattle.std.specs.List.{AllByRecursion, flat_map, range_with_len}
use Rattle.std.proofs.lemmas.Bool.Decides.{nat_tests}
use Rattle.reo_values.specs.declared.value.Value.{Value}
use Rattle.reo_values.specs.Kind.{IsIn}
use Rattle.reo_net_base.specs.declared.colouring.Chosen.{Chosen}
use Rattle.reo_net_base.specs.declared.colouring.Move.{Move}
use Rattle.reo_net_base.specs.declared.joint.End.{End}
use Rattle.reo_net_base.specs.declared.port.Port.{Port}
use Rattle.reo_net_base.specs.Behaviour.{Behaviour}
use Rattle.reo_net_base.specs.Marks.{is_flow}
use Rattle.reo_net_base.specs.Moves.{item_at, move_with, moves_at, moves_of}
use Rattle.reo_net_base.specs.Net.{Net, Side, all_sides, behaviour_at, end_of, first_side, is_at, mark_at}
use Rattle.reo_net_base.specs.Colouring.{AreRows}
use Rattle.reo_net_base.specs.Step.{chosen_for}
use Rattle.reo_net_base.specs.Wired.{IsWired, IsEnd}
use Rattle.reo_net_base.proofs.Marks.{mark_flows}
use Rattle.reo_net_base.proofs.Ends.{at_joint}
use Rattle.reo_net_laws.proofs.Orders.{no_joint}
use Rattle.reo_runs.proofs.Sides.{row_below, side_in, side_is}
use Rattle.reo_trace.specs.declared.line.Cell.TheVariants.{Row, Jam}
use Rattle.reo_trace.specs.declared.line.Entry.TheVariants.{One, Two}
use Rattle.reo_trace.specs.Entries.{cell_of, entry_of, entry_at, entries_of, is_idle}
use Rattle.reo_trace.proofs.Still.{idle_ends}
use Rattle.reo_trace_reader.specs.texts.Lines.{IsCell, IsEntry, IsMove, AreRising}
use Rattle.reo_runs.proofs.run_texts.Lists.{first_passes}

cell_small : (b : Behaviour) (side row : ℕ) → row < 2 ^ 32 → IsCell (cell_of b side row)
cell_small b side row small = elim ((row + 1) == b.rows side) as (λ t. IsCell (if t then Jam else Row row)) [ true ↦ tt | false ↦ small ]

entry_small : (b : Behaviour) (chosen : Chosen) → chosen.first < 2 ^ 32 → (b.sides ≡ 2 → chosen.second < 2 ^ 32) → IsEntry (entry_of b chosen)
entry_small b chosen first second = step (b.sides == 2) refl where
  step : (t : Bool) → (b.sides == 2) ≡ t → IsEntry (if t then Two (cell_of b 0 chosen.first) (cell_of b 1 chosen.second) else One (cell_of b 0 chosen.first))
  step true two = (cell_small b 0 chosen.first first, cell_small b 1 chosen.second (second (grind (arith, nat_tests))))
  step false other = cell_small b 0 chosen.first first

module _ (net : Net) (wired : IsWired net) (rows : List ℕ) (are : AreRows (all_sides net.primitives) rows) where
  -- The row of a side of a primitive is small.
  row_small : (i side : ℕ) → i < length net.primitives → side < (behaviour_at net.primitives i).sides → get_or rows (first_side net.primitives i + side) 0 < 2 ^ 32
  row_small i side lt is_side =
      let d : Side = record { of = behaviour_at net.primitives i; number = side } in
      let below = row_below (all_sides net.primitives) rows are (first_side net.primitives i + side) d (side_in net.primitives i side lt is_side) in
      let table = rw (side_is net.primitives i side d lt is_side) at below in
      let few = (wired.lawful i lt).few_rows side is_side in
      omega (arith, table, few)

  entry_is_small : (i : ℕ) → i < length net.primitives → IsEntry (entry_at net rows i)
  unfolding entry_at
  entry_is_small i lt =
      let b : Behaviour = behaviour_at net.primitives i in
      let place : first_side net.primitives i + 0 ≡ first_side net.primitives i = omega arith in
      let first : get_or rows (first_side net.primitives i) 0 < 2 ^ 32 = subst (λ n. get_or rows n 0 < 2 ^ 32) place (row_small i 0 lt (wired.lawful i lt).some_side) in
      entry_small b (chosen_for net rows i) first (λ two. second two) where
        second : (behaviour_at net.primitives i).sides ≡ 2 → cond ((behaviour_at net.primitives i).sides == 2) (get_or rows (first_side net.primitives i + 1) 0) 0 < 2 ^ 32
        second two =
            let yes_it_is : ((behaviour_at net.primitives i).sides == 2) ≡ true = grind (arith, nat_tests) in
            rw yes_it_is (row_small i 1 lt (omega (arith, two)))

  -- The entries of a line are small.
  entries_from : (k n : ℕ) → k + n ≤ length net.primitives → AllByRecursion IsEntry (map (entry_at net rows) (range_with_len k n))
  entries_from k zero within = tt
  entries_from k (suc n) within = (entry_is_small k (omega (arith, within)), entries_from (k + 1) n (omega (arith, within)))

  pub entries_small : AllByRecursion IsEntry (entries_of net rows)
  entries_small = entries_from 0 (length net.primitives) (omega arith)

-- A move, or none.
abbrev pub OneOrNone : ℕ → (Move → Type 0) → List Move → Type 0
OneOrNone port good [] = Unit {0}
OneOrNone port good (m ∷ []) = (m.port ≡ port) × good m
OneOrNone port good (m ∷ n ∷ ms) = ⊥

one_or_none : (net : Net) (rows : List ℕ) (items : List (Option Value)) (port : ℕ) (good : Move → Type 0)
    → ((v : Value) → is_flow (mark_at net rows (end_of port 0)) ≡ true → item_at net.joints items (end_of port 0) ≡ Some v → good (record { port = port; item = v }))
    → OneOrNone port good (moves_at net rows items port)
one_or_none net rows items port good is = flows (is_flow (mark_at net rows (end_of port 0))) (item_at net.joints items (end_of port 0)) is where
  flows : (t : Bool) (o : Option Value) → ((v : Value) → t ≡ true → o ≡ Some v → good (record { port = port; item = v })) → OneOrNone port good (cond t (move_with port o) [])
  flows true None h = tt
  flows true (Some v) h = (refl, h v refl refl)
  flows false o h = tt

-- Moves at ports in order.
record AreInOrder (good : Move → Type 0) (from : ℕ) (moves : List Move) : Type 0 where
  pub good_all : AllByRecursion good moves
  pub behind : AllByRecursion (λ (m : Move). from ≤ m.port) moves
  pub rising : AreRising moves

later : (k : ℕ) (ms : List Move) → AllByRecursion (λ (m : Move). k + 1 ≤ m.port) ms → AllByRecursion (λ (m : Move). k ≤ m.port) ms
later k [] all = tt
later k (m ∷ ms) all = (omega (arith, all.0), later k ms all.1)

rises : (m : Move) (k : ℕ) (ms : List Move) → m.port ≡ k → AllByRecursion (λ (m : Move). k + 1 ≤ m.port) ms → AreRising ms → AreRising (m ∷ ms)
rises m k [] here all rising = tt
rises m k (n ∷ ms) here all rising = (omega (arith, here, all.0), rising)

in_order : (good : Move → Type 0) (f : ℕ → List Move) (k n : ℕ) → ((i : ℕ) → k ≤ i → i < k + n → OneOrNone i good (f i)) → AreInOrder good k (flat_map f (range_with_len k n))
in_order good f k zero each = record { good_all = tt; behind = tt; rising = tt }
in_order good f k (suc n) each = step (f k) (each k (omega arith) (omega arith)) (in_order good f (k + 1) n (λ i from below. each i (omega (arith, from)) (omega (arith, below)))) where
  step : (here : List Move) → OneOrNone k good here → AreInOrder good (k + 1) (flat_map f (range_with_len (k + 1) n)) → AreInOrder good k (here ++ flat_map f (range_with_len (k + 1) n))
  step [] one rest = record { good_all = rest.good_all; behind = later k (flat_map f (range_with_len (k + 1) n)) rest.behind; rising = rest.rising }
  step (m ∷ []) one rest =
      let others = flat_map f (range_with_len (k + 1) n) in
      record {
        good_all = (one.1, rest.good_all);
        behind = (omega (arith, one.0), later k others rest.behind);
        rising = rises m k others one.0 rest.behind rest.rising;
      }
  step (m ∷ o ∷ ms) one rest = absurd one

module _ (net : Net) (rows : List ℕ) (items : List (Option Value)) (ports : List Port) (right : (port : ℕ) (p : Port) (v : Value) → slice_get ports port ≡ Some p → item_at net.joints items (end_of port 0) ≡ Some v → IsIn v p.kindred) where
  there_is : (port : ℕ) → port < length ports → (p : Port) × (slice_get ports port ≡ Some p)
  there_is port below = found ports port below where
    found : (ps : List Port) (i : ℕ) → i < length ps → (p : Port) × (slice_get ps i ≡ Some p)
    found [] i lt = absurd (omega arith)
    found (p ∷ ps) zero lt = (p, refl)
    found (p ∷ ps) (suc i) lt = found ps i (omega arith)

  moves_in_order : (n : ℕ) → n ≡ length ports → AreInOrder (IsMove ports) 0 (moves_of net n rows items)
  moves_in_order n same =
      in_order (IsMove ports) (moves_at net rows items) 0 n (λ port from below. one_or_none net rows items port (IsMove ports) (λ v flows is.
      let p = there_is port (omega (arith, below, same)) in
      (p.0, p.1, right port p.0 v p.1 is)))

  pub moves_good : (n : ℕ) → n ≡ length ports → AllByRecursion (IsMove ports) (moves_of net n rows items)
  moves_good n same = (moves_in_order n same).good_all

  pub moves_rise : (n : ℕ) → n ≡ length ports → AreRising (moves_of net n rows items)
  moves_rise n same = (moves_in_order n same).rising

-- Where a round is idle nothing moves.
module _ (net : Net) (wired : IsWired net) (rows : List ℕ) (items : List (Option Value)) (same : length items ≡ length net.joints) (idle : is_idle net rows ≡ true) where
  is_end : (e : End) (v : Value) → item_at net.joints items e ≡ Some v → IsEnd net.primitives e
  is_end e v is =
      let at = first_passes (is_at e) net.joints items no_joint v same is in
      elim (at_joint e _ at.1) [
        | inl giver ↦ subst (IsEnd net.primitives) giver (wired.givers _ no_joint at.0)
        | inr taker ↦ subst (IsEnd net.primitives) taker (wired.takers _ no_joint at.0)
      ]

  nothing_at : (port : ℕ) → moves_at net rows items port ≡ []
  nothing_at port = none (moves_at net rows items port) (one_or_none net rows items port (λ _. ⊥) (λ v flows is. idle_ends net rows wired idle (end_of port 0) (is_end (end_of port 0) v is) (mark_flows (mark_at net rows (end_of port 0)) flows))) where
    none : (ms : List Move) → OneOrNone port (λ _. ⊥) ms → ms ≡ []
    none [] one = refl
    none (m ∷ []) one = absurd one.1
    none (m ∷ o ∷ ms) one = absurd one

  nothing_from : (k n : ℕ) → flat_map (moves_at net rows items) (range_with_len k n) ≡ []
  nothing_from k zero = refl
  nothing_from k (suc n) = ap (λ ms. ms ++ flat_map (moves_at net rows items) (range_with_len (k + 1) n)) (nothing_at k) ∙ nothing_from (k + 1) n

  pub nothing_moves : (n : ℕ) → moves_of net n rows items ≡ []
  nothing_moves n = nothing_from 0 n
