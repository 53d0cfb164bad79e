-- Moves at ports, counted by their ways.
use Rattle.std.proofs.Common.{◌≡◌, ℕ, zero, suc, ◌+◌, ◌≤◌, true, false, List, [], ◌∷◌, refl, length, length-append, arith, cond}
use Rattle.std.specs.Prelude.{Option, Some, None}
use Rattle.std.proofs.lemmas.List.Sums.{sum_by-cons}
use Rattle.std.specs.List.{count_by, flat_map, range_with_len}
use Rattle.reo_values.specs.declared.value.Value.{Value}
use Rattle.reo_net_base.specs.declared.colouring.Move.{Move}
use Rattle.reo_net_base.specs.declared.port.Port.{Port}
use Rattle.reo_net_base.specs.declared.port.Way.{Way}
use Rattle.reo_net_base.specs.declared.port.Way.TheVariants.{In, Out}
use Rattle.reo_net_base.specs.Marks.{is_flow}
use Rattle.reo_net_base.specs.Net.{Net, mark_at, end_of}
use Rattle.reo_net_base.specs.Moves.{item_at, move_with, moves_at, moves_of}
use Rattle.reo_runs.specs.Written.{goes, is_in, is_out, way_at}

-- A move is at a port of one of the two ways.
one_way : (w : Way) → cond (is_in w) 1 0 + cond (is_out w) 1 0 ≡ 1
one_way In = refl
one_way Out = refl

pub both_ways : (ports : List Port) (ms : List Move) → count_by (goes is_in ports) ms + count_by (goes is_out ports) ms ≡ length ms
both_ways ports [] = refl
both_ways ports (m ∷ ms) = rw (sum_by-cons (λ x. cond (goes is_in ports x) 1 0) m ms, sum_by-cons (λ x. cond (goes is_out ports x) 1 0) m ms) (omega (arith, both_ways ports ms, one_way (way_at ports m.port)))

-- There is at most one move for each port.
with_most : (port : ℕ) (o : Option Value) → length (move_with port o) ≤ 1
with_most port None = omega arith
with_most port (Some item) = omega arith

at_most : (net : Net) (rows : List ℕ) (items : List (Option Value)) (port : ℕ) → length (moves_at net rows items port) ≤ 1
at_most net rows items port =
    elim (is_flow (mark_at net rows (end_of port 0))) as (λ b. length (cond b (move_with port (item_at net.joints items (end_of port 0))) []) ≤ 1)
    [ true ↦ with_most port (item_at net.joints items (end_of port 0)) | false ↦ omega arith ]

all_most : (net : Net) (rows : List ℕ) (items : List (Option Value)) (from n : ℕ) → length (flat_map (moves_at net rows items) (range_with_len from n)) ≤ n
all_most net rows items from zero = omega arith
all_most net rows items from (suc n) =
    omega (arith, at_most net rows items from, all_most net rows items (from + 1) n, length-append (moves_at net rows items from) (flat_map (moves_at net rows items) (range_with_len (from + 1) n)))

pub moves_few : (net : Net) (ports : ℕ) (rows : List ℕ) (items : List (Option Value)) → length (moves_of net ports rows items) ≤ ports
moves_few net ports rows items = all_most net rows items 0 ports
