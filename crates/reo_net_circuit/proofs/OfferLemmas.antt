-- What a round does to the offers at the ports.
use Rattle.std.proofs.Common.{◌≡◌, ℕ, zero, suc, ◌+◌, ◌<◌, List, [], ◌∷◌, Option, None, cond, length, map, get_or, refl, ap, sym, ◌∙◌, arith, add-zero}
use Rattle.std.proofs.lemmas.List.{length-map}
use Rattle.std.proofs.lemmas.List.FromFn.{get_or-map-range_with_len, length-map-range_with_len}
use Rattle.reo_values.specs.declared.value.Value.{Value}
use Rattle.reo_net_base.specs.declared.colouring.Chosen.{Chosen}
use Rattle.reo_net_base.specs.Marks.{is_flow}
use Rattle.reo_net_base.specs.Behaviour.{Behaviour}
use Rattle.reo_net_base.specs.Net.{Net, Wiring, net_of, behaviour_at, first_side, mark_at, row_at, side_at, end_of}
use Rattle.reo_net_base.specs.Wired.{IsWired, ArePorts}
use Rattle.reo_net_base.specs.PortState.{PortState, port_state_at, IsPortWith}
use Rattle.reo_net_base.specs.Step.{stepped, settled_list, chosen_for, taken_for, all_chosen, all_taken}
use Rattle.reo_net_circuit.specs.Offers.{OffersAfterRound, ShapeAfterRound}
use Rattle.reo_net_base.specs.Shapes.{SameWays}
use Rattle.reo_net_base.specs.Lawful.{SameShape}
use Rattle.reo_net_circuit.proofs.ReshapeLemmas.{reshaped}

-- The mark of the one end of a port.
port_mark : (net : Net) (rows : List ℕ) (i : ℕ) → (behaviour_at net.primitives i).side_of 0 ≡ 0 → mark_at net rows (end_of i 0) ≡ (behaviour_at net.primitives i).mark 0 (get_or rows (first_side net.primitives i) 0) 0
unfolding mark_at row_at side_at
port_mark net rows i is =
    ap (λ (s : ℕ). (behaviour_at net.primitives i).mark s (get_or rows (first_side net.primitives i + s) 0) 0) is
    ∙ ap (λ (n : ℕ). (behaviour_at net.primitives i).mark 0 (get_or rows n 0) 0) (add-zero (first_side net.primitives i))

-- What has no way has no pending offer.
none_pending : {P : Type 0} (port_state : P → PortState) → ((p : P) → (port_state p).way ≡ None → (port_state p).pending ≡ None) → (ps : List P) (i : ℕ) → (port_state_at (map port_state ps) i).way ≡ None → (port_state_at (map port_state ps) i).pending ≡ None
none_pending port_state law [] i none = refl
none_pending port_state law (p ∷ ps) zero none = law p none
none_pending port_state law (p ∷ ps) (suc i) none = none_pending port_state law ps i none

module _ {P : Type 0} (behaviour : P → Behaviour) (settled : P → Chosen → Option Value → P) (port_state : P → PortState)
    (law : (p : P) (rows : Chosen) (taken : Option Value) → IsPortWith (port_state p) (port_state (settled p rows taken)) (cond (is_flow ((behaviour p).mark 0 rows.first 0)) None (port_state p).pending)) where
  port_state_settled : (ps : List P) (rows : List Chosen) (taken : List (Option Value)) (i : ℕ) (r : Chosen) → i < length ps → i < length rows → i < length taken
      → IsPortWith (port_state_at (map port_state ps) i) (port_state_at (map port_state (settled_list settled ps rows taken)) i) (cond (is_flow ((behaviour_at (map behaviour ps) i).mark 0 (get_or rows i r).first 0)) None (port_state_at (map port_state ps) i).pending)
  port_state_settled [] rows taken i r lt rows_lt taken_lt = absurd (omega arith)
  port_state_settled (p ∷ ps) [] taken i r lt rows_lt taken_lt = absurd (omega arith)
  port_state_settled (p ∷ ps) (c ∷ rows) [] i r lt rows_lt taken_lt = absurd (omega arith)
  port_state_settled (p ∷ ps) (c ∷ rows) (t ∷ taken) zero r lt rows_lt taken_lt = law p c t
  port_state_settled (p ∷ ps) (c ∷ rows) (t ∷ taken) (suc i) r lt rows_lt taken_lt = port_state_settled ps rows taken i r (omega arith) (omega arith) (omega arith)

  -- The ways stay, and what is accepted.
  way_kept : (ps : List P) (rows : List Chosen) (taken : List (Option Value)) (i : ℕ) → (port_state_at (map port_state (settled_list settled ps rows taken)) i).way ≡ (port_state_at (map port_state ps) i).way
  way_kept [] rows taken i = refl
  way_kept (p ∷ ps) [] taken i = refl
  way_kept (p ∷ ps) (c ∷ rows) [] i = refl
  way_kept (p ∷ ps) (c ∷ rows) (t ∷ taken) zero = (law p c t).way
  way_kept (p ∷ ps) (c ∷ rows) (t ∷ taken) (suc i) = way_kept ps rows taken i

  accepts_kept : (ps : List P) (rows : List Chosen) (taken : List (Option Value)) (i : ℕ) (item : Value) → (port_state_at (map port_state (settled_list settled ps rows taken)) i).accepts item ≡ (port_state_at (map port_state ps) i).accepts item
  accepts_kept [] rows taken i item = refl
  accepts_kept (p ∷ ps) [] taken i item = refl
  accepts_kept (p ∷ ps) (c ∷ rows) [] i item = refl
  accepts_kept (p ∷ ps) (c ∷ rows) (t ∷ taken) zero item = (law p c t).accepts item
  accepts_kept (p ∷ ps) (c ∷ rows) (t ∷ taken) (suc i) item = accepts_kept ps rows taken i item

  ways_kept : (ps : List P) (rows : List Chosen) (taken : List (Option Value)) → SameWays (map port_state ps) (map port_state (settled_list settled ps rows taken))
  ways_kept ps rows taken = record { way = way_kept ps rows taken; accepts = accepts_kept ps rows taken }

  port_after : (w : Wiring P) → IsWired (net_of behaviour w) → ArePorts (net_of behaviour w).primitives w.ports → (rows : List ℕ) (items : List (Option Value)) (i : ℕ) → i < w.ports
      → IsPortWith (port_state_at (map port_state w.primitives) i) (port_state_at (map port_state (stepped behaviour settled w rows items)) i) (cond (is_flow (mark_at (net_of behaviour w) rows (end_of i 0))) None (port_state_at (map port_state w.primitives) i).pending)
  port_after w wired ports rows items i lt =
      let net : Net = net_of behaviour w in
      let chosen : List Chosen = all_chosen net rows in
      let taken : List (Option Value) = all_taken net items in
      let d : Chosen = record { first = 0; second = 0 } in
      let within = ports.within in
      let count : length net.primitives ≡ length w.primitives = length-map w.primitives behaviour in
      let i_in : i < length net.primitives = omega arith in
      let port = ports.port i lt in
      let one_end = port.one_end in
      let one_side = port.one_side in
      let side = (wired.lawful i i_in).sides_in 0 (omega arith) in
      let is : (behaviour_at net.primitives i).side_of 0 ≡ 0 = omega arith in
      let there : get_or chosen i d ≡ chosen_for net rows i = get_or-map-range_with_len {X = Chosen} (chosen_for net rows) 0 (length net.primitives) i i d i_in (omega arith) in
      let mark : (behaviour_at net.primitives i).mark 0 (get_or chosen i d).first 0 ≡ mark_at net rows (end_of i 0) =
      ap (λ (c : Chosen). (behaviour_at net.primitives i).mark 0 c.first 0) there ∙ sym (port_mark net rows i is) in
      rw mark at (port_state_settled w.primitives chosen taken i d (omega (arith, i_in, count))
      (omega (arith, i_in, length-map-range_with_len {X = Chosen} (chosen_for net rows) 0 (length net.primitives)))
      (omega (arith, i_in, length-map-range_with_len {X = Option Value} (taken_for net items) 0 (length net.primitives))))

  pub offers_after : ((p : P) → (port_state p).way ≡ None → (port_state p).pending ≡ None) → (w : Wiring P) → IsWired (net_of behaviour w) → ArePorts (net_of behaviour w).primitives w.ports → OffersAfterRound behaviour settled port_state w
  offers_after no_port w wired ports = λ rows items.
      let chosen : List Chosen = all_chosen (net_of behaviour w) rows in
      let taken : List (Option Value) = all_taken (net_of behaviour w) items in
      record {
        port = port_after w wired ports rows items;
        no_port = λ i none. (
          none_pending port_state no_port w.primitives i none,
          none_pending port_state no_port (settled_list settled w.primitives chosen taken) i (way_kept w.primitives chosen taken i ∙ none),
        );
        ways = ways_kept w.primitives chosen taken;
      }

  pub shape_after : ((p : P) (rows : Chosen) (taken : Option Value) → SameShape (behaviour p) (behaviour (settled p rows taken))) → (w : Wiring P) → ShapeAfterRound behaviour settled port_state w
  shape_after shape w = λ rows items.
      let chosen : List Chosen = all_chosen (net_of behaviour w) rows in
      let taken : List (Option Value) = all_taken (net_of behaviour w) items in
      record {
        net = record { joints = refl; ports = refl; primitives = reshaped behaviour settled shape w.primitives chosen taken };
        ways = ways_kept w.primitives chosen taken;
      }
