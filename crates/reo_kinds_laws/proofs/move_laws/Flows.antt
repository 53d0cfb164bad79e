-- A port has a move exactly where its end flows.
use Rattle.std.proofs.Common.{◌≡◌, inl, ⊎_elim, ℕ, ◌<◌, Bool, true, cond, Option, Some, None, List, [], length, get_or, refl, sym, subst, ap, ◌∙◌, arith}
use Rattle.std.specs.List.{position_or_len}
use Rattle.reo_values.specs.declared.value.Value.{Value}
use Rattle.reo_net_base.specs.declared.mark.Mark.TheVariants.{F}
use Rattle.reo_net_base.specs.declared.joint.End.{End}
use Rattle.reo_net_base.specs.declared.joint.Joint.{Joint}
use Rattle.reo_net_base.specs.Marks.{is_flow}
use Rattle.reo_net_base.specs.Net.{Net, end_of, is_at, mark_at}
use Rattle.reo_net_base.specs.Colouring.{IsColouring, ItemFits}
use Rattle.reo_net_base.specs.Wired.{IsWired, IsEnd}
use Rattle.reo_net_base.specs.Moves.{item_at, move_with, moves_at}
use Rattle.reo_net_base.proofs.Ends.{at_joint}
use Rattle.reo_net_base.proofs.Marks.{mark_flows, giver_flows}
use Rattle.reo_kinds_laws.specs.move_laws.Moved.{Moves, MovesAreFlows}
use Rattle.reo_kinds_laws.proofs.move_laws.Lists.{from_place, at_place, of_place}
use Rattle.reo_kinds_laws.proofs.move_laws.Joints.{first_below, passes}

made : (flows : Bool) (found : Option Value) (port : ℕ) (item : Value) → flows ≡ true → found ≡ Some item → Moves (cond flows (move_with port found) []) port item
made flows found port item h k = rw (h, k) (inl refl)

module _ (net : Net) (rows : List ℕ) (items : List (Option Value)) (wired : IsWired net) (colouring : IsColouring net rows items) where
  item_of : (j : Joint) (found : Option Value) → ItemFits net rows items j found → mark_at net rows j.giver ≡ F → (item : Value) × (found ≡ Some item)
  item_of j None fits flows = absurd (fits flows)
  item_of j (Some item) fits flows = (item, refl)

  -- Where an end flows, its joint has an item.
  flowing : (e : End) → IsEnd net.primitives e → mark_at net rows e ≡ F → (item : Value) × (item_at net.joints items e ≡ Some item)
  flowing e is flows =
      let none : Joint = record { giver = e; taker = e } in
      let joined = wired.each_end e.primitive e.end is.0 is.1 in
      let place : ℕ = position_or_len (is_at e) net.joints in
      let below : place < length net.joints = first_below (is_at e) net.joints joined.joint none joined.in_range (joined.here none) in
      let j : Joint = get_or net.joints place none in
      let giver : mark_at net rows j.giver ≡ F =
      ⊎_elim
      (λ same. ap (mark_at net rows) same ∙ flows)
      (λ same. giver_flows (mark_at net rows j.giver) (mark_at net rows j.taker) (colouring.rows_fit.matched place none below) (ap (mark_at net rows) same ∙ flows))
      (at_joint e j (passes (is_at e) net.joints none below)) in
      item_of j (get_or items place None) (colouring.items_fit place none below) giver

pub are_flows : MovesAreFlows
are_flows net ports rows items wired are colouring = record {
  at_ports = λ port port_in. (
    λ moved.
        let from = from_place (moves_at net rows items) 0 ports _ moved.1 in
        let of = of_place (is_flow (mark_at net rows (end_of from.place 0))) (item_at net.joints items (end_of from.place 0)) from.place port moved.0 from.has in
        subst (λ (p : ℕ). mark_at net rows (end_of p 0) ≡ F) (sym of.0) (mark_flows (mark_at net rows (end_of from.place 0)) of.1),
    λ flows.
        let within = are.within in
        let one = (are.port port port_in).one_end in
        let found = flowing net rows items wired colouring (end_of port 0) (omega (arith, within, port_in), omega (arith, one)) flows in (
          found.0,
          at_place (moves_at net rows items) 0 ports _ port (omega arith) (omega (arith, port_in))
              (made (is_flow (mark_at net rows (end_of port 0))) (item_at net.joints items (end_of port 0)) port found.0 (ap is_flow flows) found.1),
        ),
  );
  at_ports_alone = λ port item moved.
      let from = from_place (moves_at net rows items) 0 ports _ moved in
      let of = of_place (is_flow (mark_at net rows (end_of from.place 0))) (item_at net.joints items (end_of from.place 0)) from.place port item from.has in
      let same = of.0 in
      let below = from.below in
      omega (arith, same, below);
}
