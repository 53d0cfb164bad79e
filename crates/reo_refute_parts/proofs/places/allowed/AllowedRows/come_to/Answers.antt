use Rattle.std.proofs.Common.{◌≡◌, ◌≢◌, ◌↔◌, ◌∙◌, ℕ, ◌<◌, List, [], length, get_or, ap, sym, subst, arith}
use Rattle.std.specs.Prelude.{IsTrue}
use Rattle.std.proofs.lemmas.List.{get_or_default}
use Rattle.reo_net_base.specs.Net.{Net, net_of}
use Rattle.reo_net_base.specs.Sides.{side_count}
use Rattle.reo_refute_base.specs.Places.{IsAllowed}
use Rattle.reo_refute_parts.specs.declared.places.place.SidePlace.{SidePlace}
use Rattle.reo_refute_parts.specs.places.AllowedRows.{AreBytes, Agrees}
use Rattle.reo_refute_parts.proofs.places.AllowedLemmas.{number, place_in, same_side, allowed_bytes, live_is}
use Rattle.reo_refute_parts.proofs.places.allowed.AllowedRows.come_to.Goals as goal

pub row-requires-clause-side : goal.row-requires-clause-side
row-requires-clause-side g c =
    place_in (net_of g.P.Primitive.behaviour c.args.circuit.now) c.args.turn c.args.given.now c.args.number c.args.place c.requires.place

pub number_of-wanted-requires-clause-side : goal.number_of-wanted-requires-clause-side
number_of-wanted-requires-clause-side g c =
    place_in (net_of g.P.Primitive.behaviour c.args.circuit.now) c.args.turn c.args.given.now c.args.number c.args.place c.requires.place

pub returns-clause-live : goal.returns-clause-live
returns-clause-live g c =
    let net : Net = net_of g.P.Primitive.behaviour c.args.circuit.now in
    let given : List ℕ = c.args.given.now in
    let p : ℕ = c.args.number in
    let place : SidePlace = c.args.place in
    let is = c.requires.place in
    let side_lt : place.side < side_count net = place_in net c.args.turn given p place is in
    let wanted : ℕ = c.number_of-wanted.result in
    let same : wanted ≡ number net c.args.turn given p place is (get_or given place.side 0) = c.number_of-wanted.ensures ∙ ap (number net c.args.turn given p place is) c.row.ensures.row in
    let bytes : List ℕ = c.as_slice-agreeing.result.now in
    let agrees : bytes ≡ get_or c.args.self.now.agreeing place.side [] =
    c.as_slice-agreeing.ensures ∙ c.at.ensures ∙ get_or_default c.args.self.now.agreeing place.side c.at.result.now [] (omega (arith, side_lt, c.requires.agreeing.one_each)) in
    let are : AreBytes net place.side (Agrees net c.args.turn given p place.side) bytes =
    subst (λ (l : List ℕ). AreBytes net place.side (Agrees net c.args.turn given p place.side) l) (sym agrees) (c.requires.agreeing.rows place.side side_lt) in
    let allowed : AreBytes net place.side (IsAllowed net c.args.turn given p place.side) c.mark_smaller.new.smaller =
    allowed_bytes net c.args.turn given p place is wanted same bytes are c.mark_smaller.new.smaller c.in_ok-mark_smaller.ensures in
    let live = live_is net c.args.turn given p place is c.mark_smaller.new.smaller allowed in
    let marked : IsTrue c.has_mark.result ↔ ((row : ℕ) × (row < length c.mark_smaller.new.smaller) × (get_or c.mark_smaller.new.smaller row 0 ≢ 0)) =
    subst (λ (l : List ℕ). IsTrue c.has_mark.result ↔ ((row : ℕ) × (row < length l) × (get_or l row 0 ≢ 0))) c.as_slice.ensures c.has_mark.ensures in
    (λ t. live.0 (marked.0 t), λ l. marked.1 (live.1 l))

pub returns-clause-allowed : goal.returns-clause-allowed
returns-clause-allowed g c =
    let net : Net = net_of g.P.Primitive.behaviour c.args.circuit.now in
    let given : List ℕ = c.args.given.now in
    let p : ℕ = c.args.number in
    let place : SidePlace = c.args.place in
    let is = c.requires.place in
    let side_lt : place.side < side_count net = place_in net c.args.turn given p place is in
    let wanted : ℕ = c.number_of-wanted.result in
    let same : wanted ≡ number net c.args.turn given p place is (get_or given place.side 0) = c.number_of-wanted.ensures ∙ ap (number net c.args.turn given p place is) c.row.ensures.row in
    let bytes : List ℕ = c.as_slice-agreeing.result.now in
    let agrees : bytes ≡ get_or c.args.self.now.agreeing place.side [] =
    c.as_slice-agreeing.ensures ∙ c.at.ensures ∙ get_or_default c.args.self.now.agreeing place.side c.at.result.now [] (omega (arith, side_lt, c.requires.agreeing.one_each)) in
    let are : AreBytes net place.side (Agrees net c.args.turn given p place.side) bytes =
    subst (λ (l : List ℕ). AreBytes net place.side (Agrees net c.args.turn given p place.side) l) (sym agrees) (c.requires.agreeing.rows place.side side_lt) in
    let allowed : AreBytes net place.side (IsAllowed net c.args.turn given p place.side) c.mark_smaller.new.smaller =
    allowed_bytes net c.args.turn given p place is wanted same bytes are c.mark_smaller.new.smaller c.in_ok-mark_smaller.ensures in
    record { agreeing = c.requires.agreeing; side = same_side net c.args.turn given p place is; smaller = allowed }
