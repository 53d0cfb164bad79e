-- Circuits that are alike, seen from the other.
use Rattle.std.proofs.Common.{ℕ, ◌+◌, ◌<◌, List, Bool, length, get_or, refl, ap, sym, ◌∙◌, arith}
use Rattle.reo_net_base.specs.declared.joint.Joint.{Joint}
use Rattle.reo_net_base.specs.Behaviour.{Behaviour, IsEndOf}
use Rattle.reo_net_base.specs.Lawful.{GivesAt}
use Rattle.reo_net_base.specs.Net.{Net, behaviour_at}
use Rattle.reo_net_base.specs.Wired.{IsWired}
use Rattle.reo_net_laws.specs.Parts.{IsClosed}
use Rattle.reo_net_laws.specs.Alike.{AreAlike}
use Rattle.reo_weights.proofs.Assignments.{first_same_at, side_same}

module _ (bs ds : List Behaviour) (js : List Joint) (wired : IsWired (record { primitives = bs; joints = js })) (inside : ℕ → Bool)
    (alike : AreAlike (record { primitives = bs; joints = js }) (record { primitives = ds; joints = js }) inside) where
  abbrev net : Net
  net = record { primitives = bs; joints = js }

  abbrev other : Net
  other = record { primitives = ds; joints = js }

  -- A closed set is closed in the other too.
  pub closed_too : IsClosed net inside → IsClosed other inside
  closed_too closed = record {
    along = λ j d lt.
        ap inside (side_same bs ds js wired inside alike (get_or js j d).giver (wired.givers j d lt)) ∙ closed.along j d lt
        ∙ ap inside (sym (side_same bs ds js wired inside alike (get_or js j d).taker (wired.takers j d lt)));
  }

  -- The one is alike to the other.
  pub alike_back : AreAlike other net inside
  alike_back = record {
    joints = refl;
    count = sym alike.count;
    shape = λ i lt. let shape = alike.shape i (omega (arith, alike.count)) in
        record { ends = sym shape.ends; sides = sym shape.sides; side_of = λ end. sym (shape.side_of end); takes_in = λ end. sym (shape.takes_in end); leads = λ side. sym (shape.leads side) };
    sides = λ i side lt side_in h.
        let b : Behaviour = behaviour_at bs i in
        let d : Behaviour = behaviour_at ds i in
        let i_in : i < length bs = omega (arith, alike.count) in
        let shape = alike.shape i i_in in
        let here_in = rw shape.sides at side_in in
        let same = alike.sides i side i_in here_in (ap (λ (f : ℕ). inside (f + side)) (sym (first_same_at bs ds js wired inside alike i)) ∙ h) in
        let end_back : (end : ℕ) → IsEndOf d side end → IsEndOf b side end = λ end is. (rw shape.ends at is.0, sym (shape.side_of end) ∙ is.1) in
        let gives_back : (row end : ℕ) → GivesAt d side row end → GivesAt b side row end = λ row end gives.
        let below = rw same.rows at gives.in_table in
        record { of_side = here_in; in_table = below; is_end = end_back end gives.is_end; gives = sym (shape.takes_in end) ∙ gives.gives; flows = sym (same.mark row end below (end_back end gives.is_end)) ∙ gives.flows } in
        record {
          rows = sym same.rows;
          mark = λ row end r is. sym (same.mark row end (rw same.rows at r) (end_back end is));
          class = λ row turn r. sym (same.class row turn (rw same.rows at r));
          from = λ row end gives. sym (same.from row end (gives_back row end gives));
          given = λ row end taken gives. sym (same.given row end taken (gives_back row end gives));
          passes = λ row end item r is takes. sym (same.passes row end item (rw same.rows at r) (end_back end is) (sym (shape.takes_in end) ∙ takes));
        };
  }
