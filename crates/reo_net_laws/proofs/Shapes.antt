-- Circuits of the same shape.
use Rattle.std.proofs.Common.{◌≡◌, ◌<◌, ℕ, List, length, ap, sym, ◌∙◌, arith}
use Rattle.reo_net_base.specs.Behaviour.{Behaviour}
use Rattle.reo_net_base.specs.Lawful.{SameShape}
use Rattle.reo_net_base.specs.Net.{all_sides, first_side, behaviour_at}
use Rattle.reo_net_base.specs.Shapes.{SameShapes}
use Rattle.reo_net_laws.proofs.Assignments.{first_same, all_is}

pub shape_twice : (b d e : Behaviour) → SameShape b d → SameShape d e → SameShape b e
shape_twice b d e r s = record {
  ends = s.ends ∙ r.ends;
  sides = s.sides ∙ r.sides;
  side_of = λ end. s.side_of end ∙ r.side_of end;
  takes_in = λ end. s.takes_in end ∙ r.takes_in end;
  leads = λ side. s.leads side ∙ r.leads side;
}

pub shapes_twice : (bs ds es : List Behaviour) → SameShapes bs ds → SameShapes ds es → SameShapes bs es
shapes_twice bs ds es r s = record {
  count = s.count ∙ r.count;
  same = λ i lt. shape_twice (behaviour_at bs i) (behaviour_at ds i) (behaviour_at es i) (r.same i lt) (s.same i (omega (arith, lt, r.count)));
}

shape_back : (b d : Behaviour) → SameShape b d → SameShape d b
shape_back b d r = record {
  ends = sym r.ends;
  sides = sym r.sides;
  side_of = λ end. sym (r.side_of end);
  takes_in = λ end. sym (r.takes_in end);
  leads = λ side. sym (r.leads side);
}

pub shapes_back : (bs ds : List Behaviour) → SameShapes bs ds → SameShapes ds bs
shapes_back bs ds r = record {
  count = sym r.count;
  same = λ i lt. shape_back (behaviour_at bs i) (behaviour_at ds i) (r.same i (omega (arith, lt, r.count)));
}

-- They have as many sides.
pub count_same : (bs ds : List Behaviour) → SameShapes bs ds → length (all_sides ds) ≡ length (all_sides bs)
count_same bs ds r = all_is ds ∙ ap (first_side ds) r.count ∙ first_same bs ds r.count r.same (length bs) ∙ sym (all_is bs)
