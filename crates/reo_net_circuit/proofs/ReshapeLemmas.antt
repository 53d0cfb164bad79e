-- What holds of a circuit's shape stays when its primitives go on.
use Rattle.std.proofs.Common.{◌≡◌, ℕ, zero, suc, ◌+◌, ◌<◌, List, [], ◌∷◌, ◌++◌, Option, length, map, get_or, take, drop, refl, ap, sym, subst, ◌∙◌, arith, append-nil}
use Rattle.std.proofs.lemmas.List.{take_all, drop_all}
use Rattle.reo_values.specs.declared.value.Value.{Value}
use Rattle.reo_net_base.specs.declared.colouring.Chosen.{Chosen}
use Rattle.reo_net_base.specs.declared.joint.Joint.{Joint}
use Rattle.reo_net_base.specs.declared.joint.End.{End}
use Rattle.reo_net_circuit.specs.declared.layout.SideOwner.{SideOwner}
use Rattle.reo_net_base.specs.Behaviour.{Behaviour}
use Rattle.reo_net_base.specs.Lawful.{SameShape, IsLawful}
use Rattle.reo_net_base.specs.Shapes.{SameShapes}
use Rattle.reo_net_base.specs.Wired.{IsTopological, IsWired, IsEnd, IsOrder}
use Rattle.reo_net_base.specs.Net.{first_side, behaviour_at, side_at, from_sides, to_sides}
use Rattle.reo_net_circuit.specs.Layout.{IsLaidOut}
use Rattle.reo_net_base.specs.Step.{settled_list}
use Rattle.reo_net_laws.proofs.Assignments.{all_is, first_same as first_by_shapes}

pub same_shape : (b : Behaviour) → SameShape b b
same_shape b = record { ends = refl; sides = refl; side_of = λ _. refl; takes_in = λ _. refl; leads = λ _. refl }

module _ {P : Type 0} (behaviour : P → Behaviour) (settled : P → Chosen → Option Value → P) (law : (p : P) (rows : Chosen) (taken : Option Value) → SameShape (behaviour p) (behaviour (settled p rows taken))) where
  settled_count : (ps : List P) (rows : List Chosen) (taken : List (Option Value)) → length (map behaviour (settled_list settled ps rows taken)) ≡ length (map behaviour ps)
  settled_count [] rows taken = refl
  settled_count (p ∷ ps) [] taken = refl
  settled_count (p ∷ ps) (r ∷ rows) [] = refl
  settled_count (p ∷ ps) (r ∷ rows) (t ∷ taken) = ap suc (settled_count ps rows taken)

  settled_same : (ps : List P) (rows : List Chosen) (taken : List (Option Value)) (i : ℕ) → SameShape (behaviour_at (map behaviour ps) i) (behaviour_at (map behaviour (settled_list settled ps rows taken)) i)
  settled_same [] rows taken i = same_shape (behaviour_at [] i)
  settled_same (p ∷ ps) [] taken i = same_shape (behaviour_at (map behaviour (p ∷ ps)) i)
  settled_same (p ∷ ps) (r ∷ rows) [] i = same_shape (behaviour_at (map behaviour (p ∷ ps)) i)
  settled_same (p ∷ ps) (r ∷ rows) (t ∷ taken) zero = law p r t
  settled_same (p ∷ ps) (r ∷ rows) (t ∷ taken) (suc i) = settled_same ps rows taken i

  pub reshaped : (ps : List P) (rows : List Chosen) (taken : List (Option Value)) → SameShapes (map behaviour ps) (map behaviour (settled_list settled ps rows taken))
  reshaped ps rows taken = record { count = settled_count ps rows taken; same = λ i lt. settled_same ps rows taken i }

pub lawful_at : {P : Type 0} (behaviour : P → Behaviour) → ((p : P) → IsLawful (behaviour p)) → (ps : List P) (i : ℕ) → i < length (map behaviour ps) → IsLawful (behaviour_at (map behaviour ps) i)
lawful_at behaviour law [] i lt = absurd (omega arith)
lawful_at behaviour law (p ∷ ps) zero lt = law p
lawful_at behaviour law (p ∷ ps) (suc i) lt = lawful_at behaviour law ps i (omega arith)

-- Numbers that are the same for each element of a list.
map_same : (f g : Joint → ℕ) (js : List Joint) → ((k : ℕ) (d : Joint) → k < length js → f (get_or js k d) ≡ g (get_or js k d)) → map f js ≡ map g js
map_same f g [] h = refl
map_same f g (j ∷ js) h = ap (λ (n : ℕ). n ∷ map f js) (h zero j (omega arith)) ∙ ap (λ (ns : List ℕ). g j ∷ ns) (map_same f g js (λ k d lt. h (suc k) d (omega arith)))

pub first_same : (bs ds : List Behaviour) → SameShapes bs ds → (i : ℕ) → first_side ds i ≡ first_side bs i
first_same bs ds r = first_by_shapes bs ds r.count r.same

module _ (bs ds : List Behaviour) (r : SameShapes bs ds) where
  end_same : (e : End) → IsEnd bs e → IsEnd ds e
  end_same e is = (omega (arith, r.count, is.0), rw ((r.same e.primitive is.0).ends) is.1)

  pub laid_same : (firsts : List ℕ) (owners : List SideOwner) → IsLaidOut bs firsts owners → IsLaidOut ds firsts owners
  laid_same firsts owners laid = record {
    first_sides = record {
      length_is = laid.first_sides.length_is ∙ sym r.count;
      first = λ i d lt. laid.first_sides.first i d (rw r.count at lt) ∙ sym (first_same bs ds r i);
    };
    owners_length = laid.owners_length ∙ all_is bs ∙ sym (first_same bs ds r (length bs)) ∙ ap (first_side ds) (sym r.count) ∙ sym (all_is ds);
    whose = record {
      owner_in = λ k d lt. rw r.count (laid.whose.owner_in k d lt);
      owner_side = λ k d lt. rw ((r.same (get_or owners k d).primitive (laid.whose.owner_in k d lt)).sides) (laid.whose.owner_side k d lt);
      owner = λ k d lt. rw (first_same bs ds r (get_or owners k d).primitive) (laid.whose.owner k d lt);
    };
  }

  module _ (joints : List Joint) where
    pub side_same : (e : End) → IsEnd bs e → side_at (record { primitives = ds; joints = joints }) e ≡ side_at (record { primitives = bs; joints = joints }) e
    unfolding side_at
    side_same e is = ap (λ (n : ℕ). n + (behaviour_at ds e.primitive).side_of e.end) (first_same bs ds r e.primitive) ∙ ap (λ (s : ℕ). first_side bs e.primitive + s) ((r.same e.primitive is.0).side_of e.end)

  module _ (joints : List Joint) (wired : IsWired (record { primitives = bs; joints = joints })) where
    pub wired_same : ((i : ℕ) → i < length ds → IsLawful (behaviour_at ds i)) → IsWired (record { primitives = ds; joints = joints })
    wired_same lawful = record {
      givers = λ j d lt. end_same (get_or joints j d).giver (wired.givers j d lt);
      takers = λ j d lt. end_same (get_or joints j d).taker (wired.takers j d lt);
      gives = λ j d lt. (r.same (get_or joints j d).giver.primitive (wired.givers j d lt).0).takes_in (get_or joints j d).giver.end ∙ wired.gives j d lt;
      takes = λ j d lt. (r.same (get_or joints j d).taker.primitive (wired.takers j d lt).0).takes_in (get_or joints j d).taker.end ∙ wired.takes j d lt;
      each_end = λ i end i_lt end_lt.
          let i_in : i < length bs = omega (arith, r.count) in
          wired.each_end i end i_in (rw ((r.same i i_in).ends) at end_lt);
      apart = λ j d lt e. wired.apart j d lt (sym (side_same joints (get_or joints j d).giver (wired.givers j d lt)) ∙ e ∙ side_same joints (get_or joints j d).taker (wired.takers j d lt));
      lawful = lawful;
    }

    pub from_same : from_sides (record { primitives = ds; joints = joints }) ≡ from_sides (record { primitives = bs; joints = joints })
    from_same = map_same
        (λ (j : Joint). side_at (record { primitives = ds; joints = joints }) j.giver)
        (λ (j : Joint). side_at (record { primitives = bs; joints = joints }) j.giver)
        joints (λ j d lt. side_same joints (get_or joints j d).giver (wired.givers j d lt))

    pub to_same : to_sides (record { primitives = ds; joints = joints }) ≡ to_sides (record { primitives = bs; joints = joints })
    to_same = map_same
        (λ (j : Joint). side_at (record { primitives = ds; joints = joints }) j.taker)
        (λ (j : Joint). side_at (record { primitives = bs; joints = joints }) j.taker)
        joints (λ j d lt. side_same joints (get_or joints j d).taker (wired.takers j d lt))

    pub order_same : (order : List ℕ) → IsOrder (record { primitives = bs; joints = joints }) order → IsOrder (record { primitives = ds; joints = joints }) order
    order_same order is =
        subst (λ (xs : List ℕ). IsTopological xs (to_sides (record { primitives = ds; joints = joints })) order) (sym from_same)
        (subst (λ (xs : List ℕ). IsTopological (from_sides (record { primitives = bs; joints = joints })) xs order) (sym to_same) is)

-- What the vector has after a write through all of it.
pub whole_slice : {X : Type 0} → (n : ℕ) (new old : List X) → n ≡ length old → length new ≡ length old → take n (new ++ drop (length new) old) ≡ new
whole_slice n new old n_is same = rw (drop_all (length new) old (omega arith), append-nil new) (take_all n new (omega arith))
