-- What the rows say of the ends of a set, in a circuit with fewer rows there.
use Rattle.std.proofs.Common.{◌≡◌, inl, inr, ℕ, ◌+◌, ◌<◌, List, Bool, Option, true, false, length, refl, ap, sym, ◌∙◌, subst, arith}
use Rattle.std.proofs.lemmas.Bool.{cases_lt}
use Rattle.reo_values.specs.declared.value.Value.{Value}
use Rattle.reo_net_base.specs.declared.mark.Mark.TheVariants.{F, J}
use Rattle.reo_net_base.specs.declared.joint.End.{End}
use Rattle.reo_net_base.specs.declared.joint.Joint.{Joint}
use Rattle.reo_net_base.specs.Behaviour.{Behaviour, IsPlainRow}
use Rattle.reo_net_base.specs.Lawful.{SameShape, GivesAt}
use Rattle.reo_net_base.specs.Net.{Net, Side, all_sides, behaviour_at, first_side, side_at}
use Rattle.reo_net_base.specs.Wired.{IsWired, IsEnd}
use Rattle.reo_net_circuit.proofs.NetLemmas.{first_before}
use Rattle.reo_net_laws.specs.Alike.{AreAlike}
use Rattle.reo_net_laws.specs.Ends.{mark_in, from_in, IsRowOf}
use Rattle.reo_weights.proofs.Assignments.{side_other}
use Rattle.reo_weights.proofs.Sides.{Owner, owner_of, owner_side, owner_at, side_at_place}
use Rattle.reo_weights.specs.Fewer.{StandsFor, HasFewerRows}

-- Sides of two primitives have different numbers.
one_primitive : (bs : List Behaviour) (i s k t : ℕ) → i < length bs → k < length bs → s < (behaviour_at bs i).sides → t < (behaviour_at bs k).sides
    → first_side bs i + s ≡ first_side bs k + t → i ≡ k
one_primitive bs i s k t i_in k_in s_in t_in same = elim (cases_lt i k) [
  | inl less ↦ absurd (omega (arith, first_before bs i k s less k_in s_in, same))
  | inr more ↦ elim (cases_lt k i) [
    | inl less ↦ absurd (omega (arith, first_before bs k i t less i_in t_in, same))
    | inr same_place ↦ omega arith
  ]
]

abbrev pub nowhere : ℕ → Bool
nowhere s = false

module _ (bs ds : List Behaviour) (js : List Joint) (wired : IsWired (record { primitives = bs; joints = js })) (inside : ℕ → Bool)
    (fewer : HasFewerRows (record { primitives = bs; joints = js }) (record { primitives = ds; joints = js }) inside) where
  abbrev net : Net
  net = record { primitives = bs; joints = js }

  abbrev other : Net
  other = record { primitives = ds; joints = js }

  -- They are alike where nothing is asked but the shape.
  pub shaped : AreAlike net other nowhere
  shaped = record {
    joints = fewer.joints;
    count = fewer.count;
    shape = fewer.shape;
    sides = λ i side lt side_in h. let wrong : false ≡ true = h in cc;
  }

  -- A row of a side stands for this one at each end of the side.
  abbrev pub StandsAt : ℕ → ℕ → ℕ → Type 0
  StandsAt side row old = (e : End) → IsEnd bs e → side_at net e ≡ side
      → StandsFor (behaviour_at bs e.primitive) (behaviour_at ds e.primitive) ((behaviour_at bs e.primitive).side_of e.end) row old

  module _ (side : ℕ) (o : Owner bs side) (h : inside side ≡ true) (row : ℕ) where
    old_row : row < (behaviour_at ds o.primitive).rows o.number → (old : ℕ) × StandsFor (behaviour_at bs o.primitive) (behaviour_at ds o.primitive) o.number row old
    old_row row_in = fewer.sides o.primitive o.number row o.primitive_in o.number_in (ap inside (sym o.place) ∙ h) row_in

    at_ends : (old : ℕ) → StandsFor (behaviour_at bs o.primitive) (behaviour_at ds o.primitive) o.number row old → StandsAt side row old
    at_ends old stands e e_in at =
        let number_in = (wired.lawful e.primitive e_in.0).sides_in e.end e_in.1 in
        let place : first_side bs e.primitive + (behaviour_at bs e.primitive).side_of e.end ≡ first_side bs o.primitive + o.number = sym (side_at_place net e) ∙ at ∙ o.place in
        let primitive : e.primitive ≡ o.primitive = one_primitive bs e.primitive ((behaviour_at bs e.primitive).side_of e.end) o.primitive o.number e_in.0 o.primitive_in number_in o.number_in place in
        let first : first_side bs e.primitive ≡ first_side bs o.primitive = ap (first_side bs) primitive in
        let number : (behaviour_at bs e.primitive).side_of e.end ≡ o.number = omega (arith, place, first) in
        subst (λ (n : ℕ). StandsFor (behaviour_at bs e.primitive) (behaviour_at ds e.primitive) n row old) (sym number)
        (subst (λ (i : ℕ). StandsFor (behaviour_at bs i) (behaviour_at ds i) o.number row old) (sym primitive) stands)

    -- Each row of a side of the set stands for one there.
    stands_by : row < (behaviour_at ds o.primitive).rows o.number → (old : ℕ) × StandsAt side row old × IsRowOf net side old
    stands_by row_in =
        let found = old_row row_in in
        (found.0, at_ends found.0 found.1, λ d. rw (owner_side bs side o d) found.1.in_table)

  pub stands_of : (side row : ℕ) → side < length (all_sides bs) → inside side ≡ true → IsRowOf other side row → (old : ℕ) × StandsAt side row old × IsRowOf net side old
  stands_of side row lt h row_in =
      let o = owner_of bs side lt in
      let d : Side = record { of = behaviour_at ds o.primitive; number = o.number } in
      let below = row_in d in
      stands_by side o h row (rw (side_other bs ds js wired nowhere shaped side o d) at below)

  module _ (e : End) (e_in : IsEnd bs e) where
    shape : SameShape (behaviour_at bs e.primitive) (behaviour_at ds e.primitive)
    shape = fewer.shape e.primitive e_in.0

    pub stands_here : (row : ℕ) → inside (side_at net e) ≡ true → row < (behaviour_at ds e.primitive).rows ((behaviour_at ds e.primitive).side_of e.end)
        → (old : ℕ) × StandsAt (side_at net e) row old × IsRowOf net (side_at net e) old
    stands_here row h row_in = stands_by (side_at net e) (owner_at net wired e e_in) h row (subst (λ (s : ℕ). row < (behaviour_at ds e.primitive).rows s) (shape.side_of e.end) row_in)

    module _ (row old : ℕ) (stands : StandsFor (behaviour_at bs e.primitive) (behaviour_at ds e.primitive) ((behaviour_at bs e.primitive).side_of e.end) row old) where
      abbrev b : Behaviour
      b = behaviour_at bs e.primitive

      abbrev d : Behaviour
      d = behaviour_at ds e.primitive

      pub old_mark : mark_in other row e ≡ mark_in net old e
      unfolding mark_in
      old_mark = ap (λ (s : ℕ). d.mark s row e.end) (shape.side_of e.end) ∙ stands.mark e.end (e_in.1, refl)

      pub old_passes : (behaviour_at bs e.primitive).takes_in e.end ≡ true → (item : Value)
          → (behaviour_at ds e.primitive).passes ((behaviour_at ds e.primitive).side_of e.end) row e.end item ≡ (behaviour_at bs e.primitive).passes ((behaviour_at bs e.primitive).side_of e.end) old e.end item
      old_passes takes item = ap (λ (s : ℕ). d.passes s row e.end item) (shape.side_of e.end) ∙ stands.passes e.end item (e_in.1, refl) takes

      module _ (flows : mark_in (record { primitives = bs; joints = js }) old e ≡ F) where
        -- A row that flows is no jam row.
        pub old_plain : IsPlainRow (behaviour_at bs e.primitive) ((behaviour_at bs e.primitive).side_of e.end) old
        unfolding mark_in
        old_plain =
            let lawful = wired.lawful e.primitive e_in.0 in
            let side : ℕ = b.side_of e.end in
            let below : old < b.rows side = stands.in_table in
            elim (cases_lt (old + 1) (b.rows side)) [
              | inl plain ↦ plain
              | inr last ↦
                  let jam : b.mark side old e.end ≡ J = lawful.jam_row side old e.end (lawful.sides_in e.end e_in.1) (e_in.1, refl) (omega (arith, below, last)) in
                  let wrong : F ≡ J = sym flows ∙ jam in cc
            ]

        gives_at : (behaviour_at bs e.primitive).takes_in e.end ≡ false → GivesAt (behaviour_at bs e.primitive) ((behaviour_at bs e.primitive).side_of e.end) old e.end
        unfolding mark_in
        gives_at gives = record { of_side = (wired.lawful e.primitive e_in.0).sides_in e.end e_in.1; in_table = stands.in_table; is_end = (e_in.1, refl); gives = gives; flows = flows }

        pub old_from : (behaviour_at bs e.primitive).takes_in e.end ≡ false → from_in other row e ≡ from_in net old e
        unfolding from_in
        old_from gives = ap (λ (s : ℕ). d.from s row e.end) (shape.side_of e.end) ∙ stands.from e.end (gives_at gives)

        pub old_given : (behaviour_at bs e.primitive).takes_in e.end ≡ false → (taken : Option Value)
            → (behaviour_at ds e.primitive).given ((behaviour_at ds e.primitive).side_of e.end) row e.end taken ≡ (behaviour_at bs e.primitive).given ((behaviour_at bs e.primitive).side_of e.end) old e.end taken
        old_given gives taken = ap (λ (s : ℕ). d.given s row e.end taken) (shape.side_of e.end) ∙ stands.given e.end taken (gives_at gives)
