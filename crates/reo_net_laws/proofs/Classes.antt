-- The classes of two rows of a side.
use Rattle.std.proofs.Common.{◌≡◌, ◌≢◌, inl, inr, ℕ, ◌+◌, ◌<◌, ◌≤◌, arith}
use Rattle.reo_net_base.specs.declared.mark.Mark.TheVariants.{F}
use Rattle.reo_net_base.specs.Behaviour.{Behaviour, IsEndOf, IsPlainRow, FlowsWithin}
use Rattle.reo_net_base.specs.Lawful.{IsLawful}
use Rattle.reo_net_laws.proofs.Search.{Decided, any_below, both_or, not_or, eq_or, flow_or}

module _ (b : Behaviour) (lawful : IsLawful b) (side row other turn : ℕ) (side_in : side < b.sides) (row_in : row < b.rows side) (plain : IsPlainRow b side other) (within : FlowsWithin b side row other) where
  -- A row that flows at more ends is of a smaller class.
  pub class_below : (end : ℕ) → IsEndOf b side end → b.mark side other end ≡ F → b.mark side row end ≢ F → b.class side other turn < b.class side row turn
  class_below end is flows not_flows =
      elim (eq_or (row + 1) (b.rows side)) [
        | inl last ↦ lawful.jam_last side other row turn side_in plain last
        | inr not_last ↦ lawful.more_flow side row other turn side_in (omega (arith, row_in, not_last)) plain within end is flows not_flows
      ]

  -- A row that flows where another does is of no greater class.
  pub class_at_most : b.class side other turn ≤ b.class side row turn
  class_at_most =
      elim (eq_or (row + 1) (b.rows side)) [
        | inl last ↦ let lt = lawful.jam_last side other row turn side_in plain last in omega (arith, lt)
        | inr not_last ↦
            let More : ℕ → Type 0 = λ end. (b.side_of end ≡ side) × ((b.mark side other end ≡ F) × (b.mark side row end ≢ F)) in
            let test : (end : ℕ) → Decided (More end) = λ end.
            both_or (b.side_of end ≡ side) ((b.mark side other end ≡ F) × (b.mark side row end ≢ F)) (eq_or (b.side_of end) side)
            (both_or (b.mark side other end ≡ F) (b.mark side row end ≢ F) (flow_or (b.mark side other end)) (not_or (b.mark side row end ≡ F) (flow_or (b.mark side row end)))) in
            elim (any_below More test b.ends) [
              | inl more ↦ let lt = class_below more.0 (more.1, more.2.0) more.2.1.0 more.2.1.1 in omega (arith, lt)
              | inr none ↦
                  let back : FlowsWithin b side other row = λ end is flows.
                  elim (flow_or (b.mark side row end)) [ inl f ↦ f | inr not_f ↦ absurd (none end is.0 (is.1, (flows, not_f))) ] in
                  let e = lawful.same_class side row other turn side_in (omega (arith, row_in, not_last)) plain within back in
                  omega (arith, e)
            ]
      ]
