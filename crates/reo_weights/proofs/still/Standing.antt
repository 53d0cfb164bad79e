-- How the class of a row stands to that of a row by which nothing flows.
use Rattle.std.proofs.Common.{◌≡◌, ◌≢◌, ◌⊎◌, inl, inr, ℕ, ◌+◌, ◌<◌, ap, sym, ◌∙◌, arith}
use Rattle.std.specs.declared.cmp.Ordering.TheVariants.{Greater}
use Rattle.std.specs.Ordering.{nat_cmp}
use Rattle.std.specs.Cmp.{nat_cmp_is}
use Rattle.reo_net_base.specs.declared.mark.Mark.TheVariants.{F}
use Rattle.reo_net_base.specs.Behaviour.{Behaviour, IsEndOf, IsPlainRow, FlowsWithin}
use Rattle.reo_net_base.specs.Lawful.{IsLawful}
use Rattle.reo_net_laws.proofs.Places.{equal_numbers, less_numbers}
use Rattle.reo_net_laws.proofs.Search.{any_below, both_or, eq_or, flow_or}

greater_numbers : (x y : ℕ) → y < x → nat_cmp x y ≡ Greater
greater_numbers x y h = sym (nat_cmp_is x y Greater h)

-- One of two numbers that hang on the round is below the other in each round, or they are the same in each.
abbrev StandsAlways : (ℕ → ℕ) → (ℕ → ℕ) → Type 0
StandsAlways f g = ((turn : ℕ) → f turn < g turn) ⊎ (((turn : ℕ) → f turn ≡ g turn) ⊎ ((turn : ℕ) → g turn < f turn))

-- Such numbers compare in each round alike.
compared_alike : (f g : ℕ → ℕ) → StandsAlways f g → (turn later : ℕ) → nat_cmp (f turn) (g turn) ≡ nat_cmp (f later) (g later)
compared_alike f g (inl less) turn later = less_numbers (f turn) (g turn) (less turn) ∙ sym (less_numbers (f later) (g later) (less later))
compared_alike f g (inr (inl same)) turn later = equal_numbers (f turn) (g turn) (same turn) ∙ sym (equal_numbers (f later) (g later) (same later))
compared_alike f g (inr (inr more)) turn later = greater_numbers (f turn) (g turn) (more turn) ∙ sym (greater_numbers (f later) (g later) (more later))

module _ (b : Behaviour) (lawful : IsLawful b) (side other row : ℕ) (side_in : side < b.sides) (other_in : other < b.rows side) (row_in : row < b.rows side)
    (still : (end : ℕ) → IsEndOf b side end → b.mark side row end ≢ F) where
  within_other : FlowsWithin b side row other
  within_other end is flows = absurd (still end is flows)

  -- Of two rows that do not jam.
  plain_stands : IsPlainRow b side other → IsPlainRow b side row → StandsAlways (b.class side other) (b.class side row)
  plain_stands other_plain row_plain =
      elim (any_below (λ end. (b.side_of end ≡ side) × (b.mark side other end ≡ F)) (λ end. both_or (b.side_of end ≡ side) (b.mark side other end ≡ F) (eq_or (b.side_of end) side) (flow_or (b.mark side other end))) b.ends) [
        | inl found ↦
            let is : IsEndOf b side found.0 = (found.1, found.2.0) in
            inl (λ turn. lawful.more_flow side row other turn side_in row_plain other_plain within_other found.0 is found.2.1 (still found.0 is))
        | inr none ↦ inr (inl (λ turn. lawful.same_class side other row turn side_in other_plain row_plain (λ end is flows. absurd (none end is.0 (is.1, flows))) within_other))
      ]

  -- The class of another row stands to the one of this in each round alike.
  pub class_stands : StandsAlways (b.class side other) (b.class side row)
  class_stands =
      elim (eq_or (other + 1) (b.rows side)) [
        | inl other_last ↦ elim (eq_or (row + 1) (b.rows side)) [
          | inl row_last ↦ let same : other ≡ row = omega arith in inr (inl (λ turn. ap (λ (r : ℕ). b.class side r turn) same))
          | inr row_not ↦ inr (inr (λ turn. lawful.jam_last side row other turn side_in (omega (arith, row_in, row_not)) other_last))
        ]
        | inr other_not ↦ elim (eq_or (row + 1) (b.rows side)) [
          | inl row_last ↦ inl (λ turn. lawful.jam_last side other row turn side_in (omega (arith, other_in, other_not)) row_last)
          | inr row_not ↦ plain_stands (omega (arith, other_in, other_not)) (omega (arith, row_in, row_not))
        ]
      ]

  -- So the two classes compare in two rounds alike.
  pub class_alike : (turn later : ℕ) → nat_cmp (b.class side other turn) (b.class side row turn) ≡ nat_cmp (b.class side other later) (b.class side row later)
  class_alike turn later = compared_alike (b.class side other) (b.class side row) class_stands turn later
