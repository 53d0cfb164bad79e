-- The marks of the values that a joint has.
use Rattle.std.proofs.Common.{◌≡◌, ◌↔◌, inl, inr, ℕ, Bool, true, ◌||◌, ap, sym, ◌∙◌, subst}
use Rattle.std.proofs.lemmas.Bool.{or_cases, or_left, or_right}
use Rattle.reo_net_base.specs.declared.mark.Mark.{Mark}
use Rattle.reo_net_base.specs.declared.mark.Mark.TheVariants.{F, G, R, J}
use Rattle.reo_net_base.specs.Net.{Net}
use Rattle.reo_joint_values.specs.declared.value.JointValue.{JointValue}
use Rattle.reo_joint_values.specs.declared.value.JointValue.TheVariants.{Flow, RG, GR, GG, Jam}
use Rattle.reo_joint_values.specs.Values.{giver_mark, taker_mark, Family}
use Rattle.reo_side_tables.specs.declared.sets.Marks.{Marks}
use Rattle.reo_rows.specs.Stands.{value_mark, HasMark}
use Rattle.reo_side_tables.specs.Sets.{marks_has}

abbrev pub HasFlow : Family → ℕ → Type 0
HasFlow family j = (n : ℕ) × (family j (Flow n) ≡ true)

-- The marks of all that a joint has, at the giver.
abbrev pub givers : Family → ℕ → Bool → Marks
givers family j flow = record { flow = flow; given = family j GR || family j GG; required = family j RG; jam = family j Jam }

-- And at the taker.
abbrev pub takers : Family → ℕ → Bool → Marks
takers family j flow = record { flow = flow; given = family j RG || family j GG; required = family j GR; jam = family j Jam }

module _ (net : Net) (family : Family) (side j : ℕ) (flow : Bool) (is_flow : (flow ≡ true) ↔ HasFlow family j) where
  module _ (seen : (v : JointValue) → value_mark net side j v ≡ giver_mark v) where
    giver_to : (m : Mark) → marks_has (givers family j flow) m ≡ true → HasMark net family side j m
    giver_to F h = let f = is_flow.0 h in record { value = Flow f.0; has = f.1; marked = seen (Flow f.0) }
    giver_to G h = elim (or_cases (family j GR) (family j GG) h) [ inl x ↦ record { value = GR; has = x; marked = seen GR } | inr x ↦ record { value = GG; has = x; marked = seen GG } ]
    giver_to R h = record { value = RG; has = h; marked = seen RG }
    giver_to J h = record { value = Jam; has = h; marked = seen Jam }

    giver_from : (v : JointValue) → family j v ≡ true → marks_has (givers family j flow) (giver_mark v) ≡ true
    giver_from (Flow n) h = is_flow.1 (n, h)
    giver_from RG h = h
    giver_from GR h = or_left (family j GR) (family j GG) h
    giver_from GG h = or_right (family j GR) (family j GG) h
    giver_from Jam h = h

    pub giver_left : (m : Mark) → (marks_has (givers family j flow) m ≡ true) ↔ HasMark net family side j m
    giver_left m = (giver_to m, λ h. subst (λ (x : Mark). marks_has (givers family j flow) x ≡ true) (sym (seen h.value) ∙ h.marked) (giver_from h.value h.has))

  module _ (seen : (v : JointValue) → value_mark net side j v ≡ taker_mark v) where
    taker_to : (m : Mark) → marks_has (takers family j flow) m ≡ true → HasMark net family side j m
    taker_to F h = let f = is_flow.0 h in record { value = Flow f.0; has = f.1; marked = seen (Flow f.0) }
    taker_to G h = elim (or_cases (family j RG) (family j GG) h) [ inl x ↦ record { value = RG; has = x; marked = seen RG } | inr x ↦ record { value = GG; has = x; marked = seen GG } ]
    taker_to R h = record { value = GR; has = h; marked = seen GR }
    taker_to J h = record { value = Jam; has = h; marked = seen Jam }

    taker_from : (v : JointValue) → family j v ≡ true → marks_has (takers family j flow) (taker_mark v) ≡ true
    taker_from (Flow n) h = is_flow.1 (n, h)
    taker_from RG h = or_left (family j RG) (family j GG) h
    taker_from GR h = h
    taker_from GG h = or_right (family j RG) (family j GG) h
    taker_from Jam h = h

    pub taker_left : (m : Mark) → (marks_has (takers family j flow) m ≡ true) ↔ HasMark net family side j m
    taker_left m = (taker_to m, λ h. subst (λ (x : Mark). marks_has (takers family j flow) x ≡ true) (sym (seen h.value) ∙ h.marked) (taker_from h.value h.has))

-- What a test of a mark says, where these are the marks left.
pub left_test : (net : Net) (family : Family) (side j : ℕ) (marks : Marks) (answer : Bool) (asked mark : Mark) → answer ≡ marks_has marks asked → asked ≡ mark
    → ((m : Mark) → (marks_has marks m ≡ true) ↔ HasMark net family side j m) → (answer ≡ true) ↔ HasMark net family side j mark
left_test net family side j marks answer asked mark is same left =
    let whole : answer ≡ marks_has marks mark = is ∙ ap (marks_has marks) same in
    (λ h. (left mark).0 (sym whole ∙ h), λ h. whole ∙ (left mark).1 h)
