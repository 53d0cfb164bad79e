-- What is live at a joint, and the marks there.
use Rattle.std.proofs.Common.{◌≡◌, ◌≢◌, ◌↔◌, inl, inr, ℕ, ◌<◌, Bool, true, false, ◌||◌, ◌&&◌, not, List, length, get_or, refl, ap, sym, ◌∙◌, subst, arith}
use Rattle.std.specs.Prelude.{IsTrue}
use Rattle.std.specs.Bool.{◌==◌}
use Rattle.std.proofs.lemmas.Bool.{cases_lt, or_left, or_right, and_parts, or_cases, eq-eqb, ne_eqb}
use Rattle.std.proofs.lemmas.Bool.Decides.{nat_tests}
use Rattle.std.proofs.lemmas.List.{get_or_past}
use Rattle.reo_net_base.specs.declared.mark.Mark.{Mark}
use Rattle.reo_net_base.specs.declared.mark.Mark.TheVariants.{F, G, R, J}
use Rattle.reo_joint_values.specs.declared.value.JointValue.{JointValue}
use Rattle.reo_joint_values.specs.declared.value.JointValue.TheVariants.{Flow, RG, GR, GG, Jam}
use Rattle.reo_joint_values.specs.Values.{Family, value_eq}
use Rattle.reo_joint_values.proofs.Narrowing.{value_same, same_value}
use Rattle.reo_refute_base.specs.Live.{alone}
use Rattle.reo_refute_live.specs.declared.support.live.LiveAt.{LiveAt}
use Rattle.reo_side_tables.specs.declared.sets.Marks.{Marks}
use Rattle.reo_refute_live.specs.support.Families.{has}
use Rattle.reo_refute_live.specs.support.Marks.{value_mark, HasMark, IsMarkOf}
use Rattle.reo_side_tables.specs.Sets.{marks_has}

-- A flag that is set is in its list.
pub flag_in : (flags : List Bool) (n : ℕ) → get_or flags n false ≡ true → n < length flags
flag_in flags n h = elim (cases_lt n (length flags)) [
  | inl lt ↦ lt
  | inr past ↦ let none : true ≡ false = sym h ∙ get_or_past flags n false past in absurd cc
]

-- The marks of what is live, at the giver and at the taker.
abbrev pub giver_marks : LiveAt → Bool → Marks
giver_marks live flow = record { flow = flow; given = live.gr || live.gg; required = live.rg; jam = live.jam }

abbrev pub taker_marks : LiveAt → Bool → Marks
taker_marks live flow = record { flow = flow; given = live.rg || live.gg; required = live.gr; jam = live.jam }

module _ (live : LiveAt) (flow : Bool) (is_flow : IsTrue flow ↔ ((n : ℕ) × (get_or live.flows n false ≡ true))) where
  pub giver_exact : (m : Mark) → (marks_has (giver_marks live flow) m ≡ true) ↔ IsMarkOf (has live) true m
  giver_exact m = (λ h. to m h, λ x. from m x.value x.has x.marked)
    where
      to : (m : Mark) → marks_has (giver_marks live flow) m ≡ true → IsMarkOf (has live) true m
      to F h = let f = is_flow.0 h in record { value = Flow f.0; has = f.1; marked = refl }
      to G h = elim (or_cases live.gr live.gg h) [ inl a ↦ record { value = GR; has = a; marked = refl } | inr b ↦ record { value = GG; has = b; marked = refl } ]
      to R h = record { value = RG; has = h; marked = refl }
      to J h = record { value = Jam; has = h; marked = refl }

      from : (m : Mark) (v : JointValue) → has live v ≡ true → value_mark true v ≡ m → marks_has (giver_marks live flow) m ≡ true
      from m (Flow n) h e = subst (λ (x : Mark). marks_has (giver_marks live flow) x ≡ true) e (is_flow.1 (n, h))
      from m RG h e = subst (λ (x : Mark). marks_has (giver_marks live flow) x ≡ true) e h
      from m GR h e = subst (λ (x : Mark). marks_has (giver_marks live flow) x ≡ true) e (or_left live.gr live.gg h)
      from m GG h e = subst (λ (x : Mark). marks_has (giver_marks live flow) x ≡ true) e (or_right live.gr live.gg h)
      from m Jam h e = subst (λ (x : Mark). marks_has (giver_marks live flow) x ≡ true) e h

  pub taker_exact : (m : Mark) → (marks_has (taker_marks live flow) m ≡ true) ↔ IsMarkOf (has live) false m
  taker_exact m = (λ h. to m h, λ x. from m x.value x.has x.marked)
    where
      to : (m : Mark) → marks_has (taker_marks live flow) m ≡ true → IsMarkOf (has live) false m
      to F h = let f = is_flow.0 h in record { value = Flow f.0; has = f.1; marked = refl }
      to G h = elim (or_cases live.rg live.gg h) [ inl a ↦ record { value = RG; has = a; marked = refl } | inr b ↦ record { value = GG; has = b; marked = refl } ]
      to R h = record { value = GR; has = h; marked = refl }
      to J h = record { value = Jam; has = h; marked = refl }

      from : (m : Mark) (v : JointValue) → has live v ≡ true → value_mark false v ≡ m → marks_has (taker_marks live flow) m ≡ true
      from m (Flow n) h e = subst (λ (x : Mark). marks_has (taker_marks live flow) x ≡ true) e (is_flow.1 (n, h))
      from m RG h e = subst (λ (x : Mark). marks_has (taker_marks live flow) x ≡ true) e (or_left live.rg live.gg h)
      from m GR h e = subst (λ (x : Mark). marks_has (taker_marks live flow) x ≡ true) e h
      from m GG h e = subst (λ (x : Mark). marks_has (taker_marks live flow) x ≡ true) e (or_right live.rg live.gg h)
      from m Jam h e = subst (λ (x : Mark). marks_has (taker_marks live flow) x ≡ true) e h

alone_other : (a b c : Bool) → b ≡ false → a && (not b || c) ≡ a
alone_other a b c e = grind (arith, nat_tests)

alone_here : (a b c : Bool) → b ≡ true → a && (not b || c) ≡ a && c
alone_here a b c e = grind (arith, nat_tests)

-- Besides the joint that is held all is as it was.
pub others_stay : (live : Family) (held : ℕ) (v : JointValue) (j : ℕ) → j ≢ held → (w : JointValue) → alone live held v j w ≡ live j w
others_stay live held v j off w = alone_other (live j w) (j == held) (value_eq w v) (ne_eqb j held off)

-- The marks of what is live besides the joint that is held.
pub marks_other : (live : Family) (held : ℕ) (v : JointValue) (j : ℕ) → j ≢ held → (gives : Bool) (m : Mark) → IsMarkOf (live j) gives m ↔ HasMark (alone live held v) j gives m
marks_other live held v j off gives m = (
  λ x. record { value = x.value; has = others_stay live held v j off x.value ∙ x.has; marked = x.marked },
  λ x. record { value = x.value; has = sym (others_stay live held v j off x.value) ∙ x.has; marked = x.marked },
)

-- At the joint that is held there is the mark of the one value.
pub marks_held : (live : Family) (held : ℕ) (v : JointValue) (j : ℕ) → j ≡ held → live held v ≡ true → (gives : Bool) (m : Mark) → (value_mark gives v ≡ m) ↔ HasMark (alone live held v) j gives m
marks_held live held v j at is gives m = (
  λ e. record {
    value = v;
    has = alone_here (live j v) (j == held) (value_eq v v) (eq-eqb j held at) ∙ both (live j v) (value_eq v v) (ap (λ (i : ℕ). live i v) at ∙ is) (value_same v);
    marked = e;
  },
  λ x.
      let pair = and_parts (live j x.value) (value_eq x.value v) (sym (alone_here (live j x.value) (j == held) (value_eq x.value v) (eq-eqb j held at)) ∙ x.has) in
      ap (value_mark gives) (sym (same_value x.value v pair.1)) ∙ x.marked,
)
  where
    both : (a b : Bool) → a ≡ true → b ≡ true → a && b ≡ true
    both a b e f = grind (arith, nat_tests)
