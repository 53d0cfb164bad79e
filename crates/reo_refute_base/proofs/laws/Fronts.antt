-- Fronts of branches are what the reader can read.
use Rattle.std.proofs.Common.{◌≡◌, ◌⊎◌, inl, inr, ℕ, zero, suc, ◌<◌, List, [], ◌∷◌, ◌++◌, length, get_or, map, refl, ap, sym, ◌∙◌, subst, arith}
use Rattle.std.proofs.lemmas.List.{append-nil, append_assoc}
use Rattle.reo_net_base.specs.Net.{Net}
use Rattle.reo_joint_values.specs.declared.value.JointValue.{JointValue}
use Rattle.reo_joint_values.specs.declared.value.JointValue.TheVariants.{Jam}
use Rattle.reo_joint_values.specs.Values.{Family}
use Rattle.reo_refute_base.specs.declared.line.LogLine.{LogLine}
use Rattle.reo_refute_base.specs.declared.line.LogLine.TheVariants.{Drop, Empty, Split}
use Rattle.reo_refute_base.specs.Items.{Lists}
use Rattle.reo_refute_base.specs.Live.{live_at, without, alone}
use Rattle.reo_refute_base.specs.Logs.{joined, IsBranch}
use Rattle.reo_refute_base.specs.Logs.IsBranch.{drop as branch_drop, empty as branch_empty, split as branch_split}
use Rattle.reo_refute_base.specs.Places.{IsAllowed}
use Rattle.reo_refute_base.specs.Fronts.{IsBranchFront}
use Rattle.reo_refute_base.specs.Steps.{branches, IsStep, AreSteps, FrontsAreRead}
use Rattle.reo_refute_base.specs.Steps.IsStep.{drop as step_drop, empty as step_empty, split as step_split}
use Rattle.reo_refute_base.specs.Fronts.IsBranchFront.{begun, whole, dropped, opened}
use Rattle.reo_refute_base.specs.Steps.AreSteps.{none, more}
use Rattle.reo_refute_base.proofs.laws.Reading.{LeadsPast, lead}

module _ (net : Net) (lists : Lists) (allowed : ℕ → ℕ → Type 0) where
  -- The reader comes somewhere.
  abbrev Comes : List Family → List LogLine → Type 0
  Comes before lines = (after : List Family) × AreSteps net lists allowed before lines after

  lead_some : (live : Family) (j : ℕ) (vs : List JointValue) (pieces : List (List LogLine)) (last : List LogLine) → length pieces < length vs
      → ((m : ℕ) → m < length pieces → LeadsPast net lists allowed (alone live j (get_or vs m Jam)) (get_or pieces m []))
      → ((open' : List Family) → Comes (alone live j (get_or vs (length pieces) Jam) ∷ open') last)
      → (open' : List Family) → Comes (map (alone live j) vs ++ open') (joined pieces ++ last)
  lead_some live j [] pieces last lt each end open' = absurd (omega (arith, lt))
  lead_some live j (v ∷ vs) [] last lt each end open' = end (map (alone live j) vs ++ open')
  lead_some live j (v ∷ vs) (p ∷ ps) last lt each end open' =
      let later = lead_some live j vs ps last (omega (arith, lt)) (λ m m_lt. each (suc m) (omega (arith, m_lt))) end open' in (
        later.0,
        subst (λ (l : List LogLine). AreSteps net lists allowed (alone live j v ∷ (map (alone live j) vs ++ open')) l later.0) (sym (append_assoc p (joined ps) last))
            (each zero (omega arith) (map (alone live j) vs ++ open') later.0 (joined ps ++ last) later.1),
      )

  comes : (live : Family) (lines : List LogLine) → IsBranchFront net lists allowed live lines → (open' : List Family) → Comes (live ∷ open') lines
  comes live lines (begun now) open' = (now ∷ open', none (now ∷ open'))
  comes live lines (whole now ls is) open' =
      (open', subst (λ (l : List LogLine). AreSteps net lists allowed (now ∷ open') l open') (append-nil ls) (lead net lists allowed now ls is open' open' [] (none open')))
  comes live lines (dropped now j v side rest may front) open' =
      let later = comes (without now j v) rest front open' in
      (later.0, more (now ∷ open') (without now j v ∷ open') later.0 (Drop j v side) rest (step_drop now open' j v side may) later.1)
  comes live lines (opened now j pieces last may lt each front) open' =
      let later = lead_some now j (live_at lists now j) pieces last lt (λ m m_lt. lead net lists allowed (alone now j (get_or (live_at lists now j) m Jam)) (get_or pieces m []) (each m m_lt))
      (λ o. comes (alone now j (get_or (live_at lists now j) (length pieces) Jam)) last front o) open' in
      (later.0, more (now ∷ open') (branches lists now j ++ open') later.0 (Split j) (joined pieces ++ last) (step_split now open' j may) later.1)

  -- Lines are a front of the first family's branch, or that branch and fronts of the others.
  abbrev AreFronts : List Family → List LogLine → Type 0
  AreFronts [] lines = lines ≡ []
  AreFronts (f ∷ fs) lines = IsBranchFront net lists allowed f lines
      ⊎ ((p : List LogLine) × (q : List LogLine) × IsBranch net lists allowed f p × AreFronts fs q × (lines ≡ p ++ q))

  record Stops (live : Family) (j : ℕ) (vs : List JointValue) (lines : List LogLine) : Type 0 where
    pieces : List (List LogLine)
    last : List LogLine
    fewer : length pieces < length vs
    each : (m : ℕ) → m < length pieces → IsBranch net lists allowed (alone live j (get_or vs m Jam)) (get_or pieces m [])
    front : IsBranchFront net lists allowed (alone live j (get_or vs (length pieces) Jam)) last
    lines_are : lines ≡ joined pieces ++ last

  record Passes (live : Family) (j : ℕ) (vs : List JointValue) (open' : List Family) (lines : List LogLine) : Type 0 where
    pieces : List (List LogLine)
    rest : List LogLine
    count : length pieces ≡ length vs
    each : (m : ℕ) → m < length pieces → IsBranch net lists allowed (alone live j (get_or vs m Jam)) (get_or pieces m [])
    fronts : AreFronts open' rest
    lines_are : lines ≡ joined pieces ++ rest

  one_first : (live : Family) (j : ℕ) (v : JointValue) (vs : List JointValue) (p : List LogLine) (ps : List (List LogLine)) → IsBranch net lists allowed (alone live j v) p
      → ((m : ℕ) → m < length ps → IsBranch net lists allowed (alone live j (get_or vs m Jam)) (get_or ps m []))
      → (m : ℕ) → m < length (p ∷ ps) → IsBranch net lists allowed (alone live j (get_or (v ∷ vs) m Jam)) (get_or (p ∷ ps) m [])
  one_first live j v vs p ps first each zero lt = first
  one_first live j v vs p ps first each (suc m) lt = each m (omega (arith, lt))

  apart : (live : Family) (j : ℕ) (vs : List JointValue) (open' : List Family) (lines : List LogLine) → AreFronts (map (alone live j) vs ++ open') lines
      → Stops live j vs lines ⊎ Passes live j vs open' lines
  apart live j [] open' lines are = inr (record { pieces = []; rest = lines; count = refl; each = λ m lt. absurd (omega (arith, lt)); fronts = are; lines_are = refl })
  apart live j (v ∷ vs) open' lines (inl front) = inl (record { pieces = []; last = lines; fewer = omega arith; each = λ m lt. absurd (omega (arith, lt)); front = front; lines_are = refl })
  apart live j (v ∷ vs) open' lines (inr (p, q, is, are, lines_are)) =
      elim (apart live j vs open' q are) [
        | inl s ↦ inl (record {
          pieces = p ∷ s.pieces;
          last = s.last;
          fewer = omega (arith, s.fewer);
          each = one_first live j v vs p s.pieces is s.each;
          front = s.front;
          lines_are = lines_are ∙ ap (λ (l : List LogLine). p ++ l) s.lines_are ∙ sym (append_assoc p (joined s.pieces) s.last);
        })
        | inr s ↦ inr (record {
          pieces = p ∷ s.pieces;
          rest = s.rest;
          count = ap suc s.count;
          each = one_first live j v vs p s.pieces is s.each;
          fronts = s.fronts;
          lines_are = lines_are ∙ ap (λ (l : List LogLine). p ++ l) s.lines_are ∙ sym (append_assoc p (joined s.pieces) s.rest);
        })
      ]

  one_more : (before now : List Family) (line : LogLine) (rest : List LogLine) → IsStep net lists allowed before line now → AreFronts now rest → AreFronts before (line ∷ rest)
  one_more before now line rest (step_drop live open' j v side may) (inl front) = inl (dropped live j v side rest may front)
  one_more before now line rest (step_drop live open' j v side may) (inr (p, q, is, are, lines_are)) =
      inr (Drop j v side ∷ p, q, branch_drop live j v side p may is, are, ap (λ (l : List LogLine). Drop j v side ∷ l) lines_are)
  one_more before now line rest (step_empty live open' j is) are = inr (Empty j ∷ [], rest, branch_empty live j is, are, refl)
  one_more before now line rest (step_split live open' j may) are =
      elim (apart live j (live_at lists live j) open' rest are) [
        | inl s ↦ inl (subst (λ (l : List LogLine). IsBranchFront net lists allowed live (Split j ∷ l)) (sym s.lines_are) (opened live j s.pieces s.last may s.fewer s.each s.front))
        | inr s ↦ inr (Split j ∷ joined s.pieces, s.rest, branch_split live j s.pieces may s.count s.each, s.fronts, ap (λ (l : List LogLine). Split j ∷ l) s.lines_are)
      ]

  nothing_yet : (open' : List Family) → AreFronts open' []
  nothing_yet [] = refl
  nothing_yet (f ∷ fs) = inl (begun f)

  fronts : (before : List Family) (lines : List LogLine) (after : List Family) → AreSteps net lists allowed before lines after → AreFronts before lines
  fronts before lines after (none open') = nothing_yet open'
  fronts before lines after (more first now last line rest is steps) = one_more first now line rest is (fronts now rest last steps)

  one_front : (live : Family) (lines : List LogLine) → AreFronts (live ∷ []) lines → IsBranchFront net lists allowed live lines
  one_front live lines (inl front) = front
  one_front live lines (inr (p, q, is, are, lines_are)) =
      whole live lines (subst (IsBranch net lists allowed live) (sym (lines_are ∙ ap (λ (l : List LogLine). p ++ l) are ∙ append-nil p)) is)

pub fronts_are_read : FrontsAreRead
fronts_are_read net turn given lists p live lines = (
  λ front. comes net lists (IsAllowed net turn given p) live lines front [],
  λ found. one_front net lists (IsAllowed net turn given p) live lines (fronts net lists (IsAllowed net turn given p) (live ∷ []) lines found.0 found.1),
)
