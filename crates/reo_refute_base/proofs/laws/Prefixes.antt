-- What a front of a right log begins with is one.
use Rattle.std.proofs.Common.{◌≡◌, ◌⊎◌, inl, inr, ℕ, ◌+◌, List, [], ◌∷◌, ◌++◌, refl, sym, subst}
use Rattle.reo_net_base.specs.Net.{Net}
use Rattle.reo_joint_values.specs.Values.{Family}
use Rattle.reo_refute_base.specs.declared.line.LogLine.{LogLine}
use Rattle.reo_refute_base.specs.declared.line.LogLine.TheVariants.{At}
use Rattle.reo_refute_base.specs.Items.{Lists}
use Rattle.reo_refute_base.specs.Live.{all_live}
use Rattle.reo_refute_base.specs.Logs.{AreParts}
use Rattle.reo_refute_base.specs.Logs.AreParts.{done, part}
use Rattle.reo_refute_base.specs.Fronts.{IsBranchFront, ArePartsFront}
use Rattle.reo_refute_base.specs.Fronts.IsBranchFront.{whole}
use Rattle.reo_refute_base.specs.Fronts.ArePartsFront.{begun, inside, past}
use Rattle.reo_refute_base.specs.Places.{IsAllowed}
use Rattle.reo_refute_base.specs.Steps.{IsStep, AreSteps}
use Rattle.reo_refute_base.specs.Steps.AreSteps.{none, more}
use Rattle.reo_refute_base.proofs.laws.Fronts.{fronts_are_read}

pub heads_same : {X : Type 0} (x y : X) (xs ys : List X) → x ∷ xs ≡ y ∷ ys → x ≡ y
heads_same x y xs ys e = cc

pub tails_same : {X : Type 0} (x y : X) (xs ys : List X) → x ∷ xs ≡ y ∷ ys → xs ≡ ys
tails_same x y xs ys e = cc

both_same : {X : Type 0} (x y : X) (xs ys : List X) → x ≡ y → xs ≡ ys → x ∷ xs ≡ y ∷ ys
both_same x y xs ys e f = cc

-- Of two ways to cut a list one cut comes first.
pub cut_or : {X : Type 0} (bs rs xs ys : List X) → bs ++ rs ≡ xs ++ ys → ((m : List X) × (bs ≡ xs ++ m)) ⊎ ((m : List X) × (xs ≡ bs ++ m) × (rs ≡ m ++ ys))
cut_or [] rs xs ys e = inr (xs, refl, e)
cut_or (b ∷ bs) rs [] ys e = inl (b ∷ bs, refl)
cut_or (b ∷ bs) rs (x ∷ xs) ys e =
    let same : b ≡ x = heads_same b x (bs ++ rs) (xs ++ ys) e in
    elim (cut_or bs rs xs ys (tails_same b x (bs ++ rs) (xs ++ ys) e)) [
      | inl s ↦ inl (s.0, both_same b x bs (xs ++ s.0) same s.1)
      | inr s ↦ inr (s.0, both_same x b xs (bs ++ s.0) (sym same) s.1, s.2)
    ]

module _ (net : Net) (lists : Lists) (allowed : ℕ → ℕ → Type 0) where
  -- The reader reads what lines begin with.
  pub steps_front : (before lines_all : List Family) (lines : List LogLine) → AreSteps net lists allowed before lines lines_all → (xs ys : List LogLine) → lines ≡ xs ++ ys
      → (now : List Family) × AreSteps net lists allowed before xs now
  steps_front before after lines steps [] ys e = (before, none before)
  steps_front before after lines (none o) (x ∷ xs) ys e = absurd (cc)
  steps_front before after lines (more f now a line rest is steps) (x ∷ xs) ys e =
      let same : line ≡ x = heads_same line x rest (xs ++ ys) e in
      let r = steps_front now a rest steps xs ys (tails_same line x rest (xs ++ ys) e) in
      (r.0, more f now r.0 x xs (subst (λ (l : LogLine). IsStep net lists allowed f l now) same is) r.1)

module _ (net : Net) (turn : ℕ) (given : List ℕ) (lists : Lists) where
  branch_front : (p : ℕ) (live : Family) (lines xs ys : List LogLine) → IsBranchFront net lists (IsAllowed net turn given p) live lines → lines ≡ xs ++ ys
      → IsBranchFront net lists (IsAllowed net turn given p) live xs
  branch_front p live lines xs ys is e =
      let r = (fronts_are_read net turn given lists p live lines).0 is in
      (fronts_are_read net turn given lists p live xs).1 (steps_front net lists (IsAllowed net turn given p) (live ∷ []) r.0 lines r.1 xs ys e)

  pub parts_front : (from : ℕ) (lines : List LogLine) → ArePartsFront net turn given lists from lines → (xs ys : List LogLine) → lines ≡ xs ++ ys
      → ArePartsFront net turn given lists from xs
  parts_front from lines is [] ys e = begun from
  parts_front from lines (begun f) (x ∷ xs) ys e = absurd (cc)
  parts_front from lines (inside f p front first is) (x ∷ xs) ys e =
      let same : At p ≡ x = heads_same (At p) x front (xs ++ ys) e in
      subst (λ (l : LogLine). ArePartsFront net turn given lists f (l ∷ xs)) same
      (inside f p xs first (branch_front p (all_live lists) front xs ys is (tails_same (At p) x front (xs ++ ys) e)))
  parts_front from lines (past f p branch rest first is later) (x ∷ xs) ys e =
      let same : At p ≡ x = heads_same (At p) x (branch ++ rest) (xs ++ ys) e in
      subst (λ (l : LogLine). ArePartsFront net turn given lists f (l ∷ xs)) same
      (elim (cut_or branch rest xs ys (tails_same (At p) x (branch ++ rest) (xs ++ ys) e)) [
        | inl s ↦ inside f p xs first (branch_front p (all_live lists) branch xs s.0 (whole (all_live lists) branch is) s.1)
        | inr s ↦ subst (λ (l : List LogLine). ArePartsFront net turn given lists f (At p ∷ l)) (sym s.1) (past f p branch s.0 first is (parts_front (p + 1) rest later s.0 ys s.2))
      ])

  pub parts_are_front : (from : ℕ) (lines : List LogLine) → AreParts net turn given lists from lines → ArePartsFront net turn given lists from lines
  parts_are_front from lines (done f none_live) = begun f
  parts_are_front from lines (part f p branch rest first is later) = past f p branch rest first is (parts_are_front (p + 1) rest later)
