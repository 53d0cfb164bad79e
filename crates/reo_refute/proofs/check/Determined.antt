-- A reader of lines comes to one list of open branches.
use Rattle.std.proofs.Common.{◌≡◌, ℕ, List, [], ◌∷◌, ◌++◌, refl, ap, sym, ◌∙◌, subst}
use Rattle.reo_values.proofs.Sequences.{not_nil}
use Rattle.reo_net_base.specs.Net.{Net}
use Rattle.reo_joint_values.specs.Values.{Family}
use Rattle.reo_refute_base.specs.declared.line.LogLine.{LogLine}
use Rattle.reo_refute_base.specs.declared.line.LogLine.TheVariants.{At, Drop, Empty, Split}
use Rattle.reo_refute_base.specs.Items.{Lists}
use Rattle.reo_refute_base.specs.Live.{without}
use Rattle.reo_refute_base.specs.Steps.{branches, IsStep, AreSteps}
use Rattle.reo_refute_base.specs.Steps.IsStep.{drop, empty, split}
use Rattle.reo_refute_base.specs.Steps.AreSteps.{none, more}
use Rattle.reo_refute_base.proofs.laws.Prefixes.{heads_same, tails_same}

-- What is open behind a line.
abbrev behind : Lists → Family → List Family → LogLine → List Family
behind lists f o (At p) = []
behind lists f o (Drop j v side) = without f j v ∷ o
behind lists f o (Empty j) = o
behind lists f o (Split j) = branches lists f j ++ o

module _ (net : Net) (lists : Lists) (allowed : ℕ → ℕ → Type 0) where
  step_is : (before now : List Family) (line : LogLine) → IsStep net lists allowed before line now → (f : Family) (o : List Family) → before ≡ f ∷ o → now ≡ behind lists f o line
  step_is before now line (drop live open' j v side may) f o e =
      ap (λ (x : Family). without x j v ∷ open') (heads_same live f open' o e) ∙ ap (λ (l : List Family). without f j v ∷ l) (tails_same live f open' o e)
  step_is before now line (empty live open' j is) f o e = tails_same live f open' o e
  step_is before now line (split live open' j may) f o e =
      ap (λ (x : Family). branches lists x j ++ open') (heads_same live f open' o e) ∙ ap (λ (l : List Family). branches lists f j ++ l) (tails_same live f open' o e)

  -- Where no branch is open no line goes on.
  pub step_open : (before now : List Family) (line : LogLine) → IsStep net lists allowed before line now → before ≡ [] → ⊥
  step_open before now line (drop live open' j v side may) e = not_nil live open' e
  step_open before now line (empty live open' j is) e = not_nil live open' e
  step_open before now line (split live open' j may) e = not_nil live open' e

  -- No line begins a part inside of a branch.
  pub step_at : (before now : List Family) (line : LogLine) → IsStep net lists allowed before line now → (p : ℕ) → line ≡ At p → ⊥
  step_at before now line (drop live open' j v side may) p e = cc
  step_at before now line (empty live open' j is) p e = cc
  step_at before now line (split live open' j may) p e = cc

  pub step_same : (before a b : List Family) (line : LogLine) → IsStep net lists allowed before line a → IsStep net lists allowed before line b → a ≡ b
  step_same [] a b line s t = absurd (step_open [] a line s refl)
  step_same (f ∷ o) a b line s t = step_is (f ∷ o) a line s f o refl ∙ sym (step_is (f ∷ o) b line t f o refl)

  pub steps_none : (before after : List Family) (lines : List LogLine) → AreSteps net lists allowed before lines after → before ≡ [] → lines ≡ []
  steps_none before after lines (none o) e = refl
  steps_none before after lines (more f now a line rest is steps) e = absurd (step_open f now line is e)

  pub steps_stay : (before after : List Family) (lines : List LogLine) → AreSteps net lists allowed before lines after → lines ≡ [] → before ≡ after
  steps_stay before after lines (none o) e = refl
  steps_stay before after lines (more f now a line rest is steps) e = absurd (not_nil line rest e)

  -- The steps behind the first lines.
  pub record Cut (before after : List Family) (xs ys : List LogLine) : Type 0 where
    pub now : List Family
    pub first : AreSteps net lists allowed before xs now
    pub rest : AreSteps net lists allowed now ys after

  pub steps_cut : (before after : List Family) (lines : List LogLine) → AreSteps net lists allowed before lines after → (xs ys : List LogLine) → lines ≡ xs ++ ys → Cut before after xs ys
  steps_cut before after lines steps [] ys e = record { now = before; first = none before; rest = subst (λ (l : List LogLine). AreSteps net lists allowed before l after) e steps }
  steps_cut before after lines (none o) (x ∷ xs) ys e = absurd (not_nil x (xs ++ ys) (sym e))
  steps_cut before after lines (more f now a line rest is steps) (x ∷ xs) ys e =
      let c = steps_cut now a rest steps xs ys (tails_same line x rest (xs ++ ys) e) in
      record {
        now = c.now;
        first = more f now c.now x xs (subst (λ (l : LogLine). IsStep net lists allowed f l now) (heads_same line x rest (xs ++ ys) e) is) c.first;
        rest = c.rest;
      }

  pub steps_join : (a b c : List Family) (xs ys : List LogLine) → AreSteps net lists allowed a xs b → AreSteps net lists allowed b ys c → AreSteps net lists allowed a (xs ++ ys) c
  steps_join a b c xs ys (none o) t = t
  steps_join a b c xs ys (more f now d line rest is steps) t = more f now c line (rest ++ ys) is (steps_join now d c rest ys steps t)

  one_step : (before other : List Family) (lines : List LogLine) → AreSteps net lists allowed before lines other → (line : LogLine) → lines ≡ line ∷ [] → IsStep net lists allowed before line other
  one_step before other lines (none o) line e = absurd (not_nil line [] (sym e))
  one_step before other lines (more f now a first rest is steps) line e =
      subst (λ (l : LogLine). IsStep net lists allowed f l a) (heads_same first line rest [] e)
      (subst (λ (o : List Family). IsStep net lists allowed f first o) (steps_stay now a rest steps (tails_same first line rest [] e)) is)

  pub steps_same : (before a : List Family) (xs : List LogLine) → AreSteps net lists allowed before xs a → (b : List Family) (ys : List LogLine) → AreSteps net lists allowed before ys b → xs ≡ ys → a ≡ b
  steps_same before a xs (none o) b ys t e = steps_stay o b ys t (sym e)
  steps_same before a xs (more f now d line rest is steps) b ys t e =
      let c = steps_cut f b ys t (line ∷ []) rest (sym e) in
      let one : now ≡ c.now = step_same f now c.now line is (one_step f c.now (line ∷ []) c.first line refl) in
      steps_same now d rest steps b rest (subst (λ (o : List Family). AreSteps net lists allowed o rest b) (sym one) c.rest) refl

  -- One line that goes on.
  pub step_of : (before after : List Family) (line : LogLine) → AreSteps net lists allowed before (line ∷ []) after → IsStep net lists allowed before line after
  step_of before after line t = one_step before after (line ∷ []) t line refl

  -- Of two whole branches that begin the same lines one is the other.
  pub branch_same : (live : Family) (xs ys m : List LogLine) → AreSteps net lists allowed (live ∷ []) xs [] → AreSteps net lists allowed (live ∷ []) ys [] → ys ≡ xs ++ m → m ≡ []
  branch_same live xs ys m s t e =
      let c = steps_cut (live ∷ []) [] ys t xs m e in
      steps_none c.now [] m c.rest (sym (steps_same (live ∷ []) [] xs s c.now xs c.first refl))
