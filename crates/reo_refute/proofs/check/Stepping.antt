-- One line of a branch.
use Rattle.std.proofs.Common.{◌≡◌, ℕ, Bool, cond, List, [], ◌∷◌, ◌++◌, Err, None, refl, ap, sym, ◌∙◌, subst}
use Rattle.reo_net_base.specs.Net.{Net}
use Rattle.reo_joint_values.specs.declared.value.JointValue.{JointValue}
use Rattle.reo_joint_values.specs.Values.{Family}
use Rattle.reo_refute_base.specs.declared.line.LogLine.{LogLine}
use Rattle.reo_refute_base.specs.declared.line.LogLine.TheVariants.{At, Drop, Empty, Split}
use Rattle.reo_refute_base.specs.Items.{Lists}
use Rattle.reo_refute_base.specs.Live.{without}
use Rattle.reo_refute_base.specs.Logs.{MayGo, IsEmpty, MaySplit}
use Rattle.reo_refute_base.specs.Steps.{branches, IsStep}
use Rattle.reo_refute_base.specs.Steps.IsStep.{drop, empty, split}
use Rattle.reo_refute_base.proofs.laws.Prefixes.{heads_same}
use Rattle.reo_refute_live.specs.support.Families.{family_of}
use Rattle.reo_refute_live.specs.declared.branches.OpenBranch.{OpenBranch}
use Rattle.reo_refute_live.specs.OpenBranch.{open_in, still_open}
use Rattle.reo_refute.specs.declared.check.lines.Lines.{Lines}
use Rattle.reo_refute.specs.declared.check.stop.LogStop.{LogStop}
use Rattle.reo_refute.specs.declared.check.stop.LogStop.TheVariants.{Line}
use Rattle.reo_refute.specs.check.Reading.{IsNext, Takes}
use Rattle.reo_refute.specs.check.Judging.{IsStepRead, IsStepTaken}
use Rattle.reo_refute.proofs.check.Determined.{step_at}
use Rattle.reo_refute.proofs.check.Taking.{only_line}

module _ (net : Net) (lists : Lists) (allowed : ℕ → ℕ → Type 0) where
  drop_joint : (a j : ℕ) (b v : JointValue) (c s : ℕ) → Drop a b c ≡ Drop j v s → a ≡ j
  drop_joint a j b v c s e = cc

  drop_value : (a j : ℕ) (b v : JointValue) (c s : ℕ) → Drop a b c ≡ Drop j v s → b ≡ v
  drop_value a j b v c s e = cc

  drop_side : (a j : ℕ) (b v : JointValue) (c s : ℕ) → Drop a b c ≡ Drop j v s → c ≡ s
  drop_side a j b v c s e = cc

  -- What a line that goes on asks for.
  pub drop_asks : (before after : List Family) (line : LogLine) → IsStep net lists allowed before line after → (f : Family) (o : List Family) (j : ℕ) (v : JointValue) (side : ℕ)
      → before ≡ f ∷ o → line ≡ Drop j v side → MayGo net lists allowed f j v side
  drop_asks before after line (drop live open' a b c may) f o j v side e l =
      subst (λ (x : Family). MayGo net lists allowed x j v side) (heads_same live f open' o e)
      (subst (λ (x : ℕ). MayGo net lists allowed live j v x) (drop_side a j b v c side l)
      (subst (λ (x : JointValue). MayGo net lists allowed live j x c) (drop_value a j b v c side l)
      (subst (λ (x : ℕ). MayGo net lists allowed live x b c) (drop_joint a j b v c side l) may)))
  drop_asks before after line (empty live open' a is) f o j v side e l = absurd (let wrong : Empty a ≡ Drop j v side = l in cc)
  drop_asks before after line (split live open' a may) f o j v side e l = absurd (let wrong : Split a ≡ Drop j v side = l in cc)

  empty_joint : (a j : ℕ) → Empty a ≡ Empty j → a ≡ j
  empty_joint a j e = cc

  split_joint : (a j : ℕ) → Split a ≡ Split j → a ≡ j
  split_joint a j e = cc

  pub empty_asks : (before after : List Family) (line : LogLine) → IsStep net lists allowed before line after → (f : Family) (o : List Family) (j : ℕ)
      → before ≡ f ∷ o → line ≡ Empty j → IsEmpty net lists f j
  empty_asks before after line (drop live open' a b c may) f o j e l = absurd (let wrong : Drop a b c ≡ Empty j = l in cc)
  empty_asks before after line (empty live open' a is) f o j e l =
      subst (λ (x : Family). IsEmpty net lists x j) (heads_same live f open' o e) (subst (IsEmpty net lists live) (empty_joint a j l) is)
  empty_asks before after line (split live open' a may) f o j e l = absurd (let wrong : Split a ≡ Empty j = l in cc)

  pub split_asks : (before after : List Family) (line : LogLine) → IsStep net lists allowed before line after → (f : Family) (o : List Family) (j : ℕ)
      → before ≡ f ∷ o → line ≡ Split j → MaySplit net lists f j
  split_asks before after line (drop live open' a b c may) f o j e l = absurd (let wrong : Drop a b c ≡ Split j = l in cc)
  split_asks before after line (empty live open' a is) f o j e l = absurd (let wrong : Empty a ≡ Split j = l in cc)
  split_asks before after line (split live open' a may) f o j e l =
      subst (λ (x : Family). MaySplit net lists x j) (heads_same live f open' o e) (subst (MaySplit net lists live) (split_joint a j l) may)

  module _ (live after : OpenBranch) (old new : Lines) where
    -- A line was read that does not go on.
    pub stuck_taken : (line : LogLine) → IsNext old new line → ((now : List Family) → IsStep net lists allowed (open_in live) line now → ⊥) → (stop : LogStop) → stop ≡ Line new.count
        → IsStepTaken net lists allowed live after old new (Err stop)
    stuck_taken line next none_on stop e =
        subst (λ (s : LogStop). IsStepTaken net lists allowed live after old new (Err s)) (sym e)
        (next.count, λ other more numbered text now is. none_on now (subst (λ (l : LogLine). IsStep net lists allowed (open_in live) l now) (sym (only_line old new line other more next numbered text)) is))

    -- No line stands there.
    pub none_taken : Takes old new None → (stop : LogStop) → stop ≡ Line new.count → IsStepTaken net lists allowed live after old new (Err stop)
    none_taken taken stop e =
        subst (λ (s : LogStop). IsStepTaken net lists allowed live after old new (Err s)) (sym e) (taken.0, λ other more numbered text now is. taken.1 other more numbered text)

    pub at_taken : (p : ℕ) → IsNext old new (At p) → (stop : LogStop) → stop ≡ Line new.count → IsStepTaken net lists allowed live after old new (Err stop)
    at_taken p next stop e = stuck_taken (At p) next (λ now is. step_at net lists allowed (open_in live) now (At p) is p refl) stop e

    pub drop_stuck : (j : ℕ) (v : JointValue) (side : ℕ) → IsNext old new (Drop j v side) → (MayGo net lists allowed (family_of live.table) j v side → ⊥) → (stop : LogStop) → stop ≡ Line new.count
        → IsStepTaken net lists allowed live after old new (Err stop)
    drop_stuck j v side next h stop e =
        stuck_taken (Drop j v side) next (λ now is. h (drop_asks (open_in live) now (Drop j v side) is (family_of live.table) (still_open live) j v side refl refl)) stop e

    pub empty_stuck : (j : ℕ) → IsNext old new (Empty j) → (IsEmpty net lists (family_of live.table) j → ⊥) → (stop : LogStop) → stop ≡ Line new.count
        → IsStepTaken net lists allowed live after old new (Err stop)
    empty_stuck j next h stop e =
        stuck_taken (Empty j) next (λ now is. h (empty_asks (open_in live) now (Empty j) is (family_of live.table) (still_open live) j refl refl)) stop e

    pub split_stuck : (j : ℕ) → IsNext old new (Split j) → (MaySplit net lists (family_of live.table) j → ⊥) → (stop : LogStop) → stop ≡ Line new.count
        → IsStepTaken net lists allowed live after old new (Err stop)
    split_stuck j next h stop e =
        stuck_taken (Split j) next (λ now is. h (split_asks (open_in live) now (Split j) is (family_of live.table) (still_open live) j refl refl)) stop e

    pub drop_read : (j : ℕ) (v : JointValue) (side : ℕ) → IsNext old new (Drop j v side) → MayGo net lists allowed (family_of live.table) j v side
        → family_of after.table ≡ without (family_of live.table) j v → still_open after ≡ still_open live → IsStepRead net lists allowed (open_in live) (open_in after) old new
    drop_read j v side next may gone rest =
        let same : without (family_of live.table) j v ∷ still_open live ≡ open_in after =
        ap (λ (f : Family). f ∷ still_open live) (sym gone) ∙ ap (λ (o : List Family). family_of after.table ∷ o) (sym rest) in
        record {
          line = Drop j v side;
          next = next;
          step = subst (IsStep net lists allowed (open_in live) (Drop j v side)) same (drop (family_of live.table) (still_open live) j v side may);
        }

    pub empty_read : (j : ℕ) → IsNext old new (Empty j) → IsEmpty net lists (family_of live.table) j → (more : Bool) → still_open live ≡ cond more (open_in after) []
        → IsStepRead net lists allowed (open_in live) (cond more (open_in after) []) old new
    empty_read j next is more same = record {
      line = Empty j;
      next = next;
      step = subst (IsStep net lists allowed (open_in live) (Empty j)) same (empty (family_of live.table) (still_open live) j is);
    }

    pub split_read : (j : ℕ) → IsNext old new (Split j) → MaySplit net lists (family_of live.table) j → open_in after ≡ branches lists (family_of live.table) j ++ still_open live
        → IsStepRead net lists allowed (open_in live) (open_in after) old new
    split_read j next may same = record {
      line = Split j;
      next = next;
      step = subst (IsStep net lists allowed (open_in live) (Split j)) (sym same) (split (family_of live.table) (still_open live) j may);
    }
