-- Branches are what a reader goes through who keeps the open branches in a list.
use Rattle.std.proofs.Common.{◌≡◌, ℕ, zero, suc, ◌<◌, List, [], ◌∷◌, ◌++◌, length, get_or, map, refl, ap, sym, ◌∙◌, subst, arith}
use Rattle.std.proofs.lemmas.List.{append-nil, append_assoc}
use Rattle.std.proofs.lemmas.List.Concat.{flat_map-append}
use Rattle.reo_net_base.specs.Net.{Net}
use Rattle.reo_joint_values.specs.declared.value.JointValue.{JointValue}
use Rattle.reo_joint_values.specs.declared.value.JointValue.TheVariants.{Jam}
use Rattle.reo_joint_values.specs.Values.{Family}
use Rattle.reo_refute_base.specs.declared.line.LogLine.{LogLine}
use Rattle.reo_refute_base.specs.declared.line.LogLine.TheVariants.{Drop, Empty, Split}
use Rattle.reo_refute_base.specs.Items.{Lists}
use Rattle.reo_refute_base.specs.Live.{live_at, without, alone}
use Rattle.reo_refute_base.specs.Logs.{joined, IsBranch}
use Rattle.reo_refute_base.specs.Logs.IsBranch.{drop as branch_drop, empty as branch_empty, split as branch_split}
use Rattle.reo_refute_base.specs.Places.{IsAllowed}
use Rattle.reo_refute_base.specs.Steps.{branches, IsStep, AreSteps, BranchesAreRead}
use Rattle.reo_refute_base.specs.Steps.IsStep.{drop as step_drop, empty as step_empty, split as step_split}
use Rattle.reo_refute_base.specs.Steps.AreSteps.{none, more}

module _ (net : Net) (lists : Lists) (allowed : ℕ → ℕ → Type 0) where
  -- From what is live the lines lead to where the rest begins.
  abbrev pub LeadsPast : Family → List LogLine → Type 0
  LeadsPast live lines = (open' after : List Family) (rest : List LogLine) → AreSteps net lists allowed open' rest after → AreSteps net lists allowed (live ∷ open') (lines ++ rest) after

  lead_all : (live : Family) (j : ℕ) (vs : List JointValue) (pieces : List (List LogLine)) → length pieces ≡ length vs
      → ((m : ℕ) → m < length pieces → LeadsPast (alone live j (get_or vs m Jam)) (get_or pieces m []))
      → (open' after : List Family) (rest : List LogLine) → AreSteps net lists allowed open' rest after
      → AreSteps net lists allowed (map (alone live j) vs ++ open') (joined pieces ++ rest) after
  lead_all live j [] [] n each open' after rest steps = steps
  lead_all live j [] (p ∷ ps) n each open' after rest steps = absurd (omega (arith, n))
  lead_all live j (v ∷ vs) [] n each open' after rest steps = absurd (omega (arith, n))
  lead_all live j (v ∷ vs) (p ∷ ps) n each open' after rest steps =
      let later = lead_all live j vs ps (omega (arith, n)) (λ m lt. each (suc m) (omega (arith, lt))) open' after rest steps in
      subst (λ (l : List LogLine). AreSteps net lists allowed (alone live j v ∷ (map (alone live j) vs ++ open')) l after) (sym (append_assoc p (joined ps) rest))
      (each zero (omega arith) (map (alone live j) vs ++ open') after (joined ps ++ rest) later)

  pub lead : (live : Family) (lines : List LogLine) → IsBranch net lists allowed live lines → LeadsPast live lines
  lead live lines (branch_drop now j v side rest may is) open' after more_lines steps =
      more (now ∷ open') (without now j v ∷ open') after (Drop j v side) (rest ++ more_lines) (step_drop now open' j v side may) (lead (without now j v) rest is open' after more_lines steps)
  lead live lines (branch_empty now j is) open' after more_lines steps =
      more (now ∷ open') open' after (Empty j) more_lines (step_empty now open' j is) steps
  lead live lines (branch_split now j pieces may count each) open' after more_lines steps =
      more (now ∷ open') (branches lists now j ++ open') after (Split j) (joined pieces ++ more_lines) (step_split now open' j may)
      (lead_all now j (live_at lists now j) pieces count (λ m lt. lead (alone now j (get_or (live_at lists now j) m Jam)) (get_or pieces m []) (each m lt)) open' after more_lines steps)

  -- A branch for each of several families.
  abbrev AreEach : List Family → List (List LogLine) → Type 0
  AreEach [] [] = Unit {0}
  AreEach [] (p ∷ ps) = ⊥
  AreEach (f ∷ fs) [] = ⊥
  AreEach (f ∷ fs) (p ∷ ps) = IsBranch net lists allowed f p × AreEach fs ps

  record Pieces (open' : List Family) (lines : List LogLine) : Type 0 where
    pieces : List (List LogLine)
    each : AreEach open' pieces
    lines_are : lines ≡ joined pieces

  record Cut (fs gs : List Family) (pieces : List (List LogLine)) : Type 0 where
    first : List (List LogLine)
    second : List (List LogLine)
    first_are : AreEach fs first
    second_are : AreEach gs second
    whole : pieces ≡ first ++ second

  cut : (fs gs : List Family) (pieces : List (List LogLine)) → AreEach (fs ++ gs) pieces → Cut fs gs pieces
  cut [] gs pieces are = record { first = []; second = pieces; first_are = tt; second_are = are; whole = refl }
  cut (f ∷ fs) gs [] are = absurd are
  cut (f ∷ fs) gs (p ∷ ps) are =
      let rest = cut fs gs ps are.1 in
      record { first = p ∷ rest.first; second = rest.second; first_are = (are.0, rest.first_are); second_are = rest.second_are; whole = ap (λ (l : List (List LogLine)). p ∷ l) rest.whole }

  each_length : (live : Family) (j : ℕ) (vs : List JointValue) (pieces : List (List LogLine)) → AreEach (map (alone live j) vs) pieces → length pieces ≡ length vs
  each_length live j [] [] are = refl
  each_length live j [] (p ∷ ps) are = absurd are
  each_length live j (v ∷ vs) [] are = absurd are
  each_length live j (v ∷ vs) (p ∷ ps) are = ap suc (each_length live j vs ps are.1)

  each_at : (live : Family) (j : ℕ) (vs : List JointValue) (pieces : List (List LogLine)) → AreEach (map (alone live j) vs) pieces
      → (m : ℕ) → m < length pieces → IsBranch net lists allowed (alone live j (get_or vs m Jam)) (get_or pieces m [])
  each_at live j [] [] are m lt = absurd (omega (arith, lt))
  each_at live j [] (p ∷ ps) are m lt = absurd are
  each_at live j (v ∷ vs) [] are m lt = absurd are
  each_at live j (v ∷ vs) (p ∷ ps) are zero lt = are.0
  each_at live j (v ∷ vs) (p ∷ ps) are (suc m) lt = each_at live j vs ps are.1 m (omega (arith, lt))

  -- One more line in front.
  one_more : (before now : List Family) (line : LogLine) (rest : List LogLine) → IsStep net lists allowed before line now → Pieces now rest → Pieces before (line ∷ rest)
  one_more before now line rest (step_drop live open' j v side may) p = dropped (p.pieces) p.each p.lines_are
    where
      dropped : (ps : List (List LogLine)) → AreEach (without live j v ∷ open') ps → rest ≡ joined ps → Pieces (live ∷ open') (Drop j v side ∷ rest)
      dropped [] are is = absurd are
      dropped (q ∷ qs) are is = record {
        pieces = (Drop j v side ∷ q) ∷ qs;
        each = (branch_drop live j v side q may are.0, are.1);
        lines_are = ap (λ (l : List LogLine). Drop j v side ∷ l) is;
      }
  one_more before now line rest (step_empty live open' j is) p = record {
    pieces = (Empty j ∷ []) ∷ p.pieces;
    each = (branch_empty live j is, p.each);
    lines_are = ap (λ (l : List LogLine). Empty j ∷ l) p.lines_are;
  }
  one_more before now line rest (step_split live open' j may) p =
      let c = cut (branches lists live j) open' p.pieces p.each in
      record {
        pieces = (Split j ∷ joined c.first) ∷ c.second;
        each = (branch_split live j c.first may (each_length live j (live_at lists live j) c.first c.first_are) (each_at live j (live_at lists live j) c.first c.first_are), c.second_are);
        lines_are = ap (λ (l : List LogLine). Split j ∷ l) (p.lines_are ∙ ap joined c.whole ∙ flat_map-append (λ (l : List LogLine). l) c.first c.second);
      }

  pieces_of : (before : List Family) (lines : List LogLine) (after : List Family) → AreSteps net lists allowed before lines after → after ≡ [] → Pieces before lines
  pieces_of before lines after (none open') end = subst (λ (o : List Family). Pieces o []) (sym end) (record { pieces = []; each = tt; lines_are = refl })
  pieces_of before lines after (more first now last line rest is steps) end = one_more first now line rest is (pieces_of now rest last steps end)

  one_piece : (live : Family) (lines : List LogLine) (ps : List (List LogLine)) → AreEach (live ∷ []) ps → lines ≡ joined ps → IsBranch net lists allowed live lines
  one_piece live lines [] are is = absurd are
  one_piece live lines (p ∷ []) are is = subst (IsBranch net lists allowed live) (sym (is ∙ append-nil p)) are.0
  one_piece live lines (p ∷ q ∷ ps) are is = absurd are.1

pub branches_are_read : BranchesAreRead
branches_are_read net turn given lists p live lines = (
  λ is. subst (λ (l : List LogLine). AreSteps net lists (IsAllowed net turn given p) (live ∷ []) l []) (append-nil lines) (lead net lists (IsAllowed net turn given p) live lines is [] [] [] (none [])),
  λ steps. let q = pieces_of net lists (IsAllowed net turn given p) (live ∷ []) lines [] steps refl in one_piece net lists (IsAllowed net turn given p) live lines q.pieces q.each q.lines_are,
)
