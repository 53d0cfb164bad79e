-- A line that leads on leads to open branches for which less is owed.
use Rattle.std.proofs.Common.{◌≡◌, inl, inr, ℕ, ◌+◌, ◌<◌, ◌≤◌, Bool, cond, List, [], ◌∷◌, ◌++◌, length, filter, map, ap, sym, ◌∙◌, subst, arith, lit<}
use Rattle.std.specs.List.{range_with_len}
use Rattle.std.proofs.Math.Nat.{one-le-pow}
use Rattle.std.proofs.lemmas.Bool.{cases_Bool}
use Rattle.std.proofs.lemmas.List.{length-append}
use Rattle.std.proofs.lemmas.List.FromFn.{length-map-range_with_len}
use Rattle.std.proofs.lemmas.List.Sums.{sum_by-cons, sum_by-append}
use Rattle.reo_net_base.specs.Net.{Net}
use Rattle.reo_joint_values.specs.declared.value.JointValue.{JointValue}
use Rattle.reo_joint_values.specs.declared.value.JointValue.TheVariants.{Flow, RG, GR, GG, Jam}
use Rattle.reo_joint_values.specs.Values.{Family}
use Rattle.reo_refute_base.specs.declared.line.LogLine.TheVariants.{Drop, Empty, Split}
use Rattle.reo_refute_base.specs.Items.{Lists, items_at}
use Rattle.reo_refute_base.specs.Live.{values_of, live_at, without}
use Rattle.reo_refute_base.specs.Steps.{branches}
use Rattle.reo_refute_base.specs.Steps.IsStep.{drop, empty, split}
use Rattle.reo_refute_base.specs.measure.Owed.{live_count, owed_for, owed}
use Rattle.reo_refute_base.proofs.measure.Lessening.{drops_lessen, splits_lessen}
use Rattle.reo_refute_live.specs.support.Families.{family_of}
use Rattle.reo_refute_live.specs.declared.branches.OpenBranch.{OpenBranch}
use Rattle.reo_refute_live.specs.OpenBranch.{open_in, still_open}
use Rattle.reo_refute.specs.next.Next.{LeadsOn}
use Rattle.reo_refute.specs.proving.Making.{AreFew, LeadsTo}

kept_few : {X : Type 0} (p : X → Bool) (xs : List X) → length (filter p xs) ≤ length xs
kept_few p [] = omega arith
kept_few p (x ∷ xs) =
    let rest = kept_few p xs in
    elim (cases_Bool (p x)) [ inl on ↦ rw on (omega (arith, rest)) | inr off ↦ rw off (omega (arith, rest)) ]

few_live : (lists : Lists) (f : Family) (j : ℕ) → AreFew lists → length (live_at lists f j) ≤ 260
few_live lists f j few =
    let n : ℕ = length (items_at lists j) in
    let all : length (values_of lists j) ≡ length (map Flow (range_with_len 0 n)) + 4 = length-append (map Flow (range_with_len 0 n)) (RG ∷ GR ∷ GG ∷ Jam ∷ []) in
    omega (arith, kept_few (f j) (values_of lists j), all, length-map-range_with_len Flow 0 n, few j)

module _ (net : Net) (lists : Lists) where
  first_less : (a b : Family) (rest : List Family) → owed_for net lists a < owed_for net lists b → owed net lists (a ∷ rest) < owed net lists (b ∷ rest)
  first_less a b rest less = omega (arith, less, sum_by-cons (owed_for net lists) a rest, sum_by-cons (owed_for net lists) b rest)

  rest_less : (a : Family) (rest : List Family) → owed net lists rest < owed net lists (a ∷ rest)
  rest_less a rest = omega (arith, sum_by-cons (owed_for net lists) a rest, one-le-pow (live_count lists a (length net.joints)) 261 (lit< tt))

  more_less : (a : Family) (more rest : List Family) → owed net lists more < owed_for net lists a → owed net lists (more ++ rest) < owed net lists (a ∷ rest)
  more_less a more rest less = omega (arith, less, sum_by-cons (owed_for net lists) a rest, sum_by-append (owed_for net lists) more rest)

  module _ (allowed : ℕ → ℕ → Type 0) (live after : OpenBranch) where
    pub drop_leads : (j : ℕ) (v : JointValue) (side : ℕ) → LeadsOn net lists allowed (family_of live.table) (Drop j v side)
        → family_of after.table ≡ without (family_of live.table) j v → still_open after ≡ still_open live → LeadsTo net lists allowed (open_in live) (open_in after) (Drop j v side)
    drop_leads j v side leads gone rest =
        let same : without (family_of live.table) j v ∷ still_open live ≡ open_in after =
        ap (λ (f : Family). f ∷ still_open live) (sym gone) ∙ ap (λ (o : List Family). family_of after.table ∷ o) (sym rest) in
        subst (λ (o : List Family). LeadsTo net lists allowed (open_in live) o (Drop j v side)) same (record {
          step = drop (family_of live.table) (still_open live) j v side leads.0;
          less = first_less (without (family_of live.table) j v) (family_of live.table) (still_open live) (drops_lessen net lists (family_of live.table) j v leads.0.in_range leads.1);
        })

    pub close_leads : (j : ℕ) → LeadsOn net lists allowed (family_of live.table) (Empty j) → (more : Bool) → still_open live ≡ cond more (open_in after) []
        → LeadsTo net lists allowed (open_in live) (cond more (open_in after) []) (Empty j)
    close_leads j leads more same =
        subst (λ (o : List Family). LeadsTo net lists allowed (open_in live) o (Empty j)) same (record {
          step = empty (family_of live.table) (still_open live) j leads;
          less = rest_less (family_of live.table) (still_open live);
        })

    pub split_leads : (j : ℕ) → AreFew lists → LeadsOn net lists allowed (family_of live.table) (Split j) → open_in after ≡ branches lists (family_of live.table) j ++ still_open live
        → LeadsTo net lists allowed (open_in live) (open_in after) (Split j)
    split_leads j few leads same =
        let f : Family = family_of live.table in
        subst (λ (o : List Family). LeadsTo net lists allowed (open_in live) o (Split j)) (sym same) (record {
          step = split f (still_open live) j (record { in_range = leads.0; some = λ e. (let none : length (live_at lists f j) ≡ 0 = ap (λ (l : List JointValue). length l) e in omega (arith, none, leads.1.has_first.1)) });
          less = more_less f (branches lists f j) (still_open live) (splits_lessen net lists f j leads.0 (few_live lists f j few) leads.1);
        })
