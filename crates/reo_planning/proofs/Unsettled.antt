-- Parts that are not settled any more, by primitives of which something holds.
use Rattle.std.proofs.Common.{inl, inr, ℕ, ◌+◌, ◌<◌, ◌≤◌, Bool, true, false, List, get_or, sym, subst, arith}
use Rattle.std.proofs.lemmas.Bool.{cases_lt, false_from_ne_true, both_ways, cases_eq}
use Rattle.reo_flags.specs.Next.{IsNext}
use Rattle.reo_net_base.specs.Net.{Net, behaviour_at}
use Rattle.reo_net_laws.specs.Knots.{Knotted}
use Rattle.reo_planning.specs.declared.kept.Kept.{Kept}
use Rattle.reo_planning.specs.Keeping.{is_settled}
use Rattle.reo_planning.specs.Unsettling.{AreUnsettled, AreUnsettledWhere, IsMarked, IsUnsettled, part_at}
use Rattle.reo_planning.proofs.Setting.{fewer_none, fewer_twice}

-- None is marked between a primitive and the next that is.
pub none_marked : (marks : List Bool) (n next : ℕ) → IsNext true marks n next → (i : ℕ) → n ≤ i → i < next → IsMarked marks i → ⊥
none_marked marks n next is i le lt marked = both_ways (get_or marks i false) (is.none_before i le lt) marked

module _ (net : Net) (knots : Knotted) (holds : ℕ → Type 0) where
  -- None yet.
  pub unsettled_none : (kept : Kept) → AreUnsettledWhere net knots holds 0 kept kept
  unsettled_none kept = record { fewer = fewer_none kept; gone = λ i lt here. absurd (omega arith); stay = λ k apart h. h }

  -- What is so up to a primitive is so up to another if it holds of none from the one to the other.
  pub unsettled_over : (n next : ℕ) (old now : Kept) → n ≤ next → ((i : ℕ) → n ≤ i → i < next → holds i → ⊥) → AreUnsettledWhere net knots holds n old now → AreUnsettledWhere net knots holds next old now
  unsettled_over n next old now on none far = record {
    fewer = far.fewer;
    gone = λ i lt here. elim (cases_lt i n) [
      | inl low ↦ far.gone i low here
      | inr high ↦ absurd (none i high lt here)
    ];
    stay = λ k apart h. far.stay k (λ i lt here. apart i (omega arith) here) h;
  }

  -- One primitive more.
  pub unsettled_more : (n : ℕ) (old mid new : Kept) → holds n → AreUnsettledWhere net knots holds n old mid → IsUnsettled net knots n mid new → AreUnsettledWhere net knots holds (n + 1) old new
  unsettled_more n old mid new here far is = record {
    fewer = fewer_twice old mid new far.fewer is.fewer;
    gone = λ i lt holds_there. elim (cases_eq i n) [
      | inl e ↦ subst (λ (m : ℕ). AreUnsettled net knots m (behaviour_at net.primitives m).sides new) (sym e) is.gone
      | inr ne ↦ λ side below.
          let part : ℕ = part_at net knots i side in
          false_from_ne_true (is_settled new part) (λ h. both_ways (is_settled mid part) (far.gone i (omega (arith, lt, ne)) holds_there side below) (is.fewer.fewer part h))
    ];
    stay = λ k apart h. is.stay k (apart n (omega arith) here) (far.stay k (λ i lt holds_there. apart i (omega arith) holds_there) h);
  }
