-- What the test of two ends says.
use Rattle.std.proofs.Common.{◌≡◌, ◌⊎◌, inl, inr, true, arith}
use Rattle.std.proofs.lemmas.Bool.{or_cases}
use Rattle.std.proofs.lemmas.Bool.Decides.{nat_tests}
use Rattle.reo_net_base.specs.declared.joint.End.{End}
use Rattle.reo_net_base.specs.declared.joint.Joint.{Joint}
use Rattle.reo_net_base.specs.Net.{end_eq, is_at}

-- Ends that the test takes for one are one.
pub end_is : (a b : End) → end_eq a b ≡ true → a ≡ b
end_is a b h =
    let p : a.primitive ≡ b.primitive = grind (arith, nat_tests) in
    let e : a.end ≡ b.end = grind (arith, nat_tests) in
    λ i. record { primitive = p i; end = e i }

pub end_self : (e : End) → end_eq e e ≡ true
end_self e = grind (arith, nat_tests)

-- An end at a joint is its giver or its taker.
pub at_joint : (e : End) (j : Joint) → is_at e j ≡ true → (j.giver ≡ e) ⊎ (j.taker ≡ e)
at_joint e j h =
    elim (or_cases (end_eq j.giver e) (end_eq j.taker e) h) [ inl giver ↦ inl (end_is j.giver e giver) | inr taker ↦ inr (end_is j.taker e taker) ]
