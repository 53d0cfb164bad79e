-- Each end is in one joint.
use Rattle.std.proofs.Common.{◌≡◌, ◌⊎◌, inl, inr, ℕ, ◌<◌, Bool, true, false, length, get_or, refl, ap, sym, ◌∙◌}
use Rattle.reo_net_base.specs.declared.joint.End.{End}
use Rattle.reo_net_base.specs.declared.joint.Joint.{Joint}
use Rattle.reo_net_base.specs.Behaviour.{Behaviour}
use Rattle.reo_net_base.specs.Lawful.{GivesAt}
use Rattle.reo_net_base.specs.Net.{Net, behaviour_at, end_of, end_eq, is_at}
use Rattle.reo_net_base.specs.Wired.{IsWired, IsEnd}
use Rattle.reo_net_laws.specs.Ends.{mark_in, from_in, EndsAreJoined, SourceIsTaken}
use Rattle.reo_net_laws.proofs.Items.{end_is, end_same}
use Rattle.reo_net_laws.proofs.Sides.{same_side_at}
use Rattle.std.proofs.lemmas.Bool.{or_left, or_right, or_cases}

-- The joint of an end, which is its giver or its taker.
pub joint_of : (net : Net) → IsWired net → (e : End) → IsEnd net.primitives e
    → (j : ℕ) × (j < length net.joints) × ((d : Joint) → ((get_or net.joints j d).giver ≡ e) ⊎ ((get_or net.joints j d).taker ≡ e))
joint_of net wired e is =
    let joined = wired.each_end e.primitive e.end is.0 is.1 in (
      joined.joint,
      joined.in_range,
      λ d.
          let joint : Joint = get_or net.joints joined.joint d in
          elim (or_cases (end_eq joint.giver e) (end_eq joint.taker e) (joined.here d)) [
            | inl g ↦ inl (end_is joint.giver e g)
            | inr t ↦ inr (end_is joint.taker e t)
          ],
    )

-- Only one joint is at an end.
pub one_at : (net : Net) → IsWired net → (e : End) → IsEnd net.primitives e → (j k : ℕ) (d : Joint) → j < length net.joints → k < length net.joints
    → is_at e (get_or net.joints j d) ≡ true → is_at e (get_or net.joints k d) ≡ true → j ≡ k
one_at net wired e is j k d j_in k_in h g =
    let joined = wired.each_end e.primitive e.end is.0 is.1 in
    joined.only j d j_in h ∙ sym (joined.only k d k_in g)

takes : Net → End → Bool
takes net e = (behaviour_at net.primitives e.primitive).takes_in e.end

pub ends_joined : EndsAreJoined
unfolding takes
ends_joined net wired = record {
  giver_of = λ e is gives.
      let found = joint_of net wired e is in (
        found.0,
        found.1,
        λ d. elim (found.2 d) [
          | inl g ↦ g
          | inr t ↦ let wrong : true ≡ false = sym (wired.takes found.0 d found.1) ∙ ap (takes net) t ∙ gives in cc
        ],
      );
  taker_of = λ e is takes_in.
      let found = joint_of net wired e is in (
        found.0,
        found.1,
        λ d. elim (found.2 d) [
          | inl g ↦ let wrong : false ≡ true = sym (wired.gives found.0 d found.1) ∙ ap (takes net) g ∙ takes_in in cc
          | inr t ↦ t
        ],
      );
  one_giver = λ j k d j_in k_in same.
      let e : End = (get_or net.joints k d).giver in
      one_at net wired e (wired.givers k d k_in) j k d j_in k_in
      (or_left (end_eq (get_or net.joints j d).giver e) (end_eq (get_or net.joints j d).taker e) (end_same (get_or net.joints j d).giver e same))
      (or_left (end_eq e e) (end_eq (get_or net.joints k d).taker e) (end_same e e refl));
  one_taker = λ j k d j_in k_in same.
      let e : End = (get_or net.joints k d).taker in
      one_at net wired e (wired.takers k d k_in) j k d j_in k_in
      (or_right (end_eq (get_or net.joints j d).giver e) (end_eq (get_or net.joints j d).taker e) (end_same (get_or net.joints j d).taker e same))
      (or_right (end_eq (get_or net.joints k d).giver e) (end_eq e e) (end_same e e refl));
}

pub source_taken : SourceIsTaken
unfolding mark_in from_in
source_taken net wired k row from d lt row_in flows is =
    let giver : End = (get_or net.joints k d).giver in
    let b : Behaviour = behaviour_at net.primitives giver.primitive in
    let e_in = wired.givers k d lt in
    let lawful = wired.lawful giver.primitive e_in.0 in
    let gives : GivesAt b (b.side_of giver.end) row giver.end =
    record { of_side = lawful.sides_in giver.end e_in.1; in_table = row_in; is_end = (e_in.1, refl); gives = wired.gives k d lt; flows = flows } in
    let from_in = lawful.from_end (b.side_of giver.end) row giver.end from gives is in
    let joined = ends_joined net wired in
    let found = joined.taker_of (end_of giver.primitive from) (e_in.0, from_in.0) (lawful.from_takes (b.side_of giver.end) row giver.end from gives is) in (
      found.0,
      record {
        in_range = found.1;
        taker = found.2;
        only = λ j z j_in same. joined.one_taker j found.0 z j_in found.1 (same ∙ sym (found.2 z));
        same_side = same_side_at net giver from from_in;
        flows = ap (λ (s : ℕ). b.mark s row from) from_in.1 ∙ lawful.from_flows (b.side_of giver.end) row giver.end from gives is;
      },
    )
