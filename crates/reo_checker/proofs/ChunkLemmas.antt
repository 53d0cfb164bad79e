-- Marks as bytes, from a joint on.
use Rattle.std.proofs.Common.{◌≡◌, ◌∙◌, ℕ, ◌+◌, ◌-◌, ◌<◌, ◌≤◌, List, length, get_or, set, take, refl, arith, get_or-set_same, get_or-set_other, below_more}
use Rattle.std.proofs.lemmas.List.{get_or-take}
use Rattle.reo_lanes.specs.Joints.{bytes_match, MatchBetween, FirstBroken}
use Rattle.reo_net_base.specs.declared.mark.Mark.{Mark}
use Rattle.reo_net_base.specs.declared.mark.Mark.TheVariants.{F, G, R, J}
use Rattle.reo_net_base.specs.declared.joint.Joint.{Joint}
use Rattle.reo_net_base.specs.Marks.{marks_match}
use Rattle.reo_net_base.specs.Net.{Net, mark_at}
use Rattle.reo_checker.specs.Chunks.{mark_byte, MatchWithin, IsClashWithin}

-- The bytes of so many joints from a place on: those of the givers and those of the takers.
pub record AreBytes (net : Net) (rows : List ℕ) (from count : ℕ) (givers takers : List ℕ) : Type 0 where
  pub giver : (k : ℕ) (d : Joint) → k < count → get_or givers k 0 ≡ mark_byte (mark_at net rows (get_or net.joints (from + k) d).giver)
  pub taker : (k : ℕ) (d : Joint) → k < count → get_or takers k 0 ≡ mark_byte (mark_at net rows (get_or net.joints (from + k) d).taker)

-- The joint rule on the bytes of marks is that on the marks.
pub bytes_marks : (a b : Mark) → bytes_match (mark_byte a) (mark_byte b) ≡ marks_match a b
bytes_marks F F = refl
bytes_marks F G = refl
bytes_marks F R = refl
bytes_marks F J = refl
bytes_marks G F = refl
bytes_marks G G = refl
bytes_marks G R = refl
bytes_marks G J = refl
bytes_marks R F = refl
bytes_marks R G = refl
bytes_marks R R = refl
bytes_marks R J = refl
bytes_marks J F = refl
bytes_marks J G = refl
bytes_marks J R = refl
bytes_marks J J = refl

-- One joint more.
pub bytes_more : (net : Net) (rows : List ℕ) (from count : ℕ) (givers takers : List ℕ) (joint : Joint)
    → count < length givers → count < length takers → ((d : Joint) → get_or net.joints (from + count) d ≡ joint)
    → AreBytes net rows from count givers takers
    → AreBytes net rows from (count + 1) (set givers count (mark_byte (mark_at net rows joint.giver))) (set takers count (mark_byte (mark_at net rows joint.taker)))
bytes_more net rows from count givers takers joint g_in t_in is are = record {
  giver = λ k d lt. below_more (λ i. get_or (set givers count (mark_byte (mark_at net rows joint.giver))) i 0 ≡ mark_byte (mark_at net rows (get_or net.joints (from + i) d).giver)) count
      (λ i h. rw (get_or-set_other givers count i (mark_byte (mark_at net rows joint.giver)) 0 (omega (arith, h))) (are.giver i d h))
      (rw (is d) (get_or-set_same givers count (mark_byte (mark_at net rows joint.giver)) 0 g_in)) k lt;
  taker = λ k d lt. below_more (λ i. get_or (set takers count (mark_byte (mark_at net rows joint.taker))) i 0 ≡ mark_byte (mark_at net rows (get_or net.joints (from + i) d).taker)) count
      (λ i h. rw (get_or-set_other takers count i (mark_byte (mark_at net rows joint.taker)) 0 (omega (arith, h))) (are.taker i d h))
      (rw (is d) (get_or-set_same takers count (mark_byte (mark_at net rows joint.taker)) 0 t_in)) k lt;
}

-- The bytes stand also in the front of a longer list.
pub bytes_front : (net : Net) (rows : List ℕ) (from count : ℕ) (givers takers : List ℕ)
    → AreBytes net rows from count givers takers → AreBytes net rows from count (take count givers) (take count takers)
bytes_front net rows from count givers takers are = record {
  giver = λ k d lt. get_or-take count givers k 0 lt ∙ are.giver k d lt;
  taker = λ k d lt. get_or-take count takers k 0 lt ∙ are.taker k d lt;
}

module _ (net : Net) (rows : List ℕ) (from count : ℕ) (givers takers : List ℕ) (are : AreBytes net rows from count givers takers) where
  -- The joint rule on two bytes is that of the joint.
  pub bytes_joint : (k : ℕ) (d : Joint) → k < count
      → bytes_match (get_or givers k 0) (get_or takers k 0) ≡ marks_match (mark_at net rows (get_or net.joints (from + k) d).giver) (mark_at net rows (get_or net.joints (from + k) d).taker)
  bytes_joint k d lt = rw (are.giver k d lt, are.taker k d lt) (bytes_marks (mark_at net rows (get_or net.joints (from + k) d).giver) (mark_at net rows (get_or net.joints (from + k) d).taker))

  -- The joints match where their bytes do.
  pub joints_within : (to : ℕ) → to ≤ count → MatchBetween givers takers 0 to → MatchWithin net rows from (from + to)
  joints_within to le match j d on lt =
      let place : from + (j - from) ≡ j = omega (arith, on) in
      let here = match (j - from) (omega arith) (omega (arith, on, lt)) in
      rw place at (rw (bytes_joint (j - from) d (omega (arith, on, lt, le))) at here)

  -- The first broken pair is the first joint that does not match.
  pub first_clash : (place : ℕ) → FirstBroken givers takers 0 count place → IsClashWithin net rows from (from + count) (from + place)
  first_clash place first = record {
    from_on = omega arith;
    in_range = omega (arith, first.in_range);
    clashes = λ d. rw (bytes_joint place d first.in_range) at first.broken;
    none_before = joints_within place (omega (arith, first.in_range)) first.none_before;
  }
