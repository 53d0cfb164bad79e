-- Loop joints of circuits of one shape.
use Rattle.std.proofs.Common.{◌≡◌, ℕ, ◌<◌, ◌≤◌, List, Bool, length, get_or, ap, sym, ◌∙◌, arith}
use Rattle.reo_net_base.specs.declared.joint.Joint.{Joint}
use Rattle.reo_net_base.specs.Net.{Net, side_at}
use Rattle.reo_net_laws.specs.Parts.{IsClosedBelow}
use Rattle.reo_net_laws.specs.Knots.{IsLoop}

-- Circuits with the same joints, at each of which the ends have the same sides.
module _ (net other : Net) (joints : other.joints ≡ net.joints)
    (givers : (j : ℕ) (d : Joint) → j < length net.joints → side_at other (get_or net.joints j d).giver ≡ side_at net (get_or net.joints j d).giver)
    (takers : (j : ℕ) (d : Joint) → j < length net.joints → side_at other (get_or net.joints j d).taker ≡ side_at net (get_or net.joints j d).taker) where
  joint_same : (j : ℕ) (d : Joint) → get_or other.joints j d ≡ get_or net.joints j d
  joint_same j d = ap (λ (js : List Joint). get_or js j d) joints

  giver_there : (j : ℕ) (d : Joint) → j < length net.joints → side_at other (get_or other.joints j d).giver ≡ side_at net (get_or net.joints j d).giver
  giver_there j d lt = ap (λ (x : Joint). side_at other x.giver) (joint_same j d) ∙ givers j d lt

  taker_there : (j : ℕ) (d : Joint) → j < length net.joints → side_at other (get_or other.joints j d).taker ≡ side_at net (get_or net.joints j d).taker
  taker_there j d lt = ap (λ (x : Joint). side_at other x.taker) (joint_same j d) ∙ takers j d lt

  pub closed_on : (n : ℕ) → n ≤ length net.joints → (inside : ℕ → Bool) → IsClosedBelow net n inside → IsClosedBelow other n inside
  closed_on n le inside closed = record {
    along = λ j d lt. let j_in : j < length net.joints = omega arith in ap inside (giver_there j d j_in) ∙ closed.along j d lt ∙ ap inside (sym (taker_there j d j_in));
  }

  pub closed_back : (n : ℕ) → n ≤ length net.joints → (inside : ℕ → Bool) → IsClosedBelow other n inside → IsClosedBelow net n inside
  closed_back n le inside closed = record {
    along = λ j d lt. let j_in : j < length net.joints = omega arith in ap inside (sym (giver_there j d j_in)) ∙ closed.along j d lt ∙ ap inside (taker_there j d j_in);
  }

  -- A joint closes a loop in both or in none.
  pub loop_on : (j : ℕ) → j < length net.joints → IsLoop net j → IsLoop other j
  loop_on j lt closes d inside closed =
      ap inside (giver_there j d lt) ∙ closes d inside (closed_back j (omega (arith, lt)) inside closed) ∙ ap inside (sym (taker_there j d lt))

  pub loop_back : (j : ℕ) → j < length net.joints → IsLoop other j → IsLoop net j
  loop_back j lt closes d inside closed =
      ap inside (sym (giver_there j d lt)) ∙ closes d inside (closed_on j (omega (arith, lt)) inside closed) ∙ ap inside (taker_there j d lt)
