-- Weights and budgets of a set, in circuits that are alike on the set.
use Rattle.std.proofs.Common.{ℕ, ◌<◌, List, Bool, length, get_or, ap, sym, ◌∙◌, subst, arith}
use Rattle.reo_net_base.specs.declared.joint.Joint.{Joint}
use Rattle.reo_net_base.specs.Behaviour.{Behaviour}
use Rattle.reo_net_base.specs.Net.{Net}
use Rattle.reo_net_base.specs.Wired.{IsWired}
use Rattle.reo_net_laws.specs.Parts.{IsClosedBelow, IsClosed}
use Rattle.reo_net_laws.specs.Alike.{AreAlike}
use Rattle.reo_weights.proofs.Assignments.{side_same}
use Rattle.reo_net_laws.proofs.Isolation.{same_net}
use Rattle.reo_net_laws.specs.Knots.{IsLoop}
use Rattle.reo_joint_values.specs.Standing.{no_joint, giver_of}
use Rattle.reo_joint_values.specs.Many.{IsJointIn}
use Rattle.reo_weights.specs.Widths.{IsWide}
use Rattle.reo_weights.specs.Weights.{all_values, IsWeight}
use Rattle.reo_weights.specs.Over.{IsWithin}
use Rattle.reo_weights.specs.still.Weighing.{AlikePartsWeighAlike}
use Rattle.reo_weights.proofs.still.Turned.{closed_too, alike_back}
use Rattle.reo_weights.proofs.still.StandLemmas.{stands_there}
use Rattle.reo_weights.proofs.still.SupportLemmas.{greatest_there}

-- From one circuit to the other.
module _ (bs ds : List Behaviour) (js : List Joint) (wired : IsWired (record { primitives = bs; joints = js })) (inside : ℕ → Bool)
    (alike : AreAlike (record { primitives = bs; joints = js }) (record { primitives = ds; joints = js }) inside) where
  abbrev net : Net
  net = record { primitives = bs; joints = js }

  abbrev other : Net
  other = record { primitives = ds; joints = js }

  joint_there : (j : ℕ) → IsJointIn net inside j → IsJointIn other inside j
  joint_there j is = (is.0, ap inside (side_same bs ds js wired inside alike (giver_of net j) (wired.givers j no_joint is.0)) ∙ is.1)

  -- What is closed below a joint in the other is so in the one.
  below_back : (j : ℕ) → j < length js → (test : ℕ → Bool) → IsClosedBelow other j test → IsClosedBelow net j test
  below_back j lt test below = record {
    along = λ i d i_lt.
        let i_in : i < length js = omega arith in
        ap test (sym (side_same bs ds js wired inside alike (get_or js i d).giver (wired.givers i d i_in))) ∙ below.along i d i_lt
        ∙ ap test (side_same bs ds js wired inside alike (get_or js i d).taker (wired.takers i d i_in));
  }

  loop_there : (j : ℕ) → j < length js → IsLoop net j → IsLoop other j
  loop_there j lt loop d test below =
      ap test (side_same bs ds js wired inside alike (get_or js j d).giver (wired.givers j d lt)) ∙ loop d test (below_back j lt test below)
      ∙ ap test (sym (side_same bs ds js wired inside alike (get_or js j d).taker (wired.takers j d lt)))

  wide_there : IsClosed net inside → IsWide net inside → IsWide other inside
  wide_there closed wide = record {
    joint = wide.joint;
    is_joint = joint_there wide.joint wide.is_joint;
    many = record {
      items = wide.many.items;
      distinct = wide.many.distinct;
      many = wide.many.many;
      stand = λ item has. stands_there bs ds js wired inside alike closed wide.joint item wide.is_joint (wide.many.stand item has);
    };
  }

-- In both.
module _ (bs ds : List Behaviour) (js : List Joint) (wired : IsWired (record { primitives = bs; joints = js })) (wired_other : IsWired (record { primitives = ds; joints = js })) (inside : ℕ → Bool)
    (closed : IsClosed (record { primitives = bs; joints = js }) inside) (alike : AreAlike (record { primitives = bs; joints = js }) (record { primitives = ds; joints = js }) inside) where
  abbrev one : Net
  one = record { primitives = bs; joints = js }

  abbrev two : Net
  two = record { primitives = ds; joints = js }

  closed_there : IsClosed two inside
  closed_there = closed_too bs ds js wired inside alike closed

  back : AreAlike two one inside
  back = alike_back bs ds js wired inside alike

  joint_back : (j : ℕ) → IsJointIn two inside j → IsJointIn one inside j
  joint_back = joint_there ds bs js wired_other inside back

  weight_there : (n : ℕ) → IsWeight one inside n → IsWeight two inside n
  weight_there n w = record {
    names = w.names;
    named = record {
      sound = λ j m item is e. stands_there bs ds js wired inside alike closed j item (joint_back j is) (w.named.sound j m item (joint_back j is) e);
      whole = λ j item is stands. w.named.whole j item (joint_back j is) (stands_there ds bs js wired_other inside back closed_there j item is stands);
      once = λ j m k item is e f. w.named.once j m k item (joint_back j is) e f;
    };
    loops = w.loops;
    are_loops = record {
      increasing = w.are_loops.increasing;
      exact = λ j. (
        λ has. let loop = (w.are_loops.exact j).0 has in (joint_there bs ds js wired inside alike j loop.0, loop_there bs ds js wired inside alike j loop.0.0 loop.1),
        λ loop. (w.are_loops.exact j).1 (joint_back j loop.0, loop_there ds bs js wired_other inside back j loop.0.0 loop.1),
      );
    };
    values = w.values;
    one_each = w.one_each;
    supported = λ m lt.
        let j : ℕ = get_or w.loops m 0 in
        let here = w.supported m lt in
        record {
          exact = λ v. (
            λ has. greatest_there bs ds js wired inside alike w.names (all_values w.names) j v ((here.exact v).0 has),
            λ is. (here.exact v).1 (greatest_there ds bs js wired_other inside back w.names (all_values w.names) j v is),
          );
          once = here.once;
        };
    is = w.is;
  }

  within_there : (budget : ℕ) → IsWithin budget one inside → IsWithin budget two inside
  within_there budget within = record {
    narrow = λ wide. within.narrow (wide_there ds bs js wired_other inside back closed_there wide);
    weight = within.weight;
    weighs = weight_there within.weight within.weighs;
    few = within.few;
  }

-- The set is within the budget in the other too.
pub alike_weigh : AlikePartsWeighAlike
alike_weigh budget net other wired wired_other inside closed alike within =
    let same = same_net net other alike.joints in
    subst (λ (n : Net). IsWithin budget n inside) same
    (within_there net.primitives other.primitives net.joints wired (subst IsWired (sym same) wired_other) inside closed (subst (λ (n : Net). AreAlike net n inside) (sym same) alike) budget within)
