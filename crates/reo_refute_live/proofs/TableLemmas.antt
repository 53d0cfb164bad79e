-- Tables of live values, entry by entry.
use Rattle.std.proofs.Common.{◌≡◌, ◌≢◌, inl, inr, ℕ, ◌+◌, ◌<◌, ◌==◌, ◌&&◌, ◌||◌, not, nat_lt, Bool, true, false, List, [], ◌∷◌, ◌++◌, length, get_or, set, map, take, replicate, refl, ap, sym, ◌∙◌, subst, arith}
use Rattle.std.proofs.lemmas.Bool.{cases_eq, cases_lt, eq-eqb, ne_eqb}
use Rattle.std.proofs.lemmas.Bool.Decides.{nat_tests}
use Rattle.std.proofs.lemmas.List.{length-replicate, length-set, length-map, get_or-replicate, get_or_past, get_or-set_same, get_or-set_other, map-append, take_more}
use Rattle.std.proofs.Math.ListN.{get_or-map}
use Rattle.reo_values.specs.declared.value.Value.{Value}
use Rattle.reo_joint_values.specs.declared.value.JointValue.{JointValue}
use Rattle.reo_joint_values.specs.declared.value.JointValue.TheVariants.{Flow, RG, GR, GG, Jam}
use Rattle.reo_joint_values.specs.Values.{value_eq}
use Rattle.reo_refute_base.specs.Items.{Lists, items_at}
use Rattle.reo_refute_base.specs.Live.{all_live, without}
use Rattle.reo_refute_live.specs.declared.support.live.LiveAt.{LiveAt}
use Rattle.reo_refute_live.specs.support.Families.{has, family_of, none_gone, AreLive}
use Rattle.reo_refute_live.specs.Trail.{with_back}

-- The entry of a joint with these items, in which all is live.
abbrev pub whole : List Value → LiveAt
whole items = record { flows = replicate (length items) true; rg = true; gr = true; gg = true; jam = true }

pub whole_more : (lists : Lists) (n : ℕ) (table : List LiveAt) (entry : LiveAt) (list : List Value) → n < length lists → list ≡ get_or lists n list
    → table ≡ map whole (take n lists) → entry ≡ whole list → table ++ (entry ∷ []) ≡ map whole (take (n + 1) lists)
whole_more lists n table entry list lt is same here =
    ap (λ (t : List LiveAt). t ++ (entry ∷ [])) same ∙ ap (λ (e : LiveAt). map whole (take n lists) ++ (e ∷ [])) (here ∙ ap whole is)
    ∙ sym (map-append whole (take n lists) (get_or lists n list ∷ [])) ∙ ap (map whole) (sym (take_more lists n list lt))

module _ (lists : Lists) where
  entry_at : (j : ℕ) → get_or (map whole lists) j none_gone ≡ whole (items_at lists j)
  entry_at j = get_or-map whole lists j []

  whole_live : AreLive lists (map whole lists)
  whole_live = record {
    one_each = length-map lists whole;
    flags = λ j. ap (λ (e : LiveAt). length e.flows) (entry_at j) ∙ length-replicate (length (items_at lists j)) true;
  }

  flag_at : (k n : ℕ) → get_or (replicate k true) n false ≡ nat_lt n k
  flag_at k n = elim (cases_lt n k) [
    | inl lt ↦ get_or-replicate k n true false lt ∙ (let yes : true ≡ nat_lt n k = grind (arith, nat_tests) in yes)
    | inr past ↦ get_or_past (replicate k true) n false (omega (arith, past, length-replicate k true)) ∙ (let no : false ≡ nat_lt n k = grind (arith, nat_tests) in no)
  ]

  whole_has : (j : ℕ) (v : JointValue) → has (whole (items_at lists j)) v ≡ all_live lists j v
  whole_has j (Flow n) = flag_at (length (items_at lists j)) n
  whole_has j RG = refl
  whole_has j GR = refl
  whole_has j GG = refl
  whole_has j Jam = refl

  pub all_whole : (table : List LiveAt) → table ≡ map whole lists → AreLive lists table × (family_of table ≡ all_live lists)
  all_whole table is = (
    subst (AreLive lists) (sym is) whole_live,
    λ i j v. ((ap (λ (t : List LiveAt). family_of t j v) is) ∙ (ap (λ (e : LiveAt). has e v) (entry_at j) ∙ whole_has j v)) i,
  )

-- One entry of a table was changed.
module _ (table : List LiveAt) (joint : ℕ) (lt : joint < length table) (entry : LiveAt) where
  pub others_stay : (j : ℕ) (v : JointValue) → j ≢ joint → family_of (set table joint entry) j v ≡ family_of table j v
  others_stay j v off = ap (λ (e : LiveAt). has e v) (get_or-set_other table joint j entry none_gone off)

  pub here_is : (v : JointValue) → family_of (set table joint entry) joint v ≡ has entry v
  here_is v = ap (λ (e : LiveAt). has e v) (get_or-set_same table joint entry none_gone lt)

  pub live_stays : (lists : Lists) → AreLive lists table → length entry.flows ≡ length (get_or table joint none_gone).flows → AreLive lists (set table joint entry)
  live_stays lists are same = record {
    one_each = length-set table joint entry ∙ are.one_each;
    flags = λ j. elim (cases_eq j joint) [
      | inl e ↦
          subst (λ (i : ℕ). length (get_or (set table joint entry) i none_gone).flows ≡ length (items_at lists i)) (sym e)
          (ap (λ (x : LiveAt). length x.flows) (get_or-set_same table joint entry none_gone lt) ∙ same ∙ are.flags joint)
      | inr off ↦ ap (λ (x : LiveAt). length x.flows) (get_or-set_other table joint j entry none_gone off) ∙ are.flags j
    ];
  }

  gone_here : (a b c : Bool) → b ≡ true → a && not c ≡ a && not (b && c)
  gone_here a b c e = grind (arith, nat_tests)

  gone_other : (a b c : Bool) → b ≡ false → a ≡ a && not (b && c)
  gone_other a b c e = grind (arith, nat_tests)

  back_here : (a b c : Bool) → b ≡ true → a || c ≡ a || (b && c)
  back_here a b c e = grind (arith, nat_tests)

  back_other : (a b c : Bool) → b ≡ false → a ≡ a || (b && c)
  back_other a b c e = grind (arith, nat_tests)

  pub cleared : (value : JointValue) → ((w : JointValue) → has entry w ≡ has (get_or table joint none_gone) w && not (value_eq w value))
      → family_of (set table joint entry) ≡ without (family_of table) joint value
  cleared value here i j w = at j w i
    where
      at : (j : ℕ) (w : JointValue) → family_of (set table joint entry) j w ≡ without (family_of table) joint value j w
      at j w = elim (cases_eq j joint) [
        | inl e ↦
            subst (λ (k : ℕ). family_of (set table joint entry) k w ≡ without (family_of table) joint value k w) (sym e)
            (here_is w ∙ here w ∙ gone_here (family_of table joint w) (joint == joint) (value_eq w value) (eq-eqb joint joint refl))
        | inr off ↦ others_stay j w off ∙ gone_other (family_of table j w) (j == joint) (value_eq w value) (ne_eqb j joint off)
      ]

  pub returned : (value : JointValue) → ((w : JointValue) → has entry w ≡ has (get_or table joint none_gone) w || value_eq w value)
      → family_of (set table joint entry) ≡ with_back (family_of table) (record { joint = joint; value = value })
  returned value here i j w = at j w i
    where
      at : (j : ℕ) (w : JointValue) → family_of (set table joint entry) j w ≡ with_back (family_of table) (record { joint = joint; value = value }) j w
      at j w = elim (cases_eq j joint) [
        | inl e ↦
            subst (λ (k : ℕ). family_of (set table joint entry) k w ≡ with_back (family_of table) (record { joint = joint; value = value }) k w) (sym e)
            (here_is w ∙ here w ∙ back_here (family_of table joint w) (joint == joint) (value_eq w value) (eq-eqb joint joint refl))
        | inr off ↦ others_stay j w off ∙ back_other (family_of table j w) (j == joint) (value_eq w value) (ne_eqb j joint off)
      ]
