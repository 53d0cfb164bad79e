-- Taking away what is not used at a side.
use Rattle.std.proofs.Common.{◌≡◌, ◌⊎◌, ◌↔◌, inl, inr, ℕ, ◌+◌, ◌<◌, ◌≤◌, Bool, true, false, cond, List, [], length, get_or, ap, sym, ◌∙◌, subst, arith, below_more}
use Rattle.std.proofs.lemmas.Bool.{cases_eq, cases_Bool, both_ways}
use Rattle.reo_net_base.specs.Net.{Net}
use Rattle.reo_joint_values.specs.declared.value.JointValue.{JointValue}
use Rattle.reo_joint_values.specs.Values.{Names, Family}
use Rattle.reo_joint_values.specs.Supported.{IsUsed, IsThinned}
use Rattle.reo_rows.specs.RowFlags.{flag, count_set, AreAlikeTables}
use Rattle.reo_rows.specs.declared.rows.Rows.{Rows}
use Rattle.reo_rows.specs.Rows.{IsSifted, IsSeen}
use Rattle.reo_rows.specs.Sets.{value_of, code_of, family_of}
use Rattle.reo_rows.proofs.Codes.{value_code, flag_value, flag_in}
use Rattle.reo_propagate.specs.declared.thinning.Loss.{Loss}
use Rattle.reo_propagate.specs.Narrow.{IsCut, IsThinnedTo}
use Rattle.reo_propagate.proofs.Cutting.{IsCleared, was_set, other_row, other_place, cleared, cut_more}

module _ (net : Net) (names : Names) (side joint : ℕ) (start : Family) where
  module _ (n : ℕ) (now : List (List Bool)) (t : IsThinnedTo net names side joint n start now) where
    -- A value that is used stays.
    pub thin_keep : IsUsed net names start side joint (value_of n) ⊎ (flag now joint n ≡ false) → IsThinnedTo net names side joint (n + 1) start now
    thin_keep used = record {
      thinned = t.thinned;
      done = below_more (λ c. flag now joint c ≡ true → IsUsed net names start side joint (value_of c)) n t.done
          (λ h. elim used [ inl u ↦ u | inr gone ↦ absurd (both_ways (flag now joint n) gone h) ]);
    }

    -- A value that is not used goes.
    pub thin_clear : (new : List (List Bool)) → IsCleared joint n now new → (IsUsed net names start side joint (value_of n) → ⊥) → IsThinnedTo net names side joint (n + 1) start new
    thin_clear new is unused = record {
      thinned = record {
        less = λ j v h. t.thinned.less j v (was_set joint n now new is j (code_of v) h);
        gone = λ j v lt at h. elim (t.thinned.gone j v lt at h) [
          | inr gone ↦ inr gone
          | inl stood ↦ elim (cases_eq j joint) [
            | inr ne ↦ inl (other_row joint n now new is j (code_of v) ne ∙ stood)
            | inl e ↦ elim (cases_eq (code_of v) n) [
              | inr ne ↦ inl (other_place joint n now new is j (code_of v) ne ∙ stood)
              | inl f ↦
                  let v_is : v ≡ value_of n = sym (value_code v) ∙ ap value_of f in
                  inr (λ u. unused (subst (λ (w : JointValue). IsUsed net names start side joint w) v_is (subst (λ (k : ℕ). IsUsed net names start side k v) e u)))
            ]
          ]
        ];
      };
      done = below_more (λ c. flag new joint c ≡ true → IsUsed net names start side joint (value_of c)) n
          (λ c lt h. t.done c lt (was_set joint n now new is joint c h))
          (λ h. absurd (both_ways (flag new joint n) (cleared joint n now new is) h));
    }

  -- What is done at a joint, by values.
  pub joint_done : (old now : List (List Bool)) → AreAlikeTables old now → IsThinnedTo net names side joint (length (get_or old joint [])) start now
      → (v : JointValue) → family_of now joint v ≡ true → IsUsed net names start side joint v
  joint_done old now alike t v h =
      let there : code_of v < length (get_or now joint []) = flag_in now joint (code_of v) h in
      let lt : code_of v < length (get_or old joint []) = omega (arith, there, alike.width joint) in
      subst (λ (w : JointValue). IsUsed net names start side joint w) (value_code v) (t.done (code_of v) lt h)

some_or_none : (b : Bool) → cond b 1 0 ≤ 1
some_or_none true = omega arith
some_or_none false = omega arith

-- The first n values of a joint were looked at.
pub record IsThinning (net : Net) (names : Names) (side joint n : ℕ) (rows : Rows) (old now : List (List Bool)) (loss : Loss) : Type 0 where
  pub cut : IsCut joint old now loss
  pub fewer : count_set now + cond loss.some 1 0 ≤ count_set old
  pub thinned : (start : Family) → IsSifted net names start side rows → IsSeen net names start side rows → IsThinned net names side start (family_of old)
      → IsThinnedTo net names side joint n start now

module _ (net : Net) (names : Names) (side joint : ℕ) (rows : Rows) (old : List (List Bool)) where
  module _ (n : ℕ) (now : List (List Bool)) (loss : Loss) (t : IsThinning net names side joint n rows old now loss) where
    -- A value that is used stays, and one that has gone.
    pub thinning_keep :
        ((start : Family) → IsSifted net names start side rows → IsSeen net names start side rows → start joint (value_of n) ≡ true → IsUsed net names start side joint (value_of n))
        ⊎ (flag now joint n ≡ false) → IsThinning net names side joint (n + 1) rows old now loss
    thinning_keep used = record {
      cut = t.cut;
      fewer = t.fewer;
      thinned = λ start sifted seen thinned.
          let before : IsThinnedTo net names side joint n start now = t.thinned start sifted seen thinned in
          elim used [
            | inr gone ↦ thin_keep net names side joint start n now before (inr gone)
            | inl uses ↦ elim (cases_Bool (flag now joint n)) [
              | inr gone ↦ thin_keep net names side joint start n now before (inr gone)
              | inl has ↦ thin_keep net names side joint start n now before (inl (uses start sifted seen (before.thinned.less joint (value_of n) (flag_value now joint n ∙ has))))
            ]
          ];
    }

    -- A value that is not used goes.
    pub thinning_clear : (new : List (List Bool)) (more : Loss) → AreAlikeTables now new → IsCleared joint n now new → count_set new + 1 ≡ count_set now
        → more.some ≡ true → (more.flow ≡ true) ↔ ((loss.flow ≡ true) ⊎ (4 ≤ n)) → flag now joint n ≡ true
        → ((start : Family) → IsSifted net names start side rows → IsSeen net names start side rows → start joint (value_of n) ≡ true → IsUsed net names start side joint (value_of n) → ⊥)
        → IsThinning net names side joint (n + 1) rows old new more
    thinning_clear new more alike is fewer some flow has unused = record {
      cut = cut_more joint n old now new loss more t.cut alike is some flow;
      fewer = omega (arith, fewer, t.fewer, some_or_none loss.some, ap {B = ℕ} (λ (b : Bool). cond b 1 0) some);
      thinned = λ start sifted seen thinned.
          let before : IsThinnedTo net names side joint n start now = t.thinned start sifted seen thinned in
          thin_clear net names side joint start n now before new is (unused start sifted seen (before.thinned.less joint (value_of n) (flag_value now joint n ∙ has)));
    }
