-- The values that are live at a joint, one after another.
use Rattle.std.proofs.Common.{◌≡◌, ◌≢◌, ◌↔◌, inl, inr, ℕ, zero, suc, ◌+◌, ◌<◌, ◌||◌, Bool, true, false, cond, List, [], ◌∷◌, ◌++◌, length, get_or, map, refl, ap, sym, ◌∙◌, subst, append_assoc, arith}
use Rattle.std.specs.Prelude.{filter, IsTrue}
use Rattle.std.specs.List.{range_with_len}
use Rattle.std.proofs.lemmas.Bool.{cases_Bool, cases_lt}
use Rattle.std.proofs.lemmas.List.Elements.{filter-append}
use Rattle.std.proofs.lemmas.List.FromFn.{map-range_with_len_more}
use Rattle.reo_values.proofs.Sequences.{both_none}
use Rattle.reo_joint_values.specs.declared.value.JointValue.{JointValue}
use Rattle.reo_joint_values.specs.declared.value.JointValue.TheVariants.{Flow, RG, GR, GG, Jam}
use Rattle.reo_refute_base.specs.Items.{Lists, items_at}
use Rattle.reo_refute_base.specs.Live.{live_at}
use Rattle.reo_refute_live.specs.declared.support.live.LiveAt.{LiveAt}
use Rattle.reo_refute_live.specs.support.Families.{has, family_of, none_gone, AreLive}
use Rattle.reo_refute_live.proofs.support.LiveLemmas.{flag_in}
use Rattle.reo_refute_live.specs.Tables.{flow_set, live_flows}

-- A value, if it is live, as a list.
abbrev pub one : Bool → JointValue → List JointValue
one live v = cond live (v ∷ []) []

filter_one : (p : JointValue → Bool) (v : JointValue) → filter p (v ∷ []) ≡ one (p v) v
filter_one p v = elim (p v) as (λ b. cond b (v ∷ []) [] ≡ one b v) [ true ↦ refl | false ↦ refl ]

filter_more : (p : JointValue → Bool) (v : JointValue) (vs : List JointValue) → filter p (v ∷ vs) ≡ one (p v) v ++ filter p vs
filter_more p v vs = elim (p v) as (λ b. cond b (v ∷ filter p vs) (filter p vs) ≡ one b v ++ filter p vs) [ true ↦ refl | false ↦ refl ]

-- The flows so far, and the next.
pub flows_none : (flags : List Bool) → live_flows flags 0 ≡ []
flows_none flags = refl

pub flows_more : (flags : List Bool) (n : ℕ) → live_flows flags (n + 1) ≡ live_flows flags n ++ one (get_or flags n false) (Flow n)
flows_more flags n =
    ap (filter (flow_set flags)) (map-range_with_len_more Flow 0 n n (omega arith))
    ∙ filter-append (flow_set flags) (map Flow (range_with_len 0 n)) (Flow n ∷ [])
    ∙ ap (λ (l : List JointValue). live_flows flags n ++ l) (filter_one (flow_set flags) (Flow n))

pub flows_step : (flags : List Bool) (n : ℕ) (start now : List JointValue) (flag : Bool) (new : List JointValue) → now ≡ start ++ live_flows flags n → flag ≡ get_or flags n false
    → new ≡ now ++ one flag (Flow n) → new ≡ start ++ live_flows flags (n + 1)
flows_step flags n start now flag new is flag_is new_is =
    new_is ∙ ap (λ (l : List JointValue). l ++ one flag (Flow n)) is ∙ append_assoc start (live_flows flags n) (one flag (Flow n))
    ∙ ap (λ (b : Bool). start ++ (live_flows flags n ++ one b (Flow n))) flag_is ∙ ap (λ (l : List JointValue). start ++ l) (sym (flows_more flags n))

-- Of flows the family of a table has those whose flags are set.
flows_same : (live : LiveAt) (ns : List ℕ) → filter (has live) (map Flow ns) ≡ filter (flow_set live.flows) (map Flow ns)
flows_same live [] = refl
flows_same live (n ∷ ns) =
    filter_more (has live) (Flow n) (map Flow ns) ∙ ap (λ (l : List JointValue). one (get_or live.flows n false) (Flow n) ++ l) (flows_same live ns)
    ∙ sym (filter_more (flow_set live.flows) (Flow n) (map Flow ns))

module _ (lists : Lists) (table : List LiveAt) (are : AreLive lists table) (joint : ℕ) where
  abbrev entry : LiveAt
  entry = get_or table joint none_gone

  rest_is : filter (has entry) (RG ∷ GR ∷ GG ∷ Jam ∷ []) ≡ one entry.rg RG ++ (one entry.gr GR ++ (one entry.gg GG ++ one entry.jam Jam))
  rest_is =
      filter_more (has entry) RG (GR ∷ GG ∷ Jam ∷ []) ∙ ap (λ (l : List JointValue). one entry.rg RG ++ l)
      (filter_more (has entry) GR (GG ∷ Jam ∷ []) ∙ ap (λ (l : List JointValue). one entry.gr GR ++ l)
      (filter_more (has entry) GG (Jam ∷ []) ∙ ap (λ (l : List JointValue). one entry.gg GG ++ l) (filter_one (has entry) Jam)))

  pub live_is : live_at lists (family_of table) joint ≡ live_flows entry.flows (length entry.flows) ++ (one entry.rg RG ++ (one entry.gr GR ++ (one entry.gg GG ++ one entry.jam Jam)))
  live_is =
      filter-append (has entry) (map Flow (range_with_len 0 (length (items_at lists joint)))) (RG ∷ GR ∷ GG ∷ Jam ∷ [])
      ∙ ap (λ (l : List JointValue). l ++ filter (has entry) (RG ∷ GR ∷ GG ∷ Jam ∷ [])) (flows_same entry (range_with_len 0 (length (items_at lists joint))))
      ∙ ap (λ (n : ℕ). live_flows entry.flows n ++ filter (has entry) (RG ∷ GR ∷ GG ∷ Jam ∷ [])) (sym (are.flags joint))
      ∙ ap (λ (l : List JointValue). live_flows entry.flows (length entry.flows) ++ l) rest_is

-- Lists of values are empty exactly where none is live.
nil_both : {X : Type 0} (xs ys : List X) → xs ++ ys ≡ [] → (xs ≡ []) × (ys ≡ [])
nil_both [] ys e = (refl, e)
nil_both (x ∷ xs) ys e = absurd cc

one_nil : (b : Bool) (v : JointValue) → b ≡ false → one b v ≡ []
one_nil b v e = ap (λ (c : Bool). one c v) e

nil_one : (b : Bool) (v : JointValue) → one b v ≡ [] → b ≡ false
nil_one true v e = absurd cc
nil_one false v e = refl

flows_nil : (flags : List Bool) (n : ℕ) → ((k : ℕ) → get_or flags k false ≡ false) → live_flows flags n ≡ []
flows_nil flags n none = go (range_with_len 0 n)
  where
    go : (ns : List ℕ) → filter (flow_set flags) (map Flow ns) ≡ []
    go [] = refl
    go (k ∷ ns) = filter_more (flow_set flags) (Flow k) (map Flow ns) ∙ both_none (one (get_or flags k false) (Flow k)) (filter (flow_set flags) (map Flow ns)) (one_nil (get_or flags k false) (Flow k) (none k)) (go ns)

nil_flows : (flags : List Bool) (n k : ℕ) → live_flows flags n ≡ [] → k < n → get_or flags k false ≡ false
nil_flows flags zero k none lt = absurd (omega (arith, lt))
nil_flows flags (suc n) k none lt =
    let is : live_flows flags n ++ one (get_or flags n false) (Flow n) ≡ [] = sym (flows_more flags n) ∙ (let same : n + 1 ≡ suc n = omega arith in ap (live_flows flags) same) ∙ none in
    let both = nil_both (live_flows flags n) (one (get_or flags n false) (Flow n)) is in
    elim (cases_lt k n) [
      | inl below ↦ nil_flows flags n k both.0 below
      | inr from ↦ let here : n ≡ k = omega (arith, from, lt) in subst (λ (m : ℕ). get_or flags m false ≡ false) here (nil_one (get_or flags n false) (Flow n) both.1)
    ]

-- Some value of an entry is live.
abbrev pub any : LiveAt → Bool → Bool
any entry flow = entry.rg || entry.gr || entry.gg || entry.jam || flow

none_of : (a b c d e : Bool) → a || b || c || d || e ≡ false → (a ≡ false) × (b ≡ false) × (c ≡ false) × (d ≡ false) × (e ≡ false)
none_of false false false false false h = (refl, refl, refl, refl, refl)
none_of true b c d e h = absurd (all_true b c d e h)
  where
    all_true : (b c d e : Bool) → true || b || c || d || e ≡ false → ⊥
    all_true b c d e h = cc
none_of false true c d e h = absurd cc
none_of false false true d e h = absurd cc
none_of false false false true e h = absurd cc
none_of false false false false true h = absurd cc

module _ (lists : Lists) (table : List LiveAt) (are : AreLive lists table) (joint : ℕ) (flow : Bool)
    (is_flow : IsTrue flow ↔ ((n : ℕ) × (get_or (get_or table joint none_gone).flows n false ≡ true))) where
  abbrev at : LiveAt
  at = get_or table joint none_gone

  unset : flow ≡ false → (k : ℕ) → get_or at.flows k false ≡ false
  unset off k = elim (cases_Bool (get_or at.flows k false)) [
    | inl on ↦ let wrong : true ≡ false = sym (is_flow.1 (k, on)) ∙ off in absurd cc
    | inr none ↦ none
  ]

  none_live : any at flow ≡ false → live_at lists (family_of table) joint ≡ []
  none_live h =
      let n = none_of at.rg at.gr at.gg at.jam flow h in
      live_is lists table are joint ∙ both_none (live_flows at.flows (length at.flows)) (one at.rg RG ++ (one at.gr GR ++ (one at.gg GG ++ one at.jam Jam))) (flows_nil at.flows (length at.flows) (unset n.4))
      (both_none (one at.rg RG) (one at.gr GR ++ (one at.gg GG ++ one at.jam Jam)) (one_nil at.rg RG n.0)
      (both_none (one at.gr GR) (one at.gg GG ++ one at.jam Jam) (one_nil at.gr GR n.1)
      (both_none (one at.gg GG) (one at.jam Jam) (one_nil at.gg GG n.2) (one_nil at.jam Jam n.3))))

  live_none : live_at lists (family_of table) joint ≡ [] → any at flow ≡ false
  live_none e =
      let a = nil_both (live_flows at.flows (length at.flows)) (one at.rg RG ++ (one at.gr GR ++ (one at.gg GG ++ one at.jam Jam))) (sym (live_is lists table are joint) ∙ e) in
      let b = nil_both (one at.rg RG) (one at.gr GR ++ (one at.gg GG ++ one at.jam Jam)) a.1 in
      let c = nil_both (one at.gr GR) (one at.gg GG ++ one at.jam Jam) b.1 in
      let d = nil_both (one at.gg GG) (one at.jam Jam) c.1 in
      let no_flow : flow ≡ false = elim (cases_Bool flow) [
        | inl on ↦
            let n = is_flow.0 on in
            let wrong : true ≡ false = sym n.1 ∙ nil_flows at.flows (length at.flows) n.0 a.0 (flag_in at.flows n.0 n.1) in absurd cc
        | inr off ↦ off
      ] in
      rw (nil_one at.rg RG b.0, nil_one at.gr GR c.0, nil_one at.gg GG d.0, nil_one at.jam Jam d.1, no_flow) refl

  pub some_live : IsTrue (any at flow) ↔ (live_at lists (family_of table) joint ≢ [])
  some_live = (
    λ t e. let wrong : true ≡ false = sym t ∙ live_none e in absurd cc,
    λ h. elim (cases_Bool (any at flow)) [ inl on ↦ on | inr off ↦ absurd (h (none_live off)) ],
  )

-- Values that were added one after another.
pub in_order : (live at : LiveAt) → live ≡ at → (a b c d e : List JointValue) → a ≡ live_flows at.flows (length at.flows)
    → b ≡ a ++ one live.rg RG → c ≡ b ++ one live.gr GR → d ≡ c ++ one live.gg GG → e ≡ d ++ one live.jam Jam
    → e ≡ live_flows at.flows (length at.flows) ++ (one at.rg RG ++ (one at.gr GR ++ (one at.gg GG ++ one at.jam Jam)))
in_order live at is a b c d e a_is b_is c_is d_is e_is =
    let tail : LiveAt → List JointValue = λ x. one x.rg RG ++ (one x.gr GR ++ (one x.gg GG ++ one x.jam Jam)) in
    let d_all : d ++ one live.jam Jam ≡ c ++ (one live.gg GG ++ one live.jam Jam) = ap (λ (l : List JointValue). l ++ one live.jam Jam) d_is ∙ append_assoc c (one live.gg GG) (one live.jam Jam) in
    let c_all : c ++ (one live.gg GG ++ one live.jam Jam) ≡ b ++ (one live.gr GR ++ (one live.gg GG ++ one live.jam Jam)) =
    ap (λ (l : List JointValue). l ++ (one live.gg GG ++ one live.jam Jam)) c_is ∙ append_assoc b (one live.gr GR) (one live.gg GG ++ one live.jam Jam) in
    let b_all : b ++ (one live.gr GR ++ (one live.gg GG ++ one live.jam Jam)) ≡ a ++ tail live =
    ap (λ (l : List JointValue). l ++ (one live.gr GR ++ (one live.gg GG ++ one live.jam Jam))) b_is ∙ append_assoc a (one live.rg RG) (one live.gr GR ++ (one live.gg GG ++ one live.jam Jam)) in
    e_is ∙ d_all ∙ c_all ∙ b_all ∙ ap (λ (l : List JointValue). l ++ tail live) a_is ∙ ap (λ (x : LiveAt). live_flows at.flows (length at.flows) ++ tail x) is
