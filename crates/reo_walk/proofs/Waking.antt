-- Sides that wait, or stay at rest, where a joint of theirs lost values.
use Rattle.std.proofs.Common.{◌≡◌, ◌≢◌, ◌⊎◌, inl, inr, ℕ, ◌+◌, ◌<◌, ◌≤◌, Bool, true, false, not, cond, ◌&&◌, ◌||◌, List, [], length, get_or, refl, ap, sym, ◌∙◌, subst, arith}
use Rattle.std.specs.Bool.{◌==◌}
use Rattle.std.proofs.Math.ListN.{get_or-eq_default}
use Rattle.std.proofs.lemmas.Bool.{cases_eq, cases_lt, both_ways, eq-eqb, ne_eqb}
use Rattle.reo_net_base.specs.Net.{Net}
use Rattle.reo_net_base.specs.Sides.{side_count}
use Rattle.reo_net_base.specs.Wired.{IsWired}
use Rattle.reo_joint_values.specs.declared.value.JointValue.{JointValue}
use Rattle.reo_joint_values.specs.declared.value.JointValue.TheVariants.{Flow}
use Rattle.reo_joint_values.specs.Values.{Names, Family, giver_side, taker_side, AtSide}
use Rattle.reo_joint_values.specs.Works.{RowWorks}
use Rattle.reo_side_tables.specs.Listing.{StandsIn}
use Rattle.reo_side_tables.specs.Marks.{IsJointOf, group_in}
use Rattle.reo_rows.specs.declared.rows.Rows.{Rows}
use Rattle.reo_rows.specs.declared.groups.Group.{Group}
use Rattle.reo_rows.specs.RowFlags.{flag}
use Rattle.reo_rows.specs.Sets.{code_of, family_of}
use Rattle.reo_rows.specs.Groups.{live_in, AreNoted, IsNoted}
use Rattle.reo_rows.specs.Rows.{AreLive, IsSifted, IsSpared}
use Rattle.reo_rows.proofs.Thinned.{live_less}
use Rattle.reo_propagate.specs.declared.queue.WaitingSides.{WaitingSides}
use Rattle.reo_propagate.specs.Queues.{IsWoken}
use Rattle.reo_propagate.specs.Narrow.{IsAtRest, IsAwakeOrStays, IsTended, nobody}
use Rattle.reo_propagate.proofs.Resting.{rests_same}
use Rattle.reo_walk.proofs.Staying.{stays_at_rest}

-- What is known of sides while a joint lost values: of some sides by what was there before, of the others by what is left.
pub record AreKept (net : Net) (names : Names) (inside : ℕ → Bool) (todo : ℕ → Bool) (old new : Family) (rows : Rows) (queue : WaitingSides) : Type 0 where
  pub one_each : length queue.waits ≡ side_count net
  pub works : (side : ℕ) → inside side ≡ true → AreLive net names (cond (todo side) old new) side rows
  pub at_rest : (side : ℕ) → inside side ≡ true → get_or queue.waits side true ≡ false → IsAtRest net names (cond (todo side) old new) side rows
  pub waiting : (side : ℕ) → inside side ≡ true → get_or queue.waits side true ≡ true → StandsIn queue.line side
  pub within : (m : ℕ) → m < length queue.line → inside (get_or queue.line m 0) ≡ true

-- Rows of a side that is as it was are noted as they were.
noted_same : (net : Net) (old new : Rows) (side : ℕ) → ((row : ℕ) → flag new.live side row ≡ flag old.live side row) → get_or new.notes side [] ≡ get_or old.notes side [] → AreNoted net old.live side old.notes → AreNoted net new.live side new.notes
noted_same net old new side flags notes are group d lt =
    let o = are group d lt in
    let same : (row : ℕ) → live_in net new.live side group row ≡ live_in net old.live side group row = λ row. ap (λ (b : Bool). b && (group_in net side row == group)) (flags row) in
    subst (λ (list : List Group). IsNoted net new.live side group (get_or list group d)) (sym notes) (record {
      none = λ e row. same row ∙ o.none e row;
      first = λ row e. same row ∙ o.first row e;
      other = λ row e. same row ∙ o.other row e;
      differ = o.differ;
      alike = λ row other e f l. o.alike row other e f (sym (same other) ∙ l);
    })

sifted_same : (net : Net) (names : Names) (family : Family) (old new : Rows) (side : ℕ) → ((row : ℕ) → flag new.live side row ≡ flag old.live side row) → get_or new.notes side [] ≡ get_or old.notes side [] → IsSifted net names family side old → IsSifted net names family side new
sifted_same net names family old new side flags notes s = record {
  works = λ row w. flags row ∙ s.works row w;
  only = λ row f. s.only row (sym (flags row) ∙ f);
  noted = noted_same net old new side flags notes s.noted;
}

-- The sides that are still to be looked at, but for one.
abbrev pub without : ℕ → (ℕ → Bool) → ℕ → Bool
without side todo s = todo s && not (s == side)

module _ (net : Net) (names : Names) (inside : ℕ → Bool) (todo : ℕ → Bool) (old new : Family) (less : (j : ℕ) (v : JointValue) → new j v ≡ true → old j v ≡ true)
    (side joint : ℕ) (is_in : inside side ≡ true) (open_still : todo side ≡ true) (rows_old rows_new : Rows) (before after : WaitingSides) (lost : Bool)
    (kept : AreKept net names inside todo old new rows_old before) where
  other_for : (a b : Bool) → b ≡ false → (a && not b) ≡ a
  other_for true b is = ap not is
  other_for false b is = refl

  other_one : (s : ℕ) → s ≢ side → without side todo s ≡ todo s
  other_one s apart = other_for (todo s) (s == side) (ne_eqb s side apart)

  here_for : (a b : Bool) → b ≡ true → (a && not b) ≡ false
  here_for true b is = ap not is
  here_for false b is = refl

  here_one : without side todo side ≡ false
  here_one = here_for (todo side) (side == side) (eq-eqb side side refl)

  family_other : (s : ℕ) → s ≢ side → cond (without side todo s) old new ≡ cond (todo s) old new
  family_other s apart = ap (λ (t : Bool). cond t old new) (other_one s apart)

  family_here : cond (without side todo side) old new ≡ new
  family_here = ap (λ (t : Bool). cond t old new) here_one

  live_here : AreLive net names old side rows_old
  live_here = subst (λ (t : Bool). AreLive net names (cond t old new) side rows_old) open_still (kept.works side is_in)

  rest_here : get_or before.waits side true ≡ false → IsAtRest net names old side rows_old
  rest_here slept = subst (λ (t : Bool). IsAtRest net names (cond t old new) side rows_old) open_still (kept.at_rest side is_in slept)

  -- It waits.
  woken : IsWoken before after side → rows_new ≡ rows_old → AreKept net names inside (without side todo) old new rows_new after
  woken w same = record {
    one_each = w.one_each ∙ kept.one_each;
    works = λ s s_in. subst (λ (r : Rows). AreLive net names (cond (without side todo s) old new) s r) (sym same) (elim (cases_eq s side) [
      | inl e ↦ subst (λ (x : ℕ). AreLive net names (cond (without side todo x) old new) x rows_old) (sym e) (subst (λ (f : Family). AreLive net names f side rows_old) (sym family_here) (live_less net names old new side rows_old less live_here))
      | inr apart ↦ subst (λ (f : Family). AreLive net names f s rows_old) (sym (family_other s apart)) (kept.works s s_in)
    ]);
    at_rest = λ s s_in slept. subst (λ (r : Rows). IsAtRest net names (cond (without side todo s) old new) s r) (sym same) (elim (cases_eq s side) [
      | inl e ↦ absurd (both_ways (get_or after.waits s true) slept (ap (λ (x : ℕ). get_or after.waits x true) e ∙ w.here))
      | inr apart ↦ subst (λ (f : Family). IsAtRest net names f s rows_old) (sym (family_other s apart)) (kept.at_rest s s_in (sym (w.other s apart) ∙ slept))
    ]);
    waiting = λ s s_in waits. elim (cases_eq s side) [
      | inl e ↦ subst (λ (x : ℕ). StandsIn after.line x) (sym e) (stands_here (get_or before.waits side true) refl)
      | inr apart ↦ w.stays s (kept.waiting s s_in (sym (w.other s apart) ∙ waits))
    ];
    within = λ m lt. elim (w.from m lt) [
      | inl stood ↦ ap inside (sym stood.2) ∙ kept.within stood.0 stood.1
      | inr e ↦ ap inside e ∙ is_in
    ];
  }
    where
      stands_here : (t : Bool) → get_or before.waits side true ≡ t → StandsIn after.line side
      stands_here true waited = w.stays side (kept.waiting side is_in waited)
      stands_here false slept = w.comes slept

  -- It stays at rest.
  spared : after ≡ before → get_or before.waits side true ≡ false → IsSpared net new side joint rows_old rows_new → IsAtRest net names new side rows_new → AreKept net names inside (without side todo) old new rows_new after
  spared same slept s rest = subst (AreKept net names inside (without side todo) old new rows_new) (sym same) (record {
    one_each = kept.one_each;
    works = λ k k_in. elim (cases_eq k side) [
      | inl e ↦ subst (λ (x : ℕ). AreLive net names (cond (without side todo x) old new) x rows_new) (sym e) (subst (λ (f : Family). AreLive net names f side rows_new) (sym family_here) rest.sifted.works)
      | inr apart ↦ λ row w. s.others.flags k row apart ∙ kept.works k k_in row (subst (λ (f : Family). RowWorks net names f k row) (family_other k apart) w)
    ];
    at_rest = λ k k_in slept_k. elim (cases_eq k side) [
      | inl e ↦ subst (λ (x : ℕ). IsAtRest net names (cond (without side todo x) old new) x rows_new) (sym e) (subst (λ (f : Family). IsAtRest net names f side rows_new) (sym family_here) rest)
      | inr apart ↦
          let r = kept.at_rest k k_in slept_k in
          subst (λ (f : Family). IsAtRest net names f k rows_new) (sym (family_other k apart))
          (record { sifted = sifted_same net names (cond (todo k) old new) rows_old rows_new k (λ row. s.others.flags k row apart) (s.others.notes k apart) r.sifted; settled = r.settled })
    ];
    waiting = kept.waiting;
    within = kept.within;
  })

  pub kept_more : (slept_rest : (r_old r_new : Rows) → IsAtRest net names old side r_old → IsSpared net new side joint r_old r_new → lost ≡ false → IsAtRest net names new side r_new)
      → IsAwakeOrStays net new rows_old rows_new before after side joint lost → AreKept net names inside (without side todo) old new rows_new after
  kept_more stays (inl (w, same)) = woken w same
  kept_more stays (inr (same, no_flow, slept, s)) = spared same slept s (stays rows_old rows_new (rest_here slept) s no_flow)

-- At first all sides of the joint are to be looked at, and others stay as they are.
pub kept_first : (net : Net) (names : Names) (inside todo : ℕ → Bool) (old new : Family) (rows : Rows) (queue : WaitingSides) → ((j : ℕ) (v : JointValue) → new j v ≡ true → old j v ≡ true)
    → ((side : ℕ) → todo side ≡ false → (j : ℕ) (v : JointValue) → j < length net.joints → AtSide net j side → new j v ≡ old j v)
    → ((side : ℕ) → inside side ≡ true → AreLive net names old side rows) → ((side : ℕ) → inside side ≡ true → get_or queue.waits side true ≡ false → IsAtRest net names old side rows)
    → length queue.waits ≡ side_count net → ((side : ℕ) → inside side ≡ true → get_or queue.waits side true ≡ true → StandsIn queue.line side) → ((m : ℕ) → m < length queue.line → inside (get_or queue.line m 0) ≡ true)
    → AreKept net names inside todo old new rows queue
kept_first net names inside todo old new rows queue less same live rest one waiting within = record {
  one_each = one;
  works = λ side is_in. live_for side (todo side) (live side is_in);
  at_rest = λ side is_in slept. rest_for side (todo side) refl (rest side is_in slept);
  waiting = waiting;
  within = within;
}
  where
    live_for : (side : ℕ) (t : Bool) → AreLive net names old side rows → AreLive net names (cond t old new) side rows
    live_for side true l = l
    live_for side false l = live_less net names old new side rows less l

    rest_for : (side : ℕ) (t : Bool) → todo side ≡ t → IsAtRest net names old side rows → IsAtRest net names (cond t old new) side rows
    rest_for side true is r = r
    rest_for side false is r = rests_same net names old new side rows (λ j v lt at. same side is j v lt at) r

-- In the end no side is to be looked at.
pub kept_last : (net : Net) (names : Names) (inside todo : ℕ → Bool) (old : Family) (alive : List (List Bool)) (rows : Rows) (queue : WaitingSides) → ((side : ℕ) → todo side ≡ false) → AreKept net names inside todo old (family_of alive) rows queue
    → IsTended net names inside (nobody net) alive rows queue
kept_last net names inside todo old alive rows queue none kept = record {
  one_each = kept.one_each;
  works = λ side is_in. subst (λ (t : Bool). AreLive net names (cond t old (family_of alive)) side rows) (none side) (kept.works side is_in);
  at_rest = λ side is_in ne slept. subst (λ (t : Bool). IsAtRest net names (cond t old (family_of alive)) side rows) (none side) (kept.at_rest side is_in slept);
  waiting = kept.waiting;
  within = kept.within;
}

-- The sides of a joint.
abbrev pub two_sides : ℕ → ℕ → ℕ → Bool
two_sides a b s = (s == a) || (s == b)

two_first : (a b : ℕ) → two_sides a b a ≡ true
two_first a b = or_for (a == a) (a == b) (inl (eq-eqb a a refl))
  where
    or_for : (x y : Bool) → (x ≡ true) ⊎ (y ≡ true) → (x || y) ≡ true
    or_for true y h = refl
    or_for false y (inl h) = cc
    or_for false y (inr h) = h

neither : (a b s : ℕ) → two_sides a b s ≡ false → (s ≢ a) × (s ≢ b)
neither a b s h = (λ e. both_ways (two_sides a b s) h (or_one (s == a) (s == b) (eq-eqb s a e)), λ e. both_ways (two_sides a b s) h (or_two (s == a) (s == b) (eq-eqb s b e)))
  where
    or_one : (x y : Bool) → x ≡ true → (x || y) ≡ true
    or_one true y h = refl
    or_one false y h = cc

    or_two : (x y : Bool) → y ≡ true → (x || y) ≡ true
    or_two true y h = refl
    or_two false y h = h

second_left : (a b : ℕ) → a ≢ b → without a (two_sides a b) b ≡ true
second_left a b apart = left_for (b == a) (b == b) (ne_eqb b a (λ e. apart (sym e))) (eq-eqb b b refl)
  where
    left_for : (x y : Bool) → x ≡ false → y ≡ true → ((x || y) && not x) ≡ true
    left_for true y h k = cc
    left_for false y h k = ap (λ (t : Bool). t && true) k

none_left : (a b s : ℕ) → without b (without a (two_sides a b)) s ≡ false
none_left a b s = none_for (s == a) (s == b)
  where
    none_for : (x y : Bool) → (((x || y) && not x) && not y) ≡ false
    none_for true true = refl
    none_for true false = refl
    none_for false true = refl
    none_for false false = refl

slept_in : (waits : List Bool) (side : ℕ) → get_or waits side true ≡ false → side < length waits
slept_in waits side slept = elim (cases_lt side (length waits)) [
  | inl lt ↦ lt
  | inr ge ↦ absurd (both_ways (get_or waits side true) slept (get_or-eq_default waits true ge))
]

-- A joint lost values that do not suit, and both its sides were woken.
module _ (net : Net) (wired : IsWired net) (names : Names) (inside : ℕ → Bool) (joint a b : ℕ) (apart : a ≢ b) (two : (t : ℕ) → AtSide net joint t → (t ≡ a) ⊎ (t ≡ b)) (of_a : IsJointOf net a joint) (of_b : IsJointOf net b joint) (a_in : inside a ≡ true) (b_in : inside b ≡ true)
    (old new : List (List Bool)) (lost : Bool) (less : (i c : ℕ) → flag new i c ≡ true → flag old i c ≡ true) (elsewhere : (i c : ℕ) → i ≢ joint → flag new i c ≡ flag old i c)
    (flows : lost ≡ false → (c : ℕ) → 4 ≤ c → flag new joint c ≡ flag old joint c) where
  less_values : (j : ℕ) (v : JointValue) → family_of new j v ≡ true → family_of old j v ≡ true
  less_values j v h = less j (code_of v) h

  same_flow : lost ≡ false → (j n : ℕ) → family_of new j (Flow n) ≡ family_of old j (Flow n)
  same_flow kept_flows j n = elim (cases_eq j joint) [
    | inl e ↦ subst (λ (x : ℕ). flag new x (n + 4) ≡ flag old x (n + 4)) (sym e) (flows kept_flows (n + 4) (omega arith))
    | inr off ↦ elsewhere j (n + 4) off
  ]

  same_away : (side : ℕ) → two_sides a b side ≡ false → (j : ℕ) (v : JointValue) → j < length net.joints → AtSide net j side → family_of new j v ≡ family_of old j v
  same_away side h j v lt at =
      let off = neither a b side h in
      elsewhere j (code_of v) (λ e. elim (two side (subst (λ (x : ℕ). AtSide net x side) e at)) [ inl x ↦ off.0 x | inr x ↦ off.1 x ])

  pub kept_begin : (rows : Rows) (queue : WaitingSides) → IsTended net names inside (nobody net) old rows queue → AreKept net names inside (two_sides a b) (family_of old) (family_of new) rows queue
  kept_begin rows queue tended =
      kept_first net names inside (two_sides a b) (family_of old) (family_of new) rows queue less_values same_away tended.works
      (λ side is_in slept. tended.at_rest side is_in (λ e. (let lt = slept_in queue.waits side slept in omega (arith, lt, e, tended.one_each))) slept) tended.one_each tended.waiting tended.within

  stays_side : (side : ℕ) → IsJointOf net side joint → (rows_old rows_new : Rows) → IsAtRest net names (family_of old) side rows_old → IsSpared net (family_of new) side joint rows_old rows_new → lost ≡ false → IsAtRest net names (family_of new) side rows_new
  stays_side side of rows_old rows_new rest spared no_flow =
      stays_at_rest net wired names (family_of old) (family_of new) side joint rows_old rows_new of less_values (λ j n lt at. same_flow no_flow j n) (λ j v lt at off. elsewhere j (code_of v) off) rest spared

  pub kept_one : (r0 r1 : Rows) (q0 q1 : WaitingSides) → AreKept net names inside (two_sides a b) (family_of old) (family_of new) r0 q0 → IsAwakeOrStays net (family_of new) r0 r1 q0 q1 a joint lost
      → AreKept net names inside (without a (two_sides a b)) (family_of old) (family_of new) r1 q1
  kept_one r0 r1 q0 q1 kept awake =
      kept_more net names inside (two_sides a b) (family_of old) (family_of new) less_values a joint a_in (two_first a b) r0 r1 q0 q1 lost kept (stays_side a of_a) awake

  pub kept_both : (r1 r2 : Rows) (q1 q2 : WaitingSides) → AreKept net names inside (without a (two_sides a b)) (family_of old) (family_of new) r1 q1 → IsAwakeOrStays net (family_of new) r1 r2 q1 q2 b joint lost
      → IsTended net names inside (nobody net) new r2 q2
  kept_both r1 r2 q1 q2 kept awake =
      kept_last net names inside (without b (without a (two_sides a b))) (family_of old) new r2 q2 (none_left a b)
      (kept_more net names inside (without a (two_sides a b)) (family_of old) (family_of new) less_values b joint b_in (second_left a b apart) r1 r2 q1 q2 lost kept (stays_side b of_b) awake)

  -- Where nothing was lost, all stays as it was.
  pub kept_same : (rows : Rows) (queue : WaitingSides) → ((c : ℕ) → flag new joint c ≡ flag old joint c) → IsTended net names inside (nobody net) old rows queue → IsTended net names inside (nobody net) new rows queue
  kept_same rows queue same tended = record {
    one_each = tended.one_each;
    works = λ side is_in. live_less net names (family_of old) (family_of new) side rows less_values (tended.works side is_in);
    at_rest = λ side is_in ne slept. rests_same net names (family_of old) (family_of new) side rows (λ j v lt at. elim (cases_eq j joint) [
      | inl e ↦ subst (λ (x : ℕ). flag new x (code_of v) ≡ flag old x (code_of v)) (sym e) (same (code_of v))
      | inr off ↦ elsewhere j (code_of v) off
    ]) (tended.at_rest side is_in ne slept);
    waiting = tended.waiting;
    within = tended.within;
  }

pub two_of : (net : Net) (joint a b : ℕ) → a ≡ giver_side net joint → b ≡ taker_side net joint → (t : ℕ) → AtSide net joint t → (t ≡ a) ⊎ (t ≡ b)
two_of net joint a b a_is b_is t (inl at) = inl (sym at ∙ sym a_is)
two_of net joint a b a_is b_is t (inr at) = inr (sym at ∙ sym b_is)
