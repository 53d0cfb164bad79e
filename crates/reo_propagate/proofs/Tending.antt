-- Sides are at rest or wait while others lose values.
use Rattle.std.proofs.Common.{◌≡◌, ◌≢◌, ◌⊎◌, inl, inr, ℕ, zero, suc, ◌<◌, ◌≤◌, Bool, true, false, List, [], ◌∷◌, length, get_or, ap, sym, ◌∙◌, subst, arith, get_or-set_same, get_or-set_other}
use Rattle.std.proofs.lemmas.Bool.{cases_eq, cases_Bool, both_ways}
use Rattle.std.proofs.lemmas.List.{get_or_past, length-set}
use Rattle.reo_net_base.specs.Net.{Net}
use Rattle.reo_net_base.specs.Sides.{side_count}
use Rattle.reo_net_base.specs.Wired.{IsWired}
use Rattle.reo_joint_values.specs.declared.value.JointValue.{JointValue}
use Rattle.reo_joint_values.specs.Values.{Names, Family, AtSide}
use Rattle.reo_joint_values.specs.Supported.{IsUsed, IsSupported, IsThinned}
use Rattle.reo_joint_values.proofs.Narrowing.{at_cases, used_still}
use Rattle.reo_side_tables.specs.Listing.{StandsIn, Lists}
use Rattle.reo_side_tables.specs.Marks.{IsJointOf}
use Rattle.reo_rows.specs.declared.rows.Rows.{Rows}
use Rattle.reo_rows.specs.RowFlags.{flag}
use Rattle.reo_rows.specs.Sets.{code_of, family_of}
use Rattle.reo_rows.specs.Groups.{AreNoted}
use Rattle.reo_rows.specs.Rows.{AreLive, IsSifted, OtherSidesStay, IsSpared}
use Rattle.reo_rows.proofs.Thinned.{live_less, sifted_thinned}
use Rattle.reo_propagate.specs.declared.queue.WaitingSides.{WaitingSides}
use Rattle.reo_propagate.specs.declared.thinning.Loss.{Loss}
use Rattle.reo_propagate.specs.Queues.{IsWoken, IsNext}
use Rattle.reo_propagate.specs.Narrow.{IsAtRest, IsAwakeOrStays, IsCut, IsTended, nobody}
use Rattle.reo_propagate.proofs.Cutting.{cut_none}
use Rattle.reo_propagate.proofs.Resting.{SideStays, stays_others, works_stays, rests_stays, rests_same, rests_spared}

-- A joint lost values, and some of its sides are still to be woken: those may be at rest with the old values alone.
pub record IsLosing (net : Net) (names : Names) (inside : ℕ → Bool) (revised : ℕ) (asleep : ℕ → Type 0) (old now : List (List Bool)) (rows : Rows) (queue : WaitingSides)
    : Type 0 where
  pub one_each : length queue.waits ≡ side_count net
  pub works : (side : ℕ) → inside side ≡ true → AreLive net names (family_of now) side rows
  pub at_rest : (side : ℕ) → inside side ≡ true → side ≢ revised → get_or queue.waits side true ≡ false
      → IsAtRest net names (family_of now) side rows ⊎ (asleep side × IsAtRest net names (family_of old) side rows)
  pub waiting : (side : ℕ) → inside side ≡ true → get_or queue.waits side true ≡ true → StandsIn queue.line side
  pub within : (m : ℕ) → m < length queue.line → inside (get_or queue.line m 0) ≡ true

module _ (net : Net) (names : Names) (inside : ℕ → Bool) (revised joint : ℕ) (old now : List (List Bool)) (loss : Loss) where
  -- At first both sides of the joint are to be woken.
  pub losing_begins : (rows : Rows) (queue : WaitingSides) → IsCut joint old now loss → IsTended net names inside revised old rows queue
      → IsLosing net names inside revised (λ side. AtSide net joint side) old now rows queue
  losing_begins rows queue cut t = record {
    one_each = t.one_each;
    works = λ s is. live_less net names (family_of old) (family_of now) s rows (λ j v h. cut.less j (code_of v) h) (t.works s is);
    at_rest = λ s is ne sleeps. elim (at_cases net joint s) [
      | inl at ↦ inr (at, t.at_rest s is ne sleeps)
      | inr off ↦ inl (rests_same net names (family_of old) (family_of now) s rows
          (λ j v lt at. cut.elsewhere j (code_of v) (λ e. off (subst (λ (k : ℕ). AtSide net k s) e at))) (t.at_rest s is ne sleeps))
    ];
    waiting = t.waiting;
    within = t.within;
  }

  module _ (asleep : ℕ → Type 0) (before after : Rows) (waiting then : WaitingSides) (losing : IsLosing net names inside revised asleep old now before waiting) where
    -- What waking a side asks for.
    pub losing_noted : (side : ℕ) → inside side ≡ true → side ≢ revised → get_or waiting.waits side true ≡ false → AreNoted net before.live side before.notes
    losing_noted side is ne sleeps = elim (losing.at_rest side is ne sleeps) [ inl r ↦ r.sifted.noted | inr r ↦ r.1.sifted.noted ]

    module _ (side : ℕ) (of : IsJointOf net side joint) (is_in : inside side ≡ true) (apart : side ≢ revised) where
      woken_now : IsWoken waiting then side → IsLosing net names inside revised (λ s. asleep s × (s ≢ side)) old now before then
      woken_now woken = record {
        one_each = woken.one_each ∙ losing.one_each;
        works = losing.works;
        at_rest = λ s is ne sleeps.
            let off : s ≢ side = λ e. both_ways (get_or then.waits s true) sleeps (ap (λ (k : ℕ). get_or then.waits k true) e ∙ woken.here) in
            elim (losing.at_rest s is ne (sym (woken.other s off) ∙ sleeps)) [ inl r ↦ inl r | inr r ↦ inr ((r.0, off), r.1) ];
        waiting = λ s is waits. elim (cases_eq s side) [
          | inr off ↦ woken.stays s (losing.waiting s is (sym (woken.other s off) ∙ waits))
          | inl e ↦ elim (cases_Bool (get_or waiting.waits s true)) [
            | inl waited ↦ woken.stays s (losing.waiting s is waited)
            | inr slept ↦ subst (λ (k : ℕ). StandsIn then.line k) (sym e) (woken.comes (ap (λ (k : ℕ). get_or waiting.waits k true) (sym e) ∙ slept))
          ]
        ];
        within = λ m lt. elim (woken.from m lt) [
          | inl stood ↦ ap inside (sym stood.2) ∙ losing.within stood.0 stood.1
          | inr e ↦ ap inside e ∙ is_in
        ];
      }

      spared_now : IsWired net → IsCut joint old now loss → loss.flow ≡ false → get_or waiting.waits side true ≡ false → IsSpared net (family_of now) side joint before after
          → IsLosing net names inside revised (λ s. asleep s × (s ≢ side)) old now after waiting
      spared_now wired cut still slept spared =
          let here : IsAtRest net names (family_of now) side after = elim (losing.at_rest side is_in apart slept) [
            | inl r ↦ rests_spared net wired names joint side now now loss before after of (cut_none joint now loss) still spared r
            | inr r ↦ rests_spared net wired names joint side old now loss before after of cut still spared r.1
          ] in
          record {
            one_each = losing.one_each;
            works = λ s is. elim (cases_eq s side) [
              | inl e ↦ subst (λ (k : ℕ). AreLive net names (family_of now) k after) (sym e) here.sifted.works
              | inr off ↦ works_stays net s before after (stays_others side s before after spared.others off) names (family_of now) (losing.works s is)
            ];
            at_rest = λ s is ne sleeps. elim (cases_eq s side) [
              | inl e ↦ inl (subst (λ (k : ℕ). IsAtRest net names (family_of now) k after) (sym e) here)
              | inr off ↦
                  let stays : SideStays s before after = stays_others side s before after spared.others off in
                  elim (losing.at_rest s is ne sleeps) [
                    | inl r ↦ inl (rests_stays net s before after stays names (family_of now) r)
                    | inr r ↦ inr ((r.0, off), rests_stays net s before after stays names (family_of old) r.1)
                  ]
            ];
            waiting = losing.waiting;
            within = losing.within;
          }

      -- A side is woken: it waits, or stays at rest.
      pub losing_woken : IsWired net → IsCut joint old now loss → IsAwakeOrStays net (family_of now) before after waiting then side joint loss.flow
          → IsLosing net names inside revised (λ s. asleep s × (s ≢ side)) old now after then
      losing_woken wired cut (inl woken) =
          subst (λ (r : Rows). IsLosing net names inside revised (λ s. asleep s × (s ≢ side)) old now r then) (sym woken.1) (woken_now woken.0)
      losing_woken wired cut (inr stays) =
          subst (λ (q : WaitingSides). IsLosing net names inside revised (λ s. asleep s × (s ≢ side)) old now after q) (sym stays.0) (spared_now wired cut stays.1 stays.2 stays.3)

    -- All are woken but the side that is revised.
    pub losing_ends : ((side : ℕ) → inside side ≡ true → asleep side → side ≡ revised) → IsTended net names inside revised now before waiting
    losing_ends none = record {
      one_each = losing.one_each;
      works = losing.works;
      at_rest = λ s is ne sleeps. elim (losing.at_rest s is ne sleeps) [ inl r ↦ r | inr r ↦ absurd (ne (none s is r.0)) ];
      waiting = losing.waiting;
      within = losing.within;
    }

-- A joint of a side that is revised lost values, and its other side was woken.
pub tended_woken : (net : Net) → IsWired net → (names : Names) (inside : ℕ → Bool) (side other joint : ℕ) (old now : List (List Bool)) (loss : Loss) (before after : Rows) (waiting then : WaitingSides)
    → IsJointOf net other joint → inside other ≡ true → other ≢ side → ((t : ℕ) → AtSide net joint t → (t ≡ side) ⊎ (t ≡ other))
    → IsCut joint old now loss → IsAwakeOrStays net (family_of now) before after waiting then other joint loss.flow
    → IsTended net names inside side old before waiting → IsTended net names inside side now after then
tended_woken net wired names inside side other joint old now loss before after waiting then of is_in apart two cut woken t =
    let first = losing_begins net names inside side joint old now loss before waiting cut t in
    let second = losing_woken net names inside side joint old now loss (λ s. AtSide net joint s) before after waiting then first other of is_in apart wired cut woken in
    losing_ends net names inside side joint old now loss (λ s. AtSide net joint s × (s ≢ other)) after after then then second
    (λ s is asleep. elim (two s asleep.0) [ inl e ↦ e | inr e ↦ absurd (asleep.1 e) ])

-- A joint lost values while no side is revised, and both its sides were woken.
pub tended_woken_twice : (net : Net) → IsWired net → (names : Names) (inside : ℕ → Bool) (revised giver taker joint : ℕ) (old now : List (List Bool)) (loss : Loss)
    (before between after : Rows) (waiting next then : WaitingSides)
    → IsJointOf net giver joint → IsJointOf net taker joint → inside giver ≡ true → inside taker ≡ true → giver ≢ revised → taker ≢ revised
    → ((t : ℕ) → AtSide net joint t → (t ≡ giver) ⊎ (t ≡ taker)) → IsCut joint old now loss
    → IsAwakeOrStays net (family_of now) before between waiting next giver joint loss.flow → IsAwakeOrStays net (family_of now) between after next then taker joint loss.flow
    → IsTended net names inside revised old before waiting → IsTended net names inside revised now after then
tended_woken_twice net wired names inside revised giver taker joint old now loss before between after waiting next then gives takes giver_in taker_in giver_apart taker_apart two cut first second t =
    let none = losing_begins net names inside revised joint old now loss before waiting cut t in
    let one = losing_woken net names inside revised joint old now loss (λ s. AtSide net joint s) before between waiting next none giver gives giver_in giver_apart wired cut first in
    let both = losing_woken net names inside revised joint old now loss (λ s. AtSide net joint s × (s ≢ giver)) between after next then one taker takes taker_in taker_apart wired cut second in
    losing_ends net names inside revised joint old now loss (λ s. (AtSide net joint s × (s ≢ giver)) × (s ≢ taker)) after after then then both
    (λ s is asleep. elim (two s asleep.0.0) [ inl e ↦ absurd (asleep.0.1 e) | inr e ↦ absurd (asleep.1 e) ])

-- No value went.
pub tended_same : (net : Net) (names : Names) (inside : ℕ → Bool) (revised : ℕ) (old now : List (List Bool)) (rows : Rows) (queue : WaitingSides)
    → ((i p : ℕ) → flag now i p ≡ flag old i p) → IsTended net names inside revised old rows queue → IsTended net names inside revised now rows queue
tended_same net names inside revised old now rows queue same t = record {
  one_each = t.one_each;
  works = λ s is. live_less net names (family_of old) (family_of now) s rows (λ j v h. sym (same j (code_of v)) ∙ h) (t.works s is);
  at_rest = λ s is ne sleeps. rests_same net names (family_of old) (family_of now) s rows (λ j v lt at. same j (code_of v)) (t.at_rest s is ne sleeps);
  waiting = t.waiting;
  within = t.within;
}

-- Only at the side that is revised rows lost their flags.
pub tended_rows : (net : Net) (names : Names) (inside : ℕ → Bool) (side : ℕ) (alive : List (List Bool)) (before after : Rows) (queue : WaitingSides)
    → OtherSidesStay side before after → AreLive net names (family_of alive) side after → IsTended net names inside side alive before queue → IsTended net names inside side alive after queue
tended_rows net names inside side alive before after queue others here t = record {
  one_each = t.one_each;
  works = λ s is. elim (cases_eq s side) [
    | inl e ↦ subst (λ (k : ℕ). AreLive net names (family_of alive) k after) (sym e) here
    | inr off ↦ works_stays net s before after (stays_others side s before after others off) names (family_of alive) (t.works s is)
  ];
  at_rest = λ s is off sleeps. rests_stays net s before after (stays_others side s before after others off) names (family_of alive) (t.at_rest s is off sleeps);
  waiting = t.waiting;
  within = t.within;
}

behind : (side : ℕ) (line : List ℕ) (t : ℕ) → StandsIn (side ∷ line) t → t ≢ side → StandsIn line t
behind side line t (zero, lt, is) ne = absurd (ne (sym is))
behind side line t (suc m, lt, is) ne = (m, omega (arith, lt), is)

module _ (net : Net) (names : Names) (inside : ℕ → Bool) (alive : List (List Bool)) (rows : Rows) (before after : WaitingSides) (side : ℕ) (next : IsNext before after side)
    (t : IsTended net names inside (nobody net) alive rows before) where
  -- The side that is taken out of the line is one of those that are tended.
  pub next_inside : inside side ≡ true
  next_inside =
      let some : 0 < length before.line = omega (arith, ap (λ (l : List ℕ). length l) next.line) in
      ap inside (ap (λ (l : List ℕ). get_or l 0 0) (sym next.line)) ∙ t.within 0 some

  -- It is the one that is revised.
  pub tended_next : side < side_count net → IsTended net names inside side alive rows after
  tended_next side_in =
      let in_waits : side < length before.waits = omega (arith, t.one_each, side_in) in
      let here : get_or after.waits side true ≡ false = ap (λ (w : List Bool). get_or w side true) next.waits ∙ get_or-set_same before.waits side false true in_waits in
      let off : (s : ℕ) → s ≢ side → get_or after.waits s true ≡ get_or before.waits s true =
      λ s ne. ap (λ (w : List Bool). get_or w s true) next.waits ∙ get_or-set_other before.waits side s false true ne in
      record {
        one_each = ap (λ (w : List Bool). length w) next.waits ∙ length-set before.waits side false ∙ t.one_each;
        works = t.works;
        at_rest = λ s is ne sleeps. elim (cases_eq s (nobody net)) [
          | inl e ↦
              let past : length before.waits ≤ s = omega (arith, t.one_each, e) in
              absurd (both_ways (get_or before.waits s true) (sym (off s ne) ∙ sleeps) (get_or_past before.waits s true past))
          | inr some ↦ t.at_rest s is some (sym (off s ne) ∙ sleeps)
        ];
        waiting = λ s is waits. elim (cases_eq s side) [
          | inl e ↦ absurd (both_ways (get_or after.waits s true) (ap (λ (k : ℕ). get_or after.waits k true) e ∙ here) waits)
          | inr ne ↦ behind side after.line s (subst (λ (l : List ℕ). StandsIn l s) next.line (t.waiting s is (sym (off s ne) ∙ waits))) ne
        ];
        within = λ m lt.
            let longer : length before.line ≡ suc (length after.line) = ap (λ (l : List ℕ). length l) next.line in
            ap inside (ap (λ (l : List ℕ). get_or l (suc m) 0) (sym next.line)) ∙ t.within (suc m) (omega (arith, lt, longer));
      }

-- The side that was revised is at rest.
pub tended_end : (net : Net) (names : Names) (inside : ℕ → Bool) (side : ℕ) (alive : List (List Bool)) (rows : Rows) (queue : WaitingSides)
    → IsAtRest net names (family_of alive) side rows → IsTended net names inside side alive rows queue → IsTended net names inside (nobody net) alive rows queue
tended_end net names inside side alive rows queue here t = record {
  one_each = t.one_each;
  works = t.works;
  at_rest = λ s is ne sleeps. elim (cases_eq s side) [
    | inl e ↦ subst (λ (k : ℕ). IsAtRest net names (family_of alive) k rows) (sym e) here
    | inr off ↦ t.at_rest s is off sleeps
  ];
  waiting = t.waiting;
  within = t.within;
}

-- It is at rest where at each of its joints only what is used there is left.
pub revised_rests : (net : Net) → IsWired net → (names : Names) (side : ℕ) (joints : List ℕ) (start now : Family) (rows : Rows) → Lists (IsJointOf net side) joints
    → IsThinned net names side start now → IsSifted net names start side rows
    → ((m : ℕ) → m < length joints → (v : JointValue) → now (get_or joints m 0) v ≡ true → IsUsed net names start side (get_or joints m 0) v) → IsAtRest net names now side rows
revised_rests net wired names side joints start now rows lists thinned sifted done = record {
  sifted = sifted_thinned net wired names start now side rows thinned sifted;
  settled = λ j v lt at h.
      let stands = lists.whole j (record { in_range = lt; here = at }) in
      let used : IsUsed net names start side j v =
      subst (λ (k : ℕ). IsUsed net names start side k v) stands.2 (done stands.0 stands.1 v (subst (λ (k : ℕ). now k v ≡ true) (sym stands.2) h)) in
      used_still net names side start now thinned j v used;
}

-- Where no side stands in the line, all are settled.
pub tended_supported : (net : Net) (names : Names) (inside : ℕ → Bool) (alive : List (List Bool)) (rows : Rows) (queue : WaitingSides) → ((s : ℕ) → inside s ≡ true → s < side_count net)
    → queue.line ≡ [] → IsTended net names inside (nobody net) alive rows queue → IsSupported net names inside (family_of alive)
tended_supported net names inside alive rows queue sides_in empty t s is = elim (cases_Bool (get_or queue.waits s true)) [
  | inl waits ↦ let stands = subst (λ (l : List ℕ). StandsIn l s) empty (t.waiting s is waits) in absurd (omega (arith, stands.1))
  | inr sleeps ↦ let lt = sides_in s is in (t.at_rest s is (λ e. omega (arith, e, lt)) sleeps).settled
]
