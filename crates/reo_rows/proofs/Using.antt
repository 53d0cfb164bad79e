-- Which marks the rows of a side have at a joint, and which values they use.
use Rattle.std.proofs.Common.{◌≡◌, ◌≢◌, ◌⊎◌, inl, inr, ◌↔◌, ℕ, ◌+◌, ◌<◌, ◌≤◌, Bool, true, false, ◌||◌, List, [], length, get_or, Some, None, refl, ap, sym, ◌∙◌, subst, arith}
use Rattle.std.specs.Bool.{◌==◌}
use Rattle.std.specs.Option.{is_some}
use Rattle.std.proofs.lemmas.Bool.{and_parts, and_from, or_cases, or_left, or_right, cases_eq, eqb-true, eq-eqb}
use Rattle.std.proofs.lemmas.List.{get_or_default}
use Rattle.reo_values.specs.declared.value.Value.{Value}
use Rattle.reo_net_base.specs.declared.mark.Mark.{Mark}
use Rattle.reo_net_base.specs.declared.mark.Mark.TheVariants.{F}
use Rattle.reo_net_base.specs.Net.{Net}
use Rattle.reo_net_base.specs.Sides.{side_count}
use Rattle.reo_net_base.specs.Wired.{IsWired}
use Rattle.reo_net_laws.specs.Ends.{same_mark, IsRowOf}
use Rattle.reo_net_laws.proofs.Told.{mark_is as mark_same, mark_self}
use Rattle.reo_joint_values.specs.Values.{giver_side, Names, Family}
use Rattle.reo_joint_values.specs.Supported.{IsUsed}
use Rattle.reo_joint_values.proofs.Works.{used_row, used_value, value_used}
use Rattle.reo_side_tables.specs.Listing.{Lists}
use Rattle.reo_side_tables.specs.Marks.{groups_in, group_in, apart_in, common_in, end_at, mark_at_joint, common_at_joint, IsJointOf, IsApartAt}
use Rattle.reo_side_tables.proofs.Sides.{mark_as_group, group_below}
use Rattle.reo_rows.specs.declared.groups.Group.{Group}
use Rattle.reo_side_tables.specs.declared.sets.Marks.{Marks}
use Rattle.reo_rows.specs.declared.rows.Rows.{Rows}
use Rattle.reo_rows.specs.RowFlags.{flag}
use Rattle.reo_rows.specs.Groups.{live_in, IsNotedOf, AreNoted}
use Rattle.reo_rows.specs.Rows.{AreTables, IsSifted, IsSeen}
use Rattle.reo_rows.specs.Sets.{value_of}
use Rattle.reo_rows.specs.Stands.{value_mark}
use Rattle.reo_side_tables.specs.Sets.{marks_has}
use Rattle.reo_rows.specs.Usage.{HasCommonRow, IsCommonMark, IsListedMark}
use Rattle.reo_rows.proofs.Codes.{plain_code}
use Rattle.reo_rows.proofs.Optional.{is_some_or_not}
use Rattle.reo_rows.proofs.Sieve.{live_row}
use Rattle.reo_rows.proofs.Plain.{giver_seen, other_seen, goes_plain, goes_mark}

-- What is noted of some rows tells whether one of them is not apart at an end.
module _ (net : Net) (rows : ℕ → Bool) (side end : ℕ) (noted : Group) (is : IsNotedOf net side rows noted) where
  pub none_common : noted.first ≡ None → HasCommonRow net rows side end → ⊥
  none_common none h = let both : true ≡ false = sym h.has ∙ is.none none h.row in cc

  pub first_common : (first : ℕ) → noted.first ≡ Some first → apart_in net side first ≢ Some end → HasCommonRow net rows side end
  first_common first at with = record { row = first; has = is.first first at; common = with }

  pub other_common : (first other : ℕ) → noted.first ≡ Some first → noted.other ≡ Some other → apart_in net side first ≡ Some end → HasCommonRow net rows side end
  other_common first other at there apart = record { row = other; has = is.other other there; common = λ e. is.differ first other at there (e ∙ sym apart) }

  pub alone_common : (first : ℕ) → noted.first ≡ Some first → noted.other ≡ None → apart_in net side first ≡ Some end → HasCommonRow net rows side end → ⊥
  alone_common first at none apart h = h.common (is.alike first h.row at none h.has ∙ apart)

  pub other_tested : (first : ℕ) (answer : Bool) → noted.first ≡ Some first → apart_in net side first ≡ Some end → answer ≡ is_some noted.other → (answer ≡ true) ↔ HasCommonRow net rows side end
  other_tested first answer at apart test = elim noted.other as (λ o. noted.other ≡ o → (answer ≡ true) ↔ HasCommonRow net rows side end) [
    | None ↦ λ none. (
      λ h. let both : true ≡ false = sym h ∙ test ∙ ap is_some none in absurd cc,
      λ h. absurd (alone_common first at none apart h),
    )
    | Some other ↦ λ there. (λ h. other_common first other at there apart, λ h. test ∙ ap is_some there)
  ] refl

-- What is read of a group is noted of it, and the row that is noted first is one of the table.
module _ (net : Net) (wired : IsWired net) (items : List (List Value)) (rows : Rows) (tables : AreTables net items rows) (side : ℕ) (lt : side < side_count net) (j : ℕ) (of : IsJointOf net side j) (are : AreNoted net rows.live side rows.notes)
    (notes : List Group) (notes_is : notes ≡ get_or rows.notes side notes) (group : ℕ) (group_lt : group < groups_in net side) (noted : Group) (noted_is : noted ≡ get_or notes group noted) where
  pub noted_read : IsNotedOf net side (live_in net rows.live side group) noted
  noted_read =
      let side_lt : side < length rows.notes = omega (arith, tables.noted, lt) in
      let whole : notes ≡ get_or rows.notes side [] = notes_is ∙ get_or_default rows.notes side notes [] side_lt in
      subst (λ (n : Group). IsNotedOf net side (live_in net rows.live side group) n) (sym (noted_is ∙ ap (λ (l : List Group). get_or l group noted) whole)) (are group noted group_lt)

  pub first_read : (row : ℕ) → noted.first ≡ Some row → IsRowOf net side row
  first_read row is = live_row net items rows tables side lt row (and_parts (flag rows.live side row) (group_in net side row == group) (noted_read.first row is)).0

-- One group more.
module _ (net : Net) (live : List (List Bool)) (side j n : ℕ) where
  abbrev Before : Mark → Type 0
  Before = IsCommonMark net live side j n

  abbrev Now : Mark → Type 0
  Now = IsCommonMark net live side j (n + 1)

  keeps : (m : Mark) → Before m → Now m
  keeps m c = record { group = c.group; below = omega (arith, c.below); says = c.says; used = c.used }

  last_or_before : (m : Mark) (c : Now m) → (c.group ≡ n) ⊎ Before m
  last_or_before m c = elim (cases_eq c.group n) [
    | inl same ↦ inl same
    | inr other ↦ inr (record { group = c.group; below = omega (arith, c.below, other); says = c.says; used = c.used })
  ]

  parts : (mark : Mark) → mark ≡ common_at_joint net side n j → (m : Mark) → Now m → (mark ≡ m) ⊎ Before m
  parts mark is m c = elim (last_or_before m c) [ inl same ↦ inl (is ∙ ap (λ (g : ℕ). common_at_joint net side g j) (sym same) ∙ c.says) | inr before ↦ inr before ]

  pub with_common : (old new : Marks) (mark : Mark) → ((m : Mark) → (marks_has old m ≡ true) ↔ Before m) → ((m : Mark) → marks_has new m ≡ (same_mark mark m || marks_has old m)) → mark ≡ common_at_joint net side n j
      → HasCommonRow net (live_in net live side n) side (end_at net side j).end → (m : Mark) → (marks_has new m ≡ true) ↔ Now m
  with_common old new mark was is says used m = (
    λ h. elim (or_cases (same_mark mark m) (marks_has old m) (sym (is m) ∙ h)) [
      | inl same ↦ record { group = n; below = omega arith; says = sym says ∙ mark_same mark m same; used = used }
      | inr before ↦ keeps m ((was m).0 before)
    ],
    λ c. is m ∙ elim (parts mark says m c) [
      | inl same ↦ or_left (same_mark mark m) (marks_has old m) (subst (λ (x : Mark). same_mark mark x ≡ true) same (mark_self mark))
      | inr before ↦ or_right (same_mark mark m) (marks_has old m) ((was m).1 before)
    ],
  )

  back : (HasCommonRow net (live_in net live side n) side (end_at net side j).end → ⊥) → (m : Mark) → Now m → Before m
  back never m c = elim (last_or_before m c) [
    | inl same ↦ absurd (never (subst (λ (g : ℕ). HasCommonRow net (live_in net live side g) side (end_at net side j).end) same c.used))
    | inr before ↦ before
  ]

  pub without_common : (marks : Marks) → ((m : Mark) → (marks_has marks m ≡ true) ↔ Before m) → (HasCommonRow net (live_in net live side n) side (end_at net side j).end → ⊥) → (m : Mark) → (marks_has marks m ≡ true) ↔ Now m
  without_common marks was never m = (λ h. keeps m ((was m).0 h), λ c. (was m).1 (back never m c))

-- A row of a side has its flag, and this mark at a joint.
abbrev pub IsLiveMark : Net → List (List Bool) → ℕ → ℕ → Mark → Type 0
IsLiveMark net live side j m = (row : ℕ) × (flag live side row ≡ true) × (mark_at_joint net side row j ≡ m)

-- The marks of groups and those of rows that are apart are all the marks of the rows with their flags.
module _ (net : Net) (wired : IsWired net) (live : List (List Bool)) (side j : ℕ) (of : IsJointOf net side j) (in_table : (row : ℕ) → flag live side row ≡ true → IsRowOf net side row)
    (list : List ℕ) (lists : Lists (IsApartAt net side (end_at net side j).end) list) (m : Mark) where
  common_live : IsCommonMark net live side j (groups_in net side) m → IsLiveMark net live side j m
  common_live c =
      let both = and_parts (flag live side c.used.row) (group_in net side c.used.row == c.group) c.used.has in
      let here : group_in net side c.used.row ≡ c.group = eqb-true (group_in net side c.used.row) c.group both.1 in (
        c.used.row,
        both.0,
        mark_as_group net wired side j c.used.row of (in_table c.used.row both.0) c.used.common ∙ ap (λ (g : ℕ). common_in net side g (end_at net side j).end) here ∙ c.says,
      )

  listed_live : IsListedMark net live side j list (length list) m → IsLiveMark net live side j m
  listed_live l = (get_or list l.place 0, l.set, l.says)

  live_parts : IsLiveMark net live side j m → IsCommonMark net live side j (groups_in net side) m ⊎ IsListedMark net live side j list (length list) m
  live_parts h = elim (is_some_or_not (apart_in net side h.0) (end_at net side j).end) [
    | inl apart ↦
        let s = lists.whole h.0 (record { in_table = in_table h.0 h.1; apart = apart }) in
        inr (record {
          place = s.0;
          below = s.1;
          set = subst (λ (r : ℕ). flag live side r ≡ true) (sym s.2) h.1;
          says = subst (λ (r : ℕ). mark_at_joint net side r j ≡ m) (sym s.2) h.2;
        })
    | inr with ↦
        let group : ℕ = group_in net side h.0 in
        inl (record {
          group = group;
          below = group_below net wired side j h.0 of (in_table h.0 h.1);
          says = sym (mark_as_group net wired side j h.0 of (in_table h.0 h.1) with) ∙ h.2;
          used = record { row = h.0; has = and_from (flag live side h.0) (group == group) h.1 (eq-eqb group group refl); common = with };
        })
  ]

  pub live_marks : (common listed all : Marks) → marks_has all m ≡ (marks_has common m || marks_has listed m) → (marks_has common m ≡ true) ↔ IsCommonMark net live side j (groups_in net side) m
      → (marks_has listed m ≡ true) ↔ IsListedMark net live side j list (length list) m → (marks_has all m ≡ true) ↔ IsLiveMark net live side j m
  live_marks common listed all is of_groups of_list = (
    λ h. elim (or_cases (marks_has common m) (marks_has listed m) (sym is ∙ h)) [ inl c ↦ common_live (of_groups.0 c) | inr l ↦ listed_live (of_list.0 l) ],
    λ h. is ∙ elim (live_parts h) [
      | inl c ↦ or_left (marks_has common m) (marks_has listed m) (of_groups.1 c)
      | inr l ↦ or_right (marks_has common m) (marks_has listed m) (of_list.1 l)
    ],
  )

-- A value without flow is used where some row has its mark, and one with flow where it was seen.
module _ (net : Net) (wired : IsWired net) (names : Names) (family : Family) (side j : ℕ) (of : IsJointOf net side j) (rows : Rows) (sifted : IsSifted net names family side rows) (code : ℕ) (has : family j (value_of code) ≡ true) where
  plain_mark : code < 4 → value_mark net side j (value_of code) ≢ F
  plain_mark lt e = elim (cases_eq (giver_side net j) side) [
    | inl at ↦ (plain_code code lt).0 (sym (giver_seen net side j at (value_of code)) ∙ e)
    | inr off ↦ (plain_code code lt).1 (sym (other_seen net side j off (value_of code)) ∙ e)
  ]

  pub plain_used : code < 4 → (marks : Marks) → ((m : Mark) → (marks_has marks m ≡ true) ↔ IsLiveMark net rows.live side j m) → (answer : Bool) (mark : Mark) → mark ≡ value_mark net side j (value_of code) → answer ≡ marks_has marks mark
      → (answer ≡ true) ↔ IsUsed net names family side j (value_of code)
  plain_used lt marks are answer mark mark_is is = (
    λ h.
        let u = (are mark).0 (sym is ∙ h) in
        let works = sifted.only u.0 u.1 in
        let same : value_mark net side j (value_of code) ≡ mark_at_joint net side u.0 j = sym mark_is ∙ sym u.2 in
        value_used net wired names family side j (value_of code) of.in_range of.here u.0 has works
        (goes_plain net wired names family side u.0 j works.in_table of.in_range (value_of code) has same (λ e. plain_mark lt (same ∙ e))),
    λ u.
        let works = used_row net wired names family side j (value_of code) of.in_range of.here u in
        let goes = used_value net wired names family side j (value_of code) of.in_range of.here u in
        is ∙ (are mark).1 (u.row, sifted.works u.row works, sym (goes_mark net wired names family side u.row j (value_of code) of goes) ∙ sym mark_is),
  )

  pub flow_used : 4 ≤ code → IsSeen net names family side rows → (answer : Bool) → answer ≡ flag rows.seen j code → (answer ≡ true) ↔ IsUsed net names family side j (value_of code)
  flow_used at seen answer is = (
    λ h.
        let u = seen.sound j code of at (sym is ∙ h) in
        value_used net wired names family side j (value_of code) of.in_range of.here u.row has (sifted.only u.row u.set) u.works,
    λ u.
        let works = used_row net wired names family side j (value_of code) of.in_range of.here u in
        let goes = used_value net wired names family side j (value_of code) of.in_range of.here u in
        is ∙ seen.whole j code of at (record { row = u.row; set = sifted.works u.row works; has = has; works = goes }),
  )
