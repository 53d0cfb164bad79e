-- Parts of a log, place by place.
use Rattle.std.proofs.Common.{◌≡◌, ◌≢◌, inl, inr, ℕ, ◌+◌, ◌≤◌, List, [], ◌∷◌, ◌++◌, length, refl, ap, sym, ◌∙◌, subst, append_assoc, arith}
use Rattle.std.proofs.lemmas.Bool.{cases_eq}
use Rattle.std.proofs.lemmas.List.{append-nil}
use Rattle.reo_values.proofs.Sequences.{left_none, append_same}
use Rattle.reo_net_base.specs.Net.{Net}
use Rattle.reo_net_base.specs.First.{positions}
use Rattle.reo_joint_values.specs.Values.{Family}
use Rattle.reo_refute_base.specs.declared.line.LogLine.{LogLine}
use Rattle.reo_refute_base.specs.declared.line.LogLine.TheVariants.{At}
use Rattle.reo_refute_base.specs.Items.{Lists}
use Rattle.reo_refute_base.specs.Live.{all_live}
use Rattle.reo_refute_base.specs.Logs.{IsBranch, IsNextLive, AreParts}
use Rattle.reo_refute_base.specs.Logs.AreParts.{done, part}
use Rattle.reo_refute_base.specs.Fronts.{IsBranchFront, ArePartsFront}
use Rattle.reo_refute_base.specs.Fronts.ArePartsFront.{begun, inside, past}
use Rattle.reo_refute_base.specs.Places.{IsAllowed, IsLive}
use Rattle.reo_refute_base.specs.Steps.{AreSteps}
use Rattle.reo_refute_base.proofs.laws.Prefixes.{cut_or, heads_same, tails_same}
use Rattle.reo_refute_base.proofs.laws.Reading.{branches_are_read}
use Rattle.reo_refute_base.proofs.laws.Fronts.{fronts_are_read}
use Rattle.reo_refute.specs.check.Judging.{Passes}
use Rattle.reo_refute.proofs.check.Determined.{steps_none, steps_cut, steps_same, branch_same}

at_same : (p q : ℕ) → At p ≡ At q → p ≡ q
at_same p q e = cc

module _ (net : Net) (turn : ℕ) (given : List ℕ) (lists : Lists) where
  -- Nothing is read at a place that is not live.
  later_live : (n p : ℕ) → (IsLive net turn given n → ⊥) → IsNextLive net turn given n p → IsNextLive net turn given (n + 1) p
  later_live n p dead first = record {
    from_on = elim (cases_eq p n) [
      | inl same ↦ absurd (dead (subst (IsLive net turn given) same first.is_live))
      | inr off ↦ omega (arith, first.from_on, off)
    ];
    is_live = first.is_live;
    none_before = λ q from lt. first.none_before q (omega (arith, from)) lt;
  }

  earlier_live : (n p : ℕ) → (IsLive net turn given n → ⊥) → IsNextLive net turn given (n + 1) p → IsNextLive net turn given n p
  earlier_live n p dead first = record {
    from_on = omega (arith, first.from_on);
    is_live = first.is_live;
    none_before = λ q from lt live. elim (cases_eq q n) [
      | inl same ↦ dead (subst (IsLive net turn given) same live)
      | inr off ↦ first.none_before q (omega (arith, from, off)) lt live
    ];
  }

  parts_later : (n : ℕ) → (IsLive net turn given n → ⊥) → (lines : List LogLine) → AreParts net turn given lists n lines → AreParts net turn given lists (n + 1) lines
  parts_later n dead lines (done from none_live) = done (from + 1) (λ p le. none_live p (omega (arith, le)))
  parts_later n dead lines (part from p branch rest first is later) = part (from + 1) p branch rest (later_live from p dead first) is later

  parts_earlier : (n m : ℕ) → m ≡ n + 1 → (IsLive net turn given n → ⊥) → (lines : List LogLine) → AreParts net turn given lists m lines → AreParts net turn given lists n lines
  parts_earlier n m e dead lines (done from none_live) = done n (λ p le live. elim (cases_eq p n) [
    | inl same ↦ dead (subst (IsLive net turn given) same live)
    | inr off ↦ none_live p (omega (arith, e, le, off)) live
  ])
  parts_earlier n m e dead lines (part from p branch rest first is later) =
      part n p branch rest (earlier_live n p dead (subst (λ (k : ℕ). IsNextLive net turn given k p) e first)) is later

  fronts_later : (n : ℕ) → (IsLive net turn given n → ⊥) → (lines : List LogLine) → ArePartsFront net turn given lists n lines → ArePartsFront net turn given lists (n + 1) lines
  fronts_later n dead lines (begun from) = begun (from + 1)
  fronts_later n dead lines (inside from p front first is) = inside (from + 1) p front (later_live from p dead first) is
  fronts_later n dead lines (past from p branch rest first is later) = past (from + 1) p branch rest (later_live from p dead first) is later

  fronts_earlier : (n m : ℕ) → m ≡ n + 1 → (IsLive net turn given n → ⊥) → (lines : List LogLine) → ArePartsFront net turn given lists m lines → ArePartsFront net turn given lists n lines
  fronts_earlier n m e dead lines (begun from) = begun n
  fronts_earlier n m e dead lines (inside from p front first is) = inside n p front (earlier_live n p dead (subst (λ (k : ℕ). IsNextLive net turn given k p) e first)) is
  fronts_earlier n m e dead lines (past from p branch rest first is later) =
      past n p branch rest (earlier_live n p dead (subst (λ (k : ℕ). IsNextLive net turn given k p) e first)) is later

  pub pass_dead : (n : ℕ) → (IsLive net turn given n → ⊥) → Passes net turn given lists n (n + 1) []
  pass_dead n dead = record {
    parts = λ rest. (parts_later n dead rest, parts_earlier n (n + 1) refl dead rest);
    fronts = λ rest. (fronts_later n dead rest, fronts_earlier n (n + 1) refl dead rest);
  }

  -- At a live place its part is read.
  module _ (n : ℕ) (live : IsLive net turn given n) where
    pub first_is : IsNextLive net turn given n n
    first_is = record { from_on = omega arith; is_live = live; none_before = λ q from lt. absurd (omega (arith, from, lt)) }

    place_is : (p : ℕ) → IsNextLive net turn given n p → p ≡ n
    place_is p first = elim (cases_eq p n) [
      | inl same ↦ same
      | inr off ↦ absurd (first.none_before n (omega arith) (omega (arith, first.from_on, off)) live)
    ]

    abbrev Reads : List LogLine → List Family → Type 0
    Reads lines now = AreSteps net lists (IsAllowed net turn given n) (all_live lists ∷ []) lines now

    steps_of : (p : ℕ) → p ≡ n → (lines : List LogLine) → IsBranch net lists (IsAllowed net turn given p) (all_live lists) lines → Reads lines []
    steps_of p same lines is = (branches_are_read net turn given lists n (all_live lists) lines).0 (subst (λ (q : ℕ). IsBranch net lists (IsAllowed net turn given q) (all_live lists) lines) same is)

    front_steps : (p : ℕ) → p ≡ n → (lines : List LogLine) → IsBranchFront net lists (IsAllowed net turn given p) (all_live lists) lines → (now : List Family) × Reads lines now
    front_steps p same lines is = (fronts_are_read net turn given lists n (all_live lists) lines).0 (subst (λ (q : ℕ). IsBranchFront net lists (IsAllowed net turn given q) (all_live lists) lines) same is)

    -- What stands behind a branch is one.
    rest_same : (xs ys a b : List LogLine) → Reads xs [] → Reads ys [] → xs ++ a ≡ ys ++ b → a ≡ b
    rest_same xs ys a b s t e = elim (cut_or xs a ys b e) [
      | inl c ↦
          let none : c.0 ≡ [] = branch_same net lists (IsAllowed net turn given n) (all_live lists) ys xs c.0 t s c.1 in
          let same : xs ≡ ys = c.1 ∙ ap (λ (l : List LogLine). ys ++ l) none ∙ append-nil ys in
          append_same ys a b (ap (λ (l : List LogLine). l ++ a) (sym same) ∙ e)
      | inr c ↦
          let none : c.0 ≡ [] = branch_same net lists (IsAllowed net turn given n) (all_live lists) xs ys c.0 s t c.1 in
          c.2 ∙ ap (λ (l : List LogLine). l ++ b) none
    ]

    module _ (branch : List LogLine) (is : IsBranch net lists (IsAllowed net turn given n) (all_live lists) branch) where
      parts_rest : (from : ℕ) → from ≡ n → (lines rest : List LogLine) → lines ≡ At n ∷ (branch ++ rest) → AreParts net turn given lists from lines → AreParts net turn given lists (n + 1) rest
      parts_rest from f_is lines rest e (done g none_live) = absurd (none_live n (omega (arith, f_is)) live)
      parts_rest from f_is lines rest e (part g p other after first other_is later) =
          let p_is : p ≡ n = at_same p n (heads_same (At p) (At n) (other ++ after) (branch ++ rest) e) in
          let same : after ≡ rest = rest_same other branch after rest (steps_of p p_is other other_is) (steps_of n refl branch is) (tails_same (At p) (At n) (other ++ after) (branch ++ rest) e) in
          subst (λ (q : ℕ). AreParts net turn given lists (q + 1) rest) p_is (subst (AreParts net turn given lists (p + 1)) same later)

      fronts_rest : (from : ℕ) (lines rest : List LogLine) → lines ≡ At n ∷ (branch ++ rest) → ArePartsFront net turn given lists from lines → ArePartsFront net turn given lists (n + 1) rest
      fronts_rest from lines rest e (begun g) = absurd (let wrong : [] ≡ At n ∷ (branch ++ rest) = e in cc)
      fronts_rest from lines rest e (inside g p front first front_is) =
          let p_is : p ≡ n = at_same p n (heads_same (At p) (At n) front (branch ++ rest) e) in
          let s = front_steps p p_is front front_is in
          let c = steps_cut net lists (IsAllowed net turn given n) (all_live lists ∷ []) s.0 front s.1 branch rest (tails_same (At p) (At n) front (branch ++ rest) e) in
          let closed : c.now ≡ [] = sym (steps_same net lists (IsAllowed net turn given n) (all_live lists ∷ []) [] branch (steps_of n refl branch is) c.now branch c.first refl) in
          subst (ArePartsFront net turn given lists (n + 1)) (sym (steps_none net lists (IsAllowed net turn given n) c.now s.0 rest c.rest closed)) (begun (n + 1))
      fronts_rest from lines rest e (past g p other after first other_is later) =
          let p_is : p ≡ n = at_same p n (heads_same (At p) (At n) (other ++ after) (branch ++ rest) e) in
          let same : after ≡ rest = rest_same other branch after rest (steps_of p p_is other other_is) (steps_of n refl branch is) (tails_same (At p) (At n) (other ++ after) (branch ++ rest) e) in
          subst (λ (q : ℕ). ArePartsFront net turn given lists (q + 1) rest) p_is (subst (ArePartsFront net turn given lists (p + 1)) same later)

      pub pass_live : Passes net turn given lists n (n + 1) (At n ∷ branch)
      pass_live = record {
        parts = λ rest. (parts_rest n refl (At n ∷ (branch ++ rest)) rest refl, λ later. part n n branch rest first_is is later);
        fronts = λ rest. (fronts_rest n (At n ∷ (branch ++ rest)) rest refl, λ later. past n n branch rest first_is is later);
      }

    -- No other line begins the part, and it is owed.
    pub at_begins : (next : LogLine) (from : ℕ) (lines : List LogLine) → lines ≡ next ∷ [] → from ≡ n → ArePartsFront net turn given lists from lines → next ≡ At n
    at_begins next from lines e f_is (begun g) = absurd (let wrong : [] ≡ next ∷ [] = e in cc)
    at_begins next from lines e f_is (inside g p front first is) =
        sym (heads_same (At p) next front [] e) ∙ ap At (place_is p (subst (λ (k : ℕ). IsNextLive net turn given k p) f_is first))
    at_begins next from lines e f_is (past g p branch rest first is later) =
        sym (heads_same (At p) next (branch ++ rest) [] e) ∙ ap At (place_is p (subst (λ (k : ℕ). IsNextLive net turn given k p) f_is first))

    pub not_done : (from : ℕ) → from ≡ n → (lines : List LogLine) → lines ≡ [] → AreParts net turn given lists from lines → ⊥
    not_done from f_is lines e (done g none_live) = none_live n (omega (arith, f_is)) live
    not_done from f_is lines e (part g p branch rest first is later) = let wrong : At p ∷ (branch ++ rest) ≡ [] = e in cc

    -- A part that is begun must go on.
    module _ (front : List LogLine) (now : List Family) (steps : Reads front now) (open_is : now ≢ []) where
      pub front_is : ArePartsFront net turn given lists n (At n ∷ front)
      front_is = inside n n front first_is ((fronts_are_read net turn given lists n (all_live lists) front).1 (now, steps))

      not_whole : (ys m : List LogLine) → Reads ys [] → front ≡ ys ++ m → ⊥
      not_whole ys m t e =
          let c = steps_cut net lists (IsAllowed net turn given n) (all_live lists ∷ []) now front steps ys m e in
          let closed : c.now ≡ [] = sym (steps_same net lists (IsAllowed net turn given n) (all_live lists ∷ []) [] ys t c.now ys c.first refl) in
          let none : m ≡ [] = steps_none net lists (IsAllowed net turn given n) c.now now m c.rest closed in
          let whole : front ≡ ys = e ∙ ap (λ (l : List LogLine). ys ++ l) none ∙ append-nil ys in
          open_is (steps_same net lists (IsAllowed net turn given n) (all_live lists ∷ []) now front steps [] ys t whole)

      pub unfinished_for : (from : ℕ) → from ≡ n → (lines : List LogLine) → lines ≡ At n ∷ front → AreParts net turn given lists from lines → ⊥
      unfinished_for from f_is lines e (done g none_live) = none_live n (omega (arith, f_is)) live
      unfinished_for from f_is lines e (part g p other after first other_is later) =
          let p_is : p ≡ n = at_same p n (heads_same (At p) (At n) (other ++ after) front e) in
          not_whole other after (steps_of p p_is other other_is) (sym (tails_same (At p) (At n) (other ++ after) front e))

      module _ (next : LogLine) (stuck : (after : List Family) → Reads (front ++ (next ∷ [])) after → ⊥) where
        read_past : (ys after m : List LogLine) → Reads ys [] → ys ≡ front ++ m → m ++ after ≡ next ∷ [] → ⊥
        read_past ys after [] t e f =
            let same : ys ≡ front = e ∙ append-nil front in
            open_is (steps_same net lists (IsAllowed net turn given n) (all_live lists ∷ []) now front steps [] ys t (sym same))
        read_past ys after (x ∷ m) t e f =
            let one : x ≡ next = heads_same x next (m ++ after) [] f in
            let none : m ≡ [] = left_none m after (tails_same x next (m ++ after) [] f) in
            let same : ys ≡ front ++ (next ∷ []) = e ∙ ap (λ (l : List LogLine). front ++ (x ∷ l)) none ∙ ap (λ (l : LogLine). front ++ (l ∷ [])) one in
            stuck [] (subst (λ (l : List LogLine). Reads l []) same t)

        pub wrong_for : (from : ℕ) (lines : List LogLine) → lines ≡ At n ∷ (front ++ (next ∷ [])) → ArePartsFront net turn given lists from lines → ⊥
        wrong_for from lines e (begun g) = let wrong : [] ≡ At n ∷ (front ++ (next ∷ [])) = e in cc
        wrong_for from lines e (inside g p other first other_is) =
            let p_is : p ≡ n = at_same p n (heads_same (At p) (At n) other (front ++ (next ∷ [])) e) in
            let s = front_steps p p_is other other_is in
            stuck s.0 (subst (λ (l : List LogLine). Reads l s.0) (tails_same (At p) (At n) other (front ++ (next ∷ [])) e) s.1)
        wrong_for from lines e (past g p other after first other_is later) =
            let p_is : p ≡ n = at_same p n (heads_same (At p) (At n) (other ++ after) (front ++ (next ∷ [])) e) in
            let t : Reads other [] = steps_of p p_is other other_is in
            let both : other ++ after ≡ front ++ (next ∷ []) = tails_same (At p) (At n) (other ++ after) (front ++ (next ∷ [])) e in
            elim (cut_or other after front (next ∷ []) both) [
              | inl c ↦ read_past other after c.0 t c.1 (append_same front (c.0 ++ after) (next ∷ []) (sym (append_assoc front c.0 after) ∙ ap (λ (l : List LogLine). l ++ after) (sym c.1) ∙ both))
              | inr c ↦ not_whole other c.0 t c.1
            ]

-- No place is live past the last.
module _ (net : Net) (turn : ℕ) (given : List ℕ) (lists : Lists) (n : ℕ) (past_all : length (positions net turn) ≤ n) where
  none_live : (p : ℕ) → n ≤ p → IsLive net turn given p → ⊥
  none_live p le live = omega (arith, live.in_range, past_all, le)

  pub parts_end : AreParts net turn given lists n []
  parts_end = done n none_live

  pub front_end : (from : ℕ) → from ≡ n → (lines : List LogLine) → ArePartsFront net turn given lists from lines → lines ≡ []
  front_end from e lines (begun g) = refl
  front_end from e lines (inside g p front first is) = absurd (none_live p (omega (arith, e, first.from_on)) first.is_live)
  front_end from e lines (past g p branch rest first is later) = absurd (none_live p (omega (arith, e, first.from_on)) first.is_live)

-- Lines that pass one place and then others.
module _ (net : Net) (turn : ℕ) (given : List ℕ) (lists : Lists) where
  pub pass_none : (n : ℕ) → Passes net turn given lists n n []
  pass_none n = record { parts = λ rest. (λ x. x, λ x. x); fronts = λ rest. (λ x. x, λ x. x) }

  pub pass_both : (a b c : ℕ) (xs ys : List LogLine) → Passes net turn given lists a b xs → Passes net turn given lists b c ys → Passes net turn given lists a c (xs ++ ys)
  pass_both a b c xs ys p q = record {
    parts = λ rest.
        let same : xs ++ (ys ++ rest) ≡ (xs ++ ys) ++ rest = sym (append_assoc xs ys rest) in (
          λ h. (q.parts rest).0 ((p.parts (ys ++ rest)).0 (subst (AreParts net turn given lists a) (sym same) h)),
          λ h. subst (AreParts net turn given lists a) same ((p.parts (ys ++ rest)).1 ((q.parts rest).1 h)),
        );
    fronts = λ rest.
        let same : xs ++ (ys ++ rest) ≡ (xs ++ ys) ++ rest = sym (append_assoc xs ys rest) in (
          λ h. (q.fronts rest).0 ((p.fronts (ys ++ rest)).0 (subst (ArePartsFront net turn given lists a) (sym same) h)),
          λ h. subst (ArePartsFront net turn given lists a) same ((p.fronts (ys ++ rest)).1 ((q.fronts rest).1 h)),
        );
  }
