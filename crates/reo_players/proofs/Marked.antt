-- Components and what is marked of them.
use Rattle.std.proofs.Common.{◌≡◌, ◌∙◌, ◌||◌, ◌&&◌, inl, inr, ℕ, zero, suc, ◌+◌, ◌<◌, ◌≤◌, Bool, true, false, List, [], ◌∷◌, length, map, set, get_or, replicate, refl, sym, ap, subst, arith}
use Rattle.std.proofs.Math.Bool.{or-true, and-false}
use Rattle.std.specs.Prelude.{nat_eq, nat_lt}
use Rattle.std.specs.List.{list_any, list_all}
use Rattle.std.proofs.lemmas.Bool.{cases_eq, cases_lt, not-true, not-false}
use Rattle.std.proofs.lemmas.Bool.Decides.{nat_tests}
use Rattle.std.proofs.lemmas.List.{ext_get_or, get_or-map, get_or-set_same, get_or-set_other, length-map, length-replicate, length-set, map-set}
use Rattle.reo_flags.specs.Next.{IsNext}
use Rattle.reo_players.specs.declared.marks.Pace.{Pace}
use Rattle.reo_players.specs.declared.marks.Paces.{Paces}
use Rattle.reo_players.specs.Players.{Player, no_player, player_of, is_done, all_done, counts, someone_counts}
use Rattle.reo_players.specs.Idle.{is_awake, is_left, mark_of, marks_of, IsNextAwake}

-- The first so many are marked as they are.
pub record AreMarked (f : Player → Bool) (ps : List Player) (n : ℕ) (flags : List Bool) : Type 0 where
  pub count : length flags ≡ length ps
  pub each : (i : ℕ) → i < n → get_or flags i false ≡ f (player_of ps i)

module _ (f : Player → Bool) (ps : List Player) where
  pub none_marked : (count : ℕ) → count ≡ length ps → AreMarked f ps 0 (replicate count false)
  none_marked count same = record {
    count = length-replicate count false ∙ same;
    each = λ i lt. absurd (omega arith);
  }

  pub one_more_marked : (n : ℕ) (flags new : List Bool) (p : Player) → new ≡ set flags n (f p) → p ≡ player_of ps n → n < length ps → AreMarked f ps n flags → AreMarked f ps (n + 1) new
  one_more_marked n flags new p put is lt are = subst (AreMarked f ps (n + 1)) (sym put) record {
    count = length-set flags n (f p) ∙ are.count;
    each = λ i less. elim (cases_eq i n) [
      | inl same ↦ ap (λ (k : ℕ). get_or (set flags n (f p)) k false) same ∙ get_or-set_same flags n (f p) false (omega (arith, are.count)) ∙ ap f is ∙ ap (λ (k : ℕ). f (player_of ps k)) (sym same)
      | inr ne ↦ get_or-set_other flags n i (f p) false ne ∙ are.each i (omega arith)
    ];
  }

  pub all_marked : (n : ℕ) (flags : List Bool) → length ps ≤ n → AreMarked f ps n flags → flags ≡ map f ps
  all_marked n flags le are =
      ext_get_or false flags (map f ps) (are.count ∙ sym (length-map ps f))
      (λ i lt. let inside : i < length ps = omega (arith, are.count) in are.each i (omega arith) ∙ sym (get_or-map f ps i no_player false inside))

  -- The next of those that are marked.
  module _ (flags : List Bool) (from place : ℕ) (are : flags ≡ map f ps) (next : IsNext true flags from place) where
    pub next_in_range : place ≤ length ps
    next_in_range = let le = next.in_range in let long = ap length are ∙ length-map ps f in omega arith

    pub none_before : (i : ℕ) → from ≤ i → i < place → f (player_of ps i) ≡ false
    none_before i le lt =
        let inside = next_in_range in
        sym (get_or-map f ps i no_player false (omega arith)) ∙ ap (λ (fs : List Bool). get_or fs i false) (sym are) ∙ next.none_before i le lt

    pub marked_here : place < length ps → f (player_of ps place) ≡ true
    marked_here lt =
        let long = ap length are ∙ length-map ps f in
        sym (get_or-map f ps place no_player false lt) ∙ ap (λ (fs : List Bool). get_or fs place false) (sym are) ∙ next.here (omega arith)

-- Whether some or all pass a test.
any_here : (f : Player → Bool) (ps : List Player) (i : ℕ) → i < length ps → f (player_of ps i) ≡ true → list_any f ps ≡ true
any_here f [] i lt is = absurd (omega arith)
any_here f (p ∷ ps) zero lt is = ap (λ b. b || list_any f ps) is
any_here f (p ∷ ps) (suc i) lt is = ap (λ b. f p || b) (any_here f ps i (omega arith) is) ∙ or-true (f p)

any_nowhere : (f : Player → Bool) (ps : List Player) → ((i : ℕ) → i < length ps → f (player_of ps i) ≡ false) → list_any f ps ≡ false
any_nowhere f [] none = refl
any_nowhere f (p ∷ ps) none = ap (λ b. b || list_any f ps) (none 0 (omega arith)) ∙ any_nowhere f ps (λ i lt. none (suc i) (omega arith))

all_everywhere : (f : Player → Bool) (ps : List Player) → ((i : ℕ) → i < length ps → f (player_of ps i) ≡ true) → list_all f ps ≡ true
all_everywhere f [] each = refl
all_everywhere f (p ∷ ps) each = ap (λ b. b && list_all f ps) (each 0 (omega arith)) ∙ all_everywhere f ps (λ i lt. each (suc i) (omega arith))

all_but : (f : Player → Bool) (ps : List Player) (i : ℕ) → i < length ps → f (player_of ps i) ≡ false → list_all f ps ≡ false
all_but f [] i lt is = absurd (omega arith)
all_but f (p ∷ ps) zero lt is = ap (λ b. b && list_all f ps) is
all_but f (p ∷ ps) (suc i) lt is = ap (λ b. f p && b) (all_but f ps i (omega arith) is) ∙ and-false (f p)

module _ (ps : List Player) (flags : List Bool) (place : ℕ) where
  pub counting_is : flags ≡ map counts ps → IsNext true flags 0 place → nat_lt place (length ps) ≡ someone_counts ps
  counting_is are next =
      elim (cases_lt place (length ps)) [
        | inl lt ↦ let yes : nat_lt place (length ps) ≡ true = grind (arith, nat_tests) in
            yes ∙ sym (any_here counts ps place lt (marked_here counts ps flags 0 place are next lt))
        | inr ge ↦ let no : nat_lt place (length ps) ≡ false = grind (arith, nat_tests) in
            no ∙ sym (any_nowhere counts ps (λ i lt. none_before counts ps flags 0 place are next i (omega arith) (omega arith)))
      ]

  pub left_is : flags ≡ map is_left ps → IsNext true flags 0 place → nat_eq place (length ps) ≡ all_done ps
  left_is are next =
      let inside = next_in_range is_left ps flags 0 place are next in
      elim (cases_lt place (length ps)) [
        | inl lt ↦ let no : nat_eq place (length ps) ≡ false = grind (arith, nat_tests) in
            no ∙ sym (all_but is_done ps place lt (not-true (is_done (player_of ps place)) (marked_here is_left ps flags 0 place are next lt)))
        | inr ge ↦ let yes : nat_eq place (length ps) ≡ true = grind (arith, nat_tests) in
            yes ∙ sym (all_everywhere is_done ps (λ i lt. not-false (is_done (player_of ps i)) (none_before is_left ps flags 0 place are next i (omega arith) (omega arith))))
      ]

  pub awake_is : (from : ℕ) → flags ≡ map is_awake ps → IsNext true flags from place → IsNextAwake ps from place
  awake_is from are next =
      let long = ap length are ∙ length-map ps is_awake in
      let on = next.from_on in
      record {
        from_on = omega arith;
        in_range = next_in_range is_awake ps flags from place are next;
        none_before = none_before is_awake ps flags from place are next;
        here = marked_here is_awake ps flags from place are next;
      }

-- All are marked.
pub marks_all : (ps : List Player) (n : ℕ) (marks : Paces) → length ps ≤ n → AreMarked is_awake ps n marks.awake → AreMarked counts ps n marks.counting → AreMarked is_left ps n marks.left
    → marks ≡ marks_of ps
marks_all ps n marks le awake counting left =
    let a = all_marked is_awake ps n marks.awake le awake in
    let b = all_marked counts ps n marks.counting le counting in
    let c = all_marked is_left ps n marks.left le left in
    λ k. record { awake = a k; counting = b k; left = c k }

-- One component, which has become another, is marked anew.
module _ (ps : List Player) (i : ℕ) (p q : Player) (mark : Pace) (lt : i < length ps) (at : q ≡ get_or (set ps i p) i q) (mark_is : mark ≡ mark_of q) where
  same : q ≡ p
  same = at ∙ get_or-set_same ps i p q lt

  pub marks_set : (old new : Paces) → old ≡ marks_of ps → new.awake ≡ set old.awake i mark.awake → new.counting ≡ set old.counting i mark.counting → new.left ≡ set old.left i mark.left
      → new ≡ marks_of (set ps i p)
  marks_set old new is awake counting left =
      let to : mark ≡ mark_of p = mark_is ∙ ap mark_of same in
      let a : new.awake ≡ map is_awake (set ps i p) =
      awake ∙ ap (λ (m : Paces). set m.awake i mark.awake) is ∙ ap (λ (m : Pace). set (map is_awake ps) i m.awake) to ∙ sym (map-set is_awake ps i p) in
      let b : new.counting ≡ map counts (set ps i p) =
      counting ∙ ap (λ (m : Paces). set m.counting i mark.counting) is ∙ ap (λ (m : Pace). set (map counts ps) i m.counting) to ∙ sym (map-set counts ps i p) in
      let c : new.left ≡ map is_left (set ps i p) =
      left ∙ ap (λ (m : Paces). set m.left i mark.left) is ∙ ap (λ (m : Pace). set (map is_left ps) i m.left) to ∙ sym (map-set is_left ps i p) in
      λ k. record { awake = a k; counting = b k; left = c k }
