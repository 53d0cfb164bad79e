-- What a run keeps of its components stays right.
use Rattle.std.proofs.Common.{◌≡◌, ◌≢◌, ◌∙◌, ◌||◌, ◌⊎◌, inl, inr, ⊎_elim, ℕ, suc, ◌+◌, ◌-◌, ◌^◌, ◌<◌, ◌≤◌, Bool, true, false, min, List, length, map, set, get_or, refl, sym, ap, subst, arith}
use Rattle.std.proofs.Math.Bool.{or-true}
use Rattle.std.proofs.lemmas.Bool.{cases_eq, cases_lt}
use Rattle.std.proofs.lemmas.List.{get_or-map, get_or_default, get_or-set_same, get_or-set_other, length-map, length-set, map-set, get_or_past}
use Rattle.reo_flags.specs.Next.{IsNext}
use Rattle.reo_flags.specs.dues.Next.{IsNextDue}
use Rattle.reo_players.specs.declared.marks.Pace.{Pace}
use Rattle.reo_players.specs.declared.marks.Paces.{Paces}
use Rattle.reo_players.specs.declared.pacing.Paced.{Paced}
use Rattle.reo_players.specs.declared.step.Step.{Step}
use Rattle.reo_players.specs.Players.{Player, no_player, player_of, after, step_of, counts, IsAdvanced}
use Rattle.reo_players.specs.Idle.{is_awake, is_last, is_left, mark_of, marks_of, IsRoused, ArePassed, HavePassed}
use Rattle.reo_players.specs.Pacing.{later, due_of, shown, clock_at, each_shown, player_in, ArePaced}
use Rattle.reo_players.proofs.Marked.{marks_set}
use Rattle.reo_players.proofs.Paces.{later_rest, later_awake, later_counts, later_one, goes_on, not_last, due_counts, length-shown, at-shown, set-shown, ahead, not_ahead, at_most_one}

module _ (clock passed : ℕ) (xs : List Paced) (marks : Paces) (dues : List ℕ) (are : ArePaced clock passed xs marks dues) where
  pub awake_long : length marks.awake ≡ length xs
  awake_long = ap (λ (m : Paces). length m.awake) are.marks_are ∙ length-map (map player_in xs) is_awake ∙ length-map xs player_in

  pub counting_long : length marks.counting ≡ length xs
  counting_long = ap (λ (m : Paces). length m.counting) are.marks_are ∙ length-map (map player_in xs) counts ∙ length-map xs player_in

  pub left_long : length marks.left ≡ length xs
  left_long = ap (λ (m : Paces). length m.left) are.marks_are ∙ length-map (map player_in xs) is_left ∙ length-map xs player_in

  pub dues_long : length dues ≡ length xs
  dues_long = ap length are.dues_are ∙ length-map xs due_of

  pub shown_long : length (each_shown (clock_at clock passed) xs) ≡ length xs
  shown_long = length-shown (clock_at clock passed) xs

  module _ (i : ℕ) (x : Paced) (lt : i < length xs) (x_is : x ≡ get_or xs i x) where
    in_map : player_in x ≡ get_or (map player_in xs) i no_player
    in_map = ap player_in x_is ∙ sym (get_or-map player_in xs i x no_player lt)

    marked : {X : Type 0} (f : Player → X) (flags : List X) (d : X) → flags ≡ map f (map player_in xs) → get_or flags i d ≡ f x.player
    marked f flags d is =
        ap (λ (fs : List _). get_or fs i d) is ∙ get_or-map f (map player_in xs) i no_player d (omega (arith, lt, length-map xs player_in)) ∙ ap f (sym in_map)

    pub was_awake : get_or marks.awake i false ≡ is_awake x.player
    was_awake = marked is_awake marks.awake false (ap (λ (m : Paces). m.awake) are.marks_are)

    pub was_counting : get_or marks.counting i false ≡ counts x.player
    was_counting = marked counts marks.counting false (ap (λ (m : Paces). m.counting) are.marks_are)

    pub was_left : get_or marks.left i false ≡ is_left x.player
    was_left = marked is_left marks.left false (ap (λ (m : Paces). m.left) are.marks_are)

    pub due_at : get_or dues i 0 ≡ due_of x
    due_at = ap (λ (ts : List ℕ). get_or ts i 0) are.dues_are ∙ get_or-map due_of xs i x 0 lt ∙ ap due_of (sym x_is)

    pub in_time : x.as_of ≤ clock_at clock passed i
    in_time = subst (λ (y : Paced). y.as_of ≤ clock_at clock passed i) (sym x_is) (are.behind i x lt)

    pub player_at : player_of (each_shown (clock_at clock passed) xs) i ≡ shown (clock_at clock passed i) x
    player_at = at-shown (clock_at clock passed) xs i no_player x lt ∙ ap (shown (clock_at clock passed i)) (sym x_is)

    -- it has become another
    module _ (further : ℕ) (others : (j : ℕ) → j ≢ i → clock_at clock further j ≡ clock_at clock passed j) (y : Paced) where
      new_shown : each_shown (clock_at clock further) (set xs i y) ≡ set (each_shown (clock_at clock passed) xs) i (shown (clock_at clock further i) y)
      new_shown = set-shown (clock_at clock passed) (clock_at clock further) xs i y lt others

      pub kept : y.as_of ≤ clock_at clock further i → (mark : Pace) → mark ≡ mark_of y.player → (new : Paces) → new.awake ≡ set marks.awake i mark.awake → new.counting ≡ set marks.counting i mark.counting → new.left ≡ set marks.left i mark.left
          → (due : ℕ) → due ≡ due_of y → (later_dues : List ℕ) → later_dues ≡ set dues i due → ArePaced clock further (set xs i y) new later_dues
      kept time mark mark_is new awake counting left due due_is later_dues put = record {
        marks_are =
            let within : i < length (map player_in xs) = omega (arith, lt, length-map xs player_in) in
            marks_set (map player_in xs) i y.player y.player mark within (sym (get_or-set_same (map player_in xs) i y.player y.player within)) mark_is marks new are.marks_are awake counting left
            ∙ ap marks_of (sym (map-set player_in xs i y));
        dues_are = put ∙ ap (λ (ts : List ℕ). set ts i due) are.dues_are ∙ ap (λ (n : ℕ). set (map due_of xs) i n) due_is ∙ sym (map-set due_of xs i y);
        behind = λ j d j_lt. elim (cases_eq j i) [
          | inl same ↦
              subst (λ (k : ℕ). (get_or (set xs i y) k d).as_of ≤ clock_at clock further k) (sym same)
              (subst (λ (z : Paced). z.as_of ≤ clock_at clock further i) (sym (get_or-set_same xs i y d lt)) time)
          | inr ne ↦
              subst (λ (z : Paced). z.as_of ≤ clock_at clock further j) (sym (get_or-set_other xs i j y d ne))
              (subst (λ (k : ℕ). (get_or xs j d).as_of ≤ k) (sym (others j ne)) (are.behind j d (omega (arith, j_lt, length-set xs i y))))
        ];
        goes_on = are.goes_on;
      }

      module _ (q : Player) (shown_is : shown (clock_at clock further i) y ≡ q) where
        new_list : each_shown (clock_at clock further) (set xs i y) ≡ set (each_shown (clock_at clock passed) xs) i q
        new_list = new_shown ∙ ap (λ (p : Player). set (each_shown (clock_at clock passed) xs) i p) shown_is

        count : length (each_shown (clock_at clock further) (set xs i y)) ≡ length (each_shown (clock_at clock passed) xs)
        count = ap length new_list ∙ length-set (each_shown (clock_at clock passed) xs) i q

        here : player_of (each_shown (clock_at clock further) (set xs i y)) i ≡ q
        here = ap (λ (ps : List Player). player_of ps i) new_list ∙ get_or-set_same (each_shown (clock_at clock passed) xs) i q no_player (omega (arith, lt, shown_long))

        others_are : (j : ℕ) → j ≢ i → player_of (each_shown (clock_at clock further) (set xs i y)) j ≡ player_of (each_shown (clock_at clock passed) xs) j
        others_are j ne = ap (λ (ps : List Player). player_of ps j) new_list ∙ get_or-set_other (each_shown (clock_at clock passed) xs) i j q no_player ne

        pub advanced : (flowed : Bool) (step : Step) → q ≡ after flowed (shown (clock_at clock passed i) x) → step ≡ step_of flowed (shown (clock_at clock passed i) x)
            → IsAdvanced i flowed (each_shown (clock_at clock passed) xs) (each_shown (clock_at clock further) (set xs i y)) step
        advanced flowed step on step_is = record {
          count = count;
          here = here ∙ on ∙ ap (after flowed) (sym player_at);
          step_is = step_is ∙ ap (step_of flowed) (sym player_at);
          others = others_are;
        }

        pub roused : q.rest ≡ x.player.rest → q.seen ≡ 0 → IsRoused i (each_shown (clock_at clock passed) xs) (each_shown (clock_at clock further) (set xs i y))
        roused rest seen = record {
          count = count;
          rest = ap (λ (p : Player). p.rest) here ∙ rest ∙ sym (ap (λ (p : Player). p.rest) player_at ∙ later_rest (clock_at clock passed i - x.as_of) x.player);
          seen = ap (λ (p : Player). p.seen) here ∙ seen;
          others = others_are;
        }

  -- those from a place on pass, up to the next that is awake or due
  module _ (awake place : ℕ) (next : IsNext true marks.awake passed awake) (due : IsNextDue dues passed awake (clock + 1) place) where
    within : place ≤ length xs
    within = let a = next.in_range in let b = due.in_range in omega (arith, awake_long)

    from_on : min passed (length xs) ≤ place
    from_on = let a = next.from_on in let b = due.from_on in omega (arith, awake_long)

    module _ (i : ℕ) (low : passed ≤ i) (high : i < place) where
      i_lt : i < length xs
      i_lt = omega (arith, within)

      abbrev x : Paced
      x = get_or xs i (record { player = no_player; as_of = 0 })

      x_is : x ≡ get_or xs i x
      x_is = get_or_default xs i (record { player = no_player; as_of = 0 }) x i_lt

      at : clock_at clock passed i ≡ clock
      at = not_ahead clock passed i low

      time : x.as_of ≤ clock
      time = subst (λ (k : ℕ). x.as_of ≤ k) at (in_time i x i_lt x_is)

      player_is : player_of (each_shown (clock_at clock passed) xs) i ≡ shown clock x
      player_is = player_at i x i_lt x_is ∙ ap (λ (k : ℕ). shown k x) at

      asleep_in : is_awake x.player ≡ false
      asleep_in = sym (was_awake i x i_lt x_is) ∙ next.none_before i low (let b = due.in_range in omega (arith, b))

      later_due : clock + 1 < due_of x
      later_due = let none = due.none_before i low high in omega (arith, none, due_at i x i_lt x_is)

      pub last_not : is_last (player_of (each_shown (clock_at clock passed) xs) i) ≡ false
      last_not = ap is_last player_is ∙ not_last x clock time asleep_in later_due

      pub asleep_is : is_awake (player_of (each_shown (clock_at clock passed) xs) i) ≡ false
      asleep_is = ap is_awake player_is ∙ later_awake (clock - x.as_of) x.player ∙ asleep_in

      one_on : shown (clock + 1) x ≡ after false (shown clock x)
      one_on =
          let more : clock + 1 - x.as_of ≡ suc (clock - x.as_of) = omega (arith, time) in
          ap (λ (n : ℕ). later n x.player) more ∙ sym (later_one (clock - x.as_of) x.player)
          ∙ sym (goes_on (shown clock x) (sym (ap is_awake player_is) ∙ asleep_is) (sym (ap is_last player_is) ∙ last_not))

      pub passed_on : (ahead_of : ℕ → ℕ) → ahead_of i ≡ clock + 1 → player_of (each_shown ahead_of xs) i ≡ after false (player_of (each_shown (clock_at clock passed) xs) i)
      passed_on ahead_of is =
          at-shown ahead_of xs i no_player x i_lt ∙ ap (λ (y : Paced). shown (ahead_of i) y) (sym x_is) ∙ ap (λ (k : ℕ). shown k x) is ∙ one_on ∙ ap (after false) (sym player_is)

    -- it is awake or it counts
    named : (i : ℕ) → i < length xs → (x : Paced) → x ≡ get_or xs i x → is_awake (player_of (each_shown (clock_at clock passed) xs) i) ≡ is_awake x.player
    named i lt x x_is = ap is_awake (player_at i x lt x_is) ∙ later_awake (clock_at clock passed i - x.as_of) x.player

    counted : (i : ℕ) → i < length xs → (x : Paced) → x ≡ get_or xs i x → counts (player_of (each_shown (clock_at clock passed) xs) i) ≡ counts x.player
    counted i lt x x_is = ap counts (player_at i x lt x_is) ∙ later_counts (clock_at clock passed i - x.as_of) x.player

    found : clock + 1 < 2 ^ 64 - 1 → place < length xs → (is_awake (player_of (each_shown (clock_at clock passed) xs) place) || counts (player_of (each_shown (clock_at clock passed) xs) place)) ≡ true
    found soon lt =
        let first : Paced = record { player = no_player; as_of = 0 } in
        let y : Paced = get_or xs place first in
        let y_is : y ≡ get_or xs place y = get_or_default xs place first y lt in
        let p : Player = player_of (each_shown (clock_at clock passed) xs) place in
        elim (cases_lt place awake) [
          | inl less ↦
              let by = due.here less in
              let is : due_of y < 2 ^ 64 - 1 = omega (arith, by, soon, due_at place y lt y_is) in
              ap (λ b. is_awake p || b) (counted place lt y y_is ∙ due_counts y is) ∙ or-true (is_awake p)
          | inr ge ↦
              let end = due.in_range in
              let same : place ≡ awake = omega arith in
              let set : get_or marks.awake place false ≡ true = subst (λ (k : ℕ). get_or marks.awake k false ≡ true) (sym same) (next.here (omega (arith, lt, awake_long))) in
              ap (λ b. b || counts p) (named place lt y y_is ∙ sym (was_awake place y lt y_is) ∙ set)
        ]

    module _ (ahead_of : ℕ → ℕ) (low : (i : ℕ) → i < place → ahead_of i ≡ clock + 1) (high : (i : ℕ) → place ≤ i → i < length xs → ahead_of i ≡ clock) where
      stands : (i : ℕ) → (i < passed) ⊎ (place ≤ i) → i < length xs → ahead_of i ≡ clock_at clock passed i
      stands i where_is lt =
          ⊎_elim
          (λ (less : i < passed). let on = from_on in low i (omega (arith, on, lt)) ∙ sym (ahead clock passed i less))
          (λ (le : place ≤ i). let on = from_on in high i le lt ∙ sym (not_ahead clock passed i (omega (arith, on, lt))))
          where_is

      same_player : (i : ℕ) → (i < passed) ⊎ (place ≤ i) → player_of (each_shown ahead_of xs) i ≡ player_of (each_shown (clock_at clock passed) xs) i
      same_player i where_is =
          elim (cases_lt i (length xs)) [
            | inl lt ↦
                let first : Paced = record { player = no_player; as_of = 0 } in
                at-shown ahead_of xs i no_player first lt ∙ ap (λ (k : ℕ). shown k (get_or xs i first)) (stands i where_is lt) ∙ sym (at-shown (clock_at clock passed) xs i no_player first lt)
            | inr ge ↦
                get_or_past (each_shown ahead_of xs) i no_player (omega (arith, length-shown ahead_of xs)) ∙ sym (get_or_past (each_shown (clock_at clock passed) xs) i no_player (omega (arith, shown_long)))
          ]

      pub have_passed : clock + 1 < 2 ^ 64 - 1 → HavePassed passed place (each_shown (clock_at clock passed) xs) (each_shown ahead_of xs)
      have_passed soon = record {
        from_on = let on = from_on in omega (arith, on, shown_long);
        in_range = omega (arith, within, shown_long);
        are = record {
          count = length-shown ahead_of xs ∙ sym shown_long;
          asleep = asleep_is;
          not_last = last_not;
          passed = λ i from lt. passed_on i from lt ahead_of (low i lt);
          before = λ i lt. same_player i (inl lt);
          behind = λ i le. same_player i (inr le);
        };
        here = λ lt. found soon (omega (arith, lt, shown_long));
      }

      pub kept_on : (later : ℕ) (further : ℕ) → ((i : ℕ) → clock_at later further i ≡ ahead_of i) → later < 2 ^ 64 - 2 → ArePaced later further xs marks dues
      kept_on later further same fits = record {
        marks_are = are.marks_are;
        dues_are = are.dues_are;
        behind = λ i d lt.
            let on = from_on in
            let was = are.behind i d lt in
            subst (λ (k : ℕ). (get_or xs i d).as_of ≤ k) (sym (same i))
            (elim (cases_lt i place) [
              | inl less ↦ let most = at_most_one clock passed i in omega (arith, was, most, low i less)
              | inr ge ↦ omega (arith, was, not_ahead clock passed i (omega (arith, on, lt)), high i ge lt)
            ]);
        goes_on = fits;
      }

-- One more has passed.
module _ (from place : ℕ) (old mid new : List Player) (are : ArePassed from place old mid) (le : from ≤ place) (step : Step) (on : IsAdvanced place false mid new step)
    (asleep : is_awake (player_of mid place) ≡ false) (last : is_last (player_of mid place) ≡ false) where
  as_was : player_of mid place ≡ player_of old place
  as_was = are.behind place (omega arith)

  pub one_more_passed : ArePassed from (place + 1) old new
  one_more_passed = record {
    count = on.count ∙ are.count;
    asleep = λ i low high. elim (cases_eq i place) [
      | inl same ↦ subst (λ (k : ℕ). is_awake (player_of old k) ≡ false) (sym same) (ap is_awake (sym as_was) ∙ asleep)
      | inr ne ↦ are.asleep i low (omega arith)
    ];
    not_last = λ i low high. elim (cases_eq i place) [
      | inl same ↦ subst (λ (k : ℕ). is_last (player_of old k) ≡ false) (sym same) (ap is_last (sym as_was) ∙ last)
      | inr ne ↦ are.not_last i low (omega arith)
    ];
    passed = λ i low high. elim (cases_eq i place) [
      | inl same ↦ subst (λ (k : ℕ). player_of new k ≡ after false (player_of old k)) (sym same) (on.here ∙ ap (after false) as_was)
      | inr ne ↦ on.others i ne ∙ are.passed i low (omega arith)
    ];
    before = λ i lt. on.others i (λ e. absurd (omega arith)) ∙ are.before i lt;
    behind = λ i ge. on.others i (λ e. absurd (omega arith)) ∙ are.behind i (omega arith);
  }

pub none_passed : (from : ℕ) (players : List Player) → ArePassed from from players players
none_passed from players = record {
  count = refl;
  asleep = λ i low high. absurd (omega arith);
  not_last = λ i low high. absurd (omega arith);
  passed = λ i low high. absurd (omega arith);
  before = λ i lt. refl;
  behind = λ i ge. refl;
}
