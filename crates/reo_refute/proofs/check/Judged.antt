-- What is answered in the end.
use Rattle.std.proofs.Common.{◌≡◌, inl, inr, ℕ, ◌<◌, List, [], length, set, Result, Ok, Err, ap, sym, ◌∙◌, subst, arith}
use Rattle.std.proofs.lemmas.Bool.{cases_eq, cases_lt}
use Rattle.std.proofs.lemmas.List.{append-nil, get_or_past, length-set, get_or-set_same, get_or-set_other}
use Rattle.std.proofs.Math.ListN.{get_or-map}
use Rattle.reo_values.specs.declared.value.Value.{Value}
use Rattle.reo_net_base.specs.Net.{Net}
use Rattle.reo_net_base.specs.Wired.{IsWired, IsOrder}
use Rattle.reo_joint_values.specs.Values.{no_joint}
use Rattle.reo_joint_values.specs.Many.{AreDistinct}
use Rattle.reo_refute_base.specs.Items.{Lists, items_at, IsVisited, AreVisited, ArePassed, AreItemLists}
use Rattle.reo_refute_base.specs.Items.AreVisited.{begun, next}
use Rattle.reo_refute_base.specs.Items.ArePassed.{empty, pass}
use Rattle.reo_refute_base.specs.Logs.{RightLogsRefute}
use Rattle.reo_refute_base.specs.Texts.{log_text}
use Rattle.reo_refute_base.specs.Wide.{IsWide}
use Rattle.reo_refute_base.specs.laws.Laws.{ItemsAreListed}
use Rattle.reo_refute_base.proofs.laws.Standing.{passed_length}
use Rattle.reo_refute_parts.proofs.lists.NotedLemmas.{added_distinct}
use Rattle.reo_refute_base.specs.faults.Faults.{HasColouring, IsProof}
use Rattle.reo_refute_live.specs.OpenBranch.{AreSmall}
use Rattle.reo_refute.specs.declared.check.lines.Lines.{Lines}
use Rattle.reo_refute.specs.declared.check.stop.LogStop.{LogStop}
use Rattle.reo_refute.specs.declared.check.stop.LogStop.TheVariants.{Colouring, Wide, Line, NoMemory}
use Rattle.reo_refute.specs.check.Judging.{AreAllRead, ArePartsTaken, IsColoured, IsJudged, IsFirstRows}

-- No list has an item twice.
abbrev AreApart : Lists → Type 0
AreApart lists = (j : ℕ) → AreDistinct (items_at lists j)

pub visit_apart : (net : Net) (j : ℕ) (old new : Lists) → AreApart old → IsVisited net j old new → AreApart new
visit_apart net j old new apart v i = subst (λ (l : Lists). AreDistinct (items_at l i)) (sym v.after) (elim (cases_eq i j) [
  | inr off ↦ subst AreDistinct (sym (get_or-set_other old j i v.items [] off)) (apart i)
  | inl same ↦ elim (cases_lt j (length old)) [
    | inl lt ↦
        subst (λ (k : ℕ). AreDistinct (items_at (set old j v.items) k)) (sym same)
        (subst AreDistinct (sym (get_or-set_same old j v.items [] lt)) (added_distinct (items_at old j) _ v.items v.added (apart j)))
    | inr past ↦
        let none : items_at (set old j v.items) i ≡ [] = get_or_past (set old j v.items) i [] (omega (arith, past, same, length-set old j v.items)) in
        subst AreDistinct (sym none) (λ m n d lt n_lt. absurd (omega (arith, n_lt)))
  ]
])

pub visits_apart : (net : Net) (n : ℕ) (old new : Lists) → AreVisited net n old new → AreApart old → AreApart new
visits_apart net n old new (begun lists) apart = apart
visits_apart net n old new (next k first now last before visit) apart = visit_apart net k now last (visits_apart net k first now before apart) visit

pub passed_apart : (net : Net) (lists : Lists) → ArePassed net lists → AreApart lists
passed_apart net lists (empty) j =
    let none : items_at lists j ≡ [] = get_or-map (λ _. []) net.joints j no_joint in
    subst AreDistinct (sym none) (λ m n d lt n_lt. absurd (omega (arith, n_lt)))
passed_apart net lists (pass old new before visits) j = visits_apart net (length net.joints) old new visits (passed_apart net old before) j

pub lists_length : (net : Net) (lists : Lists) → AreItemLists net lists → length lists ≡ length net.joints
lists_length net lists are = passed_length net lists are.passed

-- Where no joint is wide the lists are small.
pub lists_small : ItemsAreListed → (net : Net) → IsWired net → (lists : Lists) → AreItemLists net lists → (IsWide net → ⊥) → AreSmall lists
lists_small listed net wired lists are narrow j = elim (cases_lt j (length lists)) [
  | inr past ↦ omega (arith, ap (λ (l : List Value). length l) (get_or_past lists j [] past))
  | inl lt ↦
      let j_in : j < length net.joints = omega (arith, lt, lists_length net lists are) in
      elim (cases_lt 256 (length (items_at lists j))) [
        | inl many ↦ absurd (narrow (
          j,
          j_in,
          record {
            items = items_at lists j;
            distinct = passed_apart net lists are.passed j;
            many = many;
            stand = λ item has. (listed net wired lists are j item j_in).0 has;
          },
        ))
        | inr few ↦ omega (arith, few)
      ]
]

module _ (net : Net) (turn : ℕ) (rows log : List ℕ) (lists : Lists) (are : AreItemLists net lists) (colouring : HasColouring net rows) (narrow : IsWide net → ⊥) (lines : Lines) (left : lines.left ≡ log) (count : lines.count ≡ 0) where
  pub judged_right : AreAllRead net turn rows lists lines → IsProof net turn rows log
  judged_right r = record {
    colouring = colouring;
    narrow = narrow;
    right = record {
      lines = r.lines;
      text = record { numbered = r.numbered; text = sym left ∙ r.text ∙ sym (append-nil (log_text r.lines)) };
      right = record { lists = lists; item_lists = are; parts = r.parts };
    };
  }

  pub judged_wrong : (stop : LogStop) → ArePartsTaken net turn rows lists lines (Err stop) → IsJudged net turn rows log (Err stop)
  judged_wrong (Line line) s = (
    colouring,
    narrow,
    record {
      lists = lists;
      item_lists = are;
      right = s.right;
      rest = s.rest;
      text = record { numbered = s.numbered; text = sym left ∙ s.text };
      line_is = omega (arith, s.line_is, count);
      front = s.front;
      wrong = s.wrong;
      unfinished = s.unfinished;
    },
  )
  judged_wrong (Colouring wrong) s = absurd s
  judged_wrong Wide s = absurd s
  judged_wrong NoMemory s = tt

  pub judged : (result : Result (Unit {0}) LogStop) → ArePartsTaken net turn rows lists lines result → IsJudged net turn rows log result
  judged (Ok done) s = judged_right s
  judged (Err stop) s = judged_wrong stop s

pub rows_stop : (net : Net) (turn : ℕ) (rows log : List ℕ) (stop : LogStop) → IsColoured net rows (Err stop) → IsJudged net turn rows log (Err stop)
rows_stop net turn rows log (Line line) s = absurd s
rows_stop net turn rows log (Colouring wrong) s = s
rows_stop net turn rows log Wide s = absurd s
rows_stop net turn rows log NoMemory s = tt

-- A log that is right shows that the rows are first.
pub first_rows : RightLogsRefute → (net : Net) → IsWired net → (order : List ℕ) → IsOrder net order → (turn : ℕ) (rows log : List ℕ) → IsProof net turn rows log → IsFirstRows net turn rows
first_rows law net wired order is turn rows log p =
    (p.colouring.0, record { colouring = p.colouring.1; least = law net wired order is turn rows p.right.lines p.right.right })
