-- From the words to what they ask for, and to what the command has come to.
use Rattle.std.proofs.Common.{◌≡◌, ◌∙◌, inl, inr, ℕ, Bool, true, false, cond, List, [], ◌∷◌, length, take, get_or, sym, ap, subst, refl, arith}
use Rattle.std.specs.Prelude.{◌==◌, ◌≤◌, Option, Some, None, codes}
use Rattle.std.proofs.lemmas.Bool.Decides.{nat_tests}
use Rattle.reo_command.specs.Claims.{ReadsClaim, StopsVerify}
use Rattle.reo_command.specs.Commands.{none_empty}
use Rattle.reo_command.specs.States.{SinkState, FilesState, Change}
use Rattle.reo_command.specs.Statuses.{IsAmong}
use Rattle.reo_command.proofs.FetchLemmas.{none_fetched}
use Rattle.reo_command.specs.top_base.Answered.{IsAnswered}
use Rattle.reo_command.specs.top_base.Cases.{Refuses}
use Rattle.reo_command.specs.top_base.Owed.{owed_by}
use Rattle.reo_command.proofs.top_base.CaseLemmas.{line_cases, line_written, line_code, line_not_three}
use Rattle.reo_draw_command.specs.declared.words.Drawing.{Drawing}
use Rattle.reo_draw_command.specs.declared.words.Drawing.TheVariants.{Circuit, Table, Round}
use Rattle.reo_draw_command.specs.Answers.{owed_of, owed_for, AnsweredFor, Answered}
use Rattle.reo_draw_command.specs.DrawStatuses.{statuses_of, statuses_for}
use Rattle.reo_draw_command.specs.Rounds.{DrawsRound}
use Rattle.reo_draw_command.specs.Words.{drawing_by, drawing_of, roles_of, names_of}

-- How many words a drawing has.
abbrev count_of : Drawing → ℕ
count_of Circuit = 1
count_of Table = 3
count_of Round = 4

counted_by : (n : ℕ) (drawing : Drawing) (one three four : Bool) → (n == 1) ≡ one → (n == 3) ≡ three → (n == 4) ≡ four
    → cond one (Some Circuit) (cond three (Some Table) (cond four (Some Round) None)) ≡ Some drawing → n ≡ count_of drawing
counted_by n drawing true three four a b d is = let same : Circuit ≡ drawing = cc in subst (λ (x : Drawing). n ≡ count_of x) same (grind (arith, nat_tests))
counted_by n drawing false true four a b d is = let same : Table ≡ drawing = cc in subst (λ (x : Drawing). n ≡ count_of x) same (grind (arith, nat_tests))
counted_by n drawing false false true a b d is = let same : Round ≡ drawing = cc in subst (λ (x : Drawing). n ≡ count_of x) same (grind (arith, nat_tests))
counted_by n drawing false false false a b d is = absurd cc

full_by : (words : List (List ℕ)) (drawing : Drawing) (full : Bool) → cond full (drawing_by (length words)) None ≡ Some drawing → length words ≡ count_of drawing
full_by words drawing true is = counted_by (length words) drawing (length words == 1) (length words == 3) (length words == 4) refl refl refl is
full_by words drawing false is = absurd cc

counted : (words : List (List ℕ)) (drawing : Drawing) → drawing_of words ≡ Some drawing → length words ≡ count_of drawing
counted words drawing is = full_by words drawing (none_empty words) is

one_name : (words : List (List ℕ)) → 1 ≤ length words → take 1 words ≡ get_or words 0 [] ∷ []
one_name [] some = absurd (omega (arith, some))
one_name (x ∷ words) some = refl

three_names : (words : List (List ℕ)) → 3 ≤ length words → take 3 words ≡ get_or words 0 [] ∷ get_or words 1 [] ∷ get_or words 2 [] ∷ []
three_names [] some = absurd (omega (arith, some))
three_names (x ∷ []) some = absurd (omega (arith, some))
three_names (x ∷ y ∷ []) some = absurd (omega (arith, some))
three_names (x ∷ y ∷ z ∷ words) some = refl

-- The names of the files.
pub circuit_names : (words : List (List ℕ)) → drawing_of words ≡ Some Circuit → names_of Circuit words ≡ get_or words 0 [] ∷ []
circuit_names words is = one_name words (omega (arith, counted words Circuit is))

pub table_names : (words : List (List ℕ)) → drawing_of words ≡ Some Table → names_of Table words ≡ get_or words 0 [] ∷ get_or words 1 [] ∷ get_or words 2 [] ∷ []
table_names words is = three_names words (omega (arith, counted words Table is))

pub round_names : (words : List (List ℕ)) → drawing_of words ≡ Some Round → names_of Round words ≡ get_or words 0 [] ∷ get_or words 1 [] ∷ get_or words 2 [] ∷ []
round_names words is = three_names words (omega (arith, counted words Round is))

-- What the code sees of the words.
module _ (words seen : List (List ℕ)) (same : seen ≡ words) where
  pub drawing_seen : (o : Option Drawing) (k drawing : Drawing) → o ≡ drawing_of seen → o ≡ Some k → k ≡ drawing → drawing_of words ≡ Some drawing
  drawing_seen o k drawing is some this = ap drawing_of (sym same) ∙ sym is ∙ some ∙ ap (λ (d : Drawing). Some d) this

  pub none_seen : (o : Option Drawing) → o ≡ drawing_of seen → o ≡ None → drawing_of words ≡ None
  none_seen o is none = ap drawing_of (sym same) ∙ sym is ∙ none

  pub word_seen : (place : ℕ) (word : List ℕ) → word ≡ get_or seen place [] → get_or words place [] ≡ word
  word_seen place word is = sym (is ∙ ap (λ (ws : List (List ℕ)). get_or ws place []) same)

module _ (words : List (List ℕ)) (files : Change FilesState) (sink : Change SinkState) (code : ℕ) where
  pub answered_as : (drawing : Drawing) (names : List (List ℕ)) → drawing_of words ≡ Some drawing → names_of drawing words ≡ names
      → IsAnswered false (owed_of drawing words) (roles_of drawing) names files sink code → Answered words files sink code
  answered_as drawing names is named h =
      subst (λ (o : Option Drawing). AnsweredFor o words files sink code) (sym is)
      (subst (λ (ns : List (List ℕ)). IsAnswered false (owed_of drawing words) (roles_of drawing) ns files sink code) (sym named) h)

  -- With the word of the round.
  pub round_answered : (names : List (List ℕ)) (word : List ℕ) → drawing_of words ≡ Some Round → names_of Round words ≡ names → get_or words 3 [] ≡ word
      → IsAnswered false (owed_by ReadsClaim StopsVerify (DrawsRound word)) (roles_of Round) names files sink code → Answered words files sink code
  round_answered names word is named word_is h =
      answered_as Round names is named (subst (λ (w : List ℕ). IsAnswered false (owed_by ReadsClaim StopsVerify (DrawsRound w)) (roles_of Round) names files sink code) (sym word_is) h)

  never_true : false ≡ true → ⊥
  never_true e = cc

  -- Words without form.
  none_answered : files.new ≡ files.old → Refuses (codes "words refused\n") 2 sink code → AnsweredFor None words files sink code
  none_answered same h = record {
    answers = [];
    fetched = none_fetched [] files same;
    cases = line_cases sink code (owed_for None words []) (codes "words refused\n") 2 (refl, (refl, refl)) h;
    exact = λ bytes status owed. line_written sink code (codes "words refused\n") 2 h bytes status owed.1;
    blames = record { only = λ three. absurd (line_not_three sink code (codes "words refused\n") 2 (λ e. omega (arith, e)) h three); told = λ gone. absurd (never_true gone) };
  }

  pub answered_none : drawing_of words ≡ None → files.new ≡ files.old → Refuses (codes "words refused\n") 2 sink code → Answered words files sink code
  answered_none is same h = subst (λ (o : Option Drawing). AnsweredFor o words files sink code) (sym is) (none_answered same h)

-- The status.
module _ (words : List (List ℕ)) (code : ℕ) where
  pub status_as : (drawing : Drawing) → drawing_of words ≡ Some drawing → IsAmong (statuses_of drawing) code → IsAmong (statuses_for (drawing_of words)) code
  status_as drawing is h = subst (λ (o : Option Drawing). IsAmong (statuses_for o) code) (sym is) h

module _ (words : List (List ℕ)) (sink : Change SinkState) (code : ℕ) where
  none_among : Refuses (codes "words refused\n") 2 sink code → IsAmong (statuses_for None) code
  none_among h = elim (line_code sink code (codes "words refused\n") 2 h) [
    | inl is ↦ subst (λ (k : ℕ). IsAmong (statuses_for None) k) (sym is) refl
    | inr is ↦ subst (λ (k : ℕ). IsAmong (statuses_for None) k) (sym is) refl
  ]

  pub status_none : drawing_of words ≡ None → Refuses (codes "words refused\n") 2 sink code → IsAmong (statuses_for (drawing_of words)) code
  status_none is h = subst (λ (o : Option Drawing). IsAmong (statuses_for o) code) (sym is) (none_among h)
