-- What was heard of a piece so far.
use Rattle.std.proofs.Common.{◌≡◌, ◌≢◌, ◌∙◌, ℕ, zero, suc, ◌==◌, Bool, true, false, cond, inl, inr, Option, List, [], ◌∷◌, ◌++◌, refl, sym, ap, subst, append_assoc, arith}
use Rattle.std.proofs.lemmas.List.{append-nil}
use Rattle.std.proofs.lemmas.Grind.{flat_map-append}
use Rattle.std.proofs.lemmas.Bool.Decides.{nat_tests}
use Rattle.reo_values.specs.Bytes.{line_feed}
use Rattle.reo_io.specs.Sinks.{Appended, TookPart}
use Rattle.reo_io.proofs.Taken.{Appended-none, Appended-append, TookPart-after, TookPart-more}
use Rattle.reo_net_base.specs.declared.port.Port.{Port}
use Rattle.reo_rounds.specs.Rules.{Rules}
use Rattle.reo_live.specs.base.Lines.{begun_by, are_none, ended_lines, open_line}
use Rattle.reo_live.specs.base.Held.{joined}
use Rattle.reo_live.specs.base.Live.{Live, fresh, held_open}
use Rattle.reo_live.specs.declared.base.answer.Answer.{Answer}
use Rattle.reo_live.specs.base.Answers.{answer_text, answers_text}
use Rattle.reo_live.specs.base.Events.{Told}
use Rattle.reo_live.specs.base.Hearing.{Judges, HearsAll, Hears, After, cleaned}
use Rattle.reo_live.proofs.base.CutLemmas.{lines-append, open-append}
use Rattle.reo_live.specs.talk.Feeds.{HasNoFeed, IsCut}

-- Bytes without a line feed end no line.
none_ended : (bytes : List ℕ) → HasNoFeed bytes → (ended_lines bytes ≡ []) × (open_line bytes ≡ bytes)
none_ended [] none = (refl, refl)
none_ended (b ∷ bs) none =
    let other : b ≢ line_feed = none zero (omega arith) in
    let test : (b == line_feed) ≡ false = grind (arith, nat_tests) in
    let rest = none_ended bs (λ k lt. none (suc k) (omega arith)) in (
      (λ i. cond (test i) ([] ∷ rest.0 i) (begun_by (b ∷ []) (rest.0 i))),
      (λ i. cond (test i) (rest.1 i) (cond (are_none (rest.0 i)) (b ∷ rest.1 i) (rest.1 i))),
    )

-- A line, a line feed, and the rest.
cut_ended : (line rest : List ℕ) → HasNoFeed line → (ended_lines (line ++ line_feed ∷ rest) ≡ line ∷ ended_lines rest) × (open_line (line ++ line_feed ∷ rest) ≡ open_line rest)
cut_ended line rest none =
    let one = none_ended line none in (
      lines-append line (line_feed ∷ rest) ∙ (λ i. one.0 i ++ begun_by (one.1 i) ([] ∷ ended_lines rest)) ∙ ap (λ (l : List ℕ). l ∷ ended_lines rest) (append-nil line),
      open-append line (line_feed ∷ rest),
    )

module _ {P : Type 0} (r : Rules P) (ports : List Port) (budget : ℕ) where
  -- The first line of some bytes was judged.
  pub heard_first : (s t : Live P) (line rest : List ℕ) (told : Told P) (more : List Answer) → HasNoFeed line → s.stand.over ≡ false → Judges r ports budget s.stand (cleaned (joined s.line line)) told
      → After r ports budget (fresh told.stand) rest t more → After r ports budget s (line ++ line_feed ∷ rest) t (told.answers ++ more)
  heard_first s t line rest told more none on judges after =
      let cut = cut_ended line rest none in
      let one : Hears r ports budget s (line ∷ ended_lines rest) (open_line rest) t (told.answers ++ more) = record {
        between = after.between;
        heard = inr (on, told, more, judges, after.heard, refl);
        is = after.is;
      } in
      subst (λ (ls : List (List ℕ)). Hears r ports budget s ls (open_line (line ++ line_feed ∷ rest)) t (told.answers ++ more)) (sym cut.0)
      (subst (λ (o : List ℕ). Hears r ports budget s (line ∷ ended_lines rest) o t (told.answers ++ more)) (sym cut.1) one)

  -- No line was ended.
  pub heard_open : (s : Live P) (rest : List ℕ) → HasNoFeed rest → After r ports budget s rest (held_open s rest) []
  heard_open s rest none =
      let cut = none_ended rest none in
      let one : Hears r ports budget s [] rest (held_open s rest) [] = record { between = s; heard = (refl, refl); is = refl } in
      subst (λ (ls : List (List ℕ)). Hears r ports budget s ls (open_line rest) (held_open s rest) []) (sym cut.0)
      (subst (λ (o : List ℕ). Hears r ports budget s [] o (held_open s rest) []) (sym cut.1) one)

  all_over : (s : Live P) (lines : List (List ℕ)) → s.stand.over ≡ true → HearsAll r ports budget s lines s []
  all_over s [] over = (refl, refl)
  all_over s (l ∷ ls) over = inl (over, refl, refl)

  -- Once it is over nothing is heard.
  pub heard_over : (s : Live P) (bytes : List ℕ) → s.stand.over ≡ true → After r ports budget s bytes s []
  heard_over s bytes over = record {
    between = s;
    heard = all_over s (ended_lines bytes) over;
    is = sym (ap (λ (b : Bool). cond b s (record s { line = joined s.line (open_line bytes) })) over);
  }

  -- Of a piece so much was heard that this rest is left, and the answers to it were written.
  pub record SoFar (s : Live P) (bytes : List ℕ) (u : Live P) (rest : List ℕ) (before now : Option (List ℕ)) : Type 0 where
    pub answers : List Answer
    pub goes : (t : Live P) (more : List Answer) → After r ports budget u rest t more → After r ports budget s bytes t (answers ++ more)
    pub text : Appended before now (answers_text ports answers)

  pub so_far_none : (s : Live P) (bytes : List ℕ) (before : Option (List ℕ)) → SoFar s bytes s bytes before before
  so_far_none s bytes before = record { answers = []; goes = λ t more h. h; text = Appended-none before }

  pub texts_two : (x y : List Answer) → answers_text ports (x ++ y) ≡ answers_text ports x ++ answers_text ports y
  texts_two x y = flat_map-append (answer_text ports) x y

  abbrev pub so_far_more : (s u : Live P) (bytes line rest whole : List ℕ) (told : Told P) (before mid now : Option (List ℕ)) → SoFar s bytes u whole before mid → IsCut whole line rest → u.stand.over ≡ false
      → Judges r ports budget u.stand (cleaned (joined u.line line)) told → Appended mid now (answers_text ports told.answers) → SoFar s bytes (fresh told.stand) rest before now
  so_far_more s u bytes line rest whole told before mid now far cut on judges text = record {
    answers = far.answers ++ told.answers;
    goes = λ t more h.
        let one = heard_first u t line rest told more cut.none on judges h in
        let there : After r ports budget u whole t (told.answers ++ more) = subst (λ (bs : List ℕ). After r ports budget u bs t (told.answers ++ more)) (sym cut.cut) one in
        subst (λ (z : List Answer). After r ports budget s bytes t z) (sym (append_assoc far.answers told.answers more)) (far.goes t (told.answers ++ more) there);
    text = subst (λ (z : List ℕ). Appended before now z) (sym (texts_two far.answers told.answers)) (Appended-append before mid now _ _ far.text text);
  }

  -- A line of which a part alone was written.
  pub took_far : (x y z : List Answer) (before mid now : Option (List ℕ)) → Appended before mid (answers_text ports x) → TookPart mid now (answers_text ports y) → TookPart before now (answers_text ports (x ++ (y ++ z)))
  took_far x y z before mid now text part =
      let all : answers_text ports (x ++ (y ++ z)) ≡ (answers_text ports x ++ answers_text ports y) ++ answers_text ports z =
      texts_two x (y ++ z) ∙ ap (λ (w : List ℕ). answers_text ports x ++ w) (texts_two y z) ∙ sym (append_assoc (answers_text ports x) (answers_text ports y) (answers_text ports z)) in
      subst (λ (w : List ℕ). TookPart before now w) (sym all) (TookPart-more before now _ (answers_text ports z) (TookPart-after before mid now _ _ text part))
