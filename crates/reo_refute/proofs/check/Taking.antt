-- Lines that are taken one after another.
use Rattle.std.proofs.Common.{◌≡◌, ◌≢◌, ℕ, ◌+◌, ◌<◌, ◌≤◌, List, [], ◌∷◌, ◌++◌, length, get_or, zero, suc, Result, Ok, Err, None, refl, ap, sym, ◌∙◌, subst, append_assoc, arith}
use Rattle.std.specs.List.{All}
use Rattle.std.proofs.lemmas.List.{append-nil, length-append}
use Rattle.std.proofs.lemmas.List.Concat.{flat_map-append}
use Rattle.std.proofs.lemmas.List.Elements.{All-append}
use Rattle.reo_net_base.specs.Net.{Net}
use Rattle.reo_joint_values.specs.Values.{Family}
use Rattle.reo_refute_base.specs.declared.line.LogLine.{LogLine}
use Rattle.reo_refute_base.specs.declared.line.LogLine.TheVariants.{At, Drop, Empty, Split}
use Rattle.reo_refute_base.specs.Items.{Lists}
use Rattle.reo_refute_base.specs.Live.{all_live}
use Rattle.reo_refute_base.specs.Places.{IsAllowed, IsLive}
use Rattle.reo_refute_base.specs.Logs.{AreParts}
use Rattle.reo_refute_base.specs.Fronts.{ArePartsFront}
use Rattle.reo_refute_base.specs.Steps.{IsStep, AreSteps}
use Rattle.reo_refute_base.specs.Steps.AreSteps.{none as steps_stop, more as steps_more}
use Rattle.reo_refute_base.specs.Fronts.ArePartsFront.{begun as front_begun}
use Rattle.reo_net_base.specs.First.{positions}
use Rattle.reo_refute_base.specs.Texts.{IsNumbered, line_text, log_text}
use Rattle.reo_refute_base.proofs.laws.LineTexts.{lines_are_told}
use Rattle.reo_refute_base.proofs.laws.Reading.{branches_are_read}
use Rattle.reo_refute_live.specs.declared.branches.OpenBranch.{OpenBranch}
use Rattle.reo_refute_live.specs.OpenBranch.{open_in}
use Rattle.reo_refute.specs.declared.check.lines.Lines.{Lines}
use Rattle.reo_refute.specs.declared.check.stop.LogStop.{LogStop}
use Rattle.reo_refute.specs.declared.check.stop.LogStop.TheVariants.{Colouring, Wide, Line, NoMemory}
use Rattle.reo_refute.specs.check.Reading.{IsShort, IsNext, HasRead, IsAtTaken, Takes}
use Rattle.reo_refute.specs.check.Judging.{NoneGoesOn, IsStepRead, IsBranchRead, IsBranchStuck, IsPartTaken, ArePassed, AreStuck, IsPlaceTaken, AreAllRead, IsStepTaken, ArePartsTaken}
use Rattle.reo_refute.proofs.check.Determined.{steps_join, step_of, steps_cut, steps_same}
use Rattle.reo_refute.proofs.check.Passing.{pass_live, pass_dead, pass_both, front_is, unfinished_for, wrong_for, front_end, parts_end, pass_none, at_begins, not_done}

-- A line has bytes.
pub line_some : (line : LogLine) → 0 < length (line_text line)
line_some line = positive (line_text line) (λ e. nothing line e)
  where
    positive : (xs : List ℕ) → (xs ≡ [] → ⊥) → 0 < length xs
    positive [] h = absurd (h refl)
    positive (x ∷ xs) h = omega arith

    nothing : (line : LogLine) → line_text line ≡ [] → ⊥
    nothing (At p) e = cc
    nothing (Drop j v side) e = cc
    nothing (Empty j) e = cc
    nothing (Split j) e = cc

-- A line that was read was taken.
pub is_next : (old new : Lines) (line : LogLine) → IsShort old → IsNumbered line → old.left ≡ line_text line ++ new.left → new.count ≡ old.count + 1 → IsNext old new line
is_next old new line short numbered text count =
    let long : length old.left ≡ length (line_text line) + length new.left = ap (λ (l : List ℕ). length l) text ∙ length-append (line_text line) new.left in
    record {
      numbered = numbered;
      text = text;
      count = count;
      short = omega (arith, short, count, long, line_some line);
      less = omega (arith, long, line_some line);
    }

pub all_one : (line : LogLine) → IsNumbered line → All IsNumbered (line ∷ [])
all_one line is k d lt = one k d lt
  where
    one : (k : ℕ) (d : LogLine) → k < 1 → IsNumbered (get_or (line ∷ []) k d)
    one zero d lt = is
    one (suc k) d lt = absurd (omega (arith, lt))

pub read_none : (lines : Lines) → IsShort lines → HasRead lines lines []
read_none lines short = record { numbered = λ k d lt. absurd (omega (arith, lt)); text = refl; count = omega arith; short = short }

pub read_both : (a b c : Lines) (xs ys : List LogLine) → HasRead a b xs → HasRead b c ys → HasRead a c (xs ++ ys)
read_both a b c xs ys p q = record {
  numbered = All-append IsNumbered xs ys p.numbered q.numbered;
  text = p.text ∙ ap (λ (l : List ℕ). log_text xs ++ l) q.text ∙ sym (append_assoc (log_text xs) (log_text ys) c.left) ∙ ap (λ (l : List ℕ). l ++ c.left) (sym (flat_map-append line_text xs ys));
  count = omega (arith, p.count, q.count, length-append xs ys);
  short = q.short;
}

one_text : (line : LogLine) → log_text (line ∷ []) ≡ line_text line
one_text line = append-nil (line_text line)

pub read_one : (old new : Lines) (line : LogLine) → IsNext old new line → HasRead old new (line ∷ [])
read_one old new line is = record {
  numbered = all_one line is.numbered;
  text = is.text ∙ ap (λ (l : List ℕ). l ++ new.left) (sym (one_text line));
  count = is.count;
  short = is.short;
}

-- The text of lines that are read, with what follows.
read_text : (a b : Lines) (xs ys : List LogLine) (rest : List ℕ) → HasRead a b xs → b.left ≡ log_text ys ++ rest → a.left ≡ log_text (xs ++ ys) ++ rest
read_text a b xs ys rest p e =
    p.text ∙ ap (λ (l : List ℕ). log_text xs ++ l) e ∙ sym (append_assoc (log_text xs) (log_text ys) rest) ∙ ap (λ (l : List ℕ). l ++ rest) (sym (flat_map-append line_text xs ys))

-- Where a text begins with one line it begins with no other.
pub only_line : (old new : Lines) (line next : LogLine) (more : List ℕ) → IsNext old new line → IsNumbered next → old.left ≡ line_text next ++ more → line ≡ next
only_line old new line next more is numbered e = (lines_are_told line next new.left more is.numbered numbered (sym is.text ∙ e)).0

module _ (net : Net) (lists : Lists) (allowed : ℕ → ℕ → Type 0) where
  -- Lines lead a reader from one branch, in which all is live, to those that are open.
  pub record Leads (old new : Lines) (now : List Family) : Type 0 where
    pub lines : List LogLine
    pub read : HasRead old new lines
    pub steps : AreSteps net lists allowed (all_live lists ∷ []) lines now

  pub leads_none : (lines : Lines) → IsShort lines → (now : List Family) → now ≡ all_live lists ∷ [] → Leads lines lines now
  leads_none lines short now e = record { lines = []; read = read_none lines short; steps = subst (λ (l : List Family). AreSteps net lists allowed (all_live lists ∷ []) [] l) (sym e) (steps_stop (all_live lists ∷ [])) }

  one_step : (a b : List Family) (line : LogLine) → IsStep net lists allowed a line b → AreSteps net lists allowed a (line ∷ []) b
  one_step a b line is = steps_more a b b line [] is (steps_stop b)

  pub leads_more : (start old new : Lines) (before after : List Family) → Leads start old before → IsStepRead net lists allowed before after old new → Leads start new after
  leads_more start old new before after l s = record {
    lines = l.lines ++ (s.line ∷ []);
    read = read_both start old new l.lines (s.line ∷ []) l.read (read_one old new s.line s.next);
    steps = steps_join net lists allowed (all_live lists ∷ []) before after l.lines (s.line ∷ []) l.steps (one_step before after s.line s.step);
  }

  pub branch_stuck : (start old : Lines) (now : List Family) (line : ℕ) → Leads start old now → now ≢ [] → line ≡ old.count + 1 → NoneGoesOn net lists allowed now old.left → IsBranchStuck net lists allowed start line
  branch_stuck start old now line l open_is line_is stuck = record {
    front = l.lines;
    rest = old.left;
    numbered = l.read.numbered;
    text = l.read.text;
    line_is = line_is ∙ ap (λ (n : ℕ). n + 1) l.read.count;
    now = now;
    steps = l.steps;
    open_is = open_is;
    stuck = stuck;
  }

module _ (net : Net) (turn : ℕ) (given : List ℕ) (lists : Lists) (n : ℕ) (live : IsLive net turn given n) where
  pub part_passed : (a b c : Lines) → IsNext a b (At n) → IsBranchRead net lists (IsAllowed net turn given n) b c → ArePassed net turn given lists n (n + 1) a c
  part_passed a b c at r = record {
    lines = At n ∷ r.branch;
    read = read_both a b c (At n ∷ []) r.branch (read_one a b (At n) at) r.read;
    passes = pass_live net turn given lists n live r.branch r.is;
  }

  pub part_stuck : (a b : Lines) (line : ℕ) → IsNext a b (At n) → IsBranchStuck net lists (IsAllowed net turn given n) b line → AreStuck net turn given lists n a line
  part_stuck a b line at s = record {
    right = At n ∷ s.front;
    rest = s.rest;
    numbered = All-append IsNumbered (At n ∷ []) s.front (all_one (At n) at.numbered) s.numbered;
    text = read_text a b (At n ∷ []) s.front s.rest (read_one a b (At n) at) s.text;
    line_is = omega (arith, s.line_is, at.count);
    front = front_is net turn given lists n live s.front s.now s.steps s.open_is;
    wrong = λ next more numbered e is. wrong_for net turn given lists n live s.front s.now s.steps s.open_is next
        (λ after steps. goes_on next more numbered e after steps) n (At n ∷ (s.front ++ (next ∷ []))) refl is;
    unfinished = λ _ is. unfinished_for net turn given lists n live s.front s.now s.steps s.open_is n refl (At n ∷ s.front) refl is;
  }
    where
      goes_on : (next : LogLine) (more : List ℕ) → IsNumbered next → s.rest ≡ line_text next ++ more → (after : List Family)
          → AreSteps net lists (IsAllowed net turn given n) (all_live lists ∷ []) (s.front ++ (next ∷ [])) after → ⊥
      goes_on next more numbered e after steps =
          let c = steps_cut net lists (IsAllowed net turn given n) (all_live lists ∷ []) after (s.front ++ (next ∷ [])) steps s.front (next ∷ []) refl in
          let same : c.now ≡ s.now = sym (steps_same net lists (IsAllowed net turn given n) (all_live lists ∷ []) s.now s.front s.steps c.now s.front c.first refl) in
          s.stuck next more numbered e after (subst (λ (o : List Family). IsStep net lists (IsAllowed net turn given n) o next after) same (step_of net lists (IsAllowed net turn given n) c.now after next c.rest))

  pub at_stuck : (a : Lines) (line : ℕ) → line ≡ a.count + 1 → ((more : List ℕ) → IsNumbered (At n) → a.left ≡ line_text (At n) ++ more → ⊥) → AreStuck net turn given lists n a line
  at_stuck a line line_is none_at = record {
    right = [];
    rest = a.left;
    numbered = λ k d lt. absurd (omega (arith, lt));
    text = refl;
    line_is = omega (arith, line_is);
    front = front_begun n;
    wrong = λ next more numbered e is.
        let same : next ≡ At n = at_begins net turn given lists n live next n (next ∷ []) refl refl is in
        none_at more (subst IsNumbered same numbered) (e ∙ ap (λ (l : LogLine). line_text l ++ more) same);
    unfinished = λ _ is. not_done net turn given lists n live n refl [] refl is;
  }

-- What passes before is stuck where the rest is.
pub stuck_behind : (net : Net) (turn : ℕ) (given : List ℕ) (lists : Lists) (from n : ℕ) (start old : Lines) (line : ℕ) → ArePassed net turn given lists from n start old → AreStuck net turn given lists n old line → AreStuck net turn given lists from start line
stuck_behind net turn given lists from n start old line p s = record {
  right = p.lines ++ s.right;
  rest = s.rest;
  numbered = All-append IsNumbered p.lines s.right p.read.numbered s.numbered;
  text = read_text start old p.lines s.right s.rest p.read s.text;
  line_is = omega (arith, s.line_is, p.read.count, length-append p.lines s.right);
  front = (p.passes.fronts s.right).1 s.front;
  wrong = λ next more numbered e is.
      s.wrong next more numbered e ((p.passes.fronts (s.right ++ (next ∷ []))).0 (subst (ArePartsFront net turn given lists from) (append_assoc p.lines s.right (next ∷ [])) is));
  unfinished = λ e is. s.unfinished e ((p.passes.parts s.right).0 is);
}

pub passed_both : (net : Net) (turn : ℕ) (given : List ℕ) (lists : Lists) (a b c : ℕ) (x y z : Lines) → ArePassed net turn given lists a b x y → ArePassed net turn given lists b c y z → ArePassed net turn given lists a c x z
passed_both net turn given lists a b c x y z p q = record {
  lines = p.lines ++ q.lines;
  read = read_both x y z p.lines q.lines p.read q.read;
  passes = pass_both net turn given lists a b c p.lines q.lines p.passes q.passes;
}

pub passed_none : (net : Net) (turn : ℕ) (given : List ℕ) (lists : Lists) (n : ℕ) (lines : Lines) → IsShort lines → ArePassed net turn given lists n n lines lines
passed_none net turn given lists n lines short = record { lines = []; read = read_none lines short; passes = pass_none net turn given lists n }

pub passed_dead : (net : Net) (turn : ℕ) (given : List ℕ) (lists : Lists) (n : ℕ) (lines : Lines) → IsShort lines → (IsLive net turn given n → ⊥) → ArePassed net turn given lists n (n + 1) lines lines
passed_dead net turn given lists n lines short dead = record { lines = []; read = read_none lines short; passes = pass_dead net turn given lists n dead }

-- Behind the last place nothing stands.
module _ (net : Net) (turn : ℕ) (given : List ℕ) (lists : Lists) (n : ℕ) (past_all : length (positions net turn) ≤ n) where
  pub all_read : (start old : Lines) → ArePassed net turn given lists 0 n start old → old.left ≡ [] → AreAllRead net turn given lists start
  all_read start old p none = record {
    lines = p.lines;
    numbered = p.read.numbered;
    text = p.read.text ∙ ap (λ (l : List ℕ). log_text p.lines ++ l) none ∙ append-nil (log_text p.lines);
    parts = subst (AreParts net turn given lists 0) (append-nil p.lines) ((p.passes.parts []).1 (parts_end net turn given lists n past_all));
  }

  pub end_stuck : (old : Lines) (line : ℕ) → line ≡ old.count + 1 → old.left ≢ [] → AreStuck net turn given lists n old line
  end_stuck old line line_is some = record {
    right = [];
    rest = old.left;
    numbered = λ k d lt. absurd (omega (arith, lt));
    text = refl;
    line_is = omega (arith, line_is);
    front = front_begun n;
    wrong = λ next more numbered e is. let none : next ∷ [] ≡ [] = front_end net turn given lists n past_all n refl (next ∷ []) is in cc;
    unfinished = λ e is. some e;
  }

-- A branch that was read to its end.
pub branch_read : (net : Net) (turn : ℕ) (given : List ℕ) (lists : Lists) (p : ℕ) (old new : Lines) → Leads net lists (IsAllowed net turn given p) old new [] → IsBranchRead net lists (IsAllowed net turn given p) old new
branch_read net turn given lists p old new l = record {
  branch = l.lines;
  read = l.read;
  is = (branches_are_read net turn given lists p (all_live lists) l.lines).1 l.steps;
}

-- Where a step stops, the part does.
pub part_stops : (net : Net) (lists : Lists) (allowed : ℕ → ℕ → Type 0) (start old new after : Lines) (live next : OpenBranch) (stop : LogStop) → Leads net lists allowed start old (open_in live)
    → IsStepTaken net lists allowed live next old new (Err stop) → IsPartTaken net lists allowed start after (Err stop)
part_stops net lists allowed start old new after live next (Line line) l s = branch_stuck net lists allowed start old (open_in live) line l (λ e. cc) s.0 s.1
part_stops net lists allowed start old new after live next (Colouring wrong) l s = s
part_stops net lists allowed start old new after live next Wide l s = s
part_stops net lists allowed start old new after live next NoMemory l s = tt

module _ (net : Net) (turn : ℕ) (given : List ℕ) (lists : Lists) (n : ℕ) where
  -- Where the line that begins a part, or the part, stops, so does its place.
  pub at_stops : IsLive net turn given n → (old new after : Lines) (stop : LogStop) → IsAtTaken n old new (Err stop) → IsPlaceTaken net turn given lists n old after (Err stop)
  at_stops live old new after (Line line) a = at_stuck net turn given lists n live old line a.0 a.1
  at_stops live old new after (Colouring wrong) a = a
  at_stops live old new after Wide a = a
  at_stops live old new after NoMemory a = tt

  pub place_stops : IsLive net turn given n → (old at new after : Lines) (stop : LogStop) → IsNext old at (At n) → IsPartTaken net lists (IsAllowed net turn given n) at new (Err stop)
      → IsPlaceTaken net turn given lists n old after (Err stop)
  place_stops live old at new after (Line line) next p = part_stuck net turn given lists n live old at line next p
  place_stops live old at new after (Colouring wrong) next p = p
  place_stops live old at new after Wide next p = p
  place_stops live old at new after NoMemory next p = tt

  pub place_taken : IsLive net turn given n → (old at new : Lines) → IsNext old at (At n) → (result : Result (Unit {0}) LogStop) → IsPartTaken net lists (IsAllowed net turn given n) at new result
      → IsPlaceTaken net turn given lists n old new result
  place_taken live old at new next (Ok done) p = part_passed net turn given lists n live old at new next p
  place_taken live old at new next (Err stop) p = place_stops live old at new new stop next p

  pub parts_stop : (start old new : Lines) (stop : LogStop) → ArePassed net turn given lists 0 n start old → IsPlaceTaken net turn given lists n old new (Err stop) → ArePartsTaken net turn given lists start (Err stop)
  parts_stop start old new (Line line) p s = stuck_behind net turn given lists 0 n start old line p s
  parts_stop start old new (Colouring wrong) p s = s
  parts_stop start old new Wide p s = s
  parts_stop start old new NoMemory p s = tt

-- Behind the last place lines are wrong.
pub end_stops : (net : Net) (turn : ℕ) (given : List ℕ) (lists : Lists) (n : ℕ) → length (positions net turn) ≤ n → (start old : Lines) (line : ℕ) → ArePassed net turn given lists 0 n start old
    → line ≡ old.count + 1 → old.left ≢ [] → ArePartsTaken net turn given lists start (Err (Line line))
end_stops net turn given lists n past_all start old line p line_is some =
    stuck_behind net turn given lists 0 n start old line p (end_stuck net turn given lists n past_all old line line_is some)

-- The line that begins a part does not stand there.
pub at_none : (n : ℕ) (old new : Lines) → Takes old new None → (stop : LogStop) → stop ≡ Line new.count → IsAtTaken n old new (Err stop)
at_none n old new taken stop e = subst (λ (s : LogStop). IsAtTaken n old new (Err s)) (sym e) (taken.0, λ more numbered text. taken.1 (At n) more numbered text)

pub at_other : (n : ℕ) (old new : Lines) (line : LogLine) → IsNext old new line → (line ≡ At n → ⊥) → (stop : LogStop) → stop ≡ Line new.count → IsAtTaken n old new (Err stop)
at_other n old new line next other stop e =
    subst (λ (s : LogStop). IsAtTaken n old new (Err s)) (sym e) (next.count, λ more numbered text. other (only_line old new line (At n) more next numbered text))
