-- Lines that are written one after another.
use Rattle.std.specs.Prelude.{Result, Ok, Err, OnOk}
use Rattle.std.proofs.Common.{◌≡◌, ℕ, ◌+◌, List, [], ◌∷◌, ◌++◌, ap, sym, ◌∙◌, subst, append_assoc, arith}
use Rattle.std.proofs.lemmas.List.{append-nil}
use Rattle.std.proofs.lemmas.List.Concat.{flat_map-append}
use Rattle.std.proofs.lemmas.List.Elements.{All-append}
use Rattle.reo_net_base.specs.Net.{Net}
use Rattle.reo_joint_values.specs.Values.{Family}
use Rattle.reo_refute_base.specs.declared.line.LogLine.{LogLine}
use Rattle.reo_refute_base.specs.declared.line.LogLine.TheVariants.{At}
use Rattle.reo_refute_base.specs.Items.{Lists}
use Rattle.reo_refute_base.specs.Live.{all_live}
use Rattle.reo_refute_base.specs.Places.{IsAllowed, IsLive}
use Rattle.reo_refute_base.specs.Steps.{AreSteps}
use Rattle.reo_refute_base.specs.Steps.AreSteps.{none as steps_stop, more as steps_more}
use Rattle.reo_refute_base.specs.Texts.{IsNumbered, line_text, log_text}
use Rattle.reo_refute_base.proofs.laws.Reading.{branches_are_read}
use Rattle.reo_refute.specs.declared.check.lines.Lines.{Lines}
use Rattle.reo_refute.specs.check.Judging.{IsBranchRead}
use Rattle.reo_refute.proofs.check.Determined.{steps_join}
use Rattle.reo_refute.proofs.check.Passing.{pass_live, pass_dead, pass_both, pass_none}
use Rattle.reo_refute.proofs.check.Taking.{all_one}
use Rattle.reo_refute.specs.proving.Making.{HasWritten, LeadsTo, IsLineMade, IsBranchMade, ArePartsMade}

pub written_none : (text : List ℕ) → HasWritten text text []
written_none text = record { numbered = λ k d lt. absurd (omega (arith, lt)); text = sym (append-nil text) }

pub written_one : (old new : List ℕ) (line : LogLine) → IsNumbered line → new ≡ old ++ line_text line → HasWritten old new (line ∷ [])
written_one old new line is text = record {
  numbered = all_one line is;
  text = text ∙ ap (λ (l : List ℕ). old ++ l) (sym (append-nil (line_text line)));
}

pub written_both : (a b c : List ℕ) (xs ys : List LogLine) → HasWritten a b xs → HasWritten b c ys → HasWritten a c (xs ++ ys)
written_both a b c xs ys p q = record {
  numbered = All-append IsNumbered xs ys p.numbered q.numbered;
  text = q.text ∙ ap (λ (l : List ℕ). l ++ log_text ys) p.text ∙ append_assoc a (log_text xs) (log_text ys) ∙ ap (λ (l : List ℕ). a ++ l) (sym (flat_map-append line_text xs ys));
}

module _ (net : Net) (lists : Lists) (allowed : ℕ → ℕ → Type 0) where
  pub line_made : (before after : List Family) (old new : List ℕ) (line : LogLine) → IsNumbered line → new ≡ old ++ line_text line
      → LeadsTo net lists allowed before after line → IsLineMade net lists allowed before after old new
  line_made before after old new line is text leads = record { line = line; written = written_one old new line is text; leads = leads }

  -- Lines lead a reader from one branch, in which all is live, to those that are open.
  pub record Leads (old new : List ℕ) (now : List Family) : Type 0 where
    pub lines : List LogLine
    pub written : HasWritten old new lines
    pub steps : AreSteps net lists allowed (all_live lists ∷ []) lines now

  pub leads_none : (text : List ℕ) (now : List Family) → now ≡ all_live lists ∷ [] → Leads text text now
  leads_none text now e = record {
    lines = [];
    written = written_none text;
    steps = subst (λ (l : List Family). AreSteps net lists allowed (all_live lists ∷ []) [] l) (sym e) (steps_stop (all_live lists ∷ []));
  }

  pub leads_more : (start old new : List ℕ) (before after : List Family) → Leads start old before → IsLineMade net lists allowed before after old new → Leads start new after
  leads_more start old new before after l s = record {
    lines = l.lines ++ (s.line ∷ []);
    written = written_both start old new l.lines (s.line ∷ []) l.written s.written;
    steps = steps_join net lists allowed (all_live lists ∷ []) before after l.lines (s.line ∷ []) l.steps (steps_more before after after s.line [] s.leads.step (steps_stop after));
  }

-- What holds where a call succeeds holds there in what it leads to.
pub done_more : {X E : Type 0} (r : Result X E) (A B : Type 0) → OnOk r A → (A → B) → OnOk r B
done_more (Ok x) A B h f = f h
done_more (Err e) A B h f = h

-- A text that was read to its end as a branch.
pub read_made : (net : Net) (lists : Lists) (allowed : ℕ → ℕ → Type 0) (old new : Lines) (text : List ℕ) → old.left ≡ text → new.left ≡ [] → IsBranchRead net lists allowed old new
    → IsBranchMade net lists allowed [] text
read_made net lists allowed old new text begun done r = record {
  branch = r.branch;
  written = record {
    numbered = r.read.numbered;
    text = sym begun ∙ r.read.text ∙ ap (λ (l : List ℕ). log_text r.branch ++ l) done ∙ append-nil (log_text r.branch);
  };
  is = r.is;
}

-- A branch that is added to a text.
pub added_made : (net : Net) (lists : Lists) (allowed : ℕ → ℕ → Type 0) (old new text : List ℕ) → new ≡ old ++ text → IsBranchMade net lists allowed [] text → IsBranchMade net lists allowed old new
added_made net lists allowed old new text added r = record {
  branch = r.branch;
  written = record { numbered = r.written.numbered; text = added ∙ ap (λ (l : List ℕ). old ++ l) r.written.text };
  is = r.is;
}

-- A branch that was written to its end.
pub branch_made : (net : Net) (turn : ℕ) (given : List ℕ) (lists : Lists) (p : ℕ) (old new : List ℕ) → Leads net lists (IsAllowed net turn given p) old new [] → IsBranchMade net lists (IsAllowed net turn given p) old new
branch_made net turn given lists p old new l = record {
  branch = l.lines;
  written = l.written;
  is = (branches_are_read net turn given lists p (all_live lists) l.lines).1 l.steps;
}

module _ (net : Net) (turn : ℕ) (given : List ℕ) (lists : Lists) where
  pub live_made : (n : ℕ) → IsLive net turn given n → (a b c : List ℕ) → IsNumbered (At n) → b ≡ a ++ line_text (At n) → IsBranchMade net lists (IsAllowed net turn given n) b c
      → ArePartsMade net turn given lists n (n + 1) a c
  live_made n live a b c numbered text r = record {
    lines = At n ∷ r.branch;
    written = written_both a b c (At n ∷ []) r.branch (written_one a b (At n) numbered text) r.written;
    passes = pass_live net turn given lists n live r.branch r.is;
  }

  pub dead_made : (n : ℕ) → (IsLive net turn given n → ⊥) → (text : List ℕ) → ArePartsMade net turn given lists n (n + 1) text text
  dead_made n dead text = record { lines = []; written = written_none text; passes = pass_dead net turn given lists n dead }

  pub none_made : (n : ℕ) (text : List ℕ) → ArePartsMade net turn given lists n n text text
  none_made n text = record { lines = []; written = written_none text; passes = pass_none net turn given lists n }

  pub both_made : (a b c : ℕ) (x y z : List ℕ) → ArePartsMade net turn given lists a b x y → ArePartsMade net turn given lists b c y z → ArePartsMade net turn given lists a c x z
  both_made a b c x y z p q = record {
    lines = p.lines ++ q.lines;
    written = written_both x y z p.lines q.lines p.written q.written;
    passes = pass_both net turn given lists a b c p.lines q.lines p.passes q.passes;
  }
