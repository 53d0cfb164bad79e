-- What a run with its logs has written, as what is owed.
use Rattle.std.proofs.Common.{◌≡◌, ◌∙◌, ◌⊎◌, inl, inr, refl, ℕ, List, [], ◌∷◌, ◌++◌, map, take, sym, subst, ap, append_assoc, arith}
use Rattle.std.proofs.lemmas.Grind.{flat_map-append}
use Rattle.std.proofs.lemmas.List.{append-nil}
use Rattle.std.specs.Prelude.{◌≢◌, ◌≤◌, Option, Err, codes, true}
use Rattle.reo_io.specs.Causes.{Rose}
use Rattle.reo_io.proofs.Counts.{Rose-since}
use Rattle.reo_io.proofs.Taken.{Appended-append}
use Rattle.reo_net_base.specs.declared.port.Port.{Port}
use Rattle.reo_trace.specs.declared.line.Ending.{Ending}
use Rattle.reo_trace.specs.declared.write.WriteFault.{WriteFault}
use Rattle.reo_trace.specs.EndingText.{ending_text}
use Rattle.reo_trace.specs.RoundText.{round_text}
use Rattle.reo_runner.specs.declared.outcome.Limits.{Limits}
use Rattle.reo_command.specs.Readings.{kind_rules, Runnable}
use Rattle.reo_runs.specs.Whole.{HasOneRun}
use Rattle.reo_proof_texts.specs.Cuts.{LoggedRound, lines_text, logged_text, all_logged}
use Rattle.reo_proof_texts.specs.Laws.{ProvedTextsAreOfRuns}
use Rattle.reo_proof_texts.specs.Proven.{IsProved}
use Rattle.reo_proving.specs.Proving.{HasProved, HasCut, HasKept, HasCome}
use Rattle.reo_command.specs.declared.command.Command.TheVariants.{Prove}
use Rattle.reo_command.specs.Limits.{firsts_for}
use Rattle.reo_command.specs.States.{SinkState, Change}
use Rattle.reo_command.specs.Statuses.{IsAmong, statuses_of}
use Rattle.reo_command.specs.top_base.Cases.{AreFirstLines, Cases, IsExactFor, IsFair, EndsWithNoMemory}
use Rattle.reo_command.proofs.top_base.CaseLemmas.{lines_cases}
use Rattle.reo_command.proofs.top_base.LineLemmas.{Ends, after}
use Rattle.reo_top.specs.runs.ProvedRuns.{ProvesRun}
use Rattle.reo_top.specs.runs.Traces.{ending_status}
use Rattle.reo_top.proofs.runs.RunLemmas.{start_for, ending_in, ending_not_three, ending_not_nine}

-- Rounds with their logs end with a line feed.
logged_ends : (ports : List Port) (x : LoggedRound) → Ends (logged_text ports x)
logged_ends ports x = after (round_text ports x.line) _ (after (lines_text x.log) _ (codes "proved", refl))

some_end : (ports : List Port) (x : LoggedRound) (xs : List LoggedRound) → Ends (all_logged ports (x ∷ xs))
some_end ports x [] = let e = logged_ends ports x in (e.0, append-nil (logged_text ports x) ∙ e.1)
some_end ports x (y ∷ ys) = after (logged_text ports x) (all_logged ports (y ∷ ys)) (some_end ports y ys)

all_end : (ports : List Port) (xs : List LoggedRound) → (all_logged ports xs ≡ []) ⊎ Ends (all_logged ports xs)
all_end ports [] = inl refl
all_end ports (x ∷ xs) = inr (some_end ports x xs)

module _ (limits : Limits) (r : Runnable) where
  abbrev Proves : List LoggedRound → Ending → List ℕ → Type 0
  Proves rounds ending text = IsProved (firsts_for limits) kind_rules r.flat.ports (start_for r) rounds ending text

  -- What was written, by the fault.
  pub came_as : (before now : Option (List ℕ)) (fault known : WriteFault) → fault ≡ known → HasCome (firsts_for limits) kind_rules r.flat.ports (start_for r) before now (Err fault)
      → HasCome (firsts_for limits) kind_rules r.flat.ports (start_for r) before now (Err known)
  came_as before now fault known is came = subst (λ (f : WriteFault). HasCome (firsts_for limits) kind_rules r.flat.ports (start_for r) before now (Err f)) is came

  owed_text : (rounds : List LoggedRound) (ending : Ending) (text : List ℕ) → Proves rounds ending text → ProvesRun limits r text (ending_status ending)
  owed_text rounds ending text proved = record { rounds = rounds; ending = ending; proved = proved; status = refl }

  module _ (sink : Change SinkState) where
    -- A whole proved text was written.
    module _ (ending : Ending) (h : HasProved (firsts_for limits) kind_rules r.flat.ports (start_for r) ending sink.old.told sink.new.told) where
      pub proved_cases : Cases (ProvesRun limits r) sink (ending_status ending)
      proved_cases = inl (record { bytes = h.text; owed = owed_text h.rounds ending h.text h.proved; adds = h.added })

      -- Whatever logs stand in another, its ending is the same.
      pub proved_exact : HasOneRun (firsts_for limits) kind_rules (start_for r) → ProvedTextsAreOfRuns kind_rules → IsExactFor true (ProvesRun limits r) sink (ending_status ending)
      proved_exact one runs = λ bytes status p.
          let other = runs limits.budget limits.rounds r.flat.ports (start_for r) p.rounds p.ending bytes p.proved in
          let this = runs limits.budget limits.rounds r.flat.ports (start_for r) h.rounds ending h.text h.proved in
          let same = one (map (λ (x : LoggedRound). x.line) p.rounds) (map (λ (x : LoggedRound). x.line) h.rounds) p.ending ending other this in
          inl (sym (p.status ∙ ap ending_status same.1))

      pub proved_fair : sink.old.faults ≤ sink.new.faults → IsFair sink (ending_status ending)
      proved_fair later = record { rose = λ nine. absurd (ending_not_nine ending nine); later = later; grew = (h.text, h.added) }

    -- The sink failed.
    module _ (cut : HasCut (firsts_for limits) kind_rules r.flat.ports (start_for r) sink.old.told sink.new.told) (rose : Rose sink.old.faults sink.new.faults) where
      pub cut_cases : Cases (ProvesRun limits r) sink 9
      cut_cases = inr (inl (record {
        bytes = cut.text;
        status = ending_status cut.ending;
        owed = owed_text cut.rounds cut.ending cut.text cut.proved;
        breaks = (cut.part, rose);
        code_is = refl;
      }))

      pub cut_fair : sink.old.faults ≤ sink.new.faults → IsFair sink 9
      cut_fair later = record { rose = λ nine. rose; later = later; grew = (take cut.part.0 cut.text, cut.part.2) }

  -- Memory ran out.
  module _ (sink : Change SinkState) (mid : SinkState) (code : ℕ) (later : sink.old.faults ≤ mid.faults)
      (kept : HasKept (firsts_for limits) kind_rules r.flat.ports (start_for r) sink.old.told mid.told) where
    abbrev first : List ℕ
    first = all_logged r.flat.ports kept.first

    first_lines : Ends first → AreFirstLines (ProvesRun limits r) first
    first_lines (front, ends) =
        let others : List ℕ = all_logged r.flat.ports kept.rest in
        let last : List ℕ = ending_text kept.ending in
        let whole : kept.text ≡ first ++ (others ++ last) =
        kept.proved.text_is ∙ ap (λ (z : List ℕ). z ++ last) (flat_map-append (logged_text r.flat.ports) kept.first kept.rest) ∙ append_assoc first others last in
        record {
          rest = others ++ last;
          status = ending_status kept.ending;
          owed = subst (λ (z : List ℕ). ProvesRun limits r z (ending_status kept.ending)) whole (owed_text (kept.first ++ kept.rest) kept.ending kept.text kept.proved);
          front = front;
          ends = ends;
        }

    pub kept_cases : EndsWithNoMemory (record { old = mid; new = sink.new }) code → Cases (ProvesRun limits r) sink code
    kept_cases says = elim (all_end r.flat.ports kept.first) [
      | inl none ↦ lines_cases (ProvesRun limits r) sink mid code first later (inl none) kept.added says
      | inr ends ↦ lines_cases (ProvesRun limits r) sink mid code first later (inr (first_lines ends)) kept.added says
    ]

    pub kept_fair : IsFair (record { old = mid; new = sink.new }) code → IsFair sink code
    kept_fair fair = record {
      rose = λ nine. Rose-since sink.old.faults mid.faults sink.new.faults later (fair.rose nine);
      later = omega (arith, later, fair.later);
      grew = (first ++ fair.grew.0, Appended-append sink.old.told mid.told sink.new.told first fair.grew.0 kept.added fair.grew.1);
    }

-- The statuses of proved texts.
pub proved_status : (limits : Limits) (r : Runnable) (bytes : List ℕ) (status : ℕ) → ProvesRun limits r bytes status → IsAmong (statuses_of Prove) status
proved_status limits r bytes status p = subst (λ (k : ℕ). IsAmong (statuses_of Prove) k) (sym p.status) (ending_in p.ending)

pub proved_not_three : (limits : Limits) (r : Runnable) (bytes : List ℕ) (status : ℕ) → ProvesRun limits r bytes status → status ≢ 3
proved_not_three limits r bytes status p e = ending_not_three p.ending (sym p.status ∙ e)
