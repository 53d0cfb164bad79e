-- From what was read and written to what the command has come to.
use Rattle.std.proofs.Common.{◌≡◌, ◌∙◌, ◌⊎◌, inl, inr, ℕ, Bool, true, false, List, sym, subst, ap, refl, arith}
use Rattle.std.proofs.lemmas.Bool.{both_ways}
use Rattle.std.specs.Prelude.{◌≢◌, ◌||◌, Err}
use Rattle.reo_command.specs.declared.role.Role.{Role}
use Rattle.reo_command.specs.declared.stop.Stop.{Stop}
use Rattle.reo_command.specs.declared.stop.Stop.TheVariants.{Missed, TooLong, Refused, NoMemory}
use Rattle.reo_command.specs.top_base.Answered.{Blames, IsAnswered, IsAnsweredWith}
use Rattle.reo_command.specs.top_base.Cases.{Cases, IsExact, IsExactFor}
use Rattle.reo_command.specs.Fetched.{Content, has_gone, AreFetched}
use Rattle.reo_command.specs.top_base.Outputs.{Outputs, IsLine}
use Rattle.reo_command.specs.top_base.Owed.{owed_by}
use Rattle.reo_command.specs.Readings.{IsReadAs}
use Rattle.reo_command.specs.States.{SinkState, FilesState, Change}
use Rattle.reo_command.specs.Statuses.{IsAmong}
use Rattle.reo_command.specs.top_base.Stopped.{IsRefusedAs}
use Rattle.reo_command.specs.Stops.{stop_text, stop_status}
use Rattle.reo_command.proofs.top_base.CaseLemmas.{exact_for, lifted, no_memory_cases, no_memory_exact}
use Rattle.reo_command.proofs.ReadLemmas.{IsReadingAt, is_missed}
use Rattle.reo_command.proofs.top_base.StopLemmas.{stop_cases, stop_exact, stop_only, stop_told}

-- A stop is a fact of the answers, or memory ran out.
read_stop : {X : Type 0} (Reads : List Content → X → Type 0) (Stops : List Content → Stop → Type 0) (answers : List Content) (s : Stop) → IsReadAs Reads Stops answers (Err s)
    → Stops answers s ⊎ ((s ≡ NoMemory) × (has_gone answers ≡ false))
read_stop Reads Stops answers (Missed role) h = inl h
read_stop Reads Stops answers (TooLong role) h = inl h
read_stop Reads Stops answers (Refused role r) h = inl h
read_stop Reads Stops answers NoMemory h = inr (refl, h)

module _ {X : Type 0} (Reads : List Content → X → Type 0) (Stops : List Content → Stop → Type 0) (Makes : X → Outputs) (statuses : List ℕ)
    (sink : Change SinkState) (code : ℕ) (answers : List Content) (law : IsReadingAt Reads Stops statuses answers) where
  -- What stopped the command.
  module _ (s : Stop) (read : IsReadAs Reads Stops answers (Err s)) (h : IsRefusedAs s sink code) where
    refused_cases : Cases (owed_by Reads Stops Makes answers) sink code
    refused_cases = elim (read_stop Reads Stops answers s read) [
      | inl stops ↦ stop_cases (owed_by Reads Stops Makes answers) sink code s (inl (s, stops, (refl, refl))) h
      | inr none ↦ no_memory_cases sink code (owed_by Reads Stops Makes answers) (subst (λ (t : Stop). IsRefusedAs t sink code) none.0 h)
    ]

    only : Stops answers s → (bytes : List ℕ) (status : ℕ) → owed_by Reads Stops Makes answers bytes status → IsLine (stop_text s) (stop_status s) bytes status
    only stops bytes status (inl (t, other, line)) = subst (λ (u : Stop). IsLine (stop_text u) (stop_status u) bytes status) (law.one_stop t s other stops) line
    only stops bytes status (inr (x, reads, makes)) = absurd (law.apart x s reads stops)

    refused_exact : IsExact (owed_by Reads Stops Makes answers) sink code
    refused_exact = elim (read_stop Reads Stops answers s read) [
      | inl stops ↦ stop_exact (owed_by Reads Stops Makes answers) sink code s (only stops) h
      | inr none ↦ no_memory_exact sink code (owed_by Reads Stops Makes answers) (subst (λ (t : Stop). IsRefusedAs t sink code) none.0 h)
    ]

    gone_is : has_gone answers ≡ is_missed s
    gone_is = elim (read_stop Reads Stops answers s read) [
      | inl stops ↦ law.missed s stops
      | inr none ↦ none.1 ∙ ap is_missed (sym none.0)
    ]

    refused_blames : Blames false answers code
    refused_blames = record {
      only = λ three. gone_is ∙ stop_only s sink code h three;
      told = λ gone. stop_told s sink code h (sym gone_is ∙ gone);
    }

    code_status : (u : Stop) → IsRefusedAs u sink code → (code ≡ stop_status u) ⊎ ((code ≡ 9) ⊎ (code ≡ 10))
    code_status (Missed role) (inl k) = inl k.0
    code_status (Missed role) (inr k) = inr (inl k.0)
    code_status (TooLong role) (inl k) = inl k.0
    code_status (TooLong role) (inr k) = inr (inl k.0)
    code_status (Refused role r) (inl (inl k)) = inl k.0
    code_status (Refused role r) (inl (inr k)) = inr (inl k.0)
    code_status (Refused role r) (inr k) = inr (inr k.0)
    code_status NoMemory k = inr (inr k.0)

    pub refused_status_in : IsAmong statuses 9 → IsAmong statuses 10 → IsAmong statuses code
    refused_status_in nine ten = elim (code_status s h) [
      | inl is ↦ elim (read_stop Reads Stops answers s read) [
        | inl stops ↦ subst (λ (k : ℕ). IsAmong statuses k) (sym is) (law.status s stops)
        | inr none ↦ subst (λ (k : ℕ). IsAmong statuses k) (sym (is ∙ ap stop_status none.0)) ten
      ]
      | inr (inl is) ↦ subst (λ (k : ℕ). IsAmong statuses k) (sym is) nine
      | inr (inr is) ↦ subst (λ (k : ℕ). IsAmong statuses k) (sym is) ten
    ]

    pub refused_answered : (roles : List Role) (names : List (List ℕ)) (files : Change FilesState) → AreFetched roles names answers files
        → IsAnswered false (owed_by Reads Stops Makes) roles names files sink code
    refused_answered roles names files fetched = record { answers = answers; fetched = fetched; cases = refused_cases; exact = refused_exact; blames = refused_blames }

    -- The same, where the output is free.
    pub freely_refused : (roles : List Role) (names : List (List ℕ)) (files : Change FilesState) → AreFetched roles names answers files
        → IsAnswered true (owed_by Reads Stops Makes) roles names files sink code
    freely_refused roles names files fetched = record {
      answers = answers;
      fetched = fetched;
      cases = refused_cases;
      exact = exact_for sink code true (owed_by Reads Stops Makes answers) refused_exact;
      blames = refused_blames;
    }

  -- What it made of what it read.
  module _ (x : X) (reads : Reads answers x) (cases : Cases (Makes x) sink code) where
    pub code_in : (P : ℕ → Type 0) → ((bytes : List ℕ) (status : ℕ) → Makes x bytes status → P status) → P 9 → P 10 → P code
    code_in P makes nine ten = elim cases [
      | inl wrote ↦ makes wrote.bytes code wrote.owed
      | inr (inl broke) ↦ subst P (sym broke.code_is) nine
      | inr (inr ran_out) ↦ subst P (sym ran_out.code_is) ten
    ]

    pub made_status_in : ((bytes : List ℕ) (status : ℕ) → Makes x bytes status → IsAmong statuses status) → IsAmong statuses 9 → IsAmong statuses 10 → IsAmong statuses code
    made_status_in makes nine ten = code_in (IsAmong statuses) makes nine ten

    -- Nothing else is owed.
    of_made : (bytes : List ℕ) (status : ℕ) → owed_by Reads Stops Makes answers bytes status → Makes x bytes status
    of_made bytes status (inl stopped) = absurd (law.apart x stopped.0 reads stopped.1)
    of_made bytes status (inr made) = subst (λ (y : X). Makes y bytes status) (law.one made.0 x made.1 reads) made.2

    pub made_exact : (free : Bool) → IsExactFor free (Makes x) sink code → IsExactFor free (owed_by Reads Stops Makes answers) sink code
    made_exact true exact = λ bytes status owed. exact bytes status (of_made bytes status owed)
    made_exact false exact = λ bytes status owed. exact bytes status (of_made bytes status owed)

    -- A take failed, where the status says so.
    abbrev made_answered_with : (failed free : Bool) → IsExactFor free (Makes x) sink code → (code ≡ 3 → (failed || has_gone answers) ≡ true)
        → (roles : List Role) (names : List (List ℕ)) (files : Change FilesState) → AreFetched roles names answers files → IsAnsweredWith failed free (owed_by Reads Stops Makes) roles names files sink code
    made_answered_with failed free exact three roles names files fetched = record {
      answers = answers;
      fetched = fetched;
      cases = lifted sink code (Makes x) (owed_by Reads Stops Makes answers) (λ bytes status h. inr (x, reads, h)) cases;
      exact = made_exact free exact;
      blames = record {
        only = three;
        told = λ gone. absurd (both_ways (has_gone answers) (law.here x reads) gone);
      };
    }

    never_three : ((bytes : List ℕ) (status : ℕ) → Makes x bytes status → status ≢ 3) → code ≢ 3
    never_three not_three = code_in (λ k. k ≢ 3) not_three (λ e. omega (arith, e)) (λ e. omega (arith, e))

    pub made_answered : IsExact (Makes x) sink code → ((bytes : List ℕ) (status : ℕ) → Makes x bytes status → status ≢ 3)
        → (roles : List Role) (names : List (List ℕ)) (files : Change FilesState) → AreFetched roles names answers files → IsAnswered false (owed_by Reads Stops Makes) roles names files sink code
    made_answered exact not_three roles names files fetched = made_answered_with false false exact (λ three. absurd (never_three not_three three)) roles names files fetched

    -- The same, where the output is free.
    pub freely_made : IsExactFor true (Makes x) sink code → ((bytes : List ℕ) (status : ℕ) → Makes x bytes status → status ≢ 3)
        → (roles : List Role) (names : List (List ℕ)) (files : Change FilesState) → AreFetched roles names answers files → IsAnswered true (owed_by Reads Stops Makes) roles names files sink code
    freely_made exact not_three roles names files fetched = made_answered_with false true exact (λ three. absurd (never_three not_three three)) roles names files fetched

    pub some_failed : (failed gone : Bool) → failed ≡ true → (failed || gone) ≡ true
    some_failed true gone is = refl
    some_failed false gone is = absurd cc

    -- Where a take failed, what was made may say so.
    abbrev pub heard_answered : (failed : Bool) → IsExact (Makes x) sink code → ((bytes : List ℕ) (status : ℕ) → Makes x bytes status → status ≡ 3 → failed ≡ true)
        → (roles : List Role) (names : List (List ℕ)) (files : Change FilesState) → AreFetched roles names answers files → IsAnsweredWith failed false (owed_by Reads Stops Makes) roles names files sink code
    heard_answered failed exact is_three roles names files fetched =
        made_answered_with failed false exact
        (λ three. some_failed failed (has_gone answers) (code_in (λ k. k ≡ 3 → failed ≡ true) is_three (λ e. absurd (omega (arith, e))) (λ e. absurd (omega (arith, e))) three)) roles names files fetched
