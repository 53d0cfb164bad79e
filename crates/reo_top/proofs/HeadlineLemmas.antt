-- For an accepted circuit and script the trace of the run was written.
use Rattle.std.proofs.Common.{◌≡◌, ◌∙◌, inl, inr, ℕ, ◌≤◌, ◌<◌, ◌^◌, Bool, true, false, cond, List, [], ◌∷◌, length, sym, subst, ap, refl, arith}
use Rattle.std.proofs.lemmas.Bool.{leb-true}
use Rattle.std.specs.Prelude.{Option, Some, None, IfSome, nat_le}
use Rattle.reo_values.proofs.Sequences.{append_same}
use Rattle.reo_net_base.specs.Net.{net_of}
use Rattle.reo_net_base.specs.Wired.{IsWired}
use Rattle.reo_net_circuit.proofs.ReshapeLemmas.{lawful_at}
use Rattle.reo_net_circuit.proofs.WireLemmas.{wired_is}
use Rattle.reo_io.specs.Fetches.{Folder, file_of}
use Rattle.reo_kinds.specs.Kinds.{behaviour_of}
use Rattle.reo_kinds.specs.KindLaws.{kind_lawful}
use Rattle.reo_flat.specs.Flat.{primitives_of, net_of_program}
use Rattle.reo_flat.specs.flatten_laws.Circuits.{CircuitsAreMade}
use Rattle.reo_circuit_texts.specs.Laws.{CircuitNamesArePlain}
use Rattle.reo_runner.specs.declared.outcome.Limits.{Limits}
use Rattle.reo_command.specs.Readings.{kind_rules, FlatCircuit, Runnable, IsCircuitText, CircuitStops, ReadsRun, StopsRun}
use Rattle.reo_runs.specs.Justified.{RunsAreJustified}
use Rattle.reo_command.specs.declared.command.Command.TheVariants.{Run}
use Rattle.reo_command.specs.declared.role.Role.{Role}
use Rattle.reo_command.specs.declared.role.Role.TheVariants.{Circuit, Script}
use Rattle.reo_command.specs.declared.stop.Stop.{Stop}
use Rattle.reo_command.specs.declared.stop.Stop.TheVariants.{Missed}
use Rattle.reo_top.specs.Answers.{Answered}
use Rattle.reo_command.specs.top_base.Answered.{IsAnswered}
use Rattle.reo_command.specs.top_base.Cases.{Cases, IsFailure}
use Rattle.reo_live.specs.closings.Sources.{SourceChange}
use Rattle.reo_command.specs.Commands.{is_free, roles_of}
use Rattle.reo_command.specs.Fetched.{Content, gone, long, text, unknown, content_of, texts_given, AreWithin, AreTold}
use Rattle.reo_top.specs.Headline.{Accepted, GaveAccepted, IsTraced, Headline}
use Rattle.reo_command.specs.Limits.{limits_of}
use Rattle.reo_top.specs.Owed.{owed_of}
use Rattle.reo_command.specs.top_base.Owed.{owed_by}
use Rattle.reo_top.specs.runs.Traces.{TracesRun}
use Rattle.reo_command.specs.Roles.{most_bytes}
use Rattle.reo_command.specs.States.{SinkState, FilesState, Change}
use Rattle.reo_command.specs.Stops.{stop_status}
use Rattle.reo_command.proofs.FlatLemmas.{circuit_apart}
use Rattle.reo_top.proofs.runs.RunLemmas.{start_for}
use Rattle.reo_top.proofs.TopLemmas.{answered_with}
use Rattle.reo_command.proofs.WorkLemmas.{run_reading}

-- A circuit that is accepted is put together well.
wired : CircuitsAreMade → CircuitNamesArePlain → (circuit : List ℕ) (flat : FlatCircuit) → length circuit < 2 ^ 63 → IsCircuitText circuit flat → IsWired (net_of behaviour_of flat.wiring)
wired made plain circuit flat few is =
    let parts = made is.program.declarations (plain circuit is.program (omega (arith, few)) is.says) is.accepted.no_break in
    let here : IsWired (net_of_program is.program.declarations) =
    wired_is (net_of_program is.program.declarations) parts.ends parts.joined parts.right is.accepted.no_cycle (lawful_at behaviour_of kind_lawful (primitives_of is.program.declarations)) in
    subst (λ (f : FlatCircuit). IsWired (net_of behaviour_of f.wiring)) (sym is.is) here

-- A file that is not too long is short.
long_is_text : (t : List ℕ) → long ≡ text t → ⊥
long_is_text t e = cc

gone_is_text : (t : List ℕ) → gone ≡ text t → ⊥
gone_is_text t e = cc

one_text : (s t : List ℕ) → text s ≡ text t → s ≡ t
one_text s t e = cc

within : (bytes t : List ℕ) (limit : ℕ) (b : Bool) → nat_le (length bytes) limit ≡ b → cond b (text bytes) long ≡ text t → length t ≤ limit
within bytes t limit true few is = let same = ap length (one_text bytes t is) in omega (arith, leb-true (length bytes) limit few)
within bytes t limit false few is = absurd (long_is_text t is)

size_of : (role : Role) (o : Option (List ℕ)) (t : List ℕ) → content_of role o ≡ text t → length t ≤ most_bytes role
size_of role None t is = absurd (gone_is_text t is)
size_of role (Some bytes) t is = within bytes t (most_bytes role) (nat_le (length bytes) (most_bytes role)) refl is

-- The circuit in what a run reads.
record HasCircuit (A : Content) (r : Runnable) : Type 0 where
  bytes : List ℕ
  is : A ≡ text bytes
  reads : IsCircuitText bytes r.flat

circuit_there : (A B : Content) (r : Runnable) → ReadsRun (A ∷ B ∷ []) r → HasCircuit A r
circuit_there (text t) (text u) r h = record { bytes = t; is = refl; reads = h.0 }
circuit_there (text t) gone r h = absurd h
circuit_there (text t) long r h = absurd h
circuit_there (text t) unknown r h = absurd h
circuit_there gone B r h = absurd h
circuit_there long B r h = absurd h
circuit_there unknown B r h = absurd h

-- The two files of a run are texts that are accepted.
circuit_read : (t : List ℕ) (B : Content) (r : Runnable) → ReadsRun (text t ∷ B ∷ []) r → IsCircuitText t r.flat
circuit_read t (text u) r h = h.0
circuit_read t gone r h = absurd h
circuit_read t long r h = absurd h
circuit_read t unknown r h = absurd h

module _ (A B : Content) (r : Runnable) (reads : ReadsRun (A ∷ B ∷ []) r) where
  first : (t : List ℕ) → A ≡ text t → IsCircuitText t r.flat
  first t is = circuit_read t B r (subst (λ (c : Content). ReadsRun (c ∷ B ∷ []) r) is reads)

  both : (t u : List ℕ) → A ≡ text t → B ≡ text u → ReadsRun (text t ∷ text u ∷ []) r
  both t u is so = subst (λ (c : Content). ReadsRun (text t ∷ c ∷ []) r) so (subst (λ (c : Content). ReadsRun (c ∷ B ∷ []) r) is reads)

  not_long : A ≡ long → ⊥
  not_long is = subst (λ (c : Content). ReadsRun (c ∷ B ∷ []) r) is reads

  not_long_second : (t : List ℕ) → A ≡ text t → B ≡ long → ⊥
  not_long_second t is so = subst (λ (c : Content). ReadsRun (text t ∷ c ∷ []) r) so (subst (λ (c : Content). ReadsRun (c ∷ B ∷ []) r) is reads)

  no_circuit_stop : (t : List ℕ) → A ≡ text t → (s : Stop) → CircuitStops t s → ⊥
  no_circuit_stop t is s stop = circuit_apart t r.flat s (first t is) stop

-- Nothing stops the run but a file that cannot be had.
module _ (folder : Folder) (c s : List ℕ) (r : Runnable) (reads : ReadsRun (content_of Circuit (file_of folder c) ∷ content_of Script (file_of folder s) ∷ []) r) where
  abbrev A : Content
  A = content_of Circuit (file_of folder c)

  abbrev B : Content
  B = content_of Script (file_of folder s)

  missed_status : (stop : Stop) → (role : _) → stop ≡ Missed role → stop_status stop ≡ 3
  missed_status stop role is = ap stop_status is

  only_missed : (answers : List Content) → AreTold folder (Circuit ∷ Script ∷ []) (c ∷ s ∷ []) answers → (stop : Stop) → StopsRun answers stop → stop_status stop ≡ 3
  only_missed (gone ∷ []) told stop h = missed_status stop Circuit h
  only_missed (long ∷ []) told stop h = absurd (not_long A B r reads told.0)
  only_missed (text t ∷ []) told stop h = absurd (no_circuit_stop A B r reads t told.0 stop h)
  only_missed (unknown ∷ []) told stop h = absurd h
  only_missed (text t ∷ gone ∷ []) told stop (f, is, h) = missed_status stop Script h
  only_missed (text t ∷ long ∷ []) told stop (f, is, h) = absurd (not_long_second A B r reads t told.0 told.1.0)
  only_missed (text t ∷ text u ∷ []) told stop (f, is, h) = absurd (run_reading.apart (text t ∷ text u ∷ []) r stop (both A B r reads t u told.0 told.1.0) (f, is, h))
  only_missed (text t ∷ unknown ∷ []) told stop (f, is, h) = absurd h
  only_missed [] told stop h = absurd h
  only_missed (gone ∷ d ∷ cs) told stop h = absurd h
  only_missed (long ∷ d ∷ cs) told stop h = absurd h
  only_missed (unknown ∷ d ∷ cs) told stop h = absurd h
  only_missed (text t ∷ d ∷ e ∷ cs) told stop h = absurd h

  same_reads : (answers : List Content) → AreTold folder (Circuit ∷ Script ∷ []) (c ∷ s ∷ []) answers → (x : Runnable) → ReadsRun answers x → ReadsRun answers r
  same_reads (text t ∷ text u ∷ []) told x h = both A B r reads t u told.0 told.1.0
  same_reads [] told x h = absurd h
  same_reads (gone ∷ cs) told x h = absurd h
  same_reads (long ∷ cs) told x h = absurd h
  same_reads (unknown ∷ cs) told x h = absurd h
  same_reads (text t ∷ []) told x h = absurd h
  same_reads (text t ∷ gone ∷ cs) told x h = absurd h
  same_reads (text t ∷ long ∷ cs) told x h = absurd h
  same_reads (text t ∷ unknown ∷ cs) told x h = absurd h
  same_reads (text t ∷ text u ∷ d ∷ cs) told x h = absurd h

  well : CircuitsAreMade → CircuitNamesArePlain → IsWired (net_of behaviour_of r.flat.wiring)
  well made plain = let circuit = circuit_there A B r reads in let few : length circuit.bytes ≤ 1048576 = size_of Circuit (file_of folder c) circuit.bytes circuit.is in wired made plain circuit.bytes r.flat (omega (arith, few)) circuit.reads

-- The trace is what was written, where nothing but a failure stops the run.
module _ (limits : Limits) (justified : RunsAreJustified kind_rules) (r : Runnable) (well : IsWired (net_of behaviour_of r.flat.wiring)) (sink : Change SinkState) (code : ℕ) (fine : IsFailure code → ⊥) (answers : List Content)
    (only : (stop : Stop) → StopsRun answers stop → stop_status stop ≡ 3) (same : (x : Runnable) → ReadsRun answers x → ReadsRun answers r) where
  traced : Cases (owed_by ReadsRun StopsRun (TracesRun limits) answers) sink code → IsTraced limits r sink code
  traced (inl wrote) = elim wrote.owed [
    | inl stopped ↦ absurd (fine (inl (stopped.2.1 ∙ only stopped.0 stopped.1)))
    | inr made_of ↦
        let here : ReadsRun answers r = same made_of.0 made_of.1 in
        let trace : TracesRun limits r wrote.bytes code = subst (λ (x : Runnable). TracesRun limits x wrote.bytes code) (run_reading.one answers made_of.0 r made_of.1 here) made_of.2 in
        record {
          bytes = wrote.bytes;
          trace = record {
            lines = trace.lines;
            ending = trace.ending;
            run = justified limits.budget limits.rounds (start_for r) well trace.lines trace.ending trace.run;
            bytes_are = trace.bytes_are;
            status = trace.status;
          };
          adds = wrote.adds;
        }
  ]
  traced (inr (inl broke)) = absurd (fine (inr (inl broke.code_is)))
  traced (inr (inr ran_out)) = absurd (fine (inr (inr ran_out.code_is)))

at_most_one : (n : List ℕ) (cs : List Content) (p q : List ℕ × List ℕ) → texts_given (n ∷ []) cs ≡ p ∷ q ∷ [] → ⊥
at_most_one n [] p q e = cc
at_most_one n (gone ∷ cs) p q e = cc
at_most_one n (long ∷ cs) p q e = cc
at_most_one n (text t ∷ cs) p q e = cc
at_most_one n (unknown ∷ cs) p q e = cc

no_second : (m : List ℕ) (cs : List Content) (x p q : List ℕ × List ℕ) → x ∷ texts_given (m ∷ []) cs ≡ p ∷ q ∷ [] → texts_given (m ∷ []) cs ≡ q ∷ []
no_second m cs x p q e = cc

first_text : (n t : List ℕ) (rest : List (List ℕ × List ℕ)) (p q : List ℕ × List ℕ) → (n, t) ∷ rest ≡ p ∷ q ∷ [] → t ≡ p.1
first_text n t rest p q e = ap (λ (x : List ℕ × List ℕ). x.1) (head_same e) where
  head_same : (n, t) ∷ rest ≡ p ∷ q ∷ [] → (n, t) ≡ p
  head_same f = cc

one_given : (m u : List ℕ) (q : List ℕ × List ℕ) → (m, u) ∷ [] ≡ q ∷ [] → u ≡ q.1
one_given m u q e = ap (λ (x : List ℕ × List ℕ). x.1) (head_same e) where
  head_same : (m, u) ∷ [] ≡ q ∷ [] → (m, u) ≡ q
  head_same f = cc

none_given : (q : List ℕ × List ℕ) → [] ≡ q ∷ [] → ⊥
none_given q e = cc

second_is : (m : List ℕ) (cs : List Content) (q : List ℕ × List ℕ) → length cs ≤ 1 → texts_given (m ∷ []) cs ≡ q ∷ [] → cs ≡ text q.1 ∷ []
second_is m [] q few e = absurd (none_given q e)
second_is m (gone ∷ cs) q few e = absurd (none_given q e)
second_is m (long ∷ cs) q few e = absurd (none_given q e)
second_is m (unknown ∷ cs) q few e = absurd (none_given q e)
second_is m (text u ∷ []) q few e = ap (λ (t : List ℕ). text t ∷ []) (one_given m u q e)
second_is m (text u ∷ c ∷ cs) q few e = absurd (omega (arith, few))

both_given : (n m : List ℕ) (answers : List Content) (p q : List ℕ × List ℕ) → length answers ≤ 2 → texts_given (n ∷ m ∷ []) answers ≡ p ∷ q ∷ [] → answers ≡ text p.1 ∷ text q.1 ∷ []
both_given n m [] p q few e = absurd (cc)
both_given n m (gone ∷ cs) p q few e = absurd (at_most_one m cs p q e)
both_given n m (long ∷ cs) p q few e = absurd (at_most_one m cs p q e)
both_given n m (unknown ∷ cs) p q few e = absurd (at_most_one m cs p q e)
both_given n m (text t ∷ cs) p q few e =
    ap (λ (u : List ℕ). text u ∷ cs) (first_text n t (texts_given (m ∷ []) cs) p q e) ∙ ap (λ (ds : List Content). text p.1 ∷ ds) (second_is m cs q (omega (arith, few)) (no_second m cs (n, t) p q e))

-- The headline, from what the call has come to.
module _ (justified : RunsAreJustified kind_rules) (made : CircuitsAreMade) (plain : CircuitNamesArePlain) (words : List (List ℕ)) (files : Change FilesState) (source : SourceChange) (sink : Change SinkState) (code : ℕ) (h : Answered words files source sink code) where
  told_as : (o : Option Folder) → files.old.told ≡ o → IfSome o (λ folder. (r : Runnable) → Accepted words folder r → (IsFailure code → ⊥) → IsTraced (limits_of words) r sink code)
  told_as None is = tt
  told_as (Some folder) is = λ r a fine.
      let run : IsAnswered (is_free Run) (owed_of Run words h.events) (roles_of Run) (a.circuit ∷ a.script ∷ []) files sink code = answered_with words files source sink code Run (a.circuit ∷ a.script ∷ []) a.run a.names h in
      let told : AreTold folder (Circuit ∷ Script ∷ []) (a.circuit ∷ a.script ∷ []) run.answers =
      subst (λ (o : Option Folder). IfSome o (λ f. AreTold f (Circuit ∷ Script ∷ []) (a.circuit ∷ a.script ∷ []) run.answers)) is run.fetched.told in
      traced (limits_of words) justified r (well folder a.circuit a.script r a.reads made plain) sink code fine run.answers (only_missed folder a.circuit a.script r a.reads run.answers told)
      (same_reads folder a.circuit a.script r a.reads run.answers told) run.cases

  given_as : (r : Runnable) → GaveAccepted words files r → (IsFailure code → ⊥) → IsTraced (limits_of words) r sink code
  given_as r a fine =
      let run : IsAnswered (is_free Run) (owed_of Run words h.events) (roles_of Run) (a.circuit.0 ∷ a.script.0 ∷ []) files sink code = answered_with words files source sink code Run (a.circuit.0 ∷ a.script.0 ∷ []) a.run a.names h in
      let are : run.answers ≡ text a.circuit.1 ∷ text a.script.1 ∷ [] =
      both_given a.circuit.0 a.script.0 run.answers a.circuit a.script run.fetched.few (append_same files.old.given (texts_given (a.circuit.0 ∷ a.script.0 ∷ []) run.answers) (a.circuit ∷ a.script ∷ []) (sym run.fetched.given ∙ a.given)) in
      let within : AreWithin (Circuit ∷ Script ∷ []) (text a.circuit.1 ∷ text a.script.1 ∷ []) = subst (λ (cs : List Content). AreWithin (Circuit ∷ Script ∷ []) cs) are run.fetched.within in
      let few : length a.circuit.1 ≤ 1048576 = within.0 in
      let reads : ReadsRun run.answers r = subst (λ (cs : List Content). ReadsRun cs r) (sym are) a.reads in
      traced (limits_of words) justified r (wired made plain a.circuit.1 r.flat (omega (arith, few)) a.reads.0) sink code fine run.answers (λ stop stops. absurd (run_reading.apart run.answers r stop reads stops)) (λ x other. reads) run.cases

  pub headline : Headline words files sink code
  headline = record { told = told_as files.old.told refl; given = given_as }
