-- A circuit text is accepted as one circuit, or refused for one cause.
use Rattle.std.proofs.Common.{◌≡◌, ◌∙◌, ◌⊎◌, inl, inr, ℕ, List, [], sym, subst, ap, refl}
use Rattle.std.specs.Prelude.{Some, slice_index, slice_index_or}
use Rattle.std.proofs.lemmas.Bool.{cases_order}
use Rattle.reo_net_base.specs.Wired.{IsLeastOnCycle}
use Rattle.reo_trees.specs.declared.programs.Program.{Program}
use Rattle.reo_trees.specs.declared.programs.Declaration.{Declaration}
use Rattle.reo_rules.specs.declared.fault.FlatFault.{FlatFault}
use Rattle.reo_rules.specs.declared.fault.FlatFault.TheVariants as rules
use Rattle.reo_rules.specs.Lists.{first_of}
use Rattle.reo_flat.specs.Flat.{nodes_of, homes_in}
use Rattle.reo_flat.specs.Refusals.{breaks, IsOnCycleFirst, IsRefused, IsAccepted}
use Rattle.reo_command.specs.declared.command.Command.TheVariants.{Check}
use Rattle.reo_command.specs.declared.refusal.Refusal.{Refusal}
use Rattle.reo_command.specs.declared.role.Role.TheVariants.{Circuit}
use Rattle.reo_command.specs.declared.stop.Stop.{Stop}
use Rattle.reo_command.specs.declared.stop.Stop.TheVariants.{Refused}
use Rattle.reo_command.specs.Readings.{FlatCircuit, IsCircuitText, CircuitStops, ReadsCircuit, StopsCheck, flat_of}
use Rattle.reo_command.specs.Refusals.{flat_refusal, RefusesCircuit}
use Rattle.reo_command.specs.Statuses.{statuses_of}
use Rattle.reo_circuit_texts.proofs.OneLemmas.{one_program}
use Rattle.reo_command.proofs.UnfoldingLemmas.{unfolding_apart, unfolding_stop, unfolding_refusal}
use Rattle.reo_command.proofs.ReadLemmas.{IsOneText, IsOneReading, file_reading}
use Rattle.reo_command.proofs.ResultLemmas.{some_is, none_is_some}

-- The least arrow on a cycle is one.
one_least : (from to : List ℕ) (j k : ℕ) → IsLeastOnCycle from to j → IsLeastOnCycle from to k → j ≡ k
one_least from to j k a b = elim (cases_order j k) [
  | inl same ↦ same
  | inr (inl below) ↦ absurd (b.least j below a.on_cycle)
  | inr (inr above) ↦ absurd (a.least k above b.on_cycle)
]

one_node : (ds : List Declaration) (n m : List ℕ) → IsOnCycleFirst ds n → IsOnCycleFirst ds m → n ≡ m
one_node ds n m a b = sym a.home ∙ ap (λ j. slice_index_or (nodes_of ds) (slice_index (homes_in ds) j) []) (one_least _ _ a.joint b.joint a.least b.least) ∙ b.home

-- The cause of a refusal: the first break, or the node of a cycle where there is none.
abbrev ByCycle : Program → FlatFault → Type 0
ByCycle p f = (node : List ℕ) × (f ≡ rules.Cycle node) × (breaks p.declarations ≡ []) × IsOnCycleFirst p.declarations node

cause_of : (p : Program) (f : FlatFault) → IsRefused p f → (f ≡ rules.NoMemory) ⊎ ((first_of (breaks p.declarations) ≡ Some f) ⊎ ByCycle p f)
cause_of p (rules.Twice line name) h = inr (inl h)
cause_of p (rules.Unknown line name) h = inr (inl h)
cause_of p (rules.Mistyped line) h = inr (inl h)
cause_of p (rules.Range line) h = inr (inl h)
cause_of p (rules.Arity line) h = inr (inl h)
cause_of p (rules.Direction line node) h = inr (inl h)
cause_of p (rules.Dangling line node) h = inr (inl h)
cause_of p rules.NoMain h = inr (inl h)
cause_of p rules.TooMany h = inr (inl h)
cause_of p (rules.Cycle node) h = inr (inr (node, refl, h.0, h.1))
cause_of p rules.NoMemory h = inl refl

no_cause : (r : Refusal) (f : FlatFault) → f ≡ rules.NoMemory → flat_refusal f ≡ Some r → ⊥
no_cause r f is told = none_is_some r (flat_refusal f) (ap flat_refusal is) told

none_broken : (p : Program) (f : FlatFault) → breaks p.declarations ≡ [] → first_of (breaks p.declarations) ≡ Some f → ⊥
none_broken p f none some = none_is_some f (first_of (breaks p.declarations)) (ap first_of none) some

one_cause : (p : Program) (f g : FlatFault) (r s : Refusal) → flat_refusal f ≡ Some r → flat_refusal g ≡ Some s
    → (f ≡ rules.NoMemory) ⊎ ((first_of (breaks p.declarations) ≡ Some f) ⊎ ByCycle p f) → (g ≡ rules.NoMemory) ⊎ ((first_of (breaks p.declarations) ≡ Some g) ⊎ ByCycle p g) → f ≡ g
one_cause p f g r s told so (inl none) b = absurd (no_cause r f none told)
one_cause p f g r s told so (inr a) (inl none) = absurd (no_cause s g none so)
one_cause p f g r s told so (inr (inl a)) (inr (inl b)) = some_is f g (Some f) (Some g) refl refl (sym a ∙ b)
one_cause p f g r s told so (inr (inl a)) (inr (inr b)) = absurd (none_broken p f b.2 a)
one_cause p f g r s told so (inr (inr a)) (inr (inl b)) = absurd (none_broken p g a.2 b)
one_cause p f g r s told so (inr (inr a)) (inr (inr b)) = a.1 ∙ ap (λ n. rules.Cycle n) (one_node p.declarations a.0 b.0 a.3 b.3) ∙ sym b.1

-- What is accepted is not refused.
accepted_apart : (p : Program) (f : FlatFault) (r : Refusal) → flat_refusal f ≡ Some r → IsAccepted p → (f ≡ rules.NoMemory) ⊎ ((first_of (breaks p.declarations) ≡ Some f) ⊎ ByCycle p f) → ⊥
accepted_apart p f r told accepted (inl none) = no_cause r f none told
accepted_apart p f r told accepted (inr (inl a)) = none_broken p f accepted.no_break a
accepted_apart p f r told accepted (inr (inr a)) = accepted.no_cycle a.3.joint a.3.least.on_cycle

module _ (bytes : List ℕ) where
  pub one_circuit : (x y : FlatCircuit) → IsCircuitText bytes x → IsCircuitText bytes y → x ≡ y
  one_circuit x y a b = a.is ∙ ap flat_of (one_program bytes a.program b.program a.says b.says) ∙ sym b.is

  one_circuit_refusal : (r s : Refusal) → RefusesCircuit bytes r → RefusesCircuit bytes s → r ≡ s
  one_circuit_refusal r s (p, f, says, refused, told) (q, g, says2, refused2, told2) =
      let same = one_program bytes q p says2 says in
      let again : IsRefused p g = subst (λ (x : Program). IsRefused x g) same refused2 in
      some_is r s (Some r) (Some s) refl refl (sym told ∙ ap flat_refusal (one_cause p f g r s told told2 (cause_of p f refused) (cause_of p g again)) ∙ told2)

  circuit_not_refused : (x : FlatCircuit) (r : Refusal) → IsCircuitText bytes x → RefusesCircuit bytes r → ⊥
  circuit_not_refused x r a (p, f, says, refused, told) =
      let same = one_program bytes p a.program says a.says in
      accepted_apart a.program f r told a.accepted (cause_of a.program f (subst (λ (y : Program). IsRefused y f) same refused))

  pub circuit_apart : (x : FlatCircuit) (s : Stop) → IsCircuitText bytes x → CircuitStops bytes s → ⊥
  circuit_apart x s a (inl b) = unfolding_apart bytes a.program s a.says b
  circuit_apart x s a (inr (r, b, is)) = circuit_not_refused x r a b

  one_circuit_stop : (s t : Stop) → CircuitStops bytes s → CircuitStops bytes t → s ≡ t
  one_circuit_stop s t (inl a) (inl b) = unfolding_stop bytes s t a b
  one_circuit_stop s t (inl a) (inr (q, (p, f, says, refused, told), so)) = absurd (unfolding_apart bytes p s says a)
  one_circuit_stop s t (inr (r, (p, f, says, refused, told), is)) (inl b) = absurd (unfolding_apart bytes p t says b)
  one_circuit_stop s t (inr (r, a, is)) (inr (q, b, so)) = is ∙ ap (Refused Circuit) (one_circuit_refusal r q a b) ∙ sym so

  -- Its stops are refusals.
  circuit_refusal : (s : Stop) → CircuitStops bytes s → (r : Refusal) × (s ≡ Refused Circuit r)
  circuit_refusal s (inl a) = unfolding_refusal bytes s a
  circuit_refusal s (inr (r, a, is)) = (r, is)

pub circuit_law : IsOneText Circuit IsCircuitText CircuitStops
circuit_law = record { one = one_circuit; apart = circuit_apart; one_stop = one_circuit_stop; refused = circuit_refusal }

-- What a check reads.
pub check_reading : IsOneReading ReadsCircuit StopsCheck (statuses_of Check)
check_reading = file_reading Circuit IsCircuitText CircuitStops circuit_law (statuses_of Check) refl refl refl
