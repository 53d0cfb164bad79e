-- One thing of some is told in a line: the cases, and that nothing else is owed.
use Rattle.std.proofs.Common.{◌≡◌, ◌∙◌, ◌⊎◌, inl, inr, ℕ, List, refl, ap, subst, sym}
use Rattle.std.specs.Prelude.{◌≢◌}
use Rattle.reo_command.specs.States.{SinkState, Change}
use Rattle.reo_command.specs.Statuses.{IsAmong}
use Rattle.reo_command.specs.top_base.Cases.{Cases, IsExact, IsFair, Refuses}
use Rattle.reo_command.specs.top_base.Outputs.{Outputs, IsLine}
use Rattle.reo_command.proofs.top_base.CaseLemmas.{line_cases, line_written}

module _ {X : Type 0} (Is : X → Type 0) (line_of : X → List ℕ) (status_of : X → ℕ) where
  -- What is told of it.
  abbrev pub Tells : Outputs
  Tells bytes code = (x : X) × Is x × IsLine (line_of x) (status_of x) bytes code

  module _ (x : X) (sink : Change SinkState) (code : ℕ) where
    -- As the code has it.
    module _ (line : List ℕ) (status : ℕ) (line_is : line ≡ line_of x) (status_is : status ≡ status_of x) where
      as_owed : Refuses line status sink code → Refuses (line_of x) (status_of x) sink code
      as_owed h = subst (λ (l : List ℕ). Refuses l (status_of x) sink code) line_is (subst (λ (k : ℕ). Refuses line k sink code) status_is h)

      pub told_cases : Is x → Refuses line status sink code → Cases Tells sink code
      told_cases is h = line_cases sink code Tells (line_of x) (status_of x) (x, is, (refl, refl)) (as_owed h)

      pub told_fair : status_of x ≢ 9 → (status ≡ 9) ⊎ IsFair sink code → IsFair sink code
      told_fair other (inl nine) = absurd (other (sym status_is ∙ nine))
      told_fair other (inr fair) = fair

      as_line : (y : X) → x ≡ y → (bytes : List ℕ) (other : ℕ) → IsLine (line_of y) (status_of y) bytes other → IsLine (line_of x) (status_of x) bytes other
      as_line y same bytes other is = (is.0 ∙ ap line_of (sym same), is.1 ∙ ap status_of (sym same))

      -- There is one such thing.
      pub told_exact : ((y : X) → Is y → x ≡ y) → Refuses line status sink code → IsExact Tells sink code
      told_exact only h = λ bytes other owed. line_written sink code (line_of x) (status_of x) (as_owed h) bytes other (as_line owed.0 (only owed.0 owed.1) bytes other owed.2)

  pub told_status : (statuses : List ℕ) → ((x : X) → IsAmong statuses (status_of x)) → (bytes : List ℕ) (status : ℕ) → Tells bytes status → IsAmong statuses status
  told_status statuses among bytes status h = subst (λ (k : ℕ). IsAmong statuses k) (sym h.2.1) (among h.0)

  pub told_not_three : ((x : X) → status_of x ≢ 3) → (bytes : List ℕ) (status : ℕ) → Tells bytes status → status ≢ 3
  told_not_three other bytes status h e = other h.0 (sym h.2.1 ∙ e)
