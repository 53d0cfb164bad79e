-- From one take to the next.
use Rattle.std.proofs.Common.{inl, inr, ◌≡◌, ℕ, ◌≤◌, ◌<◌, false, List, [], ◌++◌, sym, subst, refl, arith, Result, Ok, Err}
use Rattle.std.proofs.Math.Nat.{eq-or-lt_of_le}
use Rattle.std.proofs.lemmas.List.{append-nil}
use Rattle.std.specs.Prelude.{Option, Some, None, IfSome}
use Rattle.reo_io.specs.Causes.{HasCause}
use Rattle.reo_io.specs.declared.source.SourceFault.{SourceFault}
use Rattle.reo_io.proofs.Taken.{Appended-none}
use Rattle.reo_net_base.specs.Net.{Wiring}
use Rattle.reo_net_base.specs.declared.port.Port.{Port}
use Rattle.reo_rounds.specs.Rules.{Rules}
use Rattle.reo_live.specs.base.Live.{Live, beginning}
use Rattle.reo_live.specs.closings.Sources.{SourceState, SourceChange, AreTakenSoFar, IsTake, most_events}
use Rattle.reo_live.proofs.closings.ClosingLemmas.{after_none}
use Rattle.reo_live.specs.declared.hearing.heard.Heard.{Heard}
use Rattle.reo_live.specs.declared.hearing.heard.Heard.TheVariants as heards
use Rattle.reo_live.specs.hearing.Heard.{SoFar, GoesOn}
use Rattle.reo_live.specs.hearing.Pieces.{IsClose}
use Rattle.reo_live.proofs.hearing.HeardLemmas.{close_over, missed_over}

-- A count that rises only where hearing has ended is as it was where it goes on.
pub not_risen : (before now count : ℕ) (heard : Heard) → before ≤ now → (before < now → Ok count ≡ Err heard) → now ≡ before
not_risen before now count heard later risen = elim (eq-or-lt_of_le later) [
  | inl same ↦ sym same
  | inr rose ↦ absurd (let is : Ok count ≡ Err heard = risen rose in cc)
]

-- Nothing was taken yet.
none_left : (told : Option (List ℕ)) → IfSome told (λ all. (left : List ℕ) × (all ≡ [] ++ left) × (told ≡ Some left))
none_left None = tt
none_left (Some all) = (all, refl, refl)

none_taken : (old : SourceState) → AreTakenSoFar old old []
none_taken old = record { later = omega arith; ends_later = omega arith; ended = λ less. absurd (omega (arith, less)); given = sym (append-nil old.given); told = none_left old.told }

module _ {P : Type 0} (r : Rules P) (ports : List Port) (budget : ℕ) where
  pub far_none : (w : Wiring P) (before : Option (List ℕ)) (old : SourceState) (s : Live P) → s ≡ beginning w → SoFar r ports budget w before before old old s 0
  far_none w before old s is = subst (λ (t : Live P). SoFar r ports budget w before before old old t 0) (sym is) (record {
    bytes = [];
    answers = [];
    count_is = refl;
    after = after_none r ports budget w;
    text = Appended-none before;
    taken = none_taken old;
  })

  -- The ports and the budget stay.
  pub goes_same : (p : List Port) (b : ℕ) (mid now : Option (List ℕ)) (source : SourceChange) (s t : Live P) (taken : ℕ) (result : Result ℕ Heard) → p ≡ ports → b ≡ budget
      → GoesOn r p b mid now source s taken t result → GoesOn r ports budget mid now source s taken t result
  goes_same p b mid now source s t taken result same equal goes =
      subst (λ (x : ℕ). GoesOn r ports x mid now source s taken t result) equal
      (subst (λ (x : List Port). GoesOn r x b mid now source s taken t result) same goes)

  module _ (mid now : Option (List ℕ)) (at new : SourceState) (s t : Live P) (taken : ℕ) (unspent : s.stand.over ≡ false) (few : taken ≤ most_events) where
    -- The input has ended.
    pub close_next : (room : List ℕ) (heard : Heard) (count : ℕ) → count ≡ 0 → at.faults ≤ new.faults → IsTake {E = SourceFault} at new room (Ok count) → IsClose r ports budget mid now s heard
        → GoesOn r ports budget mid now (record { old = at; new = new }) s taken t (Err heard)
    close_next room heard count none later takes h = λ w before old far order.
        let end : IsTake {E = SourceFault} at new room (Ok 0) = subst (λ (n : ℕ). IsTake {E = SourceFault} at new room (Ok n)) none takes in
        close_over r ports budget w before mid old at s taken unspent far now few new room later end heard h

    -- A take has failed.
    pub missed_next : (room : List ℕ) (result : Result ℕ SourceFault) (fault : SourceFault) → result ≡ Err fault → HasCause at.faults new.faults result → IsTake {E = SourceFault} at new room result
        → GoesOn r ports budget mid mid (record { old = at; new = new }) s taken t (Err heards.Missed)
    missed_next room (Ok count) fault is cause takes = absurd (cc)
    missed_next room (Err e) fault is cause takes = λ w before old far order. missed_over r ports budget w before mid old at s taken unspent far e new room few cause.later cause.failed takes
