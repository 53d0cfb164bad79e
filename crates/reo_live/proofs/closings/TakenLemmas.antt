-- Bytes that were taken, piece by piece, and all that a source had.
use Rattle.std.proofs.Common.{inl, inr, ◌≡◌, ◌∙◌, ℕ, zero, suc, ◌+◌, ◌≤◌, ◌<◌, Bool, true, false, List, [], ◌∷◌, ◌++◌, length, take, sym, subst, ap, refl, arith, length-append, Result, Ok, Err}
use Rattle.std.proofs.Math.Nat.{eq-or-lt_of_le}
use Rattle.std.specs.Prelude.{Option, Some, None, IfSome}
use Rattle.std.specs.Option.{unwrap_or}
use Rattle.std.proofs.lemmas.Bool.{true≢false, false≢true}
use Rattle.std.proofs.lemmas.List.{append-nil, append_assoc}
use Rattle.reo_io.specs.Causes.{Rose}
use Rattle.reo_io.specs.Given.{empties_after}
use Rattle.reo_io.specs.Sources.{Takes}
use Rattle.reo_io.specs.declared.source.SourceFault.{SourceFault}
use Rattle.reo_live.specs.closings.Sources.{SourceState, SourceChange, Events, AreTaken, AreTakenSoFar, IsTake, SaidEnd}

-- What a source told and tells.
abbrev Left : Option (List ℕ) → Option (List ℕ) → List ℕ → Type 0
Left told now bytes = IfSome told (λ all. (left : List ℕ) × (all ≡ bytes ++ left) × (now ≡ Some left))

some_more : (all bytes room left : List ℕ) (mid now : Option (List ℕ)) (count : ℕ) → all ≡ bytes ++ left → mid ≡ Some left → Takes {E = SourceFault} mid now room (Ok count)
    → (more : List ℕ) × (all ≡ (bytes ++ take count room) ++ more) × (now ≡ Some more)
some_more all bytes room left mid now count is mid_is takes =
    let took : Takes {E = SourceFault} (Some left) now room (Ok count) = subst (λ (o : Option (List ℕ)). Takes {E = SourceFault} o now room (Ok count)) mid_is takes in
    (took.0, is ∙ (ap (λ (l : List ℕ). bytes ++ l) took.2 ∙ sym (append_assoc bytes (take count room) took.0)), took.1)

left_more : (told mid now : Option (List ℕ)) (bytes room : List ℕ) (count : ℕ) → Left told mid bytes → Takes {E = SourceFault} mid now room (Ok count) → Left told now (bytes ++ take count room)
left_more None mid now bytes room count h takes = tt
left_more (Some all) mid now bytes room count h takes = some_more all bytes room h.0 mid now count h.1 h.2 takes

some_same : (fault : SourceFault) (left : List ℕ) (mid now : Option (List ℕ)) (room : List ℕ) → mid ≡ Some left → Takes {E = SourceFault} mid now room (Err fault) → now ≡ Some left
some_same fault left mid now room mid_is takes = subst (λ (o : Option (List ℕ)). Takes {E = SourceFault} o now room (Err fault)) mid_is takes

left_same : (fault : SourceFault) (told mid now : Option (List ℕ)) (bytes room : List ℕ) → Left told mid bytes → Takes {E = SourceFault} mid now room (Err fault) → Left told now bytes
left_same fault None mid now bytes room h takes = tt
left_same fault (Some all) mid now bytes room h takes = (h.0, h.1, some_same fault h.0 mid now room h.2 takes)

-- Nothing was left where no byte came.
some_end : (left : List ℕ) (mid now : Option (List ℕ)) (room : List ℕ) → mid ≡ Some left → Takes {E = SourceFault} mid now room (Ok 0) → left ≡ []
some_end left mid now room mid_is takes = (subst (λ (o : Option (List ℕ)). Takes {E = SourceFault} o now room (Ok 0)) mid_is takes).3 refl

-- A count of empty pieces does not fall.
more_ends : (ends : ℕ) (piece : List ℕ) → ends ≤ empties_after ends piece
more_ends ends [] = omega arith
more_ends ends (byte ∷ bytes) = omega arith

ends_on : (old mid new : ℕ) (piece : List ℕ) → old ≤ mid → new ≡ empties_after mid piece → old ≤ new
ends_on old mid new piece first is = let next = more_ends mid piece in omega (arith, first, is, next)

-- Where nothing is left, what was taken is all.
all_taken : (all taken more : List ℕ) → all ≡ taken ++ more → length more ≡ 0 → all ≡ taken
all_taken all taken [] is none = is ∙ append-nil taken
all_taken all taken (b ∷ bs) is none = absurd (omega (arith, none))

-- A take that says the end has given no byte.
no_byte : (ends count : ℕ) (room : List ℕ) → count ≤ length room → ends < empties_after ends (take count room) → count ≡ 0
no_byte ends zero room fits rose = refl
no_byte ends (suc n) [] fits rose = absurd (omega (arith, fits))
no_byte ends (suc n) (b ∷ bs) fits rose = absurd (omega (arith, rose))

-- Nothing is left behind the end.
none_more : (all bytes piece left more : List ℕ) → all ≡ bytes ++ left → left ≡ piece ++ more → all ≡ bytes → length more ≡ 0
none_more all bytes piece left more is front whole =
    let a : length all ≡ length (bytes ++ left) = ap length is in
    let b : length left ≡ length (piece ++ more) = ap length front in
    let c : length all ≡ length bytes = ap length whole in
    let d = length-append bytes left in
    let e = length-append piece more in
    omega (arith, a, b, c, d, e)

end_more : (left piece more : List ℕ) → left ≡ piece ++ more → left ≡ [] → length more ≡ 0
end_more left piece more front none =
    let b : length left ≡ length (piece ++ more) = ap length front in
    let c : length left ≡ length {A = ℕ} [] = ap length none in
    let e = length-append piece more in
    omega (arith, b, c, e)

-- What a source has told and given where it has said that it ends.
some_ended : (old mid new : ℕ) (all bytes room left : List ℕ) (now : Option (List ℕ)) (count : ℕ) → count ≤ length room → old ≤ mid → (old < mid → all ≡ bytes) → new ≡ empties_after mid (take count room)
    → all ≡ bytes ++ left → Takes {E = SourceFault} (Some left) now room (Ok count) → old < new → all ≡ bytes ++ take count room
some_ended old mid new all bytes room left now count fits later ended is front took less =
    let joined : all ≡ (bytes ++ take count room) ++ took.0 = front ∙ (ap (λ (l : List ℕ). bytes ++ l) took.2 ∙ sym (append_assoc bytes (take count room) took.0)) in
    all_taken all (bytes ++ take count room) took.0 joined (elim (eq-or-lt_of_le later) [
      | inl same ↦ end_more left (take count room) took.0 took.2 (took.3 (no_byte mid count room fits (omega (arith, same, is, less))))
      | inr rose ↦ none_more all bytes (take count room) left took.0 front took.2 (ended rose)
    ])

ended_more : (old mid new : ℕ) (told at now : Option (List ℕ)) (bytes room : List ℕ) (count : ℕ) → count ≤ length room → old ≤ mid → (old < mid → IfSome told (λ all. all ≡ bytes))
    → new ≡ empties_after mid (take count room) → Left told at bytes → Takes {E = SourceFault} at now room (Ok count) → old < new → IfSome told (λ all. all ≡ bytes ++ take count room)
ended_more old mid new None at now bytes room count fits later ended is h takes less = tt
ended_more old mid new (Some all) at now bytes room count fits later ended is h takes less =
    let took : Takes {E = SourceFault} (Some h.0) now room (Ok count) = subst (λ (o : Option (List ℕ)). Takes {E = SourceFault} o now room (Ok count)) h.2 takes in
    some_ended old mid new all bytes room h.0 now count fits later ended is h.1 took less

-- A source after a take, by what it told before.
pub taken_more : (old mid new : SourceState) (bytes room : List ℕ) (count : ℕ) → count ≤ length room → AreTakenSoFar old mid bytes → IsTake {E = SourceFault} mid new room (Ok count) → mid.faults ≤ new.faults
    → AreTakenSoFar old new (bytes ++ take count room)
taken_more old mid new bytes room count fits h takes more = let was = h.later in record {
  later = omega (arith, was, more);
  ended = ended_more old.ends mid.ends new.ends old.told mid.told new.told bytes room count fits h.ends_later h.ended takes.2 h.told takes.0;
  ends_later = ends_on old.ends mid.ends new.ends (take count room) h.ends_later takes.2;
  given = takes.1 ∙ (ap (λ (g : List ℕ). g ++ take count room) h.given ∙ append_assoc old.given bytes (take count room));
  told = left_more old.told mid.told new.told bytes room count h.told takes.0;
}

pub taken_same : (fault : SourceFault) (old mid new : SourceState) (bytes room : List ℕ) → AreTakenSoFar old mid bytes → IsTake {E = SourceFault} mid new room (Err fault) → mid.faults ≤ new.faults
    → AreTakenSoFar old new bytes
taken_same fault old mid new bytes room h takes more = let was = h.later in record {
  later = omega (arith, was, more);
  ends_later = subst (λ (n : ℕ). old.ends ≤ n) (sym takes.2) h.ends_later;
  ended = λ less. h.ended (subst (λ (n : ℕ). old.ends < n) takes.2 less);
  given = takes.1 ∙ h.given;
  told = left_same fault old.told mid.told new.told bytes room h.told takes.0;
}

-- A source that gives no byte has said that it ends.
pub said_end : (old mid new : SourceState) (bytes room : List ℕ) → AreTakenSoFar old mid bytes → IsTake {E = SourceFault} mid new room (Ok 0) → SaidEnd (record { old = old; new = new })
said_end old mid new bytes room h takes = let was = h.ends_later in let is : new.ends ≡ mid.ends + 1 = takes.2 in omega (arith, was, is)

-- All bytes that a source had, or those that were taken.
abbrev pub all_of : Option (List ℕ) → List ℕ → Events
all_of told bytes = record { bytes = unwrap_or told bytes; failed = false }

pub rest_of : (told now : Option (List ℕ)) (bytes : List ℕ) → Left told now bytes → (rest : List ℕ) × (unwrap_or told bytes ≡ bytes ++ rest)
rest_of None now bytes h = ([], sym (append-nil bytes))
rest_of (Some all) now bytes h = (h.0, h.1)

rest_none : (told now : Option (List ℕ)) (bytes : List ℕ) (h : Left told now bytes) → told ≡ None → (rest_of told now bytes h).0 ≡ []
unfolding rest_of
rest_none None now bytes h none = refl
rest_none (Some all) now bytes h none = absurd (cc)

whole_told : (told now : Option (List ℕ)) (bytes : List ℕ) → Left told now bytes
    → IfSome told (λ all. (left : List ℕ) × (all ≡ bytes ++ left) × (now ≡ Some left) × (false ≡ false → unwrap_or told bytes ≡ all))
whole_told None now bytes h = tt
whole_told (Some all) now bytes h = (h.0, h.1, h.2, λ e. refl)

pub whole_taken : (old new : SourceState) (bytes : List ℕ) → AreTakenSoFar old new bytes → AreTaken (all_of old.told bytes) (record { old = old; new = new })
whole_taken old new bytes h = let found = rest_of old.told new.told bytes h.told in record {
  taken = bytes;
  rest = found.0;
  front = found.1;
  fault = λ e. absurd (false≢true e);
  untold = rest_none old.told new.told bytes h.told;
  later = h.later;
  given = h.given;
  told = whole_told old.told new.told bytes h.told;
}

missed_told : (told now : Option (List ℕ)) (bytes : List ℕ) → Left told now bytes
    → IfSome told (λ all. (left : List ℕ) × (all ≡ bytes ++ left) × (now ≡ Some left) × (true ≡ false → bytes ≡ all))
missed_told None now bytes h = tt
missed_told (Some all) now bytes h = (h.0, h.1, h.2, λ e. absurd (true≢false e))

pub missed_taken : (old new : SourceState) (bytes : List ℕ) → AreTakenSoFar old new bytes → Rose old.faults new.faults
    → AreTaken (record { bytes = bytes; failed = true }) (record { old = old; new = new })
missed_taken old new bytes h rose = record {
  taken = bytes;
  rest = [];
  front = sym (append-nil bytes);
  fault = λ e. (refl, rose);
  untold = λ none. refl;
  later = h.later;
  given = h.given;
  told = missed_told old.told new.told bytes h.told;
}

ended_told : (told mid now : Option (List ℕ)) (bytes room : List ℕ) → Left told mid bytes → Takes {E = SourceFault} mid now room (Ok 0)
    → IfSome told (λ all. (left : List ℕ) × (all ≡ bytes ++ left) × (now ≡ Some left) × (false ≡ false → bytes ≡ all))
ended_told None mid now bytes room h takes = tt
ended_told (Some all) mid now bytes room h takes =
    let none : h.0 ≡ [] = some_end h.0 mid now room h.2 takes in
    let is : all ≡ bytes = h.1 ∙ (ap (λ (l : List ℕ). bytes ++ l) none ∙ append-nil bytes) in
    let more = some_more all bytes room h.0 mid now 0 h.1 h.2 takes in
    (more.0, more.1 ∙ ap (λ (l : List ℕ). l ++ more.0) (append-nil bytes), more.2, λ e. sym is)

pub ended_taken : (old mid new : SourceState) (bytes room : List ℕ) → AreTakenSoFar old mid bytes → IsTake {E = SourceFault} mid new room (Ok 0) → mid.faults ≤ new.faults
    → AreTaken (record { bytes = bytes; failed = false }) (record { old = old; new = new })
ended_taken old mid new bytes room h takes more = let was = h.later in record {
  taken = bytes;
  rest = [];
  front = sym (append-nil bytes);
  fault = λ e. absurd (false≢true e);
  untold = λ none. refl;
  later = omega (arith, was, more);
  given = takes.1 ∙ (append-nil mid.given ∙ h.given);
  told = ended_told old.told mid.told new.told bytes room h.told takes.0;
}
