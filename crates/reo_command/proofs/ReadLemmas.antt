-- What a command reads, and what stops it, is one thing.
use Rattle.std.proofs.Common.{◌≡◌, ◌∙◌, ℕ, Bool, true, false, List, [], ◌∷◌, length, sym, subst, ap, refl}
use Rattle.std.specs.Prelude.{Err}
use Rattle.reo_command.specs.declared.refusal.Refusal.{Refusal}
use Rattle.reo_command.specs.declared.role.Role.{Role}
use Rattle.reo_command.specs.declared.stop.Stop.{Stop}
use Rattle.reo_command.specs.declared.stop.Stop.TheVariants.{Missed, TooLong, Refused, NoMemory}
use Rattle.reo_command.specs.Fetched.{Content, gone, long, text, unknown, has_gone}
use Rattle.reo_command.specs.Readings.{ReadsFile, StopsFile, IsReadAs}
use Rattle.reo_command.specs.Roles.{refused_status}
use Rattle.reo_command.specs.Statuses.{IsAmong, read_fault, too_long}
use Rattle.reo_command.specs.Stops.{stop_status}

-- A file cannot be had.
abbrev pub is_missed : Stop → Bool
is_missed (Missed role) = true
is_missed (TooLong role) = false
is_missed (Refused role r) = false
is_missed NoMemory = false

-- By the answers of the fetches one thing is read, or one thing stops the command; a file that cannot be had stops it so; and
-- its stops have statuses of these.
pub record IsOneReading {X : Type 0} (Reads : List Content → X → Type 0) (Stops : List Content → Stop → Type 0) (statuses : List ℕ) : Type 0 where
  pub one : (answers : List Content) (x y : X) → Reads answers x → Reads answers y → x ≡ y
  pub apart : (answers : List Content) (x : X) (s : Stop) → Reads answers x → Stops answers s → ⊥
  pub one_stop : (answers : List Content) (s t : Stop) → Stops answers s → Stops answers t → s ≡ t
  pub here : (answers : List Content) (x : X) → Reads answers x → has_gone answers ≡ false
  pub missed : (answers : List Content) (s : Stop) → Stops answers s → has_gone answers ≡ is_missed s
  pub status : (answers : List Content) (s : Stop) → Stops answers s → IsAmong statuses (stop_status s)

-- The same, by these answers.
pub record IsReadingAt {X : Type 0} (Reads : List Content → X → Type 0) (Stops : List Content → Stop → Type 0) (statuses : List ℕ) (answers : List Content) : Type 0 where
  pub one : (x y : X) → Reads answers x → Reads answers y → x ≡ y
  pub apart : (x : X) (s : Stop) → Reads answers x → Stops answers s → ⊥
  pub one_stop : (s t : Stop) → Stops answers s → Stops answers t → s ≡ t
  pub here : (x : X) → Reads answers x → has_gone answers ≡ false
  pub missed : (s : Stop) → Stops answers s → has_gone answers ≡ is_missed s
  pub status : (s : Stop) → Stops answers s → IsAmong statuses (stop_status s)

pub reading_at : {X : Type 0} {Reads : List Content → X → Type 0} {Stops : List Content → Stop → Type 0} {statuses : List ℕ} → IsOneReading Reads Stops statuses → (answers : List Content) → IsReadingAt Reads Stops statuses answers
reading_at law answers = record { one = law.one answers; apart = law.apart answers; one_stop = law.one_stop answers; here = law.here answers; missed = law.missed answers; status = law.status answers }

-- What stops a reading stops another, whatever is read.
pub stop_read : {X Y : Type 0} (Reads : List Content → X → Type 0) (Others : List Content → Y → Type 0) (Stops More : List Content → Stop → Type 0) (answers all : List Content)
    → ((s : Stop) → Stops answers s → More all s) → (has_gone answers ≡ false → has_gone all ≡ false) → (s : Stop) → IsReadAs Reads Stops answers (Err s) → IsReadAs Others More all (Err s)
stop_read Reads Others Stops More answers all stops here (Missed role) h = stops (Missed role) h
stop_read Reads Others Stops More answers all stops here (TooLong role) h = stops (TooLong role) h
stop_read Reads Others Stops More answers all stops here (Refused role r) h = stops (Refused role r) h
stop_read Reads Others Stops More answers all stops here NoMemory h = here h

-- The same stops.
pub same_stops : {X Y : Type 0} (Reads : List Content → X → Type 0) (Others : List Content → Y → Type 0) (Stops : List Content → Stop → Type 0) (answers : List Content) (s : Stop)
    → IsReadAs Reads Stops answers (Err s) → IsReadAs Others Stops answers (Err s)
same_stops Reads Others Stops answers s h = stop_read Reads Others Stops Stops answers answers (λ t stops. stops) (λ here. here) s h

same_stop : (s t u : Stop) → s ≡ u → t ≡ u → s ≡ t
same_stop s t u a b = a ∙ sym b

among : (statuses : List ℕ) (s u : Stop) → s ≡ u → IsAmong statuses (stop_status u) → IsAmong statuses (stop_status s)
among statuses s u is h = subst (λ (t : Stop). IsAmong statuses (stop_status t)) (sym is) h

-- A text says one thing, or has one refusal.
pub record IsOneText {X : Type 0} (role : Role) (Says : List ℕ → X → Type 0) (TextStops : List ℕ → Stop → Type 0) : Type 0 where
  pub one : (bytes : List ℕ) (x y : X) → Says bytes x → Says bytes y → x ≡ y
  pub apart : (bytes : List ℕ) (x : X) (s : Stop) → Says bytes x → TextStops bytes s → ⊥
  pub one_stop : (bytes : List ℕ) (s t : Stop) → TextStops bytes s → TextStops bytes t → s ≡ t
  pub refused : (bytes : List ℕ) (s : Stop) → TextStops bytes s → (r : Refusal) × (s ≡ Refused role r)

-- So the one file that has such a text is one reading.
module _ {X : Type 0} (role : Role) (Says : List ℕ → X → Type 0) (TextStops : List ℕ → Stop → Type 0) where
  pub file_all : (answers : List Content) (x : X) → ReadsFile Says answers x → length answers ≡ 1
  file_all (text bytes ∷ []) x a = refl
  file_all [] x a = absurd a
  file_all (gone ∷ cs) x a = absurd a
  file_all (long ∷ cs) x a = absurd a
  file_all (unknown ∷ cs) x a = absurd a
  file_all (text bytes ∷ c ∷ cs) x a = absurd a

  pub file_here : (answers : List Content) (x : X) → ReadsFile Says answers x → has_gone answers ≡ false
  file_here (text bytes ∷ []) x a = refl
  file_here [] x a = absurd a
  file_here (gone ∷ cs) x a = absurd a
  file_here (long ∷ cs) x a = absurd a
  file_here (unknown ∷ cs) x a = absurd a
  file_here (text bytes ∷ c ∷ cs) x a = absurd a

  module _ (law : IsOneText role Says TextStops) where
    file_one : (answers : List Content) (x y : X) → ReadsFile Says answers x → ReadsFile Says answers y → x ≡ y
    file_one (text bytes ∷ []) x y a b = law.one bytes x y a b
    file_one [] x y a b = absurd a
    file_one (gone ∷ cs) x y a b = absurd a
    file_one (long ∷ cs) x y a b = absurd a
    file_one (unknown ∷ cs) x y a b = absurd a
    file_one (text bytes ∷ c ∷ cs) x y a b = absurd a

    file_apart : (answers : List Content) (x : X) (s : Stop) → ReadsFile Says answers x → StopsFile role TextStops answers s → ⊥
    file_apart (text bytes ∷ []) x s a b = law.apart bytes x s a b
    file_apart [] x s a b = a
    file_apart (gone ∷ cs) x s a b = a
    file_apart (long ∷ cs) x s a b = a
    file_apart (unknown ∷ cs) x s a b = a
    file_apart (text bytes ∷ c ∷ cs) x s a b = a

    file_stop : (answers : List Content) (s t : Stop) → StopsFile role TextStops answers s → StopsFile role TextStops answers t → s ≡ t
    file_stop (text bytes ∷ []) s t a b = law.one_stop bytes s t a b
    file_stop (gone ∷ []) s t a b = same_stop s t (Missed role) a b
    file_stop (long ∷ []) s t a b = same_stop s t (TooLong role) a b
    file_stop (unknown ∷ []) s t a b = absurd a
    file_stop [] s t a b = absurd a
    file_stop (c ∷ d ∷ cs) s t a b = absurd a

    file_missed : (answers : List Content) (s : Stop) → StopsFile role TextStops answers s → has_gone answers ≡ is_missed s
    file_missed (text bytes ∷ []) s a = ap is_missed (sym (law.refused bytes s a).1)
    file_missed (gone ∷ []) s a = ap is_missed (sym a)
    file_missed (long ∷ []) s a = ap is_missed (sym a)
    file_missed (unknown ∷ []) s a = absurd a
    file_missed [] s a = absurd a
    file_missed (c ∷ d ∷ cs) s a = absurd a

    module _ (statuses : List ℕ) (missing : IsAmong statuses read_fault) (over : IsAmong statuses too_long) (refusing : IsAmong statuses (refused_status role)) where
      file_status : (answers : List Content) (s : Stop) → StopsFile role TextStops answers s → IsAmong statuses (stop_status s)
      file_status (text bytes ∷ []) s a = let r = law.refused bytes s a in among statuses s (Refused role r.0) r.1 refusing
      file_status (gone ∷ []) s a = among statuses s (Missed role) a missing
      file_status (long ∷ []) s a = among statuses s (TooLong role) a over
      file_status (unknown ∷ []) s a = absurd a
      file_status [] s a = absurd a
      file_status (c ∷ d ∷ cs) s a = absurd a

      pub file_reading : IsOneReading (ReadsFile Says) (StopsFile role TextStops) statuses
      file_reading = record { one = file_one; apart = file_apart; one_stop = file_stop; here = file_here; missed = file_missed; status = file_status }
