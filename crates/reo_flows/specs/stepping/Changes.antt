-- Which primitives are marked, by what flowed.
use Rattle.std.specs.Prelude.{ℕ, ◌<◌, ◌≡◌, ◌↔◌, Bool, true, false, IsTrue, List, length, slice_index_or}
use Rattle.reo_net_base.specs.declared.mark.Mark.TheVariants.{F}
use Rattle.reo_net_base.specs.Behaviour.{Behaviour}
use Rattle.reo_net_base.specs.Lasting.{Lasting}
use Rattle.reo_net_base.specs.Net.{Net, Wiring, net_of, behaviour_at, mark_at, end_of}

-- Some end of a primitive flows.
pub record HasFlow (net : Net) (rows : List ℕ) (primitive : ℕ) : Type 0 where
  pub end : ℕ
  pub is_end : end < (behaviour_at net.primitives primitive).ends
  pub flows : mark_at net rows (end_of primitive end) ≡ F

-- The mark of a primitive; one that there is not has none.
abbrev pub is_changed : List Bool → ℕ → Bool
is_changed marks primitive = slice_index_or marks primitive false

-- After a round exactly those primitives are marked of which some end flowed.
pub record AreThoseThatFlowed (net : Net) (rows : List ℕ) (marks : List Bool) : Type 0 where
  pub one_each : length marks ≡ length net.primitives
  pub each : (i : ℕ) → i < length net.primitives → IsTrue (is_changed marks i) ↔ HasFlow net rows i

-- Each primitive that keeps something and of which some end flows is marked. Others may be marked too.
pub record CoverChanges {P : Type 0} (behaviour : P → Behaviour) (lasting : P → Lasting) (w : Wiring P) (rows : List ℕ) (marks : List Bool) : Type 0 where
  pub one_each : length marks ≡ length w.primitives
  pub each : (i : ℕ) (d : P) → i < length w.primitives → (lasting (slice_index_or w.primitives i d)).keeps ≡ true
      → HasFlow (net_of behaviour w) rows i → IsTrue (is_changed marks i)
