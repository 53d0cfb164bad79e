-- What a key of forms tells.
use Rattle.std.specs.Prelude.{ℕ, ◌+◌, ◌<◌, ◌≡◌, Bool, true, length}
use Rattle.reo_net_base.specs.declared.form.Form.{Form}
use Rattle.reo_net_base.specs.Net.{Net, behaviour_at, first_side}
use Rattle.reo_net_base.specs.Forms.{HasForm, number_in}
use Rattle.reo_net_base.specs.SameTables.{HaveOneRest}
use Rattle.reo_net_base.specs.Shapes.{SameShapes}
use Rattle.reo_net_laws.specs.state_laws.States.{HaveSameTables}

-- Forms of the sides of a set, by the numbers of the sides.
abbrev pub HaveForms : Net → (ℕ → Bool) → (ℕ → Form) → Type 0
HaveForms net inside forms = (i side : ℕ) → i < length net.primitives → side < (behaviour_at net.primitives i).sides
    → inside (first_side net.primitives i + side) ≡ true
    → HasForm (forms (first_side net.primitives i + side)) (behaviour_at net.primitives i) side

-- Forms of the same numbers at the sides of a set.
abbrev pub HaveOneKey : (ℕ → Bool) → (ℕ → Form) → (ℕ → Form) → Type 0
HaveOneKey inside forms others = (k : ℕ) → inside k ≡ true → number_in (forms k) ≡ number_in (others k)

-- Rounds in which the classes at the sides of a set are the same.
abbrev pub HaveOneRestIn : (ℕ → Bool) → (ℕ → Form) → ℕ → ℕ → Type 0
HaveOneRestIn inside forms turn later = (k : ℕ) → inside k ≡ true → HaveOneRest (forms k) turn later

-- Circuits of one shape whose sides in a set have forms of the same numbers have the same tables there, in rounds in
-- which the classes are the same.
abbrev pub OneKeySameTables : Type 0
OneKeySameTables = (net other : Net) → SameShapes net.primitives other.primitives → other.joints ≡ net.joints
    → (inside : ℕ → Bool) (forms others : ℕ → Form) → HaveForms net inside forms → HaveForms other inside others
    → HaveOneKey inside forms others → (turn later : ℕ) → HaveOneRestIn inside forms turn later
    → HaveSameTables turn later net other inside
