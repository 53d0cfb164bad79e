-- Sides with the same table.
use Rattle.std.specs.Prelude.{ℕ, ◌-◌, ◌%◌, ◌<◌, ◌≡◌}
use Rattle.reo_net_base.specs.declared.form.Form.{Form}
use Rattle.reo_net_base.specs.Behaviour.{Behaviour, IsEndOf}
use Rattle.reo_net_base.specs.Forms.{HasForm, number_in, period_in}

-- A side with the same table, and with the same classes in the rounds of two numbers. Nothing is said of items.
pub record SameTable (turn later : ℕ) (b d : Behaviour) (side : ℕ) : Type 0 where
  pub rows : d.rows side ≡ b.rows side
  pub mark : (row end : ℕ) → row < b.rows side → IsEndOf b side end
      → d.mark side row end ≡ b.mark side row end
  pub class : (row : ℕ) → row < b.rows side → d.class side row later ≡ b.class side row turn

-- Rounds by whose numbers the classes of a form are the same.
abbrev pub HaveOneRest : Form → ℕ → ℕ → Type 0
HaveOneRest form turn later = (turn - 1) % period_in form ≡ (later - 1) % period_in form

-- Sides of two forms of one number have the same table, in rounds in which the classes of the form are the same.
abbrev pub OneNumberOneTable : Type 0
OneNumberOneTable = (form other : Form) → number_in form ≡ number_in other
    → (turn later : ℕ) → HaveOneRest form turn later
    → (b d : Behaviour) (side : ℕ) → HasForm form b side → HasForm other d side
    → SameTable turn later b d side
