-- What a reader of a part of a line owes.
use Rattle.std.specs.Prelude.{ℕ, ◌≡◌, List, ◌∷◌, ◌++◌, Option, Some, None, codes}
use Rattle.std.specs.Fmt.{decimal}
use Rattle.reo_values.specs.decimals.Digits.{IsSmall, NoDigit}
use Rattle.reo_joint_values.specs.declared.value.JointValue.{JointValue}
use Rattle.reo_refute_base.specs.declared.line.LogLine.{LogLine}
use Rattle.reo_refute_base.specs.declared.line.LogLine.TheVariants.{Drop}
use Rattle.reo_refute_base.specs.Texts.{IsNumbered, line_text, value_words}

-- What stood in front was read, and the rest is left; or nothing of the kind stood there.
abbrev pub Finds : {X : Type 0} → (X → Type 0) → (X → List ℕ) → Option X → List ℕ → List ℕ → Type 0
Finds {X = X} Is text None old new = (x : X) (rest : List ℕ) → Is x → old ≡ text x ++ rest → ⊥
Finds Is text (Some x) old new = Is x × (old ≡ text x ++ new)

-- The number that stood in front, as far as there are digits; or none stood there.
abbrev pub FindsNumber : Option ℕ → List ℕ → List ℕ → Type 0
FindsNumber None old new = (n : ℕ) (rest : List ℕ) → IsSmall n → NoDigit rest → old ≡ decimal n ++ rest → ⊥
FindsNumber (Some n) old new = IsSmall n × NoDigit new × (old ≡ decimal n ++ new)

-- What stands behind `drop ` in a line.
abbrev pub dropped_text : ℕ → JointValue → ℕ → List ℕ → List ℕ
dropped_text j v side rest = decimal j ++ (32 ∷ (value_words v ++ (32 ∷ (decimal side ++ (10 ∷ rest)))))

-- The rest of a line that begins with `drop ` was read; or none stood there.
abbrev pub FindsDrop : Option LogLine → List ℕ → List ℕ → Type 0
FindsDrop None old new = (j : ℕ) (v : JointValue) (side : ℕ) (rest : List ℕ)
    → IsNumbered (Drop j v side) → old ≡ dropped_text j v side rest → ⊥
FindsDrop (Some line) old new = IsNumbered line × (codes "drop " ++ old ≡ line_text line ++ new)
