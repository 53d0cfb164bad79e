-- What a reader of items owes.
use Rattle.std.specs.Prelude.{ℕ, ◌≡◌, ◌⊎◌, ◌++◌, List, [], ◌∷◌, Result, Ok, Err}
use Rattle.std.specs.List.{All}
use Rattle.reo_values.specs.declared.fault.ReadFault.{ReadFault}
use Rattle.reo_values.specs.declared.fault.ReadFault.TheVariants as fault
use Rattle.reo_values.specs.declared.value.Value.{Value}
use Rattle.reo_values.specs.declared.kindred.Kindred as kindred
use Rattle.reo_values.specs.declared.kindred.Kindred.{Kindred}
use Rattle.reo_values.specs.Bytes.{comma, closing}
use Rattle.reo_values.specs.Kind.{IsIn}
use Rattle.reo_values.specs.ItemText.{text_of}

-- a byte that ends a word: a comma or a closing parenthesis
abbrev pub IsEnd : ℕ → Type 0
IsEnd byte = (byte ≡ comma) ⊎ (byte ≡ closing)

-- what may come after a word: nothing, or a byte that ends it
abbrev pub Ends : List ℕ → Type 0
Ends [] = Unit {0}
Ends (byte ∷ bytes) = IsEnd byte

-- a word has no byte in it that ends one
abbrev pub IsWord : List ℕ → Type 0
IsWord word = All (λ byte. ¬ IsEnd byte) word

-- the text of an item of the type is one word
abbrev pub HasWords : Kindred → Type 0
HasWords kindred.Unit = Unit {0}
HasWords kindred.Bool = Unit {0}
HasWords (kindred.Int low high) = Unit {0}
HasWords (kindred.Sym names) = Unit {0}
HasWords _ = ⊥

-- the reader answered x and left this rest, or found no memory
abbrev pub Reads : {X : Type 0} → Result X ReadFault → List ℕ → X → List ℕ → Type 0
Reads (Ok found) left x rest = (found ≡ x) × (left ≡ rest)
Reads (Err fault.NotALiteral) left x rest = ⊥
Reads (Err fault.NoMemory) left x rest = Unit {0}

-- an item at the front of a text is read, whichever it is, and what comes after it is left
abbrev pub ReadsAgain : Result Value ReadFault → List ℕ → List ℕ → Kindred → Type 0
ReadsAgain result text left kindred =
    (item : Value) (rest : List ℕ) → IsIn item kindred → Ends rest → text ≡ text_of item kindred ++ rest → Reads result left item rest
