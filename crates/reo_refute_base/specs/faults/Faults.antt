-- What is answered for a log.
use Rattle.std.specs.Prelude.{ℕ, ◌≡◌, ◌≢◌, ◌⊎◌, List, Option}
use Rattle.reo_values.specs.declared.value.Value.{Value}
use Rattle.reo_net_base.specs.Net.{Net}
use Rattle.reo_net_base.specs.Colouring.{RowsFit, IsColouring, IsFilled}
use Rattle.reo_net_base.specs.Wired.{IsWired, IsOrder}
use Rattle.reo_checker.specs.declared.wrong.Wrong.{Wrong}
use Rattle.reo_checker.specs.Faults.{AreWrongRows, IsWrong}
use Rattle.reo_refute_base.specs.RightTexts.{IsRightText, IsWrongLine}
use Rattle.reo_refute_base.specs.Wide.{IsWide}
use Rattle.reo_refute_base.specs.declared.faults.fault.ProofFault.{ProofFault}
use Rattle.reo_refute_base.specs.declared.faults.fault.ProofFault.TheVariants.{Colouring, Wide, Line, NoMemory}

-- The rows are those of a colouring.
abbrev pub HasColouring : Net → List ℕ → Type 0
HasColouring net rows = (items : List (Option Value)) × IsColouring net rows items

-- What is wrong with items that rows which fit determine.
pub record AreWrongItems (net : Net) (rows : List ℕ) (wrong : Wrong) : Type 0 where
  pub rows_fit : RowsFit net rows
  pub items : List (Option Value)
  pub filled : IsFilled net rows items
  pub is_wrong : IsWrong net rows items wrong

-- What is wrong first with rows, or with the items that they determine.
abbrev pub AreNoColouring : Net → List ℕ → Wrong → Type 0
AreNoColouring net rows wrong = AreWrongRows net rows wrong ⊎ AreWrongItems net rows wrong

-- The text is that of a right log for rows of a colouring of a circuit that is not wide.
pub record IsProof (net : Net) (turn : ℕ) (rows log : List ℕ) : Type 0 where
  pub colouring : HasColouring net rows
  pub narrow : IsWide net → ⊥
  pub right : IsRightText net turn rows log

-- Why it is not, in the order of the causes.
abbrev pub IsProofFault : Net → ℕ → List ℕ → List ℕ → ProofFault → Type 0
IsProofFault net turn rows log (Colouring wrong) = AreNoColouring net rows wrong
IsProofFault net turn rows log Wide = HasColouring net rows × IsWide net
IsProofFault net turn rows log (Line line) =
    HasColouring net rows × (IsWide net → ⊥) × IsWrongLine net turn rows log line
IsProofFault net turn rows log NoMemory = Unit {0}

-- A log that is accepted has no fault.
abbrev pub ProofOrFault : Type 0
ProofOrFault = (net : Net) → IsWired net → (order : List ℕ) → IsOrder net order
    → (turn : ℕ) (rows log : List ℕ) (fault : ProofFault) → fault ≢ NoMemory
    → IsProof net turn rows log → IsProofFault net turn rows log fault → ⊥

-- A log has one fault at most.
abbrev pub OneFault : Type 0
OneFault = (net : Net) → IsWired net → (order : List ℕ) → IsOrder net order
    → (turn : ℕ) (rows log : List ℕ) (a b : ProofFault) → a ≢ NoMemory → b ≢ NoMemory
    → IsProofFault net turn rows log a → IsProofFault net turn rows log b → a ≡ b
