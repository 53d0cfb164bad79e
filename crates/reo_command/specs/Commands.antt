-- The commands, and their words.
use Rattle.std.specs.Prelude.{ℕ, ◌==◌, ◌&&◌, Bool, true, false, not, List, [], ◌∷◌, Option, find, take, drop, length, codes}
use Rattle.std.specs.Option.{is_some}
use Rattle.std.specs.List.{list_all}
use Rattle.std.specs.Str.{bytes_eq}
use Rattle.reo_command.specs.declared.amount.Amount.{Amount}
use Rattle.reo_command.specs.declared.amount.Amount.TheVariants.{Size}
use Rattle.reo_command.specs.declared.command.Command.{Command}
use Rattle.reo_command.specs.declared.command.Command.TheVariants.{Run, Check, Print, Upgrade, Verify, Bench, Live, Tables, Prove, VerifyProof}
use Rattle.reo_command.specs.declared.role.Role.{Role}
use Rattle.reo_command.specs.declared.role.Role.TheVariants.{Circuit, Script, Trace, Proof}
use Rattle.reo_command.specs.declared.setting.Setting.{Setting}
use Rattle.reo_command.specs.declared.setting.Setting.TheVariants.{Budget, Rounds}
use Rattle.reo_command.specs.Amounts.{are_amounts}
use Rattle.reo_command.specs.Settings.{numbers_of}

-- All commands.
abbrev pub commands : List Command
commands = Run ∷ Check ∷ Print ∷ Upgrade ∷ Verify ∷ Bench ∷ Live ∷ Tables ∷ Prove ∷ VerifyProof ∷ []

-- The first word of a command.
abbrev pub command_word : Command → List ℕ
command_word Run = codes "run"
command_word Check = codes "check"
command_word Print = codes "print"
command_word Upgrade = codes "upgrade"
command_word Verify = codes "verify"
command_word Bench = codes "bench"
command_word Live = codes "live"
command_word Tables = codes "list"
command_word Prove = codes "prove"
command_word VerifyProof = codes "verify-proof"

-- The files that a command fetches, in order.
abbrev pub roles_of : Command → List Role
roles_of Run = Circuit ∷ Script ∷ []
roles_of Check = Circuit ∷ []
roles_of Print = Circuit ∷ []
roles_of Upgrade = Circuit ∷ []
roles_of Verify = Circuit ∷ Script ∷ Trace ∷ []
roles_of Bench = []
roles_of Live = Circuit ∷ []
roles_of Tables = Circuit ∷ []
roles_of Prove = Circuit ∷ Script ∷ []
roles_of VerifyProof = Circuit ∷ Script ∷ Proof ∷ []

-- The amounts that a command is told, in order.
abbrev pub amounts_of : Command → List Amount
amounts_of Run = []
amounts_of Check = []
amounts_of Print = []
amounts_of Upgrade = []
amounts_of Verify = []
amounts_of Bench = Size ∷ []
amounts_of Live = []
amounts_of Tables = []
amounts_of Prove = []
amounts_of VerifyProof = []

-- The options of a command, in order.
abbrev pub settings_of : Command → List Setting
settings_of Run = Budget ∷ Rounds ∷ []
settings_of Check = []
settings_of Print = []
settings_of Upgrade = []
settings_of Verify = []
settings_of Bench = []
settings_of Live = Budget ∷ []
settings_of Tables = []
settings_of Prove = []
settings_of VerifyProof = []

-- Whether what a command writes is free by its definition: then only its status is exact.
abbrev pub is_free : Command → Bool
is_free Run = false
is_free Check = false
is_free Print = false
is_free Upgrade = false
is_free Verify = false
is_free Bench = false
is_free Live = false
is_free Tables = false
is_free Prove = true
is_free VerifyProof = false

-- Whether a command takes its events from the source.
abbrev pub takes_events : Command → Bool
takes_events Run = false
takes_events Check = false
takes_events Print = false
takes_events Upgrade = false
takes_events Verify = false
takes_events Bench = false
takes_events Live = true
takes_events Tables = false
takes_events Prove = false
takes_events VerifyProof = false

-- None of these words is empty.
abbrev pub none_empty : List (List ℕ) → Bool
none_empty words = list_all (λ (word : List ℕ). not (length word == 0)) words

-- So many names, none of them empty.
abbrev pub are_names : ℕ → List (List ℕ) → Bool
are_names count names = (length names == count) && none_empty names

-- These amounts, and these options.
abbrev pub are_numbers : List Amount → List Setting → List (List ℕ) → Bool
are_numbers amounts settings others = are_amounts amounts others && is_some (numbers_of settings (drop (length amounts) others))

-- So many names, these amounts, and these options.
abbrev pub follows : ℕ → List Amount → List Setting → List (List ℕ) → Bool
follows count amounts settings others = are_names count (take count others) && are_numbers amounts settings (drop count others)

-- The words are this one, so many names, these amounts, and these options.
abbrev pub is_form : List ℕ → ℕ → List Amount → List Setting → List (List ℕ) → Bool
is_form word count amounts settings [] = false
is_form word count amounts settings (first ∷ others) = bytes_eq first word && follows count amounts settings others

-- The words of a command: its own, a name for each of its files, its amounts, and its options.
abbrev pub fits : List (List ℕ) → Command → Bool
fits words command = is_form (command_word command) (length (roles_of command)) (amounts_of command) (settings_of command) words

-- The command of some words, or none where they have no form.
abbrev pub command_of : List (List ℕ) → Option Command
command_of words = find (fits words) commands

-- The words behind the first.
abbrev pub others_of : List (List ℕ) → List (List ℕ)
others_of words = drop 1 words

-- The names of the files.
abbrev pub names_of : Command → List (List ℕ) → List (List ℕ)
names_of command words = take (length (roles_of command)) (others_of words)

-- The words behind the names.
abbrev pub behind_names : Command → List (List ℕ) → List (List ℕ)
behind_names command words = drop (length (roles_of command)) (others_of words)

-- The numbers of the options, in order, or none where the words behind the amounts are not these.
abbrev pub numbers_in : Command → List (List ℕ) → Option (List ℕ)
numbers_in command words = numbers_of (settings_of command) (drop (length (amounts_of command)) (behind_names command words))
