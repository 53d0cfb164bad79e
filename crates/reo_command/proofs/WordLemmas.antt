-- The names in words of a command.
use Rattle.std.proofs.Common.{◌≡◌, ◌∙◌, ℕ, Bool, true, false, cond, List, [], ◌∷◌, length, take, drop, sym, ap, refl, arith}
use Rattle.std.proofs.lemmas.Bool.Decides.{nat_tests}
use Rattle.std.specs.Prelude.{Option, Some, None, find, ◌&&◌, ◌==◌}
use Rattle.reo_command.specs.declared.amount.Amount.{Amount}
use Rattle.reo_command.specs.declared.command.Command.{Command}
use Rattle.reo_command.specs.declared.setting.Setting.{Setting}
use Rattle.reo_command.specs.Commands.{command_of, command_word, commands, names_of, is_form, fits, roles_of, amounts_of, settings_of}

no : false ≡ true → ⊥
no e = cc

second : (a b c d : Bool) → (a && ((b && c) && d)) ≡ true → b ≡ true
second true true c d h = refl
second true false c d h = h
second false b c d h = absurd (no h)

form_length : (word : List ℕ) (count : ℕ) (amounts : List Amount) (settings : List Setting) (words : List (List ℕ)) → is_form word count amounts settings words ≡ true → length (take count (drop 1 words)) ≡ count
form_length word count amounts settings [] is = absurd (no is)
form_length word count amounts settings (first ∷ others) is = let same : (length (take count others) == count) ≡ true = second _ (length (take count others) == count) _ _ is in grind (arith, nat_tests)

-- The command of some words fits them.
command_is : (a b : Command) (x y : Option Command) → x ≡ Some a → y ≡ Some b → x ≡ y → a ≡ b
command_is a b x y of_x of_y e = cc

none_is_some : (b : Command) (x y : Option Command) → x ≡ None → y ≡ Some b → x ≡ y → ⊥
none_is_some b x y of_x of_y e = cc

-- The first that passes is this one, or some later one.
split : (test : Command → Bool) (c command : Command) (later : Option Command) (b : Bool) → test c ≡ b → (later ≡ Some command → test command ≡ true)
    → cond b (Some c) later ≡ Some command → test command ≡ true
split test c command later true is rest here = ap test (sym (command_is c command (Some c) (Some command) refl refl here)) ∙ is
split test c command later false is rest here = rest here

found : (test : Command → Bool) (cs : List Command) (command : Command) → find test cs ≡ Some command → test command ≡ true
found test [] command is = absurd (none_is_some command None (Some command) refl refl is)
found test (c ∷ cs) command is = split test c command (find test cs) (test c) refl (λ here. found test cs command here) is

fit_is : (words : List (List ℕ)) (command : Command) → command_of words ≡ Some command → fits words command ≡ true
fit_is words command is = found (fits words) commands command is

-- A command has a name for each of its files.
pub names_fit : (words : List (List ℕ)) (command : Command) → command_of words ≡ Some command → length (names_of command words) ≡ length (roles_of command)
names_fit words command is = form_length (command_word command) (length (roles_of command)) (amounts_of command) (settings_of command) words (fit_is words command is)
