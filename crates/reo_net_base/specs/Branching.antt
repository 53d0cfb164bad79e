-- The tables of mergers and replicators, which have a size.
use Rattle.std.specs.Prelude.{ℕ, ◌+◌, ◌-◌, ◌%◌, ◌==◌, cond, nat_lt, Option, Some, None}
use Rattle.reo_net_base.specs.declared.mark.Mark.{Mark}
use Rattle.reo_net_base.specs.declared.mark.Mark.TheVariants.{F, G, R, J}

-- The marks of the inputs and of the output of a merger with so many inputs.
abbrev pub inputs_and_output : ℕ → Mark → Mark → ℕ → Mark
inputs_and_output m input output end = cond (nat_lt end m) input output

-- Merger (inputs, output): row i below the number m of inputs: input i and the output F, other inputs G;
-- row m: inputs G, output R; row m + 1: inputs R, output G.
abbrev pub merger_mark : ℕ → ℕ → ℕ → Mark
merger_mark m row end =
    cond (nat_lt row m) (inputs_and_output m (cond (end == row) F G) F end)
    (cond (row == m) (inputs_and_output m G R end)
    (cond (row == m + 1) (inputs_and_output m R G end) J))

-- The input with which a merger begins in the round of this number.
abbrev pub beginning : ℕ → ℕ → ℕ
beginning m turn = (turn - 1) % m

-- The inputs are tried in turn, from the one with which the merger begins.
abbrev pub merger_class : ℕ → ℕ → ℕ → ℕ
merger_class m row turn = cond (nat_lt row m) ((row + m - beginning m turn) % m) (cond (nat_lt row (m + 2)) m (m + 1))

-- The rows by which an input flows are one group: all inputs G but one, the output F.
abbrev pub merger_group : ℕ → ℕ → ℕ
merger_group m row = cond (nat_lt row m) 0 (cond (row == m) 1 (cond (row == m + 1) 2 3))

abbrev pub merger_common : ℕ → ℕ → ℕ → Mark
merger_common m group end =
    cond (group == 0) (inputs_and_output m G F end)
    (cond (group == 1) (inputs_and_output m G R end)
    (cond (group == 2) (inputs_and_output m R G end) J))

abbrev pub merger_apart : ℕ → ℕ → Option ℕ
merger_apart m row = cond (nat_lt row m) (Some row) None

-- The marks of the input and of the outputs of a replicator.
abbrev pub input_and_outputs : Mark → Mark → ℕ → Mark
input_and_outputs input outputs end = cond (end == 0) input outputs

-- Replicator (input, outputs): row 0: all F; row 1: input R, outputs G; row 2 + i, for output i below their number n:
-- output i R, all others G. Output i is end 1 + i.
abbrev pub replicator_mark : ℕ → ℕ → ℕ → Mark
replicator_mark n row end =
    cond (row == 0) F
    (cond (row == 1) (input_and_outputs R G end)
    (cond (nat_lt row (n + 2)) (cond (end + 1 == row) R G) J))

abbrev pub replicator_class : ℕ → ℕ → ℕ
replicator_class n row = cond (row == 0) 0 (cond (nat_lt row (n + 2)) 1 2)

-- The rows by which an output gives no reason are one group: all ends G but one.
abbrev pub replicator_group : ℕ → ℕ → ℕ
replicator_group n row = cond (nat_lt row 2) row (cond (nat_lt row (n + 2)) 2 3)

abbrev pub replicator_common : ℕ → ℕ → Mark
replicator_common group end =
    cond (group == 0) F (cond (group == 1) (input_and_outputs R G end) (cond (group == 2) G J))

abbrev pub replicator_apart : ℕ → ℕ → Option ℕ
replicator_apart n row = cond (nat_lt row 2) None (cond (nat_lt row (n + 2)) (Some (row - 1)) None)
