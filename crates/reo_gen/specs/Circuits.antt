-- Circuit texts of stages in a row.
use Rattle.std.specs.Prelude.{ℕ, ◌+◌, ◌-◌, ◌==◌, List, ◌++◌, if◌then◌else◌, codes}
use Rattle.std.specs.List.{flat_map, range_with_len}
use Rattle.reo_gen.specs.Names.{link, output}

-- The type, and the connector that is used over and over: each item goes to one of two buffers.
unfoldable pub stage_text : List ℕ
stage_text =
    codes "type t = int 0..999;\n" ++ codes "connector stage(in a: t, out b: t, out c: t) {\n" ++ codes "  node x: t; node y: t; node k: t; node p: t; node q: t;\n"
    ++ codes "  lossy a x; lossy a y; sync x p; sync x k; sync y q; sync y k; syncdrain a k;\n" ++ codes "  fifo1 p b; fifo1 q c;\n" ++ codes "}\n"

-- An output among the parameters, behind others.
abbrev pub output_text : ℕ → List ℕ
output_text number = codes ", out " ++ output number ++ codes ": t"

-- The first line of main: one input, and outputs from 0 to the number of stages.
abbrev pub head_text : ℕ → List ℕ
head_text stages = codes "connector main(in i: t" ++ flat_map output_text (range_with_len 0 (stages + 1)) ++ codes ") {\n"

-- The line of a node between two stages.
abbrev pub link_line : ℕ → List ℕ
link_line number = codes "  node " ++ link number ++ codes ": t;\n"

-- The node from which a stage takes: the input before the first.
abbrev pub source_of : ℕ → List ℕ
source_of number = if number == 1 then codes "i" else link (number - 1)

-- The node to which a stage gives on: the output 0 behind the last.
abbrev pub sink_of : ℕ → ℕ → List ℕ
sink_of stages number = if number == stages then output 0 else link number

-- The line of a stage: it takes, gives on, and has an output of its own.
abbrev pub use_line : ℕ → ℕ → List ℕ
use_line stages number = codes "  use stage(" ++ source_of number ++ codes ", " ++ sink_of stages number ++ codes ", " ++ output number ++ codes ");\n"

-- The circuit of so many stages in a row.
unfoldable pub circuit_text : ℕ → List ℕ
circuit_text stages =
    stage_text ++ head_text stages ++ flat_map link_line (range_with_len 1 (stages - 1)) ++ flat_map (use_line stages) (range_with_len 1 stages) ++ codes "}\n"
