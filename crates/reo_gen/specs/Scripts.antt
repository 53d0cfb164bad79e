-- Script texts for stages in a row.
use Rattle.std.specs.Prelude.{ℕ, ◌+◌, List, ◌++◌, codes}
use Rattle.std.specs.Fmt.{decimal}
use Rattle.std.specs.List.{flat_map, range_with_len}
use Rattle.reo_gen.specs.Names.{numbered, output}

-- A write of a number at the input.
abbrev pub write_text : ℕ → List ℕ
write_text item = codes "write i " ++ decimal item ++ codes "; "

-- The component that writes the numbers below twenty.
unfoldable pub writer_line : List ℕ
writer_line = codes "component w { " ++ flat_map write_text (range_with_len 0 20) ++ codes "}\n"

-- The component that takes a thousand items at an output.
abbrev pub taker_line : ℕ → List ℕ
taker_line number = codes "component " ++ numbered (codes "t") number ++ codes " { repeat 1000 { take " ++ output number ++ codes "; } }\n"

-- The script for a circuit of so many stages.
unfoldable pub script_text : ℕ → List ℕ
script_text stages = writer_line ++ flat_map taker_line (range_with_len 0 (stages + 1))
