-- Where an item ends: at the first space outside quotes.
use Rattle.std.specs.Prelude.{ℕ, zero, suc, ◌==◌, ◌&&◌, Bool, true, false, List, [], ◌∷◌, if◌then◌else◌}
use Rattle.reo_values.specs.Bytes.{quote, backslash}
use Rattle.reo_trace_reader.specs.declared.item.Spot.{Spot}
use Rattle.reo_trace_reader.specs.declared.item.Spot.TheVariants.{Outside, Inside, Escaped}

-- The spot after a byte: a quote opens and closes, and a backslash inside takes the next byte's meaning.
abbrev pub after : Spot → ℕ → Spot
after Outside byte = if byte == quote then Inside else Outside
after Inside byte = if byte == quote then Outside else (if byte == backslash then Escaped else Inside)
after Escaped byte = Inside

abbrev pub is_outside : Spot → Bool
is_outside Outside = true
is_outside Inside = false
is_outside Escaped = false

-- How many bytes come before the first space outside quotes.
abbrev pub bytes_of_item : Spot → List ℕ → ℕ
bytes_of_item spot [] = zero
bytes_of_item spot (byte ∷ bytes) = if is_outside spot && (byte == 32) then zero else suc (bytes_of_item (after spot byte) bytes)
