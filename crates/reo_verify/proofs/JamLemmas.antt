-- How many cells are the jam row.
use Rattle.std.proofs.Common.{◌≡◌, ◌∙◌, ℕ, suc, ◌+◌, ◌<◌, ◌≤◌, ◌^◌, cond, List, [], ◌∷◌, ◌++◌, length, take, drop, refl, ap, arith, length-append}
use Rattle.std.proofs.lemmas.Grind.{flat_map-append}
use Rattle.std.proofs.lemmas.List.Sums.{sum_by-append}
use Rattle.std.specs.List.{count_by, flat_map}
use Rattle.std.specs.Fmt.{decimal}
use Rattle.std.specs.Prelude.{Some, slice_get, codes}
use Rattle.reo_values.proofs.Sequences.{cut_at}
use Rattle.reo_net_base.specs.declared.port.Port.{Port}
use Rattle.reo_trace.specs.declared.line.Cell.{Cell}
use Rattle.reo_trace.specs.declared.line.Cell.TheVariants.{Row, Jam}
use Rattle.reo_trace.specs.declared.line.Entry.{Entry}
use Rattle.reo_trace.specs.declared.line.Entry.TheVariants.{One, Two}
use Rattle.reo_trace.specs.declared.line.RoundLine.{RoundLine}
use Rattle.reo_trace.specs.EndingText.{ending_text}
use Rattle.reo_trace.specs.RoundText.{round_text, entry_text, cell_text, moves_text}
use Rattle.reo_trace.specs.Spaced.{spaced}
use Rattle.reo_trace.specs.TraceText.{rounds_text}
use Rattle.reo_trace_reader.specs.declared.texts.trace.Trace.{Trace}
use Rattle.reo_runs.specs.verdicts.Said.{cells_of, is_jam, jammed}
use Rattle.reo_runs.specs.verdicts.Replays.{HasText}
use Rattle.reo_verify.proofs.judging.Cuts.{take_one_more}

abbrev pub jams_in : Entry → ℕ
jams_in e = count_by is_jam (cells_of e)

abbrev pub jams_of : List Entry → ℕ
jams_of es = count_by is_jam (flat_map cells_of es)

abbrev entries_in : List RoundLine → List Entry
entries_in lines = flat_map (λ (line : RoundLine). line.entries) lines

jams_cons : (e : Entry) (es : List Entry) → jams_of (e ∷ es) ≡ jams_in e + jams_of es
jams_cons e es = sum_by-append (λ c. cond (is_jam c) 1 0) (cells_of e) (flat_map cells_of es)

jams_append : (es fs : List Entry) → jams_of (es ++ fs) ≡ jams_of es + jams_of fs
jams_append es fs =
    ap (λ (cs : List Cell). count_by is_jam cs) (flat_map-append cells_of es fs) ∙ sum_by-append (λ c. cond (is_jam c) 1 0) (flat_map cells_of es) (flat_map cells_of fs)

pub jams_cut : (es : List Entry) (i : ℕ) (e : Entry) → slice_get es i ≡ Some e → jams_of es ≡ jams_of (take i es) + (jams_in e + jams_of (drop (suc i) es))
jams_cut es i e is = ap (λ (fs : List Entry). jams_of fs) (cut_at es i e is) ∙ jams_append (take i es) (e ∷ drop (suc i) es) ∙ ap (λ n. jams_of (take i es) + n) (jams_cons e (drop (suc i) es))

pub jams_more : (es : List Entry) (i : ℕ) (e : Entry) → slice_get es i ≡ Some e → jams_of (take (suc i) es) ≡ jams_of (take i es) + jams_in e
jams_more es i e is =
    let all : jams_of (take (suc i) es) ≡ jams_of (take i es) + jams_of (e ∷ []) = ap (λ (fs : List Entry). jams_of fs) (take_one_more es i e is) ∙ jams_append (take i es) (e ∷ []) in
    let one : jams_of (e ∷ []) ≡ jams_in e + jams_of [] = jams_cons e [] in
    let none : jams_of [] ≡ 0 = refl in omega (arith, all, one, none)

jammed_cons : (line : RoundLine) (lines : List RoundLine) → jammed (line ∷ lines) ≡ jams_of line.entries + jammed lines
jammed_cons line lines = jams_append line.entries (entries_in lines)

jammed_append : (lines others : List RoundLine) → jammed (lines ++ others) ≡ jammed lines + jammed others
jammed_append lines others = ap (λ (es : List Entry). jams_of es) (flat_map-append (λ (line : RoundLine). line.entries) lines others) ∙ jams_append (entries_in lines) (entries_in others)

-- With those of one line behind others.
pub jammed_behind : (done : List RoundLine) (line : RoundLine) (left : List RoundLine) → jammed (done ++ line ∷ left) ≡ jammed done + (jams_of line.entries + jammed left)
jammed_behind done line left = jammed_append done (line ∷ left) ∙ ap (λ n. jammed done + n) (jammed_cons line left)

pub jammed_more : (done : List RoundLine) (line : RoundLine) → jammed (done ++ line ∷ []) ≡ jammed done + jams_of line.entries
jammed_more done line = let none : jammed [] ≡ 0 = refl in omega (arith, jammed_behind done line [], none)

-- Each such cell has a letter in the text.
cell_le : (c : Cell) → cond (is_jam c) 1 0 ≤ length (cell_text c)
cell_le (Row row) = omega arith
cell_le Jam = omega arith

entry_le : (e : Entry) → jams_in e ≤ length (entry_text e)
unfolding entry_text
entry_le (One cell) = omega (arith, cell_le cell)
entry_le (Two mouth tail) =
    omega (arith, cell_le mouth, cell_le tail, length-append (cell_text mouth) (codes "." ++ cell_text tail), length-append (codes ".") (cell_text tail))

entries_le : (es : List Entry) → jams_of es ≤ length (spaced entry_text es)
entries_le [] = omega arith
entries_le (e ∷ []) = let none : jams_of [] ≡ 0 = refl in omega (arith, jams_cons e [], none, entry_le e)
entries_le (e ∷ f ∷ es) = omega (arith, jams_cons e (f ∷ es), entry_le e, entries_le (f ∷ es), length-append (entry_text e) (32 ∷ spaced entry_text (f ∷ es)))

tail_le : (a b : List ℕ) → length b ≤ length (a ++ b)
tail_le a b = omega (arith, length-append a b)

line_le : (ports : List Port) (line : RoundLine) → jams_of line.entries ≤ length (round_text ports line)
unfolding round_text
line_le ports line =
    let entries : List ℕ = spaced entry_text line.entries ++ codes "\n" in
    let bar : List ℕ = codes " | " ++ entries in
    let moves : List ℕ = moves_text ports line.idle line.moves ++ bar in
    let colon : List ℕ = codes ": " ++ moves in
    let number : List ℕ = decimal line.round ++ colon in
    omega (arith, entries_le line.entries, length-append (spaced entry_text line.entries) (codes "\n"), tail_le (codes " | ") entries, tail_le (moves_text ports line.idle line.moves) bar, tail_le (codes ": ") moves, tail_le (decimal line.round) colon, tail_le (codes "round ") number)

lines_le : (ports : List Port) (lines : List RoundLine) → jammed lines ≤ length (rounds_text ports lines)
lines_le ports [] = omega arith
lines_le ports (line ∷ lines) = omega (arith, jammed_cons line lines, line_le ports line, lines_le ports lines, length-append (round_text ports line) (rounds_text ports lines))

-- So there are few of them.
pub few_jams : (ports : List Port) (t : Trace) → HasText ports t → jammed t.rounds < 2 ^ 63
few_jams ports t has =
    let whole : length has.text ≡ length (rounds_text ports t.rounds ++ ending_text t.ending) = ap (λ (ts : List ℕ). length ts) has.is_text.text_is in
    omega (arith, whole, has.short, lines_le ports t.rounds, length-append (rounds_text ports t.rounds) (ending_text t.ending))
