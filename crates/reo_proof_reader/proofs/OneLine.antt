-- The text of a round line, and that of an ending, has one line feed, at its end.
use Rattle.std.proofs.Common.{◌≡◌, ◌==◌, ◌&&◌, not, Bool, true, false, ◌<◌, ◌+◌, ◌%◌, ◌^◌, ℕ, ℤ, pos, negsuc, suc, List, [], ◌∷◌, ◌++◌, refl, sym, subst, append_assoc, arith}
use Rattle.std.specs.Prelude.{codes, FitsSigned, ◌||◌, if◌then◌else◌}
use Rattle.std.specs.Int.{w64}
use Rattle.std.specs.Fmt.{decimal, signed_decimal}
use Rattle.std.specs.List.{All, flat_map}
use Rattle.std.proofs.lemmas.Fmt.{decimal_by_steps}
use Rattle.std.proofs.lemmas.List.Elements.{All-nil, All-cons, All-head, All-tail, All-push, All-append, All-weaker, All-get_or}
use denote.Hole.Carrier.{hidden}
use Rattle.reo_values.specs.declared.value.Value.TheBlock.{hidden-the_row-Couple-0}
use Rattle.reo_values.specs.declared.kindred.Kindred.TheBlock.{hidden-the_row-Twins-0}
use Rattle.reo_values.specs.declared.kindred.Kindred as kindred
use Rattle.reo_values.specs.declared.kindred.Twins.{Twins}
use Rattle.reo_values.specs.declared.value.Value.{Value}
use Rattle.reo_values.specs.declared.kindred.Kindred.{Kindred}
use Rattle.reo_values.specs.declared.value.Value.TheVariants as values
use Rattle.reo_values.specs.declared.kindred.Kindred.TheVariants as kinds
use Rattle.reo_values.specs.ItemText.{escape, quoted, text_of}
use Rattle.reo_values.specs.Kind.{IsPlain, IsIn}
use Rattle.reo_values.specs.Names.{IsName, IsNameByte}
use Rattle.reo_values.specs.Valid.{IsValid}
use Rattle.reo_values.proofs.Members.{in_unit, in_bool, in_int, in_sym, in_text, in_pair}
use Rattle.reo_values.proofs.Numbers.{mag_small, fits_between}
use Rattle.reo_values.proofs.Pairs.{text_of-Pair}
use Rattle.reo_values.specs.decimals.Digits.{IsSmall}
use Rattle.reo_net_base.specs.declared.colouring.Move.{Move}
use Rattle.reo_net_base.specs.declared.port.Port.{Port}
use Rattle.reo_net_base.specs.declared.port.Way.{Way}
use Rattle.reo_net_base.specs.declared.port.Way.TheVariants.{In, Out}
use Rattle.reo_trace.specs.declared.line.Cell.{Cell}
use Rattle.reo_trace.specs.declared.line.Cell.TheVariants.{Row, Jam}
use Rattle.reo_trace.specs.declared.line.Entry.{Entry}
use Rattle.reo_trace.specs.declared.line.Entry.TheVariants.{One, Two}
use Rattle.reo_trace.specs.declared.line.RoundLine.{RoundLine}
use Rattle.reo_trace.specs.declared.line.Ending.{Ending}
use Rattle.reo_trace.specs.declared.line.Ending.TheVariants.{Done, Stuck, Limit, Spent, Wide}
use Rattle.reo_trace.specs.EndingText.{ending_text}
use Rattle.reo_trace.specs.RoundText.{sign_of, flow_text, move_text, moves_text, cell_text, entry_text, round_text}
use Rattle.reo_trace.specs.Spaced.{spaced}
use Rattle.reo_trace_reader.specs.texts.Lines.{AreTold, IsCell, IsEntry, IsMove, IsLine, IsEnding}
use Rattle.reo_trace_reader.proofs.texts.Moves.{bytes_of-name, name_at, kindred_at}
use Rattle.reo_proof_texts.specs.Cuts.{IsInLine}

abbrev pub AreInLine : List ℕ → Type 0
AreInLine bytes = All IsInLine bytes

nil : AreInLine []
nil = All-nil IsInLine

and_then : (xs ys : List ℕ) → AreInLine xs → AreInLine ys → AreInLine (xs ++ ys)
and_then xs ys p q = All-append IsInLine xs ys p q

abbrev is_in_line : List ℕ → Bool
is_in_line [] = true
is_in_line (byte ∷ bytes) = not (byte == 10) && is_in_line bytes

head_told : (byte : ℕ) (bytes : List ℕ) → is_in_line (byte ∷ bytes) ≡ true → IsInLine byte
head_told byte bytes h = λ e. grind arith

-- Words that are written out.
told_word : (bytes : List ℕ) → is_in_line bytes ≡ true → AreInLine bytes
told_word [] h = nil
told_word (byte ∷ bytes) h = All-cons IsInLine byte bytes (head_told byte bytes h) (told_word bytes (grind arith))

digit_in : (d : ℕ) → IsInLine (48 + d)
digit_in d = λ e. omega arith

number_in : (n : ℕ) → n < 2 ^ 64 → AreInLine (decimal n)
number_in n h =
    decimal_by_steps (λ m ds. AreInLine ds)
    (λ m l. All-cons IsInLine (48 + m) [] (digit_in m) nil)
    (λ m ds l w. All-push IsInLine ds (48 + m % 10) w (digit_in (m % 10)))
    n h

small_in : (n : ℕ) → IsSmall n → AreInLine (decimal n)
small_in n h = number_in n (omega (arith, h))

minus_in : IsInLine 45
minus_in = λ e. omega arith

signed_in : (z : ℤ) → FitsSigned w64 z → AreInLine (signed_decimal z)
signed_in (pos n) f = number_in n (omega (arith, mag_small (pos n) f))
signed_in (negsuc n) f = All-cons IsInLine 45 (decimal (suc n)) minus_in (number_in (suc n) (omega (arith, mag_small (negsuc n) f)))

name_byte_in : (byte : ℕ) → IsNameByte byte → IsInLine byte
name_byte_in byte h = λ e. grind arith

name_in : (name : List ℕ) → IsName name → AreInLine name
name_in name h = All-weaker IsNameByte IsInLine name_byte_in name (bytes_of-name name h)

plain_in : (byte : ℕ) → IsPlain byte → IsInLine byte
plain_in byte h = λ e. omega (arith, h.0, e)

escape_in : (byte : ℕ) → IsInLine byte → AreInLine (escape byte)
escape_in byte h =
    elim ((byte == 34) || (byte == 92)) as (λ b. AreInLine (if b then 92 ∷ byte ∷ [] else byte ∷ [])) [
      | true ↦ All-cons IsInLine 92 (byte ∷ []) (λ e. omega (arith, e)) (All-cons IsInLine byte [] h nil)
      | false ↦ All-cons IsInLine byte [] h nil
    ]

escaped_in : (bytes : List ℕ) → All IsPlain bytes → AreInLine (flat_map escape bytes)
escaped_in [] all = nil
escaped_in (byte ∷ bytes) all =
    and_then (escape byte) (flat_map escape bytes) (escape_in byte (plain_in byte (All-head IsPlain byte bytes all))) (escaped_in bytes (All-tail IsPlain byte bytes all))

quoted_in : (bytes : List ℕ) → All IsPlain bytes → AreInLine (quoted bytes)
quoted_in bytes all =
    let quote_in : AreInLine (34 ∷ []) = told_word (34 ∷ []) refl in
    and_then (34 ∷ flat_map escape bytes) (34 ∷ []) (and_then (34 ∷ []) (flat_map escape bytes) quote_in (escaped_in bytes all)) quote_in

bool_in : (b : Bool) → AreInLine (text_of (values.Bool b) kinds.Bool)
bool_in true = told_word (codes "true") refl
bool_in false = told_word (codes "false") refl

pair_in : (left right : List ℕ) → AreInLine left → AreInLine right → AreInLine (40 ∷ left ++ 44 ∷ right ++ 41 ∷ [])
pair_in left right p q =
    let first = and_then (40 ∷ []) left (told_word (40 ∷ []) refl) p in
    let second = and_then (44 ∷ []) right (told_word (44 ∷ []) refl) q in
    and_then (40 ∷ left ++ 44 ∷ right) (41 ∷ []) (and_then (40 ∷ left) (44 ∷ right) first second) (told_word (41 ∷ []) refl)

-- The text of an item.
item_in : (k : Kindred) (item : Value) → IsValid k → IsIn item k → AreInLine (text_of item k)
unfolding hidden-the_row-Couple-0 hidden hidden-the_row-Twins-0
item_in kindred.Unit item valid h = subst (λ v. AreInLine (text_of v kinds.Unit)) (sym (in_unit item h)) (told_word (codes "unit") refl)
item_in kindred.Bool item valid h = let x = in_bool item h in subst (λ v. AreInLine (text_of v kinds.Bool)) (sym x.1) (bool_in x.0)
item_in (kindred.Int low high) item valid h =
    let x = in_int low high item h in
    subst (λ v. AreInLine (text_of v (kinds.Int low high))) (sym x.1) (signed_in x.0 (fits_between low high x.0 valid.0 valid.1 x.2 x.3))
item_in (kindred.Sym names) item valid h =
    let x = in_sym names item h in
    subst (λ v. AreInLine (text_of v (kinds.Sym names))) (sym x.1) (name_in _ (All-get_or IsName names x.0 [] x.2 valid.words))
item_in (kindred.Text most) item valid h =
    let x = in_text most item h in
    subst (λ v. AreInLine (text_of v (kinds.Text most))) (sym x.1) (quoted_in x.0 x.3)
item_in (kindred.Pair' m (kindred.more_of-Twins c d kindred.end_of-Twins)) item valid h =
    let t : Twins = record { left = c; right = d } in
    let x = in_pair t item h in
    subst (λ v. AreInLine (text_of v (kinds.Pair t))) (sym x.1)
    (subst AreInLine (sym (text_of-Pair x.0 t)) (pair_in (text_of x.0.left c) (text_of x.0.right d) (item_in c x.0.left valid.0 x.2) (item_in d x.0.right valid.1 x.3)))

-- Texts in a row.
spaced_in : {X : Type 0} (text : X → List ℕ) (Fits : X → Type 0) → ((x : X) → Fits x → AreInLine (text x)) → (xs : List X) → All Fits xs → AreInLine (spaced text xs)
spaced_in text Fits each [] all = nil
spaced_in text Fits each (x ∷ []) all = each x (All-head Fits x [] all)
spaced_in text Fits each (x ∷ y ∷ ys) all =
    and_then (text x) (32 ∷ spaced text (y ∷ ys)) (each x (All-head Fits x (y ∷ ys) all))
    (All-cons IsInLine 32 (spaced text (y ∷ ys)) (λ e. omega (arith, e)) (spaced_in text Fits each (y ∷ ys) (All-tail Fits x (y ∷ ys) all)))

cell_in : (c : Cell) → IsCell c → AreInLine (cell_text c)
cell_in (Row row) h = number_in row (omega (arith, h))
cell_in Jam h = told_word (codes "j") refl

entry_in : (e : Entry) → IsEntry e → AreInLine (entry_text e)
unfolding entry_text
entry_in (One cell) h = cell_in cell h
entry_in (Two mouth tail) h =
    and_then (cell_text mouth) (codes "." ++ cell_text tail) (cell_in mouth h.0) (and_then (codes ".") (cell_text tail) (told_word (codes ".") refl) (cell_in tail h.1))

sign_in : (way : Way) → AreInLine (sign_of way)
sign_in In = told_word (codes "!") refl
sign_in Out = told_word (codes "?") refl

-- A text that is one line.
pub record IsOneLine (text : List ℕ) : Type 0 where
  pub line : List ℕ
  pub in_line : AreInLine line
  pub text_is : text ≡ line ++ (10 ∷ [])

module _ (ports : List Port) (told : AreTold ports) where
  move_in : (m : Move) → IsMove ports m → AreInLine (move_text ports m)
  unfolding move_text
  move_in m h =
      let p : Port = h.0 in
      let whole : AreInLine (p.name ++ (sign_of p.way ++ text_of m.item p.kindred)) =
      and_then p.name (sign_of p.way ++ text_of m.item p.kindred) (name_in p.name (name_at ports told m.port p h.1))
      (and_then (sign_of p.way) (text_of m.item p.kindred) (sign_in p.way) (item_in p.kindred m.item (kindred_at ports told m.port p h.1) h.2)) in
      subst (λ o. AreInLine (flow_text o m.item)) (sym h.1) whole

  moves_in : (idle : Bool) (ms : List Move) → All (IsMove ports) ms → AreInLine (moves_text ports idle ms)
  moves_in true ms all = told_word (codes "idle") refl
  moves_in false [] all = told_word (codes "-") refl
  moves_in false (m ∷ ms) all = spaced_in (move_text ports) (IsMove ports) move_in (m ∷ ms) all

  -- The line of a round is one line.
  pub round_in : (n : ℕ) (line : RoundLine) → IsLine ports n line → IsOneLine (round_text ports line)
  unfolding round_text
  round_in n line h =
      let entries : List ℕ = spaced entry_text line.entries in
      let moves : List ℕ = moves_text ports line.idle line.moves in
      let number : AreInLine (decimal line.round) = small_in line.round (omega (arith, h.number_is, h.small)) in
      let front : List ℕ = codes "round " ++ (decimal line.round ++ (codes ": " ++ (moves ++ (codes " | " ++ entries)))) in
      record {
        line = front;
        in_line =
            and_then (codes "round ") _ (told_word (codes "round ") refl)
            (and_then (decimal line.round) _ number
            (and_then (codes ": ") _ (told_word (codes ": ") refl)
            (and_then moves _ (moves_in line.idle line.moves h.moves)
            (and_then (codes " | ") entries (told_word (codes " | ") refl) (spaced_in entry_text IsEntry entry_in line.entries h.entries)))));
        text_is = simp append_assoc;
      }

  counted_in : (word : List ℕ) (n : ℕ) → AreInLine word → IsSmall n → IsOneLine (word ++ (decimal n ++ codes " rounds\n"))
  counted_in word n w h = record {
    line = word ++ (decimal n ++ codes " rounds");
    in_line = and_then word _ w (and_then (decimal n) (codes " rounds") (small_in n h) (told_word (codes " rounds") refl));
    text_is = simp append_assoc;
  }

  -- An ending is one line.
  pub ending_in : (e : Ending) → IsEnding e → IsOneLine (ending_text e)
  unfolding ending_text
  ending_in (Done n) h = counted_in (codes "done after ") n (told_word (codes "done after ") refl) h
  ending_in (Stuck n) h = counted_in (codes "stuck after ") n (told_word (codes "stuck after ") refl) h
  ending_in (Limit n) h = counted_in (codes "limit after ") n (told_word (codes "limit after ") refl) h
  ending_in (Spent n k w b) h = record {
    line = codes "spent in round " ++ (decimal n ++ (codes ": knot " ++ (decimal k ++ (codes " weight " ++ (decimal w ++ (codes " budget " ++ decimal b))))));
    in_line =
        and_then (codes "spent in round ") _ (told_word (codes "spent in round ") refl)
        (and_then (decimal n) _ (small_in n h.0)
        (and_then (codes ": knot ") _ (told_word (codes ": knot ") refl)
        (and_then (decimal k) _ (small_in k h.1)
        (and_then (codes " weight ") _ (told_word (codes " weight ") refl)
        (and_then (decimal w) _ (small_in w h.2)
        (and_then (codes " budget ") _ (told_word (codes " budget ") refl) (small_in b h.3)))))));
    text_is = simp append_assoc;
  }
  ending_in (Wide n k) h = record {
    line = codes "wide in round " ++ (decimal n ++ (codes ": knot " ++ decimal k));
    in_line =
        and_then (codes "wide in round ") _ (told_word (codes "wide in round ") refl)
        (and_then (decimal n) _ (small_in n h.0)
        (and_then (codes ": knot ") _ (told_word (codes ": knot ") refl) (small_in k h.1)));
    text_is = simp append_assoc;
  }
