-- Where the item at the front of a text ends.
use Rattle.std.proofs.Common.{◌≡◌, ◌∙◌, ◌==◌, ℕ, zero, suc, Bool, true, false, not, List, [], ◌∷◌, ◌++◌, ap, refl, sym, take, drop, length}
use Rattle.std.specs.Prelude.{if◌then◌else◌}
use Rattle.std.proofs.lemmas.List.{take_at, drop_at}
use Rattle.reo_values.specs.declared.value.Value.{Value}
use Rattle.reo_values.specs.declared.kindred.Kindred.{Kindred}
use Rattle.reo_values.specs.ItemText.{text_of}
use Rattle.reo_values.specs.Kind.{IsIn}
use Rattle.reo_values.specs.Valid.{IsValid}
use Rattle.reo_trace_reader.proofs.texts.ItemEnds.{Stops, item_length, length_of-item}
use Rattle.reo_trace_reader.specs.Ends.{EndsMove}
use Rattle.reo_trace_reader.specs.ItemEnd.{bytes_of_item}
use Rattle.reo_trace_reader.specs.declared.item.Spot.TheVariants.{Outside, Inside, Escaped}

outside_any : (t : Bool) (bytes : List ℕ) → item_length false t bytes ≡ item_length false false bytes
outside_any t [] = refl
outside_any t (byte ∷ bytes) = refl

opened : (t : Bool) (bytes : List ℕ) → bytes_of_item Inside bytes ≡ item_length true false bytes → bytes_of_item Outside bytes ≡ item_length false false bytes
    → bytes_of_item (if t then Inside else Outside) bytes ≡ item_length t false bytes
opened true bytes i o = i
opened false bytes i o = o

closed : (t u : Bool) (bytes : List ℕ) → bytes_of_item Inside bytes ≡ item_length true false bytes → bytes_of_item Outside bytes ≡ item_length false false bytes
    → bytes_of_item Escaped bytes ≡ item_length true true bytes
    → bytes_of_item (if t then Outside else (if u then Escaped else Inside)) bytes ≡ item_length (not t) u bytes
closed true u bytes i o x = o ∙ sym (outside_any u bytes)
closed false true bytes i o x = x
closed false false bytes i o x = i

-- the scan is that of the laws
outside_same : (bytes : List ℕ) → (bytes_of_item Outside bytes ≡ item_length false false bytes) × (bytes_of_item Inside bytes ≡ item_length true false bytes) × (bytes_of_item Escaped bytes ≡ item_length true true bytes)
outside_same [] = (refl, refl, refl)
outside_same (byte ∷ bytes) =
    let more = outside_same bytes in (
      ap (λ (n : ℕ). if byte == 32 then zero else suc n) (opened (byte == 34) bytes more.1 more.0),
      ap suc (closed (byte == 34) (byte == 92) bytes more.1 more.0 more.2),
      ap suc more.1,
    )

stops : (rest : List ℕ) → EndsMove rest → Stops rest
stops [] h = tt
stops (byte ∷ bytes) h = h

-- so it ends where the text of an item does
pub item_front : (old rest : List ℕ) (n : ℕ) (k : Kindred) (item : Value) → IsValid k → IsIn item k → EndsMove rest → old ≡ text_of item k ++ rest → n ≡ bytes_of_item Outside old
    → (take n old ≡ text_of item k) × (drop n old ≡ rest)
item_front old rest n k item valid h ends e count =
    let whole : length (text_of item k) ≡ n =
    sym (count ∙ ap (λ l. bytes_of_item Outside l) e ∙ (outside_same (text_of item k ++ rest)).0 ∙ length_of-item k item rest valid h (stops rest ends)) in
    (ap (λ l. take n l) e ∙ take_at (text_of item k) rest n whole, ap (λ l. drop n l) e ∙ drop_at (text_of item k) rest n whole)
