-- The lines of a log at the front of a text.
use Rattle.std.proofs.Common.{◌≡◌, ◌∙◌, ◌<◌, ◌≤◌, ◌^◌, ℕ, List, [], ◌∷◌, ◌++◌, Option, None, Some, nat_eq, false, refl, ap, sym, drop, append_assoc, arith}
use Rattle.std.specs.Prelude.{codes}
use Rattle.std.specs.Fmt.{decimal}
use Rattle.std.proofs.lemmas.Bool.{eqb-false}
use Rattle.reo_values.proofs.Words.{first_or}
use Rattle.reo_values.specs.decimals.Digits.{IsDigit, IsSmall, NoDigit}
use Rattle.reo_values.proofs.decimals.Digits.{small_unique}
use Rattle.reo_values.proofs.decimals.Fronts.{heads_apart}
use Rattle.reo_joint_values.specs.declared.value.JointValue.{JointValue}
use Rattle.reo_joint_values.specs.declared.value.JointValue.TheVariants.{Flow, RG, GR, GG, Jam}
use Rattle.reo_refute_base.specs.declared.line.LogLine.{LogLine}
use Rattle.reo_refute_base.specs.declared.line.LogLine.TheVariants.{At, Drop, Empty, Split}
use Rattle.reo_refute_base.specs.Texts.{value_words, line_text, IsValueNumbered, IsNumbered}
use Rattle.reo_refute_base.proofs.laws.LineTexts.{space_told, value_told, drop_text, first_byte, begins}
use Rattle.reo_refute_parts.specs.lines.Finds.{Finds, FindsNumber, FindsDrop, dropped_text}

-- Behind a number that stands in front stands what follows it.
pub byte_follows : (byte n x : ℕ) (old now rest : List ℕ) → (IsDigit byte → ⊥) → IsSmall n → NoDigit now → old ≡ decimal n ++ now → IsSmall x → old ≡ (decimal x ++ (byte ∷ [])) ++ rest
    → (n ≡ x) × (now ≡ byte ∷ rest)
byte_follows byte n x old now rest no_digit h ends is g e =
    small_unique n x now (byte ∷ rest) h g ends no_digit (sym is ∙ e ∙ append_assoc (decimal x) (byte ∷ []) rest)

-- No number stands in front where none is found.
pub no_number : (byte x : ℕ) (old now rest : List ℕ) → (IsDigit byte → ⊥) → FindsNumber None old now → IsSmall x → old ≡ (decimal x ++ (byte ∷ [])) ++ rest → ⊥
no_number byte x old now rest no_digit none g e = none x (byte ∷ rest) g no_digit (e ∙ append_assoc (decimal x) (byte ∷ []) rest)

pub with_byte : (byte n : ℕ) (old now new : List ℕ) → old ≡ decimal n ++ now → now ≡ (byte ∷ []) ++ new → old ≡ (decimal n ++ (byte ∷ [])) ++ new
with_byte byte n old now new is e = is ∙ ap (λ (l : List ℕ). decimal n ++ l) e ∙ sym (append_assoc (decimal n) (byte ∷ []) new)

-- Another byte stands first.
apart : {A : Type 0} (a : LogLine) (byte : ℕ) (bytes rest : List ℕ) → nat_eq byte (first_byte a) ≡ false → byte ∷ bytes ≡ line_text a ++ rest → A
apart a byte bytes rest differ e = absurd (eqb-false byte (first_byte a) differ (ap first_or e ∙ begins a rest))

-- Where no word of a value stands, no value stands.
pub no_value : (old : List ℕ) → ((rest : List ℕ) → old ≡ codes "rg " ++ rest → ⊥) → ((rest : List ℕ) → old ≡ codes "gr " ++ rest → ⊥) → ((rest : List ℕ) → old ≡ codes "gg " ++ rest → ⊥)
    → ((rest : List ℕ) → old ≡ codes "jam " ++ rest → ⊥) → ((rest : List ℕ) → old ≡ codes "f " ++ rest → ⊥)
    → (v : JointValue) (rest : List ℕ) → IsValueNumbered v → old ≡ (value_words v ++ (32 ∷ [])) ++ rest → ⊥
no_value old rg gr gg jam f (Flow n) rest h e = f ((decimal n ++ (32 ∷ [])) ++ rest) e
no_value old rg gr gg jam f RG rest h e = rg rest e
no_value old rg gr gg jam f GR rest h e = gr rest e
no_value old rg gr gg jam f GG rest h e = gg rest e
no_value old rg gr gg jam f Jam rest h e = jam rest e

-- Where `f ` stands and no item behind it, no value stands.
pub no_flow : (old mid : List ℕ) → old ≡ codes "f " ++ mid → ((n : ℕ) (rest : List ℕ) → n < 2 ^ 32 → mid ≡ (decimal n ++ (32 ∷ [])) ++ rest → ⊥)
    → (v : JointValue) (rest : List ℕ) → IsValueNumbered v → old ≡ (value_words v ++ (32 ∷ [])) ++ rest → ⊥
no_flow old mid taken none (Flow n) rest h e = none n rest h (ap (λ (l : List ℕ). drop 2 l) (sym taken ∙ e))
no_flow old mid taken none RG rest h e = heads_apart 102 114 (32 ∷ mid) (103 ∷ 32 ∷ rest) refl (sym taken ∙ e)
no_flow old mid taken none GR rest h e = heads_apart 102 103 (32 ∷ mid) (114 ∷ 32 ∷ rest) refl (sym taken ∙ e)
no_flow old mid taken none GG rest h e = heads_apart 102 103 (32 ∷ mid) (103 ∷ 32 ∷ rest) refl (sym taken ∙ e)
no_flow old mid taken none Jam rest h e = heads_apart 102 106 (32 ∷ mid) (97 ∷ 109 ∷ 32 ∷ rest) refl (sym taken ∙ e)

-- The number before a space is one.
pub space_number : (m n : ℕ) (old new rest : List ℕ) → IsSmall m → IsSmall n → old ≡ (decimal m ++ (32 ∷ [])) ++ new → old ≡ (decimal n ++ (32 ∷ [])) ++ rest → (m ≡ n) × (new ≡ rest)
space_number m n old new rest h g is e =
    space_told m n new rest h g (sym (append_assoc (decimal m) (32 ∷ []) new) ∙ sym is ∙ e ∙ append_assoc (decimal n) (32 ∷ []) rest)

pub big_item : (m n : ℕ) (old new rest : List ℕ) → IsSmall m → 2 ^ 32 ≤ m → n < 2 ^ 32 → old ≡ (decimal m ++ (32 ∷ [])) ++ new → old ≡ (decimal n ++ (32 ∷ [])) ++ rest → ⊥
big_item m n old new rest h big g is e = let both = space_number m n old new rest h (omega (arith, g)) is e in let same : m ≡ n = both.0 in omega (arith, same, big, g)

pub flow_stood : (n : ℕ) (old mid new : List ℕ) → old ≡ codes "f " ++ mid → mid ≡ (decimal n ++ (32 ∷ [])) ++ new → old ≡ (value_words (Flow n) ++ (32 ∷ [])) ++ new
flow_stood n old mid new taken e = taken ∙ ap (λ (l : List ℕ). codes "f " ++ l) e

-- A part of a line and a byte behind it.
pub in_pieces : (xs : List ℕ) (byte : ℕ) (old rest : List ℕ) → old ≡ (xs ++ (byte ∷ [])) ++ rest → old ≡ xs ++ (byte ∷ rest)
in_pieces xs byte old rest e = e ∙ append_assoc xs (byte ∷ []) rest

pub in_one : (xs : List ℕ) (byte : ℕ) (old rest : List ℕ) → old ≡ xs ++ (byte ∷ rest) → old ≡ (xs ++ (byte ∷ [])) ++ rest
in_one xs byte old rest e = e ∙ sym (append_assoc xs (byte ∷ []) rest)

-- What stands behind `drop `, in its parts.
pub drop_stood : (j : ℕ) (v : JointValue) (side : ℕ) (old a b new : List ℕ) → old ≡ (decimal j ++ (32 ∷ [])) ++ a → a ≡ (value_words v ++ (32 ∷ [])) ++ b → b ≡ (decimal side ++ (10 ∷ [])) ++ new
    → codes "drop " ++ old ≡ line_text (Drop j v side) ++ new
drop_stood j v side old a b new first second third =
    ap (λ (l : List ℕ). codes "drop " ++ l)
    (in_pieces (decimal j) 32 old a first
    ∙ ap (λ (l : List ℕ). decimal j ++ (32 ∷ l)) (in_pieces (value_words v) 32 a b second
    ∙ ap (λ (l : List ℕ). value_words v ++ (32 ∷ l)) (in_pieces (decimal side) 10 b new third)))
    ∙ sym (drop_text j v side new)

pub no_joint : (old new : List ℕ) → Finds IsSmall (λ n. decimal n ++ (32 ∷ [])) None old new → FindsDrop None old new
no_joint old new none j v side rest h e =
    none j (value_words v ++ (32 ∷ (decimal side ++ (10 ∷ rest)))) h.0 (in_one (decimal j) 32 old (value_words v ++ (32 ∷ (decimal side ++ (10 ∷ rest)))) e)

-- Behind the joint.
after_joint : (k j : ℕ) (v : JointValue) (side : ℕ) (old a rest : List ℕ) → IsSmall k → old ≡ (decimal k ++ (32 ∷ [])) ++ a → IsNumbered (Drop j v side) → old ≡ dropped_text j v side rest
    → a ≡ value_words v ++ (32 ∷ (decimal side ++ (10 ∷ rest)))
after_joint k j v side old a rest small first h e =
    (space_number k j old a (value_words v ++ (32 ∷ (decimal side ++ (10 ∷ rest)))) small h.0 first (in_one (decimal j) 32 old (value_words v ++ (32 ∷ (decimal side ++ (10 ∷ rest)))) e)).1

pub no_value_there : (k : ℕ) (old a b : List ℕ) → IsSmall k → old ≡ (decimal k ++ (32 ∷ [])) ++ a → Finds IsValueNumbered (λ v. value_words v ++ (32 ∷ [])) None a b
    → (new : List ℕ) → FindsDrop None old new
no_value_there k old a b small first none new j v side rest h e =
    none v (decimal side ++ (10 ∷ rest)) h.1 (in_one (value_words v) 32 a (decimal side ++ (10 ∷ rest)) (after_joint k j v side old a rest small first h e))

pub no_side : (k : ℕ) (w : JointValue) (old a b c : List ℕ) → IsSmall k → IsValueNumbered w → old ≡ (decimal k ++ (32 ∷ [])) ++ a → a ≡ (value_words w ++ (32 ∷ [])) ++ b
    → Finds IsSmall (λ n. decimal n ++ (10 ∷ [])) None b c → (new : List ℕ) → FindsDrop None old new
no_side k w old a b c small fits first second none new j v side rest h e =
    let here = after_joint k j v side old a rest small first h e in
    let both = value_told w v b (decimal side ++ (10 ∷ rest)) fits h.1 (sym (in_pieces (value_words w) 32 a b second) ∙ here) in
    none side rest h.2 (in_one (decimal side) 10 b rest both.1)

no_drop : (old mid : List ℕ) → old ≡ codes "drop " ++ mid → FindsDrop None mid mid → (a : LogLine) (rest : List ℕ) → IsNumbered a → old ≡ line_text a ++ rest → ⊥
no_drop old mid taken none (Drop j v side) rest h e = none j v side rest h (ap (λ (l : List ℕ). drop 5 l) (sym taken ∙ e ∙ drop_text j v side rest))
no_drop old mid taken none (At p) rest h e = apart (At p) 100 (114 ∷ 111 ∷ 112 ∷ 32 ∷ mid) rest refl (sym taken ∙ e)
no_drop old mid taken none (Empty j) rest h e = apart (Empty j) 100 (114 ∷ 111 ∷ 112 ∷ 32 ∷ mid) rest refl (sym taken ∙ e)
no_drop old mid taken none (Split j) rest h e = apart (Split j) 100 (114 ∷ 111 ∷ 112 ∷ 32 ∷ mid) rest refl (sym taken ∙ e)

pub drop_finds : (old mid new : List ℕ) (r : Option LogLine) → old ≡ codes "drop " ++ mid → FindsDrop r mid new → Finds IsNumbered line_text r old new
drop_finds old mid new (Some line) taken found = (found.0, taken ∙ found.1)
drop_finds old mid new None taken none = λ a rest h e. no_drop old mid taken none a rest h e

-- A number and a line feed stand, or do not.
abbrev FindsEnd : Option ℕ → List ℕ → List ℕ → Type 0
FindsEnd r old new = Finds IsSmall (λ n. decimal n ++ (10 ∷ [])) r old new

pub at_stood : (p : ℕ) (old mid new : List ℕ) → old ≡ codes "at " ++ mid → FindsEnd (Some p) mid new → Finds IsNumbered line_text (Some (At p)) old new
at_stood p old mid new taken found = (found.0, taken ∙ ap (λ (l : List ℕ). codes "at " ++ l) found.1)

pub no_at : (old mid a new : List ℕ) → old ≡ codes "at " ++ mid → FindsEnd None mid a → Finds IsNumbered line_text None old new
no_at old mid a new taken none (At p) rest h e = none p rest h (ap (λ (l : List ℕ). drop 3 l) (sym taken ∙ e))
no_at old mid a new taken none (Drop j v side) rest h e = apart (Drop j v side) 97 (116 ∷ 32 ∷ mid) rest refl (sym taken ∙ e)
no_at old mid a new taken none (Empty j) rest h e = apart (Empty j) 97 (116 ∷ 32 ∷ mid) rest refl (sym taken ∙ e)
no_at old mid a new taken none (Split j) rest h e = apart (Split j) 97 (116 ∷ 32 ∷ mid) rest refl (sym taken ∙ e)

pub empty_stood : (j : ℕ) (old mid new : List ℕ) → old ≡ codes "empty " ++ mid → FindsEnd (Some j) mid new → Finds IsNumbered line_text (Some (Empty j)) old new
empty_stood j old mid new taken found = (found.0, taken ∙ ap (λ (l : List ℕ). codes "empty " ++ l) found.1)

pub no_empty : (old mid a new : List ℕ) → old ≡ codes "empty " ++ mid → FindsEnd None mid a → Finds IsNumbered line_text None old new
no_empty old mid a new taken none (Empty j) rest h e = none j rest h (ap (λ (l : List ℕ). drop 6 l) (sym taken ∙ e))
no_empty old mid a new taken none (At p) rest h e = apart (At p) 101 (109 ∷ 112 ∷ 116 ∷ 121 ∷ 32 ∷ mid) rest refl (sym taken ∙ e)
no_empty old mid a new taken none (Drop j v side) rest h e = apart (Drop j v side) 101 (109 ∷ 112 ∷ 116 ∷ 121 ∷ 32 ∷ mid) rest refl (sym taken ∙ e)
no_empty old mid a new taken none (Split j) rest h e = apart (Split j) 101 (109 ∷ 112 ∷ 116 ∷ 121 ∷ 32 ∷ mid) rest refl (sym taken ∙ e)

pub split_stood : (j : ℕ) (old mid new : List ℕ) → old ≡ codes "split " ++ mid → FindsEnd (Some j) mid new → Finds IsNumbered line_text (Some (Split j)) old new
split_stood j old mid new taken found = (found.0, taken ∙ ap (λ (l : List ℕ). codes "split " ++ l) found.1)

pub no_split : (old mid a new : List ℕ) → old ≡ codes "split " ++ mid → FindsEnd None mid a → Finds IsNumbered line_text None old new
no_split old mid a new taken none (Split j) rest h e = none j rest h (ap (λ (l : List ℕ). drop 6 l) (sym taken ∙ e))
no_split old mid a new taken none (At p) rest h e = apart (At p) 115 (112 ∷ 108 ∷ 105 ∷ 116 ∷ 32 ∷ mid) rest refl (sym taken ∙ e)
no_split old mid a new taken none (Drop j v side) rest h e = apart (Drop j v side) 115 (112 ∷ 108 ∷ 105 ∷ 116 ∷ 32 ∷ mid) rest refl (sym taken ∙ e)
no_split old mid a new taken none (Empty j) rest h e = apart (Empty j) 115 (112 ∷ 108 ∷ 105 ∷ 116 ∷ 32 ∷ mid) rest refl (sym taken ∙ e)

-- Where no word of a line stands, no line stands.
pub no_line : (old new : List ℕ) → ((rest : List ℕ) → old ≡ codes "drop " ++ rest → ⊥) → ((rest : List ℕ) → old ≡ codes "at " ++ rest → ⊥)
    → ((rest : List ℕ) → old ≡ codes "empty " ++ rest → ⊥) → ((rest : List ℕ) → old ≡ codes "split " ++ rest → ⊥) → Finds IsNumbered line_text None old new
no_line old new drops ats empties splits (At p) rest h e = ats ((decimal p ++ (10 ∷ [])) ++ rest) e
no_line old new drops ats empties splits (Drop j v side) rest h e = drops (dropped_text j v side rest) (e ∙ drop_text j v side rest)
no_line old new drops ats empties splits (Empty j) rest h e = empties ((decimal j ++ (10 ∷ [])) ++ rest) e
no_line old new drops ats empties splits (Split j) rest h e = splits ((decimal j ++ (10 ∷ [])) ++ rest) e
