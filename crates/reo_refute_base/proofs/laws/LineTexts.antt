-- A line, and what follows it, are told from the text.
use Rattle.std.proofs.Common.{◌≡◌, ◌<◌, ◌^◌, ℕ, List, [], ◌∷◌, ◌++◌, nat_eq, false, refl, ap, sym, ◌∙◌, drop, append_assoc, arith}
use Rattle.std.specs.Prelude.{codes}
use Rattle.std.specs.Fmt.{decimal}
use Rattle.std.proofs.lemmas.Bool.{eqb-false}
use Rattle.reo_values.proofs.Words.{first_or}
use Rattle.reo_values.proofs.decimals.Digits.{feed_no_digit, small_unique, space_no_digit}
use Rattle.reo_values.proofs.decimals.Fronts.{heads_apart}
use Rattle.reo_joint_values.specs.declared.value.JointValue.{JointValue}
use Rattle.reo_joint_values.specs.declared.value.JointValue.TheVariants.{Flow, RG, GR, GG, Jam}
use Rattle.reo_refute_base.specs.declared.line.LogLine.{LogLine}
use Rattle.reo_refute_base.specs.declared.line.LogLine.TheVariants.{At, Drop, Empty, Split}
use Rattle.reo_refute_base.specs.Texts.{value_words, line_text, IsValueNumbered, IsNumbered}
use Rattle.reo_refute_base.specs.laws.Answers.{LinesAreTold}

-- A number and what follows the byte behind it are told from the text.
pub space_told : (m n : ℕ) (r s : List ℕ) → m < 2 ^ 63 → n < 2 ^ 63 → decimal m ++ (32 ∷ r) ≡ decimal n ++ (32 ∷ s) → (m ≡ n) × (r ≡ s)
space_told m n r s a b e =
    let parts = small_unique m n (32 ∷ r) (32 ∷ s) a b space_no_digit space_no_digit e in
    (parts.0, ap (λ l. drop 1 l) parts.1)

pub feed_told : (m n : ℕ) (r s : List ℕ) → m < 2 ^ 63 → n < 2 ^ 63 → decimal m ++ (10 ∷ r) ≡ decimal n ++ (10 ∷ s) → (m ≡ n) × (r ≡ s)
feed_told m n r s a b e =
    let parts = small_unique m n (10 ∷ r) (10 ∷ s) a b feed_no_digit feed_no_digit e in
    (parts.0, ap (λ l. drop 1 l) parts.1)

-- The texts, with what follows them, in pieces.
pub flow_text : (n : ℕ) (r : List ℕ) → value_words (Flow n) ++ r ≡ 102 ∷ 32 ∷ (decimal n ++ r)
flow_text n r = refl

pub at_text : (p : ℕ) (r : List ℕ) → line_text (At p) ++ r ≡ codes "at " ++ (decimal p ++ (10 ∷ r))
at_text p r = ap (λ (l : List ℕ). codes "at " ++ l) (append_assoc (decimal p) (10 ∷ []) r)

pub empty_text : (j : ℕ) (r : List ℕ) → line_text (Empty j) ++ r ≡ codes "empty " ++ (decimal j ++ (10 ∷ r))
empty_text j r = ap (λ (l : List ℕ). codes "empty " ++ l) (append_assoc (decimal j) (10 ∷ []) r)

pub split_text : (j : ℕ) (r : List ℕ) → line_text (Split j) ++ r ≡ codes "split " ++ (decimal j ++ (10 ∷ r))
split_text j r = ap (λ (l : List ℕ). codes "split " ++ l) (append_assoc (decimal j) (10 ∷ []) r)

pub drop_text : (j : ℕ) (v : JointValue) (side : ℕ) (r : List ℕ)
    → line_text (Drop j v side) ++ r ≡ codes "drop " ++ (decimal j ++ (32 ∷ (value_words v ++ (32 ∷ (decimal side ++ (10 ∷ r))))))
drop_text j v side r =
    let d : List ℕ = decimal j in
    let w : List ℕ = value_words v in
    let s : List ℕ = decimal side in
    let space : List ℕ = 32 ∷ [] in
    ap (λ (l : List ℕ). codes "drop " ++ l) (append_assoc ((((d ++ space) ++ w) ++ space) ++ s) (10 ∷ []) r
    ∙ append_assoc (((d ++ space) ++ w) ++ space) s (10 ∷ r)
    ∙ append_assoc ((d ++ space) ++ w) space (s ++ (10 ∷ r))
    ∙ append_assoc (d ++ space) w (32 ∷ (s ++ (10 ∷ r)))
    ∙ append_assoc d space (w ++ (32 ∷ (s ++ (10 ∷ r)))))

-- A value, and what follows the space behind it, are told from the text.
pub value_told : (v w : JointValue) (r s : List ℕ) → IsValueNumbered v → IsValueNumbered w → value_words v ++ (32 ∷ r) ≡ value_words w ++ (32 ∷ s) → (v ≡ w) × (r ≡ s)
value_told (Flow m) (Flow n) r s a b e =
    let parts = space_told m n r s (omega (arith, a)) (omega (arith, b)) (ap (λ l. drop 2 l) e) in
    (ap Flow parts.0, parts.1)
value_told (Flow m) RG r s a b e = absurd (heads_apart 102 114 (32 ∷ (decimal m ++ (32 ∷ r))) (103 ∷ 32 ∷ s) refl e)
value_told (Flow m) GR r s a b e = absurd (heads_apart 102 103 (32 ∷ (decimal m ++ (32 ∷ r))) (114 ∷ 32 ∷ s) refl e)
value_told (Flow m) GG r s a b e = absurd (heads_apart 102 103 (32 ∷ (decimal m ++ (32 ∷ r))) (103 ∷ 32 ∷ s) refl e)
value_told (Flow m) Jam r s a b e = absurd (heads_apart 102 106 (32 ∷ (decimal m ++ (32 ∷ r))) (97 ∷ 109 ∷ 32 ∷ s) refl e)
value_told RG (Flow n) r s a b e = absurd (heads_apart 114 102 (103 ∷ 32 ∷ r) (32 ∷ (decimal n ++ (32 ∷ s))) refl e)
value_told RG RG r s a b e = (refl, ap (λ l. drop 3 l) e)
value_told RG GR r s a b e = absurd (heads_apart 114 103 (103 ∷ 32 ∷ r) (114 ∷ 32 ∷ s) refl e)
value_told RG GG r s a b e = absurd (heads_apart 114 103 (103 ∷ 32 ∷ r) (103 ∷ 32 ∷ s) refl e)
value_told RG Jam r s a b e = absurd (heads_apart 114 106 (103 ∷ 32 ∷ r) (97 ∷ 109 ∷ 32 ∷ s) refl e)
value_told GR (Flow n) r s a b e = absurd (heads_apart 103 102 (114 ∷ 32 ∷ r) (32 ∷ (decimal n ++ (32 ∷ s))) refl e)
value_told GR RG r s a b e = absurd (heads_apart 103 114 (114 ∷ 32 ∷ r) (103 ∷ 32 ∷ s) refl e)
value_told GR GR r s a b e = (refl, ap (λ l. drop 3 l) e)
value_told GR GG r s a b e = absurd (heads_apart 114 103 (32 ∷ r) (32 ∷ s) refl (ap (λ l. drop 1 l) e))
value_told GR Jam r s a b e = absurd (heads_apart 103 106 (114 ∷ 32 ∷ r) (97 ∷ 109 ∷ 32 ∷ s) refl e)
value_told GG (Flow n) r s a b e = absurd (heads_apart 103 102 (103 ∷ 32 ∷ r) (32 ∷ (decimal n ++ (32 ∷ s))) refl e)
value_told GG RG r s a b e = absurd (heads_apart 103 114 (103 ∷ 32 ∷ r) (103 ∷ 32 ∷ s) refl e)
value_told GG GR r s a b e = absurd (heads_apart 103 114 (32 ∷ r) (32 ∷ s) refl (ap (λ l. drop 1 l) e))
value_told GG GG r s a b e = (refl, ap (λ l. drop 3 l) e)
value_told GG Jam r s a b e = absurd (heads_apart 103 106 (103 ∷ 32 ∷ r) (97 ∷ 109 ∷ 32 ∷ s) refl e)
value_told Jam (Flow n) r s a b e = absurd (heads_apart 106 102 (97 ∷ 109 ∷ 32 ∷ r) (32 ∷ (decimal n ++ (32 ∷ s))) refl e)
value_told Jam RG r s a b e = absurd (heads_apart 106 114 (97 ∷ 109 ∷ 32 ∷ r) (103 ∷ 32 ∷ s) refl e)
value_told Jam GR r s a b e = absurd (heads_apart 106 103 (97 ∷ 109 ∷ 32 ∷ r) (114 ∷ 32 ∷ s) refl e)
value_told Jam GG r s a b e = absurd (heads_apart 106 103 (97 ∷ 109 ∷ 32 ∷ r) (103 ∷ 32 ∷ s) refl e)
value_told Jam Jam r s a b e = (refl, ap (λ l. drop 4 l) e)

-- The byte with which a line begins.
abbrev pub first_byte : LogLine → ℕ
first_byte (At p) = 97
first_byte (Drop j v side) = 100
first_byte (Empty j) = 101
first_byte (Split j) = 115

pub begins : (a : LogLine) (r : List ℕ) → first_or (line_text a ++ r) ≡ first_byte a
begins (At p) r = refl
begins (Drop j v side) r = refl
begins (Empty j) r = refl
begins (Split j) r = refl

other : {A : Type 0} (a b : LogLine) (r s : List ℕ) → nat_eq (first_byte a) (first_byte b) ≡ false → line_text a ++ r ≡ line_text b ++ s → A
other a b r s apart e = absurd (eqb-false (first_byte a) (first_byte b) apart (sym (begins a r) ∙ ap first_or e ∙ begins b s))

dropped_told : (j k : ℕ) (v w : JointValue) (side part : ℕ) (r s : List ℕ) → IsNumbered (Drop j v side) → IsNumbered (Drop k w part)
    → decimal j ++ (32 ∷ (value_words v ++ (32 ∷ (decimal side ++ (10 ∷ r))))) ≡ decimal k ++ (32 ∷ (value_words w ++ (32 ∷ (decimal part ++ (10 ∷ s)))))
    → (Drop j v side ≡ Drop k w part) × (r ≡ s)
dropped_told j k v w side part r s a b e =
    let x = space_told j k (value_words v ++ (32 ∷ (decimal side ++ (10 ∷ r)))) (value_words w ++ (32 ∷ (decimal part ++ (10 ∷ s)))) a.0 b.0 e in
    let y = value_told v w (decimal side ++ (10 ∷ r)) (decimal part ++ (10 ∷ s)) a.1 b.1 x.1 in
    let z = feed_told side part r s a.2 b.2 y.1 in
    let p = x.0 in
    let q = y.0 in
    let t = z.0 in
    ((λ i. Drop (p i) (q i) (t i)), z.1)

pub lines_are_told : LinesAreTold
lines_are_told (At p) (At q) r s a b e =
    let parts = feed_told p q r s a b (ap (λ l. drop 3 l) (sym (at_text p r) ∙ e ∙ at_text q s)) in
    (ap At parts.0, parts.1)
lines_are_told (At p) (Drop k w part) r s a b e = other (At p) (Drop k w part) r s refl e
lines_are_told (At p) (Empty k) r s a b e = other (At p) (Empty k) r s refl e
lines_are_told (At p) (Split k) r s a b e = other (At p) (Split k) r s refl e
lines_are_told (Drop j v side) (At q) r s a b e = other (Drop j v side) (At q) r s refl e
lines_are_told (Drop j v side) (Drop k w part) r s a b e =
    dropped_told j k v w side part r s a b (ap (λ l. drop 5 l) (sym (drop_text j v side r) ∙ e ∙ drop_text k w part s))
lines_are_told (Drop j v side) (Empty k) r s a b e = other (Drop j v side) (Empty k) r s refl e
lines_are_told (Drop j v side) (Split k) r s a b e = other (Drop j v side) (Split k) r s refl e
lines_are_told (Empty j) (At q) r s a b e = other (Empty j) (At q) r s refl e
lines_are_told (Empty j) (Drop k w part) r s a b e = other (Empty j) (Drop k w part) r s refl e
lines_are_told (Empty j) (Empty k) r s a b e =
    let parts = feed_told j k r s a b (ap (λ l. drop 6 l) (sym (empty_text j r) ∙ e ∙ empty_text k s)) in
    (ap Empty parts.0, parts.1)
lines_are_told (Empty j) (Split k) r s a b e = other (Empty j) (Split k) r s refl e
lines_are_told (Split j) (At q) r s a b e = other (Split j) (At q) r s refl e
lines_are_told (Split j) (Drop k w part) r s a b e = other (Split j) (Drop k w part) r s refl e
lines_are_told (Split j) (Empty k) r s a b e = other (Split j) (Empty k) r s refl e
lines_are_told (Split j) (Split k) r s a b e =
    let parts = feed_told j k r s a b (ap (λ l. drop 6 l) (sym (split_text j r) ∙ e ∙ split_text k s)) in
    (ap Split parts.0, parts.1)
