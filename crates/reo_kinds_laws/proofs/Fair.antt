-- The turns of mergers are fair.
use Rattle.std.proofs.Common.{ℕ, ◌+◌, ◌-◌, ◌%◌, ◌<◌, ◌≤◌, ◌≡◌, ◌≢◌, ◌⊎◌, inl, inr, ⊎_elim, refl, sym, ap, ◌∙◌, arith}
use Rattle.std.proofs.lemmas.Bool.{cases_lt, cases_eq}
use Rattle.std.proofs.lemmas.Bool.Decides.{nat_tests}
use Rattle.std.proofs.Math.Nat.{mod-lt, mod-eq_of_lt, mod-eq-sub-mod, mod-add-mod}
use Rattle.reo_net_base.specs.declared.mark.Mark.TheVariants.{F}
use Rattle.reo_net_base.specs.declared.branches.Branches.{Branches}
use Rattle.reo_net_base.specs.Branching.{merger_mark, merger_class, beginning}
use Rattle.reo_kinds_laws.specs.Turns.{ComesFirst, TurnsAreFair}

-- A number below twice another, less that other where it is not below it.
within : (m n : ℕ) → n < m + m → ((n < m) × (n % m ≡ n)) ⊎ ((m ≤ n) × (n % m + m ≡ n))
within m n h = ⊎_elim
    (λ small. inl (small, mod-eq_of_lt small))
    (λ large. let below : n - m < m = omega (arith, h, large) in let rest : n % m ≡ n - m = mod-eq-sub-mod large ∙ mod-eq_of_lt below in inr (large, omega (arith, rest, large)))
    (cases_lt n m)

-- The row by which an input flows is its own.
own_row : (m input row : ℕ) → input < m → merger_mark m row input ≡ F → row ≡ input
own_row m input row h flows = grind (arith, nat_tests, flows)

own_flows : (m input : ℕ) → input < m → merger_mark m input input ≡ F
own_flows m input h = grind (arith, nat_tests)

-- The input with which a merger begins has class 0, and no other row has.
class_first : (m input turn : ℕ) → input < m → beginning m turn ≡ input → merger_class m input turn ≡ 0
class_first m input turn h begins =
    let turned = within m (input + m - beginning m turn) (omega (arith, h, begins)) in
    grind (arith, nat_tests, turned, begins)

class_later : (m input other turn : ℕ) → input < m → beginning m turn ≡ input → other ≢ input → 0 < merger_class m other turn
class_later m input other turn h begins differs = ⊎_elim
    (λ below. let turned = within m (other + m - beginning m turn) (omega (arith, h, below)) in grind (arith, nat_tests, turned, begins, below, differs))
    (λ above. grind (arith, nat_tests, above))
    (cases_lt other m)

comes_first : (branches : Branches) (input turn : ℕ) → input < branches.count → beginning branches.count turn ≡ input → ComesFirst branches input turn
comes_first branches input turn h begins row other row_in other_in flows rests =
    let m : ℕ = branches.count in
    let own : row ≡ input = own_row m input row h flows in
    let differs : other ≢ input = λ e. rests (rw e (own_flows m input h)) in
    let first : merger_class m row turn ≡ 0 = ap (λ (r : ℕ). merger_class m r turn) own ∙ class_first m input turn h begins in
    let later : 0 < merger_class m other turn = class_later m input other turn h begins differs in
    omega (arith, first, later)

-- No input comes first but that with which the merger begins.
begins_with : (branches : Branches) (input turn : ℕ) → input < branches.count → ComesFirst branches input turn → beginning branches.count turn ≡ input
begins_with branches input turn h first =
    let m : ℕ = branches.count in
    let b : ℕ = beginning m turn in
    let below : b < m = mod-lt (turn - 1) (omega (arith, h)) in
    ⊎_elim
    (λ same. same)
    (λ differs.
    let zero_class : merger_class m b turn ≡ 0 = class_first m b turn below refl in
    let less : merger_class m input turn < merger_class m b turn =
    first input b (omega (arith, h)) (omega (arith, below)) (own_flows m input h) (λ flows. differs (own_row m input b h flows)) in
    absurd (omega (arith, zero_class, less)))
    (cases_eq b input)

-- The merger begins later with the input that is so many further.
further : (m start later : ℕ) → 1 ≤ start → beginning m (start + later) ≡ ((start - 1) % m + later) % m
further m start later h =
    let shift : start + later - 1 ≡ start - 1 + later = omega (arith, h) in
    ap (λ (n : ℕ). n % m) shift ∙ sym (mod-add-mod (start - 1) m later)

-- How many rounds later it begins with an input, from the one with which it begins.
steps_to : (m from input : ℕ) → from < m → input < m → (later : ℕ) × (later < m) × ((from + later) % m ≡ input)
steps_to m from input h k = ⊎_elim
    (λ behind. let turned = within m (from + (input + m - from)) (omega (arith, h, k, behind)) in (input + m - from, omega (arith, h, k, behind), grind (arith, turned, h, k, behind)))
    (λ ahead. let turned = within m (from + (input - from)) (omega (arith, h, k, ahead)) in (input - from, omega (arith, h, k, ahead), grind (arith, turned, h, k, ahead)))
    (cases_lt input from)

one_step : (m from later other : ℕ) → from < m → later < m → other < m → (from + other) % m ≡ (from + later) % m → other ≡ later
one_step m from later other h k l same =
    let one = within m (from + later) (omega (arith, h, k)) in
    let two = within m (from + other) (omega (arith, h, l)) in
    grind (arith, one, two, same, h, k, l)

pub fair : TurnsAreFair
fair branches input start h some =
    let m : ℕ = branches.count in
    let from_in : (start - 1) % m < m = mod-lt (start - 1) (omega (arith, h)) in
    let step = steps_to m ((start - 1) % m) input from_in h in
    record {
      place = step.0;
      below = step.1;
      holds = comes_first branches input (start + step.0) h (further m start step.0 some ∙ step.2);
      only = λ other other_in first.
          one_step m ((start - 1) % m) step.0 other from_in step.1 other_in (sym (further m start other some) ∙ begins_with branches input (start + other) h first ∙ sym step.2);
    }
