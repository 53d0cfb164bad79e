-- The sides of a part.
use Rattle.std.proofs.Common.{◌≡◌, ◌≢◌, ℕ, ◌<◌, true, false, List, length, get_or, sym, ◌∙◌, arith}
use Rattle.std.specs.Prelude.{◌==◌, nat_lt}
use Rattle.reo_net_base.specs.Net.{Net}
use Rattle.reo_net_base.specs.Sides.{side_count}
use Rattle.reo_net_laws.specs.Parts.{SameKnot}
use Rattle.reo_net_laws.specs.Knots.{AreNumbers, in_knot}
use Rattle.std.proofs.lemmas.Bool.{false_from_ne_true as not_true, and_parts, eqb-true, ltb-true}

-- A side of a part has its number.
pub number_is : (numbers : List ℕ) (k s : ℕ) → in_knot numbers k s ≡ true → get_or numbers s 0 ≡ k
number_is numbers k s h = eqb-true (get_or numbers s 0) k ((and_parts (nat_lt s (length numbers)) (get_or numbers s 0 == k) h).1)

-- A side of a part is in no other part.
pub elsewhere : (numbers : List ℕ) (k m s : ℕ) → in_knot numbers k s ≡ true → m ≢ k → in_knot numbers m s ≡ false
elsewhere numbers k m s h ne = not_true (in_knot numbers m s) (λ g. ne (sym (number_is numbers m s g) ∙ number_is numbers k s h))

module _ (net : Net) (numbers : List ℕ) (count : ℕ) (are : AreNumbers (SameKnot net) (side_count net) numbers count) where
  -- The sides of a part are sides of the circuit.
  pub below : (k s : ℕ) → in_knot numbers k s ≡ true → s < side_count net
  below k s h =
      let lt = ltb-true s (length numbers) ((and_parts (nat_lt s (length numbers)) (get_or numbers s 0 == k) h).0) in
      let n = are.one_each in
      omega (arith, lt, n)
