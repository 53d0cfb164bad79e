-- The tests of items and of names are exact.
use Rattle.std.proofs.Common.{ℕ, ℤ, ◌≤◌, ◌≤ℤ◌, ◌&&◌, Bool, true, false, nat_le, List, [], ◌∷◌, length, slice_index_or, refl, arith, T}
use Rattle.std.proofs.lemmas.Bool.Decides.{nat_tests}
use Rattle.std.proofs.lemmas.List.Sums.{AllPass-from_list_all, list_all-from_AllPass}
use Rattle.std.specs.Bool.{Decides}
use Rattle.std.specs.List.{All, list_all}
use Rattle.std.specs.Int.Signed.{le_z, le_z_yes}
use Rattle.reo_values.specs.declared.value.Value as value
use Rattle.reo_values.specs.declared.kindred.Kindred as kindred
use Rattle.reo_values.specs.declared.value.Value.{Value}
use Rattle.reo_values.specs.declared.kindred.Kindred.{Kindred}
use Rattle.reo_values.specs.Kind.{IsIn, IsPlain, is_item, is_plain}
use Rattle.reo_values.specs.Names.{IsNameStart, IsNameByte, IsName, is_letter, is_name_byte, is_name}

-- Two tests decide both facts.
both_true : {a b : Bool} {P Q : Type 0} → Decides a P → Decides b Q → Decides (a && b) (P × Q)
both_true {a = true} p q = (λ h. (p.0 refl, q.0 h), λ h. q.1 h.1)
both_true {a = false} p q = (λ h. absurd cc, λ h. p.1 h.0)

-- What never holds, and what always does.
never : Decides false ⊥
never = (λ h. absurd cc, λ h. absurd h)

always : Decides true (Unit {0})
always = (λ h. tt, λ h. refl)

-- The order of numbers.
nat_le-is : (a b : ℕ) → Decides (nat_le a b) (a ≤ b)
nat_le-is a b = (λ h. grind (arith, nat_tests), λ h. grind (arith, nat_tests))

T_is : (b : Bool) → Decides b (T b)
T_is true = (λ h. tt, λ h. refl)
T_is false = (λ h. absurd cc, λ h. absurd h)

pub le_z-is : (a b : ℤ) → Decides (le_z a b) (a ≤ℤ b)
le_z-is a b = (λ h. le_z_yes ((T_is (le_z a b)).0 h), λ h. (T_is (le_z a b)).1 h.le)

-- The bytes of a text.
is_plain-is : (byte : ℕ) → Decides (is_plain byte) (IsPlain byte)
is_plain-is byte = (λ h. (grind (arith, nat_tests), grind (arith, nat_tests)), λ h. grind (arith, nat_tests))

-- A test of each byte decides the fact of all.
list_all-is : {test : ℕ → Bool} {Fact : ℕ → Type 0} → ((byte : ℕ) → Decides (test byte) (Fact byte))
    → (bytes : List ℕ) → Decides (list_all test bytes) (All Fact bytes)
list_all-is {test} {Fact} each bytes = (
  λ h k d below. (each (slice_index_or bytes k d)).0 (AllPass-from_list_all test bytes h k d below),
  λ all. list_all-from_AllPass test bytes (λ k d below. (each (slice_index_or bytes k d)).1 (all k d below)),
)

-- The test of an item.
pub is_item-is : (item : Value) (kindred : Kindred) → Decides (is_item item kindred) (IsIn item kindred)
is_item-is value.Unit kindred.Unit = always
is_item-is (value.Bool b) kindred.Bool = always
is_item-is (value.Int z) (kindred.Int low high) = both_true (le_z-is low z) (le_z-is z high)
is_item-is (value.Sym k) (kindred.Sym names) = (λ h. grind (arith, nat_tests), λ h. grind (arith, nat_tests))
is_item-is (value.Text bytes) (kindred.Text most) = both_true (nat_le-is (length bytes) most) (list_all-is is_plain-is bytes)
is_item-is (value.Pair' m (value.more_of-Couple x y _)) (kindred.Pair' n (kindred.more_of-Twins a b _)) = both_true (is_item-is x a) (is_item-is y b)
is_item-is _ _ = never

-- The test of a name.
is_letter-is : (byte : ℕ) → Decides (is_letter byte) (IsNameStart byte)
is_letter-is byte = (λ h. grind (arith, nat_tests), λ h. grind (arith, nat_tests))

is_name_byte-is : (byte : ℕ) → Decides (is_name_byte byte) (IsNameByte byte)
is_name_byte-is byte = (λ h. grind (arith, nat_tests), λ h. grind (arith, nat_tests))

pub is_name-is : (bytes : List ℕ) → Decides (is_name bytes) (IsName bytes)
is_name-is [] = never
is_name-is (byte ∷ bytes) = both_true (is_letter-is byte) (list_all-is is_name_byte-is bytes)
