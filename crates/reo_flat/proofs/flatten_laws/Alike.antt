-- Types that are the same, and types that lie inside others.
use denote.Hole.Carrier.{hidden}
use Rattle.std.proofs.Common.{◌≡◌, ℤ, ◌≤ℤ◌, Bool, true, false, refl, T}
use Rattle.std.specs.Int.Signed.{le_z, le_z_yes}
use Rattle.reo_values.specs.declared.kindred.Kindred as kindred
use Rattle.reo_values.specs.declared.kindred.Kindred.{Kindred}
use Rattle.reo_values.specs.declared.kindred.Kindred.TheVariants as kinds
use Rattle.reo_values.specs.declared.kindred.Kindred.TheBlock.{hidden-the_row-Twins-0}
use Rattle.reo_exprs.specs.Kinds.{kind_of}

told : (b : Bool) → b ≡ true → T b
told true h = tt
told false h = absurd (cc)

pub in_order : (a b : ℤ) → le_z a b ≡ true → a ≤ℤ b
in_order a b h = le_z_yes (told (le_z a b) h)

-- The type of truth values is the one of its kind.
pub truth_kind : (t : Kindred) → kind_of t ≡ kinds.Bool → t ≡ kinds.Bool
unfolding hidden-the_row-Twins-0 hidden
truth_kind kindred.Unit h = absurd (cc)
truth_kind kindred.Bool h = refl
truth_kind (kindred.Int low high) h = absurd (cc)
truth_kind (kindred.Sym names) h = absurd (cc)
truth_kind (kindred.Text most) h = absurd (cc)
truth_kind (kindred.Pair' n (kindred.more_of-Twins a b kindred.end_of-Twins)) h = absurd (cc)
