-- What a first assignment says of jams.
use Rattle.std.proofs.Common.{◌≡◌, ℕ, Bool, true, false, not, refl, arith}
use Rattle.std.specs.Prelude.{IsTrue, ◌↔◌}
use Rattle.reo_net_base.specs.Net.{Net}
use Rattle.reo_net_base.specs.Wired.{IsWired}
use Rattle.reo_net_laws.specs.FirstLaws.{KnotJamsExactly}
use Rattle.reo_net_laws.specs.Jams.{jams}
use Rattle.reo_net_laws.specs.Parts.{IsClosed, IsKnot}
use Rattle.reo_weights.specs.Laws.{WeightIsOne}
use Rattle.reo_weights.specs.Over.{IsWithin}
use Rattle.reo_weights.specs.declared.exceeds.Exceeds.{Exceeds}
use Rattle.reo_weights.specs.declared.exceeds.Exceeds.TheVariants as faults
use Rattle.reo_search.specs.First.{IsFirstWithin, IsSearchFault, HasNoThreeColouring}
use Rattle.reo_walk.specs.declared.part.Part.{Part}
use Rattle.reo_listing.specs.rows.Meeting.{IsMeeting}
use Rattle.std.proofs.lemmas.Bool.{false_from_ne_true as not_jam}

module _ (net : Net) (inside : ℕ → Bool) (wired : IsWired net) (is_knot : IsKnot net inside) (exactly : KnotJamsExactly) (budget turn : ℕ) (part : Part) (first : IsFirstWithin budget net inside turn part) where
  met_by : (jammed : Bool) → (jammed ≡ true → HasNoThreeColouring net inside) → (HasNoThreeColouring net inside → jammed ≡ true) → IsMeeting net inside (not jammed)
  met_by true there back = record { some = λ e. absurd cc; none = λ e. there refl }
  met_by false there back = record {
    some = λ e. (
      first.first.rows,
      first.first.items,
      record {
        assignment = first.first.first.assignment;
        no_jam = λ k lt k_in. not_jam (jams net first.first.rows k) (λ is.
            let none = (exactly net wired inside is_knot turn first.first.rows first.first.items first.first.first k lt k_in).0 is in
            let wrong : false ≡ true = back none in cc);
      },
    );
    none = λ e. absurd cc;
  }

  pub meeting : IsTrue part.jammed ↔ HasNoThreeColouring net inside → IsMeeting net inside (not part.jammed)
  meeting says = met_by part.jammed says.0 says.1

-- A part within the budget is searched, unless memory runs out.
pub only_memory : (net : Net) (inside : ℕ → Bool) → IsWired net → IsClosed net inside → WeightIsOne → (budget knot : ℕ) → IsWithin budget net inside → (fault : Exceeds) → IsSearchFault budget net inside knot fault → fault ≡ faults.NoMemory
only_memory net inside wired closed one budget knot within (faults.Wide k) is = absurd (within.narrow is.1)
only_memory net inside wired closed one budget knot within (faults.Spent k weight) is =
    let same = one net wired inside closed within.weight weight within.weighs is.2.weighs in
    let few = within.few in
    let many = is.2.many in
    absurd (omega (arith, same, few, many))
only_memory net inside wired closed one budget knot within faults.NoMemory is = refl
