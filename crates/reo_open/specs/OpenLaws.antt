-- What stands in open circuits keeps the laws of a primitive.
use Rattle.std.proofs.Common.{ℕ, ◌≡◌, ◌<◌, false, Option, Some, None, refl, ap}
use Rattle.reo_values.specs.declared.value.Value.{Value}
use Rattle.reo_net_base.specs.declared.colouring.Chosen.{Chosen}
use Rattle.reo_net_base.specs.declared.form.Form.{Form}
use Rattle.reo_net_base.specs.Forms.{HasForm}
use Rattle.reo_net_base.specs.Lasting.{KeepsTables, LetsAllIn, GivesWhatItTakes, GivesFront, GivesOrigin}
use Rattle.reo_net_base.specs.Lawful.{IsLawful, SameShape, TreatsAlike, IsQuiet}
use Rattle.reo_kinds.specs.KindLaws.{kind_lawful, kind_shape, kind_alike, kind_quiet, same_shape, same_treatment}
use Rattle.reo_kinds.specs.TellingLaws.{kind_form, kind_lets_in, kind_carries, kind_front, kind_origin, kind_keeps_nothing, kind_lasting, kind_tables, one_table}
use Rattle.reo_open.specs.declared.opens.Open.{Open}
use Rattle.reo_open.specs.declared.opens.Open.TheVariants.{Border, Inner}
use Rattle.reo_open.specs.GateLaws.{gate_lawful}
use Rattle.reo_open.specs.Gates.{gate_behaviour}
use Rattle.reo_open.specs.Opens.{open_behaviour, open_settled, open_form, open_front, open_lasting}

pub open_lawful : (p : Open) → IsLawful (open_behaviour p)
open_lawful (Border g) = gate_lawful g
open_lawful (Inner kind) = kind_lawful kind

pub open_shape : (p : Open) (rows : Chosen) (taken : Option Value) → SameShape (open_behaviour p) (open_behaviour (open_settled p rows taken))
open_shape (Border g) rows taken = same_shape (gate_behaviour g)
open_shape (Inner kind) rows taken = kind_shape kind rows taken

pub open_alike : (p : Open) (rows : Chosen) (taken : Option Value) → TreatsAlike (open_behaviour p) (open_behaviour (open_settled p rows taken))
open_alike (Border g) rows taken = same_treatment (gate_behaviour g)
open_alike (Inner kind) rows taken = kind_alike kind rows taken

pub open_quiet : (p : Open) (rows : Chosen) → IsQuiet (open_behaviour p) rows → open_settled p rows None ≡ p
open_quiet (Border g) rows quiet = refl
open_quiet (Inner kind) rows quiet = ap Inner (kind_quiet kind rows quiet)

pub open_has_form : (p : Open) (side : ℕ) (of : Form) → side < (open_behaviour p).sides → open_form p side ≡ Some of → HasForm of (open_behaviour p) side
open_has_form (Border g) side of lt is = absurd cc
open_has_form (Inner kind) side of lt is = kind_form kind side of lt is

pub open_lets_all_in : (p : Open) → LetsAllIn (open_lasting p) (open_behaviour p)
open_lets_all_in (Border g) side row end item side_in row_in is_end takes is_open = refl
open_lets_all_in (Inner kind) side row end item side_in row_in is_end takes is_open = kind_lets_in kind side row end item side_in row_in is_end takes is_open

pub open_carries : (p : Open) → GivesWhatItTakes (open_lasting p) (open_behaviour p)
open_carries (Border g) side row end from item carries gives is = absurd cc
open_carries (Inner kind) side row end from item carries gives is = kind_carries kind side row end from item carries gives is

pub open_gives_front : (p : Open) → GivesFront (open_front p) (open_behaviour p)
open_gives_front (Border g) side row end item taken is gives alone = absurd cc
open_gives_front (Inner kind) side row end item taken is gives alone = kind_front kind side row end item taken is gives alone

pub open_gives_origin : (p : Open) → GivesOrigin (open_lasting p) (open_behaviour p)
open_gives_origin (Border g) side row end item origin same gives alone is = absurd cc
open_gives_origin (Inner kind) side row end item origin same gives alone is = kind_origin kind side row end item origin same gives alone is

pub open_keeps_nothing : (p : Open) (rows : Chosen) (taken : Option Value) → (open_lasting p).keeps ≡ false → open_settled p rows taken ≡ p
open_keeps_nothing (Border g) rows taken keeps = refl
open_keeps_nothing (Inner kind) rows taken keeps = ap Inner (kind_keeps_nothing kind rows taken keeps)

pub open_lasts : (p : Open) (rows : Chosen) (taken : Option Value) → open_lasting (open_settled p rows taken) ≡ open_lasting p
open_lasts (Border g) rows taken = refl
open_lasts (Inner kind) rows taken = kind_lasting kind rows taken

pub open_tables : (p : Open) (rows : Chosen) (taken : Option Value) → KeepsTables (open_lasting p) (open_behaviour p) (open_behaviour (open_settled p rows taken))
open_tables (Border g) rows taken side turn lt stays = one_table side turn (gate_behaviour g)
open_tables (Inner kind) rows taken side turn lt stays = kind_tables kind rows taken side turn lt stays
