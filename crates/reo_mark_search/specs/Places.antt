-- The places of a key, side by side.
use Rattle.std.specs.Prelude.{ℕ, cond, List, [], ◌∷◌}
use Rattle.reo_net_base.specs.First.{Position}
use Rattle.reo_net_base.specs.Net.{Net}
use Rattle.reo_net_laws.specs.Keys.{class_of, leads_at}

-- The class of a side, and its row.
abbrev pub class_place : Net → ℕ → ℕ → Position
class_place net turn k = record { side = k; number = class_of net turn k }

abbrev pub row_place : ℕ → Position
row_place k = record { side = k; number = λ row. row }

-- The classes of those of some sides that lead, those of all of them, and their rows.
abbrev pub lead_places : Net → ℕ → List ℕ → List Position
lead_places net turn [] = []
lead_places net turn (k ∷ ks) = cond (leads_at net k) (class_place net turn k ∷ lead_places net turn ks) (lead_places net turn ks)

abbrev pub class_places : Net → ℕ → List ℕ → List Position
class_places net turn [] = []
class_places net turn (k ∷ ks) = class_place net turn k ∷ class_places net turn ks

abbrev pub row_places : List ℕ → List Position
row_places [] = []
row_places (k ∷ ks) = row_place k ∷ row_places ks
