-- The tables of sides, row by row. Ends stand in the order given; the jam row is left out.
use Rattle.std.specs.Prelude.{ℕ, [], ◌∷◌}
use Rattle.reo_net_base.specs.declared.mark.Mark.TheVariants.{F, G, R}
use Rattle.reo_net_base.specs.declared.table.Table.{Table}
use Rattle.reo_net_base.specs.declared.table.Table.TheVariants.{Ready, Resting, Together, Lossy, OneOfTwo, Filter, Spent}
use Rattle.reo_net_base.specs.Rows.{Rows}

abbrev pub rows_of : Table → Rows
-- a side with one end that can flow: of a writer, a taker, a mouth or a tail
rows_of Ready = (F ∷ []) ∷ (R ∷ []) ∷ []
-- one that cannot
rows_of Resting = (G ∷ []) ∷ []
-- sync, map and a quota with some left (in, out), and the synchronous drain (in, in)
rows_of Together = (F ∷ F ∷ []) ∷ (R ∷ G ∷ []) ∷ (G ∷ R ∷ []) ∷ []
-- lossy (in, out)
rows_of Lossy = (F ∷ F ∷ []) ∷ (F ∷ R ∷ []) ∷ (R ∷ G ∷ []) ∷ []
-- the asynchronous drain (in, in)
rows_of OneOfTwo = (F ∷ G ∷ []) ∷ (G ∷ F ∷ []) ∷ (R ∷ R ∷ []) ∷ []
-- filter (in, out)
rows_of Filter = (F ∷ F ∷ []) ∷ (F ∷ G ∷ []) ∷ (R ∷ G ∷ []) ∷ (G ∷ R ∷ []) ∷ []
-- a quota with none left (in, out)
rows_of Spent = (G ∷ G ∷ []) ∷ []

-- The place of a table among all of them.
abbrev pub place_in : Table → ℕ
place_in Ready = 0
place_in Resting = 1
place_in Together = 2
place_in Lossy = 3
place_in OneOfTwo = 4
place_in Filter = 5
place_in Spent = 6
