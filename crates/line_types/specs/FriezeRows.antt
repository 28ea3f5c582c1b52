-- The table that defines the frieze types: the symbol (International Tables, Volume E) and the generators (chosen by this
-- project) as coordinate pairs.
use Rattle.std.specs.Prelude.{ℕ, ◌-◌, List, [], ◌∷◌, slice_index_or}
use Rattle.motions.specs.FriezeMotions.{FriezeOperation}
use Rattle.motions.specs.WrittenMotions.{frieze_written}
use Rattle.line_types.specs.Types.{Row, row, with_motions}

-- in the order of the numbers, from 1
unfoldable pub frieze_rows : List (Row (List ℕ))
frieze_rows =
    row "p1" [] ∷  -- 1
    row "p211" ("-x,-y" ∷ []) ∷  -- 2
    row "p1m1" ("-x,y" ∷ []) ∷  -- 3
    row "p11m" ("x,-y" ∷ []) ∷  -- 4
    row "p11g" ("x+1/2,-y" ∷ []) ∷  -- 5
    row "p2mm" ("-x,-y" ∷ "x,-y" ∷ []) ∷  -- 6
    row "p2mg" ("-x,-y" ∷ "x+1/2,-y" ∷ []) ∷  -- 7
    []

-- the row of a number
unfoldable pub frieze_row : ℕ → Row FriezeOperation
unfolding frieze_rows
frieze_row n = with_motions frieze_written (slice_index_or frieze_rows (n - 1) (row "" []))
