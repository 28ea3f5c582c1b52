-- The table that defines the rod types: the symbol (International Tables, Volume E) and the generators (chosen by this
-- project) as coordinate triplets.
use Rattle.std.specs.Prelude.{ℕ, ◌-◌, List, [], ◌∷◌, slice_index_or}
use Rattle.motions.specs.RodMotions.{RodOperation}
use Rattle.motions.specs.WrittenMotions.{rod_written}
use Rattle.line_types.specs.Types.{Row, row, with_motions}

-- in the order of the numbers, from 1
unfoldable pub rod_rows : List (Row (List ℕ))
rod_rows =
    row "p1" [] ∷  -- 1
    row "p-1" ("-x,-y,-z" ∷ []) ∷  -- 2
    row "p211" ("x,-y,-z" ∷ []) ∷  -- 3
    row "pm11" ("-x,y,z" ∷ []) ∷  -- 4
    row "pc11" ("-x,y,z+1/2" ∷ []) ∷  -- 5
    row "p2/m11" ("x,-y,-z" ∷ "-x,-y,-z" ∷ []) ∷  -- 6
    row "p2/c11" ("x,-y,-z+1/2" ∷ "-x,-y,-z" ∷ []) ∷  -- 7
    row "p112" ("-x,-y,z" ∷ []) ∷  -- 8
    row "p112_1" ("-x,-y,z+1/2" ∷ []) ∷  -- 9
    row "p11m" ("x,y,-z" ∷ []) ∷  -- 10
    row "p112/m" ("-x,-y,z" ∷ "x,y,-z" ∷ []) ∷  -- 11
    row "p112_1/m" ("-x,-y,z+1/2" ∷ "x,y,-z" ∷ []) ∷  -- 12
    row "p222" ("-x,-y,z" ∷ "x,-y,-z" ∷ []) ∷  -- 13
    row "p222_1" ("-x,-y,z+1/2" ∷ "x,-y,-z" ∷ []) ∷  -- 14
    row "pmm2" ("-x,-y,z" ∷ "-x,y,z" ∷ []) ∷  -- 15
    row "pcc2" ("-x,-y,z" ∷ "-x,y,z+1/2" ∷ []) ∷  -- 16
    row "pmc2_1" ("-x,-y,z+1/2" ∷ "-x,y,z" ∷ []) ∷  -- 17
    row "p2mm" ("x,-y,z" ∷ "x,y,-z" ∷ []) ∷  -- 18
    row "p2cm" ("x,-y,z+1/2" ∷ "x,y,-z" ∷ []) ∷  -- 19
    row "pmmm" ("-x,y,z" ∷ "x,-y,z" ∷ "x,y,-z" ∷ []) ∷  -- 20
    row "pccm" ("-x,y,z+1/2" ∷ "x,-y,z+1/2" ∷ "x,y,-z" ∷ []) ∷  -- 21
    row "pmcm" ("-x,y,z" ∷ "x,-y,z+1/2" ∷ "x,y,-z" ∷ []) ∷  -- 22
    row "p4" ("-y,x,z" ∷ []) ∷  -- 23
    row "p4_1" ("-y,x,z+1/4" ∷ []) ∷  -- 24
    row "p4_2" ("-y,x,z+1/2" ∷ []) ∷  -- 25
    row "p4_3" ("-y,x,z+3/4" ∷ []) ∷  -- 26
    row "p-4" ("y,-x,-z" ∷ []) ∷  -- 27
    row "p4/m" ("-y,x,z" ∷ "x,y,-z" ∷ []) ∷  -- 28
    row "p4_2/m" ("-y,x,z+1/2" ∷ "x,y,-z" ∷ []) ∷  -- 29
    row "p422" ("-y,x,z" ∷ "x,-y,-z" ∷ []) ∷  -- 30
    row "p4_122" ("-y,x,z+1/4" ∷ "x,-y,-z" ∷ []) ∷  -- 31
    row "p4_222" ("-y,x,z+1/2" ∷ "x,-y,-z" ∷ []) ∷  -- 32
    row "p4_322" ("-y,x,z+3/4" ∷ "x,-y,-z" ∷ []) ∷  -- 33
    row "p4mm" ("-y,x,z" ∷ "-x,y,z" ∷ []) ∷  -- 34
    row "p4_2cm" ("-y,x,z+1/2" ∷ "-x,y,z+1/2" ∷ []) ∷  -- 35
    row "p4cc" ("-y,x,z" ∷ "-x,y,z+1/2" ∷ []) ∷  -- 36
    row "p-42m" ("y,-x,-z" ∷ "x,-y,-z" ∷ []) ∷  -- 37
    row "p-42c" ("y,-x,-z" ∷ "x,-y,-z+1/2" ∷ []) ∷  -- 38
    row "p4/mmm" ("-y,x,z" ∷ "-x,y,z" ∷ "x,y,-z" ∷ []) ∷  -- 39
    row "p4/mcc" ("-y,x,z" ∷ "-x,y,z+1/2" ∷ "x,y,-z" ∷ []) ∷  -- 40
    row "p4_2/mmc" ("-y,x,z+1/2" ∷ "-x,y,z" ∷ "x,y,-z" ∷ []) ∷  -- 41
    row "p3" ("-y,x-y,z" ∷ []) ∷  -- 42
    row "p3_1" ("-y,x-y,z+1/3" ∷ []) ∷  -- 43
    row "p3_2" ("-y,x-y,z+2/3" ∷ []) ∷  -- 44
    row "p-3" ("-y,x-y,z" ∷ "-x,-y,-z" ∷ []) ∷  -- 45
    row "p312" ("-y,x-y,z" ∷ "-y,-x,-z" ∷ []) ∷  -- 46
    row "p3_112" ("-y,x-y,z+1/3" ∷ "-y,-x,-z" ∷ []) ∷  -- 47
    row "p3_212" ("-y,x-y,z+2/3" ∷ "-y,-x,-z" ∷ []) ∷  -- 48
    row "p3m1" ("-y,x-y,z" ∷ "-y,-x,z" ∷ []) ∷  -- 49
    row "p3c1" ("-y,x-y,z" ∷ "-y,-x,z+1/2" ∷ []) ∷  -- 50
    row "p-31m" ("-y,x-y,z" ∷ "-x,-y,-z" ∷ "y,x,z" ∷ []) ∷  -- 51
    row "p-31c" ("-y,x-y,z" ∷ "-x,-y,-z" ∷ "y,x,z+1/2" ∷ []) ∷  -- 52
    row "p6" ("x-y,x,z" ∷ []) ∷  -- 53
    row "p6_1" ("x-y,x,z+1/6" ∷ []) ∷  -- 54
    row "p6_2" ("x-y,x,z+1/3" ∷ []) ∷  -- 55
    row "p6_3" ("x-y,x,z+1/2" ∷ []) ∷  -- 56
    row "p6_4" ("x-y,x,z+2/3" ∷ []) ∷  -- 57
    row "p6_5" ("x-y,x,z+5/6" ∷ []) ∷  -- 58
    row "p-6" ("-y,x-y,z" ∷ "x,y,-z" ∷ []) ∷  -- 59
    row "p6/m" ("x-y,x,z" ∷ "x,y,-z" ∷ []) ∷  -- 60
    row "p6_3/m" ("x-y,x,z+1/2" ∷ "x,y,-z" ∷ []) ∷  -- 61
    row "p622" ("x-y,x,z" ∷ "y,x,-z" ∷ []) ∷  -- 62
    row "p6_122" ("x-y,x,z+1/6" ∷ "y,x,-z" ∷ []) ∷  -- 63
    row "p6_222" ("x-y,x,z+1/3" ∷ "y,x,-z" ∷ []) ∷  -- 64
    row "p6_322" ("x-y,x,z+1/2" ∷ "y,x,-z" ∷ []) ∷  -- 65
    row "p6_422" ("x-y,x,z+2/3" ∷ "y,x,-z" ∷ []) ∷  -- 66
    row "p6_522" ("x-y,x,z+5/6" ∷ "y,x,-z" ∷ []) ∷  -- 67
    row "p6mm" ("x-y,x,z" ∷ "-y,-x,z" ∷ []) ∷  -- 68
    row "p6cc" ("x-y,x,z" ∷ "-y,-x,z+1/2" ∷ []) ∷  -- 69
    row "p6_3mc" ("x-y,x,z+1/2" ∷ "-y,-x,z" ∷ []) ∷  -- 70
    row "p-6m2" ("-y,x-y,z" ∷ "x,y,-z" ∷ "-y,-x,z" ∷ []) ∷  -- 71
    row "p-6c2" ("-y,x-y,z" ∷ "x,y,-z" ∷ "-y,-x,z+1/2" ∷ []) ∷  -- 72
    row "p6/mmm" ("x-y,x,z" ∷ "-y,-x,z" ∷ "x,y,-z" ∷ []) ∷  -- 73
    row "p6/mcc" ("x-y,x,z" ∷ "-y,-x,z+1/2" ∷ "x,y,-z" ∷ []) ∷  -- 74
    row "p6_3/mmc" ("x-y,x,z+1/2" ∷ "-y,-x,z" ∷ "x,y,-z" ∷ []) ∷  -- 75
    []

-- the row of a number
unfoldable pub rod_row : ℕ → Row RodOperation
unfolding rod_rows
rod_row n = with_motions rod_written (slice_index_or rod_rows (n - 1) (row "" []))
