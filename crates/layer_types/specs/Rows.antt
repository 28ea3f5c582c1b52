-- The table that defines the layer types: the symbol, whether the lattice is centred, and the generators as coordinate triplets.
-- Numbers and symbols are taken after International Tables, Volume E; generators and origins are this project's choice.
use Prim.Native.String.{String}
use Rattle.std.specs.Prelude.{ℕ, ◌-◌, codes, Bool, true, false, List, [], ◌∷◌, map, slice_index_or}
use Rattle.motions.specs.Layers.{PlanarMotion}
use Rattle.motions.specs.WrittenMotions.{planar_written}

-- a row, with generators of this kind
pub record Row (A : Type 0) : Type 0 where
  pub symbol : List ℕ
  pub centred : Bool
  pub generators : List A

abbrev row : Bool → String → List String → Row (List ℕ)
row centred symbol triplets = record { symbol = codes symbol; centred = centred; generators = map codes triplets }

abbrev pub primitive : String → List String → Row (List ℕ)
primitive = row false

abbrev centred : String → List String → Row (List ℕ)
centred = row true

-- in the order of the numbers, from 1
unfoldable pub layer_rows : List (Row (List ℕ))
layer_rows =
    primitive "p1" [] ∷  -- 1
    primitive "p-1" ("-x,-y,-z" ∷ []) ∷  -- 2
    primitive "p112" ("-x,-y,z" ∷ []) ∷  -- 3
    primitive "p11m" ("x,y,-z" ∷ []) ∷  -- 4
    primitive "p11a" ("x+1/2,y,-z" ∷ []) ∷  -- 5
    primitive "p112/m" ("-x,-y,z" ∷ "-x,-y,-z" ∷ []) ∷  -- 6
    primitive "p112/a" ("-x+1/2,-y,z" ∷ "-x,-y,-z" ∷ []) ∷  -- 7
    primitive "p211" ("x,-y,-z" ∷ []) ∷  -- 8
    primitive "p2_111" ("x+1/2,-y,-z" ∷ []) ∷  -- 9
    centred "c211" ("x,-y,-z" ∷ []) ∷  -- 10
    primitive "pm11" ("-x,y,z" ∷ []) ∷  -- 11
    primitive "pb11" ("-x,y+1/2,z" ∷ []) ∷  -- 12
    centred "cm11" ("-x,y,z" ∷ []) ∷  -- 13
    primitive "p2/m11" ("x,-y,-z" ∷ "-x,-y,-z" ∷ []) ∷  -- 14
    primitive "p2_1/m11" ("x+1/2,-y,-z" ∷ "-x,-y,-z" ∷ []) ∷  -- 15
    primitive "p2/b11" ("x,-y+1/2,-z" ∷ "-x,-y,-z" ∷ []) ∷  -- 16
    primitive "p2_1/b11" ("x+1/2,-y+1/2,-z" ∷ "-x,-y,-z" ∷ []) ∷  -- 17
    centred "c2/m11" ("x,-y,-z" ∷ "-x,-y,-z" ∷ []) ∷  -- 18
    primitive "p222" ("-x,-y,z" ∷ "x,-y,-z" ∷ []) ∷  -- 19
    primitive "p2_122" ("x+1/2,-y,-z" ∷ "-x,y,-z" ∷ []) ∷  -- 20
    primitive "p2_12_12" ("-x,-y,z" ∷ "x+1/2,-y+1/2,-z" ∷ []) ∷  -- 21
    centred "c222" ("-x,-y,z" ∷ "x,-y,-z" ∷ []) ∷  -- 22
    primitive "pmm2" ("-x,-y,z" ∷ "-x,y,z" ∷ []) ∷  -- 23
    primitive "pma2" ("-x,-y,z" ∷ "x+1/2,-y,z" ∷ []) ∷  -- 24
    primitive "pba2" ("-x,-y,z" ∷ "x+1/2,-y+1/2,z" ∷ []) ∷  -- 25
    centred "cmm2" ("-x,-y,z" ∷ "-x,y,z" ∷ []) ∷  -- 26
    primitive "pm2m" ("-x,y,z" ∷ "x,y,-z" ∷ []) ∷  -- 27
    primitive "pm2_1b" ("-x,y,z" ∷ "x,y+1/2,-z" ∷ []) ∷  -- 28
    primitive "pb2_1m" ("-x,y+1/2,z" ∷ "x,y,-z" ∷ []) ∷  -- 29
    primitive "pb2b" ("-x,y+1/2,z" ∷ "x,y+1/2,-z" ∷ []) ∷  -- 30
    primitive "pm2a" ("-x,y,z" ∷ "x+1/2,y,-z" ∷ []) ∷  -- 31
    primitive "pm2_1n" ("-x,y,z" ∷ "x+1/2,y+1/2,-z" ∷ []) ∷  -- 32
    primitive "pb2_1a" ("-x,y+1/2,z" ∷ "x+1/2,y,-z" ∷ []) ∷  -- 33
    primitive "pb2n" ("-x,y+1/2,z" ∷ "x+1/2,y+1/2,-z" ∷ []) ∷  -- 34
    centred "cm2m" ("-x,y,z" ∷ "x,y,-z" ∷ []) ∷  -- 35
    centred "cm2e" ("-x,y,z" ∷ "x+1/2,y,-z" ∷ []) ∷  -- 36
    primitive "pmmm" ("-x,y,z" ∷ "x,-y,z" ∷ "x,y,-z" ∷ []) ∷  -- 37
    primitive "pmaa" ("-x,y,z" ∷ "x+1/2,-y,z" ∷ "x+1/2,y,-z" ∷ []) ∷  -- 38
    primitive "pban" ("-x,y+1/2,z" ∷ "x+1/2,-y,z" ∷ "x+1/2,y+1/2,-z" ∷ []) ∷  -- 39
    primitive "pmam" ("-x,y,z" ∷ "x+1/2,-y,z" ∷ "x,y,-z" ∷ []) ∷  -- 40
    primitive "pmma" ("-x,y,z" ∷ "x,-y,z" ∷ "x+1/2,y,-z" ∷ []) ∷  -- 41
    primitive "pman" ("-x,y,z" ∷ "x+1/2,-y,z" ∷ "x+1/2,y+1/2,-z" ∷ []) ∷  -- 42
    primitive "pbaa" ("-x,y+1/2,z" ∷ "x+1/2,-y,z" ∷ "x+1/2,y,-z" ∷ []) ∷  -- 43
    primitive "pbam" ("-x,y+1/2,z" ∷ "x+1/2,-y,z" ∷ "x,y,-z" ∷ []) ∷  -- 44
    primitive "pbma" ("-x,y+1/2,z" ∷ "x,-y,z" ∷ "x+1/2,y,-z" ∷ []) ∷  -- 45
    primitive "pmmn" ("-x,y,z" ∷ "x,-y,z" ∷ "x+1/2,y+1/2,-z" ∷ []) ∷  -- 46
    centred "cmmm" ("-x,y,z" ∷ "x,-y,z" ∷ "x,y,-z" ∷ []) ∷  -- 47
    centred "cmme" ("-x,y,z" ∷ "x,-y,z" ∷ "x+1/2,y,-z" ∷ []) ∷  -- 48
    primitive "p4" ("-y,x,z" ∷ []) ∷  -- 49
    primitive "p-4" ("y,-x,-z" ∷ []) ∷  -- 50
    primitive "p4/m" ("-y,x,z" ∷ "x,y,-z" ∷ []) ∷  -- 51
    primitive "p4/n" ("-y,x,z" ∷ "x+1/2,y+1/2,-z" ∷ []) ∷  -- 52
    primitive "p422" ("-y,x,z" ∷ "x,-y,-z" ∷ []) ∷  -- 53
    primitive "p42_12" ("-y,x,z" ∷ "x+1/2,-y+1/2,-z" ∷ []) ∷  -- 54
    primitive "p4mm" ("-y,x,z" ∷ "-x,y,z" ∷ []) ∷  -- 55
    primitive "p4bm" ("-y,x,z" ∷ "-x+1/2,y+1/2,z" ∷ []) ∷  -- 56
    primitive "p-42m" ("y,-x,-z" ∷ "x,-y,-z" ∷ []) ∷  -- 57
    primitive "p-42_1m" ("y,-x,-z" ∷ "x+1/2,-y+1/2,-z" ∷ []) ∷  -- 58
    primitive "p-4m2" ("y,-x,-z" ∷ "-x,y,z" ∷ []) ∷  -- 59
    primitive "p-4b2" ("y,-x,-z" ∷ "-x+1/2,y+1/2,z" ∷ []) ∷  -- 60
    primitive "p4/mmm" ("-y,x,z" ∷ "-x,y,z" ∷ "x,y,-z" ∷ []) ∷  -- 61
    primitive "p4/nbm" ("-y,x,z" ∷ "-x+1/2,y+1/2,z" ∷ "x+1/2,y+1/2,-z" ∷ []) ∷  -- 62
    primitive "p4/mbm" ("-y,x,z" ∷ "-x+1/2,y+1/2,z" ∷ "x,y,-z" ∷ []) ∷  -- 63
    primitive "p4/nmm" ("-y,x,z" ∷ "-x,y,z" ∷ "x+1/2,y+1/2,-z" ∷ []) ∷  -- 64
    primitive "p3" ("-y,x-y,z" ∷ []) ∷  -- 65
    primitive "p-3" ("-y,x-y,z" ∷ "-x,-y,-z" ∷ []) ∷  -- 66
    primitive "p312" ("-y,x-y,z" ∷ "-y,-x,-z" ∷ []) ∷  -- 67
    primitive "p321" ("-y,x-y,z" ∷ "y,x,-z" ∷ []) ∷  -- 68
    primitive "p3m1" ("-y,x-y,z" ∷ "-y,-x,z" ∷ []) ∷  -- 69
    primitive "p31m" ("-y,x-y,z" ∷ "y,x,z" ∷ []) ∷  -- 70
    primitive "p-31m" ("-y,x-y,z" ∷ "-y,-x,-z" ∷ "-x,-y,-z" ∷ []) ∷  -- 71
    primitive "p-3m1" ("-y,x-y,z" ∷ "y,x,-z" ∷ "-x,-y,-z" ∷ []) ∷  -- 72
    primitive "p6" ("x-y,x,z" ∷ []) ∷  -- 73
    primitive "p-6" ("-y,x-y,z" ∷ "x,y,-z" ∷ []) ∷  -- 74
    primitive "p6/m" ("x-y,x,z" ∷ "x,y,-z" ∷ []) ∷  -- 75
    primitive "p622" ("x-y,x,z" ∷ "y,x,-z" ∷ []) ∷  -- 76
    primitive "p6mm" ("x-y,x,z" ∷ "-y,-x,z" ∷ []) ∷  -- 77
    primitive "p-6m2" ("-y,x-y,z" ∷ "x,y,-z" ∷ "-y,-x,z" ∷ []) ∷  -- 78
    primitive "p-62m" ("-y,x-y,z" ∷ "x,y,-z" ∷ "y,x,z" ∷ []) ∷  -- 79
    primitive "p6/mmm" ("x-y,x,z" ∷ "y,x,-z" ∷ "x,y,-z" ∷ []) ∷  -- 80
    []

-- with the motions that the triplets write
abbrev pub with_motions : Row (List ℕ) → Row PlanarMotion
with_motions r = record { symbol = r.symbol; centred = r.centred; generators = map planar_written r.generators }

-- the row of a number
unfoldable pub layer_row : ℕ → Row PlanarMotion
unfolding layer_rows
layer_row n = with_motions (slice_index_or layer_rows (n - 1) (primitive "" []))
