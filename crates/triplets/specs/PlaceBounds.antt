-- How large the numbers are that a reader keeps, by how many bytes it has read of the line.
use Rattle.std.specs.Prelude.{ℕ, ◌*◌, ◌<◌, ◌≤◌, nat_abs}
use Rattle.triplets.specs.declared.part.Row.{Row}
use Rattle.triplets.specs.declared.part.PartReader.{PartReader}
use Rattle.triplets.specs.declared.part.Spot.{Spot}
use Rattle.triplets.specs.declared.part.Spot.TheVariants.{Begin, Signed, Digits, Divided, Below, Behind}
use Rattle.triplets.specs.declared.line.LinePlace.{LinePlace}
use Rattle.triplets.specs.declared.line.LinePlace.TheVariants as places
use Rattle.triplets.specs.declared.place.TextPlace.{TextPlace}
use Rattle.triplets.specs.declared.place.TextPlace.TheVariants as texts
use Rattle.triplets.specs.Denominators.{unit}

-- each byte moves by less than a thousand cell edges
abbrev pub IsRowWithin : ℕ → Row → Type 0
IsRowWithin n r = nat_abs r.translation ≤ 1000 * unit * n

-- a numerator has one to three digits, and a denominator is at most the parts of a cell edge
abbrev pub IsSpotWithin : Spot → Type 0
IsSpotWithin (Digits n v) = (1 ≤ n) × ((n ≤ 3) × ((v < 1000) × ((n ≤ 2 → v < 100) × (n ≤ 1 → v < 10))))
IsSpotWithin (Divided v) = v < 1000
IsSpotWithin (Below v d) = (v < 1000) × ((1 ≤ d) × (d ≤ unit))
IsSpotWithin Begin = Unit {0}
IsSpotWithin Signed = Unit {0}
IsSpotWithin Behind = Unit {0}

-- what is kept of a part after n bytes
abbrev pub IsPartWithin : ℕ → PartReader → Type 0
IsPartWithin n p = IsRowWithin n p.row × IsSpotWithin p.spot

-- what is kept of a line after n bytes
abbrev pub IsPlaceWithin : ℕ → LinePlace → Type 0
IsPlaceWithin n (places.Operation t) = IsPartWithin n t.part
IsPlaceWithin n (places.Coordinates v) = IsPartWithin n v.part
IsPlaceWithin n places.Start = Unit {0}
IsPlaceWithin n (places.Closed v) = Unit {0}
IsPlaceWithin n places.Behind = Unit {0}
IsPlaceWithin n (places.Comment o) = Unit {0}

-- what is kept of any line after n bytes
abbrev pub IsTextPlaceWithin : ℕ → TextPlace → Type 0
IsTextPlaceWithin n texts.Beginning = Unit {0}
IsTextPlaceWithin n (texts.Heading p) = Unit {0}
IsTextPlaceWithin n (texts.Line p) = IsPlaceWithin n p
