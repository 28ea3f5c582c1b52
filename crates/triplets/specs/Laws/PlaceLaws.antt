-- There is one proof at most that what is kept is within its bounds.
use Rattle.std.specs.Prelude.{ℕ}
use Rattle.std.specs.Coded.{×_prop, →_prop, Unit-prop, le_prop}
use Rattle.triplets.specs.declared.part.Spot.{Spot}
use Rattle.triplets.specs.declared.part.Spot.TheVariants.{Begin, Signed, Digits, Divided, Below, Behind}
use Rattle.triplets.specs.declared.line.LinePlace.{LinePlace}
use Rattle.triplets.specs.declared.line.LinePlace.TheVariants as places
use Rattle.triplets.specs.declared.place.TextPlace.{TextPlace}
use Rattle.triplets.specs.declared.place.TextPlace.TheVariants as texts
use Rattle.triplets.specs.PlaceBounds.{IsSpotWithin, IsPlaceWithin, IsTextPlaceWithin}

IsSpotWithin-prop : (s : Spot) → IsProp (IsSpotWithin s)
IsSpotWithin-prop (Digits n v) = ×_prop le_prop (×_prop le_prop (×_prop le_prop (×_prop (→_prop le_prop) (→_prop le_prop))))
IsSpotWithin-prop (Divided v) = le_prop
IsSpotWithin-prop (Below v d) = ×_prop le_prop (×_prop le_prop le_prop)
IsSpotWithin-prop Begin = Unit-prop
IsSpotWithin-prop Signed = Unit-prop
IsSpotWithin-prop Behind = Unit-prop

IsPlaceWithin-prop : (n : ℕ) (p : LinePlace) → IsProp (IsPlaceWithin n p)
IsPlaceWithin-prop n (places.Operation t) = ×_prop le_prop (IsSpotWithin-prop t.part.spot)
IsPlaceWithin-prop n (places.Coordinates v) = ×_prop le_prop (IsSpotWithin-prop v.part.spot)
IsPlaceWithin-prop n places.Start = Unit-prop
IsPlaceWithin-prop n (places.Closed v) = Unit-prop
IsPlaceWithin-prop n places.Behind = Unit-prop
IsPlaceWithin-prop n (places.Comment o) = Unit-prop

-- there is one proof of it at most
pub IsTextPlaceWithin-prop : (n : ℕ) (p : TextPlace) → IsProp (IsTextPlaceWithin n p)
IsTextPlaceWithin-prop n texts.Beginning = Unit-prop
IsTextPlaceWithin-prop n (texts.Heading p) = Unit-prop
IsTextPlaceWithin-prop n (texts.Line p) = IsPlaceWithin-prop n p
