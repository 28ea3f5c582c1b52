-- Where a height stands, as the code says it.
use Rattle.std.specs.Prelude.{◌≡◌, ◌↔◌, ℕ, ℤ, List}
use Rattle.symmetry.specs.Planes.{Height}
use Rattle.symmetry.specs.Scans.{SpecialHeight, StandsAt}
use Rattle.scanning.specs.declared.class.Place.{Place}
use Rattle.scanning.specs.declared.class.Place.TheVariants.{General, Special}

-- it is over no listed height, or so many periods above this one
pub record IsPlaceOf (d : ℤ) (special : List SpecialHeight) (s : Height) (place : Place) : Type 0 where
  pub over : (i : ℕ) (k : ℤ) → (place ≡ Special i k) ↔ StandsAt d special s i k
  pub none : (place ≡ General) ↔ ((i : ℕ) (k : ℤ) → ¬ StandsAt d special s i k)
