-- The planes of an orientation, height by height: which heights are special, and the operations at each.
use Rattle.std.specs.Prelude.{◌≡◌, ℕ, ℤ, pos, ◌+ℤ◌, ◌*ℤ◌, ◌≤ℤ◌, ◌<ℤ◌, ◌<◌, List, [], length, map, slice_index_or, All, AllPairs}
use Rattle.fractions.specs.declared.part.TheConstants.{UNIT}
use Rattle.fractions.specs.Fraction.{IsInLowestTerms, SameFraction}
use Rattle.symmetry.specs.Vectors.{Vector, dot, multiple, opposite}
use Rattle.symmetry.specs.Motions.{Motion, followed_by, translation}
use Rattle.symmetry.specs.Planes.{Height, IsHeight}
use Rattle.symmetry.specs.Groups.{Listing, FixesEveryPlane, InStabiliser}
use Rattle.symmetry.specs.Frames.{Basis, DiffersInPlane, IsAtHome, IsSpecial}
use Rattle.symmetry.specs.Lists.{IsHomeList, motion_at}

-- the height s + k d, where the period d is counted in parts
abbrev pub raised_height : ℤ → ℤ → Height → Height
raised_height d k s = record { num = s.num *ℤ UNIT +ℤ k *ℤ d *ℤ s.den; den = s.den *ℤ UNIT }

-- the plane of the one height lies below that of the other
abbrev pub IsLower : Height → Height → Type 0
IsLower s t = (s.num *ℤ t.den) <ℤ (t.num *ℤ s.den)

-- a height in lowest terms, from 0 to below d
pub record IsInPeriod (d : ℤ) (s : Height) : Type 0 where
  pub positive : IsHeight s
  pub lowest : IsInLowestTerms s
  pub from : pos 0 ≤ℤ s.num
  pub below : (s.num *ℤ UNIT) <ℤ (d *ℤ s.den)

-- a special height and the operations at it
pub record SpecialHeight : Type 0 where
  pub height : Height
  pub ops : List Motion

-- the operations at the general heights, and the special heights from 0 to below the period
pub record Scan : Type 0 where
  pub general : List Motion
  pub special : List SpecialHeight

-- the heights of a list of special ones
abbrev pub heights_of : List SpecialHeight → List Height
heights_of special = map (λ (h : SpecialHeight). h.height) special

-- the special height at a place of a list
abbrev pub special_at : List SpecialHeight → ℕ → SpecialHeight
special_at special i = slice_index_or special i (record { height = record { num = pos 0; den = pos 1 }; ops = [] })

-- the height is k periods above the special height at the place i of the list
pub record StandsAt (d : ℤ) (special : List SpecialHeight) (s : Height) (i : ℕ) (k : ℤ) : Type 0 where
  pub within : i < length special
  pub is : SameFraction s (raised_height d k (special_at special i).height)

-- the height is general, and stands over no listed height; or it is special, and stands over exactly one, by exactly one number of periods
pub data IsInOneClass (g : Listing) (r : Vector) (d : ℤ) (special : List SpecialHeight) (s : Height) : Type 0 where
  general : ¬ IsSpecial g r s → ((i : ℕ) (k : ℤ) → ¬ StandsAt d special s i k) → IsInOneClass g r d special s
  special : (i : ℕ) (k : ℤ) → IsSpecial g r s → StandsAt d special s i k
      → ((j : ℕ) (l : ℤ) → StandsAt d special s j l → (j ≡ i) × (l ≡ k)) → IsInOneClass g r d special s

-- the scan of a group and an orientation in a frame: every height is in one class; the general list is that of the motions
-- that map every plane to itself, and the list at a special height that of its stabiliser
pub record IsScan (g : Listing) (r : Vector) (f : Basis) (scan : Scan) : Type 0 where
  pub in_period : All (IsInPeriod (dot r f.tau)) (heights_of scan.special)
  pub rising : AllPairs IsLower (heights_of scan.special)
  pub classes : (s : Height) → IsHeight s → IsInOneClass g r (dot r f.tau) scan.special s
  pub general : IsHomeList g f (FixesEveryPlane g r) scan.general
  pub lists : All (λ (h : SpecialHeight). IsHomeList g f (InStabiliser g r h.height) h.ops) scan.special

-- first the translation by -t, then the motion, then the translation by t
abbrev pub conjugated : Vector → Motion → Motion
conjugated t m = followed_by (followed_by (translation (opposite t)) m) (translation t)

-- the motions of the one list, conjugated by t and brought home, are those of the other, place by place
pub record AreConjugated (g : Listing) (r : Vector) (f : Basis) (t : Vector) (ms ns : List Motion) : Type 0 where
  pub count : length ns ≡ length ms
  pub each : (i : ℕ) → i < length ms → DiffersInPlane g r (conjugated t (motion_at ms i)) (motion_at ns i) × IsAtHome f (motion_at ns i)

-- what a scan gives as the operations at a height: the general ones, or those at the special height over which it stands,
-- conjugated by k tau and brought home
pub data GivesAt (g : Listing) (r : Vector) (f : Basis) (scan : Scan) (s : Height) (ops : List Motion) : Type 0 where
  general : ((i : ℕ) (k : ℤ) → ¬ StandsAt (dot r f.tau) scan.special s i k) → ops ≡ scan.general → GivesAt g r f scan s ops
  special : (i : ℕ) (k : ℤ) → StandsAt (dot r f.tau) scan.special s i k
      → AreConjugated g r f (multiple k f.tau) (special_at scan.special i).ops ops → GivesAt g r f scan s ops
