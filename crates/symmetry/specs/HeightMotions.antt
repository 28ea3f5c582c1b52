-- How the operations of a group move the planes of an orientation.
use Rattle.std.specs.Prelude.{◌≡◌, ◌⊎◌, ℤ, pos, negsuc, ◌+ℤ◌, ◌*ℤ◌, ◌≤ℤ◌, ◌<ℤ◌, List, All, AllPairs, Any, Contains}
use Rattle.fractions.specs.declared.part.TheConstants.{UNIT}
use Rattle.symmetry.specs.Vectors.{Vector, dot, multiple, row_times}
use Rattle.symmetry.specs.Motions.{Motion}
use Rattle.symmetry.specs.Planes.{Height}
use Rattle.symmetry.specs.Groups.{Listing}

-- 1 or -1
abbrev pub IsSign : ℤ → Type 0
IsSign e = (e ≡ pos 1) ⊎ (e ≡ negsuc 0)

-- the planes s go to the planes e s + t, with t in parts
pub record HeightMotion : Type 0 where
  pub sign : ℤ
  pub shift : ℤ

-- the motion moves the planes so, but for a whole number of periods: (hkl) W = e (hkl) and (hkl).w = t + k d
pub record MovesPlanes (r : Vector) (d : ℤ) (m : Motion) (h : HeightMotion) : Type 0 where
  pub row : row_times r m.matrix ≡ multiple h.sign r
  pub periods : ℤ
  pub shift : dot r m.translation ≡ h.shift +ℤ periods *ℤ d

-- with a whole number of periods it takes the plane of the one height to that of the other: e s + t + k d = s'
abbrev pub TakesHeight : ℤ → Height → Height → HeightMotion → Type 0
TakesHeight d s s' h = (k : ℤ)
    × ((h.sign *ℤ s.num *ℤ UNIT +ℤ s.den *ℤ (h.shift +ℤ k *ℤ d)) *ℤ s'.den ≡ s'.num *ℤ (UNIT *ℤ s.den))

-- what the listed operations that keep the orientation do to its planes, each once, modulo the period
pub record AreHeightMotions (g : Listing) (r : Vector) (d : ℤ) (hs : List HeightMotion) : Type 0 where
  pub signs : All (λ (h : HeightMotion). IsSign h.sign) hs
  pub from : All (λ (h : HeightMotion). pos 0 ≤ℤ h.shift) hs
  pub below : All (λ (h : HeightMotion). h.shift <ℤ d) hs
  pub listed : All (λ h. (m : Motion) × Contains g.ops m × MovesPlanes r d m h) hs
  pub apart : AllPairs (λ h k. ¬ (h ≡ k)) hs
  pub every : (m : Motion) (e : ℤ) → Contains g.ops m → IsSign e → row_times r m.matrix ≡ multiple e r
      → Any (λ (h : HeightMotion). (h.sign ≡ e) × MovesPlanes r d m h) hs
