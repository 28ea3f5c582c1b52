-- What a scan of the planes (h k 0) of a plane group tells of its lines.
use Rattle.std.proofs.Common.{◌≡◌, ℕ, zero, suc, ◌<◌, ℤ, pos, negsuc, ◌*ℤ◌, ◌≤ℤ◌, ◌<ℤ◌, List, [], ◌∷◌, length, map, refl, ap, subst, arith}
use Rattle.std.specs.Prelude.{All}
use Rattle.std.specs.List.{AllZip}
use Rattle.std.proofs.lemmas.List.{get_or-map, length-map}
use Rattle.std.proofs.lemmas.List.Elements.{All-weaker}
use Rattle.fractions.specs.Fraction.{SameFraction}
use Rattle.fractions.specs.FractionOf.{fraction_of}
use Rattle.fractions.specs.declared.part.TheConstants.{UNIT}
use Rattle.integers.proofs.Order.{mul_left_cancel_pos}
use Rattle.integers.proofs.Solver.{Expr.{var, num, neg, ◌⊕◌, ◌⊗◌}, linear, ring, given}
use Rattle.symmetry.specs.Vectors.{Vector, dot}
use Rattle.symmetry.specs.Motions.{Motion}
use Rattle.symmetry.specs.Planes.{Height}
use Rattle.symmetry.specs.Groups.{Listing, InStabiliser, SameModulo}
use Rattle.symmetry.specs.Frames.{Basis, IsAtHome, IsSpecial}
use Rattle.symmetry.specs.Lists.{IsListOf}
use Rattle.symmetry.specs.Scans as scans
use Rattle.symmetry.specs.Scans.{IsInPeriod, IsScan, SpecialHeight, raised_height, special_at}
use Rattle.symmetry.specs.Sizes.{IsSmall}
use Rattle.symmetry.proofs.Heights.{at_in_period}
use Rattle.closure.specs.Operations.{HasSmallEntries}
use Rattle.plane_lattice.specs.Sections.{height_in_steps}
use Rattle.scanning.specs.HeightView.{special_of, specials_of}
use Rattle.scanning.specs.ScanView.{scan_of}
use Rattle.scanning.specs.declared.height.Height.{Height as CodeHeight}
use Rattle.scanning.specs.declared.scan.Scan.{Scan}
use Rattle.line_scans.specs.LineOps.{IsStep}

-- ---- the special heights

-- small motions, the list of the stabiliser of a special height from 0 to below the period
pub record IsSpecialAt (g : Listing) (r : Vector) (f : Basis) (h : SpecialHeight) : Type 0 where
  pub small : All IsSmall h.ops
  pub list : IsListOf (SameModulo g) g.ops (IsAtHome f) (InStabiliser g r h.height) h.ops
  pub in_period : IsInPeriod (dot r f.tau) h.height
  pub special : IsSpecial g r h.height

abbrev no_height : SpecialHeight
no_height = record { height = record { num = pos 0; den = pos 1 }; ops = [] }

-- a height stands over itself
itself : (d : ℤ) (s : Height) → SameFraction s (raised_height d (pos 0) s)
itself d s = ring (s.num ∷ s.den ∷ d ∷ []) (var 0 ⊗ (var 1 ⊗ num UNIT)) ((var 0 ⊗ num UNIT ⊕ num (pos 0) ⊗ var 2 ⊗ var 1) ⊗ var 1) tt

pub small_ops : (ms : List Motion) → All HasSmallEntries ms → All IsSmall ms
small_ops ms small = All-weaker HasSmallEntries IsSmall (λ (m : Motion) (h : HasSmallEntries m). h.small) ms small

module _ (g : Listing) (r : Vector) (f : Basis) (scan : Scan) (is : IsScan g r f (scan_of scan)) where
  special_listed : (i : ℕ) → i < length (specials_of scan.special.items) → IsSpecial g r (special_at (specials_of scan.special.items) i).height
  special_listed i l =
      let s = (special_at (specials_of scan.special.items) i).height in
      of_class (is.classes s (at_in_period (dot r f.tau) (specials_of scan.special.items) is.in_period is.rising i l).positive)
    where
      of_class : scans.IsInOneClass g r (dot r f.tau) (specials_of scan.special.items) (special_at (specials_of scan.special.items) i).height
          → IsSpecial g r (special_at (specials_of scan.special.items) i).height
      of_class (scans.IsInOneClass.general not none) =
          absurd (none i (pos 0) (record { within = l; is = itself (dot r f.tau) (special_at (specials_of scan.special.items) i).height }))
      of_class (scans.IsInOneClass.special j k special stands only) = special

  pub special_lists : All (λ h. IsSpecialAt g r f (special_of h)) scan.special.items
  special_lists i d l =
      let hs = scan.special.items in
      let within : i < length (specials_of hs) = omega (arith, length-map hs special_of) in
      subst (IsSpecialAt g r f) (get_or-map special_of hs i d no_height l)
      (record {
        small = λ k m h. (scan.special_small i no_height within k m h).small;
        list = is.lists i no_height within;
        in_period = at_in_period (dot r f.tau) (specials_of hs) is.in_period is.rising i within;
        special = special_listed i within;
      })

-- ---- steps

step_of_fraction : (n q d k v : ℤ) → pos 1 ≤ℤ q → q *ℤ v ≡ pos 2 *ℤ n *ℤ UNIT → n *ℤ (pos 2 *ℤ UNIT *ℤ UNIT) ≡ k *ℤ d *ℤ q → k *ℤ d ≡ v *ℤ UNIT
step_of_fraction n q d k v high level steps =
    mul_left_cancel_pos q (k *ℤ d) (v *ℤ UNIT) high
    (linear (n ∷ q ∷ d ∷ k ∷ v ∷ []) (var 1 ⊗ (var 3 ⊗ var 2)) (var 1 ⊗ (var 4 ⊗ num UNIT))
    (given (num (negsuc 0)) (var 0 ⊗ num (pos 2 *ℤ UNIT *ℤ UNIT)) (var 3 ⊗ var 2 ⊗ var 1)
    ∷ given (neg (num UNIT)) (var 1 ⊗ var 4) (num (pos 2) ⊗ var 0 ⊗ num UNIT) ∷ []) tt (steps, (level, tt)))

fraction_of_step : (n q d k v : ℤ) → q *ℤ v ≡ pos 2 *ℤ n *ℤ UNIT → k *ℤ d ≡ v *ℤ UNIT → n *ℤ (pos 2 *ℤ UNIT *ℤ UNIT) ≡ k *ℤ d *ℤ q
fraction_of_step n q d k v level steps =
    linear (n ∷ q ∷ d ∷ k ∷ v ∷ []) (var 0 ⊗ num (pos 2 *ℤ UNIT *ℤ UNIT)) (var 3 ⊗ var 2 ⊗ var 1)
    (given (neg (var 1)) (var 3 ⊗ var 2) (var 4 ⊗ num UNIT) ∷ given (neg (num UNIT)) (var 1 ⊗ var 4) (num (pos 2) ⊗ var 0 ⊗ num UNIT) ∷ [])
    tt (steps, (level, tt))

pub step_from : (d : ℤ) (h : CodeHeight) (k : ℤ) → pos 1 ≤ℤ (fraction_of h.s).den → pos 0 ≤ℤ k → k <ℤ (pos 2 *ℤ UNIT)
    → SameFraction (fraction_of h.s) (height_in_steps d k) → IsStep d h.level k
step_from d h k high from below same = record { from = from; below = below; is = step_of_fraction h.s.num h.s.den d k h.level high h.is_level same }

pub steps_of : (d : ℤ) (h : CodeHeight) (k : ℤ) → IsStep d h.level k → SameFraction (fraction_of h.s) (height_in_steps d k)
steps_of d h k step = fraction_of_step h.s.num h.s.den d k h.level h.is_level step.is

-- ---- lists side by side

pub zip_all : {A B : Type 0} (Q : A → Type 0) (R : A → B → Type 0) (xs : List A) (ys : List B) → All Q xs → AllZip R xs ys → AllZip (λ x y. Q x × R x y) xs ys
zip_all Q R [] [] all zip = zip
zip_all Q R [] (y ∷ ys) all zip = absurd zip
zip_all Q R (x ∷ xs) [] all zip = absurd zip
zip_all Q R (x ∷ xs) (y ∷ ys) all zip = ((all 0 x (omega arith), zip.0), zip_all Q R xs ys (λ k d h. all (suc k) d (omega arith)) zip.1)

pub all_of_zip : {A B C : Type 0} (R : A → B → Type 0) (P : C → Type 0) (f : B → C) → ((x : A) (y : B) → R x y → P (f y)) → (xs : List A) (ys : List B)
    → AllZip R xs ys → All P (map f ys)
all_of_zip R P f to [] [] zip k d h = absurd (omega (arith, h))
all_of_zip R P f to [] (y ∷ ys) zip k d h = absurd zip
all_of_zip R P f to (x ∷ xs) [] zip k d h = absurd zip
all_of_zip R P f to (x ∷ xs) (y ∷ ys) zip zero d h = to x y zip.0
all_of_zip R P f to (x ∷ xs) (y ∷ ys) zip (suc k) d h = all_of_zip R P f to xs ys zip.1 k d (omega arith)

pub same_of_zip : {A B C : Type 0} (R : A → B → Type 0) (e : A → C) (f : B → C) → ((x : A) (y : B) → R x y → f y ≡ e x) → (xs : List A) (ys : List B)
    → AllZip R xs ys → map f ys ≡ map e xs
same_of_zip R e f to [] [] zip = refl
same_of_zip R e f to [] (y ∷ ys) zip = absurd zip
same_of_zip R e f to (x ∷ xs) [] zip = absurd zip
same_of_zip R e f to (x ∷ xs) (y ∷ ys) zip = λ i. to x y zip.0 i ∷ same_of_zip R e f to xs ys zip.1 i

pub map_map : {A B C : Type 0} (f : A → B) (h : B → C) (xs : List A) → map h (map f xs) ≡ map (λ x. h (f x)) xs
map_map f h [] = refl
map_map f h (x ∷ xs) = ap (λ l. h (f x) ∷ l) (map_map f h xs)
