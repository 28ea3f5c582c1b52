-- The first basis, of which two vectors are replaced twice, has two vectors in the plane and one above it.
use Rattle.std.proofs.Common.{◌≡◌, zero, suc, ℤ, pos, negsuc, ◌≤ℤ◌, ◌<ℤ◌, ◌+ℤ◌, ◌-ℤ◌, ◌*ℤ◌, refl, sym, ap, subst, ◌∙◌, lit<, arith}
use Rattle.std.proofs.lemmas.Int.{ints}
use Rattle.integers.specs.Size.{IsWithin}
use Rattle.integers.proofs.Coded.{again, again_is}
use Rattle.fractions.specs.declared.part.TheConstants.{UNIT}
use Rattle.symmetry.specs.Vectors.{Vector, plus, multiple, dot}
use Rattle.symmetry.specs.Groups.{Listing}
use Rattle.symmetry.specs.Frames.{Basis, combination}
use Rattle.symmetry.specs.Planes.{IsCoprime}
use Rattle.symmetry.specs.Sizes.{IsVectorWithin}
use Rattle.symmetry.proofs.Coprime.{unit_column}
use Rattle.symmetry.proofs.VectorLaws.{dot-plus, dot-multiple}
use Rattle.symmetry.proofs.Sizes.{IsVectorWithin-more}
use Rattle.closure.specs.Laws.ResidueLaws.{whole-multiple_of_unit}
use Rattle.closure.proofs.Spans.{lattice-whole}
use Rattle.reduction.specs.Bounds.{largest_value, largest_first, largest_once, largest_twice}
use Rattle.reduction.specs.LatticeBases.{IsLatticeBasis, IsAdapted, combined}
use Rattle.reduction.specs.Bezout.{IsBezoutOf, IsSmallBezout}
use Rattle.reduction.specs.declared.bezout.BezoutIdentity.{BezoutIdentity}
use Rattle.reduction.proofs.BasisSteps.{first_two_replaced, last_two_replaced, flat_combined, raised_combined}
use Rattle.reduction.proofs.CombinedPassed.{combined_within}

pub dot-combination : (r : Vector) (f : Basis) (c : Vector) → dot r (combination f c) ≡ c.x *ℤ dot r f.a +ℤ c.y *ℤ dot r f.b +ℤ c.z *ℤ dot r f.tau
dot-combination r f c =
    dot-plus r (plus (multiple c.x f.a) (multiple c.y f.b)) (multiple c.z f.tau)
    ∙ (λ i. (dot-plus r (multiple c.x f.a) (multiple c.y f.b) ∙ (λ j. dot-multiple r c.x f.a j +ℤ dot-multiple r c.y f.b j)) i +ℤ dot-multiple r c.z f.tau i)

-- not every vector of the lattice lies in the plane
some_above : (g : Listing) (r : Vector) (f : Basis) → IsCoprime r → IsLatticeBasis g f → dot r f.a ≡ pos 0 → dot r f.b ≡ pos 0 → ¬ (dot r f.tau ≡ pos 0)
some_above g r f coprime basis a b none =
    let (u, one) = unit_column r coprime in
    let (c, is) = basis.spans (multiple UNIT u) (lattice-whole g (multiple UNIT u) (whole-multiple_of_unit u)) in
    let e : UNIT *ℤ pos 1 ≡ c.x *ℤ pos 0 +ℤ c.y *ℤ pos 0 +ℤ c.z *ℤ pos 0 =
    sym (dot-multiple r UNIT u ∙ ap (λ z. UNIT *ℤ z) one) ∙ ap (dot r) (sym is) ∙ dot-combination r f c ∙ (λ i. c.x *ℤ a i +ℤ c.y *ℤ b i +ℤ c.z *ℤ none i) in
    absurd (omega (arith, ints, e))

positive : (z : ℤ) → pos 0 ≤ℤ z → ¬ (z ≡ pos 0) → pos 0 <ℤ z
positive (pos zero) h n = absurd (n refl)
positive (pos (suc k)) h n = omega (arith, ints)
positive (negsuc k) h n = absurd (omega (arith, ints))

module _ (g : Listing) (r : Vector) (coprime : IsCoprime r) (u v w : Vector) (first : IsLatticeBasis g (record { a = u; b = v; tau = w }))
    (p q s : ℤ) (p_is : p ≡ dot r u) (q_is : q ≡ dot r v) (s_is : s ≡ dot r w)
    (hp : IsWithin largest_value p) (hq : IsWithin largest_value q) (hs : IsWithin largest_value s)
    (m n : BezoutIdentity) (m_small : IsSmallBezout m) (m_is : IsBezoutOf (again p) (again q) m) (n_is : IsBezoutOf (again m.divisor) (again s) n) where
  passed : (z : ℤ) → IsWithin largest_value z → again z ≡ z
  passed z h = again_is z largest_value h (lit< tt)

  abbrev above : Vector
  above = combined m.x u m.y v

  u_value : dot r u ≡ m.p *ℤ m.divisor
  u_value = sym p_is ∙ sym (passed p hp) ∙ m_is.first

  v_value : dot r v ≡ m.q *ℤ m.divisor
  v_value = sym q_is ∙ sym (passed q hq) ∙ m_is.second

  above_value : dot r above ≡ n.p *ℤ n.divisor
  above_value = raised_combined r u v m.p m.q m.x m.y m.divisor m_is.unit u_value v_value ∙ sym (passed m.divisor m_small.divisor) ∙ n_is.first

  w_value : dot r w ≡ n.q *ℤ n.divisor
  w_value = sym s_is ∙ sym (passed s hs) ∙ n_is.second

  pub adapted : IsAdapted g r (record { a = combined m.q u (pos 0 -ℤ m.p) v; b = combined n.q above (pos 0 -ℤ n.p) w; tau = combined n.x above n.y w })
  adapted =
      let f : Basis = record { a = combined m.q u (pos 0 -ℤ m.p) v; b = combined n.q above (pos 0 -ℤ n.p) w; tau = combined n.x above n.y w } in
      let basis = last_two_replaced g n.p n.q n.x n.y n_is.unit above w f.a (first_two_replaced g m.p m.q m.x m.y m_is.unit u v w first) in
      let a = flat_combined r u v m.p m.q m.divisor u_value v_value in
      let b = flat_combined r above w n.p n.q n.divisor above_value w_value in
      let tau : dot r f.tau ≡ n.divisor = raised_combined r above w n.p n.q n.x n.y n.divisor n_is.unit above_value w_value in
      record {
        basis = basis;
        a_in_plane = a;
        b_in_plane = b;
        tau_above = positive (dot r f.tau) (subst (λ z. pos 0 ≤ℤ z) (sym tau) n_is.from) (some_above g r f coprime basis a b);
      }

-- sizes
pub once_small : (x y : ℤ) (u v : Vector) → IsWithin largest_value x → IsWithin largest_value y → IsVectorWithin largest_first u → IsVectorWithin largest_first v → IsVectorWithin largest_once (combined x u y v)
once_small x y u v = combined_within largest_value largest_first x y u v

pub twice_small : (x y : ℤ) (u v : Vector) → IsWithin largest_value x → IsWithin largest_value y → IsVectorWithin largest_once u → IsVectorWithin largest_once v → IsVectorWithin largest_twice (combined x u y v)
twice_small x y u v = combined_within largest_value largest_once x y u v

pub first_once : (v : Vector) → IsVectorWithin largest_first v → IsVectorWithin largest_once v
first_once v = λ h. IsVectorWithin-more h (omega arith)

pub once_twice : (v : Vector) → IsVectorWithin largest_once v → IsVectorWithin largest_twice v
once_twice v = λ h. IsVectorWithin-more h (omega arith)
