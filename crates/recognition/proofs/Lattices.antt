-- a matrix takes a type's lattice onto the whole vectors exactly where its determinant says so
use Rattle.std.proofs.Common.{◌≡◌, ℕ, zero, suc, ◌+◌, ℤ, pos, negsuc, ◌+ℤ◌, ◌-ℤ◌, ◌*ℤ◌, ◌≤ℤ◌, ◌⊎◌, inl, inr, refl, sym, ◌∙◌, ap, arith, Bool, true, false, IsTrue}
use Rattle.std.proofs.lemmas.Int.{ints}
use lib.IntN.{*ℤ_comm}
use Rattle.symmetry.specs.HeightMotions.{IsSign}
use Rattle.symmetry.proofs.Signs.{sign-square}
use Rattle.motions.specs.PlaneMatrices.{Matrix2, product2}
use Rattle.motions.specs.Laws.PlaneMatrixLaws.{matrix2_path, pair_path}
use Rattle.motions.specs.Rationals.{RationalPair, IsRationalPair, IsMultiple, IsWhole, SameRationals}
use Rattle.recognition.specs.Changes.{rational_image}
use Rattle.recognition.specs.Listed.{IsInLattice, TakesLattice, KeepsCentring, half}
use Rattle.integers.proofs.Spread.{spread, numerals_out}
use Rattle.integers.proofs.Ring.{mul_assoc, mul_zero, one_mul, mul_one}
use Rattle.integers.proofs.Order.{mul_left_cancel_pos}
use Rattle.recognition.proofs.Whole.{unit_factor}

-- ---- two equations with the determinant 1 or -1

unit_twice : (s k : ℤ) → IsSign s → s *ℤ (s *ℤ k) ≡ k
unit_twice s k h = sym (mul_assoc s s k) ∙ ap (λ z. z *ℤ k) (sign-square s h) ∙ one_mul k

-- Cramer's rule: what the equations a x + m y = k and b x + n y = l have as x and y
abbrev solved_x : ℤ → ℤ → ℤ → ℤ → ℤ → ℤ → ℤ
solved_x a m b n k l = (a *ℤ n -ℤ m *ℤ b) *ℤ (n *ℤ k -ℤ m *ℤ l)

abbrev solved_y : ℤ → ℤ → ℤ → ℤ → ℤ → ℤ → ℤ
solved_y a m b n k l = (a *ℤ n -ℤ m *ℤ b) *ℤ (a *ℤ l -ℤ b *ℤ k)

cramer_first : (a m b n k l : ℤ) → IsSign (a *ℤ n -ℤ m *ℤ b) → a *ℤ solved_x a m b n k l +ℤ m *ℤ solved_y a m b n k l ≡ k
cramer_first a m b n k l h = grouped a m b n k l (a *ℤ n -ℤ m *ℤ b) ∙ unit_twice (a *ℤ n -ℤ m *ℤ b) k h
  where
    grouped : (a m b n k l s : ℤ) → a *ℤ (s *ℤ (n *ℤ k -ℤ m *ℤ l)) +ℤ m *ℤ (s *ℤ (a *ℤ l -ℤ b *ℤ k)) ≡ s *ℤ ((a *ℤ n -ℤ m *ℤ b) *ℤ k)
    grouped a m b n k l s = simp spread (omega (arith, ints))

cramer_second : (a m b n k l : ℤ) → IsSign (a *ℤ n -ℤ m *ℤ b) → b *ℤ solved_x a m b n k l +ℤ n *ℤ solved_y a m b n k l ≡ l
cramer_second a m b n k l h = grouped a m b n k l (a *ℤ n -ℤ m *ℤ b) ∙ unit_twice (a *ℤ n -ℤ m *ℤ b) l h
  where
    grouped : (a m b n k l s : ℤ) → b *ℤ (s *ℤ (n *ℤ k -ℤ m *ℤ l)) +ℤ n *ℤ (s *ℤ (a *ℤ l -ℤ b *ℤ k)) ≡ s *ℤ ((a *ℤ n -ℤ m *ℤ b) *ℤ l)
    grouped a m b n k l s = simp spread (omega (arith, ints))

-- whole columns that go to (1, 0) and to (0, 1) make the determinant 1 or -1
unit_of : (a m b n x y u v : ℤ) → a *ℤ x +ℤ m *ℤ y ≡ pos 1 → b *ℤ x +ℤ n *ℤ y ≡ pos 0 → a *ℤ u +ℤ m *ℤ v ≡ pos 0 → b *ℤ u +ℤ n *ℤ v ≡ pos 1
    → IsSign (a *ℤ n -ℤ m *ℤ b)
unit_of a m b n x y u v e f g h =
    unit_factor (a *ℤ n -ℤ m *ℤ b) (x *ℤ v -ℤ u *ℤ y) (product a m b n x y u v ∙ (λ i. e i *ℤ h i -ℤ g i *ℤ f i))
  where
    product : (a m b n x y u v : ℤ)
        → (a *ℤ n -ℤ m *ℤ b) *ℤ (x *ℤ v -ℤ u *ℤ y) ≡ (a *ℤ x +ℤ m *ℤ y) *ℤ (b *ℤ u +ℤ n *ℤ v) -ℤ (a *ℤ u +ℤ m *ℤ v) *ℤ (b *ℤ x +ℤ n *ℤ y)
    product a m b n x y u v = simp spread (omega (arith, ints))

-- ---- from the determinant2

-- a row takes a whole pair to a whole rational
whole_row : (p q d x y : ℤ) → IsMultiple d x → IsMultiple d y → IsMultiple d (p *ℤ x +ℤ q *ℤ y)
whole_row p q d x y (k, e) (l, f) = (p *ℤ k +ℤ q *ℤ l, (λ i. p *ℤ e i +ℤ q *ℤ f i) ∙ grouped p q d k l)
  where
    grouped : (p q d k l : ℤ) → p *ℤ (d *ℤ k) +ℤ q *ℤ (d *ℤ l) ≡ d *ℤ (p *ℤ k +ℤ q *ℤ l)
    grouped p q d k l = simp spread (omega (arith, ints))

whole_image : (p : Matrix2) (u : RationalPair) → IsWhole u → IsWhole (rational_image p u)
whole_image p u h = record { x = whole_row p.first.x p.first.y u.over u.x u.y h.x h.y; y = whole_row p.second.x p.second.y u.over u.x u.y h.x h.y }

-- and one that takes (1/2, 1/2) to a whole rational takes a pair of halves there
half_row : (p q a d x y : ℤ) → p +ℤ q ≡ pos 2 *ℤ a → IsMultiple (d *ℤ pos 2) (x *ℤ pos 2 -ℤ pos 1 *ℤ d)
    → IsMultiple (d *ℤ pos 2) (y *ℤ pos 2 -ℤ pos 1 *ℤ d) → IsMultiple d (p *ℤ x +ℤ q *ℤ y)
half_row p q a d x y h (k, e) (l, f) = (
  p *ℤ k +ℤ q *ℤ l +ℤ a,
  mul_left_cancel_pos (pos 2) (p *ℤ x +ℤ q *ℤ y) (d *ℤ (p *ℤ k +ℤ q *ℤ l +ℤ a)) (omega (arith, ints))
      (grouped p q d x y ∙ (λ i. p *ℤ e i +ℤ q *ℤ f i +ℤ d *ℤ h i) ∙ regrouped p q a d k l),
)
  where
    grouped : (p q d x y : ℤ) → pos 2 *ℤ (p *ℤ x +ℤ q *ℤ y) ≡ p *ℤ (x *ℤ pos 2 -ℤ pos 1 *ℤ d) +ℤ q *ℤ (y *ℤ pos 2 -ℤ pos 1 *ℤ d) +ℤ d *ℤ (p +ℤ q)
    grouped p q d x y = simp spread (simp numerals_out (omega (arith, ints)))

    regrouped : (p q a d k l : ℤ) → p *ℤ (d *ℤ pos 2 *ℤ k) +ℤ q *ℤ (d *ℤ pos 2 *ℤ l) +ℤ d *ℤ (pos 2 *ℤ a) ≡ pos 2 *ℤ (d *ℤ (p *ℤ k +ℤ q *ℤ l +ℤ a))
    regrouped p q a d k l = simp spread (simp numerals_out (omega (arith, ints)))

pub lattice_whole : (c : Bool) (p : Matrix2) → TakesLattice c p → (u : RationalPair) → IsInLattice c u → IsWhole (rational_image p u)
lattice_whole c p h u (inl w) = whole_image p u w
lattice_whole true p h u (inr (t, w)) = record {
  x = half_row p.first.x p.first.y h.a u.over u.x u.y h.first w.x w.y;
  y = half_row p.second.x p.second.y h.b u.over u.x u.y h.second w.x w.y;
}
lattice_whole false p h u (inr (t, w)) = absurd (cc)

halves : (n : ℕ) → (h : ℕ) × ((n ≡ h + h) ⊎ (n ≡ suc (h + h)))
halves zero = (zero, inl refl)
halves (suc n) = let (h, b) = halves n in elim b [ inl e ↦ (h, inr (ap suc e)) | inr e ↦ (suc h, inl (omega arith)) ]

-- a whole number is even or odd
parity : (z : ℤ) → (h : ℤ) × ((z ≡ pos 2 *ℤ h) ⊎ (z ≡ pos 2 *ℤ h +ℤ pos 1))
parity (pos n) = let (h, b) = halves n in elim b [ inl e ↦ (pos h, inl (omega (arith, ints))) | inr e ↦ (pos h, inr (omega (arith, ints))) ]
parity (negsuc n) = let (h, b) = halves n in elim b [ inl e ↦ (negsuc h, inr (omega (arith, ints))) | inr e ↦ (negsuc h, inl (omega (arith, ints))) ]

-- x + 0 y over 2, by the basis (1/2, 1/2) and (0, 1)
in_centred : (x y : ℤ) → IsInLattice true (record { x = x; y = x +ℤ pos 2 *ℤ y; over = pos 2 })
in_centred x y =
    let (h, b) = parity x in
    elim b [
      | inl e ↦ inl (record { x = (h, e); y = (h +ℤ y, omega (arith, ints)) })
      | inr e ↦ inr (refl, record { x = (h, omega (arith, ints)); y = (h +ℤ y, omega (arith, ints)) })
    ]

same_row : (p q x y d v k : ℤ) → v ≡ d *ℤ k → p *ℤ x +ℤ q *ℤ y ≡ k → v *ℤ pos 1 ≡ (p *ℤ x +ℤ q *ℤ y) *ℤ d
same_row p q x y d v k e f = mul_one v ∙ e ∙ ap (λ z. d *ℤ z) (sym f) ∙ *ℤ_comm d (p *ℤ x +ℤ q *ℤ y)

same_half_row : (p q a x y d v k : ℤ) → p +ℤ q ≡ pos 2 *ℤ a → v ≡ d *ℤ k → a *ℤ x +ℤ q *ℤ y ≡ k
    → v *ℤ pos 2 ≡ (p *ℤ x +ℤ q *ℤ (x +ℤ pos 2 *ℤ y)) *ℤ d
same_half_row p q a x y d v k h e f =
    ap (λ z. z *ℤ pos 2) e ∙ ap (λ z. d *ℤ z *ℤ pos 2) (sym f) ∙ regrouped q a x y d ∙ ap (λ z. (z *ℤ x +ℤ q *ℤ (pos 2 *ℤ y)) *ℤ d) (sym h)
    ∙ grouped p q x y d
  where
    regrouped : (q a x y d : ℤ) → d *ℤ (a *ℤ x +ℤ q *ℤ y) *ℤ pos 2 ≡ ((pos 2 *ℤ a) *ℤ x +ℤ q *ℤ (pos 2 *ℤ y)) *ℤ d
    regrouped q a x y d = simp spread (simp numerals_out (omega (arith, ints)))

    grouped : (p q x y d : ℤ) → ((p +ℤ q) *ℤ x +ℤ q *ℤ (pos 2 *ℤ y)) *ℤ d ≡ (p *ℤ x +ℤ q *ℤ (x +ℤ pos 2 *ℤ y)) *ℤ d
    grouped p q x y d = simp spread (simp numerals_out (omega (arith, ints)))

pub lattice_every : (c : Bool) (p : Matrix2) → TakesLattice c p → (v : RationalPair) → IsWhole v
    → (u : RationalPair) × IsRationalPair u × IsInLattice c u × SameRationals v (rational_image p u)
lattice_every true p h v w =
    let x = solved_x h.a p.first.y h.b p.second.y w.x.0 w.y.0 in
    let y = solved_y h.a p.first.y h.b p.second.y w.x.0 w.y.0 in (
      record { x = x; y = x +ℤ pos 2 *ℤ y; over = pos 2 },
      omega (arith, ints),
      in_centred x y,
      record {
        x = same_half_row p.first.x p.first.y h.a x y v.over v.x w.x.0 h.first w.x.1 (cramer_first h.a p.first.y h.b p.second.y w.x.0 w.y.0 h.unit);
        y = same_half_row p.second.x p.second.y h.b x y v.over v.y w.y.0 h.second w.y.1 (cramer_second h.a p.first.y h.b p.second.y w.x.0 w.y.0 h.unit);
      },
    )
lattice_every false p h v w =
    let x = solved_x p.first.x p.first.y p.second.x p.second.y w.x.0 w.y.0 in
    let y = solved_y p.first.x p.first.y p.second.x p.second.y w.x.0 w.y.0 in (
      record { x = x; y = y; over = pos 1 },
      omega (arith, ints),
      inl (record { x = (x, omega (arith, ints)); y = (y, omega (arith, ints)) }),
      record {
        x = same_row p.first.x p.first.y x y v.over v.x w.x.0 w.x.1 (cramer_first p.first.x p.first.y p.second.x p.second.y w.x.0 w.y.0 h);
        y = same_row p.second.x p.second.y x y v.over v.y w.y.0 w.y.1 (cramer_second p.first.x p.first.y p.second.x p.second.y w.x.0 w.y.0 h);
      },
    )

-- ---- to the determinant2

-- a whole column goes to what its rational form says
whole_to : (p q x y d k l g : ℤ) → pos 1 ≤ℤ d → x ≡ d *ℤ k → y ≡ d *ℤ l → g *ℤ d ≡ (p *ℤ x +ℤ q *ℤ y) *ℤ pos 1 → p *ℤ k +ℤ q *ℤ l ≡ g
whole_to p q x y d k l g h e f s =
    mul_left_cancel_pos d (p *ℤ k +ℤ q *ℤ l) g h (grouped p q d k l ∙ sym (λ i. (p *ℤ e i +ℤ q *ℤ f i) *ℤ pos 1) ∙ sym s ∙ *ℤ_comm g d)
  where
    grouped : (p q d k l : ℤ) → d *ℤ (p *ℤ k +ℤ q *ℤ l) ≡ (p *ℤ (d *ℤ k) +ℤ q *ℤ (d *ℤ l)) *ℤ pos 1
    grouped p q d k l = simp spread (simp numerals_out (omega (arith, ints)))

-- a member of the centred lattice is x (1/2, 1/2) + y (0, 1)
record ByHalves (u : RationalPair) : Type 0 where
  x : ℤ
  y : ℤ
  first : u.x *ℤ pos 2 ≡ u.over *ℤ x
  second : u.y *ℤ pos 2 ≡ u.over *ℤ (x +ℤ pos 2 *ℤ y)

by_halves : (u : RationalPair) → IsInLattice true u → ByHalves u
by_halves u (inl w) = record {
  x = pos 2 *ℤ w.x.0;
  y = w.y.0 -ℤ w.x.0;
  first = whole u.over u.x w.x.0 w.x.1;
  second = whole_y u.over u.y w.x.0 w.y.0 w.y.1;
}
  where
    whole : (d x k : ℤ) → x ≡ d *ℤ k → x *ℤ pos 2 ≡ d *ℤ (pos 2 *ℤ k)
    whole d x k e = ap (λ z. z *ℤ pos 2) e ∙ mul_assoc d k (pos 2) ∙ ap (λ z. d *ℤ z) (omega (arith, ints))

    whole_y : (d y k l : ℤ) → y ≡ d *ℤ l → y *ℤ pos 2 ≡ d *ℤ (pos 2 *ℤ k +ℤ pos 2 *ℤ (l -ℤ k))
    whole_y d y k l e = ap (λ z. z *ℤ pos 2) e ∙ mul_assoc d l (pos 2) ∙ ap (λ z. d *ℤ z) (omega (arith, ints))
by_halves u (inr (t, w)) = record {
  x = pos 2 *ℤ w.x.0 +ℤ pos 1;
  y = w.y.0 -ℤ w.x.0;
  first = odd u.over u.x w.x.0 w.x.1;
  second = odd_y u.over u.y w.x.0 w.y.0 w.y.1;
}
  where
    odd : (d x k : ℤ) → x *ℤ pos 2 -ℤ pos 1 *ℤ d ≡ (d *ℤ pos 2) *ℤ k → x *ℤ pos 2 ≡ d *ℤ (pos 2 *ℤ k +ℤ pos 1)
    odd d x k e =
        let f : x *ℤ pos 2 ≡ (d *ℤ pos 2) *ℤ k +ℤ d = omega (arith, ints, e) in f ∙ grouped d k
      where
        grouped : (d k : ℤ) → (d *ℤ pos 2) *ℤ k +ℤ d ≡ d *ℤ (pos 2 *ℤ k +ℤ pos 1)
        grouped d k = simp spread (simp numerals_out (omega (arith, ints)))

    odd_y : (d y k l : ℤ) → y *ℤ pos 2 -ℤ pos 1 *ℤ d ≡ (d *ℤ pos 2) *ℤ l → y *ℤ pos 2 ≡ d *ℤ ((pos 2 *ℤ k +ℤ pos 1) +ℤ pos 2 *ℤ (l -ℤ k))
    odd_y d y k l e = odd d y l e ∙ ap (λ z. d *ℤ z) (omega (arith, ints))

half_to : (p q a x y d k l g : ℤ) → pos 1 ≤ℤ d → p +ℤ q ≡ pos 2 *ℤ a → x *ℤ pos 2 ≡ d *ℤ k → y *ℤ pos 2 ≡ d *ℤ (k +ℤ pos 2 *ℤ l)
    → g *ℤ d ≡ (p *ℤ x +ℤ q *ℤ y) *ℤ pos 1 → a *ℤ k +ℤ q *ℤ l ≡ g
half_to p q a x y d k l g hd h e f s =
    mul_left_cancel_pos (pos 2) (a *ℤ k +ℤ q *ℤ l) g (omega (arith, ints))
    (mul_left_cancel_pos d (pos 2 *ℤ (a *ℤ k +ℤ q *ℤ l)) (pos 2 *ℤ g) hd
    (one q a d k l ∙ ap (λ z. d *ℤ (z *ℤ k +ℤ q *ℤ (pos 2 *ℤ l))) (sym h) ∙ two p q d k l ∙ sym (λ i. p *ℤ e i +ℤ q *ℤ f i) ∙ three p q x y ∙ ap (λ z. pos 2 *ℤ z) (sym s) ∙ four g d))
  where
    one : (q a d k l : ℤ) → d *ℤ (pos 2 *ℤ (a *ℤ k +ℤ q *ℤ l)) ≡ d *ℤ ((pos 2 *ℤ a) *ℤ k +ℤ q *ℤ (pos 2 *ℤ l))
    one q a d k l = simp spread (simp numerals_out (omega (arith, ints)))

    two : (p q d k l : ℤ) → d *ℤ ((p +ℤ q) *ℤ k +ℤ q *ℤ (pos 2 *ℤ l)) ≡ p *ℤ (d *ℤ k) +ℤ q *ℤ (d *ℤ (k +ℤ pos 2 *ℤ l))
    two p q d k l = simp spread (simp numerals_out (omega (arith, ints)))

    three : (p q x y : ℤ) → p *ℤ (x *ℤ pos 2) +ℤ q *ℤ (y *ℤ pos 2) ≡ pos 2 *ℤ ((p *ℤ x +ℤ q *ℤ y) *ℤ pos 1)
    three p q x y = simp spread (simp numerals_out (omega (arith, ints)))

    four : (g d : ℤ) → pos 2 *ℤ (g *ℤ d) ≡ d *ℤ (pos 2 *ℤ g)
    four g d = simp spread (simp numerals_out (omega (arith, ints)))

-- the whole vectors (1, 0) and (0, 1)
abbrev along_x : RationalPair
along_x = record { x = pos 1; y = pos 0; over = pos 1 }

abbrev along_y : RationalPair
along_y = record { x = pos 0; y = pos 1; over = pos 1 }

whole_x : IsWhole along_x
whole_x = record { x = (pos 1, refl); y = (pos 0, refl) }

whole_y : IsWhole along_y
whole_y = record { x = (pos 0, refl); y = (pos 1, refl) }

half_in : IsInLattice true half
half_in = inr (refl, record { x = (pos 0, refl); y = (pos 0, refl) })

-- the double of a whole rational over 2
from_half : (p q k : ℤ) → p *ℤ pos 1 +ℤ q *ℤ pos 1 ≡ pos 2 *ℤ k → p +ℤ q ≡ pos 2 *ℤ k
from_half p q k e = omega (arith, ints, e)

only_whole : (u : RationalPair) → IsInLattice false u → IsWhole u
only_whole u (inl w) = w
only_whole u (inr (t, w)) = absurd (cc)

pub lattice_back : (c : Bool) (p : Matrix2) → ((u : RationalPair) → IsRationalPair u → IsInLattice c u → IsWhole (rational_image p u))
    → ((v : RationalPair) → IsRationalPair v → IsWhole v → (u : RationalPair) × IsRationalPair u × IsInLattice c u × SameRationals v (rational_image p u)) → TakesLattice c p
lattice_back true p whole every =
    let w = whole half (omega (arith, ints)) half_in in
    let first = from_half p.first.x p.first.y w.x.0 w.x.1 in
    let second = from_half p.second.x p.second.y w.y.0 w.y.1 in
    let (u, hu, iu, su) = every along_x (omega (arith, ints)) whole_x in
    let (v, hv, iv, sv) = every along_y (omega (arith, ints)) whole_y in
    let m = by_halves u iu in
    let n = by_halves v iv in
    record {
      a = w.x.0;
      b = w.y.0;
      first = first;
      second = second;
      unit =
          unit_of w.x.0 p.first.y w.y.0 p.second.y m.x m.y n.x n.y (half_to p.first.x p.first.y w.x.0 u.x u.y u.over m.x m.y (pos 1) hu first m.first m.second su.x)
          (half_to p.second.x p.second.y w.y.0 u.x u.y u.over m.x m.y (pos 0) hu second m.first m.second su.y)
          (half_to p.first.x p.first.y w.x.0 v.x v.y v.over n.x n.y (pos 0) hv first n.first n.second sv.x)
          (half_to p.second.x p.second.y w.y.0 v.x v.y v.over n.x n.y (pos 1) hv second n.first n.second sv.y);
    }
lattice_back false p whole every =
    let (u, hu, iu, su) = every along_x (omega (arith, ints)) whole_x in
    let (v, hv, iv, sv) = every along_y (omega (arith, ints)) whole_y in
    let m = only_whole u iu in
    let n = only_whole v iv in
    unit_of p.first.x p.first.y p.second.x p.second.y m.x.0 m.y.0 n.x.0 n.y.0 (whole_to p.first.x p.first.y u.x u.y u.over m.x.0 m.y.0 (pos 1) hu m.x.1 m.y.1 su.x)
    (whole_to p.second.x p.second.y u.x u.y u.over m.x.0 m.y.0 (pos 0) hu m.x.1 m.y.1 su.y)
    (whole_to p.first.x p.first.y v.x v.y v.over n.x.0 n.y.0 (pos 0) hv n.x.1 n.y.1 sv.x)
    (whole_to p.second.x p.second.y v.x v.y v.over n.x.0 n.y.0 (pos 1) hv n.x.1 n.y.1 sv.y)

-- ---- matrices beside one that takes the lattice onto the whole vectors

pub by_unit : (s x : ℤ) → IsSign s → s *ℤ x ≡ pos 0 → x ≡ pos 0
by_unit s x h e = sym (unit_twice s x h) ∙ ap (λ z. s *ℤ z) e ∙ mul_zero s

-- a row that such a matrix takes to 0 is 0
no_row : (a m b n x y : ℤ) → IsSign (a *ℤ n -ℤ m *ℤ b) → x *ℤ a +ℤ y *ℤ b ≡ pos 0 → x *ℤ m +ℤ y *ℤ n ≡ pos 0 → (x ≡ pos 0) × (y ≡ pos 0)
no_row a m b n x y h e f = (
  by_unit (a *ℤ n -ℤ m *ℤ b) x h (one a m b n x y ∙ (λ i. e i *ℤ n -ℤ f i *ℤ b) ∙ none n b),
  by_unit (a *ℤ n -ℤ m *ℤ b) y h (two a m b n x y ∙ (λ i. f i *ℤ a -ℤ e i *ℤ m) ∙ none a m),
)
  where
    one : (a m b n x y : ℤ) → (a *ℤ n -ℤ m *ℤ b) *ℤ x ≡ (x *ℤ a +ℤ y *ℤ b) *ℤ n -ℤ (x *ℤ m +ℤ y *ℤ n) *ℤ b
    one a m b n x y = simp spread (omega (arith, ints))

    two : (a m b n x y : ℤ) → (a *ℤ n -ℤ m *ℤ b) *ℤ y ≡ (x *ℤ m +ℤ y *ℤ n) *ℤ a -ℤ (x *ℤ a +ℤ y *ℤ b) *ℤ m
    two a m b n x y = simp spread (omega (arith, ints))

    none : (n b : ℤ) → pos 0 *ℤ n -ℤ pos 0 *ℤ b ≡ pos 0
    none n b = omega (arith, ints)

-- two rows with the same product are one
same_rows : (c : Bool) (p : Matrix2) → TakesLattice c p → (x y u v : ℤ)
    → x *ℤ p.first.x +ℤ y *ℤ p.second.x ≡ u *ℤ p.first.x +ℤ v *ℤ p.second.x → x *ℤ p.first.y +ℤ y *ℤ p.second.y ≡ u *ℤ p.first.y +ℤ v *ℤ p.second.y → (x ≡ u) × (y ≡ v)
same_rows c p h x y u v e f =
    let z = zero_row c p h (x -ℤ u) (y -ℤ v) (apart x y u v p.first.x p.second.x e) (apart x y u v p.first.y p.second.y f) in (omega (arith, ints, z.0), omega (arith, ints, z.1))
  where
    apart : (x y u v a b : ℤ) → x *ℤ a +ℤ y *ℤ b ≡ u *ℤ a +ℤ v *ℤ b → (x -ℤ u) *ℤ a +ℤ (y -ℤ v) *ℤ b ≡ pos 0
    apart x y u v a b e = simp spread (omega (arith, ints, e))

    one : (x y a b : ℤ) → pos 2 *ℤ (x *ℤ a +ℤ y *ℤ b) ≡ x *ℤ (pos 2 *ℤ a) +ℤ y *ℤ (pos 2 *ℤ b)
    one x y a b = simp spread (simp numerals_out (omega (arith, ints)))

    two : (x y a b c d : ℤ) → x *ℤ (a +ℤ b) +ℤ y *ℤ (c +ℤ d) ≡ (x *ℤ a +ℤ y *ℤ c) +ℤ (x *ℤ b +ℤ y *ℤ d)
    two x y a b c d = simp spread (omega (arith, ints))

    zero_row : (c : Bool) (p : Matrix2) → TakesLattice c p → (x y : ℤ) → x *ℤ p.first.x +ℤ y *ℤ p.second.x ≡ pos 0 → x *ℤ p.first.y +ℤ y *ℤ p.second.y ≡ pos 0 → (x ≡ pos 0) × (y ≡ pos 0)
    zero_row true p h x y e f =
        no_row h.a p.first.y h.b p.second.y x y h.unit
        (mul_left_cancel_pos (pos 2) (x *ℤ h.a +ℤ y *ℤ h.b) (pos 0) (omega (arith, ints))
        (one x y h.a h.b ∙ sym (λ i. x *ℤ h.first i +ℤ y *ℤ h.second i) ∙ two x y p.first.x p.first.y p.second.x p.second.y ∙ (λ i. e i +ℤ f i)))
        f
    zero_row false p h x y e f = no_row p.first.x p.first.y p.second.x p.second.y x y h e f

pub same_matrix : (c : Bool) (p m n : Matrix2) → TakesLattice c p → product2 m p ≡ product2 n p → m ≡ n
same_matrix c p m n h e =
    let first = same_rows c p h m.first.x m.first.y n.first.x n.first.y (λ i. (e i).first.x) (λ i. (e i).first.y) in
    let second = same_rows c p h m.second.x m.second.y n.second.x n.second.y (λ i. (e i).second.x) (λ i. (e i).second.y) in
    matrix2_path (pair_path first.0 first.1) (pair_path second.0 second.1)

-- a whole row with a given product with a matrix of determinant 1 or -1
record Row (a m b n k l : ℤ) : Type 0 where
  x : ℤ
  y : ℤ
  first : x *ℤ a +ℤ y *ℤ b ≡ k
  second : x *ℤ m +ℤ y *ℤ n ≡ l

row : (a m b n k l : ℤ) → IsSign (a *ℤ n -ℤ m *ℤ b) → Row a m b n k l
row a m b n k l h =
    let u = turned a m b n h in
    record {
      x = solved_x a b m n k l;
      y = solved_y a b m n k l;
      first = swapped (solved_x a b m n k l) (solved_y a b m n k l) a b ∙ cramer_first a b m n k l u;
      second = swapped (solved_x a b m n k l) (solved_y a b m n k l) m n ∙ cramer_second a b m n k l u;
    }
  where
    swapped : (x y a b : ℤ) → x *ℤ a +ℤ y *ℤ b ≡ a *ℤ x +ℤ b *ℤ y
    swapped x y a b = simp spread

    turned : (a m b n : ℤ) → IsSign (a *ℤ n -ℤ m *ℤ b) → IsSign (a *ℤ n -ℤ b *ℤ m)
    turned a m b n (inl e) = inl (ap (λ z. a *ℤ n -ℤ z) (*ℤ_comm b m) ∙ e)
    turned a m b n (inr e) = inr (ap (λ z. a *ℤ n -ℤ z) (*ℤ_comm b m) ∙ e)

-- for a centred lattice the first column comes from the half column and the second
centred_row : (p0 p1 q0 q1 a b r0 r1 c n0 n1 n2 n3 k x y : ℤ) → p0 +ℤ p1 ≡ pos 2 *ℤ a → q0 +ℤ q1 ≡ pos 2 *ℤ b → r0 +ℤ r1 ≡ pos 2 *ℤ c
    → n0 +ℤ n1 -ℤ (n2 +ℤ n3) ≡ pos 2 *ℤ k
    → x *ℤ a +ℤ y *ℤ b ≡ c *ℤ (n0 +ℤ n1) -ℤ r1 *ℤ k → x *ℤ p1 +ℤ y *ℤ q1 ≡ r0 *ℤ n1 +ℤ r1 *ℤ n3 → x *ℤ p0 +ℤ y *ℤ q0 ≡ r0 *ℤ n0 +ℤ r1 *ℤ n2
centred_row p0 p1 q0 q1 a b r0 r1 c n0 n1 n2 n3 k x y hp hq hr hn e f =
    let g : x *ℤ (p0 +ℤ p1) +ℤ y *ℤ (q0 +ℤ q1) ≡ (r0 +ℤ r1) *ℤ (n0 +ℤ n1) -ℤ r1 *ℤ (n0 +ℤ n1 -ℤ (n2 +ℤ n3)) =
    (λ i. x *ℤ hp i +ℤ y *ℤ hq i) ∙ one x y a b ∙ ap (λ z. pos 2 *ℤ z) e ∙ two c r1 (n0 +ℤ n1) k ∙ sym (λ i. hr i *ℤ (n0 +ℤ n1) -ℤ r1 *ℤ hn i) in
    simp spread (omega (arith, ints, simp spread at g, simp spread at f))
  where
    one : (x y a b : ℤ) → x *ℤ (pos 2 *ℤ a) +ℤ y *ℤ (pos 2 *ℤ b) ≡ pos 2 *ℤ (x *ℤ a +ℤ y *ℤ b)
    one x y a b = simp spread (simp numerals_out (omega (arith, ints)))

    two : (c r n k : ℤ) → pos 2 *ℤ (c *ℤ n -ℤ r *ℤ k) ≡ (pos 2 *ℤ c) *ℤ n -ℤ r *ℤ (pos 2 *ℤ k)
    two c r n k = simp spread (simp numerals_out (omega (arith, ints)))

-- what A' is on the other side of P
pub moved_matrix : (c : Bool) (p n : Matrix2) → TakesLattice c p → (IsTrue c → KeepsCentring n) → (m : Matrix2) × (product2 m p ≡ product2 p n)
moved_matrix true p n h k =
    let (z, hn) = k refl in
    let s = n.first.x +ℤ n.first.y in
    let r = row h.a p.first.y h.b p.second.y (h.a *ℤ s -ℤ p.first.y *ℤ z) (product2 p n).first.y h.unit in
    let q = row h.a p.first.y h.b p.second.y (h.b *ℤ s -ℤ p.second.y *ℤ z) (product2 p n).second.y h.unit in
    let m : Matrix2 = record { first = record { x = r.x; y = r.y }; second = record { x = q.x; y = q.y } } in (
      m,
      matrix2_path
          (pair_path (centred_row p.first.x p.first.y p.second.x p.second.y h.a h.b p.first.x p.first.y h.a n.first.x n.first.y n.second.x n.second.y z r.x r.y h.first h.second h.first hn r.first r.second)
          r.second)
          (pair_path (centred_row p.first.x p.first.y p.second.x p.second.y h.a h.b p.second.x p.second.y h.b n.first.x n.first.y n.second.x n.second.y z q.x q.y h.first h.second h.second hn q.first q.second)
          q.second),
    )
moved_matrix false p n h k =
    let r = row p.first.x p.first.y p.second.x p.second.y (product2 p n).first.x (product2 p n).first.y h in
    let q = row p.first.x p.first.y p.second.x p.second.y (product2 p n).second.x (product2 p n).second.y h in
    let m : Matrix2 = record { first = record { x = r.x; y = r.y }; second = record { x = q.x; y = q.y } } in
    (m, matrix2_path (pair_path r.first r.second) (pair_path q.first q.second))
