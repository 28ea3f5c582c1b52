-- A change carries a section onto a type exactly where the finite test says so.
use Rattle.std.proofs.Common.{◌≡◌, ℕ, ℤ, pos, ◌+ℤ◌, ◌-ℤ◌, ◌*ℤ◌, ◌≤ℤ◌, refl, sym, ◌∙◌, ap, subst, arith, List, slice_index_or, [], ◌∷◌}
use Rattle.std.specs.Prelude.{Any, Contains}
use Rattle.std.proofs.lemmas.Int.{ints}
use Rattle.std.proofs.lemmas.List.Elements.{All-contains, All-contains_itself}
use lib.IntN.{*ℤ_comm}
use Rattle.fractions.specs.declared.part.TheConstants.{UNIT}
use Rattle.fractions.specs.Fraction.{Fraction, IsWhole, fraction_minus}
use Rattle.integers.proofs.Order.{one-le-mul}
use Rattle.integers.proofs.Solver.{Expr.{var, num, ◌⊕◌, ◌⊝◌, ◌⊗◌}, ring}
use Rattle.fractions.specs.Parts.{part_of_edge}
use Rattle.motions.specs.declared.rod.RodMotion.{RodMotion}
use Rattle.motions.specs.declared.motion.Sign.{Sign}
use Rattle.motions.specs.Signs.{sign_value}
use Rattle.motions.specs.PlaneMatrices.{Matrix2, product2, determinant2, adjugate2}
use Rattle.motions.specs.RodMotions.{RodOperation, rod_of}
use Rattle.recognition.specs.declared.found_rod.TheConstants.{ROD_GRID}
use Rattle.recognition.specs.RationalRods.{RationalRod, IsRationalRod, IsListedRod, multiple2, rational_rod}
use Rattle.recognition.specs.RodChanges.{hand, rest_along, IsCarried, grid_part, Carries}
use Rattle.recognition.specs.RodTests.{IsClose, IsPaired, Fits}
use Rattle.recognition.proofs.RodTranslations as shifts
use Rattle.recognition.proofs.RodMatrices.{multiple2-one, multiple2-multiple2, multiple2_cancel, multiple2-product2, product2-multiple2, undone_right, same_left, size_positive}

unit_positive : pos 1 ≤ℤ UNIT
unit_positive = omega (arith, ints)

grid_positive : pos 1 ≤ℤ ROD_GRID
grid_positive = omega (arith, ints)

-- a translation agrees with itself
no_difference : (s : ℤ) → IsWhole (fraction_minus (part_of_edge s) (part_of_edge s))
no_difference s = (pos 0, nothing (s *ℤ UNIT) (UNIT *ℤ UNIT))
  where
    nothing : (x y : ℤ) → x -ℤ x ≡ pos 0 *ℤ y
    nothing x y = omega (arith, ints)

whole_rod : (m : RodMotion) → IsRationalRod (rational_rod (rod_of m))
whole_rod m = (omega (arith, ints), unit_positive)

itself : (list : List RodMotion) (m : RodMotion) → Contains list m → IsListedRod list (rational_rod (rod_of m))
itself list m h = record {
  motion = m;
  listed = h;
  matrix = sym (multiple2-one (rod_of m).matrix);
  along = refl;
  translation = no_difference (rod_of m).translation;
}

-- the three facts of translations: of an operation of the section and a motion, of one of the type and a motion, and of the two motions
module _ (p : Matrix2) (z : ℕ) (m n : RodOperation) (t t' : Fraction) (e : Sign) (same : e ≡ m.along) where
  abbrev drift : ℤ
  drift = pos z -ℤ sign_value m.along *ℤ pos z

  abbrev Rest : Type 0
  Rest = IsWhole (rest_along (hand p) (sign_value e) (grid_part z) t t')

  at_sign : Rest → IsWhole (rest_along (hand p) (sign_value m.along) (grid_part z) t t')
  at_sign h = subst (λ d. IsWhole (rest_along (hand p) (sign_value d) (grid_part z) t t')) same h

  from_sign : IsWhole (rest_along (hand p) (sign_value m.along) (grid_part z) t t') → Rest
  from_sign h = subst (λ d. IsWhole (rest_along (hand p) (sign_value d) (grid_part z) t t')) (sym same) h

  carried_shift : IsWhole (fraction_minus t (part_of_edge m.translation)) → IsWhole (fraction_minus t' (part_of_edge n.translation)) → IsClose p z m n → Rest
  carried_shift a b c = from_sign (shifts.forth UNIT (ROD_GRID) t.den t'.den (hand p) m.translation t.num t'.num n.translation drift unit_positive a b c)

  close : pos 1 ≤ℤ t.den → pos 1 ≤ℤ t'.den → IsWhole (fraction_minus t (part_of_edge m.translation)) → IsWhole (fraction_minus t' (part_of_edge n.translation)) → Rest → IsClose p z m n
  close h k a b c = shifts.back UNIT (ROD_GRID) t.den t'.den (hand p) m.translation t.num t'.num n.translation drift unit_positive h k a b (at_sign c)

  listed_shift : pos 1 ≤ℤ t'.den → IsWhole (fraction_minus t' (part_of_edge n.translation)) → IsClose p z m n → Rest → IsWhole (fraction_minus t (part_of_edge m.translation))
  listed_shift k b c d = shifts.first UNIT (ROD_GRID) t.den t'.den (hand p) m.translation t.num t'.num n.translation drift unit_positive k grid_positive b c (at_sign d)

-- the operation of rationals that the change makes of one of the type
abbrev made_of : Matrix2 → ℕ → RodOperation → RationalRod
made_of p z n = record {
  matrix = multiple2 (hand p) (product2 (product2 p n.matrix) (adjugate2 p));
  over = hand p *ℤ determinant2 p;
  along = n.along;
  translation = record {
    num = ROD_GRID *ℤ (hand p *ℤ n.translation) +ℤ (pos z -ℤ sign_value n.along *ℤ pos z) *ℤ UNIT;
    den = UNIT *ℤ ROD_GRID;
  };
}

made_rational : (p : Matrix2) (z : ℕ) (n : RodOperation) → ¬ (determinant2 p ≡ pos 0) → IsRationalRod (made_of p z n)
made_rational p z n crossed = (size_positive (determinant2 p) crossed, one-le-mul UNIT (ROD_GRID) unit_positive grid_positive)

made_carried : (p : Matrix2) (z : ℕ) (n : RodOperation) → IsCarried p (grid_part z) (made_of p z n) (rational_rod n)
made_carried p z n = record {
  along = refl;
  matrix =
      multiple2-one (product2 (made_of p z n).matrix p) ∙ multiple2-product2 (hand p) (product2 (product2 p n.matrix) (adjugate2 p)) p
      ∙ ap (multiple2 (hand p)) (undone_right (product2 p n.matrix) p) ∙ multiple2-multiple2 (hand p) (determinant2 p) (product2 p n.matrix);
  translation = (pos 0, nothing (ROD_GRID) UNIT (hand p) n.translation (pos z -ℤ sign_value n.along *ℤ pos z));
}
  where
    nothing : (g c h q w : ℤ) → ((g *ℤ (h *ℤ q) +ℤ w *ℤ c) *ℤ c -ℤ (h *ℤ q) *ℤ (c *ℤ g)) *ℤ g -ℤ w *ℤ ((c *ℤ g) *ℤ c) ≡ pos 0 *ℤ (((c *ℤ g) *ℤ c) *ℤ g)
    nothing g c h q w =
        ring (g ∷ c ∷ h ∷ q ∷ w ∷ [])
        (((var 0 ⊗ (var 2 ⊗ var 3) ⊕ var 4 ⊗ var 1) ⊗ var 1 ⊝ (var 2 ⊗ var 3) ⊗ (var 1 ⊗ var 0)) ⊗ var 0 ⊝ var 4 ⊗ ((var 1 ⊗ var 0) ⊗ var 1))
        (num (pos 0) ⊗ (((var 1 ⊗ var 0) ⊗ var 1) ⊗ var 0)) tt

module _ (section ops : List RodMotion) (p : Matrix2) (z : ℕ) where
  -- of one motion, what the test says of it
  abbrev HasLike : RodMotion → Type 0
  HasLike m = Any (λ n. IsPaired p z (rod_of m) (rod_of n)) ops

  abbrev HasSource : RodMotion → Type 0
  HasSource n = Any (λ m. IsPaired p z (rod_of m) (rod_of n)) section

  abbrev Result : RationalRod → Type 0
  Result op = (like : RationalRod) × IsRationalRod like × IsListedRod ops like × IsCarried p (grid_part z) op like

  to_type : Fits section ops p z → (op : RationalRod) → IsListedRod section op → Result op
  to_type fits op s =
      let m = s.motion in
      let (k, n, within, is, pair) = All-contains HasLike section m fits.forth s.listed in (
        rational_rod (rod_of n),
        whole_rod n,
        itself ops n (k, within, is),
        record {
          along = s.along ∙ pair.like.along;
          matrix =
              multiple2-one (product2 op.matrix p) ∙ ap (λ a. product2 a p) s.matrix ∙ multiple2-product2 op.over (rod_of m).matrix p
              ∙ ap (multiple2 op.over) pair.like.matrix;
          translation = carried_shift p z (rod_of m) (rod_of n) op.translation (part_of_edge (rod_of n).translation) op.along s.along s.translation (no_difference (rod_of n).translation) pair.close;
        },
      )

  to_section : Fits section ops p z → (op : RationalRod) → IsRationalRod op → Result op → IsListedRod section op
  to_section fits op rational (like, high, h, c) =
      let n = h.motion in
      let (k, m, within, is, pair) = All-contains HasSource ops n fits.back h.listed in
      let columns : multiple2 like.over (product2 op.matrix p) ≡ multiple2 like.over (product2 (multiple2 op.over (rod_of m).matrix) p) =
      c.matrix ∙ ap (λ a. multiple2 op.over (product2 p a)) h.matrix ∙ ap (multiple2 op.over) (product2-multiple2 like.over p (rod_of n).matrix ∙ ap (multiple2 like.over) (sym pair.like.matrix))
      ∙ multiple2-multiple2 op.over like.over (product2 (rod_of m).matrix p) ∙ ap (λ x. multiple2 x (product2 (rod_of m).matrix p)) (*ℤ_comm op.over like.over)
      ∙ sym (multiple2-multiple2 like.over op.over (product2 (rod_of m).matrix p))
      ∙ ap (multiple2 like.over) (sym (multiple2-product2 op.over (rod_of m).matrix p)) in
      let along = c.along ∙ h.along ∙ sym pair.like.along in
      record {
        motion = m;
        listed = (k, within, is);
        matrix = same_left op.matrix (multiple2 op.over (rod_of m).matrix) p fits.crossed
            (multiple2_cancel like.over (product2 op.matrix p) (product2 (multiple2 op.over (rod_of m).matrix) p) high.0 columns);
        along = along;
        translation = listed_shift p z (rod_of m) (rod_of n) op.translation like.translation op.along along high.1 h.translation pair.close c.translation;
      }

  pub fits_carries : Fits section ops p z → Carries section ops p z
  fits_carries fits = record { crossed = fits.crossed; operations = λ op rational. (to_type fits op, to_section fits op rational) }

  found_like : Carries section ops p z → (m : RodMotion) → Contains section m → HasLike m
  found_like h m listed =
      let (like, high, i, c) = (h.operations (rational_rod (rod_of m)) (whole_rod m)).0 (itself section m listed) in
      let n = i.motion in
      let (k, within, is) = i.listed in (
        k,
        n,
        within,
        is,
        record {
          like = record {
            along = c.along ∙ i.along;
            matrix =
                multiple2_cancel like.over (product2 (rod_of m).matrix p) (product2 p (rod_of n).matrix) high.0
                (c.matrix ∙ multiple2-one (product2 p like.matrix) ∙ ap (product2 p) i.matrix ∙ product2-multiple2 like.over p (rod_of n).matrix);
          };
          close = close p z (rod_of m) (rod_of n) (part_of_edge (rod_of m).translation) like.translation (rod_of m).along refl unit_positive high.1 (no_difference (rod_of m).translation) i.translation c.translation;
        },
      )

  found_source : Carries section ops p z → (n : RodMotion) → Contains ops n → HasSource n
  found_source h n listed =
      let op = made_of p z (rod_of n) in
      let rational = made_rational p z (rod_of n) h.crossed in
      let carried = made_carried p z (rod_of n) in
      let i : IsListedRod section op = (h.operations op rational).1 (rational_rod (rod_of n), whole_rod n, itself ops n listed, carried) in
      let m = i.motion in
      let (k, within, is) = i.listed in (
        k,
        m,
        within,
        is,
        record {
          like = record {
            along = sym i.along;
            matrix =
                multiple2_cancel op.over (product2 (rod_of m).matrix p) (product2 p (rod_of n).matrix) rational.0
                (sym (multiple2-product2 op.over (rod_of m).matrix p) ∙ ap (λ a. product2 a p) (sym i.matrix) ∙ sym (multiple2-one (product2 op.matrix p)) ∙ carried.matrix);
          };
          close = close p z (rod_of m) (rod_of n) op.translation (part_of_edge (rod_of n).translation) (rod_of n).along i.along rational.1 unit_positive i.translation (no_difference (rod_of n).translation) carried.translation;
        },
      )

  pub carries_fits : Carries section ops p z → Fits section ops p z
  carries_fits h = record {
    crossed = h.crossed;
    forth = λ k d within. found_like h (slice_index_or section k d) (All-contains_itself section k d within);
    back = λ k d within. found_source h (slice_index_or ops k d) (All-contains_itself ops k d within);
  }
