-- Motions that are flat but for a whole third translation: products and inverses of such are such.
use Rattle.std.proofs.Common.{◌≡◌, sym, ap, subst, ◌∙◌, arith, ℤ, pos, negsuc, ◌+ℤ◌, ◌*ℤ◌}
use Rattle.std.specs.Prelude.{unsigned_abs}
use Rattle.std.proofs.lemmas.Int.{ints}
use Rattle.fractions.specs.declared.part.TheConstants.{UNIT}
use Rattle.integers.specs.Size.{Divides}
use Rattle.symmetry.specs.Vectors.{Vector, dot, plus, multiple}
use Rattle.symmetry.specs.Motions.{Motion, followed_by, identity}
use Rattle.integers.proofs.Remainders.{Divides-zero, Divides-add, Divides-multiple}
use Rattle.plane_motions.specs.PlaneMotions.{IsFlat}

-- the third entry of the vector is whole
abbrev pub IsLevel : Vector → Type 0
IsLevel v = Divides (unsigned_abs UNIT) v.z

-- the third row and column of the matrix are those of the unit matrix, and the third translation is whole
pub record IsUpright (m : Motion) : Type 0 where
  pub row_x : m.matrix.third.x ≡ pos 0
  pub row_y : m.matrix.third.y ≡ pos 0
  pub row_z : m.matrix.third.z ≡ pos 1
  pub column_x : m.matrix.first.z ≡ pos 0
  pub column_y : m.matrix.second.z ≡ pos 0
  pub level : IsLevel m.translation

-- ---- sums of three products with the third row or column of the unit matrix

by_row : (a b c x y z : ℤ) → a ≡ pos 0 → b ≡ pos 0 → c ≡ pos 1 → a *ℤ x +ℤ b *ℤ y +ℤ c *ℤ z ≡ z
by_row a b c x y z p q r = (λ i. p i *ℤ x +ℤ q i *ℤ y +ℤ r i *ℤ z) ∙ omega (arith, ints)

by_column : (a b c x y z : ℤ) → x ≡ pos 0 → y ≡ pos 0 → z ≡ pos 1 → a *ℤ x +ℤ b *ℤ y +ℤ c *ℤ z ≡ c
by_column a b c x y z p q r = (λ i. a *ℤ p i +ℤ b *ℤ q i +ℤ c *ℤ r i) ∙ omega (arith, ints)

-- ---- levels

pub level-plus : (v w : Vector) → IsLevel v → IsLevel w → IsLevel (plus v w)
unfolding plus
level-plus v w p q = Divides-add (unsigned_abs UNIT) v.z w.z p q

pub level-multiple : (c : ℤ) (v : Vector) → IsLevel v → IsLevel (multiple c v)
unfolding multiple
level-multiple c v p = Divides-multiple (unsigned_abs UNIT) c v.z p

-- ---- products and inverses

pub flat-upright : (m : Motion) → IsFlat m → IsUpright m
flat-upright m flat = record {
  row_x = flat.row_x;
  row_y = flat.row_y;
  row_z = flat.row_z;
  column_x = flat.column_x;
  column_y = flat.column_y;
  level = subst (Divides (unsigned_abs UNIT)) (sym flat.translation) (Divides-zero (unsigned_abs UNIT));
}

pub upright-product : (m n : Motion) → IsUpright m → IsUpright n → IsUpright (followed_by m n)
unfolding plus multiple dot
upright-product m n p q = record {
  row_x = third m.matrix.first.x m.matrix.second.x m.matrix.third.x ∙ p.row_x;
  row_y = third m.matrix.first.y m.matrix.second.y m.matrix.third.y ∙ p.row_y;
  row_z = third m.matrix.first.z m.matrix.second.z m.matrix.third.z ∙ p.row_z;
  column_x = by_column n.matrix.first.x n.matrix.first.y n.matrix.first.z m.matrix.first.z m.matrix.second.z m.matrix.third.z p.column_x p.column_y p.row_z ∙ q.column_x;
  column_y = by_column n.matrix.second.x n.matrix.second.y n.matrix.second.z m.matrix.first.z m.matrix.second.z m.matrix.third.z p.column_x p.column_y p.row_z ∙ q.column_y;
  level = Divides-add (unsigned_abs UNIT) (dot n.matrix.third m.translation) n.translation.z
      (subst (Divides (unsigned_abs UNIT)) (sym (third m.translation.x m.translation.y m.translation.z)) p.level) q.level;
}
  where
    third : (x y z : ℤ) → n.matrix.third.x *ℤ x +ℤ n.matrix.third.y *ℤ y +ℤ n.matrix.third.z *ℤ z ≡ z
    third x y z = by_row n.matrix.third.x n.matrix.third.y n.matrix.third.z x y z q.row_x q.row_y q.row_z

pub upright-inverse : (m n : Motion) → followed_by m n ≡ identity → followed_by n m ≡ identity → IsUpright m → IsUpright n
unfolding plus multiple dot
upright-inverse m n after before p = record {
  row_x = row_x;
  row_y = row_y;
  row_z = row_z;
  column_x = sym (last n.matrix.first.x n.matrix.first.y n.matrix.first.z) ∙ ap (λ (k : Motion). k.matrix.first.z) after;
  column_y = sym (last n.matrix.second.x n.matrix.second.y n.matrix.second.z) ∙ ap (λ (k : Motion). k.matrix.second.z) after;
  level = subst (Divides (unsigned_abs UNIT)) back (Divides-multiple (unsigned_abs UNIT) (negsuc 0) m.translation.z p.level);
}
  where
    third : (x y z : ℤ) → m.matrix.third.x *ℤ x +ℤ m.matrix.third.y *ℤ y +ℤ m.matrix.third.z *ℤ z ≡ z
    third x y z = by_row m.matrix.third.x m.matrix.third.y m.matrix.third.z x y z p.row_x p.row_y p.row_z

    last : (a b c : ℤ) → a *ℤ m.matrix.first.z +ℤ b *ℤ m.matrix.second.z +ℤ c *ℤ m.matrix.third.z ≡ c
    last a b c = by_column a b c m.matrix.first.z m.matrix.second.z m.matrix.third.z p.column_x p.column_y p.row_z

    row_x : n.matrix.third.x ≡ pos 0
    row_x = sym (third n.matrix.first.x n.matrix.second.x n.matrix.third.x) ∙ ap (λ (k : Motion). k.matrix.third.x) before

    row_y : n.matrix.third.y ≡ pos 0
    row_y = sym (third n.matrix.first.y n.matrix.second.y n.matrix.third.y) ∙ ap (λ (k : Motion). k.matrix.third.y) before

    row_z : n.matrix.third.z ≡ pos 1
    row_z = sym (third n.matrix.first.z n.matrix.second.z n.matrix.third.z) ∙ ap (λ (k : Motion). k.matrix.third.z) before

    back : negsuc 0 *ℤ m.translation.z ≡ n.translation.z
    back =
        let sum : m.translation.z +ℤ n.translation.z ≡ pos 0 =
        ap (λ z. z +ℤ n.translation.z) (sym (by_row n.matrix.third.x n.matrix.third.y n.matrix.third.z m.translation.x m.translation.y m.translation.z row_x row_y row_z))
        ∙ ap (λ (k : Motion). k.translation.z) after in
        omega (arith, ints)
