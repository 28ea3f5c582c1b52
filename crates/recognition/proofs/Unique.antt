-- a motion of the section has at most one like it in the type
use Rattle.std.proofs.Common.{◌≡◌, ℕ, ◌<◌, ℤ, pos, ◌+ℤ◌, ◌-ℤ◌, ◌*ℤ◌, sym, ◌∙◌, ap, subst, arith, Bool, true, false, List, length, slice_index_or}
use Rattle.std.specs.Prelude.{All, Any}
use Rattle.std.proofs.lemmas.Int.{ints}
use Rattle.std.proofs.lemmas.List.{get_or_default}
use Rattle.motions.specs.declared.layer.LayerMotion.{LayerMotion}
use Rattle.layer_types.specs.declared.layer_type.LayerType.{LayerType}
use Rattle.motions.specs.PlaneMatrices.{Matrix2, determinant2, product2}
use Rattle.motions.specs.Laws.PlaneMatrixLaws.{matrix2_path, pair_path}
use Rattle.recognition.specs.Listed.{Agrees, TakesLattice, IsLike, IsPaired, Fits, AreDistinct}
use Rattle.integers.proofs.Spread.{spread}
use Rattle.integers.proofs.Ring.{mul_assoc, same_of_sub}
use Rattle.integers.proofs.Order.{mul_left_cancel_pos}
use Rattle.recognition.proofs.Determinants.{half_determinant}
use Rattle.recognition.proofs.Lattices.{by_unit}

zero_by_lattice : (c : Bool) (p : Matrix2) → TakesLattice c p → (x : ℤ) → determinant2 p *ℤ x ≡ pos 0 → x ≡ pos 0
zero_by_lattice true p h x e =
    let z = h.a *ℤ p.second.y -ℤ p.first.y *ℤ h.b in
    by_unit z x h.unit
    (mul_left_cancel_pos (pos 2) (z *ℤ x) (pos 0) (omega (arith, ints))
    (sym (mul_assoc (pos 2) z x) ∙ ap (λ d. d *ℤ x) (sym (half_determinant p.first.x p.first.y p.second.x p.second.y h.a h.b h.first h.second)) ∙ e))
zero_by_lattice false p h x e = by_unit (determinant2 p) x h e

-- a column with a given image
same_columns : (c : Bool) (p : Matrix2) → TakesLattice c p → (x y u v : ℤ)
    → p.first.x *ℤ x +ℤ p.first.y *ℤ y ≡ p.first.x *ℤ u +ℤ p.first.y *ℤ v → p.second.x *ℤ x +ℤ p.second.y *ℤ y ≡ p.second.x *ℤ u +ℤ p.second.y *ℤ v → (x ≡ u) × (y ≡ v)
same_columns c p h x y u v e f =
    let first = zero_by_lattice c p h (x -ℤ u) (one p.first.x p.first.y p.second.x p.second.y x y u v ∙ (λ i. p.second.y *ℤ (e i -ℤ (p.first.x *ℤ u +ℤ p.first.y *ℤ v)) -ℤ p.first.y *ℤ (f i -ℤ (p.second.x *ℤ u +ℤ p.second.y *ℤ v))) ∙ none p.second.y p.first.y (p.first.x *ℤ u +ℤ p.first.y *ℤ v) (p.second.x *ℤ u +ℤ p.second.y *ℤ v)) in
    let second = zero_by_lattice c p h (y -ℤ v) (two p.first.x p.first.y p.second.x p.second.y x y u v ∙ (λ i. p.first.x *ℤ (f i -ℤ (p.second.x *ℤ u +ℤ p.second.y *ℤ v)) -ℤ p.second.x *ℤ (e i -ℤ (p.first.x *ℤ u +ℤ p.first.y *ℤ v))) ∙ none p.first.x p.second.x (p.second.x *ℤ u +ℤ p.second.y *ℤ v) (p.first.x *ℤ u +ℤ p.first.y *ℤ v)) in
    (same_of_sub x u first, same_of_sub y v second)
  where
    none : (a b m n : ℤ) → a *ℤ (m -ℤ m) -ℤ b *ℤ (n -ℤ n) ≡ pos 0
    none a b m n = simp spread (omega (arith, ints))

    one : (a b c d x y u v : ℤ) → (a *ℤ d -ℤ b *ℤ c) *ℤ (x -ℤ u) ≡ d *ℤ ((a *ℤ x +ℤ b *ℤ y) -ℤ (a *ℤ u +ℤ b *ℤ v)) -ℤ b *ℤ ((c *ℤ x +ℤ d *ℤ y) -ℤ (c *ℤ u +ℤ d *ℤ v))
    one a b c d x y u v = simp spread (omega (arith, ints))

    two : (a b c d x y u v : ℤ) → (a *ℤ d -ℤ b *ℤ c) *ℤ (y -ℤ v) ≡ a *ℤ ((c *ℤ x +ℤ d *ℤ y) -ℤ (c *ℤ u +ℤ d *ℤ v)) -ℤ c *ℤ ((a *ℤ x +ℤ b *ℤ y) -ℤ (a *ℤ u +ℤ b *ℤ v))
    two a b c d x y u v = simp spread (omega (arith, ints))

pub same_right : (c : Bool) (p m n : Matrix2) → TakesLattice c p → product2 p m ≡ product2 p n → m ≡ n
same_right c p m n h e =
    let first = same_columns c p h m.first.x m.second.x n.first.x n.second.x (λ i. (e i).first.x) (λ i. (e i).second.x) in
    let second = same_columns c p h m.first.y m.second.y n.first.y n.second.y (λ i. (e i).first.y) (λ i. (e i).second.y) in
    matrix2_path (pair_path first.0 second.0) (pair_path first.1 second.1)

-- two motions of the type that are like one of the section are one
pub same_like : (c : Bool) (p : Matrix2) → TakesLattice c p → (ops : List LayerMotion) → AreDistinct ops → (m : LayerMotion) (i j : ℕ) (d e : LayerMotion)
    → i < length ops → j < length ops → IsLike p m (slice_index_or ops i d) → IsLike p m (slice_index_or ops j e) → slice_index_or ops i d ≡ slice_index_or ops j e
same_like c p h ops distinct m i j d e hi hj f g =
    let k = distinct i j d e hi hj (sym f.side ∙ g.side) (same_right c p _ _ h (sym f.matrix ∙ g.matrix)) in
    ap (λ n. slice_index_or ops n d) k ∙ get_or_default ops j d e hj

-- the paired motions of the section tell the whole test
pub from_forth : (section : List LayerMotion) (t : LayerType) (p : Matrix2) (x y : ℕ) → AreDistinct t.ops.now → Agrees section t p
    → All (λ m. Any (λ n. IsPaired p x y m n) t.ops.now) section → Fits section t p x y
from_forth section t p x y distinct agrees forth = record {
  lattice = agrees.lattice;
  forth = forth;
  back = λ k d within. source k d within (agrees.back k d within);
}
  where
    source : (k : ℕ) (d : LayerMotion) → k < length t.ops.now → Any (λ m. IsLike p m (slice_index_or t.ops.now k d)) section
        → Any (λ m. IsPaired p x y m (slice_index_or t.ops.now k d)) section
    source k d within (i, m, below, is, like) =
        let Has : LayerMotion → Type 0 = λ m. Any (λ n. IsPaired p x y m n) t.ops.now in
        let (j, n, under, at, pair) = subst Has is (forth i m below) in
        let Like : LayerMotion → Type 0 = λ z. IsLike p m z in
        let same : n ≡ slice_index_or t.ops.now k d = sym at ∙ same_like t.centred p agrees.lattice t.ops.now distinct m j k n d under within (subst Like (sym at) pair.like) like in
        let RationalPair : LayerMotion → Type 0 = λ z. IsPaired p x y m z in
        (i, m, below, is, subst RationalPair same pair)
