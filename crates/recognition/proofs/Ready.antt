-- What a type brings for the tests, and that a section that a change carries onto it has as many motions.
use Rattle.std.proofs.Common.{◌≡◌, ℕ, Bool, true, false, IsTrue, ◌<◌, ◌-ℤ◌, inl, inr, sym, ap, subst, ◌∙◌, arith, List, length, map, slice_index_or}
use Rattle.std.specs.Prelude.{AllPairs}
use Rattle.std.proofs.lemmas.Int.{ints}
use Rattle.std.proofs.lemmas.List.{get_or-map, length-map}
use Rattle.integers.proofs.Order.{compare_nat}
use Rattle.quotient.specs.Kind.{Keeps}
use Rattle.quotient.proofs.ListLaws.{All-from_map}
use Rattle.motions.specs.declared.layer.LayerMotion.{LayerMotion}
use Rattle.motions.specs.PlaneMatrices.{Matrix2, image2}
use Rattle.motions.specs.PlaneViews.{matrix2_of}
use Rattle.motions.specs.Layers.{IsPlanarSmall, PlanarMotion, planar_of}
use Rattle.layer_types.specs.declared.layer_type.LayerType.{LayerType}
use Rattle.layer_types.specs.Lattices.{InLattice, centring, layer_kind}
use Rattle.layer_types.specs.Laws.LatticeLaws.{in_lattice-is}
use Rattle.layer_types.specs.LayerTypes.{HaveOneBlock, IsLayerType}
use Rattle.layer_types.specs.Rows.{layer_row}
use Rattle.layer_types.specs.Laws.ShiftLaws.{keeps_is}
use Rattle.recognition.specs.Sections.{IsSection}
use Rattle.recognition.specs.Listed.{AreDistinct, IsReady, KeepsCentring, KeepsLattice}

-- ---- a type

keeps_centring : (m : Matrix2) → InLattice true (image2 m centring) → KeepsCentring m
keeps_centring m (inl w) = (w.a -ℤ w.b, omega (arith, ints, w.x, w.y))
keeps_centring m (inr (t, w)) = (w.a -ℤ w.b, omega (arith, ints, w.x, w.y))

keeps_by : (c : Bool) (m : PlanarMotion) → IsTrue c → Keeps (layer_kind c) m → KeepsCentring m.matrix
keeps_by true m t k = keeps_centring m.matrix ((in_lattice-is true (image2 m.matrix centring)).0 ((keeps_is true m).1 k))
keeps_by false m t k = absurd (cc)

pub type_keeps : (n : ℕ) (t : LayerType) → IsLayerType n t → KeepsLattice t
type_keeps n t h c k d within =
    let kept = All-from_map planar_of (Keeps (layer_kind (layer_row n).centred)) t.ops.now h.keeps k d within in
    keeps_by (layer_row n).centred (planar_of (slice_index_or t.ops.now k d)) (subst IsTrue h.centred c) kept

apart_block : (ops : List LayerMotion) → AllPairs (λ l m. ¬ HaveOneBlock l m) (map planar_of ops) → (i j : ℕ) (d e : LayerMotion) → i < j → j < length ops
    → (slice_index_or ops i d).e ≡ (slice_index_or ops j e).e → matrix2_of (slice_index_or ops i d).a ≡ matrix2_of (slice_index_or ops j e).a → ⊥
apart_block ops apart i j d e less within side matrix =
    let at : (k : ℕ) (f : LayerMotion) → k < length ops → slice_index_or (map planar_of ops) k (planar_of d) ≡ planar_of (slice_index_or ops k f) =
    λ k f h. get_or-map planar_of ops k f (planar_of d) h in
    let a = at i d (omega arith) in
    let b = at j e within in
    apart i j (planar_of d) less (subst (λ n. j < n) (sym (length-map ops planar_of)) within) (
      ap (λ (m : PlanarMotion). m.matrix) a ∙ matrix ∙ sym (ap (λ (m : PlanarMotion). m.matrix) b),
      ap (λ (m : PlanarMotion). m.side) a ∙ side ∙ sym (ap (λ (m : PlanarMotion). m.side) b),
    )

distinct : (ops : List LayerMotion) → AllPairs (λ l m. ¬ HaveOneBlock l m) (map planar_of ops) → AreDistinct ops
distinct ops apart i j d e hi hj side matrix =
    elim (compare_nat i j) [
      | inl less ↦ absurd (apart_block ops apart i j d e less hj side matrix)
      | inr r ↦ elim r [ inl is ↦ is | inr less ↦ absurd (apart_block ops apart j i e d less hi (sym side) (sym matrix)) ]
    ]

-- what the tests use of a type
pub ready : (section : List LayerMotion) (n : ℕ) (t : LayerType) → IsSection section → IsLayerType n t → IsReady section t
ready section n t s h = record {
  motions = s;
  ops = All-from_map planar_of IsPlanarSmall t.ops.now h.small;
  keeps = type_keeps n t h;
  distinct = distinct t.ops.now h.apart;
}
