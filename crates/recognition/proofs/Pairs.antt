-- Where a motion of the type is like one of the section, all depends on that one.
use Rattle.std.proofs.Common.{◌≡◌, ◌↔◌, ℕ, ◌<◌, sym, ◌∙◌, subst, length, slice_index_or}
use Rattle.std.specs.Prelude.{Any}
use Rattle.std.proofs.lemmas.List.{get_or_default}
use Rattle.motions.specs.declared.layer.LayerMotion.{LayerMotion}
use Rattle.motions.specs.PlaneMatrices.{Matrix2}
use Rattle.layer_types.specs.declared.layer_type.LayerType.{LayerType}
use Rattle.recognition.specs.Listed.{AreDistinct, IsClose, IsLike, IsPaired, TakesLattice}
use Rattle.recognition.proofs.Unique.{same_like}

module _ (t : LayerType) (p : Matrix2) (lattice : TakesLattice t.centred p) (distinct : AreDistinct t.ops.now) (m : LayerMotion) (i : ℕ) (d : LayerMotion)
    (within : i < length t.ops.now) (like : IsLike p m (slice_index_or t.ops.now i d)) where
  close_of_like : (x y : ℕ) → Any (λ n. IsPaired p x y m n) t.ops.now → IsClose p x y m (slice_index_or t.ops.now i d)
  close_of_like x y (j, n, under, at, pair) =
      let Like : LayerMotion → Type 0 = λ z. IsLike p m z in
      let same : n ≡ slice_index_or t.ops.now i d = sym at ∙ same_like t.centred p lattice t.ops.now distinct m j i n d under within (subst Like (sym at) pair.like) like in
      let Close : LayerMotion → Type 0 = λ z. IsClose p x y m z in
      subst Close same pair.close

  pub paired_is : (x y : ℕ) → IsClose p x y m (slice_index_or t.ops.now i d) ↔ Any (λ n. IsPaired p x y m n) t.ops.now
  paired_is x y = (
    λ close.
        let n = slice_index_or t.ops.now i d in
        (i, n, within, get_or_default t.ops.now i n d within, record { like = like; close = close }),
    close_of_like x y,
  )
