-- The finite tests tell whether a change carries a section onto a type, and so do the conditions of its motions.
use Rattle.std.proofs.Common.{◌↔◌, ℕ, ◌<◌, ◌≤◌, List, length, slice_index_or, arith}
use Rattle.std.specs.Prelude.{Any}
use Rattle.quotient.proofs.ListLaws.{item_at}
use Rattle.motions.specs.declared.layer.LayerMotion.{LayerMotion}
use Rattle.motions.specs.PlaneMatrices.{Matrix2}
use Rattle.layer_types.specs.declared.layer_type.LayerType.{LayerType}
use Rattle.layer_types.specs.LayerTypes.{IsLayerType}
use Rattle.recognition.specs.declared.line.Condition.{Condition}
use Rattle.recognition.specs.Changes.{Carries}
use Rattle.recognition.specs.Classes.{Meets, MeetsFirst}
use Rattle.recognition.specs.Order.{origin_at}
use Rattle.recognition.specs.Listed.{Agrees, AreDistinct, Fits, IsPaired}
use Rattle.recognition.proofs.CarriesLemma.{carries_fits, fits_carries}
use Rattle.recognition.proofs.Ready.{type_keeps}
use Rattle.recognition.proofs.TypeSets.{carries_listed}
use Rattle.recognition.proofs.Unique.{from_forth}

module _ (section : List LayerMotion) (n : ℕ) (t : LayerType) (p : Matrix2) (of_type : IsLayerType n t) where
  pub carries_is : (x y : ℕ) → Fits section t p x y ↔ Carries section n p (origin_at x y)
  carries_is x y =
      let l = carries_listed section n t p x y of_type in
      (λ f. l.0 (fits_carries section t p x y f), λ k. carries_fits section t p x y (type_keeps n t of_type) (l.1 k))

  -- the conditions of a matrix that agrees
  module _ (agrees : Agrees section t p) (distinct : AreDistinct t.ops.now) (asked : List Condition)
      (tell : (k : ℕ) (d : Condition) (e : LayerMotion) → k < length section → (x y : ℕ)
      → Meets (slice_index_or asked k d) x y ↔ Any (λ m. IsPaired p x y (slice_index_or section k e) m) t.ops.now) (some : length section ≤ length asked) where
    to_fits : (x y : ℕ) → MeetsFirst (length section) asked x y → Fits section t p x y
    to_fits x y meets =
        from_forth section t p x y distinct agrees (λ k e within.
        let d = item_at asked k (omega arith) in
        (tell k d.0 e within x y).0 (meets k d.0 within))

    to_meets : (x y : ℕ) → Fits section t p x y → MeetsFirst (length section) asked x y
    to_meets x y fits k d within =
        let e = item_at section k within in
        (tell k d e.0 within x y).1 (fits.forth k e.0 within)

    pub meets_is : (x y : ℕ) → MeetsFirst (length section) asked x y ↔ Carries section n p (origin_at x y)
    meets_is x y =
        let c = carries_is x y in
        (λ m. c.0 (to_fits x y m), λ h. to_meets x y (c.1 h))
