-- Motions of layers in the block form.
use Rattle.std.proofs.Common.{◌≡◌, ℤ, pos, ◌*ℤ◌, sym, arith}
use Rattle.std.specs.Prelude.{int_div}
use Rattle.std.proofs.lemmas.Int.{ints}
use Rattle.symmetry.specs.Motions.{Motion}
use Rattle.symmetry.proofs.MotionLaws.{motion_path}
use Rattle.symmetry.proofs.VectorLaws.{vector_path}
use Rattle.motions.specs.declared.layer.LayerMotion.{LayerMotion}
use Rattle.motions.specs.Layers.{planar_of, IsBlockForm}
use Rattle.report.specs.TypeTexts.{block_of_layer}

div-twice : (n h : ℤ) → n ≡ pos 2 *ℤ h → int_div n (pos 2) ≡ h
div-twice n h e = omega (arith, ints)

pub block_by_form : (m : LayerMotion) (b : Motion) → IsBlockForm (planar_of m) b → b ≡ block_of_layer m
block_by_form m b h = motion_path h.matrix (vector_path (sym (div-twice _ _ h.x)) (sym (div-twice _ _ h.y)) h.z)
