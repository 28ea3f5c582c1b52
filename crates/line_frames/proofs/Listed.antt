-- The vectors e W tau of a list of operations.
use Rattle.std.proofs.Common.{◌≡◌, ℕ, ◌<◌, List, [], length, map, get_or, sym, ap, subst, ◌∙◌}
use Rattle.std.proofs.lemmas.List.{get_or-map, length-map}
use Rattle.symmetry.specs.Frames.{KeepsOrientation, sign_at}
use Rattle.symmetry.specs.Motions.{Motion}
use Rattle.symmetry.specs.Vectors.{Vector, image, multiple}
use Rattle.motions.specs.Views.{motion_of}
use Rattle.motions.specs.declared.motion.Motion3.{Motion3}
use Rattle.line_frames.specs.Searches.{IsUp}

module _ (r tau : Vector) (ops : List Motion3) where
  -- at a place of the list
  pub up_at_place : (k : ℕ) (d : Motion3) (v : Vector) → k < length ops → KeepsOrientation r (motion_of (get_or ops k d))
      → v ≡ multiple (sign_at r (motion_of (get_or ops k d))) (image (motion_of (get_or ops k d)).matrix tau) → IsUp r tau (map motion_of ops) v
  up_at_place k d v within keeps is = record {
    op = motion_of (get_or ops k d);
    listed = (k, subst (λ (n : ℕ). k < n) (sym (length-map ops motion_of)) within, get_or-map motion_of ops k d _ within);
    keeps = keeps;
    is = is;
  }

  -- and each stands at one
  pub each_up : ((k : ℕ) (d : Motion3) → k < length ops → KeepsOrientation r (motion_of (get_or ops k d))
      → multiple (sign_at r (motion_of (get_or ops k d))) (image (motion_of (get_or ops k d)).matrix tau) ≡ tau)
      → (v : Vector) → IsUp r tau (map motion_of ops) v → v ≡ tau
  each_up all v up =
      let (k, l, is) = up.listed in
      let d : Motion3 = record { w = []; t = [] } in
      let within : k < length ops = subst (λ (n : ℕ). k < n) (length-map ops motion_of) l in
      let same : up.op ≡ motion_of (get_or ops k d) = sym is ∙ get_or-map motion_of ops k d up.op within in
      up.is ∙ ap (λ (m : Motion). multiple (sign_at r m) (image m.matrix tau)) same ∙ all k d within (subst (KeepsOrientation r) same up.keeps)
