-- The scanning operations of a list, one operation after the other.
use Rattle.std.proofs.Common.{◌≡◌, ℕ, ◌+◌, ◌<◌, pos, negsuc, Bool, true, false, cond, List, [], ◌∷◌, ◌++◌, length, map, take, get_or, sym, ap, subst, ◌∙◌, arith, add-one, ◌*◌}
use Rattle.std.proofs.Math.Seq.{take-suc}
use Rattle.std.proofs.lemmas.List.{map-append}
use Rattle.std.proofs.lemmas.Bool.{false_from_ne_true}
use Rattle.integers.specs.Size.{IsWithin}
use Rattle.integers.proofs.Ring.{IsWithin-add, IsWithin-mul}
use Rattle.integers.proofs.Sizes.{unit_within}
use Rattle.symmetry.specs.Sizes.{IsVectorWithin}
use Rattle.symmetry.specs.Vectors.{Vector, plus, minus, multiple, image, row_times}
use Rattle.symmetry.specs.Motions.{Motion}
use Rattle.symmetry.specs.Frames.{same_vector, sign_at, total_up, KeepsOrientation}
use Rattle.symmetry.proofs.VectorLaws.{plus_assoc, plus-origin, origin-plus, multiple-one}
use Rattle.symmetry.proofs.Sizes.{IsVectorWithin-more}
use Rattle.symmetry.proofs.Signs.{same_or_opposite-is}
use Rattle.symmetry.proofs.KeptOps.{filter-push}
use Rattle.motions.specs.Views.{motion_of}
use Rattle.motions.specs.declared.motion.Motion3.{Motion3}
use Rattle.plane_lattice.specs.Scanning.{keeps_orientation, scanning_ops}

-- ---- the test of the orientation

pub keeps_true : (r : Vector) (m : Motion) → KeepsOrientation r m → keeps_orientation r m ≡ true
keeps_true r m = (same_or_opposite-is (row_times r m.matrix) r).1

pub true_keeps : (r : Vector) (m : Motion) → keeps_orientation r m ≡ true → KeepsOrientation r m
true_keeps r m = (same_or_opposite-is (row_times r m.matrix) r).0

pub keeps_false : (r : Vector) (m : Motion) → ¬ KeepsOrientation r m → keeps_orientation r m ≡ false
keeps_false r m none = false_from_ne_true (keeps_orientation r m) (λ e. none (true_keeps r m e))

-- ---- one operation more

pub taken_more : (ops : List Motion3) (i : ℕ) (d : Motion3) → i < length ops
    → map motion_of (take (i + 1) ops) ≡ map motion_of (take i ops) ++ motion_of (get_or ops i d) ∷ []
taken_more ops i d h =
    ap (λ n. map motion_of (take n ops)) (add-one i) ∙ ap (map motion_of) (take-suc ops i d h) ∙ map-append motion_of (take i ops) (get_or ops i d ∷ [])

pub total_up-more : (r tau : Vector) (ms : List Motion) (m : Motion)
    → total_up r tau (ms ++ m ∷ []) ≡ plus (total_up r tau ms) (multiple (sign_at r m) (image m.matrix tau))
total_up-more r tau [] m = plus-origin (multiple (sign_at r m) (image m.matrix tau)) ∙ sym (origin-plus (multiple (sign_at r m) (image m.matrix tau)))
total_up-more r tau (n ∷ ms) m =
    ap (plus (multiple (sign_at r n) (image n.matrix tau))) (total_up-more r tau ms m)
    ∙ sym (plus_assoc (multiple (sign_at r n) (image n.matrix tau)) (total_up r tau ms) (multiple (sign_at r m) (image m.matrix tau)))

-- the sum over one operation more
pub total_more : (r tau t v : Vector) (ms : List Motion) (m : Motion) → t ≡ total_up r tau (scanning_ops r ms)
    → v ≡ cond (keeps_orientation r m) (plus t (multiple (sign_at r m) (image m.matrix tau))) t
    → v ≡ total_up r tau (scanning_ops r (ms ++ m ∷ []))
total_more r tau t v ms m is more = more ∙ by (keeps_orientation r m) ∙ sym (ap (total_up r tau) (filter-push (keeps_orientation r) ms m))
  where
    by : (b : Bool) → cond b (plus t (multiple (sign_at r m) (image m.matrix tau))) t
        ≡ total_up r tau (cond b (scanning_ops r ms ++ m ∷ []) (scanning_ops r ms))
    by true = ap (λ u. plus u (multiple (sign_at r m) (image m.matrix tau))) is ∙ sym (total_up-more r tau (scanning_ops r ms) m)
    by false = is

-- ---- e W tau

pub with_plus : (r : Vector) (m : Motion) (x t v : Vector) → KeepsOrientation r m → pos 1 ≡ sign_at r m → x ≡ plus t v
    → x ≡ cond (keeps_orientation r m) (plus t (multiple (sign_at r m) v)) t
with_plus r m x t v keeps sign is =
    is ∙ ap (plus t) (sym (multiple-one v) ∙ ap (λ e. multiple e v) sign)
    ∙ ap (λ (b : Bool). cond b (plus t (multiple (sign_at r m) v)) t) (sym (keeps_true r m keeps))

pub with_minus : (r : Vector) (m : Motion) (x t v : Vector) → KeepsOrientation r m → negsuc 0 ≡ sign_at r m → x ≡ minus t v
    → x ≡ cond (keeps_orientation r m) (plus t (multiple (sign_at r m) v)) t
with_minus r m x t v keeps sign is =
    is ∙ ap (plus t) (ap (λ e. multiple e v) sign)
    ∙ ap (λ (b : Bool). cond b (plus t (multiple (sign_at r m) v)) t) (sym (keeps_true r m keeps))

pub with_none : (r : Vector) (m : Motion) (x t v : Vector) → ¬ KeepsOrientation r m → x ≡ t
    → x ≡ cond (keeps_orientation r m) (plus t (multiple (sign_at r m) v)) t
with_none r m x t v none is = is ∙ ap (λ (b : Bool). cond b (plus t (multiple (sign_at r m) v)) t) (sym (keeps_false r m none))

-- ---- sizes

sign_within : (r : Vector) (m : Motion) → IsWithin 1 (sign_at r m)
sign_within r m = unit_within (same_vector (row_times r m.matrix) r)

pub total_within : (n k : ℕ) (r : Vector) (m : Motion) (t v x : Vector) → IsVectorWithin n t → IsVectorWithin k v
    → x ≡ cond (keeps_orientation r m) (plus t (multiple (sign_at r m) v)) t → IsVectorWithin (n + 1 * k) x
unfolding plus multiple
total_within n k r m t v x h l e = subst (IsVectorWithin (n + 1 * k)) (sym e) (by (keeps_orientation r m))
  where
    by : (b : Bool) → IsVectorWithin (n + 1 * k) (cond b (plus t (multiple (sign_at r m) v)) t)
    by true =
        let s = sign_within r m in
        record { x = IsWithin-add h.x (IsWithin-mul s l.x); y = IsWithin-add h.y (IsWithin-mul s l.y); z = IsWithin-add h.z (IsWithin-mul s l.z) }
    by false = IsVectorWithin-more h (omega arith)
