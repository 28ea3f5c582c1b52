-- The laws of motions.
use Rattle.std.proofs.Common.{◌≡◌, negsuc, sym, ◌∙◌, ap}
use Rattle.symmetry.specs.Vectors.{Matrix, image, origin, plus, opposite, product, unit_matrix, Vector, minus}
use Rattle.symmetry.specs.Motions.{Motion, followed_by, identity, translation}
use Rattle.symmetry.proofs.VectorLaws.{plus_assoc, plus-origin, origin-plus, minus-same, opposite-plus_same, plus_comm, plus-minus_first}
use Rattle.symmetry.proofs.MatrixLaws.{image-plus, image-multiple, image-product, image-unit, image-origin, product_assoc, product-unit_left, product-unit_right}

-- two motions are equal when their parts are
pub motion_path : {m n : Motion} → m.matrix ≡ n.matrix → m.translation ≡ n.translation → m ≡ n
motion_path p q = λ i. record { matrix = p i; translation = q i }

pub followed_by-assoc : (k m n : Motion) → followed_by (followed_by k m) n ≡ followed_by k (followed_by m n)
followed_by-assoc k m n =
    motion_path (sym (product_assoc n.matrix m.matrix k.matrix))
    (ap (λ v. plus v n.translation) (image-plus n.matrix (image m.matrix k.translation) m.translation)
    ∙ plus_assoc (image n.matrix (image m.matrix k.translation)) (image n.matrix m.translation) n.translation
    ∙ ap (λ v. plus v (plus (image n.matrix m.translation) n.translation)) (sym (image-product n.matrix m.matrix k.translation)))

pub followed_by-identity : (m : Motion) → followed_by m identity ≡ m
followed_by-identity m =
    motion_path (product-unit_left m.matrix) (ap (λ v. plus v origin) (image-unit m.translation) ∙ plus-origin m.translation)

pub identity-followed_by : (m : Motion) → followed_by identity m ≡ m
identity-followed_by m =
    motion_path (product-unit_right m.matrix) (ap (λ v. plus v m.translation) (image-origin m.matrix) ∙ origin-plus m.translation)

-- the motion that takes back what m does, where the matrix w is the inverse of m's
abbrev pub inverse_by : Matrix → Motion → Motion
inverse_by w m = record { matrix = w; translation = opposite (image w m.translation) }

pub followed_by-inverse_by : (w : Matrix) (m : Motion) → product w m.matrix ≡ unit_matrix → followed_by m (inverse_by w m) ≡ identity
followed_by-inverse_by w m e = motion_path e (minus-same (image w m.translation))

pub inverse_by-followed_by : (w : Matrix) (m : Motion) → product m.matrix w ≡ unit_matrix → followed_by (inverse_by w m) m ≡ identity
inverse_by-followed_by w m e =
    motion_path e
    (ap (λ v. plus v m.translation)
    (image-multiple m.matrix (negsuc 0) (image w m.translation)
    ∙ ap opposite (sym (image-product m.matrix w m.translation) ∙ ap (λ n. image n m.translation) e ∙ image-unit m.translation))
    ∙ opposite-plus_same m.translation)

-- ---- translations

-- a motion and then a translation
pub followed_by-translation : (m : Motion) (v : Vector) → followed_by m (translation v) ≡ record { matrix = m.matrix; translation = plus m.translation v }
followed_by-translation m v = motion_path (product-unit_left m.matrix) (ap (λ u. plus u v) (image-unit m.translation))

-- a translation and then a motion is the motion and then the translation by what it makes of the vector
pub translation-followed_by : (m : Motion) (v : Vector) → followed_by (translation v) m ≡ followed_by m (translation (image m.matrix v))
translation-followed_by m v =
    motion_path (product-unit_right m.matrix) (plus_comm (image m.matrix v) m.translation) ∙ sym (followed_by-translation m (image m.matrix v))

-- after one motion, two translations that give one motion are one
pub followed_by-translation_once : (m : Motion) (v w : Vector) → followed_by m (translation v) ≡ followed_by m (translation w) → v ≡ w
followed_by-translation_once m v w e =
    let same = sym (followed_by-translation m v) ∙ e ∙ followed_by-translation m w in
    sym (plus-minus_first m.translation v) ∙ ap (λ (k : Motion). minus k.translation m.translation) same ∙ plus-minus_first m.translation w
