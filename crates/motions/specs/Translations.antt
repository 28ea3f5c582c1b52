-- Motions of space modulo the translations by the vectors of a set.
use Rattle.std.specs.Prelude.{◌≡◌, pos, [], ◌∷◌}
use Rattle.quotient.specs.Kind.{Kind, kind_of}
use Rattle.symmetry.specs.Vectors.{Vector, opposite, origin, plus, unit_matrix}
use Rattle.symmetry.specs.Motions.{Motion, followed_by, identity}
use Rattle.motions.specs.declared.motion.Motion3.{Motion3}
use Rattle.motions.specs.Views.{array_of, motion_of}

-- the motion is the translation by a vector of the set
pub record IsTranslationBy (In : Vector → Type 0) (m : Motion) : Type 0 where
  pub matrix : m.matrix ≡ unit_matrix
  pub translation : In m.translation

-- the kind of the motions of space, where the shifts are these translations
abbrev pub modulo_translations : (Vector → Type 0) → Kind
modulo_translations In = kind_of motion_of followed_by identity (λ m. IsTranslationBy In (motion_of m))

-- the sums and opposites of the vectors are among them
pub record IsVectorGroup (In : Vector → Type 0) : Type 0 where
  pub zero_vector : In origin
  pub sums : (v w : Vector) → In v → In w → In (plus v w)
  pub opposites : (v : Vector) → In v → In (opposite v)

-- the translation by a vector, as the code has it
abbrev pub translation_by : Vector → Motion3
translation_by v = record { w = (pos 1 ∷ pos 0 ∷ pos 0 ∷ []) ∷ (pos 0 ∷ pos 1 ∷ pos 0 ∷ []) ∷ (pos 0 ∷ pos 0 ∷ pos 1 ∷ []) ∷ []; t = array_of v }
