-- Written forms, each computed from its motion.
use Rattle.std.proofs.Common.{◌≡◌, ℤ, pos, negsuc, neg_ℤ, ◌*ℤ◌, refl}
use Rattle.std.specs.Prelude.{int_div, codes}
use Rattle.std.specs.Fmt.{digits}
use Rattle.fractions.specs.declared.part.TheConstants.{UNIT}
use Rattle.fractions.specs.LowestTerms.{gcd_in, gcd, signed_gcd, lowest_terms}
use Rattle.symmetry.specs.Vectors.{Vector, unit_matrix, origin}
use Rattle.symmetry.specs.Motions.{Motion}
use Rattle.motions.specs.declared.motion.Sign.TheVariants.{Plus, Minus}
use Rattle.triplets.specs.Writing.{frieze_text, row_text, triplet_text}

abbrev row : ℤ → ℤ → ℤ → Vector
row x y z = record { x = x; y = y; z = z }

abbrev motion : Vector → Vector → Vector → Vector → Motion
motion first second third shift = record {
  matrix = record { first = first; second = second; third = third };
  translation = shift;
}

-- this fraction of a cell edge, in parts
abbrev edges : ℤ → ℤ → ℤ
edges num den = int_div (num *ℤ UNIT) den

identity : triplet_text (record { matrix = unit_matrix; translation = origin }) ≡ codes "x,y,z"
unfolding digits gcd_in gcd signed_gcd lowest_terms
identity = refl

threefold : triplet_text (motion
    (row (negsuc 0) (pos 1) (pos 0))
    (row (negsuc 0) (pos 0) (pos 0))
    (row (pos 0) (pos 0) (pos 1))
    origin)
    ≡ codes "-x+y,-x,z"
unfolding digits gcd_in gcd signed_gcd lowest_terms
threefold = refl

glide : triplet_text (motion
    (row (pos 1) (pos 0) (pos 0))
    (row (pos 0) (negsuc 0) (pos 0))
    (row (pos 0) (pos 0) (pos 1))
    (row (pos 0) (edges (pos 1) (pos 2)) (edges (negsuc 0) (pos 2))))
    ≡ codes "x,-y+1/2,z-1/2"
unfolding digits gcd_in gcd signed_gcd lowest_terms
glide = refl

whole_edges : triplet_text (motion
    (row (negsuc 0) (pos 0) (pos 0))
    (row (pos 0) (negsuc 0) (pos 0))
    (row (pos 0) (pos 0) (negsuc 0))
    (row (neg_ℤ UNIT) UNIT (pos 0)))
    ≡ codes "-x-1,-y+1,-z"
unfolding digits gcd_in gcd signed_gcd lowest_terms
whole_edges = refl

no_term : triplet_text (motion
    (row (pos 1) (pos 0) (pos 0)) (row (pos 0) (pos 1) (pos 0)) (row (pos 0) (pos 0) (pos 0)) origin)
    ≡ codes "x,y,0"
unfolding digits gcd_in gcd signed_gcd lowest_terms
no_term = refl

digits_of_coefficients : row_text (row (negsuc 11) (pos 0) (pos 3)) (edges (negsuc 2) (pos 8)) ≡ codes "-12x+3z-3/8"
unfolding digits gcd_in gcd signed_gcd lowest_terms
digits_of_coefficients = refl

a_number_alone : row_text (row (pos 0) (pos 0) (pos 0)) (edges (pos 5) (pos 3)) ≡ codes "5/3"
unfolding digits gcd_in gcd signed_gcd lowest_terms
a_number_alone = refl

frieze_glide : frieze_text (record { along = Plus; across = Minus; translation = edges (pos 1) (pos 2) }) ≡ codes "x+1/2,-y"
unfolding digits gcd_in gcd signed_gcd lowest_terms
frieze_glide = refl

half_turn : frieze_text (record { along = Minus; across = Minus; translation = pos 0 }) ≡ codes "-x,-y"
unfolding digits gcd_in gcd signed_gcd lowest_terms
half_turn = refl
