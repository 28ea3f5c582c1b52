-- The definitions at known values: C2/m with the planes (0 1 0), at the height 1/4.
use Rattle.std.proofs.Common.{◌≡◌, ℕ, zero, suc, ◌<◌, inl, inr, ℤ, pos, negsuc, neg_ℤ, ◌*ℤ◌, refl, ap, arith, lit<, [], ◌∷◌}
use Rattle.std.proofs.lemmas.Int.{ints}
use Rattle.fractions.specs.declared.part.TheConstants.{UNIT}
use Rattle.fractions.specs.Parts.{half_an_edge}
use Rattle.symmetry.specs.Vectors.{Vector, Matrix, origin, plus, multiple, dot, cross}
use Rattle.symmetry.specs.Motions.{Motion, identity}
use Rattle.symmetry.specs.Planes.{Height, TurnsRow, KeepsPlane}
use Rattle.symmetry.specs.Groups.{Listing, zero_vector, added, subtracted, SameModulo, IsMember, FixesEveryPlane}
use Rattle.symmetry.specs.Frames.{Basis, mean_of, sign_at, IsAtHome, IsSpecial}
use Rattle.symmetry.specs.Lists.{ComesBefore, motion_at}
use Rattle.symmetry.proofs.PlaneImages.{maps_from_row}
use Rattle.symmetry.proofs.LatticeLaws.{same_refl}

abbrev vector : ℤ → ℤ → ℤ → Vector
vector x y z = record { x = x; y = y; z = z }

abbrev diagonal : ℤ → ℤ → ℤ → Matrix
diagonal x y z = record { first = vector x (pos 0) (pos 0); second = vector (pos 0) y (pos 0); third = vector (pos 0) (pos 0) z }

abbrev still : Matrix → Motion
still m = record { matrix = m; translation = origin }

-- the row (0 1 0)
abbrev row : Vector
row = vector (pos 0) (pos 1) (pos 0)

-- x,y,z; -x,y,-z; -x,-y,-z; x,-y,z; and the centring vector 1/2,1/2,0
abbrev listing : Listing
listing = record {
  ops = identity ∷ still (diagonal (negsuc 0) (pos 1) (negsuc 0)) ∷ still (diagonal (negsuc 0) (negsuc 0) (negsuc 0))
      ∷ still (diagonal (pos 1) (negsuc 0) (pos 1)) ∷ [];
  centrings = origin ∷ vector half_an_edge half_an_edge (pos 0) ∷ [];
}

-- a, -c and -a/2 + b/2
abbrev frame : Basis
frame = record { a = vector UNIT (pos 0) (pos 0); b = vector (pos 0) (pos 0) (neg_ℤ UNIT); tau = vector (neg_ℤ half_an_edge) half_an_edge (pos 0) }

abbrev quarter : Height
quarter = record { num = pos 1; den = pos 4 }

-- x-1/2,-y+1/2,z
abbrev glide : Motion
glide = record { matrix = diagonal (pos 1) (negsuc 0) (pos 1); translation = vector (neg_ℤ half_an_edge) half_an_edge (pos 0) }

-- the signs of the listed operations, and c', which is 0,1/2,0
rotation_keeps : sign_at row (still (diagonal (negsuc 0) (pos 1) (negsuc 0))) ≡ pos 1
unfolding plus multiple
rotation_keeps = refl

glide_turns : sign_at row glide ≡ negsuc 0
unfolding plus multiple
glide_turns = refl

mean_is : mean_of row frame.tau listing.ops ≡ record { at = vector (pos 0) (pos 4 *ℤ half_an_edge) (pos 0); over = UNIT *ℤ pos 4 }
unfolding dot plus multiple
mean_is = refl

-- a and b are right-handed
right_handed : cross frame.a frame.b ≡ multiple (UNIT *ℤ UNIT) row
unfolding cross multiple
right_handed = refl

-- (hkl) W = -(hkl), and twice 1/4 is (hkl).w
turns : TurnsRow row quarter glide
unfolding dot plus multiple
turns = (refl, refl)

-- the glide is a member: it is the mirror and 1/2,1/2,0 less the edge a
same_as_mirror : SameModulo listing glide (motion_at listing.ops 3)
unfolding plus multiple
same_as_mirror = record {
  matrix = refl;
  translation = subtracted (vector half_an_edge half_an_edge (pos 0)) (vector UNIT (pos 0) (pos 0))
      (added origin (vector half_an_edge half_an_edge (pos 0)) zero_vector (inr (inl (1, lit< tt, refl)))) (inl (0, lit< tt, refl));
}

is_member : IsMember listing glide
is_member = record { of = motion_at listing.ops 3; listed = (3, lit< tt, refl); same = same_as_mirror }

-- it maps the plane 1/4 to itself, and not the plane 0, so that the height 1/4 is special
keeps_quarter : KeepsPlane row quarter glide
unfolding dot plus multiple
keeps_quarter = maps_from_row row quarter quarter (negsuc 0) glide (omega (arith, ints)) (refl, refl)

not_all : ¬ (FixesEveryPlane listing row glide)
unfolding dot plus multiple
not_all fixes =
    let zero_height : Height = record { num = pos 0; den = pos 1 } in
    absurd (omega (arith, ints, fixes.1 zero_height (omega (arith, ints)) (record { at = origin; over = pos 1 }) (omega (arith, ints)) refl))

special : IsSpecial listing row quarter
special = (glide, (is_member, keeps_quarter), not_all)

-- it is at home: its translation is tau
at_home : IsAtHome frame glide
unfolding plus multiple
at_home = record {
  over = pos 1;
  positive = omega (arith, ints);
  by = vector (pos 0) (pos 0) (pos 1);
  is = refl;
  x_from = omega (arith, ints);
  x_below = omega (arith, ints);
  y_from = omega (arith, ints);
  y_below = omega (arith, ints);
}

-- the identity comes before it: the first listed operation against the fourth
comes_before : ComesBefore (SameModulo listing) listing.ops identity glide
comes_before = record {
  p = 0;
  q = 3;
  first_of_m = record { within = lit< tt; has = same_refl listing identity; none_before = λ q h. absurd (omega arith) };
  first_of_n = record { within = lit< tt; has = same_as_mirror; none_before = none };
  before = lit< tt;
}
  where
    none : (q : ℕ) → q < 3 → ¬ (SameModulo listing glide (motion_at listing.ops q))
    none zero h same = absurd (omega (arith, ints, ap (λ (m : Matrix). m.second.y) same.matrix))
    none (suc zero) h same = absurd (omega (arith, ints, ap (λ (m : Matrix). m.first.x) same.matrix))
    none (suc (suc zero)) h same = absurd (omega (arith, ints, ap (λ (m : Matrix). m.first.x) same.matrix))
    none (suc (suc (suc q))) h same = absurd (omega arith)
