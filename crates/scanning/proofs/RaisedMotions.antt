-- A motion moved along tau.
use Rattle.std.proofs.Common.{◌≡◌, ℤ, ◌+ℤ◌, ◌*ℤ◌, ◌∙◌, ap, subst, arith}
use Rattle.std.proofs.lemmas.Int.{ints}
use Rattle.integers.proofs.Spread.{spread}
use Rattle.symmetry.specs.Vectors.{Vector, plus, minus, opposite, multiple, dot}
use Rattle.symmetry.specs.Motions.{Motion}
use Rattle.symmetry.specs.Groups.{Listing, IsInLattice, SameModulo}
use Rattle.symmetry.specs.Frames.{Basis, combination, IsFrame, IsAtHome}
use Rattle.symmetry.proofs.VectorLaws.{vector_path, dot-plus, dot-multiple}
use Rattle.symmetry.proofs.LatticeLaws.{lattice-plus, lattice-opposite}
use Rattle.symmetry.proofs.FrameLaws.{tau_multiple}

-- the motion, and then the translation by k tau
abbrev pub raised : Basis → ℤ → Motion → Motion
raised f k m = record { matrix = m.matrix; translation = plus m.translation (multiple k f.tau) }

-- ---- at home

-- with the third coordinate greater by o k
abbrev higher : ℤ → ℤ → Vector → Vector
higher o k v = record { x = v.x; y = v.y; z = v.z +ℤ o *ℤ k }

combination-higher : (f : Basis) (o k : ℤ) (v s : Vector) → combination f v ≡ multiple o s → combination f (higher o k v) ≡ multiple o (plus s (multiple k f.tau))
unfolding plus multiple
combination-higher f o k v s e =
    let x = ap (λ (u : Vector). u.x) e in
    let y = ap (λ (u : Vector). u.y) e in
    let z = ap (λ (u : Vector). u.z) e in
    vector_path (entry (v.x *ℤ f.a.x +ℤ v.y *ℤ f.b.x) v.z f.tau.x s.x x) (entry (v.x *ℤ f.a.y +ℤ v.y *ℤ f.b.y) v.z f.tau.y s.y y)
    (entry (v.x *ℤ f.a.z +ℤ v.y *ℤ f.b.z) v.z f.tau.z s.z z)
  where
    entry : (p z t s : ℤ) → p +ℤ z *ℤ t ≡ o *ℤ s → p +ℤ (z +ℤ o *ℤ k) *ℤ t ≡ o *ℤ (s +ℤ k *ℤ t)
    entry p z t s e = simp spread (omega (arith, ints))

pub raised_at_home : (f : Basis) (k : ℤ) (m : Motion) → IsAtHome f m → IsAtHome f (raised f k m)
raised_at_home f k m home = record {
  over = home.over;
  positive = home.positive;
  by = higher home.over k home.by;
  is = combination-higher f home.over k home.by m.translation home.is;
  x_from = home.x_from;
  x_below = home.x_below;
  y_from = home.y_from;
  y_below = home.y_below;
}

-- ---- (hkl).w

pub raised_shift : (r : Vector) (f : Basis) (k : ℤ) (m : Motion) → dot r (raised f k m).translation ≡ dot r m.translation +ℤ k *ℤ dot r f.tau
raised_shift r f k m = dot-plus r m.translation (multiple k f.tau) ∙ ap (λ z. dot r m.translation +ℤ z) (dot-multiple r k f.tau)

-- ---- sameness

-- h + t - m is (n - m) - (n - h) + t
by_way : (h m n t : Vector) → plus (plus (minus n m) (opposite (minus n h))) t ≡ minus (plus h t) m
unfolding plus multiple
by_way h m n t = vector_path (omega (arith, ints)) (omega (arith, ints)) (omega (arith, ints))

-- where h differs by the lattice from n, and n from m
pub raised_same : (g : Listing) (r : Vector) (f : Basis) → IsFrame g r f → (k : ℤ) (h m n : Motion) → SameModulo g n m
    → h.matrix ≡ n.matrix → IsInLattice g (minus n.translation h.translation) → SameModulo g (raised f k h) m
raised_same g r f frame k h m n same matrix shift = record {
  matrix = matrix ∙ same.matrix;
  translation = subst (IsInLattice g) (by_way h.translation m.translation n.translation (multiple k f.tau))
      (lattice-plus g (plus (minus n.translation m.translation) (opposite (minus n.translation h.translation))) (multiple k f.tau)
      (lattice-plus g (minus n.translation m.translation) (opposite (minus n.translation h.translation)) same.translation (lattice-opposite g (minus n.translation h.translation) shift))
      (tau_multiple g r f frame k));
}
