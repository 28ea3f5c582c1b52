-- Lattices of listed vectors: whole edges, multiples, and one more vector.
use Rattle.std.proofs.Common.{◌≡◌, ◌⊎◌, inl, inr, refl, subst, lit<, [], ◌∷◌, ℤ, pos, negsuc, ◌+ℤ◌, ◌*ℤ◌}
use Rattle.std.proofs.lemmas.List.Elements.{Contains-append_left, Contains-push, Contains-push_cases}
use Rattle.integers.proofs.Solver.{Expr.{var, num, ◌⊕◌, ◌⊗◌}, linear, given}
use Rattle.fractions.specs.declared.part.TheConstants.{UNIT}
use Rattle.symmetry.specs.Vectors.{Vector, plus, minus, multiple, opposite}
use Rattle.symmetry.specs.Groups.{Listing, Generates, IsInLattice, zero_vector, added, subtracted}
use Rattle.symmetry.proofs.VectorLaws.{vector_path, minus-plus}
use Rattle.symmetry.proofs.LatticeLaws.{lattice-plus, lattice-opposite, lattice-made, lattice-multiple}
use Rattle.closure.specs.Residues.{IsWhole, residue}
use Rattle.closure.specs.Spans.{with_centring}
use Rattle.closure.specs.Laws.ResidueLaws.{whole_from_residues}

-- ---- whole edges

in_first : (a x y z d : ℤ) → a ≡ x *ℤ d → x *ℤ d +ℤ y *ℤ pos 0 +ℤ z *ℤ pos 0 ≡ a
in_first a x y z d e =
    linear (a ∷ x ∷ y ∷ z ∷ d ∷ []) (var 1 ⊗ var 4 ⊕ var 2 ⊗ num (pos 0) ⊕ var 3 ⊗ num (pos 0)) (var 0)
    (given (num (negsuc 0)) (var 0) (var 1 ⊗ var 4) ∷ []) tt (e, tt)

in_second : (a x y z d : ℤ) → a ≡ y *ℤ d → x *ℤ pos 0 +ℤ y *ℤ d +ℤ z *ℤ pos 0 ≡ a
in_second a x y z d e =
    linear (a ∷ x ∷ y ∷ z ∷ d ∷ []) (var 1 ⊗ num (pos 0) ⊕ var 2 ⊗ var 4 ⊕ var 3 ⊗ num (pos 0)) (var 0)
    (given (num (negsuc 0)) (var 0) (var 2 ⊗ var 4) ∷ []) tt (e, tt)

in_third : (a x y z d : ℤ) → a ≡ z *ℤ d → x *ℤ pos 0 +ℤ y *ℤ pos 0 +ℤ z *ℤ d ≡ a
in_third a x y z d e =
    linear (a ∷ x ∷ y ∷ z ∷ d ∷ []) (var 1 ⊗ num (pos 0) ⊕ var 2 ⊗ num (pos 0) ⊕ var 3 ⊗ var 4) (var 0)
    (given (num (negsuc 0)) (var 0) (var 3 ⊗ var 4) ∷ []) tt (e, tt)

-- a vector of whole edges is in every lattice
pub lattice-whole : (g : Listing) (v : Vector) → IsWhole v → IsInLattice g v
unfolding multiple plus
lattice-whole g v p =
    let a : Vector = record { x = UNIT; y = pos 0; z = pos 0 } in
    let b : Vector = record { x = pos 0; y = UNIT; z = pos 0 } in
    let c : Vector = record { x = pos 0; y = pos 0; z = UNIT } in
    let x = p.x.times in
    let y = p.y.times in
    let z = p.z.times in
    subst (IsInLattice g) (vector_path (in_first v.x x y z UNIT p.x.is) (in_second v.y x y z UNIT p.y.is) (in_third v.z x y z UNIT p.z.is))
    (lattice-plus g (plus (multiple x a) (multiple y b)) (multiple z c)
    (lattice-plus g (multiple x a) (multiple y b)
    (lattice-multiple g x a (lattice-made g a (inl (0, lit< tt, refl))))
    (lattice-multiple g y b (lattice-made g b (inl (1, lit< tt, refl)))))
    (lattice-multiple g z c (lattice-made g c (inl (2, lit< tt, refl)))))

-- what has the residue of a member is a member
pub lattice-by_residue : (g : Listing) (v w : Vector) → residue v ≡ residue w → IsInLattice g w → IsInLattice g v
lattice-by_residue g v w e h =
    subst (IsInLattice g) (minus-plus v w) (lattice-plus g (minus v w) w (lattice-whole g (minus v w) (whole_from_residues v w e)) h)

-- ---- lattices of which one is in the other

pub lattice-more : (g h : Listing) → ((v : Vector) → Generates g v → IsInLattice h v) → (t : Vector) → IsInLattice g t → IsInLattice h t
lattice-more g h makes _ zero_vector = zero_vector
lattice-more g h makes _ (added t v k made) = lattice-plus h t v (lattice-more g h makes t k) (makes v made)
lattice-more g h makes _ (subtracted t v k made) = lattice-plus h t (opposite v) (lattice-more g h makes t k) (lattice-opposite h v (makes v made))

-- ---- one more centring vector

generates_more : (g : Listing) (u v : Vector) → Generates g v → Generates (with_centring g u) v
generates_more g u v (inl edge) = inl edge
generates_more g u v (inr (inl centring)) = inr (inl (Contains-append_left g.centrings (u ∷ []) v centring))
generates_more g u v (inr (inr op)) = inr (inr op)

pub generates_with : (g : Listing) (u v : Vector) → Generates (with_centring g u) v → Generates g v ⊎ (u ≡ v)
generates_with g u v (inl edge) = inl (inl edge)
generates_with g u v (inr (inl centring)) = elim (Contains-push_cases g.centrings u v centring) [ inl is ↦ inl (inr (inl is)) | inr e ↦ inr e ]
generates_with g u v (inr (inr op)) = inl (inr (inr op))

pub lattice-with : (g : Listing) (u t : Vector) → IsInLattice g t → IsInLattice (with_centring g u) t
lattice-with g u t h = lattice-more g (with_centring g u) (λ v made. lattice-made (with_centring g u) v (generates_more g u v made)) t h

pub lattice-centring : (g : Listing) (u : Vector) → IsInLattice (with_centring g u) u
lattice-centring g u = lattice-made (with_centring g u) u (inr (inl (Contains-push g.centrings u)))
