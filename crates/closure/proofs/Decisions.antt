-- What the tests of a lattice's shifts tell, by its residues as the code reads them.
use Rattle.std.proofs.Common.{◌≡◌, ◌<◌, ◌↔◌, Bool, IsTrue, sym, ap, subst, ◌∙◌, List, get_or, map}
use Rattle.std.specs.Prelude.{All}
use Rattle.std.proofs.lemmas.List.{get_or-map, length-map}
use Rattle.std.proofs.lemmas.List.Elements.{All-map, All-weaker}
use Rattle.quotient.specs.Kind.{Keeps}
use Rattle.fractions.specs.declared.part.Part.{Part}
use Rattle.symmetry.specs.Vectors.{Vector, image, unit_matrix}
use Rattle.motions.specs.declared.motion.Motion3.{Motion3}
use Rattle.motions.specs.Views.{parts, motion_of}
use Rattle.closure.specs.declared.lattice.Lattice.{Lattice}
use Rattle.closure.specs.Residues.{has_residue}
use Rattle.closure.specs.Laws.ResidueLaws.{has_residue-is}
use Rattle.closure.specs.Lattices.{residues_of, InLattice, IsLatticeShift, first_with, IsHome}
use Rattle.closure.specs.Laws.ShiftLaws.{modulo, keeps_is, first_is_home}

module _ (lattice : Lattice) (m : Motion3) (now : List (List Part)) (is : map parts now ≡ residues_of lattice) where
  pub shift_decided : (b : Bool) → b ≡ has_residue (map parts now) (parts m.t) → (motion_of m).matrix ≡ unit_matrix → IsTrue b ↔ IsLatticeShift lattice m
  shift_decided b e matrix = (
    λ t. record { matrix = matrix; translation = (has_residue-is (residues_of lattice) (parts m.t)).0 (sym told ∙ t) },
    λ s. told ∙ (has_residue-is (residues_of lattice) (parts m.t)).1 s.translation,
  )
    where
      told : b ≡ has_residue (residues_of lattice) (parts m.t)
      told = e ∙ ap (λ rs. has_residue rs (parts m.t)) is

  pub keeps_decided : (b : Bool) → IsTrue b ↔ All (λ r. IsTrue (has_residue (map parts now) (image (motion_of m).matrix (parts r)))) now
      → IsTrue b ↔ Keeps (modulo lattice) (motion_of m)
  keeps_decided b told = (
    λ t. (keeps_is lattice (motion_of m)).1 (subst (λ rs. All (λ r. InLattice lattice (image (motion_of m).matrix r)) rs) is
        (All-weaker (λ r. IsTrue (has_residue (map parts now) (image (motion_of m).matrix r))) (λ r. InLattice lattice (image (motion_of m).matrix r)) from_test (map parts now)
        (All-map (λ r. IsTrue (has_residue (map parts now) (image (motion_of m).matrix r))) parts now (told.0 t)))),
    λ k. told.1 (λ i d l. to_test (parts (get_or now i d)) (subst (λ r. InLattice lattice (image (motion_of m).matrix r)) (get_or-map parts now i d (parts d) l)
        (subst (λ rs. All (λ r. InLattice lattice (image (motion_of m).matrix r)) rs) (sym is) ((keeps_is lattice (motion_of m)).0 k) i (parts d)
        (subst (λ n. i < n) (sym (length-map now parts)) l)))),
  )
    where
      from_test : (r : Vector) → IsTrue (has_residue (map parts now) (image (motion_of m).matrix r)) → InLattice lattice (image (motion_of m).matrix r)
      from_test r t = (has_residue-is (residues_of lattice) (image (motion_of m).matrix r)).0 (subst (λ rs. IsTrue (has_residue rs (image (motion_of m).matrix r))) is t)

      to_test : (r : Vector) → InLattice lattice (image (motion_of m).matrix r) → IsTrue (has_residue (map parts now) (image (motion_of m).matrix r))
      to_test r h = subst (λ rs. IsTrue (has_residue rs (image (motion_of m).matrix r))) (sym is) ((has_residue-is (residues_of lattice) (image (motion_of m).matrix r)).1 h)

  pub home_told : (t : List Part) → parts t ≡ first_with (parts m.t) (map parts now) → IsHome lattice (parts m.t) (parts t)
  home_told t e = subst (IsHome lattice (parts m.t)) (sym (e ∙ ap (first_with (parts m.t)) is)) (first_is_home lattice (parts m.t))
