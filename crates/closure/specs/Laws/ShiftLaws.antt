-- Proofs that a Lattice meets the laws of `Quotient`. They stand here since an `impl` cites them.
use Rattle.std.proofs.Common.{◌≡◌, ◌↔◌, IsTrue, refl, sym, subst, List}
use Rattle.std.specs.Prelude.{Contains, All}
use Rattle.std.proofs.lemmas.List.Elements.{All-map, All-weaker, All-contains, All-contains_itself}
use Rattle.quotient.specs.Kind.{Kind, kind_of, AreShiftsGroup, IsSame, Keeps}
use Rattle.symmetry.specs.Vectors.{Vector, Matrix, origin, plus, minus, opposite, image}
use Rattle.symmetry.specs.Motions.{Motion, followed_by, identity, translation}
use Rattle.symmetry.proofs.VectorLaws.{minus-plus-minus}
use Rattle.symmetry.proofs.MatrixLaws.{image-minus}
use Rattle.motions.specs.declared.motion.Motion3.{Motion3}
use Rattle.motions.specs.Views.{parts, motion_of}
use Rattle.motions.specs.Translations.{IsVectorGroup}
use Rattle.motions.specs.Laws.TranslationLaws as translations
use Rattle.motions.specs.Laws.TranslationLaws.{same_by_translation, same_homes, translations_by_meaning, translations_group}
use Rattle.closure.specs.declared.lattice.Lattice.{Lattice}
use Rattle.closure.specs.Residues.{IsWhole, residue, has_residue}
use Rattle.closure.specs.Laws.ResidueLaws.{has_residue-is, residue-same, residue-parts, whole_from_residues, whole-image, residue-residue}
use Rattle.closure.specs.Laws.FirstLaws.{in_plus, in_flip, first-in, first-reduced, first-first, first-same}
use Rattle.closure.specs.Lattices.{residues_of, InLattice, IsLatticeShift, first_with, lattice_home, IsHome}

-- the kind of motions modulo the lattice
abbrev pub modulo : Lattice → Kind
modulo lattice = kind_of motion_of followed_by identity (IsLatticeShift lattice)

-- the residue of an image is that of the residue's image
residue-image : (w : Matrix) (v : Vector) → residue (image w (residue v)) ≡ residue (image w v)
residue-image w v =
    residue-same (image w (residue v)) (image w v)
    (subst IsWhole (image-minus w (residue v) v) (whole-image w (minus (residue v) v) (whole_from_residues (residue v) v (residue-residue v))))

module _ (lattice : Lattice) where
  abbrev rs : List Vector
  rs = residues_of lattice

  pub residues-reduced : All (λ r. residue r ≡ r) rs
  residues-reduced = All-map (λ r. residue r ≡ r) parts lattice.residues.items (λ k d l. residue-parts _ (lattice.reduced k d l))

  pub by_meaning_lem : (a b : Motion3) → motion_of a ≡ motion_of b → IsLatticeShift lattice a → IsLatticeShift lattice b
  by_meaning_lem = translations_by_meaning (InLattice lattice)

  abbrev In : Vector → Type 0
  In v = IsTrue (has_residue rs v)

  to_in : (v : Vector) → InLattice lattice v → In v
  to_in v = (has_residue-is rs v).1

  from_in : (v : Vector) → In v → InLattice lattice v
  from_in v = (has_residue-is rs v).0

  -- ---- the shifts are a group

  lattice_vectors : IsVectorGroup (InLattice lattice)
  lattice_vectors = record {
    zero_vector = from_in origin lattice.group.zero_vector;
    sums = λ v w h k. from_in (plus v w) (lattice.group.sums v w (to_in v h) (to_in w k));
    opposites = λ v h. from_in (opposite v) (lattice.group.opposites v (to_in v h));
  }

  pub shifts_lem : AreShiftsGroup (modulo lattice)
  shifts_lem = translations_group (InLattice lattice) lattice_vectors

  pub same_is : (m n : Motion) → IsSame (modulo lattice) m n ↔ ((m.matrix ≡ n.matrix) × InLattice lattice (minus m.translation n.translation))
  same_is = same_by_translation (InLattice lattice)

  -- ---- home

  pub first_is_home : (v : Vector) → IsHome lattice v (first_with v rs)
  first_is_home v = record {
    same = from_in (minus (first_with v rs) v) (first-in rs lattice.group residues-reduced v);
    reduced = first-reduced rs lattice.group residues-reduced v;
    first = λ u h e. first-first rs lattice.group residues-reduced v u (to_in (minus u v) h) e;
  }

  pub home_is_same_lem : (m : Motion3) → IsSame (modulo lattice) (motion_of (lattice_home lattice m)) (motion_of m)
  home_is_same_lem m = (same_is (motion_of (lattice_home lattice m)) (motion_of m)).1 (refl, (first_is_home (parts m.t)).same)

  pub homes_lem : (m n : Motion3)
      → IsSame (modulo lattice) (motion_of m) (motion_of n) ↔ (motion_of (lattice_home lattice m) ≡ motion_of (lattice_home lattice n))
  homes_lem m n = same_homes (InLattice lattice) (λ v. first_with v rs) one_home (motion_of m) (motion_of n)
    where
      apart : (v w : Vector) → first_with v rs ≡ first_with w rs → In (minus v w)
      apart v w f =
          subst In (minus-plus-minus v (first_with v rs) w)
          (in_plus rs lattice.group residues-reduced (minus v (first_with v rs)) (minus (first_with v rs) w)
          (in_flip rs lattice.group residues-reduced (first_with v rs) v (first-in rs lattice.group residues-reduced v))
          (subst (λ u. In (minus u w)) (sym f) (first-in rs lattice.group residues-reduced w)))

      one_home : (v w : Vector) → InLattice lattice (minus v w) ↔ (first_with v rs ≡ first_with w rs)
      one_home v w = (λ h. first-same rs lattice.group residues-reduced v w (to_in (minus v w) h), λ e. from_in (minus v w) (apart v w e))

  -- ---- which motions carry shifts into shifts

  pub keeps_vectors : (m : Motion) → Keeps (modulo lattice) m ↔ ((v : Vector) → InLattice lattice v → InLattice lattice (image m.matrix v))
  keeps_vectors = translations.keeps_vectors (InLattice lattice)

  -- it is enough that the residues go into the lattice
  pub keeps_is : (m : Motion) → Keeps (modulo lattice) m ↔ All (λ r. InLattice lattice (image m.matrix r)) rs
  keeps_is m = (
    λ k. All-weaker (Contains rs) (λ r. InLattice lattice (image m.matrix r))
        (λ r is. (keeps_vectors m).0 k r (subst (Contains rs) (sym (All-contains (λ r. residue r ≡ r) rs r residues-reduced is)) is))
        rs (All-contains_itself rs),
    λ all. (keeps_vectors m).1 (λ v is. subst (Contains rs) (residue-image m.matrix v)
        (All-contains (λ r. InLattice lattice (image m.matrix r)) rs (residue v) all is)),
  )
