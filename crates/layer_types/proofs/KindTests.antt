-- Tests of motions modulo the lattice that compute, and what they say.
use Rattle.std.proofs.Common.{◌≡◌, Bool, true, false, ◌&&◌, not, ap, subst, refl}
use Rattle.std.proofs.lemmas.Bool.{and_parts}
use Rattle.quotient.specs.Kind.{IsSame}
use Rattle.quotient.specs.Check.{Tests}
use Rattle.quotient.specs.Order.{FormTests}
use Rattle.quotient.proofs.CheckLemma.{TestsLaws}
use Rattle.quotient.proofs.OrderLemma.{FormLaws}
use Rattle.motions.specs.Signs.{same_sign}
use Rattle.motions.specs.Laws.SignLaws.{same_sign-is}
use Rattle.motions.specs.PlaneMatrices.{minus2, same_matrix2, same_pair}
use Rattle.motions.specs.Laws.PlaneMatrixLaws.{same_matrix2-is, same_pair-is}
use Rattle.motions.specs.Layers.{PlanarMotion, planar_identity, same_planar}
use Rattle.motions.specs.Laws.LayerLaws.{same_planar-is}
use Rattle.layer_types.specs.Lattices.{IsHome, home_vector, in_lattice, keeps_lattice, layer_kind}
use Rattle.layer_types.specs.Laws.LatticeLaws.{home_is_home, in_lattice-is}
use Rattle.layer_types.specs.Laws.ShiftLaws.{keeps_is, same_is}
use Rattle.layer_types.specs.LayerTypes.{HaveOneBlock, block_entries, layer_form}

-- whether two motions have one matrix and one sign
abbrev pub same_block : PlanarMotion → PlanarMotion → Bool
same_block m n = same_matrix2 m.matrix n.matrix && same_sign m.side n.side

same_block-is : (m n : PlanarMotion) → HaveOneBlock m n → same_block m n ≡ true
same_block-is m n (p, q) = λ i. (same_matrix2-is m.matrix n.matrix).1 p i && (same_sign-is m.side n.side).1 q i

pub apart_lem : (m n : PlanarMotion) → not (same_block m n) ≡ true → ¬ HaveOneBlock m n
apart_lem m n e h = let f : not (same_block m n) ≡ false = ap not (same_block-is m n h) in cc

module _ (centred : Bool) where
  abbrev pub layer_tests : Tests (layer_kind centred)
  layer_tests = record {
    same = λ m n. same_block m n && in_lattice centred (minus2 m.translation n.translation);
    apart = λ m n. not (same_block m n);
    keeps = λ m. keeps_lattice centred m.matrix;
  }

  pub layer_tests_laws : TestsLaws (layer_kind centred) layer_tests
  layer_tests_laws = record {
    same_is = same;
    apart_is = λ m n e s. let h = (same_is centred m n).0 s in apart_lem m n e (h.matrix, h.side);
    keeps_is = λ m e. (keeps_is centred m).0 e;
  }
    where
      same : (m n : PlanarMotion) → (same_block m n && in_lattice centred (minus2 m.translation n.translation)) ≡ true → IsSame (layer_kind centred) m n
      same m n e =
          let (block, shift) = and_parts (same_block m n) (in_lattice centred (minus2 m.translation n.translation)) e in
          let (matrix, side) = and_parts (same_matrix2 m.matrix n.matrix) (same_sign m.side n.side) block in
          (same_is centred m n).1
          (record {
            matrix = (same_matrix2-is m.matrix n.matrix).0 matrix;
            side = (same_sign-is m.side n.side).0 side;
            translation = (in_lattice-is centred (minus2 m.translation n.translation)).0 shift;
          })

  abbrev pub layer_form_tests : FormTests (layer_kind centred)
  layer_form_tests = record {
    entries = block_entries;
    is_one = λ m. same_planar m planar_identity;
    is_home = λ m. same_pair (home_vector centred m.translation) m.translation;
  }

  pub layer_form_laws : FormLaws (layer_kind centred) (layer_form centred) layer_form_tests
  layer_form_laws = record {
    entries_is = λ m. refl;
    one_is = λ m e. (same_planar-is m planar_identity).0 e;
    home_is = λ m e. subst (IsHome centred m.translation) ((same_pair-is (home_vector centred m.translation) m.translation).0 e) (home_is_home m.translation centred);
  }
