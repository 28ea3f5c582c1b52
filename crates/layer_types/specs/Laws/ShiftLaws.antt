-- Proofs that the shifts of a layer type meet the laws of `Quotient`. They stand here since an `impl` cites them.
use Rattle.std.proofs.Common.{◌≡◌, ◌↔◌, Bool, refl, sym, ap, subst, ◌∙◌, [], ◌∷◌, pos}
use Rattle.std.specs.Bool.{Decides}
use Rattle.std.proofs.lemmas.Bool.Decides.{Decides-like}
use Rattle.quotient.specs.Kind.{AreShiftsGroup, IsSame, Keeps}
use Rattle.quotient.proofs.ShiftGroups.{keeps_by, same_by, shifts_group}
use Rattle.motions.specs.declared.motion.Sign.TheVariants.{Plus}
use Rattle.motions.specs.declared.layer.LayerMotion.{LayerMotion}
use Rattle.motions.specs.PlaneMatrices.{Pair, image2, minus2, opposite2, origin2, plus2}
use Rattle.motions.specs.Laws.PlaneMatrixLaws.{minus2-plus, opposite-plus2_same, plus2-minus_first, plus2-opposite, plus2_comm}
use Rattle.motions.specs.Layers.{PlanarMotion, planar_followed_by, planar_of, planar_translation}
use Rattle.motions.specs.Laws.LayerLaws.{followed_by-planar_translation, planar_path, planar_translation-followed_by}
use Rattle.layer_types.specs.Lattices.{InLattice, IsLayerShift, array_of, keeps_lattice, layer_home, layer_kind}
use Rattle.layer_types.specs.Laws.LatticeLaws.{home-same, home_is_home, in_opposite, in_origin, in_plus, keeps_lattice-is, same_home}

-- the code's form of a translation
abbrev translation_by : Pair → LayerMotion
translation_by v = record { a = (pos 1 ∷ pos 0 ∷ []) ∷ (pos 0 ∷ pos 1 ∷ []) ∷ []; e = Plus; t = array_of v }

-- after one motion, two translations that give one motion are one
translated_once : (m : PlanarMotion) (v w : Pair) → planar_followed_by m (planar_translation v) ≡ planar_followed_by m (planar_translation w) → v ≡ w
translated_once m v w e =
    let same = sym (followed_by-planar_translation m v) ∙ e ∙ followed_by-planar_translation m w in
    sym (plus2-minus_first m.translation v) ∙ ap (λ (k : PlanarMotion). minus2 k.translation m.translation) same ∙ plus2-minus_first m.translation w

module _ (centred : Bool) where
  -- the translation by a vector of the lattice is a shift
  shift_from : (v : Pair) → InLattice centred v → (layer_kind centred).IsShift (planar_translation v)
  shift_from v h = (translation_by v, record { matrix = refl; side = refl; translation = h }, refl)

  -- a shift is the translation by a vector of the lattice
  shift_of : (m : PlanarMotion) → (layer_kind centred).IsShift m → (v : Pair) × InLattice centred v × (m ≡ planar_translation v)
  shift_of m (s, shift, is) = ((planar_of s).translation, shift.translation, sym is ∙ planar_path shift.matrix shift.side refl)

  pub by_meaning_lem : (a b : LayerMotion) → planar_of a ≡ planar_of b → IsLayerShift centred a → IsLayerShift centred b
  by_meaning_lem a b e s = record {
    matrix = ap (λ (k : PlanarMotion). k.matrix) (sym e) ∙ s.matrix;
    side = ap (λ (k : PlanarMotion). k.side) (sym e) ∙ s.side;
    translation = subst (λ (k : PlanarMotion). InLattice centred k.translation) e s.translation;
  }

  -- ---- the shifts are a group

  pub shifts_lem : AreShiftsGroup (layer_kind centred)
  shifts_lem =
      shifts_group (layer_kind centred) planar_translation (InLattice centred) shift_from shift_of origin2 plus2 opposite2 refl
      (λ v w. followed_by-planar_translation (planar_translation v) w) plus2-opposite opposite-plus2_same
      (in_origin centred) (in_plus centred) (in_opposite centred)

  -- ---- sameness

  -- motions are the same where they have one matrix and one sign, and their translations differ by a vector of the lattice
  pub record AreSame (m n : PlanarMotion) : Type 0 where
    pub matrix : m.matrix ≡ n.matrix
    pub side : m.side ≡ n.side
    pub translation : InLattice centred (minus2 m.translation n.translation)

  pub same_is : (m n : PlanarMotion) → IsSame (layer_kind centred) m n ↔ AreSame m n
  same_is m n = (to, from)
    where
      to : IsSame (layer_kind centred) m n → AreSame m n
      to s =
          let (v, h, is) = (same_by (layer_kind centred) planar_translation (InLattice centred) shift_from shift_of m n).0 s in
          let e : m ≡ record { matrix = n.matrix; side = n.side; translation = plus2 n.translation v } = is ∙ followed_by-planar_translation n v in
          record {
            matrix = ap (λ (k : PlanarMotion). k.matrix) e;
            side = ap (λ (k : PlanarMotion). k.side) e;
            translation = subst (InLattice centred) (sym (ap (λ (k : PlanarMotion). minus2 k.translation n.translation) e ∙ plus2-minus_first n.translation v)) h;
          }

      from : AreSame m n → IsSame (layer_kind centred) m n
      from h = record {
        shift = planar_translation (minus2 m.translation n.translation);
        is_shift = shift_from (minus2 m.translation n.translation) h.translation;
        is = planar_path h.matrix h.side (sym (minus2-plus m.translation n.translation)) ∙ sym (followed_by-planar_translation n (minus2 m.translation n.translation));
      }

  -- ---- home

  pub home_is_same_lem : (m : LayerMotion) → IsSame (layer_kind centred) (planar_of (layer_home centred m)) (planar_of m)
  home_is_same_lem m =
      (same_is (planar_of (layer_home centred m)) (planar_of m)).1
      (record { matrix = refl; side = refl; translation = (home_is_home (planar_of m).translation centred).same })

  pub homes_lem : (m n : LayerMotion)
      → IsSame (layer_kind centred) (planar_of m) (planar_of n) ↔ (planar_of (layer_home centred m) ≡ planar_of (layer_home centred n))
  homes_lem m n = (to, from)
    where
      to : IsSame (layer_kind centred) (planar_of m) (planar_of n) → planar_of (layer_home centred m) ≡ planar_of (layer_home centred n)
      to s =
          let p = (same_is (planar_of m) (planar_of n)).0 s in
          planar_path p.matrix p.side (home-same centred (planar_of m).translation (planar_of n).translation p.translation)

      from : planar_of (layer_home centred m) ≡ planar_of (layer_home centred n) → IsSame (layer_kind centred) (planar_of m) (planar_of n)
      from e =
          (same_is (planar_of m) (planar_of n)).1
          (record {
            matrix = ap (λ (k : PlanarMotion). k.matrix) e;
            side = ap (λ (k : PlanarMotion). k.side) e;
            translation = same_home centred (planar_of m).translation (planar_of n).translation (ap (λ (k : PlanarMotion). k.translation) e);
          })

  -- ---- which motions carry shifts into shifts

  keeps_vectors : (m : PlanarMotion) → Keeps (layer_kind centred) m ↔ ((v : Pair) → InLattice centred v → InLattice centred (image2 m.matrix v))
  keeps_vectors m =
      keeps_by (layer_kind centred) planar_translation (InLattice centred) shift_from shift_of m (image2 m.matrix) turned (translated_once m)
    where
      turned : (v : Pair) → planar_followed_by (planar_translation v) m ≡ planar_followed_by m (planar_translation (image2 m.matrix v))
      turned v =
          planar_translation-followed_by m v ∙ planar_path refl refl (plus2_comm (image2 m.matrix v) m.translation)
          ∙ sym (followed_by-planar_translation m (image2 m.matrix v))

  pub keeps_is : (m : PlanarMotion) → Decides (keeps_lattice centred m.matrix) (Keeps (layer_kind centred) m)
  keeps_is m =
      let vectors = keeps_vectors m in
      Decides-like (keeps_lattice centred m.matrix) vectors.1 vectors.0 (keeps_lattice-is centred m.matrix)
