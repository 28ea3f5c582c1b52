-- The operations of a layer type, in the block form and sheared, are a group modulo the lattice.
use Rattle.std.proofs.Common.{◌≡◌, ℕ, zero, suc, ◌/◌, ◌%◌, ℤ, pos, negsuc, ◌+ℤ◌, ◌*ℤ◌, ◌≤ℤ◌, Bool, IsTrue, List, [], ◌∷◌, map, inl, inr, refl, sym, ap, subst, ◌∙◌, arith, Some}
use Rattle.std.specs.Prelude.{AllPairs, Contains, int_div, slice_get}
use Rattle.std.proofs.lemmas.Bool.{cases_lt}
use Rattle.std.proofs.lemmas.Int.{ints}
use Rattle.std.proofs.lemmas.List.Elements.{All-contains}
use Rattle.symmetry.specs.Vectors.{Matrix, Vector, dot, image, minus, multiple, origin, plus, product, unit_matrix}
use Rattle.symmetry.specs.Motions.{Motion, followed_by, identity, translation}
use Rattle.symmetry.specs.Frames.{IsFrame, IsSkewed}
use Rattle.symmetry.specs.Sizes.{IsMatrixWithin}
use Rattle.integers.specs.Size.{IsWithin}
use Rattle.std.proofs.lemmas.List.{length-map}
use Rattle.symmetry.specs.Groups.{Generates, IsGroup, IsInLattice, Listing, SameModulo}
use Rattle.symmetry.proofs.VectorLaws.{minus-plus, vector_path}
use Rattle.symmetry.proofs.MatrixLaws.{image-minus, image-origin, image-plus, product-unit_left, product-unit_right, product_assoc}
use Rattle.symmetry.proofs.LatticeLaws.{same_sym}
use Rattle.symmetry.proofs.GroupLaws.{group_from_listed}
use Rattle.quotient.specs.Kind.{IsInverse, IsMonoid, IsSame, Keeps, Kind}
use Rattle.quotient.proofs.Sameness.{same_products, same_reflexive, same_symmetric}
use Rattle.quotient.specs.Lists.{IsListed}
use Rattle.quotient.proofs.ListLaws.{Contains-from_map, Contains-map}
use Rattle.motions.specs.declared.motion.Sign.{Sign}
use Rattle.motions.specs.declared.motion.Sign.TheVariants.{Plus, Minus}
use Rattle.motions.specs.declared.layer.LayerMotion.{LayerMotion}
use Rattle.motions.specs.Signs.{sign_value}
use Rattle.motions.specs.PlaneMatrices.{image2, minus2}
use Rattle.motions.specs.Layers.{HasHalfPart, IsBlockForm, IsOdd, PlanarMotion, block_matrix, planar_followed_by, planar_identity, planar_of}
use Rattle.motions.specs.Laws.LayerLaws.{planar_followed_by_laws}
use Rattle.motions.specs.PlaneSizes.{IsMatrix2Within}
use Rattle.motions.proofs.Blocks.{block_form_product}
use Rattle.layer_types.specs.declared.layer_type.LayerType.{LayerType}
use Rattle.layer_types.specs.Lattices.{InLattice, IsReduced, centring as half_edges, layer_kind}
use Rattle.layer_types.specs.Laws.LatticeLaws.{keeps_lattice-is}
use Rattle.layer_types.specs.Laws.ShiftLaws.{AreSame, keeps_is, same_is, shifts_lem}
use Rattle.layer_types.specs.LayerTypes.{HaveOneBlock, IsLayerType}
use Rattle.layer_types.specs.Rows.{layer_row}
use Rattle.closure.specs.GroupErrors.{IsWithinLimits}
use Rattle.closure.specs.Laws.ResidueLaws.{whole-image}
use Rattle.plane_lattice.proofs.FrameTestFacts.{tests_make_frame}
use Rattle.report.specs.TypeTexts.{block_of_layer}
use Rattle.sample.specs.SampleGroups.{centring, sample_frame, sheared_group, upright}
use Rattle.sample.specs.Shears.{sheared}
use Rattle.sample.proofs.Conjugates.{S, T, image-sheared, sheared-followed_by, sheared-identity, sheared_back}
use Rattle.sample.proofs.Frames.{a_in_cell, a_in_plane, b_in_cell, b_in_plane, cell_combined, not_far, right_handed, tau_above, tau_in_cell}
use Rattle.sample.proofs.Generators.{generator_undone}
use Rattle.sample.proofs.Inverses.{inverse_listed, one_listed, products_listed}
use Rattle.sample.proofs.ShearSizes.{block_shift_within, block_within, sheared_small}
use Rattle.sample.proofs.Lattices.{InCell, cell_in_lattice, cell-plus, flat_in_cell, generator_in_cell, not_too_fine, with_centrings}

-- ---- the block form

-- the half of an even number
half_of : (z : ℤ) → pos 0 ≤ℤ z → ¬ IsOdd z → z ≡ pos 2 *ℤ int_div z (pos 2)
half_of (pos n) from even = elim (cases_lt (n % 2) 1) [
  | inl h ↦ omega (arith, ints, h)
  | inr h ↦ absurd (even (pos (n / 2), omega (arith, ints, h)))
]
half_of (negsuc n) from even = absurd (omega (arith, ints, from))

block_form : (m : LayerMotion) → IsReduced (planar_of m).translation → ¬ HasHalfPart (planar_of m) → IsBlockForm (planar_of m) (block_of_layer m)
block_form m reduced parts = record {
  matrix = refl;
  x = half_of _ reduced.x_least (λ odd. parts (inl odd));
  y = half_of _ reduced.y_least (λ odd. parts (inr odd));
  z = refl;
}

identity_form : IsBlockForm planar_identity identity
identity_form = record { matrix = refl; x = refl; y = refl; z = refl }

one_block : (p q : PlanarMotion) → p.matrix ≡ q.matrix → p.side ≡ q.side → block_matrix p ≡ block_matrix q
one_block p q matrix side = λ i. block_matrix (record { matrix = matrix i; side = side i; translation = p.translation })

is_plus : (s : Sign) → sign_value s ≡ pos 1 → s ≡ Plus
is_plus Plus e = refl
is_plus Minus e = absurd (omega (arith, ints, e))

unit_block : (p : PlanarMotion) → block_matrix p ≡ unit_matrix → HaveOneBlock planar_identity p
unit_block p e = (
  λ i. record {
    first = record { x = (sym e i).first.x; y = (sym e i).first.y };
    second = record { x = (sym e i).second.x; y = (sym e i).second.y };
  },
  sym (is_plus p.side (ap (λ (w : Matrix). w.third.z) e)),
)

-- of the motions of a list that begins with the identity, and has no two with one block, that alone has the unit block
only_first : (ms : List PlanarMotion) → slice_get ms 0 ≡ Some planar_identity → AllPairs (λ l m. ¬ HaveOneBlock l m) ms
    → (m : PlanarMotion) → Contains ms m → HaveOneBlock planar_identity m → m ≡ planar_identity
only_first [] e apart m (k, within, is) same = absurd (omega (arith, within))
only_first (x ∷ xs) e apart m (zero, within, is) same = let first : x ≡ planar_identity = cc in sym is ∙ first
only_first (x ∷ xs) e apart m (suc k, within, is) same =
    let first : x ≡ planar_identity = cc in
    absurd (apart 0 (suc k) m (omega arith) within (subst (HaveOneBlock x) (sym is) (subst (λ y. HaveOneBlock y m) (sym first) same)))

-- ---- in the sheared coordinates

module _ (j : ℤ) where
  flat_sheared : (v : Vector) → v.z ≡ pos 0 → image (S j) v ≡ v
  unfolding dot
  flat_sheared v e =
      (λ i. record { x = pos 1 *ℤ v.x +ℤ pos 0 *ℤ v.y +ℤ j *ℤ e i; y = pos 0 *ℤ v.x +ℤ pos 1 *ℤ v.y +ℤ pos 0 *ℤ v.z; z = pos 0 *ℤ v.x +ℤ pos 0 *ℤ v.y +ℤ pos 1 *ℤ v.z })
      ∙ vector_path (omega (arith, ints)) (omega (arith, ints)) (omega (arith, ints))

  unsheared : (m : Matrix) → product (product (S j) m) (T j) ≡ unit_matrix → m ≡ unit_matrix
  unsheared m e =
      sym (product-unit_left m) ∙ ap (λ w. product w m) (sym (sheared_back j)) ∙ product_assoc (T j) (S j) m
      ∙ ap (product (T j))
      (sym (product-unit_right (product (S j) m)) ∙ ap (product (product (S j) m)) (sym (sheared_back j)) ∙ sym (product_assoc (product (S j) m) (T j) (S j))
      ∙ ap (λ w. product w (S j)) e ∙ product-unit_left (S j))
      ∙ sheared_back j

module _ (n : ℕ) (t : LayerType) (h : IsLayerType n t) (j : ℤ) where
  abbrev pub c : Bool
  c = (layer_row n).centred

  abbrev pub K : Kind
  K = layer_kind c

  abbrev pub ms : List PlanarMotion
  ms = map planar_of t.ops.now

  abbrev pub B : LayerMotion → Motion
  B = block_of_layer

  abbrev pub ops : List Motion
  ops = map (λ m. sheared j (B m)) t.ops.now

  planar : (m : LayerMotion) → Contains t.ops.now m → Contains ms (planar_of m)
  planar m is = Contains-map planar_of t.ops.now m is

  form : (m : LayerMotion) → Contains t.ops.now m → IsBlockForm (planar_of m) (B m)
  form m is =
      block_form m (All-contains (λ p. IsReduced p.translation) ms (planar_of m) h.reduced (planar m is))
      (All-contains (λ p. ¬ HasHalfPart p) ms (planar_of m) h.parts (planar m is))

  -- the one translation is by 0
  alone : (v : Vector) → Contains ops (translation v) → v ≡ origin
  alone v is =
      let (m, within, e) = Contains-from_map (λ m. sheared j (B m)) t.ops.now (translation v) is in
      let unit : (B m).matrix ≡ unit_matrix = unsheared j (B m).matrix (ap (λ (k : Motion). k.matrix) e) in
      let first : planar_of m ≡ planar_identity = only_first ms h.order.first h.apart (planar_of m) (planar m within) (unit_block (planar_of m) unit) in
      let none : (B m).translation ≡ origin =
      (λ i. record { x = int_div (first i).translation.x (pos 2); y = int_div (first i).translation.y (pos 2); z = pos 0 }) in
      ap (λ (k : Motion). k.translation) (sym e) ∙ ap (image (S j)) none ∙ image-origin (S j)

  abbrev pub g : Listing
  g = with_centrings c ops

  in_g : (v : Vector) → InCell c v → IsInLattice g v
  in_g = cell_in_lattice c ops alone

  -- what is the same in the plane is the same in space
  flat_shift : (p q : PlanarMotion) (b d : Motion) → IsBlockForm p b → IsBlockForm q d → InLattice c (minus2 p.translation q.translation) → InCell c (minus b.translation d.translation)
  unfolding plus multiple
  flat_shift p q b d k l s =
      flat_in_cell c (minus2 p.translation q.translation) (minus b.translation d.translation) s (omega (arith, ints, k.x, l.x)) (omega (arith, ints, k.y, l.y)) (omega (arith, ints, k.z, l.z))

  no_height : (b d : Motion) → b.translation.z ≡ pos 0 → d.translation.z ≡ pos 0 → (minus b.translation d.translation).z ≡ pos 0
  unfolding plus multiple
  no_height b d e f = omega (arith, ints, e, f)

  same_in_space : (p q : PlanarMotion) (b d : Motion) → IsBlockForm p b → IsBlockForm q d → AreSame c p q → SameModulo g (sheared j b) (sheared j d)
  same_in_space p q b d k l s = record {
    matrix = ap (λ w. product (product (S j) w) (T j)) (k.matrix ∙ one_block p q s.matrix s.side ∙ sym l.matrix);
    translation = subst (IsInLattice g) (sym (flat_sheared j (minus b.translation d.translation) (no_height b d k.z l.z)) ∙ image-minus (S j) b.translation d.translation) (in_g (minus b.translation d.translation) (flat_shift p q b d k l s.translation));
  }

  -- ---- the group

  monoid : IsMonoid planar_followed_by planar_identity
  monoid = planar_followed_by_laws

  undone : (m : PlanarMotion) → Contains (layer_row n).generators m → (k : PlanarMotion) × IsInverse K m k
  undone = generator_undone n

  -- the operation that a listed motion of the plane is the same as
  of_planar : (p : PlanarMotion) → IsListed K ms p → (m : LayerMotion) × Contains t.ops.now m × AreSame c p (planar_of m)
  of_planar p l =
      let (m, within, e) = Contains-from_map planar_of t.ops.now l.of l.listed in
      (m, within, (same_is c p (planar_of m)).0 (subst (IsSame K p) (sym e) l.same))

  operation : (m : LayerMotion) → Contains t.ops.now m → Contains ops (sheared j (B m))
  operation m is = Contains-map (λ m. sheared j (B m)) t.ops.now m is

  has_identity : (k : Motion) × Contains ops k × SameModulo g k identity
  has_identity =
      let (m, within, same) = of_planar planar_identity (one_listed K monoid (shifts_lem c) (layer_row n).generators undone ms h.closure) in (
        sheared j (B m),
        operation m within,
        same_sym g identity (sheared j (B m))
            (subst (λ (k : Motion). SameModulo g k (sheared j (B m))) (sheared-identity j) (same_in_space planar_identity (planar_of m) identity (B m) identity_form (form m within) same)),
      )

  products : (k l : Motion) → Contains ops k → Contains ops l → (i : Motion) × Contains ops i × SameModulo g (followed_by k l) i
  products k l p q =
      let (m, m_in, e) = Contains-from_map (λ m. sheared j (B m)) t.ops.now k p in
      let (m', m'_in, e') = Contains-from_map (λ m. sheared j (B m)) t.ops.now l q in
      let both = planar_followed_by (planar_of m) (planar_of m') in
      let (i, within, same) =
      of_planar both (products_listed K monoid (shifts_lem c) (layer_row n).generators undone ms h.closure (planar_of m) (planar_of m') (planar m m_in) (planar m' m'_in)) in (
        sheared j (B i),
        operation i within,
        subst (λ (x : Motion). SameModulo g x (sheared j (B i)))
            (sym (sheared-followed_by j (B m) (B m')) ∙ (λ s. followed_by (e s) (e' s)))
            (same_in_space both (planar_of i) (followed_by (B m) (B m')) (B i) (block_form_product (planar_of m) (planar_of m') (B m) (B m') (form m m_in) (form m' m'_in)) (form i within) same),
      )

  keeps : (m : LayerMotion) → Contains t.ops.now m → Keeps K (planar_of m)
  keeps m is = All-contains (Keeps K) ms (planar_of m) h.keeps (planar m is)

  -- the product of two operations that is the same as 1 in the plane
  one_in_space : (m i : LayerMotion) → Contains t.ops.now m → Contains t.ops.now i → (k : Motion) → sheared j (B m) ≡ k
      → IsSame K (planar_followed_by (planar_of m) (planar_of i)) planar_identity → SameModulo g (followed_by k (sheared j (B i))) identity
  one_in_space m i m_in i_in k e same =
      subst (λ (x : Motion). SameModulo g x identity) (sym (sheared-followed_by j (B m) (B i)) ∙ ap (λ x. followed_by x (sheared j (B i))) e)
      (subst (SameModulo g (sheared j (followed_by (B m) (B i)))) (sheared-identity j)
      (same_in_space (planar_followed_by (planar_of m) (planar_of i)) planar_identity (followed_by (B m) (B i)) identity
      (block_form_product (planar_of m) (planar_of i) (B m) (B i) (form m m_in) (form i i_in)) identity_form ((same_is c _ planar_identity).0 same)))

  inverses : (k : Motion) → Contains ops k
      → (l : Motion) × Contains ops l × SameModulo g (followed_by k l) identity × SameModulo g (followed_by l k) identity
  inverses k is =
      let shifts = shifts_lem c in
      let (m, m_in, e) = Contains-from_map (λ m. sheared j (B m)) t.ops.now k is in
      let (p, listed, undoes) = inverse_listed K monoid shifts (layer_row n).generators undone ms h.closure (planar_of m) (planar m m_in) in
      let (i, i_in, same) = of_planar p listed in
      let back : IsSame K (planar_of i) p = same_symmetric K monoid shifts p (planar_of i) ((same_is c p (planar_of i)).1 same) in
      let itself : IsSame K (planar_of m) (planar_of m) = same_reflexive K monoid shifts (planar_of m) in
      let after : IsSame K (planar_followed_by (planar_of m) (planar_of i)) planar_identity =
      subst (IsSame K (planar_followed_by (planar_of m) (planar_of i))) undoes.after (same_products K monoid shifts (planar_of m) (planar_of m) (planar_of i) p (keeps i i_in) itself back) in
      let before : IsSame K (planar_followed_by (planar_of i) (planar_of m)) planar_identity =
      subst (IsSame K (planar_followed_by (planar_of i) (planar_of m))) undoes.before (same_products K monoid shifts (planar_of i) p (planar_of m) (planar_of m) (keeps m m_in) back itself) in
      let there = one_in_space m i m_in i_in k e after in
      let home : SameModulo g (followed_by (sheared j (B i)) (sheared j (B m))) identity = one_in_space i m i_in m_in (sheared j (B i)) refl before in
      (sheared j (B i), operation i i_in, there, subst (λ x. SameModulo g (followed_by (sheared j (B i)) x) identity) e home)

  centring_image : (m : LayerMotion) → Contains t.ops.now m → IsTrue c → InCell c (image (B m).matrix centring)
  unfolding dot
  centring_image m is true_ =
      let p = planar_of m in
      let inside : InLattice c (image2 p.matrix half_edges) =
      (keeps_lattice-is c p.matrix).0 ((keeps_is c p).1 (keeps m is)) half_edges (inr (true_, record { a = pos 0; b = pos 0; x = refl; y = refl })) in
      flat_in_cell c (image2 p.matrix half_edges) (image (B m).matrix centring) inside (omega (arith, ints)) (omega (arith, ints)) (omega (arith, ints))

  level_image : (m : LayerMotion) → (image (B m).matrix centring).z ≡ pos 0
  unfolding dot
  level_image m = omega (arith, ints)

  sheared_centring : (m : LayerMotion) → image (B m).matrix centring ≡ image (sheared j (B m)).matrix centring
  sheared_centring m =
      sym (flat_sheared j (image (B m).matrix centring) (level_image m)) ∙ sym (image-sheared j (B m).matrix centring)
      ∙ ap (image (sheared j (B m)).matrix) (flat_sheared j centring refl)

  cell_image : (m : LayerMotion) → Contains t.ops.now m → (v : Vector) → InCell c v → InCell c (image (sheared j (B m)).matrix v)
  cell_image m is v (inl whole) = inl (whole-image (sheared j (B m)).matrix v whole)
  cell_image m is v (inr (true_, whole)) =
      let w = (sheared j (B m)).matrix in
      subst (InCell c) (sym (image-plus w (minus v centring) centring) ∙ ap (image w) (minus-plus v centring))
      (cell-plus c (image w (minus v centring)) (image w centring) (inl (whole-image w (minus v centring) whole)) (subst (InCell c) (sheared_centring m) (centring_image m is true_)))

  keeps_lattice : (k : Motion) → Contains ops k → (v : Vector) → Generates g v → IsInLattice g (image k.matrix v)
  keeps_lattice k is v made =
      let (m, m_in, e) = Contains-from_map (λ m. sheared j (B m)) t.ops.now k is in
      in_g (image k.matrix v) (subst (λ (x : Motion). InCell c (image x.matrix v)) e (cell_image m m_in v (generator_in_cell c ops alone v made)))

  pub is_group : IsGroup g
  is_group = group_from_listed g (record { has_identity = has_identity; keeps_lattice = keeps_lattice; products = products; inverses = inverses })

  -- ---- within the limits

  pub within_limits : IsWithinLimits g
  within_limits = record { few = omega (arith, length-map t.ops.now (λ m. sheared j (B m)), h.count); fine = not_too_fine c ops alone }

  -- ---- the frame

  pub is_frame : IsFrame g upright (sample_frame c)
  is_frame = tests_make_frame g upright (sample_frame c) (record {
    a_in = in_g (sample_frame c).a (a_in_cell c);
    b_in = in_g (sample_frame c).b (b_in_cell c);
    tau_in = in_g (sample_frame c).tau (tau_in_cell c);
    a_in_plane = a_in_plane c;
    b_in_plane = b_in_plane c;
    tau_above = tau_above c;
    right_handed = right_handed c;
    combined = λ v made. cell_combined c v (generator_in_cell c ops alone v made);
  })

  small_matrix : (m : LayerMotion) → Contains t.ops.now m → IsWithin 2 j → IsMatrixWithin 50 (sheared j (B m)).matrix
  small_matrix m is within =
      let p = planar_of m in
      let entries = All-contains (λ p. IsMatrix2Within 1 p.matrix) ms p h.entries (planar m is) in
      let reduced = All-contains (λ p. IsReduced p.translation) ms p h.reduced (planar m is) in
      (sheared_small j within (B m) (block_within p entries) (block_shift_within p (B m) (form m is) reduced)).matrix

  pub not_skewed : IsWithin 2 j → ¬ IsSkewed g upright (sample_frame c)
  not_skewed within s =
      let (m, m_in, e) = Contains-from_map (λ m. sheared j (B m)) t.ops.now s.op s.listed in
      s.large (not_far c s.op.matrix (subst (λ (k : Motion). IsMatrixWithin 50 k.matrix) e (small_matrix m m_in within)) s.coefficients s.of)

  -- ---- by the type's own centring

  pub same_listing : g ≡ sheared_group j t
  same_listing = ap (λ b. with_centrings b ops) (sym h.centred)
