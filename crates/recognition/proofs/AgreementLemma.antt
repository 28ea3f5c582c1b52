-- A matrix agrees with a section and a type exactly where the finite test says so.
use Rattle.std.proofs.Common.{ℕ, refl, sym, ◌∙◌, ap, inl, List, slice_index_or}
use Rattle.std.specs.Prelude.{◌↔◌, Any}
use Rattle.std.proofs.lemmas.List.Elements.{All-contains, All-contains_itself}
use Rattle.motions.specs.declared.layer.LayerMotion.{LayerMotion}
use Rattle.motions.specs.PlaneMatrices.{Matrix2, product2}
use Rattle.motions.specs.PlaneViews.{matrix2_of, pair_of}
use Rattle.layer_types.specs.declared.layer_type.LayerType.{LayerType}
use Rattle.layer_types.specs.LayerTypes.{IsLayerType}
use Rattle.recognition.specs.Agreement.{AgreesWith}
use Rattle.motions.specs.Rationals.{IsWhole, in_edges}
use Rattle.recognition.specs.Listed.{Agrees, IsInLattice, IsLike, KeepsCentring}
use Rattle.recognition.proofs.CarriesLemma.{cell_positive, itself, no_difference, rational_of}
use Rattle.recognition.proofs.Lattices.{lattice_whole, lattice_every, lattice_back, same_matrix, moved_matrix}
use Rattle.recognition.proofs.Ready.{type_keeps}
use Rattle.recognition.proofs.TypeSets.{from_lattice_vector, from_operation, to_lattice_vector, to_operation}

module _ (section : List LayerMotion) (n : ℕ) (t : LayerType) (p : Matrix2) (type : IsLayerType n t) where
  forth : Agrees section t p → AgreesWith section n p
  forth h = record {
    lattice = record {
      whole = λ u hu iu. lattice_whole t.centred p h.lattice u (from_lattice_vector n t type u iu);
      every = λ v hv wv. let (u, hu, iu, su) = lattice_every t.centred p h.lattice v wv in (u, hu, to_lattice_vector n t type u iu, su);
    };
    blocks = λ a e. (
      λ (op, ho, s, is, side).
          let (k, z, within, at, like) = All-contains (λ m. Any (λ n. IsLike p m n) t.ops.now) section s.motion h.forth s.listed in (
            matrix2_of z.a,
            (
              rational_of z,
              cell_positive,
              to_operation n t type (rational_of z) (itself (IsInLattice t.centred) t.ops.now z (k, within, at) (inl (no_difference (in_edges (pair_of z.t))))),
              refl,
              sym like.side ∙ sym s.side ∙ side,
            ),
            ap (λ m. product2 m p) (sym is ∙ s.matrix) ∙ like.matrix,
          ),
      λ (a', (op, ho, o, is, side), e).
          let l = from_operation n t type op o in
          let (k, m, within, at, like) = All-contains (λ z. Any (λ m. IsLike p m z) section) t.ops.now l.motion h.back l.listed in (
            rational_of m,
            cell_positive,
            itself IsWhole section m (k, within, at) (no_difference (in_edges (pair_of m.t))),
            same_matrix t.centred p (matrix2_of m.a) a h.lattice (like.matrix ∙ ap (λ z. product2 p z) (sym l.matrix ∙ is) ∙ sym e),
            like.side ∙ sym l.side ∙ side,
          ),
    );
  }

  back : AgreesWith section n p → Agrees section t p
  back h =
      let lattice = lattice_back t.centred p (λ u hu iu. h.lattice.whole u hu (to_lattice_vector n t type u iu))
      (λ v hv wv. let (u, hu, iu, su) = h.lattice.every v hv wv in (u, hu, from_lattice_vector n t type u iu, su)) in
      record {
        lattice = lattice;
        forth = λ k d within.
            let m = slice_index_or section k d in
            let (a', (op, ho, o, is, side), e) = (h.blocks (matrix2_of m.a) m.e).0
            (rational_of m, cell_positive, itself IsWhole section m (All-contains_itself section k d within) (no_difference (in_edges (pair_of m.t))), refl, refl) in
            let l = from_operation n t type op o in
            let (i, below, at) = l.listed in
            (i, l.motion, below, at, record { side = sym side ∙ l.side; matrix = e ∙ ap (λ z. product2 p z) (sym is ∙ l.matrix) });
        back = λ k d within.
            let z = slice_index_or t.ops.now k d in
            let listed = All-contains_itself t.ops.now k d within in
            let (a, e) = moved_matrix t.centred p (matrix2_of z.a) lattice (λ b. All-contains (λ z. KeepsCentring (matrix2_of z.a)) t.ops.now z (type_keeps n t type b) listed) in
            let (op, ho, s, is, side) = (h.blocks a z.e).1 (
              matrix2_of z.a,
              (
                rational_of z,
                cell_positive,
                to_operation n t type (rational_of z) (itself (IsInLattice t.centred) t.ops.now z listed (inl (no_difference (in_edges (pair_of z.t))))),
                refl,
                refl,
              ),
              e,
            ) in
            let (i, below, at) = s.listed in
            (i, s.motion, below, at, record { side = sym s.side ∙ side; matrix = ap (λ m. product2 m p) (sym s.matrix ∙ is) ∙ e });
      }

  pub agrees_is : Agrees section t p ↔ AgreesWith section n p
  agrees_is = (forth, back)
