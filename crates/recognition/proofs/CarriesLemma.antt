-- a change carries a section onto a type exactly where the finite test says so
use Rattle.std.proofs.Common.{◌≡◌, ℕ, ℤ, pos, ◌+ℤ◌, ◌-ℤ◌, ◌*ℤ◌, ◌≤ℤ◌, inl, refl, sym, ◌∙◌, ap, subst, arith, List, slice_index_or}
use Rattle.std.specs.Prelude.{Any, Contains}
use Rattle.std.proofs.lemmas.Int.{ints}
use Rattle.std.proofs.lemmas.List.Elements.{All-contains, All-contains_itself}
use Rattle.fractions.specs.Parts.{edge}
use Rattle.motions.specs.declared.layer.LayerMotion.{LayerMotion}
use Rattle.layer_types.specs.declared.layer_type.LayerType.{LayerType}
use Rattle.motions.specs.PlaneMatrices.{Matrix2, product2}
use Rattle.motions.specs.Rationals.{RationalPair, IsRationalPair, RationalMotion, rational_minus, in_edges, IsMultiple, IsWhole, InSection, IsListed}
use Rattle.recognition.specs.Changes.{rational_image, moved_by}
use Rattle.motions.specs.PlaneViews.{matrix2_of, pair_of}
use Rattle.recognition.specs.Changes.{IsCarried}
use Rattle.recognition.specs.Order.{origin_at}
use Rattle.recognition.specs.Listed.{Agrees, CarriesListed, IsClose, IsInLattice, IsPaired, Fits, KeepsCentring, KeepsLattice}
use Rattle.integers.proofs.Spread.{spread, numerals_out}
use Rattle.recognition.proofs.Whole as whole
use Rattle.recognition.proofs.Lattices.{lattice_whole, lattice_every, lattice_back, same_matrix, moved_matrix}

-- a listed motion with a rational translation
abbrev pub rational_of : LayerMotion → RationalMotion
rational_of m = record { matrix = matrix2_of m.a; side = m.e; translation = in_edges (pair_of m.t) }

pub cell_positive : pos 1 ≤ℤ edge
cell_positive = omega (arith, ints)

-- a pair differs from itself by a whole vector
pub no_difference : (u : RationalPair) → IsWhole (rational_minus u u)
no_difference u = record { x = (pos 0, nothing u.x u.over); y = (pos 0, nothing u.y u.over) }
  where
    nothing : (x d : ℤ) → x *ℤ d -ℤ x *ℤ d ≡ (d *ℤ d) *ℤ pos 0
    nothing x d = omega (arith, ints)

pub itself : (V : RationalPair → Type 0) (ops : List LayerMotion) (m : LayerMotion) → Contains ops m → V (rational_minus (in_edges (pair_of m.t)) (in_edges (pair_of m.t))) → IsListed V ops (rational_of m)
itself V ops m h v = record { motion = m; listed = h; matrix = refl; side = refl; translation = v }

-- the image of a difference
image_row : (p0 p1 c d x y n0 n1 : ℤ) → IsMultiple (d *ℤ c) (p0 *ℤ (x *ℤ c -ℤ n0 *ℤ d) +ℤ p1 *ℤ (y *ℤ c -ℤ n1 *ℤ d))
    → IsMultiple (d *ℤ c) ((p0 *ℤ x +ℤ p1 *ℤ y) *ℤ c -ℤ (p0 *ℤ n0 +ℤ p1 *ℤ n1) *ℤ d)
image_row p0 p1 c d x y n0 n1 (k, e) = (k, grouped p0 p1 c d x y n0 n1 ∙ e)
  where
    grouped : (p0 p1 c d x y n0 n1 : ℤ) → (p0 *ℤ x +ℤ p1 *ℤ y) *ℤ c -ℤ (p0 *ℤ n0 +ℤ p1 *ℤ n1) *ℤ d ≡ p0 *ℤ (x *ℤ c -ℤ n0 *ℤ d) +ℤ p1 *ℤ (y *ℤ c -ℤ n1 *ℤ d)
    grouped p0 p1 c d x y n0 n1 = simp spread (omega (arith, ints))

module _ (p : Matrix2) (x y : ℕ) (m n : LayerMotion) (shift like : RationalPair) where
  abbrev o : RationalPair
  o = origin_at x y

  -- the translation of an operation of the section less that of one of the type, after the change
  abbrev Rest : Type 0
  Rest = IsWhole (rational_minus (rational_minus shift (rational_image p like)) (moved_by (matrix2_of m.a) o))

  abbrev Beside : Type 0
  Beside = IsWhole (rational_image p (rational_minus like (in_edges (pair_of n.t))))

  carried_shift : IsWhole (rational_minus shift (in_edges (pair_of m.t))) → IsClose p x y m n → Beside → Rest
  carried_shift a b c = record {
    x =
        whole.forth (pos 6) edge shift.over like.over (in_edges (pair_of m.t)).x shift.x (rational_image p like).x (rational_image p (in_edges (pair_of n.t))).x (moved_by (matrix2_of m.a) o).x cell_positive
        a.x b.first (image_row p.first.x p.first.y edge like.over like.x like.y (in_edges (pair_of n.t)).x (in_edges (pair_of n.t)).y c.x);
    y =
        whole.forth (pos 6) edge shift.over like.over (in_edges (pair_of m.t)).y shift.y (rational_image p like).y (rational_image p (in_edges (pair_of n.t))).y (moved_by (matrix2_of m.a) o).y cell_positive
        a.y b.second (image_row p.second.x p.second.y edge like.over like.x like.y (in_edges (pair_of n.t)).x (in_edges (pair_of n.t)).y c.y);
  }

  close : IsRationalPair shift → IsRationalPair like → IsWhole (rational_minus shift (in_edges (pair_of m.t))) → Beside → Rest → IsClose p x y m n
  close hs hl a c d = record {
    first =
        whole.back (pos 6) edge shift.over like.over (in_edges (pair_of m.t)).x shift.x (rational_image p like).x (rational_image p (in_edges (pair_of n.t))).x (moved_by (matrix2_of m.a) o).x cell_positive
        hs hl a.x (image_row p.first.x p.first.y edge like.over like.x like.y (in_edges (pair_of n.t)).x (in_edges (pair_of n.t)).y c.x) d.x;
    second =
        whole.back (pos 6) edge shift.over like.over (in_edges (pair_of m.t)).y shift.y (rational_image p like).y (rational_image p (in_edges (pair_of n.t))).y (moved_by (matrix2_of m.a) o).y cell_positive
        hs hl a.y (image_row p.second.x p.second.y edge like.over like.x like.y (in_edges (pair_of n.t)).x (in_edges (pair_of n.t)).y c.y) d.y;
  }

  listed_shift : IsRationalPair like → IsClose p x y m n → Beside → Rest → IsWhole (rational_minus shift (in_edges (pair_of m.t)))
  listed_shift hl b c d = record {
    x =
        whole.first (pos 6) edge shift.over like.over (in_edges (pair_of m.t)).x shift.x (rational_image p like).x (rational_image p (in_edges (pair_of n.t))).x (moved_by (matrix2_of m.a) o).x cell_positive
        (omega (arith, ints)) hl b.first (image_row p.first.x p.first.y edge like.over like.x like.y (in_edges (pair_of n.t)).x (in_edges (pair_of n.t)).y c.x) d.x;
    y =
        whole.first (pos 6) edge shift.over like.over (in_edges (pair_of m.t)).y shift.y (rational_image p like).y (rational_image p (in_edges (pair_of n.t))).y (moved_by (matrix2_of m.a) o).y cell_positive
        (omega (arith, ints)) hl b.second (image_row p.second.x p.second.y edge like.over like.x like.y (in_edges (pair_of n.t)).x (in_edges (pair_of n.t)).y c.y) d.y;
  }

-- the translation that an operation of the type has in the section
abbrev carried : Matrix2 → Matrix2 → RationalPair → LayerMotion → RationalPair
carried a p o n = record {
  x = pos 6 *ℤ (rational_image p (in_edges (pair_of n.t))).x +ℤ (moved_by a o).x;
  y = pos 6 *ℤ (rational_image p (in_edges (pair_of n.t))).y +ℤ (moved_by a o).y;
  over = pos 6 *ℤ edge;
}

carried_is : (a p : Matrix2) (x y : ℕ) (n : LayerMotion)
    → IsWhole (rational_minus (rational_minus (carried a p (origin_at x y) n) (rational_image p (in_edges (pair_of n.t)))) (moved_by a (origin_at x y)))
carried_is a p x y n = record {
  x = (pos 0, nothing (pos 6) edge (rational_image p (in_edges (pair_of n.t))).x (moved_by a (origin_at x y)).x);
  y = (pos 0, nothing (pos 6) edge (rational_image p (in_edges (pair_of n.t))).y (moved_by a (origin_at x y)).y);
}
  where
    nothing : (g c q w : ℤ) → ((g *ℤ q +ℤ w) *ℤ c -ℤ q *ℤ (g *ℤ c)) *ℤ (g *ℤ c) -ℤ w *ℤ ((g *ℤ c) *ℤ c) ≡ (((g *ℤ c) *ℤ c) *ℤ (g *ℤ c)) *ℤ pos 0
    nothing g c q w = simp spread (simp numerals_out (omega (arith, ints)))

module _ (section : List LayerMotion) (t : LayerType) (p : Matrix2) (x y : ℕ) where
  abbrev at : RationalPair
  at = origin_at x y

  -- of one motion, what the test says of it
  abbrev HasLike : LayerMotion → Type 0
  HasLike m = Any (λ n. IsPaired p x y m n) t.ops.now

  abbrev HasSource : LayerMotion → Type 0
  HasSource n = Any (λ m. IsPaired p x y m n) section

  abbrev Result : RationalMotion → Type 0
  Result op = (like : RationalMotion) × IsRationalPair like.translation × IsListed (IsInLattice t.centred) t.ops.now like × IsCarried p at op like

  to_type : Fits section t p x y → (op : RationalMotion) → InSection section op → Result op
  to_type fits op s =
      let m = s.motion in
      let (k, n, within, is, pair) = All-contains HasLike section m fits.forth s.listed in
      let Shift : Matrix2 → Type 0 = λ a. IsWhole (rational_minus (rational_minus op.translation (rational_image p (in_edges (pair_of n.t)))) (moved_by a at)) in (
        rational_of n,
        cell_positive,
        itself (IsInLattice t.centred) t.ops.now n (k, within, is) (inl (no_difference (in_edges (pair_of n.t)))),
        record {
          side = s.side ∙ pair.like.side;
          matrix = ap (λ z. product2 z p) s.matrix ∙ pair.like.matrix;
          translation =
              subst Shift (sym s.matrix)
              (carried_shift p x y m n op.translation (in_edges (pair_of n.t)) s.translation pair.close (lattice_whole t.centred p fits.lattice (rational_minus (in_edges (pair_of n.t)) (in_edges (pair_of n.t))) (inl (no_difference (in_edges (pair_of n.t))))));
        },
      )

  to_section : Fits section t p x y → (op : RationalMotion) → Result op → InSection section op
  to_section fits op (like, high, h, c) =
      let n = h.motion in
      let (k, m, within, is, pair) = All-contains HasSource t.ops.now n fits.back h.listed in
      let same : op.matrix ≡ matrix2_of m.a = same_matrix t.centred p op.matrix (matrix2_of m.a) fits.lattice (c.matrix ∙ ap (λ z. product2 p z) h.matrix ∙ sym pair.like.matrix) in
      let Shift : Matrix2 → Type 0 = λ a. IsWhole (rational_minus (rational_minus op.translation (rational_image p like.translation)) (moved_by a at)) in
      record {
        motion = m;
        listed = (k, within, is);
        matrix = same;
        side = c.side ∙ h.side ∙ sym pair.like.side;
        translation =
            listed_shift p x y m n op.translation like.translation high pair.close (lattice_whole t.centred p fits.lattice (rational_minus like.translation (in_edges (pair_of n.t))) h.translation)
            (subst Shift same c.translation);
      }

  pub fits_carries : Fits section t p x y → CarriesListed section t p x y
  fits_carries fits = record {
    lattice = record {
      whole = λ u hu iu. lattice_whole t.centred p fits.lattice u iu;
      every = λ v hv wv. lattice_every t.centred p fits.lattice v wv;
    };
    operations = λ op ho. (to_type fits op, to_section fits op);
  }

  found_like : CarriesListed section t p x y → (m : LayerMotion) → Contains section m → HasLike m
  found_like h m listed =
      let (like, high, i, c) = (h.operations (rational_of m) cell_positive).0 (itself IsWhole section m listed (no_difference (in_edges (pair_of m.t)))) in
      let n = i.motion in
      let (k, within, is) = i.listed in (
        k,
        n,
        within,
        is,
        record {
          like = record { side = c.side ∙ i.side; matrix = c.matrix ∙ ap (λ z. product2 p z) i.matrix };
          close =
              close p x y m n (in_edges (pair_of m.t)) like.translation cell_positive high (no_difference (in_edges (pair_of m.t)))
              (lattice_whole t.centred p (lattice_back t.centred p h.lattice.whole h.lattice.every) (rational_minus like.translation (in_edges (pair_of n.t))) i.translation) c.translation;
        },
      )

  found_source : KeepsLattice t → CarriesListed section t p x y → (n : LayerMotion) → Contains t.ops.now n → HasSource n
  found_source keeps h n listed =
      let lattice = lattice_back t.centred p h.lattice.whole h.lattice.every in
      let (a, e) = moved_matrix t.centred p (matrix2_of n.a) lattice (λ b. All-contains (λ z. KeepsCentring (matrix2_of z.a)) t.ops.now n (keeps b) listed) in
      let op : RationalMotion = record { matrix = a; side = n.e; translation = carried a p at n } in
      let high : IsRationalPair op.translation = omega (arith, ints) in
      let i : InSection section op = (h.operations op high).1 (
        rational_of n,
        cell_positive,
        itself (IsInLattice t.centred) t.ops.now n listed (inl (no_difference (in_edges (pair_of n.t)))),
        record { side = refl; matrix = e; translation = carried_is a p x y n },
      ) in
      let m = i.motion in
      let (k, within, is) = i.listed in
      let Shift : Matrix2 → Type 0 = λ z. IsWhole (rational_minus (rational_minus op.translation (rational_image p (in_edges (pair_of n.t)))) (moved_by z at)) in (
        k,
        m,
        within,
        is,
        record {
          like = record { side = sym i.side; matrix = ap (λ z. product2 z p) (sym i.matrix) ∙ e };
          close =
              close p x y m n op.translation (in_edges (pair_of n.t)) high cell_positive i.translation
              (lattice_whole t.centred p lattice (rational_minus (in_edges (pair_of n.t)) (in_edges (pair_of n.t))) (inl (no_difference (in_edges (pair_of n.t)))))
              (subst Shift i.matrix (carried_is a p x y n));
        },
      )

  pub carries_fits : KeepsLattice t → CarriesListed section t p x y → Fits section t p x y
  carries_fits keeps h = record {
    lattice = lattice_back t.centred p h.lattice.whole h.lattice.every;
    forth = λ k d within. found_like h (slice_index_or section k d) (All-contains_itself section k d within);
    back = λ k d within. found_source keeps h (slice_index_or t.ops.now k d) (All-contains_itself t.ops.now k d within);
  }

  -- the matrix of a change that fits agrees, whatever its origin
  pub fits_agrees : Fits section t p x y → Agrees section t p
  fits_agrees f = record {
    lattice = f.lattice;
    forth = λ k d within. let (i, n, below, is, pair) = f.forth k d within in (i, n, below, is, pair.like);
    back = λ k d within. let (i, m, below, is, pair) = f.back k d within in (i, m, below, is, pair.like);
  }
