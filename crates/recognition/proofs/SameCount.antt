-- A section that a change carries onto a type has as many motions as the type has operations.
use Rattle.std.proofs.Common.{◌≡◌, ℕ, ◌<◌, ℤ, pos, negsuc, ◌+ℤ◌, ◌-ℤ◌, ◌*ℤ◌, List, [], ◌∷◌, length, slice_index_or, sym, ◌∙◌, ap, subst, arith}
use Rattle.std.proofs.lemmas.Int.{ints}
use Rattle.std.proofs.lemmas.List.{get_or_default}
use Rattle.integers.proofs.Solver.{Expr.{var, num, ◌⊕◌, ◌⊝◌, ◌⊗◌}, given, linear}
use Rattle.integers.proofs.Order.{mul_left_cancel_pos}
use Rattle.fractions.specs.Parts.{edge}
use Rattle.quotient.proofs.ListLaws.{item_at}
use Rattle.motions.specs.declared.layer.LayerMotion.{LayerMotion}
use Rattle.motions.specs.PlaneMatrices.{Matrix2, dot2}
use Rattle.motions.specs.PlaneViews.{matrix2_of, pair_of}
use Rattle.motions.specs.Rationals.{DifferByWhole}
use Rattle.layer_types.specs.declared.layer_type.LayerType.{LayerType}
use Rattle.recognition.specs.Grid.{grid}
use Rattle.recognition.specs.Listed.{Fits, IsPaired, IsReady}
use Rattle.recognition.proofs.Lattices.{same_matrix}
use Rattle.recognition.proofs.Lists.{not_more}
use Rattle.recognition.proofs.Unique.{same_right}

-- translations that agree with one translation differ by whole edges
whole_apart : (s s' i u a b a' b' x y k k' : ℤ) → a ≡ a' → b ≡ b'
    → pos 6 *ℤ (s -ℤ i) -ℤ (u -ℤ (a *ℤ x +ℤ b *ℤ y)) ≡ pos grid *ℤ k
    → pos 6 *ℤ (s' -ℤ i) -ℤ (u -ℤ (a' *ℤ x +ℤ b' *ℤ y)) ≡ pos grid *ℤ k'
    → s -ℤ s' ≡ edge *ℤ (k -ℤ k')
whole_apart s s' i u a b a' b' x y k k' ea eb e e' =
    mul_left_cancel_pos (pos 6) (s -ℤ s') (edge *ℤ (k -ℤ k')) (omega (arith, ints))
    (linear (s ∷ s' ∷ i ∷ u ∷ a ∷ b ∷ a' ∷ b' ∷ x ∷ y ∷ k ∷ k' ∷ []) (num (pos 6) ⊗ (var 0 ⊝ var 1)) (num (pos 6) ⊗ (num edge ⊗ (var 10 ⊝ var 11)))
    (given (num (pos 1)) (num (pos 6) ⊗ (var 0 ⊝ var 2) ⊝ (var 3 ⊝ (var 4 ⊗ var 8 ⊕ var 5 ⊗ var 9))) (num (pos grid) ⊗ var 10)
    ∷ given (num (negsuc 0)) (num (pos 6) ⊗ (var 1 ⊝ var 2) ⊝ (var 3 ⊝ (var 6 ⊗ var 8 ⊕ var 7 ⊗ var 9))) (num (pos grid) ⊗ var 11)
    ∷ given (num (negsuc 0) ⊗ var 8) (var 4) (var 6) ∷ given (num (negsuc 0) ⊗ var 9) (var 5) (var 7) ∷ [])
    tt (e, (e', (ea, (eb, tt)))))

-- the same, in cell edges
in_cells : (s s' k : ℤ) → s -ℤ s' ≡ edge *ℤ k → s *ℤ edge -ℤ s' *ℤ edge ≡ edge *ℤ edge *ℤ k
in_cells s s' k e =
    linear (s ∷ s' ∷ k ∷ []) (var 0 ⊗ num edge ⊝ var 1 ⊗ num edge) (num edge ⊗ num edge ⊗ var 2)
    (given (num edge) (var 0 ⊝ var 1) (num edge ⊗ var 2) ∷ []) tt (e, tt)

module _ (section : List LayerMotion) (t : LayerType) (p : Matrix2) (x y : ℕ) (ready : IsReady section t) (fits : Fits section t p x y) where
  -- the motion at the one place is the operation at the other, after the change
  record ArePaired (i j : ℕ) : Type 0 where
    m : LayerMotion
    n : LayerMotion
    of_section : slice_index_or section i m ≡ m
    below : j < length t.ops.now
    of_type : slice_index_or t.ops.now j n ≡ n
    pair : IsPaired p x y m n

  one_motion : (m m' n : LayerMotion) → IsPaired p x y m n → IsPaired p x y m' n → DifferByWhole m m'
  one_motion m m' n h k =
      let a = same_matrix t.centred p (matrix2_of m.a) (matrix2_of m'.a) fits.lattice (h.like.matrix ∙ sym k.like.matrix) in
      let f = h.close.first in
      let f' = k.close.first in
      let s = h.close.second in
      let s' = k.close.second in
      let v = pair_of m.t in
      let v' = pair_of m'.t in
      let x_apart =
      whole_apart v.x v'.x (dot2 p.first (pair_of n.t)) (pos x) _ _ _ _ (pos x) (pos y) f.0 f'.0
      (λ i. (a i).first.x) (λ i. (a i).first.y) f.1 f'.1 in
      let y_apart =
      whole_apart v.y v'.y (dot2 p.second (pair_of n.t)) (pos y) _ _ _ _ (pos x) (pos y) s.0 s'.0
      (λ i. (a i).second.x) (λ i. (a i).second.y) s.1 s'.1 in
      record {
        matrix = a;
        side = h.like.side ∙ sym k.like.side;
        translation = record {
          x = (f.0 -ℤ f'.0, in_cells v.x v'.x (f.0 -ℤ f'.0) x_apart);
          y = (s.0 -ℤ s'.0, in_cells v.y v'.y (s.0 -ℤ s'.0) y_apart);
        };
      }

  from_section : (i : ℕ) → i < length section → (j : ℕ) × (j < length t.ops.now) × ArePaired i j
  from_section i within =
      let (m, is) = item_at section i within in
      let (j, n, below, at, pair) = fits.forth i m within in
      let P : LayerMotion → Type 0 = λ z. IsPaired p x y z n in
      (j, below, record { m = m; n = n; of_section = is; below = below; of_type = at; pair = subst P is pair })

  from_type : (j : ℕ) → j < length t.ops.now → (i : ℕ) × (i < length section) × ArePaired i j
  from_type j within =
      let (n, is) = item_at t.ops.now j within in
      let (i, m, below, at, pair) = fits.back j n within in
      let P : LayerMotion → Type 0 = λ z. IsPaired p x y m z in
      (i, below, record { m = m; n = n; of_section = at; below = within; of_type = is; pair = subst P is pair })

  section_apart : (i i' j : ℕ) → i < i' → i' < length section → ArePaired i j → ArePaired i' j → ⊥
  section_apart i i' j less within h k =
      let one : k.n ≡ h.n = sym k.of_type ∙ get_or_default t.ops.now j k.n h.n k.below ∙ h.of_type in
      let P : LayerMotion → Type 0 = λ z. IsPaired p x y k.m z in
      let same = one_motion h.m k.m h.n h.pair (subst P one k.pair) in
      let there : slice_index_or section i' h.m ≡ k.m = get_or_default section i' h.m k.m within ∙ k.of_section in
      let Q : LayerMotion → LayerMotion → Type 0 = DifferByWhole in
      ready.motions.once i i' h.m less within (subst (λ z. Q z (slice_index_or section i' h.m)) (sym h.of_section) (subst (Q h.m) (sym there) same))

  type_apart : (j j' i : ℕ) → j < j' → j' < length t.ops.now → i < length section → ArePaired i j → ArePaired i j' → ⊥
  type_apart j j' i less within inside h k =
      let one : k.m ≡ h.m = sym k.of_section ∙ get_or_default section i k.m h.m inside ∙ h.of_section in
      let P : LayerMotion → Type 0 = λ z. IsPaired p x y z k.n in
      let pair = subst P one k.pair in
      let block = same_right t.centred p (matrix2_of h.n.a) (matrix2_of k.n.a) fits.lattice (sym h.pair.like.matrix ∙ pair.like.matrix) in
      let is : j ≡ j' =
      ready.distinct j j' h.n k.n h.below within (ap (λ (z : LayerMotion). z.e) h.of_type ∙ sym h.pair.like.side ∙ pair.like.side ∙ ap (λ (z : LayerMotion). z.e) (sym k.of_type))
      (ap (λ (z : LayerMotion). matrix2_of z.a) h.of_type ∙ block ∙ ap (λ (z : LayerMotion). matrix2_of z.a) (sym k.of_type)) in
      omega (arith, is)

  record Placed (j i : ℕ) : Type 0 where
    inside : i < length section
    are : ArePaired i j

  pub same_count : length section ≡ length t.ops.now
  same_count =
      let forth = not_more (length section) (length t.ops.now) ArePaired from_section section_apart in
      let back =
      not_more (length t.ops.now) (length section) Placed
      (λ j within. let (i, below, are) = from_type j within in (i, below, record { inside = below; are = are }))
      (λ j j' i less within h k. type_apart j j' i less within h.inside h.are k.are) in
      omega arith
