-- A multiple of one vector of the plane is added to the other.
use Rattle.std.proofs.Common.{◌≡◌, ◌<◌, ℤ, pos, negsuc, ◌+ℤ◌, ◌-ℤ◌, ◌*ℤ◌, ◌≤ℤ◌, ◌<ℤ◌, nat_abs, [], ◌∷◌, sym, ap, subst, ◌∙◌, arith}
use Rattle.std.proofs.lemmas.Int.{ints}
use Rattle.integers.proofs.Order.{zero-le-square, lt-le_trans}
use Rattle.integers.proofs.Solver.{Expr.{var, num, ◌⊕◌, ◌⊝◌, ◌⊗◌}, ring}
use Rattle.symmetry.specs.Vectors.{Vector, Matrix, plus, multiple, opposite, dot, cross}
use Rattle.symmetry.specs.Groups.{Listing}
use Rattle.symmetry.specs.Frames.{combination}
use Rattle.symmetry.proofs.LatticeLaws.{lattice-opposite}
use Rattle.symmetry.proofs.VectorLaws.{vector_path, plus_comm, dot-multiple}
use Rattle.reduction.specs.Forms.{by_form, IsForm, IsShort, Shortens}
use Rattle.reduction.specs.LatticeBases.{IsAdapted, combined}
use Rattle.reduction.proofs.BasisSteps.{combined_in, dot-combined}

entry_b : (c d e k a b w : ℤ) → (c -ℤ d *ℤ k) *ℤ a +ℤ d *ℤ (pos 1 *ℤ b +ℤ k *ℤ a) +ℤ e *ℤ w ≡ c *ℤ a +ℤ d *ℤ b +ℤ e *ℤ w
entry_b c d e k a b w =
    ring (c ∷ d ∷ e ∷ k ∷ a ∷ b ∷ w ∷ [])
    ((var 0 ⊝ var 1 ⊗ var 3) ⊗ var 4 ⊕ var 1 ⊗ (num (pos 1) ⊗ var 5 ⊕ var 3 ⊗ var 4) ⊕ var 2 ⊗ var 6)
    (var 0 ⊗ var 4 ⊕ var 1 ⊗ var 5 ⊕ var 2 ⊗ var 6) tt

entry_a : (c d e k a b w : ℤ) → c *ℤ (pos 1 *ℤ a +ℤ k *ℤ b) +ℤ (d -ℤ c *ℤ k) *ℤ b +ℤ e *ℤ w ≡ c *ℤ a +ℤ d *ℤ b +ℤ e *ℤ w
entry_a c d e k a b w =
    ring (c ∷ d ∷ e ∷ k ∷ a ∷ b ∷ w ∷ [])
    (var 0 ⊗ (num (pos 1) ⊗ var 4 ⊕ var 3 ⊗ var 5) ⊕ (var 1 ⊝ var 0 ⊗ var 3) ⊗ var 5 ⊕ var 2 ⊗ var 6)
    (var 0 ⊗ var 4 ⊕ var 1 ⊗ var 5 ⊕ var 2 ⊗ var 6) tt

flat_sum : (x y k : ℤ) → x ≡ pos 0 → y ≡ pos 0 → pos 1 *ℤ x +ℤ k *ℤ y ≡ pos 0
flat_sum x y k e e' = (λ i. pos 1 *ℤ e i +ℤ k *ℤ e' i) ∙ omega (arith, ints)

spread_b : (a b tau : Vector) (k : ℤ) (c : Vector)
    → combination (record { a = a; b = combined (pos 1) b k a; tau = tau }) (record { x = c.x -ℤ c.y *ℤ k; y = c.y; z = c.z }) ≡ combination (record { a = a; b = b; tau = tau }) c
unfolding plus multiple
spread_b a b tau k c = vector_path (entry_b c.x c.y c.z k a.x b.x tau.x) (entry_b c.x c.y c.z k a.y b.y tau.y) (entry_b c.x c.y c.z k a.z b.z tau.z)

spread_a : (a b tau : Vector) (k : ℤ) (c : Vector)
    → combination (record { a = combined (pos 1) a k b; b = b; tau = tau }) (record { x = c.x; y = c.y -ℤ c.x *ℤ k; z = c.z }) ≡ combination (record { a = a; b = b; tau = tau }) c
unfolding plus multiple
spread_a a b tau k c = vector_path (entry_a c.x c.y c.z k a.x b.x tau.x) (entry_a c.x c.y c.z k a.y b.y tau.y) (entry_a c.x c.y c.z k a.z b.z tau.z)

module _ (g : Listing) (r : Vector) (a b tau : Vector) (h : IsAdapted g r (record { a = a; b = b; tau = tau })) where
  pub adapted_b : (k : ℤ) (u : Vector) → u ≡ combined (pos 1) b k a → IsAdapted g r (record { a = a; b = u; tau = tau })
  adapted_b k u e = subst (λ (t : Vector). IsAdapted g r (record { a = a; b = t; tau = tau })) (sym e) (record {
    basis = record {
      a_in = h.basis.a_in;
      b_in = combined_in g (pos 1) k b a h.basis.b_in h.basis.a_in;
      tau_in = h.basis.tau_in;
      spans = λ t inside. let (c, is) = h.basis.spans t inside in (record { x = c.x -ℤ c.y *ℤ k; y = c.y; z = c.z }, spread_b a b tau k c ∙ is);
    };
    a_in_plane = h.a_in_plane;
    b_in_plane = dot-combined r (pos 1) k b a ∙ flat_sum _ _ k h.b_in_plane h.a_in_plane;
    tau_above = h.tau_above;
  })

  pub adapted_a : (k : ℤ) (u : Vector) → u ≡ combined (pos 1) a k b → IsAdapted g r (record { a = u; b = b; tau = tau })
  adapted_a k u e = subst (λ (t : Vector). IsAdapted g r (record { a = t; b = b; tau = tau })) (sym e) (record {
    basis = record {
      a_in = combined_in g (pos 1) k a b h.basis.a_in h.basis.b_in;
      b_in = h.basis.b_in;
      tau_in = h.basis.tau_in;
      spans = λ t inside. let (c, is) = h.basis.spans t inside in (record { x = c.x; y = c.y -ℤ c.x *ℤ k; z = c.z }, spread_a a b tau k c ∙ is);
    };
    a_in_plane = dot-combined r (pos 1) k a b ∙ flat_sum _ _ k h.a_in_plane h.b_in_plane;
    b_in_plane = h.b_in_plane;
    tau_above = h.tau_above;
  })

-- sizes
pub still_short : (g : Matrix) (v w u : Vector) → IsShort g v → Shortens g v w u → IsShort g u
still_short g v w u h s = let m = h.most in let l = s.less in record { most = lt-le_trans _ _ _ l m }

not_negative : (g : Matrix) → IsForm g → (v : Vector) → pos 0 ≤ℤ by_form g v v
unfolding dot
not_negative g form v =
    let p = form.positive v in
    let x = zero-le-square v.x in
    let y = zero-le-square v.y in
    let z = zero-le-square v.z in
    go (v.x *ℤ v.x +ℤ v.y *ℤ v.y +ℤ v.z *ℤ v.z) _ (omega (arith, ints)) p
  where
    go : (a b : ℤ) → pos 0 ≤ℤ a → a ≤ℤ b → pos 0 ≤ℤ b
    go a b h k = omega (arith, ints)

pub smaller : (g : Matrix) → IsForm g → (v w u : Vector) → Shortens g v w u → nat_abs (by_form g u u) < nat_abs (by_form g v v)
smaller g form v w u s = go _ _ (not_negative g form u) s.less
  where
    go : (x y : ℤ) → pos 0 ≤ℤ x → x <ℤ y → nat_abs x < nat_abs y
    go x y h l = omega (arith, ints)

-- the two exchanged
pub adapted_swapped : (g : Listing) (r a b tau : Vector) → IsAdapted g r (record { a = a; b = b; tau = tau }) → IsAdapted g r (record { a = b; b = a; tau = tau })
adapted_swapped g r a b tau h = record {
  basis = record {
    a_in = h.basis.b_in;
    b_in = h.basis.a_in;
    tau_in = h.basis.tau_in;
    spans = λ t inside. let (c, is) = h.basis.spans t inside in (record { x = c.y; y = c.x; z = c.z }, exchanged a b tau c ∙ is);
  };
  a_in_plane = h.b_in_plane;
  b_in_plane = h.a_in_plane;
  tau_above = h.tau_above;
}
  where
    exchanged : (a b tau c : Vector) → combination (record { a = b; b = a; tau = tau }) (record { x = c.y; y = c.x; z = c.z }) ≡ combination (record { a = a; b = b; tau = tau }) c
    exchanged a b tau c = ap (λ (u : Vector). plus u (multiple c.z tau)) (plus_comm (multiple c.y b) (multiple c.x a))

-- ---- the opposite of b, or of a

entry_opposite : (c d e a b t : ℤ) → c *ℤ a +ℤ (negsuc 0 *ℤ d) *ℤ (negsuc 0 *ℤ b) +ℤ e *ℤ t ≡ c *ℤ a +ℤ d *ℤ b +ℤ e *ℤ t
entry_opposite c d e a b t =
    ring (c ∷ d ∷ e ∷ a ∷ b ∷ t ∷ []) (var 0 ⊗ var 3 ⊕ (num (negsuc 0) ⊗ var 1) ⊗ (num (negsuc 0) ⊗ var 4) ⊕ var 2 ⊗ var 5)
    (var 0 ⊗ var 3 ⊕ var 1 ⊗ var 4 ⊕ var 2 ⊗ var 5) tt

spread_opposite : (a b tau c : Vector)
    → combination (record { a = a; b = opposite b; tau = tau }) (record { x = c.x; y = negsuc 0 *ℤ c.y; z = c.z }) ≡ combination (record { a = a; b = b; tau = tau }) c
unfolding plus multiple
spread_opposite a b tau c =
    vector_path (entry_opposite c.x c.y c.z a.x b.x tau.x) (entry_opposite c.x c.y c.z a.y b.y tau.y) (entry_opposite c.x c.y c.z a.z b.z tau.z)

pub adapted_opposite : (g : Listing) (r a b tau : Vector) → IsAdapted g r (record { a = a; b = b; tau = tau }) → (u : Vector) → u ≡ opposite b
    → IsAdapted g r (record { a = a; b = u; tau = tau })
adapted_opposite g r a b tau h u e = subst (λ (t : Vector). IsAdapted g r (record { a = a; b = t; tau = tau })) (sym e) (record {
  basis = record {
    a_in = h.basis.a_in;
    b_in = lattice-opposite g b h.basis.b_in;
    tau_in = h.basis.tau_in;
    spans = λ t inside. let (c, is) = h.basis.spans t inside in (record { x = c.x; y = negsuc 0 *ℤ c.y; z = c.z }, spread_opposite a b tau c ∙ is);
  };
  a_in_plane = h.a_in_plane;
  b_in_plane = dot-multiple r (negsuc 0) b ∙ ap (λ z. negsuc 0 *ℤ z) h.b_in_plane;
  tau_above = h.tau_above;
})

pub adapted_opposite_first : (g : Listing) (r a b tau : Vector) → IsAdapted g r (record { a = a; b = b; tau = tau }) → (u : Vector) → u ≡ opposite a
    → IsAdapted g r (record { a = u; b = b; tau = tau })
adapted_opposite_first g r a b tau h u e = adapted_swapped g r b u tau (adapted_opposite g r b a tau (adapted_swapped g r a b tau h) u e)

pub cross-opposite : (a b : Vector) → cross a (opposite b) ≡ opposite (cross a b)
unfolding cross multiple
cross-opposite a b = vector_path (go a.y b.z a.z b.y) (go a.z b.x a.x b.z) (go a.x b.y a.y b.x)
  where
    go : (p q s t : ℤ) → p *ℤ (negsuc 0 *ℤ q) -ℤ s *ℤ (negsuc 0 *ℤ t) ≡ negsuc 0 *ℤ (p *ℤ q -ℤ s *ℤ t)
    go p q s t = ring (p ∷ q ∷ s ∷ t ∷ []) (var 0 ⊗ (num (negsuc 0) ⊗ var 1) ⊝ var 2 ⊗ (num (negsuc 0) ⊗ var 3)) (num (negsuc 0) ⊗ (var 0 ⊗ var 1 ⊝ var 2 ⊗ var 3)) tt

-- ---- a vector of the plane added to tau

entry_tau : (c d e k x y a b t : ℤ)
    → (c -ℤ e *ℤ k *ℤ x) *ℤ a +ℤ (d -ℤ e *ℤ k *ℤ y) *ℤ b +ℤ e *ℤ (pos 1 *ℤ t +ℤ k *ℤ (x *ℤ a +ℤ y *ℤ b)) ≡ c *ℤ a +ℤ d *ℤ b +ℤ e *ℤ t
entry_tau c d e k x y a b t =
    ring (c ∷ d ∷ e ∷ k ∷ x ∷ y ∷ a ∷ b ∷ t ∷ [])
    ((var 0 ⊝ var 2 ⊗ var 3 ⊗ var 4) ⊗ var 6 ⊕ (var 1 ⊝ var 2 ⊗ var 3 ⊗ var 5) ⊗ var 7 ⊕ var 2 ⊗ (num (pos 1) ⊗ var 8 ⊕ var 3 ⊗ (var 4 ⊗ var 6 ⊕ var 5 ⊗ var 7)))
    (var 0 ⊗ var 6 ⊕ var 1 ⊗ var 7 ⊕ var 2 ⊗ var 8) tt

spread_tau : (a b tau : Vector) (k x y : ℤ) (c : Vector)
    → combination (record { a = a; b = b; tau = combined (pos 1) tau k (combined x a y b) }) (record { x = c.x -ℤ c.z *ℤ k *ℤ x; y = c.y -ℤ c.z *ℤ k *ℤ y; z = c.z })
    ≡ combination (record { a = a; b = b; tau = tau }) c
unfolding plus multiple
spread_tau a b tau k x y c =
    vector_path (entry_tau c.x c.y c.z k x y a.x b.x tau.x) (entry_tau c.x c.y c.z k x y a.y b.y tau.y) (entry_tau c.x c.y c.z k x y a.z b.z tau.z)

still_above : (t k x y p q : ℤ) → p ≡ pos 0 → q ≡ pos 0 → pos 1 *ℤ t +ℤ k *ℤ (x *ℤ p +ℤ y *ℤ q) ≡ t
still_above t k x y p q e e' = (λ i. pos 1 *ℤ t +ℤ k *ℤ (x *ℤ e i +ℤ y *ℤ e' i)) ∙ ring (t ∷ k ∷ x ∷ y ∷ []) (num (pos 1) ⊗ var 0 ⊕ var 1 ⊗ (var 2 ⊗ num (pos 0) ⊕ var 3 ⊗ num (pos 0))) (var 0) tt

pub adapted_tau : (g : Listing) (r a b tau : Vector) → IsAdapted g r (record { a = a; b = b; tau = tau }) → (k x y : ℤ) (m u : Vector)
    → m ≡ combined x a y b → u ≡ combined (pos 1) tau k m → IsAdapted g r (record { a = a; b = b; tau = u })
adapted_tau g r a b tau h k x y m u e e' =
    subst (λ (t : Vector). IsAdapted g r (record { a = a; b = b; tau = t })) (sym (e' ∙ ap (combined (pos 1) tau k) e)) (record {
      basis = record {
        a_in = h.basis.a_in;
        b_in = h.basis.b_in;
        tau_in = combined_in g (pos 1) k tau (combined x a y b) h.basis.tau_in (combined_in g x y a b h.basis.a_in h.basis.b_in);
        spans = λ t inside. let (c, is) = h.basis.spans t inside in (record { x = c.x -ℤ c.z *ℤ k *ℤ x; y = c.y -ℤ c.z *ℤ k *ℤ y; z = c.z }, spread_tau a b tau k x y c ∙ is);
      };
      a_in_plane = h.a_in_plane;
      b_in_plane = h.b_in_plane;
      tau_above = subst (λ z. pos 0 <ℤ z)
          (sym (dot-combined r (pos 1) k tau (combined x a y b) ∙ (λ i. pos 1 *ℤ dot r tau +ℤ k *ℤ dot-combined r x y a b i)
          ∙ still_above (dot r tau) k x y (dot r a) (dot r b) h.a_in_plane h.b_in_plane)) h.tau_above;
    })

pub first_alone : (a b : Vector) → a ≡ combined (pos 1) a (pos 0) b
unfolding plus multiple
first_alone a b = vector_path (omega (arith, ints)) (omega (arith, ints)) (omega (arith, ints))

pub second_alone : (a b : Vector) → b ≡ combined (pos 0) a (pos 1) b
unfolding plus multiple
second_alone a b = vector_path (omega (arith, ints)) (omega (arith, ints)) (omega (arith, ints))
