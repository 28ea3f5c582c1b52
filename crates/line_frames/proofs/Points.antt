-- Vectors of the plane, told by their height and one coordinate.
use Rattle.std.proofs.Common.{◌≡◌, ◌⊎◌, inl, inr, ℤ, pos, negsuc, ◌-ℤ◌, ◌*ℤ◌, Bool, true, false, cond, [], ◌∷◌, refl, sym, ap, ◌∙◌}
use Rattle.std.specs.Ordering.{int_eq}
use Rattle.std.proofs.lemmas.Bool.Decides.{Decides-int_eq}
use Rattle.integers.proofs.Ring.{mul-eq-one, mul_left_cancel}
use Rattle.integers.proofs.Solver.{Expr.{var, num, ◌⊕◌, ◌⊝◌, ◌⊗◌}, linear, given}
use Rattle.integers.proofs.Order.{zero_or_not}
use Rattle.symmetry.specs.Vectors.{Vector, dot}
use Rattle.symmetry.specs.Planes.{IsCoprime}
use Rattle.symmetry.proofs.Coprime.{unit_column}
use Rattle.symmetry.proofs.VectorLaws.{vector_path}
use Rattle.line_frames.specs.Searches.{coordinate, IsPointAt}
use Rattle.line_frames.proofs.Senses.{first_is_some}

-- ---- the coordinate

pub coordinate_y : (r v : Vector) → r.y ≡ pos 0 → coordinate r v ≡ v.y
coordinate_y r v e = ap (λ b. cond b v.y v.x) ((Decides-int_eq r.y (pos 0)).1 e)

pub coordinate_x : (r v : Vector) → ¬ (r.y ≡ pos 0) → coordinate r v ≡ v.x
coordinate_x r v n = go (int_eq r.y (pos 0)) refl
  where
    go : (b : Bool) → int_eq r.y (pos 0) ≡ b → cond b v.y v.x ≡ v.x
    go true e = absurd (n ((Decides-int_eq r.y (pos 0)).0 e))
    go false e = refl

-- ---- the vector at a height with a coordinate

module _ (r : Vector) (coprime : IsCoprime r) (line : r.z ≡ pos 0) where
  -- without k, h is 1 or -1
  pub first_squared : r.y ≡ pos 0 → r.x *ℤ r.x ≡ pos 1
  unfolding dot
  first_squared y =
      let (u, one) = unit_column r coprime in
      go r.x u.x (mul-eq-one u.x r.x (linear (r.x ∷ r.y ∷ r.z ∷ u.x ∷ u.y ∷ u.z ∷ []) (var 3 ⊗ var 0) (num (pos 1))
      (given (num (pos 1)) (var 0 ⊗ var 3 ⊕ var 1 ⊗ var 4 ⊕ var 2 ⊗ var 5) (num (pos 1)) ∷ given (num (pos 0) ⊝ var 4) (var 1) (num (pos 0)) ∷ given (num (pos 0) ⊝ var 5) (var 2) (num (pos 0)) ∷ [])
      tt (one, (y, (line, tt)))))
    where
      go : (x u : ℤ) → (x ≡ pos 1) ⊎ (x ≡ negsuc 0) → x *ℤ x ≡ pos 1
      go x u (inl e) = λ i. e i *ℤ e i
      go x u (inr e) = λ i. e i *ℤ e i

  pub point_without_second : (t d : ℤ) (v : Vector) → r.y ≡ pos 0 → v.x ≡ d *ℤ r.x → v.y ≡ t → v.z ≡ pos 0 → IsPointAt r t d v
  unfolding dot
  point_without_second t d v y x_is y_is z_is = record {
    flat = z_is;
    gives = linear (r.x ∷ r.y ∷ r.z ∷ v.x ∷ v.y ∷ v.z ∷ d ∷ []) (var 0 ⊗ var 3 ⊕ var 1 ⊗ var 4 ⊕ var 2 ⊗ var 5) (var 6)
        (given (var 0) (var 3) (var 6 ⊗ var 0) ∷ given (var 4) (var 1) (num (pos 0)) ∷ given (var 5) (var 2) (num (pos 0)) ∷ given (var 6) (var 0 ⊗ var 0) (num (pos 1)) ∷ [])
        tt (x_is, (y, (line, (first_squared y, tt))));
    at = coordinate_y r v y ∙ y_is;
  }

  pub point_by_quotient : (t d : ℤ) (v : Vector) → ¬ (r.y ≡ pos 0) → v.x ≡ t → r.y *ℤ v.y ≡ d -ℤ r.x *ℤ t → v.z ≡ pos 0 → IsPointAt r t d v
  unfolding dot
  point_by_quotient t d v n x_is y_is z_is = record {
    flat = z_is;
    gives = linear (r.x ∷ r.y ∷ r.z ∷ v.x ∷ v.y ∷ v.z ∷ d ∷ t ∷ []) (var 0 ⊗ var 3 ⊕ var 1 ⊗ var 4 ⊕ var 2 ⊗ var 5) (var 6)
        (given (var 0) (var 3) (var 7) ∷ given (num (pos 1)) (var 1 ⊗ var 4) (var 6 ⊝ var 0 ⊗ var 7) ∷ given (var 5) (var 2) (num (pos 0)) ∷ [])
        tt (x_is, (y_is, (line, tt)));
    at = coordinate_x r v n ∙ x_is;
  }

  pub quotient_of_point : (t d : ℤ) (v : Vector) → ¬ (r.y ≡ pos 0) → IsPointAt r t d v → r.y *ℤ v.y ≡ d -ℤ r.x *ℤ t
  unfolding dot
  quotient_of_point t d v n p =
      let x_is : v.x ≡ t = sym (coordinate_x r v n) ∙ p.at in
      linear (r.x ∷ r.y ∷ r.z ∷ v.x ∷ v.y ∷ v.z ∷ d ∷ t ∷ []) (var 1 ⊗ var 4) (var 6 ⊝ var 0 ⊗ var 7)
      (given (num (pos 0) ⊝ var 0) (var 3) (var 7) ∷ given (num (pos 1)) (var 0 ⊗ var 3 ⊕ var 1 ⊗ var 4 ⊕ var 2 ⊗ var 5) (var 6) ∷ given (num (pos 0) ⊝ var 5) (var 2) (num (pos 0)) ∷ [])
      tt (x_is, (p.gives, (line, tt)))

  first_of_point : (t d : ℤ) (v : Vector) → r.y ≡ pos 0 → IsPointAt r t d v → r.x *ℤ v.x ≡ d
  unfolding dot
  first_of_point t d v y p =
      linear (r.x ∷ r.y ∷ r.z ∷ v.x ∷ v.y ∷ v.z ∷ d ∷ []) (var 0 ⊗ var 3) (var 6)
      (given (num (pos 0) ⊝ var 4) (var 1) (num (pos 0)) ∷ given (num (pos 1)) (var 0 ⊗ var 3 ⊕ var 1 ⊗ var 4 ⊕ var 2 ⊗ var 5) (var 6) ∷ given (num (pos 0) ⊝ var 5) (var 2) (num (pos 0)) ∷ [])
      tt (y, (p.gives, (line, tt)))

  -- there is one at the most
  pub one_point : (t d : ℤ) (v w : Vector) → IsPointAt r t d v → IsPointAt r t d w → v ≡ w
  one_point t d v w p q = by (zero_or_not r.y)
    where
      by : (r.y ≡ pos 0) ⊎ (¬ (r.y ≡ pos 0)) → v ≡ w
      by (inl y) =
          vector_path (mul_left_cancel r.x v.x w.x (first_is_some r coprime line y) (first_of_point t d v y p ∙ sym (first_of_point t d w y q)))
          (sym (coordinate_y r v y) ∙ p.at ∙ sym q.at ∙ coordinate_y r w y) (p.flat ∙ sym q.flat)
      by (inr n) =
          vector_path (sym (coordinate_x r v n) ∙ p.at ∙ sym q.at ∙ coordinate_x r w n)
          (mul_left_cancel r.y v.y w.y n (quotient_of_point t d v n p ∙ sym (quotient_of_point t d w n q))) (p.flat ∙ sym q.flat)
