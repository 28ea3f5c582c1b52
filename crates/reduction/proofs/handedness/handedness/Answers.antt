-- The bounds of the indices and of the minors bound each step.
use Rattle.std.proofs.Common.{◌≡◌, ℕ, T, ℤ, ◌+ℤ◌, ◌-ℤ◌, ◌*ℤ◌, List, [], ◌∷◌, sym, subst, ◌∙◌, lit<, FitsSigned}
use Rattle.std.specs.Int.{w128}
use Rattle.std.specs.Prelude.{unsigned_abs}
use Rattle.integers.specs.Size.{IsWithin}
use Rattle.integers.proofs.Coded.{again, again_is, AllWithinBounds}
use Rattle.integers.proofs.Solver.{Expr, Expr.{var, ◌⊕◌, ◌⊗◌}}
use Rattle.integers.proofs.Wide.{wide, code_fits, code_is, coded, is_bounded}
use Rattle.symmetry.specs.Vectors.{Vector, cross, dot}
use Rattle.motions.specs.Views.{vector_of}
use Rattle.motions.specs.declared.miller.TheConstants.{INDEX}
use Rattle.reduction.specs.Bounds.{largest_minor, largest_short}
use Rattle.reduction.proofs.FormPassed.{short_again}
use Rattle.reduction.proofs.handedness.handedness.Goals as goal

index_within : (x : ℤ) → IsWithin (unsigned_abs INDEX) x → IsWithin (unsigned_abs INDEX) (again x)
index_within x h = let P : ℤ → Type 0 = IsWithin (unsigned_abs INDEX) in subst P (sym (again_is x (unsigned_abs INDEX) h (lit< tt))) h

abbrev bounds : List ℕ
bounds = unsigned_abs INDEX ∷ unsigned_abs INDEX ∷ unsigned_abs INDEX ∷ largest_minor ∷ largest_minor ∷ largest_minor ∷ []

abbrev two : Expr
two = var 0 ⊗ var 3 ⊕ var 1 ⊗ var 4

abbrev whole : Expr
whole = two ⊕ var 2 ⊗ var 5

module _ (h k l x y z : ℤ) (hh : IsWithin (unsigned_abs INDEX) h) (hk : IsWithin (unsigned_abs INDEX) k) (hl : IsWithin (unsigned_abs INDEX) l)
    (hx : IsWithin largest_minor x) (hy : IsWithin largest_minor y) (hz : IsWithin largest_minor z) where
  abbrev numbers : List ℤ
  numbers = again h ∷ again k ∷ again l ∷ x ∷ y ∷ z ∷ []

  numbers_small : AllWithinBounds bounds numbers
  numbers_small = (index_within h hh, (index_within k hk, (index_within l hl, (hx, (hy, (hz, tt))))))

  fits : (e : Expr) → T (is_bounded bounds e) → FitsSigned w128 (coded numbers e)
  fits e t = code_fits bounds numbers e t numbers_small

  is : wide (coded numbers whole) ≡ h *ℤ x +ℤ k *ℤ y +ℤ l *ℤ z
  is = code_is bounds numbers whole tt numbers_small
      ∙ (λ i. again_is h (unsigned_abs INDEX) hh (lit< tt) i *ℤ x +ℤ again_is k (unsigned_abs INDEX) hk (lit< tt) i *ℤ y +ℤ again_is l (unsigned_abs INDEX) hl (lit< tt) i *ℤ z)

minor_is : (m p q s t : ℤ) → IsWithin largest_short p → IsWithin largest_short q → IsWithin largest_short s → IsWithin largest_short t
    → m ≡ again p *ℤ again t -ℤ again q *ℤ again s → m ≡ p *ℤ t -ℤ q *ℤ s
minor_is m p q s t hp hq hs ht e = e ∙ (λ i. short_again p hp i *ℤ short_again t ht i -ℤ short_again q hq i *ℤ short_again s hs i)

pub overflow_mul-result : goal.overflow_mul-result
overflow_mul-result c =
    let r = c.args.plane.now in
    code_fits (unsigned_abs INDEX ∷ largest_minor ∷ []) (again r.h ∷ c.minor.result ∷ []) (var 0 ⊗ var 1) tt (index_within r.h r.in_range.x, (c.minor.ensures.small, tt))

pub overflow_mul-result-2 : goal.overflow_mul-result-2
overflow_mul-result-2 c =
    let r = c.args.plane.now in
    code_fits (unsigned_abs INDEX ∷ largest_minor ∷ []) (again r.k ∷ c.minor-2.result ∷ []) (var 0 ⊗ var 1) tt (index_within r.k r.in_range.y, (c.minor-2.ensures.small, tt))

pub overflow_mul-result-3 : goal.overflow_mul-result-3
overflow_mul-result-3 c =
    let r = c.args.plane.now in
    code_fits (unsigned_abs INDEX ∷ largest_minor ∷ []) (again r.l ∷ c.minor-3.result ∷ []) (var 0 ⊗ var 1) tt (index_within r.l r.in_range.z, (c.minor-3.ensures.small, tt))

pub overflow_add-result : goal.overflow_add-result
overflow_add-result c =
    let r = c.args.plane.now in
    code_fits (unsigned_abs INDEX ∷ unsigned_abs INDEX ∷ largest_minor ∷ largest_minor ∷ []) (again r.h ∷ again r.k ∷ c.minor.result ∷ c.minor-2.result ∷ [])
    (var 0 ⊗ var 2 ⊕ var 1 ⊗ var 3) tt (index_within r.h r.in_range.x, (index_within r.k r.in_range.y, (c.minor.ensures.small, (c.minor-2.ensures.small, tt))))

pub overflow_add-result-2 : goal.overflow_add-result-2
overflow_add-result-2 c =
    let r = c.args.plane.now in
    fits r.h r.k r.l c.minor.result c.minor-2.result c.minor-3.result r.in_range.x r.in_range.y r.in_range.z
    c.minor.ensures.small c.minor-2.ensures.small c.minor-3.ensures.small whole tt

pub returns : goal.returns
unfolding dot cross
returns c =
    let r = c.args.plane.now in
    let a : Vector = vector_of c.args.a.now in
    let b : Vector = vector_of c.args.b.now in
    is r.h r.k r.l c.minor.result c.minor-2.result c.minor-3.result r.in_range.x r.in_range.y r.in_range.z
    c.minor.ensures.small c.minor-2.ensures.small c.minor-3.ensures.small
    ∙ (λ i. r.h *ℤ minor_is c.minor.result a.y a.z b.y b.z c.requires.a.y c.requires.a.z c.requires.b.y c.requires.b.z c.minor.ensures.is i
    +ℤ r.k *ℤ minor_is c.minor-2.result a.z a.x b.z b.x c.requires.a.z c.requires.a.x c.requires.b.z c.requires.b.x c.minor-2.ensures.is i
    +ℤ r.l *ℤ minor_is c.minor-3.result a.x a.y b.x b.y c.requires.a.x c.requires.a.y c.requires.b.x c.requires.b.y c.minor-3.ensures.is i)
