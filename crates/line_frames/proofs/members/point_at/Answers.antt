-- By the index k, and where it is 0 by h.
use Rattle.std.proofs.Common.{◌≡◌, ℕ, ◌*◌, ℤ, pos, ◌-ℤ◌, ◌*ℤ◌, List, [], ◌∷◌, refl, sym, ap, subst, ◌∙◌, of_z, to_z, w64, lit<, lit≤}
use Rattle.std.specs.Prelude.{unsigned_abs}
use Rattle.fractions.specs.declared.part.TheConstants.{UNIT}
use Rattle.motions.specs.declared.miller.TheConstants.{INDEX}
use Rattle.motions.specs.Views.{row_of}
use Rattle.integers.specs.Size.{IsWithin}
use Rattle.integers.proofs.Coded.{again, again_is, code_fits, code_is, bound, code_within, coded}
use Rattle.integers.proofs.Ring.{IsWithin-more}
use Rattle.integers.proofs.Solver.{Expr, Expr.{var, ◌⊝◌, ◌⊗◌}}
use Rattle.integers.proofs.Sizes.{factor_within}
use Rattle.line_frames.proofs.Points.{point_by_quotient, point_without_second, quotient_of_point}
use Rattle.line_frames.proofs.members.point_at.Goals as goal

abbrev bounds : List ℕ
bounds = unsigned_abs INDEX ∷ unsigned_abs UNIT * unsigned_abs INDEX ∷ unsigned_abs UNIT ∷ []

abbrev product : Expr
product = var 0 ⊗ var 1

abbrev rest : Expr
rest = var 2 ⊝ product

pub overflow_mul-plane : goal.overflow_mul-plane
overflow_mul-plane c =
    let r = c.args.plane.now in
    code_fits bounds (r.h ∷ c.args.t ∷ c.args.d ∷ []) product tt (r.in_range.x, (c.requires.t, (c.requires.d, tt)))

pub overflow_sub-d : goal.overflow_sub-d
overflow_sub-d c =
    let r = c.args.plane.now in
    code_fits bounds (r.h ∷ c.args.t ∷ c.args.d ∷ []) rest tt (r.in_range.x, (c.requires.t, (c.requires.d, tt)))

pub quotient-requires-clause-small : goal.quotient-requires-clause-small
quotient-requires-clause-small c =
    let r = c.args.plane.now in
    IsWithin-more (code_within bounds (r.h ∷ c.args.t ∷ c.args.d ∷ []) rest tt (r.in_range.x, (c.requires.t, (c.requires.d, tt)))) (lit≤ tt)

pub returns-then-plane-eq0 : goal.returns-then-plane-eq0
returns-then-plane-eq0 c =
    let r = c.args.plane.now in
    point_without_second (row_of r) r.coprime c.requires.line c.args.t c.args.d _
    (sym (again_is r.k (unsigned_abs INDEX) r.in_range.y (lit< tt)) ∙ ap (to_z w64) c.if-plane-eq0.true)
    (code_is (unsigned_abs UNIT ∷ unsigned_abs INDEX ∷ []) (c.args.d ∷ r.h ∷ []) product tt (c.requires.d, (r.in_range.x, tt)))
    (again_is c.args.t (unsigned_abs UNIT * unsigned_abs INDEX) c.requires.t (lit< tt)) refl

-- what the code divides, and by what
module _ (k h t d : ℤ) (hk : IsWithin (unsigned_abs INDEX) k) (hh : IsWithin (unsigned_abs INDEX) h)
    (ht : IsWithin (unsigned_abs UNIT * unsigned_abs INDEX) t) (hd : IsWithin (unsigned_abs UNIT) d) where
  divided : again (coded (h ∷ t ∷ d ∷ []) rest) ≡ d -ℤ h *ℤ t
  divided = code_is bounds (h ∷ t ∷ d ∷ []) rest tt (hh, (ht, (hd, tt)))

  by : again k ≡ k
  by = again_is k (unsigned_abs INDEX) hk (lit< tt)

pub returns-in_err-y : goal.returns-in_err-y
returns-in_err-y c =
    let r = c.args.plane.now in
    rw c.from_residual.ensures (λ v p.
    c.in_err-y.ensures v.y (ap (λ x. x *ℤ v.y) (by r.k r.h c.args.t c.args.d r.in_range.y r.in_range.x c.requires.t c.requires.d)
    ∙ quotient_of_point (row_of r) r.coprime c.requires.line c.args.t c.args.d v (λ e. c.if-plane-eq0.false (ap (of_z w64) e)) p
    ∙ sym (divided r.k r.h c.args.t c.args.d r.in_range.y r.in_range.x c.requires.t c.requires.d)))

pub returns : goal.returns
returns c =
    let r = c.args.plane.now in
    let some : ¬ (r.k ≡ pos 0) = λ e. c.if-plane-eq0.false (ap (of_z w64) e) in
    let is : r.k *ℤ c.in_ok-y.y ≡ again (coded (r.h ∷ c.args.t ∷ c.args.d ∷ []) rest) =
    ap (λ x. x *ℤ c.in_ok-y.y) (sym (by r.k r.h c.args.t c.args.d r.in_range.y r.in_range.x c.requires.t c.requires.d)) ∙ c.in_ok-y.ensures in
    let small = factor_within (bound bounds rest) r.k c.in_ok-y.y some
    (subst (IsWithin (bound bounds rest)) (sym is) (code_within bounds (r.h ∷ c.args.t ∷ c.args.d ∷ []) rest tt (r.in_range.x, (c.requires.t, (c.requires.d, tt))))) in
    point_by_quotient (row_of r) r.coprime c.requires.line c.args.t c.args.d _ some
    (again_is c.args.t (unsigned_abs UNIT * unsigned_abs INDEX) c.requires.t (lit< tt))
    (ap (λ x. r.k *ℤ x) (again_is c.in_ok-y.y (bound bounds rest) small (lit< tt)) ∙ is
    ∙ divided r.k r.h c.args.t c.args.d r.in_range.y r.in_range.x c.requires.t c.requires.d)
    refl
