-- The bounds of the numbers bound each step.
use Rattle.std.proofs.Common.{ℕ, ◌^◌, ◌∷◌, List, [], ℤ, T, FitsSigned, w64}
use Rattle.fractions.specs.declared.part.TheConstants.{UNIT}
use Rattle.integers.specs.Size.{IsWithin}
use Rattle.integers.proofs.Solver.{Expr, Expr.{var, num, ◌⊝◌, ◌⊗◌}}
use Rattle.integers.proofs.Coded.{coded, code_fits, code_is, is_bounded}
use Rattle.recognition.specs.declared.found_rod.TheConstants.{ROD_GRID}
use Rattle.recognition.proofs.rod_pairs.rest.Goals as goal

abbrev bounds : List ℕ
bounds = 1 ∷ 1 ∷ 96 ∷ 2 ^ 40 ∷ 2 ^ 40 ∷ []

abbrev apart : Expr
apart = var 3 ⊝ var 0 ⊗ var 4

abbrev moved : Expr
moved = var 2 ⊝ var 1 ⊗ var 2

module _ {n e z t u : ℤ} (hn : IsWithin 1 n) (he : IsWithin 1 e) (hz : IsWithin 96 z) (ht : IsWithin (2 ^ 40) t) (hu : IsWithin (2 ^ 40) u) where
  fits : (step : Expr) → T (is_bounded bounds step) → FitsSigned w64 (coded (n ∷ e ∷ z ∷ t ∷ u ∷ []) step)
  fits step test = code_fits bounds (n ∷ e ∷ z ∷ t ∷ u ∷ []) step test (hn, (he, (hz, (ht, (hu, tt)))))

pub overflow_mul-result : goal.overflow_mul-result
overflow_mul-result c = let h = c.requires in fits h.n h.e h.z h.t h.u (var 0 ⊗ var 4) tt

pub overflow_sub-result : goal.overflow_sub-result
overflow_sub-result c = let h = c.requires in fits h.n h.e h.z h.t h.u apart tt

pub overflow_mul-result-2 : goal.overflow_mul-result-2
overflow_mul-result-2 c = let h = c.requires in fits h.n h.e h.z h.t h.u (num ROD_GRID ⊗ apart) tt

pub overflow_mul-result-3 : goal.overflow_mul-result-3
overflow_mul-result-3 c = let h = c.requires in fits h.n h.e h.z h.t h.u (var 1 ⊗ var 2) tt

pub overflow_sub-result-2 : goal.overflow_sub-result-2
overflow_sub-result-2 c = let h = c.requires in fits h.n h.e h.z h.t h.u moved tt

pub overflow_mul-result-4 : goal.overflow_mul-result-4
overflow_mul-result-4 c = let h = c.requires in fits h.n h.e h.z h.t h.u (num UNIT ⊗ moved) tt

pub overflow_sub-result-3 : goal.overflow_sub-result-3
overflow_sub-result-3 c = let h = c.requires in fits h.n h.e h.z h.t h.u (num ROD_GRID ⊗ apart ⊝ num UNIT ⊗ moved) tt

pub returns : goal.returns
returns c =
    let h = c.requires in
    let a = c.args in
    code_is bounds (a.n ∷ a.e ∷ a.z ∷ a.t ∷ a.u ∷ []) (num ROD_GRID ⊗ apart ⊝ num UNIT ⊗ moved) tt (h.n, (h.e, (h.z, (h.t, (h.u, tt)))))
