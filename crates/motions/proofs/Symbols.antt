-- The solver for matrices: their two sides are written once, as matrices of expressions, and compared entry by entry.
use Rattle.std.proofs.Common.{◌≡◌, ℕ, ◌+◌, List, [], ◌∷◌, ℤ, pos, Bool, T, ◌&&◌}
use Rattle.integers.proofs.Solver.{Expr, Expr.{var, num, ◌⊕◌, ◌⊝◌, ◌⊗◌}, value, linear, is_linear, given}
use Rattle.integers.proofs.Booleans.{both}
use Rattle.symmetry.specs.Vectors.{Vector, Matrix}

pub record Row : Type 0 where
  pub x : Expr
  pub y : Expr
  pub z : Expr

pub record Grid : Type 0 where
  pub first : Row
  pub second : Row
  pub third : Row

-- ---- the operations of vectors and matrices, on expressions

abbrev pub dot_of : Row → Row → Expr
dot_of r v = r.x ⊗ v.x ⊕ r.y ⊗ v.y ⊕ r.z ⊗ v.z

abbrev pub cross_of : Row → Row → Row
cross_of v w = record { x = v.y ⊗ w.z ⊝ v.z ⊗ w.y; y = v.z ⊗ w.x ⊝ v.x ⊗ w.z; z = v.x ⊗ w.y ⊝ v.y ⊗ w.x }

abbrev pub columns_of : Row → Row → Row → Grid
columns_of a b c = record {
  first = record { x = a.x; y = b.x; z = c.x };
  second = record { x = a.y; y = b.y; z = c.y };
  third = record { x = a.z; y = b.z; z = c.z };
}

abbrev pub row_times_of : Row → Grid → Row
row_times_of r m = record {
  x = r.x ⊗ m.first.x ⊕ r.y ⊗ m.second.x ⊕ r.z ⊗ m.third.x;
  y = r.x ⊗ m.first.y ⊕ r.y ⊗ m.second.y ⊕ r.z ⊗ m.third.y;
  z = r.x ⊗ m.first.z ⊕ r.y ⊗ m.second.z ⊕ r.z ⊗ m.third.z;
}

abbrev pub product_of : Grid → Grid → Grid
product_of m n = record { first = row_times_of m.first n; second = row_times_of m.second n; third = row_times_of m.third n }

-- the matrix with c on its diagonal, and 0 elsewhere
abbrev pub diagonal : Expr → Grid
diagonal c = record {
  first = record { x = c; y = num (pos 0); z = num (pos 0) };
  second = record { x = num (pos 0); y = c; z = num (pos 0) };
  third = record { x = num (pos 0); y = num (pos 0); z = c };
}

-- ---- from numbers to variables and back

abbrev row_symbols : ℕ → Row
row_symbols k = record { x = var k; y = var (k + 1); z = var (k + 2) }

-- the matrix of the nine variables from k on
abbrev pub symbols : ℕ → Grid
symbols k = record { first = row_symbols k; second = row_symbols (k + 3); third = row_symbols (k + 6) }

abbrev row_list : Vector → List ℤ → List ℤ
row_list r l = r.x ∷ r.y ∷ r.z ∷ l

-- the nine numbers that these variables stand for
abbrev pub entries : Matrix → List ℤ → List ℤ
entries m l = row_list m.first (row_list m.second (row_list m.third l))

abbrev pub row_value : List ℤ → Row → Vector
row_value e r = record { x = value e r.x; y = value e r.y; z = value e r.z }

abbrev pub grid_value : List ℤ → Grid → Matrix
grid_value e m = record { first = row_value e m.first; second = row_value e m.second; third = row_value e m.third }

-- ---- equations

-- whether the entries of a and b differ by those of c, each times the difference of l and r
abbrev pub is_row_linear : Expr → Expr → Row → Row → Row → Bool
is_row_linear l r c a b =
    is_linear a.x b.x (given c.x l r ∷ []) && (is_linear a.y b.y (given c.y l r ∷ []) && is_linear a.z b.z (given c.z l r ∷ []))

abbrev pub is_grid_linear : Expr → Expr → Grid → Grid → Grid → Bool
is_grid_linear l r c a b =
    is_row_linear l r c.first a.first b.first && (is_row_linear l r c.second a.second b.second && is_row_linear l r c.third a.third b.third)

-- then they are equal where l and r are
module _ (e : List ℤ) (l r : Expr) (h : value e l ≡ value e r) where
  row_linear : (c a b : Row) → T (is_row_linear l r c a b) → row_value e a ≡ row_value e b
  row_linear c a b t =
      let p = both (is_linear a.x b.x (given c.x l r ∷ [])) (is_linear a.y b.y (given c.y l r ∷ []) && is_linear a.z b.z (given c.z l r ∷ [])) t in
      let q = both (is_linear a.y b.y (given c.y l r ∷ [])) (is_linear a.z b.z (given c.z l r ∷ [])) p.1 in
      λ i. record {
        x = linear e a.x b.x (given c.x l r ∷ []) p.0 (h, tt) i;
        y = linear e a.y b.y (given c.y l r ∷ []) q.0 (h, tt) i;
        z = linear e a.z b.z (given c.z l r ∷ []) q.1 (h, tt) i;
      }

  pub grid_linear : (c a b : Grid) → T (is_grid_linear l r c a b) → grid_value e a ≡ grid_value e b
  grid_linear c a b t =
      let p = both (is_row_linear l r c.first a.first b.first) (is_row_linear l r c.second a.second b.second && is_row_linear l r c.third a.third b.third) t in
      let q = both (is_row_linear l r c.second a.second b.second) (is_row_linear l r c.third a.third b.third) p.1 in
      λ i. record {
        first = row_linear c.first a.first b.first p.0 i;
        second = row_linear c.second a.second b.second q.0 i;
        third = row_linear c.third a.third b.third q.1 i;
      }
