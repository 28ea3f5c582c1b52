-- Each generator of a layer type has an inverse.
use Rattle.std.proofs.Common.{◌≡◌, ℕ, ◌-◌, pos, Bool, true, ◌&&◌, if◌then◌else◌, [], length, Contains, inl, inr, refl, ap}
use Rattle.std.specs.Ordering.{int_eq}
use Rattle.std.specs.List.{list_all}
use Rattle.std.proofs.lemmas.Bool.{and_parts, cases_lt}
use Rattle.std.proofs.lemmas.List.{get_or_past}
use Rattle.std.proofs.lemmas.List.Elements.{All-contains}
use Rattle.std.proofs.lemmas.List.Sums.{AllPass-from_list_all}
use Rattle.quotient.specs.Kind.{IsInverse}
use Rattle.motions.specs.PlaneMatrices.{Matrix2, adjugate2, determinant2, image2, opposite2, opposite_adjugate2}
use Rattle.motions.specs.Layers.{PlanarMotion, planar_followed_by, planar_identity, same_planar}
use Rattle.motions.specs.Laws.LayerLaws.{same_planar-is}
use Rattle.layer_types.specs.Lattices.{layer_kind}
use Rattle.layer_types.specs.Rows.{Row, layer_row, layer_rows, primitive, with_motions}

-- the inverse of a motion whose determinant is 1 or -1
abbrev inverse_matrix : Matrix2 → Matrix2
inverse_matrix m = (if int_eq (determinant2 m) (pos 1) then adjugate2 m else opposite_adjugate2 m)

abbrev undoing : PlanarMotion → PlanarMotion
undoing m =
    let matrix = inverse_matrix m.matrix in
    record { matrix = matrix; side = m.side; translation = opposite2 (image2 matrix m.translation) }

abbrev is_undone : PlanarMotion → Bool
is_undone m = same_planar (planar_followed_by m (undoing m)) planar_identity && same_planar (planar_followed_by (undoing m) m) planar_identity

abbrev all_undone : Row PlanarMotion → Bool
all_undone r = list_all is_undone r.generators

every_row : list_all (λ row. all_undone (with_motions row)) layer_rows ≡ true
unfolding layer_rows
every_row = refl

row_undone : (n : ℕ) → all_undone (layer_row n) ≡ true
unfolding layer_row
row_undone n = elim (cases_lt (n - 1) (length layer_rows)) [
  | inl h ↦ AllPass-from_list_all (λ row. all_undone (with_motions row)) layer_rows every_row (n - 1) (primitive "" []) h
  | inr h ↦ ap (λ row. all_undone (with_motions row)) (get_or_past layer_rows (n - 1) (primitive "" []) h)
]

pub generator_undone : (n : ℕ) (g : PlanarMotion) → Contains (layer_row n).generators g → (h : PlanarMotion) × IsInverse (layer_kind (layer_row n).centred) g h
generator_undone n g c =
    let e = All-contains (λ m. is_undone m ≡ true) (layer_row n).generators g (AllPass-from_list_all is_undone (layer_row n).generators (row_undone n)) c in
    let (after, before) = and_parts (same_planar (planar_followed_by g (undoing g)) planar_identity) (same_planar (planar_followed_by (undoing g) g) planar_identity) e in (
      undoing g,
      record {
        after = (same_planar-is (planar_followed_by g (undoing g)) planar_identity).0 after;
        before = (same_planar-is (planar_followed_by (undoing g) g) planar_identity).0 before;
      },
    )
