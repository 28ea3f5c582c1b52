use Rattle.std.proofs.Common.{◌*◌, map, take}
use Rattle.symmetry.specs.Sizes.{IsMatrixWithin}
use Rattle.motions.specs.Views.{motion_of, row_of}
use Rattle.plane_lattice.specs.Scanning.{scanning_ops}
use Rattle.reduction.specs.Bounds.{largest_columns}
use Rattle.reduction.specs.Forms.{form_matrix, IsSumOver}
use Rattle.reduction.proofs.form.form_over.Given as goal

abbrev pub invariant-loop-m : goal.invariant-loop-m
invariant-loop-m l = record {
  is : IsSumOver (scanning_ops (row_of l.plane) (map motion_of (take l.m-index l.ops))) (form_matrix l.form);
  small : IsMatrixWithin (l.m-index * largest_columns) (form_matrix l.form);
}
