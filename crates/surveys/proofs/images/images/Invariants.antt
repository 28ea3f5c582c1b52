-- The images under the operations so far.
use Rattle.std.proofs.Common.{◌*◌, ◌≤◌, map, take, vec_len}
use Rattle.motions.specs.Views.{motion_of, row_of, vector_of}
use Rattle.surveys.specs.Surveys.{ListsSet}
use Rattle.surveys.proofs.ImageLists.{IsImage}
use Rattle.surveys.proofs.images.images.Given as goal

abbrev pub invariant-loop-m : goal.invariant-loop-m
invariant-loop-m l =
    ListsSet (IsImage (row_of l.plane) (take l.m-index (map motion_of l.m-items))) (map vector_of l.rows.items) × (vec_len l.rows ≤ 2 * l.m-index)
