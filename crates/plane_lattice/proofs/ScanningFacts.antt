-- The operations of a group that keep the orientation are its scanning operations.
use Rattle.std.proofs.Common.{inl, ◌<◌, length}
use Rattle.std.specs.List.{AllPairs}
use Rattle.symmetry.specs.Vectors.{Vector}
use Rattle.symmetry.specs.Groups.{Listing, IsGroup, SameModulo}
use Rattle.symmetry.specs.Frames.{KeepsOrientation}
use Rattle.symmetry.specs.Lists.{AreScanning}
use Rattle.symmetry.proofs.KeptOps.{kept_listed, kept_once, some_kept}
use Rattle.symmetry.proofs.MatrixLaws.{row_times-unit}
use Rattle.symmetry.proofs.Signs.{same_orientation}
use Rattle.plane_lattice.specs.Scanning.{keeps_orientation, scanning_ops}
use Rattle.plane_lattice.proofs.Scanning.{keeps_true, true_keeps}

pub scanning_ops_are : (g : Listing) (r : Vector) → AllPairs (λ m n. ¬ SameModulo g m n) g.ops → AreScanning g r (scanning_ops r g.ops)
scanning_ops_are g r apart = record {
  listed = kept_listed g (keeps_orientation r) (KeepsOrientation r) (true_keeps r);
  once = kept_once g (keeps_orientation r) (KeepsOrientation r) (keeps_true r) (same_orientation r) apart;
}

-- a group has a scanning operation
pub some_scanning : (g : Listing) (r : Vector) → IsGroup g → 0 < length (scanning_ops r g.ops)
some_scanning g r group =
    some_kept g (keeps_orientation r) (KeepsOrientation r) (keeps_true r) (same_orientation r) group (inl (row_times-unit r))
