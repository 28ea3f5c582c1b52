use Rattle.symmetry.specs.Groups.{Listing}
use Rattle.symmetry.proofs.Alike.{alike_refl}
use Rattle.plane_groups.specs.PlaneGroups.{IsFlatGroup}
use Rattle.line_scans.proofs.PlaneBridges.{IsFlatModulo, all_by_lines, block_member, flat_modulo, special_by_line, stabiliser_by_line}
use Rattle.line_scans.proofs.laws.line_stabilisers_as_plane_stabilisers.Goals as goal

own : (g : Listing) → IsFlatGroup g → IsFlatModulo g
own g flat = flat_modulo g g (alike_refl g) flat

pub returns : goal.returns
returns c = record {
  members = λ g m flat. ((block_member g (own g flat) m).1, (block_member g (own g flat) m).0);
  each = λ g r s m flat. stabiliser_by_line g (own g flat) r s m;
  every = λ g r m flat. all_by_lines g (own g flat) r m;
  special = λ g r s flat. special_by_line g (own g flat) r s;
}
