use Rattle.symmetry.proofs.PlaneImages.{image_by_row}
use Rattle.symmetry.proofs.planes.image_by_row.Goals as goal

pub returns : goal.returns
returns c = image_by_row
