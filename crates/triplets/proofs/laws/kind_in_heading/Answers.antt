use Rattle.triplets.proofs.HeadingLaws.{kind_in_heading}
use Rattle.triplets.proofs.laws.kind_in_heading.Goals as goal

pub returns : goal.returns
returns c = kind_in_heading
