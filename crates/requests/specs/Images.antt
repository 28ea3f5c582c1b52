-- The images of an orientation.
use Rattle.std.specs.Prelude.{◌≡◌, ℕ, List}
use Rattle.symmetry.specs.Vectors.{Vector}
use Rattle.symmetry.specs.Groups.{Listing}
use Rattle.orbits.specs.Orientations.{AreOrientations, IsWide}
use Rattle.report.specs.Texts.{images_text}

-- the text is that of the images of the orientation
pub record IsImagesAnswer (g : Listing) (row : Vector) (text : List ℕ) : Type 0 where
  pub rows : List Vector
  pub are_images : AreOrientations g row rows
  pub not_wide : ¬ IsWide g row
  pub is_text : text ≡ images_text rows
