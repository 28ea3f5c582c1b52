-- What a frame is that `Frame::make` gives for a group.
use Rattle.std.proofs.Common.{◌≡◌, sym, subst}
use Rattle.symmetry.specs.Frames.{IsFrame, IsSkewed}
use Rattle.motions.specs.BasisView.{basis_of}
use Rattle.motions.specs.Views.{parts, row_of}
use Rattle.motions.specs.declared.basis.Basis.{Basis}
use Rattle.motions.specs.declared.miller.Miller.{Miller}
use Rattle.closure.specs.declared.group.Group.{Group}
use Rattle.closure.specs.Groups.{group_listing}
use Rattle.plane_lattice.specs.declared.frame.Frame.{Frame}
use Rattle.plane_lattice.specs.FrameOf.{IsFrameOf, IsMadeFor}
use Rattle.plane_lattice.specs.FrameView.{basis_of_frame}

module _ (group : Group) (frame : Frame) (made : IsMadeFor group frame) where
  abbrev plane : Miller
  plane = made.0

  abbrev basis : Basis
  basis = made.1

  abbrev of : IsFrameOf (group_listing group) plane basis frame
  of = made.2

  same_basis : basis_of basis ≡ basis_of_frame frame
  same_basis = λ i. record { a = parts (sym of.a i); b = parts (sym of.b i); tau = parts (sym of.tau i) }

  pub made_frame : IsFrame (group_listing group) (row_of frame.plane) (basis_of_frame frame)
  made_frame =
      let g = group_listing group in
      subst (IsFrame g (row_of frame.plane)) same_basis (subst (λ p. IsFrame g (row_of p) (basis_of basis)) (sym of.plane) of.is_frame)

  pub made_not_skewed : ¬ IsSkewed (group_listing group) (row_of frame.plane) (basis_of_frame frame)
  made_not_skewed =
      let g = group_listing group in
      subst (λ f. ¬ IsSkewed g (row_of frame.plane) f) same_basis (subst (λ p. ¬ IsSkewed g (row_of p) (basis_of basis)) (sym of.plane) of.not_skewed)
