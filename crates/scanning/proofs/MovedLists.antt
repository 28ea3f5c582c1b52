-- Motions that stay or are raised by 2 k tau are those of the special height, conjugated by k tau and brought home.
use Rattle.std.proofs.Common.{◌≡◌, ℤ, pos, ◌*ℤ◌, ◌⊎◌, inl, inr, List, refl, sym, ◌∙◌, subst, arith}
use Rattle.std.specs.List.{AllZip}
use Rattle.std.proofs.lemmas.Slice.Zip.{AllZip-long}
use Rattle.symmetry.specs.Vectors.{Vector, dot, multiple, opposite, row_times}
use Rattle.symmetry.specs.Motions.{Motion, identity}
use Rattle.symmetry.specs.Planes.{Height, IsCoprime, IsHeight, KeepsRow, TurnsRow}
use Rattle.symmetry.specs.Groups.{Listing, IsGroup, IsMember, InStabiliser, SameModulo}
use Rattle.symmetry.specs.Frames.{Basis, DiffersInPlane, IsAtHome, IsFrame}
use Rattle.symmetry.specs.Lists.{IsListOf, motion_at}
use Rattle.symmetry.specs.Scans.{AreConjugated, conjugated}
use Rattle.symmetry.proofs.Conjugates.{conjugated_is, lifted, lifted_keeps, lifted_same, lifted_turn}
use Rattle.symmetry.proofs.FrameLaws.{tau_multiple}
use Rattle.symmetry.proofs.LatticeLaws.{same_refl, same_sym, same_trans}
use Rattle.symmetry.proofs.PlaneRows.{stabiliser_by_row}
use Rattle.symmetry.proofs.VectorLaws.{dot-minus_same}
use Rattle.quotient.proofs.Zips.{zip_at}
use Rattle.scanning.specs.Conjugates.{IsMoved}
use Rattle.scanning.proofs.RaisedMotions.{raised, raised_at_home, raised_shift, raised_same}

module _ (g : Listing) (r : Vector) (f : Basis) (frame : IsFrame g r f) (group : IsGroup g) (k : ℤ) where
  abbrev t : Vector
  t = multiple k f.tau

  -- sameness and one (hkl).w
  in_plane : (m n : Motion) → SameModulo g m n → dot r m.translation ≡ dot r n.translation → DiffersInPlane g r m n
  in_plane m n same shift = record { matrix = same.matrix; translation = (same.translation, dot-minus_same r m.translation n.translation shift) }

  kept_is_conjugated : (m : Motion) → IsMember g m → KeepsRow r m → DiffersInPlane g r (lifted t m) m
  kept_is_conjugated m member keeps = in_plane (lifted t m) m (lifted_same g group t (tau_multiple g r f frame k) m member) ((lifted_keeps r f k m keeps).1 ∙ sym keeps.1)

  turned_is_conjugated : (m : Motion) → IsMember g m → row_times r m.matrix ≡ opposite r → DiffersInPlane g r (lifted t m) (raised f (pos 2 *ℤ k) m)
  turned_is_conjugated m member row =
      let up = raised f (pos 2 *ℤ k) m in
      in_plane (lifted t m) up
      (same_trans g (lifted t m) m up (lifted_same g group t (tau_multiple g r f frame k) m member)
      (same_sym g up m (raised_same g r f frame (pos 2 *ℤ k) m m m (same_refl g m) refl (same_refl g m).translation)))
      (lifted_turn r f k m row ∙ sym (raised_shift r f (pos 2 *ℤ k) m))

  moved_is_conjugated : (s : Height) (m n : Motion) → IsMember g m → IsAtHome f m → KeepsRow r m ⊎ TurnsRow r s m → IsMoved r f k m n
      → DiffersInPlane g r (conjugated t m) n × IsAtHome f n
  moved_is_conjugated s m n member home (inl keeps) moved =
      let P : Motion → Type 0 = λ x. DiffersInPlane g r (conjugated t m) x × IsAtHome f x in
      subst P (sym (moved.kept keeps.0))
      (subst (λ x. DiffersInPlane g r x m) (sym (conjugated_is t m)) (kept_is_conjugated m member keeps), home)
  moved_is_conjugated s m n member home (inr turns) moved =
      let P : Motion → Type 0 = λ x. DiffersInPlane g r (conjugated t m) x × IsAtHome f x in
      let up = raised f (pos 2 *ℤ k) m in
      subst P (sym (moved.turned turns.0))
      (subst (λ x. DiffersInPlane g r x up) (sym (conjugated_is t m)) (turned_is_conjugated m member turns.0), raised_at_home f (pos 2 *ℤ k) m home)

  pub moved_are_conjugated : IsCoprime r → (s : Height) → IsHeight s → (ms ns : List Motion)
      → IsListOf (SameModulo g) g.ops (IsAtHome f) (InStabiliser g r s) ms → AllZip (IsMoved r f k) ms ns → AreConjugated g r f t ms ns
  moved_are_conjugated coprime s high ms ns list zip = record {
    count = AllZip-long (IsMoved r f k) ms ns zip;
    each = λ i h.
        let m = motion_at ms i in
        let is = list.listed i h in
        let long = AllZip-long (IsMoved r f k) ms ns zip in
        moved_is_conjugated s m (motion_at ns i) is.0.0 is.1 ((stabiliser_by_row g r s m group coprime high).0 is.0).1
        (zip_at (IsMoved r f k) ms ns zip i identity identity (omega arith));
  }
