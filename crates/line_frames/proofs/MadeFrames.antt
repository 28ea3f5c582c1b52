-- What the code makes of the sign and of the least multiple is the frame of the lines.
use Rattle.std.proofs.Common.{◌≡◌, ◌⊎◌, inl, inr, ℤ, pos, ◌-ℤ◌, ◌*ℤ◌, List, [], ◌∷◌, sym, ap, subst, ◌∙◌, arith}
use Rattle.std.specs.Prelude.{unsigned_abs}
use Rattle.std.specs.List.{AllPairs}
use Rattle.std.proofs.lemmas.Int.{ints}
use Rattle.fractions.specs.declared.part.Part.{Part}
use Rattle.fractions.specs.declared.part.TheConstants.{UNIT}
use Rattle.fractions.specs.declared.ratio.Ratio.{Ratio}
use Rattle.integers.specs.Size.{IsWithin}
use Rattle.integers.proofs.Coded.{again, code_is}
use Rattle.integers.proofs.Ring.{IsWithin-mul}
use Rattle.integers.proofs.Solver.{Expr.{var, num, ◌⊝◌, ◌⊗◌}}
use Rattle.symmetry.specs.Vectors.{Vector, dot, multiple, opposite}
use Rattle.symmetry.specs.Groups.{Listing, IsGroup, SameModulo, third_edge}
use Rattle.symmetry.specs.Sizes.{IsVectorWithin}
use Rattle.symmetry.specs.Frames.{Basis, IsFrame, IsPeriod, mean_of}
use Rattle.symmetry.specs.Listings.{AreAlike}
use Rattle.symmetry.specs.HeightMotions.{IsSign}
use Rattle.symmetry.proofs.Alike.{period_from}
use Rattle.symmetry.proofs.FrameLaws.{frame_period}
use Rattle.symmetry.proofs.VectorLaws.{vector_path, multiple-one}
use Rattle.motions.specs.Views.{parts, row_of}
use Rattle.motions.specs.declared.miller.Miller.{Miller}
use Rattle.plane_lattice.specs.Bounds.{largest_entry}
use Rattle.plane_lattice.specs.Coordinates.{vectors}
use Rattle.plane_lattice.specs.Scanning.{scanning_ops, IsPointOf}
use Rattle.plane_lattice.proofs.ScanningFacts.{scanning_ops_are, some_scanning}
use Rattle.line_frames.specs.Lines.{first_two, IsLineFrame}
use Rattle.plane_groups.specs.PlaneGroups.{IsFlatGroup}
use Rattle.line_frames.specs.Searches.{along_lines, IsFirstAbove, IsForwardAlong, IsMeanUp, IsRepeat, IsSense}
use Rattle.line_frames.proofs.AlikeLines.{line_frame_from}
use Rattle.line_frames.proofs.Bases.{across, frame}
use Rattle.line_frames.proofs.Forward.{a_forward}
use Rattle.line_frames.proofs.LineFacts.{line_frame}
use Rattle.line_frames.proofs.MirroredMeans.{mean_is}
use Rattle.line_frames.proofs.TauSizes.{tau_within}

sign_within : (e : ℤ) → IsSign e → IsWithin 1 e
sign_within e (inl is) = record { most = omega (arith, ints, is) }
sign_within e (inr is) = record { most = omega (arith, ints, is) }

-- the array that the code makes for b
abbrev pub third_parts : ℤ → List Part
third_parts e = record { 0 = pos 0 } ∷ record { 0 = pos 0 } ∷ record { 0 = again (again (pos 0 -ℤ again e) *ℤ UNIT) } ∷ []

module _ (e : ℤ) (sign : IsSign e) where
  pub third_is : parts (third_parts e) ≡ across e
  unfolding multiple
  third_is = vector_path (omega (arith, ints)) (omega (arith, ints)) (code_is (1 ∷ []) (e ∷ []) ((num (pos 0) ⊝ var 0) ⊗ num UNIT) tt (sign_within e sign, tt))

  pub third_across : (parts (third_parts e) ≡ third_edge) ⊎ (parts (third_parts e) ≡ opposite third_edge)
  third_across = by sign
    where
      by : IsSign e → (parts (third_parts e) ≡ third_edge) ⊎ (parts (third_parts e) ≡ opposite third_edge)
      by (inl is) = inr (third_is ∙ ap across is)
      by (inr is) = inl (third_is ∙ ap across is ∙ multiple-one third_edge)

  pub third_within : IsVectorWithin largest_entry (parts (third_parts e))
  unfolding multiple
  third_within =
      let z : again (again (pos 0 -ℤ again e) *ℤ UNIT) ≡ (pos 0 -ℤ e) *ℤ UNIT = ap (λ (v : Vector). v.z) third_is in
      let within = (sign_within e sign).most in
      record { x = record { most = omega arith }; y = record { most = omega arith }; z = record { most = omega (arith, ints, z, within) } }

module _ (g : Listing) (plane : Miller) (line : plane.l ≡ pos 0) (n e : ℤ) (repeat : IsRepeat g (row_of plane) n) (sign : IsSign e) (sense : IsSense (row_of plane) e)
    (a : List Part) (a_code : parts a ≡ along_lines (row_of plane) (again (again e *ℤ again n))) where
  abbrev r : Vector
  r = row_of plane

  n_within : IsWithin (unsigned_abs UNIT) n
  n_within = let from = repeat.from in let most = repeat.most in record { most = omega (arith, ints, from, most) }

  pub a_is : parts a ≡ along_lines r (e *ℤ n)
  a_is = a_code ∙ ap (along_lines r) (code_is (1 ∷ unsigned_abs UNIT ∷ []) (e ∷ n ∷ []) (var 0 ⊗ var 1) tt (sign_within e sign, (n_within, tt)))

  forward : IsForwardAlong g r (along_lines r (e *ℤ n))
  forward = a_forward g r n e repeat sign sense plane.in_range.x plane.in_range.y

  pub parts_forward : IsForwardAlong g r (parts a)
  parts_forward = subst (IsForwardAlong g r) (sym a_is) forward

  module _ (tau : List Part) (first : IsFirstAbove g r (parts a) (parts tau)) where
    first_above : IsFirstAbove g r (along_lines r (e *ℤ n)) (parts tau)
    first_above = subst (λ v. IsFirstAbove g r v (parts tau)) a_is first

    pub tau_small : IsVectorWithin largest_entry (parts tau)
    tau_small =
        tau_within g r plane.coprime line (e *ℤ n) (IsWithin-mul (sign_within e sign) n_within) plane.in_range.x forward (parts tau) first_above

    abbrev basis : Basis
    basis = vectors a (third_parts e) tau

    pub made_frame : IsFlatGroup g → IsFrame g r basis
    made_frame flat =
        subst (IsFrame g r) (λ i. record { a = sym a_is i; b = sym (third_is e sign) i; tau = parts tau })
        (frame g r plane.coprime line n e repeat sign (parts tau) first_above flat.heights)

    made_line_frame : IsFlatGroup g → IsLineFrame g (first_two r) (first_two (parts a)) (first_two (parts tau)) (dot r (parts tau))
    made_line_frame flat =
        subst (λ v. IsLineFrame g (first_two r) (first_two v) (first_two (parts tau)) (dot r (parts tau))) (sym a_is)
        (line_frame g r plane.coprime line n e repeat sign forward (parts tau) first_above (frame_period g r basis (made_frame flat)))

    pub made_mean : IsFlatGroup g → IsGroup g → AllPairs (λ m k. ¬ SameModulo g m k) g.ops → (c : List Ratio) → IsMeanUp r (parts tau) g.ops c
        → IsPointOf (mean_of r (parts tau) (scanning_ops r g.ops)) c
    made_mean flat group apart c up =
        mean_is g r plane.coprime line group flat.operations n e repeat sign forward (parts tau) first_above.reduced.at.inside first_above.reduced.at.flat
        (scanning_ops r g.ops) (scanning_ops_are g r apart) (some_scanning g r group) c up

    -- and by each listing of the group
    module _ (flat : IsFlatGroup g) (k : Listing) (alike : AreAlike k g) (d : ℤ) (is : d ≡ dot r (parts tau)) where
      pub period_by : IsPeriod k r d
      period_by = subst (IsPeriod k r) (sym is) (period_from k g alike r (dot r (parts tau)) (frame_period g r basis (made_frame flat)))

      pub line_frame_by : IsLineFrame k (first_two r) (first_two (parts a)) (first_two (parts tau)) d
      line_frame_by =
          subst (IsLineFrame k (first_two r) (first_two (parts a)) (first_two (parts tau))) (sym is)
          (line_frame_from k g alike (first_two r) (first_two (parts a)) (first_two (parts tau)) (dot r (parts tau)) (made_line_frame flat))
