-- What the members that keep the row, or turn it with a given shift, have at home of the coset of one motion.
use lib.IntN.{*ℤ_comm}
use Rattle.std.proofs.Common.{◌≡◌, ℤ, pos, negsuc, ◌+ℤ◌, ◌-ℤ◌, ◌*ℤ◌, inl, inr, Option, None, Some, sym, ◌∙◌, ap, arith}
use Rattle.std.proofs.lemmas.Int.{ints}
use Rattle.symmetry.specs.Vectors.{Vector, plus, minus, opposite, multiple, dot, row_times}
use Rattle.symmetry.specs.Motions.{Motion}
use Rattle.symmetry.specs.Groups.{Listing, IsMember, SameModulo}
use Rattle.symmetry.specs.Frames.{Basis, combination, IsFrame, IsAtHome, DiffersInPlane, KeepsOrientation}
use Rattle.symmetry.specs.Lists.{IsChoice}
use Rattle.symmetry.proofs.VectorLaws.{dot-plus, dot-multiple, multiple-dot, multiple-one}
use Rattle.symmetry.proofs.LatticeLaws.{same_trans, same_sym, same_member}
use Rattle.symmetry.proofs.HomeLaws.{home_once}
use Rattle.motions.specs.declared.motion.Sign.{Sign}
use Rattle.motions.specs.declared.motion.Sign.TheVariants.{Plus, Minus}
use Rattle.motions.specs.Signs.{sign_value}
use Rattle.scanning.specs.Members.{InRows, asked}

-- what a difference gives under the row
pub dot-minus : (r v w : Vector) → dot r (minus v w) ≡ dot r v -ℤ dot r w
dot-minus r v w = dot-plus r v (opposite w) ∙ ap (λ n. dot r v +ℤ n) (dot-multiple r (negsuc 0) w) ∙ negated (dot r v) (dot r w)
  where
    negated : (a b : ℤ) → a +ℤ negsuc 0 *ℤ b ≡ a -ℤ b
    negated a b = omega (arith, ints)

module _ (g : Listing) (r : Vector) (f : Basis) (frame : IsFrame g r f) (S : Motion → Type 0) (m : Motion) where
  -- under the row members of the lattice give whole numbers of periods
  pub periods_between : (n : Motion) → SameModulo g n m → (k : ℤ) × (dot r n.translation -ℤ dot r m.translation ≡ k *ℤ dot r f.tau)
  periods_between n same =
      let (c, is) = frame.spans (minus n.translation m.translation) same.translation in
      (c.z, sym (dot-minus r n.translation m.translation) ∙ ap (dot r) (sym is) ∙ in_tau c)
    where
      zeros : (x y z : ℤ) → x *ℤ pos 0 +ℤ y *ℤ pos 0 +ℤ z ≡ z
      zeros x y z = omega (arith, ints)

      in_tau : (c : Vector) → dot r (combination f c) ≡ c.z *ℤ dot r f.tau
      in_tau c =
          dot-plus r (plus (multiple c.x f.a) (multiple c.y f.b)) (multiple c.z f.tau)
          ∙ ap (λ n. n +ℤ dot r (multiple c.z f.tau)) (dot-plus r (multiple c.x f.a) (multiple c.y f.b))
          ∙ (λ i. dot-multiple r c.x f.a i +ℤ dot-multiple r c.y f.b i +ℤ dot-multiple r c.z f.tau i)
          ∙ (λ i. c.x *ℤ frame.a_in_plane i +ℤ c.y *ℤ frame.b_in_plane i +ℤ c.z *ℤ dot r f.tau)
          ∙ zeros c.x c.y (c.z *ℤ dot r f.tau)

  -- where the set asks that the row gives one number on the translation, and the motion is whole periods from it, nothing else is chosen
  pub some_choice : (target : ℤ) → ((n : Motion) → n.matrix ≡ m.matrix → S n → dot r n.translation ≡ target)
      → (h : Motion) → S h → IsAtHome f h → SameModulo g h m → IsChoice (SameModulo g) (IsAtHome f) S m (Some h)
  some_choice target asks h member home same =
      (member, home, same, λ n member' home' same'. home_once g r f frame n h home' home (differs n member' same'))
    where
      differs : (n : Motion) → S n → SameModulo g n m → DiffersInPlane g r n h
      differs n member' same' =
          let both = same_trans g n m h same' (same_sym g h m same) in record {
            matrix = both.matrix;
            translation = (
              both.translation,
              dot-minus r n.translation h.translation ∙ (λ i. asks n same'.matrix member' i -ℤ asks h same.matrix member i) ∙ nothing target,
            );
          }
        where
          nothing : (a : ℤ) → a -ℤ a ≡ pos 0
          nothing a = omega (arith, ints)

  -- and where it is not whole periods from it, nothing is
  pub no_choice : (target : ℤ) → ((n : Motion) → n.matrix ≡ m.matrix → S n → dot r n.translation ≡ target)
      → ((k : ℤ) → target -ℤ dot r m.translation ≡ k *ℤ dot r f.tau → ⊥) → IsChoice (SameModulo g) (IsAtHome f) S m None
  no_choice target asks apart n member home same =
      let (k, is) = periods_between n same in apart k (ap (λ t. t -ℤ dot r m.translation) (sym (asks n same.matrix member)) ∙ is)

-- ---- the members by rows

module _ (g : Listing) (r : Vector) (f : Basis) (frame : IsFrame g r f) where
  -- the row is not its opposite
  not_opposite : r ≡ opposite r → ⊥
  not_opposite e =
      let same : dot r f.tau ≡ negsuc 0 *ℤ dot r f.tau = ap (λ t. dot t f.tau) e ∙ multiple-dot (negsuc 0) r f.tau in
      absurd (omega (arith, ints, frame.tau_above))

  module _ (m : Motion) where
    same_row : (n : Motion) → n.matrix ≡ m.matrix → row_times r n.matrix ≡ row_times r m.matrix
    same_row n e = ap (row_times r) e

    -- the row of the motion
    abbrev HasSign : Sign → Type 0
    HasSign e = row_times r m.matrix ≡ multiple (sign_value e) r

    -- a motion that does not keep the orientation
    pub other_choice : (turned : Option ℤ) → (KeepsOrientation r m → ⊥) → IsChoice (SameModulo g) (IsAtHome f) (InRows g r turned) m None
    other_choice None other n (member, keeps) home same = other (inl (sym (same_row n same.matrix) ∙ keeps.0))
    other_choice (Some t) other n (member, inl keeps) home same = other (inl (sym (same_row n same.matrix) ∙ keeps.0))
    other_choice (Some t) other n (member, inr turns) home same = other (inr (sym (same_row n same.matrix) ∙ turns.0))

    -- a motion of whose sign nothing is asked
    pub unasked_choice : (turned : Option ℤ) (e : Sign) → HasSign e → asked e turned ≡ None → IsChoice (SameModulo g) (IsAtHome f) (InRows g r turned) m None
    unasked_choice turned Plus row none n member home same = absurd (cc none)
    unasked_choice (Some t) Minus row none n member home same = absurd (cc none)
    unasked_choice None Minus row none n (member, keeps) home same = not_opposite (sym keeps.0 ∙ same_row n same.matrix ∙ row)

    -- what is asked of those with its matrix
    asks : (turned : Option ℤ) (e : Sign) → HasSign e → (t : ℤ) → asked e turned ≡ Some t
        → (n : Motion) → n.matrix ≡ m.matrix → InRows g r turned n → dot r n.translation ≡ t
    asks None Plus row t is n matrix (member, keeps) = let zero : pos 0 ≡ t = cc in keeps.1 ∙ zero
    asks None Minus row t is n matrix member = absurd (cc is)
    asks (Some u) Plus row t is n matrix (member, inl keeps) = let zero : pos 0 ≡ t = cc in keeps.1 ∙ zero
    asks (Some u) Plus row t is n matrix (member, inr turns) =
        absurd (not_opposite (sym (row ∙ multiple-one r) ∙ sym (same_row n matrix) ∙ turns.0))
    asks (Some u) Minus row t is n matrix (member, inl keeps) = absurd (not_opposite (sym keeps.0 ∙ same_row n matrix ∙ row))
    asks (Some u) Minus row t is n matrix (member, inr turns) = let given : u ≡ t = cc in turns.1 ∙ given

    -- and is enough
    in_rows : (turned : Option ℤ) (e : Sign) → HasSign e → (t : ℤ) → asked e turned ≡ Some t
        → (n : Motion) → n.matrix ≡ m.matrix → IsMember g n → dot r n.translation ≡ t → InRows g r turned n
    in_rows None Plus row t is n matrix member at = let zero : t ≡ pos 0 = cc in (member, (same_row n matrix ∙ row ∙ multiple-one r, at ∙ zero))
    in_rows None Minus row t is n matrix member at = absurd (cc is)
    in_rows (Some u) Plus row t is n matrix member at =
        let zero : t ≡ pos 0 = cc in (member, inl (same_row n matrix ∙ row ∙ multiple-one r, at ∙ zero))
    in_rows (Some u) Minus row t is n matrix member at = let given : t ≡ u = cc in (member, inr (same_row n matrix ∙ row, at ∙ given))

    module _ (turned : Option ℤ) (e : Sign) (row : HasSign e) (t : ℤ) (is : asked e turned ≡ Some t) where
      -- a motion at home with what is asked
      pub at_shift : IsMember g m → (h : Motion) → SameModulo g h m → IsAtHome f h → dot r h.translation ≡ t
          → IsChoice (SameModulo g) (IsAtHome f) (InRows g r turned) m (Some h)
      at_shift member h same home at =
          some_choice g r f frame (InRows g r turned) m t (asks turned e row t is) h
          (in_rows turned e row t is h same.matrix (same_member g h m same member) at) home same

      -- no whole number of periods leads to it
      pub off_shift : ((k : ℤ) → ¬ (dot r f.tau *ℤ k ≡ t -ℤ dot r m.translation)) → IsChoice (SameModulo g) (IsAtHome f) (InRows g r turned) m None
      off_shift none =
          no_choice g r f frame (InRows g r turned) m t (asks turned e row t is)
          (λ k apart. none k (*ℤ_comm (dot r f.tau) k ∙ sym apart))
