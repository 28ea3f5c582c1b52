-- What the tests of the code say of the row, the (hkl).w and the periods.
use Rattle.std.proofs.Common.{◌≡◌, ℕ, ◌<◌, ◌^◌, ℤ, ◌-ℤ◌, ◌*ℤ◌, lit<, None, Some, sym, ap, subst, ◌∙◌}
use Rattle.integers.specs.Size.{IsWithin}
use Rattle.integers.proofs.Coded.{again, again_is}
use Rattle.symmetry.specs.Motions.{Motion}
use Rattle.symmetry.specs.Vectors.{dot}
use Rattle.symmetry.specs.Groups.{SameModulo}
use Rattle.symmetry.specs.Frames.{IsAtHome}
use Rattle.symmetry.specs.Lists.{IsChoice}
use Rattle.motions.specs.Views.{motion_of, row_of}
use Rattle.plane_lattice.specs.FrameView.{basis_of_frame}
use Rattle.scanning.specs.Bounds.{largest_count, largest_level}
use Rattle.scanning.specs.Members.{InRows}
use Rattle.scanning.proofs.Choices.{off_shift}
use Rattle.scanning.proofs.MemberChoices.{raised_choice}
use Rattle.scanning.proofs.members.member.Goals as goal

-- numbers that were passed
passed : (n : ℕ) (z : ℤ) → IsWithin n z → n < 2 ^ 63 → z ≡ again z
passed n z h k = sym (again_is z n h k)

pub returns-in_err-count : goal.returns-in_err-count
returns-in_err-count c = λ g frame member.
    let q = c.args.frame.now in
    let r = row_of q.plane in
    let m = motion_of c.args.m.now in
    let none : IsChoice (SameModulo g) (IsAtHome (basis_of_frame q)) (InRows g r c.args.turned) m None =
    off_shift g r (basis_of_frame q) frame m c.args.turned c.in_ok-side.field-0 ((c.side.ensures.sign c.in_ok-side.field-0).0 c.in_ok-side.was)
    c.in_ok-shift.shift (sym c.in_ok-shift.ensures.is)
    (λ k e.
    c.in_err-count.ensures.is k
    (ap (λ d. d *ℤ k) (sym q.tau_gives) ∙ e ∙ ap (λ t. t -ℤ dot r m.translation) (passed largest_level c.in_ok-shift.shift c.in_ok-shift.ensures.small (lit< tt)))) in
    rw c.from_residual-in_err-count.ensures none

pub returns : goal.returns
returns c = λ g frame member.
    let q = c.args.frame.now in
    let r = row_of q.plane in
    let m = motion_of c.args.m.now in
    subst (λ (x : Motion). IsChoice (SameModulo g) (IsAtHome (basis_of_frame q)) (InRows g r c.args.turned) m (Some x)) (sym c.raised.ensures)
    (raised_choice g r (basis_of_frame q) frame m c.args.turned c.in_ok-side.field-0 ((c.side.ensures.sign c.in_ok-side.field-0).0 c.in_ok-side.was)
    c.in_ok-shift.shift (sym c.in_ok-shift.ensures.is) member c.requires.home.home
    (again c.in_ok-count.count)
    ((λ i. q.tau_gives i *ℤ again_is c.in_ok-count.count largest_count c.in_ok-count.ensures.small (lit< tt) i) ∙ c.in_ok-count.ensures.is
    ∙ ap (λ t. t -ℤ dot r m.translation) (again_is c.in_ok-shift.shift largest_level c.in_ok-shift.ensures.small (lit< tt))))
