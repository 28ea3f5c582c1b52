-- The inverse of the matrix, and the translation taken back.
use Rattle.std.proofs.Common.{rules, ◌≡◌, ◌*ℤ◌, neg_ℤ, refl, to_z, of_z, w64}
use Rattle.motions.specs.Signs.{sign_value}
use Rattle.motions.specs.RodMotions.{RodOperation, rod_of}
use Rattle.motions.proofs.RodInverses.{rod_undone}
use Rattle.motions.proofs.rod.RodMotionMotion.back.Goals as goal

pub returns : goal.returns
returns c =
    let m : RodOperation = rod_of c.args.self.now in
    let n : RodOperation = rod_of (record { a = c.in_ok-a.a; e = c.args.self.now.e; t = to_z w64 (of_z w64 c.shift_back.result) }) in
    let taken : n.translation ≡ neg_ℤ (sign_value m.along *ℤ m.translation) = search rules in
    let inverse = c.in_ok-a.ensures.inverse in
    rod_undone m n inverse.0 inverse.1 refl taken
