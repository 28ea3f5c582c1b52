-- The least vectors along the axes, as they are found.
use Rattle.std.proofs.Common.{◌≡◌, map, ap, sym, subst, ◌∙◌}
use Rattle.std.specs.Prelude.{Contains}
use Rattle.symmetry.specs.Groups.{IsInLattice}
use Rattle.symmetry.specs.Sizes.{IsVectorWithin}
use Rattle.symmetry.specs.Vectors.{Vector}
use Rattle.motions.specs.Views.{parts}
use Rattle.closure.specs.Groups.{group_listing}
use Rattle.closure.specs.Lattices.{residues_of}
use Rattle.closure.specs.Residues.{residue}
use Rattle.reduction.specs.Bounds.{largest_first}
use Rattle.reduction.specs.LatticeBases.{IsLatticeBasis}
use Rattle.reduction.proofs.FirstBasis.{IsLeastAlong, first_basis}
use Rattle.reduction.proofs.FirstFacts.{least_in, least_small}
use Rattle.reduction.proofs.lattice_basis.triangular_basis.Goals as goal

pub returns-clause-basis : goal.returns-clause-basis
returns-clause-basis c =
    let g = group_listing c.args.group.now in
    let rs = c.residues-residues.result.now in
    let centrings : map parts rs ≡ g.centrings = c.residues-residues.ensures.residues ∙ ap residues_of c.lattice.ensures.lattice in
    let listed : (v : Vector) → IsInLattice g v → Contains (map parts rs) (residue v) =
    λ v h. subst (λ vs. Contains vs (residue v)) (sym c.residues-residues.ensures.residues) ((c.lattice.ensures.same v).1 h) in
    let h : IsLeastAlong rs 0 (parts c.least_along-first.result) = record { one = c.least_along-first.ensures.one; positive = c.least_along-first.ensures.positive; most = c.least_along-first.ensures.most; least = c.least_along-first.ensures.least } in
    let k : IsLeastAlong rs 1 (parts c.least_along-second.result) = record { one = c.least_along-second.ensures.one; positive = c.least_along-second.ensures.positive; most = c.least_along-second.ensures.most; least = c.least_along-second.ensures.least } in
    let l : IsLeastAlong rs 2 (parts c.least_along-third.result) = record { one = c.least_along-third.ensures.one; positive = c.least_along-third.ensures.positive; most = c.least_along-third.ensures.most; least = c.least_along-third.ensures.least } in
    subst (IsLatticeBasis g) (λ i. record { a = sym c.numbers.ensures i; b = sym c.numbers-2.ensures i; tau = sym c.numbers-3.ensures i })
    (first_basis g rs listed (parts c.least_along-first.result) (parts c.least_along-second.result) (parts c.least_along-third.result)
    (least_in g rs 0 _ h centrings) (least_in g rs 1 _ k centrings) (least_in g rs 2 _ l centrings) h k l)

pub returns-clause-a : goal.returns-clause-a
returns-clause-a c =
    subst (IsVectorWithin largest_first) (sym c.numbers.ensures)
    (least_small (group_listing c.args.group.now) c.residues-residues.result.now 0 (parts c.least_along-first.result)
    (record { one = c.least_along-first.ensures.one; positive = c.least_along-first.ensures.positive; most = c.least_along-first.ensures.most; least = c.least_along-first.ensures.least })
    c.residues-residues.ensures.reduced)

pub returns-clause-b : goal.returns-clause-b
returns-clause-b c =
    subst (IsVectorWithin largest_first) (sym c.numbers-2.ensures)
    (least_small (group_listing c.args.group.now) c.residues-residues.result.now 2 (parts c.least_along-third.result)
    (record { one = c.least_along-third.ensures.one; positive = c.least_along-third.ensures.positive; most = c.least_along-third.ensures.most; least = c.least_along-third.ensures.least })
    c.residues-residues.ensures.reduced)

pub returns-clause-tau : goal.returns-clause-tau
returns-clause-tau c =
    subst (IsVectorWithin largest_first) (sym c.numbers-3.ensures)
    (least_small (group_listing c.args.group.now) c.residues-residues.result.now 1 (parts c.least_along-second.result)
    (record { one = c.least_along-second.ensures.one; positive = c.least_along-second.ensures.positive; most = c.least_along-second.ensures.most; least = c.least_along-second.ensures.least })
    c.residues-residues.ensures.reduced)
