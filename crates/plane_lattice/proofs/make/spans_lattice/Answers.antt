-- The cell edges and the residues tell of the whole lattice.
use Rattle.std.proofs.Common.{sym, ap, subst, ◌∙◌}
use Rattle.std.specs.Prelude.{Contains}
use Rattle.motions.specs.BasisView.{basis_of}
use Rattle.closure.specs.Groups.{group_listing}
use Rattle.closure.specs.Lattices.{residues_of}
use Rattle.closure.specs.Residues.{residue}
use Rattle.plane_lattice.proofs.LatticeTests.{spanned, edges_held, residue_within, residues_held}
use Rattle.plane_lattice.proofs.make.spans_lattice.Goals as goal

pub returns-then-not-holds_edges : goal.returns-then-not-holds_edges
returns-then-not-holds_edges c = (
  λ t. absurd (cc t),
  λ spans. absurd (cc (c.if-not-holds_edges.true, c.holds_edges.ensures.1 (edges_held (group_listing c.args.group.now) (basis_of c.args.dual.now.basis) spans))),
)

pub holds_all-requires-clause-vectors : goal.holds_all-requires-clause-vectors
holds_all-requires-clause-vectors c k d h = residue_within _ (c.residues.ensures.reduced k d h)

pub returns : goal.returns
returns c =
    let g = group_listing c.args.group.now in
    let f = basis_of c.args.dual.now.basis in
    let rs = c.residues.result.now in
    let edges = c.holds_edges.ensures.0 c.if-not-holds_edges.false in (
      λ t v h. spanned f rs edges (c.holds_all.ensures.0 t) v (subst (λ vs. Contains vs (residue v)) (sym c.residues.ensures.residues) ((c.lattice.ensures.same v).1 h)),
      λ spans. c.holds_all.ensures.1 (residues_held g f spans rs (c.residues.ensures.residues ∙ ap residues_of c.lattice.ensures.lattice)),
    )
