use Rattle.std.proofs.Common.{subst, sym, map, arith, All}
use Rattle.std.proofs.lemmas.List.{length-map}
use Rattle.std.proofs.lemmas.List.Elements.{All-map}
use Rattle.std.proofs.lemmas.Result.{IfOk-weaker}
use Rattle.symmetry.specs.Groups.{SameModulo}
use Rattle.motions.specs.declared.motion.Motion3.{Motion3}
use Rattle.motions.specs.Views.{listing_of, motion_of}
use Rattle.closure.proofs.GroupMade.{moves_little, firsts_within, length-firsts, kept_first}
use Rattle.closure.specs.Operations.{HasSmallEntries}
use Rattle.closure.proofs.group.first_operations.Goals as goal

pub distinct-requires : goal.distinct-requires
distinct-requires c =
    moves_little 50 c.deref.result.now
    (subst (All (λ (m : Motion3). HasSmallEntries (motion_of m))) (sym c.deref.ensures.value) c.requires.small.ops)

pub returns-clause-first : goal.returns-clause-first
returns-clause-first c =
    IfOk-weaker c.distinct.result _ _
    (λ ops f. kept_first (listing_of c.args.listed.now) c.args.lattice.now c.requires.lattice c.args.listed.now.ops.items c.deref.result.now ops.items c.deref.ensures.value f)
    c.distinct.ensures

pub returns-clause-small : goal.returns-clause-small
returns-clause-small c =
    let g = listing_of c.args.listed.now in
    IfOk-weaker c.distinct.result _ _
    (λ ops f. firsts_within 50 g (map motion_of ops.items)
    (kept_first g c.args.lattice.now c.requires.lattice c.args.listed.now.ops.items c.deref.result.now ops.items c.deref.ensures.value f)
    (All-map HasSmallEntries motion_of c.args.listed.now.ops.items c.requires.small.ops))
    c.distinct.ensures

pub returns-clause-few : goal.returns-clause-few
returns-clause-few c =
    let g = listing_of c.args.listed.now in
    IfOk-weaker c.distinct.result _ _
    (λ ops f.
    let l = length-firsts (SameModulo g) (map motion_of c.args.listed.now.ops.items) (map motion_of ops.items)
    (kept_first g c.args.lattice.now c.requires.lattice c.args.listed.now.ops.items c.deref.result.now ops.items c.deref.ensures.value f) in
    omega (arith, length-map c.args.listed.now.ops.items motion_of, length-map ops.items motion_of))
    c.distinct.ensures
