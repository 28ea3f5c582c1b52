use Rattle.std.proofs.Common.{ap, subst, sym, ◌∙◌}
use Rattle.symmetry.specs.Groups.{IsGroup}
use Rattle.closure.specs.GroupErrors.{IsWithinLimits}
use Rattle.sample.specs.SampleGroups.{sheared_group}
use Rattle.sample.proofs.ShearSizes.{there_again}
use Rattle.sample.proofs.TypeGroups.{is_group, same_listing, within_limits}
use Rattle.sample.proofs.group.sheared_group.Goals as goal

pub want_of_memory-requires : goal.want_of_memory-requires
want_of_memory-requires c =
    let t = c.args.layer_type.now in
    let j = c.args.j in
    let h = c.requires.layer_type in
    let same = same_listing _ t h j ∙ ap (λ k. sheared_group k t) (sym (there_again j c.requires.shear)) ∙ sym c.in_ok-listed.ensures.is in
    c.in-Err.ensures.accepted (subst IsWithinLimits same (within_limits _ t h j)) (subst IsGroup same (is_group _ t h j))
