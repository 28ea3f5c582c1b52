use Rattle.std.proofs.Common.{ap, subst, sym, ◌∙◌, ℤ}
use Rattle.symmetry.specs.Motions.{Motion, followed_by}
use Rattle.symmetry.specs.Sizes.{IsSmall}
use Rattle.motions.specs.ListedSizes.{IsSmallWithin}
use Rattle.motions.specs.Views.{motion_of}
use Rattle.sample.specs.Shears.{shear}
use Rattle.sample.proofs.Conjugates.{linear, sheared_steps}
use Rattle.sample.proofs.ShearSizes.{back_again, sheared_small, stepped_small, there_again}
use Rattle.sample.proofs.shear.sheared.Goals as goal

abbrev change : ℤ → Motion
change k = linear (shear k)

pub then-requires-2-clause-first : goal.then-requires-2-clause-first
then-requires-2-clause-first c =
    let m = motion_of c.args.m.now in
    let j = c.args.j in
    subst IsSmall (sym (c.then.ensures ∙ ap (λ t. followed_by t m) (c.shear.ensures ∙ ap change (back_again j c.requires.shear))))
    (stepped_small j c.requires.shear m c.requires.matrix c.requires.translation)

pub returns-clause-is : goal.returns-clause-is
returns-clause-is c =
    let m = motion_of c.args.m.now in
    let j = c.args.j in
    c.then-2.ensures
    ∙ (λ i. followed_by ((c.then.ensures ∙ ap (λ t. followed_by t m) (c.shear.ensures ∙ ap change (back_again j c.requires.shear))) i)
    ((c.shear-2.ensures ∙ ap change (there_again j c.requires.shear)) i))
    ∙ sheared_steps j m

pub returns-clause-small : goal.returns-clause-small
returns-clause-small c =
    subst (IsSmallWithin 50) (sym (returns-clause-is c)) (sheared_small c.args.j c.requires.shear (motion_of c.args.m.now) c.requires.matrix c.requires.translation)
