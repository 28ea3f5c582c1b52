use Rattle.symmetry.proofs.GroupLaws.{translation_member, member_translation, member_keeps}
use Rattle.symmetry.proofs.groups.lattice_in_group.Goals as goal

pub returns-clause-translations : goal.returns-clause-translations
returns-clause-translations c = λ g t group. (member_translation g group t, translation_member g group t)

pub returns-clause-images : goal.returns-clause-images
returns-clause-images c = λ g m t group member. member_keeps g group m member t
