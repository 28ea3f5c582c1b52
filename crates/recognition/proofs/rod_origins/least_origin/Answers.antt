use Rattle.std.proofs.Common.{refl}
use Rattle.motions.specs.PlaneViews.{matrix2_of}
use Rattle.recognition.specs.RodChanges.{Carries}
use Rattle.recognition.proofs.RodOriginLemma.{least_of_likely, nowhere_by_likely}
use Rattle.recognition.proofs.rod_origins.least_origin.Goals as goal

pub returns-then-carries : goal.returns-then-carries
returns-then-carries c =
    least_of_likely c.args.section.now c.args.ops.now (matrix2_of c.args.p.now) c.in-Some.z c.in-Some.ensures (c.if-carries.ensures.0 refl)

pub returns-else-carries : goal.returns-else-carries
returns-else-carries c =
    let not : ¬ (Carries c.args.section.now c.args.ops.now (matrix2_of c.args.p.now) c.in-Some.z) = λ h. absurd (cc (c.if-carries.ensures.1 h)) in
    nowhere_by_likely c.args.section.now c.args.ops.now (matrix2_of c.args.p.now) c.in-Some.z c.in-Some.ensures not
