use Rattle.motions.specs.PlaneViews.{matrix2_of}
use Rattle.recognition.proofs.RodOriginLemma.{likely_where_none_turns, nowhere_without, likely_by_partner}
use Rattle.recognition.proofs.rod_origins.likely_origin.Goals as goal

pub returns-in-None : goal.returns-in-None
returns-in-None c = likely_where_none_turns c.args.section.now c.args.ops.now (matrix2_of c.args.p.now) c.in-None.ensures

pub returns-in-None-partner : goal.returns-in-None-partner
returns-in-None-partner c =
    nowhere_without c.args.section.now c.args.ops.now (matrix2_of c.args.p.now) c.in-Some.m c.in-Some.ensures.0 c.in-None-partner.ensures

pub returns-in-Some-partner : goal.returns-in-Some-partner
returns-in-Some-partner c =
    likely_by_partner c.args.section.now c.args.ops.now (matrix2_of c.args.p.now) c.in-Some.m c.in-Some.ensures.0 c.requires.apart
    c.in-Some-partner.n c.in-Some-partner.ensures.0 c.in-Some.ensures.1 c.in-Some-partner.ensures.1 c.origin_of.result c.origin_of.ensures
