use Rattle.motions.specs.Views.{vector_of}
use Rattle.reduction.proofs.LessPassed.{rests, without_is, k_again_within}
use Rattle.reduction.proofs.shorten.without.Goals as goal

pub less-requires-clause-k : goal.less-requires-clause-k
less-requires-clause-k c = k_again_within c.args.k c.requires.k

pub less-requires-clause-rest : goal.less-requires-clause-rest
less-requires-clause-rest c = (rests c.args.k c.requires.k (vector_of c.args.v.now) (vector_of c.args.w.now) c.requires.v c.requires.w c.requires.rest).x

pub less-requires-2-clause-rest : goal.less-requires-2-clause-rest
less-requires-2-clause-rest c = (rests c.args.k c.requires.k (vector_of c.args.v.now) (vector_of c.args.w.now) c.requires.v c.requires.w c.requires.rest).y

pub less-requires-3-clause-rest : goal.less-requires-3-clause-rest
less-requires-3-clause-rest c = (rests c.args.k c.requires.k (vector_of c.args.v.now) (vector_of c.args.w.now) c.requires.v c.requires.w c.requires.rest).z

pub returns : goal.returns
returns c = without_is c.args.k c.requires.k (vector_of c.args.v.now) (vector_of c.args.w.now) c.requires.v c.requires.w c.less.result c.less-2.result c.less-3.result
    c.less.ensures.small c.less-2.ensures.small c.less-3.ensures.small c.less.ensures.is c.less-2.ensures.is c.less-3.ensures.is
