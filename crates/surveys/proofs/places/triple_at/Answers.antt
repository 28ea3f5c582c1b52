-- The indices are what n is above the digits of the place.
use Rattle.std.proofs.Common.{arith}
use Rattle.std.proofs.lemmas.Int.{ints}
use Rattle.surveys.proofs.Digits.{triple_place, triple_within}
use Rattle.surveys.proofs.places.triple_at.Goals as goal

pub returns-clause-within : goal.returns-clause-within
returns-clause-within c =
    triple_within c.args.n c.requires.from c.requires.most c.args.place c.requires.place _ (omega (arith, ints, c.requires.from, c.requires.most)) _ _ _
    c.from.ensures c.from-2.ensures c.from-3.ensures

pub returns-clause-place : goal.returns-clause-place
returns-clause-place c =
    triple_place c.args.n c.requires.from c.requires.most c.args.place c.requires.place _ (omega (arith, ints, c.requires.from, c.requires.most)) _ _ _
    c.from.ensures c.from-2.ensures c.from-3.ensures
