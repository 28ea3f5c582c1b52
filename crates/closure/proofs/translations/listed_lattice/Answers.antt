use Rattle.std.proofs.lemmas.Result.{IfOk-weaker, IfErr-weaker}
use Rattle.motions.specs.Views.{listing_of}
use Rattle.closure.proofs.GroupMade.{listed_lattice, listed_fine, listed_fault}
use Rattle.closure.proofs.translations.listed_lattice.Goals as goal

pub returns-clause-lattice : goal.returns-clause-lattice
returns-clause-lattice c =
    let vectors = c.in_ok-vectors in
    IfOk-weaker c.make.result _ _
    (listed_lattice (listing_of c.args.listed.now) vectors.vectors.items vectors.ensures.same c.deref.result.now c.deref.ensures.value) c.make.ensures.lattice

pub returns-clause-fine : goal.returns-clause-fine
returns-clause-fine c =
    let vectors = c.in_ok-vectors in
    IfOk-weaker c.make.result _ _
    (λ _. listed_fine (listing_of c.args.listed.now) vectors.vectors.items vectors.ensures.same c.deref.result.now c.deref.ensures.value) c.make.ensures.fine

pub returns-clause-fault : goal.returns-clause-fault
returns-clause-fault c =
    let vectors = c.in_ok-vectors in
    IfErr-weaker c.make.result _ _
    (listed_fault (listing_of c.args.listed.now) vectors.vectors.items vectors.ensures.same c.deref.result.now c.deref.ensures.value) c.make.ensures.fault
