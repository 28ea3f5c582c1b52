use Rattle.std.proofs.Common.{◌≤◌, arith, subst, length, map, List, vec_len}
use Rattle.std.proofs.lemmas.Result.{err_from_is_err_and}
use Rattle.std.proofs.lemmas.List.{length-map}
use Rattle.motions.specs.declared.motion.Motion3.{Motion3}
use Rattle.motions.specs.Views.{motion_of, listing_of}
use Rattle.closure.specs.declared.generated_error.GeneratedError.TheVariants.{NoInverse}
use Rattle.closure.specs.FromLatticeFault.{generated_error_of}
use Rattle.closure.specs.Derived.{IsFirstSingular}
use Rattle.closure.proofs.GeneratedErrors.{no_error, search_refused, lattice_refused, read_invertible, read_small}
use Rattle.closure.proofs.GeneratedMade.{made_of, made_vectors, made_members, made_group, made_apart, made_translations, made_small, made_derived, not_too_large}
use Rattle.closure.proofs.group.Group.generated.Goals as goal

pub first_singular-requires : goal.first_singular-requires
first_singular-requires c = read_small 9 c.args.listed.ops.items c.deref.result.now c.deref.ensures.value c.requires.ops

pub returns-in-Some-clause-accepted : goal.returns-in-Some-clause-accepted
returns-in-Some-clause-accepted c limits =
    no_error (listing_of c.args.listed) limits (NoInverse c.in-Some.i)
    (omega (arith, length-map c.args.listed.ops.items motion_of), subst (λ (l : List Motion3). IsFirstSingular (map motion_of l) c.in-Some.i) c.deref.ensures.value c.in-Some.ensures)

pub returns-in_err-list-clause-accepted : goal.returns-in_err-list-clause-accepted
returns-in_err-list-clause-accepted c limits =
    let p = err_from_is_err_and c.from_residual.result c.from_residual.ensures.1 in
    let few : length (map motion_of c.args.listed.ops.items) ≤ 192 = omega (arith, length-map c.args.listed.ops.items motion_of) in
    rw (p.1, p.2) (no_error (listing_of c.args.listed) limits c.in_err-list.field-0.0
    (search_refused (listing_of c.args.listed) few limits.invertible c.in_err-list.field-0.0 c.in_err-list.ensures.fault))

pub returns-in_err-list-clause-refused : goal.returns-in_err-list-clause-refused
returns-in_err-list-clause-refused c =
    let p = err_from_is_err_and c.from_residual.result c.from_residual.ensures.1 in
    let few : length (map motion_of c.args.listed.ops.items) ≤ 192 = omega (arith, length-map c.args.listed.ops.items motion_of) in
    rw (p.1, p.2) (search_refused (listing_of c.args.listed) few (read_invertible c.args.listed c.deref.result.now c.deref.ensures.value c.in_default.ensures)
    c.in_err-list.field-0.0 c.in_err-list.ensures.fault)

pub generated_lattice-requires-clause-invertible : goal.generated_lattice-requires-clause-invertible
generated_lattice-requires-clause-invertible c = read_invertible c.args.listed c.deref.result.now c.deref.ensures.value c.in_default.ensures

pub returns-in_err-lattice-clause-accepted : goal.returns-in_err-lattice-clause-accepted
returns-in_err-lattice-clause-accepted c limits =
    let r = c.from_residual-in_err-lattice in
    let p = err_from_is_err_and r.result r.ensures.1 in
    let few : length (map motion_of c.args.listed.ops.items) ≤ 192 = omega (arith, length-map c.args.listed.ops.items motion_of) in
    rw (p.1, p.2) (no_error (listing_of c.args.listed) limits (generated_error_of c.in_err-lattice.field-0.0)
    (lattice_refused (listing_of c.args.listed) few limits.invertible limits.not_large c.in_err-lattice.field-0.0 c.in_err-lattice.ensures.fault))

pub returns-in_err-lattice-clause-refused : goal.returns-in_err-lattice-clause-refused
returns-in_err-lattice-clause-refused c =
    let r = c.from_residual-in_err-lattice in
    let p = err_from_is_err_and r.result r.ensures.1 in
    let list = c.in_ok-list in
    let few : length (map motion_of c.args.listed.ops.items) ≤ 192 = omega (arith, length-map c.args.listed.ops.items motion_of) in
    let short : length (map motion_of list.list.items) ≤ 48 = let f = list.ensures.few in omega (arith, length-map list.list.items motion_of) in
    rw (p.1, p.2) (lattice_refused (listing_of c.args.listed) few (read_invertible c.args.listed c.deref.result.now c.deref.ensures.value c.in_default.ensures)
    (not_too_large (listing_of c.args.listed) (map motion_of list.list.items) list.ensures.closed list.ensures.small short)
    c.in_err-lattice.field-0.0 c.in_err-lattice.ensures.fault)

pub invariant_of-result : goal.invariant_of-result
invariant_of-result c =
    let g = listing_of c.args.listed in
    let list = c.in_ok-list in
    let lattice = c.in_ok-lattice in
    let ops = c.in_ok-ops in
    let short : length list.list.items ≤ 48 = let f = list.ensures.few in omega arith in
    let made = made_of g (read_invertible c.args.listed c.deref.result.now c.deref.ensures.value c.in_default.ensures) list.list.items c.deref-2.result.now c.deref-3.result.now
    c.deref-2.ensures.value c.deref-3.ensures.value list.ensures.closed list.ensures.small short lattice.lattice lattice.ensures.lattice ops.ops.items ops.ensures.ordered in
    let few : vec_len ops.ops ≤ 192 = let f = ops.ensures.few in omega (arith, c.deref-3.ensures.len) in
    record {
      group = ∣ made_group g lattice.lattice ops.ops.items made ∣₁;
      apart = made_apart g lattice.lattice ops.ops.items made;
      translations = made_translations g lattice.lattice ops.ops.items made;
      small = made_small g lattice.lattice ops.ops.items made;
      few = few;
    }

pub returns-clause-limits : goal.returns-clause-limits
returns-clause-limits c =
    let list = c.in_ok-list in
    let short : length (map motion_of list.list.items) ≤ 48 = let f = list.ensures.few in omega (arith, length-map list.list.items motion_of) in
    record {
      few = omega (arith, length-map c.args.listed.ops.items motion_of);
      invertible = read_invertible c.args.listed c.deref.result.now c.deref.ensures.value c.in_default.ensures;
      not_large = not_too_large (listing_of c.args.listed) (map motion_of list.list.items) list.ensures.closed list.ensures.small short;
      fine = c.in_ok-lattice.ensures.fine;
    }

pub returns-clause-members : goal.returns-clause-members
returns-clause-members c =
    let g = listing_of c.args.listed in
    let list = c.in_ok-list in
    let lattice = c.in_ok-lattice in
    let ops = c.in_ok-ops in
    let short : length list.list.items ≤ 48 = let f = list.ensures.few in omega arith in
    made_members g lattice.lattice ops.ops.items
    (made_of g (read_invertible c.args.listed c.deref.result.now c.deref.ensures.value c.in_default.ensures) list.list.items c.deref-2.result.now c.deref-3.result.now
    c.deref-2.ensures.value c.deref-3.ensures.value list.ensures.closed list.ensures.small short lattice.lattice lattice.ensures.lattice ops.ops.items ops.ensures.ordered)

pub returns-clause-listing : goal.returns-clause-listing
returns-clause-listing c =
    let g = listing_of c.args.listed in
    let list = c.in_ok-list in
    let lattice = c.in_ok-lattice in
    let ops = c.in_ok-ops in
    let short : length list.list.items ≤ 48 = let f = list.ensures.few in omega arith in
    let made = made_of g (read_invertible c.args.listed c.deref.result.now c.deref.ensures.value c.in_default.ensures) list.list.items c.deref-2.result.now c.deref-3.result.now
    c.deref-2.ensures.value c.deref-3.ensures.value list.ensures.closed list.ensures.small short lattice.lattice lattice.ensures.lattice ops.ops.items ops.ensures.ordered in
    record { ops = made_derived g lattice.lattice ops.ops.items made; lattice = made_vectors g lattice.lattice ops.ops.items made }
