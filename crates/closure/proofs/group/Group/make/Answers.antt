use Rattle.std.proofs.Common.{◌≤◌, arith, refl, sym, subst, length, map, All, List, vec_len}
use Rattle.std.proofs.lemmas.Result.{err_from_is_err_and}
use Rattle.std.proofs.lemmas.Bool.{true≢false}
use Rattle.std.proofs.lemmas.List.{length-map}
use Rattle.std.proofs.lemmas.List.Elements.{All-weaker}
use Rattle.symmetry.specs.Sizes.{IsSmall}
use Rattle.motions.specs.declared.motion.Motion3.{Motion3}
use Rattle.motions.specs.Views.{motion_of, listing_of}
use Rattle.closure.specs.GroupErrors.{IsWithinLimits}
use Rattle.closure.proofs.GroupMade.{lattice_refused, lattice_accepted, kept_apart, kept_translations, accepted_group, kept_is_group, refused_fault, refused_group, kept_alike, moves_little_after}
use Rattle.closure.specs.Operations.{HasSmallEntries}
use Rattle.closure.proofs.group.Group.make.Goals as goal

pub returns-in_err-lattice-clause-accepted : goal.returns-in_err-lattice-clause-accepted
returns-in_err-lattice-clause-accepted c limits group =
    let p = err_from_is_err_and c.from_residual.result c.from_residual.ensures.1 in
    rw (p.1, p.2) (lattice_accepted (listing_of c.args.listed) c.in_err-lattice.field-0.0 c.in_err-lattice.ensures.fault limits)

pub returns-in_err-lattice-clause-refused : goal.returns-in_err-lattice-clause-refused
returns-in_err-lattice-clause-refused c =
    let p = err_from_is_err_and c.from_residual.result c.from_residual.ensures.1 in
    let few : length (map motion_of c.args.listed.ops.items) ≤ 192 = omega (arith, length-map c.args.listed.ops.items motion_of) in
    rw (p.1, p.2) (lattice_refused (listing_of c.args.listed) few c.in_err-lattice.field-0.0 c.in_err-lattice.ensures.fault)

pub check_group_by_homes-requires-clause-small : goal.check_group_by_homes-requires-clause-small
check_group_by_homes-requires-clause-small c =
    subst (λ (ops : List Motion3). All IsSmall (map motion_of ops)) (sym c.deref-2.ensures.value)
    (All-weaker HasSmallEntries IsSmall (λ m s. s.small) (map motion_of c.in_ok-ops.ops.items) c.in_ok-ops.ensures.small)

pub homes-requires : goal.homes-requires
homes-requires c = moves_little_after c.in_ok-ops.ops.items c.deref.result.now c.deref.ensures.value c.in_ok-ops.ensures.small

pub returns-in_err-check_group_by_homes-clause-accepted : goal.returns-in_err-check_group_by_homes-clause-accepted
returns-in_err-check_group_by_homes-clause-accepted c limits group =
    let lattice = c.in_ok-lattice in
    let ops = c.in_ok-ops in
    let group_there = refused_group (listing_of c.args.listed) lattice.lattice lattice.ensures.lattice ops.ops.items ops.ensures.first c.deref-2.result.now c.deref-2.ensures.value group in
    absurd (true≢false (sym (c.in_err-check_group_by_homes.ensures.accepted.1 group_there)))

pub returns-in_err-check_group_by_homes-clause-refused : goal.returns-in_err-check_group_by_homes-clause-refused
returns-in_err-check_group_by_homes-clause-refused c =
    let r = c.from_residual-in_err-check_group_by_homes in
    let p = err_from_is_err_and r.result r.ensures.1 in
    let lattice = c.in_ok-lattice in
    let ops = c.in_ok-ops in
    let fault = c.in_err-check_group_by_homes.field-0.0 in
    let limits : IsWithinLimits (listing_of c.args.listed) =
    record { few = omega (arith, length-map c.args.listed.ops.items motion_of); fine = lattice.ensures.fine } in
    rw (p.1, p.2) (refused_fault (listing_of c.args.listed) lattice.lattice lattice.ensures.lattice ops.ops.items ops.ensures.first c.deref-2.result.now c.deref-2.ensures.value
    limits fault ((c.in_err-check_group_by_homes.ensures.refused fault).0 refl))

pub invariant_of-result : goal.invariant_of-result
invariant_of-result c =
    let g = listing_of c.args.listed in
    let lattice = c.in_ok-lattice in
    let ops = c.in_ok-ops in
    let few : vec_len ops.ops ≤ 192 = let f = ops.ensures.few in omega arith in
    record {
      group = ∣ kept_is_group g lattice.lattice lattice.ensures.lattice ops.ops.items ops.ensures.first
          c.deref-2.result.now c.deref-2.ensures.value (c.in_ok-check_group_by_homes.ensures.accepted.0 refl) ∣₁;
      apart = kept_apart g lattice.lattice lattice.ensures.lattice ops.ops.items ops.ensures.first;
      translations = kept_translations g lattice.lattice lattice.ensures.lattice ops.ops.items ops.ensures.first;
      small = ops.ensures.small;
      few = few;
    }

pub returns-clause-limits : goal.returns-clause-limits
returns-clause-limits c = record { few = omega (arith, length-map c.args.listed.ops.items motion_of); fine = c.in_ok-lattice.ensures.fine }

pub returns-clause-made : goal.returns-clause-made
returns-clause-made c =
    let lattice = c.in_ok-lattice in
    let ops = c.in_ok-ops in
    record {
      is_group = accepted_group (listing_of c.args.listed) lattice.lattice lattice.ensures.lattice ops.ops.items ops.ensures.first c.deref-2.result.now c.deref-2.ensures.value
          (c.in_ok-check_group_by_homes.ensures.accepted.0 refl);
      alike = kept_alike (listing_of c.args.listed) lattice.lattice lattice.ensures.lattice ops.ops.items ops.ensures.first;
      firsts = ops.ensures.first;
    }
