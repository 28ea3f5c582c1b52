use Rattle.std.proofs.Common.{subst, arith, map}
use Rattle.std.proofs.lemmas.List.{length-map}
use Rattle.closure.specs.Operations.{HasSmallEntries}
use Rattle.motions.specs.Views.{motion_of, listing_of}
use Rattle.closure.proofs.Searching.{found_one, one_small, identity_alone, item_at, goes_on_length, has_next_more, all_found}
use Rattle.closure.proofs.matrices.generated_matrices.Goals as goal

pub loop-i-init : goal.loop-i-init
loop-i-init c =
    let one = identity_alone c.new-found.result.items c.push.new.self.items c.identity.result c.new-found.ensures.items c.in_ok-push.ensures.items c.identity.ensures in
    let long = c.in_ok-push.ensures.len in
    record {
      small = one_small _ one;
      few = omega arith;
      within = omega arith;
      found = found_one (listing_of c.args.listed.now) _ one;
      next = λ k d less. absurd (omega arith);
    }

pub add_products-requires-clause-motion : goal.add_products-requires-clause-motion
add_products-requires-clause-motion c =
    let items = c.loop-i.found.items in
    let m = motion_of c.index.result.now in
    subst HasSmallEntries (item_at items c.loop-i.i c.index.result.now (omega arith) c.index.ensures)
    (c.loop-i.invariant.small c.loop-i.i m (omega (arith, length-map items motion_of)))

pub loop-i-preserved : goal.loop-i-preserved
loop-i-preserved c =
    let kept = c.loop-i.invariant in
    let ok = c.in_ok-add_products.ensures in
    record {
      small = ok.small;
      few = ok.few;
      within = let more = goes_on_length _ _ ok.more in omega (arith, length-map c.loop-i.found.items motion_of, length-map c.add_products.new.found.items motion_of);
      found = ok.found;
      next = has_next_more (listing_of c.args.listed.now) (map motion_of c.loop-i.found.items) (map motion_of c.add_products.new.found.items) ok.more c.loop-i.i (motion_of c.index.result.now)
          (omega (arith, length-map c.loop-i.found.items motion_of)) (item_at c.loop-i.found.items c.loop-i.i c.index.result.now (omega arith) c.index.ensures) kept.next ok.next;
    }

pub returns-clause-closed : goal.returns-clause-closed
returns-clause-closed c =
    let kept = c.loop-i.invariant in
    all_found (listing_of c.args.listed.now) (map motion_of c.loop-i.found.items) kept.found c.loop-i.i (omega (arith, length-map c.loop-i.found.items motion_of)) kept.next
