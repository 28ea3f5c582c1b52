use Rattle.std.proofs.Common.{rules, ◌≡◌, sym, subst, List, ℕ}
use Rattle.motions.specs.Views.{motion_of}
use Rattle.triplets.specs.Writing.{triplet_text}
use Rattle.triplets.specs.Writable.{IsTripletOf}
use Rattle.triplets.proofs.TripletTrees.{IsTripletOf-triplet_text}
use Rattle.triplets.proofs.write.write_triplet.Goals as goal

pub returns-clause-law : goal.returns-clause-law
returns-clause-law c h =
    let m = motion_of c.args.m.now in
    let form : c.into_bytes.result.items ≡ triplet_text m = search rules in
    subst (λ (text : List ℕ). IsTripletOf text m) (sym form) (IsTripletOf-triplet_text m h)
