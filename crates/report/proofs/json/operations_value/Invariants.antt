use Rattle.std.proofs.Common.{◌≡◌, map, take}
use Rattle.serde_json.specs.Data.{string}
use Rattle.serde_json.specs.View.{view}
use Rattle.motions.specs.Views.{motion_of}
use Rattle.triplets.specs.Writing.{triplet_text}
use Rattle.report.proofs.json.operations_value.Given as goal

abbrev pub invariant-loop-m : goal.invariant-loop-m
invariant-loop-m l = map view l.values.items ≡ map (λ m. string (triplet_text m)) (map motion_of (take l.m-index l.ops))
