-- What a Rod of the code says.
use Rattle.std.specs.Prelude.{map}
use Rattle.motions.specs.Views.{motion_of, parts}
use Rattle.penetration.specs.declared.rod.Rod.{Rod}
use Rattle.penetration.specs.DirectionView.{direction_of}
use Rattle.penetration.specs.RodOperations.{vector_across}
use Rattle.report.specs.RodReports.{RodReport}

-- the direction, the point and the axis, the vectors a' and b', the operations, and what was found
abbrev pub rod_report_of : Rod → RodReport
rod_report_of rod = record {
  direction = direction_of rod.frame.direction;
  point = parts rod.point;
  axis = parts rod.frame.axis;
  first = vector_across rod.frame.across 0;
  second = vector_across rod.frame.across 1;
  ops = map motion_of rod.ops.items;
  found = rod.found;
}
