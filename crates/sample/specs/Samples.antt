-- The counts of the sample.
use Rattle.std.specs.Prelude.{ℕ, ◌+◌}
use Rattle.layer_types.specs.declared.layer_type.LayerType.{LayerType}
use Rattle.layer_types.specs.LayerTypes.{IsLayerType}
use Rattle.report.specs.Reports.{IsReport, Report}
use Rattle.sample.specs.Counted.{counts_of, counts_plus, no_counts}
use Rattle.sample.specs.SampleGroups.{sample_frame, shear_number, sheared_group, type_number, upright}
use Rattle.sample.specs.declared.counts.Counts.{Counts}

-- the report of the group i: that of the layer type 1 + i mod 80 with x changed to x + j z, along (0 0 1), in its frame
pub record IsSampleReport (i : ℕ) (report : Report) : Type 0 where
  pub layer_type : LayerType
  pub is_type : IsLayerType (type_number i) layer_type
  pub is : IsReport (sheared_group (shear_number i) layer_type) upright (sample_frame layer_type.centred) report

-- the counts over reports of the groups below n, one of each
pub data IsSample : ℕ → Counts → Type 0 where
  none : IsSample 0 no_counts
  further : (i : ℕ) (counts : Counts) (report : Report) → IsSample i counts → IsSampleReport i report
      → IsSample (i + 1) (counts_plus counts (counts_of (type_number i) report))
