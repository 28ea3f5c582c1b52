use Rattle.symmetry.proofs.Alike.{alike_sym}
use Rattle.symmetry.proofs.AlikeScans.{class_from, scan_from}
use Rattle.symmetry.proofs.listings.alike_scans.Goals as goal

pub returns : goal.returns
returns c = record {
  classes = λ g h alike r d special s. (class_from h g (alike_sym g h alike) r d special s, class_from g h alike r d special s);
  scan = λ g h alike r f scan. (scan_from h g (alike_sym g h alike) r f scan, scan_from g h alike r f scan);
}
