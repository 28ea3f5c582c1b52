use Rattle.symmetry.proofs.ScanLists.{scan_gives_some, scan_list, scan_lists_in_plane}
use Rattle.symmetry.proofs.scans.scan_gives.Goals as goal

pub returns-clause-list : goal.returns-clause-list
returns-clause-list c = λ g r f scan s ops group coprime frame is high given. scan_list g r f frame group coprime scan is s high ops given

pub returns-clause-plane : goal.returns-clause-plane
returns-clause-plane c = λ g r f scan s ops group coprime frame is high given. scan_lists_in_plane g r f frame group coprime scan is s high ops given

pub returns-clause-some : goal.returns-clause-some
returns-clause-some c = λ g r f scan s frame is high. scan_gives_some g r f frame scan is s high
