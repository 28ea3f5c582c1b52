-- Sets of the same motions have the same changes.
use Rattle.std.proofs.Common.{◌↔◌, List, Option, Some, None}
use Rattle.motions.specs.declared.layer.LayerMotion.{LayerMotion}
use Rattle.motions.specs.Rationals.{InSection, RationalMotion}
use Rattle.recognition.specs.Order.{Change, IsFirstChange}
use Rattle.report.specs.FoundChanges.{CarriesOntoType, IsFirstOf, IsFound}

module _ (Has Other : RationalMotion → Type 0) (same : (op : RationalMotion) → Has op ↔ Other op) where
  carries_to : (c : Change) → CarriesOntoType Has c → CarriesOntoType Other c
  carries_to c h = record {
    lattice = h.lattice;
    operations = λ op rational. ((λ has. (h.operations op rational).0 ((same op).1 has)), λ like. (same op).0 ((h.operations op rational).1 like));
  }

  carries_from : (c : Change) → CarriesOntoType Other c → CarriesOntoType Has c
  carries_from c h = record {
    lattice = h.lattice;
    operations = λ op rational. ((λ has. (h.operations op rational).0 ((same op).0 has)), λ like. (same op).1 ((h.operations op rational).1 like));
  }

  pub found_same : (o : Option Change) → IsFound Has o → IsFound Other o
  found_same (Some c) h = record {
    bounded = h.bounded;
    carries = carries_to c h.carries;
    first = λ d bounded carries. h.first d bounded (carries_from d carries);
  }
  found_same None h = λ c bounded carries. h c bounded (carries_from c carries)

-- the first change of a list is that of what the list stands for
pub first_of_list : (section : List LayerMotion) (c : Change) → IsFirstChange section c → IsFirstOf (InSection section) c
first_of_list section c h = record { bounded = h.bounded; carries = h.carries; first = h.first }
