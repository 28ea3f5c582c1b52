-- Why there is no lattice of what is listed.
use Rattle.symmetry.specs.Groups.{Listing}
use Rattle.closure.specs.declared.lattice_fault.LatticeFault.{LatticeFault}
use Rattle.closure.specs.declared.lattice_fault.LatticeFault.TheVariants.{TooFine, NoMemory}
use Rattle.closure.specs.Fineness.{IsTooFine}

-- it has too many residues; want of memory has no cause
abbrev pub IsLatticeFault : Listing → LatticeFault → Type 0
IsLatticeFault g TooFine = IsTooFine g
IsLatticeFault g NoMemory = Unit {0}
