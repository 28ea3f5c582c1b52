-- The group's error for a fault of its lattice.
use Rattle.closure.specs.declared.lattice_fault.LatticeFault.{LatticeFault}
use Rattle.closure.specs.declared.lattice_fault.LatticeFault.TheVariants.{TooFine as LatticeTooFine, NoMemory as LatticeNoMemory}
use Rattle.closure.specs.declared.group_error.GroupError.{GroupError}
use Rattle.closure.specs.declared.group_error.GroupError.TheVariants.{TooFine, NoMemory}

-- the variant of the same name
abbrev pub error_of : LatticeFault → GroupError
error_of LatticeTooFine = TooFine
error_of LatticeNoMemory = NoMemory
