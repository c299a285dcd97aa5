-- Whether faults are equal.
use Rattle.std.specs.Prelude.{Bool}
use Rattle.smq_load.specs.declared.load_fault.LoadFault.{LoadFault}
use Rattle.smq_load.specs.contracts.load_fault.LoadFaultPartialEq.TheImpl as fault_block

-- `==` of faults
abbrev pub faults_eq : LoadFault → LoadFault → Bool
faults_eq = (fault_block.ghosts).eq
