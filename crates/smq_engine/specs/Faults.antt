-- What is told of faults.
use Rattle.std.specs.Prelude.{ℕ, List, ◌++◌, codes}
use Rattle.std.specs.Fmt.{decimal}
use Rattle.smq_engine.specs.declared.run_fault.RunFault.{RunFault}
use Rattle.smq_engine.specs.declared.run_fault.RunFault.TheVariants.{BadRow, BadSettings, Read, Write, Memory, NoThread, Desk}

-- the text that is told of a fault on standard error, without its line feed
abbrev pub fault_text : RunFault → List ℕ
fault_text (BadRow row) = codes "row " ++ decimal row ++ codes ": bad row"
fault_text BadSettings = codes "settings: bad settings"
fault_text Read = codes "read failed"
fault_text Write = codes "write failed"
fault_text Memory = codes "out of memory"
fault_text NoThread = codes "no thread"
fault_text Desk = codes "desk refused"
