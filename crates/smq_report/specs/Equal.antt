-- Whether picks, formats and faults are equal.
use Rattle.std.specs.Prelude.{Bool}
use Rattle.smq_report.specs.declared.pick.Format.{Format}
use Rattle.smq_report.specs.declared.pick.Pick.{Pick}
use Rattle.smq_report.specs.declared.pick.ReportFault.{ReportFault}
use Rattle.smq_report.specs.declared.pick.Section.{Section}
use Rattle.smq_report.specs.contracts.pick.FormatPartialEq.TheImpl as format_block
use Rattle.smq_report.specs.contracts.pick.PickPartialEq.TheImpl as pick_block
use Rattle.smq_report.specs.contracts.pick.ReportFaultPartialEq.TheImpl as fault_block
use Rattle.smq_report.specs.contracts.pick.SectionPartialEq.TheImpl as section_block

-- `==` of picks
abbrev pub picks_eq : Pick → Pick → Bool
picks_eq = (pick_block.ghosts).eq

-- `==` of sections
abbrev pub sections_eq : Section → Section → Bool
sections_eq = (section_block.ghosts).eq

-- `==` of formats
abbrev pub formats_eq : Format → Format → Bool
formats_eq = (format_block.ghosts).eq

-- `==` of faults
abbrev pub faults_eq : ReportFault → ReportFault → Bool
faults_eq = (fault_block.ghosts).eq
