-- The statuses with which the program ends.
use Rattle.std.specs.Prelude.{ℕ, ◌==◌, ◌&&◌, List, [], ◌∷◌, if◌then◌else◌}
use Rattle.smq_kit.specs.declared.refusal.Refusal.{Refusal}
use Rattle.smq_engine.specs.declared.comparison.Checked.{Checked}
use Rattle.smq_engine.specs.declared.run_fault.RunFault.{RunFault}
use Rattle.smq_engine.specs.declared.run_fault.RunFault.TheVariants.{BadRow, BadSettings, Read, Write, Memory, NoThread, Desk}
use Rattle.smq_engine.specs.declared.feed.Followed.{Followed}

-- the status with which the program ends at a fault, whether or not the fault can be told
abbrev pub fault_status : RunFault → ℕ
fault_status (BadRow row) = 2
fault_status BadSettings = 2
fault_status Read = 3
fault_status Write = 3
fault_status Memory = 4
fault_status NoThread = 4
fault_status Desk = 4

-- the status with which a script that was run ends, by its refused rows
abbrev pub run_status : List (ℕ × Refusal) → ℕ
run_status [] = 0
run_status (first ∷ more) = 1

-- the status with which a script that was checked ends: whether the tables are the same, and no row was refused
abbrev pub check_status : Checked → ℕ
check_status checked = if checked.same && checked.refused == 0 then 0 else 1

-- the status with which records end that were followed to their end, by how many rows were refused
abbrev pub follow_status : Followed → ℕ
follow_status followed = if followed.refused == 0 then 0 else 1

-- the status with which the program ends at words that it doesn't take
abbrev pub bad_words_status : ℕ
bad_words_status = 2
