-- Statuses and names of scripts, at known values.
use Rattle.std.specs.Prelude.{◌≡◌, ◌++◌, ℕ, true, false, [], ◌∷◌, codes}
use Rattle.smq_kit.specs.declared.refusal.Refusal.TheVariants as refusal
use Rattle.smq_count.specs.Months.{day_text, hour_text}
use Rattle.smq_engine.specs.declared.run_fault.RunFault.TheVariants as run_fault
use Rattle.smq_parts.specs.declared.by.By.TheVariants as by
use Rattle.smq_commands.specs.declared.status.TheConstants.{DONE, REFUSED, BAD_INPUT, FAULT, NO_MEMORY}
use Rattle.smq_commands.specs.Scripts.{script_name}
use Rattle.smq_commands.specs.Statuses.{bad_words_status, check_status, fault_status, follow_status, run_status}

-- the status of each end of the program, and of each fault
pub record KnowsStatuses : Type 0 where
  pub done : DONE ≡ 0
  pub refused : REFUSED ≡ 1
  pub bad_input : BAD_INPUT ≡ 2
  pub fault : FAULT ≡ 3
  pub no_memory : NO_MEMORY ≡ 4
  pub bad_row : (row : ℕ) → fault_status (run_fault.BadRow row) ≡ 2
  pub bad_settings : fault_status run_fault.BadSettings ≡ 2
  pub read : fault_status run_fault.Read ≡ 3
  pub write : fault_status run_fault.Write ≡ 3
  pub memory : fault_status run_fault.Memory ≡ 4
  pub no_thread : fault_status run_fault.NoThread ≡ 4
  pub desk : fault_status run_fault.Desk ≡ 4
  pub bad_words : bad_words_status ≡ 2
  pub no_row_refused : run_status [] ≡ 0
  pub a_row_refused : run_status ((1, refusal.EmptyPiece) ∷ []) ≡ 1
  pub same : check_status (record { same = true; entries = 67; refused = 0 }) ≡ 0
  pub same_but_refused : check_status (record { same = true; entries = 67; refused = 1 }) ≡ 1
  pub different : check_status (record { same = false; entries = 67; refused = 0 }) ≡ 1
  pub followed : follow_status (record { refused = 0 }) ≡ 0
  pub followed_but_refused : follow_status (record { refused = 2 }) ≡ 1

-- of the link 7, of a day and of an hour (smq_count has known texts of both)
pub record KnowsScripts : Type 0 where
  pub link : script_name by.Link (record { link = 7; period = 0 }) ≡ codes "link-7.csv"
  pub day : script_name by.Day (record { link = 0; period = 20786 }) ≡ day_text 20786 ++ codes ".csv"
  pub hour : script_name by.Hour (record { link = 0; period = 498877 }) ≡ hour_text 498877 ++ codes ".csv"
  pub of_day : script_name by.LinkAndDay (record { link = 7; period = 20786 }) ≡ day_text 20786 ++ codes "/" ++ codes "link-7.csv"
  pub of_hour : script_name by.LinkAndHour (record { link = 7; period = 498877 }) ≡ hour_text 498877 ++ codes "/" ++ codes "link-7.csv"
