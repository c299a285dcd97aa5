-- Records and answers at known values.
use Rattle.std.specs.Prelude.{◌≡◌, ℕ, List, [], ◌∷◌, ◌++◌, codes, Option, None, Some}
use Rattle.smq_present.specs.present.Present.{PresentValue}
use Rattle.smq_present.specs.declared.present.edit.Edit.TheVariants.{Advance}
use Rattle.smq_load.specs.declared.record.Row as rows
use Rattle.smq_load.specs.declared.record.Row.TheVariants.{Plain}
use Rattle.smq_load.specs.Settings.{settings_of}
use Rattle.smq_report.specs.declared.pick.Format.{Format}
use Rattle.smq_engine.specs.declared.run_fault.RunFault.TheVariants.{BadRow, BadSettings, Read, Write, Memory, NoThread, Desk}
use Rattle.smq_tally.specs.declared.list.List.TheVariants as list
use Rattle.smq_tally.specs.declared.view.View.TheVariants as view
use Rattle.smq_report.specs.declared.pick.Pick.TheVariants as pick
use Rattle.smq_engine.specs.declared.record.Record.{Record}
use Rattle.smq_engine.specs.declared.record.Record.TheVariants.{Ask, Lost, Row}
use Rattle.smq_engine.specs.declared.record.Loss.{Loss}
use Rattle.smq_engine.specs.declared.question.Question.TheVariants.{Report}
use Rattle.smq_kit.specs.declared.place.Dir.TheVariants.{FromCentre}
use Rattle.smq_count.specs.declared.column.Column.TheVariants as column
use Rattle.smq_count.specs.declared.column.Period.TheVariants as period
use Rattle.smq_engine.specs.Record.{AsksCount, AsksReport, SaysLost, SaysRow, count_name, record_of}
use Rattle.smq_engine.specs.Answers.{present_after, refusals, rows_of, said_of, told_line, totals_after}
use Rattle.smq_engine.specs.Followed.{AreAllOf, AreBeforeBadOf, AreFirstOf, EndsAtBadRow, EndsBy, IsFollowed, Written, held}
use Rattle.smq_scratch.specs.Lines.{message_lines, receipt_lines}
use Rattle.smq_report.specs.declared.pick.Output.TheVariants.{Messages, Receipts}
use Rattle.smq_engine.specs.IsRun.{output_text}

-- 1,460 octets of the centre's are missing in session 10
abbrev pub loss : Loss
loss = record { session = record { 0 = 10 }; dir = FromCentre; octets = 1460 }

-- what known records say
pub record KnowsRecords : Type 0 where
  pub of_view : record_of (codes "ask" ∷ codes "link-delay" ∷ []) ≡ Some (AsksReport (pick.View view.LinkDelay))
  pub of_list : record_of (codes "ask" ∷ codes "open" ∷ []) ≡ Some (AsksReport (pick.List list.Open))
  pub whole : record_of (codes "ask" ∷ codes "report" ∷ []) ≡ Some (AsksReport pick.All)
  pub row : record_of (codes "clock" ∷ codes "5" ∷ []) ≡ Some (SaysRow (Plain (Advance 5)))
  pub count : record_of (codes "ask" ∷ codes "count" ∷ codes "link" ∷ codes "prefix:3" ∷ [])
      ≡ Some (AsksCount (column.View view.Link ∷ column.Prefix 3 ∷ []))
  pub lost : record_of (codes "lost" ∷ codes "10" ∷ codes "centre" ∷ codes "1460" ∷ []) ≡ Some (SaysLost loss)
  pub no_name : record_of (codes "ask" ∷ []) ≡ None
  pub no_column : record_of (codes "ask" ∷ codes "count" ∷ []) ≡ None
  pub another_column : record_of (codes "ask" ∷ codes "count" ∷ codes "link" ∷ codes "links" ∷ []) ≡ None
  pub no_count : record_of (codes "ask" ∷ codes "counts" ∷ codes "link" ∷ codes "day" ∷ []) ≡ None
  pub no_octets : record_of (codes "lost" ∷ codes "10" ∷ codes "centre" ∷ []) ≡ None
  pub another_end : record_of (codes "lost" ∷ codes "10" ∷ codes "server" ∷ codes "1" ∷ []) ≡ None
  pub two_names : record_of (codes "ask" ∷ codes "link" ∷ codes "open" ∷ []) ≡ None
  pub another_name : record_of (codes "ask" ∷ codes "links" ∷ []) ≡ None
  pub another_word : record_of (codes "asks" ∷ codes "link" ∷ []) ≡ None
  pub nothing : record_of [] ≡ None

abbrev pub clock : ℕ → rows.Row
clock moment = Plain (Advance moment)

-- a clock and a question, and then an earlier clock, a later one, two gaps and another question
abbrev pub asked : List Record
asked =
    Row (clock 5) ∷ Ask (Report (pick.View view.Route)) ∷ Row (clock 4) ∷ Row (clock 6) ∷ Lost loss ∷ Lost loss
    ∷ Ask (Report pick.All) ∷ []

-- Each record is answered by those before it. The line of an answer tells the number of its question, what is asked, the clock, the
-- number of refused rows, and those of gaps and their octets; a refused row is told with its number among the records.
pub record KnowsAnswers : Type 0 where
  pub each : (say : List Record → Record → List ℕ) (a b c : Record)
      → said_of say [] (a ∷ b ∷ c ∷ []) ≡ say [] a ++ (say (a ∷ []) b ++ (say (a ∷ b ∷ []) c ++ []))
  pub of_view : told_line 6 (Report (pick.View view.Route)) 5 (record { refused = 1; gaps = 2; octets = 2920 })
      ≡ codes "told,6,route,5,1,2,2920" ++ 10 ∷ []
  pub of_report : told_line 2 (Report pick.All) 4102444800000 (record { refused = 0; gaps = 0; octets = 0 })
      ≡ codes "told,2,report,4102444800000,0,0,0" ++ 10 ∷ []
  pub of_count : count_name (column.View view.Link ∷ column.View view.Network ∷ column.Period period.Day ∷ [])
      ≡ codes "count link network day"
  pub played : rows_of asked ≡ clock 5 ∷ clock 4 ∷ clock 6 ∷ []
  pub first : (present_after [] (Row (clock 5) ∷ [])).settings.clock ≡ 5
  pub last : (present_after [] asked).settings.clock ≡ 6
  pub totals : totals_after [] asked ≡ (record { refused = 1; gaps = 2; octets = 2920 })
  pub told : refusals [] asked ≡ codes "row 3: 11 ClockBack 5" ++ 10 ∷ []

-- two clocks that are earlier than that of the settings, which is 7
abbrev pub clocks : List Record
clocks = Row (clock 6) ∷ Row (clock 4) ∷ []

abbrev pub set_clock : List rows.Row
set_clock = clock 7 ∷ []

-- nothing stood after an octet 7 among answers, and this was told
abbrev pub told_alone : List ℕ → Written
told_alone told = held (Some (7 ∷ [])) (Some (7 ∷ [])) (Some []) (Some told)

abbrev pub told_clocks : List ℕ
told_clocks = codes "row 1: 11 ClockBack 7" ++ 10 ∷ codes "row 2: 11 ClockBack 7" ++ 10 ∷ []

-- an answer is lost
abbrev pub loses_answer : Option (List ℕ) → Option (List ℕ) → Written
loses_answer old new = held (Some (7 ∷ [])) (Some []) old new

-- What was written where all records were played, up to a bad one, and where a fault ended it: both clocks are told as refused rows, no fewer
-- are counted, and nothing that stood there is lost. Settings that say no rows are played by nobody.
pub record KnowsEndings : Type 0 where
  pub followed : (format : Format) (settings text : List ℕ) → settings_of settings ≡ Some set_clock → AreAllOf text clocks
      → IsFollowed format settings 2 (told_alone told_clocks) text
  pub fewer_refused : (format : Format) (settings text : List ℕ) (w : Written) → settings_of settings ≡ Some set_clock
      → ((records : List Record) → AreAllOf text records → records ≡ clocks) → IsFollowed format settings 1 w text → ⊥
  pub unsaid : (format : Format) (settings text : List ℕ) → settings_of settings ≡ Some set_clock
      → ((records : List Record) → AreAllOf text records → records ≡ clocks) → IsFollowed format settings 2 (told_alone []) text → ⊥
  pub lost : (format : Format) (settings text : List ℕ) (refused : ℕ) (old new : Option (List ℕ))
      → IsFollowed format settings refused (loses_answer old new) text → ⊥
  pub unset : (format : Format) (settings text : List ℕ) (refused : ℕ) (w : Written) → settings_of settings ≡ None
      → IsFollowed format settings refused w text → ⊥
  pub bad_row : (format : Format) (settings text : List ℕ) → settings_of settings ≡ Some set_clock → AreBeforeBadOf text clocks
      → EndsAtBadRow format settings 3 (told_alone told_clocks) text
  pub row_0 : (format : Format) (settings text : List ℕ) (w : Written) → EndsAtBadRow format settings 0 w text → ⊥
  pub lost_at_bad_row : (format : Format) (settings text : List ℕ) (row : ℕ) (old new : Option (List ℕ))
      → EndsAtBadRow format settings row (loses_answer old new) text → ⊥
  pub by_bad_row : (format : Format) (settings text : List ℕ) → settings_of settings ≡ Some set_clock → AreBeforeBadOf text clocks
      → EndsBy (BadRow 3) format settings (told_alone told_clocks) text
  pub by_row_0 : (format : Format) (settings text : List ℕ) (w : Written) → EndsBy (BadRow 0) format settings w text → ⊥
  pub by_bad_settings : (format : Format) (settings text : List ℕ) → settings_of settings ≡ None
      → EndsBy BadSettings format settings (told_alone []) text
  pub by_bad_settings_told : (format : Format) (settings text : List ℕ) → EndsBy BadSettings format settings (told_alone told_clocks) text → ⊥
  pub by_good_settings : (format : Format) (settings text : List ℕ) (w : Written) → settings_of settings ≡ Some set_clock
      → EndsBy BadSettings format settings w text → ⊥
  pub by_read : (format : Format) (settings text : List ℕ) → settings_of settings ≡ Some set_clock → AreFirstOf text clocks
      → EndsBy Read format settings (told_alone told_clocks) text
  pub by_read_lost : (format : Format) (settings text : List ℕ) (old new : Option (List ℕ))
      → EndsBy Read format settings (loses_answer old new) text → ⊥
  pub by_write : (format : Format) (settings text : List ℕ) → settings_of settings ≡ Some set_clock → AreFirstOf text clocks
      → EndsBy Write format settings (told_alone (codes "row 1: 11 ClockBack 7" ++ 10 ∷ codes "row 2: 1")) text
  pub by_write_lost : (format : Format) (settings text : List ℕ) (old new : Option (List ℕ))
      → EndsBy Write format settings (loses_answer old new) text → ⊥
  pub by_memory_at_once : (format : Format) (settings text : List ℕ) → EndsBy Memory format settings (told_alone []) text
  pub by_memory : (format : Format) (settings text : List ℕ) → settings_of settings ≡ Some set_clock → AreFirstOf text clocks
      → EndsBy Memory format settings (told_alone told_clocks) text
  pub by_memory_lost : (format : Format) (settings text : List ℕ) (old new : Option (List ℕ))
      → EndsBy Memory format settings (loses_answer old new) text → ⊥
  pub by_no_thread : (format : Format) (settings text : List ℕ) (w : Written) → EndsBy NoThread format settings w text → ⊥
  pub by_desk : (format : Format) (settings text : List ℕ) (w : Written) → EndsBy Desk format settings w text → ⊥

-- where no message or no receipt is present, lines are the record of their columns alone
pub record KnowsLines : Type 0 where
  pub messages : (p : PresentValue) → message_lines p ≡ [] → output_text Messages p
      ≡ codes "link,session,offset,moment,number,route,network,outcome,error,id,response_offset,"
      ++ (codes "receipt_session,receipt_offset,receipt_moment,centre_delay,key,command,source,ton" ++ 10 ∷ [])
  pub receipts : (p : PresentValue) → receipt_lines p ≡ [] → output_text Receipts p
      ≡ codes "link,session,offset,moment,id,state,interim,error,standing,message_session,message_offset,key,command" ++ 10 ∷ []
