-- Reports, columns and values at known tables.
use Rattle.std.specs.Prelude.{◌≡◌, ℕ, List, [], ◌∷◌, ◌++◌, Some, codes, map}
use Rattle.std.specs.List.{flat_map}
use Rattle.std.specs.FinMap as fin
use Rattle.smq_kit.specs.declared.error_code.ErrorCode.TheVariants as c
use Rattle.smq_kit.specs.declared.place.Dir.{Dir}
use Rattle.smq_kit.specs.declared.place.Dir.TheVariants.{FromClient, FromCentre}
use Rattle.smq_kit.specs.declared.place.Place.{Place}
use Rattle.smq_tally.specs.declared.band.Band.TheVariants as b
use Rattle.smq_tally.specs.declared.fact.CountKey.{CountKey}
use Rattle.smq_tally.specs.declared.list.List.TheVariants as l
use Rattle.smq_tally.specs.declared.list.Listed.{Listed}
use Rattle.smq_tally.specs.declared.outcome.Outcome.TheVariants as o
use Rattle.smq_tally.specs.declared.value.SubmitError.TheVariants as e
use Rattle.smq_tally.specs.declared.value.Value.TheVariants as w
use Rattle.smq_tally.specs.declared.view.View.TheVariants as v
use Rattle.smq_tally.specs.Lists.{listed}
use Rattle.smq_tally.specs.Rows.{count_key}
use Rattle.smq_tally.specs.Tables.{TablesValue}
use Rattle.smq_report.specs.declared.pick.Format.TheVariants as format
use Rattle.smq_report.specs.declared.pick.Pick.TheVariants as pick
use Rattle.smq_report.specs.declared.pick.Section.TheVariants as section
use Rattle.smq_report.specs.Beginnings.{AppendsBeginning}
use Rattle.smq_report.specs.Csv.{csv_text}
use Rattle.smq_report.specs.Report.{report_text}
use Rattle.smq_report.specs.Sections.{sections_of}
use Rattle.smq_report.specs.Table.{left_in, right_in, table_place, table_row, table_text}
use Rattle.smq_report.specs.Values.{dir_text, value_text}

-- lines, each ended by a line feed
abbrev pub lines_of : List (List ℕ) → List ℕ
lines_of lines = flat_map (λ line. line ++ 10 ∷ []) lines

-- ---- tables with a value of each kind, and places of both directions

abbrev pub place_at : ℕ → Dir → ℕ → Place
place_at session dir offset = record { session = record { 0 = session }; dir = dir; offset = offset }

abbrev pub known_counts : List (CountKey × ℕ)
known_counts =
    (count_key v.Link (w.Link (record { 0 = 4294967295 })) o.Open, 1234567)
    ∷ (count_key v.Route (w.Route (record { 0 = 10 })) o.Delivered, 2)
    ∷ (count_key v.Route w.NoRoute o.Waiting, 1)
    ∷ (count_key v.Network (w.Network (codes "23410")) o.Delivered, 3)
    ∷ (count_key v.Network w.NoNetwork o.Unasked, 1)
    ∷ (count_key v.Error (w.Error (e.Refused 88)) o.Refused, 1)
    ∷ (count_key v.Error (w.Error (e.Failed (c.Network 3 264))) o.Failed, 2)
    ∷ (count_key v.Error (w.Error (e.Failed (c.Text (codes "027")))) o.Failed, 1)
    ∷ (count_key v.Error (w.Error (e.Failed c.Unstated)) o.Failed, 1)
    ∷ (count_key v.LinkDelay (w.Band b.Under5Seconds) o.Delivered, 7)
    ∷ (count_key v.CentreDelay (w.Band b.Over) o.Failed, 1)
    ∷ []

abbrev pub known_places : List Listed
known_places =
    listed l.Waiting (place_at 10 FromClient 49)
    ∷ listed l.Waiting (place_at 10 FromCentre 0)
    ∷ listed l.Broken (place_at 18446744073709551615 FromCentre 281474976710656)
    ∷ []

abbrev pub known_tables : TablesValue
known_tables = record { counts = fin.from_sorted known_counts; places = fin.from_sorted (map (λ e. (e, tt)) known_places) }

-- the lines of their whole report as CSV
abbrev pub known_csv : List (List ℕ)
known_csv =
    codes "view,link,4294967295,open,1234567"
    ∷ codes "view,route,10,delivered,2"
    ∷ codes "view,route,none,waiting,1"
    ∷ codes "view,network,23410,delivered,3"
    ∷ codes "view,network,none,unasked,1"
    ∷ codes "view,error,status:88,refused,1"
    ∷ codes "view,error,net:3:264,failed,2"
    ∷ codes "view,error,text:027,failed,1"
    ∷ codes "view,error,unstated,failed,1"
    ∷ codes "view,link-delay,under-5s,delivered,7"
    ∷ codes "view,centre-delay,over,failed,1"
    ∷ codes "list,waiting,10,client,49"
    ∷ codes "list,waiting,10,centre,0"
    ∷ codes "list,broken,18446744073709551615,centre,281474976710656"
    ∷ []

-- the same as tables
abbrev pub known_table : List (List ℕ)
known_table =
    codes "view link"
    ∷ codes "  4294967295               open          1234567"
    ∷ codes "view route"
    ∷ codes "  10                       delivered           2"
    ∷ codes "  none                     waiting             1"
    ∷ codes "view network"
    ∷ codes "  23410                    delivered           3"
    ∷ codes "  none                     unasked             1"
    ∷ codes "view error"
    ∷ codes "  status:88                refused             1"
    ∷ codes "  net:3:264                failed              2"
    ∷ codes "  text:027                 failed              1"
    ∷ codes "  unstated                 failed              1"
    ∷ codes "view link-delay"
    ∷ codes "  under-5s                 delivered           7"
    ∷ codes "view centre-delay"
    ∷ codes "  over                     failed              1"
    ∷ codes "list waiting"
    ∷ codes "                    10 client               49"
    ∷ codes "                    10 centre                0"
    ∷ codes "list stray-answers"
    ∷ codes "list mismatched"
    ∷ codes "list stray-receipts"
    ∷ codes "list ambiguous-receipts"
    ∷ codes "list extra-receipts"
    ∷ codes "list unreadable"
    ∷ codes "list undecodable"
    ∷ codes "list broken"
    ∷ codes "  18446744073709551615 centre  281474976710656"
    ∷ codes "list open"
    ∷ codes "list lapsed"
    ∷ []

-- Whole reports of these, and those of one view and of one list, with rows and without.
pub record KnowsReports : Type 0 where
  pub csv : csv_text known_tables pick.All ≡ lines_of known_csv
  pub table : table_text known_tables pick.All ≡ lines_of known_table
  pub csv_view : csv_text known_tables (pick.View v.Route) ≡ lines_of (codes "view,route,10,delivered,2" ∷ codes "view,route,none,waiting,1" ∷ [])
  pub csv_list : csv_text known_tables (pick.List l.Waiting) ≡ lines_of (codes "list,waiting,10,client,49" ∷ codes "list,waiting,10,centre,0" ∷ [])
  pub csv_empty : csv_text known_tables (pick.List l.Open) ≡ []
  pub table_view : table_text known_tables (pick.View v.CentreDelay) ≡ lines_of (codes "view centre-delay" ∷ codes "  over                     failed              1" ∷ [])
  pub table_list : table_text known_tables (pick.List l.Broken) ≡ lines_of (codes "list broken" ∷ codes "  18446744073709551615 centre  281474976710656" ∷ [])
  pub table_empty : table_text known_tables (pick.List l.Open) ≡ lines_of (codes "list open" ∷ [])
  pub in_csv : report_text (pick.List l.Waiting) format.Csv known_tables ≡ csv_text known_tables (pick.List l.Waiting)
  pub in_table : report_text (pick.List l.Waiting) format.Table known_tables ≡ table_text known_tables (pick.List l.Waiting)

-- ---- columns

-- Texts that are shorter than their column, as long and longer: a value, an outcome and a count; a session, a direction
-- and an offset.
pub record KnowsColumns : Type 0 where
  pub left_shorter : left_in 4 (codes "ab") ≡ codes "ab  "
  pub left_equal : left_in 4 (codes "abcd") ≡ codes "abcd"
  pub left_longer : left_in 4 (codes "abcde") ≡ codes "abcde"
  pub right_shorter : right_in 4 (codes "ab") ≡ codes "  ab"
  pub right_equal : right_in 4 (codes "abcd") ≡ codes "abcd"
  pub right_longer : right_in 4 (codes "abcde") ≡ codes "abcde"
  pub shorter_row :
      table_row (w.Network (codes "12345678901234567890123"), o.Delivered, 123456789)
      ≡ codes "  12345678901234567890123  delivered   123456789" ++ 10 ∷ []
  pub equal_row :
      table_row (w.Network (codes "123456789012345678901234"), o.Mismatched, 1234567890)
      ≡ codes "  123456789012345678901234 mismatched 1234567890" ++ 10 ∷ []
  pub longer_row :
      table_row (w.Network (codes "1234567890123456789012345"), o.NoId, 12345678901)
      ≡ codes "  1234567890123456789012345 noid       12345678901" ++ 10 ∷ []
  pub shorter_place :
      table_place (place_at 1234567890123456789 FromClient 123456789012345)
      ≡ codes "   1234567890123456789 client  123456789012345" ++ 10 ∷ []
  pub equal_place :
      table_place (place_at 18446744073709551615 FromCentre 1234567890123456)
      ≡ codes "  18446744073709551615 centre 1234567890123456" ++ 10 ∷ []
  pub longer_place :
      table_place (place_at 123456789012345678901 FromCentre 12345678901234567)
      ≡ codes "  123456789012345678901 centre 12345678901234567" ++ 10 ∷ []

-- ---- sections and values

-- the sections of a whole report, in order, and of one view or list
pub record KnowsSections : Type 0 where
  pub all :
      sections_of pick.All
      ≡ section.View v.Link ∷ section.View v.Route ∷ section.View v.Network ∷ section.View v.Error
      ∷ section.View v.LinkDelay ∷ section.View v.CentreDelay
      ∷ section.List l.Waiting ∷ section.List l.StrayAnswers ∷ section.List l.Mismatched
      ∷ section.List l.StrayReceipts ∷ section.List l.AmbiguousReceipts ∷ section.List l.ExtraReceipts
      ∷ section.List l.Unreadable ∷ section.List l.Undecodable ∷ section.List l.Broken
      ∷ section.List l.Open ∷ section.List l.Lapsed ∷ []
  pub view : sections_of (pick.View v.Error) ≡ section.View v.Error ∷ []
  pub list : sections_of (pick.List l.Open) ≡ section.List l.Open ∷ []

-- values of each kind, least and greatest, and both directions
pub record KnowsTexts : Type 0 where
  pub link : value_text (w.Link (record { 0 = 0 })) ≡ codes "0"
  pub last_link : value_text (w.Link (record { 0 = 4294967295 })) ≡ codes "4294967295"
  pub route : value_text (w.Route (record { 0 = 10 })) ≡ codes "10"
  pub last_route : value_text (w.Route (record { 0 = 4294967295 })) ≡ codes "4294967295"
  pub no_route : value_text w.NoRoute ≡ codes "none"
  pub network_code : value_text (w.Network (codes "310026")) ≡ codes "310026"
  pub no_network : value_text w.NoNetwork ≡ codes "none"
  pub status : value_text (w.Error (e.Refused 4294967295)) ≡ codes "status:4294967295"
  pub network : value_text (w.Error (e.Failed (c.Network 3 264))) ≡ codes "net:3:264"
  pub last_network : value_text (w.Error (e.Failed (c.Network 255 65535))) ≡ codes "net:255:65535"
  pub text : value_text (w.Error (e.Failed (c.Text (codes "0x-27_A.b")))) ≡ codes "text:0x-27_A.b"
  pub unstated : value_text (w.Error (e.Failed c.Unstated)) ≡ codes "unstated"
  pub band : value_text (w.Band b.Early) ≡ codes "early"
  pub client : dir_text FromClient ≡ codes "client"
  pub centre : dir_text FromCentre ≡ codes "centre"

-- ---- beginnings of a text of two octets, behind an octet that stood there

-- nothing, one octet and both begin it; another octet, one octet more, and one in the place of what stood there don't
pub record KnowsBeginnings : Type 0 where
  pub nothing : AppendsBeginning (Some (7 ∷ [])) (Some (7 ∷ [])) (1 ∷ 2 ∷ [])
  pub first : AppendsBeginning (Some (7 ∷ [])) (Some (7 ∷ 1 ∷ [])) (1 ∷ 2 ∷ [])
  pub all : AppendsBeginning (Some (7 ∷ [])) (Some (7 ∷ 1 ∷ 2 ∷ [])) (1 ∷ 2 ∷ [])
  pub another : AppendsBeginning (Some (7 ∷ [])) (Some (7 ∷ 2 ∷ [])) (1 ∷ 2 ∷ []) → ⊥
  pub more : AppendsBeginning (Some (7 ∷ [])) (Some (7 ∷ 1 ∷ 2 ∷ 3 ∷ [])) (1 ∷ 2 ∷ []) → ⊥
  pub lost : AppendsBeginning (Some (7 ∷ [])) (Some (1 ∷ [])) (1 ∷ 2 ∷ []) → ⊥
