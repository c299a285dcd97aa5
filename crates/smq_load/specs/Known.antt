-- Limits, and definitions at known values.
use Rattle.std.specs.Prelude.{◌≡◌, ◌++◌, ℕ, List, [], ◌∷◌, codes, drop, take, Some, None, if◌then◌else◌, length, map, option_and_then, true, false}
use Rattle.std.specs.Str.{is_utf8}
use Rattle.toml.specs.Parse.{parse_document}
use Rattle.smq_kit.specs.declared.message_id.Form.TheVariants.{Verbatim, Decimal, Hexadecimal}
use Rattle.smq_kit.specs.declared.place.Dir.{Dir}
use Rattle.smq_kit.specs.declared.place.Dir.TheVariants.{FromClient, FromCentre}
use Rattle.smq_present.specs.declared.present.edit.Edit.TheVariants.{Withdraw, SetForm, SetWindow, AddRoute, EndRoute, CorrectRoute, Advance}
use Rattle.smq_load.specs.declared.input.TheConstants.{MOST_OCTETS, MOST_READS}
use Rattle.smq_load.specs.declared.link_settings.TheConstants.{MOST_LINKS}
use Rattle.smq_load.specs.declared.link_settings.LinkSettings.{LinkSettings}
use Rattle.smq_load.specs.declared.record.Row.{Row}
use Rattle.smq_load.specs.declared.record.Row.TheVariants.{Piece, Plain}
use Rattle.smq_load.specs.declared.script.TheConstants.{MOST_RECORDS}
use Rattle.smq_load.specs.declared.settings.TheConstants.{MOST_SETTINGS}
use Rattle.smq_load.specs.Decimal.{decimal_of, decimal_to}
use Rattle.smq_load.specs.Fields.{dir_of, form_of, link_of, moment_of, network_of, prefix_of, route_of, session_of, window_of}
use Rattle.smq_load.specs.Row.{row_of}
use Rattle.smq_load.specs.Script.{AreRecordsOf, IsFirstBad, IsScript, SayRows, may_have, most_records}
use Rattle.smq_load.specs.Settings.{are_distinct, fitting, rows_in, settings_of}

-- how many octets, reads and records a script may have, and how many octets and links settings may have: so many are
-- taken, and one more is not
pub record KnowsLimits : Type 0 where
  pub octets : MOST_OCTETS ≡ 268435456
  pub all_octets : may_have 268435456 ≡ true
  pub past_octets : may_have 268435457 ≡ false
  pub reads : MOST_READS ≡ 16777216
  pub records : most_records ≡ 1000000
  pub read_records : MOST_RECORDS ≡ 1000000
  pub settings : MOST_SETTINGS ≡ 1048576
  pub links : MOST_LINKS ≡ 4096
  pub all_records : (text : List ℕ) (records : List (List (List ℕ))) (rows : List Row)
      → AreRecordsOf text records → SayRows records rows → length records ≡ 1000000
      → IsScript text rows
  pub all_settings : (octets : List ℕ) → length octets ≡ 1048576
      → settings_of octets
      ≡ (if is_utf8 octets then option_and_then rows_in (parse_document octets) else None)
  pub past_settings : (octets : List ℕ) → length octets ≡ 1048577 → settings_of octets ≡ None
  pub all_links : (links : List LinkSettings) → length links ≡ 4096
      → are_distinct (map (λ forms. forms.link.0) links) ≡ true → fitting links ≡ Some links
  pub past_links : (links : List LinkSettings) → length links ≡ 4097 → fitting links ≡ None

-- decimals of one digit, with leading zeros, of 20 digits at both sides of 2^64, of 21 digits, and texts that are none
pub record KnowsDecimals : Type 0 where
  pub nought : decimal_of (codes "0") ≡ Some 0
  pub leading : decimal_of (codes "007") ≡ Some 7
  pub places : decimal_of (codes "120") ≡ Some 120
  pub twenty : decimal_of (codes "99999999999999999999") ≡ Some 99999999999999999999
  pub greatest : decimal_to 18446744073709551615 (codes "18446744073709551615")
      ≡ Some 18446744073709551615
  pub above : decimal_to 18446744073709551615 (codes "18446744073709551616") ≡ None
  pub twenty_one : decimal_of (codes "000000000000000000001") ≡ None
  pub empty : decimal_of [] ≡ None
  pub letter : decimal_of (codes "1x") ≡ None
  pub sign : decimal_of (codes "+1") ≡ None
  pub space : decimal_of (codes " 1") ≡ None

-- links and routes to 2^32 - 1, sessions to 2^64 - 1 and moments to 4,102,444,800,000 ms, and one more of each
pub record KnowsNumbers : Type 0 where
  pub link : link_of (codes "4294967295") ≡ Some (record { 0 = 4294967295 })
  pub past_links : link_of (codes "4294967296") ≡ None
  pub long_link : link_of (codes "00000000004294967295") ≡ Some (record { 0 = 4294967295 })
  pub longer_link : link_of (codes "000000000004294967295") ≡ None
  pub route : route_of (codes "4294967295") ≡ Some (record { 0 = 4294967295 })
  pub past_routes : route_of (codes "4294967296") ≡ None
  pub session : session_of (codes "18446744073709551615")
      ≡ Some (record { 0 = 18446744073709551615 })
  pub past_sessions : session_of (codes "18446744073709551616") ≡ None
  pub moment : moment_of (codes "4102444800000") ≡ Some 4102444800000
  pub past_moments : moment_of (codes "4102444800001") ≡ None

-- instants at both ends of the moments, on a leap day, and texts that are none
pub record KnowsInstants : Type 0 where
  pub epoch : moment_of (codes "1970-01-01T00:00:00Z") ≡ Some 0
  pub lapsed : moment_of (codes "1970-01-03T00:00:01Z") ≡ Some 172801000
  pub leap_day : moment_of (codes "2000-02-29T23:59:59Z") ≡ Some 951868799000
  pub last : moment_of (codes "2100-01-01T00:00:00Z") ≡ Some 4102444800000
  pub past_last : moment_of (codes "2100-01-01T00:00:01Z") ≡ None
  pub before : moment_of (codes "1969-12-31T23:59:59Z") ≡ None
  pub day_30_of_february : moment_of (codes "1970-02-30T00:00:00Z") ≡ None
  pub no_leap_day : moment_of (codes "2100-02-29T00:00:00Z") ≡ None
  pub day_31_of_june : moment_of (codes "2000-06-31T00:00:00Z") ≡ None
  pub month_13 : moment_of (codes "1970-13-01T00:00:00Z") ≡ None
  pub month_0 : moment_of (codes "1970-00-01T00:00:00Z") ≡ None
  pub day_0 : moment_of (codes "1970-01-00T00:00:00Z") ≡ None
  pub hour_24 : moment_of (codes "1970-01-01T24:00:00Z") ≡ None
  pub minute_60 : moment_of (codes "1970-01-01T00:60:00Z") ≡ None
  pub second_60 : moment_of (codes "1970-01-01T00:00:60Z") ≡ None
  pub fraction : moment_of (codes "1970-01-01T00:00:00.0Z") ≡ None
  pub offset : moment_of (codes "1970-01-01T00:00:00+00:00") ≡ None
  pub no_zone : moment_of (codes "1970-01-01T00:00:00") ≡ None
  pub first_dash : moment_of (codes "1970/01-01T00:00:00Z") ≡ None
  pub second_dash : moment_of (codes "1970-01/01T00:00:00Z") ≡ None
  pub small_t : moment_of (codes "1970-01-01t00:00:00Z") ≡ None
  pub first_colon : moment_of (codes "1970-01-01T00.00:00Z") ≡ None
  pub second_colon : moment_of (codes "1970-01-01T00:00.00Z") ≡ None
  pub small_z : moment_of (codes "1970-01-01T00:00:00z") ≡ None
  pub blank : moment_of (codes "1970-01-01 00:00:00Z") ≡ None
  pub no_digit : moment_of (codes "1970-01-0aT00:00:00Z") ≡ None

-- each direction and form, windows at both ends of their range, and prefixes and networks at both ends of their lengths
pub record KnowsFields : Type 0 where
  pub client : dir_of (codes "client") ≡ Some FromClient
  pub centre : dir_of (codes "centre") ≡ Some FromCentre
  pub verbatim : form_of (codes "verbatim") ≡ Some Verbatim
  pub decimal : form_of (codes "decimal") ≡ Some Decimal
  pub hexadecimal : form_of (codes "hexadecimal") ≡ Some Hexadecimal
  pub other_form : form_of (codes "hex") ≡ None
  pub window_of_1 : window_of (codes "1") ≡ Some 1
  pub window_of_0 : window_of (codes "0") ≡ None
  pub zeros : window_of (codes "00") ≡ None
  pub greatest_window : window_of (codes "4102444800000") ≡ Some 4102444800000
  pub past_window : window_of (codes "4102444800001") ≡ None
  pub window_instant : window_of (codes "1970-01-03T00:00:00Z") ≡ None
  pub prefix : prefix_of (codes "4") ≡ Some (codes "4")
  pub long_prefix : prefix_of (codes "447700900123456") ≡ Some (codes "447700900123456")
  pub longer_prefix : prefix_of (codes "4477009001234567") ≡ None
  pub empty_prefix : prefix_of [] ≡ None
  pub plus_prefix : prefix_of (codes "+44") ≡ None
  pub network : network_of (codes "23410") ≡ Some (codes "23410")
  pub long_network : network_of (codes "310026") ≡ Some (codes "310026")
  pub longer_network : network_of (codes "3100260") ≡ None
  pub short_network : network_of (codes "2341") ≡ None
  pub dashed_network : network_of (codes "234-10") ≡ None

-- the fields of a record that says a row
abbrev pub fields_at : List ℕ → List ℕ → List ℕ → List (List ℕ)
fields_at dir moment octets = codes "piece" ∷ codes "1" ∷ codes "10" ∷ dir ∷ moment ∷ octets ∷ []

-- the row that such a record says
abbrev pub row_at : Dir → ℕ → List ℕ → Row
row_at dir moment octets =
    Piece (record { link = record { 0 = 1 }; session = record { 0 = 10 }; dir = dir; moment = moment; octets = octets })

-- a row of each direction, at the last moment, at an instant and with no octets, and records that say none
pub record KnowsPieces : Type 0 where
  pub client : row_of (fields_at (codes "client") (codes "1000") (codes "00fF"))
      ≡ Some (row_at FromClient 1000 (0 ∷ 255 ∷ []))
  pub centre : row_of (fields_at (codes "centre") (codes "4102444800000") [])
      ≡ Some (row_at FromCentre 4102444800000 [])
  pub instant : row_of (fields_at (codes "client") (codes "1970-01-03T00:00:01Z") [])
      ≡ Some (row_at FromClient 172801000 [])
  pub other_dir : row_of (fields_at (codes "Client") (codes "1000") []) ≡ None
  pub past : row_of (fields_at (codes "client") (codes "4102444800001") []) ≡ None
  pub odd : row_of (fields_at (codes "client") (codes "1000") (codes "0")) ≡ None
  pub no_digit : row_of (fields_at (codes "client") (codes "1000") (codes "0g")) ≡ None
  pub other_kind : row_of (codes "pieces" ∷ drop 1 (fields_at (codes "client") (codes "1000") [])) ≡ None
  pub five : row_of (take 5 (fields_at (codes "client") (codes "1000") [])) ≡ None
  pub seven : row_of (fields_at (codes "client") (codes "1000") [] ++ [] ∷ []) ≡ None

-- a record of each other kind, one of each that says none, and one of each with a field too many
pub record KnowsRows : Type 0 where
  pub withdraw : row_of (codes "withdraw" ∷ codes "10" ∷ [])
      ≡ Some (Plain (Withdraw (record { 0 = 10 })))
  pub withdraw_none : row_of (codes "withdraw" ∷ []) ≡ None
  pub withdraw_two : row_of (codes "withdraw" ∷ codes "10" ∷ codes "10" ∷ []) ≡ None
  pub form : row_of (codes "form" ∷ codes "1" ∷ codes "hexadecimal" ∷ codes "decimal" ∷ [])
      ≡ Some (Plain (SetForm (record { 0 = 1 }) Hexadecimal Decimal))
  pub form_word : row_of (codes "form" ∷ codes "1" ∷ codes "Decimal" ∷ codes "decimal" ∷ []) ≡ None
  pub form_five :
      row_of (codes "form" ∷ codes "1" ∷ codes "decimal" ∷ codes "decimal" ∷ codes "decimal" ∷ [])
      ≡ None
  pub window : row_of (codes "window" ∷ codes "1" ∷ codes "1000" ∷ []) ≡ Some (Plain (SetWindow (record { 0 = 1 }) 1000))
  pub window_0 : row_of (codes "window" ∷ codes "1" ∷ codes "0" ∷ []) ≡ None
  pub window_alone : row_of (codes "window" ∷ codes "1" ∷ []) ≡ None
  pub window_four : row_of (codes "window" ∷ codes "1" ∷ codes "1000" ∷ codes "1000" ∷ []) ≡ None
  pub route : row_of (codes "route" ∷ codes "44" ∷ codes "0" ∷ codes "7" ∷ codes "23410" ∷ [])
      ≡ Some (Plain (AddRoute (codes "44") 0 (record { 0 = 7 }) (codes "23410")))
  pub route_prefix : row_of (codes "route" ∷ [] ∷ codes "0" ∷ codes "7" ∷ codes "23410" ∷ []) ≡ None
  pub route_six :
      row_of (codes "route" ∷ codes "44" ∷ codes "0" ∷ codes "7" ∷ codes "23410" ∷ codes "1" ∷ [])
      ≡ None
  pub end : row_of (codes "end" ∷ codes "44" ∷ codes "5" ∷ codes "1970-01-01T00:00:01Z" ∷ [])
      ≡ Some (Plain (EndRoute (codes "44") 5 1000))
  pub end_open : row_of (codes "end" ∷ codes "44" ∷ codes "5" ∷ []) ≡ None
  pub end_five : row_of (codes "end" ∷ codes "44" ∷ codes "5" ∷ codes "6" ∷ codes "7" ∷ []) ≡ None
  pub correct : row_of (codes "correct" ∷ codes "44" ∷ codes "0" ∷ codes "8" ∷ codes "310026" ∷ [])
      ≡ Some (Plain (CorrectRoute (codes "44") 0 (record { 0 = 8 }) (codes "310026")))
  pub correct_network : row_of (codes "correct" ∷ codes "44" ∷ codes "0" ∷ codes "8" ∷ codes "3100" ∷ []) ≡ None
  pub correct_six :
      row_of (codes "correct" ∷ codes "44" ∷ codes "0" ∷ codes "8" ∷ codes "310026" ∷ codes "1" ∷ [])
      ≡ None
  pub clock : row_of (codes "clock" ∷ codes "172801000" ∷ []) ≡ Some (Plain (Advance 172801000))
  pub clock_instant : row_of (codes "clock" ∷ codes "1970-01-03T00:00:01Z" ∷ [])
      ≡ Some (Plain (Advance 172801000))
  pub clock_date : row_of (codes "clock" ∷ codes "1970-02-30T00:00:00Z" ∷ []) ≡ None
  pub clock_two : row_of (codes "clock" ∷ codes "1" ∷ codes "2" ∷ []) ≡ None
  pub other_word : row_of (codes "close" ∷ codes "1" ∷ []) ≡ None
  pub empty : row_of ([] ∷ []) ≡ None

-- the text of lines, each with its line feed
abbrev pub text_of : List (List ℕ) → List ℕ
text_of [] = []
text_of (line ∷ lines) = line ++ 10 ∷ text_of lines

-- the form of a link of this number, verbatim twice
abbrev pub plain_forms : ℕ → Row
plain_forms number = Plain (SetForm (record { 0 = number }) Verbatim Verbatim)

-- settings of links and of a clock, in either order, and settings that are none
pub record KnowsSettings : Type 0 where
  pub empty : settings_of [] ≡ Some []
  pub comment : settings_of (codes "# none") ≡ Some []
  pub link : settings_of (text_of (codes "[[link]]" ∷ codes "id = 1"
      ∷ codes "response = \"hexadecimal\"" ∷ codes "receipt = \"decimal\"" ∷ []))
      ≡ Some (Plain (SetForm (record { 0 = 1 }) Hexadecimal Decimal) ∷ [])
  pub clock_last : settings_of (text_of (codes "clock = 5" ∷ codes "[[link]]" ∷ codes "id = 7"
      ∷ codes "[[link]]" ∷ codes "id = 3" ∷ []))
      ≡ Some (plain_forms 7 ∷ plain_forms 3 ∷ Plain (Advance 5) ∷ [])
  pub window_after_its_forms : settings_of (text_of (codes "clock = 5" ∷ codes "[[link]]" ∷ codes "window = 1000"
      ∷ codes "id = 7" ∷ codes "[[link]]" ∷ codes "id = 3" ∷ []))
      ≡ Some (plain_forms 7 ∷ Plain (SetWindow (record { 0 = 7 }) 1000) ∷ plain_forms 3 ∷ Plain (Advance 5) ∷ [])
  pub least_window : settings_of (codes "link = [{ id = 1, window = 1 }]")
      ≡ Some (plain_forms 1 ∷ Plain (SetWindow (record { 0 = 1 }) 1) ∷ [])
  pub greatest_window : settings_of (codes "link = [{ id = 1, window = 4102444800000 }]")
      ≡ Some (plain_forms 1 ∷ Plain (SetWindow (record { 0 = 1 }) 4102444800000) ∷ [])
  pub no_window : settings_of (codes "link = [{ id = 1, window = 0 }]") ≡ None
  pub past_window : settings_of (codes "link = [{ id = 1, window = 4102444800001 }]") ≡ None
  pub negative_window : settings_of (codes "link = [{ id = 1, window = -1 }]") ≡ None
  pub window_text : settings_of (codes "link = [{ id = 1, window = '1000' }]") ≡ None
  pub window_of_none : settings_of (codes "window = 1000") ≡ None
  pub last_clock : settings_of (codes "clock = 4102444800000") ≡ Some (Plain (Advance 4102444800000) ∷ [])
  pub past_clock : settings_of (codes "clock = 4102444800001") ≡ None
  pub negative : settings_of (codes "clock = -1") ≡ None
  pub float : settings_of (codes "clock = 1.0") ≡ None
  pub text : settings_of (codes "clock = '1'") ≡ None
  pub last_link : settings_of (codes "link = [{ id = 4294967295 }]") ≡ Some (plain_forms 4294967295 ∷ [])
  pub past_link : settings_of (codes "link = [{ id = 4294967296 }]") ≡ None
  pub no_id : settings_of (codes "link = [{ receipt = 'decimal' }]") ≡ None
  pub twice : settings_of (codes "link = [{ id = 1 }, { id = 1 }]") ≡ None
  pub twice_apart : settings_of (codes "link = [{ id = 1 }, { id = 2 }, { id = 1 }]") ≡ None
  pub no_array : settings_of (codes "link = { id = 1 }") ≡ None
  pub other_form : settings_of (codes "link = [{ id = 1, response = 'hex' }]") ≡ None
  pub no_form : settings_of (codes "link = [{ id = 1, receipt = 10 }]") ≡ None
  pub no_response_form : settings_of (codes "link = [{ id = 1, response = 10 }]") ≡ None
  pub other_key : settings_of (codes "x = 1") ≡ None
  pub other_link_key : settings_of (codes "link = [{ id = 1, x = 1 }]") ≡ None
  pub no_toml : settings_of (codes "clock") ≡ None
  pub no_text : settings_of (255 ∷ []) ≡ None

-- Scripts with no record, and with a byte order mark, CR LF, an empty line, double quotes and no line feed at the end; and
-- first bad records, by their numbers from 1.
pub record KnowsScripts : Type 0 where
  pub empty : IsScript [] []
  pub rows : IsScript (239 ∷ 187 ∷ 191 ∷ codes "clock,5" ++ 13 ∷ 10 ∷ 10 ∷ codes "\"withdraw\",10")
      (Plain (Advance 5) ∷ Plain (Withdraw (record { 0 = 10 })) ∷ [])
  pub first_bad : IsFirstBad (text_of (codes "x" ∷ codes "y" ∷ [])) 1
  pub second_bad : IsFirstBad (text_of (codes "clock,5" ∷ [] ∷ codes "x" ∷ [])) 2
