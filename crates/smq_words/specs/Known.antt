-- The words of orders, at known values.
use Rattle.std.specs.Prelude.{◌≡◌, [], ◌∷◌, List, codes, false, true, Option, Some, None}
use Rattle.clap.specs.Words.{Kinds, Text, fault_of, subcommand_of}
use Rattle.clap.specs.declared.builder.value_parser.ValueParser.{ValueParser}
use Rattle.clap.specs.declared.error.kind.ErrorKind.TheVariants.{ArgumentConflict, InvalidValue, MissingRequiredArgument, UnknownArgument}
use Rattle.smq_report.specs.declared.pick.Format.{Format}
use Rattle.smq_report.specs.declared.pick.Format.TheVariants as format
use Rattle.smq_report.specs.declared.pick.Pick.{Pick}
use Rattle.smq_report.specs.declared.pick.Pick.TheVariants as pick
use Rattle.smq_tally.specs.declared.list.List.TheVariants as list
use Rattle.smq_tally.specs.declared.view.View.TheVariants as view
use Rattle.smq_report.specs.declared.pick.Output.TheVariants.{Messages, Receipts, Report}
use Rattle.smq_report.specs.declared.pick.Query.{Query}
use Rattle.smq_report.specs.Picks.{pick_names}
use Rattle.smq_words.specs.declared.orders.Task.{Task}
use Rattle.smq_words.specs.declared.orders.Task.TheVariants.{Add, Capture, Check, Count, Deal, Follow, Run, Total, Window}
use Rattle.smq_words.specs.Words.{Asks, CaptureTexts, CountingTexts, DealingTexts, format_names, format_rule, link_rule, no_counting, no_dealing, program, settings_rule, subcommand_name, version_text}

-- what is asked of a report, and in which format
abbrev pub of_query : Pick → Format → Query
of_query pick format = record { pick = pick; format = format }

-- no captures
abbrev pub no_captures : CaptureTexts
no_captures = record {
  paths = [];
  links = [];
  first_session = None;
  index = None;
  losses = None;
  every = None;
  questions = [];
  into = None;
  by = None;
  is_strict = false;
  is_quiet = false;
}

-- the captures at these paths, with these links
abbrev pub captures_at : List Text → List Text → CaptureTexts
captures_at paths links = record no_captures { paths = paths; links = links }

-- the names that `query` takes, the subcommands, the formats and the options, the version, and what `report` alone asks for
pub record KnowsWords : Type 0 where
  pub names : pick_names
      ≡ codes "link" ∷ codes "route" ∷ codes "network" ∷ codes "error" ∷ codes "link-delay"
      ∷ codes "centre-delay" ∷ codes "waiting" ∷ codes "stray-answers" ∷ codes "mismatched"
      ∷ codes "stray-receipts" ∷ codes "ambiguous-receipts" ∷ codes "extra-receipts"
      ∷ codes "unreadable" ∷ codes "undecodable" ∷ codes "broken" ∷ codes "open" ∷ codes "lapsed" ∷ []
  pub report : (format : Format) → subcommand_name (Run (of_query pick.All format)) ≡ codes "report"
  pub view : (format : Format) → subcommand_name (Run (of_query (pick.View view.Link) format)) ≡ codes "query"
  pub list : (format : Format) → subcommand_name (Run (of_query (pick.List list.Lapsed) format)) ≡ codes "query"
  pub formats : format_names ≡ codes "csv" ∷ codes "table" ∷ []
  pub format_option : (formats : ValueParser) → (format_rule formats).long ≡ Some (codes "format")
  pub settings_option : settings_rule.long ≡ Some (codes "settings")
  pub link_option : link_rule.long ≡ Some (codes "link")
  pub version : version_text ≡ codes "0.23.0"
  pub plain : Asks (Some (codes "report", [])) (Run (of_query pick.All format.Csv)) None None no_counting no_dealing no_captures

-- the fault that `clap` finds in words, whatever names and formats its parsers take
abbrev pub HasFault : List Text → Kinds → Type 0
HasFault words fault = (names formats : ValueParser) → fault_of (program names formats) words ≡ fault

-- the task, the path of settings, the window's length, what is counted by, what is dealt, and the captures for which words ask
abbrev pub AskAll : List Text → Task → Option Text → Option Text → CountingTexts → DealingTexts → CaptureTexts → Type 0
AskAll words task path window counting dealing captures =
    (names formats : ValueParser) → Asks (subcommand_of (program names formats) words) task path window counting dealing captures

-- they ask for counts
abbrev pub AskCount : List Text → Option Text → CountingTexts → CaptureTexts → Type 0
AskCount words path counting captures = AskAll words Count path None counting no_dealing captures

-- they ask for scripts that are dealt
abbrev pub AskDeal : List Text → Option Text → DealingTexts → CaptureTexts → Type 0
AskDeal words path dealing captures = AskAll words Deal path None no_counting dealing captures

-- they ask for a window of this length, and neither for settings nor for captures
abbrev pub AskWithin : List Text → Task → Text → Type 0
AskWithin words task length = AskAll words task None (Some length) no_counting no_dealing no_captures

-- they ask for no window, nothing is counted by, and nothing is dealt
abbrev pub AskWith : List Text → Task → Option Text → CaptureTexts → Type 0
AskWith words task path captures = AskAll words task path None no_counting no_dealing captures

-- the same where they ask for no captures, either
abbrev pub AskFor : List Text → Task → Option Text → Type 0
AskFor words task path = AskWith words task path no_captures

-- words of `check`: it takes a path of settings, and neither a format nor a name
pub record KnowsCheck : Type 0 where
  pub alone : HasFault (codes "check" ∷ []) []
  pub alone_checks : AskFor (codes "check" ∷ []) Check None
  pub settings : HasFault (codes "check" ∷ codes "--settings" ∷ codes "p" ∷ []) []
  pub settings_checks : AskFor (codes "check" ∷ codes "--settings" ∷ codes "p" ∷ []) Check (Some (codes "p"))
  pub format : HasFault (codes "check" ∷ codes "--format" ∷ codes "csv" ∷ []) (UnknownArgument ∷ [])
  pub name : HasFault (codes "check" ∷ codes "link" ∷ []) (UnknownArgument ∷ [])

-- words of `follow`: it takes a format, a path of settings and a window's length, and no name
pub record KnowsFollow : Type 0 where
  pub alone : HasFault (codes "follow" ∷ []) []
  pub alone_follows : AskFor (codes "follow" ∷ []) (Follow format.Csv) None
  pub settings_follows : AskFor (codes "follow" ∷ codes "--settings" ∷ codes "p" ∷ []) (Follow format.Csv) (Some (codes "p"))
  pub table_follows : AskFor (codes "follow" ∷ codes "--format" ∷ codes "table" ∷ []) (Follow format.Table) None
  pub window_follows : AskWithin (codes "follow" ∷ codes "--window" ∷ codes "15m" ∷ []) (Follow format.Csv) (codes "15m")
  pub window_twice : HasFault (codes "follow" ∷ codes "--window" ∷ codes "15m" ∷ codes "--window" ∷ codes "6h" ∷ []) (ArgumentConflict ∷ [])
  pub name : HasFault (codes "follow" ∷ codes "link" ∷ []) (UnknownArgument ∷ [])

-- words of `total`: it takes a name, a format and a path of settings, and asks for the whole report where it has no name
pub record KnowsTotal : Type 0 where
  pub alone : HasFault (codes "total" ∷ []) []
  pub alone_totals : AskFor (codes "total" ∷ []) (Total (Report (of_query pick.All format.Csv))) None
  pub settings_totals : AskFor (codes "total" ∷ codes "--settings" ∷ codes "p" ∷ []) (Total (Report (of_query pick.All format.Csv))) (Some (codes "p"))
  pub table_totals : AskFor (codes "total" ∷ codes "--format" ∷ codes "table" ∷ []) (Total (Report (of_query pick.All format.Table))) None
  pub name_totals : AskFor (codes "total" ∷ codes "link" ∷ []) (Total (Report (of_query (pick.View view.Link) format.Csv))) None

-- words of `messages` and `receipts`: they take a path of settings, and neither a format nor a name
pub record KnowsLines : Type 0 where
  pub messages : HasFault (codes "messages" ∷ []) []
  pub messages_asked : AskFor (codes "messages" ∷ []) (Total Messages) None
  pub receipts_asked : AskFor (codes "receipts" ∷ []) (Total Receipts) None
  pub settings_asked : AskFor (codes "receipts" ∷ codes "--settings" ∷ codes "p" ∷ []) (Total Receipts) (Some (codes "p"))
  pub format : HasFault (codes "messages" ∷ codes "--format" ∷ codes "csv" ∷ []) (UnknownArgument ∷ [])
  pub name : HasFault (codes "receipts" ∷ codes "link" ∷ []) (UnknownArgument ∷ [])

-- words of `capture`: it takes a link or more, captures, how they are read and whether nothing is told meanwhile, to which scripts rows go, and no
-- path of settings; only it takes these scripts
pub record KnowsCapture : Type 0 where
  pub captures : AskWith (codes "capture" ∷ codes "--link" ∷ codes "2775=1" ∷ codes "a.pcap" ∷ []) Capture None
      (captures_at (codes "a.pcap" ∷ []) (codes "2775=1" ∷ []))
  pub taken : HasFault (codes "capture" ∷ codes "--link" ∷ codes "2775=1" ∷ codes "a.pcap" ∷ []) []
  pub two : AskWith (codes "capture" ∷ codes "a" ∷ codes "--link" ∷ codes "1=1" ∷ codes "--link=2=2" ∷ codes "-" ∷ []) Capture None
      (captures_at (codes "a" ∷ codes "-" ∷ []) (codes "1=1" ∷ codes "2=2" ∷ []))
  pub options : AskWith (codes "capture" ∷ codes "--link" ∷ codes "1=1" ∷ codes "--strict" ∷ codes "--index" ∷ codes "i" ∷ codes "--losses" ∷ codes "l"
      ∷ codes "--first-session" ∷ codes "7" ∷ []) Capture None
      (record (captures_at [] (codes "1=1" ∷ [])) { first_session = Some (codes "7"); index = Some (codes "i"); losses = Some (codes "l"); is_strict = true })
  pub live : AskWith (codes "capture" ∷ codes "--link" ∷ codes "1=1" ∷ codes "--every" ∷ codes "60" ∷ codes "--ask" ∷ codes "link" ∷ codes "--ask"
      ∷ codes "count link,network" ∷ []) Capture None
      (record (captures_at [] (codes "1=1" ∷ [])) { every = Some (codes "60"); questions = codes "link" ∷ codes "count link,network" ∷ [] })
  pub quiet : AskWith (codes "capture" ∷ codes "--link" ∷ codes "1=1" ∷ codes "--quiet" ∷ []) Capture None
      (record (captures_at [] (codes "1=1" ∷ [])) { is_quiet = true })
  pub into : AskWith (codes "capture" ∷ codes "--link" ∷ codes "1=1" ∷ codes "--into" ∷ codes "f" ∷ []) Capture None
      (record (captures_at [] (codes "1=1" ∷ [])) { into = Some (codes "f") })
  pub parts : AskWith (codes "capture" ∷ codes "--link" ∷ codes "1=1" ∷ codes "--by=day" ∷ codes "--into" ∷ codes "f" ∷ codes "a" ∷ []) Capture None
      (record (captures_at (codes "a" ∷ []) (codes "1=1" ∷ [])) { into = Some (codes "f"); by = Some (codes "day") })
  pub parts_twice : HasFault
      (codes "capture" ∷ codes "--link" ∷ codes "1=1" ∷ codes "--into" ∷ codes "f" ∷ codes "--into" ∷ codes "g" ∷ []) (ArgumentConflict ∷ [])
  pub parts_of_report : HasFault (codes "report" ∷ codes "--into" ∷ codes "f" ∷ []) (UnknownArgument ∷ [])
  pub no_link : HasFault (codes "capture" ∷ codes "a.pcap" ∷ []) (MissingRequiredArgument ∷ [])
  pub settings : HasFault (codes "capture" ∷ codes "--link" ∷ codes "1=1" ∷ codes "--settings" ∷ codes "p" ∷ []) (UnknownArgument ∷ [])

-- words of captures behind the other subcommands: each takes captures, how they are read and whether nothing is told meanwhile, and `follow`
-- alone what is asked meanwhile
pub record KnowsCaptures : Type 0 where
  pub report : AskWith (codes "report" ∷ codes "--capture" ∷ codes "f" ∷ codes "--link" ∷ codes "2775=1" ∷ []) (Run (of_query pick.All format.Csv))
      None (captures_at (codes "f" ∷ []) (codes "2775=1" ∷ []))
  pub report_taken : HasFault (codes "report" ∷ codes "--capture" ∷ codes "f" ∷ codes "--link" ∷ codes "2775=1" ∷ []) []
  pub check : AskWith (codes "check" ∷ codes "--capture" ∷ codes "f" ∷ codes "--capture" ∷ codes "g" ∷ codes "--strict" ∷ []) Check None
      (record (captures_at (codes "f" ∷ codes "g" ∷ []) []) { is_strict = true })
  pub messages : AskWith (codes "messages" ∷ codes "--index" ∷ codes "i" ∷ codes "--losses" ∷ codes "l" ∷ []) (Total Messages) None
      (record no_captures { index = Some (codes "i"); losses = Some (codes "l") })
  pub follow : AskWith (codes "follow" ∷ codes "--every" ∷ codes "5" ∷ codes "--first-session" ∷ codes "2" ∷ []) (Follow format.Csv) None
      (record no_captures { every = Some (codes "5"); first_session = Some (codes "2") })
  pub quiet : AskWith (codes "report" ∷ codes "--quiet" ∷ []) (Run (of_query pick.All format.Csv)) None (record no_captures { is_quiet = true })
  pub quiet_twice : HasFault (codes "report" ∷ codes "--quiet" ∷ codes "--quiet" ∷ []) (ArgumentConflict ∷ [])
  pub every : HasFault (codes "report" ∷ codes "--every" ∷ codes "5" ∷ []) (UnknownArgument ∷ [])
  pub ask : HasFault (codes "total" ∷ codes "--ask" ∷ codes "link" ∷ []) (UnknownArgument ∷ [])
  pub file : HasFault (codes "report" ∷ codes "a.pcap" ∷ []) (UnknownArgument ∷ [])

-- these columns and conditions
abbrev pub counted_by : Text → List Text → CountingTexts
counted_by columns conditions = record { columns = Some columns; conditions = conditions; zone = None }

-- words of `count`: it takes columns once, conditions, a time zone once, a path of settings and captures, and neither a format nor a name;
-- `messages` takes no condition and no time zone, and `total` no columns
pub record KnowsCount : Type 0 where
  pub columns : HasFault (codes "count" ∷ codes "--by" ∷ codes "link,day" ∷ []) []
  pub columns_count : AskCount (codes "count" ∷ codes "--by" ∷ codes "link,day" ∷ []) None (counted_by (codes "link,day") []) no_captures
  pub conditions : HasFault
      (codes "count" ∷ codes "--where" ∷ codes "link=1" ∷ codes "--by" ∷ codes "day" ∷ codes "--where" ∷ codes "outcome=open" ∷ []) []
  pub conditions_count : AskCount
      (codes "count" ∷ codes "--where" ∷ codes "link=1" ∷ codes "--by" ∷ codes "day" ∷ codes "--where" ∷ codes "outcome=open" ∷ []) None
      (counted_by (codes "day") (codes "link=1" ∷ codes "outcome=open" ∷ [])) no_captures
  pub joined : AskCount (codes "count" ∷ codes "--by=day" ∷ codes "--where=error=" ∷ []) None
      (counted_by (codes "day") (codes "error=" ∷ [])) no_captures
  pub zone : AskCount (codes "count" ∷ codes "--by" ∷ codes "day" ∷ codes "--zone" ∷ codes "p" ∷ codes "--settings" ∷ codes "q" ∷ [])
      (Some (codes "q")) (record (counted_by (codes "day") []) { zone = Some (codes "p") }) no_captures
  pub settings : AskCount (codes "count" ∷ codes "--settings" ∷ codes "p" ∷ codes "--by" ∷ codes "hour" ∷ []) (Some (codes "p"))
      (counted_by (codes "hour") []) no_captures
  pub captures : AskCount
      (codes "count" ∷ codes "--by" ∷ codes "route" ∷ codes "--capture" ∷ codes "f" ∷ codes "--link" ∷ codes "2775=1" ∷ codes "--strict" ∷ [])
      None (counted_by (codes "route") []) (record (captures_at (codes "f" ∷ []) (codes "2775=1" ∷ [])) { is_strict = true })
  pub no_columns : HasFault (codes "count" ∷ []) (MissingRequiredArgument ∷ [])
  pub conditions_alone : HasFault (codes "count" ∷ codes "--where" ∷ codes "link=1" ∷ []) (MissingRequiredArgument ∷ [])
  pub twice : HasFault (codes "count" ∷ codes "--by" ∷ codes "link" ∷ codes "--by" ∷ codes "day" ∷ []) (ArgumentConflict ∷ [])
  pub format : HasFault (codes "count" ∷ codes "--by" ∷ codes "link" ∷ codes "--format" ∷ codes "csv" ∷ []) (UnknownArgument ∷ [])
  pub name : HasFault (codes "count" ∷ codes "link" ∷ []) (UnknownArgument ∷ [])
  pub messages : HasFault (codes "messages" ∷ codes "--where" ∷ codes "link=1" ∷ []) (UnknownArgument ∷ [])
  pub total : HasFault (codes "total" ∷ codes "--by" ∷ codes "link" ∷ []) (UnknownArgument ∷ [])
  pub zones : HasFault (codes "count" ∷ codes "--by" ∷ codes "day" ∷ codes "--zone" ∷ codes "p" ∷ codes "--zone" ∷ codes "q" ∷ [])
      (ArgumentConflict ∷ [])
  pub zone_of_messages : HasFault (codes "messages" ∷ codes "--zone" ∷ codes "p" ∷ []) (UnknownArgument ∷ [])

-- words of `window`: it takes its length, once, and nothing else; of the other subcommands only `follow` takes one
pub record KnowsWindow : Type 0 where
  pub length : HasFault (codes "window" ∷ codes "15m" ∷ []) []
  pub length_asked : AskWithin (codes "window" ∷ codes "15m" ∷ []) Window (codes "15m")
  pub no_length : HasFault (codes "window" ∷ []) (MissingRequiredArgument ∷ [])
  pub two : HasFault (codes "window" ∷ codes "15m" ∷ codes "6h" ∷ []) (UnknownArgument ∷ [])
  pub option : HasFault (codes "window" ∷ codes "--window" ∷ codes "15m" ∷ []) (UnknownArgument ∷ [])
  pub settings : HasFault (codes "window" ∷ codes "15m" ∷ codes "--settings" ∷ codes "p" ∷ []) (UnknownArgument ∷ [])
  pub quiet : HasFault (codes "window" ∷ codes "15m" ∷ codes "--quiet" ∷ []) (UnknownArgument ∷ [])
  pub check : HasFault (codes "check" ∷ codes "--window" ∷ codes "5m" ∷ []) (UnknownArgument ∷ [])

-- the scripts of what is settled and of the rest
abbrev pub dealt_by_period : Text → Text → DealingTexts
dealt_by_period settled rest = record no_dealing { settled = Some settled; rest = Some rest }

-- so many scripts in a folder
abbrev pub dealt_by_key : Text → Text → DealingTexts
dealt_by_key parts into = record no_dealing { parts = Some parts; into = Some into }

-- words of `deal`: it takes what is settled and the rest, parts and their folder, a path of settings and whether nothing is told meanwhile, each
-- once at the most, and neither a name nor captures; `total` takes nothing that is settled, and `capture` no parts
pub record KnowsDeal : Type 0 where
  pub periods : HasFault (codes "deal" ∷ codes "--settled" ∷ codes "d" ∷ codes "--rest" ∷ codes "c" ∷ []) []
  pub periods_asked : AskDeal (codes "deal" ∷ codes "--settled" ∷ codes "d" ∷ codes "--rest" ∷ codes "c" ∷ []) None
      (dealt_by_period (codes "d") (codes "c")) no_captures
  pub parts : HasFault (codes "deal" ∷ codes "--parts" ∷ codes "4" ∷ codes "--into" ∷ codes "f" ∷ []) []
  pub parts_asked : AskDeal (codes "deal" ∷ codes "--parts" ∷ codes "4" ∷ codes "--into" ∷ codes "f" ∷ []) None
      (dealt_by_key (codes "4") (codes "f")) no_captures
  pub settings : AskDeal (codes "deal" ∷ codes "--settings" ∷ codes "p" ∷ codes "--rest=c" ∷ codes "--settled=d" ∷ []) (Some (codes "p"))
      (dealt_by_period (codes "d") (codes "c")) no_captures
  pub quiet : AskDeal (codes "deal" ∷ codes "--into" ∷ codes "f" ∷ codes "--quiet" ∷ codes "--parts=4" ∷ []) None
      (dealt_by_key (codes "4") (codes "f")) (record no_captures { is_quiet = true })
  pub alone : HasFault (codes "deal" ∷ []) []
  pub alone_asked : AskDeal (codes "deal" ∷ []) None no_dealing no_captures
  pub no_value : HasFault (codes "deal" ∷ codes "--parts" ∷ []) (InvalidValue ∷ [])
  pub settled_twice : HasFault (codes "deal" ∷ codes "--settled" ∷ codes "d" ∷ codes "--settled" ∷ codes "e" ∷ []) (ArgumentConflict ∷ [])
  pub parts_twice : HasFault (codes "deal" ∷ codes "--parts" ∷ codes "4" ∷ codes "--parts" ∷ codes "5" ∷ []) (ArgumentConflict ∷ [])
  pub name : HasFault (codes "deal" ∷ codes "link" ∷ []) (UnknownArgument ∷ [])
  pub captures : HasFault (codes "deal" ∷ codes "--capture" ∷ codes "f" ∷ []) (UnknownArgument ∷ [])
  pub total : HasFault (codes "total" ∷ codes "--settled" ∷ codes "d" ∷ []) (UnknownArgument ∷ [])
  pub capture : HasFault (codes "capture" ∷ codes "--link" ∷ codes "1=1" ∷ codes "--parts" ∷ codes "4" ∷ []) (UnknownArgument ∷ [])

-- words of `add`: it takes `--periods` and one report or more, and no settings
pub record KnowsAdd : Type 0 where
  pub two : HasFault (codes "add" ∷ codes "a" ∷ codes "b" ∷ []) []
  pub two_asked : AskWith (codes "add" ∷ codes "a" ∷ codes "b" ∷ []) (Add false) None (captures_at (codes "a" ∷ codes "b" ∷ []) [])
  pub periods : HasFault (codes "add" ∷ codes "--periods" ∷ codes "a" ∷ []) []
  pub periods_asked : AskWith (codes "add" ∷ codes "--periods" ∷ codes "a" ∷ []) (Add true) None (captures_at (codes "a" ∷ []) [])
  pub no_report : HasFault (codes "add" ∷ codes "--periods" ∷ []) (MissingRequiredArgument ∷ [])
  pub settings : HasFault (codes "add" ∷ codes "--settings" ∷ codes "p" ∷ codes "a" ∷ []) (UnknownArgument ∷ [])
  pub report : HasFault (codes "report" ∷ codes "--periods" ∷ []) (UnknownArgument ∷ [])
