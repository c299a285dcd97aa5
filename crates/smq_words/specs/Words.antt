-- The words that the program takes, as `clap` reads them.
use Rattle.std.specs.Prelude.{◌≡◌, ◌⊎◌, ◌++◌, ⊤, Bool, List, [], ◌∷◌, fold, map, codes, true, false, unwrap_or, option_map, string_bytes, Option, Some, None, Result, IsErrAnd}
use Rattle.std.specs.Borrow.{Bor}
use Rattle.clap.specs.Words.{App, FailsBy, Row, Rule, Text, all_of, fault_of, first_of, kind_of, new_app, new_rule, one_of, rule_of, subcommand_of, with_rule, with_subcommand}
use Rattle.clap.specs.Simple.{on_top}
use Rattle.clap.specs.Values.{bool_text}
use Rattle.clap.specs.declared.error.Error.{Error}
use Rattle.clap.specs.declared.error.kind.ErrorKind.TheVariants.{OutOfMemory}
use Rattle.clap.specs.declared.builder.arg.Arg.{Arg}
use Rattle.clap.specs.declared.builder.action.ArgAction.TheVariants.{Append, Set, SetTrue}
use Rattle.clap.specs.declared.builder.value_parser.ValueParser.{ValueParser}
use Rattle.clap.specs.declared.builder.value_parser.ValueParser.TheVariants.{Names}
use Rattle.smq_report.specs.Picks.{pick_name, pick_names}
use Rattle.smq_report.specs.declared.pick.Format.{Format}
use Rattle.smq_report.specs.declared.pick.Format.TheVariants as format
use Rattle.smq_report.specs.declared.pick.Output.{Output}
use Rattle.smq_report.specs.declared.pick.Output.TheVariants as output
use Rattle.smq_report.specs.declared.pick.Pick.{Pick}
use Rattle.smq_report.specs.declared.pick.Pick.TheVariants as pick
use Rattle.smq_report.specs.declared.pick.Query.{Query}
use Rattle.smq_words.specs.declared.orders.Captures.{Captures}
use Rattle.smq_words.specs.declared.orders.Counting.{Counting}
use Rattle.smq_words.specs.declared.orders.Dealing.{Dealing}
use Rattle.smq_words.specs.declared.orders.Order.{Order}
use Rattle.smq_words.specs.declared.orders.Task.{Task}
use Rattle.smq_words.specs.declared.orders.Task.TheVariants.{Add, Capture, Check, Count, Deal, Follow, Run, Total, Window}

-- ---- the subcommands

-- the subcommand that writes what is picked of a script's report
abbrev pub run_name : Pick → Text
run_name pick.All = codes "report"
run_name (pick.View view) = codes "query"
run_name (pick.List list) = codes "query"

-- the subcommand that writes an output of rows, however many there are
abbrev pub total_name : Output → Text
total_name (output.Report query) = codes "total"
total_name output.Messages = codes "messages"
total_name output.Receipts = codes "receipts"

-- the subcommand of a task
abbrev pub subcommand_name : Task → Text
subcommand_name (Run query) = run_name query.pick
subcommand_name Check = codes "check"
subcommand_name (Follow format) = codes "follow"
subcommand_name (Total asked) = total_name asked
subcommand_name Count = codes "count"
subcommand_name Deal = codes "deal"
subcommand_name (Add of_periods) = codes "add"
subcommand_name Capture = codes "capture"
subcommand_name Window = codes "window"

-- the name of a format
abbrev pub format_name : Format → Text
format_name format.Csv = codes "csv"
format_name format.Table = codes "table"

-- the names of formats
abbrev pub format_names : List Text
format_names = map format_name (format.Csv ∷ format.Table ∷ [])

-- ---- the program's words, without its own name

-- the texts that names are
abbrev pub texts_of : List (Bor Text) → List Text
texts_of names = map (λ name. name.now) names

-- a parser takes these names, and no other text
abbrev pub TakesNames : List Text → ValueParser → Type 0
TakesNames texts (Names names) = texts_of names.now ≡ texts
TakesNames texts _ = ⊥

-- NAME, which is required and has one value
abbrev pub name_rule : ValueParser → Rule
name_rule names =
    record (new_rule (codes "NAME")) { action = Some Set; parser = Some names; required = true }

-- NAME, which may be left out and has one value
abbrev pub optional_rule : ValueParser → Rule
optional_rule names =
    record (new_rule (codes "NAME")) { action = Some Set; parser = Some names }

-- `--format`, with one value
abbrev pub format_rule : ValueParser → Rule
format_rule formats = record (new_rule (codes "format")) {
  long = Some (codes "format");
  action = Some Set;
  value_names = 1;
  parser = Some formats;
}

-- `--settings`, with one value, any text
abbrev pub settings_rule : Rule
settings_rule = record (new_rule (codes "settings")) {
  long = Some (codes "settings");
  action = Some Set;
  value_names = 1;
}

-- an option with one value, any text
abbrev pub option_rule : Text → Rule
option_rule name = record (new_rule name) { long = Some name; action = Some Set; value_names = 1 }

-- `--by`, which is required and has one value, any text
abbrev pub columns_rule : Rule
columns_rule = record (option_rule (codes "by")) { required = true }

-- an option that may come again, each time with one value, any text
abbrev pub repeated_rule : Text → Rule
repeated_rule name = record (new_rule name) { long = Some name; action = Some Append; value_names = 1 }

-- `--link`, which may come again
abbrev pub link_rule : Rule
link_rule = repeated_rule (codes "link")

-- `--link`, which comes once or more
abbrev pub required_link_rule : Rule
required_link_rule = record link_rule { required = true }

-- a flag
abbrev pub flag_rule : Text → Rule
flag_rule name = record (new_rule name) { long = Some name; action = Some SetTrue }

-- `--strict`, a flag
abbrev pub strict_rule : Rule
strict_rule = flag_rule (codes "strict")

-- `--quiet`, a flag
abbrev pub quiet_rule : Rule
quiet_rule = flag_rule (codes "quiet")

-- `--by` of `capture`, with one value, any text; its id is `parts`
abbrev pub parts_rule : Rule
parts_rule = record (new_rule (codes "parts")) { long = Some (codes "by"); action = Some Set; value_names = 1 }

-- FILE, which may be left out and may come again
abbrev pub file_rule : Rule
file_rule = record (new_rule (codes "FILE")) { action = Some Append }

-- `--parts`, with one value, any text; its id is `count`
abbrev pub count_rule : Rule
count_rule = record (option_rule (codes "count")) { long = Some (codes "parts") }

-- `--into` of `deal`, with one value, any text; its id is `folder`
abbrev pub folder_rule : Rule
folder_rule = record (option_rule (codes "folder")) { long = Some (codes "into") }

-- `--periods`, a flag
abbrev pub periods_rule : Rule
periods_rule = flag_rule (codes "periods")

-- REPORT, which comes once or more; its id is `FILE`
abbrev pub reports_rule : Rule
reports_rule = record (new_rule (codes "FILE")) { action = Some Append; value_names = 1; required = true }

-- LENGTH, which is required and has one value, any text; its id is `window`
abbrev pub length_rule : Rule
length_rule = record (new_rule (codes "window")) { action = Some Set; value_names = 1; required = true }

-- an argument that its own subcommand alone has, with this rule
abbrev pub IsArgument : Rule → Arg → Type 0
IsArgument rule argument = (rule_of argument ≡ rule) × (argument.global ≡ false)

-- a subcommand with more arguments
abbrev pub with_rules : App → List Rule → App
with_rules app rules = fold with_rule app rules

-- how captures are read, beside their links, and whether nothing is told meanwhile
abbrev pub reading_rules : List Rule
reading_rules =
    option_rule (codes "first-session") ∷ strict_rule ∷ quiet_rule ∷ option_rule (codes "index") ∷ option_rule (codes "losses") ∷ []

-- the captures that are read behind rows, and how
abbrev pub captures_rules : List Rule
captures_rules = repeated_rule (codes "capture") ∷ link_rule ∷ reading_rules

-- what is asked while packets come
abbrev pub live_rules : List Rule
live_rules = option_rule (codes "every") ∷ repeated_rule (codes "ask") ∷ []

-- to which scripts rows go
abbrev pub parts_rules : List Rule
parts_rules = option_rule (codes "into") ∷ parts_rule ∷ []

-- the scripts that `deal` writes
abbrev pub dealing_rules : List Rule
dealing_rules = option_rule (codes "settled") ∷ option_rule (codes "rest") ∷ count_rule ∷ folder_rule ∷ []

-- a subcommand with `--settings` and the options of captures, as `check`, `messages` and `receipts` are
abbrev pub settings_app : Text → App
settings_app name = with_rules (with_rule (new_app name) settings_rule) captures_rules

-- a subcommand with `--format` as well, as `report` is
abbrev pub options_app : Text → ValueParser → App
options_app name formats =
    with_rules (with_rule (with_rule (new_app name) (format_rule formats)) settings_rule) captures_rules

-- a subcommand with a name and the same options, as `query` and `total` are
abbrev pub named_app : Text → Rule → ValueParser → App
named_app name rule formats =
    with_rules (with_rule (with_rule (with_rule (new_app name) rule) (format_rule formats)) settings_rule) captures_rules

-- `follow`: the options of `report`, what is asked while packets come, and how long what came is kept
abbrev pub follow_app : ValueParser → App
follow_app formats = with_rule (with_rules (options_app (codes "follow") formats) live_rules) (option_rule (codes "window"))

-- `count`: by which columns, the conditions, the time zone of periods, `--settings` and the options of captures
abbrev pub count_app : App
count_app =
    with_rules
    (with_rule
    (with_rule (with_rule (with_rule (new_app (codes "count")) columns_rule) (repeated_rule (codes "where"))) (option_rule (codes "zone")))
    settings_rule)
    captures_rules

-- `capture`: its links, how captures are read, what is asked while packets come, to which scripts rows go, and the captures
abbrev pub capture_app : App
capture_app =
    with_rule
    (with_rules (with_rules (with_rules (with_rule (new_app (codes "capture")) required_link_rule) reading_rules) live_rules) parts_rules)
    file_rule

-- `window`: its length alone
abbrev pub window_app : App
window_app = with_rule (new_app (codes "window")) length_rule

-- `deal`: the scripts that it writes, `--settings`, and whether nothing is told meanwhile
abbrev pub deal_app : App
deal_app = with_rule (with_rule (with_rules (new_app (codes "deal")) dealing_rules) settings_rule) quiet_rule

-- `add`: whether its reports are of periods, and the reports
abbrev pub add_app : App
add_app = with_rule (with_rule (new_app (codes "add")) periods_rule) reports_rule

-- the program's version
abbrev pub version_text : Text
version_text = codes "0.23.0"

-- the program without its subcommands: one is required, or `--version`
abbrev pub bare_program : App
bare_program = on_top (λ shape. record shape { no_binary_name = true; subcommand_required = true; has_version = true })
    (new_app (codes "smq"))

-- the program with its subcommands up to `follow`
abbrev pub first_program : ValueParser → ValueParser → App
first_program names formats =
    with_subcommand
    (with_subcommand
    (with_subcommand
    (with_subcommand (with_subcommand bare_program capture_app.top) (options_app (codes "report") formats).top)
    (named_app (codes "query") (name_rule names) formats).top) (settings_app (codes "check")).top)
    (follow_app formats).top

-- a program, and then the subcommands that take any number of rows, or reports
abbrev pub with_any_length : ValueParser → ValueParser → App → App
with_any_length names formats app =
    with_subcommand
    (with_subcommand
    (with_subcommand
    (with_subcommand
    (with_subcommand
    (with_subcommand (with_subcommand app (named_app (codes "total") (optional_rule names) formats).top) count_app.top)
    (settings_app (codes "messages")).top) (settings_app (codes "receipts")).top) window_app.top) deal_app.top) add_app.top

-- the program, with all its subcommands
abbrev pub program : ValueParser → ValueParser → App
program names formats = with_any_length names formats (first_program names formats)

-- the program's words, where NAME is the name of a view or a list, and a format is `csv` or `table`
pub record IsProgram (app : App) : Type 0 where
  pub names : ValueParser
  pub formats : ValueParser
  pub takes_names : TakesNames pick_names names
  pub takes_formats : TakesNames format_names formats
  pub is_program : app ≡ program names formats

-- ---- what the words ask for

-- words are taken exactly where `clap` finds no fault in them, and refused by that fault, unless memory ran out
abbrev pub TakesWords : {T : Type 0} → Result T Error → List Text → Type 0
TakesWords result words = IsErrAnd result (λ e. kind_of e ≡ OutOfMemory)
    ⊎ ((app : App) × IsProgram app × FailsBy (fault_of app words) result)

-- a format is the one of `--format`, or `csv` where that isn't given
abbrev pub HasFormat : List Row → Format → Type 0
HasFormat rows format = unwrap_or (first_of (codes "format") rows) (codes "csv") ≡ format_name format

-- what a query picks is what NAME names, and the whole report where there is no NAME; its format is that of `--format`
abbrev pub IsQueried : List Row → Query → Type 0
IsQueried rows query = (first_of (codes "NAME") rows ≡ pick_name query.pick) × HasFormat rows query.format

-- whether a flag is given
abbrev pub HasFlag : Text → List Row → Bool → Type 0
HasFlag id rows is_given = unwrap_or (one_of id rows) (codes "false") ≡ bool_text is_given

-- the arguments of a subcommand ask for what a task says
abbrev pub Say : List Row → Task → Type 0
Say rows (Run query) = IsQueried rows query
Say rows Check = ⊤
Say rows (Follow format) = HasFormat rows format
Say rows (Total (output.Report query)) = IsQueried rows query
Say rows (Total output.Messages) = ⊤
Say rows (Total output.Receipts) = ⊤
Say rows Count = (columns : Text) × (first_of (codes "by") rows ≡ Some columns)
Say rows Deal = ⊤
Say rows (Add of_periods) =
    HasFlag (codes "periods") rows of_periods × ((report : Text) × (first_of (codes "FILE") rows ≡ Some report))
Say rows Capture = ⊤
Say rows Window = (length : Text) × (first_of (codes "window") rows ≡ Some length)

-- what `count` counts by, as texts
pub record CountingTexts : Type 0 where
  pub columns : Option Text
  pub conditions : List Text
  pub zone : Option Text

-- what the other subcommands count by: nothing
abbrev pub no_counting : CountingTexts
no_counting = record { columns = None; conditions = []; zone = None }

-- the texts of what an order counts by
abbrev pub texts_of_counting : Counting → CountingTexts
texts_of_counting counting = record {
  columns = option_map string_bytes counting.columns;
  conditions = map string_bytes counting.conditions.items;
  zone = option_map string_bytes counting.zone;
}

-- what `deal` writes, as texts
pub record DealingTexts : Type 0 where
  pub settled : Option Text
  pub rest : Option Text
  pub parts : Option Text
  pub into : Option Text

-- what the other subcommands write: nothing
abbrev pub no_dealing : DealingTexts
no_dealing = record { settled = None; rest = None; parts = None; into = None }

-- the texts of what an order deals
abbrev pub texts_of_dealing : Dealing → DealingTexts
texts_of_dealing dealing = record {
  settled = option_map string_bytes dealing.settled;
  rest = option_map string_bytes dealing.rest;
  parts = option_map string_bytes dealing.parts;
  into = option_map string_bytes dealing.into;
}

-- the words of captures, as texts
pub record CaptureTexts : Type 0 where
  pub paths : List Text
  pub links : List Text
  pub first_session : Option Text
  pub index : Option Text
  pub losses : Option Text
  pub every : Option Text
  pub questions : List Text
  pub into : Option Text
  pub by : Option Text
  pub is_strict : Bool
  pub is_quiet : Bool

-- the texts of an order's captures
abbrev pub texts_of_captures : Captures → CaptureTexts
texts_of_captures captures = record {
  paths = map string_bytes captures.paths.items;
  links = map string_bytes captures.links.items;
  first_session = option_map string_bytes captures.first_session;
  index = option_map string_bytes captures.index;
  losses = option_map string_bytes captures.losses;
  every = option_map string_bytes captures.every;
  questions = map string_bytes captures.questions.items;
  into = option_map string_bytes captures.into;
  by = option_map string_bytes captures.by;
  is_strict = captures.is_strict;
  is_quiet = captures.is_quiet;
}

-- all values of an argument, in the order of the words
abbrev pub values_of : Text → List Row → List Text
values_of id rows = unwrap_or (all_of id rows) []

-- what the arguments of a task's subcommand say of counting: those of `count` the value of `--by`, each of `--where` and the value of `--zone`,
-- all others nothing
abbrev pub counting_in : List Row → Task → CountingTexts
counting_in rows Count = record {
  columns = first_of (codes "by") rows;
  conditions = values_of (codes "where") rows;
  zone = first_of (codes "zone") rows;
}
counting_in rows _ = no_counting

-- what the arguments of a task's subcommand say of dealing: those of `deal` the values of `--settled`, `--rest`, `--parts` and `--into`, all
-- others nothing
abbrev pub dealing_in : List Row → Task → DealingTexts
dealing_in rows Deal = record {
  settled = first_of (codes "settled") rows;
  rest = first_of (codes "rest") rows;
  parts = first_of (codes "count") rows;
  into = first_of (codes "folder") rows;
}
dealing_in rows _ = no_dealing

-- What the arguments of a subcommand say of captures: the paths are those of FILE, which `capture` and `add` have, or of `--capture`, which the
-- others have; each of the rest is what its option says.
pub record HasCaptures (rows : List Row) (texts : CaptureTexts) : Type 0 where
  pub paths : values_of (codes "FILE") rows ++ values_of (codes "capture") rows ≡ texts.paths
  pub links : values_of (codes "link") rows ≡ texts.links
  pub first_session : first_of (codes "first-session") rows ≡ texts.first_session
  pub index : first_of (codes "index") rows ≡ texts.index
  pub losses : first_of (codes "losses") rows ≡ texts.losses
  pub every : first_of (codes "every") rows ≡ texts.every
  pub questions : values_of (codes "ask") rows ≡ texts.questions
  pub into : first_of (codes "into") rows ≡ texts.into
  pub by : first_of (codes "parts") rows ≡ texts.by
  pub strict : HasFlag (codes "strict") rows texts.is_strict
  pub quiet : HasFlag (codes "quiet") rows texts.is_quiet

-- The matches of the subcommand that words enter ask for a task, a path, a window's length, what is counted by, what is dealt, and captures: the
-- subcommand is the task's, its arguments ask for what the task says, the path is that of `--settings`, the length that of LENGTH, which
-- `window` has, or of `--window`, and the rest is what the arguments say of it.
pub record Asks (entered : Option (Text × List Row)) (task : Task) (path window : Option Text) (counting : CountingTexts)
    (dealing : DealingTexts) (captures : CaptureTexts) : Type 0 where
  pub rows : List Row
  pub enters : entered ≡ Some (subcommand_name task, rows)
  pub say : Say rows task
  pub has_path : first_of (codes "settings") rows ≡ path
  pub has_window : first_of (codes "window") rows ≡ window
  pub has_counting : counting_in rows task ≡ counting
  pub has_dealing : dealing_in rows task ≡ dealing
  pub has_captures : HasCaptures rows captures

-- an order is one for which the matches of the subcommand ask
abbrev pub IsAsked : Option (Text × List Row) → Order → Type 0
IsAsked entered order =
    Asks entered order.task (option_map string_bytes order.settings) (option_map string_bytes order.window) (texts_of_counting order.counting)
    (texts_of_dealing order.dealing) (texts_of_captures order.captures)

-- an order is the one for which `clap`'s matches of the words ask
abbrev pub HasOrder : List Text → Order → Type 0
HasOrder words order = (app : App) × IsProgram app × IsAsked (subcommand_of app words) order
