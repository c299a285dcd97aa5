-- Tasks by the names of their subcommands.
use Rattle.std.specs.Prelude.{if◌then◌else◌, Bool, List, codes}
use Rattle.std.specs.Str.{bytes_eq}
use Rattle.clap.specs.Words.{Row, Text, first_of}
use Rattle.smq_report.specs.declared.pick.Output.TheVariants as output
use Rattle.smq_report.specs.declared.pick.Query.{Query}
use Rattle.smq_words.specs.declared.orders.Task.{Task}
use Rattle.smq_words.specs.declared.orders.Task.TheVariants.{Add, Capture, Check, Count, Deal, Follow, Run, Total, Window}
use Rattle.smq_words.specs.Words.{CountingTexts, DealingTexts, no_counting, no_dealing, values_of}

-- the task of the subcommand of this name, whose arguments ask for this, and of periods or not
abbrev pub task_named : Text → Query → Bool → Task
task_named name query of_periods =
    if bytes_eq name (codes "check") then Check
    else if bytes_eq name (codes "follow") then Follow query.format
    else if bytes_eq name (codes "count") then Count
    else if bytes_eq name (codes "messages") then Total output.Messages
    else if bytes_eq name (codes "receipts") then Total output.Receipts
    else if bytes_eq name (codes "total") then Total (output.Report query)
    else if bytes_eq name (codes "deal") then Deal
    else if bytes_eq name (codes "add") then Add of_periods
    else if bytes_eq name (codes "capture") then Capture
    else if bytes_eq name (codes "window") then Window
    else Run query

-- what the arguments of the subcommand of this name say of counting
abbrev pub counting_named : Text → List Row → CountingTexts
counting_named name rows =
    if bytes_eq name (codes "count")
    then record {
      columns = first_of (codes "by") rows;
      conditions = values_of (codes "where") rows;
      zone = first_of (codes "zone") rows;
    }
    else no_counting

-- what the arguments of the subcommand of this name say of dealing
abbrev pub dealing_named : Text → List Row → DealingTexts
dealing_named name rows =
    if bytes_eq name (codes "deal")
    then record {
      settled = first_of (codes "settled") rows;
      rest = first_of (codes "rest") rows;
      parts = first_of (codes "count") rows;
      into = first_of (codes "folder") rows;
    }
    else no_dealing
