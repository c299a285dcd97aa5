-- The rows of known words, written out, so that what they say is computed once.
use Rattle.std.proofs.Common.{◌≡◌, ◌++◌, List, [], ◌∷◌, Option, Some, None, ap, codes}
use Rattle.std.specs.Prelude.{unwrap_or}
use Rattle.clap.specs.Values.{bool_text, reading_of}
use Rattle.clap.specs.Walk.{Row, Text}
use Rattle.clap.specs.Words.{first_of, one_of}
use Rattle.clap.specs.declared.builder.value_parser.Reading.TheVariants.{AsWritten}
use Rattle.clap.specs.declared.builder.value_parser.ValueParser.{ValueParser}
use Rattle.clap.specs.declared.parser.matches.ValueSource.TheVariants.{CommandLine, DefaultValue}
use Rattle.smq_words.specs.declared.orders.Task.{Task}
use Rattle.smq_words.specs.Words.{Asks, CaptureTexts, CountingTexts, DealingTexts, Say, counting_in, dealing_in, subcommand_name, values_of}

-- an argument that was given these values
abbrev pub given : Text → List Text → Row
given id values = record { id = id; values = values; count = None; source = Some CommandLine; reading = AsWritten }

-- the same of an argument that takes names
abbrev pub named : ValueParser → Text → List Text → Row
named names id values = record (given id values) { reading = reading_of names }

-- a flag that isn't given
abbrev pub not_given : Text → Row
not_given id = record { id = id; values = codes "false" ∷ []; count = None; source = Some DefaultValue; reading = AsWritten }

-- the flags of captures, where none is given
abbrev pub no_flags : List Row
no_flags = not_given (codes "strict") ∷ not_given (codes "quiet") ∷ []

-- a path, a window's length, what is counted by, what is dealt, and the words of captures, with their flags as texts
abbrev Texts : Type 0
Texts =
    Option Text × Option Text × CountingTexts × DealingTexts × List Text × List Text × Option Text × Option Text × Option Text × Option Text × List Text
    × Option Text × Option Text × Text × Text

-- rows ask for a task where they say what it does, and each of their other texts is the one that is asked for
pub asks : {entered : Option (Text × List Row)} {task : Task} {path window : Option Text} {counting : CountingTexts} {dealing : DealingTexts}
    {captures : CaptureTexts}
    → (rows : List Row) → Say rows task → entered ≡ Some (subcommand_name task, rows)
    → ◌≡◌ {A = Texts} (
      first_of (codes "settings") rows,
      first_of (codes "window") rows,
      counting_in rows task,
      dealing_in rows task,
      values_of (codes "FILE") rows ++ values_of (codes "capture") rows,
      values_of (codes "link") rows,
      first_of (codes "first-session") rows,
      first_of (codes "index") rows,
      first_of (codes "losses") rows,
      first_of (codes "every") rows,
      values_of (codes "ask") rows,
      first_of (codes "into") rows,
      first_of (codes "parts") rows,
      unwrap_or (one_of (codes "strict") rows) (codes "false"),
      unwrap_or (one_of (codes "quiet") rows) (codes "false"),
    ) (
      path,
      window,
      counting,
      dealing,
      captures.paths,
      captures.links,
      captures.first_session,
      captures.index,
      captures.losses,
      captures.every,
      captures.questions,
      captures.into,
      captures.by,
      bool_text captures.is_strict,
      bool_text captures.is_quiet,
    )
    → Asks entered task path window counting dealing captures
asks rows say enters same = record {
  rows = rows;
  enters = enters;
  say = say;
  has_path = ap (λ it. it.0) same;
  has_window = ap (λ it. it.1) same;
  has_counting = ap (λ it. it.2) same;
  has_dealing = ap (λ it. it.3) same;
  has_captures = record {
    paths = ap (λ it. it.4) same;
    links = ap (λ it. it.5) same;
    first_session = ap (λ it. it.6) same;
    index = ap (λ it. it.7) same;
    losses = ap (λ it. it.8) same;
    every = ap (λ it. it.9) same;
    questions = ap (λ it. it.10) same;
    into = ap (λ it. it.11) same;
    by = ap (λ it. it.12) same;
    strict = ap (λ it. it.13) same;
    quiet = ap (λ it. it.14) same;
  };
}
