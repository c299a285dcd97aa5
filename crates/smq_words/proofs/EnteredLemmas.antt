-- The words after a subcommand's name: where `clap` finds no fault in them, they ask for a task of it.
use Rattle.std.proofs.Common.{◌≡◌, ◌∙◌, ◌||◌, ◌&&◌, Bool, true, false, List, [], ◌∷◌, ◌++◌, Option, Some, refl, sym, subst, codes}
use Rattle.std.specs.Prelude.{not}
use Rattle.clap.specs.Faults.{level_fault}
use Rattle.clap.specs.Kinds.{check_kinds}
use Rattle.clap.specs.Simple.{Shape, built_leaf, entered, filled, rows_at, with_index}
use Rattle.clap.specs.Takes.{is_given}
use Rattle.clap.specs.Walk.{Row, Text, first_of, nothing_held, one_of, rows_after}
use Rattle.clap.specs.declared.builder.value_parser.ValueParser.{ValueParser}
use Rattle.smq_report.specs.Picks.{pick_name, pick_names}
use Rattle.smq_report.specs.declared.pick.Format.{Format}
use Rattle.smq_report.specs.declared.pick.Output.TheVariants as output
use Rattle.smq_report.specs.declared.pick.Pick.{Pick}
use Rattle.smq_report.specs.declared.pick.Pick.TheVariants as pick
use Rattle.smq_words.specs.declared.orders.Task.{Task}
use Rattle.smq_words.specs.declared.orders.Task.TheVariants.{Add, Capture, Count, Deal, Follow, Run, Total, Window}
use Rattle.smq_words.specs.Words.{Asks, CaptureTexts, CountingTexts, DealingTexts, HasCaptures, HasFlag, IsQueried, Say, TakesNames, add_app, capture_app, columns_rule, count_app, counting_in, deal_app, dealing_in, follow_app, format_names, length_rule, name_rule, named_app, option_rule, optional_rule, options_app, quiet_rule, repeated_rule, reports_rule, required_link_rule, settings_app, settings_rule, subcommand_name, values_of, window_app}
use Rattle.smq_words.proofs.LevelLemmas.{Fit, IfHas, append_keeps, first_fit, given_fit, level_fit, read_fit, set_keeps, some_kind}
use Rattle.smq_words.proofs.ArgumentLemmas.{IsFlagText, IsFormatName, IsPickName, Known, Nameless, captures_default, captures_keep, dealing_keep, file_built, flag_known, format_keeps, format_known, help_built, help_default, help_keep, is_flag, known_flag_keeps, known_read, live_built, live_keep, name_keeps, none_known, not_given, of_known, optional_keeps, other_known, parts_built, parts_keep, pick_known, reading_default, reading_keep, settings_keeps, window_built, window_keep}

abbrev pub settings_built : Text → Shape
settings_built name = built_leaf (record (settings_app name).top { no_binary_name = true })

abbrev pub options_built : Text → ValueParser → Shape
options_built name formats = built_leaf (record (options_app name formats).top { no_binary_name = true })

abbrev pub follow_built : ValueParser → Shape
follow_built formats = built_leaf (record (follow_app formats).top { no_binary_name = true })

abbrev pub query_built : ValueParser → ValueParser → Shape
query_built names formats = built_leaf (record (named_app (codes "query") (name_rule names) formats).top { no_binary_name = true })

abbrev pub total_built : ValueParser → ValueParser → Shape
total_built names formats = built_leaf (record (named_app (codes "total") (optional_rule names) formats).top { no_binary_name = true })

abbrev pub capture_built : Shape
capture_built = built_leaf (record capture_app.top { no_binary_name = true })

abbrev pub count_built : Shape
count_built = built_leaf (record count_app.top { no_binary_name = true })

abbrev pub length_built : Shape
length_built = built_leaf (record window_app.top { no_binary_name = true })

abbrev pub deal_built : Shape
deal_built = built_leaf (record deal_app.top { no_binary_name = true })

abbrev pub add_built : Shape
add_built = built_leaf (record add_app.top { no_binary_name = true })

-- words ask for a task
abbrev pub Asked : Option (Text × List Row) → Type 0
Asked entered =
    (task : Task) × (path : Option Text) × (window : Option Text) × (counting : CountingTexts) × (dealing : DealingTexts)
    × (captures : CaptureTexts) × Asks entered task path window counting dealing captures

-- what the arguments say of a flag
flag_said : (N : Text → Type 0) (id : Text) → is_flag id ≡ true → (rows : List Row) → Fit (Known N) rows → (given : Bool) × HasFlag id rows given
flag_said N id flag rows fit = flag_known (one_of id rows) (read_fit (Known N) IsFlagText id (known_read N id flag) rows fit)

-- what the arguments say of captures
captures_said : (N : Text → Type 0) (rows : List Row) → Fit (Known N) rows → (captures : CaptureTexts) × HasCaptures rows captures
captures_said N rows fit =
    let strictly = flag_said N (codes "strict") refl rows fit in
    let quietly = flag_said N (codes "quiet") refl rows fit in (
      record {
        paths = values_of (codes "FILE") rows ++ values_of (codes "capture") rows;
        links = values_of (codes "link") rows;
        first_session = first_of (codes "first-session") rows;
        index = first_of (codes "index") rows;
        losses = first_of (codes "losses") rows;
        every = first_of (codes "every") rows;
        questions = values_of (codes "ask") rows;
        into = first_of (codes "into") rows;
        by = first_of (codes "parts") rows;
        is_strict = strictly.0;
        is_quiet = quietly.0;
      },
      record {
        paths = refl;
        links = refl;
        first_session = refl;
        index = refl;
        losses = refl;
        every = refl;
        questions = refl;
        into = refl;
        by = refl;
        strict = strictly.1;
        quiet = quietly.1;
      },
    )

-- what the arguments of a task's subcommand ask for
task_asked : (N : Text → Type 0) (task : Task) (rows : List Row) → Fit (Known N) rows → Say rows task → Asked (Some (subcommand_name task, rows))
task_asked N task rows fit say =
    let said = captures_said N rows fit in (
      task,
      first_of (codes "settings") rows,
      first_of (codes "window") rows,
      counting_in rows task,
      dealing_in rows task,
      said.0,
      record {
        rows = rows;
        enters = refl;
        say = say;
        has_path = refl;
        has_window = refl;
        has_counting = refl;
        has_dealing = refl;
        has_captures = said.1;
      },
    )

-- of a subcommand with no format and no name
pub settings_asked : (task : Task) → ((rows : List Row) → Say rows task) → (words : List Text)
    → level_fault (settings_built (subcommand_name task)) [] nothing_held words false [] ≡ []
    → Asked (Some (rows_at (settings_built (subcommand_name task)) words))
settings_asked task say words clean =
    let s = settings_built (subcommand_name task) in
    let fit = (level_fit (Known Nameless) s
    (settings_keeps Nameless, captures_keep Nameless help_built (help_keep Nameless)) (tt, captures_default Nameless help_built (help_default Nameless)) words clean).0 in
    task_asked Nameless task (rows_after s.rules [] words) fit (say (rows_after s.rules [] words))

pub capture_asked : (words : List Text) → level_fault capture_built [] nothing_held words false [] ≡ []
    → Asked (Some (rows_at capture_built words))
capture_asked words clean =
    let s = capture_built in
    let fit = (level_fit (Known Nameless) s (
      append_keeps (Known Nameless) (filled required_link_rule) (λ v h. other_known Nameless (codes "link") v refl refl refl),
      reading_keep Nameless (live_built (parts_built (file_built ∷ help_built)))
          (live_keep Nameless (parts_built (file_built ∷ help_built)) (parts_keep Nameless (file_built ∷ help_built) (
            append_keeps (Known Nameless) file_built (λ v h. other_known Nameless (codes "FILE") v refl refl refl),
            help_keep Nameless,
          ))),
    ) (
      tt,
      reading_default Nameless (live_built (parts_built (file_built ∷ help_built)))
          (tt, (tt, (tt, (tt, (tt, help_default Nameless))))),
    ) words clean).0 in
    task_asked Nameless Capture (rows_after s.rules [] words) fit tt

-- rows in which a format is known, and no name is given
format_said : (rows : List Row) → Fit (Known Nameless) rows → (f : Format) × IsQueried rows (record { pick = pick.All; format = f })
format_said rows fit =
    let shape = format_known (first_of (codes "format") rows)
    (of_known (Known Nameless (codes "format")) IsFormatName (λ v h. h.1 refl) _
    (first_fit (Known Nameless) (codes "format") rows fit)) in
    let unnamed = none_known _ (of_known (Known Nameless (codes "NAME")) Nameless (λ v h. h.0 refl) _
    (first_fit (Known Nameless) (codes "NAME") rows fit)) in
    (shape.0, (unnamed, shape.1))

pub report_asked : (formats : ValueParser) → TakesNames format_names formats → (words : List Text)
    → level_fault (options_built (codes "report") formats) [] nothing_held words false [] ≡ []
    → Asked (Some (rows_at (options_built (codes "report") formats) words))
report_asked formats takes words clean =
    let s = options_built (codes "report") formats in
    let rows = rows_after s.rules [] words in
    let fit = (level_fit (Known Nameless) s
    (format_keeps Nameless formats takes, (settings_keeps Nameless, captures_keep Nameless help_built (help_keep Nameless)))
    (tt, (tt, captures_default Nameless help_built (help_default Nameless))) words clean).0 in
    let said = format_said rows fit in
    task_asked Nameless (Run (record { pick = pick.All; format = said.0 })) rows fit said.1

pub follow_asked : (formats : ValueParser) → TakesNames format_names formats → (words : List Text)
    → level_fault (follow_built formats) [] nothing_held words false [] ≡ []
    → Asked (Some (rows_at (follow_built formats) words))
follow_asked formats takes words clean =
    let s = follow_built formats in
    let rows = rows_after s.rules [] words in
    let fit = (level_fit (Known Nameless) s (
      format_keeps Nameless formats takes,
      (
        settings_keeps Nameless,
        captures_keep Nameless (live_built (window_built help_built))
            (live_keep Nameless (window_built help_built) (window_keep Nameless help_built (help_keep Nameless))),
      ),
    ) (tt, (tt, captures_default Nameless (live_built (window_built help_built)) (tt, (tt, (tt, help_default Nameless))))) words clean).0 in
    let said = format_said rows fit in
    task_asked Nameless (Follow said.0) rows fit said.1.1

named_query : (x : Pick) (f : Format) (v : Text) → pick_name x ≡ Some v → codes "query" ≡ subcommand_name (Run (record { pick = x; format = f }))
named_query pick.All f v h = cc
named_query (pick.View view) f v h = refl
named_query (pick.List list) f v h = refl

is_required : (g : Bool) → check_kinds false false (true && (not g || false)) ≡ [] → g ≡ true
is_required true h = refl
is_required false h = absurd (some_kind h)

pub query_asked : (names formats : ValueParser) → TakesNames pick_names names → TakesNames format_names formats → (words : List Text)
    → level_fault (query_built names formats) [] nothing_held words false [] ≡ [] → Asked (Some (rows_at (query_built names formats) words))
query_asked names formats takes_names takes_formats words clean =
    let s = query_built names formats in
    let rows = rows_after s.rules [] words in
    let level = level_fit (Known IsPickName) s (
      name_keeps names takes_names,
      (
        format_keeps IsPickName formats takes_formats,
        (settings_keeps IsPickName, captures_keep IsPickName help_built (help_keep IsPickName)),
      ),
    ) (tt, (tt, (tt, captures_default IsPickName help_built (help_default IsPickName)))) words clean in
    let shape = format_known (first_of (codes "format") rows)
    (of_known (Known IsPickName (codes "format")) IsFormatName (λ v h. h.1 refl) _
    (first_fit (Known IsPickName) (codes "format") rows level.0)) in
    let given = given_fit (Known IsPickName) (codes "NAME") rows level.0 (is_required (is_given (codes "NAME") rows) level.1) in
    let named = (subst (IfHas (Known IsPickName (codes "NAME"))) given.1 (first_fit (Known IsPickName) (codes "NAME") rows level.0)).0 refl in
    subst (λ name. Asked (Some (name, rows))) (sym (named_query named.0 shape.0 given.0 named.1))
    (task_asked IsPickName (Run (record { pick = named.0; format = shape.0 })) rows level.0 (given.1 ∙ sym named.1, shape.1))

pub total_asked : (names formats : ValueParser) → TakesNames pick_names names → TakesNames format_names formats → (words : List Text)
    → level_fault (total_built names formats) [] nothing_held words false [] ≡ [] → Asked (Some (rows_at (total_built names formats) words))
total_asked names formats takes_names takes_formats words clean =
    let s = total_built names formats in
    let rows = rows_after s.rules [] words in
    let fit = (level_fit (Known IsPickName) s (
      optional_keeps names takes_names,
      (
        format_keeps IsPickName formats takes_formats,
        (settings_keeps IsPickName, captures_keep IsPickName help_built (help_keep IsPickName)),
      ),
    ) (tt, (tt, (tt, captures_default IsPickName help_built (help_default IsPickName)))) words clean).0 in
    let shape = format_known (first_of (codes "format") rows)
    (of_known (Known IsPickName (codes "format")) IsFormatName (λ v h. h.1 refl) _
    (first_fit (Known IsPickName) (codes "format") rows fit)) in
    let named = pick_known (first_of (codes "NAME") rows)
    (of_known (Known IsPickName (codes "NAME")) IsPickName (λ v h. h.0 refl) _
    (first_fit (Known IsPickName) (codes "NAME") rows fit)) in
    task_asked IsPickName (Total (output.Report (record { pick = named.0; format = shape.0 }))) rows fit (named.1, shape.1)

pub count_asked : (words : List Text) → level_fault count_built [] nothing_held words false [] ≡ [] → Asked (Some (rows_at count_built words))
count_asked words clean =
    let s = count_built in
    let rows = rows_after s.rules [] words in
    let level = level_fit (Known Nameless) s (
      set_keeps (Known Nameless) (filled columns_rule) (λ v h. other_known Nameless (codes "by") v refl refl refl),
      (
        append_keeps (Known Nameless) (filled (repeated_rule (codes "where"))) (λ v h. other_known Nameless (codes "where") v refl refl refl),
        (
          set_keeps (Known Nameless) (filled (option_rule (codes "zone"))) (λ v h. other_known Nameless (codes "zone") v refl refl refl),
          (settings_keeps Nameless, captures_keep Nameless help_built (help_keep Nameless)),
        ),
      ),
    ) (tt, (tt, (tt, (tt, captures_default Nameless help_built (help_default Nameless))))) words clean in
    let given = given_fit (Known Nameless) (codes "by") rows level.0 (is_required (is_given (codes "by") rows) level.1) in
    task_asked Nameless Count rows level.0 (given.0, given.1)

pub window_asked : (words : List Text) → level_fault length_built [] nothing_held words false [] ≡ []
    → Asked (Some (rows_at length_built words))
window_asked words clean =
    let s = length_built in
    let rows = rows_after s.rules [] words in
    let level = level_fit (Known Nameless) s (
      set_keeps (Known Nameless) (with_index 1 (filled length_rule)) (λ v h. other_known Nameless (codes "window") v refl refl refl),
      help_keep Nameless,
    ) (tt, help_default Nameless) words clean in
    let given = given_fit (Known Nameless) (codes "window") rows level.0 (is_required (is_given (codes "window") rows) level.1) in
    task_asked Nameless Window rows level.0 (given.0, given.1)

pub deal_asked : (words : List Text) → level_fault deal_built [] nothing_held words false [] ≡ [] → Asked (Some (rows_at deal_built words))
deal_asked words clean =
    let s = deal_built in
    let fit = (level_fit (Known Nameless) s
    (dealing_keep Nameless (filled settings_rule ∷ filled quiet_rule ∷ help_built)
    (settings_keeps Nameless, (known_flag_keeps Nameless (codes "quiet") refl refl, help_keep Nameless)))
    (tt, (tt, (tt, (tt, (tt, ((not_given Nameless (codes "quiet") refl refl, tt), help_default Nameless)))))) words clean).0 in
    task_asked Nameless Deal (rows_after s.rules [] words) fit tt

pub add_asked : (words : List Text) → level_fault add_built [] nothing_held words false [] ≡ [] → Asked (Some (rows_at add_built words))
add_asked words clean =
    let s = add_built in
    let rows = rows_after s.rules [] words in
    let level = level_fit (Known Nameless) s (
      known_flag_keeps Nameless (codes "periods") refl refl,
      (
        append_keeps (Known Nameless) (with_index 1 (filled reports_rule)) (λ v h. other_known Nameless (codes "FILE") v refl refl refl),
        help_keep Nameless,
      ),
    ) ((not_given Nameless (codes "periods") refl refl, tt), (tt, help_default Nameless)) words clean in
    let given = given_fit (Known Nameless) (codes "FILE") rows level.0 (is_required (is_given (codes "FILE") rows) level.1) in
    let periods = flag_said Nameless (codes "periods") refl rows level.0 in
    task_asked Nameless (Add periods.0) rows level.0 (periods.1, (given.0, given.1))
