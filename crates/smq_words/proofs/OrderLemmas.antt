-- What `clap` takes: words in which it finds no fault enter a subcommand of the program, and ask for a task.
use Rattle.std.proofs.Common.{◌≡◌, ◌∙◌, ◌||◌, ◌&&◌, ℕ, Bool, true, false, cond, List, [], ◌∷◌, Option, Some, None, refl, sym, ap, ap₂, subst, codes}
use Rattle.std.specs.Prelude.{fold, is_some, option_map, string_bytes, unwrap_or}
use Rattle.std.specs.Option.{option_map_or}
use Rattle.std.specs.Str.{bytes_eq}
use Rattle.std.proofs.lemmas.Slice.Eq.{bytes_eq-Decides}
use Rattle.clap.specs.Faults.{check_fault, defaults_fault, entered_fault, fault_of, level_fault, other_fault, settle_fault, step_fault, turn_fault, walk_fault, word_fault}
use Rattle.clap.specs.Kinds.{Kinds, or_else}
use Rattle.clap.specs.Lexer.{long_of, short_of}
use Rattle.clap.specs.Simple.{App, Shape, built, built_leaf, entered, help_shape, names_of, rows_at, subcommand_of}
use Rattle.clap.specs.Walk.{Held, Names, Outcome, Row, Rule, Step, Text, Waiting, Walk, after_flag, after_step, arg_by_index, finished, first_of, long_or_other, nothing_held, plain_word, settled, short_or_plain, subcommand_met, subcommand_or_other, to_positional, walk_from, walked, walked_from, word_met}
use Rattle.clap.specs.Walk.{done, idle, next, option, plain, positional, refused, subcommand, trailing, value, waits}
use Rattle.clap.specs.declared.builder.value_parser.ValueParser.{ValueParser}
use Rattle.clap.specs.declared.error.kind.ErrorKind.TheVariants as kind
use Rattle.smq_report.specs.Picks.{pick_name, pick_names}
use Rattle.smq_report.specs.declared.pick.Format.{Format}
use Rattle.smq_report.specs.declared.pick.Output.TheVariants as output
use Rattle.smq_report.specs.declared.pick.Pick.{Pick}
use Rattle.smq_report.specs.declared.pick.Pick.TheVariants as pick
use Rattle.smq_report.specs.declared.pick.Query.{Query}
use Rattle.smq_words.specs.declared.orders.Order.{Order}
use Rattle.smq_words.specs.declared.orders.Task.{Task}
use Rattle.smq_words.specs.declared.orders.Task.TheVariants.{Add, Capture, Check, Count, Deal, Follow, Run, Total, Window}
use Rattle.smq_words.specs.Words.{Asks, CaptureTexts, CountingTexts, DealingTexts, HasCaptures, HasFlag, HasFormat, IsAsked, Say, TakesNames, counting_in, dealing_in, format_names, no_counting, no_dealing, program, run_name, subcommand_name, texts_of_captures, texts_of_counting, texts_of_dealing}
use Rattle.smq_words.specs.within.Tasks.{counting_named, dealing_named, task_named}
use Rattle.smq_words.proofs.LevelLemmas.{neither, some_kind}
use Rattle.smq_words.proofs.ArgumentLemmas.{apart}
use Rattle.smq_words.proofs.EnteredLemmas.{Asked, add_asked, add_built, capture_asked, capture_built, count_asked, count_built, deal_asked, deal_built, follow_asked, follow_built, length_built, options_built, query_asked, query_built, report_asked, settings_asked, settings_built, total_asked, total_built, window_asked}

-- ---- the subcommand: it is no `help`, which is refused with help

abbrev app_built : ValueParser → ValueParser → App
app_built names formats = built (program names formats)

abbrev top_built : ValueParser → ValueParser → Shape
top_built names formats = (app_built names formats).top

abbrev NoHelp : Option (Text × List Text) → Type 0
NoHelp None = Unit {0}
NoHelp (Some p) = bytes_eq p.0 (codes "help") ≡ false

abbrev EntersNoHelp : Step → Type 0
EntersNoHelp (next w) = Unit {0}
EntersNoHelp (trailing position) = Unit {0}
EntersNoHelp (subcommand name) = bytes_eq name (codes "help") ≡ false
EntersNoHelp value = Unit {0}

plain_enters : (c : List Rule) (w : Waiting) (word : Text) (h : Held) → EntersNoHelp (plain_word c w word h).1
plain_enters c idle word h = tt
plain_enters c positional word h = tt
plain_enters c (option id) word h = tt

after_enters : (c : List Rule) (w : Waiting) (word : Text) (h : Held) (o : Outcome) → EntersNoHelp (after_flag c w word h o).1
after_enters c w word h done = tt
after_enters c w word h (waits id) = tt
after_enters c w word h plain = plain_enters c w word h
after_enters c w word h refused = plain_enters c w word h

short_enters : (c : List Rule) (w : Waiting) (word : Text) (o : Option Text) (h : Held) → EntersNoHelp (short_or_plain c w word o h).1
short_enters c w word None h = plain_enters c w word h
short_enters c w word (Some flags) h = after_enters c w word _ _

long_enters : (c : List Rule) (w : Waiting) (word : Text) (o : Option (Text × Option Text)) (h : Held) → EntersNoHelp (long_or_other c w word o h).1
long_enters c w word (Some p) h = after_enters c w word _ _
long_enters c w word None h = short_enters c w word (short_of word) h

other_enters : (names formats : ValueParser) (o : Option Text) (w : Waiting) (position : ℕ) (word : Text) (h : Held)
    → other_fault (top_built names formats) o word h ≡ []
    → EntersNoHelp (subcommand_or_other (top_built names formats).rules o w position word h).1
other_enters names formats (Some name) w position word h clean = no_help (bytes_eq name (codes "help")) clean
  where
    no_help : (b : Bool) → cond (b && true) (kind.DisplayHelp ∷ kind.InvalidSubcommand ∷ []) [] ≡ [] → b ≡ false
    no_help true clean = absurd (some_kind clean)
    no_help false clean = refl
other_enters names formats None w position word h clean = by_dashes (bytes_eq word (45 ∷ 45 ∷ []))
  where
    by_dashes : (b : Bool) → EntersNoHelp (cond b (h, trailing position) (long_or_other (top_built names formats).rules w word (long_of word) h)).1
    by_dashes true = tt
    by_dashes false = long_enters (top_built names formats).rules w word (long_of word) h

met_enters : (names formats : ValueParser) (ns : Names) (t : Bool) (w : Waiting) (position : ℕ) (word : Text) (h : Held)
    → word_fault (top_built names formats) ns t w word h ≡ []
    → EntersNoHelp (word_met (top_built names formats).rules ns t w position word h).1
met_enters names formats ns true w position word h clean = tt
met_enters names formats ns false w position word h clean = other_enters names formats (subcommand_met ns w word) w position word h clean

step_stops : (c : List Rule) (w : Walk) (word : Text) (h : Held) (x : Step) → EntersNoHelp x → NoHelp w.stopped
    → NoHelp (after_step c word w h x).stopped
step_stops c w word h (next after) enters stops = stops
step_stops c w word h (trailing position) enters stops = stops
step_stops c w word h (subcommand name) enters stops = enters
step_stops c w word h value enters stops = by_rule (arg_by_index c w.position)
  where
    by_rule : (o : Option Rule) → NoHelp (to_positional c o word w h).stopped
    by_rule None = stops
    by_rule (Some a) = tt

turn_stops : (names formats : ValueParser) (ns : Names) (w : Walk) (word : Text) → turn_fault (top_built names formats) ns w word
    ≡ [] → NoHelp w.stopped
    → NoHelp (walked (top_built names formats).rules ns w word).stopped
unfolding walked
turn_stops names formats ns w word clean stops = by_stop w.stopped clean stops
  where
    by_stop : (o : Option (Text × List Text))
        → cond (is_some o) [] (or_else (word_fault (top_built names formats) ns w.is_trailing w.waiting word w.held)
        (step_fault (top_built names formats) w.position (word_met (top_built names formats).rules ns w.is_trailing w.waiting
        w.position word w.held).0 (word_met (top_built names formats).rules ns w.is_trailing w.waiting w.position word
        w.held).1)) ≡ []
        → NoHelp o → NoHelp (walked_from (top_built names formats).rules ns o w word).stopped
    by_stop (Some p) clean enters = enters
    by_stop None clean enters =
        step_stops (top_built names formats).rules w word _ _
        (met_enters names formats ns w.is_trailing w.waiting w.position word w.held
        (neither (word_fault (top_built names formats) ns w.is_trailing w.waiting word w.held) _ clean).0)
        stops

walk_stops : (names formats : ValueParser) (ns : Names) (words : List Text) (w : Walk)
    → walk_fault (top_built names formats) ns w words ≡ [] → NoHelp w.stopped
    → NoHelp (fold (walked (top_built names formats).rules ns) w words).stopped
unfolding walk_fault
walk_stops names formats ns [] w clean stops = stops
walk_stops names formats ns (word ∷ words) w clean stops =
    let parts = neither (turn_fault (top_built names formats) ns w word) _ clean in
    walk_stops names formats ns words (walked (top_built names formats).rules ns w word) parts.1 (turn_stops names formats ns w word parts.0 stops)

-- ---- the words of the program

-- the subcommand that a word names, by a test of each
abbrev named_by : ValueParser → ValueParser → Bool → Bool → Bool → Bool → Bool → Bool → Bool → Bool → Bool → Bool → Bool → Bool → Bool → Option Shape
named_by names formats capture report query check follow total count messages receipts window deal add help =
    cond (capture || false) (Some capture_built)
    (cond (report || false) (Some (options_built (codes "report") formats))
    (cond (query || false) (Some (query_built names formats))
    (cond (check || false) (Some (settings_built (codes "check")))
    (cond (follow || false) (Some (follow_built formats))
    (cond (total || false) (Some (total_built names formats))
    (cond (count || false) (Some count_built)
    (cond (messages || false) (Some (settings_built (codes "messages")))
    (cond (receipts || false) (Some (settings_built (codes "receipts")))
    (cond (window || false) (Some length_built)
    (cond (deal || false) (Some deal_built)
    (cond (add || false) (Some add_built) (cond (help || false) (Some (built_leaf help_shape)) None))))))))))))

-- what a subcommand makes of the words after its name
abbrev entered_at : List Text → Option Shape → Option (Text × List Row)
entered_at words = option_map (λ s. rows_at s words)

abbrev below_fault : List Text → Option Shape → Kinds
below_fault words o = option_map_or (λ s. level_fault s [] nothing_held words false []) o []

missing : (names formats : ValueParser) (rows : List Row) → check_fault (top_built names formats) rows false ≡ [] → ⊥
missing names formats rows clean = some_kind {k = kind.MissingSubcommand} {ks = []} clean

by_name : (names formats : ValueParser) → TakesNames pick_names names → TakesNames format_names formats
    → (words : List Text) (rows : List Row) (capture report query check follow total count messages receipts window deal add help : Bool)
    → help ≡ false → below_fault words (named_by names formats capture report query check follow total count messages receipts window deal add help) ≡ []
    → check_fault (top_built names formats) rows
    (is_some (entered_at words (named_by names formats capture report query check follow total count messages receipts window deal add help))) ≡ []
    → Asked (entered_at words (named_by names formats capture report query check follow total count messages receipts window deal add help))
by_name names formats takes_names takes_formats words rows true report query check follow total count messages receipts window deal add help h clean checks =
    capture_asked words clean
by_name names formats takes_names takes_formats words rows false true query check follow total count messages receipts window deal add help h clean checks =
    report_asked formats takes_formats words clean
by_name names formats takes_names takes_formats words rows false false true check follow total count messages receipts window deal add help h clean checks =
    query_asked names formats takes_names takes_formats words clean
by_name names formats takes_names takes_formats words rows false false false true follow total count messages receipts window deal add help h clean checks =
    settings_asked Check (λ rows. tt) words clean
by_name names formats takes_names takes_formats words rows false false false false true total count messages receipts window deal add help h clean checks =
    follow_asked formats takes_formats words clean
by_name names formats takes_names takes_formats words rows false false false false false true count messages receipts window deal add help h clean checks =
    total_asked names formats takes_names takes_formats words clean
by_name names formats takes_names takes_formats words rows false false false false false false true messages receipts window deal add help h clean checks =
    count_asked words clean
by_name names formats takes_names takes_formats words rows false false false false false false false true receipts window deal add help h clean checks =
    settings_asked (Total output.Messages) (λ rows. tt) words clean
by_name names formats takes_names takes_formats words rows false false false false false false false false true window deal add help h clean checks =
    settings_asked (Total output.Receipts) (λ rows. tt) words clean
by_name names formats takes_names takes_formats words rows false false false false false false false false false true deal add help h clean checks =
    window_asked words clean
by_name names formats takes_names takes_formats words rows false false false false false false false false false false true add help h clean checks =
    deal_asked words clean
by_name names formats takes_names takes_formats words rows false false false false false false false false false false false true help h clean checks =
    add_asked words clean
by_name names formats takes_names takes_formats words rows false false false false false false false false false false false false true h clean checks = cc
by_name names formats takes_names takes_formats words rows false false false false false false false false false false false false false h clean checks =
    absurd (missing names formats rows checks)

by_stop : (names formats : ValueParser) → TakesNames pick_names names → TakesNames format_names formats
    → (rows : List Row) (o : Option (Text × List Text)) → NoHelp o
    → entered_fault (app_built names formats) o ≡ [] → check_fault (top_built names formats) rows (is_some (entered (app_built names formats) o)) ≡ []
    → Asked (entered (app_built names formats) o)
by_stop names formats takes_names takes_formats rows None no_help clean checks = absurd (missing names formats rows checks)
by_stop names formats takes_names takes_formats rows (Some p) no_help clean checks =
    by_name names formats takes_names takes_formats p.1 rows (bytes_eq (codes "capture") p.0)
    (bytes_eq (codes "report") p.0) (bytes_eq (codes "query") p.0)
    (bytes_eq (codes "check") p.0) (bytes_eq (codes "follow") p.0) (bytes_eq (codes "total") p.0) (bytes_eq (codes "count") p.0)
    (bytes_eq (codes "messages") p.0)
    (bytes_eq (codes "receipts") p.0) (bytes_eq (codes "window") p.0) (bytes_eq (codes "deal") p.0) (bytes_eq (codes "add") p.0) (bytes_eq (codes "help") p.0)
    (not_named (bytes_eq (codes "help") p.0) refl) clean checks
  where
    not_named : (b : Bool) → bytes_eq (codes "help") p.0 ≡ b → b ≡ false
    not_named false e = refl
    not_named true e =
        let same : codes "help" ≡ p.0 = (bytes_eq-Decides (codes "help") p.0).0 e in
        let asks : bytes_eq (codes "help") (codes "help") ≡ false = subst (λ t. bytes_eq t (codes "help") ≡ false) (sym same) no_help in
        absurd (apart (codes "help") (codes "help") asks refl)

-- words in which `clap` finds no fault ask for something
pub words_ask : (names formats : ValueParser) → TakesNames pick_names names → TakesNames format_names formats → (words : List Text)
    → fault_of (program names formats) words ≡ [] → Asked (subcommand_of (program names formats) words)
words_ask names formats takes_names takes_formats words clean =
    let s = top_built names formats in
    let ns = names_of (app_built names formats) in
    let end = fold (walked s.rules ns) (walk_from nothing_held) words in
    let walks = neither (walk_fault s ns (walk_from nothing_held) words) _ clean in
    let below = neither (entered_fault (app_built names formats) end.stopped) _ walks.1 in
    let settles = neither (settle_fault s.rules s.args_override_self end.held) _ below.1 in
    let checks = neither (defaults_fault (settled s.rules end.held).rows s.rules) _ settles.1 in
    by_stop names formats takes_names takes_formats (finished s.rules end.held) end.stopped
    (walk_stops names formats ns words (walk_from nothing_held) walks.0 tt) below.0 checks.1

-- ---- the task of a subcommand

same_query : (a b : Query) → a.pick ≡ b.pick → a.format ≡ b.format → a ≡ b
same_query a b pick format = ap₂ (λ (x : Pick) (f : Format). record { pick = x; format = f }) pick format

run_is : (query : Query) (of_periods : Bool) (x : Pick) → query.pick ≡ x → task_named (subcommand_name (Run query)) query of_periods ≡ Run query
run_is query of_periods pick.All is = rw is refl
run_is query of_periods (pick.View view) is = rw is refl
run_is query of_periods (pick.List list) is = rw is refl

-- what the name of a task's subcommand, the query of its arguments and whether they are of periods give
task_is : (task : Task) (rows : List Row) (query : Query) (of_periods : Bool)
    → ((x : Pick) → first_of (codes "NAME") rows ≡ pick_name x → query.pick ≡ x)
    → ((f : Format) → HasFormat rows f → query.format ≡ f) → ((given : Bool) → HasFlag (codes "periods") rows given → of_periods ≡ given)
    → Say rows task → task_named (subcommand_name task) query of_periods ≡ task
task_is (Run asked) rows query of_periods picked formed flagged say =
    rw (same_query query asked (picked asked.pick say.0) (formed asked.format say.1)) (run_is asked of_periods asked.pick refl)
task_is Check rows query of_periods picked formed flagged say = refl
task_is (Follow f) rows query of_periods picked formed flagged say = ap (λ f. Follow f) (formed f say)
task_is (Total (output.Report asked)) rows query of_periods picked formed flagged say =
    ap (λ q. Total (output.Report q)) (same_query query asked (picked asked.pick say.0) (formed asked.format say.1))
task_is (Total output.Messages) rows query of_periods picked formed flagged say = refl
task_is (Total output.Receipts) rows query of_periods picked formed flagged say = refl
task_is Count rows query of_periods picked formed flagged say = refl
task_is Deal rows query of_periods picked formed flagged say = refl
task_is (Add given) rows query of_periods picked formed flagged say = ap (λ p. Add p) (flagged given say.0)
task_is Capture rows query of_periods picked formed flagged say = refl
task_is Window rows query of_periods picked formed flagged say = refl

-- what the name of a task's subcommand and its arguments say of counting
counting_is : (task : Task) (rows : List Row) → counting_named (subcommand_name task) rows ≡ counting_in rows task
counting_is (Run query) rows = of_pick query.pick
  where
    of_pick : (x : Pick) → counting_named (run_name x) rows ≡ no_counting
    of_pick pick.All = refl
    of_pick (pick.View view) = refl
    of_pick (pick.List list) = refl
counting_is Check rows = refl
counting_is (Follow f) rows = refl
counting_is (Total (output.Report asked)) rows = refl
counting_is (Total output.Messages) rows = refl
counting_is (Total output.Receipts) rows = refl
counting_is Count rows = refl
counting_is Deal rows = refl
counting_is (Add of_periods) rows = refl
counting_is Capture rows = refl
counting_is Window rows = refl

-- what the name of a task's subcommand and its arguments say of dealing
dealing_is : (task : Task) (rows : List Row) → dealing_named (subcommand_name task) rows ≡ dealing_in rows task
dealing_is (Run query) rows = of_pick query.pick
  where
    of_pick : (x : Pick) → dealing_named (run_name x) rows ≡ no_dealing
    of_pick pick.All = refl
    of_pick (pick.View view) = refl
    of_pick (pick.List list) = refl
dealing_is Check rows = refl
dealing_is (Follow f) rows = refl
dealing_is (Total (output.Report asked)) rows = refl
dealing_is (Total output.Messages) rows = refl
dealing_is (Total output.Receipts) rows = refl
dealing_is Count rows = refl
dealing_is Deal rows = refl
dealing_is (Add of_periods) rows = refl
dealing_is Capture rows = refl
dealing_is Window rows = refl

abbrev rows_in : Option (Text × List Row) → List Row
rows_in None = []
rows_in (Some p) = p.1

abbrev name_in : Option (Text × List Row) → Text
name_in None = []
name_in (Some p) = p.0

-- the subcommand of matches, by its name and its rows
pub entered_is : {X : Type 0} (o : Option X) (name_of : X → Text) (matched : X → List Row) (name : Text) (rows : List Row)
    → Some name ≡ option_map name_of o → Some rows ≡ option_map matched o
    → option_map {U = Text × List Row} (λ x. (name_of x, matched x)) o ≡ Some (name, rows)
entered_is None name_of matched name rows same_name same_rows = cc
entered_is (Some x) name_of matched name rows same_name same_rows =
    ap₂ (λ (n : Text) (rs : List Row). Some (n, rs)) (sym (ap (λ o. unwrap_or o name) same_name)) (sym (ap (λ o. unwrap_or o rows) same_rows))

pub second_is : {X : Type 0} (o : Option X) (name_of : X → Text) (matched : X → List Row)
    → option_map (λ (p : Text × List Row). p.1) (option_map {U = Text × List Row} (λ x. (name_of x, matched x)) o) ≡ option_map matched o
second_is None name_of matched = refl
second_is (Some x) name_of matched = refl

-- the task for which the matches of a subcommand ask
pub asked_task : (name : Text) (rows : List Row) (query : Query) (of_periods : Bool)
    → ((x : Pick) → first_of (codes "NAME") rows ≡ pick_name x → query.pick ≡ x)
    → ((f : Format) → HasFormat rows f → query.format ≡ f)
    → ((given : Bool) → HasFlag (codes "periods") rows given → of_periods ≡ given)
    → (task : Task) (path window : Option Text) (counting : CountingTexts) (dealing : DealingTexts)
    (captures : CaptureTexts) → Asks (Some (name, rows)) task path window counting dealing captures → task_named name query of_periods ≡ task
asked_task name rows query of_periods picked formed flagged task path window counting dealing captures asks =
    let here : rows ≡ asks.rows = ap rows_in asks.enters in
    ap (λ n. task_named n query of_periods) (ap name_in asks.enters)
    ∙ task_is task rows query of_periods picked formed flagged (subst (λ rs. Say rs task) (sym here) asks.say)

-- what they say of captures
pub asked_captures : (name : Text) (rows : List Row) (task : Task) (path window : Option Text) (counting : CountingTexts)
    (dealing : DealingTexts) (captures : CaptureTexts) → Asks (Some (name, rows)) task path window counting dealing captures
    → HasCaptures rows captures
asked_captures name rows task path window counting dealing captures asks =
    subst (λ rs. HasCaptures rs captures) (sym (ap rows_in asks.enters)) asks.has_captures

-- what they say of counting
asked_counting : (name : Text) (rows : List Row) (task : Task) (path window : Option Text) (counting : CountingTexts) (dealing : DealingTexts)
    (captures : CaptureTexts) → Asks (Some (name, rows)) task path window counting dealing captures
    → counting_named name rows ≡ counting_in rows task
asked_counting name rows task path window counting dealing captures asks =
    ap (λ n. counting_named n rows) (ap name_in asks.enters) ∙ counting_is task rows

-- what they say of dealing
asked_dealing : (name : Text) (rows : List Row) (task : Task) (path window : Option Text) (counting : CountingTexts) (dealing : DealingTexts)
    (captures : CaptureTexts) → Asks (Some (name, rows)) task path window counting dealing captures
    → dealing_named name rows ≡ dealing_in rows task
asked_dealing name rows task path window counting dealing captures asks =
    ap (λ n. dealing_named n rows) (ap name_in asks.enters) ∙ dealing_is task rows

-- an order with that task, the path of `--settings`, the length of a window, what the arguments say of counting and dealing, and those captures is
-- asked for
pub order_asked : (name : Text) (rows : List Row) (task : Task) (path window : Option Text) (counting : CountingTexts)
    (dealing : DealingTexts) (captures : CaptureTexts) → Asks (Some (name, rows)) task path window counting dealing captures → (order : Order)
    → order.task ≡ task
    → option_map string_bytes order.settings ≡ first_of (codes "settings") rows
    → option_map string_bytes order.window ≡ first_of (codes "window") rows
    → texts_of_counting order.counting ≡ counting_named name rows → texts_of_dealing order.dealing ≡ dealing_named name rows
    → HasCaptures rows (texts_of_captures order.captures) → IsAsked (Some (name, rows)) order
order_asked name rows task path window counting dealing captures asks order same_task same_path same_window same_counting same_dealing has = record {
  rows = rows;
  enters = ap (λ (n : Text). Some (n, rows)) (ap name_in asks.enters ∙ ap subcommand_name (sym same_task));
  say = subst (λ t. Say rows t) (sym same_task) (subst (λ rs. Say rs task) (sym (ap rows_in asks.enters)) asks.say);
  has_path = sym same_path;
  has_window = sym same_window;
  has_counting = ap (counting_in rows) same_task ∙ sym (same_counting ∙ asked_counting name rows task path window counting dealing captures asks);
  has_dealing = ap (dealing_in rows) same_task ∙ sym (same_dealing ∙ asked_dealing name rows task path window counting dealing captures asks);
  has_captures = has;
}
