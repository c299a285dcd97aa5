-- What `clap` finds at the words of one level in which it finds no fault: each value of an argument has what the parser of
-- the argument asks for, whatever the order of the words, be it a default or not.
use Rattle.std.proofs.Common.{◌≡◌, ◌&&◌, ℕ, zero, suc, Bool, true, false, cond, List, [], ◌∷◌, ◌++◌, length, Option, Some, None, refl, sym, subst, codes}
use Rattle.std.specs.Prelude.{drop, encode_utf8, find, fold, is_some, option_and_then, option_map, slice_get}
use Rattle.std.specs.Option.{option_map_or}
use Rattle.std.specs.Str.{bytes_eq, chars}
use Rattle.std.proofs.lemmas.Slice.Eq.{bytes_eq-Decides}
use Rattle.clap.specs.Facts.{explicit_source, parser_of_value}
use Rattle.clap.specs.Faults.{bundle_fault, bundle_step_fault, check_fault, defaults_fault, flag_word_fault, flags_fault, level_fault, long_fault, option_fault, other_fault, positional_fault, react_fault, settle_fault, short_fault, step_fault, stray_fault, turn_fault, use_fault, walk_fault, word_fault}
use Rattle.clap.specs.Kinds.{Kinds, or_else, value_kinds, values_kinds}
use Rattle.clap.specs.Lexer.{long_of, short_of}
use Rattle.clap.specs.Simple.{Shape}
use Rattle.clap.specs.Takes.{is_given}
use Rattle.clap.specs.Values.{read_as}
use Rattle.clap.specs.Walk.{Held, Names, Outcome, Row, Rule, Step, Text, Waiting, Walk, after_flag, after_step, arg_by_id, arg_by_index, arg_by_long, arg_by_short, at_row, attached_value, bundle_met, bundle_step, default_rows, first_of, flag_met, has_row, is_pending, long_met, long_or_other, more_values, nothing_held, one_of, option_met, option_word, plain_word, reacted, reading_by, row_text, rows_after, settled, settled_rows, short_met, short_or_plain, subcommand_met, subcommand_or_other, takes_several, takes_values, to_positional, used, used_by_id, values_or_missing, walk_from, walked, walked_from, with_default, with_values, without, word_met}
use Rattle.clap.specs.Walk.{done, idle, next, option, plain, positional, refused, subcommand, trailing, value, waits}
use Rattle.clap.specs.declared.builder.action.ArgAction.TheVariants.{Append, Help, Set, SetTrue}
use Rattle.clap.specs.declared.builder.range.ValueRange.{ValueRange}
use Rattle.clap.specs.declared.builder.value_parser.Reading.{Reading}
use Rattle.clap.specs.declared.builder.value_parser.ValueParser.{ValueParser}
use Rattle.clap.specs.declared.error.kind.ErrorKind.{ErrorKind}
use Rattle.clap.specs.declared.error.kind.ErrorKind.TheVariants as kind
use Rattle.clap.specs.declared.parser.matches.ValueSource.{ValueSource}

-- no step fails where neither of two does
pub neither : (a b : Kinds) → or_else a b ≡ [] → (a ≡ []) × (b ≡ [])
neither [] b h = (refl, h)
neither (k ∷ ks) b h = cc

pub some_kind : {k : ErrorKind} {ks : Kinds} → ◌≡◌ {A = Kinds} (k ∷ ks) [] → ⊥
some_kind h = cc

-- ---- rows whose values fit

-- each of the values has P
abbrev pub Each : (Text → Type 0) → List Text → Type 0
Each P [] = Unit {0}
Each P (v ∷ vs) = P v × Each P vs

-- there is a value, and each has P
abbrev pub SomeEach : (Text → Type 0) → List Text → Type 0
SomeEach P [] = ⊥
SomeEach P (v ∷ vs) = P v × Each P vs

-- each row has values, and each of them has P of the row's id
abbrev pub Fit : (Text → Text → Type 0) → List Row → Type 0
Fit P [] = Unit {0}
Fit P (r ∷ rs) = SomeEach (P r.id) r.values × Fit P rs

each_append : (P : Text → Type 0) (vs ws : List Text) → Each P vs → Each P ws → Each P (vs ++ ws)
each_append P [] ws a b = b
each_append P (v ∷ vs) ws a b = (a.0, each_append P vs ws a.1 b)

some_append : (P : Text → Type 0) (vs ws : List Text) → SomeEach P vs → Each P ws → SomeEach P (vs ++ ws)
some_append P [] ws a b = absurd a
some_append P (v ∷ vs) ws a b = (a.0, each_append P vs ws a.1 b)

some_each : (P : Text → Type 0) (vs : List Text) → SomeEach P vs → Each P vs
some_each P [] a = absurd a
some_each P (v ∷ vs) a = a

fit_append : (P : Text → Text → Type 0) (rs ss : List Row) → Fit P rs → Fit P ss → Fit P (rs ++ ss)
fit_append P [] ss a b = b
fit_append P (r ∷ rs) ss a b = (a.0, fit_append P rs ss a.1 b)

at_row_fit : (P : Text → Text → Type 0) (id : Text) (change : Row → List Row) (missing rows : List Row)
    → ((r : Row) → r.id ≡ id → SomeEach (P r.id) r.values → Fit P (change r)) → Fit P missing → Fit P rows → Fit P (at_row id change missing rows)
at_row_fit P id change missing [] f m a = m
at_row_fit P id change missing (r ∷ rs) f m a = first (bytes_eq r.id id) refl (at_row_fit P id change missing rs f m a.1)
  where
    first : (b : Bool) → bytes_eq r.id id ≡ b → Fit P (at_row id change missing rs)
        → Fit P (cond b (change r ++ rs) (r ∷ at_row id change missing rs))
    first true e more = fit_append P (change r) rs (f r ((bytes_eq-Decides r.id id).0 e) a.0) a.1
    first false e more = (a.0, more)

with_values_fit : (P : Text → Text → Type 0) (id : Text) (how : Reading) (s : ValueSource) (vs : List Text) (rows : List Row)
    → SomeEach (P id) vs → Fit P rows
    → Fit P (with_values id how s vs rows)
with_values_fit P id how s vs rows given a =
    at_row_fit P id (more_values s vs) _ rows
    (λ r same h. (some_append (P r.id) r.values vs h (subst (λ i. Each (P i) vs) (sym same) (some_each (P id) vs given)), tt))
    (given, tt) a

without_fit : (P : Text → Text → Type 0) (id : Text) (rows : List Row) → Fit P rows → Fit P (without id rows)
without_fit P id rows a = at_row_fit P id (λ _. []) [] rows (λ r same h. tt) tt a

-- ---- one use of an argument

-- a use of the argument that has no fault keeps rows fit
abbrev pub Keeps : (Text → Text → Type 0) → Rule → Type 0
Keeps P a = (again : Bool) (values : List Text) (rows : List Row) → use_fault again a values rows ≡ [] → Fit P rows → Fit P (used a values rows)

abbrev pub AllKeep : (Text → Text → Type 0) → List Rule → Type 0
AllKeep P [] = Unit {0}
AllKeep P (a ∷ rest) = Keeps P a × AllKeep P rest

abbrev one : ValueRange
one = record { start_inclusive = 1; end_inclusive = 1 }

-- an argument that is set, with one value
abbrev pub set_once : Rule → Rule
set_once a = record a { action = Some Set; range = Some one }

values_pass : (P : Text → Type 0) (ignore_case : Bool) (parser : ValueParser) → ((v : Text) → value_kinds ignore_case parser v ≡ [] → P v)
    → (vs : List Text) → values_kinds ignore_case parser vs ≡ [] → Each P vs
values_pass P ignore_case parser f [] h = tt
values_pass P ignore_case parser f (v ∷ vs) h =
    let parts = neither (value_kinds ignore_case parser v) _ h in
    (f v parts.0, values_pass P ignore_case parser f vs parts.1)

pub set_keeps : (P : Text → Text → Type 0) (a : Rule) → ((v : Text) → value_kinds a.ignore_case (parser_of_value a.parser) v ≡ []
    → P a.id v) → Keeps P (set_once a)
set_keeps P a f again [] rows h fit = absurd (some_kind h)
set_keeps P a f again (v ∷ vs) rows h fit =
    let reacts = (neither _ _ h).1 in
    let passes = (neither _ _ reacts).1 in
    with_values_fit P a.id _ _ (v ∷ vs) (without a.id rows)
    (values_pass (P a.id) a.ignore_case (parser_of_value a.parser) f (v ∷ vs) passes) (without_fit P a.id rows fit)

-- an argument that takes one value a use, and keeps those of the uses before
abbrev pub appended : Rule → Rule
appended a = record a { action = Some Append; range = Some one }

pub append_keeps : (P : Text → Text → Type 0) (a : Rule) → ((v : Text) → value_kinds a.ignore_case (parser_of_value a.parser) v ≡ []
    → P a.id v) → Keeps P (appended a)
append_keeps P a f again [] rows h fit = absurd (some_kind h)
append_keeps P a f again (v ∷ vs) rows h fit =
    let passes = (neither _ _ h).1 in
    with_values_fit P a.id _ _ (v ∷ vs) rows
    (values_pass (P a.id) a.ignore_case (parser_of_value a.parser) f (v ∷ vs) passes) fit

abbrev none : ValueRange
none = record { start_inclusive = 0; end_inclusive = 0 }

-- a flag: where it is given, its value is `true`
abbrev pub flagged : Rule → Rule
flagged a = record a { action = Some SetTrue; range = Some none; missing = codes "true" ∷ [] }

pub flag_keeps : (P : Text → Text → Type 0) (a : Rule) → ((v : Text) → value_kinds a.ignore_case (parser_of_value a.parser) v ≡ []
    → P a.id v) → Keeps P (flagged a)
flag_keeps P a f again values rows h fit = by_values values (neither _ _ (neither _ _ h).1).1
  where
    by_values : (values : List Text) → values_kinds a.ignore_case (parser_of_value a.parser) (values_or_missing (flagged a) values) ≡ []
        → Fit P (used (flagged a) values rows)
    by_values [] passes =
        with_values_fit P a.id _ _ (codes "true" ∷ []) (without a.id rows)
        (values_pass (P a.id) a.ignore_case (parser_of_value a.parser) f (codes "true" ∷ []) passes) (without_fit P a.id rows fit)
    by_values (v ∷ vs) passes =
        with_values_fit P a.id _ _ (v ∷ vs) (without a.id rows)
        (values_pass (P a.id) a.ignore_case (parser_of_value a.parser) f (v ∷ vs) passes) (without_fit P a.id rows fit)

-- an argument that asks for help
abbrev pub asks_help : Rule → Rule
asks_help a = record a { action = Some Help }

pub help_keeps : (P : Text → Text → Type 0) (a : Rule) → Keeps P (asks_help a)
help_keeps P a again values rows h fit = fit

abbrev IfKeeps : (Text → Text → Type 0) → Option Rule → Type 0
IfKeeps P None = Unit {0}
IfKeeps P (Some a) = Keeps P a

find_keeps : (P : Text → Text → Type 0) (p : Rule → Bool) (c : List Rule) → AllKeep P c → IfKeeps P (find p c)
find_keeps P p [] all = tt
find_keeps P p (a ∷ rest) all = first (p a) (find_keeps P p rest all.1)
  where
    first : (b : Bool) → IfKeeps P (find p rest) → IfKeeps P (cond b (Some a) (find p rest))
    first true more = all.0
    first false more = more

settle_fit : (P : Text → Text → Type 0) (c : List Rule) → AllKeep P c → (again : Bool) (h : Held) → settle_fault c again h ≡ []
    → Fit P h.rows → Fit P (settled c h).rows
settle_fit P c all again h clean fit = by_pending h.pending clean
  where
    by_rule : (o : Option Rule) → IfKeeps P o → (vs : List Text) → option_map_or (λ a. use_fault again a vs h.rows) o [] ≡ []
        → Fit P (used_by_id o vs h.rows)
    by_rule None k vs clean = fit
    by_rule (Some a) k vs clean = k again vs h.rows clean fit

    by_pending : (o : Option (Text × List Text))
        → option_map_or (λ p. option_map_or (λ a. use_fault again a p.1 h.rows) (arg_by_id c p.0) []) o [] ≡ []
        → Fit P (settled_rows c o h.rows)
    by_pending None clean = fit
    by_pending (Some p) clean = by_rule (arg_by_id c p.0) (find_keeps P (λ a. bytes_eq a.id p.0) c all) p.1 clean

react_fit : (P : Text → Text → Type 0) (c : List Rule) → AllKeep P c → (again : Bool) (a : Rule) → Keeps P a → (values : List Text) (h : Held)
    → react_fault c again a values h ≡ [] → Fit P h.rows → Fit P (reacted c a values h).rows
react_fit P c all again a k values h clean fit =
    let parts = neither (settle_fault c again h) _ clean in
    k again values (settled c h).rows parts.1 (settle_fit P c all again h parts.0 fit)

-- ---- flags and options

option_fit : (P : Text → Text → Type 0) (c : List Rule) → AllKeep P c → (again : Bool) (a : Rule) → Keeps P a → (v : Option Text) (h : Held)
    → option_fault c again a v h ≡ [] → Fit P h.rows → Fit P (option_met c a v h).0.rows
option_fit P c all again a k (Some v) h clean fit = react_fit P c all again a k (v ∷ []) h clean fit
option_fit P c all again a k None h clean fit = settle_fit P c all again h clean fit

flag_fit : (P : Text → Text → Type 0) (c : List Rule) → AllKeep P c → (again : Bool) (a : Rule) → Keeps P a → (v : Option Text) (h : Held)
    → cond (is_some v) (kind.TooManyValues ∷ []) (react_fault c again a [] h) ≡ [] → Fit P h.rows → Fit P (flag_met c a v h).0.rows
flag_fit P c all again a k (Some v) h clean fit = fit
flag_fit P c all again a k None h clean fit = react_fit P c all again a k [] h clean fit

long_fit : (P : Text → Text → Type 0) (c : List Rule) → AllKeep P c → (again : Bool) (o : Option Rule) → IfKeeps P o → (v : Option Text) (h : Held)
    → long_fault c again o v h ≡ [] → Fit P h.rows → Fit P (long_met c o v h).0.rows
long_fit P c all again None k v h clean fit = fit
long_fit P c all again (Some a) k v h clean fit = takes (takes_values a) clean
  where
    takes : (b : Bool) → cond b (option_fault c again a v h) (cond (is_some v) (kind.TooManyValues ∷ []) (react_fault c again a [] h)) ≡ []
        → Fit P (cond b (option_met c a v h) (flag_met c a v h)).0.rows
    takes true clean = option_fit P c all again a k v h clean fit
    takes false clean = flag_fit P c all again a k v h clean fit

short_fit : (P : Text → Text → Type 0) (c : List Rule) → AllKeep P c → (again : Bool) (o : Option Rule) → IfKeeps P o → (rest : Text) (h : Held)
    (fault : Held → Kinds) (go : Held → Held × Outcome) → ((g : Held) → fault g ≡ [] → Fit P g.rows → Fit P (go g).0.rows)
    → short_fault c again o rest h fault ≡ [] → Fit P h.rows → Fit P (short_met c o rest h go).0.rows
short_fit P c all again None k rest h fault go more clean fit = fit
short_fit P c all again (Some a) k rest h fault go more clean fit = takes (takes_values a) clean
  where
    takes : (b : Bool) → cond b (option_fault c again a (attached_value rest) h)
        (or_else (react_fault c again a [] h) (fault (reacted c a [] h))) ≡ []
        → Fit P (cond b (option_met c a (attached_value rest) h) (go (reacted c a [] h))).0.rows
    takes true clean = option_fit P c all again a k (attached_value rest) h clean fit
    takes false clean =
        let parts = neither (react_fault c again a [] h) _ clean in
        more (reacted c a [] h) parts.1 (react_fit P c all again a k [] h parts.0 fit)

bundle_fit : (P : Text → Text → Type 0) (c : List Rule) → AllKeep P c → (again : Bool) (k : ℕ) (flags : Text) (skip : ℕ) (so_far : Outcome) (h : Held)
    → flags_fault c again k flags skip h ≡ [] → Fit P h.rows → Fit P (bundle_met c k flags skip so_far h).0.rows
unfolding flags_fault bundle_met
bundle_fit P c all again zero flags skip so_far h clean fit = fit
bundle_fit P c all again (suc k) flags skip so_far h clean fit = by_octet (slice_get (chars flags) 0) skip clean (bundle_fit P c all again k)
  where
    by_octet : (o : Option ℕ) (skip : ℕ) → bundle_step_fault c again o flags skip h (flags_fault c again k) ≡ []
        → ((flags : Text) (skip : ℕ) (so_far : Outcome) (g : Held) → flags_fault c again k flags skip g ≡ [] → Fit P g.rows
        → Fit P (bundle_met c k flags skip so_far g).0.rows)
        → Fit P (bundle_step c o flags skip so_far h (bundle_met c k)).0.rows
    by_octet None skip clean more = fit
    by_octet (Some x) zero clean more =
        let rest = drop (length (encode_utf8 x)) flags in
        short_fit P c all again (arg_by_short c x) (find_keeps P _ c all) rest h (flags_fault c again k rest 0) (bundle_met c k rest 0 done)
        (λ g. more rest 0 done g) clean fit
    by_octet (Some x) (suc skip) clean more = more (drop (length (encode_utf8 x)) flags) skip so_far h clean fit

-- ---- words

plain_fit : (P : Text → Text → Type 0) (c : List Rule) (w : Waiting) (word : Text) (h : Held) → Fit P h.rows → Fit P (plain_word c w word h).0.rows
plain_fit P c idle word h fit = fit
plain_fit P c positional word h fit = fit
plain_fit P c (option id) word h fit = by_rule (arg_by_id c id)
  where
    by_rule : (o : Option Rule) → Fit P (option_word o id word h).0.rows
    by_rule None = fit
    by_rule (Some a) = fit

after_fit : (P : Text → Text → Type 0) (c : List Rule) (w : Waiting) (word : Text) (h : Held) (o : Outcome) → Fit P h.rows
    → Fit P (after_flag c w word h o).0.rows
after_fit P c w word h done fit = fit
after_fit P c w word h (waits id) fit = fit
after_fit P c w word h plain fit = plain_fit P c w word h fit
after_fit P c w word h refused fit = plain_fit P c w word h fit

short_word_fit : (P : Text → Text → Type 0) (c : List Rule) → AllKeep P c → (again : Bool) (w : Waiting) (word : Text) (o : Option Text) (h : Held)
    → option_map_or (λ flags. bundle_fault c again flags h) o [] ≡ [] → Fit P h.rows → Fit P (short_or_plain c w word o h).0.rows
short_word_fit P c all again w word None h clean fit = plain_fit P c w word h fit
short_word_fit P c all again w word (Some flags) h clean fit =
    after_fit P c w word _ _ (bundle_fit P c all again (length flags) flags h.skip plain (record h { skip = 0 }) clean fit)

flag_word_fit : (P : Text → Text → Type 0) (c : List Rule) → AllKeep P c
    → (again : Bool) (w : Waiting) (word : Text) (o : Option (Text × Option Text)) (h : Held)
    → flag_word_fault c again o word h ≡ [] → Fit P h.rows → Fit P (long_or_other c w word o h).0.rows
flag_word_fit P c all again w word (Some p) h clean fit =
    after_fit P c w word _ _ (long_fit P c all again (arg_by_long c p.0) (find_keeps P _ c all) p.1 h clean fit)
flag_word_fit P c all again w word None h clean fit = short_word_fit P c all again w word (short_of word) h clean fit

abbrev dashes : Text
dashes = 45 ∷ 45 ∷ []

other_fit : (P : Text → Text → Type 0) (s : Shape) → AllKeep P s.rules → (w : Waiting) (position : ℕ) (word : Text) (o : Option Text) (h : Held)
    → other_fault s o word h ≡ [] → Fit P h.rows → Fit P (subcommand_or_other s.rules o w position word h).0.rows
other_fit P s all w position word (Some name) h clean fit = fit
other_fit P s all w position word None h clean fit = by_dashes (bytes_eq word dashes) clean
  where
    by_dashes : (b : Bool) → cond b [] (flag_word_fault s.rules s.args_override_self (long_of word) word h) ≡ []
        → Fit P (cond b (h, trailing position) (long_or_other s.rules w word (long_of word) h)).0.rows
    by_dashes true clean = fit
    by_dashes false clean = flag_word_fit P s.rules all s.args_override_self w word (long_of word) h clean fit

met_fit : (P : Text → Text → Type 0) (s : Shape) → AllKeep P s.rules
    → (names : Names) (t : Bool) (w : Waiting) (position : ℕ) (word : Text) (h : Held)
    → word_fault s names t w word h ≡ [] → Fit P h.rows → Fit P (word_met s.rules names t w position word h).0.rows
met_fit P s all names true w position word h clean fit = fit
met_fit P s all names false w position word h clean fit = other_fit P s all w position word (subcommand_met names w word) h clean fit

step_fit : (P : Text → Text → Type 0) (s : Shape) → AllKeep P s.rules → (w : Walk) (word : Text) (h : Held) (x : Step)
    → step_fault s w.position h x ≡ []
    → Fit P h.rows → Fit P (after_step s.rules word w h x).held.rows
step_fit P s all w word h (next after) clean fit = fit
step_fit P s all w word h (trailing position) clean fit = fit
step_fit P s all w word h (subcommand name) clean fit = fit
step_fit P s all w word h value clean fit = by_rule (arg_by_index s.rules w.position) clean
  where
    goes_on : (a : Rule) (b : Bool) → cond b [] (settle_fault s.rules s.args_override_self h) ≡ [] → Fit P (cond b h (settled s.rules h)).rows
    goes_on a true clean = fit
    goes_on a false clean = settle_fit P s.rules all s.args_override_self h clean fit

    by_rule : (o : Option Rule) → option_map_or (λ a. positional_fault s.rules s.args_override_self a h) o (stray_fault s) ≡ []
        → Fit P (to_positional s.rules o word w h).held.rows
    by_rule None clean = fit
    by_rule (Some a) clean = goes_on a (is_pending a h.pending && takes_several a) clean

turn_fit : (P : Text → Text → Type 0) (s : Shape) → AllKeep P s.rules → (names : Names) (w : Walk) (word : Text) → turn_fault s names w word ≡ []
    → Fit P w.held.rows → Fit P (walked s.rules names w word).held.rows
unfolding walked
turn_fit P s all names w word clean fit = by_stop w.stopped clean
  where
    by_stop : (o : Option (Text × List Text))
        → cond (is_some o) [] (or_else (word_fault s names w.is_trailing w.waiting word w.held)
        (step_fault s w.position (word_met s.rules names w.is_trailing w.waiting w.position word w.held).0
        (word_met s.rules names w.is_trailing w.waiting w.position word w.held).1)) ≡ []
        → Fit P (walked_from s.rules names o w word).held.rows
    by_stop (Some p) clean = fit
    by_stop None clean =
        let parts = neither (word_fault s names w.is_trailing w.waiting word w.held) _ clean in
        step_fit P s all w word _ _ parts.1 (met_fit P s all names w.is_trailing w.waiting w.position word w.held parts.0 fit)

walk_fit : (P : Text → Text → Type 0) (s : Shape) → AllKeep P s.rules → (names : Names) (words : List Text) (w : Walk)
    → walk_fault s names w words ≡ []
    → Fit P w.held.rows → Fit P (fold (walked s.rules names) w words).held.rows
unfolding walk_fault
walk_fit P s all names [] w clean fit = fit
walk_fit P s all names (word ∷ words) w clean fit =
    let parts = neither (turn_fault s names w word) _ clean in
    walk_fit P s all names words (walked s.rules names w word) parts.1 (turn_fit P s all names w word parts.0 fit)

-- ---- the end of a level

-- each default value of an argument has P of the argument's id
abbrev pub DefaultsFit : (Text → Text → Type 0) → List Rule → Type 0
DefaultsFit P [] = Unit {0}
DefaultsFit P (a ∷ rest) = Each (P a.id) a.defaults × DefaultsFit P rest

defaults_fit : (P : Text → Text → Type 0) (c : List Rule) → DefaultsFit P c → (rows : List Row) → Fit P rows → Fit P (fold with_default rows c)
defaults_fit P [] all rows fit = fit
defaults_fit P (a ∷ rest) all rows fit = defaults_fit P rest all.1 (with_default rows a) (by_row (has_row a.id rows))
  where
    by_values : (vs : List Text) → Each (P a.id) vs → Fit P (default_rows a.id (reading_by a) vs rows)
    by_values [] each = fit
    by_values (v ∷ vs) each = with_values_fit P a.id _ _ (v ∷ vs) rows each fit

    by_row : (b : Bool) → Fit P (cond b rows (default_rows a.id (reading_by a) a.defaults rows))
    by_row true = fit
    by_row false = by_values a.defaults all.0

-- the rows of a level without a fault fit, and what it requires is given
pub level_fit : (P : Text → Text → Type 0) (s : Shape) → AllKeep P s.rules → DefaultsFit P s.rules → (words : List Text)
    → level_fault s [] nothing_held words false [] ≡ []
    → Fit P (rows_after s.rules [] words) × (check_fault s (rows_after s.rules [] words) false ≡ [])
level_fit P s all defaults words clean =
    let end = (fold (walked s.rules []) (walk_from nothing_held) words).held in
    let walks = neither (walk_fault s [] (walk_from nothing_held) words) _ clean in
    let settles = neither (settle_fault s.rules s.args_override_self end) _ walks.1 in
    let checks = neither (defaults_fault (settled s.rules end).rows s.rules) _ settles.1 in (
      defaults_fit P s.rules defaults (settled s.rules end).rows
          (settle_fit P s.rules all s.args_override_self end settles.0 (walk_fit P s all [] words (walk_from nothing_held) walks.0 tt)),
      checks.1,
    )

-- ---- the values of an argument in rows that fit

abbrev IfFit : (Text → Type 0) → Option Row → Type 0
IfFit P None = Unit {0}
IfFit P (Some r) = SomeEach P r.values

found_fit : (P : Text → Text → Type 0) (id : Text) (rows : List Row) → Fit P rows → IfFit (P id) (find (λ r. bytes_eq r.id id) rows)
found_fit P id [] fit = tt
found_fit P id (r ∷ rs) fit = first (bytes_eq r.id id) refl (found_fit P id rs fit.1)
  where
    first : (b : Bool) → bytes_eq r.id id ≡ b → IfFit (P id) (find (λ r. bytes_eq r.id id) rs)
        → IfFit (P id) (cond b (Some r) (find (λ r. bytes_eq r.id id) rs))
    first true e more = subst (λ i. SomeEach (P i) r.values) ((bytes_eq-Decides r.id id).0 e) fit.0
    first false e more = more

-- what the first value of an argument, if it has one, is known to be
abbrev pub IfHas : (Text → Type 0) → Option Text → Type 0
IfHas P None = Unit {0}
IfHas P (Some v) = P v

-- the first value of an argument has P
pub first_fit : (P : Text → Text → Type 0) (id : Text) (rows : List Row) → Fit P rows → IfHas (P id) (first_of id rows)
first_fit P id rows fit = of_row (find (λ r. bytes_eq r.id id) rows) (found_fit P id rows fit)
  where
    of_values : (vs : List Text) → SomeEach (P id) vs → IfHas (P id) (slice_get vs 0)
    of_values [] h = tt
    of_values (v ∷ vs) h = h.0

    of_row : (o : Option Row) → IfFit (P id) o → IfHas (P id) (option_and_then (λ r. slice_get r.values 0) o)
    of_row None h = tt
    of_row (Some r) h = of_values r.values h

-- and so has Q as it is read, where P gives that
pub read_fit : (P : Text → Text → Type 0) (Q : Text → Type 0) (id : Text) → ((how : Reading) (v : Text) → P id v → Q (read_as how v))
    → (rows : List Row) → Fit P rows → IfHas Q (one_of id rows)
read_fit P Q id reads rows fit = of_row (find (λ r. bytes_eq r.id id) rows) (found_fit P id rows fit)
  where
    of_values : (how : Reading) (vs : List Text) → SomeEach (P id) vs → IfHas Q (option_map (read_as how) (slice_get vs 0))
    of_values how [] h = tt
    of_values how (v ∷ vs) h = reads how v h.0

    of_row : (o : Option Row) → IfFit (P id) o → IfHas Q (option_and_then row_text o)
    of_row None h = tt
    of_row (Some r) h = of_values r.reading r.values h

-- an argument that is given has a first value
pub given_fit : (P : Text → Text → Type 0) (id : Text) (rows : List Row) → Fit P rows → is_given id rows ≡ true
    → (v : Text) × (first_of id rows ≡ Some v)
given_fit P id rows fit given = of_row (find (λ r. bytes_eq r.id id) rows) (found_fit P id rows fit) given
  where
    of_values : (vs : List Text) → SomeEach (P id) vs → (v : Text) × (slice_get vs 0 ≡ Some v)
    of_values [] h = absurd h
    of_values (v ∷ vs) h = (v, refl)

    of_row : (o : Option Row) → IfFit (P id) o → option_map_or (λ r. explicit_source r.source) o false ≡ true
        → (v : Text) × (option_and_then (λ r. slice_get r.values 0) o ≡ Some v)
    of_row None h given = cc
    of_row (Some r) h given = of_values r.values h
