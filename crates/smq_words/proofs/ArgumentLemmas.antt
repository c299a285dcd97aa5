-- What is known of the values that `clap` reads of an argument: a name is one that is taken, and a flag is given or not.
use Rattle.std.proofs.Common.{◌≡◌, ◌∙◌, ◌||◌, Bool, true, false, cond, List, [], ◌∷◌, ◌++◌, map, Option, Some, None, ◌⊎◌, inl, inr, refl, sym, ap, subst, codes}
use Rattle.std.specs.Prelude.{unwrap_or}
use Rattle.std.specs.Borrow.{Bor}
use Rattle.std.specs.List.{list_any}
use Rattle.std.specs.Str.{bytes_eq}
use Rattle.std.proofs.lemmas.Slice.Eq.{bytes_eq-Decides}
use Rattle.clap.specs.Kinds.{value_kinds}
use Rattle.clap.specs.Simple.{filled, help_rule, with_index}
use Rattle.clap.specs.ValueTests.{accepts}
use Rattle.clap.specs.Values.{bool_text, read_as, refused_kind}
use Rattle.clap.specs.Walk.{Names, Rule, Text}
use Rattle.clap.specs.declared.builder.value_parser.Reading.{Reading}
use Rattle.clap.specs.declared.builder.value_parser.Reading.TheVariants as reading
use Rattle.clap.specs.declared.builder.value_parser.ValueParser.{ValueParser}
use Rattle.clap.specs.declared.builder.value_parser.ValueParser.TheVariants as vp
use Rattle.clap.proofs.WalkLemmas.{list_any-map}
use Rattle.smq_tally.specs.Lists.{lists}
use Rattle.smq_tally.specs.Names.{list_name, view_name}
use Rattle.smq_tally.specs.Rows.{views}
use Rattle.smq_report.specs.Picks.{pick_name, pick_names}
use Rattle.smq_report.specs.declared.pick.Format.{Format}
use Rattle.smq_report.specs.declared.pick.Format.TheVariants as format
use Rattle.smq_report.specs.declared.pick.Pick.{Pick}
use Rattle.smq_report.specs.declared.pick.Pick.TheVariants as pick
use Rattle.smq_words.specs.Words.{TakesNames, count_rule, file_rule, flag_rule, folder_rule, format_name, format_names, format_rule, link_rule, name_rule, option_rule, optional_rule, parts_rule, quiet_rule, repeated_rule, settings_rule, strict_rule}
use Rattle.smq_words.proofs.LevelLemmas.{AllKeep, DefaultsFit, IfHas, Keeps, append_keeps, flag_keeps, flagged, help_keeps, set_keeps, set_once, some_kind}

-- ---- names

-- a text that a parser of these names takes is one of them
taken_name : (texts : List Text) (parser : ValueParser) → TakesNames texts parser → (v : Text) → accepts false parser v ≡ true
    → list_any (λ text. bytes_eq text v) texts ≡ true
taken_name texts (vp.Names names) takes v h =
    subst (λ ts. list_any (λ text. bytes_eq text v) ts ≡ true) takes
    (sym (list_any-map (λ text. bytes_eq text v) (λ (name : Bor Text). name.now) names.now) ∙ h)
taken_name texts vp.String takes v h = elim takes [ ]
taken_name texts vp.NonEmptyString takes v h = elim takes [ ]
taken_name texts vp.Bool takes v h = elim takes [ ]
taken_name texts vp.Boolish takes v h = elim takes [ ]
taken_name texts vp.Falsey takes v h = elim takes [ ]
taken_name texts (vp.Signed _ _) takes v h = elim takes [ ]
taken_name texts (vp.Unsigned _ _) takes v h = elim takes [ ]
taken_name texts vp.Float takes v h = elim takes [ ]
taken_name texts vp.Char takes v h = elim takes [ ]
taken_name texts (vp.Values _) takes v h = elim takes [ ]

-- what has one of the names
named_among : {X : Type 0} (name : X → Text) (xs : List X) (v : Text) → list_any (λ text. bytes_eq text v) (map name xs) ≡ true
    → (x : X) × (name x ≡ v)
named_among name [] v h = cc
named_among name (x ∷ xs) v h = first (bytes_eq (name x) v) refl h (named_among name xs v)
  where
    first : (b : Bool) → bytes_eq (name x) v ≡ b → (b || list_any (λ text. bytes_eq text v) (map name xs)) ≡ true
        → (list_any (λ text. bytes_eq text v) (map name xs) ≡ true → (y : _) × (name y ≡ v)) → (y : _) × (name y ≡ v)
    first true e h more = (x, (bytes_eq-Decides (name x) v).0 e)
    first false e h more = more h

either_any : {X : Type 0} (p : X → Bool) (xs ys : List X) → list_any p (xs ++ ys) ≡ true → (list_any p xs ≡ true) ⊎ (list_any p ys ≡ true)
either_any p [] ys h = inr h
either_any p (x ∷ xs) ys h = first (p x) h (either_any p xs ys)
  where
    first : (b : Bool) → (b || list_any p (xs ++ ys)) ≡ true → (list_any p (xs ++ ys) ≡ true → (list_any p xs ≡ true) ⊎ (list_any p ys ≡ true))
        → ((b || list_any p xs) ≡ true) ⊎ (list_any p ys ≡ true)
    first true h more = inl refl
    first false h more = more h

accepted : (parser : ValueParser) (v : Text) → value_kinds false parser v ≡ [] → accepts false parser v ≡ true
accepted parser v h = of_test (accepts false parser v) h
  where
    of_test : (b : Bool) → cond b [] (refused_kind parser ∷ []) ≡ [] → b ≡ true
    of_test true h = refl
    of_test false h = absurd (some_kind h)

-- a text is the name of a view or a list
abbrev pub IsPickName : Text → Type 0
IsPickName v = (x : Pick) × (pick_name x ≡ Some v)

-- a text is the name of a format
abbrev pub IsFormatName : Text → Type 0
IsFormatName v = (x : Format) × (format_name x ≡ v)

taken_pick : (parser : ValueParser) → TakesNames pick_names parser → (v : Text) → value_kinds false parser v ≡ [] → IsPickName v
taken_pick parser takes v h = elim (either_any (λ text. bytes_eq text v) (map view_name views) (map list_name lists)
    (taken_name pick_names parser takes v (accepted parser v h))) [
      | inl a ↦ let named = named_among view_name views v a in (pick.View named.0, ap (λ (t : Text). Some t) named.1)
      | inr a ↦ let named = named_among list_name lists v a in (pick.List named.0, ap (λ (t : Text). Some t) named.1)
    ]

taken_format : (parser : ValueParser) → TakesNames format_names parser → (v : Text) → value_kinds false parser v ≡ [] → IsFormatName v
taken_format parser takes v h = named_among format_name (format.Csv ∷ format.Table ∷ []) v
    (taken_name format_names parser takes v (accepted parser v h))

-- ---- what is known of the values of arguments

-- a text is the value of a flag
abbrev pub IsFlagText : Text → Type 0
IsFlagText v = (b : Bool) × (bool_text b ≡ v)

-- whether an argument is `--strict`, `--quiet` or `--periods`
abbrev pub is_flag : Text → Bool
is_flag id = bytes_eq id (codes "strict") || bytes_eq id (codes "quiet") || bytes_eq id (codes "periods")

-- what is known of the value of an argument: NAME's has N, a format is named, and a flag is given or not
abbrev pub Known : (Text → Type 0) → Text → Text → Type 0
Known N id v = (id ≡ codes "NAME" → N v) × (id ≡ codes "format" → IsFormatName v) × (is_flag id ≡ true → IsFlagText v)

pub apart : (a b : Text) → bytes_eq a b ≡ false → a ≡ b → ⊥
apart a b h e = let same : bytes_eq a b ≡ true = (bytes_eq-Decides a b).1 e in cc

no_flag : (id v : Text) → is_flag id ≡ false → is_flag id ≡ true → IsFlagText v
no_flag id v none e = cc

-- an argument of another id, where a flag's value is known
flag_text_known : (N : Text → Type 0) (id v : Text) → bytes_eq id (codes "NAME") ≡ false → bytes_eq id (codes "format") ≡ false
    → (is_flag id ≡ true → IsFlagText v) → Known N id v
flag_text_known N id v name shape given = (
  λ e. absurd (apart id (codes "NAME") name e),
  λ e. absurd (apart id (codes "format") shape e),
  given,
)

-- an argument of another id
pub other_known : (N : Text → Type 0) (id v : Text) → bytes_eq id (codes "NAME") ≡ false → bytes_eq id (codes "format") ≡ false
    → is_flag id ≡ false → Known N id v
other_known N id v name shape none = flag_text_known N id v name shape (no_flag id v none)

taken_flag : (v : Text) → value_kinds false vp.Bool v ≡ [] → IsFlagText v
taken_flag v h = by_tests (bytes_eq v (codes "true")) (bytes_eq v (codes "false")) refl refl (accepted vp.Bool v h)
  where
    by_tests : (first second : Bool) → bytes_eq v (codes "true") ≡ first → bytes_eq v (codes "false") ≡ second → (first || second) ≡ true
        → IsFlagText v
    by_tests true second a b h = (true, sym ((bytes_eq-Decides v (codes "true")).0 a))
    by_tests false true a b h = (false, sym ((bytes_eq-Decides v (codes "false")).0 b))
    by_tests false false a b h = cc

abbrev format_built : ValueParser → Rule
format_built formats = filled (format_rule formats)

abbrev name_built : ValueParser → Rule
name_built names = with_index 1 (filled (name_rule names))

abbrev optional_built : ValueParser → Rule
optional_built names = with_index 1 (filled (optional_rule names))

abbrev pub file_built : Rule
file_built = with_index 1 (filled file_rule)

pub format_keeps : (N : Text → Type 0) (formats : ValueParser) → TakesNames format_names formats → Keeps (Known N) (set_once (format_built formats))
format_keeps N formats takes = set_keeps (Known N) (format_built formats) (λ v h. (
  λ e. absurd (apart (codes "format") (codes "NAME") refl e),
  λ e. taken_format formats takes v h,
  no_flag (codes "format") v refl,
))

pub settings_keeps : (N : Text → Type 0) → Keeps (Known N) (set_once (filled settings_rule))
settings_keeps N = set_keeps (Known N) (filled settings_rule) (λ v h. other_known N (codes "settings") v refl refl refl)

name_known : (names : ValueParser) → TakesNames pick_names names → (v : Text) → value_kinds false names v ≡ [] → Known IsPickName (codes "NAME") v
name_known names takes v h = (
  λ e. taken_pick names takes v h,
  λ e. absurd (apart (codes "NAME") (codes "format") refl e),
  no_flag (codes "NAME") v refl,
)

pub name_keeps : (names : ValueParser) → TakesNames pick_names names → Keeps (Known IsPickName) (set_once (name_built names))
name_keeps names takes = set_keeps (Known IsPickName) (name_built names) (name_known names takes)

pub optional_keeps : (names : ValueParser) → TakesNames pick_names names → Keeps (Known IsPickName) (set_once (optional_built names))
optional_keeps names takes = set_keeps (Known IsPickName) (optional_built names) (name_known names takes)

pub known_flag_keeps : (N : Text → Type 0) (id : Text) → bytes_eq id (codes "NAME") ≡ false → bytes_eq id (codes "format") ≡ false
    → Keeps (Known N) (flagged (filled (flag_rule id)))
known_flag_keeps N id name shape =
    flag_keeps (Known N) (filled (flag_rule id)) (λ v h. flag_text_known N id v name shape (λ e. taken_flag v h))

-- the rules of how captures are read, before others
abbrev reading_built : List Rule → List Rule
reading_built rest =
    filled (option_rule (codes "first-session")) ∷ filled strict_rule ∷ filled quiet_rule ∷ filled (option_rule (codes "index"))
    ∷ filled (option_rule (codes "losses")) ∷ rest

pub reading_keep : (N : Text → Type 0) (rest : List Rule) → AllKeep (Known N) rest → AllKeep (Known N) (reading_built rest)
reading_keep N rest keep = (
  set_keeps (Known N) (filled (option_rule (codes "first-session"))) (λ v h. other_known N (codes "first-session") v refl refl refl),
  (
    known_flag_keeps N (codes "strict") refl refl,
    (
      known_flag_keeps N (codes "quiet") refl refl,
      (
        set_keeps (Known N) (filled (option_rule (codes "index"))) (λ v h. other_known N (codes "index") v refl refl refl),
        (set_keeps (Known N) (filled (option_rule (codes "losses"))) (λ v h. other_known N (codes "losses") v refl refl refl), keep),
      ),
    ),
  ),
)

-- a flag that isn't given
pub not_given : (N : Text → Type 0) (id : Text) → bytes_eq id (codes "NAME") ≡ false → bytes_eq id (codes "format") ≡ false
    → Known N id (codes "false")
not_given N id name shape = flag_text_known N id (codes "false") name shape (λ e. (false, refl))

pub reading_default : (N : Text → Type 0) (rest : List Rule) → DefaultsFit (Known N) rest → DefaultsFit (Known N) (reading_built rest)
reading_default N rest fit =
    (tt, ((not_given N (codes "strict") refl refl, tt), ((not_given N (codes "quiet") refl refl, tt), (tt, (tt, fit)))))

-- the rules of captures that are read behind rows, before others
abbrev captures_built : List Rule → List Rule
captures_built rest = filled (repeated_rule (codes "capture")) ∷ filled link_rule ∷ reading_built rest

pub captures_keep : (N : Text → Type 0) (rest : List Rule) → AllKeep (Known N) rest → AllKeep (Known N) (captures_built rest)
captures_keep N rest keep = (
  append_keeps (Known N) (filled (repeated_rule (codes "capture"))) (λ v h. other_known N (codes "capture") v refl refl refl),
  (
    append_keeps (Known N) (filled link_rule) (λ v h. other_known N (codes "link") v refl refl refl),
    reading_keep N rest keep,
  ),
)

pub captures_default : (N : Text → Type 0) (rest : List Rule) → DefaultsFit (Known N) rest → DefaultsFit (Known N) (captures_built rest)
captures_default N rest fit = (tt, (tt, reading_default N rest fit))

-- the rules of what is asked while packets come, before others
abbrev pub live_built : List Rule → List Rule
live_built rest = filled (option_rule (codes "every")) ∷ filled (repeated_rule (codes "ask")) ∷ rest

pub live_keep : (N : Text → Type 0) (rest : List Rule) → AllKeep (Known N) rest → AllKeep (Known N) (live_built rest)
live_keep N rest keep = (
  set_keeps (Known N) (filled (option_rule (codes "every"))) (λ v h. other_known N (codes "every") v refl refl refl),
  (append_keeps (Known N) (filled (repeated_rule (codes "ask"))) (λ v h. other_known N (codes "ask") v refl refl refl), keep),
)

-- the rules of the scripts to which rows go, before others
abbrev pub parts_built : List Rule → List Rule
parts_built rest = filled (option_rule (codes "into")) ∷ filled parts_rule ∷ rest

pub parts_keep : (N : Text → Type 0) (rest : List Rule) → AllKeep (Known N) rest → AllKeep (Known N) (parts_built rest)
parts_keep N rest keep = (
  set_keeps (Known N) (filled (option_rule (codes "into"))) (λ v h. other_known N (codes "into") v refl refl refl),
  (set_keeps (Known N) (filled parts_rule) (λ v h. other_known N (codes "parts") v refl refl refl), keep),
)

-- the rules of the scripts that `deal` writes, before others
abbrev dealing_built : List Rule → List Rule
dealing_built rest =
    filled (option_rule (codes "settled")) ∷ filled (option_rule (codes "rest")) ∷ filled count_rule ∷ filled folder_rule ∷ rest

pub dealing_keep : (N : Text → Type 0) (rest : List Rule) → AllKeep (Known N) rest → AllKeep (Known N) (dealing_built rest)
dealing_keep N rest keep = (
  set_keeps (Known N) (filled (option_rule (codes "settled"))) (λ v h. other_known N (codes "settled") v refl refl refl),
  (
    set_keeps (Known N) (filled (option_rule (codes "rest"))) (λ v h. other_known N (codes "rest") v refl refl refl),
    (
      set_keeps (Known N) (filled count_rule) (λ v h. other_known N (codes "count") v refl refl refl),
      (set_keeps (Known N) (filled folder_rule) (λ v h. other_known N (codes "folder") v refl refl refl), keep),
    ),
  ),
)

-- the length of a window, an option before others
abbrev pub window_built : List Rule → List Rule
window_built rest = filled (option_rule (codes "window")) ∷ rest

pub window_keep : (N : Text → Type 0) (rest : List Rule) → AllKeep (Known N) rest → AllKeep (Known N) (window_built rest)
window_keep N rest keep =
    (set_keeps (Known N) (filled (option_rule (codes "window"))) (λ v h. other_known N (codes "window") v refl refl refl), keep)

abbrev pub help_built : List Rule
help_built = filled help_rule ∷ []

pub help_keep : (N : Text → Type 0) → AllKeep (Known N) help_built
help_keep N = (help_keeps (Known N) (filled help_rule), tt)

pub help_default : (N : Text → Type 0) → DefaultsFit (Known N) help_built
help_default N = (tt, tt)

pub of_known : (P Q : Text → Type 0) → ((v : Text) → P v → Q v) → (o : Option Text) → IfHas P o → IfHas Q o
of_known P Q f None h = tt
of_known P Q f (Some v) h = f v h

-- where no argument is NAME
abbrev pub Nameless : Text → Type 0
Nameless v = ⊥

pub none_known : (o : Option Text) → IfHas Nameless o → o ≡ None
none_known None h = refl
none_known (Some v) h = absurd h

pub format_known : (o : Option Text) → IfHas IsFormatName o → (x : Format) × (unwrap_or o (codes "csv") ≡ format_name x)
format_known None h = (format.Csv, refl)
format_known (Some v) h = (h.0, sym h.1)

-- a name asks for its view or list, and none for the whole report
pub pick_known : (o : Option Text) → IfHas IsPickName o → (x : Pick) × (o ≡ pick_name x)
pick_known None h = (pick.All, refl)
pick_known (Some v) h = (h.0, sym h.1)

-- a flag that has no value isn't given
pub flag_known : (o : Option Text) → IfHas IsFlagText o → (b : Bool) × (unwrap_or o (codes "false") ≡ bool_text b)
flag_known None h = (false, refl)
flag_known (Some v) h = (h.0, sym h.1)

-- the value of a flag is read as it stands
flag_read : (how : Reading) (b : Bool) → bool_text b ≡ read_as how (bool_text b)
flag_read reading.AsWritten b = refl
flag_read reading.WithoutMinus true = refl
flag_read reading.WithoutMinus false = refl
flag_read reading.Boolish true = refl
flag_read reading.Boolish false = refl
flag_read reading.Falsey true = refl
flag_read reading.Falsey false = refl

pub known_read : (N : Text → Type 0) (id : Text) → is_flag id ≡ true → (how : Reading) (v : Text) → Known N id v → IsFlagText (read_as how v)
known_read N id flag how v known =
    let is = known.2 flag in
    (is.0, flag_read how is.0 ∙ ap (read_as how) is.1)

-- what `get_flag` says of the text of a flag
pub flag_is : (text : Option Text) (result given : Bool) → (text ≡ None → result ≡ false) → (text ≡ Some (codes "true") → result ≡ true)
    → (text ≡ Some (codes "false") → result ≡ false) → unwrap_or text (codes "false") ≡ bool_text given → result ≡ given
flag_is None result true if_none if_true if_false h = absurd (apart (codes "false") (codes "true") refl h)
flag_is None result false if_none if_true if_false h = if_none refl
flag_is (Some v) result true if_none if_true if_false h = if_true (ap (λ (t : Text). Some t) h)
flag_is (Some v) result false if_none if_true if_false h = if_false (ap (λ (t : Text). Some t) h)
