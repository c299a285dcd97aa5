-- The rows that a document of settings says: those of each link table, in order, and then one for the clock.
use Rattle.std.specs.Prelude.{ℕ, nat_le, nat_eq, not, ◌&&◌, ◌||◌, Bool, true, if◌then◌else◌, List, [], ◌∷◌, ◌++◌, length, map, codes, Option, Some, None, option_and_then, option_map, ◌≡◌, ⊤, ℤ, pos, negsuc}
use Rattle.std.specs.List.{flat_map, list_any}
use Rattle.std.specs.Str.{bytes_eq, is_utf8}
use Rattle.toml.specs.Data.{Data, as_array, as_integer, as_str, as_table, Items, no_items, item, Members, no_members, member, get_member}
use Rattle.toml.specs.Parse.{parse_document}
use Rattle.smq_kit.specs.declared.message_id.Form.{Form}
use Rattle.smq_kit.specs.declared.message_id.Form.TheVariants.{Verbatim}
use Rattle.smq_kit.specs.declared.names.LinkId.{LinkId}
use Rattle.smq_present.specs.declared.present.edit.Edit.TheVariants.{SetForm, SetWindow, Advance}
use Rattle.smq_load.specs.declared.link_settings.LinkSettings.{LinkSettings}
use Rattle.smq_load.specs.declared.record.Row.{Row}
use Rattle.smq_load.specs.declared.table.Keys.{Keys}
use Rattle.smq_load.specs.declared.table.Keys.TheVariants.{Document, Link}
use Rattle.smq_load.specs.declared.record.Row.TheVariants.{Plain}
use Rattle.smq_load.specs.declared.load_fault.LoadFault.{LoadFault}
use Rattle.smq_load.specs.declared.load_fault.LoadFault.TheVariants.{BadRow, BadSettings, Read, Memory}
use Rattle.smq_load.specs.Decimal.{above_0, up_to}
use Rattle.smq_load.specs.Fields.{form_of}

-- each key of a table is one of these
abbrev pub all_known : (List ℕ → Bool) → Members → Bool
all_known is_known no_members = true
all_known is_known (member key value rest) = is_known key && all_known is_known rest

-- the keys of a document, and of a link table
abbrev pub names_key : Keys → List ℕ → Bool
names_key Document key = bytes_eq key (codes "clock") || bytes_eq key (codes "link")
names_key Link key =
    bytes_eq key (codes "id") || bytes_eq key (codes "response") || bytes_eq key (codes "receipt") || bytes_eq key (codes "window")

-- an integer, where it is from 0 to the greatest
abbrev pub natural_to : ℕ → ℤ → Option ℕ
natural_to greatest (pos number) = up_to greatest (Some number)
natural_to greatest (negsuc _) = None

-- the integer that a value is, where it is from 0 to the greatest
abbrev pub number_to : ℕ → Data → Option ℕ
number_to greatest value = option_and_then (natural_to greatest) (as_integer value)

-- the link that an `id` names, an integer below 2^32, which has to be there
abbrev pub id_of : Option Data → Option LinkId
id_of None = None
id_of (Some id) = option_map (λ (number : ℕ). record { 0 = number }) (number_to 4294967295 id)

-- the form that a value names, verbatim where it is absent
abbrev pub form_in : Option Data → Option Form
form_in None = Some Verbatim
form_in (Some value) = option_and_then form_of (as_str value)

-- the window that a value says in ms, an integer from 1 to the last moment, or none where it is absent
abbrev pub window_in : Option Data → Option (Option ℕ)
window_in None = Some None
window_in (Some value) = option_map Some (above_0 (number_to 4102444800000 value))

-- a link with its forms and its window, where none of them can't be read
abbrev pub link_from : Option LinkId → Option Form → Option Form → Option (Option ℕ) → Option LinkSettings
link_from (Some link) (Some response) (Some receipt) (Some window) =
    Some (record { link = link; response = response; receipt = receipt; window = window })
link_from _ _ _ _ = None

-- the link, the forms and the window that a link table says by `id`, `response`, `receipt` and `window`, with no other key
abbrev pub link_of_table : Members → Option LinkSettings
link_of_table members =
    if all_known (names_key Link) members
    then link_from (id_of (get_member (codes "id") members))
    (form_in (get_member (codes "response") members)) (form_in (get_member (codes "receipt") members))
    (window_in (get_member (codes "window") members))
    else None

-- what a value says of a link, which has to be a table
abbrev pub link_in : Data → Option LinkSettings
link_in value = option_and_then link_of_table (as_table value)

-- one more link before others, where none is missing
abbrev pub link_before : Option LinkSettings → Option (List LinkSettings) → Option (List LinkSettings)
link_before (Some link) (Some links) = Some (link ∷ links)
link_before _ _ = None

-- the links of the tables of an array, in order
abbrev pub links_in : Items → Option (List LinkSettings)
links_in no_items = Some []
links_in (item value rest) = link_before (link_in value) (links_in rest)

-- no number stands twice
abbrev pub are_distinct : List ℕ → Bool
are_distinct [] = true
are_distinct (number ∷ rest) = not (list_any (nat_eq number) rest) && are_distinct rest

-- links with no number twice, and at most 4,096 of them
abbrev pub fitting : List LinkSettings → Option (List LinkSettings)
fitting links =
    if nat_le (length links) 4096 && are_distinct (map (λ forms. forms.link.0) links) then Some links else None

-- the links of a document's `link`, none where it is absent
abbrev pub links_of : Option Data → Option (List LinkSettings)
links_of None = Some []
links_of (Some value) = option_and_then fitting (option_and_then links_in (as_array value))

-- the row that sets the forms of a link
abbrev pub form_row : LinkSettings → Row
form_row forms = Plain (SetForm forms.link forms.response forms.receipt)

-- the row that sets its window, where it has one
abbrev pub window_rows : LinkId → Option ℕ → List Row
window_rows link None = []
window_rows link (Some window) = Plain (SetWindow link window) ∷ []

-- the rows of a link: first its forms, then its window
abbrev pub link_rows : LinkSettings → List Row
link_rows l = form_row l ∷ window_rows l.link l.window

-- the moment of a document's `clock` in ms since 1970 in UTC, where it is one, or none where it is absent
abbrev pub clock_of : Option Data → Option (Option ℕ)
clock_of None = Some None
clock_of (Some value) = option_map Some (number_to 4102444800000 value)

-- the row that sets the clock, where there is one
abbrev pub clock_rows : Option ℕ → List Row
clock_rows None = []
clock_rows (Some moment) = Plain (Advance moment) ∷ []

-- the rows of links, in order, and then of a clock
abbrev pub rows_with : List LinkSettings → Option ℕ → List Row
rows_with links clock = flat_map link_rows links ++ clock_rows clock

-- the rows of links and of a clock, where both can be read
abbrev pub rows_from : Option (List LinkSettings) → Option (Option ℕ) → Option (List Row)
rows_from (Some links) (Some clock) = Some (rows_with links clock)
rows_from _ _ = None

-- the rows of a document by `link` and `clock`, with no other key
abbrev pub rows_in : Members → Option (List Row)
rows_in members =
    if all_known (names_key Document) members
    then rows_from (links_of (get_member (codes "link") members)) (clock_of (get_member (codes "clock") members))
    else None

-- the rows that octets say as settings: at most 1,048,576 octets of UTF-8, a TOML document of known keys and values
abbrev pub settings_of : List ℕ → Option (List Row)
settings_of octets =
    if nat_le (length octets) 1048576 && is_utf8 octets then option_and_then rows_in (parse_document octets) else None

-- what a fault tells of settings that say these rows, where they say any: bad settings say none, and the only other
-- fault is lack of memory
abbrev pub TellsOfSettings : Option (List Row) → LoadFault → Type 0
TellsOfSettings rows BadSettings = rows ≡ None
TellsOfSettings rows Memory = ⊤
TellsOfSettings rows (BadRow row) = ⊥
TellsOfSettings rows Read = ⊥
