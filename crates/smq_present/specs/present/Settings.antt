-- What is set: the forms in which the centres of links write message ids, the windows of links, the dated routes of prefixes,
-- and the clock.
use Rattle.std.specs.Prelude.{ℕ, Option, unwrap_or, refl}
use Rattle.std.specs.Coded.{Coded, code_by, coded×, coded_ℕ}
use Rattle.std.specs.FinMap as map
use Rattle.std.specs.Ordering.{nat_cmp}
use Rattle.smq_kit.specs.declared.message_id.Form.TheVariants.{Verbatim}
use Rattle.smq_kit.specs.declared.names.LinkId.{LinkId}
use Rattle.smq_route.specs.Routes.{versions_code}
use Rattle.smq_route.specs.Versions.{Versions}
use Rattle.smq_present.specs.contracts.present.forms.Forms as forms_block
use Rattle.smq_present.specs.declared.present.forms.Forms.{Forms}

-- the forms and the windows that were set, by the numbers of their links, the versions of routes, and the clock: the moment up
-- to which what is present is known
pub record SettingsValue : Type 0 where
  pub forms : map.FinMap nat_cmp Forms
  pub windows : map.FinMap nat_cmp ℕ
  pub versions : Versions
  pub clock : ℕ

-- what is set is stored as these forms, these windows, these versions and this number
abbrev pub settings_code : Coded SettingsValue
settings_code =
    code_by (map.FinMap nat_cmp Forms × (map.FinMap nat_cmp ℕ × (Versions × ℕ)))
    (coded× (map.code coded_ℕ (forms_block.the_row).coded) (coded× (map.code coded_ℕ coded_ℕ) (coded× versions_code coded_ℕ)))
    (λ s. (s.forms, (s.windows, (s.versions, s.clock))))
    (λ m. record { forms = m.0; windows = m.1.0; versions = m.1.1.0; clock = m.1.1.1 }) (λ _. refl)

-- nothing is set, and the clock is at the opening moment
abbrev pub opening_settings : SettingsValue
opening_settings = record { forms = map.empty; windows = map.empty; versions = map.empty; clock = 0 }

-- the forms of a link whose forms were never set: both verbatim
abbrev pub opening_forms : Forms
opening_forms = record { response = Verbatim; receipt = Verbatim }

-- the forms that were set of the link of a number
abbrev pub forms_if_set : SettingsValue → ℕ → Option Forms
forms_if_set s number = map.get s.forms number

-- how long a message of a link whose window was never set waits for its receipt before it lapses, in ms: 48 hours
abbrev pub opening_window : ℕ
opening_window = 172_800_000

-- how long a message of a link waits by windows that were set, in ms
abbrev pub window_in : map.FinMap nat_cmp ℕ → LinkId → ℕ
window_in windows link = unwrap_or (map.get windows link.0) opening_window

-- the window that was set of the link of a number
abbrev pub window_if_set : SettingsValue → ℕ → Option ℕ
window_if_set s number = map.get s.windows number

-- settings with these windows
abbrev pub with_windows : SettingsValue → map.FinMap nat_cmp ℕ → SettingsValue
with_windows s windows = record s { windows = windows }

-- settings with these versions of routes
abbrev pub with_versions : SettingsValue → Versions → SettingsValue
with_versions s versions = record s { versions = versions }

-- settings with this clock
abbrev pub with_clock : SettingsValue → ℕ → SettingsValue
with_clock s clock = record s { clock = clock }

-- the forms of a link's message ids
abbrev pub forms_of : SettingsValue → LinkId → Forms
forms_of s link = unwrap_or (forms_if_set s link.0) opening_forms
