-- The sessions, the forms and the windows that maps of std hold.
use Rattle.std.specs.Prelude.{ℕ}
use Rattle.std.specs.BTreeMap.{BTreeMap}
use Rattle.std.specs.FinMap as map
use Rattle.std.specs.Ordering.{nat_cmp}
use Rattle.smq_present.specs.declared.present.forms.Forms.{Forms}
use Rattle.smq_present.specs.declared.present.session.Session.{Session}

-- a map of sessions as a finite map
abbrev pub sessions_in : BTreeMap ℕ Session → map.FinMap nat_cmp Session
sessions_in kept = map.from_entries kept.entries

-- a map of forms as a finite map
abbrev pub forms_in : BTreeMap ℕ Forms → map.FinMap nat_cmp Forms
forms_in kept = map.from_entries kept.entries

-- a map of windows as a finite map
abbrev pub windows_in : BTreeMap ℕ ℕ → map.FinMap nat_cmp ℕ
windows_in kept = map.from_entries kept.entries
