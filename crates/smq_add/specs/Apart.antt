-- Which reports can be added.
use Rattle.std.specs.Prelude.{◌≡◌, ◌≢◌, ◌⊎◌, ℕ, ◌+◌, Bool, true, false, List, [], ◌∷◌, ◌++◌, map, slice_get, Option, Some, None, length}
use Rattle.std.specs.List.{AllByRecursion}
use Rattle.std.specs.BTreeMap.{is_at}
use Rattle.std.specs.Map.{lookup}
use Rattle.smq_report.specs.declared.pick.Section.{Section}
use Rattle.smq_add.specs.declared.apart.Apart.{Apart}
use Rattle.smq_add.specs.declared.apart.Apart.TheVariants as apart
use Rattle.smq_add.specs.declared.apart.Checks.{Checks}
use Rattle.smq_add.specs.declared.owners.Owners.{Owners}
use Rattle.smq_add.specs.declared.owners.Shared.{Shared}
use Rattle.smq_add.specs.declared.checks.Owner.{Owner}
use Rattle.smq_add.specs.declared.row.Row.{Row}
use Rattle.smq_add.specs.declared.sections.Sections.{Sections}
use Rattle.smq_add.specs.contracts.checks.OwnerOrd.TheImpl as owner_ord
use Rattle.smq_add.specs.Checks.{is_whole, owner_of, section_of}

abbrev pub IsAmong : {A : Type 0} → A → List A → Type 0
IsAmong x [] = ⊥
IsAmong x (y ∷ ys) = (y ≡ x) ⊎ IsAmong x ys

-- the sections in which the rows of reports stand
abbrev pub sections_of : List (List Row) → List Section
sections_of [] = []
sections_of (rows ∷ more) = map (λ row. section_of row.key) rows ++ sections_of more

-- they are all one
abbrev pub AreOne : List Section → Type 0
AreOne sections = (one : Section) × AllByRecursion (λ section. section ≡ one) sections

-- the links and the sessions of rows, each with the number of their report
abbrev pub numbered : ℕ → Option Owner → List (Owner × ℕ)
numbered number None = []
numbered number (Some owner) = (owner, number) ∷ []

abbrev pub owners_in : ℕ → List Row → List (Owner × ℕ)
owners_in number [] = []
owners_in number (row ∷ rows) = numbered number (owner_of row.key) ++ owners_in number rows

-- those of reports, whose numbers go on from one
abbrev pub owners_from : ℕ → List (List Row) → List (Owner × ℕ)
owners_from number [] = []
owners_from number (rows ∷ more) = owners_in number rows ++ owners_from (number + 1) more

-- Reports can be added where each is whole, or all are of one section, and, unless they are of periods, no link and no session is in two.
pub record MayAdd (of_periods : Bool) (reports : List (List Row)) : Type 0 where
  pub parts : AllByRecursion (λ rows. is_whole rows ≡ true) reports ⊎ AreOne (sections_of reports)
  pub owners :
      of_periods ≡ false → (owner : Owner) (one other : ℕ) → IsAmong (owner, one) (owners_from 0 reports)
      → IsAmong (owner, other) (owners_from 0 reports) → one ≡ other

-- a link or a session is in two reports
abbrev pub IsShared : List (Owner × ℕ) → Shared → Type 0
IsShared seen s = (s.first ≢ s.second) × IsAmong (s.owner, s.first) seen × IsAmong (s.owner, s.second) seen

-- a report that isn't whole
abbrev pub IsPart : List (List Row) → ℕ → Type 0
IsPart reports number = (rows : List Row) × (slice_get reports number ≡ Some rows) × (is_whole rows ≡ false)

-- why they can't: a report isn't whole, and they are of several sections; or they are of links, and two have a link or a session
abbrev pub IsApart : Bool → List (List Row) → Apart → Type 0
IsApart of_periods reports (apart.Part number) = IsPart reports number × (AreOne (sections_of reports) → ⊥)
IsApart of_periods reports (apart.Shared shared) = (of_periods ≡ false) × IsShared (owners_from 0 reports) shared

-- what is known of the sections that were seen
pub record KnowsSections (seen : List Section) (s : Sections) : Type 0 where
  pub none : s.first ≡ None → seen ≡ []
  pub first : (one : Section) → s.first ≡ Some one → IsAmong one seen
  pub same : s.has_more ≡ false → (one : Section) → s.first ≡ Some one → AllByRecursion (λ section. section ≡ one) seen
  pub more : s.has_more ≡ true → AreOne seen → ⊥

abbrev pub report_of : Owners → Owner → Option ℕ
report_of o owner = lookup (is_at (owner_ord.ghosts.cmp owner)) o.reports.entries

-- what is known of the links and sessions that were seen, each with the number of a report: for each a report that has it, and while none
-- is in two the only one
pub record KnowsOwners (seen : List (Owner × ℕ)) (o : Owners) : Type 0 where
  pub known : (owner : Owner) (number : ℕ) → report_of o owner ≡ Some number → IsAmong (owner, number) seen
  pub only : o.shared ≡ None → (owner : Owner) (number : ℕ) → IsAmong (owner, number) seen → report_of o owner ≡ Some number
  pub shared : (s : Shared) → o.shared ≡ Some s → IsShared seen s

-- what is known of reports that were seen, where the rows of them and of the next one so far have these sections and owners
pub record Knows (of_periods : Bool) (reports : ℕ) (whole : List (List Row)) (sections : List Section) (owners : List (Owner × ℕ)) (c : Checks) : Type 0 where
  pub kind : c.of_periods ≡ of_periods
  pub number : c.reports ≡ reports
  pub all : c.part ≡ None → AllByRecursion (λ rows. is_whole rows ≡ true) whole
  pub part : (number : ℕ) → c.part ≡ Some number → IsPart whole number
  pub sections_are : KnowsSections sections c.sections
  pub owners_are : of_periods ≡ false → KnowsOwners owners c.owners
  pub none : of_periods ≡ true → c.owners.shared ≡ None

-- so many reports were seen
abbrev pub Saw : Bool → List (List Row) → Checks → Type 0
Saw of_periods reports c = Knows of_periods (length reports) reports (sections_of reports) (owners_from 0 reports) c
