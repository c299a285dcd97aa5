-- The lines of sections, in either format.
use Rattle.std.proofs.Common.{◌≡◌, ◌∙◌, ℕ, List, [], ◌++◌, refl, ap, append_assoc}
use Rattle.std.specs.List.{flat_map}
use Rattle.smq_kit.specs.declared.place.Place.{Place}
use Rattle.smq_tally.specs.declared.list.List as lists
use Rattle.smq_tally.specs.declared.view.View.{View}
use Rattle.smq_tally.specs.Tables.{ShownRow, TablesValue, listed_in, rows_of}
use Rattle.smq_report.specs.declared.pick.Format.{Format}
use Rattle.smq_report.specs.declared.pick.Format.TheVariants as format
use Rattle.smq_report.specs.declared.pick.Pick.{Pick}
use Rattle.smq_report.specs.declared.pick.Section.{Section}
use Rattle.smq_report.specs.declared.pick.Section.TheVariants as section
use Rattle.smq_report.specs.Report.{report_text}
use Rattle.smq_report.specs.Sections.{sections_of}
use Rattle.smq_report.specs.within.Layouts.{head_line, place_line, row_line, section_text}

-- a report is its sections, one after the other
sections-report : (format : Format) (pick : Pick) (tables : TablesValue)
    → flat_map (section_text format tables) (sections_of pick) ≡ report_text pick format tables
sections-report format.Csv pick tables = refl
sections-report format.Table pick tables = refl

-- on an empty page
pub whole-report : (format : Format) (pick : Pick) (tables : TablesValue) (page : List ℕ) (sections : List Section) → page ≡ []
    → sections ≡ sections_of pick → page ++ flat_map (section_text format tables) sections ≡ report_text pick format tables
whole-report format pick tables page sections empty are = rw (empty, are) (sections-report format pick tables)

view-section : (format : Format) (tables : TablesValue) (view : View)
    → head_line format (section.View view) ++ flat_map (row_line format view) (rows_of tables view) ≡ section_text format tables (section.View view)
view-section format.Csv tables view = refl
view-section format.Table tables view = refl

list-section : (format : Format) (tables : TablesValue) (list : lists.List)
    → head_line format (section.List list) ++ flat_map (place_line format list) (listed_in tables list)
    ≡ section_text format tables (section.List list)
list-section format.Csv tables list = refl
list-section format.Table tables list = refl

-- the rows of a view stand behind its section's own line
pub under-view : (format : Format) (tables : TablesValue) (view : View) (part : Section) (rows : List ShownRow) (page begun : List ℕ)
    → part ≡ section.View view → begun ≡ page ++ head_line format part → rows ≡ rows_of tables view
    → begun ++ flat_map (row_line format view) rows ≡ page ++ section_text format tables part
under-view format tables view part rows page begun is begins are =
    rw (begins, is, are) (append_assoc page (head_line format (section.View view)) (flat_map (row_line format view) (rows_of tables view))
    ∙ ap (λ lines. page ++ lines) (view-section format tables view))

-- the places of a list stand behind its section's own line
pub under-list : (format : Format) (tables : TablesValue) (list : lists.List) (part : Section) (places : List Place) (page begun : List ℕ)
    → part ≡ section.List list → begun ≡ page ++ head_line format part → places ≡ listed_in tables list
    → begun ++ flat_map (place_line format list) places ≡ page ++ section_text format tables part
under-list format tables list part places page begun is begins are =
    rw (begins, is, are) (append_assoc page (head_line format (section.List list)) (flat_map (place_line format list) (listed_in tables list))
    ∙ ap (λ lines. page ++ lines) (list-section format tables list))
