use Rattle.std.proofs.Common.{◌≡◌, ◌++◌, ◌∙◌, ◌∷◌, [], List, length, map, refl, subst, sym, take, arith}
use Rattle.std.proofs.lemmas.List.{take_all}
use Rattle.std.proofs.lemmas.Option.{slice_get_read}
use Rattle.smq_add.specs.declared.row.Row.{Row}
use Rattle.smq_add.specs.Apart.{Knows, owners_from, owners_in, sections_of}
use Rattle.smq_add.specs.Checks.{section_of}
use Rattle.smq_add.proofs.ApartLemmas.{knows-none, knows-row, saw-more}
use Rattle.smq_add.proofs.apart.Checks.see.Goals as goal

pub loop-row-init : goal.loop-row-init
loop-row-init c of_periods reports k =
    knows-none of_periods (length reports) (reports ++ c.args.rows.now ∷ []) (sections_of reports) (owners_from 0 reports) c.see_whole.new.self
    (c.see_whole.ensures of_periods reports c.args.rows.now (sections_of reports) (owners_from 0 reports) k (sym c.is_whole.ensures))

pub loop-row-preserved : goal.loop-row-preserved
loop-row-preserved c of_periods reports k =
    knows-row of_periods (length reports) (reports ++ c.args.rows.now ∷ []) (sections_of reports) (owners_from 0 reports) c.args.rows.now
    c.loop-row.row-index c.row-item.result c.see_key.new.self
    (slice_get_read c.args.rows.now (length c.args.rows.now) c.loop-row.row-index c.row-item.result refl c.loop-row-test.true
    c.row-item.is)
    (c.in_ok-see_key.ensures of_periods (length reports) (reports ++ c.args.rows.now ∷ [])
    (sections_of reports ++ map (λ (row : Row). section_of row.key) (take c.loop-row.row-index c.args.rows.now))
    (owners_from 0 reports ++ owners_in (length reports) (take c.loop-row.row-index c.args.rows.now))
    (c.loop-row.invariant of_periods reports k))

pub returns : goal.returns
returns c of_periods reports k few =
    let known = c.loop-row.invariant of_periods reports k in
    let all : take c.loop-row.row-index c.args.rows.now ≡ c.args.rows.now =
    take_all c.loop-row.row-index c.args.rows.now (omega (arith, c.loop-row-test.false)) in
    saw-more of_periods reports c.args.rows.now c.loop-row.self c.saturating_add-self.result
    (omega (arith, known.number, c.saturating_add-self.ensures, few))
    (subst (λ (l : List Row). Knows of_periods (length reports) (reports ++ c.args.rows.now ∷ [])
    (sections_of reports ++ map (λ (row : Row). section_of row.key) l) (owners_from 0 reports ++ owners_in (length reports) l) c.loop-row.self)
    all known)
