use Rattle.std.proofs.Common.{◌≡◌, ◌∷◌, [], rules}
use Rattle.smq_report.specs.within.Layouts.{place_line, row_line}
use Rattle.smq_report.proofs.BeginningLemmas.{begins-same, whatever_error}
use Rattle.smq_report.proofs.LayoutLemmas.{under-list, under-view}
use Rattle.smq_report.proofs.PageLemmas.{gathers-all, gathers-cut, gathers-next, gathers-stop}
use Rattle.smq_tally.specs.Tables.{listed_in, rows_of}
use Rattle.smq_report.proofs.report.put_section.Goals as goal

pub loop-value-preserved : goal.loop-value-preserved
loop-value-preserved g c =
    let first : c.loop-value.value-iterator ≡ (c.in-Some.value.now, c.in-Some.outcome, c.in-Some.count) ∷ c.next.new.self = search rules in
    gathers-next (row_line c.args.format c.in-View.view) _ _ _ _ _ _ _ _ _ _ first
    (rw c.in_ok-push_row-in-View.ensures at c.in_ok-send_full-in-View.ensures.ok) c.loop-value.invariant

pub loop-place-preserved : goal.loop-place-preserved
loop-place-preserved g c =
    let first : c.loop-place.place-iterator ≡ c.in-Some-place.place ∷ c.next-in-loop-place.new.self = search rules in
    gathers-next (place_line c.args.format c.in-List.list) _ _ _ _ _ _ _ _ _ _ first
    (rw c.in_ok-push_place-in-List.ensures at c.in_ok-send_full-in-List.ensures.ok) c.loop-place.invariant

pub returns-in-None-clause-ok : goal.returns-in-None-clause-ok
returns-in-None-clause-ok g c =
    let none : c.loop-value.value-iterator ≡ [] = search rules in
    let all : c.into_iter-value-iterator.result ≡ rows_of c.args.tables.now.shown c.in-View.view = search rules in
    let lines = under-view c.args.format _ _ _ _ _ _ c.in-View.is c.in_ok-push_head.ensures all in
    rw lines at (gathers-all (row_line c.args.format c.in-View.view) _ _ _ _ _ _ none c.loop-value.invariant)

pub returns-in-None-place-clause-ok : goal.returns-in-None-place-clause-ok
returns-in-None-place-clause-ok g c =
    let none : c.loop-place.place-iterator ≡ [] = search rules in
    let all : c.into_iter-place-iterator.result ≡ listed_in c.args.tables.now.shown c.in-List.list = search rules in
    let lines = under-list c.args.format _ _ _ _ _ _ c.in-List.is c.in_ok-push_head.ensures all in
    rw lines at (gathers-all (place_line c.args.format c.in-List.list) _ _ _ _ _ _ none c.loop-place.invariant)

pub returns-in_err-push_row-in-View-clause-begun : goal.returns-in_err-push_row-in-View-clause-begun
returns-in_err-push_row-in-View-clause-begun g c =
    let all : c.into_iter-value-iterator.result ≡ rows_of c.args.tables.now.shown c.in-View.view = search rules in
    let lines = under-view c.args.format _ _ _ _ _ _ c.in-View.is c.in_ok-push_head.ensures all in
    whatever_error c.from_residual-in_err-push_row-in-View.result _ (begins-same _ _ _ _
    (gathers-stop (row_line c.args.format c.in-View.view) _ _ _ _ _ _ c.loop-value.invariant) lines)

pub returns-in_err-send_full-in-View-clause-begun : goal.returns-in_err-send_full-in-View-clause-begun
returns-in_err-send_full-in-View-clause-begun g c =
    let first : c.loop-value.value-iterator ≡ (c.in-Some.value.now, c.in-Some.outcome, c.in-Some.count) ∷ c.next.new.self = search rules in
    let all : c.into_iter-value-iterator.result ≡ rows_of c.args.tables.now.shown c.in-View.view = search rules in
    let lines = under-view c.args.format _ _ _ _ _ _ c.in-View.is c.in_ok-push_head.ensures all in
    whatever_error c.from_residual-in_err-send_full-in-View.result _ (begins-same _ _ _ _
    (gathers-cut (row_line c.args.format c.in-View.view) _ _ _ _ _ _ _ _ _ _ first c.in_ok-push_row-in-View.ensures
    c.in_err-send_full-in-View.ensures.begun c.loop-value.invariant) lines)

pub returns-in_err-push_place-in-List-clause-begun : goal.returns-in_err-push_place-in-List-clause-begun
returns-in_err-push_place-in-List-clause-begun g c =
    let all : c.into_iter-place-iterator.result ≡ listed_in c.args.tables.now.shown c.in-List.list = search rules in
    let lines = under-list c.args.format _ _ _ _ _ _ c.in-List.is c.in_ok-push_head.ensures all in
    whatever_error c.from_residual-in_err-push_place-in-List.result _ (begins-same _ _ _ _
    (gathers-stop (place_line c.args.format c.in-List.list) _ _ _ _ _ _ c.loop-place.invariant) lines)

pub returns-in_err-send_full-in-List-clause-begun : goal.returns-in_err-send_full-in-List-clause-begun
returns-in_err-send_full-in-List-clause-begun g c =
    let first : c.loop-place.place-iterator ≡ c.in-Some-place.place ∷ c.next-in-loop-place.new.self = search rules in
    let all : c.into_iter-place-iterator.result ≡ listed_in c.args.tables.now.shown c.in-List.list = search rules in
    let lines = under-list c.args.format _ _ _ _ _ _ c.in-List.is c.in_ok-push_head.ensures all in
    whatever_error c.from_residual-in_err-send_full-in-List.result _ (begins-same _ _ _ _
    (gathers-cut (place_line c.args.format c.in-List.list) _ _ _ _ _ _ _ _ _ _ first c.in_ok-push_place-in-List.ensures
    c.in_err-send_full-in-List.ensures.begun c.loop-place.invariant) lines)
