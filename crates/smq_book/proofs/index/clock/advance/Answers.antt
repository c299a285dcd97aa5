use Rattle.std.proofs.Common.{ap, refl, sym, ◌∙◌}
use Rattle.std.specs.Prelude.{is_ok}
use Rattle.std.proofs.lemmas.Bool.{false≢true}
use Rattle.smq_present.specs.present.Settings.{with_clock}
use Rattle.smq_present.specs.join.Facts.{facts_of}
use Rattle.smq_book.specs.index.Ends.{places_ending}
use Rattle.smq_book.specs.index.Held.{Holding, ends_in, held_now, traffic_held}
use Rattle.smq_book.proofs.lemmas.index.Anew.{none-ending}
use Rattle.smq_book.proofs.lemmas.index.Restated.{restates}
use Rattle.smq_book.proofs.lemmas.index.Recomputed.{clock-held}
use Rattle.smq_book.proofs.index.clock.advance.Goals as goal

pub returns-clause-held : goal.returns-clause-held
returns-clause-held c = λ s routes windows from forward is.
    let g = held_now c.args.index.now in
    let t = traffic_held g in
    clock-held s g (held_now c.refresh_at.new.index) is c.args.clock c.as_slice.result.now forward
    (c.as_slice.ensures.value ∙ c.in_ok-places.ensures.value ∙ (λ i. places_ending (sym from i) c.args.clock g.ends))
    (c.in_ok-refresh_at.ensures.held (with_clock s c.args.clock) t (facts_of s t) is.traffic routes windows refl
    (restates s t s.versions s.windows c.args.clock)
    ((λ i. record g { ends = ends_in (c.ending_places.ensures.walked.content i) }) ∙ is.held))

-- where no message's window ends, no place is told
pub returns-in_err-places-clause-none : goal.returns-in_err-places-clause-none
returns-in_err-places-clause-none c = λ s windows from is none.
    let g = held_now c.args.index.now in
    let empty = (λ i. places_ending (sym from i) c.args.clock g.ends)
    ∙ ap (λ (h : Holding). places_ending s.clock c.args.clock h.ends) is.held
    ∙ none-ending s (traffic_held g) c.args.clock none in
    absurd (false≢true (c.in_err-places.ensures.none empty))

pub returns-in_err-refresh_at-clause-none : goal.returns-in_err-refresh_at-clause-none
returns-in_err-refresh_at-clause-none c = λ s windows from is none.
    let g = held_now c.args.index.now in
    let empty = (λ i. places_ending (sym from i) c.args.clock g.ends)
    ∙ ap (λ (h : Holding). places_ending s.clock c.args.clock h.ends) is.held
    ∙ none-ending s (traffic_held g) c.args.clock none in
    absurd (false≢true (ap is_ok (c.in_err-refresh_at.ensures.none (c.as_slice.ensures.value ∙ c.in_ok-places.ensures.value ∙ empty))))
