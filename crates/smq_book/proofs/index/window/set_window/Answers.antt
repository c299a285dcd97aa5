use Rattle.std.proofs.Common.{◌≡◌, map, ap, refl, sym, ◌∙◌}
use Rattle.smq_book.specs.declared.index.due_at.DueAt.{DueAt}
use Rattle.smq_present.specs.present.Settings.{window_in, with_windows}
use Rattle.smq_present.specs.join.Facts.{facts_of}
use Rattle.smq_book.specs.index.Due.{keys_on}
use Rattle.smq_book.specs.index.Ends.{ends_by, ends_put, ends_taken}
use Rattle.smq_book.specs.index.Held.{dues_in, held_now, traffic_held}
use Rattle.smq_book.proofs.lemmas.index.Ends.{ends-moved}
use Rattle.smq_book.proofs.lemmas.index.Restated.{restates}
use Rattle.smq_book.proofs.lemmas.index.Recomputed.{window-held}
use Rattle.smq_book.proofs.index.window.set_window.Goals as goal

pub returns-clause-held : goal.returns-clause-held
returns-clause-held c = λ s routes clock is waited others same.
    let g = held_now c.args.index.now in
    let t = traffic_held g in
    let link = c.args.link in
    let windows = c.args.windows.now in
    let of-link : c.in_ok-keys.keys.items ≡ keys_on link g.due = c.in_ok-keys.ensures.value in
    let one : c.as_slice.result.now ≡ keys_on link g.due = c.as_slice.ensures.value ∙ of-link in
    let two : c.as_slice-2.result.now ≡ keys_on link g.due = c.as_slice-2.ensures.value ∙ of-link in
    let ends = c.in_ok-put_ends.ensures.value
    ∙ (λ i. ends_put (c.of.ensures i) (c.in_ok-take_ends.ensures.value i) (two i))
    ∙ (λ i. ends_put (window_in windows link) (ends_taken (sym waited i) g.ends (one i)) (keys_on link g.due))
    ∙ (λ i. ends_put (window_in windows link) (ends_taken (window_in s.windows link) (is.held i).ends (keys_on link (is.held i).due)) (keys_on link (is.held i).due))
    ∙ ends-moved t.messages (facts_of s t) link s.windows windows others in
    let places = c.as_slice-4.ensures.value ∙ c.in_ok-places.ensures ∙ ap (map (λ (k : DueAt). k.place)) (c.as_slice-3.ensures.value ∙ of-link) in
    window-held s g (held_now c.refresh_at.new.index) is windows link c.as_slice-4.result.now same places
    (c.in_ok-refresh_at.ensures.held (with_windows s windows) t (facts_of s t) is.traffic routes refl clock
    (restates s t s.versions windows s.clock)
    ((λ i. record g { due = dues_in (c.due_on.ensures.walked.content i); ends = ends i })
    ∙ (λ i. record (is.held i) { ends = ends_by windows t.messages (facts_of s t) })))
