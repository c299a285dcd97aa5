use Rattle.std.proofs.Common.{ap, ◌∙◌}
use Rattle.smq_book.specs.index.Held.{Holding, held_now, traffic_held}
use Rattle.smq_book.specs.index.LinkOut.{found_in_turn}
use Rattle.smq_book.proofs.lemmas.index.FormCosts.{go-read}
use Rattle.smq_book.proofs.lemmas.index.LinkOut.{keyed-found}
use Rattle.smq_book.proofs.index.forms.take_link.Goals as goal

pub returns-clause-taken : goal.returns-clause-taken
returns-clause-taken c =
    let t = traffic_held (held_now c.args.index.now) in
    c.in_ok-taken.ensures.taken
    ∙ ap (λ (x : Holding). found_in_turn (traffic_held x) c.as_slice.result.now) c.places_on.ensures.read.held
    ∙ ap (found_in_turn t) (c.as_slice.ensures.value ∙ c.in_ok-places.ensures.value c.args.settings.now c.requires)
    ∙ keyed-found c.args.link t c.requires.traffic

pub returns-clause-went : goal.returns-clause-went
returns-clause-went c =
    let read = c.places_on.ensures.read in
    go-read c.args.index.now.groups c.places_on.new.index.groups (ap (λ (x : Holding). x.members) read.held) read.vacant
    c.take_all.new.index.groups c.in_ok-taken.ensures.went
