use Rattle.std.proofs.Common.{◌≡◌, List, [], ◌∷◌, ap, map, refl, ◌∙◌}
use Rattle.std.proofs.lemmas.Bool.{false≢true}
use Rattle.smq_book.specs.declared.index.end_at.EndAt.{EndAt}
use Rattle.smq_book.proofs.lemmas.index.EndWalks.{filled-between}
use Rattle.smq_book.proofs.index.clock.ending_places.Goals as goal

pub returns-clause-value : goal.returns-clause-value
returns-clause-value c =
    c.in_ok-places.ensures.value
    ∙ ap (map (λ (k : EndAt). k.place)) (c.as_slice.ensures.value ∙ c.in_ok-keys.ensures.value
    ∙ filled-between c.args.from c.args.clock _ c.args.ends.now.places c.keys_in.ensures.content c.keys_in.ensures.ordered)

-- ---- where no window ends, no place is told

no-key : (ks : List EndAt) → map (λ (k : EndAt). k.place) ks ≡ [] → ks ≡ []
no-key [] none = refl
no-key (k ∷ ks) none = absurd cc

pub returns-in_err-keys-clause-none : goal.returns-in_err-keys-clause-none
returns-in_err-keys-clause-none c = λ none.
    let met = filled-between c.args.from c.args.clock _ c.args.ends.now.places c.keys_in.ensures.content c.keys_in.ensures.ordered in
    absurd (false≢true (c.in_err-keys.ensures.none (met ∙ no-key _ none)))

pub returns-in_err-places-clause-none : goal.returns-in_err-places-clause-none
returns-in_err-places-clause-none c = λ none.
    let met = filled-between c.args.from c.args.clock _ c.args.ends.now.places c.keys_in.ensures.content c.keys_in.ensures.ordered in
    absurd (false≢true (c.in_err-places.ensures.none (c.as_slice.ensures.value ∙ c.in_ok-keys.ensures.value ∙ met ∙ no-key _ none)))
