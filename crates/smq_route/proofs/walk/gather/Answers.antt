use Rattle.std.proofs.Common.{◌∷◌, ◌++◌, [], filter, map, ap, ◌∙◌, arith}
use Rattle.std.proofs.lemmas.List.{take_all}
use Rattle.std.proofs.lemmas.Simd.{map-map}
use Rattle.smq_kit.specs.declared.place.Place.{Place}
use Rattle.smq_shelf.specs.Places.{content_of}
use Rattle.smq_route.specs.declared.numbers.NumberAt.{NumberAt}
use Rattle.smq_route.specs.within.NumberWalks.{is_under}
use Rattle.smq_route.proofs.NumberWalks.{under-beside, under-from}
use Rattle.smq_route.proofs.walk.gather.Goals as goal

abbrev place_of : NumberAt → Place
place_of k = k.place

pub keys_in-requires-clause-from : goal.keys_in-requires-clause-from
keys_in-requires-clause-from c = under-from c.args.prefix.now c.least_key.result c.least_key.ensures

pub keys_in-requires-clause-beside : goal.keys_in-requires-clause-beside
keys_in-requires-clause-beside c = under-beside c.args.prefix.now c.least_key.result c.least_key.ensures

pub returns-clause-value : goal.returns-clause-value
returns-clause-value c =
    let es = filter (is_under c.args.prefix.now) c.args.kept.now.places in
    c.loop-key.invariant.pushed
    ∙ ap (map place_of) (take_all c.loop-key.key-index c.as_slice-key-items.result.now (omega arith) ∙ c.as_slice-key-items.ensures.value ∙ c.in_ok-keys.ensures.value)
    ∙ map-map place_of (λ e. e.0) (content_of es)
