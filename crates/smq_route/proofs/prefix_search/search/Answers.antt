-- What the greatest version at or below the number's first digits tells.
use Rattle.std.proofs.Common.{◌<◌, ◌≤◌, ℕ, List, length, subst, sym, arith}
use Rattle.std.proofs.lemmas.Map.Keys.{ge_from_not_lt}
use Rattle.smq_route.proofs.Searches.{none-longest, shared-longest, fewer-other, fewer-later, fewer-ended, later, tells-longest, tells-ended}
use Rattle.smq_route.proofs.prefix_search.search.Goals as goal
use Rattle.smq_route.proofs.prefix_search.search.Goals.{then-shared-as_slice-via-then-shared-as_slice, then-shared-as_slice-via-else-shared-as_slice+then-lt}

pub returns-in_default : goal.returns-in_default
returns-in_default c = (
  omega arith,
  none-longest c.args.versions.now.content c.args.number.now c.first_digits.result c.args.at c.args.len c.first_digits.ensures c.in_default.ensures c.requires.longest,
)

pub returns-then-shared-as_slice : goal.returns-then-shared-as_slice
returns-then-shared-as_slice c =
    let es = c.args.versions.now.content in
    let found = c.in-Some.ensures in
    let shared = c.shared_digits-shared.ensures in
    let k = c.in-Some.found.now in
    let fewer : c.shared_digits-shared.result < c.args.len =
    elim c.then-shared-as_slice.branch [
      | then-shared-as_slice-via-then-shared-as_slice w ↦
          fewer-other es c.args.number.now c.first_digits.result c.args.at c.args.len c.first_digits.ensures k found.below found.greatest
          c.shared_digits-shared.result shared.same c.requires.in_range
          (subst (λ (d : List ℕ). c.shared_digits-shared.result < length d) c.as_slice.ensures.value w.if-shared-as_slice.true)
      | then-shared-as_slice-via-else-shared-as_slice+then-lt w ↦
          fewer-later es c.args.number.now c.first_digits.result c.args.at c.args.len c.first_digits.ensures k found.below found.greatest
          c.shared_digits-shared.result shared.same c.requires.in_range
          (later c.args.at k.from (sym w.if-lt.ensures))
    ] in (
      fewer,
      shared-longest es c.args.number.now c.first_digits.result c.args.at c.args.len c.first_digits.ensures k found.below found.greatest
          c.shared_digits-shared.result shared.most c.requires.longest,
    )

pub returns-then-lasts_past : goal.returns-then-lasts_past
returns-then-lasts_past c =
    let es = c.args.versions.now.content in
    let found = c.in-Some.ensures in
    let shared = c.shared_digits-shared.ensures in
    let k = c.in-Some.found.now in
    let whole : length k.prefix ≤ c.shared_digits-shared.result = subst (λ (d : List ℕ). length d ≤ c.shared_digits-shared.result) c.as_slice.ensures.value (let n = c.if-shared-as_slice.false in omega (arith, n)) in
    let by : k.from ≤ c.args.at = ge_from_not_lt c.args.at k.from (sym c.if-lt.ensures) in
    tells-longest es c.args.number.now c.first_digits.result c.args.at c.args.len c.first_digits.ensures k found.below found.greatest
    c.in-Some.version.now c.shared_digits-shared.result c.requires.apart found.there shared.same whole by
    (shared-longest es c.args.number.now c.first_digits.result c.args.at c.args.len c.first_digits.ensures k found.below found.greatest
    c.shared_digits-shared.result shared.most c.requires.longest)
    shared.second (sym c.if-lasts_past.ensures)

pub returns-else-lasts_past : goal.returns-else-lasts_past
returns-else-lasts_past c =
    let es = c.args.versions.now.content in
    let found = c.in-Some.ensures in
    let shared = c.shared_digits-shared.ensures in
    let k = c.in-Some.found.now in
    let whole : length k.prefix ≤ c.shared_digits-shared.result = subst (λ (d : List ℕ). length d ≤ c.shared_digits-shared.result) c.as_slice.ensures.value (let n = c.if-shared-as_slice.false in omega (arith, n)) in
    let by : k.from ≤ c.args.at = ge_from_not_lt c.args.at k.from (sym c.if-lt.ensures) in (
      fewer-ended es c.args.number.now c.first_digits.result c.args.at c.args.len c.first_digits.ensures k found.below found.greatest
          c.shared_digits-shared.result shared.same c.requires.in_range shared.first c.requires.one,
      tells-ended es c.args.number.now c.first_digits.result c.args.at c.args.len c.first_digits.ensures k found.below found.greatest
          c.in-Some.version.now c.shared_digits-shared.result c.requires.apart found.there shared.same whole by
          (shared-longest es c.args.number.now c.first_digits.result c.args.at c.args.len c.first_digits.ensures k found.below found.greatest
          c.shared_digits-shared.result shared.most c.requires.longest)
          (sym c.if-lasts_past.ensures),
    )
