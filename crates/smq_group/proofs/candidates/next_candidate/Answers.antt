use Rattle.std.proofs.Common.{◌≡◌, sym, ap, ◌∙◌, arith, find}
use Rattle.smq_kit.specs.declared.link_key.LinkKey.{LinkKey}
use Rattle.smq_kit.specs.LinkKeys.{same_key}
use Rattle.smq_shelf.specs.Walks.{stands_after}
use Rattle.smq_shelf.proofs.Changes.{content_ordered}
use Rattle.smq_shelf.proofs.Walks.{after-rises, step-length}
use Rattle.smq_group.specs.within.Orders.{kept_candidate_cmp}
use Rattle.smq_group.specs.within.Walked.{candidate_at, first_candidate_after, of_candidate}
use Rattle.smq_group.proofs.CandidateWalks.{candidates_total, left-start, left-more, left-vacant, left-bound}
use Rattle.smq_group.proofs.Earliest.{own_key}
use Rattle.smq_group.proofs.Finding.{found-of}
use Rattle.smq_group.proofs.candidates.next_candidate.Goals as goal

pub place_after-next-requires : goal.place_after-next-requires
place_after-next-requires c = ap (λ (k : LinkKey). same_key c.args.key.now k) c.copy.ensures ∙ own_key c.args.key.now

pub loop-next-init : goal.loop-next-init
loop-next-init c =
    let key = c.args.key.now in
    let places = c.args.candidates.now.places in
    let so = c.place_after-next.ensures.ordered in
    let value = c.place_after-next.ensures.value ∙ ap (λ (k : LinkKey). find (stands_after kept_candidate_cmp (of_candidate key) (candidate_at k c.args.from)) places) c.copy.ensures in
    let vacant = left-bound key places so (candidate_at key c.args.from) c.place_after-next.result value in
    let touches = c.place_after-next.ensures.touches in
    record {
      read = c.place_after-next.ensures.read;
      left = ap (first_candidate_after key c.args.from) c.place_after-next.ensures.content ∙ left-start key places so c.args.from c.place_after-next.result value;
      touches = omega (arith, vacant, touches);
      own = found-of candidates_total (of_candidate key) (stands_after kept_candidate_cmp (of_candidate key) (candidate_at key c.args.from)) places c.place_after-next.result (after-rises candidates_total (of_candidate key) (candidate_at key c.args.from)) value;
    }

pub loop-next-preserved : goal.loop-next-preserved
loop-next-preserved c =
    let key = c.args.key.now in
    let places = c.args.candidates.now.places in
    let so = c.place_after-next.ensures.ordered in
    let value = c.place_after-next-in-Some.ensures.value ∙ ap (λ es. find (stands_after kept_candidate_cmp (of_candidate key) c.in-Some.candidate) es) c.loop-next.invariant.read.places in
    let none = sym c.is_some.ensures ∙ c.if-is_some.false in
    let vacant = left-vacant key places so c.in-Some.candidate c.in-Some.value c.loop-next.next c.place_after-next-in-Some.result c.in-Some.is none value in
    let touches = c.place_after-next-in-Some.ensures.touches in
    let before = c.loop-next.invariant.touches in
    record {
      read = record {
        content = c.place_after-next-in-Some.ensures.read.content ∙ c.loop-next.invariant.read.content;
        settled = c.place_after-next-in-Some.ensures.read.settled ∙ c.loop-next.invariant.read.settled;
        places = c.place_after-next-in-Some.ensures.read.places ∙ c.loop-next.invariant.read.places;
        past = c.place_after-next-in-Some.ensures.read.past ∙ c.loop-next.invariant.read.past;
        pending = c.place_after-next-in-Some.ensures.read.pending ∙ c.loop-next.invariant.read.pending;
        counted = (let a = c.place_after-next-in-Some.ensures.read.counted in let b = c.loop-next.invariant.read.counted in omega (arith, a, b));
      };
      left = left-more key places so (first_candidate_after key c.args.from c.args.candidates.now.content) c.in-Some.candidate c.in-Some.value c.loop-next.next c.place_after-next-in-Some.result
          c.loop-next.invariant.left c.in-Some.is none value;
      touches = omega (arith, vacant, touches, before);
      own = found-of candidates_total (of_candidate key) (stands_after kept_candidate_cmp (of_candidate key) c.in-Some.candidate) places c.place_after-next-in-Some.result (after-rises candidates_total (of_candidate key) c.in-Some.candidate) value;
    }

pub loop-next-smaller : goal.loop-next-smaller
loop-next-smaller c =
    let value = c.place_after-next-in-Some.ensures.value ∙ ap (λ es. find (stands_after kept_candidate_cmp (of_candidate c.args.key.now) c.in-Some.candidate) es) c.loop-next.invariant.read.places in
    let left = step-length candidates_total (of_candidate c.args.key.now) c.args.candidates.now.places c.place_after-next.ensures.ordered (c.in-Some.candidate, c.in-Some.value) c.loop-next.next c.place_after-next-in-Some.result c.in-Some.is value in
    omega (arith, left)

pub returns-then-is_some-clause-ordered : goal.returns-then-is_some-clause-ordered
returns-then-is_some-clause-ordered c =
    rw c.place_after-next.ensures.content (content_ordered candidates_total c.args.candidates.now.places c.place_after-next.ensures.ordered)

pub returns-clause-ordered : goal.returns-clause-ordered
returns-clause-ordered c =
    rw c.place_after-next.ensures.content (content_ordered candidates_total c.args.candidates.now.places c.place_after-next.ensures.ordered)
