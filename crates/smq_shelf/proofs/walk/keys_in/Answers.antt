use Rattle.std.proofs.Common.{◌≡◌, ◌++◌, ap, sym, refl, ◌∙◌, arith, Bool, true, length, filter, find, Option, Some, None, subst}
use Rattle.std.specs.Prelude.{IfSome}
use Rattle.std.specs.Map.{keys_of}
use Rattle.std.proofs.lemmas.Bool.{false≢true}
use Rattle.smq_shelf.specs.Places.{content_of}
use Rattle.smq_shelf.specs.Walks.{left_above, stands_after}
use Rattle.smq_shelf.proofs.Stretches.{found-in, next-in, some-told}
use Rattle.smq_shelf.proofs.Walks.{end-gathered, full, left-found, of-rises, step-gathered, step-length, walked-more, walked-on}
use Rattle.smq_shelf.proofs.walk.keys_in.Goals as goal

pub loop-next-init : goal.loop-next-init
loop-next-init g c =
    let of : g.row.K.Denot × Option (Unit {0}) → Bool = λ e. g.S.Stretch.has c.args.stretch.now e.0 in
    let es = c.args.kept.now.places in
    let first = left-found g.met.K.Ord.total of es c.first_in-next.ensures.ordered of c.first_in-next.result (of-rises g.met.K.Ord.total of)
    c.first_in-next.ensures.value in
    let left = ap length first in
    let walked = c.first_in-next.ensures.walked in
    let touches = walked.touches in
    record {
      walked = walked-more 1 _ walked (omega arith);
      touches = omega (arith, left, touches);
      gathered = rw c.new-keys.ensures.items (ap (λ xs. keys_of (content_of xs)) first);
      of_stretch = found-in g.K.Ord.cmp (g.S.Stretch.has c.args.stretch.now) es c.first_in-next.result c.first_in-next.ensures.value;
    }

pub next_in-next-requires-clause-there : goal.next_in-next-requires-clause-there
next_in-next-requires-clause-there g c =
    subst (λ n. IfSome n (λ e. g.S.Stretch.has c.args.stretch.now e.0 ≡ true)) c.in-Some.is c.loop-next.invariant.of_stretch

pub loop-next-smaller : goal.loop-next-smaller
loop-next-smaller g c =
    let of : g.row.K.Denot × Option (Unit {0}) → Bool = λ e. g.S.Stretch.has c.args.stretch.now e.0 in
    let value = c.next_in-next.ensures.value ∙ ap (λ es. find (stands_after g.K.Ord.cmp of c.in-Some.found) es) c.loop-next.invariant.walked.places in
    let left = step-length g.met.K.Ord.total of c.args.kept.now.places c.first_in-next.ensures.ordered (c.in-Some.found, c.in-Some.value)
    c.loop-next.next c.next_in-next.result c.in-Some.is value in
    omega (arith, left)

pub loop-next-preserved : goal.loop-next-preserved
loop-next-preserved g c =
    let of : g.row.K.Denot × Option (Unit {0}) → Bool = λ e. g.S.Stretch.has c.args.stretch.now e.0 in
    let es = c.args.kept.now.places in
    let so = c.first_in-next.ensures.ordered in
    let value = c.next_in-next.ensures.value ∙ ap (λ es. find (stands_after g.K.Ord.cmp of c.in-Some.found) es) c.loop-next.invariant.walked.places in
    let left = step-length g.met.K.Ord.total of es so (c.in-Some.found, c.in-Some.value) c.loop-next.next c.next_in-next.result c.in-Some.is value in
    let before = c.loop-next.invariant.walked in
    let walked = c.next_in-next.ensures.walked in
    let touches = walked.touches in
    let bound = c.loop-next.invariant.touches in
    record {
      walked = walked-on _ 1 _ before walked (omega (arith, touches, bound, left));
      touches = omega (arith, touches, bound, left);
      gathered = step-gathered g.K.Ord.cmp (λ k. k) g.met.K.Ord.total of es so c.in-Some.found c.in-Some.value c.loop-next.next c.next_in-next.result
          c.loop-next.keys.items c.push_there.new.keys.items _ c.in-Some.is value c.loop-next.invariant.gathered c.in_ok-push_there.ensures.value;
      of_stretch = next-in g.K.Ord.cmp (g.S.Stretch.has c.args.stretch.now) es c.in-Some.found c.next_in-next.result value;
    }

-- where a key is pushed, one is told
pub returns-in_err-push_there-clause-none : goal.returns-in_err-push_there-clause-none
returns-in_err-push_there-clause-none g c = λ none.
    let of : g.row.K.Denot × Option (Unit {0}) → Bool = λ e. g.S.Stretch.has c.args.stretch.now e.0 in
    let es = c.args.kept.now.places in
    let met = ap (λ n. c.loop-next.keys.items ++ keys_of (content_of (left_above g.K.Ord.cmp of es n))) (sym c.in-Some.is)
    ∙ c.loop-next.invariant.gathered ∙ none in
    absurd (elim c.in-Some.value as (λ x. c.in-Some.value ≡ x → ⊥) [
      | None ↦ λ e. false≢true (c.in_err-push_there.ensures.none e)
      | (Some v) ↦ λ e. some-told c.loop-next.keys.items c.in-Some.found _
          (ap (λ x. c.loop-next.keys.items ++ keys_of (content_of (left_above g.K.Ord.cmp of es (Some (c.in-Some.found, x))))) (sym e) ∙ met)
    ] refl)

pub returns-in_err-push_there-clause-walked : goal.returns-in_err-push_there-clause-walked
returns-in_err-push_there-clause-walked g c = c.loop-next.invariant.walked

pub returns-clause-value : goal.returns-clause-value
returns-clause-value g c =
    end-gathered g.K.Ord.cmp (λ k. k) (λ e. g.S.Stretch.has c.args.stretch.now e.0) c.args.kept.now.places c.loop-next.next c.loop-next.keys.items _
    c.loop-next.invariant.gathered c.in_default.is

pub returns-clause-walked : goal.returns-clause-walked
returns-clause-walked g c = c.loop-next.invariant.walked

pub returns-clause-touches : goal.returns-clause-touches
returns-clause-touches g c = λ settled.
    let of : g.row.K.Denot × Option (Unit {0}) → Bool = λ e. g.S.Stretch.has c.args.stretch.now e.0 in
    let bound = c.loop-next.invariant.touches in
    let met = ap (λ es. length (filter of es)) settled
    ∙ full (λ k. k) of c.args.kept.now.content
    ∙ sym (ap (λ es. length (keys_of (content_of (filter of es)))) settled) in
    let told = ap length (returns-clause-value g c) in
    omega (arith, bound, met, told)
