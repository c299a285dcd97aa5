-- Counts that move from the keys of one fact to those of another, view by view.
use Rattle.std.proofs.Common.{◌≡◌, ℕ, ◌+◌, ◌-◌, ◌<◌, ◌≤◌, ◌^◌, List, [], ◌∷◌, Option, Some, None, suc, refl, ap, ◌∙◌, arith, rules}
use Rattle.std.specs.Prelude.{drop, option_to_list, slice_get}
use Rattle.smq_tally.specs.declared.counts.Delta.TheVariants as s
use Rattle.smq_tally.specs.declared.fact.CountKey.{CountKey}
use Rattle.smq_tally.specs.declared.fact.Fact.{Fact}
use Rattle.smq_tally.specs.declared.view.View.{View}
use Rattle.smq_tally.specs.declared.view.View.TheVariants as v
use Rattle.smq_tally.specs.Rows.{views, view_rank, key_in, same_count_key, stands_in}
use Rattle.smq_tally.specs.within.Counting.{Counts, count_in, steps, keys_left, keys_after, key_in_if, times, AreCounted, HaveRoom, IsMoved}
use Rattle.smq_tally.proofs.Tallies.{Has, has-one, has-same, has-more, has-less, once, one_most, keys_in, count-append}
use Rattle.smq_tally.proofs.Runs.{next_rank}
use Rattle.smq_tally.proofs.ViewRanges.{view_parts}

-- ---- counts that moved are those after steps

pub moved-steps : (m u : Counts) (from to : List CountKey) → Has m (count_in m) → Has u (count_in u) → AreCounted from m → IsMoved from to m u
    → u ≡ steps s.Plus (steps s.Minus m from) to
moved-steps m u from to h k few moved =
    has-one u (steps s.Plus (steps s.Minus m from) to) (count_in u) k
    (has-same (steps s.Plus (steps s.Minus m from) to) (λ q. (count_in m q - times q from) + times q to) (count_in u)
    (has-more (steps s.Minus m from) (λ q. count_in m q - times q from) to (has-less m (count_in m) from h))
    (λ q. let one = few q in let both = moved q in omega (arith, one, both)))

-- a fact stands at a key once at most
once_at_most : (f : Option Fact) (q : CountKey) → times q (keys_left v.Link f) ≤ 1
once_at_most None q = omega arith
once_at_most (Some f) q =
    let one = once f q in let most = one_most (stands_in q f) in omega (arith, one, most)

pub room-for : (m : Counts) (f : Option Fact) → ((key : CountKey) → count_in m key + 1 < 2 ^ 64) → HaveRoom (keys_left v.Link f) m
room-for m f room q some = let one = once_at_most f q in let few = room q in omega (arith, one, few)

-- ---- views in turn

dropped : (view : View) → drop (view_rank view) views ≡ view ∷ drop (suc (view_rank view)) views
dropped view = search rules

pub times-split : (view : View) (f : Option Fact) (q : CountKey) → times q (keys_left view f) ≡ times q (option_to_list (key_in_if view f)) + times q (keys_after view f)
times-split view None q = refl
times-split view (Some f) q =
    ap (λ (vs : List View). times q (keys_in f vs)) (dropped view)
    ∙ count-append (same_count_key q) (option_to_list (key_in view f)) (keys_after view (Some f))

pub after-next : (view next : View) (f : Option Fact) → Some next ≡ slice_get views (view_rank view + 1) → keys_after view f ≡ keys_left next f
after-next view next None e = refl
after-next view next (Some f) e =
    let after : suc (view_rank view) ≡ view_rank next = let n = next_rank view_parts view next e in omega (arith, n) in
    ap (λ (m : ℕ). keys_in f (drop m views)) after

-- what is to be counted in a view is among what is to be in it and those after it
pub room-here : (view : View) (m : Counts) (f : Option Fact) → HaveRoom (keys_left view f) m
    → HaveRoom (option_to_list (key_in_if view f)) m
room-here view m f room q some =
    let split = times-split view f q in let all = room q (omega (arith, split, some)) in omega (arith, split, all)

-- what moved in a view leaves room for what is to move in those after it, and together they moved in all
module _ (view next : View) (m mid : Counts) (before after : Option Fact) (few : AreCounted (keys_left view before) m)
    (room : HaveRoom (keys_left view after) m)
    (first : IsMoved (option_to_list (key_in_if view before)) (option_to_list (key_in_if view after)) m mid)
    (e : Some next ≡ slice_get views (view_rank view + 1)) where
  split : (f : Option Fact) (q : CountKey) → times q (keys_left view f) ≡ times q (option_to_list (key_in_if view f)) + times q (keys_left next f)
  split f q = times-split view f q ∙ ap (λ (ks : List CountKey). times q (option_to_list (key_in_if view f)) + times q ks) (after-next view next f e)

  pub counted-later : AreCounted (keys_left next before) mid
  counted-later q = let b = split before q in let all = few q in let moved = first q in omega (arith, b, all, moved)

  pub room-later : HaveRoom (keys_left next after) mid
  room-later q some =
      let a = split after q in
      let all = room q (omega (arith, a, some)) in
      let moved = first q in
      omega (arith, a, all, moved)

  pub moved-on : (u : Counts) → IsMoved (keys_left next before) (keys_left next after) mid u → IsMoved (keys_left view before) (keys_left view after) m u
  moved-on u rest q =
      let b = split before q in let a = split after q in let one = first q in let two = rest q in omega (arith, a, b, one, two)

pub moved-last : (view : View) (m u : Counts) (before after : Option Fact) → keys_after view before ≡ [] → keys_after view after ≡ []
    → IsMoved (option_to_list (key_in_if view before)) (option_to_list (key_in_if view after)) m u → IsMoved (keys_left view before) (keys_left view after) m u
moved-last view m u before after none last first q =
    let b = split before none in let a = split after last in let one = first q in omega (arith, a, b, one)
  where
    split : (f : Option Fact) → keys_after view f ≡ [] → times q (keys_left view f) ≡ times q (option_to_list (key_in_if view f))
    split f e = let all = times-split view f q in let none : times q (keys_after view f) ≡ 0 = ap (times q) e in omega (arith, all, none)
