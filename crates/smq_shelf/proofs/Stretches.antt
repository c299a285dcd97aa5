-- A walk over a stretch of keys: those that pass a test, from one on that stands before all of them, beside each other.
use Rattle.std.proofs.Common.{◌≡◌, ◌++◌, Bool, true, false, List, [], ◌∷◌, Option, Some, None, refl, sym, ap, ◌∙◌, find}
use Rattle.std.specs.Prelude.{IfSome}
use Rattle.std.specs.declared.cmp.Ordering.{Ordering}
use Rattle.std.specs.declared.cmp.Ordering.TheVariants.{Less, Equal, Greater}
use Rattle.std.specs.Ordering.{is_le, is_lt}
use Rattle.std.specs.Cmp.{IsTotalOrder}
use Rattle.std.proofs.lemmas.Bool.{false≢true}
use Rattle.smq_shelf.specs.Walks.{stands_after}
use Rattle.smq_shelf.proofs.Walks.{Narrows, both, found-passes, less, with_first}

module _ {K : Type 0} {R : K → K → Ordering} (total : IsTotalOrder R) (exact : (x y : K) → R x y ≡ Equal → x ≡ y) (from : K) where
  -- what stands after one that stands from there on, does too
  from-on : (k j : K) → is_le (R from k) ≡ true → R k j ≡ Less → is_le (R from j) ≡ true
  from-on k j there after = by (R from k) refl
    where
      by : (o : Ordering) → R from k ≡ o → is_le (R from j) ≡ true
      by Less e = ap is_le (total.trans from k j e after)
      by Equal e = ap (λ x. is_le (R x j)) (exact from k e) ∙ ap is_le after
      by Greater e = absurd (false≢true (sym (ap is_le e) ∙ there))

  module _ {X : Type 0} (has : K → Bool) (first : (k : K) → has k ≡ true → is_le (R from k) ≡ true)
      (beside : (k j : K) → is_le (R from k) ≡ true → has k ≡ false → R k j ≡ Less → has j ≡ false) where
    pub first-narrows : Narrows {X = X} R (λ e. is_le (R from e.0)) (λ e. has e.0) (λ e. has e.0)
    first-narrows = record {
      both = λ e. with_first (is_le (R from e.0)) (has e.0) (first e.0);
      up = λ e f there out after. beside e.0 f.0 there out after;
    }

    pub next-narrows : (k : K) → has k ≡ true → Narrows {X = X} R (λ e. is_lt (R k e.0)) (λ e. has e.0) (stands_after R (λ e. has e.0) k)
    next-narrows k of = record {
      both = λ e. refl;
      up = λ e f there out after. beside e.0 f.0 (from-on k e.0 (first k of) (less (R k e.0) there)) out after;
    }

module _ {K X : Type 0} (R : K → K → Ordering) (has : K → Bool) (es : List (K × X)) where
  -- what a look-up finds is of the stretch
  pub found-in : (next : Option (K × X)) → next ≡ find (λ e. has e.0) es → IfSome next (λ e. has e.0 ≡ true)
  found-in None h = tt
  found-in (Some e) h = found-passes (λ e. has e.0) es e (sym h)

  pub next-in : (k : K) (next : Option (K × X)) → next ≡ find (stands_after R (λ e. has e.0) k) es → IfSome next (λ e. has e.0 ≡ true)
  next-in k None h = tt
  next-in k (Some e) h = (both (is_lt (R k e.0)) (has e.0) (found-passes (stands_after R (λ e. has e.0) k) es e (sym h))).1

-- what is told of one that isn't vacant isn't nothing
pub some-told : {Y : Type 0} (ys : List Y) (y : Y) (more : List Y) → ys ++ y ∷ more ≡ [] → ⊥
some-told [] y more h = absurd cc
some-told (x ∷ ys) y more h = absurd cc
