-- What was put into a map is taken out, and what was taken out is put in again.
use Rattle.std.proofs.Common.{◌≡◌, Bool, true, false, cond, [], Option, Some, None, refl, sym, ap, ◌∙◌}
use Rattle.std.proofs.lemmas.List.{nil_from_length}
use Rattle.std.specs.declared.cmp.Ordering.{Ordering}
use Rattle.std.specs.Ordering.{eq_by_cmp}
use Rattle.std.specs.Cmp.{IsTotalOrder}
use Rattle.std.specs.FinMap.{FinMap, IsAntisymmetric, get, insert, remove, empty, entries, get-insert, get-remove, len-empty, len-entries, same_map}
use Rattle.smq_kit.specs.Maps.{set_at}
use Rattle.smq_kit.proofs.MapLemmas as maps

module _ {K X : Type 0} {R : K → K → Ordering} (o : IsTotalOrder R) (exact : IsAntisymmetric R) where
  -- a key that has again what it had
  pub put-back : (m : FinMap R X) (k : K) (v : X) → set_at (insert m k v) k (get m k) ≡ m
  put-back m k v = same_map o exact _ _ (λ q.
      maps.get-set_at o exact (insert m k v) k (get m k) q ∙ ap (cond (eq_by_cmp R q k) (get m k)) (get-insert o m k v q)
      ∙ there q (eq_by_cmp R q k) refl)
    where
      there : (q : K) (b : Bool) → eq_by_cmp R q k ≡ b → cond b (get m k) (cond b (Some v) (get m q)) ≡ get m q
      there q true e = ap (get m) (sym (maps.same_key o exact q k e))
      there q false e = refl

  -- a new key is taken out again
  pub take-out : (m : FinMap R X) (k : K) (v : X) → get m k ≡ None → remove (insert m k v) k ≡ m
  take-out m k v none = ap (set_at (insert m k v) k) (sym none) ∙ put-back m k v

  -- what is taken out is put in again
  pub put-again : (m : FinMap R X) (k : K) (v : X) → get m k ≡ Some v → insert (remove m k) k v ≡ m
  put-again m k v has =
      same_map o exact _ _ (λ q. get-insert o (remove m k) k v q ∙ ap (cond (eq_by_cmp R q k) (Some v)) (get-remove o m k q)
      ∙ there q (eq_by_cmp R q k) refl)
    where
      there : (q : K) (b : Bool) → eq_by_cmp R q k ≡ b → cond b (Some v) (cond b None (get m q)) ≡ get m q
      there q true e = sym has ∙ ap (get m) (sym (maps.same_key o exact q k e))
      there q false e = refl

  -- what is taken out before another is put in need not be taken out
  pub put-instead : (m : FinMap R X) (k : K) (v : X) → insert (remove m k) k v ≡ insert m k v
  put-instead m k v =
      same_map o exact _ _ (λ q. get-insert o (remove m k) k v q ∙ ap (cond (eq_by_cmp R q k) (Some v)) (get-remove o m k q)
      ∙ there (get m q) (eq_by_cmp R q k) ∙ sym (get-insert o m k v q))
    where
      there : (x : Option X) (b : Bool) → cond b (Some v) (cond b None x) ≡ cond b (Some v) x
      there x true = refl
      there x false = refl

  -- what isn't there need not be taken out
  pub remove-none : (m : FinMap R X) (k : K) → get m k ≡ None → remove m k ≡ m
  remove-none m k none = ap (set_at m k) (sym none) ∙ maps.set-same o exact m k

-- the empty map has no entries
pub no-entries : {K : Type 0} (R : K → K → Ordering) (X : Type 0) → entries (empty {X = X} {R = R}) ≡ []
no-entries R X = nil_from_length (entries (empty {X = X} {R = R})) (sym (len-entries (empty {X = X} {R = R})) ∙ len-empty R X)
