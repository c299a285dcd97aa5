-- The pairs of sessions where those of one are put in, written back or taken out.
use Rattle.std.proofs.Common.{◌≡◌, ◌≢◌, ◌+◌, ℕ, Bool, true, false, cond, List, Option, Some, None, refl, sym, ap, ◌∙◌, arith}
use Rattle.std.specs.Prelude.{is_some, option_map, unwrap_or}
use Rattle.std.specs.BTreeMap.{insert_entry, is_at}
use Rattle.std.specs.List.{sum_by}
use Rattle.std.specs.List.Sorted.{IsStrictlySortedBy}
use Rattle.std.specs.Map.{keys_of, lookup, remove_entry, set_value, values_of}
use Rattle.std.proofs.lemmas.Map.Entries.{sum_by-insert_entry, sum_by-remove_entry, sum_by-set_value}
use Rattle.std.specs.Ordering.{eq_by_cmp, is_eq, nat_cmp}
use Rattle.std.specs.Cmp.{eq_by_cmp_equiv, nat_cmp_total, tied_itself}
use Rattle.std.specs.FinMap.{nat_cmp-IsAntisymmetric}
use Rattle.std.proofs.lemmas.Bool.{false≢true}
use Rattle.smq_kit.proofs.MapLemmas.{same_key}
use Rattle.smq_pair.specs.Paired.{PairedValue}

tied : (k q : ℕ) → is_at (nat_cmp k) q ≡ eq_by_cmp nat_cmp q k
tied k q = (eq_by_cmp_equiv nat_cmp_total).symm k q

-- what a map has of each session once it has this of one
abbrev pub PutAt : List (ℕ × PairedValue) → List (ℕ × PairedValue) → ℕ → Option PairedValue → Type 0
PutAt es fs k v = (q : ℕ) → lookup (is_at (nat_cmp q)) fs ≡ cond (is_at (nat_cmp k) q) v (lookup (is_at (nat_cmp q)) es)

module _ (es fs : List (ℕ × PairedValue)) (k : ℕ) (v : Option PairedValue) (put : PutAt es fs k v) where
  pub own : lookup (is_at (nat_cmp k)) fs ≡ v
  own = put k ∙ ap (λ b. cond b v (lookup (is_at (nat_cmp k)) es)) (at_itself k)
    where
      at_itself : (k : ℕ) → is_at (nat_cmp k) k ≡ true
      at_itself k = tied k k ∙ ap is_eq (tied_itself nat_cmp_total k)

  pub other : (number : ℕ) → number ≢ k → lookup (is_at (nat_cmp number)) fs ≡ lookup (is_at (nat_cmp number)) es
  other number apart = put number ∙ by (is_at (nat_cmp k) number) refl
    where
      by : (b : Bool) → is_at (nat_cmp k) number ≡ b → cond b v (lookup (is_at (nat_cmp number)) es) ≡ lookup (is_at (nat_cmp number)) es
      by true t = absurd (apart (same_key nat_cmp_total nat_cmp-IsAntisymmetric number k (sym (tied k number) ∙ t)))
      by false t = refl

  -- what is seen of each session stays where it is seen of this one
  pub stays : {X : Type 0} (see : Option PairedValue → X) → see v ≡ see (lookup (is_at (nat_cmp k)) es)
      → (number : ℕ) → see (lookup (is_at (nat_cmp number)) fs) ≡ see (lookup (is_at (nat_cmp number)) es)
  stays see same number = by (is_at (nat_cmp k) number) refl
    where
      by : (b : Bool) → is_at (nat_cmp k) number ≡ b → see (lookup (is_at (nat_cmp number)) fs) ≡ see (lookup (is_at (nat_cmp number)) es)
      by true t =
          ap see (put number ∙ ap (λ b. cond b v (lookup (is_at (nat_cmp number)) es)) t) ∙ same
          ∙ ap (λ n. see (lookup (is_at (nat_cmp n)) es)) (sym (same_key nat_cmp_total nat_cmp-IsAntisymmetric number k (sym (tied k number) ∙ t)))
      by false t = ap see (put number ∙ ap (λ b. cond b v (lookup (is_at (nat_cmp number)) es)) t)

-- the touches of the pairs of all sessions
abbrev pub touches_among : List (ℕ × PairedValue) → ℕ
touches_among es = sum_by (λ (v : PairedValue). v.touches) (values_of es)

module _ (k : ℕ) (es fs : List (ℕ × PairedValue)) where
  pub written : (v w : PairedValue) → lookup (is_at (nat_cmp k)) es ≡ Some v → fs ≡ set_value (is_at (nat_cmp k)) es w
      → touches_among fs + v.touches ≡ touches_among es + w.touches
  written v w there wrote =
      ap (λ gs. touches_among gs + v.touches) wrote ∙ sum_by-set_value (λ (v : PairedValue). v.touches) (is_at (nat_cmp k)) es v w there

  pub taken : (v : PairedValue) → lookup (is_at (nat_cmp k)) es ≡ Some v → fs ≡ remove_entry (is_at (nat_cmp k)) es
      → touches_among fs + v.touches ≡ touches_among es
  taken v there took =
      let sum = sum_by-remove_entry (λ (v : PairedValue). v.touches) (is_at (nat_cmp k)) es in
      let all = ap touches_among took in
      let of-it = ap (λ o. unwrap_or (option_map (λ (v : PairedValue). v.touches) o) 0) there in
      omega (arith, sum, all, of-it)

  pub put : (v : PairedValue) → is_some (lookup (is_at (nat_cmp k)) es) ≡ false → IsStrictlySortedBy nat_cmp (keys_of es)
      → fs ≡ insert_entry nat_cmp es k v → touches_among fs ≡ touches_among es + v.touches
  put v absent sorted puts =
      let sum = sum_by-insert_entry (λ (v : PairedValue). v.touches) nat_cmp_total es k v sorted in
      let all = ap touches_among puts in
      let none = nothing (lookup (is_at (nat_cmp k)) es) absent in
      omega (arith, sum, all, none)
    where
      nothing : (o : Option PairedValue) → is_some o ≡ false → unwrap_or (option_map (λ (v : PairedValue). v.touches) o) 0 ≡ 0
      nothing None is = refl
      nothing (Some v) is = absurd (false≢true (sym is))
