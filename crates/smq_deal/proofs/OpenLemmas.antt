-- What a set of keys gains, key by key and list by list.
use Rattle.std.proofs.Common.{◌≡◌, ◌+◌, ◌<◌, ℕ, Bool, true, false, cond, ◌||◌, List, [], ◌∷◌, ◌++◌, length, take, drop, get_or}
use Rattle.std.proofs.Common.{refl, sym, ap, ◌∙◌}
use Rattle.std.specs.List.{list_any}
use Rattle.std.specs.Ordering.{is_eq, nat_cmp, ordering_then}
use Rattle.std.specs.declared.cmp.Ordering.{Ordering}
use Rattle.std.specs.Cmp.{eq_by_cmp_equiv}
use Rattle.std.specs.BTreeSet.{BTreeSet, Updates, contains}
use Rattle.std.proofs.lemmas.List.{drop_more, take_more}
use Rattle.std.proofs.lemmas.List.Folds.{list_any-append}
use Rattle.smq_kit.specs.LinkKeys.{kept_key_cmp, link_key_cmp, same_key}
use Rattle.smq_kit.specs.declared.link_key.LinkKey.{LinkKey}
use Rattle.smq_kit.proofs.KeyOrders.{key-order}
use Rattle.smq_kit.proofs.LinkKeyOrders.{link_keys_total}
use Rattle.smq_present.specs.declared.present.kept.StoredPdu.{StoredPdu}
use Rattle.smq_present.specs.pairing.Traffic.{with_earlier}
use Rattle.smq_deal.specs.Open.{Gains, Reaches}

or-false : (b : Bool) → (b || false) ≡ b
or-false true = refl
or-false false = refl

or_assoc : (x y z : Bool) → (x || (y || z)) ≡ ((x || y) || z)
or_assoc true y z = refl
or_assoc false y z = refl

-- the order by which a set compares keys is theirs
pub kept-order : (a b : LinkKey) → kept_key_cmp a b ≡ link_key_cmp a b
kept-order a b = ap (λ (o : Ordering). ordering_then (nat_cmp a.link.0 b.link.0) o) (key-order a.key b.key)

-- keys are compared the same both ways
same-back : (a b : LinkKey) → is_eq (link_key_cmp a b) ≡ same_key b a
same-back a b = (eq_by_cmp_equiv link_keys_total).symm a b

-- a set that stays gains nothing
pub gains-none : (s : BTreeSet LinkKey) → Gains s s []
gains-none s key = sym (or-false (contains kept_key_cmp s key))

-- one with one key more gains it
pub gains-one : (old new : BTreeSet LinkKey) (k : LinkKey) → Updates kept_key_cmp old new k true → Gains old new (k ∷ [])
gains-one old new k updates key =
    updates.0 key
    ∙ ap (λ (b : Bool). cond b true (contains kept_key_cmp old key)) (ap is_eq (kept-order k key) ∙ same-back k key)
    ∙ by (same_key key k) (contains kept_key_cmp old key)
  where
    by : (b c : Bool) → cond b true c ≡ (c || (b || false))
    by true true = refl
    by true false = refl
    by false true = refl
    by false false = refl

-- ---- list by list

-- at first it has what it had
pub reaches-start : (s : BTreeSet LinkKey) (xs : List LinkKey) → Reaches s s xs xs
reaches-start s xs key = refl

-- what it gains is no longer left
pub reaches-more : (old now next : BTreeSet LinkKey) (xs ys all : List LinkKey) → Reaches old now (xs ++ ys) all → Gains now next xs
    → Reaches old next ys all
reaches-more old now next xs ys all before gained key =
    ap (λ (h : Bool). h || list_any (same_key key) ys) (gained key)
    ∙ sym (or_assoc (contains kept_key_cmp now key) (list_any (same_key key) xs) (list_any (same_key key) ys))
    ∙ ap (λ (h : Bool). contains kept_key_cmp now key || h) (sym (list_any-append (same_key key) xs ys))
    ∙ before key

-- at last all is gained
pub reaches-end : (old now : BTreeSet LinkKey) (all : List LinkKey) → Reaches old now [] all → Gains old now all
reaches-end old now all whole key = sym (or-false (contains kept_key_cmp now key)) ∙ whole key

-- what is gained twice is gained
pub gains-more : (a b c : BTreeSet LinkKey) (xs ys : List LinkKey) → Gains a b xs → Gains b c ys → Gains a c (xs ++ ys)
gains-more a b c xs ys first second key =
    second key
    ∙ ap (λ (h : Bool). h || list_any (same_key key) ys) (first key)
    ∙ sym (or_assoc (contains kept_key_cmp a key) (list_any (same_key key) xs) (list_any (same_key key) ys))
    ∙ ap (λ (h : Bool). contains kept_key_cmp a key || h) (sym (list_any-append (same_key key) xs ys))

-- an empty set that gains keys has these
pub gains-all : (s new : BTreeSet LinkKey) (all : List LinkKey) → s.keys ≡ [] → Gains s new all
    → (key : LinkKey) → contains kept_key_cmp new key ≡ list_any (same_key key) all
gains-all s new all none gained key =
    gained key
    ∙ ap (λ (ks : List LinkKey). list_any (λ (k : LinkKey). is_eq (kept_key_cmp key k)) ks || list_any (same_key key) all) none

-- the PDUs from the i-th on with those before them begin with it
pub earlier_more : (mine : List StoredPdu) (i : ℕ) (x : StoredPdu) → i < length mine → x ≡ get_or mine i x
    → with_earlier (take i mine) (drop i mine) ≡ (take i mine, x) ∷ with_earlier (take (i + 1) mine) (drop (i + 1) mine)
earlier_more mine i x h is =
    ap (λ (ps : List StoredPdu). with_earlier (take i mine) ps)
    (drop_more mine i x h ∙ ap (λ (y : StoredPdu). y ∷ drop (i + 1) mine) (sym is))
    ∙ ap (λ (ps : List StoredPdu). (take i mine, x) ∷ with_earlier ps (drop (i + 1) mine))
    (ap (λ (y : StoredPdu). take i mine ++ y ∷ []) is ∙ sym (take_more mine i x h))
