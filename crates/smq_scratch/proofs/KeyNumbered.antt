-- Numbers of keys in lists, and what is kept of them, with one key more.
use Rattle.std.proofs.Common.{◌≡◌, ℕ, suc, ◌<◌, Bool, true, false, cond, List, [], ◌∷◌, ◌++◌, length, Option, Some, None, refl, sym, ap, ◌∙◌, subst, arith}
use Rattle.std.specs.Prelude.{zero, is_some, option_map, slice_get}
use Rattle.std.specs.BTreeMap.{is_at}
use Rattle.std.specs.Map.{lookup}
use Rattle.std.specs.Ordering.{is_eq, nat_cmp}
use Rattle.std.specs.FinMap.{nat_cmp-IsAntisymmetric}
use Rattle.std.proofs.lemmas.Bool.{false≢true}
use Rattle.std.proofs.lemmas.Cmp.{nat_cmp_total, tied_itself}
use Rattle.std.proofs.lemmas.Option.{none-some, same_Some, slice_get_past, slice_get_within}
use Rattle.smq_kit.specs.declared.link_key.LinkKey.{LinkKey}
use Rattle.smq_kit.specs.HashedKeys.{hashed_key_cmp}
use Rattle.smq_kit.proofs.Comparisons.{is_equal}
use Rattle.smq_kit.proofs.HashedKeyOrders.{hashed_keys_total, one_hashed_key}
use Rattle.smq_scratch.specs.declared.key_numbers.KeyNumbers.{KeyNumbers}
use Rattle.smq_scratch.specs.within.KeyNumbers.{AreNumbered, NoKeys, first_at, has, index_of, is_key, number_among, number_by, other_at, slot_of, with_key, with_new}

-- keys that are one
pub one_key : (q k : LinkKey) → is_key q k ≡ true → q ≡ k
one_key q k e = one_hashed_key q k (is_equal (hashed_key_cmp q k) e)

pub key_itself : (k : LinkKey) → is_key k k ≡ true
key_itself k = ap is_eq (tied_itself hashed_keys_total k)

apart_back : (q k : LinkKey) (b : Bool) → is_key k q ≡ b → is_key q k ≡ false → b ≡ false
apart_back q k true e h = sym (key_itself k) ∙ ap (λ (x : LinkKey). is_key x k) (one_key k q e) ∙ h
apart_back q k false e h = refl

-- ---- the number of a key, with one more at the end

abbrev pub last_or : Option ℕ → Bool → ℕ → Option ℕ
last_or None b m = cond b (Some m) None
last_or (Some n) b m = Some n

one_before : (a : Bool) (o : Option ℕ) (b : Bool) (m : ℕ) → cond a (Some 0) (option_map suc (last_or o b m)) ≡ last_or (cond a (Some 0) (option_map suc o)) b (suc m)
one_before true o b m = refl
one_before false (Some n) b m = refl
one_before false None true m = refl
one_before false None false m = refl

pub index-last : (q k : LinkKey) (ks : List LinkKey) → index_of q (ks ++ k ∷ []) ≡ last_or (index_of q ks) (is_key q k) (length ks)
index-last q k [] = refl
index-last q k (x ∷ ks) =
    ap (λ (o : Option ℕ). cond (is_key q x) (Some 0) (option_map suc o)) (index-last q k ks)
    ∙ one_before (is_key q x) (index_of q ks) (is_key q k) (length ks)

last_other : (o : Option ℕ) (m : ℕ) → last_or o false m ≡ o
last_other None m = refl
last_other (Some n) m = refl

index-other : (q k : LinkKey) (ks : List LinkKey) → is_key q k ≡ false → index_of q (ks ++ k ∷ []) ≡ index_of q ks
index-other q k ks e = index-last q k ks ∙ ap (λ (b : Bool). last_or (index_of q ks) b (length ks)) e ∙ last_other (index_of q ks) (length ks)

pub index-new : (k : LinkKey) (ks : List LinkKey) → index_of k ks ≡ None → index_of k (ks ++ k ∷ []) ≡ Some (length ks)
index-new k ks e =
    index-last k k ks ∙ ap (λ (o : Option ℕ). last_or o (is_key k k) (length ks)) e ∙ ap (λ (b : Bool). last_or None b (length ks)) (key_itself k)

-- the key at its number
at_cases : (q x : LinkKey) (ks : List LinkKey) (n : ℕ) (a : Bool) (o : Option ℕ) → ((m : ℕ) → o ≡ Some m → slice_get ks m ≡ Some q)
    → is_key q x ≡ a → cond a (Some 0) (option_map suc o) ≡ Some n → slice_get (x ∷ ks) n ≡ Some q
at_cases q x ks n true o f e h = ap (slice_get (x ∷ ks)) (sym (same_Some 0 n h)) ∙ ap Some (sym (one_key q x e))
at_cases q x ks n false (Some m) f e h = ap (slice_get (x ∷ ks)) (sym (same_Some (suc m) n h)) ∙ f m refl
at_cases q x ks n false None f e h = absurd (none-some n h)

pub index-at : (q : LinkKey) (ks : List LinkKey) (n : ℕ) → index_of q ks ≡ Some n → slice_get ks n ≡ Some q
index-at q [] n h = absurd (none-some n h)
index-at q (x ∷ ks) n h = at_cases q x ks n (is_key q x) (index_of q ks) (index-at q ks) refl h

pub index-within : (q : LinkKey) (ks : List LinkKey) (n : ℕ) → index_of q ks ≡ Some n → n < length ks
index-within q ks n h = slice_get_within ks n q (index-at q ks n h)

pub one-index : (q k : LinkKey) (ks : List LinkKey) (n : ℕ) → index_of q ks ≡ Some n → index_of k ks ≡ Some n → q ≡ k
one-index q k ks n h g = same_Some q k (sym (index-at q ks n h) ∙ index-at k ks n g)

-- ---- what stands at a number, with one key more at the end

has-other : (q k : LinkKey) (ks : List LinkKey) (n : ℕ) → is_key q k ≡ false → has q (slice_get (ks ++ k ∷ []) n) ≡ has q (slice_get ks n)
has-other q k [] zero e = e
has-other q k [] (suc n) e = refl
has-other q k (x ∷ ks) zero e = refl
has-other q k (x ∷ ks) (suc n) e = has-other q k ks n e

has-own : (k : LinkKey) (ks : List LinkKey) (n : ℕ) → has k (slice_get ks n) ≡ false → has k (slice_get (ks ++ k ∷ []) n) ≡ true → n ≡ length ks
has-own k [] zero h e = refl
has-own k [] (suc n) h e = absurd (false≢true e)
has-own k (x ∷ ks) zero h e = absurd (false≢true (sym h ∙ e))
has-own k (x ∷ ks) (suc n) h e = ap suc (has-own k ks n h e)

has-last : (k : LinkKey) (ks : List LinkKey) → has k (slice_get (ks ++ k ∷ []) (length ks)) ≡ true
has-last k [] = key_itself k
has-last k (x ∷ ks) = has-last k ks

-- of another key
among-other : (q k : LinkKey) (ks : List LinkKey) (o other : Option ℕ) → is_key q k ≡ false
    → number_among o (ks ++ k ∷ []) other q ≡ number_among o ks other q
among-other q k ks None other e = refl
among-other q k ks (Some n) other e = ap (λ (b : Bool). cond b (Some n) other) (has-other q k ks n e)

-- of the key, where its slot has the number
among-first : (k : LinkKey) (ks : List LinkKey) (other : Option ℕ) → number_among (Some (length ks)) (ks ++ k ∷ []) other k ≡ Some (length ks)
among-first k ks other = ap (λ (b : Bool). cond b (Some (length ks)) other) (has-last k ks)

-- of another key whose slot has the number
among-shared : (q k : LinkKey) (ks : List LinkKey) (other : Option ℕ) → is_key q k ≡ false
    → number_among (Some (length ks)) (ks ++ k ∷ []) other q ≡ other
among-shared q k ks other e =
    among-other q k ks (Some (length ks)) other e
    ∙ ap (λ (o : Option LinkKey). cond (has q o) (Some (length ks)) other) (slice_get_past ks (length ks) (omega arith))

-- of the key, where the number stands beside those of slots
beside_cases : (k : LinkKey) (ks : List LinkKey) (n : ℕ) (other : Option ℕ) (a b : Bool) → has k (slice_get ks n) ≡ a
    → has k (slice_get (ks ++ k ∷ []) n) ≡ b → cond a (Some n) other ≡ None → cond b (Some n) (Some (length ks)) ≡ Some (length ks)
beside_cases k ks n other true b h g e = absurd (none-some n (sym e))
beside_cases k ks n other false true h g e = ap Some (has-own k ks n h g)
beside_cases k ks n other false false h g e = refl

among-beside : (k : LinkKey) (ks : List LinkKey) (o other : Option ℕ) → number_among o ks other k ≡ None
    → number_among o (ks ++ k ∷ []) (Some (length ks)) k ≡ Some (length ks)
among-beside k ks None other e = refl
among-beside k ks (Some n) other e = beside_cases k ks n other _ _ refl refl e

pub none-is : (o : Option ℕ) → is_some o ≡ false → o ≡ None
none-is None e = refl
none-is (Some n) e = absurd (false≢true (sym e))

-- ---- what is kept of each key

pub numbered-none : (kept : KeyNumbers) → NoKeys kept → AreNumbered kept
numbered-none kept e key =
    (λ i. number_among (lookup (is_at (nat_cmp (slot_of key))) (e.firsts i)) (e.keys i) (lookup (is_at (hashed_key_cmp key)) (e.others i)) key)
    ∙ sym (ap (index_of key) e.keys)

module _ (old new : KeyNumbers) (k : LinkKey) (so : AreNumbered old) (keys : new.keys.items ≡ old.keys.items ++ k ∷ [])
    (absent : index_of k old.keys.items ≡ None) where
  -- the number of each key, where that of this one and of each other is what it should be
  each : (number_by (first_at new.firsts k) new k ≡ Some (length old.keys.items))
      → ((q : LinkKey) → is_key q k ≡ false → number_by (first_at new.firsts q) new q ≡ number_by (first_at old.firsts q) old q)
      → AreNumbered new
  each own others q = at (is_key q k) refl
    where
      at : (a : Bool) → is_key q k ≡ a → number_by (first_at new.firsts q) new q ≡ index_of q new.keys.items
      at true s = subst (λ (x : LinkKey). number_by (first_at new.firsts x) new x ≡ index_of x new.keys.items) (sym (one_key q k s))
          (own ∙ sym (ap (index_of k) keys ∙ index-new k old.keys.items absent))
      at false s = others q s ∙ so q ∙ sym (ap (index_of q) keys ∙ index-other q k old.keys.items s)

  -- the slot of the key has its number
  pub numbered-first : first_at old.firsts k ≡ None → new.others ≡ old.others
      → ((s : ℕ) → lookup (is_at (nat_cmp s)) new.firsts.entries
      ≡ cond (is_at (nat_cmp (slot_of k)) s) (Some (length old.keys.items)) (lookup (is_at (nat_cmp s)) old.firsts.entries))
      → AreNumbered new
  numbered-first vacant others firsts = each
      ((λ i. number_among (mine i) (keys i) (other_at new.others k) k) ∙ among-first k old.keys.items (other_at new.others k))
      (λ q s. other q s (is_at (nat_cmp (slot_of k)) (slot_of q)) refl)
    where
      mine : first_at new.firsts k ≡ Some (length old.keys.items)
      mine = firsts (slot_of k)
          ∙ ap (λ (r : Bool). cond r (Some (length old.keys.items)) (first_at old.firsts k)) (ap is_eq (tied_itself nat_cmp_total (slot_of k)))

      other : (q : LinkKey) → is_key q k ≡ false → (c : Bool) → is_at (nat_cmp (slot_of k)) (slot_of q) ≡ c
          → number_by (first_at new.firsts q) new q ≡ number_by (first_at old.firsts q) old q
      other q s true e =
          let slots : slot_of k ≡ slot_of q = nat_cmp-IsAntisymmetric (slot_of k) (slot_of q) (is_equal (nat_cmp (slot_of k) (slot_of q)) e) in
          let first : first_at new.firsts q ≡ Some (length old.keys.items) = firsts (slot_of q)
          ∙ ap (λ (r : Bool). cond r (Some (length old.keys.items)) (first_at old.firsts q)) e in
          let before : first_at old.firsts q ≡ None = ap (λ (m : ℕ). lookup (is_at (nat_cmp m)) old.firsts.entries) (sym slots) ∙ vacant in
          (λ i. number_among (first i) (keys i) (other_at (others i) q) q)
          ∙ among-shared q k old.keys.items (other_at old.others q) s
          ∙ ap (λ (o : Option ℕ). number_among o old.keys.items (other_at old.others q) q) (sym before)
      other q s false e =
          let first : first_at new.firsts q ≡ first_at old.firsts q = firsts (slot_of q)
          ∙ ap (λ (r : Bool). cond r (Some (length old.keys.items)) (first_at old.firsts q)) e in
          (λ i. number_among (first i) (keys i) (other_at (others i) q) q)
          ∙ among-other q k old.keys.items (first_at old.firsts q) (other_at old.others q) s

  -- its number stands beside those of slots
  pub numbered-beside : new.firsts ≡ old.firsts
      → ((q : LinkKey) → other_at new.others q ≡ cond (is_key k q) (Some (length old.keys.items)) (other_at old.others q))
      → AreNumbered new
  numbered-beside firsts others = each
      ((λ i. number_among (first_at (firsts i) k) (keys i) (mine i) k)
      ∙ among-beside k old.keys.items (first_at old.firsts k) (other_at old.others k) (so k ∙ absent))
      (λ q s. (λ i. number_among (first_at (firsts i) q) (keys i) (other q s i) q)
      ∙ among-other q k old.keys.items (first_at old.firsts q) (other_at old.others q) s)
    where
      mine : other_at new.others k ≡ Some (length old.keys.items)
      mine = others k ∙ ap (λ (r : Bool). cond r (Some (length old.keys.items)) (other_at old.others k)) (key_itself k)

      other : (q : LinkKey) → is_key q k ≡ false → other_at new.others q ≡ other_at old.others q
      other q s = others q
          ∙ ap (λ (r : Bool). cond r (Some (length old.keys.items)) (other_at old.others q)) (apart_back q k (is_key k q) refl s)

-- ---- keys with one more

new_cases : (k : LinkKey) (ks new : List LinkKey) (o : Option ℕ) → index_of k ks ≡ o → new ≡ with_new o k ks → (m : ℕ) → index_of k new ≡ Some m
    → (n : ℕ) → n ≡ length ks → (b : Bool) → (b ≡ true → m ≡ n) → (b ≡ false → m ≡ n → ⊥) → new ≡ cond b (ks ++ k ∷ []) ks
new_cases k ks new None e is m at n len true f g = is
new_cases k ks new None e is m at n len false f g =
    absurd (g refl (same_Some m n (sym at ∙ ap (index_of k) is ∙ index-new k ks e ∙ ap Some (sym len))))
new_cases k ks new (Some l) e is m at n len true f g =
    let within : l < length ks = index-within k ks l e in
    let same : l ≡ m = same_Some l m (sym e ∙ sym (ap (index_of k) is) ∙ at) in
    let whole : m ≡ n = f refl in
    absurd (omega (arith, within, same, whole, len))
new_cases k ks new (Some l) e is m at n len false f g = is

-- keys with one more have a new one exactly where its number is how many there were
pub with-key-is : (k : LinkKey) (ks new : List LinkKey) → new ≡ with_key k ks → (m : ℕ) → index_of k new ≡ Some m
    → (n : ℕ) → n ≡ length ks → (b : Bool) → (b ≡ true → m ≡ n) → (b ≡ false → m ≡ n → ⊥) → new ≡ cond b (ks ++ k ∷ []) ks
with-key-is k ks new is m at n len b f g = new_cases k ks new (index_of k ks) refl is m at n len b f g

-- keys keep their numbers
pub stay-last : (k : LinkKey) (ks : List LinkKey) (q : LinkKey) (n : ℕ) → index_of q ks ≡ Some n → index_of q (ks ++ k ∷ []) ≡ Some n
stay-last k ks q n h = index-last q k ks ∙ ap (λ (o : Option ℕ). last_or o (is_key q k) (length ks)) h
