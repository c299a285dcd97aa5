-- Look-ups of the members of a key, or of its link, at or above the least and past one of them.
use Rattle.std.proofs.Common.{◌≡◌, ◌≤◌, ℕ, arith, Bool, true, false, List, Option, Some, None, refl, sym, ap, ◌∙◌, subst, find}
use Rattle.std.specs.Prelude.{◌==◌, IfSome}
use Rattle.std.specs.declared.cmp.Ordering.{Ordering}
use Rattle.std.specs.declared.cmp.Ordering.TheVariants.{Less, Equal, Greater}
use Rattle.std.specs.Ordering.{is_lt, is_le, is_eq, nat_cmp, ordering_then}
use Rattle.std.specs.Cmp.{IsTotalOrder, nat_cmp_is, ranked, tied_itself}
use Rattle.std.proofs.lemmas.Bool.{false≢true, eq-eqb, eqb-true}
use Rattle.std.proofs.lemmas.Bool.Decides.{nat_tests}
use Rattle.smq_kit.specs.declared.message_id.Key.{Key}
use Rattle.smq_kit.specs.declared.message_id.Key.TheVariants.{Number, Text}
use Rattle.smq_kit.specs.declared.names.LinkId.{LinkId}
use Rattle.smq_kit.specs.contracts.message_id.KeyOrd.TheImpl as key_ord
use Rattle.smq_kit.specs.Hashes.{hash_of}
use Rattle.smq_kit.specs.declared.link_key.LinkKey.{LinkKey}
use Rattle.smq_kit.specs.declared.place.Place.{Place}
use Rattle.smq_kit.specs.Orders.{kept_place_cmp, least_place}
use Rattle.smq_kit.specs.HashedKeys.{hashed_key_cmp}
use Rattle.smq_kit.specs.LinkKeys.{link_key_cmp, same_key}
use Rattle.smq_kit.proofs.Comparisons.{is_equal, le_zero, then_le}
use Rattle.smq_kit.proofs.LinkKeyOrders.{link_keys_exact, link_keys_total}
use Rattle.smq_kit.proofs.HashedKeyOrders.{hashed-same, hashed_keys_total, one_hashed_key}
use Rattle.smq_kit.proofs.PlaceOrders.{least-kept}
use Rattle.smq_shelf.specs.Walks.{stands_after}
use Rattle.smq_shelf.proofs.Walks.{Narrows, Rises, found-passes, with_first}
use Rattle.smq_group.specs.declared.member.Member.{Member}
use Rattle.smq_group.specs.within.Orders.{kept_member_cmp}
use Rattle.smq_group.specs.within.Walked.{is_like, of_part}

-- ---- keys

key_less : (r s : Ordering) → is_le (ordering_then r s) ≡ true → is_eq r ≡ false → r ≡ Less
key_less Less s h e = refl
key_less Equal s h e = absurd (false≢true (sym e))
key_less Greater s h e = absurd (false≢true h)

pub le_of_lt : (r : Ordering) → is_lt r ≡ true → is_le r ≡ true
le_of_lt Less h = refl
le_of_lt _ h = absurd (false≢true h)

less_on : (a b c : LinkKey) (r s : Ordering) → hashed_key_cmp b c ≡ r → hashed_key_cmp a b ≡ Less → ordering_then r s ≡ Less → hashed_key_cmp a c ≡ Less
less_on a b c Less s e l h = hashed_keys_total.trans a b c l e
less_on a b c Equal s e l h = ap (λ (x : LinkKey). hashed_key_cmp a x) (sym (one_hashed_key b c e)) ∙ l
less_on a b c Greater s e l h = absurd cc

-- above another key at or above a key, none is of that key
pub other_above : (a b c : LinkKey) (r s : Ordering) → is_le (ordering_then (hashed_key_cmp a b) r) ≡ true → same_key a b ≡ false → ordering_then (hashed_key_cmp b c) s ≡ Less → same_key a c ≡ false
other_above a b c r s h n l =
    sym (hashed-same a c) ∙ ap is_eq (less_on a b c (hashed_key_cmp b c) s refl (key_less (hashed_key_cmp a b) r h (hashed-same a b ∙ n)) l)

pub kept_equal : (a b : LinkKey) → same_key a b ≡ true → hashed_key_cmp a b ≡ Equal
kept_equal a b h = is_equal (hashed_key_cmp a b) (hashed-same a b ∙ h)

-- ---- links rise with their members

rises_at : (m n : ℕ) (r s : Ordering) → is_le (ordering_then (ordering_then (nat_cmp m n) r) s) ≡ true → m ≤ n
rises_at m n r s h = by (nat_cmp m n) refl
  where
    by : (o : Ordering) → nat_cmp m n ≡ o → m ≤ n
    by Greater e = absurd (false≢true (sym (ap (λ o. is_le (ordering_then (ordering_then o r) s)) e) ∙ h))
    by o e = let f = ranked m n o (sym e) in omega (arith, f)

link-rises : (k j : Member) → is_le (kept_member_cmp k j) ≡ true → k.key.link.0 ≤ j.key.link.0
link-rises k j h = rises_at k.key.link.0 j.key.link.0 (ordering_then (nat_cmp (hash_of k.key.key) (hash_of j.key.key)) ((key_ord.ghosts).cmp k.key.key j.key.key)) (kept_place_cmp k.place j.place) h

link_past : (link : ℕ) (a e f : Member) → (a.key.link.0 == link) ≡ true → is_le (kept_member_cmp a e) ≡ true → (e.key.link.0 == link) ≡ false → kept_member_cmp e f ≡ Less → (f.key.link.0 == link) ≡ false
link_past link a e f own g n l = let there = link-rises a e g in let rises = link-rises e f (ap is_le l) in grind (arith, nat_tests, own, n, there, rises)

key_least : (k : Key) → is_le ((key_ord.ghosts).cmp (Number 0) k) ≡ true
key_least (Number n) = le_zero n
key_least (Text t) = refl

-- ---- members of a key, or of its link

abbrev pub member_at : LinkKey → Place → Member
member_at key place = record { key = key; place = place }

-- each member of a link is at or above the link's least
link_first : (link : LinkId) (m : Member) → (m.key.link.0 == link.0) ≡ true → is_le (kept_member_cmp (member_at (record { link = link; key = Number 0 }) least_place) m) ≡ true
link_first link m on =
    then_le _ _ (then_le _ _ (ap is_le (sym (nat_cmp_is link.0 m.key.link.0 Equal (sym (eqb-true m.key.link.0 link.0 on)))))
    (then_le _ _ (le_zero (hash_of m.key.key)) (key_least m.key.key)))
    (least-kept m.place)

module _ (key : LinkKey) where
  like_first : (by_link : Bool) → (by_link ≡ true → key.key ≡ Number 0) → (m : Member) → is_like by_link key m.key ≡ true → is_le (kept_member_cmp (member_at key least_place) m) ≡ true
  like_first true least m h = ap (λ (k : Key). is_le (kept_member_cmp (member_at (record { link = key.link; key = k }) least_place) m)) (least refl) ∙ link_first key.link m h
  like_first false least m h = ap (λ r. is_le (ordering_then r (kept_place_cmp least_place m.place))) (kept_equal key m.key h) ∙ least-kept m.place

  -- above one that isn't among them, which is above one that is, none is
  past : (by_link : Bool) (a e f : Member) → is_like by_link key a.key ≡ true → is_le (kept_member_cmp a e) ≡ true → is_like by_link key e.key ≡ false → kept_member_cmp e f ≡ Less → is_like by_link key f.key ≡ false
  past true a e f own g n l = link_past key.link.0 a e f own g n l
  past false a e f own g n l =
      let same : key ≡ a.key = link_keys_exact key a.key (is_equal (link_key_cmp key a.key) own) in
      ap (λ (k : LinkKey). same_key k f.key) same
      ∙ other_above a.key e.key f.key (kept_place_cmp a.place e.place) (kept_place_cmp e.place f.place) g (ap (λ (k : LinkKey). same_key k e.key) (sym same) ∙ n) l

  own_like : (by_link : Bool) → is_like by_link key key ≡ true
  own_like true = eq-eqb key.link.0 key.link.0 refl
  own_like false = ap is_eq (tied_itself link_keys_total key)

module _ {V : Type 0} (by_link : Bool) (key : LinkKey) where
  abbrev of : Member × Option V → Bool
  of e = of_part by_link key e

  abbrev at_or_above : LinkKey → Member × Option V → Bool
  at_or_above k e = is_le (kept_member_cmp (member_at k least_place) e.0)

  pub first-narrows : (k : LinkKey) → k ≡ key → (by_link ≡ true → key.key ≡ Number 0) → Narrows kept_member_cmp (at_or_above k) of of
  first-narrows k same least = subst (λ l. Narrows kept_member_cmp (at_or_above l) of of) (sym same) (record {
    both = λ e. with_first (at_or_above key e) (of e) (like_first key by_link least e.0);
    up = λ e f h n l. past key by_link (member_at key least_place) e.0 f.0 (own_like key by_link) h n l;
  })

  pub next-narrows : (after : Member) → is_like by_link key after.key ≡ true → Narrows kept_member_cmp (λ (e : Member × Option V). is_lt (kept_member_cmp after e.0)) of (stands_after kept_member_cmp of after)
  next-narrows after own = record {
    both = λ e. refl;
    up = λ e f g n l. past key by_link after e.0 f.0 own (le_of_lt (kept_member_cmp after e.0) g) n l;
  }

-- what a walk finds is one of those that it is of
pub found-of : {K X : Type 0} {R : K → K → Ordering} (o : IsTotalOrder R) (of q : K × X → Bool) (es : List (K × X)) (next : Option (K × X)) → Rises o of q → next ≡ find q es → IfSome next (λ e. of e ≡ true)
found-of o of q es None r h = tt
found-of o of q es (Some e) r h = r.within e (found-passes q es e (sym h))
