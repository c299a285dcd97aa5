-- The submits of a key by their number: as many as its outlook says, and a newcomer that is the only one.
use Rattle.std.proofs.Common.{ℕ, ◌≡◌, ◌≤◌, ◌<◌, ◌^◌, ◌+◌, ◌-◌, ◌++◌, length, Bool, true, false, cond, List, [], ◌∷◌, Some, None, refl, sym, ap, ◌∙◌, map, filter, arith}
use Rattle.std.specs.Prelude.{◌==◌, ◌&&◌, not, min, count_by, Option}
use Rattle.std.specs.Option.{option_or}
use Rattle.std.specs.List.Sorted.{IsStrictlySortedBy}
use Rattle.std.specs.Map.{keys_of, lookup, remove_entry}
use Rattle.std.specs.BTreeMap.{is_at, insert_entry}
use Rattle.std.specs.FinMap.{from_entries, get, get-from_entries, insert}
use Rattle.std.proofs.lemmas.Bool.{cond_both, eqb-true, eqb-false, false≢true, false_from_ne_true}
use Rattle.std.proofs.lemmas.List.{nil_from_length}
use Rattle.smq_kit.specs.declared.place.Place.{Place}
use Rattle.smq_kit.specs.declared.link_key.LinkKey.{LinkKey}
use Rattle.smq_kit.specs.Maps.{number_of}
use Rattle.smq_kit.specs.Orders.{place_cmp}
use Rattle.smq_kit.specs.LinkKeys.{same_key}
use Rattle.smq_kit.proofs.Comparisons.{is_equal}
use Rattle.smq_kit.proofs.PlaceOrders.{places_total}
use Rattle.smq_group.specs.declared.change.Change.{Change}
use Rattle.smq_shelf.specs.Places.{content_of}
use Rattle.smq_shelf.proofs.Changes.{lookup-insert_entry}
use Rattle.smq_group.specs.declared.changes.Added.TheVariants as put
use Rattle.smq_group.specs.declared.changes.Turn.{Turn}
use Rattle.smq_group.specs.declared.changes.Turn.TheVariants.{Each, Deciders, Newcomer}
use Rattle.smq_group.specs.declared.member.Member.{Member}
use Rattle.smq_group.specs.declared.member.Candidate.{Candidate}
use Rattle.smq_group.specs.declared.member.ReceiptFacts.{ReceiptFacts}
use Rattle.smq_group.specs.declared.group_summary.Group.{Group}
use Rattle.smq_group.specs.declared.group_summary.GroupSummary.{GroupSummary}
use Rattle.smq_group.specs.Matching.{GroupedReceipt, matches}
use Rattle.smq_group.specs.within.KeyLaws.{one_member}
use Rattle.smq_group.specs.within.Orders.{kept_member_cmp}
use Rattle.smq_group.specs.within.Outlooks.{one_more, outlook_at}
use Rattle.smq_group.specs.within.Stored.{AreStored, StandsOnce, by_place, grouping_in, member_of, receipt_value, received, submit_value}
use Rattle.smq_group.specs.within.Told.{IsKnown, sole_submit_left, same_decider, submit_changes, changes_of_submits, turn_between}
use Rattle.smq_group.specs.within.Walked.{members_in, of_key, only_of, placed}
use Rattle.smq_group.proofs.Earliest.{own_key}
use Rattle.smq_group.proofs.Placing.{members_total, not_none, once-insert, once-remove, sorted_none, sorted_one}
use Rattle.smq_group.proofs.Storing.{absent, counted-less, counted-more, empty_entries, from-cons, number-more, received-more}
use Rattle.smq_group.proofs.StoringReceipts.{has-less, has-more}
use Rattle.smq_group.proofs.Walking.{members-fit}

-- ---- the only submit of a key

module _ (key : LinkKey) (place : Place) (v : Bool) where
  abbrev sought : Member → Bool
  sought = is_at (kept_member_cmp (member_of key place))

  is_sought : (m : Member) → sought m ≡ true → member_of key place ≡ m
  is_sought m t = one_member (member_of key place) m (is_equal (kept_member_cmp (member_of key place) m) t)

  of_its_key : (m : Member) → sought m ≡ true → same_key key m.key ≡ true
  of_its_key m t = ap (λ (k : Member). same_key key k.key) (sym (is_sought m t)) ∙ own_key key

  past : (e : Member × Bool) (es : List (Member × Bool)) → same_key key e.0.key ≡ false → lookup sought (e ∷ es) ≡ Some v → lookup sought es ≡ Some v
  past e es s there =
      let other : sought e.0 ≡ false = false_from_ne_true (sought e.0) (λ t. false≢true (sym s ∙ of_its_key e.0 t)) in
      sym (ap (λ b. cond b (Some e.1) (lookup sought es)) other) ∙ there

  held : (es : List (Member × Bool)) → lookup sought es ≡ Some v → 1 ≤ length (members_in key es)
  held [] there = absurd cc
  held (e ∷ es) there = cond_both (same_key key e.0.key) (e ∷ filter (of_key key) es) (filter (of_key key) es) (λ xs. 1 ≤ length (map placed xs))
      (λ _. omega arith) (λ s. held es (past e es s there))

  -- a member that is there, of a key that has one alone, is that one
  pub only : (es : List (Member × Bool)) → lookup sought es ≡ Some v → length (members_in key es) ≡ 1 → members_in key es ≡ (place, v) ∷ []
  only [] there one = absurd cc
  only (e ∷ es) there one =
      cond_both (same_key key e.0.key) (e ∷ filter (of_key key) es) (filter (of_key key) es) (λ xs. length (map placed xs) ≡ 1 → map placed xs ≡ (place, v) ∷ [])
      (λ _ n. cond_both (sought e.0) (Some e.1) (lookup sought es) (λ o. o ≡ Some v → (e.0.place, e.1) ∷ members_in key es ≡ (place, v) ∷ [])
      (λ t is.
      let at : e.0.place ≡ place = ap (λ (k : Member). k.place) (sym (is_sought e.0 t)) in
      let value : e.1 ≡ v = cc in
      let none : members_in key es ≡ [] = nil_from_length (members_in key es) (omega (arith, n)) in
      λ i. (at i, value i) ∷ none i)
      (λ _ is. let some = held es is in absurd (omega (arith, n, some))) there)
      (λ s. only es (past e es s there)) one

-- ---- the place of the only one

-- of other than one there is no only one
none-alone : {V : Type 0} (ms : List (Place × V)) → (length ms ≡ 1 → ⊥) → only_of ms ≡ None
none-alone (m ∷ []) n = absurd (n refl)
none-alone _ n = refl

one-alone : {V : Type 0} (ms : List (Place × V)) → length ms ≡ 1 → (p : Place) × (only_of ms ≡ Some p)
one-alone (m ∷ []) n = (m.0, refl)
one-alone _ n = absurd (omega (arith, n))

pub known-is : (o : Option Place) (ms : List (Place × Bool)) → o ≡ only_of ms → IsKnown o ms
known-is None ms e = tt
known-is (Some p) ms e = sym e

-- it stands alone
pub known-by_place : (o : Option Place) (ms : List (Place × Bool)) (place : Place) → IsKnown o ms → o ≡ Some place → IsStrictlySortedBy place_cmp (keys_of ms)
known-by_place (Some p) [] place k e = sorted_none
known-by_place (Some p) (m ∷ []) place k e = sorted_one m.0
known-by_place _ _ place k e = absurd cc

left-none : (n : ℕ) (cs : List Change) → (n == 1) ≡ false → sole_submit_left n cs ≡ None
left-none n [] t = refl
left-none n (c ∷ cs) t = ap (λ b. cond b (Some c.place) None) t

-- where a receipt goes it is as before
pub only-stays : (o : Option Place) (ms : List (Place × Bool)) (n : ℕ) (cs : List Change) → o ≡ only_of ms → n ≡ length ms → option_or o (sole_submit_left n cs) ≡ only_of ms
only-stays (Some p) ms n cs e l = e
only-stays None ms n cs e l = by (n == 1) refl
  where
    by : (b : Bool) → (n == 1) ≡ b → sole_submit_left n cs ≡ only_of ms
    by false t = left-none n cs t ∙ e
    by true t = let one = one-alone ms (sym l ∙ eqb-true n 1 t) in absurd (not_none one.0 (only_of ms) (sym e) one.1)

-- where a submit goes and one is left, that is told first
pub only-told : (b a : GroupSummary) (ms : List (Place × Bool)) (rest changes : List Change) → b.matches ≡ a.matches + 1 → a.matches ≡ length ms → changes ≡ changes_of_submits (turn_between b a) a put.Nothing ms ++ rest
    → sole_submit_left a.matches changes ≡ only_of ms
only-told b a ms rest changes less count told = by (a.matches == 1) refl
  where
    first : (xs : List (Place × Bool)) → length xs ≡ 1 → (a.matches == 1) ≡ true → sole_submit_left a.matches (submit_changes a xs ++ rest) ≡ only_of xs
    first (m ∷ []) n t = ap (λ b. cond b (Some m.0) None) t
    first _ n t = absurd (omega (arith, n))

    by : (u : Bool) → (a.matches == 1) ≡ u → sole_submit_left a.matches changes ≡ only_of ms
    by false t = left-none a.matches changes t ∙ sym (none-alone ms (λ one. eqb-false a.matches 1 t (count ∙ one)))
    by true t =
        let one : a.matches ≡ 1 = eqb-true a.matches 1 t in
        let two : b.matches ≡ 2 = omega (arith, less, one) in
        let turn : turn_between b a ≡ Each = ap (λ c. cond (not c) Each (cond ((a.matches == 1) && not (same_decider b a)) Deciders Newcomer)) (λ i. min (two i) 2 == min (one i) 2) in
        ap (sole_submit_left a.matches) (told ∙ ap (λ (x : Turn). changes_of_submits x a put.Nothing ms ++ rest) turn) ∙ first ms (sym count ∙ one) t

-- ---- how many submits a key has

module _ {V W : Type 0} (value : LinkKey → V → W) (key : LinkKey) (test : W → Bool) (keyed : (k : LinkKey) (v : V) → test (value k v) ≡ same_key key k) where
  -- how many members pass where they are kept by place
  abbrev number_in : List (Member × V) → ℕ
  number_in es = number_of test (from_entries {R = place_cmp} (map (by_place value) es))

  number-listed : (es : List (Member × V)) → StandsOnce value es → number_in es ≡ length (members_in key es)
  number-listed [] once = ap (λ (es : List (Place × W)). count_by test (map (λ e. e.1) es)) empty_entries
  number-listed (e ∷ es) once =
      let rest = number-listed es once.1 in
      let more = λ (b : Bool) (t : same_key key e.0.key ≡ b).
      number-more test (from_entries (map (by_place value) es)) (value e.0.key e.1) e.0.place b (get-from_entries places_total (map (by_place value) es) e.0.place ∙ once.0) (keyed e.0.key e.1 ∙ t) in
      ap (number_of test) (from-cons (by_place value e) (map (by_place value) es))
      ∙ cond_both (same_key key e.0.key) (e ∷ filter (of_key key) es) (filter (of_key key) es)
      (λ xs. number_of {R = place_cmp} test (insert (from_entries (map (by_place value) es)) e.0.place (value e.0.key e.1)) ≡ length (map placed xs))
      (λ t. let n = more true t in omega (arith, n, rest)) (λ t. let n = more false t in omega (arith, n, rest))

submits-listed : (key : LinkKey) (s : List (Member × Bool)) → StandsOnce submit_value s → number_of (same_key key) (from_entries {R = place_cmp} (map (by_place submit_value) s)) ≡ length (members_in key s)
submits-listed key = number-listed submit_value key (same_key key) (λ k v. refl)

receipts-listed : (key : LinkKey) (r : List (Member × ReceiptFacts)) → StandsOnce receipt_value r → number_of (λ (y : GroupedReceipt). same_key key y.key) (from_entries {R = place_cmp} (map (by_place receipt_value) r)) ≡ length (members_in key r)
receipts-listed key = number-listed receipt_value key (λ (y : GroupedReceipt). same_key key y.key) (λ k v. refl)

-- a number of members of a key that grows by one is no greater than that of places
pub roomy : {V : Type 0} (key : LinkKey) (n count : ℕ) (places : List (Member × Option V)) (content : List (Member × V)) → n + 1 ≡ length (members_in key content) → content ≡ content_of places
    → count ≡ length places → count < 2 ^ 63 → one_more n ≡ n + 1
roomy key n count places content more shown is small = let fit = members-fit false key places content shown in omega (arith, more, fit, is, small)

module _ (s : List (Member × Bool)) (r : List (Member × ReceiptFacts)) (i : List (Candidate × Bool)) (o : List (LinkKey × Group)) (key : LinkKey) (before : GroupSummary) (st : AreStored s r i o) (kept : before ≡ outlook_at key o) where
  known : before.matches ≡ matches (grouping_in s r) key
  known = ap (λ (x : GroupSummary). x.matches) (kept ∙ st.indexed.outlook key)

  known_receipts : before.receipts ≡ received (grouping_in s r) key
  known_receipts = ap (λ (x : GroupSummary). x.receipts) (kept ∙ st.indexed.outlook key)

  -- as many as its outlook says
  pub counted : before.matches ≡ length (members_in key s)
  counted = known ∙ submits-listed key s st.submits_once

  pub received-is : before.receipts ≡ length (members_in key r)
  received-is = known_receipts ∙ receipts-listed key r st.receipts_once

  -- with one submit more
  pub counted-add : (place : Place) (s' : List (Member × Bool)) → get (grouping_in s r).submits place ≡ None → s' ≡ insert_entry kept_member_cmp s (member_of key place) true → before.matches + 1 ≡ length (members_in key s')
  counted-add place s' none is =
      let gone = absent s r key place none in
      let more = counted-more s r i o o key place gone key true (own_key key) in
      let listed = submits-listed key (insert_entry kept_member_cmp s (member_of key place) true) (once-insert submit_value (member_of key place) true s gone st.submits_once) in
      let same = ap (λ (x : List (Member × Bool)). length (members_in key x)) is in
      let was = known in
      omega (arith, more, listed, same, was)

  -- the only submit then
  pub only-more : (place : Place) (s' : List (Member × Bool)) → get (grouping_in s r).submits place ≡ None → s' ≡ insert_entry kept_member_cmp s (member_of key place) true
      → cond (before.matches == 0) (Some place) None ≡ only_of (members_in key s')
  only-more place s' none is = by (before.matches == 0) refl
    where
      count : before.matches + 1 ≡ length (members_in key s')
      count = counted-add place s' none is

      by : (b : Bool) → (before.matches == 0) ≡ b → cond b (Some place) None ≡ only_of (members_in key s')
      by true t =
          let zero = eqb-true before.matches 0 t in
          let all = count in
          let there : lookup (is_at (kept_member_cmp (member_of key place))) s' ≡ Some true =
          ap (lookup (is_at (kept_member_cmp (member_of key place)))) is ∙ lookup-insert_entry members_total (member_of key place) true s in
          sym (ap (λ (ms : List (Place × Bool)). only_of ms) (only key place true s' there (omega (arith, zero, all))))
      by false t = sym (none-alone (members_in key s') (λ one. let all = count in eqb-false before.matches 0 t (omega (arith, one, all))))

  -- with one submit less
  pub counted-remove : (place : Place) (s' : List (Member × Bool)) → get (grouping_in s r).submits place ≡ Some key → s' ≡ remove_entry (is_at (kept_member_cmp (member_of key place))) s → before.matches - 1 ≡ length (members_in key s')
  counted-remove place s' there is =
      let less = counted-less s r i o o key place there st key true (own_key key) in
      let listed = submits-listed key (remove_entry (is_at (kept_member_cmp (member_of key place))) s) (once-remove submit_value (is_at (kept_member_cmp (member_of key place))) s st.submits_once) in
      let same = ap (λ (x : List (Member × Bool)). length (members_in key x)) is in
      let was = known in
      omega (arith, less, listed, same, was)

  -- with one receipt more
  pub received-add : (place : Place) (said : ReceiptFacts) (r' : List (Member × ReceiptFacts)) → get (grouping_in s r).receipts place ≡ None → r' ≡ insert_entry kept_member_cmp r (member_of key place) said → before.receipts + 1 ≡ length (members_in key r')
  received-add place said r' none is =
      let gone = sym (get-from_entries places_total (map (by_place receipt_value) r) place) ∙ none in
      let r1 = insert_entry kept_member_cmp r (member_of key place) said in
      let more = received-more (grouping_in s r) (grouping_in s r1) place (receipt_value key said) key true (has-more s r i i o o key place said none) (own_key key) in
      let listed = receipts-listed key r1 (once-insert receipt_value (member_of key place) said r gone st.receipts_once) in
      let same = ap (λ (x : List (Member × ReceiptFacts)). length (members_in key x)) is in
      let was = known_receipts in
      omega (arith, more, listed, same, was)

  -- with one receipt less
  pub received-remove : (place : Place) (said : ReceiptFacts) (r' : List (Member × ReceiptFacts)) → get (grouping_in s r).receipts place ≡ Some (receipt_value key said) → lookup (is_at (kept_member_cmp (member_of key place))) r ≡ Some said
      → r' ≡ remove_entry (is_at (kept_member_cmp (member_of key place))) r → before.receipts ≡ length (members_in key r') + 1
  received-remove place said r' there found is =
      let r1 = remove_entry (is_at (kept_member_cmp (member_of key place))) r in
      let less = received-more (grouping_in s r1) (grouping_in s r) place (receipt_value key said) key true (has-less s r i i o o key place said st there found) (own_key key) in
      let listed = receipts-listed key r1 (once-remove receipt_value (is_at (kept_member_cmp (member_of key place))) r st.receipts_once) in
      let same = ap (λ (x : List (Member × ReceiptFacts)). length (members_in key x)) is in
      let was = known_receipts in
      omega (arith, less, listed, same, was)
