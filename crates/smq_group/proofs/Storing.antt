-- The four maps hold a grouping: none at first, and with one submit more or less.
use Rattle.std.proofs.Common.{ℕ, ◌≡◌, ◌+◌, ◌-◌, Bool, true, false, cond, List, [], ◌∷◌, Option, Some, None, refl, sym, ap, ◌∙◌, arith}
use Rattle.std.specs.Prelude.{map, filter, count_by, option_map, ◌&&◌, not, IsSome, is_some}
use Rattle.std.specs.List.{reduce}
use Rattle.std.specs.declared.cmp.Ordering.TheVariants.{Less, Equal, Greater}
use Rattle.std.specs.Ordering.{eq_by_cmp, is_eq, match_ordering}
use Rattle.std.specs.Map.{lookup, remove_entry}
use Rattle.std.specs.BTreeMap.{is_at, insert_entry}
use Rattle.std.specs.FinMap.{FinMap, entries, get, insert, remove, from_entries, get-from_entries, get-insert, same_map}
use Rattle.std.proofs.lemmas.List.Sums.{sum_by-cons}
use Rattle.smq_kit.specs.declared.place.Place.{Place}
use Rattle.smq_kit.specs.declared.link_key.LinkKey.{LinkKey}
use Rattle.smq_kit.specs.Orders.{place_cmp}
use Rattle.smq_kit.specs.Maps.{number_of, share}
use Rattle.smq_kit.specs.HashedKeys.{hashed_key_cmp}
use Rattle.smq_kit.specs.LinkKeys.{same_key}
use Rattle.smq_kit.proofs.PlaceOrders.{places_total, places_exact}
use Rattle.smq_kit.proofs.HashedKeyOrders.{hashed-same}
use Rattle.smq_kit.proofs.MapLemmas as maps
use Rattle.smq_group.specs.declared.member.Member.{Member}
use Rattle.smq_group.specs.declared.member.Candidate.{Candidate}
use Rattle.smq_group.specs.declared.member.ReceiptFacts.{ReceiptFacts}
use Rattle.smq_group.specs.declared.group_summary.Group.{Group}
use Rattle.smq_group.specs.declared.group_summary.GroupSummary.{GroupSummary}
use Rattle.smq_group.specs.Matching.{Grouping, GroupedReceipt, matches, candidates, earlier}
use Rattle.smq_group.specs.Groups.{with_submit, without_submit}
use Rattle.smq_group.specs.within.KeyLaws.{one_member}
use Rattle.smq_group.specs.within.Orders.{kept_member_cmp}
use Rattle.smq_group.specs.within.Outlooks.{an_outlook, group_at, is_decided_by, only_at, outlook_at, no_outlook}
use Rattle.smq_group.specs.within.Stored.{grouping_in, submit_value, is_candidate, earliest_at, outlook_in, received, AreStored, by_place, member_of, waits}
use Rattle.smq_group.specs.within.Walked.{members_in, of_key, only_of, placed}
use Rattle.smq_group.proofs.Earliest.{HasMore, one_key, own_key}
use Rattle.smq_group.proofs.Placing.{at, found, with-member, without-member, once-insert, once-remove}

-- ---- nothing

pub empty_entries : {X : Type 0} → entries (from_entries {X = X} {R = place_cmp} []) ≡ []
empty_entries = maps.entries-from_entries places_total places_exact [] tt

none_candidate : (c : Candidate) → cond (waits (grouping_in [] []) c) (Some true) None ≡ None
none_candidate c =
    ap (λ (r : Option GroupedReceipt). cond (is_candidate c r && not (is_decided_by (outlook_in (grouping_in [] []) c.key) c.place)) (Some true) None)
    (get-from_entries places_total [] c.place)

pub none-stored : AreStored [] [] [] []
none-stored = record {
  submits_once = tt;
  receipts_once = tt;
  indexed = record {
    candidates = λ c. sym (none_candidate c);
    outlook = λ key. sym (none_outlook key);
  };
  only = λ key. refl;
}
  where
    none_outlook : (key : LinkKey) → outlook_in (grouping_in [] []) key ≡ no_outlook
    none_outlook key =
        let m : number_of (same_key key) (grouping_in [] []).submits ≡ 0 = ap (λ es. count_by (same_key key) (map (λ e. e.1) es)) empty_entries in
        let d : option_map earliest_at (reduce earlier (candidates (grouping_in [] []) key)) ≡ None =
        ap (λ (es : List (Place × GroupedReceipt)). option_map earliest_at (reduce earlier (map (λ e. (e.1.moment, e.0)) (filter (λ e. same_key key e.1.key && e.1.decides) es)))) empty_entries in
        let n : received (grouping_in [] []) key ≡ 0 =
        ap (λ (es : List (Place × GroupedReceipt)). count_by (λ (r : GroupedReceipt). same_key key r.key) (map (λ e. e.1) es)) empty_entries in
        λ i. an_outlook (m i) (n i) (d i)

share_of : {X : Type 0} (test : X → Bool) (x : X) (b : Bool) → test x ≡ b → share test (Some x) ≡ cond b 1 0
share_of test x b e = sum_by-cons (λ y. cond (test y) 1 0) x [] ∙ ap (λ b. cond b 1 0 + count_by test []) e ∙ one b
  where
    one : (b : Bool) → cond b 1 0 + 0 ≡ cond b 1 0
    one true = refl
    one false = refl

-- what is kept of each key is what a grouping has of it, where that changed at one key alone, of which it is kept anew
pub anew : {A : Type 0} (part : Group → A) (was is : LinkKey → A) (o o' : List (LinkKey × Group)) (key : LinkKey) → ((k : LinkKey) → part (group_at k o) ≡ was k) → ((k : LinkKey) → same_key k key ≡ false → is k ≡ was k)
    → part (group_at key o') ≡ is key → ((other : LinkKey) → is_at (hashed_key_cmp other) key ≡ false → group_at other o' ≡ group_at other o) → (k : LinkKey) → part (group_at k o') ≡ is k
anew part was is o o' key kept stays here elsewhere k = by (same_key k key) refl
  where
    by : (b : Bool) → same_key k key ≡ b → part (group_at k o') ≡ is k
    by true t = let same : k ≡ key = one_key k key t in ap (λ (x : LinkKey). part (group_at x o')) same ∙ here ∙ sym (ap is same)
    by false t = ap part (elsewhere k (hashed-same k key ∙ t)) ∙ kept k ∙ sym (stays k t)

-- the members of a key stay where one of another comes or goes
module _ (k : LinkKey) (m : Member) (other : same_key k m.key ≡ false) where
  foreign : (x : Member) → kept_member_cmp m x ≡ Equal → same_key k x.key ≡ false
  foreign x r = ap (λ (y : Member). same_key k y.key) (sym (one_member m x r)) ∙ other

module _ {V : Type 0} (k : LinkKey) (m : Member) (other : same_key k m.key ≡ false) where
  abbrev own : List (Member × V) → List (Member × V)
  own es = filter (of_key k) es

  with_first : (b : Bool) (e : Member × V) (xs ys : List (Member × V)) → map placed xs ≡ map placed ys → map placed (cond b (e ∷ xs) xs) ≡ map placed (cond b (e ∷ ys) ys)
  with_first true e xs ys h = ap (λ (ms : List (Place × V)). placed e ∷ ms) h
  with_first false e xs ys h = h

  pub members-put : (v : V) (es : List (Member × V)) → members_in k (insert_entry kept_member_cmp es m v) ≡ members_in k es
  members-put v [] = ap (λ b. map placed (cond b ((m, v) ∷ []) [])) other
  members-put v (e ∷ es) =
      elim (kept_member_cmp m e.0) as (λ r. kept_member_cmp m e.0 ≡ r → members_in k (match_ordering r ((m, v) ∷ e ∷ es) ((e.0, v) ∷ es) (e ∷ insert_entry kept_member_cmp es m v)) ≡ members_in k (e ∷ es)) [
        | Less ↦ λ r. ap (λ b. map placed (cond b ((m, v) ∷ own (e ∷ es)) (own (e ∷ es)))) other
        | Equal ↦ λ r. (λ i. map placed (cond (foreign k m other e.0 r i) ((e.0, v) ∷ own es) (own es))) ∙ sym (λ i. map placed (cond (foreign k m other e.0 r i) (e ∷ own es) (own es)))
        | Greater ↦ λ r. with_first (same_key k e.0.key) e (own (insert_entry kept_member_cmp es m v)) (own es) (members-put v es)
      ] refl

  pub members-out : (es : List (Member × V)) → members_in k (remove_entry (is_at (kept_member_cmp m)) es) ≡ members_in k es
  members-out [] = refl
  members-out (e ∷ es) =
      elim (kept_member_cmp m e.0) as (λ r. kept_member_cmp m e.0 ≡ r → members_in k (cond (is_eq r) es (e ∷ remove_entry (is_at (kept_member_cmp m)) es)) ≡ members_in k (e ∷ es)) [
        | Equal ↦ λ r. sym (λ i. map placed (cond (foreign k m other e.0 r i) (e ∷ own es) (own es)))
        | _ ↦ λ r. with_first (same_key k e.0.key) e (own (remove_entry (is_at (kept_member_cmp m)) es)) (own es) (members-out es)
      ] refl

-- ---- how many pass a test, with one more or less

module _ {X : Type 0} (test : X → Bool) (m : FinMap place_cmp X) (x : X) (place : Place) (b : Bool) where
  pub number-more : get m place ≡ None → test x ≡ b → number_of test (insert m place x) ≡ number_of test m + cond b 1 0
  number-more none e =
      let all = maps.count-set places_total places_exact test m place (Some x) in
      let here : share test (get m place) ≡ 0 = ap (share test) none in
      let more = share_of test x b e in
      omega (arith, all, here, more)

  pub number-less : get m place ≡ Some x → test x ≡ b → number_of test (remove m place) + cond b 1 0 ≡ number_of test m
  number-less there e =
      let all = maps.count-set places_total places_exact test m place None in
      let here : share test (get m place) ≡ cond b 1 0 = ap (share test) there ∙ share_of test x b e in
      omega (arith, all, here)

-- how many receipts have a key, with one more
module _ (g h : Grouping) (place : Place) (r : GroupedReceipt) (k : LinkKey) (b : Bool) where
  abbrev has_key : GroupedReceipt → Bool
  has_key y = same_key k y.key

  pub received-more : HasMore g h place r → same_key k r.key ≡ b → received h k ≡ received g k + cond b 1 0
  received-more more e =
      ap (number_of has_key) (same_map places_total places_exact h.receipts (insert g.receipts place r) (λ q. more.each q ∙ sym (get-insert places_total g.receipts place r q)))
      ∙ number-more has_key g.receipts r place b more.absent e

-- ---- a submit more

module _ (s : List (Member × Bool)) (r : List (Member × ReceiptFacts)) (i : List (Candidate × Bool)) (o o' : List (LinkKey × Group)) (key : LinkKey) (place : Place) where
  abbrev more : List (Member × Bool)
  more = insert_entry kept_member_cmp s (member_of key place) true

  abbrev less : List (Member × Bool)
  less = remove_entry (is_at (kept_member_cmp (member_of key place))) s

  -- the outlook of a key with so many submits
  abbrev outlook_of : LinkKey → ℕ → GroupSummary
  outlook_of k n = record (outlook_in (grouping_in s r) k) { matches = n }

  pub counted-more : at submit_value place s ≡ None → (k : LinkKey) (b : Bool) → same_key k key ≡ b → matches (grouping_in more r) k ≡ matches (grouping_in s r) k + cond b 1 0
  counted-more none k b e =
      ap (number_of (same_key k)) (with-member submit_value (member_of key place) true s none)
      ∙ number-more (same_key k) (grouping_in s r).submits key place b (get-from_entries places_total (map (by_place submit_value) s) place ∙ none) e

  -- with one submit more, where its key's outlook counts it and the others stay
  pub submit-stored : at submit_value place s ≡ None → AreStored s r i o
      → outlook_at key o' ≡ record (outlook_at key o) { matches = (outlook_at key o).matches + 1 } → only_at key o' ≡ only_of (members_in key more)
      → ((other : LinkKey) → is_at (hashed_key_cmp other) key ≡ false → group_at other o' ≡ group_at other o)
      → AreStored more r i o'
  submit-stored none st here alone elsewhere = record {
    submits_once = once-insert submit_value (member_of key place) true s none st.submits_once;
    receipts_once = st.receipts_once;
    indexed = record {
      candidates = st.indexed.candidates;
      outlook = anew (λ (x : Group). x.outlook) (outlook_in (grouping_in s r)) (outlook_in (grouping_in more r)) o o' key st.indexed.outlook
          (λ k t. let n = counted-more none k false t in let same : matches (grouping_in more r) k ≡ matches (grouping_in s r) k = omega (arith, n) in ap (outlook_of k) same)
          (here ∙ ap (λ (x : GroupSummary). record x { matches = x.matches + 1 }) (st.indexed.outlook key) ∙ ap (outlook_of key) (sym (counted-more none key true (own_key key))))
          elsewhere;
    };
    only = anew (λ (x : Group). x.only) (λ k. only_of (members_in k s)) (λ k. only_of (members_in k more)) o o' key st.only (λ k t. ap (λ (ms : List (Place × Bool)). only_of ms) (members-put k (member_of key place) t true s)) alone elsewhere;
  }

  -- a submit that is there is a member
  held : get (grouping_in s r).submits place ≡ Some key → (v : Bool) × (lookup (is_at (kept_member_cmp (member_of key place))) s ≡ Some v)
  held there =
      let f = found submit_value place key s (sym (get-from_entries places_total (map (by_place submit_value) s) place) ∙ there) in
      (f.v, ap (λ (k : LinkKey). lookup (is_at (kept_member_cmp (record { key = k; place = place }))) s) (sym f.is) ∙ f.there)

  pub counted-less : get (grouping_in s r).submits place ≡ Some key → AreStored s r i o → (k : LinkKey) (b : Bool) → same_key k key ≡ b
      → matches (grouping_in less r) k + cond b 1 0 ≡ matches (grouping_in s r) k
  counted-less there st k b e =
      ap (λ (m : FinMap place_cmp LinkKey). number_of (same_key k) m + cond b 1 0) (without-member submit_value (member_of key place) (held there).0 s st.submits_once (held there).1)
      ∙ number-less (same_key k) (grouping_in s r).submits key place b there e

  -- with one submit less, where its key's outlook counts it no more and the others stay
  pub submit-taken : get (grouping_in s r).submits place ≡ Some key → AreStored s r i o
      → outlook_at key o' ≡ record (outlook_at key o) { matches = (outlook_at key o).matches - 1 } → only_at key o' ≡ only_of (members_in key less)
      → ((other : LinkKey) → is_at (hashed_key_cmp other) key ≡ false → group_at other o' ≡ group_at other o)
      → AreStored less r i o'
  submit-taken there st here alone elsewhere = record {
    submits_once = once-remove submit_value (is_at (kept_member_cmp (member_of key place))) s st.submits_once;
    receipts_once = st.receipts_once;
    indexed = record {
      candidates = st.indexed.candidates;
      outlook = anew (λ (x : Group). x.outlook) (outlook_in (grouping_in s r)) (outlook_in (grouping_in less r)) o o' key st.indexed.outlook
          (λ k t. let n = counted-less there st k false t in let same : matches (grouping_in less r) k ≡ matches (grouping_in s r) k = omega (arith, n) in ap (outlook_of k) same)
          (here ∙ ap (λ (x : GroupSummary). record x { matches = x.matches - 1 }) (st.indexed.outlook key) ∙ ap (outlook_of key) one_less)
          elsewhere;
    };
    only = anew (λ (x : Group). x.only) (λ k. only_of (members_in k s)) (λ k. only_of (members_in k less)) o o' key st.only (λ k t. ap (λ (ms : List (Place × Bool)). only_of ms) (members-out k (member_of key place) t s)) alone elsewhere;
  }
    where
      one_less : matches (grouping_in s r) key - 1 ≡ matches (grouping_in less r) key
      one_less = let n = counted-less there st key true (own_key key) in omega (arith, n)

pub from-cons : {X : Type 0} (e : Place × X) (es : List (Place × X)) → from_entries {R = place_cmp} (e ∷ es) ≡ insert (from_entries es) e.0 e.1
from-cons e es = same_map places_total places_exact _ _ (λ q.
    get-from_entries places_total (e ∷ es) q ∙ ap (cond (eq_by_cmp place_cmp q e.0) (Some e.1)) (sym (get-from_entries places_total es q)) ∙ sym (get-insert places_total (from_entries es) e.0 e.1 q))

module _ (s : List (Member × Bool)) (r : List (Member × ReceiptFacts)) (key : LinkKey) (place : Place) where
  pub absent : get (grouping_in s r).submits place ≡ None → at submit_value place s ≡ None
  absent none = sym (get-from_entries places_total (map (by_place submit_value) s) place) ∙ none

  -- the grouping with one submit more
  pub grouping-more : get (grouping_in s r).submits place ≡ None → grouping_in (insert_entry kept_member_cmp s (member_of key place) true) r ≡ with_submit (grouping_in s r) key place
  grouping-more none = λ i. record { submits = with-member submit_value (member_of key place) true s (absent none) i; receipts = (grouping_in s r).receipts }

  -- the grouping with one submit less
  pub grouping-less : (i : List (Candidate × Bool)) (o : List (LinkKey × Group)) → AreStored s r i o → get (grouping_in s r).submits place ≡ Some key
      → grouping_in (remove_entry (is_at (kept_member_cmp (member_of key place))) s) r ≡ without_submit (grouping_in s r) place
  grouping-less i o st there =
      let h = held s r i o o key place there in
      λ j. record { submits = without-member submit_value (member_of key place) h.0 s st.submits_once h.1 j; receipts = (grouping_in s r).receipts }

  -- a submit that is there is found by its key and place
  pub is_held : get (grouping_in s r).submits place ≡ Some key → IsSome (lookup (is_at (kept_member_cmp (member_of key place))) s)
  is_held there = ap is_some (held s r [] [] [] key place there).1
