-- The four maps hold a grouping with one receipt more or less.
use Rattle.std.proofs.Common.{◌≡◌, ◌+◌, ◌-◌, arith, subst, Bool, true, false, cond, List, Option, Some, None, refl, sym, ap, ◌∙◌}
use Rattle.std.specs.Prelude.{◌&&◌, ◌||◌, not, map, option_map, IsSome, is_some}
use Rattle.std.specs.Map.{keys_of, lookup, remove_entry}
use Rattle.std.specs.BTreeMap.{is_at, insert_entry}
use Rattle.std.specs.FinMap.{get, get-from_entries, get-insert, get-remove}
use Rattle.std.specs.List.Sorted.{IsStrictlySortedBy}
use Rattle.std.specs.Ordering.{eq_by_cmp}
use Rattle.std.proofs.lemmas.Bool.{false≢true}
use Rattle.smq_kit.specs.declared.place.Place.{Place}
use Rattle.smq_kit.specs.declared.link_key.LinkKey.{LinkKey}
use Rattle.smq_kit.specs.Orders.{place_cmp}
use Rattle.smq_kit.specs.HashedKeys.{hashed_key_cmp}
use Rattle.smq_kit.specs.LinkKeys.{same_key}
use Rattle.smq_kit.proofs.PlaceOrders.{places_total}
use Rattle.smq_kit.proofs.Comparisons.{is_equal}
use Rattle.smq_shelf.proofs.Changes.{lookup-insert_entry, lookup-insert_other, lookup-removed, lookup-remove_other}
use Rattle.smq_group.specs.declared.member.Member.{Member}
use Rattle.smq_group.specs.declared.member.Candidate.{Candidate}
use Rattle.smq_group.specs.declared.member.ReceiptFacts.{ReceiptFacts}
use Rattle.smq_group.specs.declared.group_summary.Group.{Group}
use Rattle.smq_group.specs.declared.group_summary.More.TheVariants as newcomer
use Rattle.smq_group.specs.declared.group_summary.GroupSummary.{GroupSummary}
use Rattle.smq_group.specs.declared.group_summary.Earliest.{Earliest}
use Rattle.smq_group.specs.Matching.{Grouping, GroupedReceipt, matches}
use Rattle.smq_group.specs.Groups.{with_receipt, without_receipt}
use Rattle.smq_group.specs.within.KeyLaws.{one_candidate}
use Rattle.smq_group.specs.within.Orders.{kept_member_cmp, kept_candidate_cmp}
use Rattle.smq_group.specs.within.Outlooks.{an_outlook, group_at, group_with, is_before, later_candidate, one_more, only_at, outlook_at, outlook_with}
use Rattle.smq_group.specs.within.Stored.{grouping_in, receipt_value, earliest_at, gone_of, outlook_in, received, AreStored, by_place, member_of, waits, with_waiting, without_waiting}
use Rattle.smq_group.specs.within.Walked.{candidate_at, first_candidate_after, members_in, only_of}
use Rattle.smq_group.proofs.CandidateWalks.{candidates_total}
use Rattle.smq_group.proofs.Earliest.{HasMore, decider_in, is_decided, decider-more, decider-stays, decider-next, own_key}
use Rattle.smq_group.proofs.Waiting.{decided-own, gone-is, gone-waited, is_the, waits-decided, waits-less, waits-more}
use Rattle.smq_group.proofs.Placing.{at, found, one_of, own_place, same_place, with-member, without-member, once-insert, once-remove}
use Rattle.smq_group.proofs.Storing.{anew, received-more}

abbrev own : Place → ReceiptFacts → Earliest
own place said = earliest_at (said.moment, place)

module _ (s : List (Member × Bool)) (r : List (Member × ReceiptFacts)) (i i' : List (Candidate × Bool)) (o o' : List (LinkKey × Group)) (key : LinkKey) (place : Place) (said : ReceiptFacts) where
  abbrev member : Member
  member = member_of key place

  abbrev g : Grouping
  g = grouping_in s r

  abbrev more : List (Member × ReceiptFacts)
  more = insert_entry kept_member_cmp r member said

  abbrev less : List (Member × ReceiptFacts)
  less = remove_entry (is_at (kept_member_cmp member)) r

  abbrev value : GroupedReceipt
  value = receipt_value key said

  -- ---- one more

  not_there : get g.receipts place ≡ None → at receipt_value place r ≡ None
  not_there none = sym (get-from_entries places_total (map (by_place receipt_value) r) place) ∙ none

  -- the grouping with one receipt more
  pub receipt-more : get g.receipts place ≡ None → grouping_in s more ≡ with_receipt g place value
  receipt-more none = λ j. record { submits = g.submits; receipts = with-member receipt_value member said r (not_there none) j }

  pub has-more : get g.receipts place ≡ None → HasMore g (grouping_in s more) place value
  has-more none = record {
    absent = none;
    each = λ q. ap (λ (h : Grouping). get h.receipts q) (receipt-more none) ∙ get-insert places_total g.receipts place value q;
  }

  indexed_more : (w : Option Earliest) → i' ≡ with_waiting key w true i → (c : Candidate) (b : Bool) → is_the key w c ≡ b
      → lookup (is_at (kept_candidate_cmp c)) i' ≡ cond b (Some true) (lookup (is_at (kept_candidate_cmp c)) i)
  indexed_more None put c true t = absurd (false≢true t)
  indexed_more None put c false t = ap (lookup (is_at (kept_candidate_cmp c))) put
  indexed_more (Some e) put c true t =
      ap (lookup (is_at (kept_candidate_cmp c))) put
      ∙ ap (λ (x : Candidate). lookup (is_at (kept_candidate_cmp x)) (insert_entry kept_candidate_cmp i (candidate_at key e) true)) (one_candidate c (candidate_at key e) (is_equal (kept_candidate_cmp c (candidate_at key e)) t))
      ∙ lookup-insert_entry candidates_total (candidate_at key e) true i
  indexed_more (Some e) put c false t = ap (lookup (is_at (kept_candidate_cmp c))) put ∙ lookup-insert_other candidates_total (candidate_at key e) c true i t

  joined : (a b : Bool) → cond a (Some true) (cond b (Some true) None) ≡ cond (a || b) (Some true) None
  joined true b = refl
  joined false b = refl

  -- with one receipt more, where its key's outlook has it and the others stay
  pub receipt-stored : get g.receipts place ≡ None → AreStored s r i o
      → i' ≡ with_waiting key (later_candidate (outlook_at key o).decider (own place said) said.decides) true i
      → one_more (outlook_at key o).receipts ≡ (outlook_at key o).receipts + 1
      → group_at key o' ≡ group_with (group_at key o) (newcomer.Receipt (own place said) said.decides)
      → ((other : LinkKey) → is_at (hashed_key_cmp other) key ≡ false → group_at other o' ≡ group_at other o)
      → AreStored s more i' o'
  receipt-stored none st put room here elsewhere = record {
    submits_once = st.submits_once;
    receipts_once = once-insert receipt_value member said r (not_there none) st.receipts_once;
    indexed = record {
      candidates = λ c.
          indexed_more w (put ∙ ap (λ (x : GroupSummary). with_waiting key (later_candidate x.decider (own place said) said.decides) true i) (st.indexed.outlook key)) c (is_the key w c) refl
          ∙ ap (cond (is_the key w c) (Some true)) (st.indexed.candidates c) ∙ joined (is_the key w c) (waits g c)
          ∙ ap (λ b. cond b (Some true) None) (waits-more g (grouping_in s more) place value (has-more none) c);
      outlook = anew (λ (x : Group). x.outlook) (outlook_in g) (outlook_in (grouping_in s more)) o o' key st.indexed.outlook
          (λ k t. λ j. an_outlook (matches g k) (elsewhere_more none k t j) (decider-more g (grouping_in s more) place value (has-more none) k false said.decides t refl j))
          (ap (λ (x : Group). x.outlook) here ∙ ap (λ (x : GroupSummary). outlook_with x (earliest_at (said.moment, place)) said.decides) (st.indexed.outlook key)
          ∙ sym (λ j. an_outlook (matches g key) ((received-more g (grouping_in s more) place value key true (has-more none) (own_key key) ∙ sym roomy) j)
          (decider-more g (grouping_in s more) place value (has-more none) key true said.decides (own_key key) refl j)))
          elsewhere;
    };
    only = anew (λ (x : Group). x.only) (λ k. only_of (members_in k s)) (λ k. only_of (members_in k s)) o o' key st.only (λ k t. refl) (ap (λ (x : Group). x.only) here ∙ st.only key) elsewhere;
  }
    where
      roomy : one_more (received g key) ≡ received g key + 1
      roomy = subst (λ (x : GroupSummary). one_more x.receipts ≡ x.receipts + 1) (st.indexed.outlook key) room

      elsewhere_more : get g.receipts place ≡ None → (k : LinkKey) → same_key k key ≡ false → received (grouping_in s more) k ≡ received g k
      elsewhere_more none k t = let n = received-more g (grouping_in s more) place value k false (has-more none) t in omega (arith, n)

      w : Option Earliest
      w = later_candidate (decider_in g key) (own place said) said.decides

  -- ---- one less

  -- a receipt that is there is found by its key and place
  pub receipt-is_held : option_map (λ (y : GroupedReceipt). y.key) (get g.receipts place) ≡ Some key
      → (v : ReceiptFacts) × (lookup (is_at (kept_member_cmp member)) r ≡ Some v) × (get g.receipts place ≡ Some (receipt_value key v))
  receipt-is_held k = by (get g.receipts place) refl k
    where
      by : (y : Option GroupedReceipt) → get g.receipts place ≡ y → option_map (λ (z : GroupedReceipt). z.key) y ≡ Some key
          → (v : ReceiptFacts) × (lookup (is_at (kept_member_cmp member)) r ≡ Some v) × (get g.receipts place ≡ Some (receipt_value key v))
      by None e n = absurd cc
      by (Some y) e n =
          let f = found receipt_value place y r (sym (get-from_entries places_total (map (by_place receipt_value) r) place) ∙ e) in
          let own : y.key ≡ key = cc in
          let at_key : f.key ≡ key = ap (λ (z : GroupedReceipt). z.key) f.is ∙ own in (
            f.v,
            ap (λ (k : LinkKey). lookup (is_at (kept_member_cmp (member_of k place))) r) (sym at_key) ∙ f.there,
            e ∙ ap Some (sym f.is) ∙ ap (λ (k : LinkKey). Some (receipt_value k f.v)) at_key,
          )

  pub receipt-held : (x : ReceiptFacts) → option_map (λ (y : GroupedReceipt). y.key) (get g.receipts place) ≡ Some key → lookup (is_at (kept_member_cmp member)) r ≡ Some x → get g.receipts place ≡ Some (receipt_value key x)
  receipt-held x k l = let h = receipt-is_held k in h.2 ∙ ap (λ (v : ReceiptFacts). Some (receipt_value key v)) (one_of h.0 x (lookup (is_at (kept_member_cmp member)) r) h.1 l)

  -- the grouping with one receipt less
  pub receipt-less : AreStored s r i o → lookup (is_at (kept_member_cmp member)) r ≡ Some said → grouping_in s less ≡ without_receipt g place
  receipt-less st l = λ j. record { submits = g.submits; receipts = without-member receipt_value member said r st.receipts_once l j }

  pub has-less : AreStored s r i o → get g.receipts place ≡ Some value → lookup (is_at (kept_member_cmp member)) r ≡ Some said → HasMore (grouping_in s less) g place value
  has-less st there l = record {
    absent = gone place ∙ ap (λ b. cond b None (get g.receipts place)) (own_place place place refl);
    each = λ q. by q (eq_by_cmp place_cmp q place) refl;
  }
    where
      gone : (q : Place) → get (grouping_in s less).receipts q ≡ cond (eq_by_cmp place_cmp q place) None (get g.receipts q)
      gone q = ap (λ (h : Grouping). get h.receipts q) (receipt-less st l) ∙ get-remove places_total g.receipts place q

      by : (q : Place) (b : Bool) → eq_by_cmp place_cmp q place ≡ b → get g.receipts q ≡ cond (eq_by_cmp place_cmp q place) (Some value) (get (grouping_in s less).receipts q)
      by q true t = ap (get g.receipts) (same_place q place t) ∙ there ∙ sym (ap (λ b. cond b (Some value) (get (grouping_in s less).receipts q)) t)
      by q false t = sym (ap (λ b. cond b (Some value) (get (grouping_in s less).receipts q)) t ∙ gone q ∙ ap (λ b. cond b None (get g.receipts q)) t)

  indexed_less : (w : Option Earliest) → i' ≡ without_waiting key w i → (IsSome w → IsStrictlySortedBy kept_candidate_cmp (keys_of i)) → (c : Candidate) (b : Bool) → is_the key w c ≡ b
      → lookup (is_at (kept_candidate_cmp c)) i' ≡ cond (not b) (lookup (is_at (kept_candidate_cmp c)) i) None
  indexed_less None out so c true t = absurd (false≢true t)
  indexed_less None out so c false t = ap (lookup (is_at (kept_candidate_cmp c))) out
  indexed_less (Some e) out so c true t =
      ap (lookup (is_at (kept_candidate_cmp c))) out
      ∙ ap (λ (x : Candidate). lookup (is_at (kept_candidate_cmp x)) (remove_entry (is_at (kept_candidate_cmp (candidate_at key e))) i)) (one_candidate c (candidate_at key e) (is_equal (kept_candidate_cmp c (candidate_at key e)) t))
      ∙ lookup-removed candidates_total (candidate_at key e) i (so refl)
  indexed_less (Some e) out so c false t = ap (lookup (is_at (kept_candidate_cmp c))) out ∙ lookup-remove_other candidates_total (candidate_at key e) c i t

  parted : (a b : Bool) → cond a (cond b (Some true) None) None ≡ cond (a && b) (Some true) None
  parted true b = refl
  parted false b = refl

  -- whether the receipt decides, by the outlook that was kept
  abbrev pub did_decide : Bool
  did_decide = said.decides && is_decided (outlook_at key o).decider place

  -- What decides once a receipt is taken out: where that decided, the next of the index.
  pub record HasNext (next : Option Earliest) : Type 0 where
    pub stays : did_decide ≡ false → next ≡ (outlook_at key o).decider
    pub follows : did_decide ≡ true → next ≡ first_candidate_after key (own place said) i
    pub ordered : did_decide ≡ true → IsStrictlySortedBy kept_candidate_cmp (keys_of i)

  pub has-next : (next : Option Earliest) (before : GroupSummary) → before ≡ outlook_at key o
      → ((said.decides && is_decided before.decider place) ≡ false → next ≡ before.decider)
      → ((said.decides && is_decided before.decider place) ≡ true → next ≡ first_candidate_after key (own place said) i)
      → ((said.decides && is_decided before.decider place) ≡ true → IsStrictlySortedBy kept_candidate_cmp (keys_of i)) → HasNext next
  has-next next before is stays follows ordered =
      let decides = ap (λ (x : GroupSummary). said.decides && is_decided x.decider place) is in
      record {
        stays = λ e. stays (decides ∙ e) ∙ ap (λ (x : GroupSummary). x.decider) is;
        follows = λ e. follows (decides ∙ e);
        ordered = λ e. ordered (decides ∙ e);
      }

  module _ (st : AreStored s r i o) (there : get g.receipts place ≡ Some value) (l : lookup (is_at (kept_member_cmp member)) r ≡ Some said) (next : Option Earliest) (n : HasNext next) where
    abbrev h : Grouping
    h = grouping_in s less

    decided_before : did_decide ≡ (said.decides && is_decided (decider_in g key) place)
    decided_before = ap (λ (x : GroupSummary). said.decides && is_decided x.decider place) (st.indexed.outlook key)

    new : (b : Bool) → did_decide ≡ b → decider_in h key ≡ next
    new true w =
        let was = decided-own h g place value (has-less st there l) (sym decided_before ∙ w) in
        decider-next h g place value (has-less st there l) i (n.ordered w)
        (λ c t. st.indexed.candidates c ∙ ap (λ b. cond b (Some true) None) (waits-decided h g place value (has-less st there l) was c t))
        was ∙ sym (n.follows w)
    new false w = decider-stays h g place value (has-less st there l) (sym decided_before ∙ w) ∙ sym (ap (λ (x : GroupSummary). x.decider) (st.indexed.outlook key)) ∙ sym (n.stays w)

    abbrev w : Option Earliest
    w = gone_of said.decides (is_decided (outlook_at key o).decider place) next (own place said)

    -- what goes, by the grouping
    goes : w ≡ later_candidate (decider_in h key) (own place said) said.decides
    goes =
        (λ j. gone_of said.decides (is_decided (st.indexed.outlook key j).decider place) (sym (new did_decide refl) j) (own place said))
        ∙ gone-is h g place value (has-less st there l) said.decides (decider_in h key) (is_before (own place said) (decider_in h key)) refl refl refl

    -- and it is in the index
    pub gone-there : (e : Earliest) → w ≡ Some e → IsSome (lookup (is_at (kept_candidate_cmp (candidate_at key e))) i)
    gone-there e is =
        ap is_some (st.indexed.candidates (candidate_at key e)
        ∙ ap (λ b. cond b (Some true) None) (gone-waited h g place value (has-less st there l) e (sym goes ∙ is)))

    pub receipt-taken : i' ≡ without_waiting key w i → (IsSome w → IsStrictlySortedBy kept_candidate_cmp (keys_of i))
        → outlook_at key o' ≡ an_outlook (outlook_at key o).matches ((outlook_at key o).receipts - 1) next → only_at key o' ≡ only_of (members_in key s)
        → ((other : LinkKey) → is_at (hashed_key_cmp other) key ≡ false → group_at other o' ≡ group_at other o)
        → AreStored s less i' o'
    receipt-taken out so here alone elsewhere = record {
      submits_once = st.submits_once;
      receipts_once = once-remove receipt_value (is_at (kept_member_cmp member)) r st.receipts_once;
      indexed = record {
        candidates = λ c.
            indexed_less w out so c (is_the key w c) refl
            ∙ ap (λ (x : Option Bool). cond (not (is_the key w c)) x None) (st.indexed.candidates c)
            ∙ parted (not (is_the key w c)) (waits g c)
            ∙ ap (λ (x : Option Earliest). cond (not (is_the key x c) && waits g c) (Some true) None) goes
            ∙ ap (λ b. cond b (Some true) None) (waits-less h g place value (has-less st there l) c);
        outlook = anew (λ (x : Group). x.outlook) (outlook_in g) (outlook_in h) o o' key st.indexed.outlook
            (λ k t. λ j. an_outlook (matches g k) (elsewhere_less k t j) (sym (decider-more h g place value (has-less st there l) k false said.decides t refl) j))
            (here ∙ ap (λ (x : GroupSummary). an_outlook x.matches (x.receipts - 1) next) (st.indexed.outlook key) ∙ sym (λ j. an_outlook (matches g key) (one_less j) (new did_decide refl j)))
            elsewhere;
      };
      only = anew (λ (x : Group). x.only) (λ k. only_of (members_in k s)) (λ k. only_of (members_in k s)) o o' key st.only (λ k t. refl) alone elsewhere;
    }
      where
        elsewhere_less : (k : LinkKey) → same_key k key ≡ false → received h k ≡ received g k
        elsewhere_less k t = let n = received-more h g place value k false (has-less st there l) t in omega (arith, n)

        one_less : received h key ≡ received g key - 1
        one_less = let n = received-more h g place value key true (has-less st there l) (own_key key) in omega (arith, n)
