-- Members that come, and what PDUs more cost against the members of their keys.
use Rattle.std.proofs.Common.{◌≡◌, ℕ, ◌+◌, ◌*◌, ◌≤◌, Bool, true, false, cond, Option, Some, None, refl, sym, ap, ◌∙◌, arith}
use Rattle.std.specs.Prelude.{option_map}
use Rattle.std.specs.Ordering.{eq_by_cmp, is_eq}
use Rattle.std.specs.Cmp.{tied_itself}
use Rattle.std.specs.FinMap.{FinMap, get, insert}
use Rattle.smq_kit.specs.declared.link_key.LinkKey.{LinkKey}
use Rattle.smq_kit.specs.declared.place.Dir.{Dir}
use Rattle.smq_kit.specs.declared.place.Place.{Place}
use Rattle.smq_kit.specs.LinkKeys.{same_key}
use Rattle.smq_kit.specs.Maps.{share}
use Rattle.smq_kit.specs.Orders.{place_cmp}
use Rattle.smq_kit.proofs.MapLemmas as maps
use Rattle.smq_kit.proofs.PlaceOrders.{places_total, places_exact}
use Rattle.smq_group.proofs.Earliest.{own_key}
use Rattle.smq_group.specs.Groups.{GroupsValue, vacancies, with_receipt, with_submit}
use Rattle.smq_group.specs.Matching.{Grouping, GroupedReceipt}
use Rattle.smq_pair.specs.Pairing.{PairingValue, pair_at}
use Rattle.smq_pair.specs.declared.pairing.Pair.{Pair}
use Rattle.smq_present.specs.declared.present.kept.StoredPdu.{StoredPdu}
use Rattle.smq_present.specs.present.Settings.{SettingsValue}
use Rattle.smq_present.specs.pairing.Traffic.{Message, Origin, ReceivedReceipt, TrafficValue, place_of}
use Rattle.smq_present.specs.join.Keyed.{accepted_key, grouping_of, keyed_receipt, receipt_key}
use Rattle.smq_present.specs.join.Moves.{put_message, put_receipt}
use Rattle.smq_book.specs.edits.Reach.{members}
use Rattle.smq_book.specs.index.Touches.{HasNoneVacant, MembersCome, answered_key, load_of, members_at, pdu_load, receipt_key_at}
use Rattle.smq_book.proofs.lemmas.index.Members.{members-put, members-unmoved, received-put, submit-there}
use Rattle.smq_book.proofs.lemmas.index.Weights.{one-share, not-there}

itself : (q : Place) → eq_by_cmp place_cmp q q ≡ true
itself q = ap is_eq (tied_itself places_total q)

-- what stood elsewhere still stands, where nothing stood at the place at which something is put in
came-stays : {X : Type 0} (m : FinMap place_cmp X) (q p : Place) (v w : X) → get m q ≡ None → get m p ≡ Some w → get (insert m q v) p ≡ Some w
came-stays m q p v w none there =
    maps.get-set_at places_total places_exact m q (Some v) p ∙ by (eq_by_cmp place_cmp p q) refl
  where
    by : (b : Bool) → eq_by_cmp place_cmp p q ≡ b → cond b (Some v) (get m p) ≡ Some w
    by true t = not-there (get m p) w (ap (get m) (maps.same_key places_total places_exact p q t) ∙ none) there
    by false f = there

put-there : {X : Type 0} (m : FinMap place_cmp X) (q : Place) (v : X) → get (insert m q v) q ≡ Some v
put-there m q v = maps.get-set_at places_total places_exact m q (Some v) q ∙ ap (λ b. cond b (Some v) (get m q)) (itself q)

pub both-come : (g h i : GroupsValue) → MembersCome g h → MembersCome h i → MembersCome g i
both-come g h i a b = record {
  submits = λ q k there. b.submits q k (a.submits q k there);
  receipts = λ q r there. b.receipts q r (a.receipts q r there);
  more = λ k. (let x = a.more k in let y = b.more k in omega (arith, x, y));
  vacant = λ k. (let x = a.vacant k in let y = b.vacant k in omega (arith, x, y));
}

pub still-none : (g h : GroupsValue) → MembersCome g h → HasNoneVacant g → HasNoneVacant h
still-none g h come none = record { each = λ k. (let x = come.vacant k in let y = none.each k in omega (arith, x, y)) }

module _ (g h : GroupsValue) (q : Place) (vacant : (k : LinkKey) → vacancies h k ≤ vacancies g k) where
  same-come : h.members ≡ g.members → MembersCome g h
  same-come is = record {
    submits = λ p k there. ap (λ (x : Grouping). get x.submits p) is ∙ there;
    receipts = λ p r there. ap (λ (x : Grouping). get x.receipts p) is ∙ there;
    more = λ k. (let same = ap (λ (x : Grouping). members x k) is in omega (arith, same));
    vacant = vacant;
  }

  submit-comes : (key : LinkKey) → h.members ≡ with_submit g.members key q → get g.members.submits q ≡ None → MembersCome g h
  submit-comes key is none = record {
    submits = λ p k there. ap (λ (x : Grouping). get x.submits p) is ∙ came-stays g.members.submits q p key k none there;
    receipts = λ p r there. ap (λ (x : Grouping). get x.receipts p) is ∙ there;
    more = λ k. (let all = maps.count-set places_total places_exact (same_key k) g.members.submits q (Some key) in
        let nothing : share (same_key k) (get g.members.submits q) ≡ 0 = ap (share (same_key k)) none in
        let same = ap (λ (x : Grouping). members x k) is in
        omega (arith, all, nothing, same));
    vacant = vacant;
  }

  receipt-comes : (r : GroupedReceipt) → h.members ≡ with_receipt g.members q r → get g.members.receipts q ≡ None → MembersCome g h
  receipt-comes r is none = record {
    submits = λ p k there. ap (λ (x : Grouping). get x.submits p) is ∙ there;
    receipts = λ p x there. ap (λ (y : Grouping). get y.receipts p) is ∙ came-stays g.members.receipts q p r x none there;
    more = λ k. (let all = maps.count-set places_total places_exact (λ (r : GroupedReceipt). same_key k r.key) g.members.receipts q (Some r) in
        let nothing : share (λ (r : GroupedReceipt). same_key k r.key) (get g.members.receipts q) ≡ 0 = ap (share (λ (r : GroupedReceipt). same_key k r.key)) none in
        let same = ap (λ (x : Grouping). members x k) is in
        omega (arith, all, nothing, same));
    vacant = vacant;
  }

  -- a message is put in where none is accepted yet
  module _ (s : SettingsValue) (t : TrafficValue) (m : Message) (were : g.members ≡ grouping_of s t) (are : h.members ≡ grouping_of s (put_message q m t))
      (none : get g.members.submits q ≡ None) where
    absent : get (grouping_of s t).submits q ≡ None
    absent = ap (λ (x : Grouping). get x.submits q) (sym were) ∙ none

    pub message-comes : MembersCome g h
    message-comes = by (accepted_key s m) refl
      where
        by : (key : Option LinkKey) → accepted_key s m ≡ key → MembersCome g h
        by None is = same-come (are ∙ members-unmoved s q t m is absent ∙ sym were)
        by (Some key) is = submit-comes key (are ∙ members-put s q t m key is ∙ ap (λ (x : Grouping). with_submit x key q) (sym were)) none

    -- and weighs what its key has then
    pub message-weighed : HasNoneVacant g → load_of g (accepted_key s m) ≤ 15 * members_at h.members (get h.members.submits q)
    message-weighed full = by (accepted_key s m) refl
      where
        here : get h.members.submits q ≡ accepted_key s m
        here = ap (λ (x : Grouping). get x.submits q) are ∙ submit-there s q (put_message q m t) m (put-there t.messages q m)

        by : (key : Option LinkKey) → accepted_key s m ≡ key → load_of g key ≤ 15 * members_at h.members (get h.members.submits q)
        by None is = omega arith
        by (Some key) is =
            let more = message-comes.more key in
            let nothing = full.each key in
            let found = ap (members_at h.members) (here ∙ is) in
            omega (arith, more, nothing, found)

  -- a delivery receipt is put in where none stands yet
  module _ (s : SettingsValue) (t : TrafficValue) (r : ReceivedReceipt) (were : g.members ≡ grouping_of s t) (are : h.members ≡ grouping_of s (put_receipt q r t))
      (none : get g.members.receipts q ≡ None) where
    came : h.members ≡ with_receipt g.members q (keyed_receipt s r)
    came = are ∙ received-put s q t r ∙ ap (λ (x : Grouping). with_receipt x q (keyed_receipt s r)) (sym were)

    pub received-comes : MembersCome g h
    received-comes = receipt-comes (keyed_receipt s r) came none

    pub received-weighed : HasNoneVacant g
        → 43 + load_of g (Some (receipt_key s r)) ≤ 43 * members_at h.members (receipt_key_at h.members q)
    received-weighed full =
        let key = receipt_key s r in
        let all = maps.count-set places_total places_exact (λ (x : GroupedReceipt). same_key key x.key) g.members.receipts q (Some (keyed_receipt s r)) in
        let nothing : share (λ (x : GroupedReceipt). same_key key x.key) (get g.members.receipts q) ≡ 0 =
        ap (share (λ (x : GroupedReceipt). same_key key x.key)) none in
        let one = one-share (λ (x : GroupedReceipt). same_key key x.key) (keyed_receipt s r) in
        let own : ◌≡◌ {A = ℕ} (cond (same_key key key) 1 0) 1 = ap (λ b. cond b 1 0) (own_key key) in
        let same = ap (λ (x : Grouping). members x key) came in
        let free = full.each key in
        let found = ap (members_at h.members) (ap (λ (x : Grouping). receipt_key_at x q) came
        ∙ ap (option_map (λ (x : GroupedReceipt). x.key)) (put-there g.members.receipts q (keyed_receipt s r))) in
        omega (arith, all, nothing, one, own, same, free, found)

-- ---- what weighed so much weighs no less once others came

module _ (g h : GroupsValue) (come : MembersCome g h) where
  heavier : (x y : Option LinkKey) → ((k : LinkKey) → x ≡ Some k → y ≡ Some k) → members_at g.members x ≤ members_at h.members y
  heavier None y is = omega arith
  heavier (Some k) y is =
      let same = ap (members_at h.members) (is k refl) in
      let more = come.more k in
      omega (arith, same, more)

  submit-heavier : (q : Place) → members_at g.members (get g.members.submits q) ≤ members_at h.members (get h.members.submits q)
  submit-heavier q = heavier (get g.members.submits q) (get h.members.submits q) (come.submits q)

  receipt-heavier : (q : Place) → members_at g.members (receipt_key_at g.members q) ≤ members_at h.members (receipt_key_at h.members q)
  receipt-heavier q = heavier (receipt_key_at g.members q) (receipt_key_at h.members q) (λ k is. by (get g.members.receipts q) refl k is)
    where
      by : (x : Option GroupedReceipt) → get g.members.receipts q ≡ x → (k : LinkKey) → option_map (λ (r : GroupedReceipt). r.key) x ≡ Some k
          → receipt_key_at h.members q ≡ Some k
      by None there k is = absurd cc
      by (Some r) there k is = ap (option_map (λ (r : GroupedReceipt). r.key)) (come.receipts q r there) ∙ is

  pub answered-heavier : (x y : Option Pair) → ((pair : Pair) → x ≡ Some pair → y ≡ Some pair)
      → members_at g.members (answered_key g.members x) ≤ members_at h.members (answered_key h.members y)
  answered-heavier None y is = omega arith
  answered-heavier (Some pair) y is =
      let same = ap (λ (z : Option Pair). members_at h.members (answered_key h.members z)) (is pair refl) in
      let more = submit-heavier pair.request in
      omega (arith, same, more)

  pub pdu-heavier : (v w : PairingValue) → ((q : Place) (pair : Pair) → pair_at v q ≡ Some pair → pair_at w q ≡ Some pair)
      → (origin : Origin) (dir : Dir) (p : StoredPdu) → pdu_load g.members v origin dir p ≤ pdu_load h.members w origin dir p
  pdu-heavier v w stays origin dir p =
      let q = place_of origin dir p in
      let one = submit-heavier q in
      let two = receipt-heavier q in
      let three = answered-heavier (pair_at v q) (pair_at w q) (stays q) in
      omega (arith, one, two, three)
