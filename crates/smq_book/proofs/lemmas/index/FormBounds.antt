-- Forms that are set cost no more than 64 for each weight of the link's messages and delivery receipts, as they were and as they are left.
use Rattle.std.proofs.Common.{◌≡◌, ℕ, ◌+◌, ◌*◌, ◌≤◌, Bool, true, false, cond, List, [], ◌∷◌, ◌++◌, length, Option, Some, None, refl, sym, ap, subst, ◌∙◌, arith}
use Rattle.std.specs.Prelude.{◌==◌, ◌&&◌, count_by, map, option_and_then, option_map, option_to_list, unwrap_or}
use Rattle.std.specs.List.{AllByRecursion, flat_map, sum_by}
use Rattle.std.specs.Option.{option_or}
use Rattle.std.specs.FinMap.{FinMap, entries, get}
use Rattle.std.proofs.lemmas.Bool.{false≢true, eq-eqb, eqb-true}
use Rattle.std.proofs.lemmas.List.{append_assoc, length-map}
use Rattle.std.proofs.lemmas.List.Sums.{sum_by-append, sum_by-cons, sum_by-le-sum_by}
use Rattle.smq_kit.specs.declared.link_key.LinkKey.{LinkKey}
use Rattle.smq_kit.specs.declared.names.LinkId.{LinkId}
use Rattle.smq_kit.specs.declared.message_id.Form.{Form}
use Rattle.smq_kit.specs.declared.place.Dir.{Dir}
use Rattle.smq_kit.specs.declared.place.Dir.TheVariants.{FromClient, FromCentre}
use Rattle.smq_kit.specs.declared.place.Place.{Place}
use Rattle.smq_kit.specs.LinkKeys.{link_key, same_key}
use Rattle.smq_kit.specs.Maps.{kept_of}
use Rattle.smq_kit.specs.Orders.{place_cmp}
use Rattle.smq_kit.proofs.MapLemmas as maps
use Rattle.smq_kit.proofs.PlaceOrders.{places_total, places_exact}
use Rattle.smq_group.proofs.Earliest.{one_key}
use Rattle.smq_group.specs.Groups.{GroupsValue, vacancies}
use Rattle.smq_group.specs.Matching.{Grouping, GroupedReceipt}
use Rattle.smq_book.specs.declared.index.index.Index.{Index}
use Rattle.smq_book.specs.declared.index.stored.Item.{Item}
use Rattle.smq_book.specs.declared.index.stored.Item.TheVariants as said
use Rattle.smq_present.specs.declared.present.edit.Edit.TheVariants.{SetForm}
use Rattle.smq_present.specs.present.Present.{PresentValue}
use Rattle.smq_present.specs.present.Settings.{SettingsValue, forms_of}
use Rattle.smq_present.specs.present.Steps.{change}
use Rattle.smq_present.specs.pairing.Traffic.{Message, ReceivedReceipt, TrafficValue, traffic_of}
use Rattle.smq_present.specs.join.Keyed.{accepted_id, accepted_key, grouping_of, keyed_receipt, receipt_key}
use Rattle.smq_book.specs.edits.Reach.{groups, link_places, members, pair_in, reach, weight, weights}
use Rattle.smq_book.specs.edits.Reached.{link_messages, link_receipts, passing}
use Rattle.smq_book.specs.index.Held.{Holding, IsTraffic}
use Rattle.smq_book.specs.index.Kept.{IsIndexed}
use Rattle.smq_book.specs.index.LinkOut.{accepted_on, all_said, is_accepted, keyed_on, keyed_places, item_in}
use Rattle.smq_book.specs.index.Touches.{MembersGo, key_in, members_at, put_load, receipt_key_at, said_key, taken_load, taken_of, walk_of}
use Rattle.smq_book.proofs.lemmas.index.Accepted.{fewer, same-keys}
use Rattle.smq_book.proofs.lemmas.index.KeyMeets.{few-meet, hits}
use Rattle.smq_book.proofs.lemmas.index.LinkOut.{IsThere, all-there, length-all, places-of}
use Rattle.smq_book.proofs.lemmas.index.Members.{no-message, receipt-there, submit-absent, submit-there}

-- ---- the keys of entries, and of those that pass a test

hits-both : (k : LinkKey) (xs ys : List LinkKey) → hits k (xs ++ ys) ≡ hits k xs + hits k ys
hits-both k xs ys = sum_by-append (λ c. cond (same_key k c) 1 0) xs ys

module _ {X : Type 0} (of : Place × X → List LinkKey) (test : Place → X → Bool) where
  abbrev those : Place → X → Option X
  those place v = cond (test place v) (Some v) None

  -- one entry, where it passes
  module _ (e : Place × X) (later all : List (Place × X)) where
    abbrev with_one : Bool → List (Place × X)
    with_one b = map (λ v. (e.0, v)) (option_to_list (cond b (Some e.1) None)) ++ later

    part-one : (k : LinkKey) (b : Bool) → hits k (flat_map of later) ≤ hits k (flat_map of all) → hits k (flat_map of (with_one b)) ≤ hits k (flat_map of (e ∷ all))
    part-one k true less =
        let a = hits-both k (of e) (flat_map of later) in
        let b = hits-both k (of e) (flat_map of all) in
        omega (arith, less, a, b)
    part-one k false less =
        let b = hits-both k (of e) (flat_map of all) in
        omega (arith, less, b)

    whole-one : (k : LinkKey) (b : Bool) → (b ≡ false → hits k (of e) ≡ 0) → hits k (flat_map of later) ≡ hits k (flat_map of all)
        → hits k (flat_map of (with_one b)) ≡ hits k (flat_map of (e ∷ all))
    whole-one k true none same =
        let a = hits-both k (of e) (flat_map of later) in
        let b = hits-both k (of e) (flat_map of all) in
        omega (arith, same, a, b)
    whole-one k false none same =
        let b = hits-both k (of e) (flat_map of all) in
        let zero = none refl in
        omega (arith, same, b, zero)

  part : (k : LinkKey) (es : List (Place × X)) → hits k (flat_map of (flat_map (kept_of those) es)) ≤ hits k (flat_map of es)
  part k [] = omega arith
  part k (e ∷ es) = part-one e (flat_map (kept_of those) es) es k (test e.0 e.1) (part k es)

  whole : (k : LinkKey) → ((e : Place × X) → test e.0 e.1 ≡ false → hits k (of e) ≡ 0) → (es : List (Place × X))
      → hits k (flat_map of (flat_map (kept_of those) es)) ≡ hits k (flat_map of es)
  whole k none [] = refl
  whole k none (e ∷ es) = whole-one e (flat_map (kept_of those) es) es k (test e.0 e.1) (none e) (whole k none es)

  -- what holds of the keys of those that pass
  holds : (P : LinkKey → Type 0) → ((e : Place × X) → test e.0 e.1 ≡ true → AllByRecursion P (of e)) → (es : List (Place × X))
      → AllByRecursion P (flat_map of (flat_map (kept_of those) es))
  holds P each [] = tt
  holds P each (e ∷ es) = by (holds P each es) (test e.0 e.1) refl
    where
      both : (xs ys : List LinkKey) → AllByRecursion P xs → AllByRecursion P ys → AllByRecursion P (xs ++ ys)
      both [] ys a b = b
      both (x ∷ xs) ys a b = (a.0, both xs ys a.1 b)

      by : AllByRecursion P (flat_map of (flat_map (kept_of those) es)) → (b : Bool) → test e.0 e.1 ≡ b
          → AllByRecursion P (flat_map of (map (λ v. (e.0, v)) (option_to_list (cond b (Some e.1) None)) ++ flat_map (kept_of those) es))
      by later true t = both (of e) (flat_map of (flat_map (kept_of those) es)) (each e t) later
      by later false t = later

  module _ (m : FinMap place_cmp X) where
    passed : entries (passing test m) ≡ flat_map (kept_of those) (entries m)
    passed = maps.entries-chosen places_total places_exact those m

    part-of : (k : LinkKey) → hits k (flat_map of (entries (passing test m))) ≤ hits k (flat_map of (entries m))
    part-of k = let some = part k (entries m) in let same = ap (λ es. hits k (flat_map of es)) passed in omega (arith, some, same)

    whole-of : (k : LinkKey) → ((e : Place × X) → test e.0 e.1 ≡ false → hits k (of e) ≡ 0)
        → hits k (flat_map of (entries (passing test m))) ≡ hits k (flat_map of (entries m))
    whole-of k none = ap (λ es. hits k (flat_map of es)) passed ∙ whole k none (entries m)

    holds-of : (P : LinkKey → Type 0) → ((e : Place × X) → test e.0 e.1 ≡ true → AllByRecursion P (of e))
        → AllByRecursion P (flat_map of (entries (passing test m)))
    holds-of P each = subst (λ es. AllByRecursion P (flat_map of es)) (sym passed) (holds P each (entries m))

-- ---- the members of a key are those of all messages and delivery receipts

abbrev message_keys : SettingsValue → Place × Message → List LinkKey
message_keys s e = option_to_list (accepted_key s e.1)

abbrev receipt_keys : SettingsValue → Place × ReceivedReceipt → List LinkKey
receipt_keys s e = receipt_key s e.1 ∷ []

abbrev said_keys : SettingsValue → Place × Item → List LinkKey
said_keys s e = option_to_list (said_key s e.1)

keys-of : (s : SettingsValue) (ms : List (Place × Message)) (rs : List (Place × ReceivedReceipt))
    → flat_map (said_keys s) (all_said ms rs) ≡ flat_map (message_keys s) ms ++ flat_map (receipt_keys s) rs
keys-of s [] [] = refl
keys-of s [] (r ∷ rs) = ap (λ (ks : List LinkKey). receipt_key s r.1 ∷ ks) (keys-of s [] rs)
keys-of s (m ∷ ms) rs =
    ap (λ (ks : List LinkKey). message_keys s m ++ ks) (keys-of s ms rs)
    ∙ sym (append_assoc (message_keys s m) (flat_map (message_keys s) ms) (flat_map (receipt_keys s) rs))

matched : (s : SettingsValue) (k : LinkKey) (es : List (Place × Message))
    → count_by (same_key k) (map (λ e. e.1) (flat_map (kept_of (λ place m. accepted_key s m)) es)) ≡ hits k (flat_map (message_keys s) es)
matched s k [] = refl
matched s k (e ∷ es) = by (accepted_key s e.1) (matched s k es)
  where
    by : (o : Option LinkKey) → count_by (same_key k) (map (λ e. e.1) (flat_map (kept_of (λ place m. accepted_key s m)) es)) ≡ hits k (flat_map (message_keys s) es)
        → count_by (same_key k) (map (λ (e : Place × LinkKey). e.1) (map (λ y. (e.0, y)) (option_to_list o) ++ flat_map (kept_of (λ place m. accepted_key s m)) es))
        ≡ hits k (option_to_list o ++ flat_map (message_keys s) es)
    by None same = same
    by (Some x) same =
        let a = sum_by-cons (λ c. cond (same_key k c) 1 0) x (map (λ (e : Place × LinkKey). e.1) (flat_map (kept_of (λ place m. accepted_key s m)) es)) in
        let b = sum_by-cons (λ c. cond (same_key k c) 1 0) x (flat_map (message_keys s) es) in
        omega (arith, same, a, b)

received : (s : SettingsValue) (k : LinkKey) (es : List (Place × ReceivedReceipt))
    → count_by (λ r. same_key k r.key) (map (λ e. e.1) (flat_map (kept_of (λ place r. Some (keyed_receipt s r))) es)) ≡ hits k (flat_map (receipt_keys s) es)
received s k [] = refl
received s k (e ∷ es) =
    let a = sum_by-cons (λ (r : GroupedReceipt). cond (same_key k r.key) 1 0) (keyed_receipt s e.1)
    (map (λ (e : Place × GroupedReceipt). e.1) (flat_map (kept_of (λ place r. Some (keyed_receipt s r))) es)) in
    let b = sum_by-cons (λ c. cond (same_key k c) 1 0) (receipt_key s e.1) (flat_map (receipt_keys s) es) in
    let rest = received s k es in
    omega (arith, a, b, rest)

module _ (s : SettingsValue) (t : TrafficValue) where
  members-are : (k : LinkKey) → members (grouping_of s t) k ≡ hits k (flat_map (message_keys s) (entries t.messages)) + hits k (flat_map (receipt_keys s) (entries t.receipts))
  members-are k =
      let a = ap (λ (es : List (Place × LinkKey)). count_by (same_key k) (map (λ e. e.1) es)) (maps.entries-chosen places_total places_exact (λ place m. accepted_key s m) t.messages) in
      let b = ap (λ (es : List (Place × GroupedReceipt)). count_by (λ r. same_key k r.key) (map (λ e. e.1) es)) (maps.entries-chosen places_total places_exact (λ place r. Some (keyed_receipt s r)) t.receipts) in
      let c = matched s k (entries t.messages) in
      let d = received s k (entries t.receipts) in
      omega (arith, a, b, c, d)

  module _ (link : LinkId) where
    abbrev on_link : Place → Message → Bool
    on_link place m = m.link.0 == link.0

    abbrev receipt_on_link : Place → ReceivedReceipt → Bool
    receipt_on_link place r = r.link.0 == link.0

    -- the keys of a link's messages and delivery receipts
    abbrev link_keys : List LinkKey
    link_keys = flat_map (message_keys s) (entries (link_messages link t)) ++ flat_map (receipt_keys s) (entries (link_receipts link t))

    -- those of what has a key alone
    keyed-keys : flat_map (said_keys s) (keyed_on link t) ≡ link_keys
    keyed-keys = keys-of s (entries (accepted_on link t)) (entries (link_receipts link t))
        ∙ ap (λ (ks : List LinkKey). ks ++ flat_map (receipt_keys s) (entries (link_receipts link t))) (same-keys s link t)

    keys-few : (k : LinkKey) → hits k link_keys ≤ members (grouping_of s t) k
    keys-few k =
        let all = members-are k in
        let both = hits-both k (flat_map (message_keys s) (entries (link_messages link t))) (flat_map (receipt_keys s) (entries (link_receipts link t))) in
        let a = part-of (message_keys s) on_link t.messages k in
        let b = part-of (receipt_keys s) receipt_on_link t.receipts k in
        omega (arith, all, both, a, b)

    other-key : (k x : LinkKey) → k.link ≡ link → (x.link.0 == link.0) ≡ false → hits k (x ∷ []) ≡ 0
    other-key k x of apart = by (same_key k x) refl
      where
        by : (b : Bool) → same_key k x ≡ b → hits k (x ∷ []) ≡ 0
        by true t =
            absurd (false≢true (sym apart ∙ ap (λ (l : LinkId). l.0 == link.0) (sym (ap (λ (y : LinkKey). y.link) (one_key k x t)) ∙ of) ∙ eq-eqb link.0 link.0 refl))
        by false t =
            let sum = sum_by-cons (λ c. cond (same_key k c) 1 0) x [] in
            let none : ◌≡◌ {A = ℕ} (cond (same_key k x) 1 0) 0 = ap (λ b. cond b 1 0) t in
            omega (arith, sum, none)

    -- all members of a key of the link are among them
    keys-all : (k : LinkKey) → k.link ≡ link → hits k link_keys ≡ members (grouping_of s t) k
    keys-all k of =
        let all = members-are k in
        let both = hits-both k (flat_map (message_keys s) (entries (link_messages link t))) (flat_map (receipt_keys s) (entries (link_receipts link t))) in
        let a = whole-of (message_keys s) on_link t.messages k (λ e apart. messages-apart e (accepted_id e.1.response) apart) in
        let b = whole-of (receipt_keys s) receipt_on_link t.receipts k (λ e apart. other-key k (receipt_key s e.1) of apart) in
        omega (arith, all, both, a, b)
      where
        messages-apart : (e : Place × Message) (id : Option (List ℕ)) → (e.1.link.0 == link.0) ≡ false
            → hits k (option_to_list (option_map (link_key e.1.link (forms_of s e.1.link).response) id)) ≡ 0
        messages-apart e None apart = refl
        messages-apart e (Some id) apart = other-key k (link_key e.1.link (forms_of s e.1.link).response id) of apart

    same-link : (l : LinkId) → (l.0 == link.0) ≡ true → l ≡ link
    same-link l t = ap (λ n. record { 0 = n }) (eqb-true l.0 link.0 t)

    -- and they are of the link
    keys-linked : AllByRecursion (λ (k : LinkKey). k.link ≡ link) link_keys
    keys-linked = all-both (flat_map (message_keys s) (entries (link_messages link t))) (flat_map (receipt_keys s) (entries (link_receipts link t)))
        (holds-of (message_keys s) on_link t.messages (λ (k : LinkKey). k.link ≡ link) (λ e on. of-message e (accepted_id e.1.response) on))
        (holds-of (receipt_keys s) receipt_on_link t.receipts (λ (k : LinkKey). k.link ≡ link) (λ e on. (same-link e.1.link on, tt)))
      where
        all-both : (xs ys : List LinkKey) → AllByRecursion (λ (k : LinkKey). k.link ≡ link) xs → AllByRecursion (λ (k : LinkKey). k.link ≡ link) ys
            → AllByRecursion (λ (k : LinkKey). k.link ≡ link) (xs ++ ys)
        all-both [] ys a b = b
        all-both (x ∷ xs) ys a b = (a.0, all-both xs ys a.1 b)

        of-message : (e : Place × Message) (id : Option (List ℕ)) → (e.1.link.0 == link.0) ≡ true
            → AllByRecursion (λ (k : LinkKey). k.link ≡ link) (option_to_list (option_map (link_key e.1.link (forms_of s e.1.link).response) id))
        of-message e None on = tt
        of-message e (Some id) on = (same-link e.1.link on, tt)

sum-less : (f g : LinkKey → ℕ) (P : LinkKey → Type 0) → ((k : LinkKey) → P k → f k ≤ g k) → (ks : List LinkKey) → AllByRecursion P ks → sum_by f ks ≤ sum_by g ks
sum-less f g P each [] a = omega arith
sum-less f g P each (k ∷ ks) a =
    let x = sum_by-cons f k ks in
    let y = sum_by-cons g k ks in
    let one = each k a.0 in
    let rest = sum-less f g P each ks a.1 in
    omega (arith, x, y, one, rest)

-- the members of what is put in under new forms that were there under the old ones
few-were : (s z : SettingsValue) (t : TrafficValue) (link : LinkId)
    → 2 * sum_by (members (grouping_of s t)) (link_keys z t link)
    ≤ sum_by (members (grouping_of z t)) (link_keys z t link) + sum_by (members (grouping_of s t)) (link_keys s t link)
few-were s z t link =
    let old = link_keys s t link in
    let new = link_keys z t link in
    let met = sum-less (members (grouping_of s t)) (λ k. hits k old) (λ (k : LinkKey). k.link ≡ link)
    (λ k of. (let same = keys-all s t link k of in omega (arith, same))) new (keys-linked z t link) in
    let few = few-meet new old in
    let a = sum_by-le-sum_by (λ k. hits k new) (members (grouping_of z t)) new (keys-few z t link) in
    let b = sum_by-le-sum_by (λ k. hits k old) (members (grouping_of s t)) old (keys-few s t link) in
    omega (arith, met, few, a, b)

-- ---- what all of a link costs, and weighs

sum-more : (g : Grouping) (o : Option LinkKey) (ks : List LinkKey) → sum_by (members g) (option_to_list o ++ ks) ≡ members_at g o + sum_by (members g) ks
sum-more g None ks = omega arith
sum-more g (Some k) ks = sum_by-cons (members g) k ks

-- the members of the keys of messages and delivery receipts
abbrev said_sum : Grouping → SettingsValue → List (Place × Item) → ℕ
said_sum g s es = sum_by (members g) (flat_map (said_keys s) es)

-- what stands at a place is a member of its key
module _ (s : SettingsValue) (t : TrafficValue) (q : Place) where
  key-there : (d : Dir) (x : Item) → item_in d t q ≡ Some x → key_in d (grouping_of s t) q ≡ said_key s x
  key-there FromClient x there = by (get t.messages q) refl there
    where
      by : (found : Option Message) → get t.messages q ≡ found → option_map said.Message found ≡ Some x → get (grouping_of s t).submits q ≡ said_key s x
      by None at e = absurd cc
      by (Some m) at e = let same : said.Message m ≡ x = cc in submit-there s q t m at ∙ ap (said_key s) same
  key-there FromCentre x there = by (get t.receipts q) refl there
    where
      by : (found : Option ReceivedReceipt) → get t.receipts q ≡ found → option_map said.Receipt found ≡ Some x
          → receipt_key_at (grouping_of s t) q ≡ said_key s x
      by None at e = absurd cc
      by (Some r) at e =
          let same : said.Receipt r ≡ x = cc in ap (option_map (λ (r : GroupedReceipt). r.key)) (receipt-there s q t r at) ∙ ap (said_key s) same

-- what takes and puts cost
module _ (p : PresentValue) (i : Index) (is : IsIndexed p i) (z : SettingsValue) (h : GroupsValue) (n : Grouping) (went : MembersGo i.groups h) where
  abbrev t : TrafficValue
  t = traffic_of p.sessions

  members-are-now : i.groups.members ≡ groups p
  members-are-now = ap (λ (h : Holding). h.members) is.held.held ∙ ap (grouping_of p.settings) is.traffic

  loaded : (key : Option LinkKey) → taken_of i.groups key ≡ 33 * members_at (groups p) key
  loaded None = refl
  loaded (Some key) =
      let none : vacancies i.groups key ≡ 0 = ap (λ (vacant : List LinkKey). count_by (same_key key) vacant) is.pending.vacant in
      let same = ap (λ (g : Grouping). members g key) members-are-now in
      omega (arith, none, same)

  walked : (key : Option LinkKey) → walk_of h n key ≤ 2 * members_at (groups p) key + 15 * members_at n key
  walked None = omega arith
  walked (Some key) =
      let vacant = went.vacant key in
      let load = loaded (Some key) in
      let same = ap (λ (g : Grouping). members g key) members-are-now in
      omega (arith, vacant, load, same)

  cost : (es : List (Place × Item)) → AllByRecursion (IsThere t) es
      → sum_by (taken_load i.groups) (map (λ e. e.0) es) + sum_by (put_load h n z) es
      ≤ 92 * length es + 33 * said_sum (groups p) p.settings es + 2 * said_sum (groups p) z es + 15 * said_sum n z es
  cost [] a = omega arith
  cost (e ∷ es) a =
      let b = sum_by-cons (taken_load i.groups) e.0 (map (λ e. e.0) es) in
      let c = sum_by-cons (put_load h n z) e es in
      let here = ap (taken_of i.groups) (ap (λ (g : Grouping). key_in e.0.dir g e.0) members-are-now ∙ key-there p.settings t e.0 e.0.dir e.1 a.0) in
      let load = loaded (said_key p.settings e.1) in
      let walk = walked (said_key z e.1) in
      let x = sum-more (groups p) (said_key p.settings e.1) (flat_map (said_keys p.settings) es) in
      let y = sum-more (groups p) (said_key z e.1) (flat_map (said_keys z) es) in
      let w = sum-more n (said_key z e.1) (flat_map (said_keys z) es) in
      let rest = cost es a.1 in
      omega (arith, b, c, here, load, walk, x, y, w, rest)

-- what they weigh
module _ (p : PresentValue) (is : IsTraffic (traffic_of p.sessions)) where
  abbrev said_now : TrafficValue
  said_now = traffic_of p.sessions

  weighs : (q : Place) (x : Item) (d : Dir) → q.dir ≡ d → item_in d said_now q ≡ Some x → 1 + members_at (groups p) (said_key p.settings x) ≤ weight p q
  weighs q x FromClient stands there = by (said_key p.settings x) (key-there p.settings said_now q FromClient x there)
    where
      by : (o : Option LinkKey) → get (groups p).submits q ≡ o → 1 + members_at (groups p) o ≤ weight p q
      by None at = omega arith
      by (Some key) at =
          let own : ◌≡◌ {A = ℕ} (weight p q) (1 + members (groups p) key) =
          ap (λ (o : Option LinkKey). 1 + unwrap_or (option_map (members (groups p)) (option_or o
          (option_or (option_map (λ r. r.key) (get (groups p).receipts q))
          (option_and_then (λ pair. get (groups p).submits pair.request) (pair_in p q))))) 0) at in
          omega (arith, own)
  weighs q x FromCentre stands there = by (said_key p.settings x) (key-there p.settings said_now q FromCentre x there)
    where
      none : get (groups p).submits q ≡ None
      none = submit-absent p.settings q said_now (no-message said_now is q stands)

      by : (o : Option LinkKey) → receipt_key_at (groups p) q ≡ o → 1 + members_at (groups p) o ≤ weight p q
      by None at = omega arith
      by (Some key) at =
          let own : ◌≡◌ {A = ℕ} (weight p q) (1 + members (groups p) key) =
          (λ j. 1 + unwrap_or (option_map (members (groups p)) (option_or (none j)
          (option_or (at j) (option_and_then (λ pair. get (groups p).submits pair.request) (pair_in p q))))) 0) in
          omega (arith, own)

  weigh : (es : List (Place × Item)) → AllByRecursion (IsThere said_now) es → length es + said_sum (groups p) p.settings es ≤ weights p (map (λ e. e.0) es)
  weigh [] a = omega arith
  weigh (e ∷ es) a =
      let one = weighs e.0 e.1 e.0.dir refl a.0 in
      let x = sum-more (groups p) (said_key p.settings e.1) (flat_map (said_keys p.settings) es) in
      let y = sum_by-cons (weight p) e.0 (map (λ e. e.0) es) in
      let rest = weigh es a.1 in
      omega (arith, one, x, y, rest)

  link-weighs : (link : LinkId)
      → length (entries (link_messages link said_now)) + length (entries (link_receipts link said_now))
      + sum_by (members (groups p)) (link_keys p.settings said_now link) ≤ weights p (link_places link said_now)
  link-weighs link =
      let ms = entries (link_messages link said_now) in
      let rs = entries (link_receipts link said_now) in
      let all = weigh (all_said ms rs)
      (all-there said_now is (λ place (m : Message). m.link.0 == link.0) (λ place (r : ReceivedReceipt). r.link.0 == link.0)) in
      let many = length-all ms rs in
      let keys = ap (sum_by (members (groups p))) (keys-of p.settings ms rs) in
      let places = ap (weights p) (places-of ms rs) in
      omega (arith, all, many, keys, places)

-- forms that are set
pub forms-bound : (p : PresentValue) (i : Index) → IsIndexed p i → (link : LinkId) (response receipt : Form)
    → (z : SettingsValue) (h : GroupsValue) (n : Grouping) → MembersGo i.groups h
    → z ≡ (change p (SetForm link response receipt)).settings → n ≡ groups (change p (SetForm link response receipt))
    → 2 + length (keyed_places link (traffic_of p.sessions)) + sum_by (taken_load i.groups) (keyed_places link (traffic_of p.sessions))
    + sum_by (put_load h n z) (keyed_on link (traffic_of p.sessions))
    ≤ 64 * (1 + reach p (SetForm link response receipt))
forms-bound p i indexed link response receipt z h n went settings members_then =
    let q = change p (SetForm link response receipt) in
    let t = traffic_of p.sessions in
    let is : IsTraffic t = subst IsTraffic indexed.traffic indexed.held.traffic in
    let accepted = entries (accepted_on link t) in
    let rs = entries (link_receipts link t) in
    let keyed = keyed_on link t in
    let all = cost p i indexed z h n went keyed
    (all-there t is (λ place (m : Message). m.link.0 == link.0 && is_accepted m) (λ place (r : ReceivedReceipt). r.link.0 == link.0)) in
    let places = places-of accepted rs in
    let takes = ap (sum_by (taken_load i.groups)) places in
    let looks = ap (λ (qs : List Place). length qs) places in
    let placed = length-map keyed (λ (e : Place × Item). e.0) in
    let many = length-all accepted rs in
    let some : length accepted ≤ length (entries (link_messages link t)) = fewer p.settings link t in
    let old_keys = ap (sum_by (members (groups p))) (keyed-keys p.settings t link) in
    let keys_then = ap (sum_by (members (groups p))) (keyed-keys z t link) in
    let new_keys = ap (sum_by (members n)) (keyed-keys z t link) in
    let before = link-weighs p is link in
    let after = link-weighs q is link in
    let were = few-were p.settings z t link in
    let new : grouping_of z t ≡ n = ap (λ (s : SettingsValue). grouping_of s t) settings ∙ sym members_then in
    let f = ap (λ (g : Grouping). sum_by (members g) (link_keys z t link)) new in
    let g : sum_by (members n) (link_keys z t link) ≡ sum_by (members (groups q)) (link_keys q.settings t link) =
    (λ j. sum_by (members (members_then j)) (link_keys (settings j) t link)) in
    omega (arith, all, takes, looks, placed, many, some, old_keys, keys_then, new_keys, before, after, were, f, g)
