-- The changes that a move tells are no more than the members of its key, and two.
use Rattle.std.proofs.Common.{◌≡◌, ℕ, ◌+◌, ◌*◌, ◌≤◌, Bool, true, false, cond, ◌||◌, List, [], ◌∷◌, length, Option, Some, None, refl, sym, ap, subst, ◌∙◌, arith}
use Rattle.std.specs.Prelude.{not, map, filter, is_some, option_and_then, option_map}
use Rattle.std.specs.List.{AllByRecursion, list_any}
use Rattle.std.specs.List.Sorted.{IsStrictlySortedBy}
use Rattle.std.specs.declared.cmp.Ordering.TheVariants.{Less}
use Rattle.std.specs.Ordering.{eq_by_cmp, is_eq}
use Rattle.std.specs.Cmp.{tied_itself}
use Rattle.std.specs.FinMap.{FinMap, get, insert, remove, keys}
use Rattle.std.proofs.lemmas.Bool.{false≢true}
use Rattle.std.proofs.lemmas.List.{length-append, length-map}
use Rattle.std.proofs.lemmas.List.Sums.{sum_by-cons}
use Rattle.std.proofs.lemmas.Map.Keys.{sorted_head, sorted_tail}
use Rattle.smq_kit.specs.declared.link_key.LinkKey.{LinkKey}
use Rattle.smq_kit.specs.declared.place.Dir.{Dir}
use Rattle.smq_kit.specs.declared.place.Dir.TheVariants.{FromClient, FromCentre}
use Rattle.smq_kit.specs.declared.place.Place.{Place}
use Rattle.smq_kit.specs.LinkKeys.{same_key}
use Rattle.smq_kit.specs.Maps.{SameOutside, set_at, share}
use Rattle.smq_kit.specs.Orders.{place_cmp}
use Rattle.smq_kit.proofs.MapLemmas as maps
use Rattle.smq_kit.proofs.PlaceOrders.{places_total, places_exact}
use Rattle.smq_group.specs.declared.change.Change.{Change}
use Rattle.smq_group.specs.declared.change.Standing.{Standing}
use Rattle.smq_group.specs.Changes.{TellsChanges, changed, receipt_at, submit_at, told_at, told_of_receipt, told_of_submit}
use Rattle.smq_group.specs.Groups.{GroupsValue, vacancies, with_receipt, with_submit, without_receipt, without_submit}
use Rattle.smq_group.specs.Matching.{Grouping, GroupedReceipt, receipt_standing, submit_standing}
use Rattle.smq_present.specs.join.Moves.{receipt_standings_of, standings_of}
use Rattle.smq_present.specs.pairing.Traffic.{Message, ReceivedReceipt, TrafficValue}
use Rattle.smq_book.specs.edits.Reach.{members}
use Rattle.smq_book.specs.edits.Reached.{IsMoveOf, key_receipts, key_submits}
use Rattle.smq_book.specs.index.Touches.{MembersGo, is_key, key_in, taken_load, taken_of, receipt_key_at}
use Rattle.smq_book.proofs.lemmas.edits.KeyMoves.{receipt-groups-outside, groups-outside}
use Rattle.smq_book.proofs.lemmas.edits.ReachBounds.{members-number}
use Rattle.smq_book.proofs.lemmas.index.Costs.{unchanged}
use Rattle.smq_group.proofs.Earliest.{own_key}

-- ---- places that stand in order

-- whether a place is among some
abbrev among : Place → List Place → Bool
among q ps = list_any (eq_by_cmp place_cmp q) ps

itself : (q : Place) → eq_by_cmp place_cmp q q ≡ true
itself q = ap is_eq (tied_itself places_total q)

or_true : (a b : Bool) → b ≡ true → (a || b) ≡ true
or_true true b e = refl
or_true false b e = e

-- what holds of each of some places holds of one among them
of-among : (P : Place → Type 0) (ps : List Place) → AllByRecursion P ps → (q : Place) → among q ps ≡ true → P q
of-among P [] a q is_in = absurd (false≢true is_in)
of-among P (p ∷ ps) a q is_in = by (of-among P ps a.1 q) (eq_by_cmp place_cmp q p) refl is_in
  where
    by : (among q ps ≡ true → P q) → (b : Bool) → eq_by_cmp place_cmp q p ≡ b → (b || among q ps) ≡ true → P q
    by rest true t is_in = subst P (sym (maps.same_key places_total places_exact q p t)) a.0
    by rest false f is_in = rest is_in

-- the places that aren't this one
abbrev others : Place → List Place → List Place
others p qs = filter (λ q. not (eq_by_cmp place_cmp p q)) qs

others-few : (p : Place) (qs : List Place) → length (others p qs) ≤ length qs
others-few p [] = omega arith
others-few p (q ∷ qs) =
    let rest = others-few p qs in
    elim (eq_by_cmp place_cmp p q) as (λ b. length (cond (not b) (q ∷ others p qs) (others p qs)) ≤ length (q ∷ qs)) [
      | true ↦ omega (arith, rest)
      | false ↦ omega (arith, rest)
    ]

others-fewer : (p : Place) (qs : List Place) → among p qs ≡ true → 1 + length (others p qs) ≤ length qs
others-fewer p [] is_in = absurd (false≢true is_in)
others-fewer p (q ∷ qs) is_in =
    let few = others-few p qs in
    elim (eq_by_cmp place_cmp p q) as (λ b. (b || among p qs) ≡ true → 1 + length (cond (not b) (q ∷ others p qs) (others p qs)) ≤ length (q ∷ qs)) [
      | true ↦ λ is_in. omega (arith, few)
      | false ↦ λ is_in. (let rest = others-fewer p qs is_in in omega (arith, rest))
    ] is_in

-- another place is among them as before
others-among : (p q : Place) (qs : List Place) → eq_by_cmp place_cmp p q ≡ false → among q qs ≡ true → among q (others p qs) ≡ true
others-among p q [] apart is_in = is_in
others-among p q (r ∷ qs) apart is_in =
    elim (eq_by_cmp place_cmp p r) as (λ b. eq_by_cmp place_cmp p r ≡ b → among q (cond (not b) (r ∷ others p qs) (others p qs)) ≡ true) [
      | true ↦ λ t. others-among p q qs apart (rest (eq_by_cmp place_cmp q r) refl is_in (maps.same_key places_total places_exact p r t))
      | false ↦ λ t. there (others-among p q qs apart) (eq_by_cmp place_cmp q r) is_in
    ] refl
  where
    rest : (b : Bool) → eq_by_cmp place_cmp q r ≡ b → (b || among q qs) ≡ true → p ≡ r → among q qs ≡ true
    rest true t is_in same =
        let one : q ≡ p = maps.same_key places_total places_exact q r t ∙ sym same in
        absurd (false≢true (sym apart ∙ ap (eq_by_cmp place_cmp p) one ∙ itself p))
    rest false t is_in same = is_in

    there : (among q qs ≡ true → among q (others p qs) ≡ true) → (b : Bool) → (b || among q qs) ≡ true → (b || among q (others p qs)) ≡ true
    there later true is_in = refl
    there later false is_in = later is_in

-- places in order that are all among some are no more than these
few : (ps qs : List Place) → IsStrictlySortedBy place_cmp ps → ((q : Place) → among q ps ≡ true → among q qs ≡ true) → length ps ≤ length qs
few [] qs sorted all = omega arith
few (p ∷ ps) qs sorted all =
    let less = others-fewer p qs (all p (ap (λ b. b || among p ps) (itself p))) in
    let rest = few ps (others p qs) (sorted_tail place_cmp p ps sorted) (λ q is_in.
    others-among p q qs (ap is_eq (of-among (λ r. place_cmp p r ≡ Less) ps (sorted_head place_cmp p ps sorted) q is_in))
    (all q (or_true (eq_by_cmp place_cmp q p) (among q ps) is_in))) in
    omega (arith, less, rest)

-- ---- what is told

told-among : (cs : List Change) (q : Place) → among q (map (λ c. c.place) cs) ≡ true → is_some (told_at q cs) ≡ true
told-among [] q is_in = is_in
told-among (c ∷ cs) q is_in =
    elim (eq_by_cmp place_cmp q c.place) as (λ b. (b || among q (map (λ c. c.place) cs)) ≡ true → is_some (cond b (Some c.standing) (told_at q cs)) ≡ true) [
      | true ↦ λ is_in. refl
      | false ↦ λ is_in. told-among cs q is_in
    ] is_in

-- a standing that stays isn't told
stays-untold : (x y : Option Standing) → x ≡ y → is_some (changed x y) ≡ false
stays-untold x y same = ap is_some (ap (λ z. changed z y) same ∙ sym (unchanged y))

submit-by : (g : Grouping) (q : Place) (x : Option LinkKey)
    → option_map (λ key. told_of_submit (submit_standing g key)) x ≡ option_map told_of_submit (option_and_then (λ key. Some (submit_standing g key)) x)
submit-by g q None = refl
submit-by g q (Some key) = refl

submit-seen : (g : Grouping) (q : Place) → submit_at g q ≡ option_map told_of_submit (get (standings_of g) q)
submit-seen g q =
    submit-by g q (get g.submits q)
    ∙ ap (option_map told_of_submit) (sym (maps.get-chosen places_total places_exact (λ place key. Some (submit_standing g key)) g.submits q))

receipt-by : (g : Grouping) (q : Place) (x : Option GroupedReceipt)
    → option_map (λ r. told_of_receipt (receipt_standing g q r)) x ≡ option_map told_of_receipt (option_and_then (λ r. Some (receipt_standing g q r)) x)
receipt-by g q None = refl
receipt-by g q (Some r) = refl

receipt-seen : (g : Grouping) (q : Place) → receipt_at g q ≡ option_map told_of_receipt (get (receipt_standings_of g) q)
receipt-seen g q =
    receipt-by g q (get g.receipts q)
    ∙ ap (option_map told_of_receipt) (sym (maps.get-chosen places_total places_exact (λ place r. Some (receipt_standing g place r)) g.receipts q))

among-by : (b : Bool) (A : Type 0) → (b ≡ false → false ≡ true) → b ≡ true
among-by true A h = refl
among-by false A h = h refl

-- the changes are no more than the places outside of which no standing changes
module _ (g h : Grouping) (cs : List Change) (tells : TellsChanges g h cs) where
  pub told-few : (ps qs : List Place) → SameOutside ps (standings_of g) (standings_of h)
      → SameOutside qs (receipt_standings_of g) (receipt_standings_of h) → length cs ≤ length ps + length qs
  told-few ps qs submits receipts =
      let of-submits = few (map (λ c. c.place) tells.submits) ps tells.submits_by_place (λ q is_in.
      among-by (among q ps) Place (λ out.
      sym (stays-untold (submit_at g q) (submit_at h q)
      (submit-seen g q ∙ ap (option_map told_of_submit) (submits.at q out) ∙ sym (submit-seen h q)))
      ∙ ap is_some (sym (tells.each_submit q)) ∙ told-among tells.submits q is_in)) in
      let of-receipts = few (map (λ c. c.place) tells.receipts) qs tells.receipts_by_place (λ q is_in.
      among-by (among q qs) Place (λ out.
      sym (stays-untold (receipt_at g q) (receipt_at h q)
      (receipt-seen g q ∙ ap (option_map told_of_receipt) (receipts.at q out) ∙ sym (receipt-seen h q)))
      ∙ ap is_some (sym (tells.each_receipt q)) ∙ told-among tells.receipts q is_in)) in
      let many = ap length tells.parts ∙ length-append tells.submits tells.receipts in
      let one = length-map tells.submits (λ c. c.place) in
      let two = length-map tells.receipts (λ c. c.place) in
      omega (arith, of-submits, of-receipts, many, one, two)

  -- what stands at one place and is of one key changes no more than its members, and two
  pub few-changes : (key : LinkKey) (q : Place) → IsMoveOf key q g h → length cs ≤ members g key + 2
  few-changes key q move =
      let all = told-few (q ∷ keys (key_submits g key)) (q ∷ keys (key_receipts g key))
      (groups-outside key q g h move) (receipt-groups-outside key q g h move) in
      let many = members-number g key in
      omega (arith, all, many)

-- ---- what is put in or taken out

module _ {X : Type 0} (m : FinMap place_cmp X) (q : Place) where
  set-outside : (v : Option X) → SameOutside (q ∷ []) m (set_at m q v)
  set-outside v = record {
    at = λ p out. sym (maps.get-set_at places_total places_exact m q v p ∙ ap (λ b. cond b v (get m p)) (alone (eq_by_cmp place_cmp p q) out));
  }
    where
      alone : (b : Bool) → (b || false) ≡ false → b ≡ false
      alone true e = e
      alone false e = e

  set-there : (v : Option X) → get (set_at m q v) q ≡ v
  set-there v = maps.get-set_at places_total places_exact m q v q ∙ ap (λ b. cond b v (get m q)) (itself q)

same-outside : {X : Type 0} (ks : List Place) (m : FinMap place_cmp X) → SameOutside ks m m
same-outside ks m = record { at = λ p out. refl }

pub not-there : {A X : Type 0} (x : Option X) (v : X) → x ≡ None → x ≡ Some v → A
not-there {A = A} {X = X} x v none some = by (sym none ∙ some)
  where
    by : ◌≡◌ {A = Option X} None (Some v) → A
    by e = absurd cc

there-one : (x : Option LinkKey) (k key : LinkKey) → x ≡ Some key → x ≡ Some k → k ≡ key
there-one x k key is some = by (sym some ∙ is)
  where
    by : Some k ≡ Some key → k ≡ key
    by e = cc

there-of : (x : Option GroupedReceipt) (r s : GroupedReceipt) → x ≡ Some s → x ≡ Some r → r.key ≡ s.key
there-of x r s is some = by (sym some ∙ is)
  where
    by : Some r ≡ Some s → r.key ≡ s.key
    by e = let one : r ≡ s = cc in ap (λ (x : GroupedReceipt). x.key) one

module _ (g : Grouping) (q : Place) where
  pub submit-put : (key : LinkKey) → get g.submits q ≡ None → get g.receipts q ≡ None → IsMoveOf key q g (with_submit g key q)
  submit-put key none free = record {
    submits = set-outside g.submits q (Some key);
    receipts = same-outside (q ∷ []) g.receipts;
    submit_before = λ k e. not-there (get g.submits q) k none e;
    submit_after = λ k e. there-one (get (insert g.submits q key) q) k key (set-there g.submits q (Some key)) e;
    receipt_before = λ r e. not-there (get g.receipts q) r free e;
    receipt_after = λ r e. not-there (get g.receipts q) r free e;
  }

  pub submit-taken : (key : LinkKey) → get g.submits q ≡ Some key → get g.receipts q ≡ None → IsMoveOf key q g (without_submit g q)
  submit-taken key there free = record {
    submits = set-outside g.submits q None;
    receipts = same-outside (q ∷ []) g.receipts;
    submit_before = λ k e. there-one (get g.submits q) k key there e;
    submit_after = λ k e. not-there (get (remove g.submits q) q) k (set-there g.submits q None) e;
    receipt_before = λ r e. not-there (get g.receipts q) r free e;
    receipt_after = λ r e. not-there (get g.receipts q) r free e;
  }

  pub receipt-put : (r : GroupedReceipt) → get g.receipts q ≡ None → get g.submits q ≡ None → IsMoveOf r.key q g (with_receipt g q r)
  receipt-put r none free = record {
    submits = same-outside (q ∷ []) g.submits;
    receipts = set-outside g.receipts q (Some r);
    submit_before = λ k e. not-there (get g.submits q) k free e;
    submit_after = λ k e. not-there (get g.submits q) k free e;
    receipt_before = λ x e. not-there (get g.receipts q) x none e;
    receipt_after = λ x e. there-of (get (insert g.receipts q r) q) x r (set-there g.receipts q (Some r)) e;
  }

  pub receipt-taken : (r : GroupedReceipt) → get g.receipts q ≡ Some r → get g.submits q ≡ None → IsMoveOf r.key q g (without_receipt g q)
  receipt-taken r there free = record {
    submits = same-outside (q ∷ []) g.submits;
    receipts = set-outside g.receipts q None;
    submit_before = λ k e. not-there (get g.submits q) k free e;
    submit_after = λ k e. not-there (get g.submits q) k free e;
    receipt_before = λ x e. there-of (get g.receipts q) x r there e;
    receipt_after = λ x e. not-there (get (remove g.receipts q) q) x (set-there g.receipts q None) e;
  }

-- where a delivery receipt stands, no message does
pub no-message-there : (t : TrafficValue) (q : Place) (r : ReceivedReceipt) → ((m : Message) → get t.messages q ≡ Some m → get t.receipts q ≡ None)
    → get t.receipts q ≡ Some r → get t.messages q ≡ None
no-message-there t q r apart there = by (get t.messages q) refl
  where
    by : (x : Option Message) → get t.messages q ≡ x → x ≡ None
    by None is = refl
    by (Some m) is = not-there (get t.receipts q) r (apart m is) there

-- ---- members that go

pub one-share : {X : Type 0} (test : X → Bool) (v : X) → share test (Some v) ≡ cond (test v) 1 0
one-share test v = let sum = sum_by-cons (λ x. cond (test x) 1 0) v [] in omega (arith, sum)

gone-was : {X : Type 0} (m : FinMap place_cmp X) (q p : Place) (v : X) → get (remove m q) p ≡ Some v → get m p ≡ Some v
gone-was m q p v is = by (eq_by_cmp place_cmp p q) (sym (maps.get-set_at places_total places_exact m q None p) ∙ is)
  where
    by : (b : Bool) → cond b None (get m p) ≡ Some v → get m p ≡ Some v
    by true e = absurd cc
    by false e = e

module _ (g h : GroupsValue) (q : Place) where
  -- a message that goes
  pub submit-goes : h.members ≡ without_submit g.members q
      → ((k : LinkKey) → vacancies h k ≤ vacancies g k + cond (is_key k (get g.members.submits q)) 1 0) → MembersGo g h
  submit-goes is vacant = record {
    submits = λ p k there. gone-was g.members.submits q p k (sym (ap (λ (x : Grouping). get x.submits p) is) ∙ there);
    receipts = λ p r there. sym (ap (λ (x : Grouping). get x.receipts p) is) ∙ there;
    fewer = λ k. (let all = count k in omega (arith, all));
    vacant = λ k. (let all = count k in let more = vacant k in let one = share-key k (get g.members.submits q) in omega (arith, all, more, one));
  }
    where
      share-key : (k : LinkKey) (x : Option LinkKey) → cond (is_key k x) 1 0 ≤ share (same_key k) x
      share-key k None = omega arith
      share-key k (Some key) = let one = one-share (same_key k) key in omega (arith, one)

      count : (k : LinkKey) → members h.members k + share (same_key k) (get g.members.submits q) ≡ members g.members k
      count k =
          let all = maps.count-set places_total places_exact (same_key k) g.members.submits q None in
          let same = ap (λ (x : Grouping). members x k) is in
          omega (arith, all, same)

  -- a delivery receipt that goes
  pub receipt-goes : h.members ≡ without_receipt g.members q
      → ((k : LinkKey) → vacancies h k ≤ vacancies g k + cond (is_key k (receipt_key_at g.members q)) 2 0) → MembersGo g h
  receipt-goes is vacant = record {
    submits = λ p k there. sym (ap (λ (x : Grouping). get x.submits p) is) ∙ there;
    receipts = λ p r there. gone-was g.members.receipts q p r (sym (ap (λ (x : Grouping). get x.receipts p) is) ∙ there);
    fewer = λ k. (let all = count k in omega (arith, all));
    vacant = λ k. (let all = count k in let more = vacant k in let one = share-key k (get g.members.receipts q) in omega (arith, all, more, one));
  }
    where
      share-key : (k : LinkKey) (x : Option GroupedReceipt)
          → cond (is_key k (option_map (λ (r : GroupedReceipt). r.key) x)) 2 0 ≤ 2 * share (λ (r : GroupedReceipt). same_key k r.key) x
      share-key k None = omega arith
      share-key k (Some r) =
          let one = one-share (λ (r : GroupedReceipt). same_key k r.key) r in
          elim (same_key k r.key) as (λ b. share (λ (r : GroupedReceipt). same_key k r.key) (Some r) ≡ cond b 1 0
          → cond b 2 0 ≤ 2 * share (λ (r : GroupedReceipt). same_key k r.key) (Some r)) [
            | true ↦ λ e. omega (arith, e)
            | false ↦ λ e. omega (arith, e)
          ] one

      count : (k : LinkKey) → members h.members k + share (λ (r : GroupedReceipt). same_key k r.key) (get g.members.receipts q) ≡ members g.members k
      count k =
          let all = maps.count-set places_total places_exact (λ (r : GroupedReceipt). same_key k r.key) g.members.receipts q None in
          let same = ap (λ (x : Grouping). members x k) is in
          omega (arith, all, same)

pub both-go : (g h i : GroupsValue) → MembersGo g h → MembersGo h i → MembersGo g i
both-go g h i a b = record {
  submits = λ p k there. a.submits p k (b.submits p k there);
  receipts = λ p r there. a.receipts p r (b.receipts p r there);
  fewer = λ k. (let x = a.fewer k in let y = b.fewer k in omega (arith, x, y));
  vacant = λ k. (let x = a.vacant k in let y = b.vacant k in omega (arith, x, y));
}

-- what is there is a member of its key
module _ (g : Grouping) (q : Place) where
  pub submit-counts : (key : LinkKey) → get g.submits q ≡ Some key → 1 ≤ members g key
  submit-counts key there =
      let all = maps.count-set places_total places_exact (same_key key) g.submits q None in
      let here = ap (share (same_key key)) there in
      let one = one-share (same_key key) key in
      let own : ◌≡◌ {A = ℕ} (cond (same_key key key) 1 0) 1 = ap (λ b. cond b 1 0) (own_key key) in
      omega (arith, all, here, one, own)

  pub receipt-counts : (r : GroupedReceipt) → get g.receipts q ≡ Some r → 1 ≤ members g r.key
  receipt-counts r there =
      let all = maps.count-set places_total places_exact (λ (x : GroupedReceipt). same_key r.key x.key) g.receipts q None in
      let here = ap (share (λ (x : GroupedReceipt). same_key r.key x.key)) there in
      let one = one-share (λ (x : GroupedReceipt). same_key r.key x.key) r in
      let own : ◌≡◌ {A = ℕ} (cond (same_key r.key r.key) 1 0) 1 = ap (λ b. cond b 1 0) (own_key r.key) in
      omega (arith, all, here, one, own)

-- what is to be taken out weighs no more once others went
module _ (g h : GroupsValue) (go : MembersGo g h) where
  lighter : (x y : Option LinkKey) → ((k : LinkKey) → x ≡ Some k → y ≡ Some k) → taken_of h x ≤ taken_of g y
  lighter None y was = omega arith
  lighter (Some k) y was =
      let same = ap (taken_of g) (was k refl) in
      let less = go.vacant k in
      let few = go.fewer k in
      omega (arith, same, less, few)

  pub message-lighter : (q : Place) → taken_of h (get h.members.submits q) ≤ taken_of g (get g.members.submits q)
  message-lighter q = lighter (get h.members.submits q) (get g.members.submits q) (go.submits q)

  pub receipt-lighter : (q : Place) → taken_of h (receipt_key_at h.members q) ≤ taken_of g (receipt_key_at g.members q)
  receipt-lighter q = lighter (receipt_key_at h.members q) (receipt_key_at g.members q) (λ k is. by (get h.members.receipts q) refl k is)
    where
      by : (x : Option GroupedReceipt) → get h.members.receipts q ≡ x → (k : LinkKey) → option_map (λ (r : GroupedReceipt). r.key) x ≡ Some k
          → receipt_key_at g.members q ≡ Some k
      by None there k is = absurd cc
      by (Some r) there k is = ap (option_map (λ (r : GroupedReceipt). r.key)) (go.receipts q r there) ∙ is

  pub load-lighter : (q : Place) → taken_load h q ≤ taken_load g q
  load-lighter q = let less = by q.dir in omega (arith, less)
    where
      by : (d : Dir) → taken_of h (key_in d h.members q) ≤ taken_of g (key_in d g.members q)
      by FromClient = message-lighter q
      by FromCentre = receipt-lighter q
