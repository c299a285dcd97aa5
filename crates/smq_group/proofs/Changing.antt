-- What a move of one member changes in the standings of a key's members, and that just this is told.
use Rattle.std.proofs.Common.{◌≡◌, ◌⊎◌, inl, inr, ◌≤◌, Bool, true, false, cond, List, [], ◌∷◌, ◌++◌, Option, Some, None, refl, sym, ap, ◌∙◌, subst, map, filter, arith}
use Rattle.std.specs.Prelude.{◌&&◌, option_map, is_some}
use Rattle.std.specs.declared.cmp.Ordering.{Ordering}
use Rattle.std.specs.declared.cmp.Ordering.TheVariants.{Less, Equal, Greater}
use Rattle.std.specs.Ordering.{eq_by_cmp, is_eq, is_lt, ordering_reverse}
use Rattle.std.specs.Cmp.{eq_by_cmp_equiv}
use Rattle.std.specs.List.{reduce}
use Rattle.std.specs.List.Sorted.{IsStrictlySortedBy}
use Rattle.std.specs.Map.{keys_of}
use Rattle.std.specs.FinMap.{get, get-from_entries}
use Rattle.std.proofs.lemmas.Bool.{cond_both, false≢true, false_from_ne_true}
use Rattle.smq_kit.specs.declared.place.Place.{Place}
use Rattle.smq_kit.specs.declared.link_key.LinkKey.{LinkKey}
use Rattle.smq_kit.specs.Orders.{place_cmp}
use Rattle.smq_kit.specs.Maps.{same_option}
use Rattle.smq_kit.specs.LinkKeys.{same_key}
use Rattle.smq_kit.proofs.PlaceOrders.{places_total}
use Rattle.smq_shelf.proofs.Finds.{and_true}
use Rattle.smq_shelf.proofs.Walks.{and_false}
use Rattle.smq_group.specs.declared.change.Change.{Change}
use Rattle.smq_group.specs.declared.change.Standing.{Standing}
use Rattle.smq_group.specs.declared.change.Standing.TheVariants.{Deciding, Extra, Noted}
use Rattle.smq_group.specs.declared.changes.Added.{Added}
use Rattle.smq_group.specs.declared.changes.Added.TheVariants as put
use Rattle.smq_group.specs.declared.changes.Turn.{Turn}
use Rattle.smq_group.specs.declared.changes.Turn.TheVariants.{Each, Deciders, Newcomer}
use Rattle.smq_group.specs.declared.member.Member.{Member}
use Rattle.smq_group.specs.declared.member.ReceiptFacts.{ReceiptFacts}
use Rattle.smq_group.specs.declared.group_summary.GroupSummary.{GroupSummary}
use Rattle.smq_group.specs.Changes.{TellsChanges, changed, told_at, submit_at, receipt_at, same_standing}
use Rattle.smq_group.specs.Matching as m
use Rattle.smq_group.specs.Matching.{Grouping, GroupedReceipt, candidates, earlier, matches}
use Rattle.smq_group.specs.within.Outlooks.{decider_of, submit_standing_of, receipt_standing_of}
use Rattle.smq_group.specs.within.Stored.{earliest_at, by_place, StandsOnce, submit_value, receipt_value, grouping_in, outlook_in}
use Rattle.smq_group.specs.within.Told.{SubmitsByPlace, ReceiptsByPlace, change_at, same_decider, turn_between, submit_changes, receipt_changes, newcomer_submit, newcomer_receipt, rival, decider_changes, changes_of_submits, told_receipts}
use Rattle.smq_group.specs.within.Walked.{members_in, of_key, placed}
use Rattle.smq_group.proofs.Earliest.{first-is, own_key, one_key}
use Rattle.smq_group.proofs.Placing.{at, none_head, not_none, one_of, own_place, rest_none, same_place, sorted_none, sorted_one, sorted_two, swapped}
use Rattle.smq_group.proofs.Storing.{number-less}
use Rattle.smq_group.proofs.Turning.{anew-is, deciders-after, deciders-before, deciders-submit, each-receipt, each-submit, is_at_place, newcomer-receipt, newcomer-submit, same_at, same_self, standing-itself, told-receipt, told-submit}

-- ---- what the changes of a key's members tell of a place

-- what is told of a member of the key, and of no other
abbrev told_of : {W : Type 0} → (W → LinkKey) → LinkKey → (W → Standing) → Option W → Option Standing
told_of key_of key standing None = None
told_of key_of key standing (Some w) = cond (same_key key (key_of w)) (Some (standing w)) None

module _ {V W : Type 0} (value : LinkKey → V → W) (key_of : W → LinkKey) (keyed : (k : LinkKey) (v : V) → key_of (value k v) ≡ k) (key : LinkKey)
    (standing : Place → V → Standing) (told : Place → W → Standing) (agree : (p : Place) (k : LinkKey) (v : V) → told p (value k v) ≡ standing p v) where
  -- the change of a member
  abbrev change : Place × V → Change
  change m = change_at m.0 (standing m.0 m.1)

  told_at_none : (q : Place) (es : List (Member × V)) → at value q es ≡ None → told_at q (map change (members_in key es)) ≡ None
  told_at_none q [] n = refl
  told_at_none q (e ∷ es) n =
      let rest = told_at_none q es (rest_none (eq_by_cmp place_cmp q e.0.place) (value e.0.key e.1) (at value q es) n) in
      let not_it = false_from_ne_true (eq_by_cmp place_cmp q e.0.place) (λ t. none_head (eq_by_cmp place_cmp q e.0.place) (value e.0.key e.1) (at value q es) t n) in
      cond_both (same_key key e.0.key) (e ∷ filter (of_key key) es) (filter (of_key key) es) (λ xs. told_at q (map change (map placed xs)) ≡ None)
      (λ _. ap (λ b. cond b (Some (standing e.0.place e.1)) (told_at q (map change (members_in key es)))) not_it ∙ rest) (λ _. rest)

  -- the changes of a key's members tell of each of them
  pub told-members : (q : Place) (es : List (Member × V)) → StandsOnce value es → told_at q (map change (members_in key es)) ≡ told_of key_of key (told q) (at value q es)
  told-members q [] o = refl
  told-members q (e ∷ es) o = step (eq_by_cmp place_cmp q e.0.place) (same_key key e.0.key) refl refl (told-members q es o.1)
    where
      step : (a b : Bool) → eq_by_cmp place_cmp q e.0.place ≡ a → same_key key e.0.key ≡ b → told_at q (map change (members_in key es)) ≡ told_of key_of key (told q) (at value q es)
          → told_at q (map change (map placed (cond b (e ∷ filter (of_key key) es) (filter (of_key key) es)))) ≡ told_of key_of key (told q) (cond a (Some (value e.0.key e.1)) (at value q es))
      step true true t s ih =
          ap (λ b. cond b (Some (standing e.0.place e.1)) (told_at q (map change (members_in key es)))) t
          ∙ ap Some (sym (agree e.0.place e.0.key e.1) ∙ ap (λ (p : Place). told p (value e.0.key e.1)) (sym (same_place q e.0.place t)))
          ∙ sym (ap (λ (k : LinkKey). cond (same_key key k) (Some (told q (value e.0.key e.1))) None) (keyed e.0.key e.1) ∙ ap (λ b. cond b (Some (told q (value e.0.key e.1))) None) s)
      step true false t s ih =
          told_at_none q es (ap (λ (p : Place). at value p es) (same_place q e.0.place t) ∙ o.0)
          ∙ sym (ap (λ (k : LinkKey). cond (same_key key k) (Some (told q (value e.0.key e.1))) None) (keyed e.0.key e.1) ∙ ap (λ b. cond b (Some (told q (value e.0.key e.1))) None) s)
      step false true t s ih = ap (λ b. cond b (Some (standing e.0.place e.1)) (told_at q (map change (members_in key es)))) t ∙ ih
      step false false t s ih = ih

-- ---- a move of one member

-- whether the submit that is put in stands at a place
abbrev pub is_new_submit : Added → Place → Bool
is_new_submit (put.Submit p) q = eq_by_cmp place_cmp q p
is_new_submit _ q = false

-- whether the receipt that is put in can decide, at its place
abbrev pub new_receipt : Added → Place → Option Bool
new_receipt (put.Receipt p can) q = cond (eq_by_cmp place_cmp q p) (Some can) None
new_receipt _ q = None

-- at a place a submit of the key comes, or what stood there stays or goes
abbrev pub SubmitMove : LinkKey → Bool → Option LinkKey → Option LinkKey → Type 0
SubmitMove key true x y = (x ≡ None) × (y ≡ Some key)
SubmitMove key false x y = (y ≡ x) ⊎ (y ≡ None)

-- A receipt of the key that can decide or not.
pub record IsOfKey (key : LinkKey) (can : Bool) (y : Option GroupedReceipt) : Type 0 where
  pub r : GroupedReceipt
  pub is : y ≡ Some r
  pub own : r.key ≡ key
  pub decides : r.decides ≡ can

abbrev pub ReceiptMove : LinkKey → Option Bool → Option GroupedReceipt → Option GroupedReceipt → Type 0
ReceiptMove key None x y = (y ≡ x) ⊎ (y ≡ None)
ReceiptMove key (Some can) x y = (x ≡ None) × IsOfKey key can y

-- Where another receipt decides: one that is put in does, and the one that did is told where it is there still.
pub record IsRival (g h : Grouping) (key : LinkKey) (added : Added) : Type 0 where
  pub new : (q : Place) (can : Bool) → new_receipt added q ≡ Some can → is_at_place (decider_of (outlook_in h key)) q ≡ true
  pub stays : (q : Place) (r : GroupedReceipt) → get h.receipts q ≡ Some r → is_at_place (decider_of (outlook_in g key)) q ≡ true
      → (rival (outlook_in g key) added ≡ decider_of (outlook_in g key)) × (is_some (decider_of (outlook_in h key)) ≡ true)
  pub kept : (q : Place) → is_at_place (rival (outlook_in g key) added) q ≡ true → get h.receipts q ≡ get g.receipts q

-- One member more or less.
pub record Moves (g h : Grouping) (key : LinkKey) (added : Added) : Type 0 where
  pub submit : (q : Place) → SubmitMove key (is_new_submit added q) (get g.submits q) (get h.submits q)
  pub receipt : (q : Place) → ReceiptMove key (new_receipt added q) (get g.receipts q) (get h.receipts q)
  pub elsewhere : (k : LinkKey) → same_key key k ≡ false → outlook_in h k ≡ outlook_in g k
  pub anew : same_decider (outlook_in g key) (outlook_in h key) ≡ false → IsRival g h key added

-- where a receipt decides, one of the key that can stands
pub decider-can : (g : Grouping) (key : LinkKey) (q : Place) → is_at_place (decider_of (outlook_in g key)) q ≡ true → IsOfKey key true (get g.receipts q)
decider-can g key q t = by (reduce earlier (candidates g key)) refl t
  where
    by : (o : Option m.Candidate) → reduce earlier (candidates g key) ≡ o → is_at_place (option_map (λ e. e.place) (option_map earliest_at o)) q ≡ true → IsOfKey key true (get g.receipts q)
    by None e d = absurd (false≢true d)
    by (Some c) e d = record {
      r = record { key = key; moment = c.0; decides = true };
      is = ap (λ (p : Place). get g.receipts p) (sym (same_place c.1 q d)) ∙ ((first-is g key (Some c) e).0).stands;
      own = refl;
      decides = refl;
    }

rival_was : (b : GroupSummary) (added : Added) (q : Place) → is_at_place (rival b added) q ≡ true → is_at_place (decider_of b) q ≡ true
rival_was b (put.Receipt _ _) q h = h
rival_was b _ q h = absurd (false≢true h)

-- ---- members that stay

either : {A : Type 0} (b : Bool) (x : A) → cond b x x ≡ x
either true x = refl
either false x = refl

module _ {W : Type 0} (key_of : W → LinkKey) (standing : GroupSummary → W → Standing) (g h : Grouping) (key : LinkKey)
    (elsewhere : (k : LinkKey) → same_key key k ≡ false → outlook_in h k ≡ outlook_in g k) where
  abbrev changed_of : Option W → Option W → Option Standing
  changed_of x y = changed (option_map (λ w. standing (outlook_in g (key_of w)) w) x) (option_map (λ w. standing (outlook_in h (key_of w)) w) y)

  abbrev then_of : W → Standing
  then_of = standing (outlook_in g key)

  abbrev now_of : W → Standing
  now_of = standing (outlook_in h key)

  other : (w : W) → same_key key (key_of w) ≡ false → changed_of (Some w) (Some w) ≡ None
  other w n =
      let was : Standing = standing (outlook_in g (key_of w)) w in
      ap (λ (o : GroupSummary). changed (Some was) (Some (standing o w))) (elsewhere (key_of w) n) ∙ ap (λ b. cond b None (Some was)) (standing-itself was)

  -- where standings differ, or are one, that of now is told, or nothing is
  own : (w : W) (b : Bool) → same_key key (key_of w) ≡ true → same_standing (then_of w) (now_of w) ≡ b → changed_of (Some w) (Some w) ≡ cond b None (Some (now_of w))
  own w b s e =
      ap (λ (l : LinkKey). changed (Some (standing (outlook_in g l) w)) (Some (standing (outlook_in h l) w))) (sym (one_key key (key_of w) s)) ∙ ap (λ b. cond b None (Some (now_of w))) e

  new : (x y : Option W) (w : W) → x ≡ None → y ≡ Some w → key_of w ≡ key → changed_of x y ≡ Some (now_of w)
  new x y w none is of_it = (λ i. changed_of (none i) (is i)) ∙ (λ i. Some (standing (outlook_in h (of_it i)) w))

  -- of those that stay each of the key is told, or none is
  stayed : (x y : Option W) (b : Bool) → (y ≡ x) ⊎ (y ≡ None) → ((w : W) → x ≡ Some w → y ≡ Some w → same_key key (key_of w) ≡ true → same_standing (then_of w) (now_of w) ≡ b)
      → cond b None (told_of key_of key now_of y) ≡ changed_of x y
  stayed x y b (inr gone) d = ap (λ o. cond b None (told_of key_of key now_of o)) gone ∙ either b None ∙ sym (ap (changed_of x) gone)
  stayed None y b (inl same) d = ap (λ o. cond b None (told_of key_of key now_of o)) same ∙ either b None ∙ sym (ap (changed_of None) same)
  stayed (Some w) y b (inl same) d = ap (λ o. cond b None (told_of key_of key now_of o)) same ∙ by (same_key key (key_of w)) refl ∙ sym (ap (changed_of (Some w)) same)
    where
      by : (c : Bool) → same_key key (key_of w) ≡ c → cond b None (cond (same_key key (key_of w)) (Some (now_of w)) None) ≡ changed_of (Some w) (Some w)
      by true s = ap (λ c. cond b None (cond c (Some (now_of w)) None)) s ∙ sym (own w b s (d w refl same s))
      by false s = ap (λ c. cond b None (cond c (Some (now_of w)) None)) s ∙ either b None ∙ sym (other w s)

-- ---- submits

module _ (g h : Grouping) (key : LinkKey) (added : Added) (moves : Moves g h key added) (q : Place) where
  abbrev before : GroupSummary
  before = outlook_in g key

  abbrev after : GroupSummary
  after = outlook_in h key

  abbrev submits_changed : Option LinkKey → Option LinkKey → Option Standing
  submits_changed = changed_of (λ k. k) (λ o _. submit_standing_of o) g h key moves.elsewhere

  submits_are : changed (submit_at g q) (submit_at h q) ≡ submits_changed (get g.submits q) (get h.submits q)
  submits_are = λ i. changed (option_map (λ k. told-submit g k i) (get g.submits q)) (option_map (λ k. told-submit h k i) (get h.submits q))

  abbrev submit_now : Standing
  submit_now = submit_standing_of after

  -- all are told, or the newcomer alone
  submits_by : (x y : Option LinkKey) (n b : Bool) → SubmitMove key n x y → (x ≡ Some key → y ≡ Some key → same_standing (submit_standing_of before) submit_now ≡ b)
      → cond b (cond n (Some submit_now) None) (told_of (λ k. k) key (λ _. submit_now) y) ≡ submits_changed x y
  submits_by x y true b move d =
      ap (cond b (Some submit_now)) (ap (told_of (λ k. k) key (λ _. submit_now)) move.1 ∙ ap (λ b. cond b (Some submit_now) None) (own_key key))
      ∙ either b (Some submit_now) ∙ sym (new (λ k. k) (λ o _. submit_standing_of o) g h key moves.elsewhere x y key move.0 move.1 refl)
  submits_by x y false b move d =
      stayed (λ k. k) (λ o _. submit_standing_of o) g h key moves.elsewhere x y b move
      (λ k e f s. let own : Some k ≡ Some key = ap Some (sym (one_key key k s)) in d (e ∙ own) (f ∙ own))

  newcomer_at : (a : Added) → told_at q (newcomer_submit after a) ≡ cond (is_new_submit a q) (Some submit_now) None
  newcomer_at (put.Submit p) = refl
  newcomer_at _ = refl

  -- ---- receipts

  abbrev key_of : GroupedReceipt → LinkKey
  key_of r = r.key

  abbrev stands : GroupSummary → GroupedReceipt → Standing
  stands o r = receipt_standing_of o q r.decides

  abbrev receipts_changed : Option GroupedReceipt → Option GroupedReceipt → Option Standing
  receipts_changed = changed_of key_of stands g h key moves.elsewhere

  receipts_are : changed (receipt_at g q) (receipt_at h q) ≡ receipts_changed (get g.receipts q) (get h.receipts q)
  receipts_are = λ i. changed (option_map (λ r. told-receipt g q r i) (get g.receipts q)) (option_map (λ r. told-receipt h q r i) (get h.receipts q))

  abbrev receipt_now : Bool → Standing
  receipt_now can = receipt_standing_of after q can

  new_one : (x y : Option GroupedReceipt) (can : Bool) → x ≡ None → IsOfKey key can y → receipts_changed x y ≡ Some (receipt_now can)
  new_one x y can none one = new key_of stands g h key moves.elsewhere x y one.r none one.is one.own ∙ ap (λ b. Some (receipt_now b)) one.decides

  -- all are told, or the newcomer alone
  receipts_by : (x y : Option GroupedReceipt) (n : Option Bool) (b : Bool) → ReceiptMove key n x y → ((can : Bool) → same_standing (receipt_standing_of before q can) (receipt_now can) ≡ b)
      → cond b (option_map receipt_now n) (told_of key_of key (stands after) y) ≡ receipts_changed x y
  receipts_by x y (Some can) b move d =
      ap (cond b (Some (receipt_now can))) (ap (told_of key_of key (stands after)) move.1.is
      ∙ (λ i. cond ((ap (same_key key) move.1.own ∙ own_key key) i) (Some (receipt_now (move.1.decides i))) None))
      ∙ either b (Some (receipt_now can)) ∙ sym (new_one x y can move.0 move.1)
  receipts_by x y None b move d = stayed key_of stands g h key moves.elsewhere x y b move (λ r e f s. d r.decides)

  newcomer_receipt_at : (a : Added) → told_at q (newcomer_receipt after a) ≡ option_map receipt_now (new_receipt a q)
  newcomer_receipt_at (put.Receipt p can) = by (eq_by_cmp place_cmp q p) refl
    where
      by : (b : Bool) → eq_by_cmp place_cmp q p ≡ b → cond b (Some (receipt_standing_of after p can)) None ≡ option_map receipt_now (cond b (Some can) None)
      by true t = ap (λ (x : Place). Some (receipt_standing_of after x can)) (sym (same_place q p t))
      by false t = refl
  newcomer_receipt_at _ = refl

  -- ---- receipts, where another decides

  abbrev now_at : Bool
  now_at = is_at_place (decider_of after) q

  abbrev then_at : Bool
  then_at = is_at_place (decider_of before) q

  abbrev rival_at : Bool
  rival_at = is_at_place (rival before added) q

  -- what the changes of deciding receipts tell of the place
  abbrev of_deciders : Bool → Bool → Option Standing
  of_deciders now rival = cond now (Some Deciding) (cond (rival && is_some (decider_of after)) (Some Extra) None)

  module _ (t : turn_between before after ≡ Deciders) (rivals : IsRival g h key added) where
    -- where no receipt of the key that can decide stands, nothing is told
    quiet : (IsOfKey key true (get h.receipts q) → ⊥) → of_deciders now_at rival_at ≡ None
    quiet n = λ i. of_deciders (false_from_ne_true now_at (λ e. n (decider-can h key q e)) i)
        (false_from_ne_true rival_at (λ e. n (subst (IsOfKey key true) (sym (rivals.kept q e)) (decider-can g key q (rival_was before added q e)))) i)

    vacant : get h.receipts q ≡ None → of_deciders now_at rival_at ≡ None
    vacant gone = quiet (λ d. not_none d.r (get h.receipts q) gone d.is)

    -- the receipt that stands there before and now, of the key
    own_by : (r : GroupedReceipt) → get h.receipts q ≡ Some r → get g.receipts q ≡ Some r → same_key key r.key ≡ true → (now was : Bool) → now_at ≡ now → then_at ≡ was
        → of_deciders now_at rival_at ≡ receipts_changed (Some r) (Some r)
    own_by r is was_is s true true n w =
        absurd (false≢true (sym (anew-is before after t).other ∙ (λ i. same_option (eq_by_cmp place_cmp) (same_at (decider_of before) (Some q) w i) (same_at (decider_of after) (Some q) n i)) ∙ same_self (Some q)))
    own_by r is was_is s true false n w =
        ap (λ b. of_deciders b rival_at) n
        ∙ sym (own key_of stands g h key moves.elsewhere r false s ((λ i. same_standing ((deciders-before before after q r.decides t ∙ ap (λ b. cond b Deciding (cond r.decides Extra Noted)) w) i) ((deciders-after before after q r.decides t ∙ ap (λ b. cond b Deciding (cond r.decides Extra Noted)) n) i)) ∙ not_deciding r.decides)
        ∙ ap Some (deciders-after before after q r.decides t ∙ ap (λ b. cond b Deciding (cond r.decides Extra Noted)) n))
      where
        not_deciding : (c : Bool) → same_standing (cond c Extra Noted) Deciding ≡ false
        not_deciding true = refl
        not_deciding false = refl
    own_by r is was_is s false true n w =
        let told = rivals.stays q r is w in
        let d = decider-can g key q w in
        let can : r.decides ≡ true = ap (λ (x : GroupedReceipt). x.decides) (one_of r d.r (get g.receipts q) was_is d.is) ∙ d.decides in
        let now : receipt_now r.decides ≡ Extra = deciders-after before after q r.decides t ∙ (λ i. cond (n i) Deciding (cond (can i) Extra Noted)) in
        (λ i. cond (n i) (Some Deciding) (cond ((ap (λ o. is_at_place o q) told.0 ∙ w) i && told.1 i) (Some Extra) None))
        ∙ sym (own key_of stands g h key moves.elsewhere r false s (λ i. same_standing ((deciders-before before after q r.decides t ∙ ap (λ b. cond b Deciding (cond r.decides Extra Noted)) w) i) (now i)) ∙ ap Some now)
    own_by r is was_is s false false n w =
        let still : rival_at ≡ false = false_from_ne_true rival_at (λ e. false≢true (sym w ∙ rival_was before added q e)) in
        (λ i. of_deciders (n i) (still i))
        ∙ sym (own key_of stands g h key moves.elsewhere r true s ((λ i. same_standing ((deciders-before before after q r.decides t ∙ ap (λ b. cond b Deciding (cond r.decides Extra Noted)) w) i) ((deciders-after before after q r.decides t ∙ ap (λ b. cond b Deciding (cond r.decides Extra Noted)) n) i)) ∙ standing-itself (cond r.decides Extra Noted)))

    anew_receipts : (n : Option Bool) → new_receipt added q ≡ n → ReceiptMove key n (get g.receipts q) (get h.receipts q) → of_deciders now_at rival_at ≡ receipts_changed (get g.receipts q) (get h.receipts q)
    anew_receipts (Some can) e move =
        let n = rivals.new q can e in
        ap (λ b. of_deciders b rival_at) n
        ∙ sym (new_one (get g.receipts q) (get h.receipts q) can move.0 move.1 ∙ ap Some (deciders-after before after q can t ∙ ap (λ b. cond b Deciding (cond can Extra Noted)) n))
    anew_receipts None e (inr gone) = vacant gone ∙ sym (ap (receipts_changed (get g.receipts q)) gone)
    anew_receipts None e (inl same) = by (get g.receipts q) refl
      where
        by : (x : Option GroupedReceipt) → get g.receipts q ≡ x → of_deciders now_at rival_at ≡ receipts_changed (get g.receipts q) (get h.receipts q)
        by None was = vacant (same ∙ was) ∙ sym (ap (receipts_changed (get g.receipts q)) (same ∙ was))
        by (Some r) was = of_key_by (same_key key r.key) refl ∙ sym (λ i. receipts_changed (was i) ((same ∙ was) i))
          where
            of_key_by : (b : Bool) → same_key key r.key ≡ b → of_deciders now_at rival_at ≡ receipts_changed (Some r) (Some r)
            of_key_by true s = own_by r (same ∙ was) was s now_at then_at refl refl
            of_key_by false s = quiet (λ d. false≢true (sym s
                ∙ ap (λ (x : GroupedReceipt). same_key key x.key) (one_of r d.r (get h.receipts q) (same ∙ was) d.is) ∙ ap (same_key key) d.own ∙ own_key key)) ∙ sym (other key_of stands g h key moves.elsewhere r s)

-- ---- what the changes of deciding receipts tell

turned_test : (p q : Place) → eq_by_cmp place_cmp p q ≡ eq_by_cmp place_cmp q p
turned_test p q = (eq_by_cmp_equiv places_total).symm p q

deciders_tell : (q : Place) (rival now : Option Place) → ((v d : Place) → rival ≡ Some v → now ≡ Some d → eq_by_cmp place_cmp v d ≡ false)
    → told_at q (decider_changes rival now) ≡ cond (is_at_place now q) (Some Deciding) (cond (is_at_place rival q && is_some now) (Some Extra) None)
deciders_tell q None None h = refl
deciders_tell q (Some v) None h = sym (ap (λ b. cond b (Some Extra) None) (and_false (eq_by_cmp place_cmp v q)))
deciders_tell q None (Some d) h = ap (λ b. cond b (Some Deciding) None) (turned_test q d)
deciders_tell q (Some v) (Some d) h =
    by (is_lt (place_cmp d v)) ∙ (λ i. cond (turned_test q d i) (Some Deciding) (cond (turned_test q v i) (Some Extra) None)) ∙ ap (λ b. cond (eq_by_cmp place_cmp d q) (Some Deciding) (cond b (Some Extra) None)) (sym (and_true (eq_by_cmp place_cmp v q)))
  where
    by : (b : Bool) → told_at q (cond b (change_at d Deciding ∷ change_at v Extra ∷ []) (change_at v Extra ∷ change_at d Deciding ∷ [])) ≡ cond (eq_by_cmp place_cmp q d) (Some Deciding) (cond (eq_by_cmp place_cmp q v) (Some Extra) None)
    by true = refl
    by false = swapped (eq_by_cmp place_cmp q v) (eq_by_cmp place_cmp q d) (Some Extra) (Some Deciding) None
        (λ a b. false≢true (sym (h v d refl refl) ∙ own_place v d (sym (same_place q v a) ∙ same_place q d b)))

rival_apart : (b a : GroupSummary) (added : Added) → same_decider b a ≡ false → (v d : Place) → rival b added ≡ Some v → decider_of a ≡ Some d → eq_by_cmp place_cmp v d ≡ false
rival_apart b a (put.Receipt _ _) n v d r e = sym (λ i. same_option (eq_by_cmp place_cmp) (r i) (e i)) ∙ n
rival_apart b a _ n v d r e = absurd cc

-- ---- in the order of places

deciders_sorted : (rival now : Option Place) → ((v d : Place) → rival ≡ Some v → now ≡ Some d → eq_by_cmp place_cmp v d ≡ false) → IsStrictlySortedBy place_cmp (map (λ (c : Change). c.place) (decider_changes rival now))
deciders_sorted _ None h = sorted_none
deciders_sorted None (Some d) h = sorted_one d
deciders_sorted (Some v) (Some d) h = by (place_cmp d v) refl
  where
    by : (r : Ordering) → place_cmp d v ≡ r → IsStrictlySortedBy place_cmp (map (λ (c : Change). c.place) (cond (is_lt (place_cmp d v)) (change_at d Deciding ∷ change_at v Extra ∷ []) (change_at v Extra ∷ change_at d Deciding ∷ [])))
    by Less e = subst (λ b. IsStrictlySortedBy place_cmp (map (λ (c : Change). c.place) (cond b (change_at d Deciding ∷ change_at v Extra ∷ []) (change_at v Extra ∷ change_at d Deciding ∷ [])))) (sym (ap is_lt e)) (sorted_two d v e)
    by Equal e = absurd (false≢true (sym (h v d refl refl) ∙ turned_test v d ∙ ap is_eq e))
    by Greater e = subst (λ b. IsStrictlySortedBy place_cmp (map (λ (c : Change). c.place) (cond b (change_at d Deciding ∷ change_at v Extra ∷ []) (change_at v Extra ∷ change_at d Deciding ∷ [])))) (sym (ap is_lt e)) (sorted_two v d (places_total.antisymm v d ∙ ap ordering_reverse e))

-- ---- just this is told

-- a submit of a key counts
pub submit-counts : (g : Grouping) (key : LinkKey) (place : Place) → get g.submits place ≡ Some key → 1 ≤ matches g key
submit-counts g key place there = let one = number-less (same_key key) g.submits key place true there (own_key key) in omega (arith, one)

module _ (g : Grouping) (s : List (Member × Bool)) (r : List (Member × ReceiptFacts)) (key : LinkKey) (added : Added)
    (moves : Moves g (grouping_in s r) key added) (submits_once : StandsOnce submit_value s) (receipts_once : StandsOnce receipt_value r) where
  abbrev h : Grouping
  h = grouping_in s r

  abbrev b : GroupSummary
  b = outlook_in g key

  abbrev a : GroupSummary
  a = outlook_in h key

  walked_submits : (q : Place) → told_at q (submit_changes a (members_in key s)) ≡ told_of (λ k. k) key (λ _. submit_standing_of a) (get h.submits q)
  walked_submits q =
      told-members submit_value (λ k. k) (λ k v. refl) key (λ p v. submit_standing_of a) (λ p w. submit_standing_of a) (λ p k v. refl) q s submits_once
      ∙ sym (ap (told_of (λ k. k) key (λ _. submit_standing_of a)) (get-from_entries places_total (map (by_place submit_value) s) q))

  walked_receipts : (q : Place) → told_at q (receipt_changes a (members_in key r)) ≡ told_of (λ w. w.key) key (λ w. receipt_standing_of a q w.decides) (get h.receipts q)
  walked_receipts q =
      told-members receipt_value (λ w. w.key) (λ k v. refl) key (λ p v. receipt_standing_of a p v.decides) (λ p w. receipt_standing_of a p w.decides) (λ p k v. refl) q r receipts_once
      ∙ sym (ap (told_of (λ w. w.key) key (λ w. receipt_standing_of a q w.decides)) (get-from_entries places_total (map (by_place receipt_value) r) q))

  submits_told : (t : Turn) → turn_between b a ≡ t → (q : Place) → told_at q (changes_of_submits t a added (members_in key s)) ≡ changed (submit_at g q) (submit_at h q)
  submits_told t e q =
      let all = λ (one : Bool). submits_by g h key added moves q (get g.submits q) (get h.submits q) (is_new_submit added q) one (moves.submit q) in
      elim t as (λ t. turn_between b a ≡ t → told_at q (changes_of_submits t a added (members_in key s)) ≡ submits_changed g h key added moves q (get g.submits q) (get h.submits q)) [
        | Each ↦ λ t. walked_submits q ∙ all false (λ x y. each-submit b a (submit-counts g key q x) (submit-counts h key q y) t)
        | Deciders ↦ λ t. walked_submits q ∙ all false (λ x y. deciders-submit b a t)
        | Newcomer ↦ λ t. newcomer_at g h key added moves q added ∙ all true (λ x y. newcomer-submit b a t)
      ] e ∙ sym (submits_are g h key added moves q)

  receipts_told : (t : Turn) → turn_between b a ≡ t → (q : Place) → told_at q (told_receipts t b a added (members_in key r)) ≡ changed (receipt_at g q) (receipt_at h q)
  receipts_told t e q =
      let all = λ (one : Bool). receipts_by g h key added moves q (get g.receipts q) (get h.receipts q) (new_receipt added q) one (moves.receipt q) in
      elim t as (λ t. turn_between b a ≡ t → told_at q (told_receipts t b a added (members_in key r)) ≡ receipts_changed g h key added moves q (get g.receipts q) (get h.receipts q)) [
        | Each ↦ λ t. walked_receipts q ∙ all false (λ can. each-receipt b a q can t)
        | Deciders ↦ λ t.
            let other = (anew-is b a t).other in
            deciders_tell q (rival b added) (decider_of a) (rival_apart b a added other) ∙ anew_receipts g h key added moves q t (moves.anew other) (new_receipt added q) refl (moves.receipt q)
        | Newcomer ↦ λ t. newcomer_receipt_at g h key added moves q added ∙ all true (λ can. newcomer-receipt b a q can t)
      ] e ∙ sym (receipts_are g h key added moves q)

  change_places : {V : Type 0} (standing : Place × V → Standing) (ms : List (Place × V)) → map (λ (c : Change). c.place) (map (λ m. change_at m.0 (standing m)) ms) ≡ keys_of ms
  change_places standing [] = refl
  change_places standing (m ∷ ms) = ap (λ (ps : List Place). m.0 ∷ ps) (change_places standing ms)

  submits_sorted : (t : Turn) → SubmitsByPlace t (members_in key s) → IsStrictlySortedBy place_cmp (map (λ (c : Change). c.place) (changes_of_submits t a added (members_in key s)))
  submits_sorted Newcomer so = by added
    where
      by : (x : Added) → IsStrictlySortedBy place_cmp (map (λ (c : Change). c.place) (newcomer_submit a x))
      by (put.Submit p) = sorted_one p
      by _ = sorted_none
  submits_sorted _ so = subst (IsStrictlySortedBy place_cmp) (sym (change_places (λ m. submit_standing_of a) (members_in key s))) so

  receipts_sorted : (t : Turn) → turn_between b a ≡ t → ReceiptsByPlace t (members_in key r) → IsStrictlySortedBy place_cmp (map (λ (c : Change). c.place) (told_receipts t b a added (members_in key r)))
  receipts_sorted Each t so = subst (IsStrictlySortedBy place_cmp) (sym (change_places (λ m. receipt_standing_of a m.0 m.1.decides) (members_in key r))) so
  receipts_sorted Deciders t so = deciders_sorted (rival b added) (decider_of a) (rival_apart b a added (anew-is b a t).other)
  receipts_sorted Newcomer t so = by added
    where
      by : (x : Added) → IsStrictlySortedBy place_cmp (map (λ (c : Change). c.place) (newcomer_receipt a x))
      by (put.Receipt p _) = sorted_one p
      by _ = sorted_none

  abbrev told_by : GroupSummary → GroupSummary → List Change
  told_by x y = changes_of_submits (turn_between x y) y added (members_in key s) ++ told_receipts (turn_between x y) x y added (members_in key r)

  -- what is told by the outlooks that are kept before and after is what differs
  pub tells : (x y : GroupSummary) → x ≡ b → y ≡ a → (changes : List Change) → changes ≡ told_by x y → SubmitsByPlace (turn_between x y) (members_in key s) → ReceiptsByPlace (turn_between x y) (members_in key r)
      → TellsChanges g h changes
  tells x y is_b is_a changes told so sr =
      let turn : turn_between x y ≡ turn_between b a = λ i. turn_between (is_b i) (is_a i) in
      record {
        submits = changes_of_submits (turn_between b a) a added (members_in key s);
        receipts = told_receipts (turn_between b a) b a added (members_in key r);
        parts = told ∙ (λ i. told_by (is_b i) (is_a i));
        submits_by_place = submits_sorted (turn_between b a) (subst (λ (t : Turn). SubmitsByPlace t (members_in key s)) turn so);
        receipts_by_place = receipts_sorted (turn_between b a) refl (subst (λ (t : Turn). ReceiptsByPlace t (members_in key r)) turn sr);
        each_submit = submits_told (turn_between b a) refl;
        each_receipt = receipts_told (turn_between b a) refl;
      }
