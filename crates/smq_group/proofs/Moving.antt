-- Each call moves one member: the grouping after it, and what it tells.
use Rattle.std.proofs.Common.{◌≡◌, ◌⊎◌, inl, inr, Bool, true, false, cond, Option, Some, None, refl, sym, ap, ◌∙◌, arith}
use Rattle.std.specs.Prelude.{◌&&◌, is_some, option_map}
use Rattle.std.specs.Ordering.{eq_by_cmp}
use Rattle.std.specs.Cmp.{eq_by_cmp_equiv}
use Rattle.std.specs.FinMap.{FinMap, get, insert, remove, get-insert, get-remove}
use Rattle.std.proofs.lemmas.Bool.{false≢true, false_from_ne_true}
use Rattle.smq_kit.specs.declared.place.Place.{Place}
use Rattle.smq_kit.specs.declared.link_key.LinkKey.{LinkKey}
use Rattle.smq_kit.specs.Maps.{number_of, same_option}
use Rattle.smq_kit.specs.Orders.{place_cmp}
use Rattle.smq_kit.specs.LinkKeys.{same_key}
use Rattle.smq_kit.proofs.PlaceOrders.{places_total}
use Rattle.smq_kit.proofs.LinkKeyOrders.{link_keys_total}
use Rattle.smq_shelf.proofs.Walks.{both}
use Rattle.smq_group.specs.declared.changes.Added.TheVariants as put
use Rattle.smq_group.specs.declared.group_summary.GroupSummary.{GroupSummary}
use Rattle.smq_group.specs.declared.group_summary.Earliest.{Earliest}
use Rattle.smq_group.specs.Matching.{Grouping, GroupedReceipt, matches}
use Rattle.smq_group.specs.Groups.{with_submit, without_submit}
use Rattle.smq_group.specs.within.Outlooks.{an_outlook, decider_of, is_before}
use Rattle.smq_group.specs.within.Stored.{earliest_at, outlook_in, received}
use Rattle.smq_group.specs.within.Told.{same_decider}
use Rattle.smq_group.proofs.Changing.{Moves, ReceiptMove, SubmitMove, decider-can}
use Rattle.smq_group.proofs.Turning.{is_at_place, same_self}
use Rattle.smq_group.proofs.Earliest.{HasMore, decider_in, is_decided, decider-more, decider-stays, own_key}
use Rattle.smq_group.proofs.Placing.{not_none, own_place, same_place}
use Rattle.smq_group.proofs.Storing.{number-more, number-less, received-more}

flipped : (a b : LinkKey) → same_key a b ≡ false → same_key b a ≡ false
flipped a b n = (eq_by_cmp_equiv link_keys_total).symm b a ∙ n

-- outlooks of the same deciding receipt have the same decider
same_deciders : (b a : GroupSummary) → a.decider ≡ b.decider → same_decider b a ≡ true
same_deciders b a e = ap (λ (d : Option Earliest). same_option (eq_by_cmp place_cmp) (decider_of b) (option_map (λ x. x.place) d)) e ∙ same_self (decider_of b)

-- a place that is emptied, or another
emptied : {X : Type 0} (b : Bool) (x y : Option X) → y ≡ cond b None x → (y ≡ x) ⊎ (y ≡ None)
emptied true x y e = inr e
emptied false x y e = inl e

-- and a place with one more than before
filled : {X : Type 0} (b : Bool) (r : X) (x y : Option X) → (b ≡ true → y ≡ None) → x ≡ cond b (Some r) y → (y ≡ x) ⊎ (y ≡ None)
filled true r x y none e = inr (none refl)
filled false r x y none e = inl (sym e)

-- ---- a submit

submit_put : (key : LinkKey) (b : Bool) (x y : Option LinkKey) → (b ≡ true → x ≡ None) → y ≡ cond b (Some key) x → SubmitMove key b x y
submit_put key true x y none e = (none refl, e)
submit_put key false x y none e = inl e

-- one submit more
pub moves-submit : (g : Grouping) (key : LinkKey) (place : Place) → get g.submits place ≡ None → Moves g (with_submit g key place) key (put.Submit place)
moves-submit g key place none = record {
  submit = λ q. submit_put key (eq_by_cmp place_cmp q place) (get g.submits q) (get (insert g.submits place key) q) (λ t. ap (get g.submits) (same_place q place t) ∙ none) (get-insert places_total g.submits place key q);
  receipt = λ q. inl refl;
  elsewhere = λ k n.
      let more = number-more (same_key k) g.submits key place false none (flipped key k n) in
      let same : matches (with_submit g key place) k ≡ matches g k = omega (arith, more) in
      λ i. an_outlook (same i) (received g k) (decider_in g k);
  anew = λ n. absurd (false≢true (sym n ∙ same_deciders (outlook_in g key) (outlook_in (with_submit g key place) key) refl));
}

-- one submit less
pub moves-no_submit : (g : Grouping) (key : LinkKey) (place : Place) → get g.submits place ≡ Some key → Moves g (without_submit g place) key put.Nothing
moves-no_submit g key place there = record {
  submit = λ q. emptied (eq_by_cmp place_cmp q place) (get g.submits q) (get (remove g.submits place) q) (get-remove places_total g.submits place q);
  receipt = λ q. inl refl;
  elsewhere = λ k n.
      let less = number-less (same_key k) g.submits key place false there (flipped key k n) in
      let same : matches (without_submit g place) k ≡ matches g k = omega (arith, less) in
      λ i. an_outlook (same i) (received g k) (decider_in g k);
  anew = λ n. absurd (false≢true (sym n ∙ same_deciders (outlook_in g key) (outlook_in (without_submit g place) key) refl));
}

-- ---- a receipt

receipt_put : (r : GroupedReceipt) (b : Bool) (x y : Option GroupedReceipt) → (b ≡ true → x ≡ None) → y ≡ cond b (Some r) x → ReceiptMove r.key (cond b (Some r.decides) None) x y
receipt_put r true x y none e = (none refl, record { r = r; is = e; own = refl; decides = refl })
receipt_put r false x y none e = inl e

module _ (g h : Grouping) (place : Place) (r : GroupedReceipt) (same : h.submits ≡ g.submits) where
  same_matches : (k : LinkKey) → matches h k ≡ matches g k
  same_matches k = ap (number_of (same_key k)) same

  -- one receipt more
  pub moves-receipt : HasMore g h place r → Moves g h r.key (put.Receipt place r.decides)
  moves-receipt more = record {
    submit = λ q. inl (ap (λ (m : FinMap place_cmp LinkKey). get m q) same);
    receipt = λ q. receipt_put r (eq_by_cmp place_cmp q place) (get g.receipts q) (get h.receipts q) (λ t. ap (get g.receipts) (same_place q place t) ∙ more.absent) (more.each q);
    elsewhere = λ k n.
        let all = received-more g h place r k false more (flipped r.key k n) in
        let same_received : received h k ≡ received g k = omega (arith, all) in
        λ i. an_outlook (same_matches k i) (same_received i) (decider-more g h place r more k false r.decides (flipped r.key k n) refl i);
    anew = λ n. let new = chosen n (r.decides && is_before (earliest_at (r.moment, place)) (decider_in g r.key)) refl in record {
      new = λ q can e. ap (λ (d : Option Earliest). is_at_place (option_map (λ x. x.place) d) q) new ∙ here q (eq_by_cmp place_cmp q place) refl can e;
      stays = λ q x is at. (refl, ap (λ (d : Option Earliest). is_some (option_map (λ x. x.place) d)) new);
      kept = λ q at. (let d = decider-can g r.key q at in
          more.each q ∙ ap (λ b. cond b (Some r) (get g.receipts q)) (false_from_ne_true (eq_by_cmp place_cmp q place) (λ t. not_none d.r (get g.receipts q) (ap (get g.receipts) (same_place q place t) ∙ more.absent) d.is)));
    };
  }
    where
      chosen : same_decider (outlook_in g r.key) (outlook_in h r.key) ≡ false → (b : Bool) → (r.decides && is_before (earliest_at (r.moment, place)) (decider_in g r.key)) ≡ b → decider_in h r.key ≡ Some (earliest_at (r.moment, place))
      chosen n true t = decider-more g h place r more r.key true r.decides (own_key r.key) refl ∙ ap (λ b. cond b (Some (earliest_at (r.moment, place))) (decider_in g r.key)) t
      chosen n false t = absurd (false≢true (sym n ∙ same_deciders (outlook_in g r.key) (outlook_in h r.key)
          (decider-more g h place r more r.key true r.decides (own_key r.key) refl ∙ ap (λ b. cond b (Some (earliest_at (r.moment, place))) (decider_in g r.key)) t)))

      here : (q : Place) (b : Bool) → eq_by_cmp place_cmp q place ≡ b → (can : Bool) → cond (eq_by_cmp place_cmp q place) (Some r.decides) None ≡ Some can → eq_by_cmp place_cmp place q ≡ true
      here q true t can e = own_place place q (sym (same_place q place t))
      here q false t can e = absurd (not_none can _ (ap (λ b. cond b (Some r.decides) None) t) e)

  -- one receipt less
  pub moves-no_receipt : HasMore h g place r → Moves g h r.key put.Nothing
  moves-no_receipt less = record {
    submit = λ q. inl (ap (λ (m : FinMap place_cmp LinkKey). get m q) same);
    receipt = λ q. filled (eq_by_cmp place_cmp q place) r (get g.receipts q) (get h.receipts q) (λ t. ap (get h.receipts) (same_place q place t) ∙ less.absent) (less.each q);
    elsewhere = λ k n.
        let all = received-more h g place r k false less (flipped r.key k n) in
        let same_received : received h k ≡ received g k = omega (arith, all) in
        λ i. an_outlook (same_matches k i) (same_received i) (sym (decider-more h g place r less k false r.decides (flipped r.key k n) refl) i);
    anew = λ n. record {
      new = λ q can e. absurd (not_none can None refl e);
      stays = λ q x is at. absurd (gone n q x is at (r.decides && is_decided (decider_in g r.key) place) refl);
      kept = λ q at. absurd (false≢true at);
    };
  }
    where
      at_one : (o : Option Place) (p q : Place) → is_at_place o p ≡ true → is_at_place o q ≡ true → q ≡ p
      at_one None p q s t = absurd (false≢true s)
      at_one (Some x) p q s t = sym (same_place x q t) ∙ same_place x p s

      gone : same_decider (outlook_in g r.key) (outlook_in h r.key) ≡ false → (q : Place) (x : GroupedReceipt) → get h.receipts q ≡ Some x → is_at_place (decider_of (outlook_in g r.key)) q ≡ true
          → (b : Bool) → (r.decides && is_decided (decider_in g r.key) place) ≡ b → ⊥
      gone n q x is at true t =
          let here = (both r.decides (is_decided (decider_in g r.key) place) t).1 in
          not_none x (get h.receipts q) (ap (get h.receipts) (at_one (decider_of (outlook_in g r.key)) place q here at) ∙ less.absent) is
      gone n q x is at false t = false≢true (sym n ∙ same_deciders (outlook_in g r.key) (outlook_in h r.key) (decider-stays h g place r less t))
