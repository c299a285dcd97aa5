-- Which receipts wait behind the one that decides, as receipts come and go.
use Rattle.std.proofs.Common.{◌≡◌, ℕ, Bool, true, false, cond, Option, Some, None, refl, sym, ap, ◌∙◌, subst}
use Rattle.std.specs.Prelude.{◌&&◌, ◌||◌, ◌==◌, not, option_map}
use Rattle.std.specs.Ordering.{eq_by_cmp, is_eq}
use Rattle.std.specs.Cmp.{both_ways, eq_by_cmp_equiv, tied_itself}
use Rattle.std.specs.BTreeMap.{is_at}
use Rattle.std.specs.List.{reduce}
use Rattle.std.specs.FinMap.{get}
use Rattle.std.proofs.lemmas.Bool.{false≢true, false_from_ne_true, eqb-true, eq-eqb}
use Rattle.smq_kit.specs.declared.place.Place.{Place}
use Rattle.smq_kit.specs.declared.link_key.LinkKey.{LinkKey}
use Rattle.smq_kit.specs.Orders.{place_cmp}
use Rattle.smq_kit.specs.LinkKeys.{same_key}
use Rattle.smq_kit.proofs.Comparisons.{is_equal}
use Rattle.smq_kit.proofs.PlaceOrders.{places_total}
use Rattle.smq_shelf.proofs.Finds.{and_true}
use Rattle.smq_shelf.proofs.Walks.{and_false, both}
use Rattle.smq_group.specs.Matching as m
use Rattle.smq_group.specs.Matching.{Grouping, GroupedReceipt, CanDecide, candidates, earlier}
use Rattle.smq_group.specs.declared.member.Candidate.{Candidate}
use Rattle.smq_group.specs.declared.group_summary.Earliest.{Earliest}
use Rattle.smq_group.specs.within.KeyLaws.{one_candidate}
use Rattle.smq_group.specs.within.Orders.{kept_candidate_cmp}
use Rattle.smq_group.specs.within.Outlooks.{is_before, later_candidate}
use Rattle.smq_group.specs.within.Stored.{earliest_at, gone_of, is_candidate, waits}
use Rattle.smq_group.specs.within.Walked.{candidate_at}
use Rattle.smq_group.proofs.CandidateWalks.{candidates_total}
use Rattle.smq_group.proofs.Earliest.{HasMore, a_candidate, absent_can, decider_in, is_decided, decider-either, decider-more, first-is, own_key, one_key, was_there}
use Rattle.smq_group.proofs.Placing.{own_place, same_place}

-- ---- the one that is given, if one is

abbrev pub is_the : LinkKey → Option Earliest → Candidate → Bool
is_the key None c = false
is_the key (Some e) c = is_at (kept_candidate_cmp c) (candidate_at key e)

the-one : (key : LinkKey) (w : Option Earliest) (c : Candidate) → is_the key w c ≡ true → (e : Earliest) × (w ≡ Some e) × (c ≡ candidate_at key e)
the-one key None c t = absurd (false≢true t)
the-one key (Some e) c t = (e, refl, one_candidate c (candidate_at key e) (is_equal (kept_candidate_cmp c (candidate_at key e)) t))

is-the : (key : LinkKey) (e : Earliest) (c : Candidate) → c ≡ candidate_at key e → is_the key (Some e) c ≡ true
is-the key e c s = ap (λ (x : Candidate). is_at (kept_candidate_cmp x) (candidate_at key e)) s ∙ ap is_eq (tied_itself candidates_total (candidate_at key e))

-- one of another key isn't it
other-key : (key : LinkKey) (w : Option Earliest) (c : Candidate) → same_key c.key key ≡ false → is_the key w c ≡ false
other-key key w c n = false_from_ne_true (is_the key w c) (λ t.
    let o = the-one key w c t in false≢true (sym n ∙ ap (λ (x : Candidate). same_key x.key key) o.2 ∙ own_key key))

-- the one that decides can
decider-can : (g : Grouping) (key : LinkKey) (e : Earliest) → decider_in g key ≡ Some e → CanDecide g key e.moment e.place
decider-can g key e h = by (reduce earlier (candidates g key)) refl h
  where
    by : (o : Option m.Candidate) → reduce earlier (candidates g key) ≡ o → option_map earliest_at o ≡ Some e → CanDecide g key e.moment e.place
    by None t x = absurd cc
    by (Some d) t x = let s : earliest_at d ≡ e = cc in subst (λ (y : Earliest). CanDecide g key y.moment y.place) s (first-is g key (Some d) t).0

abbrev at : LinkKey → ℕ → Place → Candidate
at key moment p = record { key = key; moment = moment; place = p }

apart : (p q : Place) → (p ≡ q → ⊥) → eq_by_cmp place_cmp p q ≡ false
apart p q n = false_from_ne_true (eq_by_cmp place_cmp p q) (λ t. n (same_place p q t))

turned : (p q : Place) → eq_by_cmp place_cmp p q ≡ eq_by_cmp place_cmp q p
turned p q = (eq_by_cmp_equiv places_total).symm p q

-- ---- the one at a place, or at another

module _ (key : LinkKey) (e : Earliest) (moment : ℕ) (p : Place) where
  one_at : is_the key (Some e) (at key moment p) ≡ true → at key moment p ≡ candidate_at key e
  one_at t = one_candidate (at key moment p) (candidate_at key e) (is_equal (kept_candidate_cmp (at key moment p) (candidate_at key e)) t)

  the-here : p ≡ e.place → is_the key (Some e) (at key moment p) ≡ (e.moment == moment)
  the-here s = both_ways (is_the key (Some e) (at key moment p)) (e.moment == moment)
      (λ t. eq-eqb e.moment moment (ap (λ (x : Candidate). x.moment) (sym (one_at t))))
      (λ t. is-the key e (at key moment p) (λ i. record { key = key; moment = sym (eqb-true e.moment moment t) i; place = s i }))

  the-elsewhere : eq_by_cmp place_cmp p e.place ≡ false → is_the key (Some e) (at key moment p) ≡ false
  the-elsewhere n = false_from_ne_true (is_the key (Some e) (at key moment p)) (λ t.
      false≢true (sym n ∙ own_place p e.place (ap (λ (x : Candidate). x.place) (one_at t))))

-- whether one waits, by what stands at its place and what decides
abbrev waits_by : Candidate → Option GroupedReceipt → Option Earliest → Bool
waits_by c x D = is_candidate c x && not (is_decided D c.place)

-- ---- with one receipt more

module _ (g h : Grouping) (place : Place) (r : GroupedReceipt) (more : HasMore g h place r) where
  abbrev new_one : Earliest
  new_one = earliest_at (r.moment, place)

  decides-now : (D : Option Earliest) (b : Bool) → r.decides ≡ true → decider_in g r.key ≡ D → is_before new_one D ≡ b → decider_in h r.key ≡ cond b (Some new_one) D
  decides-now D b e eg eb = decider-either g h place r more b (ap (is_before new_one) eg ∙ eb) e ∙ ap (cond b (Some new_one)) eg

  -- what decided stands at another place
  decided-apart : (f : Earliest) → decider_in g r.key ≡ Some f → eq_by_cmp place_cmp f.place place ≡ false
  decided-apart f eg = apart f.place place (λ t. absent_can g h place r more r.key f.moment f.place t (decider-can g r.key f eg))

  none_here : (p : Place) → eq_by_cmp place_cmp p place ≡ true → get g.receipts p ≡ None
  none_here p t = ap (get g.receipts) (same_place p place t) ∙ more.absent

  abbrev put_by : Bool → Option Earliest → Bool → Option Earliest
  put_by d D b = cond d (option_map (λ e. cond b e new_one) D) None

  module _ (moment : ℕ) (p : Place) where
    abbrev c : Candidate
    c = at r.key moment p

    -- what a receipt more puts among those that wait, and what waits then
    here : (d : Bool) (D : Option Earliest) (b t : Bool) → r.decides ≡ d → decider_in g r.key ≡ D → is_before new_one D ≡ b → eq_by_cmp place_cmp p place ≡ t
        → (is_the r.key (put_by d D b) c || waits_by c (get g.receipts p) D) ≡ waits_by c (cond t (Some r) (get g.receipts p)) (cond (d && b) (Some new_one) D)
    here false D b true e eg eb t =
        let at_it : Bool = same_key r.key r.key && (r.moment == moment) in
        ap (λ x. waits_by c x D) (none_here p t) ∙ sym (ap (λ a. (at_it && a) && not (is_decided D p)) e ∙ ap (λ a. a && not (is_decided D p)) (and_false at_it))
    here false D b false e eg eb t = refl
    here true None false t e eg eb n = absurd (false≢true (sym eb))
    here true None true true e eg eb t =
        ap (λ x. waits_by c x None) (none_here p t)
        ∙ sym (ap (λ a. is_candidate c (Some r) && not a) (own_place place p (sym (same_place p place t))) ∙ and_false (is_candidate c (Some r)))
    here true (Some f) true true e eg eb t =
        (λ i. the-elsewhere r.key f moment p (turned p f.place ∙ ap (eq_by_cmp place_cmp f.place) (same_place p place t) ∙ decided-apart f eg) i || waits_by c (none_here p t i) (Some f))
        ∙ sym (ap (λ a. is_candidate c (Some r) && not a) (own_place place p (sym (same_place p place t))) ∙ and_false (is_candidate c (Some r)))
    here true (Some f) false true e eg eb t =
        (λ i. the-here r.key new_one moment p (same_place p place t) i || waits_by c (none_here p t i) (Some f)) ∙ plain (r.moment == moment)
        ∙ sym (λ i. ((own_key r.key i && (r.moment == moment)) && e i) && not ((ap (eq_by_cmp place_cmp f.place) (same_place p place t) ∙ decided-apart f eg) i))
      where
        plain : (m : Bool) → (m || false) ≡ ((m && true) && true)
        plain true = refl
        plain false = refl
    here true None true false e eg eb t = sym (ap (λ a. is_candidate c (get g.receipts p) && not a) (turned place p ∙ t))
    here true (Some f) true false e eg eb t = by (eq_by_cmp place_cmp f.place p) refl ∙ sym (ap (λ a. is_candidate c (get g.receipts p) && not a) (turned place p ∙ t))
      where
        alike : (m : Bool) → (m || (m && false)) ≡ (m && true)
        alike true = refl
        alike false = refl

        by : (u : Bool) → eq_by_cmp place_cmp f.place p ≡ u → (is_the r.key (Some f) c || (is_candidate c (get g.receipts p) && not (eq_by_cmp place_cmp f.place p))) ≡ (is_candidate c (get g.receipts p) && true)
        by false u = λ i. the-elsewhere r.key f moment p (turned p f.place ∙ u) i || (is_candidate c (get g.receipts p) && not (u i))
        by true u =
            let same : p ≡ f.place = sym (same_place f.place p u) in
            let is : is_candidate c (get g.receipts p) ≡ (f.moment == moment) =
            ap (is_candidate c) (ap (get g.receipts) same ∙ (decider-can g r.key f eg).stands) ∙ (λ i. (own_key r.key i && (f.moment == moment)) && true) ∙ and_true (f.moment == moment) in
            (λ i. the-here r.key f moment p same i || (is i && not (u i))) ∙ alike (f.moment == moment) ∙ ap (λ m. m && true) (sym is)
    here true (Some f) false false e eg eb t = ap (λ a. a || waits_by c (get g.receipts p) (Some f)) (the-elsewhere r.key new_one moment p t)

  -- the later of it and the one that decided
  abbrev pub put : Option Earliest
  put = later_candidate (decider_in g r.key) new_one r.decides

  put-is : (D : Option Earliest) (d : Bool) → later_candidate D new_one d ≡ put_by d D (is_before new_one D)
  put-is None d = refl
  put-is (Some f) d = refl

  more-elsewhere : (c : Candidate) → same_key c.key r.key ≡ false → waits g c ≡ waits h c
  more-elsewhere c n =
      by (eq_by_cmp place_cmp c.place place) refl
      ∙ sym (λ i. waits_by c (more.each c.place i) (decider-more g h place r more c.key false r.decides n refl i))
    where
      by : (t : Bool) → eq_by_cmp place_cmp c.place place ≡ t → waits g c ≡ waits_by c (cond (eq_by_cmp place_cmp c.place place) (Some r) (get g.receipts c.place)) (decider_in g c.key)
      by true t =
          ap (λ x. waits_by c x (decider_in g c.key)) (none_here c.place t)
          ∙ sym ((λ i. waits_by c (cond (t i) (Some r) (get g.receipts c.place)) (decider_in g c.key)) ∙ ap (λ a. ((a && (r.moment == c.moment)) && r.decides) && not (is_decided (decider_in g c.key) c.place)) n)
      by false t = sym (ap (λ b. waits_by c (cond b (Some r) (get g.receipts c.place)) (decider_in g c.key)) t)

  -- with a receipt more, what waited waits, and the later one
  pub waits-more : (c : Candidate) → (is_the r.key put c || waits g c) ≡ waits h c
  waits-more c = by (same_key c.key r.key) refl
    where
      by : (b : Bool) → same_key c.key r.key ≡ b → (is_the r.key put c || waits g c) ≡ waits h c
      by true t =
          let s : at r.key c.moment c.place ≡ c = λ i. record { key = sym (one_key c.key r.key t) i; moment = c.moment; place = c.place } in
          let D : Option Earliest = decider_in g r.key in
          subst (λ (x : Candidate). (is_the r.key put x || waits g x) ≡ waits h x) s
          (ap (λ w. is_the r.key w (at r.key c.moment c.place) || waits g (at r.key c.moment c.place)) (put-is D r.decides)
          ∙ here c.moment c.place r.decides D (is_before new_one D) (eq_by_cmp place_cmp c.place place) refl refl refl refl
          ∙ sym (λ i. waits_by (at r.key c.moment c.place) (more.each c.place i) (decider-more g h place r more r.key true r.decides (own_key r.key) refl i)))
      by false t = ap (λ b. b || waits g c) (other-key r.key put c t) ∙ more-elsewhere c t

  -- ---- and with one receipt less

  -- what goes once the one more is taken out, by what decides then
  pub gone-is : (d : Bool) (D : Option Earliest) (b : Bool) → r.decides ≡ d → decider_in g r.key ≡ D → is_before new_one D ≡ b
      → gone_of d (is_decided (decider_in h r.key) place) D new_one ≡ later_candidate D new_one d
  gone-is false D b e eg eb = refl
  gone-is true D true e eg eb =
      ap (λ t. cond t D (Some new_one)) (ap (λ (o : Option Earliest). is_decided o place) (decides-now D true e eg eb) ∙ own_place place place refl) ∙ by D eb
    where
      by : (D : Option Earliest) → is_before new_one D ≡ true → D ≡ later_candidate D new_one true
      by None t = refl
      by (Some f) t = ap (λ b. Some (cond b f new_one)) (sym t)
  gone-is true None false e eg eb = absurd (false≢true (sym eb))
  gone-is true (Some f) false e eg eb =
      ap (λ t. cond t (Some f) (Some new_one)) (ap (λ (o : Option Earliest). is_decided o place) (decides-now (Some f) false e eg eb)
      ∙ decided-apart f eg)
      ∙ ap (λ b. Some (cond b f new_one)) (sym eb)

  -- what goes waited, and waits no more
  pub gone-waited : (e : Earliest) → put ≡ Some e → waits h (candidate_at r.key e) ≡ true
  gone-waited e is =
      sym (waits-more (candidate_at r.key e))
      ∙ ap (λ b. b || waits g (candidate_at r.key e)) (ap (λ (w : Option Earliest). is_the r.key w (candidate_at r.key e)) is ∙ is-the r.key e (candidate_at r.key e) refl)

  not-waiting : (D : Option Earliest) (d : Bool) (e : Earliest) → decider_in g r.key ≡ D → later_candidate D new_one d ≡ Some e → waits g (candidate_at r.key e) ≡ false
  not-waiting D false e eg is = absurd cc
  not-waiting None true e eg is = absurd cc
  not-waiting (Some f) true e eg is = by (is_before new_one (Some f)) is
    where
      by : (b : Bool) → Some (cond b f new_one) ≡ Some e → waits g (candidate_at r.key e) ≡ false
      by true y =
          let s : f ≡ e = cc in
          ap (λ b. is_candidate (candidate_at r.key e) (get g.receipts e.place) && not b) (ap (λ (D : Option Earliest). is_decided D e.place) eg ∙ own_place f.place e.place (ap (λ (x : Earliest). x.place) s))
          ∙ and_false (is_candidate (candidate_at r.key e) (get g.receipts e.place))
      by false y =
          let s : new_one ≡ e = cc in
          ap (λ o. is_candidate (candidate_at r.key e) o && not (is_decided (decider_in g r.key) e.place)) (ap (λ (x : Earliest). get g.receipts x.place) (sym s) ∙ more.absent)

  -- what waited waits, but for the one that goes
  pub waits-less : (c : Candidate) → (not (is_the r.key put c) && waits h c) ≡ waits g c
  waits-less c = ap (λ b. not (is_the r.key put c) && b) (sym (waits-more c)) ∙ by (is_the r.key put c) refl
    where
      by : (b : Bool) → is_the r.key put c ≡ b → (not b && (b || waits g c)) ≡ waits g c
      by false t = refl
      by true t = let o = the-one r.key put c t in sym (ap (waits g) o.2 ∙ not-waiting (decider_in g r.key) r.decides o.0 refl o.1)

  -- the receipt that decided is the earliest of its key
  pub decided-own : (r.decides && is_decided (decider_in h r.key) place) ≡ true → decider_in h r.key ≡ Some new_one
  decided-own was = by (decider_in h r.key) refl (both r.decides (is_decided (decider_in h r.key) place) was).1
    where
      by : (D : Option Earliest) → decider_in h r.key ≡ D → is_decided D place ≡ true → decider_in h r.key ≡ Some new_one
      by None e d = absurd (false≢true d)
      by (Some f) e d =
          let at : f.place ≡ place = same_place f.place place d in
          let is_it : r ≡ a_candidate r.key f.moment = was_there g h place r more r.key (f.moment, f.place) (decider-can h r.key f e) at in
          e ∙ (λ i. Some (record { moment = sym (ap (λ (y : GroupedReceipt). y.moment) is_it) i; place = at i }))

  -- where it decided, each other one that can waited
  pub waits-decided : decider_in h r.key ≡ Some new_one → (c : Candidate) → same_key r.key c.key ≡ true → waits h c ≡ is_candidate c (get g.receipts c.place)
  waits-decided eh c t =
      (λ i. is_candidate c (more.each c.place i) && not (((λ i. is_decided (decider_in h (sym (one_key r.key c.key t) i)) c.place) ∙ ap (λ (d : Option Earliest). is_decided d c.place) eh ∙ turned place c.place) i))
      ∙ by (eq_by_cmp place_cmp c.place place) refl
    where
      by : (b : Bool) → eq_by_cmp place_cmp c.place place ≡ b → (is_candidate c (cond b (Some r) (get g.receipts c.place)) && not b) ≡ is_candidate c (get g.receipts c.place)
      by true s = and_false (is_candidate c (Some r)) ∙ sym (ap (is_candidate c) (none_here c.place s))
      by false s = and_true (is_candidate c (get g.receipts c.place))
