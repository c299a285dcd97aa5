-- Members that come and go, the order in which they come, and that changes are told in one way.
use Rattle.std.proofs.Common.{◌≡◌, ◌≢◌, Bool, true, false, cond, List, [], ◌∷◌, ◌++◌, Option, Some, None, refl, sym, ap, ◌∙◌, subst, map}
use Rattle.std.specs.Prelude.{T, option_map}
use Rattle.std.specs.Ordering.{eq_by_cmp, is_lt}
use Rattle.std.specs.List.{AllByRecursion}
use Rattle.std.specs.List.Sorted.{IsStrictlySortedBy}
use Rattle.std.specs.declared.cmp.Ordering.TheVariants.{Less}
use Rattle.std.specs.FinMap.{FinMap, find, get, insert, remove, get-insert, get-remove, is_sorted, same_map}
use Rattle.std.specs.FinMap.Entries.{below_all, same_entries}
use Rattle.std.proofs.lemmas.Map.Keys.{sorted_head, sorted_tail}
use Rattle.smq_kit.specs.declared.place.Place.{Place}
use Rattle.smq_kit.specs.Orders.{place_cmp}
use Rattle.smq_kit.proofs.Comparisons.{both_tests}
use Rattle.smq_kit.proofs.PlaceOrders.{places_total, places_exact}
use Rattle.smq_group.specs.declared.change.Change.{Change}
use Rattle.smq_group.specs.declared.change.Standing.{Standing}
use Rattle.smq_group.specs.Changes.{changed, receipt_at, submit_at, told_at, told_of_submit}
use Rattle.smq_group.specs.Groups.{with_submit}
use Rattle.smq_group.specs.Laws.{IsToldOneWay, SubmitsLeaveOtherKeys, TellsNothingOfTheSame}
use Rattle.smq_group.specs.Matching.{submit_standing}
use Rattle.smq_group.specs.within.Outlooks.{submit_standing_of}
use Rattle.smq_group.proofs.Turning.{standing-itself, told-submit}
use Rattle.smq_group.proofs.Moving.{moves-submit}
use Rattle.smq_group.proofs.Placing.{not_none, same_place, sorted_none, swapped}

-- ---- a finite map by place

module _ {X : Type 0} (m : FinMap place_cmp X) where
  back : (p q : Place) (v : X) (b : Bool) → get m p ≡ None → eq_by_cmp place_cmp q p ≡ b → cond b None (cond b (Some v) (get m q)) ≡ get m q
  back p q v true none t = sym (ap (get m) (same_place q p t) ∙ none)
  back p q v false none t = refl

  pub inserted-removed : (p : Place) (v : X) → get m p ≡ None → remove (insert m p v) p ≡ m
  inserted-removed p v none = same_map places_total places_exact _ _ (λ q.
      get-remove places_total (insert m p v) p q ∙ ap (cond (eq_by_cmp place_cmp q p) None) (get-insert places_total m p v q) ∙ back p q v (eq_by_cmp place_cmp q p) none refl)

  pub inserted-swapped : (p q : Place) (v w : X) → p ≢ q → insert (insert m p v) q w ≡ insert (insert m q w) p v
  inserted-swapped p q v w ne = same_map places_total places_exact _ _ (λ x.
      get-insert places_total (insert m p v) q w x ∙ ap (cond (eq_by_cmp place_cmp x q) (Some w)) (get-insert places_total m p v x)
      ∙ swapped (eq_by_cmp place_cmp x q) (eq_by_cmp place_cmp x p) (Some w) (Some v) (get m x) (λ a b. ne (sym (same_place x p b) ∙ same_place x q a))
      ∙ sym (get-insert places_total (insert m q w) p v x ∙ ap (cond (eq_by_cmp place_cmp x p) (Some v)) (get-insert places_total m q w x)))

-- ---- changes are told in one way

abbrev as_entries : List Change → List (Place × Standing)
as_entries cs = map (λ c. (c.place, c.standing)) cs

told_is_found : (cs : List Change) (q : Place) → told_at q cs ≡ find place_cmp q (as_entries cs)
told_is_found [] q = refl
told_is_found (c ∷ cs) q = ap (cond (eq_by_cmp place_cmp q c.place) (Some c.standing)) (told_is_found cs q)

below_entries : (p : Place) (cs : List Change) → AllByRecursion (λ q. place_cmp p q ≡ Less) (map (λ (c : Change). c.place) cs) → T (below_all place_cmp p (as_entries cs))
below_entries p [] a = tt
below_entries p (c ∷ cs) a = both_tests (is_lt (place_cmp p c.place)) (below_all place_cmp p (as_entries cs)) (subst (λ r. T (is_lt r)) (sym a.0) tt) (below_entries p cs a.1)

sorted_entries : (cs : List Change) → IsStrictlySortedBy place_cmp (map (λ (c : Change). c.place) cs) → T (is_sorted place_cmp (as_entries cs))
sorted_entries [] so = tt
sorted_entries (c ∷ cs) so = both_tests (below_all place_cmp c.place (as_entries cs)) (is_sorted place_cmp (as_entries cs))
    (below_entries c.place cs (sorted_head place_cmp c.place (map (λ (c : Change). c.place) cs) so)) (sorted_entries cs (sorted_tail place_cmp c.place (map (λ (c : Change). c.place) cs) so))

there_and_back : (cs : List Change) → map (λ (e : Place × Standing). let c : Change = record { place = e.0; standing = e.1 } in c) (as_entries cs) ≡ cs
there_and_back [] = refl
there_and_back (c ∷ cs) = ap (λ (xs : List Change). c ∷ xs) (there_and_back cs)

one_list : (a b : List Change) → IsStrictlySortedBy place_cmp (map (λ (c : Change). c.place) a) → IsStrictlySortedBy place_cmp (map (λ (c : Change). c.place) b) → ((q : Place) → told_at q a ≡ told_at q b) → a ≡ b
one_list a b sa sb same =
    sym (there_and_back a)
    ∙ ap (map (λ (e : Place × Standing). let c : Change = record { place = e.0; standing = e.1 } in c))
    (same_entries place_cmp places_total places_exact (as_entries a) (as_entries b) (sorted_entries a sa) (sorted_entries b sb) (λ q. sym (told_is_found a q) ∙ same q ∙ told_is_found b q))
    ∙ there_and_back b

pub told-one-way : IsToldOneWay
told-one-way before after one other a b =
    a.parts
    ∙ (λ i. one_list a.submits b.submits a.submits_by_place b.submits_by_place (λ q. a.each_submit q ∙ sym (b.each_submit q)) i
    ++ one_list a.receipts b.receipts a.receipts_by_place b.receipts_by_place (λ q. a.each_receipt q ∙ sym (b.each_receipt q)) i)
    ∙ sym b.parts

unchanged : (x : Option Standing) → changed x x ≡ None
unchanged None = refl
unchanged (Some s) = ap (λ b. cond b None (Some s)) (standing-itself s)

pub tells-nothing : TellsNothingOfTheSame
tells-nothing before after changes submits receipts told = told-one-way before after changes [] told (record {
  submits = [];
  receipts = [];
  parts = refl;
  submits_by_place = sorted_none;
  receipts_by_place = sorted_none;
  each_submit = λ q. sym (ap (changed (submit_at before q)) (submits q) ∙ unchanged (submit_at before q));
  each_receipt = λ q. sym (ap (changed (receipt_at before q)) (receipts q) ∙ unchanged (receipt_at before q));
})

-- ---- keys are apart

pub other-keys-stay : SubmitsLeaveOtherKeys
other-keys-stay g key other place q none apart there =
    let moves = moves-submit g key place none in
    let still : get (insert g.submits place key) q ≡ Some other = get-insert places_total g.submits place key q ∙ by (eq_by_cmp place_cmp q place) refl in
    let same : told_of_submit (submit_standing (with_submit g key place) other) ≡ told_of_submit (submit_standing g other) =
    told-submit (with_submit g key place) other ∙ ap submit_standing_of (moves.elsewhere other apart) ∙ sym (told-submit g other) in
    ap (option_map (λ k. told_of_submit (submit_standing (with_submit g key place) k))) still ∙ ap Some same ∙ sym (ap (option_map (λ k. told_of_submit (submit_standing g k))) there)
  where
    by : (b : Bool) → eq_by_cmp place_cmp q place ≡ b → cond (eq_by_cmp place_cmp q place) (Some key) (get g.submits q) ≡ Some other
    by true t = absurd (not_none other (get g.submits q) (ap (get g.submits) (same_place q place t) ∙ none) there)
    by false t = ap (λ b. cond b (Some key) (get g.submits q)) t ∙ there
