-- Changes tell how members stand now.
use Rattle.std.proofs.Common.{◌≡◌, ℕ, zero, suc, ◌<◌, Bool, true, false, cond, List, [], ◌∷◌, ◌++◌, Option, Some, None, refl, sym, ap, ◌∙◌, subst, arith, length, get_or}
use Rattle.std.specs.Prelude.{map, option_map}
use Rattle.std.specs.Cmp.{tied_itself}
use Rattle.std.specs.FinMap.{get}
use Rattle.std.specs.List.{AllByRecursion}
use Rattle.std.specs.List.Sorted.{IsStrictlySortedBy}
use Rattle.std.specs.Option.{option_or}
use Rattle.std.specs.Ordering.{eq_by_cmp, is_eq}
use Rattle.std.specs.declared.cmp.Ordering.{Ordering}
use Rattle.std.specs.declared.cmp.Ordering.TheVariants.{Less, Equal}
use Rattle.std.proofs.lemmas.Map.Keys.{sorted_head, sorted_tail}
use Rattle.smq_kit.specs.Maps.{same_option}
use Rattle.smq_kit.specs.Orders.{place_cmp}
use Rattle.smq_kit.specs.declared.link_key.LinkKey.{LinkKey}
use Rattle.smq_kit.specs.declared.place.Place.{Place}
use Rattle.smq_kit.proofs.MapLemmas.{same_key}
use Rattle.smq_kit.proofs.PlaceOrders.{places_total, places_exact}
use Rattle.smq_group.specs.declared.change.Change.{Change}
use Rattle.smq_group.specs.declared.change.Standing.{Standing}
use Rattle.smq_group.specs.Changes.{TellsChanges, changed, receipt_at, same_standing, submit_at, told_at, told_of_receipt, told_of_submit}
use Rattle.smq_group.specs.Matching.{Grouping, GroupedReceipt, receipt_standing, submit_standing}
use Rattle.smq_group.specs.Standings.{StandApart, standing_at}
use Rattle.smq_book.specs.index.Following.{AreTold}

-- ---- of one list, by place

past : (c : Change) (whole cs : List Change) → AllByRecursion (λ p. place_cmp c.place p ≡ Less) (map (λ (c : Change). c.place) cs)
    → AllByRecursion (λ (d : Change). told_at d.place whole ≡ Some d.standing) cs
    → AllByRecursion (λ (d : Change). told_at d.place (c ∷ whole) ≡ Some d.standing) cs
past c whole [] above told = tt
past c whole (d ∷ cs) above told = (by (eq_by_cmp place_cmp d.place c.place) refl, past c whole cs above.1 told.1)
  where
    by : (b : Bool) → eq_by_cmp place_cmp d.place c.place ≡ b → cond b (Some c.standing) (told_at d.place whole) ≡ Some d.standing
    by true e =
        let here : d.place ≡ c.place = same_key places_total places_exact d.place c.place e in
        let clash : ◌≡◌ {A = Ordering} Equal Less = sym (tied_itself places_total c.place) ∙ ap (place_cmp c.place) (sym here) ∙ above.0 in absurd cc
    by false e = told.0

-- each is what is told of its place
told-own : (cs : List Change) → IsStrictlySortedBy place_cmp (map (λ (c : Change). c.place) cs)
    → AllByRecursion (λ (d : Change). told_at d.place cs ≡ Some d.standing) cs
told-own [] so = tt
told-own (c ∷ cs) so = (
  ap (λ r. cond (is_eq r) (Some c.standing) (told_at c.place cs)) (tied_itself places_total c.place),
  past c cs cs (sorted_head place_cmp c.place (map (λ (c : Change). c.place) cs) so)
      (told-own cs (sorted_tail place_cmp c.place (map (λ (c : Change). c.place) cs) so)),
)

-- and that is how its member stands
now-told : (before after : Option Standing) (x : Standing) → changed before after ≡ Some x → after ≡ Some x
now-told before None x e = absurd cc
now-told before (Some now) x e = by (same_option same_standing before (Some now)) e
  where
    by : (b : Bool) → cond b None (Some now) ≡ Some x → ◌≡◌ {A = Option Standing} (Some now) (Some x)
    by true e = absurd cc
    by false e = e

-- ---- of all

module _ (g : Grouping) where
  of-part : (whole cs : List Change) (before after : Place → Option Standing)
      → ((q : Place) → told_at q whole ≡ changed (before q) (after q))
      → ((q : Place) (x : Standing) → after q ≡ Some x → standing_at g q ≡ Some x)
      → AllByRecursion (λ (d : Change). told_at d.place whole ≡ Some d.standing) cs → AreTold g cs
  of-part whole [] before after each stands own = tt
  of-part whole (c ∷ cs) before after each stands own = (
    stands c.place c.standing (now-told (before c.place) (after c.place) c.standing (sym (each c.place) ∙ own.0)),
    of-part whole cs before after each stands own.1,
  )

  both : (xs ys : List Change) → AreTold g xs → AreTold g ys → AreTold g (xs ++ ys)
  both [] ys a b = b
  both (x ∷ xs) ys a b = (a.0, both xs ys a.1 b)

  -- the change at an index
  pub told-at : (cs : List Change) (n : ℕ) (d : Change) → AreTold g cs → n < length cs
      → Some (get_or cs n d).standing ≡ standing_at g (get_or cs n d).place
  told-at [] n d told within = absurd (omega (arith, within))
  told-at (c ∷ cs) zero d told within = sym told.0
  told-at (c ∷ cs) (suc n) d told within = told-at cs n d told.1 (omega (arith, within))

  module _ (apart : StandApart g) where
    submit-stands : (q : Place) (x : Standing) → submit_at g q ≡ Some x → standing_at g q ≡ Some x
    submit-stands q x e = ap (λ (o : Option Standing). option_or o (receipt_at g q)) e

    receipt-stands : (q : Place) (x : Standing) → receipt_at g q ≡ Some x → standing_at g q ≡ Some x
    receipt-stands q x e = by (get g.submits q) refl
      where
        by : (o : Option LinkKey) → get g.submits q ≡ o
            → option_or (option_map (λ key. told_of_submit (submit_standing g key)) o) (receipt_at g q) ≡ Some x
        by None none = e
        by (Some key) there =
            let clash : ◌≡◌ {A = Option Standing} None (Some x) =
            sym (ap (option_map (λ (r : GroupedReceipt). told_of_receipt (receipt_standing g q r))) (apart.apart q key there)) ∙ e in absurd cc

    -- changes that tell what differs
    pub told-now : (before : Grouping) (cs : List Change) → TellsChanges before g cs → AreTold g cs
    told-now before cs tells =
        subst (AreTold g) (sym tells.parts)
        (both tells.submits tells.receipts
        (of-part tells.submits tells.submits (submit_at before) (submit_at g) tells.each_submit submit-stands
        (told-own tells.submits tells.submits_by_place))
        (of-part tells.receipts tells.receipts (receipt_at before) (receipt_at g) tells.each_receipt receipt-stands
        (told-own tells.receipts tells.receipts_by_place)))
