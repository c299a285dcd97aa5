-- What is known of a place follows its standing by its direction: one of the client has no listing, and one of the centre no fact.
use Rattle.std.proofs.Common.{◌≡◌, Bool, true, false, cond, Option, Some, None, refl, sym, ap, subst, ◌∙◌}
use Rattle.std.specs.FinMap.{FinMap, get}
use Rattle.std.specs.FinSet.{FinSet}
use Rattle.std.specs.Ordering.{eq_by_cmp}
use Rattle.std.specs.Prelude.{option_map}
use Rattle.smq_kit.specs.Maps.{set_at}
use Rattle.smq_kit.specs.Orders.{place_cmp}
use Rattle.smq_kit.specs.declared.place.Dir.{Dir}
use Rattle.smq_kit.specs.declared.place.Dir.TheVariants.{FromClient, FromCentre}
use Rattle.smq_kit.specs.declared.place.Place.{Place}
use Rattle.smq_kit.proofs.MapLemmas as maps
use Rattle.smq_kit.proofs.PlaceOrders.{places_total, places_exact}
use Rattle.smq_tally.specs.Lists.{listed_cmp}
use Rattle.smq_tally.specs.Tally.{TallyValue}
use Rattle.smq_tally.specs.declared.fact.Fact.{Fact}
use Rattle.smq_group.specs.declared.change.Standing as told
use Rattle.smq_group.specs.Matching.{Grouping}
use Rattle.smq_group.specs.Standings.{standing_at}
use Rattle.smq_present.specs.present.Settings.{SettingsValue}
use Rattle.smq_present.specs.pairing.Traffic.{Message, ReceivedReceipt, TrafficValue}
use Rattle.smq_present.specs.join.Circumstances.{circumstances, route_in}
use Rattle.smq_present.specs.join.Facts.{fact_in_circumstances, facts_of}
use Rattle.smq_book.specs.declared.index.index.Index.{Index}
use Rattle.smq_book.specs.index.Anew.{CanFollow, KeepsSaid, stored_in}
use Rattle.smq_book.specs.index.Following.{MayFollow}
use Rattle.smq_book.specs.index.Held.{list_by, list_held, with_listing}
use Rattle.smq_present.proofs.lemmas.join.MoveLemmas.{fact-at}
use Rattle.smq_book.proofs.lemmas.index.Newcomers.{alone-again, unlisted-same}
use Rattle.smq_book.proofs.lemmas.index.Stored.{fact-absent, list-told}
use Rattle.smq_book.proofs.lemmas.index.Unlisted.{unheld, unlisted-listing}

-- what is said stays in turn
pub both-keep : {i j k : Index} → KeepsSaid i j → KeepsSaid j k → KeepsSaid i k
both-keep a b = record {
  messages = b.messages ∙ a.messages;
  receipts = b.receipts ∙ a.receipts;
  groups = b.groups ∙ a.groups;
  numbers = b.numbers ∙ a.numbers;
  settled = b.settled ∙ a.settled;
  settled_due = b.settled_due ∙ a.settled_due;
  settled_ends = b.settled_ends ∙ a.settled_ends;
}

-- it does where facts and notes alone change
pub said-by : (i : Index) (tally : TallyValue) → tally.settled ≡ i.tally.settled → KeepsSaid i (record i { tally = tally })
said-by i tally settled = record {
  messages = refl;
  receipts = refl;
  groups = refl;
  numbers = refl;
  settled = settled;
  settled_due = refl;
  settled_ends = refl;
}

pub said-itself : {i : Index} → KeepsSaid i i
said-itself {i} = said-by i i.tally refl

-- where it stays, with these facts and notes, others follow by it as before
pub follow-still : {i j : Index} (s : SettingsValue) (new : Option Place) (facts : FinMap place_cmp Fact) (notes : FinSet listed_cmp)
    → KeepsSaid i j → j.tally.facts ≡ facts → j.tally.notes ≡ notes → MayFollow s (stored_in i) i.groups.members new facts notes
    → CanFollow s new j
follow-still {i} {j} s new facts notes said sets noted may = subst (CanFollow s new) (λ k. record j {
  groups = sym said.groups k;
  messages = sym said.messages k;
  receipts = sym said.receipts k;
  tally = record j.tally { facts = sym sets k; notes = sym noted k };
}) may

-- a place has one direction
apart : {X : Type 0} (p q : Place) → p.dir ≡ FromClient → q.dir ≡ FromCentre → p ≡ q → X
apart p q client centre same =
    let clash : ◌≡◌ {A = Dir} FromClient FromCentre = sym client ∙ ap (λ (x : Place). x.dir) same ∙ centre in absurd cc

-- a fact has the route of its message
pub fact-route : (s : SettingsValue) (t : TrafficValue) (q : Place) (m : Message) (f : Fact) → get t.messages q ≡ Some m
    → get (facts_of s t) q ≡ Some f → f.route ≡ route_in s.versions m
fact-route s t q m f there is =
    let one : ◌≡◌ {A = Option Fact} (Some (fact_in_circumstances q m (circumstances s t m))) (Some f) =
    sym (fact-at s t q ∙ ap (option_map (λ (m : Message). fact_in_circumstances q m (circumstances s t m))) there) ∙ is in
    let same : fact_in_circumstances q m (circumstances s t m) ≡ f = cc in
    ap (λ (f : Fact). f.route) (sym same)

module _ (s : SettingsValue) (t : TrafficValue) (g : Grouping) (facts : FinMap place_cmp Fact) (notes : FinSet listed_cmp)
    (new : Option Place) (may : MayFollow s t g new facts notes) (q : Place) where
  -- ---- at a place of the client

  no-receipt : q.dir ≡ FromClient → get t.receipts q ≡ None
  no-receipt client = by (get t.receipts q) refl
    where
      by : (x : Option ReceivedReceipt) → get t.receipts q ≡ x → x ≡ None
      by None e = refl
      by (Some r) e = apart q q client (may.receipts q r e) refl

  -- its listing is idle
  pub listing-idle : q.dir ≡ FromClient → notes ≡ with_listing notes q (list_held g q)
  listing-idle client =
      sym (ap (with_listing notes q) (unheld s t g may.are q (no-receipt client)) ∙ unlisted-same q notes (may.unlisted q client))

  -- and its fact leaves others to follow
  pub fact-follows : q.dir ≡ FromClient → MayFollow s t g new (set_at facts q (get (facts_of s t) q)) notes
  fact-follows client = record {
    are = may.are;
    messages = may.messages;
    receipts = may.receipts;
    known = λ p f e. by p f (eq_by_cmp place_cmp p q) refl (sym (maps.get-set_at places_total places_exact facts q now p) ∙ e);
    routed = λ p m f there e. route p m f (eq_by_cmp place_cmp p q) refl there (sym (maps.get-set_at places_total places_exact facts q now p) ∙ e);
    unlisted = may.unlisted;
    alone = may.alone;
  }
    where
      now : Option Fact
      now = get (facts_of s t) q

      route : (p : Place) (m : Message) (f : Fact) (b : Bool) → eq_by_cmp place_cmp p q ≡ b → get t.messages p ≡ Some m
          → cond b now (get facts p) ≡ Some f → f.route ≡ route_in s.versions m
      route p m f true same there e =
          let here : get t.messages q ≡ Some m = ap (get t.messages) (sym (maps.same_key places_total places_exact p q same)) ∙ there in
          fact-route s t q m f here e
      route p m f false other there e = may.routed p m f there e

      by : (p : Place) (f : Fact) (b : Bool) → eq_by_cmp place_cmp p q ≡ b → cond b now (get facts p) ≡ Some f → p.dir ≡ FromClient
      by p f true same e = ap (λ (x : Place). x.dir) (maps.same_key places_total places_exact p q same) ∙ client
      by p f false other e = may.known p f e

  -- ---- at a place of the centre

  no-message : q.dir ≡ FromCentre → get t.messages q ≡ None
  no-message centre = by (get t.messages q) refl
    where
      by : (x : Option Message) → get t.messages q ≡ x → x ≡ None
      by None e = refl
      by (Some m) e = apart q q (may.messages q m e) centre refl

  no-fact : q.dir ≡ FromCentre → get facts q ≡ None
  no-fact centre = by (get facts q) refl
    where
      by : (x : Option Fact) → get facts q ≡ x → x ≡ None
      by None e = refl
      by (Some f) e = apart q q (may.known q f e) centre refl

  -- its fact is idle
  pub fact-idle : q.dir ≡ FromCentre → facts ≡ set_at facts q (get (facts_of s t) q)
  fact-idle centre =
      sym (ap (set_at facts q) (fact-absent s t g may.are q (no-message centre) ∙ sym (no-fact centre))
      ∙ maps.set-same places_total places_exact facts q)

  -- the list that is told of it is its own
  pub listing-told : q.dir ≡ FromCentre → (standing : Option told.Standing) → standing ≡ standing_at g q → list_by true standing ≡ list_held g q
  listing-told centre standing told = ap (list_by true) told ∙ list-told s t g may.are q (no-message centre)

  -- and its listing leaves others to follow
  pub listing-follows : q.dir ≡ FromCentre → MayFollow s t g new facts (with_listing notes q (list_held g q))
  listing-follows centre = record {
    are = may.are;
    messages = may.messages;
    receipts = may.receipts;
    known = may.known;
    routed = may.routed;
    unlisted = λ p client. unlisted-listing p notes (may.unlisted p client) q (list_held g q)
        (λ same. apart p q client centre (maps.same_key places_total places_exact p q same));
    alone = λ p is. alone-again p (list_held g p) q (list_held g q) (λ e. ap (list_held g) (sym e)) notes (may.alone p is);
  }
