-- What an index holds after a move, where it follows what groups tell.
use Rattle.std.proofs.Common.{◌≡◌, Bool, true, false, cond, ◌||◌, List, Option, Some, None, subst, refl, sym, ap, ◌∙◌}
use Rattle.std.specs.BTreeMap.{is_at, insert_entry}
use Rattle.std.specs.Cmp.{tied_itself}
use Rattle.std.specs.FinMap.{FinMap, empty, get, get-insert, insert, remove}
use Rattle.std.specs.List.Sorted.{IsStrictlySortedBy}
use Rattle.std.specs.Map.{keys_of, remove_entry}
use Rattle.std.specs.FinSet.{FinSet}
use Rattle.std.specs.Prelude.{option_and_then, option_map}
use Rattle.std.specs.Ordering.{eq_by_cmp, is_eq}
use Rattle.smq_kit.specs.declared.link_key.LinkKey.{LinkKey}
use Rattle.smq_kit.specs.declared.place.Dir.{Dir}
use Rattle.smq_kit.specs.declared.place.Dir.TheVariants.{FromClient, FromCentre}
use Rattle.smq_kit.specs.declared.place.Place.{Place}
use Rattle.smq_kit.specs.Maps.{set_at}
use Rattle.smq_kit.specs.Orders.{kept_place_cmp, place_cmp}
use Rattle.smq_kit.proofs.MapLemmas.{same_key}
use Rattle.smq_kit.proofs.PlaceOrders.{places_total, places_exact}
use Rattle.smq_shelf.specs.Keeping.{KeepingMap}
use Rattle.smq_tally.specs.Tally.{TallyValue}
use Rattle.smq_tally.specs.declared.fact.Fact.{Fact}
use Rattle.smq_tally.specs.Lists.{listed}
use Rattle.smq_group.specs.declared.change.Change.{Change}
use Rattle.smq_group.specs.Changes.{TellsChanges}
use Rattle.smq_group.specs.Groups.{GroupsValue, with_receipt, with_submit, without_receipt, without_submit}
use Rattle.smq_group.specs.Matching.{Grouping}
use Rattle.smq_group.specs.Standings.{StandApart}
use Rattle.smq_route.specs.Numbers.{NumbersValue, number_cmp}
use Rattle.smq_route.specs.Versions.{Versions}
use Rattle.smq_book.specs.declared.index.index.Index.{Index}
use Rattle.smq_present.specs.present.Settings.{SettingsValue}
use Rattle.smq_present.specs.pairing.Traffic.{Message, ReceivedReceipt, TrafficValue}
use Rattle.smq_present.specs.join.Circumstances.{circumstances, route_in}
use Rattle.smq_present.specs.join.Facts.{fact_in_circumstances, facts_of}
use Rattle.smq_present.specs.join.Keyed.{accepted_key, grouping_of, keyed_receipt}
use Rattle.smq_present.specs.join.Listings.{is_named, notes_of}
use Rattle.smq_present.specs.join.Moves.{IsMove, TakeMessage, TakeReceipt, put_message, put_receipt, take_message, take_receipt}
use Rattle.smq_book.specs.index.Anew.{AreDue, IsAnew, IsDue, KeepsSaid}
use Rattle.smq_book.specs.index.Due.{due_in, is_due_fact}
use Rattle.smq_book.specs.index.Ends.{ends_by}
use Rattle.smq_book.specs.index.Following.{AreTold, MayFollow}
use Rattle.smq_book.specs.index.Held.{AreOf, Holding, IsTraffic, IsUnlisted, dues_in, ends_in, facts_anew, held_now, held_of, list_held, messages_in, noted, notes_anew, receipts_in, stored_traffic, with_listing}
use Rattle.smq_book.specs.index.Numbered.{numbered, numbers_of}
use Rattle.smq_book.specs.index.PlacedKeys.{with_key, without_key}
use Rattle.smq_present.proofs.lemmas.join.MoveLemmas.{fact-at}
use Rattle.smq_book.proofs.lemmas.index.AreDue.{due-stays}
use Rattle.smq_book.proofs.lemmas.index.Numbered.{number-again, number-comes, number-goes}
use Rattle.smq_book.proofs.lemmas.index.Members.{kept-traffic, members-put, members-taken, members-unmoved, members-unput, members-untaken, received-put, received-taken, traffic-apart}
use Rattle.smq_book.proofs.lemmas.index.Moves.{alone-facts, alone-notes, receipt-now, taken-facts, taken-notes, tells_of, told-facts, told-notes}
use Rattle.smq_book.proofs.lemmas.index.Following.{fact-route}
use Rattle.smq_book.proofs.lemmas.index.Newcomers.{unlisted-alone, unlisted-same}
use Rattle.smq_book.proofs.lemmas.index.Stored.{at-receipts, at-submits, fact-absent, stored-gone, stored-put}
use Rattle.smq_book.proofs.lemmas.index.ToldNow.{told-now}
use Rattle.smq_book.proofs.lemmas.index.Unlisted.{unheld, unlisted-anew}

-- what is put in is there
pub put-there : {X : Type 0} (m : FinMap place_cmp X) (q : Place) (v : X) → get (insert m q v) q ≡ Some v
put-there m q v = get-insert places_total m q v q ∙ ap (λ b. cond b (Some v) (get m q)) (ap is_eq (tied_itself places_total q))

-- there is none
pub nobody : {X : Type 0} (p : Place) → ◌≡◌ {A = Option Place} None (Some p) → X
nobody p e = absurd cc

-- or this one alone
pub only : (q p : Place) → ◌≡◌ {A = Option Place} (Some q) (Some p) → p ≡ q
only q p e = let same : q ≡ p = cc in sym same

-- where there is one message, no other is
pub one-none : {X : Type 0} (o : Option Message) (m : Message) → o ≡ None → o ≡ Some m → X
one-none o m none is = let clash : ◌≡◌ {A = Option Message} None (Some m) = sym none ∙ is in absurd cc

-- where there is one, it is that
pub one-route : (v : Versions) (o : Option Message) (m n : Message) → o ≡ Some m → o ≡ Some n → route_in v m ≡ route_in v n
one-route v o m n there is = let same : m ≡ n = (let e : ◌≡◌ {A = Option Message} (Some m) (Some n) = sym there ∙ is in cc) in ap (route_in v) same

-- ---- what is stored of traffic

-- No receipt of traffic stands at the place of a message.
pub record StandsApart (u : TrafficValue) : Type 0 where
  pub apart : (q : Place) (m : Message) → get u.messages q ≡ Some m → get u.receipts q ≡ None

-- Entries and members are those of traffic, in which no receipt stands at the place of a message.
pub record Stores (s : SettingsValue) (u : TrafficValue) (ms : List (Place × Message)) (rs : List (Place × ReceivedReceipt))
    (g : Grouping) : Type 0 where
  pub messages : messages_in ms ≡ u.messages
  pub receipts : receipts_in rs ≡ u.receipts
  pub members : g ≡ grouping_of s u
  pub stands : StandsApart u

traffic-stands : (s : SettingsValue) (t : TrafficValue) → IsTraffic t → StandsApart t
traffic-stands s t traffic = record { apart = (traffic-apart s t traffic).apart }

pub stored-held : (s : SettingsValue) (t : TrafficValue) (i : Index) → IsTraffic t → held_now i ≡ held_of s t
    → Stores s t i.messages.content i.receipts.content i.groups.members
stored-held s t i traffic held = record {
  messages = ap (λ (h : Holding). h.messages) held;
  receipts = ap (λ (h : Holding). h.receipts) held;
  members = ap (λ (h : Holding). h.members) held;
  stands = traffic-stands s t traffic;
}

module _ {s : SettingsValue} {u : TrafficValue} {ms : List (Place × Message)} {rs : List (Place × ReceivedReceipt)} {g : Grouping}
    (stores : Stores s u ms rs g) where
  -- it is all that the traffic says but its notes
  stored-is : stored_traffic ms rs ≡ record u { notes = empty }
  stored-is = λ i. record { messages = stores.messages i; receipts = stores.receipts i; notes = empty }

  -- facts rest on no note
  facts-stored : facts_of s (stored_traffic ms rs) ≡ facts_of s u
  facts-stored = λ i. facts_of s (stored-is i)

  -- members of the traffic are those of what is stored
  pub are-stored : AreOf s (stored_traffic ms rs) g
  are-stored = record {
    grouped = stores.members ∙ (λ i. grouping_of s (sym stored-is i));
    apart = λ q m there.
        ap (λ (r : FinMap place_cmp ReceivedReceipt). get r q) stores.receipts
        ∙ stores.stands.apart q m (ap (λ (x : FinMap place_cmp Message). get x q) (sym stores.messages) ∙ there);
  }

-- members that an index holds of traffic are those of what it stores
pub are-held : (s : SettingsValue) (t : TrafficValue) (i : Index) → IsTraffic t → held_now i ≡ held_of s t
    → AreOf s (stored_traffic i.messages.content i.receipts.content) i.groups.members
are-held s t i traffic held = are-stored (stored-held s t i traffic held)

-- ---- after a move

module _ (t : TrafficValue) (stands : StandsApart t) (q : Place) where
  message-apart : (m : Message) → get t.receipts q ≡ None → StandsApart (put_message q m t)
  message-apart m free = record { apart = λ p x e. by p x (eq_by_cmp place_cmp p q) refl (sym (get-insert places_total t.messages q m p) ∙ e) }
    where
      by : (p : Place) (x : Message) (b : Bool) → eq_by_cmp place_cmp p q ≡ b → cond b (Some m) (get t.messages p) ≡ Some x → get t.receipts p ≡ None
      by p x true same e = ap (get t.receipts) (same_key places_total places_exact p q same) ∙ free
      by p x false same e = stands.apart p x e

  receipt-apart : (r : ReceivedReceipt) → get t.messages q ≡ None → StandsApart (put_receipt q r t)
  receipt-apart r free = record { apart = λ p x e. get-insert places_total t.receipts q r p ∙ by p x (eq_by_cmp place_cmp p q) refl e }
    where
      by : (p : Place) (x : Message) (b : Bool) → eq_by_cmp place_cmp p q ≡ b → get t.messages p ≡ Some x → cond b (Some r) (get t.receipts p) ≡ None
      by p x true same e =
          let clash : ◌≡◌ {A = Option Message} None (Some x) = sym (ap (get t.messages) (same_key places_total places_exact p q same) ∙ free)
          ∙ e in absurd cc
      by p x false same e = stands.apart p x e

module _ {s : SettingsValue} {t : TrafficValue} {ms : List (Place × Message)} {rs : List (Place × ReceivedReceipt)} {g : Grouping}
    (stores : Stores s t ms rs g)
    (q : Place) where
  -- a message is put in
  message-put : (m : Message) (later : List (Place × Message)) → later ≡ insert_entry kept_place_cmp ms q m
      → messages_in later ≡ insert t.messages q m
  message-put m later put = ap messages_in put ∙ stored-put ms q m ∙ ap (λ (x : FinMap place_cmp Message). insert x q m) stores.messages

  pub stored-accepted : {later : List (Place × Message)} {h : Grouping} (m : Message) (key : LinkKey) → accepted_key s m ≡ Some key
      → get t.receipts q ≡ None → later ≡ insert_entry kept_place_cmp ms q m → h ≡ with_submit g key q
      → Stores s (put_message q m t) later rs h
  stored-accepted {later} m key is free put came = record {
    messages = message-put m later put;
    receipts = stores.receipts;
    members = came ∙ ap (λ (x : Grouping). with_submit x key q) stores.members ∙ sym (members-put s q t m key is);
    stands = message-apart t stores.stands q m free;
  }

  pub stored-refused : {later : List (Place × Message)} (m : Message) → accepted_key s m ≡ None → get t.messages q ≡ None
      → get t.receipts q ≡ None → later ≡ insert_entry kept_place_cmp ms q m
      → Stores s (put_message q m t) later rs g
  stored-refused {later} m refused none free put = record {
    messages = message-put m later put;
    receipts = stores.receipts;
    members = stores.members ∙ sym (members-unput s q t m refused none);
    stands = message-apart t stores.stands q m free;
  }

  -- a message is put in the place of one that isn't accepted, and isn't either
  pub stored-unmoved : {later : List (Place × Message)} (m : Message) → accepted_key s m ≡ None → get (grouping_of s t).submits q ≡ None
      → get t.receipts q ≡ None → later ≡ insert_entry kept_place_cmp ms q m
      → Stores s (put_message q m t) later rs g
  stored-unmoved {later} m refused none free put = record {
    messages = message-put m later put;
    receipts = stores.receipts;
    members = stores.members ∙ sym (members-unmoved s q t m refused none);
    stands = message-apart t stores.stands q m free;
  }

  -- a message is taken out
  message-gone : (later : List (Place × Message)) → IsStrictlySortedBy kept_place_cmp (keys_of ms)
      → later ≡ remove_entry (is_at (kept_place_cmp q)) ms → messages_in later ≡ remove t.messages q
  message-gone later sorted took =
      ap messages_in took ∙ stored-gone ms q sorted ∙ ap (λ (x : FinMap place_cmp Message). remove x q) stores.messages

  pub stored-withdrawn : {later : List (Place × Message)} {h : Grouping} → IsTraffic t → IsStrictlySortedBy kept_place_cmp (keys_of ms)
      → later ≡ remove_entry (is_at (kept_place_cmp q)) ms → h ≡ without_submit g q
      → Stores s (take_message q t) later rs h
  stored-withdrawn {later} traffic sorted took left = record {
    messages = message-gone later sorted took;
    receipts = stores.receipts;
    members = left ∙ ap (λ (x : Grouping). without_submit x q) stores.members ∙ sym (members-taken s q t);
    stands = traffic-stands s (take_message q t) (kept-traffic t traffic (TakeMessage q) tt);
  }

  pub stored-dropped : {later : List (Place × Message)} → IsTraffic t → get (grouping_of s t).submits q ≡ None
      → IsStrictlySortedBy kept_place_cmp (keys_of ms) → later ≡ remove_entry (is_at (kept_place_cmp q)) ms
      → Stores s (take_message q t) later rs g
  stored-dropped {later} traffic none sorted took = record {
    messages = message-gone later sorted took;
    receipts = stores.receipts;
    members = stores.members ∙ sym (members-untaken s q t none);
    stands = traffic-stands s (take_message q t) (kept-traffic t traffic (TakeMessage q) tt);
  }

  -- a receipt is put in
  pub stored-received : {later : List (Place × ReceivedReceipt)} {h : Grouping} (r : ReceivedReceipt) → get t.messages q ≡ None
      → later ≡ insert_entry kept_place_cmp rs q r → h ≡ with_receipt g q (keyed_receipt s r)
      → Stores s (put_receipt q r t) ms later h
  stored-received r free put came = record {
    messages = stores.messages;
    receipts = ap receipts_in put ∙ stored-put rs q r ∙ ap (λ (x : FinMap place_cmp ReceivedReceipt). insert x q r) stores.receipts;
    members = came ∙ ap (λ (x : Grouping). with_receipt x q (keyed_receipt s r)) stores.members ∙ sym (received-put s q t r);
    stands = receipt-apart t stores.stands q r free;
  }

  -- a receipt is taken out
  pub stored-forgotten : {later : List (Place × ReceivedReceipt)} {h : Grouping} → IsTraffic t → IsStrictlySortedBy kept_place_cmp (keys_of rs)
      → later ≡ remove_entry (is_at (kept_place_cmp q)) rs → h ≡ without_receipt g q
      → Stores s (take_receipt q t) ms later h
  stored-forgotten traffic sorted took left = record {
    messages = stores.messages;
    receipts = ap receipts_in took ∙ stored-gone rs q sorted ∙ ap (λ (x : FinMap place_cmp ReceivedReceipt). remove x q) stores.receipts;
    members = left ∙ ap (λ (x : Grouping). without_receipt x q) stores.members ∙ sym (received-taken s q t);
    stands = traffic-stands s (take_receipt q t) (kept-traffic t traffic (TakeReceipt q) tt);
  }

-- ---- numbers

module _ (s : SettingsValue) (t : TrafficValue) (i : Index) (held : held_now i ≡ held_of s t) where
  -- a message that isn't there has no fact
  pub unknown-before : (q : Place) → get t.messages q ≡ None → get i.tally.facts q ≡ None
  unknown-before q none =
      ap (λ (h : Holding). get h.facts q) held
      ∙ fact-at s t q
      ∙ ap (option_map (λ (m : Message). fact_in_circumstances q m (circumstances s t m))) none

  -- the numbers where a message is put in, and where one is taken out
  pub numbers-came : {numbers : FinSet number_cmp} (q : Place) (m : Message) → get t.messages q ≡ None
      → numbers ≡ with_key (numbered q m) i.numbers.numbers → numbers ≡ numbers_of (put_message q m t)
  numbers-came q m none put =
      put ∙ ap (λ (h : Holding). with_key (numbered q m) h.numbers) held ∙ sym (number-comes q m t none)

  pub numbers-stay : (q : Place) (old m : Message) → get t.messages q ≡ Some old → old.number ≡ m.number
      → i.numbers.numbers ≡ numbers_of (put_message q m t)
  numbers-stay q old m is number = ap (λ (h : Holding). h.numbers) held ∙ sym (number-again q old m t is number)

  pub numbers-went : {numbers : FinSet number_cmp} (q : Place) (m : Message) → get t.messages q ≡ Some m
      → numbers ≡ without_key (numbered q m) i.numbers.numbers → numbers ≡ numbers_of (take_message q t)
  numbers-went q m there took =
      took
      ∙ ap (λ (h : Holding). without_key (numbered q m) h.numbers) held
      ∙ ap (λ x. without_key (option_and_then (numbered q) x) (numbers_of t)) (sym there)
      ∙ sym (number-goes q t)

-- ---- places that no list of receipts notes

module _ (s : SettingsValue) (t : TrafficValue) (i : Index) (held : held_now i ≡ held_of s t) (traffic : IsTraffic t) where
  -- where no receipt stands, none does
  pub unlisted-at : (p : Place) → get t.receipts p ≡ None → IsUnlisted i.tally.notes p
  unlisted-at p none = record {
    none = λ name one.
        ap (λ (h : Holding). get h.notes (listed name p)) held
        ∙ receipt-now s t t refl traffic name p one
        ∙ ap (λ x. noted (is_named name x)) (unheld s t (grouping_of s t) (traffic-apart s t traffic) p none);
  }

-- ---- facts and notes that follow

module _ (s : SettingsValue) (t u : TrafficValue) (i : Index) {ms : List (Place × Message)} {rs : List (Place × ReceivedReceipt)} {h : Grouping}
    (held : held_now i ≡ held_of s t) (stores : Stores s u ms rs h) (traffic : IsTraffic t) (q : Place) (move : IsMove q t u)
    (same : t.notes ≡ u.notes) where
  abbrev now : Place → Option Fact
  now = get (facts_of s (stored_traffic ms rs))

  is-now : now ≡ get (facts_of s u)
  is-now = ap (λ (m : FinMap place_cmp Fact). get m) (facts-stored stores)

  were : i.tally.facts ≡ facts_of s t
  were = ap (λ (x : Holding). x.facts) held

  were_noted : i.tally.notes ≡ notes_of s t
  were_noted = ap (λ (x : Holding). x.notes) held

  -- where messages, receipts, members, facts, notes and numbers of an index are those of the traffic, and the messages
  -- whose receipts are due are those of its facts, it holds that
  holds : (j : Index) → j.messages.content ≡ ms → j.receipts.content ≡ rs → j.groups.members ≡ h → j.tally.facts ≡ facts_of s u
      → j.tally.notes ≡ notes_of s u → IsDue s.windows j → j.numbers.numbers ≡ numbers_of u → held_now j ≡ held_of s u
  holds j messages receipts members facts notes due numbers =
      let said = ap messages_in messages ∙ stores.messages in
      λ k. record {
        messages = said k;
        receipts = (ap receipts_in receipts ∙ stores.receipts) k;
        members = (members ∙ stores.members) k;
        facts = facts k;
        notes = notes k;
        due = (due.keys ∙ (λ l. due_in (said l) (facts l))) k;
        ends = (due.ended ∙ (λ l. ends_by s.windows (said l) (facts l))) k;
        numbers = numbers k;
      }

  -- the same where it keeps what another says, and has these facts and notes
  pub holds-said : {before : Index} (j : Index) → KeepsSaid before j → before.messages.content ≡ ms → before.receipts.content ≡ rs
      → before.groups.members ≡ h → (tally : TallyValue) → tally.facts ≡ facts_of s u → tally.notes ≡ notes_of s u
      → IsDue s.windows (record j { tally = tally }) → before.numbers.numbers ≡ numbers_of u → held_now (record j { tally = tally }) ≡ held_of s u
  holds-said j said messages receipts members tally facts notes due numbers =
      holds (record j { tally = tally }) (ap (λ (k : KeepingMap Place Message). k.content) said.messages ∙ messages)
      (ap (λ (k : KeepingMap Place ReceivedReceipt). k.content) said.receipts ∙ receipts)
      (ap (λ (v : GroupsValue). v.members) said.groups ∙ members) facts notes due
      (ap (λ (n : NumbersValue). n.numbers) said.numbers ∙ numbers)

  module _ (cs : List Change) (tells : TellsChanges i.groups.members h cs) where
    tells-moved : TellsChanges (grouping_of s t) (grouping_of s u) cs
    tells-moved =
        subst (λ (x : Grouping). TellsChanges (grouping_of s t) x cs) stores.members
        (subst (λ (x : Grouping). TellsChanges x h cs) (ap (λ (x : Holding). x.members) held) tells)

    -- of something that was put in
    facts-told : tells_of q cs ≡ true → facts_anew now i.tally.facts cs ≡ facts_of s u
    facts-told there = (λ k. facts_anew (is-now k) (were k) cs) ∙ told-facts s q t u cs tells-moved move there

    notes-told : tells_of q cs ≡ true → notes_anew h i.tally.notes cs ≡ notes_of s u
    notes-told there = (λ k. notes_anew (stores.members k) (were_noted k) cs) ∙ told-notes s t u same traffic q cs tells-moved move there

    -- so it is held where facts and notes follow what is told
    pub holds-told : {before : Index} {new : Option Place} (j : Index) → KeepsSaid before j → before.messages.content ≡ ms
        → before.receipts.content ≡ rs → before.groups.members ≡ h → IsAnew s new j (facts_anew now i.tally.facts cs) (notes_anew h i.tally.notes cs)
        → tells_of q cs ≡ true → IsDue s.windows j → before.numbers.numbers ≡ numbers_of u → held_now j ≡ held_of s u
    holds-told j said messages receipts members set there due numbers =
        holds-said j said messages receipts members j.tally (set.facts ∙ facts-told there) (set.notes ∙ notes-told there) due numbers

    -- of something that was taken out
    pub facts-taken : set_at (facts_anew now i.tally.facts cs) q (now q) ≡ facts_of s u
    facts-taken = (λ k. set_at (facts_anew (is-now k) (were k) cs) q (is-now k q)) ∙ taken-facts s q t u cs tells-moved move

    pub notes-taken : with_listing (notes_anew h i.tally.notes cs) q (list_held h q) ≡ notes_of s u
    notes-taken =
        (λ k. with_listing (notes_anew (stores.members k) (were_noted k) cs) q (list_held (stores.members k) q))
        ∙ taken-notes s t u same traffic q cs tells-moved move

  -- of a message that isn't accepted
  pub facts-alone : grouping_of s t ≡ grouping_of s u → set_at i.tally.facts q (now q) ≡ facts_of s u
  facts-alone alike = (λ k. set_at (were k) q (is-now k q)) ∙ alone-facts s q t u move alike

  pub notes-alone : grouping_of s t ≡ grouping_of s u → with_listing i.tally.notes q (list_held h q) ≡ notes_of s u
  notes-alone alike = (λ k. with_listing (were_noted k) q (list_held (stores.members k) q)) ∙ alone-notes s t u same traffic q alike

  -- ---- where listings and facts need no look

  -- where the traffic after the move is as sessions say it, what was known and listed before it may follow
  pub may-follow : (new : Option Place) → ((p : Place) → new ≡ Some p → get t.receipts p ≡ None)
      → ((m n : Message) → get t.messages q ≡ Some m → get u.messages q ≡ Some n → route_in s.versions m ≡ route_in s.versions n)
      → IsTraffic u
      → MayFollow s (stored_traffic ms rs) h new i.tally.facts i.tally.notes
  may-follow new comes alike after = record {
    are = are-stored stores;
    messages = λ p m e. after.messages p m (ap (λ (x : FinMap place_cmp Message). get x p) (sym stores.messages) ∙ e);
    receipts = λ p r e. after.receipts p r (ap (λ (x : FinMap place_cmp ReceivedReceipt). get x p) (sym stores.receipts) ∙ e);
    known = λ p f e. from p f (get t.messages p) refl (sym (fact-at s t p) ∙ sym (ap (λ (m : FinMap place_cmp Fact). get m p) were) ∙ e);
    unlisted = λ p client. unlisted-at s t i held traffic p (free p client (get t.receipts p) refl);
    alone = λ p e. unlisted-alone i.tally.notes p (list_held h p) (unlisted-at s t i held traffic p (comes p e));
    routed = λ p m f there is. route p m f (get t.messages p) refl
        (ap (λ (x : FinMap place_cmp Message). get x p) (sym stores.messages) ∙ there)
        (sym (ap (λ (m : FinMap place_cmp Fact). get m p) were) ∙ is);
  }
    where
      one : (m n : Message) → ◌≡◌ {A = Option Message} (Some m) (Some n) → route_in s.versions m ≡ route_in s.versions n
      one m n e = let same : m ≡ n = cc in ap (route_in s.versions) same

      same_route : (p : Place) (m n : Message) (b : Bool) → eq_by_cmp place_cmp p q ≡ b → get t.messages p ≡ Some m → get u.messages p ≡ Some n
          → route_in s.versions m ≡ route_in s.versions n
      same_route p m n true same was is =
          let here : q ≡ p = sym (same_key places_total places_exact p q same) in
          alike m n (ap (get t.messages) here ∙ was) (ap (get u.messages) here ∙ is)
      same_route p m n false other was is = one m n (sym was ∙ move.messages.at p (ap (λ b. b || false) other) ∙ is)

      route : (p : Place) (n : Message) (f : Fact) (x : Option Message) → get t.messages p ≡ x → get u.messages p ≡ Some n
          → get (facts_of s t) p ≡ Some f → f.route ≡ route_in s.versions n
      route p n f None e there is =
          let clash : ◌≡◌ {A = Option Fact} None (Some f) =
          sym (fact-at s t p ∙ ap (option_map (λ (m : Message). fact_in_circumstances p m (circumstances s t m))) e) ∙ is in absurd cc
      route p n f (Some m) e there is = fact-route s t p m f e is ∙ same_route p m n (eq_by_cmp place_cmp p q) refl e there

      from : (p : Place) (f : Fact) (x : Option Message) → get t.messages p ≡ x
          → option_map (λ (m : Message). fact_in_circumstances p m (circumstances s t m)) x ≡ Some f → p.dir ≡ FromClient
      from p f None e is = absurd cc
      from p f (Some m) e is = traffic.messages p m e

      free : (p : Place) → p.dir ≡ FromClient → (x : Option ReceivedReceipt) → get t.receipts p ≡ x → x ≡ None
      free p client None e = refl
      free p client (Some r) e = let clash : ◌≡◌ {A = Dir} FromClient FromCentre = sym client ∙ traffic.receipts p r e in absurd cc

  -- no receipt stands at the place of a message that is accepted
  stand-apart : StandApart h
  stand-apart = record { apart = λ p key there. by p key (get (messages_in ms) p) refl (sym (at-submits s (stored_traffic ms rs) h are p) ∙ there) }
    where
      are : AreOf s (stored_traffic ms rs) h
      are = are-stored stores

      by : (p : Place) (key : LinkKey) (x : Option Message) → get (messages_in ms) p ≡ x
          → option_and_then (λ (m : Message). accepted_key s m) x ≡ Some key → get h.receipts p ≡ None
      by p key None e is = absurd cc
      by p key (Some m) e is =
          at-receipts s (stored_traffic ms rs) h are p
          ∙ ap (option_and_then (λ (r : ReceivedReceipt). Some (keyed_receipt s r))) (are.apart p m e)

  pub told : (cs : List Change) → TellsChanges i.groups.members h cs → AreTold h cs
  told cs tells = told-now h stand-apart i.groups.members cs tells

  module _ (before : get t.receipts q ≡ None) (after : get u.receipts q ≡ None) where
    none_held : list_held h q ≡ None
    none_held =
        unheld s (stored_traffic ms rs) h (are-stored stores) q (ap (λ (x : FinMap place_cmp ReceivedReceipt). get x q) stores.receipts ∙ after)

    -- of a message that isn't accepted: its place is noted in no list
    pub notes-left : grouping_of s t ≡ grouping_of s u → i.tally.notes ≡ notes_of s u
    notes-left alike =
        sym (unlisted-same q i.tally.notes (unlisted-at s t i held traffic q before))
        ∙ ap (with_listing i.tally.notes q) (sym none_held)
        ∙ notes-alone alike

    -- its fact is put alone, where its receipt is due neither before nor after
    pub holds-unaccepted : grouping_of s t ≡ grouping_of s u → (m : Message) (f : Fact) (j : Index) → get u.messages q ≡ Some m
        → Some f ≡ get (facts_of s u) q → is_due_fact (Some f) ≡ is_due_fact (get i.tally.facts q)
        → j.messages.content ≡ ms → j.receipts.content ≡ rs → j.groups.members ≡ h
        → j.tally.facts ≡ insert i.tally.facts q f → j.tally.notes ≡ i.tally.notes
        → AreDue s.windows (messages_in j.messages.content) i.tally.facts (dues_in j.due.content) (ends_in j.ends.content)
        → j.numbers.numbers ≡ numbers_of u → held_now j ≡ held_of s u
    holds-unaccepted alike m f j there known still messages receipts members sets noted due numbers =
        let here = ap (λ (x : FinMap place_cmp Message). get x q) (ap messages_in messages ∙ stores.messages) ∙ there in
        holds j messages receipts members
        (sets ∙ (λ k. set_at (were k) q (known k)) ∙ alone-facts s q t u move alike) (noted ∙ notes-left alike)
        (due-stays due q (Some f) sets m here still) numbers

    module _ (gone : get u.messages q ≡ None) where
      unknown : now q ≡ None
      unknown = fact-absent s (stored_traffic ms rs) h (are-stored stores) q (ap (λ (x : FinMap place_cmp Message). get x q) stores.messages ∙ gone)

      -- of a message that was taken out: its fact goes last, and its place is noted in no list
      module _ (cs : List Change) (tells : TellsChanges i.groups.members h cs) where
        pub facts-gone : remove (facts_anew now i.tally.facts cs) q ≡ facts_of s u
        facts-gone = ap (set_at (facts_anew now i.tally.facts cs) q) (sym unknown) ∙ facts-taken cs tells

        pub notes-gone : notes_anew h i.tally.notes cs ≡ notes_of s u
        notes-gone =
            sym (unlisted-same q (notes_anew h i.tally.notes cs)
            (unlisted-anew q h none_held i.tally.notes (unlisted-at s t i held traffic q before) cs))
            ∙ ap (with_listing (notes_anew h i.tally.notes cs) q) (sym none_held)
            ∙ notes-taken cs tells

      -- the same of one that wasn't accepted
      pub facts-left : grouping_of s t ≡ grouping_of s u → remove i.tally.facts q ≡ facts_of s u
      facts-left alike = ap (set_at i.tally.facts q) (sym unknown) ∙ facts-alone alike
