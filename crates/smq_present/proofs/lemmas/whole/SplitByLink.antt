-- What is present of some links and what is present of the others: keys hold their link, so a message finds in its part what
-- it finds in the whole, and its fact is the same.
use Rattle.std.proofs.Common.{◌≡◌, ℕ, ◌+◌, Bool, true, false, cond, ◌||◌, List, [], ◌∷◌, ◌++◌, Option, Some, None, refl, sym, ap, ◌∙◌, subst, arith}
use Rattle.std.specs.Prelude.{◌&&◌, ◌==◌, not, if◌then◌else◌, map, filter, count_by, option_map}
use Rattle.std.specs.Option.{option_to_list}
use Rattle.std.specs.List.{AllByRecursion, enumerate_from, flat_map, list_any}
use Rattle.std.specs.FinMap.{entries, nat_cmp-IsAntisymmetric}
use Rattle.std.specs.Cmp.{nat_cmp_total}
use Rattle.std.proofs.lemmas.Bool.{true≢false}
use Rattle.std.proofs.lemmas.List.{map-append}
use Rattle.std.proofs.lemmas.List.Elements.{filter-append}
use Rattle.std.proofs.lemmas.List.Sums.{sum_by-append, sum_by-cons}
use Rattle.smq_kit.specs.declared.names.LinkId.{LinkId}
use Rattle.smq_kit.specs.declared.link_key.LinkKey.{LinkKey}
use Rattle.smq_kit.specs.LinkKeys.{link_key, same_key}
use Rattle.smq_kit.specs.Maps.{kept_of}
use Rattle.smq_kit.proofs.MapLemmas as maps
use Rattle.smq_pdu.specs.declared.body.Submit.{Submit}
use Rattle.smq_receipt.specs.declared.reading.Receipt.{Receipt}
use Rattle.smq_tally.specs.declared.fact.Fact.{Fact}
use Rattle.smq_tally.specs.declared.outcome.Outcome.{Outcome}
use Rattle.smq_tally.specs.declared.value.Value.{Value}
use Rattle.smq_tally.specs.declared.view.View.{View}
use Rattle.smq_tally.specs.Rows.{count_key, stands_in}
use Rattle.smq_tally.specs.Tables.{count_at}
use Rattle.smq_tally.proofs.Tallies.{count-tables}
use Rattle.smq_present.specs.declared.pairing.pairs.SessionForms.{SessionForms}
use Rattle.smq_present.specs.declared.present.kept.StoredPdu.{StoredPdu}
use Rattle.smq_present.specs.declared.present.session.Session.{Session}
use Rattle.smq_present.specs.present.Kept.{header_of, kept_pdus, receipt_in, submit_in}
use Rattle.smq_present.specs.present.Present.{PresentValue}
use Rattle.smq_present.specs.present.Settings.{SettingsValue}
use Rattle.smq_present.specs.pairing.Traffic.{traffic_of}
use Rattle.smq_present.specs.join.Circumstances.{lapsed_in, route_in}
use Rattle.smq_present.specs.join.Facts.{fact_in_circumstances, facts_of}
use Rattle.smq_present.specs.join.Keyed.{can_decide}
use Rattle.smq_present.specs.join.Listings.{notes_of}
use Rattle.smq_group.specs.Matching.{Shared, Single}
use Rattle.smq_present.specs.whole.Links.{of_links, other_links, session_there}
use Rattle.smq_present.specs.whole.Scratch.{scratch}
use Rattle.smq_present.specs.within.Accepted.{accepted_with, decider_of, number_accepted}
use Rattle.smq_present.specs.within.Lists.{facts_listed, session_receipts, session_submits, source_of}
use Rattle.smq_present.specs.within.Messages.{SubmittedMessage, accepted_id, message_of, submit_with, submit_by, response_of}
use Rattle.smq_present.specs.within.Outcomes.{circumstances_by, fact_among, message_from, standing_of}
use Rattle.smq_present.specs.within.Receipts.{KeyedReceipt, least_receipt, receipt_by}
use Rattle.smq_group.proofs.MatchingLemmas.{failing}
use Rattle.smq_present.proofs.lemmas.whole.AgreePresent.{facts-are}

-- ---- lists

pub all-append : {A : Type 0} (P : A → Type 0) (xs ys : List A) → AllByRecursion P xs → AllByRecursion P ys → AllByRecursion P (xs ++ ys)
all-append P [] ys h k = k
all-append P (x ∷ xs) ys h k = (h.0, all-append P xs ys h.1 k)

all-flat : {A B : Type 0} (P : B → Type 0) (f : A → List B) (xs : List A) → ((x : A) → AllByRecursion P (f x)) → AllByRecursion P (flat_map f xs)
all-flat P f [] h = tt
all-flat P f (x ∷ xs) h = all-append P (f x) (flat_map f xs) (h x) (all-flat P f xs h)

pub all-weaker : {A : Type 0} (P Q : A → Type 0) (xs : List A) → ((x : A) → P x → Q x) → AllByRecursion P xs → AllByRecursion Q xs
all-weaker P Q [] h a = tt
all-weaker P Q (x ∷ xs) h a = (h x a.0, all-weaker P Q xs h a.1)

map-alike : {A B : Type 0} (f g : A → B) (xs : List A) → AllByRecursion (λ x. f x ≡ g x) xs → map f xs ≡ map g xs
map-alike f g [] h = refl
map-alike f g (x ∷ xs) h = λ i. h.0 i ∷ map-alike f g xs h.1 i

count-append : {A : Type 0} (test : A → Bool) (xs ys : List A) → count_by test (xs ++ ys) ≡ count_by test xs + count_by test ys
count-append test xs ys = sum_by-append (λ x. cond (test x) 1 0) xs ys

-- ---- keys are of their link

-- the key of a message, where it has one, is of a link
abbrev pub OfLink : LinkId → SubmittedMessage → Type 0
OfLink link m = (key : LinkKey) → m.key ≡ Some key → key.link ≡ link

-- so is that of a receipt
abbrev pub ReceiptOfLink : LinkId → KeyedReceipt → Type 0
ReceiptOfLink link e = e.0.link ≡ link

message-of : (source : SessionForms) (p : StoredPdu) (submit : Submit) (response : Option StoredPdu) → OfLink source.link (message_of source p submit response)
message-of source p submit response key e = from (accepted_id (header_of p) response) e
  where
    from : (id : Option (List ℕ)) → option_map (link_key source.link source.forms.response) id ≡ Some key → key.link ≡ source.link
    from None e = absurd cc
    from (Some id) e =
        let same : link_key source.link source.forms.response id ≡ key = cc in
        sym (ap (λ (k : LinkKey). k.link) same)

submit-of : (source : SessionForms) (p : StoredPdu) (response : Option StoredPdu) (submit : Option Submit)
    → AllByRecursion (OfLink source.link) (submit_with submit source p response)
submit-of source p response None = tt
submit-of source p response (Some submit) = (message-of source p submit response, tt)

pub submits-of : (s : SettingsValue) (e : ℕ × Session) → AllByRecursion (OfLink e.1.link) (session_submits s e)
submits-of s e =
    let source = source_of s e in
    let client = kept_pdus e.1.client in
    let centre = kept_pdus e.1.centre in
    all-flat (OfLink e.1.link) (λ x. submit_by (submit_in x.1.content) source client centre x.0 x.1) (enumerate_from 0 client)
    (λ x. submit-of source x.1 (response_of client centre x.0 x.1) (submit_in x.1.content))

receipt-of : (source : SessionForms) (p : StoredPdu) (receipt : Option Receipt) → AllByRecursion (ReceiptOfLink source.link) (receipt_by receipt source p)
receipt-of source p None = tt
receipt-of source p (Some receipt) = (refl, tt)

pub receipts-of : (s : SettingsValue) (e : ℕ × Session) → AllByRecursion (ReceiptOfLink e.1.link) (session_receipts s e)
receipts-of s e =
    let source = source_of s e in
    all-flat (ReceiptOfLink e.1.link) (λ p. receipt_by (receipt_in p.content) source p) (kept_pdus e.1.centre)
    (λ p. receipt-of source p (receipt_in p.content))

-- ---- what is of another link has another key

-- a receipt of a key that can decide
abbrev pub decides : LinkKey → KeyedReceipt → Bool
decides key e = same_key key e.0 && can_decide e.1.receipt

module _ (key : LinkKey) (link : LinkId) (other : key.link ≡ link → ⊥) where
  none-accepted : (ms : List SubmittedMessage) → AllByRecursion (OfLink link) ms → count_by (accepted_with key) ms ≡ 0
  none-accepted [] h = refl
  none-accepted (m ∷ ms) h =
      sum_by-cons (λ x. cond (accepted_with key x) 1 0) m ms ∙ (λ i. cond (fails m.key h.0 i) 1 0 + none-accepted ms h.1 i)
    where
      fails : (k : Option LinkKey) → ((l : LinkKey) → k ≡ Some l → l.link ≡ link) → list_any (same_key key) (option_to_list k) ≡ false
      fails None of = refl
      fails (Some k) of = ap (λ b. b || false) (failing key k (same_key key k) refl (λ same. other (ap (λ (x : LinkKey). x.link) same ∙ of k refl)))

  none-filtered : (es : List KeyedReceipt) → AllByRecursion (ReceiptOfLink link) es → filter (decides key) es ≡ []
  none-filtered [] h = refl
  none-filtered (e ∷ es) h =
      ap (λ b. cond (b && can_decide e.1.receipt) (e ∷ filter (decides key) es) (filter (decides key) es))
      (failing key e.0 (same_key key e.0) refl (λ same. other (ap (λ (x : LinkKey). x.link) same ∙ h.0)))
      ∙ none-filtered es h.1

-- ---- the sessions of some links

module _ (s : SettingsValue) (here : LinkId → Bool) where
  abbrev pub part : List (ℕ × Session) → List (ℕ × Session)
  part es = flat_map (kept_of (session_there here)) es

  -- what sessions give, where the first is of these links or not
  pub parted : {A : Type 0} (g : ℕ × Session → List A) (e : ℕ × Session) (es : List (ℕ × Session)) (b : Bool) → here e.1.link ≡ b
      → flat_map g (part (e ∷ es)) ≡ cond b (g e ++ flat_map g (part es)) (flat_map g (part es))
  parted g e es b h =
      ap (λ (b : Bool). flat_map g (map (λ y. (e.0, y)) (option_to_list (cond b (Some e.1) None)) ++ part es)) h ∙ by b
    where
      by : (b : Bool) → flat_map g (map (λ y. (e.0, y)) (option_to_list (cond b (Some e.1) None)) ++ part es)
          ≡ cond b (g e ++ flat_map g (part es)) (flat_map g (part es))
      by true = refl
      by false = refl

  apart : (key : LinkKey) (link : LinkId) → here key.link ≡ true → here link ≡ false → key.link ≡ link → ⊥
  apart key link k l same = true≢false (sym k ∙ ap here same ∙ l)

  -- as many messages are accepted with a key of these links as in the whole
  pub number-part : (key : LinkKey) → here key.link ≡ true → (es : List (ℕ × Session))
      → number_accepted key (flat_map (session_submits s) (part es)) ≡ number_accepted key (flat_map (session_submits s) es)
  number-part key k [] = refl
  number-part key k (e ∷ es) = by (number-part key k es) (here e.1.link) refl
    where
      first : List SubmittedMessage
      first = session_submits s e

      rest : List SubmittedMessage
      rest = flat_map (session_submits s) es

      later : List SubmittedMessage
      later = flat_map (session_submits s) (part es)

      by : number_accepted key later ≡ number_accepted key rest → (b : Bool) → here e.1.link ≡ b
          → number_accepted key (flat_map (session_submits s) (part (e ∷ es))) ≡ number_accepted key (first ++ rest)
      by ih true h =
          ap (number_accepted key) (parted (session_submits s) e es true h) ∙ count-append (accepted_with key) first later
          ∙ ap (λ n. number_accepted key first + n) ih ∙ sym (count-append (accepted_with key) first rest)
      by ih false h =
          let there : number_accepted key (flat_map (session_submits s) (part (e ∷ es))) ≡ number_accepted key later =
          ap (number_accepted key) (parted (session_submits s) e es false h) in
          let none : number_accepted key first ≡ 0 = none-accepted key e.1.link (apart key e.1.link k h) first (submits-of s e) in
          let both : number_accepted key (first ++ rest) ≡ number_accepted key first + number_accepted key rest =
          count-append (accepted_with key) first rest in
          omega (arith, there, ih, none, both)

  -- the same receipts of such a key can decide
  pub candidates-part : (key : LinkKey) → here key.link ≡ true → (es : List (ℕ × Session))
      → filter (decides key) (flat_map (session_receipts s) (part es)) ≡ filter (decides key) (flat_map (session_receipts s) es)
  candidates-part key k [] = refl
  candidates-part key k (e ∷ es) = by (candidates-part key k es) (here e.1.link) refl
    where
      first : List KeyedReceipt
      first = session_receipts s e

      rest : List KeyedReceipt
      rest = flat_map (session_receipts s) es

      by : filter (decides key) (flat_map (session_receipts s) (part es)) ≡ filter (decides key) rest → (b : Bool) → here e.1.link ≡ b
          → filter (decides key) (flat_map (session_receipts s) (part (e ∷ es))) ≡ filter (decides key) (first ++ rest)
      by ih true h =
          ap (filter (decides key)) (parted (session_receipts s) e es true h)
          ∙ filter-append (decides key) first (flat_map (session_receipts s) (part es))
          ∙ ap (λ xs. filter (decides key) first ++ xs) ih ∙ sym (filter-append (decides key) first rest)
      by ih false h =
          ap (filter (decides key)) (parted (session_receipts s) e es false h) ∙ ih
          ∙ ap (λ xs. xs ++ filter (decides key) rest)
          (sym (none-filtered key e.1.link (apart key e.1.link k h) first (receipts-of s e)))
          ∙ sym (filter-append (decides key) first rest)

  -- ---- the fact of a message of these links

  module _ (all : List (ℕ × Session)) where
    abbrev pub fact_there : SubmittedMessage → Fact
    fact_there m = fact_among s (flat_map (session_submits s) (part all)) (flat_map (session_receipts s) (part all)) m

    abbrev pub fact_in_all : SubmittedMessage → Fact
    fact_in_all m = fact_among s (flat_map (session_submits s) all) (flat_map (session_receipts s) all) m

    abbrev IsHere : SubmittedMessage → Type 0
    IsHere m = (key : LinkKey) → m.key ≡ Some key → here key.link ≡ true

    fact-same : (m : SubmittedMessage) → IsHere m → fact_there m ≡ fact_in_all m
    fact-same m h = by m.key h
      where
        by : (k : Option LinkKey) → ((key : LinkKey) → k ≡ Some key → here key.link ≡ true)
            → fact_in_circumstances m.place (message_from m) (circumstances_by
            (option_map (standing_of (flat_map (session_submits s) (part all)) (flat_map (session_receipts s) (part all))) k)
            (decider_of (flat_map (session_submits s) (part all)) (flat_map (session_receipts s) (part all)) k)
            (route_in s.versions (message_from m)) (lapsed_in s (message_from m)))
            ≡ fact_in_circumstances m.place (message_from m) (circumstances_by
            (option_map (standing_of (flat_map (session_submits s) all) (flat_map (session_receipts s) all)) k)
            (decider_of (flat_map (session_submits s) all) (flat_map (session_receipts s) all) k)
            (route_in s.versions (message_from m)) (lapsed_in s (message_from m)))
        by None h = refl
        by (Some key) h = λ i.
            fact_in_circumstances m.place (message_from m) (circumstances_by
            (Some (if number-part key (h key refl) all i == 1
            then Single (option_map (λ r. r.place) (least_receipt (map (λ e. e.1) (candidates-part key (h key refl) all i)))) else Shared))
            (if number-part key (h key refl) all i == 1
            then least_receipt (map (λ e. e.1) (candidates-part key (h key refl) all i)) else None)
            (route_in s.versions (message_from m)) (lapsed_in s (message_from m)))

    abbrev Same : SubmittedMessage → Type 0
    Same m = fact_there m ≡ fact_in_all m

    -- all messages of the part are of these links
    all-here : (es : List (ℕ × Session)) → AllByRecursion Same (flat_map (session_submits s) (part es))
    all-here [] = tt
    all-here (e ∷ es) = by (all-here es) (here e.1.link) refl
      where
        by : AllByRecursion Same (flat_map (session_submits s) (part es)) → (b : Bool) → here e.1.link ≡ b → AllByRecursion Same (flat_map (session_submits s) (part (e ∷ es)))
        by ih true h = subst (AllByRecursion Same) (sym (parted (session_submits s) e es true h))
            (all-append Same (session_submits s e) (flat_map (session_submits s) (part es))
            (all-weaker (OfLink e.1.link) Same (session_submits s e) (λ m of. fact-same m (λ key k. ap here (of key k) ∙ h)) (submits-of s e))
            ih)
        by ih false h = subst (AllByRecursion Same) (sym (parted (session_submits s) e es false h)) ih

    -- so their facts are those of the whole
    pub facts-there : map fact_there (flat_map (session_submits s) (part all)) ≡ map fact_in_all (flat_map (session_submits s) (part all))
    facts-there = map-alike fact_there fact_in_all (flat_map (session_submits s) (part all)) (all-here all)

-- ---- both parts

module _ {A : Type 0} (s : SettingsValue) (here : LinkId → Bool) (test : A → Bool) (f : SubmittedMessage → A) where
  abbrev number : List SubmittedMessage → ℕ
  number ms = count_by test (map f ms)

  number-append : (xs ys : List SubmittedMessage) → number (xs ++ ys) ≡ number xs + number ys
  number-append xs ys = ap (count_by test) (map-append f xs ys) ∙ count-append test (map f xs) (map f ys)

  -- what is counted of all messages is what is counted of both parts
  pub numbers-split : (es : List (ℕ × Session)) → number (flat_map (session_submits s) es)
      ≡ number (flat_map (session_submits s) (part s here es)) + number (flat_map (session_submits s) (part s (other_links here) es))
  numbers-split [] = refl
  numbers-split (e ∷ es) = by (numbers-split es) (here e.1.link) refl
    where
      first : List SubmittedMessage
      first = session_submits s e

      these : List SubmittedMessage
      these = flat_map (session_submits s) (part s here es)

      those : List SubmittedMessage
      those = flat_map (session_submits s) (part s (other_links here) es)

      by : number (flat_map (session_submits s) es) ≡ number these + number those → (b : Bool) → here e.1.link ≡ b → number (first ++ flat_map (session_submits s) es)
          ≡ number (flat_map (session_submits s) (part s here (e ∷ es)))
          + number (flat_map (session_submits s) (part s (other_links here) (e ∷ es)))
      by ih true h =
          let all = number-append first (flat_map (session_submits s) es) in
          let left : number (flat_map (session_submits s) (part s here (e ∷ es))) ≡ number first + number these =
          ap number (parted s here (session_submits s) e es true h) ∙ number-append first these in
          let right : number (flat_map (session_submits s) (part s (other_links here) (e ∷ es))) ≡ number those =
          ap number (parted s (other_links here) (session_submits s) e es false (ap not h)) in
          omega (arith, all, ih, left, right)
      by ih false h =
          let all = number-append first (flat_map (session_submits s) es) in
          let left : number (flat_map (session_submits s) (part s here (e ∷ es))) ≡ number these =
          ap number (parted s here (session_submits s) e es false h) in
          let right : number (flat_map (session_submits s) (part s (other_links here) (e ∷ es))) ≡ number first + number those =
          ap number (parted s (other_links here) (session_submits s) e es true (ap not h)) ∙ number-append first those in
          omega (arith, all, ih, left, right)

-- ---- counts

module _ (p : PresentValue) (view : View) (value : Value) (outcome : Outcome) where
  abbrev stands : Fact → Bool
  stands = stands_in (count_key view value outcome)

  abbrev fact_in : SubmittedMessage → Fact
  fact_in m = fact_in_all p.settings (λ _. true) (entries p.sessions) m

  count-listed : count_at (scratch p) view value outcome ≡ count_by stands (facts_listed p)
  count-listed =
      count-tables (facts_of p.settings (traffic_of p.sessions)) (notes_of p.settings (traffic_of p.sessions)) (count_key view value outcome)
      ∙ ap (count_by stands) (facts-are p)

module _ (p : PresentValue) (view : View) (value : Value) (outcome : Outcome) (here : LinkId → Bool) where
  -- the count of a part is that of its messages, with their facts in the whole
  count-part : count_at (scratch (of_links here p)) view value outcome
      ≡ count_by (stands p view value outcome)
      (map (fact_in p view value outcome) (flat_map (session_submits p.settings) (part p.settings here (entries p.sessions))))
  count-part =
      count-listed (of_links here p) view value outcome
      ∙ ap (λ (es : List (ℕ × Session)). count_by (stands p view value outcome)
      (map (fact_among p.settings (flat_map (session_submits p.settings) es) (flat_map (session_receipts p.settings) es))
      (flat_map (session_submits p.settings) es)))
      (maps.entries-chosen nat_cmp_total nat_cmp-IsAntisymmetric (session_there here) p.sessions)
      ∙ ap (count_by (stands p view value outcome)) (facts-there p.settings here (entries p.sessions))

pub counts-split : (p : PresentValue) (here : LinkId → Bool) (view : View) (value : Value) (outcome : Outcome)
    → count_at (scratch p) view value outcome
    ≡ count_at (scratch (of_links here p)) view value outcome + count_at (scratch (of_links (other_links here) p)) view value outcome
counts-split p here view value outcome =
    count-listed p view value outcome
    ∙ numbers-split p.settings here (stands p view value outcome) (fact_in p view value outcome) (entries p.sessions)
    ∙ (λ i. sym (count-part p view value outcome here) i + sym (count-part p view value outcome (other_links here)) i)
