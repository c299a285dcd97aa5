-- What is present and is read alike gives the same figures and lines.
use Rattle.std.proofs.Common.{◌≡◌, ℕ, List, [], ◌∷◌, ◌++◌, refl, ◌∙◌}
use Rattle.std.specs.Prelude.{map as map_list}
use Rattle.std.specs.FinMap as map
use Rattle.std.specs.List.{flat_map}
use Rattle.smq_tally.specs.Tables.{tables_of}
use Rattle.smq_present.specs.declared.present.session.Session.{Session}
use Rattle.smq_present.specs.present.Kept.{kept_pdus}
use Rattle.smq_present.specs.present.Present.{PresentValue}
use Rattle.smq_present.specs.present.Settings.{SettingsValue, forms_of}
use Rattle.smq_present.specs.join.Facts.{facts_of}
use Rattle.smq_present.specs.join.Listings.{notes_of}
use Rattle.smq_present.specs.pairing.Traffic.{broken_notes, messages_among, notes_among, origin_of, receipts_among, session_messages, session_notes, session_receipts, traffic_among, traffic_of}
use Rattle.smq_present.specs.whole.Scratch.{scratch}
use Rattle.smq_present.specs.within.Lists as lists
use Rattle.smq_present.specs.within.Messages.{submits_among}
use Rattle.smq_present.specs.within.Receipts as keyed
use Rattle.smq_scratch.specs.Lines.{message_line, message_lines, receipt_line, receipt_lines}
use Rattle.smq_scratch.specs.Blanked.{ArePresentAlike, AreSessionsAlike, OneByOne}
use Rattle.smq_scratch.proofs.BlankedStreams.{pdus-stay, tail-stays}

-- what each of two gives alike, all give alike
flat-alike : {A B : Type 0} (Alike : A → A → Type 0) (f : A → List B) → ((x y : A) → Alike x y → f x ≡ f y)
    → (xs ys : List A) → OneByOne Alike xs ys → flat_map f xs ≡ flat_map f ys
flat-alike Alike f same [] [] h = refl
flat-alike Alike f same [] (y ∷ ys) h = absurd h
flat-alike Alike f same (x ∷ xs) [] h = absurd h
flat-alike Alike f same (x ∷ xs) (y ∷ ys) h =
    let first = same x y h.0 in
    let later = flat-alike Alike f same xs ys h.1 in
    λ i. first i ++ later i

module _ (e f : ℕ × Session) (h : AreSessionsAlike e f) where
  origins : origin_of e ≡ origin_of f
  origins =
      let number = h.number in
      let link = h.link in
      λ i. record { session = record { 0 = number i }; link = link i }

  clients : kept_pdus e.1.client ≡ kept_pdus f.1.client
  clients = pdus-stay e.1.client f.1.client h.client

  centres : kept_pdus e.1.centre ≡ kept_pdus f.1.centre
  centres = pdus-stay e.1.centre f.1.centre h.centre

  messages-alike : session_messages e ≡ session_messages f
  messages-alike = λ i. messages_among (origins i) (clients i) (centres i)

  receipts-alike : session_receipts e ≡ session_receipts f
  receipts-alike = λ i. receipts_among (origins i) (centres i)

  notes-alike : session_notes e ≡ session_notes f
  notes-alike =
      let client = tail-stays e.1.client f.1.client h.client in
      let centre = tail-stays e.1.centre f.1.centre h.centre in
      λ i. notes_among (origins i) (clients i) (centres i) ++ broken_notes (origins i) (client i) (centre i)

  module _ (s : SettingsValue) where
    sources : lists.source_of s e ≡ lists.source_of s f
    sources =
        let number = h.number in
        let link = h.link in
        λ i. record { session = record { 0 = number i }; link = link i; forms = forms_of s (link i) }

    submits-alike : lists.session_submits s e ≡ lists.session_submits s f
    submits-alike = λ i. submits_among (sources i) (clients i) (centres i)

    keyed-alike : lists.session_receipts s e ≡ lists.session_receipts s f
    keyed-alike = λ i. keyed.receipts_among (sources i) (centres i)

module _ (p q : PresentValue) (h : ArePresentAlike p q) where
  traffic-alike : traffic_of p.sessions ≡ traffic_of q.sessions
  traffic-alike =
      let messages = flat-alike AreSessionsAlike session_messages messages-alike _ _ h.sessions in
      let receipts = flat-alike AreSessionsAlike session_receipts receipts-alike _ _ h.sessions in
      let notes = flat-alike AreSessionsAlike session_notes notes-alike _ _ h.sessions in
      λ i. traffic_among (messages i) (receipts i) (notes i)

  pub tables-stay : scratch p ≡ scratch q
  tables-stay =
      let settings = h.settings in
      λ i. tables_of (facts_of (settings i) (traffic-alike i)) (notes_of (settings i) (traffic-alike i))

  all-submits : lists.submits_of p ≡ lists.submits_of q
  all-submits =
      let settings = h.settings in
      (λ i. flat_map (lists.session_submits (settings i)) (map.entries p.sessions))
      ∙ flat-alike AreSessionsAlike (lists.session_submits q.settings) (λ e f alike. submits-alike e f alike q.settings) _ _ h.sessions

  all-receipts : lists.receipts_of p ≡ lists.receipts_of q
  all-receipts =
      let settings = h.settings in
      (λ i. flat_map (lists.session_receipts (settings i)) (map.entries p.sessions))
      ∙ flat-alike AreSessionsAlike (lists.session_receipts q.settings) (λ e f alike. keyed-alike e f alike q.settings) _ _ h.sessions

  pub message-lines-stay : message_lines p ≡ message_lines q
  message-lines-stay =
      let settings = h.settings in
      λ i. map_list (message_line (settings i) (all-submits i) (all-receipts i)) (all-submits i)

  pub receipt-lines-stay : receipt_lines p ≡ receipt_lines q
  receipt-lines-stay = λ i. map_list (receipt_line (all-submits i) (all-receipts i)) (all-receipts i)
