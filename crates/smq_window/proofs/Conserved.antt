-- Octets of a connection are neither lost nor changed.
use Rattle.std.proofs.Common.{◌≡◌, ℕ, ◌+◌, ◌-◌, Bool, true, false, cond, List, [], ◌∷◌, ◌++◌, length, Option, Some, None, refl, sym, ap, subst, ◌∙◌, append_assoc, append-nil}
use Rattle.std.specs.Prelude.{is_some}
use Rattle.std.specs.List.{concat}
use Rattle.std.proofs.lemmas.List.Concat.{flat_map-append}
use Rattle.smq_kit.specs.declared.place.Dir.{Dir}
use Rattle.smq_kit.specs.declared.place.Dir.TheVariants.{FromClient, FromCentre}
use Rattle.smq_frame.specs.Frame.{FrameValue}
use Rattle.smq_frame.specs.Framing.{frames_of, is_bad, rest_of}
use Rattle.smq_frame.specs.Stream.{frames_after, placed}
use Rattle.smq_frame.specs.Tail.{TailValue, tail_after, tail_with}
use Rattle.smq_frame.proofs.Tails.{frames_after-whole, split_octets, tail_after-broken, tail_after-whole}
use Rattle.smq_window.specs.declared.connection.Origin.{Origin}
use Rattle.smq_window.specs.declared.direction.Direction.{Direction}
use Rattle.smq_window.specs.Connection.{ConnectionValue, connection_after, dealt, direction_by, direction_of, direction_with, due_after, homed, at_home, octets_of, new_connection}
use Rattle.smq_window.specs.Direction.{after_piece}
use Rattle.smq_window.specs.Exchange.{same_dir}
use Rattle.smq_window.specs.Homes.{Homed}
use Rattle.smq_window.proofs.Deals.{origin-at}
use Rattle.smq_window.specs.Laws.{BeginsWithNone, Conserves, ConservesEachPiece, given_by, with_piece}

some-none : {A : Type 0} (x : A) → Some x ≡ None → ⊥
some-none x e = absurd cc

-- ---- a piece of a direction

abbrev tail_by : ℕ → List ℕ → Bool → TailValue
tail_by offset rest b =
    cond b (record { offset = offset; rest = []; broken = Some (offset - length rest) }) (record { offset = offset; rest = rest; broken = None })

rest-by : (offset : ℕ) (rest : List ℕ) (b : Bool) → (tail_by offset rest b).broken ≡ None → (tail_by offset rest b).rest ≡ rest
rest-by offset rest true e = absurd (some-none (offset - length rest) e)
rest-by offset rest false e = refl

rest-with : (offset : ℕ) (rest : List ℕ) → (tail_with offset rest).broken ≡ None → (tail_with offset rest).rest ≡ rest
rest-with offset rest e = rest-by offset rest (is_bad rest) e

was-whole : (t : TailValue) (p : List ℕ) → (tail_after t p).broken ≡ None → t.broken ≡ None
was-whole t p good = at t.broken refl
  where
    at : (o : Option ℕ) → t.broken ≡ o → t.broken ≡ None
    at None e = e
    at (Some x) e =
        absurd (some-none x (sym (ap (λ (u : TailValue). u.broken) (tail_after-broken t p (ap is_some e)) ∙ e) ∙ good))

-- the PDUs that a piece makes whole and what waits behind them are what waited and the piece
piece-whole : (t : TailValue) (m : ℕ) (p : List ℕ) → t.broken ≡ None → (tail_after t p).broken ≡ None
    → concat (octets_of (frames_after t m p)) ++ (tail_after t p).rest ≡ t.rest ++ p
piece-whole t m p none good =
    let start : ℕ = t.offset - length t.rest in
    let e : tail_after t p ≡ tail_with (t.offset - length t.rest + length (t.rest ++ p)) (rest_of (t.rest ++ p)) = tail_after-whole t p none in
    let r : (tail_after t p).rest ≡ rest_of (t.rest ++ p) =
    ap (λ (u : TailValue). u.rest) e
    ∙ rest-with (t.offset - length t.rest + length (t.rest ++ p)) (rest_of (t.rest ++ p)) (sym (ap (λ (u : TailValue). u.broken) e) ∙ good) in
    let f : octets_of (frames_after t m p) ≡ octets_of (placed m start (frames_of (t.rest ++ p))) =
    ap (λ (fs : List FrameValue). octets_of fs) (frames_after-whole t m p none) in
    let s = split_octets m start (t.rest ++ p) in
    (λ i. concat (f i) ++ r i) ∙ sym s.whole

-- ---- what was given of a sender

no-octets : (b : Bool) → ◌≡◌ {A = List ℕ} [] (cond b [] [])
no-octets true = refl
no-octets false = refl

both-octets : (b : Bool) (x y : List ℕ) → cond b x [] ++ cond b y [] ≡ cond b (x ++ y) []
both-octets true x y = refl
both-octets false x y = refl

given-homed : (sender s : Dir) (pdus : List Homed) (oldest present : ℕ) (fs : List (List ℕ))
    → given_by sender (homed pdus oldest present s fs) ≡ cond (same_dir sender s) (concat fs) []
unfolding homed
given-homed sender s pdus oldest present [] = no-octets (same_dir sender s)
given-homed sender s pdus oldest present (f ∷ fs) =
    ap (λ (x : List ℕ). cond (same_dir sender s) f [] ++ x)
    (given-homed sender s (pdus ++ at_home pdus oldest present s f ∷ []) oldest present fs)
    ∙ both-octets (same_dir sender s) f (concat fs)

given-append : (sender : Dir) (pdus hs : List Homed) → given_by sender (pdus ++ hs) ≡ given_by sender pdus ++ given_by sender hs
given-append sender pdus hs = flat_map-append (λ (p : Homed). cond (same_dir sender p.sender) p.octets []) pdus hs

-- the direction from which a piece came
own : (sender : Dir) (pdus hs : List Homed) (t u : TailValue) (m : ℕ) (octets before : List ℕ)
    → given_by sender hs ≡ concat (octets_of (frames_after t m octets)) → u ≡ tail_after t octets
    → (t.broken ≡ None → given_by sender pdus ++ t.rest ≡ before) → u.broken ≡ None
    → given_by sender (pdus ++ hs) ++ u.rest ≡ before ++ octets
own sender pdus hs t u m octets before eh e kept g =
    let good : (tail_after t octets).broken ≡ None = sym (ap (λ (x : TailValue). x.broken) e) ∙ g in
    let none : t.broken ≡ None = was-whole t octets good in
    ap (λ (x : List ℕ). x ++ u.rest) (given-append sender pdus hs)
    ∙ append_assoc (given_by sender pdus) (given_by sender hs) u.rest
    ∙ ap (λ (x : List ℕ). given_by sender pdus ++ x) ((λ i. eh i ++ (e i).rest) ∙ piece-whole t m octets none good)
    ∙ sym (append_assoc (given_by sender pdus) t.rest octets)
    ∙ ap (λ (x : List ℕ). x ++ octets) (kept none)

-- the other one
other : (sender : Dir) (pdus hs : List Homed) (rest before : List ℕ) → given_by sender hs ≡ [] → given_by sender pdus ++ rest ≡ before
    → given_by sender (pdus ++ hs) ++ rest ≡ before
other sender pdus hs rest before eh kept =
    ap (λ (x : List ℕ). x ++ rest) (given-append sender pdus hs ∙ ap (λ (x : List ℕ). given_by sender pdus ++ x) eh ∙ append-nil (given_by sender pdus))
    ∙ kept

tail-with : (o : Option (List ℕ)) (n : ℕ) (d : Direction) → (direction_with o n d).tail ≡ d.tail
tail-with None n d = refl
tail-with (Some x) n d = refl

-- ---- a piece of a connection

client-step : (at : Origin) (oldest present : ℕ) (octets : List ℕ) (c : ConnectionValue) (stream : Dir → List ℕ) → Conserves c stream
    → Conserves (connection_after (record at { sender = FromClient }) oldest present octets c) (with_piece FromClient octets stream)
client-step at oldest present octets c stream kept = record { whole = whole }
  where
    whole : (sender : Dir) → (direction_of sender (connection_after (record at { sender = FromClient }) oldest present octets c)).tail.broken ≡ None
        → given_by sender (c.pdus ++ dealt c.pdus oldest present (record at { sender = FromClient }) octets c.client)
        ++ (direction_of sender (connection_after (record at { sender = FromClient }) oldest present octets c)).tail.rest
        ≡ with_piece FromClient octets stream sender
    whole FromClient good =
        own FromClient c.pdus (dealt c.pdus oldest present (record at { sender = FromClient }) octets c.client) c.client.tail
        (direction_by c.pdus oldest present (record at { sender = FromClient }) octets c.client c.periods).tail at.moment octets (stream FromClient)
        (given-homed FromClient FromClient c.pdus oldest present (octets_of (frames_after c.client.tail at.moment octets)))
        (tail-with (due_after c.pdus oldest present (record at { sender = FromClient }) octets c.client c.periods) present (after_piece c.client at.moment octets))
        (kept.whole FromClient) good
    whole FromCentre good =
        other FromCentre c.pdus (dealt c.pdus oldest present (record at { sender = FromClient }) octets c.client) c.centre.tail.rest (stream FromCentre)
        (given-homed FromCentre FromClient c.pdus oldest present (octets_of (frames_after c.client.tail at.moment octets)))
        (kept.whole FromCentre good)

centre-step : (at : Origin) (oldest present : ℕ) (octets : List ℕ) (c : ConnectionValue) (stream : Dir → List ℕ) → Conserves c stream
    → Conserves (connection_after (record at { sender = FromCentre }) oldest present octets c) (with_piece FromCentre octets stream)
centre-step at oldest present octets c stream kept = record { whole = whole }
  where
    whole : (sender : Dir) → (direction_of sender (connection_after (record at { sender = FromCentre }) oldest present octets c)).tail.broken ≡ None
        → given_by sender (c.pdus ++ dealt c.pdus oldest present (record at { sender = FromCentre }) octets c.centre)
        ++ (direction_of sender (connection_after (record at { sender = FromCentre }) oldest present octets c)).tail.rest
        ≡ with_piece FromCentre octets stream sender
    whole FromCentre good =
        own FromCentre c.pdus (dealt c.pdus oldest present (record at { sender = FromCentre }) octets c.centre) c.centre.tail
        (direction_by c.pdus oldest present (record at { sender = FromCentre }) octets c.centre c.periods).tail at.moment octets (stream FromCentre)
        (given-homed FromCentre FromCentre c.pdus oldest present (octets_of (frames_after c.centre.tail at.moment octets)))
        (tail-with (due_after c.pdus oldest present (record at { sender = FromCentre }) octets c.centre c.periods) present (after_piece c.centre at.moment octets))
        (kept.whole FromCentre) good
    whole FromClient good =
        other FromClient c.pdus (dealt c.pdus oldest present (record at { sender = FromCentre }) octets c.centre) c.client.tail.rest (stream FromClient)
        (given-homed FromClient FromCentre c.pdus oldest present (octets_of (frames_after c.centre.tail at.moment octets)))
        (kept.whole FromClient good)

pub begins_with_none : BeginsWithNone
begins_with_none link = record { whole = at }
  where
    at : (sender : Dir) → (direction_of sender (new_connection link)).tail.broken ≡ None
        → [] ++ (direction_of sender (new_connection link)).tail.rest ≡ []
    at FromClient none = refl
    at FromCentre none = refl

pub conserves_each_piece : ConservesEachPiece
conserves_each_piece at oldest present octets c stream kept = by at.sender refl
  where
    by : (s : Dir) → at.sender ≡ s → Conserves (connection_after at oldest present octets c) (with_piece at.sender octets stream)
    by FromClient e =
        subst (λ (a : Origin). Conserves (connection_after a oldest present octets c) (with_piece a.sender octets stream))
        (sym (origin-at at FromClient e)) (client-step at oldest present octets c stream kept)
    by FromCentre e =
        subst (λ (a : Origin). Conserves (connection_after a oldest present octets c) (with_piece a.sender octets stream))
        (sym (origin-at at FromCentre e)) (centre-step at oldest present octets c stream kept)

pub ruleset laws = (begins_with_none, conserves_each_piece)
