-- What stands at a place is what the session of that place says.
use Rattle.std.proofs.Common.{◌≡◌, ◌≢◌, ℕ, Bool, true, false, cond, List, [], ◌∷◌, ◌++◌, Option, Some, None, refl, sym, ap, ◌∙◌}
use Rattle.std.specs.Prelude.{◌+◌, T, map, is_some, option_and_then}
use Rattle.std.specs.List.{flat_map}
use Rattle.std.specs.Option.{option_or}
use Rattle.std.specs.Cmp.{IsTotalOrder, nat_cmp_total, tied_itself}
use Rattle.std.specs.declared.cmp.Ordering.{Ordering}
use Rattle.std.specs.Ordering.{eq_by_cmp, is_eq, nat_cmp}
use Rattle.std.specs.FinMap.{FinMap, IsAntisymmetric, entries, entries_sorted, find, from_entries, get, insert, remove, is_sorted, get-entries, get-from_entries, get-insert, get-remove, same_map, nat_cmp-IsAntisymmetric}
use Rattle.std.specs.FinMap.Entries.{is_some-find}
use Rattle.std.proofs.lemmas.Bool.{false≢true}
use Rattle.smq_kit.specs.declared.place.Dir.{Dir}
use Rattle.smq_kit.specs.declared.place.Dir.TheVariants.{FromClient, FromCentre}
use Rattle.smq_kit.specs.declared.place.Place.{Place}
use Rattle.smq_kit.specs.Maps.{patched}
use Rattle.smq_kit.specs.Orders.{place_cmp}
use Rattle.smq_kit.proofs.MapLemmas as maps
use Rattle.smq_kit.proofs.PlaceOrders.{places_total, places_exact}
use Rattle.smq_present.specs.declared.present.session.Session.{Session}
use Rattle.smq_present.specs.present.Kept.{kept_pdus}
use Rattle.smq_present.specs.pairing.Traffic.{origin_of, session_messages, session_receipts, traffic_of}
use Rattle.smq_present.proofs.lemmas.pairing.PlacesRise.{Rising, kept-rise, messages-rise, receipts-rise}

-- what is found in two lists one after the other
pub find-both : {K Y : Type 0} (R : K → K → Ordering) (q : K) (xs ys : List (K × Y)) → find R q (xs ++ ys) ≡ option_or (find R q xs) (find R q ys)
find-both R q [] ys = refl
find-both R q (x ∷ xs) ys = elim (eq_by_cmp R q x.0) as (λ b. cond b (Some x.1) (find R q (xs ++ ys)) ≡ option_or (cond b (Some x.1) (find R q xs)) (find R q ys)) [
  | true ↦ refl
  | false ↦ find-both R q xs ys
]

either_first : {Y : Type 0} (x : Option Y) → option_or x x ≡ x
either_first None = refl
either_first (Some y) = refl

pub or_none : {Y : Type 0} (x : Option Y) → option_or x None ≡ x
or_none None = refl
or_none (Some y) = refl

-- ---- what sessions say, each of its own keys

module _ {K Y : Type 0} {R : K → K → Ordering} (o : IsTotalOrder R) (exact : IsAntisymmetric R) (number : K → ℕ) (block : ℕ × Session → List (K × Y))
    (own : (e : ℕ × Session) (q : K) → number q ≢ e.0 → find R q (block e) ≡ None) where
  abbrev pub said_of : K → Option Session → Option Y
  said_of q session = option_and_then (λ s. find R q (block (number q, s))) session

  same_session : (s z : Session) → Some s ≡ Some z → s ≡ z
  same_session s z e = cc

  rest_of : (q : K) (e : ℕ × Session) (x : Option Session) → number q ≡ e.0 → ((s : Session) → x ≡ Some s → s ≡ e.1) → option_or (find R q (block e)) (said_of q x) ≡ find R q (block (number q, e.1))
  rest_of q e None at later = or_none (find R q (block e)) ∙ ap (λ n. find R q (block (n, e.1))) (sym at)
  rest_of q e (Some s) at later =
      (λ i. option_or (find R q (block (sym at i, e.1))) (find R q (block (number q, later s refl i))))
      ∙ either_first (find R q (block (number q, e.1)))

  found-in : (q : K) (es : List (ℕ × Session)) → T (is_sorted nat_cmp es) → find R q (flat_map block es) ≡ said_of q (find nat_cmp (number q) es)
  found-in q [] h = refl
  found-in q (e ∷ es) h =
      let rest = found-in q es (maps.sorted-behind nat_cmp_total nat_cmp-IsAntisymmetric e es h) in
      find-both R q (block e) (flat_map block es)
      ∙ ap (option_or (find R q (block e))) rest
      ∙ elim (eq_by_cmp nat_cmp (number q) e.0) as (λ b. eq_by_cmp nat_cmp (number q) e.0 ≡ b → option_or (find R q (block e)) (said_of q (find nat_cmp (number q) es)) ≡ said_of q (cond b (Some e.1) (find nat_cmp (number q) es))) [
        | true ↦ λ t. rest_of q e (find nat_cmp (number q) es) (maps.same_key nat_cmp_total nat_cmp-IsAntisymmetric (number q) e.0 t) (λ s is.
            same_session s e.1 (sym (maps.find-later nat_cmp_total nat_cmp-IsAntisymmetric (number q) s e es h is) ∙ ap (λ b. cond b (Some e.1) (find nat_cmp (number q) es)) t))
        | false ↦ λ t. ap (λ x. option_or x (said_of q (find nat_cmp (number q) es))) (own e q (λ same. false≢true (sym t ∙ ap (λ n. eq_by_cmp nat_cmp (number q) n) (sym same) ∙ ap is_eq (tied_itself nat_cmp_total (number q)))))
      ] refl

  abbrev pub all_of : FinMap nat_cmp Session → FinMap R Y
  all_of sessions = from_entries (flat_map block (entries sessions))

  -- what is said at a key is what the session of its number says there
  pub said-at : (sessions : FinMap nat_cmp Session) (q : K) → get (all_of sessions) q ≡ said_of q (get sessions (number q))
  said-at sessions q =
      get-from_entries o (flat_map block (entries sessions)) q
      ∙ found-in q (entries sessions) (entries_sorted sessions)
      ∙ ap (said_of q) (sym (get-entries sessions (number q)))

  -- ---- a session that is put in or taken out

  -- what all say once a session of a number is set
  pub said-put : (sessions : FinMap nat_cmp Session) (n : ℕ) (s : Session) (q : K) → get (all_of (insert sessions n s)) q ≡ cond (eq_by_cmp nat_cmp (number q) n) (find R q (block (n, s))) (get (all_of sessions) q)
  said-put sessions n s q =
      said-at (insert sessions n s) q
      ∙ ap (said_of q) (get-insert nat_cmp_total sessions n s (number q))
      ∙ elim (eq_by_cmp nat_cmp (number q) n) as (λ b. eq_by_cmp nat_cmp (number q) n ≡ b → said_of q (cond b (Some s) (get sessions (number q))) ≡ cond b (find R q (block (n, s))) (get (all_of sessions) q)) [
        | true ↦ λ t. ap (λ k. find R q (block (k, s))) (maps.same_key nat_cmp_total nat_cmp-IsAntisymmetric (number q) n t)
        | false ↦ λ t. sym (said-at sessions q)
      ] refl

  cleared : {Z : Type 0} (x : Option Z) → cond (is_some x) None x ≡ None
  cleared None = refl
  cleared (Some z) = refl

  -- without a session all say what they said, but at its keys
  pub said-without : (sessions : FinMap nat_cmp Session) (n : ℕ) (s : Session) → get sessions n ≡ Some s
      → patched (all_of sessions) (λ q. None) (map (λ e. e.0) (block (n, s))) ≡ all_of (remove sessions n)
  said-without sessions n s there = same_map o exact _ _ (λ q.
      maps.get-patched o exact (all_of sessions) (λ q. None) (map (λ e. e.0) (block (n, s))) q
      ∙ ap (λ b. cond b None (get (all_of sessions) q)) (sym (is_some-find R q (block (n, s))))
      ∙ by q (eq_by_cmp nat_cmp (number q) n) refl
      ∙ ap (said_of q) (sym (get-remove nat_cmp_total sessions n (number q)))
      ∙ sym (said-at (remove sessions n) q))
    where
      by : (q : K) (b : Bool) → eq_by_cmp nat_cmp (number q) n ≡ b → cond (is_some (find R q (block (n, s)))) None (get (all_of sessions) q) ≡ said_of q (cond b None (get sessions (number q)))
      by q true t =
          let same : number q ≡ n = maps.same_key nat_cmp_total nat_cmp-IsAntisymmetric (number q) n t in
          let here : get (all_of sessions) q ≡ find R q (block (n, s)) = said-at sessions q ∙ (λ i. option_and_then (λ z. find R q (block (same i, z))) (get sessions (same i))) ∙ ap (option_and_then (λ z. find R q (block (n, z)))) there in
          ap (cond (is_some (find R q (block (n, s)))) None) here ∙ cleared (find R q (block (n, s)))
      by q false t =
          ap (λ (x : Option Y). cond (is_some x) None (get (all_of sessions) q)) (own (n, s) q (λ same. false≢true (sym t ∙ ap (λ k. eq_by_cmp nat_cmp (number q) k) (sym same) ∙ ap is_eq (tied_itself nat_cmp_total (number q)))))
          ∙ said-at sessions q

-- ---- messages and receipts

pub rising-own : {X : Type 0} (n : ℕ) (dir : Dir) (low : ℕ) (q : Place) (es : List (Place × X)) → q.session.0 ≢ n → Rising n dir low es → find place_cmp q es ≡ None
rising-own n dir low q [] h r = refl
rising-own n dir low q (e ∷ es) h r =
    elim (eq_by_cmp place_cmp q e.0) as (λ b. eq_by_cmp place_cmp q e.0 ≡ b → cond b (Some e.1) (find place_cmp q es) ≡ None) [
      | true ↦ λ t. absurd (h (ap (λ (p : Place). p.session.0) (maps.same_key places_total places_exact q e.0 t) ∙ r.0))
      | false ↦ λ t. rising-own n dir (e.0.offset + 1) q es h r.3
    ] refl

abbrev pub session_number : Place → ℕ
session_number q = q.session.0

pub messages-own : (e : ℕ × Session) (q : Place) → session_number q ≢ e.0 → find place_cmp q (session_messages e) ≡ None
messages-own e q h = rising-own e.0 FromClient 0 q (session_messages e) h (messages-rise (origin_of e) (kept_pdus e.1.centre) [] 0 (kept_pdus e.1.client) (kept-rise e.1.client))

pub receipts-own : (e : ℕ × Session) (q : Place) → session_number q ≢ e.0 → find place_cmp q (session_receipts e) ≡ None
receipts-own e q h = rising-own e.0 FromCentre 0 q (session_receipts e) h (receipts-rise (origin_of e) 0 (kept_pdus e.1.centre) (kept-rise e.1.centre))

-- ---- each kind in its direction

rising-in : {X : Type 0} (n : ℕ) (dir : Dir) (low : ℕ) (q : Place) (es : List (Place × X)) → (q.dir ≡ dir → ⊥) → Rising n dir low es → find place_cmp q es ≡ None
rising-in n dir low q [] h r = refl
rising-in n dir low q (e ∷ es) h r =
    elim (eq_by_cmp place_cmp q e.0) as (λ b. eq_by_cmp place_cmp q e.0 ≡ b → cond b (Some e.1) (find place_cmp q es) ≡ None) [
      | true ↦ λ t. absurd (h (ap (λ (p : Place). p.dir) (maps.same_key places_total places_exact q e.0 t) ∙ r.1))
      | false ↦ λ t. rising-in n dir (e.0.offset + 1) q es h r.3
    ] refl

none_of : {X Y : Type 0} (f : X → Option Y) → ((x : X) → f x ≡ None) → (found : Option X) → option_and_then f found ≡ None
none_of f none None = refl
none_of f none (Some x) = none x

not_client : FromCentre ≡ FromClient → ⊥
not_client e = absurd cc

pub no-message : (sessions : FinMap nat_cmp Session) (q : Place) → q.dir ≡ FromCentre → get (traffic_of sessions).messages q ≡ None
no-message sessions q dir =
    said-at places_total places_exact session_number session_messages messages-own sessions q
    ∙ none_of (λ s. find place_cmp q (session_messages (q.session.0, s))) (λ s.
    rising-in q.session.0 FromClient 0 q (session_messages (q.session.0, s)) (λ same. not_client (sym dir ∙ same))
    (messages-rise (origin_of (q.session.0, s)) (kept_pdus s.centre) [] 0 (kept_pdus s.client) (kept-rise s.client)))
    (get sessions q.session.0)

pub no-receipt : (sessions : FinMap nat_cmp Session) (q : Place) → q.dir ≡ FromClient → get (traffic_of sessions).receipts q ≡ None
no-receipt sessions q dir =
    said-at places_total places_exact session_number session_receipts receipts-own sessions q
    ∙ none_of (λ s. find place_cmp q (session_receipts (q.session.0, s))) (λ s.
    rising-in q.session.0 FromCentre 0 q (session_receipts (q.session.0, s)) (λ same. not_client (sym same ∙ dir))
    (receipts-rise (origin_of (q.session.0, s)) 0 (kept_pdus s.centre) (kept-rise s.centre)))
    (get sessions q.session.0)
