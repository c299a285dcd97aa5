-- A batch puts in and takes out notes of its own session alone.
use Rattle.std.proofs.Common.{◌≡◌, ℕ, true, false, cond, List, [], ◌∷◌, ◌++◌, Option, Some, None, refl, sym, subst}
use Rattle.std.specs.Prelude.{map, option_map, option_to_list}
use Rattle.std.specs.List.{AllByRecursion}
use Rattle.smq_kit.specs.declared.place.Dir.{Dir}
use Rattle.smq_kit.specs.declared.place.Dir.TheVariants.{FromClient, FromCentre}
use Rattle.smq_kit.specs.declared.place.Place.{Place}
use Rattle.smq_frame.specs.Tail.{TailValue}
use Rattle.smq_pdu.specs.Pairing.{is_request, is_response}
use Rattle.smq_pair.specs.declared.pairing.Pair.{Pair}
use Rattle.smq_pair.specs.Pairing.{PlacedHeader, PairingValue, pair_of}
use Rattle.smq_pair.specs.Growth.{AreInOrder, IsNext, made_by}
use Rattle.smq_tally.specs.declared.list.List.TheVariants as list
use Rattle.smq_tally.specs.Lists.{listed}
use Rattle.smq_present.specs.declared.present.kept.StoredPdu.{StoredPdu}
use Rattle.smq_present.specs.present.Kept.{is_undecodable, is_unreadable}
use Rattle.smq_present.specs.pairing.Traffic.{Origin, place_of, placed, pairing_among}
use Rattle.smq_present.specs.within.Pairs.{Rises}
use Rattle.smq_present.specs.join.Moves.{Move, PutNote, TakeNote}
use Rattle.smq_book.specs.edits.AppendedNotes.{met_moves, undecodable_moves, unreadable_moves, next_moves, note_moves, broken_moves}
use Rattle.smq_book.proofs.lemmas.edits.MarkedNotes.{IsOf}
use Rattle.smq_book.proofs.lemmas.edits.MetPairs.{met}
use Rattle.smq_book.proofs.lemmas.edits.PushNotes.{next-client, next-centre, client-grows, centre-grows, client-order, centre-order, longer}
use Rattle.smq_present.proofs.lemmas.join.SessionLists.{all-append}

module _ (v : PairingValue) (p : PlacedHeader) (o : AreInOrder v) (n : IsNext v p.place) where
  -- both parts of its pair are of its session
  pair-own : (pair : Pair) → made_by v p ≡ Some pair → (pair.request.session.0 ≡ p.place.session.0) × (pair.response.session.0 ≡ p.place.session.0)
  pair-own pair made =
      let m = met v p o n pair made in
      subst (λ (x : Pair). (x.request.session.0 ≡ p.place.session.0) × (x.response.session.0 ≡ p.place.session.0)) (sym m.is)
      (elim (is_request p.header) as (λ r. ((cond r (pair_of p m.other) (pair_of m.other p)).request.session.0 ≡ p.place.session.0) ×
      ((cond r (pair_of p m.other) (pair_of m.other p)).response.session.0 ≡ p.place.session.0)) [
        | true ↦ (refl, m.session)
        | false ↦ (m.session, refl)
      ])

  met-own : (m : Option Pair) → made_by v p ≡ m → AllByRecursion (IsOf p.place.session.0) (met_moves p m)
  met-own None made =
      elim (is_request p.header) as (λ r. AllByRecursion (IsOf p.place.session.0)
      (cond r (PutNote (listed list.Waiting p.place) ∷ []) (cond (is_response p.header) (PutNote (listed list.StrayAnswers p.place) ∷ []) []))) [
        | true ↦ (refl, tt)
        | false ↦ elim (is_response p.header) as (λ s. AllByRecursion (IsOf p.place.session.0)
            (cond s (PutNote (listed list.StrayAnswers p.place) ∷ []) [])) [ true ↦ (refl, tt) | false ↦ tt ]
      ]
  met-own (Some pair) made =
      let own = pair-own pair made in (
        elim (is_request p.header) as (λ r. IsOf p.place.session.0 (cond r (TakeNote (listed list.StrayAnswers pair.response))
            (TakeNote (listed list.Waiting pair.request)))) [ true ↦ own.1 | false ↦ own.0 ],
        elim pair.agrees as (λ a. AllByRecursion (IsOf p.place.session.0) (cond a [] (PutNote (listed list.Mismatched pair.request) ∷ [])))
            [ true ↦ tt | false ↦ (own.0, tt) ],
      )

module _ (origin : Origin) where
  abbrev Own : List Move → Type 0
  Own moves = AllByRecursion (IsOf origin.session.0) moves

  undecodable-own : (dir : Dir) (next : StoredPdu) → Own (undecodable_moves origin dir next)
  undecodable-own dir next =
      elim (is_undecodable next.content) as (λ t. Own (cond t (PutNote (listed list.Undecodable (place_of origin dir next)) ∷ []) []))
      [ true ↦ (refl, tt) | false ↦ tt ]

  unreadable-own : (dir : Dir) (next : StoredPdu) → Own (unreadable_moves origin dir next)
  unreadable-own FromClient next = tt
  unreadable-own FromCentre next =
      elim (is_unreadable next.content) as (λ t. Own (cond t (PutNote (listed list.Unreadable (place_of origin FromCentre next)) ∷ []) []))
      [ true ↦ (refl, tt) | false ↦ tt ]

  next-own : (dir : Dir) (client centre : List StoredPdu) (next : StoredPdu) → AreInOrder (pairing_among origin client centre)
      → IsNext (pairing_among origin client centre) (place_of origin dir next)
      → Own (next_moves origin dir client centre next)
  next-own dir client centre next o n =
      let v = pairing_among origin client centre in
      let p = placed origin dir next in
      all-append (IsOf origin.session.0) (met_moves p (made_by v p) ++ undecodable_moves origin dir next) (unreadable_moves origin dir next)
      (all-append (IsOf origin.session.0) (met_moves p (made_by v p)) (undecodable_moves origin dir next) (met-own v p o n (made_by v p) refl)
      (undecodable-own dir next))
      (unreadable-own dir next)

  pub client-own : (client centre later : List StoredPdu) → Rises 0 (client ++ later) → AreInOrder (pairing_among origin client centre)
      → Own (note_moves origin FromClient client centre later)
  client-own client centre [] r o = tt
  client-own client centre (x ∷ later) r o =
      all-append (IsOf origin.session.0) (next_moves origin FromClient client centre x) (note_moves origin FromClient (client ++ x ∷ []) centre later)
      (next-own FromClient client centre x o (next-client origin client centre later x r))
      (client-own (client ++ x ∷ []) centre later (longer origin client x later r)
      (client-order origin client centre x (client-grows origin client centre later x r o)))

  pub centre-own : (client centre later : List StoredPdu) → Rises 0 (centre ++ later) → AreInOrder (pairing_among origin client centre)
      → Own (note_moves origin FromCentre client centre later)
  centre-own client centre [] r o = tt
  centre-own client centre (x ∷ later) r o =
      all-append (IsOf origin.session.0) (next_moves origin FromCentre client centre x) (note_moves origin FromCentre client (centre ++ x ∷ []) later)
      (next-own FromCentre client centre x o (next-centre origin client centre later x r))
      (centre-own client (centre ++ x ∷ []) later (longer origin centre x later r)
      (centre-order origin client centre x (centre-grows origin client centre later x r o)))

  pub broken-own : (dir : Dir) (tail : TailValue) → Own (broken_moves origin dir tail)
  broken-own dir tail = by tail.broken
    where
      by : (at : Option ℕ) → Own (map (λ (q : Place). PutNote (listed list.Broken q))
          (option_to_list (option_map (λ offset. record { session = origin.session; dir = dir; offset = offset }) at)))
      by None = tt
      by (Some offset) = (refl, tt)
