-- What waits, as a chain of pieces.
use Rattle.std.proofs.Common.{◌≡◌, ℕ, ◌+◌, ◌-◌, ◌<◌, ◌≤◌, ◌^◌, List, [], ◌∷◌, length, refl, sym, ap, ◌∙◌, arith, ◌⊎◌, inl, inr, find}
use Rattle.std.specs.Prelude.{nat_lt, Option, Some, None, MatchOption, slice_get}
use Rattle.std.specs.Option.{option_map, option_or}
use Rattle.std.specs.Ordering.{nat_cmp}
use Rattle.std.specs.declared.cmp.Ordering.TheVariants.{Less, Greater}
use Rattle.std.specs.Cmp.{nat_cmp_is}
use Rattle.std.specs.BTreeMap.{insert_entry}
use Rattle.std.proofs.lemmas.Bool.{cases_lt, lt-ltb, le-ltb}
use Rattle.std.proofs.lemmas.Option.{none-some, same_Some}
use Rattle.smq_reassembly.specs.declared.waiting.Held.{Held}
use Rattle.smq_reassembly.specs.Octet.{Octet, octets_of}
use Rattle.smq_reassembly.specs.Piece.{octet_in, first_octet, octets_in, AreApart, first_packet, first_place}
use Rattle.smq_reassembly.specs.within.Chain.{piece_of_entry, pieces_of, IsChain, IsKept, AllWait}
use Rattle.smq_reassembly.proofs.Lists.{length-octets}
use Rattle.smq_reassembly.proofs.Pieces.{or-none, or-none-left, or-none-right, or-assoc, or-swap, or-some, octet-within, octet-before, octet-after}

abbrev pub Entry : Type 0
Entry = ℕ × Held

-- how many octets an entry has
pub size : (e : Entry) → length (piece_of_entry e).octets ≡ length e.1.octets.items
size e = length-octets e.1.packet e.1.begins e.1.octets.items

entry-before : (e : Entry) (n : ℕ) → n + length e.1.octets.items < e.0 → octet_in (piece_of_entry e) n ≡ None
entry-before e n h = octet-before (piece_of_entry e) n (omega arith)

entry-after : (e : Entry) (n : ℕ) → length e.1.octets.items ≤ e.0 → e.0 ≤ n → octet_in (piece_of_entry e) n ≡ None
entry-after e n fits h = octet-after (piece_of_entry e) n (omega (arith, size e))

entry-within : (e : Entry) (n : ℕ) → length e.1.octets.items ≤ e.0 → e.0 - length e.1.octets.items ≤ n → n < e.0
    → (o : Octet) × (octet_in (piece_of_entry e) n ≡ Some o)
entry-within e n fits low high = octet-within (piece_of_entry e) n low (omega (arith, size e))

-- a chain from a place on is one from an earlier place on
pub chain-earlier : (a b : ℕ) (es : List Entry) → a ≤ b → IsChain b es → IsChain a es
chain-earlier a b [] h c = tt
chain-earlier a b (e ∷ es) h c = (omega (arith, c.0), c.1, c.2, c.3)

-- nothing waits before it
pub chain-before : (from : ℕ) (es : List Entry) (n : ℕ) → IsChain from es → n < from → first_octet (pieces_of es) n ≡ None
chain-before from [] n c h = refl
chain-before from (e ∷ es) n c h =
    let a : n + length e.1.octets.items < e.0 = omega (arith, c.0) in
    let b : n < e.0 = omega (arith, c.0) in
    rw (entry-before e n a) (chain-before e.0 es n c.3 b)

-- pieces of a chain are apart
pub chain-apart : (from : ℕ) (es : List Entry) → IsChain from es → AreApart from (pieces_of es)
chain-apart from [] c = tt
chain-apart from (e ∷ es) c =
    let end : (e.0 - length e.1.octets.items) + length (piece_of_entry e).octets ≡ e.0 = omega (arith, size e, c.0) in
    let some : 0 < length (piece_of_entry e).octets = omega (arith, size e, c.1) in
    let low : from ≤ e.0 - length e.1.octets.items = omega (arith, c.0) in
    (low, some, rw end (chain-apart e.0 es c.3))

-- a chain has no more octets than places
pub chain-octets : (from : ℕ) (es : List Entry) → from ≤ 2 ^ 60 → IsChain from es → from + octets_in (pieces_of es) ≤ 2 ^ 60
chain-octets from [] h c = omega arith
chain-octets from (e ∷ es) h c = let r = chain-octets e.0 es c.2 c.3 in omega (arith, size e, c.0, r)

-- ---- an entry comes

-- the octets of an entry don't wait
abbrev pub IsFree : List Entry → Entry → Type 0
IsFree es k =
    (n : ℕ) → k.0 - length k.1.octets.items ≤ n → n < k.0 → first_octet (pieces_of es) n ≡ None

free-tail : (e : Entry) (es : List Entry) (k : Entry) → IsFree (e ∷ es) k → IsFree es k
free-tail e es k free n low high = or-none-right (octet_in (piece_of_entry e) n) (first_octet (pieces_of es) n) (free n low high)

not-both : (e : Entry) (es : List Entry) (k : Entry) (n : ℕ) → IsFree (e ∷ es) k → length e.1.octets.items ≤ e.0
    → k.0 - length k.1.octets.items ≤ n → n < k.0 → e.0 - length e.1.octets.items ≤ n → n < e.0 → ⊥
not-both e es k n free fits low high from to =
    let o = entry-within e n fits from to in
    none-some o.0 (sym (or-none-left (octet_in (piece_of_entry e) n) (first_octet (pieces_of es) n) (free n low high)) ∙ o.1)

-- it stands before an entry or behind it
apart : (e : Entry) (es : List Entry) (k : Entry) → IsFree (e ∷ es) k → length e.1.octets.items ≤ e.0 → 0 < length e.1.octets.items
    → length k.1.octets.items ≤ k.0 → 0 < length k.1.octets.items
    → ((k.0 < e.0) × (k.0 + length e.1.octets.items ≤ e.0)) ⊎ ((e.0 < k.0) × (e.0 + length k.1.octets.items ≤ k.0))
apart e es k free fits some room any =
    elim (cases_lt (k.0 - length k.1.octets.items) e.0) [
      | inr behind ↦ inr (omega arith, omega arith)
      | inl below ↦ elim (cases_lt (e.0 - length e.1.octets.items) k.0) [
        | inr before ↦ inl (omega arith, omega arith)
        | inl above ↦ absurd (elim (cases_lt (k.0 - length k.1.octets.items) (e.0 - length e.1.octets.items)) [
          | inl less ↦ not-both e es k (e.0 - length e.1.octets.items) free fits (omega arith) above (omega arith) (omega arith)
          | inr more ↦ not-both e es k (k.0 - length k.1.octets.items) free fits (omega arith) (omega arith) more below
        ])
      ]
    ]

less-is : (a b : ℕ) → a < b → nat_cmp a b ≡ Less
less-is a b h = sym (nat_cmp_is a b Less h)

greater-is : (a b : ℕ) → b < a → nat_cmp a b ≡ Greater
greater-is a b h = sym (nat_cmp_is a b Greater h)

module _ (k : Entry) (room : length k.1.octets.items ≤ k.0) (any : 0 < length k.1.octets.items) where
  pub put-chain : (from : ℕ) (es : List Entry) → k.0 ≤ 2 ^ 60 → from + length k.1.octets.items ≤ k.0 → IsFree es k → IsChain from es
      → IsChain from (insert_entry nat_cmp es k.0 k.1)
  put-chain from [] most low free c = (low, any, most, tt)
  put-chain from (e ∷ es) most low free c =
      elim (apart e es k free (omega (arith, c.0)) c.1 room any) [
        | inl h ↦ rw (less-is k.0 e.0 h.0) (low, any, most, (h.1, c.1, c.2, c.3))
        | inr h ↦ rw (greater-is k.0 e.0 h.0) (c.0, c.1, c.2, put-chain e.0 es most h.1 (free-tail e es k free) c.3)
      ]

  pub put-first : (from : ℕ) (es : List Entry) (n : ℕ) → IsFree es k → IsChain from es
      → first_octet (pieces_of (insert_entry nat_cmp es k.0 k.1)) n ≡ option_or (first_octet (pieces_of es) n) (octet_in (piece_of_entry k) n)
  put-first from [] n free c = or-none (octet_in (piece_of_entry k) n)
  put-first from (e ∷ es) n free c =
      elim (apart e es k free (omega (arith, c.0)) c.1 room any) [
        | inl h ↦ rw (less-is k.0 e.0 h.0) (or-swap (octet_in (piece_of_entry k) n) (first_octet (pieces_of (e ∷ es)) n) (either n))
        | inr h ↦ rw (greater-is k.0 e.0 h.0)
            (ap (λ (o : Option Octet). option_or (octet_in (piece_of_entry e) n) o) (put-first e.0 es n (free-tail e es k free) c.3)
            ∙ sym (or-assoc (octet_in (piece_of_entry e) n) (first_octet (pieces_of es) n) (octet_in (piece_of_entry k) n)))
      ]
    where
      either : (n : ℕ) → (octet_in (piece_of_entry k) n ≡ None) ⊎ (first_octet (pieces_of (e ∷ es)) n ≡ None)
      either n =
          elim (cases_lt n (k.0 - length k.1.octets.items)) [
            | inl less ↦ inl (octet-before (piece_of_entry k) n less)
            | inr more ↦ elim (cases_lt n k.0) [
              | inl within ↦ inr (free n more within)
              | inr past ↦ inl (entry-after k n room past)
            ]
          ]

  pub put-octets : (from : ℕ) (es : List Entry) → IsFree es k → IsChain from es
      → octets_in (pieces_of (insert_entry nat_cmp es k.0 k.1)) ≡ octets_in (pieces_of es) + length k.1.octets.items
  put-octets from [] free c = omega (arith, size k)
  put-octets from (e ∷ es) free c =
      elim (apart e es k free (omega (arith, c.0)) c.1 room any) [
        | inl h ↦ rw (less-is k.0 e.0 h.0) (omega (arith, size k))
        | inr h ↦ rw (greater-is k.0 e.0 h.0)
            (let r = put-octets e.0 es (free-tail e es k free) c.3 in omega (arith, r))
      ]

-- ---- the first entry that ends after a place

-- what it says of the octets from the place on
abbrev pub Tells : List Entry → ℕ → Option Entry → Type 0
Tells es place found =
    MatchOption found ((n : ℕ) → place ≤ n → first_octet (pieces_of es) n ≡ None)
    (λ e. (place < e.0) × (length e.1.octets.items ≤ e.0)
    × ((n : ℕ) → place ≤ n → n < e.0 - length e.1.octets.items → first_octet (pieces_of es) n ≡ None)
    × AllWait (pieces_of es) (e.0 - length e.1.octets.items) e.0)

tells-more : (e : Entry) (es : List Entry) (place : ℕ) (found : Option Entry) → length e.1.octets.items ≤ e.0 → e.0 ≤ place → Tells es place found
    → Tells (e ∷ es) place found
tells-more e es place None fits past t =
    λ n low. rw (entry-after e n fits (omega arith)) (t n low)
tells-more e es place (Some f) fits past t = (
  t.0,
  t.1,
  (λ n low high. rw (entry-after e n fits (omega arith)) (t.2 n low high)),
  (λ n low high. elim (cases_lt n e.0) [
    | inl less ↦ elim (cases_lt n (e.0 - length e.1.octets.items)) [
      | inl before ↦ let o = t.3 n low high in (o.0, rw (octet-before (piece_of_entry e) n before) o.1)
      | inr within ↦ let o = entry-within e n fits within less in (o.0, or-some _ _ o.0 o.1)
    ]
    | inr more ↦ let o = t.3 n low high in (o.0, rw (entry-after e n fits more) o.1)
  ]),
)

pub tells : (from : ℕ) (es : List Entry) (place : ℕ) → IsChain from es → Tells es place (find (λ e. nat_lt place e.0) es)
tells from [] place c = λ n low. refl
tells from (e ∷ es) place c =
    elim (cases_lt place e.0) [
      | inl here ↦ rw (lt-ltb place e.0 here) (
        here,
        (omega (arith, c.0)),
        (λ n low high. rw (octet-before (piece_of_entry e) n high) (chain-before e.0 es n c.3 (omega arith))),
        (λ n low high. let o = entry-within e n (omega (arith, c.0)) low high in (o.0, or-some _ _ o.0 o.1)),
      )
      | inr past ↦ rw (le-ltb place e.0 past)
          (tells-more e es place (find (λ e. nat_lt place e.0) es) (omega (arith, c.0)) past (tells e.0 es place c.3))
    ]

-- ---- the first entry

pub head-place : (es : List Entry) (e : Entry) → IsChain 0 es → slice_get es 0 ≡ Some e
    → (length e.1.octets.items ≤ e.0) × (first_place (pieces_of es) ≡ Some (e.0 - length e.1.octets.items))
head-place [] e c is = absurd (none-some e is)
head-place (x ∷ es) e c is =
    let same : x ≡ e = same_Some x e is in rw (← same) ((omega (arith, c.0)), refl)

pub kept-rest : (octets : ℕ) (es rest : List Entry) (e : Entry) → IsKept octets es → es ≡ e ∷ rest
    → (length e.1.octets.items ≤ octets) × IsKept (octets - length e.1.octets.items) rest
kept-rest octets es rest e k is =
    let c : IsChain 0 (e ∷ rest) = rw is at k.chain in
    let count : octets ≡ octets_in (pieces_of (e ∷ rest)) = rw is at k.count in (
      omega (arith, count, size e),
      record {
        chain = chain-earlier 0 e.0 rest (omega arith) c.3;
        count = omega (arith, count, size e);
      },
    )

-- before the first piece nothing waits
pub head-before : (from : ℕ) (es : List Entry) (place n : ℕ) → IsChain from es → first_place (pieces_of es) ≡ Some place → n < place
    → first_octet (pieces_of es) n ≡ None
head-before from [] place n c is h = refl
head-before from (e ∷ es) place n c is h =
    let same : e.0 - length e.1.octets.items ≡ place = same_Some (e.0 - length e.1.octets.items) place is in
    rw (octet-before (piece_of_entry e) n (omega (arith, same))) (chain-before e.0 es n c.3 (omega (arith, same)))

-- the first piece begins at its place, and has the octet there
pub head-at : (from : ℕ) (es : List Entry) (place : ℕ) → IsChain from es → first_place (pieces_of es) ≡ Some place
    → (from ≤ place) × (place ≤ 2 ^ 60) × IsChain place es × ((o : Octet) × (first_octet (pieces_of es) place ≡ Some o))
head-at from [] place c is = absurd (none-some place is)
head-at from (e ∷ es) place c is =
    let same : e.0 - length e.1.octets.items ≡ place = same_Some (e.0 - length e.1.octets.items) place is in
    let o = entry-within e place (omega (arith, c.0)) (omega (arith, same)) (omega (arith, same, c.0, c.1)) in
    (omega (arith, same, c.0), omega (arith, same, c.2), (omega (arith, same, c.0), c.1, c.2, c.3), (o.0, or-some _ _ o.0 o.1))

-- the first entry is taken out
pub head-out : (from : ℕ) (es rest : List Entry) (e : Entry) (place : ℕ) → IsChain from es → es ≡ e ∷ rest
    → first_place (pieces_of es) ≡ Some place
    → (0 < length e.1.octets.items) × (e.0 ≡ place + length e.1.octets.items) × (e.0 ≤ 2 ^ 60) × IsChain e.0 rest
head-out from es rest e place c is begins =
    let d : IsChain from (e ∷ rest) = rw is at c in
    let same : e.0 - length e.1.octets.items ≡ place = same_Some (e.0 - length e.1.octets.items) place (rw is at begins) in
    (d.1, omega (arith, same, d.0), d.2, d.3)

-- nothing waits at a place where no piece begins and none before it
pub head-not : (from : ℕ) (es : List Entry) → IsChain from es → (first_place (pieces_of es) ≡ Some from → ⊥)
    → first_octet (pieces_of es) from ≡ None
head-not from [] c other = refl
head-not from (e ∷ es) c other =
    elim (cases_lt from (e.0 - length e.1.octets.items)) [
      | inl less ↦ head-before from (e ∷ es) (e.0 - length e.1.octets.items) from c refl less
      | inr more ↦
          let same : e.0 - length e.1.octets.items ≡ from = omega (arith, c.0) in
          absurd (other (ap (λ (n : ℕ). Some n) same))
    ]

-- a chain of which nothing waits up to a later place is one from there on
pub chain-later : (from count : ℕ) (es : List Entry) → IsChain from es
    → ((n : ℕ) → from ≤ n → n < from + count → first_octet (pieces_of es) n ≡ None) → IsChain (from + count) es
chain-later from count [] c none = tt
chain-later from count (e ∷ es) c none =
    elim (cases_lt (e.0 - length e.1.octets.items) (from + count)) [
      | inl less ↦
          let o = entry-within e (e.0 - length e.1.octets.items) (omega (arith, c.0)) (omega arith) (omega (arith, c.0, c.1)) in
          absurd (none-some o.0 (sym (or-none-left _ _ (none (e.0 - length e.1.octets.items) (omega (arith, c.0)) less)) ∙ o.1))
      | inr more ↦ (omega (arith, c.0), c.1, c.2, c.3)
    ]

-- the packet of the first octet of the first piece is that of the first entry
pub head-packet : (from : ℕ) (es : List Entry) (e : Entry) → IsChain from es → slice_get es 0 ≡ Some e → first_packet (pieces_of es) ≡ Some e.1.packet
head-packet from [] e c h = absurd (none-some e h)
head-packet from (d ∷ es) e c h = by d.1.octets.items c.1 ∙ ap (λ (x : Entry). Some x.1.packet) (same_Some d e h)
  where
    by : (vs : List ℕ) → 0 < length vs → option_map (λ (o : Octet). o.packet) (slice_get (octets_of d.1.packet d.1.begins vs) 0) ≡ Some d.1.packet
    by [] l = absurd (omega (arith, l))
    by (v ∷ vs) l = refl
