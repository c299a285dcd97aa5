-- Where PDUs of a kind and a number stand, one PDU at a time.
use Rattle.std.proofs.Common.{◌≡◌, ◌≢◌, ◌⊎◌, inl, inr, ℕ, zero, suc, ◌+◌, ◌<◌, ◌≤◌, Bool, true, false, cond, ◌&&◌, ◌==◌, List, [], ◌∷◌, ◌++◌, length, take, drop, get_or, Option, Some, None, refl, sym, ap, ◌∙◌, subst, arith}
use Rattle.std.specs.Prelude.{slice_get, count_by, option_and_then, unwrap_or, slice_set}
use Rattle.std.specs.Option.{option_flatten}
use Rattle.std.specs.Ordering.{nat_cmp}
use Rattle.std.specs.BTreeMap.{BTreeMap, UpdatesBy}
use Rattle.std.proofs.lemmas.Bool.{and_parts, eqb-true, cases_eq, false≢true}
use Rattle.std.proofs.lemmas.Grind.{common_steps}
use Rattle.std.proofs.lemmas.List.{drop_all, drop-drop, drop_more, get_or-set_same, get_or-set_other, get_or_push, take_more, map-append}
use Rattle.std.proofs.Math.ListN.{get_or-append}
use Rattle.std.proofs.lemmas.Option.{slice_get_within, slice_get-get_or, unwrap_or-slice_get, get_or_from_slice_get}
use Rattle.smq_pdu.specs.Header.{header_with}
use Rattle.smq_pair.proofs.Entered.{count-last}
use Rattle.smq_present.specs.declared.present.kept.StoredPdu.{StoredPdu}
use Rattle.smq_present.specs.present.Kept.{header_of, headers_of}
use Rattle.smq_present.specs.declared.pairing.sides.Kind.{Kind}
use Rattle.smq_present.specs.declared.pairing.sides.Kind.TheVariants.{Request, Response}
use Rattle.smq_present.specs.declared.pairing.sides.Turns.{Turns}
use Rattle.smq_present.specs.within.Turns.{is_kind, is_turn, turns_of, BeginsAt, first_in, next_at, advanced, HasNext, HasTurns, taken_more, partner_at, partner_after, HasPartnersTo}

get-drop : {X : Type 0} (n : ℕ) (xs : List X) → slice_get xs n ≡ slice_get (drop n xs) 0
get-drop zero xs = refl
get-drop (suc n) [] = refl
get-drop (suc n) (x ∷ xs) = get-drop n xs

-- what a map has for numbers once one has changed
pub updated : (m n : BTreeMap ℕ (Option ℕ)) (k q : ℕ) (w : Option ℕ) → UpdatesBy nat_cmp (nat_cmp k) m n (Some w)
    → first_in n q ≡ cond (k == q) w (first_in m q)
updated m n k q w h = grind (arith, common_steps, h.0 q, h.1, h.2 q)

-- what is kept of one index is put
pub next-put : (next : List (Option ℕ)) (i : ℕ) (first : Option ℕ) → i < length next → next_at (slice_set next i first) i ≡ first
next-put next i first h = unwrap_or-slice_get (slice_set next i first) i None ∙ get_or-set_same next i first None h

pub next-stays : (next : List (Option ℕ)) (i j : ℕ) (first : Option ℕ) → j ≢ i → next_at (slice_set next i first) j ≡ next_at next j
next-stays next i j first apart =
    unwrap_or-slice_get (slice_set next i first) j None ∙ get_or-set_other next i j first None apart ∙ sym (unwrap_or-slice_get next j None)

pub flat : (o : Option (Option ℕ)) → option_flatten o ≡ unwrap_or o None
flat None = refl
flat (Some o) = refl

-- the kind of a PDU is that of its command
pub of-command : (kind : Kind) (p : StoredPdu) → is_kind kind (header_of p) ≡ is_kind kind (header_with p.command)
of-command Request p = refl
of-command Response p = refl

module _ (kind : Kind) (pdus : List StoredPdu) where
  -- ---- one is taken

  -- the first of a number has its index
  pub first-at : (taken : ℕ → ℕ) (turns : Turns) (seq : ℕ) → HasTurns kind pdus taken turns
      → option_and_then (slice_get pdus) (first_in turns.first seq) ≡ slice_get (turns_of kind seq pdus) (taken seq)
  first-at taken turns seq h = by_first (first_in turns.first seq) (h.first seq)
    where
      left : List StoredPdu
      left = drop (taken seq) (turns_of kind seq pdus)

      by_first : (first : Option ℕ) → BeginsAt kind seq pdus left first
          → option_and_then (slice_get pdus) first ≡ slice_get (turns_of kind seq pdus) (taken seq)
      by_first None is = sym (get-drop (taken seq) (turns_of kind seq pdus) ∙ ap (λ ps. slice_get ps 0) is)
      by_first (Some j) is = is.at ∙ sym (get-drop (taken seq) (turns_of kind seq pdus) ∙ ap (λ ps. slice_get ps 0) is.is)

  first-taken : (seq n : ℕ) (next : List (Option ℕ)) (first : Option ℕ) → HasNext kind pdus 0 next
      → BeginsAt kind seq pdus (drop n (turns_of kind seq pdus)) first
      → BeginsAt kind seq pdus (drop (n + 1) (turns_of kind seq pdus)) (advanced next first)
  first-taken seq n next None nexts is = sym (drop-drop 1 n (turns_of kind seq pdus)) ∙ ap (drop 1) is
  first-taken seq n next (Some j) nexts is =
      subst (λ left. BeginsAt kind seq pdus left (next_at next j)) (sym (ap (drop 1) is.is) ∙ drop-drop 1 n (turns_of kind seq pdus))
      (nexts j is.pdu seq (omega arith) is.at is.turn)

  -- the first of a number is taken
  pub turns-taken : (taken : ℕ → ℕ) (old new : Turns) (seq : ℕ) → HasTurns kind pdus taken old → new.next ≡ old.next
      → ((q : ℕ) → first_in new.first q ≡ cond (seq == q) (advanced old.next.items (first_in old.first seq)) (first_in old.first q))
      → HasTurns kind pdus (taken_more seq taken) new
  turns-taken taken old new seq h stays puts = record {
    first = λ q. subst (λ first. BeginsAt kind q pdus (drop (taken_more seq taken q) (turns_of kind q pdus)) first) (sym (puts q)) (by_number q (seq == q) refl);
    next = rw stays h.next;
  }
    where
      by_number : (q : ℕ) (b : Bool) → (seq == q) ≡ b → BeginsAt kind q pdus (drop (cond b (taken q + 1) (taken q)) (turns_of kind q pdus))
          (cond b (advanced old.next.items (first_in old.first seq)) (first_in old.first q))
      by_number q true e = subst (λ s. BeginsAt kind q pdus (drop (taken q + 1) (turns_of kind q pdus)) (advanced old.next.items (first_in old.first s)))
          (sym (eqb-true seq q e)) (first-taken q (taken q) old.next.items (first_in old.first q) h.next (h.first q))
      by_number q false e = h.first q

  -- so many of each number are taken, however that is said
  pub turns-same : (taken other : ℕ → ℕ) (turns : Turns) → ((q : ℕ) → taken q ≡ other q) → HasTurns kind pdus taken turns → HasTurns kind pdus other turns
  turns-same taken other turns same h = record {
    first = λ q. subst (λ n. BeginsAt kind q pdus (drop n (turns_of kind q pdus)) (first_in turns.first q)) (same q) (h.first q);
    next = h.next;
  }

  -- ---- one PDU more, from the last on

  -- the first of each number from an index on
  abbrev pub HasFirst : ℕ → BTreeMap ℕ (Option ℕ) → Type 0
  HasFirst i first = (seq : ℕ) → BeginsAt kind seq pdus (turns_of kind seq (drop i pdus)) (first_in first seq)

  pub no-first : (i : ℕ) (first : BTreeMap ℕ (Option ℕ)) → first.entries ≡ [] → length pdus ≤ i → HasFirst i first
  no-first i first none all = λ seq. rw (none, drop_all i pdus all) refl

  pub no-next : (i : ℕ) (next : List (Option ℕ)) → length pdus ≤ i → HasNext kind pdus i next
  no-next i next all = λ j p seq low at turn. absurd (let within = slice_get_within pdus j p at in omega (arith, low, all, within))

  module _ (i : ℕ) (x : StoredPdu) (h : i < length pdus) (is : x ≡ get_or pdus i x) where
    here : drop i pdus ≡ x ∷ drop (i + 1) pdus
    here = drop_more pdus i x h ∙ ap (λ (p : StoredPdu). p ∷ drop (i + 1) pdus) (sym is)

    at-here : slice_get pdus i ≡ Some x
    at-here = slice_get-get_or pdus i x h ∙ ap Some (sym is)

    abbrev with_it : ℕ → Bool → List StoredPdu
    with_it seq b = cond b (x ∷ turns_of kind seq (drop (i + 1) pdus)) (turns_of kind seq (drop (i + 1) pdus))

    -- what stands at its index is it
    same-pdu : (j : ℕ) (p : StoredPdu) → j ≡ i → slice_get pdus j ≡ Some p → p ≡ x
    same-pdu j p same at = let e : Some p ≡ Some x = sym at ∙ ap (slice_get pdus) same ∙ at-here in cc

    -- it is of the kind
    pub first-more : (old new : BTreeMap ℕ (Option ℕ)) → is_kind kind (header_of x) ≡ true → HasFirst (i + 1) old
        → ((q : ℕ) → first_in new q ≡ cond (x.seq == q) (Some i) (first_in old q)) → HasFirst i new
    first-more old new of_kind so puts = λ seq.
        subst (λ first. BeginsAt kind seq pdus (turns_of kind seq (drop i pdus)) first) (sym (puts seq))
        (subst (λ ps. BeginsAt kind seq pdus ps (cond (x.seq == seq) (Some i) (first_in old seq))) (sym (ap (turns_of kind seq) here))
        (by_number seq (x.seq == seq) refl))
      where
        by_number : (seq : ℕ) (b : Bool) → (x.seq == seq) ≡ b
            → BeginsAt kind seq pdus (with_it seq (is_turn kind seq (header_of x))) (cond b (Some i) (first_in old seq))
        by_number seq true e =
            let turn : is_turn kind seq (header_of x) ≡ true = rw (of_kind, e) refl in
            record { pdu = x; at = at-here; turn = turn; is = ap (with_it seq) turn }
        by_number seq false e =
            let turn : is_turn kind seq (header_of x) ≡ false = rw (of_kind, e) refl in
            subst (λ ps. BeginsAt kind seq pdus ps (first_in old seq)) (sym (ap (with_it seq) turn)) (so seq)

    next-here : (next : List (Option ℕ)) → HasNext kind pdus (i + 1) next → ((seq : ℕ) → is_turn kind seq (header_of x) ≡ true
        → BeginsAt kind seq pdus (turns_of kind seq (drop (i + 1) pdus)) (next_at next i)) → HasNext kind pdus i next
    next-here next later own = λ j p seq low at turn. elim (cases_eq j i) [
      | inl same ↦ subst (λ k. BeginsAt kind seq pdus (turns_of kind seq (drop (k + 1) pdus)) (next_at next k)) (sym same)
          (own seq (ap (λ (y : StoredPdu). is_turn kind seq (header_of y)) (sym (same-pdu j p same at)) ∙ turn))
      | inr apart ↦ later j p seq (omega (arith, low, apart)) at turn
    ]

    pub next-more : (old : BTreeMap ℕ (Option ℕ)) (next new : List (Option ℕ)) → HasFirst (i + 1) old → HasNext kind pdus (i + 1) next
        → next_at new i ≡ first_in old x.seq → ((j : ℕ) → j ≢ i → next_at new j ≡ next_at next j) → HasNext kind pdus i new
    next-more old next new so nexts put stays = next-here new
        (λ j p seq low at turn. subst (λ first. BeginsAt kind seq pdus (turns_of kind seq (drop (j + 1) pdus)) first)
        (sym (stays j (λ same. absurd (omega (arith, low, same))))) (nexts j p seq low at turn))
        (λ seq turn. subst (λ first. BeginsAt kind seq pdus (turns_of kind seq (drop (i + 1) pdus)) first)
        (sym (put ∙ ap (first_in old) (eqb-true x.seq seq (and_parts (is_kind kind (header_of x)) (x.seq == seq) turn).1))) (so seq))

    -- it isn't
    pub first-same : (first : BTreeMap ℕ (Option ℕ)) → is_kind kind (header_of x) ≡ false → HasFirst (i + 1) first → HasFirst i first
    first-same first of_other so = λ seq.
        subst (λ ps. BeginsAt kind seq pdus ps (first_in first seq)) (sym (ap (turns_of kind seq) here ∙ ap (λ b. with_it seq (b && (x.seq == seq))) of_other)) (so seq)

    pub next-same : (next : List (Option ℕ)) → is_kind kind (header_of x) ≡ false → HasNext kind pdus (i + 1) next → HasNext kind pdus i next
    next-same next of_other nexts = next-here next nexts
        (λ seq turn. absurd (false≢true (sym of_other ∙ (and_parts (is_kind kind (header_of x)) (x.seq == seq) turn).0)))

-- ---- one PDU more is given its partner

-- how many of a kind and a number stand before an index
abbrev pub counted : Kind → List StoredPdu → ℕ → ℕ → ℕ
counted kind mine n seq = count_by (is_turn kind seq) (headers_of (take n mine))

module _ (kind : Kind) (mine : List StoredPdu) (i : ℕ) (x : StoredPdu) (h : i < length mine) (is : x ≡ get_or mine i x) where
  headers-more : headers_of (take (i + 1) mine) ≡ headers_of (take i mine) ++ header_of x ∷ []
  headers-more = ap headers_of (take_more mine i x h) ∙ map-append header_of (take i mine) (get_or mine i x ∷ [])
      ∙ ap (λ (y : StoredPdu). headers_of (take i mine) ++ header_of y ∷ []) (sym is)

  counted-more : (seq : ℕ) → counted kind mine (i + 1) seq ≡ counted kind mine i seq + cond (is_turn kind seq (header_of x)) 1 0
  counted-more seq = ap (count_by (is_turn kind seq)) headers-more ∙ count-last (is_turn kind seq) (headers_of (take i mine)) (header_of x)

  pub counted-turn : is_kind kind (header_of x) ≡ true → (seq : ℕ) → taken_more x.seq (counted kind mine i) seq ≡ counted kind mine (i + 1) seq
  counted-turn of_kind seq = sym (counted-more seq ∙ ap (λ b. counted kind mine i seq + cond (b && (x.seq == seq)) 1 0) of_kind ∙ by_number (x.seq == seq))
    where
      by_number : (b : Bool) → counted kind mine i seq + cond b 1 0 ≡ cond b (counted kind mine i seq + 1) (counted kind mine i seq)
      by_number true = refl
      by_number false = omega arith

  pub counted-other : is_kind kind (header_of x) ≡ false → (seq : ℕ) → counted kind mine i seq ≡ counted kind mine (i + 1) seq
  counted-other of_other seq =
      sym (counted-more seq ∙ ap (λ b. counted kind mine i seq + cond (b && (x.seq == seq)) 1 0) of_other ∙ (let e : counted kind mine i seq + 0 ≡ counted kind mine i seq = omega arith in e))

  pub partners-more : (other : List StoredPdu) (old : List (Option ℕ)) (partner : Option ℕ) → length old ≡ i → HasPartnersTo i kind mine other old
      → (is_kind kind (header_of x) ≡ true → option_and_then (slice_get other) partner ≡ partner_after kind other (take i mine) x)
      → HasPartnersTo (i + 1) kind mine other (old ++ partner ∷ [])
  partners-more other old partner many so has = λ j p low at of_kind. by_index j p low at of_kind (cases_eq j i)
    where
      by_index : (j : ℕ) (p : StoredPdu) → j < i + 1 → slice_get mine j ≡ Some p → is_kind kind (header_of p) ≡ true
          → (j ≡ i) ⊎ (j ≢ i) → partner_at (old ++ partner ∷ []) other j ≡ partner_after kind other (take j mine) p
      by_index j p low at of_kind (inl same) =
          let at_i : slice_get mine i ≡ Some p = ap (slice_get mine) (sym same) ∙ at in
          let it : p ≡ x = sym (get_or_from_slice_get mine i p x at_i) ∙ sym is in
          ap (option_and_then (slice_get other)) (ap (λ k. unwrap_or (slice_get (old ++ partner ∷ []) k) None) same
          ∙ unwrap_or-slice_get (old ++ partner ∷ []) i None ∙ get_or_push old partner None i many)
          ∙ has (ap (λ (y : StoredPdu). is_kind kind (header_of y)) (sym it) ∙ of_kind)
          ∙ (λ k. partner_after kind other (take (sym same k) mine) (sym it k))
      by_index j p low at of_kind (inr apart) =
          ap (option_and_then (slice_get other)) (unwrap_or-slice_get (old ++ partner ∷ []) j None
          ∙ get_or-append old (partner ∷ []) None j (omega (arith, low, apart, many)) ∙ sym (unwrap_or-slice_get old j None))
          ∙ so j p (omega (arith, low, apart)) at of_kind
