-- The deciding receipts by their keys, one receipt at a time.
use Rattle.std.proofs.Common.{◌≡◌, ℕ, ◌+◌, ◌<◌, Bool, true, false, cond, ◌&&◌, List, [], ◌∷◌, ◌++◌, take, get_or, length, Option, Some, None, refl, sym, ap, ◌∙◌, arith}
use Rattle.std.specs.Prelude.{map, filter, option_to_list}
use Rattle.std.proofs.lemmas.List.{take_more, map-append, append-nil, append_assoc}
use Rattle.std.proofs.lemmas.List.Elements.{filter-append}
use Rattle.std.proofs.lemmas.List.Sums.{fold-append}
use Rattle.std.proofs.lemmas.Grind.{flat_map-append}
use Rattle.smq_present.specs.declared.present.kept.StoredPdu.{StoredPdu}
use Rattle.smq_kit.specs.declared.link_key.LinkKey.{LinkKey}
use Rattle.smq_present.specs.declared.pairing.pairs.SessionForms.{SessionForms}
use Rattle.smq_present.specs.present.Kept.{receipt_in}
use Rattle.smq_present.specs.join.Keyed.{can_decide}
use Rattle.smq_kit.specs.LinkKeys.{link_key, same_key}
use Rattle.smq_receipt.specs.declared.reading.Receipt.{Receipt}
use Rattle.smq_present.specs.within.Receipts.{PlacedReceipt, KeyedReceipt, candidates, earlier, keyed_receipt, least_receipt, receipt_by, receipts_among}
use Rattle.smq_present.specs.within.Accepted.{decider_with}

-- ---- the least receipt, with one more at the end

pub least-last : (rs : List PlacedReceipt) (r : PlacedReceipt) → least_receipt (rs ++ r ∷ []) ≡ Some (decider_with (least_receipt rs) r)
least-last [] r = refl
least-last (x ∷ rs) r = ap Some (fold-append earlier x rs (r ∷ []))

-- ---- the candidates of a key, with one receipt more at the end

one_more : (q k : LinkKey) (r : PlacedReceipt) → List PlacedReceipt
one_more q k r = map (λ (e : KeyedReceipt). e.1) (filter (λ (e : KeyedReceipt). same_key q e.0 && can_decide e.1.receipt) ((k, r) ∷ []))

candidates-last : (q k : LinkKey) (receipts : List KeyedReceipt) (r : PlacedReceipt) → candidates q (receipts ++ (k, r) ∷ [])
    ≡ candidates q receipts ++ one_more q k r
unfolding one_more
candidates-last q k receipts r =
    ap (map (λ (e : KeyedReceipt). e.1)) (filter-append (λ (e : KeyedReceipt). same_key q e.0 && can_decide e.1.receipt) receipts ((k, r) ∷ []))
    ∙ map-append (λ (e : KeyedReceipt). e.1) (filter (λ (e : KeyedReceipt). same_key q e.0 && can_decide e.1.receipt) receipts)
    (filter (λ (e : KeyedReceipt). same_key q e.0 && can_decide e.1.receipt) ((k, r) ∷ []))

more-is : (q k : LinkKey) (r : PlacedReceipt) (a b : Bool) → same_key q k ≡ a → can_decide r.receipt ≡ b → one_more q k r ≡ cond (a && b) (r ∷ []) []
unfolding one_more
more-is q k r true true s d = rw (s, d) refl
more-is q k r true false s d = rw (s, d) refl
more-is q k r false b s d = rw s refl

pub candidates-more : (q k : LinkKey) (receipts : List KeyedReceipt) (r : PlacedReceipt) → same_key q k ≡ true → can_decide r.receipt ≡ true
    → candidates q (receipts ++ (k, r) ∷ []) ≡ candidates q receipts ++ r ∷ []
candidates-more q k receipts r s d =
    candidates-last q k receipts r ∙ ap (λ (ys : List PlacedReceipt). candidates q receipts ++ ys) (more-is q k r true true s d)

pub candidates-stay : (q k : LinkKey) (receipts : List KeyedReceipt) (r : PlacedReceipt) → (same_key q k && can_decide r.receipt) ≡ false
    → candidates q (receipts ++ (k, r) ∷ []) ≡ candidates q receipts
candidates-stay q k receipts r e =
    candidates-last q k receipts r
    ∙ ap (λ (ys : List PlacedReceipt). candidates q receipts ++ ys) (none (same_key q k) (can_decide r.receipt) refl refl e)
    ∙ append-nil (candidates q receipts)
  where
    none : (a b : Bool) → same_key q k ≡ a → can_decide r.receipt ≡ b → (a && b) ≡ false → one_more q k r ≡ []
    none a b s d f = more-is q k r a b s d ∙ ap (λ (c : Bool). cond c (r ∷ []) []) f

-- ---- one PDU of the centre more

-- the receipts up to a PDU
pub receipts-next : (source : SessionForms) (centre : List StoredPdu) (i : ℕ) (x : StoredPdu) → i < length centre → x ≡ get_or centre i x
    → receipts_among source (take (i + 1) centre) ≡ receipts_among source (take i centre) ++ receipt_by (receipt_in x.content) source x
receipts-next source centre i x h is =
    ap (receipts_among source) (take_more centre i x h)
    ∙ flat_map-append (λ (p : StoredPdu). receipt_by (receipt_in p.content) source p) (take i centre) (get_or centre i x ∷ [])
    ∙ ap (λ (y : StoredPdu). receipts_among source (take i centre) ++ receipts_among source (y ∷ [])) (sym is)
    ∙ ap (λ (ys : List KeyedReceipt). receipts_among source (take i centre) ++ ys) (append-nil (receipt_by (receipt_in x.content) source x))

-- the receipts up to a PDU, which is one or none
pub receipts-more : (source : SessionForms) (centre : List StoredPdu) (i : ℕ) (x : StoredPdu) (o : Option KeyedReceipt)
    (receipts : List KeyedReceipt) → i < length centre → x ≡ get_or centre i x
    → option_to_list o ≡ receipt_by (receipt_in x.content) source x
    → (receipts ++ receipts_among source (take i centre)) ++ option_to_list o ≡ receipts ++ receipts_among source (take (i + 1) centre)
receipts-more source centre i x o receipts h is by =
    append_assoc receipts (receipts_among source (take i centre)) (option_to_list o)
    ∙ ap (λ (ys : List KeyedReceipt). receipts ++ (receipts_among source (take i centre) ++ ys)) by
    ∙ ap (λ (ys : List KeyedReceipt). receipts ++ ys) (sym (receipts-next source centre i x h is))

-- the key of a receipt is that of its id
by_key : (source : SessionForms) (x : StoredPdu) (o : Option Receipt) (e : KeyedReceipt)
    → e ∷ [] ≡ receipt_by o source x → link_key e.1.link source.forms.receipt e.1.receipt.id ≡ e.0
by_key source x None e h = absurd (let lengths : length (e ∷ []) ≡ 0 = ap length h in omega (arith, lengths))
by_key source x (Some receipt) e h =
    let same : e ≡ keyed_receipt source x receipt = ap (λ (xs : List KeyedReceipt). get_or xs 0 e) h in
    ap (λ (p : KeyedReceipt). link_key p.1.link source.forms.receipt p.1.receipt.id) same ∙ sym (ap (λ (p : KeyedReceipt). p.0) same)

pub key-of-receipt : (source : SessionForms) (x : StoredPdu) (e : KeyedReceipt) → e ∷ [] ≡ receipt_by (receipt_in x.content) source x
    → link_key e.1.link source.forms.receipt e.1.receipt.id ≡ e.0
key-of-receipt source x e h = by_key source x (receipt_in x.content) e h
