-- What is kept of each key, as keys, messages and receipts come one at a time, and what is told by it.
use Rattle.std.proofs.Common.{◌≡◌, ℕ, suc, ◌+◌, ◌<◌, Bool, true, false, ◌&&◌, ◌||◌, cond, List, [], ◌∷◌, ◌++◌, length, take, get_or, set, Option, Some, None, refl, sym, ap, ◌∙◌, subst, arith}
use Rattle.std.specs.Prelude.{zero, ◌==◌, map, option_map, option_to_list}
use Rattle.std.specs.List.{AllZip, list_any}
use Rattle.std.proofs.lemmas.Bool.{eqb-true, false≢true}
use Rattle.std.proofs.lemmas.List.{take_more, append-nil, length-append, length-set, get_or_append_left, get_or_push, get_or-set_same, get_or-set_other}
use Rattle.std.proofs.lemmas.List.Elements.{filter-append}
use Rattle.std.proofs.lemmas.List.Sums.{length-filter}
use Rattle.std.proofs.lemmas.Slice.Zip.{all_zipped_more}
use Rattle.smq_kit.specs.declared.link_key.LinkKey.{LinkKey}
use Rattle.smq_kit.specs.LinkKeys.{same_key}
use Rattle.smq_kit.proofs.HashedKeyOrders.{hashed-same}
use Rattle.smq_present.specs.join.Keyed.{can_decide}
use Rattle.smq_present.specs.join.Lines.{ReceiptLineValue}
use Rattle.smq_present.specs.join.Outcomes.{is_shared}
use Rattle.smq_present.specs.within.Accepted.{accepted_with, decider_of, decider_with, is_single}
use Rattle.smq_present.specs.within.Messages.{SubmittedMessage}
use Rattle.smq_present.specs.within.Outcomes.{standing_of}
use Rattle.smq_present.specs.within.Receipts.{KeyedReceipt, PlacedReceipt, candidates, least_receipt}
use Rattle.smq_scratch.specs.declared.groups.Group.{Group}
use Rattle.smq_scratch.specs.declared.groups.Groups.{Groups}
use Rattle.smq_scratch.specs.declared.receipts.NumberedReceipt.{NumberedReceipt}
use Rattle.smq_scratch.specs.Lines.{accepted_among, only_place, receipt_line, standing_by}
use Rattle.smq_scratch.specs.within.KeyNumbers.{AreNumbered, index_of, is_key, with_key}
use Rattle.smq_scratch.specs.within.Groups.{AddsReceipts, AreGrouped, AreOfMessages, Changes, HasGroup, HasGroups, HasSubmits, IsNumberOf, IsNumberedReceipt, IsOfReceipt, NumbersStay, group_by, group_kept, group_of, key_in, line_by, lines_kept, match_of, match_with, no_group, number_in, with_message, with_receipt}
use Rattle.smq_scratch.proofs.KeyNumbered.{index-last, index-within, key_itself, last_or, one-index, one_key, stay-last, with-key-is}
use Rattle.smq_scratch.proofs.Deciding.{candidates-more, candidates-stay, least-last}

cond-same : {X : Type 0} (b : Bool) (x : X) → cond b x x ≡ x
cond-same true x = refl
cond-same false x = refl

all-zip-weaker : {A B : Type 0} (R S : A → B → Type 0) → ((x : A) (y : B) → R x y → S x y) → (xs : List A) (ys : List B) → AllZip R xs ys → AllZip S xs ys
all-zip-weaker R S f [] [] h = h
all-zip-weaker R S f [] (y ∷ ys) h = elim h [ ]
all-zip-weaker R S f (x ∷ xs) [] h = elim h [ ]
all-zip-weaker R S f (x ∷ xs) (y ∷ ys) h = (f x y h.0, all-zip-weaker R S f xs ys h.1)

-- ---- one more key

last_group : (groups : List Group) (m : ℕ) (o : Option ℕ) (b : Bool) → length groups ≡ m → ((n : ℕ) → o ≡ Some n → n < m)
    → group_by (groups ++ no_group ∷ []) (last_or o b m) ≡ group_by groups o
last_group groups m None true len f = get_or_push groups no_group no_group m len
last_group groups m None false len f = refl
last_group groups m (Some n) b len f = get_or_append_left groups (no_group ∷ []) no_group n (let within = f n refl in omega (arith, within, len))

-- nothing is kept of it
group-last : (q k : LinkKey) (keys : List LinkKey) (groups : List Group) → length groups ≡ length keys
    → group_by (groups ++ no_group ∷ []) (index_of q (keys ++ k ∷ [])) ≡ group_by groups (index_of q keys)
group-last q k keys groups len =
    ap (group_by (groups ++ no_group ∷ [])) (index-last q k keys)
    ∙ last_group groups (length keys) (index_of q keys) (is_key q k) len (index-within q keys)

-- a key has its number, under which something is kept
module _ (old new : Groups) (k : LinkKey) (n : ℕ) (so : AreGrouped old) (numbered : AreNumbered new.keys)
    (is : new.keys.keys.items ≡ with_key k old.keys.keys.items) (at : index_of k new.keys.keys.items ≡ Some n) where
  pub changes-new : n ≡ length old.groups.items → new.groups.items ≡ old.groups.items ++ no_group ∷ [] → Changes old new k n (λ (g : Group). g)
  changes-new e pushed =
      let keys : new.keys.keys.items ≡ old.keys.keys.items ++ k ∷ [] =
      with-key-is k old.keys.keys.items new.keys.keys.items is n at (length old.keys.keys.items) refl true (λ _. e ∙ so.lengths) (λ f. absurd (false≢true (sym f))) in
      record {
        grouped = record {
          numbered = numbered;
          lengths = ap length pushed ∙ length-append old.groups.items (no_group ∷ []) ∙ ap (λ (m : ℕ). m + 1) so.lengths
              ∙ sym (ap length keys ∙ length-append old.keys.keys.items (k ∷ []));
        };
        number = at;
        stay = λ q m h. ap (index_of q) keys ∙ stay-last k old.keys.keys.items q m h;
        at = λ q. (λ i. group_by (pushed i) (index_of q (keys i))) ∙ group-last q k old.keys.keys.items old.groups.items so.lengths
            ∙ sym (cond-same (is_key q k) (group_kept old q));
      }

  pub changes-none : (n ≡ length old.groups.items → ⊥) → new.groups.items ≡ old.groups.items → Changes old new k n (λ (g : Group). g)
  changes-none e same =
      let keys : new.keys.keys.items ≡ old.keys.keys.items =
      with-key-is k old.keys.keys.items new.keys.keys.items is n at (length old.keys.keys.items) refl false (λ f. absurd (false≢true f)) (λ _ h. e (h ∙ sym so.lengths)) in
      record {
        grouped = record { numbered = numbered; lengths = ap length same ∙ so.lengths ∙ sym (ap length keys) };
        number = at;
        stay = λ q m h. ap (index_of q) keys ∙ h;
        at = λ q. (λ i. group_by (same i) (index_of q (keys i))) ∙ sym (cond-same (is_key q k) (group_kept old q));
      }

-- ---- what is kept of a key is changed

pub within-groups : (old mid : Groups) (k : LinkKey) (n : ℕ) → Changes old mid k n (λ (g : Group). g) → n < length mid.groups.items
within-groups old mid k n so =
    let within : n < length mid.keys.keys.items = index-within k mid.keys.keys.items n so.number in
    let len = so.grouped.lengths in
    omega (arith, within, len)

module _ (old mid new : Groups) (k : LinkKey) (n : ℕ) (f : Group → Group) (so : Changes old mid k n (λ (g : Group). g))
    (keys : new.keys ≡ mid.keys) (put : new.groups.items ≡ set mid.groups.items n (f (get_or mid.groups.items n no_group))) where
  kept_here : group_kept mid k ≡ get_or mid.groups.items n no_group
  kept_here = ap (group_by mid.groups.items) so.number

  other_number : (q : LinkKey) (o : Option ℕ) → is_key q k ≡ false → index_of q mid.keys.keys.items ≡ o
      → group_by (set mid.groups.items n (f (get_or mid.groups.items n no_group))) o ≡ group_by mid.groups.items o
  other_number q None s e = refl
  other_number q (Some m) s e = get_or-set_other mid.groups.items n m (f (get_or mid.groups.items n no_group)) no_group
      (λ h. false≢true (sym s ∙ ap (λ (x : LinkKey). is_key x k) (one-index q k mid.keys.keys.items n (e ∙ ap Some h) so.number) ∙ key_itself k))

  changed_at : (q : LinkKey) (b : Bool) → is_key q k ≡ b
      → group_by (set mid.groups.items n (f (get_or mid.groups.items n no_group))) (index_of q mid.keys.keys.items)
      ≡ cond b (f (group_kept old q)) (group_kept old q)
  changed_at q true s =
      let same : q ≡ k = one_key q k s in
      ap (group_by (set mid.groups.items n (f (get_or mid.groups.items n no_group)))) (ap (λ (x : LinkKey). index_of x mid.keys.keys.items) same ∙ so.number)
      ∙ get_or-set_same mid.groups.items n (f (get_or mid.groups.items n no_group)) no_group (within-groups old mid k n so)
      ∙ ap f (sym kept_here ∙ so.at k ∙ cond-same (is_key k k) (group_kept old k) ∙ ap (group_kept old) (sym same))
  changed_at q false s =
      other_number q (index_of q mid.keys.keys.items) s refl ∙ so.at q ∙ cond-same (is_key q k) (group_kept old q)

  pub changes-set : Changes old new k n f
  changes-set = record {
    grouped = record {
      numbered = subst AreNumbered (sym keys) so.grouped.numbered;
      lengths = ap length put ∙ length-set mid.groups.items n (f (get_or mid.groups.items n no_group)) ∙ so.grouped.lengths
          ∙ sym (ap (λ x. length x.keys.items) keys);
    };
    number = ap (λ x. index_of k x.keys.items) keys ∙ so.number;
    stay = λ q m h. ap (λ x. index_of q x.keys.items) keys ∙ so.stay q m h;
    at = λ q. (λ i. group_by (put i) (index_of q (keys i).keys.items)) ∙ changed_at q (is_key q k) refl;
  }

-- ---- one more message

-- whether a message is accepted with a key, by its own
by_key_alone : (q k : LinkKey) (x : SubmittedMessage) → x.key ≡ Some k → accepted_with q x ≡ is_key q k
by_key_alone q k x e =
    ap (λ (o : Option LinkKey). list_any (same_key q) (option_to_list o)) e
    ∙ elim (same_key q k) as (λ b. (b || false) ≡ b) [ true ↦ refl | false ↦ refl ]
    ∙ sym (hashed-same q k)

-- one message more that matches
match-more : (ms : List SubmittedMessage) (x : SubmittedMessage) → match_of (ms ++ x ∷ []) ≡ Some (match_with (match_of ms) x.place)
match-more [] x = refl
match-more (m ∷ []) x = refl
match-more (m ∷ n ∷ ms) x = refl

numbers-stay : (old new : List LinkKey) → NumbersStay old new → (m : Option LinkKey) (number : Option ℕ) → IsNumberOf old m number → IsNumberOf new m number
numbers-stay old new f None None h = h
numbers-stay old new f None (Some n) h = h
numbers-stay old new f (Some k) None h = h
numbers-stay old new f (Some k) (Some n) h = f k n h

pub numbers-later : (old new : List LinkKey) → NumbersStay old new → (ms : List SubmittedMessage) (numbers : List (Option ℕ))
    → AllZip (λ (m : SubmittedMessage) (n : Option ℕ). IsNumberOf old m.key n) ms numbers
    → AllZip (λ (m : SubmittedMessage) (n : Option ℕ). IsNumberOf new m.key n) ms numbers
numbers-later old new f ms numbers h =
    all-zip-weaker (λ (m : SubmittedMessage) (n : Option ℕ). IsNumberOf old m.key n) (λ (m : SubmittedMessage) (n : Option ℕ). IsNumberOf new m.key n)
    (λ m n. numbers-stay old new f m.key n) ms numbers h

pub submits-none : (kept : Groups) → kept.groups.items ≡ [] → kept.keys.keys.items ≡ [] → AreNumbered kept.keys → HasSubmits kept [] []
submits-none kept e keys numbered = record {
  grouped = record { numbered = numbered; lengths = ap length e ∙ sym (ap length keys) };
  groups = λ q. λ i. group_by (e i) (index_of q (keys i));
  numbers = tt;
}

module _ (submits : List SubmittedMessage) (i : ℕ) (x : SubmittedMessage) (h : i < length submits) (is : x ≡ get_or submits i x) where
  next : take (i + 1) submits ≡ take i submits ++ x ∷ []
  next = take_more submits i x h ∙ ap (λ (y : SubmittedMessage). take i submits ++ y ∷ []) (sym is)

  -- the messages up to one that are accepted with a key
  grown : (q : LinkKey) (a : Bool) → accepted_with q x ≡ a
      → accepted_among q (take (i + 1) submits) ≡ accepted_among q (take i submits) ++ cond a (x ∷ []) []
  grown q a w =
      ap (accepted_among q) next
      ∙ filter-append (accepted_with q) (take i submits) (x ∷ [])
      ∙ ap (λ (b : Bool). accepted_among q (take i submits) ++ cond b (x ∷ []) []) w

  -- what there is of a key, with a message that is accepted with it, or with another
  grouped_more : (q : LinkKey) (a : Bool) → accepted_with q x ≡ a
      → cond a (with_message x.place (group_of q (take i submits) [])) (group_of q (take i submits) []) ≡ group_of q (take (i + 1) submits) []
  grouped_more q true w = λ j. record {
    found = (sym (match-more (accepted_among q (take i submits)) x) ∙ ap match_of (sym (grown q true w))) j;
    decider = least_receipt (candidates q []);
  }
  grouped_more q false w = λ j. record {
    found = ap match_of (sym (grown q false w ∙ append-nil (accepted_among q (take i submits)))) j;
    decider = least_receipt (candidates q []);
  }

  numbered_more : (keys : List LinkKey) (numbers : List (Option ℕ)) (number : Option ℕ)
      → AllZip (λ (m : SubmittedMessage) (n : Option ℕ). IsNumberOf keys m.key n) (take i submits) numbers → IsNumberOf keys x.key number
      → AllZip (λ (m : SubmittedMessage) (n : Option ℕ). IsNumberOf keys m.key n) (take (i + 1) submits) (numbers ++ number ∷ [])
  numbered_more keys numbers number all so =
      subst (λ (ms : List SubmittedMessage). AllZip (λ (m : SubmittedMessage) (n : Option ℕ). IsNumberOf keys m.key n) ms (numbers ++ number ∷ [])) (sym next)
      (all_zipped_more (λ (m : SubmittedMessage) (n : Option ℕ). IsNumberOf keys m.key n) (take i submits) numbers x number all so)

  -- a message more that is accepted with a key
  pub submits-more : (k : LinkKey) (n : ℕ) (old new : Groups) (numbers : List (Option ℕ)) → Some k ≡ x.key → HasSubmits old (take i submits) numbers
      → Changes old new k n (with_message x.place) → HasSubmits new (take (i + 1) submits) (numbers ++ Some n ∷ [])
  submits-more k n old new numbers key so c = record {
    grouped = c.grouped;
    groups = λ q. c.at q ∙ ap (λ (g : Group). cond (is_key q k) (with_message x.place g) g) (so.groups q)
        ∙ grouped_more q (is_key q k) (by_key_alone q k x (sym key));
    numbers = numbered_more new.keys.keys.items numbers (Some n)
        (numbers-later old.keys.keys.items new.keys.keys.items c.stay (take i submits) numbers so.numbers)
        (subst (λ (o : Option LinkKey). IsNumberOf new.keys.keys.items o (Some n)) key c.number);
  }

  -- a message more that isn't accepted
  pub submits-same : (kept : Groups) (numbers : List (Option ℕ)) → None ≡ x.key → HasSubmits kept (take i submits) numbers
      → HasSubmits kept (take (i + 1) submits) (numbers ++ None ∷ [])
  submits-same kept numbers key so = record {
    grouped = so.grouped;
    groups = λ q. so.groups q ∙ grouped_more q false (ap (λ (o : Option LinkKey). list_any (same_key q) (option_to_list o)) (sym key));
    numbers = numbered_more kept.keys.keys.items numbers None so.numbers
        (subst (λ (o : Option LinkKey). IsNumberOf kept.keys.keys.items o None) key tt);
  }

-- ---- one more receipt

pub adds-none : (kept : Groups) → AreGrouped kept → AddsReceipts kept kept [] []
adds-none kept so = record { grouped = so; stay = λ q n h. h; groups = λ ms h. h; numbers = tt }

numbered-stay : (old new : List LinkKey) → NumbersStay old new → (e : KeyedReceipt) (r : NumberedReceipt) → IsNumberedReceipt old e r → IsNumberedReceipt new e r
numbered-stay old new f e r h = record { number = f e.0 r.number h.number; receipt = h.receipt; key = h.key }

-- what there is of a key, with one more receipt of a key
with_more : (q k : LinkKey) (ms : List SubmittedMessage) (es : List KeyedReceipt) (r : PlacedReceipt) (a b : Bool) → is_key q k ≡ a → can_decide r.receipt ≡ b
    → cond a (cond b (record { found = match_of (accepted_among q ms); decider = Some (decider_with (least_receipt (candidates q es)) r) }) (group_of q ms es)) (group_of q ms es)
    ≡ group_of q ms (es ++ (k, r) ∷ [])
with_more q k ms es r true true s d = λ i. record {
  found = match_of (accepted_among q ms);
  decider = (sym (least-last (candidates q es) r) ∙ ap least_receipt (sym (candidates-more q k es r (sym (hashed-same q k) ∙ s) d))) i;
}
with_more q k ms es r true false s d = λ i. record {
  found = match_of (accepted_among q ms);
  decider = ap least_receipt (sym (candidates-stay q k es r (ap (λ (b : Bool). same_key q k && b) d ∙ and_false (same_key q k)))) i;
}
  where
    and_false : (b : Bool) → (b && false) ≡ false
    and_false true = refl
    and_false false = refl
with_more q k ms es r false b s d = λ i. record {
  found = match_of (accepted_among q ms);
  decider = ap least_receipt (sym (candidates-stay q k es r (ap (λ (c : Bool). c && can_decide r.receipt) (sym (hashed-same q k) ∙ s)))) i;
}

pub adds-more : (old mid new : Groups) (es : List KeyedReceipt) (rs : List NumberedReceipt) (k : LinkKey) (x : NumberedReceipt)
    → AddsReceipts old mid es rs → Changes mid new k x.number (with_receipt x.receipt) → key_in x ≡ k
    → AddsReceipts old new (es ++ (k, x.receipt) ∷ []) (rs ++ x ∷ [])
adds-more old mid new es rs k x so c key = record {
  grouped = c.grouped;
  stay = λ q n h. c.stay q n (so.stay q n h);
  groups = λ ms h q. c.at q ∙ ap (λ (g : Group). cond (is_key q k) (with_receipt x.receipt g) g) (so.groups ms h q)
      ∙ with_more q k ms es x.receipt (is_key q k) (can_decide x.receipt.receipt) refl refl;
  numbers = all_zipped_more (IsNumberedReceipt new.keys.keys.items) es rs (k, x.receipt) x
      (all-zip-weaker (IsNumberedReceipt mid.keys.keys.items) (IsNumberedReceipt new.keys.keys.items)
      (numbered-stay mid.keys.keys.items new.keys.keys.items c.stay) es rs so.numbers)
      (record { number = c.number; receipt = refl; key = key });
}

-- ---- all by their numbers

has_group : (kept : Groups) (submits : List SubmittedMessage) (receipts : List KeyedReceipt) → HasGroups kept submits receipts
    → (key : Option LinkKey) (number : Option ℕ) → IsNumberOf kept.keys.keys.items key number → HasGroup kept.groups.items submits receipts key number
has_group kept submits receipts so None None h = h
has_group kept submits receipts so None (Some n) h = h
has_group kept submits receipts so (Some k) None h = h
has_group kept submits receipts so (Some k) (Some n) h = sym (ap (group_by kept.groups.items) h) ∙ so k

module _ (kept : Groups) (submits : List SubmittedMessage) (receipts : List KeyedReceipt) (so : HasGroups kept submits receipts) where
  pub messages-are : (ms : List SubmittedMessage) (numbers : List (Option ℕ))
      → AllZip (λ (m : SubmittedMessage) (number : Option ℕ). IsNumberOf kept.keys.keys.items m.key number) ms numbers
      → AreOfMessages kept.groups.items submits receipts ms numbers
  messages-are ms numbers h =
      all-zip-weaker (λ (m : SubmittedMessage) (number : Option ℕ). IsNumberOf kept.keys.keys.items m.key number)
      (λ (m : SubmittedMessage) (number : Option ℕ). HasGroup kept.groups.items submits receipts m.key number)
      (λ m number. has_group kept submits receipts so m.key number) ms numbers h

  pub receipts-are : (es : List KeyedReceipt) (rs : List NumberedReceipt) → AllZip (IsNumberedReceipt kept.keys.keys.items) es rs
      → AllZip (IsOfReceipt kept.groups.items submits receipts) es rs
  receipts-are es rs h =
      all-zip-weaker (IsNumberedReceipt kept.keys.keys.items) (IsOfReceipt kept.groups.items submits receipts)
      (λ e r it. record { group = sym (ap (group_by kept.groups.items) it.number) ∙ so e.0; receipt = it.receipt; key = it.key }) es rs h

-- a message has what is kept under the number at its place
pub message-at : (groups : List Group) (submits : List SubmittedMessage) (receipts : List KeyedReceipt) (ms : List SubmittedMessage) (numbers : List (Option ℕ)) (i : ℕ) (m : SubmittedMessage) (d : Option ℕ)
    → AreOfMessages groups submits receipts ms numbers → i < length ms → m ≡ get_or ms i m
    → HasGroup groups submits receipts m.key (get_or numbers i d)
message-at groups submits receipts [] [] i m d h w e = absurd (omega (arith, w))
message-at groups submits receipts [] (l ∷ ls) i m d h w e = elim h [ ]
message-at groups submits receipts (x ∷ xs) [] i m d h w e = elim h [ ]
message-at groups submits receipts (x ∷ xs) (l ∷ ls) zero m d h w e = subst (λ (y : SubmittedMessage). HasGroup groups submits receipts y.key l) (sym e) h.0
message-at groups submits receipts (x ∷ xs) (l ∷ ls) (suc i) m d h w e = message-at groups submits receipts xs ls i m d h.1 (omega (arith, w)) e

-- ---- whether it is one alone

not-one : (n : ℕ) (b : Bool) → (suc (suc n) == 1) ≡ b → b ≡ false
not-one n true e = absurd (let one = eqb-true (suc (suc n)) 1 e in omega (arith, one))
not-one n false e = refl

one-of : (ms : List SubmittedMessage) → (length ms == 1) ≡ (number_in (match_of ms) == 1)
one-of [] = refl
one-of (m ∷ []) = refl
one-of (m ∷ n ∷ ms) = not-one (length ms) _ refl ∙ sym (not-one 0 _ refl)

-- a key is single where one message matches it
pub single-kept : (submits : List SubmittedMessage) (key : LinkKey) → is_single submits key ≡ (number_in (match_of (accepted_among key submits)) == 1)
single-kept submits key = ap (λ k. k == 1) (sym (length-filter (accepted_with key) submits)) ∙ one-of (accepted_among key submits)

-- a message whose key has no number has no key
pub alone-shared : (groups : List Group) (submits : List SubmittedMessage) (receipts : List KeyedReceipt) (key : Option LinkKey)
    → HasGroup groups submits receipts key None → false ≡ is_shared (option_map (standing_of submits receipts) key)
alone-shared groups submits receipts None h = refl
alone-shared groups submits receipts (Some k) h = elim h [ ]

pub alone-decider : (groups : List Group) (submits : List SubmittedMessage) (receipts : List KeyedReceipt) (key : Option LinkKey)
    → HasGroup groups submits receipts key None → None ≡ decider_of submits receipts key
alone-decider groups submits receipts None h = refl
alone-decider groups submits receipts (Some k) h = elim h [ ]

-- what is kept under the number of a key says whether that is single
module _ (groups : List Group) (n : ℕ) (submits : List SubmittedMessage) (receipts : List KeyedReceipt) where
  single_at : (k : LinkKey) (b : Bool) → get_or groups n no_group ≡ group_of k submits receipts
      → (number_in (get_or groups n no_group).found == 1) ≡ b → is_single submits k ≡ b
  single_at k b h e = single-kept submits k ∙ ap (λ (g : Group). number_in g.found == 1) (sym h) ∙ e

  pub kept-shared : (key : Option LinkKey) (b : Bool) → HasGroup groups submits receipts key (Some n)
      → (number_in (get_or groups n no_group).found == 1) ≡ b → cond b false true ≡ is_shared (option_map (standing_of submits receipts) key)
  kept-shared None b h e = elim h [ ]
  kept-shared (Some k) true h e = rw (single_at k true h e) refl
  kept-shared (Some k) false h e = rw (single_at k false h e) refl

  pub kept-decider : (key : Option LinkKey) (b : Bool) → HasGroup groups submits receipts key (Some n)
      → (number_in (get_or groups n no_group).found == 1) ≡ b
      → cond b (get_or groups n no_group).decider None ≡ decider_of submits receipts key
  kept-decider None b h e = elim h [ ]
  kept-decider (Some k) true h e = rw (single_at k true h e) (ap (λ (g : Group). g.decider) h)
  kept-decider (Some k) false h e = rw (single_at k false h e) refl

-- ---- lines

-- the line by the messages that match, where they are said to be so many
abbrev line_with : List SubmittedMessage → ℕ → Option PlacedReceipt → LinkKey → PlacedReceipt → ReceiptLineValue
line_with ms n decider key r = record (line_by no_group key r) { standing = standing_by n decider r; message = only_place ms }

line-of : (ms : List SubmittedMessage) (decider : Option PlacedReceipt) (key : LinkKey) (r : PlacedReceipt)
    → line_by (record { found = match_of ms; decider = decider }) key r ≡ line_with ms (length ms) decider key r
line-of [] decider key r = refl
line-of (m ∷ []) decider key r = refl
line-of (m ∷ n ∷ ms) decider key r = refl

-- the lines that are made by what is kept are those of lists
pub lines-kept : (groups : List Group) (submits : List SubmittedMessage) (receipts es : List KeyedReceipt) (rs : List NumberedReceipt)
    → AllZip (IsOfReceipt groups submits receipts) es rs → lines_kept groups rs ≡ map (receipt_line submits receipts) es
lines-kept groups submits receipts [] [] h = refl
lines-kept groups submits receipts [] (r ∷ rs) h = elim h [ ]
lines-kept groups submits receipts (e ∷ es) [] h = elim h [ ]
lines-kept groups submits receipts (e ∷ es) (r ∷ rs) h =
    let ms = accepted_among e.0 submits in
    let decider = least_receipt (candidates e.0 receipts) in
    λ i. ((λ j. line_by (h.0.group j) (h.0.key j) (h.0.receipt j)) ∙ line-of ms decider e.0 e.1
    ∙ ap (λ n. line_with ms n decider e.0 e.1) (length-filter (accepted_with e.0) submits)) i
    ∷ lines-kept groups submits receipts es rs h.1 i
