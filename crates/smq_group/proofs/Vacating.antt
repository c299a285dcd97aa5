-- How many places of a key are vacant, as members come and go.
use Rattle.std.proofs.Common.{◌≡◌, ◌≤◌, ◌+◌, ℕ, arith, Bool, true, false, cond, List, [], ◌∷◌, ◌++◌, length, Option, Some, None, refl, ap, ◌∙◌, map, filter}
use Rattle.std.specs.Prelude.{◌&&◌, not, count_by, is_some}
use Rattle.std.specs.declared.cmp.Ordering.{Ordering}
use Rattle.std.specs.declared.cmp.Ordering.TheVariants.{Less, Equal, Greater}
use Rattle.std.specs.Ordering.{match_ordering}
use Rattle.std.specs.BTreeMap.{insert_entry}
use Rattle.std.proofs.lemmas.List.Sums.{sum_by-append, sum_by-cons}
use Rattle.smq_shelf.specs.Places.{places_of}
use Rattle.smq_kit.specs.declared.place.Place.{Place}
use Rattle.smq_kit.specs.declared.link_key.LinkKey.{LinkKey}
use Rattle.smq_kit.specs.LinkKeys.{same_key}
use Rattle.smq_group.specs.declared.member.Member.{Member}
use Rattle.smq_group.specs.declared.member.Candidate.{Candidate}
use Rattle.smq_group.specs.declared.member.ReceiptFacts.{ReceiptFacts}
use Rattle.smq_group.specs.declared.group_summary.Earliest.{Earliest}
use Rattle.smq_group.specs.within.KeyLaws.{one_member, one_candidate}
use Rattle.smq_group.specs.within.Orders.{kept_member_cmp, kept_candidate_cmp}
use Rattle.smq_group.specs.within.Stored.{member_of, with_waiting}
use Rattle.smq_group.specs.within.Walked.{candidate_at, candidate_key, member_key, vacant_keys, vacant_of}

-- ---- a list with one more in front, where a test passes

more_kept : {E : Type 0} (c : Bool) (x : E) (F G : List E) (n : ℕ) → length F ≤ length G + n → length (cond c (x ∷ F) F) ≤ length (cond c (x ∷ G) G) + n
more_kept true x F G n h = omega (arith, h)
more_kept false x F G n h = h

kept : {E : Type 0} (c : Bool) (x : E) (F : List E) → length F ≤ length (cond c (x ∷ F) F)
kept true x F = omega arith
kept false x F = omega arith

-- a member of the key whose value goes leaves one vacant place more
abbrev pub vacated : {V : Type 0} → Option V → Bool → ℕ
vacated None b = cond b 1 0
vacated (Some v) b = 0

put_first : {E V : Type 0} (b : Bool) (x : Option V) (e : E) (F : List E) → length (cond (b && not (is_some x)) (e ∷ F) F) ≡ length F + vacated x b
put_first true None e F = omega arith
put_first false None e F = omega arith
put_first _ _ e F = omega arith

module _ {K V : Type 0} (R : K → K → Ordering) (exact : (x y : K) → R x y ≡ Equal → x ≡ y) (key_of : K → LinkKey) (k : LinkKey) where
  abbrev counts : K × Option V → Bool
  counts e = same_key k (key_of e.0) && not (is_some e.1)

  -- a key that is given a value, or none
  pub vacant-put : (m : K) (x : Option V) (es : List (K × Option V)) → vacant_of key_of k (insert_entry R es m x) ≤ vacant_of key_of k es + vacated x (same_key k (key_of m))
  vacant-put m x [] = let n = put_first {E = K × Option V} (same_key k (key_of m)) x (m, x) [] in omega (arith, n)
  vacant-put m x (e ∷ es) =
      elim (R m e.0) as (λ r. R m e.0 ≡ r → vacant_of key_of k (match_ordering r ((m, x) ∷ e ∷ es) ((e.0, x) ∷ es) (e ∷ insert_entry R es m x)) ≤ vacant_of key_of k (e ∷ es) + vacated x (same_key k (key_of m))) [
        | Less ↦ λ r. (let n = put_first {E = K × Option V} (same_key k (key_of m)) x (m, x) (filter counts (e ∷ es)) in omega (arith, n))
        | Equal ↦ λ r. (let n = put_first {E = K × Option V} (same_key k (key_of e.0)) x (e.0, x) (filter counts es) in
            let h = kept (counts e) e (filter counts es) in
            let s = ap (λ (y : K). vacated x (same_key k (key_of y))) (exact m e.0 r) in
            omega (arith, n, h, s))
        | Greater ↦ λ r. more_kept (counts e) e (filter counts (insert_entry R es m x)) (filter counts es) (vacated x (same_key k (key_of m))) (vacant-put m x es)
      ] refl

module _ {K V : Type 0} (key_of : K → LinkKey) where
  none_vacant : (content : List (K × V)) → filter (λ (e : K × Option V). not (is_some e.1)) (places_of content) ≡ []
  none_vacant [] = refl
  none_vacant (e ∷ es) = none_vacant es

  -- where each place has a value, none is vacant
  pub keys-none : (es : List (K × Option V)) (content : List (K × V)) → es ≡ places_of content → vacant_keys key_of es ≡ []
  keys-none es content is =
      ap (λ (fs : List (K × Option V)). map (λ (e : K × Option V). key_of e.0) (filter (λ e. not (is_some e.1)) fs)) is
      ∙ ap (map (λ (e : K × Option V). key_of e.0)) (none_vacant content)

  keys_at : (p : LinkKey → Bool) (m : K) (x : Option V) (es : List (K × Option V)) → count_by p (vacant_keys key_of es) ≡ length (filter (λ e. p (key_of e.0) && not (is_some e.1)) es)
      → count_by p (vacant_keys key_of ((m, x) ∷ es)) ≡ length (filter (λ (e : K × Option V). p (key_of e.0) && not (is_some e.1)) ((m, x) ∷ es))
  keys_at p m None es h =
      let n = put_first {E = K × Option V} {V = V} (p (key_of m)) None (m, None) (filter (λ e. p (key_of e.0) && not (is_some e.1)) es) in
      let s = sum_by-cons (λ y. cond (p y) 1 0) (key_of m) (vacant_keys key_of es) in
      omega (arith, n, s, h)
  keys_at p m (Some v) es h = let n = put_first {E = K × Option V} (p (key_of m)) (Some v) (m, Some v) (filter (λ e. p (key_of e.0) && not (is_some e.1)) es) in omega (arith, n, h)

  pub keys-counted : (p : LinkKey → Bool) (es : List (K × Option V)) → count_by p (vacant_keys key_of es) ≡ length (filter (λ e. p (key_of e.0) && not (is_some e.1)) es)
  keys-counted p [] = refl
  keys-counted p (e ∷ es) = keys_at p e.0 e.1 es (keys-counted p es)

-- the vacant places of a key in three maps
pub counted-vacant : (k : LinkKey) (s : List (Member × Option Bool)) (r : List (Member × Option ReceiptFacts)) (i : List (Candidate × Option Bool))
    → count_by (same_key k) (vacant_keys member_key s ++ (vacant_keys member_key r ++ vacant_keys candidate_key i))
    ≡ vacant_of member_key k s + (vacant_of member_key k r + vacant_of candidate_key k i)
counted-vacant k s r i =
    let all = sum_by-append (λ x. cond (same_key k x) 1 0) (vacant_keys member_key s) (vacant_keys member_key r ++ vacant_keys candidate_key i) in
    let rest = sum_by-append (λ x. cond (same_key k x) 1 0) (vacant_keys member_key r) (vacant_keys candidate_key i) in
    let a = keys-counted member_key (same_key k) s in
    let b = keys-counted member_key (same_key k) r in
    let c = keys-counted candidate_key (same_key k) i in
    omega (arith, all, rest, a, b, c)

-- ---- in each map, at a member of a key

pub at_most_one : (b : Bool) → cond b 1 0 ≤ 1
at_most_one true = omega arith
at_most_one false = omega arith

pub twice : (b : Bool) → cond b 2 0 ≡ cond b 1 0 + cond b 1 0
twice true = refl
twice false = refl

module _ (key k : LinkKey) (place : Place) where
  pub member-put : {V : Type 0} (x : Option V) (old new : List (Member × Option V)) → new ≡ insert_entry kept_member_cmp old (member_of key place) x
      → vacant_of member_key k new ≤ vacant_of member_key k old + vacated x (same_key k key)
  member-put x old new e =
      let h = vacant-put kept_member_cmp one_member member_key k (member_of key place) x old in
      let same = ap (vacant_of member_key k) e in
      omega (arith, h, same)

  pub candidate-put : (w : Option Earliest) (x : Option Bool) (old new : List (Candidate × Option Bool)) → new ≡ with_waiting key w x old
      → vacant_of candidate_key k new ≤ vacant_of candidate_key k old + vacated x (same_key k key)
  candidate-put None x old new e = let same = ap (vacant_of candidate_key k) e in omega (arith, same)
  candidate-put (Some w) x old new e =
      let h = vacant-put kept_candidate_cmp one_candidate candidate_key k (candidate_at key w) x old in
      let same = ap (vacant_of candidate_key k) e in
      omega (arith, h, same)
