-- What is known of reports, as one more row of them is seen.
use Rattle.std.proofs.Common.{◌≡◌, ◌≢◌, ◌∙◌, ◌⊎◌, ℕ, zero, suc, ◌+◌, Bool, true, false, cond, List, [], ◌∷◌, ◌++◌, map, length, take, refl, sym, ap, subst, append_assoc, append-nil, arith, rules, inl, inr, slice_get}
use Rattle.std.specs.Prelude.{Option, None, Some}
use Rattle.std.proofs.lemmas.Cmp.{tied_itself}
use Rattle.std.proofs.lemmas.List.{length-append}
use Rattle.std.specs.List.{AllByRecursion}
use Rattle.std.specs.BTreeMap.{insert_entry, is_at}
use Rattle.std.specs.Map.{lookup}
use Rattle.std.specs.Option.{is_some}
use Rattle.std.specs.Bool.{Decides}
use Rattle.std.specs.Cmp.{IsTotalOrder}
use Rattle.std.specs.FinMap.{IsAntisymmetric}
use Rattle.std.specs.declared.cmp.Ordering.{Ordering}
use Rattle.std.specs.declared.cmp.Ordering.TheVariants.{Less, Equal, Greater}
use Rattle.std.specs.Ordering.{is_eq, match_ordering}
use Rattle.smq_report.specs.declared.pick.Section.{Section}
use Rattle.smq_report.specs.declared.pick.Section.TheVariants as section
use Rattle.smq_report.specs.Equal.{sections_eq}
use Rattle.smq_tally.specs.within.Keys.{in_lists, views}
use Rattle.smq_add.specs.contracts.checks.OwnerOrd.TheImpl as owner_ord
use Rattle.smq_add.specs.contracts.checks.OwnerOrd.TheImpl.Laws as owner_laws
use Rattle.smq_add.specs.contracts.checks.OwnerPartialEq.TheImpl as owner_eq
use Rattle.smq_add.specs.declared.apart.Checks.{Checks}
use Rattle.smq_tally.specs.declared.view.View.TheVariants as view
use Rattle.smq_add.specs.declared.checks.Owner.{Owner}
use Rattle.smq_add.specs.declared.checks.Owner.TheVariants.{Link, Session}
use Rattle.smq_add.specs.declared.owners.Owners.{Owners}
use Rattle.smq_add.specs.declared.owners.Shared.{Shared}
use Rattle.smq_add.specs.declared.row.Row.{Row}
use Rattle.smq_add.specs.declared.sections.Sections.{Sections}
use Rattle.smq_add.specs.Apart.{AreOne, IsAmong, IsPart, IsShared, Knows, KnowsOwners, KnowsSections, MayAdd, Saw, numbered, owners_from, owners_in, report_of, sections_of}
use Rattle.smq_add.specs.Checks.{is_whole, owner_of, section_of}

-- ---- what is equal

pub sections-decided : (a b : Section) → Decides (sections_eq a b) (a ≡ b)
sections-decided (section.View a) (section.View b) = search (rules, views)
sections-decided (section.View a) (section.List b) = search rules
sections-decided (section.List a) (section.View b) = search rules
sections-decided (section.List a) (section.List b) = search (rules, in_lists)

owners : (a b : Owner) → Decides (owner_eq.ghosts.eq a b) (a ≡ b)
owners (Link a) (Link b) = search rules
owners (Link a) (Session b) = search rules
owners (Session a) (Link b) = search rules
owners (Session a) (Session b) = search rules

pub owners_exact : IsAntisymmetric owner_ord.ghosts.cmp
owners_exact a b e = (owners a b).0 (owner_laws.matches_eq-law a b ∙ ap is_eq e)

pub owners_total : IsTotalOrder owner_ord.ghosts.cmp
owners_total = owner_laws.total-law

-- ---- lists

pub among-left : {A : Type 0} (x : A) (xs ys : List A) → IsAmong x xs → IsAmong x (xs ++ ys)
among-left x [] ys h = absurd h
among-left x (z ∷ zs) ys (inl e) = inl e
among-left x (z ∷ zs) ys (inr h) = inr (among-left x zs ys h)

pub among-last : {A : Type 0} (x : A) (xs : List A) → IsAmong x (xs ++ x ∷ [])
among-last x [] = inl refl
among-last x (z ∷ zs) = inr (among-last x zs)

pub among-more : {A : Type 0} (x y : A) (xs : List A) → IsAmong x (xs ++ y ∷ []) → IsAmong x xs ⊎ (y ≡ x)
among-more x y [] (inl e) = inr e
among-more x y [] (inr h) = absurd h
among-more x y (z ∷ zs) (inl e) = inl (inl e)
among-more x y (z ∷ zs) (inr h) = elim (among-more x y zs h) [ inl a ↦ inl (inr a) | inr e ↦ inr e ]

pub all-left : {A : Type 0} (P : A → Type 0) (xs : List A) (y : A) → AllByRecursion P (xs ++ y ∷ []) → AllByRecursion P xs
all-left P [] y h = tt
all-left P (z ∷ zs) y h = (h.0, all-left P zs y h.1)

pub all-last : {A : Type 0} (P : A → Type 0) (xs : List A) (y : A) → AllByRecursion P (xs ++ y ∷ []) → P y
all-last P [] y h = h.0
all-last P (z ∷ zs) y h = all-last P zs y h.1

pub all-more : {A : Type 0} (P : A → Type 0) (xs : List A) (y : A) → AllByRecursion P xs → P y → AllByRecursion P (xs ++ y ∷ [])
all-more P [] y h p = (p, tt)
all-more P (z ∷ zs) y h p = (h.0, all-more P zs y h.1 p)

pub all-among : {A : Type 0} (P : A → Type 0) (x : A) (xs : List A) → AllByRecursion P xs → IsAmong x xs → P x
all-among P x [] h a = absurd a
all-among P x (z ∷ zs) h (inl e) = subst P e h.0
all-among P x (z ∷ zs) h (inr a) = all-among P x zs h.1 a

pub none-more : {A : Type 0} (xs : List A) (y : A) → xs ++ y ∷ [] ≡ [] → ⊥
none-more [] y e = absurd (cc)
none-more (x ∷ xs) y e = absurd (cc)

-- ---- sections

pub sections-more : (reports : List (List Row)) (rows : List Row)
    → sections_of (reports ++ rows ∷ []) ≡ sections_of reports ++ map (λ (row : Row). section_of row.key) rows
sections-more [] rows = append-nil (map (λ (row : Row). section_of row.key) rows)
sections-more (r ∷ rs) rows =
    ap (λ (l : List Section). map (λ (row : Row). section_of row.key) r ++ l) (sections-more rs rows)
    ∙ sym (append_assoc (map (λ (row : Row). section_of row.key) r) (sections_of rs) (map (λ (row : Row). section_of row.key) rows))

pub owners-more : (n : ℕ) (reports : List (List Row)) (rows : List Row)
    → owners_from n (reports ++ rows ∷ []) ≡ owners_from n reports ++ owners_in (n + length reports) rows
owners-more n [] rows = append-nil (owners_in n rows) ∙ ap (λ (m : ℕ). owners_in m rows) (omega arith)
owners-more n (r ∷ rs) rows =
    ap (λ (l : List (Owner × ℕ)). owners_in n r ++ l)
    (owners-more (n + 1) rs rows ∙ ap (λ (m : ℕ). owners_from (n + 1) rs ++ owners_in m rows) (omega arith))
    ∙ sym (append_assoc (owners_in n r) (owners_from (n + 1) rs) (owners_in (n + suc (length rs)) rows))

-- one more of the same section
pub knows-same : (seen : List Section) (s : Sections) (one section : Section) → KnowsSections seen s → s.first ≡ Some one → one ≡ section
    → KnowsSections (seen ++ section ∷ []) s
knows-same seen s one section k is e = record {
  none = λ none. absurd (cc);
  first = λ other o. among-left other seen (section ∷ []) (k.first other o);
  same = λ no other o. all-more (λ x. x ≡ other) seen section (k.same no other o) (let it = is in let at = o in cc);
  more = λ yes alike. k.more yes (alike.0, all-left (λ x. x ≡ alike.0) seen section alike.1);
}

-- one more of another
pub knows-other : (seen : List Section) (s : Sections) (one section : Section) → KnowsSections seen s → s.first ≡ Some one → (one ≡ section → ⊥)
    → KnowsSections (seen ++ section ∷ []) (record s { has_more = true })
knows-other seen s one section k is differs = record {
  none = λ none. absurd (cc);
  first = λ other o. among-left other seen (section ∷ []) (k.first other o);
  same = λ no other o. absurd (cc);
  more = λ yes alike.
      differs
      (all-among (λ x. x ≡ alike.0) one seen (all-left (λ x. x ≡ alike.0) seen section alike.1) (k.first one is)
      ∙ sym (all-last (λ x. x ≡ alike.0) seen section alike.1));
}

-- the first
pub knows-first : (seen : List Section) (s : Sections) (section : Section) → KnowsSections seen s → s.first ≡ None
    → KnowsSections (seen ++ section ∷ []) (record s { first = Some section })
knows-first seen s section k is =
    subst (λ (l : List Section). KnowsSections (l ++ section ∷ []) (record s { first = Some section })) (sym (k.none is)) (record {
      none = λ none. absurd (cc);
      first = λ other o. inl (cc);
      same = λ no other o. (cc, tt);
      more = λ yes alike. k.more yes (subst (λ (l : List Section). AreOne l) (sym (k.none is)) (section, tt));
    })

-- ---- what a map has at a key, as one is put in

module _ {K : Type 0} {R : K → K → Ordering} (o : IsTotalOrder R) (exact : IsAntisymmetric R) where
  at-itself : (k : K) → is_eq (R k k) ≡ true
  at-itself k = ap is_eq (tied_itself o k)

  pub looks-new : (es : List (K × ℕ)) (k : K) (v : ℕ) → lookup (is_at (R k)) (insert_entry R es k v) ≡ Some v
  looks-new [] k v = ap (λ (b : Bool). cond b (Some v) None) (at-itself k)
  looks-new (e ∷ es) k v = by (looks-new es k v) (R k e.0) refl
    where
      by : lookup (is_at (R k)) (insert_entry R es k v) ≡ Some v → (r : Ordering) → R k e.0 ≡ r
          → lookup (is_at (R k)) (match_ordering r ((k, v) ∷ e ∷ es) ((e.0, v) ∷ es) (e ∷ insert_entry R es k v)) ≡ Some v
      by later Less is = ap (λ (b : Bool). cond b (Some v) (lookup (is_at (R k)) (e ∷ es))) (at-itself k)
      by later Equal is = ap (λ (r : Ordering). cond (is_eq r) (Some v) (lookup (is_at (R k)) es)) is
      by later Greater is = ap (λ (r : Ordering). cond (is_eq r) (Some e.1) (lookup (is_at (R k)) (insert_entry R es k v))) is ∙ later

  untied : (k q : K) → (q ≡ k → ⊥) → is_eq (R q k) ≡ false
  untied k q other = by (R q k) refl
    where
      by : (r : Ordering) → R q k ≡ r → is_eq r ≡ false
      by Less is = refl
      by Equal is = absurd (other (exact q k is))
      by Greater is = refl

  pub looks-old : (es : List (K × ℕ)) (k q : K) (v : ℕ) → (q ≡ k → ⊥)
      → lookup (is_at (R q)) (insert_entry R es k v) ≡ lookup (is_at (R q)) es
  looks-old [] k q v other = ap (λ (b : Bool). cond b (Some v) None) (untied k q other)
  looks-old (e ∷ es) k q v other = by (untied k q other) (looks-old es k q v other) (R k e.0) refl
    where
      by : is_eq (R q k) ≡ false → lookup (is_at (R q)) (insert_entry R es k v) ≡ lookup (is_at (R q)) es → (r : Ordering) → R k e.0 ≡ r
          → lookup (is_at (R q)) (match_ordering r ((k, v) ∷ e ∷ es) ((e.0, v) ∷ es) (e ∷ insert_entry R es k v))
          ≡ lookup (is_at (R q)) (e ∷ es)
      by apart later Less is = ap (λ (b : Bool). cond b (Some v) (lookup (is_at (R q)) (e ∷ es))) apart
      by apart later Equal is =
          let same : k ≡ e.0 = exact k e.0 is in
          let off : is_eq (R q e.0) ≡ false = subst (λ (x : K). is_eq (R q x) ≡ false) same apart in
          ap (λ (b : Bool). cond b (Some v) (lookup (is_at (R q)) es)) off
          ∙ sym (ap (λ (b : Bool). cond b (Some e.1) (lookup (is_at (R q)) es)) off)
      by apart later Greater is = ap (λ (x : Option ℕ). cond (is_eq (R q e.0)) (Some e.1) x) later

-- ---- owners

pub shared-more : (seen : List (Owner × ℕ)) (x : Owner × ℕ) (s : Shared) → IsShared seen s → IsShared (seen ++ x ∷ []) s
shared-more seen x s h = (h.0, among-left (s.owner, s.first) seen (x ∷ []) h.1, among-left (s.owner, s.second) seen (x ∷ []) h.2)

pub known-again : (seen : List (Owner × ℕ)) (o : Owners) (owner : Owner) (number : ℕ) → KnowsOwners seen o → report_of o owner ≡ Some number
    → KnowsOwners (seen ++ (owner, number) ∷ []) o
known-again seen o owner number k is = record {
  known = λ other n e. among-left (other, n) seen ((owner, number) ∷ []) (k.known other n e);
  only = λ none other n h. elim (among-more (other, n) (owner, number) seen h) [
    | inl a ↦ k.only none other n a
    | inr e ↦ ap (λ (x : Owner × ℕ). report_of o x.0) (sym e) ∙ is ∙ ap (λ (x : Owner × ℕ). Some x.1) e
  ];
  shared = λ s e. shared-more seen (owner, number) s (k.shared s e);
}

set-already : (s : Option Shared) → is_some s ≡ true → s ≡ None → ⊥
set-already None some none = absurd (cc)
set-already (Some s) some none = absurd (cc)

-- one that a report before has, where one that two have is known
pub known-shared : (seen : List (Owner × ℕ)) (o : Owners) (owner : Owner) (second : ℕ) → KnowsOwners seen o
    → is_some o.shared ≡ true → KnowsOwners (seen ++ (owner, second) ∷ []) o
known-shared seen o owner second k some = record {
  known = λ other n e. among-left (other, n) seen ((owner, second) ∷ []) (k.known other n e);
  only = λ none other n h. absurd (set-already o.shared some none);
  shared = λ s e. shared-more seen (owner, second) s (k.shared s e);
}

pub known-two : (seen : List (Owner × ℕ)) (o : Owners) (owner : Owner) (first second : ℕ) → KnowsOwners seen o
    → report_of o owner ≡ Some first → first ≢ second
    → KnowsOwners (seen ++ (owner, second) ∷ []) (record o { shared = Some (record { owner = owner; first = first; second = second }) })
known-two seen o owner first second k is differs = record {
  known = λ other n e. among-left (other, n) seen ((owner, second) ∷ []) (k.known other n e);
  only = λ none other n h. absurd (cc);
  shared = λ s e. subst (λ (x : Shared). IsShared (seen ++ (owner, second) ∷ []) x) (cc) (
    differs,
    among-left (owner, first) seen ((owner, second) ∷ []) (k.known owner first is),
    among-last (owner, second) seen,
  );
}

-- one that no report before has
pub known-new : (seen : List (Owner × ℕ)) (o : Owners) (owner : Owner) (number : ℕ) (then : Owners) → KnowsOwners seen o
    → report_of o owner ≡ None → then.reports.entries ≡ insert_entry owner_ord.ghosts.cmp o.reports.entries owner number
    → then.shared ≡ o.shared → KnowsOwners (seen ++ (owner, number) ∷ []) then
known-new seen o owner number then k none entries shared = record {
  known = λ other n e. by-known other n e (decided other owner);
  only = λ clear other n h. elim (among-more (other, n) (owner, number) seen h) [
    | inl a ↦ let was = k.only (sym shared ∙ clear) other n a in old other (λ e. let gone = subst (λ (x : Owner). report_of o x ≡ None) (sym e) none in absurd (cc)) ∙ was
    | inr e ↦ ap (λ (x : Owner × ℕ). report_of then x.0) (sym e) ∙ new ∙ ap (λ (x : Owner × ℕ). Some x.1) e
  ];
  shared = λ s e. shared-more seen (owner, number) s (k.shared s (sym shared ∙ e));
}
  where
    new : report_of then owner ≡ Some number
    new =
        ap (λ (es : List (Owner × ℕ)). lookup (is_at (owner_ord.ghosts.cmp owner)) es) entries
        ∙ looks-new owners_total owners_exact o.reports.entries owner number

    old : (q : Owner) → (q ≡ owner → ⊥) → report_of then q ≡ report_of o q
    old q other =
        ap (λ (es : List (Owner × ℕ)). lookup (is_at (owner_ord.ghosts.cmp q)) es) entries
        ∙ looks-old owners_total owners_exact o.reports.entries owner q number other

    decided : (a b : Owner) → (a ≡ b) ⊎ (a ≡ b → ⊥)
    decided a b = by (owner_eq.ghosts.eq a b) refl
      where
        by : (r : Bool) → owner_eq.ghosts.eq a b ≡ r → (a ≡ b) ⊎ (a ≡ b → ⊥)
        by true is = inl ((owners a b).0 is)
        by false is = inr (λ e. let yes = (owners a b).1 e in absurd (cc))

    by-known : (other : Owner) (n : ℕ) → report_of then other ≡ Some n → (other ≡ owner) ⊎ (other ≡ owner → ⊥)
        → IsAmong (other, n) (seen ++ (owner, number) ∷ [])
    by-known other n e (inl same) =
        let at = subst (λ (x : Owner). report_of then x ≡ Some n) same e in
        subst (λ (x : Owner × ℕ). IsAmong x (seen ++ (owner, number) ∷ [])) (let is = new in let s = same in cc)
        (among-last (owner, number) seen)
    by-known other n e (inr differs) = among-left (other, n) seen ((owner, number) ∷ []) (k.known other n (sym (old other differs) ∙ e))

-- ---- reports

pub get-more : (reports : List (List Row)) (rows r : List Row) (n : ℕ) → slice_get reports n ≡ Some r
    → slice_get (reports ++ rows ∷ []) n ≡ Some r
get-more [] rows r n e = absurd (cc)
get-more (x ∷ xs) rows r zero e = e
get-more (x ∷ xs) rows r (suc n) e = get-more xs rows r n e

pub get-last : (reports : List (List Row)) (rows : List Row) → slice_get (reports ++ rows ∷ []) (length reports) ≡ Some rows
get-last [] rows = refl
get-last (x ∷ xs) rows = get-last xs rows

pub part-more : (reports : List (List Row)) (rows : List Row) (n : ℕ) → IsPart reports n → IsPart (reports ++ rows ∷ []) n
part-more reports rows n h = (h.0, get-more reports rows h.0 n h.1, h.2)

-- one more is seen, of which it is known whether it is whole
pub whole-seen : (of_periods : Bool) (reports : List (List Row)) (rows : List Row) (sections : List Section) (owned : List (Owner × ℕ)) (c : Checks)
    → Knows of_periods (length reports) reports sections owned c → (is_whole rows ≡ true) ⊎ (is_some c.part ≡ true)
    → Knows of_periods (length reports) (reports ++ rows ∷ []) sections owned c
whole-seen of_periods reports rows sections owned c k (inl whole) = record {
  kind = k.kind;
  number = k.number;
  all = λ none. all-more (λ (r : List Row). is_whole r ≡ true) reports rows (k.all none) whole;
  part = λ n e. part-more reports rows n (k.part n e);
  sections_are = k.sections_are;
  owners_are = k.owners_are;
  none = k.none;
}
whole-seen of_periods reports rows sections owned c k (inr some) = record {
  kind = k.kind;
  number = k.number;
  all = λ none. absurd (number-already c.part some none);
  part = λ n e. part-more reports rows n (k.part n e);
  sections_are = k.sections_are;
  owners_are = k.owners_are;
  none = k.none;
}
  where
    number-already : (s : Option ℕ) → is_some s ≡ true → s ≡ None → ⊥
    number-already None some none = absurd (cc)
    number-already (Some s) some none = absurd (cc)

pub first-part : (of_periods : Bool) (reports : List (List Row)) (rows : List Row) (sections : List Section) (owned : List (Owner × ℕ)) (c : Checks)
    → Knows of_periods (length reports) reports sections owned c → is_whole rows ≡ false
    → Knows of_periods (length reports) (reports ++ rows ∷ []) sections owned (record c { part = Some c.reports })
first-part of_periods reports rows sections owned c k isnt = record {
  kind = k.kind;
  number = k.number;
  all = λ none. absurd (cc);
  part = λ n e. (rows, subst (λ (m : ℕ). slice_get (reports ++ rows ∷ []) m ≡ Some rows) (let at = k.number in cc) (get-last reports rows), isnt);
  sections_are = k.sections_are;
  owners_are = k.owners_are;
  none = k.none;
}

-- why reports can't be added
pub told-shared : (of_periods : Bool) (reports : List (List Row)) (c : Checks) (s : Shared) → Saw of_periods reports c → c.owners.shared ≡ Some s
    → (of_periods ≡ false) × IsShared (owners_from 0 reports) s
told-shared true reports c s k e = let none = k.none refl in absurd (cc)
told-shared false reports c s k e = (refl, (k.owners_are refl).shared s e)

pub may-add : (of_periods : Bool) (reports : List (List Row)) (c : Checks) → Saw of_periods reports c → c.owners.shared ≡ None
    → (c.part ≡ None) ⊎ (c.sections.has_more ≡ false) → MayAdd of_periods reports
may-add of_periods reports c k none parts = record {
  parts = elim parts [ inl whole ↦ inl (k.all whole) | inr one ↦ inr (alike c.sections.first refl one) ];
  owners = λ links owner one other a b.
      let first = (k.owners_are links).only none owner one a in let second = (k.owners_are links).only none owner other b in cc;
}
  where
    alike : (first : Option Section) → c.sections.first ≡ first → c.sections.has_more ≡ false → AreOne (sections_of reports)
    alike None e one = subst (λ (l : List Section). AreOne l) (sym (k.sections_are.none e)) (section.View view.Link, tt)
    alike (Some s) e one = (s, k.sections_are.same one s e)

-- ---- rows of the next report, one by one

take-suc : (xs : List Row) (i : ℕ) (x : Row) → slice_get xs i ≡ Some x → take (suc i) xs ≡ take i xs ++ x ∷ []
take-suc [] i x e = absurd (cc)
take-suc (y ∷ ys) zero x e = let same : y ≡ x = search rules in ap (λ (z : Row). z ∷ []) same
take-suc (y ∷ ys) (suc i) x e = ap (λ (l : List Row). y ∷ l) (take-suc ys i x e)

take-more : (xs : List Row) (i : ℕ) (x : Row) → slice_get xs i ≡ Some x → take (i + 1) xs ≡ take i xs ++ x ∷ []
take-more xs i x e = ap (λ (n : ℕ). take n xs) one ∙ take-suc xs i x e
  where
    one : i + 1 ≡ suc i
    one = omega arith

map-more : (rows : List Row) (row : Row)
    → map (λ (r : Row). section_of r.key) (rows ++ row ∷ []) ≡ map (λ (r : Row). section_of r.key) rows ++ section_of row.key ∷ []
map-more [] row = refl
map-more (r ∷ rs) row = ap (λ (l : List Section). section_of r.key ∷ l) (map-more rs row)

owned-more : (n : ℕ) (rows : List Row) (row : Row) → owners_in n (rows ++ row ∷ []) ≡ owners_in n rows ++ numbered n (owner_of row.key)
owned-more n [] row = append-nil (numbered n (owner_of row.key))
owned-more n (r ∷ rs) row =
    ap (λ (l : List (Owner × ℕ)). numbered n (owner_of r.key) ++ l) (owned-more n rs row)
    ∙ sym (append_assoc (numbered n (owner_of r.key)) (owners_in n rs) (numbered n (owner_of row.key)))

-- what is known with a row more
pub knows-row : (of_periods : Bool) (n : ℕ) (whole : List (List Row)) (sections : List Section) (owned : List (Owner × ℕ)) (rows : List Row)
    (i : ℕ) (row : Row) (c : Checks) → slice_get rows i ≡ Some row
    → Knows of_periods n whole ((sections ++ map (λ (r : Row). section_of r.key) (take i rows)) ++ section_of row.key ∷ [])
    ((owned ++ owners_in n (take i rows)) ++ numbered n (owner_of row.key)) c
    → Knows of_periods n whole (sections ++ map (λ (r : Row). section_of r.key) (take (i + 1) rows))
    (owned ++ owners_in n (take (i + 1) rows)) c
knows-row of_periods n whole sections owned rows i row c at k =
    subst (λ (l : List Row). Knows of_periods n whole (sections ++ map (λ (r : Row). section_of r.key) l) (owned ++ owners_in n l) c)
    (sym (take-more rows i row at))
    (subst (λ (l : List Section). Knows of_periods n whole l (owned ++ owners_in n (take i rows ++ row ∷ [])) c)
    (append_assoc sections (map (λ (r : Row). section_of r.key) (take i rows)) (section_of row.key ∷ [])
    ∙ ap (λ (l : List Section). sections ++ l) (sym (map-more (take i rows) row)))
    (subst (λ (l : List (Owner × ℕ)). Knows of_periods n whole ((sections ++ map (λ (r : Row). section_of r.key) (take i rows)) ++ section_of row.key ∷ []) l c)
    (append_assoc owned (owners_in n (take i rows)) (numbered n (owner_of row.key))
    ∙ ap (λ (l : List (Owner × ℕ)). owned ++ l) (sym (owned-more n (take i rows) row))) k))

-- nothing of the next report was seen; and all of it was
pub knows-none : (of_periods : Bool) (n : ℕ) (whole : List (List Row)) (sections : List Section) (owned : List (Owner × ℕ)) (c : Checks)
    → Knows of_periods n whole sections owned c → Knows of_periods n whole (sections ++ []) (owned ++ []) c
knows-none of_periods n whole sections owned c k =
    subst (λ (l : List Section). Knows of_periods n whole l (owned ++ []) c) (sym (append-nil sections))
    (subst (λ (l : List (Owner × ℕ)). Knows of_periods n whole sections l c) (sym (append-nil owned)) k)

pub saw-more : (of_periods : Bool) (reports : List (List Row)) (rows : List Row) (c : Checks) (number : ℕ) → number ≡ length reports + 1
    → Knows of_periods (length reports) (reports ++ rows ∷ []) (sections_of reports ++ map (λ (r : Row). section_of r.key) rows)
    (owners_from 0 reports ++ owners_in (length reports) rows) c
    → Saw of_periods (reports ++ rows ∷ []) (record c { reports = number })
saw-more of_periods reports rows c number is k = record {
  kind = k.kind;
  number = is ∙ sym (length-append reports (rows ∷ []));
  all = k.all;
  part = k.part;
  sections_are = subst (λ (l : List Section). KnowsSections l c.sections) (sym (sections-more reports rows)) k.sections_are;
  owners_are = λ links. subst (λ (l : List (Owner × ℕ)). KnowsOwners l c.owners) (sym (owners-more 0 reports rows ∙ ap (λ (n : ℕ). owners_from 0 reports ++ owners_in n rows) first)) (k.owners_are links);
  none = k.none;
}
  where
    first : 0 + length reports ≡ length reports
    first = omega arith
