-- Versions that are changed in a map.
use Rattle.std.proofs.Common.{◌≡◌, ℕ, cond, List, Option, Some, None, Result, Ok, Err, subst, refl, sym, ap, ◌∙◌}
use Rattle.std.proofs.Common.{◌≢◌, Bool, true, false}
use Rattle.std.specs.Ordering.{eq_by_cmp, is_eq}
use Rattle.std.specs.Cmp.{tied_itself}
use Rattle.std.specs.FinMap.{get-insert}
use Rattle.smq_route.specs.Versions.{version_cmp}
use Rattle.smq_route.proofs.VersionOrders.{versions_total, versions_exact}
use Rattle.smq_kit.proofs.Comparisons.{is_equal}
use Rattle.std.specs.BTreeMap.{is_at}
use Rattle.std.specs.FinMap.{get, insert}
use Rattle.std.specs.Map.{lookup}
use Rattle.smq_kit.specs.declared.refusal.Refusal.{Refusal}
use Rattle.smq_route.specs.declared.version.VersionKey.{VersionKey}
use Rattle.smq_route.specs.declared.version.Version.{Version}
use Rattle.std.specs.Prelude.{MatchResult}
use Rattle.smq_kit.specs.declared.refusal.Refusal.TheVariants.{Memory}
use Rattle.smq_kit.specs.Replies.{IsReply, IsReplyInPlace, first_of}
use Rattle.smq_route.specs.Versions.{Versions, key_at, version_of}
use Rattle.smq_route.specs.within.Kept.{kept_version_cmp}
use Rattle.smq_route.specs.Edits.{changed, changed_where}
use Rattle.smq_route.proofs.Lookups.{seen, get-seen}

-- what holds of versions, and of those that are made where none refuses, holds of those that a call leaves
pub reply-keeps : {T : Type 0} (P : Versions → Type 0) (o : Option Refusal) (r : Result T Refusal) (m n x : Versions) → P m → (o ≡ None → P x)
    → IsReply o r (n ≡ x) (n ≡ m) → P n
reply-keeps P None (Ok t) m n x old made h = subst P (sym h) (made refl)
reply-keeps P None (Err e) m n x old made h = subst P (sym h.1) old
reply-keeps P (Some q) (Ok t) m n x old made h = absurd h
reply-keeps P (Some q) (Err e) m n x old made h = subst P (sym h.1) old

-- a version is put in, or finds no memory
abbrev pub Puts : {T : Type 0} → Versions → Versions → List ℕ → ℕ → Version → Result T Refusal → Type 0
Puts old new p f v r = MatchResult r (λ _. new ≡ insert old (key_at p f) v) (λ e. (e ≡ Memory) × (new ≡ old))

reply-put : {T U : Type 0} (change : Version → Version) (m n : Versions) (p : List ℕ) (f : ℕ) (v v' : Version) (o : Option Refusal) (x : U) (r : Result T Refusal)
    → IsReplyInPlace o (Ok x) (v' ≡ change v) (v' ≡ v) → Puts m n p f v' r → IsReply o r (n ≡ insert m (key_at p f) (change v)) (n ≡ m)
reply-put change m n p f v v' None x (Ok y) is put = put ∙ ap (λ (w : Version). insert m (key_at p f) w) is
reply-put change m n p f v v' None x (Err e) is put = put
reply-put change m n p f v v' (Some q) x r is put = absurd is

reply-refused : (T U Made Same Changed Unchanged : Type 0) (o : Option Refusal) (e : Refusal)
    → IsReplyInPlace {T = U} o (Err e) Changed Unchanged → Same → IsReply {T = T} o (Err e) Made Same
reply-refused T U Made Same Changed Unchanged None e is same = absurd is
reply-refused T U Made Same Changed Unchanged (Some q) e is same = (is.0, same)

module _ {T : Type 0} (refusals : Option Version → List (Option Refusal)) (change : Version → Version) where
  -- what becomes of versions where one is changed
  abbrev pub Becomes : Versions → Versions → List ℕ → ℕ → Result T Refusal → Type 0
  Becomes old new p f r = IsReply (first_of (refusals (version_of old p f))) r (new ≡ changed old p f change) (new ≡ old)

  at-version : (m n : Versions) (p : List ℕ) (f : ℕ) (v : Version) (r : Result T Refusal) → version_of m p f ≡ Some v
      → IsReply (first_of (refusals (Some v))) r (n ≡ insert m (key_at p f) (change v)) (n ≡ m) → Becomes m n p f r
  at-version m n p f v r there a =
      subst (λ (o : Option Version). IsReply (first_of (refusals o)) r (n ≡ changed_where o m p f change) (n ≡ m)) (sym there) a

  -- the version is there and changed
  pub at_known : {U : Type 0} (es : List (VersionKey × Version)) (n : Versions) (k p : List ℕ) (f : ℕ) (v v' : Version) (x : U) (r : Result T Refusal) → k ≡ p
      → Some v ≡ lookup (is_at (kept_version_cmp (key_at k f))) es → IsReplyInPlace (first_of (refusals (Some v))) (Ok x) (v' ≡ change v) (v' ≡ v) → Puts (seen es) n k f v' r → Becomes (seen es) n p f r
  at_known es n k p f v v' x r same there is put =
      subst (λ (q : List ℕ). Becomes (seen es) n q f r) same
      (at-version (seen es) n k f v r (get-seen es (key_at k f) ∙ sym there) (reply-put change (seen es) n k f v v' (first_of (refusals (Some v))) x r is put))

  -- the version is absent
  pub at_absent : (es : List (VersionKey × Version)) (n : Versions) (k p : List ℕ) (f : ℕ) (r : Result T Refusal) → k ≡ p
      → None ≡ lookup (is_at (kept_version_cmp (key_at k f))) es
      → IsReply (first_of (refusals None)) r (n ≡ seen es) (n ≡ seen es) → Becomes (seen es) n p f r
  at_absent es n k p f r same missing a =
      let none : version_of (seen es) k f ≡ None = get-seen es (key_at k f) ∙ sym missing in
      let at_k : Becomes (seen es) n k f r =
      subst (λ (o : Option Version). IsReply (first_of (refusals o)) r (n ≡ changed_where o (seen es) k f change)
      (n ≡ seen es)) (sym none) a in
      subst (λ (q : List ℕ). Becomes (seen es) n q f r) same at_k

-- the version is there, and its change is refused
pub at_refused : (T U : Type 0) (refusals : Option Version → List (Option Refusal)) (change : Version → Version) (es : List (VersionKey × Version))
    (k p : List ℕ) (f : ℕ) (v v' : Version) (e : Refusal) → k ≡ p
    → Some v ≡ lookup (is_at (kept_version_cmp (key_at k f))) es → IsReplyInPlace {T = U} (first_of (refusals (Some v))) (Err e) (v' ≡ change v) (v' ≡ v)
    → Becomes {T = T} refusals change (seen es) (seen es) p f (Err e)
at_refused T U refusals change es k p f v v' e same there is =
    subst (λ (q : List ℕ). Becomes {T = T} refusals change (seen es) (seen es) q f (Err e)) same
    (at-version {T = T} refusals change (seen es) (seen es) k f v (Err e) (get-seen es (key_at k f) ∙ sym there)
    (reply-refused T U _ (seen es ≡ seen es) (v' ≡ change v) (v' ≡ v) (first_of (refusals (Some v))) e is refl))

-- ---- one version is changed, and no other

pub put-there : (m : Versions) (k : VersionKey) (v : Version) → get (insert m k v) k ≡ Some v
put-there m k v = let same : eq_by_cmp version_cmp k k ≡ true = ap is_eq (tied_itself versions_total k) in
    get-insert versions_total m k v k ∙ ap (λ (b : Bool). cond b (Some v) (get m k)) same

pub put-elsewhere : (m : Versions) (k : VersionKey) (v : Version) (q : VersionKey) → q ≢ k → get (insert m k v) q ≡ get m q
put-elsewhere m k v q other =
    get-insert versions_total m k v q
    ∙ elim (eq_by_cmp version_cmp q k) as (λ b. eq_by_cmp version_cmp q k ≡ b → cond b (Some v) (get m q) ≡ get m q) [
      | true ↦ λ e. absurd (other (versions_exact q k (is_equal (version_cmp q k) e)))
      | false ↦ λ e. refl
    ] refl

pub changed-there : (m : Versions) (p : List ℕ) (f : ℕ) (g : Version → Version) (v : Version) → version_of m p f ≡ Some v
    → version_of (changed m p f g) p f ≡ Some (g v)
changed-there m p f g v there =
    ap (λ (o : Option Version). version_of (changed_where o m p f g) p f) there ∙ put-there m (key_at p f) (g v)

pub changed-elsewhere : (m : Versions) (p : List ℕ) (f : ℕ) (g : Version → Version) (q : VersionKey) → q ≢ key_at p f
    → get (changed m p f g) q ≡ get m q
changed-elsewhere m p f g q other = by (version_of m p f)
  where
    by : (o : Option Version) → get (changed_where o m p f g) q ≡ get m q
    by None = refl
    by (Some v) = put-elsewhere m (key_at p f) (g v) q other
