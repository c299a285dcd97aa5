-- The rule of the board is kept by a new side, and by a step after which what is on the board begins with what was on it.
use Rattle.std.proofs.Common.{◌≡◌, ◌≢◌, ℕ, Bool, true, false, List, [], ◌∷◌, ◌++◌, refl, sym, ◌∙◌, ap, subst, ⊎_elim, append_assoc, append-nil, fold}
use mathlib.Core.Option.{some}
use lib.ListN.{get_elem?}
use Rattle.crossbeam_utils.specs.Register.{Admits, TurnsAt}
use Rattle.atomic_table.proofs.Lists.{at_set, at_snoc}
use Rattle.smq_desk.specs.declared.board.Known.{Known}
use Rattle.smq_desk.specs.declared.entry.Entry.{Entry}
use Rattle.smq_desk.specs.declared.published_history.Shown.{Shown}
use Rattle.smq_desk.specs.History.{StartsWith}
use Rattle.smq_desk.specs.within.Boards.{shown_in, Keeps, Sees}

abbrev known : List Entry → Known
known es = record { entries = es }

pub starts_itself : (es : List Entry) → StartsWith es es
starts_itself es = ([], sym (append-nil es))

pub starts_with_none : (es : List Entry) → StartsWith es []
starts_with_none es = (es, refl)

pub starts_on : (a b c : List Entry) → StartsWith a b → StartsWith b c → StartsWith a c
starts_on a b c p q = (q.0 ++ p.0, p.1 ∙ (ap (λ (xs : List Entry). xs ++ p.0) q.1 ∙ append_assoc c q.0 p.0))

-- entries that go on begin with all that they began with
pub starts_longer : (es es' more seen : List Entry) → es' ≡ es ++ more → StartsWith es seen → StartsWith es' seen
starts_longer es es' more seen is h = starts_on es' es seen (more, is) h

-- whether a history was published or its board stayed, it begins with what is on the board then
pub published_or_not : (done : Bool) (entries published old new : List Entry) → published ≡ entries → StartsWith entries old
    → (done ≡ true → new ≡ published) → (done ≡ false → new ≡ old) → StartsWith entries new
published_or_not true entries published old new is h put stays = ([], sym (append-nil new ∙ put refl ∙ is))
published_or_not false entries published old new is h put stays = subst (λ (es : List Entry). StartsWith entries es) (sym (stays refl)) h

-- a side that knows nothing may come at any time
pub admits : Admits Keeps (known [])
admits x views h side v at = ⊎_elim
    (λ (old : get_elem? views side ≡ some v). h side v old)
    (λ (new : known [] ≡ v). subst (λ (w : Known). StartsWith (shown_in x) w.entries) new (starts_with_none (shown_in x)))
    (at_snoc views (known []) v side at)

pub steps : (side : ℕ) (v : Known) (x y : Shown) → StartsWith (shown_in y) (shown_in x) → TurnsAt Keeps side v x y Sees
steps side v x y longer views h at = (
  known (shown_in y),
  (λ j u e. ⊎_elim
      (λ (t : (j ≡ side) × (known (shown_in y) ≡ u)). subst (λ (w : Known). StartsWith (shown_in y) w.entries) t.1 (starts_itself (shown_in y)))
      (λ (t : (j ≢ side) × (get_elem? views j ≡ some u)). starts_on (shown_in y) (shown_in x) u.entries longer (h j u t.1))
      (at_set views side j (known (shown_in y)) u e)),
  (starts_on (shown_in y) (shown_in x) v.entries longer (h side v at), refl),
)

-- a look changes nothing
pub looks : (side : ℕ) (v : Known) (x : Shown) → TurnsAt Keeps side v x x Sees
looks side v x = steps side v x x (starts_itself (shown_in x))

-- of the operations that are applied, the last one stays
last_stays : {S O : Type 0} (get : O → S) (s : S) (xs : List O) (op : O) → fold (λ _ o. get o) s (xs ++ op ∷ []) ≡ get op
last_stays get s [] op = refl
last_stays get s (x ∷ xs) op = last_stays get (get x) xs op

pub publishes : {O : Type 0} (get : O → List Entry) (side : ℕ) (v : Known) (x next : Shown) (waiting pending : List O) (op : O)
    → pending ≡ waiting ++ op ∷ [] → shown_in next ≡ fold (λ _ o. get o) (shown_in x) pending → StartsWith (get op) (shown_in x) → TurnsAt Keeps side v x next Sees
publishes get side v x next waiting pending op more is longer =
    let last : shown_in next ≡ get op = is ∙ (ap (λ xs. fold (λ _ o. get o) (shown_in x) xs) more ∙ last_stays get (shown_in x) waiting op) in
    steps side v x next (rw last longer)
