-- Notes among the listed places of tables.
use Rattle.std.proofs.Common.{◌≡◌, Bool, ◌&&◌, ◌||◌, not, true, false, cond, inl, inr, List, refl, sym, ap, ◌∙◌}
use Rattle.std.specs.Prelude.{filter, is_some}
use Rattle.std.specs.List.{list_any}
use Rattle.std.specs.FinMap.{insert, remove, empty, keys, contains_key, contains_key-keys, get-empty}
use Rattle.std.specs.FinSet.{FinSet}
use Rattle.std.proofs.Math.Bool.{and-false, or-false, or-true}
use Rattle.std.proofs.lemmas.Bool.{false≢true}
use Rattle.std.proofs.lemmas.List.Folds.{list_any-append}
use Rattle.std.proofs.lemmas.Map.Views.{any-filter_same, tells_apart}
use Rattle.smq_tally.specs.declared.fact.Fact.{Fact}
use Rattle.smq_tally.specs.declared.list.Listed.{Listed}
use Rattle.smq_tally.specs.Lists.{listed_cmp, listings_of_fact}
use Rattle.smq_tally.specs.within.Counting.{with_listed, without}
use Rattle.smq_tally.specs.within.ListOrder.{same_listed, takes_facts}
use Rattle.smq_tally.specs.within.Noted.{is_untaken, notes_among, AreApart}
use Rattle.smq_tally.proofs.ListOrders.{listed_exact}
use Rattle.smq_tally.proofs.ListedFacts.{sets-one, have-insert, have-listed, have-remove, with-have, left-have, none-taken, Once, listed-once}
use Rattle.smq_tally.proofs.Stored.{has_seen, copied_some}

abbrev Places : Type 0
Places = FinSet listed_cmp

-- equal listed places are of one list
same-taken : (q e : Listed) → same_listed q e ≡ true → takes_facts q.list ≡ takes_facts e.list
same-taken q e h = ap (λ (x : Listed). takes_facts x.list) (tells_apart listed_exact q e h)

-- ---- what notes have

any-filter : (q : Listed) (es : List Listed) → list_any (same_listed q) (filter is_untaken es) ≡ (is_untaken q && list_any (same_listed q) es)
any-filter q es = any-filter_same (same_listed q) is_untaken (is_untaken q) (λ e h. ap not (sym (same-taken q e h))) es

pub notes-have : (apart places : Places) (q : Listed)
    → contains_key (notes_among apart places) q ≡ (contains_key apart q || (not (takes_facts q.list) && contains_key places q))
notes-have apart places q =
    have-listed _ q
    ∙ list_any-append (same_listed q) (keys apart) (filter is_untaken (keys places))
    ∙ (λ i. sym (contains_key-keys apart q) i || any-filter q (keys places) i)
    ∙ ap (λ b. contains_key apart q || (is_untaken q && b)) (sym (contains_key-keys places q))

-- ---- a note more

pub note-apart : (apart places : Places) (note : Listed)
    → notes_among (insert apart note tt) (insert places note tt) ≡ insert (notes_among apart places) note tt
note-apart apart places note = sets-one _ _ (λ q.
    notes-have (insert apart note tt) (insert places note tt) q
    ∙ (λ i. have-insert apart note q i || (not (takes_facts q.list) && have-insert places note q i))
    ∙ elim (same_listed q note) as (λ b. ((b || contains_key apart q) || (not (takes_facts q.list) && (b || contains_key places q)))
    ≡ (b || (contains_key apart q || (not (takes_facts q.list) && contains_key places q)))) [ true ↦ refl | false ↦ refl ]
    ∙ ap (λ b. same_listed q note || b) (sym (notes-have apart places q))
    ∙ sym (have-insert (notes_among apart places) note q))

pub note-among : (apart places : Places) (note : Listed) → takes_facts note.list ≡ false
    → notes_among apart (insert places note tt) ≡ insert (notes_among apart places) note tt
note-among apart places note none = sets-one _ _ (λ q.
    notes-have apart (insert places note tt) q
    ∙ ap (λ b. contains_key apart q || (not (takes_facts q.list) && b)) (have-insert places note q)
    ∙ there q (same_listed q note) refl
    ∙ ap (λ b. same_listed q note || b) (sym (notes-have apart places q))
    ∙ sym (have-insert (notes_among apart places) note q))
  where
    there : (q : Listed) (b : Bool) → same_listed q note ≡ b
        → (contains_key apart q || (not (takes_facts q.list) && (b || contains_key places q)))
        ≡ (b || (contains_key apart q || (not (takes_facts q.list) && contains_key places q)))
    there q true h = ap (λ t. contains_key apart q || (not t && true)) (same-taken q note h ∙ none) ∙ or-true (contains_key apart q)
    there q false h = refl

-- ---- a note less

pub apart-less : (apart places : Places) (note : Listed) (stays : Bool) → takes_facts note.list ≡ true
    → notes_among (remove apart note) (cond stays places (remove places note)) ≡ remove (notes_among apart places) note
apart-less apart places note stays takes = sets-one _ _ (λ q.
    notes-have (remove apart note) (cond stays places (remove places note)) q
    ∙ ap (λ b. b || (not (takes_facts q.list) && contains_key (cond stays places (remove places note)) q)) (have-remove apart note q)
    ∙ there q (same_listed q note) refl stays
    ∙ ap (cond (same_listed q note) false) (sym (notes-have apart places q))
    ∙ sym (have-remove (notes_among apart places) note q))
  where
    there : (q : Listed) (b : Bool) → same_listed q note ≡ b → (s : Bool)
        → (cond b false (contains_key apart q) || (not (takes_facts q.list) && contains_key (cond s places (remove places note)) q))
        ≡ cond b false (contains_key apart q || (not (takes_facts q.list) && contains_key places q))
    there q true h s = ap (λ t. not t && contains_key (cond s places (remove places note)) q) (same-taken q note h ∙ takes)
    there q false h true = refl
    there q false h false =
        ap (λ b. contains_key apart q || (not (takes_facts q.list) && b)) (have-remove places note q
        ∙ ap (λ b. cond b false (contains_key places q)) h)

pub among-less : (apart places : Places) (note : Listed) → AreApart apart → takes_facts note.list ≡ false
    → notes_among apart (remove places note) ≡ remove (notes_among apart places) note
among-less apart places note own none = sets-one _ _ (λ q.
    notes-have apart (remove places note) q
    ∙ ap (λ b. contains_key apart q || (not (takes_facts q.list) && b)) (have-remove places note q)
    ∙ there q (same_listed q note) refl (contains_key apart q) refl
    ∙ ap (cond (same_listed q note) false) (sym (notes-have apart places q))
    ∙ sym (have-remove (notes_among apart places) note q))
  where
    there : (q : Listed) (b : Bool) → same_listed q note ≡ b → (a : Bool) → contains_key apart q ≡ a
        → (a || (not (takes_facts q.list) && cond b false (contains_key places q)))
        ≡ cond b false (a || (not (takes_facts q.list) && contains_key places q))
    there q true h true has = absurd (false≢true (sym none ∙ sym (same-taken q note h) ∙ own.taken q has))
    there q true h false has = and-false (not (takes_facts q.list))
    there q false h a has = refl

-- ---- a fact more or less

-- notes stay where the places of lists that take no facts do
notes-stay : (apart before after : Places) → ((q : Listed) → takes_facts q.list ≡ false → contains_key after q ≡ contains_key before q)
    → notes_among apart after ≡ notes_among apart before
notes-stay apart before after same = sets-one _ _ (λ q.
    notes-have apart after q
    ∙ ap (λ b. contains_key apart q || b) (there q (takes_facts q.list) refl)
    ∙ sym (notes-have apart before q))
  where
    there : (q : Listed) (b : Bool) → takes_facts q.list ≡ b → (not b && contains_key after q) ≡ (not b && contains_key before q)
    there q true h = refl
    there q false h = same q h

with-other : (places : Places) (f : Fact) (q : Listed) → takes_facts q.list ≡ false
    → contains_key (with_listed places (listings_of_fact f)) q ≡ contains_key places q
with-other places f q none = with-have places (listings_of_fact f) q ∙ ap (λ b. b || contains_key places q) (none-taken q f none)

without-other : (places : Places) (f : Fact) (stays : Bool) (q : Listed) → takes_facts q.list ≡ false
    → contains_key (cond stays places (without places (listings_of_fact f))) q ≡ contains_key places q
without-other places f true q none = refl
without-other places f false q none =
    ap (λ b. b || contains_key (without places (listings_of_fact f)) q) (sym (none-taken q f none))
    ∙ left-have places (listings_of_fact f) q
    ∙ ap (λ b. b || contains_key places q) (none-taken q f none)

pub notes_with : (apart places : Places) (f : Fact) → notes_among apart (with_listed places (listings_of_fact f)) ≡ notes_among apart places
notes_with apart places f = notes-stay apart places _ (with-other places f)

pub notes_without : (apart places : Places) (f : Fact) (stays : Bool)
    → notes_among apart (cond stays places (without places (listings_of_fact f))) ≡ notes_among apart places
notes_without apart places f stays = notes-stay apart places _ (without-other places f stays)

-- in a list where messages stand for their outcomes, what is noted is kept apart
pub apart_noted : (apart places : Places) (q : Listed) → takes_facts q.list ≡ true
    → contains_key apart q ≡ contains_key (notes_among apart places) q
apart_noted apart places q takes =
    sym (or-false (contains_key apart q))
    ∙ ap (λ t. contains_key apart q || (not t && contains_key places q)) (sym takes)
    ∙ sym (notes-have apart places q)

-- and in another it is listed
pub among_noted : (apart places : Places) (q : Listed) → AreApart apart → takes_facts q.list ≡ false
    → contains_key places q ≡ contains_key (notes_among apart places) q
among_noted apart places q own none = there (contains_key apart q) refl ∙ sym (notes-have apart places q)
  where
    there : (a : Bool) → contains_key apart q ≡ a → contains_key places q ≡ (contains_key apart q || (not (takes_facts q.list) && contains_key places q))
    there true has = absurd (false≢true (sym none ∙ own.taken q has))
    there false has = (λ i. sym has i || (not (sym none i) && contains_key places q))

-- whether the place of a fact is noted in the fact's list
pub fact-noted : (apart places : Places) (f : Fact)
    → list_any (contains_key apart) (listings_of_fact f) ≡ list_any (contains_key (notes_among apart places)) (listings_of_fact f)
fact-noted apart places f = by-once (listings_of_fact f) (listed-once f.outcome f.place)
  where
    by-once : (ls : List Listed) → Once ls f.place → list_any (contains_key apart) ls ≡ list_any (contains_key (notes_among apart places)) ls
    by-once ls (inl e) = ap (list_any (contains_key apart)) e ∙ sym (ap (list_any (contains_key (notes_among apart places))) e)
    by-once ls (inr one) =
        ap (list_any (contains_key apart)) one.1.0
        ∙ ap (λ b. b || false) (apart_noted apart places one.0 one.1.1.1)
        ∙ sym (ap (list_any (contains_key (notes_among apart places))) one.1.0)

-- ---- what is kept apart

pub apart_none : AreApart empty
apart_none = record { taken = λ q has. absurd (false≢true (sym (ap is_some (get-empty {X = Unit {0}} listed_cmp q)) ∙ has)) }

pub apart-more : (apart : Places) (note : Listed) → takes_facts note.list ≡ true → AreApart apart → AreApart (insert apart note tt)
apart-more apart note takes own = record { taken = λ q has. there q (same_listed q note) refl (sym (have-insert apart note q) ∙ has) }
  where
    there : (q : Listed) (b : Bool) → same_listed q note ≡ b → (b || contains_key apart q) ≡ true → takes_facts q.list ≡ true
    there q true h has = same-taken q note h ∙ takes
    there q false h has = own.taken q has

pub apart-fewer : (apart : Places) (note : Listed) → AreApart apart → AreApart (remove apart note)
apart-fewer apart note own = record { taken = λ q has. there q (same_listed q note) (sym (have-remove apart note q) ∙ has) }
  where
    there : (q : Listed) (b : Bool) → cond b false (contains_key apart q) ≡ true → takes_facts q.list ≡ true
    there q true has = absurd (false≢true has)
    there q false has = own.taken q has

-- nothing is noted
pub none-noted : notes_among empty empty ≡ empty
none-noted = sets-one _ _ (λ q.
    notes-have empty empty q
    ∙ (λ i. is_some (get-empty {X = Unit {0}} listed_cmp q i) || (not (takes_facts q.list) && is_some (get-empty {X = Unit {0}} listed_cmp q i)))
    ∙ and-false (not (takes_facts q.list))
    ∙ sym (ap is_some (get-empty {X = Unit {0}} listed_cmp q)))

pub ruleset noted_facts = (apart_noted, among_noted, has_seen, copied_some)
