-- Listed places in a map that can be undone, seen as a finite set.
use Rattle.std.proofs.Common.{◌≡◌, Bool, cond, Bor, List, [], ◌∷◌, ◌++◌, Option, Some, None, refl, sym, subst, ap, ◌∙◌}
use Rattle.std.specs.Prelude.{map, is_some}
use Rattle.std.specs.List.{flat_map}
use Rattle.std.specs.Option.{option_copied}
use Rattle.std.specs.List.Sorted.{IsStrictlySortedBy}
use Rattle.std.specs.Map.{keys_of, lookup, remove_entry}
use Rattle.std.specs.BTreeMap.{is_at, insert_entry}
use Rattle.std.specs.FinMap.{insert, remove, contains_key, empty, from_entries}
use Rattle.smq_shelf.specs.Keeping.{KeepingMap}
use Rattle.smq_shelf.specs.Places.{content_of}
use Rattle.smq_shelf.proofs.Seen as seen
use Rattle.smq_tally.specs.declared.fact.Fact.{Fact}
use Rattle.smq_tally.specs.declared.fact.RowKey.{RowKey}
use Rattle.smq_tally.specs.declared.list.Listed.{Listed}
use Rattle.smq_tally.specs.declared.counts.OutcomeCounts.{OutcomeCounts}
use Rattle.smq_kit.specs.Orders.{place_cmp}
use Rattle.smq_tally.specs.Lists.{listed_cmp, listed_set, listings_of_fact}
use Rattle.smq_tally.specs.Rows.{keys_of_fact}
use Rattle.smq_tally.specs.Tables.{tables_of, number_at}
use Rattle.smq_tally.specs.within.Kept.{places_in, tables_in, IsLogged}
use Rattle.smq_tally.specs.within.ListOrder.{kept_listed_cmp, listed_total}
use Rattle.smq_tally.specs.within.RowCounts.{row_cmp, counts_among}
use Rattle.smq_tally.proofs.ListOrders.{Entries, listed-order, listed_exact}
use Rattle.smq_tally.proofs.Undone.{no-entries}

-- whether a place is listed
pub has_seen : (ps : Entries) (q : Listed) → is_some (lookup (is_at (kept_listed_cmp q)) ps) ≡ contains_key (places_in ps) q
has_seen ps q = sym (ap is_some (seen.looked_up listed_total listed_exact listed-order ps q))

pub place_more : (ps fs : Entries) (q : Listed) (u : Unit {0}) → fs ≡ insert_entry kept_listed_cmp ps q u
    → places_in fs ≡ insert (places_in ps) q tt
place_more ps fs q u put = ap places_in put ∙ seen.inserted listed_total listed_exact listed-order ps q tt

pub place_less : (ps fs : Entries) (q : Listed) → IsStrictlySortedBy kept_listed_cmp (keys_of ps)
    → fs ≡ remove_entry (is_at (kept_listed_cmp q)) ps → places_in fs ≡ remove (places_in ps) q
place_less ps fs q sorted took = ap places_in took ∙ seen.removed listed_total listed_exact listed-order ps q sorted

-- what taking a key out left to be taken back
pub taken-logged : {K V : Type 0} (old new : KeepingMap K V) (taken : Option V) (logged : Bool) → logged ≡ is_some taken
    → old.content ≡ content_of old.places → new.past ≡ cond (is_some taken) (old.places ∷ old.past) old.past → (taken ≡ None → new ≡ old)
    → IsLogged logged old new
taken-logged old new None logged e shown past same = subst (λ b. IsLogged b old new) (sym e) (same refl)
taken-logged old new (Some v) logged e shown past same = subst (λ b. IsLogged b old new) (sym e) (shown, past)

-- whether there is one, behind a reference
pub copied_some : {X : Type 0} (x : Option (Bor X)) → is_some x ≡ is_some (option_copied x)
copied_some None = refl
copied_some (Some b) = refl

-- nothing counted and nothing listed are the tables of nothing
pub nothing_seen : (es : List (RowKey × OutcomeCounts)) (ps : Entries) → es ≡ [] → ps ≡ [] → tables_in es ps ≡ tables_of empty empty
nothing_seen es ps none clear =
    (λ i. tables_in (none i) (clear i))
    ∙ (λ i. record { counts = from_entries (counts_among (no-entries row_cmp OutcomeCounts i)); places = from_entries [] })
    ∙ (λ i. record {
      counts = from_entries (map (λ key. (key, number_at key empty)) (flat_map keys_of_fact (map (λ e. e.1) (sym (no-entries place_cmp Fact) i))));
      places =
          listed_set (map (λ e. e.0) (sym (no-entries listed_cmp (Unit {0})) i) ++ flat_map listings_of_fact
          (map (λ e. e.1) (sym (no-entries place_cmp Fact) i)));
    })
