-- Counts and listed places after one fact or one listed place more, or less.
use Rattle.std.specs.Prelude.{◌≡◌, ℕ, suc, ◌+◌, ◌-◌, ◌<◌, ◌≤◌, ◌^◌, Bool, cond, List, [], ◌∷◌, count_by, drop, Option, Some, None, option_and_then, option_to_list, unwrap_or}
use Rattle.std.specs.List.{flat_map}
use Rattle.std.specs.FinMap as fin
use Rattle.std.specs.FinSet.{FinSet}
use Rattle.smq_kit.specs.Maps.{positive, set_at}
use Rattle.smq_tally.specs.declared.counts.Delta.{Delta}
use Rattle.smq_tally.specs.declared.counts.Delta.TheVariants as s
use Rattle.smq_tally.specs.declared.fact.CountKey.{CountKey}
use Rattle.smq_tally.specs.declared.fact.Fact.{Fact}
use Rattle.smq_tally.specs.declared.list.Listed.{Listed}
use Rattle.smq_tally.specs.declared.view.View.{View}
use Rattle.smq_tally.specs.Lists.{listed_cmp, listings_of_fact}
use Rattle.smq_tally.specs.Rows.{views, view_rank, count_cmp, same_count_key, key_in, keys_of_fact}
use Rattle.smq_tally.specs.Tables.{TablesValue}

-- counts by their keys
abbrev pub Counts : Type 0
Counts = fin.FinMap count_cmp ℕ

-- the count at a key, which is 0 where none stands
abbrev pub count_in : Counts → CountKey → ℕ
count_in counts key = unwrap_or (fin.get counts key) 0

-- the same in tables
abbrev pub count_of : TablesValue → CountKey → ℕ
count_of t key = count_in t.counts key

-- a count where one more stands, or one fewer: none where nothing is left
abbrev pub stepped : Delta → ℕ → Option ℕ
stepped s.Plus n = Some (n + 1)
stepped s.Minus n = positive (n - 1)

-- the counts where one more stands at a key, or one fewer
abbrev pub one_step : Delta → Counts → CountKey → Counts
one_step step counts key = set_at counts key (stepped step (count_in counts key))

-- the counts where one more stands at each of these keys, or one fewer
abbrev pub steps : Delta → Counts → List CountKey → Counts
steps step counts [] = counts
steps step counts (key ∷ keys) = steps step (one_step step counts key) keys

-- ---- counts that move

-- where a fact is counted in a view, if there is one and it has a value there
abbrev pub key_in_if : View → Option Fact → Option CountKey
key_in_if view fact = option_and_then (key_in view) fact

-- where it is counted in a view and those after it
abbrev pub keys_left : View → Option Fact → List CountKey
keys_left view None = []
keys_left view (Some f) = flat_map (λ v. option_to_list (key_in v f)) (drop (view_rank view) views)

-- the same in the views after one
abbrev pub keys_after : View → Option Fact → List CountKey
keys_after view None = []
keys_after view (Some f) = flat_map (λ v. option_to_list (key_in v f)) (drop (suc (view_rank view)) views)

-- how many of these keys are one
abbrev pub times : CountKey → List CountKey → ℕ
times q keys = count_by (same_count_key q) keys

-- At each key counts have as many as these keys are.
abbrev pub AreCounted : List CountKey → Counts → Type 0
AreCounted keys counts = (q : CountKey) → times q keys ≤ count_in counts q

-- As many as these keys are can be counted more.
abbrev pub HaveRoom : List CountKey → Counts → Type 0
HaveRoom keys counts = (q : CountKey) → 0 < times q keys → count_in counts q + times q keys < 2 ^ 64

-- Counts at some keys have moved to others: at each key, what is counted now with what left it is what was with what came.
abbrev pub IsMoved : List CountKey → List CountKey → Counts → Counts → Type 0
IsMoved from to old new = (q : CountKey) → count_in new q + times q from ≡ count_in old q + times q to

-- ---- facts and places

-- the places with these too
abbrev pub with_listed : FinSet listed_cmp → List Listed → FinSet listed_cmp
with_listed places [] = places
with_listed places (e ∷ es) = with_listed (fin.insert places e tt) es

-- the places without these
abbrev pub without : FinSet listed_cmp → List Listed → FinSet listed_cmp
without places [] = places
without places (e ∷ es) = without (fin.remove places e) es

-- tables in which one fact more is counted, and listed where it is open or lapsed
abbrev pub one_more : TablesValue → Fact → TablesValue
one_more t f = record {
  counts = steps s.Plus t.counts (keys_of_fact f);
  places = with_listed t.places (listings_of_fact f);
}

-- tables in which a fact is counted no more, and listed no more unless its place stays for a note
abbrev pub one_less : TablesValue → Fact → Bool → TablesValue
one_less t f stays = record {
  counts = steps s.Minus t.counts (keys_of_fact f);
  places = cond stays t.places (without t.places (listings_of_fact f));
}
