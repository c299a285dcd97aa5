-- What a walk over the members of a key meets.
use Rattle.std.specs.Prelude.{ℕ, Bool, true, false, ◌==◌, ◌&&◌, not, length, List, map, filter, Option, option_map, is_some, find, Some, None, [], ◌∷◌}
use Rattle.smq_kit.specs.declared.names.LinkId.{LinkId}
use Rattle.smq_kit.specs.declared.place.Place.{Place}
use Rattle.smq_kit.specs.declared.link_key.LinkKey.{LinkKey}
use Rattle.smq_kit.specs.LinkKeys.{same_key}
use Rattle.smq_shelf.specs.Walks.{stands_after}
use Rattle.smq_group.specs.declared.member.Member.{Member}
use Rattle.smq_group.specs.declared.member.Candidate.{Candidate}
use Rattle.smq_group.specs.declared.group_summary.Earliest.{Earliest}
use Rattle.smq_group.specs.within.Orders.{kept_candidate_cmp}

-- whether a member is of a key
abbrev pub of_key : {V : Type 0} → LinkKey → Member × V → Bool
of_key key e = same_key key e.0.key

-- a member's place, and what is kept of it
abbrev pub placed : {V : Type 0} → Member × V → Place × V
placed e = (e.0.place, e.1)

-- the members of a key, by place
abbrev pub members_in : {V : Type 0} → LinkKey → List (Member × V) → List (Place × V)
members_in key es = map placed (filter (of_key key) es)

-- the place of the only one of members, where there is just one
abbrev pub only_of : {V : Type 0} → List (Place × V) → Option Place
only_of (m ∷ []) = Some m.0
only_of _ = None

-- whether a second key is of the link of a first, or is that key
abbrev pub is_like : Bool → LinkKey → LinkKey → Bool
is_like true key other = other.link.0 == key.link.0
is_like false key other = same_key key other

-- whether a member is of a key's link, or of the key
abbrev pub of_part : {V : Type 0} → Bool → LinkKey → Member × V → Bool
of_part by_link key e = is_like by_link key e.0.key

-- how many of their places are vacant
abbrev pub vacant_part : {V : Type 0} → Bool → LinkKey → List (Member × Option V) → ℕ
vacant_part by_link key places = length (filter (λ e. of_part by_link key e && not (is_some e.1)) places)

-- whether a member is of a link
abbrev pub on_link : {V : Type 0} → LinkId → Member × V → Bool
on_link link e = e.0.key.link.0 == link.0

-- the places of a link's members, by key, then by place
abbrev pub link_places : {V : Type 0} → LinkId → List (Member × V) → List Place
link_places link es = map (λ e. e.0.place) (filter (on_link link) es)

-- the moment and place of a candidate
abbrev pub earliest_of : {V : Type 0} → Candidate × V → Earliest
earliest_of e = record { moment = e.0.moment; place = e.0.place }

-- whether a candidate is of a key
abbrev pub of_candidate : {V : Type 0} → LinkKey → Candidate × V → Bool
of_candidate key e = same_key key e.0.key

-- a candidate of a key, by its moment and place
abbrev pub candidate_at : LinkKey → Earliest → Candidate
candidate_at key from = record { key = key; moment = from.moment; place = from.place }

-- the first candidate of a key after a moment and place
abbrev pub first_candidate_after : LinkKey → Earliest → List (Candidate × Bool) → Option Earliest
first_candidate_after key from es = option_map earliest_of (find (stands_after kept_candidate_cmp (of_candidate key) (candidate_at key from)) es)

-- the first of the places that a walk has left that isn't vacant
abbrev pub first_there : List (Candidate × Option Bool) → Option Earliest
first_there left = option_map earliest_of (find (λ e. is_some e.1) left)

-- how many places of a key are vacant
abbrev pub vacant_of : {K V : Type 0} → (K → LinkKey) → LinkKey → List (K × Option V) → ℕ
vacant_of key_of key places = length (filter (λ e. same_key key (key_of e.0) && not (is_some e.1)) places)

-- their keys, one for each
abbrev pub vacant_keys : {K V : Type 0} → (K → LinkKey) → List (K × Option V) → List LinkKey
vacant_keys key_of places = map (λ e. key_of e.0) (filter (λ e. not (is_some e.1)) places)

-- the key of a member, and of a candidate
abbrev pub member_key : Member → LinkKey
member_key m = m.key

abbrev pub candidate_key : Candidate → LinkKey
candidate_key c = c.key

-- how many of the places that a walk has left are vacant
abbrev pub vacant_left : List (Candidate × Option Bool) → ℕ
vacant_left left = length (filter (λ e. not (is_some e.1)) left)
