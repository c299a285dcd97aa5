-- How far the octets of a direction had come with each packet, as it is noted while the other direction waits.
use Rattle.std.specs.Prelude.{◌≡◌, ℕ, ◌<◌, ◌≤◌, ◌⊎◌, max, nat_lt, if◌then◌else◌, List, [], ◌∷◌, ◌++◌}
use Rattle.std.specs.List.{AllByRecursion, filter}
use Rattle.smq_capture.specs.declared.tops.Top.{Top}

-- a packet that came of a direction, and the place behind the last octet that it has
pub record Brought : Type 0 where
  pub number : ℕ
  pub until : ℕ

-- the place behind all octets that packets have
abbrev pub top_of : List Brought → ℕ
top_of [] = 0
top_of (p ∷ ps) = max p.until (top_of ps)

-- the place behind all octets that packets before one have: the greatest of those with a lesser number
abbrev pub top_before : ℕ → List Brought → ℕ
top_before number packets = top_of (filter (λ p. nat_lt p.number number) packets)

-- packets came in the order of their numbers, of which one may come again
abbrev pub AreInOrder : List Brought → Type 0
AreInOrder [] = Unit {0}
AreInOrder (p ∷ ps) = AllByRecursion (λ q. p.number ≤ q.number) ps × AreInOrder ps

-- a packet needs no note where it has no octet behind a place, or is before a number
abbrev pub NeedsNone : ℕ → ℕ → Brought → Type 0
NeedsNone from place p = (p.until ≤ place) ⊎ (p.number < from)

-- packets came behind octets up to a place: each that needs a note has one, with the place behind all octets that came before it
abbrev pub AreNoted : ℕ → ℕ → List Brought → List Top → Type 0
AreNoted from place [] tops = tops ≡ []
AreNoted from place (p ∷ ps) tops =
    (NeedsNone from place p × AreNoted from (max place p.until) ps tops)
    ⊎ ((rest : List Top) × (place < p.until) × (tops ≡ record { number = p.number; before = place } ∷ rest)
    × AreNoted from (max place p.until) ps rest)

-- packets came in order, and those from a number on that brought something are noted
pub record IsWatched (from : ℕ) (packets : List Brought) (tops : List Top) : Type 0 where
  pub order : AreInOrder packets
  pub noted : AreNoted from 0 packets tops

-- the place of the first note that isn't of a packet before one; or, where there is none, the top
abbrev pub noted_before : ℕ → ℕ → List Top → ℕ
noted_before number top [] = top
noted_before number top (t ∷ ts) = if nat_lt t.number number then noted_before number top ts else t.before

-- the greatest number that is noted
abbrev pub last_noted : List Top → ℕ
last_noted [] = 0
last_noted (t ∷ ts) = max t.number (last_noted ts)

-- a packet is noted behind others if it brought something; where its number is less than theirs, as of the last of them
abbrev pub with_note : ℕ → ℕ → ℕ → List Top → List Top
with_note number before top tops =
    if nat_lt before top
    then tops ++ record { number = max (last_noted tops) number; before = before } ∷ []
    else tops

-- what comes of a direction: a packet that is noted, or one that isn't; or what was noted is forgotten
pub data Call : Type 0 where
  Notes : Brought → Call
  Passes : Brought → Call
  Forgets : Call

-- the packets that came
abbrev pub packets_in : List Call → List Brought
packets_in [] = []
packets_in (Notes p ∷ calls) = p ∷ packets_in calls
packets_in (Passes p ∷ calls) = p ∷ packets_in calls
packets_in (Forgets ∷ calls) = packets_in calls

-- what is noted after calls, before which octets up to a place had come
abbrev pub noted_by : ℕ → List Top → List Call → List Top
noted_by place tops [] = tops
noted_by place tops (Notes p ∷ calls) = noted_by (max place p.until) (with_note p.number place (max place p.until) tops) calls
noted_by place tops (Passes p ∷ calls) = noted_by (max place p.until) tops calls
noted_by place tops (Forgets ∷ calls) = noted_by place [] calls

-- each packet whose number isn't before one is noted, and none such is forgotten, where others came before
abbrev pub KeepFrom : ℕ → List Brought → List Call → Type 0
KeepFrom from came [] = Unit {0}
KeepFrom from came (Notes p ∷ calls) = KeepFrom from (came ++ p ∷ []) calls
KeepFrom from came (Passes p ∷ calls) = (p.number < from) × KeepFrom from (came ++ p ∷ []) calls
KeepFrom from came (Forgets ∷ calls) = AllByRecursion (λ p. p.number < from) came × KeepFrom from came calls

-- after any calls the notes tell the place behind all octets that packets before one have, if they keep those from there on
abbrev pub TellTops : ℕ → List Call → Type 0
TellTops number calls =
    noted_before number (top_of (packets_in calls)) (noted_by 0 [] calls) ≡ top_before number (packets_in calls)
