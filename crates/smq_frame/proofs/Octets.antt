-- Parts of octets are octets, and so are frames.
use Rattle.std.proofs.Common.{ℕ, zero, suc, ◌+◌, ◌<◌, List, [], ◌∷◌, ◌++◌, length, get_or, take, drop, subst, append_assoc, arith}
use Rattle.std.specs.List.{concat, AllByRecursion}
use Rattle.std.proofs.lemmas.List.{take-append-drop}
use Rattle.smq_frame.specs.Framing.{AreOctets, frames_of, rest_of}
use Rattle.smq_frame.specs.Frame.{FrameValue}
use Rattle.smq_frame.specs.Stream.{Octet, values, stamped, FramesAreOctets}
use Rattle.smq_frame.proofs.Splits.{split_stands}

pub octets_left : (a b : List ℕ) → AreOctets (a ++ b) → AreOctets a
octets_left [] b h = tt
octets_left (x ∷ a) b h = (h.0, octets_left a b h.1)

pub octets_right : (a b : List ℕ) → AreOctets (a ++ b) → AreOctets b
octets_right [] b h = h
octets_right (x ∷ a) b h = octets_right a b h.1

pub octets_parts : (n : ℕ) (o : List ℕ) → AreOctets o → AreOctets (take n o) × AreOctets (drop n o)
octets_parts n o h =
    let both : AreOctets (take n o ++ drop n o) = rw (take-append-drop n o) h in
    (octets_left (take n o) (drop n o) both, octets_right (take n o) (drop n o) both)

pub octet_at_place : (o : List ℕ) → AreOctets o → (i : ℕ) → get_or o i 0 < 256
octet_at_place [] h i = omega arith
octet_at_place (x ∷ o) h zero = h.0
octet_at_place (x ∷ o) h (suc i) = octet_at_place o h.1 i

-- numbers each of which is below 256 at its place, as the type of a slice of octets says
pub octets_by_place : (o : List ℕ) → ((i : ℕ) → get_or o i 0 < 256) → AreOctets o
octets_by_place [] h = tt
octets_by_place (x ∷ o) h = (h 0, octets_by_place o (λ i. h (suc i)))

-- ---- frames

stamped-octets : (s : List Octet) (o : ℕ) (fs : List (List ℕ)) (r : List ℕ) → AreOctets (concat fs ++ r)
    → AllByRecursion (λ (f : FrameValue). AreOctets f.octets) (stamped s o fs)
unfolding stamped
stamped-octets s o [] r h = tt
stamped-octets s o (f ∷ fs) r h =
    let parts : AreOctets (f ++ (concat fs ++ r)) = subst AreOctets (append_assoc f (concat fs) r) h in
    (octets_left f (concat fs ++ r) parts, stamped-octets s (o + length f) fs r (octets_right f (concat fs ++ r) parts))

pub stream_octets : (stream : List Octet) → AreOctets (values stream) → FramesAreOctets stream
stream_octets s h =
    let split = split_stands (values s) in
    stamped-octets s 0 (frames_of (values s)) (rest_of (values s)) (subst AreOctets split.whole h)
