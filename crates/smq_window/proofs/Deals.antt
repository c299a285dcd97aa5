-- PDUs that come one after the other, and a piece of them.
use Rattle.std.proofs.Common.{◌≡◌, ℕ, ◌≤◌, Bool, false, cond, List, [], ◌∷◌, ◌++◌, map, Option, Some, None, refl, sym, ap, subst, ◌∙◌, append_assoc, append-nil}
use Rattle.std.proofs.lemmas.List.{map-append}
use Rattle.std.specs.Option.{option_to_list}
use Rattle.smq_kit.specs.declared.place.Dir.{Dir}
use Rattle.smq_frame.specs.Frame.{FrameValue}
use Rattle.smq_frame.specs.Stream.{frames_after}
use Rattle.smq_window.specs.declared.connection.Connection.{Connection}
use Rattle.smq_window.specs.declared.connection.Origin.{Origin}
use Rattle.smq_window.specs.declared.direction.Direction.{Direction}
use Rattle.smq_window.specs.declared.periods.Period.{Period}
use Rattle.smq_window.specs.declared.row.Row.{Row}
use Rattle.smq_window.specs.Direction.{after_piece}
use Rattle.smq_window.specs.Exchange.{exchange_of}
use Rattle.smq_window.specs.Homes.{Homed, home_of, with_period}
use Rattle.smq_window.specs.Connection.{ConnectionValue, at_home, connection_after, dealt, direction_with, due, due_after, home_rows, homed, is_written, octets_of, periods_with, piece_row, rows_of_piece, with_homes}
use Rattle.smq_window.specs.within.Kept.{IsKept, Opens, numbers}
use Rattle.smq_window.specs.within.Shown.{Deals, Shows, Takes, Writes}
use Rattle.smq_window.proofs.Keeps.{kept-open}

-- ---- PDUs with their homes

pub homed-append : (pdus : List Homed) (oldest present : ℕ) (sender : Dir) (xs ys : List (List ℕ))
    → homed pdus oldest present sender (xs ++ ys)
    ≡ homed pdus oldest present sender xs ++ homed (pdus ++ homed pdus oldest present sender xs) oldest present sender ys
unfolding homed
homed-append pdus oldest present sender [] ys =
    ap (λ (ps : List Homed). homed ps oldest present sender ys) (sym (append-nil pdus))
homed-append pdus oldest present sender (x ∷ xs) ys =
    let h : Homed = at_home pdus oldest present sender x in
    ap (λ (hs : List Homed). h ∷ hs)
    (homed-append (pdus ++ h ∷ []) oldest present sender xs ys
    ∙ ap (λ (ps : List Homed). homed (pdus ++ h ∷ []) oldest present sender xs ++ homed ps oldest present sender ys)
    (append_assoc pdus (h ∷ []) (homed (pdus ++ h ∷ []) oldest present sender xs)))

with_homes-append : (ns : List ℕ) (xs ys : List Homed) → with_homes ns (xs ++ ys) ≡ with_homes (with_homes ns xs) ys
unfolding with_homes
with_homes-append ns [] ys = refl
with_homes-append ns (x ∷ xs) ys = with_homes-append (with_period ns x.home) xs ys

-- ---- PDUs that are dealt

pub deals-none : (pdus : List Homed) (oldest present : ℕ) (at : Origin) (ps : List Period) (rows : List Row)
    → IsKept pdus oldest present ps → Deals pdus oldest present at [] ps ps rows rows
unfolding homed with_homes
deals-none pdus oldest present at ps rows kept =
    record {
      adds = sym (append-nil rows);
      kept = subst (λ (hs : List Homed). IsKept hs oldest present ps) (sym (append-nil pdus)) kept;
      numbers = refl;
    }

pub deals-one : (pdus : List Homed) (oldest present : ℕ) (at : Origin) (f : List ℕ) (before after : List Period) (rows made : List Row) (home : ℕ)
    → home ≡ home_of pdus oldest present (exchange_of at.sender f)
    → IsKept (pdus ++ record { home = home; sender = at.sender; octets = f } ∷ []) oldest present after
    → numbers after ≡ with_period (numbers before) home
    → made ≡ rows ++ piece_row at home f ∷ []
    → Deals pdus oldest present at (f ∷ []) before after rows made
unfolding homed with_homes
deals-one pdus oldest present at f before after rows made home e kept ns rs =
    record {
      adds = rs ∙ ap (λ (n : ℕ). rows ++ piece_row at n f ∷ []) e;
      kept = subst (λ (n : ℕ). IsKept (pdus ++ record { home = n; sender = at.sender; octets = f } ∷ []) oldest present after) e kept;
      numbers = ns ∙ ap (λ (n : ℕ). with_period (numbers before) n) e;
    }

pub deals-more : (pdus : List Homed) (oldest present : ℕ) (at : Origin) (xs ys : List (List ℕ)) (a b c : List Period) (r s t : List Row)
    → Deals pdus oldest present at xs a b r s
    → Deals (pdus ++ homed pdus oldest present at.sender xs) oldest present at ys b c s t
    → Deals pdus oldest present at (xs ++ ys) a c r t
deals-more pdus oldest present at xs ys a b c r s t front back =
    let hs : List Homed = homed pdus oldest present at.sender xs in
    let gs : List Homed = homed (pdus ++ hs) oldest present at.sender ys in
    let whole : homed pdus oldest present at.sender (xs ++ ys) ≡ hs ++ gs = homed-append pdus oldest present at.sender xs ys in
    record {
      adds = back.adds
          ∙ ap (λ (x : List Row). x ++ home_rows at gs) front.adds
          ∙ append_assoc r (home_rows at hs) (home_rows at gs)
          ∙ ap (λ (x : List Row). r ++ x) (sym (map-append (λ (h : Homed). piece_row at h.home h.octets) hs gs))
          ∙ ap (λ (x : List Homed). r ++ home_rows at x) (sym whole);
      kept = subst (λ (x : List Homed). IsKept x oldest present c)
          (append_assoc pdus hs gs ∙ ap (λ (x : List Homed). pdus ++ x) (sym whole)) back.kept;
      numbers = back.numbers
          ∙ ap (λ (ns : List ℕ). with_homes ns gs) front.numbers
          ∙ sym (with_homes-append (numbers a) hs gs)
          ∙ ap (λ (x : List Homed). with_homes (numbers a) x) (sym whole);
    }

-- ---- octets that are due

pub writes-some : (pdus : List Homed) (oldest present : ℕ) (at : Origin) (d : Direction) (before after : List Period) (index : ℕ)
    (rows made : List Row) (octets : List ℕ) → due d (numbers before) ≡ Some octets → made ≡ rows ++ piece_row at present octets ∷ []
    → Opens present before after index → IsKept pdus oldest present before
    → Writes pdus oldest present at d before rows (record d { written = Some present }) after made
writes-some pdus oldest present at d before after index rows made octets some rs opens kept =
    record {
      adds = rs ∙ ap (λ (o : Option (List ℕ)). rows ++ map (piece_row at present) (option_to_list o)) (sym some);
      kept = kept-open pdus oldest present before after index kept opens;
      direction = ap (λ (o : Option (List ℕ)). direction_with o present d) (sym some);
      numbers = opens.numbers kept.ascend kept.within
          ∙ ap (λ (o : Option (List ℕ)). periods_with o present (numbers before)) (sym some);
    }

pub due-broken : (d : Direction) (ns : List ℕ) (o : Option (List ℕ)) → is_written d.written ns ≡ false → d.broken ≡ o → due d ns ≡ o
due-broken d ns o is e = ap (λ (b : Bool). cond b None d.broken) is ∙ e

-- ---- a piece

pub takes : (pdus : List Homed) (oldest present : ℕ) (at : Origin) (octets : List ℕ) (d d1 e : Direction) (frames : List FrameValue)
    (before mid after : List Period) (rows some made : List Row)
    → frames ≡ frames_after d.tail at.moment octets → d1 ≡ after_piece d at.moment octets
    → Deals pdus oldest present at (octets_of frames) before mid rows some
    → Writes (pdus ++ homed pdus oldest present at.sender (octets_of frames)) oldest present at d1 mid some e after made
    → Takes pdus oldest present at octets d before rows e after made
takes pdus oldest present at octets d d1 e frames before mid after rows some made is_frames is_after deals writes =
    let hs : List Homed = dealt pdus oldest present at octets d in
    let eh : homed pdus oldest present at.sender (octets_of frames) ≡ hs =
    ap (λ (fs : List FrameValue). homed pdus oldest present at.sender (octets_of fs)) is_frames in
    let en : numbers mid ≡ with_homes (numbers before) hs =
    deals.numbers ∙ ap (λ (x : List Homed). with_homes (numbers before) x) eh in
    let ed : due d1 (numbers mid) ≡ due_after pdus oldest present at octets d (numbers before) =
    λ i. due (is_after i) (en i) in
    let er : some ≡ rows ++ home_rows at hs = deals.adds ∙ ap (λ (x : List Homed). rows ++ home_rows at x) eh in
    record {
      adds = writes.adds
          ∙ (λ i. er i ++ map (piece_row at present) (option_to_list (ed i)))
          ∙ append_assoc rows (home_rows at hs) (map (piece_row at present) (option_to_list (due_after pdus oldest present at octets d (numbers before))));
      kept = subst (λ (x : List Homed). IsKept (pdus ++ x) oldest present after) eh writes.kept;
      direction = writes.direction ∙ (λ i. direction_with (ed i) present (is_after i));
      numbers = writes.numbers ∙ (λ i. periods_with (ed i) present (en i));
    }

-- ---- a piece of a connection

-- what is kept of a connection after a piece, and its rows
abbrev Taken : Origin → ℕ → ℕ → List ℕ → ConnectionValue → Connection → List Row → List Row → Type 0
Taken at oldest present octets c after rows made =
    Shows (connection_after at oldest present octets c) oldest present after
    × (made ≡ rows ++ rows_of_piece at oldest present octets c)

from : Dir → Origin → Origin
from sender at = record at { sender = sender }

pub origin-at : (at : Origin) (s : Dir) → at.sender ≡ s → at ≡ record at { sender = s }
origin-at at s e = λ i. record at { sender = e i }
