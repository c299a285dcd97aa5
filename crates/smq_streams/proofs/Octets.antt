-- Octets of packets, their values and their places.
use Rattle.std.proofs.Common.{◌≡◌, ℕ, zero, suc, ◌+◌, ◌-◌, ◌<◌, ◌≤◌, Bool, false, List, [], ◌∷◌, ◌++◌, length, drop, refl, sym, ap, ◌∙◌, arith}
use Rattle.std.specs.Prelude.{slice_get, Option, Some, None}
use Rattle.std.specs.Option.{option_map}
use Rattle.std.proofs.lemmas.List.{drop-map, map-append}
use Rattle.smq_reassembly.specs.declared.packet.Packet.{Packet}
use Rattle.smq_reassembly.specs.Octet.{Octet, octets_of}
use Rattle.smq_reassembly.specs.Moment.{values}
use Rattle.smq_streams.specs.Search.{is_begin}

drop-nil : {X : Type 0} (k : ℕ) → drop {A = X} k [] ≡ []
drop-nil zero = refl
drop-nil (suc k) = refl

pub drop-drop : {X : Type 0} (n k : ℕ) (xs : List X) → drop k (drop n xs) ≡ drop (n + k) xs
drop-drop zero k xs = let e : k ≡ 0 + k = omega arith in ap (λ (j : ℕ). drop j xs) e
drop-drop (suc n) k [] = drop-nil k ∙ sym (drop-nil (suc n + k))
drop-drop (suc n) k (x ∷ xs) =
    let e : suc (n + k) ≡ suc n + k = omega arith in drop-drop n k xs ∙ ap (λ (j : ℕ). drop j (x ∷ xs)) e

pub get-drop : {X : Type 0} (n : ℕ) (xs : List X) → slice_get (drop n xs) 0 ≡ slice_get xs n
get-drop zero xs = refl
get-drop (suc n) [] = refl
get-drop (suc n) (x ∷ xs) = get-drop n xs

pub get-front : {X : Type 0} (xs ys : List X) (n : ℕ) → n < length xs → slice_get (xs ++ ys) n ≡ slice_get xs n
get-front [] ys n h = absurd (omega arith)
get-front (x ∷ xs) ys zero h = refl
get-front (x ∷ xs) ys (suc n) h = let l : n < length xs = omega arith in get-front xs ys n l

pub within : {X : Type 0} (n : ℕ) (xs : List X) (x : X) → slice_get xs n ≡ Some x → n < length xs
within n [] x h = absurd (cc)
within zero (y ∷ xs) x h = omega arith
within (suc n) (y ∷ xs) x h = let l : n < length xs = within n xs x h in omega arith

pub length-octets : (p : Packet) (b : Bool) (vs : List ℕ) → length (octets_of p b vs) ≡ length vs
length-octets p b [] = refl
length-octets p b (v ∷ vs) = ap suc (length-octets p false vs)

pub values-octets : (p : Packet) (b : Bool) (vs : List ℕ) → values (octets_of p b vs) ≡ vs
values-octets p b [] = refl
values-octets p b (v ∷ vs) = ap (λ (o : List ℕ). v ∷ o) (values-octets p false vs)

pub values-drop : (n : ℕ) (os : List Octet) → values (drop n os) ≡ drop n (values os)
values-drop n os = sym (drop-map (λ (o : Octet). o.value) n os)

pub values-append : (a b : List Octet) → values (a ++ b) ≡ values a ++ values b
values-append a b = map-append (λ (o : Octet). o.value) a b

-- the flag of an octet that is there
pub begin_is : (o : Option Octet) (b : Bool) → option_map (λ (x : Octet). x.begins) o ≡ Some b → is_begin o ≡ b
begin_is None b h = absurd (cc)
begin_is (Some o) b h = cc
