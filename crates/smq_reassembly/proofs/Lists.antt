-- Elements of lists, and octets of packets, by their places.
use Rattle.std.proofs.Common.{◌≡◌, ℕ, zero, suc, ◌+◌, ◌-◌, ◌<◌, ◌≤◌, Bool, false, List, [], ◌∷◌, ◌++◌, length, take, drop, refl, sym, ap, ◌∙◌, arith}
use Rattle.std.specs.Prelude.{slice_get, Some}
use Rattle.std.proofs.lemmas.Option.{none-some, same_Some}
use Rattle.smq_reassembly.specs.declared.packet.Packet.{Packet}
use Rattle.smq_reassembly.specs.Octet.{Octet, octets_of}

-- an element within a list
pub got : {X : Type 0} (xs : List X) (i : ℕ) → i < length xs → (x : X) × (slice_get xs i ≡ Some x)
got [] i h = absurd (omega arith)
got (x ∷ xs) zero h = (x, refl)
got (x ∷ xs) (suc i) h = let l : i < length xs = omega arith in got xs i l

pub get-left : {X : Type 0} (xs ys : List X) (i : ℕ) → i < length xs → slice_get (xs ++ ys) i ≡ slice_get xs i
get-left [] ys i h = absurd (omega arith)
get-left (x ∷ xs) ys zero h = refl
get-left (x ∷ xs) ys (suc i) h = let l : i < length xs = omega arith in get-left xs ys i l

pub get-right : {X : Type 0} (xs ys : List X) (n : ℕ) → length xs ≤ n → slice_get (xs ++ ys) n ≡ slice_get ys (n - length xs)
get-right [] ys n h = let e : n ≡ n - 0 = omega arith in ap (λ (k : ℕ). slice_get ys k) e
get-right (x ∷ xs) ys zero h = absurd (omega arith)
get-right (x ∷ xs) ys (suc n) h =
    let l : length xs ≤ n = omega arith in
    let e : n - length xs ≡ suc n - suc (length xs) = omega arith in
    get-right xs ys n l ∙ ap (λ (k : ℕ). slice_get ys k) e

pub get-drop : {X : Type 0} (k : ℕ) (xs : List X) (i : ℕ) → slice_get (drop k xs) i ≡ slice_get xs (k + i)
get-drop zero xs i = let e : i ≡ 0 + i = omega arith in ap (λ (j : ℕ). slice_get xs j) e
get-drop (suc k) [] i = refl
get-drop (suc k) (x ∷ xs) i =
    let e : suc (k + i) ≡ suc k + i = omega arith in get-drop k xs i ∙ ap (λ (j : ℕ). slice_get (x ∷ xs) j) e

pub get-take : {X : Type 0} (k : ℕ) (xs : List X) (i : ℕ) → i < k → slice_get (take k xs) i ≡ slice_get xs i
get-take zero xs i h = absurd (omega arith)
get-take (suc k) [] i h = refl
get-take (suc k) (x ∷ xs) zero h = refl
get-take (suc k) (x ∷ xs) (suc i) h = let l : i < k = omega arith in get-take k xs i l

-- two lists with the same elements
pub same_gets : {X : Type 0} (xs ys : List X) → ((i : ℕ) → slice_get xs i ≡ slice_get ys i) → xs ≡ ys
same_gets [] [] h = refl
same_gets [] (y ∷ ys) h = absurd (none-some y (h 0))
same_gets (x ∷ xs) [] h = absurd (none-some x (sym (h 0)))
same_gets {X} (x ∷ xs) (y ∷ ys) h =
    let head : x ≡ y = same_Some x y (h 0) in
    let rest : xs ≡ ys = same_gets xs ys (λ i. h (suc i)) in rw (head, rest) refl

-- ---- octets of a packet

pub length-octets : (p : Packet) (b : Bool) (vs : List ℕ) → length (octets_of p b vs) ≡ length vs
length-octets p b [] = refl
length-octets p b (v ∷ vs) = ap suc (length-octets p false vs)

pub octets-take : (p : Packet) (b : Bool) (k : ℕ) (vs : List ℕ) → octets_of p b (take k vs) ≡ take k (octets_of p b vs)
octets-take p b zero vs = refl
octets-take p b (suc k) [] = refl
octets-take p b (suc k) (v ∷ vs) =
    ap (λ (os : List Octet). (record { value = v; packet = p; begins = b }) ∷ os) (octets-take p false k vs)

octets-drop-false : (p : Packet) (k : ℕ) (vs : List ℕ) → octets_of p false (drop k vs) ≡ drop k (octets_of p false vs)
octets-drop-false p zero vs = refl
octets-drop-false p (suc k) [] = refl
octets-drop-false p (suc k) (v ∷ vs) = octets-drop-false p k vs

-- behind the first octet none begins its segment
pub octets-drop : (p : Packet) (b : Bool) (k : ℕ) (vs : List ℕ) → 0 < k → octets_of p false (drop k vs) ≡ drop k (octets_of p b vs)
octets-drop p b zero vs h = absurd (omega arith)
octets-drop p b (suc k) [] h = refl
octets-drop p b (suc k) (v ∷ vs) h = octets-drop-false p k vs

-- octets from one place of a packet up to another
pub octets-part : (p : Packet) (b flag : Bool) (k m : ℕ) (vs : List ℕ) → (k ≡ 0 → flag ≡ b) → (0 < k → flag ≡ false)
    → octets_of p flag (take m (drop k vs)) ≡ take m (drop k (octets_of p b vs))
octets-part p b flag zero m vs first later = rw (first refl) (octets-take p b m vs)
octets-part p b flag (suc k) m vs first later =
    let some : 0 < suc k = omega arith in
    rw (later some) (octets-take p false m (drop (suc k) vs) ∙ ap (λ (os : List Octet). take m os) (octets-drop p b (suc k) vs some))
