-- The first number at which one of two facts fails.
use Rattle.std.proofs.Common.{◌≡◌, ℕ, ◌+◌, ◌<◌, ◌≤◌, ◌⊎◌, inl, inr, nat_le, if◌then◌else◌, Bool, true, false, List, [], ◌∷◌, ◌++◌, sym, ◌∙◌, ap, subst, length, take, get_or, arith, All, Option, Some, None, MatchOption}
use Rattle.std.proofs.lemmas.Bool.Decides.{leb_tells}
use Rattle.std.proofs.lemmas.List.{take-take, take_more}
use Rattle.std.proofs.lemmas.List.Elements.{All-nil, All-cons, All-head, All-tail, All-same, All-more, All-take, All-weaker}
use Rattle.smq_desk.specs.declared.entry.Entry.{Entry}
use Rattle.smq_desk.specs.Seats.{SeatValue, HasItsCalls, HasOneSeat, AreCallsOf}
use Rattle.smq_desk.specs.Closing.{AgreesUpTo, AgreeUpTo, FailsFirstAt}
use Rattle.smq_desk.specs.within.Least.{earlier}
use Rattle.smq_desk.proofs.Agreement.{whole_agrees}

-- A holds of every number by W, or fails first at this one
abbrev pub First : Type 0 → (ℕ → Type 0) → Option ℕ → Type 0
First W A o = MatchOption o W (λ n. FailsFirstAt A n)

-- what two facts are, and when both hold
pub record Both (W V X : Type 0) (A B C : ℕ → Type 0) : Type 0 where
  pub whole : W → V → X
  pub one : W → (n : ℕ) → A n
  pub other : V → (n : ℕ) → B n
  pub both : (n : ℕ) → A n → B n → C n
  pub each : (n : ℕ) → C n → A n × B n

pub first_of_both : (W V X : Type 0) (A B C : ℕ → Type 0) → Both W V X A B C → (o p : Option ℕ) → First W A o → First V B p → First X C (earlier o p)
first_of_both W V X A B C k None None f g = k.whole f g
first_of_both W V X A B C k None (Some m) f g = record { below = λ n lt. k.both n (k.one f n) (g.below n lt); here = λ h. g.here (k.each m h).1 }
first_of_both W V X A B C k (Some m) None f g = record { below = λ n lt. k.both n (f.below n lt) (k.other g n); here = λ h. f.here (k.each m h).0 }
first_of_both W V X A B C k (Some m) (Some q) f g = by (leb_tells m q)
  where
    by : ((nat_le m q ≡ true) × (m ≤ q)) ⊎ ((nat_le m q ≡ false) × (q < m)) → FailsFirstAt C (if nat_le m q then m else q)
    by (inl h) =
        let le = h.1 in
        subst (λ (b : Bool). FailsFirstAt C (if b then m else q)) (sym h.0)
        (record { below = λ n lt. k.both n (f.below n lt) (g.below n (omega arith)); here = λ c. f.here (k.each m c).0 })
    by (inr h) =
        let less = h.1 in
        subst (λ (b : Bool). FailsFirstAt C (if b then m else q)) (sym h.0)
        (record { below = λ n lt. k.both n (f.below n (omega arith)) (g.below n lt); here = λ c. g.here (k.each q c).1 })

All-left : {X : Type 0} (P : X → Type 0) (xs ys : List X) → All P (xs ++ ys) → All P xs
All-left P [] ys h = All-nil P
All-left P (x ∷ xs) ys h = All-cons P x xs (All-head P x (xs ++ ys) h) (All-left P xs ys (All-tail P x (xs ++ ys) h))

All-last : {X : Type 0} (P : X → Type 0) (xs : List X) (x : X) → All P (xs ++ x ∷ []) → P x
All-last P [] x h = All-head P x [] h
All-last P (y ∷ xs) x h = All-last P xs x (All-tail P y (xs ++ x ∷ []) h)

-- the elements up to the next
taken : {X : Type 0} (xs : List X) (i : ℕ) (x : X) → i < length xs → x ≡ get_or xs i x → take (i + 1) xs ≡ take i xs ++ x ∷ []
taken {X} xs i x lt at = take_more xs i x lt ∙ ap (λ (y : X). take i xs ++ y ∷ []) (sym at)

pub one_more : {X : Type 0} (P : X → Type 0) (xs : List X) (i : ℕ) (x : X) → i < length xs → x ≡ get_or xs i x → All P (take i xs) → P x → All P (take (i + 1) xs)
one_more P xs i x lt at h p = All-more P xs i x lt h (subst P at p)

pub but_one : {X : Type 0} (P : X → Type 0) (xs : List X) (i : ℕ) (x : X) → i < length xs → x ≡ get_or xs i x → All P (take (i + 1) xs) → All P (take i xs) × P x
but_one P xs i x lt at h =
    let all = All-same P (take i xs ++ x ∷ []) (take (i + 1) xs) (sym (taken xs i x lt at)) h in
    (All-left P (take i xs) (x ∷ []) all, All-last P (take i xs) x all)

pub next_seat : (entries : List Entry) (seats : List SeatValue) (i : ℕ) (s : SeatValue) (o p : Option ℕ) → i < length seats → s ≡ get_or seats i s
    → First (All (HasItsCalls entries) (take i seats)) (λ n. All (AgreesUpTo entries n) (take i seats)) o
    → First (HasItsCalls entries s) (λ n. AgreesUpTo entries n s) p
    → First (All (HasItsCalls entries) (take (i + 1) seats)) (λ n. All (AgreesUpTo entries n) (take (i + 1) seats)) (earlier o p)
next_seat entries seats i s o p lt at f g =
    first_of_both _ _ _ (λ n. All (AgreesUpTo entries n) (take i seats)) (λ n. AgreesUpTo entries n s) (λ n. All (AgreesUpTo entries n) (take (i + 1) seats))
    (record {
      whole = λ w v. one_more (HasItsCalls entries) seats i s lt at w v;
      one = λ w n. All-weaker (HasItsCalls entries) (AgreesUpTo entries n) (λ (x : SeatValue) h. whole_agrees entries x h n) (take i seats) w;
      other = λ v n. whole_agrees entries s v n;
      both = λ n a b. one_more (AgreesUpTo entries n) seats i s lt at a b;
      each = λ n c. but_one (AgreesUpTo entries n) seats i s lt at c;
    })
    o p f g

pub seats_and_entries : (entries : List Entry) (seats : List SeatValue) (o p : Option ℕ)
    → First (All (HasItsCalls entries) seats) (λ n. All (AgreesUpTo entries n) seats) o
    → First (All (HasOneSeat seats) entries) (λ n. All (HasOneSeat seats) (take n entries)) p
    → First (AreCallsOf seats entries) (λ n. AgreeUpTo seats entries n) (earlier o p)
seats_and_entries entries seats o p f g =
    first_of_both _ _ _ (λ n. All (AgreesUpTo entries n) seats) (λ n. All (HasOneSeat seats) (take n entries)) (λ n. AgreeUpTo seats entries n)
    (record {
      whole = λ w v. record { each_seat = w; each_entry = v };
      one = λ w n. All-weaker (HasItsCalls entries) (AgreesUpTo entries n) (λ (x : SeatValue) h. whole_agrees entries x h n) seats w;
      other = λ v n. All-take (HasOneSeat seats) n entries v;
      both = λ n a b. record { each_seat = a; each_entry = b };
      each = λ n c. (c.each_seat, c.each_entry);
    })
    o p f g

pub not_one_seat : (entries : List Entry) (seats : List SeatValue) (i : ℕ) (e : Entry) → i < length entries → e ≡ get_or entries i e
    → All (HasOneSeat seats) (take i entries) → (HasOneSeat seats e → ⊥) → FailsFirstAt (λ n. All (HasOneSeat seats) (take n entries)) (i + 1)
not_one_seat entries seats i e lt at so_far not = record {
  below = λ n less. All-same (HasOneSeat seats) (take n entries) (take n (take i entries)) (sym (take-take n i entries (omega arith))) (All-take (HasOneSeat seats) n (take i entries) so_far);
  here = λ all. not (but_one (HasOneSeat seats) entries i e lt at all).1;
}
