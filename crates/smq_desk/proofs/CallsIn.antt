-- The calls that a history has of a seat: of its beginning and of what comes after it.
use Rattle.std.proofs.Common.{◌≡◌, ℕ, zero, suc, ◌+◌, ◌==◌, ◌≤◌, List, [], ◌∷◌, ◌++◌, refl, ap, length, take, drop, arith, true, false, All, add-zero, if◌then◌else◌}
use Rattle.std.proofs.lemmas.List.Elements.{All-nil, All-cons, All-weaker}
use Rattle.smq_desk.specs.declared.entry.Entry.{Entry}
use Rattle.smq_desk.specs.declared.entry.Call.{Call}
use Rattle.smq_desk.specs.Seats.{call_of, calls_from}

-- the entries of a history up to a number, and those after it
pub calls_from-split : (f k n : ℕ) (es : List Entry) → calls_from f k es ≡ calls_from f k (take n es) ++ calls_from (f + n) k (drop n es)
calls_from-split f k zero es = rw add-zero refl
calls_from-split f k (suc n) [] = refl
calls_from-split f k (suc n) (e ∷ es) =
    let at : f + suc n ≡ (f + 1) + n = omega arith in
    let ih = calls_from-split (f + 1) k n es in
    rw at (elim (e.seat == k) as
    (λ b. (if b then call_of f e.edit e.reply ∷ calls_from (f + 1) k es else calls_from (f + 1) k es)
    ≡ (if b then call_of f e.edit e.reply ∷ calls_from (f + 1) k (take n es) else calls_from (f + 1) k (take n es)) ++ calls_from ((f + 1) + n) k (drop n es))
    [ true ↦ ap (λ (cs : List Call). call_of f e.edit e.reply ∷ cs) ih | false ↦ ih ])

-- a history and more entries
pub calls_from-append : (f k : ℕ) (es ds : List Entry) → calls_from f k (es ++ ds) ≡ calls_from f k es ++ calls_from (f + length es) k ds
calls_from-append f k [] ds = rw add-zero refl
calls_from-append f k (e ∷ es) ds =
    let at : f + length (e ∷ es) ≡ (f + 1) + length es = omega arith in
    let ih = calls_from-append (f + 1) k es ds in
    rw at (elim (e.seat == k) as
    (λ b. (if b then call_of f e.edit e.reply ∷ calls_from (f + 1) k (es ++ ds) else calls_from (f + 1) k (es ++ ds))
    ≡ (if b then call_of f e.edit e.reply ∷ calls_from (f + 1) k es else calls_from (f + 1) k es) ++ calls_from ((f + 1) + length es) k ds)
    [ true ↦ ap (λ (cs : List Call). call_of f e.edit e.reply ∷ cs) ih | false ↦ ih ])

-- numbers begin at the first
pub calls_from-numbers : (f k : ℕ) (es : List Entry) → All (λ (c : Call). f ≤ c.number) (calls_from f k es)
calls_from-numbers f k [] = All-nil (λ (c : Call). f ≤ c.number)
calls_from-numbers f k (e ∷ es) =
    let later = All-weaker (λ (c : Call). f + 1 ≤ c.number) (λ (c : Call). f ≤ c.number) (λ (c : Call) (h : f + 1 ≤ c.number). omega arith) (calls_from (f + 1) k es) (calls_from-numbers (f + 1) k es) in
    elim (e.seat == k) as (λ b. All (λ (c : Call). f ≤ c.number) (if b then call_of f e.edit e.reply ∷ calls_from (f + 1) k es else calls_from (f + 1) k es))
    [ true ↦ All-cons (λ (c : Call). f ≤ c.number) (call_of f e.edit e.reply) (calls_from (f + 1) k es) (omega arith) later | false ↦ later ]

-- what one entry is
pub calls_from-own : (f k : ℕ) (e : Entry) → (e.seat == k) ≡ true → calls_from f k (e ∷ []) ≡ call_of f e.edit e.reply ∷ []
calls_from-own f k e own = rw own refl

pub calls_from-other : (f k : ℕ) (e : Entry) → (e.seat == k) ≡ false → calls_from f k (e ∷ []) ≡ []
calls_from-other f k e other = rw other refl
