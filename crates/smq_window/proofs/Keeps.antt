-- What the periods of a connection keep as PDUs come.
use Rattle.std.proofs.Common.{◌≡◌, ℕ, ◌+◌, ◌-◌, ◌<◌, ◌≤◌, ◌&&◌, ◌||◌, suc, Bool, true, false, cond, List, [], ◌∷◌, ◌++◌, length, get_or, Option, Some, None, unwrap_or, refl, sym, ap, subst, ◌∙◌, arith, ⊎_elim, leb, ltb, nat_eq}
use Rattle.std.proofs.lemmas.Bool.{cases_eq, cases_lt, false≢true, ltb-true, ltb-false, leb-true, le-leb, and_parts, lt-ltb, le-ltb, eq-eqb, ne_eqb, both_ways}
use Rattle.std.proofs.lemmas.List.{get_or_default, get_or-map, get_or_push, length-append, length-map, map_push}
use Rattle.std.proofs.lemmas.List.Sums.{sum_by_push}
use Rattle.std.proofs.lemmas.List.Folds.{list_any_at, list_any_none}
use Rattle.std.proofs.lemmas.List.Quantifiers.{all_pairs_push}
use Rattle.std.proofs.lemmas.List.Elements.{All-push}
use Rattle.std.specs.List.{All, AllPairs, list_any}
use Rattle.smq_kit.specs.declared.place.Dir.{Dir}
use Rattle.smq_window.specs.declared.balance.Balance.{Balance}
use Rattle.smq_window.specs.declared.balance.Waiting.{Waiting}
use Rattle.smq_window.specs.declared.exchange.Exchange.{Exchange}
use Rattle.smq_window.specs.declared.exchange.Half.{Half}
use Rattle.smq_window.specs.declared.exchange.Half.TheVariants.{Request, Response}
use Rattle.smq_window.specs.declared.periods.Period.{Period}
use Rattle.smq_window.specs.Exchange.{exchange_of, other_half, same_half}
use Rattle.smq_window.specs.Homes.{Homed, awaits, halves, home_of, is_at_home, with_period}
use Rattle.smq_window.specs.within.Waiting.{number_of, waiting_of}
use Rattle.smq_window.specs.within.Kept.{Ascend, IsFirst, Homes, IsKept, MovesAt, Opens, awaits_from, awaits_in, numbers, waiting_at, waiting_in}
use Rattle.smq_window.proofs.Homes.{least-at, least-none}
use Rattle.smq_window.proofs.Sums.{new-waits, number-here, sum-none, sum-one}

-- ---- halves that wait

alone-at : (half kept : Half) (n : ℕ) → ltb 0 (cond (same_half (other_half half) kept) n 0) ≡ true → cond (same_half half kept) n 0 ≡ 0
alone-at Request Request n h = absurd (false≢true h)
alone-at Request Response n h = refl
alone-at Response Request n h = refl
alone-at Response Response n h = absurd (false≢true h)

-- where one half waits, the other doesn't
alone : (half : Half) (w : Option Waiting) → ltb 0 (number_of (other_half half) w) ≡ true → number_of half w ≡ 0
alone half None h = refl
alone half (Some w) h = alone-at half w.half w.number h

-- the other half waits, by what is counted and what is kept
awaiting : (half : Half) (h w : Half → ℕ) → h Request + w Response ≡ h Response + w Request → 0 < w (other_half half) → w half ≡ 0
    → ltb (h half) (h (other_half half)) ≡ true
awaiting Request h w e some zero = lt-ltb (h Request) (h Response) (omega (arith, e, some, zero))
awaiting Response h w e some zero = lt-ltb (h Response) (h Request) (omega (arith, e, some, zero))

idle : (half : Half) (h w : Half → ℕ) → h Request + w Response ≡ h Response + w Request → w (other_half half) ≡ 0
    → ltb (h half) (h (other_half half)) ≡ false
idle Request h w e zero = le-ltb (h Request) (h Response) (omega (arith, e, zero))
idle Response h w e zero = le-ltb (h Response) (h Request) (omega (arith, e, zero))

-- ---- periods by their numbers

number-at : (ps : List Period) (i : ℕ) (d : Period) → i < length ps → get_or (numbers ps) i 0 ≡ (get_or ps i d).number
number-at ps i d low = get_or-map (λ (p : Period). p.number) ps i d 0 low

ascend-periods : (ps : List Period) → Ascend (numbers ps) → AllPairs (λ p r. p.number < r.number) ps
ascend-periods ps ascend i j d below low =
    let l : j < length (numbers ps) = omega (arith, length-map ps (λ (p : Period). p.number)) in
    omega (arith, ascend i j 0 below l, number-at ps i d (omega arith), number-at ps j d low)

-- where the other half of a PDU doesn't wait in a period that is kept
not-there : (oldest : ℕ) (e : Exchange) (p : Period) → oldest ≤ p.number → awaits_from oldest e p ≡ false → awaits_in e p.balance ≡ false
not-there oldest e p low none = ap (λ (b : Bool). b && awaits_in e p.balance) (sym (le-leb oldest p.number low)) ∙ none

-- ---- the home

-- the first period in which the other half waits is the home
pub home-some : (pdus : List Homed) (oldest present : ℕ) (ps : List Period) (e : Exchange) (i : ℕ) (d : Period)
    → IsKept pdus oldest present ps → IsFirst oldest e ps (Some i) → (get_or ps i d).number ≡ home_of pdus oldest present (Some e)
home-some pdus oldest present ps e i d kept first =
    sym (ap (λ o. unwrap_or o present) (least-at (present + 1 - oldest) oldest (get_or ps i d).number (awaits pdus e) low high there none))
  where
    ascend : AllPairs (λ p r. p.number < r.number) ps
    ascend = ascend-periods ps kept.ascend

    in_list : i < length (numbers ps)
    in_list = omega (arith, length-map ps (λ (p : Period). p.number), first.0)

    both : (leb oldest (get_or ps i d).number ≡ true) × (awaits_in e (get_or ps i d).balance ≡ true)
    both = and_parts (leb oldest (get_or ps i d).number) (awaits_in e (get_or ps i d).balance) (first.1 d)

    low : oldest ≤ (get_or ps i d).number
    low = leb-true oldest (get_or ps i d).number both.0

    high : (get_or ps i d).number < oldest + (present + 1 - oldest)
    high = omega (arith, kept.within i 0 in_list, number-at ps i d first.0, kept.order)

    there : awaits pdus e (get_or ps i d).number ≡ true
    there =
        awaiting e.half (λ x. halves pdus (get_or ps i d).number e.asker e.sequence_number x)
        (λ x. waiting_at ps (get_or ps i d).number e.asker e.sequence_number x)
        (kept.balances (get_or ps i d).number low e.asker e.sequence_number)
        (omega (arith, sum-one (get_or ps i d).number e.asker e.sequence_number (other_half e.half) ps i d ascend first.0 refl, ltb-true 0 (waiting_in (get_or ps i d).balance e.asker e.sequence_number (other_half e.half)) both.1))
        (sum-one (get_or ps i d).number e.asker e.sequence_number e.half ps i d ascend first.0 refl
        ∙ alone e.half (waiting_of (get_or ps i d).balance e.asker e.sequence_number) both.1)

    before : (p : ℕ) → p < (get_or ps i d).number → (k : ℕ) (f : Period) → k < length ps → (get_or ps k f).number ≡ p → k < i
    before p below k f inside is =
        ⊎_elim
        (λ (b : k < i). b)
        (λ (a : i ≤ k).
        let mine : (get_or ps i f).number ≡ (get_or ps i d).number = ap (λ (x : Period). x.number) (get_or_default ps i f d first.0) in
        ⊎_elim
        (λ (same : i ≡ k). absurd (omega (arith, ap (λ (j : ℕ). (get_or ps j f).number) same, mine, is)))
        (λ (apart : i ≡ k → ⊥). absurd (omega (arith, ascend i k f (omega arith) inside, mine, is)))
        (cases_eq i k))
        (cases_lt k i)

    none : (p : ℕ) → oldest ≤ p → p < (get_or ps i d).number → awaits pdus e p ≡ false
    none p l below =
        idle e.half (λ x. halves pdus p e.asker e.sequence_number x) (λ x. waiting_at ps p e.asker e.sequence_number x)
        (kept.balances p l e.asker e.sequence_number)
        (sum-none p e.asker e.sequence_number (other_half e.half) ps (λ k f inside is.
        omega (arith, ltb-false 0 (waiting_in (get_or ps k f).balance e.asker e.sequence_number (other_half e.half)) (not-there oldest e (get_or ps k f) (omega (arith, is)) (first.2 k f (before p below k f inside is))))))

-- where the other half waits nowhere, the present period is the home
pub home-none : (pdus : List Homed) (oldest present : ℕ) (ps : List Period) (e : Exchange)
    → IsKept pdus oldest present ps → IsFirst oldest e ps None → present ≡ home_of pdus oldest present (Some e)
home-none pdus oldest present ps e kept first =
    sym (ap (λ o. unwrap_or o present) (least-none (present + 1 - oldest) oldest (awaits pdus e) (λ p l h.
    idle e.half (λ x. halves pdus p e.asker e.sequence_number x) (λ x. waiting_at ps p e.asker e.sequence_number x)
    (kept.balances p l e.asker e.sequence_number)
    (sum-none p e.asker e.sequence_number (other_half e.half) ps (λ k f inside is.
    omega (arith, ltb-false 0 (waiting_in (get_or ps k f).balance e.asker e.sequence_number (other_half e.half)) (not-there oldest e (get_or ps k f) (omega (arith, is)) (first k f inside))))))))

-- ---- a new period

-- numbers with one that may be new ascend up to it
with-in_order : (ns : List ℕ) (present : ℕ) → Ascend ns → All (λ p. p ≤ present) ns
    → Ascend (with_period ns present) × All (λ p. p ≤ present) (with_period ns present)
with-in_order ns present ascend within = at (list_any (nat_eq present) ns) refl
  where
    at : (b : Bool) → list_any (nat_eq present) ns ≡ b
        → Ascend (cond b ns (ns ++ present ∷ [])) × All (λ p. p ≤ present) (cond b ns (ns ++ present ∷ []))
    at true is = (ascend, within)
    at false is = (
      all_pairs_push (λ a b. a < b) ns present ascend (λ k d low.
          let most = within k d low in
          let apart : get_or ns k d ≡ present → ⊥ = λ e. both_ways (list_any (nat_eq present) ns) is (list_any_at (nat_eq present) ns k d low (eq-eqb present (get_or ns k d) (sym e))) in
          omega (arith, most, apart)),
      All-push (λ p. p ≤ present) ns present within (omega arith),
    )

last-number : (ps : List Period) (present : ℕ) → 0 < length ps → ((d : Period) → (get_or ps (length ps - 1) d).number ≡ present)
    → get_or (numbers ps) (length ps - 1) 0 ≡ present
last-number [] present some newest = absurd (omega arith)
last-number (p ∷ ps) present some newest =
    number-at (p ∷ ps) (length (p ∷ ps) - 1) p (omega arith) ∙ newest p

other-number : (ps : List Period) (present : ℕ) → (0 < length ps → (d : Period) → (get_or ps (length ps - 1) d).number ≡ present → ⊥)
    → 0 < length ps → get_or (numbers ps) (length ps - 1) 0 ≡ present → ⊥
other-number [] present older some is = absurd (omega arith)
other-number (p ∷ ps) present older some is =
    older some p (sym (number-at (p ∷ ps) (length (p ∷ ps) - 1) p (omega arith)) ∙ is)

-- a number that is there is not put behind
pub with-there : (ns : List ℕ) (i n : ℕ) → i < length ns → get_or ns i 0 ≡ n → ns ≡ with_period ns n
with-there ns i n low is =
    sym (ap (λ (b : Bool). cond b ns (ns ++ n ∷ [])) (list_any_at (nat_eq n) ns i 0 low (eq-eqb n (get_or ns i 0) (sym is))))

numbers-length : (ps : List Period) → length (numbers ps) ≡ length ps
numbers-length ps = length-map ps (λ (p : Period). p.number)

-- the newest period is there
pub opened-same : (present : ℕ) (ps : List Period) → 0 < length ps → ((d : Period) → (get_or ps (length ps - 1) d).number ≡ present)
    → Opens present ps ps (length ps - 1)
opened-same present ps some newest =
    record {
      at = omega arith;
      number = last-number ps present some newest;
      waits = λ _ _ _ _. refl;
      numbers = λ ascend within.
          with-there (numbers ps) (length ps - 1) present (omega (arith, numbers-length ps)) (last-number ps present some newest);
    }

-- a new period is put behind the others
pub opened : (present : ℕ) (ps : List Period) (balance : Balance) → ((asker : Dir) (number : ℕ) → waiting_of balance asker number ≡ None)
    → (0 < length ps → (d : Period) → (get_or ps (length ps - 1) d).number ≡ present → ⊥)
    → Opens present ps (ps ++ record { number = present; balance = balance } ∷ []) (length ps)
opened present ps balance none older =
    record {
      at = omega (arith, length-append ps (new ∷ []));
      number = ap (λ (ns : List ℕ). get_or ns (length ps) 0) (map_push (λ (p : Period). p.number) ps new)
          ∙ get_or_push (numbers ps) present 0 (length ps) (numbers-length ps);
      waits = new-waits ps new none;
      numbers = λ ascend within.
          map_push (λ (p : Period). p.number) ps new
          ∙ sym (ap (λ (b : Bool). cond b (numbers ps) (numbers ps ++ present ∷ [])) (list_any_none (nat_eq present) (numbers ps) (λ k d low.
          ne_eqb present (get_or (numbers ps) k d) (λ e. apart ascend within k d low (sym e)))));
    }
  where
    new : Period
    new = record { number = present; balance = balance }

    apart : Ascend (numbers ps) → All (λ p. p ≤ present) (numbers ps)
        → (k d : ℕ) → k < length (numbers ps) → get_or (numbers ps) k d ≡ present → ⊥
    apart ascend within k d low is =
        let size = numbers-length ps in
        let here : get_or (numbers ps) k 0 ≡ present = get_or_default (numbers ps) k 0 d low ∙ is in
        ⊎_elim
        (λ (e : k ≡ length ps - 1). other-number ps present older (omega arith) (ap (λ (j : ℕ). get_or (numbers ps) j 0) (sym e) ∙ here))
        (λ (ne : k ≡ length ps - 1 → ⊥).
        let below = ascend k (length ps - 1) 0 (omega arith) (omega arith) in
        let most = within (length ps - 1) 0 (omega arith) in
        omega (arith, below, most, here))
        (cases_eq k (length ps - 1))

-- ---- a PDU that comes

pub kept-open : (pdus : List Homed) (oldest present : ℕ) (before after : List Period) (index : ℕ)
    → IsKept pdus oldest present before → Opens present before after index → IsKept pdus oldest present after
kept-open pdus oldest present before after index kept opens =
    let ns = opens.numbers kept.ascend kept.within in
    let ordered = with-in_order (numbers before) present kept.ascend kept.within in
    record {
      order = kept.order;
      balances = λ q low asker number.
          omega (arith, kept.balances q low asker number, opens.waits q asker number Request, opens.waits q asker number Response);
      ascend = subst Ascend (sym ns) ordered.0;
      within = subst (All (λ p. p ≤ present)) (sym ns) ordered.1;
    }

pub kept-put : (pdus : List Homed) (oldest present : ℕ) (before after : List Period) (home : ℕ) (sender : Dir) (octets : List ℕ)
    → IsKept pdus oldest present before → MovesAt home (exchange_of sender octets) before after → numbers after ≡ numbers before
    → IsKept (pdus ++ record { home = home; sender = sender; octets = octets } ∷ []) oldest present after
kept-put pdus oldest present before after home sender octets kept moves same =
    let h : Homed = record { home = home; sender = sender; octets = octets } in
    record {
      order = kept.order;
      balances = λ q low asker number.
          omega (
            arith,
            kept.balances q low asker number,
            moves q asker number,
            sum_by_push (λ (x : Homed). cond (is_at_home q asker number Request x) 1 0) pdus h,
            sum_by_push (λ (x : Homed). cond (is_at_home q asker number Response x) 1 0) pdus h,
          );
      ascend = subst Ascend (sym same) kept.ascend;
      within = subst (All (λ p. p ≤ present)) (sym same) kept.within;
    }

-- ---- the home's index

pub home-found : (pdus : List Homed) (oldest present : ℕ) (ps : List Period) (exchange : Option Exchange) (i : ℕ) → i < length ps
    → ((e : Exchange) → exchange ≡ Some e → IsFirst oldest e ps (Some i)) → (exchange ≡ None → Some i ≡ None)
    → IsKept pdus oldest present ps → Homes pdus oldest present exchange ps ps i
home-found pdus oldest present ps None i low first none kept = absurd (some-none i (none refl))
  where
    some-none : (j : ℕ) → Some j ≡ None → ⊥
    some-none j e = absurd cc
home-found pdus oldest present ps (Some e) i low first none kept =
    record {
      kept = kept;
      number = same ps low (λ d. home-some pdus oldest present ps e i d kept (first e refl));
      numbers = with-there (numbers ps) i (home_of pdus oldest present (Some e)) (omega (arith, numbers-length ps))
          (same ps low (λ d. home-some pdus oldest present ps e i d kept (first e refl)));
    }
  where
    same : (rs : List Period) → i < length rs → ((d : Period) → (get_or rs i d).number ≡ home_of pdus oldest present (Some e))
        → get_or (numbers rs) i 0 ≡ home_of pdus oldest present (Some e)
    same [] inside is = absurd (omega arith)
    same (r ∷ rs) inside is = number-at (r ∷ rs) i r inside ∙ is r

present-home : (pdus : List Homed) (oldest present : ℕ) (ps : List Period) (exchange : Option Exchange)
    → ((e : Exchange) → exchange ≡ Some e → IsFirst oldest e ps None) → IsKept pdus oldest present ps
    → present ≡ home_of pdus oldest present exchange
present-home pdus oldest present ps None first kept = refl
present-home pdus oldest present ps (Some e) first kept = home-none pdus oldest present ps e kept (first e refl)

pub home-opened : (pdus : List Homed) (oldest present : ℕ) (before after : List Period) (exchange : Option Exchange) (i : ℕ)
    → ((e : Exchange) → exchange ≡ Some e → IsFirst oldest e before None) → Opens present before after i
    → IsKept pdus oldest present before → Homes pdus oldest present exchange before after i
home-opened pdus oldest present before after exchange i first opens kept =
    let home = present-home pdus oldest present before exchange first kept in
    record {
      kept = kept-open pdus oldest present before after i kept opens;
      number = opens.number ∙ home;
      numbers = opens.numbers kept.ascend kept.within ∙ ap (λ (n : ℕ). with_period (numbers before) n) home;
    }

-- a PDU that was put at its home's index
pub home-put : (pdus : List Homed) (oldest present : ℕ) (before opened after : List Period) (exchange : Option Exchange) (i home : ℕ)
    (sender : Dir) (octets : List ℕ) → exchange_of sender octets ≡ exchange → Homes pdus oldest present exchange before opened i
    → get_or (numbers opened) i 0 ≡ home → numbers after ≡ numbers opened → MovesAt home exchange opened after
    → (home ≡ home_of pdus oldest present exchange)
    × IsKept (pdus ++ record { home = home; sender = sender; octets = octets } ∷ []) oldest present after
    × (numbers after ≡ with_period (numbers before) home)
home-put pdus oldest present before opened after exchange i home sender octets is homes number same moves =
    let here : home ≡ home_of pdus oldest present exchange = sym number ∙ homes.number in (
      here,
      kept-put pdus oldest present opened after home sender octets homes.kept
          (subst (λ (x : Option Exchange). MovesAt home x opened after) (sym is) moves) same,
      same ∙ homes.numbers ∙ ap (λ (n : ℕ). with_period (numbers before) n) (sym here),
    )

-- of no PDUs nothing is kept
pub kept-nothing : (oldest present : ℕ) → oldest ≤ present → IsKept [] oldest present []
kept-nothing oldest present order =
    record {
      order = order;
      balances = λ q low asker number. refl;
      ascend = λ i j d below low. absurd (omega arith);
      within = λ k d low. absurd (omega arith);
    }

-- where no period has a number, it isn't among the numbers
pub without-number : (q : ℕ) (ps : List Period) → ((k : ℕ) (d : Period) → k < length ps → (get_or ps k d).number ≡ q → ⊥)
    → list_any (nat_eq q) (numbers ps) ≡ false
without-number q [] none = refl
without-number q (p ∷ ps) none =
    ap (λ (b : Bool). b || list_any (nat_eq q) (numbers ps)) (ne_eqb q p.number (λ e. none 0 p (omega arith) (sym e)))
    ∙ without-number q ps (λ k d low. none (suc k) d (omega arith))

pub with-number : (q : ℕ) (ps : List Period) (i : ℕ) (p : Period) → i < length ps → p ≡ get_or ps i p → p.number ≡ q
    → true ≡ list_any (nat_eq q) (numbers ps)
with-number q ps i p low is same =
    sym (list_any_at (nat_eq q) (numbers ps) i 0 (omega (arith, numbers-length ps))
    (eq-eqb q (get_or (numbers ps) i 0) (sym (number-here ps i p low is ∙ same))))
