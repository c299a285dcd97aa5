-- The oldest period of a connection, and what is left without it.
use Rattle.std.proofs.Common.{◌≡◌, ℕ, suc, ◌<◌, ◌&&◌, true, false, List, [], ◌∷◌, length, get_or, drop, refl, sym, ap, subst, ◌∙◌, arith}
use Rattle.std.proofs.lemmas.Bool.{eqb-true, eq-eqb, ne_eqb}
use Rattle.std.proofs.lemmas.List.Sums.{sum_by-cons}
use Rattle.smq_window.specs.declared.connection.Connection.{Connection}
use Rattle.smq_window.specs.declared.exchange.Half.TheVariants.{Request, Response}
use Rattle.smq_window.specs.declared.periods.Period.{Period}
use Rattle.smq_window.specs.Connection.{ConnectionValue}
use Rattle.smq_window.specs.Window.{is_first, without_first}
use Rattle.smq_window.specs.within.Kept.{IsKept, numbers, share_of}
use Rattle.smq_window.specs.within.Shown.{Shows}
use Rattle.smq_window.proofs.Sums.{share-other}

pub first-is : (ps : List Period) (q : ℕ) → 0 < length ps → ((d : Period) → (get_or ps 0 d).number ≡ q) → is_first q (numbers ps) ≡ true
first-is [] q some is = absurd (omega arith)
first-is (p ∷ ps) q some is = eq-eqb p.number q (is p)

pub first-other : (ps : List Period) (q : ℕ) → (0 < length ps → (d : Period) → (get_or ps 0 d).number ≡ q → ⊥) → is_first q (numbers ps) ≡ false
first-other [] q other = refl
first-other (p ∷ ps) q other = ne_eqb p.number q (λ e. other (omega arith) p e)

-- ---- a period that leaves

pub first-forgotten : (c : ConnectionValue) (oldest present period : ℕ) (kept after : Connection) → period < oldest → Shows c oldest present kept
    → is_first period (numbers kept.periods.items) ≡ true → after.link ≡ kept.link → after.client ≡ kept.client → after.centre ≡ kept.centre
    → after.periods.items ≡ drop 1 kept.periods.items → Shows (without_first c) oldest present after
first-forgotten c oldest present period kept after older shows first link client centre items =
    record {
      link = link ∙ shows.link;
      client = client ∙ shows.client;
      centre = centre ∙ shows.centre;
      periods = ap numbers items ∙ names kept.periods.items ∙ ap (λ (ns : List ℕ). drop 1 ns) shows.periods;
      balances = subst (λ (ps : List Period). IsKept c.pdus oldest present ps) (sym items) (behind kept.periods.items first shows.balances);
    }
  where
    names : (ps : List Period) → numbers (drop 1 ps) ≡ drop 1 (numbers ps)
    names [] = refl
    names (p ∷ ps) = refl

    behind : (ps : List Period) → is_first period (numbers ps) ≡ true → IsKept c.pdus oldest present ps → IsKept c.pdus oldest present (drop 1 ps)
    behind [] is balances = balances
    behind (p ∷ ps) is balances =
        let same : p.number ≡ period = eqb-true p.number period is in
        record {
          order = balances.order;
          balances = λ q low asker number.
              omega (
                arith,
                balances.balances q low asker number,
                sum_by-cons (share_of q asker number Request) p ps,
                sum_by-cons (share_of q asker number Response) p ps,
                share-other q asker number Request p (λ e. omega arith),
                share-other q asker number Response p (λ e. omega arith),
              );
          ascend = λ i j d below low. balances.ascend (suc i) (suc j) d (omega arith) (omega arith);
          within = λ k d low. balances.within (suc k) d (omega arith);
        }
