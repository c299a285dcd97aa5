-- The orders of keys are total, and keys that compare equal are one.
use Rattle.std.proofs.Common.{◌≡◌, ◌≢◌, Bool, true, false, cond, Option, None, Some, refl, sym, ap, ◌∙◌, subst}
use Rattle.std.proofs.lemmas.Bool.{false≢true}
use Rattle.std.specs.declared.cmp.Ordering.TheVariants.{Equal}
use Rattle.std.specs.Ordering.{is_eq}
use Rattle.std.specs.Cmp.{IsTotalOrder}
use Rattle.std.proofs.lemmas.Cmp.{tied_itself, nat_cmp_total, on_total, then_total}
use Rattle.std.specs.BTreeMap.{insert_entry, is_at}
use Rattle.smq_kit.specs.declared.place.Dir.{Dir}
use Rattle.smq_kit.specs.declared.place.Dir.TheVariants.{FromClient, FromCentre}
use Rattle.smq_kit.specs.Orders.{dir_cmp}
use Rattle.smq_kit.proofs.Comparisons.{is_equal}
use Rattle.smq_shelf.proofs.Changes.{lookup-insert_entry, lookup-insert_other}
use Rattle.std.proofs.lemmas.Cmp.{eq_by_cmp_equiv}
use Rattle.std.proofs.lemmas.Map.{lookup-remove_entry}
use Rattle.std.proofs.lemmas.Map.Keys.{IsDistinct-from_sorted}
use Rattle.std.specs.List.Sorted.{IsStrictlySortedBy}
use Rattle.std.specs.Map.{keys_of}
use Rattle.smq_shelf.specs.Values.{with_value}
use Rattle.smq_pair.specs.declared.paired_pdu.Exchange.{Exchange}
use Rattle.smq_pair.specs.declared.paired_pdu.Waiting.{Waiting}
use Rattle.smq_pair.specs.within.Orders.{exchange_cmp}
use Rattle.smq_pair.specs.within.KeyLaws.{dir_number, exchange_order, one_exchange}
use Rattle.smq_pair.specs.within.Waits.{Waits, waiting_kept}

pub same_dir : (a b : Dir) → dir_cmp a b ≡ Equal → a ≡ b
same_dir FromClient FromClient e = refl
same_dir FromCentre FromCentre e = refl
same_dir _ _ e = absurd cc

pub dir_itself : (a : Dir) → dir_cmp a a ≡ Equal
dir_itself FromClient = refl
dir_itself FromCentre = refl

-- ---- the orders of maps

pub exchanges_total : IsTotalOrder exchange_cmp
exchanges_total = subst IsTotalOrder (sym (λ i a b. exchange_order a b i))
    (then_total (on_total (λ (x : Exchange). x.seq) nat_cmp_total) (on_total (λ (x : Exchange). dir_number x.dir) nat_cmp_total))

-- a test passes at its own key alone
pub at_exchange : (k q : Exchange) (P : Bool → Type 0) → (k ≡ q → P true) → (k ≢ q → P false) → P (is_at (exchange_cmp k) q)
at_exchange k q P own other = elim (is_at (exchange_cmp k) q) as (λ b. is_at (exchange_cmp k) q ≡ b → P b) [
  | true ↦ λ e. own (one_exchange k q (is_equal (exchange_cmp k q) e))
  | false ↦ λ e. other (λ same. false≢true (sym e ∙ ap (λ x. is_eq (exchange_cmp k x)) (sym same) ∙ ap is_eq (tied_itself exchanges_total k)))
] refl

-- what is kept of an exchange where what waits of one is replaced
pub kept-with : (k q : Exchange) (w : Option Waiting) (m : Waits) → IsStrictlySortedBy exchange_cmp (keys_of m)
    → waiting_kept (with_value exchange_cmp k w m) q ≡ cond (is_at (exchange_cmp k) q) w (waiting_kept m q)
kept-with k q None m sorted =
    lookup-remove_entry (eq_by_cmp_equiv exchanges_total) (is_at (exchange_cmp k)) ((eq_by_cmp_equiv exchanges_total).congr k) q m
    (IsDistinct-from_sorted exchange_cmp (keys_of m) sorted)
kept-with k q (Some w) m sorted =
    at_exchange k q (λ b. waiting_kept (insert_entry exchange_cmp m k w) q ≡ cond b (Some w) (waiting_kept m q))
    (λ same. ap (waiting_kept (insert_entry exchange_cmp m k w)) (sym same) ∙ lookup-insert_entry exchanges_total k w m)
    (λ apart. lookup-insert_other exchanges_total k q w m (at_exchange q k (λ b. b ≡ false) (λ same. absurd (apart (sym same))) (λ _. refl)))
