-- Windows that are set again, of one link and of two, and before and after a clock.
use Rattle.std.proofs.Common.{◌≡◌, ◌≢◌, ℕ, Bool, true, false, cond, Option, Some, None, refl, sym, ap, ◌∙◌}
use Rattle.std.specs.Prelude.{◌==◌, unwrap_or}
use Rattle.std.specs.Ordering.{nat_cmp, eq_by_cmp}
use Rattle.std.specs.Cmp.{nat_cmp_total, unsigned_tied}
use Rattle.std.specs.FinMap.{FinMap, get, insert, get-insert, same_map, nat_cmp-IsAntisymmetric}
use Rattle.std.proofs.lemmas.Bool.{eqb-true}
use Rattle.smq_kit.specs.declared.names.LinkId.{LinkId}
use Rattle.smq_kit.specs.declared.refusal.Refusal.{Refusal}
use Rattle.smq_present.specs.declared.present.edit.Edit.TheVariants.{SetWindow, Advance}
use Rattle.smq_present.specs.pairing.Traffic.{TrafficValue}
use Rattle.smq_present.specs.present.Present.{PresentValue}
use Rattle.smq_present.specs.present.Replies.{reply}
use Rattle.smq_present.specs.present.Settings.{SettingsValue, opening_window, window_if_set, window_in, with_windows}
use Rattle.smq_present.specs.present.Steps.{step, step_unless, with_window}
use Rattle.smq_present.specs.join.Circumstances.{window_of}
use Rattle.smq_present.specs.join.Facts.{facts_of}
use Rattle.smq_book.proofs.lemmas.edits.WindowEdits.{same-windows}
use Rattle.smq_present.proofs.lemmas.present.Changes.{insert-insert}
use Rattle.smq_present.proofs.lemmas.present.NumberMaps.{insert-same}

-- ---- a window that is set back

module _ {X : Type 0} where
  hidden : (b : Bool) (v w : X) (x : Option X) → cond b (Some w) (cond b (Some v) x) ≡ cond b (Some w) x
  hidden true v w x = refl
  hidden false v w x = refl

  -- of two values at one number the later stands
  insert-again : (m : FinMap nat_cmp X) (k : ℕ) (v w : X) → insert (insert m k v) k w ≡ insert m k w
  insert-again m k v w = same_map nat_cmp_total nat_cmp-IsAntisymmetric _ _ (λ q.
      get-insert nat_cmp_total (insert m k v) k w q
      ∙ ap (cond (eq_by_cmp nat_cmp q k) (Some w)) (get-insert nat_cmp_total m k v q)
      ∙ hidden (eq_by_cmp nat_cmp q k) v w (get m q)
      ∙ sym (get-insert nat_cmp_total m k w q))

-- set back to the window that was set, all that is set is as it was
pub back : (s : SettingsValue) (link : LinkId) (window before : ℕ) → window_if_set s link.0 ≡ Some before
    → with_window (with_window s link window) link before ≡ s
back s link window before was =
    ap (with_windows s) (insert-again s.windows link.0 window before ∙ insert-same s.windows link.0 before was)

window-by : (m : FinMap nat_cmp ℕ) (q k : ℕ) (b : Bool) → (q == k) ≡ b
    → unwrap_or (cond b (Some (unwrap_or (get m k) opening_window)) (get m q)) opening_window ≡ unwrap_or (get m q) opening_window
window-by m q k true e = ap (λ n. unwrap_or (get m n) opening_window) (sym (eqb-true q k e))
window-by m q k false e = refl

-- set back to the one that its link had, every link has the window that it had
pub windows-back : (s : SettingsValue) (link : LinkId) (window : ℕ) (other : LinkId)
    → window_of (with_window (with_window s link window) link (window_of s link)) other ≡ window_of s other
windows-back s link window other =
    ap (λ windows. window_in windows other) (insert-again s.windows link.0 window (window_of s link))
    ∙ ap (λ w. unwrap_or w opening_window) (get-insert nat_cmp_total s.windows link.0 (window_of s link) other.0
    ∙ ap (λ b. cond b (Some (window_of s link)) (get s.windows other.0)) (unsigned_tied other.0 link.0))
    ∙ window-by s.windows other.0 link.0 (other.0 == link.0) refl

pub facts-back : (s : SettingsValue) (link : LinkId) (window : ℕ) (t : TrafficValue)
    → facts_of (with_window (with_window s link window) link (window_of s link)) t ≡ facts_of s t
facts-back s link window t =
    same-windows s (with_window (with_window s link window) link (window_of s link)).windows t (windows-back s link window)

-- so it is where none was set and the opening window is set
pub facts-opening : (s : SettingsValue) (link : LinkId) (window : ℕ) (t : TrafficValue) → window_if_set s link.0 ≡ None
    → facts_of (with_window (with_window s link window) link opening_window) t ≡ facts_of s t
facts-opening s link window t none =
    ap (λ w. facts_of (with_window (with_window s link window) link (unwrap_or w opening_window)) t) (sym none)
    ∙ facts-back s link window t

-- ---- edits in either order

advanced : (p : PresentValue) (link : LinkId) (window clock : ℕ) (o : Option Refusal)
    → step_unless o (step p (SetWindow link window)) (Advance clock) ≡ step (step_unless o p (Advance clock)) (SetWindow link window)
advanced p link window clock None = refl
advanced p link window clock (Some r) = refl

-- a window and a clock leave the same, whichever is made first
pub advance-either : (p : PresentValue) (link : LinkId) (window clock : ℕ)
    → step (step p (SetWindow link window)) (Advance clock) ≡ step (step p (Advance clock)) (SetWindow link window)
advance-either p link window clock = advanced p link window clock (reply p (Advance clock))

-- and windows of two links do
pub windows-either : (p : PresentValue) (one two : LinkId) (v w : ℕ) → one ≢ two
    → step (step p (SetWindow one v)) (SetWindow two w) ≡ step (step p (SetWindow two w)) (SetWindow one v)
windows-either p one two v w ne =
    ap (λ windows. record p { settings = with_windows p.settings windows })
    (insert-insert p.settings.windows one.0 two.0 v w (λ is. ne (λ i. record { 0 = sym is i })))

-- of two windows of one link the later holds
pub windows-again : (p : PresentValue) (link : LinkId) (v w : ℕ) → step (step p (SetWindow link v)) (SetWindow link w) ≡ step p (SetWindow link w)
windows-again p link v w = ap (λ windows. record p { settings = with_windows p.settings windows }) (insert-again p.settings.windows link.0 v w)
