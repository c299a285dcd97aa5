use Rattle.std.proofs.Common.{◌≡◌, ℕ, Bool, true, false, List, [], ◌∷◌, refl, ap, ◌∙◌}
use Rattle.std.specs.Prelude.{◌&&◌, cond, max, nat_lt, not, fold, Option, Some, None, is_none, option_map, option_to_list}
use Rattle.std.specs.FinMap as fin
use Rattle.smq_kit.specs.declared.message_id.Key.{Key}
use Rattle.smq_kit.specs.declared.place.Dir.TheVariants.{FromCentre}
use Rattle.smq_tally.specs.declared.outcome.Outcome.{Outcome}
use Rattle.smq_present.specs.declared.join.lines.ReceiptStanding.{ReceiptStanding}
use Rattle.smq_present.specs.declared.present.kept.StoredPdu.{StoredPdu}
use Rattle.smq_present.specs.declared.present.session.Session.{Session}
use Rattle.smq_present.specs.join.Circumstances.{has_ended}
use Rattle.smq_present.specs.present.Present.{PresentValue}
use Rattle.smq_present.specs.present.Stream.{last_moment}
use Rattle.smq_deal.specs.Keys.{key_with, partner_of}
use Rattle.smq_deal.specs.Open.{awaits, last_known, may_get_message, may_get_receipt, on_link}
use Rattle.smq_deal.proofs.laws.known_settlement.Goals as goal

pub returns-clause-windows : goal.returns-clause-windows
returns-clause-windows c s link = record {
  last = λ e. ap (λ (w : ℕ). not (has_ended 1499 1000 w)) e;
  ended = λ e. ap (λ (w : ℕ). not (has_ended 1500 1000 w)) e;
}

abbrev later : ℕ → ℕ × Session → ℕ
later last e = max last (max (last_moment e.1.client) (last_moment e.1.centre))

one : (p : PresentValue) (e : ℕ × Session) (c a b : ℕ) → p.settings.clock ≡ c → fin.entries p.sessions ≡ e ∷ []
    → last_moment e.1.client ≡ a → last_moment e.1.centre ≡ b → last_known p ≡ max c (max a b)
one p e c a b clock sessions client centre =
    ap (λ (xs : List (ℕ × Session)). fold later p.settings.clock xs) sessions
    ∙ ap (λ (n : ℕ). max n (max (last_moment e.1.client) (last_moment e.1.centre))) clock
    ∙ ap (λ (n : ℕ). max c (max n (last_moment e.1.centre))) client
    ∙ ap (λ (n : ℕ). max c (max a n)) centre

pub returns-clause-moments : goal.returns-clause-moments
returns-clause-moments c p e = record {
  clock = λ clock none. ap (λ (xs : List (ℕ × Session)). fold later p.settings.clock xs) none ∙ clock;
  client = λ clock one-only client centre. one p e 8 9 7 clock one-only client centre;
  centre = λ clock one-only client centre. one p e 8 7 9 clock one-only client centre;
  earlier = λ clock one-only client centre. one p e 8 7 6 clock one-only client centre;
  settled = λ e. ap (λ (n : ℕ). cond (nat_lt 0 n) (Some n) None) e;
  nothing = λ e. ap (λ (n : ℕ). cond (nat_lt 0 n) (Some n) None) e;
}

abbrev part_of : Bool → ℕ
part_of b = cond b 1 0

part : (x y : Bool) → x ≡ y → part_of x ≡ part_of y
part x y e = ap part_of e

pub returns-clause-settled : goal.returns-clause-settled
returns-clause-settled c s has key source = record {
  settled = λ e. part _ _ e;
  is_open = λ e. part _ _ e;
  paired = refl;
  request = λ e. part _ _ e;
  response = λ e. part _ _ e;
  outbind = refl;
  alert = refl;
  past = λ e. part _ _ e;
}

and-no : (a b : Bool) → b ≡ false → (a && b) ≡ false
and-no true b e = e
and-no false b e = refl

pub returns-clause-open : goal.returns-clause-open
returns-clause-open c s now m r key = record {
  message = λ outcome of awaited.
      ap (λ (o : Outcome). cond (may_get_receipt o && awaits s now m.fact.link m.moment) (option_to_list (option_map (on_link m.fact.link) m.key)) []) outcome
      ∙ ap (λ (b : Bool). cond b (option_to_list (option_map (on_link m.fact.link) m.key)) []) awaited
      ∙ ap (λ (k : Option Key). option_to_list (option_map (on_link m.fact.link) k)) of;
  past_message = λ past.
      ap (λ (b : Bool). cond b (option_to_list (option_map (on_link m.fact.link) m.key)) []) (and-no (may_get_receipt m.fact.outcome) _ past);
  decided = λ outcome.
      ap (λ (o : Outcome). cond (may_get_receipt o && awaits s now m.fact.link m.moment) (option_to_list (option_map (on_link m.fact.link) m.key)) []) outcome;
  receipt = λ stands awaited.
      ap (λ (x : ReceiptStanding). cond (may_get_message x && awaits s now r.link r.moment) (on_link r.link r.key ∷ []) []) stands
      ∙ ap (λ (b : Bool). cond b (on_link r.link r.key ∷ []) []) awaited;
  past_receipt = λ past. ap (λ (b : Bool). cond b (on_link r.link r.key ∷ []) []) (and-no (may_get_message r.standing) _ past);
  matched = λ stands. ap (λ (x : ReceiptStanding). cond (may_get_message x && awaits s now r.link r.moment) (on_link r.link r.key ∷ []) []) stands;
}

pub returns-clause-unanswered : goal.returns-clause-unanswered
returns-clause-unanswered c s now source other earlier p q = record {
  waits = λ none awaited.
      ap (λ (x : Option StoredPdu). cond (is_none x && awaits s now source.link p.moment) (option_to_list (key_with source FromCentre p None)) []) none
      ∙ ap (λ (b : Bool). cond b (option_to_list (key_with source FromCentre p None)) []) awaited;
  answered = λ some.
      ap (λ (x : Option StoredPdu). cond (is_none x && awaits s now source.link p.moment) (option_to_list (key_with source FromCentre p None)) []) some;
  past = λ past.
      ap (λ (b : Bool). cond b (option_to_list (key_with source FromCentre p None)) []) (and-no (is_none (partner_of other earlier p)) _ past);
}
