use Rattle.std.proofs.Common.{true, ◌≡◌, ℕ, [], ◌∷◌, refl, ap, arith}
use Rattle.std.proofs.lemmas.List.Elements.{All-nil, All-cons}
use Rattle.smq_present.specs.declared.present.edit.Edit.{Edit}
use Rattle.smq_present.specs.declared.present.edit.Edit.TheVariants.{Append, Withdraw, SetForm, SetWindow, AddRoute, EndRoute, CorrectRoute, Advance}
use Rattle.smq_desk.specs.declared.entry.Entry.{Entry}
use Rattle.smq_desk.specs.KnownLoads.{first_rows, first_call, refused_call, second_call, waiting}
use Rattle.smq_desk.specs.Loads.{is_of_rows}
use Rattle.smq_desk.proofs.laws.known_loads.Goals as goal

moment_of : Edit → ℕ
moment_of (Append batch) = batch.moment
moment_of (Withdraw session) = 0
moment_of (SetForm link response receipt) = 0
moment_of (SetWindow link window) = 0
moment_of (AddRoute prefix from route network) = 0
moment_of (EndRoute prefix from until) = 0
moment_of (CorrectRoute prefix from route network) = 0
moment_of (Advance clock) = 0

pub returns-clause-entries : goal.returns-clause-entries
unfolding moment_of
returns-clause-entries c = record {
  first = (
    record { tail = waiting 0 []; appends = refl; prepared = refl; in_step = λ octets e. absurd cc },
    (record { tail = waiting 1 (0 ∷ []); appends = refl; prepared = refl; in_step = λ octets e. absurd cc }, tt),
  );
  second = (record { tail = waiting 0 []; appends = refl; prepared = refl; in_step = λ octets e. absurd cc }, tt);
  beside = refl;
  other_order = λ h. let e : 999 ≡ 1000 = ap moment_of h.0.appends in omega (arith, e);
  missing = λ h. h.1;
  out_of_step = λ h. h.1.0.in_step 1 refl;
  withdrawn = λ h. h.1.1;
}

its_own : (e : Entry) → e.seat ≡ 1 → is_of_rows first_rows e.edit ≡ true → e.seat ≡ 1
its_own e is h = is

its : Entry → Type 0
its e = is_of_rows first_rows e.edit ≡ true → e.seat ≡ 1

pub returns-clause-seats : goal.returns-clause-seats
unfolding its
returns-clause-seats c = record {
  between = refl;
  from_its_seat = record {
    calls = (
      record { tail = waiting 0 []; appends = refl; prepared = refl; in_step = λ octets e. absurd cc },
      (record { tail = waiting 1 (0 ∷ []); appends = refl; prepared = refl; in_step = λ octets e. absurd cc }, tt),
    );
    no_other = All-cons its first_call (second_call ∷ refused_call ∷ []) (its_own first_call refl)
        (All-cons its second_call (refused_call ∷ []) (its_own second_call refl)
        (All-cons its refused_call [] (its_own refused_call refl) (All-nil its)));
  };
  other_seat = λ h. let e : 1 ≡ 2 = h.no_other 0 first_call (omega arith) refl in omega (arith, e);
  cut_short = λ h. h.calls.1;
}
