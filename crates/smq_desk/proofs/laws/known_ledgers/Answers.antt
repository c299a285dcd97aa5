use Rattle.std.proofs.Common.{◌≡◌, ◌<◌, [], Some, inl, inr, refl, sym, subst, get_or, arith}
use Rattle.std.specs.Prelude.{slice_get}
use Rattle.std.proofs.lemmas.List.Elements.{All-nil, All-from_recursion}
use Rattle.smq_desk.specs.declared.entry.Call.{Call}
use Rattle.smq_desk.specs.declared.entry.Entry.{Entry}
use Rattle.smq_desk.specs.declared.entry.Reply.{Reply}
use Rattle.smq_desk.specs.declared.entry.Reply.TheVariants.{Done}
use Rattle.smq_desk.specs.Closing.{AgreesUpTo, AgreeUpTo}
use Rattle.smq_desk.specs.Known.{history}
use Rattle.smq_desk.specs.KnownLedgers.{calls_of_first, calls_of_second, numbered_0, replied_otherwise, seat_with, torn_seats}
use Rattle.smq_desk.specs.History.{entry_of}
use Rattle.smq_desk.specs.Publishing.{HasCall}
use Rattle.smq_desk.specs.Seats.{HasOneSeat}
use Rattle.smq_desk.proofs.laws.known_ledgers.Goals as goal

-- nothing was committed up to number 0
at_first : AgreeUpTo torn_seats history 0
at_first = record {
  each_seat = All-from_recursion (AgreesUpTo history 0) torn_seats (
    record { later = []; agreed = refl; greater = All-nil _ },
    (
      record { later = calls_of_second; agreed = refl; greater = All-from_recursion (λ (c : Call). 0 < c.number) calls_of_second (omega arith, tt) },
      (record { later = []; agreed = refl; greater = All-nil _ }, tt),
    ),
  );
  each_entry = All-nil (HasOneSeat torn_seats);
}

pub returns-clause-ledgers : goal.returns-clause-ledgers
returns-clause-ledgers c = record {
  opens = refl;
  adds_first = record { added = refl; numbered = refl; replied = refl };
  adds_second = record { added = refl; numbered = refl; replied = refl };
}

first_entry : (e : Entry) → slice_get history 0 ≡ Some e → (1 ≡ e.seat) × (Done ≡ e.reply)
first_entry e at = (cc, cc)

pub returns-clause-calls : goal.returns-clause-calls
returns-clause-calls c = record {
  own = All-from_recursion (HasCall history 1) calls_of_first ((omega arith, refl), ((omega arith, refl), tt));
  with_another_reply = λ h.
      let same : ◌≡◌ {A = Reply} Done replied_otherwise.reply =
      (first_entry (entry_of 1 replied_otherwise.edit replied_otherwise.reply) (h 0 replied_otherwise (omega arith)).1).1 in
      absurd cc;
  below_1 = λ h. let positive = (h 0 numbered_0 (omega arith)).0 in omega (arith, positive);
  of_another_seat = λ h.
      let first = get_or calls_of_first 0 replied_otherwise in
      let same : 1 ≡ 2 = (first_entry (entry_of 2 first.edit first.reply) (h 0 first (omega arith)).1).0 in
      omega (arith, same);
}

pub returns-clause-closes : goal.returns-clause-closes
returns-clause-closes c = record {
  seats_out = omega arith;
  all_seats = λ h. omega (arith, h);
  torn = (
    omega arith,
    record {
      below = λ n less. let none : n ≡ 0 = omega (arith, less) in subst (AgreeUpTo torn_seats history) (sym none) at_first;
      here = λ h. let lost = (h.each_seat 0 (seat_with 1 []) (omega arith)).agreed in absurd cc;
    },
    record { entry = λ e positive in_range at. cc; call = λ h. let none : ⊥ = elim h [ inl e ↦ omega (arith, e) | inr e ↦ omega (arith, e) ] in absurd none },
  );
}
