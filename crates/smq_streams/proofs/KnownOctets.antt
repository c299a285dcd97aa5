-- What the definitions say of known numbers and octets.
use Rattle.std.proofs.Common.{◌≡◌, ℕ, ◌+◌, ◌<◌, ◌≤◌, List, [], ◌∷◌, ◌++◌, length, refl, subst, true, false, arith, inl, inr, lit<, lit≤}
use Rattle.std.proofs.lemmas.Bool.{cases_lt}
use Rattle.std.specs.Prelude.{◌==◌}
use Rattle.smq_streams.specs.Header.{AreHeader, IsHeaderAt, IsPartAt, number_at}
use Rattle.smq_streams.specs.Sight.{IsSeen}
use Rattle.smq_streams.specs.Known.{KnownCommands, KnownHeaders, KnownSights, KnownFrames, enquire_link, request, response}

pub known_commands : KnownCommands
known_commands = record {
  generic_nack = inr (inr (inr (inl refl)));
  bind_receiver = inl (inl (inl (lit≤ tt, lit≤ tt)));
  bind_transceiver = inl (inl (inl (lit≤ tt, lit≤ tt)));
  bind_transceiver_resp = inr (inr (inr (inr (lit≤ tt, inl (inl (lit≤ tt, lit≤ tt))))));
  outbind = inr (inl refl);
  enquire_link = inl (inl (inr (inl refl)));
  submit_multi_resp = inr (inr (inr (inr (lit≤ tt, inl (inr (inr (inl refl)))))));
  alert_notification = inr (inr (inl refl));
  data_sm = inl (inl (inr (inr (inr refl))));
  cancel_broadcast_sm_resp = inr (inr (inr (inr (lit≤ tt, inr (inl (lit≤ tt, lit≤ tt))))));
  vendors_first = inl (inr (inr (lit≤ tt, lit≤ tt)));
  vendors_last_resp = inr (inr (inr (inr (lit≤ tt, inr (inr (lit≤ tt, lit≤ tt))))));
  no_zero = λ h. grind arith;
  no_ten = λ h. grind arith;
  no_outbind_resp = λ h. grind arith;
  no_alert_notification_resp = λ h. grind arith;
  no_broadcast = λ h. grind arith;
  before_vendors = λ h. grind arith;
  behind_vendors = λ h. grind arith;
}

enquires : AreHeader 16 0x15 0
enquires = record {
  is_length = record { low = lit≤ tt; high = lit≤ tt };
  is_command = known_commands.enquire_link;
  no_status = λ h. refl;
}

responds : (status : ℕ) → AreHeader 16 0x8000_0015 status
responds status = record {
  is_length = record { low = lit≤ tt; high = lit≤ tt };
  is_command = inr (inr (inr (inr (lit≤ tt, inl (inr (inl refl))))));
  no_status = λ h. absurd (omega arith);
}

pub known_headers : KnownHeaders
unfolding number_at
known_headers = record {
  weights = refl;
  shortest = enquires;
  longest = record {
    is_length = record { low = lit≤ tt; high = lit≤ tt };
    is_command = known_commands.enquire_link;
    no_status = λ h. refl;
  };
  too_short = λ h. let low = h.is_length.low in omega arith;
  too_long = λ h. let high = h.is_length.high in omega arith;
  status = record { whole = lit≤ tt; numbers = responds 8 };
  no_status = λ h. let e : 8 ≡ 0 = h.numbers.no_status (lit< tt) in omega arith;
  behind_octets = record { whole = lit≤ tt; numbers = enquires };
  fifteen = record {
    part = lit< tt;
    may = record { size = 16; command = 0x15; status = 0; numbers = enquires; same_size = λ h. refl; same_command = λ h. refl; same_status = λ h. refl };
  };
  no_fifteen = λ h. let w = h.whole in omega arith;
  four = record {
    part = lit< tt;
    may = record { size = 16; command = 0x15; status = 0; numbers = enquires; same_size = λ h. refl; same_command = λ h. absurd (omega arith); same_status = λ h. absurd (omega arith) };
  };
  three = record {
    part = lit< tt;
    may = record { size = 16; command = 0x15; status = 0; numbers = enquires; same_size = λ h. absurd (omega arith); same_command = λ h. absurd (omega arith); same_status = λ h. absurd (omega arith) };
  };
  none = record {
    part = lit< tt;
    may = record { size = 16; command = 0x15; status = 0; numbers = enquires; same_size = λ h. absurd (omega arith); same_command = λ h. absurd (omega arith); same_status = λ h. absurd (omega arith) };
  };
  no_four = λ h.
      let e : h.may.size ≡ 15 = h.may.same_size (lit≤ tt) in
      let low = h.may.numbers.is_length.low in omega arith;
}

-- no octets at a place may be any
empty : (octets : List ℕ) (place : ℕ) → length octets ≤ place → IsPartAt octets place
empty octets place h =
    record {
      part = omega arith;
      may = record { size = 16; command = 0x15; status = 0; numbers = enquires; same_size = λ l. absurd (omega arith); same_command = λ l. absurd (omega arith); same_status = λ l. absurd (omega arith) };
    }

first_of_two : IsHeaderAt (enquire_link ++ response 0) 0
unfolding number_at
first_of_two = record { whole = lit≤ tt; numbers = enquires }

-- a length of 7 * 2^24 is none
none_before : IsHeaderAt (7 ∷ enquire_link ++ response 0) 0 → ⊥
unfolding number_at
none_before h = let high = h.numbers.is_length.high in omega arith

none_at_front : IsHeaderAt (7 ∷ enquire_link) 0 → ⊥
unfolding number_at
none_at_front h = let high = h.numbers.is_length.high in omega arith

-- behind the one header no octet follows
none_follows : IsSeen (7 ∷ enquire_link) 1 (1 == 0) → ⊥
unfolding number_at
none_follows s = elim s.next [ inl h ↦ let w = h.whole in omega arith | inr p ↦ let e : false ≡ true = p.0 in cc ]

-- what follows the one header has a status, and none of a response
request_follows : IsSeen (enquire_link ++ request 8) 0 true → ⊥
unfolding number_at
request_follows s =
    elim s.next [
      | inl h ↦ let e : 8 ≡ 0 = h.numbers.no_status (lit< tt) in omega arith
      | inr p ↦ let few = p.1.part in omega arith
    ]

pub known_sights : KnownSights
unfolding number_at
known_sights = record {
  two = record { header = first_of_two; next = inl (record { whole = lit≤ tt; numbers = responds 0 }) };
  two_behind = (
    record {
      header = record { whole = lit≤ tt; numbers = enquires };
      next = inl (record { whole = lit≤ tt; numbers = responds 0 });
    },
    λ n l s. let e : n ≡ 0 = omega arith in none_before (subst (λ (k : ℕ). IsHeaderAt (7 ∷ enquire_link ++ response 0) k) e s.header),
  );
  one_at_start = (
    record { header = record { whole = lit≤ tt; numbers = enquires }; next = inr (refl, empty _ _ (lit≤ tt)) },
    λ n l s. absurd (omega arith),
  );
  one_later = λ n s.
      let w = s.header.whole in
      elim (cases_lt n 1) [
        | inl h ↦ let e : n ≡ 0 = omega arith in none_at_front (subst (λ (k : ℕ). IsHeaderAt (7 ∷ enquire_link) k) e s.header)
        | inr h ↦ let e : n ≡ 1 = omega arith in none_follows (subst (λ (k : ℕ). IsSeen (7 ∷ enquire_link) k (k == 0)) e s)
      ];
  unclear = inr (record { whole = lit≤ tt; numbers = enquires }, refl, empty _ _ (lit≤ tt));
  no_next = request_follows;
}

pub known_frames : KnownFrames
unfolding number_at
known_frames = record {
  start = record { pdus = []; rest = []; cuts = record { whole = refl; each = tt }; under_way = (refl, lit< tt, refl, lit< tt) };
  behind_one = record {
    pdus = enquire_link ∷ [];
    rest = [];
    cuts = record { whole = refl; each = (record { is_length = enquires.is_length; stated = refl }, tt) };
    under_way = (refl, lit< tt, refl, lit< tt);
  };
  two = record {
    pdus = enquire_link ∷ [];
    rest = 1 ∷ 2 ∷ [];
    cuts = record { whole = refl; each = (record { is_length = enquires.is_length; stated = refl }, tt) };
    under_way = (refl, lit< tt, refl, lit< tt);
  };
  four = record {
    pdus = enquire_link ∷ [];
    rest = 0 ∷ 0 ∷ 0 ∷ 16 ∷ [];
    cuts = record { whole = refl; each = (record { is_length = enquires.is_length; stated = refl }, tt) };
    under_way = (lit≤ tt, enquires.is_length, refl);
  };
  broken = record {
    pdus = enquire_link ∷ [];
    rest = 0 ∷ 0 ∷ 0 ∷ 15 ∷ [];
    cuts = record { whole = refl; each = (record { is_length = enquires.is_length; stated = refl }, tt) };
    under_way = (lit≤ tt, λ h. let low = h.low in omega arith);
  };
  next = (lit< tt, (lit≤ tt, enquires.is_length, refl));
  next_at_once = (lit< tt, refl);
  no_next = λ place e. let l = e.2 in omega arith;
}
