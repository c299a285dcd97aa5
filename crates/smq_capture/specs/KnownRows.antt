-- What the definitions give for some known rows.
use Rattle.std.specs.Prelude.{◌≡◌, ℕ, List, [], ◌∷◌, Some, None}
use Rattle.smq_capture.specs.declared.direction.Direction.{Direction}
use Rattle.smq_capture.specs.declared.side.Side.TheVariants.{Client, Centre}
use Rattle.smq_capture.specs.Calls.{octets_of}
use Rattle.smq_capture.specs.Rows.{AreParts, IsSettledTo, Part, Row, Settles, SettlesBefore, SomeEndsIn, weight_in}

-- five octets of the client, from place 10 on, of which so many are settled
abbrev pub five : List ℕ → Row
five sessions = record {
  sender = Client;
  place = 10;
  number = 3;
  moment = 1000;
  octets = 1 ∷ 2 ∷ 3 ∷ 4 ∷ 5 ∷ [];
  sessions = sessions;
}

-- two octets of the centre
abbrev pub two : Row
two = record {
  sender = Centre;
  place = 0;
  number = 4;
  moment = 1001;
  octets = 6 ∷ 7 ∷ [];
  sessions = [];
}

abbrev pub part : ℕ → List ℕ → Part
part session octets = record { session = session; octets = octets }

pub record KnowsRows : Type 0 where
  -- the octets of an end, without those of the other
  pub client : octets_of Client (five [] ∷ two ∷ []) ≡ 1 ∷ 2 ∷ 3 ∷ 4 ∷ 5 ∷ []
  pub centre : octets_of Centre (five [] ∷ two ∷ []) ≡ 6 ∷ 7 ∷ []
  -- two octets of a session and one of the next are two parts; what isn't settled is in none, and no session has two
  pub parts : AreParts (five (8 ∷ 8 ∷ 9 ∷ [])) (part 8 (1 ∷ 2 ∷ []) ∷ part 9 (3 ∷ []) ∷ [])
  pub once : AreParts (five (8 ∷ 8 ∷ 9 ∷ [])) (part 8 (1 ∷ []) ∷ part 8 (2 ∷ []) ∷ part 9 (3 ∷ []) ∷ []) → ⊥
  pub no_more : AreParts (five (8 ∷ 8 ∷ [])) (part 8 (1 ∷ 2 ∷ 3 ∷ []) ∷ []) → ⊥
  -- up to place 13 three octets from place 10 on are settled, and not two or four; more only where they were before
  pub up_to : IsSettledTo (Some 13) (five []) (five (8 ∷ 8 ∷ 9 ∷ []))
  pub too_few : IsSettledTo (Some 14) (five []) (five (8 ∷ 8 ∷ 9 ∷ [])) → ⊥
  pub too_many : IsSettledTo (Some 12) (five []) (five (8 ∷ 8 ∷ 9 ∷ [])) → ⊥
  pub already : IsSettledTo (Some 12) (five (8 ∷ 8 ∷ 9 ∷ [])) (five (8 ∷ 8 ∷ 9 ∷ []))
  -- all are five
  pub behind : IsSettledTo (Some 99) (five []) (five (8 ∷ 8 ∷ 9 ∷ 9 ∷ 9 ∷ []))
  pub all : IsSettledTo None (five []) (five (8 ∷ 8 ∷ 9 ∷ 9 ∷ 9 ∷ []))
  pub not_all : IsSettledTo None (five []) (five (8 ∷ 8 ∷ 9 ∷ [])) → ⊥
  -- the third octet is before place 13, and not before place 12
  pub before : SettlesBefore 13 (five (8 ∷ [])) (five (8 ∷ 8 ∷ 9 ∷ []))
  pub not_before : SettlesBefore 12 (five (8 ∷ [])) (five (8 ∷ 8 ∷ 9 ∷ [])) → ⊥
  -- the last octet that is settled counts, and only where it wasn't before
  pub ends : SomeEndsIn 9 (two ∷ five (8 ∷ []) ∷ []) (two ∷ five (8 ∷ 8 ∷ 9 ∷ []) ∷ [])
  pub no_end : SomeEndsIn 8 (two ∷ five (8 ∷ []) ∷ []) (two ∷ five (8 ∷ 8 ∷ 9 ∷ []) ∷ []) → ⊥
  pub ended : SomeEndsIn 8 (five (8 ∷ []) ∷ []) (five (8 ∷ []) ∷ []) → ⊥
  -- a row takes 160 octets beside its own
  pub weight : weight_in (five [] ∷ two ∷ []) ≡ 327
  -- what follows is of the direction's session, or of the one behind it; what was settled stays
  pub settles : (d : Direction) → d.session ≡ 8 → d.following ≡ Some (record { session = 9; place = 12 })
      → Settles d (five (8 ∷ [])) (five (8 ∷ 8 ∷ 9 ∷ []))
  pub no_other : (d : Direction) → d.session ≡ 8 → d.following ≡ None → Settles d (five []) (five (9 ∷ [])) → ⊥
  pub stays : (d : Direction) → Settles d (five (7 ∷ [])) (five (8 ∷ [])) → ⊥
