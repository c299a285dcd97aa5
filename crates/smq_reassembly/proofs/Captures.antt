-- What the segments of a direction give.
use Rattle.std.proofs.Common.{◌≡◌, ℕ, List, [], ◌∷◌, ◌++◌, ◌↔◌, length, refl, sym, ap, ◌∙◌, subst, arith}
use Rattle.std.proofs.lemmas.List.{append-nil, append_assoc}
use Rattle.smq_reassembly.specs.declared.reassembly.Part.{Part}
use Rattle.smq_reassembly.specs.declared.reassembly.Next.{Next}
use Rattle.smq_reassembly.specs.declared.reassembly.Taken.{Taken}
use Rattle.smq_reassembly.specs.declared.reassembly.Taken.TheVariants.{Lends, Waits, Repeats, TooFarAhead}
use Rattle.smq_reassembly.specs.declared.sequence.Place.{Place}
use Rattle.smq_reassembly.specs.declared.capture.Segment.{Segment}
use Rattle.smq_reassembly.specs.Capture.{Comes, AllCome, octets_of_parts}
use Rattle.smq_reassembly.specs.Octet.{Octet, octets_of}
use Rattle.smq_reassembly.specs.Piece.{Piece}
use Rattle.smq_reassembly.specs.Moment.{Start, IsGiven, before_first}
use Rattle.smq_reassembly.specs.State.{State, Follows}
use Rattle.smq_reassembly.specs.Sequence.{IsPlace}
use Rattle.smq_reassembly.specs.Segment.{IsTooFarAhead, came, octets_given, piece_of}
use Rattle.smq_reassembly.proofs.States.{came-is}
use Rattle.smq_reassembly.proofs.Moments.{length-given}

pub one-more : (first : ℕ) (before : List Piece) (ss : List Segment) (s : Segment) (middle after : List Piece)
    → AllCome first before ss middle → Comes first middle s after → AllCome first before (ss ++ s ∷ []) after
one-more first before [] s middle after a c = (after, rw a at c, refl)
one-more first before (x ∷ ss) s middle after a c = (a.0, a.1, one-more first a.0 ss s middle after a.2 c)

pub parts-push : (parts : List Part) (p : Part)
    → octets_of_parts (parts ++ p ∷ []) ≡ octets_of_parts parts ++ octets_of p.packet p.begins p.octets.items
parts-push [] p = append-nil (octets_of p.packet p.begins p.octets.items)
parts-push (x ∷ parts) p =
    ap (λ (os : List Octet). octets_of x.packet x.begins x.octets.items ++ os) (parts-push parts p)
    ∙ sym (append_assoc (octets_of x.packet x.begins x.octets.items) (octets_of_parts parts) (octets_of p.packet p.begins p.octets.items))

none-given : (taken : Taken) → ((x : Next) → taken ≡ Lends x → ⊥) → octets_given taken ≡ []
none-given (Lends x) h = absurd (h x refl)
none-given Waits h = refl
none-given Repeats h = refl
none-given TooFarAhead h = refl

pub gives-none : (given : List Octet) (taken : Taken) → ((x : Next) → taken ≡ Lends x → ⊥) → given ≡ given ++ octets_given taken
gives-none given taken h = sym (ap (λ (os : List Octet). given ++ os) (none-given taken h) ∙ append-nil given)

abbrev pub zero_start : Start
zero_start = record { place = 0; moment = 0 }

-- a segment comes, by what is known of the answer
pub comes : (first : ℕ) (pieces : List Piece) (s : Segment) (taken : Taken) (given after : List Octet) (before next : State)
    → IsGiven pieces zero_start given → Follows pieces zero_start given before
    → ((place : Place) × IsPlace first before.next s.sequence place)
    → ((place : Place) → IsPlace first before.next s.sequence place
    → Follows (came taken pieces (piece_of place before.next s.packet s.octets.now)) zero_start (given ++ octets_given taken) next)
    → ((place : Place) → IsPlace first before.next s.sequence place
    → (taken ≡ TooFarAhead) ↔ IsTooFarAhead before.next (piece_of place before.next s.packet s.octets.now))
    → after ≡ given ++ octets_given taken
    → (more : List Piece) × Comes first pieces s more × Follows more zero_start after next
comes first pieces s taken given after before next g f stands takes far is =
    let size : length g.text ≡ before.next =
    omega (
      arith,
      ap length g.moments,
      length-given (before_first zero_start) g.text,
      ap length f.moments,
      length-given (before_first zero_start) f.text,
      f.place,
    ) in (
      came taken pieces (piece_of stands.0 before.next s.packet s.octets.now),
      record {
        text = g.text;
        stream = g.stream;
        place = stands.0;
        stands = subst (λ (n : ℕ). IsPlace first n s.sequence stands.0) (sym size) stands.1;
        far = λ h.
            let too : IsTooFarAhead before.next (piece_of stands.0 before.next s.packet s.octets.now) =
            subst (λ (n : ℕ). IsTooFarAhead n (piece_of stands.0 n s.packet s.octets.now)) size h in
            ap (λ (t : Taken). came t pieces (piece_of stands.0 before.next s.packet s.octets.now)) ((far stands.0 stands.1).1 too);
        near = λ h.
            sym (came-is taken pieces (piece_of stands.0 before.next s.packet s.octets.now)
            (λ e. h (subst (λ (n : ℕ). IsTooFarAhead n (piece_of stands.0 n s.packet s.octets.now)) (sym size) ((far stands.0 stands.1).0 e))))
            ∙ ap (λ (n : ℕ). pieces ++ piece_of stands.0 n s.packet s.octets.now ∷ []) (sym size);
      },
      subst (λ (os : List Octet). Follows (came taken pieces (piece_of stands.0 before.next s.packet s.octets.now)) zero_start os next)
          (sym is) (takes stands.0 stands.1),
    )
