-- Octets that are cut by their lengths, as more of them come.
use Rattle.std.proofs.Common.{◌≡◌, ℕ, zero, suc, ◌+◌, ◌-◌, ◌*◌, ◌%◌, ◌^◌, ◌<◌, ◌≤◌, List, [], ◌∷◌, ◌++◌, length, take, drop, refl, sym, ap, subst, ◌∙◌, append_assoc, append-nil, arith, length-append, lit<}
use Rattle.std.specs.List.{concat, AllByRecursion}
use Rattle.smq_streams.specs.declared.framer.Framer.{Framer}
use Rattle.smq_streams.specs.declared.framer.Framer.TheVariants.{Length, Left, Broken}
use Rattle.smq_streams.specs.Header.{IsLength, number_at}
use Rattle.smq_streams.specs.Framing.{Cuts, EndsBefore, IsFramed, IsNextPdu, IsPdu, IsUnderWay, number_with}
use Rattle.std.specs.Prelude.{Option, Some, None, MatchOption}
use Rattle.std.proofs.lemmas.List.{take-append-drop}
use Rattle.std.proofs.Common.{length-take}

-- ---- numbers

-- four octets state a number, whatever follows them
pub number-front : (a b : List ℕ) → 4 ≤ length a → number_at 0 (a ++ b) ≡ number_at 0 a
unfolding number_at
number-front [] b h = absurd (omega arith)
number-front (u ∷ []) b h = absurd (omega arith)
number-front (u ∷ v ∷ []) b h = absurd (omega arith)
number-front (u ∷ v ∷ w ∷ []) b h = absurd (omega arith)
number-front (u ∷ v ∷ w ∷ x ∷ a) b h = refl

pub number-append : (n : ℕ) (a b : List ℕ) → number_with n (a ++ b) ≡ number_with (number_with n a) b
number-append n [] b = refl
number-append n (o ∷ a) b = number-append (n * 256 + o) a b

fourth : (rest : List ℕ) (octet : ℕ) → length rest ≡ 3 → number_with 0 rest * 256 + octet ≡ number_at 0 (rest ++ octet ∷ [])
unfolding number_at
fourth [] o h = absurd (omega arith)
fourth (a ∷ []) o h = absurd (omega arith)
fourth (a ∷ b ∷ []) o h = absurd (omega arith)
fourth (a ∷ b ∷ c ∷ []) o h = omega arith
fourth (a ∷ b ∷ c ∷ d ∷ rest) o h = absurd (omega arith)

-- three octets and one are a number of 32 bits
fits : (count number octet : ℕ) → count < 4 → number < 256 ^ count → octet < 256
    → ((number * 256 % 4294967296 + octet) % 4294967296 ≡ number * 256 + octet) × (number * 256 + octet < 256 ^ (count + 1))
fits zero n o c h l = (omega arith, omega arith)
fits (suc zero) n o c h l = (omega arith, omega arith)
fits (suc (suc zero)) n o c h l = (omega arith, omega arith)
fits (suc (suc (suc zero))) n o c h l = (omega arith, omega arith)
fits (suc (suc (suc (suc count)))) n o c h l = absurd (omega arith)

pub lengthens : (rest : List ℕ) (count number octet : ℕ) → octet < 256 → count < 3 → IsUnderWay rest (Length count number)
    → IsUnderWay (rest ++ octet ∷ []) (Length (count + 1) ((number * 256 % 4294967296 + octet) % 4294967296))
lengthens rest count number octet small few w =
    let f = fits count number octet w.1 w.3 small in (
      omega (arith, length-append rest (octet ∷ []), w.0),
      omega arith,
      f.0 ∙ ap (λ (n : ℕ). n * 256 + octet) w.2 ∙ sym (number-append 0 rest (octet ∷ [])),
      rw f.0 f.1,
    )

pub states : (rest : List ℕ) (count number octet : ℕ) → octet < 256 → 3 ≤ count → IsUnderWay rest (Length count number)
    → (length (rest ++ octet ∷ []) ≡ 4) × ((number * 256 % 4294967296 + octet) % 4294967296 ≡ number_at 0 (rest ++ octet ∷ []))
states rest count number octet small many w =
    let f = fits count number octet w.1 w.3 small in
    let three : length rest ≡ 3 = omega (arith, w.0, w.1) in (
      omega (arith, length-append rest (octet ∷ []), three),
      f.0 ∙ ap (λ (n : ℕ). n * 256 + octet) w.2 ∙ fourth rest octet three,
    )

-- ---- octets that follow

cuts-more : (octets more : List ℕ) (pdus : List (List ℕ)) (rest : List ℕ) → Cuts octets pdus rest → Cuts (octets ++ more) pdus (rest ++ more)
cuts-more octets os pdus rest cuts =
    record {
      whole = ap (λ (o : List ℕ). o ++ os) cuts.whole ∙ append_assoc (concat pdus) rest os;
      each = cuts.each;
    }

-- whatever is known of a PDU with these octets more is known at the end of all with them
pub framed-more : (octets more : List ℕ) (framer other : Framer)
    → ((rest : List ℕ) → IsUnderWay rest framer → IsUnderWay (rest ++ more) other)
    → IsFramed octets framer → IsFramed (octets ++ more) other
framed-more octets os framer other step f =
    record { pdus = f.pdus; rest = f.rest ++ os; cuts = cuts-more octets os f.pdus f.rest f.cuts; under_way = step f.rest f.under_way }

pub broken-more : (os rest : List ℕ) → IsUnderWay rest Broken → IsUnderWay (rest ++ os) Broken
broken-more os rest w =
    (omega (arith, length-append rest os, w.0), λ good. w.1 (subst IsLength (number-front rest os w.0) good))

pub left-more : (left : ℕ) (os rest : List ℕ) → length os ≤ left → IsUnderWay rest (Left left)
    → IsUnderWay (rest ++ os) (Left (left - length os))
left-more left os rest few w =
    let same = number-front rest os w.0 in (
      omega (arith, length-append rest os, w.0),
      subst IsLength (sym same) w.1,
      omega (arith, length-append rest os, same, w.2, few),
    )

-- a PDU behind others
with-last : (pdus : List (List ℕ)) (pdu : List ℕ) → AllByRecursion IsPdu pdus → IsPdu pdu → AllByRecursion IsPdu (pdus ++ pdu ∷ [])
with-last [] pdu each it = (it, tt)
with-last (p ∷ ps) pdu each it = (each.0, with-last ps pdu each.1 it)

concat-last : (pdus : List (List ℕ)) (pdu : List ℕ) → concat (pdus ++ pdu ∷ []) ≡ concat pdus ++ pdu
concat-last [] pdu = append-nil pdu
concat-last (p ∷ ps) pdu = ap (λ (o : List ℕ). p ++ o) (concat-last ps pdu) ∙ sym (append_assoc p (concat ps) pdu)

-- the octets that are left of a PDU end it
pub framed-end : (octets more : List ℕ) (left : ℕ) (other : Framer) → length more ≡ left + 1 → IsUnderWay [] other
    → IsFramed octets (Left left) → IsFramed (octets ++ more) other
framed-end octets os left other all none f =
    let c = cuts-more octets os f.pdus f.rest f.cuts in
    let w = f.under_way in
    let same = number-front f.rest os w.0 in
    let size : length (f.rest ++ os) ≡ number_at 0 (f.rest ++ os) = omega (arith, length-append f.rest os, same, w.2, all) in
    let good : IsLength (number_at 0 (f.rest ++ os)) = subst IsLength (sym same) w.1 in
    record {
      pdus = f.pdus ++ (f.rest ++ os) ∷ [];
      rest = [];
      cuts = record {
        whole = c.whole ∙ sym (concat-last f.pdus (f.rest ++ os)) ∙ sym (append-nil (concat (f.pdus ++ (f.rest ++ os) ∷ [])));
        each = with-last f.pdus (f.rest ++ os) c.each (record { is_length = subst IsLength (sym size) good; stated = sym size });
      };
      under_way = none;
    }

-- ---- the octet behind the PDU under way

ends : (rest octets : List ℕ) (place : ℕ) → 0 < length rest → EndsBefore rest octets place
    → (4 ≤ length (rest ++ octets)) × IsLength (number_at 0 (rest ++ octets)) × (length rest + place ≡ number_at 0 (rest ++ octets))
ends [] octets place some h = absurd (omega arith)
ends (o ∷ os) octets place some h = h

is_end : (rest octets : List ℕ) (place : ℕ) → 0 < length rest
    → (4 ≤ length (rest ++ octets)) × IsLength (number_at 0 (rest ++ octets)) × (length rest + place ≡ number_at 0 (rest ++ octets))
    → EndsBefore rest octets place
is_end [] octets place some h = absurd (omega arith)
is_end (o ∷ os) octets place some h = h

-- a length that is known stays, whatever follows
stays : (rest octets : List ℕ) (i : ℕ) → 4 ≤ length (rest ++ take i octets)
    → number_at 0 (rest ++ octets) ≡ number_at 0 (rest ++ take i octets)
stays rest octets i long =
    ap (λ (o : List ℕ). number_at 0 (rest ++ o)) (sym (take-append-drop i octets))
    ∙ ap (λ (o : List ℕ). number_at 0 o) (sym (append_assoc rest (take i octets) (drop i octets)))
    ∙ number-front (rest ++ take i octets) (drop i octets) long

pub left-next : (rest octets : List ℕ) (i left : ℕ) (r : Option ℕ) → 0 < length rest → i ≤ length octets
    → IsUnderWay (rest ++ take i octets) (Left left)
    → MatchOption r (length octets ≤ i + (left + 1)) (λ place. (place ≡ i + (left + 1)) × (place < length octets))
    → IsNextPdu rest octets r
left-next rest octets i left None some within w m =
    λ place e.
    let end = ends rest octets place some e in
    let same = stays rest octets i w.0 in
    omega (arith, end.2, same, w.2, m, length-append rest (take i octets), length-take i octets, within)
left-next rest octets i left (Some place) some within w m =
    let same = stays rest octets i w.0 in (
      m.1,
      is_end rest octets place some (
        omega (arith, w.0, length-append rest (take i octets), length-take i octets, length-append rest octets, within),
        subst IsLength (sym same) w.1,
        omega (arith, same, w.2, m.0, length-append rest (take i octets), length-take i octets, within),
      ),
    )

pub broken-next : (rest octets : List ℕ) (i : ℕ) → 0 < length rest → IsUnderWay (rest ++ take i octets) Broken → IsNextPdu rest octets None
broken-next rest octets i some w =
    λ place e.
    let end = ends rest octets place some e in absurd (w.1 (subst IsLength (stays rest octets i w.0) end.1))
