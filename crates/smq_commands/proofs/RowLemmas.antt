-- A row that is written of octets is read as those octets.
use Rattle.std.proofs.Common.{◌≡◌, ◌∙◌, ◌==◌, ◌||◌, ◌<◌, ◌≤◌, ◌/◌, ◌%◌, ◌^◌, ℕ, true, false, List, [], ◌∷◌, ◌++◌, length, map, Some, suc, codes, refl, sym, ap, subst, append_assoc, arith, rules}
use Rattle.std.specs.Prelude.{nat_le, decimal, slice_index}
use Rattle.std.specs.Char.{is_ascii_digit}
use Rattle.std.specs.List.{All, flat_map, list_all, list_any}
use Rattle.std.proofs.lemmas.Bool.{and_parts}
use Rattle.std.proofs.lemmas.Bool.Decides.{nat_tests}
use Rattle.std.proofs.lemmas.Fmt.{decimal_is_IsNumeral, digits_decimal, digits_value-decimal, length-decimal-le}
use Rattle.std.proofs.lemmas.Str.Parse.{IsNumeralModel, numerals_by_weight}
use Rattle.hex.specs.Hex.{IsBytes, encode_lower, encode_with, hex_digit_value, lower_digits}
use Rattle.hex.proofs.HexLemmas.{IsDigits-lower_digits, decode_of-encode_lower}
use Rattle.csv.specs.Machine.{next_record}
use Rattle.csv.specs.Reading.{AreRecords, Reached, default_config, strip_bom}
use Rattle.csv.specs.Writing.{default_writer, fields_text, is_blank, needs_byte}
use Rattle.csv.specs.Writing.{row_text as csv_text}
use Rattle.csv.specs.declared.parser.State.TheVariants as st
use Rattle.csv.proofs.RoundTrip.{read-write-many}
use Rattle.smq_capture.specs.declared.side.Side.{Side}
use Rattle.smq_capture.specs.declared.side.Side.TheVariants.{Client, Centre}
use Rattle.smq_load.specs.Decimal.{decimal_of, decimal_to, sum_of}
use Rattle.smq_load.specs.Row.{row_of}
use Rattle.smq_load.specs.Script.{IsScript, SayRows, most_records}
use Rattle.smq_commands.specs.CaptureRows.{Captured, IsInRange, said, written}

-- `sum_of` is the number that digits represent
own : IsNumeralModel (λ ds. list_all is_ascii_digit ds ≡ true) sum_of
own = numerals_by_weight _ (search rules) sum_of (search rules)

-- ---- fields that need no quotes

plain_digit : (b : ℕ) → is_ascii_digit b ≡ true → needs_byte default_writer b ≡ false
plain_digit b h = grind (arith, nat_tests, h)

plain_digits : (xs : List ℕ) → list_all is_ascii_digit xs ≡ true → list_any (needs_byte default_writer) xs ≡ false
plain_digits [] h = refl
plain_digits (x ∷ xs) h =
    let parts = and_parts (is_ascii_digit x) (list_all is_ascii_digit xs) h in
    rw (plain_digit x parts.0) (plain_digits xs parts.1)

plain_hex_digit : (c v : ℕ) → hex_digit_value c ≡ Some v → needs_byte default_writer c ≡ false
plain_hex_digit c v h = grind (arith, nat_tests, h)

plain_hex : (xs : List ℕ) → IsBytes xs → list_any (needs_byte default_writer) (encode_lower xs) ≡ false
unfolding encode_with
plain_hex [] h = refl
plain_hex (x ∷ xs) h =
    let low : x < 256 = h 0 in
    rw (
      plain_hex_digit (slice_index lower_digits (x / 16)) (x / 16) (IsDigits-lower_digits (x / 16) (omega (arith, low))),
      plain_hex_digit (slice_index lower_digits (x % 16)) (x % 16) (IsDigits-lower_digits (x % 16) (omega (arith, low))),
    ) (plain_hex xs (λ i. h (suc i)))

-- the fields of a row
abbrev side_name : Side → List ℕ
side_name Client = codes "client"
side_name Centre = codes "centre"

abbrev fields : Captured → List (List ℕ)
fields c =
    codes "piece" ∷ decimal c.link ∷ decimal c.session ∷ side_name c.sender ∷ decimal c.moment ∷ encode_lower c.octets ∷ []

-- ---- what is written is the record of these fields

-- five texts behind commas
commas : (a b c d e : List ℕ) → (44 ∷ (a ++ (44 ∷ (b ++ (44 ∷ (c ++ (44 ∷ (d ++ (44 ∷ (e ++ [])))))))))) ++ (10 ∷ [])
    ≡ 44 ∷ (a ++ (44 ∷ (b ++ (44 ∷ (c ++ (44 ∷ (d ++ (44 ∷ (e ++ (10 ∷ []))))))))))
commas a b c d e = rw (
  append_assoc a (44 ∷ (b ++ (44 ∷ (c ++ (44 ∷ (d ++ (44 ∷ (e ++ [])))))))) (10 ∷ []),
  append_assoc b (44 ∷ (c ++ (44 ∷ (d ++ (44 ∷ (e ++ [])))))) (10 ∷ []),
  append_assoc c (44 ∷ (d ++ (44 ∷ (e ++ [])))) (10 ∷ []),
  append_assoc d (44 ∷ (e ++ [])) (10 ∷ []),
  append_assoc e [] (10 ∷ []),
) refl

-- the texts of a row, from the right on
to_right : (a b d m h : List ℕ) → ((((((a ++ (44 ∷ [])) ++ b) ++ d) ++ m) ++ (44 ∷ [])) ++ h) ++ (10 ∷ [])
    ≡ a ++ (44 ∷ (b ++ (d ++ (m ++ (44 ∷ (h ++ (10 ∷ [])))))))
to_right a b d m h =
    append_assoc (((((a ++ (44 ∷ [])) ++ b) ++ d) ++ m) ++ (44 ∷ [])) h (10 ∷ [])
    ∙ append_assoc ((((a ++ (44 ∷ [])) ++ b) ++ d) ++ m) (44 ∷ []) (h ++ (10 ∷ []))
    ∙ append_assoc (((a ++ (44 ∷ [])) ++ b) ++ d) m (44 ∷ (h ++ (10 ∷ [])))
    ∙ append_assoc ((a ++ (44 ∷ [])) ++ b) d (m ++ (44 ∷ (h ++ (10 ∷ []))))
    ∙ append_assoc (a ++ (44 ∷ [])) b (d ++ (m ++ (44 ∷ (h ++ (10 ∷ [])))))
    ∙ append_assoc a (44 ∷ []) (b ++ (d ++ (m ++ (44 ∷ (h ++ (10 ∷ []))))))

written_fields : (c : Captured) (side : Side) → c.sender ≡ side → IsInRange c → written c ≡ csv_text default_writer (fields c)
unfolding is_blank fields_text
written_fields c Client e h = rw (
  e,
  plain_digits (decimal c.link) (digits_decimal own c.link (omega (arith, h.link))),
  plain_digits (decimal c.session) (digits_decimal own c.session h.session),
  plain_digits (decimal c.moment) (digits_decimal own c.moment (omega (arith, h.moment))),
  plain_hex c.octets h.octets,
) (ap (λ t. codes "piece," ++ t) (to_right (decimal c.link) (decimal c.session) (codes ",client,") (decimal c.moment) (encode_lower c.octets))
    ∙ ap (λ t. codes "piece" ++ t) (sym (commas (decimal c.link) (decimal c.session) (codes "client") (decimal c.moment) (encode_lower c.octets))))
written_fields c Centre e h = rw (
  e,
  plain_digits (decimal c.link) (digits_decimal own c.link (omega (arith, h.link))),
  plain_digits (decimal c.session) (digits_decimal own c.session h.session),
  plain_digits (decimal c.moment) (digits_decimal own c.moment (omega (arith, h.moment))),
  plain_hex c.octets h.octets,
) (ap (λ t. codes "piece," ++ t) (to_right (decimal c.link) (decimal c.session) (codes ",centre,") (decimal c.moment) (encode_lower c.octets))
    ∙ ap (λ t. codes "piece" ++ t) (sym (commas (decimal c.link) (decimal c.session) (codes "centre") (decimal c.moment) (encode_lower c.octets))))

-- ---- the record says the piece

decimal_says : (n : ℕ) → n < 2 ^ 64 → decimal_of (decimal n) ≡ Some n
decimal_says n h =
    let numeral = decimal_is_IsNumeral n h in
    let some : nat_le 1 (length (decimal n)) ≡ true = grind (arith, nat_tests, numeral) in
    let few : nat_le (length (decimal n)) 20 ≡ true = grind (arith, nat_tests, length-decimal-le 20 n (omega arith) (omega (arith, h)) h) in
    rw (some, few, digits_decimal own n h) (ap Some (digits_value-decimal own n h))

decimal_fits : (greatest n : ℕ) → n ≤ greatest → n < 2 ^ 64 → decimal_to greatest (decimal n) ≡ Some n
decimal_fits greatest n most h =
    let fits : nat_le n greatest ≡ true = grind (arith, nat_tests, most) in
    rw (decimal_says n h, fits) refl

fields_say : (c : Captured) (side : Side) → c.sender ≡ side → IsInRange c → row_of (fields c) ≡ Some (said c)
fields_say c Client e h = rw (
  e,
  decimal_fits 4294967295 c.link (omega (arith, h.link)) (omega (arith, h.link)),
  decimal_fits 18446744073709551615 c.session (omega (arith, h.session)) h.session,
  decimal_fits 4102444800000 c.moment h.moment (omega (arith, h.moment)),
  decode_of-encode_lower c.octets h.octets,
) refl
fields_say c Centre e h = rw (
  e,
  decimal_fits 4294967295 c.link (omega (arith, h.link)) (omega (arith, h.link)),
  decimal_fits 18446744073709551615 c.session (omega (arith, h.session)) h.session,
  decimal_fits 4102444800000 c.moment h.moment (omega (arith, h.moment)),
  decode_of-encode_lower c.octets h.octets,
) refl

-- ---- all of them, one after the other

-- each of them is in range, from the first on
abbrev Each : List Captured → Type 0
Each [] = Unit {0}
Each (c ∷ cs) = IsInRange c × Each cs

each : (cs : List Captured) → All IsInRange cs → Each cs
each [] h = tt
each (c ∷ cs) h = (h 0 c (omega arith), each cs (λ k d lt. h (suc k) d (omega arith)))

all_records : (cs : List Captured) → Each cs → AreRecords default_config st.StartRecord (flat_map written cs) (map fields cs)
unfolding Reached next_record
all_records [] h = (st.StartRecord, [], (refl, refl), refl)
all_records (c ∷ cs) h =
    let more = all_records cs h.1 in
    let read = subst (λ t. next_record default_config st.StartRecord [] [] (t ++ flat_map written cs) ≡ Some (fields c, st.StartRecord, flat_map written cs))
    (sym (written_fields c c.sender refl h.0))
    (read-write-many (codes "piece") (decimal c.link) (decimal c.session ∷ side_name c.sender ∷ decimal c.moment ∷ encode_lower c.octets ∷ []) (flat_map written cs)) in
    (more.0, more.1, ((fields c, st.StartRecord, flat_map written cs), read, refl, more.2), more.3)

all_say : (cs : List Captured) → Each cs → SayRows (map fields cs) (map said cs)
all_say [] h = refl
all_say (c ∷ cs) h = rw (fields_say c c.sender refl h.0, all_say cs h.1) refl

-- no text of rows begins with a byte order mark
no_mark : (cs : List Captured) → strip_bom (flat_map written cs) ≡ flat_map written cs
unfolding strip_bom
no_mark [] = refl
no_mark (c ∷ cs) = refl

length_map : (cs : List Captured) → length (map fields cs) ≡ length cs
length_map [] = refl
length_map (c ∷ cs) = rw (length_map cs) refl

pub rows_are_read : (cs : List Captured) → All IsInRange cs → length cs ≤ most_records → IsScript (flat_map written cs) (map said cs)
rows_are_read cs h few = record {
  records = map fields cs;
  are_records = rw (no_mark cs) (all_records cs (each cs h));
  say_rows = all_say cs (each cs h);
  in_range = rw (length_map cs) few;
}
