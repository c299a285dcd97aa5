-- Columns that `write!` fills up with spaces.
use Rattle.std.proofs.Common.{◌≡◌, ℕ, zero, suc, ◌-◌, ◌^◌, List, [], ◌∷◌, false, refl, ap, append-nil}
use Rattle.std.proofs.Math.Nat.{sub-zero, sub_self}
use Rattle.std.specs.Prelude.{replicate}
use Rattle.std.specs.List.{repeat}
use Rattle.std.specs.Fmt.{char_count, format_spec, padded, padded_integral, take_chars}
use Rattle.smq_kit.specs.declared.place.Dir.{Dir}
use Rattle.smq_kit.specs.declared.place.Dir.TheVariants.{FromClient, FromCentre}
use Rattle.smq_tally.specs.declared.outcome.Outcome.{Outcome}
use Rattle.smq_tally.specs.declared.outcome.Outcome.TheVariants as o
use Rattle.smq_tally.specs.Names.{outcome_name}
use Rattle.smq_report.specs.Table.{left_in, right_in}
use Rattle.smq_report.specs.Values.{dir_text}

repeat-single : (count octet : ℕ) → repeat count (octet ∷ []) ≡ replicate count octet
repeat-single zero octet = refl
repeat-single (suc count) octet = ap (λ octets. octet ∷ octets) (repeat-single count octet)

-- a number stands right in its places
pub padded_right : (places : ℕ) (digits : List ℕ)
    → padded_integral (format_spec 32 3 0 places (2 ^ 64 - 1)) false [] digits ≡ right_in places digits
unfolding padded_integral char_count lib.Utf8.encode
padded_right places digits = simp (repeat-single, append-nil, sub-zero, sub_self)

-- the word for a direction stands left in 6 places
pub padded_dir : (dir : Dir) → padded (format_spec 32 1 0 6 (2 ^ 64 - 1)) (dir_text dir) ≡ left_in 6 (dir_text dir)
unfolding padded take_chars char_count lib.Utf8.encode
padded_dir FromClient = refl
padded_dir FromCentre = refl

-- the name of an outcome stands left in 10 places
pub padded_outcome : (outcome : Outcome)
    → padded (format_spec 32 1 0 10 (2 ^ 64 - 1)) (outcome_name outcome) ≡ left_in 10 (outcome_name outcome)
unfolding padded take_chars char_count lib.Utf8.encode
padded_outcome o.Waiting = refl
padded_outcome o.Mismatched = refl
padded_outcome o.Refused = refl
padded_outcome o.NoId = refl
padded_outcome o.Ambiguous = refl
padded_outcome o.Delivered = refl
padded_outcome o.Failed = refl
padded_outcome o.Unasked = refl
padded_outcome o.Lapsed = refl
padded_outcome o.Open = refl
