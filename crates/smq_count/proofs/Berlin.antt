-- What the clocks of Berlin show in 2026.
use Rattle.std.proofs.Common.{◌≡◌, ◌==◌, int_le, if◌then◌else◌, vec_len, ℕ, ℤ, List, [], ◌∷◌, refl, Option, Some, None, pos, ap, sym, ◌∙◌, subst, arith, nat_le, nat_lt, true, false, map, codes}
use Rattle.std.proofs.lemmas.Bool.Decides.{nat_tests}
use Rattle.std.proofs.lemmas.List.{length-map, nil_from_length}
use Rattle.std.specs.List.{prefix_len}
use Rattle.std.specs.Prelude.{option_map, unwrap_or, length}
use Rattle.jiff_core.specs.Calendar.{days_of_years}
use Rattle.jiff_core.specs.declared.Offset.{Offset}
use Rattle.jiff_tz.proofs.OnLiterals.{jiff_tz_on_literals, jiff_tz_rules_on_literals}
use Rattle.jiff_tz.proofs.YearLemmas.{years_within_is}
use Rattle.jiff_tz.specs.PosixReader.{read_whole}
use Rattle.jiff_tz.specs.PosixRule.{match_some, offset_at, utc_window}
use Rattle.jiff_tz.specs.PosixText.{TzText, DstText, dst_view, tz_view}
use Rattle.jiff_tz.specs.Tzif as Table
use Rattle.jiff_tz.specs.TzifText.{transition_text}
use Rattle.jiff_tz.specs.Year.{year_of_nanos, years_within}
use Rattle.jiff_tz.specs.declared.posix.Day.TheVariants.{WeekdayOfMonth}
use Rattle.jiff_tz.specs.declared.posix.Dst.{Dst}
use Rattle.jiff_tz.specs.declared.posix.TimeZone.{TimeZone}
use Rattle.jiff_tz.specs.declared.tzif.Tzif.{Tzif}
use Rattle.smq_count.specs.Known.{IsBerlin, KnowsBerlin}
use Rattle.smq_count.specs.LocalTime.{offset_in}

-- what Berlin's rule says
abbrev summer : DstText
summer = record {
  name = codes "CEST";
  seconds = pos 7200;
  start = (WeekdayOfMonth 3 5 0, pos 7200);
  finish = (WeekdayOfMonth 10 5 0, pos 10800);
}

abbrev rule : TzText
rule = record { std_name = codes "CET"; std_seconds = pos 3600; dst = Some summer }

rule_read : read_whole (codes "CET-1CEST,M3.5.0,M10.5.0/3") ≡ Some rule
unfolding jiff_tz_on_literals
rule_read = refl

window_2026 : (std : Offset) (d : Dst) → std.seconds ≡ pos 3600 → dst_view d ≡ summer
    → utc_window d (pos 2026) std ≡ (pos 1_774_746_000_000_000_000, pos 1_792_890_000_000_000_000)
unfolding jiff_tz_rules_on_literals
window_2026 std d a v =
    let offset : d.offset.seconds ≡ pos 7200 = ap (λ t. t.seconds) v in
    let start_date : d.rule.start.date ≡ WeekdayOfMonth 3 5 0 = ap (λ t. t.start.0) v in
    let start_time : d.rule.start.time ≡ pos 7200 = ap (λ t. t.start.1) v in
    let end_date : d.rule.end.date ≡ WeekdayOfMonth 10 5 0 = ap (λ t. t.finish.0) v in
    let end_time : d.rule.end.time ≡ pos 10800 = ap (λ t. t.finish.1) v in
    rw (a, offset, start_date, start_time, end_date, end_time) refl

year_2026 : (count : ℕ) → nat_le (days_of_years 12026) count ≡ true → nat_lt count (days_of_years 12027) ≡ true → years_within 20000 count ≡ 12026
year_2026 count low high =
    years_within_is 20000 12026 count (omega arith) (grind (arith, nat_tests)) (grind (arith, nat_tests))

years : (year_of_nanos (pos 1_774_745_999_999_000_000) ≡ pos 2026)
    × (year_of_nanos (pos 1_774_746_000_000_000_000) ≡ pos 2026)
    × (year_of_nanos (pos 1_792_889_999_999_000_000) ≡ pos 2026)
    × (year_of_nanos (pos 1_792_890_000_000_000_000) ≡ pos 2026)
unfolding days_of_years
years = (rw (year_2026 _ refl refl) refl, rw (year_2026 _ refl refl) refl, rw (year_2026 _ refl refl) refl, rw (year_2026 _ refl refl) refl)

-- by its rule
by_rule : (tz : TimeZone) (d : Dst) → tz.dst ≡ Some d → tz.std_offset.seconds ≡ pos 3600 → dst_view d ≡ summer
    → ((offset_at tz (pos 1_774_745_999_999_000_000)).seconds ≡ pos 3600)
    × ((offset_at tz (pos 1_774_746_000_000_000_000)).seconds ≡ pos 7200)
    × ((offset_at tz (pos 1_792_889_999_999_000_000)).seconds ≡ pos 7200)
    × ((offset_at tz (pos 1_792_890_000_000_000_000)).seconds ≡ pos 3600)
by_rule tz d at a v =
    let window = window_2026 tz.std_offset d a v in
    let b : d.offset.seconds ≡ pos 7200 = ap (λ t. t.seconds) v in
    (rw (at, years.0, window) a, rw (at, years.1, window) b, rw (at, years.2, window) b, rw (at, years.3, window) a)

by_text : (tz : TimeZone) (dst : Option Dst) → tz.dst ≡ dst → tz.std_offset.seconds ≡ pos 3600 → option_map dst_view dst ≡ Some summer
    → ((offset_at tz (pos 1_774_745_999_999_000_000)).seconds ≡ pos 3600)
    × ((offset_at tz (pos 1_774_746_000_000_000_000)).seconds ≡ pos 7200)
    × ((offset_at tz (pos 1_792_889_999_999_000_000)).seconds ≡ pos 7200)
    × ((offset_at tz (pos 1_792_890_000_000_000_000)).seconds ≡ pos 3600)
by_text tz None at a v = cc
by_text tz (Some d) at a v = by_rule tz d at a (ap (λ o. unwrap_or o summer) v)

-- a time zone without rows shows what its rule says
rows_past : (zone : Tzif) (second : ℤ) → zone.transitions.items ≡ [] → Table.count_at zone second ≡ 0
rows_past zone second none = ap (prefix_len (λ t. int_le t.second second)) none

rows_in : (zone : Tzif) → zone.transitions.items ≡ [] → vec_len zone.transitions ≡ 0
rows_in zone none = zone.transitions.ok.0 ∙ ap length none

ruled : (zone : Tzif) (tz : TimeZone) (n : ℤ) → zone.posix_tz ≡ Some tz → zone.transitions.items ≡ [] → Table.offset_at zone n ≡ offset_at tz n
ruled zone tz n at none =
    let rows = rows_past zone (Table.floor_second n) none in
    let all = rows_in zone none in
    let rule_is : Table.rule_after zone (Table.count_at zone (Table.floor_second n)) ≡ Some tz =
    (λ i. if rows i == all i then zone.posix_tz else None) ∙ at in
    (λ i. match_some (rule_is i) (Table.type_after zone (Table.count_at zone (Table.floor_second n))).offset (λ r. offset_at r n))

by_zone : (zone : Tzif) (posix : Option TimeZone) → zone.posix_tz ≡ posix → zone.transitions.items ≡ [] → option_map tz_view posix ≡ Some rule
    → KnowsBerlin zone
by_zone zone None at none v = cc
by_zone zone (Some tz) at none v =
    let same : tz_view tz ≡ rule = ap (λ o. unwrap_or o rule) v in
    let offsets = by_text tz tz.dst refl (ap (λ t. t.std_seconds) same) (ap (λ t. t.dst) same) in
    record {
      last_of_winter = ap (λ o. o.seconds) (ruled zone tz (pos 1_774_745_999_999_000_000) at none) ∙ offsets.0;
      first_of_summer = ap (λ o. o.seconds) (ruled zone tz (pos 1_774_746_000_000_000_000) at none) ∙ offsets.1;
      last_of_summer = ap (λ o. o.seconds) (ruled zone tz (pos 1_792_889_999_999_000_000) at none) ∙ offsets.2;
      first_of_winter = ap (λ o. o.seconds) (ruled zone tz (pos 1_792_890_000_000_000_000) at none) ∙ offsets.3;
    }

no_rows : (zone : Tzif) → (Table.tzif_view zone).transitions ≡ [] → zone.transitions.items ≡ []
no_rows zone is = nil_from_length zone.transitions.items (sym (length-map zone.transitions.items transition_text) ∙ ap length is)

pub berlin : (zone : Tzif) → IsBerlin zone → KnowsBerlin zone
berlin zone is = by_zone zone zone.posix_tz refl (no_rows zone is.transitions) (is.rule ∙ rule_read)
