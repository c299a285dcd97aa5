-- The month of a day is that of its date.
use Rattle.std.proofs.Common.{◌≡◌, ◌∷◌, ◌++◌, ℕ, zero, suc, ◌+◌, ◌-◌, ◌*◌, ◌/◌, ◌%◌, ◌<◌, ◌≤◌, ◌⊎◌, inl, inr, nat_le, if◌then◌else◌, refl, sym, ap, ◌∙◌, arith, pos, to_z, of_z, w16, w32, nat_abs, Fits, ◌+ℤ◌, ◌≤ℤ◌, unsigned_abs}
use Rattle.std.proofs.lemmas.Bool.{cases_order}
use Rattle.std.proofs.lemmas.Int.{by_lt_z}
use Rattle.jiff_core.specs.declared.civil.date.Date.{Date}
use Rattle.jiff_core.specs.Calendar.{IsCivilDate, day_count, days_from_civil}
use Rattle.jiff_core.specs.Date.{epoch_day}
use Rattle.jiff_core.proofs.SignedLemmas.{signed_arith, back_small}
use Rattle.jiff_core.proofs.CalendarLemmas.{day_count-epoch, days_from_civil-day_count, day_count-lt_year, day_count-lt_month, day_count-day, days_in_month_bounds}
use Rattle.jiff_core.proofs.DateLemmas.{civil}
use Rattle.jiff_core.proofs.MarchLemmas.{day_count-early, day_count-late}
use lib.Dec.{T}
use lib.Signed.{non_neg}
use borrow.Author.Differences.{up, down}
use Rattle.std.specs.Prelude.{codes}
use Rattle.std.specs.Fmt.{decimal, digits}
use Rattle.smq_count.specs.Months.{day_text, first_day, month_of, month_text, months_begun, two_digits}

-- the first day of a month is a date
pub first_is_civil : (month : ℕ) → month ≤ 1561 → IsCivilDate (pos (1970 + month / 12)) (month % 12 + 1) 1
first_is_civil month most =
    let bounds = days_in_month_bounds (pos (1970 + month / 12)) (month % 12 + 1) in
    ((omega (arith, signed_arith), omega (arith, signed_arith)), (omega arith, omega arith), (omega arith, omega (arith, bounds)))

-- so is the first day of 1970
epoch_is_civil : IsCivilDate (pos 1970) 1 1
epoch_is_civil = first_is_civil 0 (omega arith)

-- the day count of 1 January 2100
end_count : day_count (pos 2100) 1 1 ≡ 4419435
end_count = day_count-early (pos 2100) 12099 1 1 refl (omega arith) (omega arith) (omega arith)

-- no month from 1970 on begins before it
first_count : (month : ℕ) → 4371953 ≤ day_count (pos (1970 + month / 12)) (month % 12 + 1) 1
first_count month = elim (cases_order 1970 (1970 + month / 12)) [
  | inr (inl before) ↦ omega (arith, day_count-epoch, day_count-lt_year (pos 1970) 1 1 (pos (1970 + month / 12)) (month % 12 + 1) 1 epoch_is_civil (omega arith) (omega (arith, signed_arith)))
  | inr (inr after) ↦ absurd (omega arith)
  | inl same ↦ rw (← same) (elim (cases_order 1 (month % 12 + 1)) [
    | inr (inl before) ↦ omega (arith, day_count-epoch, day_count-lt_month (pos 1970) 1 1 (month % 12 + 1) 1 epoch_is_civil (omega arith) before)
    | inr (inr after) ↦ absurd (omega arith)
    | inl first ↦ rw (← first) (omega (arith, day_count-epoch))
  ])
]

-- the first day of a month from the first date of the calendar on
pub first_day-since_min : (month days : ℕ) → days_from_civil (pos (1970 + month / 12)) (month % 12 + 1) 1 +ℤ pos 4371587 ≡ pos days → days ≡ first_day month + 4371587
unfolding first_day
first_day-since_min month days since =
    let first = first_count month in
    let count = days_from_civil-day_count (pos (1970 + month / 12)) (month % 12 + 1) 1 in
    let is : days_from_civil (pos (1970 + month / 12)) (month % 12 + 1) 1 ≡ pos (days - 4371587) = omega (arith, signed_arith, first, count, since) in
    omega (arith, signed_arith, first, count, since, ap unsigned_abs is)

-- the first day of a month by its day count
pub first_day-count : (month : ℕ) → first_day month + 4371953 ≡ day_count (pos (1970 + month / 12)) (month % 12 + 1) 1
unfolding first_day
first_day-count month =
    let days = day_count (pos (1970 + month / 12)) (month % 12 + 1) 1 in
    let is : days_from_civil (pos (1970 + month / 12)) (month % 12 + 1) 1 ≡ pos (days - 4371953) =
    omega (arith, signed_arith, first_count month, days_from_civil-day_count (pos (1970 + month / 12)) (month % 12 + 1) 1) in
    omega (arith, first_count month, ap unsigned_abs is)

one_more : (first day n : ℕ) → first ≤ day → (if nat_le first day then 1 else 0) + n ≡ suc n
one_more first day n h = grind arith

none_more : (first day n : ℕ) → day < first → (if nat_le first day then 1 else 0) + n ≡ n
none_more first day n h = grind arith

module _ (d : Date) (day : ℕ) (is : epoch_day d ≡ pos day) (most : day ≤ 47482) where
  count : day + 4371953 ≡ day_count d.year d.month d.day
  count = omega (arith, signed_arith, is, days_from_civil-day_count d.year d.month d.day)

  pub year_low : pos 1970 ≤ℤ d.year
  year_low = by_lt_z d.year (pos 1970)
      (λ lt. absurd (omega (arith, count, day_count-epoch, day_count-lt_year d.year d.month d.day (pos 1970) 1 1 (civil d) (omega arith) lt)))
      (λ ge. omega (arith, signed_arith, ge))

  year_is : d.year ≡ pos (unsigned_abs d.year)
  year_is =
      let is : d.year ≡ pos (up d.year - down d.year) = omega (arith, signed_arith, year_low) in
      is ∙ ap pos (sym (ap unsigned_abs is))

  -- it stays as it is in 16 bits
  pub year_kept : to_z w16 (of_z w16 d.year) ≡ d.year
  year_kept = back_small w16 d.year (omega (arith, signed_arith, year_is, d.year_in))

  -- and as an unsigned number of 32 bits
  pub year_fits : T (non_neg d.year) × Fits w32 (nat_abs d.year)
  year_fits = rw year_is (tt, omega (arith, signed_arith, year_is, d.year_in))

  pub year_from : 1970 ≤ unsigned_abs d.year
  year_from = omega (arith, signed_arith, year_is, year_low)

  -- how many months come before that of the date since January 1970
  abbrev pub number : ℕ
  number = (unsigned_abs d.year - 1970) * 12 + d.month - 1

  count_pos : day + 4371953 ≡ day_count (pos (unsigned_abs d.year)) d.month d.day
  count_pos = rw (← year_is) count

  civil_pos : IsCivilDate (pos (unsigned_abs d.year)) d.month d.day
  civil_pos = rw (← year_is) (civil d)

  -- the months up to that one have begun
  begun : (month : ℕ) → month ≤ 1561 → month ≤ number → first_day month ≤ day
  begun month most_ up_to = elim (cases_order (1970 + month / 12) (unsigned_abs d.year)) [
    | inr (inl before) ↦ omega (arith, first_day-count month, count_pos, day_count-lt_year (pos (1970 + month / 12)) (month % 12 + 1) 1 (pos (unsigned_abs d.year)) d.month d.day (first_is_civil month most_) d.day_in.0 (omega (arith, signed_arith)))
    | inr (inr after) ↦ absurd (omega (arith, year_from))
    | inl same ↦ let at : day + 4371953 ≡ day_count (pos (1970 + month / 12)) d.month d.day = rw same count_pos in
        elim (cases_order (month % 12 + 1) d.month) [
          | inr (inl before) ↦ omega (arith, first_day-count month, at, day_count-lt_month (pos (1970 + month / 12)) (month % 12 + 1) 1 d.month d.day (first_is_civil month most_) d.day_in.0 before)
          | inr (inr after) ↦ absurd (omega (arith, year_from))
          | inl one ↦ let there : day + 4371953 ≡ day_count (pos (1970 + month / 12)) (month % 12 + 1) d.day = rw one at in
              omega (arith, first_day-count month, there, day_count-day (pos (1970 + month / 12)) (month % 12 + 1) 1 d.day (omega arith) d.day_in.0)
        ]
  ]

  -- and no later one has
  not_begun : (month : ℕ) → number < month → day < first_day month
  not_begun month after = elim (cases_order (unsigned_abs d.year) (1970 + month / 12)) [
    | inr (inl before) ↦ omega (arith, first_day-count month, count_pos, day_count-lt_year (pos (unsigned_abs d.year)) d.month d.day (pos (1970 + month / 12)) (month % 12 + 1) 1 civil_pos (omega arith) (omega (arith, signed_arith)))
    | inr (inr later) ↦ absurd (omega (arith, year_from, d.month_in))
    | inl same ↦ let at : day + 4371953 ≡ day_count (pos (1970 + month / 12)) d.month d.day = rw (← same) count_pos in
        let is : IsCivilDate (pos (1970 + month / 12)) d.month d.day = rw (← same) civil_pos in
        omega (arith, first_day-count month, at, day_count-lt_month (pos (1970 + month / 12)) d.month d.day (month % 12 + 1) 1 is (omega arith) (omega (arith, year_from, d.month_in)))
  ]

  -- so as many of the first months have begun as come up to it
  counted : (months : ℕ) → months ≤ 1560 → ((months ≤ number) × (months_begun months day ≡ months)) ⊎ ((number < months) × (months_begun months day ≡ number))
  unfolding months_begun
  counted zero most_ = inl (omega arith, refl)
  counted (suc months) most_ = elim (counted months (omega arith)) [
    | inl (low, before) ↦ elim (cases_order (suc months) number) [
      | inl same ↦ inl (omega arith, one_more _ day _ (begun (suc months) (omega arith) (omega arith)) ∙ ap suc before)
      | inr (inl less) ↦ inl (omega arith, one_more _ day _ (begun (suc months) (omega arith) (omega arith)) ∙ ap suc before)
      | inr (inr more) ↦ inr (more, none_more _ day _ (not_begun (suc months) more) ∙ before ∙ omega (arith, low, more))
    ]
    | inr (high, before) ↦ inr (omega arith, none_more _ day _ (not_begun (suc months) (omega arith)) ∙ before)
  ]

  -- it is no later than the first of 2100
  pub number_most : number ≤ 1560
  number_most = elim (cases_order 1560 number) [
    | inl same ↦ omega arith
    | inr (inl more) ↦ absurd (omega (arith, begun 1561 (omega arith) more, first_day-count 1561, end_count, day_count-lt_month (pos 2100) 1 1 2 1 (first_is_civil 1560 (omega arith)) (omega arith) (omega arith)))
    | inr (inr less) ↦ omega arith
  ]

  -- the month of a day is that of its date
  pub month_of_date : number ≡ month_of day
  month_of_date = elim (counted 1560 (omega arith)) [
    | inl (low, is_) ↦ omega (arith, low, is_, number_most)
    | inr (high, is_) ↦ sym is_
  ]

  -- and it has begun
  pub month_begun : first_day (month_of day) ≤ day
  month_begun = rw (← month_of_date) (begun number (omega (arith, number_most)) (omega arith))

  year-number : 1970 + number / 12 ≡ unsigned_abs d.year
  year-number = omega (arith, year_from, d.month_in)

  month-number : number % 12 + 1 ≡ d.month
  month-number = omega (arith, year_from, d.month_in)

  first_of_month : first_day number + 4371953 ≡ day_count (pos (unsigned_abs d.year)) d.month 1
  first_of_month = first_day-count number ∙ (λ i. day_count (pos (year-number i)) (month-number i) 1)

  day-number : day - first_day number + 1 ≡ d.day
  day-number = omega (arith, first_of_month, count_pos, day_count-day (pos (unsigned_abs d.year)) d.month 1 d.day (omega arith) d.day_in.0, d.day_in)

  -- a day is written by its date
  pub date_written : day_text day ≡ decimal (unsigned_abs d.year) ++ 45 ∷ two_digits d.month ++ 45 ∷ two_digits d.day
  date_written = rw (← month_of_date) (λ i. decimal (year-number i) ++ 45 ∷ two_digits (month-number i) ++ 45 ∷ two_digits (day-number i))

-- ---- from the year 2100 on

abbrev first_of_2100 : Date
first_of_2100 = let is = first_is_civil 1560 (omega arith) in record { year = pos 2100; month = 1; day = 1; year_in = is.0; month_in = is.1; day_in = is.2 }

day_of_2100 : epoch_day first_of_2100 ≡ pos 47482
day_of_2100 = omega (arith, signed_arith, end_count, days_from_civil-day_count (pos 2100) 1 1)

-- all months up to its first have begun
pub first_most : (month : ℕ) → month ≤ 1560 → first_day month ≤ 47482
first_most month most = begun first_of_2100 47482 day_of_2100 (omega arith) month (omega arith) most

late_months : (day months : ℕ) → 47482 ≤ day → months ≤ 1560 → months_begun months day ≡ months
unfolding months_begun
late_months day zero late most = refl
late_months day (suc months) late most =
    one_more _ day _ (omega (arith, first_most (suc months) most)) ∙ ap suc (late_months day months late (omega arith))

pub late_month : (day : ℕ) → 47482 ≤ day → month_of day ≡ 1560
late_month day late = late_months day 1560 late (omega arith)

-- ---- days that are written out

written : (year month day count : ℕ) (is : IsCivilDate (pos year) month day) → day_count (pos year) month day ≡ count + 4371953 → count ≤ 47482
    → day_text count ≡ decimal year ++ 45 ∷ two_digits month ++ 45 ∷ two_digits day
written year month day count is counted most =
    date_written (record { year = pos year; month = month; day = day; year_in = is.0; month_in = is.1; day_in = is.2 }) count
    (omega (arith, signed_arith, counted, days_from_civil-day_count (pos year) month day)) most

pub day_0 : day_text 0 ≡ codes "1970-01-01"
unfolding digits
day_0 = written 1970 1 1 0 epoch_is_civil day_count-epoch (omega arith)

leap_is_civil : IsCivilDate (pos 2000) 2 29
leap_is_civil = ((omega (arith, signed_arith), omega (arith, signed_arith)), (omega arith, omega arith), (omega arith, omega arith))

pub day_11016 : day_text 11016 ≡ codes "2000-02-29"
unfolding digits
day_11016 = written 2000 2 29 11016 leap_is_civil (day_count-early (pos 2000) 11999 2 29 refl (omega arith) (omega arith) (omega arith)) (omega arith)

last_is_civil : IsCivilDate (pos 2026) 12 31
last_is_civil = ((omega (arith, signed_arith), omega (arith, signed_arith)), (omega arith, omega arith), (omega arith, omega arith))

pub day_20818 : day_text 20818 ≡ codes "2026-12-31"
unfolding digits
day_20818 = written 2026 12 31 20818 last_is_civil (day_count-late (pos 2026) 12026 12 31 refl (omega arith) (omega arith) (omega arith)) (omega arith)

pub day_515 : day_text 515 ≡ codes "1971-05-31"
unfolding digits
day_515 = written 1971 5 31 515 ((omega (arith, signed_arith), omega (arith, signed_arith)), (omega arith, omega arith), (omega arith, omega arith)) (day_count-late (pos 1971) 11971 5 31 refl (omega arith) (omega arith) (omega arith)) (omega arith)

pub day_20751 : day_text 20751 ≡ codes "2026-10-25"
unfolding digits
day_20751 = written 2026 10 25 20751 ((omega (arith, signed_arith), omega (arith, signed_arith)), (omega arith, omega arith), (omega arith, omega arith)) (day_count-late (pos 2026) 12026 10 25 refl (omega arith) (omega arith) (omega arith)) (omega arith)

pub day_20786 : day_text 20786 ≡ codes "2026-11-29"
unfolding digits
day_20786 = written 2026 11 29 20786 ((omega (arith, signed_arith), omega (arith, signed_arith)), (omega arith, omega arith), (omega arith, omega arith)) (day_count-late (pos 2026) 12026 11 29 refl (omega arith) (omega arith) (omega arith)) (omega arith)

pub day_20788 : day_text 20788 ≡ codes "2026-12-01"
unfolding digits
day_20788 = written 2026 12 1 20788 ((omega (arith, signed_arith), omega (arith, signed_arith)), (omega arith, omega arith), (omega arith, omega arith)) (day_count-late (pos 2026) 12026 12 1 refl (omega arith) (omega arith) (omega arith)) (omega arith)

new_year_is_civil : IsCivilDate (pos 2027) 1 1
new_year_is_civil = ((omega (arith, signed_arith), omega (arith, signed_arith)), (omega arith, omega arith), (omega arith, omega arith))

pub day_20819 : day_text 20819 ≡ codes "2027-01-01"
unfolding digits
day_20819 = written 2027 1 1 20819 new_year_is_civil (day_count-early (pos 2027) 12026 1 1 refl (omega arith) (omega arith) (omega arith)) (omega arith)

pub month_20819 : month_of 20819 ≡ 684
month_20819 =
    let date : Date = record { year = pos 2027; month = 1; day = 1; year_in = new_year_is_civil.0; month_in = new_year_is_civil.1; day_in = new_year_is_civil.2 } in
    sym (month_of_date date 20819 (omega (arith, signed_arith, day_count-early (pos 2027) 12026 1 1 refl (omega arith) (omega arith) (omega arith), days_from_civil-day_count (pos 2027) 1 1)) (omega arith))

pub day_47482 : day_text 47482 ≡ codes "2100-01-01"
unfolding digits
day_47482 = written 2100 1 1 47482 (first_is_civil 1560 (omega arith)) end_count (omega arith)

pub month_11016 : month_text (month_of 11016) ≡ codes "2000-02"
unfolding digits
month_11016 =
    let date : Date = record { year = pos 2000; month = 2; day = 29; year_in = leap_is_civil.0; month_in = leap_is_civil.1; day_in = leap_is_civil.2 } in
    rw (← month_of_date date 11016 (omega (arith, signed_arith, day_count-early (pos 2000) 11999 2 29 refl (omega arith) (omega arith) (omega arith), days_from_civil-day_count (pos 2000) 2 29)) (omega arith)) refl
