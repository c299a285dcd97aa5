-- Scripts of rows, at known values.
use Rattle.std.specs.Prelude.{◌≡◌, [], ◌∷◌, false, map}
use Rattle.smq_parts.specs.declared.by.By.TheVariants as by
use Rattle.smq_parts.specs.Parts.{day_of, hour_of, is_part, part_by, rows_of}

-- days begin at midnight in UTC: 29 November 2026 is the day 20786, and begins with the hour 498864; the last day is 1 January 2100
pub record KnowsParts : Type 0 where
  pub first : day_of 86399999 ≡ 0
  pub second : day_of 86400000 ≡ 1
  pub midnight : day_of 1795910400000 ≡ 20786
  pub last : day_of 4102444800000 ≡ 47482
  pub past : day_of 18446744073709551615 ≡ 47482
  pub last_ms : hour_of 1795910399999 ≡ 498863
  pub hour : hour_of 1795910400000 ≡ 498864
  pub next_hour : hour_of 1795914000000 ≡ 498865
  pub last_hour : hour_of 4102444800000 ≡ 1139568
  pub past_hour : hour_of 18446744073709551615 ≡ 1139568
  pub link : part_by by.Link 7 1795910400000 ≡ record { link = 7; period = 0 }
  pub day : part_by by.Day 7 1795910400000 ≡ record { link = 0; period = 20786 }
  pub of_hour : part_by by.Hour 7 1795910400000 ≡ record { link = 0; period = 498864 }
  pub both : part_by by.LinkAndDay 7 1795910400000 ≡ record { link = 7; period = 20786 }
  pub both_hour : part_by by.LinkAndHour 7 1795910400000 ≡ record { link = 7; period = 498864 }
  pub other_link : is_part (record { link = 7; period = 20786 }) (record { link = 8; period = 20786 }) ≡ false
  pub other_period : is_part (record { link = 7; period = 20786 }) (record { link = 7; period = 20787 }) ≡ false
  pub rows : map (λ row. row.text) (rows_of by.LinkAndDay (record { link = 7; period = 20786 })
      (record { link = 7; moment = 1795910399999; text = 1 ∷ [] } ∷ record { link = 7; moment = 1795910400000; text = 2 ∷ [] }
      ∷ record { link = 8; moment = 1795910400000; text = 3 ∷ [] } ∷ record { link = 7; moment = 1795996799999; text = 4 ∷ [] } ∷ []))
      ≡ (2 ∷ []) ∷ (4 ∷ []) ∷ []
