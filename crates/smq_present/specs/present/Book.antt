-- What a contract sees of a book.
use Rattle.std.specs.Prelude.{ℕ, refl}
use Rattle.std.specs.Coded.{Coded, code_by, coded×, coded_ℕ}
use Rattle.smq_present.specs.present.Present.{PresentValue, present_code}

-- a book: what is present in it, and how often the shelves of what it stores were touched
pub record BookValue : Type 0 where
  pub present : PresentValue
  pub touches : ℕ

-- it is stored as these two
abbrev pub book_code : Coded BookValue
book_code =
    code_by (PresentValue × ℕ) (coded× present_code coded_ℕ) (λ b. (b.present, b.touches)) (λ m. record { present = m.0; touches = m.1 })
    (λ _. refl)

-- a book that stores nothing beside: what is present in it
pub record PlainBookValue : Type 0 where
  pub present : PresentValue

-- it is stored as that
abbrev pub plain_book_code : Coded PlainBookValue
plain_book_code = code_by PresentValue present_code (λ b. b.present) (λ p. record { present = p }) (λ _. refl)
