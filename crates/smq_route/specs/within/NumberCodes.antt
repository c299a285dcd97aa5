-- How a number is packed into one: to base 11 in 15 positions, the first digit first, each as one more than its value, and 0 past the
-- end. So codes are in the order of the numbers' octets, and those of the numbers that begin with a prefix adjoin.
use Rattle.std.specs.Prelude.{◌≡◌, ℕ, zero, suc, ◌+◌, ◌-◌, ◌*◌, ◌/◌, ◌%◌, ◌^◌, ◌==◌, List, [], ◌∷◌, length, if◌then◌else◌}
use Rattle.smq_kit.specs.Numbers.{IsDigits}

-- digits in so many positions
unfoldable pub packed : ℕ → List ℕ → ℕ
packed zero ds = 0
packed (suc k) [] = 0
packed (suc k) (d ∷ ds) = (d - 47) * 11 ^ k + packed k ds

-- the digits that are packed in so many positions
unfoldable pub unpacked : ℕ → ℕ → List ℕ
unpacked zero n = []
unpacked (suc k) n = if n / 11 ^ k == 0 then [] else (n / 11 ^ k + 47) ∷ unpacked k (n % 11 ^ k)

-- the code of a number, and the number of a code
unfoldable pub code_of : List ℕ → ℕ
code_of number = packed 15 number

unfoldable pub number_of : ℕ → List ℕ
number_of code = unpacked 15 code

-- how many codes the numbers have that begin with a prefix
abbrev pub span_of : List ℕ → ℕ
span_of prefix = 11 ^ (15 - length prefix)

-- the code of a number
pub record IsCode (code : ℕ) : Type 0 where
  pub digits : IsDigits (number_of code)
  pub packed : code ≡ code_of (number_of code)
