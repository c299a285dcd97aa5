use Rattle.std.proofs.Common.{◌≡◌, ℤ, ◌-ℤ◌, FitsSigned, w64, Option, Some, refl, arith}
use Rattle.std.specs.Prelude.{option_map}
use Rattle.std.specs.Option.{option_zip}
use Rattle.std.proofs.lemmas.Int.{ints, to_z-of_z}
use Rattle.smq_receipt.proofs.date.centre_delay.Goals as goal

between : (from to : Option ℤ) (submit done : ℤ) → Some submit ≡ from → Some done ≡ to
    → Some (done -ℤ submit) ≡ option_map (λ p. p.1 -ℤ p.0) (option_zip from to)
between from to submit done f t = rw (← f, ← t) refl

pub returns : goal.returns
returns c =
    let submit_fits : FitsSigned w64 c.in_ok-submit.submit = omega (arith, ints, c.in_ok-submit.ensures.bound) in
    let done_fits : FitsSigned w64 c.in_ok-done.done = omega (arith, ints, c.in_ok-done.ensures.bound) in
    let delay_fits : FitsSigned w64 (c.in_ok-done.done -ℤ c.in_ok-submit.submit) =
    omega (arith, ints, c.in_ok-submit.ensures.bound, c.in_ok-done.ensures.bound) in
    simp to_z-of_z (between _ _ c.in_ok-submit.submit c.in_ok-done.done c.in_ok-submit.ensures.value c.in_ok-done.ensures.value)
