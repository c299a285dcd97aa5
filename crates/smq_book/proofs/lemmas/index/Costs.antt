-- The changes that moves tell, and what is counted with them.
use Rattle.std.proofs.Common.{◌≡◌, [], cond, Option, Some, None, refl, sym, ap}
use Rattle.smq_group.specs.Changes.{changed}
use Rattle.smq_group.specs.declared.change.Standing.{Standing}
use Rattle.smq_group.proofs.Turning.{standing-itself}

-- a standing that stays isn't told
pub unchanged : (x : Option Standing) → None ≡ changed x x
unchanged None = refl
unchanged (Some s) = sym (ap (λ b. cond b None (Some s)) (standing-itself s))
