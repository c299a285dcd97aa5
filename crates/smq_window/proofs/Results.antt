-- What holds of the value of a result, from what holds of it.
use Rattle.std.specs.Prelude.{Result, Ok, Err, IfOk, OnOk}

pub ok-from : {T E : Type 0} (P Q : T → Type 0) (r : Result T E) → IfOk r P → ((x : T) → P x → Q x) → IfOk r Q
ok-from P Q (Ok x) h f = f x h
ok-from P Q (Err e) h f = tt

pub ok-from_three : {T E : Type 0} (P R S Q : T → Type 0) (r : Result T E) → IfOk r P → IfOk r R → IfOk r S
    → ((x : T) → P x → R x → S x → Q x) → IfOk r Q
ok-from_three P R S Q (Ok x) h i j f = f x h i j
ok-from_three P R S Q (Err e) h i j f = tt

pub on-from : {T E : Type 0} (P Q : Type 0) (r : Result T E) → OnOk r P → (P → Q) → OnOk r Q
on-from P Q (Ok x) h f = f h
on-from P Q (Err e) h f = tt
