-- What holds where a result is an `Ok` or an `Err`.
use Rattle.std.proofs.Common.{◌≡◌, ◌⊎◌, inl, inr, true}
use Rattle.std.specs.Prelude.{Result, Ok, Err, is_err, OnOk, OnErr}

pub on_err : {T E : Type 0} (P : Type 0) (r : Result T E) → is_err r ≡ true → OnErr r P → P
on_err P (Ok x) e h = absurd cc
on_err P (Err x) e h = h

pub err_of : {T E : Type 0} (P : Type 0) (r : Result T E) → P → OnErr r P
err_of P (Ok x) h = tt
err_of P (Err x) h = h

pub err_map : {T E : Type 0} (P Q : Type 0) (r : Result T E) → (P → Q) → OnErr r P → OnErr r Q
err_map P Q (Ok x) f h = tt
err_map P Q (Err x) f h = f h

pub ok_map : {T E : Type 0} (P Q : Type 0) (r : Result T E) → (P → Q) → OnOk r P → OnOk r Q
ok_map P Q (Ok x) f h = f h
ok_map P Q (Err x) f h = tt

pub ok_of : {T E : Type 0} (P : Type 0) (r : Result T E) → P → OnOk r P
ok_of P (Ok x) h = h
ok_of P (Err x) h = tt

-- the other of two
pub other : {P Q : Type 0} → P ⊎ Q → (P → ⊥) → Q
other (inl p) f = absurd (f p)
other (inr q) f = q
