-- What holds where a result is no error.
use Rattle.std.proofs.Common.{Result, Ok, Err}
use Rattle.std.specs.Prelude.{IsOk, OnOk}
use Rattle.std.proofs.lemmas.Bool.{false≢true}

pub ok_gives : {T E : Type 0} (r : Result T E) (P : Type 0) → IsOk r → OnOk r P → P
ok_gives (Ok x) P is on = on
ok_gives (Err e) P is on = absurd (false≢true is)

pub on_ok : {T E : Type 0} (r : Result T E) (P Q : Type 0) → OnOk r P → (P → Q) → OnOk r Q
on_ok (Ok x) P Q is more = more is
on_ok (Err e) P Q is more = tt
