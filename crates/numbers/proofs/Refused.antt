-- What `?` leaves. Of an option that is refused where it is missing: on, the value was there; out, it was not, and what is returned is the refusal given, as `conv` makes it
-- that of the function. Of a result: out, its refusal is returned. And a truth as a number. Assumes nothing.
use Rattle.std.proofs.Common.{◌≡◌, ◌≤◌, Bool, true, false, cond, Option, Some, None, Result, Ok, Err, ok_or, IsErr, IsErrAnd, refl, ap, ◌∙◌, arith}
use mir.Val.{bool_byte}

pub found : {T E : Type 0} (o : Option T) (e : E) (r : Result T E) (x : T) → r ≡ ok_or o e → r ≡ Ok x → o ≡ Some x
found (Some y) e r x h k = cc
found None e r x h k = cc

missing : {T E : Type 0} (o : Option T) (e : E) (r : Result T E) (d : E) → r ≡ ok_or o e → r ≡ Err d → (o ≡ None) × (d ≡ e)
missing (Some y) e r d h k = absurd cc
missing None e r d h k = (refl, cc)

pub passed_on : {T F : Type 0} (r : Result T F) (e : F) → IsErr r × IsErrAnd r (λ y. y ≡ e) → r ≡ Err e
passed_on (Ok x) e h = absurd cc
passed_on (Err y) e h = ap Err h.1

pub refused :
    {T E A F : Type 0} (conv : E → F) (o : Option T) (e : E) (q : Result T E) (d : E) (r : Result A F) →
    q ≡ ok_or o e → q ≡ Err d → IsErr r × IsErrAnd r (λ y. y ≡ conv d) → (o ≡ None) × (r ≡ Err (conv e))
refused conv o e q d r h k out =
    let gone = missing o e q d h k in
    (gone.0, passed_on r (conv d) out ∙ ap (λ x. Err (conv x)) gone.1)

pub as_number : (b : Bool) → bool_byte b ≡ cond b 1 0
as_number true = refl
as_number false = refl

pub as_number_small : (b : Bool) → bool_byte b ≤ 1
as_number_small true = omega arith
as_number_small false = omega arith
