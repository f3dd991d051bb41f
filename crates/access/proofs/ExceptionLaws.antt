-- What the code of the exceptions needs of its definitions. Assumes nothing.
use Prim.Native.Nat.{ℕ, ◌+◌, ◌*◌, ◌%◌}
use mathlib.Core.Path.{◌≡◌}
use mathlib.Core.Bool.{Bool, not, ◌&&◌}
use native.Mathlib.Nat.{div-one}
use lib.Dec.{eqb}
use Rattle.runs.specs.Bits.{bit}
use Rattle.registers.specs.declared.Access.{Access}
use Rattle.access.specs.Exceptions.{inv_exc, acc_exc, we_exc, write_error, access_violation, invalid_page, exception_value}

-- the sum of the three bits
pub value-sum : (ctrl : ℕ) (a : Access) (valid kernel we : Bool) (w v i : ℕ) (xw xa xi : Bool) → xw ≡ we_exc ctrl
    → xa ≡ acc_exc ctrl → xi ≡ inv_exc ctrl → w ≡ bit (a.write && not we && xw) → v ≡ bit (a.user && kernel && xa)
    → i ≡ bit (not valid && xi)
    → w + 2 * v + 4 * i ≡ exception_value ctrl a valid kernel we
unfolding exception_value write_error access_violation invalid_page
value-sum ctrl a valid kernel we w v i xw xa xi ew ea ei p q r = rw (p, q, r, ew, ea, ei)

pub we-exc-is : (ctrl : ℕ) → eqb (ctrl % 2) 1 ≡ we_exc ctrl
unfolding we_exc
we-exc-is ctrl = rw (div-one ctrl)
