-- The exceptions of an access to a page whose entry or leaf has these bits.
use Rattle.std.specs.Prelude.{ℕ, ◌+◌, ◌*◌, Bool, not, ◌&&◌}
use Rattle.runs.specs.Bits.{flag, bit}
use Rattle.registers.specs.declared.Access.{Access}

-- CTRL: inv_exc bit 2, acc_exc 1, we_exc 0
unfoldable pub inv_exc : (ctrl : ℕ) → Bool
inv_exc ctrl = flag 2 ctrl

unfoldable pub acc_exc : (ctrl : ℕ) → Bool
acc_exc ctrl = flag 1 ctrl

unfoldable pub we_exc : (ctrl : ℕ) → Bool
we_exc ctrl = flag 0 ctrl

-- write error = write, not we, we_exc
unfoldable pub write_error : (ctrl : ℕ) → Access → (we : Bool) → Bool
write_error ctrl a we = a.write && not we && we_exc ctrl

-- access violation = user, kernel, acc_exc
unfoldable pub access_violation : (ctrl : ℕ) → Access → (kernel : Bool) → Bool
access_violation ctrl a kernel = a.user && kernel && acc_exc ctrl

-- invalid page = not valid, inv_exc
unfoldable pub invalid_page : (ctrl : ℕ) (valid : Bool) → Bool
invalid_page ctrl valid = not valid && inv_exc ctrl

-- exception value: write error 1, access violation 2, invalid page 4, added up
unfoldable pub exception_value : (ctrl : ℕ) → Access → (valid kernel we : Bool) → ℕ
exception_value ctrl a valid kernel we =
    bit (write_error ctrl a we) + 2 * bit (access_violation ctrl a kernel) + 4 * bit (invalid_page ctrl valid)

-- the exception value of a miss
abbrev pub MISS : ℕ
MISS = 8
