use Rattle.std.proofs.Common.{◌∙◌}
use Rattle.runs.proofs.Bits.{bit_byte}
use Rattle.access.proofs.ExceptionLaws.{value-sum}
use Rattle.access.proofs.Keeping.{exception-lt}
use Rattle.access.proofs.exception_value.Goals as goal

pub returns : goal.returns
returns c =
    let sum = value-sum c.args.ctrl c.args.a c.args.f.valid c.args.f.kernel c.args.f.we _ _ _ _ _ _
    c.we_exc.ensures c.acc_exc.ensures c.inv_exc.ensures (c.from-write_error.ensures ∙ bit_byte _)
    (c.from-access_violation.ensures ∙ bit_byte _) (c.from-invalid_page.ensures ∙ bit_byte _) in
    (sum, rw sum (exception-lt c.args.ctrl c.args.a c.args.f.valid c.args.f.kernel c.args.f.we))
