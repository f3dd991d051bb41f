use mathlib.Core.Path.{refl}
use Rattle.trace.specs.Commands.{is_plain, user_of, write_of, draw_of}
use Rattle.trace.proofs.records.is_plain.Goals as goal

pub returns : goal.returns
unfolding is_plain user_of write_of draw_of
returns c = rw (c.flag.ensures, c.flag-2.ensures) refl
