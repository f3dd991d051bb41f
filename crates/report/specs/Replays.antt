-- What a replay works on, and what it needs of the runs that it is lent.
use Rattle.std.specs.Prelude.{◌≡◌, true, length}
use Rattle.page_table.specs.Stretches.{tables_fit}
use Rattle.registers.specs.declared.Reply.{Reply}
use Rattle.slots.specs.Buffer.Buffer.{Wide}
use Rattle.store.specs.Machine.{Machine}
use Rattle.reach.specs.Index.{Indexes}
use Rattle.trace.specs.Steps.{StepGives}
use Rattle.trace.specs.declared.Command.{Command}
use Rattle.report.specs.Totals.{TOTALS, AllWithin}
use Rattle.report.specs.declared.Replay.{Replay}

-- the machine of a replay
abbrev pub machine_in : Replay → Machine
machine_in p = record { registers = p.registers; buffer = Wide p.buffer.now; words = p.words.now }

-- tables of a fitting length with their index, and fourteen totals for each of 63 identifications
pub record RunsFit (p : Replay) : Type 0 where
  pub fit : tables_fit p.words.now ≡ true
  pub indexed : Indexes p.words.now p.links.now p.presents.now
  pub columns : length p.totals.now ≡ TOTALS

-- what a replay needs of the runs that it is lent: they fit, and all totals are within the limit
pub record Ready (p : Replay) : Type 0 where
  pub runs : RunsFit p
  pub in-limit : AllWithin p.totals.now

-- a replay still works on the runs that it was lent
pub record SameRuns (p q : Replay) : Type 0 where
  pub buffer : q.buffer.ghost_name ≡ p.buffer.ghost_name
  pub words : q.words.ghost_name ≡ p.words.ghost_name
  pub links : q.links.ghost_name ≡ p.links.ghost_name
  pub presents : q.presents.ghost_name ≡ p.presents.ghost_name
  pub totals : q.totals.ghost_name ≡ p.totals.ghost_name

-- What a record's call leaves: the registers of its reply, and the buffer and the tables that it gives. Index and totals stay.
pub record Stepped (p : Replay) (c : Command) (reply : Reply) (q : Replay) : Type 0 where
  pub gives : StepGives (machine_in p) c reply (Wide q.buffer.now) q.words.now
  pub registers : q.registers ≡ reply.registers
  pub long : length q.words.now ≡ length p.words.now
  pub links : q.links.now ≡ p.links.now
  pub presents : q.presents.now ≡ p.presents.now
  pub totals : q.totals.now ≡ p.totals.now
