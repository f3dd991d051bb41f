-- A trace's step: what a record's call replies, and the registers and runs after it.
use Rattle.std.specs.Prelude.{ℕ, ◌≡◌, List}
use Rattle.registers.specs.Replies.{refused}
use Rattle.registers.specs.declared.Reply.{Reply}
use Rattle.slots.specs.Buffer.{Buffer}
use Rattle.store.specs.Machine.{Machine}
use Rattle.store.specs.TableStore.{store_reply, buffer_after_store, words_after_store}
use Rattle.control.specs.Setting.{setting_reply}
use Rattle.mmu.specs.ServedAccess.{served_reply, served_buffer}
use Rattle.trace.specs.declared.Command.{Command}
use Rattle.trace.specs.declared.Command.TheVariants.{Serve, Store, Set, Malformed}

-- number 8: "a trace record is malformed or cut short"
unfoldable pub step_reply : Machine → Command → Reply
step_reply m (Serve a) = served_reply m a
step_reply m (Store index value) = store_reply m (record { index = index; value = value })
step_reply m (Set number value) = setting_reply m.registers number value
step_reply m Malformed = refused m.registers 8

unfoldable pub buffer_after_step : Machine → Command → Buffer
buffer_after_step m (Serve a) = served_buffer m a
buffer_after_step m (Store index value) = buffer_after_store m (record { index = index; value = value })
buffer_after_step m (Set number value) = m.buffer
buffer_after_step m Malformed = m.buffer

unfoldable pub words_after_step : Machine → Command → List ℕ
words_after_step m (Serve a) = m.words
words_after_step m (Store index value) = words_after_store m (record { index = index; value = value })
words_after_step m (Set number value) = m.words
words_after_step m Malformed = m.words

unfoldable pub machine_after_step : Machine → Command → Machine
machine_after_step m c =
    record { registers = (step_reply m c).registers; buffer = buffer_after_step m c; words = words_after_step m c }

-- what a step promises
pub record StepGives (m : Machine) (c : Command) (reply : Reply) (buffer-after : Buffer) (words-after : List ℕ) : Type 0 where
  pub reply-is : reply ≡ step_reply m c
  pub buffer-is : buffer-after ≡ buffer_after_step m c
  pub words_are : words-after ≡ words_after_step m c
