-- A command's call leads where its step leads. Assumes nothing.
use Prim.Native.Nat.{ℕ}
use mathlib.Core.Path.{◌≡◌, refl, sym, subst}
use mathlib.Core.List.{List}
use Rattle.registers.specs.Replies.{refused}
use Rattle.registers.specs.declared.Access.{Access}
use Rattle.registers.specs.declared.Reply.{Reply}
use Rattle.slots.specs.Buffer.{Buffer}
use Rattle.store.specs.Machine.{Machine}
use Rattle.store.specs.TableStore.{TableStoreGives}
use Rattle.control.specs.Setting.{GuardedSettingGives}
use Rattle.mmu.specs.ServedAccess.{ServedAccessGives}
use Rattle.trace.specs.Steps.{step_reply, buffer_after_step, words_after_step, StepGives}
use Rattle.trace.specs.declared.Command.{Command}
use Rattle.trace.specs.declared.Command.TheVariants.{Serve, Store, Set, Malformed}

module _ (m : Machine) (c : Command) (reply : Reply) where
  pub serve-step : (a : Access) (buffer : Buffer) → c ≡ Serve a → ServedAccessGives m a reply buffer → StepGives m c reply buffer m.words
  unfolding step_reply buffer_after_step words_after_step
  serve-step a buffer e g =
      subst (λ d. StepGives m d reply buffer m.words) (sym e)
      (record { reply-is = g.reply-is; buffer-is = g.buffer-is; words_are = refl })

  pub store_step : (index value : ℕ) (buffer : Buffer) (words : List ℕ) → c ≡ Store index value
      → TableStoreGives m (record { index = index; value = value }) reply buffer words → StepGives m c reply buffer words
  unfolding step_reply buffer_after_step words_after_step
  store_step index value buffer words e g =
      subst (λ d. StepGives m d reply buffer words) (sym e)
      (record { reply-is = g.reply-is; buffer-is = g.buffer-is; words_are = g.words_are })

  pub set-step : (number value : ℕ) → c ≡ Set number value → GuardedSettingGives m.registers number value reply
      → StepGives m c reply m.buffer m.words
  unfolding step_reply buffer_after_step words_after_step
  set-step number value e g =
      subst (λ d. StepGives m d reply m.buffer m.words) (sym e)
      (record { reply-is = g.reply-is; buffer-is = refl; words_are = refl })

  pub malformed-step : c ≡ Malformed → reply ≡ refused m.registers 8 → StepGives m c reply m.buffer m.words
  unfolding step_reply buffer_after_step words_after_step
  malformed-step e g =
      subst (λ d. StepGives m d reply m.buffer m.words) (sym e)
      (record { reply-is = g; buffer-is = refl; words_are = refl })
