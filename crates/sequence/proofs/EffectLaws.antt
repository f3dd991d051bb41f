-- One lemma an effect: reader and account follow the machine, the invariant stays, and the unit stays in service. Assumes nothing.
use Prim.Native.Nat.{ℕ, ◌≤◌, ◌<◌}
use mathlib.Core.Path.{◌≡◌, refl, sym, ap, ◌∙◌, subst, subst₂}
use mathlib.Core.Bool.{Bool, true, false, cond, not, ◌||◌}
use mathlib.Core.List.{List, [], ◌∷◌}
use lib.Dec.{eqb, leb}
use lib.ListN.{set, length-set}
use borrow.Author.Tests.{leb-true}
use Rattle.registers.specs.Fields.{registers_fit}
use Rattle.registers.specs.declared.Access.{Access}
use Rattle.page_table.specs.Stretches.{tables_fit}
use Rattle.page_table.specs.declared.Walk.{Walk}
use Rattle.page_table.specs.declared.Walk.TheVariants.{Leaf, Absent, Broken}
use Rattle.slots.specs.Buffer.{Buffer, buffer_fits}
use Rattle.tlb.proofs.Loads.{load_fits}
use Rattle.access.specs.Translation.{is_set}
use Rattle.store.specs.Machine.{Machine}
use Rattle.store.specs.Rewrite.{Put, written}
use Rattle.store.specs.Sweep.{swept}
use Rattle.store.proofs.Sweeps.{swept-fits}
use Rattle.control.specs.Setting.{switch_fits}
use Rattle.mmu.specs.ServedAccess.{missed, first_try, walk_for, buffer_loaded, buffer_after_miss, access_buffer}
use Rattle.sequence.specs.Reader.{Settings, settings_of, with_guarded, reader_walk}
use Rattle.sequence.specs.Account.{Slots, slots_swept}
use Rattle.sequence.specs.Effects.{Effect, rewritten, swept_all, reader_does, slots_do}
use Rattle.sequence.specs.Effects.Effect.{Keep, Serve, Rewrite, Set}
use Rattle.sequence.proofs.Invariant.{Inv, sweep-keeps}
use Rattle.sequence.proofs.Serving.{reader_of, access-inv}
use Rattle.sequence.proofs.Following.{SameSlots, access-same, sweep-same}

-- what every machine of a sequence is
pub record Sound (m : Machine) : Type 0 where
  pub inv : Inv m.words m.buffer
  pub registers-fit : registers_fit m.registers ≡ true
  pub buffer-fits : buffer_fits m.buffer ≡ true
  pub words-fit : tables_fit m.words ≡ true
  pub test-off : m.registers.test ≡ 0
  pub context-served : m.registers.context ≤ 62

pub off : (x : ℕ) → x ≡ 0 → is_set x ≡ false
unfolding is_set
off x e = rw e

-- ---- where an effect leads

-- the buffer after all groups, each with one sweep
unfoldable pub buffer_after : List (List Put) → (words : List ℕ) → Buffer → Buffer
buffer_after [] words b = b
buffer_after (g ∷ gs) words b = buffer_after gs (written g words) (swept (written g words) b)

-- a machine with these settings and runs; the registers that are not guarded are free but for fitting, and for test mode
pub record Led (settings : Settings) (buffer : Buffer) (words : List ℕ) (m : Machine) : Type 0 where
  pub settings-are : settings_of m.registers ≡ settings
  pub buffer-is : m.buffer ≡ buffer
  pub words_are : m.words ≡ words
  pub registers-fit : registers_fit m.registers ≡ true
  pub test-off : m.registers.test ≡ 0

unfoldable pub Leads : Machine → Effect → Machine → Type 0
Leads m Keep m' = Led (settings_of m.registers) m.buffer m.words m'
Leads m (Serve a) m' = Led (settings_of m.registers) (access_buffer m a) m.words m'
Leads m (Rewrite gs) m' = Led (settings_of m.registers) (buffer_after gs m.words m.buffer) (rewritten gs m.words) m'
Leads m (Set number value) m' = Led (with_guarded (settings_of m.registers) number value) m.buffer m.words m'

-- what its call's acceptance gives
unfoldable pub Fit : Effect → Type 0
Fit Keep = Unit {0}
Fit (Serve a) = a.draw < 4
Fit (Rewrite gs) = Unit {0}
Fit (Set number value) = switch_fits number value ≡ true

-- ---- what follows

pub record Follows (m : Machine) (slots : Slots) (e : Effect) (m' : Machine) : Type 0 where
  pub sound : Sound m'
  pub reader : reader_does (reader_of m) e ≡ reader_of m'
  pub same-slots : SameSlots m'.buffer (slots_do (reader_of m) slots e)

module _ (settings : Settings) (b : Buffer) (words : List ℕ) (m' : Machine) (l : Led settings b words m') where
  led-sound : Inv words b → buffer_fits b ≡ true → tables_fit words ≡ true → settings.context ≤ 62 → Sound m'
  unfolding settings_of
  led-sound inv bf wf c = record {
    inv = subst₂ Inv (sym l.words_are) (sym l.buffer-is) inv;
    registers-fit = l.registers-fit;
    buffer-fits = ap buffer_fits l.buffer-is ∙ bf;
    words-fit = ap tables_fit l.words_are ∙ wf;
    test-off = l.test-off;
    context-served = subst (λ (n : ℕ). n ≤ 62) (sym (ap (λ (s : Settings). s.context) l.settings-are)) c;
  }

  led-reader : record { words = words; settings = settings } ≡ reader_of m'
  unfolding reader_of
  led-reader = λ j. record { words = sym l.words_are j; settings = sym l.settings-are j }

  led-slots : (slots : Slots) → SameSlots b slots → SameSlots m'.buffer slots
  led-slots slots same = subst (λ (x : Buffer). SameSlots x slots) (sym l.buffer-is) same

-- an access leaves a buffer that fits
pub access-fits : (m : Machine) (a : Access) → buffer_fits (access_buffer m a) ≡ buffer_fits m.buffer
unfolding access_buffer buffer_after_miss buffer_loaded
access-fits m a = go (missed (first_try m a)) (walk_for m a)
  where
    go : (t : Bool) (x : Walk) → buffer_fits (cond t (buffer_after_miss x (first_try m a).registers m.buffer a) m.buffer)
        ≡ buffer_fits m.buffer
    go true (Leaf f) = load_fits m.buffer _ _ _ _
    go true (Absent s) = refl
    go true (Broken s) = refl
    go false x = refl

-- groups of words
written-fit : (ps : List Put) (words : List ℕ) → tables_fit (written ps words) ≡ tables_fit words
unfolding written tables_fit
written-fit [] words = refl
written-fit (p ∷ ps) words = written-fit ps (set words p.index p.value) ∙ rw (length-set words p.index p.value)

rewritten-fit : (gs : List (List Put)) (words : List ℕ) → tables_fit (rewritten gs words) ≡ tables_fit words
unfolding rewritten
rewritten-fit [] words = refl
rewritten-fit (g ∷ gs) words = rewritten-fit gs (written g words) ∙ written-fit g words

after-fits : (gs : List (List Put)) (words : List ℕ) (b : Buffer) → buffer_fits (buffer_after gs words b) ≡ buffer_fits b
unfolding buffer_after
after-fits [] words b = refl
after-fits (g ∷ gs) words b = after-fits gs (written g words) (swept (written g words) b) ∙ swept-fits (written g words) b

groups-inv : (gs : List (List Put)) (words : List ℕ) (b : Buffer) → buffer_fits b ≡ true → Inv words b
    → Inv (rewritten gs words) (buffer_after gs words b)
unfolding rewritten buffer_after
groups-inv [] words b f inv = inv
groups-inv (g ∷ gs) words b f inv =
    groups-inv gs (written g words) (swept (written g words) b) (swept-fits (written g words) b ∙ f)
    (sweep-keeps (written g words) b f words inv)

groups-same : (gs : List (List Put)) (words : List ℕ) (b : Buffer) (slots : Slots) → buffer_fits b ≡ true → SameSlots b slots
    → SameSlots (buffer_after gs words b) (swept_all gs words slots)
unfolding buffer_after swept_all
groups-same [] words b slots f same = same
groups-same (g ∷ gs) words b slots f same =
    groups-same gs (written g words) (swept (written g words) b) (slots_swept (written g words) slots) (swept-fits (written g words) b ∙ f)
    (sweep-same (written g words) b slots f same)

-- a guarded switch stays within 62
switch-le : (s : Settings) (number value : ℕ) → s.context ≤ 62 → switch_fits number value ≡ true
    → (with_guarded s number value).context ≤ 62
unfolding with_guarded switch_fits
switch-le s number value l h = go (eqb number 5) h
  where
    go : (t : Bool) → not t || leb value 62 ≡ true → cond t value s.context ≤ 62
    go true q = leb-true value 62 q
    go false q = l

module _ (m : Machine) (slots : Slots) (s : Sound m) (same : SameSlots m.buffer slots) where
  pub follows : (e : Effect) (m' : Machine) → Fit e → Leads m e m' → Follows m slots e m'
  unfolding Leads Fit reader_does slots_do reader_of reader_walk settings_of walk_for
  follows Keep m' f l = record {
    sound = led-sound _ _ _ m' l s.inv s.buffer-fits s.words-fit s.context-served;
    reader = led-reader _ _ _ m' l;
    same-slots = led-slots _ _ _ m' l slots same;
  }
  follows (Serve a) m' f l = record {
    sound =
        led-sound _ _ _ m' l
        (access-inv m a (off _ s.test-off) s.context-served f s.buffer-fits s.inv)
        (access-fits m a ∙ s.buffer-fits)
        s.words-fit
        s.context-served;
    reader = led-reader _ _ _ m' l;
    same-slots =
        led-slots _ _ _ m' l _ (access-same m a slots same s.inv s.buffer-fits s.context-served f (off _ s.test-off));
  }
  follows (Rewrite gs) m' f l = record {
    sound =
        led-sound _ _ _ m' l
        (groups-inv gs m.words m.buffer s.buffer-fits s.inv)
        (after-fits gs m.words m.buffer ∙ s.buffer-fits)
        (rewritten-fit gs m.words ∙ s.words-fit)
        s.context-served;
    reader = led-reader _ _ _ m' l;
    same-slots = led-slots _ _ _ m' l _ (groups-same gs m.words m.buffer slots s.buffer-fits same);
  }
  follows (Set number value) m' f l = record {
    sound =
        led-sound _ _ _ m' l s.inv s.buffer-fits s.words-fit
        (switch-le (settings_of m.registers) number value s.context-served f);
    reader = led-reader _ _ _ m' l;
    same-slots = led-slots _ _ _ m' l slots same;
  }
