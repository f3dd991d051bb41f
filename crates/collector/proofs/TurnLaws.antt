-- One visited leaf, and the leaves of a table one after another, in the code's words. Assumes nothing.
use Prim.Native.Nat.{ℕ, ◌+◌, ◌*◌, ◌≤◌, ◌<◌}
use mathlib.Core.Path.{◌≡◌, refl, sym, ap, ap₂, ◌∙◌}
use mathlib.Core.Logic.{inr}
use mathlib.Core.Bool.{Bool, true, false, cond, not}
use mathlib.Core.List.{List, [], ◌∷◌, ◌++◌, append-nil}
use native.Mathlib.Nat.{add-zero}
use native.Mathlib.Numerals.{add-one}
use native.Mathlib.Omega.{arith}
use lib.ListN.{length, get_or, set}
use Rattle.runs.specs.Bits.{bit}
use Rattle.runs.proofs.Bits.{bit_le}
use Rattle.runs.proofs.Counts.{count-le}
use Rattle.page_table.specs.Words.{leaf_valid, leaf_pfn}
use Rattle.slots.specs.Buffer.{Buffer, buffer_fits}
use Rattle.store.specs.Rewrite.{Put, written, RewriteGives}
use Rattle.store.specs.Sweep.{swept, emptied, kept_at}
use Rattle.store.proofs.Sweeps.{swept-fits}
use Rattle.heap.specs.Give.{give_reply, GiveGives}
use Rattle.heap.specs.declared.PoolReply.{PoolReply}
use Rattle.store.specs.Scan.{put_at, puts_from}
use Rattle.store.proofs.Scans.{written-length, written-other, scan-elsewhere, scan-length}
use Rattle.collector.specs.Visits.{is_visited, aged, aged_puts, table_leaves}
use Rattle.collector.specs.Turns.{State, pool_after, turn, turns}
use Rattle.collector.proofs.Puts.{aged-scan}
use Rattle.collector.specs.declared.Aged.{Aged}

-- ---- one leaf

pub emptied-le : (words : List ℕ) (b : Buffer) → emptied words b ≤ 64
unfolding emptied
emptied-le words b = count-le (λ slot. not (kept_at words b slot)) 64

pub rewrite-le : (puts : List Put) (words now : List ℕ) (b after : Buffer) (n : ℕ) → RewriteGives puts words now b after n → n ≤ 64
rewrite-le puts words now b after n r = omega (arith, r.number_is, emptied-le (written puts words) b)

module _ (b after : Buffer) (words now : List ℕ) (index word value n : ℕ) (begun : Aged) (wq : word ≡ get_or words index 0)
    (vq : value ≡ aged word) (r : RewriteGives ((record { index = index; value = value }) ∷ []) words now b after n)
    (valid : Bool) (t : valid ≡ leaf_valid word) where
  value-is : value ≡ aged (get_or words index 0)
  value-is = vq ∙ ap aged wq

  words-is : now ≡ set words index (aged (get_or words index 0))
  unfolding written
  words-is = r.words_are ∙ ap (set words index) value-is

  buffer-is : after ≡ swept (set words index (aged (get_or words index 0))) b
  unfolding written
  buffer-is = r.buffer-is ∙ ap (λ (v : ℕ). swept (set words index v) b) value-is

  number_is : n ≡ emptied (set words index (aged (get_or words index 0))) b
  unfolding written
  number_is = r.number_is ∙ ap (λ (v : ℕ). emptied (set words index v) b) value-is

  valid-is : leaf_valid (get_or words index 0) ≡ valid
  valid-is = ap leaf_valid (sym wq) ∙ sym t

  pub turn-valid : valid ≡ true
      → ◌≡◌ {A = State} (record {
        buffer = after;
        words = now;
        aged =
            record { given = begun.given; emptied = begun.emptied + n; pool = begun.pool };
      })
      (turn (record { buffer = b; words = words; aged = begun }) (record { index = index; value = get_or words index 0 }))
  unfolding turn pool_after
  turn-valid h =
      λ j. record {
        buffer = buffer-is j;
        words = words-is j;
        aged = record {
          given = (sym (ap (λ (x : Bool). begun.given + bit (not x)) (valid-is ∙ h) ∙ add-zero begun.given)) j;
          emptied = begun.emptied + number_is j;
          pool = (sym (ap (λ (x : Bool). cond x begun.pool (give_reply begun.pool (leaf_pfn (get_or words index 0))).pool)
              (valid-is ∙ h))) j;
        };
      }

  pub turn-old : valid ≡ false → (pfn : ℕ) (reply : PoolReply) → pfn ≡ leaf_pfn word → GiveGives begun.pool pfn reply
      → ◌≡◌ {A = State} (record {
        buffer = after;
        words = now;
        aged =
            record { given = begun.given + 1; emptied = begun.emptied + n; pool = reply.pool };
      })
      (turn (record { buffer = b; words = words; aged = begun }) (record { index = index; value = get_or words index 0 }))
  unfolding turn pool_after
  turn-old h pfn reply pq g =
      λ j. record {
        buffer = buffer-is j;
        words = words-is j;
        aged = record {
          given = (sym (ap (λ (x : Bool). begun.given + bit (not x)) (valid-is ∙ h))) j;
          emptied = begun.emptied + number_is j;
          pool = pool-is j;
        };
      }
    where
      pool-is : reply.pool ≡ cond (leaf_valid (get_or words index 0)) begun.pool
          (give_reply begun.pool (leaf_pfn (get_or words index 0))).pool
      pool-is =
          ap (λ (x : PoolReply). x.pool) g.reply-is
          ∙ ap (λ (k : ℕ). (give_reply begun.pool k).pool) (pq ∙ ap leaf_pfn wq)
          ∙ sym (ap (λ (x : Bool). cond x begun.pool (give_reply begun.pool (leaf_pfn (get_or words index 0))).pool) (valid-is ∙ h))

-- ---- leaves one after another

pub turns-append : (s : State) (ps qs : List Put) → turns s (ps ++ qs) ≡ turns (turns s ps) qs
unfolding turns
turns-append s [] qs = refl
turns-append s (p ∷ ps) qs = turns-append (turn s p) ps qs

pub turns-words : (s : State) (ps : List Put) → (turns s ps).words ≡ written (aged_puts ps) s.words
unfolding turns written turn aged_puts
turns-words s [] = refl
turns-words s (p ∷ ps) = turns-words (turn s p) ps

pub turns_fit : (s : State) (ps : List Put) → buffer_fits (turns s ps).buffer ≡ buffer_fits s.buffer
unfolding turns turn
turns_fit s [] = refl
turns_fit s (p ∷ ps) = turns_fit (turn s p) ps ∙ swept-fits (set s.words p.index (aged p.value)) s.buffer

-- each gives at most one frame, and empties at most 64 slots
pub turns-given : (s : State) (ps : List Put) → (turns s ps).aged.given ≤ s.aged.given + length ps
unfolding turns turn
turns-given s [] = omega arith
turns-given s (p ∷ ps) = omega (arith, turns-given (turn s p) ps, bit_le (not (leaf_valid p.value)))

pub turns-emptied : (s : State) (ps : List Put) → (turns s ps).aged.emptied ≤ s.aged.emptied + 64 * length ps
unfolding turns turn
turns-emptied s [] = omega arith
turns-emptied s (p ∷ ps) = omega (arith, turns-emptied (turn s p) ps, emptied-le (set s.words p.index (aged p.value)) s.buffer)

-- ---- the leaves of a table

module _ (first size t : ℕ) (s : State) where
  abbrev visit : ℕ → Bool
  visit i = is_visited first size (get_or s.words i 0)

  abbrev value : ℕ → ℕ
  value i = get_or s.words i 0

  abbrev seen : ℕ → List Put
  seen k = puts_from visit value (1024 * t) k

  -- after the first k words
  pub record Going (now : State) (k : ℕ) : Type 0 where
    pub some : k ≤ 1024
    pub now-is : now ≡ turns s (seen k)

  pub going-none : Going s 0
  unfolding puts_from turns
  going-none = record { some = omega arith; now-is = refl }

  module _ (now : State) (k : ℕ) (g : Going now k) where
    pub going-length : length now.words ≡ length s.words
    going-length =
        ap (λ (x : State). length x.words) g.now-is ∙ ap length (turns-words s (seen k))
        ∙ written-length (aged_puts (seen k)) s.words

    pub going-fits : buffer_fits now.buffer ≡ buffer_fits s.buffer
    going-fits = ap (λ (x : State). buffer_fits x.buffer) g.now-is ∙ turns_fit s (seen k)

    -- the next word is as it came in
    pub going-word : get_or now.words (1024 * t + k) 0 ≡ get_or s.words (1024 * t + k) 0
    going-word =
        ap (λ (x : State). get_or x.words (1024 * t + k) 0) g.now-is
        ∙ ap (λ (ws : List ℕ). get_or ws (1024 * t + k) 0) (turns-words s (seen k))
        ∙ ap (λ (ps : List Put). get_or (written ps s.words) (1024 * t + k) 0) (aged-scan visit value (1024 * t) k)
        ∙ written-other (puts_from visit (λ i. aged (value i)) (1024 * t) k) s.words (1024 * t + k)
        (scan-elsewhere visit (λ i. aged (value i)) (1024 * t) k (1024 * t + k) (inr (omega arith)))

    seen-le : length (seen k) ≤ k
    seen-le = omega (arith, scan-length visit value (1024 * t) k, count-le (λ i. visit (1024 * t + i)) k)

    pub going-given : now.aged.given ≤ s.aged.given + 1024
    going-given = omega (arith, ap (λ (x : State). x.aged.given) g.now-is, turns-given s (seen k), seen-le, g.some)

    pub going-emptied : now.aged.emptied ≤ s.aged.emptied + 65536
    going-emptied = omega (arith, ap (λ (x : State). x.aged.emptied) g.now-is, turns-emptied s (seen k), seen-le, g.some)

    -- a turn of the loop, at a word that is visited and at one that is not
    pub going-visit : k < 1024 → (word : ℕ) (b : Bool) → word ≡ get_or now.words (1024 * t + k) 0 → b ≡ is_visited first size word → b
        ≡ true
        → (next : State) → next ≡ turn now (record { index = 1024 * t + k; value = get_or now.words (1024 * t + k) 0 })
        → Going next (k + 1)
    unfolding puts_from turns
    going-visit l word b wq bq h next q = record {
      some = omega arith;
      now-is =
          q
          ∙ ap₂ turn g.now-is (λ j. record { index = 1024 * t + k; value = going-word j })
          ∙ sym (turns-append s (seen k) (put_at (1024 * t + k) (value (1024 * t + k)) ∷ []))
          ∙ ap (λ (x : Bool). turns s (seen k ++ cond x (put_at (1024 * t + k) (value (1024 * t + k)) ∷ []) [])) (sym here)
          ∙ ap (λ (n : ℕ). turns s (seen n)) (sym (add-one k));
    }
      where
        here : visit (1024 * t + k) ≡ true
        here = ap (is_visited first size) (sym going-word ∙ sym wq) ∙ sym bq ∙ h

    pub going-skip : k < 1024 → (word : ℕ) (b : Bool) → word ≡ get_or now.words (1024 * t + k) 0 → b ≡ is_visited first size word → b
        ≡ false
        → Going now (k + 1)
    unfolding puts_from turns
    going-skip l word b wq bq h = record {
      some = omega arith;
      now-is =
          g.now-is
          ∙ ap (turns s) (sym (append-nil (seen k)))
          ∙ ap (λ (x : Bool). turns s (seen k ++ cond x (put_at (1024 * t + k) (value (1024 * t + k)) ∷ []) [])) (sym here)
          ∙ ap (λ (n : ℕ). turns s (seen n)) (sym (add-one k));
    }
      where
        here : visit (1024 * t + k) ≡ false
        here = ap (is_visited first size) (sym going-word ∙ sym wq) ∙ sym bq ∙ h

    pub going-all : 1024 ≤ k → now ≡ turns s (table_leaves s.words first size t)
    unfolding table_leaves
    going-all l = g.now-is ∙ ap (λ (n : ℕ). turns s (seen n)) (let e : k ≡ 1024 = omega (arith, g.some) in e)
