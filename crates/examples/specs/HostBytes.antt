-- What a C host hands over and reads, byte by byte and bit by bit: registers, a slot, table words, answers, calls from a start on, refusals
-- of lengths, and a run.
use Rattle.std.specs.Prelude.{ℕ, zero, suc, true, false, List, [], ◌∷◌, ◌++◌, take, drop, replicate, Some, None}
use Rattle.registers.specs.declared.Outcome.TheVariants.{At, Fault, Done, Refused}
use Rattle.registers.specs.declared.Registers.{Registers}
use Rattle.slots.specs.Buffer.{slot_at}
use Rattle.slots.specs.Buffer.Buffer.{Wide}
use Rattle.entry.specs.Entry.{unpack}
use Rattle.table_bytes.specs.TableBytes.{words_of}
use Rattle.mmu_c.specs.Runs.{registers_of, register_bytes, buffer_of, buffer_bytes, length_taken}
use Rattle.mmu_c.specs.Answers.{raw_answer, outcome_answer}
use Rattle.mmu_c.specs.RawAccess.{raw_number, raw_registers}
use Rattle.mmu_c.specs.ServedAccess.{served_number, served_registers, served_bytes}
use Rattle.mmu_c.specs.TableStore.{store_number, store_tables}
use Rattle.mmu_c.specs.Start.{start_number, start_registers, start_bytes}
use Rattle.mmu_c.specs.GuardedSetting.{setting_number, setting_registers}
use Rattle.sequence.specs.Requests.Request.{ToAccess, ToStore, ToSet}
use Rattle.hosts.specs.Bytes.{Bytes}
use Rattle.hosts.specs.HostCalls.HostCall.{HostAccess, HostSetting}
use Rattle.hosts.specs.Hosts.{HostStep}
use Rattle.hosts.specs.Hosts.HostStep.{Called, RawRefused}
use Rattle.hosts.specs.Asking.{HostAsk, run_of}
use Rattle.hosts.specs.Asking.HostAsk.{Now, Stray, StrayRaw}
use Rattle.examples.specs.Claims.{Example, ◌gives◌}
use Rattle.examples.specs.Scene.{user, supervisor}

-- a word's four bytes, and a slot's eight
unfoldable pub word : (a b c d : ℕ) → List ℕ
word a b c d = a ∷ b ∷ c ∷ d ∷ []

unfoldable pub slot : (a b c d e f g h : ℕ) → List ℕ
slot a b c d e f g h = a ∷ b ∷ c ∷ d ∷ e ∷ f ∷ g ∷ h ∷ []

-- so many words of zero, and a piece so many times
unfoldable pub zeros : (n : ℕ) → List ℕ
zeros zero = []
zeros (suc n) = word 0x00 0x00 0x00 0x00 ++ zeros n

unfoldable pub times : (n : ℕ) → List ℕ → List ℕ
times zero piece = []
times (suc n) piece = piece ++ times n piece

-- ---- the layout

-- registers with eleven different fields
unfoldable pub eleven_bytes : List ℕ
eleven_bytes =
    word 0x00 0x00 0xA5 0xC3
    ++ word 0x00 0x00 0x00 0x05
    ++ word 0x00 0x00 0x00 0x01
    ++ word 0x89 0xAB 0xCD 0xEF
    ++ word 0x01 0x23 0x45 0x67
    ++ word 0x00 0x00 0x00 0x2A
    ++ word 0x00 0x00 0x00 0x15
    ++ word 0x01 0xAB 0xCD 0xEE
    ++ word 0x00 0x65 0x43 0x21
    ++ word 0x00 0x00 0x00 0x00
    ++ word 0x00 0x00 0x00 0x1B

unfoldable pub eleven : Registers
eleven = record {
  kseg = 0xA5C3;
  ctrl = 5;
  enable = 1;
  kbase_lo = 0x89ABCDEF;
  kbase_hi = 0x01234567;
  context = 0x2A;
  select = 0x15;
  tlb_hi = 0x1ABCDEE;
  tlb_lo = 0x654321;
  test = 0;
  cause = 0x1B;
}

-- slot 35 of a buffer, with bits 44 and up set
unfoldable pub slot_bytes : List ℕ
slot_bytes = times 35 (zeros 2) ++ slot 0xFF 0xFF 0xFA 0xBC 0xDE 0xF0 0x12 0x34 ++ times 28 (zeros 2)

-- 4,096 bytes of tables: the root of 5 names directory 1, in which nothing is present
unfoldable pub root_bytes : List ℕ
root_bytes = zeros 5 ++ word 0x80 0x00 0x00 0x01 ++ zeros 1018

unfoldable pub layout : List Example
layout =
    (registers_of eleven_bytes gives eleven)
    ∷ (register_bytes eleven gives eleven_bytes)
    ∷ (slot_at (buffer_of slot_bytes) 35 gives 0xABCDEF01234)
    ∷ (unpack 0xABCDEF01234 gives record {
      vpn15 = 0x55E6;
      page_id = 0x3D;
      global = true;
      valid = true;
      kernel = true;
      we = false;
      pfn = 0x1234;
    })
    ∷ (slot_at (buffer_of slot_bytes) 34 gives 0)
    ∷ (buffer_bytes (Wide (0xFEDCBA9876543210 ∷ 0x0123456789ABCDEF ∷ []))
    gives slot 0xFE 0xDC 0xBA 0x98 0x76 0x54 0x32 0x10 ++ slot 0x01 0x23 0x45 0x67 0x89 0xAB 0xCD 0xEF)
    ∷ (take 7 (words_of root_bytes) gives 0 ∷ 0 ∷ 0 ∷ 0 ∷ 0 ∷ 0x80000001 ∷ 0 ∷ [])
    ∷ []

-- ---- an answer of each kind

unfoldable pub answers : List Example
answers =
    (outcome_answer (At 0x00246ABC) 0 gives 0x0010000000246ABC)
    ∷ (outcome_answer (At 0xFFFFFFFF) 1 gives 0x00110000FFFFFFFF)
    ∷ (outcome_answer (Fault 0x4) 1 gives 0x0041000400000000)
    ∷ (outcome_answer (Fault 0x8) 1 gives 0x0041000800000000)
    ∷ (outcome_answer (Fault 0x310) 0 gives 0x0040031000000000)
    ∷ (outcome_answer (Fault 0x1220) 0 gives 0x0040122000000000)
    ∷ (outcome_answer (Fault 0x0) 0 gives 0x0040000000000000)
    ∷ (outcome_answer (Done 64) 0 gives 0x0000000000000040)
    ∷ (outcome_answer (Refused 5) 0 gives 0x0500000000000000)
    ∷ (raw_answer (Some 0x00246ABC) false false 0 gives 0x0010000000246ABC)
    ∷ (raw_answer (Some 0x00246ABC) false true 1 gives 0x0050000100246ABC)
    ∷ (raw_answer None true true 8 gives 0x0060000800000000)
    ∷ []

-- ---- calls from a start on

-- bytes that held anything
unfoldable pub dirty_registers : List ℕ
dirty_registers = replicate 44 0xEE

unfoldable pub dirty_buffer : List ℕ
dirty_buffer = replicate 512 0xEE

-- every slot empty: its set's number from bit 29 on, and page_id 63 from bit 23 on
unfoldable pub empty_bytes : List ℕ
empty_bytes =
    times 16 (slot 0x00 0x00 0x00 0x00 0x1F 0x80 0x00 0x00)
    ++ times 16 (slot 0x00 0x00 0x00 0x00 0x3F 0x80 0x00 0x00)
    ++ times 16 (slot 0x00 0x00 0x00 0x00 0x5F 0x80 0x00 0x00)
    ++ times 16 (slot 0x00 0x00 0x00 0x00 0x7F 0x80 0x00 0x00)

-- KSEG bit 10, CTRL 7, ENABLE, the base 3 of segment 10, CONTEXT 5
unfoldable pub set_bytes : List ℕ
set_bytes =
    word 0x00 0x00 0x04 0x00
    ++ word 0x00 0x00 0x00 0x07
    ++ word 0x00 0x00 0x00 0x01
    ++ word 0x00 0x00 0x00 0x00
    ++ word 0x00 0x00 0x03 0x00
    ++ word 0x00 0x00 0x00 0x05
    ++ zeros 5

-- the registers after the settings, one after the other
unfoldable pub settings_made : List ℕ → List ℕ
settings_made r =
    setting_registers (setting_registers (setting_registers (setting_registers (setting_registers r 0 0x400) 1 7) 2 1) 4 0x300) 5 5

-- after a read of page 1 that missed, with draw 2: SELECT 33, page 1 of program 5, value 8 and no write
unfoldable pub missed_bytes : List ℕ
missed_bytes =
    take 24 set_bytes
    ++ word 0x00 0x00 0x00 0x21
    ++ word 0x00 0x00 0x00 0x45
    ++ zeros 2
    ++ word 0x00 0x00 0x00 0x10

-- 8,192 bytes: the directory's first word names table 1, whose second word is a leaf
unfoldable pub leaf_bytes : List ℕ
leaf_bytes =
    zeros 5
    ++ word 0x80 0x00 0x00 0x01
    ++ zeros 506
    ++ word 0x80 0x00 0x00 0x01
    ++ zeros 512
    ++ word 0xD0 0x00 0x01 0x23
    ++ zeros 1022

unfoldable pub host_calls : List Example
host_calls =
    (start_number dirty_registers dirty_buffer gives 0)
    ∷ (start_registers dirty_registers dirty_buffer gives zeros 11)
    ∷ (start_bytes dirty_registers dirty_buffer gives empty_bytes)
    ∷ (start_registers dirty_registers (0xEE ∷ dirty_buffer) gives dirty_registers)
    ∷ (setting_number (zeros 11) 5 5 gives 0)
    ∷ (settings_made (zeros 11) gives set_bytes)
    ∷ (setting_number set_bytes 5 63 gives 0x0500000000000000)
    ∷ (setting_registers set_bytes 5 63 gives set_bytes)
    ∷ (setting_number set_bytes 6 0 gives 0x0700000000000000)
    ∷ (setting_number dirty_registers 5 5 gives 0x0100000000000000)
    ∷ (served_number set_bytes empty_bytes root_bytes (user false 0x2ABC 2) gives 0x0040021000000000)
    ∷ (served_registers set_bytes empty_bytes root_bytes (user false 0x2ABC 2) gives missed_bytes)
    ∷ (served_number set_bytes empty_bytes root_bytes (supervisor true 0xA0002ABC 0) gives 0x0010000030002ABC)
    ∷ (served_number set_bytes empty_bytes root_bytes (user false 0x2ABC 4) gives 0x0400000000000000)
    ∷ (raw_number set_bytes empty_bytes (user false 0x2ABC 2) gives 0x0060000800000000)
    ∷ (raw_registers set_bytes empty_bytes (user false 0x2ABC 2) gives missed_bytes)
    ∷ (served_number set_bytes empty_bytes leaf_bytes (user false 0x2ABC 2) gives 0x0011000000246ABC)
    ∷ (served_bytes set_bytes empty_bytes leaf_bytes (user false 0x2ABC 2)
    gives take 264 empty_bytes ++ slot 0x00 0x00 0x00 0x00 0x02 0xA8 0x01 0x23 ++ drop 272 empty_bytes)
    ∷ (store_number set_bytes empty_bytes root_bytes (record { index = 1024; value = 0 }) gives 0x0600000000000000)
    ∷ (take 8 (store_tables set_bytes empty_bytes root_bytes (record { index = 1; value = 0x89ABCDEF }))
    gives word 0x00 0x00 0x00 0x00 ++ word 0x89 0xAB 0xCD 0xEF)
    ∷ []

-- ---- lengths, and the order of the refusals: all later grounds are there too

-- one byte more than right
unfoldable pub longer : List ℕ → List ℕ
longer bytes = 0xEE ∷ bytes

unfoldable pub lengths : List Example
lengths =
    (start_number (longer dirty_registers) (longer dirty_buffer) gives 0x0100000000000000)
    ∷ (start_number dirty_registers (longer dirty_buffer) gives 0x0200000000000000)
    ∷ (setting_number (longer set_bytes) 5 63 gives 0x0100000000000000)
    ∷ (raw_number (longer set_bytes) (longer empty_bytes) (user false 0x2ABC 4) gives 0x0100000000000000)
    ∷ (raw_number set_bytes (longer empty_bytes) (user false 0x2ABC 4) gives 0x0200000000000000)
    ∷ (raw_number set_bytes empty_bytes (user false 0x2ABC 4) gives 0x0400000000000000)
    ∷ (served_number (longer set_bytes) (longer empty_bytes) (longer root_bytes) (user false 0x2ABC 4) gives 0x0100000000000000)
    ∷ (served_number set_bytes (longer empty_bytes) (longer root_bytes) (user false 0x2ABC 4) gives 0x0200000000000000)
    ∷ (served_number set_bytes empty_bytes (longer root_bytes) (user false 0x2ABC 4) gives 0x0300000000000000)
    ∷ (store_number (longer set_bytes) (longer empty_bytes) (longer root_bytes) (record { index = 1024; value = 0 }) gives 0x0100000000000000)
    ∷ (store_number set_bytes (longer empty_bytes) (longer root_bytes) (record { index = 1024; value = 0 }) gives 0x0200000000000000)
    ∷ (store_number set_bytes empty_bytes (longer root_bytes) (record { index = 1024; value = 0 }) gives 0x0300000000000000)
    -- the tables' least and greatest length, and the next ones on either side
    ∷ (length_taken 0 gives false)
    ∷ (length_taken 4095 gives false)
    ∷ (length_taken 4096 gives true)
    ∷ (length_taken 4100 gives false)
    ∷ (length_taken 65536 gives true)
    ∷ (length_taken 69632 gives false)
    ∷ []

-- ---- a run of a host

unfoldable pub started : Bytes
started = record { registers = zeros 11; buffer = empty_bytes; tables = leaf_bytes }

-- a page is loaded, aged and removed while its entry stands in the buffer; between, calls that are refused
unfoldable pub asks : List HostAsk
asks =
    Now (ToSet 5 5)
    ∷ Now (ToSet 1 7)
    ∷ Now (ToSet 2 1)
    ∷ Now (ToAccess (user false 0x2ABC 2))
    ∷ Stray (HostSetting (longer (zeros 11)) 5 5)
    ∷ StrayRaw (longer (zeros 11)) empty_bytes (user false 0x2ABC 0)
    ∷ Stray (HostAccess started (user false 0x2ABC 4))
    ∷ Now (ToStore (record { index = 1025; value = 0x90000123 }))
    ∷ Now (ToAccess (user false 0x2ABC 1))
    ∷ Now (ToStore (record { index = 1025; value = 0 }))
    ∷ Now (ToAccess (user false 0x2ABC 1))
    ∷ []

unfoldable pub answers_of : List HostStep → List ℕ
answers_of [] = []
answers_of (Called e ∷ es) = e.answer ∷ answers_of es
answers_of (RawRefused r ∷ es) = r.answer ∷ answers_of es

unfoldable pub runs : List Example
runs =
    (answers_of (run_of started asks) gives
    0x0000000000000000
    ∷ 0x0000000000000000
    ∷ 0x0000000000000000
    ∷ 0x0011000000246ABC
    ∷ 0x0100000000000000
    ∷ 0x0100000000000000
    ∷ 0x0400000000000000
    ∷ 0x0000000000000001
    ∷ 0x0041000400000000
    ∷ 0x0000000000000001
    ∷ 0x0040031000000000
    ∷ [])
    ∷ []

unfoldable pub host_bytes : List Example
host_bytes = layout ++ answers ++ host_calls ++ lengths ++ runs
