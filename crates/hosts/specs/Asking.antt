-- Such runs of a host are not empty: any list of requests, each put to the bytes of its moment, with any refused calls between them.
use Rattle.std.specs.Prelude.{ℕ, ◌^◌, ◌<◌, ◌≡◌, false, List, [], ◌∷◌}
use Rattle.registers.specs.declared.Access.{Access}
use Rattle.wire.specs.Wire.{AreBytes}
use Rattle.mmu_c.specs.RawAccess.{raw_refusal, raw_number, raw_registers}
use Rattle.mmu_c.specs.ServedAccess.{served_number, served_registers, served_bytes}
use Rattle.mmu_c.specs.TableStore.{store_number, store_bytes, store_tables}
use Rattle.mmu_c.specs.GuardedSetting.{setting_number, setting_registers}
use Rattle.sequence.specs.Requests.{Request}
use Rattle.sequence.specs.Requests.Request.{ToAccess, ToStore, ToSet}
use Rattle.hosts.specs.Bytes.{Bytes}
use Rattle.hosts.specs.HostCalls.{HostCall, host_accepts, Typed}
use Rattle.hosts.specs.HostCalls.HostCall.{HostAccess, HostStore, HostSetting}
use Rattle.hosts.specs.Hosts.{HostEvent, RawEvent, HostStep, bytes_after, HostThroughout}
use Rattle.hosts.specs.Hosts.HostStep.{Called, RawRefused}

pub data HostAsk : Type 0 where
  Now : (q : Request) → HostAsk
  Stray : (c : HostCall) → HostAsk
  StrayRaw : (registers buffer : List ℕ) (a : Access) → HostAsk

-- a request that is handed the host's bytes
unfoldable pub call_with : Bytes → Request → HostCall
call_with now (ToAccess a) = HostAccess now a
call_with now (ToStore p) = HostStore now p
call_with now (ToSet number value) = HostSetting now.registers number value

-- the event of a call: the answer and the bytes that its contract promises
unfoldable pub event_with : Bytes → HostCall → HostEvent
event_with now (HostAccess given a) = record {
  call = HostAccess given a;
  answer = served_number given.registers given.buffer given.tables a;
  after = record {
    registers = served_registers given.registers given.buffer given.tables a;
    buffer = served_bytes given.registers given.buffer given.tables a;
    tables = given.tables;
  };
}
event_with now (HostStore given p) = record {
  call = HostStore given p;
  answer = store_number given.registers given.buffer given.tables p;
  after = record {
    registers = given.registers;
    buffer = store_bytes given.registers given.buffer given.tables p;
    tables = store_tables given.registers given.buffer given.tables p;
  };
}
event_with now (HostSetting given number value) = record {
  call = HostSetting given number value;
  answer = setting_number given number value;
  after = record { registers = setting_registers given number value; buffer = now.buffer; tables = now.tables };
}

unfoldable pub raw_event_with : (registers buffer : List ℕ) → Access → RawEvent
raw_event_with registers buffer a = record {
  registers = registers;
  buffer = buffer;
  access = a;
  answer = raw_number registers buffer a;
  after = raw_registers registers buffer a;
}

unfoldable pub run_of : Bytes → List HostAsk → List HostStep
run_of now [] = []
run_of now (Now q ∷ qs) =
    let e = event_with now (call_with now q) in
    Called e ∷ run_of (bytes_after now e) qs
run_of now (Stray c ∷ qs) =
    let e = event_with now c in
    Called e ∷ run_of (bytes_after now e) qs
run_of now (StrayRaw registers buffer a ∷ qs) = RawRefused (raw_event_with registers buffer a) ∷ run_of now qs

-- addresses and stored values have 32 bits; a stray call has C's types, and is refused, and so is a raw access
unfoldable pub Askable : List HostAsk → Type 0
Askable [] = Unit {0}
Askable (Now (ToAccess a) ∷ qs) = (a.address < 2 ^ 32) × Askable qs
Askable (Now (ToStore p) ∷ qs) = (p.value < 2 ^ 32) × Askable qs
Askable (Now (ToSet number value) ∷ qs) = Askable qs
Askable (Stray c ∷ qs) = Typed c × (host_accepts c ≡ false) × Askable qs
Askable (StrayRaw registers buffer a ∷ qs) = (raw_refusal registers buffer a ≡ 0 → ⊥) × Askable qs

abbrev pub EveryListRuns : Type 0
EveryListRuns = (now : Bytes) → AreBytes now.buffer → (qs : List HostAsk) → Askable qs → HostThroughout now (run_of now qs)
