-- What a host reads off the answer of each call, whatever its outcome.
use Rattle.std.specs.Prelude.{ℕ, ◌^◌, ◌<◌, ◌≡◌, true, false, List, Option, Some, None}
use Rattle.runs.specs.Bits.{bits, flag}
use Rattle.registers.specs.declared.Access.{Access}
use Rattle.registers.specs.declared.Outcome.{Outcome}
use Rattle.registers.specs.declared.Outcome.TheVariants.{At, Fault, Done, Refused}
use Rattle.access.specs.declared.Translation.{Translation}
use Rattle.mmu_c.specs.RawAccess.{raw_refusal, translation, RawAccessGives}
use Rattle.mmu_c.specs.Start.{start_refusal, StartGives}
use Rattle.mmu_c.specs.FaultAnswers.{FaultRead}
use Rattle.hosts.specs.Bytes.{Bytes}
use Rattle.hosts.specs.HostCalls.{HostCall, host_refusal, right_lengths, Typed, HostPromise, event_in}

-- an address, the loads, bit 52, and nothing else
pub record AddressRead (loads answer address : ℕ) : Type 0 where
  pub address_is : bits 31 0 answer ≡ address
  pub loads-are : bits 51 48 answer ≡ loads
  pub has_address : flag 52 answer ≡ true
  pub no-fault : (bits 47 32 answer ≡ 0) × (flag 54 answer ≡ false)
  pub no-interrupt : flag 53 answer ≡ false
  pub not-refused : bits 63 55 answer ≡ 0

-- the slots emptied, and nothing else
pub record EmptiedRead (answer emptied : ℕ) : Type 0 where
  pub emptied-are : bits 31 0 answer ≡ emptied
  pub no_more : bits 63 32 answer ≡ 0

-- a refusal's number, and nothing else
pub record RefusalRead (answer number : ℕ) : Type 0 where
  pub number_is : bits 63 56 answer ≡ number
  pub no_more : bits 55 0 answer ≡ 0

-- by what the call replied
unfoldable pub OutcomeRead : Outcome → (loads answer : ℕ) → Type 0
OutcomeRead (At address) loads answer = AddressRead loads answer address
OutcomeRead (Fault value) loads answer = FaultRead loads answer value
OutcomeRead (Done emptied) loads answer = EmptiedRead answer emptied
OutcomeRead (Refused number) loads answer = RefusalRead answer number

-- the answer of a call with right lengths tells its event's outcome and loads
abbrev pub AnswersRead : Type 0
AnswersRead = (now : Bytes) (c : HostCall) (answer : ℕ) (after : Bytes) → Typed c → right_lengths c ≡ true
    → HostPromise now c answer after → OutcomeRead (event_in now c).reply.outcome (event_in now c).reply.loads answer

-- bits 56 to 63 of every answer, whatever the lengths, are the refusal's number, 0 where the call was accepted
abbrev pub RefusalsRead : Type 0
RefusalsRead = (now : Bytes) (c : HostCall) (answer : ℕ) (after : Bytes) → Typed c → HostPromise now c answer after
    → bits 63 56 answer ≡ host_refusal c

-- a start tells nothing but its refusal
abbrev pub StartsRead : Type 0
StartsRead = (registers buffer : List ℕ) (answer : ℕ) (registers-after buffer-after : List ℕ)
    → StartGives registers buffer answer registers-after buffer-after → RefusalRead answer (start_refusal registers buffer)

-- where there is an address, and which
unfoldable pub LocatedRead : Option ℕ → (answer : ℕ) → Type 0
LocatedRead (Some address) answer = (flag 52 answer ≡ true) × (bits 31 0 answer ≡ address)
LocatedRead None answer = (flag 52 answer ≡ false) × (bits 31 0 answer ≡ 0)

-- a raw access's four answers, and nothing else
pub record RawRead (t : Translation) (answer : ℕ) : Type 0 where
  pub located : LocatedRead t.physical answer
  pub interrupts : flag 53 answer ≡ t.interrupt
  pub exception-is : flag 54 answer ≡ t.exception
  pub value-is : bits 47 32 answer ≡ t.value
  pub no-loads : bits 51 48 answer ≡ 0
  pub not-refused : bits 63 55 answer ≡ 0

pub record RawAccessRead (registers buffer : List ℕ) (a : Access) (answer : ℕ) : Type 0 where
  pub accepted : raw_refusal registers buffer a ≡ 0 → RawRead (translation registers buffer a) answer
  pub refused : (raw_refusal registers buffer a ≡ 0 → ⊥) → RefusalRead answer (raw_refusal registers buffer a)

abbrev pub RawAccessesRead : Type 0
RawAccessesRead = (registers buffer : List ℕ) (a : Access) (answer : ℕ) (registers-after : List ℕ) → a.address < 2 ^ 32
    → RawAccessGives registers buffer a answer registers-after → RawAccessRead registers buffer a answer
