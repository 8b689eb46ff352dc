-- A vgetrandom call, for any host: which steps of the host lead to which state, ending and entries. The host is the
-- code around the call: it publishes generations and answers system calls. Each point has its own relation for the rest
-- of the attempt, so a definition or a proof can begin at any point.
use Rattle.std.specs.Prelude.{ℕ, ◌≡◌, Bool, true, false, ◌==◌, MatchBool, Option, Some, None, List, [], ◌∷◌, ◌++◌}
use Rattle.std.specs.Prelude.{if◌then◌else◌}
use Rattle.key_names.specs.declared.entries.VEntry.{VEntry}
use Rattle.key_names.specs.declared.entries.VEntry.TheVariants.{Rekey, Wipe}
use Rattle.key_names.specs.declared.errno.Errno.{Errno}
use Rattle.key_names.specs.declared.point.Point.{Point}
use Rattle.key_names.specs.declared.point.Point.TheVariants.{Start, Written, Serve, End}
use Rattle.key_names.specs.Kernel.Flags.{is_bad}
use Rattle.key_names.specs.Kernel.VgetrandomState.{VgetrandomState, state_left}
use Rattle.key_names.specs.Kernel.BatchCopy.{copy_bytes, state_after_copy, block_after_copy, copy_entries}

-- a place in the list of a CPU
pub record CpuPlace : Type 0 where
  pub cpu : ℕ
  pub place : ℕ

-- the answer of a system call: the bytes that the call read, or an error. If the host has CPU visits, the bytes come
-- with the visit that gave them
pub data SystemAnswer : Type 0 where
  read : List ℕ → Option CpuPlace → SystemAnswer
  failed : Errno → SystemAnswer

-- a step of a call's host: it publishes a generation (0 if the core is not ready), or answers a system call for some
-- bytes with some flags. At a point the host wipes the state or leaves it alone
pub data HostStep : Type 0 where
  publishes : ℕ → HostStep
  system_call : ℕ → ℕ → SystemAnswer → HostStep
  at_point : Point → Bool → HostStep

-- how an attempt ended. At its end, the published generation was the state's generation (`holds`) or another one
-- (`outdated`). Or the system call for a new key failed (`not_keyed`)
pub data AttemptEnd : Type 0 where
  holds outdated not_keyed : AttemptEnd

-- the result of an attempt: the bytes that it copied, the state, the next block, the entries of the
-- state's list, and how it ended
pub record Attempt : Type 0 where
  pub out : List ℕ
  pub state : VgetrandomState
  pub next_block : ℕ
  pub entries : List VEntry
  pub end : AttemptEnd

abbrev pub prefix_attempt : List VEntry → Attempt → Attempt
prefix_attempt entries attempt = record attempt { entries = entries ++ attempt.entries }

abbrev pub wipe_entry : Bool → List VEntry
wipe_entry wiped = if wiped then Wipe ∷ [] else []

-- the entry for a new key names the CPU visit that gave the key's bytes
abbrev pub rekey_entry : Option CpuPlace → List VEntry
rekey_entry None = []
rekey_entry (Some at) = Rekey at.cpu at.place ∷ []

-- the first step is at this point, and GoesOn holds for the later steps and the state after the point
pub record AtPoint (point : Point) (GoesOn : VgetrandomState → List HostStep → Attempt → Type 0) (s : VgetrandomState)
    (steps : List HostStep) (attempt : Attempt) : Type 0 where
  pub wiped : Bool
  pub rest : List HostStep
  pub attempt_after : Attempt
  pub steps_are : steps ≡ at_point point wiped ∷ rest
  pub goes_on : GoesOn (state_left wiped s) rest attempt_after
  pub attempt_is : attempt ≡ prefix_attempt (wipe_entry wiped) attempt_after

-- from the point End on: the bytes `out` have been copied
pub record FromEnd (out : List ℕ) (next_block : ℕ) (s : VgetrandomState) (steps : List HostStep)
    (attempt : Attempt) : Type 0 where
  pub published : ℕ
  pub steps_are : steps ≡ publishes published ∷ []
  pub attempt_is : attempt ≡ record {
    out = out;
    state = s;
    next_block = next_block;
    entries = [];
    end = if s.generation == published then holds else outdated;
  }

-- from the point Serve on: n bytes are copied; c is the next block
pub record FromServe (n c : ℕ) (s : VgetrandomState) (steps : List HostStep) (attempt : Attempt) : Type 0 where
  pub attempt_after : Attempt
  pub goes_on : AtPoint End (FromEnd (copy_bytes s c n) (block_after_copy s c n))
      (state_after_copy s c n) steps attempt_after
  pub attempt_is : attempt ≡ prefix_attempt (copy_entries s c n) attempt_after

-- the system call for a new key succeeded with `key`, and the attempt goes on at the point Serve
pub record Keyed (n c : ℕ) (key : List ℕ) (visit : Option CpuPlace) (s : VgetrandomState) (steps : List HostStep)
    (attempt : Attempt) : Type 0 where
  pub attempt_after : Attempt
  pub goes_on : AtPoint Serve (FromServe n c) (record s { key = key; pos = 96 }) steps attempt_after
  pub attempt_is : attempt ≡ prefix_attempt (rekey_entry visit) attempt_after

-- the system call for a new key failed. The state's key may then be any list of bytes
pub record NotKeyed (c : ℕ) (s : VgetrandomState) (steps : List HostStep) (attempt : Attempt) : Type 0 where
  pub key : List ℕ
  pub steps_are : steps ≡ []
  pub attempt_is : attempt ≡ record {
    out = [];
    state = record s { key = key; generation = 0 };
    next_block = c;
    entries = [];
    end = not_keyed;
  }

abbrev pub AfterKeyRead : ℕ → ℕ → SystemAnswer → VgetrandomState → List HostStep → Attempt → Type 0
AfterKeyRead n c (read key visit) s steps attempt = Keyed n c key visit s steps attempt
AfterKeyRead n c (failed errno) s steps attempt = NotKeyed c s steps attempt

-- from the point Written on: a system call without flags reads 32 bytes for the key
pub record FromWritten (n c : ℕ) (s : VgetrandomState) (steps : List HostStep) (attempt : Attempt) : Type 0 where
  pub answer : SystemAnswer
  pub rest : List HostStep
  pub steps_are : steps ≡ system_call 32 0 answer ∷ rest
  pub goes_on : AfterKeyRead n c answer s rest attempt

-- from the point Start on: if the state's generation differs from the published generation, the state takes the
-- published generation, and then a new key
abbrev pub FromStart : ℕ → ℕ → ℕ → VgetrandomState → List HostStep → Attempt → Type 0
FromStart n c published s steps attempt =
    MatchBool (s.generation == published) (AtPoint Serve (FromServe n c) s steps attempt)
    (AtPoint Written (FromWritten n c) (record s { generation = published }) steps attempt)

-- an attempt to copy n bytes out of a state; c is the next block
pub record IsAttempt (n c : ℕ) (s : VgetrandomState) (steps : List HostStep) (attempt : Attempt) : Type 0 where
  pub published : ℕ
  pub rest : List HostStep
  pub steps_are : steps ≡ publishes published ∷ rest
  pub goes_on : AtPoint Start (FromStart n c published) s rest attempt

-- how a call ended, and with which bytes: the call asked for no bytes, an attempt held, or the system call gave the
-- answer
pub data Ending : Type 0 where
  no_bytes : Ending
  by_batch : List ℕ → Ending
  by_system : SystemAnswer → Ending

-- the result of a call: how it ended, the state, and the entries of the state's list
pub record Outcome : Type 0 where
  pub ending : Ending
  pub state : VgetrandomState
  pub entries : List VEntry

abbrev pub prefix_outcome : List VEntry → Outcome → Outcome
prefix_outcome entries outcome = record outcome { entries = entries ++ outcome.entries }

-- the host's only step left is a system call with the vgetrandom call's n and flags. The answer of this system call
-- ends the vgetrandom call
pub record BySystem (n flags : ℕ) (s : VgetrandomState) (steps : List HostStep) (outcome : Outcome) : Type 0 where
  pub answer : SystemAnswer
  pub steps_are : steps ≡ system_call n flags answer ∷ []
  pub outcome_is : outcome ≡ record { ending = by_system answer; state = s; entries = [] }

-- the state after a call: the call no longer uses the state
abbrev pub state_after_call : VgetrandomState → VgetrandomState
state_after_call s = record s { in_use = false }

-- an attempt held, and the call ends with the bytes `out` that the attempt copied
pub record ByBatch (out : List ℕ) (s : VgetrandomState) (steps : List HostStep) (outcome : Outcome) : Type 0 where
  pub steps_are : steps ≡ []
  pub outcome_is : outcome ≡ record { ending = by_batch out; state = state_after_call s; entries = [] }

-- the steps after an attempt. If the attempt held, no step follows. If it is outdated, `Outdated` holds for the steps.
-- If it got no new key, the call goes to the system
abbrev pub AfterAttempt : ℕ → ℕ → (ℕ → VgetrandomState → List HostStep → Outcome → Type 0) → AttemptEnd → Attempt →
    List HostStep → Outcome → Type 0
AfterAttempt n flags Outdated holds attempt steps outcome = ByBatch attempt.out attempt.state steps outcome
AfterAttempt n flags Outdated outdated attempt steps outcome = Outdated attempt.next_block attempt.state steps outcome
AfterAttempt n flags Outdated not_keyed attempt steps outcome =
    BySystem n flags (state_after_call attempt.state) steps outcome

-- an attempt for which `Tried` holds, and the steps after the attempt
pub record AttemptAndRest (n flags : ℕ) (Outdated : ℕ → VgetrandomState → List HostStep → Outcome → Type 0)
    (Tried : List HostStep → Attempt → Type 0) (steps : List HostStep) (outcome : Outcome) : Type 0 where
  pub tried : List HostStep
  pub rest : List HostStep
  pub attempt : Attempt
  pub outcome_after : Outcome
  pub steps_are : steps ≡ tried ++ rest
  pub tries : Tried tried attempt
  pub goes_on : AfterAttempt n flags Outdated attempt.end attempt rest outcome_after
  pub outcome_is : outcome ≡ prefix_outcome attempt.entries outcome_after

-- the steps after two outdated attempts: the call goes to the system
abbrev pub AfterBoth : ℕ → ℕ → ℕ → VgetrandomState → List HostStep → Outcome → Type 0
AfterBoth n flags c s steps outcome = BySystem n flags (state_after_call s) steps outcome

-- the second attempt begins at block c, the next block after the first attempt
abbrev pub SecondAttempt : ℕ → ℕ → ℕ → VgetrandomState → List HostStep → Outcome → Type 0
SecondAttempt n flags c s steps outcome = AttemptAndRest n flags (AfterBoth n flags) (IsAttempt n c s) steps outcome

abbrev pub FirstAttempt : ℕ → ℕ → VgetrandomState → List HostStep → Outcome → Type 0
FirstAttempt n flags s steps outcome = AttemptAndRest n flags (SecondAttempt n flags) (IsAttempt n 0 s) steps outcome

-- the call asks for no bytes, and ends without another step
pub record ByNothing (s : VgetrandomState) (steps : List HostStep) (outcome : Outcome) : Type 0 where
  pub steps_are : steps ≡ []
  pub outcome_is : outcome ≡ record { ending = no_bytes; state = s; entries = [] }

-- the rest of a call after the first published generation. If the core is not ready, the system call serves. If the
-- core is ready, a call for no bytes ends at once. For any other call, if the state is in use, the system call serves.
-- If the state is not in use, the call marks it as in use, and makes the first attempt
abbrev pub FromPublished : ℕ → ℕ → VgetrandomState → ℕ → List HostStep → Outcome → Type 0
FromPublished n flags s published steps outcome =
    MatchBool (published == 0) (BySystem n flags s steps outcome)
    (MatchBool (n == 0) (ByNothing s steps outcome)
    (MatchBool s.in_use (BySystem n flags s steps outcome)
    (FirstAttempt n flags (record s { in_use = true }) steps outcome)))

pub record FromLook (n flags : ℕ) (s : VgetrandomState) (steps : List HostStep) (outcome : Outcome) : Type 0 where
  pub published : ℕ
  pub rest : List HostStep
  pub steps_are : steps ≡ publishes published ∷ rest
  pub goes_on : FromPublished n flags s published rest outcome

-- a vgetrandom call for n bytes with these flags on the state s. If the flags are bad, the call goes to the system
abbrev pub IsCall : ℕ → ℕ → VgetrandomState → List HostStep → Outcome → Type 0
IsCall n flags s steps outcome = MatchBool (is_bad flags) (BySystem n flags s steps outcome)
    (FromLook n flags s steps outcome)
