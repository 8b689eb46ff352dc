-- The outline and the entries that a vread leaves for a state. The steps of the vread's line determine both. The
-- definitions follow the code, case by case. If the steps are not those of a vread, the entries end before the first
-- step that does not fit.
use Rattle.std.specs.Prelude.{ℕ, ◌==◌, ◌&&◌, ◌||◌, Bool, true, Option, None, Some, List, [], ◌∷◌, ◌++◌, length}
use Rattle.std.specs.Prelude.{if◌then◌else◌}
use Rattle.key_names.specs.declared.entries.VEntry.{VEntry}
use Rattle.key_names.specs.declared.entries.VEntry.TheVariants.{Rekey, Wipe}
use Rattle.key_names.specs.declared.names.LaneId.{LaneId}
use Rattle.key_names.specs.declared.names.LaneId.TheVariants.{Pool as PoolLane, Base as BaseLane, Cpu as CpuLane}
use Rattle.key_names.specs.declared.names.Step.{Step}
use Rattle.key_names.specs.declared.names.Step.TheVariants.{Look, Visit as Marked}
use Rattle.key_names.specs.declared.point.Point.TheVariants.{Start, Written, Serve, End}
use Rattle.key_names.specs.Kernel.Flags.{is_bad}
use Rattle.key_names.specs.Callers.Calls.{BoundAct}
use Rattle.key_names.specs.Callers.VreadSteps.{is_wiped}
use Rattle.key_names.specs.Kernel.BatchCopy.{has_left, copy_entries, refill_entries, state_after_copy, block_after_copy}
use Rattle.audit_keys.specs.declared.leaving.KeyRead.{KeyRead}
use Rattle.audit_keys.specs.declared.outline.Outline.{Outline}
use Rattle.audit_keys.specs.Outline.{wiped_outline, outlined}

-- a state's outline, and the entries that a call left for it
pub record Left : Type 0 where
  pub outline : Outline
  pub entries : List VEntry

-- a state at the beginning of a call: it has this outline, and the call has left no entry
abbrev pub nothing_left : Outline → Left
nothing_left outline = record { outline = outline; entries = [] }

abbrev pub left_more : List VEntry → Left → Left
left_more entries l = record l { entries = l.entries ++ entries }

abbrev pub pushed : VEntry → Left → Left
pushed entry l = left_more (entry ∷ []) l

abbrev pub wiped : Left → Left
wiped l = record { outline = wiped_outline; entries = l.entries ++ Wipe ∷ [] }

-- the state after a point: wiped if `wipes` is true (an act at the point wipes), and otherwise unchanged
abbrev pub met : Bool → Left → Left
met wipes l = if wipes then wiped l else l

-- the state `l`, with `served` bytes of its batch served
abbrev pub with_served : ℕ → Left → Left
with_served served l = record l { outline = record l.outline { served = served } }

abbrev pub refilled : ℕ → ℕ → ℕ → Left → Left
refilled c m r l = with_served r (left_more (refill_entries c m r) l)

-- the state `l` after `n` bytes were copied out; `c` is the key's next block before the copy
abbrev pub copied : ℕ → ℕ → Left → Left
copied n c l =
    with_served (state_after_copy (outlined l.outline) c n).pos (left_more (copy_entries (outlined l.outline) c n) l)

-- ---- a new key for a state ----

abbrev pub key_at : LaneId → ℕ → Option KeyRead
key_at PoolLane place = None
key_at BaseLane place = None
key_at (CpuLane c) place = Some (record { cpu = c; place = place })

-- the key that a step reads, if the step is a visit of a CPU
abbrev pub key_read : Step → Option KeyRead
key_read (Look g) = None
key_read (Marked mark) = key_at mark.lane mark.place

pub record KeyAndRest : Type 0 where
  pub key : KeyRead
  pub rest : List Step

abbrev pub or_key : Option KeyRead → List Step → Option KeyAndRest → Option KeyAndRest
or_key (Some key) rest other = Some (record { key = key; rest = rest })
or_key None rest other = other

abbrev pub second_key : List Step → Option KeyAndRest
second_key [] = None
second_key (step ∷ rest) = or_key (key_read step) rest None

-- if the steps begin with a system call that reads a key: this key, and the steps after the call
abbrev pub key_in_front : List Step → Option KeyAndRest
key_in_front (Look a ∷ Look b ∷ step ∷ rest) = or_key (key_read step) rest (second_key rest)
key_in_front _ = None

abbrev pub keyed : KeyRead → Left → Left
keyed key l = pushed (Rekey key.cpu key.place) (with_served 96 l)

-- ---- an attempt of a vgetrandom call ----

-- the end of an attempt: the key's next block, whether the attempt held, the steps after the attempt, and the outline
-- and entries that the attempt left
pub record After : Type 0 where
  pub next_block : ℕ
  pub holds : Bool
  pub rest : List Step
  pub left : Left

-- an attempt that runs out of steps: it leaves `l`, and the next block of its key is `c`
abbrev pub cut_short : ℕ → Left → After
cut_short c l = record { next_block = c; holds = true; rest = []; left = l }

abbrev pub looked_again : List BoundAct → ℕ → ℕ → Left → ℕ → List Step → After
looked_again acts n c l found rest =
    let end = met (is_wiped acts End) (copied n c l) in record {
      next_block = block_after_copy (outlined l.outline) c n;
      holds = end.outline.found == found;
      rest = rest;
      left = end;
    }

-- the end of an attempt, from its point Serve on
abbrev pub from_serve : List BoundAct → ℕ → ℕ → Left → List Step → After
from_serve acts n c l (Look found ∷ rest) = looked_again acts n c (met (is_wiped acts Serve) l) found rest
from_serve acts n c l _ = cut_short c l

abbrev pub with_key : List BoundAct → ℕ → ℕ → Left → Option KeyAndRest → After
with_key acts n c l None = cut_short c l
with_key acts n c l (Some k) = from_serve acts n c (keyed k.key l) k.rest

-- the end of an attempt, from its point Written on
abbrev pub from_written : List BoundAct → ℕ → ℕ → Left → List Step → After
from_written acts n c l steps = with_key acts n c (met (is_wiped acts Written) l) (key_in_front steps)

-- the end of an attempt, after its point Start; the attempt's look found the generation `found`
abbrev pub from_start : List BoundAct → ℕ → ℕ → ℕ → Left → List Step → After
from_start acts n c found l steps =
    if l.outline.found == found then from_serve acts n c l steps
    else from_written acts n c (record l { outline = record l.outline { found = found } }) steps

-- the end of an attempt to copy `n` bytes; `c` is the key's next block before the attempt
abbrev pub attempted : List BoundAct → ℕ → ℕ → Left → List Step → After
attempted acts n c l (Look found ∷ rest) = from_start acts n c found (met (is_wiped acts Start) l) rest
attempted acts n c l _ = cut_short c l

-- ---- a vread and its attempts ----

abbrev pub tried_again : ℕ → After → Left
tried_again n b = if b.holds then b.left else (attempted [] n b.next_block b.left b.rest).left

abbrev pub tried_twice : List BoundAct → ℕ → Left → List Step → Left
tried_twice acts n l steps = tried_again n (attempted acts n 0 l steps)

-- whether the batch alone serves the vread, without a vgetrandom call; the first look found the generation `found`
abbrev pub copies_alone : List BoundAct → ℕ → ℕ → Left → Bool
copies_alone acts n found l = length acts == 0 && (l.outline.found == found && has_left (outlined l.outline) n)

-- the state after a vread whose first look found the generation `found`; `rest` are the steps after that look
abbrev pub from_look : List BoundAct → ℕ → ℕ → Left → List Step → Left
from_look acts n found l rest =
    if found == 0 then l else (if copies_alone acts n found l then copied n 0 l else tried_twice acts n l rest)

abbrev pub first_look : List BoundAct → ℕ → Left → List Step → Left
first_look acts n l (Look found ∷ rest) = from_look acts n found l rest
first_look acts n l _ = l

-- the state after a vread of `n` bytes with these flags and acts
abbrev pub vread_left : ℕ → ℕ → List BoundAct → Left → List Step → Left
vread_left n flags acts l steps = if is_bad flags || n == 0 then l else first_look acts n l steps
