-- Follows a vread over its seen steps (kinds, found generations and keys). The cases are the same as in the code.
use Rattle.std.specs.Prelude.{ℕ, ◌+◌, ◌-◌, ◌^◌, ◌==◌, ◌||◌, min, Bool, true, false, Option, Some, None, List, [], ◌∷◌}
use Rattle.std.specs.Prelude.{if◌then◌else◌}
use Rattle.std.specs.Option.{option_map}
use Rattle.key_names.specs.declared.events.Answer.TheVariants.{Ok as Done}
use Rattle.key_names.specs.Kernel.Flags.{is_bad}
use Rattle.key_names.specs.Kernel.Keystream.{keystream}
use Rattle.key_names.specs.Kernel.VgetrandomState.{VgetrandomState, state_left}
use Rattle.key_names.specs.Kernel.BatchCopy.{state_after_copy, block_after_copy, serves_locally}
use Rattle.key_names.specs.Kernel.Vgetrandom.{state_after_call}
use Rattle.judge_vread.specs.declared.seen.SeenStep.{SeenStep}
use Rattle.judge_vread.specs.declared.seen.SeenStep.TheVariants.{Unready, Ready, Base, Cpu}
use Rattle.judge_vread.specs.declared.inside.Inside.{Inside}
use Rattle.judge_vread.specs.declared.inside.Reached.{Reached}
use Rattle.judge_vread.specs.declared.inside.Reached.TheVariants.{Nothing}
use Rattle.judge_vread.specs.declared.attempt.AttemptResult.{AttemptResult}
use Rattle.judge_vread.specs.declared.follow.VreadPath.{VreadPath}
use Rattle.judge_vread.specs.Recipe.{Recipe, no_recipe, copy_recipe}
use Rattle.judge_vread.specs.Seen.{rises}
use Rattle.judge_vread.specs.Inside.{inside_of, reached_by}
use Rattle.judge_vread.specs.Called.{called}

-- the generation that is published at a look; `found` is the base's generation that the look found
abbrev pub published : ℕ → ℕ
published found = min (found + 1) (2 ^ 64 - 1)

-- ---- one attempt of a vgetrandom call

-- the result of an attempt, the state after it, and the seen steps after it
pub record After : Type 0 where
  pub tried : AttemptResult
  pub state : VgetrandomState
  pub rest : List SeenStep

abbrev pub looked_again : ℕ → ℕ → Bool → VgetrandomState → VgetrandomState → ℕ → List SeenStep → After
looked_again n c keyed s left found rest = record {
  tried = record {
    served = copy_recipe s c n;
    keyed = keyed;
    holds = left.generation == published found;
    next_block = block_after_copy s c n;
  };
  state = left;
  rest = rest;
}

-- the part of an attempt from its copy on; the state may already have been wiped at Serve
abbrev pub copied : Inside → ℕ → ℕ → Bool → VgetrandomState → List SeenStep → Option After
copied inside n c keyed s (Ready found ∷ rest) =
    Some (looked_again n c keyed s (state_left inside.end (state_after_copy s c n)) found rest)
copied inside n c keyed s _ = None

abbrev pub from_serve : Inside → ℕ → ℕ → Bool → VgetrandomState → List SeenStep → Option After
from_serve inside n c keyed s seen = copied inside n c keyed (state_left inside.serve s) seen

-- the key that a system call at the front of the seen steps read, and the seen steps after this system call
pub record Keyed : Type 0 where
  pub key : List ℕ
  pub rest : List SeenStep

abbrev pub key_in_front : List SeenStep → Option Keyed
key_in_front (Ready a ∷ Ready b ∷ Cpu key ∷ rest) = Some (record { key = keystream key 32 32; rest = rest })
key_in_front (Ready a ∷ Ready b ∷ Base other ∷ Cpu key ∷ rest) =
    Some (record { key = keystream key 32 32; rest = rest })
key_in_front _ = None

-- the part of an attempt after it read a key; none if it read no key
abbrev pub with_key : Inside → ℕ → ℕ → VgetrandomState → Option Keyed → Option After
with_key inside n c s None = None
with_key inside n c s (Some keyed) =
    from_serve inside n c true (record s { key = keyed.key; pos = 96 }) keyed.rest

-- the part of an attempt after its point Start, where the state may have been wiped; `g` is the published generation
abbrev pub from_start : Inside → ℕ → ℕ → VgetrandomState → ℕ → List SeenStep → Option After
from_start inside n c s g seen =
    if s.generation == g then from_serve inside n c false s seen
    else with_key inside n c (state_left inside.written (record s { generation = g })) (key_in_front seen)

-- an attempt to copy n bytes; `c` is the key's next block
abbrev pub attempted : Inside → ℕ → ℕ → VgetrandomState → List SeenStep → Option After
attempted inside n c s (Ready found ∷ rest) = from_start inside n c (state_left inside.start s) (published found) rest
attempted inside n c s _ = None

-- ---- a whole vgetrandom call

-- the result of a vread, and the state after it
pub record Followed : Type 0 where
  pub path : VreadPath
  pub state : VgetrandomState

abbrev pub leaving : VgetrandomState → Option VreadPath → Option Followed
leaving s o = option_map (λ path. record { path = path; state = s }) o

-- the result of a vread that serves the bytes of the recipe; none if steps are left
abbrev pub at_end : Recipe → Reached → List SeenStep → Option VreadPath
at_end recipe reached [] = Some (record { answer = Done; served = recipe; reached = reached })
at_end recipe reached _ = None

-- the result of a vgetrandom call that is answered by a system call for all n bytes, with the same flags; none if the
-- steps are not those of this system call
abbrev pub by_system : ℕ → ℕ → Reached → List SeenStep → Option VreadPath
by_system n flags reached seen =
    option_map (λ c. record { answer = c.answer; served = c.served; reached = reached }) (called n flags seen)

-- the rest of a vgetrandom call after its second attempt
abbrev pub tried_again : ℕ → ℕ → Reached → Option After → Option Followed
tried_again n flags reached None = None
tried_again n flags reached (Some b) = leaving (state_after_call b.state)
    (if b.tried.holds then at_end b.tried.served reached b.rest else by_system n flags reached b.rest)

-- the rest of a vgetrandom call after its first attempt
abbrev pub tried_once : ℕ → ℕ → Option After → Option Followed
tried_once n flags None = None
tried_once n flags (Some b) =
    if b.tried.holds
    then leaving (state_after_call b.state) (at_end b.tried.served (reached_by b.tried.keyed) b.rest)
    else tried_again n flags (reached_by b.tried.keyed)
    (attempted (inside_of []) n b.tried.next_block b.state b.rest)

-- a vgetrandom call after its first look, which found the core ready
abbrev pub from_ready : ℕ → ℕ → Inside → VgetrandomState → List SeenStep → Option Followed
from_ready n flags inside s seen =
    if n == 0 then leaving s (at_end no_recipe Nothing seen)
    else (if s.in_use then leaving s (by_system n flags Nothing seen)
    else tried_once n flags (attempted inside n 0 (record s { in_use = true }) seen))

abbrev pub from_look : ℕ → ℕ → Inside → VgetrandomState → List SeenStep → Option Followed
from_look n flags inside s (Unready ∷ rest) = leaving s (by_system n flags Nothing rest)
from_look n flags inside s (Ready found ∷ rest) = from_ready n flags inside s rest
from_look n flags inside s _ = None

-- a vgetrandom call for n bytes with these flags
abbrev pub by_vgetrandom : ℕ → ℕ → Inside → VgetrandomState → List SeenStep → Option Followed
by_vgetrandom n flags inside s seen =
    if is_bad flags then leaving s (by_system n flags Nothing seen) else from_look n flags inside s seen

-- if the state allows a copy without a vgetrandom call, this copy; otherwise a vgetrandom call
abbrev pub copy_or_call : ℕ → ℕ → Inside → VgetrandomState → List SeenStep → Option Followed
copy_or_call n flags inside s (Ready found ∷ rest) =
    if serves_locally (published found) s n
    then leaving (state_after_copy s 0 n) (at_end (copy_recipe s 0 n) Nothing rest)
    else by_vgetrandom n flags inside s (Ready found ∷ rest)
copy_or_call n flags inside s seen = by_vgetrandom n flags inside s seen

-- for a vread of n bytes with these flags: its result, and the state after it; none if `seen` are not the steps of such
-- a vread
abbrev pub followed : ℕ → ℕ → Inside → VgetrandomState → List SeenStep → Option Followed
followed n flags inside s seen =
    if rises 0 seen
    then (if inside.any || (n == 0 || is_bad flags) then by_vgetrandom n flags inside s seen
    else copy_or_call n flags inside s seen)
    else None
