-- The forks that callers make. Each fork has the number of the parent's own steps that come before the child's steps.
use Rattle.std.specs.Prelude.{ℕ, Bool, true, false, suc, ◌+◌, ◌==◌, Option, Some, None, List, [], ◌∷◌, ◌++◌, length, if◌then◌else◌}
use Rattle.std.specs.List.{list_any}
use Rattle.key_names.specs.declared.events.Event.TheVariants.{Fork as ForkEvent}
use Rattle.key_names.specs.Callers.Calls.{Call, alone}
use Rattle.key_names.specs.Callers.History.{call_steps, through_visit}
use Rattle.judge_lines.specs.declared.order.Fork.{Fork}

-- the fork that `call` of caller p makes, if any; p made k calls and n steps before this call
abbrev pub fork_here : ℕ → ℕ → ℕ → Call → List Fork
fork_here p k n (alone (ForkEvent child) line) =
    record { parent = p; child = child; calls = k; steps = n + length (through_visit line.steps) } ∷ []
fork_here p k n _ = []

abbrev pub is_fork : Call → Bool
is_fork (alone (ForkEvent child) line) = true
is_fork _ = false

-- the forks that `calls` of caller p make; p made k calls and n steps before the first of these calls
abbrev pub forks_in : ℕ → ℕ → ℕ → List Call → List Fork
forks_in p k n [] = []
forks_in p k n (call ∷ calls) = fork_here p k n call ++ forks_in p (suc k) (n + length (call_steps call)) calls

-- the forks that all of `callers` make; the first of `callers` is caller p
abbrev pub all_forks : ℕ → List (List Call) → List Fork
all_forks p [] = []
all_forks p (calls ∷ callers) = forks_in p 0 0 calls ++ all_forks (suc p) callers

-- the first of `forks` that makes caller c
abbrev pub front_in : ℕ → List Fork → Option Fork
front_in c [] = None
front_in c (fork ∷ forks) = if fork.child == c then Some fork else front_in c forks

-- whether caller p makes one of `forks`
abbrev pub is_parent_in : ℕ → List Fork → Bool
is_parent_in p forks = list_any (λ fork. fork.parent == p) forks
