-- Recognizes a system call by its seen steps (kinds, found generations and keys). The cases are the same as in the
-- code, and as in the rows of kinds.
use Rattle.std.specs.Prelude.{ℕ, ◌==◌, ◌||◌, Bool, true, false, Option, Some, None, List, [], ◌∷◌, if◌then◌else◌}
use Rattle.key_names.specs.declared.events.Answer.{Answer}
use Rattle.key_names.specs.declared.events.Answer.TheVariants.{Ok as Done, Again, Invalid, Interrupted}
use Rattle.key_names.specs.Kernel.Flags.{is_bad, is_nonblock, is_insecure}
use Rattle.judge_vread.specs.declared.seen.SeenStep.{SeenStep}
use Rattle.judge_vread.specs.declared.seen.SeenStep.TheVariants.{Unready, Ready, Pool, Base, Resumed, Cpu}
use Rattle.judge_vread.specs.declared.system_call.SystemCallResult.{SystemCallResult}
use Rattle.judge_vread.specs.Recipe.{Recipe, no_recipe, user_recipe}

abbrev pub serving : Recipe → SystemCallResult
serving recipe = record { answer = Done; served = recipe }

-- if no steps are left, the result has `answer` and no bytes; otherwise there is no result
abbrev pub no_more : Answer → List SeenStep → Option SystemCallResult
no_more answer [] = Some (record { answer = answer; served = no_recipe })
no_more answer _ = None

-- the result of a read of `n` bytes from a CPU; none if the steps are not those of such a read
abbrev pub cpu_read : ℕ → List SeenStep → Option SystemCallResult
cpu_read n (Ready a ∷ Cpu key ∷ []) = Some (serving (user_recipe key n))
cpu_read n (Ready a ∷ Base other ∷ Cpu key ∷ []) = Some (serving (user_recipe key n))
cpu_read n _ = None

-- the result of a read of `n` bytes from a CPU, or from the base of a core that is not ready; none for other steps
abbrev pub unready_read : ℕ → List SeenStep → Option SystemCallResult
unready_read n (Base key ∷ []) = Some (serving (user_recipe key n))
unready_read n (Pool ∷ Base key ∷ []) = Some (serving (user_recipe key n))
unready_read n seen = cpu_read n seen

-- the result of a read of `n` bytes, from the steps after its first look; the bool is true if the core is ready
abbrev pub read : ℕ → Bool → List SeenStep → Option SystemCallResult
read n true seen = if n == 0 then no_more Done seen else cpu_read n seen
read n false seen = if n == 0 then no_more Done seen else unready_read n seen

-- the result of a system call that waited, from the steps of its wait on; the wait was interrupted, or the core became
-- ready
abbrev pub waited : ℕ → List SeenStep → Option SystemCallResult
waited n (Base wait ∷ Base interrupt ∷ []) = Some (record { answer = Interrupted; served = no_recipe })
waited n (Base wait ∷ Resumed ∷ seen) = read n true seen
waited n _ = None

-- the result of a system call, from the steps after its first look; `ready` is true if this look found the core ready
abbrev pub after_look : ℕ → ℕ → Bool → List SeenStep → Option SystemCallResult
after_look n flags ready seen =
    if ready || is_insecure flags then read n ready seen
    else (if is_nonblock flags then no_more Again seen else waited n seen)

abbrev pub by_look : ℕ → ℕ → List SeenStep → Option SystemCallResult
by_look n flags (Unready ∷ rest) = after_look n flags false rest
by_look n flags (Ready found ∷ rest) = after_look n flags true rest
by_look n flags _ = None

-- the answer and bytes of a system call of n bytes with these flags; none if `seen` are not the steps of such a call
abbrev pub called : ℕ → ℕ → List SeenStep → Option SystemCallResult
called n flags seen = if is_bad flags then no_more Invalid seen else by_look n flags seen
