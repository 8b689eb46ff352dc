-- The own steps of a caller, and its forks, are collected call by call.
use Rattle.std.specs.Prelude.{◌||◌}
use Rattle.std.specs.List.{list_any}
use Rattle.std.proofs.Common.{◌≡◌, ℕ, Bool, suc, ◌+◌, ◌<◌, false, List, [], ◌∷◌, ◌++◌, length, get_or, drop, map, refl, length-append, add-one}
use Rattle.std.specs.Global.{Vec}
use Rattle.key_names.specs.declared.names.Step.{Step}
use Rattle.key_names.specs.declared.events.Event.TheVariants.{Fork as ForkEvent}
use Rattle.key_names.specs.Callers.Calls.{Call, alone}
use Rattle.key_names.specs.Callers.History.{call_steps, calls_steps}
use Rattle.judge_lines.specs.declared.called.CalledLines.{CalledLines}
use Rattle.judge_lines.specs.declared.order.Fork.{Fork}
use Rattle.judge_lines.specs.Called.{seen_call, seen_calls}
use Rattle.judge_lines.specs.Orders.{fork_here, forks_in, is_fork, all_forks}
use Rattle.judge_lines.proofs.Fronts.{goes_on}

pub own_next : (calls : List CalledLines) (n : ℕ) (call : CalledLines) (own whole : List Step) → n < length calls →
    call ≡ get_or calls n call → own ++ calls_steps (map seen_call (drop n calls)) ≡ whole →
    (own ++ call_steps (seen_call call)) ++ calls_steps (map seen_call (drop (n + 1) calls)) ≡ whole
own_next calls n call own whole low is so_far =
    goes_on (λ xs. calls_steps (map seen_call xs)) (λ xs. calls_steps (map seen_call xs)) calls n call own
    (call_steps (seen_call call)) whole low is refl so_far

pub forks_next : (p n steps : ℕ) (calls : List CalledLines) (call : CalledLines) (own : List Step) (forks whole : List Fork) →
    n < length calls → call ≡ get_or calls n call → steps ≡ length own →
    forks ++ forks_in p n (length own) (map seen_call (drop n calls)) ≡ whole →
    (forks ++ fork_here p n steps (seen_call call))
    ++ forks_in p (n + 1) (length (own ++ call_steps (seen_call call))) (map seen_call (drop (n + 1) calls)) ≡ whole
forks_next p n steps calls call own forks whole low is long so_far =
    goes_on (λ xs. forks_in p n (length own) (map seen_call xs))
    (λ xs. forks_in p (n + 1) (length (own ++ call_steps (seen_call call))) (map seen_call xs)) calls n call forks
    (fork_here p n steps (seen_call call)) whole low is
    (rw (long, length-append own (call_steps (seen_call call)), add-one) refl) so_far

pub all_own_next : (callers : List (Vec CalledLines)) (c : ℕ) (calls : Vec CalledLines) (owns whole : List (List Step)) →
    c < length callers → calls ≡ get_or callers c calls → owns ++ map calls_steps (seen_calls (drop c callers)) ≡ whole →
    (owns ++ calls_steps (map seen_call calls.items) ∷ []) ++ map calls_steps (seen_calls (drop (c + 1) callers)) ≡ whole
all_own_next callers c calls owns whole low is so_far =
    goes_on (λ xs. map calls_steps (seen_calls xs)) (λ xs. map calls_steps (seen_calls xs)) callers c calls owns
    (calls_steps (map seen_call calls.items) ∷ []) whole low is refl so_far

pub all_forks_next : (callers : List (Vec CalledLines)) (c : ℕ) (calls : Vec CalledLines) (forks whole : List Fork) →
    c < length callers → calls ≡ get_or callers c calls → forks ++ all_forks c (seen_calls (drop c callers)) ≡ whole →
    (forks ++ forks_in c 0 0 (map seen_call calls.items)) ++ all_forks (c + 1) (seen_calls (drop (c + 1) callers)) ≡ whole
all_forks_next callers c calls forks whole low is so_far =
    goes_on (λ xs. all_forks c (seen_calls xs)) (λ xs. all_forks (c + 1) (seen_calls xs)) callers c calls forks
    (forks_in c 0 0 (map seen_call calls.items)) whole low is (rw add-one refl) so_far

no_forks_here : (p k n : ℕ) (c : Call) (calls : List Call) (later : Bool) → (is_fork c || later) ≡ false →
    (later ≡ false → forks_in p (suc k) (n + length (call_steps c)) calls ≡ []) → forks_in p k n (c ∷ calls) ≡ []
no_forks_here p k n (alone (ForkEvent child) line) calls later none rest = cc
no_forks_here p k n c calls later none rest = rest none

-- a caller whose calls have no fork event makes no forks
pub no_forks : (p k n : ℕ) (calls : List CalledLines) → list_any (λ call. is_fork (seen_call call)) calls ≡ false →
    forks_in p k n (map seen_call calls) ≡ []
no_forks p k n [] none = refl
no_forks p k n (call ∷ calls) none = no_forks_here p k n (seen_call call) (map seen_call calls)
    (list_any (λ call. is_fork (seen_call call)) calls) none
    (λ rest. no_forks p (suc k) (n + length (call_steps (seen_call call))) calls rest)
