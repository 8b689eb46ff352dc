-- In a well-formed script each caller forks only callers with higher numbers than its own.
use Rattle.std.proofs.Common.{ℕ, suc, ◌+◌, ◌<◌, Bool, true, false, List, [], ◌∷◌, ◌++◌, length}
use Rattle.std.specs.Prelude.{⊤, if◌then◌else◌}
use Rattle.std.specs.List.{AllByRecursion}
use Rattle.key_names.specs.declared.events.Event.{Event}
use Rattle.key_names.specs.declared.events.Event.TheVariants.{Vread, Inside, Fork as ForkEvent}
use Rattle.key_names.specs.Texts.ScriptGrammar.{IsForkAbove, ForksAbove}
use Rattle.key_names.specs.Transcripts.SeenLine.{SeenLine}
use Rattle.key_names.specs.Callers.Calls.{Call, alone, unbound, BoundAct, has_vread, calls_from, calls_of, all_calls}
use Rattle.key_names.specs.Callers.History.{call_steps}
use Rattle.key_names.proofs.Lists.Each.{each_append}
use Rattle.judge_lines.specs.declared.order.Fork.{Fork}
use Rattle.judge_lines.specs.Orders.{forks_in, all_forks}

abbrev Above : ℕ → Call → Type 0
Above p (alone (ForkEvent child) line) = p < child
Above p _ = ⊤

calls_above : (p : ℕ) (w : List BoundAct) (es : List Event) (ls : List SeenLine) → AllByRecursion (IsForkAbove p) es →
    AllByRecursion (Above p) (calls_from w es ls)
calls_above p w [] [] all = tt
calls_above p w [] (l ∷ ls) all = (tt, tt)
calls_above p w (e ∷ es) [] all = tt
calls_above p w (Vread n f ∷ es) (l ∷ ls) all = (tt, calls_above p [] es ls all.1)
calls_above p w (Inside point act ∷ es) (l ∷ ls) all =
    let bound : BoundAct = record { point = point; act = act; line = l } in
    by (has_vread es) (calls_above p (w ++ bound ∷ []) es ls all.1) (calls_above p w es ls all.1)
  where
    by : (b : Bool) → AllByRecursion (Above p) (calls_from (w ++ record { point = point; act = act; line = l } ∷ []) es ls) →
        AllByRecursion (Above p) (calls_from w es ls) →
        AllByRecursion (Above p) (if b then calls_from (w ++ record { point = point; act = act; line = l } ∷ []) es ls
        else unbound (record { point = point; act = act; line = l }) ∷ calls_from w es ls)
    by true waits apart = waits
    by false waits apart = (tt, apart)
calls_above p w (ForkEvent child ∷ es) (l ∷ ls) all = (all.0, calls_above p w es ls all.1)
calls_above p w (e ∷ es) (l ∷ ls) all = (tt, calls_above p w es ls all.1)

forks_rise : (p k n : ℕ) (calls : List Call) → AllByRecursion (Above p) calls →
    AllByRecursion (λ f. f.parent < f.child) (forks_in p k n calls)
forks_rise p k n [] all = tt
forks_rise p k n (alone (ForkEvent child) line ∷ calls) all =
    (all.0, forks_rise p (suc k) (n + length line.steps) calls all.1)
forks_rise p k n (call ∷ calls) all = forks_rise p (suc k) (n + length (call_steps call)) calls all.1

pub all_rise : (p : ℕ) (ess : List (List Event)) (t : List (List SeenLine)) → ForksAbove p ess →
    AllByRecursion (λ f. f.parent < f.child) (all_forks p (all_calls ess t))
all_rise p [] t above = tt
all_rise p (es ∷ ess) [] above =
    each_append (λ (f : Fork). f.parent < f.child) (forks_in p 0 0 (calls_of es [])) (all_forks (suc p) (all_calls ess []))
    (forks_rise p 0 0 (calls_of es []) (calls_above p [] es [] above.0)) (all_rise (suc p) ess [] above.1)
all_rise p (es ∷ ess) (ls ∷ t) above =
    each_append (λ (f : Fork). f.parent < f.child) (forks_in p 0 0 (calls_of es ls)) (all_forks (suc p) (all_calls ess t))
    (forks_rise p 0 0 (calls_of es ls) (calls_above p [] es ls above.0)) (all_rise (suc p) ess t above.1)
