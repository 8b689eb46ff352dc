-- How a load's script grows by one fork, one call or one caller.
use Rattle.std.proofs.Common.{◌≡◌, ℕ, ◌+◌, ◌-◌, ◌≤◌, List, [], ◌∷◌, ◌++◌, map, sym, ap, ◌∙◌, append_assoc, arith}
use Rattle.std.specs.List.{range_with_len}
use Rattle.std.proofs.lemmas.List.FromFn.{map-range_with_len_more}
use Rattle.key_names.specs.declared.events.Event.{Event}
use Rattle.key_names.specs.declared.events.Event.TheVariants.{Fork, On}
use Rattle.event_script.specs.LoadScript.{call, load_events, opening}

pub one_more_fork : (child : ℕ) → 1 ≤ child →
    map Fork (range_with_len 1 (child + 1 - 1)) ≡ map Fork (range_with_len 1 (child - 1)) ++ Fork child ∷ []
one_more_fork child some =
    let next : child + 1 - 1 ≡ child - 1 + 1 = omega arith in
    ap (λ n. map Fork (range_with_len 1 n)) next ∙ map-range_with_len_more Fork 1 (child - 1) child (omega arith)

one_more_call : (start callers count caller : ℕ) →
    load_events start callers (count + 1) caller ≡ load_events start callers count caller
    ++ call start caller count ∷ []
one_more_call start callers count caller =
    let calls = map (call start caller) (range_with_len 0 count) in
    ap (λ es. opening callers caller ++ On caller ∷ es)
    (map-range_with_len_more (call start caller) 0 count count (omega arith))
    ∙ sym (append_assoc (opening callers caller) (On caller ∷ calls) (call start caller count ∷ []))

-- a caller's events with `count` calls, followed by its next call, are its events with `count + 1` calls
pub pushed_call : (start callers count caller : ℕ) (items new : List Event) (event : Event) →
    new ≡ items ++ event ∷ [] →
    items ≡ load_events start callers count caller → event ≡ call start caller count →
    new ≡ load_events start callers (count + 1) caller
pushed_call start callers count caller items new event pushed before next =
    let more = one_more_call start callers count caller in cc
