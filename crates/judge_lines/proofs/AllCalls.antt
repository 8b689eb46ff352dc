-- A loop that makes the calls of one caller after the other makes the calls of all callers.
use Rattle.std.proofs.Common.{◌≡◌, ℕ, suc, ◌+◌, ◌<◌, ◌≤◌, Some, List, [], ◌∷◌, ◌++◌, length, get_or, drop, map, refl, sym, ap, ◌∙◌, append_assoc}
use Rattle.std.specs.Prelude.{slice_get}
use Rattle.std.specs.Global.{Vec}
use Rattle.std.proofs.lemmas.List.{map-append, at_drop_all, append-nil}
use Rattle.key_names.specs.declared.events.Event.{Event}
use Rattle.key_names.specs.Transcripts.SeenLine.{SeenLine}
use Rattle.key_names.specs.Callers.Calls.{Call, calls_of, all_calls}
use Rattle.key_names.proofs.Lists.ListFacts.{found_dropped}
use Rattle.judge_lines.specs.declared.bare.BareLine.{BareLine}
use Rattle.judge_lines.specs.declared.called.CalledLines.{CalledLines}
use Rattle.judge_lines.specs.Seen.{seen_bare, seen_callers}
use Rattle.judge_lines.specs.Called.{seen_call, seen_calls}
use Rattle.judge_lines.proofs.Fronts.{dropped}

pub calls_next : (c : ℕ) (ess : List (List Event)) (lines : List (Vec BareLine)) (calls : List (Vec CalledLines))
    (es : List Event) (ls : Vec BareLine) (made : Vec CalledLines) (whole : List (List Call)) → slice_get ess c ≡ Some es →
    c < length lines → ls ≡ get_or lines c ls → map seen_call made.items ≡ calls_of es (map seen_bare ls.items) →
    seen_calls calls ++ all_calls (drop c ess) (seen_callers (drop c lines)) ≡ whole →
    seen_calls (calls ++ made ∷ []) ++ all_calls (drop (c + 1) ess) (seen_callers (drop (c + 1) lines)) ≡ whole
calls_next c ess lines calls es ls made whole here low is made_is so_far =
    let one : List (List Call) = calls_of es (map seen_bare ls.items) ∷ [] in
    let rest : List (List Call) = all_calls (drop (c + 1) ess) (seen_callers (drop (c + 1) lines)) in
    ap (λ xs. xs ++ rest) (map-append (λ (v : Vec CalledLines). map seen_call v.items) calls (made ∷ [])
    ∙ ap (λ x. seen_calls calls ++ x ∷ []) made_is)
    ∙ append_assoc (seen_calls calls) one rest
    ∙ sym (ap (λ xs. seen_calls calls ++ xs)
    (λ i. all_calls (found_dropped ess c es here i) (seen_callers (dropped lines c ls low is i))))
    ∙ so_far

pub calls_end : (c : ℕ) (ess : List (List Event)) (t : List (List SeenLine)) (calls whole : List (List Call)) →
    length ess ≤ c → calls ++ all_calls (drop c ess) t ≡ whole → calls ≡ whole
calls_end c ess t calls whole high so_far =
    sym (append-nil calls)
    ∙ sym (ap (λ (xs : List (List Event)). calls ++ all_calls xs t) (at_drop_all (λ x. x) ess c high)) ∙ so_far

pub calls_long : (ess : List (List Event)) (t : List (List SeenLine)) → length (all_calls ess t) ≡ length ess
calls_long [] t = refl
calls_long (es ∷ ess) [] = ap suc (calls_long ess [])
calls_long (es ∷ ess) (ls ∷ t) = ap suc (calls_long ess t)
