-- Putting the lines of all runs into the slots fills each caller's slot with its own lines.
use Rattle.std.proofs.Common.{◌≡◌, inl, inr, ℕ, zero, suc, ◌+◌, ◌<◌, ◌≤◌, Some, List, [], ◌∷◌, ◌++◌, map, length, refl, ap, ◌∙◌, arith}
use Rattle.std.specs.Prelude.{slice_get, slice_set}
use Rattle.std.specs.List.{AllByRecursion}
use Rattle.std.proofs.lemmas.List.{length-set}
use Rattle.key_names.specs.declared.events.Event.{Event}
use Rattle.key_names.specs.Transcripts.IsTranscript.{LinesFit}
use Rattle.key_names.specs.Transcripts.SeenLine.{SeenLine}
use Rattle.key_names.specs.Texts.TranscriptGrammar.{LastHasLines}
use Rattle.key_names.proofs.Transcripts.TranscriptStates.{set_here, set_other}
use Rattle.caller_run.specs.Laws.{Run, IsOneOf, lines_of_all}
use Rattle.caller_run.specs.Plans.{put_in, HaveSlots}
use Rattle.caller_run.specs.RunningCallers.{numbered}
use Rattle.caller_run.proofs.Orders.InOrder.{number, numbers_of, cons_times, AllOnce, first_once, rest_once, one_of, in_order}
use Rattle.caller_run.proofs.Planning.OnceEach.{times_in}
use Rattle.caller_run.proofs.Planning.Sums.{hit_same}

pub put_long : (t : List (List SeenLine)) (recorded : List (ℕ × List SeenLine)) → length (put_in t recorded) ≡ length t
put_long t [] = refl
put_long t (x ∷ xs) = put_long (slice_set t x.0 x.1) xs ∙ length-set t x.0 x.1

pub put_append : (t : List (List SeenLine)) (xs ys : List (ℕ × List SeenLine)) →
    put_in t (xs ++ ys) ≡ put_in (put_in t xs) ys
put_append t [] ys = refl
put_append t (x ∷ xs) ys = put_append (slice_set t x.0 x.1) xs ys

there_times : (k : ℕ) (rs : List Run) (r : Run) → IsOneOf r rs → number r ≡ k → 1 ≤ times_in k (numbers_of rs)
there_times k [] r here own = absurd here
there_times k (q ∷ rs) r (inl same) own =
    let c = cons_times k q rs in let h = hit_same (number q) k (ap number same ∙ own) in omega arith
there_times k (q ∷ rs) r (inr more) own =
    let c = cons_times k q rs in let rest = there_times k rs r more own in omega arith

-- if a caller has no run, its slot keeps its lines
left_so : (k : ℕ) (t : List (List SeenLine)) (runs : List Run) → times_in k (numbers_of runs) ≡ 0 →
    slice_get (put_in t (map numbered runs)) k ≡ slice_get t k
left_so k t [] none = refl
left_so k t (r ∷ rs) none =
    let c = cons_times k r rs in
    left_so k (slice_set t (number r) r.lines) rs (omega arith)
    ∙ set_other t (number r) k r.lines (λ e. let h = hit_same (number r) k e in absurd (omega arith))

-- if a caller has exactly one run, its slot gets the lines of this run
put_so : (k : ℕ) (t : List (List SeenLine)) (runs : List Run) → k < length t → times_in k (numbers_of runs) ≡ 1 →
    (r : Run) → IsOneOf r runs → number r ≡ k → slice_get (put_in t (map numbered runs)) k ≡ Some r.lines
put_so k t [] low one r here own = absurd here
put_so k t (q ∷ rs) low one r (inl same) own =
    let c = cons_times k q rs in let at : number q ≡ k = ap number same ∙ own in let h = hit_same (number q) k at in
    left_so k (slice_set t (number q) q.lines) rs (omega arith)
    ∙ ap (λ (n : ℕ). slice_get (slice_set t n q.lines) k) at ∙ set_here t k q.lines low
    ∙ ap (λ (s : Run). Some s.lines) same
put_so k t (q ∷ rs) low one r (inr more) own =
    let c = cons_times k q rs in let some = there_times k rs r more own in
    let long = length-set t (number q) q.lines in
    put_so k (slice_set t (number q) q.lines) rs (omega arith) (omega arith) r more own

in_slots : (n k : ℕ) (runs : List Run) (once : AllOnce k n runs) (t : List (List SeenLine)) → length t ≡ n →
    ((i : ℕ) → i < n → (r : Run) → IsOneOf r runs → number r ≡ k + i → slice_get t i ≡ Some r.lines) →
    t ≡ lines_of_all (in_order n k runs once)
in_slots zero k runs once [] long got = refl
in_slots zero k runs once (x ∷ t) long got = absurd (omega arith)
in_slots (suc n) k runs once [] long got = absurd (omega arith)
in_slots (suc n) k runs once (x ∷ t) long got =
    let one = one_of k runs (first_once n k runs once) in
    let here : Some x ≡ Some one.run.lines = got 0 (omega arith) one.run one.there (let o = one.own in omega arith) in
    let same : x ≡ one.run.lines = cc in
    let rest = in_slots n (suc k) runs (rest_once n k runs once) t (omega arith)
    (λ i low r there own. got (suc i) (omega arith) r there (omega arith)) in
    λ i. same i ∷ rest i

-- if each caller has exactly one run, each slot gets the lines of its caller's run
pub put_all : (n : ℕ) (runs : List Run) (once : AllOnce 0 n runs) (t : List (List SeenLine)) → length t ≡ n →
    put_in t (map numbered runs) ≡ lines_of_all (in_order n 0 runs once)
put_all n runs once t long =
    in_slots n 0 runs once (put_in t (map numbered runs)) (put_long t (map numbered runs) ∙ long)
    (λ i low r there own. put_so i t runs (omega arith) (once i (omega arith) (omega arith)) r there (omega arith))

pub have_slots : (n : ℕ) (runs : List Run) → AllByRecursion (λ r. number r < n) runs → HaveSlots n (map numbered runs)
have_slots n [] low = tt
have_slots n (r ∷ rs) low = (low.0, have_slots n rs low.1)

-- a caller that ended has a line
pub fit_long : (c n : ℕ) (events : List Event) (lines : List SeenLine) → LinesFit c n events lines → 0 < length lines
fit_long c n [] [] fit = absurd fit
fit_long c n (e ∷ es) [] fit = absurd fit
fit_long c n events (l ∷ lines) fit = omega arith

pub last_has : (runs : List Run) → AllByRecursion (λ r. 0 < length r.lines) runs → LastHasLines (lines_of_all runs)
last_has [] all = tt
last_has (r ∷ []) all = all.0
last_has (r ∷ q ∷ rs) all = last_has (q ∷ rs) all.1
