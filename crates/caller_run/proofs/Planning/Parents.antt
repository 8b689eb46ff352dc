-- The definition of a caller's parent (`parent_from`) finds the caller that forked it, and the call of this fork.
use Rattle.std.proofs.Common.{◌≡◌, inl, inr, ℕ, suc, ◌+◌, ◌≤◌, Bool, true, false, Some, None, List, [], ◌∷◌, ◌++◌, refl, sym, ap, ◌∙◌, subst, arith}
use Rattle.std.specs.Prelude.{count_by, ◌==◌, if◌then◌else◌}
use Rattle.std.specs.List.{AllByRecursion, sum_by}
use Rattle.std.proofs.lemmas.Bool.{eq-eqb}
use Rattle.std.proofs.lemmas.List.Sums.{sum_by-cons}
use Rattle.key_names.specs.declared.events.Event.{Event}
use Rattle.key_names.specs.declared.events.Event.TheVariants.{Fork, Vread, Inside}
use Rattle.key_names.specs.Texts.ScriptGrammar.{is_fork_of}
use Rattle.key_names.specs.Transcripts.SeenLine.{SeenLine}
use Rattle.key_names.specs.Callers.Calls.{Call, alone, ForkPoint, with_call_before, fork_point, parent_here, parent_from, calls_of, all_calls}
use Rattle.key_names.specs.Transcripts.IsTranscript.{EachCaller, LinesFit}
use Rattle.caller_run.specs.Laws.{Run, HasRun, IsOneOf, lines_of_all}
use Rattle.caller_run.specs.Standing.{Start, Forked}
use Rattle.caller_run.proofs.Orders.CallLists.{Kept, Keeps, kept}
use Rattle.caller_run.proofs.Planning.Sums.{hit, hit_same}

-- how many of some calls fork caller c
abbrev pub forks_in : ℕ → List Call → ℕ
forks_in c [] = 0
forks_in c (alone (Fork child) line ∷ calls) = hit (child == c) + forks_in c calls
forks_in c (call ∷ calls) = forks_in c calls

count_cons : (c : ℕ) (event : Event) (es : List Event) →
    count_by (is_fork_of c) (event ∷ es) ≡ hit (is_fork_of c event) + count_by (is_fork_of c) es
count_cons c event es = sum_by-cons (λ e. hit (is_fork_of c e)) event es

forks_alone : (c : ℕ) (event : Event) (line : SeenLine) (calls : List Call) →
    forks_in c (alone event line ∷ calls) ≡ hit (is_fork_of c event) + forks_in c calls
forks_alone c (Fork child) line calls = refl
forks_alone c event line calls = omega arith

abbrev Counted : ℕ → Kept
Counted c waiting events lines calls = forks_in c calls ≡ count_by (is_fork_of c) events

keeps_counted : (caller c : ℕ) → Keeps caller (Counted c)
keeps_counted caller c = record {
  ends = λ n line is. refl;
  does = λ waiting n event es line lines calls is rest.
      forks_alone c event line calls ∙ ap (λ (k : ℕ). hit (is_fork_of c event) + k) rest ∙ sym (count_cons c event es);
  reads = λ waiting n len flags es line lines calls is rest.
      rest ∙ (let e = count_cons c (Vread len flags) es in omega arith);
  waits = λ waiting n bound es lines calls is rest.
      rest ∙ (let e = count_cons c (Inside bound.point bound.act) es in omega arith);
  idles = λ waiting n bound es lines calls is rest.
      rest ∙ (let e = count_cons c (Inside bound.point bound.act) es in omega arith);
}

pub counted : (caller c : ℕ) (events : List Event) (lines : List SeenLine) → LinesFit caller 0 events lines →
    forks_in c (calls_of events lines) ≡ count_by (is_fork_of c) events
counted caller c events lines fit = kept caller (Counted c) (keeps_counted caller c) events lines fit

-- if no call forks caller c, `fork_point` finds no fork
pub none_found : (c : ℕ) (calls : List Call) → forks_in c calls ≡ 0 → fork_point c calls ≡ None
none_found c [] none = refl
none_found c (alone (Fork child) line ∷ calls) none = go (child == c) none (λ rest. none_found c calls rest)
  where
    go : (b : Bool) → hit b + forks_in c calls ≡ 0 → (forks_in c calls ≡ 0 → fork_point c calls ≡ None) →
        (if b then Some (record { before = []; line = line }) else with_call_before (alone (Fork child) line)
        (fork_point c calls)) ≡ None
    go true none rest = absurd (omega arith)
    go false none rest = ap (with_call_before (alone (Fork child) line)) (rest (omega arith))
none_found c (call ∷ calls) none = ap (with_call_before call) (none_found c calls none)

-- if a call forks caller c, and no earlier call does, `fork_point` finds this call
pub found : (c : ℕ) (before : List Call) (line : SeenLine) (after : List Call) → forks_in c before ≡ 0 →
    fork_point c (before ++ alone (Fork c) line ∷ after) ≡ Some (record { before = before; line = line })
found c [] line after none =
    let P : Bool → Type 0 = λ b.
    (if b then Some (record { before = []; line = line }) else with_call_before (alone (Fork c) line)
    (fork_point c after)) ≡ Some (record { before = []; line = line }) in
    subst P (sym (eq-eqb c c refl)) refl
found c (alone (Fork child) l ∷ before) line after none =
    go (child == c) none (λ rest. found c before line after rest)
  where
    go : (b : Bool) → hit b + forks_in c before ≡ 0 →
        (forks_in c before ≡ 0 →
        fork_point c (before ++ alone (Fork c) line ∷ after) ≡ Some (record { before = before; line = line })) →
        (if b then Some (record { before = []; line = l }) else with_call_before (alone (Fork child) l)
        (fork_point c (before ++ alone (Fork c) line ∷ after)))
        ≡ Some (record { before = alone (Fork child) l ∷ before; line = line })
    go true none rest = absurd (omega arith)
    go false none rest = ap (with_call_before (alone (Fork child) l)) (rest (omega arith))
found c (call ∷ before) line after none = ap (with_call_before call) (found c before line after none)

forks_append : (c : ℕ) (xs ys : List Call) → forks_in c (xs ++ ys) ≡ forks_in c xs + forks_in c ys
forks_append c [] ys = omega arith
forks_append c (alone (Fork child) line ∷ xs) ys = let rest = forks_append c xs ys in omega arith
forks_append c (call ∷ xs) ys = forks_append c xs ys

-- one of `calls` forks caller c: this call comes after `fork.before`, and has the line `fork.line`
pub record ForksAt (c : ℕ) (calls : List Call) (fork : ForkPoint) : Type 0 where
  pub after : List Call
  pub is : calls ≡ fork.before ++ alone (Fork c) fork.line ∷ after

forked_once : (c : ℕ) (calls : List Call) (fork : ForkPoint) → ForksAt c calls fork →
    (1 ≤ forks_in c calls) × (forks_in c calls ≤ 1 → fork_point c calls ≡ Some fork)
forked_once c calls fork f =
    let sum = ap (forks_in c) f.is ∙ forks_append c fork.before (alone (Fork c) fork.line ∷ f.after) in
    let one = hit_same c c refl in (
      omega (arith, one),
      (λ most. ap (fork_point c) f.is ∙ found c fork.before fork.line f.after (omega (arith, one))),
    )

-- if a fact holds for each element of a list, it holds for any one of them
pub each_of : {X : Type 0} (P : X → Type 0) (x : X) (xs : List X) → AllByRecursion P xs → IsOneOf x xs → P x
each_of P x [] all here = absurd here
each_of P x (y ∷ ys) all (inl same) = subst P same all.0
each_of P x (y ∷ ys) all (inr rest) = each_of P x ys all.1 rest

some_forked : (c k : ℕ) (callers : List (List Event)) (runs : List Run) (p : Run) (kid : Start) →
    EachCaller HasRun k callers runs → IsOneOf p runs → IsOneOf kid p.kids →
    1 ≤ sum_by (count_by (is_fork_of kid.caller)) callers
some_forked c k [] [] p kid each here there = absurd here
some_forked c k [] (r ∷ rs) p kid each here there = absurd each
some_forked c k (es ∷ callers) [] p kid each here there = absurd each
some_forked c k (es ∷ callers) (r ∷ rs) p kid each (inl same) there =
    let f : Forked r.begun r.end (calls_of es r.lines) kid =
    each_of (Forked r.begun r.end (calls_of es r.lines)) kid r.kids each.0.ended.forked
    (subst (λ (q : Run). IsOneOf kid q.kids) (sym same) there) in
    let one = (forked_once kid.caller (calls_of es r.lines) (record { before = f.before; line = f.line })
    (record { after = f.after; is = f.calls_are })).0 in
    let many = counted r.begun.caller kid.caller es r.lines each.0.ended.fit in
    let all = sum_by-cons (count_by (is_fork_of kid.caller)) es callers in omega arith
some_forked c k (es ∷ callers) (r ∷ rs) p kid each (inr rest) there =
    let more = some_forked c (suc k) callers rs p kid each.1 rest there in
    let all = sum_by-cons (count_by (is_fork_of kid.caller)) es callers in omega arith

-- `parent_from` finds p as the parent of the child `kid`, which p forked; k is the number of the first of `callers`
pub record ParentIs (k : ℕ) (callers : List (List Event)) (runs : List Run) (p : Run) (kid : Start) : Type 0 where
  pub calls : List Call
  pub forked : Forked p.begun p.end calls kid
  pub is : parent_from kid.caller k (all_calls callers (lines_of_all runs))
      ≡ Some (record { caller = p.begun.caller; fork = record { before = forked.before; line = forked.line } })

pub parent_is : (k : ℕ) (callers : List (List Event)) (runs : List Run) (p : Run) (kid : Start) →
    EachCaller HasRun k callers runs → IsOneOf p runs → IsOneOf kid p.kids →
    sum_by (count_by (is_fork_of kid.caller)) callers ≤ 1 → ParentIs k callers runs p kid
parent_is k [] [] p kid each here there most = absurd here
parent_is k [] (r ∷ rs) p kid each here there most = absurd each
parent_is k (es ∷ callers) [] p kid each here there most = absurd each
parent_is k (es ∷ callers) (r ∷ rs) p kid each (inl same) there most =
    let f : Forked p.begun p.end (calls_of es p.lines) kid =
    subst (λ (q : Run). Forked q.begun q.end (calls_of es q.lines) kid) same
    (each_of (Forked r.begun r.end (calls_of es r.lines)) kid r.kids each.0.ended.forked
    (subst (λ (q : Run). IsOneOf kid q.kids) (sym same) there)) in
    let once = forked_once kid.caller (calls_of es p.lines) (record { before = f.before; line = f.line })
    (record { after = f.after; is = f.calls_are }) in
    let many = counted r.begun.caller kid.caller es r.lines each.0.ended.fit in
    let e = ap (λ (q : Run). forks_in kid.caller (calls_of es q.lines)) same in
    let all = sum_by-cons (count_by (is_fork_of kid.caller)) es callers in
    let at : fork_point kid.caller (calls_of es r.lines) ≡ Some (record { before = f.before; line = f.line }) =
    ap (λ (q : Run). fork_point kid.caller (calls_of es q.lines)) same ∙ once.1 (omega arith) in
    record {
      calls = calls_of es p.lines;
      forked = f;
      is = ap (λ o. parent_here k o (parent_from kid.caller (suc k) (all_calls callers (lines_of_all rs)))) at
          ∙ ap (λ (n : ℕ). Some (record { caller = n; fork = record { before = f.before; line = f.line } }))
          (sym each.0.own ∙ ap (λ (q : Run). q.begun.caller) same);
    }
parent_is k (es ∷ callers) (r ∷ rs) p kid each (inr rest) there most =
    let all = sum_by-cons (count_by (is_fork_of kid.caller)) es callers in
    let more : ParentIs (suc k) callers rs p kid = parent_is (suc k) callers rs p kid each.1 rest there (omega arith) in
    let some = some_forked kid.caller (suc k) callers rs p kid each.1 rest there in
    let many = counted r.begun.caller kid.caller es r.lines each.0.ended.fit in
    let none : fork_point kid.caller (calls_of es r.lines) ≡ None =
    none_found kid.caller (calls_of es r.lines) (omega arith) in
    record {
      calls = more.calls;
      forked = more.forked;
      is = ap (λ o. parent_here k o (parent_from kid.caller (suc k) (all_calls callers (lines_of_all rs)))) none
          ∙ more.is;
    }

-- if no event forks caller c, `parent_from` finds no parent for c
pub no_parent : (c k : ℕ) (callers : List (List Event)) (runs : List Run) → EachCaller HasRun k callers runs →
    sum_by (count_by (is_fork_of c)) callers ≡ 0 →
    parent_from c k (all_calls callers (lines_of_all runs)) ≡ None
no_parent c k [] [] each none = refl
no_parent c k [] (r ∷ rs) each none = absurd each
no_parent c k (es ∷ callers) [] each none = absurd each
no_parent c k (es ∷ callers) (r ∷ rs) each none =
    let all = sum_by-cons (count_by (is_fork_of c)) es callers in
    let many = counted r.begun.caller c es r.lines each.0.ended.fit in
    ap (λ o. parent_here k o (parent_from c (suc k) (all_calls callers (lines_of_all rs))))
    (none_found c (calls_of es r.lines) (omega arith))
    ∙ no_parent c (suc k) callers rs each.1 (omega arith)
