-- Answers and data do not change the calls, marks, orders and settings that lines make. A bare line has the answer `Ok`
-- and no data in place of the line's own.
use Rattle.std.proofs.Common.{◌≡◌, ℕ, zero, suc, Bool, true, false, Option, Some, None, List, [], ◌∷◌, ◌++◌, length, map, refl, sym, ap, ◌∙◌}
use Rattle.std.specs.Prelude.{◌==◌, take, drop, if◌then◌else◌}
use Rattle.std.specs.List.{fold, flat_map}
use Rattle.std.proofs.lemmas.List.{map-append, length-map}
use Rattle.key_names.specs.declared.names.Step.{Step}
use Rattle.key_names.specs.declared.events.Event.{Event}
use Rattle.key_names.specs.declared.events.Event.TheVariants.{Vread, Inside, Fork}
use Rattle.key_names.specs.declared.point.Point.{Point}
use Rattle.key_names.specs.declared.point.Point.TheVariants.{Start, Written, Serve, End}
use Rattle.key_names.specs.Kernel.Points.{is_same_point}
use Rattle.key_names.specs.Lanes.Book.{list_at}
use Rattle.key_names.specs.Callers.Calls.{Setting, Call, alone, vread_call, unbound, ending, BoundAct, has_vread, calls_from}
use Rattle.key_names.specs.Callers.Calls.{all_calls, setting_after_call, ForkPoint, with_call_before, fork_point}
use Rattle.key_names.specs.Callers.Calls.{Parent, parent_here, parent_from, setting_of, inherited_setting, first_settings}
use Rattle.key_names.specs.Callers.History.{through_visit, steps_at_point, cut_after_rekey, call_steps, calls_steps}
use Rattle.key_names.specs.Callers.History.{inherited_steps, ancestors_steps, orders_from, caller_orders}
use Rattle.key_names.specs.Transcripts.IsTranscript.{MarkBy, line_marks, all_marks, start_setting}
use Rattle.key_names.specs.Transcripts.SeenLine.{SeenLine}
use Rattle.key_names.specs.Transcripts.SameSteps.{bare}

abbrev pub bare_act : BoundAct → BoundAct
bare_act bound = record { point = bound.point; act = bound.act; line = bare bound.line }

abbrev pub bare_call : Call → Call
bare_call (alone event line) = alone event (bare line)
bare_call (vread_call n flags line acts) = vread_call n flags (bare line) (map bare_act acts)
bare_call (unbound bound) = unbound (bare_act bound)
bare_call (ending line) = ending (bare line)

-- If lines are made bare, the calls that they make become bare, and do not change otherwise

inside : (b : Bool) (bound : BoundAct) (calls later bare_calls bare_later : List Call) →
    bare_calls ≡ map bare_call calls → bare_later ≡ map bare_call later →
    (if b then bare_calls else unbound (bare_act bound) ∷ bare_later)
    ≡ map bare_call (if b then calls else unbound bound ∷ later)
inside true bound calls later bare_calls bare_later p q = p
inside false bound calls later bare_calls bare_later p q = ap (λ cs. unbound (bare_act bound) ∷ cs) q

bare_calls : (waiting : List BoundAct) (events : List Event) (lines : List SeenLine) →
    calls_from (map bare_act waiting) events (map bare lines) ≡ map bare_call (calls_from waiting events lines)
bare_calls waiting [] [] = refl
bare_calls waiting [] (line ∷ lines) = refl
bare_calls waiting (event ∷ es) [] = refl
bare_calls waiting (Vread n flags ∷ es) (line ∷ lines) =
    ap (λ cs. vread_call n flags (bare line) (map bare_act waiting) ∷ cs) (bare_calls [] es lines)
bare_calls waiting (Inside point act ∷ es) (line ∷ lines) =
    let bound : BoundAct = record { point = point; act = act; line = line } in
    inside (has_vread es) bound (calls_from (waiting ++ bound ∷ []) es lines) (calls_from waiting es lines)
    (calls_from (map bare_act waiting ++ bare_act bound ∷ []) es (map bare lines))
    (calls_from (map bare_act waiting) es (map bare lines))
    (ap (λ w. calls_from w es (map bare lines)) (sym (map-append bare_act waiting (bound ∷ [])))
    ∙ bare_calls (waiting ++ bound ∷ []) es lines)
    (bare_calls waiting es lines)
bare_calls waiting (event ∷ es) (line ∷ lines) =
    ap (λ cs. alone event (bare line) ∷ cs) (bare_calls waiting es lines)

pub bare_all : (callers : List (List Event)) (t : List (List SeenLine)) →
    all_calls callers (map (map bare) t) ≡ map (map bare_call) (all_calls callers t)
bare_all [] t = refl
bare_all (es ∷ callers) [] = λ i. bare_calls [] es [] i ∷ bare_all callers [] i
bare_all (es ∷ callers) (lines ∷ t) = λ i. bare_calls [] es lines i ∷ bare_all callers t i

-- A bare line has the same marks as the line

lines_marks : (lines : List SeenLine) → flat_map line_marks (map bare lines) ≡ flat_map line_marks lines
lines_marks [] = refl
lines_marks (line ∷ lines) = ap (λ (ms : List MarkBy). line_marks line ++ ms) (lines_marks lines)

pub bare_marks : (t : List (List SeenLine)) → all_marks (map (map bare) t) ≡ all_marks t
bare_marks [] = refl
bare_marks (lines ∷ t) = λ i. lines_marks lines i ++ bare_marks t i

-- A bare call has the same steps as the call

bare_at_point : (acts : List BoundAct) (p : Point) → steps_at_point (map bare_act acts) p ≡ steps_at_point acts p
bare_at_point [] p = refl
bare_at_point (b ∷ acts) p =
    ap (λ (rest : List Step). if is_same_point b.point p then b.line.steps ++ rest else rest) (bare_at_point acts p)

pub bare_steps : (c : Call) → call_steps (bare_call c) ≡ call_steps c
bare_steps (alone event line) = refl
bare_steps (vread_call n flags line acts) =
    let cut : List Step × List Step = cut_after_rekey (drop 2 line.steps) in
    λ i. take 2 line.steps ++ bare_at_point acts Start i ++ bare_at_point acts Written i ++ cut.0 ++ bare_at_point acts Serve i
    ++ bare_at_point acts End i ++ cut.1
bare_steps (unbound bound) = refl
bare_steps (ending line) = refl

pub bare_calls_steps : (cs : List Call) → calls_steps (map bare_call cs) ≡ calls_steps cs
bare_calls_steps [] = refl
bare_calls_steps (c ∷ cs) = λ i. bare_steps c i ++ bare_calls_steps cs i

-- If calls are made bare, their forks and parents have bare calls and lines, and do not change otherwise

abbrev bare_fork : ForkPoint → ForkPoint
bare_fork fork = record { before = map bare_call fork.before; line = bare fork.line }

abbrev bare_point : Option ForkPoint → Option ForkPoint
bare_point None = None
bare_point (Some fork) = Some (bare_fork fork)

with_bare : (c : Call) (o : Option ForkPoint) →
    with_call_before (bare_call c) (bare_point o) ≡ bare_point (with_call_before c o)
with_bare c None = refl
with_bare c (Some fork) = refl

forks_alike : (c : ℕ) (cs : List Call) → fork_point c (map bare_call cs) ≡ bare_point (fork_point c cs)
forks_alike c [] = refl
forks_alike c (alone (Fork child) line ∷ cs) = by (child == c) (forks_alike c cs)
  where
    by : (b : Bool) → fork_point c (map bare_call cs) ≡ bare_point (fork_point c cs) →
        (if b then Some (record { before = []; line = bare line }) else with_call_before (alone (Fork child) (bare line))
        (fork_point c (map bare_call cs)))
        ≡ bare_point (if b then Some (record { before = []; line = line }) else with_call_before (alone (Fork child) line)
        (fork_point c cs))
    by true rest = refl
    by false rest = ap (with_call_before (alone (Fork child) (bare line))) rest
        ∙ with_bare (alone (Fork child) line) (fork_point c cs)
forks_alike c (call ∷ cs) = ap (with_call_before (bare_call call)) (forks_alike c cs) ∙ with_bare call (fork_point c cs)

abbrev bare_parent : Option Parent → Option Parent
bare_parent None = None
bare_parent (Some parent) = Some (record { caller = parent.caller; fork = bare_fork parent.fork })

here_bare : (p : ℕ) (o : Option ForkPoint) (later : Option Parent) →
    parent_here p (bare_point o) (bare_parent later) ≡ bare_parent (parent_here p o later)
here_bare p None later = refl
here_bare p (Some fork) later = refl

parents_alike : (c p : ℕ) (callers : List (List Call)) →
    parent_from c p (map (map bare_call) callers) ≡ bare_parent (parent_from c p callers)
parents_alike c p [] = refl
parents_alike c p (cs ∷ callers) =
    (λ i. parent_here p (forks_alike c cs i) (parents_alike c (suc p) callers i))
    ∙ here_bare p (fork_point c cs) (parent_from c (suc p) callers)

-- If the calls of callers are made bare, the callers' orders stay the same

inherited_alike : (ancestors : List (List Step)) (o : Option Parent) →
    inherited_steps ancestors (bare_parent o) ≡ inherited_steps ancestors o
inherited_alike ancestors None = refl
inherited_alike ancestors (Some parent) =
    λ i. list_at ancestors parent.caller ++ bare_calls_steps parent.fork.before i ++ through_visit parent.fork.line.steps

ancestors_alike : (callers : List (List Call)) (n : ℕ) →
    ancestors_steps (map (map bare_call) callers) n ≡ ancestors_steps callers n
ancestors_alike callers zero = refl
ancestors_alike callers (suc n) =
    let rest : ancestors_steps (map (map bare_call) callers) n ≡ ancestors_steps callers n = ancestors_alike callers n in
    let one : inherited_steps (ancestors_steps (map (map bare_call) callers) n)
    (parent_from n 0 (map (map bare_call) callers)) ≡ inherited_steps (ancestors_steps callers n) (parent_from n 0 callers) =
    (λ i. inherited_steps (rest i) (parents_alike n 0 callers i))
    ∙ inherited_alike (ancestors_steps callers n) (parent_from n 0 callers) in
    λ i. rest i ++ one i ∷ []

orders_alike : (ancestors : List (List Step)) (callers : List (List Call)) →
    orders_from ancestors (map (map bare_call) callers) ≡ orders_from ancestors callers
orders_alike ancestors [] = refl
orders_alike [] (cs ∷ callers) = λ i. bare_calls_steps cs i ∷ orders_alike [] callers i
orders_alike (before ∷ ancestors) (cs ∷ callers) =
    λ i. (before ++ bare_calls_steps cs i) ∷ orders_alike ancestors callers i

pub bare_orders : (callers : List (List Call)) →
    caller_orders (map (map bare_call) callers) ≡ caller_orders callers
bare_orders callers =
    ap (λ (n : ℕ). orders_from (ancestors_steps (map (map bare_call) callers) n) (map (map bare_call) callers))
    (length-map callers (map bare_call))
    ∙ ap (λ (a : List (List Step)). orders_from a (map (map bare_call) callers))
    (ancestors_alike callers (length callers))
    ∙ orders_alike (ancestors_steps callers (length callers)) callers

-- If the calls of callers are made bare, the callers' settings stay the same

one_setting : (set : Setting) (c : Call) → setting_after_call set (bare_call c) ≡ setting_after_call set c
one_setting set (alone event line) = refl
one_setting set (vread_call n flags line acts) = refl
one_setting set (unbound bound) = refl
one_setting set (ending line) = refl

settings_alike : (set : Setting) (cs : List Call) →
    fold setting_after_call set (map bare_call cs) ≡ fold setting_after_call set cs
settings_alike set [] = refl
settings_alike set (c ∷ cs) =
    ap (λ (s : Setting). fold setting_after_call s (map bare_call cs)) (one_setting set c)
    ∙ settings_alike (setting_after_call set c) cs

inherits_alike : (sets : List Setting) (o : Option Parent) →
    inherited_setting sets (bare_parent o) ≡ inherited_setting sets o
inherits_alike sets None = refl
inherits_alike sets (Some parent) = settings_alike (setting_of sets parent.caller) parent.fork.before

first_alike : (callers : List (List Call)) (n : ℕ) →
    first_settings (map (map bare_call) callers) n ≡ first_settings callers n
first_alike callers zero = refl
first_alike callers (suc n) =
    let rest : first_settings (map (map bare_call) callers) n ≡ first_settings callers n = first_alike callers n in
    let one : inherited_setting (first_settings (map (map bare_call) callers) n)
    (parent_from n 0 (map (map bare_call) callers)) ≡ inherited_setting (first_settings callers n) (parent_from n 0 callers) =
    (λ i. inherited_setting (rest i) (parents_alike n 0 callers i))
    ∙ inherits_alike (first_settings callers n) (parent_from n 0 callers) in
    λ i. rest i ++ one i ∷ []

pub bare_setting : (callers : List (List Call)) (c : ℕ) →
    start_setting (map (map bare_call) callers) c ≡ start_setting callers c
bare_setting callers c =
    ap (λ (n : ℕ). setting_of (first_settings (map (map bare_call) callers) n) c) (length-map callers (map bare_call))
    ∙ ap (λ (sets : List Setting). setting_of sets c) (first_alike callers (length callers))
