-- The clauses on a transcript's marks (each visit's lane, place and stamp) and looks (reads of the generation), decided
-- by computing.
use Rattle.std.proofs.lemmas.Bool.Decides.{nat_tests}
use Rattle.std.proofs.Common.{◌≡◌, ◌<◌, ◌≤◌, ℕ, zero, suc, Bool, true, false, leb, Option, Some, None, List, [], ◌∷◌}
use Rattle.std.proofs.Common.{◌++◌}
use Rattle.std.proofs.Common.{refl, max, length, count_by, ◌==◌, arith, subst}
use Rattle.std.specs.Prelude.{⊤}
use Rattle.std.specs.List.{AllByRecursion, range_with_len}
use Rattle.key_names.specs.declared.names.LaneId.{LaneId}
use Rattle.key_names.specs.declared.names.LaneId.TheVariants.{Pool as PoolLane, Base as BaseLane, Cpu as CpuLane}
use Rattle.key_names.specs.declared.names.Mark.{Mark}
use Rattle.key_names.specs.Lanes.BaseList.{base_after}
use Rattle.key_names.specs.Lanes.Book.{Lists}
use Rattle.key_names.specs.Callers.Effects.{Effect, looked, at_pool, at_base, at_cpu, nothing_there, effects_of}
use Rattle.key_names.specs.Callers.History.{caller_orders, stamps_of, LookConforms, LooksConform, seen}
use Rattle.key_names.specs.Texts.ScriptGrammar.{Script}
use Rattle.key_names.specs.Transcripts.SeenLine.{SeenLine}
use Rattle.key_names.specs.Transcripts.IsTranscript.{MarkBy, PlacesConform, MarksConform, SeenConforms, Rises, all_marks, lane_marks}
use Rattle.key_names.specs.Transcripts.IsTranscript.{is_same_lane, script_calls}
use Rattle.worked_cases.proofs.Decided.{Decided, yes, no, both, implied, likewise, each, found_by, same_number, at_most}
use Rattle.worked_cases.proofs.Decided.{below}

abbrev places_conform : (marks : List Mark) → Decided (PlacesConform marks)
places_conform marks = likewise (λ h. record { once = h.0; rise = h.1 }) (λ p. (p.once, p.rise)) (both
    (each (λ place. same_number (count_by (λ mark. mark.place == place) marks) 1) (range_with_len 0 (length marks)))
    (each (λ a. each (λ b. implied (below a.place b.place) (below a.stamp b.stamp)) marks) marks))

-- ---- The marks of every CPU

abbrev CpuBelow : ℕ → LaneId → Type 0
CpuBelow n (CpuLane c) = c < n
CpuBelow n lane = ⊤

abbrev cpu_below : (n : ℕ) (lane : LaneId) → Decided (CpuBelow n lane)
cpu_below n (CpuLane c) = below c n
cpu_below n PoolLane = yes tt
cpu_below n BaseLane = yes tt

lower_is_other : (d c : ℕ) → d < c → (d == c) ≡ false
lower_is_other d c lt = grind (arith, nat_tests)

other_lane : (n c : ℕ) (lane : LaneId) → CpuBelow n lane → n ≤ c → is_same_lane lane (CpuLane c) ≡ false
other_lane n c PoolLane is le = refl
other_lane n c BaseLane is le = refl
other_lane n c (CpuLane d) is le = lower_is_other d c (omega (arith, is, le))

no_marks : (n c : ℕ) (marks : List MarkBy) → AllByRecursion (λ by. CpuBelow n by.mark.lane) marks → n ≤ c →
    lane_marks (CpuLane c) marks ≡ []
no_marks n c [] all le = refl
no_marks n c (by ∷ marks) all le = rw (other_lane n c by.mark.lane all.0 le) (no_marks n c marks all.1 le)

pub nothing_below : (P : ℕ → Type 0) (c : ℕ) → c < 0 → P c
nothing_below P c lt = absurd (omega arith)

pub one_more : (P : ℕ → Type 0) (n : ℕ) → P n → ((c : ℕ) → c < n → P c) → (c : ℕ) → c < suc n → P c
one_more P n here rest c lt = by (c == n) refl
  where
    by : (b : Bool) → (c == n) ≡ b → P c
    by true e = subst P (let s : n ≡ c = grind (arith, nat_tests) in s) here
    by false e = rest c (let lower : c < n = grind (arith, nat_tests) in lower)

pub up_to : (P : ℕ → Type 0) (n : ℕ) → ((c : ℕ) → c < suc n → P c) → P n × ((c : ℕ) → c < n → P c)
up_to P n f = (f n (omega arith), λ c lt. f c (omega arith))

abbrev each_below : (P : ℕ → Type 0) → ((c : ℕ) → Decided (P c)) → (n : ℕ) → Decided ((c : ℕ) → c < n → P c)
each_below P d zero = yes (nothing_below P)
each_below P d (suc n) = likewise (λ h. one_more P n h.0 h.1) (up_to P n) (both (d n) (each_below P d n))

abbrev cpu_bound : List MarkBy → ℕ
cpu_bound [] = 0
cpu_bound (by ∷ marks) = max (of_lane by.mark.lane) (cpu_bound marks)
  where
    of_lane : LaneId → ℕ
    of_lane (CpuLane c) = suc c
    of_lane PoolLane = 0
    of_lane BaseLane = 0

pub by_lane : (marks : List MarkBy) (n : ℕ) → AllByRecursion (λ by. CpuBelow n by.mark.lane) marks →
    PlacesConform (lane_marks PoolLane marks) → PlacesConform (lane_marks BaseLane marks) →
    ((c : ℕ) → c < n → PlacesConform (lane_marks (CpuLane c) marks)) →
    (lane : LaneId) → PlacesConform (lane_marks lane marks)
by_lane marks n all pool base cpus PoolLane = pool
by_lane marks n all pool base cpus BaseLane = base
by_lane marks n all pool base cpus (CpuLane c) = by (leb n c) refl
  where
    by : (b : Bool) → leb n c ≡ b → PlacesConform (lane_marks (CpuLane c) marks)
    by true e = rw (no_marks n c marks all (let le : n ≤ c = grind (arith, nat_tests) in le))
        (record { once = tt; rise = tt })
    by false e = cpus c (let lt : c < n = grind (arith, nat_tests) in lt)

-- if `n` is above the number of each CPU that has a mark, decides whether the places of all lanes meet `PlacesConform`;
-- otherwise the result is none
abbrev lanes_from : (marks : List MarkBy) (n : ℕ) → Decided (AllByRecursion (λ by. CpuBelow n by.mark.lane) marks) →
    Option (Decided ((lane : LaneId) → PlacesConform (lane_marks lane marks)))
lanes_from marks n (no p) = None
lanes_from marks n (yes all) = Some (likewise (λ h. by_lane marks n all h.0 h.1.0 h.1.1)
    (λ f. (f PoolLane, (f BaseLane, λ c lt. f (CpuLane c))))
    (both (places_conform (lane_marks PoolLane marks)) (both (places_conform (lane_marks BaseLane marks))
    (each_below (λ c. PlacesConform (lane_marks (CpuLane c) marks)) (λ c. places_conform (lane_marks (CpuLane c) marks))
    n))))

abbrev rises : (stamps : List ℕ) → Decided (Rises stamps)
rises [] = yes tt
rises (a ∷ []) = yes tt
rises (a ∷ b ∷ rest) = both (below a b) (rises (b ∷ rest))

abbrev pub marks_conform : (script : Script) (t : List (List SeenLine)) → Option (Decided (MarksConform script t))
marks_conform script t = found_by (λ lanes. likewise (λ h. record { lanes = h.0; callers = h.1 })
    (λ m. (m.lanes, m.callers))
    (both lanes (each (λ order. rises (stamps_of order)) (caller_orders (script_calls script t)))))
    (lanes_from (all_marks t) (cpu_bound (all_marks t))
    (each (λ by. cpu_below (cpu_bound (all_marks t)) by.mark.lane) (all_marks t)))

-- ---- Looks: reads of the generation

abbrev look_conforms : (reseeds before : ℕ) (effect : Effect) → Decided (LookConforms reseeds before effect)
look_conforms reseeds before (looked g) = both (at_most before g) (at_most g reseeds)
look_conforms reseeds before (at_pool v) = yes tt
look_conforms reseeds before (at_base v) = yes tt
look_conforms reseeds before (at_cpu v) = yes tt
look_conforms reseeds before nothing_there = yes tt

abbrev looks_conform : (reseeds : ℕ) (before effects : List Effect) → Decided (LooksConform reseeds before effects)
looks_conform reseeds before [] = yes tt
looks_conform reseeds before (effect ∷ effects) =
    both (look_conforms reseeds (seen before) effect) (looks_conform reseeds (before ++ effect ∷ []) effects)

abbrev pub seen_conforms : (script : Script) (t : List (List SeenLine)) (lists : Lists) →
    Decided (SeenConforms script t lists)
seen_conforms script t lists = each (λ order. looks_conform (base_after lists.base).generation [] (effects_of lists order))
    (caller_orders (script_calls script t))
