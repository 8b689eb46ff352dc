-- A vgetrandom call can take a read as a key or as its own answer. Both together happen at most as often as the call's
-- steps contain the read.
use Rattle.std.proofs.Common.{◌≡◌, ℕ, zero, suc, ◌+◌, ◌≤◌, Bool, true, false, cond, List, [], ◌∷◌, ◌++◌, refl, ap, ◌∙◌, arith, Some, None, Option}
use Rattle.std.specs.Prelude.{◌==◌, ◌&&◌, if◌then◌else◌}
use Rattle.key_names.specs.declared.entries.VEntry.{VEntry}
use Rattle.key_names.specs.declared.entries.VEntry.TheVariants.{Rekey, Blocks, Refill, Serve, Wipe}
use Rattle.key_names.specs.declared.point.Point.{Point}
use Rattle.key_names.specs.declared.point.Point.TheVariants.{Start, Written, Serve as ServePoint, End}
use Rattle.key_names.specs.Callers.Calls.{Setting}
use Rattle.key_names.specs.Callers.Effects.{Effect, looked, at_pool, at_base, at_cpu, nothing_there}
use Rattle.key_names.specs.Kernel.Flags.{is_bad}
use Rattle.key_names.specs.Kernel.VgetrandomState.{VgetrandomState, state_left}
use Rattle.key_names.specs.Kernel.BatchCopy.{has_left, bytes_left, whole_blocks, new_batch_bytes, copy_bytes, state_after_copy, block_after_copy, serve_entry, refill_entries, copy_entries}
use Rattle.key_names.specs.Kernel.Vgetrandom.{CpuPlace, SystemAnswer, read, failed, HostStep, publishes, system_call, at_point, AttemptEnd, holds, outdated, not_keyed, Attempt, Ending, no_bytes, by_batch, by_system, wipe_entry, rekey_entry, AtPoint, FromEnd, FromServe, AfterKeyRead, FromWritten, FromStart, IsAttempt, Outcome, BySystem, ByNothing, AfterAttempt, AttemptAndRest, AfterBoth, state_after_call, SecondAttempt, FirstAttempt, FromPublished, FromLook, IsCall}
use Rattle.key_names.specs.Callers.VreadSteps.{place_of, last_place, answer_with, answer_after, errno_of, Shows}
use Rattle.key_names.specs.declared.errno.Errno.{Errno}
use Rattle.key_names.specs.Callers.Answers.{system_answer}
use Rattle.key_names.proofs.Vgetrandom.CallsKeep.{match_cases}

-- These functions count how often the read at place `p` of CPU `c` occurs.
module _ (c p : ℕ) where
  abbrev pub is_here : ℕ → ℕ → ℕ
  is_here cpu place = cond (cpu == c && place == p) 1 0

  -- how many of the entries take the read as a key
  abbrev pub takes : List VEntry → ℕ
  takes [] = 0
  takes (Rekey cpu place ∷ es) = is_here cpu place + takes es
  takes (Blocks from count ∷ es) = takes es
  takes (Refill from ∷ es) = takes es
  takes (Serve pos len ∷ es) = takes es
  takes (Wipe ∷ es) = takes es

  pub takes_append : (xs ys : List VEntry) → takes (xs ++ ys) ≡ takes xs + takes ys
  takes_append [] ys = omega arith
  takes_append (Rekey cpu place ∷ xs) ys = let rest : takes (xs ++ ys) ≡ takes xs + takes ys = takes_append xs ys in
      omega arith
  takes_append (Blocks from count ∷ xs) ys = takes_append xs ys
  takes_append (Refill from ∷ xs) ys = takes_append xs ys
  takes_append (Serve pos len ∷ xs) ys = takes_append xs ys
  takes_append (Wipe ∷ xs) ys = takes_append xs ys

  abbrev pub place_takes : Option CpuPlace → ℕ
  place_takes None = 0
  place_takes (Some at) = is_here at.cpu at.place

  abbrev pub answer_takes : SystemAnswer → ℕ
  answer_takes (failed errno) = 0
  answer_takes (read bytes visit) = place_takes visit

  -- how many of the host's system calls have the read as their answer
  abbrev pub step_takes : List HostStep → ℕ
  step_takes [] = 0
  step_takes (publishes g ∷ steps) = step_takes steps
  step_takes (at_point point wiped ∷ steps) = step_takes steps
  step_takes (system_call n flags answer ∷ steps) = answer_takes answer + step_takes steps

  pub step_append : (xs ys : List HostStep) → step_takes (xs ++ ys) ≡ step_takes xs + step_takes ys
  step_append [] ys = omega arith
  step_append (publishes g ∷ xs) ys = step_append xs ys
  step_append (at_point point wiped ∷ xs) ys = step_append xs ys
  step_append (system_call n flags answer ∷ xs) ys =
      let rest : step_takes (xs ++ ys) ≡ step_takes xs + step_takes ys = step_append xs ys in omega arith

  wipe_takes : (b : Bool) → takes (wipe_entry b) ≡ 0
  wipe_takes true = refl
  wipe_takes false = refl

  rekey_takes : (visit : Option CpuPlace) → takes (rekey_entry visit) ≡ place_takes visit
  rekey_takes None = refl
  rekey_takes (Some at) = omega arith

  serve_takes : (pos n : ℕ) → takes (serve_entry pos n) ≡ 0
  serve_takes pos zero = refl
  serve_takes pos (suc n) = refl

  refill_takes : (from m r : ℕ) → takes (refill_entries from m r) ≡ 0
  refill_takes from zero r = serve_takes 0 r
  refill_takes from (suc m) r = serve_takes 0 r

  pub copy_takes : (s : VgetrandomState) (from n : ℕ) → takes (copy_entries s from n) ≡ 0
  copy_takes s from n = go (has_left s n)
    where
      go : (b : Bool) → takes (if b then serve_entry s.pos n else serve_entry s.pos
          (bytes_left s) ++ refill_entries from (whole_blocks s n) (new_batch_bytes s n)) ≡ 0
      go true = serve_takes s.pos n
      go false =
          let a : takes (serve_entry s.pos (bytes_left s)) ≡ 0 = serve_takes s.pos (bytes_left s) in
          let b : takes (refill_entries from (whole_blocks s n) (new_batch_bytes s n)) ≡ 0 =
          refill_takes from (whole_blocks s n) (new_batch_bytes s n) in
          takes_append (serve_entry s.pos (bytes_left s))
          (refill_entries from (whole_blocks s n) (new_batch_bytes s n)) ∙ omega arith

  -- an attempt's entries take the read as a key at most as often as the attempt's steps contain the read
  pub record Bounded (steps : List HostStep) (attempt : Attempt) : Type 0 where
    pub is : takes attempt.entries ≤ step_takes steps

  after_bounded : (steps rest : List HostStep) (es : List VEntry) (attempt after : Attempt) →
      attempt ≡ record after { entries = es ++ after.entries } →
      takes es + step_takes rest ≤ step_takes steps → Bounded rest after → Bounded steps attempt
  after_bounded steps rest es attempt after is le b = record {
    is = (let e : takes attempt.entries ≡ takes (es ++ after.entries) = ap (λ (a : Attempt). takes a.entries) is in
        let s : takes (es ++ after.entries) ≡ takes es + takes after.entries = takes_append es after.entries in
        let h = b.is in omega arith);
  }

  point_bounded : (point : Point) (GoesOn : VgetrandomState → List HostStep → Attempt → Type 0) (s : VgetrandomState)
      (steps : List HostStep) (attempt : Attempt) →
      ((r : VgetrandomState) (rest : List HostStep) (after : Attempt) → GoesOn r rest after → Bounded rest after) →
      AtPoint point GoesOn s steps attempt → Bounded steps attempt
  point_bounded point GoesOn s steps attempt on at =
      let none : takes (wipe_entry at.wiped) ≡ 0 = wipe_takes at.wiped in
      let same : step_takes steps ≡ step_takes at.rest = ap step_takes at.steps_are in
      after_bounded steps at.rest (wipe_entry at.wiped) attempt at.attempt_after at.attempt_is (omega arith)
      (on (state_left at.wiped s) at.rest at.attempt_after at.goes_on)

  pub serve_bounded : (n from : ℕ) (s : VgetrandomState) (steps : List HostStep) (attempt : Attempt) →
      FromServe n from s steps attempt → Bounded steps attempt
  serve_bounded n from s steps attempt f =
      let none : takes (copy_entries s from n) ≡ 0 = copy_takes s from n in
      after_bounded steps steps (copy_entries s from n) attempt f.attempt_after f.attempt_is (omega arith)
      (point_bounded End (FromEnd (copy_bytes s from n) (block_after_copy s from n)) (state_after_copy s from n)
      steps f.attempt_after
      (λ r rest after e. record {
        is =
            (let z : takes after.entries ≡ 0 = ap (λ (a : Attempt). takes a.entries) e.attempt_is in omega arith);
      })
      f.goes_on)

  pub written_bounded : (n from : ℕ) (s : VgetrandomState) (steps : List HostStep) (attempt : Attempt) →
      FromWritten n from s steps attempt → Bounded steps attempt
  written_bounded n from s steps attempt w = go w.answer w.goes_on (ap step_takes w.steps_are)
    where
      go : (answer : SystemAnswer) → AfterKeyRead n from answer s w.rest attempt →
          step_takes steps ≡ answer_takes answer + step_takes w.rest → Bounded steps attempt
      go (read key visit) k same =
          let one : takes (rekey_entry visit) ≡ place_takes visit = rekey_takes visit in
          after_bounded steps w.rest (rekey_entry visit) attempt k.attempt_after k.attempt_is (omega arith)
          (point_bounded ServePoint (FromServe n from) (record s { key = key; pos = 96 }) w.rest k.attempt_after
          (serve_bounded n from) k.goes_on)
      go (failed errno) k same = record {
        is = (let z : takes attempt.entries ≡ 0 = ap (λ (a : Attempt). takes a.entries) k.attempt_is in
            omega arith);
      }

  pub start_bounded : (n from published : ℕ) (s : VgetrandomState) (steps : List HostStep) (attempt : Attempt) →
      FromStart n from published s steps attempt → Bounded steps attempt
  start_bounded n from published s steps attempt f =
      match_cases (AtPoint ServePoint (FromServe n from) s steps attempt)
      (AtPoint Written (FromWritten n from) (record s { generation = published }) steps attempt)
      (Bounded steps attempt) (s.generation == published)
      (λ is at. point_bounded ServePoint (FromServe n from) s steps attempt (serve_bounded n from) at)
      (λ is at. point_bounded Written (FromWritten n from) (record s { generation = published }) steps attempt
      (written_bounded n from) at) f

  attempt_bounded : (n from : ℕ) (s : VgetrandomState) (steps : List HostStep) (attempt : Attempt) →
      IsAttempt n from s steps attempt → Bounded steps attempt
  attempt_bounded n from s steps attempt is =
      let same : step_takes steps ≡ step_takes is.rest = ap step_takes is.steps_are in
      let b : Bounded is.rest attempt = point_bounded Start (FromStart n from is.published) s is.rest attempt
      (start_bounded n from is.published) is.goes_on in
      record { is = (let h = b.is in omega arith) }

  -- 1 if the read is the answer of the call, else 0
  abbrev pub ending_takes : Ending → ℕ
  ending_takes no_bytes = 0
  ending_takes (by_batch out) = 0
  ending_takes (by_system answer) = answer_takes answer

  -- a call takes the read, as a key and as its own answer together, at most as often as the call's steps contain it
  pub record OutcomeBounded (steps : List HostStep) (outcome : Outcome) : Type 0 where
    pub is : takes outcome.entries + ending_takes outcome.ending ≤ step_takes steps

  abbrev outcome_takes : Outcome → ℕ
  outcome_takes o = takes o.entries + ending_takes o.ending

  none_bounded : (steps : List HostStep) (outcome by : Outcome) → outcome ≡ by → outcome_takes by ≤ step_takes steps →
      OutcomeBounded steps outcome
  none_bounded steps outcome by is le =
      record { is = (let z : outcome_takes outcome ≡ outcome_takes by = ap outcome_takes is in omega arith) }

  pub system_bounded : (n flags : ℕ) (s : VgetrandomState) (steps : List HostStep) (outcome : Outcome) →
      BySystem n flags s steps outcome → OutcomeBounded steps outcome
  system_bounded n flags s steps outcome by =
      let same : step_takes steps ≡ answer_takes by.answer + 0 = ap step_takes by.steps_are in
      none_bounded steps outcome _ by.outcome_is (omega arith)

  pub tried_bounded : (n flags : ℕ) (Outdated : ℕ → VgetrandomState → List HostStep → Outcome → Type 0)
      (Tried : List HostStep → Attempt → Type 0) (steps : List HostStep) (outcome : Outcome) →
      ((tried : List HostStep) (attempt : Attempt) → Tried tried attempt → Bounded tried attempt) →
      ((from : ℕ) (s : VgetrandomState) (rest : List HostStep) (after : Outcome) → Outdated from s rest after →
      OutcomeBounded rest after) →
      AttemptAndRest n flags Outdated Tried steps outcome → OutcomeBounded steps outcome
  tried_bounded n flags Outdated Tried steps outcome tries goes_on r =
      let a : Bounded r.tried r.attempt = tries r.tried r.attempt r.tries in
      let b : OutcomeBounded r.rest r.outcome_after = go r.attempt.end r.goes_on in
      record {
        is = (let e : takes outcome.entries ≡ takes (r.attempt.entries ++ r.outcome_after.entries) =
            ap (λ (o : Outcome). takes o.entries) r.outcome_is in
            let s : takes (r.attempt.entries ++ r.outcome_after.entries)
            ≡ takes r.attempt.entries + takes r.outcome_after.entries =
            takes_append r.attempt.entries r.outcome_after.entries in
            let t : step_takes steps ≡ step_takes (r.tried ++ r.rest) = ap step_takes r.steps_are in
            let u : step_takes (r.tried ++ r.rest) ≡ step_takes r.tried + step_takes r.rest =
            step_append r.tried r.rest in
            let v : ending_takes outcome.ending ≡ ending_takes r.outcome_after.ending =
            ap (λ (o : Outcome). ending_takes o.ending) r.outcome_is in
            let x = a.is in let y = b.is in omega arith);
      }
    where
      go : (end : AttemptEnd) → AfterAttempt n flags Outdated end r.attempt r.rest r.outcome_after →
          OutcomeBounded r.rest r.outcome_after
      go holds by = none_bounded r.rest r.outcome_after _ by.outcome_is (omega arith)
      go outdated by = goes_on r.attempt.next_block r.attempt.state r.rest r.outcome_after by
      go not_keyed by = system_bounded n flags (state_after_call r.attempt.state) r.rest r.outcome_after by

  pub second_bounded : (n flags from : ℕ) (s : VgetrandomState) (steps : List HostStep) (outcome : Outcome) →
      SecondAttempt n flags from s steps outcome → OutcomeBounded steps outcome
  second_bounded n flags from s steps outcome second =
      tried_bounded n flags (AfterBoth n flags) (IsAttempt n from s) steps outcome (attempt_bounded n from s)
      (λ d v rest after by. system_bounded n flags (state_after_call v) rest after by) second

  first_bounded : (n flags : ℕ) (s : VgetrandomState) (steps : List HostStep) (outcome : Outcome) →
      FirstAttempt n flags s steps outcome → OutcomeBounded steps outcome
  first_bounded n flags s steps outcome first =
      tried_bounded n flags (SecondAttempt n flags) (IsAttempt n 0 s) steps outcome (attempt_bounded n 0 s)
      (second_bounded n flags) first

  published_bounded : (n flags published : ℕ) (s : VgetrandomState) (steps : List HostStep) (outcome : Outcome) →
      FromPublished n flags s published steps outcome → OutcomeBounded steps outcome
  published_bounded n flags published s steps outcome from =
      match_cases (BySystem n flags s steps outcome) _ (OutcomeBounded steps outcome) (published == 0)
      (λ is by. system_bounded n flags s steps outcome by)
      (λ is. match_cases (ByNothing s steps outcome) _ (OutcomeBounded steps outcome) (n == 0)
      (λ zero by. none_bounded steps outcome _ by.outcome_is (omega arith))
      (λ some. match_cases (BySystem n flags s steps outcome)
      (FirstAttempt n flags (record s { in_use = true }) steps outcome) (OutcomeBounded steps outcome) s.in_use
      (λ inside by. system_bounded n flags s steps outcome by)
      (λ outside first. first_bounded n flags (record s { in_use = true }) steps outcome first)))
      from

  pub call_bounded : (n flags : ℕ) (s : VgetrandomState) (steps : List HostStep) (outcome : Outcome) →
      IsCall n flags s steps outcome → OutcomeBounded steps outcome
  call_bounded n flags s steps outcome is =
      match_cases (BySystem n flags s steps outcome) (FromLook n flags s steps outcome)
      (OutcomeBounded steps outcome) (is_bad flags)
      (λ bad by. system_bounded n flags s steps outcome by)
      (λ good look. let b : OutcomeBounded look.rest outcome =
      published_bounded n flags look.published s look.rest outcome look.goes_on in
      let same : step_takes steps ≡ step_takes look.rest = ap step_takes look.steps_are in
      record { is = (let h = b.is in omega arith) })
      is

  -- how many of the effects are the visit at place `p` of CPU `c`
  abbrev pub effect_takes : List Effect → ℕ
  effect_takes [] = 0
  effect_takes (looked g ∷ ds) = effect_takes ds
  effect_takes (at_pool v ∷ ds) = effect_takes ds
  effect_takes (at_base v ∷ ds) = effect_takes ds
  effect_takes (at_cpu v ∷ ds) = is_here v.cpu v.place + effect_takes ds
  effect_takes (nothing_there ∷ ds) = effect_takes ds

  effect_append : (xs ys : List Effect) → effect_takes (xs ++ ys) ≡ effect_takes xs + effect_takes ys
  effect_append [] ys = omega arith
  effect_append (looked g ∷ xs) ys = effect_append xs ys
  effect_append (at_pool v ∷ xs) ys = effect_append xs ys
  effect_append (at_base v ∷ xs) ys = effect_append xs ys
  effect_append (at_cpu v ∷ xs) ys = let rest : effect_takes (xs ++ ys) ≡ effect_takes xs + effect_takes ys =
      effect_append xs ys in omega arith
  effect_append (nothing_there ∷ xs) ys = effect_append xs ys

  more_takes : (d : Effect) (ds : List Effect) → effect_takes ds ≤ effect_takes (d ∷ ds)
  more_takes (looked g) ds = omega arith
  more_takes (at_pool v) ds = omega arith
  more_takes (at_base v) ds = omega arith
  more_takes (at_cpu v) ds = omega arith
  more_takes nothing_there ds = omega arith

  one_takes : (d : Effect) → place_takes (place_of d) ≤ effect_takes (d ∷ [])
  one_takes (looked g) = omega arith
  one_takes (at_pool v) = omega arith
  one_takes (at_base v) = omega arith
  one_takes (at_cpu v) = omega arith
  one_takes nothing_there = omega arith

  pub last_takes : (ds : List Effect) → place_takes (last_place ds) ≤ effect_takes ds
  last_takes [] = omega arith
  last_takes (d ∷ []) = one_takes d
  last_takes (d ∷ e ∷ ds) = let rest : place_takes (last_place (e ∷ ds)) ≤ effect_takes (e ∷ ds) = last_takes (e ∷ ds) in
      let more : effect_takes (e ∷ ds) ≤ effect_takes (d ∷ e ∷ ds) = more_takes d (e ∷ ds) in omega arith

  answered_takes : (o : Option Errno) (ds : List Effect) → answer_takes (answer_with o ds) ≤ effect_takes ds
  answered_takes None ds = last_takes ds
  answered_takes (Some errno) ds = omega arith

  -- let the effects of a line show the host's steps. The steps contain the read at place `p` of CPU `c` at most as
  -- often as the effects contain the visit at that place
  pub shown_takes : (set : Setting) (steps : List HostStep) (ds : List Effect) → Shows set steps ds →
      step_takes steps ≤ effect_takes ds
  shown_takes set [] ds shows = omega arith
  shown_takes set (publishes g ∷ steps) ds shows =
      let same : effect_takes ds ≡ effect_takes shows.1 = ap effect_takes shows.2 in
      let rest : step_takes steps ≤ effect_takes shows.1 = shown_takes set steps shows.1 (shows.3).1 in omega arith
  shown_takes set (at_point point wiped ∷ steps) ds shows = shown_takes set steps ds shows
  shown_takes set (system_call n flags answer ∷ steps) ds shows =
      let same : effect_takes ds ≡ effect_takes (shows.call ++ shows.rest) = ap effect_takes shows.effects_are in
      let sum : effect_takes (shows.call ++ shows.rest) ≡ effect_takes shows.call + effect_takes shows.rest =
      effect_append shows.call shows.rest in
      let here : answer_takes answer ≡ answer_takes (answer_after flags shows.call) = ap answer_takes shows.answers in
      let one : answer_takes (answer_after flags shows.call) ≤ effect_takes shows.call =
      answered_takes (errno_of (system_answer flags shows.call)) shows.call in
      let rest : step_takes steps ≤ effect_takes shows.rest = shown_takes set steps shows.rest shows.goes_on in
      omega arith

  -- a call takes the read, as a key and as its own answer together, at most as often as the line's effects contain the
  -- visit
  pub call_takes : (set : Setting) (n flags : ℕ) (s : VgetrandomState) (steps : List HostStep) (outcome : Outcome)
      (ds : List Effect) →
      IsCall n flags s steps outcome → Shows set steps ds →
      takes outcome.entries + ending_takes outcome.ending ≤ effect_takes ds
  call_takes set n flags s steps outcome ds is shows =
      let b : OutcomeBounded steps outcome = call_bounded n flags s steps outcome is in
      let a = b.is in let e : step_takes steps ≤ effect_takes ds = shown_takes set steps ds shows in omega arith
