-- A fork inside a vgetrandom call does not change the parent's call. If a child gives out bytes of its state, the child
-- read a key after the fork.
use Rattle.std.proofs.Common.{◌≡◌, ◌≢◌, ◌⊎◌, ℕ, ◌<◌, ◌≤◌, Bool, true, false, List, [], ◌∷◌, ◌++◌, refl, sym, ap, subst, ◌∙◌, inl, inr, arith}
use Rattle.std.specs.Prelude.{◌==◌, ◌&&◌, ◌||◌, MatchBool, if◌then◌else◌}
use Rattle.std.proofs.lemmas.Bool.{ne_eqb}
use Rattle.std.proofs.lemmas.Bool.Decides.{eqb_tells}
use Rattle.key_names.specs.declared.entries.VEntry.{VEntry}
use Rattle.key_names.specs.declared.entries.VEntry.TheVariants.{Wipe}
use Rattle.key_names.specs.declared.point.Point.{Point}
use Rattle.key_names.specs.declared.point.Point.TheVariants.{Start, Written, Serve, End}
use Rattle.key_names.specs.Kernel.BatchCopy.{state_after_copy, copy_bytes, block_after_copy, copy_entries}
use Rattle.key_names.specs.Kernel.Vgetrandom.{SystemAnswer, read, failed, HostStep, publishes, system_call, at_point, Attempt, AttemptEnd, holds, outdated, not_keyed, prefix_attempt, wipe_entry, rekey_entry, Outcome, prefix_outcome, by_batch, by_system, AtPoint, FromEnd, FromServe, FromWritten, FromStart, IsAttempt, AfterAttempt, AfterKeyRead, AfterBoth, BySystem, SecondAttempt, state_after_call}
use Rattle.key_names.specs.Kernel.VgetrandomState.{VgetrandomState, wiped_state, state_left}
use Rattle.key_names.specs.Kernel.Points.{is_same_point}
use Rattle.key_names.proofs.Vgetrandom.CopiesKeep.{copy_keeps_generation}
use Rattle.vdso_state.specs.declared.place.Turn.{Turn}
use Rattle.vdso_state.specs.declared.place.Turn.TheVariants.{First, Second}
use Rattle.vdso_state.specs.Host.{Doings, doings}
use Rattle.vdso_state.specs.Places.{FromPoint, IfOutdated, Climbs}
use Rattle.vdso_state.proofs.Leading.{at_leads}
use Rattle.vcall_fork.specs.Forks.{ForksAreRecorded, takes_key, ChildTakesKey}

-- a host (what a call asks for generations and system calls) that promises nothing
abbrev anybody : Doings (Unit {0})
anybody = doings (λ h g next. Unit {0}) (λ h n flags answer next. Unit {0}) (λ h point wiped next. Unit {0})

pub forks_are_recorded : ForksAreRecorded
forks_are_recorded stage held s n flags place out t before entries leads = record {
  parent = λ rest outcome r. leads (at_point place.point false ∷ rest) outcome
      ((at_leads anybody (λ h. 0) n flags place out t t false tt tt refl tt (omega arith)).leads rest outcome r);
  child = λ rest outcome r. leads (at_point place.point true ∷ rest) (prefix_outcome (Wipe ∷ []) outcome)
      ((at_leads anybody (λ h. 0) n flags place out t wiped_state true tt tt refl tt (omega arith)).leads rest outcome
      r);
}

-- Whether a call read a new key after the fork

takes_append : (taken : Bool) (xs ys : List HostStep) →
    takes_key taken (xs ++ ys) ≡ takes_key (takes_key taken xs) ys
takes_append taken [] ys = refl
takes_append taken (publishes g ∷ xs) ys = takes_append taken xs ys
takes_append taken (system_call n flags (read bytes visit) ∷ xs) ys =
    takes_append ((n == 32 && flags == 0) || taken) xs ys
takes_append taken (system_call n flags (failed errno) ∷ xs) ys = takes_append taken xs ys
takes_append taken (at_point point wiped ∷ xs) ys =
    takes_append (if is_same_point point Start then false else taken) xs ys

-- the generation of the state `s` is below `low`, so that generation will not be published again; or a key was read,
-- and the generation of `s` is at most `low`
abbrev IsFresh : Bool → ℕ → VgetrandomState → Type 0
IsFresh taken low s = (s.generation < low) ⊎ ((taken ≡ true) × (s.generation ≤ low))

fresh_low : (taken : Bool) (low : ℕ) (s : VgetrandomState) → IsFresh taken low s → s.generation ≤ low
fresh_low taken low s (inl h) = omega arith
fresh_low taken low s (inr k) = k.1

fresh_same : (taken : Bool) (low : ℕ) (s t : VgetrandomState) → t.generation ≡ s.generation →
    IsFresh taken low s → IsFresh taken low t
fresh_same taken low s t same (inl h) = inl (omega arith)
fresh_same taken low s t same (inr k) = let h = k.1 in inr (k.0, omega arith)

fresh_left : (taken wiped : Bool) (low : ℕ) (s : VgetrandomState) → 1 ≤ low → IsFresh taken low s →
    IsFresh taken low (state_left wiped s)
fresh_left taken true low s some fresh = inl (omega arith)
fresh_left taken false low s some fresh = fresh

-- if the attempt with the steps `tried` ended with `holds`, a key was read. If it ended with `outdated`, all
-- generations that `rest` publishes are above the generation of the state
record Recorded (taken : Bool) (high : ℕ) (tried rest : List HostStep) (attempt : Attempt) : Type 0 where
  held : attempt.end ≡ holds → takes_key taken tried ≡ true
  again : attempt.end ≡ outdated → (low : ℕ) × (attempt.state.generation < low) × Climbs low high rest

not_outdated : holds ≡ outdated → ⊥
not_outdated same = cc

ended_as : (taken : Bool) (high : ℕ) (tried rest : List HostStep) (attempt : Attempt) (s : VgetrandomState) (e low : ℕ) →
    low ≤ e → Climbs e high rest → takes_key taken tried ≡ taken →
    attempt.end ≡ (if s.generation == e then holds else outdated) → attempt.state.generation ≡ s.generation →
    IsFresh taken low s → Recorded taken high tried rest attempt
ended_as taken high tried rest attempt s e low below climbs taken_is end_is same fresh =
    let low_enough = fresh_low taken low s fresh in
    elim (eqb_tells s.generation e) [
      | inl equal ↦
          let is : attempt.end ≡ holds = end_is ∙ ap (λ (b : Bool). if b then holds else outdated) equal.0 in
          record {
            held = λ h. elim fresh [
              | inl lower ↦ let k = equal.1 in absurd (omega arith)
              | inr key ↦ taken_is ∙ key.0
            ];
            again = λ h. absurd (not_outdated (sym is ∙ h));
          }
      | inr differs ↦
          let is : attempt.end ≡ outdated = end_is ∙ ap (λ (b : Bool). if b then holds else outdated) differs.0 in
          record {
            held = λ h. absurd (not_outdated (sym h ∙ is));
            again = λ h. let other = differs.1 in (e, omega arith, climbs);
          }
    ]

from_end : (out : List ℕ) (c : ℕ) (s : VgetrandomState) (taken : Bool) (low high : ℕ) (tried rest : List HostStep)
    (attempt : Attempt) → FromEnd out c s tried attempt → IsFresh taken low s → Climbs low high (tried ++ rest) →
    Recorded taken high tried rest attempt
from_end out c s taken low high tried rest attempt k fresh climbs =
    let climbs_on : (low ≤ k.published) × Climbs k.published high rest =
    subst (λ (xs : List HostStep). Climbs low high (xs ++ rest)) k.steps_are climbs in
    ended_as taken high tried rest attempt s k.published low climbs_on.0 climbs_on.1
    (ap (takes_key taken) k.steps_are) (ap (λ (a : Attempt). a.end) k.attempt_is)
    (ap (λ (a : Attempt). a.state.generation) k.attempt_is) fresh

-- `Recorded` does not depend on the entries before an attempt
recorded_after : (taken : Bool) (high : ℕ) (tried rest : List HostStep) (attempt after : Attempt) (entries : List VEntry) →
    attempt ≡ prefix_attempt entries after → Recorded taken high tried rest after → Recorded taken high tried rest attempt
recorded_after taken high tried rest attempt after entries is recorded = record {
  held = λ h. recorded.held (sym (ap (λ (a : Attempt). a.end) is) ∙ h);
  again = λ h.
      let k = recorded.again (sym (ap (λ (a : Attempt). a.end) is) ∙ h) in
      let same = ap (λ (a : Attempt). a.state.generation) is in
      let low = k.1 in
      (k.0, omega arith, k.2);
}

-- if `Recorded` holds for the steps after a point, it also holds for the steps from the point on. `Holds` is the
-- condition on the state that the steps after the point need
at_recorded : (point : Point) (GoesOn : VgetrandomState → List HostStep → Attempt → Type 0) (Holds : VgetrandomState → Type 0)
    (s : VgetrandomState) (taken now : Bool) (low high : ℕ) (tried rest : List HostStep) (attempt : Attempt) →
    (if is_same_point point Start then false else taken) ≡ now → AtPoint point GoesOn s tried attempt →
    ((wiped : Bool) → Holds (state_left wiped s)) →
    ((u : VgetrandomState) (after : List HostStep) (a : Attempt) → GoesOn u after a → Holds u →
    Climbs low high (after ++ rest) → Recorded now high after rest a) →
    Climbs low high (tried ++ rest) → Recorded taken high tried rest attempt
at_recorded point GoesOn Holds s taken now low high tried rest attempt now_is k left goes climbs =
    let inner = goes (state_left k.wiped s) k.rest k.attempt_after k.goes_on (left k.wiped)
    (subst (λ (xs : List HostStep). Climbs low high (xs ++ rest)) k.steps_are climbs) in
    let taken_is : takes_key taken tried ≡ takes_key now k.rest =
    ap (takes_key taken) k.steps_are ∙ ap (λ (b : Bool). takes_key b k.rest) now_is in
    recorded_after taken high tried rest attempt k.attempt_after (wipe_entry k.wiped) k.attempt_is
    (record { held = λ h. taken_is ∙ inner.held h; again = inner.again })

from_serve : (n c : ℕ) (s : VgetrandomState) (taken : Bool) (low high : ℕ) (tried rest : List HostStep)
    (attempt : Attempt) → FromServe n c s tried attempt → 1 ≤ low → IsFresh taken low s →
    Climbs low high (tried ++ rest) → Recorded taken high tried rest attempt
from_serve n c s taken low high tried rest attempt k some fresh climbs =
    let copied = fresh_same taken low s (state_after_copy s c n) (copy_keeps_generation s c n) fresh in
    recorded_after taken high tried rest attempt k.attempt_after (copy_entries s c n) k.attempt_is
    (at_recorded End (FromEnd (copy_bytes s c n) (block_after_copy s c n)) (IsFresh taken low) (state_after_copy s c n) taken
    taken low high tried rest k.attempt_after refl k.goes_on
    (λ wiped. fresh_left taken wiped low (state_after_copy s c n) some copied)
    (λ u after a g fresh_then climbs_then. from_end (copy_bytes s c n) (block_after_copy s c n) u taken low high after rest a
    g fresh_then climbs_then) climbs)

written_as : (answer : SystemAnswer) (n c : ℕ) (s : VgetrandomState) (taken : Bool) (low high : ℕ)
    (tried rest : List HostStep) (attempt : Attempt) → AfterKeyRead n c answer s tried attempt → 1 ≤ low →
    s.generation ≤ low → Climbs low high (tried ++ rest) →
    Recorded taken high (system_call 32 0 answer ∷ tried) rest attempt
written_as (read key visit) n c s taken low high tried rest attempt k some known climbs =
    let keyed : VgetrandomState = record s { key = key; pos = 96 } in
    let inner : Recorded true high tried rest attempt =
    recorded_after true high tried rest attempt k.attempt_after (rekey_entry visit) k.attempt_is
    (at_recorded Serve (FromServe n c) (IsFresh true low) keyed true true low high tried rest k.attempt_after refl
    k.goes_on (λ wiped. fresh_left true wiped low keyed some (inr (refl, known)))
    (λ u after a g fresh_then climbs_then. from_serve n c u true low high after rest a g some fresh_then climbs_then)
    climbs) in
    record { held = inner.held; again = inner.again }
written_as (failed errno) n c s taken low high tried rest attempt k some known climbs =
    let is : attempt.end ≡ not_keyed = ap (λ (a : Attempt). a.end) k.attempt_is in
    record { held = λ h. absurd (cc (h, is)); again = λ h. absurd (cc (h, is)) }

from_written : (n c : ℕ) (s : VgetrandomState) (taken : Bool) (low high : ℕ) (tried rest : List HostStep)
    (attempt : Attempt) → FromWritten n c s tried attempt → 1 ≤ low → s.generation ≤ low →
    Climbs low high (tried ++ rest) → Recorded taken high tried rest attempt
from_written n c s taken low high tried rest attempt k some known climbs =
    subst (λ (xs : List HostStep). Recorded taken high xs rest attempt) (sym k.steps_are)
    (written_as k.answer n c s taken low high k.rest rest attempt k.goes_on some known
    (subst (λ (xs : List HostStep). Climbs low high (xs ++ rest)) k.steps_are climbs))

left_low : (wiped : Bool) (low : ℕ) (s : VgetrandomState) → s.generation ≤ low →
    (state_left wiped s).generation ≤ low
left_low true low s h = omega arith
left_low false low s h = h

left_below : (wiped : Bool) (low : ℕ) (s : VgetrandomState) → s.generation < low →
    (state_left wiped s).generation < low
left_below true low s h = omega arith
left_below false low s h = h

from_start : (n c published : ℕ) (s : VgetrandomState) (taken : Bool) (high : ℕ) (tried rest : List HostStep)
    (attempt : Attempt) → FromStart n c published s tried attempt → s.generation < published →
    Climbs published high (tried ++ rest) → Recorded taken high tried rest attempt
from_start n c published s taken high tried rest attempt k below climbs =
    let other : s.generation ≢ published = omega arith in
    let known : published ≤ published = omega arith in
    let some : 1 ≤ published = omega arith in
    let new : VgetrandomState = record s { generation = published } in
    at_recorded Written (FromWritten n c) (λ u. u.generation ≤ published) new taken taken published high tried rest attempt
    refl
    (subst (λ (b : Bool). MatchBool b (AtPoint Serve (FromServe n c) s tried attempt)
    (AtPoint Written (FromWritten n c) new tried attempt)) (ne_eqb s.generation published other) k)
    (λ wiped. left_low wiped published new known)
    (λ u after a g known_then climbs_then. from_written n c u taken published high after rest a g some known_then
    climbs_then) climbs

is_attempt : (n c : ℕ) (s : VgetrandomState) (taken : Bool) (low high : ℕ) (tried rest : List HostStep)
    (attempt : Attempt) → IsAttempt n c s tried attempt → s.generation < low → Climbs low high (tried ++ rest) →
    Recorded taken high tried rest attempt
is_attempt n c s taken low high tried rest attempt k below climbs =
    let climbs_on : (low ≤ k.published) × Climbs k.published high (k.rest ++ rest) =
    subst (λ (xs : List HostStep). Climbs low high (xs ++ rest)) k.steps_are climbs in
    let above = climbs_on.0 in
    let lower : s.generation < k.published = omega arith in
    let inner : Recorded taken high k.rest rest attempt =
    at_recorded Start (FromStart n c k.published) (λ u. u.generation < k.published) s taken false k.published high k.rest
    rest attempt refl k.goes_on (λ wiped. left_below wiped k.published s lower)
    (λ u after a g below_then climbs_then. from_start n c k.published u false high after rest a g below_then
    climbs_then) climbs_on.1 in
    record { held = λ h. ap (takes_key taken) k.steps_are ∙ inner.held h; again = inner.again }

from_point : (point : Point) (n c published : ℕ) (out : List ℕ) (high : ℕ) (tried rest : List HostStep)
    (attempt : Attempt) → FromPoint point n c published out wiped_state tried attempt → 1 ≤ published →
    Climbs published high (tried ++ rest) → Recorded false high tried rest attempt
from_point Start n c published out high tried rest attempt k some climbs =
    from_start n c published wiped_state false high tried rest attempt k some climbs
from_point Written n c published out high tried rest attempt k some climbs =
    from_written n c wiped_state false published high tried rest attempt k some (omega arith) climbs
from_point Serve n c published out high tried rest attempt k some climbs =
    from_serve n c wiped_state false published high tried rest attempt k some (inl some) climbs
from_point End n c published out high tried rest attempt k some climbs =
    from_end out c wiped_state false published high tried rest attempt k (inl some) climbs

-- How the call ended

by_batch_alone : (n flags : ℕ) (s : VgetrandomState) (steps : List HostStep) (outcome : Outcome) (bytes : List ℕ) →
    BySystem n flags s steps outcome → outcome.ending ≡ by_batch bytes → ⊥
by_batch_alone n flags s steps outcome bytes k ending =
    let is : by_system k.answer ≡ by_batch bytes = sym (ap (λ (o : Outcome). o.ending) k.outcome_is) ∙ ending in cc

ends_held : (n flags : ℕ) (Outdated : ℕ → VgetrandomState → List HostStep → Outcome → Type 0) (end : AttemptEnd)
    (attempt : Attempt) (taken : Bool) (high : ℕ) (tried rest : List HostStep) (outcome : Outcome) (bytes : List ℕ) →
    attempt.end ≡ end → AfterAttempt n flags Outdated end attempt rest outcome → Recorded taken high tried rest attempt →
    outcome.ending ≡ by_batch bytes →
    ((low : ℕ) → attempt.state.generation < low → Climbs low high rest →
    Outdated attempt.next_block attempt.state rest outcome → takes_key (takes_key taken tried) rest ≡ true) →
    takes_key taken (tried ++ rest) ≡ true
ends_held n flags Outdated holds attempt taken high tried rest outcome bytes is k recorded ending goes =
    takes_append taken tried rest ∙ ap (takes_key (takes_key taken tried)) k.steps_are ∙ recorded.held is
ends_held n flags Outdated outdated attempt taken high tried rest outcome bytes is k recorded ending goes =
    let a = recorded.again is in
    takes_append taken tried rest ∙ goes a.0 a.1 a.2 k
ends_held n flags Outdated not_keyed attempt taken high tried rest outcome bytes is k recorded ending goes =
    absurd (by_batch_alone n flags (state_after_call attempt.state) rest outcome bytes k ending)

second_takes : (n flags c : ℕ) (s : VgetrandomState) (taken : Bool) (low high : ℕ) (steps : List HostStep)
    (outcome : Outcome) (bytes : List ℕ) → SecondAttempt n flags c s steps outcome → s.generation < low →
    Climbs low high steps → outcome.ending ≡ by_batch bytes → takes_key taken steps ≡ true
second_takes n flags c s taken low high steps outcome bytes r below climbs ending =
    let recorded = is_attempt n c s taken low high r.tried r.rest r.attempt r.tries below
    (subst (Climbs low high) r.steps_are climbs) in
    let ending_after = sym (ap (λ (o : Outcome). o.ending) r.outcome_is) ∙ ending in
    ap (takes_key taken) r.steps_are
    ∙ ends_held n flags (AfterBoth n flags) r.attempt.end r.attempt taken high r.tried r.rest r.outcome_after bytes refl
    r.goes_on recorded ending_after
    (λ low_then below_then climbs_then k. absurd (by_batch_alone n flags (state_after_call r.attempt.state) r.rest
    r.outcome_after bytes k ending_after))

outdated_takes : (turn : Turn) (n flags c : ℕ) (s : VgetrandomState) (taken : Bool) (low high : ℕ)
    (steps : List HostStep) (outcome : Outcome) (bytes : List ℕ) → IfOutdated turn n flags c s steps outcome →
    s.generation < low → Climbs low high steps → outcome.ending ≡ by_batch bytes → takes_key taken steps ≡ true
outdated_takes First n flags c s taken low high steps outcome bytes k below climbs ending =
    second_takes n flags c s taken low high steps outcome bytes k below climbs ending
outdated_takes Second n flags c s taken low high steps outcome bytes k below climbs ending =
    absurd (by_batch_alone n flags (state_after_call s) steps outcome bytes k ending)

pub child_takes_key : ChildTakesKey
child_takes_key n flags place out steps outcome high bytes r some climbs ending =
    let recorded = from_point place.point n place.next_block place.published out high r.tried r.rest r.attempt r.tries some
    (subst (Climbs place.published high) r.steps_are climbs) in
    let ending_after = sym (ap (λ (o : Outcome). o.ending) r.outcome_is) ∙ ending in
    ap (takes_key false) r.steps_are
    ∙ ends_held n flags (IfOutdated place.turn n flags) r.attempt.end r.attempt false high r.tried r.rest r.outcome_after
    bytes refl r.goes_on recorded ending_after
    (λ low below climbs_then k. outdated_takes place.turn n flags r.attempt.next_block r.attempt.state
    (takes_key false r.tried) low high r.rest r.outcome_after bytes k below climbs_then ending_after)
