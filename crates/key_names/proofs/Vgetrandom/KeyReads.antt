-- Let the host answer each system call for a key with a user's read of 32 bytes or with an error. Then each rekey of a
-- vgetrandom call takes such a read.
use Rattle.std.proofs.Common.{◌≡◌, ℕ, zero, suc, Bool, true, false, Some, None, List, [], ◌∷◌, ◌++◌, refl, sym, subst}
use Rattle.std.specs.Prelude.{⊤, ◌==◌, if◌then◌else◌}
use Rattle.std.specs.List.{AllByRecursion}
use Rattle.key_names.specs.declared.entries.Taken.TheVariants.{User}
use Rattle.key_names.specs.declared.entries.CpuEntry.{CpuEntry}
use Rattle.key_names.specs.declared.entries.VEntry.{VEntry}
use Rattle.key_names.specs.declared.point.Point.{Point}
use Rattle.key_names.specs.declared.point.Point.TheVariants.{Start, Written, Serve as ServePoint, End}
use Rattle.key_names.specs.Kernel.Flags.{is_bad}
use Rattle.key_names.specs.Lanes.CpuList.{taken_at}
use Rattle.key_names.specs.Lanes.StateList.{TakesRead}
use Rattle.key_names.specs.Kernel.VgetrandomState.{VgetrandomState, state_left}
use Rattle.key_names.specs.Kernel.BatchCopy.{bytes_left, has_left, whole_blocks, new_batch_bytes, serve_entry, refill_entries}
use Rattle.key_names.specs.Kernel.BatchCopy.{copy_entries}
use Rattle.key_names.specs.Kernel.Vgetrandom.{SystemAnswer, read, failed, HostStep, publishes, system_call, at_point, Attempt}
use Rattle.key_names.specs.Kernel.Vgetrandom.{AttemptEnd, holds, outdated, not_keyed, wipe_entry, AtPoint, FromEnd, FromServe}
use Rattle.key_names.specs.Kernel.Vgetrandom.{AfterKeyRead, FromWritten, FromStart, IsAttempt, Outcome, BySystem}
use Rattle.key_names.specs.Kernel.Vgetrandom.{state_after_call, AfterAttempt, AttemptAndRest, AfterBoth, SecondAttempt, IsCall}
use Rattle.key_names.proofs.Lists.Each.{each_append}
use Rattle.key_names.proofs.Vgetrandom.CallsKeep.{match_cases}

-- a system call for a new key failed, or its answer names a CPU's visit that took 32 bytes for a user
abbrev pub IsKeyRead : (ℕ → List CpuEntry) → SystemAnswer → Type 0
IsKeyRead cpus (failed errno) = ⊤
IsKeyRead cpus (read bytes None) = ⊥
IsKeyRead cpus (read bytes (Some at)) = taken_at (cpus at.cpu) at.place ≡ Some (User 32)

-- `IsKeyRead` holds for the answer of each system call of 32 bytes without flags
abbrev pub KeyReads : (ℕ → List CpuEntry) → List HostStep → Type 0
KeyReads cpus [] = ⊤
KeyReads cpus (publishes g ∷ steps) = KeyReads cpus steps
KeyReads cpus (at_point point wiped ∷ steps) = KeyReads cpus steps
KeyReads cpus (system_call n flags answer ∷ steps) =
    ((n ≡ 32) → (flags ≡ 0) → IsKeyRead cpus answer) × KeyReads cpus steps

module _ (cpus : ℕ → List CpuEntry) where
  abbrev Name : List VEntry → Type 0
  Name es = AllByRecursion (TakesRead cpus) es

  abbrev AllName : List HostStep → Type 0
  AllName steps = KeyReads cpus steps

  name_append : (xs ys : List VEntry) → Name xs → Name ys → Name (xs ++ ys)
  name_append xs ys before after = each_append (TakesRead cpus) xs ys before after

  wipe_names : (wiped : Bool) → Name (wipe_entry wiped)
  wipe_names true = (tt, tt)
  wipe_names false = tt

  serve_names : (from len : ℕ) → Name (serve_entry from len)
  serve_names from zero = tt
  serve_names from (suc len) = (tt, tt)

  refill_names : (c m r : ℕ) → Name (refill_entries c m r)
  refill_names c zero r = (tt, serve_names 0 r)
  refill_names c (suc m) r = (tt, (tt, serve_names 0 r))

  copy_names_if : (b : Bool) (s : VgetrandomState) (c n : ℕ) → Name (if b then serve_entry s.pos n
      else serve_entry s.pos (bytes_left s) ++ refill_entries c (whole_blocks s n) (new_batch_bytes s n))
  copy_names_if true s c n = serve_names s.pos n
  copy_names_if false s c n = name_append (serve_entry s.pos (bytes_left s)) _ (serve_names s.pos (bytes_left s))
      (refill_names c (whole_blocks s n) (new_batch_bytes s n))

  pub copy_names : (s : VgetrandomState) (c n : ℕ) → Name (copy_entries s c n)
  copy_names s c n = copy_names_if (has_left s n) s c n

  point_names : (point : Point) (GoesOn : VgetrandomState → List HostStep → Attempt → Type 0) (s : VgetrandomState)
      (steps : List HostStep) (attempt : Attempt) → AllName steps →
      ((v : VgetrandomState) (rest : List HostStep) (after : Attempt) → AllName rest → GoesOn v rest after →
      Name after.entries) → AtPoint point GoesOn s steps attempt → Name attempt.entries
  point_names point GoesOn s steps attempt names goes at =
      subst (λ (a : Attempt). Name a.entries) (sym at.attempt_is)
      (name_append (wipe_entry at.wiped) at.attempt_after.entries (wipe_names at.wiped)
      (goes (state_left at.wiped s) at.rest at.attempt_after (subst AllName at.steps_are names) at.goes_on))

  serve_names_all : (n c : ℕ) (s : VgetrandomState) (steps : List HostStep) (attempt : Attempt) → AllName steps →
      FromServe n c s steps attempt → Name attempt.entries
  serve_names_all n c s steps attempt names from =
      subst (λ (a : Attempt). Name a.entries) (sym from.attempt_is)
      (name_append (copy_entries s c n) from.attempt_after.entries (copy_names s c n)
      (point_names End (FromEnd _ _) _ steps from.attempt_after names
      (λ v rest after all on. subst (λ (a : Attempt). Name a.entries) (sym on.attempt_is) tt) from.goes_on))

  key_read_names : (n c : ℕ) (answer : SystemAnswer) (s : VgetrandomState) (rest : List HostStep) (attempt : Attempt) →
      IsKeyRead cpus answer → AllName rest → AfterKeyRead n c answer s rest attempt → Name attempt.entries
  key_read_names n c (read key None) s rest attempt takes names keyed = absurd takes
  key_read_names n c (read key (Some at)) s rest attempt takes names keyed =
      subst (λ (a : Attempt). Name a.entries) (sym keyed.attempt_is) (
        takes,
        point_names ServePoint (FromServe n c) _ rest keyed.attempt_after names (serve_names_all n c)
            keyed.goes_on,
      )
  key_read_names n c (failed errno) s rest attempt takes names unkeyed =
      subst (λ (a : Attempt). Name a.entries) (sym unkeyed.attempt_is) tt

  attempt_names : (n c : ℕ) (s : VgetrandomState) (steps : List HostStep) (attempt : Attempt) → AllName steps →
      IsAttempt n c s steps attempt → Name attempt.entries
  attempt_names n c s steps attempt names is =
      point_names Start (FromStart n c is.published) s is.rest attempt (subst AllName is.steps_are names)
      (λ v rest after all from. match_cases _ _ _ (v.generation == is.published)
      (λ current at. point_names ServePoint (FromServe n c) v rest after all (serve_names_all n c) at)
      (λ other at. point_names Written (FromWritten n c) _ rest after all
      (λ w more last every on. let split = subst AllName on.steps_are every in
      key_read_names n c on.answer w on.rest last (split.0 refl refl) split.1 on.goes_on) at) from) is.goes_on

  system_names : (n flags : ℕ) (s : VgetrandomState) (steps : List HostStep) (outcome : Outcome) →
      BySystem n flags s steps outcome → Name outcome.entries
  system_names n flags s steps outcome by = subst (λ (o : Outcome). Name o.entries) (sym by.outcome_is) tt

  split_names : (xs ys : List HostStep) → AllName (xs ++ ys) → AllName xs × AllName ys
  split_names [] ys all = (tt, all)
  split_names (publishes g ∷ xs) ys all = split_names xs ys all
  split_names (at_point point wiped ∷ xs) ys all = split_names xs ys all
  split_names (system_call n flags answer ∷ xs) ys all =
      let rest = split_names xs ys all.1 in ((all.0, rest.0), rest.1)

  after_names : (n flags : ℕ) (IfOutdated : ℕ → VgetrandomState → List HostStep → Outcome → Type 0)
      (goes : (c : ℕ) (v : VgetrandomState) (rest : List HostStep) (after : Outcome) → AllName rest →
      IfOutdated c v rest after → Name after.entries) (end : AttemptEnd) (attempt : Attempt) (rest : List HostStep)
      (after : Outcome) → AllName rest → AfterAttempt n flags IfOutdated end attempt rest after → Name after.entries
  after_names n flags IfOutdated goes holds attempt rest after names by =
      subst (λ (o : Outcome). Name o.entries) (sym by.outcome_is) tt
  after_names n flags IfOutdated goes outdated attempt rest after names on =
      goes attempt.next_block attempt.state rest after names on
  after_names n flags IfOutdated goes not_keyed attempt rest after names by =
      system_names n flags (state_after_call attempt.state) rest after by

  tried_names : (n flags c : ℕ) (IfOutdated : ℕ → VgetrandomState → List HostStep → Outcome → Type 0)
      (goes : (c : ℕ) (v : VgetrandomState) (rest : List HostStep) (after : Outcome) → AllName rest →
      IfOutdated c v rest after → Name after.entries) (s : VgetrandomState) (steps : List HostStep)
      (outcome : Outcome) →
      AllName steps → AttemptAndRest n flags IfOutdated (IsAttempt n c s) steps outcome → Name outcome.entries
  tried_names n flags c IfOutdated goes s steps outcome names by =
      let all = split_names by.tried by.rest (subst AllName by.steps_are names) in
      subst (λ (o : Outcome). Name o.entries) (sym by.outcome_is)
      (name_append by.attempt.entries by.outcome_after.entries
      (attempt_names n c s by.tried by.attempt all.0 by.tries)
      (after_names n flags IfOutdated goes by.attempt.end by.attempt by.rest by.outcome_after
      all.1 by.goes_on))

  -- if `KeyReads` holds for the steps of a call, then each rekey of the call takes a user's read of 32 bytes
  pub call_names : (n flags : ℕ) (s : VgetrandomState) (steps : List HostStep) (outcome : Outcome) →
      KeyReads cpus steps → IsCall n flags s steps outcome → AllByRecursion (TakesRead cpus) outcome.entries
  call_names n flags s steps outcome names is = match_cases _ _ _ (is_bad flags)
      (λ bad by. system_names n flags s steps outcome by)
      (λ good look. let rest = subst AllName look.steps_are names in
      match_cases _ _ _ (look.published == 0)
      (λ unready by. system_names n flags s look.rest outcome by)
      (λ ready some. match_cases _ _ _ (n == 0)
      (λ none by. subst (λ (o : Outcome). Name o.entries) (sym by.outcome_is) tt)
      (λ wanted both. match_cases _ _ _ s.in_use
      (λ busy by. system_names n flags s look.rest outcome by)
      (λ free tries. tried_names n flags 0 (SecondAttempt n flags)
      (λ c v more after all on. tried_names n flags c (AfterBoth n flags)
      (λ d x last end every asked. system_names n flags (state_after_call x) last end asked) v more after all on)
      (record s { in_use = true }) look.rest outcome rest tries) both) some) look.goes_on) is
