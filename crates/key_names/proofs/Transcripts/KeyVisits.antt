-- In a lawful transcript, each system call that reads a key takes 32 bytes from a CPU. These bytes are the key that the
-- CPU's visit hands over.
use Rattle.std.proofs.Common.{◌≡◌, ℕ, ◌≤◌, Bool, true, false, List, [], ◌∷◌, ◌++◌, ◌⊎◌, inl, inr, refl, sym, subst, ap, ◌∙◌, arith, Some, None, Option, take}
use Rattle.std.specs.Prelude.{◌==◌, ◌&&◌, slice_get, option_and_then}
use Rattle.std.proofs.lemmas.Bool.{eqb-true}
use Rattle.key_names.specs.declared.names.LaneId.{LaneId}
use Rattle.key_names.specs.declared.names.LaneId.TheVariants.{Pool as PoolLane, Base as BaseLane, Cpu as CpuLane}
use Rattle.key_names.specs.declared.names.Step.{Step}
use Rattle.key_names.specs.declared.names.Step.TheVariants.{Look, Visit as Marked}
use Rattle.key_names.specs.declared.entries.Taken.TheVariants.{User}
use Rattle.key_names.specs.declared.entries.PoolEntry.{PoolEntry}
use Rattle.key_names.specs.declared.entries.BaseEntry.{BaseEntry}
use Rattle.key_names.specs.declared.entries.CpuEntry.{CpuEntry}
use Rattle.key_names.specs.declared.entries.CpuEntry.TheVariants.{Read as CpuRead}
use Rattle.key_names.specs.declared.errno.Errno.{Errno}
use Rattle.key_names.specs.declared.events.Answer.TheVariants.{Ok as Done, Interrupted}
use Rattle.key_names.specs.Lanes.CpuList.{taken_of, taken_at}
use Rattle.key_names.specs.Lanes.Book.{Lists, cpu_list}
use Rattle.key_names.specs.Callers.Calls.{Setting}
use Rattle.key_names.specs.Callers.Effects.{Effect, looked, at_pool, at_base, at_cpu, nothing_there, CpuVisit, effect_or, effect_at, effects_of, pool_visit, base_visit, cpu_visit}
use Rattle.key_names.specs.Callers.Forms.{SysForm, LookedForm, ReadForm, CpuReadForm, Waited, WaitedInVain}
use Rattle.key_names.specs.Callers.Answers.{found_unready, was_interrupted, is_interrupt, system_answer}
use Rattle.key_names.specs.Kernel.Vgetrandom.{SystemAnswer, HostStep, publishes, system_call, at_point}
use Rattle.key_names.specs.Callers.VreadSteps.{answer_after, answer_with, errno_of, Shows}
use Rattle.key_names.specs.Kernel.Keystream.{keystream}
use Rattle.key_names.specs.Keys.KeyInUse.{cpu_call_value, cpu_used_at, cpu_value_at, cpu_value_after, cpu_value_in_use}
use Rattle.key_names.proofs.Vgetrandom.CallsKeep.{match_cases}
use Rattle.key_names.proofs.Vgetrandom.StatesReplay.{KeyIs}
use Rattle.key_names.proofs.Vgetrandom.KeyReads.{IsKeyRead, KeyReads}

-- if the effect is a visit of a CPU, then the CPU's list has the visit's entry at the visit's place
abbrev pub IsThere : Lists → Effect → Type 0
IsThere lists (looked g) = Unit {0}
IsThere lists (at_pool v) = Unit {0}
IsThere lists (at_base v) = Unit {0}
IsThere lists (at_cpu v) = (slice_get (cpu_list lists v.cpu) v.place ≡ Some v.entry)
    × (v.serves ≡ (cpu_visit lists v.cpu v.place v.entry).serves)
IsThere lists nothing_there = Unit {0}

abbrev pub AllThere : Lists → List Effect → Type 0
AllThere lists [] = Unit {0}
AllThere lists (d ∷ ds) = IsThere lists d × AllThere lists ds

there_at_pool : (lists : Lists) (place : ℕ) (o : Option PoolEntry) →
    IsThere lists (effect_or (λ e. at_pool (pool_visit lists place e)) o)
there_at_pool lists place None = tt
there_at_pool lists place (Some e) = tt

there_at_base : (lists : Lists) (place : ℕ) (o : Option BaseEntry) →
    IsThere lists (effect_or (λ e. at_base (base_visit lists place e)) o)
there_at_base lists place None = tt
there_at_base lists place (Some e) = tt

there_at_cpu : (lists : Lists) (c place : ℕ) (o : Option CpuEntry) → slice_get (cpu_list lists c) place ≡ o →
    IsThere lists (effect_or (λ e. at_cpu (cpu_visit lists c place e)) o)
there_at_cpu lists c place None is = tt
there_at_cpu lists c place (Some e) is = (is, refl)

there_at : (lists : Lists) (lane : LaneId) (place : ℕ) → IsThere lists (effect_at lists lane place)
there_at lists PoolLane place = there_at_pool lists place (slice_get lists.pool place)
there_at lists BaseLane place = there_at_base lists place (slice_get lists.base place)
there_at lists (CpuLane c) place = there_at_cpu lists c place (slice_get (cpu_list lists c) place) refl

-- IsThere holds for each effect of the steps: each visit of a CPU is in that CPU's list
pub all_there : (lists : Lists) (steps : List Step) → AllThere lists (effects_of lists steps)
all_there lists [] = tt
all_there lists (Look g ∷ steps) = (tt, all_there lists steps)
all_there lists (Marked mark ∷ steps) = (there_at lists mark.lane mark.place, all_there lists steps)

pub there_append : (lists : Lists) (xs ys : List Effect) → AllThere lists (xs ++ ys) → AllThere lists xs × AllThere lists ys
there_append lists [] ys h = (tt, h)
there_append lists (x ∷ xs) ys h =
    let m : AllThere lists xs × AllThere lists ys = there_append lists xs ys h.1 in ((h.0, m.0), m.1)

-- the answer of a system call without flags is `Ok`, unless the call was interrupted
pub answers_done : (effects : List Effect) → was_interrupted effects ≡ false → system_answer 0 effects ≡ Done
answers_done effects is = go (found_unready effects) refl
  where
    go : (b : Bool) → found_unready effects ≡ b → system_answer 0 effects ≡ Done
    go true at = rw (at, is) refl
    go false at = rw (at, is) refl

answers_interrupted : (effects : List Effect) → was_interrupted effects ≡ true → system_answer 0 effects ≡ Interrupted
answers_interrupted effects is = go (found_unready effects) refl
  where
    go : (b : Bool) → found_unready effects ≡ b → system_answer 0 effects ≡ Interrupted
    go true at = rw (at, is) refl
    go false at = rw (at, is) refl

-- the answer of a system call is a key of 32 bytes that a CPU's visit handed over
abbrev WasRead : Lists → SystemAnswer → Type 0
WasRead lists answer = IsKeyRead (cpu_list lists) answer × KeyIs lists answer

-- the visit of a CPU takes 32 bytes for a user, and serves the key that it hands over
record Took32 (lists : Lists) (cpu : CpuVisit) : Type 0 where
  is : (taken_at (cpu_list lists cpu.cpu) cpu.place ≡ Some (User 32))
      × (cpu.serves ≡ cpu_call_value lists cpu.cpu cpu.place)

took : (lists : Lists) (cpu : CpuVisit) (look : ℕ) (refill : Option ℕ) → cpu.entry ≡ CpuRead look refill (User 32) →
    IsThere lists (at_cpu cpu) → Took32 lists cpu
took lists cpu look refill reads there =
    let e : CpuEntry = CpuRead look refill (User 32) in
    let before : List ℕ = cpu_value_after lists (take cpu.place (cpu_list lists cpu.cpu)) in
    let used : cpu_used_at lists cpu.cpu cpu.place ≡ cpu_value_in_use lists e before =
    ap (cpu_value_at lists before) (there.0 ∙ ap Some reads) in
    record {
      is = (
        ap (option_and_then taken_of) (there.0 ∙ ap Some reads),
        there.1 ∙ ap (λ e. (cpu_visit lists cpu.cpu cpu.place e).serves) reads
            ∙ ap (λ v. keystream v 32 32) (sym used),
      );
    }

-- `WasRead` holds for the answer of a system call with these effects
abbrev Answered : Lists → List Effect → Type 0
Answered lists call = WasRead lists (answer_after 0 call)

read_answered : (lists : Lists) (call : List Effect) → was_interrupted call ≡ false →
    WasRead lists (answer_with None call) → Answered lists call
read_answered lists call is read =
    let P : Option Errno → Type 0 = λ e. WasRead lists (answer_with e call) in
    subst P (sym (ap errno_of (answers_done call is))) read

cpu_read_answered : (lists : Lists) (set : Setting) (g : ℕ) (call rest : List Effect) → call ≡ looked g ∷ rest →
    AllThere lists call →
    CpuReadForm set (User 32) rest → Answered lists call
cpu_read_answered lists set g call rest is there (inl plain) =
    let ds : List Effect = looked g ∷ looked plain.look ∷ at_cpu plain.cpu ∷ [] in
    let all : call ≡ ds = is ∙ ap (λ ds. looked g ∷ ds) plain.effects_are in
    let P : List Effect → Type 0 = λ ds. AllThere lists ds in
    let h : AllThere lists ds = subst P all there in
    let Q : List Effect → Type 0 = λ ds. Answered lists ds in
    subst Q (sym all) (read_answered lists ds refl (took lists plain.cpu plain.look None plain.reads h.1.1.0).is)
cpu_read_answered lists set g call rest is there (inr refilled) =
    let ds : List Effect = looked g ∷ looked refilled.look ∷ at_base refilled.base ∷ at_cpu refilled.cpu ∷ [] in
    let all : call ≡ ds = is ∙ ap (λ ds. looked g ∷ ds) refilled.effects_are in
    let P : List Effect → Type 0 = λ ds. AllThere lists ds in
    let h : AllThere lists ds = subst P all there in
    let Q : List Effect → Type 0 = λ ds. Answered lists ds in
    subst Q (sym all) (read_answered lists ds refl
    (took lists refilled.cpu refilled.look (Some refilled.base.place) refilled.reads h.1.1.1.0).is)

waited_answered : (lists : Lists) (set : Setting) (g : ℕ) (call rest : List Effect) → call ≡ looked g ∷ rest →
    AllThere lists call →
    Waited set 32 rest → Answered lists call
waited_answered lists set g call rest is there waited = go waited.reads
  where
    go : CpuReadForm set (User 32) waited.rest → Answered lists call
    go (inl plain) =
        let ds : List Effect = looked g ∷ at_base waited.wait ∷ at_base waited.resume ∷ looked plain.look ∷ at_cpu
        plain.cpu ∷ [] in
        let all : call ≡ ds = is ∙ ap (λ ds. looked g ∷ ds)
        (waited.effects_are ∙ ap (λ ds. at_base waited.wait ∷ at_base waited.resume ∷ ds) plain.effects_are) in
        let P : List Effect → Type 0 = λ ds. AllThere lists ds in
        let h : AllThere lists ds = subst P all there in
        let Q : List Effect → Type 0 = λ ds. Answered lists ds in
        subst Q (sym all) (read_answered lists ds refl
        (took lists plain.cpu plain.look None plain.reads h.1.1.1.1.0).is)
    go (inr refilled) =
        let ds : List Effect = looked g ∷ at_base waited.wait ∷ at_base waited.resume ∷ looked refilled.look ∷ at_base
        refilled.base ∷ at_cpu refilled.cpu ∷ [] in
        let all : call ≡ ds = is ∙ ap (λ ds. looked g ∷ ds)
        (waited.effects_are ∙ ap (λ ds. at_base waited.wait ∷ at_base waited.resume ∷ ds) refilled.effects_are) in
        let P : List Effect → Type 0 = λ ds. AllThere lists ds in
        let h : AllThere lists ds = subst P all there in
        let Q : List Effect → Type 0 = λ ds. Answered lists ds in
        subst Q (sym all) (read_answered lists ds refl
        (took lists refilled.cpu refilled.look (Some refilled.base.place) refilled.reads h.1.1.1.1.1.0).is)

vain_answered : (lists : Lists) (g : ℕ) (call rest : List Effect) → call ≡ looked g ∷ rest → WaitedInVain rest →
    IsKeyRead (cpu_list lists) (answer_after 0 call)
vain_answered lists g call rest is vain =
    let ds : List Effect = looked g ∷ at_base vain.wait ∷ at_base vain.interrupt ∷ [] in
    let all : call ≡ ds = is ∙ ap (λ ds. looked g ∷ ds) vain.effects_are in
    let stopped : was_interrupted ds ≡ true = ap is_interrupt vain.interrupts in
    let Q : List Effect → Type 0 = λ ds. IsKeyRead (cpu_list lists) (answer_after 0 ds) in
    let P : Option Errno → Type 0 = λ e. IsKeyRead (cpu_list lists) (answer_with e ds) in
    subst Q (sym all) (subst P (sym (ap errno_of (answers_interrupted ds stopped))) tt)

known_look : (g : ℕ) → 1 ≤ g → (g == 0 && true) ≡ true → ⊥
known_look g some unready = go (g == 0) refl unready
  where
    go : (b : Bool) → (g == 0) ≡ b → (b && true) ≡ true → ⊥
    go true is same = let zero_is : g ≡ 0 = eqb-true g 0 is in absurd (omega arith)
    go false is same = cc

-- a system call of 32 bytes without flags answers with a key read from a CPU, or with an error. If the call's look
-- found the core ready, the answer is a key
abbrev AnsweredLook : Lists → ℕ → List Effect → Type 0
AnsweredLook lists look call =
    IsKeyRead (cpu_list lists) (answer_after 0 call) × (1 ≤ look → KeyIs lists (answer_after 0 call))

pub sys_answered : (lists : Lists) (set : Setting) (call : List Effect) → AllThere lists call →
    (form : SysForm set 32 0 call) → AnsweredLook lists form.0 call
sys_answered lists set call there form = go form.0 form.1 form.2 form.3
  where
    always : (g : ℕ) → Answered lists call → AnsweredLook lists g call
    always g answered = (answered.0, λ some. answered.1)

    go : (g : ℕ) (rest : List Effect) → call ≡ looked g ∷ rest → LookedForm set 32 0 g rest → AnsweredLook lists g call
    go g rest is looked_form = match_cases (WaitedInVain rest ⊎ Waited set 32 rest) (ReadForm set (User 32) g rest)
        (AnsweredLook lists g call)
        (g == 0 && true)
        (λ unready w. elim w [
          | inl vain ↦ (vain_answered lists g call rest is vain, λ some. absurd (known_look g some unready))
          | inr waited ↦ always g (waited_answered lists set g call rest is there waited)
        ])
        (λ known r. elim r [
          | inl draw ↦ (let zero_is : (g == 0 && true) ≡ true = ap (λ i. i == 0 && true) draw.0 in cc)
          | inr read ↦ always g (cpu_read_answered lists set g call rest is there read)
        ])
        looked_form

-- `IsKeyRead` holds for each system call for a key in the steps that a line shows
pub key_reads : (lists : Lists) (set : Setting) (steps : List HostStep) (effects : List Effect) → AllThere lists effects →
    Shows set steps effects →
    KeyReads (cpu_list lists) steps
key_reads lists set [] effects there shows = tt
key_reads lists set (publishes g ∷ steps) effects there shows =
    let P : List Effect → Type 0 = λ ds. AllThere lists ds in
    let h : AllThere lists (looked shows.0 ∷ shows.1) = subst P shows.2 there in
    key_reads lists set steps shows.1 h.1 (shows.3).1
key_reads lists set (at_point point wiped ∷ steps) effects there shows = key_reads lists set steps effects there shows
key_reads lists set (system_call n flags answer ∷ steps) effects there shows =
    let P : List Effect → Type 0 = λ ds. AllThere lists ds in
    let h : AllThere lists shows.call × AllThere lists shows.rest = there_append lists shows.call shows.rest
    (subst P shows.effects_are there) in (
      λ is_32 no_flags. let F : ℕ → Type 0 = λ i. SysForm set i flags shows.call in
          let G : ℕ → Type 0 = λ i. SysForm set 32 i shows.call in
          let form : SysForm set 32 0 shows.call = subst G no_flags (subst F is_32 shows.form) in
          let Q : SystemAnswer → Type 0 = λ a. IsKeyRead (cpu_list lists) a in
          let same : answer ≡ answer_after 0 shows.call = shows.answers
          ∙ ap (λ f. answer_after f shows.call) no_flags in
          subst Q (sym same) (sys_answered lists set shows.call h.0 form).0,
      key_reads lists set steps shows.rest h.1 shows.goes_on,
    )
