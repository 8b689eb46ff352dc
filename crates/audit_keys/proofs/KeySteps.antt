-- If steps begin with a system call that reads a key, `key_in_front` gives the visit of a CPU by which the call reads
-- this key.
use Rattle.std.proofs.Common.{◌≡◌, ℕ, ◌≤◌, ◌⊎◌, inl, inr, Bool, true, false, Option, Some, None, List, [], ◌∷◌, ◌++◌, refl, subst, ap, ◌∙◌, arith}
use Rattle.std.specs.Prelude.{◌&&◌, MatchBool, slice_get}
use Rattle.key_names.specs.declared.names.LaneId.{LaneId}
use Rattle.key_names.specs.declared.names.LaneId.TheVariants.{Pool as PoolLane, Base as BaseLane, Cpu as CpuLane}
use Rattle.key_names.specs.declared.names.Step.{Step}
use Rattle.key_names.specs.declared.names.Step.TheVariants.{Look, Visit as Marked}
use Rattle.key_names.specs.declared.entries.PoolEntry.{PoolEntry}
use Rattle.key_names.specs.declared.entries.BaseEntry.{BaseEntry}
use Rattle.key_names.specs.declared.entries.CpuEntry.{CpuEntry}
use Rattle.key_names.specs.declared.entries.Taken.TheVariants.{User}
use Rattle.key_names.specs.Callers.Answers.{was_interrupted, served_bytes}
use Rattle.key_names.specs.Lanes.Book.{Lists, cpu_list}
use Rattle.key_names.specs.Callers.Calls.{Setting}
use Rattle.key_names.specs.Callers.Effects.{Effect, looked, at_pool, at_base, at_cpu, nothing_there, BaseVisit, CpuVisit, effect_or, effect_at, effects_of, pool_visit, base_visit, cpu_visit}
use Rattle.key_names.specs.Callers.Forms.{SysForm, ReadForm, Waited, WaitedInVain}
use Rattle.key_names.specs.Kernel.Vgetrandom.{SystemAnswer, read}
use Rattle.key_names.specs.Callers.VreadSteps.{answer_after, answer_with, errno_of, last_place}
use Rattle.key_names.proofs.Transcripts.KeyVisits.{answers_done}
use Rattle.key_names.proofs.Unique.UniqueAttempts.{AllReady, ready_at, not_zero}
use Rattle.audit_keys.specs.declared.leaving.KeyRead.{KeyRead}
use Rattle.audit_keys.specs.Left.{key_read, second_key, key_in_front, or_key}

module _ (lists : Lists) where
  -- ---- the step by which a system call reads a key ----

  -- if the effect of `step` is a visit of a CPU, `step` reads the key of this visit. If the effect is a look, or a
  -- visit of the pool or of the base, `step` reads no key
  abbrev Tells : Effect → Step → Type 0
  Tells (looked g) step = step ≡ Look g
  Tells (at_pool v) step = key_read step ≡ None
  Tells (at_base v) step = key_read step ≡ None
  Tells (at_cpu v) step = key_read step ≡ Some (record { cpu = v.cpu; place = v.place })
  Tells nothing_there step = Unit {0}

  pool_tells : (step : Step) (place : ℕ) (o : Option PoolEntry) → key_read step ≡ None →
      Tells (effect_or (λ e. at_pool (pool_visit lists place e)) o) step
  pool_tells step place None none = tt
  pool_tells step place (Some e) none = none

  base_tells : (step : Step) (place : ℕ) (o : Option BaseEntry) → key_read step ≡ None →
      Tells (effect_or (λ e. at_base (base_visit lists place e)) o) step
  base_tells step place None none = tt
  base_tells step place (Some e) none = none

  cpu_tells : (step : Step) (c place : ℕ) (o : Option CpuEntry) →
      key_read step ≡ Some (record { cpu = c; place = place }) →
      Tells (effect_or (λ e. at_cpu (cpu_visit lists c place e)) o) step
  cpu_tells step c place None is = tt
  cpu_tells step c place (Some e) is = is

  lane_tells : (step : Step) (lane : LaneId) (place stamp : ℕ) →
      step ≡ Marked (record { lane = lane; place = place; stamp = stamp }) → Tells (effect_at lists lane place) step
  lane_tells step PoolLane place stamp is = pool_tells step place (slice_get lists.pool place) (ap key_read is)
  lane_tells step BaseLane place stamp is = base_tells step place (slice_get lists.base place) (ap key_read is)
  lane_tells step (CpuLane c) place stamp is =
      cpu_tells step c place (slice_get (cpu_list lists c) place) (ap key_read is)

  pub record FirstStep (d : Effect) (ds : List Effect) (steps : List Step) : Type 0 where
    pub step : Step
    pub rest : List Step
    pub steps_are : steps ≡ step ∷ rest
    pub tells : Tells d step
    pub following : effects_of lists rest ≡ ds

  pub first_step : (d : Effect) (ds : List Effect) (steps : List Step) → effects_of lists steps ≡ d ∷ ds →
      FirstStep d ds steps
  first_step d ds [] e = absurd cc
  first_step d ds (Look g ∷ rest) e =
      let p : looked g ≡ d = cc in let P : Effect → Type 0 = λ x. Tells x (Look g) in record {
        step = Look g;
        rest = rest;
        steps_are = refl;
        tells = subst P p refl;
        following = cc;
      }
  first_step d ds (Marked mark ∷ rest) e =
      let p : effect_at lists mark.lane mark.place ≡ d = cc in
      let P : Effect → Type 0 = λ x. Tells x (Marked mark) in record {
        step = Marked mark;
        rest = rest;
        steps_are = refl;
        tells = subst P p (lane_tells (Marked mark) mark.lane mark.place mark.stamp refl);
        following = cc;
      }

  -- ---- the system call that reads a key for a state ----

  -- `steps` begin with a system call that reads `key`, and `rest` are the steps after this call
  pub record KeyListed (steps : List Step) (more : List Effect) (answer : SystemAnswer) : Type 0 where
    pub key : KeyRead
    pub rest : List Step
    pub listed : key_in_front steps ≡ Some (record { key = key; rest = rest })
    pub following : effects_of lists rest ≡ more
    pub bytes : List ℕ
    pub answer_is : answer ≡ read bytes (Some (record { cpu = key.cpu; place = key.place }))
    pub ready : AllReady more

  module _ (steps : List Step) (call more : List Effect) (answer : SystemAnswer)
      (effects : effects_of lists steps ≡ call ++ more) (answers : answer ≡ answer_after 0 call) where
    -- if the effects `ds` of the system call were not interrupted, the answer is a read of the bytes that `ds` served,
    -- at the last place of `ds`
    answer_at : (ds : List Effect) → call ≡ ds → was_interrupted ds ≡ false →
        answer ≡ read (served_bytes ds) (last_place ds)
    answer_at ds is calm =
        answers ∙ ap (answer_after 0) is ∙ ap (λ a. answer_with (errno_of a) ds) (answers_done ds calm)

    plain_key : (g h : ℕ) (v : CpuVisit) → call ≡ looked g ∷ looked h ∷ at_cpu v ∷ [] → AllReady (call ++ more) →
        KeyListed steps more answer
    plain_key g h v is ready =
        let a = first_step (looked g) (looked h ∷ at_cpu v ∷ more) steps (effects ∙ ap (λ x. x ++ more) is) in
        let b = first_step (looked h) (at_cpu v ∷ more) a.rest a.following in
        let k = first_step (at_cpu v) more b.rest b.following in
        let r = ready_at (ap (λ x. x ++ more) is) ready in record {
          key = record { cpu = v.cpu; place = v.place };
          rest = k.rest;
          listed = ap key_in_front (a.steps_are ∙ ap (λ x. x ∷ a.rest) a.tells ∙ ap (λ x. Look g ∷ x)
              (b.steps_are ∙ ap (λ x. x ∷ b.rest) b.tells ∙ ap (λ x. Look h ∷ x) k.steps_are))
              ∙ ap (λ o. or_key o k.rest (second_key k.rest)) k.tells;
          following = k.following;
          bytes = served_bytes (looked g ∷ looked h ∷ at_cpu v ∷ []);
          answer_is = answer_at (looked g ∷ looked h ∷ at_cpu v ∷ []) is refl;
          ready = r.1.1;
        }

    refilled_key : (g h : ℕ) (u : BaseVisit) (v : CpuVisit) →
        call ≡ looked g ∷ looked h ∷ at_base u ∷ at_cpu v ∷ [] → AllReady (call ++ more) → KeyListed steps more answer
    refilled_key g h u v is ready =
        let a = first_step (looked g) (looked h ∷ at_base u ∷ at_cpu v ∷ more) steps (effects ∙ ap (λ x. x ++ more) is) in
        let b = first_step (looked h) (at_base u ∷ at_cpu v ∷ more) a.rest a.following in
        let d = first_step (at_base u) (at_cpu v ∷ more) b.rest b.following in
        let k = first_step (at_cpu v) more d.rest d.following in
        let r = ready_at (ap (λ x. x ++ more) is) ready in record {
          key = record { cpu = v.cpu; place = v.place };
          rest = k.rest;
          listed = ap key_in_front (a.steps_are ∙ ap (λ x. x ∷ a.rest) a.tells ∙ ap (λ x. Look g ∷ x)
              (b.steps_are ∙ ap (λ x. x ∷ b.rest) b.tells ∙ ap (λ x. Look h ∷ x) d.steps_are))
              ∙ ap (λ o. or_key o d.rest (second_key d.rest)) d.tells
              ∙ ap second_key k.steps_are ∙ ap (λ o. or_key o k.rest None) k.tells;
          following = k.following;
          bytes = served_bytes (looked g ∷ looked h ∷ at_base u ∷ at_cpu v ∷ []);
          answer_is = answer_at (looked g ∷ looked h ∷ at_base u ∷ at_cpu v ∷ []) is refl;
          ready = r.1.1;
        }

    pub key_listed : (set : Setting) → SysForm set 32 0 call → AllReady (call ++ more) → KeyListed steps more answer
    key_listed set form ready =
        let r : AllReady (looked form.0 ∷ (form.1 ++ more)) = ready_at (ap (λ ds. ds ++ more) form.2) ready in
        let P : Bool → Type 0 = λ b. MatchBool (b && true) (WaitedInVain form.1 ⊎ Waited set 32 form.1)
        (ReadForm set (User 32) form.0 form.1) in
        go (subst P (not_zero form.0 r.0) form.3) r.0
      where
        go : ReadForm set (User 32) form.0 form.1 → 1 ≤ form.0 → KeyListed steps more answer
        go (inl draw) some = let none : form.0 ≡ 0 = draw.0 in absurd (omega arith)
        go (inr (inl f)) some =
            plain_key form.0 f.look f.cpu (form.2 ∙ ap (λ ds. looked form.0 ∷ ds) f.effects_are) ready
        go (inr (inr f)) some =
            refilled_key form.0 f.look f.base f.cpu (form.2 ∙ ap (λ ds. looked form.0 ∷ ds) f.effects_are) ready
