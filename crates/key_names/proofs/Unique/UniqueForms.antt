-- The form of a line and the earlier entries determine the entry of each visit of the line. So two books with the same
-- earlier entries also have the same entries for the line's steps.
use Rattle.std.proofs.Common.{◌≡◌, ℕ, ◌≤◌, List, [], ◌⊎◌, inl, inr, refl, sym, subst, ap, ◌∙◌, arith, Some, None}
use Rattle.std.specs.Prelude.{◌==◌, ◌&&◌, not}
use Rattle.key_names.specs.declared.names.Who.{Who}
use Rattle.key_names.specs.declared.entries.Taken.{Taken}
use Rattle.key_names.specs.declared.entries.Taken.TheVariants.{User}
use Rattle.key_names.specs.declared.entries.PoolEntry.{PoolEntry}
use Rattle.key_names.specs.declared.entries.PoolEntry.TheVariants.{Extract}
use Rattle.key_names.specs.declared.entries.BaseEntry.{BaseEntry}
use Rattle.key_names.specs.declared.entries.BaseEntry.TheVariants.{Draw, Refill, Resume, Interrupt}
use Rattle.key_names.specs.declared.entries.CpuEntry.{CpuEntry}
use Rattle.key_names.specs.declared.entries.CpuEntry.TheVariants.{Read as CpuRead}
use Rattle.key_names.specs.Lanes.BaseList.{BaseState, BaseFits}
use Rattle.key_names.specs.Kernel.Flags.{is_bad, is_nonblock, is_insecure}
use Rattle.key_names.specs.Lanes.Book.{Book, lists_of}
use Rattle.key_names.specs.Callers.Calls.{Setting}
use Rattle.key_names.specs.Callers.Effects.{Effect}
use Rattle.key_names.proofs.Unique.TwoBooks.{SameSteps, AllInferred, Tells, none_inferred, through, inferred_nothing, inferred_match}
use Rattle.key_names.proofs.Unique.TwoBooks.{inferred_looked, inferred_either}
use Rattle.key_names.specs.Callers.Forms.{Rooted, BaseOnly, DrawForm, PlainRead, RefilledRead, CpuReadForm, ReadForm}
use Rattle.key_names.specs.Callers.Forms.{WaitedInVain, Waited, LookedForm, SysForm, PoolOnly, CpuOnly}

module _ (book book' : Book) (who : Who) where
  abbrev Same : List Effect → List Effect → Type 0
  Same = SameSteps book book' who

  abbrev Inferred : List Effect → List Effect → Type 0
  Inferred = AllInferred book book' who

  abbrev Tell : (List Effect → Type 0) → (List Effect → Type 0) → Type 0
  Tell = Tells book book' who

  pub inferred_rooted : (set : Setting) (e e' : ℕ → BaseEntry) →
      ((lists_of book).pool ≡ (lists_of book').pool → (r : ℕ) → e r ≡ e' r) → Tell (Rooted set e) (Rooted set e')
  inferred_rooted set e e' alike ds ds' f f' same =
      through book book' who f.effects_are f'.effects_are
      (λ s. (
        λ cpus. f.extracts ∙ ap (λ i. Extract set.hw i) s.1.0.place ∙ sym f'.extracts,
        (λ pool generations. f.names ∙ alike pool f.pool.place ∙ ap e' s.0.place ∙ sym f'.names, tt),
      ))
      same

  pub inferred_same_rooted : (set : Setting) (e : ℕ → BaseEntry) → Tell (Rooted set e) (Rooted set e)
  inferred_same_rooted set e = inferred_rooted set e e (λ pool r. refl)

  pub inferred_base_only : (e : BaseEntry) → Tell (BaseOnly e) (BaseOnly e)
  inferred_base_only e ds ds' f f' same =
      through book book' who f.effects_are f'.effects_are (λ s. (λ pool generations. f.is ∙ sym f'.is, tt)) same

  pub inferred_pool_only : (e : PoolEntry) → Tell (PoolOnly e) (PoolOnly e)
  inferred_pool_only e ds ds' f f' same =
      through book book' who f.effects_are f'.effects_are (λ s. (λ cpus. f.is ∙ sym f'.is, tt)) same

  pub inferred_cpu_only : (c : ℕ) (e : CpuEntry) → Tell (CpuOnly c e) (CpuOnly c e)
  inferred_cpu_only c e ds ds' f f' same =
      through book book' who f.effects_are f'.effects_are (λ s. (λ fills. f.is ∙ sym f'.is, tt)) same

  -- the steps determine whether the base's entry names a root: the entry names one exactly if a visit of the pool comes
  -- first
  pub inferred_rooted_or_not : (set : Setting) (e : ℕ → BaseEntry) (plain : BaseEntry) →
      Tell (λ ds. Rooted set e ds ⊎ BaseOnly plain ds) (λ ds. Rooted set e ds ⊎ BaseOnly plain ds)
  inferred_rooted_or_not set e plain =
      inferred_either book book' who (Rooted set e) (BaseOnly plain) (Rooted set e) (BaseOnly plain)
      (inferred_same_rooted set e)
      (λ ds ds' f f' same. through book book' who f.effects_are f'.effects_are (λ s. absurd s.0) same)
      (λ ds ds' f f' same. through book book' who f.effects_are f'.effects_are (λ s. absurd s.0) same)
      (inferred_base_only plain)

  pub inferred_draw : (set : Setting) (taken : Taken) → Tell (DrawForm set taken) (DrawForm set taken)
  inferred_draw set taken = inferred_rooted_or_not set (λ r. Draw (Some r) taken) (Draw None taken)

  pub inferred_cpu_read : (set : Setting) (taken : Taken) → Tell (CpuReadForm set taken) (CpuReadForm set taken)
  inferred_cpu_read set taken =
      inferred_either book book' who (PlainRead set taken) (RefilledRead set taken) (PlainRead set taken)
      (RefilledRead set taken)
      (λ ds ds' f f' same. through book book' who f.effects_are f'.effects_are
      (λ s. (tt, (λ fills. f.reads ∙ ap (λ g. CpuRead g None taken) s.0 ∙ sym f'.reads, tt))) same)
      (λ ds ds' f f' same. through book book' who f.effects_are f'.effects_are (λ s. absurd s.1.0) same)
      (λ ds ds' f f' same. through book book' who f.effects_are f'.effects_are (λ s. absurd s.1.0) same)
      (λ ds ds' f f' same. through book book' who f.effects_are f'.effects_are
      (λ s. (
        tt,
        (
          λ pool generations. f.refills ∙ ap (λ k. Refill set.cpu k) s.1.1.0.place ∙ sym f'.refills,
          (
            λ fills. f.reads ∙ ap (λ g. CpuRead g (Some f.base.place) taken) s.0
                ∙ ap (λ b. CpuRead f'.look (Some b) taken) s.1.0.place ∙ sym f'.reads,
            tt,
          ),
        ),
      )) same)

  pub inferred_read : (set : Setting) (taken : Taken) (g : ℕ) → Tell (ReadForm set taken g) (ReadForm set taken g)
  inferred_read set taken g ds ds' (inl f) (inl f') same = inferred_draw set taken ds ds' f.1 f'.1 same
  inferred_read set taken g ds ds' (inl f) (inr f') same =
      draw_or_cpu f.1 f'
    where
      draw_or_cpu : DrawForm set taken ds → CpuReadForm set taken ds' → Inferred ds ds'
      draw_or_cpu (inl d) (inl c) = through book book' who d.effects_are c.effects_are (λ s. absurd s.0) same
      draw_or_cpu (inl d) (inr c) = through book book' who d.effects_are c.effects_are (λ s. absurd s.0) same
      draw_or_cpu (inr d) (inl c) = through book book' who d.effects_are c.effects_are (λ s. absurd s.0) same
      draw_or_cpu (inr d) (inr c) = through book book' who d.effects_are c.effects_are (λ s. absurd s.0) same
  inferred_read set taken g ds ds' (inr f) (inl f') same =
      cpu_or_draw f f'.1
    where
      cpu_or_draw : CpuReadForm set taken ds → DrawForm set taken ds' → Inferred ds ds'
      cpu_or_draw (inl c) (inl d) = through book book' who c.effects_are d.effects_are (λ s. absurd s.0) same
      cpu_or_draw (inl c) (inr d) = through book book' who c.effects_are d.effects_are (λ s. absurd s.0) same
      cpu_or_draw (inr c) (inl d) = through book book' who c.effects_are d.effects_are (λ s. absurd s.0) same
      cpu_or_draw (inr c) (inr d) = through book book' who c.effects_are d.effects_are (λ s. absurd s.0) same
  inferred_read set taken g ds ds' (inr f) (inr f') same = inferred_cpu_read set taken ds ds' f f' same

  -- a resume and an interrupt cannot both be possible after the same entries: they need different generations
  resume_or_interrupt : (s s' : BaseState) (e e' : BaseEntry) → e ≡ Resume → e' ≡ Interrupt → BaseFits s e →
      BaseFits s' e' →
      s.generation ≡ s'.generation → ⊥
  resume_or_interrupt s s' e e' p q fits fits' same =
      let P : BaseEntry → Type 0 = λ e. BaseFits s e in
      let Q : BaseEntry → Type 0 = λ e. BaseFits s' e in
      let a : 1 ≤ s.generation = subst P p fits in
      let b : (s'.generation ≡ 0) × (s'.running ≡ 0) = subst Q q fits' in
      let zero : s'.generation ≡ 0 = b.0 in omega arith

  inferred_waited : (set : Setting) (n : ℕ) → Tell (Waited set n) (Waited set n)
  inferred_waited set n ds ds' f f' same =
      through book book' who f.effects_are f'.effects_are
      (λ s. (
        λ pool generations. f.waits ∙ sym f'.waits,
        (
          λ pool generations. f.resumes ∙ sym f'.resumes,
          inferred_match book book' who (n == 0) (λ ds. ds ≡ []) (CpuReadForm set (User n)) (inferred_nothing book book' who)
              (inferred_cpu_read set (User n))
              f.rest f'.rest f.reads f'.reads s.1.1,
        ),
      ))
      same

  inferred_wait : (set : Setting) (n : ℕ) →
      Tell (λ ds. WaitedInVain ds ⊎ Waited set n ds) (λ ds. WaitedInVain ds ⊎ Waited set n ds)
  inferred_wait set n =
      inferred_either book book' who WaitedInVain (Waited set n) WaitedInVain (Waited set n)
      (λ ds ds' f f' same. through book book' who f.effects_are f'.effects_are
      (λ s. (
        λ pool generations. f.waits ∙ sym f'.waits,
        (λ pool generations. f.interrupts ∙ sym f'.interrupts, tt),
      )) same)
      (λ ds ds' f f' same. through book book' who f.effects_are f'.effects_are
      (λ s. (
        λ pool generations. f.waits ∙ sym f'.waits,
        (
          λ pool generations. absurd (resume_or_interrupt f'.resume.before f.interrupt.before f'.resume.entry
              f.interrupt.entry f'.resumes f.interrupts s.1.0.fits' s.1.0.fits (sym generations)),
          tt,
        ),
      )) same)
      (λ ds ds' f f' same. through book book' who f.effects_are f'.effects_are
      (λ s. (
        λ pool generations. f.waits ∙ sym f'.waits,
        (
          λ pool generations. absurd (resume_or_interrupt f.resume.before f'.interrupt.before f.resume.entry
              f'.interrupt.entry f.resumes f'.interrupts s.1.0.fits s.1.0.fits' generations),
          none_inferred book book' who f.rest,
        ),
      )) same)
      (inferred_waited set n)

  inferred_after_look : (set : Setting) (n flags g : ℕ) → Tell (LookedForm set n flags g) (LookedForm set n flags g)
  inferred_after_look set n flags g =
      inferred_match book book' who (g == 0 && not (is_insecure flags)) _ _
      (inferred_match book book' who (is_nonblock flags) _ _ (inferred_nothing book book' who) (inferred_wait set n))
      (inferred_match book book' who (n == 0) _ _ (inferred_nothing book book' who) (inferred_read set (User n) g))

  -- a system call's form determines the entry of each visit
  pub inferred_system : (set : Setting) (n flags : ℕ) → Tell (SysForm set n flags) (SysForm set n flags)
  inferred_system set n flags =
      inferred_match book book' who (is_bad flags) _ _ (inferred_nothing book book' who)
      (inferred_looked book book' who (LookedForm set n flags) (inferred_after_look set n flags))
