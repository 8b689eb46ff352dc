-- Only an interrupt can contain a dump or make a dump due. So the samples of every other event are correct.
use Rattle.std.proofs.Common.{◌≡◌, ℕ, ◌⊎◌, inl, inr, Bool, true, false, not, List, [], ◌∷◌, sym, subst}
use Rattle.std.specs.Prelude.{MatchBool, ◌==◌, ◌&&◌, ⊤}
use Rattle.std.specs.List.{AllByRecursion}
use Rattle.key_names.specs.declared.entries.Taken.{Taken}
use Rattle.key_names.specs.declared.entries.Taken.TheVariants.{User, Kernel}
use Rattle.key_names.specs.declared.entries.PoolEntry.{PoolEntry}
use Rattle.key_names.specs.declared.entries.BaseEntry.{BaseEntry}
use Rattle.key_names.specs.declared.entries.CpuEntry.{CpuEntry}
use Rattle.key_names.specs.declared.events.Event.{Event}
use Rattle.key_names.specs.declared.events.Event.TheVariants.{Device, Write, Add, Credit, Bits, Irq, Input, Read, Vread, Kread, Dread, Uread, Int8, Int16, Int32, Int64, Reseed, Tick, Fork, Inside, Prepare, Online, Vmfork}
use Rattle.key_names.specs.Lanes.PoolList.{Crossing, crossing, ready, early, none}
use Rattle.key_names.specs.Kernel.Flags.{is_bad, is_nonblock, is_insecure}
use Rattle.key_names.specs.Callers.Calls.{Setting}
use Rattle.key_names.specs.Callers.Effects.{Effect, CpuVisit, looked, at_pool, at_base, at_cpu}
use Rattle.key_names.specs.Kernel.FastPool.{FastPool}
use Rattle.key_names.specs.Callers.Forms.{Rooted, BaseOnly, Cross, DrawForm, CpuReadForm, Looked, ReadForm, WaitedInVain, Waited, LookedForm, SysForm, CreditForm, PoolOnly, IntForm, ReseedForm, Form, EndForm}
use Rattle.key_names.specs.Callers.LineSamples.{EntryIsQuiet, IsQuiet, SamplesConform}

-- the event is not an interrupt
abbrev pub IsNoInterrupt : Event → Type 0
IsNoInterrupt (Irq v1 v2) = ⊥
IsNoInterrupt _ = ⊤

module _ (fast : ℕ → ℕ → FastPool) where
  abbrev Quiet : List Effect → Type 0
  Quiet effects = AllByRecursion (IsQuiet fast) effects

  are : (xs ys : List Effect) → xs ≡ ys → Quiet ys → Quiet xs
  are xs ys same quiet = subst Quiet (sym same) quiet

  empty : (effects : List Effect) → effects ≡ [] → Quiet effects
  empty effects same = are effects [] same tt

  cpu : (v : CpuVisit) (e : CpuEntry) → v.entry ≡ e → EntryIsQuiet (fast v.cpu v.place) e → IsQuiet fast (at_cpu v)
  cpu v e same quiet = subst (EntryIsQuiet (fast v.cpu v.place)) (sym same) quiet

  rooted : (set : Setting) (entry : ℕ → BaseEntry) (effects : List Effect) → Rooted set entry effects → Quiet effects
  rooted set entry effects f = are effects (at_pool f.pool ∷ at_base f.base ∷ []) f.effects_are (tt, (tt, tt))

  base_only : (entry : BaseEntry) (effects : List Effect) → BaseOnly entry effects → Quiet effects
  base_only entry effects f = are effects (at_base f.base ∷ []) f.effects_are (tt, tt)

  pool_only : (entry : PoolEntry) (effects : List Effect) → PoolOnly entry effects → Quiet effects
  pool_only entry effects f = are effects (at_pool f.pool ∷ []) f.effects_are (tt, tt)

  cross : (set : Setting) (to : Crossing) (effects : List Effect) → Cross set to effects → Quiet effects
  cross set none effects f = empty effects f
  cross set ready effects f = rooted set _ effects f
  cross set early effects (inl f) = rooted set _ effects f
  cross set early effects (inr f) = base_only _ effects f

  credit : (set : Setting) (entry : PoolEntry) (effects : List Effect) → CreditForm set entry effects → Quiet effects
  credit set entry effects f =
      are effects (at_pool f.pool ∷ f.rest) f.effects_are
      (tt, cross set (crossing f.pool.before.bits f.pool.after.bits) f.rest f.crosses)

  draw : (set : Setting) (taken : Taken) (effects : List Effect) → DrawForm set taken effects → Quiet effects
  draw set taken effects (inl f) = rooted set _ effects f
  draw set taken effects (inr f) = base_only _ effects f

  cpu_read : (set : Setting) (taken : Taken) (effects : List Effect) → CpuReadForm set taken effects → Quiet effects
  cpu_read set taken effects (inl f) =
      are effects (looked f.look ∷ at_cpu f.cpu ∷ []) f.effects_are (tt, (cpu f.cpu _ f.reads tt, tt))
  cpu_read set taken effects (inr f) =
      are effects (looked f.look ∷ at_base f.base ∷ at_cpu f.cpu ∷ []) f.effects_are
      (tt, (tt, (cpu f.cpu _ f.reads tt, tt)))

  after_look : (P : ℕ → List Effect → Type 0) → ((g : ℕ) (rest : List Effect) → P g rest → Quiet rest) →
      (effects : List Effect) → Looked P effects → Quiet effects
  after_look P quiet effects f = are effects (looked f.0 ∷ f.1) f.2 (tt, quiet f.0 f.1 f.3)

  -- if A implies that the effects are quiet, and so does B, then the choice between A and B by `b` implies it, too
  choice : (b : Bool) (A B : Type 0) (effects : List Effect) → (A → Quiet effects) → (B → Quiet effects) → MatchBool b A B →
      Quiet effects
  choice true A B effects x y h = x h
  choice false A B effects x y h = y h

  read : (set : Setting) (taken : Taken) (g : ℕ) (rest : List Effect) → ReadForm set taken g rest → Quiet rest
  read set taken g rest (inl f) = draw set taken rest f.1
  read set taken g rest (inr f) = cpu_read set taken rest f

  waited : (set : Setting) (n : ℕ) (rest : List Effect) → WaitedInVain rest ⊎ Waited set n rest → Quiet rest
  waited set n rest (inl f) = are rest (at_base f.wait ∷ at_base f.interrupt ∷ []) f.effects_are (tt, (tt, tt))
  waited set n rest (inr f) =
      are rest (at_base f.wait ∷ at_base f.resume ∷ f.rest) f.effects_are
      (tt, (tt, choice (n == 0) _ _ f.rest (λ e. empty f.rest e) (λ h. cpu_read set (User n) f.rest h) f.reads))

  following : (set : Setting) (n flags g : ℕ) (rest : List Effect) → LookedForm set n flags g rest → Quiet rest
  following set n flags g rest f =
      choice (g == 0 && not (is_insecure flags)) _ _ rest
      (λ h. choice (is_nonblock flags) _ _ rest (λ e. empty rest e) (λ k. waited set n rest k) h)
      (λ h. choice (n == 0) _ _ rest (λ e. empty rest e) (λ k. read set (User n) g rest k) h) f

  pub sys : (set : Setting) (n flags : ℕ) (effects : List Effect) → SysForm set n flags effects → Quiet effects
  sys set n flags effects f =
      choice (is_bad flags) _ _ effects (λ e. empty effects e)
      (λ h. after_look (LookedForm set n flags) (following set n flags) effects h) f

  int : (set : Setting) (width g : ℕ) (rest : List Effect) → IntForm set width g rest → Quiet rest
  int set width g rest (inl (_, inl f)) = draw set (Kernel width) rest f
  int set width g rest (inl (_, inr f)) = cpu_read set (Kernel width) rest f
  int set width g rest (inr (_, inl f)) =
      are rest (looked f.look ∷ at_cpu f.cpu ∷ []) f.effects_are (tt, (cpu f.cpu _ f.serves tt, tt))
  int set width g rest (inr (_, inr f)) =
      are rest (looked f.look ∷ at_base f.base ∷ at_cpu f.cpu ∷ []) f.effects_are
      (tt, (tt, (cpu f.cpu _ f.serves tt, tt)))

  reseed : (set : Setting) (g : ℕ) (rest : List Effect) → ReseedForm set g rest → Quiet rest
  reseed set g rest (inl f) = empty rest f.1
  reseed set g rest (inr f) = rooted set _ rest f.1

  counted : (set : Setting) (taken : Taken) (n : ℕ) (effects : List Effect) →
      MatchBool (n == 0) (effects ≡ []) (Looked (ReadForm set taken) effects) → Quiet effects
  counted set taken n effects f =
      choice (n == 0) _ _ effects (λ e. empty effects e) (λ h. after_look (ReadForm set taken) (read set taken) effects h) f

  pub quiet : (set : Setting) (event : Event) (effects : List Effect) → IsNoInterrupt event → Form set event effects →
      Quiet effects
  quiet set (Write text) effects other f = pool_only _ effects f
  quiet set (Device word text) effects other f = pool_only _ effects f
  quiet set Bits effects other f = pool_only _ effects f
  quiet set (Add text bits) effects other f = credit set _ effects f
  quiet set (Credit bits) effects other f = credit set _ effects f
  quiet set (Input word kind code value) effects other f = credit set _ effects f
  quiet set (Kread n) effects other f = counted set (Kernel n) n effects f
  quiet set (Uread n) effects other f = counted set (User n) n effects f
  quiet set (Read n flags) effects other f = sys set n flags effects f
  quiet set (Dread n flag) effects other f = sys set n flag effects f
  quiet set Int8 effects other f = after_look (IntForm set 1) (int set 1) effects f
  quiet set Int16 effects other f = after_look (IntForm set 2) (int set 2) effects f
  quiet set Int32 effects other f = after_look (IntForm set 4) (int set 4) effects f
  quiet set Int64 effects other f = after_look (IntForm set 8) (int set 8) effects f
  quiet set Reseed effects other f = after_look (ReseedForm set) (reseed set) effects f
  quiet set Tick effects other (inl f) = base_only _ effects f
  quiet set Tick effects other (inr f) = rooted set _ effects f
  quiet set (Fork child) effects other (inl f) = base_only _ effects f
  quiet set (Fork child) effects other (inr f) =
      are effects (at_base f.fork ∷ at_base f.stall ∷ at_base f.unstall ∷ []) f.effects_are (tt, (tt, (tt, tt)))
  quiet set (Prepare c) effects other f = are effects (at_cpu f.visit ∷ []) f.effects_are (cpu f.visit _ f.is tt, tt)
  quiet set (Online c) effects other f = are effects (at_cpu f.visit ∷ []) f.effects_are (cpu f.visit _ f.is tt, tt)
  quiet set (Vmfork word text) effects other f =
      are effects (at_pool f.pool ∷ f.rest) f.effects_are (tt, after_look (ReseedForm set) (reseed set) f.rest f.reseeds)
  quiet set (Irq v1 v2) effects other f = absurd other
  quiet set (Vread n flags) effects other f = absurd f
  quiet set (Inside point act) effects other f = absurd f
  quiet set _ effects other f = empty effects f

  pub end_quiet : (effects : List Effect) → EndForm effects → Quiet effects
  end_quiet effects f = base_only _ effects f

  -- if an event is not an interrupt, SamplesConform holds for its effects
  pub form_samples : (set : Setting) (event : Event) (effects : List Effect) → IsNoInterrupt event → Form set event effects →
      SamplesConform fast effects
  form_samples set event effects other f = inl (quiet set event effects other f)

  pub end_samples : (effects : List Effect) → EndForm effects → SamplesConform fast effects
  end_samples effects f = inl (end_quiet effects f)
