-- The causes of a call's errors: its own steps, and the generations that its caller had seen.
use Rattle.std.specs.Prelude.{◌≡◌, ℕ, ◌≤◌, List, [], ◌∷◌, ◌++◌, Bool, true, false, Result, Ok, Err}
use Rattle.key_names.specs.declared.errno.Errno.{Errno}
use Rattle.key_names.specs.declared.errno.Errno.TheVariants.{NoData, Again, Invalid, Interrupted}
use Rattle.key_names.specs.declared.names.Step.{Step}
use Rattle.key_names.specs.declared.names.Step.TheVariants.{Look}
use Rattle.key_names.specs.Kernel.Flags.{is_bad, is_nonblock, is_insecure}
use Rattle.rng_core.specs.Sites.{seen_by}
use Rattle.rng_core.specs.declared.site.Site.{Site}

-- the caller had never seen the core ready; the call's first step is a look that found the core not ready, and the
-- steps `rest` follow
pub record FoundUnready (rest : List Step) (m n : Site) : Type 0 where
  pub unseen : seen_by m ≡ 0
  pub steps : n.trace.now ≡ m.trace.now ++ Look 0 ∷ rest

-- with the flags `flags` a read needs a ready core, and waits for readiness unless `nonblock` is set
pub record NeedsReady (nonblock : Bool) (flags : ℕ) : Type 0 where
  pub good : is_bad flags ≡ false
  pub secure : is_insecure flags ≡ false
  pub waits : is_nonblock flags ≡ nonblock

-- what the result of a read implies about the flags and the core
abbrev pub ReadCause : {T : Type 0} → Result T Errno → ℕ → Site → Site → Type 0
ReadCause (Ok x) flags m n = is_bad flags ≡ false
ReadCause (Err Invalid) flags m n = (is_bad flags ≡ true) × (n.trace.now ≡ m.trace.now)
ReadCause (Err Again) flags m n = NeedsReady true flags × FoundUnready [] m n
ReadCause (Err Interrupted) flags m n = NeedsReady false flags × (rest : List Step) × FoundUnready rest m n
ReadCause (Err NoData) flags m n = ⊥

-- the call's first step is a look that found the core ready
pub record FoundReady (m n : Site) : Type 0 where
  pub look : ℕ
  pub rest : List Step
  pub steps : n.trace.now ≡ m.trace.now ++ Look look ∷ rest
  pub ready : 1 ≤ look

-- what the result of a reseed implies about the core
abbrev pub ReseedCause : {T : Type 0} → Result T Errno → Site → Site → Type 0
ReseedCause (Ok x) m n = FoundReady m n
ReseedCause (Err e) m n = (e ≡ NoData) × FoundUnready [] m n
