-- The host over the lanes: each step of the host is a step of the caller itself.
use Rattle.std.specs.Prelude.{◌≡◌, ℕ, ◌<◌, List, [], length}
use Rattle.std.specs.List.{AllByRecursion}
use Rattle.key_names.specs.declared.events.Answer.{Answer}
use Rattle.key_names.specs.Transcripts.SeenLine.{Shown}
use Rattle.key_names.specs.Kernel.VgetrandomState.{VgetrandomState}
use Rattle.vdso_state.specs.Host.{Doings, doings}
use Rattle.rng_core.specs.declared.site.Site.{Site}
use Rattle.rng_core.specs.declared.vdso.acts.Bound.{Bound}
use Rattle.rng_core.specs.declared.vdso.attempt.Attempt.TheVariants.{Before}
use Rattle.rng_core.specs.declared.vdso.lane_host.LaneHost.{LaneHost}
use Rattle.rng_core.specs.Acting.{ActConform, act_conform, ActPublished, ActAnswered, ActPassed, InsideRan}
use Rattle.rng_core.specs.Acts.{all_wanted, asks_of, outcomes_of}
use Rattle.rng_core.specs.Hosted.{conform}
use Rattle.rng_core.specs.InsideMakes.{IsWaitingAct, InsideMakes}
use Rattle.rng_core.specs.Sites.{Same, IsNew, IsOnCpu, IsTimely, HasInHands, at}
use Rattle.rng_core.specs.VreadMakes.{Called, IsCurrent, VreadMakes}

-- acts may run inside a call at this site: no act has run yet, and `out` has a part for the bytes of each act
pub record CanHost (acts : List Bound) (out : List ℕ) (s : Site) : Type 0 where
  pub new : IsNew s
  pub cpu : IsOnCpu s
  pub moment : 0 < length acts → IsTimely s
  pub fresh : AllByRecursion IsWaitingAct acts
  pub fits : length out ≡ all_wanted (asks_of acts)

module _ {R : Type 0} where
  -- the host has made no step yet
  pub record IsNewHost (h : LaneHost R) : Type 0 where
    pub empty : length h.site.trace.now ≡ 0
    pub before : h.attempt ≡ Before
    pub looks : h.looks ≡ 5
    pub calls : h.calls ≡ 3
    pub fresh : AllByRecursion IsWaitingAct h.acts.now

  -- the caller's state in a call whose host is `h`
  abbrev pub standing : LaneHost R → ActConform
  standing h = act_conform (conform h.site.set h.site.pass.now h.site.trace.now) h.attempt (asks_of h.acts.now)
      (outcomes_of h.acts.now h.out.now)

  -- `next` has the same references as `h`, over the same lanes
  pub record SameLoans (h next : LaneHost R) : Type 0 where
    pub site : Same h.site next.site
    pub acts : next.acts.ghost_name ≡ h.acts.ghost_name
    pub out : next.out.ghost_name ≡ h.out.ghost_name

  abbrev pub hosting : Doings (LaneHost R)
  hosting = doings (λ h g next. ActPublished (standing h) g (standing next) × SameLoans h next)
      (λ h n flags answer next. ActAnswered (standing h) n flags answer (standing next) × SameLoans h next)
      (λ h point wiped next. ActPassed (standing h) point wiped (standing next) × SameLoans h next)

  -- without acts inside, the host read `n` bytes out of the state `s`, which became `t`
  pub record ReadsState (n flags : ℕ) (s t : VgetrandomState) (answer : Answer) (shown : Shown) (h next : LaneHost R)
      : Type 0 where
    pub loans : SameLoans h next
    pub has : HasInHands [] next.site
    pub current : IsCurrent t next.site
    pub did : VreadMakes n flags s t answer shown h.site.set (at h.site) (at next.site)

  -- with acts inside, the host ran a call for `n` bytes on the state `s`, which became `t`
  pub record ReadsInside (n flags : ℕ) (s t : VgetrandomState) (answer : Answer) (shown : Shown) (h next : LaneHost R)
      : Type 0 where
    pub loans : SameLoans h next
    pub has : HasInHands [] next.site
    pub current : IsCurrent t next.site
    pub asks : asks_of next.acts.now ≡ asks_of h.acts.now
    pub did : InsideMakes n flags s t answer shown h.site.set (at h.site) (at next.site) (asks_of h.acts.now)
        (outcomes_of next.acts.now next.out.now)
    pub ran : InsideRan n flags s t (standing h)
        (λ last. act_conform (conform h.site.set next.site.pass.now next.site.trace.now) last (asks_of next.acts.now)
        (outcomes_of next.acts.now next.out.now))

  -- with acts inside or without, the host ran a call for `n` bytes on the state `s`, which became `t`
  pub record HostCalled (n flags : ℕ) (s t : VgetrandomState) (answer : Answer) (shown : Shown) (h next : LaneHost R)
      : Type 0 where
    pub loans : SameLoans h next
    pub has : HasInHands [] next.site
    pub current : IsCurrent t next.site
    pub alone : length h.acts.now ≡ 0 → Called n flags s t answer shown h.site.set (at h.site) (at next.site)
    pub inside : 0 < length h.acts.now → ReadsInside n flags s t answer shown h next
