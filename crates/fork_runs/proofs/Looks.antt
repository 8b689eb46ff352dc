-- After a look that found the core ready, each generation that a call's host publishes is at least 1. A CPU handed over
-- each key that the call reads.
use Rattle.std.proofs.Common.{◌≡◌, ℕ, zero, suc, ◌≤◌, Bool, true, List, [], ◌∷◌, ◌++◌, map, refl, sym, subst, ap, arith}
use Rattle.key_names.specs.declared.names.Step.{Step}
use Rattle.key_names.specs.declared.point.Point.{Point}
use Rattle.key_names.specs.declared.entries.CpuEntry.{CpuEntry}
use Rattle.key_names.specs.Lanes.Book.{Lists}
use Rattle.key_names.specs.Callers.Effects.{Effect, looked, effects_of}
use Rattle.key_names.specs.Kernel.Vgetrandom.{HostStep, publishes, system_call, at_point}
use Rattle.key_names.specs.Callers.VreadSteps.{Shows, looks_of, published_by}
use Rattle.key_names.proofs.Transcripts.GoodSteps.{good_after}
use Rattle.key_names.proofs.Transcripts.KeyVisits.{AllThere, all_there}
use Rattle.key_names.proofs.Vgetrandom.KeyReads.{KeyReads}
use Rattle.key_names.proofs.Vgetrandom.StatesReplay.{Good, GoodAfter}
use Rattle.lane_table.specs.declared.view.View.{View}
use Rattle.lane_table.specs.declared.view.Visit.{Visit}
use Rattle.lane_table.specs.Advances.{floor, step_of}
use Rattle.lane_table.specs.BookLaws.{Continues}
use Rattle.lane_table.specs.BookLists.{StateLists, book_lists}
use Rattle.vcall_fork.specs.declared.stage.Stage.{Stage}
use Rattle.vcall_fork.specs.declared.stage.Stage.TheVariants.{New, At, Over}
use Rattle.vcall_fork.specs.Stages.{is_stopped, published_or}
use Rattle.rng_core.specs.declared.setting.Setting.{Setting}
use Rattle.rng_core.specs.Makes.{setting_of}
use Rattle.rng_core.proofs.ActRuns.{Risen, sees_risen}
use Rattle.rng_core.proofs.Readings.{never_fall, same_looks}
use Rattle.fork_runs.specs.Runs.{DidAll}

-- if the generation published after a look that found `g` is at least 1, `g` is at least 1
pub found_some : (g : ℕ) → 1 ≤ published_by g → 1 ≤ g
found_some zero h = absurd (omega arith)
found_some (suc g) h = omega arith

pub publishes_some : (g : ℕ) → 1 ≤ g → 1 ≤ published_by g
publishes_some zero h = absurd (omega arith)
publishes_some (suc g) h = omega arith

-- if a caller has seen the generation that a stopped call read last, the caller has seen the core ready
pub seen_ready : (seen : ℕ) (stage : Stage) → 1 ≤ published_or 1 stage → is_stopped stage ≡ true →
    published_or 0 stage ≤ published_by seen → 1 ≤ seen
seen_ready seen New ready conforms known = absurd (cc conforms)
seen_ready seen (At place) ready conforms known = found_some seen (omega arith)
seen_ready seen Over ready conforms known = absurd (cc conforms)

pub good_both : (lists : Lists) (xs ys : List HostStep) → Good lists xs → Good lists ys → Good lists (xs ++ ys)
good_both lists [] ys a b = b
good_both lists (publishes g ∷ xs) ys a b = (a.0, good_both lists xs ys a.1 b)
good_both lists (system_call n flags answer ∷ xs) ys a b = (a.0, good_both lists xs ys a.1 b)
good_both lists (at_point point wiped ∷ xs) ys a b = good_both lists xs ys a b

pub reads_both : (cpus : ℕ → List CpuEntry) (xs ys : List HostStep) → KeyReads cpus xs → KeyReads cpus ys →
    KeyReads cpus (xs ++ ys)
reads_both cpus [] ys a b = b
reads_both cpus (publishes g ∷ xs) ys a b = reads_both cpus xs ys a b
reads_both cpus (system_call n flags answer ∷ xs) ys a b = (a.0, reads_both cpus xs ys a.1 b)
reads_both cpus (at_point point wiped ∷ xs) ys a b = reads_both cpus xs ys a b

module _ (lists : Lists) (caller k : ℕ) where
  -- if `GoodAfter` holds for the steps before a point, and `Good` for the steps after it, `GoodAfter` holds for all
  -- these steps
  pub good_parts : (before after : List HostStep) (point : Point) (wiped : Bool) → GoodAfter lists caller k before →
      Good lists after → GoodAfter lists caller k (before ++ at_point point wiped ∷ after)
  good_parts [] after point wiped good rest g steps is some = cc
  good_parts (x ∷ xs) after point wiped good rest g steps is some =
      let first : x ≡ publishes g = cc in
      let more : xs ++ at_point point wiped ∷ after ≡ steps = cc in
      subst (Good lists) more (good_both lists xs (at_point point wiped ∷ after)
      (good g xs (ap (λ (y : HostStep). y ∷ xs) first) some) rest)

module _ (lanes : ℕ) (visits : ℕ → List Visit) (callers : StateLists) where
  abbrev book : Lists
  book = book_lists lanes visits callers

  module _ (set : Setting) (v w : View) (own : List Step) (steps : List HostStep)
      (did : DidAll (Shows (setting_of set) steps) set v own w) (c : Continues lanes w visits) where
    abbrev effects : List Effect
    effects = effects_of book (map step_of did.made_steps)

    abbrev there : AllThere book effects
    there = all_there book (map step_of did.made_steps)

    shows : Shows (setting_of set) steps effects
    shows = did.conforms lanes visits callers c

    rises : Risen (floor v) (looks_of effects) (floor w)
    rises = subst (λ (l : List ℕ). Risen (floor v) l (floor w)) (sym (same_looks book did.made_steps))
        (sees_risen w (floor v) (floor w) did.made_steps did.recorded.went.sees)

    -- if the caller had seen the core ready before, the steps are `Good`: each generation published in them is at least
    -- 1, and a CPU handed over each key read in them
    pub good_here : 1 ≤ floor v → Good book steps
    good_here some =
        let g = published_by (floor v) in
        good_after book (setting_of set) (publishes g ∷ steps) (looked (floor v) ∷ effects) (tt, there)
        (never_fall (floor v) (floor v ∷ looks_of effects) (floor w) (omega arith, rises))
        (floor v, effects, refl, (refl, shows)) g steps refl (publishes_some (floor v) some)

    -- `GoodAfter` holds for the steps: the steps after the first are `Good` if the first publishes a generation above 0
    pub good_first : (caller k : ℕ) → GoodAfter book caller k steps
    good_first caller k = good_after book (setting_of set) steps effects there
        (never_fall (floor v) (looks_of effects) (floor w) rises) shows
