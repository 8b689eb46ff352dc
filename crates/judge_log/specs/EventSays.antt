-- The answer and data of a single event, or of an act inside a vread, made from the kept data of its steps.
use Rattle.std.specs.Prelude.{ℕ, ◌≡◌, ◌-◌, ◌*◌, ◌==◌, ◌&&◌, not, Bool, true, false, Option, Some, None, List, [], ◌∷◌}
use Rattle.std.specs.Prelude.{length, slice_get, nat_lt, if◌then◌else◌}
use Rattle.key_names.specs.declared.entries.Taken.{Taken}
use Rattle.key_names.specs.declared.entries.Taken.TheVariants.{User, Kernel}
use Rattle.key_names.specs.declared.entries.BaseEntry.{BaseEntry}
use Rattle.key_names.specs.declared.entries.BaseEntry.TheVariants.{Draw}
use Rattle.key_names.specs.declared.entries.CpuEntry.{CpuEntry}
use Rattle.key_names.specs.declared.entries.CpuEntry.TheVariants.{Read as CpuRead, Int}
use Rattle.key_names.specs.declared.events.Event.{Event}
use Rattle.key_names.specs.declared.events.Event.TheVariants.{Bits, Read, Kread, Dread, Uread, Int8, Int16, Int32, Int64}
use Rattle.key_names.specs.declared.events.Event.TheVariants.{Reseed, Tick}
use Rattle.key_names.specs.declared.events.InsideAct.{InsideAct}
use Rattle.key_names.specs.declared.events.InsideAct.TheVariants.{Wipe as WipeAct, Vread as VreadAct}
use Rattle.key_names.specs.declared.events.InsideAct.TheVariants.{Reseed as ReseedAct}
use Rattle.key_names.specs.declared.events.Answer.{Answer}
use Rattle.key_names.specs.declared.events.Answer.TheVariants.{Ok as Done, Again, Invalid, NoData, Interrupted, Fired}
use Rattle.key_names.specs.declared.events.Answer.TheVariants.{Idle, Unused}
use Rattle.key_names.specs.declared.names.Step.{Step}
use Rattle.key_names.specs.Callers.Answers.{is_interrupt}
use Rattle.key_names.specs.Callers.Calls.{Setting}
use Rattle.key_names.specs.Kernel.Flags.{is_bad, is_nonblock, is_insecure}
use Rattle.input_pool.specs.declared.pool.Crossing.{Crossing}
use Rattle.input_pool.specs.declared.pool.Crossing.TheVariants.{None as CrossedNothing}
use Rattle.judge_lines.specs.Rows.{IsRow, IsActRow, IsEnd, cpu_for}
use Rattle.judge_log.specs.declared.kept.Lists.{Lists as KeptLists}
use Rattle.judge_vread.specs.Recipe.{Recipe, no_recipe, user_recipe, kernel_recipe, int_recipe}
use Rattle.judge_log.specs.declared.met.KeptStep.{KeptStep}
use Rattle.judge_log.specs.declared.met.KeptStep.TheVariants.{Looked, InPool, InBase, InCpu, Nothing}
use Rattle.judge_log.specs.declared.said.MadeLine.{MadeLine}
use Rattle.judge_log.specs.declared.said.ShownRecipe.{ShownRecipe}
use Rattle.judge_log.specs.declared.said.ShownRecipe.TheVariants.{Nothing as ShowsNothing, Count, Served}
use Rattle.judge_log.specs.Met.{met_in, kinds_met}

-- the threshold that the first visit of the pool crossed, if any
abbrev pub first_crossing : List KeptStep → Crossing
first_crossing [] = CrossedNothing
first_crossing (InPool kept ∷ met) = kept.crossing
first_crossing (Looked g ∷ met) = first_crossing met
first_crossing (InBase kept ∷ met) = first_crossing met
first_crossing (InCpu on kept ∷ met) = first_crossing met
first_crossing (Nothing ∷ met) = first_crossing met

-- ---- the bytes that visits serve

abbrev pub taken_recipe : List ℕ → Taken → Recipe
taken_recipe key (User n) = user_recipe key n
taken_recipe key (Kernel n) = kernel_recipe key n

-- the recipe for an integer's bytes; an empty recipe if the batch of 96 bytes is used up
abbrev pub batch_recipe : List ℕ → ℕ → ℕ → Recipe
batch_recipe key width count = if nat_lt (width * count) 96 then int_recipe key width count else no_recipe

abbrev pub base_recipe : BaseEntry → Option (List ℕ) → Recipe
base_recipe (Draw root taken) (Some key) = taken_recipe key taken
base_recipe _ _ = no_recipe

abbrev pub cpu_recipe : CpuEntry → Option (List ℕ) → ℕ → Recipe
cpu_recipe (CpuRead look refill taken) (Some key) count = taken_recipe key taken
cpu_recipe (Int look refill width filled) (Some key) count = batch_recipe key width count
cpu_recipe _ _ _ = no_recipe

-- the recipe for the bytes that a visit serves
abbrev pub recipe_met : KeptStep → Recipe
recipe_met (Looked g) = no_recipe
recipe_met (InPool kept) = no_recipe
recipe_met (InBase kept) = base_recipe kept.entry kept.key
recipe_met (InCpu on kept) = cpu_recipe kept.entry kept.source.key kept.source.served
recipe_met Nothing = no_recipe

abbrev pub recipe_or_none : Option KeptStep → Recipe
recipe_or_none None = no_recipe
recipe_or_none (Some met) = recipe_met met

-- the recipe for the bytes that a read's last visit serves, which are the read's bytes
abbrev pub last_recipe : List KeptStep → Recipe
last_recipe met = recipe_or_none (slice_get met (length met - 1))

-- ---- the answers of events

abbrev pub found_unready : List KeptStep → Bool
found_unready (Looked g ∷ met) = g == 0
found_unready _ = false

abbrev pub was_interrupted : List KeptStep → Bool
was_interrupted (Looked g ∷ InBase wait ∷ InBase ended ∷ []) = is_interrupt ended.entry
was_interrupted _ = false

abbrev pub system_says : ℕ → List KeptStep → Answer
system_says flags met =
    if is_bad flags then Invalid
    else (if found_unready met && (is_nonblock flags && not (is_insecure flags)) then Again
    else (if was_interrupted met then Interrupted else Done))

abbrev pub reseed_says : List KeptStep → Answer
reseed_says met = if found_unready met then NoData else Done

abbrev pub tick_says : List KeptStep → Answer
tick_says (InBase kept ∷ []) = Idle
tick_says _ = Fired

abbrev pub event_says : Event → List KeptStep → Answer
event_says (Read len flags) met = system_says flags met
event_says (Dread len flag) met = system_says flag met
event_says Reseed met = reseed_says met
event_says Tick met = tick_says met
event_says _ met = Done

-- the pool's bits before the visit of the event `bits`
abbrev pub bits_shown : List KeptStep → ShownRecipe
bits_shown (InPool kept ∷ []) = Count kept.before
bits_shown _ = ShowsNothing

abbrev pub event_shows : Event → List KeptStep → ShownRecipe
event_shows Bits met = bits_shown met
event_shows (Read len flags) met = Served (last_recipe met)
event_shows (Dread len flag) met = Served (last_recipe met)
event_shows (Kread len) met = Served (last_recipe met)
event_shows (Uread len) met = Served (last_recipe met)
event_shows Int8 met = Served (last_recipe met)
event_shows Int16 met = Served (last_recipe met)
event_shows Int32 met = Served (last_recipe met)
event_shows Int64 met = Served (last_recipe met)
event_shows _ met = ShowsNothing

abbrev pub act_says : InsideAct → List KeptStep → MadeLine
act_says WipeAct met = record { answer = Done; shows = ShowsNothing }
act_says (VreadAct n) met = record { answer = system_says 0 met; shows = Served (last_recipe met) }
act_says ReseedAct met = record { answer = reseed_says met; shows = ShowsNothing }

abbrev pub unused : MadeLine
unused = record { answer = Unused; shows = ShowsNothing }

-- ---- the answer and data of a line

module _ (kept : KeptLists) (set : Setting) where
  -- the kinds of the steps are those of a form of the event
  abbrev pub AloneConforms : Event → List Step → Type 0
  AloneConforms event steps =
      IsRow event (first_crossing (met_in kept steps)) (kinds_met (cpu_for set event) (met_in kept steps))

  abbrev pub alone_says : Event → List Step → MadeLine
  alone_says event steps =
      record { answer = event_says event (met_in kept steps); shows = event_shows event (met_in kept steps) }

  -- if the kinds of the steps are those of a form of the event, the result is the answer and data made from the steps;
  -- otherwise the result is none
  abbrev pub IsAloneSaid : Event → List Step → Option MadeLine → Type 0
  IsAloneSaid event steps None = AloneConforms event steps → ⊥
  IsAloneSaid event steps (Some said) = AloneConforms event steps × (said ≡ alone_says event steps)

  -- the bool is true if the act's point was reached. Then the kinds of the steps are those of a form of the act;
  -- otherwise the act has no steps
  abbrev pub ActConforms : Bool → InsideAct → List Step → Type 0
  ActConforms true act steps = IsActRow act (kinds_met set.cpu (met_in kept steps))
  ActConforms false act steps = steps ≡ []

  abbrev pub act_says_at : Bool → InsideAct → List Step → MadeLine
  act_says_at true act steps = act_says act (met_in kept steps)
  act_says_at false act steps = unused

  abbrev pub IsActSaid : Bool → InsideAct → List Step → Option MadeLine → Type 0
  IsActSaid reached act steps None = ActConforms reached act steps → ⊥
  IsActSaid reached act steps (Some said) =
      ActConforms reached act steps × (said ≡ act_says_at reached act steps)

  abbrev pub EndConforms : List Step → Type 0
  EndConforms steps = IsEnd (kinds_met set.cpu (met_in kept steps))
