-- A caller as the host of its own vgetrandom calls. The caller itself makes each step of the host, over the lanes.
use Rattle.std.specs.Prelude.{◌≡◌, ℕ, ◌<◌, ◌≤◌, ⊤, Bool, true, false, IsTrue, List, [], ◌∷◌, length}
use Rattle.std.proofs.Props.{props}
use Rattle.std.specs.Coded.{Coded-set}
use Rattle.atomic_table.specs.Seated.{TableId, table_id_coded}
use Rattle.key_names.specs.declared.names.Step.{Step}
use Rattle.key_names.specs.Callers.Calls.{Setting as CallSetting}
use Rattle.key_names.specs.Callers.Effects.{Effect}
use Rattle.key_names.specs.Callers.Forms.{SysForm}
use Rattle.key_names.specs.Kernel.Flags.{is_bad}
use Rattle.key_names.specs.Kernel.Vgetrandom.{SystemAnswer, read, failed}
use Rattle.key_names.specs.Callers.VreadSteps.{published_by, answer_after}
use Rattle.lane_table.specs.declared.view.TicketStage.{TicketStage}
use Rattle.lane_table.specs.declared.view.TicketStage.TheVariants.{Away, Queued, Holding}
use Rattle.lane_table.specs.declared.lanes.Lanes.{Lanes}
use Rattle.lane_table.specs.declared.lanes.Pass.{Pass}
use Rattle.lane_table.specs.WorldRule.{at}
use Rattle.lane_table.specs.Calls.{IsPassOf, count_of, slots, view}
use Rattle.lane_table.specs.Advances.{looked, floor}
use Rattle.rng_core.specs.declared.setting.Setting.{Setting}
use Rattle.rng_core.specs.Traces.{Moment, moment}
use Rattle.rng_core.specs.Traces as recorded
use Rattle.rng_core.specs.Makes.{Makes, setting_of}

abbrev pub is_away : TicketStage → Bool
is_away Away = true
is_away (Queued ticket) = false
is_away (Holding ticket) = false

-- `p` is a pass of the table `t` and of the caller `caller`; it holds no lane, and waits for no lane
pub record IsFree (t : Lanes) (caller : ℕ) (p : Pass) : Type 0 where
  pub pass : IsPassOf t p
  pub own : p.caller ≡ caller
  pub out : length (slots p) ≡ 0
  pub away : (lane : ℕ) → lane < count_of t → IsTrue (is_away (at lane (view p)).stage)

pub TableId-set : (a b : TableId) → IsProp (a ≡ b)
TableId-set = Coded-set table_id_coded

pub ruleset free_props = (props, TableId-set)

-- the state of a caller in a call: its setting, the knowledge of its pass, and the steps so far
pub record Conform : Type 0 where
  pub set : Setting
  pub moment : Moment

abbrev pub conform : Setting → Pass → List Step → Conform
conform set pass steps = record { set = set; moment = moment pass steps }

-- the caller looked at the generation, and `g` is the generation that it published to the call
pub record Published (s : Conform) (g : ℕ) (t : Conform) : Type 0 where
  pub same : t.set ≡ s.set
  pub found : ℕ
  pub is : g ≡ published_by found
  pub above : floor s.moment.view ≤ found
  pub known : found ≤ floor t.moment.view
  pub recorded : recorded.TraceRecords s.set s.moment t.moment (looked found ∷ [])

-- a system call for `n` bytes with the flags `flags` has these effects, and `answer` is the call's answer
pub record SystemCall (set : CallSetting) (n flags : ℕ) (answer : SystemAnswer) (effects : List Effect) : Type 0 where
  pub form : SysForm set n flags effects
  pub answers : answer ≡ answer_after flags effects

-- the system call with this answer read its bytes
abbrev pub IsRead : SystemAnswer → Type 0
IsRead (read bytes visit) = ⊤
IsRead (failed errno) = ⊥

-- the caller made a system call for `n` bytes with `flags`, and got the answer `answer`. If the flags are good and the
-- caller had seen the core ready, the call reads its bytes
pub record Answered (s : Conform) (n flags : ℕ) (answer : SystemAnswer) (t : Conform) : Type 0 where
  pub same : t.set ≡ s.set
  pub did : Makes (SystemCall (setting_of s.set) n flags answer) s.set s.moment t.moment
  pub served : is_bad flags ≡ false → 1 ≤ floor s.moment.view → IsRead answer
