-- The forms of the command line.
use Rattle.std.specs.Prelude.{ℕ, ◌⊎◌, List, String}
use Rattle.key_names.specs.declared.point.Point.{Point}
use Rattle.vdso_state.specs.declared.place.Turn.{Turn}
use Rattle.rng_tool.specs.DrawOutcome.{IsDraw}
use Rattle.rng_tool.specs.FeedOutcome.{IsFeed}
use Rattle.rng_tool.specs.JudgeOutcome.{IsJudge}
use Rattle.rng_tool.specs.LiveOutcome.{IsLive}
use Rattle.rng_tool.specs.LoadOutcome.{IsLoad}
use Rattle.rng_tool.specs.Outcome.{IsRun}
use Rattle.rng_tool.specs.VforkOutcome.{IsVfork}
use Rattle.rng_tool.specs.declared.command.Command.{Command}
use Rattle.rng_tool.specs.declared.judge.Judge.{Judge}
use Rattle.rng_tool.specs.declared.command.Command.TheVariants.{Run, Live, Judge as Judges, Load, Draw, Vfork, Feed}

-- the words of the command line name this command
abbrev pub Asks : {A : Type 0} → List (String A) → Command → Type 0
Asks words Run = IsRun words
Asks words Live = IsLive words
Asks words (Judges judge) = IsJudge words judge
Asks words (Load load) = IsLoad words load.start load.callers load.events
Asks words (Draw draw) = IsDraw words draw.bound draw.count
Asks words (Vfork vfork) = IsVfork words vfork.point vfork.attempt vfork.len
Asks words (Feed feed) = IsFeed words feed.start feed.feeders feed.samples

-- the words match no form of the command line
pub record IsNoForm {A : Type 0} (words : List (String A)) : Type 0 where
  pub no_run : IsRun words → ⊥
  pub no_live : IsLive words → ⊥
  pub no_judge : (judge : Judge) → IsJudge words judge → ⊥
  pub no_load : (start callers events : ℕ) → IsLoad words start callers events → ⊥
  pub no_draw : (bound count : ℕ) → IsDraw words bound count → ⊥
  pub no_vfork : (point : Point) (attempt : Turn) (n : ℕ) → IsVfork words point attempt n → ⊥
  pub no_feed : (start feeders samples : ℕ) → IsFeed words start feeders samples → ⊥

-- the words name a command that reads the input
abbrev pub TakesInput : {A : Type 0} → List (String A) → Type 0
TakesInput words = IsRun words ⊎ IsLive words ⊎ (judge : Judge) × IsJudge words judge
