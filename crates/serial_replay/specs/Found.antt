-- The lists of the lanes, made from a transcript's steps.
use Rattle.std.specs.Prelude.{⊤, List}
use Rattle.key_names.specs.Lanes.Book.{Lists}
use Rattle.key_names.specs.Texts.ScriptGrammar.{Script}
use Rattle.key_names.specs.Transcripts.SeenLine.{SeenLine}
use Rattle.judge_lines.specs.Begun.{PartsConform}
use Rattle.judge_lines.specs.Called.{seen_calls}
use Rattle.judge_lines.specs.Settings.{AreSettings}
use Rattle.judge_log.specs.Fills.{Fills}
use Rattle.judge_log.specs.Kept.{Keeps}
use Rattle.judge_log.specs.Lawful.{Lawful}
use Rattle.judge_log.specs.Tables.{Tables}
use Rattle.judge_log.specs.Gathered.{IsGathered}
use Rattle.serial_replay.specs.declared.lists.Basis.{Basis}
use Rattle.serial_replay.specs.declared.lists.FoundLists.{FoundLists}
use Rattle.serial_replay.specs.declared.lists.FoundLists.TheVariants.{Conforms, No}
use Rattle.serial_replay.specs.declared.remake.Remade.{Remade}
use Rattle.serial_replay.specs.declared.remake.Remade.TheVariants.{Made as MadeAll, No as NotMade}
use Rattle.serial_replay.specs.Remade.{FailsEarly}

-- the clauses on lines and marks hold, and some lawful lists match the inferred entries; the kept data in `basis` are
-- right for all such lists
pub record BasisConforms (script : Script) (t : List (List SeenLine)) (basis : Basis) : Type 0 where
  pub parts : PartsConform script t basis.parts
  pub settings : AreSettings (seen_calls basis.parts.calls.items) basis.settings.items
  pub inferred : Tables
  pub gathered : IsGathered script t inferred
  pub lists : Lists
  pub fills : Fills inferred lists
  pub lawful : Lawful inferred lists
  pub keeps : (others : Lists) → Fills inferred others → Lawful inferred others → Keeps basis.lists others

abbrev pub IsFound : Script → List (List SeenLine) → FoundLists → Type 0
IsFound script t (Conforms basis) = BasisConforms script t basis
IsFound script t (No clause) = FailsEarly script t clause

-- if answers and data were made, `BasisConforms` holds of their basis: the kept data of the lanes, from which they were
-- made
abbrev pub ConformsOn : {Noted : Type 0} → Script → List (List SeenLine) → Remade Noted → Type 0
ConformsOn script t (MadeAll m) = BasisConforms script t m.basis
ConformsOn script t (NotMade clause) = ⊤
