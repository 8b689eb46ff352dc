-- The visits of all lines have the inferred entries. This is defined call by call.
use Rattle.std.specs.Prelude.{ℕ, ◌<◌, ⊤, List, [], ◌∷◌, length}
use Rattle.std.specs.List.{AllByRecursion}
use Rattle.key_names.specs.declared.entries.Taken.TheVariants.{User}
use Rattle.key_names.specs.Lanes.Book.{Lists, list_at}
use Rattle.key_names.specs.Callers.Calls.{Setting, Call, alone, vread_call, unbound, ending, BoundAct, setting_after_call}
use Rattle.key_names.specs.Callers.Effects.{Effect, effects_of}
use Rattle.key_names.specs.Transcripts.IsTranscript.{start_setting}
use Rattle.judge_lines.specs.LaneFacts.{facts_of}
use Rattle.judge_lines.specs.declared.inferred.Sign.TheVariants.{Nowhere as nowhere}
use Rattle.judge_lines.specs.Inferred.{telling, silent, ends, act_telling, LineFills, AllFill, FillsPart, first_sign}

module _ (lists : Lists) where
  -- the visits of a vread have the inferred entries: the read in the line's last step takes `n` bytes, and each earlier
  -- read takes a key of 32 bytes
  abbrev pub VreadFills : Setting → ℕ → List Effect → Type 0
  VreadFills set n effects = AllFill (FillsPart (facts_of lists) set (User 32) (User n) (first_sign effects)) nowhere nowhere effects

  abbrev pub ActFills : Setting → BoundAct → Type 0
  ActFills set bound = LineFills (facts_of lists) set (act_telling bound.act) (effects_of lists bound.line.steps)

  -- each visit of a call's lines has the entry inferred from the steps around the visit; for an act that no vread
  -- follows, the line's kind is `silent`
  abbrev pub CallFills : Setting → Call → Type 0
  CallFills set (alone event line) = LineFills (facts_of lists) set (telling set event) (effects_of lists line.steps)
  CallFills set (vread_call n flags line acts) =
      VreadFills set n (effects_of lists line.steps) × AllByRecursion (ActFills set) acts
  CallFills set (unbound bound) = LineFills (facts_of lists) set silent (effects_of lists bound.line.steps)
  CallFills set (ending line) = LineFills (facts_of lists) set ends (effects_of lists line.steps)

  abbrev pub CallsFill : Setting → List Call → Type 0
  CallsFill set [] = ⊤
  CallsFill set (call ∷ calls) = CallFills set call × CallsFill (setting_after_call set call) calls

  -- each visit of each caller's lines has the inferred entry
  abbrev pub AllCallsFill : List (List Call) → Type 0
  AllCallsFill callers = (c : ℕ) → c < length callers → CallsFill (start_setting callers c) (list_at callers c)
