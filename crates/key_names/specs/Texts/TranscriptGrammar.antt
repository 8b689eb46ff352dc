-- The only text of each transcript, and the first faulty line of any other text.
use Rattle.std.specs.Prelude.{ℕ, suc, ◌+◌, ◌≡◌, ◌≢◌, ◌<◌, ◌≤◌, ◌^◌, ⊤, List, [], ◌∷◌, ◌++◌, map, length, codes, decimal}
use Rattle.std.specs.List.{flat_map, AllByRecursion}
use Rattle.hex.specs.Hex.{encode_lower, IsBytes}
use Rattle.key_names.specs.declared.events.Answer.{Answer}
use Rattle.key_names.specs.declared.events.Answer.TheVariants.{Ok, Again, Invalid, NoData, Interrupted, Fired, Idle}
use Rattle.key_names.specs.declared.events.Answer.TheVariants.{Unused}
use Rattle.key_names.specs.declared.events.Word.{Word}
use Rattle.key_names.specs.declared.events.Word.TheVariants.{Bits}
use Rattle.key_names.specs.declared.names.LaneId.{LaneId}
use Rattle.key_names.specs.declared.names.LaneId.TheVariants.{Pool, Base, Cpu}
use Rattle.key_names.specs.declared.names.Mark.{Mark}
use Rattle.key_names.specs.declared.names.Step.{Step}
use Rattle.key_names.specs.declared.names.Step.TheVariants.{Look, Visit}
use Rattle.key_names.specs.Transcripts.SeenLine.{Shown, no_data, bytes, count, SeenLine}
use Rattle.key_names.specs.Texts.Spelling.{word_text, spaced, lined}

unfoldable pub answer_text : Answer → List ℕ
answer_text Ok = codes "ok"
answer_text Again = codes "EAGAIN"
answer_text Invalid = codes "EINVAL"
answer_text NoData = codes "ENODATA"
answer_text Interrupted = codes "EINTR"
answer_text Fired = codes "fired"
answer_text Idle = codes "idle"
answer_text Unused = codes "unused"

unfoldable pub lane_text : LaneId → List ℕ
lane_text Pool = codes "p"
lane_text Base = codes "b"
lane_text (Cpu cpu) = codes "c" ++ decimal cpu

-- the text of a visit: its lane, its place and its stamp
abbrev pub mark_text : Mark → List ℕ
mark_text mark = lane_text mark.lane ++ codes ":" ++ decimal mark.place ++ codes "@" ++ decimal mark.stamp

-- the text of a step: a look at the generation word, or a visit
unfoldable pub step_text : Step → List ℕ
step_text (Look generation) = codes "~" ++ decimal generation
step_text (Visit mark) = mark_text mark

unfoldable pub steps_text : List Step → List ℕ
steps_text [] = codes "-"
steps_text (step ∷ []) = step_text step
steps_text (step ∷ next ∷ steps) = step_text step ++ codes "," ++ steps_text (next ∷ steps)

unfoldable pub shown_text : Shown → List ℕ
shown_text no_data = codes "-"
shown_text (bytes shown) = encode_lower shown
shown_text (count n) = decimal n

-- the text of a line, without its line feed
unfoldable pub line_text : SeenLine → List ℕ
line_text line = spaced (
    (decimal line.caller ++ codes "." ++ decimal line.event) ∷ word_text line.word ∷ answer_text line.answer
    ∷ steps_text line.steps ∷ shown_text line.shown ∷ []
    )

-- the lines of all callers, in the order of the callers
abbrev pub all_lines : List (List SeenLine) → List SeenLine
all_lines callers = flat_map (λ lines. lines) callers

abbrev pub transcript_lines : List (List SeenLine) → List (List ℕ)
transcript_lines callers = codes "rngtranscript 1" ∷ map line_text (all_lines callers) ++ codes "end" ∷ []

unfoldable pub transcript_text : List (List SeenLine) → List ℕ
transcript_text callers = lined (transcript_lines callers)

abbrev pub LaneFits : LaneId → Type 0
LaneFits (Cpu cpu) = cpu < 2 ^ 32
LaneFits lane = ⊤

pub record MarkFits (mark : Mark) : Type 0 where
  pub lane : LaneFits mark.lane
  pub place : mark.place < 2 ^ 63
  pub stamp : mark.stamp < 2 ^ 63

abbrev pub StepFits : Step → Type 0
StepFits (Look generation) = generation < 2 ^ 63
StepFits (Visit mark) = MarkFits mark

-- only the line of a `bits` event shows a number, and only lines of other words show bytes
abbrev pub ShownFits : Word → Shown → Type 0
ShownFits word no_data = ⊤
ShownFits word (bytes shown) = (word ≢ Bits) × (0 < length shown) × IsBytes shown
ShownFits word (count n) = (word ≡ Bits) × (n < 2 ^ 32)

pub record LineFits (line : SeenLine) : Type 0 where
  pub caller : line.caller < 2 ^ 32
  pub event : line.event < 2 ^ 32
  pub few_steps : length line.steps ≤ 20
  pub steps : AllByRecursion StepFits line.steps
  pub shown : ShownFits line.word line.shown

abbrev pub LastHasLines : List (List SeenLine) → Type 0
LastHasLines [] = ⊤
LastHasLines (lines ∷ []) = 0 < length lines
LastHasLines (lines ∷ next ∷ callers) = LastHasLines (next ∷ callers)

-- the lines of at most 64 callers; the last caller, if any, has at least one line
pub record TranscriptFits (callers : List (List SeenLine)) : Type 0 where
  pub few_callers : length callers ≤ 64
  pub last : LastHasLines callers
  pub lines : AllByRecursion (AllByRecursion LineFits) callers

-- each line has the number of its caller; `first` is the number of the first caller
abbrev pub UnderOwnNumber : ℕ → List (List SeenLine) → Type 0
UnderOwnNumber first [] = ⊤
UnderOwnNumber first (lines ∷ callers) =
    AllByRecursion (λ line. line.caller ≡ first) lines × UnderOwnNumber (suc first) callers

pub record IsTranscriptText (text : List ℕ) (callers : List (List SeenLine)) : Type 0 where
  pub fits : TranscriptFits callers
  pub own : UnderOwnNumber 0 callers
  pub spelled : text ≡ transcript_text callers

-- some transcript begins with these lines
pub record BeginsTranscript (front : List (List ℕ)) : Type 0 where
  pub callers : List (List SeenLine)
  pub rest : List (List ℕ)
  pub fits : TranscriptFits callers
  pub own : UnderOwnNumber 0 callers
  pub lines : front ++ rest ≡ transcript_lines callers

-- The text is the text of no transcript, and `number` is the number of its first faulty line. The lines before the
-- faulty line begin a transcript. If the faulty line is whole, then no transcript begins with these lines and the
-- faulty line.
pub record IsFirstFault (text : List ℕ) (number : ℕ) : Type 0 where
  pub front : List (List ℕ)
  pub rest : List ℕ
  pub number_is : number ≡ length front + 1
  pub parts : text ≡ lined front ++ rest
  pub begins : BeginsTranscript front
  pub stops : (line more : List ℕ) → rest ≡ line ++ codes "\n" ++ more → BeginsTranscript (front ++ line ∷ []) → ⊥
  pub none : (callers : List (List SeenLine)) → IsTranscriptText text callers → ⊥
