-- Reads lines off the text of a transcript, without a proof that they are right. Proofs that use the lines compute the
-- text of the lines, and compare it with the transcript's text.
use Rattle.std.proofs.Common.{ℕ, List, [], ◌∷◌, map, filter, find, ◌==◌, if◌then◌else◌, unwrap_or, codes, bytes_eq}
use Rattle.std.specs.List.{range_with_len}
use Rattle.std.specs.Str.Parse.{digits_value}
use Rattle.key_names.specs.declared.names.LaneId.{LaneId}
use Rattle.key_names.specs.declared.names.LaneId.TheVariants.{Pool, Base, Cpu}
use Rattle.key_names.specs.declared.names.Step.{Step}
use Rattle.key_names.specs.declared.names.Step.TheVariants.{Look, Visit}
use Rattle.key_names.specs.declared.events.Answer.{Answer}
use Rattle.key_names.specs.declared.events.Answer.TheVariants.{Ok as Done, Again, Invalid, NoData, Interrupted, Fired}
use Rattle.key_names.specs.declared.events.Answer.TheVariants.{Idle, Unused}
use Rattle.key_names.specs.declared.events.Word.{Word}
use Rattle.key_names.specs.declared.events.Word.TheVariants.{Bits, End}
use Rattle.key_names.specs.Texts.ScriptFaults.{parts, word_of, bytes_of}
use Rattle.key_names.specs.Transcripts.SeenLine.{SeenLine, Shown, no_data, bytes, count}
use Rattle.key_names.specs.Texts.TranscriptGrammar.{answer_text}

-- the two numbers in `field`, separated by `byte`
abbrev two_numbers : ℕ → List ℕ → ℕ × ℕ
two_numbers byte field = of_parts (parts byte field)
  where
    of_parts : List (List ℕ) → ℕ × ℕ
    of_parts (a ∷ b ∷ rest) = (digits_value 10 a, digits_value 10 b)
    of_parts _ = (0, 0)

abbrev lane_of : List ℕ → LaneId
lane_of [] = Pool
lane_of (letter ∷ digits) = if letter == 112 then Pool else if letter == 98 then Base else Cpu (digits_value 10 digits)

abbrev step_of : List ℕ → Step
step_of [] = Look 0
step_of (first ∷ rest) = if first == 126 then Look (digits_value 10 rest) else mark_of (parts 58 (first ∷ rest))
  where
    mark_of : List (List ℕ) → Step
    mark_of (lane ∷ numbers ∷ more) = (let both = two_numbers 64 numbers in
        Visit (record { lane = lane_of lane; place = both.0; stamp = both.1 }))
    mark_of _ = Look 0

abbrev steps_of : List ℕ → List Step
steps_of field = if bytes_eq field (codes "-") then [] else map step_of (parts 44 field)

abbrev shown_of : Word → List ℕ → Shown
shown_of word field =
    if bytes_eq field (codes "-") then no_data
    else of_word word
  where
    of_word : Word → Shown
    of_word Bits = count (digits_value 10 field)
    of_word _ = bytes (unwrap_or (bytes_of field) [])

abbrev answer_named : List ℕ → Answer
answer_named field = unwrap_or (find (λ answer. bytes_eq (answer_text answer) field)
    (Done ∷ Again ∷ Invalid ∷ NoData ∷ Interrupted ∷ Fired ∷ Idle ∷ Unused ∷ [])) Done

abbrev line_of : List ℕ → SeenLine
line_of line = of_fields (parts 32 line)
  where
    of_fields : List (List ℕ) → SeenLine
    of_fields (who ∷ word ∷ answer ∷ steps ∷ shown ∷ []) =
        let both = two_numbers 46 who in
        let named = unwrap_or (word_of word) End in
        record {
          caller = both.0;
          event = both.1;
          word = named;
          answer = answer_named answer;
          steps = steps_of
              steps;
          shown = shown_of named shown;
        }
    of_fields _ = record { caller = 0; event = 0; word = End; answer = Done; steps = []; shown = no_data }

-- all lines but the first, the last, and the empty one after the last line feed
abbrev inner : List (List ℕ) → List (List ℕ)
inner [] = []
inner (first ∷ lines) = but_two lines
  where
    but_two : List (List ℕ) → List (List ℕ)
    but_two [] = []
    but_two (a ∷ []) = []
    but_two (a ∷ b ∷ []) = []
    but_two (a ∷ b ∷ c ∷ rest) = a ∷ but_two (b ∷ c ∷ rest)

-- the lines of `text`, grouped by caller, for the callers from 0 to `callers - 1`
abbrev pub lines_of : ℕ → List ℕ → List (List SeenLine)
lines_of callers text =
    let lines = map line_of (inner (parts 10 text)) in
    map (λ c. filter (λ line. line.caller == c) lines) (range_with_len 0 callers)
