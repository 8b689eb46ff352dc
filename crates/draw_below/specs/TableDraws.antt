-- Draws of one caller on a new table, after its first sample.
use Rattle.std.specs.Prelude.{◌≡◌, ◌==◌, ◌++◌, ℕ, zero, suc, List, [], ◌∷◌, Option, Some, None, if◌then◌else◌, map, option_map, length}
use Rattle.std.specs.List.{flat_map, range_with_len}
use Rattle.std.specs.Int.{from_le_bytes, w32}
use Rattle.key_names.specs.declared.names.Step.{Step}
use Rattle.key_names.specs.declared.events.Event.TheVariants.{Add, Int32}
use Rattle.key_names.specs.declared.events.Answer.TheVariants.{Ok as Done}
use Rattle.key_names.specs.Lanes.Book.{Book, Lists, LawfulLanes, lists_of}
use Rattle.key_names.specs.Callers.Effects.{effects_of}
use Rattle.key_names.specs.Transcripts.IsTranscript.{MarkBy, VisitsAre, marks_from}
use Rattle.key_names.specs.Transcripts.SeenLine.{bytes_or_none, no_data}
use Rattle.key_names.specs.Keys.Uses.{IsDisjoint}
use Rattle.lane_table.specs.Advances.{Climbs}
use Rattle.rng_core.specs.Makes.{IsOutcomeOf, setting_of}
use Rattle.rng_core.specs.Settings.{first_setting}
use Rattle.draw_below.specs.Draws.{accepts, value_of}
use Rattle.draw_below.specs.declared.table_draws.Drawn.{Drawn}

-- the results if the current draw is spent (it rejected 128 words), and the given words come after it. Without such a
-- word the only result is `None`, since a spent draw is the last one. Otherwise the function itself gives `None`
abbrev pub spent_before : List ℕ → Option (List (Option ℕ))
spent_before [] = Some (None ∷ [])
spent_before (r ∷ rs) = None

-- The results of `n` draws below `c` from these words, if the first draw has already rejected `tried` words. A draw's
-- result is its answer. If a draw was spent, its result is `None`, and it is the last draw. The function itself gives
-- `None` if the words are too few for `n` draws, or if a word is left over.
unfoldable pub draws_in : ℕ → ℕ → ℕ → List ℕ → Option (List (Option ℕ))
draws_in c n tried [] = if n == 0 then Some [] else None
draws_in c zero tried (r ∷ rs) = None
draws_in c (suc n) tried (r ∷ rs) =
    if accepts c r then option_map (λ draws. Some (value_of c r) ∷ draws) (draws_in c n 0 rs)
    else (if tried == 127 then spent_before rs else draws_in c (suc n) (suc tried) rs)

-- the results of the draws in `drawn`: the answers in order, and then `None` if a draw was spent (it rejected 128
-- words)
abbrev pub ends_of : Drawn → List (Option ℕ)
ends_of drawn = map Some drawn.answers.items ++ (if drawn.spent then None ∷ [] else [])

-- in `lists`, a call with the steps `steps` read an integer of 4 bytes, and `word` has these bytes, the lowest first
pub record IsWordCall (lists : Lists) (word : ℕ) (steps : List Step) : Type 0 where
  pub bytes : List ℕ
  pub fulfils : IsOutcomeOf (setting_of (first_setting 0)) Int32 Done (bytes_or_none bytes) (effects_of lists steps)
  pub word_is : word ≡ from_le_bytes w32 bytes

-- each word is the word that the call at the same place in `calls` read
abbrev pub AreWordCalls : Lists → List ℕ → List (List Step) → Type 0
AreWordCalls lists [] [] = Unit {0}
AreWordCalls lists [] (steps ∷ calls) = ⊥
AreWordCalls lists (word ∷ words) [] = ⊥
AreWordCalls lists (word ∷ words) (steps ∷ calls) = IsWordCall lists word steps × AreWordCalls lists words calls

-- the marks of the given calls' visits, with the steps of each call numbered from 0
abbrev pub marks_of : List (List Step) → List MarkBy
marks_of calls = flat_map (marks_from 0 0 0) calls

-- A lawful and disjoint book of one CPU has exactly the visits of these calls: one `add`, which makes the core ready,
-- and then, for each word in order, one call that reads the word as an integer.
pub record AreTableWords (words : List ℕ) : Type 0 where
  pub book : Book
  pub cpus : length book.cpus ≡ 1
  pub lawful : LawfulLanes (lists_of book)
  pub disjoint : IsDisjoint (lists_of book)
  pub added : List Step
  pub adds : IsOutcomeOf (setting_of (first_setting 0)) (Add (range_with_len 0 32) 256) Done no_data
      (effects_of (lists_of book) added)
  pub reads : List (List Step)
  pub read : AreWordCalls (lists_of book) words reads
  pub visits : VisitsAre book (marks_of (added ∷ reads))
  pub last : ℕ
  pub in_order : Climbs 0 (map (λ by. by.mark.stamp) (marks_of (added ∷ reads))) last

-- `draws` are the results of `n` draws below `c` from the words that a table gave, and no word is left over
pub record AreTableDraws (c n : ℕ) (draws : List (Option ℕ)) : Type 0 where
  pub words : List ℕ
  pub table : AreTableWords words
  pub drawn : draws_in c n 0 words ≡ Some draws
