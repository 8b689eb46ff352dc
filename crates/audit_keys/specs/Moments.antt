-- The book of a run at a moment. The keys, and the rests of batches, that are held at this moment were not used before
-- it.
use Rattle.std.specs.Prelude.{ℕ, suc, ◌≡◌, ◌++◌, List, [], ◌∷◌, map, filter, take, nat_le}
use Rattle.key_names.specs.Lanes.StateList.{anything, state_after}
use Rattle.key_names.specs.Lanes.Book.{Book, Lists, Visit, lists_of, cpu_list, state_list, HalfFinishedBook}
use Rattle.key_names.specs.Transcripts.IsTranscript.{IsTranscriptBy, state_lists}
use Rattle.key_names.specs.Callers.Meaning.{CallMeaning}
use Rattle.key_names.specs.Transcripts.SeenLine.{SeenLine}
use Rattle.key_names.specs.Texts.ScriptGrammar.{Script}
use Rattle.audit_keys.specs.HeldUnused.{HoldsUnused}

-- `part` is a beginning of the list `whole`
abbrev pub BeginsWith : {E : Type 0} → List E → List E → Type 0
BeginsWith {E} whole part = (more : List E) × (whole ≡ part ++ more)

-- each list of `part` is a beginning, of any length, of the list of the same lane or state in `whole`. A beginning of a
-- state's list must not stop after a rekey, or after blocks, if another entry has to follow
pub record AreBeginnings (whole part : Lists) : Type 0 where
  pub base : BeginsWith whole.base part.base
  pub cpus : (c : ℕ) → BeginsWith (cpu_list whole c) (cpu_list part c)
  pub states : (caller state : ℕ) → BeginsWith (state_list whole caller state) (state_list part caller state)
  pub ends : (caller state : ℕ) → (state_after caller state (state_list part caller state)).expected ≡ anything

-- if the lists of `part` are beginnings of a book's lists, no byte of a key or rest that is held at the end of `part`
-- was used in `part`
abbrev pub BeginningsHoldUnused : Type 0
BeginningsHoldUnused = (whole part : Lists) → HalfFinishedBook whole → AreBeginnings whole part → HoldsUnused part

-- the visits of a lane whose stamps are at most `stamp`
abbrev pub visits_to : {E : Type 0} → ℕ → List (Visit E) → List (Visit E)
visits_to stamp visits = filter (λ visit. nat_le visit.stamp stamp) visits

-- the first calls of each caller: `made` gives the number of these calls, and `c` is the number of the first caller
abbrev pub first_calls : {C : Type 0} → (ℕ → ℕ) → ℕ → List (List C) → List (List C)
first_calls made c [] = []
first_calls made c (calls ∷ callers) = take (made c) calls ∷ first_calls made (suc c) callers

-- the book at a moment has the visits of each lane up to a stamp. For each vgetrandom state it has the entries of the
-- calls that the state's caller has made
abbrev pub book_at : ℕ → (ℕ → ℕ) → Book → List (List CallMeaning) → Book
book_at stamp made book ms = record {
  pool = visits_to stamp book.pool;
  base = visits_to stamp book.base;
  cpus = map (visits_to stamp) book.cpus;
  callers = map state_lists (first_calls made 0 ms);
}

-- no byte of a key or rest that is held at a moment of a lawful transcript was used before this moment. A moment is any
-- stamp, and for each caller any number of calls that the caller has made
abbrev pub MomentsHoldUnused : Type 0
MomentsHoldUnused = (script : Script) (t : List (List SeenLine)) (book : Book) (ms : List (List CallMeaning))
    (stamp : ℕ) (made : ℕ → ℕ) → IsTranscriptBy script t book ms → HoldsUnused (lists_of (book_at stamp made book ms))
