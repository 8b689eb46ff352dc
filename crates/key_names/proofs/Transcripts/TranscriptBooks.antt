-- In the book of a lawful transcript, the list of each vgetrandom state is lawful.
use Rattle.std.proofs.Common.{◌≡◌, ℕ, zero, suc, ◌+◌, ◌<◌, ◌≤◌, List, [], ◌∷◌, ◌⊎◌, inl, inr, refl, sym, subst, ap, ◌∙◌, arith}
use Rattle.std.specs.Prelude.{map}
use Rattle.std.specs.List.{range_with_len}
use Rattle.key_names.specs.declared.entries.VEntry.{VEntry}
use Rattle.key_names.specs.declared.entries.CpuEntry.{CpuEntry}
use Rattle.key_names.specs.Lanes.StateList.{LawfulStateList}
use Rattle.key_names.specs.Lanes.Book.{Book, Lists, lists_of, list_at, cpu_list, state_list}
use Rattle.key_names.specs.Callers.Calls.{Setting, Call}
use Rattle.key_names.specs.Callers.Meaning.{CallMeaning}
use Rattle.key_names.specs.Transcripts.IsTranscript.{EachCaller, CallerMeans, entries_of_state, state_lists}
use Rattle.key_names.proofs.Transcripts.TranscriptStates.{caller_keeps}

-- an empty list is lawful
none_lawful : (cpus : ℕ → List CpuEntry) (caller k : ℕ) → LawfulStateList cpus caller k []
none_lawful cpus caller k = record { comes = tt; ends = refl }

pub lt_or_le : (a b : ℕ) → (a < b) ⊎ (b ≤ a)
lt_or_le a zero = inr (omega arith)
lt_or_le zero (suc b) = inl (omega arith)
lt_or_le (suc a) (suc b) = elim (lt_or_le a b) [ inl lt ↦ inl (omega arith) | inr le ↦ inr (omega arith) ]

-- if a list consists of `f from`, `f (from + 1)` and so on, its element k is `f (from + k)`
pub made_at : {A : Type 0} (f : ℕ → List A) (from count k : ℕ) → k < count →
    list_at (map f (range_with_len from count)) k ≡ f (from + k)
made_at f from zero k lt = absurd (omega arith)
made_at f from (suc count) zero lt = let p : from ≡ from + 0 = omega arith in ap f p
made_at f from (suc count) (suc k) lt =
    let p : (from + 1) + k ≡ from + suc k = omega arith in made_at f (from + 1) count k (omega arith) ∙ ap f p

pub made_beyond : {A : Type 0} (f : ℕ → List A) (from count k : ℕ) → count ≤ k →
    list_at (map f (range_with_len from count)) k ≡ []
made_beyond f from zero k le = refl
made_beyond f from (suc count) zero le = absurd (omega arith)
made_beyond f from (suc count) (suc k) le = made_beyond f (from + 1) count k (omega arith)

-- from caller `c` on, the calls' meanings `mss` make the book's lists of states
abbrev pub HasStates : Lists → ℕ → List (List CallMeaning) → Type 0
HasStates lists c mss = (i : ℕ) → list_at lists.callers (c + i) ≡ list_at (map state_lists mss) i

pub all_states : (lists : Lists) (mss : List (List CallMeaning)) → lists.callers ≡ map state_lists mss →
    HasStates lists 0 mss
all_states lists mss is i =
    let p : 0 + i ≡ i = omega arith in ap (list_at lists.callers) p ∙ ap (λ xs. list_at xs i) is

pub later_states : (lists : Lists) (c : ℕ) (ms : List CallMeaning) (mss : List (List CallMeaning)) →
    HasStates lists c (ms ∷ mss) → HasStates lists (suc c) mss
later_states lists c ms mss has i =
    let p : suc c + i ≡ c + suc i = omega arith in ap (list_at lists.callers) p ∙ has (suc i)

pub own_list : (lists : Lists) (c : ℕ) (ms : List CallMeaning) (mss : List (List CallMeaning)) →
    HasStates lists c (ms ∷ mss) → (k : ℕ) → k < 16 → state_list lists c k ≡ entries_of_state k ms
own_list lists c ms mss has k below =
    let p : c + 0 ≡ c = omega arith in
    let q : 0 + k ≡ k = omega arith in
    ap (λ i. list_at (list_at lists.callers i) k) (sym p) ∙ ap (λ xs. list_at xs k) (has 0)
    ∙ made_at (λ i. entries_of_state i ms) 0 16 k below ∙ ap (λ i. entries_of_state i ms) q

module _ (lists : Lists) (settings : ℕ → Setting) where
  -- the list of each state of a caller is lawful
  one_caller : (caller c : ℕ) (calls : List Call) (ms : List CallMeaning) → CallerMeans lists (settings c) calls ms →
      (k : ℕ) →
      LawfulStateList (cpu_list lists) caller k (list_at (state_lists ms) k)
  one_caller caller c calls ms means k = elim (lt_or_le k 16) [
    | inl lt ↦ (let P : List VEntry → Type 0 = λ es. LawfulStateList (cpu_list lists) caller k es in
        let is : list_at (state_lists ms) k ≡ entries_of_state (0 + k) ms =
        made_at (λ i. entries_of_state i ms) 0 16 k lt in
        let p : 0 + k ≡ k = omega arith in
        subst P (sym (is ∙ ap (λ i. entries_of_state i ms) p))
        (caller_keeps lists caller k lt (settings c) calls ms means))
    | inr le ↦ (let P : List VEntry → Type 0 = λ es. LawfulStateList (cpu_list lists) caller k es in
        subst P (sym (made_beyond (λ i. entries_of_state i ms) 0 16 k le)) (none_lawful (cpu_list lists) caller k))
  ]

  -- the list of each state of each caller is lawful; c is the number of the first caller
  all_callers : (caller c : ℕ) (callers : List (List Call)) (mss : List (List CallMeaning)) →
      EachCaller (λ c calls ms. CallerMeans lists (settings c) calls ms) c callers mss → (i k : ℕ) →
      LawfulStateList (cpu_list lists) caller k (list_at (list_at (map state_lists mss) i) k)
  all_callers caller c [] [] each i k = none_lawful (cpu_list lists) caller k
  all_callers caller c [] (ms ∷ mss) each i k = absurd each
  all_callers caller c (calls ∷ callers) [] each i k = absurd each
  all_callers caller c (calls ∷ callers) (ms ∷ mss) each zero k = one_caller caller c calls ms each.0 k
  all_callers caller c (calls ∷ callers) (ms ∷ mss) each (suc i) k = all_callers caller (suc c) callers mss each.1 i k

-- the list of each state in the book is lawful
pub states_lawful : (book : Book) (settings : ℕ → Setting) (callers : List (List Call))
    (mss : List (List CallMeaning)) →
    EachCaller (λ c calls ms. CallerMeans (lists_of book) (settings c) calls ms) 0 callers mss →
    book.callers ≡ map state_lists mss →
    (caller k : ℕ) → LawfulStateList (cpu_list (lists_of book)) caller k (state_list (lists_of book) caller k)
states_lawful book settings callers mss each is caller k =
    let P : List (List (List VEntry)) → Type 0 = λ xs. LawfulStateList (cpu_list (lists_of book)) caller k
    (list_at (list_at xs caller) k) in
    subst P (sym is) (all_callers (lists_of book) settings caller 0 callers mss each caller k)
