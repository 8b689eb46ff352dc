-- The rule of the lanes, part by part, for any moment between two atomic steps: the words, the values in the slots,
-- and the knowledge of all passes.
use Rattle.std.specs.Prelude.{◌≡◌, ◌⊎◌, ℕ, ◌+◌, ◌^◌, ◌<◌, ◌≤◌, List, [], All, length, Some, slice_index_or}
use Rattle.std.specs.List.{sum_by}
use mathlib.Core.Option.{some}
use lib.ListN.{get_elem?}
use Rattle.key_names.specs.Lanes.Book.{HalfFinishedLanes}
use Rattle.lane_table.specs.declared.view.Visit.{Visit}
use Rattle.lane_table.specs.declared.view.View.{View}
use Rattle.lane_table.specs.declared.view.Content.{Content}
use Rattle.lane_table.specs.declared.view.TicketStage.{TicketStage}
use Rattle.lane_table.specs.declared.view.TicketStage.TheVariants.{Away, Queued, Holding}
use Rattle.lane_table.specs.Meaning.{ahead_of, after_of, parent, replay}
use Rattle.lane_table.specs.References.{Closed, LawfulLists}
use Rattle.lane_table.specs.BookLists.{StateLists, book_lists}
use Rattle.lane_table.specs.WorldRule.{AllBegin, Begins, Carries, IsHolding, Replays, Rising, St, WorldRule, at, column, has_ticket, known_of, once_below, raises, serving_word, ticket_word, times, weight}

abbrev pub ticket_of : St → ℕ → ℕ
ticket_of s lane = slice_index_or s.words (ticket_word lane) 0

abbrev pub serving_of : St → ℕ → ℕ
serving_of s lane = slice_index_or s.words (serving_word lane) 0

abbrev pub generation_word : St → ℕ
generation_word s = slice_index_or s.words 0 0

-- pass number `j` has the view `v`
abbrev pub IsView : St → ℕ → View → Type 0
IsView s j v = get_elem? s.views j ≡ some v

-- a pass with the given stage has the ticket `t`
abbrev pub HasTicket : TicketStage → ℕ → Type 0
HasTicket Away t = ⊥
HasTicket (Queued u) t = u ≡ t
HasTicket (Holding u) t = u ≡ t

-- the tickets in use are the numbers from the serving number up to the ticket number. Each ticket in use belongs to one
-- pass, and the holder of the lane has the served ticket
pub record Tickets (s : St) (lane : ℕ) : Type 0 where
  pub ordered : serving_of s lane ≤ ticket_of s lane
  pub counted : serving_of s lane + sum_by (λ a. has_ticket a.stage) (column lane s.views) ≡ ticket_of s lane
  pub within : (j t : ℕ) (v : View) → IsView s j v → HasTicket (at lane v).stage t →
      (serving_of s lane ≤ t) × (t < ticket_of s lane)
  pub one : (j k t : ℕ) (v w : View) → IsView s j v → IsView s k w → HasTicket (at lane v).stage t →
      HasTicket (at lane w).stage t → j ≡ k
  pub each : (t : ℕ) → serving_of s lane ≤ t → t < ticket_of s lane →
      (j : ℕ) × (v : View) × IsView s j v × HasTicket (at lane v).stage t
  pub turn : (j t : ℕ) (v : View) → IsView s j v → (at lane v).stage ≡ Holding t → t ≡ serving_of s lane
  pub loaded : (j : ℕ) (v : View) → IsView s j v → (at lane v).loaded ≤ serving_of s lane

-- the ticket number is `first` plus the number of tickets that the passes drew; the serving number is lower by the
-- number of tickets in use
pub record CountsFrom (first : ℕ) (s : St) (lane : ℕ) : Type 0 where
  pub ticket : ticket_of s lane ≡ first + sum_by (λ a. a.tickets) (column lane s.views)
  pub serving : serving_of s lane + sum_by (λ a. has_ticket a.stage) (column lane s.views)
      ≡ first + sum_by (λ a. a.tickets) (column lane s.views)

-- whenever a pass has exactly the view `v`, the ticket number and the serving number of each lane are both `first`
abbrev pub NumbersAre : ℕ → View → Type 0
NumbersAre first v = (s : St) (j lane : ℕ) → WorldRule first s → IsView s j v → lane < length s.homes →
    (ticket_of s lane ≡ first) × (serving_of s lane ≡ first)

-- each pass knows a prefix of each lane's list, and the pass that holds the lane knows the whole list. If a pass knows
-- an entry that names an entry of the parent lane, the pass knows the named entry too. `Carries` holds for the lists
-- that each lane's value carries
pub record KnownLists (s : St) (logs : ℕ → List Visit) : Type 0 where
  pub known : (j lane : ℕ) (v : View) → IsView s j v → lane < length s.homes → Begins (known_of v lane) (logs lane)
  pub heard : (j lane : ℕ) (v : View) → IsView s j v → lane < length s.homes → AllBegin (at lane v).heard (logs lane)
  pub whole : (j lane t : ℕ) (v : View) → IsView s j v → lane < length s.homes → (at lane v).stage ≡ Holding t →
      known_of v lane ≡ logs lane
  pub named : (j : ℕ) (v : View) → IsView s j v → Closed (length s.homes) (known_of v)
  pub carried : (lane : ℕ) → lane < length s.homes →
      (lists : ℕ → List Visit) × Carries (length s.homes) logs lane lists

-- a value in its slot is the replay of the lane's list, with the list's next place and last stamp; if the slot is
-- empty, the pass with the served ticket has the value
pub record Values (first : ℕ) (s : St) (logs : ℕ → List Visit) : Type 0 where
  pub replays : (lane : ℕ) (c : Content) → lane < length s.homes → get_elem? s.homes lane ≡ some (some (Some c)) →
      Replays lane first (logs lane) c
  pub home : (lane : ℕ) → lane < length s.homes →
      ((c : Content) × (get_elem? s.homes lane ≡ some (some (Some c))))
      ⊎ ((j : ℕ) × (v : View) × IsView s j v × ((at lane v).stage ≡ Holding (serving_of s lane)))

-- all passes together count each visit of the lists once; the shares add up to the whole, and a pass without a share
-- knows no lane
pub record Counts (s : St) (logs : ℕ → List Visit) : Type 0 where
  pub made : (lane : ℕ) → lane < length s.homes → sum_by (λ a. a.made) (column lane s.views) ≡ length (logs lane)
  pub placed : (lane p : ℕ) → lane < length s.homes →
      sum_by (λ a. times p a.places) (column lane s.views) ≡ once_below p (length (logs lane))
  pub top : ℕ
  pub below : (j : ℕ) (v : View) → IsView s j v → v.halvings ≤ top
  pub whole : sum_by (weight top) s.views ≡ 2 ^ top
  pub spent : (j : ℕ) (v : View) → IsView s j v → v.share ≡ 0 → v.lanes ≡ []

-- a later visit in a list has a higher stamp, and a pass's stamp bounds the stamps of all visits that it made or
-- inherited at its split
pub record Stamps (first : ℕ) (s : St) (logs : ℕ → List Visit) : Type 0 where
  pub rising : (lane : ℕ) → lane < length s.homes → Rising first (logs lane)
  pub passed : (j : ℕ) (v : View) → IsView s j v → All (λ n. n ≤ v.stamp) v.stamps

-- if the parent lane's entry at place `p` names place `b` of the lane, the visit at `b` answers the entry; or the
-- reference is half finished: `b` is the next place, and a pass that holds the lane owes the answer
abbrev pub IsAnswered : St → (ℕ → List Visit) → ℕ → ℕ → ℕ → Type 0
IsAnswered s logs lane p b =
    ((y : Visit) × (get_elem? (logs lane) b ≡ some y) × (after_of y.entry ≡ Some p))
    ⊎ ((b ≡ length (logs lane))
    × ((j : ℕ) × (v : View) × IsView s j v × ((at lane v).owes ≡ Some p) × IsHolding (at lane v)))

-- the lists are lawful, except for visits that are half finished
pub record LawfulSoFar (s : St) (logs : ℕ → List Visit) : Type 0 where
  pub lawful : LawfulLists (length s.homes) logs
  pub closed : Closed (length s.homes) logs
  pub answered : (lane p b : ℕ) (x : Visit) → 1 ≤ lane → lane < length s.homes →
      get_elem? (logs (parent lane)) p ≡ some x → ahead_of x.entry ≡ Some (lane, b) → IsAnswered s logs lane p b
  pub book : (callers : StateLists) → HalfFinishedLanes (book_lists (length s.homes) logs callers)

-- the generation word is the number of raises in the base's list, plus one from a raise until the put of the base. The
-- word is at least each generation that a pass has seen, and at least each CPU's generation
pub record Generation (s : St) (logs : ℕ → List Visit) : Type 0 where
  pub base : (replay (logs 1)).base.generation ≡ raises (logs 1)
  pub is : ((j : ℕ) (v : View) → IsView s j v → (at 1 v).raised ≡ 0) → generation_word s ≡ raises (logs 1)
  pub raised : (j : ℕ) (v : View) → IsView s j v →
      ((at 1 v).raised ≡ 0)
      ⊎ (((at 1 v).raised ≡ 1) × ((at 1 v).stage ≡ Holding (serving_of s 1))
      × (generation_word s ≡ raises (logs 1) + 1))
  pub seen : (j : ℕ) (v : View) → IsView s j v → v.seen ≤ generation_word s
  pub cpus : (lane : ℕ) → 2 ≤ lane → lane < length s.homes →
      (replay (logs lane)).cpu.cpu.generation ≤ generation_word s
  pub small : generation_word s < 2 ^ 63

-- The laws: if the rule (`WorldRule`) holds for the state `s` of a table, each part holds for `s` and the rule's lists

abbrev pub EachTicketHasOneHolder : Type 0
EachTicketHasOneHolder = (first : ℕ) (s : St) (lane : ℕ) → WorldRule first s → lane < length s.homes → Tickets s lane

abbrev pub NumbersCountFromFirst : Type 0
NumbersCountFromFirst = (first : ℕ) (s : St) (lane : ℕ) → WorldRule first s → lane < length s.homes →
    CountsFrom first s lane

abbrev pub KnownListsBegin : Type 0
KnownListsBegin = (first : ℕ) (s : St) (r : WorldRule first s) → KnownLists s r.logs

abbrev pub ValuesAreReplays : Type 0
ValuesAreReplays = (first : ℕ) (s : St) (r : WorldRule first s) → Values first s r.logs

abbrev pub CountsAndSharesAddUp : Type 0
CountsAndSharesAddUp = (first : ℕ) (s : St) (r : WorldRule first s) → Counts s r.logs

abbrev pub StampsRise : Type 0
StampsRise = (first : ℕ) (s : St) (r : WorldRule first s) → Stamps first s r.logs

abbrev pub ListsAreLawfulSoFar : Type 0
ListsAreLawfulSoFar = (first : ℕ) (s : St) (r : WorldRule first s) → LawfulSoFar s r.logs

abbrev pub GenerationIsTheBases : Type 0
GenerationIsTheBases = (first : ℕ) (s : St) (r : WorldRule first s) → Generation s r.logs
