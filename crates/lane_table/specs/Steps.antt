-- The effect of each kind of atomic step on a view.
use Rattle.std.specs.Prelude.{◌≡◌, ◌≢◌, ◌⊎◌, ℕ, suc, ◌+◌, ◌*◌, ◌-◌, ◌^◌, ◌<◌, ◌≤◌, List, [], ◌∷◌, ◌++◌, map, max, length, Option, Some, None, slice_set, if◌then◌else◌, nat_lt, replicate}
use Rattle.atomic_table.specs.Table.{Me, Step, rest}
use Rattle.lane_table.specs.declared.view.Visit.{Visit}
use Rattle.lane_table.specs.declared.view.LaneEntry.{LaneEntry}
use Rattle.lane_table.specs.declared.view.Handed.{Handed}
use Rattle.lane_table.specs.declared.view.LaneView.{LaneView}
use Rattle.lane_table.specs.declared.view.View.{View}
use Rattle.lane_table.specs.declared.view.TableSize.{TableSize}
use Rattle.lane_table.specs.declared.view.Content.{Content}
use Rattle.lane_table.specs.declared.view.TicketStage.{TicketStage}
use Rattle.lane_table.specs.declared.view.TicketStage.TheVariants.{Away, Queued, Holding}
use Rattle.lane_table.specs.Meaning.{after_of, ahead_of, raise_of, parent, replay, got_of, gave_of}
use Rattle.lane_table.specs.WorldRule.{Begins, Rising, Replays, Consistent, at, blank, known_of, IsHolding, raises, ticket_word, serving_word}

-- the view of a pass, and the slots that it has taken out, each slot with its value
abbrev pub Seated : Type 0
Seated = Me (Option Content) View

-- `v` with `a` as the view's part of the lane
abbrev pub with_at : ℕ → LaneView → View → View
with_at lane a v = record v { lanes = slice_set v.lanes lane a }

abbrev pub staged : TicketStage → LaneView → LaneView
staged g a = record a { stage = g }

abbrev pub with_drawn : View → View
with_drawn v = record v { drawn = v.drawn + 1 }

-- Steps on a lane's ticket word, and loads of its serving word

-- the pass drew the ticket `t` and waits with it
abbrev pub waiting : ℕ → LaneView → LaneView
waiting t a = record a { stage = Queued t; tickets = a.tickets + 1 }

-- the pass's view and slots after it drew the ticket `t`
abbrev pub queued : ℕ → ℕ → Seated → Seated
queued lane t m = (with_at lane (waiting t (at lane m.0)) (with_drawn m.0), m.1)

abbrev pub finding : ℕ → LaneView → LaneView
finding n a = record a { found = n }

-- the pass's view and slots after it found `n` in the ticket word
abbrev pub found : ℕ → ℕ → Seated → Seated
found lane n m = (with_at lane (finding n (at lane m.0)) m.0, m.1)

abbrev pub loading : ℕ → LaneView → LaneView
loading n a = record a { loaded = n }

-- the pass's view and slots after it found `n` in the serving word
abbrev pub loaded : ℕ → ℕ → Seated → Seated
loaded lane n m = (with_at lane (loading n (at lane m.0)) m.0, m.1)

-- a load of the ticket word; the word is at least each serving number that the pass loaded before
abbrev pub finds : Step (Option Content) → Seated → ℕ → Seated → Type 0
finds st m r m' = (lane : ℕ) → st.word ≡ ticket_word lane → ((at lane m.0).loaded ≤ r) × (m' ≡ found lane r m)

-- a compare and exchange of the ticket word. It draws a ticket if the word is as expected
abbrev pub draws : Step (Option Content) → Seated → ℕ → Seated → Type 0
draws st m r m' = (lane : ℕ) → st.word ≡ ticket_word lane
    → (r ≡ st.first → m' ≡ queued lane st.first m) × (r ≢ st.first → m' ≡ m)

-- the pass's view and slots after it drew the ticket `t` and kept it as the number found
abbrev pub queued_found : ℕ → ℕ → Seated → Seated
queued_found lane t m = (with_at lane (waiting t (finding t (at lane m.0))) (with_drawn m.0), m.1)

-- as `draws`, but the pass also keeps the number that it found in the ticket word
abbrev pub tries : Step (Option Content) → Seated → ℕ → Seated → Type 0
tries st m r m' = (lane : ℕ) → st.word ≡ ticket_word lane → ((at lane m.0).loaded ≤ r)
    × (r ≡ st.first → m' ≡ queued_found lane st.first m) × (r ≢ st.first → m' ≡ found lane r m)

-- a load of the serving word; the pass keeps the number that it found
abbrev pub loads : Step (Option Content) → Seated → ℕ → Seated → Type 0
loads st m r m' = (lane : ℕ) → st.word ≡ serving_word lane → ((at lane m.0).loaded ≤ r) × (m' ≡ loaded lane r m)

-- A waiting pass whose turn comes

abbrev pub longer : List Visit → List Visit → List Visit
longer xs ys = if nat_lt (length xs) (length ys) then ys else xs

abbrev pub holder : List Visit → ℕ → LaneView → LaneView
holder log t a = record a { known = log; stage = Holding t }

abbrev pub learn : List Visit → LaneView → LaneView
learn ys a = record a { known = longer a.known ys }

-- from lane `k` on, each lane's known list becomes the longer of itself and the lane's list in `lists`
abbrev pub learn_from : (ℕ → List Visit) → ℕ → List LaneView → List LaneView
learn_from lists k [] = []
learn_from lists k (a ∷ rest) = learn (lists k) a ∷ learn_from lists (suc k) rest

abbrev pub learned : (ℕ → List Visit) → View → View
learned lists v = record v { lanes = learn_from lists 0 v.lanes }

-- if the pass holds another lane, the view's part of that lane does not change
abbrev pub KeepsHeld : ℕ → View → View → Type 0
KeepsHeld lane v w = (j u : ℕ) → j < length v.lanes → j ≢ lane → (at j v).stage ≡ Holding u → at j w ≡ at j v

-- from one view to the other, each known list stays the same or grows
abbrev pub Grows : View → View → Type 0
Grows v w = (j : ℕ) → j < length v.lanes → Begins (known_of v j) (known_of w j)

-- the pass owes no answer at the lane, and in a hold of the base it has not raised the generation
abbrev pub OwesNothing : ℕ → View → Type 0
OwesNothing lane v = ((at lane v).owes ≡ None) × (lane ≡ 1 → (at 1 v).raised ≡ 0)

-- the turn of ticket `t` came, and the pass knows the lane's whole list. For each other lane, the pass knows at least
-- the list that this lane's value carries
pub record Got (lane t : ℕ) (m m' : Seated) : Type 0 where
  pub log : List Visit
  pub content : Content
  pub lists : ℕ → List Visit
  pub begins : Begins (known_of m.0 lane) log
  pub rising : Rising m.0.first log
  pub replays : Replays lane m.0.first log content
  pub consistent : Consistent m'.0
  pub fresh : lane ≡ 1 → m.0.seen ≤ raises log
  pub free : OwesNothing lane m.0
  pub keeps : KeepsHeld lane m.0 m'.0
  pub is : m' ≡ (with_at lane (holder log t (at lane m.0)) (learned lists m.0), (lane, Some content) ∷ m.1)
  pub grows : Grows m.0 m'.0

-- a load of the serving word by a pass that waits with the ticket `t`
abbrev pub serves : Step (Option Content) → Seated → ℕ → Seated → Type 0
serves st m r m' = (lane : ℕ) → st.word ≡ serving_word lane → (t : ℕ) → (at lane m.0).stage ≡ Queued t
    → ((at lane m.0).loaded ≤ r) × (r ≤ t) × (r ≡ t → Got lane t m m') × (r ≢ t → m' ≡ m)

-- The release of a lane, with a visit or without

-- a view's part of a lane after the visit `x` of the lane
abbrev pub visited : Visit → LaneView → LaneView
visited x a = record a {
  known = a.known ++ x ∷ [];
  made = a.made + 1;
  places = a.places ++ length a.known ∷ [];
  stage = Away;
  owes = None;
  raised = 0;
}

abbrev pub with_stamp : ℕ → View → View
with_stamp n v = record v { stamp = n; stamps = v.stamps ++ n ∷ [] }

-- the view after an entry at place `place` of its lane: if the entry names a place of another lane, the pass owes the
-- answer at that lane
abbrev pub owing : Option (ℕ × ℕ) → ℕ → View → View
owing None place v = v
owing (Some named) place v = with_at named.0 (record (at named.0 v) { owes = Some place }) v

-- the view after the visit `x` of the lane
abbrev pub after : ℕ → Visit → View → View
after lane x v =
    owing (ahead_of x.entry) (length (known_of v lane)) (with_at lane (visited x (at lane v)) (with_stamp x.stamp v))

-- the pass holds the lane `ahead`; `place` is that lane's next place, and no earlier entry names it
pub record NamesHeld (lane : ℕ) (v : View) (ahead place : ℕ) : Type 0 where
  pub above : 1 ≤ ahead
  pub near : ahead < length v.lanes
  pub parent : parent ahead ≡ lane
  pub next : place ≡ length (known_of v ahead)
  pub holding : IsHolding (at ahead v)
  pub free : (at ahead v).owes ≡ None

-- an entry may hand a key only to a place that the pass holds. If an entry of the parent lane waits for an answer at
-- the held place, the new entry names that entry; otherwise it names none. The new entry raises the generation if and
-- only if the pass raised the generation in this hold
pub record MayName (lane : ℕ) (e : LaneEntry) (v : View) : Type 0 where
  pub ahead : (ahead_of e ≡ None) ⊎ ((l : ℕ) × (b : ℕ) × (ahead_of e ≡ Some (l, b)) × NamesHeld lane v l b)
  pub following : after_of e ≡ (at lane v).owes
  pub raise : lane ≡ 1 → (at 1 v).raised ≡ raise_of e

-- the key that an entry of `lane` receives, from the parent lane's list as the view `v` knows it
abbrev pub handed : ℕ → LaneEntry → View → Handed
handed lane e v = got_of (after_of e) (known_of v (parent lane))

-- a visit with the keys that it receives and hands on
abbrev pub filled : ℕ → Visit → View → Visit
filled lane x v = record x {
  got = handed lane x.entry v;
  gave = gave_of (replay (known_of v lane)) x.entry (handed lane x.entry v);
}

abbrev pub puts : Visit → Step (Option Content) → Seated → ℕ → Seated → Type 0
puts x st m r m' = (lane : ℕ) → st.word ≡ serving_word lane
    → (m' ≡ (after lane (filled lane x m.0) m.0, rest m.1)) × Consistent m'.0

-- the pass's view and slots after it gave the lane back
abbrev pub left : ℕ → Seated → Seated
left lane m = (with_at lane (staged Away (at lane m.0)) m.0, rest m.1)

abbrev pub leaves : Step (Option Content) → Seated → ℕ → Seated → Type 0
leaves st m r m' = (lane : ℕ) → st.word ≡ serving_word lane → m' ≡ left lane m

-- The view after a look at the generation

abbrev pub saw : ℕ → Seated → Seated
saw g m = (record m.0 { seen = g; looks = m.0.looks ++ g ∷ [] }, m.1)

-- a look finds a generation that is at least each one that the pass has seen. The generation is also at least the
-- number of raises in the base's list, as far as the pass knows the list
abbrev pub looks : Step (Option Content) → Seated → ℕ → Seated → Type 0
looks st m r m' = st.word ≡ 0
    → (m.0.seen ≤ r) × (raises (known_of m.0 1) ≤ r) × (r < 2 ^ 63) × (m' ≡ saw r m) × Consistent m'.0

abbrev pub raising : LaneView → LaneView
raising a = record a { raised = 1 }

abbrev pub raised : ℕ → Seated → Seated
raised g m = (record (with_at 1 (raising (at 1 m.0)) m.0) { seen = g }, m.1)

abbrev pub raises_generation : Step (Option Content) → Seated → ℕ → Seated → Type 0
raises_generation st m r m' = (m' ≡ raised r m) × Consistent m'.0

-- The views after a split and after a join

abbrev pub halved : View → View
halved v = record v { halvings = v.halvings + 1 }

-- a new pass's part of a lane after a split: the same knowledge, but no visits and no tickets of its own
abbrev pub recorded : LaneView → LaneView
recorded a = record a { made = 0; places = []; tickets = 0; stage = Away; owes = None; raised = 0 }

abbrev pub child : View → View
child v = record v { halvings = v.halvings + 1; drawn = 0; lanes = map recorded v.lanes }

abbrev pub with_list : List Visit → List (List Visit) → List (List Visit)
with_list [] lists = lists
with_list (x ∷ xs) lists = (x ∷ xs) ∷ lists

-- a view's part of a lane after a join. `heard` keeps both known lists, since the join does not show that the shorter
-- list is a prefix of the longer one
abbrev pub merged : LaneView → LaneView → LaneView
merged a b = record a {
  known = longer a.known b.known;
  made = a.made + b.made;
  places = a.places ++ b.places;
  tickets = a.tickets + b.tickets;
  loaded = max a.loaded b.loaded;
  found = max a.found b.found;
  heard = with_list a.known (with_list b.known (a.heard ++ b.heard));
}

abbrev pub merged_lanes : List LaneView → List LaneView → List LaneView
merged_lanes [] bs = []
merged_lanes (a ∷ rest) [] = a ∷ rest
merged_lanes (a ∷ rest) (b ∷ bs) = merged a b ∷ merged_lanes rest bs

-- the view after a join. Its share is the sum of both shares, with the greater number of halvings
abbrev pub both_of : View → View → View
both_of v w = record v {
  share = v.share * 2 ^ (max v.halvings w.halvings - v.halvings) + w.share * 2 ^
      (max v.halvings w.halvings - w.halvings);
  halvings = max v.halvings w.halvings;
  stamp = max v.stamp w.stamp;
  stamps = v.stamps ++ w.stamps;
  seen = max v.seen w.seen;
  lanes = merged_lanes v.lanes w.lanes;
}

abbrev pub nobody : View
nobody = record {
  first = 0;
  share = 0;
  halvings = 0;
  stamp = 0;
  stamps = [];
  drawn = 0;
  seen = 0;
  looks = [];
  lanes = [];
}

abbrev pub first_view : TableSize → View
first_view plan = record {
  first = plan.first;
  share = 1;
  halvings = 0;
  stamp = plan.first;
  stamps = [];
  drawn = 0;
  seen = 0;
  looks = [];
  lanes = replicate plan.count blank;
}
