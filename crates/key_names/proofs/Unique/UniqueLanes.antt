-- If each entry is determined by the entries before it, then two books with the same marks have the same lanes.
use Rattle.std.proofs.Common.{◌≡◌, ℕ, suc, ◌<◌, List, [], ◌∷◌, refl, sym, subst, ap, ◌∙◌, arith, Some, Option, length}
use Rattle.std.proofs.Common.{take}
use Rattle.std.specs.Prelude.{slice_get, option_and_then, option_map, unwrap_or}
use Rattle.std.specs.List.{AllByRecursion, fold, flat_map}
use Rattle.std.proofs.lemmas.Option.{slice_get-map}
use Rattle.std.proofs.lemmas.List.{length-map}
use Rattle.key_names.specs.declared.names.LaneId.{LaneId}
use Rattle.key_names.specs.declared.names.LaneId.TheVariants.{Pool as PoolLane, Base as BaseLane, Cpu as CpuLane}
use Rattle.key_names.specs.declared.names.Step.{Step}
use Rattle.key_names.specs.declared.names.Step.TheVariants.{Look, Visit as Marked}
use Rattle.key_names.specs.declared.names.Who.{Who}
use Rattle.key_names.specs.declared.entries.BaseEntry.{BaseEntry}
use Rattle.key_names.specs.declared.entries.CpuEntry.{CpuEntry}
use Rattle.key_names.specs.Lanes.BaseList.{base_after}
use Rattle.key_names.specs.Kernel.Batches.{fills_after}
use Rattle.key_names.specs.Lanes.CpuList.{CpuState, cpu_key_after, cpu_key_in_use, cpu_step, cpu_start, cpu_after}
use Rattle.key_names.specs.Lanes.Book.{Book, Visit, Lists, lists_of, entries_of, list_at, cpu_list}
use Rattle.key_names.specs.Transcripts.SeenLine.{SeenLine}
use Rattle.key_names.specs.Callers.Effects.{Effect, at_pool, at_base, at_cpu, effect_or, effect_at, effects_of, pool_visit, base_visit}
use Rattle.key_names.specs.Callers.Effects.{cpu_visit}
use Rattle.key_names.specs.Transcripts.IsTranscript.{MarkBy, marks_from, line_marks, all_marks, lane_marks, PlacesConform, stamped}
use Rattle.key_names.specs.Transcripts.IsTranscript.{stamped_at, VisitsAre}
use Rattle.key_names.proofs.Lists.Each.{each_append, each_weaker, each_both}
use Rattle.key_names.proofs.Unique.TwoBooks.{Inferred, AllInferred}
use Rattle.key_names.proofs.Unique.UniqueEvents.{entries_at}
use Rattle.key_names.proofs.Unique.UniqueMarks.{one_entry}
use Rattle.key_names.proofs.Transcripts.LaneCounts.{every_place, lane_length, lane_counts}

-- two lists of the same length are equal if, at each place, equal earlier elements imply equal elements
pub same_lists : {E : Type 0} (xs ys : List E) → length xs ≡ length ys →
    ((i : ℕ) (x y : E) → i < length xs → slice_get xs i ≡ Some x → slice_get ys i ≡ Some y → take i xs ≡ take i ys →
    x ≡ y) →
    xs ≡ ys
same_lists [] [] long each = refl
same_lists [] (y ∷ ys) long each = absurd (omega arith)
same_lists (x ∷ xs) [] long each = absurd (omega arith)
same_lists {E = E} (x ∷ xs) (y ∷ ys) long each =
    let here : x ≡ y = each 0 x y (omega arith) refl refl refl in
    let rest : xs ≡ ys = same_lists xs ys (omega arith)
    (λ i a b lt p q same. each (suc i) a b (omega arith) p q
    (ap (λ z. z ∷ take i xs) here ∙ ap (λ zs. y ∷ zs) same)) in
    ap (λ z. z ∷ xs) here ∙ ap (λ zs. y ∷ zs) rest

-- if `xss` and `yss` have the same length, and their lists at each place are equal, then `xss` and `yss` are equal
same_rows : {E : Type 0} (xss yss : List (List E)) → length xss ≡ length yss →
    ((i : ℕ) → list_at xss i ≡ list_at yss i) → xss ≡ yss
same_rows [] [] long each = refl
same_rows [] (ys ∷ yss) long each = absurd (omega arith)
same_rows (xs ∷ xss) [] long each = absurd (omega arith)
same_rows (xs ∷ xss) (ys ∷ yss) long each =
    ap (λ z. z ∷ xss) (each 0) ∙ ap (λ zs. ys ∷ zs) (same_rows xss yss (omega arith) (λ i. each (suc i)))

-- the fills of a CPU's batches depend only on that CPU's list, and not on the base's list
fills_alone : (base base' : List BaseEntry) (c : ℕ) (es : List CpuEntry) (s s' : CpuState) → s.place ≡ s'.place →
    s.key ≡ s'.key → s.fills ≡ s'.fills → (fold (cpu_step base c) s es).fills ≡ (fold (cpu_step base' c) s' es).fills
fills_alone base base' c [] s s' place key fills = fills
fills_alone base base' c (e ∷ es) s s' place key fills =
    fills_alone base base' c es (cpu_step base c s e) (cpu_step base' c s' e) (ap suc place)
    (λ i. cpu_key_after c (place i) e (key i))
    (λ i. fills_after (place i) e (cpu_key_in_use e (key i)) (fills i))

-- a placeholder for the lemmas that need a maker. Whether two entries are the same does not depend on the maker
abbrev nobody : Who
nobody = record { caller = 0; event = 0; step = 0 }

module _ (book book' : Book) where
  abbrev l : Lists
  l = lists_of book

  abbrev l' : Lists
  l' = lists_of book'

  -- if the entries that determine the entry at a place are equal in both books, so are the entries at that place
  abbrev pub PlaceInferred : LaneId → ℕ → Type 0
  PlaceInferred lane place = Inferred book book' nobody (effect_at l lane place) (effect_at l' lane place)

  steps_inferred : (who : Who) (c n i : ℕ) (steps : List Step) →
      AllInferred book book' who (effects_of l steps) (effects_of l' steps) →
      AllByRecursion (λ by. PlaceInferred by.mark.lane by.mark.place) (marks_from c n i steps)
  steps_inferred who c n i [] inferred = tt
  steps_inferred who c n i (Look g ∷ steps) inferred = steps_inferred who c n (suc i) steps inferred.1
  steps_inferred who c n i (Marked mark ∷ steps) inferred = (inferred.0, steps_inferred who c n (suc i) steps inferred.1)

  lines_inferred : (lines : List SeenLine) →
      AllByRecursion (λ line. AllInferred book book' nobody (effects_of l line.steps) (effects_of l' line.steps)) lines →
      AllByRecursion (λ by. PlaceInferred by.mark.lane by.mark.place) (flat_map line_marks lines)
  lines_inferred [] inferred = tt
  lines_inferred (line ∷ lines) inferred =
      each_append (λ (by : MarkBy). PlaceInferred by.mark.lane by.mark.place) (line_marks line) (flat_map line_marks lines)
      (steps_inferred nobody line.caller line.event 0 line.steps inferred.0) (lines_inferred lines inferred.1)

  pub marks_inferred : (t : List (List SeenLine)) →
      AllByRecursion (λ lines. AllByRecursion
      (λ line. AllInferred book book' nobody (effects_of l line.steps) (effects_of l' line.steps)) lines) t →
      AllByRecursion (λ by. PlaceInferred by.mark.lane by.mark.place) (all_marks t)
  marks_inferred [] inferred = tt
  marks_inferred (lines ∷ t) inferred =
      each_append (λ (by : MarkBy). PlaceInferred by.mark.lane by.mark.place) (flat_map line_marks lines) (all_marks t)
      (lines_inferred lines inferred.0) (marks_inferred t inferred.1)

-- if two lists of visits have the same length, the same stamps and makers, and the same entries, then they are equal
visits_same : {E : Type 0} (xs ys : List (Visit E)) → length xs ≡ length ys →
    ((i : ℕ) → i < length xs → stamped xs i ≡ stamped ys i) → entries_of xs ≡ entries_of ys → xs ≡ ys
visits_same {E = E} xs ys long marks entries = same_lists xs ys long one
  where
    mark_of : Visit E → Option (ℕ × Who)
    mark_of = λ visit. Some (visit.stamp, visit.who)

    one : (i : ℕ) (x y : Visit E) → i < length xs → slice_get xs i ≡ Some x → slice_get ys i ≡ Some y →
        take i xs ≡ take i ys → x ≡ y
    one i x y lt p q same =
        let st : option_and_then {U = ℕ × Who} mark_of (Some x) ≡ option_and_then {U = ℕ × Who} mark_of (Some y) =
        sym (ap (option_and_then {U = ℕ × Who} mark_of) p) ∙ marks i lt
        ∙ ap (option_and_then {U = ℕ × Who} mark_of) q in
        let there : ℕ × Who = (x.stamp, x.who) in
        let mark : there ≡ (y.stamp, y.who) = ap (λ o. unwrap_or o there) st in
        let entry : Visit E → E = λ visit. visit.entry in
        let e : x.entry ≡ y.entry = one_entry (entries_of xs) (entries_of ys) i x.entry y.entry
        (slice_get-map entry xs i ∙ ap (λ o. option_map entry o) p)
        (slice_get-map entry ys i ∙ ap (λ o. option_map entry o) q) entries in
        λ j. record { stamp = (mark j).0; who = (mark j).1; entry = e j }

module _ (book book' : Book) (marks : List MarkBy) (places : (lane : LaneId) → PlacesConform (lane_marks lane marks))
    (visits : VisitsAre book marks) (visits' : VisitsAre book' marks) (cpus : length book.cpus ≡ length book'.cpus)
    (inferred : AllByRecursion (λ by. PlaceInferred book book' by.mark.lane by.mark.place) marks) where
  abbrev m : Lists
  m = lists_of book

  abbrev m' : Lists
  m' = lists_of book'

  lengths : (lane : LaneId) → lane_length book lane ≡ lane_length book' lane
  lengths lane = sym (lane_counts book marks places visits lane) ∙ lane_counts book' marks places visits' lane

  place_inferred : (lane : LaneId) (i : ℕ) → i < lane_length book lane → PlaceInferred book book' lane i
  place_inferred lane i lt =
      let count = lane_counts book marks places visits lane in
      every_place (PlaceInferred book book') lane marks (places lane) inferred i (omega arith)

  entries_long : {E : Type 0} (visits : List (Visit E)) → length (entries_of visits) ≡ length visits
  entries_long {E = E} visits = let entry : Visit E → E = λ visit. visit.entry in length-map visits entry

  cpu_long : (b : Book) (c : ℕ) → length (cpu_list (lists_of b) c) ≡ length (list_at b.cpus c)
  cpu_long b c = ap (λ es. length es) (sym (entries_at b.cpus c)) ∙ entries_long (list_at b.cpus c)

  -- if Inferred holds for the effects found at a place, it holds for the effects of the entries there
  inferred_there : {E : Type 0} (d d' : E → Effect) (o o' : Option E) (e e' : E) → o ≡ Some e → o' ≡ Some e' →
      Inferred book book' nobody (effect_or d o) (effect_or d' o') → Inferred book book' nobody (d e) (d' e')
  inferred_there {E = E} d d' o o' e e' p q t =
      let P : Option E → Type 0 = λ x. Inferred book book' nobody (effect_or d x) (effect_or d' o') in
      let Q : Option E → Type 0 = λ y. Inferred book book' nobody (d e) (effect_or d' y) in
      subst Q q (subst P p t)

  cpu_same : (c : ℕ) → cpu_list m c ≡ cpu_list m' c
  cpu_same c =
      let long = cpu_long book c in
      same_lists (cpu_list m c) (cpu_list m' c) (long ∙ lengths (CpuLane c) ∙ sym (cpu_long book' c))
      (λ i x y lt p q same. inferred_there (λ e. at_cpu (cpu_visit m c i e)) (λ e. at_cpu (cpu_visit m' c i e))
      (slice_get (cpu_list m c) i) (slice_get (cpu_list m' c) i) x y p q (place_inferred (CpuLane c) i (omega arith))
      (fills_alone m.base m'.base c (take i (cpu_list m c)) cpu_start cpu_start refl refl refl
      ∙ ap (λ es. (cpu_after m'.base c es).fills) same))

  cpus_same : m.cpus ≡ m'.cpus
  cpus_same = same_rows m.cpus m'.cpus (rows_long book ∙ cpus ∙ sym (rows_long book')) cpu_same
    where
      rows_long : (b : Book) → length (lists_of b).cpus ≡ length b.cpus
      rows_long b = let entries : List (Visit CpuEntry) → List CpuEntry = λ visits. entries_of visits in
          length-map b.cpus entries

  pool_same : m.pool ≡ m'.pool
  pool_same =
      let long = entries_long book.pool in
      same_lists m.pool m'.pool (long ∙ lengths PoolLane ∙ sym (entries_long book'.pool))
      (λ i x y lt p q same. inferred_there (λ e. at_pool (pool_visit m i e)) (λ e. at_pool (pool_visit m' i e))
      (slice_get m.pool i) (slice_get m'.pool i) x y p q (place_inferred PoolLane i (omega arith)) cpus_same)

  base_same : m.base ≡ m'.base
  base_same =
      let long = entries_long book.base in
      same_lists m.base m'.base (long ∙ lengths BaseLane ∙ sym (entries_long book'.base))
      (λ i x y lt p q same. inferred_there (λ e. at_base (base_visit m i e)) (λ e. at_base (base_visit m' i e))
      (slice_get m.base i) (slice_get m'.base i) x y p q (place_inferred BaseLane i (omega arith)) pool_same
      (ap (λ es. (base_after es).generation) same))

  -- at each place of a lane, the visits in both books have the same stamp and maker
  same_stamps : (lane : LaneId) (i : ℕ) → i < lane_length book lane → stamped_at book lane i ≡ stamped_at book' lane i
  same_stamps lane i lt =
      let count = lane_counts book marks places visits lane in
      every_place (λ lane i. stamped_at book lane i ≡ stamped_at book' lane i) lane marks (places lane)
      (each_weaker _ _ marks (λ (by : MarkBy) both. both.0
      ∙ sym both.1) (each_both _ _ marks visits.conform visits'.conform)) i
      (omega arith)

  -- if the two books have the same lists of vgetrandom states, then the books are the same
  pub same_book : book.callers ≡ book'.callers → book ≡ book'
  same_book callers =
      let pool : book.pool ≡ book'.pool = visits_same book.pool book'.pool (lengths PoolLane)
      (same_stamps PoolLane) pool_same in
      let base : book.base ≡ book'.base = visits_same book.base book'.base (lengths BaseLane)
      (same_stamps BaseLane) base_same in
      let rows : book.cpus ≡ book'.cpus = same_rows book.cpus book'.cpus cpus
      (λ c. visits_same (list_at book.cpus c) (list_at book'.cpus c) (lengths (CpuLane c)) (same_stamps (CpuLane c))
      (entries_at book.cpus c ∙ cpu_same c ∙ sym (entries_at book'.cpus c))) in
      λ i. record { pool = pool i; base = base i; cpus = rows i; callers = callers i }
