-- A draft is the part of a script before a line. A draft without a fault (`Fine`) stays so if an event or a block
-- without a fault is added. The script of such a draft is well formed at the end.
use Rattle.std.proofs.Common.{◌≡◌, ℕ, zero, suc, ◌+◌, ◌<◌, ◌≤◌, ◌==◌, leb, ltb, false, cond, ◌&&◌, ◌||◌, ◌⊎◌, inl, inr, List, [], ◌∷◌, ◌++◌, length, refl, sym, subst, ◌∙◌, arith}
use Rattle.std.specs.List.{AllByRecursion, list_any}
use Rattle.std.specs.Prelude.{count_by, fold, nat_lt, sum_by, if◌then◌else◌}
use Rattle.std.proofs.lemmas.Bool.{cases_Bool, cases_lt, eq-eqb, eqb-true, false_from_ne_true, leb-false, leb-true, le-ltb, lt-leb, ltb-false, ne_eqb, or_from, or_parts}
use Rattle.std.proofs.lemmas.List.{length-append}
use Rattle.std.proofs.lemmas.List.Sums.{sum_by-append, sum_by-cons}
use Rattle.key_names.specs.declared.events.Event.{Event}
use Rattle.key_names.specs.declared.events.Event.TheVariants.{Fork}
use Rattle.key_names.specs.Texts.ScriptGrammar.{FewActs, ForksAbove, InRange, IsForkAbove, acts_after, bytes_read, is_fork_of, most_cpus, times_forked}
use Rattle.key_names.proofs.Lists.Each.{each_append, each_left, each_right}
use Rattle.key_names.specs.Texts.ScriptFaults.{Draft, blocks_of, has_orphan, is_bad_fork, is_fork_from, is_past_limits, with_block, with_event}

-- ---- sums over the events of a script

-- `f` counts over a list of events: the empty list counts 0, and two joined lists count the sum of their counts
pub record Adds (f : List Event → ℕ) : Type 0 where
  pub none : f [] ≡ 0
  pub more : (xs ys : List Event) → f (xs ++ ys) ≡ f xs + f ys

pub lengths : Adds length
lengths = record { none = refl; more = λ xs ys. length-append xs ys }

pub reads : Adds (sum_by bytes_read)
reads = record { none = refl; more = λ xs ys. sum_by-append bytes_read xs ys }

pub forks_of : (c : ℕ) → Adds (count_by (is_fork_of c))
forks_of c = record { none = refl; more = λ xs ys. sum_by-append (λ e. cond (is_fork_of c e) 1 0) xs ys }

-- let the blocks be `done`, then one block of the events `events` and `es`, and then `later`. The total over all blocks
-- is the sum of the totals of `done`, `events`, `es` and `later`
pub total_split : (f : List Event → ℕ) → Adds f → (done later : List (List Event)) (events es : List Event)
    → sum_by f (done ++ (events ++ es) ∷ later) ≡ sum_by f (done ++ events ∷ []) + (f es + sum_by f later)
total_split f adds done later events es =
    omega (
      arith,
      sum_by-append f done ((events ++ es) ∷ later),
      sum_by-append f done (events ∷ []),
      sum_by-cons f (events ++ es) later,
      sum_by-cons f events [],
      adds.more events es,
    )

-- one more empty block adds nothing to the total of `f` over all blocks
pub total_block : (f : List Event → ℕ) → Adds f → (blocks : List (List Event)) → sum_by f (blocks ++ [] ∷ []) ≡
    sum_by f blocks
total_block f adds blocks = omega (arith, sum_by-append f blocks ([] ∷ []), sum_by-cons f [] [], adds.none)

-- ---- each block forks only numbers above its own

pub above_append : (c : ℕ) (xs ys : List (List Event)) → ForksAbove c xs → ForksAbove (c + length xs) ys →
    ForksAbove c (xs ++ ys)
above_append c [] ys left right = subst (λ k. ForksAbove k ys) (omega arith) right
above_append c (x ∷ xs) ys left right = (
  left.0,
  above_append (suc c) xs ys left.1 (subst (λ k. ForksAbove k ys) (omega arith) right),
)

pub above_left : (c : ℕ) (xs ys : List (List Event)) → ForksAbove c (xs ++ ys) → ForksAbove c xs
above_left c [] ys all = tt
above_left c (x ∷ xs) ys all = (all.0, above_left (suc c) xs ys all.1)

pub above_right : (c : ℕ) (xs ys : List (List Event)) → ForksAbove c (xs ++ ys) → ForksAbove (c + length xs) ys
above_right c [] ys all = subst (λ k. ForksAbove k ys) (omega arith) all
above_right c (x ∷ xs) ys all = subst (λ k. ForksAbove k ys) (omega arith) (above_right (suc c) xs ys all.1)

-- ---- the acts that wait for a vread

pub few_push : (w : ℕ) (events : List Event) (e : Event) → FewActs w events →
    acts_after (fold acts_after w events) e ≤ 8 → FewActs w (events ++ e ∷ [])
few_push w [] e few last = (last, tt)
few_push w (event ∷ events) e few last = (few.0, few_push (acts_after w event) events e few.1 last)

pub few_at : (w : ℕ) (events es : List Event) (e : Event) → FewActs w (events ++ e ∷ es) →
    acts_after (fold acts_after w events) e ≤ 8
few_at w [] es e few = few.0
few_at w (event ∷ events) es e few = few_at (acts_after w event) events es e few.1

-- ---- a draft without fault

pub record Fine (d : Draft) : Type 0 where
  pub version : (1 ≤ d.version) × (d.version ≤ 3)
  pub cpus : (1 ≤ d.cpus) × (d.cpus ≤ most_cpus d.version)
  pub callers : length d.done < 64
  pub ranges : AllByRecursion (AllByRecursion (InRange d.version d.cpus)) (blocks_of d)
  pub once : (c : ℕ) → times_forked (blocks_of d) c ≤ 1
  pub begun : (c : ℕ) → 0 < c → c ≤ length d.done → times_forked (blocks_of d) c ≡ 1
  pub first : times_forked (blocks_of d) 0 ≡ 0
  pub above : ForksAbove 0 (blocks_of d)
  pub acts : AllByRecursion (FewActs 0) (blocks_of d)
  pub events : sum_by length (blocks_of d) ≤ 65536
  pub reads : sum_by (sum_by bytes_read) (blocks_of d) ≤ 16777216

-- the event `e` forks caller `c`, whose number was not forked before and is above the forking caller's
pub record ForksNew (d : Draft) (e : Event) (c : ℕ) : Type 0 where
  pub one : count_by (is_fork_of c) (e ∷ []) ≡ 1
  pub new : times_forked (blocks_of d) c ≡ 0
  pub high : length d.done < c

forks_new : (d : Draft) (e : Event) (c : ℕ) → is_bad_fork d e ≡ false →
    (count_by (is_fork_of c) (e ∷ []) ≡ 0) ⊎ ForksNew d e c
forks_new d (Fork child) c good =
    let parts = or_parts (leb child (length d.done)) (ltb 0 (times_forked (blocks_of d) child)) good in
    elim (cases_Bool (child == c)) [
      | inl same ↦
          let is : child ≡ c = eqb-true _ _ same in
          let high = leb-false _ _ parts.0 in
          let new = ltb-false _ _ (rw is at parts.1) in
          inr (record { one = rw same refl; new = omega arith; high = omega arith })
      | inr other ↦ inl (rw other refl)
    ]
forks_new d e c good = inl refl

fork_above : (d : Draft) (e : Event) → is_bad_fork d e ≡ false → IsForkAbove (0 + length d.done) e
fork_above d (Fork child) good =
    let high = leb-false _ _ (or_parts (leb child (length d.done)) (ltb 0 (times_forked (blocks_of d) child)) good).0 in
    omega arith
fork_above d e good = tt

-- if event `e` is added to the draft `d`, the number of times that `c` is forked grows by the number of times that `e`
-- forks `c`
pub times_with : (d : Draft) (e : Event) (c : ℕ)
    → times_forked (blocks_of (with_event d e)) c ≡ times_forked (blocks_of d) c + count_by (is_fork_of c) (e ∷ [])
times_with d e c = total_split (count_by (is_fork_of c)) (forks_of c) d.done [] d.events (e ∷ []) ∙ omega arith

once_with : (d : Draft) (e : Event) (c : ℕ) → Fine d → is_bad_fork d e ≡ false →
    times_forked (blocks_of (with_event d e)) c ≤ 1
once_with d e c fine good =
    let with_is = times_with d e c in
    let before = fine.once c in
    elim (forks_new d e c good) [ inl none ↦ omega arith | inr new ↦ omega (arith, new.one, new.new) ]

begun_with : (d : Draft) (e : Event) (c : ℕ) → Fine d → is_bad_fork d e ≡ false → 0 < c → c ≤ length d.done
    → times_forked (blocks_of (with_event d e)) c ≡ 1
begun_with d e c fine good some low =
    let with_is = times_with d e c in
    let before = fine.begun c some low in
    elim (forks_new d e c good) [ inl none ↦ omega arith | inr new ↦ absurd (omega (arith, new.high)) ]

first_with : (d : Draft) (e : Event) → Fine d → is_bad_fork d e ≡ false →
    times_forked (blocks_of (with_event d e)) 0 ≡ 0
first_with d e fine good =
    let with_is = times_with d e 0 in
    let before = fine.first in
    elim (forks_new d e 0 good) [ inl none ↦ omega arith | inr new ↦ absurd (omega (arith, new.high)) ]

pub event_fine : (d : Draft) (e : Event) → Fine d → InRange d.version d.cpus e → is_bad_fork d e ≡ false →
    is_past_limits d e ≡ false
    → Fine (with_event d e)
event_fine d e fine range good within =
    let limit = or_parts (leb 65536 (sum_by length (blocks_of d)) || ltb 16777216
    (sum_by (sum_by bytes_read) (blocks_of d) + bytes_read e)) (ltb 8 (acts_after (fold acts_after 0 d.events) e))
    within in
    let counts = or_parts (leb 65536 (sum_by length (blocks_of d)))
    (ltb 16777216 (sum_by (sum_by bytes_read) (blocks_of d) + bytes_read e)) limit.0 in
    let Rows : Event → Type 0 = InRange d.version d.cpus in
    let many = leb-false _ _ counts.0 in
    let much = ltb-false _ _ counts.1 in
    let length_is = total_split length lengths d.done [] d.events (e ∷ []) in
    let reads_are = total_split (sum_by bytes_read) reads d.done [] d.events (e ∷ []) in
    record {
      version = fine.version;
      cpus = fine.cpus;
      callers = fine.callers;
      ranges = each_append (AllByRecursion Rows) d.done ((d.events ++ e ∷ []) ∷ [])
          (each_left (AllByRecursion Rows) d.done (d.events ∷ []) fine.ranges) (
            each_append Rows d.events (e ∷ []) (each_right (AllByRecursion Rows) d.done (d.events ∷ []) fine.ranges).0
                (range, tt),
            tt,
          );
      once = λ c. once_with d e c fine good;
      begun = λ c. begun_with d e c fine good;
      first = first_with d e fine good;
      above = above_append 0 d.done ((d.events ++ e ∷ []) ∷ []) (above_left 0 d.done (d.events ∷ []) fine.above) (
        each_append (IsForkAbove (0 + length d.done)) d.events (e ∷ [])
            (above_right 0 d.done (d.events ∷ []) fine.above).0 (fork_above d e good, tt),
        tt,
      );
      acts = each_append (FewActs 0) d.done ((d.events ++ e ∷ []) ∷ [])
          (each_left (FewActs 0) d.done (d.events ∷ []) fine.acts) (
            few_push 0 d.events e (each_right (FewActs 0) d.done (d.events ∷ []) fine.acts).0 (ltb-false _ _ limit.1),
            tt,
          );
      events = omega arith;
      reads = omega arith;
    }

pub length_blocks : (d : Draft) → length (blocks_of d) ≡ length d.done + 1
length_blocks d = omega (arith, length-append d.done (d.events ∷ []))

begun_block : (d : Draft) (c : ℕ) → Fine d → (times_forked (blocks_of d) (length (blocks_of d)) ≡ 0 → ⊥) → 0 < c →
    c ≤ length (blocks_of d)
    → times_forked (blocks_of d) c ≡ 1
begun_block d c fine forked some low =
    let long = length_blocks d in
    elim (cases_lt (length d.done) c) [
      | inl last ↦
          let is : c ≡ length (blocks_of d) = omega arith in
          let most = fine.once (length (blocks_of d)) in
          rw is (omega (arith, forked))
      | inr before ↦ fine.begun c some before
    ]

pub block_fine : (d : Draft) → Fine d → length (blocks_of d) < 64 →
    (times_forked (blocks_of d) (length (blocks_of d)) ≡ 0 → ⊥) → Fine (with_block d)
block_fine d fine few forked =
    let times = λ (c : ℕ). total_block (count_by (is_fork_of c)) (forks_of c) (blocks_of d) in
    let Rows : List Event → Type 0 = AllByRecursion (InRange d.version d.cpus) in
    record {
      version = fine.version;
      cpus = fine.cpus;
      callers = few;
      ranges = each_append Rows (blocks_of d) ([] ∷ []) fine.ranges (tt, tt);
      once = λ c. rw (times c) (fine.once c);
      begun = λ c some low. rw (times c) (begun_block d c fine forked some low);
      first = rw (times 0) fine.first;
      above = above_append 0 (blocks_of d) ([] ∷ []) fine.above (tt, tt);
      acts = each_append (FewActs 0) (blocks_of d) ([] ∷ []) fine.acts (tt, tt);
      events = rw (total_block length lengths (blocks_of d)) fine.events;
      reads = rw (total_block (sum_by bytes_read) reads (blocks_of d)) fine.reads;
    }

-- ---- numbers that are forked but have no block

not_of : (n c : ℕ) (e : Event) → n ≤ c → is_fork_from n e ≡ false → is_fork_of c e ≡ false
not_of n c (Fork child) high e = let low = leb-false _ _ e in ne_eqb child c (λ same. omega arith)
not_of n c event high e = refl

none_of : (n c : ℕ) (events : List Event) → n ≤ c → list_any (is_fork_from n) events ≡ false →
    count_by (is_fork_of c) events ≡ 0
none_of n c [] high e = refl
none_of n c (event ∷ events) high e =
    let parts = or_parts (is_fork_from n event) (list_any (is_fork_from n) events) e in
    let here : count_by (is_fork_of c) (event ∷ []) ≡ 0 = rw (not_of n c event high parts.0) refl in
    omega (arith, (forks_of c).more (event ∷ []) events, none_of n c events high parts.1)

-- if no event forks `n` or a higher number, and `c` is at least `n`, then `c` is never forked
pub no_orphan : (n c : ℕ) (callers : List (List Event)) → n ≤ c → list_any (list_any (is_fork_from n)) callers ≡
    false → times_forked callers c ≡ 0
no_orphan n c [] high e = refl
no_orphan n c (events ∷ callers) high e =
    let parts = or_parts (list_any (is_fork_from n) events) (list_any (list_any (is_fork_from n)) callers) e in
    omega (
      arith,
      sum_by-cons (count_by (is_fork_of c)) events callers,
      none_of n c events high parts.0,
      no_orphan n c callers high parts.1,
    )

abbrev NoneFrom : ℕ → (ℕ → ℕ) → Type 0
NoneFrom n count = (c : ℕ) → n ≤ c → count c ≡ 0

not_from : (n : ℕ) (e : Event) → NoneFrom n (λ c. count_by (is_fork_of c) (e ∷ [])) → is_fork_from n e ≡ false
not_from n (Fork child) none =
    false_from_ne_true (leb n child) (λ from.
    let zero_is : count_by (is_fork_of child) (Fork child ∷ []) ≡ 0 = none child (leb-true _ _ from) in
    let one_is : count_by (is_fork_of child) (Fork child ∷ []) ≡ 1 = rw (eq-eqb child child refl) refl in
    omega arith)
not_from n e none = refl

none_from : (n : ℕ) (events : List Event) → NoneFrom n (λ c. count_by (is_fork_of c) events) →
    list_any (is_fork_from n) events ≡ false
none_from n [] none = refl
none_from n (e ∷ events) none =
    or_from (is_fork_from n e) (list_any (is_fork_from n) events)
    (not_from n e (λ c high. omega (arith, none c high, (forks_of c).more (e ∷ []) events)))
    (none_from n events (λ c high. omega (arith, none c high, (forks_of c).more (e ∷ []) events)))

-- if no number from n on is forked, then no event forks n or a higher number
pub orphanless : (n : ℕ) (callers : List (List Event)) → NoneFrom n (times_forked callers) →
    list_any (list_any (is_fork_from n)) callers ≡ false
orphanless n [] none = refl
orphanless n (events ∷ callers) none =
    or_from (list_any (is_fork_from n) events) (list_any (list_any (is_fork_from n)) callers)
    (none_from n events (λ c high. omega (arith, none c high, sum_by-cons (count_by (is_fork_of c)) events callers)))
    (orphanless n callers (λ c high. omega (arith, none c high, sum_by-cons (count_by (is_fork_of c)) events callers)))

-- ---- a draft without fault becomes a whole script

-- all conditions of a well-formed script except the length of its text
pub record Whole (version cpus : ℕ) (blocks : List (List Event)) : Type 0 where
  pub versions : (1 ≤ version) × (version ≤ 3)
  pub few_cpus : (1 ≤ cpus) × (cpus ≤ most_cpus version)
  pub callers : (1 ≤ length blocks) × (length blocks ≤ 64)
  pub ranges : AllByRecursion (AllByRecursion (InRange version cpus)) blocks
  pub forked : (c : ℕ) → times_forked blocks c ≡ (if nat_lt 0 c && nat_lt c (length blocks) then 1 else 0)
  pub above : ForksAbove 0 blocks
  pub acts : AllByRecursion (FewActs 0) blocks
  pub events : sum_by length blocks ≤ 65536
  pub reads : sum_by (sum_by bytes_read) blocks ≤ 16777216

pub forked_low : (c n : ℕ) → 0 < c → c < n → ◌≡◌ {A = ℕ} (if nat_lt 0 c && nat_lt c n then 1 else 0) 1
forked_low c n some low = grind arith

pub forked_high : (c n : ℕ) → n ≤ c → ◌≡◌ {A = ℕ} (if nat_lt 0 c && nat_lt c n then 1 else 0) 0
forked_high c n high = grind arith

pub forked_most : (c n : ℕ) → ◌≤◌ (if nat_lt 0 c && nat_lt c n then 1 else 0) 1
forked_most c n = grind arith

forked_once : (d : Draft) (c : ℕ) → Fine d → has_orphan d ≡ false
    → times_forked (blocks_of d) c ≡ (if nat_lt 0 c && nat_lt c (length (blocks_of d)) then 1 else 0)
forked_once d zero fine whole = fine.first
forked_once d (suc c) fine whole =
    let long = length_blocks d in
    elim (cases_lt (suc c) (length (blocks_of d))) [
      | inl low ↦ fine.begun (suc c) (omega arith) (omega arith) ∙ sym (forked_low (suc c) _ (omega arith) low)
      | inr high ↦ no_orphan (length (blocks_of d)) (suc c) (blocks_of d) high whole ∙ sym (forked_high (suc c) _ high)
    ]

pub end_whole : (d : Draft) → Fine d → has_orphan d ≡ false → Whole d.version d.cpus (blocks_of d)
end_whole d fine whole =
    let long = length_blocks d in
    record {
      versions = fine.version;
      few_cpus = fine.cpus;
      callers = (omega arith, omega (arith, fine.callers));
      ranges = fine.ranges;
      forked = λ c. forked_once d c fine whole;
      above = fine.above;
      acts = fine.acts;
      events = fine.events;
      reads = fine.reads;
    }

-- ---- on the way to a whole script, the next event, block or end has no fault

none_low : (k c : ℕ) (events : List Event) → c ≤ k → AllByRecursion (IsForkAbove k) events →
    count_by (is_fork_of c) events ≡ 0
none_low k c [] low above = refl
none_low k c (Fork child ∷ events) low above =
    let here : count_by (is_fork_of c) (Fork child ∷ []) ≡ 0 = let high = above.0 in
    rw (ne_eqb child c (λ e. omega arith)) refl in
    omega (arith, (forks_of c).more (Fork child ∷ []) events, none_low k c events low above.1)
none_low k c (e ∷ events) low above = omega (arith, (forks_of c).more (e ∷ []) events, none_low k c events low above.1)

-- if each block from number `k` on forks only numbers above its own, these blocks fork no number up to `k`
none_forked_low : (k c : ℕ) (callers : List (List Event)) → c ≤ k → ForksAbove k callers → times_forked callers c ≡ 0
none_forked_low k c [] low above = refl
none_forked_low k c (events ∷ callers) low above =
    omega (
      arith,
      sum_by-cons (count_by (is_fork_of c)) events callers,
      none_low k c events low above.0,
      none_forked_low (suc k) c callers (omega arith) above.1,
    )

good_fork : (d : Draft) (e : Event) (es : List Event) (later : List (List Event))
    → Whole d.version d.cpus (d.done ++ (d.events ++ e ∷ es) ∷ later) → is_bad_fork d e ≡ false
good_fork d (Fork child) es later whole =
    let block = (above_right 0 d.done ((d.events ++ Fork child ∷ es) ∷ later) whole.above).0 in
    let high = (each_right (IsForkAbove (0 + length d.done)) d.events (Fork child ∷ es) block).0 in
    let here : count_by (is_fork_of child) (Fork child ∷ []) ≡ 1 = rw (eq-eqb child child refl) refl in
    let most = whole.forked child in
    let all = forked_most child (length (d.done ++ (d.events ++ Fork child ∷ es) ∷ later)) in
    let split = total_split (count_by (is_fork_of child)) (forks_of child) d.done later d.events (Fork child ∷ es) in
    let new : times_forked (blocks_of d) child ≡ 0 = omega (arith, (forks_of child).more (Fork child ∷ []) es) in
    or_from (leb child (length d.done)) (ltb 0 (times_forked (blocks_of d) child)) (lt-leb _ _ (omega arith))
    (le-ltb _ _ (omega arith))
good_fork d e es later whole = refl

within_limits : (d : Draft) (e : Event) (es : List Event) (later : List (List Event))
    → Whole d.version d.cpus (d.done ++ (d.events ++ e ∷ es) ∷ later) → is_past_limits d e ≡ false
within_limits d e es later whole =
    let acts = few_at 0 d.events es e (each_right (FewActs 0) d.done ((d.events ++ e ∷ es) ∷ later) whole.acts).0 in
    let many = total_split length lengths d.done later d.events (e ∷ es) in
    let much = total_split (sum_by bytes_read) reads d.done later d.events (e ∷ es) in
    let most = whole.events in
    let most_read = whole.reads in
    let few : leb 65536 (sum_by length (blocks_of d)) ≡ false = lt-leb _ _ (omega arith) in
    let little : ltb 16777216 (sum_by (sum_by bytes_read) (blocks_of d) + bytes_read e) ≡ false =
    le-ltb _ _ (omega (arith, sum_by-cons bytes_read e es)) in
    or_from _ _ (or_from _ _ few little) (le-ltb _ _ acts)

pub record EventFits (d : Draft) (e : Event) : Type 0 where
  pub range : InRange d.version d.cpus e
  pub fork : is_bad_fork d e ≡ false
  pub limits : is_past_limits d e ≡ false

pub whole_event : (d : Draft) (e : Event) (es : List Event) (later : List (List Event))
    → Whole d.version d.cpus (d.done ++ (d.events ++ e ∷ es) ∷ later) → EventFits d e
whole_event d e es later whole =
    let Rows : Event → Type 0 = InRange d.version d.cpus in
    let block = (each_right (AllByRecursion Rows) d.done ((d.events ++ e ∷ es) ∷ later) whole.ranges).0 in
    record {
      range = (each_right Rows d.events (e ∷ es) block).0;
      fork = good_fork d e es later whole;
      limits = within_limits d e es later whole;
    }

pub whole_block : (d : Draft) (es : List Event) (later : List (List Event)) →
    Whole d.version d.cpus (blocks_of d ++ es ∷ later)
    → (length (blocks_of d) < 64) × (times_forked (blocks_of d) (length (blocks_of d)) ≡ 1)
whole_block d es later whole =
    let long = length_blocks d in
    let all = length-append (blocks_of d) (es ∷ later) in
    let few = whole.callers.1 in
    let c = length (blocks_of d) in
    let following = none_forked_low (0 + c) c (es ∷ later) (omega arith)
    (above_right 0 (blocks_of d) (es ∷ later) whole.above) in
    let once = whole.forked c ∙ forked_low c (length (blocks_of d ++ es ∷ later)) (omega arith) (omega arith) in
    (omega arith, omega (arith, sum_by-append (count_by (is_fork_of c)) (blocks_of d) (es ∷ later)))

pub whole_end : (d : Draft) → Whole d.version d.cpus (blocks_of d) → has_orphan d ≡ false
whole_end d whole = orphanless (length (blocks_of d)) (blocks_of d) (λ c high. whole.forked c ∙ forked_high c _ high)
