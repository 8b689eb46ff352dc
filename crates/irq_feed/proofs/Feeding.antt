-- The course of a call of `feed`. From the first feeder's start to the last mixed sample, the facts `CanStart`,
-- `CanTakeBack`, `HasDrained` and `Front` hold in turn. `AllMixed` follows from them.
use Rattle.std.proofs.Common.{◌≡◌, ◌≢◌, ◌⊎◌, inl, inr, ⊎_elim, ℕ, zero, suc, ◌+◌, ◌*◌, ◌<◌, ◌≤◌, ◌==◌, cond, Bool, true, false, not, ◌&&◌, true≢false, List, [], ◌∷◌, ◌++◌, length, set, sym, refl, ap, ◌∙◌, subst, arith, length-append, append_assoc, add-one, suc-mul}
use Rattle.std.specs.Prelude.{nat_lt, slice_index_or, vec_capacity, vec_items}
use Rattle.std.specs.List.{AllByRecursion}
use Rattle.std.proofs.lemmas.Bool.{lt-ltb, le-ltb}
use Rattle.std.proofs.lemmas.Bool.Decides.{eqb_tells}
use Rattle.std.proofs.lemmas.List.{append-nil, get_or-set_same, get_or-set_other}
use Rattle.std.proofs.lemmas.List.Elements.{filter-append}
use Rattle.std.proofs.lemmas.Bool.{ltb-true, ltb-false}
use Rattle.irq_feed.specs.declared.samples.Sample.{Sample}
use Rattle.irq_feed.specs.declared.known.Ended.{Ended}
use Rattle.irq_feed.specs.declared.known.Known.TheVariants.{Worker, Feeder}
use Rattle.irq_feed.specs.declared.mixed.Mixed.{Mixed}
use Rattle.irq_feed.specs.declared.queue.FeedQueue.{FeedQueue}
use Rattle.irq_feed.specs.declared.queue.FeedPass.{FeedPass}
use Rattle.irq_feed.specs.Feeds.{Numbers}
use Rattle.irq_feed.specs.Samples.{sample, first_samples, of_feeder}
use Rattle.irq_feed.specs.Rule.{desk, post, ended, after_split, taken_in, with_taken, Learned, Learns}
use Rattle.irq_feed.specs.Passes.{known, took, taken_of, AreNew, IsPassOf}
use Rattle.irq_feed.specs.Fed.{mixed_in, is_direct, sum_below, through_queue, by_worker, done_so_far, IsAmong, HasBegun, CanStart, CanTakeBack, Front, HasDrained, HasRoom, AllMixed}
use Rattle.irq_feed.proofs.Counting.{sum_small, products_small, sum_same, sum_tight, sum_plus, counted, none_after, cons_not_nil, of_here, first_length, first_own, first_else, front_whole, front_none, front_short}

-- ---- The samples of a feeder that were mixed so far

low_or_high : (f n : ℕ) → (f < n) ⊎ (n ≤ f)
low_or_high f n = by (nat_lt f n) refl
  where
    by : (b : Bool) → nat_lt f n ≡ b → (f < n) ⊎ (n ≤ f)
    by true e = inl (ltb-true f n e)
    by false e = inr (ltb-false f n e)

done_by : (feeds : Numbers) (d : ℕ → Bool) (n f : ℕ) (near direct early : Bool) → nat_lt f feeds.feeders ≡ near
    → d f ≡ direct → nat_lt f n ≡ early
    → done_so_far feeds d n f
    ≡ cond near (cond (direct && not early) [] (first_samples feeds f feeds.each)) []
done_by feeds d n f near direct early a b c =
    ap (λ (t : Bool × Bool × Bool). cond t.0 (cond (t.1 && not t.2) [] (first_samples feeds f feeds.each)) [])
    (λ i. (a i, b i, c i))

done_out : (feeds : Numbers) (d : ℕ → Bool) (n f : ℕ) → feeds.feeders ≤ f → done_so_far feeds d n f ≡ []
done_out feeds d n f high = done_by feeds d n f false (d f) (nat_lt f n) (le-ltb f feeds.feeders high) refl refl

done_late : (feeds : Numbers) (d : ℕ → Bool) (n f : ℕ) → f < feeds.feeders → d f ≡ true → n ≤ f
    → done_so_far feeds d n f ≡ []
done_late feeds d n f near direct late = done_by feeds d n f true true false (lt-ltb f feeds.feeders near) direct (le-ltb f n late)

done_early : (feeds : Numbers) (d : ℕ → Bool) (n f : ℕ) → f < feeds.feeders → d f ≡ true → f < n
    → done_so_far feeds d n f ≡ first_samples feeds f feeds.each
done_early feeds d n f near direct early = done_by feeds d n f true true true (lt-ltb f feeds.feeders near) direct (lt-ltb f n early)

done_through : (feeds : Numbers) (d : ℕ → Bool) (n f : ℕ) → f < feeds.feeders → d f ≡ false
    → done_so_far feeds d n f ≡ first_samples feeds f feeds.each
done_through feeds d n f near direct = done_by feeds d n f true false (nat_lt f n) (lt-ltb f feeds.feeders near) direct refl

-- ---- the samples that came through the queue

module _ (feeds : Numbers) (d : ℕ → Bool) (taken items : List Sample) (pushed : ℕ → ℕ)
    (ordered : (f : ℕ) → of_feeder f (taken ++ items) ≡ first_samples feeds f (pushed f))
    (bounded : (f : ℕ) → pushed f ≤ feeds.each)
    (free : (f : ℕ) → feeds.feeders ≤ f → pushed f ≡ 0)
    (ends : (f : ℕ) → f < feeds.feeders → d f ≡ true → pushed f ≡ 0)
    (count : length taken ≡ sum_below feeds.feeders (through_queue feeds.each d)) where
  front : (f : ℕ) → of_feeder f taken ++ of_feeder f items ≡ first_samples feeds f (pushed f)
  front f = sym (filter-append (λ (x : Sample). x.feeder == f) taken items) ∙ ordered f

  none_of : (f : ℕ) → pushed f ≡ 0 → of_feeder f taken ≡ []
  none_of f none = front_none (of_feeder f taken) (of_feeder f items) (front f ∙ ap (first_samples feeds f) none)

  at_most : (f : ℕ) → length (of_feeder f taken) ≤ pushed f
  at_most f = subst (λ n. length (of_feeder f taken) ≤ n) (first_length feeds f (pushed f))
      (front_short (of_feeder f taken) (of_feeder f items) (first_samples feeds f (pushed f)) (front f))

  below : (f : ℕ) → f < feeds.feeders → length (of_feeder f taken) ≤ through_queue feeds.each d f
  below f near = by (d f) refl
    where
      by : (b : Bool) → d f ≡ b → length (of_feeder f taken) ≤ cond (d f) 0 feeds.each
      by true e = subst (λ t. length (of_feeder f taken) ≤ cond t 0 feeds.each) (sym e)
          (let a = at_most f in let z = ends f near e in omega arith)
      by false e = subst (λ t. length (of_feeder f taken) ≤ cond t 0 feeds.each) (sym e)
          (let a = at_most f in let z = bounded f in omega arith)

  exact : (f : ℕ) → f < feeds.feeders → length (of_feeder f taken) ≡ through_queue feeds.each d f
  exact f near = sum_tight feeds.feeders (λ n. length (of_feeder n taken)) (through_queue feeds.each d) below
      (sym (counted feeds.feeders taken (λ n high. none_of n (free n high))) ∙ count) f near

  whole : (f : ℕ) → f < feeds.feeders → d f ≡ false → of_feeder f taken ≡ first_samples feeds f feeds.each
  whole f near through =
      let long : length (of_feeder f taken) ≡ feeds.each = exact f near ∙ ap (λ b. cond b 0 feeds.each) through in
      let all : pushed f ≡ feeds.each = (let a = at_most f in let b = bounded f in omega arith) in
      front_whole (of_feeder f taken) (of_feeder f items) (first_samples feeds f feeds.each)
      (front f ∙ ap (first_samples feeds f) all)
      (let l = first_length feeds f feeds.each in omega arith)

  pub drained_each : (f : ℕ) → of_feeder f taken ≡ done_so_far feeds d 0 f
  drained_each f = ⊎_elim (λ near. by near (d f) refl)
      (λ high. none_of f (free f high) ∙ sym (done_out feeds d 0 f high)) (low_or_high f feeds.feeders)
    where
      by : f < feeds.feeders → (b : Bool) → d f ≡ b → of_feeder f taken ≡ done_so_far feeds d 0 f
      by near true e = none_of f (ends f near e) ∙ sym (done_late feeds d 0 f near e (omega arith))
      by near false e = whole f near e ∙ sym (done_through feeds d 0 f near e)

-- if `xs` has no sample of a direct feeder, then the feeder of each sample of `xs` is not direct. The worker itself
-- mixes a direct feeder's samples
came_through : (d : ℕ → Bool) (xs : List Sample) → ((f : ℕ) → d f ≡ true → of_feeder f xs ≡ [])
    → AllByRecursion (λ (x : Sample). d x.feeder ≡ false) xs
came_through d [] none = tt
came_through d (x ∷ xs) none =
    (by (d x.feeder) refl, came_through d xs (λ f direct. none_after x xs f (none f direct)))
  where
    by : (b : Bool) → d x.feeder ≡ b → d x.feeder ≡ false
    by true e = absurd (cons_not_nil x (of_feeder x.feeder xs) (sym (of_here x xs x.feeder refl) ∙ none x.feeder e))
    by false e = e

-- ---- The feeders whose passes the worker took in (`Ended`)

among_all : (P : Ended → Type 0) (e : Ended) (es : List Ended) → AllByRecursion P es → IsAmong e es → P e
among_all P e [] all here = absurd here
among_all P e (x ∷ xs) all here =
    ⊎_elim (λ (same : x ≡ e). subst P same all.0) (λ (more : IsAmong e xs). among_all P e xs all.1 more) here

among_more : (e : Ended) (es more : List Ended) → IsAmong e es → IsAmong e (es ++ more)
among_more e [] more here = absurd here
among_more e (x ∷ xs) more here =
    ⊎_elim (λ (same : x ≡ e). inl same) (λ (following : IsAmong e xs). inr (among_more e xs more following)) here

among_last : (e : Ended) (es : List Ended) → IsAmong e (es ++ e ∷ [])
among_last e [] = inl refl
among_last e (x ∷ xs) = inr (among_last e xs)

-- ---- The start of one feeder after the other

pub first_start : (q : FeedQueue) (feeds : Numbers) (w : FeedPass) (m : Mixed) → AreNew q feeds w → mixed_in m ≡ []
    → vec_capacity m.samples ≡ feeds.feeders * feeds.each
    → (feeds.feeders ≤ 16) × (1 ≤ feeds.each) × (feeds.each ≤ 10000) → CanStart q feeds 0 0 w m
first_start q feeds w m new none room few = record {
  of_queue = new.0;
  low = omega arith;
  few = few;
  ends = [];
  knows = new.1;
  direct = λ f low. absurd (omega arith);
  owes = refl;
  none = none;
  room = (let r = room in omega arith);
}

pub has_pass : (q : FeedQueue) (feeds : Numbers) (n owed : ℕ) (w w' : FeedPass) (m : Mixed) → n < feeds.feeders
    → CanStart q feeds n owed w m → IsPassOf q w' → known w' ≡ after_split (known w) → CanTakeBack q feeds n owed w' m
has_pass q feeds n owed w w' m near h of_queue is = (
  near,
  record {
    of_queue = of_queue;
    low = h.low;
    few = h.few;
    ends = h.ends;
    knows = is ∙ ap after_split h.knows;
    direct = h.direct;
    owes = h.owes;
    none = h.none;
    room = h.room;
  },
)

-- after the flag of feeder `n` is set to `b`, the flag is `b`, and the flags of the feeders below `n` are unchanged. A
-- flag is true if the feeder is direct: the worker itself mixes its samples
pub now_is : (ds : List Bool) (n : ℕ) (b : Bool) → n < length ds → slice_index_or (set ds n b) n false ≡ b
now_is ds n b low = get_or-set_same ds n b false low

pub still_is : (ds : List Bool) (n : ℕ) (b : Bool) (f : ℕ) → f < n
    → slice_index_or (set ds n b) f false ≡ slice_index_or ds f false
still_is ds n b f low = get_or-set_other ds n f b false (λ e. absurd (omega arith))

-- once it is known whether feeder `n` is direct (the worker itself mixes its samples), the next feeder can start
module _ (q : FeedQueue) (feeds : Numbers) (n owed : ℕ) (w : FeedPass) (m m' : Mixed) (b : Bool)
    (h : CanTakeBack q feeds n owed w m) (samples : m'.samples ≡ m.samples) (here : is_direct m' n ≡ b)
    (same : (f : ℕ) → f < n → is_direct m' f ≡ is_direct m f) where
  owes_more : owed + cond b 0 feeds.each
      ≡ sum_below (n + 1) (through_queue feeds.each (is_direct m'))
  owes_more = rw add-one
      (ap (λ k. k + cond b 0 feeds.each) (h.1.owes
      ∙ sum_same n (through_queue feeds.each (is_direct m)) (through_queue feeds.each (is_direct m'))
      (λ f low. ap (λ t. cond t 0 feeds.each) (sym (same f low))))
      ∙ ap (λ t. sum_below n (through_queue feeds.each (is_direct m')) + cond t 0 feeds.each) (sym here))

  goes_on : (owed' : ℕ) (w' : FeedPass) (es : List Ended) → owed' ≡ owed + cond b 0 feeds.each → IsPassOf q w' → known w' ≡ Worker (desk feeds [] (n + 1) es)
      → ((f : ℕ) → f < n → is_direct m f ≡ true → IsAmong (ended f 0) es) → (b ≡ true → IsAmong (ended n 0) es)
      → CanStart q feeds (n + 1) owed' w' m'
  goes_on owed' w' es more of_queue knows before last = record {
    of_queue = of_queue;
    low = (let l = h.0 in omega arith);
    few = h.1.few;
    ends = es;
    knows = knows;
    direct = λ f low direct. ⊎_elim
        (λ (t : (f == n ≡ true) × (f ≡ n)). subst (λ k. IsAmong (ended k 0) es) (sym t.1)
        (last (sym here ∙ ap (is_direct m') (sym t.1) ∙ direct)))
        (λ (t : (f == n ≡ false) × (f ≢ n)).
        let below : f < n = (let differ = t.1 in omega arith) in before f below (sym (same f below) ∙ direct))
        (eqb_tells f n);
    owes = more ∙ owes_more;
    none = ap (λ v. vec_items v) samples ∙ h.1.none;
    room = subst (λ v. feeds.feeders * feeds.each ≤ vec_capacity v) (sym samples) h.1.room;
  }

-- after a feeder got its thread, the next feeder can start
pub in_thread : (q : FeedQueue) (feeds : Numbers) (n owed owed' : ℕ) (w : FeedPass) (m m' : Mixed)
    → CanTakeBack q feeds n owed w m → m'.samples ≡ m.samples → is_direct m' n ≡ false
    → ((f : ℕ) → f < n → is_direct m' f ≡ is_direct m f) → owed' ≡ owed + feeds.each
    → CanStart q feeds (n + 1) owed' w m'
in_thread q feeds n owed owed' w m m' h samples here same more =
    goes_on q feeds n owed w m m' false h samples here same owed' w h.1.ends more h.1.of_queue h.1.knows h.1.direct
    (λ e. absurd (true≢false (sym e)))

-- after the worker called a feeder's closure, the next feeder can start
pub taken_back : (q : FeedQueue) (feeds : Numbers) (n owed owed' pushed : ℕ) (w w' x : FeedPass) (m m' : Mixed) (b : Bool)
    → CanTakeBack q feeds n owed w m → m'.samples ≡ m.samples → is_direct m' n ≡ b
    → ((f : ℕ) → f < n → is_direct m' f ≡ is_direct m f)
    → IsPassOf q w' → known w' ≡ taken_in (known w) (known x) → known x ≡ Feeder (post feeds n pushed)
    → (b ≡ true → pushed ≡ 0) → owed' ≡ owed + cond b 0 feeds.each → CanStart q feeds (n + 1) owed' w' m'
taken_back q feeds n owed owed' pushed w w' x m m' b h samples here same of_queue is its none more =
    goes_on q feeds n owed w m m' b h samples here same owed' w' (h.1.ends ++ ended n pushed ∷ []) more of_queue
    (is ∙ (λ i. taken_in (h.1.knows i) (its i)))
    (λ f low direct. among_more (ended f 0) h.1.ends (ended n pushed ∷ []) (h.1.direct f low direct))
    (λ e. subst (λ k. IsAmong (ended n 0) (h.1.ends ++ ended n k ∷ [])) (sym (none e)) (among_last (ended n 0) h.1.ends))

-- at most 160,000 samples come through the queue, so 32 bits suffice to count them
pub owed_small : (q : FeedQueue) (feeds : Numbers) (n next owed : ℕ) (w : FeedPass) (m : Mixed)
    → HasBegun q feeds n next owed w m → owed ≤ 160000
owed_small q feeds n next owed w m h =
    let d : ℕ → Bool = is_direct m in
    let a = sum_small n feeds.each (through_queue feeds.each d) (λ f. at_most_each (d f)) in
    let b = products_small n feeds.each (let l = h.low in let k = h.few.0 in omega arith) h.few.2 in
    (let e = h.owes in omega arith)
  where
    at_most_each : (b : Bool) → cond b 0 feeds.each ≤ feeds.each
    at_most_each true = omega arith
    at_most_each false = omega arith

-- the list of mixed samples has room for all samples that come through the queue
pub owed_room : (q : FeedQueue) (feeds : Numbers) (n owed : ℕ) (w : FeedPass) (m : Mixed)
    → n ≡ feeds.feeders → HasBegun q feeds n n owed w m → owed ≤ vec_capacity m.samples
owed_room q feeds n owed w m all h =
    let d : ℕ → Bool = is_direct m in
    let a = sum_small n feeds.each (through_queue feeds.each d) (λ f. at_most_each (d f)) in
    let b : n * feeds.each ≡ feeds.feeders * feeds.each = ap (λ k. k * feeds.each) all in
    (let e = h.owes in let r = h.room in omega arith)
  where
    at_most_each : (b : Bool) → cond b 0 feeds.each ≤ feeds.each
    at_most_each true = omega arith
    at_most_each false = omega arith

-- ---- After the last sample from the queue

pub drained : (q : FeedQueue) (feeds : Numbers) (n owed : ℕ) (w w' w'' : FeedPass) (m m' : Mixed) (items : List Sample)
    → n ≡ feeds.feeders → CanStart q feeds n owed w m → known w' ≡ with_taken (known w) (mixed_in m')
    → length (mixed_in m') ≡ owed → m'.direct ≡ m.direct → vec_capacity m'.samples ≡ vec_capacity m.samples
    → IsPassOf q w'' → known w'' ≡ known w' → Learns (known w') items → HasDrained q feeds w'' m'
drained q feeds n owed w w' w'' m m' items all h knows count direct room of_queue same learns =
    let d : ℕ → Bool = is_direct m' in
    let there : known w' ≡ Worker (desk feeds (mixed_in m') n h.ends) =
    knows ∙ ap (λ v. with_taken v (mixed_in m')) h.knows in
    let l : Learned (desk feeds (mixed_in m') n h.ends) items = subst (λ v. Learns v items) there learns in
    let ends : (f : ℕ) → f < feeds.feeders → d f ≡ true → l.pushed f ≡ 0 =
    λ f near is. among_all (λ (e : Ended). l.pushed e.feeder ≡ e.pushed) (ended f 0) h.ends l.ends
    (h.direct f (omega arith) (ap (λ (xs : List Bool). slice_index_or xs f false) (sym direct) ∙ is)) in
    let sum : length (mixed_in m') ≡ sum_below feeds.feeders (through_queue feeds.each d) =
    count ∙ h.owes ∙ ap (λ k. sum_below k (through_queue feeds.each (is_direct m))) all
    ∙ ap (λ (xs : List Bool). sum_below feeds.feeders (through_queue feeds.each (λ f. slice_index_or xs f false)))
    (sym direct) in
    let each = drained_each feeds d (mixed_in m') items l.pushed l.ordered l.bounded
    (λ f high. l.free f (omega arith)) ends sum in
    record {
      of_queue = of_queue;
      ends = h.ends;
      knows = same ∙ there ∙ ap (λ k. Worker (desk feeds (mixed_in m') k h.ends)) all;
      front = record {
        few = (h.few.0, h.few.2);
        directly = [];
        parts = sym (append-nil (mixed_in m'));
        came = came_through d (mixed_in m') (λ f is. none_direct feeds d (mixed_in m') each f is);
        following = tt;
        each = each;
        count = (let s = sum in omega arith);
        room = (let r = h.room in omega arith);
      };
    }
  where
    none_direct : (feeds : Numbers) (d : ℕ → Bool) (xs : List Sample)
        → ((f : ℕ) → of_feeder f xs ≡ done_so_far feeds d 0 f) → (f : ℕ) → d f ≡ true → of_feeder f xs ≡ []
    none_direct feeds d xs each f is = each f ∙ ⊎_elim (λ near. done_late feeds d 0 f near is (omega arith))
        (λ high. done_out feeds d 0 f high) (low_or_high f feeds.feeders)

-- ---- the samples that the worker mixes itself

all_after : (d : ℕ → Bool) (xs ys : List Sample) → AllByRecursion (λ (x : Sample). d x.feeder ≡ true) xs
    → AllByRecursion (λ (x : Sample). d x.feeder ≡ true) ys → AllByRecursion (λ (x : Sample). d x.feeder ≡ true) (xs ++ ys)
all_after d [] ys a b = b
all_after d (x ∷ xs) ys a b = (a.0, all_after d xs ys a.1 b)

firsts_direct : (d : ℕ → Bool) (feeds : Numbers) (n k : ℕ) → d n ≡ true
    → AllByRecursion (λ (x : Sample). d x.feeder ≡ true) (first_samples feeds n k)
firsts_direct d feeds n zero is = tt
firsts_direct d feeds n (suc k) is =
    all_after d (first_samples feeds n k) (sample feeds n k ∷ []) (firsts_direct d feeds n k is) (is, tt)

-- when the worker is done with feeder `n`, too, `done_so_far` is unchanged for each other feeder
done_else : (feeds : Numbers) (d : ℕ → Bool) (n f : ℕ) → f ≢ n → done_so_far feeds d (n + 1) f ≡ done_so_far feeds d n f
done_else feeds d n f differ = ap (λ b. cond (nat_lt f feeds.feeders) (cond (d f && not b) [] (first_samples feeds f feeds.each)) [])
    (⊎_elim (λ low. lt-ltb f (n + 1) (omega arith) ∙ sym (lt-ltb f n low))
    (λ high. le-ltb f (n + 1) (omega arith) ∙ sym (le-ltb f n high)) (low_or_high f n))

sums_are : (k each : ℕ) (d : ℕ → Bool)
    → sum_below k (through_queue each d) + sum_below k (by_worker each d) ≡ k * each
sums_are k each d =
    sym (sum_plus k (through_queue each d) (by_worker each d))
    ∙ sum_same k (λ f. through_queue each d f + by_worker each d f) (λ f. each) (λ f low. both (d f))
    ∙ times k
  where
    both : (b : Bool) → cond b 0 each + cond b each 0 ≡ each
    both true = omega arith
    both false = omega arith

    times : (k : ℕ) → sum_below k (λ f. each) ≡ k * each
    times zero = omega arith
    times (suc k) = ap (λ s. s + each) (times k) ∙ sym (suc-mul k each)

sum_step : (n k : ℕ) (g : ℕ → ℕ) → n < k → sum_below n g + g n ≤ sum_below k g
sum_step n zero g low = absurd (omega arith)
sum_step n (suc k) g low = ⊎_elim
    (λ (t : (n == k ≡ true) × (n ≡ k)). subst (λ j. sum_below j g + g j ≤ sum_below k g + g k) (sym t.1) (omega arith))
    (λ (t : (n == k ≡ false) × (n ≢ k)).
    let a = sum_step n k g (let differ = t.1 in omega arith) in omega arith)
    (eqb_tells n k)

-- the facts of `Front` for any function `d` that gives the direct feeders
record Parts (feeds : Numbers) (n : ℕ) (through directly : List Sample) (m : Mixed) (d : ℕ → Bool) : Type 0 where
  came : AllByRecursion (λ (x : Sample). d x.feeder ≡ false) through
  following : AllByRecursion (λ (x : Sample). d x.feeder ≡ true) directly
  each : (f : ℕ) → of_feeder f (mixed_in m) ≡ done_so_far feeds d n f
  count : length (mixed_in m) ≡ sum_below feeds.feeders (through_queue feeds.each d)
      + sum_below n (by_worker feeds.each d)

module _ (feeds : Numbers) (n : ℕ) (through : List Sample) (m : Mixed) (near : n < feeds.feeders)
    (h : Front feeds n through m) where
  -- if feeder `n` is direct, the list of mixed samples has room for that feeder's samples
  pub has_room : is_direct m n ≡ true → length (mixed_in m) + feeds.each ≤ feeds.feeders * feeds.each
  has_room direct =
      let d : ℕ → Bool = is_direct m in
      let a = h.count in
      let b = sum_step n feeds.feeders (by_worker feeds.each d) near in
      let c : by_worker feeds.each d n ≡ feeds.each = ap (λ t. cond t feeds.each 0) direct in
      let s = sums_are feeds.feeders feeds.each d in
      omega arith

  fits_in : is_direct m n ≡ true → HasRoom feeds m
  fits_in direct =
      let a = has_room direct in
      let b = products_small feeds.feeders feeds.each h.few.0 h.few.1 in
      let c = h.room in
      (omega arith, omega arith)

  passes_over : is_direct m n ≡ false → Front feeds (n + 1) through m
  passes_over direct =
      let d : ℕ → Bool = is_direct m in
      record {
        few = h.few;
        directly = h.directly;
        parts = h.parts;
        came = h.came;
        following = h.following;
        each = λ f. ⊎_elim
            (λ (t : (f == n ≡ true) × (f ≡ n)).
            let is : d f ≡ false = ap d t.1 ∙ direct in let low : f < feeds.feeders = (let e = t.1 in omega arith) in
            h.each f ∙ done_through feeds d n f low is ∙ sym (done_through feeds d (n + 1) f low is))
            (λ (t : (f == n ≡ false) × (f ≢ n)). h.each f ∙ sym (done_else feeds d n f t.1))
            (eqb_tells f n);
        count = rw add-one (h.count ∙ (let c : by_worker feeds.each d n ≡ 0 = ap (λ t. cond t feeds.each 0) direct in
            omega arith));
        room = h.room;
      }

  pub mixes_one : (m' : Mixed) → is_direct m n ≡ true → m'.direct ≡ m.direct
      → mixed_in m' ≡ mixed_in m ++ first_samples feeds n feeds.each → vec_capacity m'.samples ≡ vec_capacity m.samples
      → Front feeds (n + 1) through m'
  mixes_one m' direct same is room =
      let d : ℕ → Bool = is_direct m in
      let xs : List Sample = first_samples feeds n feeds.each in
      let P : List Bool → Type 0 = λ ds. Parts feeds (n + 1) through (h.directly ++ xs) m' (λ f. slice_index_or ds f false) in
      let p : P m.direct = record {
        came = h.came;
        following = all_after d h.directly xs h.following (firsts_direct d feeds n feeds.each direct);
        each = λ f. ap (of_feeder f) is ∙ filter-append (λ (x : Sample). x.feeder == f) (mixed_in m) xs
            ∙ ⊎_elim
            (λ (t : (f == n ≡ true) × (f ≡ n)).
            subst (λ k. of_feeder k (mixed_in m) ++ of_feeder k xs ≡ done_so_far feeds d (n + 1) k) (sym t.1)
            (ap (λ l. l ++ of_feeder n xs) (h.each n ∙ done_late feeds d n n near direct (omega arith))
            ∙ first_own feeds n feeds.each ∙ sym (done_early feeds d (n + 1) n near direct (omega arith))))
            (λ (t : (f == n ≡ false) × (f ≢ n)).
            ap (λ l. of_feeder f (mixed_in m) ++ l) (first_else feeds n f feeds.each (λ e. t.1 (sym e)))
            ∙ append-nil (of_feeder f (mixed_in m)) ∙ h.each f ∙ sym (done_else feeds d n f t.1))
            (eqb_tells f n);
        count = ap length is ∙ length-append (mixed_in m) xs
            ∙ rw add-one (let c : by_worker feeds.each d n ≡ feeds.each = ap (λ t. cond t feeds.each 0) direct in
            let a = h.count in let l = first_length feeds n feeds.each in omega arith);
      } in
      let q : P m'.direct = subst P (sym same) p in
      record {
        few = h.few;
        directly = h.directly ++ xs;
        parts = is ∙ ap (λ l. l ++ xs) h.parts ∙ append_assoc through h.directly xs;
        came = q.came;
        following = q.following;
        each = q.each;
        count = q.count;
        room = (let r = h.room in omega arith);
      }

module _ (feeds : Numbers) (n : ℕ) (through : List Sample) (m : Mixed) (h : Front feeds n through m)
    (near : n < feeds.feeders) where
  pub fits_now : is_direct m n ≡ true → HasRoom feeds m
  fits_now = fits_in feeds n through m near h

  pub passed_over : is_direct m n ≡ false → Front feeds (n + 1) through m
  passed_over = passes_over feeds n through m near h

-- ---- After the last sample was mixed

pub all_mixed : (q : FeedQueue) (feeds : Numbers) (w : FeedPass) (m m' : Mixed) → HasDrained q feeds w m
    → Front feeds feeds.feeders (mixed_in m) m' → AllMixed feeds w m'
all_mixed q feeds w m m' h f =
    let took_is : took w ≡ mixed_in m = ap taken_of h.knows in
    let d : ℕ → Bool = is_direct m' in
    record {
      each = λ n near. f.each n ∙ by n near (d n) refl;
      count = f.count ∙ sums_are feeds.feeders feeds.each d;
      directly = f.directly;
      parts = f.parts ∙ ap (λ l. l ++ f.directly) (sym took_is);
      through = subst (AllByRecursion (λ (x : Sample). d x.feeder ≡ false)) (sym took_is) f.came;
      following = f.following;
    }
  where
    by : (n : ℕ) → n < feeds.feeders → (b : Bool) → is_direct m' n ≡ b
        → done_so_far feeds (is_direct m') feeds.feeders n ≡ first_samples feeds n feeds.each
    by n near true e = done_early feeds (is_direct m') feeds.feeders n near e near
    by n near false e = done_through feeds (is_direct m') feeds.feeders n near e
