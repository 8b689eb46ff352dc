-- Each kind of step on the queue (push, pop, split, join) keeps the queue's rule.
use Rattle.std.proofs.Common.{◌≡◌, ◌≢◌, ◌⊎◌, inl, inr, ⊎_elim, ℕ, zero, suc, ◌+◌, ◌<◌, ◌≤◌, ◌==◌, cond, List, [], ◌∷◌, ◌++◌, length, set, sym, refl, ap, ◌∙◌, subst, append_assoc, eq-eqb, ne_eqb, lt_of_not-le, arith}
use Rattle.std.specs.Prelude.{Option, Some, None}
use Rattle.std.specs.List.{AllByRecursion}
use Rattle.std.proofs.lemmas.List.{append-nil}
use Rattle.std.proofs.lemmas.List.Elements.{filter-append}
use Rattle.std.proofs.lemmas.Option.{none-some, same_Some}
use mathlib.Core.Option.{some, some-injective, some-ne-none}
use lib.ListN.{get_elem?}
use Rattle.crossbeam_queue.specs.Fifo as fifo
use Rattle.crossbeam_queue.proofs.Lists.{at_set}
use Rattle.irq_feed.specs.declared.samples.Sample.{Sample}
use Rattle.irq_feed.specs.declared.known.Ended.{Ended}
use Rattle.irq_feed.specs.declared.known.Known.{Known}
use Rattle.irq_feed.specs.declared.known.Known.TheVariants.{Worker, Feeder, Nobody}
use Rattle.irq_feed.specs.Feeds.{Numbers, numbers}
use Rattle.irq_feed.specs.Samples.{sample, first_samples, of_feeder}
use Rattle.irq_feed.specs.Rule.{HasEnded, Fits, InOrder, Pushed, Popped, after_split, new_feeder, taken_in, IsWorker, IsFeeding, MayPush, no_feeds, begun, desk, post, ended, Learns}
use Rattle.irq_feed.proofs.Changes.{same_or_not, changed, changed_here, changed_else}

-- ---- The list of the views of all passes

-- if `a` is added at the end of the list `l`, each element of the new list is an element of `l` or is `a`
at_more : (l : List Known) (a u : Known) (j : ℕ) → get_elem? (l ++ a ∷ []) j ≡ some u
    → (get_elem? l j ≡ some u) ⊎ ((j ≡ length l) × (a ≡ u))
at_more [] a u zero e = inr (refl, some-injective a u e)
at_more [] a u (suc j) e = absurd (some-ne-none u (sym e))
at_more (x ∷ xs) a u zero e = inl e
at_more (x ∷ xs) a u (suc j) e =
    ⊎_elim (λ t. inl t) (λ (t : (j ≡ length xs) × (a ≡ u)). inr (ap suc t.0, t.1)) (at_more xs a u j e)

abbrev AllFit : (ℕ → Known → Type 0) → List Known → Type 0
AllFit F views = (pass : ℕ) (v : Known) → get_elem? views pass ≡ some v → F pass v

fit_set : (F : ℕ → Known → Type 0) (views : List Known) (pass : ℕ) (w : Known) → F pass w
    → ((j : ℕ) (u : Known) → j ≢ pass → get_elem? views j ≡ some u → F j u) → AllFit F (set views pass w)
fit_set F views pass w mine others j u e =
    ⊎_elim (λ (x : (j ≡ pass) × (w ≡ u)). subst (λ (y : ℕ × Known). F y.0 y.1) (λ i. (sym x.0 i, x.1 i)) mine)
    (λ (x : (j ≢ pass) × (get_elem? views j ≡ some u)). others j u x.0 x.1) (at_set views pass j w u e)

-- ---- The pass of each feeder (`seat`)

no_seat : (o : Option ℕ) (a : ℕ) → o ≡ None → o ≡ Some a → ⊥
no_seat o a none is = none-some a (sym none ∙ is)

-- if two feeders have different passes, they have different numbers
apart : (seat : ℕ → Option ℕ) (f g a b : ℕ) → seat f ≡ Some a → seat g ≡ Some b → b ≢ a → g ≢ f
apart seat f g a b at bt other e = other (same_Some b a (sym bt ∙ ap seat e ∙ at))

-- ---- The samples of one feeder in a list

of_one : (x : Sample) (f : ℕ) → x.feeder ≡ f → of_feeder f (x ∷ []) ≡ x ∷ []
of_one x f e = ap (λ b. cond b (x ∷ []) []) (eq-eqb x.feeder f e)

of_none : (x : Sample) (f : ℕ) → x.feeder ≢ f → of_feeder f (x ∷ []) ≡ []
of_none x f other = ap (λ b. cond b (x ∷ []) []) (ne_eqb x.feeder f other)

-- if a feeder's next sample is added to the end of the list, the samples of each feeder in the list are still that
-- feeder's first samples
ordered_more : (feeds : Numbers) (pushed : ℕ → ℕ) (xs : List Sample) (x : Sample) (number : ℕ)
    → ((f : ℕ) → of_feeder f xs ≡ first_samples feeds f (pushed f)) → x ≡ sample feeds number (pushed number)
    → (f : ℕ) → of_feeder f (xs ++ x ∷ []) ≡ first_samples feeds f (changed pushed number (suc (pushed number)) f)
ordered_more feeds pushed xs x number before is f =
    filter-append (λ (y : Sample). y.feeder == f) xs (x ∷ [])
    ∙ ⊎_elim
    (λ (same : f ≡ number).
    ap (λ ys. ys ++ of_feeder f (x ∷ [])) (before f)
    ∙ ap (λ ys. first_samples feeds f (pushed f) ++ ys) (of_one x f (ap (λ (y : Sample). y.feeder) is ∙ sym same))
    ∙ ap (λ y. first_samples feeds f (pushed f) ++ y ∷ []) (is ∙ ap (λ n. sample feeds n (pushed n)) (sym same))
    ∙ ap (λ n. first_samples feeds f n) (sym (ap (changed pushed number (suc (pushed number))) same
    ∙ changed_here pushed number (suc (pushed number)) ∙ ap (λ n. suc (pushed n)) (sym same))))
    (λ (other : f ≢ number).
    ap (λ ys. ys ++ of_feeder f (x ∷ [])) (before f)
    ∙ ap (λ ys. first_samples feeds f (pushed f) ++ ys)
    (of_none x f (λ e. other (sym e ∙ ap (λ (y : Sample). y.feeder) is)))
    ∙ append-nil (first_samples feeds f (pushed f))
    ∙ ap (λ n. first_samples feeds f n) (sym (changed_else pushed number f (suc (pushed number)) other)))
    (same_or_not f number)

-- ---- The feeders whose passes the worker took in (`Ended`)

-- if each feeder without a pass still has none, and its number of pushed samples is unchanged, `HasEnded` still holds
-- for each feeder that ended
ends_kept : (next next' : ℕ) (seat seat' : ℕ → Option ℕ) (pushed pushed' : ℕ → ℕ) (es : List Ended) → next ≤ next'
    → ((f : ℕ) → f < next → seat f ≡ None → (seat' f ≡ None) × (pushed' f ≡ pushed f))
    → AllByRecursion (HasEnded next seat pushed) es → AllByRecursion (HasEnded next' seat' pushed') es
ends_kept next next' seat seat' pushed pushed' [] more same h = tt
ends_kept next next' seat seat' pushed pushed' (e ∷ es) more same h =
    let now = same e.feeder h.0.0 h.0.1 in
    ((omega (arith, h.0.0, more), now.0, now.1 ∙ h.0.2), ends_kept next next' seat seat' pushed pushed' es more same h.1)

ends_more : (P : Ended → Type 0) (es : List Ended) (e : Ended) → AllByRecursion P es → P e
    → AllByRecursion P (es ++ e ∷ [])
ends_more P [] e h last = (last, tt)
ends_more P (x ∷ xs) e h last = (h.0, ends_more P xs e h.1 last)

pub begins : InOrder [] (no_feeds ∷ [])
begins = record {
  feeds = numbers 0 0 0;
  worker = 0;
  seat = λ f. None;
  pushed = λ f. 0;
  taken = [];
  ordered = λ f. refl;
  bounded = λ f. omega arith;
  fits = λ pass v at. only pass v at;
}
  where
    only : (pass : ℕ) (v : Known) → get_elem? (no_feeds ∷ []) pass ≡ some v
        → Fits (numbers 0 0 0) 0 (λ f. None) (λ f. 0) [] pass v
    only zero v at = subst (λ u. Fits (numbers 0 0 0) 0 (λ f. None) (λ f. 0) [] zero u) (some-injective no_feeds v at)
        (refl, record { feeds_are = refl; took = refl; free = λ f h. (refl, refl); ends = tt })
    only (suc pass) v at = absurd (some-ne-none v (sym at))

-- ---- A feeder pushes a sample

-- when the feeder with pass `j` pushes, the knowledge of each other pass stays correct
push_kept : (feeds : Numbers) (worker : ℕ) (seat : ℕ → Option ℕ) (pushed : ℕ → ℕ) (taken : List Sample)
    (number j k : ℕ) → seat number ≡ Some j → k ≢ j → (u : Known) → Fits feeds worker seat pushed taken k u
    → Fits feeds worker seat (changed pushed number (suc (pushed number))) taken k u
push_kept feeds worker seat pushed taken number j k at other (Worker d) fit =
    let away : (f : ℕ) → seat f ≡ None → f ≢ number =
    λ f none e. no_seat (seat f) j none (ap seat e ∙ at) in (
      fit.0,
      record {
        feeds_are = fit.1.feeds_are;
        took = fit.1.took;
        free = λ f h. let was = fit.1.free f h in
            (was.0, changed_else pushed number f (suc (pushed number)) (away f was.0) ∙ was.1);
        ends = ends_kept d.next d.next seat seat pushed (changed pushed number (suc (pushed number))) d.ended (omega arith)
            (λ f low none. (none, changed_else pushed number f (suc (pushed number)) (away f none))) fit.1.ends;
      },
    )
push_kept feeds worker seat pushed taken number j k at other (Feeder p) fit = record {
  feeds_are = fit.feeds_are;
  mine = fit.mine;
  count = changed_else pushed number p.number (suc (pushed number))
      (apart seat number p.number j k at fit.mine other) ∙ fit.count;
}
push_kept feeds worker seat pushed taken number j k at other Nobody fit = tt

pub pushes : (n pass : ℕ) (v : Known) (x : Sample) → MayPush v x → fifo.Pushes InOrder n pass v x (Pushed v x)
pushes n pass (Worker d) x may items views room h at = absurd may
pushes n pass Nobody x may items views room h at = absurd may
pushes n pass (Feeder p) x may items views room h at =
    let w : Known = Feeder (post p.feeds p.number (p.pushed + 1)) in
    let mine = h.fits pass (Feeder p) at in
    let pushed : ℕ → ℕ = changed h.pushed p.number (suc (h.pushed p.number)) in
    let is : x ≡ sample h.feeds p.number (h.pushed p.number) =
    may.1 ∙ ap (λ s. sample s p.number p.pushed) mine.feeds_are ∙ ap (sample h.feeds p.number) (sym mine.count) in
    let low : suc (h.pushed p.number) ≤ h.feeds.each =
    (let a = may.0 in let b = mine.count in let c = ap (λ (s : Numbers). s.each) mine.feeds_are in omega arith) in (
      w,
      record {
        feeds = h.feeds;
        worker = h.worker;
        seat = h.seat;
        pushed = pushed;
        taken = h.taken;
        ordered = λ f. ap (of_feeder f) (sym (append_assoc h.taken items (x ∷ [])))
            ∙ ordered_more h.feeds h.pushed (h.taken ++ items) x p.number h.ordered is f;
        bounded = λ f. ⊎_elim
            (λ (same : f ≡ p.number). subst (λ m. pushed m ≤ h.feeds.each) (sym same)
            (subst (λ m. m ≤ h.feeds.each) (sym (changed_here h.pushed p.number (suc (h.pushed p.number)))) low))
            (λ (other : f ≢ p.number). subst (λ m. m ≤ h.feeds.each)
            (sym (changed_else h.pushed p.number f (suc (h.pushed p.number)) other)) (h.bounded f))
            (same_or_not f p.number);
        fits = fit_set (Fits h.feeds h.worker h.seat pushed h.taken) views pass w
            (record {
              feeds_are = mine.feeds_are;
              mine = mine.mine;
              count = changed_here h.pushed p.number (suc (h.pushed p.number)) ∙ (let c = mine.count in omega arith);
            })
            (λ j u other e. push_kept h.feeds h.worker h.seat h.pushed h.taken p.number pass j mine.mine other u
            (h.fits j u e));
      },
      refl,
    )

-- ---- The worker takes a sample out of the queue

-- when the worker's pass takes a sample, the knowledge of each other pass stays correct
pop_kept : (feeds : Numbers) (worker : ℕ) (seat : ℕ → Option ℕ) (pushed : ℕ → ℕ) (taken taken' : List Sample)
    (k : ℕ) → k ≢ worker → (u : Known) → Fits feeds worker seat pushed taken k u
    → Fits feeds worker seat pushed taken' k u
pop_kept feeds worker seat pushed taken taken' k other (Worker d) fit = absurd (other fit.0)
pop_kept feeds worker seat pushed taken taken' k other (Feeder p) fit = fit
pop_kept feeds worker seat pushed taken taken' k other Nobody fit = tt

pub pops : (pass : ℕ) (v : Known) → IsWorker v → fifo.Pops InOrder pass v (Popped v)
pops pass (Feeder p) may x items views h at = absurd may
pops pass Nobody may x items views h at = absurd may
pops pass (Worker d) may x items views h at =
    let mine = h.fits pass (Worker d) at in
    let w : Known = Worker (desk d.feeds (d.taken ++ x ∷ []) d.next d.ended) in (
      w,
      record {
        feeds = h.feeds;
        worker = h.worker;
        seat = h.seat;
        pushed = h.pushed;
        taken = h.taken ++ x ∷ [];
        ordered = λ f. ap (of_feeder f) (append_assoc h.taken (x ∷ []) items) ∙ h.ordered f;
        bounded = h.bounded;
        fits = fit_set (Fits h.feeds h.worker h.seat h.pushed (h.taken ++ x ∷ [])) views pass w (
          mine.0,
          record {
            feeds_are = mine.1.feeds_are;
            took = ap (λ l. l ++ x ∷ []) mine.1.took;
            free = mine.1.free;
            ends = mine.1.ends;
          },
        )
            (λ j u other e. pop_kept h.feeds h.worker h.seat h.pushed h.taken (h.taken ++ x ∷ []) j
            (λ s. other (s ∙ sym mine.0)) u (h.fits j u e));
      },
      refl,
    )

-- ---- The worker splits off a pass for the next feeder

-- when a feeder number that had no pass gets a pass, the knowledge of each pass but the worker's stays correct
seat_kept : (feeds : Numbers) (worker : ℕ) (seat : ℕ → Option ℕ) (pushed : ℕ → ℕ) (taken : List Sample)
    (number : ℕ) (o : Option ℕ) (k : ℕ) → seat number ≡ None → k ≢ worker → (u : Known)
    → Fits feeds worker seat pushed taken k u → Fits feeds worker (changed seat number o) pushed taken k u
seat_kept feeds worker seat pushed taken number o k free other (Worker d) fit = absurd (other fit.0)
seat_kept feeds worker seat pushed taken number o k free other (Feeder p) fit = record {
  feeds_are = fit.feeds_are;
  mine = changed_else seat number p.number o (λ e. no_seat (seat p.number) k (ap seat e ∙ free) fit.mine) ∙ fit.mine;
  count = fit.count;
}
seat_kept feeds worker seat pushed taken number o k free other Nobody fit = tt

pub splits : (pass : ℕ) (v : Known) → IsWorker v → fifo.Forks InOrder pass v (after_split v) (new_feeder v)
splits pass (Feeder p) may items views h at = absurd may
splits pass Nobody may items views h at = absurd may
splits pass (Worker d) may items views h at =
    let mine = h.fits pass (Worker d) at in
    let free = mine.1.free d.next (omega arith) in
    let l : Known = after_split (Worker d) in
    let r : Known = new_feeder (Worker d) in
    let vs : List Known = set views pass l in
    let o : Option ℕ = Some (length vs) in
    let seat : ℕ → Option ℕ = changed h.seat d.next o in
    let old : AllFit (Fits h.feeds h.worker seat h.pushed h.taken) vs =
    fit_set (Fits h.feeds h.worker seat h.pushed h.taken) views pass l (
      mine.0,
      record {
        feeds_are = mine.1.feeds_are;
        took = mine.1.took;
        free = λ f low. let was = mine.1.free f (omega arith) in
            (changed_else h.seat d.next f o (λ e. absurd (omega arith)) ∙ was.0, was.1);
        ends = ends_kept d.next (d.next + 1) h.seat seat h.pushed h.pushed d.ended (omega arith)
            (λ f low none. (changed_else h.seat d.next f o (λ e. absurd (omega arith)) ∙ none, refl)) mine.1.ends;
      },
    )
    (λ j u other e. seat_kept h.feeds h.worker h.seat h.pushed h.taken d.next o j free.0
    (λ s. other (s ∙ sym mine.0)) u (h.fits j u e)) in
    record {
      feeds = h.feeds;
      worker = h.worker;
      seat = seat;
      pushed = h.pushed;
      taken = h.taken;
      ordered = h.ordered;
      bounded = h.bounded;
      fits = λ j u e. ⊎_elim (λ x. old j u x)
          (λ (x : (j ≡ length vs) × (r ≡ u)).
          subst (λ (y : ℕ × Known). Fits h.feeds h.worker seat h.pushed h.taken y.0 y.1) (λ i. (sym x.0 i, x.1 i))
          (record {
            feeds_are = mine.1.feeds_are;
            mine = changed_here h.seat d.next o;
            count = free.1;
          })) (at_more vs r u j e);
    }

-- if no feeder has a pass yet and the worker learns its feeds, the knowledge of each other pass stays correct
begin_kept : (feeds feeds' : Numbers) (worker : ℕ) (seat : ℕ → Option ℕ) (pushed : ℕ → ℕ) (taken : List Sample) (k : ℕ)
    → ((f : ℕ) → seat f ≡ None) → k ≢ worker → (u : Known) → Fits feeds worker seat pushed taken k u
    → Fits feeds' worker seat pushed taken k u
begin_kept feeds feeds' worker seat pushed taken k free other (Worker d) fit = absurd (other fit.0)
begin_kept feeds feeds' worker seat pushed taken k free other (Feeder p) fit =
    absurd (no_seat (seat p.number) k (free p.number) fit.mine)
begin_kept feeds feeds' worker seat pushed taken k free other Nobody fit = tt

pub tells_feeds : (pass : ℕ) (v : Known) (feeds : Numbers) → v ≡ no_feeds
    → fifo.Forks InOrder pass v (begun feeds) Nobody
tells_feeds pass v feeds is items views h at =
    let mine = h.fits pass no_feeds (at ∙ ap some is) in
    let free : (f : ℕ) → h.seat f ≡ None = λ f. (mine.1.free f (omega arith)).0 in
    let l : Known = begun feeds in
    let vs : List Known = set views pass l in
    let old : AllFit (Fits feeds h.worker h.seat h.pushed h.taken) vs =
    fit_set (Fits feeds h.worker h.seat h.pushed h.taken) views pass l
    (mine.0, record { feeds_are = refl; took = mine.1.took; free = λ f low. mine.1.free f (omega arith); ends = tt })
    (λ j u other e. begin_kept h.feeds feeds h.worker h.seat h.pushed h.taken j free
    (λ s. other (s ∙ sym mine.0)) u (h.fits j u e)) in
    record {
      feeds = feeds;
      worker = h.worker;
      seat = h.seat;
      pushed = h.pushed;
      taken = h.taken;
      ordered = λ f. h.ordered f ∙ ap (first_samples h.feeds f) (mine.1.free f (omega arith)).1
          ∙ ap (first_samples feeds f) (sym (mine.1.free f (omega arith)).1);
      bounded = λ f. (let z = (mine.1.free f (omega arith)).1 in omega arith);
      fits = λ j u e. ⊎_elim (λ x. old j u x)
          (λ (x : (j ≡ length vs) × (Nobody ≡ u)). subst (Fits feeds h.worker h.seat h.pushed h.taken j) x.1 tt)
          (at_more vs Nobody u j e);
    }

-- ---- The worker takes in the pass of a feeder

-- when the pass of a feeder is taken in, the knowledge of each other feeder stays correct
free_kept : (feeds : Numbers) (worker : ℕ) (seat : ℕ → Option ℕ) (pushed : ℕ → ℕ) (taken : List Sample)
    (number j k : ℕ) → seat number ≡ Some j → k ≢ j → k ≢ worker → (u : Known)
    → Fits feeds worker seat pushed taken k u → Fits feeds worker (changed seat number None) pushed taken k u
free_kept feeds worker seat pushed taken number j k at away other (Worker d) fit = absurd (other fit.0)
free_kept feeds worker seat pushed taken number j k at away other (Feeder p) fit = record {
  feeds_are = fit.feeds_are;
  mine = changed_else seat number p.number None (apart seat number p.number j k at fit.mine away) ∙ fit.mine;
  count = fit.count;
}
free_kept feeds worker seat pushed taken number j k at away other Nobody fit = tt

-- a feeder number that has a pass is below the next number to be given out
below_next : (seat : ℕ → Option ℕ) (pushed : ℕ → ℕ) (next number j : ℕ)
    → ((f : ℕ) → next ≤ f → (seat f ≡ None) × (pushed f ≡ 0)) → seat number ≡ Some j → number < next
below_next seat pushed next number j free at =
    lt_of_not-le (λ low. no_seat (seat number) j (free number low).0 at)

still_none : (seat : ℕ → Option ℕ) (number f : ℕ) → seat f ≡ None → changed seat number None f ≡ None
still_none seat number f none = ⊎_elim
    (λ (same : f ≡ number). ap (changed seat number None) same ∙ changed_here seat number None)
    (λ (other : f ≢ number). changed_else seat number f None other ∙ none) (same_or_not f number)

pub joins : (pass : ℕ) (v : Known) (other : ℕ) (w : Known) → IsWorker v → IsFeeding w
    → fifo.Merges InOrder pass v other w (taken_in v w) Nobody
joins pass (Feeder p) other w may feeding items views h at two at' = absurd may
joins pass Nobody other w may feeding items views h at two at' = absurd may
joins pass (Worker d) other (Worker e) may feeding items views h at two at' = absurd feeding
joins pass (Worker d) other Nobody may feeding items views h at two at' = absurd feeding
joins pass (Worker d) other (Feeder p) may feeding items views h at two at' =
    let mine = h.fits pass (Worker d) at in
    let both : Known = taken_in (Worker d) (Feeder p) in
    let vs : List Known = set views pass both in
    let was : get_elem? views other ≡ some (Feeder p) =
    ⊎_elim (λ x. absurd (two x.0)) (λ x. x.1) (at_set views pass other both (Feeder p) at') in
    let theirs = h.fits other (Feeder p) was in
    let seat : ℕ → Option ℕ = changed h.seat p.number None in
    let Now : ℕ → Known → Type 0 = λ j u. j ≢ other → Fits h.feeds h.worker seat h.pushed h.taken j u in
    let now : AllFit Now vs =
    fit_set Now views pass both
    (λ _. (
      mine.0,
      record {
        feeds_are = mine.1.feeds_are;
        took = mine.1.took;
        free = λ f low. (still_none h.seat p.number f (mine.1.free f low).0, (mine.1.free f low).1);
        ends = ends_more (HasEnded d.next seat h.pushed) d.ended (ended p.number p.pushed)
            (ends_kept d.next d.next h.seat seat h.pushed h.pushed d.ended (omega arith)
            (λ f low none. (still_none h.seat p.number f none, refl)) mine.1.ends) (
              below_next h.seat h.pushed d.next p.number other mine.1.free theirs.mine,
              changed_here h.seat p.number None,
              theirs.count,
            );
      },
    ))
    (λ j u aside e away. free_kept h.feeds h.worker h.seat h.pushed h.taken p.number other j theirs.mine away
    (λ s. aside (s ∙ sym mine.0)) u (h.fits j u e)) in
    record {
      feeds = h.feeds;
      worker = h.worker;
      seat = seat;
      pushed = h.pushed;
      taken = h.taken;
      ordered = h.ordered;
      bounded = h.bounded;
      fits = fit_set (Fits h.feeds h.worker seat h.pushed h.taken) vs other Nobody tt (λ j u away e. now j u e away);
    }

-- ---- The worker's knowledge of the queue's samples

ends_learned : (next : ℕ) (seat : ℕ → Option ℕ) (pushed : ℕ → ℕ) (es : List Ended)
    → AllByRecursion (HasEnded next seat pushed) es → AllByRecursion (λ (e : Ended). pushed e.feeder ≡ e.pushed) es
ends_learned next seat pushed [] h = tt
ends_learned next seat pushed (e ∷ es) h = (h.0.2, ends_learned next seat pushed es h.1)

pub learns : (pass : ℕ) (v : Known) → IsWorker v → fifo.Learns InOrder pass v (Learns v)
learns pass (Feeder p) may items views h at = absurd may
learns pass Nobody may items views h at = absurd may
learns pass (Worker d) may items views h at =
    let mine = (h.fits pass (Worker d) at).1 in
    record {
      pushed = h.pushed;
      ordered = λ f. ap (λ l. of_feeder f (l ++ items)) mine.took ∙ h.ordered f
          ∙ ap (λ s. first_samples s f (h.pushed f)) (sym mine.feeds_are);
      bounded = λ f. subst (λ (s : Numbers). h.pushed f ≤ s.each) (sym mine.feeds_are) (h.bounded f);
      free = λ f low. (mine.free f low).1;
      ends = ends_learned d.next h.seat h.pushed d.ended mine.ends;
    }
