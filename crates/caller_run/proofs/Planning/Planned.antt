-- The rooms (the memory) of callers are made before a run, and emptied after it.
use Rattle.std.proofs.Common.{◌≡◌, ℕ, ◌+◌, ◌<◌, ◌≤◌, Some, List, [], ◌∷◌, ◌++◌, map, length, refl, sym, ap, ◌∙◌, subst, arith, append_assoc, append-nil, length-append, take, drop}
use mathlib.Core.Logic.{dite}
use native.Mathlib.Decide.{dec_lt}
use Rattle.std.specs.Prelude.{slice_get, slice_set, count_by, ◌&&◌, nat_lt, if◌then◌else◌}
use Rattle.std.specs.List.{AllByRecursion}
use Rattle.std.proofs.lemmas.Bool.Decides.{nat_tests}
use Rattle.std.proofs.lemmas.List.{length-set, map-set, length-map, drop_all, take_all}
use Rattle.std.proofs.lemmas.List.Sums.{sum_by-cons}
use Rattle.key_names.specs.declared.events.Event.{Event}
use Rattle.key_names.specs.declared.events.Event.TheVariants.{Fork}
use Rattle.key_names.specs.Lanes.Book.{list_at}
use Rattle.key_names.specs.Texts.ScriptGrammar.{Script, WellFormed, is_fork_of, IsForkAbove}
use Rattle.key_names.specs.Transcripts.SeenLine.{SeenLine}
use Rattle.key_names.proofs.Lists.ListFacts.{list_is}
use Rattle.transcript_text.specs.Gathered.{Gathered}
use Rattle.caller_run.specs.declared.forking.rooms.Room.{Room}
use Rattle.caller_run.specs.declared.forking.rooms.Buffers.{Buffers}
use Rattle.caller_run.specs.Forest.{forks}
use Rattle.caller_run.specs.ForkTree.{ForkTree, Layout, plant, fork_tree_of, emitted_by, emitted_in}
use Rattle.caller_run.specs.Plans.{IsNewRoom, lines_in, put_in, HaveSlots}
use Rattle.caller_run.specs.Layouts.{layout, layout_by}
use Rattle.caller_run.specs.RunningCallers.{IsNewBuffers, ArePrepared}
use Rattle.caller_run.proofs.Planning.ForkTrees.{fork_tree_pushed}
use Rattle.caller_run.proofs.Planning.OnceEach.{edge_most}
use Rattle.caller_run.proofs.Planning.Sums.{hit, hit_same}
use Rattle.caller_run.proofs.Planning.Slots.{put_long, put_append}
use Rattle.caller_run.proofs.Forks.WentOn.{above_number, few_events}

-- g has the rooms of the callers that caller c forks in its last events, `done`. The rooms of the callers that it forks
-- in its earlier events, `rest`, are still to be made
pub record PreparedSoFar (callers : List (List Event)) (c : ℕ) (rest : List Event) (g : ForkTree) : Type 0 where
  pub done : List Event
  pub all : list_at callers c ≡ rest ++ done
  pub ready : ArePrepared callers g (forks done)

-- `all` are the lines to put into the slots, with their callers' numbers. The lines of the rooms in g are still in
-- these rooms, and the other lines are in their callers' slots
pub record GatheredSoFar (before now : List Gathered) (all : List (ℕ × List SeenLine)) (g : ForkTree) : Type 0 where
  pub many : length now ≡ length before
  pub left : put_in (lines_in now) (emitted_in g) ≡ put_in (lines_in before) all
  pub have : HaveSlots (length now) (emitted_in g)
  pub fewer : length (emitted_in g) < length all

-- ---- the rooms of callers before a run ----

pub prepared_none_yet : (callers : List (List Event)) (c : ℕ) (es : List Event) (kids : List Room) →
    slice_get callers c ≡ Some es → kids ≡ [] → PreparedSoFar callers c es (fork_tree_of (map layout kids))
prepared_none_yet callers c es kids there none = record {
  done = [];
  all = list_is callers c es there ∙ sym (append-nil es);
  ready = subst (λ (l : List Room). ArePrepared callers (fork_tree_of (map layout l)) []) (sym none) tt;
}

forks_plain : (e : Event) (es : List Event) → ((x : ℕ) → e ≡ Fork x → ⊥) → forks (e ∷ es) ≡ forks es
forks_plain (Fork child) es other = absurd (other child refl)
forks_plain e es other = refl

module _ (callers : List (List Event)) (c : ℕ) {rest : List Event} {g : ForkTree} (p : PreparedSoFar callers c rest g)
    (front : List Event) where
  all_of : (e : Event) → rest ≡ front ++ e ∷ [] → list_at callers c ≡ front ++ e ∷ p.done
  all_of e is = p.all ∙ ap (λ (l : List Event). l ++ p.done) is ∙ append_assoc front (e ∷ []) p.done

  pub prepared_plain : (e : Event) → rest ≡ front ++ e ∷ [] → ((x : ℕ) → e ≡ Fork x → ⊥) →
      PreparedSoFar callers c front g
  prepared_plain e is other = record {
    done = e ∷ p.done;
    all = all_of e is;
    ready = subst (ArePrepared callers g) (sym (forks_plain e p.done other)) p.ready;
  }

  pub prepared_fork : (child : ℕ) (a : Layout) → rest ≡ front ++ Fork child ∷ [] → IsNewRoom callers child a →
      PreparedSoFar callers c front (plant a g)
  prepared_fork child a is ready = record {
    done = Fork child ∷ p.done;
    all = all_of (Fork child) is;
    ready = (ready.is, ready.there, ready.new, ready.ready, p.ready);
  }

pub prepared_push : (callers : List (List Event)) (c : ℕ) {rest front : List Event} (kids more : List Room) (kid : Room)
    (child : ℕ) → PreparedSoFar callers c rest (fork_tree_of (map layout kids)) → rest ≡ front ++ Fork child ∷ [] →
    IsNewRoom callers child (layout kid) → more ≡ kids ++ kid ∷ [] → PreparedSoFar callers c front (fork_tree_of (map layout more))
prepared_push callers c {front = front} kids more kid child p is ready pushed =
    subst (PreparedSoFar callers c front) (sym (fork_tree_pushed more kids kid pushed))
    (prepared_fork callers c p front child (layout kid) is ready)

each_mid : (P : Event → Type 0) (front : List Event) (e : Event) (back : List Event) →
    AllByRecursion P (front ++ e ∷ back) → P e
each_mid P [] e back all = all.0
each_mid P (x ∷ front) e back all = each_mid P front e back all.1

one_there : (k : ℕ) (front back : List Event) → 1 ≤ count_by (is_fork_of k) (front ++ Fork k ∷ back)
one_there k [] back =
    let c = sum_by-cons (λ e. hit (is_fork_of k e)) (Fork k) back in let h = hit_same k k refl in omega arith
one_there k (e ∷ front) back =
    let c = sum_by-cons (λ e. hit (is_fork_of k e)) e (front ++ Fork k ∷ back) in
    let rest = one_there k front back in omega arith

none_past : (n k : ℕ) → n ≤ k → let b : ℕ = (if nat_lt 0 k && nat_lt k n then 1 else 0) in b ≡ 0
none_past n k from = grind (arith, nat_tests)

-- a child has a higher number, and is a caller of the script
pub child_there : (script : Script) → WellFormed script → (c child : ℕ) (front : List Event) {es rest : List Event} {g : ForkTree} →
    slice_get script.callers c ≡ Some es → PreparedSoFar script.callers c rest g → rest ≡ front ++ Fork child ∷ [] →
    (c < child) × (child < length script.callers)
child_there script ok c child front {es = es} there p is =
    let listed = list_is script.callers c es there in
    let all = all_of script.callers c p front (Fork child) is in
    let above = each_mid (IsForkAbove (c + 0)) front (Fork child) p.done
    (subst (AllByRecursion (IsForkAbove (c + 0))) (sym listed ∙ all) (above_number 0 script.callers c es there ok.above)) in
    let one : 1 ≤ count_by (is_fork_of child) (list_at script.callers c) =
    subst (λ (l : List Event). 1 ≤ count_by (is_fork_of child) l) (sym all) (one_there child front p.done) in
    let most = edge_most child c script.callers in
    let counted = ok.forked child in (
      omega arith,
      dite (dec_lt child (length script.callers)) (λ low. low)
          (λ high. let none = none_past (length script.callers) child (omega arith) in absurd (omega arith)),
    )

pub no_elements : (l : List Event) → length l ≡ 0 → l ≡ []
no_elements [] none = refl
no_elements (e ∷ l) none = absurd (omega arith)

pub few_here : (script : Script) → WellFormed script → (c : ℕ) (es : List Event) →
    slice_get script.callers c ≡ Some es → length es ≤ 65536
few_here script ok c es there = let few = few_events script.callers c es there in let all = ok.events in omega arith

pub prepared : (callers : List (List Event)) (c : ℕ) (es : List Event) (buffers : Buffers) (kids : List Room) (a : Layout) →
    slice_get callers c ≡ Some es → c < length callers → IsNewBuffers buffers es →
    PreparedSoFar callers c [] (fork_tree_of (map layout kids)) → a ≡ layout_by c buffers (map layout kids) → IsNewRoom callers c a
prepared callers c es buffers kids a there low new p is =
    subst (IsNewRoom callers c) (sym is) (record {
      is = refl;
      there = low;
      new = subst (IsNewBuffers buffers) (sym (list_is callers c es there)) new;
      ready = subst (λ (l : List Event). ArePrepared callers (fork_tree_of (map layout kids)) (forks l)) (sym p.all) p.ready;
    })

-- ---- the lines of callers, put into their slots after a run ----

have_first : (n : ℕ) (xs ys : List (ℕ × List SeenLine)) → HaveSlots n (xs ++ ys) → HaveSlots n xs
have_first n [] ys have = tt
have_first n (x ∷ xs) ys have = (have.0, have_first n xs ys have.1)

have_second : (n : ℕ) (xs ys : List (ℕ × List SeenLine)) → HaveSlots n (xs ++ ys) → HaveSlots n ys
have_second n [] ys have = have
have_second n (x ∷ xs) ys have = have_second n xs ys have.1

pub gathered_first : (before after : List Gathered) (c : ℕ) (buffers : Buffers) (kids : List Room) (a : Layout) →
    a ≡ layout_by c buffers (map layout kids) → after ≡ slice_set before c buffers.log.lines →
    HaveSlots (length before) (emitted_by a) → GatheredSoFar before after (emitted_by a) (fork_tree_of (map layout kids))
gathered_first before after c buffers kids a is put have =
    let recorded : emitted_by a ≡ (c, buffers.log.lines.lines) ∷ emitted_in (fork_tree_of (map layout kids)) = ap emitted_by is in
    let many : length after ≡ length before = ap length put ∙ length-set before c buffers.log.lines in
    record {
      many = many;
      left = (λ i. put_in ((ap lines_in put ∙ map-set (λ (x : Gathered). x.lines) before c buffers.log.lines) i)
          (emitted_in (fork_tree_of (map layout kids))))
          ∙ ap (put_in (lines_in before)) (sym recorded);
      have = subst (λ (n : ℕ). HaveSlots n (emitted_in (fork_tree_of (map layout kids)))) (sym many)
          (subst (HaveSlots (length before)) recorded have).1;
      fewer = (let l = ap length recorded in omega arith);
    }

pub as_many : (before after : List Gathered) (recorded : List (ℕ × List SeenLine)) →
    lines_in after ≡ put_in (lines_in before) recorded → length after ≡ length before
as_many before after recorded is =
    sym (length-map after (λ (x : Gathered). x.lines)) ∙ ap length is ∙ put_long (lines_in before) recorded
    ∙ length-map before (λ (x : Gathered). x.lines)

-- if the slots of a vector were filled through a slice, the vector has the filled slots
pub slots_back : (n : ℕ) (items before after : List Gathered) (recorded : List (ℕ × List SeenLine)) → before ≡ items →
    n ≡ length items → lines_in after ≡ put_in (lines_in before) recorded →
    lines_in (take n (after ++ drop (length after) items)) ≡ put_in (lines_in items) recorded
slots_back n items before after recorded is long put =
    let many = as_many before after recorded put in let same = ap length is in
    ap (λ (l : List Gathered). lines_in (take n (after ++ l))) (drop_all (length after) items (omega arith))
    ∙ ap (λ (l : List Gathered). lines_in (take n l)) (append-nil after)
    ∙ ap lines_in (take_all n after (omega arith)) ∙ put
    ∙ ap (λ (l : List Gathered). put_in (lines_in l) recorded) is

module _ {before now : List Gathered} {all : List (ℕ × List SeenLine)} {g : ForkTree} (s : GatheredSoFar before now all g)
    (a : Layout) (h : ForkTree) (took : g ≡ plant a h) where
  recorded : emitted_in g ≡ emitted_by a ++ emitted_in h
  recorded = ap emitted_in took

  pub kid_has : HaveSlots (length now) (emitted_by a)
  kid_has = have_first (length now) (emitted_by a) (emitted_in h) (subst (HaveSlots (length now)) recorded s.have)

  pub kid_less : length (emitted_by a) < length all
  kid_less =
      let l = ap length recorded in let b = length-append (emitted_by a) (emitted_in h) in let f = s.fewer in omega arith

  pub kids_less : length (emitted_in h) < length (emitted_in g)
  kids_less = let l = ap length recorded in let b = length-append (emitted_by a) (emitted_in h) in omega arith

  pub gathered_next : (after : List Gathered) → lines_in after ≡ put_in (lines_in now) (emitted_by a) →
      GatheredSoFar before after all h
  gathered_next after is =
      let same = as_many now after (emitted_by a) is in
      record {
        many = same ∙ s.many;
        left = ap (λ (t : List (List SeenLine)). put_in t (emitted_in h)) is
            ∙ sym (put_append (lines_in now) (emitted_by a) (emitted_in h)) ∙ ap (put_in (lines_in now)) (sym recorded) ∙ s.left;
        have = subst (λ (n : ℕ). HaveSlots n (emitted_in h)) (sym same)
            (have_second (length now) (emitted_by a) (emitted_in h) (subst (HaveSlots (length now)) recorded s.have));
        fewer = (let l = kids_less in let f = s.fewer in omega arith);
      }
