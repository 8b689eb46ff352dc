-- The book of a new table after one interrupt for each sample of some feeders.
use Rattle.std.proofs.Common.{◌≡◌, ◌⊎◌, inl, inr, ⊎_elim, ℕ, suc, ◌+◌, ◌*◌, ◌/◌, ◌<◌, ◌≤◌, ◌^◌, List, [], ◌∷◌, ◌++◌, length, map, take, refl, sym, ap, ◌∙◌, subst, arith, true, false, cond, nat_eq, length-append, append_assoc, Some, None, lit<}
use Rattle.std.specs.Prelude.{min, Bool, IsTrue}
use Rattle.std.specs.List.{AllByRecursion, fold}
use Rattle.std.proofs.Math.Seq.{take-append_seam}
use Rattle.std.proofs.lemmas.List.{append-nil, length-map}
use Rattle.key_names.specs.declared.names.Step.{Step}
use Rattle.key_names.specs.declared.entries.PoolEntry.{PoolEntry}
use Rattle.key_names.specs.declared.entries.PoolEntry.TheVariants.{Mix}
use Rattle.key_names.specs.declared.entries.BaseEntry.{BaseEntry}
use Rattle.key_names.specs.declared.entries.BaseEntry.TheVariants.{Early, Reseed as Reseeded}
use Rattle.key_names.specs.declared.entries.CpuEntry.{CpuEntry}
use Rattle.key_names.specs.declared.entries.CpuEntry.TheVariants.{Dump}
use Rattle.key_names.specs.declared.events.Event.TheVariants.{Irq as IrqEvent}
use Rattle.key_names.specs.declared.events.Answer.TheVariants.{Ok as Done}
use Rattle.key_names.specs.Transcripts.SeenLine.{no_data}
use Rattle.key_names.specs.Lanes.Book.{Book, Lists, LawfulLanes, lists_of, cpu_list}
use Rattle.key_names.specs.Callers.Calls.{Setting as CallSetting}
use Rattle.key_names.specs.Callers.Effects.{Effect, PoolVisit, BaseVisit, CpuVisit, at_pool, at_base, at_cpu, effects_of}
use Rattle.key_names.specs.Kernel.FastPool.{FastPool, fast_after, makes_due, dump_bits, dump_bytes}
use Rattle.key_names.specs.Callers.Forms.{Rooted, BaseOnly, Cross, DumpForm, IrqForm}
use Rattle.key_names.specs.Transcripts.IsTranscript.{MarkBy, VisitsAre, marks_from}
use Rattle.key_names.specs.Callers.LineSamples.{SamplesConform, Dumps, IsQuiet, IsCrossing, EntryIsQuiet}
use Rattle.key_names.specs.Lanes.PoolList.{Crossing, crossing, ready, early, none, PoolState, pool_step}
use Rattle.key_names.specs.Lanes.Samples.{MakesDue}
use Rattle.key_names.proofs.Uses.BookUses.{lawful_is_disjoint}
use Rattle.lane_table.specs.declared.view.View.{View}
use Rattle.lane_table.specs.declared.view.Visit.{Visit}
use Rattle.lane_table.specs.BookLaws.{ClosedLanes, Continues}
use Rattle.lane_table.specs.BookLists.{book_lists, book_of, entries, cpu_entry, pool_entry}
use Rattle.lane_table.specs.Calls.{Ended}
use Rattle.lane_table.specs.WorldRule.{known_of}
use Rattle.lane_table.proofs.Book.BookEnds.{continues_before, ended_lanes, ended_lawful}
use Rattle.lane_table.proofs.Book.BookEntries.{cpu_kind, pool_kind, entries_length, one_kind}
use Rattle.lane_table.proofs.Book.BookSamples.{fast_met}
use Rattle.lane_table.proofs.Book.BookWhole.{cpu_listed}
use Rattle.lane_table.proofs.Lists.VisitLists.{begins_refl}
use Rattle.rng_core.specs.Makes.{IsOutcomeOf, setting_of}
use Rattle.rng_core.specs.Settings.{first_setting}
use Rattle.rng_core.specs.SampleEffects.{Sampled, fast_in}
use Rattle.irq_feed.specs.declared.samples.Sample.{Sample}
use Rattle.irq_feed.specs.Mixing.{Mixes}
use Rattle.irq_feed.specs.declared.mixed.Mixed.{Mixed}
use Rattle.irq_feed.specs.declared.queue.FeedPass.{FeedPass}
use Rattle.irq_feed.specs.declared.table_feed.FeedSums.{FeedSums}
use Rattle.irq_feed.specs.Feeds.{Numbers, numbers}
use Rattle.irq_feed.specs.Fed.{AllMixed, mixed_in}
use Rattle.irq_feed.specs.Samples.{first_samples, of_feeder}
use Rattle.irq_feed.specs.TableFeed.{AreCalls, IsFed, IsFedBook, irq_entry, marks_of}
use Rattle.rng_core.proofs.Paths.{Path, lane_append, lane_of, start}
use Rattle.irq_feed.proofs.Paths.{all_here, calls_in, path_in, in_order, places_conform, share_is, visits_made, wide}
use Rattle.irq_feed.proofs.Dumps.{Dumped, bits_at_dump, dumps_are, due_more, none_dumped, quiet_more}
use Rattle.irq_feed.proofs.FedSamples.{lawful_samples}
use Rattle.irq_feed.proofs.Entries.{AllThere, CountUp, Counts, count_up, cpu_here, cpu_seen, next_entry, parts_count, pool_here, pool_seen}

abbrev set : CallSetting
set = setting_of (first_setting 0)

-- ---- The effects of the call that makes one interrupt

-- the effects `rest` after a credit are in the lists. None of them is a visit of a CPU, and they do not change the
-- pool's bits
record Crossed (rest : List Effect) : Type 0 where
  there : AllThere rest
  no_cpu : cpu_seen rest ≡ []
  same_bits : (s : PoolState) → (fold pool_step s (map (λ (x : ℕ × PoolEntry). x.1) (pool_seen rest))).bits ≡ s.bits

crossed_none : Crossed []
crossed_none = record { there = tt; no_cpu = refl; same_bits = λ s. refl }

crossed_base : (b : BaseVisit) → Crossed (at_base b ∷ [])
crossed_base b = record { there = tt; no_cpu = refl; same_bits = λ s. refl }

crossed_root : (entry : ℕ → BaseEntry) (rest : List Effect) → Rooted set entry rest → Crossed rest
crossed_root entry rest r = subst Crossed (sym r.effects_are) (record {
  there = tt;
  no_cpu = refl;
  same_bits = λ s. ap (λ e. (pool_step s e).bits) r.extracts;
})

crossed : (c : Crossing) (rest : List Effect) → Cross set c rest → Crossed rest
crossed none rest x = subst Crossed (sym x) crossed_none
crossed ready rest x = crossed_root (λ n. Reseeded n set.now) rest x
crossed early rest x = ⊎_elim (λ r. crossed_root (λ n. Early (Some n)) rest r)
    (λ (b : BaseOnly (Early None) rest). subst Crossed (sym b.effects_are) (crossed_base b.base)) x

record QuietCall (fast : ℕ → ℕ → FastPool) (x : Sample) (effects : List Effect) : Type 0 where
  sample : CpuVisit
  effects_are : effects ≡ at_cpu sample ∷ []
  on : sample.cpu ≡ 0
  is : sample.entry ≡ irq_entry x
  quiet : makes_due (fast 0 sample.place) 0 ≡ false

record DueCall (fast : ℕ → ℕ → FastPool) (x : Sample) (effects : List Effect) : Type 0 where
  sample : CpuVisit
  dump : CpuVisit
  mix : PoolVisit
  rest : List Effect
  effects_are : effects ≡ at_cpu sample ∷ at_cpu dump ∷ at_pool mix ∷ rest
  on : sample.cpu ≡ 0
  dump_on : dump.cpu ≡ 0
  is : sample.entry ≡ irq_entry x
  dumps : dump.entry ≡ Dump 0
  text : List ℕ
  mixes : mix.entry ≡ Mix text (dump_bits (fast 0 dump.place))
  due : makes_due (fast 0 sample.place) 0 ≡ true
  crosses : Crossed rest

true_of : (b : Bool) → IsTrue b → b ≡ true
true_of true t = refl
true_of false t = absurd cc

module _ (fast : ℕ → ℕ → FastPool) (x : Sample) (effects : List Effect) (form : IrqForm set x.v1 x.v2 effects) where
  -- if the sample of a call makes no dump due, the call makes no dump
  no_dump : AllByRecursion (IsQuiet fast) effects → (form.rest ≡ []) ⊎ DumpForm set form.rest → QuietCall fast x effects
  no_dump quiet (inl bare) =
      let whole : effects ≡ at_cpu form.sample ∷ [] = form.effects_are ∙ ap (λ l. at_cpu form.sample ∷ l) bare in
      let here : EntryIsQuiet (fast form.sample.cpu form.sample.place) form.sample.entry =
      (subst (AllByRecursion (IsQuiet fast)) whole quiet).0 in
      record {
        sample = form.sample;
        effects_are = whole;
        on = form.on;
        is = form.samples;
        quiet = ap (λ c. makes_due (fast c form.sample.place) 0) (sym form.on)
            ∙ subst (EntryIsQuiet (fast form.sample.cpu form.sample.place)) form.samples here;
      }
  no_dump quiet (inr d) =
      let whole : effects ≡ at_cpu form.sample ∷ at_cpu d.dump ∷ d.rest =
      form.effects_are ∙ ap (λ l. at_cpu form.sample ∷ l) d.effects_are in
      let here : EntryIsQuiet (fast d.dump.cpu d.dump.place) d.dump.entry =
      (subst (AllByRecursion (IsQuiet fast)) whole quiet).1.0 in
      absurd (subst (EntryIsQuiet (fast d.dump.cpu d.dump.place)) d.dumps here)

  -- if a dump is due, the call makes one after the sample
  module _ (d : Dumps fast (λ rest. AllByRecursion IsCrossing rest) effects) where
    one_dump : (form.rest ≡ []) ⊎ DumpForm set form.rest → DueCall fast x effects
    one_dump (inl bare) =
        let whole : effects ≡ at_cpu form.sample ∷ [] = form.effects_are ∙ ap (λ l. at_cpu form.sample ∷ l) bare in
        let long : suc (suc (suc (length d.rest))) ≡ 1 = ap length (sym d.effects_are ∙ whole) in
        absurd (omega arith)
    one_dump (inr e) =
        let m = e.mixes in
        let whole : effects ≡ at_cpu form.sample ∷ at_cpu e.dump ∷ at_pool m.pool ∷ m.rest =
        form.effects_are ∙ ap (λ l. at_cpu form.sample ∷ l) (e.effects_are ∙ ap (λ l. at_cpu e.dump ∷ l) m.effects_are) in
        let both : at_cpu d.sample ∷ at_cpu d.dump ∷ at_pool d.mix ∷ d.rest
        ≡ at_cpu form.sample ∷ at_cpu e.dump ∷ at_pool m.pool ∷ m.rest = sym d.effects_are ∙ whole in
        let sampled : d.sample ≡ form.sample = cc in
        let dumped : d.dump ≡ e.dump = cc in
        let rest : d.rest ≡ m.rest = cc in
        let on : d.sample.cpu ≡ 0 = ap (λ (v : CpuVisit). v.cpu) sampled ∙ form.on in
        let is : d.sample.entry ≡ irq_entry x = ap (λ (v : CpuVisit). v.entry) sampled ∙ form.samples in
        let dump_on : d.dump.cpu ≡ 0 = d.on ∙ on in
        let due : MakesDue (fast d.sample.cpu d.sample.place) (irq_entry x) =
        subst (MakesDue (fast d.sample.cpu d.sample.place)) is d.due in
        record {
          sample = d.sample;
          dump = d.dump;
          mix = d.mix;
          rest = d.rest;
          effects_are = d.effects_are;
          on = on;
          dump_on = dump_on;
          is = is;
          dumps = ap (λ (v : CpuVisit). v.entry) dumped ∙ e.dumps;
          text = dump_bytes (fast d.dump.cpu d.dump.place);
          mixes = d.mixes
              ∙ ap (λ c. Mix (dump_bytes (fast d.dump.cpu d.dump.place)) (dump_bits (fast c d.dump.place))) dump_on;
          due = ap (λ c. makes_due (fast c d.sample.place) 0) (sym on)
              ∙ true_of (makes_due (fast d.sample.cpu d.sample.place) 0) due;
          crosses = subst Crossed (sym rest) (crossed (crossing m.pool.before.bits m.pool.after.bits) m.rest m.crosses);
        }

  shape : SamplesConform fast effects → QuietCall fast x effects ⊎ DueCall fast x effects
  shape (inl quiet) = inl (no_dump quiet form.dumps)
  shape (inr d) = inr (one_dump d form.dumps)

all_there : (fast : ℕ → ℕ → FastPool) (x : Sample) (effects : List Effect) → QuietCall fast x effects ⊎ DueCall fast x effects →
    AllThere effects
all_there fast x effects (inl c) = subst AllThere (sym c.effects_are) tt
all_there fast x effects (inr c) = subst AllThere (sym c.effects_are) c.crosses.there

-- ---- The entries of one more call

abbrev seconds : {E : Type 0} → List (ℕ × E) → List E
seconds xs = map (λ x. x.1) xs

all_entries : {E : Type 0} (es front rest : List E) (xs : List (ℕ × E)) → es ≡ front ++ rest →
    Counts es (length front) xs → (more : List E) × (es ≡ (front ++ seconds xs) ++ more)
all_entries es front rest [] is counts = (rest, is ∙ ap (λ l. l ++ rest) (sym (append-nil front)))
all_entries {E = E} es front rest (x ∷ xs) is counts =
    let one = next_entry es front rest x.1 is counts.1 in
    let long : suc (length front) ≡ length (front ++ x.1 ∷ []) =
    (let l = length-append front (x.1 ∷ []) in omega arith) in
    let all = all_entries es (front ++ x.1 ∷ []) one.0 xs one.1
    (subst (λ i. Counts es i xs) long counts.2) in
    (all.0, all.1 ∙ ap (λ l. l ++ all.0) (append_assoc front (x.1 ∷ []) (seconds xs)))

module _ (lists : Lists) (fast : ℕ → ℕ → FastPool)
    (fast_is : (i : ℕ) → i ≤ length (cpu_list lists 0) → fast 0 i ≡ fast_after (take i (cpu_list lists 0))) where
  abbrev cs : List CpuEntry
  cs = cpu_list lists 0

  at_front : (front rest : List CpuEntry) → cs ≡ front ++ rest → fast 0 (length front) ≡ fast_after front
  at_front front rest is =
      let long : length cs ≡ length front + length rest = ap length is ∙ length-append front rest in
      fast_is (length front) (omega arith)
      ∙ ap (λ l. fast_after (take (length front) l)) is ∙ ap fast_after (take-append_seam front rest)

  module _ (samples : List Sample) (x : Sample) (effects : List Effect) (front rest : List CpuEntry) (pool : List PoolEntry)
      (is : cs ≡ front ++ rest) (had : Dumped samples front pool) (counts : Counts cs (length front) (cpu_seen effects)) where
    abbrev After : List (ℕ × CpuEntry) → List (ℕ × PoolEntry) → Type 0
    After c p = Dumped (samples ++ x ∷ []) (front ++ seconds c) (pool ++ seconds p)

    quiet_call : QuietCall fast x effects → After (cpu_seen effects) (pool_seen effects)
    quiet_call q =
        let cpu : cpu_seen effects ≡ (q.sample.place, irq_entry x) ∷ [] =
        ap cpu_seen q.effects_are ∙ (λ i. cond (nat_eq (q.on i + 2) 2) ((q.sample.place, q.is i) ∷ []) []) in
        let unmixed : pool_seen effects ≡ [] = ap pool_seen q.effects_are in
        let at : q.sample.place ≡ length front = (subst (Counts cs (length front)) cpu counts).0 in
        let quiet : makes_due (fast_after front) 0 ≡ false =
        ap (λ f. makes_due f 0) (sym (ap (fast 0) at ∙ at_front front rest is)) ∙ q.quiet in
        subst (λ (l : List (ℕ × CpuEntry)). After l (pool_seen effects)) (sym cpu)
        (subst (λ (l : List (ℕ × PoolEntry)). After ((q.sample.place, irq_entry x) ∷ []) l) (sym unmixed)
        (subst (Dumped (samples ++ x ∷ []) (front ++ irq_entry x ∷ [])) (sym (append-nil pool))
        (quiet_more samples front pool had x quiet)))

    due_call : DueCall fast x effects → After (cpu_seen effects) (pool_seen effects)
    due_call d =
        let both : List (ℕ × CpuEntry) = (d.sample.place, irq_entry x) ∷ (d.dump.place, Dump 0) ∷ [] in
        let bits : ℕ = dump_bits (fast 0 d.dump.place) in
        let crossed : List (ℕ × PoolEntry) = pool_seen d.rest in
        let cpu : cpu_seen effects ≡ both =
        ap cpu_seen d.effects_are
        ∙ (λ i. cond (nat_eq (d.on i + 2) 2)
        ((d.sample.place, d.is i) ∷ cond (nat_eq (d.dump_on i + 2) 2) ((d.dump.place, d.dumps i) ∷ d.crosses.no_cpu i)
        (d.crosses.no_cpu i))
        (cond (nat_eq (d.dump_on i + 2) 2) ((d.dump.place, d.dumps i) ∷ d.crosses.no_cpu i) (d.crosses.no_cpu i))) in
        let mixed : pool_seen effects ≡ (d.mix.place, Mix d.text bits) ∷ crossed =
        ap pool_seen d.effects_are ∙ ap (λ e. (d.mix.place, e) ∷ crossed) d.mixes in
        let c : Counts cs (length front) both = subst (Counts cs (length front)) cpu counts in
        let due : makes_due (fast_after front) 0 ≡ true =
        ap (λ f. makes_due f 0) (sym (ap (fast 0) c.0 ∙ at_front front rest is)) ∙ d.due in
        let one = next_entry cs front rest (irq_entry x) is c.1 in
        let long : length (front ++ irq_entry x ∷ []) ≡ suc (length front) =
        (let l = length-append front (irq_entry x ∷ []) in omega arith) in
        let then : fast 0 d.dump.place ≡ fast_after (front ++ irq_entry x ∷ []) =
        ap (fast 0) (c.2.0 ∙ sym long) ∙ at_front (front ++ irq_entry x ∷ []) one.0 one.1 in
        let sixteen : bits ≡ 16 = ap dump_bits then ∙ bits_at_dump samples front pool had x due in
        subst (λ (l : List (ℕ × CpuEntry)). After l (pool_seen effects)) (sym cpu)
        (subst (λ (l : List (ℕ × PoolEntry)). After both l) (sym mixed)
        (due_more samples front pool had x d.text bits (seconds crossed) due sixteen d.crosses.same_bits))

    call_more : QuietCall fast x effects ⊎ DueCall fast x effects → After (cpu_seen effects) (pool_seen effects)
    call_more (inl q) = quiet_call q
    call_more (inr d) = due_call d

-- ---- The entries of all calls

module _ (visits : ℕ → List Visit) where
  abbrev lists : Lists
  lists = book_lists 3 visits []

  abbrev fast : ℕ → ℕ → FastPool
  fast = fast_in visits

  abbrev IsCall : Sample → List Step → Type 0
  IsCall x steps = Sampled (IsOutcomeOf set (IrqEvent x.v1 x.v2) Done no_data) visits (effects_of lists steps)

  abbrev AreSampled : List Sample → List (List Step) → Type 0
  AreSampled [] [] = Unit {0}
  AreSampled [] (steps ∷ calls) = ⊥
  AreSampled (x ∷ xs) [] = ⊥
  AreSampled (x ∷ xs) (steps ∷ calls) = IsCall x steps × AreSampled xs calls

  are_calls : (xs : List Sample) (calls : List (List Step)) → AreSampled xs calls → AreCalls lists xs calls
  are_calls [] [] a = tt
  are_calls [] (steps ∷ calls) a = a
  are_calls (x ∷ xs) [] a = a
  are_calls (x ∷ xs) (steps ∷ calls) a = (a.0.holds, are_calls xs calls a.1)

  conform : (xs : List Sample) (calls : List (List Step)) → AreSampled xs calls →
      AllByRecursion (λ steps. SamplesConform fast (effects_of lists steps)) calls
  conform [] [] a = tt
  conform [] (steps ∷ calls) a = absurd a
  conform (x ∷ xs) [] a = tt
  conform (x ∷ xs) (steps ∷ calls) a = (a.0.samples, conform xs calls a.1)

  are_sampled : (event : ℕ) (xs : List Sample) (v w : View) (m : Mixes (first_setting 0) event xs v w) →
      Continues 3 w visits → AreSampled xs (calls_in event xs v w m)
  are_sampled event [] v w m c = tt
  are_sampled event (x ∷ xs) v w (u, one, more) c =
      let rest = path_in (suc event) xs u w more in (
        subst (λ (l : List Step). Sampled (IsOutcomeOf set (IrqEvent x.v1 x.v2) Done no_data) visits (effects_of lists l))
            (sym one.did.recorded.trace)
            (one.did.conforms 3 visits [] (continues_before 3 u w visits rest.same.sized rest.grows c)),
        are_sampled (suc event) xs u w more c,
      )

  module _ (fast_is : (i : ℕ) → i ≤ length (cpu_list lists 0) → fast 0 i ≡ fast_after (take i (cpu_list lists 0))) where
    -- the lists of the CPU and of the pool begin with the entries that the calls for `samples` left
    record LeftBy (samples : List Sample) (cpu_long pool_long : ℕ) : Type 0 where
      pub cpu : List CpuEntry
      pub cpu_rest : List CpuEntry
      pub cpu_is : cpu_list lists 0 ≡ cpu ++ cpu_rest
      pub cpu_len : length cpu ≡ cpu_long
      pub pool : List PoolEntry
      pub pool_rest : List PoolEntry
      pub pool_is : lists.pool ≡ pool ++ pool_rest
      pub pool_len : length pool ≡ pool_long
      pub dumped : Dumped samples cpu pool

    one_left : (samples : List Sample) (x : Sample) (event cpu_long pool_long : ℕ) (steps : List Step) →
        LeftBy samples cpu_long pool_long → IsCall x steps →
        CountUp cpu_long (lane_of 2 (marks_from 0 event 0 steps)) →
        CountUp pool_long (lane_of 0 (marks_from 0 event 0 steps)) →
        LeftBy (samples ++ x ∷ []) (cpu_long + length (lane_of 2 (marks_from 0 event 0 steps)))
        (pool_long + length (lane_of 0 (marks_from 0 event 0 steps)))
    one_left samples x event cpu_long pool_long steps l call on_cpu on_pool =
        let effects : List Effect = effects_of lists steps in
        let which = shape fast x effects call.holds.form call.samples in
        let there = all_there fast x effects which in
        let c = cpu_here lists event 0 steps there in
        let p = pool_here lists event 0 steps there in
        let c_counts : Counts (cpu_list lists 0) (length l.cpu) (cpu_seen effects) =
        c.counts (length l.cpu) (subst (λ i. CountUp i (lane_of 2 (marks_from 0 event 0 steps))) (sym l.cpu_len) on_cpu) in
        let p_counts : Counts lists.pool (length l.pool) (pool_seen effects) =
        p.counts (length l.pool)
        (subst (λ i. CountUp i (lane_of 0 (marks_from 0 event 0 steps))) (sym l.pool_len) on_pool) in
        let cs = all_entries (cpu_list lists 0) l.cpu l.cpu_rest (cpu_seen effects) l.cpu_is c_counts in
        let ps = all_entries lists.pool l.pool l.pool_rest (pool_seen effects) l.pool_is p_counts in
        record {
          cpu = l.cpu ++ seconds (cpu_seen effects);
          cpu_rest = cs.0;
          cpu_is = cs.1;
          cpu_len =
              (let a = length-append l.cpu (seconds (cpu_seen effects)) in
              let b = length-map (cpu_seen effects) (λ (e : ℕ × CpuEntry). e.1) in
              let m = c.many in let k = l.cpu_len in omega arith);
          pool = l.pool ++ seconds (pool_seen effects);
          pool_rest = ps.0;
          pool_is = ps.1;
          pool_len =
              (let a = length-append l.pool (seconds (pool_seen effects)) in
              let b = length-map (pool_seen effects) (λ (e : ℕ × PoolEntry). e.1) in
              let m = p.many in let k = l.pool_len in omega arith);
          dumped = call_more lists fast fast_is samples x effects l.cpu l.cpu_rest l.pool l.cpu_is l.dumped c_counts which;
        }

    all_left : (event : ℕ) (samples xs : List Sample) (cpu_long pool_long : ℕ) (calls : List (List Step)) →
        LeftBy samples cpu_long pool_long → AreSampled xs calls → CountUp cpu_long (lane_of 2 (marks_of event calls)) →
        CountUp pool_long (lane_of 0 (marks_of event calls)) →
        LeftBy (samples ++ xs) (cpu_long + length (lane_of 2 (marks_of event calls)))
        (pool_long + length (lane_of 0 (marks_of event calls)))
    all_left event samples [] cpu_long pool_long [] l a on_cpu on_pool =
        let c : cpu_long ≡ cpu_long + 0 = omega arith in
        let p : pool_long ≡ pool_long + 0 = omega arith in
        subst (λ (t : List Sample × ℕ × ℕ). LeftBy t.0 t.1 t.2)
        (λ i. (sym (append-nil samples) i, c i, p i)) l
    all_left event samples [] cpu_long pool_long (steps ∷ calls) l a on_cpu on_pool = absurd a
    all_left event samples (x ∷ xs) cpu_long pool_long [] l a on_cpu on_pool = absurd a
    all_left event samples (x ∷ xs) cpu_long pool_long (steps ∷ calls) l a on_cpu on_pool =
        let here : List MarkBy = marks_from 0 event 0 steps in
        let following : List MarkBy = marks_of (suc event) calls in
        let cpu = parts_count cpu_long (lane_of 2 here) (lane_of 2 following)
        (subst (CountUp cpu_long) (lane_append 2 here following) on_cpu) in
        let pool = parts_count pool_long (lane_of 0 here) (lane_of 0 following)
        (subst (CountUp pool_long) (lane_append 0 here following) on_pool) in
        let one = one_left samples x event cpu_long pool_long steps l a.0 cpu.0 pool.0 in
        let all = all_left (suc event) (samples ++ x ∷ []) xs (cpu_long + length (lane_of 2 here))
        (pool_long + length (lane_of 0 here)) calls one a.1 cpu.1 pool.1 in
        let c : (cpu_long + length (lane_of 2 here)) + length (lane_of 2 following)
        ≡ cpu_long + length (lane_of 2 (here ++ following)) =
        (let n = ap length (lane_append 2 here following) ∙ length-append (lane_of 2 here) (lane_of 2 following) in omega arith) in
        let p : (pool_long + length (lane_of 0 here)) + length (lane_of 0 following)
        ≡ pool_long + length (lane_of 0 (here ++ following)) =
        (let n = ap length (lane_append 0 here following) ∙ length-append (lane_of 0 here) (lane_of 0 following) in omega arith) in
        subst (λ (t : List Sample × ℕ × ℕ). LeftBy t.0 t.1 t.2)
        (λ i. (append_assoc samples (x ∷ []) xs i, c i, p i)) all

-- ---- The table after all its visits

front_is_all : {E : Type 0} (es front rest : List E) → es ≡ front ++ rest → length front ≡ length es → front ≡ es
front_is_all es front [] is long = sym (append-nil front) ∙ sym is
front_is_all es front (x ∷ rest) is long =
    absurd (let l = ap length is ∙ length-append front (x ∷ rest) in omega arith)

module _ (xs : List Sample) (v w : View) (m : Mixes (first_setting 0) 0 xs v w) (new : v ≡ start) where
  abbrev calls : List (List Step)
  calls = calls_in 0 xs v w m

  abbrev marks : List MarkBy
  marks = marks_of 0 calls

  path : Path start w marks
  path = subst (λ (z : View). Path z w marks) new (path_in 0 xs v w m)

  pub whole_share : w.share ≡ 2 ^ w.halvings
  whole_share = share_is w marks path

  module _ (at_end : Ended 3 w) where
    three : length w.lanes ≡ 3
    three = wide w marks path

    low : 2 ≤ length w.lanes
    low = let n = three in omega arith

    ended : Ended (length w.lanes) w
    ended = subst (λ (n : ℕ). Ended n w) (sym three) at_end

    abbrev visits_of : ℕ → List Visit
    visits_of = known_of w

    abbrev pub book : Book
    book = book_of 3 visits_of []

    closed : ClosedLanes 3 visits_of
    closed = subst (λ (n : ℕ). ClosedLanes n visits_of) three (ended_lanes w [] low ended)

    goes_on : Continues 3 w visits_of
    goes_on = record { long = three; begins = λ lane near. begins_refl (known_of w lane); closed = closed }

    sampled : AreSampled visits_of xs calls
    sampled = are_sampled visits_of 0 xs v w m goes_on

    lawful : LawfulLanes (lists_of book)
    lawful = subst (λ (n : ℕ). LawfulLanes (book_lists n visits_of [])) three (ended_lawful w [] low ended)

    made : VisitsAre book marks
    made = subst (λ (n : ℕ). VisitsAre (book_of n visits_of []) marks) three (visits_made w marks path ended)

    pub fed_book : IsFedBook xs book
    fed_book = record {
      cpus = refl;
      lawful = lawful;
      disjoint = lawful_is_disjoint (lists_of book) (record {
        lanes = lawful;
        states = record {
          states = λ caller state. record { comes = tt; ends = refl };
          one_taker = λ a b read is at. absurd cc;
        };
      });
      calls = calls;
      are = are_calls visits_of xs calls sampled;
      visits = made;
      lawful_samples = lawful_samples calls visits_of closed made (places_conform w marks path ended)
          (conform visits_of xs calls sampled);
      last = w.stamp;
      in_order = path.climbs;
    }

    cpu_is : cpu_list (lists_of book) 0 ≡ entries cpu_entry (visits_of 2)
    cpu_is = cpu_listed 3 visits_of [] 0 (lit< tt)

    cpu_long : length (cpu_list (lists_of book) 0) ≡ length (visits_of 2)
    cpu_long = ap length cpu_is
        ∙ entries_length cpu_entry (visits_of 2) (one_kind (cpu_kind 0) 3 (visits_of 2) (closed.lawful 2 (lit< tt)))

    pool_long : length (lists_of book).pool ≡ length (visits_of 0)
    pool_long = entries_length pool_entry (visits_of 0) (one_kind pool_kind 3 (visits_of 0) (closed.lawful 0 (lit< tt)))

    fast_is : (i : ℕ) → i ≤ length (cpu_list (lists_of book) 0) →
        fast_in visits_of 0 i ≡ fast_after (take i (cpu_list (lists_of book) 0))
    fast_is i within =
        sym (fast_met 3 visits_of [] closed 0 i (lit< tt) (let l = cpu_long in omega arith))

    left : LeftBy visits_of fast_is xs (0 + length (lane_of 2 marks)) (0 + length (lane_of 0 marks))
    left = all_left visits_of fast_is 0 [] xs 0 0 calls (record {
      cpu = [];
      cpu_rest = cpu_list (lists_of book) 0;
      cpu_is = refl;
      cpu_len = refl;
      pool = [];
      pool_rest = (lists_of book).pool;
      pool_is = refl;
      pool_len = refl;
      dumped = none_dumped;
    }) sampled
        (count_up 0 (lane_of 2 marks) (in_order w marks path ended 2 (lit< tt) (refl, refl)))
        (count_up 0 (lane_of 0 marks) (in_order w marks path ended 0 (lit< tt) (refl, refl)))

    pub dumped_book : Dumped xs (cpu_list (lists_of book) 0) (lists_of book).pool
    dumped_book =
        let a = all_here w marks path ended 2 (lit< tt) (refl, refl) in
        let b = all_here w marks path ended 0 (lit< tt) (refl, refl) in
        let cpu : left.cpu ≡ cpu_list (lists_of book) 0 =
        front_is_all (cpu_list (lists_of book) 0) left.cpu left.cpu_rest left.cpu_is
        (let l = left.cpu_len in let k = cpu_long in omega arith) in
        let pool : left.pool ≡ (lists_of book).pool =
        front_is_all (lists_of book).pool left.pool left.pool_rest left.pool_is
        (let l = left.pool_len in let k = pool_long in omega arith) in
        subst (λ (t : List CpuEntry × List PoolEntry). Dumped xs t.0 t.1) (λ i. (cpu i, pool i)) left.dumped

-- if all samples were mixed on a new table, and the sums are computed from the number of samples, `IsFed` holds
pub is_fed : (first feeders each : ℕ) (feeds : Numbers) (worker : FeedPass) (mixed : Mixed) (sums : FeedSums) (v w : View) →
    feeds ≡ numbers first feeders each → AllMixed feeds worker mixed → Mixes (first_setting 0) 0 (mixed_in mixed) v w →
    v ≡ start → Ended 3 w → sums.samples ≡ length (mixed_in mixed) → sums.dumps ≡ length (mixed_in mixed) / 1024 →
    sums.bits ≡ min 256 (16 * sums.dumps) → IsFed first feeders each sums
is_fed first feeders each feeds worker mixed sums v w is all m new ended samples dumps bits =
    let d = dumped_book (mixed_in mixed) v w m new ended in
    let count : length (mixed_in mixed) ≡ feeders * each =
    all.count ∙ ap (λ (n : Numbers). n.feeders * n.each) is in
    let q : sums.dumps ≡ d.q = dumps ∙ dumps_are (mixed_in mixed) _ _ d in
    record {
      samples = mixed_in mixed;
      each_of = subst (λ (n : Numbers). (f : ℕ) → f < n.feeders → of_feeder f (mixed_in mixed) ≡ first_samples n f n.each)
          is all.each;
      book = book (mixed_in mixed) v w m new ended;
      fed = fed_book (mixed_in mixed) v w m new ended;
      irqs = d.irqs;
      all = (samples, samples ∙ count);
      dumps = (q ∙ sym d.dumps, dumps ∙ ap (λ n. n / 1024) count);
      bits = (bits ∙ ap (λ n. min 256 (16 * n)) q ∙ sym d.bits, bits);
    }
