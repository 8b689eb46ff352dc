-- How one more event or block changes a draft's counts: of events, bytes read, waiting acts and forked callers.
use Rattle.std.proofs.Common.{◌≡◌, ℕ, ◌+◌, ◌<◌, ◌≤◌, ltb, leb, Bool, true, false, ◌||◌, inl, inr, Option, Some, None, List, [], ◌∷◌, ◌++◌, ◌-◌, drop, replicate, get_or, set, length, refl, sym, ap, ◌∙◌, arith}
use Rattle.std.specs.List.{list_any}
use Rattle.std.specs.Prelude.{count_by, fold, sum_by}
use Rattle.std.proofs.Math.Bool.{or-false}
use Rattle.std.proofs.Math.Nat.{add-zero}
use Rattle.std.proofs.lemmas.Bool.{both_ways, cases_Bool, cases_eq, cases_lt, eq-eqb, le-ltb, leb-false, lt-leb, lt-ltb, ltb-false, ne_eqb, or_parts}
use Rattle.std.proofs.lemmas.Grind.{get_or-set_at}
use Rattle.std.proofs.lemmas.List.{get_or-drop, get_or-replicate, get_or-set_other, get_or_default, length-drop, length-set}
use Rattle.std.proofs.lemmas.List.Folds.{list_any_at, list_any_none}
use Rattle.std.proofs.lemmas.List.Sums.{fold-append}
use Rattle.key_names.specs.declared.events.Event.{Event}
use Rattle.key_names.specs.declared.events.Event.TheVariants.{Fork}
use Rattle.key_names.specs.Texts.ScriptGrammar.{InRange, acts_after, bytes_read, is_fork_of, times_forked}
use Rattle.key_names.specs.Texts.ScriptFaults.{Draft, blocks_of, has_orphan, is_past_limits, with_event}
use Rattle.key_names.proofs.Script.Drafts.{forks_of, lengths, no_orphan, orphanless, reads, times_with, total_block, total_split}
use Rattle.event_script.specs.Tally.{IsLight, Tallied, fork_in, is_over}

-- `forked` has one flag for each caller number, true if the caller was forked. `marked` gives the flags after an event
-- that forks the given child, if there is one
abbrev pub marked : List Bool → Option ℕ → List Bool
marked forked None = forked
marked forked (Some child) = set forked child true

-- an event in range forks no caller whose number is 64 or more
none_high : (version cpus c : ℕ) (e : Event) → InRange version cpus e → 64 ≤ c → count_by (is_fork_of c) (e ∷ []) ≡ 0
none_high version cpus c (Fork child) range high = rw (ne_eqb child c (λ same. omega (arith, range.1))) refl
none_high version cpus c e range high = refl

marks_with : (version cpus c before with : ℕ) (e : Event) (forked : List Bool) → InRange version cpus e →
    length forked ≡ 64 → c < 64
    → get_or forked c false ≡ ltb 0 before → with ≡ before + count_by (is_fork_of c) (e ∷ [])
    → get_or (marked forked (fork_in e)) c false ≡ ltb 0 with
marks_with version cpus c before with (Fork child) forked range long small is sum =
    elim (cases_eq child c) [
      | inl same ↦
          let one : count_by (is_fork_of c) (Fork child ∷ []) ≡ 1 = rw (eq-eqb child c same) refl in
          let flag : get_or (set forked child true) c false ≡ true =
          get_or-set_at forked child c true false (sym same) (omega arith) in
          flag ∙ sym (lt-ltb 0 with (omega arith))
      | inr other ↦
          let none : count_by (is_fork_of c) (Fork child ∷ []) ≡ 0 = rw (ne_eqb child c other) refl in
          get_or-set_other forked child c true false (λ e. other (sym e)) ∙ is ∙ ap (ltb 0) (omega arith)
    ]
marks_with version cpus c before with e forked range long small is sum = is ∙ ap (ltb 0) (omega arith)

length_marked : (forked : List Bool) (child : Option ℕ) → length (marked forked child) ≡ length forked
length_marked forked None = refl
length_marked forked (Some child) = length-set forked child true

-- if the counts are those of the draft `d`, `is_over` is true if and only if adding the event `e` exceeds a limit
pub limits_are : (d : Draft) (e : Event) (count read acts : ℕ) (forked : List Bool) →
    Tallied (blocks_of d) d.events count read acts forked
    → is_over count (read + bytes_read e) (acts_after acts e) ≡ is_past_limits d e
limits_are d e count read acts forked t = rw (t.count_is, t.read_is, t.acts_are) refl

pub tallied_event : (d : Draft) (e : Event) (count read acts : ℕ) (forked : List Bool) →
    Tallied (blocks_of d) d.events count read acts forked
    → InRange d.version d.cpus e → is_past_limits d e ≡ false
    → Tallied (blocks_of (with_event d e)) (d.events ++ e ∷ []) (count + 1) (read + bytes_read e) (acts_after acts e)
    (marked forked (fork_in e))
tallied_event d e count read acts forked t range within =
    let limit = or_parts (leb 65536 (sum_by length (blocks_of d)) || ltb 16777216
    (sum_by (sum_by bytes_read) (blocks_of d) + bytes_read e)) (ltb 8 (acts_after (fold acts_after 0 d.events) e))
    within in
    let counts = or_parts (leb 65536 (sum_by length (blocks_of d)))
    (ltb 16777216 (sum_by (sum_by bytes_read) (blocks_of d) + bytes_read e)) limit.0 in
    let many = leb-false _ _ counts.0 in
    let much = ltb-false _ _ counts.1 in
    let most = ltb-false _ _ limit.1 in
    let length_is = total_split length lengths d.done [] d.events (e ∷ []) in
    let reads_are = total_split (sum_by bytes_read) reads d.done [] d.events (e ∷ []) in
    let count_is = t.count_is in
    let read_is = t.read_is in
    record {
      count_is = omega arith;
      read_is = omega arith;
      acts_are = rw (t.acts_are, fold-append acts_after 0 d.events (e ∷ [])) refl;
      marks = λ c small. marks_with d.version d.cpus c (times_forked (blocks_of d) c)
          (times_forked (blocks_of (with_event d e)) c) e forked range t.long small (t.marks c small) (times_with d e c);
      high = λ c high. omega (arith, times_with d e c, t.high c high, none_high d.version d.cpus c e range high);
      long = length_marked forked (fork_in e) ∙ t.long;
      few = omega arith;
      little = omega arith;
      waiting = rw t.acts_are most;
    }

pub tallied_block : (d : Draft) (count read acts : ℕ) (forked : List Bool) →
    Tallied (blocks_of d) d.events count read acts forked
    → Tallied (blocks_of d ++ [] ∷ []) [] count read 0 forked
tallied_block d count read acts forked t = record {
  count_is = t.count_is ∙ sym (total_block length lengths (blocks_of d));
  read_is = t.read_is ∙ sym (total_block (sum_by bytes_read) reads (blocks_of d));
  acts_are = refl;
  marks = λ c small. t.marks c small ∙ ap (ltb 0)
      (sym (total_block (count_by (is_fork_of c)) (forks_of c) (blocks_of d)));
  high = λ c high. total_block (count_by (is_fork_of c)) (forks_of c) (blocks_of d) ∙ t.high c high;
  long = t.long;
  few = t.few;
  little = t.little;
  waiting = omega arith;
}

-- ---- Orphans: forked callers without a block

no_flags : (d : Draft) (count read acts n : ℕ) (forked : List Bool) →
    Tallied (blocks_of d) d.events count read acts forked
    → n ≡ length (blocks_of d) → has_orphan d ≡ false → list_any (λ flag. flag) (drop n forked) ≡ false
no_flags d count read acts n forked t n_is whole =
    list_any_none (λ flag. flag) (drop n forked) (λ k dummy inside.
    let place : n + k < 64 = omega (arith, t.long, length-drop n forked) in
    let none : times_forked (blocks_of d) (n + k) ≡ 0 =
    no_orphan (length (blocks_of d)) (n + k) (blocks_of d) (omega arith) whole in
    rw (
      get_or-drop n forked k dummy,
      get_or_default forked (n + k) dummy false (omega (arith, t.long)),
      t.marks (n + k) place,
      none,
    ) refl)

no_number : (d : Draft) (count read acts n c : ℕ) (forked : List Bool) →
    Tallied (blocks_of d) d.events count read acts forked
    → list_any (λ flag. flag) (drop n forked) ≡ false → n ≤ c → times_forked (blocks_of d) c ≡ 0
no_number d count read acts n c forked t none high =
    elim (cases_lt c 64) [
      | inr past ↦ t.high c past
      | inl low ↦
          elim (cases_Bool (ltb 0 (times_forked (blocks_of d) c))) [
            | inr zero_is ↦ let le = ltb-false _ _ zero_is in omega arith
            | inl some ↦
                let place : n + (c - n) ≡ c = omega arith in
                let flag : get_or (drop n forked) (c - n) false ≡ true =
                rw (get_or-drop n forked (c - n) false, place) (t.marks c low ∙ some) in
                absurd (both_ways _ none (list_any_at (λ b. b) (drop n forked) (c - n) false
                (omega (arith, t.long, length-drop n forked)) flag))
          ]
    ]

pub orphans : (d : Draft) (count read acts n : ℕ) (forked : List Bool) →
    Tallied (blocks_of d) d.events count read acts forked
    → n ≡ length (blocks_of d) → list_any (λ flag. flag) (drop n forked) ≡ has_orphan d
orphans d count read acts n forked t n_is =
    elim (cases_Bool (has_orphan d)) [
      | inr whole ↦ no_flags d count read acts n forked t n_is whole ∙ sym whole
      | inl orphan ↦
          elim (cases_Bool (list_any (λ flag. flag) (drop n forked))) [
            | inl flag ↦ flag ∙ sym orphan
            | inr none ↦
                let free : has_orphan d ≡ false = orphanless (length (blocks_of d)) (blocks_of d)
                (λ c high. no_number d count read acts n c forked t none (omega arith)) in
                absurd (both_ways _ free orphan)
          ]
    ]

pub tallied_start : (forked : List Bool) → forked ≡ replicate 64 false → Tallied ([] ∷ []) [] 0 0 0 forked
tallied_start forked is = record {
  count_is = refl;
  read_is = refl;
  acts_are = refl;
  marks = λ c small. rw is (get_or-replicate 64 c false false small);
  high = λ c high. refl;
  long = rw is refl;
  few = omega arith;
  little = omega arith;
  waiting = omega arith;
}

-- ---- an event that changes only the number of events

pub light_within : (d : Draft) (e : Event) (count read acts : ℕ) (forked : List Bool) →
    Tallied (blocks_of d) d.events count read acts forked
    → IsLight e → leb 65536 count ≡ is_past_limits d e
light_within d e count read acts forked t light =
    let little : ltb 16777216 read ≡ false = le-ltb _ _ t.little in
    let waiting : ltb 8 acts ≡ false = le-ltb _ _ t.waiting in
    let alone : leb 65536 count ≡ is_over count read acts = rw (little, waiting, or-false, or-false) refl in
    let same : is_over count read acts ≡ is_over count (read + bytes_read e) (acts_after acts e) =
    rw (light.unread, light.waiting acts, add-zero) refl in
    alone ∙ same ∙ limits_are d e count read acts forked t

pub tallied_light : (d : Draft) (e : Event) (count read acts : ℕ) (forked : List Bool) →
    Tallied (blocks_of d) d.events count read acts forked
    → InRange d.version d.cpus e → IsLight e → count < 65536
    → Tallied (blocks_of (with_event d e)) (d.events ++ e ∷ []) (count + 1) read acts forked
tallied_light d e count read acts forked t range light few =
    let within : is_past_limits d e ≡ false = sym (light_within d e count read acts forked t light)
    ∙ lt-leb 65536 count (omega arith) in
    let t = tallied_event d e count read acts forked t range within in
    rw (light.unread, light.unforked, light.waiting acts, add-zero) at t
