-- The script of a load is well-formed.
use Rattle.std.proofs.Common.{◌≡◌, ℕ, zero, suc, ◌+◌, ◌-◌, ◌*◌, ◌<◌, ◌≤◌, false, cond, ◌&&◌, List, [], ◌∷◌, map, length, get_or, refl, sym, subst, ◌∙◌, arith, inl, inr}
use Rattle.std.specs.List.{AllByRecursion, range_with_len}
use Rattle.std.specs.Prelude.{count_by, decimal, nat_lt, sum_by, if◌then◌else◌}
use Rattle.std.specs.Int.{w64, to_le_bytes}
use Rattle.std.proofs.lemmas.Bool.{cases_eq, cases_lt, eq-eqb, ne_eqb}
use Rattle.std.proofs.lemmas.Fmt.{length-decimal-le}
use Rattle.std.proofs.lemmas.List.{length-append}
use Rattle.std.proofs.lemmas.List.FromFn.{length-map-range_with_len}
use Rattle.std.proofs.lemmas.List.Sums.{sum_by-append, sum_by-cons}
use Rattle.hex.specs.Hex.{IsBytes}
use Rattle.hex.proofs.HexLemmas.{length-encode_with}
use Rattle.hex.specs.Hex.{lower_digits}
use Rattle.key_names.specs.declared.events.Event.{Event}
use Rattle.key_names.specs.declared.events.Event.TheVariants.{Add, Fork, On, Reseed}
use Rattle.key_names.specs.Texts.ScriptGrammar.{InRange, IsForkAbove, FewActs, ForksAbove, WellFormed, acts_after, bytes_read, event_fields, is_fork_of, times_forked}
use Rattle.key_names.proofs.Script.Drafts.{forked_high, forked_low}
use Rattle.key_names.proofs.Lists.Each.{each_append, each_weaker}
use Rattle.event_script.specs.LoadScript.{call, calls, load_events, load_script, opening, read_len, turn}
use Rattle.event_script.proofs.LoadTexts.{IsShort, text_len}

-- ---- Lists made by a function over consecutive numbers

each_from : {A : Type 0} (P : A → Type 0) (f : ℕ → A) (from n : ℕ) → ((k : ℕ) → from ≤ k → k < from + n → P (f k)) →
    AllByRecursion P (map f (range_with_len from n))
each_from P f from zero each = tt
each_from P f from (suc n) each = (
  each from (omega arith) (omega arith),
  each_from P f (from + 1) n
      (λ k low high. each k (omega arith) (omega arith)),
)

each_at : {A : Type 0} (P : A → Type 0) (xs : List A) (i : ℕ) (d : A) → AllByRecursion P xs → P d → P (get_or xs i d)
each_at P [] i d all other = other
each_at P (x ∷ xs) zero d all other = all.0
each_at P (x ∷ xs) (suc i) d all other = each_at P xs i d all.1 other

sum_at_most : {A : Type 0} (f : A → ℕ) (most : ℕ) (xs : List A) → AllByRecursion (λ x. f x ≤ most) xs →
    sum_by f xs ≤ most * length xs
sum_at_most f most [] all = omega arith
sum_at_most f most (x ∷ xs) all =
    let rest : sum_by f xs ≤ most * length xs = sum_at_most f most xs all.1 in
    let here : f x ≤ most = all.0 in omega (arith, sum_by-cons f x xs)

-- ---- One event of a load

-- a script of version 1 with `cpus` CPUs may have `event`; the event reads at most 100 bytes, its line is short, and it
-- adds no act that waits for a later `vread`
pub record Light (cpus : ℕ) (event : Event) : Type 0 where
  pub range : InRange 1 cpus event
  pub acts : (waiting : ℕ) → acts_after waiting event ≤ waiting
  pub read : bytes_read event ≤ 100
  pub short : IsShort (event_fields event)

-- an event that forks no caller
record ForksNone (event : Event) : Type 0 where
  none : (number : ℕ) → is_fork_of number event ≡ false
  above : (caller : ℕ) → IsForkAbove caller event

each_below : (most from n : ℕ) → from + n ≤ most → AllByRecursion (λ b. b < most) (range_with_len from n)
each_below most from zero few = tt
each_below most from (suc n) few = (omega arith, each_below most (from + 1) n (omega arith))

all_bytes : (bytes : List ℕ) → AllByRecursion (λ b. b < 256) bytes → IsBytes bytes
all_bytes bytes all = λ i. each_at (λ b. b < 256) bytes i 0 all (omega arith)

word_bytes : (n : ℕ) → IsBytes (to_le_bytes w64 n)
word_bytes n = all_bytes (to_le_bytes w64 n) (
  omega arith,
  (
    omega arith,
    (
      omega arith,
      (
        omega arith,
        (omega arith, (omega arith, (omega arith, (omega arith, tt)))),
      ),
    ),
  ),
)

light_calls : (cpus len caller number : ℕ) → len ≤ 100 → caller < 64 → number < 1000 →
    AllByRecursion (Light cpus) (calls len caller number)
light_calls cpus len caller number short few small =
    let three : length (decimal len) ≤ 3 = length-decimal-le 3 len (omega arith) (omega arith) (omega arith) in
    let two : length (decimal caller) ≤ 2 = length-decimal-le 2 caller (omega arith) (omega arith) (omega arith) in
    let thousand : length (decimal number) ≤ 3 = length-decimal-le 3 number (omega arith) (omega arith) (omega arith) in
    let none : length (decimal 0) ≤ 1 = length-decimal-le 1 0 (omega arith) (omega arith) (omega arith) in
    let word = length-encode_with lower_digits (to_le_bytes w64 number) in (
      record { range = (omega arith, omega arith); acts = λ w. omega arith; read = omega arith; short = omega arith },
      (
        record { range = (omega arith, omega arith); acts = λ w. omega arith; read = omega arith; short = omega arith },
        (
          record { range = omega arith; acts = λ w. omega arith; read = omega arith; short = omega arith },
          (
            record { range = tt; acts = λ w. omega arith; read = omega arith; short = omega arith },
            (
              record {
                range = (omega arith, omega arith);
                acts = λ w. omega arith;
                read = omega arith;
                short = omega arith;
              },
              (
                record { range = word_bytes number; acts = λ w. omega arith; read = omega arith; short = omega arith },
                (
                  record { range = omega arith; acts = λ w. omega arith; read = omega arith; short = omega arith },
                  (record { range = tt; acts = λ w. omega arith; read = omega arith; short = omega arith }, tt),
                ),
              ),
            ),
          ),
        ),
      ),
    )

light_call : (cpus start caller number : ℕ) → caller < 64 → number < 1000 → Light cpus (call start caller number)
light_call cpus start caller number few small =
    each_at (Light cpus) (calls (read_len start number) caller number) (turn start caller number) Reseed
    (light_calls cpus (read_len start number) caller number (omega arith) few small)
    (record { range = tt; acts = λ w. omega arith; read = omega arith; short = omega arith })

call_forks_none : (start caller number : ℕ) → ForksNone (call start caller number)
call_forks_none start caller number =
    let plain : (event : Event) → ((n : ℕ) → is_fork_of n event ≡ false) → ((c : ℕ) → IsForkAbove c event) →
    ForksNone event =
    λ event none above. record { none = none; above = above } in
    let no = λ (n : ℕ). refl in let up = λ (c : ℕ). tt in
    each_at ForksNone (calls (read_len start number) caller number) (turn start caller number) Reseed (
      plain _ no up,
      (
        plain _ no up,
        (
          plain _ no up,
          (plain _ no up, (plain _ no up, (plain _ no up, (plain _ no up, (plain _ no up, tt))))),
        ),
      ),
    )
    (plain _ no up)

light_opening : (callers caller : ℕ) → callers ≤ 64 → AllByRecursion (Light callers) (opening callers caller)
light_opening callers zero few =
    let bits : length (decimal 256) ≤ 3 = length-decimal-le 3 256 (omega arith) (omega arith) (omega arith) in
    let seed = length-encode_with lower_digits (range_with_len 0 32) in (
      record {
        range = (all_bytes (range_with_len 0 32) (each_below 256 0 32 (omega arith)), omega arith);
        acts = λ w. omega arith;
        read = omega arith;
        short = omega arith;
      },
      each_from (Light callers) Fork 1 (callers - 1) (λ k low high.
          (let two : length (decimal k) ≤ 2 = length-decimal-le 2 k (omega arith) (omega arith) (omega arith) in
          record {
            range = (omega arith, omega arith);
            acts = λ w. omega arith;
            read = omega arith;
            short = omega arith;
          })),
    )
light_opening callers (suc caller) few = tt

light_events : (start callers count caller : ℕ) → callers ≤ 64 → caller < callers → count ≤ 1000 →
    AllByRecursion (Light callers) (load_events start callers count caller)
light_events start callers count caller few among small =
    let cpu : length (decimal caller) ≤ 2 = length-decimal-le 2 caller (omega arith) (omega arith) (omega arith) in
    each_append (Light callers) (opening callers caller) (On caller ∷ map (call start caller) (range_with_len 0 count))
    (light_opening callers caller few) (
      record { range = among; acts = λ w. omega arith; read = omega arith; short = omega arith },
      each_from (Light callers) (call start caller) 0 count
          (λ k low high. light_call callers start caller k (omega arith) (omega arith)),
    )

-- ---- The events of one caller

few_acts : (waiting : ℕ) (events : List Event) → waiting ≤ 8 →
    AllByRecursion (λ e. (w : ℕ) → acts_after w e ≤ w) events → FewActs waiting events
few_acts waiting [] few all = tt
few_acts waiting (event ∷ events) few all =
    let still = all.0 waiting in (omega arith, few_acts (acts_after waiting event) events (omega arith) all.1)

few_reads : (events : List Event) → AllByRecursion (λ e. bytes_read e ≤ 100) events →
    sum_by bytes_read events ≤ 100 * length events
few_reads events all = sum_at_most bytes_read 100 events all

forks_none : (number : ℕ) (events : List Event) → AllByRecursion ForksNone events →
    count_by (is_fork_of number) events ≡ 0
forks_none number [] all = refl
forks_none number (event ∷ events) all =
    let rest : count_by (is_fork_of number) events ≡ 0 = forks_none number events all.1 in
    let here = all.0.none number in
    sum_by-cons (λ e. cond (is_fork_of number e) 1 0) event events ∙ rw here (omega arith)

-- if `number` is not among the `n` numbers from `from` on, the forks of those `n` callers do not fork caller `number`
forks_others : (number from n : ℕ) → ((k : ℕ) → from ≤ k → k < from + n → k ≡ number → ⊥) →
    count_by (is_fork_of number) (map Fork (range_with_len from n)) ≡ 0
forks_others number from zero others = refl
forks_others number from (suc n) others =
    let rest : count_by (is_fork_of number) (map Fork (range_with_len (from + 1) n)) ≡ 0 =
    forks_others number (from + 1) n (λ k low high. others k (omega arith) (omega arith)) in
    sum_by-cons (λ e. cond (is_fork_of number e) 1 0) (Fork from) (map Fork (range_with_len (from + 1) n))
    ∙ rw (ne_eqb from number (others from (omega arith) (omega arith))) (omega arith)

-- if `number` is among the `n` numbers from `from` on, the forks of those `n` callers fork caller `number` once
forks_among : (number from n : ℕ) → from ≤ number → number < from + n →
    count_by (is_fork_of number) (map Fork (range_with_len from n)) ≡ 1
forks_among number from zero low high = absurd (omega arith)
forks_among number from (suc n) low high =
    let split = sum_by-cons (λ e. cond (is_fork_of number e) 1 0) (Fork from) (map Fork (range_with_len (from + 1) n))
    in
    elim (cases_eq from number) [
      | inl same ↦
          let none = forks_others number (from + 1) n (λ k low high is. omega arith) in
          split ∙ rw (eq-eqb from number same) (omega arith)
      | inr other ↦
          let rest : count_by (is_fork_of number) (map Fork (range_with_len (from + 1) n)) ≡ 1 =
          forks_among number (from + 1) n (omega arith) (omega arith) in
          split ∙ rw (ne_eqb from number other) (omega arith)
    ]

-- after its opening events, a caller of a load has no event that forks
calls_fork_none : (start caller count : ℕ) →
    AllByRecursion ForksNone (On caller ∷ map (call start caller) (range_with_len 0 count))
calls_fork_none start caller count = (
  record { none = λ n. refl; above = λ c. tt },
  each_from ForksNone (call start caller) 0 count (λ k low high. call_forks_none start caller k),
)

-- all events of `caller` together fork `number` as often as its opening events do
opening_forks : (start callers count caller number : ℕ) →
    count_by (is_fork_of number) (load_events start callers count caller) ≡ count_by (is_fork_of number)
    (opening callers caller)
opening_forks start callers count caller number =
    let following = On caller ∷ map (call start caller) (range_with_len 0 count) in
    omega (
      arith,
      sum_by-append (λ e. cond (is_fork_of number e) 1 0) (opening callers caller) following,
      forks_none number following (calls_fork_none start caller count),
    )

opening_above : (callers caller : ℕ) → AllByRecursion (IsForkAbove caller) (opening callers caller)
opening_above callers zero = (tt, each_from (IsForkAbove 0) Fork 1 (callers - 1) (λ k low high. omega arith))
opening_above callers (suc caller) = tt

events_above : (start callers count caller : ℕ) →
    AllByRecursion (IsForkAbove caller) (load_events start callers count caller)
events_above start callers count caller =
    let following = On caller ∷ map (call start caller) (range_with_len 0 count) in
    each_append (IsForkAbove caller) (opening callers caller) following (opening_above callers caller)
    (each_weaker ForksNone (IsForkAbove caller) following (λ e none. none.above caller)
    (calls_fork_none start caller count))

length-load_events : (start callers count caller : ℕ) →
    length (load_events start callers count caller) ≡ length (opening callers caller) + (1 + count)
length-load_events start callers count caller =
    let following = On caller ∷ map (call start caller) (range_with_len 0 count) in
    omega (arith, length-append (opening callers caller) following, length-map-range_with_len (call start caller) 0 count)

-- ---- The events of all callers

above_from : (f : ℕ → List Event) (from n : ℕ) → ((k : ℕ) → AllByRecursion (IsForkAbove k) (f k)) →
    ForksAbove from (map f (range_with_len from n))
above_from f from zero each = tt
above_from f from (suc n) each =
    let next : from + 1 ≡ suc from = omega arith in
    (each from, subst (λ k. ForksAbove k (map f (range_with_len (from + 1) n))) next (above_from f (from + 1) n each))

-- if `from` is at least 1, the `n` callers from `from` on fork no caller
later_fork_none : (start callers count from n number : ℕ) → 1 ≤ from →
    times_forked (map (load_events start callers count) (range_with_len from n)) number ≡ 0
later_fork_none start callers count from n number later =
    let events = load_events start callers count in
    let none : (k : ℕ) → 1 ≤ k → count_by (is_fork_of number) (opening callers k) ≡ 0 =
    λ k some. elim k as (λ k. 1 ≤ k → count_by (is_fork_of number) (opening callers k) ≡ 0)
    [ zero ↦ λ none. absurd (omega arith) | suc k ↦ λ some. refl ] some in
    let each = each_from (λ es. count_by (is_fork_of number) es ≤ 0) events from n
    (λ k low high. omega (arith, opening_forks start callers count k number, none k (omega arith))) in
    omega (arith, sum_at_most (count_by (is_fork_of number)) 0 (map events (range_with_len from n)) each)

forked_first : (number n : ℕ) → number ≡ 0 → ◌≡◌ {A = ℕ} (if nat_lt 0 number && nat_lt number n then 1 else 0) 0
forked_first number n first = rw first refl

-- with `others` callers besides caller 0, the opening of caller 0 forks each number from 1 to `others` once, and no
-- other number
opening_count : (number others : ℕ) →
    count_by (is_fork_of number) (opening (suc others) 0) ≡
    (if nat_lt 0 number && nat_lt number (suc others) then 1 else 0)
opening_count number others =
    let forks = map Fork (range_with_len 1 (suc others - 1)) in
    let split = sum_by-cons (λ e. cond (is_fork_of number e) 1 0) (Add (range_with_len 0 32) 256) forks in
    elim (cases_lt 0 number) [
      | inl some ↦ elim (cases_lt number (suc others)) [
        | inl low ↦ omega (
          arith,
          split,
          forks_among number 1 (suc others - 1) some (omega arith),
          forked_low number (suc others) some low,
        )
        | inr high ↦ omega (
          arith,
          split,
          forks_others number 1 (suc others - 1) (λ k low up is. omega arith),
          forked_high number (suc others) high,
        )
      ]
      | inr first ↦ omega (
        arith,
        split,
        forks_others number 1 (suc others - 1) (λ k low up is. omega arith),
        forked_first number (suc others) (omega arith),
      )
    ]

few_events : (start others count : ℕ) → others < 64 → count ≤ 1000 →
    sum_by length (map (load_events start (suc others) count) (range_with_len 0 (suc others))) ≤ 65536
few_events start others count few small =
    let events = load_events start (suc others) count in
    let later = map events (range_with_len 1 others) in
    let forks = length-map-range_with_len Fork 1 (suc others - 1) in
    let short : (k : ℕ) → 1 ≤ k → length (opening (suc others) k) ≡ 0 =
    λ k some. elim k as (λ k. 1 ≤ k → length (opening (suc others) k) ≡ 0)
    [ zero ↦ λ none. absurd (omega arith) | suc k ↦ λ some. refl ] some in
    let each = each_from (λ es. length es ≤ 1001) events 1 others
    (λ k low high. omega (arith, length-load_events start (suc others) count k, short k low)) in
    omega (
      arith,
      sum_by-cons {X = List Event} length (events 0) later,
      length-load_events start (suc others) count 0,
      sum_at_most {A = List Event} length 1001 later each,
      length-map-range_with_len events 1 others,
    )

few_reads_in : (blocks : List (List Event)) → AllByRecursion (AllByRecursion (λ e. bytes_read e ≤ 100)) blocks →
    sum_by (sum_by bytes_read) blocks ≤ 100 * sum_by length blocks
few_reads_in [] all = omega arith
few_reads_in (events ∷ blocks) all =
    let rest : sum_by (sum_by bytes_read) blocks ≤ 100 * sum_by length blocks = few_reads_in blocks all.1 in
    omega (
      arith,
      sum_by-cons (sum_by bytes_read) events blocks,
      sum_by-cons {X = List Event} length events blocks,
      few_reads events all.0,
    )

forked_once : (start others count number : ℕ) →
    times_forked (map (load_events start (suc others) count) (range_with_len 0 (suc others))) number ≡
    (if nat_lt 0 number && nat_lt number (suc others) then 1 else 0)
forked_once start others count number =
    let events = load_events start (suc others) count in
    omega (
      arith,
      sum_by-cons (count_by (is_fork_of number)) (events 0) (map events (range_with_len 1 others)),
      opening_forks start (suc others) count 0 number,
      opening_count number others,
      later_fork_none start (suc others) count 1 others number (omega arith),
    )

load_of : (start others count : ℕ) → others < 64 → count ≤ 1000 → WellFormed (load_script start (suc others) count)
load_of start others count few small =
    let events = load_events start (suc others) count in
    let all = map events (range_with_len 0 (suc others)) in
    let long = length-map-range_with_len events 0 (suc others) in
    let total = few_events start others count few small in
    let light : AllByRecursion (AllByRecursion (Light (suc others))) all =
    each_from (AllByRecursion (Light (suc others))) events 0 (suc others)
    (λ k low high. light_events start (suc others) count k (omega arith) (omega arith) small) in
    let each : (P : Event → Type 0) → ((e : Event) → Light (suc others) e → P e) →
    AllByRecursion (AllByRecursion P) all =
    λ P weaker. each_weaker (AllByRecursion (Light (suc others))) (AllByRecursion P) all
    (λ es. each_weaker (Light (suc others)) P es weaker) light in
    record {
      version = (omega arith, omega arith);
      cpus = (omega arith, omega arith);
      callers = (omega arith, omega arith);
      ranges = each (InRange 1 (suc others)) (λ e l. l.range);
      forked = λ c. subst (λ n. times_forked all c ≡ (if nat_lt 0 c && nat_lt c n then 1 else 0)) (sym long)
          (forked_once start others count c);
      above = above_from events 0 (suc others) (events_above start (suc others) count);
      acts = each_weaker (AllByRecursion (λ e. (w : ℕ) → acts_after w e ≤ w)) (FewActs 0) all
          (λ es acts. few_acts 0 es (omega arith) acts) (each (λ e. (w : ℕ) → acts_after w e ≤ w) (λ e l. l.acts));
      events = total;
      reads = (let few = few_reads_in all (each (λ e. bytes_read e ≤ 100) (λ e l. l.read)) in omega arith);
      text = text_len (load_script start (suc others) count) (omega arith) (omega arith) (omega arith) total
          (each (λ e. IsShort (event_fields e)) (λ e l. l.short));
    }

pub load_well_formed : (start callers count : ℕ) → 1 ≤ callers → callers ≤ 64 → count ≤ 1000 →
    WellFormed (load_script start callers count)
load_well_formed start zero count some few small = absurd (omega arith)
load_well_formed start (suc others) count some few small = load_of start others count (omega arith) small
