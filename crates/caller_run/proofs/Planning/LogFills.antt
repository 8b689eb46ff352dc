-- How an event of each kind changes a caller's lines, the memory left for more lines, and the waiting acts (`Fills`).
use Rattle.std.proofs.Common.{◌≡◌, ℕ, nat_cmp, false, Ok, ◌+◌, ◌*◌, ◌<◌, ◌≤◌, List, [], ◌∷◌, ◌++◌, length, take, drop, refl, sym, ap, ◌∙◌, subst, arith, length-append}
use Rattle.std.specs.List.{AllByRecursion}
use Rattle.std.specs.Ordering.{ord_max}
use Rattle.std.proofs.Math.Seq.{take-append_seam}
use Rattle.std.proofs.lemmas.Bool.Decides.{nat_tests}
use Rattle.std.proofs.lemmas.List.{map-append}
use Rattle.key_names.specs.declared.events.Event.{Event}
use Rattle.key_names.specs.declared.events.Event.TheVariants.{Inside, Vread}
use Rattle.key_names.specs.declared.events.InsideAct.{InsideAct}
use Rattle.key_names.specs.declared.events.InsideAct.TheVariants.{Wipe, Vread as ReadAct, Reseed}
use Rattle.key_names.specs.declared.point.Point.{Point}
use Rattle.key_names.specs.Texts.ScriptGrammar.{ActInRange, acts_after}
use Rattle.key_names.specs.Transcripts.SeenLine.{SeenLine}
use Rattle.key_names.proofs.Lists.Each.{each_more}
use Rattle.rng_core.specs.declared.vdso.acts.Bound.{Bound}
use Rattle.rng_core.specs.Acts.{Ask, wants, all_wanted, ask_of, asks_of}
use Rattle.rng_core.specs.InsideMakes.{IsWaitingAct}
use Rattle.caller_run.specs.Kinds.{IsCall}
use Rattle.caller_run.specs.Says.{most_shown}
use Rattle.transcript_text.specs.Gathered.{Gathered}
use Rattle.caller_run.specs.Standing.{read_inside}
use Rattle.caller_run.proofs.Orders.EmittedAnew.{AreEmitted, emitted_more}

-- if n items of a list were lent out and n items came back, the list has the items that came back
pub put_back : {A : Type 0} (back items : List A) (n : ℕ) → length back ≡ n
    → take n (back ++ drop (length back) items) ≡ back
put_back back items n long =
    ap (λ (k : ℕ). take k (back ++ drop (length back) items)) (sym long)
    ∙ take-append_seam back (drop (length back) items)

-- if n is at most `most`, n is at most the larger of `most` and `more`
pub above : (n most more max : ℕ) → max ≡ ord_max nat_cmp most more → n ≤ most → n ≤ max
above n most more max is le = grind (arith, nat_tests)

pub above_more : (most more max n : ℕ) → max ≡ ord_max nat_cmp most more → more ≡ n → n ≤ max
above_more most more max n is at = grind (arith, nat_tests)

-- how `event` changes the lines from `before` to `after`, and the waiting acts from `acts` to `left`
pub record Fills (event : Event) (before after : Gathered) (acts left : List Bound) : Type 0 where
  pub lines : length after.lines ≡ length before.lines + 1
  pub line_room : after.line_room + 1 ≡ before.line_room
  pub step_room : before.step_room + 20 * length left ≤ after.step_room + 20 * (length acts + 1)
  pub byte_room : before.byte_room + all_wanted (asks_of left) ≤ after.byte_room +
      (most_shown event + all_wanted (asks_of acts))
  pub wanted : all_wanted (asks_of left) ≤ read_inside event + all_wanted (asks_of acts)
  pub many : length left ≡ acts_after (length acts) event
  pub fresh : AllByRecursion IsWaitingAct left
  pub recorded : AreEmitted (length after.lines) (asks_of left)

-- an act shows at most the bytes that it reads
shown_inside : (point : Point) (act : InsideAct) → most_shown (Inside point act) ≡ wants act
shown_inside point Wipe = refl
shown_inside point (ReadAct len) = refl
shown_inside point Reseed = refl

wanted_more : (asks : List Ask) (a : Ask) → all_wanted (asks ++ a ∷ []) ≡ all_wanted asks + wants a.act
wanted_more [] a = omega arith
wanted_more (b ∷ asks) a = let rest = wanted_more asks a in omega arith

waits_same : (n : ℕ) (event : Event) → IsCall event → acts_after n event ≡ n
waits_same n (Vread len flags) is = absurd is
waits_same n (Inside point act) is = absurd is
waits_same n event is = refl

-- an act that waits for a vread, and is not done yet; `event` is the number of the act's event
abbrev pub new_bound : Point → InsideAct → ℕ → Bound
new_bound point act event = record { point = point; act = act; event = event; done = false; answer = Ok tt; trace = [] }

short : (act : InsideAct) → ActInRange act → wants act ≤ 1048576
short Wipe range = omega arith
short (ReadAct len) range = range
short Reseed range = omega arith

-- acts that are not done yet want to read at most 2^20 bytes each
pub wanted_few : (bounds : List Bound) → AllByRecursion IsWaitingAct bounds →
    all_wanted (asks_of bounds) ≤ 1048576 * length bounds
wanted_few [] all = omega arith
wanted_few (b ∷ bounds) all = let rest = wanted_few bounds all.1 in let here = all.0.short in omega arith

module _ (before after : Gathered) (line : SeenLine) (lines : after.lines ≡ before.lines ++ line ∷ [])
    (line_room : after.line_room + 1 ≡ before.line_room) where
  one_line : length after.lines ≡ length before.lines + 1
  one_line = ap length lines ∙ length-append before.lines (line ∷ [])

  -- `Fills` holds for a call of the core: the call adds its line, and the same acts wait
  pub fills_call : {event : Event} {acts : List Bound} → IsCall event → before.step_room ≤ after.step_room + 20 →
      before.byte_room ≤ after.byte_room + most_shown event →
      AllByRecursion IsWaitingAct acts → AreEmitted (length before.lines) (asks_of acts) → Fills event before after acts acts
  fills_call {event = event} {acts = acts} is steps bytes fresh recorded = record {
    lines = one_line;
    line_room = line_room;
    step_room = omega arith;
    byte_room = omega arith;
    wanted = omega arith;
    many = sym (waits_same (length acts) event is);
    fresh = fresh;
    recorded = subst (λ (ls : List SeenLine). AreEmitted (length ls) (asks_of acts)) (sym lines)
        (emitted_more before.lines line (asks_of acts) recorded);
  }

  -- `Fills` holds for an act that waits: the act adds its line, and is the last of the waiting acts
  pub fills_act : (point : Point) (act : InsideAct) (event : ℕ) (acts : List Bound) →
      before.step_room ≤ after.step_room → before.byte_room ≤ after.byte_room → ActInRange act →
      event ≡ length before.lines → AllByRecursion IsWaitingAct acts → AreEmitted (length before.lines) (asks_of acts) →
      Fills (Inside point act) before after acts (acts ++ new_bound point act event ∷ [])
  fills_act point act event acts steps bytes range at fresh recorded =
      let b = new_bound point act event in
      let asks : asks_of (acts ++ b ∷ []) ≡ asks_of acts ++ ask_of b ∷ [] = map-append ask_of acts (b ∷ []) in
      let more : all_wanted (asks_of (acts ++ b ∷ [])) ≡ all_wanted (asks_of acts) + wants act =
      ap all_wanted asks ∙ wanted_more (asks_of acts) (ask_of b) in
      let shown = shown_inside point act in
      record {
        lines = one_line;
        line_room = line_room;
        step_room = omega (arith, length-append acts (b ∷ []));
        byte_room = omega arith;
        wanted = omega arith;
        many = length-append acts (b ∷ []);
        fresh = each_more IsWaitingAct acts b fresh (record { short = short act range; idle = refl; empty = refl });
        recorded = subst (λ (ls : List SeenLine). AreEmitted (length ls) (asks_of (acts ++ b ∷ []))) (sym lines)
            (subst (AreEmitted (length (before.lines ++ line ∷ []))) (sym asks)
            (each_more (λ (a : Ask). a.event < length (before.lines ++ line ∷ [])) (asks_of acts) (ask_of b)
            (emitted_more before.lines line (asks_of acts) recorded) (omega (arith, length-append before.lines (line ∷ [])))));
      }

-- `Fills` holds for a vread: the vread adds its line, and no act waits any more
pub fills_read : {before after : Gathered} {n flags : ℕ} {acts left : List Bound} →
    length after.lines ≡ length before.lines + 1 →
    after.line_room + 1 ≡ before.line_room → before.step_room ≤ after.step_room + 20 * (length acts + 1) →
    before.byte_room ≤ after.byte_room + (n + all_wanted (asks_of acts)) →
    left ≡ [] →
    Fills (Vread n flags) before after acts left
fills_read {after = after} {left = left} lines line_room steps bytes none =
    let wanted : all_wanted (asks_of left) ≡ 0 = ap (λ (l : List Bound). all_wanted (asks_of l)) none in
    record {
      lines = lines;
      line_room = line_room;
      step_room = omega (arith, ap length none);
      byte_room = omega arith;
      wanted = omega arith;
      many = ap length none;
      fresh = subst (AllByRecursion IsWaitingAct) (sym none) tt;
      recorded = subst (λ (l : List Bound). AreEmitted (length after.lines) (asks_of l)) (sym none) tt;
    }
