-- The steps of a caller's calls, in the order in which they happen, are the steps of its lines.
use Rattle.std.proofs.Common.{◌≡◌, ℕ, ◌+◌, List, [], ◌∷◌, ◌++◌, map, ap, ◌∙◌, subst, arith, append-nil}
use Rattle.std.specs.List.{AllByRecursion, sum_by}
use Rattle.std.proofs.lemmas.List.{map-append}
use Rattle.std.proofs.lemmas.List.Sums.{sum_by-append}
use Rattle.std.proofs.lemmas.Grind.{flat_map-append}
use Rattle.key_names.specs.declared.events.Event.{Event}
use Rattle.key_names.specs.Callers.Calls.{Call, alone, vread_call, unbound, BoundAct, calls_of}
use Rattle.caller_run.specs.Items.{Item, line_items, call_items, calls_items}
use Rattle.key_names.specs.Transcripts.SeenLine.{SeenLine}
use Rattle.key_names.specs.Transcripts.IsTranscript.{LinesFit}
use Rattle.key_names.proofs.Lists.Each.{each_append, each_left, each_right}
use Rattle.caller_run.specs.Done.{lines_in_order}
use Rattle.caller_run.proofs.Orders.CallLists.{Kept, Keeps, kept}
use Rattle.caller_run.proofs.Orders.CallSteps.{lines_items, act_line, vread_weight, call_each}

-- one more waiting act adds the items of the act's own line
waiting_more : (waiting : List BoundAct) (bound : BoundAct) → lines_items (map act_line (waiting ++ bound ∷ []))
    ≡ lines_items (map act_line waiting) ++ line_items bound.line
waiting_more waiting bound =
    ap lines_items (map-append act_line waiting (bound ∷ []))
    ∙ flat_map-append line_items (map act_line waiting) (bound.line ∷ [])
    ∙ ap (λ (l : List Item). lines_items (map act_line waiting) ++ l) (append-nil (line_items bound.line))

module _ (f : Item → ℕ) where
  abbrev weight : List Item → ℕ
  weight items = sum_by f items

  abbrev Weighs : Kept
  Weighs waiting events lines calls =
      weight (calls_items calls) ≡ weight (lines_items (map act_line waiting)) + weight (lines_items lines)

  -- suppose that `call` weighs n more than `line`, and that `calls` weigh m more than `lines`. Then `call` and `calls`
  -- together weigh n + m more than `line` and `lines`
  in_front_of : (call : Call) (line : SeenLine) (calls : List Call) (lines : List SeenLine) (n m : ℕ) →
      weight (call_items call) ≡ n + weight (line_items line) →
      weight (calls_items calls) ≡ m + weight (lines_items lines) →
      weight (calls_items (call ∷ calls)) ≡ (n + m) + weight (lines_items (line ∷ lines))
  in_front_of call line calls lines n m here rest =
      let a : weight (calls_items (call ∷ calls)) ≡ weight (call_items call) + weight (calls_items calls) =
      sum_by-append f (call_items call) (calls_items calls) in
      let b : weight (lines_items (line ∷ lines)) ≡ weight (line_items line) + weight (lines_items lines) =
      sum_by-append f (line_items line) (lines_items lines) in omega arith

  keeps_weight : (c : ℕ) → Keeps c Weighs
  keeps_weight c = record {
    ends = λ n line is. omega arith;
    does = λ waiting n event es line lines calls is rest.
        let a = in_front_of (alone event line) line calls lines 0 (weight (lines_items (map act_line waiting)))
        (omega arith) rest in omega arith;
    reads = λ waiting n len flags es line lines calls is rest.
        let a = in_front_of (vread_call len flags line waiting) line calls lines
        (weight (lines_items (map act_line waiting))) 0 (vread_weight f (line_items line) waiting) rest in
        omega arith;
    waits = λ waiting n bound es lines calls is rest.
        let a : weight (lines_items (map act_line (waiting ++ bound ∷ [])))
        ≡ weight (lines_items (map act_line waiting)) + weight (line_items bound.line) =
        ap weight (waiting_more waiting bound)
        ∙ sum_by-append f (lines_items (map act_line waiting)) (line_items bound.line) in
        let b : weight (lines_items (bound.line ∷ lines)) ≡ weight (line_items bound.line) + weight
        (lines_items lines) =
        sum_by-append f (line_items bound.line) (lines_items lines) in omega arith;
    idles = λ waiting n bound es lines calls is rest.
        let a = in_front_of (unbound bound) bound.line calls lines 0 (weight (lines_items (map act_line waiting)))
        (omega arith) rest in omega arith;
  }

  -- the steps of a caller's calls have the same total weight as the steps of its lines
  pub calls_weight : (c : ℕ) (events : List Event) (lines : List SeenLine) → LinesFit c 0 events lines →
      weight (calls_items (calls_of events lines)) ≡ weight (lines_items lines)
  calls_weight c events lines fit = let e = kept c Weighs (keeps_weight c) events lines fit in omega arith

module _ (P : Item → Type 0) where
  abbrev Each : List Item → Type 0
  Each items = AllByRecursion P items

  abbrev HoldsOfEach : Kept
  HoldsOfEach waiting events lines calls = Each (calls_items calls) →
      Each (lines_items (map act_line waiting)) × Each (lines_items lines)

  keeps_each : (c : ℕ) → Keeps c HoldsOfEach
  keeps_each c = record {
    ends = λ n line is all. (tt, all);
    does = λ waiting n event es line lines calls is rest all.
        let r = rest (each_right P (line_items line) (calls_items calls) all) in (
          r.0,
          each_append P (line_items line) (lines_items lines) (each_left P (line_items line) (calls_items calls) all)
              r.1,
        );
    reads = λ waiting n len flags es line lines calls is rest all.
        let call : Call = vread_call len flags line waiting in
        let r = rest (each_right P (call_items call) (calls_items calls) all) in
        let here : Each (lines_items (map act_line waiting) ++ (line_items line ++ [])) =
        subst Each (flat_map-append line_items (map act_line waiting) (line ∷ []))
        (call_each P call (each_left P (call_items call) (calls_items calls) all)) in (
          each_left P (lines_items (map act_line waiting)) (line_items line ++ []) here,
          each_append P (line_items line) (lines_items lines)
              (each_left P (line_items line) [] (each_right P (lines_items (map act_line waiting)) (line_items line ++ [])
              here))
              r.1,
        );
    waits = λ waiting n bound es lines calls is rest all.
        let r = rest all in
        let both : Each (lines_items (map act_line waiting) ++ line_items bound.line) =
        subst Each (waiting_more waiting bound) r.0 in (
          each_left P (lines_items (map act_line waiting)) (line_items bound.line) both,
          each_append P (line_items bound.line) (lines_items lines)
              (each_right P (lines_items (map act_line waiting)) (line_items bound.line) both) r.1,
        );
    idles = λ waiting n bound es lines calls is rest all.
        let r = rest (each_right P (line_items bound.line) (calls_items calls) all) in (
          r.0,
          each_append P (line_items bound.line) (lines_items lines)
              (each_left P (line_items bound.line) (calls_items calls) all) r.1,
        );
  }

  -- if a fact holds for each step of the calls, it holds for each step of the lines
  pub calls_each : (c : ℕ) (events : List Event) (lines : List SeenLine) → LinesFit c 0 events lines →
      Each (calls_items (calls_of events lines)) → Each (lines_items lines)
  calls_each c events lines fit all = (kept c HoldsOfEach (keeps_each c) events lines fit all).1

module _ (Q : SeenLine → Type 0) where
  abbrev EachSeen : List SeenLine → Type 0
  EachSeen lines = AllByRecursion Q lines

  abbrev HoldsOfLines : Kept
  HoldsOfLines waiting events lines calls = AllByRecursion (λ call. EachSeen (lines_in_order call)) calls →
      EachSeen (map act_line waiting) × EachSeen lines

  keeps_lines : (c : ℕ) → Keeps c HoldsOfLines
  keeps_lines c = record {
    ends = λ n line is all. (tt, all.0);
    does = λ waiting n event es line lines calls is rest all. let r = rest all.1 in (r.0, (all.0.0, r.1));
    reads = λ waiting n len flags es line lines calls is rest all.
        let r = rest all.1 in (
          each_left Q (map act_line waiting) (line ∷ []) all.0,
          ((each_right Q (map act_line waiting) (line ∷ []) all.0).0, r.1),
        );
    waits = λ waiting n bound es lines calls is rest all.
        let r = rest all in
        let both : EachSeen (map act_line waiting ++ bound.line ∷ []) =
        subst EachSeen (map-append act_line waiting (bound ∷ [])) r.0 in (
          each_left Q (map act_line waiting) (bound.line ∷ []) both,
          ((each_right Q (map act_line waiting) (bound.line ∷ []) both).0, r.1),
        );
    idles = λ waiting n bound es lines calls is rest all. let r = rest all.1 in (r.0, (all.0.0, r.1));
  }

  -- if a fact holds for each line of the calls, it holds for each of the caller's lines
  pub calls_lines : (c : ℕ) (events : List Event) (lines : List SeenLine) → LinesFit c 0 events lines →
      AllByRecursion (λ call. EachSeen (lines_in_order call)) (calls_of events lines) → EachSeen lines
  calls_lines c events lines fit all = (kept c HoldsOfLines (keeps_lines c) events lines fit all).1
