-- Stamps rise along the steps of a single event. So if the event's line visits one CPU twice, its second visit has the
-- higher place.
use Rattle.std.proofs.Common.{◌≡◌, ◌≢◌, ℕ, zero, suc, ◌<◌, inl, inr, Bool, true, false, List, [], ◌∷◌, ◌++◌, length, refl, sym, ap, ◌∙◌, subst, arith, Some, Option}
use Rattle.std.specs.Prelude.{⊤, if◌then◌else◌, unwrap_or}
use Rattle.std.specs.List.{AllByRecursion}
use Rattle.std.proofs.lemmas.Bool.{eq-eqb}
use Rattle.key_names.specs.declared.names.LaneId.{LaneId}
use Rattle.key_names.specs.declared.names.LaneId.TheVariants.{Cpu as CpuLane}
use Rattle.key_names.specs.declared.names.Mark.{Mark}
use Rattle.key_names.specs.declared.names.Who.{Who}
use Rattle.key_names.specs.declared.names.Step.{Step}
use Rattle.key_names.specs.declared.names.Step.TheVariants.{Look, Visit as Marked}
use Rattle.key_names.specs.Lanes.Book.{Book, Lists, lists_of, list_at}
use Rattle.key_names.specs.Callers.Calls.{Call, alone, vread_call, unbound, ending}
use Rattle.key_names.specs.Callers.CallerOrders.{start_of}
use Rattle.key_names.specs.Callers.Effects.{Effect, CpuVisit, at_cpu, effect_of, effects_of}
use Rattle.key_names.specs.Callers.History.{stamps_of, call_steps, calls_steps, caller_orders}
use Rattle.key_names.specs.Texts.ScriptGrammar.{Script}
use Rattle.key_names.specs.Transcripts.SeenLine.{SeenLine}
use Rattle.key_names.specs.Transcripts.IsTranscript.{MarkBy, Rises, MarksConform, PlacesConform, VisitsAre, is_same_lane, lane_marks, all_marks}
use Rattle.key_names.specs.Transcripts.IsTranscript.{stamped_at, script_calls}
use Rattle.key_names.proofs.History.CallerOrders.{order_is_start_and_own}
use Rattle.key_names.proofs.History.SortedVisits.{IsIn}
use Rattle.key_names.proofs.Transcripts.TranscriptBooks.{lt_or_le}
use Rattle.key_names.proofs.Samples.EffectPlaces.{CpuStep, cpu_step}
use Rattle.key_names.proofs.Samples.Lines.{each_in, Among, MarkOf, mark_of}
use Rattle.key_names.proofs.Samples.LineVisits.{stamp_at}

-- ---- parts of a list of steps whose stamps rise

stamps_append : (xs ys : List Step) → stamps_of (xs ++ ys) ≡ stamps_of xs ++ stamps_of ys
stamps_append [] ys = refl
stamps_append (Look g ∷ xs) ys = stamps_append xs ys
stamps_append (Marked m ∷ xs) ys = ap (λ rest. m.stamp ∷ rest) (stamps_append xs ys)

rises_front : (xs ys : List ℕ) → Rises (xs ++ ys) → Rises xs
rises_front [] ys h = tt
rises_front (a ∷ []) ys h = tt
rises_front (a ∷ b ∷ xs) ys h = (h.0, rises_front (b ∷ xs) ys h.1)

rises_back : (xs ys : List ℕ) → Rises (xs ++ ys) → Rises ys
rises_back [] ys h = h
rises_back (a ∷ []) [] h = tt
rises_back (a ∷ []) (y ∷ ys) h = h.1
rises_back (a ∷ b ∷ xs) ys h = rises_back (b ∷ xs) ys h.1

abbrev Rising : List Step → Type 0
Rising steps = Rises (stamps_of steps)

front_rises : (xs ys : List Step) → Rising (xs ++ ys) → Rising xs
front_rises xs ys h = rises_front (stamps_of xs) (stamps_of ys) (subst Rises (stamps_append xs ys) h)

back_rises : (xs ys : List Step) → Rising (xs ++ ys) → Rising ys
back_rises xs ys h = rises_back (stamps_of xs) (stamps_of ys) (subst Rises (stamps_append xs ys) h)

-- ---- stamps rise along the line of a single event

-- if the call is a single event, the stamps rise along the event's line
abbrev pub LineRises : Call → Type 0
LineRises (alone event line) = Rises (stamps_of line.steps)
LineRises (vread_call n flags line acts) = ⊤
LineRises (unbound bound) = ⊤
LineRises (ending line) = ⊤

call_rises : (call : Call) → Rising (call_steps call) → LineRises call
call_rises (alone event line) h = h
call_rises (vread_call n flags line acts) h = tt
call_rises (unbound bound) h = tt
call_rises (ending line) h = tt

calls_rise : (calls : List Call) → Rising (calls_steps calls) → AllByRecursion LineRises calls
calls_rise [] h = tt
calls_rise (call ∷ calls) h = (
  call_rises call (front_rises (call_steps call) (calls_steps calls) h),
  calls_rise calls (back_rises (call_steps call) (calls_steps calls) h),
)

each_at : (P : List Step → Type 0) (xss : List (List Step)) → P [] → AllByRecursion P xss → (c : ℕ) →
    P (list_at xss c)
each_at P [] none all c = none
each_at P (xs ∷ xss) none all zero = all.0
each_at P (xs ∷ xss) none all (suc c) = each_at P xss none all.1 c

pub lines_rise : (script : Script) (t : List (List SeenLine)) → MarksConform script t → (c : ℕ) →
    c < length (script_calls script t) → AllByRecursion LineRises (list_at (script_calls script t) c)
lines_rise script t marks c lt =
    let callers = script_calls script t in
    let order = each_at Rising (caller_orders callers) tt marks.callers c in
    calls_rise (list_at callers c)
    (back_rises (start_of callers c) (calls_steps (list_at callers c))
    (subst Rising (order_is_start_and_own callers c lt) order))

-- ---- two visits of one CPU in one line

in_lane : (lane : LaneId) (by : MarkBy) (marks : List MarkBy) → is_same_lane by.mark.lane lane ≡ true →
    IsIn by marks → IsIn by.mark (lane_marks lane marks)
in_lane lane by [] same here = absurd here
in_lane lane by (m ∷ marks) same (inl is) =
    let mine : is_same_lane m.mark.lane lane ≡ true = ap (λ (x : MarkBy). is_same_lane x.mark.lane lane) is ∙ same in
    let P : Bool → Type 0 = λ b.
    IsIn by.mark (if b then m.mark ∷ lane_marks lane marks else lane_marks lane marks) in
    subst P (sym mine) (inl (ap (λ (x : MarkBy). x.mark) is))
in_lane lane by (m ∷ marks) same (inr rest) =
    go (is_same_lane m.mark.lane lane) (in_lane lane by marks same rest)
  where
    go : (b : Bool) → IsIn by.mark (lane_marks lane marks) →
        IsIn by.mark (if b then m.mark ∷ lane_marks lane marks else lane_marks lane marks)
    go true later = inr later
    go false later = later

in_order : (a b : ℕ) → (a ≡ b → ⊥) → (b < a → ⊥) → a < b
in_order a b ne above = elim (lt_or_le a b) [
  | inl lt ↦ lt
  | inr le ↦ (let other : a ≢ b = ne in absurd (above (omega arith)))
]

module _ (t : List (List SeenLine)) (book : Book) (visits : VisitsAre book (all_marks t))
    (places : (lane : LaneId) → PlacesConform (lane_marks lane (all_marks t))) where
  abbrev lists : Lists
  lists = lists_of book

  -- some mark of CPU `c` has the place `place` and the stamp `stamp`
  record MarkAt (c place stamp : ℕ) : Type 0 where
    mark : Mark
    who : Who
    at : stamped_at book (CpuLane c) place ≡ Some (mark.stamp, who)
    there : IsIn mark (lane_marks (CpuLane c) (all_marks t))
    place_is : mark.place ≡ place
    stamp_is : mark.stamp ≡ stamp

  mark_at : (line : SeenLine) (step : Step) (s : CpuVisit) (k : CpuStep lists step s) → Among line t →
      IsIn step line.steps → MarkAt s.cpu s.place k.mark.stamp
  mark_at line step s k among here =
      let m : MarkOf t line k.mark =
      mark_of t line k.mark among (subst (λ (x : Step). IsIn x line.steps) k.is here) in
      let lane : m.by.mark.lane ≡ CpuLane s.cpu = ap (λ (x : Mark). x.lane) m.mark_is ∙ k.at.lane_is in
      record {
        mark = m.by.mark;
        who = m.by.who;
        at = stamp_at t book visits (CpuLane s.cpu) s.place line k.mark m k.at.lane_is k.at.place_is;
        there = in_lane (CpuLane s.cpu) m.by (all_marks t)
            (ap (λ (x : LaneId). is_same_lane x (CpuLane s.cpu)) lane ∙ eq-eqb s.cpu s.cpu refl) m.there;
        place_is = ap (λ (x : Mark). x.place) m.mark_is ∙ k.at.place_is;
        stamp_is = ap (λ (x : Mark). x.stamp) m.mark_is;
      }

  -- if two marks of CPU `c` have places `p` and `q` and stamps `a` < `b`, then `p` < `q`
  marks_in_order : (c p q a b : ℕ) → MarkAt c p a → MarkAt c q b → a < b → p < q
  marks_in_order c p q a b m n lt = in_order p q ne above
    where
      Above : Mark → Mark → Type 0
      Above x y = x.place < y.place → x.stamp < y.stamp

      ne : p ≡ q → ⊥
      ne same =
          let both : ◌≡◌ {A = Option (ℕ × Who)} (Some (m.mark.stamp, m.who)) (Some (n.mark.stamp, n.who)) =
          sym m.at ∙ ap (λ i. stamped_at book (CpuLane c) i) same ∙ n.at in
          let stamps : m.mark.stamp ≡ n.mark.stamp = ap (λ o. (unwrap_or {T = ℕ × Who} o (0, m.who)).0) both in
          let x = m.stamp_is in let y = n.stamp_is in omega arith

      above : q < p → ⊥
      above less =
          let all : AllByRecursion (Above n.mark) (lane_marks (CpuLane c) (all_marks t)) =
          each_in (λ x. AllByRecursion (Above x) (lane_marks (CpuLane c) (all_marks t))) n.mark
          (lane_marks (CpuLane c) (all_marks t)) (places (CpuLane c)).rise n.there in
          let rise : Above n.mark m.mark =
          each_in (Above n.mark) m.mark (lane_marks (CpuLane c) (all_marks t)) all m.there in
          let x = m.stamp_is in let y = n.stamp_is in let v = m.place_is in let w = n.place_is in
          let gt : n.mark.stamp < m.mark.stamp = rise (omega arith) in omega arith

  steps_in_order : (line : SeenLine) (steps : List Step) → line.steps ≡ steps → Among line t →
      Rises (stamps_of steps) → (s d : CpuVisit) (ds : List Effect) → effects_of lists steps ≡ at_cpu s ∷ at_cpu d ∷ ds →
      d.cpu ≡ s.cpu → s.place < d.place
  steps_in_order line [] same among rises s d ds is on = absurd (cc is)
  steps_in_order line (x ∷ []) same among rises s d ds is on = absurd (cc is)
  steps_in_order line (x ∷ y ∷ steps) same among rises s d ds is on =
      let first : effect_of lists x ≡ at_cpu s = cc in
      let second : effect_of lists y ≡ at_cpu d = cc in
      let k : CpuStep lists x s = cpu_step lists x s first in
      let l : CpuStep lists y d = cpu_step lists y d second in
      let P : Step → Type 0 = λ z. Rises (stamps_of (z ∷ y ∷ steps)) in
      let Q : Step → Type 0 = λ z. Rises (stamps_of (Marked k.mark ∷ z ∷ steps)) in
      let lt : k.mark.stamp < l.mark.stamp = (subst Q l.is (subst P k.is rises)).0 in
      let In : List Step → Type 0 = λ zs. IsIn x zs in
      let In' : List Step → Type 0 = λ zs. IsIn y zs in
      let m : MarkAt s.cpu s.place k.mark.stamp = mark_at line x s k among (subst In (sym same) (inl refl)) in
      let n : MarkAt d.cpu d.place l.mark.stamp = mark_at line y d l among (subst In' (sym same) (inr (inl refl))) in
      let R : ℕ → Type 0 = λ c. MarkAt c d.place l.mark.stamp in
      marks_in_order s.cpu s.place d.place k.mark.stamp l.mark.stamp m (subst R on n) lt

  -- if a line has the sample `s` and then the dump `d` on the same CPU, `d` has the higher place
  pub after : (line : SeenLine) → Among line t → Rises (stamps_of line.steps) → (s d : CpuVisit) (ds : List Effect) →
      effects_of lists line.steps ≡ at_cpu s ∷ at_cpu d ∷ ds → d.cpu ≡ s.cpu → s.place < d.place
  after line among rises s d ds is on = steps_in_order line line.steps refl among rises s d ds is on
