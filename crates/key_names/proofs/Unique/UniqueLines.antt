-- The calls of a transcript have exactly the transcript's lines. So a fact holds for the lines of all calls if and only
-- if it holds for all lines.
use Rattle.std.proofs.Common.{◌≡◌, ℕ, suc, Bool, true, false, List, [], ◌∷◌, ◌++◌, ◌⊎◌, inl, inr, refl, sym, subst, ap}
use Rattle.std.proofs.Common.{◌∙◌, Some}
use Rattle.std.specs.Prelude.{map, if◌then◌else◌}
use Rattle.std.specs.List.{AllByRecursion, range_with_len, flat_map}
use Rattle.key_names.specs.declared.events.Event.{Event}
use Rattle.key_names.specs.declared.events.Event.TheVariants.{Vread, Inside}
use Rattle.key_names.specs.Lanes.Book.{Book, lists_of, LawfulLanes}
use Rattle.key_names.specs.Lanes.Samples.{LawfulSamples}
use Rattle.key_names.specs.Callers.Calls.{Setting, Call, alone, unbound, BoundAct, has_vread, calls_from, calls_of, all_calls}
use Rattle.key_names.specs.Transcripts.SeenLine.{SeenLine}
use Rattle.key_names.specs.Callers.Meaning.{CallMeaning, caller_start}
use Rattle.key_names.specs.Transcripts.IsTranscript.{LinesFit, EachCaller, CallerMeans, MarkBy, line_marks, all_marks, stamped_at}
use Rattle.key_names.specs.Transcripts.IsTranscript.{state_lists}
use Rattle.key_names.proofs.Lists.Each.{each_append, each_parts}
use Rattle.key_names.proofs.Unique.UniqueCallers.{caller_itself}
use Rattle.key_names.proofs.Unique.UniqueMeanings.{OfCall, LineSame, LineInferred}
use Rattle.key_names.proofs.Unique.UniqueRuns.{calls_alike}
use Rattle.key_names.proofs.Unique.UniqueMarks.{same_steps}

module _ (P Q : SeenLine → Type 0) where
  abbrev Waiting : (SeenLine → Type 0) → List BoundAct → Type 0
  Waiting R waiting = AllByRecursion (λ bound. R bound.line) waiting

  -- the calls have exactly these waiting acts and lines. If P holds for the waiting acts and the lines, P holds for the
  -- lines of the calls. If Q holds for the lines of the calls, Q holds for the waiting acts and the lines
  pub record Covers (waiting : List BoundAct) (lines : List SeenLine) (calls : List Call) : Type 0 where
    pub to_calls : Waiting P waiting → AllByRecursion P lines → AllByRecursion (OfCall P) calls
    pub to_lines : AllByRecursion (OfCall Q) calls → Waiting Q waiting × AllByRecursion Q lines

  next : (event : Event) (line : SeenLine) (waiting : List BoundAct) (lines : List SeenLine) (calls : List Call) →
      Covers waiting lines calls → Covers waiting (line ∷ lines) (alone event line ∷ calls)
  next event line waiting lines calls rest = record {
    to_calls = λ w p. (p.0, rest.to_calls w p.1);
    to_lines = λ q. (let r = rest.to_lines q.1 in (r.0, (q.0, r.1)));
  }

  inside : (b : Bool) (bound : BoundAct) (waiting : List BoundAct) (lines : List SeenLine)
      (bound_calls calls : List Call) →
      (b ≡ true → Covers (waiting ++ bound ∷ []) lines bound_calls) → (b ≡ false → Covers waiting lines calls) →
      Covers waiting (bound.line ∷ lines) (if b then bound_calls else unbound bound ∷ calls)
  inside true bound waiting lines bound_calls calls f g = record {
    to_calls = λ w p. (f refl).to_calls (each_append (λ bound. P bound.line) waiting (bound ∷ []) w (p.0, tt)) p.1;
    to_lines = λ q. (let r = (f refl).to_lines q in
        let parts = each_parts (λ bound. Q bound.line) waiting (bound ∷ []) r.0 in (parts.0, (parts.1.0, r.1)));
  }
  inside false bound waiting lines bound_calls calls f g = record {
    to_calls = λ w p. (p.0, (g refl).to_calls w p.1);
    to_lines = λ q. (let r = (g refl).to_lines q.1 in (r.0, (q.0, r.1)));
  }

  none_waits : (waiting : List BoundAct) → (waiting ≡ []) ⊎ (false ≡ true) → waiting ≡ []
  none_waits waiting (inl none) = none
  none_waits waiting (inr never) = cc

  covers : (c n : ℕ) (waiting : List BoundAct) (events : List Event) (lines : List SeenLine) →
      LinesFit c n events lines →
      (waiting ≡ []) ⊎ (has_vread events ≡ true) → Covers waiting lines (calls_from waiting events lines)
  covers c n waiting [] [] fit pending = absurd fit
  covers c n waiting [] (line ∷ []) fit pending = record {
    to_calls = λ w p. (p.0, tt);
    to_lines = λ q. (let W : List BoundAct → Type 0 = λ x. Waiting Q x in
        (subst W (sym (none_waits waiting pending)) tt, (q.0, tt)));
  }
  covers c n waiting [] (line ∷ more ∷ lines) fit pending = absurd fit
  covers c n waiting (event ∷ events) [] fit pending = absurd fit
  covers c n waiting (Vread len flags ∷ events) (line ∷ lines) fit pending =
      let rest = covers c (suc n) [] events lines fit.1 (inl refl) in
      record {
        to_calls = λ w p. ((p.0, w), rest.to_calls tt p.1);
        to_lines = λ q. (q.0.1, (q.0.0, (rest.to_lines q.1).1));
      }
  covers c n waiting (Inside point act ∷ events) (line ∷ lines) fit pending =
      let bound : BoundAct = record { point = point; act = act; line = line } in
      inside (has_vread events) bound waiting lines (calls_from (waiting ++ bound ∷ []) events lines)
      (calls_from waiting events lines)
      (λ is. covers c (suc n) (waiting ++ bound ∷ []) events lines fit.1 (inr is))
      (λ is. covers c (suc n) waiting events lines fit.1 pending)
  covers c n waiting (event ∷ events) (line ∷ lines) fit pending =
      next event line waiting lines (calls_from waiting events lines)
      (covers c (suc n) waiting events lines fit.1 pending)

  pub calls_cover : (c : ℕ) (events : List Event) (lines : List SeenLine) → LinesFit c 0 events lines →
      Covers [] lines (calls_of events lines)
  calls_cover c events lines fit = covers c 0 [] events lines fit (inl refl)

module _ (book book' : Book) (lawful : LawfulLanes (lists_of book)) (lawful' : LawfulLanes (lists_of book'))
    (samples : LawfulSamples book) (samples' : LawfulSamples book') where
  abbrev Same : SeenLine → Type 0
  Same = LineSame book book' samples samples'

  abbrev pub Inferred : SeenLine → Type 0
  Inferred = LineInferred book book' samples samples'

  -- the visit at the place of a mark has the mark's stamp and maker
  abbrev pub Conforms : Book → MarkBy → Type 0
  Conforms b m = stamped_at b m.mark.lane m.mark.place ≡ Some (m.mark.stamp, m.who)

  lines_same : (lines : List SeenLine) → AllByRecursion (Conforms book) (flat_map line_marks lines) →
      AllByRecursion (Conforms book') (flat_map line_marks lines) → AllByRecursion Same lines
  lines_same [] conform conform' = tt
  lines_same (line ∷ lines) conform conform' =
      let p = each_parts (Conforms book) (line_marks line) (flat_map line_marks lines) conform in
      let p' = each_parts (Conforms book') (line_marks line) (flat_map line_marks lines) conform' in
      (same_steps book book' lawful lawful' line.caller line.event 0 line.steps p.0 p'.0, lines_same lines p.1 p'.1)

  -- if the marks of all lines are visits of both books, then SameSteps holds for the effects of each line
  pub all_same : (t : List (List SeenLine)) → AllByRecursion (Conforms book) (all_marks t) →
      AllByRecursion (Conforms book') (all_marks t) → AllByRecursion (λ lines. AllByRecursion Same lines) t
  all_same [] conform conform' = tt
  all_same (lines ∷ t) conform conform' =
      let p = each_parts (Conforms book) (flat_map line_marks lines) (all_marks t) conform in
      let p' = each_parts (Conforms book') (flat_map line_marks lines) (all_marks t) conform' in
      (lines_same lines p.0 p'.0, all_same t p.1 p'.1)

  -- the calls of all callers are alike in both books
  pub record AllAlike (t : List (List SeenLine)) (mss mss' : List (List CallMeaning)) : Type 0 where
    pub inferred : AllByRecursion (λ lines. AllByRecursion Inferred lines) t
    pub states : map state_lists mss ≡ map state_lists mss'
    pub equal : lists_of book ≡ lists_of book' → mss ≡ mss'

  pub callers_alike : (settings : ℕ → Setting) (c : ℕ) (callers : List (List Event)) (t : List (List SeenLine))
      (mss mss' : List (List CallMeaning)) →
      EachCaller (λ c events lines. LinesFit c 0 events lines) c callers t →
      AllByRecursion (λ lines. AllByRecursion Same lines) t →
      EachCaller (λ c calls ms. CallerMeans (lists_of book) (settings c) calls ms) c (all_calls callers t) mss →
      EachCaller (λ c calls ms. CallerMeans (lists_of book') (settings c) calls ms) c (all_calls callers t) mss' →
      AllAlike t mss mss'
  callers_alike settings c [] [] [] [] fit same m m' = record { inferred = tt; states = refl; equal = λ h. refl }
  callers_alike settings c [] [] [] (ms' ∷ mss') fit same m m' = absurd m'
  callers_alike settings c [] [] (ms ∷ mss) mss' fit same m m' = absurd m
  callers_alike settings c [] (lines ∷ t) mss mss' fit same m m' = absurd fit
  callers_alike settings c (events ∷ callers) [] mss mss' fit same m m' = absurd fit
  callers_alike settings c (events ∷ callers) (lines ∷ t) [] mss' fit same m m' = absurd m
  callers_alike settings c (events ∷ callers) (lines ∷ t) (ms ∷ mss) [] fit same m m' = absurd m'
  callers_alike settings c (events ∷ callers) (lines ∷ t) (ms ∷ mss) (ms' ∷ mss') fit same m m' =
      let cover = calls_cover Same Inferred c events lines fit.0 in
      let start = caller_start (settings c) in
      let here = calls_alike book book' samples samples' start start (calls_of events lines) ms ms'
      (caller_itself (lists_of book ≡ lists_of book') start) (cover.to_calls tt same.0) m.0.effects m'.0.effects m.0.follows
      m'.0.follows in
      let rest = callers_alike settings (suc c) callers t mss mss' fit.1 same.1 m.1 m'.1 in
      let states : state_lists ms ≡ state_lists ms' = λ i. map (λ k. here.entries k i) (range_with_len 0 16) in
      record {
        inferred = ((cover.to_lines here.inferred).1, rest.inferred);
        states = ap (λ x. x ∷ map state_lists mss) states ∙ ap (λ xs. state_lists ms' ∷ xs) rest.states;
        equal = λ h. ap (λ x. x ∷ mss) (here.equal h) ∙ ap (λ xs. ms' ∷ xs) (rest.equal h);
      }
